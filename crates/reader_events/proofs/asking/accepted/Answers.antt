-- The dial was accepted.
use Rattle.std.proofs.Common.{refl}
use Rattle.client_events.proofs.MemberEvents.JoinFaults.{some_accepted}
use Rattle.reader_events.proofs.asking.accepted.Goals as goal

pub returns-in-Ok-Some-clause-accepts : goal.returns-in-Ok-Some-clause-accepts
returns-in-Ok-Some-clause-accepts g c = record {
  lower = c.in-Ok-Some.lower;
  is = refl;
  accepts = some_accepted g.R.Roads g.I.LinkIn g.O.LinkOut c.args.port c.args.roads.now c.accept.new.self c.in-Ok-Some.field-0 c.in-Ok-Some.lower c.in-Ok-Some.field-0-is
      c.in-Ok-Some.ensures.number c.in-Ok-Some.ensures.known c.in-Ok-Some.ensures.lower c.in-Ok-Some.ensures.fresh c.in-Ok-Some.ensures.observable c.in-Ok-Some.ensures.plain c.accept.ensures.carried;
}
