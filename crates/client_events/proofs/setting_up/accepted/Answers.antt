-- The dial was accepted, or wasn't.
use Rattle.std.proofs.Common.{inl, refl}
use Rattle.member_events.proofs.JoinFaults.{some_accepted, none_accepted}
use Rattle.client_events.proofs.SetUpPass.{first_known, pass_plain, pass_accepted, link_stays}
use Rattle.client_events.proofs.setting_up.accepted.Goals as goal

pub returns-in-Ok-Some-clause-accepts : goal.returns-in-Ok-Some-clause-accepts
returns-in-Ok-Some-clause-accepts g c = record {
  at_end = c.in-Ok-Some.end;
  is = refl;
  accepts = some_accepted g.R.Roads g.I.LinkIn g.O.LinkOut c.args.port c.args.roads.now c.accept.new.self c.in-Ok-Some.field-0 c.in-Ok-Some.end c.in-Ok-Some.field-0-is
      c.in-Ok-Some.ensures.number c.in-Ok-Some.ensures.known c.in-Ok-Some.ensures.lower c.in-Ok-Some.ensures.fresh c.in-Ok-Some.ensures.observable c.in-Ok-Some.ensures.plain c.accept.ensures.carried;
}

pub returns-in-Ok-None-clause-accepts : goal.returns-in-Ok-None-clause-accepts
returns-in-Ok-None-clause-accepts g c = inl (none_accepted g.R.Roads g.I.LinkIn g.O.LinkOut (g.R.Roads.plain c.args.roads.now) c.args.port c.in-Ok-None.field-0 c.in-Ok-None.field-0-is c.in-Ok-None.ensures.none)

pub returns-in-Ok-Some-clause-passes : goal.returns-in-Ok-Some-clause-passes
returns-in-Ok-Some-clause-passes g c = pass_accepted g.R.Roads g.I.LinkIn g.O.LinkOut c.args.port c.args.roads.now c.accept.new.self c.in-Ok-Some.field-0 c.in-Ok-Some.ensures.plain c.accept.ensures.cause.never_falls

pub returns-in-Ok-Some-clause-known : goal.returns-in-Ok-Some-clause-known
returns-in-Ok-Some-clause-known g c =
    let p = pass_accepted g.R.Roads g.I.LinkIn g.O.LinkOut c.args.port c.args.roads.now c.accept.new.self c.in-Ok-Some.field-0 c.in-Ok-Some.ensures.plain c.accept.ensures.cause.never_falls in
    (link_stays g.R.Roads g.I.LinkIn g.O.LinkOut c.args.setup.link c.args.roads.now c.accept.new.self p c.requires, p.knows c.in-Ok-Some.end.id.0 (first_known (g.R.Roads.plain c.args.roads.now) c.in-Ok-Some.field-0 c.in-Ok-Some.end c.in-Ok-Some.field-0-is c.in-Ok-Some.ensures.known))

pub returns-in-Ok-None-clause-passes : goal.returns-in-Ok-None-clause-passes
returns-in-Ok-None-clause-passes g c = pass_accepted g.R.Roads g.I.LinkIn g.O.LinkOut c.args.port c.args.roads.now c.accept.new.self c.in-Ok-None.field-0 c.in-Ok-None.ensures.plain c.accept.ensures.cause.never_falls

pub returns-in-Err-clause-passes : goal.returns-in-Err-clause-passes
returns-in-Err-clause-passes g c = pass_plain g.R.Roads g.I.LinkIn g.O.LinkOut c.args.roads.now c.accept.new.self c.in-Err.ensures.err c.accept.ensures.cause.never_falls
