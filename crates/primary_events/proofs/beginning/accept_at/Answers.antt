-- The dial was accepted, or wasn't.
use Rattle.std.proofs.Common.{inl}
use Rattle.client_events.proofs.MemberEvents.JoinFaults.{some_accepted, none_accepted}
use Rattle.client_events.proofs.SetUpPass.{first_known, pass_plain, pass_accepted}
use Rattle.primary_events.proofs.BeginPassLaws.{unaccepted}
use Rattle.primary_events.proofs.beginning.accept_at.Goals as goal

pub returns-in-Ok-Some-clause-accepts : goal.returns-in-Ok-Some-clause-accepts
returns-in-Ok-Some-clause-accepts g c =
    rw c.in-Some.is (some_accepted g.R.Roads g.R.Inward.LinkIn g.R.Outward.LinkOut c.in-Some.port c.args.roads.now c.accept.new.self c.in-Ok-Some.field-0 c.in-Ok-Some.lower c.in-Ok-Some.field-0-is
    c.in-Ok-Some.ensures.number c.in-Ok-Some.ensures.known c.in-Ok-Some.ensures.lower c.in-Ok-Some.ensures.fresh c.in-Ok-Some.ensures.observable c.in-Ok-Some.ensures.plain c.accept.ensures.carried)

pub returns-in-Ok-None-clause-accepts : goal.returns-in-Ok-None-clause-accepts
returns-in-Ok-None-clause-accepts g c = rw c.in-Some.is (inl (none_accepted g.R.Roads g.R.Inward.LinkIn g.R.Outward.LinkOut (g.R.Roads.plain c.args.roads.now) c.in-Some.port c.in-Ok-None.field-0 c.in-Ok-None.field-0-is c.in-Ok-None.ensures.none))

pub returns-in-Err-clause-accepts : goal.returns-in-Err-clause-accepts
returns-in-Err-clause-accepts g c =
    rw c.in-Some.is (rw c.road_fault.ensures (unaccepted g.R.Roads g.R.Inward.LinkIn g.R.Outward.LinkOut c.in-Some.port c.args.roads.now c.accept.new.self c.in-Err.error c.in-Err.ensures.cause))

pub returns-in-Ok-Some-clause-pass : goal.returns-in-Ok-Some-clause-pass
returns-in-Ok-Some-clause-pass g c = pass_accepted g.R.Roads g.R.Inward.LinkIn g.R.Outward.LinkOut c.in-Some.port c.args.roads.now c.accept.new.self c.in-Ok-Some.field-0 c.in-Ok-Some.ensures.plain c.accept.ensures.cause.never_falls

pub returns-in-Ok-None-clause-pass : goal.returns-in-Ok-None-clause-pass
returns-in-Ok-None-clause-pass g c = pass_accepted g.R.Roads g.R.Inward.LinkIn g.R.Outward.LinkOut c.in-Some.port c.args.roads.now c.accept.new.self c.in-Ok-None.field-0 c.in-Ok-None.ensures.plain c.accept.ensures.cause.never_falls

pub returns-in-Err-clause-pass : goal.returns-in-Err-clause-pass
returns-in-Err-clause-pass g c = pass_plain g.R.Roads g.R.Inward.LinkIn g.R.Outward.LinkOut c.args.roads.now c.accept.new.self c.in-Err.ensures.err c.accept.ensures.cause.never_falls

pub returns-in-Ok-Some-clause-known : goal.returns-in-Ok-Some-clause-known
returns-in-Ok-Some-clause-known g c =
    let p = pass_accepted g.R.Roads g.R.Inward.LinkIn g.R.Outward.LinkOut c.in-Some.port c.args.roads.now c.accept.new.self c.in-Ok-Some.field-0 c.in-Ok-Some.ensures.plain c.accept.ensures.cause.never_falls in
    p.knows c.in-Ok-Some.lower.id.0 (first_known (g.R.Roads.plain c.args.roads.now) c.in-Ok-Some.field-0 c.in-Ok-Some.lower c.in-Ok-Some.field-0-is c.in-Ok-Some.ensures.known)
