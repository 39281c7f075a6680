-- A link that failed before the answer was sent is the cause of the fault.
use Rattle.std.proofs.Common.{refl}
use Rattle.recovery_events.specs.Answering.{with_outward}
use Rattle.recovery_events.proofs.CauseLemmas.{broken_cause, lost_failed}
use Rattle.recovery_events.proofs.answering.answered.Goals as goal

pub returns-in-LinkFailed-clause-ends : goal.returns-in-LinkFailed-clause-ends
returns-in-LinkFailed-clause-ends g c =
    let shut = with_outward c.args.recovering.end c.serve_recovery.new.outward in
    broken_cause g.R.Roads g.I.LinkIn g.O.LinkOut c.args.recovering.end.id.0 c.args.roads.now c.args.roads.now c.broken.new.roads shut c.broken.result refl
    (lost_failed g.R.Roads g.I.LinkIn g.O.LinkOut c.args.recovering.end.outward shut c.in-LinkFailed.ensures.tells.1) c.broken.ensures.ends
