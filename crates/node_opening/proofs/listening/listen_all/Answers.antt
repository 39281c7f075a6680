-- One node more listens.
use Rattle.std.proofs.Common.{Err, refl, ap, ◌∙◌, arith}
use Rattle.std.proofs.lemmas.Result.{err_from_is_err_and}
use Rattle.node_opening.specs.Listening.{IsRoadFault}
use Rattle.node_opening.proofs.ListLemmas.{if_err}
use Rattle.node_opening.proofs.ListenLemmas.{listen_none, listen_next, fault_later}
use Rattle.node_opening.proofs.listening.listen_all.Goals as goal

pub loop-node-init : goal.loop-node-init
loop-node-init g c = record { shows = listen_none g.R.Roads c.args.roads.now; later = omega arith; risen = refl }

pub returns-in_err-listen_at-clause-cause : goal.returns-in_err-listen_at-clause-cause
returns-in_err-listen_at-clause-cause g c =
    let r = g.R.Roads in
    let e = err_from_is_err_and c.from_residual.result c.from_residual.ensures.1 in
    if_err c.from_residual.result c.in_err-listen_at.field-0.0 (IsRoadFault (r.faults c.args.roads.now) (r.faults c.listen_at.new.roads)) (e.1 ∙ ap Err e.2)
    (fault_later (r.faults c.args.roads.now) (r.faults c.loop-node.roads) (r.faults c.listen_at.new.roads) c.in_err-listen_at.field-0.0 c.loop-node.invariant.later c.in_err-listen_at.ensures.cause)

pub loop-node-preserved : goal.loop-node-preserved
loop-node-preserved g c =
    let r = g.R.Roads in
    record {
      shows = listen_next r c.loop-node.node c.args.roads.now c.loop-node.roads c.listen_at.new.roads c.loop-node.invariant.shows c.in_ok-listen_at.ensures.shows;
      later = omega (arith, c.loop-node.invariant.later, c.in_ok-listen_at.ensures.never_falls);
      risen = c.in_ok-listen_at.ensures.risen ∙ c.loop-node.invariant.risen;
    }
