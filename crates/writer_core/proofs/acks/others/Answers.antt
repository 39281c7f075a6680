-- One node more.
use Rattle.std.proofs.Common.{length, ap, ◌∙◌, arith}
use Rattle.hd_base.specs.declared.numbers.NodeId.{NodeId}
use Rattle.writer_core.proofs.AckLemmas.{kept_step, left_step, length_kept}
use Rattle.writer_core.proofs.acks.others.Goals as goal
use Rattle.writer_core.proofs.acks.others.Goals.{then-node-bad, else-node-bad}

pub loop-node-preserved : goal.loop-node-preserved
loop-node-preserved c =
    let none : NodeId = record { 0 = 0 } in
    let i = c.loop-node.invariant in
    elim c.if-node-bad.branch [
      | then-node-bad w ↦ (
        kept_step c.args.nodes.now c.loop-node.kept c.if-node-bad.kept c.loop-node.node-index c.loop-node.count c.if-node-bad.count none c.args.bad
            c.loop-node-test.true (omega (arith, i.1, i.2, c.loop-node-test.true, c.requires)) w.if-node-bad.true w.kept-is w.count-is i.0,
        omega (arith, w.count-is, i.1),
        length_kept c.loop-node.kept c.if-node-bad.kept c.loop-node.count _ w.kept-is ∙ i.2,
      )
      | else-node-bad w ↦ (
        left_step c.args.nodes.now c.loop-node.kept c.if-node-bad.kept c.loop-node.node-index c.loop-node.count c.if-node-bad.count none c.args.bad
            c.loop-node-test.true w.if-node-bad.false w.kept-is w.count-is i.0,
        omega (arith, w.count-is, i.1),
        ap length w.kept-is ∙ i.2,
      )
    ]
