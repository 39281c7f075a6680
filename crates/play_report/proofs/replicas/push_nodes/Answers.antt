-- One node more.
use Rattle.std.proofs.Common.{◌++◌, slice_get, ap, ◌∙◌}
use Rattle.play_scripts.specs.PlayNodes.Showing.{runs_in}
use Rattle.std.specs.Option.{option_copied}
use Rattle.play_report.specs.Replicas.{rows_lines}
use Rattle.play_report.proofs.AnswerLemmas.{got_is}
use Rattle.play_report.proofs.AppendLemmas.{none_appended, part_appended}
use Rattle.play_report.proofs.replicas.push_nodes.Goals as goal

pub loop-node-init : goal.loop-node-init
loop-node-init c = none_appended c.args.out.now.items

pub loop-node-preserved : goal.loop-node-preserved
loop-node-preserved c =
    let blocks = c.args.blocks.now in
    let running = c.args.running.now in
    let mid = c.loop-node.out.items in
    let k = c.loop-node.node in
    part_appended c.args.out.now.items mid c.push_node.new.out.items (λ node. rows_lines node (runs_in running node) blocks (slice_get c.args.all.now node)) k c.loop-node.invariant
    (c.in_ok-push_node.ensures ∙ (ap (λ t. mid ++ rows_lines k t blocks (option_copied c.get.result)) c.runs_in-runs.ensures ∙
    ap (λ o. mid ++ rows_lines k (runs_in running k) blocks o) (got_is c.args.all.now k c.get.result c.get.ensures.lookup.0 c.get.ensures.lookup.1)))
