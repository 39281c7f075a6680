-- One row more.
use Rattle.std.proofs.Common.{◌++◌, ◌≤◌, ◌<◌, get_or, length, refl, arith}
use Rattle.std.specs.Prelude.{min}
use Rattle.hd_base.specs.declared.numbers.BlockId.{BlockId}
use Rattle.play_scripts.proofs.PlayNodes.PlaceLaws.{element_some}
use Rattle.play_scripts.proofs.NodeOpening.ListLemmas.{element_or}
use Rattle.play_report.specs.Replicas.{row_lines}
use Rattle.play_report.proofs.ReplicaLemmas.{row_next, rows_end}
use Rattle.play_report.proofs.replicas.push_rows.Goals as goal

pub loop-place-init : goal.loop-place-init
loop-place-init c = refl

pub loop-place-preserved : goal.loop-place-preserved
loop-place-preserved c =
    let blocks = c.args.blocks.now in
    let rows = c.args.rows.now in
    let k = c.loop-place.place in
    let none : BlockId = record { 0 = 0 } in
    let first : k < length blocks = omega (arith, c.min-count.ensures, c.loop-place-test.true) in
    let second : k < length rows = omega (arith, c.min-count.ensures, c.loop-place-test.true) in
    let all = c.args.out.now.items ++ (row_lines c.args.node.0 blocks rows) in
    row_next all c.loop-place.out.items c.push_row.new.out.items c.args.node.0 blocks rows k (get_or blocks k none) c.index-rows-place.result (element_or blocks k none first) (element_some rows k c.index-rows-place.result second c.index-rows-place.is)
    c.loop-place.invariant c.in_ok-push_row.ensures

pub returns : goal.returns
returns c =
    let all = c.args.out.now.items ++ (row_lines c.args.node.0 c.args.blocks.now c.args.rows.now) in
    let past : min (length c.args.blocks.now) (length c.args.rows.now) ≤ c.loop-place.place = omega (arith, c.min-count.ensures, c.loop-place-test.false) in
    rows_end all c.loop-place.out.items c.args.node.0 c.args.blocks.now c.args.rows.now c.loop-place.place past c.loop-place.invariant
