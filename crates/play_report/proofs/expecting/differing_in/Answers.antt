-- One line more.
use Rattle.std.proofs.Common.{sym, ◌+◌, drop, ◌∙◌}
use Rattle.std.proofs.lemmas.List.{at_drop_all}
use Rattle.play_scripts.proofs.PlayNodes.PlaceLaws.{element_some}
use Rattle.play_report.specs.Expecting.{found_in, differing_in}
use Rattle.play_report.proofs.AnswerLemmas.{drop_at}
use Rattle.play_report.proofs.ExpectLemmas.{line_differs, line_agrees}
use Rattle.play_report.proofs.expecting.differing_in.Goals as goal

pub returns-then-is_some : goal.returns-then-is_some
returns-then-is_some g c =
    let lines = c.args.lines.now in
    let k = c.loop-line.line-index in
    let l = c.line-item.result in
    let found = found_in c.args.count c.args.running.now c.args.nodes.now in
    line_differs found (drop k lines) (drop (k + 1) lines) l (differing_in found lines) c.difference_in-difference.result (drop_at lines k l (element_some lines k l c.loop-line-test.true c.line-item.is)) c.loop-line.invariant
    c.difference_in-difference.ensures (sym c.is_some.ensures ∙ c.if-is_some.true)

pub loop-line-preserved : goal.loop-line-preserved
loop-line-preserved g c =
    let lines = c.args.lines.now in
    let k = c.loop-line.line-index in
    let l = c.line-item.result in
    let found = found_in c.args.count c.args.running.now c.args.nodes.now in
    line_agrees found (drop k lines) (drop (k + 1) lines) l (differing_in found lines) c.difference_in-difference.result (drop_at lines k l (element_some lines k l c.loop-line-test.true c.line-item.is)) c.loop-line.invariant
    c.difference_in-difference.ensures (sym c.is_some.ensures ∙ c.if-is_some.false)

pub returns : goal.returns
returns g c =
    let found = found_in c.args.count c.args.running.now c.args.nodes.now in
    sym (at_drop_all (λ ls. differing_in found ls) c.args.lines.now c.loop-line.line-index c.loop-line-test.false) ∙ c.loop-line.invariant
