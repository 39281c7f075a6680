-- One line more.
use Rattle.std.proofs.Common.{◌++◌, refl, ◌∙◌, arith}
use Rattle.play_scripts.proofs.PlayNodes.PlaceLaws.{element_some}
use Rattle.play_report.specs.Answers.{said_in, answer_lines}
use Rattle.play_report.proofs.AnswerLemmas.{line_appended, next_within, answers_end, drop_at}
use Rattle.play_report.proofs.answers.push_answers.Goals as goal

pub loop-line-init : goal.loop-line-init
loop-line-init c = record { few = omega arith; rest = refl }

pub loop-line-preserved : goal.loop-line-preserved
loop-line-preserved c =
    let b = c.args.block.0 in
    let said = said_in c.args.said.now in
    let lines = c.args.lines.now in
    let k = c.loop-line.line-index in
    let l = c.line-item.result in
    let n = c.loop-line.ordinal in
    let all = c.args.out.now.items ++ (answer_lines b said 0 lines) in
    let next = c.in_ok-ordinal.ensures.next in
    record {
      few = next_within b n _ k l next c.loop-line.invariant.few;
      rest = line_appended all c.loop-line.out.items c.push_line.new.out.items b said n _ l lines k _ (drop_at lines k l (element_some lines k l c.loop-line-test.true c.line-item.is))
          (c.told.ensures ∙ c.in_ok-places.ensures n) next c.loop-line.invariant.rest c.in_ok-ordinal.ensures.lines;
    }

pub returns : goal.returns
returns c =
    let said = said_in c.args.said.now in
    let all = c.args.out.now.items ++ (answer_lines c.args.block.0 said 0 c.args.lines.now) in
    answers_end all c.loop-line.out.items c.args.block.0 said c.loop-line.ordinal c.args.lines.now c.loop-line.line-index c.loop-line-test.false c.loop-line.invariant.rest
