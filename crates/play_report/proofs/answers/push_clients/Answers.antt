-- One client more.
use Rattle.std.proofs.Common.{ap, ◌++◌, ◌∙◌}
use Rattle.std.specs.Prelude.{flat_map}
use Rattle.std.proofs.lemmas.List.{take_all}
use Rattle.play_scripts.proofs.PlayNodes.PlaceLaws.{element_some}
use Rattle.play_report.specs.Answers.{said_in, answer_lines, client_lines}
use Rattle.play_report.proofs.AnswerLemmas.{clients_more}
use Rattle.play_report.proofs.AppendLemmas.{none_appended}
use Rattle.play_report.proofs.answers.push_clients.Goals as goal

pub loop-client-init : goal.loop-client-init
loop-client-init g c = none_appended c.args.out.now.items

pub loop-client-preserved : goal.loop-client-preserved
loop-client-preserved g c =
    let k = c.loop-client.client-index in
    let x = c.client-item.result in
    let mid = c.loop-client.out.items in
    clients_more c.args.out.now.items mid c.push_answers.new.out.items c.args.lines.now c.args.clients.now k x (element_some c.args.clients.now k x c.loop-client-test.true c.client-item.is) c.loop-client.invariant
    (c.in_ok-push_answers.ensures ∙ ap (λ s. mid ++ answer_lines x.block.0 (said_in s) 0 c.args.lines.now) c.deref.ensures.value)

pub returns : goal.returns
returns g c =
    let lines = c.args.lines.now in
    c.loop-client.invariant ∙ ap (λ xs. c.args.out.now.items ++ flat_map (λ x. client_lines lines x) xs) (take_all c.loop-client.client-index c.args.clients.now c.loop-client-test.false)
