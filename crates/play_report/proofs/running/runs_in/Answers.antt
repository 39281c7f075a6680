-- The entry of the node is found, or there is none.
use Rattle.std.proofs.Common.{false, ap, ◌∙◌}
use Rattle.std.specs.Prelude.{unwrap_or}
use Rattle.play_report.proofs.AnswerLemmas.{got_is}
use Rattle.play_report.proofs.running.runs_in.Goals as goal

pub returns : goal.returns
returns c =
    c.unwrap_or.ensures ∙ ap (λ o. unwrap_or o false)
    (c.copied.ensures ∙ got_is c.args.running.now c.args.node.0 c.get.result c.get.ensures.lookup.0 c.get.ensures.lookup.1)
