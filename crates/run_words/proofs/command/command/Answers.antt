use Rattle.std.proofs.Common.{rules, ap, ap₂, codes, ◌≡◌, ◌∙◌}
use Rattle.std.proofs.lemmas.Result.{IfOk-weaker}
use Rattle.clap.specs.Walk.{rule_of}
use Rattle.clap.specs.Simple.{app_of, app_of_fields, new_app, with_rule}
use Rattle.run_words.specs.Commands.{words_app, mode_rule, number_rule, folder_rule, loopback_rule, without_name}
use Rattle.run_words.proofs.command.command.Goals as goal

pub returns : goal.returns
unfolding words_app
returns c =
    let mode_is : rule_of c.required-mode.result ≡ mode_rule = search rules in
    let number_is : rule_of c.new-number.result ≡ number_rule = search rules in
    let folder_is : rule_of c.long-folder.result ≡ folder_rule = search rules in
    let loopback_is : rule_of c.action-loopback.result ≡ loopback_rule = search rules in
    let plain_is : app_of c.no_binary_name-plain.result ≡ without_name (new_app (codes "dn")) = ap app_of_fields c.no_binary_name-plain.ensures ∙ ap without_name c.new-4.ensures.app in
    let one = c.in_ok-with_mode.ensures.shape (search rules) ∙ ap₂ with_rule plain_is mode_is in
    let two = c.in_ok-with_number.ensures.shape (search rules) ∙ ap₂ with_rule one number_is in
    let three = c.in_ok-with_folder.ensures.shape (search rules) ∙ ap₂ with_rule two folder_is in
    IfOk-weaker c.arg-4.result _ _ (λ r added. added.shape (search rules) ∙ ap₂ with_rule three loopback_is) c.arg-4.ensures
