-- The rules are tried one behind the other, and then the folder's path is copied.
use Rattle.std.proofs.Common.{◌∙◌, Result, Err, ap, sym, subst}
use Rattle.std.specs.Option.{option_copied}
use Rattle.std.proofs.lemmas.Result.{err_from_is_err_and}
use Rattle.run_words.specs.declared.call.Words.{Words}
use Rattle.run_words.specs.declared.faults.WordsFault.{WordsFault}
use Rattle.run_words.specs.Calls.{Reads, arguments_say}
use Rattle.run_words.proofs.CallLaws.{mode_breaks, number_breaks, all_kept}
use Rattle.run_words.proofs.reading.arguments.Goals as goal

pub returns-in_err-mode : goal.returns-in_err-mode
returns-in_err-mode c =
    let word = option_copied c.args.mode in
    let number = option_copied c.args.number in
    let folder = option_copied c.args.folder in
    let e = err_from_is_err_and c.from_residual.result c.from_residual.ensures.1 in
    subst (λ (x : Result Words WordsFault). Reads x (arguments_say word number folder c.args.loopback)) (sym (e.1 ∙ ap Err e.2))
    (mode_breaks word number folder c.args.loopback c.in_err-mode.field-0.0 c.in_err-mode.ensures)

pub returns-in_err-number : goal.returns-in_err-number
returns-in_err-number c =
    let word = option_copied c.args.mode in
    let number = option_copied c.args.number in
    let folder = option_copied c.args.folder in
    let e = err_from_is_err_and c.from_residual-in_err-number.result c.from_residual-in_err-number.ensures.1 in
    subst (λ (x : Result Words WordsFault). Reads x (arguments_say word number folder c.args.loopback)) (sym (e.1 ∙ ap Err e.2))
    (number_breaks word number folder c.args.loopback c.in_ok-mode.mode c.in_err-number.field-0.0 c.in_ok-mode.ensures c.in_err-number.ensures)

pub returns : goal.returns
returns c =
    all_kept (option_copied c.args.mode) (option_copied c.args.number) (option_copied c.args.folder) c.in_ok-folder.folder c.args.loopback c.in_ok-mode.mode c.in_ok-number.number
    c.in_ok-mode.ensures c.in_ok-number.ensures c.in_ok-check_loopback.ensures c.in_ok-folder.ensures
