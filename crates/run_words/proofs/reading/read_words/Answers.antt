use Rattle.std.proofs.Common.{◌∙◌, ℕ, List, Result, Err, map, ap, sym, subst}
use Rattle.std.specs.String.{string_bytes}
use Rattle.std.proofs.lemmas.Result.{err_from_is_err_and}
use Rattle.run_words.specs.declared.call.Words.{Words}
use Rattle.run_words.specs.declared.faults.WordsFault.{WordsFault}
use Rattle.run_words.specs.Calls.{Reads, words_of}
use Rattle.run_words.proofs.CallLaws.{words_read}
use Rattle.run_words.proofs.reading.read_words.Goals as goal

pub returns-in_err-matches : goal.returns-in_err-matches
returns-in_err-matches c =
    let words : List (List ℕ) = map string_bytes c.args.words.now in
    let e = err_from_is_err_and c.from_residual.result c.from_residual.ensures.1 in
    subst (λ (x : Result Words WordsFault). Reads x (words_of words)) (sym (e.1 ∙ ap Err e.2)) c.in_err-matches.ensures.refused

pub returns : goal.returns
returns c =
    let words : List (List ℕ) = map string_bytes c.args.words.now in
    words_read words c.in_ok-matches.matches c.get_str-mode.result c.get_str-number.result c.get_str-folder.result c.has_loopback.result c.arguments.result
    c.in_ok-matches.ensures.taken c.in_ok-matches.ensures.found c.get_str-mode.ensures c.get_str-number.ensures c.get_str-folder.ensures c.has_loopback.ensures c.arguments.ensures
