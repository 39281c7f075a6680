-- A text is its parts, with a space between them.
use Rattle.std.proofs.Common.{◌≡◌, ◌++◌, ◌∷◌, codes, OnOk, ◌∙◌, ap, sym}
use Rattle.script_lang.specs.declared.report.ReadResult.{ReadResult}
use Rattle.script_lang.specs.Reports.{spaced, read_words}
use Rattle.script_lang.proofs.ReportLaws.{spaced-parts, appended}
use Rattle.script_lang.proofs.printing.push_read.Goals as goal

pub returns-in_ok-push_word-in-Refused : goal.returns-in_ok-push_word-in-Refused
returns-in_ok-push_word-in-Refused c =
    let old = c.args.out.now.items in
    let mid = c.push_word-in-Refused.new.out.items in
    let new = c.push_word-in-Refused-2.new.out.items in
    let P : ReadResult → Type 0 = λ r. OnOk c.push_word-in-Refused-2.result (new ≡ old ++ spaced (read_words r)) in
    let text = ap (λ l. 32 ∷ l) c.as_slice.ensures ∙ sym (spaced-parts c.in-Refused.text) in
    rw c.in-Refused.is (appended c.push_word-in-Refused-2.result old mid new (32 ∷ codes "refused") _ _ c.in_ok-push_word-in-Refused.ensures c.push_word-in-Refused-2.ensures text)
