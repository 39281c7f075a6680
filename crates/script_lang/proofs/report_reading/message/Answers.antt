-- The message is the words that are left, with a space between them.
use Rattle.std.proofs.Common.{◌≡◌, ℕ, List, Some, sym, ◌∙◌, ap}
use Rattle.script_lang.specs.Words.{parts_of}
use Rattle.script_lang.specs.Reports.{words_text}
use Rattle.script_lang.specs.ReportReading.{text_said, left_of}
use Rattle.script_lang.proofs.WordLaws.{parts_of-some}
use Rattle.script_lang.proofs.ReportLaws.{words_text-parts}
use Rattle.script_lang.proofs.report_reading.message.Goals as goal

whole_text : (text : List ℕ) → text_said (parts_of 32 text) ≡ Some text
unfolding text_said
whole_text text =
    let p = parts_of-some 32 text in
    ap text_said p.1.1 ∙ ap Some (sym (ap words_text p.1.1) ∙ words_text-parts text)

pub returns-in_ok-from_slice-in-Some : goal.returns-in_ok-from_slice-in-Some
returns-in_ok-from_slice-in-Some c = ap (λ l. text_said (left_of l)) c.in-Some.is ∙ (whole_text c.in-Some.text.now ∙ ap Some (sym c.in_ok-from_slice-in-Some.ensures))
