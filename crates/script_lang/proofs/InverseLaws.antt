-- Printing and reading are inverse.
use Rattle.std.proofs.Common.{◌≡◌, ℕ, List, [], ◌∷◌, ◌++◌, Some, None, Result, Ok, Err, IfOk, sym, ◌∙◌, ap, subst}
use Rattle.std.proofs.lemmas.List.{append_cancel_right}
use Rattle.script_lang.specs.declared.faults.LineFault.{LineFault}
use Rattle.script_lang.specs.declared.faults.LineFault.TheVariants as fault
use Rattle.script_lang.specs.declared.report.ReportLine.{ReportLine}
use Rattle.script_lang.specs.Words.{parts_of}
use Rattle.script_lang.specs.Reports.{words_text, line_words, printed}
use Rattle.script_lang.specs.ReportReading.{line_said, Holds, Says}
use Rattle.script_lang.proofs.ReportLaws.{words_text-parts}
use Rattle.script_lang.proofs.FieldLaws.{none_some}
use Rattle.script_lang.proofs.LineFronts.{line_words_front}
use Rattle.script_lang.proofs.LineAgains.{line_words_again}
use Rattle.script_lang.proofs.LineTexts.{line_parts}

-- what is read prints to these bytes
pub read_prints : (bytes text : List ℕ) (r : Result ReportLine LineFault) → bytes ≡ text ++ 10 ∷ [] → Says r (line_said (parts_of 32 text)) → IfOk r (λ l. printed l ≡ bytes)
read_prints bytes text (Ok l) e said = ap (λ t. t ++ 10 ∷ []) (sym (line_words_front (parts_of 32 text) l said).0 ∙ words_text-parts text) ∙ sym e
read_prints bytes text (Err f) e said = tt

-- the words of what prints to these bytes say it
said_again : (bytes text : List ℕ) (l : ReportLine) → bytes ≡ text ++ 10 ∷ [] → Holds l → printed l ≡ bytes → line_said (parts_of 32 text) ≡ Some l
said_again bytes text l e holds prints =
    let same : words_text (line_words l) ≡ text = append_cancel_right (words_text (line_words l)) text (10 ∷ []) (prints ∙ e) in
    ap (λ t. line_said (parts_of 32 t)) (sym same) ∙ (ap line_said (line_parts l holds) ∙ line_words_again l holds)

-- what prints to these bytes is read
pub printed_read : (bytes text : List ℕ) (r : Result ReportLine LineFault) (l : ReportLine) → bytes ≡ text ++ 10 ∷ [] → Says r (line_said (parts_of 32 text)) → Holds l → printed l ≡ bytes → Says r (Some l)
printed_read bytes text r l e said holds prints = subst (λ o. Says r o) (said_again bytes text l e holds prints) said

-- and so no line prints to what isn't read
pub none_printed : (bytes text : List ℕ) (r : Result ReportLine LineFault) (l : ReportLine) → bytes ≡ text ++ 10 ∷ [] → Says r (line_said (parts_of 32 text)) → r ≡ Err fault.Line → Holds l → printed l ≡ bytes → ⊥
none_printed bytes text r l e said bad holds prints =
    let no : line_said (parts_of 32 text) ≡ None = subst (λ r. Says r (line_said (parts_of 32 text))) bad said in
    none_some l (sym no ∙ said_again bytes text l e holds prints)
