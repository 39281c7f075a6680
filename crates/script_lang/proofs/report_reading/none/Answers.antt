-- A text that is left has a word.
use Rattle.std.proofs.Common.{sym, ◌∙◌, ap}
use Rattle.script_lang.specs.ReportReading.{left_of, no_more}
use Rattle.script_lang.proofs.WordLaws.{parts_of-some}
use Rattle.script_lang.proofs.report_reading.none.Goals as goal

pub returns-in-Some : goal.returns-in-Some
unfolding no_more
returns-in-Some c =
    let p = parts_of-some 32 c.in-Some.field-0.now in
    sym (ap (λ o. no_more {A = Unit {0}} tt (left_of o)) c.in-Some.is ∙ ap (no_more {A = Unit {0}} tt) p.1.1)
