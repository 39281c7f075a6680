-- The next word, with a space behind it or as the last.
use Rattle.std.proofs.Common.{◌≡◌, ℕ, List, Option, Some, None, Bor, refl}
use Rattle.script_lang.specs.Words.{parts_of, IsFirstPart}
use Rattle.script_lang.specs.ReportReading.{left_of, next}
use Rattle.script_lang.proofs.report_reading.next_word.Goals as goal

one_word : (text word : List ℕ) (behind : Option (Bor (List ℕ))) → IsFirstPart 32 text word behind → Some (word, left_of behind) ≡ next (λ w. Some w) (parts_of 32 text)
unfolding next
one_word text word None e = rw e refl
one_word text word (Some rest) e = rw e refl

pub returns-in-Some : goal.returns-in-Some
unfolding next
returns-in-Some c = rw c.in-Some.is (one_word c.in-Some.text.now c.split_part.result.0.now c.split_part.result.1 c.split_part.ensures.first)
