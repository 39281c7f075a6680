-- The next word is a state.
use Rattle.std.proofs.Common.{◌≡◌, ℕ, List, [], ◌∷◌, Option, Some, ◌∙◌, ap}
use Rattle.hd_base.specs.Options.{◌>>=◌}
use Rattle.hd_base.proofs.OptionLaws.{some_pair}
use Rattle.hd_base.specs.Wire.{state_name}
use Rattle.script_lang.specs.Names.{states}
use Rattle.script_lang.specs.ReportReading.{found, left_of, next}
use Rattle.script_lang.proofs.report_reading.state.Goals as goal

next_reads : {A : Type 0} (says : List ℕ → Option A) (words : List (List ℕ)) (text : List ℕ) (rest : List (List ℕ)) (x : A) → Some (text, rest) ≡ next (λ w. Some w) words → Some x ≡ says text → Some (x, rest) ≡ next says words
unfolding next
next_reads says [] text rest x e f = cc
next_reads says (w ∷ words) text rest x e f =
    let p = some_pair text w rest words e in
    ap (λ r. Some (x, r)) p.1 ∙ ap (λ o. o >>= (λ y. Some (y, words))) (f ∙ ap says p.0)

pub returns : goal.returns
returns c = next_reads (found state_name states) (left_of c.args.left) c.in_ok-text.text.now (left_of c.in_ok-text.left) c.in_ok-state_named.field-0 c.in_ok-text.ensures c.in_ok-state_named.ensures
