-- The first word, and the three behind it.
use Rattle.std.proofs.Common.{◌≡◌, ℕ, List, [], ◌∷◌, Result, Ok, ◌∙◌, ap}
use Rattle.hd_base.proofs.ResultLaws.{ok_value}
use Rattle.script_lang.specs.declared.faults.BadKind.{BadKind}
use Rattle.script_lang.specs.Words.{words_of}
use Rattle.script_lang.specs.Said.{next_of, three_of, four_of}
use Rattle.script_lang.proofs.arguments.four.Goals as goal

four_is : (words ws : List (List ℕ)) (a b c d : List ℕ) → Ok (a, ws) ≡ next_of words → Ok (b, c, d) ≡ three_of ws → ◌≡◌ {A = Result (List ℕ × List ℕ × List ℕ × List ℕ) BadKind} (Ok (a, b, c, d)) (four_of words)
unfolding next_of three_of four_of
four_is [] ws a b c d e f = cc
four_is (x ∷ words) ws a b c d e f =
    let p = ok_value (a, ws) (x, words) e in
    let g : Ok (b, c, d) ≡ three_of words = f ∙ ap three_of (ap (λ (q : List ℕ × List (List ℕ)). q.1) p) in
    behind x words a b c d (ap (λ (q : List ℕ × List (List ℕ)). q.0) p) g where
      behind : (x : List ℕ) (words : List (List ℕ)) (a b c d : List ℕ) → a ≡ x → Ok (b, c, d) ≡ three_of words → ◌≡◌ {A = Result (List ℕ × List ℕ × List ℕ × List ℕ) BadKind} (Ok (a, b, c, d)) (four_of (x ∷ words))
      behind x [] a b c d e f = cc
      behind x (y ∷ []) a b c d e f = cc
      behind x (y ∷ z ∷ []) a b c d e f = cc
      behind x (y ∷ z ∷ v ∷ []) a b c d e f =
          let p = ok_value (b, c, d) (y, z, v) f in
          ap (λ (k : List ℕ). Ok (k, b, c, d)) e ∙ ap (λ (q : List ℕ × List ℕ × List ℕ). Ok (x, q.0, q.1, q.2)) p
      behind x (y ∷ z ∷ v ∷ w ∷ more) a b c d e f = cc

pub returns : goal.returns
returns c = four_is (words_of c.args.line.now) (words_of c.in_ok-first.rest.now) c.in_ok-first.first.now c.in_ok-second.second.now c.in_ok-second.third.now c.in_ok-second.fourth.now c.in_ok-first.ensures c.in_ok-second.ensures
