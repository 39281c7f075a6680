-- Words between spaces, and back.
use Rattle.std.proofs.Common.{◌≡◌, ◌==◌, ℕ, true, List, [], ◌∷◌, ◌++◌, Result, Ok, Err, OnOk, inl, inr, refl, sym, ◌∙◌, ap, append_assoc, append-nil}
use Rattle.std.specs.List.{flat_map, list_all}
use Rattle.std.proofs.lemmas.Bool.{and_parts, eq-eqb}
use Rattle.std.proofs.lemmas.Bool.Decides.{eqb_tells}
use Rattle.script_lang.specs.Words.{into_first, parts_of}
use Rattle.script_lang.specs.Reports.{spaced, words_text}
use Rattle.script_lang.proofs.WordLaws.{parts_of-some, parts_of-last, parts_of-next, is_free_of}

cons_tail : (a b : ℕ) (xs ys : List ℕ) → a ∷ xs ≡ b ∷ ys → xs ≡ ys
cons_tail a b xs ys e = cc

-- parts, each behind the separator
abbrev pub behind_each : ℕ → List (List ℕ) → List ℕ
behind_each s parts = flat_map (λ part. s ∷ part) parts

-- one more byte in the first part
behind-into_first : (s c : ℕ) (parts : List (List ℕ)) (cs : List ℕ) → behind_each s parts ≡ s ∷ cs → behind_each s (into_first c parts) ≡ s ∷ c ∷ cs
behind-into_first s c [] cs e = absurd (nil_cons s cs e) where
  nil_cons : (x : ℕ) (xs : List ℕ) → [] ≡ x ∷ xs → ⊥
  nil_cons x xs e = cc
behind-into_first s c (p ∷ parts) cs e = ap (λ l. s ∷ c ∷ l) (cons_tail s s (p ++ behind_each s parts) cs e)

parts_step : (s c : ℕ) (cs : List ℕ) → behind_each s (parts_of s cs) ≡ s ∷ cs → behind_each s (parts_of s (c ∷ cs)) ≡ s ∷ c ∷ cs
parts_step s c cs e =
    elim (eqb_tells c s) [
      | inl same ↦ rw same.0 (ap (λ l. s ∷ l) e ∙ ap (λ k. s ∷ k ∷ cs) (sym same.1))
      | inr other ↦ rw other.0 (behind-into_first s c (parts_of s cs) cs e)
    ]

-- the parts of a text, each behind a separator, are the text behind one
pub behind-parts : (s : ℕ) (text : List ℕ) → behind_each s (parts_of s text) ≡ s ∷ text
behind-parts s [] = refl
behind-parts s (c ∷ cs) = parts_step s c cs (behind-parts s cs)

-- the first part, and the others behind separators
pub parts_whole : (s : ℕ) (text part : List ℕ) (parts : List (List ℕ)) → parts_of s text ≡ part ∷ parts → text ≡ part ++ behind_each s parts
parts_whole s text part parts e = sym (cons_tail s s (part ++ behind_each s parts) text (sym (ap (behind_each s) e) ∙ behind-parts s text))

pub spaced-parts : (text : List ℕ) → spaced (parts_of 32 text) ≡ 32 ∷ text
spaced-parts text = behind-parts 32 text

-- words that are free of a separator are the parts of what they make with it
pub parts_of-words : (s : ℕ) (word : List ℕ) (words : List (List ℕ)) → is_free_of s word ≡ true → list_all (is_free_of s) words ≡ true → parts_of s (word ++ behind_each s words) ≡ word ∷ words
parts_of-words s word [] free all = ap (parts_of s) (append-nil word) ∙ parts_of-last s word free
parts_of-words s word (w ∷ words) free all =
    let both = and_parts (is_free_of s w) (list_all (is_free_of s) words) all in
    let same : (s == s) ≡ true = eq-eqb s s refl in
    parts_of-next s word (w ++ behind_each s words) s free (rw same refl) ∙ ap (λ l. word ∷ l) (parts_of-words s w words both.0 both.1)

-- one piece behind another, where it was appended
pub appended : {T E : Type 0} (r : Result T E) (old mid new w ws zs : List ℕ) → mid ≡ old ++ w → OnOk r (new ≡ mid ++ ws) → ws ≡ zs → OnOk r (new ≡ old ++ (w ++ zs))
appended (Ok x) old mid new w ws zs e f same = f ∙ (ap (λ l. l ++ ws) e ∙ (append_assoc old w ws ∙ ap (λ l. old ++ (w ++ l)) same))
appended (Err x) old mid new w ws zs e f same = tt

-- the parts of a text with spaces between them are the text
pub words_text-parts : (text : List ℕ) → words_text (parts_of 32 text) ≡ text
words_text-parts text =
    let p = parts_of-some 32 text in
    ap words_text p.1.1 ∙ cons_tail 32 32 (p.0 ++ spaced p.1.0) text (sym (ap spaced p.1.1) ∙ spaced-parts text)
