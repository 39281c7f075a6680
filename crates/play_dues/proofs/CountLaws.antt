-- What a list gives, of whose elements some pass a test and give one thing each, is counted and sought element by element.
use Rattle.std.proofs.Common.{◌≡◌, ◌<◌, ◌+◌, ◌-◌, ℕ, zero, suc, Bool, true, false, List, ◌∷◌, ◌++◌, length, drop, get_or, slice_get, Some, refl, sym, ap, ◌∙◌, arith}
use Rattle.std.specs.List.{flat_map}
use Rattle.play_model.specs.Dues.{when}
use Rattle.play_dues.proofs.ListLaws.{next_left}

one_less : (n : ℕ) → n ≡ suc n - 1
one_less n = omega arith

slice_after : {A : Type 0} (x : A) (xs : List A) (n : ℕ) → (n ≡ 0 → ⊥) → slice_get (x ∷ xs) n ≡ slice_get xs (n - 1)
slice_after x xs zero h = absurd (h refl)
slice_after x xs (suc n) h = ap (λ (k : ℕ). slice_get xs k) (one_less n)

add_so : (n m k t : ℕ) → n + k ≡ t → k ≡ suc m → (n + 1) + m ≡ t
add_so n m k t a b = omega arith

module _ {A B : Type 0} (test : A → Bool) (give : A → B) where
  -- what those give that pass
  abbrev given : List A → List B
  given xs = flat_map (λ x. when (test x) (give x)) xs

  module _ (xs : List A) (i : ℕ) (x : A) (within : i < length xs) (is : x ≡ get_or xs i x) where
    next_given : (b : Bool) → test x ≡ b → given (drop i xs) ≡ when b (give x) ++ given (drop (i + 1) xs)
    next_given b step =
        next_left (λ y. when (test y) (give y)) xs i x within
        ∙ (ap (λ (y : A). when (test y) (give y) ++ given (drop (i + 1) xs)) (sym is)
        ∙ ap (λ (k : Bool). when k (give x) ++ given (drop (i + 1) xs)) step)

    pub counts_one : (n : ℕ) → test x ≡ true → n + length (given (drop i xs)) ≡ length (given xs) → (n + 1) + length (given (drop (i + 1) xs)) ≡ length (given xs)
    counts_one n step so_far = add_so n (length (given (drop (i + 1) xs))) (length (given (drop i xs))) (length (given xs)) so_far (ap length (next_given true step))

    pub counts_none : (n : ℕ) → test x ≡ false → n + length (given (drop i xs)) ≡ length (given xs) → n + length (given (drop (i + 1) xs)) ≡ length (given xs)
    counts_none n step so_far = ap (λ (ys : List B). n + length ys) (sym (next_given false step)) ∙ so_far

    pub picks_first : (number : ℕ) → test x ≡ true → slice_get (given (drop i xs)) 0 ≡ slice_get (given xs) number → Some (give x) ≡ slice_get (given xs) number
    picks_first number step so_far = sym (ap (λ (ys : List B). slice_get ys 0) (next_given true step)) ∙ so_far

    pub picks_later : (n number : ℕ) → test x ≡ true → (n ≡ 0 → ⊥) → slice_get (given (drop i xs)) n ≡ slice_get (given xs) number → slice_get (given (drop (i + 1) xs)) (n - 1) ≡ slice_get (given xs) number
    picks_later n number step some so_far = sym (slice_after (give x) (given (drop (i + 1) xs)) n some) ∙ (ap (λ (ys : List B). slice_get ys n) (sym (next_given true step)) ∙ so_far)

    pub picks_past : (n number : ℕ) → test x ≡ false → slice_get (given (drop i xs)) n ≡ slice_get (given xs) number → slice_get (given (drop (i + 1) xs)) n ≡ slice_get (given xs) number
    picks_past n number step so_far = ap (λ (ys : List B). slice_get ys n) (sym (next_given false step)) ∙ so_far
