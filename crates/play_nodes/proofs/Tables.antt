-- Elements of lists and tables of which one was set.
use Rattle.std.proofs.Common.{◌≡◌, ℕ, zero, suc, ◌<◌, Bool, true, false, if◌then◌else◌, List, [], ◌∷◌, length, slice_get, slice_set, option_map, Some, None, ◌⊎◌, inl, inr, refl, sym, ap, arith, eqb-true, ◌+◌, ◌++◌}
use Rattle.std.specs.Prelude.{◌==◌, ◌&&◌, unwrap_or}
use Rattle.std.proofs.lemmas.Bool.{eqb-false}
use Rattle.play_model.specs.World.Parts.{Dialled}
use Rattle.play_model.specs.World.Worlds.{Dial, put_at}
use Rattle.play_model.proofs.WorldLaws.FactTables.{if-each, and-left, and-right}

-- LISTS

-- An element of a list of which one was set is that one, or was there before.
abbrev pub SetOr : {A : Type 0} → List A → ℕ → A → ℕ → A → Type 0
SetOr xs i x j y = ((j ≡ i) × (y ≡ x)) ⊎ ((j ≡ i → ⊥) × (slice_get xs j ≡ Some y))

set_or_more : {A : Type 0} (a : A) (xs : List A) (i : ℕ) (x : A) (j : ℕ) (y : A) → SetOr xs i x j y → SetOr (a ∷ xs) (suc i) x (suc j) y
set_or_more a xs i x j y (inl h) = inl (ap suc h.0, h.1)
set_or_more a xs i x j y (inr h) = inr ((λ e. h.0 cc), h.1)

pub set_or : {A : Type 0} (xs : List A) (i : ℕ) (x : A) (j : ℕ) (y : A) → slice_get (slice_set xs i x) j ≡ Some y → SetOr xs i x j y
set_or [] i x j y h = cc
set_or (a ∷ xs) zero x zero y h = inl (refl, cc)
set_or (a ∷ xs) zero x (suc j) y h = inr ((λ e. cc), h)
set_or (a ∷ xs) (suc i) x zero y h = inr ((λ e. cc), h)
set_or (a ∷ xs) (suc i) x (suc j) y h = set_or_more a xs i x j y (set_or xs i x j y h)

pub set_here : {A : Type 0} (xs : List A) (i : ℕ) (a x : A) → slice_get xs i ≡ Some a → slice_get (slice_set xs i x) i ≡ Some x
set_here [] i a x h = cc
set_here (b ∷ xs) zero a x h = refl
set_here (b ∷ xs) (suc i) a x h = set_here xs i a x h

pub set_there : {A : Type 0} (xs : List A) (i : ℕ) (x : A) (j : ℕ) → (j ≡ i → ⊥) → slice_get (slice_set xs i x) j ≡ slice_get xs j
set_there [] i x j apart = refl
set_there (b ∷ xs) zero x zero apart = absurd (apart refl)
set_there (b ∷ xs) zero x (suc j) apart = refl
set_there (b ∷ xs) (suc i) x zero apart = refl
set_there (b ∷ xs) (suc i) x (suc j) apart = set_there xs i x j (λ e. apart (ap suc e))

pub set_set : {A : Type 0} (xs : List A) (i : ℕ) (a b : A) → slice_set (slice_set xs i a) i b ≡ slice_set xs i b
set_set {A} [] i a b = refl
set_set {A} (x ∷ xs) zero a b = refl
set_set {A} (x ∷ xs) (suc i) a b = ap (λ (ys : List A). x ∷ ys) (set_set xs i a b)

pub set_same : {A : Type 0} (xs : List A) (i : ℕ) (a : A) → slice_get xs i ≡ Some a → slice_set xs i a ≡ xs
set_same {A} [] i a h = cc
set_same {A} (x ∷ xs) zero a h = ap (λ (y : A). y ∷ xs) (sym (same_some x a h))
  where
    same_some : (p q : A) → Some p ≡ Some q → p ≡ q
    same_some p q e = cc
set_same {A} (x ∷ xs) (suc i) a h = ap (λ (ys : List A). x ∷ ys) (set_same xs i a h)

-- An element of two lists that are joined stands in the first, or behind it in the second.
abbrev pub JoinedOr : {A : Type 0} → List A → List A → ℕ → A → Type 0
JoinedOr xs ys j y = (slice_get xs j ≡ Some y) ⊎ ((k : ℕ) × ((j ≡ length xs + k) × (slice_get ys k ≡ Some y)))

joined_or_more : {A : Type 0} (a : A) (xs ys : List A) (j : ℕ) (y : A) → JoinedOr xs ys j y → JoinedOr (a ∷ xs) ys (suc j) y
joined_or_more a xs ys j y (inl h) = inl h
joined_or_more a xs ys j y (inr h) = inr (h.0, (behind (length xs) h.0 h.1.0, h.1.1))
  where
    behind : (n k : ℕ) → j ≡ n + k → suc j ≡ suc n + k
    behind n k e = omega (arith, e)

pub joined_or : {A : Type 0} (xs ys : List A) (j : ℕ) (y : A) → slice_get (xs ++ ys) j ≡ Some y → JoinedOr xs ys j y
joined_or [] ys j y h = inr (j, (omega arith, h))
joined_or (a ∷ xs) ys zero y h = inl h
joined_or (a ∷ xs) ys (suc j) y h = joined_or_more a xs ys j y (joined_or xs ys j y h)

-- An index within a list has an element.
pub element : {A : Type 0} (xs : List A) (i : ℕ) → i < length xs → (a : A) × (slice_get xs i ≡ Some a)
element [] i h = absurd (none h)
  where
    none : i < 0 → ⊥
    none h = omega arith
element (a ∷ xs) zero h = (a, refl)
element (a ∷ xs) (suc i) h = element xs i (omega arith)

-- NUMBERS

same_by : (a b : ℕ) (q : Bool) → (a == b) ≡ q → (a ≡ b) ⊎ (a ≡ b → ⊥)
same_by a b true e = inl (eqb-true a b e)
same_by a b false e = inr (eqb-false a b e)

-- Two numbers are the same, or they aren't.
pub same_or : (a b : ℕ) → (a ≡ b) ⊎ (a ≡ b → ⊥)
same_or a b = same_by a b (a == b) refl

-- TABLES

pub put_at_there : {A : Type 0} (f : ℕ → ℕ → A) (i k : ℕ) (x : A) (j l : ℕ) → (j ≡ i → l ≡ k → ⊥) → put_at f i k x j l ≡ f j l
put_at_there {A} f i k x j l apart =
    if-each (λ (y : A). y ≡ f j l) (j == i && l == k) x (f j l)
    (λ e. absurd (apart (eqb-true j i (and-left (j == i) (l == k) e)) (eqb-true l k (and-right (j == i) (l == k) e))))
    (λ _. refl)

pub none_dialled : (q : Bool) (k : ℕ) (d : Dialled) → unwrap_or (option_map (λ (x : Dial). x.dialled) (if q then slice_get [] k else None)) d ≡ d
none_dialled true k d = refl
none_dialled false k d = refl
