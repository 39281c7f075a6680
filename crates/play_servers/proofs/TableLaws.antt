-- Elements of lists and tables of which one was set, and of which one passes a test.
use Rattle.std.proofs.Common.{◌≡◌, ◌<◌, ◌≤◌, ℕ, zero, suc, ◌+◌, Bool, true, false, List, [], ◌∷◌, length, get_or, slice_get, slice_set, Option, Some, None, IsSome, ◌⊎◌, inl, inr, refl, sym, ap, ◌∙◌, arith, eqb-true}
use Rattle.std.specs.Prelude.{◌==◌, ◌&&◌, not, nat_lt, cond, position}
use Rattle.std.specs.List.{position_or_len}
use Rattle.std.proofs.lemmas.Bool.Decides.{nat_tests}
use Rattle.std.proofs.lemmas.List.Quantifiers.{position-Some}
use Rattle.std.proofs.lemmas.Option.{slice_get-get_or}
use Rattle.world_requests.specs.World.Worlds.{put_at}
use Rattle.world_requests.proofs.WorldLaws.FactTables.{if-each, and-left, and-right}

-- LISTS

pub element_at : {A : Type 0} (xs : List A) (i : ℕ) (x : A) → i < length xs → slice_get xs i ≡ Some (get_or xs i x)
element_at [] i x h = absurd (none h)
  where
    none : i < 0 → ⊥
    none h = omega arith
element_at (a ∷ xs) zero x h = refl
element_at (a ∷ xs) (suc i) x h = element_at xs i x (omega arith)

pub element_none : {A : Type 0} (xs : List A) (i : ℕ) → length xs ≤ i → slice_get xs i ≡ None
element_none [] i h = refl
element_none (a ∷ xs) zero h = absurd (none h)
  where
    none : suc (length xs) ≤ 0 → ⊥
    none h = omega arith
element_none (a ∷ xs) (suc i) h = element_none xs i (omega arith)

-- An element of a list of which one was set is that one, or was there before.
abbrev pub SetOr : {A : Type 0} → List A → ℕ → A → ℕ → A → Type 0
SetOr xs i x j y = ((j ≡ i) × (y ≡ x)) ⊎ ((j ≡ i → ⊥) × (slice_get xs j ≡ Some y))

set_or_more : {A : Type 0} (a : A) (xs : List A) (i : ℕ) (x : A) (j : ℕ) (y : A) → SetOr xs i x j y → SetOr (a ∷ xs) (suc i) x (suc j) y
set_or_more a xs i x j y (inl h) = inl (ap suc h.0, h.1)
set_or_more a xs i x j y (inr h) = inr ((λ e. h.0 cc), h.1)

pub set_or : {A : Type 0} (xs : List A) (i : ℕ) (x : A) (j : ℕ) (y : A) → slice_get (slice_set xs i x) j ≡ Some y → SetOr xs i x j y
set_or [] i x j y h = cc
set_or (a ∷ xs) zero x zero y h = inl (refl, cc)
set_or (a ∷ xs) zero x (suc j) y h = inr ((λ e. cc), h)
set_or (a ∷ xs) (suc i) x zero y h = inr ((λ e. cc), h)
set_or (a ∷ xs) (suc i) x (suc j) y h = set_or_more a xs i x j y (set_or xs i x j y h)

-- Where there was an element there is one.
pub set_some : {A : Type 0} (xs : List A) (i : ℕ) (x : A) (j : ℕ) → IsSome (slice_get xs j) → IsSome (slice_get (slice_set xs i x) j)
set_some [] i x j h = cc
set_some (a ∷ xs) zero x zero h = refl
set_some (a ∷ xs) zero x (suc j) h = h
set_some (a ∷ xs) (suc i) x zero h = refl
set_some (a ∷ xs) (suc i) x (suc j) h = set_some xs i x j h

pub set_here : {A : Type 0} (xs : List A) (i : ℕ) (a x : A) → slice_get xs i ≡ Some a → slice_get (slice_set xs i x) i ≡ Some x
set_here [] i a x h = cc
set_here (b ∷ xs) zero a x h = refl
set_here (b ∷ xs) (suc i) a x h = set_here xs i a x h

pub same_some : {A : Type 0} (a b : A) → Some a ≡ Some b → a ≡ b
same_some a b e = cc

pub not_none : {A : Type 0} (x : Option A) → IsSome x → x ≡ None → ⊥
not_none None h e = cc
not_none (Some a) h e = cc

-- PLACES

-- An element that passes.
pub record Passes {A : Type 0} (p : A → Bool) (xs : List A) (k : ℕ) : Type 0 where
  pub at : A
  pub found : slice_get xs k ≡ Some at
  pub passes : p at ≡ true

pub passes_at : {A : Type 0} (p : A → Bool) (xs : List A) (k : ℕ) → position p xs ≡ Some k → Passes p xs k
passes_at p [] k h = cc
passes_at p (a ∷ xs) k h =
    let q = position-Some p (a ∷ xs) k a h in
    record { at = get_or (a ∷ xs) k a; found = slice_get-get_or (a ∷ xs) k a q.0; passes = q.1 }

here_first : (b : Bool) (n m : ℕ) → b ≡ true → cond (not b) (1 + n) 0 < suc m
here_first true n m h = omega arith
here_first false n m h = cc

there_first : (b : Bool) (n m : ℕ) → n < m → cond (not b) (1 + n) 0 < suc m
there_first true n m h = omega arith
there_first false n m h = omega arith

first_within : {A : Type 0} (p : A → Bool) (xs : List A) (k : ℕ) (x : A) → slice_get xs k ≡ Some x → p x ≡ true → position_or_len p xs < length xs
first_within p [] k x h passes = cc
first_within p (a ∷ xs) zero x h passes = here_first (p a) (position_or_len p xs) (length xs) (ap p (same_some a x h) ∙ passes)
first_within p (a ∷ xs) (suc k) x h passes = there_first (p a) (position_or_len p xs) (length xs) (first_within p xs k x h passes)

pub place_there : {A : Type 0} (p : A → Bool) (xs : List A) (k : ℕ) (x : A) → slice_get xs k ≡ Some x → p x ≡ true → position p xs ≡ Some (position_or_len p xs)
place_there p xs k x h passes =
    ap (λ (b : Bool). cond b (Some (position_or_len p xs)) None) (test_so (position_or_len p xs) (length xs) (first_within p xs k x h passes))
  where
    test_so : (a b : ℕ) → a < b → nat_lt a b ≡ true
    test_so a b h = grind (arith, nat_tests, h)

-- TABLES

pub put_at_same : {A : Type 0} (f : ℕ → ℕ → A) (i k j l : ℕ) → put_at f i k (f i k) j l ≡ f j l
put_at_same {A} f i k j l =
    if-each (λ (y : A). y ≡ f j l) (j == i && l == k) (f i k) (f j l)
    (λ e. ap (λ (n : ℕ). f n k) (sym (eqb-true j i (and-left (j == i) (l == k) e))) ∙ ap (f j) (sym (eqb-true l k (and-right (j == i) (l == k) e))))
    (λ _. refl)

pub put_at_there : {A : Type 0} (f : ℕ → ℕ → A) (i k : ℕ) (x : A) (j l : ℕ) → (j ≡ i → l ≡ k → ⊥) → put_at f i k x j l ≡ f j l
put_at_there {A} f i k x j l apart =
    if-each (λ (y : A). y ≡ f j l) (j == i && l == k) x (f j l)
    (λ e. absurd (apart (eqb-true j i (and-left (j == i) (l == k) e)) (eqb-true l k (and-right (j == i) (l == k) e))))
    (λ _. refl)
