-- What stands in the order of its numbers.
use Rattle.std.specs.Prelude.{◌≡◌, ◌<◌, ℕ, List, slice_get, Option, Some, None}

-- The numbers ascend: what comes later has a greater one.
abbrev pub Ascend : {A : Type 0} → (A → ℕ) → List A → Type 0
Ascend {A} number xs =
    (j k : ℕ) (a b : A) → slice_get xs j ≡ Some a → slice_get xs k ≡ Some b → j < k
    → number a < number b

-- What has this number stands at this place.
pub record IsNumbered {A : Type 0} (number : A → ℕ) (xs : List A) (sought place : ℕ) : Type 0 where
  pub found : A
  pub at : slice_get xs place ≡ Some found
  pub same : number found ≡ sought

-- What has this number stands at the place that was found. Where none was, and the numbers ascend, nothing has it.
abbrev pub IsPlaceOf : {A : Type 0} → (A → ℕ) → List A → ℕ → Option ℕ → Type 0
IsPlaceOf number xs sought (Some place) = IsNumbered number xs sought place
IsPlaceOf number xs sought None = Ascend number xs → (place : ℕ) → IsNumbered number xs sought place → ⊥
