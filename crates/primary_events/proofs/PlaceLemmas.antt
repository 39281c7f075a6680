-- Places of lists, and how a primary stands with a member that it hears.
use Rattle.std.proofs.Common.{◌≡◌, ℕ, zero, suc, ◌<◌, Bool, true, false, List, [], ◌∷◌, length, slice_get, slice_set, if◌then◌else◌, Option, Some, None, ◌⊎◌, inl, inr, refl, ap, arith}
use Rattle.std.specs.Prelude.{not}
use Rattle.recovery_core.specs.declared.primary.Phase.{Phase}
use Rattle.recovery_core.specs.declared.primary.Phase.TheVariants as phase
use Rattle.recovery_core.specs.declared.standings.Heard.{Heard}
use Rattle.recovery_core.specs.declared.standings.Heard.TheVariants as heard
use Rattle.recovery_core.specs.declared.standings.Standing.{Standing}
use Rattle.recovery_core.specs.declared.standings.Standing.TheVariants as standing
use Rattle.recovery_core.specs.Primaries.{told, is_success, informed, updated, after_heard, shuts_after}
use Rattle.hd_base.specs.declared.numbers.Stamp.{Stamp}
use Rattle.hd_base.specs.declared.states.ReplicaState.{ReplicaState}
use Rattle.world.specs.Primaries.{listens}
use Rattle.primary_events.specs.Showing.{stands_in}

-- LISTS

pub set_here : {A : Type 0} (xs : List A) (i : ℕ) (a x : A) → slice_get xs i ≡ Some a → slice_get (slice_set xs i x) i ≡ Some x
set_here [] i a x h = cc
set_here (b ∷ xs) zero a x h = refl
set_here (b ∷ xs) (suc i) a x h = set_here xs i a x h

pub set_there : {A : Type 0} (xs : List A) (i : ℕ) (x : A) (j : ℕ) → (j ≡ i → ⊥) → slice_get (slice_set xs i x) j ≡ slice_get xs j
set_there [] i x j apart = refl
set_there (b ∷ xs) zero x zero apart = absurd (apart refl)
set_there (b ∷ xs) zero x (suc j) apart = refl
set_there (b ∷ xs) (suc i) x zero apart = refl
set_there (b ∷ xs) (suc i) x (suc j) apart = set_there xs i x j (λ e. apart (ap suc e))

pub within : {A : Type 0} (xs : List A) (i : ℕ) (a : A) → slice_get xs i ≡ Some a → i < length xs
within [] i a h = cc
within (b ∷ xs) zero a h = omega arith
within (b ∷ xs) (suc i) a h = let k = within xs i a h in omega (arith, k)

pub past_none : {A : Type 0} (xs : List A) (i : ℕ) → (i < length xs → ⊥) → slice_get xs i ≡ None
past_none [] i h = refl
past_none (b ∷ xs) zero h = absurd (h (omega arith))
past_none (b ∷ xs) (suc i) h = past_none xs i (λ k. h (omega (arith, k)))

pub same_or : (j i : ℕ) → (j ≡ i) ⊎ (j ≡ i → ⊥)
same_or zero zero = inl refl
same_or zero (suc i) = inr (λ e. cc)
same_or (suc j) zero = inr (λ e. cc)
same_or (suc j) (suc i) = by (same_or j i) where
  by : (j ≡ i) ⊎ (j ≡ i → ⊥) → (suc j ≡ suc i) ⊎ (suc j ≡ suc i → ⊥)
  by (inl e) = inl (ap suc e)
  by (inr h) = inr (λ e. h cc)

pub some_same : {A : Type 0} (a b : A) → Some a ≡ Some b → a ≡ b
some_same a b e = cc

-- HOW IT STANDS

-- The primary listens on to a member just where its connection isn't shut once it was heard.
pub record StandsOn (p : Phase) (s : Standing) (h : Heard) : Type 0 where
  pub fits : stands_in p (after_heard s h) ≡ true
  pub listens_on : listens p (after_heard s h) ≡ not (shuts_after s)

told_in : (x : Option (ReplicaState × Stamp × ℕ)) → stands_in phase.Informing (told x) ≡ true
told_in None = refl
told_in (Some (state, stamp, bytes)) = refl

informed_in : (h : Heard) → stands_in phase.Informing (informed h) ≡ true
informed_in (heard.Answer a) = by (is_success a.status) where
  by : (b : Bool) → stands_in phase.Informing (if b then told a.info else standing.Out) ≡ true
  by true = told_in a.info
  by false = refl
informed_in heard.Unreadable = refl
informed_in heard.End = refl

-- no answer to the UPDATE is awaited any more
record IsDone (bytes : ℕ) (s : Standing) : Type 0 where
  fits : stands_in (phase.Updating bytes) s ≡ true
  quiet : listens (phase.Updating bytes) s ≡ false

updated_in : (bytes : ℕ) (h : Heard) → IsDone bytes (updated h)
updated_in bytes (heard.Answer a) = by (is_success a.status) where
  by : (b : Bool) → IsDone bytes (if b then standing.Updated else standing.Out)
  by true = record { fits = refl; quiet = refl }
  by false = record { fits = refl; quiet = refl }
updated_in bytes heard.Unreadable = record { fits = refl; quiet = refl }
updated_in bytes heard.End = record { fits = refl; quiet = refl }

pub stands_on : (p : Phase) (s : Standing) (h : Heard) → listens p s ≡ true → stands_in p s ≡ true → StandsOn p s h
stands_on phase.Informing standing.Unreached h l f = record { fits = refl; listens_on = refl }
stands_on phase.Informing standing.Asked h l f = record { fits = informed_in h; listens_on = refl }
stands_on phase.Informing (standing.Told state stamp bytes ended) h l f = record { fits = refl; listens_on = refl }
stands_on phase.Informing standing.Out h l f = record { fits = refl; listens_on = refl }
stands_on phase.Informing standing.Updating h l f = cc
stands_on phase.Informing standing.Updated h l f = record { fits = refl; listens_on = refl }
stands_on (phase.Updating n) standing.Unreached h l f = cc
stands_on (phase.Updating n) standing.Asked h l f = cc
stands_on (phase.Updating n) (standing.Told state stamp bytes ended) h l f = cc
stands_on (phase.Updating n) standing.Out h l f = cc
stands_on (phase.Updating n) standing.Updating h l f = let d = updated_in n h in record { fits = d.fits; listens_on = d.quiet }
stands_on (phase.Updating n) standing.Updated h l f = cc
stands_on phase.Over s h l f = cc
