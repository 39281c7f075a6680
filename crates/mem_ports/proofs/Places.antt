-- What `position_from` finds: the first place at which a test passes.
use Rattle.std.proofs.Common.{◌≡◌, ℕ, ◌+◌, ◌<◌, Bool, true, false, cond, List, [], ◌∷◌, ◌++◌, length, get_or, set, Some, None, zero, suc, arith, refl, sym, ap, ◌∙◌}
use Rattle.std.specs.List.{position_from}

-- the first element that passes stands there
abbrev pub IsPlace : {X : Type 0} → (X → Bool) → List X → ℕ → Type 0
IsPlace p [] i = ⊥
IsPlace p (x ∷ xs) zero = p x ≡ true
IsPlace p (x ∷ xs) (suc i) = (p x ≡ false) × IsPlace p xs i

-- no element passes
abbrev pub IsNowhere : {X : Type 0} → (X → Bool) → List X → Type 0
IsNowhere p [] = Unit {0}
IsNowhere p (x ∷ xs) = (p x ≡ false) × IsNowhere p xs

some_none : {A : Type 0} {x : A} → Some x ≡ None → ⊥
some_none e = cc

place_here : (n i : ℕ) → Some i ≡ Some n → i ≡ n
place_here n i e = cc

found_from : {X : Type 0} (p : X → Bool) (xs : List X) (n i : ℕ) → Some i ≡ position_from p n xs → (k : ℕ) × (i ≡ n + k) × IsPlace p xs k
found_from p [] n i found = absurd (some_none found)
found_from p (x ∷ xs) n i found =
    elim (p x) as (λ b. p x ≡ b → Some i ≡ cond b (Some n) (position_from p (n + 1) xs) → (k : ℕ) × (i ≡ n + k) × IsPlace p (x ∷ xs) k) [
      | true ↦ λ here there. (0, omega (arith, place_here n i there), here)
      | false ↦ λ here there. let rest = found_from p xs (n + 1) i there in (suc rest.0, omega (arith, rest.1), (here, rest.2))
    ] refl found

-- What is found is the first place.
pub place_found : {X : Type 0} (p : X → Bool) (xs : List X) (i : ℕ) → Some i ≡ position_from p 0 xs → IsPlace p xs i
place_found p xs i found =
    let at = found_from p xs 0 i found in
    let same : at.0 ≡ i = omega (arith, at.1) in
    rw same at at.2

nowhere_from : {X : Type 0} (p : X → Bool) (xs : List X) (n : ℕ) → None ≡ position_from p n xs → IsNowhere p xs
nowhere_from p [] n none = tt
nowhere_from p (x ∷ xs) n none =
    elim (p x) as (λ b. p x ≡ b → None ≡ cond b (Some n) (position_from p (n + 1) xs) → IsNowhere p (x ∷ xs)) [
      | true ↦ λ here there. absurd (some_none (sym there))
      | false ↦ λ here there. (here, nowhere_from p xs (n + 1) there)
    ] refl none

-- Where nothing is found, nothing passes.
pub nowhere_found : {X : Type 0} (p : X → Bool) (xs : List X) → None ≡ position_from p 0 xs → IsNowhere p xs
nowhere_found p xs none = nowhere_from p xs 0 none

pub place-within : {X : Type 0} (p : X → Bool) (xs : List X) (i : ℕ) → IsPlace p xs i → i < length xs
place-within p [] i at = absurd at
place-within p (x ∷ xs) zero at = omega arith
place-within p (x ∷ xs) (suc i) at = omega (arith, place-within p xs i at.1)

pub place-passes : {X : Type 0} (p : X → Bool) (xs : List X) (i : ℕ) (d : X) → IsPlace p xs i → p (get_or xs i d) ≡ true
place-passes p [] i d at = absurd at
place-passes p (x ∷ xs) zero d at = at
place-passes p (x ∷ xs) (suc i) d at = place-passes p xs i d at.1

-- A write of another element that passes leaves the place.
pub place-set : {X : Type 0} (p : X → Bool) (xs : List X) (i : ℕ) (y : X) → IsPlace p xs i → p y ≡ true → IsPlace p (set xs i y) i
place-set p [] i y at passes = absurd at
place-set p (x ∷ xs) zero y at passes = passes
place-set p (x ∷ xs) (suc i) y at passes = (at.0, place-set p xs i y at.1 passes)

place_push : {X : Type 0} (p : X → Bool) (xs : List X) (y : X) (n : ℕ) → IsNowhere p xs → p y ≡ true → position_from p n (xs ++ y ∷ []) ≡ Some (n + length xs)
place_push p [] y n none passes = rw passes (ap Some (omega arith))
place_push p (x ∷ xs) y n none passes =
    let here : p x ≡ false = none.0 in rw here (place_push p xs y (n + 1) none.1 passes ∙ ap Some (omega arith))

-- The first element that passes stands behind all others.
pub place-push : {X : Type 0} (p : X → Bool) (xs : List X) (y : X) → IsNowhere p xs → p y ≡ true → Some (length xs) ≡ position_from p 0 (xs ++ y ∷ [])
place-push p xs y none passes = sym (place_push p xs y 0 none passes ∙ ap Some (omega arith))
