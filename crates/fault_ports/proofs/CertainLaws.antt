-- Laws of the lists of certain bytes: they are the functions of the place that the model has.
use Rattle.std.proofs.Common.{◌≡◌, ℕ, ◌<◌, ◌≤◌, length, get_or, ◌+◌, zero, suc, ◌&&◌, nat_le, nat_lt, Bool, true, false, cond, List, [], ◌∷◌, Option, None, arith, refl, ap, sym, ◌∙◌}
use Rattle.std.specs.List.{slice_get}
use Rattle.file_calls.specs.Disks.{uncertain_in}
use Rattle.fault_ports.specs.Certain.{certain_at, certain_outside, without_range, all_certain}

none_none : (b : Bool) → cond {A = Option ℕ} b None None ≡ None
none_none true = refl
none_none false = refl

at_without : (place end n : ℕ) (certain : List (Option ℕ)) (i : ℕ) → certain_at (without_range place end n certain) i ≡ certain_outside place end (n + i) (certain_at certain i)
at_without place end n [] i = sym (none_none (nat_le place (n + i) && nat_lt (n + i) end))
at_without place end n (byte ∷ rest) zero =
    let same : n ≡ n + 0 = omega arith in ap (λ k. certain_outside place end k byte) same
at_without place end n (byte ∷ rest) (suc i) =
    let same : n + 1 + i ≡ n + suc i = omega arith in
    at_without place end (n + 1) rest i ∙ ap (λ k. certain_outside place end k (certain_at rest i)) same

at_start : (place end : ℕ) (certain : List (Option ℕ)) (i : ℕ) → certain_at (without_range place end 0 certain) i ≡ uncertain_in place end (certain_at certain) i
at_start place end certain i =
    let same : 0 + i ≡ i = omega arith in
    at_without place end 0 certain i ∙ ap (λ k. certain_outside place end k (certain_at certain i)) same

-- The list without a range has the bytes outside it.
pub certain_at-without_range : (place end : ℕ) (certain : List (Option ℕ)) → certain_at (without_range place end 0 certain) ≡ uncertain_in place end (certain_at certain)
certain_at-without_range place end certain = λ j i. at_start place end certain i j

at_all : (bytes : List ℕ) (i : ℕ) → certain_at (all_certain bytes) i ≡ slice_get bytes i
at_all [] i = refl
at_all (byte ∷ rest) zero = refl
at_all (byte ∷ rest) (suc i) = at_all rest i

-- All bytes are certain.
pub certain_at-all_certain : (bytes : List ℕ) → certain_at (all_certain bytes) ≡ slice_get bytes
certain_at-all_certain bytes = λ j i. at_all bytes i j

-- The byte at a place within the list, and none past it.
pub certain_at-within : (certain : List (Option ℕ)) (i : ℕ) → i < length certain → get_or certain i None ≡ certain_at certain i
certain_at-within [] i within = absurd (omega (arith, within))
certain_at-within (byte ∷ rest) zero within = refl
certain_at-within (byte ∷ rest) (suc i) within = certain_at-within rest i (omega (arith, within))

pub certain_at-past : (certain : List (Option ℕ)) (i : ℕ) → length certain ≤ i → None ≡ certain_at certain i
certain_at-past [] i past = refl
certain_at-past (byte ∷ rest) zero past = absurd (omega (arith, past))
certain_at-past (byte ∷ rest) (suc i) past = certain_at-past rest i (omega (arith, past))
