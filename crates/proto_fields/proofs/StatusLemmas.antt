-- A status is the one that its number stands for, unless it is an Other in place of one that is listed.
use Rattle.std.proofs.Common.{◌≡◌, ℕ, zero, suc, subst, ◌<◌, ◌%◌, ◌^◌, ◌==◌, false, refl, sym, ap, ◌∙◌, arith}
use Rattle.std.proofs.lemmas.Bool.Decides.{nat_tests}
use Rattle.hd_base.specs.declared.states.Status.{Status}
use Rattle.hd_base.specs.declared.states.Status.TheVariants as status
use Rattle.hd_base.specs.Wire.{status_number, status_with, decoded_status, IsStatus}

past_listed : (n k : ℕ) → 7 < n → k < 8 → (n == k) ≡ false
past_listed n k past small = grind (arith, nat_tests)

status_with_other : (n : ℕ) → 7 < n → status_with n ≡ status.Other n
status_with_other n past =
    rw (past_listed n 0 past (omega arith), past_listed n 1 past (omega arith), past_listed n 2 past (omega arith), past_listed n 3 past (omega arith), past_listed n 4 past (omega arith), past_listed n 5 past (omega arith), past_listed n 6 past (omega arith), past_listed n 7 past (omega arith)) refl

pub status_with_number : (s : Status) → IsStatus s → status_with (status_number s) ≡ s
status_with_number status.Success listed = refl
status_with_number status.Error listed = refl
status_with_number status.ErrorChecksum listed = refl
status_with_number status.ErrorInvalid listed = refl
status_with_number status.ErrorExists listed = refl
status_with_number status.ErrorAccessToken listed = refl
status_with_number status.ChecksumOk listed = refl
status_with_number status.ErrorUnsupported listed = refl
status_with_number (status.Other n) listed = status_with_other n listed

-- a status with the number's low 32 bits is what the number stands for
pub decoded_status_is : (s : Status) (n : ℕ) → status_number s ≡ n % 2 ^ 32 → IsStatus s → s ≡ decoded_status n
unfolding decoded_status
decoded_status_is s n e listed = sym (status_with_number s listed) ∙ ap status_with e

-- a written status is decoded again
pub decoded_status_number : (s : Status) → IsStatus s → status_number s < 2 ^ 32 → decoded_status (status_number s) ≡ s
decoded_status_number s listed fits =
    let low : status_number s ≡ status_number s % 2 ^ 32 = omega arith in
    sym (decoded_status_is s (status_number s) low listed)

-- No number stands for an Other in place of a status that is listed.
status_with_listed : (n : ℕ) → IsStatus (status_with n)
status_with_listed zero = tt
status_with_listed (suc zero) = tt
status_with_listed (suc (suc zero)) = tt
status_with_listed (suc (suc (suc zero))) = tt
status_with_listed (suc (suc (suc (suc zero)))) = tt
status_with_listed (suc (suc (suc (suc (suc zero))))) = tt
status_with_listed (suc (suc (suc (suc (suc (suc zero)))))) = tt
status_with_listed (suc (suc (suc (suc (suc (suc (suc zero))))))) = tt
status_with_listed (suc (suc (suc (suc (suc (suc (suc (suc n)))))))) =
    let past : 7 < suc (suc (suc (suc (suc (suc (suc (suc n))))))) = omega arith in
    subst IsStatus (sym (status_with_other (suc (suc (suc (suc (suc (suc (suc (suc n)))))))) past)) past

pub decoded_status_listed : (n : ℕ) → IsStatus (decoded_status n)
unfolding decoded_status
decoded_status_listed n = status_with_listed (n % 2 ^ 32)
