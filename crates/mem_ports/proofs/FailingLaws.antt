-- Laws of the lists of call numbers.
use Rattle.std.proofs.Common.{◌≡◌, ℕ, ◌+◌, ◌-◌, ◌==◌, ◌≤◌, ◌||◌, Bool, true, false, cond, nat_lt, List, [], ◌∷◌, length, arith, refl}
use Rattle.std.specs.List.{list_any}
use Rattle.std.proofs.lemmas.Bool.Decides.{nat_tests}
use Rattle.hd_base.specs.Faults.{after_one_call}
use Rattle.mem_ports.specs.Failing.{schedule_of, counted_on}

-- a number that isn't past
due_later : (n k : ℕ) (rest more : Bool) → rest ≡ more → nat_lt 0 (n - 1) ≡ true → ((n - 1 == k + 1) || rest) ≡ ((n == k + 1 + 1) || more)
due_later n k rest more same never_falls = grind (arith, nat_tests)

-- a number that is past
due_past : (n k : ℕ) (rest more : Bool) → rest ≡ more → nat_lt 0 (n - 1) ≡ false → rest ≡ ((n == k + 1 + 1) || more)
due_past n k rest more same past = grind (arith, nat_tests)

counted_on-due : (numbers : List ℕ) (k : ℕ) → schedule_of (counted_on numbers) k ≡ schedule_of numbers (k + 1)
counted_on-due [] k = refl
counted_on-due (n ∷ rest) k =
    elim (nat_lt 0 (n - 1)) as (λ b. nat_lt 0 (n - 1) ≡ b → list_any (λ m. m == k + 1) (cond b ((n - 1) ∷ counted_on rest) (counted_on rest)) ≡ schedule_of (n ∷ rest) (k + 1)) [
      | true ↦ λ never_falls. due_later n k _ _ (counted_on-due rest k) never_falls
      | false ↦ λ past. due_past n k _ _ (counted_on-due rest k) past
    ] refl

-- What is left of the numbers gives the calls after the next.
pub schedule_of-counted_on : (numbers : List ℕ) → schedule_of (counted_on numbers) ≡ after_one_call (schedule_of numbers)
schedule_of-counted_on numbers = λ i k. counted_on-due numbers k i

-- how many stay, where one stays or doesn't
fewer : (n here rest all : ℕ) (due : Bool) → here + cond due 1 0 ≤ all → nat_lt 0 (n - 1) ≡ true → here + 1 + cond ((n == 1) || due) 1 0 ≤ all + 1
fewer n here rest all due small never_falls = grind (arith, nat_tests)

fewest : (n here all : ℕ) (due : Bool) → here + cond due 1 0 ≤ all → here + cond ((n == 1) || due) 1 0 ≤ all + 1
fewest n here all due small = grind (arith, nat_tests)

-- A number that is due leaves the list.
pub length-counted_on : (numbers : List ℕ) → length (counted_on numbers) + cond (schedule_of numbers 0) 1 0 ≤ length numbers
length-counted_on [] = grind arith
length-counted_on (n ∷ rest) =
    elim (nat_lt 0 (n - 1)) as (λ b. nat_lt 0 (n - 1) ≡ b → length (cond b ((n - 1) ∷ counted_on rest) (counted_on rest)) + cond (schedule_of (n ∷ rest) 0) 1 0 ≤ length (n ∷ rest)) [
      | true ↦ λ never_falls. omega (arith, fewer n (length (counted_on rest)) 0 (length rest) (schedule_of rest 0) (length-counted_on rest) never_falls)
      | false ↦ λ past. omega (arith, fewest n (length (counted_on rest)) (length rest) (schedule_of rest 0) (length-counted_on rest))
    ] refl
