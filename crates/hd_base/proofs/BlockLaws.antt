-- Laws of numbers in least decimal: what `decimal` writes is read again, and what is read is what it writes.
use Rattle.std.proofs.Common.{◌≡◌, ◌==◌, ℕ, ◌+◌, ◌-◌, ◌*◌, ◌^◌, ◌<◌, ◌≤◌, ◌&&◌, Bool, true, false, nat_lt, List, [], ◌∷◌, ◌++◌, get_or, Option, Some, None, cond, arith, rules, refl, sym, ◌∙◌, ap, suc, zero, zero-add}
use Rattle.std.proofs.lemmas.Option.{same_Some}
use Rattle.std.proofs.lemmas.Bool.Decides.{nat_tests}
use Rattle.std.specs.Fmt.{decimal}
use Rattle.std.proofs.lemmas.Fmt.{decimal_digit, digits_decimal, digits_value-decimal, decimal-digits_value, first_decimal}
use Rattle.std.proofs.lemmas.Str.Parse.{IsNumeralModel, numerals_by_fold}
use Rattle.std.proofs.lemmas.Grind.{common_steps}
use Rattle.hd_base.specs.Numerals.{is_digit}
use Rattle.hd_base.specs.Blocks.{digits_at, number_at, behind_slash, IsBare}

-- digits alone
abbrev pub all_digits : List ℕ → Bool
all_digits [] = true
all_digits (c ∷ cs) = is_digit c && all_digits cs

-- the number that digits spell behind those of n
abbrev pub read_on : ℕ → List ℕ → ℕ
read_on n [] = n
read_on n (c ∷ cs) = read_on (n * 10 + (c - 48)) cs

pub own : IsNumeralModel (λ ds. all_digits ds ≡ true) (read_on 0)
own = numerals_by_fold _ (search rules) read_on (search rules)

-- the first digit is the number so far
read_on-first : (c : ℕ) (cs : List ℕ) → read_on 0 (c ∷ cs) ≡ read_on (c - 48) cs
read_on-first c cs = ap (λ k. read_on k cs) (zero-add (c - 48))

-- a number only grows as digits are read on
read_on-grows : (n : ℕ) (ds : List ℕ) → n ≤ read_on n ds
read_on-grows n [] = omega arith
read_on-grows n (c ∷ cs) = omega (arith, read_on-grows (n * 10 + (c - 48)) cs)

-- Digits that a text without a digit at its front follows are read as the number that they spell.
digits_at-append : (n : ℕ) (ds rest : List ℕ) → all_digits ds ≡ true → IsBare rest → read_on n ds < 2 ^ 64 → digits_at n (ds ++ rest) ≡ Some (read_on n ds, rest)
digits_at-append n [] [] all bare fits = refl
digits_at-append n [] (c ∷ cs) all bare fits = rw bare refl
digits_at-append n (c ∷ cs) rest all bare fits =
    let digit : is_digit c ≡ true = grind (arith, common_steps) in
    let others : all_digits cs ≡ true = grind (arith, common_steps) in
    let small : nat_lt (n * 10 + (c - 48)) (2 ^ 64) ≡ true = grind (arith, common_steps, read_on-grows (n * 10 + (c - 48)) cs) in
    rw digit (rw small (digits_at-append (n * 10 + (c - 48)) cs rest others bare fits))

-- what stands in front of a text, with the facts that a reader of digits learns of it
record Digits (n m : ℕ) (text rest : List ℕ) : Type 0 where
  front : List ℕ
  whole : text ≡ front ++ rest
  digits : all_digits front ≡ true
  value : m ≡ read_on n front
  fits : m < 2 ^ 64

none_some : {A : Type 0} {x : A} → None ≡ Some x → ⊥
none_some e = cc

-- one more digit in front
one_more : (n c : ℕ) (cs : List ℕ) (m : ℕ) (rest : List ℕ) → is_digit c ≡ true → Digits (n * 10 + (c - 48)) m cs rest → Digits n m (c ∷ cs) rest
one_more n c cs m rest digit d = record {
  front = c ∷ d.front;
  whole = ap (λ l. c ∷ l) d.whole;
  digits = rw digit d.digits;
  value = d.value;
  fits = d.fits;
}

-- a number and the text behind it
abbrev found : ℕ → List ℕ → Option (ℕ × List ℕ)
found n rest = Some (n, rest)

abbrev pair : ℕ → List ℕ → ℕ × List ℕ
pair n rest = (n, rest)

abbrev number_of : ℕ × List ℕ → ℕ
number_of p = p.0

abbrev text_of : ℕ × List ℕ → List ℕ
text_of p = p.1

same_pairs : (n m : ℕ) (text rest : List ℕ) → found n text ≡ found m rest → pair n text ≡ pair m rest
same_pairs n m text rest e = same_Some (pair n text) (pair m rest) e

-- what is found in two ways is the same
found_value : (n m : ℕ) (text rest : List ℕ) → found n text ≡ found m rest → n ≡ m
found_value n m text rest e = ap number_of (same_pairs n m text rest e)

found_rest : (n m : ℕ) (text rest : List ℕ) → found n text ≡ found m rest → text ≡ rest
found_rest n m text rest e = ap text_of (same_pairs n m text rest e)

-- no digit in front
no_more : (n : ℕ) (text : List ℕ) (m : ℕ) (rest : List ℕ) → n < 2 ^ 64 → found n text ≡ found m rest → Digits n m text rest
no_more n text m rest small e =
    let value : n ≡ m = found_value n m text rest e in
    let left : text ≡ rest = found_rest n m text rest e in
    record { front = []; whole = left; digits = refl; value = sym value; fits = omega (arith, value) }

-- What was read as digits is these digits.
digits_at-front : (n : ℕ) (text : List ℕ) (m : ℕ) (rest : List ℕ) → n < 2 ^ 64 → digits_at n text ≡ Some (m, rest) → Digits n m text rest
digits_at-front n [] m rest small e = no_more n [] m rest small e
digits_at-front n (c ∷ cs) m rest small e =
    elim (is_digit c) as (λ b. is_digit c ≡ b → cond b (cond (nat_lt (n * 10 + (c - 48)) (2 ^ 64)) (digits_at (n * 10 + (c - 48)) cs) None) (Some (n, c ∷ cs)) ≡ Some (m, rest) → Digits n m (c ∷ cs) rest) [
      | true ↦ λ digit there.
          elim (nat_lt (n * 10 + (c - 48)) (2 ^ 64)) as (λ b. nat_lt (n * 10 + (c - 48)) (2 ^ 64) ≡ b → cond b (digits_at (n * 10 + (c - 48)) cs) None ≡ Some (m, rest) → Digits n m (c ∷ cs) rest) [
            | true ↦ λ fits here. one_more n c cs m rest digit (digits_at-front (n * 10 + (c - 48)) cs m rest (grind (arith, common_steps, fits)) here)
            | false ↦ λ over here. absurd (none_some here)
          ] refl there
      | false ↦ λ digit there. no_more n (c ∷ cs) m rest small there
    ] refl e

-- digits without a leading zero are read as their number
spelled : (ds : List ℕ) (n : ℕ) (rest : List ℕ) → n < 2 ^ 64 → IsBare rest → 48 < get_or ds 0 0 → all_digits ds ≡ true → read_on 0 ds ≡ n → number_at (ds ++ rest) ≡ Some (n, rest)
spelled [] n rest fits bare first all value = absurd (omega (arith, first))
spelled (c ∷ cs) n rest fits bare first all value =
    let digit : is_digit c ≡ true = grind (arith, common_steps) in
    let others : all_digits cs ≡ true = grind (arith, common_steps) in
    let not_zero : (c == 48) ≡ false = grind (arith, common_steps, nat_tests) in
    let whole : read_on (c - 48) cs ≡ n = sym (read_on-first c cs) ∙ value in
    rw not_zero (rw digit (digits_at-append (c - 48) cs rest others bare (omega (arith, whole)) ∙ ap (λ v. Some (v, rest)) whole))

-- What `decimal` writes is read again, with what stands behind it where no digit follows.
pub number_at-decimal : (n : ℕ) (rest : List ℕ) → n < 2 ^ 64 → IsBare rest → number_at (decimal n ++ rest) ≡ Some (n, rest)
number_at-decimal zero rest fits bare = rw (decimal_digit 0 (omega arith)) refl
number_at-decimal (suc n) rest fits bare =
    spelled (decimal (suc n)) (suc n) rest fits bare
    (first_decimal (suc n) (omega arith) fits)
    (digits_decimal own (suc n) fits)
    (digits_value-decimal own (suc n) fits)

-- a number that was found, with its text
record Spelled (text : List ℕ) (n : ℕ) (rest : List ℕ) : Type 0 where
  fits : n < 2 ^ 64
  whole : text ≡ decimal n ++ rest

-- a 0 is the whole number
spells_zero : (c : ℕ) (cs : List ℕ) (n : ℕ) (rest : List ℕ) → (c == 48) ≡ true → found 0 cs ≡ found n rest → Spelled (c ∷ cs) n rest
spells_zero c cs n rest zero_digit e =
    let digit : c ≡ 48 = grind (arith, common_steps, nat_tests) in
    let value : 0 ≡ n = found_value 0 n cs rest e in
    let left : cs ≡ rest = found_rest 0 n cs rest e in
    let text : decimal n ≡ 48 ∷ [] = rw (← value) (decimal_digit 0 (omega arith)) in
    record { fits = omega (arith, value); whole = rw (text, digit, left) refl }

-- any other number begins with another digit
spells_more : (c : ℕ) (cs : List ℕ) (n : ℕ) (rest : List ℕ) → (c == 48) ≡ false → is_digit c ≡ true → Digits (c - 48) n cs rest → Spelled (c ∷ cs) n rest
spells_more c cs n rest not_zero digit d =
    let apart : c ≡ 48 → ⊥ = λ e. absurd (grind (arith, common_steps, nat_tests)) in
    let all : all_digits (c ∷ d.front) ≡ true = rw digit d.digits in
    let value : read_on 0 (c ∷ d.front) ≡ n = read_on-first c d.front ∙ sym d.value in
    let text : decimal (read_on 0 (c ∷ d.front)) ≡ c ∷ d.front =
    decimal-digits_value own (c ∷ d.front) all (omega arith) (λ e. absurd (apart e)) (omega (arith, value, d.fits)) in
    record { fits = d.fits; whole = rw (← value, text) (ap (λ l. c ∷ l) d.whole) }

-- What is read is what `decimal` writes.
spells : (text : List ℕ) (n : ℕ) (rest : List ℕ) → number_at text ≡ found n rest → Spelled text n rest
spells [] n rest e = absurd (none_some e)
spells (c ∷ cs) n rest e =
    elim (c == 48) as (λ b. (c == 48) ≡ b → cond b (found 0 cs) (cond (is_digit c) (digits_at (c - 48) cs) None) ≡ found n rest → Spelled (c ∷ cs) n rest) [
      | true ↦ λ zero_digit there. spells_zero c cs n rest zero_digit there
      | false ↦ λ not_zero there.
          elim (is_digit c) as (λ b. is_digit c ≡ b → cond b (digits_at (c - 48) cs) None ≡ found n rest → Spelled (c ∷ cs) n rest) [
            | true ↦ λ digit here. spells_more c cs n rest not_zero digit (digits_at-front (c - 48) cs n rest (grind (arith, common_steps, nat_tests, digit)) here)
            | false ↦ λ other here. absurd (none_some here)
          ] refl there
    ] refl e

pub number_at-fits : (text : List ℕ) (n : ℕ) (rest : List ℕ) → number_at text ≡ Some (n, rest) → n < 2 ^ 64
number_at-fits text n rest e = (spells text n rest e).fits

pub number_at-decimal_front : (text : List ℕ) (n : ℕ) (rest : List ℕ) → number_at text ≡ Some (n, rest) → text ≡ decimal n ++ rest
number_at-decimal_front text n rest e = (spells text n rest e).whole

-- `decimal` writes digits alone.
pub all_digits-decimal : (n : ℕ) → n < 2 ^ 64 → all_digits (decimal n) ≡ true
all_digits-decimal n fits = digits_decimal own n fits

-- Digits lead to no other part of a path.
pub behind_slash-digits : (base ds rest : List ℕ) → all_digits ds ≡ true → behind_slash base (ds ++ rest) ≡ behind_slash base rest
behind_slash-digits base [] rest all = refl
behind_slash-digits base (c ∷ cs) rest all =
    let digit : is_digit c ≡ true = grind (arith, common_steps) in
    let others : all_digits cs ≡ true = grind (arith, common_steps) in
    let no_slash : (c == 47) ≡ false = grind (arith, common_steps, nat_tests) in
    rw no_slash (behind_slash-digits base cs rest others)
