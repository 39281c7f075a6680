-- Fields by their numbers: where the fields in front and behind have other numbers, those in between tell.
use Rattle.std.proofs.Common.{◌≡◌, ℕ, ◌<◌, ◌≤◌, ◌==◌, false, List, [], ◌∷◌, ◌++◌, Option, None, refl, ap, ◌∙◌, append-nil, arith}
use Rattle.std.specs.Option.{option_or}
use Rattle.std.proofs.lemmas.Bool.{ne_eqb}
use Rattle.std.proofs.lemmas.List.Elements.{filter_map-append}
use Rattle.proto_fields.specs.declared.reading.Wire.{Wire}
use Rattle.proto_fields.specs.Values.{part_of, picked, last_of, parts}
use Rattle.proto_fields.proofs.ValueLemmas.{option_or-None}

-- each field's number is such
abbrev pub EachNumber : (ℕ → Type 0) → List (ℕ × Wire) → Type 0
EachNumber P [] = Unit {0}
EachNumber P (f ∷ fs) = P f.0 × EachNumber P fs

pub EachNumber-append : (P : ℕ → Type 0) (xs ys : List (ℕ × Wire)) → EachNumber P xs → EachNumber P ys → EachNumber P (xs ++ ys)
EachNumber-append P [] ys a b = b
EachNumber-append P (f ∷ xs) ys a b = (a.0, EachNumber-append P xs ys a.1 b)

pub EachNumber-weaker : (P Q : ℕ → Type 0) → ((n : ℕ) → P n → Q n) → (fs : List (ℕ × Wire)) → EachNumber P fs → EachNumber Q fs
EachNumber-weaker P Q h [] a = tt
EachNumber-weaker P Q h (f ∷ fs) a = (h f.0 a.0, EachNumber-weaker P Q h fs a.1)

-- each field has another number
abbrev pub HasOthers : ℕ → List (ℕ × Wire) → Type 0
HasOthers number fs = EachNumber (λ m. (m == number) ≡ false) fs

pub others_before : (low number : ℕ) (fs : List (ℕ × Wire)) → low < number → EachNumber (λ m. m ≤ low) fs → HasOthers number fs
others_before low number fs less a = EachNumber-weaker _ _ (λ m h. ne_eqb m number (λ e. absurd (omega arith))) fs a

pub others_behind : (number : ℕ) (fs : List (ℕ × Wire)) → EachNumber (λ m. number < m) fs → HasOthers number fs
others_behind number fs a = EachNumber-weaker _ _ (λ m h. ne_eqb m number (λ e. absurd (omega arith))) fs a

module _ {X : Type 0} (pick : Wire → Option X) (number : ℕ) where
  picked-other : (f : ℕ × Wire) → (f.0 == number) ≡ false → picked pick number f ≡ None
  picked-other f e = rw e refl

  last_of-none : (fs : List (ℕ × Wire)) → HasOthers number fs → last_of pick number fs ≡ None
  last_of-none [] a = refl
  last_of-none (f ∷ fs) a = rw (last_of-none fs a.1) (picked-other f a.0)

  last_of-behind : (here behind : List (ℕ × Wire)) → HasOthers number behind → last_of pick number (here ++ behind) ≡ last_of pick number here
  last_of-behind [] behind a = last_of-none behind a
  last_of-behind (f ∷ here) behind a = ap (λ o. option_or o (picked pick number f)) (last_of-behind here behind a)

  last_of-before : (before fs : List (ℕ × Wire)) → HasOthers number before → last_of pick number (before ++ fs) ≡ last_of pick number fs
  last_of-before [] fs a = refl
  last_of-before (f ∷ before) fs a =
      ap (λ o. option_or (last_of pick number (before ++ fs)) o) (picked-other f a.0)
      ∙ (option_or-None (last_of pick number (before ++ fs)) ∙ last_of-before before fs a.1)

-- the last value is that of the fields in between
pub last_of-between : {X : Type 0} (pick : Wire → Option X) (number : ℕ) (before here behind : List (ℕ × Wire)) → HasOthers number before → HasOthers number behind → last_of pick number (before ++ (here ++ behind)) ≡ last_of pick number here
last_of-between pick number before here behind a b = last_of-before pick number before (here ++ behind) a ∙ last_of-behind pick number here behind b

parts-none : (number : ℕ) (fs : List (ℕ × Wire)) → HasOthers number fs → parts number fs ≡ []
parts-none number [] a = refl
parts-none number (f ∷ fs) a = rw (picked-other part_of number f a.0) (parts-none number fs a.1)

-- the parts are those of the fields in between
pub parts-between : (number : ℕ) (before here behind : List (ℕ × Wire)) → HasOthers number before → HasOthers number behind → parts number (before ++ (here ++ behind)) ≡ parts number here
parts-between number before here behind a b =
    filter_map-append (picked part_of number) before (here ++ behind)
    ∙ (ap (λ l. l ++ parts number (here ++ behind)) (parts-none number before a)
    ∙ (filter_map-append (picked part_of number) here behind
    ∙ (ap (λ l. parts number here ++ l) (parts-none number behind b) ∙ append-nil (parts number here))))
