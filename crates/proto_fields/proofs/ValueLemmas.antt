-- The values under one number, one field after the other.
use Rattle.std.proofs.Common.{set, replicate, sym, ◌≡◌, ℕ, zero, suc, ◌+◌, ◌<◌, ◌≤◌, Bool, true, false, cond, List, [], ◌∷◌, ◌++◌, length, take, get_or, Option, Some, None, Ok, refl, ap, ◌∙◌, fold, append-nil, length-append, ◌==◌, arith}
use Rattle.std.specs.List.{flat_map, cons_option}
use Rattle.std.proofs.lemmas.Bool.Decides.{nat_tests}
use Rattle.std.proofs.lemmas.List.Sums.{fold-append}
use Rattle.std.proofs.lemmas.List.{take_more}
use Rattle.std.proofs.lemmas.List.Elements.{filter_map-append}
use Rattle.std.proofs.lemmas.List.Concat.{flat_map-append}
use Rattle.std.specs.Option.{option_or}
use Rattle.proto_fields.specs.declared.reading.Wire.{Wire}
use Rattle.proto_fields.specs.declared.reading.Wire.TheVariants as wire
use Rattle.proto_fields.specs.declared.listing.LastValues.{LastValues}
use Rattle.hd_base.specs.Results.{with_value}
use Rattle.proto_fields.specs.Fields.{SpellsValue, SpellsFrom, fields_at, walked}
use Rattle.hd_base.specs.Bytes.{IsBytes}
use Rattle.hd_base.proofs.ResultLaws.{with_value-same}
use Rattle.proto_fields.proofs.PlaceLemmas.{fields_at_spell}
use Rattle.proto_fields.specs.Inner.{places_of, one_more}
use Rattle.proto_fields.specs.Values.{last_part, values_of, parts, joined_parts, part_bytes, varint_of, fixed64_of, part_of, fixed32_of, picked, last_of, last_values_of, newer, newer_values, no_values, last_values_from, newer_list}

option_or_assoc : {X : Type 0} (a b c : Option X) → option_or a (option_or b c) ≡ option_or (option_or a b) c
option_or_assoc None b c = refl
option_or_assoc (Some x) b c = refl

pub option_or-None : {X : Type 0} (a : Option X) → option_or a None ≡ a
option_or-None None = refl
option_or-None (Some x) = refl

-- The last value, one field after the other.
pub fold-newer : {X : Type 0} (pick : Wire → Option X) (number : ℕ) (last : Option X) (fs : List (ℕ × Wire)) → fold (newer pick number) last fs ≡ option_or (last_of pick number fs) last
fold-newer pick number last [] = refl
fold-newer pick number last (f ∷ fs) = fold-newer pick number (newer pick number last f) fs ∙ option_or_assoc (last_of pick number fs) (picked pick number f) last

pub fold_newer_last : {X : Type 0} (pick : Wire → Option X) (number : ℕ) (fs : List (ℕ × Wire)) → fold (newer pick number) None fs ≡ last_of pick number fs
fold_newer_last pick number fs = fold-newer pick number None fs ∙ option_or-None (last_of pick number fs)

-- the four kinds of value side by side
fold-newer_values : (number : ℕ) (last : LastValues) (fs : List (ℕ × Wire)) → fold (newer_values number) last fs ≡ record {
  varint = fold (newer varint_of number) last.varint fs;
  fixed64 = fold (newer fixed64_of number) last.fixed64 fs;
  part = fold (newer part_of number) last.part fs;
  fixed32 = fold (newer fixed32_of number) last.fixed32 fs;
}
fold-newer_values number last [] = refl
fold-newer_values number last (f ∷ fs) = fold-newer_values number (newer_values number last f) fs

pub fold_last_values : (number : ℕ) (fs : List (ℕ × Wire)) → fold (newer_values number) no_values fs ≡ last_values_of number fs
fold_last_values number fs =
    fold-newer_values number no_values fs
    ∙ rw (fold_newer_last varint_of number fs, fold_newer_last fixed64_of number fs, fold_newer_last part_of number fs, fold_newer_last fixed32_of number fs) refl

-- a walk over a message that keeps the last values
pub walked_last_values : (number : ℕ) (bytes : List ℕ) → walked (newer_values number) no_values bytes 0 ≡ with_value (last_values_of number) (fields_at bytes)
walked_last_values number bytes = with_value-same _ _ (fold_last_values number) (fields_at bytes)

-- ---- the last values of several numbers

-- a field of another number changes nothing
newer_values-other : (number : ℕ) (last : LastValues) (f : ℕ × Wire) → (f.0 == number) ≡ false → newer_values number last f ≡ last
newer_values-other number last f e = rw e refl

pub newer_list-before : (first : ℕ) (xs : List LastValues) (f : ℕ × Wire) → f.0 < first → newer_list first xs f ≡ xs
newer_list-before first [] f low = refl
newer_list-before first (x ∷ xs) f low =
    let other : (f.0 == first) ≡ false = grind (arith, nat_tests) in
    rw (newer_values-other first x f other) (ap (λ l. x ∷ l) (newer_list-before (first + 1) xs f (omega arith)))

pub newer_list-past : (first : ℕ) (xs : List LastValues) (f : ℕ × Wire) → first + length xs ≤ f.0 → newer_list first xs f ≡ xs
newer_list-past first [] f high = refl
newer_list-past first (x ∷ xs) f high =
    let other : (f.0 == first) ≡ false = grind (arith, nat_tests) in
    rw (newer_values-other first x f other) (ap (λ l. x ∷ l) (newer_list-past (first + 1) xs f (omega arith)))

pub newer_list-at : (first : ℕ) (xs : List LastValues) (f : ℕ × Wire) (i : ℕ) (d : LastValues) → f.0 ≡ first + i → i < length xs → set xs i (newer_values f.0 (get_or xs i d) f) ≡ newer_list first xs f
newer_list-at first [] f i d e within = absurd (omega arith)
newer_list-at first (x ∷ xs) f zero d e within =
    let same : f.0 ≡ first = omega arith in
    ap (λ n. newer_values n x f ∷ xs) same ∙ ap (λ l. newer_values first x f ∷ l) (sym (newer_list-before (first + 1) xs f (omega arith)))
newer_list-at first (x ∷ xs) f (suc i) d e within =
    let other : (f.0 == first) ≡ false = grind (arith, nat_tests) in
    rw (newer_values-other first x f other) (ap (λ l. x ∷ l) (newer_list-at (first + 1) xs f i d (omega arith) (omega arith)))

last_values-more : (number : ℕ) (fs : List (ℕ × Wire)) (f : ℕ × Wire) → last_values_of number (fs ++ f ∷ []) ≡ newer_values number (last_values_of number fs) f
last_values-more number fs f =
    sym (fold_last_values number (fs ++ f ∷ []))
    ∙ (fold-append (newer_values number) no_values fs (f ∷ []) ∙ ap (λ last. newer_values number last f) (fold_last_values number fs))

pub last_values_from-more : (count first : ℕ) (fs : List (ℕ × Wire)) (f : ℕ × Wire) → last_values_from count first (fs ++ f ∷ []) ≡ newer_list first (last_values_from count first fs) f
last_values_from-more zero first fs f = refl
last_values_from-more (suc count) first fs f =
    rw (last_values-more first fs f) (ap (λ l. newer_values first (last_values_of first fs) f ∷ l) (last_values_from-more count (first + 1) fs f))

-- one field more, of those in front of a place
pub newer_list-turn : (count : ℕ) (fs : List (ℕ × Wire)) (i : ℕ) (d : ℕ × Wire) (last new : List LastValues) → i < length fs → last ≡ last_values_from count 1 (take i fs) → new ≡ newer_list 1 last (get_or fs i d) → new ≡ last_values_from count 1 (take (i + 1) fs)
newer_list-turn count fs i d last new within so_far step =
    step
    ∙ (ap (λ l. newer_list 1 l (get_or fs i d)) so_far
    ∙ (sym (last_values_from-more count 1 (take i fs) (get_or fs i d)) ∙ ap (last_values_from count 1) (sym (take_more fs i d within))))

pub last_values_from-none : (count first : ℕ) → replicate count no_values ≡ last_values_from count first []
last_values_from-none zero first = refl
last_values_from-none (suc count) first = ap (λ l. no_values ∷ l) (last_values_from-none count (first + 1))

-- ---- the parts of a number

-- one field more, with no part of the number
pub parts-none : (number : ℕ) (fs : List (ℕ × Wire)) (i : ℕ) (d : ℕ × Wire) → i < length fs → picked part_of number (get_or fs i d) ≡ None → parts number (take (i + 1) fs) ≡ parts number (take i fs)
parts-none number fs i d within e =
    ap (parts number) (take_more fs i d within)
    ∙ (filter_map-append (picked part_of number) (take i fs) (get_or fs i d ∷ [])
    ∙ rw e (append-nil (parts number (take i fs))))

-- one field more, with a part of the number
pub parts-some : (number : ℕ) (fs : List (ℕ × Wire)) (i : ℕ) (d : ℕ × Wire) (p : ℕ × ℕ) → i < length fs → picked part_of number (get_or fs i d) ≡ Some p → parts number (take (i + 1) fs) ≡ parts number (take i fs) ++ p ∷ []
parts-some number fs i d p within e =
    ap (parts number) (take_more fs i d within)
    ∙ (filter_map-append (picked part_of number) (take i fs) (get_or fs i d ∷ [])
    ∙ rw e refl)

-- where the parts lie, with one more behind
pub places_of-more : (ps : List (ℕ × ℕ)) (p : ℕ × ℕ) → places_of (ps ++ p ∷ []) ≡ one_more (places_of ps) p
places_of-more [] p = refl
places_of-more (q ∷ []) p = refl
places_of-more (q ∷ r ∷ ps) p = refl

-- The last value is the last of all values.
abbrev last_in : {X : Type 0} → List X → Option X
last_in [] = None
last_in (x ∷ xs) = option_or (last_in xs) (Some x)

last_of_values : {X : Type 0} (pick : Wire → Option X) (number : ℕ) (fs : List (ℕ × Wire)) → last_of pick number fs ≡ last_in (values_of pick number fs)
last_of_values pick number [] = refl
last_of_values {X = X} pick number (f ∷ fs) = by_head (picked pick number f) (last_of_values pick number fs) where
  by_head : (o : Option X) → last_of pick number fs ≡ last_in (values_of pick number fs) → option_or (last_of pick number fs) o ≡ last_in (cons_option o (values_of pick number fs))
  by_head None e = option_or-None (last_of pick number fs) ∙ e
  by_head (Some x) e = ap (λ l. option_or l (Some x)) e

-- A single part is the last one.
pub single_last : (number : ℕ) (fs : List (ℕ × Wire)) (p : ℕ × ℕ) → parts number fs ≡ p ∷ [] → last_part number fs ≡ Some p
single_last number fs p e = last_of_values part_of number fs ∙ ap last_in e

pub joined_parts-some : (bytes : List ℕ) (number : ℕ) (fs : List (ℕ × Wire)) (i : ℕ) (d : ℕ × Wire) (p : ℕ × ℕ) → i < length fs → picked part_of number (get_or fs i d) ≡ Some p → joined_parts bytes number (take (i + 1) fs) ≡ joined_parts bytes number (take i fs) ++ part_bytes bytes p
joined_parts-some bytes number fs i d p within e =
    ap (flat_map (part_bytes bytes)) (parts-some number fs i d p within e)
    ∙ (flat_map-append (part_bytes bytes) (parts number (take i fs)) (p ∷ [])
    ∙ ap (λ l. joined_parts bytes number (take i fs) ++ l) (append-nil (part_bytes bytes p)))

-- the places of a part lie within the bytes
abbrev pub IsPlacedWithin : ℕ → Wire → Type 0
IsPlacedWithin size (wire.Part from to) = (from ≤ to) × (to ≤ size)
IsPlacedWithin size _ = Unit {0}

placed_value : (size at : ℕ) (value : Wire) (text : List ℕ) → SpellsValue at value text → at + length text ≤ size → IsPlacedWithin size value
placed_value size at (wire.Varint n) text s within = tt
placed_value size at (wire.Eight n) text s within = tt
placed_value size at (wire.Part from to) text s within =
    (omega (arith, s.begins, s.ends, ap length s.parts ∙ length-append s.len s.bytes), omega (arith, s.ends))
placed_value size at (wire.Four n) text s within = tt

placed_fields : (size at : ℕ) (fs : List (ℕ × Wire)) (bytes : List ℕ) (i : ℕ) (d : ℕ × Wire) → SpellsFrom at fs bytes → at + length bytes ≤ size → i < length fs → IsPlacedWithin size (get_or fs i d).1
placed_fields size at [] bytes i d s within few = absurd (omega arith)
placed_fields size at (f ∷ fs) bytes zero d s within few =
    let field = s.3 in
    placed_value size (at + length field.tag) f.1 field.value field.value_spelled
    (omega (arith, ap length s.2 ∙ length-append s.0 s.1, ap length field.parts ∙ length-append field.tag field.value))
placed_fields size at (f ∷ fs) bytes (suc i) d s within few =
    placed_fields size (at + length s.0) fs s.1 i d s.4 (omega (arith, ap length s.2 ∙ length-append s.0 s.1)) (omega arith)

placed_part : (size number : ℕ) (f : ℕ × Wire) (p : ℕ × ℕ) → IsPlacedWithin size f.1 → picked part_of number f ≡ Some p → (p.0 ≤ p.1) × (p.1 ≤ size)
placed_part size number f p placed e = by_test (f.0 == number) f.1 placed e where
  by_test : (b : Bool) (value : Wire) → IsPlacedWithin size value → cond b (part_of value) None ≡ Some p → (p.0 ≤ p.1) × (p.1 ≤ size)
  by_test false value placed e = cc
  by_test true (wire.Varint n) placed e = cc
  by_test true (wire.Eight n) placed e = cc
  by_test true (wire.Part from to) placed e = let same : (from, to) ≡ p = some_is (from, to) p e in rw (← same) placed where
    some_is : (x y : ℕ × ℕ) → Some x ≡ Some y → x ≡ y
    some_is x y e = cc
  by_test true (wire.Four n) placed e = cc

pub part_within : (bytes : List ℕ) (fs : List (ℕ × Wire)) (number i : ℕ) (d : ℕ × Wire) (p : ℕ × ℕ) → IsBytes bytes → fields_at bytes ≡ Ok fs → i < length fs → picked part_of number (get_or fs i d) ≡ Some p → (p.0 ≤ p.1) × (p.1 ≤ length bytes)
part_within bytes fs number i d p fits h few e =
    placed_part (length bytes) number (get_or fs i d) p (placed_fields (length bytes) 0 fs bytes i d (fields_at_spell bytes fs fits h) (omega arith) few) e
