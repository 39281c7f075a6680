-- How many bytes fields have at least, in any spelling.
use Rattle.std.proofs.Common.{◌≡◌, ◌==◌, ◌≤◌, ◌+◌, ◌-◌, ◌*◌, ◌/◌, ◌%◌, ℕ, nat_lt, Bool, true, false, if◌then◌else◌, List, [], ◌∷◌, length, map, slice_range, Option, Some, None, option_map, refl, ap, ◌∙◌, subst, arith, length-append, length-take, drop}
use Rattle.std.proofs.lemmas.Bool.Decides.{nat_tests}
use Rattle.std.specs.Option.{option_or}
use Rattle.std.specs.Int.{w32, w64, to_le_bytes}
use Rattle.std.specs.List.{cons_option, flat_map}
use Rattle.proto_fields.specs.declared.reading.Wire.{Wire}
use Rattle.proto_fields.specs.declared.reading.Wire.TheVariants as wire
use Rattle.proto_fields.specs.Varint.{SpellsVarint, least_varint, least_within}
use Rattle.proto_fields.specs.Fields.{SpellsValue, SpellsField, SpellsFrom}
use Rattle.proto_fields.specs.Values.{picked, last_of, last_part, varint_of, fixed64_of, fixed32_of, part_of, parts, part_bytes, joined_parts}
use Rattle.proto_fields.specs.Inner.{joined, joined_of}
use Rattle.proto_fields.proofs.VarintLemmas.{least_varint_least}
use Rattle.op_headers.specs.Tables.{NumberKind, Uint64, Bool32, Below, number_of, text_under, texts_under}

-- ---- fields

-- the fewest bytes that a part of this length has with its length, without a tag
abbrev pub sized : ℕ → ℕ
sized n = length (least_varint n) + n

-- the fewest bytes that a field with this value has
abbrev pub least : Wire → ℕ
least (wire.Varint n) = 2
least (wire.Eight n) = 9
least (wire.Part from to) = 1 + sized (to - from)
least (wire.Four n) = 5

abbrev pub of_number : ℕ → ℕ → ℕ → ℕ
of_number number k size = if k == number then size else 0

-- the fewest bytes of the fields with this number
abbrev pub least_of : ℕ → List (ℕ × Wire) → ℕ
least_of number [] = 0
least_of number (f ∷ fs) = of_number number f.0 (least f.1) + least_of number fs

some_bytes : (text : List ℕ) (n : ℕ) → SpellsVarint text n → 1 ≤ length text
some_bytes [] n s = absurd s.shape
some_bytes (b ∷ bs) n s = omega arith

eight : (n : ℕ) → length (to_le_bytes w64 n) ≡ 8
eight n = refl

four : (n : ℕ) → length (to_le_bytes w32 n) ≡ 4
four n = refl

value_size : (at : ℕ) (v : Wire) (text : List ℕ) → SpellsValue at v text → least v ≤ length text + 1
value_size at (wire.Varint n) text s = let some : 1 ≤ length text = some_bytes text n s in omega arith
value_size at (wire.Eight n) text s = let size : length text ≡ 8 = ap length s.1 ∙ eight n in omega arith
value_size at (wire.Part from to) text s =
    let all : length text ≡ length s.len + length s.bytes = ap length s.parts ∙ length-append s.len s.bytes in
    let gap : length s.bytes ≡ to - from = omega (arith, s.begins, s.ends) in
    let fewest : length (least_varint (to - from)) ≤ length s.len =
    subst (λ (n : ℕ). length (least_varint n) ≤ length s.len) gap (least_varint_least s.len (length s.bytes) s.spelled) in
    omega arith
value_size at (wire.Four n) text s = let size : length text ≡ 4 = ap length s.1 ∙ four n in omega arith

field_size : (at : ℕ) (f : ℕ × Wire) (text : List ℕ) → SpellsField at f text → least f.1 ≤ length text
field_size at f text s =
    let some : 1 ≤ length s.tag = some_bytes s.tag s.tag_spelled.key s.tag_spelled.spelled in
    let value : least f.1 ≤ length s.value + 1 = value_size (at + length s.tag) f.1 s.value s.value_spelled in
    let all : length text ≡ length s.tag + length s.value = ap length s.parts ∙ length-append s.tag s.value in
    omega arith

once : (k size : ℕ) → of_number 1 k size + of_number 2 k size + of_number 3 k size + of_number 4 k size + of_number 5 k size + of_number 6 k size ≤ size
once k size = grind (arith, nat_tests)

-- the fields of six numbers lie side by side
pub all_sizes : (at : ℕ) (fs : List (ℕ × Wire)) (bytes : List ℕ) → SpellsFrom at fs bytes → least_of 1 fs + least_of 2 fs + least_of 3 fs + least_of 4 fs + least_of 5 fs + least_of 6 fs ≤ length bytes
all_sizes at [] bytes s = omega arith
all_sizes at (f ∷ fs) bytes s =
    let first : least f.1 ≤ length s.0 = field_size at f s.0 s.3 in
    let others : least_of 1 fs + least_of 2 fs + least_of 3 fs + least_of 4 fs + least_of 5 fs + least_of 6 fs ≤ length s.1 = all_sizes (at + length s.0) fs s.1 s.4 in
    let all : length bytes ≡ length s.0 + length s.1 = ap length s.2 ∙ length-append s.0 s.1 in
    let one : of_number 1 f.0 (least f.1) + of_number 2 f.0 (least f.1) + of_number 3 f.0 (least f.1) + of_number 4 f.0 (least f.1) + of_number 5 f.0 (least f.1) + of_number 6 f.0 (least f.1) ≤ least f.1 = once f.0 (least f.1) in
    omega arith

-- ---- a value that is there

-- a picked value's field has at least so many bytes
pub record Picks {X : Type 0} (pick : Wire → Option X) (size : X → ℕ) : Type 0 where
  pub fits : (v : Wire) (x : X) → pick v ≡ Some x → size x ≤ least v

fits_varint : (v : Wire) (x : ℕ) → varint_of v ≡ Some x → 2 ≤ least v
fits_varint (wire.Varint n) x is = omega arith
fits_varint (wire.Eight n) x is = cc
fits_varint (wire.Part from to) x is = cc
fits_varint (wire.Four n) x is = cc

fits_fixed64 : (v : Wire) (x : ℕ) → fixed64_of v ≡ Some x → 9 ≤ least v
fits_fixed64 (wire.Varint n) x is = cc
fits_fixed64 (wire.Eight n) x is = omega arith
fits_fixed64 (wire.Part from to) x is = cc
fits_fixed64 (wire.Four n) x is = cc

fits_fixed32 : (v : Wire) (x : ℕ) → fixed32_of v ≡ Some x → 5 ≤ least v
fits_fixed32 (wire.Varint n) x is = cc
fits_fixed32 (wire.Eight n) x is = cc
fits_fixed32 (wire.Part from to) x is = cc
fits_fixed32 (wire.Four n) x is = omega arith

-- the fewest bytes of a part's field
abbrev pub part_size : ℕ × ℕ → ℕ
part_size p = 1 + sized (p.1 - p.0)

fits_part : (v : Wire) (p : ℕ × ℕ) → part_of v ≡ Some p → part_size p ≤ least v
fits_part (wire.Varint n) p is = cc
fits_part (wire.Eight n) p is = cc
fits_part (wire.Part from to) p is =
    let same : (from, to) ≡ p = cc in
    subst (λ (q : ℕ × ℕ). part_size q ≤ 1 + sized (to - from)) same (omega arith)
fits_part (wire.Four n) p is = cc

fits_number : (kind : NumberKind) (v : Wire) (x : ℕ) → number_of kind v ≡ Some x → 2 ≤ least v
fits_number Uint64 v x is = fits_varint v x is
fits_number Bool32 (wire.Varint n) x is = omega arith
fits_number Bool32 (wire.Eight n) x is = cc
fits_number Bool32 (wire.Part from to) x is = cc
fits_number Bool32 (wire.Four n) x is = cc
fits_number (Below bound) (wire.Varint n) x is = omega arith
fits_number (Below bound) (wire.Eight n) x is = cc
fits_number (Below bound) (wire.Part from to) x is = cc
fits_number (Below bound) (wire.Four n) x is = cc

pub picks_varint : Picks varint_of (λ (x : ℕ). 2)
picks_varint = record { fits = fits_varint }

pub picks_fixed64 : Picks fixed64_of (λ (x : ℕ). 9)
picks_fixed64 = record { fits = fits_fixed64 }

pub picks_fixed32 : Picks fixed32_of (λ (x : ℕ). 5)
picks_fixed32 = record { fits = fits_fixed32 }

pub picks_part : Picks part_of part_size
picks_part = record { fits = fits_part }

pub picks_number : (kind : NumberKind) → Picks (number_of kind) (λ (x : ℕ). 2)
picks_number kind = record { fits = fits_number kind }

here : {X : Type 0} (pick : Wire → Option X) (size : X → ℕ) (v : Wire) (x : X) (test : Bool) → Picks pick size → (if test then pick v else None) ≡ Some x → size x ≤ (if test then least v else 0)
here pick size v x true p is = p.fits v x is
here pick size v x false p is = cc

later : {X : Type 0} (pick : Wire → Option X) (size : X → ℕ) (number : ℕ) (f : ℕ × Wire) (fs : List (ℕ × Wire)) (x : X) (rest : Option X) → Picks pick size
    → ((y : X) → rest ≡ Some y → size y ≤ least_of number fs) → option_or rest (picked pick number f) ≡ Some x → size x ≤ least_of number (f ∷ fs)
later pick size number f fs x (Some y) p more is =
    let same : y ≡ x = cc in
    let h : size x ≤ least_of number fs = subst (λ z. size z ≤ least_of number fs) same (more y refl) in
    omega arith
later pick size number f fs x None p more is = let h : size x ≤ of_number number f.0 (least f.1) = here pick size f.1 x (f.0 == number) p is in omega arith

-- a value that is there takes so many bytes
pub there : {X : Type 0} (pick : Wire → Option X) (size : X → ℕ) (number : ℕ) (fs : List (ℕ × Wire)) (x : X) → Picks pick size → last_of pick number fs ≡ Some x → size x ≤ least_of number fs
there pick size number [] x p is = cc
there pick size number (f ∷ fs) x p is = later pick size number f fs x (last_of pick number fs) p (λ y h. there pick size number fs y p h) is

pub trans_le : (a b c : ℕ) → a ≤ b → b ≤ c → a ≤ c
trans_le a b c h k = omega arith

-- ---- texts and messages within

pub least_some : (n : ℕ) → 1 ≤ length (least_varint n)
unfolding least_within
least_some n = by_test (nat_lt n 128) where
  by_test : (b : Bool) → 1 ≤ length (if b then n ∷ [] else (n % 128 + 128) ∷ least_within 9 (n / 128))
  by_test true = omega arith
  by_test false = omega arith

pub cut_size : (bytes : List ℕ) (from to : ℕ) → length (slice_range bytes from to) ≤ to - from
cut_size bytes from to = omega (arith, length-take (to - from) (drop from bytes))

parts_step : (bytes : List ℕ) (number k : ℕ) (v : Wire) (test : Bool) (ps : List (ℕ × ℕ)) (rest : ℕ) → length (flat_map (part_bytes bytes) ps) + 2 * length ps ≤ rest
    → length (flat_map (part_bytes bytes) (cons_option (if test then part_of v else None) ps)) + 2 * length (cons_option (if test then part_of v else None) ps) ≤ (if test then least v else 0) + rest
parts_step bytes number k v false ps rest h = omega arith
parts_step bytes number k (wire.Varint n) true ps rest h = omega arith
parts_step bytes number k (wire.Eight n) true ps rest h = omega arith
parts_step bytes number k (wire.Four n) true ps rest h = omega arith
parts_step bytes number k (wire.Part from to) true ps rest h =
    let cut : length (part_bytes bytes (from, to)) ≤ to - from = cut_size bytes from to in
    omega (arith, length-append (part_bytes bytes (from, to)) (flat_map (part_bytes bytes) ps), least_some (to - from))

-- the bytes of all parts of a number, and two more for each
pub parts_size : (bytes : List ℕ) (number : ℕ) (fs : List (ℕ × Wire)) → length (joined_parts bytes number fs) + 2 * length (parts number fs) ≤ least_of number fs
parts_size bytes number [] = omega arith
parts_size bytes number (f ∷ fs) = parts_step bytes number f.0 f.1 (f.0 == number) (parts number fs) (least_of number fs) (parts_size bytes number fs)

-- a text takes its bytes and two more
pub text_size : (bytes : List ℕ) (fs : List (ℕ × Wire)) (number : ℕ) (text : List ℕ) → text_under number bytes fs ≡ Some text → 2 + length text ≤ least_of number fs
text_size bytes fs number text is = by_place (last_part number fs) refl is where
  by_place : (o : Option (ℕ × ℕ)) → last_part number fs ≡ o → option_map (part_bytes bytes) o ≡ Some text → 2 + length text ≤ least_of number fs
  by_place None at is = cc
  by_place (Some p) at is =
      let same : part_bytes bytes p ≡ text = cc in
      let cut : length (part_bytes bytes p) ≤ p.1 - p.0 = cut_size bytes p.0 p.1 in
      let size : 1 + sized (p.1 - p.0) ≤ least_of number fs = there part_of part_size number fs p picks_part at in
      omega (arith, ap length same, least_some (p.1 - p.0))

-- so does a message within
pub joined_size : (bytes : List ℕ) (fs : List (ℕ × Wire)) (number : ℕ) (whole : List ℕ) → joined number bytes fs ≡ Some whole → 2 + length whole ≤ least_of number fs
joined_size bytes fs number whole is = by_parts (parts number fs) (parts_size bytes number fs) is where
  by_parts : (ps : List (ℕ × ℕ)) → length (joined_parts bytes number fs) + 2 * length ps ≤ least_of number fs → joined_of ps (joined_parts bytes number fs) ≡ Some whole → 2 + length whole ≤ least_of number fs
  by_parts [] h is = cc
  by_parts (p ∷ ps) h is = let same : joined_parts bytes number fs ≡ whole = cc in omega (arith, ap length same)

-- and the first of several
pub first_size : (bytes : List ℕ) (fs : List (ℕ × Wire)) (number : ℕ) (text : List ℕ) (texts : List (List ℕ)) → texts_under number bytes fs ≡ text ∷ texts → 2 + length text ≤ least_of number fs
first_size bytes fs number text texts is = by_parts (parts number fs) (parts_size bytes number fs) is where
  by_parts : (ps : List (ℕ × ℕ)) → length (flat_map (part_bytes bytes) ps) + 2 * length ps ≤ least_of number fs → map (part_bytes bytes) ps ≡ text ∷ texts → 2 + length text ≤ least_of number fs
  by_parts [] h is = cc
  by_parts (p ∷ ps) h is =
      let same : part_bytes bytes p ≡ text = cc in
      omega (arith, ap length same, length-append (part_bytes bytes p) (flat_map (part_bytes bytes) ps))
