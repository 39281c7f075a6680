-- The values that a list of fields has under one number.
use Rattle.std.specs.Prelude.{ℕ, zero, suc, ◌+◌, ◌==◌, List, [], ◌∷◌, if◌then◌else◌, Option, Some, None, slice_range}
use Rattle.std.specs.Option.{option_or}
use Rattle.std.specs.List.{filter_map, flat_map}
use Rattle.proto_fields.specs.declared.reading.Wire.{Wire}
use Rattle.proto_fields.specs.declared.reading.Wire.TheVariants as wire
use Rattle.proto_fields.specs.declared.listing.LastValues.{LastValues}

-- the value, if it is of this wire type
abbrev pub varint_of : Wire → Option ℕ
varint_of (wire.Varint n) = Some n
varint_of _ = None

abbrev pub fixed64_of : Wire → Option ℕ
fixed64_of (wire.Eight n) = Some n
fixed64_of _ = None

abbrev pub part_of : Wire → Option (ℕ × ℕ)
part_of (wire.Part from to) = Some (from, to)
part_of _ = None

abbrev pub fixed32_of : Wire → Option ℕ
fixed32_of (wire.Four n) = Some n
fixed32_of _ = None

-- the value of a field, if it has this number and this wire type
abbrev pub picked : {X : Type 0} → (Wire → Option X) → ℕ → ℕ × Wire → Option X
picked pick number f = if f.0 == number then pick f.1 else None

-- All values of this number and wire type, in order.
abbrev pub values_of : {X : Type 0} → (Wire → Option X) → ℕ → List (ℕ × Wire) → List X
values_of pick number fs = filter_map (picked pick number) fs

-- The last value of this number and wire type: an earlier one counts only where no later one is there.
abbrev pub last_of : {X : Type 0} → (Wire → Option X) → ℕ → List (ℕ × Wire) → Option X
last_of pick number [] = None
last_of pick number (f ∷ fs) = option_or (last_of pick number fs) (picked pick number f)

abbrev pub last_varint : ℕ → List (ℕ × Wire) → Option ℕ
last_varint number fs = last_of varint_of number fs

abbrev pub last_fixed64 : ℕ → List (ℕ × Wire) → Option ℕ
last_fixed64 number fs = last_of fixed64_of number fs

abbrev pub last_part : ℕ → List (ℕ × Wire) → Option (ℕ × ℕ)
last_part number fs = last_of part_of number fs

abbrev pub last_fixed32 : ℕ → List (ℕ × Wire) → Option ℕ
last_fixed32 number fs = last_of fixed32_of number fs

-- The places of all parts of this number, in order.
abbrev pub parts : ℕ → List (ℕ × Wire) → List (ℕ × ℕ)
parts number fs = values_of part_of number fs

-- the bytes of a part
abbrev pub part_bytes : List ℕ → ℕ × ℕ → List ℕ
part_bytes bytes p = slice_range bytes p.0 p.1

-- The bytes of all parts of this number, one after the other.
abbrev pub joined_parts : List ℕ → ℕ → List (ℕ × Wire) → List ℕ
joined_parts bytes number fs = flat_map (part_bytes bytes) (parts number fs)

-- The last value of each wire type that has this number.
abbrev pub last_values_of : ℕ → List (ℕ × Wire) → LastValues
last_values_of number fs = record {
  varint = last_varint number fs;
  fixed64 = last_fixed64 number fs;
  part = last_part number fs;
  fixed32 = last_fixed32 number fs;
}

-- The last values of so many numbers, from the first of them on.
abbrev pub last_values_from : ℕ → ℕ → List (ℕ × Wire) → List LastValues
last_values_from zero first fs = []
last_values_from (suc count) first fs = last_values_of first fs ∷ last_values_from count (first + 1) fs

-- ---- the last value, one field after the other

-- the last value so far, once this field is behind
abbrev pub newer : {X : Type 0} → (Wire → Option X) → ℕ → Option X → ℕ × Wire → Option X
newer pick number last f = option_or (picked pick number f) last

abbrev pub newer_values : ℕ → LastValues → ℕ × Wire → LastValues
newer_values number last f = record {
  varint = newer varint_of number last.varint f;
  fixed64 = newer fixed64_of number last.fixed64 f;
  part = newer part_of number last.part f;
  fixed32 = newer fixed32_of number last.fixed32 f;
}

-- no value of any wire type
abbrev pub no_values : LastValues
no_values = record { varint = None; fixed64 = None; part = None; fixed32 = None }

-- The last values of several numbers, from the first of them on, once this field is behind.
abbrev pub newer_list : ℕ → List LastValues → ℕ × Wire → List LastValues
newer_list first [] f = []
newer_list first (last ∷ more) f = newer_values first last f ∷ newer_list (first + 1) more f
