-- The written spelling of fields: each varint is the least.
use Rattle.std.specs.Prelude.{◌≡◌, ℕ, ◌+◌, ◌*◌, ◌^◌, ◌<◌, ◌≤◌, List, ◌++◌, length, drop, Some, Ok}
use Rattle.std.specs.Int.{w32, w64, to_le_bytes}
use Rattle.proto_fields.specs.declared.reading.Wire.{Wire}
use Rattle.proto_fields.specs.declared.reading.WireType.{WireType}
use Rattle.proto_fields.specs.declared.reading.WireType.TheVariants as wire_type
use Rattle.proto_fields.specs.Varint.{least_varint, varint_at}
use Rattle.proto_fields.specs.Fields.{code_of, next_at}

unfoldable pub tag_text : ℕ → WireType → List ℕ
tag_text number type = least_varint (number * 8 + code_of type)

unfoldable pub varint_field : ℕ → ℕ → List ℕ
varint_field number n = tag_text number wire_type.Varint ++ least_varint n

unfoldable pub fixed64_field : ℕ → ℕ → List ℕ
fixed64_field number n = tag_text number wire_type.Fixed64 ++ to_le_bytes w64 n

unfoldable pub bytes_field : ℕ → List ℕ → List ℕ
bytes_field number bytes = tag_text number wire_type.LengthDelimited ++ (least_varint (length bytes) ++ bytes)

unfoldable pub fixed32_field : ℕ → ℕ → List ℕ
fixed32_field number n = tag_text number wire_type.Fixed32 ++ to_le_bytes w32 n

-- A field may have this number, which has at most 29 bits.
pub record IsFieldNumber (number : ℕ) : Type 0 where
  pub least : 1 ≤ number
  pub most : number < 2 ^ 29

-- Where the old bytes end this number is read, as a bare varint, whatever follows the new bytes.
abbrev pub ReadsVarint : List ℕ → List ℕ → ℕ → Type 0
ReadsVarint old new n = (rest : List ℕ) → varint_at (drop (length old) (new ++ rest)) ≡ Ok (n, rest)

-- Where the old bytes end this field is read, and the new bytes end behind it, whatever follows them.
abbrev pub ReadsField : List ℕ → List ℕ → ℕ → Wire → Type 0
ReadsField old new number value = (rest : List ℕ) →
    next_at (new ++ rest) (length old) ≡ Ok (Some (number, value, length new))
