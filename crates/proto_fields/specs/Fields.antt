-- The fields of a Protocol Buffers message: a relation between bytes and the fields that they spell, the faults of
-- bytes that spell none, and apart from both the function that reads.
use Rattle.std.specs.Prelude.{◌≡◌, ℕ, zero, suc, ◌+◌, ◌-◌, ◌/◌, ◌%◌, ◌^◌, ◌<◌, ◌==◌, ◌⊎◌, List, [], ◌∷◌, ◌++◌, length, take, drop, nat_lt, if◌then◌else◌, Option, Some, None, Result, Ok, Err, fold}
use Rattle.std.specs.Int.{w32, w64, to_le_bytes, from_le_bytes}
use Rattle.proto_fields.specs.declared.varints.VarintFault.{VarintFault}
use Rattle.proto_fields.specs.declared.varints.VarintFault.TheVariants as varint
use Rattle.proto_fields.specs.declared.reading.Wire.{Wire}
use Rattle.proto_fields.specs.declared.reading.Wire.TheVariants as wire
use Rattle.proto_fields.specs.declared.reading.WireType.{WireType}
use Rattle.proto_fields.specs.declared.reading.WireType.TheVariants as wire_type
use Rattle.proto_fields.specs.declared.reading.WireFault.{WireFault}
use Rattle.proto_fields.specs.declared.reading.WireFault.TheVariants as fault
use Rattle.proto_fields.specs.declared.reading.Cause.{Cause}
use Rattle.proto_fields.specs.declared.reading.Cause.TheVariants as cause
use Rattle.hd_base.specs.Results.{◌>>=◌, with_cause, with_value}
use Rattle.proto_fields.specs.Varint.{SpellsVarint, IsCutVarint, IsLongVarint, varint_at}

-- ---- the grammar

-- the number that a tag has for a wire type
abbrev pub code_of : WireType → ℕ
code_of wire_type.Varint = 0
code_of wire_type.Fixed64 = 1
code_of wire_type.LengthDelimited = 2
code_of wire_type.Fixed32 = 5

-- the wire type of a value
abbrev pub type_of : Wire → WireType
type_of (wire.Varint n) = wire_type.Varint
type_of (wire.Eight n) = wire_type.Fixed64
type_of (wire.Part from to) = wire_type.LengthDelimited
type_of (wire.Four n) = wire_type.Fixed32

-- The text is a varint whose low 32 bits are the field number times 8 and the code of the wire type.
pub record SpellsTag (number code : ℕ) (text : List ℕ) : Type 0 where
  pub key : ℕ
  pub spelled : SpellsVarint text key
  pub number_is : number ≡ key % 2 ^ 32 / 8
  pub code_is : code ≡ key % 2 ^ 32 % 8

-- The text is a length as a varint and so many bytes, which lie from one place up to another, where the text itself begins at `at`.
pub record SpellsPart (at from to : ℕ) (text : List ℕ) : Type 0 where
  pub len : List ℕ
  pub bytes : List ℕ
  pub parts : text ≡ len ++ bytes
  pub spelled : SpellsVarint len (length bytes)
  pub begins : from ≡ at + length len
  pub ends : to ≡ at + length text

-- The text, which begins at `at`, spells the value.
abbrev pub SpellsValue : ℕ → Wire → List ℕ → Type 0
SpellsValue at (wire.Varint n) text = SpellsVarint text n
SpellsValue at (wire.Eight n) text = (n < 2 ^ 64) × (text ≡ to_le_bytes w64 n)
SpellsValue at (wire.Part from to) text = SpellsPart at from to text
SpellsValue at (wire.Four n) text = (n < 2 ^ 32) × (text ≡ to_le_bytes w32 n)

-- A field is a tag with a number above 0, and then a value of the tag's wire type.
pub record SpellsField (at : ℕ) (field : ℕ × Wire) (text : List ℕ) : Type 0 where
  pub tag : List ℕ
  pub value : List ℕ
  pub parts : text ≡ tag ++ value
  pub numbered : 0 < field.0
  pub tag_spelled : SpellsTag field.0 (code_of (type_of field.1)) tag
  pub value_spelled : SpellsValue (at + length tag) field.1 value

-- The bytes, which begin at `at`, spell the fields one after the other.
abbrev pub SpellsFrom : ℕ → List (ℕ × Wire) → List ℕ → Type 0
SpellsFrom at [] bytes = bytes ≡ []
SpellsFrom at (f ∷ fs) bytes = (text : List ℕ) × (rest : List ℕ) × (bytes ≡ text ++ rest) × SpellsField at f text ×
    SpellsFrom (at + length text) fs rest

-- The bytes of a message spell its fields.
abbrev pub Spells : List (ℕ × Wire) → List ℕ → Type 0
Spells fs bytes = SpellsFrom 0 fs bytes

-- At this place of the bytes stands a field, and the next place is behind it.
pub record StandsAt (bytes : List ℕ) (at : ℕ) (field : ℕ × Wire × ℕ) : Type 0 where
  pub text : List ℕ
  pub rest : List ℕ
  pub parts : drop at bytes ≡ text ++ rest
  pub spelled : SpellsField at (field.0, field.1) text
  pub next : field.2 ≡ at + length text

-- ---- the faults, in the order in which they are looked for

-- The bytes begin with a tag of this number and code, and go on with this rest.
pub record BeginsWithTag (number code : ℕ) (bytes rest : List ℕ) : Type 0 where
  pub text : List ℕ
  pub parts : bytes ≡ text ++ rest
  pub spelled : SpellsTag number code text

-- The bytes begin with a tag of a number above 0 and of this wire type, and go on with this rest.
pub record BeginsWithLawfulTag (type : WireType) (bytes rest : List ℕ) : Type 0 where
  pub number : ℕ
  pub numbered : 0 < number
  pub tag : BeginsWithTag number (code_of type) bytes rest

-- Of a part there are fewer bytes than its length says.
pub record IsCutPart (bytes : List ℕ) : Type 0 where
  pub len : List ℕ
  pub there : List ℕ
  pub size : ℕ
  pub parts : bytes ≡ len ++ there
  pub spelled : SpellsVarint len size
  pub fewer : length there < size

-- The bytes end before the value of this wire type that they begin with.
abbrev pub IsCutValue : WireType → List ℕ → Type 0
IsCutValue wire_type.Varint bytes = IsCutVarint bytes
IsCutValue wire_type.Fixed64 bytes = length bytes < 8
IsCutValue wire_type.LengthDelimited bytes = IsCutVarint bytes ⊎ IsCutPart bytes
IsCutValue wire_type.Fixed32 bytes = length bytes < 4

-- The value of this wire type begins with a varint that is too long.
abbrev pub IsLongValue : WireType → List ℕ → Type 0
IsLongValue wire_type.Varint bytes = IsLongVarint bytes
IsLongValue wire_type.Fixed64 bytes = ⊥
IsLongValue wire_type.LengthDelimited bytes = IsLongVarint bytes
IsLongValue wire_type.Fixed32 bytes = ⊥

-- The code is of no wire type that a field may have.
pub record IsRefusedCode (code : ℕ) : Type 0 where
  pub one_of : (code ≡ 3) ⊎ ((code ≡ 4) ⊎ ((code ≡ 6) ⊎ (code ≡ 7)))

-- The fault of bytes that are not empty and begin with no field.
abbrev pub HasFault : Cause → List ℕ → Type 0
HasFault cause.Short bytes = IsCutVarint bytes ⊎
    ((type : WireType) × (rest : List ℕ) × BeginsWithLawfulTag type bytes rest × IsCutValue type rest)
HasFault cause.LongVarint bytes = IsLongVarint bytes ⊎
    ((type : WireType) × (rest : List ℕ) × BeginsWithLawfulTag type bytes rest × IsLongValue type rest)
HasFault cause.Kind bytes = (number : ℕ) × (code : ℕ) × (rest : List ℕ) × BeginsWithTag number code bytes rest ×
    IsRefusedCode code
HasFault cause.FieldZero bytes = (type : WireType) × (rest : List ℕ) × BeginsWithTag 0 (code_of type) bytes rest

-- the cause of a fault, and its place
abbrev pub cause_of : WireFault → Cause
cause_of (fault.Short at) = cause.Short
cause_of (fault.LongVarint at) = cause.LongVarint
cause_of (fault.Kind at) = cause.Kind
cause_of (fault.FieldZero at) = cause.FieldZero

abbrev pub place_of : WireFault → ℕ
place_of (fault.Short at) = at
place_of (fault.LongVarint at) = at
place_of (fault.Kind at) = at
place_of (fault.FieldZero at) = at

-- This is the fault of the field that begins at this place of the bytes.
pub record FaultAt (bytes : List ℕ) (at : ℕ) (e : WireFault) : Type 0 where
  pub before_end : at < length bytes
  pub place : place_of e ≡ at
  pub found : HasFault (cause_of e) (drop at bytes)

-- The bytes spell fields up to the place of this fault, and there stands the fault.
pub record FirstFault (bytes : List ℕ) (e : WireFault) : Type 0 where
  pub before : List (ℕ × Wire)
  pub spelled : Spells before (take (place_of e) bytes)
  pub stands : FaultAt bytes (place_of e) e

-- ---- reading

abbrev pub varint_cause : VarintFault → Cause
varint_cause varint.Short = cause.Short
varint_cause varint.Long = cause.LongVarint

-- a fault of this cause at this place
abbrev pub fault_at : ℕ → Cause → WireFault
fault_at at cause.Short = fault.Short at
fault_at at cause.LongVarint = fault.LongVarint at
fault_at at cause.Kind = fault.Kind at
fault_at at cause.FieldZero = fault.FieldZero at

abbrev pub type_at : ℕ → Result WireType Cause
type_at code =
    if code == 0 then Ok wire_type.Varint
    else if code == 1 then Ok wire_type.Fixed64
    else if code == 2 then Ok wire_type.LengthDelimited
    else if code == 5 then Ok wire_type.Fixed32
    else Err cause.Kind

-- The number and the wire type of the tag at the front, and the bytes behind it.
unfoldable pub tag_at : List ℕ → Result ((ℕ × WireType) × List ℕ) Cause
tag_at bytes = do
  tag ← with_cause varint_cause (varint_at bytes)
  type ← type_at (tag.0 % 2 ^ 32 % 8)
  if tag.0 % 2 ^ 32 / 8 == 0 then Err cause.FieldZero else Ok ((tag.0 % 2 ^ 32 / 8, type), tag.1)

-- The part at the front, where the bytes end at the place `end`, and the bytes behind it.
unfoldable pub part_at : ℕ → List ℕ → Result (Wire × List ℕ) Cause
part_at end bytes = do
  len ← with_cause varint_cause (varint_at bytes)
  if nat_lt (length len.1) len.0 then Err cause.Short
      else Ok (wire.Part (end - length len.1) (end - length len.1 + len.0), drop len.0 len.1)

unfoldable pub value_at : ℕ → WireType → List ℕ → Result (Wire × List ℕ) Cause
value_at end wire_type.Varint bytes = do
  n ← with_cause varint_cause (varint_at bytes)
  Ok (wire.Varint n.0, n.1)
value_at end wire_type.Fixed64 bytes =
    if nat_lt (length bytes) 8 then Err cause.Short
    else Ok (wire.Eight (from_le_bytes w64 (take 8 bytes)), drop 8 bytes)
value_at end wire_type.LengthDelimited bytes = part_at end bytes
value_at end wire_type.Fixed32 bytes =
    if nat_lt (length bytes) 4 then Err cause.Short else Ok (wire.Four (from_le_bytes w32 (take 4 bytes)), drop 4 bytes)

-- The field at the front, where the bytes end at the place `end`, and the bytes behind it.
unfoldable pub field_at : ℕ → List ℕ → Result ((ℕ × Wire) × List ℕ) Cause
field_at end bytes = do
  tag ← tag_at bytes
  value ← value_at end tag.0.1 tag.1
  Ok ((tag.0.0, value.0), value.1)

-- The field at this place and the next place; nothing at the end.
unfoldable pub next_at : List ℕ → ℕ → Result (Option (ℕ × Wire × ℕ)) WireFault
next_at bytes at =
    if length (drop at bytes) == 0 then Ok None
    else with_cause (fault_at at) (with_value (λ f. Some (f.0.0, f.0.1, length bytes - length f.1))
    (field_at (length bytes) (drop at bytes)))

-- The fields that are left once the next one is known, where `rest` gives those from a place on.
abbrev pub then_fields : (ℕ → Result (List (ℕ × Wire)) WireFault) → Option (ℕ × Wire × ℕ) →
    Result (List (ℕ × Wire)) WireFault
then_fields rest None = Ok []
then_fields rest (Some f) = with_value (λ fs. (f.0, f.1) ∷ fs) (rest f.2)

-- The fields from this place on, where there are at most so many; or the fault of the first that is not whole and lawful.
unfoldable pub fields_within : ℕ → List ℕ → ℕ → Result (List (ℕ × Wire)) WireFault
fields_within zero bytes at = Ok []
fields_within (suc left) bytes at = next_at bytes at >>= then_fields (fields_within left bytes)

-- The fields from this place on. Each has a byte at least.
unfoldable pub fields_from : List ℕ → ℕ → Result (List (ℕ × Wire)) WireFault
fields_from bytes at = fields_within (length bytes - at) bytes at

-- The fields of a message.
abbrev pub fields_at : List ℕ → Result (List (ℕ × Wire)) WireFault
fields_at bytes = fields_from bytes 0

-- What a walk over the fields from this place on makes of a state, where each field takes one step.
abbrev pub walked : {S : Type 0} → (S → ℕ × Wire → S) → S → List ℕ → ℕ → Result S WireFault
walked step state bytes at = with_value (fold step state) (fields_from bytes at)
