-- Repeated numbers of a message: a field has one as a varint, or a packed list of them, which is one varint after the other.
use Rattle.std.specs.Prelude.{◌≡◌, ℕ, zero, suc, ◌+◌, ◌-◌, ◌<◌, ◌==◌, if◌then◌else◌, List, [], ◌∷◌, ◌++◌, length, Result, Ok, MatchBool}
use Rattle.hd_base.specs.Results.{◌>>=◌, with_cause, with_value}
use Rattle.proto_fields.specs.Varint.{SpellsVarint, IsCutVarint, IsLongVarint, varint_at}
use Rattle.proto_fields.specs.Fields.{place_of}
use Rattle.proto_fields.specs.Values.{part_bytes}
use Rattle.proto_fields.specs.declared.varints.VarintFault.{VarintFault}
use Rattle.proto_fields.specs.declared.varints.VarintFault.TheVariants as varint
use Rattle.proto_fields.specs.declared.reading.Wire.{Wire}
use Rattle.proto_fields.specs.declared.reading.Wire.TheVariants as wire
use Rattle.proto_fields.specs.declared.reading.WireFault.{WireFault}
use Rattle.proto_fields.specs.declared.reading.WireFault.TheVariants as fault

-- ---- the grammar

-- The bytes of a packed list spell the numbers.
abbrev pub SpellsNumbers : List ℕ → List ℕ → Type 0
SpellsNumbers [] bytes = bytes ≡ []
SpellsNumbers (n ∷ ns) bytes = (text : List ℕ) × (rest : List ℕ) × (bytes ≡ text ++ rest) × SpellsVarint text n ×
    SpellsNumbers ns rest

-- The bytes begin with a varint that is cut off or too long, as the fault says.
abbrev pub HasVarintFault : WireFault → List ℕ → Type 0
HasVarintFault (fault.Short at) bytes = IsCutVarint bytes
HasVarintFault (fault.LongVarint at) bytes = IsLongVarint bytes
HasVarintFault _ bytes = ⊥

-- Bytes that begin at this place spell numbers up to the place of this fault, and there stands the fault.
pub record FirstNumberFault (at : ℕ) (bytes : List ℕ) (e : WireFault) : Type 0 where
  pub front : List ℕ
  pub rest : List ℕ
  pub parts : bytes ≡ front ++ rest
  pub numbers : List ℕ
  pub spelled : SpellsNumbers numbers front
  pub place : place_of e ≡ at + length front
  pub some : 0 < length rest
  pub found : HasVarintFault e rest

-- A value gives these numbers: a varint itself, a part those of its list, and other values none.
abbrev pub GivesNumbers : List ℕ → Wire → List ℕ → Type 0
GivesNumbers bytes (wire.Varint n) ns = ns ≡ n ∷ []
GivesNumbers bytes (wire.Part from to) ns = SpellsNumbers ns (part_bytes bytes (from, to))
GivesNumbers bytes _ ns = ns ≡ []

-- A field gives these numbers of the repeated field `number`.
abbrev pub RepeatsAt : ℕ → List ℕ → ℕ × Wire → List ℕ → Type 0
RepeatsAt number bytes f ns = MatchBool (f.0 == number) (GivesNumbers bytes f.1 ns) (ns ≡ [])

-- The fields of the message have these numbers under the field number, in order.
abbrev pub Repeats : ℕ → List ℕ → List (ℕ × Wire) → List ℕ → Type 0
Repeats number bytes [] ns = ns ≡ []
Repeats number bytes (f ∷ fs) ns = (here : List ℕ) × (later : List ℕ) × (ns ≡ here ++ later) ×
    RepeatsAt number bytes f here × Repeats number bytes fs later

-- The first packed list under the field number that does not spell numbers has this fault, whose place counts from the list's first byte.
pub record FirstPackedFault (number : ℕ) (bytes : List ℕ) (fs : List (ℕ × Wire)) (e : WireFault) : Type 0 where
  pub before : List (ℕ × Wire)
  pub from : ℕ
  pub to : ℕ
  pub behind : List (ℕ × Wire)
  pub parts : fs ≡ before ++ (number, wire.Part from to) ∷ behind
  pub numbers : List ℕ
  pub whole : Repeats number bytes before numbers
  pub faulty : FirstNumberFault 0 (part_bytes bytes (from, to)) e

-- ---- reading

-- the fault of a varint at this place
abbrev pub varint_fault : ℕ → VarintFault → WireFault
varint_fault at varint.Short = fault.Short at
varint_fault at varint.Long = fault.LongVarint at

-- The numbers of a packed list that ends at the place `end`, where there are at most so many; or the fault of the first that is cut off or too long.
unfoldable pub numbers_within : ℕ → ℕ → List ℕ → Result (List ℕ) WireFault
numbers_within zero end bytes = Ok []
numbers_within (suc left) end [] = Ok []
numbers_within (suc left) end (b ∷ bs) = do
  n ← with_cause (varint_fault (end - length (b ∷ bs))) (varint_at (b ∷ bs))
  with_value (λ ns. n.0 ∷ ns) (numbers_within left end n.1)

-- Each number has a byte at least.
abbrev pub numbers_from : ℕ → List ℕ → Result (List ℕ) WireFault
numbers_from end bytes = numbers_within (length bytes) end bytes

abbrev pub numbers_at : List ℕ → Result (List ℕ) WireFault
numbers_at bytes = numbers_from (length bytes) bytes

-- the numbers that a value gives
abbrev pub given : List ℕ → Wire → Result (List ℕ) WireFault
given bytes (wire.Varint n) = Ok (n ∷ [])
given bytes (wire.Part from to) = numbers_at (part_bytes bytes (from, to))
given bytes _ = Ok []

abbrev pub given_under : ℕ → List ℕ → ℕ × Wire → Result (List ℕ) WireFault
given_under number bytes f = if f.0 == number then given bytes f.1 else Ok []

-- the numbers that the fields have under the field number
abbrev pub repeated : ℕ → List ℕ → List (ℕ × Wire) → Result (List ℕ) WireFault
repeated number bytes [] = Ok []
repeated number bytes (f ∷ fs) = given_under number bytes f >>=
    λ here. with_value (λ later. here ++ later) (repeated number bytes fs)
