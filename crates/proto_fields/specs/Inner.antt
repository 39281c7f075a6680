-- Messages and texts within a message.
use Rattle.std.specs.Prelude.{◌≡◌, ℕ, ◌≤◌, List, [], ◌∷◌, length, Option, Some, None, Result, Ok}
use Rattle.hd_base.specs.Results.{with_value}
use Rattle.proto_fields.specs.Values.{parts, part_bytes, joined_parts}
use Rattle.proto_fields.specs.declared.messages.Places.{Places}
use Rattle.proto_fields.specs.declared.messages.Places.TheVariants as places
use Rattle.proto_fields.specs.declared.reading.Wire.{Wire}
use Rattle.proto_fields.specs.declared.reading.WireFault.{WireFault}

-- The bytes of a singular message: those of all its parts, joined. Nothing where there is no part.
abbrev pub joined_of : List (ℕ × ℕ) → List ℕ → Option (List ℕ)
joined_of [] bytes = None
joined_of (p ∷ ps) bytes = Some bytes

abbrev pub joined : ℕ → List ℕ → List (ℕ × Wire) → Option (List ℕ)
joined number bytes fs = joined_of (parts number fs) (joined_parts bytes number fs)

-- There is one part alone.
abbrev pub IsSingle : List (ℕ × ℕ) → Type 0
IsSingle ps = length ps ≡ 1

-- where parts lie: nowhere, at one place, or at several
abbrev pub places_of : List (ℕ × ℕ) → Places
places_of [] = places.Nowhere
places_of (p ∷ []) = places.Once p.0 p.1
places_of (p ∷ q ∷ ps) = places.Several

-- the same with one part more behind
abbrev pub one_more : Places → ℕ × ℕ → Places
one_more places.Nowhere p = places.Once p.0 p.1
one_more _ p = places.Several

-- What is found of a message within, where it is there.
abbrev pub FindsInner : {X : Type 0} → (List ℕ → X → Type 0) → Option (List ℕ) → Option X → Type 0
FindsInner {X} P None found = found ≡ None
FindsInner {X} P (Some bytes) found = (x : X) × (found ≡ Some x) × P bytes x

-- A message within is there and has this fault.
abbrev pub IsFaultyInner : (List ℕ → WireFault → Type 0) → Option (List ℕ) → WireFault → Type 0
IsFaultyInner P None e = ⊥
IsFaultyInner P (Some bytes) e = P bytes e

-- a text that isn't there is empty
abbrev pub text_of : List ℕ → Option (ℕ × ℕ) → List ℕ
text_of message None = []
text_of message (Some p) = part_bytes message p

-- a step on what is there
abbrev pub inner : {X Y E : Type 0} → (X → Result Y E) → Option X → Result (Option Y) E
inner read None = Ok None
inner read (Some x) = with_value Some (read x)

-- The places of a text lie within so many bytes.
abbrev pub PlacedWithin : ℕ → Option (ℕ × ℕ) → Type 0
PlacedWithin size None = Unit {0}
PlacedWithin size (Some p) = (p.0 ≤ p.1) × (p.1 ≤ size)
