-- Values that the message of a frame spells: what requests, acks, responses and read statuses have in common.
use Rattle.std.specs.Prelude.{◌≡◌, ℕ, ◌≤◌, List, ◌++◌, length, Result, Ok}
use Rattle.hd_base.specs.Results.{◌>>=◌, with_cause}
use Rattle.proto_fields.specs.Varint.{SpellsVarint}
use Rattle.proto_fields.specs.declared.frames.FrameFault.{FrameFault}
use Rattle.proto_fields.specs.declared.frames.FrameFault.TheVariants as frame
use Rattle.proto_fields.specs.declared.listing.FieldsFault.{FieldsFault}
use Rattle.proto_fields.specs.declared.listing.FieldsFault.TheVariants as fields
use Rattle.proto_fields.specs.declared.reading.WireFault.{WireFault}
use Rattle.proto_fields.specs.declared.reading.WireFault.TheVariants.{LongVarint}
use Rattle.proto_fields.specs.Frames.{limit, HasFrame, frame_at}

-- The bytes are the frame of a message within the limit of which this holds.
pub record FramesSome (P : List ℕ → Type 0) (bytes : List ℕ) : Type 0 where
  pub prefix : List ℕ
  pub message : List ℕ
  pub parts : bytes ≡ prefix ++ message
  pub spelled : SpellsVarint prefix (length message)
  pub few : length message ≤ limit
  pub holds : P message

-- At the front of the bytes stands the frame of a message of which this holds.
pub record HasSome (P : List ℕ → Type 0) (bytes : List ℕ) : Type 0 where
  pub message : List ℕ
  pub framed : HasFrame bytes message
  pub holds : P message

-- The fault of a frame, by the constructors that a codec has for it, where the length stands at this place.
abbrev pub frame_cause : {E : Type 0} → E → (ℕ → E) → (WireFault → E) → ℕ → FrameFault → E
frame_cause short too_long wire at frame.Short = short
frame_cause short too_long wire at (frame.TooLong n) = too_long n
frame_cause short too_long wire at frame.LongPrefix = wire (LongVarint at)

-- The fault of fields, by the constructors that a codec has for want of memory and for a field's fault.
abbrev pub fields_cause : {E : Type 0} → E → (WireFault → E) → FieldsFault → E
fields_cause memory wire (fields.Wire e) = wire e
fields_cause memory wire fields.Memory = memory

-- The value that reading its message gives, and how many bytes the frame has.
unfoldable pub framed_at : {X E : Type 0} → (FrameFault → E) → (List ℕ → Result X E) → List ℕ → Result (X × ℕ) E
framed_at cause read bytes = do
  frame ← with_cause cause (frame_at bytes)
  value ← read frame.0
  Ok (value, frame.1)
