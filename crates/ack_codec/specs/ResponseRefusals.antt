-- Why bytes are no response, apart from reading.
use Rattle.std.specs.Prelude.{◌≡◌, ℕ, ◌⊎◌, List, Option, Err}
use Rattle.proto_fields.specs.Fields.{Spells, FirstFault}
use Rattle.proto_fields.specs.declared.reading.Wire.{Wire}
use Rattle.proto_fields.specs.declared.reading.WireFault.{WireFault}
use Rattle.ack_codec.specs.declared.faults.ResponseFault.{ResponseFault}
use Rattle.ack_codec.specs.declared.faults.ResponseFault.TheVariants as fault
use Rattle.ack_codec.specs.declared.response_reading.FoundSums.{FoundSums}
use Rattle.ack_codec.specs.declared.response_reading.FoundResponse.{FoundResponse}
use Rattle.proto_fields.specs.Frames.{IsCutFrame, IsTooLong, IsLongPrefix}
use Rattle.proto_fields.specs.Framed.{HasSome}
use Rattle.proto_fields.specs.Inner.{joined, FindsInner, IsFaultyInner}
use Rattle.ack_codec.specs.Responses.{FindsSums, FindsResponse, decoded_parts}

-- The fields of readOpChecksumInfo are whole, and the first fault stands in its checksum.
pub record HasFaultyChecksum (bytes : List ℕ) (e : WireFault) : Type 0 where
  pub fields : List (ℕ × Wire)
  pub spelled : Spells fields bytes
  pub found : IsFaultyInner FirstFault (joined 1 bytes fields) e

abbrev pub IsFaultyInfo : List ℕ → WireFault → Type 0
IsFaultyInfo bytes e = FirstFault bytes e ⊎ HasFaultyChecksum bytes e

-- The fields of the response are whole, and the first fault stands in its checksumResponse.
pub record HasFaultySums (message : List ℕ) (e : WireFault) : Type 0 where
  pub fields : List (ℕ × Wire)
  pub spelled : Spells fields message
  pub found : IsFaultyInner FirstFault (joined 3 message fields) e

-- The fields of the response and its checksumResponse are whole, and the first fault stands in its readOpChecksumInfo.
pub record HasFaultyInfo (message : List ℕ) (e : WireFault) : Type 0 where
  pub fields : List (ℕ × Wire)
  pub spelled : Spells fields message
  pub sums : Option FoundSums
  pub whole : FindsInner FindsSums (joined 3 message fields) sums
  pub found : IsFaultyInner IsFaultyInfo (joined 4 message fields) e

-- The message's own fault comes first, then one in its checksumResponse, and then one in its readOpChecksumInfo.
abbrev pub IsFaultyResponse : WireFault → List ℕ → Type 0
IsFaultyResponse e message = FirstFault message e ⊎ (HasFaultySums message e ⊎ HasFaultyInfo message e)

-- All messages are whole, and the first required field that isn't there has this number.
pub record LacksField (field : ℕ) (message : List ℕ) : Type 0 where
  pub found : FoundResponse
  pub finds : FindsResponse message found
  pub decoded : decoded_parts found ≡ Err field

-- This is why the bytes are no response.
abbrev pub IsRefusedResponse : ResponseFault → List ℕ → Type 0
IsRefusedResponse fault.Short bytes = IsCutFrame bytes
IsRefusedResponse (fault.TooLong n) bytes = IsTooLong n bytes
IsRefusedResponse (fault.Wire e) bytes = IsLongPrefix 0 e bytes ⊎ HasSome (IsFaultyResponse e) bytes
IsRefusedResponse (fault.Missing field) bytes = HasSome (LacksField field) bytes
IsRefusedResponse fault.Memory bytes = ⊥
