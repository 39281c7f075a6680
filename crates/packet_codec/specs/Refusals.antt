-- Why bytes are no packet, apart from reading.
use Rattle.std.specs.Prelude.{◌≡◌, ◌≢◌, ℕ, ◌+◌, ◌%◌, ◌<◌, ◌≤◌, ◌⊎◌, List, ◌++◌, length, Ok, Err, ℤ, pos, negsuc, ◌-ℤ◌}
use Rattle.proto_fields.specs.Fields.{Spells, FirstFault}
use Rattle.proto_fields.specs.declared.reading.Wire.{Wire}
use Rattle.proto_fields.specs.declared.reading.WireFault.{WireFault}
use Rattle.packet_codec.specs.Headers.{header_of}
use Rattle.packet_codec.specs.Frames.{limit, payload_of, header_len_of, frame_len, Frame, frame_with}
use Rattle.packet_codec.specs.declared.headers.Header.{Header}
use Rattle.packet_codec.specs.declared.faults.HeaderCause.TheVariants as cause
use Rattle.packet_codec.specs.declared.faults.PacketFault.{PacketFault}
use Rattle.packet_codec.specs.declared.faults.PacketFault.TheVariants as fault

-- A payload of 4 bytes at least, within the limit with its header.
pub record AreLawful (payload header : ℕ) : Type 0 where
  pub low : 4 ≤ payload
  pub high : payload + header ≤ limit

-- A whole frame has both lengths, and then as many bytes as these say, whatever stands in them.
pub record IsWholeFrame (bytes : List ℕ) : Type 0 where
  pub lengths : 6 ≤ length bytes
  pub size : length bytes ≡ frame_len (payload_of bytes) (header_len_of bytes)

-- The bytes are a proper prefix of a whole frame, and their lengths, where both are wholly there, are lawful.
pub record IsCutFrame (bytes : List ℕ) : Type 0 where
  pub missing : List ℕ
  pub some : 0 < length missing
  pub whole : IsWholeFrame (bytes ++ missing)
  pub lawful : 6 ≤ length bytes → AreLawful (payload_of bytes) (header_len_of bytes)

-- Both lengths are there, and aren't lawful.
pub record IsUnlawful (payload header : ℕ) (bytes : List ℕ) : Type 0 where
  pub lengths : 6 ≤ length bytes
  pub payload_is : payload ≡ payload_of bytes
  pub header_is : header ≡ header_len_of bytes
  pub wrong : (payload < 4) ⊎ (limit < payload + header)

-- At the front stands a whole frame of lawful lengths, with these parts.
pub record HasFrame (bytes : List ℕ) (f : Frame) : Type 0 where
  pub lengths : 6 ≤ length bytes
  pub lawful : AreLawful (payload_of bytes) (header_len_of bytes)
  pub many : frame_len (payload_of bytes) (header_len_of bytes) ≤ length bytes
  pub parts : frame_with (payload_of bytes) (header_len_of bytes) bytes ≡ f

-- a number below 0
abbrev pub IsBelowZero : ℤ → Type 0
IsBelowZero (pos n) = ⊥
IsBelowZero (negsuc n) = Unit {0}

-- a number that is no multiple of 4, where it isn't below 0
abbrev pub IsNoMultiple : ℤ → Type 0
IsNoMultiple (pos n) = n % 4 ≢ 0
IsNoMultiple (negsuc n) = ⊥

-- What the body leaves of the data can't be sums.
pub record AreNoSums (available : ℕ) (data_len rest : ℤ) : Type 0 where
  pub rest_is : rest ≡ pos available -ℤ data_len
  pub wrong : IsBelowZero data_len ⊎ (IsBelowZero rest ⊎ IsNoMultiple rest)

-- The header's first field that isn't whole and lawful has this fault.
pub record HasFaultyHeader (bytes : List ℕ) (e : WireFault) : Type 0 where
  pub frame : Frame
  pub framed : HasFrame bytes frame
  pub found : FirstFault frame.header e

-- The header's first required field that isn't there has this number.
pub record LacksField (bytes : List ℕ) (field : ℕ) : Type 0 where
  pub frame : Frame
  pub framed : HasFrame bytes frame
  pub fields : List (ℕ × Wire)
  pub spelled : Spells fields frame.header
  pub decoded : header_of fields ≡ Err (cause.Missing field)

-- The header is whole, and its length of the body leaves no sums.
pub record LacksSums (bytes : List ℕ) (rest : ℤ) : Type 0 where
  pub frame : Frame
  pub framed : HasFrame bytes frame
  pub fields : List (ℕ × Wire)
  pub spelled : Spells fields frame.header
  pub header : Header
  pub decoded : header_of fields ≡ Ok header
  pub no_sums : AreNoSums (length frame.rest) header.data_len rest

-- This is why the bytes are no packet.
abbrev pub IsRefused : PacketFault → List ℕ → Type 0
IsRefused fault.Short bytes = IsCutFrame bytes
IsRefused (fault.Length payload header) bytes = IsUnlawful payload header bytes
IsRefused (fault.Header (cause.Wire e)) bytes = HasFaultyHeader bytes e
IsRefused (fault.Header (cause.Missing field)) bytes = LacksField bytes field
IsRefused (fault.SumCount rest) bytes = LacksSums bytes rest
IsRefused fault.Memory bytes = ⊥
