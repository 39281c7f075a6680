-- The frame of a message: the message's length as a varint, and then so many bytes.
use Rattle.std.specs.Prelude.{◌≡◌, ℕ, ◌+◌, ◌-◌, ◌<◌, ◌≤◌, nat_lt, if◌then◌else◌, List, ◌++◌, length, take, Result, Ok, Err}
use Rattle.std.specs.Borrow.{Bor}
use Rattle.hd_base.specs.Results.{◌>>=◌, with_cause}
use Rattle.proto_fields.specs.Varint.{SpellsVarint, BeginsWithVarint, IsLongVarint, varint_at}
use Rattle.proto_fields.specs.declared.varints.VarintFault.{VarintFault}
use Rattle.proto_fields.specs.declared.varints.VarintFault.TheVariants as varint
use Rattle.proto_fields.specs.declared.reading.WireFault.{WireFault}
use Rattle.proto_fields.specs.declared.reading.WireFault.TheVariants.{LongVarint}
use Rattle.proto_fields.specs.declared.frames.FrameFault.{FrameFault}
use Rattle.proto_fields.specs.declared.frames.FrameFault.TheVariants as fault

-- the most bytes that a message has
abbrev pub limit : ℕ
limit = 65536

-- ---- the grammar

-- At the front of the bytes stands the frame of this message, which is within the limit.
pub record HasFrame (bytes message : List ℕ) : Type 0 where
  pub prefix : List ℕ
  pub rest : List ℕ
  pub parts : bytes ≡ prefix ++ (message ++ rest)
  pub spelled : SpellsVarint prefix (length message)
  pub few : length message ≤ limit

-- A whole frame has a length, and then as many bytes as it says, whatever stands in them.
pub record IsWholeFrame (bytes : List ℕ) : Type 0 where
  pub prefix : List ℕ
  pub message : List ℕ
  pub parts : bytes ≡ prefix ++ message
  pub spelled : SpellsVarint prefix (length message)

-- The bytes are a proper prefix of a whole frame, and their length, where it is wholly there, is within the limit.
pub record IsCutFrame (bytes : List ℕ) : Type 0 where
  pub missing : List ℕ
  pub some : 0 < length missing
  pub whole : IsWholeFrame (bytes ++ missing)
  pub lawful : (n : ℕ) (rest : List ℕ) → BeginsWithVarint bytes n rest → n ≤ limit

-- The bytes begin with this length, which is over the limit.
pub record IsTooLong (n : ℕ) (bytes : List ℕ) : Type 0 where
  pub rest : List ℕ
  pub begins : BeginsWithVarint bytes n rest
  pub over : limit < n

-- This is why there is no frame at the front of the bytes.
abbrev pub IsNoFrame : FrameFault → List ℕ → Type 0
IsNoFrame fault.Short bytes = IsCutFrame bytes
IsNoFrame (fault.TooLong n) bytes = IsTooLong n bytes
IsNoFrame fault.LongPrefix bytes = IsLongVarint bytes

-- The length in front of a message has over ten bytes, and this is the fault at its place.
pub record IsLongPrefix (at : ℕ) (e : WireFault) (bytes : List ℕ) : Type 0 where
  pub fault_is : e ≡ LongVarint at
  pub long : IsLongVarint bytes

-- ---- reading

abbrev pub prefix_fault : VarintFault → FrameFault
prefix_fault varint.Short = fault.Short
prefix_fault varint.Long = fault.LongPrefix

-- what is left to do once the length and the bytes behind it are known
abbrev pub behind_length : ℕ → ℕ × List ℕ → Result (List ℕ × ℕ) FrameFault
behind_length size len =
    if nat_lt limit len.0 then Err (fault.TooLong len.0)
    else if nat_lt (length len.1) len.0 then Err fault.Short
    else Ok (take len.0 len.1, size - length len.1 + len.0)

-- The message of the frame at the front of the bytes, and how many bytes the frame has: the length's own faults, TooLong, and Short for the message.
unfoldable pub frame_at : List ℕ → Result (List ℕ × ℕ) FrameFault
frame_at bytes = do
  len ← with_cause prefix_fault (varint_at bytes)
  behind_length (length bytes) len

-- a frame as its parts are returned
abbrev pub frame_value : Bor (List ℕ) × ℕ → List ℕ × ℕ
frame_value f = (f.0.now, f.1)
