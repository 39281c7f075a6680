-- Requests: the frame, what the message of each opcode says, why bytes are no request, the function that reads, and the written text.
use Rattle.std.specs.Prelude.{◌≡◌, ◌≢◌, ℕ, ◌+◌, ◌*◌, ◌<◌, ◌≤◌, ◌==◌, if◌then◌else◌, ◌⊎◌, List, [], ◌∷◌, ◌++◌, length, drop, Option, Some, None, IsSome, Result, Ok, Err}
use Rattle.hd_base.specs.Results.{◌>>=◌, with_cause, with_value}
use Rattle.proto_fields.specs.Varint.{BeginsWithVarint, least_varint}
use Rattle.proto_fields.specs.Frames.{limit, IsWholeFrame, IsTooLong, IsLongPrefix}
use Rattle.proto_fields.specs.Framed.{FramesSome, HasSome, framed_at, frame_cause}
use Rattle.proto_fields.specs.declared.reading.WireFault.{WireFault}
use Rattle.proto_fields.specs.declared.frames.FrameFault.{FrameFault}
use Rattle.op_headers.specs.declared.ops.Op.{Op}
use Rattle.op_headers.specs.declared.ops.Op.TheVariants as op
use Rattle.op_headers.specs.declared.opcodes.Opcode.{Opcode}
use Rattle.op_headers.specs.declared.opcodes.Opcode.TheVariants as opcode
use Rattle.op_headers.specs.declared.faults.OpFault.{OpFault}
use Rattle.op_headers.specs.declared.faults.OpFault.TheVariants as fault
use Rattle.op_headers.specs.Opcodes.{opcode_number, opcode_with}
use Rattle.op_headers.specs.Recoveries.{HasItsLength, HasItsTargets}
use Rattle.op_headers.specs.Paths.{Path}
use Rattle.op_headers.specs.Tables.{Format}
use Rattle.op_headers.specs.Formats.{write_format, read_format, transfer_format, checksum_op_format, recovery_format}

-- ---- what a message says

-- The message says a value of this format, as a request.
pub record SaysAs {X : Type 0} (wrap : X →
    Op) (format : Format X) (message : List ℕ) (r : Result Op Path) : Type 0 where
  pub decoded : Result X Path
  pub says : format.says message decoded
  pub op_is : r ≡ with_value wrap decoded

-- A message of this opcode says this: a request, or the first field that it misses.
abbrev pub OpSays : Opcode → List ℕ → Result Op Path → Type 0
OpSays opcode.WriteBlock message r = SaysAs op.Write write_format message r
OpSays opcode.ReadBlock message r = SaysAs op.Read read_format message r
OpSays opcode.BlockChecksum message r = SaysAs op.Checksum checksum_op_format message r
OpSays opcode.TransferBlock message r = SaysAs op.Transfer transfer_format message r
OpSays opcode.Custom message r = SaysAs op.Recovery recovery_format message r

-- A message of this opcode has this first fault.
abbrev pub OpFaulty : Opcode → List ℕ → WireFault → Type 0
OpFaulty opcode.WriteBlock message e = write_format.faulty message e
OpFaulty opcode.ReadBlock message e = read_format.faulty message e
OpFaulty opcode.BlockChecksum message e = checksum_op_format.faulty message e
OpFaulty opcode.TransferBlock message e = transfer_format.faulty message e
OpFaulty opcode.Custom message e = recovery_format.faulty message e

-- ---- the frame

-- The bytes are the version 28 as two bytes, an opcode, and what this says of them together.
pub record BehindHead (P : Opcode → List ℕ → Type 0) (bytes : List ℕ) : Type 0 where
  pub code : Opcode
  pub rest : List ℕ
  pub parts : bytes ≡ 0 ∷ 28 ∷ opcode_number code ∷ rest
  pub holds : P code rest

-- The bytes are a request: version, opcode, and the frame of a message that says it.
abbrev pub SpellsOp : Op → List ℕ → Type 0
SpellsOp request bytes = BehindHead (λ code rest. FramesSome (λ message. OpSays code message (Ok request)) rest) bytes

-- A whole request has three bytes for version and opcode, and a whole frame, whatever stands in them.
pub record IsWholeRequest (bytes : List ℕ) : Type 0 where
  pub head : List ℕ
  pub rest : List ℕ
  pub parts : bytes ≡ head ++ rest
  pub three : length head ≡ 3
  pub framed : IsWholeFrame rest

-- The bytes are a proper prefix of a whole request; and version, opcode and length, where they are wholly there, are lawful.
pub record IsCutRequest (bytes : List ℕ) : Type 0 where
  pub missing : List ℕ
  pub some : 0 < length missing
  pub whole : IsWholeRequest (bytes ++ missing)
  pub version : (high low : ℕ) (rest : List ℕ) → bytes ≡ high ∷ low ∷ rest → 256 * high + low ≡ 28
  pub code : (high low number : ℕ) (rest : List ℕ) → bytes ≡ high ∷ low ∷ number ∷ rest → IsSome (opcode_with number)
  pub lawful : (high low number : ℕ) (rest : List ℕ) → bytes ≡ high ∷ low ∷ number ∷ rest → (n : ℕ) (behind : List ℕ) →
      BeginsWithVarint rest n behind → n ≤ limit

-- The bytes begin with this version, which isn't 28.
pub record HasVersion (got : ℕ) (bytes : List ℕ) : Type 0 where
  pub high : ℕ
  pub low : ℕ
  pub rest : List ℕ
  pub parts : bytes ≡ high ∷ low ∷ rest
  pub got_is : got ≡ 256 * high + low
  pub other : got ≢ 28

-- The bytes begin with the version 28 and this opcode, which none has.
pub record HasOpcode (got : ℕ) (bytes : List ℕ) : Type 0 where
  pub rest : List ℕ
  pub parts : bytes ≡ 0 ∷ 28 ∷ got ∷ rest
  pub unknown : opcode_with got ≡ None

-- ---- why bytes are no request

-- The length has over ten bytes, which is a fault at its place in the frame, or the message has the fault.
abbrev pub IsFaultyBehind : WireFault → Opcode → List ℕ → Type 0
IsFaultyBehind e code rest = IsLongPrefix 3 e rest ⊎ HasSome (λ message. OpFaulty code message e) rest

abbrev pub IsRefusedOp : OpFault → List ℕ → Type 0
IsRefusedOp fault.Short bytes = IsCutRequest bytes
IsRefusedOp (fault.Version got) bytes = HasVersion got bytes
IsRefusedOp (fault.Opcode got) bytes = HasOpcode got bytes
IsRefusedOp (fault.TooLong n) bytes = BehindHead (λ code rest. IsTooLong n rest) bytes
IsRefusedOp (fault.Wire e) bytes = BehindHead (IsFaultyBehind e) bytes
IsRefusedOp (fault.Missing path) bytes =
    BehindHead (λ code rest. HasSome (λ message. OpSays code message (Err path)) rest) bytes
IsRefusedOp fault.Memory bytes = ⊥

-- ---- reading

abbrev pub op_read : Opcode → List ℕ → Result (Result Op Path) WireFault
op_read opcode.WriteBlock message = with_value (with_value op.Write) (write_format.read message)
op_read opcode.ReadBlock message = with_value (with_value op.Read) (read_format.read message)
op_read opcode.BlockChecksum message = with_value (with_value op.Checksum) (checksum_op_format.read message)
op_read opcode.TransferBlock message = with_value (with_value op.Transfer) (transfer_format.read message)
op_read opcode.Custom message = with_value (with_value op.Recovery) (recovery_format.read message)

-- The request that the message of this opcode says.
unfoldable pub op_at : Opcode → List ℕ → Result Op OpFault
op_at code message = with_cause fault.Wire (op_read code message) >>= with_cause fault.Missing

abbrev pub opcode_step : ℕ → List ℕ → Option Opcode → Result (Opcode × List ℕ) OpFault
opcode_step number rest None = Err (fault.Opcode number)
opcode_step number rest (Some code) = Ok (code, rest)

abbrev pub behind_version : List ℕ → Result (Opcode × List ℕ) OpFault
behind_version [] = Err fault.Short
behind_version (number ∷ rest) = opcode_step number rest (opcode_with number)

-- The opcode, and the bytes behind it.
unfoldable pub head_at : List ℕ → Result (Opcode × List ℕ) OpFault
head_at [] = Err fault.Short
head_at (high ∷ []) = Err fault.Short
head_at (high ∷ low ∷ rest) = if 256 * high + low == 28 then behind_version rest
    else Err (fault.Version (256 * high + low))

-- the fault of a request's frame, whose length stands behind three bytes
abbrev pub op_frame_cause : FrameFault → OpFault
op_frame_cause = frame_cause fault.Short fault.TooLong fault.Wire 3

-- a request with the bytes that it has
abbrev pub sized : Op × ℕ → Op × ℕ
sized x = (x.0, 3 + x.1)

-- The request at the front of the bytes, and how many bytes it has.
unfoldable pub request_at : List ℕ → Result (Op × ℕ) OpFault
request_at bytes = do
  head ← head_at bytes
  with_value sized (framed_at op_frame_cause (op_at head.0) head.1)

-- ---- writing

abbrev pub op_code : Op → Opcode
op_code (op.Write w) = opcode.WriteBlock
op_code (op.Read r) = opcode.ReadBlock
op_code (op.Transfer t) = opcode.TransferBlock
op_code (op.Checksum c) = opcode.BlockChecksum
op_code (op.Recovery r) = opcode.Custom

-- the written message
abbrev pub op_message : Op → List ℕ
op_message (op.Write w) = write_format.text w
op_message (op.Read r) = read_format.text r
op_message (op.Transfer t) = transfer_format.text t
op_message (op.Checksum c) = checksum_op_format.text c
op_message (op.Recovery r) = recovery_format.text r

-- the written request
abbrev pub op_text : Op → List ℕ
op_text request = (0 ∷ 28 ∷ opcode_number (op_code request) ∷ []) ++
    (least_varint (length (op_message request)) ++ op_message request)

-- The numbers have their widths, so the written message says the request.
abbrev pub OpFits : Op → Type 0
OpFits (op.Write w) = write_format.fits w
OpFits (op.Read r) = read_format.fits r
OpFits (op.Transfer t) = transfer_format.fits t
OpFits (op.Checksum c) = checksum_op_format.fits c
OpFits (op.Recovery r) = HasItsLength r.kind r.new_length → recovery_format.fits r

-- Only a last step has a length, and only a first one has targets.
abbrev pub IsLawfulStep : Op → Type 0
IsLawfulStep (op.Recovery r) = HasItsLength r.kind r.new_length × HasItsTargets r.kind r.targets
IsLawfulStep _ = Unit {0}

-- The request has a written spelling: its message is within the limit, only a last step has a length, and only a first one has targets.
pub record IsEncodable (request : Op) : Type 0 where
  pub within_limit : length (op_message request) ≤ limit
  pub step : IsLawfulStep request

-- Where the old bytes end the request is read, whatever follows the new bytes.
abbrev pub ReadsOp : List ℕ → List ℕ → Op → Type 0
ReadsOp old new request = (rest : List ℕ) →
    request_at (drop (length old) (new ++ rest)) ≡ Ok (request, length (op_text request))
