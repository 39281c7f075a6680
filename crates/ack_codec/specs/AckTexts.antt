-- The written spelling of an ack: the least varints, and each reply a field of its own.
use Rattle.std.specs.Prelude.{ℕ, ◌+◌, ◌*◌, List, ◌++◌, length, ℤ, pos, negsuc}
use Rattle.std.specs.List.{flat_map}
use Rattle.hd_base.specs.declared.states.Status.{Status}
use Rattle.hd_base.specs.Wire.{status_number}
use Rattle.proto_fields.specs.Varint.{least_varint}
use Rattle.proto_fields.specs.Writing.{varint_field}
use Rattle.ack_codec.specs.declared.acks.Ack.{Ack}

-- the zigzag number of a signed number
abbrev pub zigzag : ℤ → ℕ
zigzag (pos n) = 2 * n
zigzag (negsuc n) = 2 * n + 1

unfoldable pub reply_text : Status → List ℕ
reply_text status = varint_field 2 (status_number status)

unfoldable pub ack_message : Ack → List ℕ
ack_message ack = varint_field 1 (zigzag ack.seqno) ++ flat_map reply_text ack.replies

abbrev pub ack_text : Ack → List ℕ
ack_text ack = least_varint (length (ack_message ack)) ++ ack_message ack
