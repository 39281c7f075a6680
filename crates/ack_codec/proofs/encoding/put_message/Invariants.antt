-- The replies so far are written, and have numbers of 32 bits, so each takes at most six bytes.
use Rattle.std.proofs.Common.{◌≡◌, ◌+◌, ◌*◌, ◌^◌, ◌<◌, ◌≤◌, ◌++◌, length, take}
use Rattle.std.specs.Prelude.{All}
use Rattle.std.specs.List.{flat_map}
use Rattle.hd_base.specs.Wire.{status_number}
use Rattle.proto_fields.specs.Writing.{varint_field}
use Rattle.ack_codec.specs.AckTexts.{zigzag, reply_text}
use Rattle.ack_codec.proofs.encoding.put_message.Given as goal

abbrev pub invariant-loop-status : goal.invariant-loop-status
invariant-loop-status l = record {
  written : l.out ≡ l.fn.out ++ (varint_field 1 (zigzag l.ack.seqno) ++ flat_map reply_text (take l.status-index l.status-items));
  few : length l.out ≤ length l.fn.out + 11 + 6 * l.status-index;
  low : All (λ s. status_number s < 2 ^ 32) (take l.status-index l.status-items);
}
