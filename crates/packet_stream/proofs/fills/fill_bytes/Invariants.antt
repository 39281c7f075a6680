-- The bytes so far.
use Rattle.std.proofs.Common.{◌≡◌, length}
use Rattle.packet_stream.specs.Streams.{fill_bytes}
use Rattle.packet_stream.proofs.fills.fill_bytes.Given as goal

abbrev pub invariant-loop-i : goal.invariant-loop-i
invariant-loop-i l = (l.bytes.items ≡ fill_bytes l.block l.offset l.i) × (length l.bytes.items ≡ l.i)
