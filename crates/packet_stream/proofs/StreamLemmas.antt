-- A stream stays one through each call, and how many bytes are written then.
use Rattle.std.proofs.Common.{ℕ, suc, zero, ◌≡◌, ◌≤◌, ◌<◌, ◌+◌, ◌-◌, ◌^◌, max, Bool, List, [], ◌∷◌, ◌++◌, length, drop, Option, Some, None, slice_get, refl, arith, length-append, length-drop}
use Rattle.std.proofs.lemmas.Bool.Decides.{nat_tests}
use Rattle.hd_base.specs.declared.numbers.BlockId.{BlockId}
use Rattle.hd_base.specs.SumRules.{Rule, IsChunkSize}
use Rattle.packet_codec.specs.declared.packets.Packet.{Packet}
use Rattle.packet_stream.specs.declared.extents.TheConstants.{BLOCK_LIMIT}
use Rattle.packet_stream.specs.declared.stream.TheConstants.{MAX_UNACKED}
use Rattle.packet_stream.specs.Extents.{next_start, greatest_end}
use Rattle.packet_stream.specs.Streams.{StreamState, IsStream, start_in, written_in, begun, with_bytes, fill_bytes, fill_byte, next_packet, formed, sync_formed, last_formed, acked_packet, oldest_acked}
use Rattle.packet_stream.proofs.ExtentLemmas.{next_start_is, next_start_rises, kept_behind, end_past_sent}

pub begun_written : (r : Rule) (base : ℕ) → written_in (begun r base) ≡ base
begun_written r base = rw (next_start_is r.chunk base base (omega arith)) (omega arith)

pub begun_is : (r : Rule) (base : ℕ) → IsChunkSize r.chunk → base ≤ BLOCK_LIMIT → IsStream (begun r base)
begun_is r base h b = record {
  chunk = h;
  base = omega arith;
  sent = omega (arith, begun_written r base);
  within = omega (arith, begun_written r base);
  number = omega arith;
  few = omega arith;
}

pub wrote_written : (s : StreamState) (bytes : List ℕ) → written_in (with_bytes s bytes) ≡ written_in s + length bytes
wrote_written s bytes = omega (arith, length-append s.tail bytes)

pub wrote_is : (s : StreamState) (bytes : List ℕ) → IsStream s → written_in s + length bytes ≤ BLOCK_LIMIT → IsStream (with_bytes s bytes)
wrote_is s bytes h b = record {
  chunk = h.chunk;
  base = h.base;
  sent = omega (arith, h.sent, wrote_written s bytes);
  within = omega (arith, wrote_written s bytes);
  number = h.number;
  few = h.few;
}

pub fill_length : (block : BlockId) (offset n : ℕ) → length (fill_bytes block offset n) ≡ n
fill_length block offset zero = refl
fill_length block offset (suc n) = omega (arith, fill_length block offset n, length-append (fill_bytes block offset n) (fill_byte block (offset + n) ∷ []))

-- the next packet begins no later than the sent end
pub next_start_near : (size base n : ℕ) → base ≤ n → next_start size base n ≤ n
next_start_near size base n b = rw (next_start_is size base n b) (omega arith)

pub greatest_past : (s : StreamState) → IsStream s → s.sent < greatest_end s.rule.chunk (start_in s)
greatest_past s h = end_past_sent s.rule.chunk s.base s.sent (omega (arith, h.chunk.least)) h.base

pub formed_written : (s : StreamState) (end : ℕ) (sync : Bool) → IsStream s → s.sent < end → end ≤ written_in s → written_in (formed s end sync) ≡ written_in s
formed_written s end sync h past within =
    kept_behind s.tail (start_in s) (next_start s.rule.chunk s.base end)
    (next_start_rises s.rule.chunk s.base s.sent end (omega (arith, h.chunk.least)) h.base (omega arith))
    (omega (arith, next_start_near s.rule.chunk s.base end (omega (arith, h.base))))

pub formed_is : (s : StreamState) (end : ℕ) (sync : Bool) → IsStream s → s.sent < end → end ≤ written_in s → length s.unacked < MAX_UNACKED → s.seqno + 1 < 2 ^ 63 → IsStream (formed s end sync)
formed_is s end sync h past within room number = record {
  chunk = h.chunk;
  base = omega (arith, h.base);
  sent = omega (arith, formed_written s end sync h past within);
  within = omega (arith, formed_written s end sync h past within, h.within);
  number = number;
  few = omega (arith, length-append s.unacked (next_packet s end sync ∷ []));
}

pub sync_formed_is : (s : StreamState) → IsStream s → length s.unacked < MAX_UNACKED → s.seqno + 1 < 2 ^ 63 → IsStream (sync_formed s)
sync_formed_is s h room number = record {
  chunk = h.chunk;
  base = h.base;
  sent = h.sent;
  within = h.within;
  number = number;
  few = simp length-append (omega arith);
}

pub last_formed_is : (s : StreamState) (sync : Bool) → IsStream s → length s.unacked < MAX_UNACKED → IsStream (last_formed s sync)
last_formed_is s sync h room = record {
  chunk = h.chunk;
  base = h.base;
  sent = h.sent;
  within = h.within;
  number = h.number;
  few = simp length-append (omega arith);
}

acked_packet_is : (s : StreamState) (p : Option Packet) → IsStream s → IsStream (acked_packet s p)
acked_packet_is s None h = h
acked_packet_is s (Some p) h = record {
  chunk = h.chunk;
  base = h.base;
  sent = h.sent;
  within = h.within;
  number = h.number;
  few = simp length-drop (omega (arith, h.few));
}

pub oldest_acked_is : (s : StreamState) → IsStream s → IsStream (oldest_acked s)
oldest_acked_is s h = acked_packet_is s (slice_get s.unacked 0) h
