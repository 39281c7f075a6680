-- The packets of a stream have the bytes written, where they lie, and leave no gap.
use Rattle.std.proofs.Common.{ℕ, ◌≡◌, ◌≤◌, ◌<◌, ◌+◌, ◌-◌, ◌%◌, ◌==◌, max, Bool, false, List, [], ◌∷◌, ◌++◌, length, take, drop, Option, Some, None, slice_get, refl, ap, sym, ◌∙◌, subst, arith, length-append, length-drop}
use Rattle.std.proofs.Math.Seq.{drop-append_seam}
use Rattle.std.proofs.lemmas.List.{drop-drop, drop-append-le, length-take-le}
use Rattle.std.proofs.lemmas.Bool.Decides.{nat_tests}
use Rattle.hd_base.specs.SumRules.{Rule, IsChunkSize}
use Rattle.packet_codec.specs.declared.packets.Packet.{Packet}
use Rattle.replica_core.specs.Extents.{chunk_start}
use Rattle.packet_stream.specs.Carried.{Carries, IsPiece}
use Rattle.packet_stream.specs.Extents.{next_start, greatest_end, packet_limit}
use Rattle.packet_stream.specs.Streams.{StreamState, IsStream, start_in, written_in, begun, with_bytes, next_packet, formed, acked_packet, oldest_acked}
use Rattle.packet_stream.proofs.ExtentLemmas.{next_start_is, next_start_rises, chunk_in_limit}
use Rattle.packet_stream.proofs.StreamLemmas.{begun_written, wrote_written, formed_written, next_start_near}

-- nothing is left behind the whole
drop_whole : (v : List ℕ) (n : ℕ) → n ≡ length v → drop n v ≡ []
drop_whole [] n e = rw e refl
drop_whole (x ∷ v) n e = rw e (drop_whole v (length v) refl)

pub begun_carries : (r : Rule) (v : List ℕ) → Carries v (begun r (length v))
begun_carries r v = record {
  whole = sym (begun_written r (length v));
  kept = sym (drop_whole v _ (rw (next_start_is r.chunk (length v) (length v) (omega arith)) (omega arith)));
}

pub wrote_carries : (s : StreamState) (v bytes : List ℕ) → Carries v s → Carries (v ++ bytes) (with_bytes s bytes)
wrote_carries s v bytes h = record {
  whole = omega (arith, length-append v bytes, wrote_written s bytes, h.whole);
  kept = ap (λ t. t ++ bytes) h.kept ∙ sym (drop-append-le (start_in s) v bytes (omega (arith, h.whole)));
}

-- a packet that ends here has so many bytes
next_length : (s : StreamState) (end : ℕ) (sync : Bool) → end ≤ written_in s → length (next_packet s end sync).body ≡ end - start_in s
next_length s end sync h = length-take-le (end - start_in s) s.tail (omega arith)

pub start_near : (s : StreamState) → IsStream s → start_in s ≤ s.sent
start_near s h = next_start_near s.rule.chunk s.base s.sent h.base

pub formed_carries : (s : StreamState) (v : List ℕ) (end : ℕ) (sync : Bool) → IsStream s → s.sent < end → end ≤ written_in s → Carries v s → Carries v (formed s end sync)
formed_carries s v end sync i past within h =
    let rises = next_start_rises s.rule.chunk s.base s.sent end (omega (arith, i.chunk.least)) i.base (omega arith) in
    let place : start_in s + (next_start s.rule.chunk s.base end - start_in s) ≡ next_start s.rule.chunk s.base end = omega (arith, rises) in
    record {
      whole = h.whole ∙ sym (formed_written s end sync i past within);
      kept = ap (λ t. drop (next_start s.rule.chunk s.base end - start_in s) t) h.kept ∙ drop-drop (next_start s.rule.chunk s.base end - start_in s) (start_in s) v ∙ ap (λ n. drop n v) place;
    }

pub next_is_piece : (s : StreamState) (v : List ℕ) (end : ℕ) (sync : Bool) → IsStream s → s.sent < end → end ≤ written_in s → Carries v s → IsPiece v (next_packet s end sync)
next_is_piece s v end sync i past within h =
    let n = next_length s end sync within in
    record {
      bytes = ap (λ k. take k s.tail) (sym n) ∙ ap (λ t. take (length (next_packet s end sync).body) t) h.kept;
      within = omega (arith, n, start_near s i, h.whole);
    }

short_from : (size start : ℕ) → greatest_end size start ≤ start + packet_limit size
short_from size start = grind (arith, nat_tests, chunk_in_limit size)

-- A packet has no more bytes than its limit, and ends within the chunk that it begins amid.
pub next_is_short : (s : StreamState) (end : ℕ) (sync : Bool) → end ≤ greatest_end s.rule.chunk (start_in s) → end ≤ written_in s → length (next_packet s end sync).body ≤ packet_limit s.rule.chunk
next_is_short s end sync near within =
    let n = next_length s end sync within in
    let f = short_from s.rule.chunk (start_in s) in
    omega arith

-- one that begins amid a chunk ends within it
pub next_within_chunk : (s : StreamState) (end : ℕ) → end ≤ greatest_end s.rule.chunk (start_in s) → (start_in s % s.rule.chunk == 0) ≡ false → end ≤ chunk_start s.rule.chunk (start_in s) + s.rule.chunk
next_within_chunk s end near amid = grind (arith, nat_tests)

acked_carries_as : (s : StreamState) (v : List ℕ) (o : Option Packet) → Carries v s → Carries v (acked_packet s o)
acked_carries_as s v None h = h
acked_carries_as s v (Some p) h = record { whole = h.whole; kept = h.kept }

pub acked_carries : (s : StreamState) (v : List ℕ) → Carries v s → Carries v (oldest_acked s)
acked_carries s v h = acked_carries_as s v (slice_get s.unacked 0) h
