-- What an event that was taken makes of what is there.
use Rattle.std.proofs.Common.{◌≡◌, ℕ, ◌+◌, ◌≤◌, true, false, Option, Some, None, Ok, refl, sym, ◌∙◌, ap, arith, max, ℤ, pos, negsuc, nat_abs}
use Rattle.std.specs.Prelude.{int_le}
use Rattle.std.proofs.lemmas.Bool.Decides.{nat_tests}
use Rattle.hd_base.specs.declared.states.ReplicaState.{ReplicaState}
use Rattle.hd_base.specs.declared.states.ReplicaState.TheVariants as state
use Rattle.hd_base.specs.declared.numbers.Stamp.{Stamp}
use Rattle.hd_base.specs.declared.numbers.ConnId.{ConnId}
use Rattle.hd_base.specs.SumRules.{Rule}
use Rattle.replica_core.specs.declared.records.ReplicaRecord.{ReplicaRecord}
use Rattle.replica_core.specs.declared.ack_queue.PendingPacket.{PendingPacket}
use Rattle.replica_core.specs.declared.info.ReplicaInfo.{ReplicaInfo}
use Rattle.replica_core.specs.declared.extents.PacketExtent.{PacketExtent}
use Rattle.replica_core.specs.declared.streams.Stream.{Stream}
use Rattle.hd_base.specs.Results.{◌>>=◌}
use Rattle.replica_core.proofs.StepLemmas.{step_ok}
use Rattle.replica_core.specs.Info.{settled_at, reopen, recover_setup, recover_stream, begin_recovery, end_recovery}
use Rattle.replica_core.specs.Extents.{heartbeat_of, stream_after, start_of, place_check, packet_at, pending_of}
use Rattle.replica_core.specs.Laws.{Adjoins}
use Rattle.replica_core.specs.Transitions.{present, stream_by, oldest_of}

-- a replica that is there, and isn't broken
pub present_is : (c : ReplicaRecord) (h : ReplicaInfo) → present c ≡ Ok h → (c.is_broken ≡ false) × (c.info ≡ Some h)
present_is c h e = grind arith

pub reopen_is : (h k : ReplicaInfo) (named new : Stamp) (n : ℕ) → reopen h named new n ≡ Ok k → (k ≡ settled_at state.Rbw new h.sums n) × (n ≡ h.written)
unfolding reopen
reopen_is h k named new n e = grind (arith, nat_tests)

pub recover_setup_is : (h k : ReplicaInfo) (named new : Stamp) (n : ℕ) (into : ReplicaState) → recover_setup h named new n into ≡ Ok k → (k ≡ settled_at into new h.sums n) × (n ≡ h.written)
unfolding recover_setup
recover_setup_is h k named new n into e = grind (arith, nat_tests)

pub recover_stream_is : (h k : ReplicaInfo) (named new : Stamp) (low high : ℕ) → recover_stream h named new low high ≡ Ok k → k ≡ settled_at state.Rbw new h.sums h.acked
unfolding recover_stream
recover_stream_is h k named new low high e = grind (arith, nat_tests)

pub begin_recovery_is : (h k : ReplicaInfo) (named recovery : Stamp) → begin_recovery h named recovery ≡ Ok k → k ≡ record h { recovery = Some recovery }
unfolding begin_recovery
begin_recovery_is h k named recovery e = grind (arith, nat_tests)

pub end_recovery_is : (h k : ReplicaInfo) (holder_id : Option Stamp) (recovery : Stamp) (n : ℕ) → end_recovery h holder_id recovery n ≡ Ok k → (k ≡ settled_at state.Finalized recovery h.sums n) × (n ≤ h.written)
unfolding end_recovery
end_recovery_is h k holder_id recovery n e = grind (arith, nat_tests)

-- ---- packets

-- a heartbeat ends at 0 and isn't the last
pub heartbeat_is : (p : PacketExtent) (e : PendingPacket) → heartbeat_of p ≡ Ok e → (e.end ≡ 0) × (e.last ≡ false)
unfolding heartbeat_of
heartbeat_is p e q = grind (arith, nat_tests)

pub stream_after_is : (s t : Stream) (p : PacketExtent) → stream_after s p ≡ Ok t → (s.is_over ≡ false) × (t.conn ≡ s.conn) × (t.is_over ≡ p.last)
unfolding stream_after
stream_after_is s t p e = grind (arith, nat_tests)

-- where it begins
start_of_is : (p : PacketExtent) (offset : ℕ) → start_of p ≡ Ok offset → (int_le (pos 0) p.offset ≡ true) × (offset ≡ nat_abs p.offset)
unfolding start_of
start_of_is p offset e = grind (arith, nat_tests)

place_check_is : (p : PacketExtent) (written offset : ℕ) → place_check p written offset ≡ Ok tt → (offset ≤ written) × (p.last ≡ true → offset + p.length ≡ written)
unfolding place_check
place_check_is p written offset e = grind (arith, nat_tests)

packet_at_is : (r : Rule) (p : PacketExtent) (offset : ℕ) (e : PendingPacket) → packet_at r p offset ≡ Ok e → (e.end ≡ offset + p.length) × (e.last ≡ p.last)
unfolding packet_at
packet_at_is r p offset e q = grind (arith, nat_tests)

not_negative : (z : ℤ) → int_le (pos 0) z ≡ true → z ≡ pos (nat_abs z)
not_negative (pos n) e = refl
not_negative (negsuc n) e = absurd (cc)

-- What is true of a packet that is taken: what it leaves pending is the last where the packet is, and then ends where the written bytes end.
pub record IsPendingOf (p : PacketExtent) (written : ℕ) (e : PendingPacket) : Type 0 where
  pub adjoins : Adjoins written (max written e.end) p.offset p.length
  pub same : e.last ≡ p.last
  pub last : e.last ≡ true → e.end ≡ written

pending_of_at : (r : Rule) (p : PacketExtent) (written offset : ℕ) (e : PendingPacket) → start_of p ≡ Ok offset → place_check p written offset ≡ Ok tt → packet_at r p offset ≡ Ok e → IsPendingOf p written e
pending_of_at r p written offset e begin place sum =
    let start = start_of_is p offset begin in
    let near = place_check_is p written offset place in
    let entry = packet_at_is r p offset e sum in
    record {
      adjoins = record {
        start = offset;
        is = not_negative p.offset start.0 ∙ ap pos (sym start.1);
        near = near.0;
        reach = ap (λ n. max written n) entry.0;
      };
      same = entry.1;
      last = λ last. entry.0 ∙ near.1 (sym entry.1 ∙ last);
    }

pending_of_then : (r : Rule) (p : PacketExtent) (written offset : ℕ) (e : PendingPacket) → start_of p ≡ Ok offset → (x : Unit {0}) × (place_check p written offset ≡ Ok x) × (packet_at r p offset ≡ Ok e) → IsPendingOf p written e
pending_of_then r p written offset e begin rest = pending_of_at r p written offset e begin rest.1 rest.2

pending_of_whole : (r : Rule) (p : PacketExtent) (written : ℕ) (e : PendingPacket) → (offset : ℕ) × (start_of p ≡ Ok offset) × ((place_check p written offset >>= (λ _. packet_at r p offset)) ≡ Ok e) → IsPendingOf p written e
pending_of_whole r p written e parts = pending_of_then r p written parts.0 e parts.1 (step_ok (place_check p written parts.0) (λ _. packet_at r p parts.0) e parts.2)

pub pending_of_is : (r : Rule) (p : PacketExtent) (written : ℕ) (e : PendingPacket) → pending_of r p written ≡ Ok e → IsPendingOf p written e
pending_of_is r p written e q = pending_of_whole r p written e (step_ok (start_of p) (λ offset. place_check p written offset >>= (λ _. packet_at r p offset)) e q)

one_stream : (t : Stream) (conn : ConnId) (s : Stream) → stream_by (Some t) conn ≡ Ok s → (t ≡ s) × (s.conn.0 ≡ conn.0)
one_stream t conn s e = grind (arith, nat_tests)

one_packet : (x y : PendingPacket) (seqno : ℤ) → oldest_of (Some x) seqno ≡ Ok y → x ≡ y
one_packet x y seqno e = grind (arith, nat_tests)

-- the stream of the connection that writes
pub stream_by_is : (at : Option Stream) (conn : ConnId) (s : Stream) → stream_by at conn ≡ Ok s → (at ≡ Some s) × (s.conn.0 ≡ conn.0)
stream_by_is None conn s e = absurd (cc)
stream_by_is (Some t) conn s e = let both = one_stream t conn s e in (ap Some both.0, both.1)

pub oldest_is : (at : Option PendingPacket) (seqno : ℤ) (x : PendingPacket) → oldest_of at seqno ≡ Ok x → at ≡ Some x
oldest_is None seqno x e = absurd (cc)
oldest_is (Some y) seqno x e = ap Some (one_packet y x seqno e)
