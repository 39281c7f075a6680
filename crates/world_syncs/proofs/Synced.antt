-- Replicas that took a packet with sync, as more events come.
use Rattle.std.proofs.Common.{◌≡◌, ℕ, ◌≤◌, true, List, [], ◌∷◌, ◌++◌, refl, ap, subst, ◌∙◌, append_assoc, arith}
use Rattle.hd_base.specs.declared.numbers.ConnId.{ConnId}
use Rattle.packet_codec.specs.declared.packets.Packet.{Packet}
use Rattle.replica_core.specs.declared.events.Answer.TheVariants as answer
use Rattle.replica_core.specs.Views.{written_in}
use Rattle.replica_model.specs.declared.events.ReplicaEvent.{ReplicaEvent}
use Rattle.replica_model.specs.declared.events.ReplicaEvent.TheVariants as replica_event
use Rattle.replica_model.specs.Rows.{FullReplica, row, row_answer}
use Rattle.world_syncs.specs.Histories.{replayed}
use Rattle.world_syncs.specs.Syncing.{LeaveBytes, SyncedSince}

pub replayed-append : (r : FullReplica) (xs ys : List ReplicaEvent) → replayed r (xs ++ ys) ≡ replayed (replayed r xs) ys
replayed-append r [] ys = refl
replayed-append r (x ∷ xs) ys = replayed-append (row r x) xs ys

leave-more : (n : ℕ) (r : FullReplica) (xs : List ReplicaEvent) (e : ReplicaEvent) → LeaveBytes n r xs → n ≤ written_in (row (replayed r xs) e).known → LeaveBytes n r (xs ++ e ∷ [])
leave-more n r [] e h le = (le, tt)
leave-more n r (x ∷ xs) e h le = (h.0, leave-more n (row r x) xs e h.1 le)

-- with one event more, which leaves the bytes
pub synced-more : (r : FullReplica) (es : List ReplicaEvent) (e : ReplicaEvent) (n : ℕ) → SyncedSince r es n → n ≤ written_in (row (replayed r es) e).known → SyncedSince r (es ++ e ∷ []) n
synced-more r es e n h le = record {
  before = h.before;
  conn = h.conn;
  packet = h.packet;
  after = h.after ++ e ∷ [];
  are = ap (λ (xs : List ReplicaEvent). xs ++ e ∷ []) h.are ∙ append_assoc h.before (replica_event.Packet h.conn h.packet ∷ h.after) (e ∷ []);
  asks = h.asks;
  takes = h.takes;
  leave = leave-more n (replayed r h.before) (replica_event.Packet h.conn h.packet ∷ h.after) e h.leave
      (subst (λ (x : FullReplica). n ≤ written_in (row x e).known) (ap (λ (xs : List ReplicaEvent). replayed r xs) h.are ∙ replayed-append r h.before (replica_event.Packet h.conn h.packet ∷ h.after)) le);
}

-- a packet with sync
pub synced-new : (r : FullReplica) (es : List ReplicaEvent) (conn : ConnId) (p : Packet) (n : ℕ) → p.sync ≡ true → row_answer (replayed r es) (replica_event.Packet conn p) ≡ answer.Done → n ≤ written_in (row (replayed r es) (replica_event.Packet conn p)).known
    → SyncedSince r (es ++ replica_event.Packet conn p ∷ []) n
synced-new r es conn p n s a le = record { before = es; conn = conn; packet = p; after = []; are = refl; asks = s; takes = a; leave = (le, tt) }

leave-less : (m n : ℕ) (r : FullReplica) (es : List ReplicaEvent) → m ≤ n → LeaveBytes n r es → LeaveBytes m r es
leave-less m n r [] le h = tt
leave-less m n r (e ∷ es) le h = (omega (arith, le, h.0), leave-less m n (row r e) es le h.1)

-- of fewer bytes
pub synced-less : (m n : ℕ) (r : FullReplica) (es : List ReplicaEvent) → m ≤ n → SyncedSince r es n → SyncedSince r es m
synced-less m n r es le h = record { before = h.before; conn = h.conn; packet = h.packet; after = h.after; are = h.are; asks = h.asks; takes = h.takes; leave = leave-less m n (replayed r h.before) (replica_event.Packet h.conn h.packet ∷ h.after) le h.leave }
