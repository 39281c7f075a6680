-- What is pending at a replica came as a packet, and where that has sync, the replica took it so.
use Rattle.std.proofs.Common.{◌≡◌, ℕ, zero, suc, ◌≤◌, Bool, true, false, List, [], ◌∷◌, ◌++◌, length, slice_get, Option, Some, None, IfSome, Ok, Err, IfOk, refl, sym, ap, subst, ◌∙◌, eqb-true}
use Rattle.std.specs.Prelude.{◌==◌, ◌&&◌, ◌/◌, if◌then◌else◌, negsuc}
use Rattle.std.specs.List.{AllByRecursion}
use Rattle.std.specs.Ordering.{int_eq}
use Rattle.std.proofs.lemmas.Option.{none-some, same_Some}
use Rattle.hd_base.specs.declared.numbers.ConnId.{ConnId}
use Rattle.hd_base.specs.declared.numbers.Stamp.{Stamp}
use Rattle.op_headers.specs.Values.{WriteFields}
use Rattle.packet_codec.specs.declared.packets.Packet.{Packet}
use Rattle.packet_stream.specs.Streams.{packet_end}
use Rattle.replica_core.specs.declared.ack_queue.PendingPacket.{PendingPacket}
use Rattle.replica_core.specs.declared.events.Answer.TheVariants as answer
use Rattle.replica_core.specs.declared.events.Event.{Event}
use Rattle.replica_core.specs.declared.events.Event.TheVariants as event
use Rattle.replica_core.specs.declared.extents.PacketExtent.{PacketExtent}
use Rattle.replica_core.specs.declared.info.ReplicaInfo.{ReplicaInfo}
use Rattle.replica_core.specs.declared.records.ReplicaRecord.{ReplicaRecord}
use Rattle.replica_core.specs.declared.streams.Stream.{Stream}
use Rattle.replica_core.specs.Sound.{IsPending}
use Rattle.replica_core.specs.Transitions.{Outcome, transition, packet_transition, record_after, reply, answer_of}
use Rattle.replica_core.specs.Views.{written_in, rule_in}
use Rattle.replica_model.specs.declared.events.ReplicaEvent.{ReplicaEvent}
use Rattle.replica_model.specs.declared.events.ReplicaEvent.TheVariants as replica_event
use Rattle.replica_model.specs.Rows.{FullReplica, IsFull, row, row_answer, bad_under}
use Rattle.world.specs.Parts.{Message, packet}
use Rattle.world.specs.Worlds.{Past, World}
use Rattle.world.specs.Nodes.{block_of}
use Rattle.world_laws.proofs.FactTables.{and-right, some-weaker}
use Rattle.world_laws.specs.Carrying.{new_stamp}
use Rattle.world_acks.specs.Acking.{Asked}
use Rattle.world_acks.proofs.Pending.{Pend, Brought, event-pend}
use Rattle.world_syncs.specs.Histories.{TakenEvent, History, Histories, more_events, with_event, replayed}
use Rattle.world_syncs.specs.Syncing.{SyncedSince}
use Rattle.world_syncs.proofs.Synced.{synced-more, synced-new}
use Rattle.world_syncs.proofs.Rows.{Adds, packet-adds}
use Rattle.world_syncs.proofs.Booking.{replicas_with}
use Rattle.world_syncs.proofs.Seats.{Replays}

-- PACKETS THAT CAME

-- A packet was sent on a connection whose request is of this block and stamp.
pub record Came (h : Past) (b : ℕ) (stamp : Stamp) (p : Packet) : Type 0 where
  pub conn : ℕ
  pub fields : WriteFields
  pub asked : Asked h conn fields
  pub block_is : block_of fields ≡ b
  pub stamp_is : new_stamp fields ≡ stamp
  pub place : ℕ
  pub there : slice_get (h.downs conn) place ≡ Some (packet p)

-- what was sent stays so
pub record KeepsSent (h p : Past) : Type 0 where
  pub downs : (c i : ℕ) (m : Message) → slice_get (h.downs c) i ≡ Some m → slice_get (p.downs c) i ≡ Some m

pub came-on : (h p : Past) (b : ℕ) (stamp : Stamp) (d : Packet) → KeepsSent h p → Came h b stamp d → Came p b stamp d
came-on h p b stamp d k x = record {
  conn = x.conn;
  fields = x.fields;
  asked = record { first = k.downs x.conn 0 _ x.asked.first };
  block_is = x.block_is;
  stamp_is = x.stamp_is;
  place = x.place;
  there = k.downs x.conn x.place _ x.there;
}

-- what is pending came so; where that has sync, the replica took a packet with sync since when it has the bytes
pub record Awaits (h : Past) (x : History) (b : ℕ) (stamp : Stamp) (e : PendingPacket) : Type 0 where
  pub sent : Packet
  pub came : Came h b stamp sent
  pub number : sent.seqno ≡ e.seqno
  pub end : packet_end sent ≡ e.end
  pub synced : sent.sync ≡ true → SyncedSince x.first x.events e.end

-- EVENTS

-- an event that isn't a packet
abbrev pub NotPacket : Event → Type 0
NotPacket (event.Packet conn seqno offset n sums last sync bad) = ⊥
NotPacket e = Unit {0}

brought-of : (P : Stamp → PendingPacket → Type 0) (c : ReplicaRecord) (e : Event) → NotPacket e → Brought P c e
brought-of P c (event.Create conn s q) h = tt
brought-of P c (event.Temporary conn s q) h = tt
brought-of P c (event.Append conn named new n) h = tt
brought-of P c (event.AppendRecovery conn named new n) h = tt
brought-of P c (event.StreamRecovery conn named new low high) h = tt
brought-of P c (event.CloseRecovery named new n) h = tt
brought-of P c (event.Packet conn seqno offset n sums last sync bad) h = absurd h
brought-of P c (event.Ack conn seqno good) h = tt
brought-of P c (event.Ended conn) h = tt
brought-of P c (event.Init named id) h = tt
brought-of P c (event.Update id n) h = tt
brought-of P c (event.Read named offset n) h = tt
brought-of P c (event.Give named offset n) h = tt
brought-of P c event.FileFault h = tt

-- a packet with a number, which came on the connection that writes
pub record Comes (h : Past) (b : ℕ) (r : FullReplica) (conn : ConnId) (p : Packet) : Type 0 where
  pub numbered : int_eq p.seqno (negsuc 0) ≡ false
  pub came : (i : ReplicaInfo) (s : Stream) → r.known.info ≡ Some i → r.known.stream ≡ Some s → s.conn.0 ≡ conn.0 → Came h b i.stamp p

abbrev pub Brings : Past → ℕ → FullReplica → ReplicaEvent → Type 0
Brings h b r (replica_event.Packet conn p) = Comes h b r conn p
Brings h b r (replica_event.Other e) = NotPacket e

all-at : (n : ℕ) (xs : List PendingPacket) (j : ℕ) (e : PendingPacket) → AllByRecursion (IsPending n) xs → slice_get xs j ≡ Some e → IsPending n e
all-at n [] j e h q = absurd (none-some e q)
all-at n (x ∷ xs) zero e h q = subst (λ (y : PendingPacket). IsPending n y) (same_Some x e q) h.0
all-at n (x ∷ xs) (suc j) e h q = all-at n xs j e h.1 q

get-end : (xs : List PendingPacket) (x : PendingPacket) (j : ℕ) (e : PendingPacket) (Q : PendingPacket → Type 0) → ((i : ℕ) (d : PendingPacket) → slice_get xs i ≡ Some d → Q d) → Q x → slice_get (xs ++ x ∷ []) j ≡ Some e → Q e
get-end [] x zero e Q h k q = subst (λ (y : PendingPacket). Q y) (same_Some x e q) k
get-end [] x (suc j) e Q h k q = absurd (none-some e q)
get-end (z ∷ xs) x zero e Q h k q = h zero e q
get-end (z ∷ xs) x (suc j) e Q h k q = get-end xs x j e Q (λ i d r. h (suc i) d r) k q

-- what stays pending awaits its ack still
awaits-more : (h p : Past) (x : History) (b : ℕ) (stamp : Stamp) (e : PendingPacket) (r : FullReplica) (v : ReplicaEvent) → KeepsSent h p → Replays x r → e.end ≤ written_in (row r v).known → Awaits h x b stamp e → Awaits p (more_events x v) b stamp e
awaits-more h p x b stamp e r v k rep le a = record {
  sent = a.sent;
  came = came-on h p b stamp a.sent k a.came;
  number = a.number;
  end = a.end;
  synced = λ s. synced-more x.first x.events v e.end (a.synced s) (subst (λ (z : FullReplica). e.end ≤ written_in (row z v).known) (sym rep.is) le);
}

awaits-all : (h p : Past) (x : History) (b : ℕ) (r : FullReplica) (v : ReplicaEvent) (c : ReplicaRecord) → c ≡ (row r v).known → KeepsSent h p → Replays x r → IsFull (row r v) → Pend (Awaits h x b) c → Pend (Awaits p (more_events x v) b) (row r v).known
awaits-all h p x b r v c q k rep full pend =
    subst (λ (d : ReplicaRecord). Pend (Awaits p (more_events x v) b) d) q
    (some-weaker (λ i. (j : ℕ) (e : PendingPacket) → slice_get c.pending j ≡ Some e → Awaits h x b i.stamp e) (λ i. (j : ℕ) (e : PendingPacket) → slice_get c.pending j ≡ Some e → Awaits p (more_events x v) b i.stamp e) c.info
    (λ i f j e z. awaits-more h p x b i.stamp e r v k rep (within j e z) (f j e z)) pend)
  where
    within : (j : ℕ) (e : PendingPacket) → slice_get c.pending j ≡ Some e → e.end ≤ written_in (row r v).known
    within j e z = (all-at (written_in (row r v).known) (row r v).known.pending j e full.sound.pending (subst (λ (d : ReplicaRecord). slice_get d.pending j ≡ Some e) q z)).within

packet-extent : FullReplica → Packet → PacketExtent
packet-extent r p = record { seqno = p.seqno; offset = p.offset; length = length p.body; sums = length p.sums / 4; last = p.last; sync = p.sync; bad = bad_under (rule_in r.known) p }

-- what is pending after an event
pub row-awaits : (h p : Past) (b : ℕ) (x : History) (r : FullReplica) (v : ReplicaEvent) → KeepsSent h p → Brings h b r v → Replays x r → IsFull (row r v) → Pend (Awaits h x b) r.known → Pend (Awaits p (more_events x v) b) (row r v).known
unfolding transition packet-extent
row-awaits h p b x r (replica_event.Other e) k br rep full pend = awaits-all h p x b r (replica_event.Other e) _ refl k rep full (event-pend (Awaits h x b) r.known e (brought-of (Awaits h x b) r.known e br) pend)
row-awaits h p b x r (replica_event.Packet conn d) k br rep full pend = go (packet_transition r.known conn (packet-extent r d)) refl (packet-adds r.known conn (packet-extent r d) br.numbered)
  where
    v : ReplicaEvent
    v = replica_event.Packet conn d

    go : (o : Outcome) → packet_transition r.known conn (packet-extent r d) ≡ o → IfOk o (Adds r.known conn (packet-extent r d)) → Pend (Awaits p (more_events x v) b) (row r v).known
    go (Err e) q a = awaits-all h p x b r v r.known (ap (λ (o : Outcome). record_after r.known o) (sym q)) k rep full pend
    go (Ok t) q a = subst (λ (s : ReplicaRecord). Pend (Awaits p (more_events x v) b) s) known (subst (λ (o : Option ReplicaInfo). IfSome o (λ i. (j : ℕ) (e : PendingPacket) → slice_get t.replica.pending j ≡ Some e → Awaits p (more_events x v) b i.stamp e)) (sym a.is) each)
      where
        known : t.replica ≡ (row r v).known
        known = ap (λ (o : Outcome). record_after r.known o) (sym q)

        within : (j : ℕ) (e : PendingPacket) → slice_get t.replica.pending j ≡ Some e → e.end ≤ written_in (row r v).known
        within j e z = (all-at (written_in (row r v).known) (row r v).known.pending j e full.sound.pending (subst (λ (s : ReplicaRecord). slice_get s.pending j ≡ Some e) known z)).within

        old : (j : ℕ) (e : PendingPacket) → slice_get r.known.pending j ≡ Some e → Awaits h x b a.info.stamp e
        old = subst (λ (o : Option ReplicaInfo). IfSome o (λ i. (j : ℕ) (e : PendingPacket) → slice_get r.known.pending j ≡ Some e → Awaits h x b i.stamp e)) a.was pend

        new : a.entry.end ≤ written_in (row r v).known → Awaits p (more_events x v) b a.after.stamp a.entry
        new le = subst (λ (s : Stamp). Awaits p (more_events x v) b s a.entry) (sym a.stamp) (record {
          sent = d;
          came = came-on h p b a.info.stamp d k (br.came a.info a.stream a.was a.writes a.by);
          number = sym a.number;
          end = sym a.end;
          synced = λ s. synced-new x.first x.events conn d a.entry.end s answered (subst (λ (z : FullReplica). a.entry.end ≤ written_in (row z v).known) (sym rep.is) le);
        })
          where
            answered : row_answer (replayed x.first x.events) v ≡ answer.Done
            answered = ap (λ (z : FullReplica). row_answer z v) rep.is ∙ ap (λ (o : Outcome). answer_of (reply o)) q ∙ a.done

        each : (j : ℕ) (e : PendingPacket) → slice_get t.replica.pending j ≡ Some e → Awaits p (more_events x v) b a.after.stamp e
        each j e z =
            get-end r.known.pending a.entry j e (λ (y : PendingPacket). y.end ≤ written_in (row r v).known → Awaits p (more_events x v) b a.after.stamp y)
            (λ i f o le. subst (λ (s : Stamp). Awaits p (more_events x v) b s f) (sym a.stamp) (awaits-more h p x b a.info.stamp f r v k rep le (old i f o))) new
            (subst (λ (ys : List PendingPacket). slice_get ys j ≡ Some e) a.pending z) (within j e z)

-- WORLDS

-- so it is of each replica
pub record AllAwait (h : Histories) (w : World) : Type 0 where
  pub each : (n b : ℕ) → Pend (Awaits w.past (h n b) b) (w.replicas n b).known

-- what stays pending where nothing is taken
same-awaits : (h p : Past) (b : ℕ) (x : History) (r : FullReplica) → KeepsSent h p → Pend (Awaits h x b) r.known → Pend (Awaits p x b) r.known
same-awaits h p b x r k pend =
    some-weaker (λ i. (j : ℕ) (e : PendingPacket) → slice_get r.known.pending j ≡ Some e → Awaits h x b i.stamp e) (λ i. (j : ℕ) (e : PendingPacket) → slice_get r.known.pending j ≡ Some e → Awaits p x b i.stamp e) r.known.info
    (λ i f j e z. let a = f j e z in record { sent = a.sent; came = came-on h p b i.stamp a.sent k a.came; number = a.number; end = a.end; synced = a.synced }) pend

-- what an event that is taken brings
abbrev pub BringsIn : World → TakenEvent → Type 0
BringsIn w x = Brings w.past x.block (w.replicas x.node x.block) x.event

pub table-awaits : (h : Histories) (w : World) (p : Past) (o : Option TakenEvent) → KeepsSent w.past p → IfSome o (BringsIn w) → ((n b : ℕ) → Replays (h n b) (w.replicas n b)) → ((n b : ℕ) → IsFull (replicas_with w.replicas o n b)) → AllAwait h w
    → (n b : ℕ) → Pend (Awaits p (with_event h o n b) b) (replicas_with w.replicas o n b).known
table-awaits h w p None k br rep full a n b = same-awaits w.past p b (h n b) (w.replicas n b) k (a.each n b)
table-awaits h w p (Some x) k br rep full a n b = at (n == x.node && b == x.block) refl (full n b)
  where
    at : (t : Bool) → (n == x.node && b == x.block) ≡ t → IsFull (if t then row (w.replicas x.node x.block) x.event else w.replicas n b)
        → Pend (Awaits p (if t then more_events (h x.node x.block) x.event else h n b) b) (if t then row (w.replicas x.node x.block) x.event else w.replicas n b).known
    at false e f = same-awaits w.past p b (h n b) (w.replicas n b) k (a.each n b)
    at true e f =
        subst (λ (d : ℕ). Pend (Awaits p (more_events (h x.node x.block) x.event) d) (row (w.replicas x.node x.block) x.event).known) (sym (eqb-true b x.block (and-right (n == x.node) (b == x.block) e)))
        (row-awaits w.past p x.block (h x.node x.block) (w.replicas x.node x.block) x.event k br (rep x.node x.block) f (a.each x.node x.block))
