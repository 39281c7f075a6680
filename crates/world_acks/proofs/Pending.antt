-- What is pending at a replica, whatever is booked.
use Rattle.std.proofs.Common.{◌≡◌, ℕ, zero, suc, ◌+◌, Bool, true, false, List, [], ◌∷◌, ◌++◌, drop, slice_get, Option, Some, None, IfSome, Result, Ok, sym, ◌∙◌, ap, subst, arith}
use Rattle.std.specs.Prelude.{nat_abs, not, is_none, negsuc}
use Rattle.std.specs.Ordering.{int_eq}
use Rattle.std.proofs.lemmas.Bool.{false≢true}
use Rattle.std.proofs.lemmas.Bool.Decides.{nat_tests}
use Rattle.std.proofs.lemmas.Option.{none-some, same_Some}
use Rattle.hd_base.specs.Results.{◌>>=◌}
use Rattle.hd_base.specs.SumRules.{Rule}
use Rattle.hd_base.specs.declared.numbers.ConnId.{ConnId}
use Rattle.hd_base.specs.declared.numbers.Stamp.{Stamp}
use Rattle.hd_base.specs.declared.states.ReplicaState.{ReplicaState}
use Rattle.hd_base.specs.declared.states.ReplicaState.TheVariants as state
use Rattle.replica_core.specs.declared.ack_queue.PendingPacket.{PendingPacket}
use Rattle.replica_core.specs.declared.events.Event.{Event}
use Rattle.replica_core.specs.declared.events.Event.TheVariants as event
use Rattle.replica_core.specs.declared.extents.PacketExtent.{PacketExtent}
use Rattle.replica_core.specs.declared.info.ReplicaInfo.{ReplicaInfo}
use Rattle.replica_core.specs.declared.records.ReplicaRecord.{ReplicaRecord}
use Rattle.replica_core.specs.declared.refusals.Refusal.{Refusal}
use Rattle.replica_core.specs.declared.refusals.Refusal.TheVariants as refusal
use Rattle.replica_core.specs.declared.streams.Stream.{Stream}
use Rattle.replica_core.specs.Extents.{stream_after, pending_of, start_of, place_check, packet_at}
use Rattle.replica_core.specs.Info.{reopen, recover_setup, recover_stream, begin_recovery, end_recovery, is_writable, state_of, readable, given, visible_of}
use Rattle.replica_core.specs.Transitions.{Outcome, done, record_after, state_after, transition, present, with_writer, set_writer, new_transition, packet_transition, extent_transition, acknowledge, oldest_of, stream_by, is_written_by}
use Rattle.replica_core.proofs.InfoLemmas.{present_is, stream_by_is}
use Rattle.replica_core.proofs.StepLemmas.{after_check, after_step, choice, step_ok}

-- what is said of each pending packet, by the stamp of the replica
abbrev pub Pend : (Stamp → PendingPacket → Type 0) → ReplicaRecord → Type 0
Pend P c = IfSome c.info (λ i. (j : ℕ) (e : PendingPacket) → slice_get c.pending j ≡ Some e → P i.stamp e)

-- a packet that isn't a heartbeat, taken from the connection that writes
abbrev pub Enters : (Stamp → PendingPacket → Type 0) → ReplicaRecord → ConnId → PacketExtent → Type 0
Enters P c conn p = (i : ReplicaInfo) (s : Stream) (e : PendingPacket) → c.info ≡ Some i → c.stream ≡ Some s → s.conn.0 ≡ conn.0 → e.seqno ≡ p.seqno → e.end ≡ nat_abs p.offset + p.length → e.last ≡ p.last → P i.stamp e

-- what an event brings
abbrev pub Brought : (Stamp → PendingPacket → Type 0) → ReplicaRecord → Event → Type 0
Brought P c (event.Packet conn seqno offset n sums last sync bad) =
    (int_eq seqno (negsuc 0) ≡ false) × Enters P c conn (record { seqno = seqno; offset = offset; length = n; sums = sums; last = last; sync = sync; bad = bad })
Brought P c _ = Unit {0}

none-pend : (P : Stamp → PendingPacket → Type 0) (t : Stamp) (j : ℕ) (e : PendingPacket) → slice_get ([]) j ≡ Some e → P t e
none-pend P t j e q = absurd (none-some e q)

written-pend : (P : Stamp → PendingPacket → Type 0) (c : ReplicaRecord) (writer : Option ConnId) (next : Result ReplicaInfo Refusal) → Pend P c → Pend P (record_after c (with_writer c writer next))
written-pend P c writer next h = after_step (Pend P) c next (λ j. done (set_writer c j writer)) h (λ j q. none-pend P j.stamp)

there-pend : (P : Stamp → PendingPacket → Type 0) (c : ReplicaRecord) (next : ReplicaInfo → Outcome) → Pend P c → ((i : ReplicaInfo) → c.info ≡ Some i → Pend P (record_after c (next i))) → Pend P (record_after c (present c >>= next))
there-pend P c next h onward = after_step (Pend P) c (present c) next h (λ i e. onward i (present_is c i e).1)

new-pend : (P : Stamp → PendingPacket → Type 0) (c : ReplicaRecord) (s : ReplicaState) (conn : ConnId) (t : Stamp) (r : Rule) → Pend P c → Pend P (record_after c (new_transition c s conn t r))
new-pend P c s conn t r h = after_check (Pend P) c (not c.is_broken) refusal.Broken _ h (λ _. after_check (Pend P) c (is_none c.info) refusal.Exists _ h (λ _. none-pend P t))

get-drop : (xs : List PendingPacket) (j : ℕ) (e : PendingPacket) → slice_get (drop 1 xs) j ≡ Some e → slice_get xs (suc j) ≡ Some e
get-drop [] j e q = absurd (none-some e q)
get-drop (x ∷ xs) j e q = q

drop-pend : (P : Stamp → PendingPacket → Type 0) (c : ReplicaRecord) → Pend P c → IfSome c.info (λ i. (j : ℕ) (e : PendingPacket) → slice_get (drop 1 c.pending) j ≡ Some e → P i.stamp e)
drop-pend P c h = go c.info h
  where
    go : (o : Option ReplicaInfo) → IfSome o (λ i. (j : ℕ) (e : PendingPacket) → slice_get c.pending j ≡ Some e → P i.stamp e) → IfSome o (λ i. (j : ℕ) (e : PendingPacket) → slice_get (drop 1 c.pending) j ≡ Some e → P i.stamp e)
    go None x = tt
    go (Some i) x = λ j e q. x (suc j) e (get-drop c.pending j e q)

at-pend : (P : Stamp → PendingPacket → Type 0) (o : Option ReplicaInfo) (i : ReplicaInfo) (xs : List PendingPacket) → o ≡ Some i → IfSome o (λ k. (j : ℕ) (e : PendingPacket) → slice_get xs j ≡ Some e → P k.stamp e)
    → (j : ℕ) (e : PendingPacket) → slice_get xs j ≡ Some e → P i.stamp e
at-pend P o i xs e h = subst (λ (q : Option ReplicaInfo). IfSome q (λ k. (j : ℕ) (e : PendingPacket) → slice_get xs j ≡ Some e → P k.stamp e)) e h

acked-pend : (P : Stamp → PendingPacket → Type 0) (c : ReplicaRecord) (i : ReplicaInfo) (p : PendingPacket) (good : Bool) → c.info ≡ Some i → Pend P c → Pend P (acknowledge c i p good)
acked-pend P c i p false e h = drop-pend P c h
acked-pend P c i p true e h = choice (Pend P) p.last _ _ (λ _. none-pend P i.stamp) (λ _. at-pend P c.info i (drop 1 c.pending) e (drop-pend P c h))

starts : (p : PacketExtent) (offset : ℕ) → start_of p ≡ Ok offset → offset ≡ nat_abs p.offset
unfolding start_of
starts p offset e = grind (arith, nat_tests)

packs : (r : Rule) (p : PacketExtent) (offset : ℕ) (e : PendingPacket) → packet_at r p offset ≡ Ok e → (e.seqno ≡ p.seqno) × (e.end ≡ offset + p.length) × (e.last ≡ p.last)
unfolding packet_at
packs r p offset e q = grind (arith, nat_tests)

-- what is pending of a packet
pending-is : (r : Rule) (p : PacketExtent) (w : ℕ) (e : PendingPacket) → pending_of r p w ≡ Ok e → (e.seqno ≡ p.seqno) × (e.end ≡ nat_abs p.offset + p.length) × (e.last ≡ p.last)
pending-is r p w e q = outer (step_ok (start_of p) (λ offset. place_check p w offset >>= (λ _. packet_at r p offset)) e q)
  where
    outer : (offset : ℕ) × (start_of p ≡ Ok offset) × ((place_check p w offset >>= (λ _. packet_at r p offset)) ≡ Ok e) → (e.seqno ≡ p.seqno) × (e.end ≡ nat_abs p.offset + p.length) × (e.last ≡ p.last)
    outer x = inner x.0 x.1 (step_ok (place_check p w x.0) (λ _. packet_at r p x.0) e x.2)
      where
        inner : (offset : ℕ) → start_of p ≡ Ok offset → (y : Unit {0}) × (place_check p w offset ≡ Ok y) × (packet_at r p offset ≡ Ok e) → (e.seqno ≡ p.seqno) × (e.end ≡ nat_abs p.offset + p.length) × (e.last ≡ p.last)
        inner offset a b = let z = packs r p offset e b.2 in (z.0, z.1 ∙ ap (λ (n : ℕ). n + p.length) (starts p offset a), z.2)

get-end : (xs : List PendingPacket) (x : PendingPacket) (j : ℕ) (e : PendingPacket) (Q : PendingPacket → Type 0) → ((i : ℕ) (d : PendingPacket) → slice_get xs i ≡ Some d → Q d) → Q x → slice_get (xs ++ x ∷ []) j ≡ Some e → Q e
get-end [] x zero e Q h k q = subst (λ (y : PendingPacket). Q y) (same_Some x e q) k
get-end [] x (suc j) e Q h k q = absurd (none-some e q)
get-end (z ∷ xs) x zero e Q h k q = h zero e q
get-end (z ∷ xs) x (suc j) e Q h k q = get-end xs x j e Q (λ i d r. h (suc i) d r) k q

packet-pend : (P : Stamp → PendingPacket → Type 0) (c : ReplicaRecord) (conn : ConnId) (q : PacketExtent) → int_eq q.seqno (negsuc 0) ≡ false → Enters P c conn q → Pend P c → Pend P (record_after c (packet_transition c conn q))
unfolding extent_transition
packet-pend P c conn q n x h =
    there-pend P c _ h (λ i is. after_check (Pend P) c (is_writable (state_of i)) refusal.NotWriter _ h (λ _.
    after_step (Pend P) c (stream_by c.stream conn) _ h (λ s by.
    choice (λ (o : Outcome). Pend P (record_after c o)) (int_eq q.seqno (negsuc 0)) _ _
    (λ e. absurd (false≢true (sym n ∙ e)))
    (λ _. after_step (Pend P) c (stream_after s q) _ h (λ t _. after_step (Pend P) c (pending_of i.sums q i.written) _ h (λ e pend.
    let z = pending-is i.sums q i.written e pend in
    let b = stream_by_is c.stream conn s by in
    λ j d r. get-end c.pending e j d (λ (y : PendingPacket). P i.stamp y) (at-pend P c.info i c.pending is h) (x i s e is b.0 b.1 z.0 z.1 z.2) r))))))

pub event-pend : (P : Stamp → PendingPacket → Type 0) (c : ReplicaRecord) (e : Event) → Brought P c e → Pend P c → Pend P (state_after c e)
unfolding transition
event-pend P c (event.Create conn t r) k h = new-pend P c state.Rbw conn t r h
event-pend P c (event.Temporary conn t r) k h = new-pend P c state.Temporary conn t r h
event-pend P c (event.Append conn named new n) k h = there-pend P c _ h (λ i _. written-pend P c (Some conn) (reopen i named new n) h)
event-pend P c (event.AppendRecovery conn named new n) k h = there-pend P c _ h (λ i _. written-pend P c (Some conn) (recover_setup i named new n state.Rbw) h)
event-pend P c (event.StreamRecovery conn named new low high) k h = there-pend P c _ h (λ i _. written-pend P c (Some conn) (recover_stream i named new low high) h)
event-pend P c (event.CloseRecovery named new n) k h = there-pend P c _ h (λ i _. written-pend P c None (recover_setup i named new n state.Finalized) h)
event-pend P c (event.Packet conn seqno offset n sums last sync bad) k h = packet-pend P c conn (record { seqno = seqno; offset = offset; length = n; sums = sums; last = last; sync = sync; bad = bad }) k.0 k.1 h
event-pend P c (event.Ack conn seqno good) k h =
    there-pend P c _ h (λ i is. after_step (Pend P) c (stream_by c.stream conn) _ h (λ s _.
    after_step (Pend P) c (oldest_of (slice_get c.pending 0) seqno) _ h (λ p _. acked-pend P c i p good is h)))
event-pend P c (event.Ended conn) k h = choice (Pend P) (is_written_by c.stream conn) _ _ (λ _. go c.info) (λ _. h)
  where
    go : (o : Option ReplicaInfo) → IfSome o (λ i. (j : ℕ) (e : PendingPacket) → slice_get ([]) j ≡ Some e → P i.stamp e)
    go None = tt
    go (Some i) = none-pend P i.stamp
event-pend P c (event.Init named id) k h = there-pend P c _ h (λ i is. after_step (Pend P) c (begin_recovery i named id) _ h (λ j e. none-pend P j.stamp))
event-pend P c (event.Update id n) k h = there-pend P c _ h (λ i _. written-pend P c None (end_recovery i i.recovery id n) h)
event-pend P c (event.Read named offset n) k h = there-pend P c _ h (λ i _. after_step (Pend P) c (readable i (visible_of i) named offset n) _ h (λ _ _. h))
event-pend P c (event.Give named offset n) k h = there-pend P c _ h (λ i _. after_step (Pend P) c (given i named offset n) _ h (λ _ _. h))
event-pend P c event.FileFault k h = go c.info
  where
    go : (o : Option ReplicaInfo) → IfSome o (λ i. (j : ℕ) (e : PendingPacket) → slice_get ([]) j ≡ Some e → P i.stamp e)
    go None = tt
    go (Some i) = none-pend P i.stamp
