-- An event that isn't a failed call on files breaks no replica, and what is absent after it was so before.
use Rattle.std.proofs.Common.{◌≡◌, ℕ, negsuc, not, is_none, [], ◌++◌, length, take, drop, slice_get, Option, Some, None, Result, Ok, Err, Bool, true, false, refl, sym, ◌∙◌, ap}
use Rattle.std.specs.Ordering.{int_eq}
use Rattle.std.proofs.lemmas.Option.{none-some}
use Rattle.hd_base.specs.declared.states.ReplicaState.{ReplicaState}
use Rattle.hd_base.specs.declared.states.ReplicaState.TheVariants as state
use Rattle.hd_base.specs.declared.numbers.ConnId.{ConnId}
use Rattle.hd_base.specs.declared.numbers.Stamp.{Stamp}
use Rattle.hd_base.specs.SumRules.{Rule}
use Rattle.hd_base.specs.Results.{◌>>=◌}
use Rattle.replica_core.specs.declared.records.ReplicaRecord.{ReplicaRecord}
use Rattle.replica_core.specs.declared.ack_queue.PendingPacket.{PendingPacket}
use Rattle.replica_core.specs.declared.events.Event.{Event}
use Rattle.replica_core.specs.declared.events.Event.TheVariants as event
use Rattle.replica_core.specs.declared.events.Answer.TheVariants as answer
use Rattle.replica_core.specs.declared.info.ReplicaInfo.{ReplicaInfo}
use Rattle.replica_core.specs.declared.extents.PacketExtent.{PacketExtent}
use Rattle.replica_core.specs.declared.refusals.Refusal.{Refusal}
use Rattle.replica_core.specs.declared.refusals.Refusal.TheVariants as refusal
use Rattle.replica_core.specs.Refusals.{check}
use Rattle.replica_core.specs.Info.{state_of, visible_of, is_writable, settled_at, extend_written, advance_acked, close_stream, reopen, recover_setup, recover_stream, begin_recovery, end_recovery, readable, given}
use Rattle.replica_core.specs.Extents.{stream_after, heartbeat_of, pending_of}
use Rattle.replica_core.specs.Transitions.{new_transition, set_writer, done, enqueue, extend, stream_by, oldest_of, Outcome, record_after, present, with_writer, packet_transition, extent_transition, acknowledge, is_written_by, end_connection, transition, state_after, absent}
use Rattle.replica_core.specs.Views.{written_in}
use Rattle.replica_core.proofs.StepLemmas.{after_check, after_step, choice}
use Rattle.replica_core.proofs.InfoLemmas.{present_is}
use Rattle.replica_model.specs.declared.events.ReplicaEvent.{ReplicaEvent}
use Rattle.replica_model.specs.declared.events.ReplicaEvent.TheVariants as replica_event
use Rattle.replica_model.specs.Rows.{FullReplica, row, event_at, brought, nothing}
use Rattle.world_laws.specs.World.Parts.{Break}
use Rattle.world_breaks.specs.Breaks.{IsUnbroken}
use Rattle.world_breaks.proofs.Calls.{Proper, ProperCall}

-- a record that isn't broken, and that is as in the beginning where it is absent
record IsKept (b : ℕ) (c : ReplicaRecord) : Type 0 where
  whole : c.is_broken ≡ false
  gone : c.info ≡ None → c ≡ absent (record { 0 = b })

-- STEPS

-- what is there isn't absent
held : (b : ℕ) (c : ReplicaRecord) (h : ReplicaInfo) → c.is_broken ≡ false → c.info ≡ Some h → IsKept b c
held b c h w i = record { whole = w; gone = λ e. absurd (none-some h (sym e ∙ i)) }

after-there : (b : ℕ) (c : ReplicaRecord) (next : ReplicaInfo → Outcome) → IsKept b c → ((h : ReplicaInfo) → c.info ≡ Some h → IsKept b (record_after c (next h))) → IsKept b (record_after c (present c >>= next))
after-there b c next s onward = after_step (IsKept b) c (present c) next s (λ h e. onward h (present_is c h e).1)

after-value : {A : Type 0} (b : ℕ) (c : ReplicaRecord) (first : Result A Refusal) (next : A → Outcome) → IsKept b c → ((x : A) → IsKept b (record_after c (next x))) → IsKept b (record_after c (first >>= next))
after-value b c first next s onward = after_step (IsKept b) c first next s (λ x _. onward x)

after-writer : (b : ℕ) (c : ReplicaRecord) (writer : Option ConnId) (next : Result ReplicaInfo Refusal) → IsKept b c → IsKept b (record_after c (with_writer c writer next))
after-writer b c writer (Ok k) s = held b (set_writer c k writer) k s.whole refl
after-writer b c writer (Err e) s = s

-- TRANSITIONS

setup-kept : (b : ℕ) (c : ReplicaRecord) (writer : Option ConnId) (next : ReplicaInfo → Result ReplicaInfo Refusal) → IsKept b c → IsKept b (record_after c (present c >>= (λ h. with_writer c writer (next h))))
setup-kept b c writer next s = after-there b c (λ h. with_writer c writer (next h)) s (λ h i. after-writer b c writer (next h) s)

acknowledged : (b : ℕ) (c : ReplicaRecord) (h : ReplicaInfo) (e : PendingPacket) (good : Bool) → IsKept b c → c.info ≡ Some h → IsKept b (acknowledge c h e good)
acknowledged b c h e false s i = held b (acknowledge c h e false) h s.whole i
acknowledged b c h e true s i =
    let last : ReplicaInfo = close_stream (advance_acked h e.end) in
    let more : ReplicaInfo = advance_acked h e.end in
    choice (IsKept b) e.last (set_writer c last None) (record c { info = Some more; pending = drop 1 c.pending })
    (λ _. held b (set_writer c last None) last s.whole refl)
    (λ _. held b (record c { info = Some more; pending = drop 1 c.pending }) more s.whole refl)

packet-kept : (b : ℕ) (c : ReplicaRecord) (conn : ConnId) (p : PacketExtent) → IsKept b c → IsKept b (record_after c (packet_transition c conn p))
unfolding extent_transition
packet-kept b c conn p s =
    after-there b c (λ h. check (is_writable (state_of h)) refusal.NotWriter (stream_by c.stream conn >>= (λ t. extent_transition c h t p))) s (λ h i.
    after_check (IsKept b) c (is_writable (state_of h)) refusal.NotWriter (stream_by c.stream conn >>= (λ t. extent_transition c h t p)) s (λ _.
    after-value b c (stream_by c.stream conn) (λ t. extent_transition c h t p) s (λ t.
    choice (λ (o : Outcome). IsKept b (record_after c o)) (int_eq p.seqno (negsuc 0)) _ _
    (λ _. after-value b c (heartbeat_of p) (λ e. done (enqueue c e)) s (λ e. held b (enqueue c e) h s.whole i))
    (λ _.
    after-value b c (stream_after t p) (λ u. pending_of h.sums p h.written >>= (λ e. done (extend c h u e))) s (λ u.
    after-value b c (pending_of h.sums p h.written) (λ e. done (extend c h u e)) s (λ e. held b (extend c h u e) (extend_written h e.end) s.whole refl))))))

new-kept : (b : ℕ) (c : ReplicaRecord) (original : ReplicaState) (conn : ConnId) (stamp : Stamp) (r : Rule) → IsKept b c → IsKept b (record_after c (new_transition c original conn stamp r))
new-kept b c original conn stamp r s =
    let made = done (set_writer c (settled_at original stamp r 0) (Some conn)) in
    after_check (IsKept b) c (not c.is_broken) refusal.Broken (check (is_none c.info) refusal.Exists made) s (λ _.
    after_check (IsKept b) c (is_none c.info) refusal.Exists made s (λ _.
    held b (set_writer c (settled_at original stamp r 0) (Some conn)) (settled_at original stamp r 0) s.whole refl))

-- a connection that ends leaves nothing at what is absent
ended-kept : (b : ℕ) (c : ReplicaRecord) (conn : ConnId) → IsKept b c → IsKept b (end_connection c conn)
ended-kept b c conn s =
    let quiet : ReplicaRecord → ReplicaRecord = λ x. record x { stream = None; pending = [] } in
    choice (IsKept b) (is_written_by c.stream conn) (quiet c) c (λ _. record { whole = s.whole; gone = λ e. ap quiet (s.gone e) }) (λ _. s)

event-kept : (b : ℕ) (c : ReplicaRecord) (e : Event) → Proper e → IsKept b c → IsKept b (state_after c e)
unfolding transition
event-kept b c (event.Create conn stamp sums) p s = new-kept b c state.Rbw conn stamp sums s
event-kept b c (event.Temporary conn stamp sums) p s = new-kept b c state.Temporary conn stamp sums s
event-kept b c (event.Append conn named new n) p s = setup-kept b c (Some conn) (λ h. reopen h named new n) s
event-kept b c (event.AppendRecovery conn named new n) p s = setup-kept b c (Some conn) (λ h. recover_setup h named new n state.Rbw) s
event-kept b c (event.StreamRecovery conn named new low high) p s = setup-kept b c (Some conn) (λ h. recover_stream h named new low high) s
event-kept b c (event.CloseRecovery named new n) p s = setup-kept b c None (λ h. recover_setup h named new n state.Finalized) s
event-kept b c (event.Packet conn seqno offset bytes sums last sync bad) p s = packet-kept b c conn _ s
event-kept b c (event.Ack conn seqno good) p s =
    let acked = λ (h : ReplicaInfo) (e : PendingPacket). done (acknowledge c h e good) in
    after-there b c (λ h. stream_by c.stream conn >>= (λ t. oldest_of (slice_get c.pending 0) seqno >>= acked h)) s (λ h i.
    after-value b c (stream_by c.stream conn) (λ t. oldest_of (slice_get c.pending 0) seqno >>= acked h) s (λ t.
    after-value b c (oldest_of (slice_get c.pending 0) seqno) (acked h) s (λ e. acknowledged b c h e good s i)))
event-kept b c (event.Ended conn) p s = ended-kept b c conn s
event-kept b c (event.Init named recovery) p s =
    let told = λ (h k : ReplicaInfo). Ok (record { replica = set_writer c k None; answer = answer.Info h.original h.stamp h.written }) in
    after-there b c (λ h. begin_recovery h named recovery >>= told h) s (λ h i.
    after-value b c (begin_recovery h named recovery) (told h) s (λ k. held b (set_writer c k None) k s.whole refl))
event-kept b c (event.Update recovery n) p s = setup-kept b c None (λ h. end_recovery h h.recovery recovery n) s
event-kept b c (event.Read named offset n) p s =
    let seen = λ (v : ℕ). Ok (record { replica = c; answer = answer.Visible v }) in
    after-there b c (λ h. readable h (visible_of h) named offset n >>= seen) s (λ h i. after-value b c (readable h (visible_of h) named offset n) seen s (λ v. s))
event-kept b c (event.Give named offset n) p s =
    let seen = λ (v : ℕ). Ok (record { replica = c; answer = answer.Visible v }) in
    after-there b c (λ h. given h named offset n >>= seen) s (λ h i. after-value b c (given h named offset n) seen s (λ v. s))
event-kept b c event.FileFault p s = absurd p

-- ROWS

at-proper : (r : FullReplica) (e : ReplicaEvent) → ProperCall e → Proper (event_at r e)
at-proper r (replica_event.Packet conn x) p = tt
at-proper r (replica_event.Other e) p = p

-- an absent record has no bytes
row-gone : (b : ℕ) (r : FullReplica) (e : ReplicaEvent) → state_after r.known (event_at r e) ≡ absent (record { 0 = b }) → row r e ≡ nothing (record { 0 = b })
row-gone b r e q = ap (λ (c : ReplicaRecord). record { known = c; bytes = take (written_in c) (r.bytes ++ brought (length r.bytes) e) }) q

pub row-unbroken : (b : ℕ) (r : FullReplica) (broke : Option Break) (e : ReplicaEvent) → ProperCall e → IsUnbroken b r broke → IsUnbroken b (row r e) broke
row-unbroken b r broke e p s =
    let k = event-kept b r.known (event_at r e) (at-proper r e p) (record { whole = s.whole; gone = λ i. ap (λ (x : FullReplica). x.known) (s.absent i) }) in
    record { none = s.none; whole = k.whole; absent = λ i. row-gone b r e (k.gone i) }
