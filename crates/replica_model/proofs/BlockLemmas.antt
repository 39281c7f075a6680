-- No event changes the block, and a replica that breaks in an event is the one before it, broken.
use Rattle.std.proofs.Common.{◌≡◌, ℕ, negsuc, not, is_none, slice_get, Option, Some, None, Result, Ok, Err, Bool, true, false, [], refl, ap}
use Rattle.std.specs.Ordering.{int_eq}
use Rattle.hd_base.specs.declared.states.ReplicaState.{ReplicaState}
use Rattle.hd_base.specs.declared.states.ReplicaState.TheVariants as state
use Rattle.hd_base.specs.declared.numbers.ConnId.{ConnId}
use Rattle.hd_base.specs.declared.numbers.Stamp.{Stamp}
use Rattle.hd_base.specs.SumRules.{Rule}
use Rattle.hd_base.specs.Results.{◌>>=◌}
use Rattle.replica_core.specs.declared.records.ReplicaRecord.{ReplicaRecord}
use Rattle.replica_core.specs.declared.ack_queue.PendingPacket.{PendingPacket}
use Rattle.replica_core.specs.declared.events.Event.{Event}
use Rattle.replica_core.specs.declared.events.Event.TheVariants as event
use Rattle.replica_core.specs.declared.info.ReplicaInfo.{ReplicaInfo}
use Rattle.replica_core.specs.declared.extents.PacketExtent.{PacketExtent}
use Rattle.replica_core.specs.declared.refusals.Refusal.{Refusal}
use Rattle.replica_core.specs.declared.refusals.Refusal.TheVariants as refusal
use Rattle.replica_core.specs.declared.events.Answer.TheVariants as answer
use Rattle.replica_core.specs.Refusals.{check}
use Rattle.replica_core.specs.Info.{state_of, is_writable, settled_at, reopen, recover_setup, recover_stream, begin_recovery, end_recovery, readable, given, visible_of}
use Rattle.replica_core.specs.Extents.{stream_after, heartbeat_of, pending_of}
use Rattle.replica_core.specs.Transitions.{new_transition, set_writer, done, enqueue, extend, stream_by, oldest_of, Outcome, record_after, present, with_writer, packet_transition, extent_transition, acknowledge, is_written_by, mark_broken, transition, state_after}
use Rattle.replica_core.proofs.StepLemmas.{after_check, after_step, choice}

abbrev SameBlock : ReplicaRecord → ReplicaRecord → Type 0
SameBlock c k = k.block ≡ c.block

-- a step on what is there
after_there : (c : ReplicaRecord) (next : ReplicaInfo → Outcome) → ((h : ReplicaInfo) → SameBlock c (record_after c (next h))) → SameBlock c (record_after c (present c >>= next))
after_there c next onward = after_step (SameBlock c) c (present c) next refl (λ h _. onward h)

after_writer : (c : ReplicaRecord) (writer : Option ConnId) (next : Result ReplicaInfo Refusal) → SameBlock c (record_after c (with_writer c writer next))
after_writer c writer (Ok k) = refl
after_writer c writer (Err e) = refl

after_value : {A : Type 0} (c : ReplicaRecord) (first : Result A Refusal) (next : A → Outcome) → ((x : A) → SameBlock c (record_after c (next x))) → SameBlock c (record_after c (first >>= next))
after_value c first next onward = after_step (SameBlock c) c first next refl (λ x _. onward x)

acknowledged : (c : ReplicaRecord) (h : ReplicaInfo) (e : PendingPacket) (good : Bool) → SameBlock c (acknowledge c h e good)
acknowledged c h e false = refl
acknowledged c h e true = choice (SameBlock c) e.last _ _ (λ _. refl) (λ _. refl)

packet_same : (c : ReplicaRecord) (conn : ConnId) (p : PacketExtent) → SameBlock c (record_after c (packet_transition c conn p))
unfolding extent_transition
packet_same c conn p =
    after_there c (λ h. check (is_writable (state_of h)) refusal.NotWriter (stream_by c.stream conn >>= (λ s. extent_transition c h s p))) (λ h.
    after_check (SameBlock c) c (is_writable (state_of h)) refusal.NotWriter (stream_by c.stream conn >>= (λ s. extent_transition c h s p)) refl (λ _.
    after_value c (stream_by c.stream conn) (λ s. extent_transition c h s p) (λ s.
    choice (λ (o : Outcome). SameBlock c (record_after c o)) (int_eq p.seqno (negsuc 0)) _ _
    (λ _. after_value c (heartbeat_of p) (λ e. done (enqueue c e)) (λ e. refl))
    (λ _.
    after_value c (stream_after s p) (λ t. pending_of h.sums p h.written >>= (λ e. done (extend c h t e))) (λ t.
    after_value c (pending_of h.sums p h.written) (λ e. done (extend c h t e)) (λ e. refl))))))

new_same : (c : ReplicaRecord) (original : ReplicaState) (conn : ConnId) (stamp : Stamp) (r : Rule) → SameBlock c (record_after c (new_transition c original conn stamp r))
new_same c original conn stamp r =
    let made = done (set_writer c (settled_at original stamp r 0) (Some conn)) in
    after_check (SameBlock c) c (not c.is_broken) refusal.Broken (check (is_none c.info) refusal.Exists made) refl (λ _.
    after_check (SameBlock c) c (is_none c.info) refusal.Exists made refl (λ _. refl))

pub block_kept : (c : ReplicaRecord) (e : Event) → SameBlock c (state_after c e)
unfolding transition
block_kept c (event.Create conn stamp sums) = new_same c state.Rbw conn stamp sums
block_kept c (event.Temporary conn stamp sums) = new_same c state.Temporary conn stamp sums
block_kept c (event.Append conn named new n) = after_there c (λ h. with_writer c (Some conn) (reopen h named new n)) (λ h. after_writer c (Some conn) (reopen h named new n))
block_kept c (event.AppendRecovery conn named new n) = after_there c (λ h. with_writer c (Some conn) (recover_setup h named new n state.Rbw)) (λ h. after_writer c (Some conn) (recover_setup h named new n state.Rbw))
block_kept c (event.StreamRecovery conn named new low high) = after_there c (λ h. with_writer c (Some conn) (recover_stream h named new low high)) (λ h. after_writer c (Some conn) (recover_stream h named new low high))
block_kept c (event.CloseRecovery named new n) = after_there c (λ h. with_writer c None (recover_setup h named new n state.Finalized)) (λ h. after_writer c None (recover_setup h named new n state.Finalized))
block_kept c (event.Packet conn seqno offset bytes sums last sync bad) = packet_same c conn _
block_kept c (event.Ack conn seqno good) =
    let acked = λ (h : ReplicaInfo) (e : PendingPacket). done (acknowledge c h e good) in
    after_there c (λ h. stream_by c.stream conn >>= (λ s. oldest_of (slice_get c.pending 0) seqno >>= acked h)) (λ h.
    after_value c (stream_by c.stream conn) (λ s. oldest_of (slice_get c.pending 0) seqno >>= acked h) (λ s.
    after_value c (oldest_of (slice_get c.pending 0) seqno) (acked h) (λ e. acknowledged c h e good)))
block_kept c (event.Ended conn) = choice (SameBlock c) (is_written_by c.stream conn) _ _ (λ _. refl) (λ _. refl)
block_kept c (event.Init named recovery) =
    let told = λ (h k : ReplicaInfo). Ok (record { replica = set_writer c k None; answer = answer.Info h.original h.stamp h.written }) in
    after_there c (λ h. begin_recovery h named recovery >>= told h) (λ h. after_value c (begin_recovery h named recovery) (told h) (λ k. refl))
block_kept c (event.Update recovery n) = after_there c (λ h. with_writer c None (end_recovery h h.recovery recovery n)) (λ h. after_writer c None (end_recovery h h.recovery recovery n))
block_kept c (event.Read named offset n) =
    let seen = λ (v : ℕ). Ok (record { replica = c; answer = answer.Visible v }) in
    after_there c (λ h. readable h (visible_of h) named offset n >>= seen) (λ h. after_value c (readable h (visible_of h) named offset n) seen (λ v. refl))
block_kept c (event.Give named offset n) =
    let seen = λ (v : ℕ). Ok (record { replica = c; answer = answer.Visible v }) in
    after_there c (λ h. given h named offset n >>= seen) (λ h. after_value c (given h named offset n) seen (λ v. refl))
block_kept c event.FileFault = refl

-- Broken in place of an event, a replica is what it was, broken.
pub broken_from : (c : ReplicaRecord) (e : Event) → mark_broken (record (state_after c e) { info = c.info }) ≡ mark_broken c
broken_from c e = ap (λ b. record { block = b; info = c.info; stream = None; pending = []; is_broken = true }) (block_kept c e)
