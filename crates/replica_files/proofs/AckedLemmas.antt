-- Bytes that are acked stay.
use Rattle.std.proofs.Common.{◌≡◌, ℕ, ◌≤◌, Bool, true, false, not, is_none, negsuc, ℤ, [], slice_get, Option, Some, None, Result, Ok, refl, sym, ap, subst, arith}
use Rattle.std.specs.Ordering.{int_eq}
use Rattle.hd_base.specs.declared.states.ReplicaState.{ReplicaState}
use Rattle.hd_base.specs.declared.states.ReplicaState.TheVariants as state
use Rattle.hd_base.specs.declared.numbers.ConnId.{ConnId}
use Rattle.hd_base.specs.declared.numbers.Stamp.{Stamp}
use Rattle.hd_base.specs.SumRules.{Rule}
use Rattle.hd_base.specs.Results.{◌>>=◌}
use Rattle.replica_core.specs.declared.records.ReplicaRecord.{ReplicaRecord}
use Rattle.replica_core.specs.declared.ack_queue.PendingPacket.{PendingPacket}
use Rattle.replica_core.specs.declared.events.Answer.TheVariants as answer
use Rattle.replica_core.specs.declared.events.Event.{Event}
use Rattle.replica_core.specs.declared.events.Event.TheVariants as event
use Rattle.replica_core.specs.declared.info.ReplicaInfo.{ReplicaInfo}
use Rattle.replica_core.specs.declared.extents.PacketExtent.{PacketExtent}
use Rattle.replica_core.specs.declared.refusals.Refusal.{Refusal}
use Rattle.replica_core.specs.declared.refusals.Refusal.TheVariants as refusal
use Rattle.replica_core.specs.Refusals.{check}
use Rattle.replica_core.specs.Info.{state_of, is_writable, settled_at, reopen, recover_setup, recover_stream, begin_recovery, readable, given, visible_of, advance_acked}
use Rattle.replica_core.specs.Extents.{stream_after, heartbeat_of, pending_of}
use Rattle.replica_core.specs.Transitions.{Outcome, done, record_after, present, set_writer, with_writer, new_transition, extend, enqueue, extent_transition, packet_transition, ack_transition, stream_by, oldest_of, acknowledge, is_written_by, mark_broken, transition, state_after}
use Rattle.replica_core.specs.Views.{acked_at, acked_in}
use Rattle.replica_core.specs.Sound.{IsConsistent, Sound}
use Rattle.replica_core.proofs.StepLemmas.{after_check, after_step, choice}
use Rattle.replica_core.proofs.InfoLemmas.{present_is, reopen_is, recover_setup_is, recover_stream_is, begin_recovery_is}
use Rattle.replica_core.proofs.SoundLemmas.{info_in}

-- no less is acked than that
abbrev AcksFrom : ℕ → ReplicaRecord → Type 0
AcksFrom n c = n ≤ acked_in c

none_acked : (o : Option ReplicaInfo) (n : ℕ) → is_none o ≡ true → acked_at o ≤ n
none_acked None n none = omega arith
none_acked (Some h) n none = absurd (cc)

-- so much is acked of what is there
acked_of : (c : ReplicaRecord) (h : ReplicaInfo) (n : ℕ) → c.info ≡ Some h → h.acked ≤ n → acked_in c ≤ n
acked_of c h n is below = subst (λ o. acked_at o ≤ n) (sym is) below

-- what is held is the same
same_acked : (c d : ReplicaRecord) → d.info ≡ c.info → acked_in c ≤ acked_in d
same_acked c d same = omega (arith, ap acked_at same)

-- ---- events

new_acks : (c : ReplicaRecord) (original : ReplicaState) (conn : ConnId) (stamp : Stamp) (r : Rule) → AcksFrom (acked_in c) (record_after c (new_transition c original conn stamp r))
new_acks c original conn stamp r =
    let made = settled_at original stamp r 0 in
    after_check (AcksFrom (acked_in c)) c (not c.is_broken) refusal.Broken (check (is_none c.info) refusal.Exists (done (set_writer c made (Some conn)))) (omega arith) (λ _.
    after_check (AcksFrom (acked_in c)) c (is_none c.info) refusal.Exists (done (set_writer c made (Some conn))) (omega arith) (λ none. none_acked c.info 0 none))

-- what a step makes of what is there, as much of which is acked
with_writer_acks : (c : ReplicaRecord) (writer : Option ConnId) (make : ReplicaInfo → Result ReplicaInfo Refusal) → Sound c → ((h k : ReplicaInfo) → make h ≡ Ok k → IsConsistent h → h.acked ≤ k.acked) → AcksFrom (acked_in c) (record_after c (present c >>= (λ h. with_writer c writer (make h))))
with_writer_acks c writer make s good =
    after_step (AcksFrom (acked_in c)) c (present c) (λ h. with_writer c writer (make h)) (omega arith) (λ h is.
    after_step (AcksFrom (acked_in c)) c (make h) (λ k. done (set_writer c k writer)) (omega arith) (λ k e.
    let there = (present_is c h is).1 in
    acked_of c h k.acked there (good h k e (info_in c h there s))))

packet_acks : (c : ReplicaRecord) (conn : ConnId) (p : PacketExtent) → AcksFrom (acked_in c) (record_after c (packet_transition c conn p))
unfolding extent_transition
packet_acks c conn p =
    let P = AcksFrom (acked_in c) in
    after_step P c (present c) (λ h. check (is_writable (state_of h)) refusal.NotWriter (stream_by c.stream conn >>= (λ t. extent_transition c h t p))) (omega arith) (λ h is.
    after_check P c (is_writable (state_of h)) refusal.NotWriter (stream_by c.stream conn >>= (λ t. extent_transition c h t p)) (omega arith) (λ _.
    after_step P c (stream_by c.stream conn) (λ t. extent_transition c h t p) (omega arith) (λ t _.
    choice (λ (o : Outcome). P (record_after c o)) (int_eq p.seqno (negsuc 0)) _ _
    (λ _. after_step P c (heartbeat_of p) (λ e. done (enqueue c e)) (omega arith) (λ e _. same_acked c (enqueue c e) refl))
    (λ _. after_step P c (stream_after t p) (λ u. pending_of h.sums p h.written >>= (λ e. done (extend c h u e))) (omega arith) (λ u _.
    after_step P c (pending_of h.sums p h.written) (λ e. done (extend c h u e)) (omega arith) (λ e _.
    acked_of c h h.acked (present_is c h is).1 (omega arith)))))))

acknowledge_acks : (c : ReplicaRecord) (h : ReplicaInfo) (e : PendingPacket) (good : Bool) → c.info ≡ Some h → AcksFrom (acked_in c) (acknowledge c h e good)
acknowledge_acks c h e false is = same_acked c (acknowledge c h e false) refl
acknowledge_acks c h e true is =
    choice (AcksFrom (acked_in c)) e.last _ _
    (λ _. acked_of c h (advance_acked h e.end).acked is (omega arith))
    (λ _. acked_of c h (advance_acked h e.end).acked is (omega arith))

ack_acks : (c : ReplicaRecord) (conn : ConnId) (seqno : ℤ) (good : Bool) → AcksFrom (acked_in c) (record_after c (ack_transition c conn seqno good))
ack_acks c conn seqno good =
    let P = AcksFrom (acked_in c) in
    after_step P c (present c) (λ h. stream_by c.stream conn >>= (λ t. oldest_of (slice_get c.pending 0) seqno >>= (λ e. done (acknowledge c h e good)))) (omega arith) (λ h is.
    after_step P c (stream_by c.stream conn) (λ t. oldest_of (slice_get c.pending 0) seqno >>= (λ e. done (acknowledge c h e good))) (omega arith) (λ t _.
    after_step P c (oldest_of (slice_get c.pending 0) seqno) (λ e. done (acknowledge c h e good)) (omega arith) (λ e _.
    acknowledge_acks c h e good (present_is c h is).1)))

init_acks : (c : ReplicaRecord) (named recovery : Stamp) → AcksFrom (acked_in c) (record_after c (present c >>= (λ h. begin_recovery h named recovery >>= (λ k. Ok (record { replica = set_writer c k None; answer = answer.Info h.original h.stamp h.written })))))
init_acks c named recovery =
    let P = AcksFrom (acked_in c) in
    after_step P c (present c) (λ h. begin_recovery h named recovery >>= (λ k. Ok (record { replica = set_writer c k None; answer = answer.Info h.original h.stamp h.written }))) (omega arith) (λ h is.
    after_step P c (begin_recovery h named recovery) (λ k. Ok (record { replica = set_writer c k None; answer = answer.Info h.original h.stamp h.written })) (omega arith) (λ k e.
    acked_of c h k.acked (present_is c h is).1 (omega (arith, ap (λ x. x.acked) (begin_recovery_is h k named recovery e)))))

-- what reads leave
reads_ack : {A : Type 0} (c : ReplicaRecord) (first : ReplicaInfo → Result A Refusal) (reply : A → Outcome) → ((x : A) → record_after c (reply x) ≡ c) → AcksFrom (acked_in c) (record_after c (present c >>= (λ h. first h >>= reply)))
reads_ack c first reply same =
    after_step (AcksFrom (acked_in c)) c (present c) (λ h. first h >>= reply) (omega arith) (λ h _.
    after_step (AcksFrom (acked_in c)) c (first h) reply (omega arith) (λ x _. same_acked c (record_after c (reply x)) (ap (λ (d : ReplicaRecord). d.info) (same x))))

-- an event that isn't the end of a block recovery
abbrev pub IsNoEnd : Event → Type 0
IsNoEnd (event.Update recovery bytes) = ⊥
IsNoEnd _ = Unit {0}

-- Every event but the end of a block recovery leaves as much acked.
pub acked_grows : (c : ReplicaRecord) (e : Event) → Sound c → IsNoEnd e → acked_in c ≤ acked_in (state_after c e)
unfolding transition
acked_grows c (event.Create conn stamp sums) s other = new_acks c state.Rbw conn stamp sums
acked_grows c (event.Temporary conn stamp sums) s other = new_acks c state.Temporary conn stamp sums
acked_grows c (event.Append conn named new n) s other =
    with_writer_acks c (Some conn) (λ h. reopen h named new n) s (λ h k e info. let is = reopen_is h k named new n e in omega (arith, ap (λ x. x.acked) is.0, is.1, info.acked))
acked_grows c (event.AppendRecovery conn named new n) s other =
    with_writer_acks c (Some conn) (λ h. recover_setup h named new n state.Rbw) s (λ h k e info. let is = recover_setup_is h k named new n state.Rbw e in omega (arith, ap (λ x. x.acked) is.0, is.1, info.acked))
acked_grows c (event.StreamRecovery conn named new low high) s other =
    with_writer_acks c (Some conn) (λ h. recover_stream h named new low high) s (λ h k e info. omega (arith, ap (λ x. x.acked) (recover_stream_is h k named new low high e)))
acked_grows c (event.CloseRecovery named new n) s other =
    with_writer_acks c None (λ h. recover_setup h named new n state.Finalized) s (λ h k e info. let is = recover_setup_is h k named new n state.Finalized e in omega (arith, ap (λ x. x.acked) is.0, is.1, info.acked))
acked_grows c (event.Packet conn seqno offset n sums last sync bad) s other =
    packet_acks c conn (record { seqno = seqno; offset = offset; length = n; sums = sums; last = last; sync = sync; bad = bad })
acked_grows c (event.Ack conn seqno good) s other = ack_acks c conn seqno good
acked_grows c (event.Ended conn) s other =
    choice (AcksFrom (acked_in c)) (is_written_by c.stream conn) (record c { stream = None; pending = [] }) c (λ _. same_acked c (record c { stream = None; pending = [] }) refl) (λ _. same_acked c c refl)
acked_grows c (event.Init named recovery) s other = init_acks c named recovery
acked_grows c (event.Update recovery n) s other = absurd other
acked_grows c (event.Read named offset n) s other = reads_ack c (λ h. readable h (visible_of h) named offset n) (λ visible. Ok (record { replica = c; answer = answer.Visible visible })) (λ _. refl)
acked_grows c (event.Give named offset n) s other = reads_ack c (λ h. given h named offset n) (λ visible. Ok (record { replica = c; answer = answer.Visible visible })) (λ _. refl)
acked_grows c event.FileFault s other = same_acked c (mark_broken c) refl
