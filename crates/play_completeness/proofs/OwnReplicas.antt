-- What the events of a pipeline leave of a replica that isn't broken and that no recovery holds: it stays so.
use Rattle.std.proofs.Common.{◌≡◌, ℕ, Bool, true, false, slice_get, Option, Some, None, IfSome, Result, Ok, Err, refl, sym, subst, ◌⊎◌, inl, inr}
use Rattle.std.specs.Prelude.{not, is_none, negsuc, if◌then◌else◌, nat_le, length}
use Rattle.std.specs.Ordering.{int_eq}
use Rattle.std.specs.Result.{IfOk}
use Rattle.hd_base.specs.Results.{◌>>=◌}
use Rattle.hd_base.specs.SumRules.{Rule}
use Rattle.hd_base.specs.declared.numbers.ConnId.{ConnId}
use Rattle.hd_base.specs.declared.numbers.Stamp.{Stamp}
use Rattle.hd_base.specs.declared.states.ReplicaState.{ReplicaState}
use Rattle.hd_base.specs.declared.states.ReplicaState.TheVariants as state
use Rattle.op_headers.specs.Values.{WriteFields}
use Rattle.request_refusals.specs.Pools.{is_in_pool}
use Rattle.request_refusals.specs.declared.refusals.RequestRefusal.{RequestRefusal}
use Rattle.request_refusals.specs.declared.refusals.RequestRefusal.TheVariants as request_refusal
use Rattle.replica_core.specs.declared.ack_queue.PendingPacket.{PendingPacket}
use Rattle.replica_core.specs.declared.events.Event.{Event}
use Rattle.replica_core.specs.declared.events.Event.TheVariants as event
use Rattle.replica_core.specs.declared.extents.PacketExtent.{PacketExtent}
use Rattle.replica_core.specs.declared.info.ReplicaInfo.{ReplicaInfo}
use Rattle.replica_core.specs.declared.records.ReplicaRecord.{ReplicaRecord}
use Rattle.replica_core.specs.declared.refusals.Refusal.{Refusal}
use Rattle.replica_core.specs.declared.refusals.Refusal.TheVariants as refusal
use Rattle.replica_core.specs.Extents.{stream_after, heartbeat_of, pending_of}
use Rattle.replica_core.specs.Info.{settled_at, reopen, recover_setup, recover_stream, is_writable, state_of, state_after_last}
use Rattle.replica_core.specs.Transitions.{Outcome, done, record_after, state_after, transition, present, with_writer, set_writer, new_transition, packet_transition, extent_transition, acknowledge, oldest_of, stream_by, is_written_by}
use Rattle.replica_core.proofs.InfoLemmas.{present_is, reopen_is, recover_setup_is, recover_stream_is}
use Rattle.replica_core.proofs.StepLemmas.{after_check, after_step, choice}
use Rattle.replica_model.specs.declared.events.ReplicaEvent.{ReplicaEvent}
use Rattle.replica_model.specs.declared.events.ReplicaEvent.TheVariants as replica_event
use Rattle.replica_model.specs.Rows.{event_at, FullReplica}
use Rattle.member_core.specs.declared.requests.SetupKind.{SetupKind}
use Rattle.member_core.specs.declared.requests.SetupKind.TheVariants as kind
use Rattle.member_core.specs.declared.requests.TheConstants.{MAX_BELOW}
use Rattle.member_core.specs.Requests.{setup_with, rule_for, named_setup, named_rule, setup_event, request_event}
use Rattle.play_completeness.specs.Plain.{IsOwn}

-- it isn't broken, and no recovery holds it
abbrev pub Calm : ReplicaRecord → Type 0
Calm c = (c.is_broken ≡ false) × IfSome c.info IsOwn

settled-rbw : (t : Stamp) (r : Rule) (n : ℕ) → IsOwn (settled_at state.Rbw t r n)
settled-rbw t r n = record { free = refl; lasting = inr refl }

settled-final : (t : Stamp) (r : Rule) (n : ℕ) → IsOwn (settled_at state.Finalized t r n)
settled-final t r n = record { free = refl; lasting = inl refl }

own-of : (c : ReplicaRecord) (i : ReplicaInfo) → c.info ≡ Some i → Calm c → IsOwn i
own-of c i e h = subst (λ (o : Option ReplicaInfo). IfSome o IsOwn) e h.1

by-there : (c : ReplicaRecord) (next : ReplicaInfo → Outcome) → Calm c → ((i : ReplicaInfo) → c.info ≡ Some i → Calm (record_after c (next i))) → Calm (record_after c (present c >>= next))
by-there c next h onward = after_step Calm c (present c) next h (λ i e. onward i (present_is c i e).1)

by-writer : (c : ReplicaRecord) (writer : Option ConnId) (next : Result ReplicaInfo Refusal) → Calm c → ((k : ReplicaInfo) → next ≡ Ok k → IsOwn k) → Calm (record_after c (with_writer c writer next))
by-writer c writer next h k = after_step Calm c next (λ j. done (set_writer c j writer)) h (λ j e. (h.0, k j e))

create-calm : (c : ReplicaRecord) (conn : ConnId) (t : Stamp) (r : Rule) → Calm c → Calm (record_after c (new_transition c state.Rbw conn t r))
create-calm c conn t r h =
    after_check Calm c (not c.is_broken) refusal.Broken _ h (λ _.
    after_check Calm c (is_none c.info) refusal.Exists _ h (λ _. (h.0, settled-rbw t r 0)))

last-own : (s : ReplicaState) → (s ≡ state.Finalized) ⊎ (s ≡ state.Rbw) → state_after_last s ≡ state.Finalized
last-own state.Finalized h = refl
last-own state.Rbw h = refl
last-own state.Rwr h = refl
last-own state.Rur h = refl
last-own state.Temporary (inl e) = absurd (cc)
last-own state.Temporary (inr e) = absurd (cc)

acknowledge-calm : (c : ReplicaRecord) (i : ReplicaInfo) (p : PendingPacket) (good : Bool) → c.info ≡ Some i → Calm c → Calm (acknowledge c i p good)
acknowledge-calm c i p false e h = h
acknowledge-calm c i p true e h =
    let x = own-of c i e h in
    choice Calm p.last _ _
    (λ _. (h.0, record { free = refl; lasting = inl (last-own i.original x.lasting) }))
    (λ _. (h.0, record { free = x.free; lasting = x.lasting }))

packet-calm : (c : ReplicaRecord) (conn : ConnId) (q : PacketExtent) → Calm c → Calm (record_after c (packet_transition c conn q))
unfolding extent_transition
packet-calm c conn q h =
    by-there c _ h (λ i is. after_check Calm c (is_writable (state_of i)) refusal.NotWriter _ h (λ _.
    after_step Calm c (stream_by c.stream conn) _ h (λ s _.
    choice (λ (o : Outcome). Calm (record_after c o)) (int_eq q.seqno (negsuc 0)) _ _
    (λ _. after_step Calm c (heartbeat_of q) _ h (λ e _. h))
    (λ _. after_step Calm c (stream_after s q) _ h (λ t _. after_step Calm c (pending_of i.sums q i.written) _ h (λ e _.
    let x = own-of c i is h in (h.0, record { free = x.free; lasting = x.lasting })))))))

-- EVENTS

-- an event of a pipeline: a setup, a packet, an ack, or the end
abbrev pub IsPiped : Event → Type 0
IsPiped (event.Create conn t r) = Unit {0}
IsPiped (event.Append conn named new n) = Unit {0}
IsPiped (event.AppendRecovery conn named new n) = Unit {0}
IsPiped (event.StreamRecovery conn named new low high) = Unit {0}
IsPiped (event.CloseRecovery named new n) = Unit {0}
IsPiped (event.Packet conn seqno offset n sums last sync bad) = Unit {0}
IsPiped (event.Ack conn seqno good) = Unit {0}
IsPiped (event.Ended conn) = Unit {0}
IsPiped other = ⊥

pub event-calm : (c : ReplicaRecord) (e : Event) → IsPiped e → Calm c → Calm (state_after c e)
unfolding transition
event-calm c (event.Create conn t r) k h = create-calm c conn t r h
event-calm c (event.Append conn named new n) k h =
    by-there c _ h (λ i _. by-writer c (Some conn) (reopen i named new n) h (λ j e. subst IsOwn (sym (reopen_is i j named new n e).0) (settled-rbw new i.sums n)))
event-calm c (event.AppendRecovery conn named new n) k h =
    by-there c _ h (λ i _. by-writer c (Some conn) (recover_setup i named new n state.Rbw) h (λ j e. subst IsOwn (sym (recover_setup_is i j named new n state.Rbw e).0) (settled-rbw new i.sums n)))
event-calm c (event.StreamRecovery conn named new low high) k h =
    by-there c _ h (λ i _. by-writer c (Some conn) (recover_stream i named new low high) h (λ j e. subst IsOwn (sym (recover_stream_is i j named new low high e)) (settled-rbw new i.sums i.acked)))
event-calm c (event.CloseRecovery named new n) k h =
    by-there c _ h (λ i _. by-writer c None (recover_setup i named new n state.Finalized) h (λ j e. subst IsOwn (sym (recover_setup_is i j named new n state.Finalized e).0) (settled-final new i.sums n)))
event-calm c (event.Packet conn seqno offset n sums last sync bad) k h =
    packet-calm c conn (record { seqno = seqno; offset = offset; length = n; sums = sums; last = last; sync = sync; bad = bad }) h
event-calm c (event.Ack conn seqno good) k h =
    by-there c _ h (λ i is. after_step Calm c (stream_by c.stream conn) _ h (λ s _.
    after_step Calm c (oldest_of (slice_get c.pending 0) seqno) _ h (λ p _. acknowledge-calm c i p good is h)))
event-calm c (event.Ended conn) k h = choice Calm (is_written_by c.stream conn) _ _ (λ _. h) (λ _. h)
event-calm c (event.Temporary conn t r) k h = absurd k
event-calm c (event.Init named id) k h = absurd k
event-calm c (event.Update id n) k h = absurd k
event-calm c (event.Read named offset n) k h = absurd k
event-calm c (event.Give named offset n) k h = absurd k
event-calm c event.FileFault k h = absurd k

-- the same beside the bytes
abbrev pub IsPipedCall : ReplicaEvent → Type 0
IsPipedCall (replica_event.Packet conn p) = Unit {0}
IsPipedCall (replica_event.Other e) = IsPiped e

piped-at : (r : FullReplica) (e : ReplicaEvent) → IsPipedCall e → IsPiped (event_at r e)
piped-at r (replica_event.Packet conn p) h = tt
piped-at r (replica_event.Other e) h = h

pub row-calm : (r : FullReplica) (e : ReplicaEvent) → IsPipedCall e → Calm r.known → Calm (state_after r.known (event_at r e))
row-calm r e k h = event-calm r.known (event_at r e) (piped-at r e k) h

-- REQUESTS

setup-piped : (conn : ConnId) (f : WriteFields) (r : Rule) (s : SetupKind) → IsPiped (setup_event conn f r s)
setup-piped conn f r kind.Create = tt
setup-piped conn f r kind.Append = tt
setup-piped conn f r kind.AppendRecovery = tt
setup-piped conn f r kind.StreamRecovery = tt
setup-piped conn f r kind.CloseRecovery = tt

checked : (b : Bool) (e : RequestRefusal) (r : Result Event RequestRefusal) → IfOk r IsPiped → IfOk (if b then r else Err e) IsPiped
checked true e r h = h
checked false e r h = tt

few-piped : (conn : ConnId) (f : WriteFields) (s : SetupKind) (o : Option Rule)
    → IfOk (named_rule f o >>= (λ sums. if nat_le (length f.targets) MAX_BELOW then Ok (setup_event conn f sums s) else Err (request_refusal.TooMany (length f.targets)))) IsPiped
few-piped conn f s None = tt
few-piped conn f s (Some r) = checked (nat_le (length f.targets) MAX_BELOW) _ (Ok (setup_event conn f r s)) (setup-piped conn f r s)

named-piped : (conn : ConnId) (f : WriteFields) (held : Option Rule) (o : Option SetupKind)
    → IfOk (named_setup f.stage o >>= (λ kind. named_rule f (rule_for f held) >>= (λ sums. if nat_le (length f.targets) MAX_BELOW then Ok (setup_event conn f sums kind) else Err (request_refusal.TooMany (length f.targets))))) IsPiped
named-piped conn f held None = tt
named-piped conn f held (Some s) = few-piped conn f s (rule_for f held)

pub request-piped : (conn : ConnId) (f : WriteFields) (held : Option Rule) → IfOk (request_event conn f held) IsPiped
unfolding request_event
request-piped conn f held = checked (is_in_pool f.block) request_refusal.Pool _ (named-piped conn f held (setup_with f.stage))
