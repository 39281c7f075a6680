-- What events leave of the rule of a replica's sums.
use Rattle.std.proofs.Common.{◌≡◌, Bool, true, false, slice_get, Option, Some, None, IfSome, subst}
use Rattle.std.specs.Prelude.{negsuc}
use Rattle.std.specs.Ordering.{int_eq}
use Rattle.hd_base.specs.Results.{◌>>=◌}
use Rattle.hd_base.specs.SumRules.{Rule}
use Rattle.replica_core.specs.declared.ack_queue.PendingPacket.{PendingPacket}
use Rattle.replica_core.specs.declared.events.Event.{Event}
use Rattle.replica_core.specs.declared.events.Event.TheVariants as event
use Rattle.replica_core.specs.declared.extents.PacketExtent.{PacketExtent}
use Rattle.replica_core.specs.declared.info.ReplicaInfo.{ReplicaInfo}
use Rattle.replica_core.specs.declared.records.ReplicaRecord.{ReplicaRecord}
use Rattle.replica_core.specs.declared.refusals.Refusal.TheVariants as refusal
use Rattle.hd_base.specs.declared.numbers.ConnId.{ConnId}
use Rattle.replica_core.specs.Extents.{stream_after, heartbeat_of, pending_of}
use Rattle.replica_core.specs.Info.{state_of, is_writable}
use Rattle.replica_core.specs.Transitions.{Outcome, record_after, present, stream_by, oldest_of, is_written_by, packet_transition, extent_transition, acknowledge, transition, state_after}
use Rattle.replica_core.proofs.InfoLemmas.{present_is}
use Rattle.replica_core.proofs.StepLemmas.{after_check, after_step, choice}
use Rattle.replica_model.specs.declared.events.ReplicaEvent.{ReplicaEvent}
use Rattle.replica_model.specs.declared.events.ReplicaEvent.TheVariants as replica_event
use Rattle.replica_model.specs.Rows.{FullReplica, row, event_at}
use Rattle.member_core.specs.Steps.{replica_after}
use Rattle.play_completeness.specs.Formed.{HasRule}

-- THE CALLS OF A MEMBER

-- a packet, an ack, or the end
abbrev pub IsMemberEvent : Event → Type 0
IsMemberEvent (event.Packet conn seqno offset n sums last sync bad) = Unit {0}
IsMemberEvent (event.Ack conn seqno good) = Unit {0}
IsMemberEvent (event.Ended conn) = Unit {0}
IsMemberEvent other = ⊥

abbrev pub IsMemberCall : ReplicaEvent → Type 0
IsMemberCall (replica_event.Packet conn p) = Unit {0}
IsMemberCall (replica_event.Other e) = IsMemberEvent e

-- THE RULE STAYS

module _ (rule : Rule) where
  abbrev Has : ReplicaRecord → Type 0
  Has c = IfSome c.info (λ i. i.sums ≡ rule)

  has-of : (c : ReplicaRecord) (i : ReplicaInfo) → c.info ≡ Some i → Has c → i.sums ≡ rule
  has-of c i e h = subst (λ (o : Option ReplicaInfo). IfSome o (λ k. k.sums ≡ rule)) e h

  there-keeps : (c : ReplicaRecord) (next : ReplicaInfo → Outcome) → Has c → ((i : ReplicaInfo) → c.info ≡ Some i → Has (record_after c (next i))) → Has (record_after c (present c >>= next))
  there-keeps c next h onward = after_step Has c (present c) next h (λ i e. onward i (present_is c i e).1)

  acknowledge-keeps : (c : ReplicaRecord) (i : ReplicaInfo) (p : PendingPacket) (good : Bool) → c.info ≡ Some i → Has c → Has (acknowledge c i p good)
  acknowledge-keeps c i p false e h = h
  acknowledge-keeps c i p true e h = choice Has p.last _ _ (λ _. has-of c i e h) (λ _. has-of c i e h)

  packet-keeps : (c : ReplicaRecord) (conn : ConnId) (q : PacketExtent) → Has c → Has (record_after c (packet_transition c conn q))
  unfolding extent_transition
  packet-keeps c conn q h =
      there-keeps c _ h (λ i is. after_check Has c (is_writable (state_of i)) refusal.NotWriter _ h (λ _.
      after_step Has c (stream_by c.stream conn) _ h (λ s _.
      choice (λ (o : Outcome). Has (record_after c o)) (int_eq q.seqno (negsuc 0)) _ _
      (λ _. after_step Has c (heartbeat_of q) _ h (λ e _. h))
      (λ _. after_step Has c (stream_after s q) _ h (λ t _. after_step Has c (pending_of i.sums q i.written) _ h (λ e _. has-of c i is h))))))

  event-keeps : (c : ReplicaRecord) (e : Event) → IsMemberEvent e → Has c → Has (state_after c e)
  unfolding transition
  event-keeps c (event.Packet conn seqno offset n sums last sync bad) k h =
      packet-keeps c conn (record { seqno = seqno; offset = offset; length = n; sums = sums; last = last; sync = sync; bad = bad }) h
  event-keeps c (event.Ack conn seqno good) k h =
      there-keeps c _ h (λ i is. after_step Has c (stream_by c.stream conn) _ h (λ s _.
      after_step Has c (oldest_of (slice_get c.pending 0) seqno) _ h (λ p _. acknowledge-keeps c i p good is h)))
  event-keeps c (event.Ended conn) k h = choice Has (is_written_by c.stream conn) _ _ (λ _. h) (λ _. h)
  event-keeps c (event.Create conn t r) k h = absurd k
  event-keeps c (event.Temporary conn t r) k h = absurd k
  event-keeps c (event.Append conn named new n) k h = absurd k
  event-keeps c (event.AppendRecovery conn named new n) k h = absurd k
  event-keeps c (event.StreamRecovery conn named new low high) k h = absurd k
  event-keeps c (event.CloseRecovery named new n) k h = absurd k
  event-keeps c (event.Init named id) k h = absurd k
  event-keeps c (event.Update id n) k h = absurd k
  event-keeps c (event.Read named offset n) k h = absurd k
  event-keeps c (event.Give named offset n) k h = absurd k
  event-keeps c event.FileFault k h = absurd k

  row-keeps : (r : FullReplica) (e : ReplicaEvent) → IsMemberCall e → HasRule rule r → HasRule rule (row r e)
  row-keeps r (replica_event.Packet conn p) k h = event-keeps r.known (event_at r (replica_event.Packet conn p)) tt h
  row-keeps r (replica_event.Other e) k h = event-keeps r.known e k h

  -- What a member books leaves the rule.
  pub call-keeps : (r : FullReplica) (o : Option ReplicaEvent) → IfSome o IsMemberCall → HasRule rule r → HasRule rule (replica_after r o)
  call-keeps r None k h = h
  call-keeps r (Some e) k h = row-keeps r e k h
