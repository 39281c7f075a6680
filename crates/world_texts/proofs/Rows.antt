-- What events leave pending at a replica.
use Rattle.std.proofs.Common.{ℕ, Bool, true, false, List, [], ◌∷◌, drop, slice_get, Option, Some, None, Result, Ok, Err}
use Rattle.std.specs.Prelude.{◌==◌, ◌&&◌, not, is_none, negsuc, IfOk}
use Rattle.std.specs.Int.{w64}
use Rattle.std.specs.Ordering.{int_eq}
use mir.Val.{SFits}
use Rattle.hd_base.specs.declared.numbers.ConnId.{ConnId}
use Rattle.hd_base.specs.declared.states.ReplicaState.TheVariants as state
use Rattle.hd_base.specs.Results.{◌>>=◌}
use Rattle.hd_base.specs.SumRules.{Rule}
use Rattle.replica_core.specs.declared.records.ReplicaRecord.{ReplicaRecord}
use Rattle.replica_core.specs.declared.ack_queue.PendingPacket.{PendingPacket}
use Rattle.replica_core.specs.declared.events.Event.{Event}
use Rattle.replica_core.specs.declared.events.Event.TheVariants as event
use Rattle.replica_core.specs.declared.info.ReplicaInfo.{ReplicaInfo}
use Rattle.replica_core.specs.declared.extents.PacketExtent.{PacketExtent}
use Rattle.replica_core.specs.declared.refusals.Refusal.{Refusal}
use Rattle.replica_core.specs.declared.streams.Stream.{Stream}
use Rattle.replica_core.specs.Refusals.{check}
use Rattle.replica_core.specs.Views.{rule_in}
use Rattle.replica_core.specs.Extents.{heartbeat_of, stream_after, start_of, place_check, unless_bad, packet_at, pending_of, sum_count}
use Rattle.replica_core.specs.Transitions.{Taken, Outcome, record_after, present, with_writer, stream_by, enqueue, extent_transition, acknowledge, oldest_of, is_written_by, transition}
use Rattle.replica_core.specs.Info.{reopen, recover_setup, recover_stream, begin_recovery, end_recovery, readable, visible_of, given}
use Rattle.world_laws.specs.ReplicaModel.ReplicaEvent.{ReplicaEvent}
use Rattle.world_laws.specs.ReplicaModel.ReplicaEvent.TheVariants as replica_event
use Rattle.world_laws.specs.ReplicaModel.Rows.{FullReplica, IsOther, record_event, event_at, row, broken}
use Rattle.world_laws.proofs.ByteFrame.{Each, each-nil, each-one, each-tail, each-append}
use Rattle.world_laws.proofs.FactTables.{if-each}
use Rattle.world_texts.proofs.Frame.{PendingFits, ReplicaFits}

-- STEPS THAT MAY BE REFUSED

ok-check : {X : Type 0} (P : X → Type 0) (b : Bool) (e : Refusal) (r : Result X Refusal) → IfOk r P → IfOk (check b e r) P
ok-check P true e r h = h
ok-check P false e r h = tt

ok-bind : {A B : Type 0} (Q : A → Type 0) (P : B → Type 0) (m : Result A Refusal) (f : A → Result B Refusal) → IfOk m Q → ((x : A) → Q x → IfOk (f x) P) → IfOk (m >>= f) P
ok-bind Q P (Ok x) f q g = g x q
ok-bind Q P (Err e) f q g = tt

-- a step of which nothing is known
ok-after : {A B : Type 0} (P : B → Type 0) (m : Result A Refusal) (f : A → Result B Refusal) → ((x : A) → IfOk (f x) P) → IfOk (m >>= f) P
ok-after P (Ok x) f g = g x
ok-after P (Err e) f g = tt

-- WHAT IS PENDING

abbrev Pends : Taken → Type 0
Pends t = Each PendingFits t.replica.pending

each-drop : {X : Type 0} (P : X → Type 0) (xs : List X) → Each P xs → Each P (drop 1 xs)
each-drop P [] h = h
each-drop P (x ∷ xs) h = each-tail P x xs h

-- the number of a packet that an event brings
abbrev SeqnoFits : Event → Type 0
SeqnoFits (event.Packet conn seqno offset bytes sums last sync bad) = SFits w64 seqno
SeqnoFits _ = Unit {0}

enqueued : (c : ReplicaRecord) (e : PendingPacket) → Each PendingFits c.pending → PendingFits e → Each PendingFits (enqueue c e).pending
enqueued c e h f = each-append PendingFits c.pending (e ∷ []) h (each-one PendingFits e f)

heartbeat-number : (p : PacketExtent) → SFits w64 p.seqno → IfOk (heartbeat_of p) PendingFits
unfolding heartbeat_of
heartbeat-number p h = ok-check PendingFits (p.length == 0 && p.sums == 0 && not p.last) _ _ h

unless-number : (size offset : ℕ) (bad : Option ℕ) (e : PendingPacket) → PendingFits e → IfOk (unless_bad size offset bad (Ok e)) PendingFits
unless-number size offset None e h = h
unless-number size offset (Some n) e h = tt

piece-number : (r : Rule) (p : PacketExtent) (offset : ℕ) → SFits w64 p.seqno → IfOk (packet_at r p offset) PendingFits
unfolding packet_at
piece-number r p offset h =
    ok-check PendingFits _ _ _ (ok-check PendingFits (p.sums == sum_count r offset p.length) _ _ (unless-number r.chunk offset p.bad _ h))

pending-number : (r : Rule) (p : PacketExtent) (written : ℕ) → SFits w64 p.seqno → IfOk (pending_of r p written) PendingFits
pending-number r p written h =
    ok-after PendingFits (start_of p) _ (λ offset. ok-after PendingFits (place_check p written offset) _ (λ _. piece-number r p offset h))

extent-pends : (c : ReplicaRecord) (i : ReplicaInfo) (s : Stream) (p : PacketExtent) → Each PendingFits c.pending → SFits w64 p.seqno → IfOk (extent_transition c i s p) Pends
unfolding extent_transition
extent-pends c i s p h f = if-each (λ (r : Outcome). IfOk r Pends) (int_eq p.seqno (negsuc 0)) _ _
    (λ _. ok-bind PendingFits Pends (heartbeat_of p) _ (heartbeat-number p f) (λ e g. enqueued c e h g))
    (λ _. ok-after Pends (stream_after s p) _ (λ t. ok-bind PendingFits Pends (pending_of i.sums p i.written) _ (pending-number i.sums p i.written f) (λ e g. enqueued c e h g)))

acknowledged : (c : ReplicaRecord) (i : ReplicaInfo) (e : PendingPacket) (good : Bool) → Each PendingFits c.pending → Each PendingFits (acknowledge c i e good).pending
acknowledged c i e false h = each-drop PendingFits c.pending h
acknowledged c i e true h = if-each (λ (r : ReplicaRecord). Each PendingFits r.pending) e.last _ _ (λ _. each-nil PendingFits) (λ _. each-drop PendingFits c.pending h)

none-pends : (c : ReplicaRecord) (writer : Option ConnId) (next : Result ReplicaInfo Refusal) → IfOk (with_writer c writer next) Pends
none-pends c writer next = ok-after Pends next _ (λ i. each-nil PendingFits)

transition-pends : (c : ReplicaRecord) (e : Event) → Each PendingFits c.pending → SeqnoFits e → IfOk (transition c e) Pends
unfolding transition
transition-pends c (event.Create conn stamp sums) h f = ok-check Pends (not c.is_broken) _ _ (ok-check Pends (is_none c.info) _ _ (each-nil PendingFits))
transition-pends c (event.Temporary conn stamp sums) h f = ok-check Pends (not c.is_broken) _ _ (ok-check Pends (is_none c.info) _ _ (each-nil PendingFits))
transition-pends c (event.Append conn named new bytes) h f = ok-after Pends (present c) _ (λ i. none-pends c (Some conn) (reopen i named new bytes))
transition-pends c (event.AppendRecovery conn named new bytes) h f = ok-after Pends (present c) _ (λ i. none-pends c (Some conn) (recover_setup i named new bytes state.Rbw))
transition-pends c (event.StreamRecovery conn named new low high) h f = ok-after Pends (present c) _ (λ i. none-pends c (Some conn) (recover_stream i named new low high))
transition-pends c (event.CloseRecovery named new bytes) h f = ok-after Pends (present c) _ (λ i. none-pends c None (recover_setup i named new bytes state.Finalized))
transition-pends c (event.Packet conn seqno offset bytes sums last sync bad) h f =
    ok-after Pends (present c) _ (λ i. ok-check Pends _ _ _ (ok-after Pends (stream_by c.stream conn) _ (λ s. extent-pends c i s _ h f)))
transition-pends c (event.Ack conn seqno good) h f =
    ok-after Pends (present c) _ (λ i. ok-after Pends (stream_by c.stream conn) _ (λ s. ok-after Pends (oldest_of (slice_get c.pending 0) seqno) _ (λ e. acknowledged c i e good h)))
transition-pends c (event.Ended conn) h f = if-each (λ (r : ReplicaRecord). Each PendingFits r.pending) (is_written_by c.stream conn) _ _ (λ _. each-nil PendingFits) (λ _. h)
transition-pends c (event.Init named recovery) h f = ok-after Pends (present c) _ (λ i. ok-after Pends (begin_recovery i named recovery) _ (λ k. each-nil PendingFits))
transition-pends c (event.Update recovery bytes) h f = ok-after Pends (present c) _ (λ i. none-pends c None (end_recovery i i.recovery recovery bytes))
transition-pends c (event.Read named offset bytes) h f = ok-after Pends (present c) _ (λ i. ok-after Pends (readable i (visible_of i) named offset bytes) _ (λ n. h))
transition-pends c (event.Give named offset bytes) h f = ok-after Pends (present c) _ (λ i. ok-after Pends (given i named offset bytes) _ (λ n. h))
transition-pends c event.FileFault h f = each-nil PendingFits

after-pends : (c : ReplicaRecord) (o : Outcome) → Each PendingFits c.pending → IfOk o Pends → Each PendingFits (record_after c o).pending
after-pends c (Ok t) h f = f
after-pends c (Err e) h f = h

-- the number of a packet that is booked
abbrev pub CallFits : ReplicaEvent → Type 0
CallFits (replica_event.Packet conn p) = SFits w64 p.seqno
CallFits (replica_event.Other e) = IsOther e

other-number : (e : Event) → IsOther e → SeqnoFits e
other-number (event.Create conn stamp sums) h = tt
other-number (event.Temporary conn stamp sums) h = tt
other-number (event.Append conn named new bytes) h = tt
other-number (event.AppendRecovery conn named new bytes) h = tt
other-number (event.StreamRecovery conn named new low high) h = tt
other-number (event.CloseRecovery named new bytes) h = tt
other-number (event.Packet conn seqno offset bytes sums last sync bad) h = absurd h
other-number (event.Ack conn seqno good) h = tt
other-number (event.Ended conn) h = tt
other-number (event.Init named recovery) h = tt
other-number (event.Update recovery bytes) h = tt
other-number (event.Read named offset bytes) h = tt
other-number (event.Give named offset bytes) h = tt
other-number event.FileFault h = tt

call-number : (rule : Option Rule) (e : ReplicaEvent) → CallFits e → SeqnoFits (record_event rule e)
call-number rule (replica_event.Packet conn p) h = h
call-number rule (replica_event.Other e) h = other-number e h

pub row-fits : (r : FullReplica) (e : ReplicaEvent) → ReplicaFits r → CallFits e → ReplicaFits (row r e)
row-fits r e h f = record { pending = after-pends r.known (transition r.known (event_at r e)) h.pending (transition-pends r.known (event_at r e) h.pending (call-number (rule_in r.known) e f)) }

pub broken-fits : (r : FullReplica) → ReplicaFits r → ReplicaFits (broken r)
broken-fits r h = row-fits r (replica_event.Other event.FileFault) h tt
