-- What a replica that a member writes makes of its packets, and of their acks.
use Rattle.std.proofs.Common.{◌≡◌, ℕ, ℤ, ◌<◌, Bool, true, false, List, ◌∷◌, slice_get, Option, Some, None, Ok, refl, ◌∙◌, ap, subst, arith}
use Rattle.std.specs.Prelude.{◌==◌, ◌&&◌, nat_lt, if◌then◌else◌}
use Rattle.std.specs.Ordering.{int_eq}
use Rattle.std.proofs.lemmas.Bool.Decides.{nat_tests, Decides-int_eq}
use Rattle.hd_base.specs.Results.{◌>>=◌}
use Rattle.hd_base.specs.SumRules.{Rule}
use Rattle.hd_base.specs.declared.numbers.ConnId.{ConnId}
use Rattle.hd_base.specs.declared.numbers.Stamp.{Stamp}
use Rattle.hd_base.specs.declared.states.ReplicaState.TheVariants as state
use Rattle.packet_codec.specs.declared.packets.Packet.{Packet}
use Rattle.replica_core.specs.declared.ack_queue.PendingPacket.{PendingPacket}
use Rattle.replica_core.specs.declared.events.Answer.TheVariants as answer
use Rattle.replica_core.specs.declared.events.Event.TheVariants as event
use Rattle.replica_core.specs.declared.extents.PacketExtent.{PacketExtent}
use Rattle.replica_core.specs.declared.info.ReplicaInfo.{ReplicaInfo}
use Rattle.replica_core.specs.declared.records.ReplicaRecord.{ReplicaRecord}
use Rattle.replica_core.specs.declared.refusals.Refusal.TheVariants as refusal
use Rattle.replica_core.specs.declared.streams.Stream.{Stream}
use Rattle.replica_core.specs.Refusals.{check}
use Rattle.replica_core.specs.Extents.{stream_after, heartbeat_of, pending_of}
use Rattle.replica_core.specs.Info.{state_of, state_under, is_writable, settled_at, reopen}
use Rattle.replica_core.specs.Transitions.{done, present, set_writer, with_writer, stream_by, enqueue, extend, extent_transition, packet_transition, acknowledge, oldest_of, transition}
use Rattle.replica_core.specs.Views.{rule_in, written_in}
use Rattle.replica_core.proofs.StepLemmas.{taken_step}
use Rattle.replica_model.specs.declared.events.ReplicaEvent.TheVariants as replica_event
use Rattle.replica_model.specs.Rows.{FullReplica, event_at, record_event}
use Rattle.play_completeness.specs.Streams.{as_pending, Reach, extent_of, IsNext, reach_under, reach_in}

present-ok : (c : ReplicaRecord) (h : ReplicaInfo) → c.is_broken ≡ false → c.info ≡ Some h → present c ≡ Ok h
present-ok c h whole is = rw (whole, is) refl

stream-ok : (o : Option Stream) (s : Stream) (conn : ConnId) → o ≡ Some s → s.conn.0 ≡ conn.0 → stream_by o conn ≡ Ok s
stream-ok o s conn is e = rw is (ap (λ (b : Bool). check b refusal.NotWriter (Ok s)) (same s.conn.0 conn.0 e))
  where
    same : (a b : ℕ) → a ≡ b → (a == b) ≡ true
    same a b q = grind (arith, nat_tests, q)

-- a replica that this connection writes
pub record IsWritten (c : ReplicaRecord) (conn : ConnId) : Type 0 where
  pub whole : c.is_broken ≡ false
  pub info : ReplicaInfo
  pub is : c.info ≡ Some info
  pub rbw : info.original ≡ state.Rbw
  pub free : info.recovery ≡ None
  pub stream : Stream
  pub written : c.stream ≡ Some stream
  pub by : stream.conn.0 ≡ conn.0

rbw-state : (h : ReplicaInfo) → h.original ≡ state.Rbw → h.recovery ≡ None → state_of h ≡ state.Rbw
rbw-state h rbw free = ap (λ (r : Option Stamp). state_under r h.original) free ∙ rbw

-- PACKETS

-- the stream once a packet was taken
abbrev pub stream_with : Stream → Packet → Stream
stream_with s p = record s { previous = Some p.seqno; is_over = p.last }

follows-ok : (rule : Rule) (s : Stream) (n : ℕ) (p : Packet) → IsNext rule (reach_under (Some s) n) p → stream_after s (extent_of rule p) ≡ Ok (stream_with s p)
unfolding stream_after
follows-ok rule s n p x = rw (x.number, x.before_last) refl

extent-ok : (c : ReplicaRecord) (h : ReplicaInfo) (s : Stream) (p : Packet) → IsNext h.sums (reach_under (Some s) h.written) p
    → extent_transition c h s (extent_of h.sums p) ≡ Ok (record { replica = extend c h (stream_with s p) (as_pending p); answer = answer.Done })
unfolding extent_transition
extent-ok c h s p x =
    let E : PacketExtent = extent_of h.sums p in
    ap (λ (b : Bool). if b then (heartbeat_of E >>= (λ e. done (enqueue c e))) else (stream_after s E >>= (λ t. pending_of h.sums E h.written >>= (λ e. done (extend c h t e))))) x.real
    ∙ (taken_step (stream_after s E) (λ t. pending_of h.sums E h.written >>= (λ e. done (extend c h t e))) (stream_with s p) (follows-ok h.sums s h.written p x)
    ∙ taken_step (pending_of h.sums E h.written) (λ e. done (extend c h (stream_with s p) e)) (as_pending p) x.taken)

packet-ok : (c : ReplicaRecord) (conn : ConnId) (w : IsWritten c conn) (p : Packet) → IsNext w.info.sums (reach_in c) p
    → packet_transition c conn (extent_of w.info.sums p) ≡ Ok (record { replica = extend c w.info (stream_with w.stream p) (as_pending p); answer = answer.Done })
packet-ok c conn w p x =
    let h : ReplicaInfo = w.info in
    let s : Stream = w.stream in
    let E : PacketExtent = extent_of h.sums p in
    let here : reach_in c ≡ reach_under (Some s) h.written = ap (λ (o : Option Stream). reach_under o (written_in c)) w.written ∙ ap (reach_under (Some s)) (long c h w.is) in
    taken_step (present c) (λ i. check (is_writable (state_of i)) refusal.NotWriter (stream_by c.stream conn >>= (λ t. extent_transition c i t E))) h (present-ok c h w.whole w.is)
    ∙ (ap (λ (b : Bool). check b refusal.NotWriter (stream_by c.stream conn >>= (λ t. extent_transition c h t E))) (ap is_writable (rbw-state h w.rbw w.free))
    ∙ (taken_step (stream_by c.stream conn) (λ t. extent_transition c h t E) s (stream-ok c.stream s conn w.written w.by)
    ∙ extent-ok c h s p (subst (λ (r : Reach). IsNext h.sums r p) here x)))
  where
    long : (c : ReplicaRecord) (h : ReplicaInfo) → c.info ≡ Some h → written_in c ≡ h.written
    long c h e = rw e refl

-- what a packet is to a replica with this rule
event-is : (r : FullReplica) (h : ReplicaInfo) (conn : ConnId) (p : Packet) → r.known.info ≡ Some h
    → transition r.known (event_at r (replica_event.Packet conn p)) ≡ packet_transition r.known conn (extent_of h.sums p)
unfolding transition
event-is r h conn p e = ap (λ (o : Option Rule). transition r.known (record_event o (replica_event.Packet conn p))) (rule-is r.known h e)
  where
    rule-is : (c : ReplicaRecord) (h : ReplicaInfo) → c.info ≡ Some h → rule_in c ≡ Some h.sums
    rule-is c h q = rw q refl

-- A packet that is the next one is taken, and is pending then.
pub packet-taken : (r : FullReplica) (conn : ConnId) (w : IsWritten r.known conn) (p : Packet) → IsNext w.info.sums (reach_in r.known) p
    → transition r.known (event_at r (replica_event.Packet conn p)) ≡ Ok (record { replica = extend r.known w.info (stream_with w.stream p) (as_pending p); answer = answer.Done })
packet-taken r conn w p x = event-is r w.info conn p w.is ∙ packet-ok r.known conn w p x

-- ACKS

same-number : (n : ℤ) → int_eq n n ≡ true
same-number n = (Decides-int_eq n n).1 refl

-- The good ack of the oldest pending packet is taken.
pub ack-taken : (c : ReplicaRecord) (conn : ConnId) (w : IsWritten c conn) (e : PendingPacket) (rest : List PendingPacket) → c.pending ≡ e ∷ rest
    → transition c (event.Ack conn e.seqno true) ≡ Ok (record { replica = acknowledge c w.info e true; answer = answer.Done })
unfolding transition
ack-taken c conn w e rest pending =
    let h : ReplicaInfo = w.info in
    taken_step (present c) (λ i. stream_by c.stream conn >>= (λ s. oldest_of (slice_get c.pending 0) e.seqno >>= (λ x. done (acknowledge c i x true)))) h (present-ok c h w.whole w.is)
    ∙ (taken_step (stream_by c.stream conn) (λ s. oldest_of (slice_get c.pending 0) e.seqno >>= (λ x. done (acknowledge c h x true))) w.stream (stream-ok c.stream w.stream conn w.written w.by)
    ∙ taken_step (oldest_of (slice_get c.pending 0) e.seqno) (λ x. done (acknowledge c h x true)) e oldest)
  where
    oldest : oldest_of (slice_get c.pending 0) e.seqno ≡ Ok e
    oldest = ap (λ (xs : List PendingPacket). oldest_of (slice_get xs 0) e.seqno) pending ∙ ap (λ (b : Bool). check b (refusal.Seqno (Some e.seqno) e.seqno) (Ok e)) (same-number e.seqno)

-- SETUPS

-- An absent replica takes a create.
pub create-taken : (c : ReplicaRecord) (conn : ConnId) (t : Stamp) (rule : Rule) → c.is_broken ≡ false → c.info ≡ None
    → transition c (event.Create conn t rule) ≡ Ok (record { replica = set_writer c (settled_at state.Rbw t rule 0) (Some conn); answer = answer.Done })
unfolding transition
create-taken c conn t rule whole none = rw (whole, none) refl

-- A FINALIZED replica takes an append under its stamp and with its length.
pub append-taken : (c : ReplicaRecord) (h : ReplicaInfo) (conn : ConnId) (named new : Stamp) (n : ℕ) → c.is_broken ≡ false → c.info ≡ Some h → h.original ≡ state.Finalized → h.recovery ≡ None → h.stamp ≡ named → named.0 < new.0 → h.written ≡ n
    → transition c (event.Append conn named new n) ≡ Ok (record { replica = set_writer c (settled_at state.Rbw new h.sums n) (Some conn); answer = answer.Done })
unfolding transition reopen
append-taken c h conn named new n whole is final free stamp above long =
    taken_step (present c) (λ i. with_writer c (Some conn) (reopen i named new n)) h (present-ok c h whole is)
    ∙ taken_step (reopen h named new n) (λ k. done (set_writer c k (Some conn))) (settled_at state.Rbw new h.sums n) reopened
  where
    same : (a b : ℕ) → a ≡ b → (a == b) ≡ true
    same a b q = grind (arith, nat_tests, q)

    less : (a b : ℕ) → a < b → nat_lt a b ≡ true
    less a b q = grind (arith, nat_tests, q)

    both : (a b : Bool) → a ≡ true → b ≡ true → (a && b) ≡ true
    both true b e f = f
    both false b e f = e

    reopened : reopen h named new n ≡ Ok (settled_at state.Rbw new h.sums n)
    reopened = rw (ap (λ (r : Option Stamp). state_under r h.original) free ∙ final, both (h.stamp.0 == named.0) (nat_lt named.0 new.0) (same h.stamp.0 named.0 (ap (λ (s : Stamp). s.0) stamp)) (less named.0 new.0 above), same h.written n long) refl
