-- What members take from above lowers what is to be delivered.
use Rattle.std.proofs.Common.{◌≡◌, ℕ, ℤ, ◌≤◌, ◌+◌, ◌*◌, Bool, true, false, [], Option, Some, None, IfSome, refl, sym, ap, ◌∙◌, subst, arith}
use Rattle.std.specs.Prelude.{sum_by, is_some, slice_get, length, ◌/◌, if◌then◌else◌}
use Rattle.packet_codec.specs.declared.packets.Packet.{Packet}
use Rattle.op_headers.specs.declared.ops.Op.{Op}
use Rattle.op_headers.specs.declared.ops.Op.TheVariants as op
use Rattle.replica_core.specs.declared.events.Event.TheVariants as event
use Rattle.replica_core.specs.declared.refusals.Refusal.TheVariants as refusal
use Rattle.replica_core.specs.Views.{rule_in}
use Rattle.replica_model.specs.declared.events.ReplicaEvent.{ReplicaEvent}
use Rattle.replica_model.specs.declared.events.ReplicaEvent.TheVariants as replica_event
use Rattle.replica_model.specs.Rows.{FullReplica, bad_under, row, row_answer, broken}
use Rattle.member_core.specs.declared.effects.Effect.{Effect}
use Rattle.member_core.specs.declared.effects.Shuts.TheVariants as shuts
use Rattle.member_core.specs.declared.turns.Side.TheVariants as side
use Rattle.member_core.specs.declared.turns.Booked.{Booked}
use Rattle.member_core.specs.declared.turns.Booked.TheVariants as booked
use Rattle.member_core.specs.Members.{MemberState, is_waiting, no_effect, cut_off, has_mirror, kept_bad, settled, down_turn}
use Rattle.member_core.specs.Steps.{Step, step, faulted_step, with_replica, booked_as}
use Rattle.member_core.specs.declared.inputs.FromAbove.TheVariants as above
use Rattle.world.specs.Parts.{Message, request, packet, ack, response, read_status, recovery_answer, FullMember, Break}
use Rattle.world.specs.Worlds.{World}
use Rattle.world.specs.Connections.{Next, message, the_end}
use Rattle.world.specs.Nodes.{node_of, above_of, replica_at, block_of, pending_at, takes_next, passed, sent_up, member_change, turn_change, member_down}
use Rattle.world_settling.specs.Traffic.{hops_of, hops, request_weight, up_weight, owed, member_weight, entries_by}
use Rattle.world_settling.proofs.Outer.{when-each}
use Rattle.world_settling.proofs.Rows.{other-calm, packet-most, packet-others}
use Rattle.world_settling.proofs.Taking.{down_paid}
use Rattle.world_settling.proofs.Clients.{Falls}
use Rattle.world_settling.proofs.Turns.{refused-cut}
use Rattle.world_settling.proofs.Members.{onward, Stands, member-frame}

-- WEIGHTS

pub hops-some : (o : Option Message) → 1 ≤ hops_of o
hops-some None = omega arith
hops-some (Some (request (op.Write f))) = omega arith
hops-some (Some (request (op.Read r))) = omega arith
hops-some (Some (request (op.Transfer r))) = omega arith
hops-some (Some (request (op.Checksum r))) = omega arith
hops-some (Some (request (op.Recovery r))) = omega arith
hops-some (Some (packet p)) = omega arith
hops-some (Some (ack a)) = omega arith
hops-some (Some (response r)) = omega arith
hops-some (Some (read_status s)) = omega arith
hops-some (Some (recovery_answer a)) = omega arith

asks-weigh : (o : Op) → 1 ≤ request_weight o
asks-weigh (op.Write f) = omega arith
asks-weigh (op.Read r) = omega arith
asks-weigh (op.Transfer r) = omega arith
asks-weigh (op.Checksum r) = omega arith
asks-weigh (op.Recovery r) = omega arith

pub down-pays : (w : World) (c : ℕ) (x : Next) → 1 ≤ down_paid (hops w c) x
down-pays w c (message (request o)) = asks-weigh o
down-pays w c (message (packet p)) = omega (arith, hops-some (slice_get (w.downs c) 0))
down-pays w c (message (ack a)) = omega arith
down-pays w c (message (response r)) = omega arith
down-pays w c (message (read_status s)) = omega arith
down-pays w c (message (recovery_answer a)) = omega arith
down-pays w c the_end = omega arith

-- a wrong sum that is kept
kept-weighs : (m : MemberState) (q : ℤ) → member_weight (record m { bad = kept_bad m.bad q }) ≤ member_weight m + 2
kept-weighs m q = at m.responds m.bad
  where
    at : (b : Bool) (o : Option ℤ) → (if b then 1 + owed (is_waiting m.mirror) + owed (is_some (kept_bad o q)) else 0) ≤ (if b then 1 + owed (is_waiting m.mirror) + owed (is_some o) else 0) + 2
    at true None = omega arith
    at true (Some z) = omega arith
    at false o = omega arith

-- A packet goes on to a mirror, which has fewer members below.
packet-on : (w : World) (c : ℕ) (o : Option ℕ) (b : Bool) (p : Packet) → IfSome o (λ d. hops w d + 1 ≤ hops w c) → onward w o (passed b (message (packet p))) + 6 ≤ 6 * hops w c
packet-on w c None b p h = omega (arith, hops-some (slice_get (w.downs c) 0))
packet-on w c (Some d) true p h = omega (arith, h)
packet-on w c (Some d) false p h = omega (arith, h)

-- PACKETS

-- a step after a packet: what it makes
record Receives (w : World) (c : ℕ) (m : FullMember) (p : Packet) (s : Step) : Type 0 where
  sends : s.effect.sends ≡ None
  on : onward w m.mirror (passed s.effect.forwards (message (packet p))) + member_weight s.member + 4 ≤ member_weight m.state + 6 * hops w c

receives : (w : World) (c : ℕ) (m : FullMember) (p : Packet) (r : FullReplica) (b : Booked) → IfSome m.mirror (λ d. hops w d + 1 ≤ hops w c)
    → Receives w c m p (with_replica r (settled m.state (down_turn m.state (above.Packet p)) b))
receives w c m p r booked.Taken h = record { sends = refl; on = omega (arith, packet-on w c m.mirror (has_mirror m.state.mirror) p h) }
receives w c m p r booked.Failed h = record { sends = refl; on = omega (arith, packet-on w c m.mirror false p h) }
receives w c m p r (booked.Refused (refusal.BadSum k)) h = record { sends = refl; on = omega (arith, packet-on w c m.mirror false p h, kept-weighs m.state p.seqno) }
receives w c m p r (booked.Refused refusal.NoReplica) h = record { sends = refl; on = omega (arith, packet-on w c m.mirror false p h) }
receives w c m p r (booked.Refused refusal.Exists) h = record { sends = refl; on = omega (arith, packet-on w c m.mirror false p h) }
receives w c m p r (booked.Refused (refusal.WrongState a)) h = record { sends = refl; on = omega (arith, packet-on w c m.mirror false p h) }
receives w c m p r (booked.Refused (refusal.Stale a b e)) h = record { sends = refl; on = omega (arith, packet-on w c m.mirror false p h) }
receives w c m p r (booked.Refused (refusal.LengthOut a b d e)) h = record { sends = refl; on = omega (arith, packet-on w c m.mirror false p h) }
receives w c m p r (booked.Refused refusal.NotWriter) h = record { sends = refl; on = omega (arith, packet-on w c m.mirror false p h) }
receives w c m p r (booked.Refused (refusal.Gap a b)) h = record { sends = refl; on = omega (arith, packet-on w c m.mirror false p h) }
receives w c m p r (booked.Refused (refusal.Piece a)) h = record { sends = refl; on = omega (arith, packet-on w c m.mirror false p h) }
receives w c m p r (booked.Refused refusal.Broken) h = record { sends = refl; on = omega (arith, packet-on w c m.mirror false p h) }
receives w c m p r (booked.Refused (refusal.RecoveryHeld a)) h = record { sends = refl; on = omega (arith, packet-on w c m.mirror false p h) }
receives w c m p r (booked.Refused (refusal.Seqno a b)) h = record { sends = refl; on = omega (arith, packet-on w c m.mirror false p h) }
receives w c m p r (booked.Refused (refusal.OutOfRange a)) h = record { sends = refl; on = omega (arith, packet-on w c m.mirror false p h) }

packet-falls : (w : World) (c : ℕ) (m : FullMember) (p : Packet) (s : Step) (b : Option Break) → Stands w c m → Receives w c m p s
    → entries_by c s.replica.known ≤ entries_by c (replica_at w c (block_of m.fields)).known + 3
    → ((i : ℕ) → (i ≡ c → ⊥) → entries_by i s.replica.known ≤ entries_by i (replica_at w c (block_of m.fields)).known)
    → Falls w (6 * hops w c) (member_change w c m (message (packet p)) s b)
packet-falls w c m p s b st k most others =
    let frame = member-frame w c m (message (packet p)) s b st others in
    let quiet = ap (λ o. sum_by up_weight (sent_up m.fields o)) k.sends in
    record { is = omega (arith, frame, quiet, k.on, most) }

packet-down : (w : World) (c : ℕ) (m : FullMember) (p : Packet) (fails : Bool) → Stands w c m → m.state.conn.0 ≡ c → IfSome m.mirror (λ d. hops w d + 1 ≤ hops w c)
    → IfSome (turn_change w c m (message (packet p)) (down_turn m.state (above.Packet p)) fails) (Falls w (6 * hops w c))
packet-down w c m p true st is h =
    let r : FullReplica = replica_at w c (block_of m.fields) in
    packet-falls w c m p (faulted_step m.state r (down_turn m.state (above.Packet p))) _ st (receives w c m p (broken r) booked.Failed h)
    (omega (arith, other-calm c r.known event.FileFault refl)) (λ i ne. other-calm i r.known event.FileFault refl)
packet-down w c m p false st is h =
    let r : FullReplica = replica_at w c (block_of m.fields) in
    let e : ReplicaEvent = replica_event.Packet m.state.conn p in
    packet-falls w c m p (step m.state r (down_turn m.state (above.Packet p))) _ st (receives w c m p (row r e) (booked_as (row_answer r e)) h)
    (packet-most c r.known m.state.conn p.seqno p.offset (length p.body) (length p.sums / 4) p.last p.sync (bad_under (rule_in r.known) p))
    (λ i ne. packet-others i r.known m.state.conn p.seqno p.offset (length p.body) (length p.sums / 4) p.last p.sync (bad_under (rule_in r.known) p) (λ q. ne (q ∙ is)))

-- OTHERS

-- a step of the receiving side that sends nothing
plain-falls : (w : World) (c : ℕ) (m : FullMember) (x : Next) (s : Step) (b : Option Break) (paid : ℕ) → Stands w c m → s.effect.sends ≡ None → s.effect.forwards ≡ false → member_weight s.member ≡ member_weight m.state
    → ((i : ℕ) → entries_by i s.replica.known ≤ entries_by i (replica_at w c (block_of m.fields)).known) → 1 ≤ paid → Falls w paid (member_change w c m x s b)
plain-falls w c m x s b paid st a f q calm p =
    let frame = member-frame w c m x s b st (λ i ne. calm i) in
    let quiet = ap (λ o. sum_by up_weight (sent_up m.fields o)) a in
    let on : onward w m.mirror (passed s.effect.forwards x) ≡ 0 = ap (λ (t : Bool). onward w m.mirror (passed t x)) f ∙ nothing m.mirror in
    record { is = omega (arith, frame, quiet, on, q, calm c, p) }
  where
    nothing : (o : Option ℕ) → onward w o [] ≡ 0
    nothing None = refl
    nothing (Some d) = refl

-- what can't be read is no book call
unreadable-down : (w : World) (c : ℕ) (m : FullMember) (x : Next) (fails : Bool) (paid : ℕ) → Stands w c m → 1 ≤ paid
    → IfSome (turn_change w c m x (down_turn m.state above.Unreadable) fails) (Falls w paid)
unreadable-down w c m x true paid st p = tt
unreadable-down w c m x false paid st p =
    plain-falls w c m x (step m.state (replica_at w c (block_of m.fields)) (down_turn m.state above.Unreadable)) _ paid st refl refl refl (λ i. omega arith) p

-- what follows the booking of the end
end-at : (w : World) (c : ℕ) (m : FullMember) (x : Next) (paid : ℕ) → Stands w c m → 1 ≤ paid → (b : Booked)
    → Falls w paid (member_change w c m x (with_replica (row (replica_at w c (block_of m.fields)) (replica_event.Other (event.Ended m.state.conn))) (settled m.state (down_turn m.state above.End) b))
    (w.breaks (node_of w c) (block_of m.fields)))
end-at w c m x paid st p booked.Taken =
    let r : FullReplica = replica_at w c (block_of m.fields) in
    let e : ReplicaEvent = replica_event.Other (event.Ended m.state.conn) in
    plain-falls w c m x (with_replica (row r e) (settled m.state (down_turn m.state above.End) booked.Taken)) (w.breaks (node_of w c) (block_of m.fields)) paid st refl refl refl
    (λ i. other-calm i r.known (event.Ended m.state.conn) refl) p
end-at w c m x paid st p booked.Failed =
    let r : FullReplica = replica_at w c (block_of m.fields) in
    let e : ReplicaEvent = replica_event.Other (event.Ended m.state.conn) in
    plain-falls w c m x (with_replica (row r e) (settled m.state (down_turn m.state above.End) booked.Failed)) (w.breaks (node_of w c) (block_of m.fields)) paid st refl refl refl
    (λ i. other-calm i r.known (event.Ended m.state.conn) refl) p
end-at w c m x paid st p (booked.Refused y) =
    let r : FullReplica = replica_at w c (block_of m.fields) in
    let e : ReplicaEvent = replica_event.Other (event.Ended m.state.conn) in
    let cut : Falls w paid (member_change w c m x (with_replica (row r e) (cut_off m.state (down_turn m.state above.End))) (w.breaks (node_of w c) (block_of m.fields))) =
    plain-falls w c m x (with_replica (row r e) (cut_off m.state (down_turn m.state above.End))) (w.breaks (node_of w c) (block_of m.fields)) paid st refl refl refl
    (λ i. other-calm i r.known (event.Ended m.state.conn) refl) p in
    let same = refused-cut m.state side.Receiver (event.Ended m.state.conn) m.state.mirror (record no_effect { shuts = shuts.Mirror }) y in
    subst (λ (z : MemberState × Effect). Falls w paid (member_change w c m x (with_replica (row r e) z) (w.breaks (node_of w c) (block_of m.fields)))) (sym same) cut

end-down : (w : World) (c : ℕ) (m : FullMember) (x : Next) (fails : Bool) (paid : ℕ) → Stands w c m → 1 ≤ paid
    → IfSome (turn_change w c m x (down_turn m.state above.End) fails) (Falls w paid)
end-down w c m x true paid st p =
    let r : FullReplica = replica_at w c (block_of m.fields) in
    plain-falls w c m x (faulted_step m.state r (down_turn m.state above.End)) _ paid st refl refl refl (λ i. other-calm i r.known event.FileFault refl) p
end-down w c m x false paid st p = end-at w c m x paid st p (booked_as (row_answer (replica_at w c (block_of m.fields)) (replica_event.Other (event.Ended m.state.conn))))

take-down : (w : World) (c : ℕ) (m : FullMember) (x : Next) (fails : Bool) → Stands w c m → m.state.conn.0 ≡ c → IfSome m.mirror (λ d. hops w d + 1 ≤ hops w c)
    → IfSome (turn_change w c m x (down_turn m.state (above_of x)) fails) (Falls w (down_paid (hops w c) x))
take-down w c m (message (packet p)) fails st is h = packet-down w c m p fails st is h
take-down w c m (message (request o)) fails st is h = unreadable-down w c m (message (request o)) fails (request_weight o) st (asks-weigh o)
take-down w c m (message (ack a)) fails st is h = unreadable-down w c m (message (ack a)) fails 1 st (omega arith)
take-down w c m (message (response a)) fails st is h = unreadable-down w c m (message (response a)) fails 1 st (omega arith)
take-down w c m (message (read_status a)) fails st is h = unreadable-down w c m (message (read_status a)) fails 1 st (omega arith)
take-down w c m (message (recovery_answer a)) fails st is h = unreadable-down w c m (message (recovery_answer a)) fails 1 st (omega arith)
take-down w c m the_end fails st is h = end-down w c m the_end fails 1 st (omega arith)

pub member-down-falls : (w : World) (c : ℕ) (m : FullMember) (x : Next) (fails : Bool) → Stands w c m → m.state.conn.0 ≡ c → IfSome m.mirror (λ d. hops w d + 1 ≤ hops w c)
    → IfSome (member_down w c m x fails) (Falls w (down_paid (hops w c) x))
member-down-falls w c m x fails st is h = when-each (Falls w (down_paid (hops w c) x)) (takes_next m.state (pending_at w c m) x) _ (λ e. take-down w c m x fails st is h)
