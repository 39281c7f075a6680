-- What the lower ends of connections do, and members with their mirrors, keeps the peace.
use Rattle.std.proofs.Common.{◌≡◌, ℕ, ℤ, Bool, true, false, List, [], ◌∷◌, Option, Some, None, IfSome, Result, Ok, Err, refl, sym}
use Rattle.std.specs.Prelude.{◌==◌}
use Rattle.std.specs.Result.{IfOk}
use Rattle.std.proofs.lemmas.Bool.{false≢true}
use Rattle.op_headers.specs.declared.ops.Op.{Op}
use Rattle.op_headers.specs.declared.ops.Op.TheVariants as op
use Rattle.op_headers.specs.Values.{WriteFields}
use Rattle.node_refs.specs.NodeRefs.{ref_of}
use Rattle.packet_codec.specs.declared.packets.Packet.{Packet}
use Rattle.read_core.specs.Servings.{ServingState, accepting, refusing, read_at, piece_at, next_call}
use Rattle.request_refusals.specs.declared.refusals.RequestRefusal.{RequestRefusal}
use Rattle.replica_core.specs.declared.ack_queue.PendingPacket.{PendingPacket}
use Rattle.replica_core.specs.declared.events.Event.{Event}
use Rattle.replica_core.specs.declared.events.Event.TheVariants as core
use Rattle.replica_core.specs.Transitions.{is_written_by}
use Rattle.replica_core.specs.Views.{rule_in}
use Rattle.replica_model.specs.declared.events.ReplicaEvent.{ReplicaEvent}
use Rattle.replica_model.specs.declared.events.ReplicaEvent.TheVariants as replica_event
use Rattle.replica_model.specs.Rows.{FullReplica, row, row_answer}
use Rattle.ack_codec.specs.declared.responses.Response.{Response}
use Rattle.hd_base.specs.declared.states.Status.{Status}
use Rattle.member_core.specs.declared.effects.Upward.{Upward}
use Rattle.member_core.specs.declared.effects.Upward.TheVariants as upward
use Rattle.member_core.specs.declared.inputs.FromAbove.{FromAbove}
use Rattle.member_core.specs.declared.inputs.FromAbove.TheVariants as above
use Rattle.member_core.specs.declared.inputs.FromBelow.{FromBelow}
use Rattle.member_core.specs.declared.inputs.FromBelow.TheVariants as below
use Rattle.member_core.specs.declared.member.Mirror.{Mirror}
use Rattle.member_core.specs.declared.member.Mirror.TheVariants as mirror
use Rattle.member_core.specs.declared.turns.Turn.{Turn}
use Rattle.member_core.specs.Acks.{is_success, is_read, failures, begins_with_bad_sum, with_own}
use Rattle.member_core.specs.Members.{MemberState, down_turn, up_at, up_turn, accept_turn, fail_turn, named_bad, answered_turn, good_turn, give_up_turn, spoiled_turn, partial_turn, ack_turn, pass_turn, failed_turn, ready_turn, ready_at, quiet_turn, idle_turn, patient_turn, hears}
use Rattle.member_core.specs.Requests.{mirror_request, request_event}
use Rattle.member_core.specs.Steps.{Step, Setup, step, replica_after, oldest_at, refused_by, booked_request, request_at, ready_turn_at}
use Rattle.world.specs.Parts.{Message, request, packet, ack, response, read_status, recovery_answer, FullMember, Lower, idle, writes, serves, recovers, ended_below}
use Rattle.world.specs.Worlds.{World}
use Rattle.world.specs.Connections.{Next, message, the_end, is_alive}
use Rattle.world.specs.Nodes.{node_of, replica_at, closing, above_of, below_of, sent_up, passed, block_of, member_change, turn_change, pending_at, takes_next, member_down, member_up, ready_change, member_ready, mirror_node, is_asked, mirror_dial, dials_of, member_dials, lower_of, setup_change, write_request, read_change, piece_as, serve_change, first_message, lower_down, lower_ready, mirror_up}
use Rattle.world_laws.proofs.FactTables.{if-each, when-each}
use Rattle.world_laws.proofs.ByteFrame.{Each, each-nil, each-one}
use Rattle.play_completeness.specs.Plain.{is_of_recovery, Peaceful}
use Rattle.play_completeness.proofs.OwnReplicas.{Calm, IsPipedCall, row-calm, IsPiped, request-piped}
use Rattle.play_completeness.proofs.RowRules.{IsMemberEvent, IsMemberCall}
use Rattle.play_completeness.proofs.PeaceFrame.{IsGood, IsGoodDial, Brings, calm-at, each-sent}

-- MESSAGES

-- what stands next is no message that asks for a part of a recovery
abbrev pub NextIsGood : Next → Type 0
NextIsGood (message m) = IsGood m
NextIsGood the_end = Unit {0}

each-passed : (forwards : Bool) (x : Next) → NextIsGood x → Each IsGood (passed forwards x)
each-passed true (message m) h = each-one IsGood m h
each-passed true the_end h = each-nil IsGood
each-passed false (message m) h = each-nil IsGood
each-passed false the_end h = each-nil IsGood

each-up : (fields : WriteFields) (o : Option Upward) → Each IsGood (sent_up fields o)
each-up fields None = each-nil IsGood
each-up fields (Some (upward.Answer a)) = each-one IsGood _ refl
each-up fields (Some (upward.Ack a)) = each-one IsGood _ refl

-- CALLS

abbrev Piped : Option ReplicaEvent → Type 0
Piped o = IfSome o IsMemberCall

pub down-piped : (m : MemberState) (x : FromAbove) → Piped (down_turn m x).call
down-piped m (above.Packet p) = tt
down-piped m above.Unreadable = tt
down-piped m above.End = tt

answered-piped : (m : MemberState) (r : Response) → Piped (answered_turn m r).call
answered-piped m r = if-each (λ (t : Turn). Piped t.call) (is_success r.status) (accept_turn m) (fail_turn m (named_bad r.first_bad)) (λ _. tt) (λ _. tt)

failed-piped : (m : MemberState) (e : PendingPacket) (replies : List Status) → Piped (failed_turn m e replies).call
failed-piped m e replies =
    if-each (λ (t : Turn). Piped t.call) (begins_with_bad_sum replies) (spoiled_turn m) (partial_turn m e (with_own replies)) (λ _. tt) (λ _. tt)

pass-piped : (m : MemberState) (e : PendingPacket) (replies : List Status) → Piped (pass_turn m e replies).call
pass-piped m e replies =
    if-each (λ (t : Turn). Piped t.call) (failures replies == 0) (good_turn m e (with_own replies)) (failed_turn m e replies) (λ _. tt) (λ _. failed-piped m e replies)

ack-piped : (m : MemberState) (e : PendingPacket) (x : FromBelow) → Piped (ack_turn m e x).call
ack-piped m e (below.Ack a) =
    if-each (λ (t : Turn). Piped t.call) (is_read m.below e.seqno a) (pass_turn m e a.replies) (give_up_turn m e) (λ _. pass-piped m e a.replies) (λ _. tt)
ack-piped m e (below.Response r) = tt
ack-piped m e below.Unreadable = tt
ack-piped m e below.End = tt

up-at-piped : (z : Mirror) (m : MemberState) (o : Option PendingPacket) (x : FromBelow) → Piped (up_at z m o x).call
up-at-piped mirror.Asked m o (below.Response r) = answered-piped m r
up-at-piped mirror.Asked m o (below.Ack a) = tt
up-at-piped mirror.Asked m o below.Unreadable = tt
up-at-piped mirror.Asked m o below.End = tt
up-at-piped mirror.Open m None x = tt
up-at-piped mirror.Open m (Some p) x = ack-piped m p x
up-at-piped mirror.Nobody m o x = tt
up-at-piped mirror.Unreachable m o x = tt
up-at-piped mirror.Ended m o x = tt

pub up-piped : (m : MemberState) (o : Option PendingPacket) (x : FromBelow) → Piped (up_turn m o x).call
up-piped m o x = up-at-piped m.mirror m o x

abbrev PipedTurn : Option Turn → Type 0
PipedTurn o = IfSome o (λ t. Piped t.call)

idle-piped : (m : MemberState) (by : Bool) → PipedTurn (idle_turn m by)
idle-piped m true = tt
idle-piped m false = tt

quiet-piped : (m : MemberState) (o : Option ℤ) (by : Bool) → PipedTurn (quiet_turn m o by)
quiet-piped m (Some q) by = tt
quiet-piped m None by = idle-piped m by

patient-piped : (m : MemberState) (o : Option ℤ) → PipedTurn (patient_turn m o)
patient-piped m (Some q) = tt
patient-piped m None = tt

ready-at-piped : (x : Mirror) (m : MemberState) (o : Option PendingPacket) (by : Bool) → PipedTurn (ready_at x m o by)
ready-at-piped mirror.Asked m o by = tt
ready-at-piped mirror.Unreachable m o by = tt
ready-at-piped mirror.Nobody m (Some e) by = tt
ready-at-piped mirror.Nobody m None by = quiet-piped m m.bad by
ready-at-piped mirror.Open m (Some e) by = tt
ready-at-piped mirror.Open m None by = patient-piped m m.bad
ready-at-piped mirror.Ended m (Some e) by = tt
ready-at-piped mirror.Ended m None by = quiet-piped m m.bad by

pub ready-piped : (m : MemberState) (o : Option PendingPacket) (by : Bool) → PipedTurn (ready_turn m o by)
ready-piped m o by = when-each (λ (t : Turn). Piped t.call) m.responds _ (λ _. ready-at-piped m.mirror m o by)

-- what a member books is of a pipeline
event-piped : (e : Event) → IsMemberEvent e → IsPiped e
event-piped (core.Packet conn seqno offset n sums last sync bad) h = tt
event-piped (core.Ack conn seqno good) h = tt
event-piped (core.Ended conn) h = tt
event-piped (core.Create conn t r) h = absurd h
event-piped (core.Temporary conn t r) h = absurd h
event-piped (core.Append conn named new n) h = absurd h
event-piped (core.AppendRecovery conn named new n) h = absurd h
event-piped (core.StreamRecovery conn named new low high) h = absurd h
event-piped (core.CloseRecovery named new n) h = absurd h
event-piped (core.Init named id) h = absurd h
event-piped (core.Update id n) h = absurd h
event-piped (core.Read named offset n) h = absurd h
event-piped (core.Give named offset n) h = absurd h
event-piped core.FileFault h = absurd h

member-piped : (e : ReplicaEvent) → IsMemberCall e → IsPipedCall e
member-piped (replica_event.Packet conn p) h = tt
member-piped (replica_event.Other e) h = event-piped e h

-- MEMBERS

after-calm : (r : FullReplica) (o : Option ReplicaEvent) → Piped o → Calm r.known → Calm (replica_after r o).known
after-calm r None p h = h
after-calm r (Some e) p h = row-calm r e (member-piped e p) h

module _ (w : World) (h : Peaceful w) (c : ℕ) where
  member-brings : (m : FullMember) (x : Next) (s : Step) → NextIsGood x → Calm s.replica.known → Brings (member_change w c m x s (w.breaks (node_of w c) (block_of m.fields)))
  member-brings m x s good calm = record {
    primary = h.primaries 0;
    replica = calm;
    broke = h.whole (node_of w c) (block_of m.fields);
    lower = refl;
    downs = each-sent m.mirror (passed s.effect.forwards x) (each-passed s.effect.forwards x good);
    ups = each-sent (Some c) (sent_up m.fields s.effect.sends) (each-up m.fields s.effect.sends);
    dials = each-nil IsGoodDial;
    leases = h.leases;
  }

  turn-brings : (m : FullMember) (x : Next) (t : Turn) → NextIsGood x → Piped t.call → IfSome (turn_change w c m x t false) Brings
  turn-brings m x t good p =
      let r = replica_at w c (block_of m.fields) in
      member-brings m x (step m.state r t) good (after-calm r t.call p (calm-at w (node_of w c) (block_of m.fields) h))

  down-brings : (m : FullMember) (x : Next) → NextIsGood x → IfSome (member_down w c m x false) Brings
  down-brings m x good = when-each Brings (takes_next m.state (pending_at w c m) x) _ (λ _. turn-brings m x (down_turn m.state (above_of x)) good (down-piped m.state (above_of x)))

  up-brings : (m : FullMember) (x : Next) → NextIsGood x → IfSome (member_up w c m x false) Brings
  up-brings m x good =
      let o = oldest_at (replica_at w c (block_of m.fields)) in
      when-each Brings (hears m.state) _ (λ _. turn-brings m x (up_turn m.state o (below_of x)) good (up-piped m.state o (below_of x)))

  ready-as-brings : (m : FullMember) (o : Option Turn) → PipedTurn o → IfSome (ready_change w c m o false) Brings
  ready-as-brings m None p = tt
  ready-as-brings m (Some t) p = turn-brings m the_end t tt p

  ready-brings : (m : FullMember) → IfSome (member_ready w c m false) Brings
  ready-brings m =
      let r = replica_at w c (block_of m.fields) in
      ready-as-brings m (ready_turn_at m.state r) (ready-piped m.state (oldest_at r) (is_written_by r.known.stream m.state.conn))

  -- REQUESTS

  asked-dial : (q : Option WriteFields) (n : Option ℕ) → Each IsGoodDial (mirror_dial w c q n)
  asked-dial None n = each-nil IsGoodDial
  asked-dial (Some q) None = each-nil IsGoodDial
  asked-dial (Some q) (Some n) = each-one IsGoodDial _ (refl, refl, h.lives n)

  mirror-dials : (x : Mirror) (f : WriteFields) → Each IsGoodDial (dials_of x w c f)
  mirror-dials mirror.Asked f = asked-dial (mirror_request (ref_of (record { 0 = node_of w c })) f) (mirror_node f.targets)
  mirror-dials mirror.Nobody f = each-nil IsGoodDial
  mirror-dials mirror.Unreachable f = each-nil IsGoodDial
  mirror-dials mirror.Open f = each-nil IsGoodDial
  mirror-dials mirror.Ended f = each-nil IsGoodDial

  member-dials : (o : Option MemberState) (f : WriteFields) → Each IsGoodDial (member_dials o w c f)
  member-dials None f = each-nil IsGoodDial
  member-dials (Some m) f = mirror-dials m.mirror f

  lower-of-write : (o : Option MemberState) (f : WriteFields) (next : ℕ) → is_of_recovery (lower_of o f next) ≡ false
  lower-of-write None f next = refl
  lower-of-write (Some m) f next = refl

  setup-brings : (f : WriteFields) (s : Setup) → Calm s.replica.known → Brings (setup_change w c f s (w.breaks (node_of w c) (block_of f)))
  setup-brings f s calm = record {
    primary = h.primaries 0;
    replica = calm;
    broke = h.whole (node_of w c) (block_of f);
    lower = lower-of-write s.member f w.next_conn;
    downs = λ d. each-nil IsGood;
    ups = each-sent (Some c) (sent_up f s.effect.sends) (each-up f s.effect.sends);
    dials = member-dials s.member f;
    leases = h.leases;
  }

  booked-calm : (f : WriteFields) (asked : Bool) (r : FullReplica) (o : Option RequestRefusal) → Calm r.known → Calm (booked_request (record { 0 = c }) f asked r o).replica.known
  booked-calm f asked r None calm = calm
  booked-calm f asked r (Some e) calm = calm

  request-calm : (f : WriteFields) (asked : Bool) (r : FullReplica) (e : Result Event RequestRefusal) → IfOk e IsPiped → Calm r.known → Calm (request_at (record { 0 = c }) f asked r e).replica.known
  request-calm f asked r (Err q) p calm = calm
  request-calm f asked r (Ok e) p calm =
      booked-calm f asked (row r (replica_event.Other e)) (refused_by (row_answer r (replica_event.Other e))) (row-calm r (replica_event.Other e) p calm)

  write-brings : (f : WriteFields) (answered : Bool) → IfSome (write_request w c f answered false) Brings
  write-brings f answered =
      let r = replica_at w c (block_of f) in
      let e = request_event (record { 0 = c }) f (rule_in r.known) in
      setup-brings f (request_at (record { 0 = c }) f (is_asked w c f answered) r e)
      (request-calm f (is_asked w c f answered) r e (request-piped (record { 0 = c }) f (rule_in r.known)) (calm-at w (node_of w c) (block_of f) h))

  closing-brings : Brings (closing w c)
  closing-brings = record {
    primary = h.primaries 0;
    replica = calm-at w 0 0 h;
    broke = h.whole 0 0;
    lower = refl;
    downs = λ d. each-nil IsGood;
    ups = λ d. each-nil IsGood;
    dials = each-nil IsGoodDial;
    leases = h.leases;
  }

  -- READS

  read-brings : (b : ℕ) (served : Result ServingState RequestRefusal) → Brings (read_change w c b served)
  read-brings b (Ok s) = record {
    primary = h.primaries 0;
    replica = calm-at w 0 0 h;
    broke = h.whole 0 0;
    lower = refl;
    downs = λ d. each-nil IsGood;
    ups = each-sent (Some c) (response (accepting s) ∷ []) (each-one IsGood _ refl);
    dials = each-nil IsGoodDial;
    leases = h.leases;
  }
  read-brings b (Err r) = record {
    primary = h.primaries 0;
    replica = calm-at w 0 0 h;
    broke = h.whole 0 0;
    lower = refl;
    downs = λ d. each-nil IsGood;
    ups = each-sent (Some c) (response (refusing r) ∷ []) (each-one IsGood _ refl);
    dials = each-nil IsGoodDial;
    leases = h.leases;
  }

  piece-brings : (b : ℕ) (s : ServingState) (o : Option Packet) → Brings (piece_as w c b s o)
  piece-brings b s None = closing-brings
  piece-brings b s (Some p) = record {
    primary = h.primaries 0;
    replica = calm-at w 0 0 h;
    broke = h.whole 0 0;
    lower = refl;
    downs = λ d. each-nil IsGood;
    ups = each-sent (Some c) (packet p ∷ []) (each-one IsGood _ refl);
    dials = each-nil IsGoodDial;
    leases = h.leases;
  }

  serve-brings : (b : ℕ) (s : ServingState) (o : Option Event) → IfSome (serve_change w c b s o false) Brings
  serve-brings b s None = tt
  serve-brings b s (Some e) = piece-brings b (piece_at s (replica_at w c b)).serving (piece_at s (replica_at w c b)).packet

  -- LOWER ENDS

  op-brings : (o : Op) (answered : Bool) → IsGood (request o) → IfSome (first_message w c (request o) answered false) Brings
  op-brings (op.Write f) answered good = write-brings f answered
  op-brings (op.Read r) answered good = read-brings r.block.block.0 (read_at r (replica_at w c r.block.block.0))
  op-brings (op.Recovery r) answered good = absurd (false≢true (sym good))
  op-brings (op.Transfer r) answered good = closing-brings
  op-brings (op.Checksum r) answered good = closing-brings

  first-brings : (m : Message) (answered : Bool) → IsGood m → IfSome (first_message w c m answered false) Brings
  first-brings (request o) answered good = op-brings o answered good
  first-brings (packet p) answered good = closing-brings
  first-brings (ack a) answered good = closing-brings
  first-brings (response r) answered good = closing-brings
  first-brings (read_status s) answered good = closing-brings
  first-brings (recovery_answer a) answered good = closing-brings

  pub lower-down-brings : (l : Lower) (x : Next) (answered : Bool) → is_of_recovery l ≡ false → NextIsGood x → IfSome (lower_down l w c x answered false) Brings
  lower-down-brings idle (message m) answered e good = first-brings m answered good
  lower-down-brings idle the_end answered e good = closing-brings
  lower-down-brings (writes m) x answered e good = down-brings m x good
  lower-down-brings (serves b s) x answered e good = closing-brings
  lower-down-brings recovers x answered e good = absurd (false≢true (sym e))
  lower-down-brings ended_below x answered e good = tt

  pub lower-ready-brings : (l : Lower) → is_of_recovery l ≡ false → IfSome (lower_ready l w c false) Brings
  lower-ready-brings idle e = tt
  lower-ready-brings (writes m) e = ready-brings m
  lower-ready-brings (serves b s) e = serve-brings b s (next_call s)
  lower-ready-brings recovers e = tt
  lower-ready-brings ended_below e = tt

  pub mirror-up-brings : (l : Lower) (x : Next) → NextIsGood x → IfSome (mirror_up l w c x false) Brings
  mirror-up-brings idle x good = tt
  mirror-up-brings (writes m) x good = when-each Brings (is_alive w (w.dialled c).to) _ (λ _. up-brings m x good)
  mirror-up-brings (serves b s) x good = tt
  mirror-up-brings recovers x good = tt
  mirror-up-brings ended_below x good = tt
