-- The events of the nodes keep the office, the writers, and what they have answered.
use Rattle.std.proofs.Common.{◌≡◌, ◌∷◌, ◌++◌, ℕ, Bool, true, false, List, [], Option, Some, None, IfSome, Result, Ok, Err, refl, sym, ap, ◌∙◌, subst}
use Rattle.std.specs.Prelude.{◌==◌, nat_lt}
use Rattle.std.proofs.lemmas.List.{append-nil}
use Rattle.hd_base.specs.declared.numbers.ConnId.{ConnId}
use Rattle.packet_codec.specs.declared.packets.Packet.{Packet}
use Rattle.op_headers.specs.declared.ops.Op.TheVariants as op
use Rattle.op_headers.specs.declared.ops.ReadOp.{ReadOp}
use Rattle.op_headers.specs.declared.ops.RecoveryOp.{RecoveryOp}
use Rattle.op_headers.specs.Values.{WriteFields}
use Rattle.replica_core.specs.declared.events.Event.{Event}
use Rattle.replica_core.specs.Views.{rule_in}
use Rattle.member_events.specs.ReplicaModel.ReplicaEvent.{ReplicaEvent}
use Rattle.member_events.specs.ReplicaModel.ReplicaEvent.TheVariants as replica_event
use Rattle.member_events.specs.ReplicaModel.Rows.{FullReplica}
use Rattle.member_events.specs.RequestRefusals.RequestRefusal.{RequestRefusal}
use Rattle.member_events.specs.MemberCore.Turn.{Turn}
use Rattle.member_events.specs.MemberCore.Members.{down_turn, up_turn, hears}
use Rattle.member_events.specs.MemberCore.Requests.{request_event}
use Rattle.member_events.specs.MemberCore.Steps.{Step, Setup, step, faulted_step, oldest_at, ready_turn_at, request_step, faulted_request}
use Rattle.play_model.specs.ReadCore.Servings.{ServingState, refusing, faulted_read, faulted_piece, next_call, piece_at, read_at, read_event}
use Rattle.play_model.specs.RecoveryCore.RecoveryReply.{RecoveryReply}
use Rattle.play_model.specs.RecoveryCore.Members.{Served, recovery_event, serve, serve_faulted}
use Rattle.play_model.specs.World.Delivery.TheVariants as delivery
use Rattle.play_model.specs.World.Event as happening
use Rattle.play_model.specs.World.Event.TheVariants as event
use Rattle.play_model.specs.World.Parts.{Message, request, packet, ack, response, read_status, recovery_answer, Upper, by_writer, by_member, FullMember, Lower, idle, writes, serves, recovers, ended_below, Break, Said}
use Rattle.play_model.specs.World.Worlds.{World, Change, add, apply}
use Rattle.play_model.specs.World.Connections.{Next, message, the_end, next_down, next_up, down_taken, up_taken, is_served, is_alive}
use Rattle.play_model.specs.World.Nodes.{replica_at, node_of, block_of, broke_at, is_asked, below_of, closing, unless_failing, above_of, member_change, failing_turn, turn_change, takes_next, pending_at, member_down, member_up, ready_change, setup_change, failing_write, write_request, breaking, read_change, failing_read, read_request, piece_as, serve_change, recovery_change, failing_recovery, recovery_request, first_message, next_recovery, lower_down, lower_ready, mirror_up}
use Rattle.play_model.specs.World.Events.{changed, outcome, after_event, happens, upper_up, up_as, down_as}
use Rattle.play_model.proofs.WorldLaws.FactTables.{if-each, when-each}
use Rattle.member_events.specs.WorldNets.Nets.{is_over}
use Rattle.member_events.proofs.WorldNets.StepLemmas.{changed-over, taken-over}
use Rattle.play_nodes.specs.Elsewhere.{IsOfLowerEnd}
use Rattle.play_nodes.specs.Frames.{KeepsWriters}
use Rattle.play_nodes.proofs.NodeFrames.{IsApart}
use Rattle.play_nodes.proofs.WriterFrames.{put_same}

-- CHANGES

-- A change leaves the office and the writers as they are, and answers nothing.
record IsOfNode (w : World) (k : Change) : Type 0 where
  office : k.office ≡ w.office
  writer : k.writer ≡ w.writers k.writer_at
  said : k.said ≡ []

added_none : (f : ℕ → List Said) (n : ℕ) (xs : List Said) (j : ℕ) → xs ≡ [] → add f n xs j ≡ f j
added_none f n xs j none = if-each (λ (ys : List Said). ys ≡ f j) (j == n) (f j ++ xs) (f j) (λ e. ap (λ (ys : List Said). f j ++ ys) none ∙ append-nil (f j)) (λ _. refl)

-- The writers stay, but for whether the end was taken from above on this connection, if it is one.
record StepKeeps (w v : World) (c : Option ℕ) : Type 0 where
  office : v.office ≡ w.office
  writers : (b : ℕ) → v.writers b ≡ w.writers b
  said : (b : ℕ) → v.said b ≡ w.said b
  over : (d : ℕ) → IsApart c d → is_over v d false ≡ is_over w d false

still_kept : (w : World) (c : Option ℕ) → StepKeeps w w c
still_kept w c = record { office = refl; writers = λ b. refl; said = λ b. refl; over = λ d apart. refl }

named : (w v : World) (c : Option ℕ) (e : happening.Event) → StepKeeps w v c → StepKeeps w (record v { last = Some e }) c
named w v c e h = record { office = h.office; writers = h.writers; said = h.said; over = h.over }

change_kept : (w : World) (k : Change) → IsOfNode w k → StepKeeps w (apply w k) None
unfolding apply
change_kept w k h = record {
  office = h.office;
  writers = λ b. put_same w.writers k.writer_at k.writer b h.writer;
  said = λ b. added_none w.said k.writer_at k.said b h.said;
  over = λ d apart. changed-over w k d false;
}

kept_then : (w u v : World) (c : Option ℕ) → StepKeeps w u c → StepKeeps u v None → StepKeeps w v c
kept_then w u v c h k = record {
  office = k.office ∙ h.office;
  writers = λ b. k.writers b ∙ h.writers b;
  said = λ b. k.said b ∙ h.said b;
  over = λ d apart. k.over d tt ∙ h.over d apart;
}

-- WHAT THE LOWER ENDS CHANGE

module _ (w : World) where
  abbrev IfOfNode : Option Change → Type 0
  IfOfNode o = IfSome o (IsOfNode w)

  closing_of : (c : ℕ) → IsOfNode w (closing w c)
  closing_of c = record { office = refl; writer = refl; said = refl }

  unless_of : (c : ℕ) (fails : Bool) → IfOfNode (unless_failing fails (closing w c))
  unless_of c true = tt
  unless_of c false = closing_of c

  -- MEMBERS

  member_of : (c : ℕ) (m : FullMember) (x : Next) (s : Step) (b : Option Break) → IsOfNode w (member_change w c m x s b)
  member_of c m x s b = record { office = refl; writer = refl; said = refl }

  failing_of : (c : ℕ) (m : FullMember) (x : Next) (t : Turn) (o : Option ReplicaEvent) → IfOfNode (failing_turn w c m x t o)
  failing_of c m x t None = tt
  failing_of c m x t (Some e) = member_of c m x (faulted_step m.state (replica_at w c (block_of m.fields)) t) (broke_at w c (block_of m.fields) e)

  turn_of : (c : ℕ) (m : FullMember) (x : Next) (t : Turn) (fails : Bool) → IfOfNode (turn_change w c m x t fails)
  turn_of c m x t true = failing_of c m x t t.call
  turn_of c m x t false = member_of c m x (step m.state (replica_at w c (block_of m.fields)) t) (w.breaks (node_of w c) (block_of m.fields))

  member_down_of : (c : ℕ) (m : FullMember) (x : Next) (fails : Bool) → IfOfNode (member_down w c m x fails)
  member_down_of c m x fails = when-each (IsOfNode w) (takes_next m.state (pending_at w c m) x) _ (λ _. turn_of c m x (down_turn m.state (above_of x)) fails)

  member_up_of : (c : ℕ) (m : FullMember) (x : Next) (fails : Bool) → IfOfNode (member_up w c m x fails)
  member_up_of c m x fails = when-each (IsOfNode w) (hears m.state) _ (λ _. turn_of c m x (up_turn m.state (oldest_at (replica_at w c (block_of m.fields))) (below_of x)) fails)

  ready_of : (c : ℕ) (m : FullMember) (o : Option Turn) (fails : Bool) → IfOfNode (ready_change w c m o fails)
  ready_of c m None fails = tt
  ready_of c m (Some t) fails = turn_of c m the_end t fails

  -- WRITE REQUESTS

  setup_of : (c : ℕ) (f : WriteFields) (s : Setup) (b : Option Break) → IsOfNode w (setup_change w c f s b)
  setup_of c f s b = record { office = refl; writer = refl; said = refl }

  failing_write_of : (c : ℕ) (f : WriteFields) (e : Result Event RequestRefusal) → IfOfNode (failing_write w c f e)
  failing_write_of c f (Err e) = tt
  failing_write_of c f (Ok e) = setup_of c f (faulted_request (replica_at w c (block_of f))) (broke_at w c (block_of f) (replica_event.Other e))

  write_of : (c : ℕ) (f : WriteFields) (answered fails : Bool) → IfOfNode (write_request w c f answered fails)
  write_of c f answered true = failing_write_of c f (request_event (record { 0 = c }) f (rule_in (replica_at w c (block_of f)).known))
  write_of c f answered false =
      setup_of c f (request_step (record { 0 = c }) f (is_asked w c f answered) (replica_at w c (block_of f))) (w.breaks (node_of w c) (block_of f))

  -- READS

  breaking_of : (c b : ℕ) (r : FullReplica) (e : ReplicaEvent) (ms : List Message) → IsOfNode w (breaking w c b r e ms)
  breaking_of c b r e ms = record { office = refl; writer = refl; said = refl }

  read_of : (c b : ℕ) (o : Result ServingState RequestRefusal) → IsOfNode w (read_change w c b o)
  read_of c b (Ok s) = record { office = refl; writer = refl; said = refl }
  read_of c b (Err r) = record { office = refl; writer = refl; said = refl }

  failing_read_of : (c b : ℕ) (e : Result Event RequestRefusal) → IfOfNode (failing_read w c b e)
  failing_read_of c b (Err r) = tt
  failing_read_of c b (Ok e) = let x = faulted_read (replica_at w c b) in breaking_of c b x.0 (replica_event.Other e) (response (refusing x.1) ∷ [])

  read_request_of : (c : ℕ) (r : ReadOp) (fails : Bool) → IfOfNode (read_request w c r fails)
  read_request_of c r true = failing_read_of c r.block.block.0 (read_event r)
  read_request_of c r false = read_of c r.block.block.0 (read_at r (replica_at w c r.block.block.0))

  piece_of : (c b : ℕ) (s : ServingState) (o : Option Packet) → IsOfNode w (piece_as w c b s o)
  piece_of c b s None = closing_of c
  piece_of c b s (Some p) = record { office = refl; writer = refl; said = refl }

  serve_of : (c b : ℕ) (s : ServingState) (o : Option Event) (fails : Bool) → IfOfNode (serve_change w c b s o fails)
  serve_of c b s None fails = tt
  serve_of c b s (Some e) true = breaking_of c b (faulted_piece s (replica_at w c b)).0 (replica_event.Other e) []
  serve_of c b s (Some e) false = piece_of c b (piece_at s (replica_at w c b)).serving (piece_at s (replica_at w c b)).packet

  -- RECOVERIES

  recovery_of : (c : ℕ) (r : RecoveryOp) (s : Served) (b : Option Break) → IsOfNode w (recovery_change w c r s b)
  recovery_of c r s b = record { office = refl; writer = refl; said = refl }

  failing_recovery_of : (c : ℕ) (r : RecoveryOp) (e : Result Event RecoveryReply) → IfOfNode (failing_recovery w c r e)
  failing_recovery_of c r (Err said) = tt
  failing_recovery_of c r (Ok e) = recovery_of c r (serve_faulted (replica_at w c r.block.block.0)) (broke_at w c r.block.block.0 (replica_event.Other e))

  recovery_request_of : (c : ℕ) (r : RecoveryOp) (fails : Bool) → IfOfNode (recovery_request w c r fails)
  recovery_request_of c r true = failing_recovery_of c r (recovery_event r)
  recovery_request_of c r false = recovery_of c r (serve (replica_at w c r.block.block.0) r) (w.breaks (node_of w c) r.block.block.0)

  -- THE LOWER END

  first_of : (c : ℕ) (m : Message) (answered fails : Bool) → IfOfNode (first_message w c m answered fails)
  first_of c (request (op.Write f)) answered fails = write_of c f answered fails
  first_of c (request (op.Read r)) answered fails = read_request_of c r fails
  first_of c (request (op.Recovery r)) answered fails = recovery_request_of c r fails
  first_of c (request (op.Transfer r)) answered fails = unless_of c fails
  first_of c (request (op.Checksum r)) answered fails = unless_of c fails
  first_of c (packet p) answered fails = unless_of c fails
  first_of c (ack a) answered fails = unless_of c fails
  first_of c (response r) answered fails = unless_of c fails
  first_of c (read_status s) answered fails = unless_of c fails
  first_of c (recovery_answer a) answered fails = unless_of c fails

  next_of : (c : ℕ) (x : Next) (fails : Bool) → IfOfNode (next_recovery w c x fails)
  next_of c (message (request (op.Recovery r))) fails = recovery_request_of c r fails
  next_of c (message (request (op.Write f))) fails = unless_of c fails
  next_of c (message (request (op.Read r))) fails = unless_of c fails
  next_of c (message (request (op.Transfer r))) fails = unless_of c fails
  next_of c (message (request (op.Checksum r))) fails = unless_of c fails
  next_of c (message (packet p)) fails = unless_of c fails
  next_of c (message (ack a)) fails = unless_of c fails
  next_of c (message (response r)) fails = unless_of c fails
  next_of c (message (read_status s)) fails = unless_of c fails
  next_of c (message (recovery_answer a)) fails = unless_of c fails
  next_of c the_end fails = unless_of c fails

  down_of : (l : Lower) (c : ℕ) (x : Next) (answered fails : Bool) → IfOfNode (lower_down l w c x answered fails)
  down_of idle c (message m) answered fails = first_of c m answered fails
  down_of idle c the_end answered fails = unless_of c fails
  down_of (writes m) c x answered fails = member_down_of c m x fails
  down_of (serves b s) c x answered fails = unless_of c fails
  down_of recovers c x answered fails = next_of c x fails
  down_of ended_below c x answered fails = tt

  lower_ready_of : (l : Lower) (c : ℕ) (fails : Bool) → IfOfNode (lower_ready l w c fails)
  lower_ready_of idle c fails = tt
  lower_ready_of (writes m) c fails = ready_of c m (ready_turn_at m.state (replica_at w c (block_of m.fields))) fails
  lower_ready_of (serves b s) c fails = serve_of c b s (next_call s) fails
  lower_ready_of recovers c fails = tt
  lower_ready_of ended_below c fails = tt

  mirror_of : (l : Lower) (d : ℕ) (x : Next) (fails : Bool) → IfOfNode (mirror_up l w d x fails)
  mirror_of idle d x fails = tt
  mirror_of (writes m) d x fails = when-each (IsOfNode w) (is_alive w (w.dialled d).to) _ (λ _. member_up_of d m x fails)
  mirror_of (serves b s) d x fails = tt
  mirror_of recovers d x fails = tt
  mirror_of ended_below d x fails = tt

-- AFTER EVENTS

changed_kept : (w u : World) (c : Option ℕ) (o : Option Change) → StepKeeps w u c → IfSome o (IsOfNode u) → IfSome (changed u o) (λ v. StepKeeps w v c)
changed_kept w u c None h k = tt
changed_kept w u c (Some x) h k = kept_then w u (apply u x) c h (change_kept u x k)

after_kept : (w : World) (c : Option ℕ) (e : happening.Event) (o : Option World) → IfSome o (λ v. StepKeeps w v c) → StepKeeps w (after_event w e o) c
after_kept w c e None h = still_kept w c
after_kept w c e (Some v) h = named w v c e h

down_taken_kept : (w : World) (c : ℕ) (x : Next) → StepKeeps w (down_taken w c x) None
unfolding down_taken
down_taken_kept w c x = record { office = refl; writers = λ b. refl; said = λ b. refl; over = λ d apart. taken-over w d false c true x (λ same. refl) }

up_taken_kept : (w : World) (c : ℕ) (x : Next) → StepKeeps w (up_taken w c x) (Some c)
unfolding up_taken
up_taken_kept w c x = record { office = refl; writers = λ b. refl; said = λ b. refl; over = λ d apart. taken-over w d false c false x (λ same. absurd (apart same)) }

down_next : (w : World) (c : ℕ) (answered fails : Bool) (o : Option Next) → IfSome (down_as w c answered fails o) (λ v. StepKeeps w v None)
down_next w c answered fails None = tt
down_next w c answered fails (Some x) =
    changed_kept w (down_taken w c x) None (lower_down (w.lowers c) (down_taken w c x) c x answered fails) (down_taken_kept w c x) (down_of (down_taken w c x) (w.lowers c) c x answered fails)

down_kept : (w : World) (conn : ConnId) (answered : Bool) → StepKeeps w (happens w (event.Down conn answered)) None
unfolding happens outcome
down_kept w conn answered =
    after_kept w None (event.Down conn answered) (outcome w (event.Down conn answered))
    (when-each (λ v. StepKeeps w v None) (is_served w conn.0) (down_as w conn.0 answered false (next_down w conn.0)) (λ _. down_next w conn.0 answered false (next_down w conn.0)))

ready_kept : (w : World) (conn : ConnId) → StepKeeps w (happens w (event.Ready conn)) None
unfolding happens outcome
ready_kept w conn =
    after_kept w None (event.Ready conn) (outcome w (event.Ready conn))
    (when-each (λ v. StepKeeps w v None) (is_served w conn.0) (changed w (lower_ready (w.lowers conn.0) w conn.0 false))
    (λ _. changed_kept w w None (lower_ready (w.lowers conn.0) w conn.0 false) (still_kept w None) (lower_ready_of w (w.lowers conn.0) conn.0 false)))

-- the same where a call on files fails
failing_down_kept : (w : World) (conn : ConnId) → StepKeeps w (happens w (event.Fault (delivery.Down conn))) None
unfolding happens outcome
failing_down_kept w conn =
    after_kept w None (event.Fault (delivery.Down conn)) (outcome w (event.Fault (delivery.Down conn)))
    (when-each (λ v. StepKeeps w v None) (is_served w conn.0) (down_as w conn.0 false true (next_down w conn.0)) (λ _. down_next w conn.0 false true (next_down w conn.0)))

failing_ready_kept : (w : World) (conn : ConnId) → StepKeeps w (happens w (event.Fault (delivery.Ready conn))) None
unfolding happens outcome
failing_ready_kept w conn =
    after_kept w None (event.Fault (delivery.Ready conn)) (outcome w (event.Fault (delivery.Ready conn)))
    (when-each (λ v. StepKeeps w v None) (is_served w conn.0) (changed w (lower_ready (w.lowers conn.0) w conn.0 true))
    (λ _. changed_kept w w None (lower_ready (w.lowers conn.0) w conn.0 true) (still_kept w None) (lower_ready_of w (w.lowers conn.0) conn.0 true)))

pub uppers_stay : (w : World) (e : happening.Event) → IsOfLowerEnd e → (d : ℕ) → is_over (happens w e) d false ≡ is_over w d false
uppers_stay w (event.Down conn answered) is d = (down_kept w conn answered).over d tt
uppers_stay w (event.Ready conn) is d = (ready_kept w conn).over d tt
uppers_stay w (event.Fault (delivery.Down conn)) is d = (failing_down_kept w conn).over d tt
uppers_stay w (event.Fault (delivery.Ready conn)) is d = (failing_ready_kept w conn).over d tt
uppers_stay w e is d = absurd is

up_so : (w : World) (c d : ℕ) (u : Upper) (x : Next) → u ≡ by_member d → IfSome (changed (up_taken w c x) (upper_up u (up_taken w c x) c x false)) (λ v. StepKeeps w v (Some c))
unfolding up_taken
up_so w c d u x is =
    subst (λ (z : Upper). IfSome (changed (up_taken w c x) (upper_up z (up_taken w c x) c x false)) (λ v. StepKeeps w v (Some c))) (sym is)
    (changed_kept w (up_taken w c x) (Some c) (mirror_up (w.lowers d) (up_taken w c x) d x false) (up_taken_kept w c x) (mirror_of (up_taken w c x) (w.lowers d) d x false))

up_next : (w : World) (c d : ℕ) (o : Option Next) → (w.dialled c).upper ≡ by_member d → IfSome (up_as w c false o) (λ v. StepKeeps w v (Some c))
up_next w c d None is = tt
up_next w c d (Some x) is = up_so w c d (w.dialled c).upper x is

up_kept : (w : World) (conn : ConnId) (d : ℕ) → (w.dialled conn.0).upper ≡ by_member d → StepKeeps w (happens w (event.Up conn)) (Some conn.0)
unfolding happens outcome
up_kept w conn d is =
    after_kept w (Some conn.0) (event.Up conn) (outcome w (event.Up conn))
    (when-each (λ v. StepKeeps w v (Some conn.0)) (nat_lt conn.0 w.next_conn) (up_as w conn.0 false (next_up w conn.0)) (λ _. up_next w conn.0 d (next_up w conn.0) is))

writer_apart : (w : World) (b c d e : ℕ) → (w.dialled c).upper ≡ by_member d → (w.dialled e).upper ≡ by_writer b → c ≡ e → ⊥
writer_apart w b c d e h k same = never (sym h ∙ (ap (λ (n : ℕ). (w.dialled n).upper) same ∙ k))
  where
    never : by_member d ≡ by_writer b → ⊥
    never x = cc

all_kept : (w v : World) → StepKeeps w v None → KeepsWriters w v
all_kept w v h = record { office = h.office; writers = h.writers; said = h.said; over = λ b c is. h.over c tt }

pub down_keeps : (w : World) (conn : ConnId) (answered : Bool) → KeepsWriters w (happens w (event.Down conn answered))
down_keeps w conn answered = all_kept w (happens w (event.Down conn answered)) (down_kept w conn answered)

pub fault_keeps : (w : World) (conn : ConnId) → KeepsWriters w (happens w (event.Fault (delivery.Down conn)))
fault_keeps w conn = all_kept w (happens w (event.Fault (delivery.Down conn))) (failing_down_kept w conn)

pub ready_keeps : (w : World) (conn : ConnId) → KeepsWriters w (happens w (event.Ready conn))
ready_keeps w conn = all_kept w (happens w (event.Ready conn)) (ready_kept w conn)

pub mirror_keeps : (w : World) (conn : ConnId) (d : ℕ) → (w.dialled conn.0).upper ≡ by_member d → KeepsWriters w (happens w (event.Up conn))
mirror_keeps w conn d is =
    let h = up_kept w conn d is in
    record { office = h.office; writers = h.writers; said = h.said; over = λ b c by. h.over c (writer_apart w b conn.0 d c is by) }
