-- Events of nodes leave the readers as they are.
use Rattle.world.specs.Nodes.{member_change}
use Rattle.std.proofs.Common.{◌≡◌, ℕ, Bool, true, false, List, [], Option, Some, None, IfSome, Result, Ok, Err, refl}
use Rattle.op_headers.specs.declared.ops.Op.{Op}
use Rattle.op_headers.specs.declared.ops.Op.TheVariants as op
use Rattle.op_headers.specs.declared.ops.ReadOp.{ReadOp}
use Rattle.op_headers.specs.declared.ops.RecoveryOp.{RecoveryOp}
use Rattle.packet_codec.specs.declared.packets.Packet.{Packet}
use Rattle.replica_core.specs.declared.events.Event.{Event}
use Rattle.replica_model.specs.declared.events.ReplicaEvent.{ReplicaEvent}
use Rattle.replica_model.specs.declared.events.ReplicaEvent.TheVariants as replica_event
use Rattle.request_refusals.specs.declared.refusals.RequestRefusal.{RequestRefusal}
use Rattle.member_core.specs.declared.turns.Turn.{Turn}
use Rattle.member_core.specs.Members.{down_turn, up_turn, hears}
use Rattle.member_core.specs.Steps.{step, faulted_step, oldest_at, ready_turn_at}
use Rattle.replica_model.specs.Rows.{FullReplica}
use Rattle.world.specs.ReadCore.Servings.{faulted_read, faulted_piece, ServingState, read_at, read_event, next_call, piece_at}
use Rattle.world.specs.RecoveryCore.RecoveryReply.{RecoveryReply}
use Rattle.world.specs.RecoveryCore.Members.{Served, recovery_event, serve, serve_faulted}
use Rattle.world.specs.Parts.{Message, request, packet, ack, response, read_status, recovery_answer, FullMember, Lower, idle, writes, serves, recovers, ended_below, Break}
use Rattle.world.specs.Worlds.{World, Change, still}
use Rattle.world.specs.Connections.{Next, message, the_end, sent_on, is_alive}
use Rattle.world.specs.Nodes.{replica_at, block_of, closing, unless_failing, above_of, below_of, failing_turn, turn_change, takes_next, pending_at, member_down, member_up, ready_change, breaking, read_change, failing_read, read_request, piece_as, serve_change, recovery_change, failing_recovery, recovery_request, first_message, next_recovery, lower_down, lower_ready, mirror_up}
use Rattle.op_headers.specs.Values.{WriteFields}
use Rattle.member_core.specs.Requests.{request_event}
use Rattle.member_core.specs.Steps.{Step, Setup, request_step, faulted_request}
use Rattle.replica_core.specs.Views.{rule_in}
use Rattle.world.specs.Nodes.{setup_change, failing_write, write_request, is_asked}
use Rattle.world_texts.proofs.WorldLaws.FactTables.{when-each}

-- no reader comes into another state
pub record Stays (w : World) (k : Change) : Type 0 where
  pub reader : k.reader ≡ w.readers k.reader_at

closes-stays : (w : World) (c : ℕ) → Stays w (closing w c)
closes-stays w c = record { reader = refl }

member-stays : (w : World) (c : ℕ) (m : FullMember) (x : Next) (s : Step) (b : Option Break) → Stays w (member_change w c m x s b)
member-stays w c m x s b = record { reader = refl }

setup-stays : (w : World) (c : ℕ) (fields : WriteFields) (s : Setup) (b : Option Break) → Stays w (setup_change w c fields s b)
setup-stays w c fields s b = record { reader = refl }

breaks-stays : (w : World) (c b : ℕ) (r : FullReplica) (e : ReplicaEvent) (answers : List Message) → Stays w (breaking w c b r e answers)
breaks-stays w c b r e answers = record { reader = refl }

answers-stays : (w : World) (c : ℕ) (answers : List Message) → Stays w (record (closing w c) { ups = sent_on (Some c) answers })
answers-stays w c answers = record { reader = refl }

serving-stays : (w : World) (c b : ℕ) (s : ServingState) (answers : List Message)
    → Stays w (record (still w) { lower_at = c; lower = serves b s; ups = sent_on (Some c) answers })
serving-stays w c b s answers = record { reader = refl }

recovery-stays : (w : World) (c : ℕ) (r : RecoveryOp) (s : Served) (b : Option Break) → Stays w (recovery_change w c r s b)
recovery-stays w c r s b = record { reader = refl }

-- WRITE REQUESTS

failing-write-stays : (w : World) (c : ℕ) (fields : WriteFields) (e : Result Event RequestRefusal) → IfSome (failing_write w c fields e) (Stays w)
failing-write-stays w c fields (Err refused) = tt
failing-write-stays w c fields (Ok e) = setup-stays w c fields (faulted_request (replica_at w c (block_of fields))) _

write-stays : (w : World) (c : ℕ) (fields : WriteFields) (answered fails : Bool) → IfSome (write_request w c fields answered fails) (Stays w)
write-stays w c fields answered true = failing-write-stays w c fields (request_event (record { 0 = c }) fields (rule_in (replica_at w c (block_of fields)).known))
write-stays w c fields answered false =
    setup-stays w c fields (request_step (record { 0 = c }) fields (is_asked w c fields answered) (replica_at w c (block_of fields))) _

-- MEMBERS

failing-turn-stays : (w : World) (c : ℕ) (m : FullMember) (x : Next) (t : Turn) (o : Option ReplicaEvent)
    → IfSome (failing_turn w c m x t o) (Stays w)
failing-turn-stays w c m x t None = tt
failing-turn-stays w c m x t (Some e) = member-stays w c m x (faulted_step m.state (replica_at w c (block_of m.fields)) t) _

turn-stays : (w : World) (c : ℕ) (m : FullMember) (x : Next) (t : Turn) (fails : Bool)
    → IfSome (turn_change w c m x t fails) (Stays w)
turn-stays w c m x t true = failing-turn-stays w c m x t t.call
turn-stays w c m x t false = member-stays w c m x (step m.state (replica_at w c (block_of m.fields)) t) _

down-stays : (w : World) (c : ℕ) (m : FullMember) (x : Next) (fails : Bool)
    → IfSome (member_down w c m x fails) (Stays w)
down-stays w c m x fails =
    when-each (Stays w) (takes_next m.state (pending_at w c m) x) _ (λ _. turn-stays w c m x (down_turn m.state (above_of x)) fails)

up-stays : (w : World) (c : ℕ) (m : FullMember) (x : Next) (fails : Bool)
    → IfSome (member_up w c m x fails) (Stays w)
up-stays w c m x fails =
    when-each (Stays w) (hears m.state) _
    (λ _. turn-stays w c m x (up_turn m.state (oldest_at (replica_at w c (block_of m.fields))) (below_of x)) fails)

ready-stays : (w : World) (c : ℕ) (m : FullMember) (o : Option Turn) (fails : Bool)
    → IfSome (ready_change w c m o fails) (Stays w)
ready-stays w c m None fails = tt
ready-stays w c m (Some t) fails = turn-stays w c m the_end t fails

-- READS

read-stays : (w : World) (c b : ℕ) (s : Result ServingState RequestRefusal) → Stays w (read_change w c b s)
read-stays w c b (Ok s) = serving-stays w c b s _
read-stays w c b (Err r) = answers-stays w c _

failing-read-stays : (w : World) (c b : ℕ) (e : Result Event RequestRefusal) → IfSome (failing_read w c b e) (Stays w)
failing-read-stays w c b (Err r) = tt
failing-read-stays w c b (Ok e) = breaks-stays w c b (faulted_read (replica_at w c b)).0 (replica_event.Other e) _

read-request-stays : (w : World) (c : ℕ) (r : ReadOp) (fails : Bool) → IfSome (read_request w c r fails) (Stays w)
read-request-stays w c r true = failing-read-stays w c r.block.block.0 (read_event r)
read-request-stays w c r false = read-stays w c r.block.block.0 (read_at r (replica_at w c r.block.block.0))

piece-stays : (w : World) (c b : ℕ) (s : ServingState) (o : Option Packet) → Stays w (piece_as w c b s o)
piece-stays w c b s None = closes-stays w c
piece-stays w c b s (Some p) = serving-stays w c b s _

serve-stays : (w : World) (c b : ℕ) (s : ServingState) (o : Option Event) (fails : Bool) → IfSome (serve_change w c b s o fails) (Stays w)
serve-stays w c b s None fails = tt
serve-stays w c b s (Some e) true = breaks-stays w c b (faulted_piece s (replica_at w c b)).0 (replica_event.Other e) []
serve-stays w c b s (Some e) false =
    piece-stays w c b (piece_at s (replica_at w c b)).serving (piece_at s (replica_at w c b)).packet

-- BLOCK RECOVERIES

failing-recovery-stays : (w : World) (c : ℕ) (r : RecoveryOp) (e : Result Event RecoveryReply) → IfSome (failing_recovery w c r e) (Stays w)
failing-recovery-stays w c r (Err said) = tt
failing-recovery-stays w c r (Ok e) = recovery-stays w c r (serve_faulted (replica_at w c r.block.block.0)) _

recovery-request-stays : (w : World) (c : ℕ) (r : RecoveryOp) (fails : Bool) → IfSome (recovery_request w c r fails) (Stays w)
recovery-request-stays w c r true = failing-recovery-stays w c r (recovery_event r)
recovery-request-stays w c r false = recovery-stays w c r (serve (replica_at w c r.block.block.0) r) _

-- THE LOWER END

unless-stays : (w : World) (fails : Bool) (c : ℕ) → IfSome (unless_failing fails (closing w c)) (Stays w)
unless-stays w true c = tt
unless-stays w false c = closes-stays w c

request-stays : (w : World) (c : ℕ) (o : Op) (answered fails : Bool) → IfSome (first_message w c (request o) answered fails) (Stays w)
request-stays w c (op.Write fields) answered fails = write-stays w c fields answered fails
request-stays w c (op.Read r) answered fails = read-request-stays w c r fails
request-stays w c (op.Recovery r) answered fails = recovery-request-stays w c r fails
request-stays w c (op.Transfer r) answered fails = unless-stays w fails c
request-stays w c (op.Checksum r) answered fails = unless-stays w fails c

first-stays : (w : World) (c : ℕ) (m : Message) (answered fails : Bool) → IfSome (first_message w c m answered fails) (Stays w)
first-stays w c (request o) answered fails = request-stays w c o answered fails
first-stays w c (packet p) answered fails = unless-stays w fails c
first-stays w c (ack a) answered fails = unless-stays w fails c
first-stays w c (response r) answered fails = unless-stays w fails c
first-stays w c (read_status s) answered fails = unless-stays w fails c
first-stays w c (recovery_answer a) answered fails = unless-stays w fails c

next-request-stays : (w : World) (c : ℕ) (o : Op) (fails : Bool) → IfSome (next_recovery w c (message (request o)) fails) (Stays w)
next-request-stays w c (op.Write fields) fails = unless-stays w fails c
next-request-stays w c (op.Read r) fails = unless-stays w fails c
next-request-stays w c (op.Recovery r) fails = recovery-request-stays w c r fails
next-request-stays w c (op.Transfer r) fails = unless-stays w fails c
next-request-stays w c (op.Checksum r) fails = unless-stays w fails c

next-message-stays : (w : World) (c : ℕ) (m : Message) (fails : Bool) → IfSome (next_recovery w c (message m) fails) (Stays w)
next-message-stays w c (request o) fails = next-request-stays w c o fails
next-message-stays w c (packet p) fails = unless-stays w fails c
next-message-stays w c (ack a) fails = unless-stays w fails c
next-message-stays w c (response r) fails = unless-stays w fails c
next-message-stays w c (read_status s) fails = unless-stays w fails c
next-message-stays w c (recovery_answer a) fails = unless-stays w fails c

next-stays : (w : World) (c : ℕ) (x : Next) (fails : Bool) → IfSome (next_recovery w c x fails) (Stays w)
next-stays w c (message m) fails = next-message-stays w c m fails
next-stays w c the_end fails = unless-stays w fails c

-- the lower end of a connection that was dialled takes something
pub lower-down-stays : (l : Lower) (w : World) (c : ℕ) (x : Next) (answered fails : Bool)
    → IfSome (lower_down l w c x answered fails) (Stays w)
lower-down-stays idle w c (message m) answered fails = first-stays w c m answered fails
lower-down-stays idle w c the_end answered fails = unless-stays w fails c
lower-down-stays (writes m) w c x answered fails = down-stays w c m x fails
lower-down-stays (serves b s) w c x answered fails = unless-stays w fails c
lower-down-stays recovers w c x answered fails = next-stays w c x fails
lower-down-stays ended_below w c x answered fails = tt

-- it acts without a message
pub lower-ready-stays : (l : Lower) (w : World) (c : ℕ) (fails : Bool)
    → IfSome (lower_ready l w c fails) (Stays w)
lower-ready-stays idle w c fails = tt
lower-ready-stays (writes m) w c fails = ready-stays w c m (ready_turn_at m.state (replica_at w c (block_of m.fields))) fails
lower-ready-stays (serves b s) w c fails = serve-stays w c b s (next_call s) fails
lower-ready-stays recovers w c fails = tt
lower-ready-stays ended_below w c fails = tt

-- a member takes something from its mirror
pub mirror-up-stays : (l : Lower) (w : World) (d : ℕ) (x : Next) (fails : Bool)
    → IfSome (mirror_up l w d x fails) (Stays w)
mirror-up-stays idle w d x fails = tt
mirror-up-stays (writes m) w d x fails = when-each (Stays w) (is_alive w (w.dialled d).to) _ (λ _. up-stays w d m x fails)
mirror-up-stays (serves b s) w d x fails = tt
mirror-up-stays recovers w d x fails = tt
mirror-up-stays ended_below w d x fails = tt
