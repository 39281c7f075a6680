-- Which lower end a change is of, where a lower end acts.
use Rattle.world.specs.MemberCore.Members.{down_turn, hears, up_turn}
use Rattle.world.specs.MemberCore.Requests.{request_event}
use Rattle.world.specs.MemberCore.Steps.{Setup, Step, faulted_request, faulted_step, oldest_at, ready_turn_at, request_step, step}
use Rattle.world.specs.MemberCore.Turn.{Turn}
use Rattle.world.specs.OpHeaders.Values.{WriteFields}
use Rattle.world.specs.OpHeaders.Op.{Op}
use Rattle.world.specs.OpHeaders.ReadOp.{ReadOp}
use Rattle.world.specs.OpHeaders.RecoveryOp.{RecoveryOp}
use Rattle.world.specs.PacketCodec.Packet.{Packet}
use Rattle.world.specs.ReadCore.Servings.{ServingState, faulted_piece, faulted_read, next_call, piece_at, read_at, read_event}
use Rattle.world.specs.RecoveryCore.Members.{Served, recovery_event, serve, serve_faulted}
use Rattle.world.specs.RecoveryCore.RecoveryReply.{RecoveryReply}
use Rattle.world.specs.ReplicaCore.Views.{rule_in}
use Rattle.world.specs.ReplicaCore.Event.{Event}
use Rattle.world.specs.ReplicaModel.Rows.{FullReplica}
use Rattle.world.specs.ReplicaModel.ReplicaEvent.{ReplicaEvent}
use Rattle.world.specs.RequestRefusals.RequestRefusal.{RequestRefusal}
use Rattle.std.proofs.Common.{Bool, Err, IfSome, List, None, Ok, Option, Result, Some, [], false, refl, true, ℕ, ◌≡◌}
use Rattle.std.specs.Prelude.{◌==◌}
use Rattle.world.specs.Connections.{Next, is_alive, message, sent_on, the_end}
use Rattle.world.specs.Nodes.{above_of, below_of, block_of, breaking, closing, failing_read, failing_recovery, failing_turn, failing_write, first_message, is_asked, lower_down, lower_ready, member_change, member_down, member_up, mirror_up, next_recovery, pending_at, piece_as, read_change, read_request, ready_change, recovery_change, recovery_request, replica_at, serve_change, setup_change, takes_next, turn_change, unless_failing, write_request}
use Rattle.world.specs.Parts.{Break, FullMember, Lower, Message, ack, ended_below, idle, packet, read_status, recovers, recovery_answer, request, response, serves, writes}
use Rattle.world.specs.Worlds.{World, Change, still}
use Rattle.world_laws.proofs.FactTables.{when-each}
use Rattle.world_orders.proofs.Kept.{sent-elsewhere}
use Rattle.world.specs.OpHeaders.Op.TheVariants as op
use Rattle.world.specs.ReplicaModel.ReplicaEvent.TheVariants as replica_event

-- It is of this one, and nothing is sent up on another connection.
pub record At (c : ℕ) (k : Change) : Type 0 where
  pub at : k.lower_at ≡ c
  pub quiet : (d : ℕ) → (d == c) ≡ false → k.ups d ≡ []

-- NODES

closes-at : (w : World) (c : ℕ) → At c (closing w c)
closes-at w c = record { at = refl; quiet = λ d e. refl }

member-at : (w : World) (c : ℕ) (m : FullMember) (x : Next) (s : Step) (b : Option Break) → At c (member_change w c m x s b)
member-at w c m x s b = record { at = refl; quiet = λ d e. sent-elsewhere c d _ e }

setup-at : (w : World) (c : ℕ) (fields : WriteFields) (s : Setup) (b : Option Break) → At c (setup_change w c fields s b)
setup-at w c fields s b = record { at = refl; quiet = λ d e. sent-elsewhere c d _ e }

breaks-at : (w : World) (c b : ℕ) (r : FullReplica) (e : ReplicaEvent) (answers : List Message) → At c (breaking w c b r e answers)
breaks-at w c b r e answers = record { at = refl; quiet = λ d e. sent-elsewhere c d _ e }

answers-at : (w : World) (c : ℕ) (answers : List Message) → At c (record (closing w c) { ups = sent_on (Some c) answers })
answers-at w c answers = record { at = refl; quiet = λ d e. sent-elsewhere c d _ e }

serving-at : (w : World) (c b : ℕ) (s : ServingState) (answers : List Message)
    → At c (record (still w) { lower_at = c; lower = serves b s; ups = sent_on (Some c) answers })
serving-at w c b s answers = record { at = refl; quiet = λ d e. sent-elsewhere c d _ e }

recovery-at : (w : World) (c : ℕ) (r : RecoveryOp) (s : Served) (b : Option Break) → At c (recovery_change w c r s b)
recovery-at w c r s b = record { at = refl; quiet = λ d e. sent-elsewhere c d _ e }

-- WRITE REQUESTS

failing-write-at : (w : World) (c : ℕ) (fields : WriteFields) (e : Result Event RequestRefusal) → IfSome (failing_write w c fields e) (At c)
failing-write-at w c fields (Err refused) = tt
failing-write-at w c fields (Ok e) = setup-at w c fields (faulted_request (replica_at w c (block_of fields))) _

write-at : (w : World) (c : ℕ) (fields : WriteFields) (answered fails : Bool) → IfSome (write_request w c fields answered fails) (At c)
write-at w c fields answered true = failing-write-at w c fields (request_event (record { 0 = c }) fields (rule_in (replica_at w c (block_of fields)).known))
write-at w c fields answered false =
    setup-at w c fields (request_step (record { 0 = c }) fields (is_asked w c fields answered) (replica_at w c (block_of fields))) _

-- MEMBERS

failing-turn-at : (w : World) (c : ℕ) (m : FullMember) (x : Next) (t : Turn) (o : Option ReplicaEvent)
    → IfSome (failing_turn w c m x t o) (At c)
failing-turn-at w c m x t None = tt
failing-turn-at w c m x t (Some e) = member-at w c m x (faulted_step m.state (replica_at w c (block_of m.fields)) t) _

turn-at : (w : World) (c : ℕ) (m : FullMember) (x : Next) (t : Turn) (fails : Bool)
    → IfSome (turn_change w c m x t fails) (At c)
turn-at w c m x t true = failing-turn-at w c m x t t.call
turn-at w c m x t false = member-at w c m x (step m.state (replica_at w c (block_of m.fields)) t) _

down-at : (w : World) (c : ℕ) (m : FullMember) (x : Next) (fails : Bool)
    → IfSome (member_down w c m x fails) (At c)
down-at w c m x fails =
    when-each (At c) (takes_next m.state (pending_at w c m) x) _ (λ _. turn-at w c m x (down_turn m.state (above_of x)) fails)

up-at : (w : World) (c : ℕ) (m : FullMember) (x : Next) (fails : Bool)
    → IfSome (member_up w c m x fails) (At c)
up-at w c m x fails =
    when-each (At c) (hears m.state) _
    (λ _. turn-at w c m x (up_turn m.state (oldest_at (replica_at w c (block_of m.fields))) (below_of x)) fails)

ready-at : (w : World) (c : ℕ) (m : FullMember) (o : Option Turn) (fails : Bool)
    → IfSome (ready_change w c m o fails) (At c)
ready-at w c m None fails = tt
ready-at w c m (Some t) fails = turn-at w c m the_end t fails

-- READS

read-at : (w : World) (c b : ℕ) (s : Result ServingState RequestRefusal) → At c (read_change w c b s)
read-at w c b (Ok s) = serving-at w c b s _
read-at w c b (Err r) = answers-at w c _

failing-read-at : (w : World) (c b : ℕ) (e : Result Event RequestRefusal) → IfSome (failing_read w c b e) (At c)
failing-read-at w c b (Err r) = tt
failing-read-at w c b (Ok e) = breaks-at w c b (faulted_read (replica_at w c b)).0 (replica_event.Other e) _

read-request-at : (w : World) (c : ℕ) (r : ReadOp) (fails : Bool) → IfSome (read_request w c r fails) (At c)
read-request-at w c r true = failing-read-at w c r.block.block.0 (read_event r)
read-request-at w c r false = read-at w c r.block.block.0 (read_at r (replica_at w c r.block.block.0))

piece-at : (w : World) (c b : ℕ) (s : ServingState) (o : Option Packet) → At c (piece_as w c b s o)
piece-at w c b s None = closes-at w c
piece-at w c b s (Some p) = serving-at w c b s _

serve-at : (w : World) (c b : ℕ) (s : ServingState) (o : Option Event) (fails : Bool) → IfSome (serve_change w c b s o fails) (At c)
serve-at w c b s None fails = tt
serve-at w c b s (Some e) true = breaks-at w c b (faulted_piece s (replica_at w c b)).0 (replica_event.Other e) []
serve-at w c b s (Some e) false =
    piece-at w c b (piece_at s (replica_at w c b)).serving (piece_at s (replica_at w c b)).packet

-- BLOCK RECOVERIES

failing-recovery-at : (w : World) (c : ℕ) (r : RecoveryOp) (e : Result Event RecoveryReply) → IfSome (failing_recovery w c r e) (At c)
failing-recovery-at w c r (Err said) = tt
failing-recovery-at w c r (Ok e) = recovery-at w c r (serve_faulted (replica_at w c r.block.block.0)) _

recovery-request-at : (w : World) (c : ℕ) (r : RecoveryOp) (fails : Bool) → IfSome (recovery_request w c r fails) (At c)
recovery-request-at w c r true = failing-recovery-at w c r (recovery_event r)
recovery-request-at w c r false = recovery-at w c r (serve (replica_at w c r.block.block.0) r) _

-- THE LOWER END

unless-at : (w : World) (fails : Bool) (c : ℕ) → IfSome (unless_failing fails (closing w c)) (At c)
unless-at w true c = tt
unless-at w false c = closes-at w c

request-at : (w : World) (c : ℕ) (o : Op) (answered fails : Bool) → IfSome (first_message w c (request o) answered fails) (At c)
request-at w c (op.Write fields) answered fails = write-at w c fields answered fails
request-at w c (op.Read r) answered fails = read-request-at w c r fails
request-at w c (op.Recovery r) answered fails = recovery-request-at w c r fails
request-at w c (op.Transfer r) answered fails = unless-at w fails c
request-at w c (op.Checksum r) answered fails = unless-at w fails c

first-at : (w : World) (c : ℕ) (m : Message) (answered fails : Bool) → IfSome (first_message w c m answered fails) (At c)
first-at w c (request o) answered fails = request-at w c o answered fails
first-at w c (packet p) answered fails = unless-at w fails c
first-at w c (ack a) answered fails = unless-at w fails c
first-at w c (response r) answered fails = unless-at w fails c
first-at w c (read_status s) answered fails = unless-at w fails c
first-at w c (recovery_answer a) answered fails = unless-at w fails c

next-request-at : (w : World) (c : ℕ) (o : Op) (fails : Bool) → IfSome (next_recovery w c (message (request o)) fails) (At c)
next-request-at w c (op.Write fields) fails = unless-at w fails c
next-request-at w c (op.Read r) fails = unless-at w fails c
next-request-at w c (op.Recovery r) fails = recovery-request-at w c r fails
next-request-at w c (op.Transfer r) fails = unless-at w fails c
next-request-at w c (op.Checksum r) fails = unless-at w fails c

next-message-at : (w : World) (c : ℕ) (m : Message) (fails : Bool) → IfSome (next_recovery w c (message m) fails) (At c)
next-message-at w c (request o) fails = next-request-at w c o fails
next-message-at w c (packet p) fails = unless-at w fails c
next-message-at w c (ack a) fails = unless-at w fails c
next-message-at w c (response r) fails = unless-at w fails c
next-message-at w c (read_status s) fails = unless-at w fails c
next-message-at w c (recovery_answer a) fails = unless-at w fails c

next-at : (w : World) (c : ℕ) (x : Next) (fails : Bool) → IfSome (next_recovery w c x fails) (At c)
next-at w c (message m) fails = next-message-at w c m fails
next-at w c the_end fails = unless-at w fails c

-- the lower end of a connection that was dialled takes something
pub lower-down-at : (l : Lower) (w : World) (c : ℕ) (x : Next) (answered fails : Bool)
    → IfSome (lower_down l w c x answered fails) (At c)
lower-down-at idle w c (message m) answered fails = first-at w c m answered fails
lower-down-at idle w c the_end answered fails = unless-at w fails c
lower-down-at (writes m) w c x answered fails = down-at w c m x fails
lower-down-at (serves b s) w c x answered fails = unless-at w fails c
lower-down-at recovers w c x answered fails = next-at w c x fails
lower-down-at ended_below w c x answered fails = tt

-- it acts without a message
pub lower-ready-at : (l : Lower) (w : World) (c : ℕ) (fails : Bool)
    → IfSome (lower_ready l w c fails) (At c)
lower-ready-at idle w c fails = tt
lower-ready-at (writes m) w c fails = ready-at w c m (ready_turn_at m.state (replica_at w c (block_of m.fields))) fails
lower-ready-at (serves b s) w c fails = serve-at w c b s (next_call s) fails
lower-ready-at recovers w c fails = tt
lower-ready-at ended_below w c fails = tt

-- a member takes something from its mirror
pub mirror-up-at : (l : Lower) (w : World) (d : ℕ) (x : Next) (fails : Bool)
    → IfSome (mirror_up l w d x fails) (At d)
mirror-up-at idle w d x fails = tt
mirror-up-at (writes m) w d x fails = when-each (At d) (is_alive w (w.dialled d).to) _ (λ _. up-at w d m x fails)
mirror-up-at (serves b s) w d x fails = tt
mirror-up-at recovers w d x fails = tt
mirror-up-at ended_below w d x fails = tt
