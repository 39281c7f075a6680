-- Changes that leave all primaries as they are.
use Rattle.hd_base.specs.declared.numbers.NodeId.{NodeId}
use Rattle.member_core.specs.Members.{down_turn, hears, up_turn}
use Rattle.member_core.specs.Requests.{request_event}
use Rattle.member_core.specs.Steps.{Setup, Step, faulted_request, faulted_step, oldest_at, ready_turn_at, request_step, step}
use Rattle.member_core.specs.declared.turns.Turn.{Turn}
use Rattle.op_headers.specs.Values.{WriteFields}
use Rattle.op_headers.specs.declared.ops.Op.{Op}
use Rattle.op_headers.specs.declared.ops.ReadOp.{ReadOp}
use Rattle.op_headers.specs.declared.ops.RecoveryOp.{RecoveryOp}
use Rattle.packet_codec.specs.declared.packets.Packet.{Packet}
use Rattle.world.specs.ReadCore.Readings.{ReadTaken, take_from}
use Rattle.world.specs.ReadCore.Servings.{ServingState, faulted_piece, faulted_read, next_call, piece_at, read_at, read_event}
use Rattle.world.specs.ReadCore.ReadTurn.{ReadTurn}
use Rattle.world.specs.RecoveryCore.Members.{Served, recovery_event, serve, serve_faulted}
use Rattle.world.specs.RecoveryCore.RecoveryReply.{RecoveryReply}
use Rattle.replica_core.specs.Views.{rule_in}
use Rattle.replica_core.specs.declared.events.Event.{Event}
use Rattle.replica_model.specs.Rows.{FullReplica}
use Rattle.replica_model.specs.declared.events.ReplicaEvent.{ReplicaEvent}
use Rattle.request_refusals.specs.declared.refusals.RequestRefusal.{RequestRefusal}
use Rattle.std.proofs.Common.{Bool, Err, IfSome, List, None, Ok, Option, Result, Some, [], false, refl, true, ℕ, ◌≡◌}
use Rattle.std.specs.Prelude.{is_none, not, ◌&&◌, ◌==◌}
use Rattle.world.specs.Clients.{command_bytes, dialled_change, dialling, did, from_node_of, is_empty, is_formed, own_reader, own_reader_as, own_writer, reader_dials, reader_turn, reader_up, reader_up_as, rest_in, ruled, takes_command, takes_step, writer_change, writer_hears, writer_step, writer_up}
use Rattle.world.specs.Connections.{Next, is_alive, is_conn, message, sent_on, the_end}
use Rattle.world.specs.Nodes.{above_of, below_of, block_of, breaking, closing, failing_read, failing_recovery, failing_turn, failing_write, first_message, is_asked, lower_down, lower_ready, member_change, member_down, member_up, mirror_up, next_recovery, pending_at, piece_as, read_change, read_request, ready_change, recovery_change, recovery_request, replica_at, serve_change, setup_change, takes_next, turn_change, unless_failing, write_request}
use Rattle.world.specs.Parts.{Break, FullMember, Lower, Message, Reader, Told, ack, ended_below, has_read, idle, no_reader, packet, read_status, reads, recovers, recovery_answer, request, response, serves, writes}
use Rattle.world.specs.Primaries.{writer_asks, writer_asks_office}
use Rattle.world.specs.Worlds.{World, Change, still}
use Rattle.world.specs.declared.events.TakenCommand.{TakenCommand}
use Rattle.world_settling.proofs.Outer.{when-each}
use Rattle.writer_core.specs.Transitions.{completed_step, dial_step, dialled, given, granted, open_step, own_step}
use Rattle.writer_core.specs.declared.actions.Action.{Action}
use Rattle.writer_core.specs.declared.phases.Phase.{Phase}
use Rattle.writer_core.specs.declared.phases.Waiting.{Waiting}
use Rattle.writer_core.specs.declared.records.WriterRecord.{WriterRecord}
use Rattle.op_headers.specs.declared.ops.Op.TheVariants as op
use Rattle.world.specs.ReadCore.ReadTurn.TheVariants as turn
use Rattle.replica_model.specs.declared.events.ReplicaEvent.TheVariants as replica_event
use Rattle.writer_core.specs.Transitions as writer
use Rattle.writer_core.specs.declared.actions.Action.TheVariants as action
use Rattle.writer_core.specs.declared.phases.Phase.TheVariants as phase

-- no primary comes into another state
pub record Aside (w : World) (k : Change) : Type 0 where
  pub primary : k.primary ≡ w.primaries k.primary_at

-- NODES

closes-aside : (w : World) (c : ℕ) → Aside w (closing w c)
closes-aside w c = record { primary = refl }

member-aside : (w : World) (c : ℕ) (m : FullMember) (x : Next) (s : Step) (b : Option Break) → Aside w (member_change w c m x s b)
member-aside w c m x s b = record { primary = refl }

setup-aside : (w : World) (c : ℕ) (fields : WriteFields) (s : Setup) (b : Option Break) → Aside w (setup_change w c fields s b)
setup-aside w c fields s b = record { primary = refl }

breaks-aside : (w : World) (c b : ℕ) (r : FullReplica) (e : ReplicaEvent) (answers : List Message) → Aside w (breaking w c b r e answers)
breaks-aside w c b r e answers = record { primary = refl }

answers-aside : (w : World) (c : ℕ) (answers : List Message) → Aside w (record (closing w c) { ups = sent_on (Some c) answers })
answers-aside w c answers = record { primary = refl }

serving-aside : (w : World) (c b : ℕ) (s : ServingState) (answers : List Message)
    → Aside w (record (still w) { lower_at = c; lower = serves b s; ups = sent_on (Some c) answers })
serving-aside w c b s answers = record { primary = refl }

recovery-aside : (w : World) (c : ℕ) (r : RecoveryOp) (s : Served) (b : Option Break) → Aside w (recovery_change w c r s b)
recovery-aside w c r s b = record { primary = refl }

-- WRITE REQUESTS

failing-write-aside : (w : World) (c : ℕ) (fields : WriteFields) (e : Result Event RequestRefusal) → IfSome (failing_write w c fields e) (Aside w)
failing-write-aside w c fields (Err refused) = tt
failing-write-aside w c fields (Ok e) = setup-aside w c fields (faulted_request (replica_at w c (block_of fields))) _

write-aside : (w : World) (c : ℕ) (fields : WriteFields) (answered fails : Bool) → IfSome (write_request w c fields answered fails) (Aside w)
write-aside w c fields answered true = failing-write-aside w c fields (request_event (record { 0 = c }) fields (rule_in (replica_at w c (block_of fields)).known))
write-aside w c fields answered false =
    setup-aside w c fields (request_step (record { 0 = c }) fields (is_asked w c fields answered) (replica_at w c (block_of fields))) _

-- MEMBERS

failing-turn-aside : (w : World) (c : ℕ) (m : FullMember) (x : Next) (t : Turn) (o : Option ReplicaEvent)
    → IfSome (failing_turn w c m x t o) (Aside w)
failing-turn-aside w c m x t None = tt
failing-turn-aside w c m x t (Some e) = member-aside w c m x (faulted_step m.state (replica_at w c (block_of m.fields)) t) _

turn-aside : (w : World) (c : ℕ) (m : FullMember) (x : Next) (t : Turn) (fails : Bool)
    → IfSome (turn_change w c m x t fails) (Aside w)
turn-aside w c m x t true = failing-turn-aside w c m x t t.call
turn-aside w c m x t false = member-aside w c m x (step m.state (replica_at w c (block_of m.fields)) t) _

down-aside : (w : World) (c : ℕ) (m : FullMember) (x : Next) (fails : Bool)
    → IfSome (member_down w c m x fails) (Aside w)
down-aside w c m x fails =
    when-each (Aside w) (takes_next m.state (pending_at w c m) x) _ (λ _. turn-aside w c m x (down_turn m.state (above_of x)) fails)

up-aside : (w : World) (c : ℕ) (m : FullMember) (x : Next) (fails : Bool)
    → IfSome (member_up w c m x fails) (Aside w)
up-aside w c m x fails =
    when-each (Aside w) (hears m.state) _
    (λ _. turn-aside w c m x (up_turn m.state (oldest_at (replica_at w c (block_of m.fields))) (below_of x)) fails)

ready-aside : (w : World) (c : ℕ) (m : FullMember) (o : Option Turn) (fails : Bool)
    → IfSome (ready_change w c m o fails) (Aside w)
ready-aside w c m None fails = tt
ready-aside w c m (Some t) fails = turn-aside w c m the_end t fails

-- READS

read-aside : (w : World) (c b : ℕ) (s : Result ServingState RequestRefusal) → Aside w (read_change w c b s)
read-aside w c b (Ok s) = serving-aside w c b s _
read-aside w c b (Err r) = answers-aside w c _

failing-read-aside : (w : World) (c b : ℕ) (e : Result Event RequestRefusal) → IfSome (failing_read w c b e) (Aside w)
failing-read-aside w c b (Err r) = tt
failing-read-aside w c b (Ok e) = breaks-aside w c b (faulted_read (replica_at w c b)).0 (replica_event.Other e) _

read-request-aside : (w : World) (c : ℕ) (r : ReadOp) (fails : Bool) → IfSome (read_request w c r fails) (Aside w)
read-request-aside w c r true = failing-read-aside w c r.block.block.0 (read_event r)
read-request-aside w c r false = read-aside w c r.block.block.0 (read_at r (replica_at w c r.block.block.0))

piece-aside : (w : World) (c b : ℕ) (s : ServingState) (o : Option Packet) → Aside w (piece_as w c b s o)
piece-aside w c b s None = closes-aside w c
piece-aside w c b s (Some p) = serving-aside w c b s _

serve-aside : (w : World) (c b : ℕ) (s : ServingState) (o : Option Event) (fails : Bool) → IfSome (serve_change w c b s o fails) (Aside w)
serve-aside w c b s None fails = tt
serve-aside w c b s (Some e) true = breaks-aside w c b (faulted_piece s (replica_at w c b)).0 (replica_event.Other e) []
serve-aside w c b s (Some e) false =
    piece-aside w c b (piece_at s (replica_at w c b)).serving (piece_at s (replica_at w c b)).packet

-- BLOCK RECOVERIES

failing-recovery-aside : (w : World) (c : ℕ) (r : RecoveryOp) (e : Result Event RecoveryReply) → IfSome (failing_recovery w c r e) (Aside w)
failing-recovery-aside w c r (Err said) = tt
failing-recovery-aside w c r (Ok e) = recovery-aside w c r (serve_faulted (replica_at w c r.block.block.0)) _

recovery-request-aside : (w : World) (c : ℕ) (r : RecoveryOp) (fails : Bool) → IfSome (recovery_request w c r fails) (Aside w)
recovery-request-aside w c r true = failing-recovery-aside w c r (recovery_event r)
recovery-request-aside w c r false = recovery-aside w c r (serve (replica_at w c r.block.block.0) r) _

-- THE LOWER END

unless-aside : (w : World) (fails : Bool) (c : ℕ) → IfSome (unless_failing fails (closing w c)) (Aside w)
unless-aside w true c = tt
unless-aside w false c = closes-aside w c

request-aside : (w : World) (c : ℕ) (o : Op) (answered fails : Bool) → IfSome (first_message w c (request o) answered fails) (Aside w)
request-aside w c (op.Write fields) answered fails = write-aside w c fields answered fails
request-aside w c (op.Read r) answered fails = read-request-aside w c r fails
request-aside w c (op.Recovery r) answered fails = recovery-request-aside w c r fails
request-aside w c (op.Transfer r) answered fails = unless-aside w fails c
request-aside w c (op.Checksum r) answered fails = unless-aside w fails c

first-aside : (w : World) (c : ℕ) (m : Message) (answered fails : Bool) → IfSome (first_message w c m answered fails) (Aside w)
first-aside w c (request o) answered fails = request-aside w c o answered fails
first-aside w c (packet p) answered fails = unless-aside w fails c
first-aside w c (ack a) answered fails = unless-aside w fails c
first-aside w c (response r) answered fails = unless-aside w fails c
first-aside w c (read_status s) answered fails = unless-aside w fails c
first-aside w c (recovery_answer a) answered fails = unless-aside w fails c

next-request-aside : (w : World) (c : ℕ) (o : Op) (fails : Bool) → IfSome (next_recovery w c (message (request o)) fails) (Aside w)
next-request-aside w c (op.Write fields) fails = unless-aside w fails c
next-request-aside w c (op.Read r) fails = unless-aside w fails c
next-request-aside w c (op.Recovery r) fails = recovery-request-aside w c r fails
next-request-aside w c (op.Transfer r) fails = unless-aside w fails c
next-request-aside w c (op.Checksum r) fails = unless-aside w fails c

next-message-aside : (w : World) (c : ℕ) (m : Message) (fails : Bool) → IfSome (next_recovery w c (message m) fails) (Aside w)
next-message-aside w c (request o) fails = next-request-aside w c o fails
next-message-aside w c (packet p) fails = unless-aside w fails c
next-message-aside w c (ack a) fails = unless-aside w fails c
next-message-aside w c (response r) fails = unless-aside w fails c
next-message-aside w c (read_status s) fails = unless-aside w fails c
next-message-aside w c (recovery_answer a) fails = unless-aside w fails c

next-aside : (w : World) (c : ℕ) (x : Next) (fails : Bool) → IfSome (next_recovery w c x fails) (Aside w)
next-aside w c (message m) fails = next-message-aside w c m fails
next-aside w c the_end fails = unless-aside w fails c

-- the lower end of a connection that was dialled takes something
pub lower-down-aside : (l : Lower) (w : World) (c : ℕ) (x : Next) (answered fails : Bool)
    → IfSome (lower_down l w c x answered fails) (Aside w)
lower-down-aside idle w c (message m) answered fails = first-aside w c m answered fails
lower-down-aside idle w c the_end answered fails = unless-aside w fails c
lower-down-aside (writes m) w c x answered fails = down-aside w c m x fails
lower-down-aside (serves b s) w c x answered fails = unless-aside w fails c
lower-down-aside recovers w c x answered fails = next-aside w c x fails
lower-down-aside ended_below w c x answered fails = tt

-- it acts without a message
pub lower-ready-aside : (l : Lower) (w : World) (c : ℕ) (fails : Bool)
    → IfSome (lower_ready l w c fails) (Aside w)
lower-ready-aside idle w c fails = tt
lower-ready-aside (writes m) w c fails = ready-aside w c m (ready_turn_at m.state (replica_at w c (block_of m.fields))) fails
lower-ready-aside (serves b s) w c fails = serve-aside w c b s (next_call s) fails
lower-ready-aside recovers w c fails = tt
lower-ready-aside ended_below w c fails = tt

-- a member takes something from its mirror
pub mirror-up-aside : (l : Lower) (w : World) (d : ℕ) (x : Next) (fails : Bool)
    → IfSome (mirror_up l w d x fails) (Aside w)
mirror-up-aside idle w d x fails = tt
mirror-up-aside (writes m) w d x fails = when-each (Aside w) (is_alive w (w.dialled d).to) _ (λ _. up-aside w d m x fails)
mirror-up-aside (serves b s) w d x fails = tt
mirror-up-aside recovers w d x fails = tt
mirror-up-aside ended_below w d x fails = tt

-- READERS

dials-aside : (w : World) (i n : ℕ) (r : ReadOp) (answered : Bool) → Aside w (reader_dials w i n r answered)
dials-aside w i n r true = record { primary = refl }
dials-aside w i n r false = record { primary = refl }

own-reader-as : (x : Reader) (w : World) (i n : ℕ) (r : ReadOp) (answered : Bool) → IfSome (own_reader_as x w i n r answered) (Aside w)
own-reader-as no_reader w i n r answered = dials-aside w i n r _
own-reader-as (reads c s) w i n r answered = tt
own-reader-as (has_read b) w i n r answered = tt

pub own-reader-aside : (w : World) (i n : ℕ) (r : ReadOp) (answered : Bool) → IfSome (own_reader w i n r answered) (Aside w)
own-reader-aside w i n r answered = own-reader-as (w.readers i) w i n r answered

reader-turn-aside : (w : World) (i c : ℕ) (t : ReadTaken) (d : ReadTurn) → Aside w (reader_turn w i c t d)
reader-turn-aside w i c t turn.Goes = record { primary = refl }
reader-turn-aside w i c t turn.Verified = record { primary = refl }
reader-turn-aside w i c t (turn.Fails f) = record { primary = refl }

reader-up-as : (r : Reader) (w : World) (i c : ℕ) (x : Next) → IfSome (reader_up_as r w i c x) (Aside w)
reader-up-as no_reader w i c x = tt
reader-up-as (reads d s) w i c x =
    when-each (Aside w) (d == c) _ (λ _. reader-turn-aside w i c (take_from s (from_node_of x)) (take_from s (from_node_of x)).does)
reader-up-as (has_read b) w i c x = tt

pub reader-up-aside : (w : World) (i c : ℕ) (x : Next) → IfSome (reader_up w i c x) (Aside w)
reader-up-aside w i c x = reader-up-as (w.readers i) w i c x

-- WRITERS

writer-aside : (w : World) (b : ℕ) (x : WriterRecord) → Aside w (writer_change w b x)
writer-aside w b x = record { primary = refl }

did-aside : (w : World) (b : ℕ) (waits : Option Waiting) (a : Action) (x : WriterRecord) (bytes : List ℕ) → IfSome (did w b waits a x bytes) (Aside w)
did-aside w b waits action.Wait x bytes = tt
did-aside w b waits action.Took x bytes = record { primary = refl }
did-aside w b waits (action.Ask c) x bytes = tt
did-aside w b waits (action.Dial to r) x bytes = tt
did-aside w b waits (action.Send p) x bytes = record { primary = refl }
did-aside w b waits (action.Answered n a) x bytes = record { primary = refl }
did-aside w b waits action.Memory x bytes = tt

dialled-aside : (w : World) (b : ℕ) (x : WriterRecord) (to : NodeId) (r : Op) (answered : Bool) → Aside w (dialled_change w b x to r answered)
dialled-aside w b x to r true = record { primary = refl }
dialled-aside w b x to r false = record { primary = refl }

dialling-aside : (w : World) (b : ℕ) (x : WriterRecord) (a : Action) (answered : Bool) → Aside w (dialling w b x a answered)
dialling-aside w b x action.Wait answered = record { primary = refl }
dialling-aside w b x action.Took answered = record { primary = refl }
dialling-aside w b x (action.Ask c) answered = record { primary = refl }
dialling-aside w b x (action.Dial to r) answered = dialled-aside w b x to r (answered && w.running to.0)
dialling-aside w b x (action.Send p) answered = record { primary = refl }
dialling-aside w b x (action.Answered n a) answered = record { primary = refl }
dialling-aside w b x action.Memory answered = record { primary = refl }

rest-aside : (p : Phase) (w : World) (b : ℕ) (x : WriterRecord) (answered : Bool) → IfSome (rest_in p w b x answered) (Aside w)
rest-aside phase.Closed w b x answered = writer-aside w b x
rest-aside (phase.Wanted s) w b x answered = writer-aside w b x
rest-aside (phase.Stamped s stamp) w b x answered = dialling-aside w b x (dial_step x s stamp).action answered
rest-aside (phase.Requested s stamp) w b x answered = writer-aside w b x
rest-aside (phase.Accepted s stamp) w b x answered = writer-aside w b x
rest-aside phase.Opened w b x answered = did-aside w b x.waiting (open_step x).action (open_step x).writer []
rest-aside (phase.Streaming sent) w b x answered = writer-aside w b x
rest-aside phase.Closing w b x answered = writer-aside w b x
rest-aside phase.Finished w b x answered = writer-aside w b x
rest-aside phase.Completed w b x answered = did-aside w b x.waiting (completed_step x).action (completed_step x).writer []
rest-aside (phase.Failed f) w b x answered = writer-aside w b x

takes-aside : (w : World) (b : ℕ) (waits : Option Waiting) (s : writer.Step) (bytes : List ℕ) → IfSome (takes_step w b waits s bytes) (Aside w)
takes-aside w b waits s bytes = when-each (Aside w) (is_empty s.writer.queue) _ (λ _. did-aside w b waits s.action s.writer bytes)

command-aside : (w : World) (b : ℕ) (x : WriterRecord) (t : TakenCommand) → IfSome (takes_command w b x t) (Aside w)
command-aside w b x t =
    let y = ruled x t.command t.rule in
    when-each (Aside w) (is_formed t.command t.rule && not (is_empty (given x t.command).queue)) _
    (λ _. takes-aside w b y.waiting (own_step (given y t.command)) (command_bytes y t.command))

step-aside : (w : World) (b : ℕ) (x : WriterRecord) (told : Option Told) (takes : Option TakenCommand) (answered : Bool)
    → IfSome (writer_step w b x told takes answered) (Aside w)
step-aside w b x (Some told) None answered = rest-aside (granted x told).phase w b (granted x told) answered
step-aside w b x (Some told) (Some t) answered = tt
step-aside w b x None None answered = did-aside w b x.waiting (own_step x).action (own_step x).writer []
step-aside w b x None (Some t) answered = command-aside w b x t

pub own-writer-aside : (w : World) (b : ℕ) (takes : Option TakenCommand) (answered : Bool) → IfSome (own_writer w b takes answered) (Aside w)
own-writer-aside w b takes answered = step-aside w b (w.writers b).known (w.writers b).told takes answered

pub writer-up-aside : (w : World) (b c : ℕ) (x : Next) → IfSome (writer_up w b c x) (Aside w)
writer-up-aside w b c x =
    when-each (Aside w) (is_conn (w.writers b).conn c && is_none (w.writers b).told) _ (λ _. writer-aside w b (writer_hears (w.writers b).known x))

-- THE OFFICE

writer-asks-aside : (a : Action) (w : World) (b : ℕ) → IfSome (writer_asks a w b) (Aside w)
writer-asks-aside action.Wait w b = tt
writer-asks-aside action.Took w b = tt
writer-asks-aside (action.Ask c) w b = record { primary = refl }
writer-asks-aside (action.Dial to r) w b = tt
writer-asks-aside (action.Send p) w b = tt
writer-asks-aside (action.Answered n a) w b = tt
writer-asks-aside action.Memory w b = tt

pub asks-office-aside : (w : World) (b : ℕ) → IfSome (writer_asks_office w b) (Aside w)
asks-office-aside w b = when-each (Aside w) (is_none (w.writers b).told) _ (λ _. writer-asks-aside (own_step (w.writers b).known).action w b)
