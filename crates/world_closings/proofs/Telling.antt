-- Which changes answer a close.
use Rattle.std.proofs.Common.{Bool, Err, IfSome, List, None, Ok, Option, Result, Some, [], ap, false, refl, slice_get, subst, sym, true, ℕ, ◌++◌, ◌∙◌, ◌∷◌, ◌≡◌}
use Rattle.std.specs.Prelude.{is_none, not, ◌&&◌, ◌==◌}
use Rattle.hd_base.specs.SumRules.{Rule}
use Rattle.hd_base.specs.declared.numbers.BlockId.{BlockId}
use Rattle.hd_base.specs.declared.numbers.NodeId.{NodeId}
use Rattle.member_core.specs.Members.{down_turn, hears, up_turn}
use Rattle.member_core.specs.Requests.{request_event}
use Rattle.member_core.specs.Steps.{oldest_at, ready_turn_at}
use Rattle.member_core.specs.declared.turns.Turn.{Turn}
use Rattle.op_headers.specs.Values.{WriteFields}
use Rattle.op_headers.specs.declared.ops.Op.{Op}
use Rattle.op_headers.specs.declared.ops.ReadOp.{ReadOp}
use Rattle.op_headers.specs.declared.ops.RecoveryOp.{RecoveryOp}
use Rattle.packet_codec.specs.declared.packets.Packet.{Packet}
use Rattle.read_core.specs.Readings.{ReadTaken, take_from}
use Rattle.read_core.specs.Servings.{ServingState, next_call, piece_at, read_at, read_event}
use Rattle.read_core.specs.declared.reading.ReadTurn.{ReadTurn}
use Rattle.recovery_core.specs.Members.{recovery_event}
use Rattle.recovery_core.specs.Primaries.{PrimaryState}
use Rattle.recovery_core.specs.declared.members.RecoveryReply.{RecoveryReply}
use Rattle.recovery_core.specs.declared.primary.OwnStep.{OwnStep}
use Rattle.recovery_core.specs.declared.standings.Standing.{Standing}
use Rattle.replica_core.specs.Views.{rule_in}
use Rattle.replica_core.specs.declared.events.Event.{Event as CoreEvent}
use Rattle.replica_model.specs.declared.events.ReplicaEvent.{ReplicaEvent}
use Rattle.request_refusals.specs.declared.refusals.RequestRefusal.{RequestRefusal}
use Rattle.std.proofs.lemmas.Bool.{false≢true}
use Rattle.world.specs.Clients.{are_members, command_bytes, dialled_change, dialling, did, from_node_of, is_empty, is_formed, own_reader, own_reader_as, own_writer, reached_answer, reader_dials, reader_turn, reader_up, reader_up_as, rest_in, ruled, takes_command, writer_step, writer_up}
use Rattle.world.specs.Connections.{Next, is_alive, is_conn, message, place_of, the_end}
use Rattle.world.specs.Nodes.{above_of, below_of, block_of, closing, failing_read, failing_recovery, failing_turn, failing_write, first_message, lower_down, lower_ready, member_up, mirror_up, next_recovery, pending_at, piece_as, read_change, read_request, ready_change, recovery_request, replica_at, serve_change, takes_next, turn_change, unless_failing, write_request}
use Rattle.world.specs.Parts.{Answered, FullMember, Leading, Lower, Message, Place, Primary, Reader, Told, ack, ended_below, has_led, has_read, idle, leads, no_primary, no_reader, packet, read_status, reads, recovers, recovery_answer, request, response, serves, was_told, writes}
use Rattle.world.specs.Primaries.{begins_as, begins_at, commits_step, hears_change, leads_step, leads_told, listens, office_event, own_primary, own_primary_as, own_recover, primary_asks, primary_commits, primary_up, primary_up_as, writer_asks}
use Rattle.world.specs.Safe.{IsClose}
use Rattle.world.specs.Worlds.{Change, World}
use Rattle.world.specs.declared.events.Caller.{Caller}
use Rattle.world.specs.declared.events.TakenCommand.{TakenCommand}
use Rattle.world_closings.specs.Answering.{AnswersClose}
use Rattle.world_laws.proofs.FactTables.{and-right, some-weaker, when-each}
use Rattle.world_laws.specs.Stamping.{heard, known_heard}
use Rattle.writer_core.specs.Commands.{admitted}
use Rattle.writer_core.specs.Transitions.{completed_step, dial_step, given, given_as, granted, open_step, own_step, step_in}
use Rattle.writer_core.specs.declared.actions.Action.{Action}
use Rattle.writer_core.specs.declared.commands.Command.{Command}
use Rattle.writer_core.specs.declared.commands.CommandFault.{CommandFault}
use Rattle.writer_core.specs.declared.intake.Intake.{Intake}
use Rattle.writer_core.specs.declared.phases.Phase.{Phase}
use Rattle.writer_core.specs.declared.phases.Waiting.{Waiting}
use Rattle.writer_core.specs.declared.records.WriterRecord.{WriterRecord}
use Rattle.name_core.specs.declared.calls.OfficeAnswer.TheVariants as office
use Rattle.op_headers.specs.declared.ops.Op.TheVariants as op
use Rattle.read_core.specs.declared.reading.ReadTurn.TheVariants as turn
use Rattle.recovery_core.specs.Primaries as primary
use Rattle.recovery_core.specs.declared.primary.OwnStep.TheVariants as own
use Rattle.world.specs.declared.events.Caller.TheVariants as caller
use Rattle.writer_core.specs.declared.actions.Action.TheVariants as action
use Rattle.writer_core.specs.declared.commands.Command.TheVariants as command
use Rattle.writer_core.specs.declared.phases.Phase.TheVariants as phase
use Rattle.world_closings.proofs.Closers.{LastBy, own-step-last, completed-last}

-- a change that answers nothing
pub record Silent (k : Change) : Type 0 where
  pub none : k.answered ≡ None

-- MEMBERS

failing-silent : (w : World) (c : ℕ) (m : FullMember) (x : Next) (t : Turn) (o : Option ReplicaEvent) → IfSome (failing_turn w c m x t o) Silent
failing-silent w c m x t None = tt
failing-silent w c m x t (Some e) = record { none = refl }

turn-silent : (w : World) (c : ℕ) (m : FullMember) (x : Next) (t : Turn) (fails : Bool) → IfSome (turn_change w c m x t fails) Silent
turn-silent w c m x t true = failing-silent w c m x t t.call
turn-silent w c m x t false = record { none = refl }

up-silent : (w : World) (c : ℕ) (m : FullMember) (x : Next) (fails : Bool) → IfSome (member_up w c m x fails) Silent
up-silent w c m x fails = when-each Silent (hears m.state) _ (λ _. turn-silent w c m x (up_turn m.state (oldest_at (replica_at w c (block_of m.fields))) (below_of x)) fails)

ready-as : (w : World) (c : ℕ) (m : FullMember) (o : Option Turn) (fails : Bool) → IfSome (ready_change w c m o fails) Silent
ready-as w c m None fails = tt
ready-as w c m (Some t) fails = turn-silent w c m the_end t fails

-- REQUESTS

failing-write-silent : (w : World) (c : ℕ) (q : WriteFields) (e : Result CoreEvent RequestRefusal) → IfSome (failing_write w c q e) Silent
failing-write-silent w c q (Err x) = tt
failing-write-silent w c q (Ok e) = record { none = refl }

write-silent : (w : World) (c : ℕ) (q : WriteFields) (answered fails : Bool) → IfSome (write_request w c q answered fails) Silent
write-silent w c q answered true = failing-write-silent w c q (request_event (record { 0 = c }) q (rule_in (replica_at w c (block_of q)).known))
write-silent w c q answered false = record { none = refl }

unless-silent : (w : World) (fails : Bool) (c : ℕ) → IfSome (unless_failing fails (closing w c)) Silent
unless-silent w true c = tt
unless-silent w false c = record { none = refl }

failing-read-silent : (w : World) (c b : ℕ) (e : Result CoreEvent RequestRefusal) → IfSome (failing_read w c b e) Silent
failing-read-silent w c b (Err r) = tt
failing-read-silent w c b (Ok e) = record { none = refl }

read-change-silent : (w : World) (c b : ℕ) (s : Result ServingState RequestRefusal) → Silent (read_change w c b s)
read-change-silent w c b (Ok s) = record { none = refl }
read-change-silent w c b (Err r) = record { none = refl }

read-silent : (w : World) (c : ℕ) (r : ReadOp) (fails : Bool) → IfSome (read_request w c r fails) Silent
read-silent w c r true = failing-read-silent w c r.block.block.0 (read_event r)
read-silent w c r false = read-change-silent w c r.block.block.0 (read_at r (replica_at w c r.block.block.0))

piece-silent : (w : World) (c b : ℕ) (s : ServingState) (o : Option Packet) → Silent (piece_as w c b s o)
piece-silent w c b s None = record { none = refl }
piece-silent w c b s (Some p) = record { none = refl }

serve-silent : (w : World) (c b : ℕ) (s : ServingState) (o : Option CoreEvent) (fails : Bool) → IfSome (serve_change w c b s o fails) Silent
serve-silent w c b s None fails = tt
serve-silent w c b s (Some e) true = record { none = refl }
serve-silent w c b s (Some e) false = piece-silent w c b (piece_at s (replica_at w c b)).serving (piece_at s (replica_at w c b)).packet

failing-recovery-silent : (w : World) (c : ℕ) (q : RecoveryOp) (e : Result CoreEvent RecoveryReply) → IfSome (failing_recovery w c q e) Silent
failing-recovery-silent w c q (Err said) = tt
failing-recovery-silent w c q (Ok e) = record { none = refl }

recovery-silent : (w : World) (c : ℕ) (q : RecoveryOp) (fails : Bool) → IfSome (recovery_request w c q fails) Silent
recovery-silent w c q true = failing-recovery-silent w c q (recovery_event q)
recovery-silent w c q false = record { none = refl }

request-silent : (w : World) (c : ℕ) (o : Op) (answered fails : Bool) → IfSome (first_message w c (request o) answered fails) Silent
request-silent w c (op.Write q) answered fails = write-silent w c q answered fails
request-silent w c (op.Read r) answered fails = read-silent w c r fails
request-silent w c (op.Recovery q) answered fails = recovery-silent w c q fails
request-silent w c (op.Transfer r) answered fails = unless-silent w fails c
request-silent w c (op.Checksum r) answered fails = unless-silent w fails c

first-silent : (w : World) (c : ℕ) (m : Message) (answered fails : Bool) → IfSome (first_message w c m answered fails) Silent
first-silent w c (request o) answered fails = request-silent w c o answered fails
first-silent w c (packet p) answered fails = unless-silent w fails c
first-silent w c (ack a) answered fails = unless-silent w fails c
first-silent w c (response r) answered fails = unless-silent w fails c
first-silent w c (read_status t) answered fails = unless-silent w fails c
first-silent w c (recovery_answer a) answered fails = unless-silent w fails c

next-op-silent : (w : World) (c : ℕ) (o : Op) (fails : Bool) → IfSome (next_recovery w c (message (request o)) fails) Silent
next-op-silent w c (op.Write q) fails = unless-silent w fails c
next-op-silent w c (op.Read r) fails = unless-silent w fails c
next-op-silent w c (op.Recovery q) fails = recovery-silent w c q fails
next-op-silent w c (op.Transfer r) fails = unless-silent w fails c
next-op-silent w c (op.Checksum r) fails = unless-silent w fails c

next-silent : (w : World) (c : ℕ) (x : Next) (fails : Bool) → IfSome (next_recovery w c x fails) Silent
next-silent w c (message (request o)) fails = next-op-silent w c o fails
next-silent w c (message (packet p)) fails = unless-silent w fails c
next-silent w c (message (ack a)) fails = unless-silent w fails c
next-silent w c (message (response r)) fails = unless-silent w fails c
next-silent w c (message (read_status t)) fails = unless-silent w fails c
next-silent w c (message (recovery_answer a)) fails = unless-silent w fails c
next-silent w c the_end fails = unless-silent w fails c

pub lower-down-silent : (l : Lower) (w : World) (c : ℕ) (x : Next) (answered fails : Bool) → IfSome (lower_down l w c x answered fails) Silent
lower-down-silent idle w c (message m) answered fails = first-silent w c m answered fails
lower-down-silent idle w c the_end answered fails = unless-silent w fails c
lower-down-silent (writes m) w c x answered fails = when-each Silent (takes_next m.state (pending_at w c m) x) _ (λ _. turn-silent w c m x (down_turn m.state (above_of x)) fails)
lower-down-silent (serves b t) w c x answered fails = unless-silent w fails c
lower-down-silent recovers w c x answered fails = next-silent w c x fails
lower-down-silent ended_below w c x answered fails = tt

pub lower-ready-silent : (l : Lower) (w : World) (c : ℕ) (fails : Bool) → IfSome (lower_ready l w c fails) Silent
lower-ready-silent idle w c fails = tt
lower-ready-silent (writes m) w c fails = ready-as w c m (ready_turn_at m.state (replica_at w c (block_of m.fields))) fails
lower-ready-silent (serves b t) w c fails = serve-silent w c b t (next_call t) fails
lower-ready-silent recovers w c fails = tt
lower-ready-silent ended_below w c fails = tt

pub mirror-up-silent : (l : Lower) (w : World) (d : ℕ) (x : Next) (fails : Bool) → IfSome (mirror_up l w d x fails) Silent
mirror-up-silent idle w d x fails = tt
mirror-up-silent (writes m) w d x fails = when-each Silent (is_alive w (w.dialled d).to) _ (λ _. up-silent w d m x fails)
mirror-up-silent (serves b t) w d x fails = tt
mirror-up-silent recovers w d x fails = tt
mirror-up-silent ended_below w d x fails = tt

-- WRITERS

-- An answer to a close, of this writer, in a change that leaves replicas and bytes as they are.
pub record Answers (w : World) (b : ℕ) (k : Change) : Type 0 where
  pub replica : k.replica ≡ w.replicas k.node k.block
  pub bytes : k.bytes ≡ []
  pub stamped : k.stamped ≡ None
  pub told : IfSome k.answered (λ a. IsClose a → AnswersClose b (heard (w.writers b)) a)

-- a change that answers nothing, or what a writer answers
pub data Tells (w : World) (k : Change) : Type 0 where
  is_silent : k.answered ≡ None → Tells w k
  tells_of : (b : ℕ) → Answers w b k → Tells w k

pub silent-tells : (w : World) (o : Option Change) → IfSome o Silent → IfSome o (Tells w)
silent-tells w o s = some-weaker Silent (Tells w) o (λ k x. is_silent x.none) s

-- where the writer answers as one that answers a close
abbrev Means : World → ℕ → WriterRecord → Type 0
Means w b x = (a : Answered) → AnswersClose b x a → AnswersClose b (heard (w.writers b)) a

did-tells : (w : World) (b : ℕ) (x : WriterRecord) (waits : Option Waiting) (a : Action) (y : WriterRecord) (bytes : List ℕ) → Means w b x → LastBy b x waits a → IfSome (did w b waits a y bytes) (Tells w)
did-tells w b x waits action.Wait y bytes m l = tt
did-tells w b x waits action.Took y bytes m l = is_silent refl
did-tells w b x waits (action.Ask c) y bytes m l = tt
did-tells w b x waits (action.Dial to r) y bytes m l = tt
did-tells w b x waits (action.Send p) y bytes m l = is_silent refl
did-tells w b x waits (action.Answered n c) y bytes m l = tells_of b (record {
  replica = refl;
  bytes = refl;
  stamped = refl;
  told = some-weaker (λ a. IsClose a → AnswersClose b x a) (λ a. IsClose a → AnswersClose b (heard (w.writers b)) a) (reached_answer b waits c) (λ a h q. m a (h q)) l;
})
did-tells w b x waits action.Memory y bytes m l = tt

dialled-tells : (w : World) (b : ℕ) (x : WriterRecord) (to : NodeId) (r : Op) (answered : Bool) → Tells w (dialled_change w b x to r answered)
dialled-tells w b x to r true = is_silent refl
dialled-tells w b x to r false = is_silent refl

dialling-tells : (w : World) (b : ℕ) (x : WriterRecord) (a : Action) (answered : Bool) → Tells w (dialling w b x a answered)
dialling-tells w b x action.Wait answered = is_silent refl
dialling-tells w b x action.Took answered = is_silent refl
dialling-tells w b x (action.Ask c) answered = is_silent refl
dialling-tells w b x (action.Dial to r) answered = dialled-tells w b x to r (answered && w.running to.0)
dialling-tells w b x (action.Send p) answered = is_silent refl
dialling-tells w b x (action.Answered n a) answered = is_silent refl
dialling-tells w b x action.Memory answered = is_silent refl

rest-tells : (p : Phase) (w : World) (b : ℕ) (x : WriterRecord) (answered : Bool) → x.phase ≡ p → Means w b x → IfSome (rest_in p w b x answered) (Tells w)
rest-tells phase.Closed w b x answered e m = is_silent refl
rest-tells (phase.Wanted s) w b x answered e m = is_silent refl
rest-tells (phase.Stamped s stamp) w b x answered e m = dialling-tells w b x (dial_step x s stamp).action answered
rest-tells (phase.Requested s stamp) w b x answered e m = is_silent refl
rest-tells (phase.Accepted s stamp) w b x answered e m = is_silent refl
rest-tells phase.Opened w b x answered e m = did-tells w b x x.waiting (open_step x).action (open_step x).writer [] m tt
rest-tells (phase.Streaming sent) w b x answered e m = is_silent refl
rest-tells phase.Closing w b x answered e m = is_silent refl
rest-tells phase.Finished w b x answered e m = is_silent refl
rest-tells phase.Completed w b x answered e m = did-tells w b x x.waiting (completed_step x).action (completed_step x).writer [] m (completed-last b x e)
rest-tells (phase.Failed f) w b x answered e m = is_silent refl

-- a command that is given doesn't change what waits
given-waits : (x : WriterRecord) (c : Command) → (given x c).waiting ≡ x.waiting
given-waits x c = go (admitted x.intake c)
  where
    go : (r : Result Intake CommandFault) → (given_as x c r).waiting ≡ x.waiting
    go (Ok i) = refl
    go (Err e) = refl

ruled-queue : (x : WriterRecord) (c d : Command) (r : Rule) → (given (ruled x d r) c).queue ≡ (given x c).queue
ruled-queue x c d r = go d
  where
    same : (y : WriterRecord) → y.queue ≡ x.queue → y.intake ≡ x.intake → (given y c).queue ≡ (given x c).queue
    same y q i = step (admitted y.intake c) (admitted x.intake c) (ap (λ (z : Intake). admitted z c) i)
      where
        step : (a d : Result Intake CommandFault) → a ≡ d → (given_as y c a).queue ≡ (given_as x c d).queue
        step a (Ok j) e = ap (λ (z : Result Intake CommandFault). (given_as y c z).queue) e ∙ ap (λ (xs : List Command). xs ++ c ∷ []) q
        step a (Err j) e = ap (λ (z : Result Intake CommandFault). (given_as y c z).queue) e ∙ q

    go : (d : Command) → (given (ruled x d r) c).queue ≡ (given x c).queue
    go (command.Create members) = same (ruled x (command.Create members) r) refl refl
    go (command.Append members) = refl
    go (command.Write bytes) = refl
    go (command.Fill count) = refl
    go command.Hflush = refl
    go command.Hsync = refl
    go command.Close = refl

-- where a block is completed, no command is taken
completed-keeps : (z : WriterRecord) → z.phase ≡ phase.Completed → (own_step z).writer.queue ≡ z.queue
unfolding own_step
completed-keeps z e = ap (λ (p : Phase). (step_in z p).writer.queue) e

command-tells : (w : World) (b : ℕ) (x : WriterRecord) (t : TakenCommand) → IfSome (takes_command w b x t) (Tells w)
command-tells w b x t =
    when-each (Tells w) (is_formed t.command t.rule && not (is_empty (given x t.command).queue)) _
    (λ e. when-each (Tells w) (is_empty (own_step z).writer.queue) _ (λ q.
    did-tells w b z y.waiting (own_step z).action (own_step z).writer (command_bytes y t.command) (λ a l. absurd (never q (and-right (is_formed t.command t.rule) (not (is_empty (given x t.command).queue)) e) l.phase_is))
    (subst (λ (o : Option Waiting). LastBy b z o (own_step z).action) (given-waits y t.command) (own-step-last b z))))
  where
    y : WriterRecord
    y = ruled x t.command t.rule

    z : WriterRecord
    z = given y t.command

    never : is_empty (own_step z).writer.queue ≡ true → not (is_empty (given x t.command).queue) ≡ true → z.phase ≡ phase.Completed → ⊥
    never q n e =
        let same : (own_step z).writer.queue ≡ (given x t.command).queue = completed-keeps z e ∙ ruled-queue x t.command t.command t.rule in
        both (is_empty (given x t.command).queue) (sym (ap is_empty same) ∙ q) n
      where
        both : (b : Bool) → b ≡ true → not b ≡ true → ⊥
        both true p r = false≢true r
        both false p r = false≢true p

-- what the writer knows once it took the office's answer
means-of : (w : World) (b : ℕ) (o : Option Told) → (w.writers b).told ≡ o → Means w b (known_heard (w.writers b).known o)
means-of w b o e = λ a h. subst (λ (q : Option Told). AnswersClose b (known_heard (w.writers b).known q) a) (sym e) h

step-tells : (w : World) (b : ℕ) (told : Option Told) (t : Option TakenCommand) (answered : Bool) → (w.writers b).told ≡ told → IfSome (writer_step w b (w.writers b).known told t answered) (Tells w)
step-tells w b (Some told) None answered e =
    let x = granted (w.writers b).known told in rest-tells x.phase w b x answered refl (means-of w b (Some told) e)
step-tells w b (Some told) (Some t) answered e = tt
step-tells w b None None answered e =
    let x = (w.writers b).known in did-tells w b x x.waiting (own_step x).action (own_step x).writer [] (means-of w b None e) (own-step-last b x)
step-tells w b None (Some t) answered e = command-tells w b (w.writers b).known t

pub own-writer-tells : (w : World) (b : ℕ) (t : Option TakenCommand) (answered : Bool) → IfSome (own_writer w b t answered) (Tells w)
own-writer-tells w b t answered = step-tells w b (w.writers b).told t answered refl

pub writer-up-silent : (w : World) (b c : ℕ) (x : Next) → IfSome (writer_up w b c x) Silent
writer-up-silent w b c x = when-each Silent (is_conn (w.writers b).conn c && is_none (w.writers b).told) _ (λ _. record { none = refl })

-- READERS

dials-silent : (w : World) (i n : ℕ) (r : ReadOp) (answered : Bool) → Silent (reader_dials w i n r answered)
dials-silent w i n r true = record { none = refl }
dials-silent w i n r false = record { none = refl }

own-reader-as : (x : Reader) (w : World) (i n : ℕ) (r : ReadOp) (answered : Bool) → IfSome (own_reader_as x w i n r answered) Silent
own-reader-as no_reader w i n r answered = dials-silent w i n r _
own-reader-as (reads c s) w i n r answered = tt
own-reader-as (has_read b) w i n r answered = tt

pub own-reader-silent : (w : World) (i n : ℕ) (r : ReadOp) (answered : Bool) → IfSome (own_reader w i n r answered) Silent
own-reader-silent w i n r answered = own-reader-as (w.readers i) w i n r answered

reader-turn-silent : (w : World) (i c : ℕ) (t : ReadTaken) (d : ReadTurn) → Silent (reader_turn w i c t d)
reader-turn-silent w i c t turn.Goes = record { none = refl }
reader-turn-silent w i c t turn.Verified = record { none = refl }
reader-turn-silent w i c t (turn.Fails f) = record { none = refl }

reader-up-as : (r : Reader) (w : World) (i c : ℕ) (x : Next) → IfSome (reader_up_as r w i c x) Silent
reader-up-as no_reader w i c x = tt
reader-up-as (reads d s) w i c x =
    when-each Silent (d == c) _ (λ _. reader-turn-silent w i c (take_from s (from_node_of x)) (take_from s (from_node_of x)).does)
reader-up-as (has_read b) w i c x = tt

pub reader-up-silent : (w : World) (i c : ℕ) (x : Next) → IfSome (reader_up w i c x) Silent
reader-up-silent w i c x = reader-up-as (w.readers i) w i c x

-- PRIMARIES

begins-as : (t : Told) (w : World) (i : ℕ) (at : Place) (b : BlockId) (members : List NodeId) (answers : List Bool) → IfSome (begins_as t w i at b members answers) Silent
begins-as (Ok (office.Stamp s)) w i at b members answers = tt
begins-as (Ok (office.Reopened r)) w i at b members answers = tt
begins-as (Ok (office.Begun begun)) w i at b members answers = record { none = refl }
begins-as (Ok office.Nothing) w i at b members answers = tt
begins-as (Err fault) w i at b members answers = record { none = refl }

begins-at : (p : Primary) (w : World) (i n : ℕ) (b : BlockId) (members : List NodeId) (answers : List Bool) → IfSome (begins_at p w i n b members answers) Silent
begins-at no_primary w i n b members answers = tt
begins-at (was_told asked told) w i n b members answers =
    when-each Silent (asked.0 == b.0 && w.running n && are_members members) (begins_as told w i (place_of w n) b members answers)
    (λ e. begins-as told w i (place_of w n) b members answers)
begins-at (leads l) w i n b members answers = tt
begins-at (has_led r) w i n b members answers = tt

pub own-recover-silent : (w : World) (i n : ℕ) (b : BlockId) (members : List NodeId) (answers : List Bool) → IfSome (own_recover w i n b members answers) Silent
own-recover-silent w i n b members answers = begins-at (w.primaries i) w i n b members answers

leads-step-silent : (s : OwnStep) (w : World) (i : ℕ) (l : Leading) (p : PrimaryState) → IfSome (leads_step s w i l p) Silent
leads-step-silent own.Waits w i l p = tt
leads-step-silent (own.Updates c) w i l p = record { none = refl }
leads-step-silent (own.Commits c) w i l p = tt
leads-step-silent (own.Ends r) w i l p = record { none = refl }

commits-silent : (s : OwnStep) (w : World) (i : ℕ) (l : Leading) (t : Told) → IfSome (commits_step s w i l t) Silent
commits-silent own.Waits w i l t = tt
commits-silent (own.Updates c) w i l t = tt
commits-silent (own.Commits c) w i l t = record { none = refl }
commits-silent (own.Ends r) w i l t = tt

leads-told-silent : (t : Option Told) (w : World) (i : ℕ) (l : Leading) → IfSome (leads_told t w i l) Silent
leads-told-silent None w i l = leads-step-silent (primary.own_step l.state).does w i l (primary.own_step l.state).primary
leads-told-silent (Some told) w i l = commits-silent (primary.own_step l.state).does w i l told

own-primary-as : (p : Primary) (w : World) (i : ℕ) → IfSome (own_primary_as p w i) Silent
own-primary-as no_primary w i = tt
own-primary-as (was_told b t) w i = tt
own-primary-as (leads l) w i = when-each Silent (is_alive w l.at) _ (λ _. leads-told-silent l.told w i l)
own-primary-as (has_led r) w i = tt

pub own-primary-silent : (w : World) (i : ℕ) → IfSome (own_primary w i) Silent
own-primary-silent w i = own-primary-as (w.primaries i) w i

hears-silent : (w : World) (i : ℕ) (l : Leading) (place c : ℕ) (x : Next) (o : Option Standing) → IfSome (hears_change w i l place c x o) Silent
hears-silent w i l place c x None = tt
hears-silent w i l place c x (Some s) = when-each Silent (listens l.state.phase s) _ (λ _. record { none = refl })

primary-up-as : (p : Primary) (w : World) (i place c : ℕ) (x : Next) → IfSome (primary_up_as p w i place c x) Silent
primary-up-as no_primary w i place c x = tt
primary-up-as (was_told b t) w i place c x = tt
primary-up-as (leads l) w i place c x =
    when-each Silent (is_alive w l.at && is_none l.told) (hears_change w i l place c x (slice_get l.state.standings place))
    (λ _. hears-silent w i l place c x (slice_get l.state.standings place))
primary-up-as (has_led r) w i place c x = tt

pub primary-up-silent : (w : World) (i place c : ℕ) (x : Next) → IfSome (primary_up w i place c x) Silent
primary-up-silent w i place c x = primary-up-as (w.primaries i) w i place c x

-- THE OFFICE

writer-asks-silent : (a : Action) (w : World) (b : ℕ) → IfSome (writer_asks a w b) Silent
writer-asks-silent action.Wait w b = tt
writer-asks-silent action.Took w b = tt
writer-asks-silent (action.Ask c) w b = record { none = refl }
writer-asks-silent (action.Dial to r) w b = tt
writer-asks-silent (action.Send p) w b = tt
writer-asks-silent (action.Answered n a) w b = tt
writer-asks-silent action.Memory w b = tt

commits-asked : (s : OwnStep) (w : World) (i : ℕ) (l : Leading) → IfSome (primary_commits s w i l) Silent
commits-asked own.Waits w i l = tt
commits-asked (own.Updates c) w i l = tt
commits-asked (own.Commits c) w i l = record { none = refl }
commits-asked (own.Ends r) w i l = tt

primary-asks-silent : (p : Primary) (w : World) (i : ℕ) (b : BlockId) → IfSome (primary_asks p w i b) Silent
primary-asks-silent no_primary w i b = record { none = refl }
primary-asks-silent (was_told c t) w i b = tt
primary-asks-silent (leads l) w i b = when-each Silent (is_alive w l.at && is_none l.told) _ (λ _. commits-asked (primary.own_step l.state).does w i l)
primary-asks-silent (has_led r) w i b = tt

pub office-silent : (w : World) (c : Caller) → IfSome (office_event w c) Silent
office-silent w (caller.Writer b) =
    when-each Silent (is_none (w.writers b.0).told) _ (λ _. writer-asks-silent (own_step (w.writers b.0).known).action w b.0)
office-silent w (caller.Primary i b) = primary-asks-silent (w.primaries i) w i b
