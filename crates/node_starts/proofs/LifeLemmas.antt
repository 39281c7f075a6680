-- In which life of its node a connection was dialled.
use Rattle.std.proofs.Common.{◌≡◌, ℕ, zero, suc, ◌<◌, ◌≤◌, ◌+◌, Bool, true, false, List, [], ◌∷◌, length, Option, Some, None, IfSome, Result, Ok, Err, refl, sym, ap, subst, arith, eqb-true}
use Rattle.std.specs.Prelude.{◌==◌, ◌-◌, ◌&&◌, not, is_none, nat_le, nat_lt, slice_get, option_map, unwrap_or, if◌then◌else◌}
use Rattle.std.proofs.lemmas.Bool.Decides.{nat_tests}
use Rattle.std.proofs.lemmas.Option.{none-some}
use Rattle.hd_base.specs.declared.numbers.BlockId.{BlockId}
use Rattle.hd_base.specs.declared.numbers.NodeId.{NodeId}
use Rattle.name_core.specs.declared.calls.OfficeAnswer.TheVariants as office
use Rattle.op_headers.specs.declared.ops.Op.TheVariants as op
use Rattle.op_headers.specs.declared.ops.Op.{Op}
use Rattle.op_headers.specs.declared.ops.ReadOp.{ReadOp}
use Rattle.op_headers.specs.Values.{WriteFields}
use Rattle.member_core.specs.declared.member.Mirror.{Mirror}
use Rattle.member_core.specs.declared.member.Mirror.TheVariants as mirror
use Rattle.member_core.specs.declared.turns.Turn.{Turn}
use Rattle.member_core.specs.Members.{MemberState}
use Rattle.packet_codec.specs.declared.packets.Packet.{Packet}
use Rattle.world.specs.ReadCore.ReadTurn.{ReadTurn}
use Rattle.world.specs.ReadCore.ReadTurn.TheVariants as turn
use Rattle.world.specs.ReadCore.Readings.{ReadTaken, take_from}
use Rattle.world.specs.ReadCore.Servings.{ServingState}
use Rattle.recovery_core.specs.declared.members.RecoveryReply.{RecoveryReply}
use Rattle.recovery_core.specs.declared.primary.OwnStep.{OwnStep as LeadStep}
use Rattle.recovery_core.specs.declared.primary.OwnStep.TheVariants as lead
use Rattle.recovery_core.specs.declared.standings.Standing.{Standing}
use Rattle.replica_core.specs.declared.events.Event.{Event as ReplicaStep}
use Rattle.replica_model.specs.declared.events.ReplicaEvent.{ReplicaEvent}
use Rattle.request_refusals.specs.declared.refusals.RequestRefusal.{RequestRefusal}
use Rattle.writer_core.specs.declared.actions.Action.{Action}
use Rattle.writer_core.specs.declared.actions.Action.TheVariants as action
use Rattle.writer_core.specs.declared.phases.Phase.{Phase}
use Rattle.writer_core.specs.declared.phases.Phase.TheVariants as phase
use Rattle.writer_core.specs.declared.phases.Waiting.{Waiting}
use Rattle.writer_core.specs.declared.records.WriterRecord.{WriterRecord}
use Rattle.writer_core.specs.Transitions as writer
use Rattle.recovery_core.specs.Primaries as recovery
use Rattle.recovery_core.specs.Primaries.{PrimaryState}
use Rattle.op_headers.specs.declared.ops.RecoveryOp.{RecoveryOp}
use Rattle.world.specs.declared.events.Caller.{Caller}
use Rattle.world.specs.declared.events.Caller.TheVariants as caller
use Rattle.world.specs.declared.events.Delivery.{Delivery}
use Rattle.world.specs.declared.events.Delivery.TheVariants as delivery
use Rattle.world.specs.declared.events.Direction.{Direction}
use Rattle.world.specs.declared.events.Direction.TheVariants as direction
use Rattle.world.specs.declared.events.Event.{Event}
use Rattle.world.specs.declared.events.Event.TheVariants as event
use Rattle.world.specs.declared.events.FoundReplica.{FoundReplica}
use Rattle.world.specs.declared.events.OwnStep.{OwnStep}
use Rattle.world.specs.declared.events.OwnStep.TheVariants as own
use Rattle.world.specs.declared.events.TakenCommand.{TakenCommand}
use Rattle.world.specs.Parts.{Message, request, packet, ack, response, read_status, recovery_answer, Upper, by_writer, by_member, by_reader, by_primary, Place, Dialled, FullMember, Lower, idle, writes, serves, recovers, ended_below, Told, Leading, Reader, no_reader, reads, has_read, Primary, no_primary, was_told, leads, has_led}
use Rattle.world.specs.Worlds.{World, Change, Dial, start, apply, dial_at, put}
use Rattle.world.specs.Connections.{Next, message, the_end, next_down, next_up, down_taken, up_taken, is_alive, is_served, place_of}
use Rattle.world.specs.Nodes.{unless_failing, closing, mirror_dial, dials_of, member_dials, setup_change, failing_write, write_request, failing_turn, turn_change, member_down, member_up, ready_change, member_ready, failing_read, read_change, read_request, piece_as, serve_change, failing_recovery, recovery_request, first_message, next_recovery, lower_down, lower_ready, mirror_up, takes_next, pending_at}
use Rattle.world.specs.Clients.{writer_change, did, dialled_change, dialling, rest_in, is_empty, is_formed, ruled, command_bytes, takes_step, takes_given, takes_command, writer_step, own_writer, writer_up, reader_dials, own_reader_as, own_reader, reader_turn, reader_up_as, reader_up}
use Rattle.world.specs.Primaries.{primary_dials, begins_as, begins_at, leads_step, commits_step, leads_told, own_primary_as, hears_change, primary_up_as, listens, writer_asks, primary_commits, primary_asks, office_event}
use Rattle.world.specs.Events.{changed, own_change, down_as, down_event, ready_event, unless_fails, upper_up, up_as, up_event, fault_event, lost, where_so, outcome, after_event, happens, run}
use Rattle.world.specs.Restarts.{restart}
use Rattle.world_breaks.specs.WorldLaws.Growing.{Grows, PastGrows}
use Rattle.world_breaks.proofs.WorldLaws.FactTables.{when-each}
use Rattle.node_starts.specs.Lives.{IsLived, DialsAreLived}

-- DIALS

-- A new connection is dialled in a life of its node that has begun.
abbrev IsNew : (ℕ → ℕ) → Place → Type 0
IsNew lives to = to.life ≤ lives to.node

-- Each of these dials is.
abbrev AreNew : World → List Dial → Type 0
AreNew w dials = (j : ℕ) (d : Dial) → slice_get dials j ≡ Some d → IsNew w.lives d.dialled.to

-- So are those of a change.
abbrev DialsNew : World → Change → Type 0
DialsNew w k = AreNew w k.dials

none_new : (w : World) → AreNew w []
none_new w j d e = absurd (none-some d e)

same_dial : (a b : Dial) → ◌≡◌ {A = Option Dial} (Some a) (Some b) → a ≡ b
same_dial a b e = cc

here_new : (w : World) (n : ℕ) → IsNew w.lives (place_of w n)
here_new w n = omega arith

one_new : (w : World) (x : Dial) → IsNew w.lives x.dialled.to → AreNew w (x ∷ [])
one_new w x is zero d e = subst (λ (y : Dial). IsNew w.lives y.dialled.to) (same_dial x d e) is
one_new w x is (suc j) d e = absurd (none-some d e)

-- LOWER ENDS

unless_new : (w : World) (fails : Bool) (k : Change) → DialsNew w k → IfSome (unless_failing fails k) (DialsNew w)
unless_new w true k f = tt
unless_new w false k f = f

closing_new : (w : World) (c : ℕ) → DialsNew w (closing w c)
closing_new w c = none_new w

mirror_new : (w : World) (c : ℕ) (fields : Option WriteFields) (node : Option ℕ) → AreNew w (mirror_dial w c fields node)
mirror_new w c None number = none_new w
mirror_new w c (Some fields) None = none_new w
mirror_new w c (Some fields) (Some n) = one_new w _ (here_new w n)

dials_new : (m : Mirror) (w : World) (c : ℕ) (fields : WriteFields) → AreNew w (dials_of m w c fields)
dials_new mirror.Asked w c fields = mirror_new w c _ _
dials_new other w c fields = none_new w

member_new : (o : Option MemberState) (w : World) (c : ℕ) (fields : WriteFields) → AreNew w (member_dials o w c fields)
member_new None w c fields = none_new w
member_new (Some m) w c fields = dials_new m.mirror w c fields

failing_write_new : (w : World) (c : ℕ) (fields : WriteFields) (e : Result ReplicaStep RequestRefusal) → IfSome (failing_write w c fields e) (DialsNew w)
failing_write_new w c fields (Err refused) = tt
failing_write_new w c fields (Ok e) = member_new None w c fields

write_new : (w : World) (c : ℕ) (fields : WriteFields) (answered fails : Bool) → IfSome (write_request w c fields answered fails) (DialsNew w)
write_new w c fields answered true = failing_write_new w c fields _
write_new w c fields answered false = member_new _ w c fields

read_new : (w : World) (c b : ℕ) (r : Result ServingState RequestRefusal) → DialsNew w (read_change w c b r)
read_new w c b (Ok s) = none_new w
read_new w c b (Err e) = none_new w

failing_read_new : (w : World) (c b : ℕ) (e : Result ReplicaStep RequestRefusal) → IfSome (failing_read w c b e) (DialsNew w)
failing_read_new w c b (Err refused) = tt
failing_read_new w c b (Ok e) = none_new w

failing_recovery_new : (w : World) (c : ℕ) (r : RecoveryOp) (e : Result ReplicaStep RecoveryReply) → IfSome (failing_recovery w c r e) (DialsNew w)
failing_recovery_new w c r (Err said) = tt
failing_recovery_new w c r (Ok e) = none_new w

recovery_new : (w : World) (c : ℕ) (r : RecoveryOp) (fails : Bool) → IfSome (recovery_request w c r fails) (DialsNew w)
recovery_new w c r true = failing_recovery_new w c r _
recovery_new w c r false = none_new w

read_request_new : (w : World) (c : ℕ) (r : ReadOp) (fails : Bool) → IfSome (read_request w c r fails) (DialsNew w)
read_request_new w c r true = failing_read_new w c r.block.block.0 _
read_request_new w c r false = read_new w c r.block.block.0 _

first_new : (w : World) (c : ℕ) (m : Message) (answered fails : Bool) → IfSome (first_message w c m answered fails) (DialsNew w)
first_new w c (request (op.Write fields)) answered fails = write_new w c fields answered fails
first_new w c (request (op.Read r)) answered fails = read_request_new w c r fails
first_new w c (request (op.Recovery r)) answered fails = recovery_new w c r fails
first_new w c (request other) answered fails = unless_new w fails (closing w c) (closing_new w c)
first_new w c (packet p) answered fails = unless_new w fails (closing w c) (closing_new w c)
first_new w c (ack a) answered fails = unless_new w fails (closing w c) (closing_new w c)
first_new w c (response r) answered fails = unless_new w fails (closing w c) (closing_new w c)
first_new w c (read_status s) answered fails = unless_new w fails (closing w c) (closing_new w c)
first_new w c (recovery_answer a) answered fails = unless_new w fails (closing w c) (closing_new w c)

next_new : (w : World) (c : ℕ) (x : Next) (fails : Bool) → IfSome (next_recovery w c x fails) (DialsNew w)
next_new w c (message (request (op.Recovery r))) fails = recovery_new w c r fails
next_new w c (message (request other)) fails = unless_new w fails (closing w c) (closing_new w c)
next_new w c (message (packet p)) fails = unless_new w fails (closing w c) (closing_new w c)
next_new w c (message (ack a)) fails = unless_new w fails (closing w c) (closing_new w c)
next_new w c (message (response r)) fails = unless_new w fails (closing w c) (closing_new w c)
next_new w c (message (read_status s)) fails = unless_new w fails (closing w c) (closing_new w c)
next_new w c (message (recovery_answer a)) fails = unless_new w fails (closing w c) (closing_new w c)
next_new w c the_end fails = unless_new w fails (closing w c) (closing_new w c)

failing_turn_new : (w : World) (c : ℕ) (m : FullMember) (x : Next) (t : Turn) (e : Option ReplicaEvent) → IfSome (failing_turn w c m x t e) (DialsNew w)
failing_turn_new w c m x t None = tt
failing_turn_new w c m x t (Some e) = none_new w

turn_new : (w : World) (c : ℕ) (m : FullMember) (x : Next) (t : Turn) (fails : Bool) → IfSome (turn_change w c m x t fails) (DialsNew w)
turn_new w c m x t true = failing_turn_new w c m x t t.call
turn_new w c m x t false = none_new w

lower_down_new : (l : Lower) (w : World) (c : ℕ) (x : Next) (answered fails : Bool) → IfSome (lower_down l w c x answered fails) (DialsNew w)
lower_down_new idle w c (message m) answered fails = first_new w c m answered fails
lower_down_new idle w c the_end answered fails = unless_new w fails (closing w c) (closing_new w c)
lower_down_new (writes m) w c x answered fails =
    when-each (DialsNew w) (takes_next m.state (pending_at w c m) x) _ (λ e. turn_new w c m x _ fails)
lower_down_new (serves b s) w c x answered fails = unless_new w fails (closing w c) (closing_new w c)
lower_down_new recovers w c x answered fails = next_new w c x fails
lower_down_new ended_below w c x answered fails = tt

ready_new : (w : World) (c : ℕ) (m : FullMember) (t : Option Turn) (fails : Bool) → IfSome (ready_change w c m t fails) (DialsNew w)
ready_new w c m None fails = tt
ready_new w c m (Some t) fails = turn_new w c m the_end t fails

piece_new : (w : World) (c b : ℕ) (s : ServingState) (p : Option Packet) → DialsNew w (piece_as w c b s p)
piece_new w c b s None = none_new w
piece_new w c b s (Some p) = none_new w

serve_new : (w : World) (c b : ℕ) (s : ServingState) (e : Option ReplicaStep) (fails : Bool) → IfSome (serve_change w c b s e fails) (DialsNew w)
serve_new w c b s None fails = tt
serve_new w c b s (Some e) true = none_new w
serve_new w c b s (Some e) false = piece_new w c b _ _

lower_ready_new : (l : Lower) (w : World) (c : ℕ) (fails : Bool) → IfSome (lower_ready l w c fails) (DialsNew w)
lower_ready_new (writes m) w c fails = ready_new w c m _ fails
lower_ready_new (serves b s) w c fails = serve_new w c b s _ fails
lower_ready_new idle w c fails = tt
lower_ready_new recovers w c fails = tt
lower_ready_new ended_below w c fails = tt

-- UPPER ENDS

mirror_up_new : (l : Lower) (w : World) (d : ℕ) (x : Next) (fails : Bool) → IfSome (mirror_up l w d x fails) (DialsNew w)
mirror_up_new (writes m) w d x fails =
    when-each (DialsNew w) (is_alive w (w.dialled d).to) _ (λ e. when-each (DialsNew w) (Rattle.member_core.specs.Members.hears m.state) (turn_change w d m x (Rattle.member_core.specs.Members.up_turn m.state (slice_get (Rattle.world.specs.Nodes.replica_at w d (Rattle.world.specs.Nodes.block_of m.fields)).known.pending 0) (Rattle.world.specs.Nodes.below_of x)) fails) (λ f. turn_new w d m x (Rattle.member_core.specs.Members.up_turn m.state (slice_get (Rattle.world.specs.Nodes.replica_at w d (Rattle.world.specs.Nodes.block_of m.fields)).known.pending 0) (Rattle.world.specs.Nodes.below_of x)) fails))
mirror_up_new idle w d x fails = tt
mirror_up_new (serves b s) w d x fails = tt
mirror_up_new recovers w d x fails = tt
mirror_up_new ended_below w d x fails = tt

fails_new : (w : World) (fails : Bool) (k : Option Change) → IfSome k (DialsNew w) → IfSome (unless_fails fails k) (DialsNew w)
fails_new w true k f = tt
fails_new w false k f = f

writer_up_new : (w : World) (b c : ℕ) (x : Next) → IfSome (writer_up w b c x) (DialsNew w)
writer_up_new w b c x = when-each (DialsNew w) (Rattle.world.specs.Connections.is_conn (w.writers b).conn c && is_none {T = Told} (w.writers b).told) (Some (writer_change w b (Rattle.world.specs.Clients.writer_hears (w.writers b).known x))) (λ e. none_new w)

reader_turn_new : (w : World) (i c : ℕ) (t : ReadTaken) (u : ReadTurn) → DialsNew w (reader_turn w i c t u)
reader_turn_new w i c t turn.Goes = none_new w
reader_turn_new w i c t turn.Verified = none_new w
reader_turn_new w i c t (turn.Fails f) = none_new w

reader_up_new : (r : Reader) (w : World) (i c : ℕ) (x : Next) → IfSome (reader_up_as r w i c x) (DialsNew w)
reader_up_new no_reader w i c x = tt
reader_up_new (reads d s) w i c x = when-each (DialsNew w) (d == c) _ (λ e. reader_turn_new w i c (take_from s (Rattle.world.specs.Clients.from_node_of x)) _)
reader_up_new (has_read r) w i c x = tt

hears_new : (w : World) (i : ℕ) (l : Leading) (place c : ℕ) (x : Next) (s : Option Standing) → IfSome (hears_change w i l place c x s) (DialsNew w)
hears_new w i l place c x None = tt
hears_new w i l place c x (Some s) = when-each (DialsNew w) (listens l.state.phase s) _ (λ e. none_new w)

primary_up_new : (p : Primary) (w : World) (i place c : ℕ) (x : Next) → IfSome (primary_up_as p w i place c x) (DialsNew w)
primary_up_new no_primary w i place c x = tt
primary_up_new (was_told b t) w i place c x = tt
primary_up_new (leads l) w i place c x = when-each (DialsNew w) (is_alive w l.at && is_none {T = Told} l.told) (hears_change w i l place c x (slice_get {X = Standing} l.state.standings place)) (λ e. hears_new w i l place c x (slice_get {X = Standing} l.state.standings place))
primary_up_new (has_led r) w i place c x = tt

upper_new : (u : Upper) (w : World) (c : ℕ) (x : Next) (fails : Bool) → IfSome (upper_up u w c x fails) (DialsNew w)
upper_new (by_writer b) w c x fails = fails_new w fails _ (writer_up_new w b c x)
upper_new (by_member d) w c x fails = mirror_up_new (w.lowers d) w d x fails
upper_new (by_reader i) w c x fails = fails_new w fails _ (reader_up_new (w.readers i) w i c x)
upper_new (by_primary i p) w c x fails = fails_new w fails _ (primary_up_new (w.primaries i) w i p c x)

-- OWN STEPS

did_new : (w : World) (b : ℕ) (waits : Option Waiting) (a : Action) (x : WriterRecord) (bytes : List ℕ) → IfSome (did w b waits a x bytes) (DialsNew w)
did_new w b waits action.Wait x bytes = tt
did_new w b waits action.Took x bytes = none_new w
did_new w b waits (action.Ask c) x bytes = tt
did_new w b waits (action.Dial to r) x bytes = tt
did_new w b waits (action.Send p) x bytes = none_new w
did_new w b waits (action.Answered n a) x bytes = none_new w
did_new w b waits action.Memory x bytes = tt

dialled_new : (w : World) (b : ℕ) (x : WriterRecord) (to : NodeId) (r : Op) (answered : Bool) → DialsNew w (dialled_change w b x to r answered)
dialled_new w b x to r true = one_new w _ (omega arith)
dialled_new w b x to r false = none_new w

dialling_new : (w : World) (b : ℕ) (x : WriterRecord) (a : Action) (answered : Bool) → DialsNew w (dialling w b x a answered)
dialling_new w b x action.Wait answered = none_new w
dialling_new w b x action.Took answered = none_new w
dialling_new w b x (action.Ask c) answered = none_new w
dialling_new w b x (action.Dial to r) answered = dialled_new w b x to r _
dialling_new w b x (action.Send p) answered = none_new w
dialling_new w b x (action.Answered n a) answered = none_new w
dialling_new w b x action.Memory answered = none_new w

rest_new : (p : Phase) (w : World) (b : ℕ) (x : WriterRecord) (answered : Bool) → IfSome (rest_in p w b x answered) (DialsNew w)
rest_new (phase.Stamped s stamp) w b x answered = dialling_new w b x _ answered
rest_new phase.Opened w b x answered = did_new w b x.waiting (writer.open_step x).action (writer.open_step x).writer []
rest_new phase.Completed w b x answered = did_new w b x.waiting (writer.completed_step x).action (writer.completed_step x).writer []
rest_new other w b x answered = none_new w

takes_step_new : (w : World) (b : ℕ) (waits : Option Waiting) (t : writer.Step) (bytes : List ℕ) → IfSome (takes_step w b waits t bytes) (DialsNew w)
takes_step_new w b waits t bytes = when-each (DialsNew w) (is_empty t.writer.queue) (did w b waits t.action t.writer bytes) (λ e. did_new w b waits t.action t.writer bytes)

takes_new : (w : World) (b : ℕ) (x : WriterRecord) (t : TakenCommand) → IfSome (takes_command w b x t) (DialsNew w)
takes_new w b x t =
    let y = ruled x t.command t.rule in
    when-each (DialsNew w) (is_formed t.command t.rule && not (is_empty (writer.given x t.command).queue)) (takes_given w b y t.command)
    (λ e. takes_step_new w b y.waiting (writer.own_step (writer.given y t.command)) (command_bytes y t.command))

writer_step_new : (w : World) (b : ℕ) (x : WriterRecord) (told : Option Told) (takes : Option TakenCommand) (answered : Bool) → IfSome (writer_step w b x told takes answered) (DialsNew w)
writer_step_new w b x (Some told) None answered = rest_new _ w b _ answered
writer_step_new w b x (Some told) (Some t) answered = tt
writer_step_new w b x None None answered = did_new w b _ _ _ []
writer_step_new w b x None (Some t) answered = takes_new w b x t

reader_dials_new : (w : World) (i n : ℕ) (r : ReadOp) (answered : Bool) → DialsNew w (reader_dials w i n r answered)
reader_dials_new w i n r true = one_new w _ (omega arith)
reader_dials_new w i n r false = none_new w

own_reader_new : (x : Reader) (w : World) (i n : ℕ) (r : ReadOp) (answered : Bool) → IfSome (own_reader_as x w i n r answered) (DialsNew w)
own_reader_new no_reader w i n r answered = reader_dials_new w i n r _
own_reader_new (reads c s) w i n r answered = tt
own_reader_new (has_read b) w i n r answered = tt

primary_dials_new : (w : World) (i : ℕ) (at : Place) (first : Message) (place : ℕ) (members : List NodeId) (answers : List Bool) → AreNew w (primary_dials w i at first place members answers)
primary_dials_new w i at first place [] answers j d e = absurd (none-some d e)
primary_dials_new w i at first place (n ∷ ns) [] j d e = absurd (none-some d e)
primary_dials_new w i at first place (n ∷ ns) (true ∷ answers) zero d e =
    subst (λ (y : Dial). IsNew w.lives y.dialled.to) (same_dial _ d e) (omega arith)
primary_dials_new w i at first place (n ∷ ns) (true ∷ answers) (suc j) d e = primary_dials_new w i at first (place + 1) ns answers j d e
primary_dials_new w i at first place (n ∷ ns) (false ∷ answers) j d e = primary_dials_new w i at first (place + 1) ns answers j d e

begins_as_new : (t : Told) (w : World) (i : ℕ) (at : Place) (b : BlockId) (members : List NodeId) (answers : List Bool) → IfSome (begins_as t w i at b members answers) (DialsNew w)
begins_as_new (Ok (office.Begun g)) w i at b members answers = primary_dials_new w i at _ 0 members _
begins_as_new (Ok other) w i at b members answers = tt
begins_as_new (Err fault) w i at b members answers = none_new w

begins_new : (p : Primary) (w : World) (i n : ℕ) (b : BlockId) (members : List NodeId) (answers : List Bool) → IfSome (begins_at p w i n b members answers) (DialsNew w)
begins_new no_primary w i n b members answers = tt
begins_new (was_told asked t) w i n b members answers = when-each (DialsNew w) (asked.0 == b.0 && w.running n && Rattle.world.specs.Clients.are_members members) (begins_as t w i (place_of w n) b members answers) (λ e. begins_as_new t w i (place_of w n) b members answers)
begins_new (leads l) w i n b members answers = tt
begins_new (has_led r) w i n b members answers = tt

leads_step_new : (s : LeadStep) (w : World) (i : ℕ) (l : Leading) (p : PrimaryState) → IfSome (leads_step s w i l p) (DialsNew w)
leads_step_new lead.Waits w i l p = tt
leads_step_new (lead.Updates c) w i l p = none_new w
leads_step_new (lead.Commits c) w i l p = tt
leads_step_new (lead.Ends r) w i l p = none_new w

commits_step_new : (s : LeadStep) (w : World) (i : ℕ) (l : Leading) (t : Told) → IfSome (commits_step s w i l t) (DialsNew w)
commits_step_new lead.Waits w i l t = tt
commits_step_new (lead.Updates c) w i l t = tt
commits_step_new (lead.Commits c) w i l t = none_new w
commits_step_new (lead.Ends r) w i l t = tt

leads_told_new : (t : Option Told) (w : World) (i : ℕ) (l : Leading) → IfSome (leads_told t w i l) (DialsNew w)
leads_told_new None w i l = leads_step_new (recovery.own_step l.state).does w i l (recovery.own_step l.state).primary
leads_told_new (Some t) w i l = commits_step_new (recovery.own_step l.state).does w i l t

own_primary_new : (p : Primary) (w : World) (i : ℕ) → IfSome (own_primary_as p w i) (DialsNew w)
own_primary_new no_primary w i = tt
own_primary_new (was_told b t) w i = tt
own_primary_new (leads l) w i = when-each (DialsNew w) (is_alive w l.at) (leads_told l.told w i l) (λ e. leads_told_new l.told w i l)
own_primary_new (has_led r) w i = tt

own_new : (w : World) (s : OwnStep) → IfSome (own_change w s) (DialsNew w)
own_new w (own.Writer b takes answered) = writer_step_new w b.0 _ _ takes answered
own_new w (own.Reader i n r answered) = own_reader_new (w.readers i) w i n.0 r answered
own_new w (own.Recover i n b members answers) = begins_new (w.primaries i) w i n.0 b members answers
own_new w (own.Primary i) = own_primary_new (w.primaries i) w i

writer_asks_new : (a : Action) (w : World) (b : ℕ) → IfSome (writer_asks a w b) (DialsNew w)
writer_asks_new action.Wait w b = tt
writer_asks_new action.Took w b = tt
writer_asks_new (action.Ask c) w b = none_new w
writer_asks_new (action.Dial to r) w b = tt
writer_asks_new (action.Send p) w b = tt
writer_asks_new (action.Answered n a) w b = tt
writer_asks_new action.Memory w b = tt

primary_commits_new : (s : LeadStep) (w : World) (i : ℕ) (l : Leading) → IfSome (primary_commits s w i l) (DialsNew w)
primary_commits_new lead.Waits w i l = tt
primary_commits_new (lead.Updates c) w i l = tt
primary_commits_new (lead.Commits c) w i l = none_new w
primary_commits_new (lead.Ends r) w i l = tt

primary_asks_new : (p : Primary) (w : World) (i : ℕ) (b : BlockId) → IfSome (primary_asks p w i b) (DialsNew w)
primary_asks_new no_primary w i b = none_new w
primary_asks_new (was_told c t) w i b = tt
primary_asks_new (leads l) w i b = when-each (DialsNew w) (is_alive w l.at && is_none l.told) (primary_commits (recovery.own_step l.state).does w i l) (λ e. primary_commits_new (recovery.own_step l.state).does w i l)
primary_asks_new (has_led r) w i b = tt

office_new : (w : World) (c : Caller) → IfSome (office_event w c) (DialsNew w)
office_new w (caller.Writer b) = when-each (DialsNew w) (is_none (w.writers b.0).told) (writer_asks (writer.own_step (w.writers b.0).known).action w b.0) (λ e. writer_asks_new (writer.own_step (w.writers b.0).known).action w b.0)
office_new w (caller.Primary i b) = primary_asks_new (w.primaries i) w i b

-- WHAT IS NEW

-- No life ends in the second world that has begun in the first one, and what it has dialled since was dialled in a life that had begun.
record DialsLive (w v : World) : Type 0 where
  lives : (n : ℕ) → w.lives n ≤ v.lives n
  each : (c : ℕ) → w.next_conn ≤ c → c < v.next_conn → IsNew w.lives (v.dialled c).to

-- Nothing was dialled.
none_since : (w v : World) → v.next_conn ≡ w.next_conn → ((n : ℕ) → w.lives n ≤ v.lives n) → DialsLive w v
none_since w v same lives = record { lives = lives; each = λ c late below. absurd (omega (arith, same, late, below)) }

within_some : (dials : List Dial) (n : ℕ) → n < length dials → (d : Dial) × (slice_get dials n ≡ Some d)
within_some [] n h = absurd (omega (arith, h))
within_some (d ∷ dials) zero h = (d, refl)
within_some (d ∷ dials) (suc n) h = within_some dials n (omega (arith, h))

at_next : (next c : ℕ) (dials : List Dial) (old : Dialled) (d : Dial) → next ≤ c → slice_get dials (c - next) ≡ Some d → unwrap_or (option_map (λ (x : Dial). x.dialled) (dial_at next dials c)) old ≡ d.dialled
at_next next c dials old d late at = by (nat_le next c) (grind (arith, nat_tests)) where
  by : (b : Bool) → b ≡ true → unwrap_or (option_map (λ (x : Dial). x.dialled) (if b then slice_get dials (c - next) else None)) old ≡ d.dialled
  by true e = ap (λ o. unwrap_or (option_map (λ (x : Dial). x.dialled) o) old) at
  by false e = cc

changed_new : (w : World) (k : Change) → DialsNew w k → DialsLive w (apply w k)
unfolding apply
changed_new w k new = record {
  lives = λ n. omega arith;
  each = λ c late below.
      let at = within_some k.dials (c - w.next_conn) (omega (arith, late, below)) in
      subst (λ (x : Dialled). IsNew w.lives x.to) (sym (at_next w.next_conn c k.dials (w.dialled c) at.0 late at.1)) (new (c - w.next_conn) at.0 at.1);
}

option_new : (w : World) (k : Option Change) → IfSome k (DialsNew w) → IfSome (changed w k) (DialsLive w)
option_new w None new = tt
option_new w (Some k) new = changed_new w k new

-- EVENTS

down_as_new : (w : World) (c : ℕ) (answered fails : Bool) (o : Option Next) → IfSome (down_as w c answered fails o) (DialsLive w)
unfolding down_taken
down_as_new w c answered fails None = tt
down_as_new w c answered fails (Some x) = taken_new (lower_down (w.lowers c) (down_taken w c x) c x answered fails) (lower_down_new (w.lowers c) (down_taken w c x) c x answered fails) where
  taken_new : (k : Option Change) → IfSome k (DialsNew (down_taken w c x)) → IfSome (changed (down_taken w c x) k) (DialsLive w)
  taken_new None new = tt
  taken_new (Some k) new = let live = changed_new (down_taken w c x) k new in record { lives = live.lives; each = live.each }

down_new : (w : World) (c : ℕ) (answered fails : Bool) → IfSome (down_event w c answered fails) (DialsLive w)
down_new w c answered fails = when-each (DialsLive w) (is_served w c) _ (λ e. down_as_new w c answered fails (next_down w c))

ready_event_new : (w : World) (c : ℕ) (fails : Bool) → IfSome (ready_event w c fails) (DialsLive w)
ready_event_new w c fails = when-each (DialsLive w) (is_served w c) _ (λ e. option_new w _ (lower_ready_new (w.lowers c) w c fails))

up_as_new : (w : World) (c : ℕ) (fails : Bool) (o : Option Next) → IfSome (up_as w c fails o) (DialsLive w)
unfolding up_taken
up_as_new w c fails None = tt
up_as_new w c fails (Some x) = taken_new (upper_up (w.dialled c).upper (up_taken w c x) c x fails) (upper_new (w.dialled c).upper (up_taken w c x) c x fails) where
  taken_new : (k : Option Change) → IfSome k (DialsNew (up_taken w c x)) → IfSome (changed (up_taken w c x) k) (DialsLive w)
  taken_new None new = tt
  taken_new (Some k) new = let live = changed_new (up_taken w c x) k new in record { lives = live.lives; each = live.each }

up_new : (w : World) (c : ℕ) (fails : Bool) → IfSome (up_event w c fails) (DialsLive w)
up_new w c fails = when-each (DialsLive w) (nat_lt c w.next_conn) _ (λ e. up_as_new w c fails (next_up w c))

fault_new : (w : World) (d : Delivery) → IfSome (fault_event w d) (DialsLive w)
fault_new w (delivery.Down c) = down_new w c.0 false true
fault_new w (delivery.Ready c) = ready_event_new w c.0 true
fault_new w (delivery.Up c) = up_new w c.0 true

lost_new : (w : World) (c : ℕ) (way : Direction) (more : ℕ) → DialsLive w (lost w c way more)
lost_new w c direction.Down more = none_since w _ refl (λ n. omega arith)
lost_new w c direction.Up more = none_since w _ refl (λ n. omega arith)

where_new : (w : World) (test : Bool) (v : World) → DialsLive w v → IfSome (where_so test v) (DialsLive w)
where_new w true v new = new
where_new w false v new = tt

begins_next : (lives : ℕ → ℕ) (n m : ℕ) → lives m ≤ put lives n (lives n + 1) m
begins_next lives n m = by (m == n) refl where
  by : (b : Bool) → (m == n) ≡ b → lives m ≤ (if b then lives n + 1 else lives m)
  by true e = omega (arith, ap (λ (x : ℕ). lives x) (eqb-true m n e))
  by false e = omega arith

restart_new : (w : World) (n : ℕ) (list : List FoundReplica) → DialsLive w (restart w n list)
unfolding restart
restart_new w n list = none_since w _ refl (begins_next w.lives n)

outcome_new : (w : World) (e : Event) → IfSome (outcome w e) (DialsLive w)
unfolding outcome
outcome_new w (event.Own s) = option_new w (own_change w s) (own_new w s)
outcome_new w (event.Office c) = option_new w (office_event w c) (office_new w c)
outcome_new w (event.Down c answered) = down_new w c.0 answered false
outcome_new w (event.Ready c) = ready_event_new w c.0 false
outcome_new w (event.Up c) = up_new w c.0 false
outcome_new w (event.Lost c way more) = where_new w _ _ (lost_new w c.0 way more)
outcome_new w (event.Fault d) = fault_new w d
outcome_new w (event.Stop n) = where_new w _ _ (none_since w _ refl (λ n. omega arith))
outcome_new w (event.Restart n list) = where_new w _ _ (restart_new w n.0 list)

after_new : (w : World) (e : Event) (o : Option World) → IfSome o (DialsLive w) → DialsLive w (after_event w e o)
after_new w e None new = none_since w w refl (λ n. omega arith)
after_new w e (Some v) new = record { lives = new.lives; each = new.each }

happens_new : (w : World) (e : Event) → DialsLive w (happens w e)
unfolding happens
happens_new w e = after_new w e (outcome w e) (outcome_new w e)

-- ALL

step_lives : (w v : World) → Grows w.past v.past → DialsLive w v → IsLived w → IsLived v
step_lives w v grows new all c below = by (nat_lt c w.next_conn) refl where
  by : (b : Bool) → nat_lt c w.next_conn ≡ b → (v.dialled c).to.life ≤ v.lives (v.dialled c).to.node
  by true e =
      let early : c < w.next_conn = grind (arith, nat_tests, e) in
      subst (λ (x : Dialled). x.to.life ≤ v.lives x.to.node) (sym (grows.dialled c early)) (omega (arith, all c early, new.lives (w.dialled c).to.node))
  by false e =
      let late : w.next_conn ≤ c = grind (arith, nat_tests, e) in
      omega (arith, new.each c late below, new.lives (v.dialled c).to.node)

run_lives : (w : World) (events : List Event) → ((v : World) (es : List Event) → Grows v.past (run v es).past) → IsLived w → IsLived (run w events)
run_lives w [] grows all = all
run_lives w (e ∷ events) grows all = run_lives (happens w e) events grows (step_lives w (happens w e) (grows w (e ∷ [])) (happens_new w e) all)

start_lives : (nodes : ℕ) → IsLived (start nodes)
unfolding start
start_lives nodes c below = absurd (omega (arith, below))

pub all_lived : PastGrows → DialsAreLived
all_lived grows nodes events = run_lives (start nodes) events (λ v es. grows v es) (start_lives nodes)
