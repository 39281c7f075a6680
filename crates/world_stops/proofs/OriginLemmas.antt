-- From which node a connection was dialled.
use Rattle.std.proofs.Common.{◌≡◌, ℕ, zero, suc, ◌<◌, ◌≤◌, ◌+◌, Bool, true, false, List, [], ◌∷◌, length, Option, Some, None, IfSome, Result, Ok, Err, refl, sym, ap, subst, ◌∙◌, arith}
use Rattle.std.specs.Prelude.{◌==◌, ◌-◌, ◌&&◌, not, is_none, nat_le, nat_lt, slice_get, option_map, unwrap_or, if◌then◌else◌}
use Rattle.std.proofs.lemmas.Bool.Decides.{nat_tests}
use Rattle.std.proofs.lemmas.Option.{none-some}
use Rattle.hd_base.specs.declared.numbers.BlockId.{BlockId}
use Rattle.hd_base.specs.declared.numbers.NodeId.{NodeId}
use Rattle.name_core.specs.declared.calls.OfficeAnswer.TheVariants as office
use Rattle.op_headers.specs.declared.ops.Op.TheVariants as op
use Rattle.op_headers.specs.declared.ops.Op.{Op}
use Rattle.op_headers.specs.declared.ops.ReadOp.{ReadOp}
use Rattle.op_headers.specs.Values.{WriteFields}
use Rattle.world_laws.specs.MemberCore.Mirror.{Mirror}
use Rattle.world_laws.specs.MemberCore.Mirror.TheVariants as mirror
use Rattle.world_laws.specs.MemberCore.Turn.{Turn}
use Rattle.world_laws.specs.MemberCore.Members.{MemberState}
use Rattle.packet_codec.specs.declared.packets.Packet.{Packet}
use Rattle.world_laws.specs.ReadCore.ReadTurn.{ReadTurn}
use Rattle.world_laws.specs.ReadCore.ReadTurn.TheVariants as turn
use Rattle.world_laws.specs.ReadCore.Readings.{ReadTaken, take_from}
use Rattle.world_laws.specs.ReadCore.Servings.{ServingState}
use Rattle.world_laws.specs.RecoveryCore.RecoveryReply.{RecoveryReply}
use Rattle.world_laws.specs.RecoveryCore.OwnStep.{OwnStep as LeadStep}
use Rattle.world_laws.specs.RecoveryCore.OwnStep.TheVariants as lead
use Rattle.world_laws.specs.RecoveryCore.Standing.{Standing}
use Rattle.replica_core.specs.declared.events.Event.{Event as ReplicaStep}
use Rattle.world_laws.specs.ReplicaModel.ReplicaEvent.{ReplicaEvent}
use Rattle.world_laws.specs.RequestRefusals.RequestRefusal.{RequestRefusal}
use Rattle.world_laws.specs.WriterCore.Action.{Action}
use Rattle.world_laws.specs.WriterCore.Action.TheVariants as action
use Rattle.world_laws.specs.WriterCore.Phase.{Phase}
use Rattle.world_laws.specs.WriterCore.Phase.TheVariants as phase
use Rattle.world_laws.specs.WriterCore.Waiting.{Waiting}
use Rattle.world_laws.specs.WriterCore.WriterRecord.{WriterRecord}
use Rattle.world_laws.specs.WriterCore.Transitions as writer
use Rattle.world_laws.specs.RecoveryCore.Primaries as recovery
use Rattle.world_laws.specs.RecoveryCore.Primaries.{PrimaryState}
use Rattle.op_headers.specs.declared.ops.RecoveryOp.{RecoveryOp}
use Rattle.world_laws.specs.World.Caller.{Caller}
use Rattle.world_laws.specs.World.Caller.TheVariants as caller
use Rattle.world_laws.specs.World.Delivery.{Delivery}
use Rattle.world_laws.specs.World.Delivery.TheVariants as delivery
use Rattle.world_laws.specs.World.Direction.{Direction}
use Rattle.world_laws.specs.World.Direction.TheVariants as direction
use Rattle.world_laws.specs.World.Event.{Event}
use Rattle.world_laws.specs.World.Event.TheVariants as event
use Rattle.world_laws.specs.World.FoundReplica.{FoundReplica}
use Rattle.world_laws.specs.World.OwnStep.{OwnStep}
use Rattle.world_laws.specs.World.OwnStep.TheVariants as own
use Rattle.world_laws.specs.World.TakenCommand.{TakenCommand}
use Rattle.world_laws.specs.World.Parts.{Message, request, packet, ack, response, read_status, recovery_answer, Upper, by_writer, by_member, by_reader, by_primary, Place, Dialled, FullMember, Lower, idle, writes, serves, recovers, ended_below, Told, Leading, Reader, no_reader, reads, has_read, Primary, no_primary, was_told, leads, has_led}
use Rattle.world_laws.specs.World.Worlds.{World, Change, Dial, start, apply, dial_at}
use Rattle.world_laws.specs.World.Connections.{Next, message, the_end, next_down, next_up, down_taken, up_taken, is_alive, is_served, place_of}
use Rattle.world_laws.specs.World.Nodes.{unless_failing, closing, mirror_dial, dials_of, member_dials, setup_change, failing_write, write_request, failing_turn, turn_change, member_down, member_up, ready_change, member_ready, failing_read, read_change, read_request, piece_as, serve_change, failing_recovery, recovery_request, first_message, next_recovery, lower_down, lower_ready, mirror_up, takes_next, pending_at}
use Rattle.world_laws.specs.World.Clients.{writer_change, did, dialled_change, dialling, rest_in, is_empty, is_formed, ruled, command_bytes, takes_step, takes_given, takes_command, writer_step, own_writer, writer_up, reader_dials, own_reader_as, own_reader, reader_turn, reader_up_as, reader_up}
use Rattle.world_laws.specs.World.Primaries.{primary_dials, begins_as, begins_at, leads_step, commits_step, leads_told, own_primary_as, hears_change, primary_up_as, listens, writer_asks, primary_commits, primary_asks, office_event}
use Rattle.world_laws.specs.World.Events.{changed, own_change, down_as, down_event, ready_event, unless_fails, upper_up, up_as, up_event, fault_event, lost, where_so, outcome, after_event, happens, run}
use Rattle.world_laws.specs.World.Restarts.{restart}
use Rattle.world_laws.specs.Growing.{Grows, PastGrows}
use Rattle.world_laws.specs.Placing.{IsUpper, Placed, AllPlaced}
use Rattle.world_laws.proofs.FactTables.{and-left, when-each}
use Rattle.world_stops.specs.Origins.{IsFrom, AllAreFrom, DialsHaveOrigins}

-- DIALS

-- A new connection is from where it should be: a member that dialled it took its request on an older one.
abbrev IsNew : World → Upper → Option Place → Type 0
IsNew w (by_writer b) from = from ≡ None
IsNew w (by_member c) from = (c < w.next_conn) × (from ≡ Some (w.dialled c).to)
IsNew w (by_reader i) from = from ≡ None
IsNew w (by_primary i place) from = Unit {0}

-- Each of these dials is.
abbrev AreFrom : World → List Dial → Type 0
AreFrom w dials = (j : ℕ) (d : Dial) → slice_get dials j ≡ Some d → IsNew w d.dialled.upper d.dialled.from

-- So are those of a change.
abbrev DialsFrom : World → Change → Type 0
DialsFrom w k = AreFrom w k.dials

none_from : (w : World) → AreFrom w []
none_from w j d e = absurd (none-some d e)

same_dial : (a b : Dial) → ◌≡◌ {A = Option Dial} (Some a) (Some b) → a ≡ b
same_dial a b e = cc

one_from : (w : World) (x : Dial) → IsNew w x.dialled.upper x.dialled.from → AreFrom w (x ∷ [])
one_from w x is zero d e = subst (λ (y : Dial). IsNew w y.dialled.upper y.dialled.from) (same_dial x d e) is
one_from w x is (suc j) d e = absurd (none-some d e)

-- LOWER ENDS

unless_from : (w : World) (fails : Bool) (k : Change) → DialsFrom w k → IfSome (unless_failing fails k) (DialsFrom w)
unless_from w true k f = tt
unless_from w false k f = f

closing_from : (w : World) (c : ℕ) → DialsFrom w (closing w c)
closing_from w c = none_from w

mirror_from : (w : World) (c : ℕ) (fields : Option WriteFields) (node : Option ℕ) → c < w.next_conn → AreFrom w (mirror_dial w c fields node)
mirror_from w c None number lt = none_from w
mirror_from w c (Some fields) None lt = none_from w
mirror_from w c (Some fields) (Some n) lt = one_from w _ (lt, refl)

dials_from : (m : Mirror) (w : World) (c : ℕ) (fields : WriteFields) → c < w.next_conn → AreFrom w (dials_of m w c fields)
dials_from mirror.Asked w c fields lt = mirror_from w c _ _ lt
dials_from other w c fields lt = none_from w

member_from : (o : Option MemberState) (w : World) (c : ℕ) (fields : WriteFields) → c < w.next_conn → AreFrom w (member_dials o w c fields)
member_from None w c fields lt = none_from w
member_from (Some m) w c fields lt = dials_from m.mirror w c fields lt

failing_write_from : (w : World) (c : ℕ) (fields : WriteFields) (e : Result ReplicaStep RequestRefusal) → c < w.next_conn → IfSome (failing_write w c fields e) (DialsFrom w)
failing_write_from w c fields (Err refused) lt = tt
failing_write_from w c fields (Ok e) lt = member_from None w c fields lt

write_from : (w : World) (c : ℕ) (fields : WriteFields) (answered fails : Bool) → c < w.next_conn → IfSome (write_request w c fields answered fails) (DialsFrom w)
write_from w c fields answered true lt = failing_write_from w c fields _ lt
write_from w c fields answered false lt = member_from _ w c fields lt

read_from : (w : World) (c b : ℕ) (r : Result ServingState RequestRefusal) → DialsFrom w (read_change w c b r)
read_from w c b (Ok s) = none_from w
read_from w c b (Err e) = none_from w

failing_read_from : (w : World) (c b : ℕ) (e : Result ReplicaStep RequestRefusal) → IfSome (failing_read w c b e) (DialsFrom w)
failing_read_from w c b (Err refused) = tt
failing_read_from w c b (Ok e) = none_from w

failing_recovery_from : (w : World) (c : ℕ) (r : RecoveryOp) (e : Result ReplicaStep RecoveryReply) → IfSome (failing_recovery w c r e) (DialsFrom w)
failing_recovery_from w c r (Err said) = tt
failing_recovery_from w c r (Ok e) = none_from w

recovery_from : (w : World) (c : ℕ) (r : RecoveryOp) (fails : Bool) → IfSome (recovery_request w c r fails) (DialsFrom w)
recovery_from w c r true = failing_recovery_from w c r _
recovery_from w c r false = none_from w

read_request_from : (w : World) (c : ℕ) (r : ReadOp) (fails : Bool) → IfSome (read_request w c r fails) (DialsFrom w)
read_request_from w c r true = failing_read_from w c r.block.block.0 _
read_request_from w c r false = read_from w c r.block.block.0 _

first_from : (w : World) (c : ℕ) (m : Message) (answered fails : Bool) → c < w.next_conn → IfSome (first_message w c m answered fails) (DialsFrom w)
first_from w c (request (op.Write fields)) answered fails lt = write_from w c fields answered fails lt
first_from w c (request (op.Read r)) answered fails lt = read_request_from w c r fails
first_from w c (request (op.Recovery r)) answered fails lt = recovery_from w c r fails
first_from w c (request other) answered fails lt = unless_from w fails (closing w c) (closing_from w c)
first_from w c (packet p) answered fails lt = unless_from w fails (closing w c) (closing_from w c)
first_from w c (ack a) answered fails lt = unless_from w fails (closing w c) (closing_from w c)
first_from w c (response r) answered fails lt = unless_from w fails (closing w c) (closing_from w c)
first_from w c (read_status s) answered fails lt = unless_from w fails (closing w c) (closing_from w c)
first_from w c (recovery_answer a) answered fails lt = unless_from w fails (closing w c) (closing_from w c)

next_from : (w : World) (c : ℕ) (x : Next) (fails : Bool) → IfSome (next_recovery w c x fails) (DialsFrom w)
next_from w c (message (request (op.Recovery r))) fails = recovery_from w c r fails
next_from w c (message (request other)) fails = unless_from w fails (closing w c) (closing_from w c)
next_from w c (message (packet p)) fails = unless_from w fails (closing w c) (closing_from w c)
next_from w c (message (ack a)) fails = unless_from w fails (closing w c) (closing_from w c)
next_from w c (message (response r)) fails = unless_from w fails (closing w c) (closing_from w c)
next_from w c (message (read_status s)) fails = unless_from w fails (closing w c) (closing_from w c)
next_from w c (message (recovery_answer a)) fails = unless_from w fails (closing w c) (closing_from w c)
next_from w c the_end fails = unless_from w fails (closing w c) (closing_from w c)

failing_turn_from : (w : World) (c : ℕ) (m : FullMember) (x : Next) (t : Turn) (e : Option ReplicaEvent) → IfSome (failing_turn w c m x t e) (DialsFrom w)
failing_turn_from w c m x t None = tt
failing_turn_from w c m x t (Some e) = none_from w

turn_from : (w : World) (c : ℕ) (m : FullMember) (x : Next) (t : Turn) (fails : Bool) → IfSome (turn_change w c m x t fails) (DialsFrom w)
turn_from w c m x t true = failing_turn_from w c m x t t.call
turn_from w c m x t false = none_from w

lower_down_from : (l : Lower) (w : World) (c : ℕ) (x : Next) (answered fails : Bool) → c < w.next_conn → IfSome (lower_down l w c x answered fails) (DialsFrom w)
lower_down_from idle w c (message m) answered fails lt = first_from w c m answered fails lt
lower_down_from idle w c the_end answered fails lt = unless_from w fails (closing w c) (closing_from w c)
lower_down_from (writes m) w c x answered fails lt =
    when-each (DialsFrom w) (takes_next m.state (pending_at w c m) x) _ (λ e. turn_from w c m x _ fails)
lower_down_from (serves b s) w c x answered fails lt = unless_from w fails (closing w c) (closing_from w c)
lower_down_from recovers w c x answered fails lt = next_from w c x fails
lower_down_from ended_below w c x answered fails lt = tt

ready_from : (w : World) (c : ℕ) (m : FullMember) (t : Option Turn) (fails : Bool) → IfSome (ready_change w c m t fails) (DialsFrom w)
ready_from w c m None fails = tt
ready_from w c m (Some t) fails = turn_from w c m the_end t fails

piece_from : (w : World) (c b : ℕ) (s : ServingState) (p : Option Packet) → DialsFrom w (piece_as w c b s p)
piece_from w c b s None = none_from w
piece_from w c b s (Some p) = none_from w

serve_from : (w : World) (c b : ℕ) (s : ServingState) (e : Option ReplicaStep) (fails : Bool) → IfSome (serve_change w c b s e fails) (DialsFrom w)
serve_from w c b s None fails = tt
serve_from w c b s (Some e) true = none_from w
serve_from w c b s (Some e) false = piece_from w c b _ _

lower_ready_from : (l : Lower) (w : World) (c : ℕ) (fails : Bool) → IfSome (lower_ready l w c fails) (DialsFrom w)
lower_ready_from (writes m) w c fails = ready_from w c m _ fails
lower_ready_from (serves b s) w c fails = serve_from w c b s _ fails
lower_ready_from idle w c fails = tt
lower_ready_from recovers w c fails = tt
lower_ready_from ended_below w c fails = tt

-- UPPER ENDS

mirror_up_from : (l : Lower) (w : World) (d : ℕ) (x : Next) (fails : Bool) → IfSome (mirror_up l w d x fails) (DialsFrom w)
mirror_up_from (writes m) w d x fails =
    when-each (DialsFrom w) (is_alive w (w.dialled d).to) _ (λ e. when-each (DialsFrom w) (Rattle.world_laws.specs.MemberCore.Members.hears m.state) (turn_change w d m x (Rattle.world_laws.specs.MemberCore.Members.up_turn m.state (slice_get (Rattle.world_laws.specs.World.Nodes.replica_at w d (Rattle.world_laws.specs.World.Nodes.block_of m.fields)).known.pending 0) (Rattle.world_laws.specs.World.Nodes.below_of x)) fails) (λ f. turn_from w d m x (Rattle.world_laws.specs.MemberCore.Members.up_turn m.state (slice_get (Rattle.world_laws.specs.World.Nodes.replica_at w d (Rattle.world_laws.specs.World.Nodes.block_of m.fields)).known.pending 0) (Rattle.world_laws.specs.World.Nodes.below_of x)) fails))
mirror_up_from idle w d x fails = tt
mirror_up_from (serves b s) w d x fails = tt
mirror_up_from recovers w d x fails = tt
mirror_up_from ended_below w d x fails = tt

fails_from : (w : World) (fails : Bool) (k : Option Change) → IfSome k (DialsFrom w) → IfSome (unless_fails fails k) (DialsFrom w)
fails_from w true k f = tt
fails_from w false k f = f

writer_up_from : (w : World) (b c : ℕ) (x : Next) → IfSome (writer_up w b c x) (DialsFrom w)
writer_up_from w b c x = when-each (DialsFrom w) (Rattle.world_laws.specs.World.Connections.is_conn (w.writers b).conn c && is_none {T = Told} (w.writers b).told) (Some (writer_change w b (Rattle.world_laws.specs.World.Clients.writer_hears (w.writers b).known x))) (λ e. none_from w)

reader_turn_from : (w : World) (i c : ℕ) (t : ReadTaken) (u : ReadTurn) → DialsFrom w (reader_turn w i c t u)
reader_turn_from w i c t turn.Goes = none_from w
reader_turn_from w i c t turn.Verified = none_from w
reader_turn_from w i c t (turn.Fails f) = none_from w

reader_up_from : (r : Reader) (w : World) (i c : ℕ) (x : Next) → IfSome (reader_up_as r w i c x) (DialsFrom w)
reader_up_from no_reader w i c x = tt
reader_up_from (reads d s) w i c x = when-each (DialsFrom w) (d == c) _ (λ e. reader_turn_from w i c (take_from s (Rattle.world_laws.specs.World.Clients.from_node_of x)) _)
reader_up_from (has_read r) w i c x = tt

hears_from : (w : World) (i : ℕ) (l : Leading) (place c : ℕ) (x : Next) (s : Option Standing) → IfSome (hears_change w i l place c x s) (DialsFrom w)
hears_from w i l place c x None = tt
hears_from w i l place c x (Some s) = when-each (DialsFrom w) (listens l.state.phase s) _ (λ e. none_from w)

primary_up_from : (p : Primary) (w : World) (i place c : ℕ) (x : Next) → IfSome (primary_up_as p w i place c x) (DialsFrom w)
primary_up_from no_primary w i place c x = tt
primary_up_from (was_told b t) w i place c x = tt
primary_up_from (leads l) w i place c x = when-each (DialsFrom w) (is_alive w l.at && is_none {T = Told} l.told) (hears_change w i l place c x (slice_get {X = Standing} l.state.standings place)) (λ e. hears_from w i l place c x (slice_get {X = Standing} l.state.standings place))
primary_up_from (has_led r) w i place c x = tt

upper_from : (u : Upper) (w : World) (c : ℕ) (x : Next) (fails : Bool) → IfSome (upper_up u w c x fails) (DialsFrom w)
upper_from (by_writer b) w c x fails = fails_from w fails _ (writer_up_from w b c x)
upper_from (by_member d) w c x fails = mirror_up_from (w.lowers d) w d x fails
upper_from (by_reader i) w c x fails = fails_from w fails _ (reader_up_from (w.readers i) w i c x)
upper_from (by_primary i p) w c x fails = fails_from w fails _ (primary_up_from (w.primaries i) w i p c x)

-- OWN STEPS

did_from : (w : World) (b : ℕ) (waits : Option Waiting) (a : Action) (x : WriterRecord) (bytes : List ℕ) → IfSome (did w b waits a x bytes) (DialsFrom w)
did_from w b waits action.Wait x bytes = tt
did_from w b waits action.Took x bytes = none_from w
did_from w b waits (action.Ask c) x bytes = tt
did_from w b waits (action.Dial to r) x bytes = tt
did_from w b waits (action.Send p) x bytes = none_from w
did_from w b waits (action.Answered n a) x bytes = none_from w
did_from w b waits action.Memory x bytes = tt

dialled_from : (w : World) (b : ℕ) (x : WriterRecord) (to : NodeId) (r : Op) (answered : Bool) → DialsFrom w (dialled_change w b x to r answered)
dialled_from w b x to r true = one_from w _ refl
dialled_from w b x to r false = none_from w

dialling_from : (w : World) (b : ℕ) (x : WriterRecord) (a : Action) (answered : Bool) → DialsFrom w (dialling w b x a answered)
dialling_from w b x action.Wait answered = none_from w
dialling_from w b x action.Took answered = none_from w
dialling_from w b x (action.Ask c) answered = none_from w
dialling_from w b x (action.Dial to r) answered = dialled_from w b x to r _
dialling_from w b x (action.Send p) answered = none_from w
dialling_from w b x (action.Answered n a) answered = none_from w
dialling_from w b x action.Memory answered = none_from w

rest_from : (p : Phase) (w : World) (b : ℕ) (x : WriterRecord) (answered : Bool) → IfSome (rest_in p w b x answered) (DialsFrom w)
rest_from (phase.Stamped s stamp) w b x answered = dialling_from w b x _ answered
rest_from phase.Opened w b x answered = did_from w b x.waiting (writer.open_step x).action (writer.open_step x).writer []
rest_from phase.Completed w b x answered = did_from w b x.waiting (writer.completed_step x).action (writer.completed_step x).writer []
rest_from other w b x answered = none_from w

takes_step_from : (w : World) (b : ℕ) (waits : Option Waiting) (t : writer.Step) (bytes : List ℕ) → IfSome (takes_step w b waits t bytes) (DialsFrom w)
takes_step_from w b waits t bytes = when-each (DialsFrom w) (is_empty t.writer.queue) (did w b waits t.action t.writer bytes) (λ e. did_from w b waits t.action t.writer bytes)

takes_from : (w : World) (b : ℕ) (x : WriterRecord) (t : TakenCommand) → IfSome (takes_command w b x t) (DialsFrom w)
takes_from w b x t =
    let y = ruled x t.command t.rule in
    when-each (DialsFrom w) (is_formed t.command t.rule && not (is_empty (writer.given x t.command).queue)) (takes_given w b y t.command)
    (λ e. takes_step_from w b y.waiting (writer.own_step (writer.given y t.command)) (command_bytes y t.command))

writer_step_from : (w : World) (b : ℕ) (x : WriterRecord) (told : Option Told) (takes : Option TakenCommand) (answered : Bool) → IfSome (writer_step w b x told takes answered) (DialsFrom w)
writer_step_from w b x (Some told) None answered = rest_from _ w b _ answered
writer_step_from w b x (Some told) (Some t) answered = tt
writer_step_from w b x None None answered = did_from w b _ _ _ []
writer_step_from w b x None (Some t) answered = takes_from w b x t

reader_dials_from : (w : World) (i n : ℕ) (r : ReadOp) (answered : Bool) → DialsFrom w (reader_dials w i n r answered)
reader_dials_from w i n r true = one_from w _ refl
reader_dials_from w i n r false = none_from w

own_reader_from : (x : Reader) (w : World) (i n : ℕ) (r : ReadOp) (answered : Bool) → IfSome (own_reader_as x w i n r answered) (DialsFrom w)
own_reader_from no_reader w i n r answered = reader_dials_from w i n r _
own_reader_from (reads c s) w i n r answered = tt
own_reader_from (has_read b) w i n r answered = tt

primary_dials_from : (v w : World) (i : ℕ) (at : Place) (first : Message) (place : ℕ) (members : List NodeId) (answers : List Bool) → AreFrom v (primary_dials w i at first place members answers)
primary_dials_from v w i at first place [] answers j d e = absurd (none-some d e)
primary_dials_from v w i at first place (n ∷ ns) [] j d e = absurd (none-some d e)
primary_dials_from v w i at first place (n ∷ ns) (true ∷ answers) zero d e =
    subst (λ (y : Dial). IsNew v y.dialled.upper y.dialled.from) (same_dial _ d e) tt
primary_dials_from v w i at first place (n ∷ ns) (true ∷ answers) (suc j) d e = primary_dials_from v w i at first (place + 1) ns answers j d e
primary_dials_from v w i at first place (n ∷ ns) (false ∷ answers) j d e = primary_dials_from v w i at first (place + 1) ns answers j d e

begins_as_from : (t : Told) (w : World) (i : ℕ) (at : Place) (b : BlockId) (members : List NodeId) (answers : List Bool) → IfSome (begins_as t w i at b members answers) (DialsFrom w)
begins_as_from (Ok (office.Begun g)) w i at b members answers = primary_dials_from w w i at _ 0 members _
begins_as_from (Ok other) w i at b members answers = tt
begins_as_from (Err fault) w i at b members answers = none_from w

begins_from : (p : Primary) (w : World) (i n : ℕ) (b : BlockId) (members : List NodeId) (answers : List Bool) → IfSome (begins_at p w i n b members answers) (DialsFrom w)
begins_from no_primary w i n b members answers = tt
begins_from (was_told asked t) w i n b members answers = when-each (DialsFrom w) (asked.0 == b.0 && w.running n && Rattle.world_laws.specs.World.Clients.are_members members) (begins_as t w i (place_of w n) b members answers) (λ e. begins_as_from t w i (place_of w n) b members answers)
begins_from (leads l) w i n b members answers = tt
begins_from (has_led r) w i n b members answers = tt

leads_step_from : (s : LeadStep) (w : World) (i : ℕ) (l : Leading) (p : PrimaryState) → IfSome (leads_step s w i l p) (DialsFrom w)
leads_step_from lead.Waits w i l p = tt
leads_step_from (lead.Updates c) w i l p = none_from w
leads_step_from (lead.Commits c) w i l p = tt
leads_step_from (lead.Ends r) w i l p = none_from w

commits_step_from : (s : LeadStep) (w : World) (i : ℕ) (l : Leading) (t : Told) → IfSome (commits_step s w i l t) (DialsFrom w)
commits_step_from lead.Waits w i l t = tt
commits_step_from (lead.Updates c) w i l t = tt
commits_step_from (lead.Commits c) w i l t = none_from w
commits_step_from (lead.Ends r) w i l t = tt

leads_told_from : (t : Option Told) (w : World) (i : ℕ) (l : Leading) → IfSome (leads_told t w i l) (DialsFrom w)
leads_told_from None w i l = leads_step_from (recovery.own_step l.state).does w i l (recovery.own_step l.state).primary
leads_told_from (Some t) w i l = commits_step_from (recovery.own_step l.state).does w i l t

own_primary_from : (p : Primary) (w : World) (i : ℕ) → IfSome (own_primary_as p w i) (DialsFrom w)
own_primary_from no_primary w i = tt
own_primary_from (was_told b t) w i = tt
own_primary_from (leads l) w i = when-each (DialsFrom w) (is_alive w l.at) (leads_told l.told w i l) (λ e. leads_told_from l.told w i l)
own_primary_from (has_led r) w i = tt

own_from : (w : World) (s : OwnStep) → IfSome (own_change w s) (DialsFrom w)
own_from w (own.Writer b takes answered) = writer_step_from w b.0 _ _ takes answered
own_from w (own.Reader i n r answered) = own_reader_from (w.readers i) w i n.0 r answered
own_from w (own.Recover i n b members answers) = begins_from (w.primaries i) w i n.0 b members answers
own_from w (own.Primary i) = own_primary_from (w.primaries i) w i

writer_asks_from : (a : Action) (w : World) (b : ℕ) → IfSome (writer_asks a w b) (DialsFrom w)
writer_asks_from action.Wait w b = tt
writer_asks_from action.Took w b = tt
writer_asks_from (action.Ask c) w b = none_from w
writer_asks_from (action.Dial to r) w b = tt
writer_asks_from (action.Send p) w b = tt
writer_asks_from (action.Answered n a) w b = tt
writer_asks_from action.Memory w b = tt

primary_commits_from : (s : LeadStep) (w : World) (i : ℕ) (l : Leading) → IfSome (primary_commits s w i l) (DialsFrom w)
primary_commits_from lead.Waits w i l = tt
primary_commits_from (lead.Updates c) w i l = tt
primary_commits_from (lead.Commits c) w i l = none_from w
primary_commits_from (lead.Ends r) w i l = tt

primary_asks_from : (p : Primary) (w : World) (i : ℕ) (b : BlockId) → IfSome (primary_asks p w i b) (DialsFrom w)
primary_asks_from no_primary w i b = none_from w
primary_asks_from (was_told c t) w i b = tt
primary_asks_from (leads l) w i b = when-each (DialsFrom w) (is_alive w l.at && is_none l.told) (primary_commits (recovery.own_step l.state).does w i l) (λ e. primary_commits_from (recovery.own_step l.state).does w i l)
primary_asks_from (has_led r) w i b = tt

office_from : (w : World) (c : Caller) → IfSome (office_event w c) (DialsFrom w)
office_from w (caller.Writer b) = when-each (DialsFrom w) (is_none (w.writers b.0).told) (writer_asks (writer.own_step (w.writers b.0).known).action w b.0) (λ e. writer_asks_from (writer.own_step (w.writers b.0).known).action w b.0)
office_from w (caller.Primary i b) = primary_asks_from (w.primaries i) w i b

-- WHAT IS NEW

-- Each connection that the second world has and the first one hasn't is from where it should be.
pub record NewFrom (w v : World) : Type 0 where
  pub from : (c : ℕ) → w.next_conn ≤ c → c < v.next_conn → IsNew w (v.dialled c).upper (v.dialled c).from

-- Nothing was dialled.
same_from : (w v : World) → v.next_conn ≡ w.next_conn → NewFrom w v
same_from w v same = record { from = λ c late below. absurd (omega (arith, same, late, below)) }

within_some : (dials : List Dial) (n : ℕ) → n < length dials → (d : Dial) × (slice_get dials n ≡ Some d)
within_some [] n h = absurd (omega (arith, h))
within_some (d ∷ dials) zero h = (d, refl)
within_some (d ∷ dials) (suc n) h = within_some dials n (omega (arith, h))

at_new : (next c : ℕ) (dials : List Dial) (old : Dialled) (d : Dial) → next ≤ c → slice_get dials (c - next) ≡ Some d → unwrap_or (option_map (λ (x : Dial). x.dialled) (dial_at next dials c)) old ≡ d.dialled
at_new next c dials old d late at = by (nat_le next c) (grind (arith, nat_tests)) where
  by : (b : Bool) → b ≡ true → unwrap_or (option_map (λ (x : Dial). x.dialled) (if b then slice_get dials (c - next) else None)) old ≡ d.dialled
  by true e = ap (λ o. unwrap_or (option_map (λ (x : Dial). x.dialled) o) old) at
  by false e = cc

changed_from : (w : World) (k : Change) → DialsFrom w k → NewFrom w (apply w k)
unfolding apply
changed_from w k from = record {
  from = λ c late below.
      let at = within_some k.dials (c - w.next_conn) (omega (arith, late, below)) in
      subst (λ (x : Dialled). IsNew w x.upper x.from) (sym (at_new w.next_conn c k.dials (w.dialled c) at.0 late at.1)) (from (c - w.next_conn) at.0 at.1);
}

option_from : (w : World) (k : Option Change) → IfSome k (DialsFrom w) → IfSome (changed w k) (NewFrom w)
option_from w None from = tt
option_from w (Some k) from = changed_from w k from

-- EVENTS

down_as_from : (w : World) (c : ℕ) (answered fails : Bool) (o : Option Next) → c < w.next_conn → IfSome (down_as w c answered fails o) (NewFrom w)
unfolding down_taken
down_as_from w c answered fails None lt = tt
down_as_from w c answered fails (Some x) lt = taken_from (lower_down (w.lowers c) (down_taken w c x) c x answered fails) (lower_down_from (w.lowers c) (down_taken w c x) c x answered fails lt) where
  taken_from : (k : Option Change) → IfSome k (DialsFrom (down_taken w c x)) → IfSome (changed (down_taken w c x) k) (NewFrom w)
  taken_from None from = tt
  taken_from (Some k) from = record { from = (changed_from (down_taken w c x) k from).from }

served_below : (w : World) (c : ℕ) → is_served w c ≡ true → c < w.next_conn
served_below w c e =
    let below : nat_lt c w.next_conn ≡ true = and-left (nat_lt c w.next_conn) (is_alive w (w.dialled c).to) e in
    grind (arith, nat_tests, below)

down_from : (w : World) (c : ℕ) (answered fails : Bool) → IfSome (down_event w c answered fails) (NewFrom w)
down_from w c answered fails = when-each (NewFrom w) (is_served w c) _ (λ e. down_as_from w c answered fails (next_down w c) (served_below w c e))

ready_event_from : (w : World) (c : ℕ) (fails : Bool) → IfSome (ready_event w c fails) (NewFrom w)
ready_event_from w c fails = when-each (NewFrom w) (is_served w c) _ (λ e. option_from w _ (lower_ready_from (w.lowers c) w c fails))

up_as_from : (w : World) (c : ℕ) (fails : Bool) (o : Option Next) → IfSome (up_as w c fails o) (NewFrom w)
unfolding up_taken
up_as_from w c fails None = tt
up_as_from w c fails (Some x) = taken_from (upper_up (w.dialled c).upper (up_taken w c x) c x fails) (upper_from (w.dialled c).upper (up_taken w c x) c x fails) where
  taken_from : (k : Option Change) → IfSome k (DialsFrom (up_taken w c x)) → IfSome (changed (up_taken w c x) k) (NewFrom w)
  taken_from None from = tt
  taken_from (Some k) from = record { from = (changed_from (up_taken w c x) k from).from }

up_from : (w : World) (c : ℕ) (fails : Bool) → IfSome (up_event w c fails) (NewFrom w)
up_from w c fails = when-each (NewFrom w) (nat_lt c w.next_conn) _ (λ e. up_as_from w c fails (next_up w c))

fault_from : (w : World) (d : Delivery) → IfSome (fault_event w d) (NewFrom w)
fault_from w (delivery.Down c) = down_from w c.0 false true
fault_from w (delivery.Ready c) = ready_event_from w c.0 true
fault_from w (delivery.Up c) = up_from w c.0 true

lost_from : (w : World) (c : ℕ) (way : Direction) (more : ℕ) → NewFrom w (lost w c way more)
lost_from w c direction.Down more = same_from w _ refl
lost_from w c direction.Up more = same_from w _ refl

where_from : (w : World) (test : Bool) (v : World) → NewFrom w v → IfSome (where_so test v) (NewFrom w)
where_from w true v from = from
where_from w false v from = tt

restart_from : (w : World) (n : ℕ) (list : List FoundReplica) → NewFrom w (restart w n list)
unfolding restart
restart_from w n list = same_from w _ refl

outcome_from : (w : World) (e : Event) → IfSome (outcome w e) (NewFrom w)
unfolding outcome
outcome_from w (event.Own s) = option_from w (own_change w s) (own_from w s)
outcome_from w (event.Office c) = option_from w (office_event w c) (office_from w c)
outcome_from w (event.Down c answered) = down_from w c.0 answered false
outcome_from w (event.Ready c) = ready_event_from w c.0 false
outcome_from w (event.Up c) = up_from w c.0 false
outcome_from w (event.Lost c way more) = where_from w _ _ (lost_from w c.0 way more)
outcome_from w (event.Fault d) = fault_from w d
outcome_from w (event.Stop n) = where_from w _ _ (same_from w _ refl)
outcome_from w (event.Restart n list) = where_from w _ _ (restart_from w n.0 list)

after_from : (w : World) (e : Event) (o : Option World) → IfSome o (NewFrom w) → NewFrom w (after_event w e o)
after_from w e None from = same_from w w refl
after_from w e (Some v) from = record { from = from.from }

happens_from : (w : World) (e : Event) → NewFrom w (happens w e)
unfolding happens
happens_from w e = after_from w e (outcome w e) (outcome_from w e)

-- ALL

is_from_later : (a b : ℕ → Dialled) (u : Upper) (from : Option Place) → ((d : ℕ) → u ≡ by_member d → b d ≡ a d) → IsFrom a u from → IsFrom b u from
is_from_later a b (by_writer x) from same is = is
is_from_later a b (by_member d) from same is = is ∙ ap (λ (x : Dialled). Some x.to) (sym (same d refl))
is_from_later a b (by_reader i) from same is = is
is_from_later a b (by_primary i place) from same is = tt

member_within : (n : ℕ) (u : Upper) (d : ℕ) → IsUpper n u → u ≡ by_member d → d < n
member_within n u d is same = subst (IsUpper n) same is

step_from : (w v : World) → Grows w.past v.past → Placed w → Placed v → NewFrom w v → AllAreFrom w → AllAreFrom v
step_from w v grows placed placed_after new all c below = by (nat_lt c w.next_conn) refl where
  same : (d : ℕ) → d < w.next_conn → v.dialled d ≡ w.dialled d
  same d h = grows.dialled d h

  by : (b : Bool) → nat_lt c w.next_conn ≡ b → IsFrom v.dialled (v.dialled c).upper (v.dialled c).from
  by true e =
      let early : c < w.next_conn = grind (arith, nat_tests, e) in
      let old = is_from_later w.dialled v.dialled (w.dialled c).upper (w.dialled c).from
      (λ d u. same d (member_within w.next_conn (w.dialled c).upper d (placed.dialled c early).upper u)) (all c early) in
      subst (λ (x : Dialled). IsFrom v.dialled x.upper x.from) (sym (same c early)) old
  by false e =
      let late : w.next_conn ≤ c = grind (arith, nat_tests, e) in
      new_from (v.dialled c).upper (v.dialled c).from (new.from c late below)
    where
      new_from : (u : Upper) (from : Option Place) → IsNew w u from → IsFrom v.dialled u from
      new_from (by_writer b) from is = is
      new_from (by_member d) from is = is.1 ∙ ap (λ (x : Dialled). Some x.to) (sym (same d is.0))
      new_from (by_reader i) from is = is
      new_from (by_primary i place) from is = tt

run_from : (w : World) (events : List Event) → ((v : World) (es : List Event) → Grows v.past (run v es).past) → ((es : List Event) → Placed (run w es)) → AllAreFrom w → AllAreFrom (run w events)
run_from w [] grows placed all = all
run_from w (e ∷ events) grows placed all =
    run_from (happens w e) events grows (λ es. placed (e ∷ es)) (step_from w (happens w e) (grows w (e ∷ [])) (placed []) (placed (e ∷ [])) (happens_from w e) all)

start_from : (nodes : ℕ) → AllAreFrom (start nodes)
unfolding start
start_from nodes c below = absurd (omega (arith, below))

pub all_from : AllPlaced → PastGrows → DialsHaveOrigins
all_from placed grows nodes events = run_from (start nodes) events (λ v es. grows v es) (λ es. placed nodes es) (start_from nodes)
