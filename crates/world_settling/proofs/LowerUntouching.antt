-- Changes that leave all lower ends as they are.
use Rattle.hd_base.specs.declared.numbers.BlockId.{BlockId}
use Rattle.hd_base.specs.declared.numbers.NodeId.{NodeId}
use Rattle.op_headers.specs.declared.ops.Op.{Op}
use Rattle.op_headers.specs.declared.ops.ReadOp.{ReadOp}
use Rattle.world.specs.ReadCore.Readings.{ReadTaken, take_from}
use Rattle.world.specs.ReadCore.ReadTurn.{ReadTurn}
use Rattle.world.specs.RecoveryCore.Primaries.{PrimaryState, after_heard, begun_with, is_among, is_awaited, office_refused, shuts_after, sync_call}
use Rattle.world.specs.RecoveryCore.OwnStep.{OwnStep}
use Rattle.world.specs.RecoveryCore.Standing.{Standing}
use Rattle.std.proofs.Common.{Bool, Err, IfSome, List, None, Ok, Option, Some, [], false, refl, slice_get, true, ℕ, ◌≡◌}
use Rattle.std.specs.Prelude.{is_none, not, slice_get, ◌&&◌, ◌==◌}
use Rattle.world.specs.Clients.{are_members, command_bytes, dialled_change, dialling, did, from_node_of, is_empty, is_formed, own_reader, own_reader_as, own_writer, reader_dials, reader_turn, reader_up, reader_up_as, rest_in, ruled, takes_command, takes_step, writer_change, writer_hears, writer_step, writer_up}
use Rattle.world.specs.Connections.{Next, is_alive, is_conn, place_of}
use Rattle.world.specs.Parts.{Leading, Place, Primary, Reader, Told, has_led, has_read, leads, no_primary, no_reader, reads, was_told}
use Rattle.world.specs.Primaries.{begins_as, begins_at, commits_step, hears_change, leads_step, leads_told, listens, office_event, own_primary, own_primary_as, own_recover, primary_asks, primary_commits, primary_up, primary_up_as, writer_asks}
use Rattle.world.specs.Worlds.{Change, World}
use Rattle.world.specs.declared.events.Caller.{Caller}
use Rattle.world.specs.declared.events.TakenCommand.{TakenCommand}
use Rattle.writer_core.specs.Transitions.{completed_step, dial_step, dialled, given, granted, is_connected, open_step, own_step}
use Rattle.writer_core.specs.declared.actions.Action.{Action}
use Rattle.writer_core.specs.declared.phases.Phase.{Phase}
use Rattle.writer_core.specs.declared.phases.Waiting.{Waiting}
use Rattle.writer_core.specs.declared.records.WriterRecord.{WriterRecord}
use Rattle.name_core.specs.declared.calls.OfficeAnswer.TheVariants as office
use Rattle.world.specs.ReadCore.ReadTurn.TheVariants as turn
use Rattle.world.specs.RecoveryCore.Primaries as primary
use Rattle.world.specs.RecoveryCore.OwnStep.TheVariants as own
use Rattle.world.specs.declared.events.Caller.TheVariants as caller
use Rattle.writer_core.specs.Transitions as writer
use Rattle.writer_core.specs.declared.actions.Action.TheVariants as action
use Rattle.writer_core.specs.declared.phases.Phase.TheVariants as phase
use Rattle.world_settling.proofs.Outer.{when-each}

-- the lower end stays
pub record Untouched (w : World) (k : Change) : Type 0 where
  pub lower : k.lower ≡ w.lowers k.lower_at

-- WRITERS

writer-untouched : (w : World) (b : ℕ) (x : WriterRecord) → Untouched w (writer_change w b x)
writer-untouched w b x = record { lower = refl }

did-untouched : (w : World) (b : ℕ) (waits : Option Waiting) (a : Action) (x : WriterRecord) (bytes : List ℕ) → IfSome (did w b waits a x bytes) (Untouched w)
did-untouched w b waits action.Wait x bytes = tt
did-untouched w b waits action.Took x bytes = record { lower = refl }
did-untouched w b waits (action.Ask c) x bytes = tt
did-untouched w b waits (action.Dial to r) x bytes = tt
did-untouched w b waits (action.Send p) x bytes = record { lower = refl }
did-untouched w b waits (action.Answered n a) x bytes = record { lower = refl }
did-untouched w b waits action.Memory x bytes = tt

dialled-untouched : (w : World) (b : ℕ) (x : WriterRecord) (to : NodeId) (r : Op) (answered : Bool) → Untouched w (dialled_change w b x to r answered)
dialled-untouched w b x to r true = record { lower = refl }
dialled-untouched w b x to r false = record { lower = refl }

dialling-untouched : (w : World) (b : ℕ) (x : WriterRecord) (a : Action) (answered : Bool) → Untouched w (dialling w b x a answered)
dialling-untouched w b x action.Wait answered = record { lower = refl }
dialling-untouched w b x action.Took answered = record { lower = refl }
dialling-untouched w b x (action.Ask c) answered = record { lower = refl }
dialling-untouched w b x (action.Dial to r) answered = dialled-untouched w b x to r (answered && w.running to.0)
dialling-untouched w b x (action.Send p) answered = record { lower = refl }
dialling-untouched w b x (action.Answered n a) answered = record { lower = refl }
dialling-untouched w b x action.Memory answered = record { lower = refl }

rest-untouched : (p : Phase) (w : World) (b : ℕ) (x : WriterRecord) (answered : Bool) → IfSome (rest_in p w b x answered) (Untouched w)
rest-untouched phase.Closed w b x answered = writer-untouched w b x
rest-untouched (phase.Wanted s) w b x answered = writer-untouched w b x
rest-untouched (phase.Stamped s stamp) w b x answered = dialling-untouched w b x (dial_step x s stamp).action answered
rest-untouched (phase.Requested s stamp) w b x answered = writer-untouched w b x
rest-untouched (phase.Accepted s stamp) w b x answered = writer-untouched w b x
rest-untouched phase.Opened w b x answered = did-untouched w b x.waiting (open_step x).action (open_step x).writer []
rest-untouched (phase.Streaming sent) w b x answered = writer-untouched w b x
rest-untouched phase.Closing w b x answered = writer-untouched w b x
rest-untouched phase.Finished w b x answered = writer-untouched w b x
rest-untouched phase.Completed w b x answered = did-untouched w b x.waiting (completed_step x).action (completed_step x).writer []
rest-untouched (phase.Failed f) w b x answered = writer-untouched w b x

takes-untouched : (w : World) (b : ℕ) (waits : Option Waiting) (s : writer.Step) (bytes : List ℕ) → IfSome (takes_step w b waits s bytes) (Untouched w)
takes-untouched w b waits s bytes = when-each (Untouched w) (is_empty s.writer.queue) _ (λ _. did-untouched w b waits s.action s.writer bytes)

command-untouched : (w : World) (b : ℕ) (x : WriterRecord) (t : TakenCommand) → IfSome (takes_command w b x t) (Untouched w)
command-untouched w b x t =
    let y = ruled x t.command t.rule in
    when-each (Untouched w) (is_formed t.command t.rule && not (is_empty (given x t.command).queue)) _
    (λ _. takes-untouched w b y.waiting (own_step (given y t.command)) (command_bytes y t.command))

step-untouched : (w : World) (b : ℕ) (x : WriterRecord) (told : Option Told) (takes : Option TakenCommand) (answered : Bool)
    → IfSome (writer_step w b x told takes answered) (Untouched w)
step-untouched w b x (Some told) None answered = rest-untouched (granted x told).phase w b (granted x told) answered
step-untouched w b x (Some told) (Some t) answered = tt
step-untouched w b x None None answered = did-untouched w b x.waiting (own_step x).action (own_step x).writer []
step-untouched w b x None (Some t) answered = command-untouched w b x t

pub own-writer-untouched : (w : World) (b : ℕ) (takes : Option TakenCommand) (answered : Bool) → IfSome (own_writer w b takes answered) (Untouched w)
own-writer-untouched w b takes answered = step-untouched w b (w.writers b).known (w.writers b).told takes answered

pub writer-up-untouched : (w : World) (b c : ℕ) (x : Next) → IfSome (writer_up w b c x) (Untouched w)
writer-up-untouched w b c x =
    when-each (Untouched w) (is_conn (w.writers b).conn c && is_none (w.writers b).told) _ (λ _. writer-untouched w b (writer_hears (w.writers b).known x))

-- READERS

dials-untouched : (w : World) (i n : ℕ) (r : ReadOp) (answered : Bool) → Untouched w (reader_dials w i n r answered)
dials-untouched w i n r true = record { lower = refl }
dials-untouched w i n r false = record { lower = refl }

own-reader-as : (x : Reader) (w : World) (i n : ℕ) (r : ReadOp) (answered : Bool) → IfSome (own_reader_as x w i n r answered) (Untouched w)
own-reader-as no_reader w i n r answered = dials-untouched w i n r _
own-reader-as (reads c s) w i n r answered = tt
own-reader-as (has_read b) w i n r answered = tt

pub own-reader-untouched : (w : World) (i n : ℕ) (r : ReadOp) (answered : Bool) → IfSome (own_reader w i n r answered) (Untouched w)
own-reader-untouched w i n r answered = own-reader-as (w.readers i) w i n r answered

reader-turn-untouched : (w : World) (i c : ℕ) (t : ReadTaken) (d : ReadTurn) → Untouched w (reader_turn w i c t d)
reader-turn-untouched w i c t turn.Goes = record { lower = refl }
reader-turn-untouched w i c t turn.Verified = record { lower = refl }
reader-turn-untouched w i c t (turn.Fails f) = record { lower = refl }

reader-up-as : (r : Reader) (w : World) (i c : ℕ) (x : Next) → IfSome (reader_up_as r w i c x) (Untouched w)
reader-up-as no_reader w i c x = tt
reader-up-as (reads d s) w i c x =
    when-each (Untouched w) (d == c) _ (λ _. reader-turn-untouched w i c (take_from s (from_node_of x)) (take_from s (from_node_of x)).does)
reader-up-as (has_read b) w i c x = tt

pub reader-up-untouched : (w : World) (i c : ℕ) (x : Next) → IfSome (reader_up w i c x) (Untouched w)
reader-up-untouched w i c x = reader-up-as (w.readers i) w i c x

-- PRIMARIES

begins-as : (t : Told) (w : World) (i : ℕ) (at : Place) (b : BlockId) (members : List NodeId) (answers : List Bool) → IfSome (begins_as t w i at b members answers) (Untouched w)
begins-as (Ok (office.Stamp s)) w i at b members answers = tt
begins-as (Ok (office.Reopened r)) w i at b members answers = tt
begins-as (Ok (office.Begun begun)) w i at b members answers = record { lower = refl }
begins-as (Ok office.Nothing) w i at b members answers = tt
begins-as (Err fault) w i at b members answers = record { lower = refl }

begins-at : (p : Primary) (w : World) (i n : ℕ) (b : BlockId) (members : List NodeId) (answers : List Bool) → IfSome (begins_at p w i n b members answers) (Untouched w)
begins-at no_primary w i n b members answers = tt
begins-at (was_told asked told) w i n b members answers =
    when-each (Untouched w) (asked.0 == b.0 && w.running n && are_members members) (begins_as told w i (place_of w n) b members answers)
    (λ e. begins-as told w i (place_of w n) b members answers)
begins-at (leads l) w i n b members answers = tt
begins-at (has_led r) w i n b members answers = tt

pub own-recover-untouched : (w : World) (i n : ℕ) (b : BlockId) (members : List NodeId) (answers : List Bool) → IfSome (own_recover w i n b members answers) (Untouched w)
own-recover-untouched w i n b members answers = begins-at (w.primaries i) w i n b members answers

leads-step-untouched : (s : OwnStep) (w : World) (i : ℕ) (l : Leading) (p : PrimaryState) → IfSome (leads_step s w i l p) (Untouched w)
leads-step-untouched own.Waits w i l p = tt
leads-step-untouched (own.Updates c) w i l p = record { lower = refl }
leads-step-untouched (own.Commits c) w i l p = tt
leads-step-untouched (own.Ends r) w i l p = record { lower = refl }

commits-untouched : (s : OwnStep) (w : World) (i : ℕ) (l : Leading) (t : Told) → IfSome (commits_step s w i l t) (Untouched w)
commits-untouched own.Waits w i l t = tt
commits-untouched (own.Updates c) w i l t = tt
commits-untouched (own.Commits c) w i l t = record { lower = refl }
commits-untouched (own.Ends r) w i l t = tt

leads-told-untouched : (t : Option Told) (w : World) (i : ℕ) (l : Leading) → IfSome (leads_told t w i l) (Untouched w)
leads-told-untouched None w i l = leads-step-untouched (primary.own_step l.state).does w i l (primary.own_step l.state).primary
leads-told-untouched (Some told) w i l = commits-untouched (primary.own_step l.state).does w i l told

own-primary-as : (p : Primary) (w : World) (i : ℕ) → IfSome (own_primary_as p w i) (Untouched w)
own-primary-as no_primary w i = tt
own-primary-as (was_told b t) w i = tt
own-primary-as (leads l) w i = when-each (Untouched w) (is_alive w l.at) _ (λ _. leads-told-untouched l.told w i l)
own-primary-as (has_led r) w i = tt

pub own-primary-untouched : (w : World) (i : ℕ) → IfSome (own_primary w i) (Untouched w)
own-primary-untouched w i = own-primary-as (w.primaries i) w i

hears-untouched : (w : World) (i : ℕ) (l : Leading) (place c : ℕ) (x : Next) (o : Option Standing) → IfSome (hears_change w i l place c x o) (Untouched w)
hears-untouched w i l place c x None = tt
hears-untouched w i l place c x (Some s) = when-each (Untouched w) (listens l.state.phase s) _ (λ _. record { lower = refl })

primary-up-as : (p : Primary) (w : World) (i place c : ℕ) (x : Next) → IfSome (primary_up_as p w i place c x) (Untouched w)
primary-up-as no_primary w i place c x = tt
primary-up-as (was_told b t) w i place c x = tt
primary-up-as (leads l) w i place c x =
    when-each (Untouched w) (is_alive w l.at && is_none l.told) (hears_change w i l place c x (slice_get l.state.standings place))
    (λ _. hears-untouched w i l place c x (slice_get l.state.standings place))
primary-up-as (has_led r) w i place c x = tt

pub primary-up-untouched : (w : World) (i place c : ℕ) (x : Next) → IfSome (primary_up w i place c x) (Untouched w)
primary-up-untouched w i place c x = primary-up-as (w.primaries i) w i place c x

-- THE OFFICE

writer-asks-untouched : (a : Action) (w : World) (b : ℕ) → IfSome (writer_asks a w b) (Untouched w)
writer-asks-untouched action.Wait w b = tt
writer-asks-untouched action.Took w b = tt
writer-asks-untouched (action.Ask c) w b = record { lower = refl }
writer-asks-untouched (action.Dial to r) w b = tt
writer-asks-untouched (action.Send p) w b = tt
writer-asks-untouched (action.Answered n a) w b = tt
writer-asks-untouched action.Memory w b = tt

commits-asked : (s : OwnStep) (w : World) (i : ℕ) (l : Leading) → IfSome (primary_commits s w i l) (Untouched w)
commits-asked own.Waits w i l = tt
commits-asked (own.Updates c) w i l = tt
commits-asked (own.Commits c) w i l = record { lower = refl }
commits-asked (own.Ends r) w i l = tt

primary-asks-untouched : (p : Primary) (w : World) (i : ℕ) (b : BlockId) → IfSome (primary_asks p w i b) (Untouched w)
primary-asks-untouched no_primary w i b = record { lower = refl }
primary-asks-untouched (was_told c t) w i b = tt
primary-asks-untouched (leads l) w i b = when-each (Untouched w) (is_alive w l.at && is_none l.told) _ (λ _. commits-asked (primary.own_step l.state).does w i l)
primary-asks-untouched (has_led r) w i b = tt

pub office-untouched : (w : World) (c : Caller) → IfSome (office_event w c) (Untouched w)
office-untouched w (caller.Writer b) =
    when-each (Untouched w) (is_none (w.writers b.0).told) _ (λ _. writer-asks-untouched (own_step (w.writers b.0).known).action w b.0)
office-untouched w (caller.Primary i b) = primary-asks-untouched (w.primaries i) w i b
