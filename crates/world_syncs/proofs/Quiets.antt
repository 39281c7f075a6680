-- Changes by which nothing is sent up, and no setup is accepted.
use Rattle.hd_base.specs.declared.numbers.BlockId.{BlockId}
use Rattle.hd_base.specs.declared.numbers.NodeId.{NodeId}
use Rattle.world.specs.OpHeaders.Op.{Op}
use Rattle.world.specs.OpHeaders.ReadOp.{ReadOp}
use Rattle.world.specs.ReadCore.Readings.{ReadTaken, take_from}
use Rattle.world.specs.ReadCore.ReadTurn.{ReadTurn}
use Rattle.world.specs.RecoveryCore.Primaries.{PrimaryState}
use Rattle.world.specs.RecoveryCore.OwnStep.{OwnStep}
use Rattle.world.specs.RecoveryCore.Standing.{Standing}
use Rattle.std.proofs.Common.{Bool, Err, IfSome, List, None, Ok, Option, Some, [], false, refl, slice_get, true, ℕ, ◌≡◌}
use Rattle.std.specs.Prelude.{is_none, not, slice_get, ◌&&◌, ◌==◌}
use Rattle.world.specs.Clients.{are_members, command_bytes, dialled_change, dialling, did, from_node_of, is_empty, is_formed, own_reader, own_reader_as, own_writer, reader_dials, reader_turn, reader_up, reader_up_as, rest_in, ruled, takes_command, takes_step, writer_change, writer_hears, writer_step, writer_up}
use Rattle.world.specs.Connections.{Next, is_alive, is_conn, place_of}
use Rattle.world.specs.Parts.{Leading, Place, Primary, Reader, Told, has_led, has_read, leads, no_primary, no_reader, reads, was_told}
use Rattle.world.specs.Primaries.{begins_as, begins_at, commits_step, hears_change, leads_step, leads_told, listens, office_event, own_primary, own_primary_as, own_recover, primary_asks, primary_commits, primary_up, primary_up_as, writer_asks}
use Rattle.world.specs.Worlds.{Change, World}
use Rattle.world.specs.declared.events.Caller.{Caller}
use Rattle.world.specs.declared.events.TakenCommand.{TakenCommand}
use Rattle.world.specs.WriterCore.Transitions.{completed_step, dial_step, given, granted, open_step, own_step}
use Rattle.world.specs.WriterCore.Action.{Action}
use Rattle.world.specs.WriterCore.Phase.{Phase}
use Rattle.world.specs.WriterCore.Waiting.{Waiting}
use Rattle.world.specs.WriterCore.WriterRecord.{WriterRecord}
use Rattle.name_core.specs.declared.calls.OfficeAnswer.TheVariants as office
use Rattle.world.specs.ReadCore.ReadTurn.TheVariants as turn
use Rattle.world.specs.RecoveryCore.Primaries as primary
use Rattle.world.specs.RecoveryCore.OwnStep.TheVariants as own
use Rattle.world.specs.declared.events.Caller.TheVariants as caller
use Rattle.world.specs.WriterCore.Transitions as writer
use Rattle.world.specs.WriterCore.Action.TheVariants as action
use Rattle.world.specs.WriterCore.Phase.TheVariants as phase
use Rattle.world_laws.proofs.FactTables.{when-each}

-- nothing goes up, and no setup is accepted
pub record Quiet (k : Change) : Type 0 where
  pub ups : (c : ℕ) → k.ups c ≡ []
  pub joined : k.joined ≡ []

-- WRITERS

writer-quiet : (w : World) (b : ℕ) (x : WriterRecord) → Quiet (writer_change w b x)
writer-quiet w b x = record { ups = λ _. refl; joined = refl }

did-quiet : (w : World) (b : ℕ) (waits : Option Waiting) (a : Action) (x : WriterRecord) (bytes : List ℕ) → IfSome (did w b waits a x bytes) Quiet
did-quiet w b waits action.Wait x bytes = tt
did-quiet w b waits action.Took x bytes = record { ups = λ _. refl; joined = refl }
did-quiet w b waits (action.Ask c) x bytes = tt
did-quiet w b waits (action.Dial to r) x bytes = tt
did-quiet w b waits (action.Send p) x bytes = record { ups = λ _. refl; joined = refl }
did-quiet w b waits (action.Answered n a) x bytes = record { ups = λ _. refl; joined = refl }
did-quiet w b waits action.Memory x bytes = tt

dialled-quiet : (w : World) (b : ℕ) (x : WriterRecord) (to : NodeId) (r : Op) (answered : Bool) → Quiet (dialled_change w b x to r answered)
dialled-quiet w b x to r true = record { ups = λ _. refl; joined = refl }
dialled-quiet w b x to r false = record { ups = λ _. refl; joined = refl }

dialling-quiet : (w : World) (b : ℕ) (x : WriterRecord) (a : Action) (answered : Bool) → Quiet (dialling w b x a answered)
dialling-quiet w b x action.Wait answered = record { ups = λ _. refl; joined = refl }
dialling-quiet w b x action.Took answered = record { ups = λ _. refl; joined = refl }
dialling-quiet w b x (action.Ask c) answered = record { ups = λ _. refl; joined = refl }
dialling-quiet w b x (action.Dial to r) answered = dialled-quiet w b x to r (answered && w.running to.0)
dialling-quiet w b x (action.Send p) answered = record { ups = λ _. refl; joined = refl }
dialling-quiet w b x (action.Answered n a) answered = record { ups = λ _. refl; joined = refl }
dialling-quiet w b x action.Memory answered = record { ups = λ _. refl; joined = refl }

rest-quiet : (p : Phase) (w : World) (b : ℕ) (x : WriterRecord) (answered : Bool) → IfSome (rest_in p w b x answered) Quiet
rest-quiet phase.Closed w b x answered = writer-quiet w b x
rest-quiet (phase.Wanted s) w b x answered = writer-quiet w b x
rest-quiet (phase.Stamped s stamp) w b x answered = dialling-quiet w b x (dial_step x s stamp).action answered
rest-quiet (phase.Requested s stamp) w b x answered = writer-quiet w b x
rest-quiet (phase.Accepted s stamp) w b x answered = writer-quiet w b x
rest-quiet phase.Opened w b x answered = did-quiet w b x.waiting (open_step x).action (open_step x).writer []
rest-quiet (phase.Streaming sent) w b x answered = writer-quiet w b x
rest-quiet phase.Closing w b x answered = writer-quiet w b x
rest-quiet phase.Finished w b x answered = writer-quiet w b x
rest-quiet phase.Completed w b x answered = did-quiet w b x.waiting (completed_step x).action (completed_step x).writer []
rest-quiet (phase.Failed f) w b x answered = writer-quiet w b x

takes-quiet : (w : World) (b : ℕ) (waits : Option Waiting) (s : writer.Step) (bytes : List ℕ) → IfSome (takes_step w b waits s bytes) Quiet
takes-quiet w b waits s bytes = when-each Quiet (is_empty s.writer.queue) _ (λ _. did-quiet w b waits s.action s.writer bytes)

command-quiet : (w : World) (b : ℕ) (x : WriterRecord) (t : TakenCommand) → IfSome (takes_command w b x t) Quiet
command-quiet w b x t =
    let y = ruled x t.command t.rule in
    when-each Quiet (is_formed t.command t.rule && not (is_empty (given x t.command).queue)) _
    (λ _. takes-quiet w b y.waiting (own_step (given y t.command)) (command_bytes y t.command))

step-quiet : (w : World) (b : ℕ) (x : WriterRecord) (told : Option Told) (takes : Option TakenCommand) (answered : Bool)
    → IfSome (writer_step w b x told takes answered) Quiet
step-quiet w b x (Some told) None answered = rest-quiet (granted x told).phase w b (granted x told) answered
step-quiet w b x (Some told) (Some t) answered = tt
step-quiet w b x None None answered = did-quiet w b x.waiting (own_step x).action (own_step x).writer []
step-quiet w b x None (Some t) answered = command-quiet w b x t

pub own-writer-quiet : (w : World) (b : ℕ) (takes : Option TakenCommand) (answered : Bool) → IfSome (own_writer w b takes answered) Quiet
own-writer-quiet w b takes answered = step-quiet w b (w.writers b).known (w.writers b).told takes answered

pub writer-up-quiet : (w : World) (b c : ℕ) (x : Next) → IfSome (writer_up w b c x) Quiet
writer-up-quiet w b c x =
    when-each Quiet (is_conn (w.writers b).conn c && is_none (w.writers b).told) _ (λ _. writer-quiet w b (writer_hears (w.writers b).known x))

-- READERS

dials-quiet : (w : World) (i n : ℕ) (r : ReadOp) (answered : Bool) → Quiet (reader_dials w i n r answered)
dials-quiet w i n r true = record { ups = λ _. refl; joined = refl }
dials-quiet w i n r false = record { ups = λ _. refl; joined = refl }

own-reader-as : (x : Reader) (w : World) (i n : ℕ) (r : ReadOp) (answered : Bool) → IfSome (own_reader_as x w i n r answered) Quiet
own-reader-as no_reader w i n r answered = dials-quiet w i n r _
own-reader-as (reads c s) w i n r answered = tt
own-reader-as (has_read b) w i n r answered = tt

pub own-reader-quiet : (w : World) (i n : ℕ) (r : ReadOp) (answered : Bool) → IfSome (own_reader w i n r answered) Quiet
own-reader-quiet w i n r answered = own-reader-as (w.readers i) w i n r answered

reader-turn-quiet : (w : World) (i c : ℕ) (t : ReadTaken) (d : ReadTurn) → Quiet (reader_turn w i c t d)
reader-turn-quiet w i c t turn.Goes = record { ups = λ _. refl; joined = refl }
reader-turn-quiet w i c t turn.Verified = record { ups = λ _. refl; joined = refl }
reader-turn-quiet w i c t (turn.Fails f) = record { ups = λ _. refl; joined = refl }

reader-up-as : (r : Reader) (w : World) (i c : ℕ) (x : Next) → IfSome (reader_up_as r w i c x) Quiet
reader-up-as no_reader w i c x = tt
reader-up-as (reads d s) w i c x =
    when-each Quiet (d == c) _ (λ _. reader-turn-quiet w i c (take_from s (from_node_of x)) (take_from s (from_node_of x)).does)
reader-up-as (has_read b) w i c x = tt

pub reader-up-quiet : (w : World) (i c : ℕ) (x : Next) → IfSome (reader_up w i c x) Quiet
reader-up-quiet w i c x = reader-up-as (w.readers i) w i c x

-- PRIMARIES

begins-as : (t : Told) (w : World) (i : ℕ) (at : Place) (b : BlockId) (members : List NodeId) (answers : List Bool) → IfSome (begins_as t w i at b members answers) Quiet
begins-as (Ok (office.Stamp s)) w i at b members answers = tt
begins-as (Ok (office.Reopened r)) w i at b members answers = tt
begins-as (Ok (office.Begun begun)) w i at b members answers = record { ups = λ _. refl; joined = refl }
begins-as (Ok office.Nothing) w i at b members answers = tt
begins-as (Err fault) w i at b members answers = record { ups = λ _. refl; joined = refl }

begins-at : (p : Primary) (w : World) (i n : ℕ) (b : BlockId) (members : List NodeId) (answers : List Bool) → IfSome (begins_at p w i n b members answers) Quiet
begins-at no_primary w i n b members answers = tt
begins-at (was_told asked told) w i n b members answers =
    when-each Quiet (asked.0 == b.0 && w.running n && are_members members) (begins_as told w i (place_of w n) b members answers)
    (λ e. begins-as told w i (place_of w n) b members answers)
begins-at (leads l) w i n b members answers = tt
begins-at (has_led r) w i n b members answers = tt

pub own-recover-quiet : (w : World) (i n : ℕ) (b : BlockId) (members : List NodeId) (answers : List Bool) → IfSome (own_recover w i n b members answers) Quiet
own-recover-quiet w i n b members answers = begins-at (w.primaries i) w i n b members answers

leads-step-quiet : (s : OwnStep) (w : World) (i : ℕ) (l : Leading) (p : PrimaryState) → IfSome (leads_step s w i l p) Quiet
leads-step-quiet own.Waits w i l p = tt
leads-step-quiet (own.Updates c) w i l p = record { ups = λ _. refl; joined = refl }
leads-step-quiet (own.Commits c) w i l p = tt
leads-step-quiet (own.Ends r) w i l p = record { ups = λ _. refl; joined = refl }

commits-quiet : (s : OwnStep) (w : World) (i : ℕ) (l : Leading) (t : Told) → IfSome (commits_step s w i l t) Quiet
commits-quiet own.Waits w i l t = tt
commits-quiet (own.Updates c) w i l t = tt
commits-quiet (own.Commits c) w i l t = record { ups = λ _. refl; joined = refl }
commits-quiet (own.Ends r) w i l t = tt

leads-told-quiet : (t : Option Told) (w : World) (i : ℕ) (l : Leading) → IfSome (leads_told t w i l) Quiet
leads-told-quiet None w i l = leads-step-quiet (primary.own_step l.state).does w i l (primary.own_step l.state).primary
leads-told-quiet (Some told) w i l = commits-quiet (primary.own_step l.state).does w i l told

own-primary-as : (p : Primary) (w : World) (i : ℕ) → IfSome (own_primary_as p w i) Quiet
own-primary-as no_primary w i = tt
own-primary-as (was_told b t) w i = tt
own-primary-as (leads l) w i = when-each Quiet (is_alive w l.at) _ (λ _. leads-told-quiet l.told w i l)
own-primary-as (has_led r) w i = tt

pub own-primary-quiet : (w : World) (i : ℕ) → IfSome (own_primary w i) Quiet
own-primary-quiet w i = own-primary-as (w.primaries i) w i

hears-quiet : (w : World) (i : ℕ) (l : Leading) (place c : ℕ) (x : Next) (o : Option Standing) → IfSome (hears_change w i l place c x o) Quiet
hears-quiet w i l place c x None = tt
hears-quiet w i l place c x (Some s) = when-each Quiet (listens l.state.phase s) _ (λ _. record { ups = λ _. refl; joined = refl })

primary-up-as : (p : Primary) (w : World) (i place c : ℕ) (x : Next) → IfSome (primary_up_as p w i place c x) Quiet
primary-up-as no_primary w i place c x = tt
primary-up-as (was_told b t) w i place c x = tt
primary-up-as (leads l) w i place c x =
    when-each Quiet (is_alive w l.at && is_none l.told) (hears_change w i l place c x (slice_get l.state.standings place))
    (λ _. hears-quiet w i l place c x (slice_get l.state.standings place))
primary-up-as (has_led r) w i place c x = tt

pub primary-up-quiet : (w : World) (i place c : ℕ) (x : Next) → IfSome (primary_up w i place c x) Quiet
primary-up-quiet w i place c x = primary-up-as (w.primaries i) w i place c x

-- THE OFFICE

writer-asks-quiet : (a : Action) (w : World) (b : ℕ) → IfSome (writer_asks a w b) Quiet
writer-asks-quiet action.Wait w b = tt
writer-asks-quiet action.Took w b = tt
writer-asks-quiet (action.Ask c) w b = record { ups = λ _. refl; joined = refl }
writer-asks-quiet (action.Dial to r) w b = tt
writer-asks-quiet (action.Send p) w b = tt
writer-asks-quiet (action.Answered n a) w b = tt
writer-asks-quiet action.Memory w b = tt

commits-asked : (s : OwnStep) (w : World) (i : ℕ) (l : Leading) → IfSome (primary_commits s w i l) Quiet
commits-asked own.Waits w i l = tt
commits-asked (own.Updates c) w i l = tt
commits-asked (own.Commits c) w i l = record { ups = λ _. refl; joined = refl }
commits-asked (own.Ends r) w i l = tt

primary-asks-quiet : (p : Primary) (w : World) (i : ℕ) (b : BlockId) → IfSome (primary_asks p w i b) Quiet
primary-asks-quiet no_primary w i b = record { ups = λ _. refl; joined = refl }
primary-asks-quiet (was_told c t) w i b = tt
primary-asks-quiet (leads l) w i b = when-each Quiet (is_alive w l.at && is_none l.told) _ (λ _. commits-asked (primary.own_step l.state).does w i l)
primary-asks-quiet (has_led r) w i b = tt

pub office-quiet : (w : World) (c : Caller) → IfSome (office_event w c) Quiet
office-quiet w (caller.Writer b) =
    when-each Quiet (is_none (w.writers b.0).told) _ (λ _. writer-asks-quiet (own_step (w.writers b.0).known).action w b.0)
office-quiet w (caller.Primary i b) = primary-asks-quiet (w.primaries i) w i b
