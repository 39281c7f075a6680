-- Events of writers, primaries and the office leave the readers as they are.
use Rattle.hd_base.specs.declared.numbers.BlockId.{BlockId}
use Rattle.hd_base.specs.declared.numbers.NodeId.{NodeId}
use Rattle.op_headers.specs.declared.ops.Op.{Op}
use Rattle.world.specs.RecoveryCore.Primaries.{PrimaryState}
use Rattle.world.specs.RecoveryCore.OwnStep.{OwnStep}
use Rattle.world.specs.RecoveryCore.Standing.{Standing}
use Rattle.std.proofs.Common.{Bool, Err, IfSome, List, None, Ok, Option, Some, [], false, refl, slice_get, true, ℕ}
use Rattle.std.specs.Prelude.{is_none, not, ◌&&◌, ◌==◌}
use Rattle.world.specs.Clients.{are_members, command_bytes, dialled_change, dialling, did, is_empty, is_formed, own_writer, rest_in, ruled, takes_command, takes_step, writer_change, writer_hears, writer_step, writer_up}
use Rattle.world.specs.Connections.{Next, is_alive, is_conn, place_of}
use Rattle.world.specs.Parts.{Leading, Place, Primary, Told, has_led, leads, no_primary, was_told}
use Rattle.world.specs.Primaries.{begins_as, begins_at, commits_step, hears_change, leads_step, leads_told, listens, office_event, own_primary, own_primary_as, own_recover, primary_asks, primary_commits, primary_up, primary_up_as, writer_asks}
use Rattle.world.specs.Worlds.{World}
use Rattle.world.specs.declared.events.Caller.{Caller}
use Rattle.world.specs.declared.events.TakenCommand.{TakenCommand}
use Rattle.writer_core.specs.Transitions.{completed_step, dial_step, given, granted, open_step, own_step}
use Rattle.writer_core.specs.declared.actions.Action.{Action}
use Rattle.writer_core.specs.declared.phases.Phase.{Phase}
use Rattle.writer_core.specs.declared.phases.Waiting.{Waiting}
use Rattle.writer_core.specs.declared.records.WriterRecord.{WriterRecord}
use Rattle.name_core.specs.declared.calls.OfficeAnswer.TheVariants as office
use Rattle.world.specs.RecoveryCore.Primaries as primary
use Rattle.world.specs.RecoveryCore.OwnStep.TheVariants as own
use Rattle.world.specs.declared.events.Caller.TheVariants as caller
use Rattle.writer_core.specs.Transitions as writer
use Rattle.writer_core.specs.declared.actions.Action.TheVariants as action
use Rattle.writer_core.specs.declared.phases.Phase.TheVariants as phase
use Rattle.world_texts.proofs.WorldLaws.FactTables.{when-each}
use Rattle.world_settling.proofs.ReaderNodeAsides.{Stays}

-- WRITERS

writer-stays : (w : World) (b : ℕ) (x : WriterRecord) → Stays w (writer_change w b x)
writer-stays w b x = record { reader = refl }

did-stays : (w : World) (b : ℕ) (waits : Option Waiting) (a : Action) (x : WriterRecord) (bytes : List ℕ) → IfSome (did w b waits a x bytes) (Stays w)
did-stays w b waits action.Wait x bytes = tt
did-stays w b waits action.Took x bytes = record { reader = refl }
did-stays w b waits (action.Ask c) x bytes = tt
did-stays w b waits (action.Dial to r) x bytes = tt
did-stays w b waits (action.Send p) x bytes = record { reader = refl }
did-stays w b waits (action.Answered n a) x bytes = record { reader = refl }
did-stays w b waits action.Memory x bytes = tt

dialled-stays : (w : World) (b : ℕ) (x : WriterRecord) (to : NodeId) (r : Op) (answered : Bool) → Stays w (dialled_change w b x to r answered)
dialled-stays w b x to r true = record { reader = refl }
dialled-stays w b x to r false = record { reader = refl }

dialling-stays : (w : World) (b : ℕ) (x : WriterRecord) (a : Action) (answered : Bool) → Stays w (dialling w b x a answered)
dialling-stays w b x action.Wait answered = record { reader = refl }
dialling-stays w b x action.Took answered = record { reader = refl }
dialling-stays w b x (action.Ask c) answered = record { reader = refl }
dialling-stays w b x (action.Dial to r) answered = dialled-stays w b x to r (answered && w.running to.0)
dialling-stays w b x (action.Send p) answered = record { reader = refl }
dialling-stays w b x (action.Answered n a) answered = record { reader = refl }
dialling-stays w b x action.Memory answered = record { reader = refl }

rest-stays : (p : Phase) (w : World) (b : ℕ) (x : WriterRecord) (answered : Bool) → IfSome (rest_in p w b x answered) (Stays w)
rest-stays phase.Closed w b x answered = writer-stays w b x
rest-stays (phase.Wanted s) w b x answered = writer-stays w b x
rest-stays (phase.Stamped s stamp) w b x answered = dialling-stays w b x (dial_step x s stamp).action answered
rest-stays (phase.Requested s stamp) w b x answered = writer-stays w b x
rest-stays (phase.Accepted s stamp) w b x answered = writer-stays w b x
rest-stays phase.Opened w b x answered = did-stays w b x.waiting (open_step x).action (open_step x).writer []
rest-stays (phase.Streaming sent) w b x answered = writer-stays w b x
rest-stays phase.Closing w b x answered = writer-stays w b x
rest-stays phase.Finished w b x answered = writer-stays w b x
rest-stays phase.Completed w b x answered = did-stays w b x.waiting (completed_step x).action (completed_step x).writer []
rest-stays (phase.Failed f) w b x answered = writer-stays w b x

takes-stays : (w : World) (b : ℕ) (waits : Option Waiting) (s : writer.Step) (bytes : List ℕ) → IfSome (takes_step w b waits s bytes) (Stays w)
takes-stays w b waits s bytes = when-each (Stays w) (is_empty s.writer.queue) _ (λ _. did-stays w b waits s.action s.writer bytes)

command-stays : (w : World) (b : ℕ) (x : WriterRecord) (t : TakenCommand) → IfSome (takes_command w b x t) (Stays w)
command-stays w b x t =
    let y = ruled x t.command t.rule in
    when-each (Stays w) (is_formed t.command t.rule && not (is_empty (given x t.command).queue)) _
    (λ _. takes-stays w b y.waiting (own_step (given y t.command)) (command_bytes y t.command))

step-stays : (w : World) (b : ℕ) (x : WriterRecord) (told : Option Told) (takes : Option TakenCommand) (answered : Bool)
    → IfSome (writer_step w b x told takes answered) (Stays w)
step-stays w b x (Some told) None answered = rest-stays (granted x told).phase w b (granted x told) answered
step-stays w b x (Some told) (Some t) answered = tt
step-stays w b x None None answered = did-stays w b x.waiting (own_step x).action (own_step x).writer []
step-stays w b x None (Some t) answered = command-stays w b x t

pub own-writer-stays : (w : World) (b : ℕ) (takes : Option TakenCommand) (answered : Bool) → IfSome (own_writer w b takes answered) (Stays w)
own-writer-stays w b takes answered = step-stays w b (w.writers b).known (w.writers b).told takes answered

pub writer-up-stays : (w : World) (b c : ℕ) (x : Next) → IfSome (writer_up w b c x) (Stays w)
writer-up-stays w b c x =
    when-each (Stays w) (is_conn (w.writers b).conn c && is_none (w.writers b).told) _ (λ _. writer-stays w b (writer_hears (w.writers b).known x))

-- PRIMARIES

begins-as : (t : Told) (w : World) (i : ℕ) (at : Place) (b : BlockId) (members : List NodeId) (answers : List Bool) → IfSome (begins_as t w i at b members answers) (Stays w)
begins-as (Ok (office.Stamp s)) w i at b members answers = tt
begins-as (Ok (office.Reopened r)) w i at b members answers = tt
begins-as (Ok (office.Begun begun)) w i at b members answers = record { reader = refl }
begins-as (Ok office.Nothing) w i at b members answers = tt
begins-as (Err fault) w i at b members answers = record { reader = refl }

begins-at : (p : Primary) (w : World) (i n : ℕ) (b : BlockId) (members : List NodeId) (answers : List Bool) → IfSome (begins_at p w i n b members answers) (Stays w)
begins-at no_primary w i n b members answers = tt
begins-at (was_told asked told) w i n b members answers =
    when-each (Stays w) (asked.0 == b.0 && w.running n && are_members members) (begins_as told w i (place_of w n) b members answers)
    (λ e. begins-as told w i (place_of w n) b members answers)
begins-at (leads l) w i n b members answers = tt
begins-at (has_led r) w i n b members answers = tt

pub own-recover-stays : (w : World) (i n : ℕ) (b : BlockId) (members : List NodeId) (answers : List Bool) → IfSome (own_recover w i n b members answers) (Stays w)
own-recover-stays w i n b members answers = begins-at (w.primaries i) w i n b members answers

leads-step-stays : (s : OwnStep) (w : World) (i : ℕ) (l : Leading) (p : PrimaryState) → IfSome (leads_step s w i l p) (Stays w)
leads-step-stays own.Waits w i l p = tt
leads-step-stays (own.Updates c) w i l p = record { reader = refl }
leads-step-stays (own.Commits c) w i l p = tt
leads-step-stays (own.Ends r) w i l p = record { reader = refl }

commits-stays : (s : OwnStep) (w : World) (i : ℕ) (l : Leading) (t : Told) → IfSome (commits_step s w i l t) (Stays w)
commits-stays own.Waits w i l t = tt
commits-stays (own.Updates c) w i l t = tt
commits-stays (own.Commits c) w i l t = record { reader = refl }
commits-stays (own.Ends r) w i l t = tt

leads-told-stays : (t : Option Told) (w : World) (i : ℕ) (l : Leading) → IfSome (leads_told t w i l) (Stays w)
leads-told-stays None w i l = leads-step-stays (primary.own_step l.state).does w i l (primary.own_step l.state).primary
leads-told-stays (Some told) w i l = commits-stays (primary.own_step l.state).does w i l told

own-primary-as : (p : Primary) (w : World) (i : ℕ) → IfSome (own_primary_as p w i) (Stays w)
own-primary-as no_primary w i = tt
own-primary-as (was_told b t) w i = tt
own-primary-as (leads l) w i = when-each (Stays w) (is_alive w l.at) _ (λ _. leads-told-stays l.told w i l)
own-primary-as (has_led r) w i = tt

pub own-primary-stays : (w : World) (i : ℕ) → IfSome (own_primary w i) (Stays w)
own-primary-stays w i = own-primary-as (w.primaries i) w i

hears-stays : (w : World) (i : ℕ) (l : Leading) (place c : ℕ) (x : Next) (o : Option Standing) → IfSome (hears_change w i l place c x o) (Stays w)
hears-stays w i l place c x None = tt
hears-stays w i l place c x (Some s) = when-each (Stays w) (listens l.state.phase s) _ (λ _. record { reader = refl })

primary-up-as : (p : Primary) (w : World) (i place c : ℕ) (x : Next) → IfSome (primary_up_as p w i place c x) (Stays w)
primary-up-as no_primary w i place c x = tt
primary-up-as (was_told b t) w i place c x = tt
primary-up-as (leads l) w i place c x =
    when-each (Stays w) (is_alive w l.at && is_none l.told) (hears_change w i l place c x (slice_get l.state.standings place))
    (λ _. hears-stays w i l place c x (slice_get l.state.standings place))
primary-up-as (has_led r) w i place c x = tt

pub primary-up-stays : (w : World) (i place c : ℕ) (x : Next) → IfSome (primary_up w i place c x) (Stays w)
primary-up-stays w i place c x = primary-up-as (w.primaries i) w i place c x

-- THE OFFICE

writer-asks-stays : (a : Action) (w : World) (b : ℕ) → IfSome (writer_asks a w b) (Stays w)
writer-asks-stays action.Wait w b = tt
writer-asks-stays action.Took w b = tt
writer-asks-stays (action.Ask c) w b = record { reader = refl }
writer-asks-stays (action.Dial to r) w b = tt
writer-asks-stays (action.Send p) w b = tt
writer-asks-stays (action.Answered n a) w b = tt
writer-asks-stays action.Memory w b = tt

commits-asked : (s : OwnStep) (w : World) (i : ℕ) (l : Leading) → IfSome (primary_commits s w i l) (Stays w)
commits-asked own.Waits w i l = tt
commits-asked (own.Updates c) w i l = tt
commits-asked (own.Commits c) w i l = record { reader = refl }
commits-asked (own.Ends r) w i l = tt

primary-asks-stays : (p : Primary) (w : World) (i : ℕ) (b : BlockId) → IfSome (primary_asks p w i b) (Stays w)
primary-asks-stays no_primary w i b = record { reader = refl }
primary-asks-stays (was_told c t) w i b = tt
primary-asks-stays (leads l) w i b = when-each (Stays w) (is_alive w l.at && is_none l.told) _ (λ _. commits-asked (primary.own_step l.state).does w i l)
primary-asks-stays (has_led r) w i b = tt

pub office-stays : (w : World) (c : Caller) → IfSome (office_event w c) (Stays w)
office-stays w (caller.Writer b) =
    when-each (Stays w) (is_none (w.writers b.0).told) _ (λ _. writer-asks-stays (own_step (w.writers b.0).known).action w b.0)
office-stays w (caller.Primary i b) = primary-asks-stays (w.primaries i) w i b
