-- Events of writers, primaries and the office leave readers and what is sent to them as they are.
use Rattle.hd_base.specs.declared.numbers.BlockId.{BlockId}
use Rattle.hd_base.specs.declared.numbers.NodeId.{NodeId}
use Rattle.op_headers.specs.declared.ops.Op.{Op}
use Rattle.world.specs.RecoveryCore.Primaries.{PrimaryState}
use Rattle.world.specs.RecoveryCore.OwnStep.{OwnStep}
use Rattle.world.specs.RecoveryCore.Standing.{Standing}
use Rattle.std.proofs.Common.{Bool, Err, IfSome, List, None, Ok, Option, Some, [], ◌∷◌, false, refl, sym, subst, ap, ◌∙◌, slice_get, true, ℕ, zero, suc, ◌+◌, ◌≡◌}
use Rattle.std.proofs.lemmas.Option.{none-some, same_Some}
use Rattle.std.specs.Prelude.{is_none, not, slice_get, ◌&&◌, ◌==◌}
use Rattle.world.specs.Clients.{are_members, command_bytes, dialled_change, dialling, did, is_empty, is_formed, own_writer, rest_in, ruled, takes_command, takes_step, writer_change, writer_hears, writer_step, writer_up}
use Rattle.world.specs.Connections.{Next, is_alive, is_conn, place_of}
use Rattle.world.specs.Parts.{Message, Leading, Place, Primary, Told, by_reader, has_led, leads, no_primary, was_told}
use Rattle.world.specs.Primaries.{begins_as, begins_at, commits_step, dials_answered, hears_change, leads_step, leads_told, listens, office_event, own_primary, own_primary_as, own_recover, primary_asks, primary_commits, primary_dials, primary_up, primary_up_as, writer_asks}
use Rattle.world.specs.Worlds.{Change, Dial, World}
use Rattle.world.specs.declared.events.Caller.{Caller}
use Rattle.world.specs.declared.events.TakenCommand.{TakenCommand}
use Rattle.writer_core.specs.Transitions.{completed_step, dial_step, dialled, given, granted, is_connected, open_step, own_step}
use Rattle.writer_core.specs.declared.actions.Action.{Action}
use Rattle.writer_core.specs.declared.phases.Phase.{Phase}
use Rattle.writer_core.specs.declared.phases.Waiting.{Waiting}
use Rattle.writer_core.specs.declared.records.WriterRecord.{WriterRecord}
use Rattle.name_core.specs.declared.calls.OfficeAnswer.TheVariants as office
use Rattle.world.specs.RecoveryCore.Primaries as primary
use Rattle.world.specs.RecoveryCore.OwnStep.TheVariants as own
use Rattle.world.specs.declared.events.Caller.TheVariants as caller
use Rattle.writer_core.specs.Transitions as writer
use Rattle.writer_core.specs.declared.actions.Action.TheVariants as action
use Rattle.writer_core.specs.declared.phases.Phase.TheVariants as phase
use Rattle.world_laws.proofs.FactTables.{when-each}
use Rattle.world_readings.proofs.Keeping.{Unread, unread-none, Aside}

-- a change with no dials
plain : (w : World) (k : Change) → k.reader ≡ w.readers k.reader_at → k.lower ≡ w.lowers k.lower_at → k.dials ≡ [] → ((c : ℕ) → k.ups c ≡ []) → Aside w k
plain w k r l d u = record { reader = r; unread = subst Unread (sym d) unread-none; lower = l; ups = u }

one-unread : (d : Dial) → ((i : ℕ) → d.dialled.upper ≡ by_reader i → ⊥) → Unread (d ∷ [])
one-unread d h = record { at = go }
  where
    go : (j : ℕ) (e : Dial) (i : ℕ) → slice_get (d ∷ []) j ≡ Some e → e.dialled.upper ≡ by_reader i → ⊥
    go zero e i is u = h i (ap (λ (x : Dial). x.dialled.upper) (same_Some d e is) ∙ u)
    go (suc j) e i is u = none-some e is

more-unread : (d : Dial) (ds : List Dial) → ((i : ℕ) → d.dialled.upper ≡ by_reader i → ⊥) → Unread ds → Unread (d ∷ ds)
more-unread d ds h k = record { at = go }
  where
    go : (j : ℕ) (e : Dial) (i : ℕ) → slice_get (d ∷ ds) j ≡ Some e → e.dialled.upper ≡ by_reader i → ⊥
    go zero e i is u = h i (ap (λ (x : Dial). x.dialled.upper) (same_Some d e is) ∙ u)
    go (suc j) e i is u = k.at j e i is u

primary-unread : (w : World) (i : ℕ) (from : Place) (m : Message) (place : ℕ) (ns : List NodeId) (bs : List Bool) → Unread (primary_dials w i from m place ns bs)
primary-unread w i from m place [] bs = unread-none
primary-unread w i from m place (n ∷ ns) [] = unread-none
primary-unread w i from m place (n ∷ ns) (true ∷ bs) = more-unread _ (primary_dials w i from m (place + 1) ns bs) (λ j e. cc) (primary-unread w i from m (place + 1) ns bs)
primary-unread w i from m place (n ∷ ns) (false ∷ bs) = primary-unread w i from m (place + 1) ns bs

-- WRITERS

writer-aside : (w : World) (b : ℕ) (x : WriterRecord) → Aside w (writer_change w b x)
writer-aside w b x = plain w _ refl refl refl (λ d. refl)

did-aside : (w : World) (b : ℕ) (waits : Option Waiting) (a : Action) (x : WriterRecord) (bytes : List ℕ) → IfSome (did w b waits a x bytes) (Aside w)
did-aside w b waits action.Wait x bytes = tt
did-aside w b waits action.Took x bytes = plain w _ refl refl refl (λ d. refl)
did-aside w b waits (action.Ask c) x bytes = tt
did-aside w b waits (action.Dial to r) x bytes = tt
did-aside w b waits (action.Send p) x bytes = plain w _ refl refl refl (λ d. refl)
did-aside w b waits (action.Answered n a) x bytes = plain w _ refl refl refl (λ d. refl)
did-aside w b waits action.Memory x bytes = tt

dialled-aside : (w : World) (b : ℕ) (x : WriterRecord) (to : NodeId) (r : Op) (answered : Bool) → Aside w (dialled_change w b x to r answered)
dialled-aside w b x to r true = record { reader = refl; unread = one-unread _ (λ i e. cc); lower = refl; ups = λ d. refl }
dialled-aside w b x to r false = plain w _ refl refl refl (λ d. refl)

dialling-aside : (w : World) (b : ℕ) (x : WriterRecord) (a : Action) (answered : Bool) → Aside w (dialling w b x a answered)
dialling-aside w b x action.Wait answered = plain w _ refl refl refl (λ d. refl)
dialling-aside w b x action.Took answered = plain w _ refl refl refl (λ d. refl)
dialling-aside w b x (action.Ask c) answered = plain w _ refl refl refl (λ d. refl)
dialling-aside w b x (action.Dial to r) answered = dialled-aside w b x to r (answered && w.running to.0)
dialling-aside w b x (action.Send p) answered = plain w _ refl refl refl (λ d. refl)
dialling-aside w b x (action.Answered n a) answered = plain w _ refl refl refl (λ d. refl)
dialling-aside w b x action.Memory answered = plain w _ refl refl refl (λ d. refl)

rest-aside : (p : Phase) (w : World) (b : ℕ) (x : WriterRecord) (answered : Bool) → IfSome (rest_in p w b x answered) (Aside w)
rest-aside phase.Closed w b x answered = writer-aside w b x
rest-aside (phase.Wanted s) w b x answered = writer-aside w b x
rest-aside (phase.Stamped s stamp) w b x answered = dialling-aside w b x (dial_step x s stamp).action answered
rest-aside (phase.Requested s stamp) w b x answered = writer-aside w b x
rest-aside (phase.Accepted s stamp) w b x answered = writer-aside w b x
rest-aside phase.Opened w b x answered = did-aside w b x.waiting (open_step x).action (open_step x).writer []
rest-aside (phase.Streaming sent) w b x answered = writer-aside w b x
rest-aside phase.Closing w b x answered = writer-aside w b x
rest-aside phase.Finished w b x answered = writer-aside w b x
rest-aside phase.Completed w b x answered = did-aside w b x.waiting (completed_step x).action (completed_step x).writer []
rest-aside (phase.Failed f) w b x answered = writer-aside w b x

takes-aside : (w : World) (b : ℕ) (waits : Option Waiting) (s : writer.Step) (bytes : List ℕ) → IfSome (takes_step w b waits s bytes) (Aside w)
takes-aside w b waits s bytes = when-each (Aside w) (is_empty s.writer.queue) _ (λ _. did-aside w b waits s.action s.writer bytes)

command-aside : (w : World) (b : ℕ) (x : WriterRecord) (t : TakenCommand) → IfSome (takes_command w b x t) (Aside w)
command-aside w b x t =
    let y = ruled x t.command t.rule in
    when-each (Aside w) (is_formed t.command t.rule && not (is_empty (given x t.command).queue)) _
    (λ _. takes-aside w b y.waiting (own_step (given y t.command)) (command_bytes y t.command))

step-aside : (w : World) (b : ℕ) (x : WriterRecord) (told : Option Told) (takes : Option TakenCommand) (answered : Bool)
    → IfSome (writer_step w b x told takes answered) (Aside w)
step-aside w b x (Some told) None answered = rest-aside (granted x told).phase w b (granted x told) answered
step-aside w b x (Some told) (Some t) answered = tt
step-aside w b x None None answered = did-aside w b x.waiting (own_step x).action (own_step x).writer []
step-aside w b x None (Some t) answered = command-aside w b x t

pub own-writer-aside : (w : World) (b : ℕ) (takes : Option TakenCommand) (answered : Bool) → IfSome (own_writer w b takes answered) (Aside w)
own-writer-aside w b takes answered = step-aside w b (w.writers b).known (w.writers b).told takes answered

pub writer-up-aside : (w : World) (b c : ℕ) (x : Next) → IfSome (writer_up w b c x) (Aside w)
writer-up-aside w b c x =
    when-each (Aside w) (is_conn (w.writers b).conn c && is_none (w.writers b).told) _ (λ _. writer-aside w b (writer_hears (w.writers b).known x))

-- PRIMARIES

begins-as : (t : Told) (w : World) (i : ℕ) (at : Place) (b : BlockId) (members : List NodeId) (answers : List Bool) → IfSome (begins_as t w i at b members answers) (Aside w)
begins-as (Ok (office.Stamp s)) w i at b members answers = tt
begins-as (Ok (office.Reopened r)) w i at b members answers = tt
begins-as (Ok (office.Begun begun)) w i at b members answers = record { reader = refl; unread = primary-unread w i at _ 0 members (dials_answered w members answers); lower = refl; ups = λ d. refl }
begins-as (Ok office.Nothing) w i at b members answers = tt
begins-as (Err fault) w i at b members answers = plain w _ refl refl refl (λ d. refl)

begins-at : (p : Primary) (w : World) (i n : ℕ) (b : BlockId) (members : List NodeId) (answers : List Bool) → IfSome (begins_at p w i n b members answers) (Aside w)
begins-at no_primary w i n b members answers = tt
begins-at (was_told asked told) w i n b members answers =
    when-each (Aside w) (asked.0 == b.0 && w.running n && are_members members) (begins_as told w i (place_of w n) b members answers)
    (λ e. begins-as told w i (place_of w n) b members answers)
begins-at (leads l) w i n b members answers = tt
begins-at (has_led r) w i n b members answers = tt

pub own-recover-aside : (w : World) (i n : ℕ) (b : BlockId) (members : List NodeId) (answers : List Bool) → IfSome (own_recover w i n b members answers) (Aside w)
own-recover-aside w i n b members answers = begins-at (w.primaries i) w i n b members answers

leads-step-aside : (s : OwnStep) (w : World) (i : ℕ) (l : Leading) (p : PrimaryState) → IfSome (leads_step s w i l p) (Aside w)
leads-step-aside own.Waits w i l p = tt
leads-step-aside (own.Updates c) w i l p = plain w _ refl refl refl (λ d. refl)
leads-step-aside (own.Commits c) w i l p = tt
leads-step-aside (own.Ends r) w i l p = plain w _ refl refl refl (λ d. refl)

commits-aside : (s : OwnStep) (w : World) (i : ℕ) (l : Leading) (t : Told) → IfSome (commits_step s w i l t) (Aside w)
commits-aside own.Waits w i l t = tt
commits-aside (own.Updates c) w i l t = tt
commits-aside (own.Commits c) w i l t = plain w _ refl refl refl (λ d. refl)
commits-aside (own.Ends r) w i l t = tt

leads-told-aside : (t : Option Told) (w : World) (i : ℕ) (l : Leading) → IfSome (leads_told t w i l) (Aside w)
leads-told-aside None w i l = leads-step-aside (primary.own_step l.state).does w i l (primary.own_step l.state).primary
leads-told-aside (Some told) w i l = commits-aside (primary.own_step l.state).does w i l told

own-primary-as : (p : Primary) (w : World) (i : ℕ) → IfSome (own_primary_as p w i) (Aside w)
own-primary-as no_primary w i = tt
own-primary-as (was_told b t) w i = tt
own-primary-as (leads l) w i = when-each (Aside w) (is_alive w l.at) _ (λ _. leads-told-aside l.told w i l)
own-primary-as (has_led r) w i = tt

pub own-primary-aside : (w : World) (i : ℕ) → IfSome (own_primary w i) (Aside w)
own-primary-aside w i = own-primary-as (w.primaries i) w i

hears-aside : (w : World) (i : ℕ) (l : Leading) (place c : ℕ) (x : Next) (o : Option Standing) → IfSome (hears_change w i l place c x o) (Aside w)
hears-aside w i l place c x None = tt
hears-aside w i l place c x (Some s) = when-each (Aside w) (listens l.state.phase s) _ (λ _. plain w _ refl refl refl (λ d. refl))

primary-up-as : (p : Primary) (w : World) (i place c : ℕ) (x : Next) → IfSome (primary_up_as p w i place c x) (Aside w)
primary-up-as no_primary w i place c x = tt
primary-up-as (was_told b t) w i place c x = tt
primary-up-as (leads l) w i place c x =
    when-each (Aside w) (is_alive w l.at && is_none l.told) (hears_change w i l place c x (slice_get l.state.standings place))
    (λ _. hears-aside w i l place c x (slice_get l.state.standings place))
primary-up-as (has_led r) w i place c x = tt

pub primary-up-aside : (w : World) (i place c : ℕ) (x : Next) → IfSome (primary_up w i place c x) (Aside w)
primary-up-aside w i place c x = primary-up-as (w.primaries i) w i place c x

-- THE OFFICE

writer-asks-aside : (a : Action) (w : World) (b : ℕ) → IfSome (writer_asks a w b) (Aside w)
writer-asks-aside action.Wait w b = tt
writer-asks-aside action.Took w b = tt
writer-asks-aside (action.Ask c) w b = plain w _ refl refl refl (λ d. refl)
writer-asks-aside (action.Dial to r) w b = tt
writer-asks-aside (action.Send p) w b = tt
writer-asks-aside (action.Answered n a) w b = tt
writer-asks-aside action.Memory w b = tt

commits-asked : (s : OwnStep) (w : World) (i : ℕ) (l : Leading) → IfSome (primary_commits s w i l) (Aside w)
commits-asked own.Waits w i l = tt
commits-asked (own.Updates c) w i l = tt
commits-asked (own.Commits c) w i l = plain w _ refl refl refl (λ d. refl)
commits-asked (own.Ends r) w i l = tt

primary-asks-aside : (p : Primary) (w : World) (i : ℕ) (b : BlockId) → IfSome (primary_asks p w i b) (Aside w)
primary-asks-aside no_primary w i b = plain w _ refl refl refl (λ d. refl)
primary-asks-aside (was_told c t) w i b = tt
primary-asks-aside (leads l) w i b = when-each (Aside w) (is_alive w l.at && is_none l.told) _ (λ _. commits-asked (primary.own_step l.state).does w i l)
primary-asks-aside (has_led r) w i b = tt

pub office-aside : (w : World) (c : Caller) → IfSome (office_event w c) (Aside w)
office-aside w (caller.Writer b) =
    when-each (Aside w) (is_none (w.writers b.0).told) _ (λ _. writer-asks-aside (own_step (w.writers b.0).known).action w b.0)
office-aside w (caller.Primary i b) = primary-asks-aside (w.primaries i) w i b
