-- What primaries and the office leave of ends that were taken.
use Rattle.std.proofs.Common.{ℕ, Bool, List, slice_get, Option, Some, None, IfSome, Ok, Err, refl}
use Rattle.std.specs.Prelude.{◌==◌, ◌&&◌, is_none}
use Rattle.hd_base.specs.declared.numbers.BlockId.{BlockId}
use Rattle.hd_base.specs.declared.numbers.NodeId.{NodeId}
use Rattle.name_core.specs.declared.calls.OfficeAnswer.TheVariants as office
use Rattle.world_laws.specs.WriterCore.Action.{Action}
use Rattle.world_laws.specs.WriterCore.Action.TheVariants as action
use Rattle.world_laws.specs.WriterCore.Transitions as writer
use Rattle.world_laws.specs.RecoveryCore.OwnStep.{OwnStep}
use Rattle.world_laws.specs.RecoveryCore.OwnStep.TheVariants as own
use Rattle.world_laws.specs.RecoveryCore.Standing.{Standing}
use Rattle.world_laws.specs.RecoveryCore.Primaries.{PrimaryState, own_step}
use Rattle.world_laws.specs.World.Parts.{Place, Told, Leading, Primary, no_primary, was_told, leads, has_led}
use Rattle.world_laws.specs.World.Worlds.{World}
use Rattle.world_laws.specs.World.Connections.{Next, is_alive, place_of}
use Rattle.world_laws.specs.World.Clients.{are_members}
use Rattle.world_laws.specs.World.Primaries.{begins_as, begins_at, own_recover, leads_step, commits_step, leads_told, own_primary_as, own_primary, listens, hears_change, primary_up_as, primary_up, writer_asks, primary_commits, writer_asks_office, primary_asks}
use Rattle.world_laws.proofs.FactTables.{when-each}
use Rattle.world_orders.proofs.OpenFrame.{IsOpenWriter, Beside, WriterOpens}

-- ITS STEPS

begins-as-beside : (t : Told) (v : World) (i : ℕ) (at : Place) (b : BlockId) (members : List NodeId) (answers : List Bool) → IfSome (begins_as t v i at b members answers) (Beside v)
begins-as-beside (Ok (office.Stamp s)) v i at b members answers = tt
begins-as-beside (Ok (office.Reopened r)) v i at b members answers = tt
begins-as-beside (Ok (office.Begun begun)) v i at b members answers = record { lower_same = refl; writer_same = refl }
begins-as-beside (Ok office.Nothing) v i at b members answers = tt
begins-as-beside (Err fault) v i at b members answers = record { lower_same = refl; writer_same = refl }

begins-at-beside : (q : Primary) (v : World) (i n : ℕ) (b : BlockId) (members : List NodeId) (answers : List Bool) → IfSome (begins_at q v i n b members answers) (Beside v)
begins-at-beside no_primary v i n b members answers = tt
begins-at-beside (was_told asked told) v i n b members answers =
    when-each (Beside v) (asked.0 == b.0 && v.running n && are_members members) _ (λ _. begins-as-beside told v i (place_of v n) b members answers)
begins-at-beside (leads l) v i n b members answers = tt
begins-at-beside (has_led r) v i n b members answers = tt

pub own-recover-beside : (v : World) (i n : ℕ) (b : BlockId) (members : List NodeId) (answers : List Bool) → IfSome (own_recover v i n b members answers) (Beside v)
own-recover-beside v i n b members answers = begins-at-beside (v.primaries i) v i n b members answers

leads-step-beside : (s : OwnStep) (v : World) (i : ℕ) (l : Leading) (q : PrimaryState) → IfSome (leads_step s v i l q) (Beside v)
leads-step-beside own.Waits v i l q = tt
leads-step-beside (own.Updates c) v i l q = record { lower_same = refl; writer_same = refl }
leads-step-beside (own.Commits c) v i l q = tt
leads-step-beside (own.Ends r) v i l q = record { lower_same = refl; writer_same = refl }

commits-beside : (s : OwnStep) (v : World) (i : ℕ) (l : Leading) (t : Told) → IfSome (commits_step s v i l t) (Beside v)
commits-beside own.Waits v i l t = tt
commits-beside (own.Updates c) v i l t = tt
commits-beside (own.Commits c) v i l t = record { lower_same = refl; writer_same = refl }
commits-beside (own.Ends r) v i l t = tt

leads-told-beside : (t : Option Told) (v : World) (i : ℕ) (l : Leading) → IfSome (leads_told t v i l) (Beside v)
leads-told-beside None v i l = leads-step-beside (own_step l.state).does v i l (own_step l.state).primary
leads-told-beside (Some told) v i l = commits-beside (own_step l.state).does v i l told

own-primary-as-beside : (q : Primary) (v : World) (i : ℕ) → IfSome (own_primary_as q v i) (Beside v)
own-primary-as-beside no_primary v i = tt
own-primary-as-beside (was_told b t) v i = tt
own-primary-as-beside (leads l) v i = when-each (Beside v) (is_alive v l.at) _ (λ _. leads-told-beside l.told v i l)
own-primary-as-beside (has_led r) v i = tt

pub own-primary-beside : (v : World) (i : ℕ) → IfSome (own_primary v i) (Beside v)
own-primary-beside v i = own-primary-as-beside (v.primaries i) v i

-- WHAT IT TAKES

hears-beside : (v : World) (i : ℕ) (l : Leading) (place c : ℕ) (x : Next) (o : Option Standing) → IfSome (hears_change v i l place c x o) (Beside v)
hears-beside v i l place c x None = tt
hears-beside v i l place c x (Some s) = when-each (Beside v) (listens l.state.phase s) _ (λ _. record { lower_same = refl; writer_same = refl })

primary-up-as-beside : (q : Primary) (v : World) (i place c : ℕ) (x : Next) → IfSome (primary_up_as q v i place c x) (Beside v)
primary-up-as-beside no_primary v i place c x = tt
primary-up-as-beside (was_told b t) v i place c x = tt
primary-up-as-beside (leads l) v i place c x = when-each (Beside v) (is_alive v l.at && is_none l.told) _ (λ _. hears-beside v i l place c x (slice_get l.state.standings place))
primary-up-as-beside (has_led b) v i place c x = tt

pub primary-up-beside : (v : World) (i place c : ℕ) (x : Next) → IfSome (primary_up v i place c x) (Beside v)
primary-up-beside v i place c x = primary-up-as-beside (v.primaries i) v i place c x

-- THE OFFICE

writer-asks-opens : (a : Action) (v : World) (b : ℕ) → IsOpenWriter v.up_marks (v.writers b) → IfSome (writer_asks a v b) (WriterOpens v b)
writer-asks-opens action.Wait v b h = tt
writer-asks-opens action.Took v b h = tt
writer-asks-opens (action.Ask c) v b h = record { at_is = refl; lower_same = refl; writer = h }
writer-asks-opens (action.Dial to r) v b h = tt
writer-asks-opens (action.Send q) v b h = tt
writer-asks-opens (action.Answered n a) v b h = tt
writer-asks-opens action.Memory v b h = tt

pub asks-opens : (v : World) (b : ℕ) → IsOpenWriter v.up_marks (v.writers b) → IfSome (writer_asks_office v b) (WriterOpens v b)
asks-opens v b h = when-each (WriterOpens v b) (is_none (v.writers b).told) _ (λ _. writer-asks-opens (writer.own_step (v.writers b).known).action v b h)

commits-asked : (s : OwnStep) (v : World) (i : ℕ) (l : Leading) → IfSome (primary_commits s v i l) (Beside v)
commits-asked own.Waits v i l = tt
commits-asked (own.Updates c) v i l = tt
commits-asked (own.Commits c) v i l = record { lower_same = refl; writer_same = refl }
commits-asked (own.Ends r) v i l = tt

primary-asks-as-beside : (q : Primary) (v : World) (i : ℕ) (b : BlockId) → IfSome (primary_asks q v i b) (Beside v)
primary-asks-as-beside no_primary v i b = record { lower_same = refl; writer_same = refl }
primary-asks-as-beside (was_told c t) v i b = tt
primary-asks-as-beside (leads l) v i b = when-each (Beside v) (is_alive v l.at && is_none l.told) _ (λ _. commits-asked (own_step l.state).does v i l)
primary-asks-as-beside (has_led r) v i b = tt

pub primary-asks-beside : (v : World) (i : ℕ) (b : BlockId) → IfSome (primary_asks (v.primaries i) v i b) (Beside v)
primary-asks-beside v i b = primary-asks-as-beside (v.primaries i) v i b
