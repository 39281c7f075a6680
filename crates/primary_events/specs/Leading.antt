-- A primary's own step, and the world after it.
use Rattle.std.specs.Prelude.{◌≡◌, ℕ, Bool, true, false, List, length, slice_get, Option, Some, None, Result, Ok, Err}
use Rattle.std.specs.List.{list_any}
use Rattle.hd_base.specs.Faults.{FaultsIncreased}
use Rattle.hd_base.specs.declared.ends.Conn.{Conn}
use Rattle.hd_base.specs.declared.links.LinkIn as link_in
use Rattle.hd_base.specs.declared.links.LinkOut as link_out
use Rattle.hd_base.specs.declared.numbers.BlockId.{BlockId}
use Rattle.hd_base.specs.declared.numbers.ConnId.{ConnId}
use Rattle.hd_base.specs.declared.roads.Roads as roads
use Rattle.name_core.specs.declared.choice.Chosen.{Chosen}
use Rattle.name_core.specs.declared.desks.Desk as desk
use Rattle.name_core.specs.Offices.{answer_to}
use Rattle.block_recovery.specs.declared.primary.Primary as running
use Rattle.block_recovery.specs.declared.primary.PrimaryStep.{PrimaryStep}
use Rattle.block_recovery.specs.declared.primary.PrimaryStep.TheVariants as step
use Rattle.block_recovery.specs.Dialling.{is_lost}
use Rattle.block_recovery.specs.Steps.{LeadsOn}
use Rattle.recovery_core.specs.declared.primary.OwnStep.{OwnStep}
use Rattle.recovery_core.specs.declared.primary.OwnStep.TheVariants as own
use Rattle.recovery_core.specs.declared.primary.Recovered.{Recovered}
use Rattle.recovery_core.specs.declared.primary.Recovered.TheVariants as recovered
use Rattle.recovery_core.specs.Primaries.{PrimaryState, own_step, end_with, sync_call}
use Rattle.road_traffic.specs.Showing.{Net}
use Rattle.world.specs.declared.events.Caller.TheVariants as caller
use Rattle.world.specs.declared.events.Event.TheVariants as event
use Rattle.world.specs.declared.events.OwnStep.TheVariants as own_event
use Rattle.world.specs.Connections.{is_alive}
use Rattle.world.specs.Parts.{Leading, has_led}
use Rattle.world.specs.Worlds.{World}
use Rattle.world.specs.Events.{happens}
use Rattle.world_primaries.specs.WorldNets.Ends.{IsElsewhere}
use Rattle.world_primaries.specs.WorldNets.Nets.{IsEndOf}
use Rattle.world_primaries.specs.WorldOrders.Orders.{Ordered}
use Rattle.world_primaries.specs.Drawn.{Leads}
use Rattle.world_primaries.specs.Links.{AreDistinct}
use Rattle.client_events.specs.MemberEvents.Joining.{SpellDown}
use Rattle.client_events.specs.MemberEvents.Showing.{ShowsWorld}
use Rattle.primary_events.specs.declared.faults.PrimaryFault.{PrimaryFault}
use Rattle.primary_events.specs.declared.faults.PrimaryFault.TheVariants as fault
use Rattle.primary_events.specs.Showing.{PrimaryStands}
use Rattle.primary_events.specs.Updating.{HasRisen, Follows}

-- HOW IT ENDS

-- where memory ran out the recovery has not ended as in the world
abbrev pub led_by : PrimaryStep → Result PrimaryStep PrimaryFault
led_by (step.Ended recovered.Memory) = Err fault.Memory
led_by other = Ok other

-- an end is lost only where memory ran out
abbrev pub led_as : PrimaryStep → Bool → Result PrimaryStep PrimaryFault
led_as s true = Err fault.Memory
led_as s false = led_by s

-- The step of its own is to send the UPDATE.
abbrev pub IsUpdate : OwnStep → Type 0
IsUpdate (own.Updates c) = Unit {0}
IsUpdate other = ⊥

abbrev pub SendsUpdate : Option PrimaryState → Type 0
SendsUpdate None = ⊥
SendsUpdate (Some core) = IsUpdate (own_step core).does

-- Only memory may be wanting, where the step isn't to send the UPDATE.
abbrev pub IsWanting : Option PrimaryState → Result PrimaryStep PrimaryFault → Type 0
IsWanting core (Ok s) = Unit {0}
IsWanting core (Err fault.Memory) = Unit {0}
IsWanting core (Err other) = SendsUpdate core

-- STEPS OF THE EVENT

-- The primary's own step was done, and an end is lost only where memory ran out.
pub record StepsBy {D R I O : Type 0} (d : desk.Ghosts D) (r : roads.Ghosts R I O) (i : link_in.Ghosts I)
    (o : link_out.Ghosts O) (old new : running.Primary I O) (office office' : D) (road road' : R)
    (result : Result PrimaryStep PrimaryFault) : Type 0 where
  pub did : PrimaryStep
  pub leads : LeadsOn d r i o old new office office' road road' did
  pub is : result ≡ led_as did (list_any (λ link. is_lost (Some link)) new.links.items)

-- The same, and then all ends were exchanged where it sent the UPDATE.
pub record LeadsBy {D R I O : Type 0} (d : desk.Ghosts D) (r : roads.Ghosts R I O) (i : link_in.Ghosts I)
    (o : link_out.Ghosts O) (conns : List (Option ConnId)) (old new : running.Primary I O) (office office' : D)
    (road road' : R) (result : Result PrimaryStep PrimaryFault) : Type 0 where
  pub middle : running.Primary I O
  pub passed : R
  pub first : Result PrimaryStep PrimaryFault
  pub steps : StepsBy d r i o old middle office office' road passed first
  pub same : (middle.block ≡ old.block) × (middle.members ≡ old.members)
  pub count : length middle.links.items ≡ length middle.members
  pub follows : Follows r i o conns first middle new passed road' result

-- BEFORE THE STEP

-- The primary leads, and no answer of the office waits for it. That no connection stands at two places holds after all
-- events (primaries_have_distinct_connections).
pub record CanLead (w : World) (number : ℕ) (l : Leading) : Type 0 where
  pub leads_so : Leads w number l None
  pub distinct : AreDistinct l.conns

-- A primary that leads, and for which no answer of the office waits, can do its own step, in a world as it is after all
-- events.
abbrev pub PrimariesCanLead : Type 0
PrimariesCanLead = (w : World) (number : ℕ) (l : Leading) → Ordered w → Leads w number l None → CanLead w number l

-- What is sent down on these connections is spelled as it is written (messages_are_written).
abbrev pub SpellConns : World → List (Option ℕ) → Type 0
SpellConns w conns = (place c : ℕ) → slice_get conns place ≡ Some (Some c) → SpellDown w c

-- AFTER THE STEP

-- the world after the primary's own step, and where the office was asked in it
abbrev pub stepped : World → ℕ → World
stepped w number = happens w (event.Own (own_event.Primary number))

abbrev pub committed : World → ℕ → BlockId → World
committed w number block = stepped (happens w (event.Office (caller.Primary number block))) number

-- An end is none of the upper ones of these connections.
abbrev pub IsNoneOf : List (Option ℕ) → ℕ → Bool → Type 0
IsNoneOf conns d lower = (place c : ℕ) → slice_get conns place ≡ Some (Some c) → IsElsewhere c false d lower

-- Each other end of the world before is one of the world after.
abbrev pub AllOthersStay : {I O : Type 0} → link_in.Ghosts I → link_out.Ghosts O → World → Net → World → Net →
    List (Option ℕ) → Type 0
AllOthersStay {I} {O} i o w net v made conns = (d : ℕ) (lower : Bool) (e : Conn I O) → IsNoneOf conns d lower →
    IsEndOf i o w net d lower e
    → IsEndOf i o v made d lower e

-- The roads and the office show the world after it, in which the recovery has ended so; the other ends stay.
pub record RecoveryEnded {D R I O : Type 0} (d : desk.Ghosts D) (r : roads.Ghosts R I O) (i : link_in.Ghosts I)
    (o : link_out.Ghosts O) (w : World) (net : Net) (v : World) (number : ℕ) (l : Leading) (end : Recovered)
    (office : D) (road : R) : Type 0 where
  pub made : Net
  pub roads_are : ShowsWorld r v made road
  pub office_is : d.office office ≡ Some v.office
  pub led : v.primaries number ≡ has_led end
  pub others : AllOthersStay i o w net v made l.conns

-- The recovery ends so, or memory ran out.
abbrev pub LeadEnds : {D R I O : Type 0} → desk.Ghosts D → roads.Ghosts R I O → link_in.Ghosts I → link_out.Ghosts O →
    World → Net → World → ℕ → Leading → Recovered → D → R → Result PrimaryStep PrimaryFault → Type 0
LeadEnds d r i o w net v number l end office road (Ok (step.Ended e)) =
    (e ≡ end) × RecoveryEnded d r i o w net v number l end office road
LeadEnds d r i o w net v number l end office road (Ok other) = ⊥
LeadEnds d r i o w net v number l end office road (Err why) = why ≡ fault.Memory

-- Nothing is done, or memory ran out.
abbrev pub LeadWaits : {D R I O : Type 0} → desk.Ghosts D → roads.Ghosts R I O → link_in.Ghosts I → link_out.Ghosts O →
    World → Net → ℕ → Leading → running.Primary I O → D → R → Result PrimaryStep PrimaryFault → Type 0
LeadWaits d r i o w net number l primary office road (Ok step.Waiting) =
    (d.office office ≡ Some w.office) × PrimaryStands r i o w net number l primary road
LeadWaits d r i o w net number l primary office road (Ok other) = ⊥
LeadWaits d r i o w net number l primary office road (Err why) = why ≡ fault.Memory

-- The primary, which leads on as before and has sent the UPDATE, the roads and the office show the world after it; the
-- other ends stay.
pub record UpdateSent {D R I O : Type 0} (d : desk.Ghosts D) (r : roads.Ghosts R I O) (i : link_in.Ghosts I)
    (o : link_out.Ghosts O) (w : World) (net : Net) (v : World) (number : ℕ) (l : Leading)
    (primary : running.Primary I O) (office : D) (road : R) : Type 0 where
  pub made : Net
  pub leading : Leading
  pub leading_is : leading ≡ record l { state = (own_step l.state).primary }
  pub alive : is_alive v leading.at ≡ true
  pub stands : PrimaryStands r i o v made number leading primary road
  pub office_is : d.office office ≡ Some v.office
  pub others : AllOthersStay i o w net v made l.conns

-- Each fault has its cause: the end of one of these connections was brought back with a count that had risen, or the
-- roads' count rose.
abbrev pub IsUpdateCause : {R I O : Type 0} → roads.Ghosts R I O → List (Option ℕ) → R → R → PrimaryFault → Type 0
IsUpdateCause r conns road road' fault.LinkFailed = HasRisen r conns road'
IsUpdateCause r conns road road' fault.RoadsFailed = FaultsIncreased (r.faults road) (r.faults road')
IsUpdateCause r conns road road' fault.Memory = Unit {0}

-- The UPDATE is sent, or it fails.
abbrev pub LeadUpdates : {D R I O : Type 0} → desk.Ghosts D → roads.Ghosts R I O → link_in.Ghosts I →
    link_out.Ghosts O → World → Net → World → ℕ → Leading → running.Primary I O → D → R → R →
    Result PrimaryStep PrimaryFault → Type 0
LeadUpdates d r i o w net v number l primary office road road' (Ok step.Moved) =
    UpdateSent d r i o w net v number l primary office road'
LeadUpdates d r i o w net v number l primary office road road' (Ok other) = ⊥
LeadUpdates d r i o w net v number l primary office road road' (Err why) = IsUpdateCause r l.conns road road' why

-- Where its own step ends the recovery, or commits, the recovery ends as in the world; where it sends the UPDATE it
-- stands as in the world; where it waits the world stays.
pub record LeadsTo {D R I O : Type 0} (d : desk.Ghosts D) (r : roads.Ghosts R I O) (i : link_in.Ghosts I)
    (o : link_out.Ghosts O) (w : World) (net : Net) (number : ℕ) (l : Leading) (primary : running.Primary I O)
    (office : D) (before road : R) (result : Result PrimaryStep PrimaryFault) : Type 0 where
  pub waits : (own_step l.state).does ≡ own.Waits →
      LeadWaits d r i o w net number l primary office road result
  pub updates : (c : Chosen) → (own_step l.state).does ≡ own.Updates c → SpellConns (stepped w number) l.conns →
      LeadUpdates d r i o w net (stepped w number) number l primary office before road result
  pub ends : (end : Recovered) → (own_step l.state).does ≡ own.Ends end →
      LeadEnds d r i o w net (stepped w number) number l end office road result
  pub commits : (c : Chosen) → (own_step l.state).does ≡ own.Commits c →
      LeadEnds d r i o w net (committed w number l.state.block) number l
      (end_with l.state c (answer_to w.office (sync_call l.state c))) office road result

-- The office, the primary and the roads show a world.
abbrev pub LeadShows : {D R I O : Type 0} → desk.Ghosts D → roads.Ghosts R I O → link_in.Ghosts I → link_out.Ghosts O →
    running.Primary I O → running.Primary I O → D → D → R → R → Result PrimaryStep PrimaryFault → Type 0
LeadShows d r i o old new office office' road road' result =
    (w : World) (net : Net) (number : ℕ) (l : Leading) → PrimaryStands r i o w net number l old road →
    CanLead w number l → d.office office ≡ Some w.office
    → LeadsTo d r i o w net number l new office' road road' result
