-- The own step of a primary, and the world after it.
use Rattle.std.specs.Prelude.{◌≡◌, ◌≤◌, ◌+◌, ℕ, suc, length, option_map, Bool, true, false, List, [], ◌∷◌, is_some, map, slice_get, Option, Some, None}
use Rattle.std.specs.Prelude.{Result, Ok, Err}
use Rattle.std.specs.Global.{Vec}
use Rattle.hd_base.specs.declared.ends.Conn.{Conn}
use Rattle.hd_base.specs.declared.links.LinkIn as link_in
use Rattle.hd_base.specs.declared.links.LinkOut as link_out
use Rattle.hd_base.specs.declared.numbers.NodeId.{NodeId}
use Rattle.hd_base.specs.declared.roads.Roads as roads
use Rattle.name_core.specs.declared.desks.Desk as desk
use Rattle.recovery_core.specs.Primaries.{own_step}
use Rattle.road_traffic.specs.Showing.{Net}
use Rattle.primary_events.specs.World.Event.{Event}
use Rattle.primary_events.specs.World.Events.{run}
use Rattle.primary_events.specs.World.Parts.{Place, by_primary, Primary, leads}
use Rattle.primary_events.specs.World.Primaries.{dials_answered, numbered}
use Rattle.primary_events.specs.World.Worlds.{World}
use Rattle.play_readers.specs.WorldOrders.Orders.{Ordered}
use Rattle.play_readers.specs.WorldTexts.Texts.{Written}
use Rattle.primary_events.specs.declared.faults.PrimaryFault.{PrimaryFault}
use Rattle.primary_events.specs.Beginning.{LowerShows, IsUnreached, IsBeginCause}
use Rattle.primary_events.specs.Leading.{AllOthersStay, IsUpdateCause}
use Rattle.play_readers.specs.PlayModel.Recovery.{Recovery}
use Rattle.play_readers.specs.PlayModel.Recoveries.{begins_so, leads_events, primary_asks, recovery_due, recovery_events}
use Rattle.play_primaries.specs.declared.clients.PrimaryClient.{PrimaryClient}
use Rattle.play_primaries.specs.Clients.{can_act, PrimaryClientStands}

-- WHAT HAPPENS

-- the events of a primary's own step: to begin it asks the office, and these dials are answered if their nodes run
abbrev pub step_events : Primary → Recovery → List Bool → List Event
step_events (leads l) r answers = leads_events (own_step l.state).does r
step_events other r answers = primary_asks r ∷ (begins_so r answers ∷ [])

abbrev pub own_events : World → Recovery → List Bool → List Event
own_events w r answers = step_events (w.primaries r.primary) r answers

-- Just those dials are answered, of the members that have them, whose lower ends there are.
abbrev pub AreAnswered : {I O : Type 0} → World → List NodeId → List Bool → List (Option (Conn I O)) → Type 0
AreAnswered {I} {O} w members answers lowers = (place : ℕ) (lower : Option (Conn I O)) →
    slice_get lowers place ≡ Some lower
    → slice_get (dials_answered w members answers) place ≡ Some (is_some lower)

-- Each member that was dialled, and of which there is no lower end, is a node that doesn't run.
abbrev pub OthersAreStopped : {I O : Type 0} → World → List NodeId → List (Option (Conn I O)) → Type 0
OthersAreStopped w members lowers = (place : ℕ) (member : NodeId) → slice_get members place ≡ Some member →
    slice_get lowers place ≡ Some None
    → w.running member.0 ≡ false

-- BEFORE THE EVENT

-- What holds of each world, whatever happened before: messages come in order (messages_come_in_order), and each is
-- spelled as it is written behind the step (messages_are_written).
pub record OwnIsLawful (w : World) (r : Recovery) : Type 0 where
  pub ordered : Ordered w
  pub written : (answers : List Bool) → Written (run w (own_events w r answers))

-- AFTER THE EVENT

-- the connections of a primary that leads
abbrev pub led_conns : Primary → List (Option ℕ)
led_conns (leads l) = l.conns
led_conns other = []

-- how many dials were answered
abbrev pub dials_in : List Bool → ℕ
dials_in [] = 0
dials_in (true ∷ answers) = suc (dials_in answers)
dials_in (false ∷ answers) = dials_in answers

-- The primary dialled this member, at its place, from its node.
pub record IsDialledAt (v : World) (r : Recovery) (place : ℕ) (member : NodeId) (c : ℕ) : Type 0 where
  pub upper : (v.dialled c).upper ≡ by_primary r.primary place
  pub from : option_map (λ (p : Place). p.node) (v.dialled c).from ≡ Some r.node.0
  pub to : (v.dialled c).to.node ≡ member.0

-- Just the members whose dials were answered so were dialled, in their order; nothing else was.
pub record AreDialled (w v : World) (r : Recovery) (answers : List Bool) : Type 0 where
  pub count : length answers ≤ length r.members
  pub next : v.next_conn ≡ w.next_conn + dials_in answers
  pub each : (place c : ℕ) (member : NodeId) → slice_get r.members place ≡ Some member →
      slice_get (numbered w.next_conn answers) place ≡ Some (Some c)
      → IsDialledAt v r place member c

-- Client, office and roads show the world after it, and the lower ends are those of the new connections, which are
-- numbered in the members' order. The ends that are none of the primary's stay.
pub record OwnLeft {D R I O : Type 0} (d : desk.Ghosts D) (r : roads.Ghosts R I O) (i : link_in.Ghosts I)
    (o : link_out.Ghosts O) (w : World) (net : Net) (v : World) (old new : PrimaryClient I O)
    (lowers : List (Option (Conn I O))) (office : D) (road : R) : Type 0 where
  pub made : Net
  pub stands : PrimaryClientStands r i o v made new road
  pub recovery : new.recovery ≡ old.recovery
  pub office_is : d.office office ≡ Some v.office
  pub dialled : AreDialled w v old.recovery (map is_some lowers)
  pub lowers_are : (place : ℕ) →
      LowerShows i o v made (slice_get (numbered w.next_conn (map is_some lowers)) place) (slice_get lowers place)
  pub others : AllOthersStay i o w net v made (led_conns (w.primaries old.recovery.primary))

-- A member that was dialled, and of which there is no lower end, wasn't reached. What is left is left in each world in
-- which the same dials are answered; where all others are stopped that is the world in which all dials are answered to
-- nodes that run.
pub record OwnDone {D R I O : Type 0} (d : desk.Ghosts D) (r : roads.Ghosts R I O) (i : link_in.Ghosts I)
    (o : link_out.Ghosts O) (w : World) (net : Net) (old new : PrimaryClient I O) (lowers : List (Option (Conn I O)))
    (office : D) (road road' : R) : Type 0 where
  pub unanswered : (place : ℕ) (member : NodeId) → slice_get old.recovery.members place ≡ Some member →
      slice_get lowers place ≡ Some None → IsUnreached r w member road road'
  pub left : (answers : List Bool) → AreAnswered w old.recovery.members answers lowers →
      OwnLeft d r i o w net (run w (own_events w old.recovery answers)) old new lowers office road'
  pub whole : OthersAreStopped w old.recovery.members lowers →
      OwnLeft d r i o w net (run w (recovery_events w old.recovery)) old new lowers office road'

-- Each fault has its cause: the end of one of the primary's connections was brought back with a count that had risen,
-- or the roads' count rose.
abbrev pub IsOwnCause : {R I O : Type 0} → roads.Ghosts R I O → World → Primary → R → R → PrimaryFault → Type 0
IsOwnCause r w (leads l) road road' why = IsUpdateCause r l.conns road road' why
IsOwnCause r w other road road' why = IsBeginCause r w.next_conn road road' why

abbrev pub OwnEnds : {D R I O : Type 0} → desk.Ghosts D → roads.Ghosts R I O → link_in.Ghosts I → link_out.Ghosts O →
    World → Net → PrimaryClient I O → PrimaryClient I O → D → R → R → Result (Vec (Option (Conn I O))) PrimaryFault →
    Type 0
OwnEnds d r i o w net old new office road road' (Ok lowers) =
    OwnDone d r i o w net old new lowers.items office road road'
OwnEnds d r i o w net old new office road road' (Err why) =
    IsOwnCause r w (w.primaries old.recovery.primary) road road' why

-- What it makes of client, office and roads that show a world in which the step is due.
abbrev pub OwnShows : {D R I O : Type 0} → desk.Ghosts D → roads.Ghosts R I O → link_in.Ghosts I → link_out.Ghosts O →
    PrimaryClient I O → PrimaryClient I O → D → D → R → R → Result (Vec (Option (Conn I O))) PrimaryFault → Type 0
OwnShows d r i o old new office office' road road' result =
    (w : World) (net : Net) → PrimaryClientStands r i o w net old road → d.office office ≡ Some w.office →
    OwnIsLawful w old.recovery → recovery_due w old.recovery ≡ true
    → OwnEnds d r i o w net old new office' road road' result

-- No lower end is handed out.
abbrev pub HandsOutNone : {I O : Type 0} → Result (Vec (Option (Conn I O))) PrimaryFault → Type 0
HandsOutNone (Ok lowers) = lowers.items ≡ []
HandsOutNone (Err why) = ⊥

-- Nothing is done where the client has no step.
pub record NothingIsDone {D R I O : Type 0} (old new : PrimaryClient I O) (office office' : D) (road road' : R)
    (result : Result (Vec (Option (Conn I O))) PrimaryFault) : Type 0 where
  pub client : new ≡ old
  pub office_same : office' ≡ office
  pub roads_same : road' ≡ road
  pub none : HandsOutNone result

abbrev pub OwnIsIdle : {D R I O : Type 0} → PrimaryClient I O → PrimaryClient I O → D → D → R → R →
    Result (Vec (Option (Conn I O))) PrimaryFault → Type 0
OwnIsIdle old new office office' road road' result = can_act old.recovery.may_begin old.state ≡ false
    → NothingIsDone old new office office' road road' result
