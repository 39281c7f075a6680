-- The primary of a line shows a world.
use Rattle.std.specs.Prelude.{◌≡◌, ◌≤◌, ◌==◌, ℕ, Bool, true, false, not, length, slice_get, All, Option, Some, None}
use Rattle.hd_base.specs.Channels.{Plain}
use Rattle.hd_base.specs.declared.links.LinkIn as link_in
use Rattle.hd_base.specs.declared.links.LinkOut as link_out
use Rattle.hd_base.specs.declared.numbers.ConnId.{ConnId}
use Rattle.hd_base.specs.declared.roads.Roads as roads
use Rattle.recovery_core.specs.declared.primary.Phase.{Phase}
use Rattle.recovery_core.specs.declared.primary.Phase.TheVariants as phase
use Rattle.primary_events.specs.BlockRecovery.Primary as running
use Rattle.primary_events.specs.BlockRecovery.Awaiting.{waits_for, hearing_conn}
use Rattle.primary_events.specs.BlockRecovery.Dialling.{LinkIsKnown}
use Rattle.road_traffic.specs.Showing.{Net}
use Rattle.primary_events.specs.World.Connections.{is_alive}
use Rattle.primary_events.specs.World.Parts.{Leading, no_primary, leads, has_led}
use Rattle.primary_events.specs.World.Worlds.{World}
use Rattle.primary_events.specs.MemberEvents.Showing.{ShowsWorld}
use Rattle.primary_events.specs.Showing.{PrimaryShows}
use Rattle.play_readers.specs.PlayModel.Recovery.{Recovery}
use Rattle.play_primaries.specs.declared.clients.PrimaryClient.{PrimaryClient}
use Rattle.play_primaries.specs.declared.clients.PrimaryState.{PrimaryState}
use Rattle.play_primaries.specs.declared.clients.PrimaryState.TheVariants as state

-- it has something to do by itself: it hasn't begun, and may; or it leads, and waits for no answer
abbrev pub can_act : {I O : Type 0} → Bool → PrimaryState I O → Bool
can_act may_begin state.New = may_begin
can_act may_begin (state.Leads primary) = not (waits_for primary.core)
can_act may_begin other = false

-- this is the connection
abbrev pub is_conn : Option ConnId → ℕ → Bool
is_conn None c = false
is_conn (Some hearing) c = hearing.0 == c

-- it has this connection to the member at this place, whose end wasn't taken
abbrev pub hears_on : {I O : Type 0} → PrimaryState I O → ℕ → ℕ → Bool
hears_on (state.Leads primary) c place = is_conn (hearing_conn (slice_get primary.links.items place)) c
hears_on other c place = false

-- WHAT THE ROADS KNOW

-- There is a seat for each member, and the roads know the end of each connection.
pub record IsReady {I O : Type 0} (plain : Option Plain) (primary : running.Primary I O) : Type 0 where
  pub count : length primary.links.items ≡ length primary.members
  pub known : All (LinkIsKnown plain) primary.links.items

-- So it is where the primary leads.
abbrev pub PrimaryIsReady : {I O : Type 0} → Option Plain → PrimaryState I O → Type 0
PrimaryIsReady plain (state.Leads primary) = IsReady plain primary
PrimaryIsReady plain other = Unit {0}

-- THE WORLD

-- It hasn't sent the last of its messages.
abbrev pub IsUnderWay : Phase → Type 0
IsUnderWay phase.Over = ⊥
IsUnderWay other = Unit {0}

-- It hasn't begun, and where it may its node runs.
pub record IsNew (w : World) (r : Recovery) : Type 0 where
  pub is : w.primaries r.primary ≡ no_primary
  pub runs : r.may_begin ≡ true → w.running r.node.0 ≡ true

-- It leads so, at a node that runs in that life, over its connections.
pub record LeadsSo {I O : Type 0} (i : link_in.Ghosts I) (o : link_out.Ghosts O) (w : World) (net : Net) (r : Recovery)
    (primary : running.Primary I O) (l : Leading) : Type 0 where
  pub shows : PrimaryShows i o w net r.primary l primary
  pub alive : is_alive w l.at ≡ true
  pub at_node : l.at.node ≡ r.node.0
  pub under_way : IsUnderWay l.state.phase
  pub block : primary.block ≡ r.block
  pub members : primary.members ≡ r.members

pub record LeadsOn {I O : Type 0} (i : link_in.Ghosts I) (o : link_out.Ghosts O) (w : World) (net : Net) (r : Recovery)
    (primary : running.Primary I O) : Type 0 where
  pub leading : Leading
  pub leads_so : LeadsSo i o w net r primary leading

-- It leads in a life of its node that is over.
pub record HasStopped (w : World) (r : Recovery) : Type 0 where
  pub leading : Leading
  pub is : w.primaries r.primary ≡ leads leading
  pub gone : is_alive w leading.at ≡ false
  pub past : leading.at.life ≤ w.lives leading.at.node

abbrev pub StateShows : {I O : Type 0} → link_in.Ghosts I → link_out.Ghosts O → World → Net → Recovery →
    PrimaryState I O → Type 0
StateShows i o w net r state.New = IsNew w r
StateShows i o w net r (state.Leads primary) = LeadsOn i o w net r primary
StateShows i o w net r (state.HasLed led) = w.primaries r.primary ≡ has_led led
StateShows i o w net r state.Stopped = HasStopped w r

-- The client of a line shows its primary.
abbrev pub PrimaryClientShows : {I O : Type 0} → link_in.Ghosts I → link_out.Ghosts O → World → Net → PrimaryClient I O
    → Type 0
PrimaryClientShows i o w net c = StateShows i o w net c.recovery c.state

-- The client and the roads show the world.
pub record PrimaryClientStands {R I O : Type 0} (r : roads.Ghosts R I O) (i : link_in.Ghosts I) (o : link_out.Ghosts O)
    (w : World) (net : Net) (c : PrimaryClient I O) (road : R) : Type 0 where
  pub roads_are : ShowsWorld r w net road
  pub client_is : PrimaryClientShows i o w net c
