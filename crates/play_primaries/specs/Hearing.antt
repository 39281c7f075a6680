-- What a primary hears on the connection to a member, and the world after it.
use Rattle.std.specs.Prelude.{◌≡◌, ℕ, Bool, true, false, Some, Result, Ok, Err}
use Rattle.hd_base.specs.declared.links.LinkIn as link_in
use Rattle.hd_base.specs.declared.links.LinkOut as link_out
use Rattle.hd_base.specs.declared.numbers.ConnId.{ConnId}
use Rattle.hd_base.specs.declared.roads.Roads as roads
use Rattle.road_traffic.specs.Showing.{Net}
use Rattle.primary_events.specs.World.Event.TheVariants as event
use Rattle.primary_events.specs.World.Enabled.{can_up}
use Rattle.primary_events.specs.World.Events.{happens}
use Rattle.primary_events.specs.World.Parts.{by_primary}
use Rattle.primary_events.specs.World.Worlds.{World}
use Rattle.play_readers.specs.WorldOrders.Orders.{Ordered}
use Rattle.play_readers.specs.WorldTexts.Texts.{Written}
use Rattle.primary_events.specs.ClientEvents.Showing.{OthersStay}
use Rattle.primary_events.specs.declared.faults.PrimaryFault.{PrimaryFault}
use Rattle.primary_events.specs.Faults.{IsCaused}
use Rattle.play_primaries.specs.declared.clients.PrimaryClient.{PrimaryClient}
use Rattle.play_primaries.specs.declared.clients.PrimaryState.{PrimaryState}
use Rattle.play_primaries.specs.declared.clients.PrimaryState.TheVariants as state
use Rattle.play_primaries.specs.Clients.{PrimaryClientStands}
use Rattle.play_primaries.specs.Dues.{ArePlaced}

-- BEFORE THE EVENT

-- What holds of each world before the event, whatever happened before: messages come in order (messages_come_in_order),
-- each is spelled as it is written (messages_are_written), and a primary has its connections at their places
-- (recoveries_fit).
pub record HearIsLawful (w : World) : Type 0 where
  pub ordered : Ordered w
  pub written : Written w
  pub placed : ArePlaced w

-- AFTER THE EVENT

-- The client and the roads show the world after it; the other ends stay.
pub record HearLeft {R I O : Type 0} (r : roads.Ghosts R I O) (i : link_in.Ghosts I) (o : link_out.Ghosts O)
    (w : World) (net : Net) (v : World) (conn : ConnId) (old new : PrimaryClient I O) (road : R) : Type 0 where
  pub made : Net
  pub stands : PrimaryClientStands r i o v made new road
  pub recovery : new.recovery ≡ old.recovery
  pub others : OthersStay i o w net v made (Some conn.0)

-- How it ends; a fault has its cause.
abbrev pub HearEnds : {R I O : Type 0} → roads.Ghosts R I O → link_in.Ghosts I → link_out.Ghosts O → World → Net →
    ConnId → PrimaryClient I O → PrimaryClient I O → R → R → Result (Unit {0}) PrimaryFault → Type 0
HearEnds r i o w net conn old new road road' (Ok u) =
    HearLeft r i o w net (happens w (event.Up conn)) conn old new road'
HearEnds r i o w net conn old new road road' (Err why) = IsCaused r conn.0 road road' why

-- What it makes of client and roads that show a world in which the primary may take what stands next on this
-- connection, which it dialled for the member at this place.
abbrev pub HearShows : {R I O : Type 0} → roads.Ghosts R I O → link_in.Ghosts I → link_out.Ghosts O → ℕ →
    PrimaryClient I O → PrimaryClient I O → R → R → Result (Unit {0}) PrimaryFault → Type 0
HearShows r i o place old new road road' result =
    (w : World) (net : Net) (conn : ConnId) → PrimaryClientStands r i o w net old road → HearIsLawful w →
    can_up w conn.0 ≡ true → (w.dialled conn.0).upper ≡ by_primary old.recovery.primary place
    → HearEnds r i o w net conn old new road road' result

-- it leads
abbrev pub is_leading : {I O : Type 0} → PrimaryState I O → Bool
is_leading (state.Leads primary) = true
is_leading other = false

-- Nothing is done where the primary doesn't lead.
abbrev pub HearIsIdle : {R I O : Type 0} → PrimaryClient I O → PrimaryClient I O → R → R →
    Result (Unit {0}) PrimaryFault → Type 0
HearIsIdle old new road road' result =
    is_leading old.state ≡ false → (new ≡ old) × (road' ≡ road) × (result ≡ Ok tt)
