-- A primary of a block recovery and the roads show a world.
use Rattle.std.specs.Prelude.{◌≡◌, ℕ, Bool, true, false, is_some, slice_get, Option, Some, None}
use Rattle.hd_base.specs.declared.links.LinkIn as link_in
use Rattle.hd_base.specs.declared.links.LinkOut as link_out
use Rattle.hd_base.specs.declared.roads.Roads as roads
use Rattle.block_recovery.specs.declared.links.Link.{Link}
use Rattle.block_recovery.specs.declared.links.Seat.{Seat}
use Rattle.block_recovery.specs.declared.links.Seat.TheVariants as seat
use Rattle.block_recovery.specs.declared.primary.Primary as running
use Rattle.block_recovery.specs.LinkMessages.Incomings.{nothing_received}
use Rattle.recovery_core.specs.declared.primary.Phase.{Phase}
use Rattle.recovery_core.specs.declared.primary.Phase.TheVariants as phase
use Rattle.recovery_core.specs.declared.standings.Standing.{Standing}
use Rattle.recovery_core.specs.declared.standings.Standing.TheVariants as standing
use Rattle.road_traffic.specs.Showing.{Net}
use Rattle.world.specs.Parts.{Leading, leads}
use Rattle.world.specs.Worlds.{World}
use Rattle.world.specs.Primaries.{listens}
use Rattle.world_primaries.specs.WorldNets.Nets.{IsEndOf, is_over}
use Rattle.client_events.specs.MemberEvents.Showing.{ShowsWorld}

-- ITS CONNECTIONS

-- The link has the upper end of this connection. Nothing was received there that wasn't taken, as long as the end
-- wasn't.
pub record LinkShows {I O : Type 0} (i : link_in.Ghosts I) (o : link_out.Ghosts O) (w : World) (net : Net) (conn : ℕ)
    (link : Link I O) : Type 0 where
  pub end_is : IsEndOf i o w net conn false link.end
  pub received : is_over w conn false ≡ false → link.incoming ≡ nothing_received
  pub over : link.over ≡ is_over w conn false
  pub works : link.failed ≡ false

-- The primary has shut the connection.
pub record IsShut (w : World) (conn : ℕ) : Type 0 where
  pub down : is_some (w.down_marks conn).end ≡ true
  pub up : is_some (w.up_marks conn).end ≡ true

-- The primary has the upper end of the connection to a member, if there is one, to which it still listens, and has shut
-- that to each other member.
abbrev pub SeatShows : {I O : Type 0} → link_in.Ghosts I → link_out.Ghosts O → World → Net → Bool → Option ℕ →
    Seat I O → Type 0
SeatShows i o w net true (Some conn) (seat.Open link) = LinkShows i o w net conn link
SeatShows i o w net true (Some conn) other = ⊥
SeatShows i o w net false (Some conn) place = (place ≡ seat.Empty) × IsShut w conn
SeatShows i o w net listened None place = place ≡ seat.Empty

-- Before the choice no member is awaited that was sent the UPDATE, and behind it none that was sent the INIT.
abbrev pub stands_in : Phase → Standing → Bool
stands_in phase.Informing standing.Updating = false
stands_in (phase.Updating bytes) standing.Asked = false
stands_in p s = true

-- How it stands with a member, and what the primary has of the connection.
pub record MemberShows {I O : Type 0} (i : link_in.Ghosts I) (o : link_out.Ghosts O) (w : World) (net : Net) (p : Phase)
    (s : Standing) (conn : Option ℕ) (place : Seat I O) : Type 0 where
  pub fits : stands_in p s ≡ true
  pub seat_is : SeatShows i o w net (listens p s) conn place

-- The same of the member at a place, if there is one.
abbrev pub PlaceShows : {I O : Type 0} → link_in.Ghosts I → link_out.Ghosts O → World → Net → Phase →
    Option Standing → Option (Option ℕ) → Option (Seat I O) → Type 0
PlaceShows i o w net p (Some s) (Some conn) (Some place) = MemberShows i o w net p s conn place
PlaceShows i o w net p None None None = Unit {0}
PlaceShows i o w net p s conn place = ⊥

-- THE PRIMARY

-- A primary that has begun is the one with this number, for which no answer of the office waits.
pub record PrimaryShows {I O : Type 0} (i : link_in.Ghosts I) (o : link_out.Ghosts O) (w : World) (net : Net)
    (number : ℕ) (l : Leading) (primary : running.Primary I O) : Type 0 where
  pub leads_so : w.primaries number ≡ leads l
  pub told : l.told ≡ None
  pub core : primary.core ≡ Some l.state
  pub block : primary.block ≡ l.state.block
  pub members : primary.members ≡ l.state.members
  pub places : (place : ℕ) → PlaceShows i o w net l.state.phase (slice_get l.state.standings place)
      (slice_get l.conns place) (slice_get primary.links.items place)

-- The same, and roads that show that world.
pub record PrimaryStands {R I O : Type 0} (r : roads.Ghosts R I O) (i : link_in.Ghosts I) (o : link_out.Ghosts O)
    (w : World) (net : Net) (number : ℕ) (l : Leading) (primary : running.Primary I O) (road : R) : Type 0 where
  pub roads_are : ShowsWorld r w net road
  pub shows : PrimaryShows i o w net number l primary
