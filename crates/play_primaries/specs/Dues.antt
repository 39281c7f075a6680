-- What a primary tells of the world that it shows.
use Rattle.std.specs.Prelude.{◌≡◌, ◌<◌, ℕ, Bool}
use Rattle.hd_base.specs.declared.links.LinkIn as link_in
use Rattle.hd_base.specs.declared.links.LinkOut as link_out
use Rattle.hd_base.specs.declared.numbers.ConnId.{ConnId}
use Rattle.hd_base.specs.declared.roads.Roads as roads
use Rattle.road_traffic.specs.Showing.{Net}
use Rattle.primary_events.specs.World.Enabled.{can_up}
use Rattle.primary_events.specs.World.Parts.{by_primary}
use Rattle.primary_events.specs.World.Worlds.{World}
use Rattle.world_recoveries.specs.Recovering.{IsPlacedIn}
use Rattle.play_readers.specs.PlayModel.Recoveries.{recovery_due}
use Rattle.play_primaries.specs.declared.clients.PrimaryClient.{PrimaryClient}
use Rattle.play_primaries.specs.Clients.{PrimaryClientShows, PrimaryClientStands}

-- Whether its own step is due.
abbrev pub TellsStep : {I O : Type 0} → link_in.Ghosts I → link_out.Ghosts O → PrimaryClient I O → Bool → Type 0
TellsStep i o c result = (w : World) (net : Net) → PrimaryClientShows i o w net c → result ≡ recovery_due w c.recovery

-- A primary that leads has each connection that it dialled at the place of its member.
abbrev pub ArePlaced : World → Type 0
ArePlaced w = (c number place : ℕ) → c < w.next_conn → (w.dialled c).upper ≡ by_primary number place
    → IsPlacedIn c place (w.primaries number)

-- Whether the primary takes what stands next on a connection that it dialled for the member at this place; the roads
-- show what they showed. Its connections stand at their places, as after all events (recoveries_fit).
abbrev pub TellsPrimary : {R I O : Type 0} → roads.Ghosts R I O → link_in.Ghosts I → link_out.Ghosts O → ConnId → ℕ →
    PrimaryClient I O → R → R → Bool → Type 0
TellsPrimary r i o conn place c road road' result =
    (w : World) (net : Net) → PrimaryClientStands r i o w net c road → ArePlaced w →
    (w.dialled conn.0).upper ≡ by_primary c.recovery.primary place
    → PrimaryClientStands r i o w net c road' × (result ≡ can_up w conn.0)
