-- What an event that isn't a primary's leaves of it.
use Rattle.std.specs.Prelude.{◌≡◌, ◌≤◌, ℕ, true, false, slice_get, Some}
use Rattle.hd_base.specs.declared.ends.Conn.{Conn}
use Rattle.hd_base.specs.declared.links.LinkIn as link_in
use Rattle.hd_base.specs.declared.links.LinkOut as link_out
use Rattle.road_traffic.specs.Showing.{Net}
use Rattle.primary_events.specs.World.Connections.{is_alive}
use Rattle.primary_events.specs.World.Parts.{Leading, leads}
use Rattle.primary_events.specs.World.Worlds.{World}
use Rattle.play_readers.specs.WorldNets.Nets.{IsEndOf, is_over}
use Rattle.primary_events.specs.Showing.{IsShut}
use Rattle.play_readers.specs.PlayModel.Recovery.{Recovery}
use Rattle.play_primaries.specs.declared.clients.PrimaryClient.{PrimaryClient}
use Rattle.play_primaries.specs.Clients.{PrimaryClientShows}

-- Of a connection of the primary no more was taken from above, the upper end is one of the second world, and it stays
-- shut.
pub record KeepsConn {I O : Type 0} (i : link_in.Ghosts I) (o : link_out.Ghosts O) (w : World) (net : Net) (v : World)
    (made : Net) (c : ℕ) : Type 0 where
  pub over : is_over v c false ≡ is_over w c false
  pub ends : (e : Conn I O) → IsEndOf i o w net c false e → IsEndOf i o v made c false e
  pub shut : IsShut w c → IsShut v c

-- The primary of a line is as it was; where it hasn't begun its node runs as before; and where it leads its node lives
-- on, or not, and its connections are kept.
pub record KeepsPrimaryClient {I O : Type 0} (i : link_in.Ghosts I) (o : link_out.Ghosts O) (w : World) (net : Net)
    (v : World) (made : Net) (r : Recovery) : Type 0 where
  pub primary : v.primaries r.primary ≡ w.primaries r.primary
  pub runs : r.may_begin ≡ true → w.running r.node.0 ≡ true → v.running r.node.0 ≡ true
  pub lives : (n : ℕ) → w.lives n ≤ v.lives n
  pub alive : (l : Leading) → w.primaries r.primary ≡ leads l → is_alive w l.at ≡ true → is_alive v l.at ≡ true
  pub gone : (l : Leading) → w.primaries r.primary ≡ leads l → l.at.life ≤ w.lives l.at.node →
      is_alive w l.at ≡ false → is_alive v l.at ≡ false
  pub conns : (l : Leading) (place c : ℕ) → w.primaries r.primary ≡ leads l → is_alive w l.at ≡ true →
      slice_get l.conns place ≡ Some (Some c) → KeepsConn i o w net v made c

-- Each client that shows a world shows one that keeps it.
abbrev pub PrimaryClientsStay : {I O : Type 0} → link_in.Ghosts I → link_out.Ghosts O → Type 0
PrimaryClientsStay {I} {O} i o = (client : PrimaryClient I O) (w : World) (net : Net) (v : World) (made : Net) →
    PrimaryClientShows i o w net client → KeepsPrimaryClient i o w net v made client.recovery
    → PrimaryClientShows i o v made client
