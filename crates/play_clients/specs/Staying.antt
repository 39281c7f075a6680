-- What an event that isn't a client's leaves of it.
use Rattle.std.specs.Prelude.{◌≡◌, ℕ, false, Some}
use Rattle.hd_base.specs.declared.ends.Conn.{Conn}
use Rattle.hd_base.specs.declared.links.LinkIn as link_in
use Rattle.hd_base.specs.declared.links.LinkOut as link_out
use Rattle.road_traffic.specs.Showing.{Net}
use Rattle.world.specs.Worlds.{World}
use Rattle.client_events.specs.WorldNets.Nets.{IsEndOf, is_over}
use Rattle.play_clients.specs.declared.clients.Client.{Client}
use Rattle.play_clients.specs.Clients.{ClientShows}

-- The writer of a block is as it was, and so are its answers, and the upper end of its connection is one of the second
-- world, from which no more was taken.
pub record KeepsClient {I O : Type 0} (i : link_in.Ghosts I) (o : link_out.Ghosts O) (w : World) (net : Net)
    (v : World) (made : Net) (b : ℕ) : Type 0 where
  pub writer : v.writers b ≡ w.writers b
  pub said : v.said b ≡ w.said b
  pub over : (c : ℕ) → (w.writers b).conn ≡ Some c → is_over v c false ≡ is_over w c false
  pub ends : (c : ℕ) (e : Conn I O) → (w.writers b).conn ≡ Some c → IsEndOf i o w net c false e
      → IsEndOf i o v made c false e

-- Each client that shows a world shows one that keeps it.
abbrev pub ClientsStay : {I O : Type 0} → link_in.Ghosts I → link_out.Ghosts O → Type 0
ClientsStay {I} {O} i o = (client : Client I O) (w : World) (net : Net) (v : World) (made : Net) →
    ClientShows i o w net client → KeepsClient i o w net v made client.block.0
    → ClientShows i o v made client
