-- What the events of the recoveries leave of recoveries, nodes and roads.
use Rattle.std.specs.Prelude.{◌≡◌, ℕ, Bool}
use Rattle.hd_base.specs.declared.ends.Conn.{Conn}
use Rattle.hd_base.specs.declared.links.LinkIn as link_in
use Rattle.hd_base.specs.declared.links.LinkOut as link_out
use Rattle.hd_base.specs.declared.roads.Roads as roads
use Rattle.road_traffic.specs.Showing.{Net}
use Rattle.world.specs.Worlds.{World}
use Rattle.play_servers.specs.WorldNets.Nets.{IsEndOf}
use Rattle.play_nodes.specs.WorldOrders.Orders.{purpose_of, reading}
use Rattle.play_nodes.specs.declared.nodes.Nodes.{Nodes}
use Rattle.play_nodes.specs.Showing.{WritersStay}
use Rattle.play_recoveries.specs.declared.recoveries.Recoveries.{Recoveries}
use Rattle.play_recoveries.specs.Places.{recoveries_of}
use Rattle.play_recoveries.specs.Showing.{RecoveriesStand}

-- Each end of a connection that a reader dialled is one of the world after.
abbrev pub ReadersStay : {I O : Type 0} → link_in.Ghosts I → link_out.Ghosts O → World → Net → World → Net → Type 0
ReadersStay {I} {O} i o w net v made = (d : ℕ) (lower : Bool) (e : Conn I O) →
    purpose_of (w.dialled d).upper ≡ reading → IsEndOf i o w net d lower e
    → IsEndOf i o v made d lower e

-- The recoveries, the nodes and the roads show the world after, and so do the ends of writers and readers; the clients
-- are to recover what they were to.
pub record RecoveriesLeft {F R I O : Type 0} (r : roads.Ghosts R I O) (i : link_in.Ghosts I) (o : link_out.Ghosts O)
    (w : World) (net : Net) (v : World) (road : R) (n : Nodes F I O) (old new : Recoveries I O) : Type 0 where
  pub made : Net
  pub stands : RecoveriesStand r i o v made road n new
  pub writers : WritersStay i o w net v made
  pub readers : ReadersStay i o w net v made
  pub recovers : recoveries_of new.clients.items ≡ recoveries_of old.clients.items
