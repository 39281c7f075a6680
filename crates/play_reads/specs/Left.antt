-- What the events of the reads leave of reads, nodes and roads.
use Rattle.std.specs.Prelude.{◌≡◌, ℕ, Bool}
use Rattle.hd_base.specs.declared.ends.Conn.{Conn}
use Rattle.hd_base.specs.declared.links.LinkIn as link_in
use Rattle.hd_base.specs.declared.links.LinkOut as link_out
use Rattle.hd_base.specs.declared.roads.Roads as roads
use Rattle.road_traffic.specs.Showing.{Net}
use Rattle.world.specs.Worlds.{World}
use Rattle.play_servers.specs.WorldNets.Nets.{IsEndOf}
use Rattle.play_nodes.specs.WorldOrders.Orders.{purpose_of, recovering}
use Rattle.play_nodes.specs.declared.nodes.Nodes.{Nodes}
use Rattle.play_nodes.specs.Showing.{WritersStay}
use Rattle.play_reads.specs.declared.reads.Reads.{Reads}
use Rattle.play_primaries.specs.PlayReaders.Asks.{asks_of}
use Rattle.play_reads.specs.Showing.{ReadsStand}

-- Each end of a connection that a primary dialled is one of the world after.
abbrev pub PrimariesStay : {I O : Type 0} → link_in.Ghosts I → link_out.Ghosts O → World → Net → World → Net → Type 0
PrimariesStay {I} {O} i o w net v made = (d : ℕ) (lower : Bool) (e : Conn I O) →
    purpose_of (w.dialled d).upper ≡ recovering → IsEndOf i o w net d lower e
    → IsEndOf i o v made d lower e

-- The reads, the nodes and the roads show the world after, and so do the ends of writers and primaries; the clients ask
-- what they asked.
pub record ReadsLeft {F R I O : Type 0} (r : roads.Ghosts R I O) (i : link_in.Ghosts I) (o : link_out.Ghosts O)
    (w : World) (net : Net) (v : World) (road : R) (n : Nodes F I O) (old new : Reads I O) : Type 0 where
  pub made : Net
  pub stands : ReadsStand r i o v made road n new
  pub writers : WritersStay i o w net v made
  pub primaries : PrimariesStay i o w net v made
  pub asks : asks_of new.clients.items ≡ asks_of old.clients.items
