-- The nodes, the clients, the reads, the recoveries and the roads of a play show a world and the queues.
use Rattle.std.specs.Prelude.{◌≡◌, ℕ, List, slice_get, Some}
use Rattle.hd_base.specs.declared.links.LinkIn as link_in
use Rattle.hd_base.specs.declared.links.LinkOut as link_out
use Rattle.hd_base.specs.declared.roads.Roads as roads
use Rattle.play_reads.specs.ReaderEvents.Orders.{ReadersTakeInOrder}
use Rattle.road_traffic.specs.Showing.{Net}
use Rattle.world.specs.Worlds.{World}
use Rattle.play_model.specs.Dues.{Queues}
use Rattle.play_clients.specs.declared.clients.Client.{Client}
use Rattle.play_clients.specs.Clients.{ClientShows}
use Rattle.play_reads.specs.PlayNodes.Nodes.{Nodes}
use Rattle.play_reads.specs.PlayNodes.Dues.{IsOrderly}
use Rattle.play_reads.specs.PlayNodes.Showing.{NodesStand}
use Rattle.play_reads.specs.declared.reads.Reads.{Reads}
use Rattle.play_recoveries.specs.declared.recoveries.Recoveries.{Recoveries}
use Rattle.play_reads.specs.PlayPrimaries.Dues.{ArePlaced}
use Rattle.play_reads.specs.Showing.{ReadsShow}
use Rattle.play_recoveries.specs.Showing.{RecoveriesShow}

-- The client shows the world, and has the queue of its block.
pub record QueueShows {I O : Type 0} (i : link_in.Ghosts I) (o : link_out.Ghosts O) (w : World) (net : Net)
    (queues : Queues) (c : Client I O) : Type 0 where
  pub client_is : ClientShows i o w net c
  pub queue : c.queue.items ≡ queues c.block.0

-- A client of this block is among these.
pub record HasClient {I O : Type 0} (clients : List (Client I O)) (b : ℕ) : Type 0 where
  pub place : ℕ
  pub client : Client I O
  pub found : slice_get clients place ≡ Some client
  pub block : client.block.0 ≡ b

-- The nodes, the reads, the recoveries and the roads show an orderly world, in which readers take in order
-- (readers_take_in_order), and primaries have their connections at their places (recoveries_fit); each client shows it
-- with its queue, and a writer that has a connection is that of a client.
pub record DuesShow {F R I O : Type 0} (r : roads.Ghosts R I O) (i : link_in.Ghosts I) (o : link_out.Ghosts O)
    (w : World) (net : Net) (queues : Queues) (road : R) (n : Nodes F I O) (clients : List (Client I O))
    (reads : Reads I O) (recoveries : Recoveries I O) : Type 0
  where
    pub stands : NodesStand r i o w net road n
    pub orderly : IsOrderly w
    pub in_order : ReadersTakeInOrder w
    pub primaries : ArePlaced w
    pub each : (k : ℕ) (c : Client I O) → slice_get clients k ≡ Some c → QueueShows i o w net queues c
    pub connected : (b c : ℕ) → (w.writers b).conn ≡ Some c → HasClient clients b
    pub reads_are : ReadsShow i o w net n.blocks.items reads
    pub recoveries_are : RecoveriesShow i o w net n.blocks.items recoveries

-- The roads show what they showed, and this holds of each world and the queues that are shown.
abbrev pub Tells : {F R I O : Type 0} → roads.Ghosts R I O → link_in.Ghosts I → link_out.Ghosts O → Nodes F I O →
    List (Client I O) → Reads I O → Recoveries I O → R → R → (World → Queues → Type 0) → Type 0
Tells r i o n clients reads recoveries road road' P =
    (w : World) (net : Net) (queues : Queues) → DuesShow r i o w net queues road n clients reads recoveries
    → DuesShow r i o w net queues road' n clients reads recoveries × P w queues
