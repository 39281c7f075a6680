-- The player of a play is opened.
use Rattle.std.specs.Prelude.{◌≡◌, ◌<◌, ◌^◌, ℕ, nat_lt, Bool, List, [], length, slice_get, Some, Result, Ok, Err}
use Rattle.hd_base.specs.declared.numbers.BlockId.{BlockId}
use Rattle.hd_base.specs.declared.files.Files as files
use Rattle.hd_base.specs.declared.links.LinkIn as link_in
use Rattle.hd_base.specs.declared.links.LinkOut as link_out
use Rattle.hd_base.specs.declared.roads.Roads as roads
use Rattle.hd_base.specs.declared.shelves.Shelf as shelves
use Rattle.name_core.specs.Books.{new_book}
use Rattle.play.specs.NodeOpening.OpenFault.{OpenFault}
use Rattle.play.specs.NodeOpening.Listening.{AreUnused}
use Rattle.play.specs.NodeOpening.Opening.{IsOpened}
use Rattle.play.specs.PlayModel.Dues.{Queues}
use Rattle.play.specs.PlayClients.Client.{Client}
use Rattle.play.specs.PlayClients.Clients.{IsNew}
use Rattle.play.specs.PlayNodes.Showing.{runs_in}
use Rattle.play.specs.PlayReads.Joining.{AreNone}
use Rattle.play.specs.PlayRecoveries.Joining as primaries
use Rattle.play.specs.declared.player.Player.{Player}
use Rattle.play.specs.Events.{blocks_of}
use Rattle.play.specs.Standing.{PlayStands}

-- CLIENTS

-- The client of a block that was given no command; the number of the block has 64 bits.
pub record IsNewClient {I O : Type 0} (block : BlockId) (c : Client I O) : Type 0 where
  pub is_new : IsNew c block
  pub width : block.0 < 2 ^ 64

-- Such a client of each of these blocks, in their order.
pub record AreNewClients {I O : Type 0} (blocks : List BlockId) (clients : List (Client I O)) : Type 0 where
  pub order : blocks_of clients ≡ blocks
  pub each : (k : ℕ) (c : Client I O) → slice_get clients k ≡ Some c → IsNewClient c.block c

-- PLAYERS

-- It is told of the first nodes, so many, that they run, and of no other.
pub record AllRun (count : ℕ) (running : List Bool) : Type 0 where
  pub tells : (n : ℕ) → runs_in running n ≡ nat_lt n count
  pub slots : length running ≡ count

-- The nodes are opened, each block has a new client, nobody reads or recovers, the office knows no block, all nodes
-- run, and no event has happened.
pub record IsOpenedPlay {S D I O : Type 0} (s : shelves.Ghosts S D) (d : files.Ghosts D) (blocks : List BlockId)
    (old new : List S) (p : Player D I O) : Type 0 where
  pub nodes : IsOpened s d blocks old new p.nodes
  pub clients : AreNewClients blocks p.clients.items
  pub reads : AreNone p.reads
  pub recoveries : primaries.AreNone p.recoveries
  pub office : p.office ≡ new_book
  pub running : AllRun (length old) p.running.items
  pub events : p.events.items ≡ []

-- no commands
abbrev pub no_commands : Queues
no_commands b = []

-- Where the roads were unused, the player and the roads show the first world of so many nodes, with no commands.
abbrev pub OpensPlay : {D R I O : Type 0} → roads.Ghosts R I O → link_in.Ghosts I → link_out.Ghosts O → ℕ → R → R →
    Result (Player D I O) OpenFault → Type 0
OpensPlay r i o nodes road road' (Ok p) = AreUnused r road → PlayStands r i o nodes no_commands road' p
OpensPlay r i o nodes road road' (Err _) = Unit {0}
