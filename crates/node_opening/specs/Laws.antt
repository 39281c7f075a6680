-- What nodes are closed with: the blocks that their shelves lend, and the books at their places.
use Rattle.std.specs.Prelude.{◌≡◌, ◌<◌, ◌≤◌, ℕ, List, length, slice_get, Some}
use Rattle.hd_base.specs.declared.numbers.BlockId.{BlockId}
use Rattle.hd_base.specs.declared.numbers.NodeId.{NodeId}
use Rattle.hd_base.specs.declared.files.Files as files
use Rattle.hd_base.specs.declared.links.LinkIn as link_in
use Rattle.hd_base.specs.declared.links.LinkOut as link_out
use Rattle.hd_base.specs.declared.shelves.Shelf as shelves
use Rattle.play_nodes.specs.declared.nodes.NodeBooks.{NodeBooks}
use Rattle.play_nodes.specs.declared.nodes.Nodes.{Nodes}
use Rattle.play_nodes.specs.Places.{book_at}
use Rattle.play_nodes.specs.Showing.{NodesShow}
use Rattle.play_nodes.specs.ReplicaFiles.BookState.{BookState}
use Rattle.road_traffic.specs.Showing.{Net}
use Rattle.play_nodes.specs.World.Worlds.{World}
use Rattle.play_nodes.specs.WorldLaws.Filling.{Filled}
use Rattle.node_opening.specs.Closing.{TheyLend, AreOf, NodesFit, NodesClose, books_within}
use Rattle.node_opening.specs.Emptiness.{ShelfRose}
use Rattle.node_opening.specs.Opening.{IsOpened}
use Rattle.node_opening.specs.Shelves.{AreDistinct, EachShelf, LendsNoMore}
use Rattle.node_opening.specs.Standing.{ShelvesStand, AllLentOut}

-- The shelves lend the blocks of the nodes, whatever books these have, and the books are of these blocks.
pub record CanClose {S D I O : Type 0} (s : shelves.Ghosts S D) (xs : List S) (n : Nodes D I O) : Type 0 where
  pub lend : (nodes : List (NodeBooks D)) → TheyLend s n.blocks.items nodes xs
  pub fit : NodesFit n.blocks.items n.nodes.items

abbrev pub OpenedClose : (S D I O : Type 0) → shelves.Ghosts S D → files.Ghosts D → Type 0
OpenedClose S D I O s d =
    (blocks : List BlockId) (old new : List S) (n : Nodes D I O) → IsOpened s d blocks old new n → CanClose s new n

-- The shelves of opened nodes stand for them, and have lent all that they had.
abbrev pub OpenedStand : (S D I O : Type 0) → shelves.Ghosts S D → files.Ghosts D → Type 0
OpenedStand S D I O s d = (blocks : List BlockId) (old new : List S) (n : Nodes D I O) → AreDistinct blocks →
    IsOpened s d blocks old new n
    → ShelvesStand s old new n × AllLentOut s new n

-- No shelf's count of faults has fallen.
abbrev pub NeverFell : {S D : Type 0} → shelves.Ghosts S D → List S → List S → Type 0
NeverFell s old new = EachShelf (λ a b. s.faults a ≤ s.faults b) old new

-- After the nodes were closed no shelf lends a block that it didn't before the play, no count fell, and the count of a
-- shelf rose where it did during the play, or where a book of its node has failed.
pub record HaveClosed {S D I O : Type 0} (s : shelves.Ghosts S D) (d : files.Ghosts D) (before now closed : List S)
    (n : Nodes D I O) : Type 0 where
  pub lent : EachShelf (LendsNoMore s) before closed
  pub never_fell : NeverFell s before closed
  pub rose : (node : NodeId) → ShelfRose s before now node → ShelfRose s before closed node
  pub failed : (node : NodeId) (place : ℕ) (x : BookState D) → book_at n.nodes.items node.0 place ≡ Some x →
      0 < d.faults x.drawer
      → ShelfRose s before closed node

-- Where shelves stand for nodes no count has fallen, and the nodes can be closed.
pub record StandingNodes {S D I O : Type 0} (s : shelves.Ghosts S D) (d : files.Ghosts D) (before now : List S)
    (n : Nodes D I O) : Type 0 where
  pub never_fell : NeverFell s before now
  pub lend : TheyLend s n.blocks.items n.nodes.items now
  pub closed : (closed : List S) → NodesClose s d n.blocks.items n.nodes.items now closed →
      HaveClosed s d before now closed n

abbrev pub StandingClose : (S D I O : Type 0) → shelves.Ghosts S D → files.Ghosts D → Type 0
StandingClose S D I O s d =
    (before now : List S) (n : Nodes D I O) → ShelvesStand s before now n → StandingNodes s d before now n

-- Of a world whose replicas are of their blocks, as they are after all events.
abbrev pub ShownFit : (F I O : Type 0) → link_in.Ghosts I → link_out.Ghosts O → Type 0
ShownFit F I O i o =
    (w : World) (net : Net) (n : Nodes F I O) → Filled w → NodesShow i o w net n → NodesFit n.blocks.items n.nodes.items

abbrev pub FitEach : Type 0 → Type 0
FitEach D =
    (blocks : List BlockId) (nodes : List (NodeBooks D)) (node : ℕ) (x : NodeBooks D) → NodesFit blocks nodes →
    slice_get nodes node ≡ Some x
    → AreOf blocks (books_within (length blocks) x)
