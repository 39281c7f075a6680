-- The books of a node that starts again, and its shelf.
use Rattle.std.specs.Prelude.{◌≡◌, ◌⊎◌, ℕ, true, false, List, [], length, slice_get, option_map, Some}
use Rattle.hd_base.specs.declared.files.Files as files
use Rattle.hd_base.specs.declared.numbers.NodeId.{NodeId}
use Rattle.hd_base.specs.declared.shelves.Shelf as shelves
use Rattle.node_restarts.specs.ReplicaFiles.BookState.{BookState}
use Rattle.node_restarts.specs.PlayNodes.NodeBooks.{NodeBooks}
use Rattle.node_restarts.specs.PlayNodes.Nodes.{Nodes}
use Rattle.node_restarts.specs.PlayNodes.Places.{KeepsSizes}
use Rattle.node_restarts.specs.NodeOpening.Closing.{AreLentOut, AreOf}
use Rattle.node_restarts.specs.NodeOpening.Shelves.{is_among}
use Rattle.node_restarts.specs.Restarting.{TellAll, HasRestarted, AreGivenUp}
use Rattle.node_restarts.specs.Wholeness.{AllHoldWhole}

-- THE BOOKS OF A NODE

-- These are the books of the node.
abbrev pub AreBooksOf : {F I O : Type 0} → NodeId → List (BookState F) → Nodes F I O → Type 0
AreBooksOf {F} node books n =
    option_map (λ (x : NodeBooks F). x.books.items) (slice_get n.nodes.items node.0) ≡ Some books

-- The node is there, and has a book for each block, of the block at its place.
pub record HasAllBooks {F I O : Type 0} (node : NodeId) (n : Nodes F I O) : Type 0 where
  pub books : List (BookState F)
  pub are : AreBooksOf node books n
  pub count : length books ≡ length n.blocks.items
  pub of_blocks : AreOf n.blocks.items books

-- The shelf and the drawers of the node's books tell their files, and the shelf has none beside theirs.
abbrev pub NodeTells : {S D I O : Type 0} → shelves.Ghosts S D → files.Ghosts D → NodeId → S → Nodes D I O → Type 0
NodeTells {S} {D} s d node shelf n = (books : List (BookState D)) → AreBooksOf node books n → TellAll s d shelf books

-- OTHER BOOKS IN THEIR PLACE

-- The blocks, the connections and the books of the other nodes are as they were.
pub record KeepsOthers {F I O : Type 0} (node : NodeId) (old new : Nodes F I O) : Type 0 where
  pub blocks : new.blocks.items ≡ old.blocks.items
  pub connections : new.connections.items ≡ old.connections.items
  pub there : (n : ℕ) → (n ≡ node.0 → ⊥) → slice_get new.nodes.items n ≡ slice_get old.nodes.items n
  pub count : length new.nodes.items ≡ length old.nodes.items

-- The node has these books in place of those that it had, and all else stays.
pub record IsReplaced {F I O : Type 0} (node : NodeId) (books : List (BookState F)) (old new : Nodes F I O) : Type 0
  where
    pub here : AreBooksOf node books new
    pub others : KeepsOthers node old new

-- The node has the books that a restart makes, in place of those that it had, whose files held their replicas.
pub record BooksReturn {S D I O : Type 0} (s : shelves.Ghosts S D) (d : files.Ghosts D) (node : NodeId)
    (shelf shelf' : S) (old new : Nodes D I O) : Type 0 where
  pub had : List (BookState D)
  pub made : List (BookState D)
  pub had_are : AreBooksOf node had old
  pub whole : AllHoldWhole d had
  pub replaced : IsReplaced node made old new
  pub restarted : HasRestarted s d old.blocks.items had shelf shelf' made

-- The node has no books in place of those that it had, and none of the blocks is lent.
pub record BooksGo {S D I O : Type 0} (s : shelves.Ghosts S D) (node : NodeId) (shelf shelf' : S)
    (old new : Nodes D I O) : Type 0 where
  pub replaced : IsReplaced node [] old new
  pub given_up : AreGivenUp s old.blocks.items shelf shelf'

-- AFTER A START

-- The shelf has lent the blocks again, and the node has a book for each, at its place. Where all files were told, they
-- are told again.
pub record StartsOver {S D I O : Type 0} (s : shelves.Ghosts S D) (d : files.Ghosts D) (node : NodeId)
    (shelf shelf' : S) (old new : Nodes D I O) : Type 0 where
  pub lent : AreLentOut s shelf' new.blocks.items
  pub whole : HasAllBooks node new
  pub sizes : KeepsSizes old new
  pub told : NodeTells s d node shelf old → NodeTells s d node shelf' new

-- The node has no books, and its shelf lends none of the blocks.
pub record HasGivenUp {S D I O : Type 0} (s : shelves.Ghosts S D) (node : NodeId) (shelf : S) (n : Nodes D I O) :
    Type 0 where
  pub none : AreBooksOf node [] n
  pub unlent : (b : ℕ) → is_among n.blocks.items b ≡ true → s.lent shelf b ≡ false

-- After a fault: the node has no books, or all of them.
abbrev pub StopsOver : {S D I O : Type 0} → shelves.Ghosts S D → files.Ghosts D → NodeId → S → S → Nodes D I O →
    Nodes D I O → Type 0
StopsOver s d node shelf shelf' old new =
    HasGivenUp s node shelf' new ⊎ StartsOver s d node shelf shelf' old new
