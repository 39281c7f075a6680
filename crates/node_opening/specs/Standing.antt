-- The shelves of a play's nodes, as long as their books stand over what these have lent.
use Rattle.std.specs.Prelude.{◌≡◌, ◌≤◌, ℕ, true, false, List, length, take, slice_get, Some}
use Rattle.hd_base.specs.declared.numbers.BlockId.{BlockId}
use Rattle.hd_base.specs.declared.shelves.Shelf as shelves
use Rattle.play_nodes.specs.declared.nodes.NodeBooks.{NodeBooks}
use Rattle.play_nodes.specs.declared.nodes.Nodes.{Nodes}
use Rattle.node_opening.specs.Shelves.{is_among, AreDistinct, AllEmpty}

-- A shelf before the play, and as it is: beside what it lent before, it lends the blocks of so many books, the first, and no
-- others; its count of faults hasn't fallen.
pub record ShelfStands {S D : Type 0} (s : shelves.Ghosts S D) (blocks : List BlockId) (books : ℕ) (before now : S) :
    Type 0 where
  pub within : books ≤ length blocks
  pub lent : (b : ℕ) → is_among (take books blocks) b ≡ true → s.lent now b ≡ true
  pub no_more : (b : ℕ) → s.lent before b ≡ false → is_among (take books blocks) b ≡ false → s.lent now b ≡ false
  pub never_falls : s.faults before ≤ s.faults now

-- So does the shelf of each node.
pub record ShelvesStand {S D I O : Type 0} (s : shelves.Ghosts S D) (before now : List S) (n : Nodes D I O) : Type 0 where
  pub count : length now ≡ length before
  pub nodes : length n.nodes.items ≡ length before
  pub distinct : AreDistinct n.blocks.items
  pub each : (k : ℕ) (a b : S) (x : NodeBooks D) → slice_get before k ≡ Some a → slice_get now k ≡ Some b →
      slice_get n.nodes.items k ≡ Some x
      → ShelfStands s n.blocks.items (length x.books.items) a b

-- Each node has a book for each block, and its shelf, where it tells its files, has none beside those that it lent.
pub record AllLentOut {S D I O : Type 0} (s : shelves.Ghosts S D) (now : List S) (n : Nodes D I O) : Type 0 where
  pub books : (k : ℕ) (x : NodeBooks D) → slice_get n.nodes.items k ≡ Some x →
      length x.books.items ≡ length n.blocks.items
  pub empty : AllEmpty s now

-- Shelves that stood for the nodes before stand for those after.
abbrev pub ShelvesStay : {S D I O : Type 0} → shelves.Ghosts S D → List S → List S → Nodes D I O → Nodes D I O → Type 0
ShelvesStay {S} s old new n n' = (before : List S) → ShelvesStand s before old n → ShelvesStand s before new n'
