-- Shelves lend the files of blocks, and books are made over them.
use Rattle.std.specs.Prelude.{◌≡◌, ◌≤◌, ◌==◌, ◌++◌, ℕ, false, true, List, [], ◌∷◌, length, slice_get, option_map, Some, Result, Ok, Err}
use Rattle.hd_base.specs.FileMaps.{no_files, part_of, rest_of, marked}
use Rattle.hd_base.specs.declared.numbers.BlockId.{BlockId}
use Rattle.hd_base.specs.declared.files.Files as files
use Rattle.hd_base.specs.declared.shelves.Shelf as shelves
use Rattle.play_nodes.specs.declared.nodes.NodeBooks.{NodeBooks}
use Rattle.play_nodes.specs.ReplicaFiles.BookState.{BookState}
use Rattle.play_nodes.specs.ReplicaFiles.Endings.{IsNew}
use Rattle.node_opening.specs.Shelves.{HasLent, IsGivenBack}
use Rattle.node_opening.specs.Closing.{blocks_of}

-- BOOKS

-- The book of an absent replica, over a drawer without files or faults. Its files are told where those of the shelf
-- are.
pub record IsNewBook {S D : Type 0} (s : shelves.Ghosts S D) (d : files.Ghosts D) (shelf : S) (book : BookState D) :
    Type 0 where
  pub absent : IsNew book book.block book.drawer
  pub files_are : d.files book.drawer ≡ option_map (λ _. no_files) (s.files shelf)
  pub no_faults : d.faults book.drawer ≡ 0

-- Such a book of each of these blocks, in their order.
pub record AreNewBooks {S D : Type 0} (s : shelves.Ghosts S D) (d : files.Ghosts D) (shelf : S)
    (blocks : List BlockId) (books : List (BookState D)) : Type 0 where
  pub blocks_are : blocks_of books ≡ blocks
  pub each : (k : ℕ) (x : BookState D) → slice_get books k ≡ Some x → IsNewBook s d shelf x

-- The shelf has lent these blocks, and these are their books.
pub record HasBooks {S D : Type 0} (s : shelves.Ghosts S D) (d : files.Ghosts D) (blocks : List BlockId) (old new : S)
    (books : List (BookState D)) : Type 0 where
  pub has_lent : HasLent s blocks old new
  pub are : AreNewBooks s d old blocks books

-- Each shelf has lent these blocks to its node, whose books they are of.
pub record HaveBooks {S D : Type 0} (s : shelves.Ghosts S D) (d : files.Ghosts D) (blocks : List BlockId)
    (old new : List S) (nodes : List (NodeBooks D)) : Type 0 where
  pub shelves_stay : length new ≡ length old
  pub count : length nodes ≡ length old
  pub each : (k : ℕ) (a b : S) (x : NodeBooks D) → slice_get old k ≡ Some a → slice_get new k ≡ Some b →
      slice_get nodes k ≡ Some x
      → HasBooks s d blocks a b x.books.items

-- ONE BLOCK

-- The block's files stand in the drawer of a new book, and the shelf has lent them.
pub record IsLent {S D : Type 0} (s : shelves.Ghosts S D) (d : files.Ghosts D) (block : BlockId) (old new : S)
    (book : BookState D) : Type 0 where
  pub absent : IsNew book block book.drawer
  pub part : d.files book.drawer ≡ option_map (part_of block.0) (s.files old)
  pub no_faults : d.faults book.drawer ≡ 0
  pub rest : s.files new ≡ option_map (rest_of block.0) (s.files old)
  pub lent : s.lent new ≡ marked (s.lent old) block.0 true
  pub faults : s.faults new ≡ s.faults old

-- The files are the same, the other blocks are lent as before, this one isn't where it wasn't, and the count of faults
-- hasn't fallen.
pub record IsUnlent {S D : Type 0} (s : shelves.Ghosts S D) (block : BlockId) (old new : S) : Type 0 where
  pub files : s.files new ≡ s.files old
  pub others : (b : ℕ) → (b == block.0) ≡ false → s.lent new b ≡ s.lent old b
  pub here : s.lent old block.0 ≡ false → s.lent new block.0 ≡ false
  pub never_falls : s.faults old ≤ s.faults new

abbrev pub LendsBook : {S D E : Type 0} → shelves.Ghosts S D → files.Ghosts D → BlockId → S → S →
    Result (BookState D) E → Type 0
LendsBook s d block old new (Ok book) = IsLent s d block old new book
LendsBook s d block old new (Err _) = IsUnlent s block old new

-- The block was lent, and its book stands behind the others.
pub record IsLentNext {S D : Type 0} (s : shelves.Ghosts S D) (d : files.Ghosts D) (block : BlockId) (old new : S)
    (books books' : List (BookState D)) : Type 0 where
  pub book : BookState D
  pub is_lent : IsLent s d block old new book
  pub behind : books' ≡ books ++ book ∷ []

abbrev pub LendsNext : {S D E : Type 0} → shelves.Ghosts S D → files.Ghosts D → BlockId → S → S →
    List (BookState D) → List (BookState D) → Result (Unit {0}) E → Type 0
LendsNext s d block old new books books' (Ok _) = IsLentNext s d block old new books books'
LendsNext s d block old new books books' (Err _) = IsUnlent s block old new × (books' ≡ books)

-- ALL BLOCKS

abbrev pub LendsBooks : {S D E : Type 0} → shelves.Ghosts S D → files.Ghosts D → List BlockId → S → S →
    Result (NodeBooks D) E → Type 0
LendsBooks s d blocks old new (Ok node) = HasBooks s d blocks old new node.books.items
LendsBooks s d blocks old new (Err _) = IsGivenBack s old new

-- The shelf's node stands behind the others.
pub record IsNodeLent {S D : Type 0} (s : shelves.Ghosts S D) (d : files.Ghosts D) (blocks : List BlockId)
    (old new : S) (nodes nodes' : List (NodeBooks D)) : Type 0 where
  pub node : NodeBooks D
  pub has_books : HasBooks s d blocks old new node.books.items
  pub behind : nodes' ≡ nodes ++ node ∷ []

abbrev pub LendsNode : {S D E : Type 0} → shelves.Ghosts S D → files.Ghosts D → List BlockId → S → S →
    List (NodeBooks D) → List (NodeBooks D) → Result (Unit {0}) E → Type 0
LendsNode s d blocks old new nodes nodes' (Ok _) = IsNodeLent s d blocks old new nodes nodes'
LendsNode s d blocks old new nodes nodes' (Err _) = IsGivenBack s old new × (nodes' ≡ nodes)
