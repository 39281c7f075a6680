-- Books are closed, and their drawers given back.
use Rattle.std.specs.Prelude.{◌≡◌, ◌≤◌, ◌+◌, ◌&&◌, not, ℕ, true, List, [], ◌∷◌, length, map, take, slice_get, Option, Some}
use Rattle.hd_base.specs.Faults.{CarriesFaults}
use Rattle.hd_base.specs.FileMaps.{FileMap, both_observable}
use Rattle.hd_base.specs.declared.numbers.BlockId.{BlockId}
use Rattle.hd_base.specs.declared.files.Files as files
use Rattle.hd_base.specs.declared.shelves.Shelf as shelves
use Rattle.play_nodes.specs.declared.nodes.NodeBooks.{NodeBooks}
use Rattle.play_nodes.specs.Places.{book_at}
use Rattle.play_nodes.specs.ReplicaFiles.Books.{replica_of, IsBookOf}
use Rattle.play_nodes.specs.ReplicaFiles.BookState.{BookState}
use Rattle.node_opening.specs.Shelves.{is_among, AreDistinct}

-- the block of a book's replica
abbrev pub block_of : {D : Type 0} → BookState D → BlockId
block_of x = (replica_of x).known.block

-- those of books
abbrev pub blocks_of : {D : Type 0} → List (BookState D) → List BlockId
blocks_of books = map (λ x. block_of x) books

-- The blocks are apart, and the shelf has lent them.
pub record AreLentOut {S D : Type 0} (s : shelves.Ghosts S D) (shelf : S) (blocks : List BlockId) : Type 0 where
  pub distinct : AreDistinct blocks
  pub lent : (b : ℕ) → is_among blocks b ≡ true → s.lent shelf b ≡ true

-- Each book at the place of a block is of that block.
abbrev pub AreOf : {D : Type 0} → List BlockId → List (BookState D) → Type 0
AreOf {D} blocks books =
    (place : ℕ) (block : BlockId) (x : BookState D) → slice_get blocks place ≡ Some block → slice_get books place ≡ Some x
    → block_of x ≡ block

-- the files of all books beside those that are there, where all are observable
abbrev pub files_with : {D : Type 0} → files.Ghosts D → Option FileMap → List (BookState D) → Option FileMap
files_with d files [] = files
files_with d files (x ∷ xs) = both_observable (files_with d files xs) (d.files x.drawer)

-- the counts of the drawers of all books
abbrev pub faults_of : {D : Type 0} → files.Ghosts D → List (BookState D) → ℕ
faults_of d [] = 0
faults_of d (x ∷ xs) = d.faults x.drawer + faults_of d xs

-- The shelf has the files of these books beside its own, where they are of the blocks at their places. It lends none of
-- these blocks, and the books' counts are added to its own. What each book holds is what its files hold.
pub record NodeCloses {S D : Type 0} (s : shelves.Ghosts S D) (d : files.Ghosts D) (blocks : List BlockId)
    (books : List (BookState D)) (old new : S) : Type 0 where
  pub files_are : AreOf blocks books → s.files new ≡ files_with d (s.files old) books
  pub lent : (b : ℕ) → s.lent new b ≡ s.lent old b && not (is_among (take (length books) blocks) b)
  pub count : CarriesFaults (s.faults old) (faults_of d books) (s.faults new)
  pub held : (place : ℕ) (x : BookState D) → slice_get books place ≡ Some x → IsBookOf d x

-- ALL NODES

-- The shelf of each node lends the blocks at the places of its books.
abbrev pub TheyLend : {S D : Type 0} → shelves.Ghosts S D → List BlockId → List (NodeBooks D) → List S → Type 0
TheyLend {S} {D} s blocks nodes xs = (k : ℕ) (a : S) (x : NodeBooks D) (b : ℕ) → slice_get xs k ≡ Some a →
    slice_get nodes k ≡ Some x → is_among (take (length x.books.items) blocks) b ≡ true
    → s.lent a b ≡ true

-- Each book of a node is of the block at its place.
abbrev pub NodesFit : {D : Type 0} → List BlockId → List (NodeBooks D) → Type 0
NodesFit {D} blocks nodes = (node place : ℕ) (block : BlockId) (x : BookState D) → slice_get blocks place ≡ Some block →
    book_at nodes node place ≡ Some x
    → block_of x ≡ block

-- the books of a node at so many places
abbrev pub books_within : {D : Type 0} → ℕ → NodeBooks D → List (BookState D)
books_within places x = take places x.books.items

-- The shelf of each node has its books' drawers back, and the shelves beyond are as they were.
pub record NodesClose {S D : Type 0} (s : shelves.Ghosts S D) (d : files.Ghosts D) (blocks : List BlockId)
    (nodes : List (NodeBooks D)) (old new : List S) : Type 0 where
  pub count : length new ≡ length old
  pub each : (k : ℕ) (a b : S) (x : NodeBooks D) → slice_get old k ≡ Some a → slice_get new k ≡ Some b →
      slice_get nodes k ≡ Some x
      → NodeCloses s d blocks (books_within (length blocks) x) a b
  pub others : (k : ℕ) → length nodes ≤ k → slice_get new k ≡ slice_get old k
