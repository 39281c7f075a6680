-- What is read of replicas for a report, and what that leaves.
use Rattle.std.specs.Prelude.{ℕ, ◌≡◌, ◌++◌, min, Bool, true, false, List, [], ◌∷◌, length, slice_get, Some}
use Rattle.hd_base.specs.Faults.{FaultsIncreased}
use Rattle.hd_base.specs.declared.files.Files as files
use Rattle.hd_base.specs.declared.numbers.NodeId.{NodeId}
use Rattle.play_scripts.specs.NodeOpening.Shelves.{EachShelf}
use Rattle.play_scripts.specs.PlayNodes.NodeBooks.{NodeBooks}
use Rattle.play_scripts.specs.PlayNodes.Nodes.{Nodes}
use Rattle.play_scripts.specs.PlayNodes.Places.{book_at}
use Rattle.play_scripts.specs.PlayNodes.Showing.{runs_in}
use Rattle.replica_files.specs.Books.{replica_of}
use Rattle.replica_files.specs.Summing.{SumsWritten, LeavesBook}
use Rattle.replica_files.specs.declared.book_state.BookState.{BookState}
use Rattle.replica_files.specs.declared.faults.SumFault.{SumFault}
use Rattle.replica_files.specs.declared.faults.SumFault.TheVariants as sum
use Rattle.std.specs.Global.{Vec}
use Rattle.play_report.specs.declared.faults.ReportFault.{ReportFault}
use Rattle.play_report.specs.declared.faults.ReportFault.TheVariants as fault
use Rattle.play_report.specs.declared.rows.Row.{Row}

-- ROWS

-- What a replica holds, and its sum.
pub record IsRow {F : Type 0} (f : files.Ghosts F) (book : BookState F) (row : Row) : Type 0 where
  pub info : row.info ≡ (replica_of book).known.info
  pub sum : SumsWritten (f.files book.drawer) (replica_of book) row.sum

-- Such a row stands behind the others.
pub record IsRowBehind {F : Type 0} (f : files.Ghosts F) (book : BookState F) (rows rows' : List Row) : Type 0 where
  pub row : Row
  pub is : IsRow f book row
  pub behind : rows' ≡ rows ++ row ∷ []

-- A row of each book, in their order.
pub record AreRows {F : Type 0} (f : files.Ghosts F) (books : List (BookState F)) (rows : List Row) : Type 0 where
  pub count : length rows ≡ length books
  pub each : (k : ℕ) (x : BookState F) (row : Row) → slice_get books k ≡ Some x → slice_get rows k ≡ Some row →
      IsRow f x row

-- Those of a node that runs, and none of one that doesn't.
abbrev pub AreRowsIf : {F : Type 0} → files.Ghosts F → Bool → List (BookState F) → List Row → Type 0
AreRowsIf f true books rows = AreRows f books rows
AreRowsIf f false books rows = rows ≡ []

-- They stand behind those of others.
pub record AreRowsBehind {F : Type 0} (f : files.Ghosts F) (runs : Bool) (books : List (BookState F))
    (all all' : List (Vec Row)) : Type 0 where
  pub rows : Vec Row
  pub are : AreRowsIf f runs books rows.items
  pub behind : all' ≡ all ++ rows ∷ []

-- The rows of the first nodes, so many, if there are.
pub record NodesHaveRows {F : Type 0} (f : files.Ghosts F) (count : ℕ) (running : List Bool) (nodes : List (NodeBooks F))
    (all : List (Vec Row)) : Type 0 where
  pub count_is : length all ≡ min count (length nodes)
  pub each : (k : ℕ) (x : NodeBooks F) (rows : Vec Row) → slice_get nodes k ≡ Some x → slice_get all k ≡ Some rows →
      AreRowsIf f (runs_in running k) x.books.items rows.items

-- WHAT STAYS

-- Each book is as it was, but for its drawer, whose files are as they were.
abbrev pub LeavesBooks : {F : Type 0} → files.Ghosts F → List (BookState F) → List (BookState F) → Type 0
LeavesBooks f old new = EachShelf (LeavesBook f) old new

-- So is each of each node.
abbrev pub LeavesNodes : {F : Type 0} → files.Ghosts F → List (NodeBooks F) → List (NodeBooks F) → Type 0
LeavesNodes f old new = EachShelf (λ a b. LeavesBooks f a.books.items b.books.items) old new

-- All but the books' drawers is as it was.
pub record LeavesAll {F I O : Type 0} (f : files.Ghosts F) (old new : Nodes F I O) : Type 0 where
  pub blocks : new.blocks.items ≡ old.blocks.items
  pub connections : new.connections.items ≡ old.connections.items
  pub nodes : LeavesNodes f old.nodes.items new.nodes.items

-- FAULTS

-- the fault of a sum at a node
abbrev pub fault_at : NodeId → SumFault → ReportFault
fault_at node sum.Files = fault.ShelfFault node
fault_at node sum.Memory = fault.Memory

-- It is of this node, and the count rose; or memory ran out.
abbrev pub IsBookFault : NodeId → ℕ → ℕ → ReportFault → Type 0
IsBookFault node before now (fault.ShelfFault at) = (at ≡ node) × FaultsIncreased before now
IsBookFault node before now fault.Memory = Unit {0}

-- The count of a book's drawer rose.
pub record BookRose {F : Type 0} (f : files.Ghosts F) (old new : List (BookState F)) : Type 0 where
  pub place : ℕ
  pub before : BookState F
  pub now : BookState F
  pub was : slice_get old place ≡ Some before
  pub is : slice_get new place ≡ Some now
  pub rose : FaultsIncreased (f.faults before.drawer) (f.faults now.drawer)

abbrev pub IsBooksFault : {F : Type 0} → files.Ghosts F → NodeId → List (BookState F) → List (BookState F) →
    ReportFault → Type 0
IsBooksFault f node old new (fault.ShelfFault at) = (at ≡ node) × BookRose f old new
IsBooksFault f node old new fault.Memory = Unit {0}

-- The count of a drawer of a book of a node rose.
pub record NodeRose {F : Type 0} (f : files.Ghosts F) (old new : List (NodeBooks F)) (node : ℕ) : Type 0 where
  pub place : ℕ
  pub before : BookState F
  pub now : BookState F
  pub was : book_at old node place ≡ Some before
  pub is : book_at new node place ≡ Some now
  pub rose : FaultsIncreased (f.faults before.drawer) (f.faults now.drawer)

-- The files of a node failed, and their count rose; or memory ran out.
abbrev pub IsNodesFault : {F : Type 0} → files.Ghosts F → List (NodeBooks F) → List (NodeBooks F) → ReportFault → Type 0
IsNodesFault f old new (fault.ShelfFault node) = NodeRose f old new node.0
IsNodesFault f old new fault.Memory = Unit {0}
