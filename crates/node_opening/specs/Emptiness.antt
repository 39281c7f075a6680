-- The shelves of nodes are looked at for files.
use Rattle.std.specs.Prelude.{◌≡◌, ◌<◌, ◌⊎◌, ℕ, true, List, [], slice_get, Some, IsSome, IfSome, Result, Ok, Err}
use Rattle.std.specs.Ordering.{nat_cmp, is_lt}
use Rattle.std.specs.Cmp.Lexicographic.{slice_cmp}
use Rattle.hd_base.specs.Faults.{FaultsIncreased}
use Rattle.hd_base.specs.FileMaps.{FileMap}
use Rattle.hd_base.specs.declared.files.FileError.{FileError}
use Rattle.hd_base.specs.declared.files.FileError.TheVariants as file
use Rattle.hd_base.specs.declared.numbers.NodeId.{NodeId}
use Rattle.hd_base.specs.declared.shelves.Shelf as shelves
use Rattle.node_opening.specs.Shelves.{IsEmpty, HasLent, EachShelf, AllEmpty}
use Rattle.node_opening.specs.declared.faults.OpenFault.{OpenFault}
use Rattle.node_opening.specs.declared.faults.OpenFault.TheVariants as fault

-- There is a file of this name, and the name of each other file is behind it.
pub record IsFirstName (files : FileMap) (name : List ℕ) : Type 0 where
  pub there : IsSome (files name)
  pub first : (other : List ℕ) → IsSome (files other) → (other ≡ name) ⊎ (is_lt (slice_cmp nat_cmp name other) ≡ true)

-- ONE SHELF

-- the fault of a node's shelf that failed
abbrev pub shelf_fault : NodeId → FileError → OpenFault
shelf_fault node file.Memory = fault.Memory
shelf_fault node file.Absent = fault.ShelfFault node
shelf_fault node file.Failed = fault.ShelfFault node

-- The shelf of a node failed, or has this file, or memory ran out.
abbrev pub IsShelfFault : {S D : Type 0} → shelves.Ghosts S D → NodeId → S → S → OpenFault → Type 0
IsShelfFault s node old new (fault.ShelfFault k) = (k ≡ node) × FaultsIncreased (s.faults old) (s.faults new)
IsShelfFault s node old new (fault.NotEmpty k name) = (k ≡ node) × IfSome (s.files old) (λ m. IsFirstName m name)
IsShelfFault s node old new fault.Memory = Unit {0}
IsShelfFault s node old new fault.RoadFault = ⊥

-- Nothing changed; the shelf has no files, or a fault tells why not.
abbrev pub ChecksShelf : {S D : Type 0} → shelves.Ghosts S D → NodeId → S → S → Result (Unit {0}) OpenFault → Type 0
ChecksShelf s node old new (Ok _) = HasLent s [] old new × IsEmpty s old
ChecksShelf s node old new (Err why) = HasLent s [] old new × IsShelfFault s node old new why

-- ALL SHELVES

-- The shelf of a node, before and after.
pub record ShelfOf {S : Type 0} (P : S → S → Type 0) (old new : List S) (node : ℕ) : Type 0 where
  pub before : S
  pub after : S
  pub was : slice_get old node ≡ Some before
  pub is : slice_get new node ≡ Some after
  pub so : P before after

-- The shelf of this node failed, and its count rose.
abbrev pub ShelfRose : {S D : Type 0} → shelves.Ghosts S D → List S → List S → NodeId → Type 0
ShelfRose s old new node = ShelfOf (λ a b. FaultsIncreased (s.faults a) (s.faults b)) old new node.0

-- Where the shelf of this node tells its files, this is the first of them. The shelves of nodes before it have none.
pub record HasFirstFile {S D : Type 0} (s : shelves.Ghosts S D) (old new : List S) (node : NodeId) (name : List ℕ) :
    Type 0 where
  pub here : ShelfOf (λ a b. IfSome (s.files a) (λ m. IsFirstName m name)) old new node.0
  pub empty : (k : ℕ) (a : S) → k < node.0 → slice_get old k ≡ Some a → IsEmpty s a

-- A shelf failed, or has a file, or memory ran out.
abbrev pub IsFaultOf : {S D : Type 0} → shelves.Ghosts S D → List S → List S → OpenFault → Type 0
IsFaultOf s old new (fault.ShelfFault node) = ShelfRose s old new node
IsFaultOf s old new (fault.NotEmpty node name) = HasFirstFile s old new node name
IsFaultOf s old new fault.Memory = Unit {0}
IsFaultOf s old new fault.RoadFault = ⊥

-- Nothing changed; no shelf has files, or a fault tells which has.
abbrev pub ChecksAll : {S D : Type 0} → shelves.Ghosts S D → List S → List S → Result (Unit {0}) OpenFault → Type 0
ChecksAll s old new (Ok _) = EachShelf (HasLent s []) old new × AllEmpty s old
ChecksAll s old new (Err why) = EachShelf (HasLent s []) old new × IsFaultOf s old new why
