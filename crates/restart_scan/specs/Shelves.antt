-- A shelf that is scanned block by block.
use Rattle.std.specs.Prelude.{ℕ, ◌≡◌, ◌==◌, ◌⊎◌, ◌++◌, ◌&&◌, not, cond, map, ◌↔◌, Bool, true, false, if◌then◌else◌, List, [], ◌∷◌, length, Option, Some, None, IfSome, IsSome, Result, IfOk, OnOk, OnErr, Contains}
use Rattle.std.specs.List.{AllZip, list_any}
use Rattle.std.specs.List.Sorted.{IsStrictlyIncreasing}
use Rattle.hd_base.specs.declared.states.ReplicaState.TheVariants as state
use Rattle.replica_model.specs.Plans.{folder_of}
use Rattle.replica_files.specs.Finding.{HoldsBytes}
use Rattle.hd_base.specs.Blocks.{block_of, is_of_block}
use Rattle.hd_base.specs.FileMaps.{FileMap, part_of, AreNamesOf}
use Rattle.hd_base.specs.Calls.{Call, run, stopped}
use Rattle.hd_base.specs.declared.shelves.Shelf as shelves
use Rattle.hd_base.specs.declared.numbers.BlockId.{BlockId}
use Rattle.restart_scan.specs.declared.faults.ScanFault.{ScanFault}
use Rattle.restart_scan.specs.declared.found.Seen.{Seen}
use Rattle.restart_scan.specs.declared.found.Scanned.{Scanned}
use Rattle.restart_scan.specs.declared.found.Found.{Found}
use Rattle.restart_scan.specs.declared.shelves.Listed.{Listed}
use Rattle.restart_scan.specs.Faults.{ScansFor}
use Rattle.restart_scan.specs.Blocks.{ScansBlock, ScanCalls}
use Rattle.restart_scan.specs.Pairs.{is_temporary}

-- What a part of a scan's calls leaves of a block's files, perhaps none of them or all.
abbrev pub IsPartly : BlockId → FileMap → FileMap → Type 0
IsPartly block old new =
    (new ≡ old) ⊎ ((calls : List Call) × (k : ℕ) × (n : ℕ) × ScanCalls block old calls × (new ≡ run (stopped k n calls) old))

-- the files of other blocks, and those of none, are as they were
abbrev pub OthersStay : ℕ → FileMap → FileMap → Type 0
OthersStay block old new = (name : List ℕ) → is_of_block block name ≡ false → new name ≡ old name

-- One block was scanned.
pub record ScansIn (block : BlockId) (old new : FileMap) (x : Scanned) : Type 0 where
  pub scanned : ScansBlock block (part_of block.0 old) (part_of block.0 new) x
  pub partly : IsPartly block (part_of block.0 old) (part_of block.0 new)
  pub others : OthersStay block.0 old new

-- The scan of one block failed.
pub record StopsIn (block : BlockId) (old new : FileMap) : Type 0 where
  pub partly : IsPartly block (part_of block.0 old) (part_of block.0 new)
  pub others : OthersStay block.0 old new

-- Where the files are observable before, they are so afterwards, and this holds of both.
abbrev pub WhereTold : Option FileMap → Option FileMap → (FileMap → FileMap → Type 0) → Type 0
WhereTold old new P = IfSome old (λ m. (n : FileMap) × (new ≡ Some n) × P m n)

-- Where the files aren't observable before, they aren't afterwards.
abbrev pub StaysUntold : Option FileMap → Option FileMap → Type 0
StaysUntold old new = old ≡ None → new ≡ None

-- no block is lent that wasn't
abbrev pub LendsNoMore : (ℕ → Bool) → (ℕ → Bool) → Type 0
LendsNoMore old new = (block : ℕ) → new block ≡ true → old block ≡ true

-- A shelf lent a block, whose files were scanned and given back.
pub record ScansFrom {S D : Type 0} (s : shelves.Ghosts S D) (block : BlockId) (old new : S)
    (result : Result Scanned ScanFault) : Type 0 where
  pub done : IfOk result (λ x. WhereTold (s.files old) (s.files new) (λ m n. ScansIn block m n x))
  pub stopped : OnErr result (WhereTold (s.files old) (s.files new) (StopsIn block))
  pub untold : StaysUntold (s.files old) (s.files new)
  pub lent : LendsNoMore (s.lent old) (s.lent new)
  pub cause : ScansFor (s.faults old) (s.faults new) result

-- what was found, as a list
abbrev pub seen_list : Option Seen → List Seen
seen_list None = []
seen_list (Some s) = s ∷ []

abbrev pub moved_list : BlockId → Bool → List BlockId
moved_list block moved = if moved then block ∷ [] else []

-- the replicas that were found, in the order of their blocks
abbrev pub seen_all : List Scanned → List Seen
seen_all [] = []
seen_all (x ∷ xs) = seen_list x.seen ++ seen_all xs

abbrev pub block_numbered : ℕ → BlockId
block_numbered n = record { 0 = n }

-- the blocks that were moved, in their order
abbrev pub moved_all : List ℕ → List Scanned → List BlockId
moved_all [] xs = []
moved_all (b ∷ bs) [] = []
moved_all (b ∷ bs) (x ∷ xs) = moved_list (block_numbered b) x.is_moved ++ moved_all bs xs

-- the name is of none of these blocks
abbrev pub IsOfNone : List ℕ → List ℕ → Type 0
IsOfNone blocks name = (b : ℕ) → Contains blocks b → is_of_block b name ≡ false

-- One block was scanned, and the others are still to be.
abbrev pub IsScanned : FileMap → FileMap → ℕ → Scanned → Type 0
IsScanned old new b x = ScansBlock (block_numbered b) (part_of b old) (part_of b new) x

-- Of these blocks each was scanned, with these results; other files are as they were.
pub record ScansAll (blocks : List ℕ) (old new : FileMap) (replicas : List Seen) (moved : List BlockId) : Type 0 where
  pub results : List Scanned
  pub each : AllZip (IsScanned old new) blocks results
  pub others : (name : List ℕ) → IsOfNone blocks name → new name ≡ old name
  pub replicas_are : replicas ≡ seen_all results
  pub moved_are : moved ≡ moved_all blocks results

-- Of each block a part of the scan's calls was made; other files are as they were.
pub record StopsAll (blocks : List ℕ) (old new : FileMap) : Type 0 where
  pub each : (b : ℕ) → Contains blocks b → IsPartly (block_numbered b) (part_of b old) (part_of b new)
  pub others : (name : List ℕ) → IsOfNone blocks name → new name ≡ old name

-- the number of a block, as a list
abbrev pub number_list : Option ℕ → List ℕ
number_list None = []
number_list (Some b) = b ∷ []

-- the numbers of the blocks of these names
abbrev pub numbers_in : List (List ℕ) → List ℕ
numbers_in [] = []
numbers_in (name ∷ names) = number_list (block_of name) ++ numbers_in names

-- Just the numbers of the blocks of these names, in ascending order.
pub record AreNumbers (names : List (List ℕ)) (blocks : List ℕ) : Type 0 where
  pub ascending : IsStrictlyIncreasing blocks
  pub within : (b : ℕ) → Contains blocks b → Contains (numbers_in names) b
  pub all : (b : ℕ) → Contains (numbers_in names) b → Contains blocks b

-- Blocks were scanned one after the other, all or, after a fault, a part.
pub record ScansBlocks {S D : Type 0} (s : shelves.Ghosts S D) (blocks : List ℕ) (old new : S) (result : Result Listed ScanFault)
    : Type 0 where
  pub done : IfOk result (λ x. WhereTold (s.files old) (s.files new) (λ m n. ScansAll blocks m n x.replicas.items x.moved.items))
  pub in_part : WhereTold (s.files old) (s.files new) (StopsAll blocks)
  pub untold : StaysUntold (s.files old) (s.files new)
  pub lent : LendsNoMore (s.lent old) (s.lent new)
  pub cause : ScansFor (s.faults old) (s.faults new) result

-- A block more was scanned, and stands in the lists.
pub record ScansNext {S D T : Type 0} (s : shelves.Ghosts S D) (block : BlockId) (old new : S) (before after : Listed)
    (result : Result T ScanFault) : Type 0 where
  pub done : OnOk result ((x : Scanned) × WhereTold (s.files old) (s.files new) (λ m n. ScansIn block m n x)
      × (after.replicas.items ≡ before.replicas.items ++ seen_list x.seen)
      × (after.moved.items ≡ before.moved.items ++ moved_list block x.is_moved))
  pub stopped : OnErr result (WhereTold (s.files old) (s.files new) (StopsIn block))
  pub untold : StaysUntold (s.files old) (s.files new)
  pub lent : LendsNoMore (s.lent old) (s.lent new)
  pub cause : ScansFor (s.faults old) (s.faults new) result

-- the numbers of the replicas' blocks
abbrev pub numbers_of : List Seen → List ℕ
numbers_of replicas = map (λ s. s.block.0) replicas

-- this number is among these
abbrev pub is_among : List ℕ → ℕ → Bool
is_among numbers b = list_any (λ x. x == b) numbers

-- a block of which a replica was found
abbrev pub is_found : List ℕ → Option ℕ → Bool
is_found numbers None = false
is_found numbers (Some b) = is_among numbers b

-- whether a file is a stray, by whether it lies in tmp, and its block
abbrev pub is_stray_of : List ℕ → Bool → Option ℕ → Bool
is_stray_of numbers temporary None = true
is_stray_of numbers temporary (Some b) = not temporary && not (is_among numbers b)

abbrev pub is_stray : List ℕ → List ℕ → Bool
is_stray numbers name = is_stray_of numbers (is_temporary name) (block_of name)

-- the files that belong to no replica that was found
abbrev pub stray_part : List Seen → FileMap → FileMap
stray_part replicas files = λ name. cond (is_found (numbers_of replicas) (block_of name)) None (files name)

-- The block has a file.
abbrev pub HasFiles : FileMap → ℕ → Type 0
HasFiles files b = (name : List ℕ) × (block_of name ≡ Some b) × IsSome (files name)

-- A replica that was found lies in its state's folder, and the files of its block hold it.
pub record IsHeldAs (files : FileMap) (s : Seen) : Type 0 where
  pub settled : (s.state ≡ state.Finalized) ⊎ (s.state ≡ state.Rwr)
  pub lies : s.folder ≡ folder_of s.state
  pub bytes : List ℕ
  pub all : s.length ≡ length bytes
  pub held : HoldsBytes files s.block s.state s.stamp s.sums bytes

-- What a scan finds on a shelf: each block with files was scanned, the replicas are held and stand by ascending
-- block, and all files that belong to no replica are listed.
pub record ScansShelf (old new : FileMap) (found : Found) : Type 0 where
  pub blocks : List ℕ
  pub ascending : IsStrictlyIncreasing blocks
  pub are : (b : ℕ) → Contains blocks b ↔ HasFiles old b
  pub scans : ScansAll blocks old new found.replicas.items found.moved.items
  pub held : (s : Seen) → Contains found.replicas.items s → IsHeldAs (part_of s.block.0 new) s
  pub in_order : IsStrictlyIncreasing (numbers_of found.replicas.items)
  pub strays : AreNamesOf (stray_part found.replicas.items new) found.strays.items

-- A scan of a shelf that failed: of each block a part of the scan's calls was made.
pub record StopsShelf (old new : FileMap) : Type 0 where
  pub blocks : List ℕ
  pub stops : StopsAll blocks old new
