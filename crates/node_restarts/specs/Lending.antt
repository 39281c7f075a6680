-- Blocks are lent again, and the books of what was found of them are made.
use Rattle.std.specs.Prelude.{◌≡◌, ◌≤◌, ◌||◌, ℕ, true, List, [], ◌∷◌, ◌++◌, slice_get, option_map, Option, Some, Result, Ok, Err}
use Rattle.hd_base.specs.FileMaps.{FileMap, part_of, rest_of, marked}
use Rattle.hd_base.specs.declared.files.Files as files
use Rattle.hd_base.specs.declared.numbers.BlockId.{BlockId}
use Rattle.hd_base.specs.declared.shelves.Shelf as shelves
use Rattle.replica_files.specs.declared.book_state.BookState.{BookState}
use Rattle.restart_scan.specs.declared.found.Seen.{Seen}
use Rattle.node_opening.specs.Closing.{block_of, blocks_of}
use Rattle.node_opening.specs.Lending.{IsUnlent}
use Rattle.node_opening.specs.Shelves.{is_among, LendsNoMore}
use Rattle.node_restarts.specs.declared.faults.RestartFault.{RestartFault}
use Rattle.node_restarts.specs.Faults.{HasRestartCause}
use Rattle.node_restarts.specs.Making.{IsBookFor, seen_in}

-- ONE BLOCK

-- The block's files are those of the book of what was found of it, and the shelf has lent them.
pub record IsLentFound {S D : Type 0} (s : shelves.Ghosts S D) (d : files.Ghosts D) (block : BlockId)
    (seen : Option Seen) (old new : S) (book : BookState D) : Type 0 where
  pub made : IsBookFor d block seen (option_map (part_of block.0) (s.files old)) book
  pub rest : s.files new ≡ option_map (rest_of block.0) (s.files old)
  pub lent : s.lent new ≡ marked (s.lent old) block.0 true
  pub faults : s.faults new ≡ s.faults old

-- The block isn't lent, for this reason.
pub record IsNotLent {S D : Type 0} (s : shelves.Ghosts S D) (block : BlockId) (old new : S) (why : RestartFault) :
    Type 0 where
  pub unlent : IsUnlent s block old new
  pub cause : HasRestartCause (s.faults old) (s.faults new) why

abbrev pub LendsFound : {S D : Type 0} → shelves.Ghosts S D → files.Ghosts D → BlockId → Option Seen → S → S →
    Result (BookState D) RestartFault → Type 0
LendsFound s d block seen old new (Ok book) = IsLentFound s d block seen old new book
LendsFound s d block seen old new (Err why) = IsNotLent s block old new why

-- The block was lent, and its book stands behind the others.
pub record IsFoundNext {S D : Type 0} (s : shelves.Ghosts S D) (d : files.Ghosts D) (block : BlockId)
    (seen : Option Seen) (old new : S) (books books' : List (BookState D)) : Type 0 where
  pub book : BookState D
  pub is_lent : IsLentFound s d block seen old new book
  pub behind : books' ≡ books ++ book ∷ []

abbrev pub LendsNextFound : {S D : Type 0} → shelves.Ghosts S D → files.Ghosts D → BlockId → Option Seen → S → S →
    List (BookState D) → List (BookState D) → Result (Unit {0}) RestartFault → Type 0
LendsNextFound s d block seen old new books books' (Ok _) = IsFoundNext s d block seen old new books books'
LendsNextFound s d block seen old new books books' (Err why) = IsNotLent s block old new why × (books' ≡ books)

-- ALL BLOCKS

-- the files without those of these blocks
abbrev pub rest_after : List BlockId → FileMap → FileMap
rest_after [] m = m
rest_after (block ∷ blocks) m = rest_after blocks (rest_of block.0 m)

-- The shelf has lent these blocks, and these are the books of what was found of them.
pub record HasFound {S D : Type 0} (s : shelves.Ghosts S D) (d : files.Ghosts D) (blocks : List BlockId)
    (replicas : List Seen) (old new : S) (books : List (BookState D)) : Type 0 where
  pub blocks_are : blocks_of books ≡ blocks
  pub each : (k : ℕ) (x : BookState D) → slice_get books k ≡ Some x →
      IsBookFor d (block_of x) (seen_in replicas (block_of x)) (option_map (part_of (block_of x).0) (s.files old)) x
  pub rest : s.files new ≡ option_map (rest_after blocks) (s.files old)
  pub lent : (b : ℕ) → s.lent new b ≡ is_among blocks b || s.lent old b
  pub faults : s.faults new ≡ s.faults old

-- No block is lent that wasn't, for this reason.
pub record IsUnmade {S D : Type 0} (s : shelves.Ghosts S D) (old new : S) (why : RestartFault) : Type 0 where
  pub no_more : LendsNoMore s old new
  pub never_falls : s.faults old ≤ s.faults new
  pub cause : HasRestartCause (s.faults old) (s.faults new) why
