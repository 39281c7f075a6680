-- Which replicas a restart looks for.
use Rattle.std.specs.Prelude.{◌==◌, ◌||◌, ◌++◌, ℕ, Bool, List, [], ◌∷◌, cond, filter, is_some}
use Rattle.std.specs.List.{list_any}
use Rattle.hd_base.specs.declared.numbers.BlockId.{BlockId}
use Rattle.replica_files.specs.Books.{replica_of}
use Rattle.replica_files.specs.declared.book_state.BookState.{BookState}
use Rattle.restart_scan.specs.declared.found.Seen.{Seen}
use Rattle.node_opening.specs.Closing.{block_of}

-- A restart looks for a book's replica: it is there, or it broke.
abbrev pub is_sought : {D : Type 0} → BookState D → Bool
is_sought x = is_some (replica_of x).known.info || (replica_of x).known.is_broken

-- the block of such a book, as a list
abbrev pub sought_list : {D : Type 0} → BookState D → List BlockId
sought_list x = cond (is_sought x) (block_of x ∷ []) []

-- the blocks of such books, in their order
abbrev pub sought_of : {D : Type 0} → List (BookState D) → List BlockId
sought_of [] = []
sought_of (x ∷ xs) = sought_list x ++ sought_of xs

-- a block of this number is among these
abbrev pub has_block : List BlockId → ℕ → Bool
has_block blocks b = list_any (λ x. x.0 == b) blocks

-- what was found of these blocks
abbrev pub found_of : List BlockId → List Seen → List Seen
found_of blocks replicas = filter (λ seen. has_block blocks seen.block.0) replicas
