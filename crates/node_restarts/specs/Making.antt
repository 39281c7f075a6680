-- Books of what a restart found.
use Rattle.std.specs.Prelude.{◌≡◌, ◌==◌, List, find, Option, Some, None, IfSome, Contains}
use Rattle.hd_base.specs.FileMaps.{FileMap, part_of}
use Rattle.hd_base.specs.declared.files.Files as files
use Rattle.hd_base.specs.declared.numbers.BlockId.{BlockId}
use Rattle.replica_files.specs.Books.{replica_of}
use Rattle.replica_files.specs.declared.book_state.BookState.{BookState}
use Rattle.replica_model.specs.Found.{Found}
use Rattle.restart_scan.specs.declared.found.Seen.{Seen}
use Rattle.restart_scan.specs.Restarts.{Shows}
use Rattle.restart_scan.specs.Shelves.{IsHeldAs}
use Rattle.node_opening.specs.World.Restarts.{replica_found}
use Rattle.node_restarts.specs.declared.faults.RestartFault.{RestartFault}
use Rattle.node_restarts.specs.Faults.{HasRestartCause}

-- what was found of a block
abbrev pub seen_in : List Seen → BlockId → Option Seen
seen_in replicas block = find (λ seen. seen.block.0 == block.0) replicas

-- What was found is of the block, and the files hold it.
pub record IsSeenIn (block : BlockId) (m : FileMap) (seen : Seen) : Type 0 where
  pub of_block : seen.block ≡ block
  pub held : IsHeldAs m seen

-- The same where the files are observable and something was found.
abbrev pub HoldsSeen : Option FileMap → BlockId → Option Seen → Type 0
HoldsSeen files block None = Unit {0}
HoldsSeen files block (Some seen) = IfSome files (λ m. IsSeenIn block m seen)

-- The files hold all replicas that were found.
abbrev pub AllHeld : List Seen → FileMap → Type 0
AllHeld replicas m = (seen : Seen) → Contains replicas seen → IsHeldAs (part_of seen.block.0 m) seen

-- The book over these files of a replica that a restart finds: it is the one that was found, with the bytes that the
-- files hold.
pub record IsBookFor {D : Type 0} (d : files.Ghosts D) (block : BlockId) (seen : Option Seen) (files : Option FileMap)
    (book : BookState D) : Type 0 where
  pub found : Option Found
  pub is : replica_of book ≡ replica_found block.0 found
  pub shows : IfSome files (λ m. Shows m seen found)
  pub files_are : d.files book.drawer ≡ files

-- The drawer comes back with its files as they were, and its count rose where a call on them failed.
pub record ComesBack {D : Type 0} (d : files.Ghosts D) (old new : D) (why : RestartFault) : Type 0 where
  pub files : d.files new ≡ d.files old
  pub cause : HasRestartCause (d.faults old) (d.faults new) why
