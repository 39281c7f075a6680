-- Shelves hold the replicas of a world.
use Rattle.std.specs.Prelude.{◌≡◌, ℕ, List, slice_get, Some, None, false, IfSome}
use Rattle.hd_base.specs.Blocks.{is_of_block}
use Rattle.hd_base.specs.FileMaps.{FileMap, part_of}
use Rattle.hd_base.specs.declared.shelves.Shelf as shelves
use Rattle.replica_model.specs.Plans.{Holds}
use Rattle.world.specs.Safe.{Has}
use Rattle.world.specs.Worlds.{World}

-- The files of each of these blocks hold its replica at the node, unless that is broken, and there are no files of others.
pub record HoldsWorld (w : World) (blocks : List ℕ) (node : ℕ) (m : FileMap) : Type 0 where
  pub each : (b : ℕ) → Has blocks b → Holds (Some (part_of b m)) (w.replicas node b)
  pub only : (name : List ℕ) → ((b : ℕ) → Has blocks b → is_of_block b name ≡ false) → m name ≡ None

-- So does the shelf of each node, where it tells its files.
abbrev pub ShelvesHold : {S D : Type 0} → shelves.Ghosts S D → World → List ℕ → List S → Type 0
ShelvesHold {S} s w blocks xs = (node : ℕ) (a : S) → slice_get xs node ≡ Some a → IfSome (s.files a) (HoldsWorld w blocks node)
