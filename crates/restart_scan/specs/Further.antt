-- Further scans, after one that stopped.
use Rattle.std.specs.Prelude.{◌≡◌, ◌<◌, ◌^◌, true, false, Contains}
use Rattle.hd_base.specs.FileMaps.{FileMap, part_of}
use Rattle.hd_base.specs.declared.numbers.BlockId.{BlockId}
use Rattle.meta_file.specs.declared.names.Folder.TheVariants.{Finalized56}
use Rattle.restart_scan.specs.declared.pairs.PairPlaces.{PairPlaces}
use Rattle.restart_scan.specs.declared.found.Scanned.{Scanned}
use Rattle.restart_scan.specs.declared.found.Found.{Found}
use Rattle.restart_scan.specs.Pairs.{Pair, IsPair}
use Rattle.restart_scan.specs.Blocks.{ScansBlock}
use Rattle.restart_scan.specs.Shelves.{IsPartly, ScansShelf, StopsShelf}

-- Neither file lies in the folder of finalized replicas of layout -56.
pub record IsLaidOut (x : PairPlaces) : Type 0 where
  pub body : x.folder ≡ Finalized56 → ⊥
  pub meta : x.meta_folder ≡ Finalized56 → ⊥

-- What a further scan of a block's files finds after one that stopped between, beside what the first would have found:
-- the same replica, and it leaves the same files. It names as moved just what the first would have, apart from a pair
-- that lay in the folders of layout -57 or in rbw already.
pub record FindsAgain (block : BlockId) (between whole last : FileMap) (first again : Scanned) : Type 0 where
  pub seen : again.seen ≡ first.seen
  pub files : last ≡ whole
  pub moved : again.is_moved ≡ true → first.is_moved ≡ true
  pub rest : first.is_moved ≡ true → again.is_moved ≡ false → (p : Pair) → IsPair block between p → IsLaidOut p.places

-- After a scan of a block's files that stopped at any of its calls, with any part of it done, a further scan finds what
-- the first would have found.
abbrev pub FurtherScansFindTheSame : Type 0
FurtherScansFindTheSame = (block : BlockId) (old between whole last : FileMap) (first again : Scanned) →
    block.0 < 2 ^ 64 → IsPartly block old between → ScansBlock block old whole first → ScansBlock block between last again →
    FindsAgain block between whole last first again

-- The same of a whole shelf: the same replicas, the same files and the same strays; and as moved no other blocks, and
-- all but those whose pair was moved already.
pub record FindsAllAgain (between whole last : FileMap) (first again : Found) : Type 0 where
  pub replicas : again.replicas.items ≡ first.replicas.items
  pub files : last ≡ whole
  pub strays : again.strays.items ≡ first.strays.items
  pub moved : (b : BlockId) → Contains again.moved.items b → Contains first.moved.items b
  pub rest : (b : BlockId) → Contains first.moved.items b → (Contains again.moved.items b → ⊥) →
      (p : Pair) → IsPair b (part_of b.0 between) p → IsLaidOut p.places

-- After a scan of a shelf that stopped, a further scan finds what the first would have found.
abbrev pub FurtherShelfScansFindTheSame : Type 0
FurtherShelfScansFindTheSame = (old between whole last : FileMap) (first again : Found) → StopsShelf old between →
    ScansShelf old whole first → ScansShelf between last again → FindsAllAgain between whole last first again
