-- How the calls on a block's files are made.
use Rattle.std.specs.Prelude.{◌≡◌, ◌⊎◌, List, Some, IfSome, Result, OnOk, OnErr, IfOk}
use Rattle.hd_base.specs.FileMaps.{FileMap, OnlyOf}
use Rattle.hd_base.specs.Calls.{Call, run, MakesCalls, IsUnchanged, StopsWithin}
use Rattle.hd_base.specs.declared.files.Files as files
use Rattle.hd_base.specs.declared.numbers.BlockId.{BlockId}
use Rattle.restart_scan.specs.declared.faults.ScanFault.{ScanFault}
use Rattle.restart_scan.specs.declared.found.Scanned.{Scanned}
use Rattle.restart_scan.specs.Faults.{ScansFor}
use Rattle.restart_scan.specs.Blocks.{ScansBlock, ScanCalls, StopsScan}

-- All calls were made; or nothing was done, or one of them failed.
pub record MakesAll {F T : Type 0} (f : files.Ghosts F) (old new : F) (calls : List Call) (result : Result T ScanFault)
    : Type 0 where
  pub done : OnOk result (MakesCalls (f.files old) (f.files new) (f.log old) (f.log new) calls)
  pub stopped : OnErr result (IsUnchanged (f.files old) (f.files new) (f.log old) (f.log new)
      ⊎ StopsWithin (f.files old) (f.files new) (f.log old) (f.log new) calls)
  pub cause : ScansFor (f.faults old) (f.faults new) result

-- A block's files were scanned, with this result, by calls of a scan.
pub record IsDone (block : BlockId) (old new : FileMap) (x : Scanned) : Type 0 where
  pub scanned : ScansBlock block old new x
  pub calls : List Call
  pub are : ScanCalls block old calls
  pub made : new ≡ run calls old

-- A block's files were scanned, where they are observable. After a fault a part of the scan's calls was made. All
-- files are still of the block.
pub record ScansDrawer {F : Type 0} (f : files.Ghosts F) (block : BlockId) (old new : F) (result : Result Scanned ScanFault)
    : Type 0 where
  pub done : IfOk result (λ x. IfSome (f.files old) (λ m. (n : FileMap) × (f.files new ≡ Some n) × IsDone block m n x))
  pub stopped : OnErr result (StopsScan f block old new)
  pub only : OnlyOf block.0 (f.files new)
  pub cause : ScansFor (f.faults old) (f.faults new) result
