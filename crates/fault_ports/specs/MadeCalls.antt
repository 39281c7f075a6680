-- What kept calls mean.
use Rattle.std.specs.Prelude.{◌≡◌, List, map, Some}
use Rattle.std.proofs.Common.{ap, ◌∙◌}
use Rattle.hd_base.specs.FileMaps.{FileMap}
use Rattle.hd_base.specs.Calls.{Call, Make, Write, Cut, Sync, Rename, Remove, run}
use Rattle.file_calls.specs.Disks.{Disk, disk_of, files_on}
use Rattle.file_calls.proofs.DiskLaws.{files_on-disk_of}
use Rattle.fault_ports.specs.declared.made_calls.MadeCall.{MadeCall}
use Rattle.fault_ports.specs.declared.made_calls.MadeCall.TheVariants as made_call

-- the call itself
abbrev pub call_of : MadeCall → Call
call_of (made_call.Make name) = Make name
call_of (made_call.Write name place bytes) = Write name place bytes.items
call_of (made_call.Cut name len) = Cut name len
call_of (made_call.Sync name) = Sync name
call_of (made_call.Rename from to) = Rename from to
call_of (made_call.Remove name) = Remove name

-- the calls of a list
abbrev pub calls_of : List MadeCall → List Call
calls_of made = map call_of made

-- The files that readers see are what the calls made of those at the start.
pub made_by : (disk : Disk) (start : FileMap) (calls : List Call) → disk ≡ disk_of start calls →
    Some (files_on disk) ≡ Some (run calls start)
made_by disk start calls kept = ap (λ d. Some (files_on d)) kept ∙ ap Some (files_on-disk_of start calls)
