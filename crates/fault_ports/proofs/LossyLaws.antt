-- Laws of files that keep their calls.
use Rattle.std.specs.Str.{bytes_eq}
use Rattle.std.specs.Map.{update}
use Rattle.std.proofs.Common.{◌≡◌, ℕ, Result, Ok, Err, OnErr, List, [], ◌∷◌, ◌++◌, Some, None, zero, refl, ap, sym, ◌∙◌}
use Rattle.std.proofs.lemmas.List.{map-append}
use Rattle.hd_base.specs.FileMaps.{FileMap}
use Rattle.hd_base.specs.Calls.{Call, Rename, effect_of, MakesCalls, MakesPartOf}
use Rattle.file_calls.specs.Disks.{Disk, DiskFile, disk_after_call, disk_of, files_on, synced_disk}
use Rattle.file_calls.proofs.DiskLaws.{shows_call, disk_after-append}
use Rattle.file_calls.proofs.ProgressLaws.{MakesCalls-none}
use Rattle.fault_ports.specs.declared.made_calls.MadeCall.{MadeCall}
use Rattle.fault_ports.specs.MadeCalls.{call_of, calls_of}

calls_of-push : (made : List MadeCall) (call : MadeCall) → calls_of (made ++ call ∷ []) ≡ calls_of made ++ call_of call ∷ []
calls_of-push made call = map-append call_of made (call ∷ [])

-- The disk after one call more is the disk of all calls.
pub disk_of-push : (start now : FileMap) (made all : List MadeCall) (disk after : Disk) (call : MadeCall) → disk ≡ disk_of start (calls_of made) → after ≡ disk_after_call (call_of call) disk → now ≡ start → all ≡ made ++ call ∷ [] → after ≡ disk_of now (calls_of all)
disk_of-push start now made all disk after call kept step same more =
    step ∙ (ap (disk_after_call (call_of call)) kept
    ∙ (sym (disk_after-append (calls_of made) (call_of call ∷ []) (synced_disk start))
    ∙ (ap (disk_of start) (sym (calls_of-push made call) ∙ sym (ap calls_of more)) ∙ ap (λ s. disk_of s (calls_of all)) (sym same))))

pub files_on-call : (call : Call) (disk : Disk) → files_on (disk_after_call call disk) ≡ effect_of call (files_on disk)
files_on-call call disk = λ i name. shows_call call disk (files_on disk) (λ q. refl) name i

-- A call that is kept was made, and is in the log.
pub MakesCalls-push : (start now : FileMap) (made all : List MadeCall) (disk after : Disk) (call : MadeCall) → after ≡ disk_after_call (call_of call) disk → now ≡ start → all ≡ made ++ call ∷ [] → MakesCalls (Some (files_on disk)) (Some (files_on after)) (Some (record { start = start; calls = calls_of made })) (Some (record { start = now; calls = calls_of all })) (call_of call ∷ [])
MakesCalls-push start now made all disk after call step same more = record {
  files = ap Some (ap files_on step ∙ files_on-call (call_of call) disk);
  log = ap Some (λ i. record { start = same i; calls = (ap calls_of more ∙ calls_of-push made call) i });
}

-- Nothing was done.
pub MakesPartOf-nothing : (start now : FileMap) (calls all : List Call) (disk after : Disk) (call : Call) → after ≡ disk → now ≡ start → all ≡ calls → MakesPartOf (Some (files_on disk)) (Some (files_on after)) (Some (record { start = start; calls = calls })) (Some (record { start = now; calls = all })) call
MakesPartOf-nothing start now calls all disk after call same_disk same_start same_calls =
    rw (same_disk, same_start, same_calls) (zero, MakesCalls-none (Some (files_on disk)) (Some (record { start = start; calls = calls })))

-- What holds in any case holds where a call failed.
pub on_err : {T E P : Type 0} (result : Result T E) → P → OnErr result P
on_err (Ok x) p = tt
on_err (Err e) p = p

-- A file moved on the disk.
pub disk-moved : (disk first second : Disk) (from to : List ℕ) (old new : DiskFile) → first ≡ update bytes_eq disk from None → second ≡ update bytes_eq first to (Some new) → Some old ≡ disk from → new ≡ old → second ≡ disk_after_call (Rename from to) disk
disk-moved disk first second from to old new gone there found same =
    there ∙ (ap (λ d. update bytes_eq d to (Some new)) gone ∙ ap (update bytes_eq (update bytes_eq disk from None) to) (ap Some same ∙ found))
