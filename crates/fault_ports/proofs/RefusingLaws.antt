-- A refused call was made in part: a part that changes no file.
use Rattle.std.proofs.Common.{◌≡◌, Option, Some, None, refl, sym, ap}
use Rattle.hd_base.specs.FileMaps.{FileMap}
use Rattle.hd_base.specs.Calls.{Call, MakesPartOf, cut_short, logged}
use Rattle.refusing_files.proofs.IdleLaws.{runs-idle}
use Rattle.std.specs.Option.{option_map}
use Rattle.fault_ports.specs.RefusedWrites.{told_log, IsRefused}
use Rattle.fault_ports.specs.declared.refusals.Refusal.{Refusal}

told_more : (files : Option FileMap) (old now : Refusal) (call : Call) (r : IsRefused old now call) → told_log (Some now) files ≡ option_map (logged (cut_short r.part call)) (told_log (Some old) files)
told_more None old now call r = refl
told_more (Some m) old now call r = ap (λ calls. Some (record { start = m; calls = calls })) r.calls

pub refused-part : (files new : Option FileMap) (before : Option Refusal) (old now : Refusal) (call : Call) → before ≡ Some old → new ≡ files → IsRefused old now call → MakesPartOf files new (told_log before files) (told_log (Some now) new) call
refused-part files new before old now call was same r =
    rw (was, same) (r.part, record { files = sym (runs-idle (cut_short r.part call) files r.idle); log = told_more files old now call r })
