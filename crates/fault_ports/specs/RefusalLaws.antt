-- Laws of what files tell while they refuse the writes on data files.
use Rattle.std.proofs.Common.{◌≡◌, ℕ, true, ◌||◌, List, [], ◌∷◌, ◌++◌, map, Option, Some, None, IfSome, ap, refl, sym}
use Rattle.std.specs.Option.{is_some, IsSome}
use Rattle.std.proofs.lemmas.Bool.{false≢true}
use Rattle.hd_base.specs.Calls.{Sync, LogMakesFiles}
use Rattle.hd_base.specs.FileMaps.{FileMap}
use Rattle.refusing_files.specs.Refusals.{AreIdle, has_data_write, TellsRefusals}
use Rattle.refusing_files.proofs.IdleLaws.{run-idle}
use Rattle.fault_ports.specs.RefusedWrites.{refused_call, calls_since, has_refused, told_log}
use Rattle.fault_ports.specs.declared.refusals.Refusal.{Refusal}
use Rattle.fault_ports.specs.declared.refused_writes.RefusedWrite.{RefusedWrite}

idle_write : (write : Option RefusedWrite) → AreIdle (refused_call write)
idle_write None = tt
idle_write (Some write) = (refl, tt)

idle_since : (names : List (List ℕ)) (write : Option RefusedWrite) → AreIdle (map Sync names ++ refused_call write)
idle_since [] write = idle_write write
idle_since (name ∷ names) write = (tt, idle_since names write)

marked_write : (write : Option RefusedWrite) → is_some write ≡ has_data_write (refused_call write)
marked_write None = refl
marked_write (Some write) = sym (ap (λ b. b || has_data_write []) write.on_data)

marked_since : (names : List (List ℕ)) (write : Option RefusedWrite) → is_some write ≡ has_data_write (map Sync names ++ refused_call write)
marked_since [] write = marked_write write
marked_since (name ∷ names) write = marked_since names write

-- The calls that are told made the files.
pub log-makes_files : (refusal : Option Refusal) (files : Option FileMap) → LogMakesFiles (told_log refusal files) files
log-makes_files None files = tt
log-makes_files (Some refusal) None = tt
log-makes_files (Some refusal) (Some m) =
    ap Some (sym (run-idle (calls_since refusal) m (idle_since refusal.synced.items refusal.write)))

-- They are just the refusals, and syncs before them.
pub log-tells_refusals : (refusal : Option Refusal) (files : Option FileMap) → IfSome (told_log refusal files) (TellsRefusals (has_refused refusal) files)
log-tells_refusals None files = tt
log-tells_refusals (Some refusal) None = tt
log-tells_refusals (Some refusal) (Some m) = record {
  as_before = refl;
  idle = idle_since refusal.synced.items refusal.write;
  marked = marked_since refusal.synced.items refusal.write;
}

-- Where a write was refused, and the files are observable, the calls are told.
pub refusals-logged : (refusal : Option Refusal) (files : Option FileMap) → has_refused refusal ≡ true → IfSome files (λ _. IsSome (told_log refusal files))
refusals-logged refusal None refused = tt
refusals-logged None (Some m) refused = absurd (false≢true refused)
refusals-logged (Some refusal) (Some m) refused = refl
