-- What files tell while they refuse the writes on data files.
use Rattle.std.specs.Prelude.{◌≡◌, ℕ, ◌<◌, Bool, false, List, [], ◌∷◌, ◌++◌, map, Option, Some, None, option_map, is_some, vec_len, vec_capacity}
use Rattle.hd_base.specs.Calls.{Call, Write, Sync, Log, cut_short, MakesCalls, MakesPartOf, IsUnchanged}
use Rattle.hd_base.specs.FileMaps.{FileMap}
use Rattle.refusing_files.specs.Refusals.{AreIdle}
use Rattle.fault_ports.specs.declared.refusals.Refusal.{Refusal}
use Rattle.fault_ports.specs.declared.refused_writes.RefusedWrite.{RefusedWrite}
use Rattle.fault_ports.specs.declared.fused.FusedDrawer.{FusedDrawer}

-- the refused write, as a write of nothing
abbrev pub refused_call : Option RefusedWrite → List Call
refused_call None = []
refused_call (Some write) = Write write.name write.place [] ∷ []

-- the calls since files refuse writes
abbrev pub calls_since : Refusal → List Call
calls_since refusal = map Sync refusal.synced.items ++ refused_call refusal.write

-- a write was refused, while files refuse writes
abbrev pub has_refused : Option Refusal → Bool
has_refused None = false
has_refused (Some refusal) = is_some refusal.write

-- the log of files that refuse writes, and none of files that take them
abbrev pub told_log : Option Refusal → Option FileMap → Option Log
told_log None files = None
told_log (Some refusal) files = option_map (λ m. record { start = m; calls = calls_since refusal }) files

-- No write was refused, and there is a place to keep a sync.
pub record TakesSync (refusal : Refusal) : Type 0 where
  pub none : refusal.write ≡ None
  pub place : vec_len refusal.synced < vec_capacity refusal.synced

-- The call was refused: what is told of it is a part of it, and changes no file.
pub record IsRefused (old new : Refusal) (call : Call) : Type 0 where
  pub part : ℕ
  pub calls : calls_since new ≡ calls_since old ++ cut_short part call
  pub idle : AreIdle (cut_short part call)
  pub before : new.before ≡ old.before

-- These calls were made through a drawer over files that show themselves thus.
abbrev pub MakesThrough : {F : Type 0} → (F → Option FileMap) → FusedDrawer F → FusedDrawer F → List Call → Type 0
MakesThrough files old new calls =
    MakesCalls (files old.inner) (files new.inner)
    (told_log old.refusal (files old.inner)) (told_log new.refusal (files new.inner)) calls

-- Of a call that failed a part was made.
abbrev pub MakesPartThrough : {F : Type 0} → (F → Option FileMap) → FusedDrawer F → FusedDrawer F → Call → Type 0
MakesPartThrough files old new call =
    MakesPartOf (files old.inner) (files new.inner)
    (told_log old.refusal (files old.inner)) (told_log new.refusal (files new.inner)) call

-- Nothing changed that is observable of the drawer's files and calls.
abbrev pub IsSameThrough : {F : Type 0} → (F → Option FileMap) → FusedDrawer F → FusedDrawer F → Type 0
IsSameThrough files old new =
    IsUnchanged (files old.inner) (files new.inner)
    (told_log old.refusal (files old.inner)) (told_log new.refusal (files new.inner))
