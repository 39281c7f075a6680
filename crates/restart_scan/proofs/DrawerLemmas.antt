-- A drawer that is scanned.
use Rattle.std.proofs.Common.{◌≡◌, ◌⊎◌, inl, inr, ℕ, ◌^◌, ◌<◌, ◌≤◌, List, ◌++◌, Option, Some, None, option_map, IfSome, Result, Ok, Err, refl, sym, subst, ◌∙◌, arith}
use Rattle.std.specs.Result.{IfOk}
use Rattle.std.specs.Prelude.{OnErr, filter}
use Rattle.hd_base.specs.FileMaps.{FileMap, AreNamesOf, OnlyOf}
use Rattle.hd_base.specs.Faults.{FaultsIncreased}
use Rattle.hd_base.specs.Calls.{Call, Log, run, MakesCalls, IsUnchanged, StopsWithin}
use Rattle.hd_base.specs.declared.files.Files as files
use Rattle.hd_base.specs.declared.numbers.BlockId.{BlockId}
use Rattle.file_calls.specs.Plans.{FindFiles}
use Rattle.replica_calls.specs.CallLists.{remove_list}
use Rattle.replica_files.proofs.OnlyLemmas.{only_made, only_stopped}
use Rattle.restart_scan.specs.declared.faults.ScanFault.{ScanFault}
use Rattle.restart_scan.specs.declared.faults.ScanFault.TheVariants as fault
use Rattle.restart_scan.specs.declared.found.Scanned.{Scanned}
use Rattle.restart_scan.specs.declared.reading.ReadPair.{ReadPair}
use Rattle.restart_scan.specs.Pairs.{is_temporary, temporary_part, without_temporary, not_temporary}
use Rattle.restart_scan.specs.Blocks.{ScanCalls, StopsScan, scanned_none}
use Rattle.restart_scan.specs.Reading.{ReadsBlock, settle_list, names_of, read_scanned}
use Rattle.restart_scan.specs.Settling.{MakesAll, IsDone, ScansDrawer}
use Rattle.restart_scan.proofs.RemovalLemmas.{temporary_names, other_names}
use Rattle.restart_scan.proofs.SettleLemmas.{Settles, settles_pair, settles_none}

ok_err : {T : Type 0} (x : T) (e : ScanFault) → ◌≡◌ {A = Result T ScanFault} (Ok x) (Err e) → ⊥
ok_err x e same = cc

pub same_err : {T U : Type 0} (d e : ScanFault) → ◌≡◌ {A = Result U ScanFault} (Err d) (Err e) → ◌≡◌ {A = Result T ScanFault} (Err d) (Err e)
same_err d e same = cc

-- where files are observable, the calls settle them
abbrev pub SettlesTold : BlockId → Option FileMap → List Call → Scanned → Type 0
SettlesTold block files calls x = IfSome files (λ m. Settles block m calls x)

made_only : (block : BlockId) (a b : Option FileMap) (calls : List Call) (x : Scanned) → SettlesTold block a calls x → b ≡ option_map (run calls) a → ((of : (m : FileMap) → a ≡ Some m → Settles block m calls x) → OnlyOf block.0 b) → OnlyOf block.0 b
made_only block None b calls x told is only = subst (OnlyOf block.0) (sym is) tt
made_only block (Some m) b calls x told is only = only (λ n e. subst (λ q. Settles block q calls x) (same m n e) told) where
  same : (m n : FileMap) → ◌≡◌ {A = Option FileMap} (Some m) (Some n) → m ≡ n
  same m n e = cc

module _ {F : Type 0} (f : files.Ghosts F) (block : BlockId) (old new : F) (calls : List Call) (x : Scanned) where
  done_told : (a b : Option FileMap) → SettlesTold block a calls x → b ≡ option_map (run calls) a → IfSome a (λ m. (n : FileMap) × (b ≡ Some n) × IsDone block m n x)
  done_told None b told is = tt
  done_told (Some m) b told is = (run calls m, is, record { scanned = told.made; calls = calls; are = told.are; made = refl })

  only_after : (a b : Option FileMap) → SettlesTold block a calls x → MakesCalls a b (f.log old) (f.log new) calls → OnlyOf block.0 a → OnlyOf block.0 b
  only_after None b told made only = subst (OnlyOf block.0) (sym made.files) tt
  only_after (Some m) b told made only = only_made block.0 (Some m) b (f.log old) (f.log new) calls told.stay made only

  only_stop : (a b : Option FileMap) → SettlesTold block a calls x → StopsWithin a b (f.log old) (f.log new) calls → OnlyOf block.0 a → OnlyOf block.0 b
  only_stop None b told stop only = subst (OnlyOf block.0) (sym stop.2.files) tt
  only_stop (Some m) b told stop only = only_stopped block.0 (Some m) b (f.log old) (f.log new) calls told.stay stop only

  stop_told : (a b : Option FileMap) → SettlesTold block a calls x → StopsWithin a b (f.log old) (f.log new) calls
      → IfSome a (λ m. (c : List Call) × ScanCalls block m c × StopsWithin a b (f.log old) (f.log new) c)
  stop_told None b told stop = tt
  stop_told (Some m) b told stop = (calls, told.are, stop)

  pub drawer_done : {T : Type 0} (u : T) → OnlyOf block.0 (f.files old) → SettlesTold block (f.files old) calls x → MakesAll f old new calls (Ok u) → ScansDrawer f block old new (Ok x)
  drawer_done u only told made = record {
    done = done_told (f.files old) (f.files new) told made.done.files;
    stopped = tt;
    only = only_after (f.files old) (f.files new) told made.done only;
    cause = record { never_falls = made.cause.never_falls; file = λ e. absurd (ok_err x fault.File e) };
  }

  pub drawer_failed : {T : Type 0} (e : ScanFault) → OnlyOf block.0 (f.files old) → SettlesTold block (f.files old) calls x → MakesAll {T = T} f old new calls (Err e) → ScansDrawer f block old new (Err e)
  drawer_failed {T} e only told made = record {
    done = tt;
    stopped = by made.stopped;
    only = only_by made.stopped;
    cause = record { never_falls = made.cause.never_falls; file = λ same. made.cause.file (same_err {T = T} e fault.File same) };
  } where
    by : (IsUnchanged (f.files old) (f.files new) (f.log old) (f.log new) ⊎ StopsWithin (f.files old) (f.files new) (f.log old) (f.log new) calls) → StopsScan f block old new
    by (inl same) = inl same
    by (inr stop) = inr (stop_told (f.files old) (f.files new) told stop)

    only_by : (IsUnchanged (f.files old) (f.files new) (f.log old) (f.log new) ⊎ StopsWithin (f.files old) (f.files new) (f.log old) (f.log new) calls) → OnlyOf block.0 (f.files new)
    only_by (inl same) = subst (OnlyOf block.0) (sym same.files) only
    only_by (inr stop) = only_stop (f.files old) (f.files new) told stop only

-- ---- what the calls find

pub told_pair : (files : Option FileMap) (block : BlockId) (temporary : List (List ℕ)) (found : Option ReadPair) (x : ReadPair) → block.0 < 2 ^ 64 → IfSome files (λ m. AreNamesOf (temporary_part m) temporary)
    → IfSome files (λ m. ReadsBlock block m found) → found ≡ Some x → SettlesTold block files (remove_list temporary ++ settle_list (names_of block.0 x) x) (read_scanned block x)
told_pair None block temporary found x fits are read is = tt
told_pair (Some m) block temporary found x fits are read is = settles_pair block m temporary x fits are (subst (ReadsBlock block m) is read)

pub told_none : (files : Option FileMap) (block : BlockId) (temporary : List (List ℕ)) (found : Option ReadPair) → IfSome files (λ m. AreNamesOf (temporary_part m) temporary)
    → IfSome files (λ m. ReadsBlock block m found) → found ≡ None → SettlesTold block files (remove_list temporary) scanned_none
told_none None block temporary found are read is = tt
told_none (Some m) block temporary found are read is = settles_none block m temporary are (subst (ReadsBlock block m) is read)

pub told_finds : (files : Option FileMap) (block : BlockId) (calls : List Call) (x : Scanned) → SettlesTold block files calls x → IfSome files (λ m. FindFiles m calls)
told_finds None block calls x told = tt
told_finds (Some m) block calls x told = told.found

-- ---- the names of a block's files

pub others_told : (a b : Option FileMap) (names others list : List (List ℕ)) → b ≡ a → IfSome a (λ m. AreNamesOf m names) → others ≡ not_temporary names → list ≡ others
    → IfSome b (λ m. AreNamesOf (without_temporary m) list)
others_told None b names others list same are is at = subst (λ o. IfSome o (λ m. AreNamesOf (without_temporary m) list)) (sym same) tt
others_told (Some m) b names others list same are is at =
    subst (λ o. IfSome o (λ x. AreNamesOf (without_temporary x) list)) (sym same) (subst (AreNamesOf (without_temporary m)) (sym (at ∙ is)) (other_names m names are))

pub temporary_told : (a b : Option FileMap) (names temporary list : List (List ℕ)) → b ≡ a → IfSome a (λ m. AreNamesOf m names) → temporary ≡ filter is_temporary names → list ≡ temporary
    → IfSome b (λ m. AreNamesOf (temporary_part m) list)
temporary_told None b names temporary list same are is at = subst (λ o. IfSome o (λ m. AreNamesOf (temporary_part m) list)) (sym same) tt
temporary_told (Some m) b names temporary list same are is at =
    subst (λ o. IfSome o (λ x. AreNamesOf (temporary_part x) list)) (sym same) (subst (AreNamesOf (temporary_part m)) (sym (at ∙ is)) (temporary_names m names are))

-- ---- reads before a scan

pub risen_before : (a b c : ℕ) → a ≤ b → FaultsIncreased b c → FaultsIncreased a c
risen_before a b c h k = omega (arith, h, k)

-- a scan that failed, by the files and the log before it
abbrev StopsBy : {F : Type 0} → files.Ghosts F → BlockId → F → Option FileMap → Option Log → Type 0
StopsBy f block new a l = IsUnchanged a (f.files new) l (f.log new)
    ⊎ IfSome a (λ m. (calls : List Call) × ScanCalls block m calls × StopsWithin a (f.files new) l (f.log new) calls)

pub scans_after : {F : Type 0} (f : files.Ghosts F) (block : BlockId) (old middle new : F) (r : Result Scanned ScanFault) → f.files middle ≡ f.files old → f.log middle ≡ f.log old → f.faults old ≤ f.faults middle
    → ScansDrawer f block middle new r → ScansDrawer f block old new r
scans_after f block old middle new r same log later scan = record {
  done = subst (λ a. IfOk r (λ x. IfSome a (λ m. (n : FileMap) × (f.files new ≡ Some n) × IsDone block m n x))) same scan.done;
  stopped = subst (λ a. OnErr r (StopsBy f block new a (f.log old))) same (subst (λ l. OnErr r (StopsBy f block new (f.files middle) l)) log scan.stopped);
  only = scan.only;
  cause = record {
    never_falls = omega (arith, later, scan.cause.never_falls);
    file = λ e. risen_before (f.faults old) (f.faults middle) (f.faults new) later (scan.cause.file e);
  };
}
