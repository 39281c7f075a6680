-- What a failed call leaves of a replica's files.
use Rattle.std.proofs.Common.{◌≡◌, ℕ, ◌≤◌, Bool, true, false, List, [], ◌∷◌, ◌++◌, length, take, Option, Some, None, option_map, IfSome, refl, sym, ap, subst, ◌∙◌, arith}
use Rattle.std.proofs.Math.Seq.{take-append_seam}
use Rattle.hd_base.specs.Calls.{Call, Log, run, logged, stopped}
use Rattle.hd_base.specs.Faults.{FaultsIncreased}
use Rattle.hd_base.specs.FileMaps.{FileMap}
use Rattle.hd_base.specs.declared.numbers.BlockId.{BlockId}
use Rattle.hd_base.specs.declared.files.Files as files
use Rattle.refusing_files.proofs.IdleLaws.{runs-idle}
use Rattle.refusing_files.specs.Refusals.{AreIdle}
use Rattle.replica_core.specs.declared.info.ReplicaInfo.{ReplicaInfo}
use Rattle.replica_core.specs.declared.events.Event.TheVariants as event
use Rattle.replica_core.specs.Transitions.{transition}
use Rattle.replica_core.specs.Views.{written_in}
use Rattle.replica_model.specs.declared.events.ReplicaEvent.{ReplicaEvent}
use Rattle.replica_model.specs.Rows.{FullReplica, IsFull, event_at, row, broken}
use Rattle.replica_model.specs.Plans.{HoldsInfo, Holds}
use Rattle.replica_files.specs.Breaks.{HoldsWhole, TellsOnlyRefusals, IsLeft, LeavesFiles}
use Rattle.replica_files.specs.Books.{Takes, StopsEvent, before_all, amid, event_calls}
use Rattle.replica_files.specs.Events.{IsForWhole, NeedsWhole}
use Rattle.replica_files.proofs.StepLemmas.{event_for_whole, taken_whole}
use Rattle.replica_files.proofs.ShapeLemmas.{stays_of, unbroken_of}

-- ---- calls that leave the files as they are

idle_behind : (xs ys : List Call) → AreIdle (xs ++ ys) → AreIdle ys
idle_behind [] ys idle = idle
idle_behind (x ∷ xs) ys idle = idle_behind xs ys idle.1

-- ---- what the files hold

-- of a replica of the same block that holds the same
whole_as : (files : Option FileMap) (r s : FullReplica) → s.known.block ≡ r.known.block → s.known.info ≡ r.known.info → s.bytes ≡ r.bytes → HoldsWhole files r → HoldsWhole files s
whole_as files r s block info bytes holds =
    subst (λ (b : BlockId). HoldsInfo files b.0 s.known.info false s.bytes) (sym block)
    (subst (λ (o : Option ReplicaInfo). HoldsInfo files r.known.block.0 o false s.bytes) (sym info)
    (subst (λ (l : List ℕ). HoldsInfo files r.known.block.0 r.known.info false l) (sym bytes) holds))

-- of one that isn't broken
whole_of : (files : Option FileMap) (r : FullReplica) → r.known.is_broken ≡ false → Holds files r → HoldsWhole files r
whole_of files r unbroken holds = subst (λ (t : Bool). HoldsInfo files r.known.block.0 r.known.info t r.bytes) unbroken holds

front_is : (bytes : List ℕ) (n : ℕ) → length bytes ≡ n → take n (bytes ++ []) ≡ bytes
front_is bytes n e = ap (λ m. take m (bytes ++ [])) (sym e) ∙ take-append_seam bytes []

-- What a replica held before it broke, it holds broken.
whole_broken : (files : Option FileMap) (r : FullReplica) → IsFull r → r.known.is_broken ≡ false → Holds files r → HoldsWhole files (broken r)
unfolding transition
whole_broken files r full unbroken holds = whole_as files r (broken r) refl refl (front_is r.bytes (written_in r.known) full.all) (whole_of files r unbroken holds)

-- ---- a replica that breaks

if_each : {P : Log → Type 0} (o : Option Log) → ((l : Log) → P l) → IfSome o P
if_each None each = tt
if_each (Some l) each = each l

apart : {P : Type 0} (b : Bool) → b ≡ true → b ≡ false → P
apart b t f = absurd (cc)

left_by : (files new : Option FileMap) (before now : Option Log) (calls : List Call) (r : FullReplica) → new ≡ option_map (run calls) files → now ≡ option_map (logged calls) before → HoldsWhole files r
    → IfSome now (λ l. TellsOnlyRefusals l → HoldsWhole new r)
left_by files new None now calls r made kept holds = subst (λ (o : Option Log). IfSome o (λ l. TellsOnlyRefusals l → HoldsWhole new r)) (sym kept) tt
left_by files new (Some b) now calls r made kept holds =
    subst (λ (o : Option Log). IfSome o (λ l. TellsOnlyRefusals l → HoldsWhole new r)) (sym kept)
    (λ told. subst (λ (o : Option FileMap). HoldsWhole o r) (sym (made ∙ runs-idle calls files (idle_behind b.calls calls told.idle))) holds)

left_within : {F : Type 0} (f : files.Ghosts F) (old new : F) (r s : FullReplica) (e : ReplicaEvent) → HoldsWhole (f.files old) s → StopsEvent f old new r e → IfSome (f.log new) (λ l. TellsOnlyRefusals l → HoldsWhole (f.files new) s)
left_within f old new r s e holds (before_all same) = if_each (f.log new) (λ l told. subst (λ (o : Option FileMap). HoldsWhole o s) (sym same.files) holds)
left_within f old new r s e holds (amid strays are stop) =
    left_by (f.files old) (f.files new) (f.log old) (f.log new) (stopped stop.0 stop.1 (event_calls r e strays)) s stop.2.files stop.2.log holds

risen : (before now : ℕ) → FaultsIncreased before now → FaultsIncreased 0 now
risen before now rose = omega (arith, rose)

-- A call failed amid its event.
pub left_failed : {F : Type 0} (f : files.Ghosts F) (old new : F) (r : FullReplica) (e : ReplicaEvent) → IsFull r → r.known.is_broken ≡ false → Holds (f.files old) r → StopsEvent f old new r e → FaultsIncreased (f.faults old) (f.faults new)
    → IsLeft f new false (broken r)
left_failed f old new r e full unbroken holds stops rose =
    record {
      held = λ t. apart false t refl;
      cause = λ _. risen (f.faults old) (f.faults new) rose;
      refused = left_within f old new r (broken r) e (whole_broken (f.files old) r full unbroken holds) stops;
    }

-- Something failed before any call.
pub left_before : {F : Type 0} (f : files.Ghosts F) (d : F) (r : FullReplica) → IsFull r → r.known.is_broken ≡ false → Holds (f.files d) r → IsLeft f d true (broken r)
left_before f d r full unbroken holds =
    let whole = whole_broken (f.files d) r full unbroken holds in
    record { held = λ _. whole; cause = λ t. apart true refl t; refused = if_each (f.log d) (λ l told. whole) }

-- ---- a broken replica

still_risen : (before now : ℕ) → before ≤ now → FaultsIncreased 0 before → FaultsIncreased 0 now
still_risen before now below rose = omega (arith, below, rose)

-- Files and log are as they were.
pub left_kept : {F : Type 0} (f : files.Ghosts F) (old new : F) (whole : Bool) (r : FullReplica) → f.files new ≡ f.files old → f.log new ≡ f.log old → f.faults old ≤ f.faults new → LeavesFiles f old whole r → LeavesFiles f new whole r
left_kept f old new whole r same log below leaves = λ broke.
    let left = leaves broke in
    record {
      held = λ t. subst (λ (o : Option FileMap). HoldsWhole o r) (sym same) (left.held t);
      cause = λ t. still_risen (f.faults old) (f.faults new) below (left.cause t);
      refused = subst (λ (o : Option FileMap). IfSome (f.log new) (λ l. TellsOnlyRefusals l → HoldsWhole o r)) (sym same)
          (subst (λ (o : Option Log). IfSome o (λ l. TellsOnlyRefusals l → HoldsWhole (f.files old) r)) (sym log) left.refused);
    }

-- An event left what the replica holds.
left_as : {F : Type 0} (f : files.Ghosts F) (d : F) (whole : Bool) (r s : FullReplica) → s.known.block ≡ r.known.block → s.known.info ≡ r.known.info → s.bytes ≡ r.bytes → IsLeft f d whole r → IsLeft f d whole s
left_as f d whole r s block info bytes left =
    record {
      held = λ t. whole_as (f.files d) r s block info bytes (left.held t);
      cause = left.cause;
      refused = each (f.log d) left.refused;
    } where
      each : (o : Option Log) → IfSome o (λ l. TellsOnlyRefusals l → HoldsWhole (f.files d) r) → IfSome o (λ l. TellsOnlyRefusals l → HoldsWhole (f.files d) s)
      each None was = tt
      each (Some l) was = λ told. whole_as (f.files d) r s block info bytes (was told)

pub left_row : {F : Type 0} (f : files.Ghosts F) (d : F) (whole : Bool) (r : FullReplica) (e : ReplicaEvent) → (row r e).known.info ≡ r.known.info → (row r e).bytes ≡ r.bytes → r.known.is_broken ≡ true → LeavesFiles f d whole r → LeavesFiles f d whole (row r e)
left_row f d whole r e info bytes broke leaves = λ _. left_as f d whole r (row r e) (stays_of r.known (event_at r e)).0 info bytes (leaves broke)

-- One that isn't broken doesn't break by an event that is no fault of files.
pub left_unbroken : {F : Type 0} (f : files.Ghosts F) (d : F) (whole : Bool) (r : FullReplica) (e : ReplicaEvent) → (event_at r e ≡ event.FileFault → ⊥) → r.known.is_broken ≡ false → LeavesFiles f d whole (row r e)
left_unbroken f d whole r e no_fault unbroken = λ broke. apart (row r e).known.is_broken broke (unbroken_of r.known (event_at r e) no_fault unbroken)

-- Nor by an event that is taken and that a broken one refuses.
pub left_needing : {F : Type 0} (f : files.Ghosts F) (d : F) (whole : Bool) (r : FullReplica) (e : ReplicaEvent) → NeedsWhole e → Takes r e → LeavesFiles f d whole (row r e)
left_needing f d whole r e needs takes = left_unbroken f d whole r e (λ is. subst IsForWhole is (event_for_whole r e needs)) (taken_whole r e needs takes)
