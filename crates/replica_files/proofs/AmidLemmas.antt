-- A replica amid an event that settles what it held.
use Rattle.std.proofs.Common.{◌≡◌, ℕ, ◌==◌, ◌&&◌, not, nat_lt, Bool, true, false, List, [], ◌∷◌, ◌++◌, length, take, append-nil, Option, Some, None, option_map, IfSome, Result, Ok, Err, IsOk, refl, sym, ap, subst, ◌∙◌, arith}
use Rattle.std.specs.Result.{IfOk}
use Rattle.std.proofs.lemmas.Grind.{common_steps}
use Rattle.std.proofs.lemmas.Bool.Decides.{nat_tests}
use Rattle.std.proofs.Math.Seq.{take-append_seam}
use Rattle.hd_base.specs.FileMaps.{FileMap}
use Rattle.hd_base.specs.SumRules.{IsChunkSize}
use Rattle.hd_base.specs.Calls.{run, MakesCalls, StopsWithin}
use Rattle.hd_base.specs.declared.numbers.BlockId.{BlockId}
use Rattle.hd_base.specs.declared.files.Files as files
use Rattle.hd_base.specs.declared.files.FileError.{FileError}
use Rattle.file_calls.proofs.ProgressLaws.{MakesCalls-none}
use Rattle.meta_file.specs.declared.names.Folder.{Folder}
use Rattle.meta_file.specs.declared.names.Folder.TheVariants.{Rbw, Finalized, Finalized56, Tmp}
use Rattle.block_files.specs.Placements.{files_of}
use Rattle.block_files.specs.BlockCalls.{BlockCall, MoveMeta, MoveData, calls_of}
use Rattle.replica_core.specs.declared.records.ReplicaRecord.{ReplicaRecord}
use Rattle.replica_core.specs.declared.events.Event.{Event}
use Rattle.replica_core.specs.declared.info.ReplicaInfo.{ReplicaInfo}
use Rattle.replica_core.specs.Info.{is_temporary}
use Rattle.replica_core.specs.Transitions.{Outcome, record_after, transition}
use Rattle.replica_core.specs.Views.{written_at}
use Rattle.replica_model.specs.declared.events.ReplicaEvent.{ReplicaEvent}
use Rattle.replica_model.specs.declared.events.ReplicaEvent.TheVariants as replica_event
use Rattle.replica_model.specs.Rows.{FullReplica, event_at, row}
use Rattle.replica_model.specs.Plans.{folder_of, placed_info, placed_under, placement_of, HoldsInfo, when, sync_calls, same_folder, leaves_temporary, taken_calls, outcome_calls, plan}
use Rattle.replica_calls.specs.LastSums.{IsLastSum}
use Rattle.replica_files.specs.declared.book_state.Prior.{Prior}
use Rattle.replica_files.specs.Books.{HasLastSum, AreStrays, event_calls, Takes, amid}
use Rattle.replica_files.specs.Carried.{Holding, HasRoomToCut, IsToSettle, Settles, IsAmidSettling, CarriesOut, settled_calls}
use Rattle.replica_files.proofs.ShapeLemmas.{Settled, SettledFrom, settled_from, stays_of}

-- ---- an event that was taken

taken_info : (P : Option ReplicaInfo → Type 0) (c : ReplicaRecord) (out : Outcome) → IsOk out → IfOk out (λ t. P t.replica.info) → P (record_after c out).info
taken_info P c (Ok t) is p = p
taken_info P c (Err e) is p = absurd (cc)

taken_plan : (e : ReplicaEvent) (c : ReplicaRecord) (info : Option ReplicaInfo) (bytes : List ℕ) (out : Outcome) → IsOk out → outcome_calls e info bytes out ≡ taken_calls e info (record_after c out).info bytes
taken_plan e c info bytes (Ok t) is = refl
taken_plan e c info bytes (Err x) is = absurd (cc)

-- its calls, by what is held before and after it
pub plan_is : (r : FullReplica) (e : ReplicaEvent) → Takes r e → plan r e ≡ taken_calls e r.known.info (row r e).known.info r.bytes
plan_is r e takes = taken_plan e r.known r.known.info r.bytes (transition r.known (event_at r e)) takes

pub amid_settled : {F : Type 0} (f : files.Ghosts F) (d : F) (block : BlockId) (prior : Prior) (next : Option ReplicaInfo) (sum buffer : ℕ) (a : IsAmidSettling f d block prior next sum buffer)
    → SettledFrom a.e prior.is_broken prior.info next
amid_settled f d block prior next sum buffer a =
    let c = a.r.known.is_broken in
    subst (λ t. SettledFrom a.e t prior.info next) (sym a.broken_is)
    (subst (λ o. SettledFrom a.e c o next) (sym a.before_is)
    (subst (λ o. SettledFrom a.e c a.r.known.info o) (sym a.next_is)
    (taken_info (λ o. SettledFrom a.e c a.r.known.info o) a.r.known (transition a.r.known a.e) a.takes (settled_from a.r.known a.e a.held.full.sound a.settling))))

-- what it held, and holds
pub settled_some : (e : Event) (b : Bool) (o q : Option ReplicaInfo) (h k : ReplicaInfo) → o ≡ Some h → q ≡ Some k → SettledFrom e b o q → Settled e b h k
unfolding SettledFrom
settled_some e b o q h k before next s = subst (λ x. SettledFrom e b (Some h) x) next (subst (λ x. SettledFrom e b x q) before s)

pub settled_still : (e : Event) (b : Bool) (o q : Option ReplicaInfo) → b ≡ true → SettledFrom e b o q → o ≡ q
unfolding SettledFrom
settled_still e b None None t s = refl
settled_still e b None (Some k) t s = absurd s
settled_still e b (Some h) None t s = absurd s
settled_still e b (Some h) (Some k) t s = ap Some (sym (s.still t))

pub settled_none : (e : Event) (b : Bool) (o q : Option ReplicaInfo) → o ≡ None → SettledFrom e b o q → o ≡ q
unfolding SettledFrom
settled_none e b o None none s = none
settled_none e b o (Some k) none s = absurd (subst (λ x. SettledFrom e b x (Some k)) none s)

pub settled_gone : {P : Type 0} (e : Event) (b : Bool) (o q : Option ReplicaInfo) (h : ReplicaInfo) → o ≡ Some h → q ≡ None → SettledFrom e b o q → P
unfolding SettledFrom
settled_gone e b o q h before none s = absurd (subst (λ x. SettledFrom e b (Some h) x) none (subst (λ x. SettledFrom e b x q) before s))

no_strays : (files : Option FileMap) (e : Event) (b : Bool) (o q : Option ReplicaInfo) → SettledFrom e b o q → AreStrays files o q []
unfolding SettledFrom
no_strays files e b None None s = refl
no_strays files e b None (Some k) s = absurd s
no_strays files e b (Some h) q s = refl

amid_strays : {F : Type 0} (f : files.Ghosts F) (d : F) (block : BlockId) (prior : Prior) (next : Option ReplicaInfo) (sum buffer : ℕ) (a : IsAmidSettling f d block prior next sum buffer)
    → AreStrays (f.files d) a.r.known.info (row a.r (replica_event.Other a.e)).known.info []
amid_strays f d block prior next sum buffer a =
    subst (λ o. AreStrays (f.files d) o (row a.r (replica_event.Other a.e)).known.info []) a.before_is
    (subst (λ o. AreStrays (f.files d) prior.info o []) a.next_is
    (no_strays (f.files d) a.e prior.is_broken prior.info next (amid_settled f d block prior next sum buffer a)))

-- ---- where it holds what it held

never : (t : Bool) → (t && not t) ≡ false
never true = refl
never false = refl

itself : (f : Folder) → same_folder f f ≡ true
itself Rbw = refl
itself Finalized = refl
itself Finalized56 = refl
itself Tmp = refl

no_less : (n m : ℕ) → m ≡ n → nat_lt n m ≡ false
no_less n m e = grind (arith, common_steps, nat_tests, e)

equal : (n : ℕ) → (n == n) ≡ true
equal n = grind (arith, common_steps, nat_tests)

-- these tests all fail
nothing_settled : (t b : Bool) (s : Bool) (g : Bool) (cuts : List BlockCall) (f : Folder) (stamp : ℕ) → t ≡ false → b ≡ false → s ≡ true → g ≡ true
    → when t sync_calls ++ (when b cuts ++ (when (not (s && g)) (MoveMeta f stamp ∷ []) ++ when (not s) (MoveData f ∷ []))) ≡ []
nothing_settled t b s g cuts f stamp is_t is_b is_s is_g = rw (is_t, is_b, is_s, is_g) refl

still_calls : (e : Event) (o : Option ReplicaInfo) (bytes : List ℕ) → length bytes ≡ written_at o → taken_calls (replica_event.Other e) o o bytes ≡ []
still_calls e None bytes all = refl
still_calls e (Some h) bytes all =
    let f = folder_of h.original in
    nothing_settled (leaves_temporary h h) (nat_lt h.written (length bytes)) (same_folder f f) (h.stamp.0 == h.stamp.0) _ f h.stamp.0
    (never (is_temporary h.original)) (no_less h.written (length bytes) all) (itself f) (equal h.stamp.0)

-- the bytes after it
bytes_after : (r : FullReplica) (e : Event) (k : Option ReplicaInfo) → (row r (replica_event.Other e)).known.info ≡ k → (row r (replica_event.Other e)).bytes ≡ take (written_at k) r.bytes
bytes_after r e k is = ap (λ o. take (written_at o) (r.bytes ++ [])) is ∙ ap (take (written_at k)) (append-nil r.bytes)

whole : (bytes : List ℕ) (n : ℕ) → length bytes ≡ n → take n bytes ≡ bytes
whole bytes n e = ap (λ m. take m bytes) (sym e) ∙ (ap (take (length bytes)) (sym (append-nil bytes)) ∙ take-append_seam bytes [])

two_ways : {P : Type 0} (b : Bool) → b ≡ true → b ≡ false → P
two_ways b t f = absurd (cc)

unbroken : (b c : Bool) → (b ≡ true → c ≡ true) → c ≡ false → b ≡ false
unbroken true c stays f = two_ways c (stays refl) f
unbroken false c stays f = refl

-- the last sum of a replica that holds what another does
last_same : (sum : ℕ) (r s : FullReplica) → (s.known.is_broken ≡ false → r.known.is_broken ≡ false) → r.known.info ≡ s.known.info → r.bytes ≡ s.bytes → HasLastSum sum r → HasLastSum sum s
last_same sum r s back info bytes has = λ whole.
    subst (λ (x : List ℕ). IfSome s.known.info (λ h. IsLastSum h.sums sum x)) bytes (subst (λ (o : Option ReplicaInfo). IfSome o (λ h. IsLastSum h.sums sum r.bytes)) info (has (back whole)))

if_some : {P Q : Type 0} (o : Option FileMap) → (P → Q) → IfSome o (λ _. P) → IfSome o (λ _. Q)
if_some None onward p = tt
if_some (Some m) onward p = onward p

-- what is held stays with its bytes
pub still_bytes : (r : FullReplica) (e : Event) → (row r (replica_event.Other e)).known.info ≡ r.known.info → length r.bytes ≡ written_at r.known.info → (row r (replica_event.Other e)).bytes ≡ r.bytes
still_bytes r e info all = bytes_after r e r.known.info info ∙ whole r.bytes (written_at r.known.info) all

pub still_carries : {F : Type 0} (f : files.Ghosts F) (d : F) (block : BlockId) (prior : Prior) (next : Option ReplicaInfo) (sum buffer : ℕ) (a : IsAmidSettling f d block prior next sum buffer) → prior.info ≡ next
    → CarriesOut f d d block a.r (replica_event.Other a.e) (Ok sum)
still_carries f d block prior next sum buffer a same =
    let r = a.r in
    let e = replica_event.Other a.e in
    let still : r.known.info ≡ (row r e).known.info = sym a.before_is ∙ (same ∙ a.next_is) in
    let none : plan r e ≡ [] = plan_is r e a.takes ∙ (ap (λ o. taken_calls e r.known.info o r.bytes) (sym still) ∙ still_calls a.e r.known.info r.bytes a.held.full.all) in
    let bytes : (row r e).bytes ≡ r.bytes = still_bytes r a.e (sym still) a.held.full.all in
    record {
      made = record {
        strays = [];
        are = amid_strays f d block prior next sum buffer a;
        made = subst (MakesCalls (f.files d) (f.files d) (f.log d) (f.log d)) (sym (ap (λ p. calls_of r.known.block.0 p (placement_of r)) none)) (MakesCalls-none (f.files d) (f.log d));
      };
      stopped = tt;
      cause = record { never_falls = omega arith; failed = tt };
      only = a.held.only;
      last = if_some (f.files d) (last_same sum r (row r e) (unbroken r.known.is_broken (row r e).known.is_broken (stays_of r.known a.e).1) still (sym bytes)) a.held.last;
    }

-- ---- where what it held becomes another

-- the files hold what it held
pub amid_holding : {F : Type 0} (f : files.Ghosts F) (d : F) (block : BlockId) (prior : Prior) (next : Option ReplicaInfo) (sum buffer : ℕ) (a : IsAmidSettling f d block prior next sum buffer) (h : ReplicaInfo)
    → prior.info ≡ Some h → prior.is_broken ≡ false → Holding (f.files d) block h sum a.r.bytes
amid_holding f d block prior next sum buffer a h is whole =
    let r = a.r in
    let info : r.known.info ≡ Some h = sym a.before_is ∙ is in
    record {
      all = a.held.full.all ∙ ap written_at info;
      placed = subst (λ (x : BlockId). IfSome (f.files d) (λ m. m ≡ files_of x.0 (placed_info h r.bytes))) a.held.of_block
          (subst (λ (t : Bool). HoldsInfo (f.files d) r.known.block.0 (Some h) t r.bytes) (sym a.broken_is ∙ whole)
          (subst (λ (o : Option ReplicaInfo). HoldsInfo (f.files d) r.known.block.0 o r.known.is_broken r.bytes) info a.held.holds));
      last = if_some (f.files d) (λ has. subst (λ (o : Option ReplicaInfo). IfSome o (λ h. IsLastSum h.sums sum r.bytes)) info (has (sym a.broken_is ∙ whole))) a.held.last;
    }

pub amid_to_settle : {F : Type 0} (f : files.Ghosts F) (d : F) (block : BlockId) (prior : Prior) (next : Option ReplicaInfo) (sum buffer : ℕ) (a : IsAmidSettling f d block prior next sum buffer) (h k : ReplicaInfo)
    → prior.info ≡ Some h → next ≡ Some k → prior.is_broken ≡ false → IsToSettle f d block h k sum buffer
amid_to_settle f d block prior next sum buffer a h k is_before is_next whole =
    let settled = settled_some a.e prior.is_broken prior.info next h k is_before is_next (amid_settled f d block prior next sum buffer a) in
    record {
      bytes = a.r.bytes;
      holding = amid_holding f d block prior next sum buffer a h is_before whole;
      size = subst (λ (o : Option ReplicaInfo). IfSome o (λ h. IsChunkSize h.sums.chunk)) (sym a.before_is ∙ is_before) a.held.full.rule;
      within = settled.within;
      room = λ less. subst (λ (o : Option ReplicaInfo). IfSome o (λ h. HasRoomToCut (f.room d) block h buffer)) is_before (a.room (settled.cut less));
    }

if_mapped : (P : Type 0) (a b : Option FileMap) (g : FileMap → FileMap) → b ≡ option_map g a → IfSome a (λ _. P) → IfSome b (λ _. P)
if_mapped P None b g e p = subst (λ (o : Option FileMap). IfSome o (λ _. P)) (sym e) tt
if_mapped P (Some m) b g e p = subst (λ (o : Option FileMap). IfSome o (λ _. P)) (sym e) p

-- the calls of the event
amid_calls : {F : Type 0} (f : files.Ghosts F) (d : F) (block : BlockId) (prior : Prior) (next : Option ReplicaInfo) (sum buffer : ℕ) (a : IsAmidSettling f d block prior next sum buffer) (h k : ReplicaInfo)
    → prior.info ≡ Some h → next ≡ Some k → event_calls a.r (replica_event.Other a.e) [] ≡ settled_calls block h k a.r.bytes
amid_calls f d block prior next sum buffer a h k is_before is_next =
    let r = a.r in
    let e = replica_event.Other a.e in
    let info : r.known.info ≡ Some h = sym a.before_is ∙ is_before in
    let after : (row r e).known.info ≡ Some k = sym a.next_is ∙ is_next in
    ap (λ (x : BlockId). calls_of x.0 (plan r e) (placement_of r)) a.held.of_block
    ∙ (ap (λ p. calls_of block.0 p (placement_of r)) (plan_is r e a.takes ∙ (ap (λ o. taken_calls e o (row r e).known.info r.bytes) info ∙ ap (λ o. taken_calls e (Some h) o r.bytes) after))
    ∙ ap (λ o. calls_of block.0 (taken_calls e (Some h) (Some k) r.bytes) (placed_under o r.bytes)) info)

last_after : (r : FullReplica) (e : Event) (h k : ReplicaInfo) (sum : ℕ) → (row r (replica_event.Other e)).known.info ≡ Some k → k.sums ≡ h.sums → IsLastSum h.sums sum (take k.written r.bytes) → HasLastSum sum (row r (replica_event.Other e))
last_after r e h k sum after rule last = λ whole.
    subst (λ (o : Option ReplicaInfo). IfSome o (λ x. IsLastSum x.sums sum (row r (replica_event.Other e)).bytes)) (sym after)
    (subst (λ (x : List ℕ). IsLastSum k.sums sum x) (sym (bytes_after r e (Some k) after)) (subst (λ x. IsLastSum x sum (take k.written r.bytes)) (sym rule) last))

pub amid_carries : {F : Type 0} (f : files.Ghosts F) (d new : F) (block : BlockId) (prior : Prior) (next : Option ReplicaInfo) (sum buffer : ℕ) (a : IsAmidSettling f d block prior next sum buffer) (h k : ReplicaInfo) (result : Result ℕ FileError)
    → prior.info ≡ Some h → next ≡ Some k → Settles f d new block h k a.r.bytes result → CarriesOut f d new block a.r (replica_event.Other a.e) result
amid_carries f d new block prior next sum buffer a h k (Ok s) is_before is_next settles =
    let calls = sym (amid_calls f d block prior next sum buffer a h k is_before is_next) in
    let settled = settled_some a.e prior.is_broken prior.info next h k is_before is_next (amid_settled f d block prior next sum buffer a) in
    record {
      made = record {
        strays = [];
        are = amid_strays f d block prior next sum buffer a;
        made = subst (MakesCalls (f.files d) (f.files new) (f.log d) (f.log new)) calls settles.made;
      };
      stopped = tt;
      cause = settles.cause;
      only = settles.only a.held.only;
      last = if_mapped (HasLastSum s (row a.r (replica_event.Other a.e))) (f.files d) (f.files new) (run (settled_calls block h k a.r.bytes)) settles.made.files
          (if_some (f.files d) (last_after a.r a.e h k s (sym a.next_is ∙ is_next) settled.same_rule) settles.last);
    }
amid_carries f d new block prior next sum buffer a h k (Err x) is_before is_next settles =
    record {
      made = tt;
      stopped = amid [] (amid_strays f d block prior next sum buffer a)
          (subst (StopsWithin (f.files d) (f.files new) (f.log d) (f.log new)) (sym (amid_calls f d block prior next sum buffer a h k is_before is_next)) settles.stopped);
      cause = settles.cause;
      only = settles.only a.held.only;
      last = tt;
    }
