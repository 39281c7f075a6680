-- The calls that settle what a replica holds: that they may be made, and that they are those of its event.
use Rattle.std.proofs.Common.{◌≡◌, ℕ, ◌+◌, ◌*◌, ◌/◌, ◌<◌, ◌≤◌, ◌^◌, List, [], ◌∷◌, ◌++◌, length, take, append-nil, Option, Some, None, option_map, IfSome, Result, Ok, Err, OnOk, OnErr, refl, sym, ap, subst, ◌∙◌, arith}
use Rattle.std.specs.Result.{IfOk}
use Rattle.std.proofs.lemmas.Nat.{le-div}
use Rattle.std.proofs.Math.Nat.{div-mul-le_self}
use Rattle.hd_base.specs.Faults.{HasCause}
use Rattle.hd_base.specs.FileMaps.{FileMap, OnlyOf}
use Rattle.hd_base.specs.Calls.{Call, Log, LogMakesFiles, run, logged, stopped, MakesCalls, StopsWithin}
use Rattle.hd_base.specs.SumRules.{Rule, IsChunkSize}
use Rattle.hd_base.specs.declared.numbers.BlockId.{BlockId}
use Rattle.hd_base.proofs.FileLaws.{bytes_eq-same}
use Rattle.hd_base.specs.declared.files.Files as files
use Rattle.hd_base.specs.declared.files.FileError.{FileError}
use Rattle.file_calls.specs.Plans.{FindFiles}
use Rattle.block_files.specs.Placements.{Both, files_of, data_name}
use Rattle.block_files.specs.BlockCalls.{AreAble, calls_of}
use Rattle.block_files.proofs.PlacementLaws.{calls_find_files}
use Rattle.replica_core.specs.declared.info.ReplicaInfo.{ReplicaInfo}
use Rattle.replica_core.specs.declared.events.Event.TheVariants as event
use Rattle.replica_model.specs.Sums.{meta_of, sum_place}
use Rattle.replica_model.specs.Plans.{folder_of, placed_info, when, sync_calls, settle_calls, leaves_temporary}
use Rattle.replica_model.proofs.PlacementLemmas.{leads_append, leads_when, leads_sync, leads_move, leads_cut}
use Rattle.replica_calls.specs.CallLists.{names_of, settle_list}
use Rattle.replica_calls.specs.LastSums.{IsLastSum}
use Rattle.replica_calls.specs.Performed.{IsReady, Performs, KeepsAll}
use Rattle.replica_calls.proofs.ListLemmas.{settling_follows_plans, settling_has_room}
use Rattle.replica_files.specs.Carried.{Holding, IsToSettle, Settles, settled_calls}
use Rattle.replica_files.proofs.OnlyLemmas.{only_made, only_stopped, names_are, settle_stays}

-- ---- calls by another list, which is the same where files are observable

-- All were made, or one failed.
pub record Carries {F T : Type 0} (f : files.Ghosts F) (old new : F) (calls : List Call) (result : Result T FileError) : Type 0 where
  pub made : OnOk result (MakesCalls (f.files old) (f.files new) (f.log old) (f.log new) calls)
  pub stopped : OnErr result (StopsWithin (f.files old) (f.files new) (f.log old) (f.log new) calls)
  pub cause : HasCause (f.faults old) (f.faults new) result

no_log : (log : Option Log) (files : Option FileMap) → files ≡ None → LogMakesFiles log files → log ≡ None
no_log None files e makes = refl
no_log (Some l) files e makes = absurd (none_some (sym e ∙ makes)) where
  none_some : {A : Type 0} {x : A} → ◌≡◌ {A = Option A} None (Some x) → ⊥
  none_some e = cc

made_unseen : (a b : Option FileMap) (x y : Option Log) (calls other : List Call) → a ≡ None → LogMakesFiles x a → MakesCalls a b x y calls → MakesCalls a b x y other
made_unseen a b x y calls other none makes made =
    let quiet = no_log x a none makes in
    record {
      files = made.files ∙ ap (option_map (run calls)) none ∙ ap (option_map (run other)) (sym none);
      log = made.log ∙ ap (option_map (logged calls)) quiet ∙ ap (option_map (logged other)) (sym quiet);
    }

stops_unseen : (a b : Option FileMap) (x y : Option Log) (calls other : List Call) → a ≡ None → LogMakesFiles x a → StopsWithin a b x y calls → StopsWithin a b x y other
stops_unseen a b x y calls other none makes stop = (0, 0, made_unseen a b x y (stopped stop.0 stop.1 calls) (stopped 0 0 other) none makes stop.2)

made_as : (files : Option FileMap) (b : Option FileMap) (x y : Option Log) (calls other : List Call) → IfSome files (λ _. calls ≡ other) → LogMakesFiles x files → MakesCalls files b x y calls → MakesCalls files b x y other
made_as None b x y calls other same makes made = made_unseen None b x y calls other refl makes made
made_as (Some m) b x y calls other same makes made = subst (MakesCalls (Some m) b x y) same made

stops_as : (files : Option FileMap) (b : Option FileMap) (x y : Option Log) (calls other : List Call) → IfSome files (λ _. calls ≡ other) → LogMakesFiles x files → StopsWithin files b x y calls → StopsWithin files b x y other
stops_as None b x y calls other same makes made = stops_unseen None b x y calls other refl makes made
stops_as (Some m) b x y calls other same makes made = subst (StopsWithin (Some m) b x y) same made

pub carries_as : {F T : Type 0} (f : files.Ghosts F) (a b : F) (calls other : List Call) (r : Result T FileError) → IfSome (f.files a) (λ _. calls ≡ other) → LogMakesFiles (f.log a) (f.files a)
    → Performs f a b calls r → Carries f a b other r
carries_as f a b calls other (Ok u) same makes made =
    record { made = made_as (f.files a) (f.files b) (f.log a) (f.log b) calls other same makes made.done; stopped = tt; cause = made.cause }
carries_as f a b calls other (Err e) same makes made =
    record { made = tt; stopped = stops_as (f.files a) (f.files b) (f.log a) (f.log b) calls other same makes made.stopped; cause = made.cause }

-- ---- what is held, and what is held next

-- The calls find the files where they lie.
settle_able : (h k : ReplicaInfo) (bytes : List ℕ) → IsChunkSize h.sums.chunk → length bytes ≡ h.written → k.written ≤ h.written
    → AreAble (placed_info h bytes) (when (leaves_temporary h k) sync_calls ++ settle_calls h k bytes)
settle_able h k bytes size all within =
    let f = folder_of h.original in
    let from = placed_info h bytes in
    let left = take k.written bytes in
    let cut = Both f left f h.stamp.0 (meta_of h.sums left) in
    let there = Both (folder_of k.original) left (folder_of k.original) k.stamp.0 (meta_of h.sums left) in
    (leads_append (when (leaves_temporary h k) sync_calls) (settle_calls h k bytes) from from there
    (leads_when (leaves_temporary h k) sync_calls from from (λ _. leads_sync f f bytes (meta_of h.sums bytes) h.stamp.0) (λ _. refl))
    (leads_append _ _ from cut there
    (leads_cut h.sums bytes k.written f f h.stamp.0 (omega (arith, size.least)) (omega (arith, all, within)))
    (leads_move f (folder_of k.original) left (meta_of h.sums left) h.stamp.0 k.stamp.0))).able

-- The list by names is that of the event.
pub settle_named : (block : ℕ) (h k : ReplicaInfo) (bytes : List ℕ) (sum : ℕ) → IsChunkSize h.sums.chunk → length bytes ≡ h.written → k.written ≤ h.written → IsLastSum h.sums sum (take k.written bytes)
    → settle_list (names_of block h) (names_of block k) h k sum ≡ calls_of block (when (leaves_temporary h k) sync_calls ++ settle_calls h k bytes) (placed_info h bytes)
settle_named block h k bytes sum size all within last =
    sym (settling_follows_plans block event.FileFault h k bytes sum (omega (arith, size.least)) all within last)

settle_found : (files : Option FileMap) (block : ℕ) (h k : ReplicaInfo) (bytes : List ℕ) (sum : ℕ) → block < 2 ^ 64 → IsChunkSize h.sums.chunk → length bytes ≡ h.written → k.written ≤ h.written
    → IfSome files (λ m. m ≡ files_of block (placed_info h bytes)) → IfSome files (λ _. IsLastSum h.sums sum (take k.written bytes))
    → IfSome files (λ m. FindFiles m (settle_list (names_of block h) (names_of block k) h k sum))
settle_found None block h k bytes sum fits size all within placed last = tt
settle_found (Some m) block h k bytes sum fits size all within placed last =
    subst (λ (x : FileMap). FindFiles x (settle_list (names_of block h) (names_of block k) h k sum)) (sym placed)
    (subst (FindFiles (files_of block (placed_info h bytes))) (sym (settle_named block h k bytes sum size all within last))
    (calls_find_files block (when (leaves_temporary h k) sync_calls ++ settle_calls h k bytes) (placed_info h bytes) fits (settle_able h k bytes size all within)))

pub settle_ready : {F : Type 0} (f : files.Ghosts F) (old a : F) (block : ℕ) (h k : ReplicaInfo) (bytes : List ℕ) (sum : ℕ) → block < 2 ^ 64 → IsChunkSize h.sums.chunk → length bytes ≡ h.written → k.written ≤ h.written
    → IfSome (f.files old) (λ m. m ≡ files_of block (placed_info h bytes)) → IfSome (f.files old) (λ _. IsLastSum h.sums sum (take k.written bytes)) → KeepsAll f old a
    → (k.written < h.written → sum_place h.sums k.written + 4 < f.room old (names_of block h).meta)
    → IsReady f a (settle_list (names_of block h) (names_of block k) h k sum)
settle_ready f old a block h k bytes sum fits size all within placed last kept room =
    record {
      found = subst (λ (o : Option FileMap). IfSome o (λ m. FindFiles m (settle_list (names_of block h) (names_of block k) h k sum))) (sym kept.same)
          (settle_found (f.files old) block h k bytes sum fits size all within placed last);
      enough = settling_has_room (f.room a) (names_of block h) (names_of block k) h k sum (λ less. more (room less) (kept.room (names_of block h).meta));
    } where
      more : {x y z : ℕ} → x < y → y ≤ z → x < z
      more less at = omega (arith, less, at)

-- ---- what was performed from files that were only read before

keeps_files : {F : Type 0} (P : Option FileMap → Type 0) (f : files.Ghosts F) (old mid : F) → KeepsAll f old mid → P (f.files mid) → P (f.files old)
keeps_files P f old mid kept p = subst P kept.same p

made_from : {F : Type 0} (f : files.Ghosts F) (old mid new : F) (calls : List Call) → KeepsAll f old mid → MakesCalls (f.files mid) (f.files new) (f.log mid) (f.log new) calls → MakesCalls (f.files old) (f.files new) (f.log old) (f.log new) calls
made_from f old mid new calls kept made = record { files = made.files ∙ ap (option_map (run calls)) kept.same; log = made.log ∙ ap (option_map (logged calls)) kept.log }

carries_from : {F T : Type 0} (f : files.Ghosts F) (old mid new : F) (calls : List Call) (r : Result T FileError) → KeepsAll f old mid → f.faults old ≤ f.faults mid → Carries f mid new calls r → Carries f old new calls r
carries_from f old mid new calls (Ok u) kept below made =
    record {
      made = made_from f old mid new calls kept made.made;
      stopped = tt;
      cause = record { never_falls = omega (arith, below, made.cause.never_falls); failed = tt };
    }
carries_from f old mid new calls (Err e) kept below made =
    let stop = made.stopped in
    record {
      made = tt;
      stopped = (stop.0, stop.1, made_from f old mid new (stopped stop.0 stop.1 calls) kept stop.2);
      cause = record { never_falls = omega (arith, below, made.cause.never_falls); failed = omega (arith, below, made.cause.failed) };
    }

nothing_made : {F : Type 0} (f : files.Ghosts F) (old new : F) → KeepsAll f old new → MakesCalls (f.files old) (f.files new) (f.log old) (f.log new) []
nothing_made f old new kept = record { files = kept.same ∙ map_none (f.files old); log = kept.log ∙ map_log (f.log old) } where
  map_none : (o : Option FileMap) → o ≡ option_map (run []) o
  map_none None = refl
  map_none (Some m) = refl

  map_log : (o : Option Log) → o ≡ option_map (logged []) o
  map_log None = refl
  map_log (Some l) = ap Some (ap (λ (x : List Call). record { start = l.start; calls = x }) (sym (append-nil l.calls)))

stops_before : {F : Type 0} (f : files.Ghosts F) (old new : F) (calls : List Call) → KeepsAll f old new → StopsWithin (f.files old) (f.files new) (f.log old) (f.log new) calls
stops_before f old new [] kept = (0, 0, nothing_made f old new kept)
stops_before f old new (call ∷ calls) kept = (0, 0, nothing_made f old new kept)

-- ---- settling from what the files hold

-- where a sum stands grows with the bytes
sum_place_within : (r : Rule) (n m : ℕ) → 1 ≤ r.chunk → n ≤ m → sum_place r n ≤ sum_place r m
sum_place_within r n m some within =
    let less : n / r.chunk ≤ m / r.chunk = le-div (n / r.chunk) m r.chunk some (let at : n / r.chunk * r.chunk ≤ m = omega (arith, div-mul-le_self n r.chunk, within) in at) in
    omega (arith, less)

-- the sum of the bytes that are left, which were read
pub sum_is : (files : Option FileMap) (block : BlockId) (h : ReplicaInfo) (n sum : ℕ) (name : List ℕ) (r : Result ℕ FileError) → name ≡ (names_of block.0 h).«data» → n ≤ h.written
    → IfOk r (λ s. (m : FileMap) (bytes : List ℕ) → files ≡ Some m → m name ≡ Some bytes → n ≤ length bytes → IsLastSum h.sums s (take n bytes))
    → IfOk r (λ s. (bytes : List ℕ) → Holding files block h sum bytes → IfSome files (λ _. IsLastSum h.sums s (take n bytes)))
sum_is files block h n sum name (Err e) is within value = tt
sum_is None block h n sum name (Ok s) is within value = λ bytes holding. tt
sum_is (Some m) block h n sum name (Ok s) is within value = λ bytes holding. value m bytes refl (there bytes holding) (omega (arith, holding.all, within)) where
  itself : (bytes : List ℕ) → files_of block.0 (placed_info h bytes) (data_name (folder_of h.original) block.0) ≡ Some bytes
  itself bytes = rw (bytes_eq-same (data_name (folder_of h.original) block.0)) refl

  there : (bytes : List ℕ) → Holding (Some m) block h sum bytes → m name ≡ Some bytes
  there bytes holding = ap m is ∙ ap (λ (x : FileMap). x (data_name (folder_of h.original) block.0)) holding.placed ∙ itself bytes

pub to_settle_ready : {F : Type 0} (f : files.Ghosts F) (old a : F) (block : BlockId) (h k : ReplicaInfo) (sum buffer next_sum : ℕ) → block.0 < 2 ^ 64 → (s : IsToSettle f old block h k sum buffer)
    → KeepsAll f old a → IfSome (f.files old) (λ _. IsLastSum h.sums next_sum (take k.written s.bytes)) → IsReady f a (settle_list (names_of block.0 h) (names_of block.0 k) h k next_sum)
to_settle_ready f old a block h k sum buffer next_sum fits s kept last =
    settle_ready f old a block.0 h k s.bytes next_sum fits s.size s.holding.all s.within s.holding.placed last kept
    (λ less. lower (sum_place_within h.sums k.written h.written (omega (arith, s.size.least)) s.within) (s.room less).sums) where
      lower : {x y z : ℕ} → x ≤ y → y + 4 < z → x + 4 < z
      lower at less = omega (arith, at, less)

-- the list by names, where observable
named_where : (files : Option FileMap) (block : BlockId) (h k : ReplicaInfo) (sum next_sum : ℕ) (bytes : List ℕ) → IsChunkSize h.sums.chunk → k.written ≤ h.written → Holding files block h sum bytes
    → IfSome files (λ _. IsLastSum h.sums next_sum (take k.written bytes)) → IfSome files (λ _. settle_list (names_of block.0 h) (names_of block.0 k) h k next_sum ≡ settled_calls block h k bytes)
named_where None block h k sum next_sum bytes size within holding last = tt
named_where (Some m) block h k sum next_sum bytes size within holding last = settle_named block.0 h k bytes next_sum size holding.all within last

-- the sum wasn't read
pub settles_unread : {F : Type 0} (f : files.Ghosts F) (old new : F) (block : BlockId) (h k : ReplicaInfo) (bytes : List ℕ) (e : FileError) → KeepsAll f old new → HasCause {T = ℕ} (f.faults old) (f.faults new) (Err e)
    → Settles f old new block h k bytes (Err e)
settles_unread f old new block h k bytes e kept cause =
    record {
      made = tt;
      stopped = stops_before f old new (settled_calls block h k bytes) kept;
      cause = cause;
      only = λ only. subst (OnlyOf block.0) (sym kept.same) only;
      last = tt;
    }

-- What settling was from files that were only read before.
pub record Settling {F T : Type 0} (f : files.Ghosts F) (old mid new : F) (block : BlockId) (h k : ReplicaInfo) (sum buffer next_sum : ℕ) (r : Result T FileError) : Type 0 where
  pub fits : block.0 < 2 ^ 64
  pub stamp : k.stamp.0 < 2 ^ 64
  pub to_settle : IsToSettle f old block h k sum buffer
  pub kept : KeepsAll f old mid
  pub below : f.faults old ≤ f.faults mid
  pub log : LogMakesFiles (f.log old) (f.files old)
  pub last : (bytes : List ℕ) → Holding (f.files old) block h sum bytes → IfSome (f.files old) (λ _. IsLastSum h.sums next_sum (take k.written bytes))
  pub performed : Performs f mid new (settle_list (names_of block.0 h) (names_of block.0 k) h k next_sum) r

planned : {F T : Type 0} (f : files.Ghosts F) (old mid new : F) (block : BlockId) (h k : ReplicaInfo) (sum buffer next_sum : ℕ) (r : Result T FileError) (bytes : List ℕ)
    → Settling f old mid new block h k sum buffer next_sum r → Holding (f.files old) block h sum bytes → Carries f old new (settled_calls block h k bytes) r
planned f old mid new block h k sum buffer next_sum r bytes s holding =
    let list = settle_list (names_of block.0 h) (names_of block.0 k) h k next_sum in
    let same = named_where (f.files old) block h k sum next_sum bytes s.to_settle.size s.to_settle.within holding (s.last bytes holding) in
    carries_from f old mid new (settled_calls block h k bytes) r s.kept s.below
    (carries_as f mid new list (settled_calls block h k bytes) r
    (subst (λ (o : Option FileMap). IfSome o (λ _. list ≡ settled_calls block h k bytes)) (sym s.kept.same) same)
    (subst (λ (o : Option FileMap). LogMakesFiles (f.log mid) o) (sym s.kept.same) (subst (λ (l : Option Log). LogMakesFiles l (f.files old)) (sym s.kept.log) s.log))
    s.performed)

pub settles_failed : {F T : Type 0} (f : files.Ghosts F) (old mid new : F) (block : BlockId) (h k : ReplicaInfo) (sum buffer next_sum : ℕ) (e : FileError) (bytes : List ℕ)
    → Settling {T = T} f old mid new block h k sum buffer next_sum (Err e) → Holding (f.files old) block h sum bytes → Settles f old new block h k bytes (Err e)
settles_failed f old mid new block h k sum buffer next_sum e bytes s holding =
    let by = planned f old mid new block h k sum buffer next_sum (Err e) bytes s holding in
    let list = settle_list (names_of block.0 h) (names_of block.0 k) h k next_sum in
    record {
      made = tt;
      stopped = by.stopped;
      cause = record { never_falls = by.cause.never_falls; failed = by.cause.failed };
      only = λ only. only_stopped block.0 (f.files mid) (f.files new) (f.log mid) (f.log new) list (settle_stays block.0 _ _ h k next_sum (names_are block.0 k s.fits s.stamp)) s.performed.stopped
          (subst (OnlyOf block.0) (sym s.kept.same) only);
      last = tt;
    }

pub settles_made : {F T : Type 0} (f : files.Ghosts F) (old mid new : F) (block : BlockId) (h k : ReplicaInfo) (sum buffer next_sum : ℕ) (u : T) (bytes : List ℕ)
    → Settling f old mid new block h k sum buffer next_sum (Ok u) → Holding (f.files old) block h sum bytes → Settles f old new block h k bytes (Ok next_sum)
settles_made f old mid new block h k sum buffer next_sum u bytes s holding =
    let by = planned f old mid new block h k sum buffer next_sum (Ok u) bytes s holding in
    let list = settle_list (names_of block.0 h) (names_of block.0 k) h k next_sum in
    record {
      made = by.made;
      stopped = tt;
      cause = record { never_falls = by.cause.never_falls; failed = tt };
      only = λ only. only_made block.0 (f.files mid) (f.files new) (f.log mid) (f.log new) list (settle_stays block.0 _ _ h k next_sum (names_are block.0 k s.fits s.stamp)) s.performed.done
          (subst (OnlyOf block.0) (sym s.kept.same) only);
      last = s.last bytes holding;
    }
