-- Laws of lists of calls that are made one after another.
use Rattle.std.proofs.Common.{◌≡◌, ℕ, ◌≤◌, length, suc, List, [], ◌∷◌, ◌++◌, Option, Some, None, option_map, IfSome, IsSome, IsSomeAnd, Result, Ok, Err, IsErrOf, arith, refl, ap, ◌∙◌, append_assoc}
use Rattle.hd_base.specs.Faults.{HasCause}
use Rattle.hd_base.specs.FileMaps.{FileMap, KeepsRoom}
use Rattle.hd_base.specs.FileCauses.{FileCause, FaultCause}
use Rattle.hd_base.specs.declared.files.FileError.{FileError}
use Rattle.hd_base.specs.declared.files.FileError.TheVariants.{Absent, Failed, Memory}
use Rattle.file_calls.specs.CallCauses.{HasPlaceFor, CauseOf, RoomAfter}
use Rattle.hd_base.specs.Calls.{Call, Make, Write, Cut, Sync, Rename, Remove, Log, logged, run, stopped, MakesCalls, MakesPartOf, StopsWithin}
use Rattle.file_calls.specs.Plans.{HasRoom, HasRoomFor, NeedNoRoom, KeepsRoomFor, FindsFile, FindFiles}

-- Calls that need no room have any.
pub HasRoom-none : (room : List ℕ → ℕ) (calls : List Call) → NeedNoRoom calls → HasRoom room calls
HasRoom-none room [] none = tt
HasRoom-none room (Make name ∷ calls) none = absurd none
HasRoom-none room (Write name place bytes ∷ calls) none = absurd none
HasRoom-none room (Cut name len ∷ calls) none = HasRoom-none room calls none
HasRoom-none room (Sync name ∷ calls) none = HasRoom-none room calls none
HasRoom-none room (Rename from to ∷ calls) none = none
HasRoom-none room (Remove name ∷ calls) none = HasRoom-none room calls none

-- Calls have their room where each name has at least the room that it had.
pub HasRoom-kept : (old new : List ℕ → ℕ) (calls : List Call) → KeepsRoom old new → HasRoom old calls → HasRoom new calls
HasRoom-kept old new [] keeps has = tt
HasRoom-kept old new (Make name ∷ calls) keeps has = (omega (arith, keeps name, has.0), HasRoom-kept old new calls keeps has.1)
HasRoom-kept old new (Write name place bytes ∷ calls) keeps has = (omega (arith, keeps name, has.0), HasRoom-kept old new calls keeps has.1)
HasRoom-kept old new (Cut name len ∷ calls) keeps has = HasRoom-kept old new calls keeps has
HasRoom-kept old new (Sync name ∷ calls) keeps has = HasRoom-kept old new calls keeps has
HasRoom-kept old new (Rename from to ∷ calls) keeps has = has
HasRoom-kept old new (Remove name ∷ calls) keeps has = HasRoom-kept old new calls keeps has

-- what stands behind a call has its room, where each name keeps its own
pub KeepsRoomFor-kept : (old new : List ℕ → ℕ) (call : Call) → KeepsRoom old new → KeepsRoomFor old new call
KeepsRoomFor-kept old new (Make name) keeps rest has = HasRoom-kept old new rest keeps has.1
KeepsRoomFor-kept old new (Write name place bytes) keeps rest has = HasRoom-kept old new rest keeps has.1
KeepsRoomFor-kept old new (Cut name len) keeps rest has = HasRoom-kept old new rest keeps has
KeepsRoomFor-kept old new (Sync name) keeps rest has = HasRoom-kept old new rest keeps has
KeepsRoomFor-kept old new (Rename from to) keeps rest has = HasRoom-none new rest has
KeepsRoomFor-kept old new (Remove name) keeps rest has = HasRoom-kept old new rest keeps has

-- what stands behind a call has its room after it
pub KeepsRoomFor-after : {T : Type 0} (old new : List ℕ → ℕ) (call : Call) (result : Result T FileError) → RoomAfter old new call result → KeepsRoomFor old new call
KeepsRoomFor-after old new (Make name) result room = KeepsRoomFor-kept old new (Make name) room
KeepsRoomFor-after old new (Write name place bytes) result room = KeepsRoomFor-kept old new (Write name place bytes) room
KeepsRoomFor-after old new (Cut name len) result room = KeepsRoomFor-kept old new (Cut name len) room
KeepsRoomFor-after old new (Sync name) result room = KeepsRoomFor-kept old new (Sync name) room
KeepsRoomFor-after old new (Rename from to) result room = λ rest has. HasRoom-none new rest has
KeepsRoomFor-after old new (Remove name) result room = KeepsRoomFor-kept old new (Remove name) room

place_found : (files : FileMap) (name : List ℕ) (place : ℕ) → IsSomeAnd (files name) (λ b. place ≤ length b) → IfSome (files name) (λ b. place ≤ length b)
place_found files name place found = within (files name) found where
  within : (file : Option (List ℕ)) → IsSomeAnd file (λ b. place ≤ length b) → IfSome file (λ b. place ≤ length b)
  within None found = tt
  within (Some b) found = found

-- A call that finds its file finds its place.
pub HasPlaceFor-found : (files : Option FileMap) (call : Call) → IfSome files (λ m. FindsFile m call) → HasPlaceFor files call
HasPlaceFor-found files (Make name) found = tt
HasPlaceFor-found None (Write name place bytes) found = tt
HasPlaceFor-found (Some m) (Write name place bytes) found = place_found m name place found
HasPlaceFor-found None (Cut name len) found = tt
HasPlaceFor-found (Some m) (Cut name len) found = place_found m name len found
HasPlaceFor-found files (Sync name) found = tt
HasPlaceFor-found files (Rename from to) found = tt
HasPlaceFor-found files (Remove name) found = tt

-- A call that finds its file fails only where the count rose; it never answers Memory, and Absent only where files aren't observable.
pub record FailsWithCause {T : Type 0} (files : Option FileMap) (before now : ℕ) (result : Result T FileError) : Type 0 where
  pub cause : HasCause before now result
  pub absent : IsErrOf result Absent → files ≡ None
  pub no_memory : IsErrOf result Memory → ⊥

by_fault : {T : Type 0} (files : Option FileMap) (before now : ℕ) (result : Result T FileError) → FaultCause before now result → FailsWithCause files before now result
by_fault files before now (Ok x) cause = record { cause = record { never_falls = cause.never_falls; failed = tt }; absent = λ e. absurd (cause.no_absent e); no_memory = cause.no_memory }
by_fault files before now (Err Absent) cause = absurd (cause.no_absent refl)
by_fault files before now (Err Failed) cause = record { cause = record { never_falls = cause.never_falls; failed = cause.failed refl }; absent = λ e. absurd (cause.no_absent e); no_memory = cause.no_memory }
by_fault files before now (Err Memory) cause = absurd (cause.no_memory refl)

none_some : (file : Option (List ℕ)) → file ≡ None → IsSome file → ⊥
none_some None e some = cc
none_some (Some b) e some = cc

ok_err : {T : Type 0} (x : T) (e : FileError) → ◌≡◌ {A = Result T FileError} (Ok x) (Err e) → ⊥
ok_err x e same = cc

failed_absent : {T : Type 0} → ◌≡◌ {A = Result T FileError} (Err Failed) (Err Absent) → ⊥
failed_absent same = cc

by_file : {T : Type 0} (files : Option FileMap) (name : List ℕ) (before now : ℕ) (result : Result T FileError) → IfSome files (λ m. IsSome (m name)) → FileCause files name before now result → FailsWithCause files before now result
by_file files name before now (Ok x) found cause = record { cause = record { never_falls = cause.never_falls; failed = tt }; absent = λ e. absurd (ok_err x Absent e); no_memory = cause.no_memory }
by_file None name before now (Err Absent) found cause = record { cause = record { never_falls = cause.never_falls; failed = cause.absent refl }; absent = λ e. refl; no_memory = cause.no_memory }
by_file (Some m) name before now (Err Absent) found cause = absurd (none_some (m name) (cause.absent refl) found)
by_file files name before now (Err Failed) found cause = record { cause = record { never_falls = cause.never_falls; failed = cause.failed refl }; absent = λ e. absurd (failed_absent e); no_memory = cause.no_memory }
by_file files name before now (Err Memory) found cause = absurd (cause.no_memory refl)

some_and : (file : Option (List ℕ)) (P : List ℕ → Type 0) → IsSomeAnd file P → IsSome file
some_and None P some = absurd some
some_and (Some b) P some = refl

some_file : (files : Option FileMap) (name : List ℕ) (place : ℕ) → IfSome files (λ m. IsSomeAnd (m name) (λ b. place ≤ length b)) → IfSome files (λ m. IsSome (m name))
some_file None name place found = tt
some_file (Some m) name place found = some_and (m name) (λ b. place ≤ length b) found

pub fails_with_cause : {T : Type 0} (files : Option FileMap) (call : Call) (before now : ℕ) (result : Result T FileError) → IfSome files (λ m. FindsFile m call) → CauseOf files call before now result → FailsWithCause files before now result
fails_with_cause files (Make name) before now result found cause = by_fault files before now result cause
fails_with_cause files (Write name place bytes) before now result found cause = by_file files name before now result (some_file files name place found) cause
fails_with_cause files (Cut name len) before now result found cause = by_file files name before now result (some_file files name len found) cause
fails_with_cause files (Sync name) before now result found cause = by_file files name before now result found cause
fails_with_cause files (Rename from to) before now result found cause = by_file files from before now result found cause
fails_with_cause files (Remove name) before now result found cause = by_file files name before now result found cause

pub HasRoom-first : (room : List ℕ → ℕ) (call : Call) (rest : List Call) → HasRoom room (call ∷ rest) → HasRoomFor room call
HasRoom-first room (Make name) rest has = has.0
HasRoom-first room (Write name place bytes) rest has = has.0
HasRoom-first room (Cut name len) rest has = tt
HasRoom-first room (Sync name) rest has = tt
HasRoom-first room (Rename from to) rest has = tt
HasRoom-first room (Remove name) rest has = tt

map_through : {A B C : Type 0} (f : A → B) (g : B → C) (h : A → C) → ((x : A) → g (f x) ≡ h x) → (o : Option A) → option_map g (option_map f o) ≡ option_map h o
map_through f g h same None = refl
map_through f g h same (Some x) = ap Some (same x)

-- Calls, and then more calls.
run-append : (first rest : List Call) (files : FileMap) → run rest (run first files) ≡ run (first ++ rest) files
run-append [] rest files = refl
run-append (call ∷ first) rest files = run-append first rest _

logged-append : (first rest : List Call) (log : Log) → logged rest (logged first log) ≡ logged (first ++ rest) log
logged-append first rest log = ap (λ calls. record { start = log.start; calls = calls }) (append_assoc log.calls first rest)

pub MakesCalls-join : (a b c : Option FileMap) (x y z : Option Log) (first rest : List Call) → MakesCalls a b x y first → MakesCalls b c y z rest → MakesCalls a c x z (first ++ rest)
MakesCalls-join a b c x y z first rest one two = record {
  files = two.files ∙ (ap (option_map (run rest)) one.files ∙ map_through (run first) (run rest) (run (first ++ rest)) (run-append first rest) a);
  log = two.log ∙ (ap (option_map (logged rest)) one.log ∙ map_through (logged first) (logged rest) (logged (first ++ rest)) (logged-append first rest) x);
}

-- Of the first call what may be done of one that failed.
pub StopsWithin-here : (a b : Option FileMap) (x y : Option Log) (call : Call) (rest : List Call) → MakesPartOf a b x y call → StopsWithin a b x y (call ∷ rest)
StopsWithin-here a b x y call rest part = (0, part.0, part.1)

-- The first call, and a stop in the others.
pub StopsWithin-after : (a b c : Option FileMap) (x y z : Option Log) (call : Call) (rest : List Call) → MakesCalls a b x y (call ∷ []) → StopsWithin b c y z rest → StopsWithin a c x z (call ∷ rest)
StopsWithin-after a b c x y z call rest one stop =
    (suc stop.0, stop.1, MakesCalls-join a b c x y z (call ∷ []) (stopped stop.0 stop.1 rest) one stop.2)

none_map : {A B : Type 0} (f : A → B) → option_map f None ≡ None
none_map f = refl

-- What is left of the calls finds its files after the first call.
pub FindFiles-after : (old new : Option FileMap) (before now : Option Log) (call : Call) (rest : List Call) → MakesCalls old new before now (call ∷ []) → IfSome old (λ m. FindFiles m (call ∷ rest)) → IfSome new (λ m. FindFiles m rest)
FindFiles-after None new before now call rest one found = let e : new ≡ None = one.files in rw e tt
FindFiles-after (Some m) new before now call rest one found = let e : new ≡ Some (run (call ∷ []) m) = one.files in rw e found.1
