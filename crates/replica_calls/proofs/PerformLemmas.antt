-- Calls that are made on files one after another.
use Rattle.std.proofs.Common.{◌≡◌, ℕ, ◌+◌, zero, suc, List, [], ◌∷◌, ◌++◌, length, Option, Some, None, option_map, IfSome, Result, Ok, Err, OnOk, OnErr, arith, refl, sym, ap, subst, ◌∙◌, append_assoc, zero-add}
use Rattle.hd_base.specs.Faults.{HasCause}
use Rattle.hd_base.specs.FileMaps.{FileMap}
use Rattle.hd_base.specs.Calls.{Call, Make, Write, Cut, Sync, Rename, Remove, Log, effect_of, cut_short, run, stopped, MakesCalls, MakesPartOf, StopsWithin}
use Rattle.hd_base.specs.declared.files.Files as files
use Rattle.hd_base.specs.declared.files.FileError.{FileError}
use Rattle.file_calls.specs.CallCauses.{CauseOf, RoomAfter}
use Rattle.file_calls.specs.Plans.{FindsFile, FindFiles, HasRoom, NeedNoRoom}
use Rattle.file_calls.proofs.PlanLaws.{HasRoom-none, KeepsRoomFor-after, fails_with_cause, MakesCalls-join, StopsWithin-here}
use Rattle.file_calls.proofs.ProgressLaws.{MakesCalls-none}
use Rattle.replica_calls.specs.Performed.{IsReady, Performs}

-- ---- lists of calls

front_finds : (m : FileMap) (xs ys : List Call) → FindFiles m (xs ++ ys) → FindFiles m xs
front_finds m [] ys found = tt
front_finds m (x ∷ xs) ys found = (found.0, front_finds (effect_of x m) xs ys found.1)

rest_finds : (m : FileMap) (xs ys : List Call) → FindFiles m (xs ++ ys) → FindFiles (run xs m) ys
rest_finds m [] ys found = found
rest_finds m (x ∷ xs) ys found = rest_finds (effect_of x m) xs ys found.1

front_needs : (xs ys : List Call) → NeedNoRoom (xs ++ ys) → NeedNoRoom xs
front_needs [] ys none = tt
front_needs (Make name ∷ xs) ys none = none
front_needs (Write name place bytes ∷ xs) ys none = none
front_needs (Cut name len ∷ xs) ys none = front_needs xs ys none
front_needs (Sync name ∷ xs) ys none = front_needs xs ys none
front_needs (Rename from to ∷ xs) ys none = front_needs xs ys none
front_needs (Remove name ∷ xs) ys none = front_needs xs ys none

front_room : (room : List ℕ → ℕ) (xs ys : List Call) → HasRoom room (xs ++ ys) → HasRoom room xs
front_room room [] ys has = tt
front_room room (Make name ∷ xs) ys has = (has.0, front_room room xs ys has.1)
front_room room (Write name place bytes ∷ xs) ys has = (has.0, front_room room xs ys has.1)
front_room room (Cut name len ∷ xs) ys has = front_room room xs ys has
front_room room (Sync name ∷ xs) ys has = front_room room xs ys has
front_room room (Rename from to ∷ xs) ys has = front_needs xs ys has
front_room room (Remove name ∷ xs) ys has = front_room room xs ys has

-- a stop behind the first calls
stopped_after : (xs ys : List Call) (k n : ℕ) → stopped (length xs + k) n (xs ++ ys) ≡ xs ++ stopped k n ys
stopped_after [] ys k n = ap (λ i. stopped i n ys) (zero-add k)
stopped_after (x ∷ xs) ys k n =
    ap (λ i. stopped i n (x ∷ (xs ++ ys))) (let e : suc (length xs) + k ≡ suc (length xs + k) = omega arith in e)
    ∙ ap (λ l. x ∷ l) (stopped_after xs ys k n)

-- A stop in the first calls, or after them, is one in all.
abbrev StopsSo : List Call → List Call → ℕ → ℕ → Type 0
StopsSo xs ys k n = (i : ℕ) × (j : ℕ) × (stopped i j (xs ++ ys) ≡ stopped k n xs)

stopped_front : (xs ys : List Call) (k n : ℕ) → StopsSo xs ys k n
stopped_front [] [] k n = (0, 0, refl)
stopped_front [] (y ∷ ys) k n = (0, 0, refl)
stopped_front (x ∷ xs) ys zero n = (0, n, refl)
stopped_front (x ∷ xs) ys (suc k) n =
    let s = stopped_front xs ys k n in
    (suc s.0, s.1, ap (λ l. x ∷ l) s.2)

-- ---- what is ready

if_some : {A : Type 0} (P Q : A → Type 0) (o : Option A) → ((x : A) → P x → Q x) → IfSome o P → IfSome o Q
if_some P Q None onward p = tt
if_some P Q (Some x) onward p = onward x p

pub ready_front : {F : Type 0} (f : files.Ghosts F) (a : F) (xs ys : List Call) → IsReady f a (xs ++ ys) → IsReady f a xs
ready_front f a xs ys ready = record {
  found = if_some (λ m. FindFiles m (xs ++ ys)) (λ m. FindFiles m xs) (f.files a) (λ m. front_finds m xs ys) ready.found;
  enough = front_room (f.room a) xs ys ready.enough;
}

next_found : (a b : Option FileMap) (xs ys : List Call) → b ≡ option_map (run xs) a → IfSome a (λ m. FindFiles m (xs ++ ys)) → IfSome b (λ m. FindFiles m ys)
next_found None b xs ys e found = subst (λ (o : Option FileMap). IfSome o (λ m. FindFiles m ys)) (sym e) tt
next_found (Some m) b xs ys e found = subst (λ (o : Option FileMap). IfSome o (λ m. FindFiles m ys)) (sym e) (rest_finds m xs ys found)

pub ready_next : {F T : Type 0} (f : files.Ghosts F) (a b : F) (xs ys : List Call) (u : T) → IsReady f a (xs ++ ys) → Performs f a b xs (Ok u) → IsReady f b ys
ready_next f a b xs ys u ready made = record {
  found = next_found (f.files a) (f.files b) xs ys made.done.files ready.found;
  enough = made.rest ys ready.enough;
}

-- ---- what is performed

ok_err : {T : Type 0} (x : T) (e : FileError) → ◌≡◌ {A = Result T FileError} (Ok x) (Err e) → ⊥
ok_err x e same = cc

pub performs_none : {F T : Type 0} (f : files.Ghosts F) (a : F) (u : T) → Performs f a a [] (Ok u)
performs_none f a u = record {
  done = MakesCalls-none (f.files a) (f.log a);
  stopped = tt;
  cause = record { never_falls = omega arith; failed = tt };
  absent = λ e. absurd (ok_err u _ e);
  no_memory = λ e. ok_err u _ e;
  rest = λ more has. has;
}

finds_one : {F : Type 0} (f : files.Ghosts F) (a : F) (call : Call) → IsReady f a (call ∷ []) → IfSome (f.files a) (λ m. FindsFile m call)
finds_one f a call ready = if_some (λ m. FindFiles m (call ∷ [])) (λ m. FindsFile m call) (f.files a) (λ m found. found.0) ready.found

-- one call
pub performs_one : {F T : Type 0} (f : files.Ghosts F) (a b : F) (call : Call) (r : Result T FileError)
    → IsReady f a (call ∷ [])
    → OnOk r (MakesCalls (f.files a) (f.files b) (f.log a) (f.log b) (call ∷ []))
    → OnErr r (MakesPartOf (f.files a) (f.files b) (f.log a) (f.log b) call)
    → RoomAfter (f.room a) (f.room b) call r → CauseOf (f.files a) call (f.faults a) (f.faults b) r
    → Performs f a b (call ∷ []) r
performs_one f a b call (Ok u) ready made part room cause =
    let found = finds_one f a call ready in
    let fails = fails_with_cause (f.files a) call (f.faults a) (f.faults b) (Ok u) found cause in
    record {
      done = made;
      stopped = tt;
      cause = fails.cause;
      absent = fails.absent;
      no_memory = fails.no_memory;
      rest = KeepsRoomFor-after (f.room a) (f.room b) call (Ok u) room;
    }
performs_one f a b call (Err e) ready made part room cause =
    let found = finds_one f a call ready in
    let fails = fails_with_cause (f.files a) call (f.faults a) (f.faults b) (Err e) found cause in
    record {
      done = tt;
      stopped = StopsWithin-here (f.files a) (f.files b) (f.log a) (f.log b) call [] part;
      cause = fails.cause;
      absent = fails.absent;
      no_memory = fails.no_memory;
      rest = tt;
    }

-- the first calls failed
pub performs_fails : {F T U : Type 0} (f : files.Ghosts F) (a b : F) (xs ys : List Call) (e : FileError)
    → Performs {T = T} f a b xs (Err e) → Performs {T = U} f a b (xs ++ ys) (Err e)
performs_fails f a b xs ys e made =
    let stop = made.stopped in
    let whole = stopped_front xs ys stop.0 stop.1 in
    record {
      done = tt;
      stopped = (whole.0, whole.1, subst (MakesCalls (f.files a) (f.files b) (f.log a) (f.log b)) (sym whole.2) stop.2);
      cause = record { never_falls = made.cause.never_falls; failed = made.cause.failed };
      absent = λ is. made.absent (same e is);
      no_memory = λ is. made.no_memory (same e is);
      rest = tt;
    } where
      same : {T U : Type 0} (d : FileError) {g : FileError} → ◌≡◌ {A = Result U FileError} (Err d) (Err g) → ◌≡◌ {A = Result T FileError} (Err d) (Err g)
      same d is = cc

option_none : {A B : Type 0} (g : A → B) (o : Option A) → option_map g o ≡ None → o ≡ None
option_none g None e = refl
option_none g (Some x) e = cc

-- the first calls were made, and then the others, or some of them
pub performs_then : {F T U : Type 0} (f : files.Ghosts F) (a b c : F) (xs ys : List Call) (u : T) (r : Result U FileError)
    → Performs f a b xs (Ok u) → Performs f b c ys r → Performs f a c (xs ++ ys) r
performs_then f a b c xs ys u (Ok v) one two = record {
  done = MakesCalls-join (f.files a) (f.files b) (f.files c) (f.log a) (f.log b) (f.log c) xs ys one.done two.done;
  stopped = tt;
  cause = record { never_falls = omega (arith, one.cause.never_falls, two.cause.never_falls); failed = tt };
  absent = λ e. absurd (ok_err v _ e);
  no_memory = λ e. ok_err v _ e;
  rest = λ more has. two.rest more (one.rest (ys ++ more) (subst (HasRoom (f.room a)) (append_assoc xs ys more) has));
}
performs_then f a b c xs ys u (Err e) one two =
    let stop = two.stopped in
    record {
      done = tt;
      stopped = (
        length xs + stop.0,
        stop.1,
        subst (MakesCalls (f.files a) (f.files c) (f.log a) (f.log c)) (sym (stopped_after xs ys stop.0 stop.1))
            (MakesCalls-join (f.files a) (f.files b) (f.files c) (f.log a) (f.log b) (f.log c) xs (stopped stop.0 stop.1 ys) one.done stop.2),
      );
      cause = record { never_falls = omega (arith, one.cause.never_falls, two.cause.never_falls); failed = omega (arith, one.cause.never_falls, two.cause.failed) };
      absent = λ is. option_none (run xs) (f.files a) (sym one.done.files ∙ two.absent is);
      no_memory = two.no_memory;
      rest = tt;
    }
