-- How far a list of calls has come.
use Rattle.std.proofs.Common.{◌≡◌, ℕ, ◌+◌, ◌<◌, ◌≤◌, false, if◌then◌else◌, List, [], ◌∷◌, length, drop, get_or, Option, Some, None, option_map, IfSome, Result, arith, refl, sym, ap, subst, ◌∙◌, add-one, add-zero, append-nil, drop-cons}
use Rattle.std.proofs.lemmas.List.{drop_all}
use Rattle.hd_base.specs.Faults.{FaultSchedule, after_one_call, FollowsSchedule}
use Rattle.hd_base.specs.FileMaps.{FileMap}
use Rattle.hd_base.specs.Calls.{Call, Log, logged, run, MakesCalls, MakesPartOf, StopsWithin}
use Rattle.hd_base.specs.declared.files.Files as files
use Rattle.file_calls.specs.declared.calls.FileCall.{FileCall}
use Rattle.file_calls.specs.Plans.{FindsFile, FindFiles, HasRoomFor, HasRoom, KeepsRoomFor, after_calls, StaysWithoutFaults, GoesOnBy}
use Rattle.file_calls.specs.FileCalls.{meant, plan}
use Rattle.file_calls.proofs.PlanLaws.{HasRoom-first, MakesCalls-join, StopsWithin-here, StopsWithin-after, FindFiles-after}

-- The first i calls were made: what is left of them finds its files and has its room, and what is made of it, whole or up to a stop, is so of all calls.
pub record IsUnderway (first now : Option FileMap) (before log : Option Log) (room : List ℕ → ℕ) (i : ℕ) (calls : List FileCall) : Type 0 where
  pub found : IfSome now (λ m. FindFiles m (plan (drop i calls)))
  pub enough : HasRoom room (plan (drop i calls))
  pub whole : (new : Option FileMap) (after : Option Log) → MakesCalls now new log after (plan (drop i calls)) → MakesCalls first new before after (plan calls)
  pub observable : now ≡ None → first ≡ None
  pub stops : (new : Option FileMap) (after : Option Log) → StopsWithin now new log after (plan (drop i calls)) → StopsWithin first new before after (plan calls)

-- what is left begins with the next call
plan-next : (calls : List FileCall) (i : ℕ) (call : FileCall) → i < length calls → call ≡ get_or calls i call → plan (drop i calls) ≡ meant call ∷ plan (drop (i + 1) calls)
plan-next calls i call within is =
    let next : drop i calls ≡ get_or calls i call ∷ drop (i + 1) calls = rw (add-one) (drop-cons calls i call within) in
    ap plan next ∙ ap (λ c. meant c ∷ plan (drop (i + 1) calls)) (sym is)

map_none : (o : Option FileMap) → o ≡ option_map (λ m. m) o
map_none None = refl
map_none (Some m) = refl

logged_none : (o : Option Log) → o ≡ option_map (logged []) o
logged_none None = refl
logged_none (Some log) = ap (λ calls. Some (record { start = log.start; calls = calls })) (sym (append-nil log.calls))

-- No calls were made.
pub MakesCalls-none : (files : Option FileMap) (log : Option Log) → MakesCalls files files log log []
MakesCalls-none files log = record { files = map_none files; log = logged_none log }

map_is_none : {A B : Type 0} (f : A → B) (o : Option A) → option_map f o ≡ None → o ≡ None
map_is_none f None e = refl
map_is_none f (Some x) e = cc

-- Nothing was made yet.
pub IsUnderway-start : (files : Option FileMap) (log : Option Log) (room : List ℕ → ℕ) (calls : List FileCall) → IfSome files (λ m. FindFiles m (plan calls)) → HasRoom room (plan calls) → IsUnderway files files log log room 0 calls
IsUnderway-start files log room calls found enough = record { found = found; enough = enough; observable = λ none. none; whole = λ new after made. made; stops = λ new after stop. stop }

finds_first : (now : Option FileMap) (call : Call) (rest : List Call) → IfSome now (λ m. FindFiles m (call ∷ rest)) → IfSome now (λ m. FindsFile m call)
finds_first None call rest found = tt
finds_first (Some m) call rest found = found.0

-- The next call finds its file.
pub IsUnderway-finds : (first now : Option FileMap) (before log : Option Log) (room : List ℕ → ℕ) (i : ℕ) (calls : List FileCall) (call : FileCall) → IsUnderway first now before log room i calls → i < length calls → call ≡ get_or calls i call → IfSome now (λ m. FindsFile m (meant call))
IsUnderway-finds first now before log room i calls call u within is =
    finds_first now (meant call) (plan (drop (i + 1) calls)) (subst (λ (p : List Call). IfSome now (λ m. FindFiles m p)) (plan-next calls i call within is) u.found)

-- The next call has its room.
pub IsUnderway-room : (first now : Option FileMap) (before log : Option Log) (room : List ℕ → ℕ) (i : ℕ) (calls : List FileCall) (call : FileCall) → IsUnderway first now before log room i calls → i < length calls → call ≡ get_or calls i call → HasRoomFor room (meant call)
IsUnderway-room first now before log room i calls call u within is =
    HasRoom-first room (meant call) (plan (drop (i + 1) calls)) (subst (λ (p : List Call). HasRoom room p) (plan-next calls i call within is) u.enough)

-- One call more was made.
pub IsUnderway-next : (first now new : Option FileMap) (before log after : Option Log) (room more : List ℕ → ℕ) (i : ℕ) (calls : List FileCall) (call : FileCall) → IsUnderway first now before log room i calls → i < length calls → call ≡ get_or calls i call → MakesCalls now new log after (meant call ∷ []) → KeepsRoomFor room more (meant call) → IsUnderway first new before after more (i + 1) calls
IsUnderway-next first now new before log after room more i calls call u within is made keeps =
    let next = plan-next calls i call within is in
    let rest : List Call = plan (drop (i + 1) calls) in
    record {
      found = FindFiles-after now new log after (meant call) rest made (subst (λ (p : List Call). IfSome now (λ m. FindFiles m p)) next u.found);
      observable = λ none. u.observable (map_is_none (run (meant call ∷ [])) now (sym made.files ∙ none));
      enough = keeps rest (subst (λ (p : List Call). HasRoom room p) next u.enough);
      whole = λ n a m. u.whole n a (subst (λ (p : List Call). MakesCalls now n log a p) (sym next) (MakesCalls-join now new n log after a (meant call ∷ []) rest made m));
      stops = λ n a s. u.stops n a (subst (λ (p : List Call). StopsWithin now n log a p) (sym next) (StopsWithin-after now new n log after a (meant call) rest made s));
    }

-- The next call failed.
pub IsUnderway-fails : (first now new : Option FileMap) (before log after : Option Log) (room : List ℕ → ℕ) (i : ℕ) (calls : List FileCall) (call : FileCall) → IsUnderway first now before log room i calls → i < length calls → call ≡ get_or calls i call → MakesPartOf now new log after (meant call) → StopsWithin first new before after (plan calls)
IsUnderway-fails first now new before log after room i calls call u within is part =
    u.stops new after (subst (λ (p : List Call). StopsWithin now new log after p) (sym (plan-next calls i call within is)) (StopsWithin-here now new log after (meant call) (plan (drop (i + 1) calls)) part))

-- All calls were made.
pub IsUnderway-ends : (first now : Option FileMap) (before log : Option Log) (room : List ℕ → ℕ) (i : ℕ) (calls : List FileCall) → IsUnderway first now before log room i calls → length calls ≤ i → MakesCalls first now before log (plan calls)
IsUnderway-ends first now before log room i calls u all =
    u.whole now log (subst (λ (p : List FileCall). MakesCalls now now log log (plan p)) (sym (drop_all i calls all)) (MakesCalls-none now log))

schedule_on : (i : ℕ) (s : FaultSchedule) → after_one_call (after_calls i s) ≡ after_calls (i + 1) s
schedule_on i s = λ j k. ap s (let e : i + (k + 1) ≡ i + 1 + k = omega arith in e) j

-- The schedule after one call more.
pub GoesOnBy-next : (i : ℕ) (a b c : Option FaultSchedule) → GoesOnBy i a b → c ≡ option_map after_one_call b → GoesOnBy (i + 1) a c
GoesOnBy-next i None b c on next = next ∙ ap (option_map after_one_call) on
GoesOnBy-next i (Some s) b c on next = next ∙ (ap (option_map after_one_call) on ∙ ap Some (schedule_on i s))

-- no call was made yet
pub GoesOnBy-none : (a : Option FaultSchedule) → GoesOnBy 0 a a
GoesOnBy-none None = refl
GoesOnBy-none (Some s) = ap Some (λ j k. ap s (let e : k ≡ 0 + k = omega arith in e) j)

pub StaysWithoutFaults-none : (a : Option FaultSchedule) (x : ℕ) → StaysWithoutFaults a 0 x x
StaysWithoutFaults-none None x = tt
StaysWithoutFaults-none (Some s) x = λ none. refl

-- The count stays at a call that isn't to fail.
pub StaysWithoutFaults-next : {T E : Type 0} (i : ℕ) (a b c : Option FaultSchedule) (x y z : ℕ) (r : Result T E) → GoesOnBy i a b → StaysWithoutFaults a i x y → FollowsSchedule b c y z r → StaysWithoutFaults a (i + 1) x z
StaysWithoutFaults-next i None b c x y z r on stays follows = tt
StaysWithoutFaults-next i (Some s) b c x y z r on stays follows = λ none.
    let due : s (i + 0) ≡ false = none (i + 0) (omega arith) in
    let counts : z ≡ y + (if s (i + 0) then 1 else 0) = rw on at follows.counts in
    let same : y ≡ x = stays (λ k within. none k (omega arith)) in
    counts ∙ (ap (λ d. y + (if d then 1 else 0)) due ∙ (add-zero y ∙ same))

-- and so it stays where none of more calls is to fail
pub StaysWithoutFaults-more : (i n : ℕ) (a : Option FaultSchedule) (x y : ℕ) → i ≤ n → StaysWithoutFaults a i x y → StaysWithoutFaults a n x y
StaysWithoutFaults-more i n None x y more stays = tt
StaysWithoutFaults-more i n (Some s) x y more stays = λ none. stays (λ k within. none k (omega arith))

-- The same with the counts and schedules of faults, at files of any kind.
pub record IsPerforming {F : Type 0} (f : files.Ghosts F) (first now : F) (i : ℕ) (calls : List FileCall) : Type 0 where
  pub progress : IsUnderway (f.files first) (f.files now) (f.log first) (f.log now) (f.room now) i calls
  pub never_falls : f.faults first ≤ f.faults now
  pub no_faults : StaysWithoutFaults (f.schedule first) i (f.faults first) (f.faults now)
  pub schedule : GoesOnBy i (f.schedule first) (f.schedule now)
