-- Calls on files that aren't mere reads, as data: what each makes of the files, what of it may be done where it fails, and the log of all that were made.
use Rattle.std.specs.Prelude.{◌≡◌, ℕ, zero, suc, List, [], ◌∷◌, ◌++◌, take, Option, Some, option_map, IfSome}
use Rattle.hd_base.specs.FileMaps.{FileMap, put, without, changed, moved, overwritten}

-- a call, with the names and bytes that it was given
pub data Call : Type 0 where
  Make : (name : List ℕ) → Call
  Write : (name : List ℕ) → (place : ℕ) → (bytes : List ℕ) → Call
  Cut : (name : List ℕ) → (len : ℕ) → Call
  Sync : (name : List ℕ) → Call
  Rename : (from : List ℕ) → (to : List ℕ) → Call
  Remove : (name : List ℕ) → Call

-- the files after a call; a sync changes none
abbrev pub effect_of : Call → FileMap → FileMap
effect_of (Make name) files = put files name []
effect_of (Write name place bytes) files = changed files name (λ b. overwritten b place bytes)
effect_of (Cut name len) files = changed files name (take len)
effect_of (Sync name) files = files
effect_of (Rename from to) files = moved files from to
effect_of (Remove name) files = without files name

-- the files after some calls, in their order
abbrev pub run : List Call → FileMap → FileMap
run [] files = files
run (call ∷ calls) files = run calls (effect_of call files)

-- What may be done of a call that failed: with 0 nothing, with n + 1 the first n bytes of a write, and all of another call.
abbrev pub cut_short : ℕ → Call → List Call
cut_short zero call = []
cut_short (suc n) (Make name) = Make name ∷ []
cut_short (suc n) (Write name place bytes) = Write name place (take n bytes) ∷ []
cut_short (suc n) (Cut name len) = Cut name len ∷ []
cut_short (suc n) (Sync name) = Sync name ∷ []
cut_short (suc n) (Rename from to) = Rename from to ∷ []
cut_short (suc n) (Remove name) = Remove name ∷ []

-- What is done of some calls where the call number k (from 0) fails and is cut short by n; all of them where there is no such call.
abbrev pub stopped : ℕ → ℕ → List Call → List Call
stopped k n [] = []
stopped zero n (call ∷ calls) = cut_short n call
stopped (suc k) n (call ∷ calls) = call ∷ stopped k n calls

-- The files at a start, which were then wholly on the disk, and the calls made since, in their order.
pub record Log : Type 0 where
  pub start : FileMap
  pub calls : List Call

-- the log after more calls
abbrev pub logged : List Call → Log → Log
logged calls log = record { start = log.start; calls = log.calls ++ calls }

-- Where the log is observable, it now has this call more.
abbrev pub Logs : Option Log → Option Log → Call → Type 0
Logs before now call = now ≡ option_map (logged (call ∷ [])) before

-- Where the files are observable, these calls were made on them; where the log is, it has just these more.
pub record MakesCalls (old new : Option FileMap) (before now : Option Log) (calls : List Call) : Type 0 where
  pub files : new ≡ option_map (run calls) old
  pub log : now ≡ option_map (logged calls) before

-- Neither the files nor the log have changed, where they are observable.
pub record IsUnchanged (old new : Option FileMap) (before now : Option Log) : Type 0 where
  pub files : new ≡ old
  pub log : now ≡ before

-- A call that failed: what may be done of it, and the same in the log.
abbrev pub MakesPartOf : Option FileMap → Option FileMap → Option Log → Option Log → Call → Type 0
MakesPartOf old new before now call = (n : ℕ) × MakesCalls old new before now (cut_short n call)

-- Calls of which one failed: those before it, and what may be done of it.
abbrev pub StopsWithin : Option FileMap → Option FileMap → Option Log → Option Log → List Call → Type 0
StopsWithin old new before now calls = (k : ℕ) × (n : ℕ) × MakesCalls old new before now (stopped k n calls)

-- Where the log is observable, its calls make of the files at its start the files as they are.
abbrev pub LogMakesFiles : Option Log → Option FileMap → Type 0
LogMakesFiles log files = IfSome log (λ l. files ≡ Some (run l.calls l.start))
