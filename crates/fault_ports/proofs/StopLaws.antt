-- Laws of what is kept of a call at which files stop: it is what may be done of a call that failed.
use Rattle.std.proofs.Common.{◌≡◌, ◌≤◌, ◌+◌, ℕ, ◌/◌, zero, suc, List, [], ◌∷◌, length, take, Option, Some, None, Result, Ok, Err, OnErr, refl, ap, arith, subst, sym}
use Rattle.std.proofs.lemmas.List.{take_all}
use Rattle.hd_base.specs.Faults.{FaultsIncreased}
use Rattle.hd_base.specs.FileCauses.{FileCause, FaultCause}
use Rattle.hd_base.specs.declared.files.FileError.{FileError}
use Rattle.hd_base.specs.declared.files.FileError.TheVariants.{Absent, Failed, Memory}
use Rattle.file_calls.specs.CallCauses.{CauseOf}
use Rattle.hd_base.specs.FileMaps.{FileMap}
use Rattle.hd_base.specs.Calls.{Call, Make, Write, Cut, Sync, Rename, Remove, Log, MakesCalls, MakesPartOf}
use Rattle.fault_ports.specs.Kept.{half_of, kept_of}
use Rattle.fault_ports.specs.declared.stop_at.Keep.{Keep}
use Rattle.fault_ports.specs.declared.stop_at.Keep.TheVariants as keep

-- a front of a front is a front
take_twice : (n m : ℕ) (bytes : List ℕ) → (k : ℕ) × (take n (take m bytes) ≡ take k bytes)
take_twice zero m bytes = (zero, refl)
take_twice (suc n) zero bytes = (zero, refl)
take_twice (suc n) (suc m) [] = (zero, refl)
take_twice (suc n) (suc m) (b ∷ bytes) = let rest = take_twice n m bytes in (suc rest.0, ap (λ l. b ∷ l) rest.1)

part_of_front : (old new : Option FileMap) (before now : Option Log) (name : List ℕ) (place m : ℕ) (bytes : List ℕ) → MakesPartOf old new before now (Write name place (take m bytes)) → MakesPartOf old new before now (Write name place bytes)
part_of_front old new before now name place m bytes (zero, made) = (zero, made)
part_of_front old new before now name place m bytes (suc n, made) =
    let front = take_twice n m bytes in
    (suc front.0, subst (λ (b : List ℕ). MakesCalls old new before now (Write name place b ∷ [])) front.1 made)

-- What is done of the front of a write that failed may be done of the write.
pub part-of_front : {T E : Type 0} (result : Result T E) (old new : Option FileMap) (before now : Option Log) (name : List ℕ) (place m : ℕ) (bytes : List ℕ) → OnErr result (MakesPartOf old new before now (Write name place (take m bytes))) → OnErr result (MakesPartOf old new before now (Write name place bytes))
part-of_front (Ok x) old new before now name place m bytes part = tt
part-of_front (Err e) old new before now name place m bytes part = part_of_front old new before now name place m bytes part

all_of : (old new : Option FileMap) (before now : Option Log) (call : Call) → MakesCalls old new before now (call ∷ []) → MakesPartOf old new before now call
all_of old new before now (Make name) made = (1, made)
all_of old new before now (Write name place bytes) made =
    let whole : take (length bytes) bytes ≡ bytes = take_all (length bytes) bytes (omega arith) in
    (suc (length bytes), subst (λ (b : List ℕ). MakesCalls old new before now (Write name place b ∷ [])) (sym whole) made)
all_of old new before now (Cut name len) made = (1, made)
all_of old new before now (Sync name) made = (1, made)
all_of old new before now (Rename from to) made = (1, made)
all_of old new before now (Remove name) made = (1, made)

half_part : (old new : Option FileMap) (before now : Option Log) (call : Call) → MakesCalls old new before now (half_of call) → MakesPartOf old new before now call
half_part old new before now (Make name) made = (zero, made)
half_part old new before now (Write name place bytes) made = (suc (length bytes / 2), made)
half_part old new before now (Cut name len) made = (zero, made)
half_part old new before now (Sync name) made = (zero, made)
half_part old new before now (Rename from to) made = (zero, made)
half_part old new before now (Remove name) made = (zero, made)

-- What is kept of a call may be done of one that failed.
pub kept-part : (kept : Keep) (old new : Option FileMap) (before now : Option Log) (call : Call) → MakesCalls old new before now (kept_of kept call) → MakesPartOf old new before now call
kept-part keep.Nothing old new before now call made = (zero, made)
kept-part keep.Half old new before now call made = half_part old new before now call made
kept-part keep.All old new before now call made = all_of old new before now call made

-- The cause of a call that failed, with the faults of its own.
more_file : (files : Option FileMap) (name : List ℕ) (before now own own_now : ℕ) (e : FileError) → own ≤ own_now → FileCause {T = Unit {0}} files name before now (Err e) → FileCause {T = Unit {0}} files name (before + own) (now + own_now) (Err e)
more_file None name before now own own_now e more cause = record {
  never_falls = omega (arith, cause.never_falls);
  failed = λ is. omega (arith, cause.failed is);
  absent = λ is. omega (arith, cause.absent is);
  not_there = tt;
  no_memory = cause.no_memory;
}
more_file (Some m) name before now own own_now e more cause = record {
  never_falls = omega (arith, cause.never_falls);
  failed = λ is. omega (arith, cause.failed is);
  absent = cause.absent;
  not_there = cause.not_there;
  no_memory = cause.no_memory;
}

more_fault : (before now own own_now : ℕ) (e : FileError) → own ≤ own_now → FaultCause {T = Unit {0}} before now (Err e) → FaultCause {T = Unit {0}} (before + own) (now + own_now) (Err e)
more_fault before now own own_now e more cause = record {
  never_falls = omega (arith, cause.never_falls);
  failed = λ is. omega (arith, cause.failed is);
  no_absent = cause.no_absent;
  no_memory = cause.no_memory;
}

pub CauseOf-more : (files : Option FileMap) (call : Call) (before now own own_now : ℕ) (e : FileError) → own ≤ own_now → CauseOf {T = Unit {0}} files call before now (Err e) → CauseOf {T = Unit {0}} files call (before + own) (now + own_now) (Err e)
CauseOf-more files (Make name) before now own own_now e more cause = more_fault before now own own_now e more cause
CauseOf-more files (Write name place bytes) before now own own_now e more cause = more_file files name before now own own_now e more cause
CauseOf-more files (Cut name len) before now own own_now e more cause = more_file files name before now own own_now e more cause
CauseOf-more files (Sync name) before now own own_now e more cause = more_file files name before now own own_now e more cause
CauseOf-more files (Rename from to) before now own own_now e more cause = more_file files from before now own own_now e more cause
CauseOf-more files (Remove name) before now own own_now e more cause = more_file files name before now own own_now e more cause

ok_err : (x : Unit {0}) (e : FileError) → ◌≡◌ {A = Result (Unit {0}) FileError} (Ok x) (Err e) → ⊥
ok_err x e same = cc

failed_absent : ◌≡◌ {A = Result (Unit {0}) FileError} (Err Failed) (Err Absent) → ⊥
failed_absent same = cc

failed_memory : ◌≡◌ {A = Result (Unit {0}) FileError} (Err Failed) (Err Memory) → ⊥
failed_memory same = cc

-- The cause of a failure on purpose, behind a call that succeeded.
own_file : (files : Option FileMap) (name : List ℕ) (before now own own_now : ℕ) (x : Unit {0}) → own ≤ own_now → FaultsIncreased own own_now → FileCause files name before now (Ok x) → FileCause {T = Unit {0}} files name (before + own) (now + own_now) (Err Failed)
own_file None name before now own own_now x more rose cause = record {
  never_falls = omega (arith, cause.never_falls);
  failed = λ is. omega (arith, cause.never_falls);
  absent = λ is. absurd (failed_absent is);
  not_there = tt;
  no_memory = failed_memory;
}
own_file (Some m) name before now own own_now x more rose cause = record {
  never_falls = omega (arith, cause.never_falls);
  failed = λ is. omega (arith, cause.never_falls);
  absent = λ is. absurd (failed_absent is);
  not_there = λ gone. absurd (ok_err x Absent (cause.not_there gone));
  no_memory = failed_memory;
}

own_fault : (before now own own_now : ℕ) (x : Unit {0}) → own ≤ own_now → FaultsIncreased own own_now → FaultCause before now (Ok x) → FaultCause {T = Unit {0}} (before + own) (now + own_now) (Err Failed)
own_fault before now own own_now x more rose cause = record {
  never_falls = omega (arith, cause.never_falls);
  failed = λ is. omega (arith, cause.never_falls);
  no_absent = failed_absent;
  no_memory = failed_memory;
}

pub CauseOf-failed : (files : Option FileMap) (call : Call) (before now own own_now : ℕ) (x : Unit {0}) → own ≤ own_now → FaultsIncreased own own_now → CauseOf files call before now (Ok x) → CauseOf {T = Unit {0}} files call (before + own) (now + own_now) (Err Failed)
CauseOf-failed files (Make name) before now own own_now x more rose cause = own_fault before now own own_now x more rose cause
CauseOf-failed files (Write name place bytes) before now own own_now x more rose cause = own_file files name before now own own_now x more rose cause
CauseOf-failed files (Cut name len) before now own own_now x more rose cause = own_file files name before now own own_now x more rose cause
CauseOf-failed files (Sync name) before now own own_now x more rose cause = own_file files name before now own own_now x more rose cause
CauseOf-failed files (Rename from to) before now own own_now x more rose cause = own_file files from before now own own_now x more rose cause
CauseOf-failed files (Remove name) before now own own_now x more rose cause = own_file files name before now own own_now x more rose cause
