-- Events that ask for bytes.
use Rattle.std.proofs.Common.{◌≡◌, ℕ, ◌≤◌, min, Bool, true, false, List, [], ◌∷◌, length, take, drop, nat_le, Option, Some, None, IfSome, IsSome, Result, Ok, Err, IsOk, refl, sym, ap, subst, ◌∙◌, arith}
use Rattle.std.specs.Result.{IfOk, IfErr, OnOk}
use Rattle.std.proofs.lemmas.List.{take_all, length-drop, length-take}
use Rattle.std.proofs.lemmas.Grind.{common_steps}
use Rattle.std.proofs.lemmas.Bool.Decides.{nat_tests}
use Rattle.hd_base.proofs.FileLaws.{bytes_eq-same}
use Rattle.hd_base.specs.Bytes.{IsBytes}
use Rattle.hd_base.specs.Faults.{HasCause}
use Rattle.hd_base.specs.FileMaps.{FileMap, OnlyOf}
use Rattle.hd_base.specs.declared.numbers.BlockId.{BlockId}
use Rattle.hd_base.specs.declared.files.Files as files
use Rattle.hd_base.specs.declared.files.FileError.{FileError}
use Rattle.block_files.specs.Placements.{files_of, data_name}
use Rattle.replica_core.specs.declared.records.ReplicaRecord.{ReplicaRecord}
use Rattle.replica_core.specs.declared.events.Answer.{Answer}
use Rattle.replica_core.specs.declared.events.Answer.TheVariants as answer
use Rattle.replica_core.specs.declared.events.Event.{Event}
use Rattle.replica_core.specs.declared.events.Event.TheVariants as event
use Rattle.replica_core.specs.declared.info.ReplicaInfo.{ReplicaInfo}
use Rattle.replica_core.specs.Info.{readable, given, visible_of}
use Rattle.replica_core.specs.Transitions.{Taken, Outcome, record_after, reply, present, transition}
use Rattle.replica_core.specs.Views.{written_at}
use Rattle.replica_core.proofs.StepLemmas.{if_step}
use Rattle.replica_core.proofs.InfoLemmas.{present_is}
use Rattle.replica_model.specs.declared.events.ReplicaEvent.{ReplicaEvent}
use Rattle.replica_model.specs.declared.events.ReplicaEvent.TheVariants as replica_event
use Rattle.replica_model.specs.Rows.{FullReplica, IsWithBytes, brought, row, row_answer}
use Rattle.replica_model.specs.Plans.{folder_of, placed_info, HoldsInfo}
use Rattle.replica_calls.specs.CallLists.{names_of}
use Rattle.replica_calls.specs.Performed.{KeepsAll}
use Rattle.replica_files.specs.declared.book_state.BookState.{BookState}
use Rattle.replica_files.specs.declared.book_state.Prior.{Prior}
use Rattle.replica_files.specs.Events.{IsSettling, IsCutting}
use Rattle.replica_files.specs.Books.{replica_of, HasLastSum, IsHeld, IsBookOf, Takes, MakesEvent, before_all}
use Rattle.replica_files.specs.Carried.{IsAmidSettling, CarriesOut}
use Rattle.replica_files.specs.Reads.{IsReading, ReadsBytes, IsAmidReading, ReadsOut, IsAmidRead, IsReadyToRead}
use Rattle.replica_files.specs.declared.faults.BookFault.{BookFault}
use Rattle.replica_files.specs.Steps.{KeepsBook, IsPrepared}
use Rattle.replica_files.proofs.StepLemmas.{taken_ok}
use Rattle.replica_files.specs.Endings.{CallEnds, TakenEnds}
use Rattle.replica_files.proofs.EndLemmas.{stepped_same, replica_same, prepared_then, book_prepared, ends_stepped}
use Rattle.replica_files.proofs.AmidLemmas.{still_carries}

-- ---- a read that is taken

-- The replica isn't broken, and stays as it is.
pub record Stays (c : ReplicaRecord) (t : Taken) : Type 0 where
  pub unbroken : c.is_broken ≡ false
  pub same : t.replica ≡ c

reads_stay : (c : ReplicaRecord) (e : Event) (offset count : ℕ) → IsReading e offset count → IfOk (transition c e) (Stays c)
unfolding transition
reads_stay c (event.Read named place n) offset count is =
    if_step (Stays c) (present c) _ (λ h there. if_step (Stays c) (readable h (visible_of h) named place n) (λ v. Ok (record { replica = c; answer = answer.Visible v })) (λ v _. record { unbroken = (present_is c h there).0; same = refl }))
reads_stay c (event.Give named place n) offset count is =
    if_step (Stays c) (present c) _ (λ h there. if_step (Stays c) (given h named place n) (λ v. Ok (record { replica = c; answer = answer.Visible v })) (λ v _. record { unbroken = (present_is c h there).0; same = refl }))
reads_stay c (event.Create conn stamp sums) offset count is = absurd is
reads_stay c (event.Temporary conn stamp sums) offset count is = absurd is
reads_stay c (event.Append conn named new n) offset count is = absurd is
reads_stay c (event.AppendRecovery conn named new n) offset count is = absurd is
reads_stay c (event.StreamRecovery conn named new low high) offset count is = absurd is
reads_stay c (event.CloseRecovery named new n) offset count is = absurd is
reads_stay c (event.Packet conn seqno place bytes sums last sync bad) offset count is = absurd is
reads_stay c (event.Ack conn seqno good) offset count is = absurd is
reads_stay c (event.Ended conn) offset count is = absurd is
reads_stay c (event.Init named recovery) offset count is = absurd is
reads_stay c (event.Update recovery n) offset count is = absurd is
reads_stay c event.FileFault offset count is = absurd is

pub reading_settles : (e : Event) (offset count : ℕ) → IsReading e offset count → IsSettling e × (IsCutting e → ⊥)
reading_settles (event.Read named place n) offset count is = (tt, λ x. x)
reading_settles (event.Give named place n) offset count is = (tt, λ x. x)
reading_settles (event.Create conn stamp sums) offset count is = absurd is
reading_settles (event.Temporary conn stamp sums) offset count is = absurd is
reading_settles (event.Append conn named new n) offset count is = absurd is
reading_settles (event.AppendRecovery conn named new n) offset count is = absurd is
reading_settles (event.StreamRecovery conn named new low high) offset count is = absurd is
reading_settles (event.CloseRecovery named new n) offset count is = absurd is
reading_settles (event.Packet conn seqno place bytes sums last sync bad) offset count is = absurd is
reading_settles (event.Ack conn seqno good) offset count is = absurd is
reading_settles (event.Ended conn) offset count is = absurd is
reading_settles (event.Init named recovery) offset count is = absurd is
reading_settles (event.Update recovery n) offset count is = absurd is
reading_settles event.FileFault offset count is = absurd is

if_taken : (P : Taken → Type 0) (out : Outcome) → IsOk out → IfOk out P → (t : Taken) × (out ≡ Ok t) × P t
if_taken P (Ok t) is p = (t, refl, p)
if_taken P (Err e) is p = absurd (cc)

-- what was read of a replica
pub record Still (r : FullReplica) (e : Event) : Type 0 where
  pub unbroken : r.known.is_broken ≡ false
  pub info : (row r (replica_event.Other e)).known.info ≡ r.known.info

-- a read that is taken leaves all that is known as it is
stays_known : (r : FullReplica) (e : Event) (offset count : ℕ) → IsReading e offset count → Takes r (replica_event.Other e) → (row r (replica_event.Other e)).known ≡ r.known
stays_known r e offset count is takes =
    let t = if_taken (Stays r.known) (transition r.known e) takes (reads_stay r.known e offset count is) in
    ap (record_after r.known) t.1 ∙ t.2.same

still : (r : FullReplica) (e : Event) (offset count : ℕ) → IsReading e offset count → Takes r (replica_event.Other e) → Still r e
still r e offset count is takes =
    let t = if_taken (Stays r.known) (transition r.known e) takes (reads_stay r.known e offset count is) in
    record { unbroken = t.2.unbroken; info = ap (λ o. (record_after r.known o).info) t.1 ∙ ap (λ c. c.info) t.2.same }

reading_settling : {F : Type 0} (f : files.Ghosts F) (d : F) (block : BlockId) (prior : Prior) (sum offset room : ℕ) (a : IsAmidReading f d block prior sum offset room)
    → IsAmidSettling f d block prior (row a.r (replica_event.Other a.e)).known.info sum 0
reading_settling f d block prior sum offset room a =
    let s = reading_settles a.e offset a.count a.reading in
    record {
      r = a.r;
      e = a.e;
      held = a.held;
      settling = s.0;
      takes = a.takes;
      broken_is = a.broken_is;
      before_is = a.before_is;
      next_is = refl;
      room = λ cutting. absurd (s.1 cutting);
    }

-- no call is made
pub reading_carries : {F : Type 0} (f : files.Ghosts F) (d : F) (block : BlockId) (prior : Prior) (sum offset room : ℕ) (a : IsAmidReading f d block prior sum offset room) → CarriesOut f d d block a.r (replica_event.Other a.e) (Ok sum)
unfolding reading_settling
reading_carries f d block prior sum offset room a =
    still_carries f d block prior (row a.r (replica_event.Other a.e)).known.info sum 0 (reading_settling f d block prior sum offset room a)
    (a.before_is ∙ sym (still a.r a.e offset a.count a.reading a.takes).info)

made_on : {F : Type 0} (f : files.Ghosts F) (d new : F) (r : FullReplica) (e : ReplicaEvent) → KeepsAll f d new → MakesEvent f d d r e → MakesEvent f d new r e
made_on f d new r e kept made =
    record { strays = made.strays; are = made.are; made = record { files = kept.same ∙ made.made.files; log = kept.log ∙ made.made.log } }

-- the files were read
pub reading_done : {F : Type 0} (f : files.Ghosts F) (d new : F) (block : BlockId) (prior : Prior) (sum offset room : ℕ) (a : IsAmidReading f d block prior sum offset room) → KeepsAll f d new → f.faults d ≤ f.faults new
    → CarriesOut f d new block a.r (replica_event.Other a.e) (Ok sum)
reading_done f d new block prior sum offset room a kept below =
    let by = reading_carries f d block prior sum offset room a in
    record {
      made = made_on f d new a.r (replica_event.Other a.e) kept by.made;
      stopped = tt;
      cause = record { never_falls = below; failed = tt };
      only = subst (OnlyOf block.0) (sym kept.same) by.only;
      last = subst (λ (o : Option FileMap). IfSome o (λ _. HasLastSum sum (row a.r (replica_event.Other a.e)))) (sym kept.same) by.last;
    }

-- the read failed
pub reading_failed : {F : Type 0} (f : files.Ghosts F) (d new : F) (block : BlockId) (prior : Prior) (sum offset room : ℕ) (x : FileError) (a : IsAmidReading f d block prior sum offset room) → KeepsAll f d new → HasCause {T = Unit {0}} (f.faults d) (f.faults new) (Err x)
    → CarriesOut f d new block a.r (replica_event.Other a.e) (Err x)
reading_failed f d new block prior sum offset room x a kept cause =
    record {
      made = tt;
      stopped = before_all (record { files = kept.same; log = kept.log });
      cause = record { never_falls = cause.never_falls; failed = cause.failed };
      only = subst (OnlyOf block.0) (sym kept.same) a.held.only;
      last = tt;
    }

-- ---- the bytes

-- the data file, where files are observable
pub reading_placed : {F : Type 0} (f : files.Ghosts F) (d : F) (block : BlockId) (prior : Prior) (sum offset room : ℕ) (h : ReplicaInfo) (a : IsAmidReading f d block prior sum offset room) → prior.info ≡ Some h
    → IfSome (f.files d) (λ m. m (names_of block.0 h).«data» ≡ Some a.r.bytes)
reading_placed f d block prior sum offset room h a is =
    let r = a.r in
    let info : r.known.info ≡ Some h = sym a.before_is ∙ is in
    named (f.files d) block h r.bytes
    (subst (λ (b : BlockId). IfSome (f.files d) (λ m. m ≡ files_of b.0 (placed_info h r.bytes))) a.held.of_block
    (subst (λ (t : Bool). HoldsInfo (f.files d) r.known.block.0 (Some h) t r.bytes) (still r a.e offset a.count a.reading a.takes).unbroken
    (subst (λ (o : Option ReplicaInfo). HoldsInfo (f.files d) r.known.block.0 o r.known.is_broken r.bytes) info a.held.holds))) where
      itself : (block : BlockId) (h : ReplicaInfo) (bytes : List ℕ) → files_of block.0 (placed_info h bytes) (data_name (folder_of h.original) block.0) ≡ Some bytes
      itself block h bytes = rw (bytes_eq-same (data_name (folder_of h.original) block.0)) refl

      named : (files : Option FileMap) (block : BlockId) (h : ReplicaInfo) (bytes : List ℕ) → IfSome files (λ m. m ≡ files_of block.0 (placed_info h bytes)) → IfSome files (λ m. m (names_of block.0 h).«data» ≡ Some bytes)
      named None block h bytes p = tt
      named (Some m) block h bytes p = ap (λ (x : FileMap). x (data_name (folder_of h.original) block.0)) p ∙ itself block h bytes

pub is_there : (files : Option FileMap) (name bytes : List ℕ) → IfSome files (λ m. m name ≡ Some bytes) → IfSome files (λ m. IsSome (m name))
is_there None name bytes p = tt
is_there (Some m) name bytes p = subst IsSome (sym p) refl

is_le : (n m : ℕ) → nat_le n m ≡ true → n ≤ m
is_le n m e = grind (arith, common_steps, nat_tests)

not_le : (n m : ℕ) → nat_le n m ≡ false → m ≤ n
not_le n m e = grind (arith, common_steps, nat_tests)

-- as many as are asked for, or as there are
take_least : (count w offset : ℕ) (bytes : List ℕ) → length bytes ≡ w → take (min count w) (drop offset bytes) ≡ take count (drop offset bytes)
take_least count w offset bytes all = by (nat_le count w) refl where
  short : length (drop offset bytes) ≤ w
  short = omega (arith, length-drop offset bytes, all)

  by : (b : Bool) → nat_le count w ≡ b → take (min count w) (drop offset bytes) ≡ take count (drop offset bytes)
  by true e = ap (λ n. take n (drop offset bytes)) (omega (arith, is_le count w e))
  by false e =
      take_all (min count w) (drop offset bytes) (omega (arith, short, not_le count w e)) ∙ sym (take_all count (drop offset bytes) (omega (arith, short, not_le count w e)))

read_where : (files : Option FileMap) (r : FullReplica) (name : List ℕ) (count w offset room : ℕ) (got : List ℕ) → length r.bytes ≡ w → room ≡ min count w → IfSome files (λ m. m name ≡ Some r.bytes)
    → ((m : FileMap) (bytes : List ℕ) → files ≡ Some m → m name ≡ Some bytes → got ≡ take room (drop offset bytes)) → ReadsBytes files r offset count got
read_where None r name count w offset room got all enough there value = tt
read_where (Some m) r name count w offset room got all enough there value =
    value m r.bytes refl there ∙ (ap (λ n. take n (drop offset r.bytes)) enough ∙ take_least count w offset r.bytes all)

-- what was read is what is asked for
pub reading_bytes : {F : Type 0} (f : files.Ghosts F) (d : F) (block : BlockId) (prior : Prior) (sum offset room : ℕ) (h : ReplicaInfo) (got : List ℕ) (a : IsAmidReading f d block prior sum offset room) → prior.info ≡ Some h
    → ((m : FileMap) (bytes : List ℕ) → f.files d ≡ Some m → m (names_of block.0 h).«data» ≡ Some bytes → got ≡ take room (drop offset bytes)) → ReadsBytes (f.files d) a.r offset a.count got
reading_bytes f d block prior sum offset room h got a is value =
    read_where (f.files d) a.r (names_of block.0 h).«data» a.count (written_at prior.info) offset room got (a.held.full.all ∙ ap written_at (sym a.before_is)) a.enough (reading_placed f d block prior sum offset room h a is) value

-- an absent replica has none
pub reading_none : {F : Type 0} (f : files.Ghosts F) (d : F) (block : BlockId) (prior : Prior) (sum offset room : ℕ) (got : List ℕ) (a : IsAmidReading f d block prior sum offset room) → prior.info ≡ None → length got ≡ room → ReadsBytes (f.files d) a.r offset a.count got
reading_none f d block prior sum offset room got a none all = if_some_each (f.files d) (empty got (omega (arith, all, a.enough, ap written_at none)) ∙ sym (nothing a.r.bytes (a.held.full.all ∙ ap written_at (sym a.before_is ∙ none)))) where
  if_some_each : {P : Type 0} (o : Option FileMap) → P → IfSome o (λ _. P)
  if_some_each None p = tt
  if_some_each (Some m) p = p

  empty : (l : List ℕ) → length l ≡ 0 → l ≡ []
  empty [] e = refl
  empty (x ∷ xs) e = absurd (cc)

  nothing : (bytes : List ℕ) → length bytes ≡ 0 → take a.count (drop offset bytes) ≡ []
  nothing bytes e = empty (take a.count (drop offset bytes)) (omega (arith, length-take a.count (drop offset bytes), length-drop offset bytes, e))

-- ---- in its book

pub read_amid : {F : Type 0} (f : files.Ghosts F) (s : BookState F) (e : ReplicaEvent) (prior : Prior) (answer : Answer) (offset room : ℕ) → IsAmidRead f s e prior answer offset room → IsAmidReading f s.drawer s.block prior s.last_sum offset room
read_amid f s e prior answer offset room a =
    record {
      r = replica_of s;
      e = a.asked;
      count = a.count;
      held = a.held;
      reading = a.reading;
      takes = subst (Takes (replica_of s)) a.is a.takes;
      broken_is = a.broken_is;
      before_is = a.before_is;
      enough = a.enough;
    }

pub read_carried : {F : Type 0} (f : files.Ghosts F) (s : BookState F) (new : F) (e : ReplicaEvent) (prior : Prior) (answer : Answer) (offset room : ℕ) (got : List ℕ) (made : Result ℕ FileError) → (a : IsAmidRead f s e prior answer offset room)
    → ((x : IsAmidReading f s.drawer s.block prior s.last_sum offset room) → ReadsOut f s.drawer new s.block x.r x.e offset x.count got made) → CarriesOut f s.drawer new s.block (replica_of s) e made
unfolding read_amid
read_carried f s new e prior answer offset room got made a out =
    subst (λ x. CarriesOut f s.drawer new s.block (replica_of s) x made) (sym a.is) (out (read_amid f s e prior answer offset room a)).carried

pub read_bytes_are : {F : Type 0} (f : files.Ghosts F) (s : BookState F) (new : F) (e : ReplicaEvent) (prior : Prior) (answer : Answer) (offset room : ℕ) (got : List ℕ) (made : Result ℕ FileError) → (a : IsAmidRead f s e prior answer offset room)
    → ((x : IsAmidReading f s.drawer s.block prior s.last_sum offset room) → ReadsOut f s.drawer new s.block x.r x.e offset x.count got made) → IfOk made (λ _. ReadsBytes (f.files s.drawer) (replica_of s) offset a.count got)
unfolding read_amid
read_bytes_are f s new e prior answer offset room got made a out = (out (read_amid f s e prior answer offset room a)).bytes_are

reading_other : (e : Event) (offset count : ℕ) → IsReading e offset count → IsWithBytes (replica_event.Other e)
reading_other (event.Read named place n) offset count is = tt
reading_other (event.Give named place n) offset count is = tt
reading_other (event.Create conn stamp sums) offset count is = absurd is
reading_other (event.Temporary conn stamp sums) offset count is = absurd is
reading_other (event.Append conn named new n) offset count is = absurd is
reading_other (event.AppendRecovery conn named new n) offset count is = absurd is
reading_other (event.StreamRecovery conn named new low high) offset count is = absurd is
reading_other (event.CloseRecovery named new n) offset count is = absurd is
reading_other (event.Packet conn seqno place bytes sums last sync bad) offset count is = absurd is
reading_other (event.Ack conn seqno good) offset count is = absurd is
reading_other (event.Ended conn) offset count is = absurd is
reading_other (event.Init named recovery) offset count is = absurd is
reading_other (event.Update recovery n) offset count is = absurd is
reading_other event.FileFault offset count is = absurd is

pub read_with_bytes : {F : Type 0} (f : files.Ghosts F) (s : BookState F) (e : ReplicaEvent) (prior : Prior) (answer : Answer) (offset room : ℕ) → IsAmidRead f s e prior answer offset room → IsWithBytes e
read_with_bytes f s e prior answer offset room a = subst IsWithBytes (sym a.is) (reading_other a.asked offset a.count a.reading)

pub read_brings : {F : Type 0} (f : files.Ghosts F) (s : BookState F) (e : ReplicaEvent) (prior : Prior) (answer : Answer) (offset room n : ℕ) → IsAmidRead f s e prior answer offset room → IsBytes (brought n e)
read_brings f s e prior answer offset room n a = subst (λ x. IsBytes (brought n x)) (sym a.is) (λ i. omega arith)

held_mid : {F : Type 0} (f : files.Ghosts F) (old mid : BookState F) → KeepsBook old mid → IsHeld f old.drawer old.block old.last_sum (replica_of old) → IsHeld f mid.drawer mid.block mid.last_sum (replica_of old)
held_mid f old mid kept held =
    subst (λ d. IsHeld f d mid.block mid.last_sum (replica_of old)) (sym kept.drawer)
    (subst (λ b. IsHeld f old.drawer b mid.last_sum (replica_of old)) (sym kept.block)
    (subst (λ s. IsHeld f old.drawer old.block s (replica_of old)) (sym kept.last_sum) held))

-- What was read for a replica that was stepped is what the book before is asked for.
pub read_before : {F : Type 0} (f : files.Ghosts F) (old mid : BookState F) (e : Event) (prior : Prior) (answer : Answer) (offset room : ℕ) (got : List ℕ) (result : Result (Unit {0}) BookFault) → IsBookOf f old → KeepsBook old mid
    → mid.replica ≡ (row (replica_of old) (replica_event.Other e)).known → Ok answer ≡ reply (transition (replica_of old).known e) → prior.is_broken ≡ old.replica.is_broken → prior.info ≡ old.replica.info → (a : IsReadyToRead old e offset room)
    → ((x : IsAmidRead f mid (replica_event.Other e) prior answer offset room) → IfOk result (λ _. ReadsBytes (f.files mid.drawer) (replica_of mid) offset x.count got)) → IfOk result (λ _. ReadsBytes (f.files old.drawer) (replica_of old) offset a.count got)
read_before f old mid e prior answer offset room got result book kept known answered broken_is info_is a onward =
    let same = stepped_same old mid kept in
    let taken = taken_ok (transition (replica_of old).known e) answer answered in
    let x : IsAmidRead f mid (replica_event.Other e) prior answer offset room = record {
      asked = e;
      count = a.count;
      is = refl;
      reading = a.reading;
      takes = subst (λ r. Takes r (replica_event.Other e)) (sym same) taken.0;
      answered = taken.1 ∙ ap (λ r. row_answer r (replica_event.Other e)) (sym same);
      known = known ∙ ap (λ r. (row r (replica_event.Other e)).known) (sym same);
      broken_is = broken_is ∙ (ap (λ c. c.is_broken) book.known ∙ ap (λ r. r.known.is_broken) (sym same));
      before_is = info_is ∙ (ap (λ c. c.info) book.known ∙ ap (λ r. r.known.info) (sym same));
      held = subst (λ r. IsHeld f mid.drawer mid.block mid.last_sum r) (sym same) (held_mid f old mid kept book.held);
      enough = a.enough ∙ ap (λ o. min a.count (written_at o)) (sym info_is);
    } in
    if_ok_as result (λ got_it. subst (λ r. ReadsBytes (f.files old.drawer) r offset a.count got) same (subst (λ d. ReadsBytes (f.files d) (replica_of mid) offset a.count got) kept.drawer got_it)) (onward x) where
      if_ok_as : {P Q : Type 0} (r : Result (Unit {0}) BookFault) → (P → Q) → IfOk r (λ _. P) → IfOk r (λ _. Q)
      if_ok_as (Ok t) f p = f p
      if_ok_as (Err e) f p = tt

-- the same where memory was taken before
pub read_from : {F : Type 0} (f : files.Ghosts F) (old mid : BookState F) (offset count : ℕ) (got : List ℕ) → IsPrepared f old mid → ReadsBytes (f.files mid.drawer) (replica_of mid) offset count got → ReadsBytes (f.files old.drawer) (replica_of old) offset count got
read_from f old mid offset count got p reads =
    subst (λ r. ReadsBytes (f.files old.drawer) r offset count got) (replica_same f old mid p) (subst (λ (o : Option FileMap). ReadsBytes o (replica_of mid) offset count got) p.drawer.same reads)

-- ---- a book in which a read was taken, which has no entry yet

-- such a book is the one before the step
read_steps : {F : Type 0} (f : files.Ghosts F) (old mid : BookState F) (e : Event) (offset count : ℕ) (answer : Answer) → IsBookOf f old → KeepsBook old mid
    → mid.replica ≡ (row (replica_of old) (replica_event.Other e)).known → Ok answer ≡ reply (transition (replica_of old).known e) → IsReading e offset count → IsPrepared f old mid
read_steps f old mid e offset count answer book kept known answered reading =
    record {
      block = kept.block;
      replica = known ∙ (stays_known (replica_of old) e offset count reading (taken_ok (transition (replica_of old).known e) answer answered).0 ∙ sym book.known);
      last_sum = kept.last_sum;
      whole = kept.whole;
      history = record { start = ap (λ h. h.start) kept.history; entries = ap (λ h. h.entries.items) kept.history };
      drawer = subst (KeepsAll f old.drawer) (sym kept.drawer) (record { same = refl; log = refl; room = λ name. omega arith });
      below = subst (λ d. f.faults old.drawer ≤ f.faults d) (sym kept.drawer) (omega arith);
    }

-- and so is one that goes on from there
pub read_prepares : {F : Type 0} (f : files.Ghosts F) (old mid new : BookState F) (e : Event) (offset count : ℕ) (answer : Answer) (result : Result (Unit {0}) BookFault) → IsBookOf f old → KeepsBook old mid
    → mid.replica ≡ (row (replica_of old) (replica_event.Other e)).known → Ok answer ≡ reply (transition (replica_of old).known e) → IsReading e offset count → OnOk result (IsPrepared f mid new) → OnOk result (IsPrepared f old new)
read_prepares f old mid new e offset count answer (Ok x) book kept known answered reading p = prepared_then f old mid new (read_steps f old mid e offset count answer book kept known answered reading) p
read_prepares f old mid new e offset count answer (Err x) book kept known answered reading p = tt

pub read_goes_on : {F : Type 0} (f : files.Ghosts F) (old mid new : BookState F) (e : Event) (offset count : ℕ) (answer : Answer) (result : Result (Unit {0}) BookFault) → IsBookOf f old → KeepsBook old mid
    → mid.replica ≡ (row (replica_of old) (replica_event.Other e)).known → Ok answer ≡ reply (transition (replica_of old).known e) → IsReading e offset count → OnOk result (IsPrepared f mid new) → IfErr result (λ _. IsBookOf f new) → IsBookOf f new
read_goes_on f old mid new e offset count answer (Ok x) book kept known answered reading p stopped =
    book_prepared f old new (read_prepares f old mid new e offset count answer (Ok x) book kept known answered reading p) book
read_goes_on f old mid new e offset count answer (Err x) book kept known answered reading p stopped = stopped

-- a failed call on the files ends as from the book before the step
pub read_stops : {F : Type 0} (f : files.Ghosts F) (old mid new : BookState F) (e : ReplicaEvent) (result : Result (Unit {0}) BookFault) → KeepsBook old mid → IfErr result (λ why. TakenEnds f mid new e (Err why)) → IfErr result (λ why. CallEnds f old new e (Err why))
read_stops f old mid new e (Ok x) kept ends = tt
read_stops f old mid new e (Err why) kept ends = ends_stepped f old mid new e (Err why) kept ends
