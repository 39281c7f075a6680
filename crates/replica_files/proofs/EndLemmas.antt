-- How a call of a book ends, once the calls on the files were made or one failed.
use Rattle.std.proofs.Common.{◌≡◌, ℕ, ◌<◌, ◌^◌, Bool, true, false, List, [], ◌∷◌, ◌++◌, length, Option, Some, None, option_map, IfSome, Result, Ok, Err, refl, sym, ap, subst, ◌∙◌, arith}
use Rattle.std.specs.Result.{IsErr}
use Rattle.hd_base.specs.Bytes.{IsBytes}
use Rattle.hd_base.proofs.ByteLaws.{IsBytes-behind, IsBytes-cons, IsBytes-take}
use Rattle.hd_base.specs.FileMaps.{FileMap, OnlyOf}
use Rattle.hd_base.specs.Calls.{Call, run, logged, stopped, effect_of, MakesCalls, IsUnchanged}
use Rattle.hd_base.specs.declared.numbers.BlockId.{BlockId}
use Rattle.hd_base.specs.declared.numbers.Receipt.{Receipt}
use Rattle.hd_base.specs.declared.files.Files as files
use Rattle.hd_base.specs.declared.files.FileError.{FileError}
use Rattle.block_files.specs.Placements.{files_of}
use Rattle.block_files.specs.BlockCalls.{calls_of}
use Rattle.block_files.proofs.PlacementLaws.{calls_place_files}
use Rattle.replica_core.specs.declared.events.Answer.{Answer}
use Rattle.replica_core.specs.declared.events.Event.{Event}
use Rattle.replica_core.specs.declared.events.Event.TheVariants as event
use Rattle.replica_core.specs.declared.info.ReplicaInfo.{ReplicaInfo}
use Rattle.replica_core.specs.Transitions.{transition}
use Rattle.replica_core.specs.Views.{written_in}
use Rattle.replica_model.specs.declared.events.ReplicaEvent.{ReplicaEvent}
use Rattle.replica_model.specs.declared.events.ReplicaEvent.TheVariants as replica_event
use Rattle.replica_model.specs.Rows.{FullReplica, IsFull, IsOther, IsWithBytes, event_at, brought, row, row_answer, broken}
use Rattle.replica_model.specs.Plans.{placed_under, placement_of, HoldsInfo, Holds, plan}
use Rattle.replica_model.proofs.RowLemmas.{rows_keep_bytes, plans_find_files, plans_follow_rows}
use Rattle.replica_model.specs.declared.histories.History.{History}
use Rattle.replica_model.specs.Histories.{begun, replay, replayed}
use Rattle.replica_calls.specs.CallLists.{remove_list}
use Rattle.replica_calls.specs.Performed.{KeepsAll}
use Rattle.replica_calls.proofs.RemovalLemmas.{strays_are_removed}
use Rattle.replica_files.specs.declared.book_state.BookState.{BookState}
use Rattle.replica_files.specs.declared.book_state.Taken.{Taken}
use Rattle.replica_files.specs.declared.book_state.Prior.{Prior}
use Rattle.replica_files.specs.declared.faults.BookFault.{BookFault}
use Rattle.replica_files.specs.declared.faults.BookFault.TheVariants as fault
use Rattle.hd_base.specs.Faults.{FaultsIncreased}
use Rattle.replica_files.specs.Entries.{IsSame, HasEntry}
use Rattle.replica_files.specs.Events.{IsSettling}
use Rattle.replica_files.specs.Breaks.{LeavesFiles}
use Rattle.replica_files.specs.Books.{replica_of, HasLastSum, IsHeld, Takes, AreStrays, event_calls, IsBookOf, MakesEvent, StopsEvent, before_all, amid}
use Rattle.replica_files.specs.Carried.{CarriesOut, IsAmidSettling}
use Rattle.replica_files.specs.Steps.{IsToNote, IsAmid, IsPrepared, KeepsBook}
use Rattle.replica_files.specs.Endings.{BookEnds, EndsTaken, StaysBook, Notes, CallEnds, TakenEnds, Finishes, Fails, IsRefusal}
use Rattle.replica_files.proofs.BookLemmas.{broken_block, book_as}
use Rattle.replica_files.proofs.LeftLemmas.{left_failed, left_kept, left_row, left_unbroken}
use Rattle.replica_files.proofs.AmidLemmas.{amid_settled, settled_still, still_bytes}
use Rattle.replica_files.proofs.ShapeLemmas.{stays_of}

-- ---- the files after an event

run_append : (xs ys : List Call) (m : FileMap) → run (xs ++ ys) m ≡ run ys (run xs m)
run_append [] ys m = refl
run_append (x ∷ xs) ys m = run_append xs ys (effect_of x m)

two_ways : {P : Type 0} (b : Bool) → b ≡ true → b ≡ false → P
two_ways b t f = absurd (cc)

unbroken : (b c : Bool) → (b ≡ true → c ≡ true) → c ≡ false → b ≡ false
unbroken true c stays f = two_ways c (stays refl) f
unbroken false c stays f = refl

-- the files once the strays are removed: those of the replica
cleaned : (m : FileMap) (block : ℕ) (o q : Option ReplicaInfo) (k : ReplicaInfo) (bytes : List ℕ) (strays : List (List ℕ)) → q ≡ Some k → AreStrays (Some m) o q strays → HoldsInfo (Some m) block o false bytes
    → run (remove_list strays) m ≡ files_of block (placed_under o bytes)
cleaned m block None None k bytes strays is are holds = absurd (none_some is) where
  none_some : ◌≡◌ {A = Option ReplicaInfo} None (Some k) → ⊥
  none_some e = cc
cleaned m block None (Some x) k bytes strays is are holds = (strays_are_removed m strays are).1
cleaned m block (Some h) q k bytes strays is are holds = ap (λ l. run (remove_list l) m) are ∙ holds

placed_after : (files new : Option FileMap) (r : FullReplica) (e : ReplicaEvent) (k : ReplicaInfo) (strays : List (List ℕ)) → r.known.block.0 < 2 ^ 64 → IsFull r → IsWithBytes e
    → r.known.is_broken ≡ false → (row r e).known.info ≡ Some k → Holds files r → AreStrays files r.known.info (row r e).known.info strays → new ≡ option_map (run (event_calls r e strays)) files
    → IfSome new (λ m. m ≡ files_of r.known.block.0 (placement_of (row r e)))
placed_after None new r e k strays fits full with_bytes whole is holds are made = subst (λ (o : Option FileMap). IfSome o (λ m. m ≡ files_of r.known.block.0 (placement_of (row r e)))) (sym made) tt
placed_after (Some m) new r e k strays fits full with_bytes whole is holds are made =
    let block = r.known.block.0 in
    let clean = cleaned m block r.known.info (row r e).known.info k r.bytes strays is are (subst (λ t. HoldsInfo (Some m) block r.known.info t r.bytes) whole holds) in
    let all : run (event_calls r e strays) m ≡ files_of block (placement_of (row r e)) =
    run_append (remove_list strays) (calls_of block (plan r e) (placement_of r)) m
    ∙ (ap (run (calls_of block (plan r e) (placement_of r))) clean
    ∙ (calls_place_files block (plan r e) (placement_of r) fits (plans_find_files r e full with_bytes)
    ∙ ap (files_of block) (plans_follow_rows r e full with_bytes))) in
    subst (λ (o : Option FileMap). IfSome o (λ m. m ≡ files_of block (placement_of (row r e)))) (sym made) all

-- what is held of a replica whose files lie where its own do
holds_placed : (files : Option FileMap) (s : FullReplica) → ((k : ReplicaInfo) → s.known.info ≡ Some k → s.known.is_broken ≡ false → IfSome files (λ m. m ≡ files_of s.known.block.0 (placement_of s))) → Holds files s
holds_placed files s onward = by s.known.info s.known.is_broken refl refl where
  by : (o : Option ReplicaInfo) (b : Bool) → s.known.info ≡ o → s.known.is_broken ≡ b → Holds files s
  by None b is at = subst (λ o. HoldsInfo files s.known.block.0 o s.known.is_broken s.bytes) (sym is) tt
  by (Some k) true is at = subst (λ o. HoldsInfo files s.known.block.0 o s.known.is_broken s.bytes) (sym is) (subst (λ t. HoldsInfo files s.known.block.0 (Some k) t s.bytes) (sym at) tt)
  by (Some k) false is at =
      subst (λ o. HoldsInfo files s.known.block.0 o s.known.is_broken s.bytes) (sym is)
      (subst (λ t. HoldsInfo files s.known.block.0 (Some k) t s.bytes) (sym at)
      (subst (λ o. IfSome files (λ m. m ≡ files_of s.known.block.0 (placed_under o s.bytes))) is (onward k is at)))

bytes_append : (a b : List ℕ) → IsBytes a → IsBytes b → IsBytes (a ++ b)
bytes_append [] b x y = y
bytes_append (n ∷ ns) b x y = IsBytes-cons n (ns ++ b) (x 0) (bytes_append ns b (IsBytes-behind n ns x) y)

pub held_after : {F : Type 0} (f : files.Ghosts F) (old new : F) (block : BlockId) (sum next_sum : ℕ) (r : FullReplica) (e : ReplicaEvent) → IsHeld f old block sum r → IsWithBytes e → IsBytes (brought (length r.bytes) e)
    → CarriesOut f old new block r e (Ok next_sum) → IsHeld f new block next_sum (row r e)
held_after f old new block sum next_sum r e held with_bytes more carried =
    let stays = stays_of r.known (event_at r e) in
    record {
      fits = held.fits;
      of_block = stays.0 ∙ held.of_block;
      full = rows_keep_bytes r e held.full with_bytes;
      are_bytes = IsBytes-take (written_in (row r e).known) (r.bytes ++ brought (length r.bytes) e) (bytes_append r.bytes (brought (length r.bytes) e) held.are_bytes more);
      holds = holds_placed (f.files new) (row r e) (λ k is whole.
          subst (λ (b : BlockId). IfSome (f.files new) (λ m. m ≡ files_of b.0 (placement_of (row r e)))) (sym stays.0)
          (placed_after (f.files old) (f.files new) r e k carried.made.strays (subst (λ (b : BlockId). b.0 < 2 ^ 64) (sym held.of_block) held.fits) held.full with_bytes
          (unbroken r.known.is_broken (row r e).known.is_broken stays.1 whole) is held.holds carried.made.are carried.made.made.files));
      only = carried.only;
      last = carried.last;
    }

-- ---- a replica that breaks

is_broken_now : (r : FullReplica) → (broken r).known.is_broken ≡ true
unfolding transition
is_broken_now r = refl

holds_broken : (files : Option FileMap) (s : FullReplica) → s.known.is_broken ≡ true → Holds files s
holds_broken files s is = holds_placed files s (λ k _ whole. two_ways s.known.is_broken is whole)

last_broken : (sum : ℕ) (s : FullReplica) → s.known.is_broken ≡ true → HasLastSum sum s
last_broken sum s is = λ whole. two_ways s.known.is_broken is whole

if_some_each : {P : Type 0} (o : Option FileMap) → P → IfSome o (λ _. P)
if_some_each None p = tt
if_some_each (Some m) p = p

pub broken_after : {F : Type 0} (f : files.Ghosts F) (old new : F) (block : BlockId) (sum : ℕ) (r : FullReplica) → IsHeld f old block sum r → OnlyOf block.0 (f.files new) → IsHeld f new block sum (broken r)
broken_after f old new block sum r held only =
    record {
      fits = held.fits;
      of_block = broken_block r ∙ held.of_block;
      full = rows_keep_bytes r (replica_event.Other event.FileFault) held.full tt;
      are_bytes = IsBytes-take (written_in (broken r).known) (r.bytes ++ []) (bytes_append r.bytes [] held.are_bytes (λ i. omega arith));
      holds = holds_broken (f.files new) (broken r) (is_broken_now r);
      only = only;
      last = if_some_each (f.files new) (last_broken sum (broken r) (is_broken_now r));
    }

-- ---- a book that is to get its entry

pub to_note : {F : Type 0} (f : files.Ghosts F) (old : F) (s : BookState F) (e : ReplicaEvent) (before : Option ReplicaInfo) (made : Result ℕ FileError) → s.replica ≡ (row (replica_of s) e).known → before ≡ (replica_of s).known.info
    → IsHeld f old s.block s.last_sum (replica_of s) → IsWithBytes e → IsBytes (brought (length (replica_of s).bytes) e) → CarriesOut f old s.drawer s.block (replica_of s) e made → (IsErr made → (replica_of s).known.is_broken ≡ false)
    → LeavesFiles f s.drawer s.whole (row (replica_of s) e) → IsToNote f s e before made
to_note f old s e before (Ok sum) known is held with_bytes more carried whole still =
    record {
      known = known;
      of_block = ap (λ c. c.block) known ∙ (stays_of (replica_of s).known (event_at (replica_of s) e)).0 ∙ held.of_block;
      before_is = is;
      done = held_after f old s.drawer s.block s.last_sum sum (replica_of s) e held with_bytes more carried;
      failed = λ x. absurd (cc);
      still = still;
      left = λ x. absurd (cc);
    }
to_note f old s e before (Err x) known is held with_bytes more carried whole still =
    record {
      known = known;
      of_block = ap (λ c. c.block) known ∙ (stays_of (replica_of s).known (event_at (replica_of s) e)).0 ∙ held.of_block;
      before_is = is;
      done = tt;
      failed = λ _. broken_after f old s.drawer s.block s.last_sum (replica_of s) held carried.only;
      still = tt;
      left = λ _. left_failed f old s.drawer (replica_of s) e held.full (whole refl) held.holds carried.stopped carried.cause.failed;
    }

-- ---- the end

notes_from : {F : Type 0} (old mid new : BookState F) (e : ReplicaEvent) (failed : Bool) (receipt : Receipt) → mid.block ≡ old.block → mid.history ≡ old.history → Notes mid new e failed receipt → Notes old new e failed receipt
notes_from old mid new e failed receipt block history n =
    record {
      block = n.block ∙ block;
      entry = subst (λ h. HasEntry h new.history e failed receipt.index) history n.entry;
      named = n.named ∙ block;
    }

pub call_ends : {F : Type 0} (f : files.Ghosts F) (old mid new : BookState F) (e : ReplicaEvent) (answer : Answer) (made : Result ℕ FileError) (result : Result Taken BookFault)
    → Takes (replica_of old) e → answer ≡ row_answer (replica_of old) e → mid.block ≡ old.block → mid.history ≡ old.history → new.drawer ≡ mid.drawer
    → CarriesOut f old.drawer mid.drawer old.block (replica_of old) e made → (IsErr made → (replica_of old).known.is_broken ≡ false) → Finishes mid new e answer made result → TakenEnds f old new e result
call_ends f old mid new e answer (Ok sum) (Ok taken) takes answered block history drawer carried whole fin =
    record {
      takes = takes;
      answer = fin.1 ∙ answered;
      noted = notes_from old mid new e false taken.receipt block history fin.0;
      made = subst (λ d. MakesEvent f old.drawer d (replica_of old) e) (sym drawer) carried.made;
    }
call_ends f old mid new e answer (Ok sum) (Err (fault.Refused x receipt)) takes answered block history drawer carried whole fin = absurd fin
call_ends f old mid new e answer (Ok sum) (Err (fault.File receipt)) takes answered block history drawer carried whole fin = absurd fin
call_ends f old mid new e answer (Ok sum) (Err fault.Memory) takes answered block history drawer carried whole fin = absurd fin
call_ends f old mid new e answer (Err x) (Ok taken) takes answered block history drawer carried whole fin = absurd fin
call_ends f old mid new e answer (Err x) (Err (fault.Refused y receipt)) takes answered block history drawer carried whole fin = absurd fin
call_ends f old mid new e answer (Err x) (Err fault.Memory) takes answered block history drawer carried whole fin = absurd fin
call_ends f old mid new e answer (Err x) (Err (fault.File receipt)) takes answered block history drawer carried whole fin =
    record {
      whole = whole refl;
      noted = notes_from old mid new e true receipt block history fin;
      stopped = subst (λ d. StopsEvent f old.drawer d (replica_of old) e) (sym drawer) carried.stopped;
      rose = subst (λ d. FaultsIncreased (f.faults old.drawer) (f.faults d)) (sym drawer) carried.cause.failed;
    }

pub settling_other : (e : Event) → IsSettling e → IsOther e
settling_other (event.Create conn stamp sums) is = absurd is
settling_other (event.Temporary conn stamp sums) is = absurd is
settling_other (event.Append conn named new n) is = tt
settling_other (event.AppendRecovery conn named new n) is = tt
settling_other (event.StreamRecovery conn named new low high) is = tt
settling_other (event.CloseRecovery named new n) is = tt
settling_other (event.Packet conn seqno offset bytes sums last sync bad) is = absurd is
settling_other (event.Ack conn seqno good) is = tt
settling_other (event.Ended conn) is = tt
settling_other (event.Init named recovery) is = tt
settling_other (event.Update recovery n) is = tt
settling_other (event.Read named offset n) is = tt
settling_other (event.Give named offset n) is = tt
settling_other event.FileFault is = absurd is

-- ---- amid an event that settles what was held

pub amid_settling : {F : Type 0} (f : files.Ghosts F) (s : BookState F) (e : ReplicaEvent) (prior : Prior) (answer : Answer) (buffer : ℕ) (next : Option ReplicaInfo) → next ≡ s.replica.info → (a : IsAmid f s e prior answer buffer)
    → IsAmidSettling f s.drawer s.block prior next s.last_sum buffer
amid_settling f s e prior answer buffer next is a =
    record {
      r = replica_of s;
      e = a.settled;
      held = a.held;
      settling = a.settling;
      takes = subst (Takes (replica_of s)) a.is a.takes;
      broken_is = a.broken_is;
      before_is = a.before_is;
      next_is = is ∙ (ap (λ c. c.info) a.known ∙ ap (λ x. (row (replica_of s) x).known.info) a.is);
      room = a.room;
    }

pub amid_carried : {F : Type 0} (f : files.Ghosts F) (s : BookState F) (new : F) (e : ReplicaEvent) (prior : Prior) (answer : Answer) (buffer : ℕ) (next : Option ReplicaInfo) (made : Result ℕ FileError) → (is : next ≡ s.replica.info) → (a : IsAmid f s e prior answer buffer)
    → ((x : IsAmidSettling f s.drawer s.block prior next s.last_sum buffer) → CarriesOut f s.drawer new s.block x.r (replica_event.Other x.e) made) → CarriesOut f s.drawer new s.block (replica_of s) e made
unfolding amid_settling
amid_carried f s new e prior answer buffer next made is a carries =
    subst (λ x. CarriesOut f s.drawer new s.block (replica_of s) x made) (sym a.is) (carries (amid_settling f s e prior answer buffer next is a))

pub amid_left : {F : Type 0} (f : files.Ghosts F) (s : BookState F) (new : F) (e : ReplicaEvent) (prior : Prior) (answer : Answer) (buffer : ℕ) (next : Option ReplicaInfo) → next ≡ s.replica.info → IsAmid f s e prior answer buffer
    → (prior.is_broken ≡ true → new ≡ s.drawer) → LeavesFiles f new s.whole (row (replica_of s) e)
unfolding amid_settling
amid_left f s new e prior answer buffer next is a alone =
    subst (λ x. LeavesFiles f new s.whole (row (replica_of s) x)) (sym a.is) (by r.known.is_broken refl) where
      r : FullReplica
      r = replica_of s

      x : IsAmidSettling f s.drawer s.block prior next s.last_sum buffer
      x = amid_settling f s e prior answer buffer next is a

      same : prior.is_broken ≡ true → (row r (replica_event.Other a.settled)).known.info ≡ r.known.info
      same broke = sym x.next_is ∙ (sym (settled_still a.settled prior.is_broken prior.info next broke (amid_settled f s.drawer s.block prior next s.last_sum buffer x)) ∙ a.before_is)

      by : (b : Bool) → r.known.is_broken ≡ b → LeavesFiles f new s.whole (row r (replica_event.Other a.settled))
      by false unbroken = left_unbroken f new s.whole r (replica_event.Other a.settled) (λ fault. subst IsSettling fault a.settling) unbroken
      by true broke =
          let info = same (a.broken_is ∙ broke) in
          subst (λ d. LeavesFiles f d s.whole (row r (replica_event.Other a.settled))) (sym (alone (a.broken_is ∙ broke)))
          (left_row f s.drawer s.whole r (replica_event.Other a.settled) info (still_bytes r a.settled info a.held.full.all) broke a.left)

pub amid_with_bytes : {F : Type 0} (f : files.Ghosts F) (s : BookState F) (e : ReplicaEvent) (prior : Prior) (answer : Answer) (buffer : ℕ) → IsAmid f s e prior answer buffer → IsWithBytes e
amid_with_bytes f s e prior answer buffer a = subst IsWithBytes (sym a.is) (settling_other a.settled a.settling)

pub amid_brings : {F : Type 0} (f : files.Ghosts F) (s : BookState F) (e : ReplicaEvent) (prior : Prior) (answer : Answer) (buffer n : ℕ) → IsAmid f s e prior answer buffer → IsBytes (brought n e)
amid_brings f s e prior answer buffer n a = subst (λ x. IsBytes (brought n x)) (sym a.is) (λ i. omega arith)

-- ---- a book for which memory was taken

pub replica_same : {F : Type 0} (f : files.Ghosts F) (old mid : BookState F) → IsPrepared f old mid → replica_of mid ≡ replica_of old
replica_same f old mid p =
    ap (λ b. replay (begun b mid.history.start) mid.history.entries.items) p.block
    ∙ (ap (λ s. replay (begun old.block s) mid.history.entries.items) p.history.start
    ∙ ap (replay (begun old.block old.history.start)) p.history.entries)

held_kept : {F : Type 0} (f : files.Ghosts F) (old mid : F) (block : BlockId) (sum : ℕ) (r : FullReplica) → f.files mid ≡ f.files old → IsHeld f old block sum r → IsHeld f mid block sum r
held_kept f old mid block sum r same held =
    record {
      fits = held.fits;
      of_block = held.of_block;
      full = held.full;
      are_bytes = held.are_bytes;
      holds = subst (λ o. Holds o r) (sym same) held.holds;
      only = subst (OnlyOf block.0) (sym same) held.only;
      last = subst (λ (o : Option FileMap). IfSome o (λ _. HasLastSum sum r)) (sym same) held.last;
    }

pub book_prepared : {F : Type 0} (f : files.Ghosts F) (old mid : BookState F) → IsPrepared f old mid → IsBookOf f old → IsBookOf f mid
book_prepared f old mid p book =
    book_as f mid mid.drawer old.block old.last_sum old.whole (replica_of old) refl p.block p.last_sum p.whole (replica_same f old mid p) (p.replica ∙ book.known)
    (held_kept f old.drawer mid.drawer old.block old.last_sum (replica_of old) p.drawer.same book.held)
    (left_kept f old.drawer mid.drawer old.whole (replica_of old) p.drawer.same p.drawer.log p.below book.left)

notes_prepared : {F : Type 0} (f : files.Ghosts F) (old mid new : BookState F) (e : ReplicaEvent) (failed : Bool) (receipt : Receipt) → IsPrepared f old mid → Notes mid new e failed receipt → Notes old new e failed receipt
notes_prepared f old mid new e failed receipt p n =
    record {
      block = n.block ∙ p.block;
      entry = record {
        start = n.entry.start ∙ p.history.start;
        entries = n.entry.entries ∙ ap (λ es. es ++ record { event = e; failed = failed } ∷ []) p.history.entries;
        place = n.entry.place ∙ ap length p.history.entries;
      };
      named = n.named ∙ p.block;
    }

-- calls from files that were kept
made_kept : {F : Type 0} (f : files.Ghosts F) (old mid new : F) (calls : List Call) → KeepsAll f old mid → MakesCalls (f.files mid) (f.files new) (f.log mid) (f.log new) calls → MakesCalls (f.files old) (f.files new) (f.log old) (f.log new) calls
made_kept f old mid new calls kept made = record { files = made.files ∙ ap (option_map (run calls)) kept.same; log = made.log ∙ ap (option_map (logged calls)) kept.log }

unchanged_kept : {F : Type 0} (f : files.Ghosts F) (old mid new : F) → KeepsAll f old mid → IsUnchanged (f.files mid) (f.files new) (f.log mid) (f.log new) → IsUnchanged (f.files old) (f.files new) (f.log old) (f.log new)
unchanged_kept f old mid new kept same = record { files = same.files ∙ kept.same; log = same.log ∙ kept.log }

event_kept : {F : Type 0} (f : files.Ghosts F) (old mid new : F) (r s : FullReplica) (e : ReplicaEvent) → r ≡ s → KeepsAll f old mid → MakesEvent f mid new r e → MakesEvent f old new s e
event_kept f old mid new r s e is kept made =
    subst (λ x. MakesEvent f old new x e) is (record {
      strays = made.strays;
      are = subst (λ o. AreStrays o r.known.info (row r e).known.info made.strays) kept.same made.are;
      made = made_kept f old mid new (event_calls r e made.strays) kept made.made;
    })

stops_kept : {F : Type 0} (f : files.Ghosts F) (old mid new : F) (r s : FullReplica) (e : ReplicaEvent) → r ≡ s → KeepsAll f old mid → StopsEvent f mid new r e → StopsEvent f old new s e
stops_kept f old mid new r s e is kept (before_all same) = before_all (unchanged_kept f old mid new kept same)
stops_kept f old mid new r s e is kept (amid strays are stop) =
    subst (λ x. StopsEvent f old new x e) is
    (amid strays (subst (λ o. AreStrays o r.known.info (row r e).known.info strays) kept.same are)
    (stop.0, stop.1, made_kept f old mid new (stopped stop.0 stop.1 (event_calls r e strays)) kept stop.2))

-- A call that goes on from a book for which memory was taken ends as one from the book before.
pub ends_prepared : {F : Type 0} (f : files.Ghosts F) (old mid new : BookState F) (e : ReplicaEvent) (result : Result Taken BookFault) → IsPrepared f old mid → CallEnds f mid new e result → CallEnds f old new e result
ends_prepared f old mid new e (Ok taken) p ends =
    let same = replica_same f old mid p in
    record {
      takes = subst (λ r. Takes r e) same ends.takes;
      answer = ends.answer ∙ ap (λ r. row_answer r e) same;
      noted = notes_prepared f old mid new e false taken.receipt p ends.noted;
      made = event_kept f old.drawer mid.drawer new.drawer (replica_of mid) (replica_of old) e same p.drawer ends.made;
    }
ends_prepared f old mid new e (Err (fault.Refused x receipt)) p ends =
    let same = replica_same f old mid p in
    record {
      refused = ap (λ r. transition r.known (event_at r e)) (sym same) ∙ ends.refused;
      noted = notes_prepared f old mid new e false receipt p ends.noted;
      same = unchanged_kept f old.drawer mid.drawer new.drawer p.drawer ends.same;
    }
ends_prepared f old mid new e (Err (fault.File receipt)) p ends =
    let same = replica_same f old mid p in
    record {
      whole = subst (λ (r : FullReplica). r.known.is_broken ≡ false) same ends.whole;
      noted = notes_prepared f old mid new e true receipt p ends.noted;
      stopped = stops_kept f old.drawer mid.drawer new.drawer (replica_of mid) (replica_of old) e same p.drawer ends.stopped;
      rose = omega (arith, ends.rose, p.below);
    }
ends_prepared f old mid new e (Err fault.Memory) p ends =
    record {
      block = ends.block ∙ p.block;
      replica = ends.replica ∙ p.replica;
      history = record { start = ends.history.start ∙ p.history.start; entries = ends.history.entries ∙ p.history.entries };
      same = unchanged_kept f old.drawer mid.drawer new.drawer p.drawer ends.same;
    }

-- want of memory
pub ends_unmade : {F : Type 0} (f : files.Ghosts F) (old mid : BookState F) (e : ReplicaEvent) → IsPrepared f old mid → CallEnds f old mid e (Err fault.Memory)
ends_unmade f old mid e p =
    record { block = p.block; replica = p.replica; history = p.history; same = record { files = p.drawer.same; log = p.drawer.log } }

-- something failed before the first call
pub ends_failed : {F : Type 0} (f : files.Ghosts F) (old mid new : BookState F) (e : ReplicaEvent) (why : BookFault) → (replica_of old).known.is_broken ≡ false → IsPrepared f old mid → FaultsIncreased (f.faults old.drawer) (f.faults mid.drawer) → Fails f mid new e why → CallEnds f old new e (Err why)
ends_failed f old mid new e (fault.File receipt) whole p rose fails =
    record {
      whole = whole;
      noted = notes_prepared f old mid new e true receipt p fails.0;
      stopped = before_all (subst (λ d. IsUnchanged (f.files old.drawer) (f.files d) (f.log old.drawer) (f.log d)) (sym fails.1) (record { files = p.drawer.same; log = p.drawer.log }));
      rose = subst (λ d. FaultsIncreased (f.faults old.drawer) (f.faults d)) (sym fails.1) rose;
    }
ends_failed f old mid new e (fault.Refused x receipt) whole p rose fails = absurd fails
ends_failed f old mid new e fault.Memory whole p rose fails = absurd fails

-- ---- a book whose replica was stepped

pub stepped_same : {F : Type 0} (old mid : BookState F) → KeepsBook old mid → replica_of mid ≡ replica_of old
stepped_same old mid k = ap (λ b. replayed b mid.history) k.block ∙ ap (replayed old.block) k.history

pub ends_stepped : {F : Type 0} (f : files.Ghosts F) (old mid new : BookState F) (e : ReplicaEvent) (result : Result Taken BookFault) → KeepsBook old mid → TakenEnds f mid new e result → CallEnds f old new e result
ends_stepped f old mid new e (Ok taken) k ends =
    let same = stepped_same old mid k in
    record {
      takes = subst (λ r. Takes r e) same ends.takes;
      answer = ends.answer ∙ ap (λ r. row_answer r e) same;
      noted = notes_from old mid new e false taken.receipt k.block k.history ends.noted;
      made = subst (λ d. MakesEvent f d new.drawer (replica_of old) e) k.drawer (subst (λ r. MakesEvent f mid.drawer new.drawer r e) same ends.made);
    }
ends_stepped f old mid new e (Err (fault.File receipt)) k ends =
    record {
      whole = subst (λ (r : FullReplica). r.known.is_broken ≡ false) (stepped_same old mid k) ends.whole;
      noted = notes_from old mid new e true receipt k.block k.history ends.noted;
      stopped = subst (λ d. StopsEvent f d new.drawer (replica_of old) e) k.drawer (subst (λ r. StopsEvent f mid.drawer new.drawer r e) (stepped_same old mid k) ends.stopped);
      rose = subst (λ d. FaultsIncreased (f.faults d) (f.faults new.drawer)) k.drawer ends.rose;
    }
ends_stepped f old mid new e (Err (fault.Refused x receipt)) k ends = absurd ends
ends_stepped f old mid new e (Err fault.Memory) k ends = absurd ends

-- ---- memory that was taken in steps

pub reserved : {F : Type 0} (f : files.Ghosts F) (s : BookState F) (history : History) → IsSame s.history history → IsPrepared f s (record s { history = history })
reserved f s history same =
    record { block = refl; replica = refl; last_sum = refl; whole = refl; history = same; drawer = record { same = refl; log = refl; room = λ name. omega arith }; below = omega arith }

pub prepared_then : {F : Type 0} (f : files.Ghosts F) (a b c : BookState F) → IsPrepared f a b → IsPrepared f b c → IsPrepared f a c
prepared_then f a b c p q =
    record {
      block = q.block ∙ p.block;
      replica = q.replica ∙ p.replica;
      last_sum = q.last_sum ∙ p.last_sum;
      whole = q.whole ∙ p.whole;
      history = record { start = q.history.start ∙ p.history.start; entries = q.history.entries ∙ p.history.entries };
      drawer = record { same = q.drawer.same ∙ p.drawer.same; log = q.drawer.log ∙ p.drawer.log; room = λ name. omega (arith, p.drawer.room name, q.drawer.room name) };
      below = omega (arith, p.below, q.below);
    }

-- A refusal from a book whose replica was stepped.
pub ends_refused : {F : Type 0} (f : files.Ghosts F) (old mid new : BookState F) (e : ReplicaEvent) (why : BookFault) → KeepsBook old mid → IsRefusal f mid new e why → CallEnds f old new e (Err why)
ends_refused f old mid new e (fault.Refused x receipt) k ends =
    let same = stepped_same old mid k in
    record {
      refused = ap (λ r. transition r.known (event_at r e)) (sym same) ∙ ends.refused;
      noted = notes_from old mid new e false receipt k.block k.history ends.noted;
      same = record { files = ends.same.files ∙ ap (λ d. f.files d) k.drawer; log = ends.same.log ∙ ap (λ d. f.log d) k.drawer };
    }
ends_refused f old mid new e (fault.File receipt) k ends = absurd ends
ends_refused f old mid new e fault.Memory k ends = absurd ends

-- A refusal from a book whose history has room.
pub ends_barred : {F : Type 0} (f : files.Ghosts F) (old mid new : BookState F) (e : ReplicaEvent) (why : BookFault) → IsPrepared f old mid → IsRefusal f mid new e why → CallEnds f old new e (Err why)
ends_barred f old mid new e why p ends =
    ends_prepared f old mid new e (Err why) p (ends_refused f mid mid new e why (record { block = refl; drawer = refl; last_sum = refl; history = refl; whole = refl }) ends)

-- A public call that goes on from a book for which memory was taken ends as one from the book before.
pub book_ends_prepared : {F : Type 0} (f : files.Ghosts F) (old mid new : BookState F) (e : ReplicaEvent) (result : Result Receipt BookFault) → IsPrepared f old mid → BookEnds f mid new e result → BookEnds f old new e result
book_ends_prepared f old mid new e (Ok receipt) p ends =
    subst (λ r. EndsTaken f old new e (record { answer = row_answer r e; receipt = receipt })) (replica_same f old mid p)
    (ends_prepared f old mid new e (Ok (record { answer = row_answer (replica_of mid) e; receipt = receipt })) p ends)
book_ends_prepared f old mid new e (Err why) p ends = ends_prepared f old mid new e (Err why) p ends

pub stays_book : {F : Type 0} (f : files.Ghosts F) (old mid : BookState F) → IsPrepared f old mid → StaysBook f old mid
stays_book f old mid p = record { replica = replica_same f old mid p; files = p.drawer.same; ends = λ next e result ends. book_ends_prepared f old mid next e result p ends }
