-- What a packet with sync made durable survives a loss of power at any later call of its book.
use Rattle.std.proofs.Common.{◌≡◌, ℕ, suc, false, List, [], ◌∷◌, ◌++◌, Option, Some, None, IfSome, option_map, Result, Ok, Err, refl, sym, ap, subst, ◌∙◌, append_assoc}
use Rattle.hd_base.specs.FileMaps.{FileMap, part_of}
use Rattle.hd_base.specs.Calls.{Call, Log, logged, stopped, LogMakesFiles}
use Rattle.hd_base.specs.declared.files.Files as files
use Rattle.hd_base.specs.declared.numbers.Receipt.{Receipt}
use Rattle.file_calls.specs.Losses.{PowerLost}
use Rattle.block_files.specs.BlockCalls.{calls_of}
use Rattle.replica_core.specs.declared.info.ReplicaInfo.{ReplicaInfo}
use Rattle.replica_core.specs.declared.refusals.Refusal.{Refusal}
use Rattle.replica_core.specs.Transitions.{transition}
use Rattle.replica_model.specs.declared.events.ReplicaEvent.{ReplicaEvent}
use Rattle.replica_model.specs.declared.events.ReplicaEvent.TheVariants as replica_event
use Rattle.replica_model.specs.Rows.{FullReplica, IsFull, IsWithBytes, event_at, row}
use Rattle.replica_model.specs.Histories.{begun, replay}
use Rattle.replica_model.specs.Plans.{outcome_calls, plan, placement_of}
use Rattle.replica_calls.specs.CallLists.{remove_list}
use Rattle.replica_files.specs.declared.book_state.BookState.{BookState}
use Rattle.replica_files.specs.declared.book_state.Taken.{Taken}
use Rattle.replica_files.specs.declared.faults.BookFault.{BookFault}
use Rattle.replica_files.specs.declared.faults.BookFault.TheVariants as fault
use Rattle.replica_files.specs.Books.{replica_of, event_calls}
use Rattle.replica_files.specs.Endings.{EndsTaken, EndsRefused, EndsUnmade}
use Rattle.restart_scan.specs.declared.found.Found.{Found}
use Rattle.replica_files.proofs.BookLemmas.{noted}
use Rattle.restart_scan.proofs.EventLemmas.{turns, replayed_unrecovered}
use Rattle.durable_replicas.specs.Steady.{later_calls, EndsSynced}
use Rattle.durable_replicas.specs.Losses.{LosesAfter}
use Rattle.durable_replicas.specs.Survival.{BookCall, PassesCall, PassesAll, book_after, events_noted, LosesPower, LosesLater, HsyncsSurvive, HsyncsKeepFronts}
use Rattle.durable_replicas.proofs.SyncLemmas.{no_strays, packets_end_synced}
use Rattle.durable_replicas.proofs.BookLemmas.{IsHeldAfter, outcome_held, later_more, log_more, log_same}
use Rattle.durable_replicas.proofs.ShelfLemmas.{scans_keep_chunks, scans_keep_fronts}

-- ---- calls that were stopped behind others

-- Stopped in what stands behind some calls, all of those are made.
record StopsBehind (n : ℕ) (xs ys : List Call) (k : ℕ) : Type 0 where
  place : ℕ
  is : stopped place n (xs ++ ys) ≡ xs ++ stopped k n ys

stops_behind : (n : ℕ) (xs ys : List Call) (k : ℕ) → StopsBehind n xs ys k
stops_behind n [] ys k = record { place = k; is = refl }
stops_behind n (x ∷ xs) ys k =
    let rest = stops_behind n xs ys k in
    record { place = suc rest.place; is = ap (λ l. x ∷ l) rest.is }

-- ---- what a call leaves

-- the log after some calls, where it is observable
abbrev log_after : List Call → Option Log → Option Log
log_after calls log = option_map (logged calls) log

log_after_more : (xs ys : List Call) (log : Option Log) → log_after ys (log_after xs log) ≡ log_after (xs ++ ys) log
log_after_more xs ys None = refl
log_after_more xs ys (Some log) = ap Some (log_more log xs ys)

log_after_none : (log : Option Log) → log ≡ log_after [] log
log_after_none None = refl
log_after_none (Some log) = ap Some (log_same log)

-- the calls on the files of an event at a replica
abbrev calls_at : FullReplica → ReplicaEvent → List Call
calls_at r e = calls_of r.known.block.0 (plan r e) (placement_of r)

-- An event that a book notes makes of its replica what its row says, and its calls stand in the log.
record NotesEvent {F : Type 0} (f : files.Ghosts F) (old new : BookState F) (e : ReplicaEvent) : Type 0 where
  replica : replica_of new ≡ row (replica_of old) e
  log : f.log new.drawer ≡ log_after (calls_at (replica_of old) e) (f.log old.drawer)

taken_notes : {F : Type 0} (f : files.Ghosts F) (old new : BookState F) (e : ReplicaEvent) (taken : Taken) (h : ReplicaInfo) → (replica_of old).known.info ≡ Some h → EndsTaken f old new e taken → NotesEvent f old new e
taken_notes f old new e taken h there ends =
    let r = replica_of old in
    let calls_are : event_calls r e ends.made.strays ≡ calls_at r e =
    ap (λ l. remove_list l ++ calls_at r e) (no_strays (f.files old.drawer) r.known.info (row r e).known.info ends.made.strays h there ends.made.are) in
    record { replica = noted old new e false taken.receipt ends.noted; log = ends.made.made.log ∙ ap (λ l. log_after l (f.log old.drawer)) calls_are }

refused_notes : {F : Type 0} (f : files.Ghosts F) (old new : BookState F) (e : ReplicaEvent) (refusal : Refusal) (receipt : Receipt) → EndsRefused f old new e refusal receipt → NotesEvent f old new e
refused_notes f old new e refusal receipt ends =
    let r = replica_of old in
    let none : calls_at r e ≡ [] = ap (λ o. calls_of r.known.block.0 (outcome_calls e r.known.info r.bytes o) (placement_of r)) ends.refused in
    record {
      replica = noted old new e false receipt ends.noted;
      log = ends.same.log ∙ (log_after_none (f.log old.drawer) ∙ ap (λ l. log_after l (f.log old.drawer)) (sym none));
    }

-- Where memory ran out the replica is the same.
unmade_same : {F : Type 0} (f : files.Ghosts F) (old new : BookState F) → EndsUnmade f old new → replica_of new ≡ replica_of old
unmade_same f old new ends =
    ap (λ b. replay (begun b new.history.start) new.history.entries.items) ends.block
    ∙ (ap (λ s. replay (begun old.block s) new.history.entries.items) ends.history.start
    ∙ ap (replay (begun old.block old.history.start)) ends.history.entries)

-- ---- all calls

-- The log of the last book, and the calls of what comes then.
record Follows {F : Type 0} (f : files.Ghosts F) (book : BookState F) (calls : List (BookCall F)) (more : List ReplicaEvent) : Type 0 where
  log : f.log (book_after book calls).drawer ≡ log_after (later_calls (replica_of book) (events_noted calls)) (f.log book.drawer)
  behind : later_calls (replica_of book) (events_noted calls ++ more) ≡ later_calls (replica_of book) (events_noted calls) ++ later_calls (replica_of (book_after book calls)) more

-- What follows an event that was noted.
follows_noted : {F : Type 0} (f : files.Ghosts F) (book after : BookState F) (e : ReplicaEvent) (calls : List (BookCall F)) (more : List ReplicaEvent) → IsFull (replica_of book) → IsWithBytes e → NotesEvent f book after e → Follows f after calls more
    → (f.log (book_after after calls).drawer ≡ log_after (later_calls (replica_of book) (e ∷ events_noted calls)) (f.log book.drawer))
    × (later_calls (replica_of book) (e ∷ (events_noted calls ++ more)) ≡ later_calls (replica_of book) (e ∷ events_noted calls) ++ later_calls (replica_of (book_after after calls)) more)
follows_noted f book after e calls more full with_bytes notes rest = (log, behind) where
  r : FullReplica
  r = replica_of book

  es : List ReplicaEvent
  es = events_noted calls

  split : later_calls r (e ∷ es) ≡ calls_at r e ++ later_calls (replica_of after) es
  split = later_more r e es full with_bytes ∙ ap (λ q. calls_at r e ++ later_calls q es) (sym notes.replica)

  log : f.log (book_after after calls).drawer ≡ log_after (later_calls r (e ∷ es)) (f.log book.drawer)
  log = rest.log ∙ (ap (log_after (later_calls (replica_of after) es)) notes.log
      ∙ (log_after_more (calls_at r e) (later_calls (replica_of after) es) (f.log book.drawer)
      ∙ ap (λ l. log_after l (f.log book.drawer)) (sym split)))

  behind : later_calls r (e ∷ (es ++ more)) ≡ later_calls r (e ∷ es) ++ later_calls (replica_of (book_after after calls)) more
  behind = later_more r e (es ++ more) full with_bytes
      ∙ (ap (λ q. calls_at r e ++ later_calls q (es ++ more)) (sym notes.replica)
      ∙ (ap (λ l. calls_at r e ++ l) rest.behind
      ∙ (sym (append_assoc (calls_at r e) (later_calls (replica_of after) es) (later_calls (replica_of (book_after after calls)) more))
      ∙ ap (λ l. l ++ later_calls (replica_of (book_after after calls)) more) (sym split))))

held_after : {F : Type 0} (f : files.Ghosts F) (book after : BookState F) (e : ReplicaEvent) (h : ReplicaInfo) → (replica_of book).known.info ≡ Some h → NotesEvent f book after e → IsHeldAfter (replica_of after).known.info
held_after f book after e h there notes =
    let r = replica_of book in
    let held = outcome_held r.known (transition r.known (event_at r e)) h there (turns r.known (event_at r e) (replayed_unrecovered book.block book.history)) in
    record { held = held.held; there = ap (λ (q : FullReplica). q.known.info) notes.replica ∙ held.there }

follows : {F : Type 0} (f : files.Ghosts F) (book : BookState F) (calls : List (BookCall F)) (more : List ReplicaEvent) (h : ReplicaInfo) → (replica_of book).known.info ≡ Some h → PassesAll f book calls → Follows f book calls more
follows f book [] more h there passes = record { log = log_after_none (f.log book.drawer); behind = refl }
follows {F} f book (c ∷ calls) more h there passes = by c.ended passes.2 (λ k at. follows f c.after calls more k at passes.3) where
  by_noted : NotesEvent f book c.after c.event → ((k : ReplicaInfo) → (replica_of c.after).known.info ≡ Some k → Follows f c.after calls more) → Follows f c.after calls more
  by_noted notes later = let held = held_after f book c.after c.event h there notes in later held.held held.there

  by : (ended : Result Taken BookFault) → PassesCall f book c.after c.event ended → ((k : ReplicaInfo) → (replica_of c.after).known.info ≡ Some k → Follows f c.after calls more) → Follows f book (record c { ended = ended } ∷ calls) more
  by (Ok taken) ends later =
      let notes = taken_notes f book c.after c.event taken h there ends in
      let both = follows_noted f book c.after c.event calls more passes.0.held.full passes.1 notes (by_noted notes later) in
      record { log = both.0; behind = both.1 }
  by (Err (fault.Refused refusal receipt)) ends later =
      let notes = refused_notes f book c.after c.event refusal receipt ends in
      let both = follows_noted f book c.after c.event calls more passes.0.held.full passes.1 notes (by_noted notes later) in
      record { log = both.0; behind = both.1 }
  by (Err (fault.File receipt)) ends later = absurd ends
  by (Err fault.Memory) ends later =
      let same = unmade_same f book c.after ends in
      let rest = later h (ap (λ (q : FullReplica). q.known.info) same ∙ there) in
      record {
        log = rest.log ∙ (ap (λ q. log_after (later_calls q (events_noted calls)) (f.log c.after.drawer)) same
            ∙ ap (log_after (later_calls (replica_of book) (events_noted calls))) ends.same.log);
        behind = subst (λ q. later_calls q (events_noted calls ++ more) ≡ later_calls q (events_noted calls) ++ later_calls (replica_of (book_after c.after calls)) more) same rest.behind;
      }

-- ---- the loss of power

-- The log when the sync was made, and the loss that comes after all events behind it.
record LosesBehind {F : Type 0} (f : files.Ghosts F) (synced : BookState F) (es : List ReplicaEvent) (left : FileMap) : Type 0 where
  log : Log
  told : f.log synced.drawer ≡ Some log
  loses : LosesAfter log (replica_of synced) es left

no_log : (log : Log) → ◌≡◌ {A = Option Log} None (Some log) → ⊥
no_log log e = cc

same_log : (a b : Log) → ◌≡◌ {A = Option Log} (Some a) (Some b) → a ≡ b
same_log a b e = cc

loses_behind : {F : Type 0} (f : files.Ghosts F) (synced : BookState F) (calls : List (BookCall F)) (more : List ReplicaEvent) (left : FileMap) → Follows f synced calls more → LosesPower f (book_after synced calls) more left
    → LosesBehind f synced (events_noted calls ++ more) left
loses_behind {F} f synced calls more left follows lost = by (f.log synced.drawer) refl where
  r : FullReplica
  r = replica_of synced

  done : List Call
  done = later_calls r (events_noted calls)

  last : FullReplica
  last = replica_of (book_after synced calls)

  by : (o : Option Log) → f.log synced.drawer ≡ o → LosesBehind f synced (events_noted calls ++ more) left
  by None at = absurd (no_log lost.log (sym (follows.log ∙ ap (log_after done) at) ∙ lost.told))
  by (Some log) at =
      let is : logged done log ≡ lost.log = same_log _ _ (sym (follows.log ∙ ap (log_after done) at) ∙ lost.told) in
      let behind = stops_behind lost.loses.n done (later_calls last more) lost.loses.k in
      let calls_are : log.calls ++ stopped behind.place lost.loses.n (later_calls r (events_noted calls ++ more)) ≡ (log.calls ++ done) ++ stopped lost.loses.k lost.loses.n (later_calls last more) =
      ap (λ l. log.calls ++ stopped behind.place lost.loses.n l) follows.behind ∙ (ap (λ l. log.calls ++ l) behind.is
      ∙ sym (append_assoc log.calls done (stopped lost.loses.k lost.loses.n (later_calls last more)))) in
      let here : PowerLost log.start ((log.calls ++ done) ++ stopped lost.loses.k lost.loses.n (later_calls last more)) left =
      subst (λ (l : Log). PowerLost l.start (l.calls ++ stopped lost.loses.k lost.loses.n (later_calls last more)) left) (sym is) lost.loses.lost in
      record {
        log = log;
        told = at;
        loses = record { k = behind.place; n = lost.loses.n; lost = subst (λ l. PowerLost log.start l left) (sym calls_are) here };
      }

-- The log ended with the syncs of the replica's files then.
synced_ends : {F : Type 0} (f : files.Ghosts F) → ((drawer : F) → LogMakesFiles (f.log drawer) (f.files drawer)) → (old synced : BookState F) (h : ReplicaInfo) (n : ℕ) (shelf new : FileMap) (found : Found) (lost : LosesLater f old synced h n shelf new found) (log : Log)
    → f.log synced.drawer ≡ Some log → EndsSynced (replica_of synced) log
synced_ends f law old synced h n shelf new found lost log told =
    let t = lost.takes in
    let e = replica_event.Packet t.conn t.packet in
    let at = packets_end_synced f law old synced t.conn t.packet t.receipt t.is_book t.asks t.takes in
    let same = noted old synced e false t.receipt t.takes.noted in
    subst (λ q. EndsSynced q log) (sym same) (subst (λ o. IfSome o (EndsSynced (row (replica_of old) e))) told at)

behind_sync : {F : Type 0} (f : files.Ghosts F) (old synced : BookState F) (h : ReplicaInfo) (n : ℕ) (shelf new : FileMap) (found : Found) (lost : LosesLater f old synced h n shelf new found)
    → LosesBehind f synced (events_noted lost.calls ++ lost.more) (part_of (replica_of synced).known.block.0 shelf)
behind_sync f old synced h n shelf new found lost =
    loses_behind f synced lost.calls lost.more (part_of (replica_of synced).known.block.0 shelf) (follows f synced lost.calls lost.more h lost.takes.kept.there lost.passes) lost.loses

pub hsyncs_survive : {F : Type 0} (f : files.Ghosts F) → ((drawer : F) → LogMakesFiles (f.log drawer) (f.files drawer)) → HsyncsSurvive f
hsyncs_survive f law old synced h n shelf new found lost =
    let b = behind_sync f old synced h n shelf new found lost in
    let ends = synced_ends f law old synced h n shelf new found lost b.log b.told in
    scans_keep_chunks b.log (replica_of synced) h (events_noted lost.calls ++ lost.more) n shelf new found lost.takes.kept ends lost.within lost.steady b.loses lost.scans

pub hsyncs_keep_fronts : {F : Type 0} (f : files.Ghosts F) → ((drawer : F) → LogMakesFiles (f.log drawer) (f.files drawer)) → HsyncsKeepFronts f
hsyncs_keep_fronts f law old synced h n shelf new found written lost summed none =
    let b = behind_sync f old synced h n shelf new found lost in
    let ends = synced_ends f law old synced h n shelf new found lost b.log b.told in
    scans_keep_fronts b.log (replica_of synced) h (events_noted lost.calls ++ lost.more) n shelf new found written lost.takes.kept ends lost.within lost.steady b.loses summed none lost.scans
