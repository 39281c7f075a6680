-- Of a book that took the events of a history with a packet with sync, a scan lists what was synced.
use Rattle.std.proofs.Common.{◌≡◌, ℕ, false, List, [], ◌∷◌, ◌++◌, Result, Ok, Err, refl, sym, ap, subst, ◌∙◌}
use Rattle.hd_base.specs.declared.files.Files as files
use Rattle.replica_model.specs.declared.events.ReplicaEvent.{ReplicaEvent}
use Rattle.replica_model.specs.Rows.{FullReplica, row}
use Rattle.replica_model.specs.Histories.{begun, replay}
use Rattle.replica_files.specs.declared.book_state.BookState.{BookState}
use Rattle.replica_files.specs.declared.book_state.Taken.{Taken}
use Rattle.replica_files.specs.declared.faults.BookFault.{BookFault}
use Rattle.replica_files.specs.declared.faults.BookFault.TheVariants as fault
use Rattle.replica_files.specs.Books.{IsBookOf, replica_of}
use Rattle.replica_files.specs.Endings.{EndsUnmade}
use Rattle.replica_files.proofs.BookLemmas.{noted}
use Rattle.durable_replicas.specs.Steady.{IsSteady}
use Rattle.durable_replicas.specs.Survival.{BookCall, PassesCall, PassesAll, book_after, events_noted, noted_with}
use Rattle.world_syncs.specs.Histories.{replayed}
use Rattle.world_syncs.specs.Syncing.{LeaveBytes}
use Rattle.durable_answers.specs.Histories.{HaveNumbers}

-- Where memory ran out the replica is the same.
unmade-same : {F : Type 0} (f : files.Ghosts F) (old new : BookState F) → EndsUnmade f old new → replica_of new ≡ replica_of old
unmade-same f old new ends =
    ap (λ b. replay (begun b new.history.start) new.history.entries.items) ends.block
    ∙ (ap (λ s. replay (begun old.block s) new.history.entries.items) ends.history.start
    ∙ ap (replay (begun old.block old.history.start)) ends.history.entries)

-- the calls of a book behind that which noted an event
pub record SplitCalls {F : Type 0} (f : files.Ghosts F) (book : BookState F) (calls : List (BookCall F)) (before : List ReplicaEvent) (e : ReplicaEvent) (after : List ReplicaEvent) : Type 0 where
  pub old : BookState F
  pub synced : BookState F
  pub later : List (BookCall F)
  pub ended : Result Taken BookFault
  pub replica : replica_of old ≡ replayed (replica_of book) before
  pub is_book : IsBookOf f old
  pub noted : noted_with ended e [] ≡ e ∷ []
  pub ends : PassesCall f old synced e ended
  pub passes : PassesAll f synced later
  pub rest : events_noted later ≡ after
  pub last : book_after synced later ≡ book_after book calls
  pub block : synced.block ≡ book.block

no-event : (before : List ReplicaEvent) (e : ReplicaEvent) (after : List ReplicaEvent) → [] ≡ before ++ e ∷ after → ⊥
no-event [] e after q = cc
no-event (b ∷ bs) e after q = cc

same-head : (a b : ReplicaEvent) (xs ys : List ReplicaEvent) → a ∷ xs ≡ b ∷ ys → a ≡ b
same-head a b xs ys q = cc

same-tail : (a b : ReplicaEvent) (xs ys : List ReplicaEvent) → a ∷ xs ≡ b ∷ ys → xs ≡ ys
same-tail a b xs ys q = cc

-- a call that noted its event
record Noting {F : Type 0} (f : files.Ghosts F) (book : BookState F) (c : BookCall F) (ended : Result Taken BookFault) : Type 0 where
  noted : (e : ReplicaEvent) → noted_with ended e [] ≡ e ∷ []
  replica : replica_of c.after ≡ row (replica_of book) c.event
  block : c.after.block ≡ book.block

pub split-calls : {F : Type 0} (f : files.Ghosts F) (book : BookState F) (calls : List (BookCall F)) (before : List ReplicaEvent) (e : ReplicaEvent) (after : List ReplicaEvent) → PassesAll f book calls → events_noted calls ≡ before ++ e ∷ after → SplitCalls f book calls before e after
split-calls f book [] before e after p q = absurd (no-event before e after q)
split-calls {F} f book (c ∷ calls) before e after p q = by c.ended p.2 q (λ xs r. split-calls f c.after calls xs e after p.3 r)
  where
    goes : (ended : Result Taken BookFault) (bs : List ReplicaEvent) → Noting f book c ended → PassesCall f book c.after c.event ended → c.event ∷ events_noted calls ≡ bs ++ e ∷ after → ((xs : List ReplicaEvent) → events_noted calls ≡ xs ++ e ∷ after → SplitCalls f c.after calls xs e after) → SplitCalls f book (c ∷ calls) bs e after
    goes ended [] n ends r again = record {
      old = book;
      synced = c.after;
      later = calls;
      ended = ended;
      replica = refl;
      is_book = p.0;
      noted = n.noted e;
      ends = subst (λ (x : ReplicaEvent). PassesCall f book c.after x ended) (same-head c.event e (events_noted calls) after r) ends;
      passes = p.3;
      rest = same-tail c.event e (events_noted calls) after r;
      last = refl;
      block = n.block;
    }
    goes ended (b ∷ bs) n ends r again =
        let z = again bs (same-tail c.event b (events_noted calls) (bs ++ e ∷ after) r) in
        record {
          old = z.old;
          synced = z.synced;
          later = z.later;
          ended = z.ended;
          replica = z.replica ∙ ap (λ (s : FullReplica). replayed s bs) (n.replica ∙ ap (λ (d : ReplicaEvent). row (replica_of book) d) (same-head c.event b (events_noted calls) (bs ++ e ∷ after) r));
          is_book = z.is_book;
          noted = z.noted;
          ends = z.ends;
          passes = z.passes;
          rest = z.rest;
          last = z.last;
          block = z.block ∙ n.block;
        }

    by : (ended : Result Taken BookFault) → PassesCall f book c.after c.event ended → noted_with ended c.event (events_noted calls) ≡ before ++ e ∷ after → ((xs : List ReplicaEvent) → events_noted calls ≡ xs ++ e ∷ after → SplitCalls f c.after calls xs e after) → SplitCalls f book (c ∷ calls) before e after
    by (Ok taken) ends r again = goes (Ok taken) before (record { noted = λ d. refl; replica = noted book c.after c.event false taken.receipt ends.noted; block = ends.noted.block }) ends r again
    by (Err (fault.Refused refusal receipt)) ends r again = goes (Err (fault.Refused refusal receipt)) before (record { noted = λ d. refl; replica = noted book c.after c.event false receipt ends.noted; block = ends.noted.block }) ends r again
    by (Err (fault.File receipt)) ends r again = absurd ends
    by (Err fault.Memory) ends r again =
        let z = again before r in
        record {
          old = z.old;
          synced = z.synced;
          later = z.later;
          ended = z.ended;
          replica = z.replica ∙ ap (λ (s : FullReplica). replayed s before) (unmade-same f book c.after ends);
          is_book = z.is_book;
          noted = z.noted;
          ends = z.ends;
          passes = z.passes;
          rest = z.rest;
          last = z.last;
          block = z.block ∙ ends.block;
        }

-- the events behind leave as many bytes
pub steady-later : {F : Type 0} (f : files.Ghosts F) (n : ℕ) (book : BookState F) (calls : List (BookCall F)) (more : List ReplicaEvent) → PassesAll f book calls → LeaveBytes n (replica_of book) (events_noted calls) → HaveNumbers (replica_of book) (events_noted calls) → IsSteady n (replica_of (book_after book calls)) more
    → IsSteady n (replica_of book) (events_noted calls ++ more)
steady-later f n book [] more p l m s = s
steady-later {F} f n book (c ∷ calls) more p l m s = by c.ended p.2 l m (λ x y. steady-later f n c.after calls more p.3 x y s)
  where
    goes : replica_of c.after ≡ row (replica_of book) c.event → LeaveBytes n (replica_of book) (c.event ∷ events_noted calls) → HaveNumbers (replica_of book) (c.event ∷ events_noted calls) → (LeaveBytes n (replica_of c.after) (events_noted calls) → HaveNumbers (replica_of c.after) (events_noted calls) → IsSteady n (replica_of c.after) (events_noted calls ++ more)) → IsSteady n (replica_of book) (c.event ∷ (events_noted calls ++ more))
    goes is x y again = (
      record { with_bytes = p.1; numbers = y.0; enough = x.0 },
      subst (λ (r : FullReplica). IsSteady n r (events_noted calls ++ more)) is
          (again (subst (λ (r : FullReplica). LeaveBytes n r (events_noted calls)) (sym is) x.1) (subst (λ (r : FullReplica). HaveNumbers r (events_noted calls)) (sym is) y.1)),
    )

    by : (ended : Result Taken BookFault) → PassesCall f book c.after c.event ended → LeaveBytes n (replica_of book) (noted_with ended c.event (events_noted calls)) → HaveNumbers (replica_of book) (noted_with ended c.event (events_noted calls)) → (LeaveBytes n (replica_of c.after) (events_noted calls) → HaveNumbers (replica_of c.after) (events_noted calls) → IsSteady n (replica_of c.after) (events_noted calls ++ more)) → IsSteady n (replica_of book) (noted_with ended c.event (events_noted calls) ++ more)
    by (Ok taken) ends x y again = goes (noted book c.after c.event false taken.receipt ends.noted) x y again
    by (Err (fault.Refused refusal receipt)) ends x y again = goes (noted book c.after c.event false receipt ends.noted) x y again
    by (Err (fault.File receipt)) ends x y again = absurd ends
    by (Err fault.Memory) ends x y again =
        let same = unmade-same f book c.after ends in
        subst (λ (r : FullReplica). IsSteady n r (events_noted calls ++ more)) same
        (again (subst (λ (r : FullReplica). LeaveBytes n r (events_noted calls)) (sym same) x) (subst (λ (r : FullReplica). HaveNumbers r (events_noted calls)) (sym same) y))
