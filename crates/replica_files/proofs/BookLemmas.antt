-- Books with one entry more.
use Rattle.std.proofs.Common.{◌≡◌, ℕ, Bool, true, List, [], ◌∷◌, ◌++◌, length, take, Option, None, Err, refl, sym, ap, subst, ◌∙◌}
use Rattle.std.proofs.Math.Seq.{take-append_seam}
use Rattle.hd_base.specs.declared.numbers.BlockId.{BlockId}
use Rattle.hd_base.specs.declared.numbers.Receipt.{Receipt}
use Rattle.hd_base.specs.declared.files.Files as files
use Rattle.replica_core.specs.declared.records.ReplicaRecord.{ReplicaRecord}
use Rattle.replica_core.specs.declared.info.ReplicaInfo.{ReplicaInfo}
use Rattle.replica_core.specs.declared.events.Event.TheVariants as event
use Rattle.replica_core.specs.declared.refusals.Refusal.{Refusal}
use Rattle.replica_core.specs.Transitions.{record_after, mark_broken, transition, state_after}
use Rattle.replica_core.specs.Views.{written_in}
use Rattle.replica_model.specs.declared.events.ReplicaEvent.{ReplicaEvent}
use Rattle.replica_model.specs.declared.histories.Entry.{Entry}
use Rattle.replica_model.specs.Rows.{FullReplica, IsFull, event_at, brought, row, broken}
use Rattle.replica_model.specs.Histories.{begun, after_entry, replay}
use Rattle.replica_files.specs.Breaks.{LeavesFiles}
use Rattle.replica_files.specs.Books.{replica_of, IsHeld, IsBookOf}
use Rattle.replica_files.specs.Endings.{Notes}
use Rattle.replica_files.specs.declared.book_state.BookState.{BookState}

-- ---- replay

replay_more : (r : FullReplica) (xs : List Entry) (x : Entry) → replay r (xs ++ x ∷ []) ≡ after_entry (replay r xs) x
replay_more r [] x = refl
replay_more r (y ∷ ys) x = replay_more (after_entry r y) ys x

-- the replica of a book with one entry more
pub noted : {F : Type 0} (old new : BookState F) (e : ReplicaEvent) (failed : Bool) (receipt : Receipt) → Notes old new e failed receipt
    → replica_of new ≡ after_entry (replica_of old) (record { event = e; failed = failed })
noted old new e failed receipt n =
    ap (λ b. replay (begun b new.history.start) new.history.entries.items) n.block
    ∙ ap (λ s. replay (begun old.block s) new.history.entries.items) n.entry.start
    ∙ ap (replay (begun old.block old.history.start)) n.entry.entries
    ∙ replay_more (begun old.block old.history.start) old.history.entries.items (record { event = e; failed = failed })

refused_same : (bytes more : List ℕ) (n : ℕ) → length bytes ≡ n → take n (bytes ++ more) ≡ bytes
refused_same bytes more n e = ap (λ m. take m (bytes ++ more)) (sym e) ∙ take-append_seam bytes more

-- a refused event leaves the replica
pub refused_row : (r : FullReplica) (e : ReplicaEvent) (refusal : Refusal) → transition r.known (event_at r e) ≡ Err refusal → IsFull r → row r e ≡ r
refused_row r e refusal is full =
    ap (λ o. record { known = record_after r.known o; bytes = take (written_in (record_after r.known o)) (r.bytes ++ brought (length r.bytes) e) }) is
    ∙ ap (λ (b : List ℕ). record { known = r.known; bytes = b }) (refused_same r.bytes (brought (length r.bytes) e) (written_in r.known) full.all)

-- ---- books

-- A book whose replica is held by its files, or left in them.
pub book_as : {F : Type 0} (f : files.Ghosts F) (s : BookState F) (drawer : F) (block : BlockId) (sum : ℕ) (whole : Bool) (r : FullReplica)
    → s.drawer ≡ drawer → s.block ≡ block → s.last_sum ≡ sum → s.whole ≡ whole → replica_of s ≡ r → s.replica ≡ r.known → IsHeld f drawer block sum r → LeavesFiles f drawer whole r → IsBookOf f s
book_as f s drawer block sum whole r at of_block kept stays is known held leaves =
    record {
      known = known ∙ ap (λ x. x.known) (sym is);
      held = subst (λ x. IsHeld f s.drawer s.block s.last_sum x) (sym is)
          (subst (λ x. IsHeld f s.drawer s.block x r) (sym kept)
          (subst (λ x. IsHeld f s.drawer x sum r) (sym of_block)
          (subst (λ x. IsHeld f x block sum r) (sym at) held)));
      left = subst (λ x. LeavesFiles f s.drawer s.whole x) (sym is)
          (subst (λ x. LeavesFiles f s.drawer x r) (sym stays)
          (subst (λ x. LeavesFiles f x whole r) (sym at) leaves));
    }

-- A replica that breaks, with what it held before.
pub breaks_so : (c k : ReplicaRecord) (before : Option ReplicaInfo) → c.block ≡ k.block → before ≡ k.info → mark_broken (record c { info = before }) ≡ state_after k event.FileFault
unfolding transition
breaks_so c k before block info = ap (λ b. record { block = b; info = before; stream = None; pending = []; is_broken = true }) block ∙ ap (λ i. record { block = k.block; info = i; stream = None; pending = []; is_broken = true }) info

pub broken_block : (r : FullReplica) → (broken r).known.block ≡ r.known.block
unfolding transition
broken_block r = refl
