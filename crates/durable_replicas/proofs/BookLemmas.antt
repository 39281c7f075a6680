-- The events that a book takes add just their calls to its log.
use Rattle.std.proofs.Common.{◌≡◌, false, List, [], ◌∷◌, ◌++◌, Option, Some, None, option_map, Ok, Err, refl, sym, ap, ◌∙◌, append_assoc, append-nil}
use Rattle.std.specs.Result.{IfOk}
use Rattle.hd_base.specs.Calls.{Call, Log, logged}
use Rattle.hd_base.specs.declared.files.Files as files
use Rattle.hd_base.specs.declared.numbers.BlockId.{BlockId}
use Rattle.block_files.specs.BlockCalls.{calls_of}
use Rattle.replica_core.specs.declared.records.ReplicaRecord.{ReplicaRecord}
use Rattle.replica_core.specs.declared.info.ReplicaInfo.{ReplicaInfo}
use Rattle.replica_core.specs.Transitions.{Outcome, record_after, transition}
use Rattle.replica_model.specs.declared.events.ReplicaEvent.{ReplicaEvent}
use Rattle.replica_model.specs.Rows.{FullReplica, IsFull, IsWithBytes, event_at, row}
use Rattle.replica_model.specs.Plans.{plan, placement_of}
use Rattle.replica_model.proofs.BlockLemmas.{block_kept}
use Rattle.replica_model.proofs.RowLemmas.{plans_follow_rows}
use Rattle.replica_calls.specs.CallLists.{remove_list}
use Rattle.replica_files.specs.Books.{replica_of, event_calls}
use Rattle.replica_files.proofs.BookLemmas.{noted}
use Rattle.restart_scan.proofs.EventLemmas.{Turns, TurnsTo, turns, replayed_unrecovered}
use Rattle.durable_replicas.specs.Steady.{all_plans, later_calls}
use Rattle.durable_replicas.specs.Books.{events_of, LogsFollowEvents}
use Rattle.durable_replicas.proofs.SyncLemmas.{calls_append, no_strays, none_some}

-- ---- the replica stays there

-- Something is held.
pub record IsHeldAfter (q : Option ReplicaInfo) : Type 0 where
  pub held : ReplicaInfo
  pub there : q ≡ Some held

turned_held : (o q : Option ReplicaInfo) (h : ReplicaInfo) → o ≡ Some h → Turns o q → IsHeldAfter q
unfolding Turns
turned_held None q h there turned = absurd (none_some h there)
turned_held (Some g) None h there turned = absurd turned
turned_held (Some g) (Some k) h there turned = record { held = k; there = refl }

pub outcome_held : (c : ReplicaRecord) (out : Outcome) (h : ReplicaInfo) → c.info ≡ Some h → IfOk out (TurnsTo c) → IsHeldAfter (record_after c out).info
outcome_held c (Ok t) h there turned = turned_held c.info t.replica.info h there turned
outcome_held c (Err e) h there turned = record { held = h; there = there }

-- ---- the calls

pub later_more : (r : FullReplica) (e : ReplicaEvent) (es : List ReplicaEvent) → IsFull r → IsWithBytes e → later_calls r (e ∷ es) ≡ calls_of r.known.block.0 (plan r e) (placement_of r) ++ later_calls (row r e) es
later_more r e es full with_bytes =
    let b = r.known.block.0 in
    let first = calls_of b (plan r e) (placement_of r) in
    let same : (row r e).known.block.0 ≡ b = ap (λ (k : BlockId). k.0) (block_kept r.known (event_at r e)) in
    calls_append b (plan r e) (all_plans (row r e) es) (placement_of r)
    ∙ (ap (λ p. first ++ calls_of b (all_plans (row r e) es) p) (plans_follow_rows r e full with_bytes)
    ∙ ap (λ k. first ++ calls_of k (all_plans (row r e) es) (placement_of (row r e))) (sym same))

-- ---- the log

pub log_more : (log : Log) (xs ys : List Call) → logged ys (logged xs log) ≡ logged (xs ++ ys) log
log_more log xs ys = ap (λ l. let x : Log = record { start = log.start; calls = l } in x) (append_assoc log.calls xs ys)

pub log_same : (log : Log) → log ≡ logged [] log
log_same log = ap (λ l. let x : Log = record { start = log.start; calls = l } in x) (sym (append-nil log.calls))

pub logs_follow_events : {F : Type 0} (f : files.Ghosts F) → LogsFollowEvents f
logs_follow_events {F} f book [] h log there at takes = at ∙ ap Some (log_same log)
logs_follow_events {F} f book (s ∷ steps) h log there at takes =
    let r = replica_of book in
    let e = s.event in
    let ends = takes.2 in
    let full = takes.0.held.full in
    let first = calls_of r.known.block.0 (plan r e) (placement_of r) in
    let after : replica_of s.after ≡ row r e = noted book s.after e false s.taken.receipt ends.noted in
    let calls_are : event_calls r e ends.made.strays ≡ first =
    ap (λ l. remove_list l ++ first) (no_strays (f.files book.drawer) r.known.info (row r e).known.info ends.made.strays h there ends.made.are) in
    let next : f.log s.after.drawer ≡ Some (logged first log) =
    ends.made.made.log ∙ (ap (option_map (logged (event_calls r e ends.made.strays))) at ∙ ap (λ l. Some (logged l log)) calls_are) in
    let held = outcome_held r.known (transition r.known (event_at r e)) h there (turns r.known (event_at r e) (replayed_unrecovered book.block book.history)) in
    let rest = logs_follow_events f s.after steps held.held (logged first log) (ap (λ (q : FullReplica). q.known.info) after ∙ held.there) next takes.3 in
    rest ∙ (ap (λ q. Some (logged (later_calls q (events_of steps)) (logged first log))) after
    ∙ (ap Some (log_more log first (later_calls (row r e) (events_of steps)))
    ∙ ap (λ l. Some (logged l log)) (sym (later_more r e (events_of steps) full takes.1))))
