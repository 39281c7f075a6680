-- What every event makes of a replica's state: a TEMPORARY replica is under no recovery, and becomes RBW with its last ack alone.
use Rattle.std.proofs.Common.{◌≡◌, ◌⊎◌, inl, inr, ℕ, negsuc, ◌<◌, ◌≤◌, ◌||◌, not, is_none, Bool, true, false, List, [], ◌∷◌, Option, Some, None, Result, Ok, Err, IfSome, refl, sym, ap, subst, ◌∙◌, arith}
use Rattle.std.specs.Result.{IfOk}
use Rattle.std.specs.Ordering.{int_eq}
use Rattle.std.proofs.lemmas.Bool.Decides.{nat_tests}
use Rattle.hd_base.specs.declared.states.ReplicaState.{ReplicaState}
use Rattle.hd_base.specs.declared.states.ReplicaState.TheVariants as state
use Rattle.hd_base.specs.declared.numbers.ConnId.{ConnId}
use Rattle.hd_base.specs.declared.numbers.BlockId.{BlockId}
use Rattle.hd_base.specs.declared.numbers.Stamp.{Stamp}
use Rattle.hd_base.specs.SumRules.{Rule}
use Rattle.hd_base.specs.Results.{◌>>=◌}
use Rattle.meta_file.specs.declared.names.Folder.TheVariants.{Rbw}
use Rattle.replica_core.specs.declared.records.ReplicaRecord.{ReplicaRecord}
use Rattle.replica_core.specs.declared.ack_queue.PendingPacket.{PendingPacket}
use Rattle.replica_core.specs.declared.events.Event.{Event}
use Rattle.replica_core.specs.declared.events.Event.TheVariants as event
use Rattle.replica_core.specs.declared.extents.PacketExtent.{PacketExtent}
use Rattle.replica_core.specs.declared.info.ReplicaInfo.{ReplicaInfo}
use Rattle.replica_core.specs.declared.refusals.Refusal.{Refusal}
use Rattle.replica_core.specs.declared.refusals.Refusal.TheVariants as refusal
use Rattle.replica_core.specs.Refusals.{check}
use Rattle.replica_core.specs.Info.{state_of, state_under, is_finalized, is_rbw, is_writable, is_temporary, settled_at, reopen, recover_setup, recover_stream, begin_recovery, end_recovery, readable, given, visible_of, advance_acked, close_stream, extend_written, state_after_last}
use Rattle.replica_core.specs.Extents.{stream_after, heartbeat_of, pending_of}
use Rattle.replica_core.specs.Transitions.{Taken, Outcome, done, record_after, present, set_writer, with_writer, new_transition, extent_transition, packet_transition, stream_by, oldest_of, acknowledge, is_written_by, transition}
use Rattle.replica_core.proofs.StepLemmas.{choice, if_check, if_step}
use Rattle.replica_core.proofs.InfoLemmas.{present_is, reopen_is, recover_setup_is, recover_stream_is, begin_recovery_is, end_recovery_is}
use Rattle.replica_model.specs.declared.events.ReplicaEvent.{ReplicaEvent}
use Rattle.replica_model.specs.declared.events.ReplicaEvent.TheVariants as replica_event
use Rattle.replica_model.specs.declared.histories.Start.{Start}
use Rattle.replica_model.specs.declared.histories.Start.TheVariants as start
use Rattle.replica_model.specs.declared.histories.Entry.{Entry}
use Rattle.replica_model.specs.declared.histories.History.{History}
use Rattle.replica_model.specs.Rows.{FullReplica, row, event_at}
use Rattle.replica_model.specs.Histories.{begun, after_entry, replay, replayed}
use Rattle.replica_model.specs.Plans.{folder_of}
use Rattle.restart_scan.specs.Laws.{IsTransfer}

true_false : true ≡ false → ⊥
true_false e = cc

-- A TEMPORARY replica is under no recovery.
abbrev pub IsUnrecovered : ReplicaInfo → Type 0
IsUnrecovered h = is_temporary h.original ≡ true → h.recovery ≡ None

-- What is held becomes this.
pub record Becomes (h k : ReplicaInfo) : Type 0 where
  pub temporary : is_temporary h.original ≡ true → (is_temporary k.original ≡ true) ⊎ IsTransfer h k
  pub apart : is_temporary h.original ≡ false → is_temporary k.original ≡ false
  pub final_cut : k.written < h.written → is_finalized h.original ≡ true → is_finalized k.original ≡ true
  pub unrecovered : IsUnrecovered k

-- A new replica isn't FINALIZED, and is under no recovery.
pub record IsBegun (k : ReplicaInfo) : Type 0 where
  pub unfinished : is_finalized k.original ≡ false
  pub unrecovered : IsUnrecovered k

unfoldable pub Turns : Option ReplicaInfo → Option ReplicaInfo → Type 0
Turns None None = Unit {0}
Turns None (Some k) = IsBegun k
Turns (Some h) None = ⊥
Turns (Some h) (Some k) = Becomes h k

abbrev pub TurnsTo : ReplicaRecord → Taken → Type 0
TurnsTo c t = Turns c.info t.replica.info

-- ---- what is held

-- with the same state, and no fewer bytes
like : (h k : ReplicaInfo) → IsUnrecovered h → k.original ≡ h.original → k.recovery ≡ h.recovery → h.written ≤ k.written → Becomes h k
like h k u original recovery more = record {
  temporary = λ e. inl (ap is_temporary original ∙ e);
  apart = λ e. ap is_temporary original ∙ e;
  final_cut = λ less final. absurd (omega (arith, less, more));
  unrecovered = λ e. recovery ∙ u (sym (ap is_temporary original) ∙ e);
}

temporary_state : (h : ReplicaInfo) → IsUnrecovered h → is_temporary h.original ≡ true → is_temporary (state_of h) ≡ true
temporary_state h u e = ap (λ o. is_temporary (state_under o h.original)) (u e) ∙ e

-- settled where the replica wasn't TEMPORARY
settled : (h k : ReplicaInfo) (into : ReplicaState) (stamp : Stamp) (r : Rule) (n : ℕ) → (is_temporary h.original ≡ true → ⊥) → is_temporary into ≡ false → (n < h.written → is_finalized h.original ≡ true → is_finalized into ≡ true)
    → k ≡ settled_at into stamp r n → Becomes h k
settled h k into stamp r n apart plain final e = subst (Becomes h) (sym e) (record {
  temporary = λ t. absurd (apart t);
  apart = λ _. plain;
  final_cut = final;
  unrecovered = λ _. refl;
})

final_apart : (s : ReplicaState) → is_finalized s ≡ true → is_temporary s ≡ true → ⊥
final_apart state.Finalized e t = true_false (sym t)
final_apart state.Rbw e t = true_false (sym e)
final_apart state.Rwr e t = true_false (sym e)
final_apart state.Rur e t = true_false (sym e)
final_apart state.Temporary e t = true_false (sym e)

rbw_apart : (s : ReplicaState) → is_rbw s ≡ true → is_temporary s ≡ true → ⊥
rbw_apart state.Finalized e t = true_false (sym e)
rbw_apart state.Rbw e t = true_false (sym t)
rbw_apart state.Rwr e t = true_false (sym e)
rbw_apart state.Rur e t = true_false (sym e)
rbw_apart state.Temporary e t = true_false (sym e)

either_apart : (s : ReplicaState) → (is_finalized s || is_rbw s) ≡ true → is_temporary s ≡ true → ⊥
either_apart state.Finalized e t = true_false (sym t)
either_apart state.Rbw e t = true_false (sym t)
either_apart state.Rwr e t = true_false (sym e)
either_apart state.Rur e t = true_false (sym e)
either_apart state.Temporary e t = true_false (sym e)

reopen_state : (h k : ReplicaInfo) (named new : Stamp) (n : ℕ) → reopen h named new n ≡ Ok k → is_finalized (state_of h) ≡ true
unfolding reopen
reopen_state h k named new n e = grind (arith, nat_tests)

setup_state : (h k : ReplicaInfo) (named new : Stamp) (n : ℕ) (into : ReplicaState) → recover_setup h named new n into ≡ Ok k → (is_finalized (state_of h) || is_rbw (state_of h)) ≡ true
unfolding recover_setup
setup_state h k named new n into e = grind (arith, nat_tests)

stream_state : (h k : ReplicaInfo) (named new : Stamp) (low high : ℕ) → recover_stream h named new low high ≡ Ok k → is_rbw (state_of h) ≡ true
unfolding recover_stream
stream_state h k named new low high e = grind (arith, nat_tests)

begin_state : (h k : ReplicaInfo) (named recovery : Stamp) → begin_recovery h named recovery ≡ Ok k → not (is_temporary (state_of h)) ≡ true
unfolding begin_recovery
begin_state h k named recovery e = grind (arith, nat_tests)

end_held : (h k : ReplicaInfo) (holder : Option Stamp) (recovery : Stamp) (n : ℕ) → end_recovery h holder recovery n ≡ Ok k → holder ≡ None → ⊥
unfolding end_recovery
end_held h k None recovery n e none = cc
end_held h k (Some id) recovery n e none = cc

reopen_becomes : (h k : ReplicaInfo) (named new : Stamp) (n : ℕ) → IsUnrecovered h → reopen h named new n ≡ Ok k → Becomes h k
reopen_becomes h k named new n u e =
    let is = reopen_is h k named new n e in
    settled h k state.Rbw new h.sums n (λ t. final_apart (state_of h) (reopen_state h k named new n e) (temporary_state h u t)) refl (λ less _. absurd (omega (arith, less, is.1))) is.0

setup_becomes : (h k : ReplicaInfo) (named new : Stamp) (n : ℕ) (into : ReplicaState) → IsUnrecovered h → is_temporary into ≡ false → recover_setup h named new n into ≡ Ok k → Becomes h k
setup_becomes h k named new n into u plain e =
    let is = recover_setup_is h k named new n into e in
    settled h k into new h.sums n (λ t. either_apart (state_of h) (setup_state h k named new n into e) (temporary_state h u t)) plain (λ less _. absurd (omega (arith, less, is.1))) is.0

rbw_under : (o : Option Stamp) (s : ReplicaState) → is_rbw (state_under o s) ≡ true → is_finalized s ≡ true → ⊥
rbw_under (Some id) s e f = true_false (sym e)
rbw_under None state.Finalized e f = true_false (sym e)
rbw_under None state.Rbw e f = true_false (sym f)
rbw_under None state.Rwr e f = true_false (sym f)
rbw_under None state.Rur e f = true_false (sym f)
rbw_under None state.Temporary e f = true_false (sym f)

stream_becomes : (h k : ReplicaInfo) (named new : Stamp) (low high : ℕ) → IsUnrecovered h → recover_stream h named new low high ≡ Ok k → Becomes h k
stream_becomes h k named new low high u e =
    let s = stream_state h k named new low high e in
    settled h k state.Rbw new h.sums h.acked (λ t. rbw_apart (state_of h) s (temporary_state h u t)) refl (λ _ final. absurd (rbw_under h.recovery h.original s final)) (recover_stream_is h k named new low high e)

begin_becomes : (h k : ReplicaInfo) (named recovery : Stamp) → IsUnrecovered h → begin_recovery h named recovery ≡ Ok k → Becomes h k
begin_becomes h k named recovery u e = subst (Becomes h) (sym (begin_recovery_is h k named recovery e)) (record {
  temporary = λ t. absurd (no t);
  apart = λ t. t;
  final_cut = λ less _. absurd (omega (arith, less));
  unrecovered = λ t. absurd (no t);
}) where
  no : is_temporary h.original ≡ true → ⊥
  no t = true_false (sym (begin_state h k named recovery e) ∙ ap not (temporary_state h u t))

end_becomes : (h k : ReplicaInfo) (recovery : Stamp) (n : ℕ) → IsUnrecovered h → end_recovery h h.recovery recovery n ≡ Ok k → Becomes h k
end_becomes h k recovery n u e = settled h k state.Finalized recovery h.sums n (λ t. end_held h k h.recovery recovery n e (u t)) refl (λ _ _. refl) (end_recovery_is h k h.recovery recovery n e).0

last_folder : (s : ReplicaState) → is_temporary s ≡ true → folder_of (state_after_last s) ≡ Rbw
last_folder state.Temporary e = refl
last_folder state.Finalized e = absurd (true_false (sym e))
last_folder state.Rbw e = absurd (true_false (sym e))
last_folder state.Rwr e = absurd (true_false (sym e))
last_folder state.Rur e = absurd (true_false (sym e))

last_apart : (s : ReplicaState) → is_temporary (state_after_last s) ≡ false
last_apart state.Temporary = refl
last_apart state.Finalized = refl
last_apart state.Rbw = refl
last_apart state.Rwr = refl
last_apart state.Rur = refl

last_becomes : (h : ReplicaInfo) (n : ℕ) → Becomes h (close_stream (advance_acked h n))
last_becomes h n = record {
  temporary = λ t. inr (record { before = t; after = last_folder h.original t; stamp = refl; written = refl });
  apart = λ _. last_apart h.original;
  final_cut = λ less _. absurd (omega (arith, less));
  unrecovered = λ _. refl;
}

-- ---- transitions

turns_some : (c : ReplicaRecord) (h k : ReplicaInfo) → c.info ≡ Some h → Becomes h k → Turns c.info (Some k)
unfolding Turns
turns_some c h k is b = subst (λ o. Turns o (Some k)) (sym is) b

turns_none : (c : ReplicaRecord) (k : ReplicaInfo) → is_none c.info ≡ true → IsBegun k → Turns c.info (Some k)
unfolding Turns
turns_none c k none begun = elim c.info as (λ o. is_none o ≡ true → Turns o (Some k)) [ None ↦ λ e. begun | Some h ↦ λ e. absurd (no e) ] none where
  no : false ≡ true → ⊥
  no e = cc

abbrev pub Unrecovered : Option ReplicaInfo → Type 0
Unrecovered o = IfSome o IsUnrecovered

turns_same : (o : Option ReplicaInfo) → Unrecovered o → Turns o o
unfolding Turns
turns_same None u = tt
turns_same (Some h) u = like h h u refl refl (omega arith)

held_so : (c : ReplicaRecord) (h : ReplicaInfo) → Unrecovered c.info → c.info ≡ Some h → IsUnrecovered h
held_so c h u is = subst (λ (o : Option ReplicaInfo). IfSome o IsUnrecovered) is u

new_turns : (c : ReplicaRecord) (original : ReplicaState) (conn : ConnId) (stamp : Stamp) (r : Rule) → is_finalized original ≡ false → IfOk (new_transition c original conn stamp r) (TurnsTo c)
new_turns c original conn stamp r e =
    let made = done (set_writer c (settled_at original stamp r 0) (Some conn)) in
    if_check (TurnsTo c) (not c.is_broken) refusal.Broken (check (is_none c.info) refusal.Exists made) (λ whole.
    if_check (TurnsTo c) (is_none c.info) refusal.Exists made (λ none.
    turns_none c (settled_at original stamp r 0) none (record { unfinished = e; unrecovered = λ _. refl })))

-- a step on what is there, which is given a writer
with_turns : (c : ReplicaRecord) (writer : Option ConnId) (make : ReplicaInfo → Result ReplicaInfo Refusal) → Unrecovered c.info → ((h k : ReplicaInfo) → IsUnrecovered h → make h ≡ Ok k → Becomes h k)
    → IfOk (present c >>= (λ h. with_writer c writer (make h))) (TurnsTo c)
with_turns c writer make u good =
    if_step (TurnsTo c) (present c) (λ h. with_writer c writer (make h)) (λ h is.
    let there = (present_is c h is).1 in
    if_step (TurnsTo c) (make h) (λ k. done (set_writer c k writer)) (λ k e. turns_some c h k there (good h k (held_so c h u there) e)))

acknowledge_turns : (c : ReplicaRecord) (h : ReplicaInfo) (e : PendingPacket) (good : Bool) → Unrecovered c.info → c.info ≡ Some h → Turns c.info (acknowledge c h e good).info
acknowledge_turns c h e false u is = turns_same c.info u
acknowledge_turns c h e true u is =
    choice (λ (k : ReplicaRecord). Turns c.info k.info) e.last _ _
    (λ _. turns_some c h (close_stream (advance_acked h e.end)) is (last_becomes h e.end))
    (λ _. turns_some c h (advance_acked h e.end) is (like h (advance_acked h e.end) (held_so c h u is) refl refl (omega arith)))

packet_turns : (c : ReplicaRecord) (conn : ConnId) (p : PacketExtent) → Unrecovered c.info → IfOk (packet_transition c conn p) (TurnsTo c)
unfolding extent_transition
packet_turns c conn p u =
    if_step (TurnsTo c) (present c) _ (λ h there.
    let is = (present_is c h there).1 in
    if_check (TurnsTo c) (is_writable (state_of h)) refusal.NotWriter _ (λ _.
    if_step (TurnsTo c) (stream_by c.stream conn) _ (λ s _.
    choice (λ (o : Outcome). IfOk o (TurnsTo c)) (int_eq p.seqno (negsuc 0)) _ _
    (λ _. if_step (TurnsTo c) (heartbeat_of p) _ (λ e _. turns_same c.info u))
    (λ _. if_step (TurnsTo c) (stream_after s p) _ (λ t _.
    if_step (TurnsTo c) (pending_of h.sums p h.written) _ (λ e _.
    turns_some c h (extend_written h e.end) is (like h (extend_written h e.end) (held_so c h u is) refl refl (omega arith))))))))

-- Every event.
pub turns : (c : ReplicaRecord) (e : Event) → Unrecovered c.info → IfOk (transition c e) (TurnsTo c)
unfolding transition
turns c (event.Create conn stamp sums) u = new_turns c state.Rbw conn stamp sums refl
turns c (event.Temporary conn stamp sums) u = new_turns c state.Temporary conn stamp sums refl
turns c (event.Append conn named new n) u = with_turns c (Some conn) (λ h. reopen h named new n) u (λ h k v e. reopen_becomes h k named new n v e)
turns c (event.AppendRecovery conn named new n) u = with_turns c (Some conn) (λ h. recover_setup h named new n state.Rbw) u (λ h k v e. setup_becomes h k named new n state.Rbw v refl e)
turns c (event.StreamRecovery conn named new low high) u = with_turns c (Some conn) (λ h. recover_stream h named new low high) u (λ h k v e. stream_becomes h k named new low high v e)
turns c (event.CloseRecovery named new n) u = with_turns c None (λ h. recover_setup h named new n state.Finalized) u (λ h k v e. setup_becomes h k named new n state.Finalized v refl e)
turns c (event.Packet conn seqno offset bytes sums last sync bad) u = packet_turns c conn _ u
turns c (event.Ack conn seqno good) u =
    if_step (TurnsTo c) (present c) _ (λ h is.
    if_step (TurnsTo c) (stream_by c.stream conn) _ (λ t _.
    if_step (TurnsTo c) (oldest_of _ seqno) _ (λ e _. acknowledge_turns c h e good u (present_is c h is).1)))
turns c (event.Ended conn) u = choice (λ (k : ReplicaRecord). Turns c.info k.info) (is_written_by c.stream conn) _ _ (λ _. turns_same c.info u) (λ _. turns_same c.info u)
turns c (event.Init named recovery) u =
    if_step (TurnsTo c) (present c) _ (λ h is.
    let there = (present_is c h is).1 in
    if_step (TurnsTo c) (begin_recovery h named recovery) _ (λ k e. turns_some c h k there (begin_becomes h k named recovery (held_so c h u there) e)))
turns c (event.Update recovery n) u = with_turns c None (λ h. end_recovery h h.recovery recovery n) u (λ h k v e. end_becomes h k recovery n v e)
turns c (event.Read named offset n) u =
    if_step (TurnsTo c) (present c) _ (λ h is. if_step (TurnsTo c) (readable h (visible_of h) named offset n) _ (λ v _. turns_same c.info u))
turns c (event.Give named offset n) u =
    if_step (TurnsTo c) (present c) _ (λ h is. if_step (TurnsTo c) (given h named offset n) _ (λ v _. turns_same c.info u))
turns c event.FileFault u = turns_same c.info u

-- ---- whole histories

unrecovered_after : (o q : Option ReplicaInfo) → Turns o q → Unrecovered q
unfolding Turns
unrecovered_after None None t = tt
unrecovered_after None (Some k) t = t.unrecovered
unrecovered_after (Some h) None t = absurd t
unrecovered_after (Some h) (Some k) t = t.unrecovered

outcome_unrecovered : (c : ReplicaRecord) (out : Outcome) → Unrecovered c.info → IfOk out (TurnsTo c) → Unrecovered (record_after c out).info
outcome_unrecovered c (Ok t) u turned = unrecovered_after c.info t.replica.info turned
outcome_unrecovered c (Err e) u turned = u

row_unrecovered : (r : FullReplica) (e : ReplicaEvent) → Unrecovered r.known.info → Unrecovered (row r e).known.info
row_unrecovered r e u = outcome_unrecovered r.known (transition r.known (event_at r e)) u (turns r.known (event_at r e) u)

entry_unrecovered : (r : FullReplica) (entry : Entry) → Unrecovered r.known.info → Unrecovered (after_entry r entry).known.info
entry_unrecovered r entry u = choice (λ (k : FullReplica). Unrecovered k.known.info) entry.failed _ _ (λ _. row_unrecovered r (replica_event.Other event.FileFault) u) (λ _. row_unrecovered r entry.event u)

replay_unrecovered : (r : FullReplica) (entries : List Entry) → Unrecovered r.known.info → Unrecovered (replay r entries).known.info
replay_unrecovered r [] u = u
replay_unrecovered r (entry ∷ entries) u = replay_unrecovered (after_entry r entry) entries (entry_unrecovered r entry u)

begun_unrecovered : (block : BlockId) (from : Start) → Unrecovered (begun block from).known.info
begun_unrecovered block start.Absent = tt
begun_unrecovered block (start.Found s stamp sums bytes) = λ _. refl

-- No TEMPORARY replica to which a history leads is under a recovery.
pub replayed_unrecovered : (block : BlockId) (history : History) → IfSome (replayed block history).known.info IsUnrecovered
replayed_unrecovered block history = replay_unrecovered (begun block history.start) history.entries.items (begun_unrecovered block history.start)
