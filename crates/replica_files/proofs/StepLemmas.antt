-- The replica's answers, and what stands before and after the calls on the files.
use Rattle.std.proofs.Common.{◌≡◌, ℕ, negsuc, not, is_none, slice_get, Bool, true, false, Option, Some, None, Result, Ok, Err, IsOk, refl, sym, ap, subst, ◌∙◌}
use Rattle.std.specs.Result.{IfOk}
use Rattle.std.specs.Ordering.{int_eq}
use Rattle.hd_base.specs.declared.states.ReplicaState.{ReplicaState}
use Rattle.hd_base.specs.declared.states.ReplicaState.TheVariants as state
use Rattle.hd_base.specs.declared.numbers.ConnId.{ConnId}
use Rattle.hd_base.specs.declared.numbers.Stamp.{Stamp}
use Rattle.hd_base.specs.SumRules.{Rule}
use Rattle.hd_base.specs.Results.{◌>>=◌}
use Rattle.replica_core.specs.declared.records.ReplicaRecord.{ReplicaRecord}
use Rattle.replica_core.specs.declared.events.Answer.{Answer}
use Rattle.replica_core.specs.declared.events.Answer.TheVariants as answer
use Rattle.replica_core.specs.declared.events.Event.{Event}
use Rattle.replica_core.specs.declared.events.Event.TheVariants as event
use Rattle.replica_core.specs.declared.info.ReplicaInfo.{ReplicaInfo}
use Rattle.replica_core.specs.declared.extents.PacketExtent.{PacketExtent}
use Rattle.replica_core.specs.declared.refusals.Refusal.{Refusal}
use Rattle.replica_core.specs.declared.refusals.Refusal.TheVariants as refusal
use Rattle.replica_core.specs.Refusals.{check}
use Rattle.replica_core.specs.Info.{state_of, is_writable, settled_at, reopen, recover_setup, recover_stream, begin_recovery, end_recovery, readable, given, visible_of}
use Rattle.replica_core.specs.Extents.{stream_after, heartbeat_of, pending_of}
use Rattle.replica_core.specs.Transitions.{Taken, Outcome, reply, answer_of, done, there, present, set_writer, with_writer, new_transition, enqueue, extend, extent_transition, packet_transition, stream_by, oldest_of, acknowledge, transition}
use Rattle.replica_core.proofs.StepLemmas.{choice, if_check, if_step}
use Rattle.replica_model.specs.declared.events.ReplicaEvent.{ReplicaEvent}
use Rattle.replica_model.specs.declared.events.ReplicaEvent.TheVariants as replica_event
use Rattle.replica_model.specs.Rows.{FullReplica, event_at}
use Rattle.replica_files.specs.Events.{IsForWhole, NeedsWhole, IsMadeBy, IsMaking, IsCutting}
use Rattle.replica_files.specs.Reads.{IsReading}
use Rattle.replica_files.specs.Books.{Takes}

-- ---- an event that is taken isn't answered by a refusal

abbrev IsNoRefusal : Answer → Type 0
IsNoRefusal (answer.Refused x) = ⊥
IsNoRefusal _ = Unit {0}

abbrev Answers : Taken → Type 0
Answers t = IsNoRefusal t.answer

new_answers : (c : ReplicaRecord) (original : ReplicaState) (conn : ConnId) (stamp : Stamp) (r : Rule) → IfOk (new_transition c original conn stamp r) Answers
new_answers c original conn stamp r =
    let made = done (set_writer c (settled_at original stamp r 0) (Some conn)) in
    if_check Answers (not c.is_broken) refusal.Broken (check (is_none c.info) refusal.Exists made) (λ _.
    if_check Answers (is_none c.info) refusal.Exists made (λ _. tt))

with_answers : (c : ReplicaRecord) (writer : Option ConnId) (make : ReplicaInfo → Result ReplicaInfo Refusal) → IfOk (present c >>= (λ h. with_writer c writer (make h))) Answers
with_answers c writer make =
    if_step Answers (present c) (λ h. with_writer c writer (make h)) (λ h _.
    if_step Answers (make h) (λ k. done (set_writer c k writer)) (λ k _. tt))

packet_answers : (c : ReplicaRecord) (conn : ConnId) (p : PacketExtent) → IfOk (packet_transition c conn p) Answers
unfolding extent_transition
packet_answers c conn p =
    if_step Answers (present c) _ (λ h _.
    if_check Answers (is_writable (state_of h)) refusal.NotWriter _ (λ _.
    if_step Answers (stream_by c.stream conn) _ (λ s _.
    choice (λ (o : Outcome). IfOk o Answers) (int_eq p.seqno (negsuc 0)) _ _
    (λ _. if_step Answers (heartbeat_of p) (λ e. done (enqueue c e)) (λ e _. tt))
    (λ _. if_step Answers (stream_after s p) _ (λ t _. if_step Answers (pending_of h.sums p h.written) (λ e. done (extend c h t e)) (λ e _. tt))))))

answers : (c : ReplicaRecord) (e : Event) → IfOk (transition c e) Answers
unfolding transition
answers c (event.Create conn stamp sums) = new_answers c state.Rbw conn stamp sums
answers c (event.Temporary conn stamp sums) = new_answers c state.Temporary conn stamp sums
answers c (event.Append conn named new n) = with_answers c (Some conn) (λ h. reopen h named new n)
answers c (event.AppendRecovery conn named new n) = with_answers c (Some conn) (λ h. recover_setup h named new n state.Rbw)
answers c (event.StreamRecovery conn named new low high) = with_answers c (Some conn) (λ h. recover_stream h named new low high)
answers c (event.CloseRecovery named new n) = with_answers c None (λ h. recover_setup h named new n state.Finalized)
answers c (event.Packet conn seqno offset n sums last sync bad) =
    packet_answers c conn (record { seqno = seqno; offset = offset; length = n; sums = sums; last = last; sync = sync; bad = bad })
answers c (event.Ack conn seqno good) =
    if_step Answers (present c) _ (λ h _.
    if_step Answers (stream_by c.stream conn) _ (λ t _.
    if_step Answers (oldest_of (slice_get c.pending 0) seqno) (λ e. done (acknowledge c h e good)) (λ e _. tt)))
answers c (event.Ended conn) = tt
answers c (event.Init named recovery) =
    if_step Answers (present c) _ (λ h _.
    if_step Answers (begin_recovery h named recovery) (λ k. Ok (record { replica = set_writer c k None; answer = answer.Info h.original h.stamp h.written })) (λ k _. tt))
answers c (event.Update recovery n) = with_answers c None (λ h. end_recovery h h.recovery recovery n)
answers c (event.Read named offset n) =
    if_step Answers (present c) _ (λ h _.
    if_step Answers (readable h (visible_of h) named offset n) (λ visible. Ok (record { replica = c; answer = answer.Visible visible })) (λ _ _. tt))
answers c (event.Give named offset n) =
    if_step Answers (present c) _ (λ h _.
    if_step Answers (given h named offset n) (λ visible. Ok (record { replica = c; answer = answer.Visible visible })) (λ _ _. tt))
answers c event.FileFault = tt

refused_by : (out : Outcome) (a : Answer) (x : Refusal) → IfOk out Answers → answer_of (reply out) ≡ a → a ≡ answer.Refused x → Err x ≡ reply out
refused_by (Ok t) a x all is refused = absurd (subst IsNoRefusal (is ∙ refused) all)
refused_by (Err y) a x all is refused = ap Err (same x y (sym refused ∙ sym is)) where
  same : (x y : Refusal) → answer.Refused x ≡ answer.Refused y → x ≡ y
  same x y e = cc

-- a refusal is the transition's
pub is_refused : (c : ReplicaRecord) (e : Event) (a : Answer) (x : Refusal) → a ≡ answer_of (reply (transition c e)) → a ≡ answer.Refused x → Err x ≡ reply (transition c e)
is_refused c e a x is refused = refused_by (transition c e) a x (answers c e) (sym is) refused

taken_by : (out : Outcome) (a : Answer) → answer_of (reply out) ≡ a → IsNoRefusal a → Ok a ≡ reply out
taken_by (Ok t) a is none = ap Ok (sym is)
taken_by (Err y) a is none = absurd (subst IsNoRefusal (sym is) none)

-- any other answer too
pub is_taken : (c : ReplicaRecord) (e : Event) (a : Answer) → a ≡ answer_of (reply (transition c e)) → IsNoRefusal a → Ok a ≡ reply (transition c e)
is_taken c e a is none = taken_by (transition c e) a (sym is) none

pub taken_ok : (out : Outcome) (a : Answer) → Ok a ≡ reply out → IsOk out × (a ≡ answer_of (reply out))
taken_ok (Ok t) a is = (refl, same is) where
  same : {a b : Answer} → ◌≡◌ {A = Result Answer Refusal} (Ok a) (Ok b) → a ≡ b
  same e = cc
taken_ok (Err x) a is = absurd (cc)

pub refused_err : (out : Outcome) (x : Refusal) → Err x ≡ reply out → out ≡ Err x
refused_err (Ok t) x is = absurd (cc)
refused_err (Err y) x is = ap Err (same is) where
  same : ◌≡◌ {A = Result Answer Refusal} (Err x) (Err y) → y ≡ x
  same e = cc

-- ---- the beginning of a recovery

abbrev pub IsInfo : Answer → Type 0
IsInfo (answer.Info s stamp n) = Unit {0}
IsInfo _ = ⊥

init_answers : (c : ReplicaRecord) (named recovery : Stamp) → IfOk (transition c (event.Init named recovery)) (λ t. IsInfo t.answer)
unfolding transition
init_answers c named recovery =
    if_step (λ t. IsInfo t.answer) (present c) _ (λ h _.
    if_step (λ t. IsInfo t.answer) (begin_recovery h named recovery) (λ k. Ok (record { replica = set_writer c k None; answer = answer.Info h.original h.stamp h.written })) (λ k _. tt))

answer_is : (P : Answer → Type 0) (out : Outcome) (a : Answer) → IsOk out → a ≡ answer_of (reply out) → IfOk out (λ t. P t.answer) → P a
answer_is P (Ok t) a is same p = subst P (sym same) p
answer_is P (Err x) a is same p = absurd (cc)

-- it answers an info
pub is_info : (c : ReplicaRecord) (named recovery : Stamp) (a : Answer) → IsOk (transition c (event.Init named recovery)) → a ≡ answer_of (reply (transition c (event.Init named recovery))) → IsInfo a
is_info c named recovery a is same = answer_is IsInfo (transition c (event.Init named recovery)) a is same (init_answers c named recovery)

pub no_info : (a : Answer) → IsInfo a → ((s : ReplicaState) (stamp : Stamp) (n : ℕ) → a ≡ answer.Info s stamp n → ⊥) → ⊥
no_info (answer.Info s stamp n) is other = other s stamp n refl
no_info answer.Done is other = is
no_info (answer.Visible n) is other = is
no_info (answer.Refused x) is other = is

-- ---- a broken replica

present_broken : (c : ReplicaRecord) → c.is_broken ≡ true → present c ≡ Err refusal.Broken
present_broken c is = ap (λ b. check (not b) refusal.Broken (there c.info)) is

then_broken : {A : Type 0} (c : ReplicaRecord) (next : ReplicaInfo → Result A Refusal) → c.is_broken ≡ true → (present c >>= next) ≡ Err refusal.Broken
then_broken c next is = ap (λ r. r >>= next) (present_broken c is)

new_broken : (c : ReplicaRecord) (original : ReplicaState) (conn : ConnId) (stamp : Stamp) (r : Rule) → c.is_broken ≡ true → new_transition c original conn stamp r ≡ Err refusal.Broken
new_broken c original conn stamp r is =
    ap (λ b. check (not b) refusal.Broken (check (is_none c.info) refusal.Exists (done (set_writer c (settled_at original stamp r 0) (Some conn))))) is

-- It refuses every event but two.
pub broken_refuses : (c : ReplicaRecord) (e : Event) → c.is_broken ≡ true → IsForWhole e → transition c e ≡ Err refusal.Broken
unfolding transition
broken_refuses c (event.Create conn stamp sums) is for_whole = new_broken c state.Rbw conn stamp sums is
broken_refuses c (event.Temporary conn stamp sums) is for_whole = new_broken c state.Temporary conn stamp sums is
broken_refuses c (event.Append conn named new n) is for_whole = then_broken c _ is
broken_refuses c (event.AppendRecovery conn named new n) is for_whole = then_broken c _ is
broken_refuses c (event.StreamRecovery conn named new low high) is for_whole = then_broken c _ is
broken_refuses c (event.CloseRecovery named new n) is for_whole = then_broken c _ is
broken_refuses c (event.Packet conn seqno offset n sums last sync bad) is for_whole = then_broken c _ is
broken_refuses c (event.Ack conn seqno good) is for_whole = then_broken c _ is
broken_refuses c (event.Ended conn) is for_whole = absurd for_whole
broken_refuses c (event.Init named recovery) is for_whole = then_broken c _ is
broken_refuses c (event.Update recovery n) is for_whole = then_broken c _ is
broken_refuses c (event.Read named offset n) is for_whole = then_broken c _ is
broken_refuses c (event.Give named offset n) is for_whole = then_broken c _ is
broken_refuses c event.FileFault is for_whole = absurd for_whole

pub event_for_whole : (r : FullReplica) (e : ReplicaEvent) → NeedsWhole e → IsForWhole (event_at r e)
event_for_whole r (replica_event.Packet conn p) needs = tt
event_for_whole r (replica_event.Other e) needs = needs

pub row_broken : (r : FullReplica) (e : ReplicaEvent) → r.known.is_broken ≡ true → NeedsWhole e → transition r.known (event_at r e) ≡ Err refusal.Broken
row_broken r e is needs = broken_refuses r.known (event_at r e) is (event_for_whole r e needs)

no_ok : (x : Refusal) → IsOk {T = Taken} {E = Refusal} (Err x) → ⊥
no_ok x ok = cc

taken_by_whole : (b : Bool) (o : Outcome) → (b ≡ true → o ≡ Err refusal.Broken) → IsOk o → b ≡ false
taken_by_whole false o refuses ok = refl
taken_by_whole true o refuses ok = absurd (no_ok refusal.Broken (subst IsOk (refuses refl) ok))

-- So one that takes such an event isn't broken.
pub taken_whole : (r : FullReplica) (e : ReplicaEvent) → NeedsWhole e → Takes r e → r.known.is_broken ≡ false
taken_whole r e needs takes = taken_by_whole r.known.is_broken (transition r.known (event_at r e)) (λ is. row_broken r e is needs) takes

for_whole : (e : Event) → ((conn : ConnId) → e ≡ event.Ended conn → ⊥) → (e ≡ event.FileFault → ⊥) → IsForWhole e
for_whole (event.Create conn stamp sums) no_end no_fault = tt
for_whole (event.Temporary conn stamp sums) no_end no_fault = tt
for_whole (event.Append conn named new n) no_end no_fault = tt
for_whole (event.AppendRecovery conn named new n) no_end no_fault = tt
for_whole (event.StreamRecovery conn named new low high) no_end no_fault = tt
for_whole (event.CloseRecovery named new n) no_end no_fault = tt
for_whole (event.Packet conn seqno offset n sums last sync bad) no_end no_fault = tt
for_whole (event.Ack conn seqno good) no_end no_fault = tt
for_whole (event.Ended conn) no_end no_fault = no_end conn refl
for_whole (event.Init named recovery) no_end no_fault = tt
for_whole (event.Update recovery n) no_end no_fault = tt
for_whole (event.Read named offset n) no_end no_fault = tt
for_whole (event.Give named offset n) no_end no_fault = tt
for_whole event.FileFault no_end no_fault = no_fault refl

-- what neither the end of a connection nor a fault of files can be
for_whole_by : (P : Event → Type 0) (e : Event) → ((conn : ConnId) → P (event.Ended conn) → ⊥) → (P event.FileFault → ⊥) → P e → IsForWhole e
for_whole_by P e no_end no_fault p = for_whole e (λ conn is. no_end conn (subst P is p)) (λ is. no_fault (subst P is p))

pub making_for_whole : (e : Event) (k : ReplicaInfo) → IsMadeBy e k → IsForWhole e
making_for_whole e k by = for_whole_by (λ x. IsMadeBy x k) e (λ _ p. p) (λ p. p) by

pub new_for_whole : (e : Event) → IsMaking e → IsForWhole e
new_for_whole e making = for_whole_by IsMaking e (λ _ p. p) (λ p. p) making

pub cutting_for_whole : (e : Event) → IsCutting e → IsForWhole e
cutting_for_whole e cutting = for_whole_by IsCutting e (λ _ p. p) (λ p. p) cutting

pub reading_for_whole : (e : Event) (offset count : ℕ) → IsReading e offset count → IsForWhole e
reading_for_whole e offset count reading = for_whole_by (λ x. IsReading x offset count) e (λ _ p. p) (λ p. p) reading
