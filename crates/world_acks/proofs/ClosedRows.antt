-- What events, breaks and restarts leave of FINALIZED replicas.
use Rattle.std.proofs.Common.{◌≡◌, ℕ, suc, ◌≤◌, ◌⊎◌, inl, inr, Bool, true, false, List, [], ◌∷◌, ◌++◌, length, slice_get, Option, Some, None, IfSome, Result, Ok, Err, refl, sym, ◌∙◌, ap, subst, arith, eqb-true}
use Rattle.std.specs.Prelude.{not, is_none, nat_lt, ◌&&◌, ◌==◌, if◌then◌else◌}
use Rattle.std.proofs.lemmas.Bool.{false≢true, eqb-false}
use Rattle.std.proofs.lemmas.Bool.Decides.{nat_tests}
use Rattle.std.proofs.lemmas.Option.{none-some, same_Some}
use Rattle.hd_base.specs.Results.{◌>>=◌}
use Rattle.hd_base.specs.SumRules.{Rule}
use Rattle.hd_base.specs.declared.numbers.ConnId.{ConnId}
use Rattle.hd_base.specs.declared.numbers.Stamp.{Stamp}
use Rattle.hd_base.specs.declared.states.ReplicaState.{ReplicaState}
use Rattle.hd_base.specs.declared.states.ReplicaState.TheVariants as state
use Rattle.meta_file.specs.declared.names.Folder.{Folder}
use Rattle.meta_file.specs.declared.names.Folder.TheVariants.{Finalized}
use Rattle.replica_core.specs.declared.ack_queue.PendingPacket.{PendingPacket}
use Rattle.replica_core.specs.declared.events.Event.{Event}
use Rattle.replica_core.specs.declared.events.Event.TheVariants as event
use Rattle.replica_core.specs.declared.extents.PacketExtent.{PacketExtent}
use Rattle.replica_core.specs.declared.info.ReplicaInfo.{ReplicaInfo}
use Rattle.replica_core.specs.declared.records.ReplicaRecord.{ReplicaRecord}
use Rattle.replica_core.specs.declared.refusals.Refusal.{Refusal}
use Rattle.replica_core.specs.declared.refusals.Refusal.TheVariants as refusal
use Rattle.replica_core.specs.Info.{settled_at, reopen, recover_setup, recover_stream, begin_recovery, end_recovery, is_writable, is_rbw, state_of, state_under, state_after_last, advance_acked, close_stream, is_temporary, readable, given, visible_of}
use Rattle.replica_core.specs.Transitions.{Taken, Outcome, done, record_after, state_after, transition, present, with_writer, set_writer, new_transition, packet_transition, acknowledge, oldest_of, stream_by, is_written_by}
use Rattle.replica_core.specs.Views.{written_at}
use Rattle.replica_core.proofs.InfoLemmas.{present_is, reopen_is, recover_setup_is, begin_recovery_is, end_recovery_is}
use Rattle.replica_core.proofs.StepLemmas.{after_check, after_step, choice, step_ok}
use Rattle.block_files.specs.BlockCalls.{BlockCall, MoveMeta}
use Rattle.packet_codec.specs.declared.packets.Packet.{Packet}
use Rattle.replica_model.specs.declared.events.ReplicaEvent.{ReplicaEvent}
use Rattle.replica_model.specs.declared.events.ReplicaEvent.TheVariants as replica_event
use Rattle.replica_model.specs.Rows.{FullReplica, IsFull, event_at, row}
use Rattle.replica_model.specs.Plans.{plan, has_changing, outcome_calls, taken_calls, when, leaves_temporary, sync_calls, settle_calls, cut_calls, move_calls, folder_of}
use Rattle.replica_model.specs.Found.{Found, found_as, found_whole, settled_state, MayFindWithin}
use Rattle.world_recoveries.specs.World.Parts.{Break}
use Rattle.world_recoveries.specs.World.Restarts.{replica_found, restarted}
use Rattle.world_recoveries.proofs.WorldLaws.FactTables.{if-each}
use Rattle.world_recoveries.specs.WorldLaws.Finding.{MayFindAt}
use Rattle.world_recoveries.proofs.WorldLaws.FoundLaws.{restarts-find}
use Rattle.world_recoveries.proofs.WorldLaws.ByteRows.{reopen-stamp, setup-stamp, update-held}
use Rattle.world_recoveries.specs.WorldLaws.Joining.{AtLeast, IsPlain}
use Rattle.world_acks.specs.Closing.{FinalUnder, BrokeFinal}

-- EVENTS

-- FINALIZED under this stamp, with just so many bytes
record Still (stamp n : ℕ) (o : Option ReplicaInfo) : Type 0 where
  pub info : ReplicaInfo
  pub is : o ≡ Some info
  pub original : info.original ≡ state.Finalized
  pub under : info.stamp.0 ≡ stamp
  pub length : info.written ≡ n

-- after an event: as before, or under a later stamp
abbrev On : ℕ → ℕ → ReplicaRecord → Type 0
On stamp n d = Still stamp n d.info ⊎ AtLeast d.info (suc stamp)

-- the recovery of an append under just this stamp
abbrev pub IsAgain : ℕ → Event → Type 0
IsAgain stamp (event.AppendRecovery conn named new n) = new.0 ≡ stamp
IsAgain stamp _ = ⊥

-- whether it is such a recovery
pub again-or : (stamp : ℕ) (e : Event) → IsAgain stamp e ⊎ (IsAgain stamp e → ⊥)
again-or stamp (event.AppendRecovery conn named new n) = either new.0 stamp
  where
    either : (a b : ℕ) → (a ≡ b) ⊎ (a ≡ b → ⊥)
    either a b = go (a == b) refl
      where
        go : (t : Bool) → (a == b) ≡ t → (a ≡ b) ⊎ (a ≡ b → ⊥)
        go true e = inl (eqb-true a b e)
        go false e = inr (eqb-false a b e)
again-or stamp (event.Create conn t r) = inr (λ a. a)
again-or stamp (event.Temporary conn t r) = inr (λ a. a)
again-or stamp (event.Append conn named new n) = inr (λ a. a)
again-or stamp (event.StreamRecovery conn named new low high) = inr (λ a. a)
again-or stamp (event.CloseRecovery named new n) = inr (λ a. a)
again-or stamp (event.Packet conn seqno offset n sums last sync bad) = inr (λ a. a)
again-or stamp (event.Ack conn seqno good) = inr (λ a. a)
again-or stamp (event.Ended conn) = inr (λ a. a)
again-or stamp (event.Init named id) = inr (λ a. a)
again-or stamp (event.Update id n) = inr (λ a. a)
again-or stamp (event.Read named offset n) = inr (λ a. a)
again-or stamp (event.Give named offset n) = inr (λ a. a)
again-or stamp event.FileFault = inr (λ a. a)

-- an event that recovers no append
abbrev pub IsOther : Event → Type 0
IsOther (event.AppendRecovery conn named new n) = ⊥
IsOther _ = Unit {0}

pub other-again : (stamp : ℕ) (e : Event) → IsOther e → IsAgain stamp e → ⊥
other-again stamp (event.AppendRecovery conn named new n) h a = h
other-again stamp (event.Create conn t r) h a = a
other-again stamp (event.Temporary conn t r) h a = a
other-again stamp (event.Append conn named new n) h a = a
other-again stamp (event.StreamRecovery conn named new low high) h a = a
other-again stamp (event.CloseRecovery named new n) h a = a
other-again stamp (event.Packet conn seqno offset n sums last sync bad) h a = a
other-again stamp (event.Ack conn seqno good) h a = a
other-again stamp (event.Ended conn) h a = a
other-again stamp (event.Init named id) h a = a
other-again stamp (event.Update id n) h a = a
other-again stamp (event.Read named offset n) h a = a
other-again stamp (event.Give named offset n) h a = a
other-again stamp event.FileFault h a = a

-- a replica that is FINALIZED
record IsFinal (c : ReplicaRecord) (stamp : ℕ) (i : ReplicaInfo) : Type 0 where
  pub is : c.info ≡ Some i
  pub original : i.original ≡ state.Finalized
  pub under : i.stamp.0 ≡ stamp

same-final : (c : ReplicaRecord) (stamp : ℕ) (i : ReplicaInfo) → IsFinal c stamp i → On stamp i.written c
same-final c stamp i h = inl (record { info = i; is = h.is; original = h.original; under = h.under; length = refl })

by-there : (c : ReplicaRecord) (stamp : ℕ) (i : ReplicaInfo) (next : ReplicaInfo → Outcome) → IsFinal c stamp i → On stamp i.written (record_after c (next i)) → On stamp i.written (record_after c (present c >>= next))
by-there c stamp i next h onward =
    after_step (On stamp i.written) c (present c) next (same-final c stamp i h) (λ j e. subst (λ (x : ReplicaInfo). On stamp i.written (record_after c (next x))) (same_Some i j (sym h.is ∙ (present_is c j e).1)) onward)

settled-later : (at : ReplicaState) (t : Stamp) (r : Rule) (k : ℕ) (stamp n : ℕ) (c : ReplicaRecord) (writer : Option ConnId) → suc stamp ≤ t.0 → On stamp n (set_writer c (settled_at at t r k) writer)
settled-later at t r k stamp n c writer le = inr (record { info = settled_at at t r k; is = refl; least = le })

by-later : (c : ReplicaRecord) (stamp : ℕ) (i : ReplicaInfo) (writer : Option ConnId) (next : Result ReplicaInfo Refusal) (at : ReplicaState) (t : Stamp) (r : Rule) → IsFinal c stamp i
    → ((k : ReplicaInfo) → next ≡ Ok k → (n : ℕ) × (k ≡ settled_at at t r n) × (suc stamp ≤ t.0)) → On stamp i.written (record_after c (with_writer c writer next))
by-later c stamp i writer next at t r h k =
    after_step (On stamp i.written) c next (λ j. done (set_writer c j writer)) (same-final c stamp i h) (λ j q.
    let x = k j q in subst (λ (z : ReplicaInfo). On stamp i.written (set_writer c z writer)) (sym x.1) (settled-later at t r x.0 stamp i.written c writer x.2))

lt-true : (a b : ℕ) → nat_lt a b ≡ true → suc a ≤ b
lt-true a b e = grind (arith, nat_tests, e)

lt-false : (a b : ℕ) → nat_lt a b ≡ false → b ≤ a
lt-false a b e = grind (arith, nat_tests, e)

equal-or : (a b : ℕ) → a ≤ b → (b ≡ a) ⊎ (suc a ≤ b)
equal-or a b le = go (nat_lt a b) refl
  where
    go : (t : Bool) → nat_lt a b ≡ t → (b ≡ a) ⊎ (suc a ≤ b)
    go true e = inr (lt-true a b e)
    go false e = inl (omega (arith, le, lt-false a b e))

later-of : (a b : ℕ) → a ≤ b → (b ≡ a → ⊥) → suc a ≤ b
later-of a b le never = go (equal-or a b le)
  where
    go : (b ≡ a) ⊎ (suc a ≤ b) → suc a ≤ b
    go (inl e) = absurd (never e)
    go (inr lt) = lt

closed-again : (c : ReplicaRecord) (stamp : ℕ) (i : ReplicaInfo) (t : Stamp) (n : ℕ) → n ≡ i.written → (t.0 ≡ stamp) ⊎ (suc stamp ≤ t.0) → On stamp i.written (set_writer c (settled_at state.Finalized t i.sums n) None)
closed-again c stamp i t n e (inl q) = inl (record { info = settled_at state.Finalized t i.sums n; is = refl; original = refl; under = q; length = e })
closed-again c stamp i t n e (inr q) = settled-later state.Finalized t i.sums n stamp i.written c None q

final-isnt-rbw : (o : Option Stamp) (s : ReplicaState) → s ≡ state.Finalized → is_rbw (state_under o s) ≡ true → ⊥
final-isnt-rbw (Some id) s q e = false≢true e
final-isnt-rbw None s q e = false≢true (subst (λ (x : ReplicaState). is_rbw x ≡ true) q e)

-- the recovery of a stream finds an RBW replica
stream-open : (i k : ReplicaInfo) (named new : Stamp) (low high : ℕ) → recover_stream i named new low high ≡ Ok k → is_rbw (state_of i) ≡ true
unfolding recover_stream
stream-open i k named new low high e = grind (arith, nat_tests)

final-isnt-written : (o : Option Stamp) (s : ReplicaState) → s ≡ state.Finalized → is_writable (state_under o s) ≡ true → ⊥
final-isnt-written (Some id) s q e = false≢true e
final-isnt-written None s q e = false≢true (subst (λ (x : ReplicaState). is_writable x ≡ true) q e)

there-not-new : (o : Option ReplicaInfo) (i : ReplicaInfo) → o ≡ Some i → is_none o ≡ true → ⊥
there-not-new None i e q = none-some i e
there-not-new (Some j) i e q = false≢true q

new-on : (c : ReplicaRecord) (s : ReplicaState) (conn : ConnId) (t : Stamp) (r : Rule) (stamp : ℕ) (i : ReplicaInfo) → IsFinal c stamp i → On stamp i.written (record_after c (new_transition c s conn t r))
new-on c s conn t r stamp i h =
    after_check (On stamp i.written) c (not c.is_broken) refusal.Broken _ (same-final c stamp i h) (λ _.
    after_check (On stamp i.written) c (is_none c.info) refusal.Exists _ (same-final c stamp i h) (λ none. absurd (there-not-new c.info i h.is none)))

acked-on : (c : ReplicaRecord) (p : PendingPacket) (good : Bool) (stamp : ℕ) (i : ReplicaInfo) → IsFinal c stamp i → On stamp i.written (acknowledge c i p good)
acked-on c p false stamp i h = same-final c stamp i h
acked-on c p true stamp i h =
    choice (On stamp i.written) p.last _ _
    (λ _. inl (record { info = close_stream (advance_acked i p.end); is = refl; original = ap state_after_last h.original; under = h.under; length = refl }))
    (λ _. inl (record { info = advance_acked i p.end; is = refl; original = h.original; under = h.under; length = refl }))

packet-on : (c : ReplicaRecord) (conn : ConnId) (q : PacketExtent) (stamp : ℕ) (i : ReplicaInfo) → IsFinal c stamp i → On stamp i.written (record_after c (packet_transition c conn q))
packet-on c conn q stamp i h =
    by-there c stamp i _ h (after_check (On stamp i.written) c (is_writable (state_of i)) refusal.NotWriter _ (same-final c stamp i h) (λ e. absurd (final-isnt-written i.recovery i.original h.original e)))

event-on : (c : ReplicaRecord) (e : Event) (stamp : ℕ) (i : ReplicaInfo) → IsPlain i → (IsAgain stamp e → ⊥) → IsFinal c stamp i → On stamp i.written (state_after c e)
unfolding transition
event-on c (event.Create conn t r) stamp i p a h = new-on c state.Rbw conn t r stamp i h
event-on c (event.Temporary conn t r) stamp i p a h = new-on c state.Temporary conn t r stamp i h
event-on c (event.Append conn named new n) stamp i p a h =
    by-there c stamp i _ h (by-later c stamp i (Some conn) (reopen i named new n) state.Rbw new i.sums h (λ k e. let s = reopen-stamp i k named new n e in (n, (reopen_is i k named new n e).0, omega (arith, s.0, s.1, h.under))))
event-on c (event.AppendRecovery conn named new n) stamp i p a h =
    by-there c stamp i _ h (by-later c stamp i (Some conn) (recover_setup i named new n state.Rbw) state.Rbw new i.sums h (λ k e.
    let s = setup-stamp i k named new n state.Rbw e in (n, (recover_setup_is i k named new n state.Rbw e).0, later-of stamp new.0 (omega (arith, s.1, h.under)) a)))
event-on c (event.StreamRecovery conn named new low high) stamp i p a h =
    by-there c stamp i _ h (by-later c stamp i (Some conn) (recover_stream i named new low high) state.Rbw new i.sums h (λ k e. absurd (final-isnt-rbw i.recovery i.original h.original (stream-open i k named new low high e))))
event-on c (event.CloseRecovery named new n) stamp i p a h =
    by-there c stamp i _ h (after_step (On stamp i.written) c (recover_setup i named new n state.Finalized) (λ j. done (set_writer c j None)) (same-final c stamp i h) (λ k e.
    let s = recover_setup_is i k named new n state.Finalized e in
    let t = setup-stamp i k named new n state.Finalized e in
    subst (λ (z : ReplicaInfo). On stamp i.written (set_writer c z None)) (sym s.0) (closed-again c stamp i new n s.1 (equal-or stamp new.0 (omega (arith, t.1, h.under))))))
event-on c (event.Packet conn seqno offset n sums last sync bad) stamp i p a h = packet-on c conn (record { seqno = seqno; offset = offset; length = n; sums = sums; last = last; sync = sync; bad = bad }) stamp i h
event-on c (event.Ack conn seqno good) stamp i p a h =
    by-there c stamp i _ h (after_step (On stamp i.written) c (stream_by c.stream conn) _ (same-final c stamp i h) (λ s _.
    after_step (On stamp i.written) c (oldest_of (slice_get c.pending 0) seqno) _ (same-final c stamp i h) (λ q _. acked-on c q good stamp i h)))
event-on c (event.Ended conn) stamp i p a h = choice (On stamp i.written) (is_written_by c.stream conn) _ _ (λ _. same-final c stamp i h) (λ _. same-final c stamp i h)
event-on c (event.Init named id) stamp i p a h =
    by-there c stamp i _ h (after_step (On stamp i.written) c (begin_recovery i named id) _ (same-final c stamp i h) (λ k e.
    subst (λ (z : ReplicaInfo). On stamp i.written (set_writer c z None)) (sym (begin_recovery_is i k named id e))
    (inl (record { info = record i { recovery = Some id }; is = refl; original = h.original; under = h.under; length = refl }))))
event-on c (event.Update id n) stamp i p a h =
    by-there c stamp i _ h (by-later c stamp i None (end_recovery i i.recovery id n) state.Finalized id i.sums h (λ k e.
    let x = p.above id (update-held i k i.recovery id n e) in (n, (end_recovery_is i k i.recovery id n e).0, omega (arith, x, h.under))))
event-on c (event.Read named offset n) stamp i p a h = by-there c stamp i _ h (after_step (On stamp i.written) c (readable i (visible_of i) named offset n) _ (same-final c stamp i h) (λ _ _. same-final c stamp i h))
event-on c (event.Give named offset n) stamp i p a h = by-there c stamp i _ h (after_step (On stamp i.written) c (given i named offset n) _ (same-final c stamp i h) (λ _ _. same-final c stamp i h))
event-on c event.FileFault stamp i p a h = same-final c stamp i h

still-final : (stamp n : ℕ) (o : Option ReplicaInfo) → Still stamp n o ⊎ AtLeast o (suc stamp) → FinalUnder stamp o ⊎ AtLeast o (suc stamp)
still-final stamp n o (inl x) = inl (record { info = x.info; is = x.is; original = x.original; under = x.under })
still-final stamp n o (inr x) = inr x

-- a FINALIZED replica stays so, or gets a later stamp
pub row-final : (r : FullReplica) (e : ReplicaEvent) (stamp : ℕ) → IfSome r.known.info IsPlain → (IsAgain stamp (event_at r e) → ⊥) → FinalUnder stamp r.known.info → FinalUnder stamp (row r e).known.info ⊎ AtLeast (row r e).known.info (suc stamp)
row-final r e stamp p a h =
    still-final stamp h.info.written (row r e).known.info
    (event-on r.known (event_at r e) stamp h.info (subst (λ (o : Option ReplicaInfo). IfSome o IsPlain) h.is p) a (record { is = h.is; original = h.original; under = h.under }))

-- WHICH EVENTS CHANGE ITS FILES

cut-none : (r : Rule) (v : List ℕ) (n : ℕ) → n ≡ length v → cut_calls r v n ≡ []
cut-none r v n e = if-each (λ (xs : List BlockCall). xs ≡ []) (nat_lt n (length v)) _ [] (λ q. absurd (omega (arith, e, lt-true n (length v) q))) (λ _. refl)

settles-none : (h k : ReplicaInfo) (v : List ℕ) → h.original ≡ state.Finalized → k.original ≡ state.Finalized → h.stamp.0 ≡ k.stamp.0 → k.written ≡ length v → has_changing (when (leaves_temporary h k) sync_calls ++ settle_calls h k v) ≡ false
settles-none h k v a b s n =
    ap (λ (t : Bool). has_changing (when t sync_calls ++ settle_calls h k v)) (sync h.original a)
    ∙ ap (λ (xs : List BlockCall). has_changing (xs ++ move_calls (folder_of h.original) h.stamp.0 (folder_of k.original) k.stamp.0)) (cut-none h.sums v k.written n)
    ∙ ap (λ (x : Folder). has_changing (move_calls x h.stamp.0 (folder_of k.original) k.stamp.0)) (ap folder_of a)
    ∙ ap (λ (x : Folder). has_changing (move_calls Finalized h.stamp.0 x k.stamp.0)) (ap folder_of b)
    ∙ moves h.stamp.0 k.stamp.0 s
  where
    sync : (s : ReplicaState) → s ≡ state.Finalized → (is_temporary s && not (is_temporary k.original)) ≡ false
    sync s e = ap (λ (x : ReplicaState). is_temporary x && not (is_temporary k.original)) e

    moves : (x y : ℕ) → x ≡ y → has_changing (move_calls Finalized x Finalized y) ≡ false
    moves x y e = ap (λ (b : Bool). has_changing (when (not b) (MoveMeta Finalized y ∷ []) ++ [])) (equal x y e)
      where
        equal : (x y : ℕ) → x ≡ y → (x == y) ≡ true
        equal x y e = grind (arith, nat_tests, e)

-- a packet isn't taken
packet-refused : (c : ReplicaRecord) (conn : ConnId) (q : PacketExtent) (stamp : ℕ) (i : ReplicaInfo) (t : Taken) → IsFinal c stamp i → packet_transition c conn q ≡ Ok t → ⊥
packet-refused c conn q stamp i t h e =
    let x = step_ok (present c) _ t e in
    let same : x.0 ≡ i = same_Some x.0 i (sym (present_is c x.0 x.1).1 ∙ h.is) in
    let writes : is_writable (state_of x.0) ≡ true = holds (is_writable (state_of x.0)) _ x.2 in
    final-isnt-written i.recovery i.original h.original (subst (λ (j : ReplicaInfo). is_writable (state_of j) ≡ true) same writes)
  where
    holds : (b : Bool) (o : Outcome) → (if b then o else Err refusal.NotWriter) ≡ Ok t → b ≡ true
    holds true o q = refl
    holds false o q = absurd (cc)

-- where the calls of an event change files, it gave the replica a later stamp
calls-later : (r : FullReplica) (e : Event) (o : Outcome) (stamp : ℕ) (i : ReplicaInfo) → IsFinal r.known stamp i → i.written ≡ length r.bytes → On stamp i.written (record_after r.known o)
    → has_changing (outcome_calls (replica_event.Other e) r.known.info r.bytes o) ≡ true → AtLeast (record_after r.known o).info (suc stamp)
calls-later r e (Err x) stamp i h n on c = absurd (false≢true c)
calls-later r e (Ok t) stamp i h n (inr x) c = x
calls-later r e (Ok t) stamp i h n (inl x) c =
    absurd (false≢true (sym (settles-none i x.info r.bytes h.original x.original (h.under ∙ sym x.under) (x.length ∙ n))
    ∙ sym (ap (λ (p : Option ReplicaInfo). has_changing (taken_calls (replica_event.Other e) p t.replica.info r.bytes)) h.is ∙ ap (λ (p : Option ReplicaInfo). has_changing (taken_calls (replica_event.Other e) (Some i) p r.bytes)) x.is) ∙ c))

packet-never : (r : FullReplica) (conn : ConnId) (p : Packet) (o : Outcome) → ((t : Taken) → o ≡ Ok t → ⊥) → has_changing (outcome_calls (replica_event.Packet conn p) r.known.info r.bytes o) ≡ true → ⊥
packet-never r conn p (Err x) h c = false≢true c
packet-never r conn p (Ok t) h c = h t refl

-- an event whose calls change the files of a FINALIZED replica gives it a later stamp
pub changing-later : (r : FullReplica) (e : ReplicaEvent) (stamp : ℕ) → IsFull r → IfSome r.known.info IsPlain → (IsAgain stamp (event_at r e) → ⊥) → FinalUnder stamp r.known.info → has_changing (plan r e) ≡ true → AtLeast (row r e).known.info (suc stamp)
unfolding transition
changing-later r (replica_event.Other e) stamp f p a h c =
    let x : IsFinal r.known stamp h.info = record { is = h.is; original = h.original; under = h.under } in
    calls-later r e (transition r.known e) stamp h.info x (sym (f.all ∙ ap (λ (o : Option ReplicaInfo). written_at o) h.is)) (event-on r.known e stamp h.info (subst (λ (o : Option ReplicaInfo). IfSome o IsPlain) h.is p) a x) c
changing-later r (replica_event.Packet conn p) stamp f q a h c =
    absurd (packet-never r conn p (transition r.known (event_at r (replica_event.Packet conn p))) (λ t e. packet-refused r.known conn _ stamp h.info t (record { is = h.is; original = h.original; under = h.under }) e) c)

-- RESTARTS

found-under : (b stamp : ℕ) (i : ReplicaInfo) (v : List ℕ) (f : Option Found) → i.original ≡ state.Finalized → i.stamp.0 ≡ stamp → f ≡ found_whole (Some i) v → FinalUnder stamp (replica_found b f).known.info
found-under b stamp i v f o s e =
    subst (λ (x : Option Found). FinalUnder stamp (replica_found b x).known.info) (sym (e ∙ whole))
    (record { info = settled_at state.Finalized i.stamp i.sums (length v); is = refl; original = refl; under = s })
  where
    whole : found_whole (Some i) v ≡ found_as state.Finalized i.stamp i.sums v
    whole =
        ap (λ (x : ReplicaState). if is_temporary x then None else found_as (settled_state i.original) i.stamp i.sums v) o
        ∙ ap (λ (x : ReplicaState). found_as (settled_state x) i.stamp i.sums v) o

whole-under : (b stamp : ℕ) (o : Option ReplicaInfo) (v : List ℕ) (f : Option Found) → FinalUnder stamp o → f ≡ found_whole o v → FinalUnder stamp (replica_found b f).known.info
whole-under b stamp o v f h e = found-under b stamp h.info v f h.original h.under (e ∙ ap (λ (x : Option ReplicaInfo). found_whole x v) h.is)

found-final : (b stamp : ℕ) (r : FullReplica) (o : Option Break) (f : Option Found) → FinalUnder stamp r.known.info → IfSome o (BrokeFinal stamp) → MayFindAt r o f → FinalUnder stamp (replica_found b f).known.info
found-final b stamp r None f h k m = whole-under b stamp r.known.info r.bytes f h m
found-final b stamp r (Some x) f h k m = whole-under b stamp x.before.known.info x.before.bytes f k.before (subst (λ (t : Bool). MayFindWithin t x.before (row x.before x.event) f) k.unchanged m)

-- a restart finds it FINALIZED
pub restart-final : (b stamp : ℕ) (r : FullReplica) (o : Option Break) (f : Option Found) → FinalUnder stamp r.known.info → IfSome o (BrokeFinal stamp) → FinalUnder stamp (restarted b r o f).known.info
restart-final b stamp r o f h k =
    let a = restarts-find b r o f in subst (λ (x : FullReplica). FinalUnder stamp x.known.info) (sym a.is) (found-final b stamp r o a.found h k a.allowed)
