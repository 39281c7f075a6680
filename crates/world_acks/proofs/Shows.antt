-- What a replica shows stays shown, whatever is booked but an update.
use Rattle.std.proofs.Common.{◌≡◌, ℕ, ◌≤◌, Bool, true, false, List, ◌++◌, length, take, slice_get, Option, Some, None, IfSome, Result, Ok, refl, sym, ◌∙◌, ap, subst, arith}
use Rattle.std.specs.Prelude.{max, not, is_none, negsuc}
use Rattle.std.specs.Ordering.{int_eq}
use Rattle.std.proofs.lemmas.Bool.Decides.{nat_tests}
use Rattle.std.proofs.lemmas.Bool.{false≢true}
use Rattle.std.proofs.lemmas.Option.{none-some, same_Some}
use Rattle.hd_base.specs.Results.{◌>>=◌}
use Rattle.hd_base.specs.SumRules.{Rule}
use Rattle.hd_base.specs.declared.numbers.ConnId.{ConnId}
use Rattle.hd_base.specs.declared.numbers.Stamp.{Stamp}
use Rattle.hd_base.specs.declared.states.ReplicaState.{ReplicaState}
use Rattle.hd_base.specs.declared.states.ReplicaState.TheVariants as state
use Rattle.replica_core.specs.declared.ack_queue.PendingPacket.{PendingPacket}
use Rattle.replica_core.specs.declared.events.Event.{Event}
use Rattle.replica_core.specs.declared.events.Event.TheVariants as event
use Rattle.replica_core.specs.declared.extents.PacketExtent.{PacketExtent}
use Rattle.replica_core.specs.declared.info.ReplicaInfo.{ReplicaInfo}
use Rattle.replica_core.specs.declared.records.ReplicaRecord.{ReplicaRecord}
use Rattle.replica_core.specs.declared.refusals.Refusal.{Refusal}
use Rattle.replica_core.specs.declared.refusals.Refusal.TheVariants as refusal
use Rattle.replica_core.specs.Extents.{stream_after, heartbeat_of, pending_of}
use Rattle.replica_core.specs.Info.{settled_at, reopen, recover_setup, recover_stream, begin_recovery, is_writable, is_rbw, state_of, state_under, extend_written, advance_acked, close_stream, state_after_last, readable, given, visible_of, visible_under}
use Rattle.replica_core.specs.Sound.{IsConsistent}
use Rattle.replica_core.specs.Transitions.{Outcome, done, record_after, state_after, transition, present, with_writer, set_writer, new_transition, packet_transition, extent_transition, acknowledge, oldest_of, stream_by, is_written_by}
use Rattle.replica_core.proofs.InfoLemmas.{present_is, reopen_is, recover_setup_is, recover_stream_is, begin_recovery_is}
use Rattle.replica_core.proofs.StepLemmas.{after_check, after_step, choice}
use Rattle.replica_core.specs.Views.{written_in, written_at}
use Rattle.replica_model.specs.declared.events.ReplicaEvent.{ReplicaEvent}
use Rattle.replica_model.specs.Rows.{FullReplica, IsFull, row, event_at, brought}
use Rattle.world_recoveries.proofs.WorldLaws.Fronts.{front-take, front-takes}
use Rattle.world_recoveries.specs.WorldLaws.Joining.{AtLeast, Rises}
use Rattle.world_recoveries.proofs.WorldLaws.SetupRising.{Goes}
use Rattle.world_acks.specs.Acking.{Shown}

-- RECORDS

-- so many bytes are visible
record Sees (o : Option ReplicaInfo) (n : ℕ) : Type 0 where
  pub info : ReplicaInfo
  pub is : o ≡ Some info
  pub visible : ℕ
  pub sees : visible_of info ≡ Some visible
  pub enough : n ≤ visible

-- what is visible stays so
abbrev SeesOn : Option ReplicaInfo → Option ReplicaInfo → Type 0
SeesOn o p = (i : ReplicaInfo) (n : ℕ) → o ≡ Some i → visible_of i ≡ Some n → Sees p n

sees-same : (o : Option ReplicaInfo) → SeesOn o o
sees-same o = λ i n e v. record { info = i; is = e; visible = n; sees = v; enough = omega arith }

sees-to : (o : Option ReplicaInfo) (i k : ReplicaInfo) → o ≡ Some i → ((m : ℕ) → visible_of i ≡ Some m → Sees (Some k) m) → SeesOn o (Some k)
sees-to o i k e h = λ j m f v. h m (subst (λ (x : ReplicaInfo). visible_of x ≡ Some m) (same_Some j i (sym f ∙ e)) v)

visible-within : (i : ReplicaInfo) (m : ℕ) → IsConsistent i → visible_of i ≡ Some m → m ≤ i.written
visible-within i m h v = go i.original v
  where
    go : (s : ReplicaState) → visible_under s i.written i.acked ≡ Some m → m ≤ i.written
    go state.Finalized e = omega (arith, same_Some i.written m e)
    go state.Rbw e = omega (arith, same_Some i.acked m e, h.acked)
    go state.Rwr e = absurd (none-some m e)
    go state.Rur e = absurd (none-some m e)
    go state.Temporary e = absurd (none-some m e)

consistent-of : (c : ReplicaRecord) (i : ReplicaInfo) → c.info ≡ Some i → IfSome c.info IsConsistent → IsConsistent i
consistent-of c i e h = subst (λ (o : Option ReplicaInfo). IfSome o IsConsistent) e h

abbrev On : ReplicaRecord → ReplicaRecord → Type 0
On c d = SeesOn c.info d.info

by-there : (c : ReplicaRecord) (next : ReplicaInfo → Outcome) → ((i : ReplicaInfo) → c.info ≡ Some i → On c (record_after c (next i))) → On c (record_after c (present c >>= next))
by-there c next onward = after_step (On c) c (present c) next (sees-same c.info) (λ i e. onward i (present_is c i e).1)

by-writer : (c : ReplicaRecord) (i : ReplicaInfo) (writer : Option ConnId) (next : Result ReplicaInfo Refusal) (at : ReplicaState) (t : Stamp) (r : Rule) → c.info ≡ Some i → ((n : ℕ) → visible_of (settled_at at t r n) ≡ Some n)
    → ((k : ReplicaInfo) → next ≡ Ok k → (n : ℕ) × (k ≡ settled_at at t r n) × ((m : ℕ) → visible_of i ≡ Some m → m ≤ n)) → On c (record_after c (with_writer c writer next))
by-writer c i writer next at t r e sees k =
    after_step (On c) c next (λ j. done (set_writer c j writer)) (sees-same c.info) (λ j q.
    let x = k j q in
    sees-to c.info i j e (λ m v. record { info = j; is = refl; visible = x.0; sees = subst (λ (z : ReplicaInfo). visible_of z ≡ Some x.0) (sym x.1) (sees x.0); enough = x.2 m v }))

create-sees : (c : ReplicaRecord) (conn : ConnId) (s : ReplicaState) (t : Stamp) (r : Rule) → On c (record_after c (new_transition c s conn t r))
create-sees c conn s t r =
    after_check (On c) c (not c.is_broken) refusal.Broken _ (sees-same c.info) (λ _.
    after_check (On c) c (is_none c.info) refusal.Exists _ (sees-same c.info) (λ none. from c.info none))
  where
    from : (o : Option ReplicaInfo) → is_none o ≡ true → SeesOn o (Some (settled_at s t r 0))
    from None e = λ i n f v. absurd (none-some i f)
    from (Some i) e = absurd (false≢true e)

-- more that is written or acked
record More (s : ReplicaState) (w a m : ℕ) : Type 0 where
  pub visible : ℕ
  pub sees : visible_under s w a ≡ Some visible
  pub enough : m ≤ visible

more-of : (s : ReplicaState) (w a x b m : ℕ) → w ≤ x → a ≤ b → visible_under s w a ≡ Some m → More s x b m
more-of state.Finalized w a x b m h k e = record { visible = x; sees = refl; enough = omega (arith, same_Some w m e) }
more-of state.Rbw w a x b m h k e = record { visible = b; sees = refl; enough = omega (arith, same_Some a m e) }
more-of state.Rwr w a x b m h k e = absurd (none-some m e)
more-of state.Rur w a x b m h k e = absurd (none-some m e)
more-of state.Temporary w a x b m h k e = absurd (none-some m e)

closed-more : (s : ReplicaState) (w a x m : ℕ) → a ≤ w → visible_under s w a ≡ Some m → More (state_after_last s) w x m
closed-more state.Finalized w a x m h e = record { visible = w; sees = refl; enough = omega (arith, same_Some w m e) }
closed-more state.Rbw w a x m h e = record { visible = w; sees = refl; enough = omega (arith, same_Some a m e) }
closed-more state.Rwr w a x m h e = absurd (none-some m e)
closed-more state.Rur w a x m h e = absurd (none-some m e)
closed-more state.Temporary w a x m h e = absurd (none-some m e)

acked-sees : (c : ReplicaRecord) (i : ReplicaInfo) (p : PendingPacket) (good : Bool) → c.info ≡ Some i → IsConsistent i → On c (acknowledge c i p good)
acked-sees c i p false e h = sees-same c.info
acked-sees c i p true e h =
    choice (On c) p.last _ _
    (λ _. sees-to c.info i (close_stream (advance_acked i p.end)) e (λ m v. let x = closed-more i.original i.written i.acked (max i.acked p.end) m h.acked v in record { info = _; is = refl; visible = x.visible; sees = x.sees; enough = x.enough }))
    (λ _. sees-to c.info i (advance_acked i p.end) e (λ m v. let x = more-of i.original i.written i.acked i.written (max i.acked p.end) m (omega arith) (omega arith) v in record { info = _; is = refl; visible = x.visible; sees = x.sees; enough = x.enough }))

packet-sees : (c : ReplicaRecord) (conn : ConnId) (q : PacketExtent) → On c (record_after c (packet_transition c conn q))
unfolding extent_transition
packet-sees c conn q =
    by-there c _ (λ i is. after_check (On c) c (is_writable (state_of i)) refusal.NotWriter _ stay (λ _.
    after_step (On c) c (stream_by c.stream conn) _ stay (λ s _.
    choice (λ (o : Outcome). On c (record_after c o)) (int_eq q.seqno (negsuc 0)) _ _
    (λ _. after_step (On c) c (heartbeat_of q) _ stay (λ e _. stay))
    (λ _. after_step (On c) c (stream_after s q) _ stay (λ t _. after_step (On c) c (pending_of i.sums q i.written) _ stay (λ e _.
    sees-to c.info i (extend_written i e.end) is (λ m v. let x = more-of i.original i.written i.acked (max i.written e.end) i.acked m (omega arith) (omega arith) v in record { info = _; is = refl; visible = x.visible; sees = x.sees; enough = x.enough })))))))
  where
    stay : On c c
    stay = sees-same c.info

-- the recovery of a stream finds an RBW replica
pub stream-open : (i k : ReplicaInfo) (named new : Stamp) (low high : ℕ) → recover_stream i named new low high ≡ Ok k → (is_rbw (state_of i) ≡ true) × (low ≤ i.acked)
unfolding recover_stream
stream-open i k named new low high e = grind (arith, nat_tests)

rbw-shows : (i : ReplicaInfo) (m : ℕ) → is_rbw (state_of i) ≡ true → visible_of i ≡ Some m → m ≤ i.acked
rbw-shows i m e v = go i.recovery i.original e v
  where
    go : (o : Option Stamp) (s : ReplicaState) → is_rbw (state_under o s) ≡ true → visible_under s i.written i.acked ≡ Some m → m ≤ i.acked
    go (Some id) s q x = absurd (false≢true q)
    go None state.Rbw q x = omega (arith, same_Some i.acked m x)
    go None state.Finalized q x = absurd (false≢true q)
    go None state.Rwr q x = absurd (false≢true q)
    go None state.Rur q x = absurd (false≢true q)
    go None state.Temporary q x = absurd (false≢true q)

-- an event that isn't the end of a recovery
abbrev pub IsNoUpdate : Event → Type 0
IsNoUpdate (event.Update id n) = ⊥
IsNoUpdate _ = Unit {0}

event-sees : (c : ReplicaRecord) (e : Event) → IsNoUpdate e → IfSome c.info IsConsistent → On c (state_after c e)
unfolding transition
event-sees c (event.Create conn t r) k h = create-sees c conn state.Rbw t r
event-sees c (event.Temporary conn t r) k h = create-sees c conn state.Temporary t r
event-sees c (event.Append conn named new n) k h =
    by-there c _ (λ i is. by-writer c i (Some conn) (reopen i named new n) state.Rbw new i.sums is (λ x. refl) (λ j e. let s = reopen_is i j named new n e in (n, s.0, λ m v. omega (arith, s.1, visible-within i m (consistent-of c i is h) v))))
event-sees c (event.AppendRecovery conn named new n) k h =
    by-there c _ (λ i is. by-writer c i (Some conn) (recover_setup i named new n state.Rbw) state.Rbw new i.sums is (λ x. refl) (λ j e. let s = recover_setup_is i j named new n state.Rbw e in (n, s.0, λ m v. omega (arith, s.1, visible-within i m (consistent-of c i is h) v))))
event-sees c (event.StreamRecovery conn named new low high) k h =
    by-there c _ (λ i is. by-writer c i (Some conn) (recover_stream i named new low high) state.Rbw new i.sums is (λ x. refl) (λ j e. (i.acked, recover_stream_is i j named new low high e, λ m v. rbw-shows i m (stream-open i j named new low high e).0 v)))
event-sees c (event.CloseRecovery named new n) k h =
    by-there c _ (λ i is. by-writer c i None (recover_setup i named new n state.Finalized) state.Finalized new i.sums is (λ x. refl) (λ j e. let s = recover_setup_is i j named new n state.Finalized e in (n, s.0, λ m v. omega (arith, s.1, visible-within i m (consistent-of c i is h) v))))
event-sees c (event.Packet conn seqno offset n sums last sync bad) k h = packet-sees c conn (record { seqno = seqno; offset = offset; length = n; sums = sums; last = last; sync = sync; bad = bad })
event-sees c (event.Ack conn seqno good) k h =
    by-there c _ (λ i is. after_step (On c) c (stream_by c.stream conn) _ (sees-same c.info) (λ s _.
    after_step (On c) c (oldest_of (slice_get c.pending 0) seqno) _ (sees-same c.info) (λ p _. acked-sees c i p good is (consistent-of c i is h))))
event-sees c (event.Ended conn) k h = choice (On c) (is_written_by c.stream conn) _ _ (λ _. sees-same c.info) (λ _. sees-same c.info)
event-sees c (event.Init named id) k h =
    by-there c _ (λ i is. after_step (On c) c (begin_recovery i named id) _ (sees-same c.info) (λ j e.
    subst (λ (y : ReplicaInfo). SeesOn c.info (Some y)) (sym (begin_recovery_is i j named id e))
    (sees-to c.info i (record i { recovery = Some id }) is (λ m v. record { info = _; is = refl; visible = m; sees = v; enough = omega arith }))))
event-sees c (event.Update id n) k h = absurd k
event-sees c (event.Read named offset n) k h = by-there c _ (λ i _. after_step (On c) c (readable i (visible_of i) named offset n) _ (sees-same c.info) (λ _ _. sees-same c.info))
event-sees c (event.Give named offset n) k h = by-there c _ (λ i _. after_step (On c) c (given i named offset n) _ (sees-same c.info) (λ _ _. sees-same c.info))
event-sees c event.FileFault k h = sees-same c.info

-- REPLICAS

-- the front of bytes that are cut and joined behind
front-stays : (n w : ℕ) (v more : List ℕ) → n ≤ length v → n ≤ length (take w (v ++ more)) → take n (take w (v ++ more)) ≡ take n v
front-stays n w v more h k = front-takes n (take w (v ++ more)) (v ++ more) (front-take w (v ++ more)) k ∙ sym (front-takes n v (v ++ more) (more, refl) h)

stamp-then : (o p : Option ReplicaInfo) (i j : ReplicaInfo) → o ≡ Some i → p ≡ Some j → Rises o p → i.stamp.0 ≤ j.stamp.0
stamp-then o p i j e f r = go (subst (λ (x : Option ReplicaInfo). Rises x p) e r)
  where
    go : AtLeast p i.stamp.0 → i.stamp.0 ≤ j.stamp.0
    go a = omega (arith, a.least, ap (λ (x : ReplicaInfo). x.stamp.0) (same_Some a.info j (sym a.is ∙ f)))

written-of : (r : FullReplica) (i : ReplicaInfo) → r.known.info ≡ Some i → IsFull r → length r.bytes ≡ i.written
written-of r i e h = h.all ∙ ap (λ (o : Option ReplicaInfo). written_at o) e

pub row-shows : (r : FullReplica) (e : ReplicaEvent) → IsFull r → IsFull (row r e) → IsNoUpdate (event_at r e) → Goes r.known.info (row r e).known.info
    → (s n : ℕ) (v : List ℕ) → Shown r s n v → Shown (row r e) s n v
row-shows r e h k u g s n v x =
    let y = event-sees r.known (event_at r e) u h.sound.info x.info x.visible x.is x.sees in
    let old = visible-within x.info x.visible (consistent-of r.known x.info x.is h.sound.info) x.sees in
    let new = visible-within y.info y.visible (consistent-of (row r e).known y.info y.is k.sound.info) y.sees in
    record {
      info = y.info;
      is = y.is;
      least = omega (arith, x.least, stamp-then r.known.info (row r e).known.info x.info y.info x.is y.is g.rises);
      visible = y.visible;
      sees = y.sees;
      enough = omega (arith, x.enough, y.enough);
      bytes = front-stays n (written_in (row r e).known) r.bytes (brought (length r.bytes) e) (omega (arith, x.enough, old, written-of r x.info x.is h))
          (omega (arith, x.enough, y.enough, new, written-of (row r e) y.info y.is k)) ∙ x.bytes;
      within = x.within;
    }
