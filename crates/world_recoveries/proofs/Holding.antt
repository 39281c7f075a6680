-- What an event leaves of a replica that a recovery holds.
use Rattle.std.proofs.Common.{◌≡◌, ℕ, ◌<◌, ◌≤◌, ◌||◌, ◌⊎◌, inl, inr, Bool, true, false, slice_get, Option, Some, None, IfSome, Result, Ok, refl, sym, ◌∙◌, ap, subst, arith}
use Rattle.std.specs.Prelude.{not, is_none, negsuc, option_map}
use Rattle.std.specs.Ordering.{int_eq}
use Rattle.std.proofs.lemmas.Bool.{false≢true}
use Rattle.std.proofs.lemmas.Bool.Decides.{nat_tests}
use Rattle.std.proofs.lemmas.Option.{none-some, same_Some}
use Rattle.hd_base.specs.Results.{◌>>=◌}
use Rattle.hd_base.specs.SumRules.{Rule}
use Rattle.hd_base.specs.declared.numbers.ConnId.{ConnId}
use Rattle.hd_base.specs.declared.numbers.Stamp.{Stamp}
use Rattle.hd_base.specs.declared.states.ReplicaState.{ReplicaState}
use Rattle.hd_base.specs.declared.states.ReplicaState.TheVariants as state
use Rattle.replica_core.specs.declared.ack_queue.PendingPacket.{PendingPacket}
use Rattle.replica_core.specs.declared.events.Event.{Event}
use Rattle.replica_core.specs.declared.events.Event.TheVariants as event
use Rattle.replica_core.specs.declared.extents.PacketExtent.{PacketExtent}
use Rattle.replica_core.specs.declared.info.ReplicaInfo.{ReplicaInfo}
use Rattle.replica_core.specs.declared.records.ReplicaRecord.{ReplicaRecord}
use Rattle.replica_core.specs.declared.refusals.Refusal.{Refusal}
use Rattle.replica_core.specs.declared.refusals.Refusal.TheVariants as refusal
use Rattle.replica_core.specs.declared.streams.Stream.{Stream}
use Rattle.replica_core.specs.Extents.{stream_after, heartbeat_of, pending_of}
use Rattle.replica_core.specs.Info.{settled_at, reopen, recover_setup, recover_stream, begin_recovery, end_recovery, is_writable, is_finalized, is_rbw, is_free_for, state_of, state_under, extend_written, advance_acked, close_stream, readable, given, visible_of}
use Rattle.replica_core.specs.Sound.{Sound, IsWritable}
use Rattle.replica_core.specs.Transitions.{Outcome, done, record_after, state_after, transition, present, with_writer, set_writer, new_transition, packet_transition, extent_transition, acknowledge, oldest_of, stream_by, is_written_by}
use Rattle.replica_core.proofs.InfoLemmas.{present_is, reopen_is, recover_setup_is, recover_stream_is, begin_recovery_is, end_recovery_is}
use Rattle.replica_core.proofs.StepLemmas.{after_check, after_step, choice}
use Rattle.world_laws.specs.ReplicaModel.ReplicaEvent.{ReplicaEvent}
use Rattle.world_laws.specs.ReplicaModel.Rows.{FullReplica, row, event_at}
use Rattle.world_laws.proofs.ByteRows.{reopen-stamp, setup-stamp, stream-stamp, begin-stamp, update-held}
use Rattle.world_recoveries.specs.Recovering.{ReplicaTold, top_under, top_of, StillTrue}

-- REPLICAS THAT ARE HELD

pub record AtTop (o : Option ReplicaInfo) (n : ℕ) : Type 0 where
  pub info : ReplicaInfo
  pub is : o ≡ Some info
  pub least : n ≤ top_of info

-- the top doesn't fall, and a replica that is there stays
abbrev pub Tops : Option ReplicaInfo → Option ReplicaInfo → Type 0
Tops None p = Unit {0}
Tops (Some i) p = AtTop p (top_of i)

-- what a recovery holds that could have held it before, it held, and it is as it was
pub record Stays (i k : ReplicaInfo) : Type 0 where
  pub held : (id : Stamp) → k.recovery ≡ Some id → id.0 ≤ top_of i → (i.recovery ≡ Some id) × (k.original ≡ i.original) × (k.stamp ≡ i.stamp) × (k.written ≡ i.written)

pub record Moves (o p : Option ReplicaInfo) : Type 0 where
  pub tops : Tops o p
  pub stays : (i k : ReplicaInfo) → o ≡ Some i → p ≡ Some k → Stays i k
  pub stamps : (i k : ReplicaInfo) → o ≡ Some i → p ≡ Some k → (i.stamp.0 ≤ k.stamp.0) ⊎ (top_of i ≤ k.stamp.0)

tops-same : (o : Option ReplicaInfo) → Tops o o
tops-same None = tt
tops-same (Some i) = record { info = i; is = refl; least = omega arith }

pub moves-same : (o : Option ReplicaInfo) → Moves o o
moves-same o = record {
  tops = tops-same o;
  stays = λ i k e q. subst (λ (x : ReplicaInfo). Stays i x) (same_Some i k (sym e ∙ q)) (record { held = λ id r le. (r, refl, refl, refl) });
  stamps = λ i k e q. inl (omega (arith, ap (λ (x : ReplicaInfo). x.stamp.0) (same_Some i k (sym e ∙ q))));
}

moves-to : (o : Option ReplicaInfo) (i k : ReplicaInfo) → o ≡ Some i → top_of i ≤ top_of k → (i.stamp.0 ≤ k.stamp.0) ⊎ (top_of i ≤ k.stamp.0) → Stays i k → Moves o (Some k)
moves-to o i k e le rise s = subst (λ (q : Option ReplicaInfo). Moves q (Some k)) (sym e) (record {
  tops = record { info = k; is = refl; least = le };
  stays = λ j x p q. subst (λ (z : ReplicaInfo). Stays j z) (same_Some k x q) (subst (λ (z : ReplicaInfo). Stays z k) (same_Some i j p) s);
  stamps = λ j x p q. subst (λ (z : ReplicaInfo). (j.stamp.0 ≤ z.stamp.0) ⊎ (top_of j ≤ z.stamp.0)) (same_Some k x q)
      (subst (λ (z : ReplicaInfo). (z.stamp.0 ≤ k.stamp.0) ⊎ (top_of z ≤ k.stamp.0)) (same_Some i j p) rise);
})

-- what no recovery holds
stays-free : (i k : ReplicaInfo) → k.recovery ≡ None → Stays i k
stays-free i k e = record { held = λ id q le. absurd (none-some id (sym e ∙ q)) }

-- as it was, but for what is acked
stays-as : (i k : ReplicaInfo) → k.recovery ≡ i.recovery → k.original ≡ i.original → k.stamp ≡ i.stamp → k.written ≡ i.written → Stays i k
stays-as i k r o s n = record { held = λ id q le. (sym r ∙ q, o, s, n) }

top-free : (o : Option Stamp) (s : Stamp) → o ≡ None → top_under o s ≡ s.0
top-free o s e = ap (λ (x : Option Stamp). top_under x s) e

top-held : (o : Option Stamp) (s id : Stamp) → o ≡ Some id → top_under o s ≡ id.0
top-held o s id e = ap (λ (x : Option Stamp). top_under x s) e

-- STATES THAT NO RECOVERY HOLDS

final-free : (o : Option Stamp) (s : ReplicaState) → is_finalized (state_under o s) ≡ true → o ≡ None
final-free None s e = refl
final-free (Some id) s e = absurd (false≢true e)

rbw-free : (o : Option Stamp) (s : ReplicaState) → is_rbw (state_under o s) ≡ true → o ≡ None
rbw-free None s e = refl
rbw-free (Some id) s e = absurd (false≢true e)

either-free : (o : Option Stamp) (s : ReplicaState) → (is_finalized (state_under o s) || is_rbw (state_under o s)) ≡ true → o ≡ None
either-free None s e = refl
either-free (Some id) s e = absurd (false≢true e)

writable-free : (o : Option Stamp) (s : ReplicaState) → is_writable (state_under o s) ≡ true → o ≡ None
writable-free None s e = refl
writable-free (Some id) s e = absurd (false≢true e)

reopen-final : (i k : ReplicaInfo) (named new : Stamp) (n : ℕ) → reopen i named new n ≡ Ok k → is_finalized (state_of i) ≡ true
unfolding reopen
reopen-final i k named new n e = grind (arith, nat_tests)

setup-either : (i k : ReplicaInfo) (named new : Stamp) (n : ℕ) (into : ReplicaState) → recover_setup i named new n into ≡ Ok k → (is_finalized (state_of i) || is_rbw (state_of i)) ≡ true
unfolding recover_setup
setup-either i k named new n into e = grind (arith, nat_tests)

stream-rbw : (i k : ReplicaInfo) (named new : Stamp) (low high : ℕ) → recover_stream i named new low high ≡ Ok k → is_rbw (state_of i) ≡ true
unfolding recover_stream
stream-rbw i k named new low high e = grind (arith, nat_tests)

begin-free : (i k : ReplicaInfo) (named id : Stamp) → begin_recovery i named id ≡ Ok k → is_free_for i.recovery id ≡ true
unfolding begin_recovery
begin-free i k named id e = grind (arith, nat_tests)

free-top : (o : Option Stamp) (s id : Stamp) → is_free_for o id ≡ true → s.0 < id.0 → top_under o s < id.0
free-top None s id e lt = lt
free-top (Some r) s id e lt = grind (arith, nat_tests, e)

-- a replica that a recovery begins to hold had no such top
pub begin-top : (i k : ReplicaInfo) (named id : Stamp) → begin_recovery i named id ≡ Ok k → top_of i < id.0
begin-top i k named id e = free-top i.recovery i.stamp id (begin-free i k named id e) (begin-stamp i k named id e).1

-- EVENTS

abbrev Next : ReplicaRecord → ReplicaRecord → Type 0
Next c d = Moves c.info d.info

by-there : (c : ReplicaRecord) (next : ReplicaInfo → Outcome) → ((i : ReplicaInfo) → c.info ≡ Some i → Next c (record_after c (next i))) → Next c (record_after c (present c >>= next))
by-there c next onward = after_step (Next c) c (present c) next (moves-same c.info) (λ i e. onward i (present_is c i e).1)

by-writer : (c : ReplicaRecord) (i : ReplicaInfo) (writer : Option ConnId) (next : Result ReplicaInfo Refusal) (at : ReplicaState) (t : Stamp) (r : Rule) → c.info ≡ Some i
    → ((k : ReplicaInfo) → next ≡ Ok k → (n : ℕ) × (k ≡ settled_at at t r n) × (top_of i ≤ t.0)) → Next c (record_after c (with_writer c writer next))
by-writer c i writer next at t r e k =
    after_step (Next c) c next (λ j. done (set_writer c j writer)) (moves-same c.info) (λ j q.
    let x = k j q in
    subst (λ (z : ReplicaInfo). Moves c.info (Some z)) (sym x.1) (moves-to c.info i (settled_at at t r x.0) e x.2 (inr x.2) (stays-free i (settled_at at t r x.0) refl)))

-- from a stamp of a replica that no recovery holds
from-stamp : (i : ReplicaInfo) (t : Stamp) → i.recovery ≡ None → i.stamp.0 ≤ t.0 → top_of i ≤ t.0
from-stamp i t e le = omega (arith, le, top-free i.recovery i.stamp e)

create-moves : (c : ReplicaRecord) (at : ReplicaState) (conn : ConnId) (t : Stamp) (r : Rule) → Next c (record_after c (new_transition c at conn t r))
create-moves c at conn t r =
    after_check (Next c) c (not c.is_broken) refusal.Broken _ (moves-same c.info) (λ _.
    after_check (Next c) c (is_none c.info) refusal.Exists _ (moves-same c.info) (λ none. from c.info none))
  where
    from : (o : Option ReplicaInfo) → is_none o ≡ true → Moves o (Some (settled_at at t r 0))
    from None e = record { tops = tt; stays = λ i k q _. absurd (none-some i q); stamps = λ i k q _. absurd (none-some i q) }
    from (Some i) e = absurd (false≢true e)

-- a replica that a connection writes isn't held
written-free : (c : ReplicaRecord) (conn : ConnId) (s : Stream) (i : ReplicaInfo) → Sound c → stream_by c.stream conn ≡ Ok s → c.info ≡ Some i → i.recovery ≡ None
written-free c conn s i h e is = go c.stream h.writing e
  where
    writes : IsWritable (option_map state_of c.info) → is_writable (state_of i) ≡ true
    writes x = same_Some (is_writable (state_of i)) true (subst (λ (o : Option ReplicaInfo). option_map is_writable (option_map state_of o) ≡ Some true) is x)

    go : (o : Option Stream) → IfSome o (λ _. IsWritable (option_map state_of c.info)) → stream_by o conn ≡ Ok s → i.recovery ≡ None
    go None w q = absurd (cc)
    go (Some t) w q = writable-free i.recovery i.original (writes w)

acknowledge-moves : (c : ReplicaRecord) (i : ReplicaInfo) (p : PendingPacket) (good : Bool) → c.info ≡ Some i → i.recovery ≡ None → Next c (acknowledge c i p good)
acknowledge-moves c i p false e free = moves-same c.info
acknowledge-moves c i p true e free =
    choice (Next c) p.last _ _
    (λ _. moves-to c.info i (close_stream (advance_acked i p.end)) e (from-stamp i i.stamp free (omega arith)) (inl (omega arith)) (stays-free i (close_stream (advance_acked i p.end)) refl))
    (λ _. moves-to c.info i (advance_acked i p.end) e (omega arith) (inl (omega arith)) (stays-as i (advance_acked i p.end) refl refl refl refl))

packet-moves : (c : ReplicaRecord) (conn : ConnId) (q : PacketExtent) → Next c (record_after c (packet_transition c conn q))
unfolding extent_transition
packet-moves c conn q =
    by-there c _ (λ i is. after_check (Next c) c (is_writable (state_of i)) refusal.NotWriter _ stay (λ open_.
    after_step (Next c) c (stream_by c.stream conn) _ stay (λ s _.
    choice (λ (o : Outcome). Next c (record_after c o)) (int_eq q.seqno (negsuc 0)) _ _
    (λ _. after_step (Next c) c (heartbeat_of q) _ stay (λ e _. stay))
    (λ _. after_step (Next c) c (stream_after s q) _ stay (λ t _. after_step (Next c) c (pending_of i.sums q i.written) _ stay (λ e _.
    moves-to c.info i (extend_written i e.end) is (omega arith) (inl (omega arith)) (stays-free i (extend_written i e.end) (writable-free i.recovery i.original open_))))))))
  where
    stay : Next c c
    stay = moves-same c.info

pub event-moves : (c : ReplicaRecord) (e : Event) → Sound c → Moves c.info (state_after c e).info
unfolding transition
event-moves c (event.Create conn t r) h = create-moves c state.Rbw conn t r
event-moves c (event.Temporary conn t r) h = create-moves c state.Temporary conn t r
event-moves c (event.Append conn named new n) h =
    by-there c _ (λ i is. by-writer c i (Some conn) (reopen i named new n) state.Rbw new i.sums is (λ j e.
    let s = reopen-stamp i j named new n e in
    (n, (reopen_is i j named new n e).0, from-stamp i new (final-free i.recovery i.original (reopen-final i j named new n e)) (omega (arith, s.0, s.1)))))
event-moves c (event.AppendRecovery conn named new n) h =
    by-there c _ (λ i is. by-writer c i (Some conn) (recover_setup i named new n state.Rbw) state.Rbw new i.sums is (λ j e.
    (n, (recover_setup_is i j named new n state.Rbw e).0, from-stamp i new (either-free i.recovery i.original (setup-either i j named new n state.Rbw e)) (setup-stamp i j named new n state.Rbw e).1)))
event-moves c (event.StreamRecovery conn named new low high) h =
    by-there c _ (λ i is. by-writer c i (Some conn) (recover_stream i named new low high) state.Rbw new i.sums is (λ j e.
    (i.acked, recover_stream_is i j named new low high e, from-stamp i new (rbw-free i.recovery i.original (stream-rbw i j named new low high e)) (stream-stamp i j named new low high e).1)))
event-moves c (event.CloseRecovery named new n) h =
    by-there c _ (λ i is. by-writer c i None (recover_setup i named new n state.Finalized) state.Finalized new i.sums is (λ j e.
    (n, (recover_setup_is i j named new n state.Finalized e).0, from-stamp i new (either-free i.recovery i.original (setup-either i j named new n state.Finalized e)) (setup-stamp i j named new n state.Finalized e).1)))
event-moves c (event.Packet conn seqno offset n sums last sync bad) h = packet-moves c conn (record { seqno = seqno; offset = offset; length = n; sums = sums; last = last; sync = sync; bad = bad })
event-moves c (event.Ack conn seqno good) h =
    by-there c _ (λ i is. after_step (Next c) c (stream_by c.stream conn) _ (moves-same c.info) (λ s e.
    after_step (Next c) c (oldest_of (slice_get c.pending 0) seqno) _ (moves-same c.info) (λ p _. acknowledge-moves c i p good is (written-free c conn s i h e is))))
event-moves c (event.Ended conn) h = choice (Next c) (is_written_by c.stream conn) _ _ (λ _. moves-same c.info) (λ _. moves-same c.info)
event-moves c (event.Init named id) h =
    by-there c _ (λ i is. after_step (Next c) c (begin_recovery i named id) _ (moves-same c.info) (λ j e.
    let lt = begin-top i j named id e in
    subst (λ (y : ReplicaInfo). Moves c.info (Some y)) (sym (begin_recovery_is i j named id e))
    (moves-to c.info i (record i { recovery = Some id }) is (omega (arith, lt)) (inl (omega arith)) (record { held = λ t q le. absurd (omega (arith, le, lt, ap (λ (y : Stamp). y.0) (same_Some id t q))) }))))
event-moves c (event.Update id n) h =
    by-there c _ (λ i is. by-writer c i None (end_recovery i i.recovery id n) state.Finalized id i.sums is (λ j e.
    (n, (end_recovery_is i j i.recovery id n e).0, omega (arith, top-held i.recovery i.stamp id (update-held i j i.recovery id n e)))))
event-moves c (event.Read named offset n) h = by-there c _ (λ i _. after_step (Next c) c (readable i (visible_of i) named offset n) _ (moves-same c.info) (λ _ _. moves-same c.info))
event-moves c (event.Give named offset n) h = by-there c _ (λ i _. after_step (Next c) c (given i named offset n) _ (moves-same c.info) (λ _ _. moves-same c.info))
event-moves c event.FileFault h = moves-same c.info

-- what was told stays true
pub still-moves : (id : Stamp) (t : ReplicaTold) (o p : Option ReplicaInfo) → StillTrue id t o → Moves o p → StillTrue id t p
still-moves id t o p x m =
    let a = at x.is m.tops in
    let s = m.stays x.info a.info x.is a.is in
    record {
      info = a.info;
      is = a.is;
      above = omega (arith, x.above, a.least);
      same = λ q. let y = s.held id q x.above in let z = x.same y.0 in (y.1 ∙ z.0, y.2 ∙ z.1, y.3 ∙ z.2);
    }
  where
    at : o ≡ Some x.info → Tops o p → AtTop p (top_of x.info)
    at e h = subst (λ (q : Option ReplicaInfo). Tops q p) e h

-- CHANGES OF REPLICAS

-- the record stays, or an event is booked
pub data Books (r s : FullReplica) : Type 0 where
  as_before : s.known ≡ r.known → Books r s
  books : (e : ReplicaEvent) → s ≡ row r e → Books r s

pub books-moves : (r s : FullReplica) → Sound r.known → Books r s → Moves r.known.info s.known.info
books-moves r s h (as_before e) = subst (λ (c : ReplicaRecord). Moves r.known.info c.info) (sym e) (moves-same r.known.info)
books-moves r s h (books e q) = subst (λ (x : FullReplica). Moves r.known.info x.known.info) (sym q) (event-moves r.known (event_at r e) h)
