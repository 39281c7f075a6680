-- No event lets a replica's stamp fall.
use Rattle.std.proofs.Common.{◌≡◌, ℕ, ◌<◌, ◌≤◌, Bool, true, false, slice_get, Option, Some, None, IfSome, Result, Ok, Err, refl, sym, ◌∙◌, subst, arith}
use Rattle.std.specs.Prelude.{not, is_none, negsuc, if◌then◌else◌}
use Rattle.std.specs.Ordering.{int_eq}
use Rattle.std.proofs.lemmas.Bool.{false≢true}
use Rattle.std.proofs.lemmas.Option.{none-some, same_Some}
use Rattle.hd_base.specs.Results.{◌>>=◌}
use Rattle.hd_base.specs.SumRules.{Rule}
use Rattle.hd_base.specs.declared.numbers.ConnId.{ConnId}
use Rattle.hd_base.specs.declared.numbers.Stamp.{Stamp}
use Rattle.hd_base.specs.declared.states.ReplicaState.{ReplicaState}
use Rattle.hd_base.specs.declared.states.ReplicaState.TheVariants as state
use Rattle.replica_core.specs.declared.ack_queue.PendingPacket.{PendingPacket}
use Rattle.replica_core.specs.declared.events.Answer.TheVariants as answer
use Rattle.replica_core.specs.declared.events.Event.{Event}
use Rattle.replica_core.specs.declared.events.Event.TheVariants as event
use Rattle.replica_core.specs.declared.extents.PacketExtent.{PacketExtent}
use Rattle.replica_core.specs.declared.info.ReplicaInfo.{ReplicaInfo}
use Rattle.replica_core.specs.declared.records.ReplicaRecord.{ReplicaRecord}
use Rattle.replica_core.specs.declared.refusals.Refusal.{Refusal}
use Rattle.replica_core.specs.declared.refusals.Refusal.TheVariants as refusal
use Rattle.replica_core.specs.Extents.{stream_after, heartbeat_of, pending_of}
use Rattle.replica_core.specs.Info.{settled_at, reopen, recover_setup, recover_stream, begin_recovery, end_recovery, is_writable, state_of, extend_written, advance_acked, close_stream, state_after_last, readable, given, visible_of}
use Rattle.replica_core.specs.Transitions.{Outcome, done, record_after, state_after, transition, present, with_writer, set_writer, new_transition, packet_transition, extent_transition, acknowledge, oldest_of, stream_by, is_written_by}
use Rattle.replica_core.proofs.InfoLemmas.{present_is, reopen_is, recover_setup_is, recover_stream_is, begin_recovery_is, end_recovery_is}
use Rattle.replica_core.proofs.StepLemmas.{after_check, after_step, choice}
use Rattle.world_laws.proofs.ByteRows.{reopen-stamp, setup-stamp, stream-stamp, begin-stamp, update-held}
use Rattle.world_laws.specs.Joining.{IsPlain, Rises}

-- what an event leaves: no lower stamp, and a plain replica
pub record Goes (o p : Option ReplicaInfo) : Type 0 where
  pub rises : Rises o p
  pub plain : IfSome p IsPlain

rises-same : (o : Option ReplicaInfo) → Rises o o
rises-same None = tt
rises-same (Some i) = record { info = i; is = refl; least = omega arith }

pub goes-same : (o : Option ReplicaInfo) → IfSome o IsPlain → Goes o o
goes-same o h = record { rises = rises-same o; plain = h }

-- from what is there
goes-to : (o : Option ReplicaInfo) (i k : ReplicaInfo) → o ≡ Some i → i.stamp.0 ≤ k.stamp.0 → IsPlain k → Goes o (Some k)
goes-to o i k e le h = subst (λ (q : Option ReplicaInfo). Goes q (Some k)) (sym e) (record { rises = record { info = k; is = refl; least = le }; plain = h })

plain-settled : (at : ReplicaState) (t : Stamp) (r : Rule) (n : ℕ) → (at ≡ state.Temporary → ⊥) → IsPlain (settled_at at t r n)
plain-settled at t r n h = record { lasting = h; above = λ id e. absurd (none-some id e) }

rbw-lasts : state.Rbw ≡ state.Temporary → ⊥
rbw-lasts e = cc

final-lasts : state.Finalized ≡ state.Temporary → ⊥
final-lasts e = cc

-- as it was under another state
plain-as : (i k : ReplicaInfo) → k.original ≡ i.original → k.stamp ≡ i.stamp → k.recovery ≡ i.recovery → IsPlain i → IsPlain k
plain-as i k o s r h = record {
  lasting = λ e. h.lasting (sym o ∙ e);
  above = λ id e. subst (λ (t : Stamp). t.0 < id.0) (sym s) (h.above id (sym r ∙ e));
}

plain-of : (c : ReplicaRecord) (i : ReplicaInfo) → c.info ≡ Some i → IfSome c.info IsPlain → IsPlain i
plain-of c i e h = subst (λ (o : Option ReplicaInfo). IfSome o IsPlain) e h

abbrev Next : ReplicaRecord → ReplicaRecord → Type 0
Next c d = Goes c.info d.info

by-there : (c : ReplicaRecord) (next : ReplicaInfo → Outcome) → IfSome c.info IsPlain → ((i : ReplicaInfo) → c.info ≡ Some i → Next c (record_after c (next i))) → Next c (record_after c (present c >>= next))
by-there c next h onward = after_step (Next c) c (present c) next (goes-same c.info h) (λ i e. onward i (present_is c i e).1)

by-writer : (c : ReplicaRecord) (i : ReplicaInfo) (writer : Option ConnId) (next : Result ReplicaInfo Refusal) (at : ReplicaState) (t : Stamp) (r : Rule) → c.info ≡ Some i → IfSome c.info IsPlain → (at ≡ state.Temporary → ⊥)
    → ((k : ReplicaInfo) → next ≡ Ok k → (n : ℕ) × (k ≡ settled_at at t r n) × (i.stamp.0 ≤ t.0)) → Next c (record_after c (with_writer c writer next))
by-writer c i writer next at t r e h lasts k =
    after_step (Next c) c next (λ j. done (set_writer c j writer)) (goes-same c.info h) (λ j q.
    let x = k j q in goes-to c.info i j e (subst (λ (z : ReplicaInfo). i.stamp.0 ≤ z.stamp.0) (sym x.1) x.2) (subst (λ (z : ReplicaInfo). IsPlain z) (sym x.1) (plain-settled at t r x.0 lasts)))

create-goes : (c : ReplicaRecord) (conn : ConnId) (t : Stamp) (r : Rule) → IfSome c.info IsPlain → Next c (record_after c (new_transition c state.Rbw conn t r))
create-goes c conn t r h =
    after_check (Next c) c (not c.is_broken) refusal.Broken _ (goes-same c.info h) (λ _.
    after_check (Next c) c (is_none c.info) refusal.Exists _ (goes-same c.info h) (λ none. from c.info none))
  where
    from : (o : Option ReplicaInfo) → is_none o ≡ true → Goes o (Some (settled_at state.Rbw t r 0))
    from None e = record { rises = tt; plain = plain-settled state.Rbw t r 0 rbw-lasts }
    from (Some i) e = absurd (false≢true e)

acknowledge-goes : (c : ReplicaRecord) (i : ReplicaInfo) (p : PendingPacket) (good : Bool) → c.info ≡ Some i → IfSome c.info IsPlain → Next c (acknowledge c i p good)
acknowledge-goes c i p false e h = goes-same c.info h
acknowledge-goes c i p true e h =
    let x = plain-of c i e h in
    choice (Next c) p.last _ _
    (λ _. goes-to c.info i (close_stream (advance_acked i p.end)) e (omega arith) (record { lasting = last i.original; above = λ id q. absurd (none-some id q) }))
    (λ _. goes-to c.info i (advance_acked i p.end) e (omega arith) (plain-as i (advance_acked i p.end) refl refl refl x))
  where
    last : (s : ReplicaState) → state_after_last s ≡ state.Temporary → ⊥
    last state.Temporary q = cc
    last state.Rbw q = cc
    last state.Finalized q = cc
    last state.Rwr q = cc
    last state.Rur q = cc

packet-goes : (c : ReplicaRecord) (conn : ConnId) (q : PacketExtent) → IfSome c.info IsPlain → Next c (record_after c (packet_transition c conn q))
unfolding extent_transition
packet-goes c conn q h =
    by-there c _ h (λ i is. after_check (Next c) c (is_writable (state_of i)) refusal.NotWriter _ stay (λ _.
    after_step (Next c) c (stream_by c.stream conn) _ stay (λ s _.
    choice (λ (o : Outcome). Next c (record_after c o)) (int_eq q.seqno (negsuc 0)) _ _
    (λ _. after_step (Next c) c (heartbeat_of q) _ stay (λ e _. stay))
    (λ _. after_step (Next c) c (stream_after s q) _ stay (λ t _. after_step (Next c) c (pending_of i.sums q i.written) _ stay (λ e _.
    goes-to c.info i (extend_written i e.end) is (omega arith) (plain-as i (extend_written i e.end) refl refl refl (plain-of c i is h))))))))
  where
    stay : Next c c
    stay = goes-same c.info h

-- an event that isn't the making of a TEMPORARY replica
abbrev pub IsLasting : Event → Type 0
IsLasting (event.Temporary conn t r) = ⊥
IsLasting _ = Unit {0}

pub event-goes : (c : ReplicaRecord) (e : Event) → IsLasting e → IfSome c.info IsPlain → Goes c.info (state_after c e).info
unfolding transition
event-goes c (event.Create conn t r) k h = create-goes c conn t r h
event-goes c (event.Temporary conn t r) k h = absurd k
event-goes c (event.Append conn named new n) k h =
    by-there c _ h (λ i is. by-writer c i (Some conn) (reopen i named new n) state.Rbw new i.sums is h rbw-lasts (λ j e. let s = reopen-stamp i j named new n e in (n, (reopen_is i j named new n e).0, omega (arith, s.0, s.1))))
event-goes c (event.AppendRecovery conn named new n) k h =
    by-there c _ h (λ i is. by-writer c i (Some conn) (recover_setup i named new n state.Rbw) state.Rbw new i.sums is h rbw-lasts (λ j e. (n, (recover_setup_is i j named new n state.Rbw e).0, (setup-stamp i j named new n state.Rbw e).1)))
event-goes c (event.StreamRecovery conn named new low high) k h =
    by-there c _ h (λ i is. by-writer c i (Some conn) (recover_stream i named new low high) state.Rbw new i.sums is h rbw-lasts (λ j e. (i.acked, recover_stream_is i j named new low high e, (stream-stamp i j named new low high e).1)))
event-goes c (event.CloseRecovery named new n) k h =
    by-there c _ h (λ i is. by-writer c i None (recover_setup i named new n state.Finalized) state.Finalized new i.sums is h final-lasts (λ j e. (n, (recover_setup_is i j named new n state.Finalized e).0, (setup-stamp i j named new n state.Finalized e).1)))
event-goes c (event.Packet conn seqno offset n sums last sync bad) k h = packet-goes c conn (record { seqno = seqno; offset = offset; length = n; sums = sums; last = last; sync = sync; bad = bad }) h
event-goes c (event.Ack conn seqno good) k h =
    by-there c _ h (λ i is. after_step (Next c) c (stream_by c.stream conn) _ (goes-same c.info h) (λ s _.
    after_step (Next c) c (oldest_of (slice_get c.pending 0) seqno) _ (goes-same c.info h) (λ p _. acknowledge-goes c i p good is h)))
event-goes c (event.Ended conn) k h = choice (Next c) (is_written_by c.stream conn) _ _ (λ _. goes-same c.info h) (λ _. goes-same c.info h)
event-goes c (event.Init named id) k h =
    by-there c _ h (λ i is. after_step (Next c) c (begin_recovery i named id) _ (goes-same c.info h) (λ j e.
    let x = plain-of c i is h in
    let s = begin-stamp i j named id e in
    let z : Goes c.info (Some (record i { recovery = Some id })) =
    goes-to c.info i (record i { recovery = Some id }) is (omega arith) (record { lasting = x.lasting; above = λ t q. subst (λ (y : Stamp). i.stamp.0 < y.0) (same_Some id t q) s.1 }) in
    subst (λ (y : ReplicaInfo). Goes c.info (Some y)) (sym (begin_recovery_is i j named id e)) z))
event-goes c (event.Update id n) k h =
    by-there c _ h (λ i is. by-writer c i None (end_recovery i i.recovery id n) state.Finalized id i.sums is h final-lasts (λ j e.
    let x = (plain-of c i is h).above id (update-held i j i.recovery id n e) in (n, (end_recovery_is i j i.recovery id n e).0, omega (arith, x))))
event-goes c (event.Read named offset n) k h = by-there c _ h (λ i _. after_step (Next c) c (readable i (visible_of i) named offset n) _ (goes-same c.info h) (λ _ _. goes-same c.info h))
event-goes c (event.Give named offset n) k h = by-there c _ h (λ i _. after_step (Next c) c (given i named offset n) _ (goes-same c.info h) (λ _ _. goes-same c.info h))
event-goes c event.FileFault k h = goes-same c.info h

-- REPLICAS THAT ARE RBW

-- what is RBW was so before, under the same stamp
abbrev pub OpenFrom : Option ReplicaInfo → Option ReplicaInfo → Type 0
OpenFrom o None = Unit {0}
OpenFrom None (Some k) = k.original ≡ state.Rbw → ⊥
OpenFrom (Some i) (Some k) = k.original ≡ state.Rbw → (i.original ≡ state.Rbw) × (k.stamp ≡ i.stamp)

pub open-same : (o : Option ReplicaInfo) → OpenFrom o o
open-same None = tt
open-same (Some i) = λ e. (e, refl)

open-to : (o : Option ReplicaInfo) (i k : ReplicaInfo) → o ≡ Some i → (k.original ≡ state.Rbw → (i.original ≡ state.Rbw) × (k.stamp ≡ i.stamp)) → OpenFrom o (Some k)
open-to o i k e h = subst (λ (q : Option ReplicaInfo). OpenFrom q (Some k)) (sym e) h

abbrev Opens : ReplicaRecord → ReplicaRecord → Type 0
Opens c d = OpenFrom c.info d.info

open-there : (c : ReplicaRecord) (next : ReplicaInfo → Outcome) → ((i : ReplicaInfo) → c.info ≡ Some i → Opens c (record_after c (next i))) → Opens c (record_after c (present c >>= next))
open-there c next onward = after_step (Opens c) c (present c) next (open-same c.info) (λ i e. onward i (present_is c i e).1)

-- the good ack of a last packet leaves an RBW replica only of a TEMPORARY one
acked-open : (c : ReplicaRecord) (i : ReplicaInfo) (p : PendingPacket) (good : Bool) → c.info ≡ Some i → IfSome c.info IsPlain → Opens c (acknowledge c i p good)
acked-open c i p false e h = open-same c.info
acked-open c i p true e h =
    choice (Opens c) p.last _ _
    (λ _. open-to c.info i (close_stream (advance_acked i p.end)) e (λ q. absurd (last i.original (plain-of c i e h).lasting q)))
    (λ _. open-to c.info i (advance_acked i p.end) e (λ q. (q, refl)))
  where
    last : (s : ReplicaState) → (s ≡ state.Temporary → ⊥) → state_after_last s ≡ state.Rbw → ⊥
    last state.Temporary l q = l refl
    last state.Rbw l q = cc
    last state.Finalized l q = cc
    last state.Rwr l q = cc
    last state.Rur l q = cc

packet-open : (c : ReplicaRecord) (conn : ConnId) (q : PacketExtent) → Opens c (record_after c (packet_transition c conn q))
unfolding extent_transition
packet-open c conn q =
    open-there c _ (λ i is. after_check (Opens c) c (is_writable (state_of i)) refusal.NotWriter _ stay (λ _.
    after_step (Opens c) c (stream_by c.stream conn) _ stay (λ s _.
    choice (λ (o : Outcome). Opens c (record_after c o)) (int_eq q.seqno (negsuc 0)) _ _
    (λ _. after_step (Opens c) c (heartbeat_of q) _ stay (λ e _. stay))
    (λ _. after_step (Opens c) c (stream_after s q) _ stay (λ t _. after_step (Opens c) c (pending_of i.sums q i.written) _ stay (λ e _.
    open-to c.info i (extend_written i e.end) is (λ r. (r, refl))))))))
  where
    stay : Opens c c
    stay = open-same c.info

final-isnt-open : state.Finalized ≡ state.Rbw → ⊥
final-isnt-open e = cc

-- an event that sets nothing up
abbrev pub IsNoSetup : Event → Type 0
IsNoSetup (event.Create conn t r) = ⊥
IsNoSetup (event.Temporary conn t r) = ⊥
IsNoSetup (event.Append conn named new n) = ⊥
IsNoSetup (event.AppendRecovery conn named new n) = ⊥
IsNoSetup (event.StreamRecovery conn named new low high) = ⊥
IsNoSetup (event.CloseRecovery named new n) = ⊥
IsNoSetup _ = Unit {0}

pub event-open : (c : ReplicaRecord) (e : Event) → IsNoSetup e → IfSome c.info IsPlain → OpenFrom c.info (state_after c e).info
unfolding transition
event-open c (event.Create conn t r) k h = absurd k
event-open c (event.Temporary conn t r) k h = absurd k
event-open c (event.Append conn named new n) k h = absurd k
event-open c (event.AppendRecovery conn named new n) k h = absurd k
event-open c (event.StreamRecovery conn named new low high) k h = absurd k
event-open c (event.CloseRecovery named new n) k h = absurd k
event-open c (event.Packet conn seqno offset n sums last sync bad) k h = packet-open c conn (record { seqno = seqno; offset = offset; length = n; sums = sums; last = last; sync = sync; bad = bad })
event-open c (event.Ack conn seqno good) k h =
    open-there c _ (λ i is. after_step (Opens c) c (stream_by c.stream conn) _ (open-same c.info) (λ s _.
    after_step (Opens c) c (oldest_of (slice_get c.pending 0) seqno) _ (open-same c.info) (λ p _. acked-open c i p good is h)))
event-open c (event.Ended conn) k h = choice (Opens c) (is_written_by c.stream conn) _ _ (λ _. open-same c.info) (λ _. open-same c.info)
event-open c (event.Init named id) k h =
    open-there c _ (λ i is. after_step (Opens c) c (begin_recovery i named id) _ (open-same c.info) (λ j e.
    subst (λ (y : ReplicaInfo). OpenFrom c.info (Some y)) (sym (begin_recovery_is i j named id e)) (open-to c.info i (record i { recovery = Some id }) is (λ q. (q, refl)))))
event-open c (event.Update id n) k h =
    open-there c _ (λ i is. after_step (Opens c) c (end_recovery i i.recovery id n) _ (open-same c.info) (λ j e.
    subst (λ (y : ReplicaInfo). OpenFrom c.info (Some y)) (sym (end_recovery_is i j i.recovery id n e).0) (open-to c.info i (settled_at state.Finalized id i.sums n) is (λ q. absurd (final-isnt-open q)))))
event-open c (event.Read named offset n) k h = open-there c _ (λ i _. after_step (Opens c) c (readable i (visible_of i) named offset n) _ (open-same c.info) (λ _ _. open-same c.info))
event-open c (event.Give named offset n) k h = open-there c _ (λ i _. after_step (Opens c) c (given i named offset n) _ (open-same c.info) (λ _ _. open-same c.info))
event-open c event.FileFault k h = open-same c.info

-- BROKEN REPLICAS

abbrev Broken : ReplicaRecord → Type 0
Broken d = d.is_broken ≡ true

two-ways : (b : Bool) → b ≡ true → b ≡ false → ⊥
two-ways b t f = false≢true (sym f ∙ t)

broken-there : (c : ReplicaRecord) (next : ReplicaInfo → Outcome) → Broken c → Broken (record_after c (present c >>= next))
broken-there c next h = after_step Broken c (present c) next h (λ i e. absurd (two-ways c.is_broken h (present_is c i e).0))

not-broken : (b : Bool) → b ≡ true → not b ≡ true → ⊥
not-broken true h e = false≢true e
not-broken false h e = false≢true h

broken-new : (c : ReplicaRecord) (at : ReplicaState) (conn : ConnId) (t : Stamp) (r : Rule) → Broken c → Broken (record_after c (new_transition c at conn t r))
broken-new c at conn t r h = after_check Broken c (not c.is_broken) refusal.Broken _ h (λ e. absurd (not-broken c.is_broken h e))

-- it stays broken
pub event-broken : (c : ReplicaRecord) (e : Event) → c.is_broken ≡ true → (state_after c e).is_broken ≡ true
unfolding transition
event-broken c (event.Create conn t r) h = broken-new c state.Rbw conn t r h
event-broken c (event.Temporary conn t r) h = broken-new c state.Temporary conn t r h
event-broken c (event.Append conn named new n) h = broken-there c _ h
event-broken c (event.AppendRecovery conn named new n) h = broken-there c _ h
event-broken c (event.StreamRecovery conn named new low high) h = broken-there c _ h
event-broken c (event.CloseRecovery named new n) h = broken-there c _ h
event-broken c (event.Packet conn seqno offset n sums last sync bad) h = broken-there c _ h
event-broken c (event.Ack conn seqno good) h = broken-there c _ h
event-broken c (event.Ended conn) h = choice Broken (is_written_by c.stream conn) _ _ (λ _. h) (λ _. h)
event-broken c (event.Init named id) h = broken-there c _ h
event-broken c (event.Update id n) h = broken-there c _ h
event-broken c (event.Read named offset n) h = broken-there c _ h
event-broken c (event.Give named offset n) h = broken-there c _ h
event-broken c event.FileFault h = refl

-- a setup that is answered Done was taken by a replica that isn't broken, which is then there
pub record IsTaken (c d : ReplicaRecord) : Type 0 where
  pub whole : c.is_broken ≡ false
  pub info : ReplicaInfo
  pub is : d.info ≡ Some info

-- an outcome: refused, or taken so
abbrev pub TakenOr : ReplicaRecord → Outcome → Type 0
TakenOr c (Ok t) = IsTaken c t.replica × (t.answer ≡ answer.Done)
TakenOr c (Err e) = Unit {0}

taken-there : (c : ReplicaRecord) (next : ReplicaInfo → Outcome) → ((i : ReplicaInfo) → c.is_broken ≡ false → TakenOr c (next i)) → TakenOr c (present c >>= next)
taken-there c next onward = go (present c) refl
  where
    go : (r : Result ReplicaInfo Refusal) → present c ≡ r → TakenOr c (r >>= next)
    go (Ok i) e = onward i (present_is c i e).0
    go (Err x) e = tt

taken-writer : (c : ReplicaRecord) (writer : Option ConnId) (r : Result ReplicaInfo Refusal) → c.is_broken ≡ false → TakenOr c (with_writer c writer r)
taken-writer c writer (Ok k) h = (record { whole = h; info = k; is = refl }, refl)
taken-writer c writer (Err e) h = tt

abbrev pub IsSetup : Event → Type 0
IsSetup (event.Create conn t r) = Unit {0}
IsSetup (event.Append conn named new n) = Unit {0}
IsSetup (event.AppendRecovery conn named new n) = Unit {0}
IsSetup (event.StreamRecovery conn named new low high) = Unit {0}
IsSetup (event.CloseRecovery named new n) = Unit {0}
IsSetup _ = ⊥

new-taken : (c : ReplicaRecord) (conn : ConnId) (t : Stamp) (r : Rule) → TakenOr c (new_transition c state.Rbw conn t r)
new-taken c conn t r = first c.is_broken refl
  where
    second : (b : Bool) → c.is_broken ≡ false → TakenOr c (if b then done (set_writer c (settled_at state.Rbw t r 0) (Some conn)) else Err refusal.Exists)
    second true h = (record { whole = h; info = settled_at state.Rbw t r 0; is = refl }, refl)
    second false h = tt

    first : (b : Bool) → c.is_broken ≡ b → TakenOr c (if not b then (if is_none c.info then done (set_writer c (settled_at state.Rbw t r 0) (Some conn)) else Err refusal.Exists) else Err refusal.Broken)
    first true h = tt
    first false h = second (is_none c.info) h

pub event-taken : (c : ReplicaRecord) (e : Event) → IsSetup e → TakenOr c (transition c e)
unfolding transition
event-taken c (event.Create conn t r) k = new-taken c conn t r
event-taken c (event.Append conn named new n) k = taken-there c _ (λ i h. taken-writer c (Some conn) (reopen i named new n) h)
event-taken c (event.AppendRecovery conn named new n) k = taken-there c _ (λ i h. taken-writer c (Some conn) (recover_setup i named new n state.Rbw) h)
event-taken c (event.StreamRecovery conn named new low high) k = taken-there c _ (λ i h. taken-writer c (Some conn) (recover_stream i named new low high) h)
event-taken c (event.CloseRecovery named new n) k = taken-there c _ (λ i h. taken-writer c None (recover_setup i named new n state.Finalized) h)
event-taken c (event.Temporary conn t r) k = absurd k
event-taken c (event.Packet conn seqno offset n sums last sync bad) k = absurd k
event-taken c (event.Ack conn seqno good) k = absurd k
event-taken c (event.Ended conn) k = absurd k
event-taken c (event.Init named id) k = absurd k
event-taken c (event.Update id n) k = absurd k
event-taken c (event.Read named offset n) k = absurd k
event-taken c (event.Give named offset n) k = absurd k
event-taken c event.FileFault k = absurd k

pub lasting-of : (e : Event) → IsNoSetup e → IsLasting e
lasting-of (event.Create conn t r) k = tt
lasting-of (event.Temporary conn t r) k = absurd k
lasting-of (event.Append conn named new n) k = tt
lasting-of (event.AppendRecovery conn named new n) k = tt
lasting-of (event.StreamRecovery conn named new low high) k = tt
lasting-of (event.CloseRecovery named new n) k = tt
lasting-of (event.Packet conn seqno offset n sums last sync bad) k = tt
lasting-of (event.Ack conn seqno good) k = tt
lasting-of (event.Ended conn) k = tt
lasting-of (event.Init named id) k = tt
lasting-of (event.Update id n) k = tt
lasting-of (event.Read named offset n) k = tt
lasting-of (event.Give named offset n) k = tt
lasting-of event.FileFault k = tt

pub lasting-setup : (e : Event) → IsSetup e → IsLasting e
lasting-setup (event.Create conn t r) k = tt
lasting-setup (event.Temporary conn t r) k = absurd k
lasting-setup (event.Append conn named new n) k = tt
lasting-setup (event.AppendRecovery conn named new n) k = tt
lasting-setup (event.StreamRecovery conn named new low high) k = tt
lasting-setup (event.CloseRecovery named new n) k = tt
lasting-setup (event.Packet conn seqno offset n sums last sync bad) k = tt
lasting-setup (event.Ack conn seqno good) k = tt
lasting-setup (event.Ended conn) k = tt
lasting-setup (event.Init named id) k = tt
lasting-setup (event.Update id n) k = tt
lasting-setup (event.Read named offset n) k = tt
lasting-setup (event.Give named offset n) k = tt
lasting-setup event.FileFault k = tt
