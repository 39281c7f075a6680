-- What events leave of FINALIZED replicas, and of those where the last packet is pending.
use Rattle.std.proofs.Common.{◌≡◌, ℕ, ℤ, zero, suc, ◌+◌, ◌⊎◌, inl, inr, Bool, true, false, List, [], ◌∷◌, ◌++◌, drop, max, nat_abs, slice_get, Option, Some, None, IfSome, Result, Ok, refl, sym, ◌∙◌, ap, subst, arith}
use Rattle.std.specs.List.{AllByRecursion}
use Rattle.std.specs.Prelude.{not, is_none, negsuc}
use Rattle.std.specs.Ordering.{int_eq}
use Rattle.std.proofs.lemmas.Bool.{false≢true}
use Rattle.std.proofs.lemmas.Bool.Decides.{nat_tests}
use Rattle.std.proofs.lemmas.Option.{none-some, same_Some}
use Rattle.hd_base.specs.Results.{◌>>=◌}
use Rattle.hd_base.specs.SumRules.{Rule}
use Rattle.hd_base.specs.declared.numbers.ConnId.{ConnId}
use Rattle.hd_base.specs.declared.numbers.Stamp.{Stamp}
use Rattle.hd_base.specs.declared.states.ReplicaState.{ReplicaState}
use Rattle.hd_base.specs.declared.states.ReplicaState.TheVariants as state
use Rattle.replica_core.specs.declared.ack_queue.PendingPacket.{PendingPacket}
use Rattle.replica_core.specs.declared.events.Event.{Event}
use Rattle.replica_core.specs.declared.events.Event.TheVariants as event
use Rattle.replica_core.specs.declared.extents.PacketExtent.{PacketExtent}
use Rattle.replica_core.specs.declared.info.ReplicaInfo.{ReplicaInfo}
use Rattle.replica_core.specs.declared.records.ReplicaRecord.{ReplicaRecord}
use Rattle.replica_core.specs.declared.refusals.Refusal.{Refusal}
use Rattle.replica_core.specs.declared.refusals.Refusal.TheVariants as refusal
use Rattle.replica_core.specs.declared.streams.Stream.{Stream}
use Rattle.replica_core.specs.Extents.{stream_after, heartbeat_of, start_of, place_check, packet_at, pending_of}
use Rattle.replica_core.specs.Info.{settled_at, reopen, recover_setup, recover_stream, begin_recovery, end_recovery, is_writable, state_of, state_under, extend_written, advance_acked, close_stream, readable, given, visible_of}
use Rattle.replica_core.specs.Sound.{Sound, IsNotLast, IsStream}
use Rattle.replica_core.specs.Transitions.{Outcome, done, record_after, state_after, transition, present, with_writer, set_writer, new_transition, packet_transition, extent_transition, enqueue, extend, acknowledge, oldest_of, stream_by, is_written_by}
use Rattle.replica_core.proofs.InfoLemmas.{present_is, reopen_is, recover_setup_is, recover_stream_is, begin_recovery_is, end_recovery_is, heartbeat_is, stream_after_is, pending_of_is}
use Rattle.replica_core.proofs.StepLemmas.{after_check, after_step, choice, step_ok}
use Rattle.world.specs.Worlds.{World}
use Rattle.world_laws.specs.Stamping.{Givens}
use Rattle.world_laws.proofs.ByteRows.{update-held}
use Rattle.world_recoveries.specs.Recovering.{Updates}
use Rattle.world_recoveries.proofs.Histories.{split-get}
use Rattle.world_finals.specs.Finishing.{Ids, EndsAt, FinalLength, of_recovery, of_session, IsFinalOf, LastPending, KeepsFinal}

-- what is known of a replica's record
pub record Ended (f : Ids) (g : Givens) (w : World) (b : ℕ) (c : ReplicaRecord) : Type 0 where
  pub final : IfSome c.info (IsFinalOf f g w b)
  pub last : IfSome c.info (LastPending g w b c.pending)

-- what an event leaves
pub record Leaves (f : Ids) (g : Givens) (w : World) (b : ℕ) (c d : ReplicaRecord) : Type 0 where
  pub ended : Ended f g w b d
  pub keeps : KeepsFinal c.info d.info

-- what an event needs: the last packet ends where all does; the recovery of a close has all bytes; an UPDATE was sent, and shortens nothing
-- that was FINALIZED
abbrev pub EventEnds : Ids → Givens → World → ℕ → ReplicaRecord → Event → Type 0
EventEnds f g w b c (event.Packet conn seqno offset n sums last sync bad) =
    last ≡ true → (i : ReplicaInfo) (s : Stream) → c.info ≡ Some i → stream_by c.stream conn ≡ Ok s → EndsAt g w b i.stamp.0 (nat_abs offset + n)
EventEnds f g w b c (event.CloseRecovery named new n) = (f new.0 ≡ false) × EndsAt g w b new.0 n
EventEnds f g w b c (event.Update id n) =
    (f id.0 ≡ true) × ((x : ℕ) × (y : ℕ) × Updates w.past x y id n) × ((i : ReplicaInfo) → c.info ≡ Some i → i.recovery ≡ Some id → i.original ≡ state.Finalized → n ≡ i.written)
EventEnds f g w b c _ = Unit {0}

-- a replica that a connection writes is under no recovery's id
abbrev pub NoIdWrites : Ids → ReplicaRecord → Type 0
NoIdWrites f c = (i : ReplicaInfo) (s : Stream) → c.info ≡ Some i → c.stream ≡ Some s → f i.stamp.0 ≡ false

pub record Before (f : Ids) (g : Givens) (w : World) (b : ℕ) (c : ReplicaRecord) : Type 0 where
  pub ended : Ended f g w b c
  pub sound : Sound c
  pub no_id : NoIdWrites f c

keeps-same : (o : Option ReplicaInfo) → KeepsFinal o o
keeps-same o = record { same = λ i k e q _ _. ap (λ (x : ReplicaInfo). x.written) (same_Some k i (sym q ∙ e)) }

pub leaves-same : (f : Ids) (g : Givens) (w : World) (b : ℕ) (c : ReplicaRecord) → Ended f g w b c → Leaves f g w b c c
leaves-same f g w b c h = record { ended = h; keeps = keeps-same c.info }

-- what is pending of nothing
none-last : (g : Givens) (w : World) (b : ℕ) (i : ReplicaInfo) → LastPending g w b [] i
none-last g w b i = record { ends = λ j e q _. absurd (none-some e q) }

keeps-to : (o : Option ReplicaInfo) (i k : ReplicaInfo) → o ≡ Some i → (i.original ≡ state.Finalized → k.original ≡ state.Finalized → k.written ≡ i.written) → KeepsFinal o (Some k)
keeps-to o i k e h = record {
  same = λ j x p q a d.
      let s = same_Some i j (sym e ∙ p) in
      let t = same_Some k x q in
      sym (ap (λ (y : ReplicaInfo). y.written) t) ∙ h (ap (λ (y : ReplicaInfo). y.original) s ∙ a) (ap (λ (y : ReplicaInfo). y.original) t ∙ d) ∙ ap (λ (y : ReplicaInfo). y.written) s;
}

keeps-open : (o : Option ReplicaInfo) (k : ReplicaInfo) → (k.original ≡ state.Finalized → ⊥) → KeepsFinal o (Some k)
keeps-open o k h = record { same = λ j x p q a d. absurd (h (ap (λ (y : ReplicaInfo). y.original) (same_Some k x q) ∙ d)) }

-- a replica that isn't FINALIZED, of which nothing is pending
opens : (f : Ids) (g : Givens) (w : World) (b : ℕ) (c : ReplicaRecord) (k : ReplicaInfo) (writer : Option ConnId) → (k.original ≡ state.Finalized → ⊥) → Leaves f g w b c (set_writer c k writer)
opens f g w b c k writer h = record { ended = record { final = λ e. absurd (h e); last = none-last g w b k }; keeps = keeps-open c.info k h }

-- a replica that nobody writes
settles : (f : Ids) (g : Givens) (w : World) (b : ℕ) (c : ReplicaRecord) (i k : ReplicaInfo) (writer : Option ConnId) → c.info ≡ Some i → IsFinalOf f g w b k → (i.original ≡ state.Finalized → k.original ≡ state.Finalized → k.written ≡ i.written)
    → Leaves f g w b c (set_writer c k writer)
settles f g w b c i k writer e h same = record { ended = record { final = h; last = none-last g w b k }; keeps = keeps-to c.info i k e same }

final-of : (f : Ids) (g : Givens) (w : World) (b : ℕ) (c : ReplicaRecord) (i : ReplicaInfo) → c.info ≡ Some i → Ended f g w b c → IsFinalOf f g w b i
final-of f g w b c i e h = subst (λ (o : Option ReplicaInfo). IfSome o (IsFinalOf f g w b)) e h.final

last-of : (f : Ids) (g : Givens) (w : World) (b : ℕ) (c : ReplicaRecord) (i : ReplicaInfo) → c.info ≡ Some i → Ended f g w b c → LastPending g w b c.pending i
last-of f g w b c i e h = subst (λ (o : Option ReplicaInfo). IfSome o (LastPending g w b c.pending)) e h.last

by-there : (f : Ids) (g : Givens) (w : World) (b : ℕ) (c : ReplicaRecord) (next : ReplicaInfo → Outcome) → Ended f g w b c → ((i : ReplicaInfo) → c.info ≡ Some i → Leaves f g w b c (record_after c (next i))) → Leaves f g w b c (record_after c (present c >>= next))
by-there f g w b c next h onward = after_step (Leaves f g w b c) c (present c) next (leaves-same f g w b c h) (λ i e. onward i (present_is c i e).1)

by-open : (f : Ids) (g : Givens) (w : World) (b : ℕ) (c : ReplicaRecord) (writer : Option ConnId) (next : Result ReplicaInfo Refusal) → Ended f g w b c → ((k : ReplicaInfo) → next ≡ Ok k → k.original ≡ state.Finalized → ⊥)
    → Leaves f g w b c (record_after c (with_writer c writer next))
by-open f g w b c writer next h k = after_step (Leaves f g w b c) c next (λ j. done (set_writer c j writer)) (leaves-same f g w b c h) (λ j q. opens f g w b c j writer (k j q))

rbw-isnt-final : state.Rbw ≡ state.Finalized → ⊥
rbw-isnt-final e = cc

settled-open : (k : ReplicaInfo) (t : Stamp) (r : Rule) (n : ℕ) → k ≡ settled_at state.Rbw t r n → k.original ≡ state.Finalized → ⊥
settled-open k t r n e q = rbw-isnt-final (sym (ap (λ (x : ReplicaInfo). x.original) e) ∙ q)

new-leaves : (f : Ids) (g : Givens) (w : World) (b : ℕ) (c : ReplicaRecord) (at : ReplicaState) (conn : ConnId) (t : Stamp) (r : Rule) → Ended f g w b c → (at ≡ state.Finalized → ⊥) → Leaves f g w b c (record_after c (new_transition c at conn t r))
new-leaves f g w b c at conn t r h n =
    after_check (Leaves f g w b c) c (not c.is_broken) refusal.Broken _ (leaves-same f g w b c h) (λ _.
    after_check (Leaves f g w b c) c (is_none c.info) refusal.Exists _ (leaves-same f g w b c h) (λ _. opens f g w b c (settled_at at t r 0) (Some conn) n))

-- PACKETS

all-at : (P : PendingPacket → Type 0) (xs : List PendingPacket) (j : ℕ) (x : PendingPacket) → AllByRecursion P xs → slice_get xs j ≡ Some x → P x
all-at P [] j x h e = absurd (none-some x e)
all-at P (y ∷ ys) zero x h e = subst P (same_Some y x e) h.0
all-at P (y ∷ ys) (suc j) x h e = all-at P ys j x h.1 e

-- one more that is pending
push-last : (g : Givens) (w : World) (b : ℕ) (xs : List PendingPacket) (e : PendingPacket) (i : ReplicaInfo) → LastPending g w b xs i → (e.last ≡ true → EndsAt g w b i.stamp.0 i.written) → LastPending g w b (xs ++ e ∷ []) i
push-last g w b xs e i h n = record { ends = λ j x q l. go j x l (split-get xs (e ∷ []) j x q) }
  where
    one : (m : ℕ) (x : PendingPacket) → slice_get (e ∷ []) m ≡ Some x → x.last ≡ true → EndsAt g w b i.stamp.0 i.written
    one zero x q l = n (ap (λ (y : PendingPacket). y.last) (same_Some e x q) ∙ l)
    one (suc m) x q l = absurd (none-some x q)

    go : (j : ℕ) (x : PendingPacket) → x.last ≡ true → ((m : ℕ) × (slice_get xs m ≡ Some x)) ⊎ ((m : ℕ) × (slice_get (e ∷ []) m ≡ Some x)) → EndsAt g w b i.stamp.0 i.written
    go j x l (inl q) = h.ends q.0 x q.1 l
    go j x l (inr q) = one q.0 x q.1 l

start-is : (p : PacketExtent) (offset : ℕ) → start_of p ≡ Ok offset → offset ≡ nat_abs p.offset
unfolding start_of
start-is p offset e = grind (arith, nat_tests)

place-is : (p : PacketExtent) (written offset : ℕ) → place_check p written offset ≡ Ok tt → p.last ≡ true → offset + p.length ≡ written
unfolding place_check
place-is p written offset e l = grind (arith, nat_tests)

-- where the last packet ends, all that is written does
pending-last : (r : Rule) (p : PacketExtent) (written : ℕ) (e : PendingPacket) → pending_of r p written ≡ Ok e → p.last ≡ true → nat_abs p.offset + p.length ≡ written
pending-last r p written e q l =
    let s = step_ok (start_of p) (λ offset. place_check p written offset >>= (λ _. packet_at r p offset)) e q in
    let t = step_ok (place_check p written s.0) (λ _. packet_at r p s.0) e s.2 in
    omega (arith, start-is p s.0 s.1, place-is p written s.0 t.1 l)

-- a state in which a connection writes isn't FINALIZED
written-open : (o : Option Stamp) (s : ReplicaState) → is_writable (state_under o s) ≡ true → s ≡ state.Finalized → ⊥
written-open (Some id) s e q = absurd (false≢true e)
written-open None s e q = false≢true (subst (λ (x : ReplicaState). is_writable x ≡ true) q e)

stream-is : (o : Option Stream) (conn : ConnId) (s : Stream) → stream_by o conn ≡ Ok s → o ≡ Some s
stream-is None conn s e = absurd (cc)
stream-is (Some t) conn s e = grind (arith, nat_tests, e)

extend-leaves : (f : Ids) (g : Givens) (w : World) (b : ℕ) (c : ReplicaRecord) (i : ReplicaInfo) (s t : Stream) (q : PacketExtent) (e : PendingPacket) → Before f g w b c → c.info ≡ Some i → c.stream ≡ Some s → s.is_over ≡ false → is_writable (state_of i) ≡ true
    → pending_of i.sums q i.written ≡ Ok e → (q.last ≡ true → EndsAt g w b i.stamp.0 (nat_abs q.offset + q.length)) → Leaves f g w b c (extend c i t e)
extend-leaves f g w b c i s t q e h is st over writes p n = record {
  ended = record { final = λ z. absurd (not_final z); last = push-last g w b c.pending e (extend_written i e.end) none at };
  keeps = keeps-open c.info (extend_written i e.end) not_final;
}
  where
    not_final : i.original ≡ state.Finalized → ⊥
    not_final z = written-open i.recovery i.original writes z

    stream : IsStream c.pending s
    stream = subst (λ (o : Option Stream). IfSome o (IsStream c.pending)) st h.sound.stream

    none : LastPending g w b c.pending (extend_written i e.end)
    none = record { ends = λ j x z l. absurd (false≢true (sym (all-at IsNotLast c.pending j x (stream.open_yet over) z).not_last ∙ l)) }

    at : e.last ≡ true → EndsAt g w b i.stamp.0 (max i.written e.end)
    at l =
        let a = pending_of_is i.sums q i.written e p in
        let m : q.last ≡ true = sym a.same ∙ l in
        let whole = pending-last i.sums q i.written e p m in
        let z = n m in
        record { session = z.session; given = z.given; shut = z.shut; length = omega (arith, z.length, whole, a.last l) }

packet-leaves : (f : Ids) (g : Givens) (w : World) (b : ℕ) (c : ReplicaRecord) (conn : ConnId) (q : PacketExtent) → Before f g w b c
    → (q.last ≡ true → (i : ReplicaInfo) (s : Stream) → c.info ≡ Some i → stream_by c.stream conn ≡ Ok s → EndsAt g w b i.stamp.0 (nat_abs q.offset + q.length)) → Leaves f g w b c (record_after c (packet_transition c conn q))
unfolding extent_transition
packet-leaves f g w b c conn q h n =
    by-there f g w b c _ h.ended (λ i is. after_check (Leaves f g w b c) c (is_writable (state_of i)) refusal.NotWriter _ stay (λ writes.
    after_step (Leaves f g w b c) c (stream_by c.stream conn) _ stay (λ s st.
    choice (λ (o : Outcome). Leaves f g w b c (record_after c o)) (int_eq q.seqno (negsuc 0)) _ _
    (λ _. after_step (Leaves f g w b c) c (heartbeat_of q) _ stay (λ e r. beat i is e (heartbeat_is q e r).1))
    (λ _. after_step (Leaves f g w b c) c (stream_after s q) _ stay (λ t r. after_step (Leaves f g w b c) c (pending_of i.sums q i.written) _ stay (λ e p.
    extend-leaves f g w b c i s t q e h is (stream-is c.stream conn s st) (stream_after_is s t q r).0 writes p (λ l. n l i s is st)))))))
  where
    stay : Leaves f g w b c c
    stay = leaves-same f g w b c h.ended

    beat : (i : ReplicaInfo) → c.info ≡ Some i → (e : PendingPacket) → e.last ≡ false → Leaves f g w b c (enqueue c e)
    beat i is e l = record {
      ended = record {
        final = h.ended.final;
        last = subst (λ (o : Option ReplicaInfo). IfSome o (LastPending g w b (c.pending ++ e ∷ []))) (sym is) (push-last g w b c.pending e i (last-of f g w b c i is h.ended) (λ z. absurd (false≢true (sym l ∙ z))));
      };
      keeps = keeps-same c.info;
    }

-- ACKS

drop-last : (g : Givens) (w : World) (b : ℕ) (xs : List PendingPacket) (i k : ReplicaInfo) → k.stamp ≡ i.stamp → k.written ≡ i.written → LastPending g w b xs i → LastPending g w b (drop 1 xs) k
drop-last g w b [] i k s n h = record { ends = λ j e q l. absurd (none-some e q) }
drop-last g w b (x ∷ xs) i k s n h = record {
  ends = λ j e q l. subst (λ (t : Stamp). EndsAt g w b t.0 k.written) (sym s) (subst (λ (m : ℕ). EndsAt g w b i.stamp.0 m) (sym n) (h.ends (suc j) e q l));
}

oldest-is : (o : Option PendingPacket) (seqno : ℤ) (p : PendingPacket) → oldest_of o seqno ≡ Ok p → o ≡ Some p
oldest-is None seqno p e = absurd (cc)
oldest-is (Some x) seqno p e = grind (arith, nat_tests, e)

acknowledge-leaves : (f : Ids) (g : Givens) (w : World) (b : ℕ) (c : ReplicaRecord) (i : ReplicaInfo) (s : Stream) (p : PendingPacket) (good : Bool) → Before f g w b c → c.info ≡ Some i → c.stream ≡ Some s → slice_get c.pending 0 ≡ Some p
    → Leaves f g w b c (acknowledge c i p good)
acknowledge-leaves f g w b c i s p false h is st e = record {
  ended = record {
    final = h.ended.final;
    last = subst (λ (o : Option ReplicaInfo). IfSome o (LastPending g w b (drop 1 c.pending))) (sym is) (drop-last g w b c.pending i i refl refl (last-of f g w b c i is h.ended));
  };
  keeps = keeps-same c.info;
}
acknowledge-leaves f g w b c i s p true h is st e =
    choice (Leaves f g w b c) p.last _ _
    (λ l. settles f g w b c i (close_stream (advance_acked i p.end)) None is (λ _. of_session (h.no_id i s is st) ((last-of f g w b c i is h.ended).ends 0 p e l)) (λ _ _. refl))
    (λ _. record {
      ended = record { final = λ z. same (final-of f g w b c i is h.ended z); last = drop-last g w b c.pending i (advance_acked i p.end) refl refl (last-of f g w b c i is h.ended) };
      keeps = keeps-to c.info i (advance_acked i p.end) is (λ _ _. refl);
    })
  where
    same : FinalLength f g w b i.stamp.0 i.written → FinalLength f g w b i.stamp.0 i.written
    same x = x

-- ALL EVENTS

temporary-isnt-final : state.Temporary ≡ state.Finalized → ⊥
temporary-isnt-final e = cc

-- what becomes FINALIZED
finishes : (f : Ids) (g : Givens) (w : World) (b : ℕ) (c : ReplicaRecord) (i k : ReplicaInfo) (t : Stamp) (n : ℕ) → c.info ≡ Some i → k ≡ settled_at state.Finalized t i.sums n → FinalLength f g w b t.0 n → (i.original ≡ state.Finalized → n ≡ i.written) → Leaves f g w b c (set_writer c k None)
finishes f g w b c i k t n is e x same =
    subst (λ (y : ReplicaInfo). Leaves f g w b c (set_writer c y None)) (sym e) (settles f g w b c i (settled_at state.Finalized t i.sums n) None is (λ _. x) (λ a _. same a))

pub event-leaves : (f : Ids) (g : Givens) (w : World) (b : ℕ) (c : ReplicaRecord) (e : Event) → Before f g w b c → EventEnds f g w b c e → Leaves f g w b c (state_after c e)
unfolding transition
event-leaves f g w b c (event.Create conn t r) h n = new-leaves f g w b c state.Rbw conn t r h.ended rbw-isnt-final
event-leaves f g w b c (event.Temporary conn t r) h n = new-leaves f g w b c state.Temporary conn t r h.ended temporary-isnt-final
event-leaves f g w b c (event.Append conn named new n) h x =
    by-there f g w b c _ h.ended (λ i is. by-open f g w b c (Some conn) (reopen i named new n) h.ended (λ k e. settled-open k new i.sums n (reopen_is i k named new n e).0))
event-leaves f g w b c (event.AppendRecovery conn named new n) h x =
    by-there f g w b c _ h.ended (λ i is. by-open f g w b c (Some conn) (recover_setup i named new n state.Rbw) h.ended (λ k e. settled-open k new i.sums n (recover_setup_is i k named new n state.Rbw e).0))
event-leaves f g w b c (event.StreamRecovery conn named new low high) h x =
    by-there f g w b c _ h.ended (λ i is. by-open f g w b c (Some conn) (recover_stream i named new low high) h.ended (λ k e. settled-open k new i.sums i.acked (recover_stream_is i k named new low high e)))
event-leaves f g w b c (event.CloseRecovery named new n) h x =
    by-there f g w b c _ h.ended (λ i is. after_step (Leaves f g w b c) c (recover_setup i named new n state.Finalized) _ (leaves-same f g w b c h.ended) (λ k e.
    let s = recover_setup_is i k named new n state.Finalized e in
    finishes f g w b c i k new n is s.0 (of_session x.0 x.1) (λ _. s.1)))
event-leaves f g w b c (event.Packet conn seqno offset n sums last sync bad) h x = packet-leaves f g w b c conn (record { seqno = seqno; offset = offset; length = n; sums = sums; last = last; sync = sync; bad = bad }) h x
event-leaves f g w b c (event.Ack conn seqno good) h x =
    by-there f g w b c _ h.ended (λ i is. after_step (Leaves f g w b c) c (stream_by c.stream conn) _ (leaves-same f g w b c h.ended) (λ s st.
    after_step (Leaves f g w b c) c (oldest_of (slice_get c.pending 0) seqno) _ (leaves-same f g w b c h.ended) (λ p o.
    acknowledge-leaves f g w b c i s p good h is (stream-is c.stream conn s st) (oldest-is (slice_get c.pending 0) seqno p o))))
event-leaves f g w b c (event.Ended conn) h x =
    choice (Leaves f g w b c) (is_written_by c.stream conn) _ _
    (λ _. record { ended = record { final = h.ended.final; last = none c.info }; keeps = keeps-same c.info }) (λ _. leaves-same f g w b c h.ended)
  where
    none : (o : Option ReplicaInfo) → IfSome o (LastPending g w b [])
    none None = tt
    none (Some i) = none-last g w b i
event-leaves f g w b c (event.Init named id) h x =
    by-there f g w b c _ h.ended (λ i is. after_step (Leaves f g w b c) c (begin_recovery i named id) _ (leaves-same f g w b c h.ended) (λ k e.
    subst (λ (y : ReplicaInfo). Leaves f g w b c (set_writer c y None)) (sym (begin_recovery_is i k named id e))
    (settles f g w b c i (record i { recovery = Some id }) None is (λ z. final-of f g w b c i is h.ended z) (λ _ _. refl))))
event-leaves f g w b c (event.Update id n) h x =
    by-there f g w b c _ h.ended (λ i is. after_step (Leaves f g w b c) c (end_recovery i i.recovery id n) _ (leaves-same f g w b c h.ended) (λ k e.
    finishes f g w b c i k id n is (end_recovery_is i k i.recovery id n e).0 (of_recovery x.0 x.1.0 x.1.1 x.1.2) (λ a. x.2 i is (update-held i k i.recovery id n e) a)))
event-leaves f g w b c (event.Read named offset n) h x =
    by-there f g w b c _ h.ended (λ i _. after_step (Leaves f g w b c) c (readable i (visible_of i) named offset n) _ (leaves-same f g w b c h.ended) (λ _ _. leaves-same f g w b c h.ended))
event-leaves f g w b c (event.Give named offset n) h x =
    by-there f g w b c _ h.ended (λ i _. after_step (Leaves f g w b c) c (given i named offset n) _ (leaves-same f g w b c h.ended) (λ _ _. leaves-same f g w b c h.ended))
event-leaves f g w b c event.FileFault h x = record { ended = record { final = h.ended.final; last = none c.info }; keeps = keeps-same c.info }
  where
    none : (o : Option ReplicaInfo) → IfSome o (LastPending g w b [])
    none None = tt
    none (Some i) = none-last g w b i
