-- What each event makes of a replica's bytes: they stay a front of what was written in the session of its stamp.
use Rattle.std.proofs.Common.{◌≡◌, ℕ, ℤ, ◌<◌, ◌≤◌, ◌-◌, ◌⊎◌, inl, inr, Bool, true, false, List, [], ◌∷◌, ◌++◌, length, take, drop, nat_abs, max, Option, Some, None, IfSome, Result, Ok, refl, sym, ◌∙◌, ap, subst, arith, append-nil}
use Rattle.std.specs.Prelude.{not, is_none, slice_get, ◌/◌}
use Rattle.std.specs.Ordering.{int_eq}
use Rattle.std.specs.Prelude.{negsuc}
use Rattle.std.proofs.lemmas.Bool.Decides.{nat_tests}
use Rattle.std.proofs.lemmas.Option.{none-some, same_Some}
use Rattle.std.proofs.lemmas.List.{take_all, take-append-le}
use Rattle.hd_base.specs.Results.{◌>>=◌}
use Rattle.hd_base.specs.declared.numbers.ConnId.{ConnId}
use Rattle.hd_base.specs.declared.numbers.Stamp.{Stamp}
use Rattle.hd_base.specs.declared.states.ReplicaState.{ReplicaState}
use Rattle.hd_base.specs.declared.states.ReplicaState.TheVariants as state
use Rattle.hd_base.specs.SumRules.{Rule}
use Rattle.world.specs.OpHeaders.Values.{WriteFields}
use Rattle.world.specs.PacketCodec.Packet.{Packet}
use Rattle.world.specs.PacketStream.Carried.{IsPiece}
use Rattle.replica_core.specs.declared.ack_queue.PendingPacket.{PendingPacket}
use Rattle.replica_core.specs.declared.events.Event.TheVariants as event
use Rattle.replica_core.specs.declared.extents.PacketExtent.{PacketExtent}
use Rattle.replica_core.specs.declared.info.ReplicaInfo.{ReplicaInfo}
use Rattle.replica_core.specs.declared.records.ReplicaRecord.{ReplicaRecord}
use Rattle.replica_core.specs.declared.refusals.Refusal.{Refusal}
use Rattle.replica_core.specs.declared.refusals.Refusal.TheVariants as refusal
use Rattle.replica_core.specs.declared.streams.Stream.{Stream}
use Rattle.replica_core.specs.Extents.{stream_after, heartbeat_of, pending_of}
use Rattle.replica_core.specs.Info.{settled_at, reopen, recover_setup, recover_stream, begin_recovery, end_recovery, is_writable, state_of, state_under, extend_written, advance_acked, close_stream, readable, given, visible_of}
use Rattle.replica_core.specs.Transitions.{Outcome, done, record_after, state_after, transition, present, with_writer, set_writer, new_transition, append_transition, append_recovery_transition, stream_recovery_transition, close_recovery_transition, init_transition, update_transition, read_transition, give_transition, ack_transition, packet_transition, extent_transition, extend, acknowledge, oldest_of, stream_by, is_written_by, end_connection, mark_broken}
use Rattle.replica_core.specs.Views.{written_in, written_at, rule_in}
use Rattle.replica_core.specs.Sound.{Sound}
use Rattle.replica_core.proofs.InfoLemmas.{present_is, reopen_is, recover_setup_is, recover_stream_is, begin_recovery_is, end_recovery_is, stream_after_is, stream_by_is, pending_of_is}
use Rattle.replica_core.proofs.StepLemmas.{after_check, after_step, choice}
use Rattle.replica_core.proofs.SoundLemmas.{info_in}
use Rattle.world.specs.ReplicaModel.ReplicaEvent.{ReplicaEvent}
use Rattle.world.specs.ReplicaModel.ReplicaEvent.TheVariants as replica_event
use Rattle.world.specs.ReplicaModel.Rows.{FullReplica, IsFull, row, event_at, brought, broken, bad_under}
use Rattle.world.specs.ReplicaModel.Found.{IsFront}
use Rattle.world.specs.MemberCore.SetupKind.{SetupKind}
use Rattle.world.specs.MemberCore.SetupKind.TheVariants as kind
use Rattle.world.specs.OpHeaders.Op.TheVariants as op
use Rattle.world.specs.Parts.{request}
use Rattle.world.specs.Worlds.{Past}
use Rattle.world_laws.proofs.FactTables.{some-weaker}
use Rattle.world_laws.specs.Stamping.{Givens}
use Rattle.world_laws.specs.Carrying.{new_stamp, Sets, Shares, Passing, IsRecovery, Under, Holds, SetFor, ReplicaSays, Both, BreakSays}
use Rattle.world_laws.proofs.Fronts.{front-take, front-trans, front-is, front-joins}

-- WHAT IS LEFT

-- bytes before an event and after it, under the stamp that a replica then has
pub record Left (g : Givens) (h : Past) (b : ℕ) (v w : List ℕ) (i : ReplicaInfo) : Type 0 where
  pub before : Under g h b i.stamp v
  pub after : Holds g h b w i

-- A replica with this record and as many of these bytes as it has written.
pub record Leaves (g : Givens) (h : Past) (b : ℕ) (v more : List ℕ) (c : ReplicaRecord) : Type 0 where
  pub info : IfSome c.info (Left g h b v (take (written_in c) (v ++ more)))
  pub stream : IfSome c.stream (SetFor h c.info)

-- all of the bytes
kept-bytes : (v more : List ℕ) (n : ℕ) → n ≡ length v → take n (v ++ more) ≡ v
kept-bytes v more n e = ap (λ (k : ℕ). take k (v ++ more)) e ∙ take-append-le (length v) v more (omega arith) ∙ take_all (length v) v (omega arith)

stays : (g : Givens) (h : Past) (b : ℕ) (v w : List ℕ) (o : Option ReplicaInfo) → w ≡ v → IfSome o (Holds g h b v) → IfSome o (Left g h b v w)
stays g h b v w None e u = tt
stays g h b v w (Some i) e u = record { before = u.under; after = subst (λ (x : List ℕ). Holds g h b x i) (sym e) u }

-- a replica as before, and one whose stream has ended
pub leaves-same : (g : Givens) (h : Past) (b : ℕ) (v more : List ℕ) (c : ReplicaRecord) → length v ≡ written_in c → ReplicaSays g h b (record { known = c; bytes = v }) → Leaves g h b v more c
leaves-same g h b v more c n s = record { info = stays g h b v (take (written_in c) (v ++ more)) c.info (kept-bytes v more (written_in c) (sym n)) s.info; stream = s.stream }

-- SETUPS

pub reopen-stamp : (i k : ReplicaInfo) (named new : Stamp) (n : ℕ) → reopen i named new n ≡ Ok k → (i.stamp.0 ≡ named.0) × (named.0 < new.0)
unfolding reopen
reopen-stamp i k named new n e = (grind (arith, nat_tests), grind (arith, nat_tests))

pub setup-stamp : (i k : ReplicaInfo) (named new : Stamp) (n : ℕ) (into : ReplicaState) → recover_setup i named new n into ≡ Ok k → (named.0 ≤ i.stamp.0) × (i.stamp.0 ≤ new.0)
unfolding recover_setup
setup-stamp i k named new n into e = (grind (arith, nat_tests), grind (arith, nat_tests))

pub stream-stamp : (i k : ReplicaInfo) (named new : Stamp) (low high : ℕ) → recover_stream i named new low high ≡ Ok k → (named.0 ≤ i.stamp.0) × (i.stamp.0 ≤ new.0)
unfolding recover_stream
stream-stamp i k named new low high e = (grind (arith, nat_tests), grind (arith, nat_tests))

pub begin-stamp : (i k : ReplicaInfo) (named id : Stamp) → begin_recovery i named id ≡ Ok k → (named.0 ≤ i.stamp.0) × (i.stamp.0 < id.0)
unfolding begin_recovery
begin-stamp i k named id e = (grind (arith, nat_tests), grind (arith, nat_tests))

held-by : (i k : ReplicaInfo) (s id : Stamp) (n : ℕ) → end_recovery i (Some s) id n ≡ Ok k → s.0 ≡ id.0
unfolding end_recovery
held-by i k s id n e = grind (arith, nat_tests)

pub update-held : (i k : ReplicaInfo) (o : Option Stamp) (id : Stamp) (n : ℕ) → end_recovery i o id n ≡ Ok k → o ≡ Some id
unfolding end_recovery
update-held i k None id n e = absurd (cc)
update-held i k (Some s) id n e = ap (λ (m : ℕ). Some (record { 0 = m })) (held-by i k s id n e)

-- just so many bytes pass to a session that has the same
passes-whole : (h : Past) (s e n : ℕ) (v : List ℕ) → ((s ≡ e) ⊎ Shares h s e n) → n ≡ length v → IsFront v (h.written s) → IsFront v (h.written e)
passes-whole h s e n v (inl q) m f = subst (λ (x : ℕ). IsFront v (h.written x)) q f
passes-whole h s e n v (inr x) m f =
    subst (λ (w : List ℕ). IsFront w (h.written e)) (sym (front-is v (h.written s) f ∙ ap (λ (k : ℕ). take k (h.written s)) (sym m) ∙ x.same)) (front-take n (h.written e))

-- a replica under another stamp of its block, with its bytes or a front of them
left-set : (g : Givens) (h : Past) (b e : ℕ) (v more : List ℕ) (into : ReplicaState) (t : Stamp) (r : Rule) (n : ℕ) → g b t.0 ≡ Some e → IsFront v (h.written e) → n ≤ length v
    → Left g h b v (take n (v ++ more)) (settled_at into t r n)
left-set g h b e v more into t r n given f le = record {
  before = record { session = e; given = given; front = f };
  after = record {
    under = record {
      session = e;
      given = given;
      front = subst (λ (x : List ℕ). IsFront x (h.written e)) (sym (take-append-le n v more le)) (front-trans (take n v) v (h.written e) (front-take n v) f);
    };
    held = λ id q. absurd (none-some id q);
  };
}

set-leaves : (g : Givens) (h : Past) (b e : ℕ) (v more : List ℕ) (c : ReplicaRecord) (k : ReplicaInfo) (conn : ConnId) (into : ReplicaState) (t : Stamp) (r : Rule) (n : ℕ) → k ≡ settled_at into t r n
    → g b t.0 ≡ Some e → IsFront v (h.written e) → n ≤ length v → Sets h conn.0 t → Leaves g h b v more (set_writer c k (Some conn))
set-leaves g h b e v more c k conn into t r n q given f le s =
    subst (λ (i : ReplicaInfo). Leaves g h b v more (set_writer c i (Some conn))) (sym q) (record { info = left-set g h b e v more into t r n given f le; stream = s })

end-leaves : (g : Givens) (h : Past) (b e : ℕ) (v more : List ℕ) (c : ReplicaRecord) (k : ReplicaInfo) (into : ReplicaState) (t : Stamp) (r : Rule) (n : ℕ) → k ≡ settled_at into t r n
    → g b t.0 ≡ Some e → IsFront v (h.written e) → n ≤ length v → Leaves g h b v more (set_writer c k None)
end-leaves g h b e v more c k into t r n q given f le =
    subst (λ (i : ReplicaInfo). Leaves g h b v more (set_writer c i None)) (sym q) (record { info = left-set g h b e v more into t r n given f le; stream = tt })

-- what is there holds its bytes
there-holds : (g : Givens) (h : Past) (b : ℕ) (v : List ℕ) (c : ReplicaRecord) (i : ReplicaInfo) → c.info ≡ Some i → ReplicaSays g h b (record { known = c; bytes = v }) → Holds g h b v i
there-holds g h b v c i e s = subst (λ (o : Option ReplicaInfo). IfSome o (Holds g h b v)) e s.info

there-written : (c : ReplicaRecord) (i : ReplicaInfo) → c.info ≡ Some i → written_in c ≡ i.written
there-written c i e = ap written_at e

-- what a setup needs: the connection sets up this stamp, and what stands from the named stamp on may pass to its session
pub record SetUp (g : Givens) (h : Past) (b : ℕ) (o : Option SetupKind) (named new : Stamp) (n : ℕ) (conn : ConnId) : Type 0 where
  pub session : ℕ
  pub given : g b new.0 ≡ Some session
  pub sets : Sets h conn.0 new
  pub passes : (t e : ℕ) → g b t ≡ Some e → named.0 ≤ t → t ≤ new.0 → Passing o h e session n

-- the replica as events find it
pub record Finds (g : Givens) (h : Past) (b : ℕ) (v : List ℕ) (c : ReplicaRecord) : Type 0 where
  pub says : ReplicaSays g h b (record { known = c; bytes = v })
  pub size : length v ≡ written_in c
  pub sound : Sound c

same : (g : Givens) (h : Past) (b : ℕ) (v more : List ℕ) (c : ReplicaRecord) → Finds g h b v c → Leaves g h b v more c
same g h b v more c f = leaves-same g h b v more c f.size f.says

-- from what is there, by a step that gives another stamp
by-there : (g : Givens) (h : Past) (b : ℕ) (v more : List ℕ) (c : ReplicaRecord) (next : ReplicaInfo → Outcome) → Finds g h b v c
    → ((i : ReplicaInfo) → c.info ≡ Some i → Leaves g h b v more (record_after c (next i))) → Leaves g h b v more (record_after c (present c >>= next))
by-there g h b v more c next f onward = after_step (Leaves g h b v more) c (present c) next (same g h b v more c f) (λ i e. onward i (present_is c i e).1)

by-writer : (g : Givens) (h : Past) (b : ℕ) (v more : List ℕ) (c : ReplicaRecord) (writer : Option ConnId) (next : Result ReplicaInfo Refusal) → Finds g h b v c
    → ((k : ReplicaInfo) → next ≡ Ok k → Leaves g h b v more (set_writer c k writer)) → Leaves g h b v more (record_after c (with_writer c writer next))
by-writer g h b v more c writer next f onward = after_step (Leaves g h b v more) c next (λ k. done (set_writer c k writer)) (same g h b v more c f) onward

create-leaves : (g : Givens) (h : Past) (b n : ℕ) (v more : List ℕ) (c : ReplicaRecord) (conn : ConnId) (t : Stamp) (r : Rule) → Finds g h b v c → SetUp g h b (Some kind.Create) t t n conn
    → Leaves g h b v more (record_after c (new_transition c state.Rbw conn t r))
create-leaves g h b n v more c conn t r f u =
    after_check (Leaves g h b v more) c (not c.is_broken) refusal.Broken _ (same g h b v more c f) (λ _.
    after_check (Leaves g h b v more) c (is_none c.info) refusal.Exists _ (same g h b v more c f) (λ none.
    set-leaves g h b u.session v more c (settled_at state.Rbw t r 0) conn state.Rbw t r 0 refl u.given (empty c.info none refl) (omega arith) u.sets))
  where
    empty : (o : Option ReplicaInfo) → is_none o ≡ true → c.info ≡ o → IsFront v (h.written u.session)
    empty None e q = (h.written u.session, ap (λ (x : List ℕ). x ++ h.written u.session) (nil v (omega (arith, f.size, ap written_at q))))
      where
        nil : (x : List ℕ) → length x ≡ 0 → x ≡ []
        nil [] z = refl
        nil (y ∷ ys) z = absurd (omega (arith, z))
    empty (Some i) e q = absurd (cc)

append-leaves : (g : Givens) (h : Past) (b : ℕ) (v more : List ℕ) (c : ReplicaRecord) (conn : ConnId) (named new : Stamp) (n : ℕ) → Finds g h b v c → SetUp g h b (Some kind.Append) named new n conn
    → Leaves g h b v more (record_after c (append_transition c conn named new n))
append-leaves g h b v more c conn named new n f u =
    by-there g h b v more c _ f (λ i is. by-writer g h b v more c (Some conn) (reopen i named new n) f (λ k e.
    let x = there-holds g h b v c i is f.says in
    let at = reopen-stamp i k named new n e in
    let was = reopen_is i k named new n e in
    let n-is : n ≡ length v = omega (arith, was.1, f.size, there-written c i is) in
    let front = passes-whole h x.under.session u.session n v (u.passes i.stamp.0 x.under.session x.under.given (omega (arith, at.0)) (omega (arith, at.0, at.1))) n-is x.under.front in
    set-leaves g h b u.session v more c k conn state.Rbw new i.sums n was.0 u.given front (omega (arith, n-is)) u.sets))

again-leaves : (g : Givens) (h : Past) (b : ℕ) (v more : List ℕ) (c : ReplicaRecord) (conn : ConnId) (named new : Stamp) (n : ℕ) → Finds g h b v c → SetUp g h b (Some kind.AppendRecovery) named new n conn
    → Leaves g h b v more (record_after c (append_recovery_transition c conn named new n))
again-leaves g h b v more c conn named new n f u =
    by-there g h b v more c _ f (λ i is. by-writer g h b v more c (Some conn) (recover_setup i named new n state.Rbw) f (λ k e.
    let x = there-holds g h b v c i is f.says in
    let at = setup-stamp i k named new n state.Rbw e in
    let was = recover_setup_is i k named new n state.Rbw e in
    let n-is : n ≡ length v = omega (arith, was.1, f.size, there-written c i is) in
    let front = passes-whole h x.under.session u.session n v (u.passes i.stamp.0 x.under.session x.under.given at.0 at.1) n-is x.under.front in
    set-leaves g h b u.session v more c k conn state.Rbw new i.sums n was.0 u.given front (omega (arith, n-is)) u.sets))

close-leaves : (g : Givens) (h : Past) (b : ℕ) (v more : List ℕ) (c : ReplicaRecord) (conn : ConnId) (named new : Stamp) (n : ℕ) → Finds g h b v c → SetUp g h b (Some kind.CloseRecovery) named new n conn
    → Leaves g h b v more (record_after c (close_recovery_transition c named new n))
close-leaves g h b v more c conn named new n f u =
    by-there g h b v more c _ f (λ i is. by-writer g h b v more c None (recover_setup i named new n state.Finalized) f (λ k e.
    let x = there-holds g h b v c i is f.says in
    let at = setup-stamp i k named new n state.Finalized e in
    let was = recover_setup_is i k named new n state.Finalized e in
    let n-is : n ≡ length v = omega (arith, was.1, f.size, there-written c i is) in
    let front = passes-whole h x.under.session u.session n v (u.passes i.stamp.0 x.under.session x.under.given at.0 at.1) n-is x.under.front in
    end-leaves g h b u.session v more c k state.Finalized new i.sums n was.0 u.given front (omega (arith, n-is))))

-- the recovery of a stream stays in its session
within : (h : Past) (s e : ℕ) (v : List ℕ) → s ≡ e → IsFront v (h.written s) → IsFront v (h.written e)
within h s e v q f = subst (λ (x : ℕ). IsFront v (h.written x)) q f

recover-leaves : (g : Givens) (h : Past) (b : ℕ) (v more : List ℕ) (c : ReplicaRecord) (conn : ConnId) (named new : Stamp) (low high : ℕ) → Finds g h b v c
    → SetUp g h b (Some kind.StreamRecovery) named new low conn → Leaves g h b v more (record_after c (stream_recovery_transition c conn named new low high))
recover-leaves g h b v more c conn named new low high f u =
    by-there g h b v more c _ f (λ i is. by-writer g h b v more c (Some conn) (recover_stream i named new low high) f (λ k e.
    let x = there-holds g h b v c i is f.says in
    let at = stream-stamp i k named new low high e in
    set-leaves g h b u.session v more c k conn state.Rbw new i.sums i.acked (recover_stream_is i k named new low high e) u.given
    (within h x.under.session u.session v (u.passes i.stamp.0 x.under.session x.under.given at.0 at.1) x.under.front)
    (omega (arith, f.size, there-written c i is, (info_in c i is f.sound).acked)) u.sets))

-- RECOVERIES

init-leaves : (g : Givens) (h : Past) (b : ℕ) (v more : List ℕ) (c : ReplicaRecord) (named id : Stamp) → Finds g h b v c → IsRecovery g h b named id
    → Leaves g h b v more (record_after c (init_transition c named id))
init-leaves g h b v more c named id f u =
    by-there g h b v more c _ f (λ i is. after_step (Leaves g h b v more) c (begin_recovery i named id) _ (same g h b v more c f) (λ k e.
    let x = there-holds g h b v c i is f.says in
    let at = begin-stamp i k named id e in
    let front = front-trans v (h.written x.under.session) (h.written u.session) x.under.front (u.fronts i.stamp.0 x.under.session x.under.given at.0 at.1) in
    let z : Holds g h b v (record i { recovery = Some id }) =
    record { under = x.under; held = λ t q. subst (λ (s : Stamp). Under g h b s v) (same_Some id t q) (record { session = u.session; given = u.given; front = front }) } in
    let size : i.written ≡ length v = omega (arith, f.size, there-written c i is) in
    subst (λ (j : ReplicaInfo). Leaves g h b v more (set_writer c j None)) (sym (begin_recovery_is i k named id e))
    (record { info = stays g h b v (take i.written (v ++ more)) (Some (record i { recovery = Some id })) (kept-bytes v more i.written size) z; stream = tt })))

update-leaves : (g : Givens) (h : Past) (b : ℕ) (v more : List ℕ) (c : ReplicaRecord) (id : Stamp) (n : ℕ) → Finds g h b v c → Leaves g h b v more (record_after c (update_transition c id n))
update-leaves g h b v more c id n f =
    by-there g h b v more c _ f (λ i is. by-writer g h b v more c None (end_recovery i i.recovery id n) f (λ k e.
    let x = there-holds g h b v c i is f.says in
    let u = x.held id (update-held i k i.recovery id n e) in
    let was = end_recovery_is i k i.recovery id n e in
    end-leaves g h b u.session v more c k state.Finalized id i.sums n was.0 u.given u.front (omega (arith, was.1, f.size, there-written c i is))))

-- ACKS AND ENDS

-- the same bytes under the same stamp and the same recovery
left-as : (g : Givens) (h : Past) (b : ℕ) (v w : List ℕ) (i k : ReplicaInfo) → w ≡ v → k.stamp ≡ i.stamp → ((id : Stamp) → k.recovery ≡ Some id → i.recovery ≡ Some id) → Holds g h b v i → Left g h b v w k
left-as g h b v w i k e s r x =
    let under = subst (λ (t : Stamp). Under g h b t v) (sym s) x.under in
    record { before = under; after = record { under = subst (λ (y : List ℕ). Under g h b k.stamp y) (sym e) under; held = λ id q. subst (λ (y : List ℕ). Under g h b id y) (sym e) (x.held id (r id q)) } }

set-as : (h : Past) (o : Option Stream) (c : ReplicaRecord) (i k : ReplicaInfo) → c.info ≡ Some i → k.stamp ≡ i.stamp → IfSome o (SetFor h c.info) → IfSome o (SetFor h (Some k))
set-as h None c i k e s x = tt
set-as h (Some t) c i k e s x = subst (λ (u : Stamp). Sets h t.conn.0 u) (sym s) (subst (λ (q : Option ReplicaInfo). IfSome q (λ j. Sets h t.conn.0 j.stamp)) e x)

acknowledge-leaves : (g : Givens) (h : Past) (b : ℕ) (v more : List ℕ) (c : ReplicaRecord) (i : ReplicaInfo) (p : PendingPacket) (good : Bool) → Finds g h b v c → c.info ≡ Some i
    → Leaves g h b v more (acknowledge c i p good)
acknowledge-leaves g h b v more c i p false f is = record { info = (same g h b v more c f).info; stream = f.says.stream }
acknowledge-leaves g h b v more c i p true f is =
    let x = there-holds g h b v c i is f.says in
    let size : i.written ≡ length v = omega (arith, f.size, there-written c i is) in
    choice (Leaves g h b v more) p.last _ _
    (λ _. record { info = left-as g h b v (take i.written (v ++ more)) i (close_stream (advance_acked i p.end)) (kept-bytes v more i.written size) refl (λ id q. absurd (none-some id q)) x; stream = tt })
    (λ _. record {
      info = left-as g h b v (take i.written (v ++ more)) i (advance_acked i p.end) (kept-bytes v more i.written size) refl (λ id q. q) x;
      stream = set-as h c.stream c i (advance_acked i p.end) is refl f.says.stream;
    })

ack-leaves : (g : Givens) (h : Past) (b : ℕ) (v more : List ℕ) (c : ReplicaRecord) (conn : ConnId) (seqno : ℤ) (good : Bool) → Finds g h b v c
    → Leaves g h b v more (record_after c (ack_transition c conn seqno good))
ack-leaves g h b v more c conn seqno good f =
    by-there g h b v more c _ f (λ i is. after_step (Leaves g h b v more) c (stream_by c.stream conn) _ (same g h b v more c f) (λ s _.
    after_step (Leaves g h b v more) c (oldest_of (slice_get c.pending 0) seqno) _ (same g h b v more c f) (λ p _. acknowledge-leaves g h b v more c i p good f is)))

ended-leaves : (g : Givens) (h : Past) (b : ℕ) (v more : List ℕ) (c : ReplicaRecord) (conn : ConnId) → Finds g h b v c → Leaves g h b v more (end_connection c conn)
ended-leaves g h b v more c conn f =
    choice (Leaves g h b v more) (is_written_by c.stream conn) _ _ (λ _. record { info = (same g h b v more c f).info; stream = tt }) (λ _. same g h b v more c f)

pub broken-leaves : (g : Givens) (h : Past) (b : ℕ) (v more : List ℕ) (c : ReplicaRecord) → Finds g h b v c → Leaves g h b v more (mark_broken c)
broken-leaves g h b v more c f = record { info = (same g h b v more c f).info; stream = tt }

-- READS

read-leaves : (g : Givens) (h : Past) (b : ℕ) (v more : List ℕ) (c : ReplicaRecord) (named : Stamp) (offset n : ℕ) → Finds g h b v c → Leaves g h b v more (record_after c (read_transition c named offset n))
read-leaves g h b v more c named offset n f =
    by-there g h b v more c _ f (λ i _. after_step (Leaves g h b v more) c (readable i (visible_of i) named offset n) _ (same g h b v more c f) (λ _ _. same g h b v more c f))

give-leaves : (g : Givens) (h : Past) (b : ℕ) (v more : List ℕ) (c : ReplicaRecord) (named : Stamp) (offset n : ℕ) → Finds g h b v c → Leaves g h b v more (record_after c (give_transition c named offset n))
give-leaves g h b v more c named offset n f =
    by-there g h b v more c _ f (λ i _. after_step (Leaves g h b v more) c (given i named offset n) _ (same g h b v more c f) (λ _ _. same g h b v more c f))

-- PACKETS

-- A packet of a connection that sets up the replica's stamp is a piece of what was written in that stamp's session.
pub record Brings (g : Givens) (h : Past) (b : ℕ) (conn : ConnId) (p : Packet) : Type 0 where
  pub stamp : Stamp
  pub sets : Sets h conn.0 stamp
  pub piece : (s : ℕ) → g b stamp.0 ≡ Some s → IsPiece (h.written s) p

pub sets-once : (h : Past) (c : ℕ) (s t : Stamp) → Sets h c s → Sets h c t → s ≡ t
sets-once h c s t x y = sym x.is ∙ ap (λ (f : WriteFields). new_stamp f) (same-fields x.fields y.fields (same_Some _ _ (sym x.first ∙ y.first))) ∙ y.is
  where
    same-fields : (a d : WriteFields) → request (op.Write a) ≡ request (op.Write d) → a ≡ d
    same-fields a d e = cc

-- the packet, as the record takes it
abbrev extent_of : Packet → ℕ → Option ℕ → PacketExtent
extent_of p sums bad = record { seqno = p.seqno; offset = p.offset; length = length p.body; sums = sums; last = p.last; sync = p.sync; bad = bad }

-- the bytes that a packet brings behind those of a replica
abbrev behind : List ℕ → Packet → List ℕ
behind v p = drop (length v - nat_abs p.offset) p.body

extend-leaves : (g : Givens) (h : Past) (b : ℕ) (v : List ℕ) (c : ReplicaRecord) (i : ReplicaInfo) (s t : Stream) (conn : ConnId) (p : Packet) (sums : ℕ) (bad : Option ℕ) (e : PendingPacket) → Finds g h b v c
    → c.info ≡ Some i → c.stream ≡ Some s → s.conn.0 ≡ conn.0 → t.conn ≡ s.conn → pending_of i.sums (extent_of p sums bad) i.written ≡ Ok e → Brings g h b conn p
    → is_writable (state_of i) ≡ true → Leaves g h b v (behind v p) (extend c i t e)
extend-leaves g h b v c i s t conn p sums bad e f is writes by same-conn pending x open_yet =
    record {
      info = record {
        before = y.under;
        after = record {
          under = record { session = y.under.session; given = y.under.given; front = front-trans (take (max i.written e.end) (v ++ behind v p)) (v ++ behind v p) (h.written y.under.session) (front-take (max i.written e.end) (v ++ behind v p)) joined };
          held = λ id q. absurd (not-held i id open_yet q);
        };
      };
      stream = subst (λ (d : ConnId). Sets h d.0 i.stamp) (sym same-conn) own;
    }
  where
    y : Holds g h b v i
    y = there-holds g h b v c i is f.says

    own : Sets h s.conn.0 i.stamp
    own = subst (λ (o : Option ReplicaInfo). IfSome o (λ j. Sets h s.conn.0 j.stamp)) is (subst (λ (o : Option Stream). IfSome o (SetFor h c.info)) writes f.says.stream)

    stamp-is : x.stamp ≡ i.stamp
    stamp-is = sets-once h conn.0 x.stamp i.stamp x.sets (subst (λ (n : ℕ). Sets h n i.stamp) by own)

    piece : IsPiece (h.written y.under.session) p
    piece = x.piece y.under.session (subst (λ (u : Stamp). g b u.0 ≡ Some y.under.session) (sym stamp-is) y.under.given)

    near : nat_abs p.offset ≤ length v
    near = let a = (pending_of_is i.sums (extent_of p sums bad) i.written e pending).adjoins in omega (arith, a.near, ap nat_abs a.is, f.size, there-written c i is)

    joined : IsFront (v ++ behind v p) (h.written y.under.session)
    joined = front-joins v (h.written y.under.session) p.body (nat_abs p.offset) y.under.front piece.bytes near

    not-held : (j : ReplicaInfo) (id : Stamp) → is_writable (state_of j) ≡ true → j.recovery ≡ Some id → ⊥
    not-held j id w q = go (subst (λ (o : Option Stamp). is_writable (state_under o j.original) ≡ true) q w)
      where
        go : is_writable (state_under (Some id) j.original) ≡ true → ⊥
        go z = cc

extent-leaves : (g : Givens) (h : Past) (b : ℕ) (v : List ℕ) (c : ReplicaRecord) (i : ReplicaInfo) (s : Stream) (conn : ConnId) (p : Packet) (sums : ℕ) (bad : Option ℕ) → Finds g h b v c
    → c.info ≡ Some i → c.stream ≡ Some s → s.conn.0 ≡ conn.0 → Brings g h b conn p → is_writable (state_of i) ≡ true
    → Leaves g h b v (behind v p) (record_after c (extent_transition c i s (extent_of p sums bad)))
unfolding extent_transition
extent-leaves g h b v c i s conn p sums bad f is writes by x open_yet =
    choice (λ (o : Outcome). Leaves g h b v (behind v p) (record_after c o)) (int_eq p.seqno (negsuc 0)) _ _
    (λ _. after_step (Leaves g h b v (behind v p)) c (heartbeat_of (extent_of p sums bad)) _ (same g h b v (behind v p) c f)
    (λ e _. record { info = (same g h b v (behind v p) c f).info; stream = f.says.stream }))
    (λ _. after_step (Leaves g h b v (behind v p)) c (stream_after s (extent_of p sums bad)) _ (same g h b v (behind v p) c f) (λ t q.
    after_step (Leaves g h b v (behind v p)) c (pending_of i.sums (extent_of p sums bad) i.written) _ (same g h b v (behind v p) c f) (λ e r.
    extend-leaves g h b v c i s t conn p sums bad e f is writes by (stream_after_is s t (extent_of p sums bad) q).1 r x open_yet)))

packet-leaves : (g : Givens) (h : Past) (b : ℕ) (v : List ℕ) (c : ReplicaRecord) (conn : ConnId) (p : Packet) (sums : ℕ) (bad : Option ℕ) → Finds g h b v c → Brings g h b conn p
    → Leaves g h b v (behind v p) (record_after c (packet_transition c conn (extent_of p sums bad)))
packet-leaves g h b v c conn p sums bad f x =
    by-there g h b v (behind v p) c _ f (λ i is. after_check (Leaves g h b v (behind v p)) c (is_writable (state_of i)) refusal.NotWriter _ (same g h b v (behind v p) c f) (λ w.
    after_step (Leaves g h b v (behind v p)) c (stream_by c.stream conn) _ (same g h b v (behind v p) c f) (λ s e.
    let at = stream_by_is c.stream conn s e in
    extent-leaves g h b v c i s conn p sums bad f is at.0 at.1 x w)))

-- ALL EVENTS

-- what an event needs of its message
abbrev pub Allows : Givens → Past → ℕ → ReplicaEvent → Type 0
Allows g h b (replica_event.Packet conn p) = Brings g h b conn p
Allows g h b (replica_event.Other (event.Create conn t r)) = (n : ℕ) × SetUp g h b (Some kind.Create) t t n conn
Allows g h b (replica_event.Other (event.Temporary conn t r)) = ⊥
Allows g h b (replica_event.Other (event.Append conn named new n)) = SetUp g h b (Some kind.Append) named new n conn
Allows g h b (replica_event.Other (event.AppendRecovery conn named new n)) = SetUp g h b (Some kind.AppendRecovery) named new n conn
Allows g h b (replica_event.Other (event.StreamRecovery conn named new low high)) = SetUp g h b (Some kind.StreamRecovery) named new low conn
Allows g h b (replica_event.Other (event.CloseRecovery named new n)) = (conn : ConnId) × SetUp g h b (Some kind.CloseRecovery) named new n conn
Allows g h b (replica_event.Other (event.Packet conn seqno offset n sums last sync bad)) = ⊥
Allows g h b (replica_event.Other (event.Init named id)) = IsRecovery g h b named id
Allows g h b (replica_event.Other _) = Unit {0}

row-leaves : (g : Givens) (h : Past) (b : ℕ) (v : List ℕ) (c : ReplicaRecord) (e : ReplicaEvent) → Finds g h b v c → Allows g h b e
    → Leaves g h b v (brought (length v) e) (state_after c (event_at (record { known = c; bytes = v }) e))
unfolding transition
row-leaves g h b v c (replica_event.Packet conn p) f x = packet-leaves g h b v c conn p (length p.sums / 4) (bad_under (rule_in c) p) f x
row-leaves g h b v c (replica_event.Other (event.Create conn t r)) f x = create-leaves g h b x.0 v [] c conn t r f x.1
row-leaves g h b v c (replica_event.Other (event.Temporary conn t r)) f x = absurd x
row-leaves g h b v c (replica_event.Other (event.Append conn named new n)) f x = append-leaves g h b v [] c conn named new n f x
row-leaves g h b v c (replica_event.Other (event.AppendRecovery conn named new n)) f x = again-leaves g h b v [] c conn named new n f x
row-leaves g h b v c (replica_event.Other (event.StreamRecovery conn named new low high)) f x = recover-leaves g h b v [] c conn named new low high f x
row-leaves g h b v c (replica_event.Other (event.CloseRecovery named new n)) f x = close-leaves g h b v [] c x.0 named new n f x.1
row-leaves g h b v c (replica_event.Other (event.Packet conn seqno offset n sums last sync bad)) f x = absurd x
row-leaves g h b v c (replica_event.Other (event.Ack conn seqno good)) f x = ack-leaves g h b v [] c conn seqno good f
row-leaves g h b v c (replica_event.Other (event.Ended conn)) f x = ended-leaves g h b v [] c conn f
row-leaves g h b v c (replica_event.Other (event.Init named id)) f x = init-leaves g h b v [] c named id f x
row-leaves g h b v c (replica_event.Other (event.Update id n)) f x = update-leaves g h b v [] c id n f
row-leaves g h b v c (replica_event.Other (event.Read named offset n)) f x = read-leaves g h b v [] c named offset n f
row-leaves g h b v c (replica_event.Other (event.Give named offset n)) f x = give-leaves g h b v [] c named offset n f
row-leaves g h b v c (replica_event.Other event.FileFault) f x = broken-leaves g h b v [] c f

-- THE REPLICA

-- a replica that says so, with just the bytes that it has written
pub record Ready (g : Givens) (h : Past) (b : ℕ) (r : FullReplica) : Type 0 where
  pub says : ReplicaSays g h b r
  pub full : IsFull r

ready-finds : (g : Givens) (h : Past) (b : ℕ) (r : FullReplica) → Ready g h b r → Finds g h b r.bytes r.known
ready-finds g h b r x = record { says = x.says; size = x.full.all; sound = x.full.sound }

leaves-says : (g : Givens) (h : Past) (b : ℕ) (v more : List ℕ) (c : ReplicaRecord) → Leaves g h b v more c → ReplicaSays g h b (record { known = c; bytes = take (written_in c) (v ++ more) })
leaves-says g h b v more c x = record { info = some-weaker (Left g h b v (take (written_in c) (v ++ more))) (Holds g h b (take (written_in c) (v ++ more))) c.info (λ i l. l.after) x.info; stream = x.stream }

pub row-says : (g : Givens) (h : Past) (b : ℕ) (r : FullReplica) (e : ReplicaEvent) → Ready g h b r → Allows g h b e → ReplicaSays g h b (row r e)
row-says g h b r e x a = leaves-says g h b r.bytes (brought (length r.bytes) e) (state_after r.known (event_at r e)) (row-leaves g h b r.bytes r.known e (ready-finds g h b r x) a)

pub broken-says : (g : Givens) (h : Past) (b : ℕ) (r : FullReplica) → Ready g h b r → ReplicaSays g h b (broken r)
broken-says g h b r x = row-says g h b r (replica_event.Other event.FileFault) x tt

-- BREAKS

-- the same stamp, where there is a replica
abbrev SameStamp : Option ReplicaInfo → Option ReplicaInfo → Type 0
SameStamp None None = Unit {0}
SameStamp (Some i) (Some k) = k.stamp ≡ i.stamp
SameStamp _ _ = ⊥

same-stamp : (o : Option ReplicaInfo) → SameStamp o o
same-stamp None = tt
same-stamp (Some i) = refl

packet-stamp : (c : ReplicaRecord) (conn : ConnId) (q : PacketExtent) → SameStamp c.info (record_after c (packet_transition c conn q)).info
unfolding extent_transition
packet-stamp c conn q =
    after_step P c (present c) _ stay (λ i is. after_check P c (is_writable (state_of i)) refusal.NotWriter _ stay (λ _.
    after_step P c (stream_by c.stream conn) _ stay (λ s _.
    choice (λ (o : Outcome). P (record_after c o)) (int_eq q.seqno (negsuc 0)) _ _
    (λ _. after_step P c (heartbeat_of q) _ stay (λ e _. stay))
    (λ _. after_step P c (stream_after s q) _ stay (λ t _. after_step P c (pending_of i.sums q i.written) _ stay (λ e _.
    subst (λ (o : Option ReplicaInfo). SameStamp o (Some (extend_written i e.end))) (sym (present_is c i is).1) refl))))))
  where
    P : ReplicaRecord → Type 0
    P d = SameStamp c.info d.info

    stay : P c
    stay = same-stamp c.info

both-old : (g : Givens) (h : Past) (b : ℕ) (v w : List ℕ) (o p : Option ReplicaInfo) → SameStamp o p → IfSome p (Both g h b v w) → IfSome o (Both g h b v w)
both-old g h b v w None None s x = tt
both-old g h b v w (Some i) (Some k) s x =
    record { before = subst (λ (t : Stamp). Under g h b t v) s x.before; after = subst (λ (t : Stamp). Under g h b t w) s x.after }
both-old g h b v w None (Some k) s x = absurd s
both-old g h b v w (Some i) None s x = absurd s

-- bytes of which a front is left
both-front : (g : Givens) (h : Past) (b : ℕ) (v w : List ℕ) (o : Option ReplicaInfo) → IsFront w v → IfSome o (Holds g h b v) → IfSome o (Both g h b v w)
both-front g h b v w None f x = tt
both-front g h b v w (Some i) f x =
    record { before = x.under; after = record { session = x.under.session; given = x.under.given; front = front-trans w v (h.written x.under.session) f x.under.front } }

none-brought : (v : List ℕ) (n : ℕ) → IsFront (take n (v ++ [])) v
none-brought v n = subst (λ (x : List ℕ). IsFront (take n x) v) (sym (append-nil v)) (front-take n v)

new-says : (g : Givens) (h : Past) (b : ℕ) (r : FullReplica) (e : ReplicaEvent) → Ready g h b r → Allows g h b e → IfSome (row r e).known.info (Both g h b r.bytes (row r e).bytes)
new-says g h b r e x a =
    some-weaker (Left g h b r.bytes (row r e).bytes) (Both g h b r.bytes (row r e).bytes) (row r e).known.info (λ i l. record { before = l.before; after = l.after.under })
    (row-leaves g h b r.bytes r.known e (ready-finds g h b r x) a).info

pub break-says : (g : Givens) (h : Past) (b : ℕ) (r : FullReplica) (e : ReplicaEvent) → Ready g h b r → Allows g h b e → BreakSays g h b (record { before = r; event = e })
unfolding transition
break-says g h b r (replica_event.Packet conn p) x a =
    let new = new-says g h b r (replica_event.Packet conn p) x a in
    record { old = both-old g h b r.bytes (row r (replica_event.Packet conn p)).bytes r.known.info (row r (replica_event.Packet conn p)).known.info (packet-stamp r.known conn _) new; new = new }
break-says g h b r (replica_event.Other e) x a = record {
  old = both-front g h b r.bytes (row r (replica_event.Other e)).bytes r.known.info (none-brought r.bytes (written_in (state_after r.known e))) x.says.info;
  new = new-says g h b r (replica_event.Other e) x a;
}
