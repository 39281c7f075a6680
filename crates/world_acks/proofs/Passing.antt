-- What a change leaves of how replicas got past stamps.
use Rattle.std.proofs.Common.{◌≡◌, ℕ, zero, suc, ◌<◌, ◌≤◌, ◌⊎◌, inl, inr, Bool, true, false, List, [], ◌∷◌, ◌++◌, slice_get, Option, Some, None, Result, Ok, refl, sym, ◌∙◌, ap, subst, arith, eqb-true}
use Rattle.std.specs.Prelude.{◌==◌, ◌&&◌, if◌then◌else◌, not, is_none, negsuc}
use Rattle.std.specs.Ordering.{int_eq}
use Rattle.std.proofs.lemmas.Bool.{false≢true, cases_lt}
use Rattle.std.proofs.lemmas.Option.{none-some, same_Some}
use Rattle.hd_base.specs.Results.{◌>>=◌}
use Rattle.hd_base.specs.SumRules.{Rule}
use Rattle.hd_base.specs.declared.numbers.ConnId.{ConnId}
use Rattle.hd_base.specs.declared.numbers.Stamp.{Stamp}
use Rattle.hd_base.specs.declared.states.ReplicaState.TheVariants as state
use Rattle.op_headers.specs.declared.ops.Op.TheVariants as op
use Rattle.op_headers.specs.declared.ops.RecoveryOp.{RecoveryOp}
use Rattle.op_headers.specs.Values.{WriteFields}
use Rattle.member_core.specs.declared.requests.SetupKind.{SetupKind}
use Rattle.member_core.specs.declared.requests.SetupKind.TheVariants as kind
use Rattle.member_core.specs.Requests.{setup_event}
use Rattle.replica_core.specs.declared.ack_queue.PendingPacket.{PendingPacket}
use Rattle.replica_core.specs.declared.events.Event.{Event}
use Rattle.replica_core.specs.declared.events.Event.TheVariants as event
use Rattle.replica_core.specs.declared.extents.PacketExtent.{PacketExtent}
use Rattle.replica_core.specs.declared.info.ReplicaInfo.{ReplicaInfo}
use Rattle.replica_core.specs.declared.records.ReplicaRecord.{ReplicaRecord}
use Rattle.replica_core.specs.declared.refusals.Refusal.{Refusal}
use Rattle.replica_core.specs.declared.refusals.Refusal.TheVariants as refusal
use Rattle.replica_core.specs.Extents.{stream_after, heartbeat_of, pending_of}
use Rattle.replica_core.specs.Info.{settled_at, reopen, recover_setup, recover_stream, begin_recovery, is_writable, state_of, extend_written, advance_acked, close_stream, readable, given, visible_of}
use Rattle.replica_core.specs.Transitions.{Outcome, done, record_after, state_after, transition, present, with_writer, set_writer, new_transition, packet_transition, extent_transition, acknowledge, oldest_of, stream_by, is_written_by}
use Rattle.replica_core.proofs.InfoLemmas.{present_is, reopen_is, recover_setup_is, recover_stream_is, begin_recovery_is}
use Rattle.replica_core.proofs.StepLemmas.{after_check, after_step, choice}
use Rattle.replica_model.specs.declared.events.ReplicaEvent.{ReplicaEvent}
use Rattle.replica_model.specs.Rows.{FullReplica, row, event_at}
use Rattle.world_recoveries.specs.World.Parts.{request, Place, Dialled, Updated}
use Rattle.world_recoveries.specs.World.Worlds.{Past, World, Change, past_after, apply}
use Rattle.world_recoveries.specs.World.Nodes.{block_of}
use Rattle.world_recoveries.specs.World.Safe.{Has}
use Rattle.world_recoveries.specs.WorldLaws.Stamping.{Givens}
use Rattle.world_recoveries.specs.WorldLaws.Carrying.{new_stamp, stamp_set}
use Rattle.member_core.specs.Requests.{setup_with}
use Rattle.world_recoveries.proofs.WorldLaws.ByteRows.{reopen-stamp, setup-stamp, stream-stamp}
use Rattle.world_recoveries.proofs.WorldLaws.FactTables.{and-left, and-right}
use Rattle.world_recoveries.proofs.WorldLaws.GrowthLaws.{apply-grows}
use Rattle.world_recoveries.proofs.WorldLaws.SetupRising.{IsNoSetup}
use Rattle.world_recoveries.specs.Recovering.{ReplicaTold, top_under, top_of, Informs, StillTrue, UpdateFits, WasSent, Recovering}
use Rattle.world_recoveries.specs.Telling.{TellsNow, TellsFrom}
use Rattle.world_recoveries.proofs.Histories.{begins-get}
use Rattle.world_recoveries.proofs.Telling.{told-below}
use Rattle.world_acks.specs.Passing.{GotPast, by_setup, by_update, by_recovery, Passes, PassesTo, PassesSince}
use Rattle.world_acks.proofs.Shows.{IsNoUpdate}

-- EVENTS

-- a replica is there, under this stamp
pub record HasStamp (o : Option ReplicaInfo) (s : Stamp) : Type 0 where
  pub info : ReplicaInfo
  pub is : o ≡ Some info
  pub stamp : info.stamp ≡ s

-- a replica that was there keeps its stamp
abbrev pub Keeps : Option ReplicaInfo → Option ReplicaInfo → Type 0
Keeps o p = (i : ReplicaInfo) → o ≡ Some i → HasStamp p i.stamp

keeps-same : (o : Option ReplicaInfo) → Keeps o o
keeps-same o = λ i e. record { info = i; is = e; stamp = refl }

keeps-to : (o : Option ReplicaInfo) (i k : ReplicaInfo) → o ≡ Some i → k.stamp ≡ i.stamp → Keeps o (Some k)
keeps-to o i k e s = λ j q. record { info = k; is = refl; stamp = s ∙ ap (λ (x : ReplicaInfo). x.stamp) (same_Some i j (sym e ∙ q)) }

abbrev On : ReplicaRecord → ReplicaRecord → Type 0
On c d = Keeps c.info d.info

by-there : (c : ReplicaRecord) (next : ReplicaInfo → Outcome) → ((i : ReplicaInfo) → c.info ≡ Some i → On c (record_after c (next i))) → On c (record_after c (present c >>= next))
by-there c next onward = after_step (On c) c (present c) next (keeps-same c.info) (λ i e. onward i (present_is c i e).1)

acked-keeps : (c : ReplicaRecord) (i : ReplicaInfo) (p : PendingPacket) (good : Bool) → c.info ≡ Some i → On c (acknowledge c i p good)
acked-keeps c i p false e = keeps-same c.info
acked-keeps c i p true e =
    choice (On c) p.last _ _ (λ _. keeps-to c.info i (close_stream (advance_acked i p.end)) e refl) (λ _. keeps-to c.info i (advance_acked i p.end) e refl)

packet-keeps : (c : ReplicaRecord) (conn : ConnId) (q : PacketExtent) → On c (record_after c (packet_transition c conn q))
unfolding extent_transition
packet-keeps c conn q =
    by-there c _ (λ i is. after_check (On c) c (is_writable (state_of i)) refusal.NotWriter _ stay (λ _.
    after_step (On c) c (stream_by c.stream conn) _ stay (λ s _.
    choice (λ (o : Outcome). On c (record_after c o)) (int_eq q.seqno (negsuc 0)) _ _
    (λ _. after_step (On c) c (heartbeat_of q) _ stay (λ e _. stay))
    (λ _. after_step (On c) c (stream_after s q) _ stay (λ t _. after_step (On c) c (pending_of i.sums q i.written) _ stay (λ e _.
    keeps-to c.info i (extend_written i e.end) is refl))))))
  where
    stay : On c c
    stay = keeps-same c.info

pub event-keeps : (c : ReplicaRecord) (e : Event) → IsNoUpdate e → IsNoSetup e → On c (state_after c e)
unfolding transition
event-keeps c (event.Create conn t r) u k = absurd k
event-keeps c (event.Temporary conn t r) u k = absurd k
event-keeps c (event.Append conn named new n) u k = absurd k
event-keeps c (event.AppendRecovery conn named new n) u k = absurd k
event-keeps c (event.StreamRecovery conn named new low high) u k = absurd k
event-keeps c (event.CloseRecovery named new n) u k = absurd k
event-keeps c (event.Packet conn seqno offset n sums last sync bad) u k = packet-keeps c conn (record { seqno = seqno; offset = offset; length = n; sums = sums; last = last; sync = sync; bad = bad })
event-keeps c (event.Ack conn seqno good) u k =
    by-there c _ (λ i is. after_step (On c) c (stream_by c.stream conn) _ (keeps-same c.info) (λ s _.
    after_step (On c) c (oldest_of (slice_get c.pending 0) seqno) _ (keeps-same c.info) (λ p _. acked-keeps c i p good is)))
event-keeps c (event.Ended conn) u k = choice (On c) (is_written_by c.stream conn) _ _ (λ _. keeps-same c.info) (λ _. keeps-same c.info)
event-keeps c (event.Init named id) u k =
    by-there c _ (λ i is. after_step (On c) c (begin_recovery i named id) _ (keeps-same c.info) (λ j e.
    subst (λ (y : ReplicaInfo). Keeps c.info (Some y)) (sym (begin_recovery_is i j named id e)) (keeps-to c.info i (record i { recovery = Some id }) is refl)))
event-keeps c (event.Update id n) u k = absurd u
event-keeps c (event.Read named offset n) u k = by-there c _ (λ i _. after_step (On c) c (readable i (visible_of i) named offset n) _ (keeps-same c.info) (λ _ _. keeps-same c.info))
event-keeps c (event.Give named offset n) u k = by-there c _ (λ i _. after_step (On c) c (given i named offset n) _ (keeps-same c.info) (λ _ _. keeps-same c.info))
event-keeps c event.FileFault u k = keeps-same c.info

-- SETUPS

-- the stamp stays, or it is the setup's, which names none that is later than it was
abbrev Sets : Stamp → Stamp → Option ReplicaInfo → Option ReplicaInfo → Type 0
Sets named new o p = (i : ReplicaInfo) → o ≡ Some i → HasStamp p i.stamp ⊎ (HasStamp p new × (named.0 ≤ i.stamp.0))

sets-same : (named new : Stamp) (o : Option ReplicaInfo) → Sets named new o o
sets-same named new o = λ i e. inl (keeps-same o i e)

sets-there : (named new : Stamp) (c : ReplicaRecord) (next : ReplicaInfo → Outcome) → ((i : ReplicaInfo) → c.info ≡ Some i → Sets named new c.info (record_after c (next i)).info) → Sets named new c.info (record_after c (present c >>= next)).info
sets-there named new c next onward = after_step (λ (x : ReplicaRecord). Sets named new c.info x.info) c (present c) next (sets-same named new c.info) (λ i e. onward i (present_is c i e).1)

sets-writer : (named new : Stamp) (c : ReplicaRecord) (i : ReplicaInfo) (writer : Option ConnId) (next : Result ReplicaInfo Refusal) → c.info ≡ Some i
    → ((k : ReplicaInfo) → next ≡ Ok k → (k.stamp ≡ new) × (named.0 ≤ i.stamp.0)) → Sets named new c.info (record_after c (with_writer c writer next)).info
sets-writer named new c i writer next e h =
    after_step (λ (x : ReplicaRecord). Sets named new c.info x.info) c next (λ j. done (set_writer c j writer)) (sets-same named new c.info) (λ j q j' r.
    let x = h j q in
    inr (record { info = j; is = refl; stamp = x.0 }, subst (λ (y : ReplicaInfo). named.0 ≤ y.stamp.0) (same_Some i j' (sym e ∙ r)) x.1))

created-sets : (c : ReplicaRecord) (conn : ConnId) (t new : Stamp) (r : Rule) → Sets t new c.info (record_after c (new_transition c state.Rbw conn t r)).info
created-sets c conn t new r =
    after_check (λ (x : ReplicaRecord). Sets t new c.info x.info) c (not c.is_broken) refusal.Broken _ (sets-same t new c.info) (λ _.
    after_check (λ (x : ReplicaRecord). Sets t new c.info x.info) c (is_none c.info) refusal.Exists _ (sets-same t new c.info) (λ none. from c.info none))
  where
    from : (o : Option ReplicaInfo) → is_none o ≡ true → Sets t new o (Some (settled_at state.Rbw t r 0))
    from None e = λ i q. absurd (none-some i q)
    from (Some i) e = absurd (false≢true e)

setup-sets : (c : ReplicaRecord) (conn : ConnId) (f : WriteFields) (r : Rule) (s : SetupKind) → Sets f.block.stamp (stamp_set (Some s) f.block.stamp f.latest) c.info (state_after c (setup_event conn f r s)).info
unfolding transition
setup-sets c conn f r kind.Create = created-sets c conn f.block.stamp f.block.stamp r
setup-sets c conn f r kind.Append =
    sets-there f.block.stamp f.latest c _ (λ i is. sets-writer f.block.stamp f.latest c i (Some conn) (reopen i f.block.stamp f.latest f.min) is (λ j e.
    (ap (λ (y : ReplicaInfo). y.stamp) (reopen_is i j f.block.stamp f.latest f.min e).0, omega (arith, (reopen-stamp i j f.block.stamp f.latest f.min e).0))))
setup-sets c conn f r kind.AppendRecovery =
    sets-there f.block.stamp f.latest c _ (λ i is. sets-writer f.block.stamp f.latest c i (Some conn) (recover_setup i f.block.stamp f.latest f.min state.Rbw) is (λ j e.
    (ap (λ (y : ReplicaInfo). y.stamp) (recover_setup_is i j f.block.stamp f.latest f.min state.Rbw e).0, (setup-stamp i j f.block.stamp f.latest f.min state.Rbw e).0)))
setup-sets c conn f r kind.StreamRecovery =
    sets-there f.block.stamp f.latest c _ (λ i is. sets-writer f.block.stamp f.latest c i (Some conn) (recover_stream i f.block.stamp f.latest f.min f.max) is (λ j e.
    (ap (λ (y : ReplicaInfo). y.stamp) (recover_stream_is i j f.block.stamp f.latest f.min f.max e), (stream-stamp i j f.block.stamp f.latest f.min f.max e).0)))
setup-sets c conn f r kind.CloseRecovery =
    sets-there f.block.stamp f.latest c _ (λ i is. sets-writer f.block.stamp f.latest c i None (recover_setup i f.block.stamp f.latest f.min state.Finalized) is (λ j e.
    (ap (λ (y : ReplicaInfo). y.stamp) (recover_setup_is i j f.block.stamp f.latest f.min state.Finalized e).0, (setup-stamp i j f.block.stamp f.latest f.min state.Finalized e).0)))

-- A REPLICA THAT CHANGES

-- the stamp that a replica gets: the one that it had, that of a setup which names none later, or the id of the recovery
-- that held it and updates it now
pub data Gets (w : World) (k : Change) (i : ReplicaInfo) (to : ℕ) : Type 0 where
  keeps_stamp : to ≡ i.stamp.0 → Gets w k i to
  gets_setup : (c : ℕ) (q : WriteFields) → slice_get (w.downs c) 0 ≡ Some (request (op.Write q)) → block_of q ≡ k.block → q.block.stamp.0 ≤ i.stamp.0 → to ≡ (new_stamp q).0 → Gets w k i to
  gets_update : (u : Updated) → Has k.updated u → u.node ≡ k.node → u.life ≡ w.lives k.node → u.block ≡ k.block → i.recovery ≡ Some (record { 0 = u.recovery }) → to ≡ u.recovery → Gets w k i to

pub record GetsTo (w : World) (k : Change) (i : ReplicaInfo) (o : Option ReplicaInfo) : Type 0 where
  pub info : ReplicaInfo
  pub is : o ≡ Some info
  pub gets : Gets w k i info.stamp.0

abbrev pub StampSteps : World → Change → Type 0
StampSteps w k = (i : ReplicaInfo) → (w.replicas k.node k.block).known.info ≡ Some i → GetsTo w k i k.replica.known.info

pub stamps-keep : (w : World) (k : Change) → Keeps (w.replicas k.node k.block).known.info k.replica.known.info → StampSteps w k
stamps-keep w k h i e = let x = h i e in record { info = x.info; is = x.is; gets = keeps_stamp (ap (λ (s : Stamp). s.0) x.stamp) }

pub stamps-same : (w : World) (k : Change) → k.replica ≡ w.replicas k.node k.block → StampSteps w k
stamps-same w k e = stamps-keep w k (λ i q. record { info = i; is = ap (λ (r : FullReplica). r.known.info) e ∙ q; stamp = refl })

pub stamps-row : (w : World) (k : Change) (e : ReplicaEvent) → k.replica ≡ row (w.replicas k.node k.block) e → IsNoUpdate (event_at (w.replicas k.node k.block) e) → IsNoSetup (event_at (w.replicas k.node k.block) e) → StampSteps w k
stamps-row w k e q u n =
    let r = w.replicas k.node k.block in
    stamps-keep w k (λ i z. subst (λ (x : FullReplica). HasStamp x.known.info i.stamp) (sym q) (event-keeps r.known (event_at r e) u n i z))

-- of the setup of a request that was asked on a connection
pub stamps-setup : (w : World) (k : Change) (c : ℕ) (conn : ConnId) (f : WriteFields) (r : Rule) (s : SetupKind) → slice_get (w.downs c) 0 ≡ Some (request (op.Write f)) → block_of f ≡ k.block → setup_with f.stage ≡ Some s
    → k.replica.known ≡ state_after (w.replicas k.node k.block).known (setup_event conn f r s) → StampSteps w k
stamps-setup w k c conn f r s asked block stage q i e = go (setup-sets (w.replicas k.node k.block).known conn f r s i e)
  where
    new : Stamp
    new = stamp_set (Some s) f.block.stamp f.latest

    is-new : new ≡ new_stamp f
    is-new = ap (λ (o : Option SetupKind). stamp_set o f.block.stamp f.latest) (sym stage)

    there : (o : Option ReplicaInfo) → o ≡ (state_after (w.replicas k.node k.block).known (setup_event conn f r s)).info → k.replica.known.info ≡ o
    there o z = ap (λ (x : ReplicaRecord). x.info) q ∙ sym z

    go : HasStamp (state_after (w.replicas k.node k.block).known (setup_event conn f r s)).info i.stamp ⊎ (HasStamp (state_after (w.replicas k.node k.block).known (setup_event conn f r s)).info new × (f.block.stamp.0 ≤ i.stamp.0)) → GetsTo w k i k.replica.known.info
    go (inl x) = record { info = x.info; is = there (Some x.info) (sym x.is); gets = keeps_stamp (ap (λ (t : Stamp). t.0) x.stamp) }
    go (inr (x, low)) = record { info = x.info; is = there (Some x.info) (sym x.is); gets = gets_setup c f asked block low (ap (λ (t : Stamp). t.0) (x.stamp ∙ is-new)) }

-- THE FRAME

has-more : {A : Type 0} (xs ys : List A) (x : A) → Has xs x → Has (xs ++ ys) x
has-more {A} xs ys x h = record { place = h.place; there = go xs h.place h.there }
  where
    go : (zs : List A) (i : ℕ) → slice_get zs i ≡ Some x → slice_get (zs ++ ys) i ≡ Some x
    go [] i e = absurd (none-some x e)
    go (z ∷ zs) zero e = e
    go (z ∷ zs) (suc i) e = go zs i e

has-behind : {A : Type 0} (xs ys : List A) (x : A) → Has ys x → Has (xs ++ ys) x
has-behind [] ys x h = h
has-behind (z ∷ xs) ys x h = let k = has-behind xs ys x h in record { place = suc k.place; there = k.there }

passed-later : (w : World) (k : Change) (b stamp : ℕ) (at : Place) → GotPast w.past b stamp at → GotPast (past_after w k) b stamp at
unfolding apply
passed-later w k b stamp at (by_setup c q e x lo hi) = by_setup c q (begins-get (w.downs c) ((past_after w k).downs c) 0 (request (op.Write q)) ((apply-grows w k).downs c) e) x lo hi
passed-later w k b stamp at (by_update u h n l x r) = by_update u (has-more w.updated k.updated u h) n l x r
passed-later w k b stamp at (by_recovery c q e x lo hi) = by_recovery c q (begins-get (w.downs c) ((past_after w k).downs c) 0 (request (op.Recovery q)) ((apply-grows w k).downs c) e) x lo hi

pub passes-later : (w : World) (k : Change) (b from to : ℕ) (at : Place) → Passes w.past b from to at → Passes (past_after w k) b from to at
passes-later w k b from to at h = record { each = λ s lo hi. passed-later w k b s at (h.each s lo hi) }

-- the recovery that updates a replica names no stamp that is later than the replica's
record Names (h : Past) (b id low : ℕ) : Type 0 where
  pub conn : ℕ
  pub asked : RecoveryOp
  pub first : slice_get (h.downs conn) 0 ≡ Some (request (op.Recovery asked))
  pub block : asked.block.block.0 ≡ b
  pub recovery : asked.recovery.0 ≡ id
  pub named : asked.block.stamp.0 ≤ low

sent-names : (g l : Givens) (w : World) (k : Change) (u : Updated) (i : ReplicaInfo) → Recovering g w → TellsFrom w (apply w k) → Recovering l (apply w k) → Has k.updated u → u.node ≡ k.node → u.life ≡ w.lives k.node → u.block ≡ k.block
    → (w.replicas k.node k.block).known.info ≡ Some i → i.recovery ≡ Some (record { 0 = u.recovery }) → Names (past_after w k) u.block u.recovery i.stamp.0
unfolding apply
sent-names g l w k u i rec tells next has node life block is held = record {
  conn = f.conn;
  asked = f.informs.asked;
  first = f.informs.first;
  block = f.informs.block;
  recovery = ap (λ (s : Stamp). s.0) f.informs.recovery;
  named = omega (arith, (next.told f.conn u.block id f.told f.informs).named_below, by (tells.each f.conn u.block id f.told f.informs));
}
  where
    id : Stamp
    id = record { 0 = u.recovery }

    s : WasSent (past_after w k) u
    s = next.updated u (has-behind w.updated k.updated u has)

    f : UpdateFits (past_after w k) s.conn u.block id u.length
    f = next.updates s.conn u.block id u.length s.sent

    to : ((past_after w k).dialled f.conn).to ≡ record { node = u.node; life = u.life }
    to = f.to ∙ s.to

    there : (w.replicas u.node u.block).known.info ≡ Some i
    there = ap (λ (n : ℕ). (w.replicas n u.block).known.info) node ∙ ap (λ (b : ℕ). (w.replicas k.node b).known.info) block ∙ is

    alive : u.life ≡ w.lives u.node
    alive = life ∙ ap (λ (n : ℕ). w.lives n) (sym node)

    top : top_of i ≡ u.recovery
    top = ap (λ (o : Option Stamp). top_under o i.stamp) held

    by : Informs w.past f.conn u.block id f.told ⊎ TellsNow w.running w.lives w.replicas ((past_after w k).dialled f.conn).to u.block id f.told → f.told.1.0 ≡ i.stamp.0
    by (inl x) =
        let known = (rec.told f.conn u.block id f.told x).known in
        let at : (w.dialled f.conn).to ≡ record { node = u.node; life = u.life } = ap (λ (d : Dialled). d.to) (sym ((apply-grows w k).dialled f.conn known)) ∙ to in
        let t : StillTrue id f.told (w.replicas u.node u.block).known.info =
        subst (λ (p : Place). StillTrue id f.told (w.replicas p.node u.block).known.info) at (rec.still f.conn u.block id f.told x (subst (λ (p : Place). p.life ≡ w.lives p.node) (sym at) alive)) in
        let same : t.info ≡ i = same_Some t.info i (sym t.is ∙ there) in
        ap (λ (z : Stamp). z.0) (sym (t.same (ap (λ (z : ReplicaInfo). z.recovery) same ∙ held)).1) ∙ ap (λ (z : ReplicaInfo). z.stamp.0) same
    by (inr x) =
        let r = (subst (λ (p : Place). TellsNow w.running w.lives w.replicas p u.block id f.told) to x).replica in
        absurd (omega (arith, r.below, top, ap (λ (z : ReplicaInfo). top_of z) (same_Some r.info i (sym r.is ∙ there))))

-- a replica that changes gets past the stamps to its new one
passes-then : (g l : Givens) (w : World) (k : Change) (b from to : ℕ) (at : Place) (i : ReplicaInfo) → Recovering g w → TellsFrom w (apply w k) → Recovering l (apply w k) → (w.replicas k.node k.block).known.info ≡ Some i → b ≡ k.block → at.node ≡ k.node
    → at.life ≡ w.lives k.node → Passes w.past b from i.stamp.0 at → Gets w k i to → Passes (past_after w k) b from to at
unfolding apply
passes-then g l w k b from to at i rec tells next is block node life h s = record { each = λ stamp lo hi. go stamp lo hi (cases_lt i.stamp.0 stamp) s }
  where
    old : (stamp : ℕ) → from < stamp → stamp ≤ i.stamp.0 → GotPast (past_after w k) b stamp at
    old stamp lo hi = passed-later w k b stamp at (h.each stamp lo hi)

    updated : (stamp : ℕ) (u : Updated) → i.stamp.0 < stamp → stamp ≤ u.recovery → Has k.updated u → u.node ≡ k.node → u.life ≡ w.lives k.node → u.block ≡ k.block → i.recovery ≡ Some (record { 0 = u.recovery }) → (stamp < u.recovery) ⊎ (u.recovery ≤ stamp)
        → GotPast (past_after w k) b stamp at
    updated stamp u lo hi has n y x held (inl z) =
        let m = sent-names g l w k u i rec tells next has n y x is held in
        by_recovery m.conn m.asked m.first (m.block ∙ x ∙ sym block) (omega (arith, m.named, lo)) (omega (arith, z, m.recovery))
    updated stamp u lo hi has n y x held (inr z) = by_update u (has-behind w.updated k.updated u has) (n ∙ sym node) (y ∙ sym life) (x ∙ sym block) (omega (arith, hi, z))

    go : (stamp : ℕ) → from < stamp → stamp ≤ to → (i.stamp.0 < stamp) ⊎ (stamp ≤ i.stamp.0) → Gets w k i to → GotPast (past_after w k) b stamp at
    go stamp lo hi (inr z) s = old stamp lo z
    go stamp lo hi (inl z) (keeps_stamp e) = absurd (omega (arith, hi, z, e))
    go stamp lo hi (inl z) (gets_setup c q e x low t) =
        by_setup c q (begins-get (w.downs c) ((past_after w k).downs c) 0 (request (op.Write q)) ((apply-grows w k).downs c) e) (x ∙ sym block) (omega (arith, low, z)) (omega (arith, hi, t))
    go stamp lo hi (inl z) (gets_update u has n y x held t) = updated stamp u z (omega (arith, hi, t)) has n y x held (cases_lt stamp u.recovery)

pub passes-apply : (g l : Givens) (w : World) (k : Change) (b stamp n life : ℕ) → StampSteps w k → Recovering g w → TellsFrom w (apply w k) → Recovering l (apply w k) → PassesSince w b stamp n life → PassesSince (apply w k) b stamp n life
unfolding apply
passes-apply g l w k b stamp n life st rec tells next h = record {
  now = λ alive. now alive (n == k.node && b == k.block) refl;
  told = λ c id i x to. told c id i to (tells.each c b id i x);
}
  where
    at : Place
    at = record { node = n; life = life }

    now : w.lives n ≡ life → (t : Bool) → (n == k.node && b == k.block) ≡ t → PassesTo (past_after w k) b stamp at (if t then k.replica else w.replicas n b).known.info
    now alive false q = let x = h.now alive in record { info = x.info; is = x.is; passes = passes-later w k b stamp x.info.stamp.0 at x.passes }
    now alive true q =
        let en : n ≡ k.node = eqb-true n k.node (and-left (n == k.node) (b == k.block) q) in
        let eb : b ≡ k.block = eqb-true b k.block (and-right (n == k.node) (b == k.block) q) in
        let x = h.now alive in
        let was : (w.replicas k.node k.block).known.info ≡ Some x.info = ap (λ (m : ℕ). (w.replicas m k.block).known.info) (sym en) ∙ ap (λ (c : ℕ). (w.replicas n c).known.info) (sym eb) ∙ x.is in
        let y = st x.info was in
        record { info = y.info; is = y.is; passes = passes-then g l w k b stamp y.info.stamp.0 at x.info rec tells next was eb en (sym alive ∙ ap (λ (m : ℕ). w.lives m) en) x.passes y.gets }

    told : (c : ℕ) (id : Stamp) (i : ReplicaTold) → ((past_after w k).dialled c).to ≡ at → Informs w.past c b id i ⊎ TellsNow w.running w.lives w.replicas ((past_after w k).dialled c).to b id i → Passes (past_after w k) b stamp i.1.0 at
    told c id i to (inl x) =
        passes-later w k b stamp i.1.0 at (h.told c id i x (ap (λ (d : Dialled). d.to) (sym ((apply-grows w k).dialled c (rec.told c b id i x).known)) ∙ to))
    told c id i to (inr x) =
        let z = subst (λ (p : Place). TellsNow w.running w.lives w.replicas p b id i) to x in
        let y = h.now (sym z.life) in
        let same : y.info ≡ z.replica.info = same_Some y.info z.replica.info (sym y.is ∙ z.replica.is) in
        let is : y.info.stamp.0 ≡ i.1.0 = ap (λ (v : ReplicaInfo). v.stamp.0) same ∙ sym (ap (λ (v : ReplicaTold). v.1.0) z.replica.told) in
        subst (λ (v : ℕ). Passes (past_after w k) b stamp v at) is (passes-later w k b stamp y.info.stamp.0 at y.passes)

-- a replica that is under the stamp has got past none yet
pub passes-none : (g : Givens) (v : World) (b stamp n life : ℕ) (info : ReplicaInfo) → Recovering g v → (v.replicas n b).known.info ≡ Some info → info.recovery ≡ None → info.stamp.0 ≡ stamp → life ≡ v.lives n → PassesSince v b stamp n life
passes-none g v b stamp n life info rec is free under alive = record {
  now = λ _. record { info = info; is = is; passes = record { each = λ s lo hi. absurd (omega (arith, lo, hi, under)) } };
  told = λ c id i x to. record {
    each = λ s lo hi.
        absurd (omega (arith, lo, hi, under, (rec.told c b id i x).below, told-below g v c b id i (record { node = n; life = life }) info rec x to alive is, ap (λ (o : Option Stamp). top_under o info.stamp) free));
  };
}

-- in a world with the same past the replica, and the life of its node, are the same
pub passes-like : (w v : World) (b stamp n life : ℕ) → v.past ≡ w.past → v.lives n ≡ w.lives n → v.replicas n b ≡ w.replicas n b → PassesSince w b stamp n life → PassesSince v b stamp n life
passes-like w v b stamp n life past lives replicas h = record {
  now = λ a. subst (λ (r : FullReplica). PassesTo v.past b stamp at r.known.info) (sym replicas) (subst (λ (p : Past). PassesTo p b stamp at (w.replicas n b).known.info) (sym past) (h.now (sym lives ∙ a)));
  told = λ c id i x to. subst (λ (p : Past). Passes p b stamp i.1.0 at) (sym past) (h.told c id i (subst (λ (p : Past). Informs p c b id i) past x) (ap (λ (p : Past). (p.dialled c).to) (sym past) ∙ to));
}
  where
    at : Place
    at = record { node = n; life = life }
