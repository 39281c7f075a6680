-- FINALIZED replicas agree.
use Rattle.std.proofs.Common.{◌≡◌, ℕ, ◌≤◌, false, List, length, take, Option, Some, None, IfSome, refl, sym, ◌∙◌, ap, subst}
use Rattle.std.proofs.lemmas.Bool.{false≢true}
use Rattle.std.proofs.lemmas.Option.{same_Some}
use Rattle.hd_base.specs.declared.numbers.Stamp.{Stamp}
use Rattle.hd_base.specs.declared.states.ReplicaState.{ReplicaState}
use Rattle.hd_base.specs.declared.states.ReplicaState.TheVariants as state
use Rattle.replica_core.specs.declared.info.ReplicaInfo.{ReplicaInfo}
use Rattle.replica_core.specs.Info.{state_of, state_under}
use Rattle.replica_core.specs.Views.{written_at}
use Rattle.replica_model.specs.Rows.{FullReplica, IsFull}
use Rattle.replica_model.specs.Found.{IsFront}
use Rattle.world.specs.declared.events.Event.{Event}
use Rattle.world.specs.Worlds.{World, start}
use Rattle.world.specs.Events.{run}
use Rattle.world.specs.Safe.{Final, Agree}
use Rattle.world_laws.proofs.FilledLaws.{all-filled}
use Rattle.name_core.specs.declared.records.BlockRecord.{BlockRecord}
use Rattle.writer_core.specs.declared.records.WriterRecord.{WriterRecord}
use Rattle.world_laws.specs.Stamping.{Givens, none_given, given_in, heard, HeldOf}
use Rattle.world_laws.proofs.AllRecorded.{all-recorded}
use Rattle.world_laws.specs.Carrying.{Under, Holds, Carried}
use Rattle.world_laws.proofs.Fronts.{front-is}
use Rattle.world_laws.proofs.AllCarried.{all-carried}
use Rattle.world_recoveries.specs.Recovering.{Recovering}
use Rattle.world_recoveries.proofs.AllRecovering.{all-recovering}
use Rattle.world_finals.specs.Finishing.{Ids, no_ids, ids_in, FinalLength, of_recovery, of_session, IsFinalOf, Finals, ClosedIsNewest}
use Rattle.world_finals.proofs.AllFinal.{all-final}

-- one stamp has one length
one-length : (f : Ids) (g : Givens) (w : World) (b t n m : ℕ) → Recovering g w → FinalLength f g w b t n → FinalLength f g w b t m → n ≡ m
one-length f g w b t n m r (of_recovery p c d u) (of_recovery q e a v) = r.one_length c e d a (record { 0 = t }) n m u v
one-length f g w b t n m r (of_recovery p c d u) (of_session q y) = absurd (false≢true (sym q ∙ p))
one-length f g w b t n m r (of_session p x) (of_recovery q e a v) = absurd (false≢true (sym p ∙ q))
one-length f g w b t n m r (of_session p x) (of_session q y) = x.length ∙ ap (λ (s : ℕ). length (w.written s)) (same_Some x.session y.session (sym x.given ∙ y.given)) ∙ sym y.length

-- a FINALIZED replica as it is held
record Settled (r : FullReplica) (t : ℕ) : Type 0 where
  pub info : ReplicaInfo
  pub is : r.known.info ≡ Some info
  pub original : info.original ≡ state.Finalized
  pub stamp : info.stamp.0 ≡ t

settled-of : (r : FullReplica) (t : ℕ) → Final r t → Settled r t
settled-of r t h = go r.known.info refl h.final
  where
    final : (o : Option Stamp) (s : ReplicaState) → state_under o s ≡ state.Finalized → s ≡ state.Finalized
    final None s e = e
    final (Some id) s e = absurd (cc)

    go : (o : Option ReplicaInfo) → r.known.info ≡ o → IfSome o (λ i. (state_of i ≡ state.Finalized) × (i.stamp.0 ≡ t)) → Settled r t
    go None e x = absurd (h.there e)
    go (Some i) e x = record { info = i; is = e; original = final i.recovery i.original x.0; stamp = x.1 }

-- two fronts of one list that are as long are the same
same-fronts : (v u whole : List ℕ) → IsFront v whole → IsFront u whole → length v ≡ length u → v ≡ u
same-fronts v u whole a c e = front-is v whole a ∙ ap (λ (n : ℕ). take n whole) e ∙ sym (front-is u whole c)

agrees : (f : Ids) (g : Givens) (w : World) → Finals f g w → Recovering g w → Carried g w → ((n b : ℕ) → IsFull (w.replicas n b)) → Agree w
agrees f g w h r c full node other b t x y =
    let s = settled-of (w.replicas node b) t x in
    let u = settled-of (w.replicas other b) t y in
    let length_of : s.info.written ≡ u.info.written = one-length f g w b t s.info.written u.info.written r (length_at node s) (length_at other u) in
    let front : Under g w.past b s.info.stamp (w.replicas node b).bytes = (holds node s).under in
    let back : Under g w.past b u.info.stamp (w.replicas other b).bytes = (holds other u).under in
    let session : front.session ≡ back.session = same_Some front.session back.session (sym front.given ∙ ap (λ (d : ℕ). g b d) (s.stamp ∙ sym u.stamp) ∙ back.given) in
    same-fronts (w.replicas node b).bytes (w.replicas other b).bytes (w.written back.session) (subst (λ (d : ℕ). IsFront (w.replicas node b).bytes (w.written d)) session front.front) back.front
    (size node s ∙ length_of ∙ sym (size other u))
  where
    length_at : (n : ℕ) (s : Settled (w.replicas n b) t) → FinalLength f g w b t s.info.written
    length_at n s =
        let z : IsFinalOf f g w b s.info = subst (λ (o : Option ReplicaInfo). IfSome o (IsFinalOf f g w b)) s.is (h.replicas n b).final in
        subst (λ (d : ℕ). FinalLength f g w b d s.info.written) s.stamp (z s.original)

    holds : (n : ℕ) (s : Settled (w.replicas n b) t) → Holds g w.past b (w.replicas n b).bytes s.info
    holds n s = subst (λ (o : Option ReplicaInfo). IfSome o (Holds g w.past b (w.replicas n b).bytes)) s.is (c.replicas n b).info

    size : (n : ℕ) (s : Settled (w.replicas n b) t) → length (w.replicas n b).bytes ≡ s.info.written
    size n s = (full n b).all ∙ ap written_at s.is

pub all-agree : (nodes : ℕ) (events : List Event) → Agree (run (start nodes) events)
all-agree nodes events =
    agrees (ids_in no_ids (start nodes) events) (given_in none_given (start nodes) events) (run (start nodes) events) (all-final nodes events) (all-recovering nodes events) (all-carried nodes events)
    (λ n b. ((all-filled nodes events).replicas n b).full)

-- CLOSED BLOCKS

newest-of : (f : ℕ → Option ℕ) (l : ℕ) (r : BlockRecord) (x : WriterRecord) → HeldOf f l (Some r) x → r.is_open ≡ false → (t e : ℕ) → f t ≡ Some e → t ≤ r.committed.0
newest-of f l r x h o t e q = h.office.closed o t e q

pub closed-newest : ClosedIsNewest
closed-newest nodes events block stamp session r is o q =
    let w = run (start nodes) events in
    let f = given_in none_given (start nodes) events block in
    let x = heard (w.writers block) in
    newest-of f (w.latest block) r x (subst (λ (y : Option BlockRecord). HeldOf f (w.latest block) y x) is ((all-recorded nodes events).blocks block)) o stamp session q
