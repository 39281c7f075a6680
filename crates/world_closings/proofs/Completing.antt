-- Where a block is completed, each member that has closed has all that the writer has written.
use Rattle.std.proofs.Common.{◌≡◌, ℕ, ◌≤◌, inl, inr, List, length, Option, Some, None, IfSome, refl, sym, ◌∙◌, ap, subst, arith, take_all}
use Rattle.std.proofs.lemmas.Bool.{false≢true}
use Rattle.std.proofs.lemmas.Option.{none-some, same_Some}
use Rattle.hd_base.specs.declared.numbers.NodeId.{NodeId}
use Rattle.hd_base.specs.declared.numbers.Stamp.{Stamp}
use Rattle.hd_base.specs.declared.states.ReplicaState.{ReplicaState}
use Rattle.hd_base.specs.declared.states.ReplicaState.TheVariants as state
use Rattle.name_core.specs.declared.records.BlockRecord.{BlockRecord}
use Rattle.op_headers.specs.declared.ops.Op.TheVariants as op
use Rattle.packet_stream.specs.Streams.{written_in}
use Rattle.replica_core.specs.declared.info.ReplicaInfo.{ReplicaInfo}
use Rattle.replica_core.specs.Info.{state_of, state_under}
use Rattle.replica_core.specs.Views.{written_at}
use Rattle.replica_model.specs.Found.{IsFront}
use Rattle.writer_core.specs.declared.phases.Phase.{Phase}
use Rattle.writer_core.specs.declared.phases.Phase.TheVariants as phase
use Rattle.writer_core.specs.declared.records.WriterRecord.{WriterRecord}
use Rattle.world.specs.declared.events.Event.{Event}
use Rattle.world.specs.Parts.{request, by_close, Answered}
use Rattle.world.specs.Worlds.{World, start}
use Rattle.world.specs.Events.{run}
use Rattle.world.specs.Safe.{Has, written_under, ClosedAt}
use Rattle.world_laws.specs.Stamping.{Givens, none_given, given_in, heard, HeldOf, Entries, IsSetup, InPhase, Recorded}
use Rattle.world_laws.specs.Carrying.{Under, Holds, Streams, StreamOf}
use Rattle.world_laws.proofs.Fronts.{front-is}
use Rattle.world_laws.proofs.ByteLeaves.{Facts}
use Rattle.world_laws.proofs.AllCarried.{reached-facts, all-carried}
use Rattle.world_laws.proofs.AllRecorded.{Reached, all-recorded}
use Rattle.world_laws.proofs.AllSetUp.{all-set}
use Rattle.world_writers.proofs.WorldFinals.AllFinal.{all-final}
use Rattle.world_laws.specs.Joining.{IsPlain}
use Rattle.world_writers.specs.WorldFinals.Finishing.{Ids, no_ids, ids_in, EndsAt, FinalLength, of_recovery, of_session, WriteEnds, IsFinalOf, Finals}
use Rattle.world_writers.specs.WorldAcks.Closing.{IsClosed, IsPassed, HasClosed}
use Rattle.world.specs.Nodes.{node_on}
use Rattle.node_refs.specs.NodeRefs.{port_of}
use Rattle.world_closings.specs.Answering.{MembersClosed, IsCompleted, AnswersClose}

-- what is known of the world
pub record Known (f : Ids) (g : Givens) (w : World) : Type 0 where
  pub finals : Finals f g w
  pub facts : Facts g w
  pub plain : (n b : ℕ) → IfSome (w.replicas n b).known.info IsPlain

-- what office and writer hold of a block that is completed
entries-of : (g : Givens) (w : World) (b : ℕ) (stamp : Stamp) (c : IsCompleted w b stamp) → Recorded g w → Entries (g b) (w.latest b) c.entry (heard (w.writers b))
entries-of g w b stamp c r = subst (λ (o : Option BlockRecord). HeldOf (g b) (w.latest b) o (heard (w.writers b))) c.is (r.blocks b)

-- no later stamp was given
newest : (g : Givens) (w : World) (b : ℕ) (stamp : Stamp) → Recorded g w → IsCompleted w b stamp → (t e : ℕ) → g b t ≡ Some e → t ≤ stamp.0
newest g w b stamp r c t e q =
    let low = (entries-of g w b stamp c r).office.closed c.closed t e q in
    omega (arith, low, ap (λ (s : Stamp). s.0) c.committed)

not-passed : (g : Givens) (w : World) (b : ℕ) (stamp : Stamp) → Recorded g w → IsCompleted w b stamp → IsPassed g b stamp.0 → ⊥
not-passed g w b stamp r c p = absurd (omega (arith, p.above, newest g w b stamp r c p.later p.session p.given))

member-closed : (g : Givens) (w : World) (b : ℕ) (stamp : Stamp) (n : ℕ) → Recorded g w → IsCompleted w b stamp → HasClosed g w b stamp.0 n → IsClosed w b stamp.0 n
member-closed g w b stamp n r c (inl h) = h
member-closed g w b stamp n r c (inr p) = absurd (not-passed g w b stamp r c p)

-- what it holds
record Held (f : Ids) (g : Givens) (w : World) (b n : ℕ) (stamp : Stamp) : Type 0 where
  pub info : ReplicaInfo
  pub is : (w.replicas n b).known.info ≡ Some info
  pub original : info.original ≡ state.Finalized
  pub under : info.stamp.0 ≡ stamp.0
  pub holds : Holds g w.past b (w.replicas n b).bytes info
  pub plain : IsPlain info
  pub final : FinalLength f g w b info.stamp.0 info.written
  pub size : length (w.replicas n b).bytes ≡ info.written

held-of : (f : Ids) (g : Givens) (w : World) (b n : ℕ) (stamp : Stamp) → Known f g w → IsClosed w b stamp.0 n → Held f g w b n stamp
held-of f g w b n stamp k h =
    let x = h.replica in
    let r = w.replicas n b in
    let final : IsFinalOf f g w b x.info = subst (λ (o : Option ReplicaInfo). IfSome o (IsFinalOf f g w b)) x.is (k.finals.replicas n b).final in
    record {
      info = x.info;
      is = x.is;
      original = x.original;
      under = x.under;
      holds = subst (λ (o : Option ReplicaInfo). IfSome o (Holds g w.past b r.bytes)) x.is (k.facts.carried.replicas n b).info;
      plain = subst (λ (o : Option ReplicaInfo). IfSome o IsPlain) x.is (k.plain n b);
      final = final x.original;
      size = (k.facts.full n b).all ∙ ap written_at x.is;
    }

-- No recovery holds it.
free-of : (f : Ids) (g : Givens) (w : World) (b n : ℕ) (stamp : Stamp) → Recorded g w → IsCompleted w b stamp → Held f g w b n stamp → (x : ReplicaInfo) × ((w.replicas n b).known.info ≡ Some x) × (state_of x ≡ state.Finalized) × (x.stamp.0 ≡ stamp.0)
free-of f g w b n stamp r c h = (h.info, h.is, go h.info.recovery h.info.original refl h.original, h.under)
  where
    go : (o : Option Stamp) (s : ReplicaState) → h.info.recovery ≡ o → s ≡ state.Finalized → state_under o s ≡ state.Finalized
    go None s e q = q
    go (Some id) s e q =
        let u : Under g w.past b id (w.replicas n b).bytes = h.holds.held id e in
        absurd (omega (arith, h.plain.above id e, h.under, newest g w b stamp r c id.0 u.session u.given))

-- The stamp is no recovery's id, so all of its session was written.
ends-of : (f : Ids) (g : Givens) (w : World) (b : ℕ) (stamp : Stamp) (ms : List NodeId) (n : ℕ) → Finals f g w → MembersClosed g w b stamp ms → FinalLength f g w b stamp.0 n → EndsAt g w b stamp.0 n
ends-of f g w b stamp ms n k m (of_session e x) = x
ends-of f g w b stamp ms n k m (of_recovery e c d u) =
    let y : WriteEnds f g w m.asked.fields = k.downs m.conn 0 (request (op.Write m.asked.fields)) m.asked.first in
    absurd (false≢true (sym y.no_id ∙ ap (λ (s : Stamp). f s.0) m.asked.is ∙ e))

-- a front that is as long as the whole
whole-front : (v whole : List ℕ) → IsFront v whole → length v ≡ length whole → v ≡ whole
whole-front v whole p e = front-is v whole p ∙ take_all (length v) whole (omega (arith, e))

all-held : (f : Ids) (g : Givens) (w : World) (b n : ℕ) (stamp : Stamp) (ms : List NodeId) → Known f g w → MembersClosed g w b stamp ms → Held f g w b n stamp → (w.replicas n b).bytes ≡ written_under w stamp.0
all-held f g w b n stamp ms k m h =
    let final : FinalLength f g w b stamp.0 h.info.written = subst (λ (t : ℕ). FinalLength f g w b t h.info.written) h.under h.final in
    let ends : EndsAt g w b stamp.0 h.info.written = ends-of f g w b stamp ms h.info.written k.finals m final in
    let same : h.holds.under.session ≡ ends.session = same_Some h.holds.under.session ends.session (sym h.holds.under.given ∙ ap (λ (t : ℕ). g b t) h.under ∙ ends.given) in
    let front : IsFront (w.replicas n b).bytes (w.written ends.session) = subst (λ (e : ℕ). IsFront (w.replicas n b).bytes (w.written e)) same h.holds.under.front in
    whole-front (w.replicas n b).bytes (w.written ends.session) front (h.size ∙ ends.length)
    ∙ ap (λ (e : ℕ). w.written e) (sym (k.facts.recorded.session b stamp.0 ends.session ends.given))

-- THE WRITER

streams-of : (v : List ℕ) (x : WriterRecord) (p : Phase) → x.phase ≡ p → Streams v x.stream x.phase → Streams v x.stream p
streams-of v x p e h = subst (λ (q : Phase). Streams v x.stream q) e h

-- what the writer has written is what was written under its stamp
written-is : (g : Givens) (w : World) (b : ℕ) → Facts g w → (heard (w.writers b)).phase ≡ phase.Completed → IsCompleted w b (heard (w.writers b)).committed
    → length (written_under w (heard (w.writers b)).committed.0) ≡ written_in (heard (w.writers b)).stream
written-is g w b k e c =
    let x = heard (w.writers b) in
    let y = entries-of g w b x.committed c k.recorded in
    let z : IsSetup (g b) (w.latest b) c.entry.recovery x.committed = subst (λ (q : Phase). InPhase (g b) (w.latest b) c.entry.recovery x.committed x.waiting x.stream.unacked q) e y.writer.fits in
    let says = k.carried.writers b in
    let s : StreamOf says.own x.stream = streams-of says.own x phase.Completed e says.streams in
    ap (λ (t : ℕ). length (w.written t)) (k.recorded.session b x.committed.0 (w.latest b) z.session.is)
    ∙ ap (λ (v : List ℕ). length v) (sym (says.are y.office.begins)) ∙ s.carries.whole

pub closed-member : (f : Ids) (g : Givens) (w : World) (b : ℕ) (a : Answered) (m : NodeId) → Known f g w → AnswersClose b (heard (w.writers b)) a → MembersClosed g w b (heard (w.writers b)).committed (heard (w.writers b)).members
    → IsCompleted w b (heard (w.writers b)).committed → Has a.members m → node_on (port_of m) ≡ Some m.0 → ClosedAt w a m.0
closed-member f g w b a m k x y c has there = subst (λ (z : Answered). ClosedAt w z m.0) (sym x.is) at
  where
    stamp : Stamp
    stamp = (heard (w.writers b)).committed

    closed : IsClosed w b stamp.0 m.0
    closed = member-closed g w b stamp m.0 k.facts.recorded c (y.each m (subst (λ (z : Answered). Has z.members m) x.is has) there).has

    held : Held f g w b m.0 stamp
    held = held-of f g w b m.0 stamp k closed

    at : ClosedAt w (record { block = b; command = by_close; length = written_in (heard (w.writers b)).stream; stamp = stamp.0; members = (heard (w.writers b)).members }) m.0
    at =
        let r = free-of f g w b m.0 stamp k.facts.recorded c held in
        record {
          final = record {
            there = λ e. none-some r.0 (sym e ∙ r.1);
            final = subst (λ (o : Option ReplicaInfo). IfSome o (λ i. (state_of i ≡ state.Finalized) × (i.stamp.0 ≡ stamp.0))) (sym r.1) (r.2, r.3);
          };
          bytes = all-held f g w b m.0 stamp (heard (w.writers b)).members k y held;
          length_of = written-is g w b k.facts x.phase_is c;
        }

-- it is known of every world that is reached
pub known-of : (nodes : ℕ) (events : List Event) → Known (ids_in no_ids (start nodes) events) (given_in none_given (start nodes) events) (run (start nodes) events)
known-of nodes events =
    let w = run (start nodes) events in
    let r : Reached w = record { nodes = nodes; events = events; is = refl } in
    record { finals = all-final nodes events; facts = reached-facts (given_in none_given (start nodes) events) w r (all-recorded nodes events) (all-carried nodes events); plain = (all-set nodes events).plain }
