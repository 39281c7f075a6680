-- Once all is acked at a writer, each of its members has a FINALIZED replica with all that was written.
use Rattle.std.proofs.Common.{◌≡◌, ℕ, ◌<◌, ◌≤◌, List, length, Option, Some, None, IfSome, refl, sym, ◌∙◌, ap, subst, arith, ◌⊎◌, inl, inr}
use Rattle.std.proofs.lemmas.Bool.{false≢true}
use Rattle.std.proofs.lemmas.Option.{same_Some}
use Rattle.hd_base.specs.SumRules.{Rule}
use Rattle.hd_base.specs.declared.numbers.NodeId.{NodeId}
use Rattle.hd_base.specs.declared.numbers.Stamp.{Stamp}
use Rattle.hd_base.specs.declared.roads.TheConstants.{MAX_NODES}
use Rattle.name_core.specs.declared.records.BlockRecord.{BlockRecord}
use Rattle.name_core.specs.Offices.{record_of}
use Rattle.op_headers.specs.declared.ops.Op.TheVariants as op
use Rattle.packet_stream.specs.Streams.{written_in}
use Rattle.replica_core.specs.declared.info.ReplicaInfo.{ReplicaInfo}
use Rattle.writer_core.specs.declared.phases.Phase.{Phase}
use Rattle.writer_core.specs.declared.phases.Phase.TheVariants as phase
use Rattle.writer_core.specs.declared.records.WriterRecord.{WriterRecord}
use Rattle.world.specs.declared.events.Event.{Event}
use Rattle.world.specs.Parts.{request}
use Rattle.world.specs.Worlds.{World, start}
use Rattle.world.specs.Events.{run}
use Rattle.world.specs.Safe.{Has}
use Rattle.world_laws.specs.Carrying.{Streams, StreamOf, WriterSays}
use Rattle.world_laws.specs.Stamping.{Givens, none_given, given_in, known_heard, heard, IsSetup, InPhase, Entries, HeldOf}
use Rattle.world_laws.proofs.AllCarried.{all-carried}
use Rattle.world_laws.proofs.AllRecorded.{all-recorded}
use Rattle.play_scripts.specs.WorldAcks.Closing.{FinalUnder, IsClosed, IsPassed}
use Rattle.world_closings.specs.WorldFinals.Finishing.{Ids, no_ids, ids_in, EndsAt, FinalLength, of_recovery, of_session, IsFinalOf, WriteEnds}
use Rattle.world_closings.proofs.WorldFinals.AllFinal.{all-final}
use Rattle.world_closings.specs.Answering.{MembersClosed, ClosesIn}
use Rattle.world_closings.proofs.Laws.{all-close}
use Rattle.play_model.specs.Laws.{IsQuiet}
use Rattle.play_scripts.specs.PlayLaws.Members.{IsNode, AllName}
use Rattle.play_scripts.proofs.PlayLaws.Resting.{members-are}
use Rattle.play_completeness.specs.Formed.{HasRule}
use Rattle.play_completeness.specs.Links.{IsFinalWith}
use Rattle.play_completeness.specs.Plain.{ArePlain, IsLeased}
use Rattle.play_completeness.proofs.Peace.{all-peaceful}
use Rattle.play_completeness.proofs.Requests.{port-node}

abbrev stamp_with : ℕ → Stamp
stamp_with n = record { 0 = n }

same-stamp : (s t : Stamp) → s.0 ≡ t.0 → s ≡ t
same-stamp s t e = ap stamp_with e

module _ (nodes : ℕ) (events : List Event) (few : nodes ≤ MAX_NODES) (plain : ArePlain events) (names : AllName (IsNode nodes) events) (quiet : IsQuiet (run (start nodes) events)) (b : ℕ)
    (finished : ((run (start nodes) events).writers b).known.phase ≡ phase.Finished) (entry : BlockRecord) (is : record_of (run (start nodes) events).office (record { 0 = b }) ≡ Some entry) where
  abbrev v : World
  v = run (start nodes) events

  abbrev g : Givens
  g = given_in none_given (start nodes) events

  abbrev f : Ids
  f = ids_in no_ids (start nodes) events

  abbrev x : WriterRecord
  x = (v.writers b).known

  known-is : heard (v.writers b) ≡ x
  known-is = ap (known_heard x) (quiet b)

  free : entry.recovery ≡ None
  free = (subst (λ (o : Option BlockRecord). IfSome o IsLeased) is ((all-peaceful nodes events plain).leases b)).free

  -- STAMPS

  held : Entries (g b) (v.latest b) entry x
  held = subst (λ (y : WriterRecord). HeldOf (g b) (v.latest b) (Some entry) y) known-is (subst (λ (o : Option BlockRecord). HeldOf (g b) (v.latest b) o (heard (v.writers b))) is ((all-recorded nodes events).blocks b))

  set-up : IsSetup (g b) (v.latest b) entry.recovery x.committed
  set-up = subst (λ (q : Phase). InPhase (g b) (v.latest b) entry.recovery x.committed x.waiting x.stream.unacked q) finished held.writer.fits

  -- no later stamp was given
  not-passed : IsPassed g b x.committed.0 → ⊥
  not-passed p =
      let above : x.committed.0 < p.later = p.above in
      let last : p.later ≤ x.committed.0 = set-up.newest.last free p.later p.session p.given in
      omega (arith, above, last)

  -- MEMBERS

  closed-all : MembersClosed g v b x.committed x.members
  closed-all =
      subst (λ (q : Phase). ClosesIn g v b (v.writers b).conn x q) finished
      (subst (λ (y : WriterRecord). ClosesIn g v b (v.writers b).conn y y.phase) known-is ((all-close nodes events).writers b))

  member-closed : (m : NodeId) → Has x.members m → IsClosed v b x.committed.0 m.0
  member-closed m has = go (closed-all.each m has (port-node m nodes few (members-are nodes events b names has.place m has.there))).has
    where
      go : IsClosed v b x.committed.0 m.0 ⊎ IsPassed g b x.committed.0 → IsClosed v b x.committed.0 m.0
      go (inl h) = h
      go (inr p) = absurd (not-passed p)

  -- LENGTHS

  -- all that was written in the latest session
  own-length : length (v.written (v.latest b)) ≡ written_in x.stream
  own-length =
      let says : WriterSays g v.past b (v.latest b) (v.writers b) = (all-carried nodes events).writers b in
      let streams : Streams says.own x.stream x.phase = subst (λ (y : WriterRecord). Streams says.own y.stream y.phase) known-is says.streams in
      let s : StreamOf says.own x.stream = subst (λ (q : Phase). Streams says.own x.stream q) finished streams in
      ap (λ (l : List ℕ). length l) (sym (says.are held.office.begins)) ∙ s.carries.whole

  -- the stamp is no recovery's id
  ends-of : (n : ℕ) → FinalLength f g v b x.committed.0 n → EndsAt g v b x.committed.0 n
  ends-of n (of_session e y) = y
  ends-of n (of_recovery e c d u) =
      let y : WriteEnds f g v closed-all.asked.fields = (all-final nodes events).downs closed-all.conn 0 (request (op.Write closed-all.asked.fields)) closed-all.asked.first in
      absurd (false≢true (sym y.no_id ∙ (ap (λ (s : Stamp). f s.0) closed-all.asked.is ∙ e)))

  final-length : (i : ReplicaInfo) (n : ℕ) → (v.replicas n b).known.info ≡ Some i → FinalUnder x.committed.0 (Some i) → i.written ≡ written_in x.stream
  final-length i n there h =
      let same : h.info ≡ i = same_Some h.info i (sym h.is) in
      let final : IsFinalOf f g v b i = subst (λ (o : Option ReplicaInfo). IfSome o (IsFinalOf f g v b)) there ((all-final nodes events).replicas n b).final in
      let long : FinalLength f g v b i.stamp.0 i.written = final (ap (λ (k : ReplicaInfo). k.original) (sym same) ∙ h.original) in
      let under : i.stamp.0 ≡ x.committed.0 = ap (λ (k : ReplicaInfo). k.stamp.0) (sym same) ∙ h.under in
      let ends : EndsAt g v b x.committed.0 i.written = ends-of i.written (subst (λ (t : ℕ). FinalLength f g v b t i.written) under long) in
      let session : ends.session ≡ v.latest b = same_Some ends.session (v.latest b) (sym ends.given ∙ set-up.session.is) in
      ends.length ∙ (ap (λ (e : ℕ). length (v.written e)) session ∙ own-length)

  -- A member has all bytes, FINALIZED under the committed stamp.
  pub member-whole : (m : NodeId) → Has x.members m → (rule : Rule) → HasRule rule (v.replicas m.0 b) → IsFinalWith x.committed (written_in x.stream) rule (v.replicas m.0 b)
  member-whole m has rule ruled =
      let h : FinalUnder x.committed.0 (v.replicas m.0 b).known.info = (member-closed m has).replica in
      record {
        info = h.info;
        is = h.is;
        final = h.original;
        stamp_is = same-stamp h.info.stamp x.committed h.under;
        written_is = final-length h.info m.0 h.is (record { info = h.info; is = refl; original = h.original; under = h.under });
        rule_is = subst (λ (o : Option ReplicaInfo). IfSome o (λ i. i.sums ≡ rule)) h.is ruled;
      }
