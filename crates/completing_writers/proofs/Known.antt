-- What is known of a writer between the things that are due, from what is so after every list of events.
use Rattle.std.proofs.Common.{◌≡◌, ℕ, ◌<◌, ◌≤◌, Bool, true, false, List, length, Option, Some, None, refl, sym, ◌∙◌, ap, subst, arith, eqb-true}
use Rattle.std.specs.Prelude.{◌==◌}
use Rattle.std.proofs.lemmas.Bool.{false≢true}
use Rattle.name_core.specs.declared.records.BlockRecord.{BlockRecord}
use Rattle.name_core.specs.Offices.{record_of}
use Rattle.packet_stream.specs.Streams.{written_in}
use Rattle.writer_core.specs.declared.phases.Phase.{Phase}
use Rattle.writer_core.specs.declared.phases.Phase.TheVariants as phase
use Rattle.writer_core.specs.declared.records.WriterRecord.{WriterRecord}
use Rattle.writer_core.specs.Sound.{Sound}
use Rattle.world.specs.declared.events.Event.{Event}
use Rattle.world.specs.Worlds.{World, start}
use Rattle.world.specs.Events.{run}
use Rattle.world_laws.specs.Stamping.{Givens, none_given, given_in, known_heard, heard, NoLast, InPhase, Entries, HeldOf, Recorded}
use Rattle.world_laws.specs.Carrying.{StreamOf, Streams, WriterSays}
use Rattle.world_laws.specs.Sessions.{told_stamp}
use Rattle.world_laws.proofs.Agreements.{office-and-writer-agree}
use Rattle.world_laws.proofs.AllCarried.{all-carried}
use Rattle.world_laws.proofs.AllRecorded.{all-recorded}
use Rattle.play_completeness.proofs.WorldOrders.Kept.{eqb-itself}
use Rattle.play_model.specs.Laws.{IsQuiet}
use Rattle.completing_writers.proofs.Leaving.{Apart, add-else}

pub not-same : (i k : ℕ) → (i ≡ k → ⊥) → (i == k) ≡ false
not-same i k other = go (i == k) refl
  where
    go : (q : Bool) → (i == k) ≡ q → (i == k) ≡ false
    go false e = e
    go true e = absurd (other (eqb-true i k e))

module _ (nodes : ℕ) (events : List Event) (quiet : IsQuiet (run (start nodes) events)) (b : ℕ) where
  abbrev w : World
  w = run (start nodes) events

  abbrev X : WriterRecord
  X = (w.writers b).known

  abbrev g : Givens
  g = given_in none_given (start nodes) events

  recorded : Recorded g w
  recorded = all-recorded nodes events

  pub heard-is : heard (w.writers b) ≡ X
  heard-is = ap (known_heard X) (quiet b)

  says : WriterSays g w.past b (w.latest b) (w.writers b)
  says = (all-carried nodes events).writers b

  pub sound : Sound X
  sound = subst Sound heard-is says.sound

  pub block-is : X.block ≡ record { 0 = b }
  block-is = sym (ap (λ (x : WriterRecord). x.block) heard-is) ∙ recorded.writers b

  -- what office and writer hold of a block that is known
  pub entries : (r : BlockRecord) → record_of w.office (record { 0 = b }) ≡ Some r → Entries (g b) (w.latest b) r X
  entries r is =
      subst (λ (x : WriterRecord). HeldOf (g b) (w.latest b) (Some r) x) heard-is
      (subst (λ (o : Option BlockRecord). HeldOf (g b) (w.latest b) o (heard (w.writers b))) is (recorded.blocks b))

  -- a block that isn't known has no session
  pub unknown-latest : record_of w.office (record { 0 = b }) ≡ None → w.latest b ≡ 0
  unknown-latest none = (subst (λ (o : Option BlockRecord). HeldOf (g b) (w.latest b) o (heard (w.writers b))) none (recorded.blocks b)).0

  -- the stamp that the writer knows is the one that the office has committed
  pub agrees : (r : BlockRecord) → record_of w.office (record { 0 = b }) ≡ Some r → r.recovery ≡ None → X.committed ≡ r.committed
  agrees r is free = sym (ap (told_stamp X) (quiet b)) ∙ office-and-writer-agree nodes events b r is free

  -- no session is later than the stamps that were given
  pub latest-below : (k : ℕ) → w.latest k < w.office.next.0
  latest-below k = go (record_of w.office (record { 0 = k })) (recorded.blocks k)
    where
      go : (o : Option BlockRecord) → HeldOf (g k) (w.latest k) o (heard (w.writers k)) → w.latest k < w.office.next.0
      go None h = let zero_is : w.latest k ≡ 0 = h.0 in let first : 1 ≤ w.office.next.0 = recorded.first in omega (arith, zero_is, first)
      go (Some s) h = recorded.below k (w.latest k) (w.latest k) h.office.begins

  pub first-stamp : 1 ≤ w.office.next.0
  first-stamp = recorded.first

  -- so it is with the committed stamp
  pub committed-below : (r : BlockRecord) → record_of w.office (record { 0 = b }) ≡ Some r → r.committed.0 < w.office.next.0
  committed-below r is = recorded.below b r.committed.0 (entries r is).base (entries r is).office.committed

  -- the latest session began with a stamp of the block
  pub begins : (r : BlockRecord) → record_of w.office (record { 0 = b }) ≡ Some r → g b (w.latest b) ≡ Some (w.latest b)
  begins r is = (entries r is).office.begins

  -- what is written in the session is what the stream has
  stream-of : (q : Phase) → X.phase ≡ q → Streams says.own X.stream q
  stream-of q at = subst (λ (y : Phase). Streams says.own X.stream y) at (subst (λ (x : WriterRecord). Streams says.own x.stream x.phase) heard-is says.streams)

  whole : (r : BlockRecord) → record_of w.office (record { 0 = b }) ≡ Some r → StreamOf says.own X.stream → length (w.written (w.latest b)) ≡ written_in X.stream
  whole r is s = ap (λ (l : List ℕ). length l) (sym (says.are (begins r is))) ∙ s.carries.whole

  pub streaming-whole : (r : BlockRecord) (sent : ℕ) → record_of w.office (record { 0 = b }) ≡ Some r → X.phase ≡ phase.Streaming sent → length (w.written (w.latest b)) ≡ written_in X.stream
  streaming-whole r sent is at = whole r is (stream-of (phase.Streaming sent) at)

  pub finished-whole : (r : BlockRecord) → record_of w.office (record { 0 = b }) ≡ Some r → X.phase ≡ phase.Finished → length (w.written (w.latest b)) ≡ written_in X.stream
  finished-whole r is at = whole r is (stream-of phase.Finished at)

  -- none of the packets that aren't acked is the last one
  pub none-last : (r : BlockRecord) (sent : ℕ) → record_of w.office (record { 0 = b }) ≡ Some r → X.phase ≡ phase.Streaming sent → NoLast X.stream.unacked
  none-last r sent is at =
      (subst (λ (q : Phase). InPhase (g b) (w.latest b) r.recovery X.committed X.waiting X.stream.unacked q) at (entries r is).writer.fits).1

  -- The latest session of another block is another one.
  latest-other : (r : BlockRecord) → record_of w.office (record { 0 = b }) ≡ Some r → (k : ℕ) → (k == b) ≡ false → w.latest k ≡ w.latest b → ⊥
  latest-other r is k other same = go (record_of w.office (record { 0 = k })) (recorded.blocks k)
    where
      go : (o : Option BlockRecord) → HeldOf (g k) (w.latest k) o (heard (w.writers k)) → ⊥
      go None h =
          let one : 1 ≤ w.latest b = recorded.above b (w.latest b) (w.latest b) (begins r is) in
          let zero_is : w.latest k ≡ 0 = h.0 in
          absurd (omega (arith, one, zero_is, same))
      go (Some s) h =
          let here : g k (w.latest b) ≡ Some (w.latest k) = subst (λ (t : ℕ). g k t ≡ Some (w.latest k)) same h.office.begins in
          let both : b ≡ k = recorded.one b k (w.latest b) (w.latest b) (w.latest k) (begins r is) here in
          false≢true (sym other ∙ subst (λ (i : ℕ). (k == i) ≡ true) (sym both) (eqb-itself k))

  -- so what is written there stays
  pub apart : (r : BlockRecord) → record_of w.office (record { 0 = b }) ≡ Some r → (bytes : List ℕ) → Apart w b (w.latest b) bytes
  apart r is bytes = record {
    others = λ k other. add-else w.written (w.latest b) bytes (w.latest k) (not-same (w.latest k) (w.latest b) (latest-other r is k other));
    unused = add-else w.written (w.latest b) bytes 0 (not-same 0 (w.latest b) (λ e. above e));
  }
    where
      above : 0 ≡ w.latest b → ⊥
      above e =
          let one : 1 ≤ w.latest b = recorded.above b (w.latest b) (w.latest b) (begins r is) in
          omega (arith, one, e)
