-- A writer's own step that asks the office for nothing.
use Rattle.std.proofs.Common.{◌≡◌, ℕ, Bool, true, false, List, slice_get, Option, Some, None, refl, sym, ◌∙◌, ap, subst, ◌⊎◌, inl, inr}
use Rattle.std.specs.Prelude.{◌||◌, is_none, is_some}
use Rattle.std.proofs.lemmas.Bool.{false≢true}
use Rattle.hd_base.specs.declared.numbers.BlockId.{BlockId}
use Rattle.hd_base.specs.declared.numbers.Stamp.{Stamp}
use Rattle.writer_core.specs.declared.actions.Action.TheVariants as action
use Rattle.writer_core.specs.declared.commands.Command.{Command}
use Rattle.writer_core.specs.declared.phases.DuePacket.{DuePacket}
use Rattle.writer_core.specs.declared.phases.Phase.{Phase}
use Rattle.writer_core.specs.declared.phases.Phase.TheVariants as phase
use Rattle.writer_core.specs.declared.phases.Setup.{Setup}
use Rattle.writer_core.specs.declared.phases.Setup.TheVariants as setup
use Rattle.writer_core.specs.declared.phases.Waiting.{Waiting}
use Rattle.writer_core.specs.declared.phases.Waiting.TheVariants as waiting
use Rattle.writer_core.specs.declared.records.WriterRecord.{WriterRecord}
use Rattle.writer_core.specs.Transitions.{Step, step, take_first, free_step_as, free_step, accepted_step, reached_length, reach_step_as, due_now, due_step, stream_step_as, step_in, own_step, has_step, is_action, asks}
use Rattle.world.specs.Worlds.{World}
use Rattle.world_laws.proofs.FactTables.{and-left}
use Rattle.play_model.specs.declared.dues.Due.TheVariants as due
use Rattle.play_model.specs.States.{PlayState, world_of}
use Rattle.play_model.specs.Dues.{takes_due, is_due, action_of, after_due}
use Rattle.play_completeness.proofs.PlayLaws.Resting.{all-rest}
use Rattle.play_completeness.specs.Writers.{OpensWell, StreamsWell, WellIn, RestsWell}
use Rattle.play_completeness.specs.Played.{Played}
use Rattle.completing_writers.specs.Steps.{CommandsWell, is_asking, OwnStepsKeep}
use Rattle.completing_writers.proofs.Others.{Kept}
use Rattle.completing_writers.proofs.Answering.{past-end, create-answered, flush-answered}
use Rattle.completing_writers.proofs.Taken.{Queued, queued}
use Rattle.completing_writers.proofs.TakingCases.{streaming-taken, create-or-append}
use Rattle.completing_writers.proofs.SendingCases.{packet-sent}

module _ (p : PlayState) (commands : ℕ → List Command) (h : Played p commands) (b : BlockId) (fit : CommandsWell p.nodes (commands b.0)) (is : is_due (world_of p) p.queues (due.Own b) ≡ true) where
  abbrev w : World
  w = world_of p

  abbrev X : WriterRecord
  X = (w.writers b.0).known

  abbrev Keeps : Type 0
  Keeps = Kept p commands b

  -- a writer that waits for something, and whose step is to wait, has no step that is due
  waits-on : (y : Waiting) → X.waiting ≡ Some y → own_step X ≡ step action.Wait X → Keeps
  waits-on y at step_is =
      let idle : has_step X ≡ false = ap (λ (t : Step). is_action t.action) step_is in
      let due_so : takes_due (w.writers b.0) (p.queues b.0) ≡ true = sym (ap (λ (q : Bool). q || takes_due (w.writers b.0) (p.queues b.0)) idle) ∙ is in
      absurd (false≢true (ap (λ (o : Option Waiting). is_none o) (sym at) ∙ and-left (is_none X.waiting) (is_some (slice_get (p.queues b.0) 0)) due_so))

  -- the step of a writer that has nothing else to do
  free-waits : own_step X ≡ free_step X → (o : Option Waiting) → X.waiting ≡ o → own_step X ≡ step action.Wait X
  free-waits e (Some y) at = e ∙ ap (free_step_as X) at
  free-waits e None at = e ∙ (ap (free_step_as X) at ∙ ap (λ (l : List Command). take_first X (slice_get l 0)) (all-rest p.nodes p.events b.0).queue)

  queued-now : own_step X ≡ step action.Wait X → Queued X (p.queues b.0)
  queued-now e = queued (w.writers b.0) (p.queues b.0) (ap (λ (t : Step). is_action t.action) e) is

  waits-next : own_step X ≡ step action.Wait X → action_of w b ≡ action.Wait
  waits-next e = ap (λ (t : Step). t.action) e

  waits-idle : own_step X ≡ step action.Wait X → has_step X ≡ false
  waits-idle e = ap (λ (t : Step). is_action t.action) e

  -- ITS PHASES

  closed : X.phase ≡ phase.Closed → RestsWell w b.0 X X.intake.stand → Keeps
  unfolding own_step
  closed at rests =
      let e : own_step X ≡ step action.Wait X = free-waits (ap (step_in X) at) X.waiting refl in
      let q : Queued X (p.queues b.0) = queued-now e in
      create-or-append p commands h b fit q.first q.rest q.are (waits-next e) (waits-idle e) q.free at rests

  waiting-one : (q : Phase) → X.phase ≡ q → step_in X q ≡ free_step X → (y : Waiting) → X.waiting ≡ Some y → Keeps
  unfolding own_step
  waiting-one q at frees y waits = waits-on y waits (free-waits (ap (step_in X) at ∙ frees) X.waiting refl)

  streaming : (sent : ℕ) → X.phase ≡ phase.Streaming sent → StreamsWell w b.0 X sent → Keeps
  unfolding own_step
  streaming sent at well = go (due_now X) refl
    where
      reaches : due_now X ≡ None → (o : Option ℕ) → reached_length X.waiting X.stream ≡ o → Keeps
      reaches none (Some n) e = flush-answered p commands h b sent n at well none e
      reaches none None e =
          let s : own_step X ≡ free_step X = ap (step_in X) at ∙ (ap (stream_step_as X sent) (past-end X.stream.unacked sent well.sent_all) ∙ (ap (due_step X) none ∙ ap (reach_step_as X) e)) in
          let f : own_step X ≡ step action.Wait X = free-waits s X.waiting refl in
          let q : Queued X (p.queues b.0) = queued-now f in
          streaming-taken p commands h b fit q.first q.rest q.are (waits-next f) (waits-idle f) q.free sent at well

      go : (o : Option DuePacket) → due_now X ≡ o → Keeps
      go (Some d) e = packet-sent p commands h b sent at well d e
      go None e = reaches e (reached_length X.waiting X.stream) refl

  -- what is kept where the office is asked
  abbrev pub Asked : Type 0
  Asked = (q : Phase) → X.phase ≡ q → WellIn w b.0 X q → asks q ≡ true → is_asking (step_in X q).action ≡ true → Keeps

  accepted : Asked → (s : Setup) (stamp : Stamp) → X.phase ≡ phase.Accepted s stamp → OpensWell w b.0 X s → (s ≡ setup.Create) ⊎ (s ≡ setup.Append) → Keeps
  accepted asked s stamp at well (inl e) =
      create-answered p commands h b stamp (at ∙ ap (λ (k : Setup). phase.Accepted k stamp) e) (subst (OpensWell w b.0 X) e well)
  accepted asked s stamp at well (inr e) =
      asked (phase.Accepted s stamp) at well (subst (λ (k : Setup). asks (phase.Accepted k stamp) ≡ true) (sym e) refl) (subst (λ (k : Setup). is_asking (accepted_step X k stamp).action ≡ true) (sym e) refl)

  by-phase : Asked → (q : Phase) → X.phase ≡ q → WellIn w b.0 X q → Keeps
  by-phase asked phase.Closed at well = closed at well.1
  by-phase asked (phase.Wanted s) at well = asked (phase.Wanted s) at well refl refl
  by-phase asked (phase.Stamped s stamp) at well = absurd well
  by-phase asked (phase.Requested s stamp) at well = waiting-one (phase.Requested s stamp) at refl waiting.Opening well.waits
  by-phase asked (phase.Accepted s stamp) at well = accepted asked s stamp at well well.opens
  by-phase asked phase.Opened at well = absurd well
  by-phase asked (phase.Streaming sent) at well = streaming sent at well
  by-phase asked phase.Closing at well = waiting-one phase.Closing at refl waiting.Close well.waits
  by-phase asked phase.Finished at well = asked phase.Finished at well refl refl
  by-phase asked phase.Completed at well = absurd well
  by-phase asked (phase.Failed f) at well = absurd well

  pub keeps-played : Asked → Keeps
  keeps-played asked = by-phase asked X.phase refl (h.writers b.0).phase_is

  -- where it isn't asked
  pub asks-not : is_asking (action_of w b) ≡ false → Asked
  unfolding own_step
  asks-not none q at well one some = absurd (false≢true (sym none ∙ (ap (λ (y : Phase). is_asking (step_in X y).action) at ∙ some)))

pub own-steps-keep : OwnStepsKeep
unfolding after_due
own-steps-keep p commands b h is none =
    let k = keeps-played p commands h.played b (h.fit b.0) is (asks-not p commands h.played b (h.fit b.0) is none) in
    record { played = k.0; unused = k.1 ∙ h.unused; few = h.few; fit = h.fit }
