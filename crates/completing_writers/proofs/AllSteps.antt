-- A writer's own step, in which it asks the office or not.
use Rattle.std.proofs.Common.{◌≡◌, ℕ, true, List, sym, ◌∙◌, ap, subst, ◌⊎◌, inl, inr}
use Rattle.std.proofs.lemmas.Bool.{false≢true}
use Rattle.hd_base.specs.declared.numbers.BlockId.{BlockId}
use Rattle.hd_base.specs.declared.numbers.Stamp.{Stamp}
use Rattle.writer_core.specs.declared.commands.Command.{Command}
use Rattle.writer_core.specs.declared.phases.Phase.{Phase}
use Rattle.writer_core.specs.declared.phases.Phase.TheVariants as phase
use Rattle.writer_core.specs.declared.phases.Setup.{Setup}
use Rattle.writer_core.specs.declared.phases.Setup.TheVariants as setup
use Rattle.writer_core.specs.declared.records.WriterRecord.{WriterRecord}
use Rattle.writer_core.specs.Transitions.{step_in, asks}
use Rattle.world.specs.Worlds.{World}
use Rattle.play_model.specs.States.{PlayState, world_of}
use Rattle.play_model.specs.Dues.{after_due}
use Rattle.play_completeness.specs.Writers.{OpensWell, WellIn}
use Rattle.play_completeness.specs.Played.{Played}
use Rattle.completing_writers.specs.Steps.{PlaysWell, is_asking, AllOwnStepsKeep}
use Rattle.completing_writers.proofs.Others.{Kept}
use Rattle.completing_writers.proofs.Completing.{close-answered}
use Rattle.completing_writers.proofs.Creating.{create-asked}
use Rattle.completing_writers.proofs.Appending.{append-asked}
use Rattle.completing_writers.proofs.Committing.{append-committed}
use Rattle.completing_writers.proofs.OwnSteps.{keeps-played}

module _ (p : PlayState) (commands : ℕ → List Command) (x : PlaysWell p commands) (b : BlockId) where
  abbrev w : World
  w = world_of p

  abbrev X : WriterRecord
  X = (w.writers b.0).known

  abbrev h : Played p commands
  h = x.played

  wanted : (s : Setup) → X.phase ≡ phase.Wanted s → WellIn w b.0 X (phase.Wanted s) → Kept p commands b
  wanted setup.Create at well = create-asked p commands x b at well.0 well.1 well.2
  wanted setup.Append at well = append-asked p commands x b at well.0 well.1 well.2
  wanted setup.AppendRecovery at well = absurd well.2
  wanted setup.StreamRecovery at well = absurd well.2
  wanted setup.CloseRecovery at well = absurd well.2

  accepted : (s : Setup) (stamp : Stamp) → X.phase ≡ phase.Accepted s stamp → OpensWell w b.0 X s → asks (phase.Accepted s stamp) ≡ true → (s ≡ setup.Create) ⊎ (s ≡ setup.Append) → Kept p commands b
  accepted s stamp at well one (inl e) = absurd (false≢true (ap (λ (k : Setup). asks (phase.Accepted k stamp)) (sym e) ∙ one))
  accepted s stamp at well one (inr e) = append-committed p commands h b stamp (at ∙ ap (λ (k : Setup). phase.Accepted k stamp) e) (subst (OpensWell w b.0 X) e well)

  asked : (q : Phase) → X.phase ≡ q → WellIn w b.0 X q → asks q ≡ true → is_asking (step_in X q).action ≡ true → Kept p commands b
  asked (phase.Wanted s) at well one some = wanted s at well
  asked phase.Finished at well one some = close-answered p commands h b at well
  asked (phase.Accepted s stamp) at well one some = accepted s stamp at well one well.opens
  asked phase.Closed at well one some = absurd (false≢true one)
  asked (phase.Stamped s stamp) at well one some = absurd well
  asked (phase.Requested s stamp) at well one some = absurd (false≢true one)
  asked phase.Opened at well one some = absurd well
  asked (phase.Streaming sent) at well one some = absurd (false≢true one)
  asked phase.Closing at well one some = absurd (false≢true one)
  asked phase.Completed at well one some = absurd well
  asked (phase.Failed f) at well one some = absurd well

pub all-steps-keep : AllOwnStepsKeep
unfolding after_due
all-steps-keep p commands b x is =
    let k = keeps-played p commands x.played b (x.fit b.0) is (asked p commands x b) in
    record { played = k.0; unused = k.1 ∙ x.unused; few = x.few; fit = x.fit }
