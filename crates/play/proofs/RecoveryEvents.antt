-- What the own step of a primary, to whose dials all nodes that run answer, leaves of the others.
use Rattle.play_model.specs.declared.recoveries.Recovery.{Recovery}
use Rattle.play_model.specs.Recoveries.{all_answered, primary_events, recovery_events}
use Rattle.play_dues.specs.PlayPrimaries.Frames as primaries
use Rattle.play_dues.specs.PlayPrimaries.Owning.{step_events}
use Rattle.play_dues.specs.PlayReaders.Frames.{TakesNothing, KeepsNodes}
use Rattle.std.proofs.Common.{◌≡◌, ℕ, List, refl, subst}
use Rattle.world.specs.declared.events.Event.{Event}
use Rattle.world.specs.Events.{run}
use Rattle.world.specs.Parts as parts
use Rattle.world.specs.Worlds.{World}

-- The others are as they were, nothing was taken, and what nodes have stays.
pub record StaysSo (w v : World) (number : ℕ) : Type 0 where
  pub others : primaries.KeepsOthers w v number
  pub takes : TakesNothing w v
  pub nodes : KeepsNodes w v

same_events : (p : parts.Primary) (r : Recovery) → step_events p r (all_answered r.members) ≡ primary_events p r
same_events (parts.leads l) r = refl
same_events parts.no_primary r = refl
same_events (parts.was_told block told) r = refl
same_events (parts.has_led e) r = refl

pub recovery_kept : primaries.OwnStepsKeepOthers → primaries.OwnStepsKeepNodes → (w : World) (r : Recovery) → StaysSo w (run w (recovery_events w r)) r.primary
recovery_kept keeps keeps_nodes w r =
    let k = keeps w r (all_answered r.members) in
    subst (λ (es : List Event). StaysSo w (run w es) r.primary) (same_events (w.primaries r.primary) r) (record { others = k.0; takes = k.1; nodes = (keeps_nodes w r (all_answered r.members)).keeps })
