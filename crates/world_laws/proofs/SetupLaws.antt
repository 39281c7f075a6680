-- What was answered, and the replicas of steady nodes.
use Rattle.std.proofs.Common.{ℕ, inl, inr, List, arith}
use Rattle.world.specs.declared.events.Event.{Event}
use Rattle.world.specs.Worlds.{World, start}
use Rattle.world.specs.Events.{run}
use Rattle.world_laws.specs.Stamping.{Givens, none_given, given_in, Recorded}
use Rattle.world_laws.proofs.AllRecorded.{all-recorded}
use Rattle.world_laws.specs.Joining.{AtLeast, IsOfBlock, SetUps, AnsweredReach}
use Rattle.world_laws.proofs.AllSetUp.{all-set}

answered-reach : (g : Givens) (w : World) → Recorded g w → SetUps g w → AnsweredReach w
answered-reach g w i h a n answered steady = go (h.answers a answered)
  where
    go : IsOfBlock g a → AtLeast (w.replicas n a.block).known.info a.stamp
    go (inl e) =
        let x = h.given a.stamp n (w.lives n) steady.joins in
        absurd (omega (arith, e, i.above x.block a.stamp x.session x.is))
    go (inr x) = (h.reached n a.block).least a.stamp (w.lives n) x.0 steady.joins x.1

pub all-reach : (nodes : ℕ) (events : List Event) → AnsweredReach (run (start nodes) events)
all-reach nodes events = answered-reach (given_in none_given (start nodes) events) (run (start nodes) events) (all-recorded nodes events) (all-set nodes events)
