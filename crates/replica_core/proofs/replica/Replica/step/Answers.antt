-- Every event keeps the replica sound, and a refusal changes nothing.
use Rattle.std.proofs.Common.{subst, sym, ap, ◌∙◌}
use Rattle.replica_core.specs.Transitions.{answer_of}
use Rattle.replica_core.specs.Sound.{Sound}
use Rattle.replica_core.proofs.SoundLemmas.{kept}
use Rattle.replica_core.proofs.TransitionLemmas.{stays}
use Rattle.replica_core.proofs.replica.Replica.step.Goals as goal

pub invariant_of-self : goal.invariant_of-self
invariant_of-self c = subst Sound (sym c.take.ensures.replica) (kept c.self.inside.known c.args.event.now c.self.invariant)

pub returns-clause-sound : goal.returns-clause-sound
returns-clause-sound c = subst Sound (sym c.take.ensures.replica) (kept c.self.inside.known c.args.event.now c.self.invariant)

pub returns-clause-refused : goal.returns-clause-refused
returns-clause-refused c =
    λ e q. c.take.ensures.replica ∙ stays c.self.inside.known c.args.event.now e (sym (c.answered.ensures ∙ ap answer_of c.take.ensures.answer) ∙ q) ∙ c.self.view_is
