-- By how the refusal went up.
use Rattle.pipe_member.proofs.SetupStepLemmas.{refusals_step}
use Rattle.pipe_member.proofs.laws.refusals_are_steps.Goals as goal

pub returns : goal.returns
returns g c = refusals_step g.O.LinkOut
