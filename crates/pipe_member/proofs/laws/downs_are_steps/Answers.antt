-- By what the member found and took.
use Rattle.pipe_member.proofs.EventStepLemmas.{downs_step}
use Rattle.pipe_member.proofs.laws.downs_are_steps.Goals as goal

pub returns : goal.returns
returns g c = downs_step g.F.Files g.I.LinkIn g.O.LinkOut
