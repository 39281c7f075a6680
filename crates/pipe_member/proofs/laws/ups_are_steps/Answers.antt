-- By what the member found and took.
use Rattle.pipe_member.proofs.EventStepLemmas.{ups_step}
use Rattle.pipe_member.proofs.laws.ups_are_steps.Goals as goal

pub returns : goal.returns
returns g c = ups_step g.F.Files g.I.LinkIn g.O.LinkOut
