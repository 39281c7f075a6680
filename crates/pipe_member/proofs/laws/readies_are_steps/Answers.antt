-- By what the member found and took.
use Rattle.pipe_member.proofs.EventStepLemmas.{readies_step}
use Rattle.pipe_member.proofs.laws.readies_are_steps.Goals as goal

pub returns : goal.returns
returns g c = readies_step g.F.Files g.O.LinkOut
