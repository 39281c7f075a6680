-- By how the first call ended, and then the second.
use Rattle.pipe_member.proofs.ResumptionLemmas.{resumptions_step}
use Rattle.pipe_member.proofs.laws.resumptions_are_steps.Goals as goal

pub returns : goal.returns
returns g c = resumptions_step g.F.Files g.R.Roads g.R.Inward.LinkIn g.R.Outward.LinkOut
