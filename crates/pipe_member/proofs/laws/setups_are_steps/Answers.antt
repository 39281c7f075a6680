-- By how the setup up to the answer ended.
use Rattle.pipe_member.proofs.SetupStepLemmas.{setups_step}
use Rattle.pipe_member.proofs.laws.setups_are_steps.Goals as goal

pub returns : goal.returns
returns g c = setups_step g.F.Files g.R.Roads g.R.Inward.LinkIn g.R.Outward.LinkOut
