use Rattle.world_nets.proofs.EndLemmas.{stays}
use Rattle.world_nets.proofs.laws.ends_elsewhere_stay.Goals as goal

pub returns : goal.returns
returns g c = stays g.R.Roads g.R.Inward.LinkIn g.R.Outward.LinkOut
