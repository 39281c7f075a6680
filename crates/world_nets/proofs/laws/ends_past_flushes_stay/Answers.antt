use Rattle.world_nets.proofs.EndLemmas.{stays-past}
use Rattle.world_nets.proofs.laws.ends_past_flushes_stay.Goals as goal

pub returns : goal.returns
returns g c = stays-past g.R.Roads g.R.Inward.LinkIn g.R.Outward.LinkOut
