use Rattle.world_nets.proofs.DialLemmas.{ends-made}
use Rattle.world_nets.proofs.laws.dials_make_ends.Goals as goal

pub returns : goal.returns
returns g c = ends-made g.R.Roads g.R.Inward.LinkIn g.R.Outward.LinkOut
