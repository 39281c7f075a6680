-- The law is proved of definitions alone.
use Rattle.world_primaries.proofs.DialLemmas.{all_dials_make_ends}
use Rattle.world_primaries.proofs.laws.all_dials_make_ends.Goals as goal

pub returns : goal.returns
returns g c = all_dials_make_ends g.R.Roads g.R.Inward.LinkIn g.R.Outward.LinkOut
