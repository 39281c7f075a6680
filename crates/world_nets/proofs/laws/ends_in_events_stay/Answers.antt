use Rattle.world_nets.proofs.EndLemmas.{stays-event}
use Rattle.world_nets.proofs.laws.ends_in_events_stay.Goals as goal

pub returns : goal.returns
returns g c = stays-event g.R.Roads g.R.Inward.LinkIn g.R.Outward.LinkOut
