-- Worlds in which what was on its way was lost.
use Rattle.world_cuts.proofs.CutLemmas.{net_cut}
use Rattle.world_cuts.proofs.laws.cuts_are_losses.Goals as goal

pub returns : goal.returns
returns c = net_cut
