-- All blocks were lent.
use Rattle.node_opening.proofs.StandLemmas.{opened_stand}
use Rattle.node_opening.proofs.laws.opened_nodes_stand.Goals as goal

pub returns : goal.returns
returns g c = λ blocks old new n distinct h. opened_stand g.S.Shelf g.S.Drawer.Files blocks old new n distinct h
