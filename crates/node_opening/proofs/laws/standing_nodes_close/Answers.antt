-- What is lent is given back, and the counts go on.
use Rattle.node_opening.proofs.StandLemmas.{standing_close}
use Rattle.node_opening.proofs.laws.standing_nodes_close.Goals as goal

pub returns : goal.returns
returns g c = λ before now n h. standing_close g.S.Shelf g.S.Drawer.Files before now n h
