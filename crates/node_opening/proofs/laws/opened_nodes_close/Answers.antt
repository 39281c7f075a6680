-- Nodes that were opened can be closed.
use Rattle.node_opening.proofs.OpenLemmas.{opened_close}
use Rattle.node_opening.proofs.laws.opened_nodes_close.Goals as goal

pub returns : goal.returns
returns g c = λ blocks old new n h. opened_close g.S.Shelf g.S.Drawer.Files blocks old new n h
