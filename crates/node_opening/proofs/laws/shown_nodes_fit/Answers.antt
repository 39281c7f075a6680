-- Each book shows the replica of its block.
use Rattle.node_opening.proofs.OpenLemmas.{shown_fit}
use Rattle.node_opening.proofs.laws.shown_nodes_fit.Goals as goal

pub returns : goal.returns
returns g c = λ w net n filled shows. shown_fit g.I.LinkIn g.O.LinkOut w net n filled shows
