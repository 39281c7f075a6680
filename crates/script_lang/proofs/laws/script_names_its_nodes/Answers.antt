-- The head tells the number of nodes, and each later line is held to it.
use Rattle.script_lang.proofs.WholeLaws.{names_its_nodes}
use Rattle.script_lang.proofs.laws.script_names_its_nodes.Goals as goal

pub returns : goal.returns
returns c shelves text lines s = names_its_nodes shelves text lines s
