-- A book within the blocks is one of its node's.
use Rattle.node_opening.proofs.CloseLemmas.{fit_each}
use Rattle.node_opening.proofs.laws.fitting_books_are_of_blocks.Goals as goal

pub returns : goal.returns
returns g c = λ blocks nodes node x fit here. fit_each blocks nodes node x fit here
