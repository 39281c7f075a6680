-- The law is proved of definitions alone.
use Rattle.node_restarts.proofs.LawLemmas.{new_unbroken}
use Rattle.node_restarts.proofs.laws.new_books_are_unbroken.Goals as goal

pub returns : goal.returns
returns g c = λ x block n none. new_unbroken g.F.Files x block n none
