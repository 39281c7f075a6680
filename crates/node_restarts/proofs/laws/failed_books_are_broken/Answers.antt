-- The law is proved of definitions alone.
use Rattle.node_restarts.proofs.LawLemmas.{failed_broken}
use Rattle.node_restarts.proofs.laws.failed_books_are_broken.Goals as goal

pub returns : goal.returns
returns g c = λ old new e receipt ruled book ends. failed_broken g.F.Files old new e receipt ruled book ends
