-- By the laws of the kind.
use Rattle.told_shelves.proofs.laws.told_shelves_tell.Goals as goal

pub returns : goal.returns
returns g c = λ told. record { shelves = g.met.S.ToldShelf.shelves_tell told; drawers = g.met.S.ToldShelf.drawers_tell told }
