-- The block was lent.
use Rattle.std.proofs.Common.{ℕ, Bool, ap}
use Rattle.opening_tests.proofs.opening.a_file_is_named.Goals as goal

pub give_back-requires : goal.give_back-requires
give_back-requires g c = ap (λ (f : ℕ → Bool). f 5) c.in_ok-drawer.ensures.lent
