-- Bytes behind bytes.
use Rattle.std.proofs.Common.{ℕ, List, [], ◌∷◌, ◌++◌}
use Rattle.hd_base.specs.Bytes.{IsBytes}
use Rattle.hd_base.proofs.ByteLaws.{IsBytes-behind, IsBytes-cons}

pub IsBytes-append : (a b : List ℕ) → IsBytes a → IsBytes b → IsBytes (a ++ b)
IsBytes-append [] b one two = two
IsBytes-append (x ∷ a) b one two = IsBytes-cons x (a ++ b) (one 0) (IsBytes-append a b (IsBytes-behind x a one) two)
