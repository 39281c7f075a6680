-- Shelves that were given back what they lent lend no block that they didn't before.
use Rattle.std.proofs.Common.{List}
use Rattle.hd_base.specs.declared.shelves.Shelf as shelves
use Rattle.play_report.specs.NodeOpening.Shelves.{EachShelf, LendsNoMore, IsGivenBack}

module _ {S D : Type 0} (s : shelves.Ghosts S D) where
  pub given_lends : (old new : List S) → EachShelf (IsGivenBack s) old new → EachShelf (LendsNoMore s) old new
  given_lends old new h = record { count = h.count; each = λ k a b at at'. (h.each k a b at at').lent }
