-- What an exchange is to give the inward half.
use Rattle.std.specs.Prelude.{◌≡◌, ◌≢◌, ◌⊎◌, ℕ, ◌&&◌, ◌==◌, Bool, true, false, cond, Option, Some, None, IsSome}
use Rattle.hd_base.specs.declared.ends.Standing.{Standing}
use Rattle.hd_base.specs.declared.ends.Standing.TheVariants as standing
use Rattle.fault_ports.specs.declared.piece_counts.PieceCount.{PieceCount}
use Rattle.fault_ports.specs.declared.offers.Offer.{Offer}
use Rattle.fault_ports.specs.declared.offers.Offer.TheVariants as offer
use Rattle.fault_ports.specs.PieceCounts.{taken_count}

-- the roads themselves are to give it what stands there
abbrev pub passes : Offer → Bool
passes offer.Nothing = false
passes offer.Rest = true
passes offer.Piece = true
passes offer.End = false

-- the offer is the end of a cut
abbrev pub is_end : Offer → Bool
is_end offer.Nothing = false
is_end offer.Rest = false
is_end offer.Piece = false
is_end offer.End = true

-- the count of a direction after what was offered was given there
abbrev pub count_given : Offer → PieceCount → PieceCount
count_given offer.Nothing count = count
count_given offer.Rest count = count
count_given offer.Piece count = taken_count count
count_given offer.End count = count

-- What is offered to a half that is hungry, or not, where this stands next on the roads themselves, and so many pieces may still be taken.
abbrev pub OffersNext : Offer → Bool → Bool → Standing → Option ℕ → Type 0
OffersNext offer.Nothing take hungry next left = (take && hungry) ≡ false
OffersNext offer.Rest take hungry next left = (take ≡ true) × (left ≡ None) × (next ≢ standing.Piece)
OffersNext offer.Piece take hungry next left = (take ≡ true) × (hungry ≡ true) × (left ≢ Some 0) ×
    (next ≡ standing.Piece)
OffersNext offer.End take hungry next left = (take ≡ true) × IsSome left × ((left ≡ Some 0) ⊎ (next ≢ standing.Piece))

-- a piece, or else the end of a cut
abbrev pub piece_or_end : Standing → Standing
piece_or_end standing.Piece = standing.Piece
piece_or_end standing.End = standing.End
piece_or_end standing.Nothing = standing.End

-- what is seen to stand next where this does on the roads themselves, and so many pieces may still be taken
abbrev pub seen_next : Standing → Option ℕ → Standing
seen_next next None = next
seen_next next (Some left) = cond (left == 0) standing.End (piece_or_end next)
