-- There is room for what is left, which with what was taken is the piece, and it has fewer bytes each time.
use Rattle.std.proofs.Common.{◌≡◌, ◌+◌, ◌<◌, ◌⊎◌, length, None}
use Rattle.link_pieces.specs.Pieces.{KeepsHalf}
use Rattle.link_pieces.proofs.sending.send_rest.Given as goal

abbrev pub invariant-pieces : goal.invariant-pieces
invariant-pieces g l = record {
  room : (length l.rest ≡ 0) ⊎ (length l.rest < g.O.LinkOut.room l.outward);
  hidden : g.O.LinkOut.sent l.initial.outward ≡ None → g.O.LinkOut.sent l.outward ≡ None;
  whole : l.taken + length l.rest ≡ length l.piece;
  kept : KeepsHalf g.O.LinkOut l.initial.outward l.outward;
}

abbrev pub decreases-pieces : goal.decreases-pieces
decreases-pieces g l = length l.rest
