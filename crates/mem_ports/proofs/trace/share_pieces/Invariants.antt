-- The pieces so far, and those that are left, are all.
use Rattle.std.proofs.Common.{◌≡◌, ◌++◌, drop}
use Rattle.mem_ports.specs.Pieces.{pieces_of}
use Rattle.mem_ports.proofs.trace.share_pieces.Given as goal

abbrev pub invariant-loop-piece : goal.invariant-loop-piece
invariant-loop-piece l = pieces_of l.shared.items ++ pieces_of (drop l.piece-index l.pieces) ≡ pieces_of l.pieces
