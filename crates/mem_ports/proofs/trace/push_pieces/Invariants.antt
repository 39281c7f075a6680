-- The bytes so far, and those of the pieces that are left, are all.
use Rattle.std.proofs.Common.{◌≡◌, ◌++◌, drop}
use Rattle.hd_base.specs.Lists.{joined}
use Rattle.mem_ports.specs.Pieces.{pieces_of}
use Rattle.mem_ports.proofs.trace.push_pieces.Given as goal

abbrev pub invariant-loop-piece : goal.invariant-loop-piece
invariant-loop-piece l =
    l.bytes.items ++ joined (pieces_of (drop l.piece-index l.pieces)) ≡ l.initial.bytes.items ++ joined (pieces_of l.pieces)
