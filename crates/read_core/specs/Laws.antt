-- The laws of reads.
use Rattle.std.specs.Prelude.{ℕ, zero, suc, ◌≡◌, ◌+◌, ◌≤◌, ◌<◌, ◌^◌, List, length}
use Rattle.hd_base.specs.SumRules.{Rule}
use Rattle.op_headers.specs.declared.ops.ReadOp.{ReadOp}
use Rattle.read_core.specs.declared.reading.FromNode.{FromNode}
use Rattle.read_core.specs.declared.reading.ReadTurn.TheVariants as turn
use Rattle.read_core.specs.Servings.{ServingState, begun, sent, piece_len}
use Rattle.read_core.specs.Readings.{ReadTaken, asked, take_from, after_all}

-- a read after so many packets
abbrev pub after : ServingState → ℕ → ServingState
after s zero = s
after s (suc n) = sent (after s n)

-- Each packet of a read ends at or before what was visible at its start, where the read asks for no more.
abbrev pub StaysVisible : Type 0
StaysVisible = (op : ReadOp) (rule : Rule) (visible n : ℕ) → op.offset + op.len ≤ visible →
    (after (begun op rule visible) n).at + piece_len (after (begun op rule visible) n) ≤ visible

-- what the reader makes of the last of some things that it takes
abbrev pub last_taken : ReadOp → List FromNode → FromNode → ReadTaken
last_taken op before last = take_from (after_all (asked op) before) last

-- Whatever the node sends, a read that is verified has as many bytes as were asked for.
abbrev pub VerifiedIsWhole : Type 0
VerifiedIsWhole = (op : ReadOp) (before : List FromNode) (last : FromNode) → op.offset + op.len < 2 ^ 64 →
    (last_taken op before last).does ≡ turn.Verified → length (last_taken op before last).reading.bytes ≡ op.len
