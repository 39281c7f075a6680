use Rattle.std.proofs.Common.{◌≡◌, take, drop}
use Rattle.chunk_sums.proofs.ahead.bring_down.Given as goal

abbrev pub invariant-loop-i : goal.invariant-loop-i
invariant-loop-i l = record {
  copied : take l.i l.buffer ≡ take l.i (drop 8064 l.initial.buffer);
  kept : drop l.i l.buffer ≡ drop l.i l.initial.buffer;
}
