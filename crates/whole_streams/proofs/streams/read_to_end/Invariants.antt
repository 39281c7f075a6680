-- What was read so far was taken, within the limit, and each byte is one fewer to come.
use Rattle.std.proofs.Common.{◌≡◌, ◌-◌, ◌≤◌, vec_len}
use Rattle.hd_base.specs.Streams.{Took}
use Rattle.whole_streams.specs.Streams.{NoneFails}
use Rattle.whole_streams.proofs.streams.read_to_end.Given as goal

abbrev pub invariant-reads : goal.invariant-reads
invariant-reads g l = record {
  few : vec_len l.bytes ≤ l.limit;
  taken : Took (g.S.Source.left l.initial.source) (g.S.Source.left l.source) l.bytes.items;
  never_falls : g.S.Source.faults l.initial.source ≤ g.S.Source.faults l.source;
  still : NoneFails (g.S.Source.schedule l.initial.source) → g.S.Source.faults l.source ≡ g.S.Source.faults l.initial.source;
  goes_on : NoneFails (g.S.Source.schedule l.initial.source) → NoneFails (g.S.Source.schedule l.source);
}

abbrev pub decreases-reads : goal.decreases-reads
decreases-reads g l = l.limit - vec_len l.bytes
