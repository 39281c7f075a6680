-- What was written so far is a front of the text, and each byte is one fewer to write.
use Rattle.std.proofs.Common.{◌≡◌, ◌+◌, ◌-◌, ◌<◌, ◌≤◌, length, take}
use Rattle.hd_base.specs.Streams.{Wrote}
use Rattle.whole_streams.specs.Streams.{NoneFails}
use Rattle.whole_streams.proofs.streams.write_all.Given as goal

abbrev pub invariant-writes : goal.invariant-writes
invariant-writes g l = record {
  within : l.at ≤ length l.text;
  wrote : Wrote (g.O.Sink.written l.initial.sink) (g.O.Sink.written l.sink) (take l.at l.text);
  room : length l.text < g.O.Sink.room l.sink + l.at;
  never_falls : g.O.Sink.faults l.initial.sink ≤ g.O.Sink.faults l.sink;
  still : NoneFails (g.O.Sink.schedule l.initial.sink) → g.O.Sink.faults l.sink ≡ g.O.Sink.faults l.initial.sink;
  goes_on : NoneFails (g.O.Sink.schedule l.initial.sink) → NoneFails (g.O.Sink.schedule l.sink);
}

abbrev pub decreases-writes : goal.decreases-writes
decreases-writes g l = length l.text - l.at
