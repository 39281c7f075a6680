-- The bytes so far, and those of the trace entries that are left, are all.
use Rattle.std.proofs.Common.{◌≡◌, ◌++◌, drop}
use Rattle.mem_ports.specs.Traces.{carried_of}
use Rattle.mem_ports.proofs.trace.bytes_carried.Given as goal

abbrev pub invariant-loop-entry : goal.invariant-loop-entry
invariant-loop-entry l =
    l.bytes.items ++ carried_of (drop l.entry-index l.trace) l.conn.0 l.down ≡ carried_of l.trace l.conn.0 l.down
