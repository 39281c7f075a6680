-- What is left to go leads from here to the place.
use Rattle.std.proofs.Common.{◌≡◌, ◌-◌, Some}
use Rattle.play_lines.specs.Pipelines.{number_of, conn_at}
use Rattle.play_lines.proofs.pipelines.connection_behind.Given as goal

abbrev pub invariant-loop : goal.invariant-loop
invariant-loop g l = record {
  behind : conn_at l.nodes.connections.items (l.place - l.counter) (Some l.conn.0) ≡ conn_at l.nodes.connections.items l.place (number_of l.fn.first);
}
