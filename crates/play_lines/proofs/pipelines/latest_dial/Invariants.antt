-- The latest of those that were looked at.
use Rattle.std.proofs.Common.{◌≡◌}
use Rattle.play_lines.specs.Pipelines.{number_of, latest_in}
use Rattle.play_lines.proofs.pipelines.latest_dial.Given as goal

abbrev pub invariant-loop-index : goal.invariant-loop-index
invariant-loop-index g l = record { so : number_of l.latest ≡ latest_in l.nodes.connections.items l.block.0 l.index }
