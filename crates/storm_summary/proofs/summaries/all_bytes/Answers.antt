-- The sum is that of the lines' bytes.
use Rattle.std.proofs.Common.{rules}
use Rattle.std.proofs.iter.runs.Sources.{sums}
use Rattle.storm_summary.proofs.summaries.all_bytes.Goals as goal

pub returns : goal.returns
returns c = search (rules, sums)
