-- The second name isn't a metadata file's.
use Rattle.restart_scan.proofs.PairLemmas.{no_second}
use Rattle.restart_scan.proofs.pairs.places_of.Goals as goal

pub returns-in_default-sums_at : goal.returns-in_default-sums_at
returns-in_default-sums_at c = no_second c.args.block c.args.first.now c.args.second.now c.in_default-sums_at.ensures
