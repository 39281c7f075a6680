use Rattle.world_nets.proofs.ChangeLemmas.{changed_so}
use Rattle.world_nets.proofs.laws.changes_are_rows.Goals as goal

pub returns : goal.returns
returns c = changed_so
