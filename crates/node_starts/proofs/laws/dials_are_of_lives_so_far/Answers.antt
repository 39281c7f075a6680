-- The law is proved of definitions alone.
use Rattle.node_starts.proofs.LifeLemmas.{all_lived}
use Rattle.node_starts.proofs.laws.dials_are_of_lives_so_far.Goals as goal

pub returns : goal.returns
returns c = all_lived c.the_past_only_grows.ensures
