use Rattle.replica_core.proofs.TransitionLemmas.{seen, broken_unread}
use Rattle.replica_core.proofs.laws.readers_see_the_visible.Goals as goal

pub returns-clause-none : goal.returns-clause-none
returns-clause-none c = seen

pub returns-clause-broken : goal.returns-clause-broken
returns-clause-broken c = broken_unread
