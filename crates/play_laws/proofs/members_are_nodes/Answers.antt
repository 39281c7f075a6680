use Rattle.play_laws.proofs.Resting.{members-are}
use Rattle.play_laws.proofs.members_are_nodes.Goals as goal

pub returns : goal.returns
returns c = members-are
