-- What is sent of a read is what it is at the replica.
use Rattle.visible_read.proofs.ReadLemmas.{follows}
use Rattle.visible_read.proofs.laws.packets_follow_the_read.Goals as goal

pub returns : goal.returns
returns c = follows
