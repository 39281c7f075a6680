-- What members asked of their mirrors, they were asked themselves.
use Rattle.play_laws.proofs.Pipelined.{all_piped}
use Rattle.play_laws.proofs.members_are_piped.Goals as goal

pub returns : goal.returns
returns c = all_piped c.acks_tell_of_all_below.ensures c.messages_come_in_order.ensures
