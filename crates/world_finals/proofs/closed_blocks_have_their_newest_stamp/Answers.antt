use Rattle.world_finals.proofs.Laws.{closed-newest}
use Rattle.world_finals.proofs.closed_blocks_have_their_newest_stamp.Goals as goal

pub returns : goal.returns
returns c = closed-newest
