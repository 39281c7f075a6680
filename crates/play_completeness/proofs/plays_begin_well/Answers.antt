use Rattle.play_completeness.proofs.Beginning.{opened-played, commands-join, opened-on, join-on}
use Rattle.play_completeness.proofs.plays_begin_well.Goals as goal

pub returns : goal.returns
returns c = record { opened = opened-played; joined = commands-join; opened_on = opened-on; joined_on = join-on }
