-- By what is behind those that were taken.
use Rattle.world_standings.proofs.StandingLaws.{row-standing}
use Rattle.world_standings.proofs.standings_agree.Goals as goal

pub returns : goal.returns
returns c = row-standing
