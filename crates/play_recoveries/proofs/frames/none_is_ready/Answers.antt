-- The law.
use Rattle.play_recoveries.proofs.ToldLaws as laws
use Rattle.play_recoveries.proofs.frames.none_is_ready.Goals as goal

pub returns : goal.returns
returns g c = laws.none_is_ready g.I.LinkIn g.O.LinkOut c.answers_wait.ensures
