-- There is nothing that doesn't show the world.
use Rattle.play_recoveries.proofs.JoinLaws.{none_show}
use Rattle.play_recoveries.proofs.recoveries.Recoveries.new.Goals as goal

pub returns-clause-shows : goal.returns-clause-shows
returns-clause-shows g c = none_show g.I.LinkIn g.O.LinkOut _ c.new.ensures.items c.new-2.ensures.items
