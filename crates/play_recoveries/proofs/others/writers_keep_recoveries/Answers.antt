-- The laws.
use Rattle.play_recoveries.proofs.OtherLaws.{own_steps_kept, hearing_kept}
use Rattle.play_recoveries.proofs.others.writers_keep_recoveries.Goals as goal

pub returns-clause-own : goal.returns-clause-own
returns-clause-own g c = own_steps_kept g.I.LinkIn g.O.LinkOut c.writers_keep_elsewhere.ensures.own c.writers_keep_primaries.ensures.acts

pub returns-clause-hears : goal.returns-clause-hears
returns-clause-hears g c = hearing_kept g.I.LinkIn g.O.LinkOut c.writers_keep_elsewhere.ensures.heard c.writers_keep_primaries.ensures.hears
