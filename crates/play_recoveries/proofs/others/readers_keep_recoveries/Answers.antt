-- The laws.
use Rattle.play_recoveries.proofs.OtherLaws.{asking_kept, reading_kept, serving_kept, sending_kept}
use Rattle.play_recoveries.proofs.others.readers_keep_recoveries.Goals as goal

pub returns-clause-asks : goal.returns-clause-asks
returns-clause-asks g c = asking_kept g.I.LinkIn g.O.LinkOut c.readers_keep_nodes.ensures.asks c.readers_keep_primaries.ensures.asks

pub returns-clause-hears : goal.returns-clause-hears
returns-clause-hears g c = reading_kept g.I.LinkIn g.O.LinkOut c.readers_keep_nodes.ensures.hears c.readers_keep_primaries.ensures.hears

pub returns-clause-serves : goal.returns-clause-serves
returns-clause-serves g c = serving_kept g.I.LinkIn g.O.LinkOut c.members_keep_primaries.ensures.downs

pub returns-clause-sends : goal.returns-clause-sends
returns-clause-sends g c = sending_kept g.I.LinkIn g.O.LinkOut c.members_keep_primaries.ensures.readies
