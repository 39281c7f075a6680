-- The laws.
use Rattle.play_reads.proofs.FrameLaws.{own_steps_kept, hearing_kept}
use Rattle.play_reads.proofs.frames.writers_keep_reads.Goals as goal

pub returns-clause-own : goal.returns-clause-own
returns-clause-own g c = own_steps_kept g.I.LinkIn g.O.LinkOut c.writers_keep_elsewhere.ensures.own c.writers_keep_readers.ensures.acts

pub returns-clause-hears : goal.returns-clause-hears
returns-clause-hears g c = hearing_kept g.I.LinkIn g.O.LinkOut c.writers_keep_elsewhere.ensures.heard c.writers_keep_readers.ensures.hears
