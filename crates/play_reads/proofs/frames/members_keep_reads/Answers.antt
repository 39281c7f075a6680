-- The laws.
use Rattle.play_reads.proofs.FrameLaws.{downs_kept, faults_kept, readies_kept, mirrors_kept}
use Rattle.play_reads.proofs.frames.members_keep_reads.Goals as goal

pub returns-clause-downs : goal.returns-clause-downs
returns-clause-downs g c = downs_kept g.I.LinkIn g.O.LinkOut c.nodes_keep_elsewhere.ensures.down c.members_keep_readers.ensures.downs

pub returns-clause-faults : goal.returns-clause-faults
returns-clause-faults g c = faults_kept g.I.LinkIn g.O.LinkOut c.nodes_keep_elsewhere.ensures.fault c.members_keep_readers.ensures.faults

pub returns-clause-readies : goal.returns-clause-readies
returns-clause-readies g c = readies_kept g.I.LinkIn g.O.LinkOut c.nodes_keep_elsewhere.ensures.ready c.members_keep_readers.ensures.readies

pub returns-clause-mirrors : goal.returns-clause-mirrors
returns-clause-mirrors g c = mirrors_kept g.I.LinkIn g.O.LinkOut c.nodes_keep_elsewhere.ensures.up c.members_keep_readers.ensures.mirrors
