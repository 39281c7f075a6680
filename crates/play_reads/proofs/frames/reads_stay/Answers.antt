-- What the reads show stays.
use Rattle.play_reads.proofs.KeepLaws.{reads_kept}
use Rattle.play_reads.proofs.frames.reads_stay.Goals as goal

pub returns : goal.returns
returns g c = reads_kept g.I.LinkIn g.O.LinkOut c.read_clients_stay.ensures
