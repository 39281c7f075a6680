-- The law.
use Rattle.play_reads.proofs.StartLaws.{starts_kept}
use Rattle.play_reads.proofs.frames.starts_keep_reads.Goals as goal

pub returns : goal.returns
returns g c = starts_kept g.I.LinkIn g.O.LinkOut c.read_clients_stay.ensures
