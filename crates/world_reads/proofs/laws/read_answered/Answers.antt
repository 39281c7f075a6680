use Rattle.world.specs.Events.{run}
use Rattle.world.specs.Worlds.{start}
use Rattle.world_reads.proofs.Reading.{reads-answered}
use Rattle.world_reads.proofs.laws.read_answered.Goals as goal

pub returns-clause-readable : goal.returns-clause-readable
returns-clause-readable g c =
    reads-answered g.F.Files c.args.book.now c.read.new.self (run (start c.args.schedule.now.nodes) c.args.schedule.now.events)
    c.args.named c.args.offset c.args.length c.read.new.into.items c.read.result c.answered_bytes_stay_readable.ensures c.read.ensures.ends c.read.ensures.bytes
