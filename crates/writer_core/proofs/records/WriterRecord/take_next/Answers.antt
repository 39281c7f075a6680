-- The bytes of the first command fit.
use Rattle.std.proofs.Common.{length, ap, arith}
use Rattle.writer_core.proofs.SoundLemmas.{fits_as}
use Rattle.writer_core.proofs.records.WriterRecord.take_next.Goals as goal

pub write-requires : goal.write-requires
write-requires c =
    let f = fits_as c.args.self.now c.first.result c.in-Some.command _ c.requires c.first.ensures c.in-Some.is c.in-Write.is in
    omega (arith, f, ap length c.as_slice.ensures)

pub fill-requires : goal.fill-requires
fill-requires c = fits_as c.args.self.now c.first.result c.in-Some.command _ c.requires c.first.ensures c.in-Some.is c.in-Fill.is
