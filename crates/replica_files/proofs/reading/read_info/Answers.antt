-- The data file is read.
use Rattle.std.proofs.Common.{refl}
use Rattle.std.proofs.lemmas.Result.{err_from_is_err_and}
use Rattle.replica_files.proofs.ReadLemmas.{reading_carries, reading_done, reading_failed, reading_placed, is_there, reading_bytes, reading_none}
use Rattle.replica_files.proofs.reading.read_info.Goals as goal

pub returns-in_default-clause-reads : goal.returns-in_default-clause-reads
returns-in_default-clause-reads g c a =
    record {
      carried = reading_carries g.F.Files c.args.drawer.now c.args.block c.args.prior.now c.args.last_sum c.args.offset _ a;
      bytes_are = reading_none g.F.Files c.args.drawer.now c.args.block c.args.prior.now c.args.last_sum c.args.offset _ c.args.buffer.now.items a c.in_default.is refl;
    }

pub read_bytes-requires : goal.read_bytes-requires
read_bytes-requires g c =
    record {
      there = rw c.of-names.ensures (is_there _ _ _ (reading_placed g.F.Files c.args.drawer.now c.args.block c.args.prior.now c.args.last_sum c.args.offset _ c.in-Some.held c.requires c.in-Some.is));
    }

pub returns-in_err-read_bytes-clause-reads : goal.returns-in_err-read_bytes-clause-reads
returns-in_err-read_bytes-clause-reads g c a =
    let failed = err_from_is_err_and c.from_residual.result c.from_residual.ensures.1 in
    rw (failed.1, failed.2)
    (record {
      carried = reading_failed g.F.Files c.args.drawer.now c.read_bytes.new.drawer c.args.block c.args.prior.now c.args.last_sum c.args.offset _ _ a c.in_err-read_bytes.ensures.kept c.in_err-read_bytes.ensures.cause;
      bytes_are = tt;
    })

pub returns-clause-reads : goal.returns-clause-reads
returns-clause-reads g c a =
    record {
      carried = reading_done g.F.Files c.args.drawer.now c.read_bytes.new.drawer c.args.block c.args.prior.now c.args.last_sum c.args.offset _ a c.in_ok-read_bytes.ensures.kept c.in_ok-read_bytes.ensures.cause.never_falls;
      bytes_are = reading_bytes g.F.Files c.args.drawer.now c.args.block c.args.prior.now c.args.last_sum c.args.offset _ c.in-Some.held c.read_bytes.new.buffer.items a c.in-Some.is
          (rw c.of-names.ensures at c.in_ok-read_bytes.ensures.value);
    }
