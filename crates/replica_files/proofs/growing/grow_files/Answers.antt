-- The bytes are written, and their sums.
use Rattle.std.proofs.Common.{arith}
use Rattle.std.proofs.lemmas.Result.{err_from_is_err_and}
use Rattle.replica_files.proofs.GrowLemmas.{grow_ready, grows_done, grows_failed}
use Rattle.replica_files.proofs.growing.grow_files.Goals as goal

pub grow-requires : goal.grow-requires
grow-requires g c =
    rw (c.of-names.ensures, c.deref.ensures.value)
    (grow_ready g.F.Files c.args.drawer.now c.args.block c.args.held c.args.more.now c.args.grown.now c.args.sync (omega arith) (omega arith) c.requires)

pub returns-in_err-grow : goal.returns-in_err-grow
returns-in_err-grow g c bytes holds =
    let failed = err_from_is_err_and c.from_residual.result c.from_residual.ensures.1 in
    rw (failed.1, failed.2)
    (grows_failed g.F.Files c.args.drawer.now c.grow.new.files c.args.block c.args.held bytes c.args.more.now c.args.grown.now c.args.sync _ (g.met.F.Files.log_makes_files c.args.drawer.now) holds
    (rw (c.of-names.ensures, c.deref.ensures.value) at c.in_err-grow.ensures))

pub returns : goal.returns
returns g c bytes holds =
    grows_done g.F.Files c.args.drawer.now c.grow.new.files c.args.block c.args.held bytes c.args.more.now c.args.grown.now c.args.sync _ (g.met.F.Files.log_makes_files c.args.drawer.now) holds
    (rw (c.of-names.ensures, c.deref.ensures.value) at c.in_ok-grow.ensures)
