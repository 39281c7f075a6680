-- The strays are removed, and the files made.
use Rattle.std.proofs.Common.{arith}
use Rattle.std.proofs.lemmas.Result.{err_from_is_err_and}
use Rattle.replica_files.proofs.MakeLemmas.{make_ready, makes_done, makes_failed}
use Rattle.replica_files.proofs.creating.make_files.Goals as goal

pub create-requires : goal.create-requires
create-requires g c =
    rw c.of-names.ensures (make_ready g.F.Files c.args.drawer.now c.args.block c.args.next _ (omega arith) c.requires)

pub returns-in_err-create : goal.returns-in_err-create
returns-in_err-create g c =
    let failed = err_from_is_err_and c.from_residual.result c.from_residual.ensures.1 in
    rw (failed.1, failed.2)
    (makes_failed g.F.Files c.args.drawer.now c.create.new.files c.args.block c.args.next _ _ (omega arith) (omega arith) (rw c.of-names.ensures at c.in_err-create.ensures))

pub returns : goal.returns
returns g c =
    makes_done g.F.Files c.args.drawer.now c.create.new.files c.args.block c.args.next _ _ (omega arith) (omega arith) (rw c.of-names.ensures at c.in_ok-create.ensures)
