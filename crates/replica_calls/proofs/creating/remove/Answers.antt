-- One file after another is removed.
use Rattle.std.proofs.lemmas.Result.{err_from_is_err_and}
use Rattle.replica_calls.proofs.RemovalLemmas.{removing_starts, removing_ready, removing_next, removing_fails, removing_ends}
use Rattle.replica_calls.proofs.creating.remove.Goals as goal

pub loop-name-init : goal.loop-name-init
loop-name-init g c = removing_starts g.F.Files c.args.files.now c.args.strays.now c.requires

pub step-requires : goal.step-requires
step-requires g c =
    removing_ready g.F.Files c.args.files.now c.loop-name.files c.loop-name.name-index c.args.strays.now c.name-item.result c.loop-name.invariant c.loop-name-test.true c.name-item.is

pub returns-in_err-step : goal.returns-in_err-step
returns-in_err-step g c =
    let failed = err_from_is_err_and c.from_residual.result c.from_residual.ensures.1 in
    rw (failed.1, failed.2)
    (removing_fails g.F.Files c.args.files.now c.loop-name.files c.step.new.files c.loop-name.name-index c.args.strays.now c.name-item.result _ c.loop-name.invariant c.loop-name-test.true c.name-item.is c.in_err-step.ensures)

pub loop-name-preserved : goal.loop-name-preserved
loop-name-preserved g c =
    removing_next g.F.Files c.args.files.now c.loop-name.files c.step.new.files c.loop-name.name-index c.args.strays.now c.name-item.result _ c.loop-name.invariant c.loop-name-test.true c.name-item.is c.in_ok-step.ensures

pub returns : goal.returns
returns g c =
    removing_ends g.F.Files c.args.files.now c.loop-name.files c.loop-name.name-index c.args.strays.now _ c.loop-name.invariant c.loop-name-test.false
