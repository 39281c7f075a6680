-- Two syncs.
use Rattle.std.specs.Prelude.{ℕ, ◌==◌, ◌%◌, ◌&&◌, not, nat_lt, length, List, [], ◌∷◌, ◌++◌}
use Rattle.std.proofs.lemmas.Result.{err_from_is_err_and}
use Rattle.replica_calls.proofs.PerformLemmas.{performs_fails, performs_then}
use Rattle.hd_base.specs.Calls.{Call, Write, Cut, Sync, Rename}
use Rattle.replica_calls.proofs.steps.sync.Goals as goal

pub returns-in_err-step : goal.returns-in_err-step
returns-in_err-step g c =
    let failed = err_from_is_err_and c.from_residual.result c.from_residual.ensures.1 in
    rw (failed.1, failed.2)
    (performs_fails g.F.Files c.args.files.now c.step.new.files (Sync c.args.names.now.«data» ∷ []) (Sync c.args.names.now.meta ∷ []) _ c.in_err-step.ensures)

pub returns : goal.returns
returns g c =
    performs_then g.F.Files c.args.files.now c.step.new.files c.step-2.new.files (Sync c.args.names.now.«data» ∷ []) (Sync c.args.names.now.meta ∷ []) _ c.step-2.result c.in_ok-step.ensures c.step-2.ensures
