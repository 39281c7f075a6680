-- The bytes, and then the sums.
use Rattle.std.specs.Prelude.{ℕ, ◌==◌, ◌%◌, ◌&&◌, not, nat_lt, length, List, [], ◌∷◌, ◌++◌}
use Rattle.std.proofs.lemmas.Result.{err_from_is_err_and}
use Rattle.replica_calls.proofs.PerformLemmas.{performs_fails, performs_then}
use Rattle.hd_base.specs.Calls.{Call, Write, Cut, Sync, Rename}
use Rattle.replica_model.specs.Sums.{sum_place}
use Rattle.replica_model.specs.Plans.{has_sums}
use Rattle.replica_calls.specs.CallLists.{only}
use Rattle.replica_calls.proofs.writing.write.Goals as goal

pub returns-in_err-step : goal.returns-in_err-step
returns-in_err-step g c =
    let r = c.args.rule in
    let n = c.args.written in
    let failed = err_from_is_err_and c.from_residual.result c.from_residual.ensures.1 in
    rw (failed.1, failed.2)
    (performs_fails g.F.Files c.args.files.now c.step.new.files (Write c.args.names.now.«data» n c.args.more.now ∷ []) (only (has_sums r.kind) (Write c.args.names.now.meta (sum_place r n) c.args.sums.now)) _ c.in_err-step.ensures)

pub returns : goal.returns
returns g c =
    let r = c.args.rule in
    let n = c.args.written in
    performs_then g.F.Files c.args.files.now c.step.new.files c.step_if.new.files (Write c.args.names.now.«data» n c.args.more.now ∷ []) (only (has_sums r.kind) (Write c.args.names.now.meta (sum_place r n) c.args.sums.now)) _ c.step_if.result c.in_ok-step.ensures (rw c.sum_place-place.ensures at (rw c.kind.ensures at (rw c.has_sums.ensures at c.step_if.ensures)))
