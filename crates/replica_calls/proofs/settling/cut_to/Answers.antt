-- The data is cut, a sum written, and the metadata cut.
use Rattle.std.specs.Prelude.{ℕ, ◌==◌, ◌%◌, ◌&&◌, not, nat_lt, length, List, [], ◌∷◌, ◌++◌}
use Rattle.std.proofs.lemmas.Result.{err_from_is_err_and}
use Rattle.replica_calls.proofs.PerformLemmas.{performs_fails, performs_then}
use Rattle.hd_base.specs.Calls.{Call, Write, Cut, Sync, Rename}
use Rattle.replica_model.specs.Sums.{sum_place, meta_len}
use Rattle.replica_model.specs.Plans.{has_sums}
use Rattle.replica_calls.specs.CallLists.{only}
use Rattle.replica_calls.proofs.settling.cut_to.Goals as goal

pub returns-in_err-step : goal.returns-in_err-step
returns-in_err-step g c =
    let r = c.args.held.now.sums in
    let n = c.args.len in
    let failed = err_from_is_err_and c.from_residual.result c.from_residual.ensures.1 in
    rw (failed.1, failed.2)
    (performs_fails g.F.Files c.args.files.now c.step.new.files (Cut c.args.names.now.«data» n ∷ []) ((only (has_sums r.kind && not (n % r.chunk == 0)) (Write c.args.names.now.meta (sum_place r n) c.args.sum.now)) ++ (only (nat_lt (meta_len r n) (meta_len r c.args.held.now.written)) (Cut c.args.names.now.meta (meta_len r n)))) _ c.in_err-step.ensures)

pub returns-in_err-step_if : goal.returns-in_err-step_if
returns-in_err-step_if g c =
    let r = c.args.held.now.sums in
    let n = c.args.len in
    let failed = err_from_is_err_and c.from_residual-in_err-step_if.result c.from_residual-in_err-step_if.ensures.1 in
    rw (failed.1, failed.2)
    (performs_then g.F.Files c.args.files.now c.step.new.files c.step_if.new.files (Cut c.args.names.now.«data» n ∷ []) ((only (has_sums r.kind && not (n % r.chunk == 0)) (Write c.args.names.now.meta (sum_place r n) c.args.sum.now)) ++ (only (nat_lt (meta_len r n) (meta_len r c.args.held.now.written)) (Cut c.args.names.now.meta (meta_len r n)))) _ _ c.in_ok-step.ensures
    (performs_fails g.F.Files c.step.new.files c.step_if.new.files (only (has_sums r.kind && not (n % r.chunk == 0)) (Write c.args.names.now.meta (sum_place r n) c.args.sum.now)) (only (nat_lt (meta_len r n) (meta_len r c.args.held.now.written)) (Cut c.args.names.now.meta (meta_len r n))) _ (rw c.sum_place.ensures at (rw c.is_summed.ensures at c.in_err-step_if.ensures))))

pub returns : goal.returns
returns g c =
    let r = c.args.held.now.sums in
    let n = c.args.len in
    performs_then g.F.Files c.args.files.now c.step.new.files c.step_if-2.new.files (Cut c.args.names.now.«data» n ∷ []) ((only (has_sums r.kind && not (n % r.chunk == 0)) (Write c.args.names.now.meta (sum_place r n) c.args.sum.now)) ++ (only (nat_lt (meta_len r n) (meta_len r c.args.held.now.written)) (Cut c.args.names.now.meta (meta_len r n)))) _ c.step_if-2.result c.in_ok-step.ensures
    (performs_then g.F.Files c.step.new.files c.step_if.new.files c.step_if-2.new.files (only (has_sums r.kind && not (n % r.chunk == 0)) (Write c.args.names.now.meta (sum_place r n) c.args.sum.now)) (only (nat_lt (meta_len r n) (meta_len r c.args.held.now.written)) (Cut c.args.names.now.meta (meta_len r n))) _ c.step_if-2.result (rw c.sum_place.ensures at (rw c.is_summed.ensures at c.in_ok-step_if.ensures)) (rw c.meta_len-left.ensures at (rw c.meta_len.ensures at c.step_if-2.ensures)))
