-- Two renames.
use Rattle.std.specs.Prelude.{ℕ, ◌==◌, ◌%◌, ◌&&◌, not, nat_lt, length, List, [], ◌∷◌, ◌++◌}
use Rattle.std.proofs.lemmas.Result.{err_from_is_err_and}
use Rattle.replica_calls.proofs.PerformLemmas.{performs_fails, performs_then}
use Rattle.hd_base.specs.Calls.{Call, Write, Cut, Sync, Rename}
use Rattle.replica_model.specs.Plans.{folder_of, same_folder}
use Rattle.replica_calls.specs.CallLists.{only}
use Rattle.replica_calls.proofs.settling.rename.Goals as goal

pub returns-in_err-step_if : goal.returns-in_err-step_if
returns-in_err-step_if g c =
    let from = folder_of c.args.held.now.original in
    let to = folder_of c.args.next.now.original in
    let failed = err_from_is_err_and c.from_residual.result c.from_residual.ensures.1 in
    rw (failed.1, failed.2)
    (performs_fails g.F.Files c.args.files.now c.step_if.new.files (only (not (same_folder from to && c.args.held.now.stamp.0 == c.args.next.now.stamp.0)) (Rename c.args.before.now.meta c.args.after.now.meta)) (only (not (same_folder from to)) (Rename c.args.before.now.«data» c.args.after.now.«data»)) _ (rw c.keeps_name-is_renamed.ensures at c.in_err-step_if.ensures))

pub returns : goal.returns
returns g c =
    let from = folder_of c.args.held.now.original in
    let to = folder_of c.args.next.now.original in
    performs_then g.F.Files c.args.files.now c.step_if.new.files c.step_if-2.new.files (only (not (same_folder from to && c.args.held.now.stamp.0 == c.args.next.now.stamp.0)) (Rename c.args.before.now.meta c.args.after.now.meta)) (only (not (same_folder from to)) (Rename c.args.before.now.«data» c.args.after.now.«data»)) _ c.step_if-2.result (rw c.keeps_name-is_renamed.ensures at c.in_ok-step_if.ensures) (rw c.keeps_folder-moves.ensures at c.step_if-2.ensures)
