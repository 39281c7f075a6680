-- Syncs, a cut, and renames.
use Rattle.std.specs.Prelude.{ℕ, ◌==◌, ◌%◌, ◌&&◌, not, nat_lt, length, List, [], ◌∷◌, ◌++◌}
use Rattle.std.proofs.lemmas.Result.{err_from_is_err_and}
use Rattle.replica_calls.proofs.PerformLemmas.{performs_fails, performs_then}
use Rattle.std.specs.Int.{w32, to_be_bytes}
use Rattle.replica_model.specs.Plans.{folder_of, leaves_temporary}
use Rattle.replica_calls.specs.CallLists.{all_if, sync_list, cut_list, move_list}
use Rattle.replica_calls.proofs.settling.settle.Goals as goal

pub returns-in_err-sync_if : goal.returns-in_err-sync_if
returns-in_err-sync_if g c =
    let h = c.args.held.now in
    let k = c.args.next.now in
    let failed = err_from_is_err_and c.from_residual.result c.from_residual.ensures.1 in
    rw (failed.1, failed.2)
    (performs_fails g.F.Files c.args.files.now c.sync_if.new.files (all_if (leaves_temporary h k) (sync_list c.args.before.now)) ((cut_list c.args.before.now h.sums h.written k.written (to_be_bytes w32 c.args.last_sum)) ++ (move_list c.args.before.now c.args.after.now (folder_of h.original) h.stamp.0 (folder_of k.original) k.stamp.0)) _ (rw c.leaves_temporary.ensures at c.in_err-sync_if.ensures))

pub returns-in_err-cut : goal.returns-in_err-cut
returns-in_err-cut g c =
    let h = c.args.held.now in
    let k = c.args.next.now in
    let failed = err_from_is_err_and c.from_residual-in_err-cut.result c.from_residual-in_err-cut.ensures.1 in
    rw (failed.1, failed.2)
    (performs_then g.F.Files c.args.files.now c.sync_if.new.files c.cut.new.files (all_if (leaves_temporary h k) (sync_list c.args.before.now)) ((cut_list c.args.before.now h.sums h.written k.written (to_be_bytes w32 c.args.last_sum)) ++ (move_list c.args.before.now c.args.after.now (folder_of h.original) h.stamp.0 (folder_of k.original) k.stamp.0)) _ _ (rw c.leaves_temporary.ensures at c.in_ok-sync_if.ensures)
    (performs_fails g.F.Files c.sync_if.new.files c.cut.new.files (cut_list c.args.before.now h.sums h.written k.written (to_be_bytes w32 c.args.last_sum)) (move_list c.args.before.now c.args.after.now (folder_of h.original) h.stamp.0 (folder_of k.original) k.stamp.0) _ (rw c.to_be_bytes-sum.ensures at c.in_err-cut.ensures)))

pub returns : goal.returns
returns g c =
    let h = c.args.held.now in
    let k = c.args.next.now in
    performs_then g.F.Files c.args.files.now c.sync_if.new.files c.rename.new.files (all_if (leaves_temporary h k) (sync_list c.args.before.now)) ((cut_list c.args.before.now h.sums h.written k.written (to_be_bytes w32 c.args.last_sum)) ++ (move_list c.args.before.now c.args.after.now (folder_of h.original) h.stamp.0 (folder_of k.original) k.stamp.0)) _ c.rename.result (rw c.leaves_temporary.ensures at c.in_ok-sync_if.ensures)
    (performs_then g.F.Files c.sync_if.new.files c.cut.new.files c.rename.new.files (cut_list c.args.before.now h.sums h.written k.written (to_be_bytes w32 c.args.last_sum)) (move_list c.args.before.now c.args.after.now (folder_of h.original) h.stamp.0 (folder_of k.original) k.stamp.0) _ c.rename.result (rw c.to_be_bytes-sum.ensures at c.in_ok-cut.ensures) c.rename.ensures)
