-- A write, and syncs.
use Rattle.std.specs.Prelude.{ℕ, ◌==◌, ◌%◌, ◌&&◌, not, nat_lt, length, List, [], ◌∷◌, ◌++◌}
use Rattle.std.proofs.lemmas.Result.{err_from_is_err_and}
use Rattle.replica_calls.proofs.PerformLemmas.{performs_fails, performs_then}
use Rattle.replica_calls.specs.CallLists.{all_if, grow_list, sync_list}
use Rattle.replica_calls.proofs.writing.grow.Goals as goal

pub returns-in_err-write_any : goal.returns-in_err-write_any
returns-in_err-write_any g c =
    let failed = err_from_is_err_and c.from_residual.result c.from_residual.ensures.1 in
    rw (failed.1, failed.2)
    (performs_fails g.F.Files c.args.files.now c.write_any.new.files (all_if (nat_lt 0 (length c.args.more.now)) (grow_list c.args.names.now c.args.rule c.args.written c.args.more.now c.args.sums.now)) (all_if c.args.sync (sync_list c.args.names.now)) _ c.in_err-write_any.ensures)

pub returns : goal.returns
returns g c =
    performs_then g.F.Files c.args.files.now c.write_any.new.files c.sync_if.new.files (all_if (nat_lt 0 (length c.args.more.now)) (grow_list c.args.names.now c.args.rule c.args.written c.args.more.now c.args.sums.now)) (all_if c.args.sync (sync_list c.args.names.now)) _ c.sync_if.result c.in_ok-write_any.ensures c.sync_if.ensures
