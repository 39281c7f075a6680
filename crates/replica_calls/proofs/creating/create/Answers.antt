-- Strays are removed, and then files are made.
use Rattle.std.specs.Prelude.{◌++◌}
use Rattle.std.proofs.lemmas.Result.{err_from_is_err_and}
use Rattle.meta_file.specs.Headers.{header_of}
use Rattle.replica_calls.specs.CallLists.{remove_list, new_list}
use Rattle.replica_calls.proofs.PerformLemmas.{ready_front, performs_fails, performs_then}
use Rattle.replica_calls.proofs.creating.create.Goals as goal

pub returns-in_err-remove : goal.returns-in_err-remove
returns-in_err-remove g c =
    let failed = err_from_is_err_and c.from_residual.result c.from_residual.ensures.1 in
    rw (failed.1, failed.2)
    (performs_fails g.F.Files c.args.files.now c.remove.new.files (remove_list c.args.strays.now) (new_list c.args.names.now (header_of c.args.rule)) _ c.in_err-remove.ensures)

pub returns : goal.returns
returns g c =
    performs_then g.F.Files c.args.files.now c.remove.new.files c.make.new.files (remove_list c.args.strays.now) (new_list c.args.names.now (header_of c.args.rule)) _ c.make.result c.in_ok-remove.ensures (rw c.header-front.ensures at c.make.ensures)

pub remove-requires : goal.remove-requires
remove-requires g c =
    ready_front g.F.Files c.args.files.now (remove_list c.args.strays.now) (new_list c.args.names.now (header_of c.args.rule)) c.requires
