-- The bytes are read first, and then the entry is added.
use Rattle.std.proofs.Common.{Err}
use Rattle.std.proofs.lemmas.Result.{err_from_is_err_and}
use Rattle.replica_model.specs.declared.events.ReplicaEvent.TheVariants as replica_event
use Rattle.replica_files.proofs.EndLemmas.{ends_prepared}
use Rattle.replica_files.proofs.book_state.BookState.read.Goals as goal

pub returns-in_err-taken-clause-ends : goal.returns-in_err-taken-clause-ends
returns-in_err-taken-clause-ends g c =
    let failed = err_from_is_err_and c.from_residual-in_err-taken.result c.from_residual-in_err-taken.ensures.1 in
    rw (failed.1, failed.2)
    (ends_prepared g.F.Files c.args.self.now c.read_ahead.new.self c.keep.new.self (replica_event.Other c.args.event) (Err _) c.in_ok-bytes.ensures.prepared c.in_err-taken.ensures.ends)
