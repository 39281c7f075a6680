-- The history has room first.
use Rattle.replica_model.specs.declared.events.ReplicaEvent.TheVariants as replica_event
use Rattle.replica_files.proofs.EndLemmas.{ends_prepared, reserved}
use Rattle.replica_files.proofs.book_state.BookState.keep.Goals as goal

pub returns-clause-ends : goal.returns-clause-ends
returns-clause-ends g c =
    ends_prepared g.F.Files c.args.self.now _ c.settle.new.self (replica_event.Other c.args.event) c.settle.result
    (reserved g.F.Files c.args.self.now c.reserve_entry.new.history c.reserve_entry.ensures.same) c.settle.ensures.ends
