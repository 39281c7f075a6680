-- The history has room first, and then the files.
use Rattle.replica_model.specs.declared.events.ReplicaEvent.TheVariants as replica_event
use Rattle.replica_files.proofs.EndLemmas.{ends_prepared, reserved, prepared_then}
use Rattle.replica_files.proofs.book_state.BookState.cut.Goals as goal

pub returns-in-Ok-clause-ends : goal.returns-in-Ok-clause-ends
returns-in-Ok-clause-ends g c =
    ends_prepared g.F.Files c.args.self.now c.prepare_cut.new.self c.settle.new.self (replica_event.Other c.args.event) c.settle.result
    (prepared_then g.F.Files c.args.self.now _ c.prepare_cut.new.self (reserved g.F.Files c.args.self.now c.reserve_entry.new.history c.reserve_entry.ensures.same) c.prepare_cut.ensures.prepared)
    c.settle.ensures.ends
