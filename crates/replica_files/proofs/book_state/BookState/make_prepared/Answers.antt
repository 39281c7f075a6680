-- An event that was taken ends from the book before the step.
use Rattle.replica_model.specs.declared.events.ReplicaEvent.TheVariants as replica_event
use Rattle.replica_files.proofs.EndLemmas.{ends_stepped}
use Rattle.replica_files.proofs.book_state.BookState.make_prepared.Goals as goal

pub returns-in-Ok-clause-ends : goal.returns-in-Ok-clause-ends
returns-in-Ok-clause-ends g c =
    ends_stepped g.F.Files c.args.self.now c.step.new.self c.make_taken.new.self (replica_event.Other c.args.event) c.make_taken.result c.step.ensures.kept c.make_taken.ensures.ends
