-- A broken replica refuses the event.
use Rattle.std.proofs.Common.{sym, ap, ◌∙◌}
use Rattle.replica_core.specs.declared.records.ReplicaRecord.{ReplicaRecord}
use Rattle.replica_files.specs.Books.{replica_of}
use Rattle.replica_files.proofs.StepLemmas.{row_broken}
use Rattle.replica_files.proofs.book_state.BookState.refuse_broken.Goals as goal

pub refuse-requires-clause-refused : goal.refuse-requires-clause-refused
refuse-requires-clause-refused g c =
    row_broken (replica_of c.args.self.now) c.args.event (sym (ap (λ (k : ReplicaRecord). k.is_broken) c.requires.book.known) ∙ c.requires.broken) c.requires.barred
