-- An Init that is taken answers an info.
use Rattle.replica_files.specs.Books.{replica_of}
use Rattle.replica_files.proofs.StepLemmas.{is_info, no_info}
use Rattle.replica_files.proofs.book.ReplicaBook.init.Goals as goal

pub unreachable-requires : goal.unreachable-requires
unreachable-requires g c =
    let ends = c.in_ok-taken.ensures.ends in
    no_info c.in_ok-taken.taken.answer
    (is_info (replica_of c.self.inside.state).known c.args.named c.args.recovery c.in_ok-taken.taken.answer ends.takes ends.answer)
    c.in_default.not-Info
