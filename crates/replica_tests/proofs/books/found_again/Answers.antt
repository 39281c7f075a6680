-- The files hold what the book's replica is.
use Rattle.std.proofs.Common.{sym, ap, ◌∙◌}
use Rattle.replica_core.specs.declared.records.ReplicaRecord.{ReplicaRecord}
use Rattle.replica_files.proofs.FindLemmas.{closed_found}
use Rattle.replica_tests.proofs.books.found_again.Goals as goal

pub found-requires-clause-held : goal.found-requires-clause-held
found-requires-clause-held c =
    closed_found _ c.args.book c.close_book-drawer.result.0 c.block-block.result c.in-Some.info c.close_book-drawer.ensures.kept
    c.close_book-drawer.ensures.drawer
    (c.block-block.ensures ∙ ap (λ (k : ReplicaRecord). k.block) c.replica-3.ensures.replica)
    (ap (λ (k : ReplicaRecord). k.info) (sym c.replica.ensures.replica) ∙ sym c.info.ensures.value ∙ c.in-Some.is)
    (ap (λ (k : ReplicaRecord). k.is_broken) (sym c.replica-2.ensures.replica) ∙ sym c.is_broken.ensures ∙ c.if-is_broken.false)
