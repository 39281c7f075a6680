-- A read that is taken leaves the book as it was before the step.
use Rattle.replica_model.specs.declared.events.ReplicaEvent.TheVariants as replica_event
use Rattle.std.proofs.Common.{sym, ◌∙◌}
use Rattle.replica_files.proofs.ReadLemmas.{read_before, read_prepares, read_stops, read_goes_on}
use Rattle.replica_files.proofs.book_state.BookState.read_prepared.Goals as goal

pub returns-in-Ok-clause-book : goal.returns-in-Ok-clause-book
returns-in-Ok-clause-book g c =
    read_goes_on g.F.Files c.args.self.now c.step.new.self c.read_taken.new.self c.args.event c.args.offset c.requires.ready.count c.in-Ok.answer c.read_taken.result c.requires.book c.step.ensures.kept c.step.ensures.known
    (sym c.in-Ok.is ∙ c.step.ensures.answered) c.requires.ready.reading c.read_taken.ensures.prepared c.read_taken.ensures.book

pub returns-in-Ok-clause-prepared : goal.returns-in-Ok-clause-prepared
returns-in-Ok-clause-prepared g c =
    read_prepares g.F.Files c.args.self.now c.step.new.self c.read_taken.new.self c.args.event c.args.offset c.requires.ready.count c.in-Ok.answer c.read_taken.result c.requires.book c.step.ensures.kept c.step.ensures.known
    (sym c.in-Ok.is ∙ c.step.ensures.answered) c.requires.ready.reading c.read_taken.ensures.prepared

pub returns-in-Ok-clause-ends : goal.returns-in-Ok-clause-ends
returns-in-Ok-clause-ends g c =
    read_stops g.F.Files c.args.self.now c.step.new.self c.read_taken.new.self (replica_event.Other c.args.event) c.read_taken.result c.step.ensures.kept c.read_taken.ensures.ends

pub returns-in-Ok-clause-bytes : goal.returns-in-Ok-clause-bytes
returns-in-Ok-clause-bytes g c a =
    read_before g.F.Files c.args.self.now c.step.new.self c.args.event c.prior-prior.result c.in-Ok.answer c.args.offset _ c.read_taken.new.buffer.items c.read_taken.result c.requires.book c.step.ensures.kept c.step.ensures.known
    (sym c.in-Ok.is ∙ c.step.ensures.answered) c.prior-prior.ensures.broken c.prior-prior.ensures.info a c.read_taken.ensures.bytes
