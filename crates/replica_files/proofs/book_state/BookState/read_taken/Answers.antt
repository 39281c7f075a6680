-- The bytes are read; an entry is added where that fails.
use Rattle.std.proofs.Common.{refl, sym, subst, Ok, Err}
use Rattle.std.proofs.lemmas.Result.{err_from_is_err_and}
use Rattle.replica_files.specs.Books.{replica_of}
use Rattle.replica_files.specs.Events.{NeedsWhole}
use Rattle.replica_files.proofs.StepLemmas.{taken_whole, reading_for_whole}
use Rattle.replica_files.proofs.EndLemmas.{to_note, call_ends}
use Rattle.replica_files.proofs.LeftLemmas.{left_needing}
use Rattle.replica_files.proofs.ReadLemmas.{read_carried, read_bytes_are, read_with_bytes, read_brings}
use Rattle.replica_files.proofs.book_state.BookState.read_taken.Goals as goal

pub returns-clause-bytes : goal.returns-clause-bytes
returns-clause-bytes g c a =
    let s = c.args.self.now in
    read_bytes_are g.F.Files s c.read_info-made.new.drawer c.args.event c.args.prior.now c.args.answer c.args.offset _ c.read_info-made.new.buffer.items (Ok _) a c.in-Ok.ensures.reads

pub finish-requires-clause-to_note : goal.finish-requires-clause-to_note
finish-requires-clause-to_note g c =
    let s = c.args.self.now in
    let a = c.requires.amid in
    to_note g.F.Files s.drawer _ c.args.event c.args.prior.now.info (Err c.in-Err.error) a.known a.before_is a.held
    (read_with_bytes g.F.Files s c.args.event c.args.prior.now c.args.answer c.args.offset _ a) (read_brings g.F.Files s c.args.event c.args.prior.now c.args.answer c.args.offset _ _ a)
    (read_carried g.F.Files s c.read_info-made.new.drawer c.args.event c.args.prior.now c.args.answer c.args.offset _ c.read_info-made.new.buffer.items (Err c.in-Err.error) a c.in-Err.ensures.reads)
    (λ _. taken_whole (replica_of s) c.args.event (subst NeedsWhole (sym a.is) (reading_for_whole a.asked c.args.offset a.count a.reading)) a.takes)
    (left_needing g.F.Files c.read_info-made.new.drawer s.whole (replica_of s) c.args.event (subst NeedsWhole (sym a.is) (reading_for_whole a.asked c.args.offset a.count a.reading)) a.takes)

pub returns-in_err-finish-in-Err-clause-ends : goal.returns-in_err-finish-in-Err-clause-ends
returns-in_err-finish-in-Err-clause-ends g c =
    let s = c.args.self.now in
    let a = c.requires.amid in
    let failed = err_from_is_err_and c.from_residual.result c.from_residual.ensures.1 in
    rw (failed.1, failed.2)
    (call_ends g.F.Files s _ c.finish.new.self c.args.event c.args.answer (Err c.in-Err.error) (Err _) a.takes a.answered refl refl c.in_err-finish-in-Err.ensures.drawer
    (read_carried g.F.Files s c.read_info-made.new.drawer c.args.event c.args.prior.now c.args.answer c.args.offset _ c.read_info-made.new.buffer.items (Err c.in-Err.error) a c.in-Err.ensures.reads)
    (λ _. taken_whole (replica_of s) c.args.event (subst NeedsWhole (sym a.is) (reading_for_whole a.asked c.args.offset a.count a.reading)) a.takes)
    c.in_err-finish-in-Err.ensures.finishes)
