-- The files are settled, and the entry is added.
use Rattle.std.proofs.Common.{refl, sym, ◌∙◌, length}
use Rattle.replica_files.proofs.EndLemmas.{to_note, call_ends, amid_carried, amid_left, amid_with_bytes, amid_brings}
use Rattle.replica_files.proofs.book_state.BookState.settle_taken.Goals as goal

pub finish-requires-clause-to_note : goal.finish-requires-clause-to_note
finish-requires-clause-to_note g c =
    let s = c.args.self.now in
    let a = c.requires.amid in
    to_note g.F.Files s.drawer _ c.args.event c.args.prior.now.info c.settle_info-made.result a.known a.before_is a.held
    (amid_with_bytes g.F.Files s c.args.event c.args.prior.now c.args.answer _ a) (amid_brings g.F.Files s c.args.event c.args.prior.now c.args.answer _ _ a)
    (amid_carried g.F.Files s c.settle_info-made.new.drawer c.args.event c.args.prior.now c.args.answer (length c.args.buffer.now) c.info-next.result c.settle_info-made.result c.info-next.ensures.value a c.settle_info-made.ensures.carried)
    (λ failed. sym a.broken_is ∙ c.settle_info-made.ensures.whole failed)
    (amid_left g.F.Files s c.settle_info-made.new.drawer c.args.event c.args.prior.now c.args.answer (length c.args.buffer.now) c.info-next.result c.info-next.ensures.value a c.settle_info-made.ensures.alone)

pub returns-clause-ends : goal.returns-clause-ends
returns-clause-ends g c =
    let s = c.args.self.now in
    let a = c.requires.amid in
    call_ends g.F.Files s _ c.finish.new.self c.args.event c.args.answer c.settle_info-made.result c.finish.result a.takes a.answered refl refl c.finish.ensures.drawer
    (amid_carried g.F.Files s c.settle_info-made.new.drawer c.args.event c.args.prior.now c.args.answer (length c.args.buffer.now) c.info-next.result c.settle_info-made.result c.info-next.ensures.value a c.settle_info-made.ensures.carried)
    (λ failed. sym a.broken_is ∙ c.settle_info-made.ensures.whole failed)
    c.finish.ensures.finishes
