-- The files are made, and the entry is added.
use Rattle.std.proofs.Common.{refl, sym, subst}
use Rattle.replica_files.specs.Books.{replica_of}
use Rattle.replica_files.specs.Events.{NeedsWhole}
use Rattle.replica_files.proofs.StepLemmas.{taken_whole, making_for_whole}
use Rattle.replica_files.proofs.EndLemmas.{to_note, call_ends}
use Rattle.replica_files.proofs.LeftLemmas.{left_needing}
use Rattle.replica_files.proofs.MakeLemmas.{making_ready, making_with_bytes, making_brings, making_carried}
use Rattle.replica_files.proofs.book_state.BookState.make_taken.Goals as goal

pub make_files-made-requires : goal.make_files-made-requires
make_files-made-requires g c =
    making_ready g.F.Files c.args.self.now c.args.event c.args.prior.now c.args.answer c.args.next c.args.strays.now c.requires.amid

pub finish-requires-clause-to_note : goal.finish-requires-clause-to_note
finish-requires-clause-to_note g c =
    let s = c.args.self.now in
    let a = c.requires.amid in
    to_note g.F.Files s.drawer _ c.args.event c.args.prior.now.info c.make_files-made.result a.known a.before_is a.held
    (making_with_bytes g.F.Files s c.args.event c.args.prior.now c.args.answer c.args.next c.args.strays.now a) (making_brings g.F.Files s c.args.event c.args.prior.now c.args.answer c.args.next c.args.strays.now _ a)
    (making_carried g.F.Files s c.make_files-made.new.drawer c.args.event c.args.prior.now c.args.answer c.args.next c.args.strays.now c.make_files-made.result a c.make_files-made.ensures)
    (λ _. taken_whole (replica_of s) c.args.event (subst NeedsWhole (sym a.is) (making_for_whole a.making c.args.next a.made_by)) a.takes)
    (left_needing g.F.Files c.make_files-made.new.drawer s.whole (replica_of s) c.args.event (subst NeedsWhole (sym a.is) (making_for_whole a.making c.args.next a.made_by)) a.takes)

pub returns-clause-ends : goal.returns-clause-ends
returns-clause-ends g c =
    let s = c.args.self.now in
    let a = c.requires.amid in
    call_ends g.F.Files s _ c.finish.new.self c.args.event c.args.answer c.make_files-made.result c.finish.result a.takes a.answered refl refl c.finish.ensures.drawer
    (making_carried g.F.Files s c.make_files-made.new.drawer c.args.event c.args.prior.now c.args.answer c.args.next c.args.strays.now c.make_files-made.result a c.make_files-made.ensures)
    (λ _. taken_whole (replica_of s) c.args.event (subst NeedsWhole (sym a.is) (making_for_whole a.making c.args.next a.made_by)) a.takes)
    c.finish.ensures.finishes
