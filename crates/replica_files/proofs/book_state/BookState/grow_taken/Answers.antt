-- The files grow, and the entry is added.
use Rattle.std.proofs.Common.{refl, sym, subst}
use Rattle.replica_files.specs.Books.{replica_of}
use Rattle.replica_files.specs.Events.{NeedsWhole}
use Rattle.replica_files.proofs.StepLemmas.{taken_whole}
use Rattle.replica_files.proofs.EndLemmas.{to_note, call_ends}
use Rattle.replica_files.proofs.LeftLemmas.{left_needing}
use Rattle.replica_files.proofs.GrowLemmas.{packet_carried, packet_with_bytes, packet_brings}
use Rattle.replica_files.proofs.book_state.BookState.grow_taken.Goals as goal

pub finish-requires-clause-to_note : goal.finish-requires-clause-to_note
finish-requires-clause-to_note g c =
    let s = c.args.self.now in
    let a = c.requires.amid in
    to_note g.F.Files s.drawer _ c.args.event c.args.prior.now.info c.grow_info-made.result a.known a.before_is a.held
    (packet_with_bytes g.F.Files s c.args.event c.args.prior.now c.args.answer c.args.packet.now c.args.growth a)
    (packet_brings g.F.Files s c.args.event c.args.prior.now c.args.answer c.args.packet.now c.args.growth _ a)
    (packet_carried g.F.Files s c.grow_info-made.new.drawer c.args.event c.args.prior.now c.args.answer c.args.packet.now c.args.growth c.grow_info-made.result a c.grow_info-made.ensures)
    (λ _. taken_whole (replica_of s) c.args.event (subst NeedsWhole (sym a.is) tt) a.takes)
    (left_needing g.F.Files c.grow_info-made.new.drawer s.whole (replica_of s) c.args.event (subst NeedsWhole (sym a.is) tt) a.takes)

pub returns-clause-ends : goal.returns-clause-ends
returns-clause-ends g c =
    let s = c.args.self.now in
    let a = c.requires.amid in
    call_ends g.F.Files s _ c.finish.new.self c.args.event c.args.answer c.grow_info-made.result c.finish.result a.takes a.answered refl refl c.finish.ensures.drawer
    (packet_carried g.F.Files s c.grow_info-made.new.drawer c.args.event c.args.prior.now c.args.answer c.args.packet.now c.args.growth c.grow_info-made.result a c.grow_info-made.ensures)
    (λ _. taken_whole (replica_of s) c.args.event (subst NeedsWhole (sym a.is) tt) a.takes)
    c.finish.ensures.finishes
