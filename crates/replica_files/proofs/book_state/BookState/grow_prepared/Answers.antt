-- An event that was taken ends from the book before the step.
use Rattle.std.proofs.Common.{Err, subst}
use Rattle.packet_codec.specs.declared.packets.Packet.{Packet}
use Rattle.replica_model.specs.declared.events.ReplicaEvent.TheVariants as replica_event
use Rattle.replica_files.specs.Endings.{CallEnds}
use Rattle.replica_files.proofs.EndLemmas.{ends_stepped, ends_refused}
use Rattle.replica_files.proofs.book_state.BookState.grow_prepared.Goals as goal

pub returns-in-Ok-clause-ends : goal.returns-in-Ok-clause-ends
returns-in-Ok-clause-ends g c =
    subst (λ (p : Packet). CallEnds g.F.Files c.args.self.now c.grow_taken.new.self (replica_event.Packet c.args.conn p) c.grow_taken.result) c.requires.same
    (ends_stepped g.F.Files c.args.self.now c.step.new.self c.grow_taken.new.self (replica_event.Packet c.args.conn c.args.kept) c.grow_taken.result c.step.ensures.kept c.grow_taken.ensures.ends)

pub returns-in-Err-clause-ends : goal.returns-in-Err-clause-ends
returns-in-Err-clause-ends g c =
    subst (λ (p : Packet). CallEnds g.F.Files c.args.self.now c.refuse.new.self (replica_event.Packet c.args.conn p) (Err c.refuse.result)) c.requires.same
    (ends_refused g.F.Files c.args.self.now c.step.new.self c.refuse.new.self (replica_event.Packet c.args.conn c.args.kept) c.refuse.result c.step.ensures.kept c.refuse.ensures.ends)
