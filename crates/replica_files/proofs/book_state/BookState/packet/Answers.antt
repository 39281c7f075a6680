-- The history has room first, and then the files.
use Rattle.replica_model.specs.declared.events.ReplicaEvent.TheVariants as replica_event
use Rattle.replica_files.proofs.EndLemmas.{ends_prepared, reserved, prepared_then}
use Rattle.replica_files.proofs.book_state.BookState.packet.Goals as goal

pub returns-in-Ok-clause-ends : goal.returns-in-Ok-clause-ends
returns-in-Ok-clause-ends g c =
    ends_prepared g.F.Files c.args.self.now c.prepare_growth.new.self c.grow_prepared.new.self (replica_event.Packet c.args.conn c.args.packet.now) c.grow_prepared.result
    (prepared_then g.F.Files c.args.self.now _ c.prepare_growth.new.self (reserved g.F.Files c.args.self.now c.reserve_entry.new.history c.reserve_entry.ensures.same) c.prepare_growth.ensures.prepared)
    c.grow_prepared.ensures.ends
