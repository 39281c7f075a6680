-- The history has room first, and then a buffer is made.
use Rattle.std.proofs.Common.{Err, arith}
use Rattle.std.proofs.lemmas.Result.{err_from_is_err_and}
use Rattle.replica_model.specs.declared.events.ReplicaEvent.TheVariants as replica_event
use Rattle.replica_files.proofs.EndLemmas.{ends_prepared, prepared_then, reserved, stays_book}
use Rattle.replica_files.proofs.ReadLemmas.{read_from}
use Rattle.replica_files.proofs.book_state.BookState.read_ahead.Goals as goal

pub returns-in_err-read_prepared-clause-ends : goal.returns-in_err-read_prepared-clause-ends
returns-in_err-read_prepared-clause-ends g c =
    let failed = err_from_is_err_and c.from_residual-in_err-read_prepared.result c.from_residual-in_err-read_prepared.ensures.1 in
    rw (failed.1, failed.2)
    (ends_prepared g.F.Files c.args.self.now _ c.read_prepared.new.self (replica_event.Other c.args.event.now) (Err _)
    (reserved g.F.Files c.args.self.now c.reserve_entry.new.history c.reserve_entry.ensures.same) c.in_err-read_prepared.ensures.ends)

pub returns-clause-bytes : goal.returns-clause-bytes
returns-clause-bytes g c =
    read_from g.F.Files c.args.self.now _ c.args.offset c.args.count c.read_prepared.new.buffer.items
    (reserved g.F.Files c.args.self.now c.reserve_entry.new.history c.reserve_entry.ensures.same)
    (c.in_ok-read_prepared.ensures.bytes (record { count = c.args.count; reading = c.requires.reading; enough = omega (arith, c.in_ok-buffer.ensures.len, c.min-room.ensures, c.written.ensures, c.in_ok-buffer.buffer.ok) }))

pub returns-clause-stays : goal.returns-clause-stays
returns-clause-stays g c =
    stays_book g.F.Files c.args.self.now c.read_prepared.new.self
    (prepared_then g.F.Files c.args.self.now _ c.read_prepared.new.self (reserved g.F.Files c.args.self.now c.reserve_entry.new.history c.reserve_entry.ensures.same) c.in_ok-read_prepared.ensures.prepared)
