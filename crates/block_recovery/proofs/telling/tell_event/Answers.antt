-- The answer is told after room was taken for it.
use Rattle.block_recovery.proofs.TellingLaws.{tells_after}
use Rattle.block_recovery.proofs.telling.tell_event.Goals as goal

pub returns-in-Ok-book_event-clause-tells : goal.returns-in-Ok-book_event-clause-tells
returns-in-Ok-book_event-clause-tells g c = tells_after g.O.LinkOut c.tell.result c.args.outward.now c.make_room.new.outward c.tell.new.outward c.make_room.ensures.quiet c.tell.ensures.tells

pub returns-in-Err-Refused-clause-tells : goal.returns-in-Err-Refused-clause-tells
returns-in-Err-Refused-clause-tells g c = tells_after g.O.LinkOut c.tell-in-Err-Refused.result c.args.outward.now c.make_room.new.outward c.tell-in-Err-Refused.new.outward c.make_room.ensures.quiet c.tell-in-Err-Refused.ensures.tells

pub returns-in-Err-File-clause-tells : goal.returns-in-Err-File-clause-tells
returns-in-Err-File-clause-tells g c = tells_after g.O.LinkOut c.tell-in-Err-File.result c.args.outward.now c.make_room.new.outward c.tell-in-Err-File.new.outward c.make_room.ensures.quiet c.tell-in-Err-File.ensures.tells

pub returns-in-Err-File-clause-serves : goal.returns-in-Err-File-clause-serves
returns-in-Err-File-clause-serves g c = rw c.tell-in-Err-File.ensures.served (c.in-Ok.ensures.failed, rw c.in-Err-File.field-0-is at c.in-Err-File.ensures)
