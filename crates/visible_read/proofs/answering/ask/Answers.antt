-- The read is booked once there is memory for its answer.
use Rattle.pipe_turns.proofs.StillLemmas.{still}
use Rattle.visible_read.proofs.ReadLemmas.{answers, wants-asked}
use Rattle.visible_read.proofs.answering.ask.Goals as goal

pub returns-in_default-clause-answers : goal.returns-in_default-clause-answers
returns-in_default-clause-answers g c =
    wants-asked g.F.Files g.O.LinkOut c.args.op.now c.args.book.now c.args.out.now c.args.out.now c.wanting.result c.requires (still g.O.LinkOut c.args.out.now) c.wanting.ensures

pub returns-then-is_err-clause-answers : goal.returns-then-is_err-clause-answers
returns-then-is_err-clause-answers g c =
    wants-asked g.F.Files g.O.LinkOut c.args.op.now c.args.book.now c.args.out.now c.make_rooms.new.out c.wanting-then-is_err.result c.requires c.make_rooms.ensures.quiet c.wanting-then-is_err.ensures

pub returns-clause-answers : goal.returns-clause-answers
returns-clause-answers g c =
    answers g.F.Files g.O.LinkOut c.args.op.now c.args.book.now c.admit_read-booked.new.self c.args.out.now c.make_rooms.new.out c.follow.new.out c.follow.result
    c.admit_read-booked.result c.replica.result.now c.foretold-begun.result c.requires c.admit_read-booked.ensures c.replica.ensures.replica
    c.replica.ensures.kept c.foretold-begun.ensures.value c.make_rooms.ensures.quiet c.follow.ensures.tells
