-- A turn that is ready can be booked.
use Rattle.std.proofs.Common.{sym}
use Rattle.pipe_turns.proofs.TurnLemmas.{ready_doable, unspelled}
use Rattle.pipe_member.proofs.member.Member.ready.Goals as goal

pub turn-requires-clause-book : goal.turn-requires-clause-book
turn-requires-clause-book g c = (ready_doable c.in-Open.core c.replica.result.now c.in-Some.turn (sym c.in-Some.ensures)).can _

pub turn-requires-clause-listed : goal.turn-requires-clause-listed
turn-requires-clause-listed g c = (ready_doable c.in-Open.core c.replica.result.now c.in-Some.turn (sym c.in-Some.ensures)).listed

pub turn-requires-clause-spelled : goal.turn-requires-clause-spelled
turn-requires-clause-spelled g c = unspelled _
