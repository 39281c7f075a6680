-- The room that calls need.
use Rattle.replica_calls.proofs.ListLemmas.{settling_has_room, creates_have_room}
use Rattle.replica_calls.proofs.laws.calls_have_room.Goals as goal

pub returns-clause-settling : goal.returns-clause-settling
returns-clause-settling c = settling_has_room

pub returns-clause-creates : goal.returns-clause-creates
returns-clause-creates c = creates_have_room
