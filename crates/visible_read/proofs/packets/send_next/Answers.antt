-- Where the bytes aren't given, that is booked.
use Rattle.std.proofs.Common.{Err, subst}
use Rattle.pipe_turns.specs.ReplicaFiles.Endings.{BookEnds}
use Rattle.read_core.specs.ReplicaModel.ReplicaEvent.TheVariants as replica_event
use Rattle.pipe_turns.proofs.StillLemmas.{still}
use Rattle.visible_read.proofs.packets.send_next.Goals as goal

pub returns-in-Err-clause-sends : goal.returns-in-Err-clause-sends
returns-in-Err-clause-sends g c =
    record {
      booked = Err c.in-Err.fault;
      ends = subst (λ e. BookEnds g.F.Files c.args.book.now c.read_ahead.new.self (replica_event.Other e) (Err c.in-Err.fault)) c.asked-offset.ensures c.in-Err.ensures.ends;
      sends = (c.faulted.ensures.value, still g.O.LinkOut c.args.out.now);
    }
