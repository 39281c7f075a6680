-- A bad chunk has one of the packet's sums.
use Rattle.replica_model.proofs.BadLemmas.{packet_lawful}
use Rattle.replica_model.proofs.events.packet_event.Goals as goal

pub returns-clause-lawful : goal.returns-clause-lawful
returns-clause-lawful c =
    rw c.len-2.ensures.value (packet_lawful c.args.rule c.args.packet.now c.bad_under.result c.bad_under.ensures)
