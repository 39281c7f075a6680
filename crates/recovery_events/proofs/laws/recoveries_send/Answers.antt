use Rattle.recovery_events.proofs.SendingLemmas.{recovery_sends}
use Rattle.recovery_events.proofs.laws.recoveries_send.Goals as goal

pub returns : goal.returns
returns c = recovery_sends
