-- By the lemma on worlds.
use Rattle.serving_events.proofs.DrawnLaws.{read_sends}
use Rattle.serving_events.proofs.laws.reads_send.Goals as goal

pub returns : goal.returns
returns c = read_sends
