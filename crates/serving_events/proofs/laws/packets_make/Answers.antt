-- By the lemma on worlds.
use Rattle.serving_events.proofs.DrawnLaws.{packet_makes}
use Rattle.serving_events.proofs.laws.packets_make.Goals as goal

pub returns : goal.returns
returns c = packet_makes
