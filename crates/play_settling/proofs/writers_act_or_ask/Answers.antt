use Rattle.play_settling.proofs.Dialling.{act-or-ask}
use Rattle.play_settling.proofs.writers_act_or_ask.Goals as goal

pub returns : goal.returns
returns c = act-or-ask
