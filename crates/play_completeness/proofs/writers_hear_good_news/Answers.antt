use Rattle.play_completeness.proofs.WriterHearing.{writers-hear}
use Rattle.play_completeness.proofs.writers_hear_good_news.Goals as goal

pub returns : goal.returns
returns c = writers-hear
