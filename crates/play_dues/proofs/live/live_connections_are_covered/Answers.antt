-- By what is spent.
use Rattle.play_dues.proofs.LiveLaws.{current_covers, covers_on}
use Rattle.play_dues.proofs.live.live_connections_are_covered.Goals as goal

pub returns : goal.returns
returns c = record {
  current = λ w live h. current_covers w live h;
  on = λ w queues d live h placed is covers. covers_on w queues d live h placed is covers;
}
