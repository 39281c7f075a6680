-- By what an event keeps.
use Rattle.world.specs.Events.{run}
use Rattle.play_model.specs.Dues.{due_events}
use Rattle.play_dues.proofs.SpentLaws.{nothing_due}
use Rattle.play_dues.proofs.SpentStays.{due_keeps, spent_on}
use Rattle.play_dues.proofs.spending.spent_connections_stay.Goals as goal

pub returns : goal.returns
returns c = record {
  dues = λ w queues conn h lt is. nothing_due w queues conn h.placed lt is;
  stay = λ w queues d conn h primaries due_is lt is. spent_on w (run w (due_events w queues d)) h.placed primaries (due_keeps w queues d h due_is) conn lt is;
}
