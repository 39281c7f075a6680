-- No answer of the office waits for a writer between the things that are due.
use Rattle.world.specs.Worlds.{World}
use Rattle.world.specs.Events.{run}
use Rattle.play_model.specs.declared.dues.Due.{Due}
use Rattle.play_model.specs.Dues.{Queues, due_events}
use Rattle.play_model.specs.Laws.{IsQuiet}

-- Where none waits before the events of what is due, none waits after them, in every world.
abbrev pub StaysQuiet : Type 0
StaysQuiet = (w : World) (queues : Queues) (d : Due) → IsQuiet w → IsQuiet (run w (due_events w queues d))
