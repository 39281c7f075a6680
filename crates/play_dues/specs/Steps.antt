-- Which writers, readers and primaries have an own step.
use Rattle.std.specs.Prelude.{List, ◌++◌}
use Rattle.play_model.specs.declared.dues.Due.{Due}
use Rattle.play_clients.specs.declared.clients.Client.{Client}
use Rattle.play_reads.specs.declared.reads.Reads.{Reads}
use Rattle.play_recoveries.specs.declared.recoveries.Recoveries.{Recoveries}
use Rattle.play_dues.specs.Own.{own_listed}
use Rattle.play_dues.specs.Primaries.{primaries_listed}
use Rattle.play_dues.specs.Readers.{readers_listed}

-- the own steps of the writers, then those of the readers, and then those of the primaries
abbrev pub steps_listed : {I O : Type 0} → List (Client I O) → Reads I O → Recoveries I O → List Due
steps_listed clients reads recoveries =
    own_listed clients ++ (readers_listed reads.clients.items ++ primaries_listed recoveries.clients.items)
