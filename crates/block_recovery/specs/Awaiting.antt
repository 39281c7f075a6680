-- What a primary waits for, and on which connections something may come.
use Rattle.std.specs.Prelude.{Bool, false, if◌then◌else◌, Option, Some, None}
use Rattle.hd_base.specs.declared.numbers.ConnId.{ConnId}
use Rattle.recovery_core.specs.Primaries.{PrimaryState, commits, waits}
use Rattle.block_recovery.specs.declared.links.Seat.{Seat}
use Rattle.block_recovery.specs.declared.links.Seat.TheVariants as seat

-- an answer of some member is awaited
abbrev pub waits_for : Option PrimaryState → Bool
waits_for None = false
waits_for (Some p) = waits p.standings

-- its next own step asks the office to commit
abbrev pub commits_next : Option PrimaryState → Bool
commits_next None = false
commits_next (Some p) = commits p

-- the connection, if there is one whose end wasn't taken
abbrev pub hearing_conn : {I O : Type 0} → Option (Seat I O) → Option ConnId
hearing_conn (Some (seat.Open l)) = if l.over then None else Some l.end.id
hearing_conn other = None
