-- The links of a primary that have failed.
use Rattle.std.specs.Prelude.{Bool, false}
use Rattle.block_recovery.specs.declared.links.Seat.{Seat}
use Rattle.block_recovery.specs.declared.links.Seat.TheVariants as seat

-- the link of the connection, if there is one, failed when something was sent
abbrev pub link_failed : {I O : Type 0} → Seat I O → Bool
link_failed (seat.Open l) = l.failed
link_failed seat.Empty = false
link_failed seat.Lost = false
