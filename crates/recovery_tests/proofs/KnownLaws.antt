-- Roads that know what they knew know all connections of a primary as before.
use Rattle.std.proofs.Common.{List, get_or, Option, All}
use Rattle.hd_base.specs.Channels.{Plain}
use Rattle.block_recovery.specs.Dialling.{LinkIsKnown, KeepsKnown}
use Rattle.block_recovery.specs.declared.links.Seat.{Seat}
use Rattle.block_recovery.specs.declared.links.Seat.TheVariants as seat

still_known : {I O : Type 0} (old new : Option Plain) (x : Seat I O) → KeepsKnown old new → LinkIsKnown old x → LinkIsKnown new x
still_known old new seat.Empty keeps h = tt
still_known old new seat.Lost keeps h = tt
still_known old new (seat.Open l) keeps h = keeps l.end.id.0 h

pub all_known : {I O : Type 0} (old new : Option Plain) (xs : List (Seat I O)) → KeepsKnown old new → All (LinkIsKnown old) xs → All (LinkIsKnown new) xs
all_known old new xs keeps all = λ j d below. still_known old new (get_or xs j d) keeps (all j d below)
