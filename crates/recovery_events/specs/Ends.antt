-- What becomes of an end that answers a primary where it is exchanged, or brought back.
use Rattle.std.specs.Prelude.{◌≡◌, Option, Result, Ok, Err}
use Rattle.hd_base.specs.declared.ends.Conn.{Conn}
use Rattle.hd_base.specs.declared.links.LinkIn as link_in
use Rattle.hd_base.specs.declared.links.LinkOut as link_out
use Rattle.hd_base.specs.declared.numbers.ConnId.{ConnId}
use Rattle.hd_base.specs.declared.roads.Roads as roads
use Rattle.link_pieces.specs.Roads.{names, ExchangesEnd, BringsEnd}
use Rattle.recovery_events.specs.declared.faults.RecoveryFault.{RecoveryFault}
use Rattle.recovery_events.specs.declared.faults.RecoveryFault.TheVariants as fault
use Rattle.recovery_events.specs.Faults.{IsRoadFault}

-- The end was exchanged, or the exchange failed.
abbrev pub IsExchanged : {R I O : Type 0} → roads.Ghosts R I O → link_in.Ghosts I → link_out.Ghosts O →
    Option ConnId → Conn I O → R → R → Result (Conn I O) RecoveryFault → Type 0
IsExchanged r i o take old road road' (Ok new) = ExchangesEnd r i o (names take old.id) old new road road' (Ok tt)
IsExchanged r i o take old road road' (Err why) = IsRoadFault (r.faults road) (r.faults road') why

-- The end was brought back, or memory ran out.
abbrev pub IsBrought : {R I O : Type 0} → roads.Ghosts R I O → link_in.Ghosts I → link_out.Ghosts O → Conn I O → R → R →
    Result (Unit {0}) RecoveryFault → Type 0
IsBrought r i o at_end road road' (Ok u) = BringsEnd r i o at_end road road' (Ok u)
IsBrought r i o at_end road road' (Err why) = why ≡ fault.Memory

-- An end whose link has failed was brought back, or memory ran out.
abbrev pub IsBroken : {R I O : Type 0} → roads.Ghosts R I O → link_in.Ghosts I → link_out.Ghosts O → Conn I O → R → R →
    RecoveryFault → Type 0
IsBroken r i o at_end road road' fault.LinkFailed = BringsEnd r i o at_end road road' (Ok tt)
IsBroken r i o at_end road road' fault.Memory = Unit {0}
IsBroken r i o at_end road road' fault.RoadsFailed = ⊥
