-- What becomes of a writer's end in an event.
use Rattle.std.specs.Prelude.{◌≡◌, Bool, true, false, Option, Result, Ok, Err}
use Rattle.hd_base.specs.declared.ends.Conn.{Conn}
use Rattle.hd_base.specs.declared.numbers.ConnId.{ConnId}
use Rattle.hd_base.specs.declared.links.LinkIn as link_in
use Rattle.hd_base.specs.declared.links.LinkOut as link_out
use Rattle.hd_base.specs.declared.roads.Roads as roads
use Rattle.pipe_recovery.specs.LinkMessages.Incomings.{IncomingState}
use Rattle.link_pieces.specs.Roads.{KeepsInward, ExchangesEnd, BringsEnd, names}
use Rattle.road_traffic.specs.Laws.{IsShutHalf}
use Rattle.client_events.specs.declared.faults.ClientFault.{ClientFault}
use Rattle.client_events.specs.declared.faults.ClientFault.TheVariants as fault
use Rattle.client_events.specs.declared.pipes.Pipe.{Pipe}
use Rattle.client_events.specs.declared.pipes.Pipe.TheVariants as pipe
use Rattle.client_events.specs.Faults.{IsRoadFault}

-- The end was exchanged, or the exchange failed.
abbrev pub IsExchanged : {R I O : Type 0} → roads.Ghosts R I O → link_in.Ghosts I → link_out.Ghosts O →
    Option ConnId → Conn I O → R → R → Result (Conn I O) ClientFault → Type 0
IsExchanged r i o take old road road' (Ok new) = ExchangesEnd r i o (names take old.id) old new road road' (Ok tt)
IsExchanged r i o take old road road' (Err why) = IsRoadFault (r.faults road) (r.faults road') why

-- An end whose link failed was brought back, or memory ran out.
abbrev pub IsLost : {R I O : Type 0} → roads.Ghosts R I O → link_in.Ghosts I → link_out.Ghosts O → Conn I O → R → R →
    ClientFault → Type 0
IsLost r i o end road road' fault.LinkFailed = BringsEnd r i o end road road' (Ok tt)
IsLost r i o end road road' fault.Memory = Unit {0}
IsLost r i o end road road' other = ⊥

-- An end was exchanged without a take, and is kept with what was received on it.
abbrev pub IsKept : {R I O : Type 0} → roads.Ghosts R I O → link_in.Ghosts I → link_out.Ghosts O → Conn I O →
    IncomingState → R → R → Result (Pipe I O) ClientFault → Type 0
IsKept r i o old incoming road road' (Ok (pipe.Streaming new left)) =
    ExchangesEnd r i o false old new road road' (Ok tt) × (left ≡ incoming)
IsKept r i o old incoming road road' (Ok other) = ⊥
IsKept r i o old incoming road road' (Err why) = IsRoadFault (r.faults road) (r.faults road') why

-- An end was shut, and brought back.
pub record GivesBack {R I O : Type 0} (r : roads.Ghosts R I O) (i : link_in.Ghosts I) (o : link_out.Ghosts O)
    (end : Conn I O) (road road' : R) : Type 0 where
  pub shut : Conn I O
  pub kept : KeepsInward end shut
  pub half : IsShutHalf o end.outward shut.outward
  pub brings : BringsEnd r i o shut road road' (Ok tt)

-- It was, and there is no connection left, or memory ran out.
abbrev pub IsGivenBack : {R I O : Type 0} → roads.Ghosts R I O → link_in.Ghosts I → link_out.Ghosts O → Conn I O → R →
    R → Result (Pipe I O) ClientFault → Type 0
IsGivenBack r i o end road road' (Ok pipe.Closed) = GivesBack r i o end road road'
IsGivenBack r i o end road road' (Ok other) = ⊥
IsGivenBack r i o end road road' (Err why) = why ≡ fault.Memory

-- What follows where the writer still has the connection, or doesn't.
abbrev pub IsSettled : {R I O : Type 0} → roads.Ghosts R I O → link_in.Ghosts I → link_out.Ghosts O → Bool →
    Conn I O → IncomingState → R → R → Result (Pipe I O) ClientFault → Type 0
IsSettled r i o true end incoming road road' result = IsKept r i o end incoming road road' result
IsSettled r i o false end incoming road road' result = IsGivenBack r i o end road road' result
