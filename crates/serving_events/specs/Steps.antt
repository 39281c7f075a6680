-- A step of the serving of a read, and what follows it.
use Rattle.std.specs.Prelude.{◌≡◌, ◌&&◌, not, Bool, true, false, Option, Some, None, Result, Ok, Err}
use Rattle.hd_base.specs.Channels.{Plain}
use Rattle.hd_base.specs.Ends.{IsKnown}
use Rattle.hd_base.specs.declared.ends.Conn.{Conn}
use Rattle.hd_base.specs.declared.files.Files as files
use Rattle.hd_base.specs.declared.links.LinkIn as link_in
use Rattle.hd_base.specs.declared.links.LinkOut as link_out
use Rattle.hd_base.specs.declared.numbers.ConnId.{ConnId}
use Rattle.hd_base.specs.declared.roads.Roads as roads
use Rattle.link_pieces.specs.Roads.{names, KeepsInward, ExchangesEnd, BringsEnd}
use Rattle.member_events.specs.ReplicaFiles.BookState.{BookState}
use Rattle.member_events.specs.ReplicaFiles.Books.{IsBookOf}
use Rattle.visible_read.specs.declared.answering.Served.{Served}
use Rattle.visible_read.specs.declared.answering.Served.TheVariants as served
use Rattle.visible_read.specs.Servings.{Steps}
use Rattle.member_events.specs.Beginning.{Closes}
use Rattle.serving_events.specs.declared.faults.ServeFault.{ServeFault}
use Rattle.serving_events.specs.declared.faults.ServeFault.TheVariants as fault
use Rattle.serving_events.specs.declared.steps.Outcome.{Outcome}
use Rattle.serving_events.specs.declared.steps.Outcome.TheVariants as outcome
use Rattle.serving_events.specs.declared.steps.ServedRead.{ServedRead}
use Rattle.serving_events.specs.declared.steps.Stepped.{Stepped}
use Rattle.serving_events.specs.Faults.{IsRoadFault}

-- A STEP

-- A step of the serving of a read over its end, and whether the replica broke in it.
pub record StepsRead {F I O : Type 0} (f : files.Ghosts F) (o : link_out.Ghosts O) (read : ServedRead I O)
    (book book' : BookState F) (new : Stepped I O) : Type 0 where
  pub keeps : KeepsInward read.end new.read.end
  pub steps : Steps f o read.serving new.read.serving book book' read.end.outward new.read.end.outward new.served
  pub before : IsBookOf f book
  pub after : IsBookOf f book'
  pub breaks : new.breaks ≡ (book'.replica.is_broken && not book.replica.is_broken)

-- ONE END

-- The end was exchanged, or the exchange failed.
abbrev pub IsExchanged : {R I O : Type 0} → roads.Ghosts R I O → link_in.Ghosts I → link_out.Ghosts O →
    Option ConnId → Conn I O → R → R → Result (Conn I O) ServeFault → Type 0
IsExchanged r i o take old road road' (Ok new) = ExchangesEnd r i o (names take old.id) old new road road' (Ok tt)
IsExchanged r i o take old road road' (Err why) = IsRoadFault (r.faults road) (r.faults road') why

-- The end was brought back, or memory ran out.
abbrev pub IsBrought : {R I O : Type 0} → roads.Ghosts R I O → link_in.Ghosts I → link_out.Ghosts O → Conn I O → R → R →
    Result (Unit {0}) ServeFault → Type 0
IsBrought r i o at_end road road' (Ok u) = BringsEnd r i o at_end road road' (Ok u)
IsBrought r i o at_end road road' (Err why) = why ≡ fault.Memory

-- The end was shut and brought back, or memory ran out.
abbrev pub IsClosed : {R I O : Type 0} → roads.Ghosts R I O → link_in.Ghosts I → link_out.Ghosts O → Conn I O → R → R →
    Result (Unit {0}) ServeFault → Type 0
IsClosed r i o at_end road road' (Ok u) = Closes r i o at_end road road'
IsClosed r i o at_end road road' (Err why) = why ≡ fault.Memory

-- An end whose link failed was brought back, or memory ran out.
abbrev pub IsLost : {R I O : Type 0} → roads.Ghosts R I O → link_in.Ghosts I → link_out.Ghosts O → Conn I O → R → R →
    ServeFault → Type 0
IsLost r i o at_end road road' fault.LinkFailed = BringsEnd r i o at_end road road' (Ok tt)
IsLost r i o at_end road road' fault.Memory = Unit {0}
IsLost r i o at_end road road' other = ⊥

-- WHAT FOLLOWS

-- The event failed so.
abbrev pub FailsBy : {I O : Type 0} → (ServeFault → Type 0) → Result (Outcome I O) ServeFault → Type 0
FailsBy P (Ok left) = ⊥
FailsBy P (Err why) = P why

-- A read that goes on keeps its serving, and its end is exchanged.
abbrev pub PlacesOpen : {R I O : Type 0} → roads.Ghosts R I O → link_in.Ghosts I → link_out.Ghosts O →
    ServedRead I O → R → R → Result (Outcome I O) ServeFault → Type 0
PlacesOpen r i o read road road' (Ok (outcome.Serves new)) =
    (new.serving ≡ read.serving) × ExchangesEnd r i o false read.end new.end road road' (Ok tt)
PlacesOpen r i o read road road' (Ok other) = ⊥
PlacesOpen r i o read road road' (Err why) = IsRoadFault (r.faults road) (r.faults road') why

-- A read that has ended, in a step in which the replica broke or not: its end is shut and brought back.
abbrev pub PlacesShut : {R I O : Type 0} → roads.Ghosts R I O → link_in.Ghosts I → link_out.Ghosts O → Bool →
    Conn I O → R → R → Result (Outcome I O) ServeFault → Type 0
PlacesShut r i o breaks at_end road road' (Ok (outcome.Serves new)) = ⊥
PlacesShut r i o breaks at_end road road' (Ok outcome.Ended) = (breaks ≡ false) × Closes r i o at_end road road'
PlacesShut r i o breaks at_end road road' (Ok outcome.Faulted) = (breaks ≡ true) × Closes r i o at_end road road'
PlacesShut r i o breaks at_end road road' (Err why) = why ≡ fault.Memory

-- What follows a step by which the serving ended so, or goes on.
abbrev pub IsPlaced : {R I O : Type 0} → roads.Ghosts R I O → link_in.Ghosts I → link_out.Ghosts O → Option Served →
    Stepped I O → R → R → Result (Outcome I O) ServeFault → Type 0
IsPlaced r i o None s road road' result = PlacesOpen r i o s.read road road' result
IsPlaced r i o (Some (served.Sent packets)) s road road' result = PlacesOpen r i o s.read road road' result
IsPlaced r i o (Some served.LinkFailed) s road road' result = FailsBy (IsLost r i o s.read.end road road') result
IsPlaced r i o (Some served.Memory) s road road' result = FailsBy (λ why. why ≡ fault.Memory) result
IsPlaced r i o (Some other) s road road' result = PlacesShut r i o s.breaks s.read.end road road' result

-- The roads know the end of a read that goes on.
abbrev pub LeftIsKnown : {I O : Type 0} → Option Plain → Result (Outcome I O) ServeFault → Type 0
LeftIsKnown plain (Ok (outcome.Serves read)) = IsKnown plain read.end.id.0
LeftIsKnown plain other = Unit {0}
