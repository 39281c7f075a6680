-- What becomes of roads and ends where a port is dialled, an end is exchanged, and one is given up.
use Rattle.std.specs.Prelude.{◌≡◌, ◌⊎◌, ◌||◌, ◌&&◌, ◌==◌, ℕ, ◌≤◌, Bool, true, false, [], Option, Some, None, option_map, IfSome, OnOk, OnErr, Result}
use Rattle.hd_base.specs.Channels.{empty_channel, with_dial}
use Rattle.hd_base.specs.Ends.{has_failed, IsFresh, IsObservable, FailBy, KeepsEnd, CarriesOf, CarriesFlushed, Flushes, FlushesAll, Exchanges, TakesNext, KeepsConnections}
use Rattle.hd_base.specs.Faults.{FaultsIncreased, FollowsSchedule, KeepsSchedule}
use Rattle.hd_base.specs.RoadCauses.{RoadCause, OnlyMemory}
use Rattle.hd_base.specs.declared.ends.Conn.{Conn}
use Rattle.hd_base.specs.declared.ends.RoadError.{RoadError}
use Rattle.hd_base.specs.declared.numbers.ConnId.{ConnId}
use Rattle.hd_base.specs.declared.links.LinkIn as link_in
use Rattle.hd_base.specs.declared.links.LinkOut as link_out
use Rattle.hd_base.specs.declared.roads.Roads as roads

-- The roads hold and have carried what they had before.
pub record KeepsRoads {R I O : Type 0} (r : roads.Ghosts R I O) (old new : R) : Type 0 where
  pub plain : r.plain new ≡ r.plain old
  pub carried : r.carried new ≡ r.carried old
  pub risen : r.risen new ≡ r.risen old
  pub never_falls : r.faults old ≤ r.faults new

-- A dial of this port was answered, by this end.
pub record IsDialled {R I O : Type 0} (r : roads.Ghosts R I O) (i : link_in.Ghosts I) (o : link_out.Ghosts O)
    (port : ℕ) (old new : R) (end : Conn I O) : Type 0 where
  pub upper : end.lower ≡ false
  pub number : IfSome (r.plain old) (λ p. end.id.0 ≡ p.dialled)
  pub fresh : IsFresh i o end
  pub observable : IfSome (r.plain old) (λ _. IsObservable i o end)
  pub fail_by : FailBy i o end (r.schedule new)
  pub unused : IfSome (r.carried old) (λ k. (d : Bool) → k end.id.0 d ≡ [])
  pub empty : IfSome (r.plain old) (λ p. (d : Bool) → p.channels end.id.0 d ≡ empty_channel)
  pub plain : r.plain new ≡ option_map (λ p. with_dial p port) (r.plain old)
  pub carried : r.carried new ≡ r.carried old
  pub risen : r.risen new ≡ r.risen old
  pub never_falls : r.faults old ≤ r.faults new

-- The dial wasn't answered: nobody listens there, or the roads' count of faults rose.
pub record IsUnanswered {R I O : Type 0} (r : roads.Ghosts R I O) (port : ℕ) (old new : R) : Type 0 where
  pub kept : KeepsRoads r old new
  pub cause : IfSome (r.plain old) (λ p. p.listening port ≡ false) ⊎ FaultsIncreased (r.faults old) (r.faults new)

-- All but the outward half is as it was.
pub record KeepsInward {I O : Type 0} (old new : Conn I O) : Type 0 where
  pub id : new.id ≡ old.id
  pub lower : new.lower ≡ old.lower
  pub inward : new.inward ≡ old.inward

-- this names the connection
abbrev pub names : Option ConnId → ConnId → Bool
names None conn = false
names (Some named) conn = named.0 == conn.0

-- An end is exchanged, as the roads' call says.
pub record ExchangesEnd {R I O : Type 0} (r : roads.Ghosts R I O) (i : link_in.Ghosts I) (o : link_out.Ghosts O)
    (take : Bool) (old new : Conn I O) (roads roads' : R) (result : Result (Unit {0}) RoadError) : Type 0 where
  pub flushed : OnOk result (FlushesAll o old new (r.plain roads))
  pub carried : OnOk result (CarriesFlushed o old (r.plain roads) (r.carried roads) (r.carried roads'))
  pub plain : OnOk result (Exchanges i o old take (r.plain roads) (r.plain roads'))
  pub taken : OnOk result (TakesNext i o old new take (r.plain roads))
  pub untaken : take ≡ false → i.held new.inward ≡ i.held old.inward
  pub connections : KeepsConnections (r.plain roads) (r.plain roads')
  pub kept : KeepsEnd i o old new
  pub risen : r.risen roads' ≡ r.risen roads
  pub err_plain : OnErr result (r.plain roads' ≡ r.plain roads)
  pub err_carried : OnErr result (r.carried roads' ≡ r.carried roads)
  pub err_held : OnErr result (i.held new.inward ≡ i.held old.inward)
  pub err_flushed : OnErr result (o.flushed new.outward ≡ o.flushed old.outward)
  pub cause : RoadCause (r.faults roads) (r.faults roads') result
  pub schedule : FollowsSchedule (r.schedule roads) (r.schedule roads') (r.faults roads) (r.faults roads') result

-- An end is brought back, as the roads' call says.
pub record BringsEnd {R I O : Type 0} (r : roads.Ghosts R I O) (i : link_in.Ghosts I) (o : link_out.Ghosts O)
    (end : Conn I O) (roads roads' : R) (result : Result (Unit {0}) RoadError) : Type 0 where
  pub carried : OnOk result (CarriesOf o end (r.carried roads) (r.carried roads'))
  pub plain : OnOk result (Flushes i o end (r.plain roads) (r.plain roads'))
  pub connections : KeepsConnections (r.plain roads) (r.plain roads')
  pub risen : OnOk result ((c : ℕ) → r.risen roads' c ≡ (r.risen roads c || ((end.id.0 == c) && has_failed i o end)))
  pub err_carried : OnErr result (r.carried roads' ≡ r.carried roads)
  pub err_plain : OnErr result (r.plain roads' ≡ r.plain roads)
  pub err_risen : OnErr result (r.risen roads' ≡ r.risen roads)
  pub cause : OnlyMemory (r.faults roads) (r.faults roads') result
  pub schedule : KeepsSchedule (r.schedule roads) (r.schedule roads') (r.faults roads) (r.faults roads')

-- An end is shut, and brought back; where that finds no memory, the roads stay.
pub record GivesUp {R I O : Type 0} (r : roads.Ghosts R I O) (i : link_in.Ghosts I) (o : link_out.Ghosts O)
    (end : Conn I O) (old new : R) : Type 0 where
  pub shut : Conn I O
  pub result : Result (Unit {0}) RoadError
  pub kept : KeepsInward end shut
  pub is_shut : o.shut shut.outward ≡ true
  pub sent : o.sent shut.outward ≡ o.sent end.outward
  pub flushed : o.flushed shut.outward ≡ o.flushed end.outward
  pub lost : o.lost shut.outward ≡ o.lost end.outward
  pub never_falls : o.faults end.outward ≤ o.faults shut.outward
  pub brings : BringsEnd r i o shut old new result
