-- What calls make of roads and ends that show the connections.
use Rattle.std.specs.Prelude.{◌≡◌, ℕ, not, Bool, true, false, cond, List, [], ◌∷◌, ◌++◌, Option, Some, None, OnOk, Result, Ok, Err}
use Rattle.hd_base.specs.Links.{Inbox}
use Rattle.hd_base.specs.declared.ends.Conn.{Conn}
use Rattle.hd_base.specs.declared.ends.RoadError.{RoadError}
use Rattle.hd_base.specs.declared.links.LinkIn as link_in
use Rattle.hd_base.specs.declared.links.LinkOut as link_out
use Rattle.hd_base.specs.declared.roads.Roads as roads
use Rattle.link_pieces.specs.Pieces.{KeepsHalf, SendsNothing, SendsPiece}
use Rattle.link_pieces.specs.Roads.{KeepsRoads, KeepsInward, IsDialled, ExchangesEnd, BringsEnd, GivesUp}
use Rattle.road_traffic.specs.Traffic.{Traffics}
use Rattle.road_traffic.specs.Showing.{Net, IsSane, RoadsShow, EndIs, BothShow, no_inbox, flushed_net, lost_net, dialled_net, ShowsExchange, ShowsLoss}

-- ROADS AND ENDS

-- An exchange flushes what the end sent, and takes what stands next or not.
abbrev pub ExchangesShow : (R I O : Type 0) → roads.Ghosts R I O → link_in.Ghosts I → link_out.Ghosts O → Type 0
ExchangesShow R I O r i o =
    (takes : Bool) (old new : Conn I O) (road road' : R) (result : Result (Unit {0}) RoadError) →
    ExchangesEnd r i o takes old new road road' result → ShowsExchange r i o takes old new road road' result

-- An end that is given up is lost, where that found memory.
abbrev pub LossesShow : (R I O : Type 0) → roads.Ghosts R I O → link_in.Ghosts I → link_out.Ghosts O → Type 0
LossesShow R I O r i o =
    (end : Conn I O) (road road' : R) (given : GivesUp r i o end road road') →
    ShowsLoss r i o end road road' given.result

-- the connections once an end was brought back that was shut or not
abbrev pub left_net : Bool → Net → ℕ → Bool → List (List ℕ) → Net
left_net shut net conn lower messages = cond shut (lost_net net conn lower messages)
    (flushed_net net conn lower false messages)

-- An end that is brought back flushes what it sent; one that was shut before is lost.
abbrev pub BringsShow : (R I O : Type 0) → roads.Ghosts R I O → link_in.Ghosts I → link_out.Ghosts O → Type 0
BringsShow R I O r i o =
    (end : Conn I O) (road road' : R) (result : Result (Unit {0}) RoadError) → BringsEnd r i o end road road' result →
    (net : Net) (shut : Bool) (extra : List (List ℕ)) (inbox : Inbox) → IsSane net →
    BothShow r i o net shut extra inbox road end →
    OnOk result (RoadsShow r (left_net shut net end.id.0 end.lower extra) road')

-- The upper end of a dial that was answered: it is the next one, and the dial waits at its port.
pub record ShowsDialled {R I O : Type 0} (r : roads.Ghosts R I O) (i : link_in.Ghosts I) (o : link_out.Ghosts O)
    (net : Net) (port : ℕ) (road : R) (at_end : Conn I O) : Type 0 where
  pub number : at_end.id.0 ≡ net.conns
  pub upper : at_end.lower ≡ false
  pub both : BothShow r i o (dialled_net net port) false [] no_inbox road at_end

abbrev pub DialsShow : (R I O : Type 0) → roads.Ghosts R I O → link_in.Ghosts I → link_out.Ghosts O → Type 0
DialsShow R I O r i o =
    (port : ℕ) (road road' : R) (end : Conn I O) → IsDialled r i o port road road' end →
    (net : Net) → IsSane net → RoadsShow r net road → ShowsDialled r i o net port road' end

-- Roads that keep all that is observable show the same connections.
abbrev pub KeptShow : (R I O : Type 0) → roads.Ghosts R I O → Type 0
KeptShow R I O r = (road road' : R) → KeepsRoads r road road' → (net : Net) → RoadsShow r net road →
    RoadsShow r net road'

-- ENDS

-- An end that wasn't shut has sent a piece more.
abbrev pub SendsShow : (I O : Type 0) → link_in.Ghosts I → link_out.Ghosts O → Type 0
SendsShow I O i o =
    (traffic : Traffics) (extra : List (List ℕ)) (inbox : Inbox) (piece : List ℕ) (old new : Conn I O) →
    KeepsInward old new → SendsPiece o piece old.outward new.outward → EndIs i o traffic false extra inbox old →
    EndIs i o traffic false (extra ++ piece ∷ []) inbox new

-- Nothing was sent on it.
abbrev pub QuietShow : (I O : Type 0) → link_in.Ghosts I → link_out.Ghosts O → Type 0
QuietShow I O i o =
    (traffic : Traffics) (shut : Bool) (extra : List (List ℕ)) (inbox : Inbox) (old new : Conn I O) →
    KeepsInward old new → SendsNothing o old.outward new.outward → EndIs i o traffic shut extra inbox old →
    EndIs i o traffic shut extra inbox new

-- An outward half was shut, and else stays.
pub record IsShutHalf {O : Type 0} (o : link_out.Ghosts O) (old new : O) : Type 0 where
  pub shut : o.shut new ≡ true
  pub sent : o.sent new ≡ o.sent old
  pub flushed : o.flushed new ≡ o.flushed old
  pub lost : o.lost new ≡ o.lost old

-- An end is shut by its outward half.
abbrev pub ShutsShow : (I O : Type 0) → link_in.Ghosts I → link_out.Ghosts O → Type 0
ShutsShow I O i o =
    (traffic : Traffics) (shut : Bool) (extra : List (List ℕ)) (inbox : Inbox) (old new : Conn I O) →
    KeepsInward old new → IsShutHalf o old.outward new.outward → EndIs i o traffic shut extra inbox old →
    EndIs i o traffic true extra inbox new

-- An end of which this was taken that it held: all but its inward half stays.
pub record Took {I O : Type 0} (i : link_in.Ghosts I) (inbox : Inbox) (old new : Conn I O) : Type 0 where
  pub id : new.id ≡ old.id
  pub lower : new.lower ≡ old.lower
  pub outward : new.outward ≡ old.outward
  pub shut : i.shut new.inward ≡ i.shut old.inward
  pub holds : i.held new.inward ≡ Some inbox

abbrev pub TakesShow : (I O : Type 0) → link_in.Ghosts I → link_out.Ghosts O → Type 0
TakesShow I O i o =
    (traffic : Traffics) (shut : Bool) (extra : List (List ℕ)) (inbox left : Inbox) (old new : Conn I O) →
    Took i left old new → EndIs i o traffic shut extra inbox old → EndIs i o traffic shut extra left new
