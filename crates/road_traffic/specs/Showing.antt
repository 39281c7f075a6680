-- Roads and the ends of connections show a traffic: what they hold and have carried is what the traffic says.
use Rattle.std.specs.Prelude.{◌≡◌, ℕ, ◌+◌, ◌≤◌, ◌==◌, not, Bool, true, false, cond, List, [], ◌∷◌, ◌++◌, length, drop, slice_get, Option, Some, None, is_some, option_map, OnOk, Result, Ok, Err}
use Rattle.hd_base.specs.Links.{Inbox}
use Rattle.hd_base.specs.Channels.{Plain, next_inbox, standing_of}
use Rattle.hd_base.specs.Ends.{is_shut}
use Rattle.hd_base.specs.declared.ends.Conn.{Conn}
use Rattle.hd_base.specs.declared.ends.RoadError.{RoadError}
use Rattle.hd_base.specs.declared.ends.Standing.{Standing}
use Rattle.hd_base.specs.declared.links.LinkIn as link_in
use Rattle.hd_base.specs.declared.links.LinkOut as link_out
use Rattle.hd_base.specs.declared.roads.Roads as roads
use Rattle.hd_base.specs.declared.roads.TheConstants.{FIRST_PORT}
use Rattle.road_traffic.specs.Traffic.{Traffic, Traffics, no_traffic, on_way, channel_of, carried_of, Fits, after_flush, after_draw, after_loss}

-- All connections: how many were dialled, the ports that are listened on, the dials that wait by port, and the traffic.
pub record Net : Type 0 where
  pub conns : ℕ
  pub listens : ℕ → Bool
  pub waiting : ℕ → List ℕ
  pub traffic : Traffics

-- Each direction fits, and none of a connection that wasn't dialled has traffic.
pub record IsSane (net : Net) : Type 0 where
  pub fits : (c : ℕ) (d : Bool) → Fits (net.traffic c d)
  pub fresh : (c : ℕ) (d : Bool) → net.conns ≤ c → net.traffic c d ≡ no_traffic

-- What roads over plain memory hold shows all connections. Of a direction whose taker has gone nothing is said.
pub record PlainShows (net : Net) (plain : Plain) : Type 0 where
  pub dialled : plain.dialled ≡ net.conns
  pub listening : (port : ℕ) → plain.listening port ≡ net.listens port
  pub waiting : (port : ℕ) → plain.waiting port ≡ net.waiting port
  pub channels : (c : ℕ) (d : Bool) → (net.traffic c d).over ≡ false → plain.channels c d ≡ channel_of (net.traffic c d)

-- Roads over plain memory show all connections, by what they hold and, where that is observable, by what they have carried.
pub record RoadsShow {R I O : Type 0} (r : roads.Ghosts R I O) (net : Net) (road : R) : Type 0 where
  pub plain : Plain
  pub is : r.plain road ≡ Some plain
  pub holds : PlainShows net plain
  pub carried : r.carried road ≡ option_map (λ _. carried_of net.traffic) (r.carried road)

-- An end is shut or not, and nothing that it sent is lost.
pub record IsShutOr {I O : Type 0} (i : link_in.Ghosts I) (o : link_out.Ghosts O) (shut : Bool) (end : Conn I O) : Type
    0 where
  pub shut_is : is_shut i o end ≡ shut
  pub none_lost : o.lost end.outward ≡ 0

-- An end in the middle of an event: it has sent these messages past those of the traffic, was shut since or not, and holds this. Where the end of
-- a direction stands already nothing is said of shuts and losses.
pub record EndIs {I O : Type 0} (i : link_in.Ghosts I) (o : link_out.Ghosts O) (traffic : Traffics) (shut : Bool)
    (extra : List (List ℕ)) (inbox : Inbox) (at_end : Conn I O) : Type 0 where
  pub sent : o.sent at_end.outward ≡ Some ((traffic at_end.id.0 (not at_end.lower)).sent ++ extra)
  pub flushed : o.flushed at_end.outward ≡ length (traffic at_end.id.0 (not at_end.lower)).sent
  pub held : i.held at_end.inward ≡ Some inbox
  pub outward : (traffic at_end.id.0 (not at_end.lower)).end ≡ None → IsShutOr i o shut at_end
  pub inward : (traffic at_end.id.0 at_end.lower).end ≡ None → IsShutOr i o shut at_end

-- nothing is held, and no end
abbrev pub no_inbox : Inbox
no_inbox = record { bytes = []; ended = false }

-- what an end holds that took what stands next
abbrev pub inbox_of : Traffic → Inbox
inbox_of t = next_inbox (on_way t) (is_some t.end)

-- WHAT BECOMES OF THE CONNECTIONS

abbrev pub with_traffic : Net → Traffics → Net
with_traffic net traffic = record net { traffic = traffic }

-- An end's messages, and its shut, were flushed.
abbrev pub flushed_net : Net → ℕ → Bool → Bool → List (List ℕ) → Net
flushed_net net conn lower shut messages = with_traffic net (after_flush net.traffic conn lower shut messages)

-- It took what stands next.
abbrev pub drawn_net : Net → ℕ → Bool → Net
drawn_net net conn lower = with_traffic net (after_draw net.traffic conn lower)

abbrev pub drawn_if : Bool → Net → ℕ → Bool → Net
drawn_if take net conn lower = cond take (drawn_net net conn lower) net

-- An end was exchanged: its messages and its shut were flushed, and then it took what stands next, or not.
abbrev pub exchanged_net : Net → ℕ → Bool → Bool → Bool → List (List ℕ) → Net
exchanged_net net conn lower take shut messages = drawn_if take (flushed_net net conn lower shut messages) conn lower

-- what an end then holds that held this
abbrev pub exchanged_inbox : Net → ℕ → Bool → Bool → Bool → List (List ℕ) → Inbox → Inbox
exchanged_inbox net conn lower take shut messages inbox =
    cond take (inbox_of (after_flush net.traffic conn lower shut messages conn lower)) inbox

-- An end was given up.
abbrev pub lost_net : Net → ℕ → Bool → List (List ℕ) → Net
lost_net net conn lower messages = with_traffic net (after_loss net.traffic conn lower messages)

-- A port was dialled under the next number, and the dial waits there.
abbrev pub dialled_net : Net → ℕ → Net
dialled_net net port = record net {
  conns = net.conns + 1;
  waiting = λ p. cond (p == port) (net.waiting p ++ net.conns ∷ []) (net.waiting p);
}

-- The oldest dial that waits at the port was accepted.
abbrev pub accepted_net : Net → ℕ → Net
accepted_net net port = record net { waiting = λ p. cond (p == port) (drop 1 (net.waiting p)) (net.waiting p) }

-- The port is listened on, or no longer.
abbrev pub listened_net : Net → ℕ → Bool → Net
listened_net net port on = record net { listens = λ p. cond (p == port) on (net.listens p) }

-- WHAT CALLS MAKE OF ROADS AND ENDS THAT SHOW THE CONNECTIONS

-- One fact where a call succeeded, and another where it failed.
abbrev pub ResultIs : {T E : Type 0} → Result T E → Type 0 → Type 0 → Type 0
ResultIs (Ok _) done failed = done
ResultIs (Err _) done failed = failed

-- An end that takes holds nothing, and more may come to it.
abbrev pub MayTake : Net → Bool → Inbox → ℕ → Bool → Type 0
MayTake net takes inbox conn lower = takes ≡ true → (inbox ≡ no_inbox) × ((net.traffic conn lower).over ≡ false)

-- The roads and this end of theirs show the connections.
pub record BothShow {R I O : Type 0} (r : roads.Ghosts R I O) (i : link_in.Ghosts I) (o : link_out.Ghosts O)
    (net : Net) (shut : Bool) (extra : List (List ℕ)) (inbox : Inbox) (road : R) (at_end : Conn I O) : Type 0 where
  pub road_shows : RoadsShow r net road
  pub end_is : EndIs i o net.traffic shut extra inbox at_end

-- Whatever connections roads and end show: after an exchange they show them with what was flushed and taken, and after one that failed they show
-- what they did.
abbrev pub ShowsExchange : {R I O : Type 0} → roads.Ghosts R I O → link_in.Ghosts I → link_out.Ghosts O → Bool →
    Conn I O → Conn I O → R → R → Result (Unit {0}) RoadError → Type 0
ShowsExchange r i o takes old new road road' result =
    (net : Net) (shut : Bool) (extra : List (List ℕ)) (inbox : Inbox) → IsSane net →
    BothShow r i o net shut extra inbox road old
    → MayTake net takes inbox old.id.0 old.lower
    → ResultIs result
    (BothShow r i o (exchanged_net net old.id.0 old.lower takes shut extra) false []
    (exchanged_inbox net old.id.0 old.lower takes shut extra inbox) road' new)
    (BothShow r i o net shut extra inbox road' new)

-- Whatever connections roads and end show: once the end was given up, the roads show that.
abbrev pub ShowsLoss : {R I O : Type 0} → roads.Ghosts R I O → link_in.Ghosts I → link_out.Ghosts O → Conn I O → R →
    R → Result (Unit {0}) RoadError → Type 0
ShowsLoss r i o end road road' result =
    (net : Net) (shut : Bool) (extra : List (List ℕ)) (inbox : Inbox) → IsSane net →
    BothShow r i o net shut extra inbox road end
    → OnOk result (RoadsShow r (lost_net net end.id.0 end.lower extra) road')

-- WHAT CALLS MAKE OF ROADS ALONE

-- The lower end of the oldest dial that waits at a port. It shows a connection on which its side has sent nothing.
pub record ShowsAccepted {R I O : Type 0} (r : roads.Ghosts R I O) (i : link_in.Ghosts I) (o : link_out.Ghosts O)
    (net : Net) (port : ℕ) (road : R) (at_end : Conn I O) : Type 0 where
  pub number : slice_get (net.waiting port) 0 ≡ Some at_end.id.0
  pub side : at_end.lower ≡ true
  pub road_shows : RoadsShow r (accepted_net net port) road
  pub end_is : (net.traffic at_end.id.0 false).sent ≡ [] → EndIs i o net.traffic false [] no_inbox at_end

-- No dial waits at the port.
pub record ShowsNobody {R I O : Type 0} (r : roads.Ghosts R I O) (net : Net) (port : ℕ) (road : R) : Type 0 where
  pub none : net.waiting port ≡ []
  pub road_shows : RoadsShow r net road

-- Whatever connections the roads show: the oldest dial that waits is accepted, if one does.
abbrev pub ShowsAccept : {R I O : Type 0} → roads.Ghosts R I O → link_in.Ghosts I → link_out.Ghosts O → ℕ → R → R →
    Result (Option (Conn I O)) RoadError → Type 0
ShowsAccept r i o port old new (Ok (Some end)) = (net : Net) → RoadsShow r net old →
    ShowsAccepted r i o net port new end
ShowsAccept r i o port old new (Ok None) = (net : Net) → RoadsShow r net old → ShowsNobody r net port new
ShowsAccept r i o port old new (Err why) = (net : Net) → RoadsShow r net old → RoadsShow r net new

-- Whatever connections the roads show: a node's port is listened on.
abbrev pub ShowsListen : {R I O : Type 0} → roads.Ghosts R I O → ℕ → R → R → Result ℕ RoadError → Type 0
ShowsListen r node old new result = (net : Net) → RoadsShow r net old →
    ResultIs result (RoadsShow r (listened_net net (FIRST_PORT + node) true) new) (RoadsShow r net new)

-- what stands next on a direction
abbrev pub standing_on : Traffic → Standing
standing_on t = standing_of (channel_of t)

-- Whatever connections the roads show: what stands next, where the direction's taker hasn't gone.
pub record ShowsStanding {R I O : Type 0} (r : roads.Ghosts R I O) (net : Net) (conn : ℕ) (down : Bool) (road : R)
    (result : Standing) : Type 0 where
  pub road_shows : RoadsShow r net road
  pub is : (net.traffic conn down).over ≡ false → result ≡ standing_on (net.traffic conn down)
