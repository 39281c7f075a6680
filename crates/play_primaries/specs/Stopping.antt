-- The node of a primary has stopped, and its ends are brought back.
use Rattle.std.specs.Prelude.{◌≡◌, ℕ, true, false}
use Rattle.hd_base.specs.declared.ends.Conn.{Conn}
use Rattle.hd_base.specs.declared.links.LinkIn as link_in
use Rattle.hd_base.specs.declared.links.LinkOut as link_out
use Rattle.hd_base.specs.declared.roads.Roads as roads
use Rattle.road_traffic.specs.Showing.{Net}
use Rattle.primary_events.specs.World.Event.TheVariants as event
use Rattle.primary_events.specs.World.Events.{happens}
use Rattle.primary_events.specs.World.Parts.{by_primary}
use Rattle.primary_events.specs.World.Worlds.{World}
use Rattle.play_readers.specs.WorldNets.Nets.{IsEndOf}
use Rattle.play_readers.specs.WorldOrders.Orders.{Ordered}
use Rattle.primary_events.specs.MemberEvents.Showing.{ShowsWorld}
use Rattle.primary_events.specs.Leading.{AllOthersStay}
use Rattle.play_primaries.specs.declared.clients.PrimaryClient.{PrimaryClient}
use Rattle.play_primaries.specs.Clients.{PrimaryClientShows, PrimaryClientStands}
use Rattle.play_primaries.specs.Owning.{led_conns}

-- Each upper end of a connection that this primary dialled is one of the world after.
abbrev pub PrimaryEndsStay : {I O : Type 0} → link_in.Ghosts I → link_out.Ghosts O → World → Net → World → Net → ℕ →
    Type 0
PrimaryEndsStay {I} {O} i o w net v made number = (c place : ℕ) (e : Conn I O) →
    (w.dialled c).upper ≡ by_primary number place → IsEndOf i o w net c false e
    → IsEndOf i o v made c false e

-- The primary's node, which ran, has stopped: the roads show the world after, and its ends are ends of it. The client
-- showed the world before, in which messages come in order (messages_come_in_order).
pub record NodeHasStopped {R I O : Type 0} (r : roads.Ghosts R I O) (i : link_in.Ghosts I) (o : link_out.Ghosts O)
    (w : World) (net made : Net) (c : PrimaryClient I O) (road : R) : Type 0 where
  pub runs : w.running c.recovery.node.0 ≡ true
  pub ordered : Ordered w
  pub client_is : PrimaryClientShows i o w net c
  pub roads_are : ShowsWorld r (happens w (event.Stop c.recovery.node)) made road
  pub ends : PrimaryEndsStay i o w net (happens w (event.Stop c.recovery.node)) made c.recovery.primary

-- Client and roads show that world; the ends that are none of the primary's stay.
pub record StopLeft {R I O : Type 0} (r : roads.Ghosts R I O) (i : link_in.Ghosts I) (o : link_out.Ghosts O)
    (v : World) (net : Net) (number : ℕ) (new : PrimaryClient I O) (road : R) : Type 0 where
  pub made : Net
  pub stands : PrimaryClientStands r i o v made new road
  pub others : AllOthersStay i o v net v made (led_conns (v.primaries number))

abbrev pub StopShows : {R I O : Type 0} → roads.Ghosts R I O → link_in.Ghosts I → link_out.Ghosts O →
    PrimaryClient I O → PrimaryClient I O → R → R → Type 0
StopShows r i o old new road road' =
    (w : World) (net made : Net) → NodeHasStopped r i o w net made old road
    → StopLeft r i o (happens w (event.Stop old.recovery.node)) made old.recovery.primary new road'
