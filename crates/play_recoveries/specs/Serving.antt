-- What the events of the lower ends make of recoveries, nodes and roads that show a world.
use Rattle.std.specs.Prelude.{◌≡◌, true, Result, Ok, Err}
use Rattle.hd_base.specs.declared.files.Files as files
use Rattle.hd_base.specs.declared.links.LinkIn as link_in
use Rattle.hd_base.specs.declared.links.LinkOut as link_out
use Rattle.hd_base.specs.declared.numbers.ConnId.{ConnId}
use Rattle.hd_base.specs.declared.roads.Roads as roads
use Rattle.road_traffic.specs.Showing.{Net}
use Rattle.world.specs.declared.events.Event.{Event}
use Rattle.world.specs.declared.events.Event.TheVariants as event
use Rattle.world.specs.Events.{happens}
use Rattle.world.specs.Worlds.{World}
use Rattle.play_model.specs.WorldLaws.Placing.{Placed}
use Rattle.play_nodes.specs.WorldOrders.Orders.{Ordered, purpose_of, recovering}
use Rattle.play_model.specs.declared.dues.Due.TheVariants as due
use Rattle.play_model.specs.Dues.{Queues, is_due}
use Rattle.play_nodes.specs.declared.nodes.Nodes.{Nodes}
use Rattle.play_servers.specs.Recoveries.{AsksFor, RecoverIsLawful}
use Rattle.play_recoveries.specs.declared.faults.RecoveriesFault.{RecoveriesFault}
use Rattle.play_recoveries.specs.declared.recoveries.Recoveries.{Recoveries}
use Rattle.play_recoveries.specs.Faults.{IsCaused}
use Rattle.play_recoveries.specs.Left.{RecoveriesLeft}
use Rattle.play_recoveries.specs.Showing.{RecoveriesStand}

-- What holds of each world before an event and after it, whatever happened before: messages come in order
-- (messages_come_in_order), and every index is in range (indices_are_in_range).
pub record ServesInOrder (w : World) (e : Event) : Type 0 where
  pub before : Ordered w
  pub after : Ordered (happens w e)
  pub placed : Placed w

-- How it ends: what is left shows the world after it, or a fault has its cause. Where a call on files failed, which is
-- the fault of the node's files, nothing is said of what is left.
abbrev pub ServeEnds : {F R I O : Type 0} → files.Ghosts F → roads.Ghosts R I O → link_in.Ghosts I →
    link_out.Ghosts O → World → Net → Event → Nodes F I O → Nodes F I O → Recoveries I O → Recoveries I O → R → R →
    Result (Unit {0}) RecoveriesFault → Type 0
ServeEnds f r i o w net e n n' old new road road' (Ok u) = RecoveriesLeft r i o w net (happens w e) road' n' old new
ServeEnds f r i o w net e n n' old new road road' (Err why) = IsCaused f r n n' road road' why

-- The lower end of a connection that a primary dialled takes what stands next. Each request of a recovery that was sent
-- there is for one of the play's blocks.
abbrev pub DownShows : {F R I O : Type 0} → files.Ghosts F → roads.Ghosts R I O → link_in.Ghosts I →
    link_out.Ghosts O → ConnId → Nodes F I O → Nodes F I O → Recoveries I O → Recoveries I O → R → R →
    Result (Unit {0}) RecoveriesFault → Type 0
DownShows f r i o conn n n' old new road road' result =
    (w : World) (net : Net) (queues : Queues) → RecoveriesStand r i o w net road n old →
    ServesInOrder w (event.Down conn true) → RecoverIsLawful w conn → AsksFor n.blocks.items w conn.0 →
    is_due w queues (due.Down conn) ≡ true → purpose_of (w.dialled conn.0).upper ≡ recovering
    → ServeEnds f r i o w net (event.Down conn true) n n' old new road road' result
