-- What a reader hears makes of reads, nodes and roads that show a world.
use Rattle.std.specs.Prelude.{◌≡◌, true, Result, Ok, Err}
use Rattle.hd_base.specs.declared.files.Files as files
use Rattle.hd_base.specs.declared.links.LinkIn as link_in
use Rattle.hd_base.specs.declared.links.LinkOut as link_out
use Rattle.hd_base.specs.declared.numbers.ConnId.{ConnId}
use Rattle.hd_base.specs.declared.roads.Roads as roads
use Rattle.road_traffic.specs.Showing.{Net}
use Rattle.world.specs.declared.events.Event.TheVariants as event
use Rattle.world.specs.Events.{happens}
use Rattle.world.specs.Worlds.{World}
use Rattle.play_nodes.specs.WorldOrders.Orders.{Ordered, purpose_of, reading}
use Rattle.play_nodes.specs.WorldTexts.Texts.{Written}
use Rattle.play_nodes.specs.PlayModel.Due.TheVariants as due
use Rattle.play_nodes.specs.PlayModel.Dues.{Queues, is_due}
use Rattle.play_primaries.specs.ReaderEvents.Orders.{ReadersTakeInOrder}
use Rattle.play_nodes.specs.declared.nodes.Nodes.{Nodes}
use Rattle.play_reads.specs.declared.faults.ReadsFault.{ReadsFault}
use Rattle.play_reads.specs.declared.reads.Reads.{Reads}
use Rattle.play_reads.specs.Faults.{IsCaused}
use Rattle.play_reads.specs.Left.{ReadsLeft}
use Rattle.play_reads.specs.Showing.{ReadsStand}

-- What holds of each world before the event, whatever happened before: messages come in order (messages_come_in_order),
-- readers take in order (readers_take_in_order), and each message is spelled as it is written (messages_are_written).
pub record HearIsLawful (w : World) : Type 0 where
  pub ordered : Ordered w
  pub in_order : ReadersTakeInOrder w
  pub written : Written w

-- How it ends: what is left shows the world after it, or a fault has its cause. The nodes stay.
abbrev pub HearEnds : {F R I O : Type 0} → files.Ghosts F → roads.Ghosts R I O → link_in.Ghosts I → link_out.Ghosts O →
    World → Net → ConnId → Nodes F I O → Reads I O → Reads I O → R → R → Result (Unit {0}) ReadsFault → Type 0
HearEnds f r i o w net conn n old new road road' (Ok u) =
    ReadsLeft r i o w net (happens w (event.Up conn)) road' n old new
HearEnds f r i o w net conn n old new road road' (Err why) = IsCaused f r n n road road' why

-- The reader that dialled a connection takes what stands next there.
abbrev pub HearShows : {F R I O : Type 0} → files.Ghosts F → roads.Ghosts R I O → link_in.Ghosts I → link_out.Ghosts O →
    ConnId → Nodes F I O → Reads I O → Reads I O → R → R → Result (Unit {0}) ReadsFault → Type 0
HearShows f r i o conn n old new road road' result =
    (w : World) (net : Net) (queues : Queues) → ReadsStand r i o w net road n old → HearIsLawful w →
    is_due w queues (due.Up conn) ≡ true → purpose_of (w.dialled conn.0).upper ≡ reading
    → HearEnds f r i o w net conn n old new road road' result
