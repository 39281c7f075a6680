-- What the events of writers, members and readers leave of the recoveries of a play.
use Rattle.std.specs.Prelude.{◌≡◌, ℕ, Bool, true}
use Rattle.hd_base.specs.declared.links.LinkIn as link_in
use Rattle.hd_base.specs.declared.links.LinkOut as link_out
use Rattle.hd_base.specs.declared.numbers.BlockId.{BlockId}
use Rattle.hd_base.specs.declared.numbers.ConnId.{ConnId}
use Rattle.road_traffic.specs.Showing.{Net}
use Rattle.world.specs.declared.events.Delivery.TheVariants as delivery
use Rattle.world.specs.declared.events.Event.TheVariants as event
use Rattle.world.specs.Events.{happens, run}
use Rattle.world.specs.Parts.{by_writer, by_member}
use Rattle.world.specs.Worlds.{World}
use Rattle.play_nodes.specs.WorldOrders.Orders.{Ordered, purpose_of, reading}
use Rattle.play_primaries.specs.ClientEvents.Showing.{OthersStay}
use Rattle.play_model.specs.declared.asks.ReadAsk.{ReadAsk}
use Rattle.play_model.specs.declared.dues.Due.TheVariants as due
use Rattle.play_model.specs.Asks.{asking_node}
use Rattle.play_model.specs.Dues.{Queues, due_events}
use Rattle.play_nodes.specs.Showing.{is_pipeline, ElsewhereStays}
use Rattle.play_recoveries.specs.Keeping.{RecoveringEndsStay, KeepsRecoveries}

-- WRITERS

-- An own step of a writer, with the office's answer where it asks, keeps them.
abbrev pub OwnStepsKeepRecoveries : {I O : Type 0} → link_in.Ghosts I → link_out.Ghosts O → Type 0
OwnStepsKeepRecoveries i o =
    (w : World) (net : Net) (made : Net) (queues : Queues) (block : BlockId) → Ordered w →
    OthersStay i o w net (run w (due_events w queues (due.Own block))) made (w.writers block.0).conn
    → KeepsRecoveries i o w net (run w (due_events w queues (due.Own block))) made

-- So does what it hears.
abbrev pub HearingKeepsRecoveries : {I O : Type 0} → link_in.Ghosts I → link_out.Ghosts O → Type 0
HearingKeepsRecoveries i o =
    (w : World) (net : Net) (made : Net) (conn : ConnId) (b : ℕ) → Ordered w →
    (w.dialled conn.0).upper ≡ by_writer b →
    OthersStay i o w net (happens w (event.Up conn)) made (w.writers b).conn
    → KeepsRecoveries i o w net (happens w (event.Up conn)) made

-- MEMBERS

-- So does what the lower end of a connection of a pipeline takes, or does without a message.
abbrev pub DownKeepsRecoveries : {I O : Type 0} → link_in.Ghosts I → link_out.Ghosts O → Type 0
DownKeepsRecoveries i o =
    (w : World) (net : Net) (made : Net) (conn : ConnId) (answered : Bool) → Ordered w →
    is_pipeline (w.dialled conn.0).upper ≡ true →
    ElsewhereStays i o w net (happens w (event.Down conn answered)) made
    → KeepsRecoveries i o w net (happens w (event.Down conn answered)) made

-- So does what it takes where a call on files fails in it.
abbrev pub FaultKeepsRecoveries : {I O : Type 0} → link_in.Ghosts I → link_out.Ghosts O → Type 0
FaultKeepsRecoveries i o =
    (w : World) (net : Net) (made : Net) (conn : ConnId) → Ordered w → is_pipeline (w.dialled conn.0).upper ≡ true →
    ElsewhereStays i o w net (happens w (event.Fault (delivery.Down conn))) made
    → KeepsRecoveries i o w net (happens w (event.Fault (delivery.Down conn))) made

abbrev pub ReadyKeepsRecoveries : {I O : Type 0} → link_in.Ghosts I → link_out.Ghosts O → Type 0
ReadyKeepsRecoveries i o =
    (w : World) (net : Net) (made : Net) (conn : ConnId) → Ordered w → is_pipeline (w.dialled conn.0).upper ≡ true →
    ElsewhereStays i o w net (happens w (event.Ready conn)) made
    → KeepsRecoveries i o w net (happens w (event.Ready conn)) made

-- So does what a member takes from its mirror.
abbrev pub MirrorKeepsRecoveries : {I O : Type 0} → link_in.Ghosts I → link_out.Ghosts O → Type 0
MirrorKeepsRecoveries i o =
    (w : World) (net : Net) (made : Net) (conn : ConnId) (d : ℕ) → Ordered w →
    (w.dialled conn.0).upper ≡ by_member d → ElsewhereStays i o w net (happens w (event.Up conn)) made
    → KeepsRecoveries i o w net (happens w (event.Up conn)) made

-- READERS

-- So does a reader that asks its node.
abbrev pub AskingKeepsRecoveries : {I O : Type 0} → link_in.Ghosts I → link_out.Ghosts O → Type 0
AskingKeepsRecoveries i o = (w : World) (net : Net) (made : Net) (ask : ReadAsk) → Ordered w →
    RecoveringEndsStay i o w net (happens w (asking_node ask true)) made
    → KeepsRecoveries i o w net (happens w (asking_node ask true)) made

-- So does what a reader takes, and what the lower end of its connection takes or sends.
abbrev pub ReadingKeepsRecoveries : {I O : Type 0} → link_in.Ghosts I → link_out.Ghosts O → Type 0
ReadingKeepsRecoveries i o = (w : World) (net : Net) (made : Net) (conn : ConnId) → Ordered w →
    purpose_of (w.dialled conn.0).upper ≡ reading → RecoveringEndsStay i o w net (happens w (event.Up conn)) made
    → KeepsRecoveries i o w net (happens w (event.Up conn)) made

abbrev pub ServingKeepsRecoveries : {I O : Type 0} → link_in.Ghosts I → link_out.Ghosts O → Type 0
ServingKeepsRecoveries i o = (w : World) (net : Net) (made : Net) (conn : ConnId) (answered : Bool) → Ordered w →
    purpose_of (w.dialled conn.0).upper ≡ reading →
    RecoveringEndsStay i o w net (happens w (event.Down conn answered)) made
    → KeepsRecoveries i o w net (happens w (event.Down conn answered)) made

abbrev pub SendingKeepsRecoveries : {I O : Type 0} → link_in.Ghosts I → link_out.Ghosts O → Type 0
SendingKeepsRecoveries i o = (w : World) (net : Net) (made : Net) (conn : ConnId) → Ordered w →
    purpose_of (w.dialled conn.0).upper ≡ reading → RecoveringEndsStay i o w net (happens w (event.Ready conn)) made
    → KeepsRecoveries i o w net (happens w (event.Ready conn)) made
