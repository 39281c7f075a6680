-- What the events of others leave of the reads of a play.
use Rattle.std.specs.Prelude.{◌≡◌, ◌<◌, ◌≤◌, ℕ, Bool, true, false, List}
use Rattle.hd_base.specs.declared.ends.Conn.{Conn}
use Rattle.hd_base.specs.declared.links.LinkIn as link_in
use Rattle.hd_base.specs.declared.links.LinkOut as link_out
use Rattle.hd_base.specs.declared.numbers.BlockId.{BlockId}
use Rattle.hd_base.specs.declared.numbers.ConnId.{ConnId}
use Rattle.hd_base.specs.declared.numbers.NodeId.{NodeId}
use Rattle.road_traffic.specs.Showing.{Net}
use Rattle.world.specs.declared.events.Delivery.TheVariants as delivery
use Rattle.world.specs.declared.events.Event.TheVariants as event
use Rattle.world.specs.declared.events.FoundReplica.{FoundReplica}
use Rattle.world.specs.Events.{happens, run}
use Rattle.world.specs.Parts.{by_writer, by_member}
use Rattle.world.specs.Worlds.{World}
use Rattle.play_primaries.specs.WorldCuts.Cutting.{cut_net, cut_world}
use Rattle.play_servers.specs.WorldNets.Nets.{IsEndOf}
use Rattle.play_nodes.specs.WorldOrders.Orders.{Ordered, purpose_of, reading, recovering}
use Rattle.play_primaries.specs.ClientEvents.Showing.{OthersStay}
use Rattle.play_nodes.specs.PlayModel.Due.TheVariants as due
use Rattle.play_nodes.specs.PlayModel.Recovery.{Recovery}
use Rattle.play_nodes.specs.PlayModel.Recoveries.{recovery_events}
use Rattle.play_nodes.specs.PlayModel.Dues.{Queues, due_events}
use Rattle.play_nodes.specs.Showing.{is_pipeline, ElsewhereStays}
use Rattle.play_primaries.specs.PlayReaders.Frames.{KeepsReaders}
use Rattle.play_reads.specs.declared.reads.Reads.{Reads}
use Rattle.play_reads.specs.Showing.{ReadsShow}

-- WHAT IS LEFT

-- Whether the lower ends of connections are served stays. There may be more connections.
pub record KeepsServed (w v : World) : Type 0 where
  pub grows : w.next_conn ≤ v.next_conn
  pub dialled : (d : ℕ) → d < w.next_conn → v.dialled d ≡ w.dialled d
  pub running : (n : ℕ) → v.running n ≡ w.running n
  pub lives : (n : ℕ) → v.lives n ≡ w.lives n

-- All that servers show of nodes and connections stays. No reader dialled one of the further connections.
pub record KeepsServers (w v : World) : Type 0 where
  pub served : KeepsServed w v
  pub fresh : (d : ℕ) → w.next_conn ≤ d → d < v.next_conn → purpose_of (v.dialled d).upper ≡ reading → ⊥
  pub lowers : (d : ℕ) → d < w.next_conn → purpose_of (w.dialled d).upper ≡ reading → v.lowers d ≡ w.lowers d

-- Each end of a connection that a reader dialled is one of the world after.
abbrev pub ReadingEndsStay : {I O : Type 0} → link_in.Ghosts I → link_out.Ghosts O → World → Net → World → Net → Type 0
ReadingEndsStay {I} {O} i o w net v made = (d : ℕ) (lower : Bool) (e : Conn I O) →
    purpose_of (w.dialled d).upper ≡ reading → IsEndOf i o w net d lower e
    → IsEndOf i o v made d lower e

-- An event keeps all that reads show of a world. Messages come in order before it (messages_come_in_order).
pub record KeepsReads {I O : Type 0} (i : link_in.Ghosts I) (o : link_out.Ghosts O) (w : World) (net : Net)
    (v : World) (made : Net) : Type 0 where
  pub ordered : Ordered w
  pub readers : KeepsReaders w v
  pub servers : KeepsServers w v
  pub ends : ReadingEndsStay i o w net v made

-- Reads that show a world show one that keeps it.
abbrev pub ReadsStay : {I O : Type 0} → link_in.Ghosts I → link_out.Ghosts O → Type 0
ReadsStay {I} {O} i o =
    (w : World) (net : Net) (v : World) (made : Net) (blocks : List BlockId) (reads : Reads I O) →
    ReadsShow i o w net blocks reads → KeepsReads i o w net v made
    → ReadsShow i o v made blocks reads

-- WRITERS

-- An own step of a writer, with the office's answer where it asks, keeps them.
abbrev pub OwnStepsKeepReads : {I O : Type 0} → link_in.Ghosts I → link_out.Ghosts O → Type 0
OwnStepsKeepReads i o =
    (w : World) (net : Net) (made : Net) (queues : Queues) (block : BlockId) → Ordered w →
    OthersStay i o w net (run w (due_events w queues (due.Own block))) made (w.writers block.0).conn
    → KeepsReads i o w net (run w (due_events w queues (due.Own block))) made

-- So does what it hears.
abbrev pub HearingKeepsReads : {I O : Type 0} → link_in.Ghosts I → link_out.Ghosts O → Type 0
HearingKeepsReads i o =
    (w : World) (net : Net) (made : Net) (conn : ConnId) (b : ℕ) → Ordered w →
    (w.dialled conn.0).upper ≡ by_writer b →
    OthersStay i o w net (happens w (event.Up conn)) made (w.writers b).conn
    → KeepsReads i o w net (happens w (event.Up conn)) made

-- MEMBERS

-- So does what the lower end of a connection of a pipeline takes, or does without a message.
abbrev pub DownKeepsReads : {I O : Type 0} → link_in.Ghosts I → link_out.Ghosts O → Type 0
DownKeepsReads i o =
    (w : World) (net : Net) (made : Net) (conn : ConnId) (answered : Bool) → Ordered w →
    is_pipeline (w.dialled conn.0).upper ≡ true →
    ElsewhereStays i o w net (happens w (event.Down conn answered)) made
    → KeepsReads i o w net (happens w (event.Down conn answered)) made

-- So does what it takes where a call on files fails in it.
abbrev pub FaultKeepsReads : {I O : Type 0} → link_in.Ghosts I → link_out.Ghosts O → Type 0
FaultKeepsReads i o =
    (w : World) (net : Net) (made : Net) (conn : ConnId) → Ordered w → is_pipeline (w.dialled conn.0).upper ≡ true →
    ElsewhereStays i o w net (happens w (event.Fault (delivery.Down conn))) made
    → KeepsReads i o w net (happens w (event.Fault (delivery.Down conn))) made

abbrev pub ReadyKeepsReads : {I O : Type 0} → link_in.Ghosts I → link_out.Ghosts O → Type 0
ReadyKeepsReads i o =
    (w : World) (net : Net) (made : Net) (conn : ConnId) → Ordered w → is_pipeline (w.dialled conn.0).upper ≡ true →
    ElsewhereStays i o w net (happens w (event.Ready conn)) made
    → KeepsReads i o w net (happens w (event.Ready conn)) made

-- So does what a member takes from its mirror.
abbrev pub MirrorKeepsReads : {I O : Type 0} → link_in.Ghosts I → link_out.Ghosts O → Type 0
MirrorKeepsReads i o =
    (w : World) (net : Net) (made : Net) (conn : ConnId) (d : ℕ) → Ordered w →
    (w.dialled conn.0).upper ≡ by_member d → ElsewhereStays i o w net (happens w (event.Up conn)) made
    → KeepsReads i o w net (happens w (event.Up conn)) made

-- PRIMARIES

-- So does an own step of a primary, with the office's answer where it asks.
abbrev pub LeadingKeepsReads : {I O : Type 0} → link_in.Ghosts I → link_out.Ghosts O → Type 0
LeadingKeepsReads i o = (w : World) (net : Net) (made : Net) (r : Recovery) → Ordered w →
    ReadingEndsStay i o w net (run w (recovery_events w r)) made
    → KeepsReads i o w net (run w (recovery_events w r)) made

-- So does what a primary takes, and what the lower end of a connection that it dialled takes.
abbrev pub AnswersKeepReads : {I O : Type 0} → link_in.Ghosts I → link_out.Ghosts O → Type 0
AnswersKeepReads i o = (w : World) (net : Net) (made : Net) (conn : ConnId) → Ordered w →
    purpose_of (w.dialled conn.0).upper ≡ recovering → ReadingEndsStay i o w net (happens w (event.Up conn)) made
    → KeepsReads i o w net (happens w (event.Up conn)) made

abbrev pub AnsweringKeepsReads : {I O : Type 0} → link_in.Ghosts I → link_out.Ghosts O → Type 0
AnsweringKeepsReads i o = (w : World) (net : Net) (made : Net) (conn : ConnId) (answered : Bool) → Ordered w →
    purpose_of (w.dialled conn.0).upper ≡ recovering →
    ReadingEndsStay i o w net (happens w (event.Down conn answered)) made
    → KeepsReads i o w net (happens w (event.Down conn answered)) made

-- CUTS

-- So does a cut of a connection.
abbrev pub CutsKeepReads : {I O : Type 0} → link_in.Ghosts I → link_out.Ghosts O → Type 0
CutsKeepReads i o =
    (w : World) (net : Net) (conn : ConnId) (down up : ℕ) → Ordered w → conn.0 < w.next_conn
    → KeepsReads i o w net (cut_world w conn down up) (cut_net net conn.0 down up)

-- STARTS

-- A node that doesn't run may start again. Messages come in order (messages_come_in_order), and each connection was
-- dialled in a life of its node that has begun (dials_are_of_lives_so_far).
pub record MayStart (w : World) (node : NodeId) : Type 0 where
  pub ordered : Ordered w
  pub is_node : node.0 < w.nodes
  pub stands_still : w.running node.0 ≡ false
  pub lived : (c : ℕ) → c < w.next_conn → (w.dialled c).to.life ≤ w.lives (w.dialled c).to.node

-- Reads that show a world show the world in which the node has started: no lower end is served in its new life.
abbrev pub StartsKeepReads : {I O : Type 0} → link_in.Ghosts I → link_out.Ghosts O → Type 0
StartsKeepReads {I} {O} i o =
    (w : World) (net : Net) (made : Net) (node : NodeId) (found : List FoundReplica) (blocks : List BlockId)
    (reads : Reads I O) → ReadsShow i o w net blocks reads → MayStart w node →
    ElsewhereStays i o w net (happens w (event.Restart node found)) made
    → ReadsShow i o (happens w (event.Restart node found)) made blocks reads
