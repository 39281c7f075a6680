-- What the events of others leave of the recoveries of a play.
use Rattle.std.specs.Prelude.{◌≡◌, ◌<◌, ◌≤◌, ℕ, Bool, false, List, slice_get, Some}
use Rattle.hd_base.specs.declared.ends.Conn.{Conn}
use Rattle.hd_base.specs.declared.links.LinkIn as link_in
use Rattle.hd_base.specs.declared.links.LinkOut as link_out
use Rattle.hd_base.specs.declared.numbers.BlockId.{BlockId}
use Rattle.hd_base.specs.declared.numbers.ConnId.{ConnId}
use Rattle.hd_base.specs.declared.numbers.NodeId.{NodeId}
use Rattle.road_traffic.specs.Showing.{Net}
use Rattle.world.specs.declared.events.Event.{Event}
use Rattle.world.specs.declared.events.Event.TheVariants as event
use Rattle.world.specs.declared.events.FoundReplica.{FoundReplica}
use Rattle.world.specs.Events.{happens, run}
use Rattle.world.specs.Parts.{Message, by_primary}
use Rattle.world.specs.Worlds.{World}
use Rattle.play_primaries.specs.WorldCuts.Cutting.{cut_net, cut_world}
use Rattle.play_servers.specs.WorldNets.Nets.{IsEndOf, is_over}
use Rattle.play_nodes.specs.WorldOrders.Orders.{Ordered, purpose_of, recovering}
use Rattle.play_primaries.specs.PrimaryEvents.Showing.{IsShut}
use Rattle.play_recoveries.specs.declared.recoveries.Recoveries.{Recoveries}
use Rattle.play_recoveries.specs.Showing.{RecoveriesShow}

-- WHAT IS LEFT

-- The primaries are as they were, and so is which ends they took; what is shut stays so.
pub record KeepsPrimaries (w v : World) : Type 0 where
  pub primaries : (p : ℕ) → v.primaries p ≡ w.primaries p
  pub over : (p place c : ℕ) → (w.dialled c).upper ≡ by_primary p place → is_over v c false ≡ is_over w c false
  pub shut : (c : ℕ) → IsShut w c → IsShut v c

-- Whether the lower ends of connections are served stays. There may be more connections.
pub record KeepsServed (w v : World) : Type 0 where
  pub grows : w.next_conn ≤ v.next_conn
  pub dialled : (d : ℕ) → d < w.next_conn → v.dialled d ≡ w.dialled d
  pub running : (n : ℕ) → v.running n ≡ w.running n
  pub lives : (n : ℕ) → v.lives n ≡ w.lives n

-- The first message that was sent down on a connection stays.
abbrev pub FirstStays : World → World → ℕ → Type 0
FirstStays w v c = (m : Message) → slice_get (w.downs c) 0 ≡ Some m → slice_get (v.downs c) 0 ≡ Some m

-- All that servers show of nodes and connections stays. No primary dialled one of the further connections.
pub record KeepsServers (w v : World) : Type 0 where
  pub served : KeepsServed w v
  pub fresh : (d : ℕ) → w.next_conn ≤ d → d < v.next_conn → purpose_of (v.dialled d).upper ≡ recovering → ⊥
  pub lowers : (d : ℕ) → d < w.next_conn → purpose_of (w.dialled d).upper ≡ recovering → v.lowers d ≡ w.lowers d
  pub first : (d : ℕ) → d < w.next_conn → FirstStays w v d

-- Each end of a connection that a primary dialled is one of the world after.
abbrev pub RecoveringEndsStay : {I O : Type 0} → link_in.Ghosts I → link_out.Ghosts O → World → Net → World → Net →
    Type 0
RecoveringEndsStay {I} {O} i o w net v made = (d : ℕ) (lower : Bool) (e : Conn I O) →
    purpose_of (w.dialled d).upper ≡ recovering → IsEndOf i o w net d lower e
    → IsEndOf i o v made d lower e

-- An event keeps all that recoveries show of a world. Messages come in order before it (messages_come_in_order).
pub record KeepsRecoveries {I O : Type 0} (i : link_in.Ghosts I) (o : link_out.Ghosts O) (w : World) (net : Net)
    (v : World) (made : Net) : Type 0 where
  pub ordered : Ordered w
  pub primaries : KeepsPrimaries w v
  pub servers : KeepsServers w v
  pub ends : RecoveringEndsStay i o w net v made

-- Recoveries that show a world show one that keeps it.
abbrev pub RecoveriesStay : {I O : Type 0} → link_in.Ghosts I → link_out.Ghosts O → Type 0
RecoveriesStay {I} {O} i o =
    (w : World) (net : Net) (v : World) (made : Net) (blocks : List BlockId) (recoveries : Recoveries I O) →
    RecoveriesShow i o w net blocks recoveries → KeepsRecoveries i o w net v made
    → RecoveriesShow i o v made blocks recoveries

-- WHATEVER HAPPENS

-- Whatever happens, the first message that was sent down on a connection stays, and what is shut stays so.
pub record StaysAfter (w v : World) : Type 0 where
  pub first : (c : ℕ) → FirstStays w v c
  pub shut : (c : ℕ) → IsShut w c → IsShut v c

abbrev pub RequestsStay : Type 0
RequestsStay = (w : World) (events : List Event) → StaysAfter w (run w events)

-- CUTS

-- Recoveries that show a world show it once a connection was cut: nothing on it was taken.
abbrev pub CutsKeepRecoveries : {I O : Type 0} → link_in.Ghosts I → link_out.Ghosts O → Type 0
CutsKeepRecoveries {I} {O} i o = (w : World) (net : Net) (conn : ConnId) (down up : ℕ) (blocks : List BlockId)
    (recoveries : Recoveries I O) → RecoveriesShow i o w net blocks recoveries → Ordered w → conn.0 < w.next_conn
    → RecoveriesShow i o (cut_world w conn down up) (cut_net net conn.0 down up) blocks recoveries

-- STARTS

-- A node that doesn't run may start again. Messages come in order (messages_come_in_order), and each connection was
-- dialled in a life of its node that has begun (dials_are_of_lives_so_far).
pub record MayStart (w : World) (node : NodeId) : Type 0 where
  pub ordered : Ordered w
  pub is_node : node.0 < w.nodes
  pub stands_still : w.running node.0 ≡ false
  pub lived : (c : ℕ) → c < w.next_conn → (w.dialled c).to.life ≤ w.lives (w.dialled c).to.node

-- Recoveries that show a world show the world in which the node has started: no lower end is served in its new life,
-- and no primary leads there.
abbrev pub StartsKeepRecoveries : {I O : Type 0} → link_in.Ghosts I → link_out.Ghosts O → Type 0
StartsKeepRecoveries {I} {O} i o =
    (w : World) (net : Net) (made : Net) (node : NodeId) (found : List FoundReplica) (blocks : List BlockId)
    (recoveries : Recoveries I O) → RecoveriesShow i o w net blocks recoveries → MayStart w node →
    RecoveringEndsStay i o w net (happens w (event.Restart node found)) made
    → RecoveriesShow i o (happens w (event.Restart node found)) made blocks recoveries
