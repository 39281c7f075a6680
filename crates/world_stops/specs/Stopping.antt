-- A node stops: all its connections are cut, and its port is no longer listened on.
use Rattle.std.specs.Prelude.{ℕ, ◌≡◌, ◌==◌, ◌+◌, Bool, true, false, List, [], ◌∷◌, IsSome}
use Rattle.std.specs.List.{list_any}
use Rattle.hd_base.specs.declared.ends.Conn.{Conn}
use Rattle.hd_base.specs.declared.links.LinkIn as link_in
use Rattle.hd_base.specs.declared.links.LinkOut as link_out
use Rattle.hd_base.specs.declared.numbers.ConnId.{ConnId}
use Rattle.hd_base.specs.declared.numbers.NodeId.{NodeId}
use Rattle.hd_base.specs.declared.roads.TheConstants.{FIRST_PORT}
use Rattle.road_traffic.specs.Showing.{Net, IsSane, listened_net, flushed_net, lost_net}
use Rattle.world_laws.specs.World.Event.TheVariants as event
use Rattle.world_laws.specs.World.Connections.{is_of_node}
use Rattle.world_laws.specs.World.Events.{happens}
use Rattle.world_laws.specs.World.Worlds.{World}
use Rattle.world_cuts.specs.WorldNets.Nets.{IsNetOf, IsEndOf, is_over}
use Rattle.world_cuts.specs.WorldNets.Rows.{rows_of}
use Rattle.world_cuts.specs.Cutting.{cut_world}

-- CUTS

-- the world once these connections were cut, one after the other, so that nothing further arrives
abbrev pub all_cut : World → List ConnId → World
all_cut w [] = w
all_cut w (c ∷ conns) = all_cut (cut_world w c 0 0) conns

-- a connection is one of these
abbrev pub is_among : List ConnId → ℕ → Bool
is_among conns c = list_any (λ x. x.0 == c) conns

-- These are the connections of a node.
abbrev pub AreOfNode : World → ℕ → List ConnId → Type 0
AreOfNode w n conns = (c : ℕ) → is_among conns c ≡ is_of_node w n c

-- STOPS

-- the connections once a node's port is no longer listened on
abbrev pub unlistened : Net → ℕ → Net
unlistened net n = listened_net net (FIRST_PORT + n) false

-- What a stop makes of the world whose connections were cut: the roads' connections without the port, and all ends.
pub record StopsNet {I O : Type 0} (i : link_in.Ghosts I) (o : link_out.Ghosts O) (cut v : World) (net : Net) (n : ℕ)
    : Type 0 where
  pub net_is : IsNetOf v (unlistened net n)
  pub over : (c : ℕ) (d : Bool) → is_over v c d ≡ is_over cut c d
  pub ends : (c : ℕ) (d : Bool) (e : Conn I O) → IsEndOf i o cut net c d e → IsEndOf i o v (unlistened net n) c d e

-- Where all connections of a running node were cut, and its port is no longer listened on, roads and ends are those of the
-- world in which it stops.
abbrev pub StopsAreCuts : {I O : Type 0} → link_in.Ghosts I → link_out.Ghosts O → Type 0
StopsAreCuts i o = (w : World) (net : Net) (node : NodeId) (conns : List ConnId) → w.running node.0 ≡ true →
    AreOfNode w node.0 conns → IsSane net
    → IsNetOf (all_cut w conns) net → StopsNet i o (all_cut w conns) (happens w (event.Stop node)) net node.0

-- ENDS THAT ARE NO LONGER USED

-- The end stands on both directions of a connection.
pub record HasEnded (w : World) (c : ℕ) : Type 0 where
  pub down : IsSome (rows_of w c true).marks.end
  pub up : IsSome (rows_of w c false).marks.end

-- Each connection of a node that was stopped has ended.
abbrev pub StopsEnd : Type 0
StopsEnd = (w : World) (node : NodeId) (c : ℕ) → w.running node.0 ≡ true → is_of_node w node.0 c ≡ true
    → HasEnded (happens w (event.Stop node)) c

-- An end of such a connection that has nothing to flush is shut or not, and given up: the roads' connections stay those of
-- the world.
pub record StaysEnded (w : World) (net : Net) (c : ℕ) (lower : Bool) : Type 0 where
  pub flushed : (shut : Bool) → IsNetOf w (flushed_net net c lower shut [])
  pub lost : IsNetOf w (lost_net net c lower [])

abbrev pub EndedStay : Type 0
EndedStay = (w : World) (net : Net) (c : ℕ) (lower : Bool) → IsNetOf w net → HasEnded w c → StaysEnded w net c lower
