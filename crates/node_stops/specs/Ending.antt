-- The ends that a node had are brought back.
use Rattle.std.specs.Prelude.{ℕ, ◌≡◌, ◌==◌, ◌&&◌, nat_lt, Bool, true, false, if◌then◌else◌, map, slice_get, slice_set, Option, Some, None, Ok}
use Rattle.hd_base.specs.Channels.{Plain}
use Rattle.hd_base.specs.Ends.{IsKnown}
use Rattle.hd_base.specs.declared.ends.Conn.{Conn}
use Rattle.hd_base.specs.declared.links.LinkIn as link_in
use Rattle.hd_base.specs.declared.links.LinkOut as link_out
use Rattle.hd_base.specs.declared.numbers.NodeId.{NodeId}
use Rattle.hd_base.specs.declared.roads.Roads as roads
use Rattle.link_pieces.specs.Roads.{BringsEnd}
use Rattle.play_nodes.specs.PipeMember.Exchanges.{AreKnown, BringsBoth}
use Rattle.road_traffic.specs.Showing.{Net, IsSane, RoadsShow}
use Rattle.world_stops.specs.World.Worlds.{World}
use Rattle.world_stops.specs.WorldNets.Nets.{IsNetOf, IsEndOf}
use Rattle.play_nodes.specs.declared.connections.Connection.{Connection}
use Rattle.play_nodes.specs.declared.connections.Lower.{Lower}
use Rattle.play_nodes.specs.declared.connections.Lower.TheVariants as lower
use Rattle.play_nodes.specs.declared.connections.Upper.{Upper}
use Rattle.play_nodes.specs.declared.connections.Upper.TheVariants as upper
use Rattle.play_nodes.specs.declared.nodes.Nodes.{Nodes}
use Rattle.play_nodes.specs.Places.{with_lower}
use Rattle.play_nodes.specs.Showing.{stands_here}

-- ENDS THAT THE ROADS KNOW

abbrev pub LowerIsKnown : {I O : Type 0} → Option Plain → Lower I O → Type 0
LowerIsKnown plain (lower.Idle end) = IsKnown plain end.id.0
LowerIsKnown plain (lower.Member m place) = AreKnown plain m
LowerIsKnown plain other = Unit {0}

-- The roads know the ends of all connections.
abbrev pub AllKnown : {F I O : Type 0} → Option Plain → Nodes F I O → Type 0
AllKnown {F} {I} {O} plain n =
    (c : ℕ) (x : Connection I O) → slice_get n.connections.items c ≡ Some x → LowerIsKnown plain x.lower

-- CALLS

-- The ends of a lower end were brought back.
abbrev pub Ends : {R I O : Type 0} → roads.Ghosts R I O → link_in.Ghosts I → link_out.Ghosts O → Lower I O → R → R →
    Type 0
Ends r i o (lower.Idle end) road road' = BringsEnd r i o end road road' (Ok tt)
Ends r i o (lower.Member m place) road road' = BringsBoth r i o m road road' (Ok tt)
Ends r i o other road road' = road' ≡ road

-- The lower end at a place was taken away, and its ends brought back.
pub record TakesEnd {F R I O : Type 0} (r : roads.Ghosts R I O) (i : link_in.Ghosts I) (o : link_out.Ghosts O)
    (k : ℕ) (x : Connection I O) (old new : Nodes F I O) (road road' : R) : Type 0 where
  pub blocks : new.blocks.items ≡ old.blocks.items
  pub nodes : new.nodes.items ≡ old.nodes.items
  pub set : new.connections.items ≡ slice_set old.connections.items k (with_lower x lower.Ended)
  pub ends : Ends r i o x.lower road road'

-- Nothing was done.
pub record StaysSo {F R I O : Type 0} (old new : Nodes F I O) (road road' : R) : Type 0 where
  pub same : new ≡ old
  pub roads : road' ≡ road

abbrev pub EndsIf : {F R I O : Type 0} → Bool → roads.Ghosts R I O → link_in.Ghosts I → link_out.Ghosts O → ℕ →
    Connection I O → Nodes F I O → Nodes F I O → R → R → Type 0
EndsIf true r i o k x old new road road' = TakesEnd r i o k x old new road road'
EndsIf false r i o k x old new road road' = StaysSo old new road road'

-- the node took the connection, whose lower end isn't kept elsewhere
abbrev pub ends_here : {I O : Type 0} → Connection I O → NodeId → Bool
ends_here x node = (node.0 == x.node.0) && stands_here x.lower

-- So it is of such a connection.
abbrev pub EndsAt : {F R I O : Type 0} → roads.Ghosts R I O → link_in.Ghosts I → link_out.Ghosts O → NodeId → ℕ →
    Nodes F I O → Nodes F I O → R → R → Type 0
EndsAt {F} {R} {I} {O} r i o node k old new road road' =
    (x : Connection I O) → slice_get old.connections.items k ≡ Some x
    → EndsIf (ends_here x node) r i o k x old new road road'

-- WHICH ENDS ARE GONE

-- such a connection, if there is one
abbrev pub is_ended_at : {I O : Type 0} → Option (Connection I O) → NodeId → Bool
is_ended_at None node = false
is_ended_at (Some x) node = ends_here x node

-- it is one of the first, so many
abbrev pub is_ended : {F I O : Type 0} → Nodes F I O → NodeId → ℕ → ℕ → Bool
is_ended n node k c = nat_lt c k && is_ended_at (slice_get n.connections.items c) node

-- a member at one of these dialled
abbrev pub is_left_by : {F I O : Type 0} → Nodes F I O → NodeId → ℕ → Upper → Bool
is_left_by n node k (upper.Member conn) = is_ended n node k conn.0
is_left_by n node k other = false

abbrev pub is_left : {F I O : Type 0} → Nodes F I O → NodeId → ℕ → Option (Connection I O) → Bool
is_left n node k None = false
is_left n node k (Some x) = is_left_by n node k x.upper

-- the end is gone once the node's ends of so many connections were brought back
abbrev pub is_gone : {F I O : Type 0} → Nodes F I O → NodeId → ℕ → ℕ → Bool → Bool
is_gone n node k c true = is_ended n node k c
is_gone n node k c false = is_left n node k (slice_get n.connections.items c)

-- WHAT THE ROADS SHOW

-- A member's end to its mirror is one of the world, which the member dialled.
pub record MirrorStands {F I O : Type 0} (i : link_in.Ghosts I) (o : link_out.Ghosts O) (v : World) (net : Net) (c : ℕ)
    (n : Nodes F I O) (end : Conn I O) : Type 0 where
  pub conn : ℕ
  pub end_is : IsEndOf i o v net conn false end
  pub at : Connection I O
  pub found : slice_get n.connections.items conn ≡ Some at
  pub dialled : at.upper ≡ upper.Member (record { 0 = c })

abbrev pub MirrorIf : {F I O : Type 0} → link_in.Ghosts I → link_out.Ghosts O → World → Net → ℕ → Nodes F I O →
    Option (Conn I O) → Type 0
MirrorIf i o v net c n None = Unit {0}
MirrorIf i o v net c n (Some end) = MirrorStands i o v net c n end

-- The ends of a lower end are those of the world.
abbrev pub LowerStands : {F I O : Type 0} → link_in.Ghosts I → link_out.Ghosts O → World → Net → ℕ → Nodes F I O →
    Lower I O → Type 0
LowerStands i o v net c n (lower.Idle end) = IsEndOf i o v net c true end
LowerStands i o v net c n (lower.Member m place) =
    IsEndOf i o v net c true m.upstream × MirrorIf i o v net c n m.mirror
LowerStands i o v net c n other = Unit {0}

-- The roads show the connections of a world, and all lower ends are ends of it.
pub record EndsStand {F R I O : Type 0} (r : roads.Ghosts R I O) (i : link_in.Ghosts I) (o : link_out.Ghosts O)
    (v : World) (net : Net) (n : Nodes F I O) (road : R) : Type 0 where
  pub is_net : IsNetOf v net
  pub sane : IsSane net
  pub shows : RoadsShow r net road
  pub lowers : (c : ℕ) (x : Connection I O) → slice_get n.connections.items c ≡ Some x →
      LowerStands i o v net c n x.lower

-- The roads show the same world once the node's ends of so many connections were brought back, and all ends that aren't
-- gone are ends of it.
pub record EndsLeft {F R I O : Type 0} (r : roads.Ghosts R I O) (i : link_in.Ghosts I) (o : link_out.Ghosts O)
    (v : World) (net : Net) (n : Nodes F I O) (node : NodeId) (k : ℕ) (road : R) : Type 0 where
  pub made : Net
  pub is_net : IsNetOf v made
  pub sane : IsSane made
  pub shows : RoadsShow r made road
  pub stays : (c : ℕ) (d : Bool) (e : Conn I O) → is_gone n node k c d ≡ false → IsEndOf i o v net c d e →
      IsEndOf i o v made c d e

-- the connection without its lower end, where the node took it and it isn't kept elsewhere
abbrev pub ended_at : {I O : Type 0} → NodeId → Connection I O → Connection I O
ended_at node x = if ends_here x node then with_lower x lower.Ended else x

-- All ends that the node had, but for those that are kept elsewhere, were brought back.
pub record AllEnd {F R I O : Type 0} (r : roads.Ghosts R I O) (i : link_in.Ghosts I) (o : link_out.Ghosts O)
    (node : NodeId) (old new : Nodes F I O) (road road' : R) : Type 0 where
  pub blocks : new.blocks.items ≡ old.blocks.items
  pub nodes : new.nodes.items ≡ old.nodes.items
  pub connections : new.connections.items ≡ map (ended_at node) old.connections.items
  pub count : ℕ
  pub all : (c : ℕ) (x : Connection I O) → slice_get old.connections.items c ≡ Some x → nat_lt c count ≡ true
  pub roads : (v : World) (net : Net) → EndsStand r i o v net old road → EndsLeft r i o v net old node count road'
