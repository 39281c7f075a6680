-- Members, their books and the roads show a world.
use Rattle.std.specs.Prelude.{◌≡◌, ◌&&◌, ◌<◌, ℕ, Bool, true, false, Option, Some, None, IfSome}
use Rattle.hd_base.specs.declared.ends.Conn.{Conn}
use Rattle.hd_base.specs.declared.links.LinkIn as link_in
use Rattle.hd_base.specs.declared.links.LinkOut as link_out
use Rattle.hd_base.specs.declared.roads.Roads as roads
use Rattle.pipe_member.specs.ReplicaFiles.BookState.{BookState}
use Rattle.pipe_member.specs.ReplicaFiles.Books.{replica_of}
use Rattle.pipe_member.specs.LinkMessages.Incomings.{IncomingState, nothing_received}
use Rattle.pipe_member.specs.declared.member.Member.{Member}
use Rattle.pipe_member.specs.declared.stages.Stage.TheVariants as stage
use Rattle.pipe_member.specs.Above.{nothing_above}
use Rattle.pipe_member.specs.EventSteps.{HoldsMirror}
use Rattle.road_traffic.specs.Showing.{Net, IsSane, RoadsShow}
use Rattle.world_texts.specs.World.Parts.{FullMember, writes}
use Rattle.world_texts.specs.World.Worlds.{World}
use Rattle.world_texts.specs.World.Nodes.{node_of, block_of, replica_at}
use Rattle.world_texts.specs.WorldNets.Nets.{IsNetOf, IsEndOf, is_over}
use Rattle.world_texts.specs.WorldNets.Ends.{IsElsewhere}

-- ROADS

-- The roads show these connections, which are the world's.
pub record ShowsWorld {R I O : Type 0} (r : roads.Ghosts R I O) (w : World) (net : Net) (road : R) : Type 0 where
  pub is_net : IsNetOf w net
  pub sane : IsSane net
  pub shows : RoadsShow r net road

-- MEMBERS

-- a member's end to its mirror
abbrev pub MirrorShows : {I O : Type 0} → link_in.Ghosts I → link_out.Ghosts O → World → Net → Option ℕ →
    Option (Conn I O) → Type 0
MirrorShows i o w net None None = Unit {0}
MirrorShows i o w net (Some c) (Some end) = IsEndOf i o w net c false end
MirrorShows i o w net conn mirror = ⊥

-- Nothing was received of the mirror that wasn't taken, as long as its end wasn't.
abbrev pub NoneReceived : World → Option ℕ → IncomingState → Type 0
NoneReceived w mirror received = IfSome mirror (λ d. is_over w d false ≡ false → received ≡ nothing_received)

-- An open member with these rules, which has taken all that it received.
pub record MemberShows {I O : Type 0} (i : link_in.Ghosts I) (o : link_out.Ghosts O) (w : World) (net : Net) (c : ℕ)
    (full : FullMember) (m : Member I O) : Type 0 where
  pub node : m.node.0 ≡ node_of w c
  pub op : m.op ≡ full.fields
  pub stage_is : m.stage ≡ stage.Open full.state
  pub holds : HoldsMirror m.stage m.mirror
  pub upstream : IsEndOf i o w net c true m.upstream
  pub mirror : MirrorShows i o w net full.mirror m.mirror
  pub above : m.above ≡ nothing_above
  pub below_next : m.below.next ≡ None
  pub below : NoneReceived w full.mirror m.below.received

-- both sides of a member act
abbrev pub both_act : FullMember → Bool
both_act full = full.state.receives && full.state.responds

-- One side of a member no longer acts: the running member has shut then.
abbrev pub IsOver : FullMember → Type 0
IsOver full = both_act full ≡ false

-- the mirror's connection was dialled after the member's own
abbrev pub IsLater : ℕ → Option ℕ → Type 0
IsLater c mirror = IfSome mirror (λ d. c < d)

-- A member of a world at a connection, with the book of its replica, and the roads show that world.
pub record MemberStands {F R I O : Type 0} (r : roads.Ghosts R I O) (i : link_in.Ghosts I) (o : link_out.Ghosts O)
    (w : World) (net : Net) (c : ℕ) (full : FullMember) (book : BookState F) (m : Member I O) (road : R) : Type 0 where
  pub roads_are : ShowsWorld r w net road
  pub lower : w.lowers c ≡ writes full
  pub shows : MemberShows i o w net c full m
  pub replica : replica_of book ≡ replica_at w c (block_of full.fields)
  pub later : IsLater c full.mirror

-- WHAT AN EVENT LEAVES

-- A member that goes on: both its sides act, if they did.
pub record GoesOn {I O : Type 0} (i : link_in.Ghosts I) (o : link_out.Ghosts O) (w : World) (net : Net) (c : ℕ)
    (old full : FullMember) (m : Member I O) : Type 0 where
  pub shows : MemberShows i o w net c full m
  pub acts : both_act full ≡ both_act old

-- a member that goes on, or one that is over
abbrev pub LeftShows : {I O : Type 0} → link_in.Ghosts I → link_out.Ghosts O → World → Net → ℕ → FullMember →
    FullMember → Option (Member I O) → Type 0
LeftShows i o w net c old full (Some m) = GoesOn i o w net c old full m
LeftShows i o w net c old full None = IsOver full

-- An end is none of a member's two: the lower one of its connection, and the upper one of that to its mirror.
abbrev pub IsNoneOf : ℕ → Option ℕ → ℕ → Bool → Type 0
IsNoneOf c mirror d lower = IsElsewhere c true d lower × IfSome mirror (λ e. IsElsewhere e false d lower)

-- Each other end of the world before is one of the world after.
abbrev pub OthersStay : {I O : Type 0} → link_in.Ghosts I → link_out.Ghosts O → World → Net → World → Net → ℕ →
    Option ℕ → Type 0
OthersStay {I} {O} i o w net v made c mirror = (d : ℕ) (lower : Bool) (e : Conn I O) → IsNoneOf c mirror d lower →
    IsEndOf i o w net d lower e
    → IsEndOf i o v made d lower e

-- The member of the world after, the roads, the book, and what is left of the running member show that world.
pub record MemberLeft {F R I O : Type 0} (r : roads.Ghosts R I O) (i : link_in.Ghosts I) (o : link_out.Ghosts O)
    (w : World) (net : Net) (v : World) (c : ℕ) (old : FullMember) (book : BookState F) (road : R)
    (left : Option (Member I O)) : Type 0 where
  pub made : Net
  pub roads_are : ShowsWorld r v made road
  pub full : FullMember
  pub lower : v.lowers c ≡ writes full
  pub fields : full.fields ≡ old.fields
  pub mirror : full.mirror ≡ old.mirror
  pub left_is : LeftShows i o v made c old full left
  pub replica : replica_of book ≡ replica_at v c (block_of full.fields)
  pub others : OthersStay i o w net v made c old.mirror
