-- Members and books in their places among the nodes of a play.
use Rattle.std.specs.Prelude.{◌==◌, Bool, true, false, length, map, position, ◌++◌, ◌-◌, [], ◌∷◌, ◌≡◌, ℕ, List, slice_get, slice_set, Option, Some, None, IsSome, option_and_then, Result, Ok, Err}
use Rattle.hd_base.specs.declared.ends.Conn.{Conn}
use Rattle.hd_base.specs.declared.files.Files as files
use Rattle.hd_base.specs.declared.links.LinkIn as link_in
use Rattle.hd_base.specs.declared.links.LinkOut as link_out
use Rattle.hd_base.specs.declared.roads.Roads as roads
use Rattle.hd_base.specs.declared.numbers.BlockId.{BlockId}
use Rattle.hd_base.specs.declared.numbers.ConnId.{ConnId}
use Rattle.hd_base.specs.declared.numbers.NodeId.{NodeId}
use Rattle.hd_base.specs.declared.roads.TheConstants.{FIRST_PORT}
use Rattle.op_headers.specs.declared.nodes.NodeRef.{NodeRef}
use Rattle.op_headers.specs.Values.{WriteFields}
use Rattle.member_events.specs.declared.beginning.Requested.{Requested}
use Rattle.member_events.specs.declared.faults.MemberFault.{MemberFault}
use Rattle.member_events.specs.declared.joining.Joined.{Joined}
use Rattle.member_events.specs.declared.joining.MirrorDial.{MirrorDial}
use Rattle.member_events.specs.declared.joining.MirrorDial.TheVariants as dial
use Rattle.member_events.specs.declared.steps.Downed.{Downed}
use Rattle.member_events.specs.declared.steps.Downed.TheVariants as downed
use Rattle.member_events.specs.Joining.{JoinShows}
use Rattle.member_events.specs.PipeMember.Member.{Member}
use Rattle.member_events.specs.ReplicaFiles.BookState.{BookState}
use Rattle.play_nodes.specs.declared.connections.Connection.{Connection}
use Rattle.play_nodes.specs.declared.connections.Lower.{Lower}
use Rattle.play_nodes.specs.declared.connections.Lower.TheVariants as lower
use Rattle.play_nodes.specs.declared.connections.Upper.{Upper}
use Rattle.play_nodes.specs.declared.connections.Upper.TheVariants as upper
use Rattle.play_nodes.specs.declared.faults.NodesFault.{NodesFault}
use Rattle.play_nodes.specs.declared.faults.NodesFault.TheVariants as fault
use Rattle.play_nodes.specs.declared.nodes.NodeBooks.{NodeBooks}
use Rattle.play_nodes.specs.declared.nodes.Nodes.{Nodes}
use Rattle.play_nodes.specs.declared.nodes.Refused.{Refused}
use Rattle.play_nodes.specs.declared.nodes.Refused.TheVariants as refused
use Rattle.play_nodes.specs.declared.nodes.Seat.{Seat}
use Rattle.play_nodes.specs.Faults.{fault_at}

-- BOOKS

-- the book at a place of a node
abbrev pub book_at : {F : Type 0} → List (NodeBooks F) → ℕ → ℕ → Option (BookState F)
book_at nodes node place = option_and_then (λ x. slice_get x.books.items place) (slice_get nodes node)

-- how many books each node has
abbrev pub book_counts : {F : Type 0} → List (NodeBooks F) → List ℕ
book_counts nodes = map (λ x. length x.books.items) nodes

-- The blocks are the same, and so is how many nodes there are, and how many books each has.
pub record KeepsSizes {F I O : Type 0} (old new : Nodes F I O) : Type 0 where
  pub blocks : new.blocks.items ≡ old.blocks.items
  pub books : book_counts new.nodes.items ≡ book_counts old.nodes.items

-- MEMBERS

-- the connection with another lower end
abbrev pub with_lower : {I O : Type 0} → Connection I O → Lower I O → Connection I O
with_lower x l = record x { lower = l }

-- A member stands there, and so does its book.
pub record IsSeated {F I O : Type 0} (n : Nodes F I O) (c : ℕ) (s : Seat) : Type 0 where
  pub conn : s.conn ≡ c
  pub at : Connection I O
  pub member : Member I O
  pub found : slice_get n.connections.items c ≡ Some at
  pub lower : at.lower ≡ lower.Member member s.place
  pub node : s.node ≡ at.node
  pub book : IsSome (book_at n.nodes.items s.node.0 s.place)

-- No member stands at the connection whose book is there.
abbrev pub IsUnseated : {F I O : Type 0} → Nodes F I O → ℕ → Type 0
IsUnseated {F} {I} {O} n c = (at : Connection I O) (m : Member I O) (place : ℕ) →
    slice_get n.connections.items c ≡ Some at → at.lower ≡ lower.Member m place
    → book_at n.nodes.items at.node.0 place ≡ None

abbrev pub IsSeat : {F I O : Type 0} → Nodes F I O → ℕ → Option Seat → Type 0
IsSeat n c None = IsUnseated n c
IsSeat n c (Some s) = IsSeated n c s

-- the member at a lower end, if it is one
abbrev pub member_of : {I O : Type 0} → Lower I O → Option (Member I O)
member_of (lower.Member m place) = Some m
member_of other = None

-- The lower end at a connection was taken from its place.
pub record Takes {F I O : Type 0} (old new : Nodes F I O) (c : ℕ) (result : Option (Member I O)) : Type 0 where
  pub blocks : new.blocks.items ≡ old.blocks.items
  pub nodes : new.nodes.items ≡ old.nodes.items
  pub set : (at : Connection I O) → slice_get old.connections.items c ≡ Some at →
      new.connections.items ≡ slice_set old.connections.items c (with_lower at lower.Ended)
  pub taken : (at : Connection I O) → slice_get old.connections.items c ≡ Some at → result ≡ member_of at.lower

-- the lower end that is left of a member
abbrev pub lower_left : {I O : Type 0} → ℕ → Lower I O → Option (Member I O) → Lower I O
lower_left place old None = old
lower_left place old (Some m) = lower.Member m place

-- What is left of a member is in its place.
pub record PutBack {F I O : Type 0} (old new : Nodes F I O) (s : Seat) (left : Option (Member I O)) : Type 0 where
  pub blocks : new.blocks.items ≡ old.blocks.items
  pub nodes : new.nodes.items ≡ old.nodes.items
  pub set : (at : Connection I O) → slice_get old.connections.items s.conn ≡ Some at →
      new.connections.items ≡ slice_set old.connections.items s.conn (with_lower at (lower_left s.place at.lower left))

-- What follows an event of a member.
abbrev pub Follows : {F I O : Type 0} → Nodes F I O → Nodes F I O → Seat → Result (Option (Member I O)) MemberFault →
    Result (Unit {0}) NodesFault → Type 0
Follows old new s (Ok left) result = PutBack old new s left × (result ≡ Ok tt)
Follows old new s (Err why) result = (new ≡ old) × (result ≡ Err (fault_at s.node why))

-- What follows an event in which a member has taken what stood next from above, by whether its replica grew.
abbrev pub FollowsDown : {F I O : Type 0} → Nodes F I O → Nodes F I O → Seat → Result (Downed I O) MemberFault → Bool →
    Result Bool NodesFault → Type 0
FollowsDown old new s (Ok (downed.Done left)) grew result = PutBack old new s left × (result ≡ Ok grew)
FollowsDown old new s (Ok downed.Broke) grew result = (new ≡ old) × (result ≡ Err (fault.FilesFailed s.node))
FollowsDown old new s (Err why) grew result = (new ≡ old) × (result ≡ Err (fault_at s.node why))

-- What follows one in which the writes on the member's data file were refused.
abbrev pub FollowsRefusing : {F I O : Type 0} → Nodes F I O → Nodes F I O → Seat → Result (Refused I O) MemberFault →
    Result Bool NodesFault → Type 0
FollowsRefusing old new s (Ok (refused.Done left)) result = PutBack old new s left × (result ≡ Ok false)
FollowsRefusing old new s (Ok refused.Broke) result = PutBack old new s None × (result ≡ Ok true)
FollowsRefusing old new s (Ok refused.Failed) result = (new ≡ old) × (result ≡ Err (fault.FilesFailed s.node))
FollowsRefusing old new s (Err why) result = (new ≡ old) × (result ≡ Err (fault_at s.node why))

-- the member that dialled a connection, if one did
abbrev pub member_above : Option Upper → Option ConnId
member_above (Some (upper.Member conn)) = Some conn
member_above other = None

-- A book was set to this one, and all else stays.
pub record BookSet {F I O : Type 0} (old new : Nodes F I O) (node place : ℕ) (book : BookState F) : Type 0 where
  pub blocks : new.blocks.items ≡ old.blocks.items
  pub connections : new.connections.items ≡ old.connections.items
  pub here : book_at new.nodes.items node place ≡ Some book
  pub there : (n p : ℕ) → (n ≡ node → p ≡ place → ⊥) → book_at new.nodes.items n p ≡ book_at old.nodes.items n p

-- THE FIRST MESSAGE

-- the end of a lower end that has taken nothing yet, if it is one
abbrev pub idle_of : {I O : Type 0} → Lower I O → Option (Conn I O)
idle_of (lower.Idle end) = Some end
idle_of other = None

-- The lower end at a connection was taken from its place.
pub record TakesIdle {F I O : Type 0} (old new : Nodes F I O) (c : ℕ) (result : Option (Conn I O)) : Type 0 where
  pub blocks : new.blocks.items ≡ old.blocks.items
  pub nodes : new.nodes.items ≡ old.nodes.items
  pub set : (at : Connection I O) → slice_get old.connections.items c ≡ Some at →
      new.connections.items ≡ slice_set old.connections.items c (with_lower at lower.Ended)
  pub taken : (at : Connection I O) → slice_get old.connections.items c ≡ Some at → result ≡ idle_of at.lower

-- The node that listens on the port of the first target.
abbrev pub IsMirrorNode : List NodeRef → NodeId → Type 0
IsMirrorNode [] node = Unit {0}
IsMirrorNode (first ∷ rest) node = node.0 ≡ first.xfer - FIRST_PORT

-- the connection to a member's mirror, of which nothing was taken yet
abbrev pub mirror_made : {I O : Type 0} → ℕ → NodeId → Conn I O → Connection I O
mirror_made c node end = record {
  upper = upper.Member (record { 0 = c });
  node = node;
  lower = lower.Idle end;
  mirror = None;
}

-- The connection to the mirror was added, or memory ran out.
pub record IsAdded {F I O : Type 0} (old new : Nodes F I O) (s : Seat) (next : ConnId) (mirror : NodeId)
    (end : Conn I O) : Type 0 where
  pub blocks : new.blocks.items ≡ old.blocks.items
  pub nodes : new.nodes.items ≡ old.nodes.items
  pub set : (at : Connection I O) → slice_get old.connections.items s.conn ≡ Some at →
      new.connections.items ≡
      slice_set old.connections.items s.conn (record at { mirror = Some next }) ++ mirror_made s.conn mirror end ∷ []

abbrev pub Adds : {F I O : Type 0} → Nodes F I O → Nodes F I O → Seat → ConnId → NodeId → Conn I O →
    Result (Unit {0}) NodesFault → Type 0
Adds old new s next mirror end (Ok u) = IsAdded old new s next mirror end
Adds old new s next mirror end (Err why) = why ≡ fault.Memory

-- The same, where no node was dialled in vain.
abbrev pub AddsReached : {F I O : Type 0} → Nodes F I O → Nodes F I O → Seat → ConnId → NodeId → Conn I O →
    Result (Option NodeId) NodesFault → Type 0
AddsReached old new s next mirror end (Ok unanswered) = (unanswered ≡ None) × IsAdded old new s next mirror end
AddsReached old new s next mirror end (Err why) = why ≡ fault.Memory

abbrev pub AddsDial : {F I O : Type 0} → Nodes F I O → Nodes F I O → Seat → ConnId → NodeId → MirrorDial I O →
    Result (Option NodeId) NodesFault → Type 0
AddsDial old new s next mirror dial.NotDialled result = (new ≡ old) × (result ≡ Ok None)
AddsDial old new s next mirror dial.Unanswered result = (new ≡ old) × (result ≡ Ok (Some mirror))
AddsDial old new s next mirror (dial.Reached end) result = AddsReached old new s next mirror end result

-- What was made of an end is in its place, and so is the connection to its mirror.
pub record IsSettled {F I O : Type 0} (old new : Nodes F I O) (s : Seat) (next : ConnId) (mirror : NodeId)
    (joined : Joined I O) (result : Result (Option NodeId) NodesFault) : Type 0 where
  pub middle : Nodes F I O
  pub put : PutBack old middle s joined.member
  pub adds : AddsDial middle new s next mirror joined.mirror result

-- What follows the setup of a member.
abbrev pub FollowsJoin : {F I O : Type 0} → Nodes F I O → Nodes F I O → Seat → ConnId → NodeId →
    Result (Joined I O) MemberFault → Result (Option NodeId) NodesFault → Type 0
FollowsJoin old new s next mirror (Ok joined) result = IsSettled old new s next mirror joined result
FollowsJoin old new s next mirror (Err why) result = (new ≡ old) × (result ≡ Err (fault_at s.node why))

-- where the block of a request stands among those of the play
abbrev pub place_of : List BlockId → WriteFields → Option ℕ
place_of blocks fields = position (λ b. b.0 == fields.block.block.0) blocks

-- A request was set up with the book of its block at its node.
pub record IsJoined {F R I O : Type 0} (f : files.Ghosts F) (r : roads.Ghosts R I O) (i : link_in.Ghosts I)
    (o : link_out.Ghosts O) (old new : Nodes F I O) (conn : ℕ) (node : NodeId) (requested : Requested I O)
    (road road' : R) (result : Result (Option NodeId) NodesFault) : Type 0 where
  pub place : ℕ
  pub at_place : place_of old.blocks.items requested.op ≡ Some place
  pub book : BookState F
  pub book' : BookState F
  pub at_book : book_at old.nodes.items node.0 place ≡ Some book
  pub next : ConnId
  pub next_is : next.0 ≡ length old.connections.items
  pub mirror : NodeId
  pub mirror_is : IsMirrorNode requested.op.targets mirror
  pub set : Nodes F I O
  pub is_set : BookSet old set node.0 place book'
  pub joined : Result (Joined I O) MemberFault
  pub shows : JoinShows f r i o node next requested book book' road road' joined
  pub follows : FollowsJoin set new (record { conn = conn; node = node; place = place }) next mirror joined result

-- Or there is no such book, and nothing was done.
pub record HasNoBook {F R I O : Type 0} (old new : Nodes F I O) (node : NodeId) (fields : WriteFields) (road road' : R)
    (result : Result (Option NodeId) NodesFault) : Type 0 where
  pub same : new ≡ old
  pub roads : road' ≡ road
  pub is : result ≡ Ok None
  pub none : (place : ℕ) → place_of old.blocks.items fields ≡ Some place → book_at old.nodes.items node.0 place ≡ None
