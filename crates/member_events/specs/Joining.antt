-- A request to write makes an end a member.
use Rattle.std.specs.Prelude.{◌≡◌, ◌≢◌, ◌⊎◌, ◌&&◌, ◌≤◌, ◌<◌, ℕ, Bool, true, false, List, [], slice_get, Option, Some, None, option_map, IfSome, Result, Ok, Err, ◌+◌}
use Rattle.hd_base.specs.Channels.{with_accept}
use Rattle.hd_base.specs.Ends.{IsFresh, IsKnown, IsObservable}
use Rattle.hd_base.specs.Faults.{FaultsIncreased}
use Rattle.hd_base.specs.declared.ends.Conn.{Conn}
use Rattle.hd_base.specs.declared.files.Files as files
use Rattle.hd_base.specs.declared.links.LinkIn as link_in
use Rattle.hd_base.specs.declared.links.LinkOut as link_out
use Rattle.hd_base.specs.declared.numbers.ConnId.{ConnId}
use Rattle.hd_base.specs.declared.numbers.NodeId.{NodeId}
use Rattle.hd_base.specs.declared.roads.Roads as roads
use Rattle.hd_base.specs.declared.roads.TheConstants.{FIRST_PORT}
use Rattle.op_headers.specs.declared.nodes.NodeRef.{NodeRef}
use Rattle.op_headers.specs.declared.ops.Op.TheVariants as op
use Rattle.op_headers.specs.Values.{WriteFields}
use Rattle.pipe_member.specs.MemberCore.TheConstants.{MAX_PORT}
use Rattle.pipe_member.specs.ReplicaFiles.BookState.{BookState}
use Rattle.pipe_member.specs.ReplicaFiles.Books.{replica_of}
use Rattle.pipe_member.specs.PipeSetup.Requests.{first_port}
use Rattle.pipe_member.specs.declared.member.Member.{Member}
use Rattle.road_traffic.specs.Showing.{Net}
use Rattle.world_texts.specs.World.Event.TheVariants as event
use Rattle.world_texts.specs.World.Parts.{Message, request, FullMember, idle, writes, ended_below, by_member}
use Rattle.world_texts.specs.World.Worlds.{World}
use Rattle.world_texts.specs.World.Connections.{Next, message, down_taken, place_of}
use Rattle.world_texts.specs.World.Nodes.{node_of, block_of, replica_at, mirror_node}
use Rattle.world_texts.specs.World.Events.{happens}
use Rattle.world_texts.specs.WorldNets.Drawn.{ComesDown}
use Rattle.world_texts.specs.WorldNets.Nets.{IsEndOf}
use Rattle.world_texts.specs.Texts.{SpellsText}
use Rattle.member_events.specs.declared.beginning.Requested.{Requested}
use Rattle.member_events.specs.declared.joining.Joined.{Joined}
use Rattle.member_events.specs.declared.joining.MirrorDial.{MirrorDial}
use Rattle.member_events.specs.declared.joining.MirrorDial.TheVariants as dial
use Rattle.member_events.specs.declared.faults.MemberFault.{MemberFault}
use Rattle.member_events.specs.declared.faults.MemberFault.TheVariants as fault
use Rattle.member_events.specs.Faults.{IsCaused}
use Rattle.member_events.specs.Showing.{ShowsWorld, MemberShows, both_act, IsOver, OthersStay}
use Rattle.member_events.specs.Texts.{SpellUp}

-- THE MIRROR

-- The port of the first target, if there is one and its port isn't higher than the last.
abbrev pub IsMirrorPort : List NodeRef → Option ℕ → Type 0
IsMirrorPort targets None = targets ≢ [] → MAX_PORT < first_port targets
IsMirrorPort targets (Some port) = (targets ≢ []) × ((port ≡ first_port targets) × (port ≤ MAX_PORT))

-- The oldest dial that waits at the port is accepted, and this is its lower end.
pub record AcceptsDial {R I O : Type 0} (r : roads.Ghosts R I O) (i : link_in.Ghosts I) (o : link_out.Ghosts O)
    (port : ℕ) (road road' : R) (at_end : Conn I O) : Type 0 where
  pub number : IfSome (r.plain road) (λ p. slice_get (p.waiting port) 0 ≡ Some at_end.id.0)
  pub known : IsKnown (r.plain road) at_end.id.0
  pub lower : at_end.lower ≡ true
  pub fresh : IsFresh i o at_end
  pub observable : IfSome (r.plain road) (λ _. IsObservable i o at_end)
  pub plain : r.plain road' ≡ option_map (λ p. with_accept p port) (r.plain road)
  pub carried : r.carried road' ≡ r.carried road

-- It is, for this member.
pub record AcceptsFor {R I O : Type 0} (r : roads.Ghosts R I O) (i : link_in.Ghosts I) (o : link_out.Ghosts O)
    (port : ℕ) (m : Member I O) (road road' : R) (joined : Joined I O) : Type 0 where
  pub at_end : Conn I O
  pub is : joined ≡ record { member = Some m; mirror = dial.Reached at_end }
  pub accepts : AcceptsDial r i o port road road' at_end

-- Where it isn't, the roads' count rose, or no dial waits there.
abbrev pub Accepts : {R I O : Type 0} → roads.Ghosts R I O → link_in.Ghosts I → link_out.Ghosts O → ℕ → Member I O →
    R → R → Result (Joined I O) MemberFault → Type 0
Accepts r i o port m road road' (Ok joined) = AcceptsFor r i o port m road road' joined
Accepts r i o port m road road' (Err fault.RoadsFailed) =
    IfSome (r.plain road) (λ p. p.waiting port ≡ []) ⊎ FaultsIncreased (r.faults road) (r.faults road')
Accepts r i o port m road road' (Err fault.Memory) = Unit {0}
Accepts r i o port m road road' (Err other) = ⊥

-- There is no connection to a mirror that is to be accepted.
pub record MeetsNobody {R I O : Type 0} (left : Option (Member I O)) (mirror : MirrorDial I O) (road road' : R)
    (result : Result (Joined I O) MemberFault) : Type 0 where
  pub same : road' ≡ road
  pub is : result ≡ Ok (record { member = left; mirror = mirror })

-- A member that goes on holds an end to its mirror or not.
abbrev pub MeetsMirror : {R I O : Type 0} → roads.Ghosts R I O → link_in.Ghosts I → link_out.Ghosts O → ℕ →
    Member I O → Option (Conn I O) → R → R → Result (Joined I O) MemberFault → Type 0
MeetsMirror r i o port m None road road' result = MeetsNobody (Some m) dial.Unanswered road road' result
MeetsMirror r i o port m (Some end) road road' result = Accepts r i o port m road road' result

abbrev pub Meets : {R I O : Type 0} → roads.Ghosts R I O → link_in.Ghosts I → link_out.Ghosts O → Option ℕ →
    Option (Member I O) → R → R → Result (Joined I O) MemberFault → Type 0
Meets r i o port None road road' result = MeetsNobody None dial.NotDialled road road' result
Meets r i o None (Some m) road road' result = MeetsNobody (Some m) dial.NotDialled road road' result
Meets r i o (Some port) (Some m) road road' result = MeetsMirror r i o port m m.mirror road road' result

-- BEFORE THE EVENT

-- what stood next where a request to write was taken
abbrev pub write_next : WriteFields → Next
write_next fields = message (request (op.Write fields))

-- An end has taken this request, which came on the connection; the roads show the world in which it was taken, the book is
-- of the replica that it names at the node, and this is the number of the next connection.
pub record JoinStands {F R I O : Type 0} (r : roads.Ghosts R I O) (i : link_in.Ghosts I) (o : link_out.Ghosts O)
    (w : World) (net : Net) (c : ℕ) (node : NodeId) (next : ConnId) (requested : Requested I O) (book : BookState F)
    (road : R) : Type 0 where
  pub comes : ComesDown w c (write_next requested.op)
  pub lower : w.lowers c ≡ idle
  pub roads_are : ShowsWorld r (down_taken w c (write_next requested.op)) net road
  pub end_is : IsEndOf i o (down_taken w c (write_next requested.op)) net c true requested.end
  pub node_is : node.0 ≡ node_of w c
  pub next_is : next.0 ≡ w.next_conn
  pub replica : replica_of book ≡ replica_at w c (block_of requested.op)

-- Each message that was sent down on the connection is spelled by the bytes as which it is written.
abbrev pub SpellDown : World → ℕ → Type 0
SpellDown w c = (k : ℕ) (m : Message) → slice_get (w.downs c) k ≡ Some m → SpellsText m

-- The mirror's port is one of a node's, and what is sent is spelled as it is written (messages_are_written).
pub record CanJoin (w : World) (conn : ConnId) (fields : WriteFields) : Type 0 where
  pub of_node : fields.targets ≢ [] → FIRST_PORT ≤ first_port fields.targets
  pub answers : (answered : Bool) → SpellUp (happens w (event.Down conn answered)) conn.0
  pub goes_on : SpellDown (happens w (event.Down conn true)) w.next_conn

-- AFTER THE EVENT

-- An open member of this request, both of whose sides act, with or without a mirror.
pub record OpenJoins {I O : Type 0} (i : link_in.Ghosts I) (o : link_out.Ghosts O) (v : World) (made : Net) (c : ℕ)
    (fields : WriteFields) (mirror : Option ℕ) (m : Member I O) : Type 0 where
  pub full : FullMember
  pub lower : v.lowers c ≡ writes full
  pub fields_are : full.fields ≡ fields
  pub mirror_is : full.mirror ≡ mirror
  pub acts : both_act full ≡ true
  pub shows : MemberShows i o v made c full m

-- One that has no mirror, and no longer acts.
pub record OverJoins (v : World) (c : ℕ) : Type 0 where
  pub full : FullMember
  pub lower : v.lowers c ≡ writes full
  pub alone : full.mirror ≡ None
  pub over : IsOver full

-- A member that goes on; or one without a mirror that is over, or whose request was refused.
abbrev pub LeftJoins : {I O : Type 0} → link_in.Ghosts I → link_out.Ghosts O → World → Net → ℕ → WriteFields →
    Option ℕ → Option (Member I O) → Type 0
LeftJoins i o v made c fields mirror (Some m) = OpenJoins i o v made c fields mirror m
LeftJoins i o v made c fields None None = (v.lowers c ≡ ended_below) ⊎ OverJoins v c
LeftJoins i o v made c fields (Some d) None = ⊥

-- The roads, the book and the member show the world after the event, and the other ends stay. Without a mirror there are no
-- more connections than before.
pub record MemberJoins {F R I O : Type 0} (r : roads.Ghosts R I O) (i : link_in.Ghosts I) (o : link_out.Ghosts O)
    (taken : World) (net : Net) (v : World) (c : ℕ) (fields : WriteFields) (mirror : Option ℕ) (book : BookState F)
    (road : R) (left : Option (Member I O)) : Type 0 where
  pub made : Net
  pub roads_are : ShowsWorld r v made road
  pub left_is : LeftJoins i o v made c fields mirror left
  pub none_dialled : mirror ≡ None → v.next_conn ≡ taken.next_conn
  pub replica : replica_of book ≡ replica_at v c (block_of fields)
  pub others : OthersStay i o taken net v made c None

-- The connection with this number is the one to the mirror, which the member has dialled, at a node that runs.
pub record MirrorDialled (v : World) (c next : ℕ) (fields : WriteFields) : Type 0 where
  pub number : ℕ
  pub node_is : mirror_node fields.targets ≡ Some number
  pub runs : v.running number ≡ true
  pub upper : (v.dialled next).upper ≡ by_member c
  pub to : (v.dialled next).to ≡ place_of v number
  pub last : v.next_conn ≡ next + 1

-- So does the lower end of the connection to the mirror, where nothing was taken yet.
pub record MirrorJoins {F R I O : Type 0} (r : roads.Ghosts R I O) (i : link_in.Ghosts I) (o : link_out.Ghosts O)
    (taken : World) (net : Net) (v : World) (c next : ℕ) (fields : WriteFields) (book : BookState F) (road : R)
    (left : Option (Member I O)) (at_end : Conn I O) : Type 0 where
  pub joins : MemberJoins r i o taken net v c fields (Some next) book road left
  pub end_is : IsEndOf i o v joins.made next true at_end
  pub dialled : MirrorDialled v c next fields
  pub lower_same : v.lowers next ≡ taken.lowers next

-- The mirror at this node couldn't be asked: the node doesn't run, or the roads' count rose. The member goes on without
-- it, in the world where a dial fails: where it isn't answered, or the node doesn't run.
pub record UnaskedJoins {F R I O : Type 0} (r : roads.Ghosts R I O) (i : link_in.Ghosts I) (o : link_out.Ghosts O)
    (w : World) (net : Net) (conn : ConnId) (fields : WriteFields) (book : BookState F) (road road' : R)
    (left : Option (Member I O)) : Type 0 where
  pub number : ℕ
  pub node_is : mirror_node fields.targets ≡ Some number
  pub cause : (w.running number ≡ false) ⊎ FaultsIncreased (r.faults road) (r.faults road')
  pub joins : (answered : Bool) → (answered && w.running number) ≡ false →
      MemberJoins r i o (down_taken w conn.0 (write_next fields)) net (happens w (event.Down conn answered)) conn.0
      fields None book road' left

-- Which world it is, by the dial of the mirror: where none was made it is the same whether one would be answered or not.
abbrev pub JoinsBy : {F R I O : Type 0} → roads.Ghosts R I O → link_in.Ghosts I → link_out.Ghosts O → World → Net →
    ConnId → ConnId → WriteFields → BookState F → R → R → Option (Member I O) → MirrorDial I O → Type 0
JoinsBy r i o w net conn next fields book road road' left dial.NotDialled = (answered : Bool) →
    MemberJoins r i o (down_taken w conn.0 (write_next fields)) net (happens w (event.Down conn answered)) conn.0 fields
    None book road' left
JoinsBy r i o w net conn next fields book road road' left dial.Unanswered =
    UnaskedJoins r i o w net conn fields book road road' left
JoinsBy r i o w net conn next fields book road road' left (dial.Reached at_end) =
    MirrorJoins r i o (down_taken w conn.0 (write_next fields)) net (happens w (event.Down conn true)) conn.0 next.0
    fields book road' left at_end

-- How it ends; a fault has its cause.
abbrev pub JoinEnds : {F R I O : Type 0} → files.Ghosts F → roads.Ghosts R I O → link_in.Ghosts I →
    link_out.Ghosts O → World → Net → ConnId → ConnId → WriteFields → BookState F → BookState F → R → R →
    Result (Joined I O) MemberFault → Type 0
JoinEnds f r i o w net conn next fields book book' road road' (Ok joined) =
    JoinsBy r i o w net conn next fields book' road road' joined.member joined.mirror
JoinEnds f r i o w net conn next fields book book' road road' (Err why) =
    IsCaused f r conn.0 (Some next.0) book book' road road' why

abbrev pub JoinShows : {F R I O : Type 0} → files.Ghosts F → roads.Ghosts R I O → link_in.Ghosts I →
    link_out.Ghosts O → NodeId → ConnId → Requested I O → BookState F → BookState F → R → R →
    Result (Joined I O) MemberFault → Type 0
JoinShows f r i o node next requested book book' road road' result =
    (w : World) (net : Net) (conn : ConnId) →
    JoinStands r i o w net conn.0 node next requested book road → CanJoin w conn requested.op
    → JoinEnds f r i o w net conn next requested.op book book' road road' result
