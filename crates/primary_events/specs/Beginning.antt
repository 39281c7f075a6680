-- The beginning of a primary, and the world after it.
use Rattle.std.specs.Prelude.{◌≡◌, ◌⊎◌, ℕ, Bool, true, false, List, [], ◌∷◌, ◌++◌, length, map, is_some, slice_get}
use Rattle.std.specs.Prelude.{All, Option, Some, None, IfSome, Result, Ok, Err}
use Rattle.std.specs.List.{list_any}
use Rattle.std.specs.Global.{Vec}
use Rattle.hd_base.specs.Channels.{Plain}
use Rattle.hd_base.specs.Ends.{IsKnown}
use Rattle.hd_base.specs.Faults.{FaultsIncreased}
use Rattle.hd_base.specs.declared.ends.Conn.{Conn}
use Rattle.hd_base.specs.declared.links.LinkIn as link_in
use Rattle.hd_base.specs.declared.links.LinkOut as link_out
use Rattle.hd_base.specs.declared.numbers.BlockId.{BlockId}
use Rattle.hd_base.specs.declared.numbers.NodeId.{NodeId}
use Rattle.hd_base.specs.declared.roads.Roads as roads
use Rattle.name_core.specs.declared.desks.Desk as desk
use Rattle.block_recovery.specs.declared.primary.Primary as running
use Rattle.block_recovery.specs.declared.primary.PrimaryStep.{PrimaryStep}
use Rattle.block_recovery.specs.declared.primary.PrimaryStep.TheVariants as step
use Rattle.block_recovery.specs.Actions.{Passes}
use Rattle.block_recovery.specs.Beginning.{ports_of, StartsSo}
use Rattle.block_recovery.specs.Dialling.{dial_port, is_lost}
use Rattle.recovery_core.specs.declared.primary.Phase.TheVariants as phase
use Rattle.recovery_core.specs.declared.primary.Recovered.{Recovered}
use Rattle.road_traffic.specs.Showing.{Net}
use Rattle.world.specs.declared.events.Caller.TheVariants as caller
use Rattle.world.specs.declared.events.Event.TheVariants as event
use Rattle.world.specs.declared.events.OwnStep.TheVariants as own_event
use Rattle.world.specs.Parts.{Leading, no_primary, leads, has_led}
use Rattle.world.specs.Worlds.{World}
use Rattle.world.specs.Clients.{are_members}
use Rattle.world.specs.Connections.{is_alive}
use Rattle.world.specs.Events.{happens}
use Rattle.world.specs.Primaries.{dials_answered, numbered}
use Rattle.world_primaries.specs.WorldNets.Nets.{IsEndOf}
use Rattle.client_events.specs.MemberEvents.Joining.{AcceptsDial}
use Rattle.client_events.specs.MemberEvents.Roads.{RoadsPass}
use Rattle.client_events.specs.MemberEvents.Showing.{ShowsWorld}
use Rattle.primary_events.specs.declared.beginning.PrimaryBegun.{PrimaryBegun}
use Rattle.primary_events.specs.declared.beginning.PrimaryBegun.TheVariants as begun
use Rattle.primary_events.specs.declared.faults.PrimaryFault.{PrimaryFault}
use Rattle.primary_events.specs.declared.faults.PrimaryFault.TheVariants as fault
use Rattle.primary_events.specs.Leading.{led_as, SpellConns, AllOthersStay}
use Rattle.primary_events.specs.Showing.{PrimaryStands}
use Rattle.primary_events.specs.Updating.{HasRisen, Flushes}

-- STEPS OF THE EVENT

-- The first step was done, and an end is lost only where memory ran out.
pub record BeginsBy {D R I O : Type 0} (d : desk.Ghosts D) (r : roads.Ghosts R I O) (i : link_in.Ghosts I)
    (o : link_out.Ghosts O) (old new : running.Primary I O) (office office' : D) (road road' : R)
    (result : Result PrimaryStep PrimaryFault) : Type 0 where
  pub did : PrimaryStep
  pub starts : StartsSo d r i o old new office office' road road' did
  pub is : result ≡ led_as did (list_any (λ link. is_lost (Some link)) new.links.items)

-- The lower ends that were taken so far, by the members' places, and the roads.
pub record Lowers (R I O : Type 0) : Type 0 where
  pub lowers : List (Option (Conn I O))
  pub road : R

-- The oldest dial that waits at the port, if one was dialled, is accepted.
abbrev pub AcceptsIf : {R I O : Type 0} → roads.Ghosts R I O → link_in.Ghosts I → link_out.Ghosts O →
    Option (Option ℕ) → R → R → Option (Conn I O) → Type 0
AcceptsIf r i o (Some None) road road' None = road' ≡ road
AcceptsIf r i o (Some (Some port)) road road' (Some lower) = AcceptsDial r i o port road road' lower
AcceptsIf r i o port road road' lower = ⊥

-- It is, for the member at this place.
pub record TakesLower {R I O : Type 0} (r : roads.Ghosts R I O) (i : link_in.Ghosts I) (o : link_out.Ghosts O)
    (ports : List (Option ℕ)) (place : ℕ) (old new : Lowers R I O) : Type 0 where
  pub lower : Option (Conn I O)
  pub more : new.lowers ≡ old.lowers ++ lower ∷ []
  pub accepts : AcceptsIf r i o (slice_get ports place) old.road new.road lower
  pub pass : RoadsPass r old.road new.road

-- Where it isn't, the roads' count rose, or no dial waits there.
abbrev pub AcceptFails : {R I O : Type 0} → roads.Ghosts R I O → Option (Option ℕ) → R → R → PrimaryFault → Type 0
AcceptFails r port road road' fault.Memory = Unit {0}
AcceptFails r (Some (Some port)) road road' fault.RoadsFailed =
    IfSome (r.plain road) (λ p. p.waiting port ≡ []) ⊎ FaultsIncreased (r.faults road) (r.faults road')
AcceptFails r port road road' why = ⊥

-- It is, or it isn't.
abbrev pub AcceptsAt : {R I O : Type 0} → roads.Ghosts R I O → link_in.Ghosts I → link_out.Ghosts O → Option ℕ → R →
    R → Result (Option (Conn I O)) PrimaryFault → Type 0
AcceptsAt r i o port road road' (Ok lower) = AcceptsIf r i o (Some port) road road' lower
AcceptsAt r i o port road road' (Err why) = AcceptFails r (Some port) road road' why

-- The dials were accepted in order, up to one that wasn't.
pub record AcceptsFew {R I O : Type 0} (r : roads.Ghosts R I O) (i : link_in.Ghosts I) (o : link_out.Ghosts O)
    (ports : List (Option ℕ)) (road road' : R) (why : PrimaryFault) : Type 0 where
  pub count : ℕ
  pub middle : Lowers R I O
  pub passes : Passes (TakesLower r i o ports) count (record { lowers = []; road = road }) middle
  pub fails : AcceptFails r (slice_get ports count) middle.road road' why

-- All dials were accepted, or one wasn't.
abbrev pub AcceptsAll : {R I O : Type 0} → roads.Ghosts R I O → link_in.Ghosts I → link_out.Ghosts O →
    List (Option ℕ) → R → R → Result (Vec (Option (Conn I O))) PrimaryFault → Type 0
AcceptsAll r i o ports road road' (Ok lowers) =
    Passes (TakesLower r i o ports) (length ports) (record { lowers = []; road = road })
    (record { lowers = lowers.items; road = road' })
AcceptsAll r i o ports road road' (Err why) = AcceptsFew r i o ports road road' why

-- The dials to the members were accepted, or one wasn't, or memory ran out.
abbrev pub Meets : {R I O : Type 0} → roads.Ghosts R I O → link_in.Ghosts I → link_out.Ghosts O →
    running.Primary I O → R → R → Result (PrimaryBegun I O) PrimaryFault → Type 0
Meets r i o primary road road' (Ok (begun.Leads lowers)) =
    AcceptsAll r i o (ports_of primary.members primary.links.items) road road' (Ok lowers)
Meets r i o primary road road' (Ok (begun.Ended end)) = ⊥
Meets r i o primary road road' (Err why) = (why ≡ fault.Memory)
    ⊎ AcceptsAll r i o (ports_of primary.members primary.links.items) road road' (Err why)

-- Nothing more is done.
pub record BeginsNoFurther {R I O : Type 0} (old new : running.Primary I O) (road road' : R)
    (ended result : Result (PrimaryBegun I O) PrimaryFault) : Type 0 where
  pub primary_same : new ≡ old
  pub roads_same : road' ≡ road
  pub is : result ≡ ended

-- What follows the exchange of all ends.
abbrev pub MeetsBehind : {R I O : Type 0} → roads.Ghosts R I O → link_in.Ghosts I → link_out.Ghosts O →
    Result PrimaryStep PrimaryFault → running.Primary I O → running.Primary I O → R → R →
    Result (PrimaryBegun I O) PrimaryFault → Type 0
MeetsBehind r i o (Ok s) old new road road' result = (new ≡ old) × Meets r i o new road road' result
MeetsBehind r i o (Err why) old new road road' result = BeginsNoFurther old new road road' (Err why) result

-- All ends are exchanged, and then the dials are accepted.
pub record GoesOut {R I O : Type 0} (r : roads.Ghosts R I O) (i : link_in.Ghosts I) (o : link_out.Ghosts O)
    (old new : running.Primary I O) (road road' : R) (result : Result (PrimaryBegun I O) PrimaryFault) : Type 0 where
  pub middle : running.Primary I O
  pub passed : R
  pub flushed : Result PrimaryStep PrimaryFault
  pub flushes : Flushes r i o [] old middle road passed flushed
  pub same : (middle.block ≡ old.block) × (middle.members ≡ old.members)
  pub meets : MeetsBehind r i o flushed middle new passed road' result

-- What follows the first step.
abbrev pub GoesOutBehind : {R I O : Type 0} → roads.Ghosts R I O → link_in.Ghosts I → link_out.Ghosts O →
    Result PrimaryStep PrimaryFault → running.Primary I O → running.Primary I O → R → R →
    Result (PrimaryBegun I O) PrimaryFault → Type 0
GoesOutBehind r i o (Ok (step.Ended end)) old new road road' result =
    BeginsNoFurther old new road road' (Ok (begun.Ended end)) result
GoesOutBehind r i o (Ok other) old new road road' result = GoesOut r i o old new road road' result
GoesOutBehind r i o (Err why) old new road road' result = BeginsNoFurther old new road road' (Err why) result

-- BEFORE THE EVENT

-- The primary with this number is new, the node runs at which it is to begin, and these are members.
pub record CanBegin (w : World) (number : ℕ) (node : NodeId) (members : List NodeId) : Type 0 where
  pub new : w.primaries number ≡ no_primary
  pub runs : w.running node.0 ≡ true
  pub members_are : are_members members ≡ true

-- AFTER THE EVENT

-- the world after the office was asked, and the primary has begun, whose dials were answered or not
abbrev pub begun_world : World → ℕ → NodeId → BlockId → List NodeId → List Bool → World
begun_world w number node block members answers = happens (happens w (event.Office (caller.Primary number block)))
    (event.Own (own_event.Recover number node block members answers))

-- What is sent down on the connections of the primary is spelled as it is written (messages_are_written).
abbrev pub SpellsBegun : World → ℕ → Type 0
SpellsBegun v number = (l : Leading) → v.primaries number ≡ leads l → SpellConns v l.conns

-- The lower end of the connection to a member, if there is one.
abbrev pub LowerShows : {I O : Type 0} → link_in.Ghosts I → link_out.Ghosts O → World → Net → Option (Option ℕ) →
    Option (Option (Conn I O)) → Type 0
LowerShows i o v net (Some (Some conn)) (Some (Some lower)) = IsEndOf i o v net conn true lower
LowerShows i o v net (Some None) (Some None) = Unit {0}
LowerShows i o v net None None = Unit {0}
LowerShows i o v net conn lower = ⊥

-- The primary, which leads from this node and has sent the INIT, the lower ends of its connections, which are numbered
-- in the members' order, the office and the roads show the world; all ends that there were stay.
pub record LeadsBegun {D R I O : Type 0} (d : desk.Ghosts D) (r : roads.Ghosts R I O) (i : link_in.Ghosts I)
    (o : link_out.Ghosts O) (w : World) (net : Net) (v : World) (number : ℕ) (node : NodeId)
    (lowers : List (Option (Conn I O))) (primary : running.Primary I O) (office : D) (road : R) : Type 0 where
  pub made : Net
  pub leading : Leading
  pub at_node : leading.at.node ≡ node.0
  pub alive : is_alive v leading.at ≡ true
  pub informs : leading.state.phase ≡ phase.Informing
  pub conns_are : leading.conns ≡ numbered w.next_conn (map is_some lowers)
  pub stands : PrimaryStands r i o v made number leading primary road
  pub lowers_are : (place : ℕ) → LowerShows i o v made (slice_get leading.conns place) (slice_get lowers place)
  pub office_is : d.office office ≡ Some v.office
  pub others : AllOthersStay i o w net v made []

-- A member's dial wasn't answered: its node has no port, or doesn't run, or the roads' count rose.
abbrev pub IsUnreached : {R I O : Type 0} → roads.Ghosts R I O → World → NodeId → R → R → Type 0
IsUnreached r w member road road' =
    (dial_port member ≡ None) ⊎ ((w.running member.0 ≡ false) ⊎ FaultsIncreased (r.faults road) (r.faults road'))

-- There are lower ends of the members whose dials were answered, and so they are in the world. The primary leads, in
-- each world in which the same dials are answered.
pub record HasBegun {D R I O : Type 0} (d : desk.Ghosts D) (r : roads.Ghosts R I O) (i : link_in.Ghosts I)
    (o : link_out.Ghosts O) (w : World) (net : Net) (number : ℕ) (node : NodeId) (members : List NodeId)
    (after : List Bool → World) (lowers : List (Option (Conn I O))) (primary : running.Primary I O) (office : D)
    (road road' : R) : Type 0 where
  pub answered : dials_answered w members (map is_some lowers) ≡ map is_some lowers
  pub unanswered : (place : ℕ) (member : NodeId) → slice_get members place ≡ Some member →
      slice_get lowers place ≡ Some None → IsUnreached r w member road road'
  pub leads_so : (answers : List Bool) → dials_answered w members answers ≡ map is_some lowers →
      LeadsBegun d r i o w net (after answers) number node lowers primary office road'

-- The office and the roads show the world, in which the recovery has ended so; all ends stay.
pub record EndsBegun {D R I O : Type 0} (d : desk.Ghosts D) (r : roads.Ghosts R I O) (i : link_in.Ghosts I)
    (o : link_out.Ghosts O) (w : World) (net : Net) (v : World) (number : ℕ) (end : Recovered) (office : D) (road : R)
    : Type 0 where
  pub roads_are : ShowsWorld r v net road
  pub office_is : d.office office ≡ Some v.office
  pub led : v.primaries number ≡ has_led end
  pub others : AllOthersStay i o w net v net []

-- An end of one of the new connections was brought back with a count that had risen.
pub record NewHasRisen {R I O : Type 0} (r : roads.Ghosts R I O) (next : ℕ) (road : R) : Type 0 where
  pub answers : List Bool
  pub risen : HasRisen r (numbered next answers) road

-- Each fault has its cause: that, or the roads' count rose.
abbrev pub IsBeginCause : {R I O : Type 0} → roads.Ghosts R I O → ℕ → R → R → PrimaryFault → Type 0
IsBeginCause r next road road' fault.LinkFailed = NewHasRisen r next road'
IsBeginCause r next road road' fault.RoadsFailed = FaultsIncreased (r.faults road) (r.faults road')
IsBeginCause r next road road' fault.Memory = Unit {0}

-- It has begun; or the recovery has ended by the office's refusal, whatever is said of dials.
abbrev pub BeginEnds : {D R I O : Type 0} → desk.Ghosts D → roads.Ghosts R I O → link_in.Ghosts I →
    link_out.Ghosts O → World → Net → ℕ → NodeId → List NodeId → (List Bool → World) → running.Primary I O → D → R → R →
    Result (PrimaryBegun I O) PrimaryFault → Type 0
BeginEnds d r i o w net number node members after primary office road road' (Ok (begun.Leads lowers)) =
    HasBegun d r i o w net number node members after lowers.items primary office road road'
BeginEnds d r i o w net number node members after primary office road road' (Ok (begun.Ended end)) =
    (answers : List Bool) → EndsBegun d r i o w net (after answers) number end office road'
BeginEnds d r i o w net number node members after primary office road road' (Err why) =
    IsBeginCause r w.next_conn road road' why

-- The office and the roads show a world in which the primary is new.
abbrev pub BeginShows : {D R I O : Type 0} → desk.Ghosts D → roads.Ghosts R I O → link_in.Ghosts I →
    link_out.Ghosts O → running.Primary I O → running.Primary I O → D → D → R → R →
    Result (PrimaryBegun I O) PrimaryFault → Type 0
BeginShows d r i o old new office office' road road' result =
    (w : World) (net : Net) (number : ℕ) (node : NodeId) → ShowsWorld r w net road →
    CanBegin w number node old.members → d.office office ≡ Some w.office →
    ((answers : List Bool) → SpellsBegun (begun_world w number node old.block old.members answers) number)
    → BeginEnds d r i o w net number node old.members (begun_world w number node old.block old.members) new office' road
    road' result

-- THE LOWER ENDS ARE KNOWN

-- The roads know the end, if there is one.
abbrev pub LowerIsKnown : {I O : Type 0} → Option Plain → Option (Conn I O) → Type 0
LowerIsKnown plain None = Unit {0}
LowerIsKnown plain (Some lower) = IsKnown plain lower.id.0

-- The roads know each lower end that is handed out.
abbrev pub BegunIsKnown : {I O : Type 0} → Option Plain → PrimaryBegun I O → Type 0
BegunIsKnown plain (begun.Leads lowers) = All (LowerIsKnown plain) lowers.items
BegunIsKnown plain (begun.Ended end) = Unit {0}
