-- The setup of a pipeline by the writer of a block: the office gives a stamp, and the first member is asked.
use Rattle.std.specs.Prelude.{◌≡◌, ◌≢◌, ◌⊎◌, ℕ, ◌+◌, ◌≤◌, min, ◌&&◌, if◌then◌else◌, Bool, true, false, List, [], ◌∷◌, slice_get, Option, Some, None, IfSome, Result, Ok, Err}
use Rattle.hd_base.specs.Channels.{Plain}
use Rattle.hd_base.specs.Ends.{IsKnown}
use Rattle.hd_base.specs.Faults.{FaultsIncreased}
use Rattle.hd_base.specs.declared.ends.Conn.{Conn}
use Rattle.hd_base.specs.declared.links.LinkIn as link_in
use Rattle.hd_base.specs.declared.links.LinkOut as link_out
use Rattle.hd_base.specs.declared.numbers.BlockId.{BlockId}
use Rattle.hd_base.specs.declared.numbers.ConnId.{ConnId}
use Rattle.hd_base.specs.declared.numbers.NodeId.{NodeId}
use Rattle.hd_base.specs.declared.roads.Roads as roads
use Rattle.hd_base.specs.declared.roads.TheConstants.{FIRST_PORT}
use Rattle.pipe_recovery.specs.MemberCore.TheConstants.{MAX_PORT}
use Rattle.name_core.specs.declared.desks.Desk as desks
use Rattle.pipe_recovery.specs.declared.links.Link.{Link}
use Rattle.pipe_recovery.specs.declared.rebuilding.Rebuild.{Rebuild}
use Rattle.pipe_recovery.specs.Exchanging.{ExchangesLink, BringsLink}
use Rattle.road_traffic.specs.Showing.{Net}
use Rattle.member_events.specs.World.Parts.{by_writer}
use Rattle.member_events.specs.World.Worlds.{World}
use Rattle.member_events.specs.WorldNets.Nets.{IsEndOf}
use Rattle.writer_core.specs.declared.phases.Failure.TheVariants as failure
use Rattle.writer_core.specs.declared.phases.Phase.{Phase}
use Rattle.writer_core.specs.declared.phases.Phase.TheVariants as phase
use Rattle.writer_core.specs.declared.records.WriterRecord.{WriterRecord}
use Rattle.writer_core.specs.Transitions.{has_command_due}
use Rattle.member_events.specs.Joining.{SpellDown, AcceptsDial}
use Rattle.client_events.specs.declared.faults.ClientFault.{ClientFault}
use Rattle.client_events.specs.declared.faults.ClientFault.TheVariants as fault
use Rattle.client_events.specs.declared.pipes.Pipe.{Pipe}
use Rattle.client_events.specs.declared.pipes.Pipe.TheVariants as pipe
use Rattle.client_events.specs.declared.setting_up.SetUp.{SetUp}
use Rattle.client_events.specs.Events.{asked_world}
use Rattle.client_events.specs.Faults.{IsRoadFault, IsCaused}
use Rattle.client_events.specs.Showing.{ClientStands, ClientLeft, PipeIsKnown, PipeFits}

-- WHERE THE WRITER IS

-- The writer wants a pipeline.
abbrev pub IsWanted : Phase → Type 0
IsWanted (phase.Wanted s) = Unit {0}
IsWanted other = ⊥

-- the request was sent
abbrev pub is_requested : Phase → Bool
is_requested (phase.Requested s stamp) = true
is_requested other = false

-- the first member wasn't reached: the pipeline is wanted without it, or given up
abbrev pub is_unreached : Phase → Bool
is_unreached (phase.Wanted s) = true
is_unreached (phase.Failed (failure.Abandoned member)) = true
is_unreached (phase.Failed (failure.AllBad member)) = true
is_unreached other = false

-- THE FIRST MEMBER

-- the port of the first member, no higher than the last port
abbrev pub first_port : List NodeId → ℕ
first_port [] = FIRST_PORT
first_port (first ∷ others) = min (FIRST_PORT + first.0) MAX_PORT

-- what is left where no request was sent, to this first member
abbrev pub undialled : {I O : Type 0} → Phase → Option NodeId → Pipe I O → SetUp I O
undialled p first left =
    record { pipe = left; first = None; unreached = if is_unreached p then first else None }

-- The connection of a setup was exchanged without a take.
abbrev pub FlushesLink : {R I O : Type 0} → roads.Ghosts R I O → link_in.Ghosts I → link_out.Ghosts O →
    Option (Link I O) → R → R → Result (Rebuild I O) ClientFault → Type 0
FlushesLink r i o link road road' (Ok setup) = ExchangesLink r i o None link setup.link road road' (Ok tt)
FlushesLink r i o link road road' (Err why) = IsRoadFault (r.faults road) (r.faults road') why

-- Its end was brought back, as its link had failed, or memory ran out.
abbrev pub GivesUpLink : {R I O : Type 0} → roads.Ghosts R I O → link_in.Ghosts I → link_out.Ghosts O →
    Option (Link I O) → R → R → ClientFault → Type 0
GivesUpLink r i o link road road' fault.LinkFailed = BringsLink r i o link road road' (Ok tt)
GivesUpLink r i o link road road' fault.Memory = Unit {0}
GivesUpLink r i o link road road' other = ⊥

-- The dial was accepted, and this is its lower end.
pub record AcceptsFirst {R I O : Type 0} (r : roads.Ghosts R I O) (i : link_in.Ghosts I) (o : link_out.Ghosts O)
    (port : ℕ) (setup : Rebuild I O) (road road' : R) (left : SetUp I O) : Type 0 where
  pub at_end : Conn I O
  pub is : left ≡ record { pipe = pipe.SettingUp setup; first = Some at_end; unreached = None }
  pub accepts : AcceptsDial r i o port road road' at_end

-- Where it isn't, the roads' count rose, or no dial waits there.
abbrev pub Accepts : {R I O : Type 0} → roads.Ghosts R I O → link_in.Ghosts I → link_out.Ghosts O → ℕ →
    Rebuild I O → R → R → Result (SetUp I O) ClientFault → Type 0
Accepts r i o port setup road road' (Ok left) = AcceptsFirst r i o port setup road road' left
Accepts r i o port setup road road' (Err fault.RoadsFailed) =
    IfSome (r.plain road) (λ p. p.waiting port ≡ []) ⊎ FaultsIncreased (r.faults road) (r.faults road')
Accepts r i o port setup road road' (Err fault.Memory) = Unit {0}
Accepts r i o port setup road road' (Err other) = ⊥

-- The connection was exchanged, and its dial accepted.
pub record MeetsBy {R I O : Type 0} (r : roads.Ghosts R I O) (i : link_in.Ghosts I) (o : link_out.Ghosts O)
    (port : ℕ) (link : Option (Link I O)) (road road' : R) (result : Result (SetUp I O) ClientFault) : Type 0 where
  pub setup : Rebuild I O
  pub middle : R
  pub flushes : ExchangesLink r i o None link setup.link road middle (Ok tt)
  pub accepts : Accepts r i o port setup middle road' result

-- It was, or the exchange failed.
abbrev pub Meets : {R I O : Type 0} → roads.Ghosts R I O → link_in.Ghosts I → link_out.Ghosts O → ℕ →
    Option (Link I O) → R → R → Result (SetUp I O) ClientFault → Type 0
Meets r i o port link road road' (Ok left) = MeetsBy r i o port link road road' (Ok left)
Meets r i o port link road road' (Err why) =
    IsRoadFault (r.faults road) (r.faults road') why ⊎ MeetsBy r i o port link road road' (Err why)

-- BEFORE THE EVENTS

-- The office answers the writer of a block that wants a pipeline, and takes no command then; the desk is that of the
-- office, and this is the number of the next connection. The node of the first member has a port. The request is
-- spelled as it is written (messages_are_written).
pub record CanSetUp {D : Type 0} (d : desks.Ghosts D) (w : World) (block : BlockId) (next : ConnId)
    (known : WriterRecord) (desk : D) : Type 0 where
  pub office : d.office desk ≡ Some w.office
  pub next_is : next.0 ≡ w.next_conn
  pub no_command : has_command_due known ≡ false
  pub has_port : IfSome (slice_get known.members 0) (λ first. FIRST_PORT + first.0 ≤ MAX_PORT)
  pub spelled : SpellDown (asked_world w block true) next.0

-- AFTER THE EVENTS

-- The writer, its connection, the office and the roads show this world, and the other ends stay.
pub record SetUpLeft {D R I O : Type 0} (d : desks.Ghosts D) (r : roads.Ghosts R I O) (i : link_in.Ghosts I)
    (o : link_out.Ghosts O) (w : World) (net : Net) (v : World) (b : ℕ) (known : WriterRecord) (desk : D)
    (left : Pipe I O) (road : R) : Type 0 where
  pub office : d.office desk ≡ Some v.office
  pub said : v.said b ≡ w.said b
  pub shows : ClientLeft r i o w net v b v.office known left road

-- So does the lower end of the new connection, where nothing was taken yet: the writer has dialled its first member.
pub record FirstAsked {D R I O : Type 0} (d : desks.Ghosts D) (r : roads.Ghosts R I O) (i : link_in.Ghosts I)
    (o : link_out.Ghosts O) (w : World) (net : Net) (v : World) (b next : ℕ) (known : WriterRecord) (desk : D)
    (left : Pipe I O) (road : R) (at_end : Conn I O) : Type 0 where
  pub is_left : SetUpLeft d r i o w net v b known desk left road
  pub end_is : IsEndOf i o v is_left.shows.made next true at_end
  pub lower_same : v.lowers next ≡ w.lowers next
  pub upper : (v.dialled next).upper ≡ by_writer b
  pub member : NodeId
  pub first : slice_get known.members 0 ≡ Some member
  pub node : (v.dialled next).to.node ≡ member.0

-- The first member couldn't be asked: its node doesn't run, or the roads' count rose.
abbrev pub IsUnasked : {R I O : Type 0} → roads.Ghosts R I O → World → NodeId → R → R → Type 0
IsUnasked r w first road road' = (w.running first.0 ≡ false) ⊎ FaultsIncreased (r.faults road) (r.faults road')

-- The dial of the first member, which the writer had before, wasn't answered. It is the world in which it isn't; where
-- its node doesn't run, that in which a dial would be answered too.
pub record FirstUnreached {D R I O : Type 0} (d : desks.Ghosts D) (r : roads.Ghosts R I O) (i : link_in.Ghosts I)
    (o : link_out.Ghosts O) (w : World) (net : Net) (block : BlockId) (known known' : WriterRecord) (desk : D)
    (road road' : R) (left : Pipe I O) (member : NodeId) : Type 0 where
  pub first : slice_get known.members 0 ≡ Some member
  pub cause : IsUnasked r w member road road'
  pub is_left : (answered : Bool) → (answered && w.running member.0) ≡ false →
      SetUpLeft d r i o w net (asked_world w block answered) block.0 known' desk left road'

-- Which world it is: that in which the dial of the first member was answered, or wasn't; where none was made it is the
-- same whether one would be answered or not.
abbrev pub SetUpBy : {D R I O : Type 0} → desks.Ghosts D → roads.Ghosts R I O → link_in.Ghosts I →
    link_out.Ghosts O → World → Net → BlockId → ℕ → WriterRecord → WriterRecord → D → R → R → Pipe I O →
    Option (Conn I O) → Option NodeId → Type 0
SetUpBy d r i o w net block next known known' desk road road' left None None =
    (answered : Bool) → SetUpLeft d r i o w net (asked_world w block answered) block.0 known' desk left road'
SetUpBy d r i o w net block next known known' desk road road' left (Some at_end) None =
    FirstAsked d r i o w net (asked_world w block true) block.0 next known' desk left road' at_end
SetUpBy d r i o w net block next known known' desk road road' left None (Some member) =
    FirstUnreached d r i o w net block known known' desk road road' left member
SetUpBy d r i o w net block next known known' desk road road' left (Some at_end) (Some member) = ⊥

-- How it ends; a fault has its cause.
abbrev pub SetUpEnds : {D R I O : Type 0} → desks.Ghosts D → roads.Ghosts R I O → link_in.Ghosts I →
    link_out.Ghosts O → World → Net → BlockId → ℕ → WriterRecord → WriterRecord → D → R → R →
    Result (SetUp I O) ClientFault → Type 0
SetUpEnds d r i o w net block next known known' desk road road' (Ok left) =
    SetUpBy d r i o w net block next known known' desk road road' left.pipe left.first left.unreached
SetUpEnds d r i o w net block next known known' desk road road' (Err why) = IsCaused r (Some next) road road' why

abbrev pub SetUpShows : {D R I O : Type 0} → desks.Ghosts D → roads.Ghosts R I O → link_in.Ghosts I →
    link_out.Ghosts O → ConnId → WriterRecord → WriterRecord → Rebuild I O → D → D → R → R →
    Result (SetUp I O) ClientFault → Type 0
SetUpShows d r i o next known known' setup desk desk' road road' result =
    (w : World) (net : Net) (block : BlockId) →
    ClientStands r i o w net block.0 w.office known (pipe.SettingUp setup) road →
    CanSetUp d w block next known desk
    → SetUpEnds d r i o w net block next.0 known known' desk' road road' result

-- The roads know the connection that is left, and the lower end of a new one.
abbrev pub SetUpIsKnown : {I O : Type 0} → Option Plain → SetUp I O → Type 0
SetUpIsKnown plain left = PipeIsKnown plain left.pipe × IfSome left.first (λ end. IsKnown plain end.id.0)

-- It leaves a connection that fits the writer, where the setup did and the writer has members.
abbrev pub FitsSetUp : {I O : Type 0} → WriterRecord → WriterRecord → Rebuild I O → Result (SetUp I O) ClientFault →
    Type 0
FitsSetUp known known' setup (Ok left) =
    known.members ≢ [] → PipeFits known.phase (pipe.SettingUp setup) → PipeFits known'.phase left.pipe
FitsSetUp known known' setup (Err why) = Unit {0}
