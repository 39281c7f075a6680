-- What the parts of a client's own step do to it.
use Rattle.std.specs.Prelude.{◌≡◌, ◌⊎◌, ◌++◌, Bool, true, false, is_some, List, [], ◌∷◌, slice_get, drop, Option, Some, None, Result, Ok, Err}
use Rattle.hd_base.specs.declared.ends.Conn.{Conn}
use Rattle.hd_base.specs.declared.numbers.BlockId.{BlockId}
use Rattle.hd_base.specs.declared.numbers.ConnId.{ConnId}
use Rattle.hd_base.specs.declared.numbers.NodeId.{NodeId}
use Rattle.hd_base.specs.declared.links.LinkIn as link_in
use Rattle.hd_base.specs.declared.links.LinkOut as link_out
use Rattle.hd_base.specs.declared.roads.Roads as roads
use Rattle.name_core.specs.declared.desks.Desk as desks
use Rattle.client_events.specs.PipeRecovery.Rebuild.{Rebuild}
use Rattle.client_events.specs.PipeRecovery.Steps.{fits_in}
use Rattle.world.specs.declared.events.TakenCommand.{TakenCommand}
use Rattle.writer_core.specs.declared.commands.Command.{Command}
use Rattle.writer_core.specs.declared.records.WriterRecord.{WriterRecord}
use Rattle.writer_core.specs.Transitions.{fresh, given}
use Rattle.client_events.specs.declared.acting.Acted.{Acted}
use Rattle.client_events.specs.declared.acting.Said.{Said}
use Rattle.client_events.specs.declared.faults.ClientFault.{ClientFault}
use Rattle.client_events.specs.declared.faults.ClientFault.TheVariants as fault
use Rattle.client_events.specs.declared.pipes.Pipe.{Pipe}
use Rattle.client_events.specs.declared.pipes.Pipe.TheVariants as pipe
use Rattle.client_events.specs.declared.setting_up.SetUp.{SetUp}
use Rattle.client_events.specs.Events as events
use Rattle.client_events.specs.SettingUp as setting_up
use Rattle.client_events.specs.Showing.{awaits}
use Rattle.play_clients.specs.declared.clients.Client.{Client}
use Rattle.play_clients.specs.declared.clients.First.{First}
use Rattle.play_clients.specs.declared.clients.Owned.{Owned}

-- ANSWERS

-- an answer, if there is one, as a list
abbrev pub said_list : Option Said → List Said
said_list None = []
said_list (Some s) = s ∷ []

-- The client has this writer, this connection and this answer more, if there is one; the rest of it is as before.
pub record IsWith {I O : Type 0} (old new : Client I O) (writer : Option WriterRecord) (left : Pipe I O)
    (said : Option Said) : Type 0 where
  pub block : new.block ≡ old.block
  pub rule : new.rule ≡ old.rule
  pub writer_is : new.writer ≡ writer
  pub pipe_is : new.pipe ≡ left
  pub queue : new.queue.items ≡ old.queue.items
  pub said_is : new.said.items ≡ old.said.items ++ said_list said

-- An answer is kept, or memory ran out.
abbrev pub Answers : {I O : Type 0} → Client I O → Client I O → Option Said → Result (Unit {0}) ClientFault → Type 0
Answers old new said (Ok u) = IsWith old new old.writer old.pipe said
Answers old new said (Err why) = why ≡ fault.Memory

abbrev pub Keeps : {I O : Type 0} → Client I O → Client I O → Acted I O → Result (Unit {0}) ClientFault → Type 0
Keeps old new acted (Ok u) = IsWith old new old.writer acted.pipe acted.said
Keeps old new acted (Err why) = why ≡ fault.Memory

-- How a step ends of which this is left.
abbrev pub FollowsActed : {I O : Type 0} → Client I O → Client I O → WriterRecord → Result (Acted I O) ClientFault →
    Result (Unit {0}) ClientFault → Type 0
FollowsActed old new known (Ok acted) (Ok u) = IsWith old new (Some known) acted.pipe acted.said
FollowsActed old new known (Ok acted) (Err why) = why ≡ fault.Memory
FollowsActed old new known (Err first) (Ok u) = ⊥
FollowsActed old new known (Err first) (Err why) = why ≡ first

-- ACTING

-- The writer did something alone.
pub record ActsBy {R I O : Type 0} (r : roads.Ghosts R I O) (i : link_in.Ghosts I) (o : link_out.Ghosts O)
    (known : WriterRecord) (old new : Client I O) (road road' : R) (result : Result (Unit {0}) ClientFault) : Type 0
  where
    pub after : WriterRecord
    pub acted : Result (Acted I O) ClientFault
    pub shows : events.ActShows r i o known after old.pipe road road' acted
    pub fits : events.FitsActed known after old.pipe acted
    pub follows : FollowsActed old new after acted result

-- It did, where there is one.
abbrev pub ActsIf : {R I O : Type 0} → roads.Ghosts R I O → link_in.Ghosts I → link_out.Ghosts O →
    Option WriterRecord → Client I O → Client I O → R → R → Result (Unit {0}) ClientFault → Type 0
ActsIf r i o None old new road road' result = (new ≡ old) × (road' ≡ road) × (result ≡ Ok tt)
ActsIf r i o (Some known) old new road road' result = ActsBy r i o known old new road road' result

abbrev pub Acts : {R I O : Type 0} → roads.Ghosts R I O → link_in.Ghosts I → link_out.Ghosts O → Client I O →
    Client I O → R → R → Result (Unit {0}) ClientFault → Type 0
Acts r i o old new road road' result = ActsIf r i o old.writer old new road road' result

-- TAKING A COMMAND

-- A command was given, or memory ran out.
abbrev pub Puts : WriterRecord → WriterRecord → Command → Result (Unit {0}) ClientFault → Type 0
Puts known known' command (Ok u) = known' ≡ given known command
Puts known known' command (Err why) = why ≡ fault.Memory

-- the writer before it is given a command: the first one makes it, with the rule of the block's sums
abbrev pub made_as : BlockId → Option WriterRecord → TakenCommand → WriterRecord
made_as block None t = fresh block t.rule
made_as block (Some known) t = known

-- The writer was given a command, or memory ran out.
pub record GivesBy {I O : Type 0} (old new : Client I O) (t : TakenCommand) : Type 0 where
  pub block : new.block ≡ old.block
  pub rule : new.rule ≡ old.rule
  pub writer_is : new.writer ≡ Some (given (made_as old.block old.writer t) t.command)
  pub pipe_is : new.pipe ≡ old.pipe
  pub queue : new.queue.items ≡ old.queue.items
  pub said_is : new.said.items ≡ old.said.items

abbrev pub Gives : {I O : Type 0} → Client I O → Client I O → TakenCommand → Result (Unit {0}) ClientFault → Type 0
Gives old new t (Ok u) = GivesBy old new t
Gives old new t (Err why) = why ≡ fault.Memory

-- how a step ends in which a command was taken
abbrev pub taken_of : TakenCommand → Result (Unit {0}) ClientFault → Result (Option TakenCommand) ClientFault
taken_of t (Ok u) = Ok (Some t)
taken_of t (Err why) = Err why

-- The first command of the queue was given to the writer, which did something alone then.
pub record TakesBy {R I O : Type 0} (r : roads.Ghosts R I O) (i : link_in.Ghosts I) (o : link_out.Ghosts O)
    (old new : Client I O) (t : TakenCommand) (road road' : R) (result : Result (Option TakenCommand) ClientFault) :
    Type 0 where
  pub popped : Client I O
  pub middle : Client I O
  pub acted : Result (Unit {0}) ClientFault
  pub same : popped ≡ record old { queue = popped.queue }
  pub queue : popped.queue.items ≡ drop 1 old.queue.items
  pub gives : Gives popped middle t (Ok tt)
  pub acts : Acts r i o middle new road road' acted
  pub ends : result ≡ taken_of t acted

-- It was, or memory ran out; where there is none nothing is done.
abbrev pub TakesIf : {R I O : Type 0} → roads.Ghosts R I O → link_in.Ghosts I → link_out.Ghosts O →
    Option TakenCommand → Client I O → Client I O → R → R → Result (Option TakenCommand) ClientFault → Type 0
TakesIf r i o None old new road road' result = result ≡ Ok None
TakesIf r i o (Some t) old new road road' result =
    (result ≡ Err fault.Memory) ⊎ TakesBy r i o old new t road road' result

abbrev pub Takes : {R I O : Type 0} → roads.Ghosts R I O → link_in.Ghosts I → link_out.Ghosts O → Client I O →
    Client I O → R → R → Result (Option TakenCommand) ClientFault → Type 0
Takes r i o old new road road' result = TakesIf r i o (slice_get old.queue.items 0) old new road road' result

-- COMPLETING

-- How a step ends in which this was answered.
abbrev pub FollowsSaid : {I O : Type 0} → Client I O → Client I O → WriterRecord → Result (Option Said) ClientFault →
    Result (Unit {0}) ClientFault → Type 0
FollowsSaid old new known (Ok said) (Ok u) = IsWith old new (Some known) old.pipe said
FollowsSaid old new known (Ok said) (Err why) = why ≡ fault.Memory
FollowsSaid old new known (Err first) (Ok u) = ⊥
FollowsSaid old new known (Err first) (Err why) = why ≡ first

-- The office was asked to complete the block.
pub record CompletesBy {D I O : Type 0} (d : desks.Ghosts D) (known : WriterRecord) (old new : Client I O)
    (desk desk' : D) (result : Result (Unit {0}) ClientFault) : Type 0 where
  pub after : WriterRecord
  pub said : Result (Option Said) ClientFault
  pub shows : events.CompleteShows d known after desk desk' said
  pub fits : awaits known.phase ≡ false → awaits after.phase ≡ false
  pub follows : FollowsSaid old new after said result

abbrev pub CompletesIf : {D I O : Type 0} → desks.Ghosts D → Option WriterRecord → Client I O → Client I O → D → D →
    Result (Unit {0}) ClientFault → Type 0
CompletesIf d None old new desk desk' result = result ≡ Ok tt
CompletesIf d (Some known) old new desk desk' result = CompletesBy d known old new desk desk' result

abbrev pub Completes : {D I O : Type 0} → desks.Ghosts D → Client I O → Client I O → D → D →
    Result (Unit {0}) ClientFault → Type 0
Completes d old new desk desk' result = CompletesIf d old.writer old new desk desk' result

-- SETUPS

-- the setup of a connection: the one that is under way, or a new one where there is none
abbrev pub setup_of : {I O : Type 0} → Pipe I O → Option (Rebuild I O)
setup_of pipe.Closed = Some (record { link = None; lost = false })
setup_of (pipe.SettingUp setup) = Some setup
setup_of (pipe.Streaming end incoming) = None

-- The setup was taken off the client.
pub record TakesSetup {I O : Type 0} (old new : Client I O) (result : Option (Rebuild I O)) : Type 0 where
  pub same : new ≡ record old { pipe = pipe.Closed }
  pub is : result ≡ setup_of old.pipe

-- The office was asked to commit a stamp.
pub record CommitsBy {D R I O : Type 0} (d : desks.Ghosts D) (r : roads.Ghosts R I O) (i : link_in.Ghosts I)
    (o : link_out.Ghosts O) (known : WriterRecord) (setup : Rebuild I O) (old new : Client I O) (desk desk' : D)
    (road road' : R) (result : Result (Unit {0}) ClientFault) : Type 0 where
  pub after : WriterRecord
  pub acted : Result (Acted I O) ClientFault
  pub shows : events.CommitShows d r i o known after setup desk desk' road road' acted
  pub fits : events.FitsCommitted known after setup acted
  pub follows : FollowsActed old new after acted result

-- Nothing is done where a setup doesn't fit the writer.
abbrev pub CommitsFitting : {D R I O : Type 0} → desks.Ghosts D → roads.Ghosts R I O → link_in.Ghosts I →
    link_out.Ghosts O → Bool → WriterRecord → Rebuild I O → Client I O → Client I O → D → D → R → R →
    Result (Unit {0}) ClientFault → Type 0
CommitsFitting d r i o true known setup old new desk desk' road road' result =
    CommitsBy d r i o known setup old new desk desk' road road' result
CommitsFitting d r i o false known setup old new desk desk' road road' result = Unit {0}

abbrev pub CommitsIf : {D R I O : Type 0} → desks.Ghosts D → roads.Ghosts R I O → link_in.Ghosts I →
    link_out.Ghosts O → Option WriterRecord → Option (Rebuild I O) → Client I O → Client I O → D → D → R → R →
    Result (Unit {0}) ClientFault → Type 0
CommitsIf d r i o (Some known) (Some setup) old new desk desk' road road' result =
    CommitsFitting d r i o (fits_in known.phase (is_some setup.link)) known setup old new desk desk' road road' result
CommitsIf d r i o known setup old new desk desk' road road' result = Unit {0}

abbrev pub Commits : {D R I O : Type 0} → desks.Ghosts D → roads.Ghosts R I O → link_in.Ghosts I →
    link_out.Ghosts O → Client I O → Client I O → D → D → R → R → Result (Unit {0}) ClientFault → Type 0
Commits d r i o old new desk desk' road road' result =
    CommitsIf d r i o old.writer (setup_of old.pipe) old new desk desk' road road' result

-- the member that stands first, node 0 where there is none
abbrev pub first_node : List NodeId → NodeId
first_node [] = record { 0 = 0 }
first_node (n ∷ ns) = n

-- the lower end of the connection on which the first member of a writer was asked, with the member
abbrev pub first_of : {I O : Type 0} → WriterRecord → Option (Conn I O) → Option (First I O)
first_of known None = None
first_of known (Some end) = Some (record { node = first_node known.members; end = end })

-- what a setup leaves beside the client: the office was asked, and the first member, or that wasn't reached
abbrev pub owned_as : {I O : Type 0} → WriterRecord → SetUp I O → Owned I O
owned_as known left =
    record { took = None; asked = true; first = first_of known left.first; unreached = left.unreached }

-- How a setup ends of which this is left.
abbrev pub FollowsSetUp : {I O : Type 0} → Client I O → Client I O → WriterRecord → Result (SetUp I O) ClientFault →
    Result (Owned I O) ClientFault → Type 0
FollowsSetUp old new known (Ok left) result =
    IsWith old new (Some known) left.pipe None × (result ≡ Ok (owned_as known left))
FollowsSetUp old new known (Err why) result = result ≡ Err why

-- The office was asked for a stamp, and then the first member.
pub record SetsUpBy {D R I O : Type 0} (d : desks.Ghosts D) (r : roads.Ghosts R I O) (i : link_in.Ghosts I)
    (o : link_out.Ghosts O) (next : ConnId) (known : WriterRecord) (setup : Rebuild I O) (old new : Client I O)
    (desk desk' : D) (road road' : R) (result : Result (Owned I O) ClientFault) : Type 0 where
  pub after : WriterRecord
  pub left : Result (SetUp I O) ClientFault
  pub shows : setting_up.SetUpShows d r i o next known after setup desk desk' road road' left
  pub fits : setting_up.FitsSetUp known after setup left
  pub follows : FollowsSetUp old new after left result

abbrev pub SetsUpFitting : {D R I O : Type 0} → desks.Ghosts D → roads.Ghosts R I O → link_in.Ghosts I →
    link_out.Ghosts O → Bool → ConnId → WriterRecord → Rebuild I O → Client I O → Client I O → D → D → R → R →
    Result (Owned I O) ClientFault → Type 0
SetsUpFitting d r i o true next known setup old new desk desk' road road' result =
    SetsUpBy d r i o next known setup old new desk desk' road road' result
SetsUpFitting d r i o false next known setup old new desk desk' road road' result = Unit {0}

abbrev pub SetsUpIf : {D R I O : Type 0} → desks.Ghosts D → roads.Ghosts R I O → link_in.Ghosts I →
    link_out.Ghosts O → ConnId → Option WriterRecord → Option (Rebuild I O) → Client I O → Client I O → D → D → R → R →
    Result (Owned I O) ClientFault → Type 0
SetsUpIf d r i o next (Some known) (Some setup) old new desk desk' road road' result =
    SetsUpFitting d r i o (fits_in known.phase (is_some setup.link)) next known setup old new desk desk' road road'
    result
SetsUpIf d r i o next known setup old new desk desk' road road' result = Unit {0}

abbrev pub SetsUp : {D R I O : Type 0} → desks.Ghosts D → roads.Ghosts R I O → link_in.Ghosts I → link_out.Ghosts O →
    ConnId → Client I O → Client I O → D → D → R → R → Result (Owned I O) ClientFault → Type 0
SetsUp d r i o next old new desk desk' road road' result =
    SetsUpIf d r i o next old.writer (setup_of old.pipe) old new desk desk' road road' result
