-- What the events of a writer make of roads, connection and writer that show a world: what shows the world after the event.
use Rattle.std.specs.Prelude.{◌≡◌, ◌≢◌, ℕ, Bool, true, false, [], ◌++◌, Option, Some, None, IfSome, Result, Ok, Err}
use Rattle.hd_base.specs.declared.numbers.BlockId.{BlockId}
use Rattle.hd_base.specs.declared.ends.Conn.{Conn}
use Rattle.hd_base.specs.declared.numbers.ConnId.{ConnId}
use Rattle.hd_base.specs.declared.links.LinkIn as link_in
use Rattle.hd_base.specs.declared.links.LinkOut as link_out
use Rattle.hd_base.specs.declared.roads.Roads as roads
use Rattle.pipe_recovery.specs.LinkMessages.Incomings.{IncomingState}
use Rattle.name_core.specs.declared.desks.Desk as desks
use Rattle.name_core.specs.Offices.{OfficeState}
use Rattle.road_traffic.specs.Showing.{Net}
use Rattle.member_events.specs.World.Caller.TheVariants as caller
use Rattle.member_events.specs.World.Event.{Event}
use Rattle.member_events.specs.World.Event.TheVariants as event
use Rattle.member_events.specs.World.OwnStep.TheVariants as own
use Rattle.member_events.specs.World.TakenCommand.{TakenCommand}
use Rattle.member_events.specs.World.Parts.{ack, response, by_writer}
use Rattle.member_events.specs.World.Clients.{ruled}
use Rattle.member_events.specs.World.Worlds.{World}
use Rattle.member_events.specs.World.Connections.{Next, message, the_end}
use Rattle.member_events.specs.World.Events.{happens, is_enabled}
use Rattle.member_events.specs.WorldNets.Drawn.{ComesUp}
use Rattle.member_events.specs.WorldNets.Nets.{is_over}
use Rattle.writer_core.specs.declared.actions.Action.TheVariants as action
use Rattle.writer_core.specs.declared.phases.Phase.{Phase}
use Rattle.writer_core.specs.declared.phases.Phase.TheVariants as phase
use Rattle.writer_core.specs.declared.records.WriterRecord.{WriterRecord}
use Rattle.writer_core.specs.Transitions.{Step, given, own_step, is_connected}
use Rattle.member_events.specs.WorldTexts.Texts.{SpellsText}
use Rattle.member_events.specs.Joining.{SpellDown}
use Rattle.client_events.specs.declared.acting.Acted.{Acted}
use Rattle.client_events.specs.declared.acting.Said.{Said}
use Rattle.client_events.specs.declared.faults.ClientFault.{ClientFault}
use Rattle.client_events.specs.declared.faults.ClientFault.TheVariants as fault
use Rattle.client_events.specs.declared.pipes.Pipe.{Pipe}
use Rattle.client_events.specs.declared.pipes.Pipe.TheVariants as pipe
use Rattle.pipe_recovery.specs.declared.rebuilding.Rebuild.{Rebuild}
use Rattle.client_events.specs.Acting.{said_in}
use Rattle.client_events.specs.Faults.{IsCaused}
use Rattle.client_events.specs.Showing.{ClientStands, ClientLeft, StayShown, awaits, PipeFits}

-- How an event of the writer of a block ends: what is left shows the world after it, or a fault has its cause.
abbrev pub EventEnds : {R I O : Type 0} → roads.Ghosts R I O → link_in.Ghosts I → link_out.Ghosts O → World → Net →
    World → ℕ → OfficeState → WriterRecord → R → R → Result (Pipe I O) ClientFault → Type 0
EventEnds r i o w net v b office known road road' (Ok left) = ClientLeft r i o w net v b office known left road'
EventEnds r i o w net v b office known road road' (Err why) = IsCaused r (w.writers b).conn road road' why

-- HEARING

-- What comes to a writer whose pipeline stands: an ack that is spelled as it is written, or the end.
abbrev pub IsAckNext : Next → Type 0
IsAckNext (message (ack a)) = SpellsText (ack a)
IsAckNext (message other) = ⊥
IsAckNext the_end = Unit {0}

-- The writer of a block takes what stands next on this connection. That it is an ack, and is spelled as it is written,
-- holds after all events (messages_are_taken_in_order, messages_are_written).
pub record CanHear (w : World) (conn : ConnId) (b : ℕ) (x : Next) : Type 0 where
  pub comes : ComesUp w conn.0 x
  pub upper : (w.dialled conn.0).upper ≡ by_writer b
  pub acks : IsAckNext x

abbrev pub HearShows : {R I O : Type 0} → roads.Ghosts R I O → link_in.Ghosts I → link_out.Ghosts O → WriterRecord →
    WriterRecord → Conn I O → IncomingState → R → R → Result (Pipe I O) ClientFault → Type 0
HearShows r i o known known' end incoming road road' result =
    (w : World) (net : Net) (b : ℕ) (office : OfficeState) (x : Next) →
    ClientStands r i o w net b office known (pipe.Streaming end incoming) road → CanHear w end.id b x
    → EventEnds r i o w net (happens w (event.Up end.id)) b office known' road road' result

-- ACTING

-- the writer that was given the command that it takes, if it takes one
abbrev pub given_to : WriterRecord → Option TakenCommand → WriterRecord
given_to x None = x
given_to x (Some t) = given (ruled x t.command t.rule) t.command

-- A writer whose pipeline is being set up takes a command, and keeps the connection.
abbrev pub KeepsSetup : {I O : Type 0} → Pipe I O → Step → Type 0
KeepsSetup (pipe.SettingUp setup) s = (s.action ≡ action.Took) × (is_connected s.writer.phase ≡ true)
KeepsSetup other s = Unit {0}

-- a step of the writer of a block in which it takes this command, or none
abbrev pub own_event : BlockId → Option TakenCommand → Bool → Event
own_event block takes answered = event.Own (own.Writer block takes answered)

-- The writer of a block, which was given the command that it takes, if it takes one, may take a step. What it sends is
-- spelled as it is written (messages_are_written).
pub record CanAct {I O : Type 0} (w : World) (block : BlockId) (takes : Option TakenCommand) (answered : Bool)
    (known : WriterRecord) (connection : Pipe I O) : Type 0 where
  pub given_is : known ≡ given_to (w.writers block.0).known takes
  pub enabled : is_enabled w (own_event block takes answered) ≡ true
  pub keeps : KeepsSetup connection (own_step known)
  pub spelled : IfSome (w.writers block.0).conn (SpellDown (happens w (own_event block takes answered)))

-- What is left shows the world after the event, and the answer, if there is one, is the world's.
pub record StepLeft {R I O : Type 0} (r : roads.Ghosts R I O) (i : link_in.Ghosts I) (o : link_out.Ghosts O)
    (w : World) (net : Net) (v : World) (b : ℕ) (office : OfficeState) (known : WriterRecord) (left : Acted I O)
    (road : R) : Type 0 where
  pub shows : ClientLeft r i o w net v b office known left.pipe road
  pub said : v.said b ≡ w.said b ++ said_in left.said

abbrev pub StepEnds : {R I O : Type 0} → roads.Ghosts R I O → link_in.Ghosts I → link_out.Ghosts O → World → Net →
    World → ℕ → OfficeState → WriterRecord → R → R → Result (Acted I O) ClientFault → Type 0
StepEnds r i o w net v b office known road road' (Ok left) = StepLeft r i o w net v b office known left road'
StepEnds r i o w net v b office known road road' (Err why) = IsCaused r (w.writers b).conn road road' why

abbrev pub ActShows : {R I O : Type 0} → roads.Ghosts R I O → link_in.Ghosts I → link_out.Ghosts O → WriterRecord →
    WriterRecord → Pipe I O → R → R → Result (Acted I O) ClientFault → Type 0
ActShows r i o known known' connection road road' result =
    (w : World) (net : Net) (block : BlockId) (office : OfficeState) (takes : Option TakenCommand) (answered : Bool) →
    ClientStands r i o w net block.0 office (w.writers block.0).known connection road →
    CanAct w block takes answered known connection
    → StepEnds r i o w net (happens w (own_event block takes answered)) block.0 office known' road road' result

-- It leaves a connection that fits the writer, where it fitted before.
abbrev pub FitsActed : {I O : Type 0} → WriterRecord → WriterRecord → Pipe I O → Result (Acted I O) ClientFault →
    Type 0
FitsActed known known' connection (Ok acted) =
    KeepsSetup connection (own_step known) → PipeFits known.phase connection → PipeFits known'.phase acted.pipe
FitsActed known known' connection (Err why) = Unit {0}

-- COMPLETING

-- the world once the office has answered the writer of a block, and the writer has gone on with its step
abbrev pub asked_world : World → BlockId → Bool → World
asked_world w block answered = happens (happens w (event.Office (caller.Writer block))) (own_event block None answered)

-- The writer of a block whose packets are all acked has no connection, and the desk is that of the office.
pub record CanComplete {D : Type 0} (d : desks.Ghosts D) (w : World) (b : ℕ) (known : WriterRecord) (desk : D) :
    Type 0 where
  pub writer : known ≡ (w.writers b).known
  pub finished : known.phase ≡ phase.Finished
  pub conn : (w.writers b).conn ≡ None
  pub told : (w.writers b).told ≡ None
  pub office : d.office desk ≡ Some w.office

-- What is left, with the roads and ends as they are, shows the world after both events, and the answer, if there is
-- one, is the world's.
pub record CompleteLeft {D : Type 0} (d : desks.Ghosts D) (w v : World) (b : ℕ) (known : WriterRecord) (desk : D)
    (said : Option Said) : Type 0 where
  pub stay : StayShown w v
  pub writer : v.writers b ≡ record { known = known; conn = None; told = None }
  pub office : d.office desk ≡ Some v.office
  pub said_is : v.said b ≡ w.said b ++ said_in said

abbrev pub CompleteEnds : {D : Type 0} → desks.Ghosts D → World → World → ℕ → WriterRecord → D →
    Result (Option Said) ClientFault → Type 0
CompleteEnds d w v b known desk (Ok said) = CompleteLeft d w v b known desk said
CompleteEnds d w v b known desk (Err why) = why ≡ fault.Memory

abbrev pub CompleteShows : {D : Type 0} → desks.Ghosts D → WriterRecord → WriterRecord → D → D →
    Result (Option Said) ClientFault → Type 0
CompleteShows d known known' desk desk' result =
    (w : World) (block : BlockId) (answered : Bool) → CanComplete d w block.0 known desk
    → CompleteEnds d w (asked_world w block answered) block.0 known' desk' result

-- A writer that didn't wait on the connection of a setup doesn't after the completion.
abbrev pub FitsCompleted : WriterRecord → WriterRecord → Result (Option Said) ClientFault → Type 0
FitsCompleted known known' (Ok said) = awaits known.phase ≡ false → awaits known'.phase ≡ false
FitsCompleted known known' (Err why) = Unit {0}

-- HEARING THE ANSWER TO A REQUEST

-- What comes to a writer that waits for the answer to its request: an answer that is spelled as it is written, or the
-- end.
abbrev pub IsAnswerNext : Next → Type 0
IsAnswerNext (message (response r)) = SpellsText (response r)
IsAnswerNext (message other) = ⊥
IsAnswerNext the_end = Unit {0}

-- The same where the writer is here. Once the request was accepted only the end comes.
abbrev pub IsNextIn : Phase → Next → Type 0
IsNextIn (phase.Accepted s stamp) (message m) = ⊥
IsNextIn p x = IsAnswerNext x

-- The writer of a block waits on the connection of its setup, and takes what stands next there. That it has members
-- then (writers_rest), and that this is an answer (messages_are_taken_in_order), or the end where the request was
-- accepted (nothing_comes_early), holds after all events.
pub record CanHearAnswer (w : World) (conn : ConnId) (b : ℕ) (known : WriterRecord) (x : Next) : Type 0 where
  pub comes : ComesUp w conn.0 x
  pub conn_is : (w.writers b).conn ≡ Some conn.0
  pub upper : (w.dialled conn.0).upper ≡ by_writer b
  pub answers : IsNextIn known.phase x
  pub waits : awaits known.phase ≡ true
  pub members : known.members ≢ []

abbrev pub AnswerShows : {R I O : Type 0} → roads.Ghosts R I O → link_in.Ghosts I → link_out.Ghosts O → WriterRecord →
    WriterRecord → Rebuild I O → R → R → Result (Pipe I O) ClientFault → Type 0
AnswerShows r i o known known' setup road road' result =
    (w : World) (net : Net) (b : ℕ) (office : OfficeState) (conn : ConnId) (x : Next) →
    ClientStands r i o w net b office known (pipe.SettingUp setup) road → CanHearAnswer w conn b known x
    → EventEnds r i o w net (happens w (event.Up conn)) b office known' road road' result

-- The office is as it was: what stands next is taken before a stamp is committed.
abbrev pub AnswerKeepsOffice : {D R I O : Type 0} → roads.Ghosts R I O → link_in.Ghosts I → link_out.Ghosts O →
    WriterRecord → Rebuild I O → R → D → D → Type 0
AnswerKeepsOffice r i o known setup road desk desk' =
    (w : World) (net : Net) (b : ℕ) (office : OfficeState) (conn : ConnId) (x : Next) →
    ClientStands r i o w net b office known (pipe.SettingUp setup) road → CanHearAnswer w conn b known x
    → desk' ≡ desk

-- COMMITTING

-- The office answers the writer of a block whose request was answered, and the desk is that of the office. That the
-- writer has members then, and that the end of its connection wasn't taken, holds after all events
-- (messages_are_taken_in_order, takers_are_open).
pub record CanCommit {D : Type 0} (d : desks.Ghosts D) (w : World) (b : ℕ) (known : WriterRecord) (desk : D) : Type 0
  where
    pub office : d.office desk ≡ Some w.office
    pub members : known.members ≢ []
    pub untaken : IfSome (w.writers b).conn (λ c. is_over w c false ≡ false)

-- What is left, with the office, shows the world after the events, and the answer, if there is one, is the world's; or
-- a fault has its cause.
abbrev pub AskedEnds : {D R I O : Type 0} → desks.Ghosts D → roads.Ghosts R I O → link_in.Ghosts I →
    link_out.Ghosts O → World → Net → World → ℕ → WriterRecord → D → R → R → Result (Acted I O) ClientFault → Type 0
AskedEnds d r i o w net v b known desk road road' (Ok left) =
    (d.office desk ≡ Some v.office) × StepLeft r i o w net v b v.office known left road'
AskedEnds d r i o w net v b known desk road road' (Err why) = IsCaused r (w.writers b).conn road road' why

-- The commit leaves a connection that fits the writer, where the setup did.
abbrev pub FitsCommitted : {I O : Type 0} → WriterRecord → WriterRecord → Rebuild I O → Result (Acted I O) ClientFault →
    Type 0
FitsCommitted known known' setup (Ok acted) =
    PipeFits known.phase (pipe.SettingUp setup) → PipeFits known'.phase acted.pipe
FitsCommitted known known' setup (Err why) = Unit {0}

abbrev pub CommitShows : {D R I O : Type 0} → desks.Ghosts D → roads.Ghosts R I O → link_in.Ghosts I →
    link_out.Ghosts O → WriterRecord → WriterRecord → Rebuild I O → D → D → R → R → Result (Acted I O) ClientFault →
    Type 0
CommitShows d r i o known known' setup desk desk' road road' result =
    (w : World) (net : Net) (block : BlockId) (answered : Bool) →
    ClientStands r i o w net block.0 w.office known (pipe.SettingUp setup) road →
    CanCommit d w block.0 known desk
    → AskedEnds d r i o w net (asked_world w block answered) block.0 known' desk' road road' result
