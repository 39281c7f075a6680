-- What the events of a client make of roads, office and client that show a world.
use Rattle.std.specs.Prelude.{◌≡◌, ◌≢◌, ◌≤◌, ◌+◌, ◌++◌, ◌&&◌, ℕ, Bool, true, false, if◌then◌else◌, List, [], ◌∷◌, slice_get, Option, Some, None, IfSome, Result, Ok, Err}
use Rattle.hd_base.specs.Faults.{FaultsIncreased}
use Rattle.hd_base.specs.declared.numbers.BlockId.{BlockId}
use Rattle.hd_base.specs.declared.numbers.ConnId.{ConnId}
use Rattle.hd_base.specs.declared.numbers.NodeId.{NodeId}
use Rattle.hd_base.specs.declared.numbers.Stamp.{Stamp}
use Rattle.hd_base.specs.declared.links.LinkIn as link_in
use Rattle.hd_base.specs.declared.links.LinkOut as link_out
use Rattle.hd_base.specs.declared.roads.Roads as roads
use Rattle.hd_base.specs.declared.roads.TheConstants.{FIRST_PORT}
use Rattle.world.specs.MemberCore.TheConstants.{MAX_PORT}
use Rattle.name_core.specs.declared.desks.Desk as desks
use Rattle.road_traffic.specs.Showing.{Net}
use Rattle.world.specs.declared.events.Caller.TheVariants as caller
use Rattle.world.specs.declared.events.Event.{Event}
use Rattle.world.specs.declared.events.Event.TheVariants as event
use Rattle.world.specs.declared.events.TakenCommand.{TakenCommand}
use Rattle.world.specs.Parts.{Message, by_writer, idle}
use Rattle.world.specs.Worlds.{World}
use Rattle.world.specs.Connections.{message, next_up}
use Rattle.world.specs.Events.{happens, is_enabled, run}
use Rattle.client_events.specs.WorldNets.Nets.{IsEndOf, is_over}
use Rattle.world_orders.specs.Orders.{Ordered}
use Rattle.world_orders.specs.Takes.{TakesInOrder}
use Rattle.client_events.specs.WorldTexts.Texts.{Written}
use Rattle.writer_core.specs.declared.commands.Command.{Command}
use Rattle.writer_core.specs.declared.commands.Command.TheVariants as command
use Rattle.writer_core.specs.declared.phases.Phase.{Phase}
use Rattle.writer_core.specs.declared.phases.Phase.TheVariants as phase
use Rattle.writer_core.specs.declared.phases.Setup.{Setup}
use Rattle.writer_core.specs.declared.records.WriterRecord.{WriterRecord}
use Rattle.writer_core.specs.Transitions.{has_command_due, is_connected, own_step}
use Rattle.client_events.specs.PipeRecovery.Steps.{fits_accepted}
use Rattle.play_model.specs.declared.dues.Due.TheVariants as due
use Rattle.play_model.specs.Dues.{Queues, is_due, due_events, queues_after}
use Rattle.client_events.specs.declared.faults.ClientFault.{ClientFault}
use Rattle.client_events.specs.declared.faults.ClientFault.TheVariants as fault
use Rattle.client_events.specs.Events.{own_event, asked_world, given_to}
use Rattle.client_events.specs.SettingUp.{IsUnasked}
use Rattle.client_events.specs.MemberEvents.Joining.{SpellDown}
use Rattle.client_events.specs.Showing.{awaits}
use Rattle.play_clients.specs.declared.clients.Client.{Client}
use Rattle.play_clients.specs.declared.clients.First.{First}
use Rattle.play_clients.specs.declared.clients.Owned.{Owned}
use Rattle.play_clients.specs.declared.courses.Course.{Course}
use Rattle.play_clients.specs.declared.courses.Course.TheVariants as course
use Rattle.play_clients.specs.Clients.{known_of, ClientStands, ClientLeft}
use Rattle.play_clients.specs.Courses.{course_of}

-- FAULTS

-- Each fault has its cause.
abbrev pub IsCaused : {R I O : Type 0} → roads.Ghosts R I O → R → R → ClientFault → Type 0
IsCaused r road road' fault.LinkFailed = (c : ℕ) × (r.risen road' c ≡ true)
IsCaused r road road' fault.RoadsFailed = FaultsIncreased (r.faults road) (r.faults road')
IsCaused r road road' fault.Memory = Unit {0}

-- HEARING

-- No stamp is to be committed over the connection of a setup.
abbrev pub NoneToCommit : Phase → Type 0
NoneToCommit (phase.Accepted s stamp) = fits_accepted s true ≡ false
NoneToCommit other = Unit {0}

-- What holds of each world before the event, whatever happened before: messages come in order
-- (messages_come_in_order), whoever takes one knows its kind (messages_are_taken_in_order), each is spelled as it is
-- written (messages_are_written), and a writer that isn't connected has no connection (writers_rest).
pub record HearIsLawful (w : World) (b : ℕ) : Type 0 where
  pub ordered : Ordered w
  pub taken : TakesInOrder w
  pub written : Written w
  pub rests : is_connected (w.writers b).known.phase ≡ false → (w.writers b).conn ≡ None

-- Where the request of a block's writer was accepted, and it has sent no packet yet, the writer has members
-- (writers_rest), and no message stands next for it: nothing does, or the end (nothing_comes_early).
pub record AcceptedIsQuiet (w : World) (b : ℕ) : Type 0 where
  pub members : (s : Setup) (stamp : Stamp) → (w.writers b).known.phase ≡ phase.Accepted s stamp →
      (w.writers b).known.members ≢ []
  pub quiet : (c : ℕ) (s : Setup) (stamp : Stamp) (m : Message) →
      (w.writers b).known.phase ≡ phase.Accepted s stamp → (w.writers b).conn ≡ Some c →
      next_up w c ≡ Some (message m) → ⊥

-- What a writer hears leaves the client as its commands were.
pub record HearLeft {D R I O : Type 0} (d : desks.Ghosts D) (r : roads.Ghosts R I O) (i : link_in.Ghosts I)
    (o : link_out.Ghosts O) (w : World) (net : Net) (v : World) (old new : Client I O) (desk : D) (road : R) : Type 0
  where
    pub made : Net
    pub left : ClientLeft d r i o w net v made old new desk road
    pub queue : new.queue.items ≡ old.queue.items

abbrev pub HearEnds : {D R I O : Type 0} → desks.Ghosts D → roads.Ghosts R I O → link_in.Ghosts I →
    link_out.Ghosts O → World → Net → World → Client I O → Client I O → D → R → R → Result (Unit {0}) ClientFault →
    Type 0
HearEnds d r i o w net v old new desk road road' (Ok u) = HearLeft d r i o w net v old new desk road'
HearEnds d r i o w net v old new desk road road' (Err why) = IsCaused r road road' why

abbrev pub HearShows : {D R I O : Type 0} → desks.Ghosts D → roads.Ghosts R I O → link_in.Ghosts I →
    link_out.Ghosts O → Client I O → Client I O → D → R → R → Result (Unit {0}) ClientFault → Type 0
HearShows d r i o old new desk road road' result =
    (w : World) (net : Net) (queues : Queues) (conn : ConnId) → ClientStands d r i o w net old desk road →
    HearIsLawful w old.block.0 → is_due w queues (due.Up conn) ≡ true →
    (w.dialled conn.0).upper ≡ by_writer old.block.0 → AcceptedIsQuiet w old.block.0
    → HearEnds d r i o w net (happens w (event.Up conn)) old new desk road road' result

-- The office is as it was, whatever happened: what stands next is taken before a stamp is committed.
abbrev pub HearKeepsOffice : {D R I O : Type 0} → desks.Ghosts D → roads.Ghosts R I O → link_in.Ghosts I →
    link_out.Ghosts O → Client I O → D → D → R → Type 0
HearKeepsOffice d r i o old desk desk' road =
    (w : World) (net : Net) (queues : Queues) (conn : ConnId) → ClientStands d r i o w net old desk road →
    HearIsLawful w old.block.0 → is_due w queues (due.Up conn) ≡ true →
    (w.dialled conn.0).upper ≡ by_writer old.block.0 → AcceptedIsQuiet w old.block.0
    → desk' ≡ desk

-- OWN STEPS

-- A writer is made by a create, which comes first.
abbrev pub IsFirst : Option WriterRecord → Command → Type 0
IsFirst (Some known) (command.Create members) = ⊥
IsFirst other c = Unit {0}

-- What is asked of the world where the writer takes a command: it may take it, and where it waits for the answer to its
-- request it goes on doing so. What it sends is spelled as it is written (messages_are_written).
pub record CanTake {I O : Type 0} (w : World) (c : Client I O) (t : TakenCommand) : Type 0 where
  pub makes : IsFirst c.writer t.command
  pub enabled : is_enabled w (own_event c.block (Some t) true) ≡ true
  pub keeps : awaits (w.writers c.block.0).known.phase ≡ true →
      is_connected (own_step (given_to (w.writers c.block.0).known (Some t))).writer.phase ≡ true
  pub spelled : IfSome (w.writers c.block.0).conn (SpellDown (happens w (own_event c.block (Some t) true)))

-- The same where it does something alone: it was given no command then (writers_rest).
pub record CanActAlone {I O : Type 0} (w : World) (c : Client I O) : Type 0 where
  pub enabled : is_enabled w (own_event c.block None true) ≡ true
  pub quiet : (w.writers c.block.0).known.queue ≡ []
  pub spelled : IfSome (w.writers c.block.0).conn (SpellDown (happens w (own_event c.block None true)))

-- Where it has a stamp committed: it has members then, and its connection hasn't ended (takers_are_open).
pub record CanHaveCommitted (w : World) (b : ℕ) : Type 0 where
  pub members : (w.writers b).known.members ≢ []
  pub untaken : IfSome (w.writers b).conn (λ c. is_over w c false ≡ false)

-- Where it asks the first member: there is one (writers_rest), whose node has a port. The request is spelled as it is
-- written (messages_are_written). Nothing was taken on the next connection (only_dialled_connections_carry).
pub record CanAskFirst (w : World) (block : BlockId) (next : ConnId) : Type 0 where
  pub next_is : next.0 ≡ w.next_conn
  pub undialled : w.lowers next.0 ≡ idle
  pub members : (w.writers block.0).known.members ≢ []
  pub no_command : has_command_due (w.writers block.0).known ≡ false
  pub has_port : IfSome (slice_get (w.writers block.0).known.members 0) (λ first. FIRST_PORT + first.0 ≤ MAX_PORT)
  pub spelled : SpellDown (asked_world w block true) next.0

abbrev pub CanOwnAs : {I O : Type 0} → Course → World → Client I O → ConnId → Type 0
CanOwnAs course.Takes w c next = IfSome (slice_get c.queue.items 0) (CanTake w c)
CanOwnAs course.SetsUp w c next = CanAskFirst w c.block next
CanOwnAs course.Commits w c next = CanHaveCommitted w c.block.0
CanOwnAs course.Completes w c next = Unit {0}
CanOwnAs course.Acts w c next = CanActAlone w c

-- What is asked of the world for the writer's own step, as that is. A writer that isn't connected has no connection
-- (writers_rest).
pub record CanOwn {I O : Type 0} (w : World) (c : Client I O) (next : ConnId) : Type 0 where
  pub rests : is_connected (w.writers c.block.0).known.phase ≡ false → (w.writers c.block.0).conn ≡ None
  pub does : CanOwnAs (course_of (known_of c.block c.writer)) w c next

-- the events of an own step, in which a dial would be answered or not
abbrev pub owned_events : {I O : Type 0} → BlockId → Owned I O → Bool → List Event
owned_events block left answered =
    (if left.asked then event.Office (caller.Writer block) ∷ [] else []) ++ own_event block left.took answered ∷ []

-- A dial is answered in the world that an own step leaves. Where this node was dialled in vain it isn't: the dial finds
-- no answer, or the node doesn't run.
abbrev pub Reaches : World → Option NodeId → Bool → Type 0
Reaches w None answered = answered ≡ true
Reaches w (Some node) answered = (answered && w.running node.0) ≡ false

-- The lower end of the connection that was dialled, if one was, has the next number; nothing was taken there.
pub record FirstShows {I O : Type 0} (i : link_in.Ghosts I) (o : link_out.Ghosts O) (v : World) (made : Net) (b : ℕ)
    (next : ConnId) (first : First I O) : Type 0 where
  pub end_is : IsEndOf i o v made next.0 true first.end
  pub upper : (v.dialled next.0).upper ≡ by_writer b
  pub node : (v.dialled next.0).to.node ≡ first.node.0
  pub idle_is : v.lowers next.0 ≡ idle

-- What an own step leaves: what was done is what was due, and shows the world after it, in which a dial would be
-- answered or not. Where no lower end is handed back nothing was dialled, else one connection.
pub record OwnLeft {D R I O : Type 0} (d : desks.Ghosts D) (r : roads.Ghosts R I O) (i : link_in.Ghosts I)
    (o : link_out.Ghosts O) (w : World) (net : Net) (queues : Queues) (next : ConnId) (old new : Client I O) (desk : D)
    (road : R) (left : Owned I O) (answered : Bool) : Type 0 where
  pub made : Net
  pub events : due_events w queues (due.Own old.block) ≡ owned_events old.block left true
  pub shows : ClientLeft d r i o w net (run w (owned_events old.block left answered)) made old new desk road
  pub queue : new.queue.items ≡ queues_after w queues (due.Own old.block) old.block.0
  pub first : IfSome left.first
      (FirstShows i o (run w (owned_events old.block left answered)) made old.block.0 next)
  pub none : left.first ≡ None → (run w (owned_events old.block left answered)).next_conn ≡ w.next_conn
  pub more : IfSome left.first (λ f. (run w (owned_events old.block left answered)).next_conn ≡ w.next_conn + 1)

-- An own step was done. A node that didn't answer the writer's dial doesn't run, or the roads' count rose; no lower end
-- is handed back then, and what is left shows each world in which that dial isn't answered.
pub record OwnDone {D R I O : Type 0} (d : desks.Ghosts D) (r : roads.Ghosts R I O) (i : link_in.Ghosts I)
    (o : link_out.Ghosts O) (w : World) (net : Net) (queues : Queues) (next : ConnId) (old new : Client I O) (desk : D)
    (road road' : R) (left : Owned I O) : Type 0 where
  pub cause : IfSome left.unreached (λ node. IsUnasked r w node road road')
  pub alone : IfSome left.unreached (λ _. left.first ≡ None)
  pub shows : (answered : Bool) → Reaches w left.unreached answered →
      OwnLeft d r i o w net queues next old new desk road' left answered

abbrev pub OwnEnds : {D R I O : Type 0} → desks.Ghosts D → roads.Ghosts R I O → link_in.Ghosts I → link_out.Ghosts O →
    World → Net → Queues → ConnId → Client I O → Client I O → D → R → R → Result (Owned I O) ClientFault → Type 0
OwnEnds d r i o w net queues next old new desk road road' (Ok left) =
    OwnDone d r i o w net queues next old new desk road road' left
OwnEnds d r i o w net queues next old new desk road road' (Err why) = IsCaused r road road' why

abbrev pub OwnShows : {D R I O : Type 0} → desks.Ghosts D → roads.Ghosts R I O → link_in.Ghosts I →
    link_out.Ghosts O → ConnId → Client I O → Client I O → D → D → R → R → Result (Owned I O) ClientFault → Type 0
OwnShows d r i o next old new desk desk' road road' result =
    (w : World) (net : Net) (queues : Queues) → ClientStands d r i o w net old desk road →
    old.queue.items ≡ queues old.block.0 → is_due w queues (due.Own old.block) ≡ true → CanOwn w old next
    → OwnEnds d r i o w net queues next old new desk' road road' result
