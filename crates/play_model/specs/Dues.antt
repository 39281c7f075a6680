-- What may happen next in a play, and what happens then.
use Rattle.std.specs.Prelude.{zero, suc, ℕ, ◌&&◌, ◌||◌, is_some, is_none, Bool, true, false, List, [], ◌∷◌, ◌++◌, slice_get, drop, Option, None}
use Rattle.hd_base.specs.declared.numbers.BlockId.{BlockId}
use Rattle.world_laws.specs.WriterCore.Action.{Action}
use Rattle.world_laws.specs.WriterCore.Action.TheVariants as action
use Rattle.world_laws.specs.WriterCore.Transitions.{own_step, has_step}
use Rattle.world_laws.specs.World.Caller.TheVariants as caller
use Rattle.world_laws.specs.World.Event.{Event}
use Rattle.world_laws.specs.World.Event.TheVariants as event
use Rattle.world_laws.specs.World.OwnStep.TheVariants as own
use Rattle.world_laws.specs.World.TakenCommand.{TakenCommand}
use Rattle.world_laws.specs.World.Parts.{Upper, by_member, Lower, writes, ended_below, Writing, Reader, no_reader}
use Rattle.world_laws.specs.World.Worlds.{World, put}
use Rattle.world_laws.specs.World.Enabled.{can_down, can_ready, can_up}
use Rattle.play_model.specs.declared.asks.ReadAsk.{ReadAsk}
use Rattle.play_model.specs.declared.dues.Due.{Due}
use Rattle.play_model.specs.declared.dues.Due.TheVariants as due
use Rattle.play_model.specs.declared.recoveries.Recovery.{Recovery}
use Rattle.play_model.specs.Asks.{asking_node}
use Rattle.play_model.specs.Recoveries.{recovery_due, recovery_events}
use Rattle.play_model.specs.States.{PlayState, world_of}

-- the commands of each block that its writer hasn't taken
abbrev pub Queues : Type 0
Queues = ℕ → List TakenCommand

-- WHAT IS DUE

-- A command is queued, and none waits: it is taken where nothing else is to be done.
abbrev pub takes_due : Writing → List TakenCommand → Bool
takes_due x queue = is_none x.known.waiting && is_some (slice_get queue 0)

-- the writer has an own step
abbrev pub own_due : Writing → List TakenCommand → Bool
own_due x queue = has_step x.known || takes_due x queue

-- the reader hasn't begun: it has an own step
abbrev pub is_unbegun : Reader → Bool
is_unbegun no_reader = true
is_unbegun other = false

-- A member of which both sides act, or another lower end that hasn't ended. A member is over in a play as soon as one of its
-- sides is: it has shut then, or the end has come from above, and it has no further events.
abbrev pub is_open : Lower → Bool
is_open (writes m) = m.state.receives && m.state.responds
is_open ended_below = false
is_open other = true

-- the upper end of a connection isn't that of a member that is over
abbrev pub is_open_above : World → Upper → Bool
is_open_above w (by_member d) = is_open (w.lowers d)
is_open_above w other = true

abbrev pub is_due : World → Queues → Due → Bool
is_due w queues (due.Own b) = own_due (w.writers b.0) (queues b.0)
is_due w queues (due.Reader ask) = is_unbegun (w.readers ask.reader)
is_due w queues (due.Primary r) = recovery_due w r
is_due w queues (due.Down c) = is_open (w.lowers c.0) && can_down w c.0
is_due w queues (due.Ready c) = is_open (w.lowers c.0) && can_ready w c.0
is_due w queues (due.Up c) = is_open_above w (w.dialled c.0).upper && can_up w c.0

-- this, where the test holds
abbrev pub when : {A : Type 0} → Bool → A → List A
when true x = x ∷ []
when false x = []

abbrev pub when_due : World → Queues → Due → List Due
when_due w queues d = when (is_due w queues d) d

-- what these give one after the other, of the numbers below this
abbrev pub upto : {A : Type 0} → (ℕ → List A) → ℕ → List A
upto f zero = []
upto f (suc n) = upto f n ++ f n

-- the own steps of the writers of these blocks
abbrev pub own_dues : World → Queues → List ℕ → List Due
own_dues w queues [] = []
own_dues w queues (b ∷ blocks) = when_due w queues (due.Own (record { 0 = b })) ++ own_dues w queues blocks

-- the own steps of the readers that ask this
abbrev pub reader_dues : World → Queues → List ReadAsk → List Due
reader_dues w queues [] = []
reader_dues w queues (ask ∷ asks) = when_due w queues (due.Reader ask) ++ reader_dues w queues asks

-- the own steps of the primaries that recover this
abbrev pub primary_dues : World → Queues → List Recovery → List Due
primary_dues w queues [] = []
primary_dues w queues (r ∷ rs) = when_due w queues (due.Primary r) ++ primary_dues w queues rs

-- what is due of a connection
abbrev pub conn_dues : World → Queues → ℕ → List Due
conn_dues w queues c =
    when_due w queues (due.Down (record { 0 = c })) ++
    (when_due w queues (due.Ready (record { 0 = c })) ++ when_due w queues (due.Up (record { 0 = c })))

-- All that is due, in the order in which it is counted: the writers of these blocks, then the readers and the primaries,
-- each in the order of their lines, then each connection.
unfoldable pub dues : List ℕ → PlayState → List Due
dues blocks p =
    own_dues (world_of p) p.queues blocks ++
    (reader_dues (world_of p) p.queues p.asks ++
    (primary_dues (world_of p) p.queues p.recoveries ++
    upto (conn_dues (world_of p) p.queues) (world_of p).next_conn))

-- WHAT HAPPENS THEN

-- the office answers the writer of a block
abbrev pub asking : ℕ → Event
asking b = event.Office (caller.Writer (record { 0 = b }))

-- the writer of a block takes a step, and this command, if any, in it; each dial is answered
abbrev pub acting : ℕ → Option TakenCommand → Event
acting b takes = event.Own (own.Writer (record { 0 = b }) takes true)

-- An own step whose next action is this: a question to the office comes with what follows its answer; where nothing is to be done a command is
-- taken.
abbrev pub own_events : Action → ℕ → List TakenCommand → List Event
own_events action.Wait b queue = acting b (slice_get queue 0) ∷ []
own_events (action.Ask call) b queue = asking b ∷ acting b None ∷ []
own_events other b queue = acting b None ∷ []

-- the commands that are left of the queue
abbrev pub queue_left : Action → List TakenCommand → List TakenCommand
queue_left action.Wait queue = drop 1 queue
queue_left other queue = queue

-- the next action of the writer of a block
abbrev pub action_of : World → BlockId → Action
action_of w b = (own_step (w.writers b.0).known).action

abbrev pub due_events : World → Queues → Due → List Event
due_events w queues (due.Own b) = own_events (action_of w b) b.0 (queues b.0)
due_events w queues (due.Reader ask) = asking_node ask true ∷ []
due_events w queues (due.Primary r) = recovery_events w r
due_events w queues (due.Down c) = event.Down c true ∷ []
due_events w queues (due.Ready c) = event.Ready c ∷ []
due_events w queues (due.Up c) = event.Up c ∷ []

abbrev pub queues_after : World → Queues → Due → Queues
queues_after w queues (due.Own b) = put queues b.0 (queue_left (action_of w b) (queues b.0))
queues_after w queues other = queues

-- the play once this has happened
unfoldable pub after_due : PlayState → Due → PlayState
after_due p d = record p {
  events = p.events ++ due_events (world_of p) p.queues d;
  queues = queues_after (world_of p) p.queues d;
}
