-- What is known of a writer between its steps.
use Rattle.std.specs.Prelude.{ℕ, ◌≡◌, ◌≢◌, Bool, true, false, List, [], is_some, Some, None}
use Rattle.writer_core.specs.declared.phases.Phase.{Phase}
use Rattle.writer_core.specs.declared.phases.Phase.TheVariants as phase
use Rattle.writer_core.specs.Transitions.{is_connected}
use Rattle.world.specs.declared.events.Event.{Event}
use Rattle.world.specs.Parts.{Writing}
use Rattle.world.specs.Worlds.{start}
use Rattle.world.specs.Events.{run}
use Rattle.world_settling.specs.WorldNets.Nets.{is_over}

-- The writer goes on from these phases in the step in which it has the office's answer.
abbrev pub is_settled : Phase → Bool
is_settled (phase.Stamped s stamp) = false
is_settled phase.Opened = false
is_settled phase.Completed = false
is_settled other = true

-- a pipeline is wanted, is set up, or stands, or the block is to be completed
abbrev pub needs_members : Phase → Bool
needs_members phase.Closed = false
needs_members (phase.Failed f) = false
needs_members other = true

-- A writer between its steps: it has taken each command that it was given, and has a connection just where its phase
-- has one.
pub record Rests (x : Writing) : Type 0 where
  pub queue : x.known.queue ≡ []
  pub settled : is_settled x.known.phase ≡ true
  pub members : needs_members x.known.phase ≡ true → x.known.members ≢ []
  pub alone : is_connected x.known.phase ≡ false → x.conn ≡ None
  pub connected : is_connected x.known.phase ≡ true → is_some x.conn ≡ true

-- So it is of each block's writer after every list of events, whether an answer of the office waits for it or not.
abbrev pub AllRest : Type 0
AllRest = (nodes : ℕ) (events : List Event) (b : ℕ) → Rests ((run (start nodes) events).writers b)

-- A writer hasn't taken the end of the connection that it has.
abbrev pub WritersOpen : Type 0
WritersOpen = (nodes : ℕ) (events : List Event) (b c : ℕ) → ((run (start nodes) events).writers b).conn ≡ Some c →
    is_over (run (start nodes) events) c false ≡ false
