-- What a writer was given changes only where it takes a command.
use Rattle.std.specs.Prelude.{ℕ, ◌≡◌, Bool, true, false, List}
use Rattle.hd_base.specs.declared.numbers.BlockId.{BlockId}
use Rattle.hd_base.specs.declared.numbers.ConnId.{ConnId}
use Rattle.writer_core.specs.declared.actions.Action.{Action}
use Rattle.writer_core.specs.declared.actions.Action.TheVariants as action
use Rattle.writer_core.specs.declared.intake.Intake.{Intake}
use Rattle.world.specs.declared.events.Event.{Event}
use Rattle.world.specs.declared.events.Event.TheVariants as event
use Rattle.world.specs.Parts.{by_writer}
use Rattle.world.specs.Worlds.{World, start}
use Rattle.world.specs.Events.{happens, run}
use Rattle.play_model.specs.declared.dues.Due.TheVariants as due
use Rattle.play_model.specs.Dues.{Queues, due_events, action_of}

-- the intake of a block's writer
abbrev pub intake_of : World → ℕ → Intake
intake_of w b = (w.writers b).known.intake

-- Nothing is to be done: a command is taken then, if there is one.
abbrev pub is_wait : Action → Bool
is_wait action.Wait = true
is_wait other = false

-- So it is after every list of events, where the writer has something to do,
abbrev pub OwnStepsKeepIntakes : Type 0
OwnStepsKeepIntakes = (nodes : ℕ) (events : List Event) (queues : Queues) (block : BlockId) →
    is_wait (action_of (run (start nodes) events) block) ≡ false →
    intake_of (run (run (start nodes) events) (due_events (run (start nodes) events) queues (due.Own block))) block.0 ≡
    intake_of (run (start nodes) events) block.0

-- and where it hears something.
abbrev pub HearingKeepsIntakes : Type 0
HearingKeepsIntakes = (nodes : ℕ) (events : List Event) (conn : ConnId) (b : ℕ) →
    ((run (start nodes) events).dialled conn.0).upper ≡ by_writer b →
    intake_of (happens (run (start nodes) events) (event.Up conn)) b ≡ intake_of (run (start nodes) events) b
