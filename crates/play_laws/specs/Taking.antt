-- What is known of a writer that may take a command.
use Rattle.std.specs.Prelude.{ℕ, ◌≡◌, true, false, List, Some, None, Ok}
use Rattle.hd_base.specs.declared.numbers.NodeId.{NodeId}
use Rattle.hd_base.specs.SumRules.{default_rule}
use Rattle.writer_core.specs.declared.commands.Command.TheVariants as command
use Rattle.writer_core.specs.declared.intake.Intake.{Intake}
use Rattle.writer_core.specs.Commands.{admitted, is_unmade}
use Rattle.writer_core.specs.Transitions.{fresh, given, own_step, has_step, is_connected}
use Rattle.world.specs.declared.events.Event.{Event}
use Rattle.world.specs.declared.events.Event.TheVariants as event
use Rattle.world.specs.declared.events.OwnStep.TheVariants as own
use Rattle.world.specs.declared.events.TakenCommand.{TakenCommand}
use Rattle.world.specs.Parts.{Writing}
use Rattle.world.specs.Worlds.{World, start}
use Rattle.world.specs.Clients.{is_formed, ruled}
use Rattle.world.specs.Events.{happens, is_enabled, run}

-- Of a writer that has nothing else to do: the command is formed as commands are, and with it the intake is this one.
pub record MayTake (x : Writing) (t : TakenCommand) (i : Intake) : Type 0 where
  pub told : x.told ≡ None
  pub idle : has_step x.known ≡ false
  pub free : x.known.waiting ≡ None
  pub formed : is_formed t.command t.rule ≡ true
  pub admits : admitted x.known.intake t.command ≡ Ok i

-- the writer of a block takes this command
abbrev pub taking : ℕ → TakenCommand → Event
taking b t = event.Own (own.Writer (record { 0 = b }) (Some t) true)

-- The writer takes it, keeps its connection, if it has one, and has that intake.
pub record IsTaken (w : World) (b : ℕ) (t : TakenCommand) (i : Intake) : Type 0 where
  pub enabled : is_enabled w (taking b t) ≡ true
  pub keeps : is_connected (w.writers b).known.phase ≡ true →
      is_connected (own_step (given (ruled (w.writers b).known t.command t.rule) t.command)).writer.phase ≡ true
  pub intake : ((happens w (taking b t)).writers b).known.intake ≡ i

-- So it is after every list of events.
abbrev pub CommandsTaken : Type 0
CommandsTaken = (nodes : ℕ) (events : List Event) (b : ℕ) (t : TakenCommand) (i : Intake) →
    MayTake ((run (start nodes) events).writers b) t i → IsTaken (run (start nodes) events) b t i

-- Only a writer that was given nothing may be given a create.
abbrev pub CreatesFirst : Type 0
CreatesFirst = (nodes : ℕ) (events : List Event) (b : ℕ) (members : List NodeId) (i : Intake) →
    admitted ((run (start nodes) events).writers b).known.intake (command.Create members) ≡ Ok i →
    ((run (start nodes) events).writers b).known ≡ fresh (record { 0 = b }) default_rule

-- So is a writer whose block wasn't made.
abbrev pub UnmadeAreFresh : Type 0
UnmadeAreFresh = (nodes : ℕ) (events : List Event) (b : ℕ) →
    is_unmade ((run (start nodes) events).writers b).known.intake.stand ≡ true →
    ((run (start nodes) events).writers b).known ≡ fresh (record { 0 = b }) default_rule
