-- Commands that a play can take, one behind the other.
use Rattle.std.specs.Prelude.{◌≡◌, ℕ, true, List, [], ◌∷◌, Ok}
use Rattle.writer_core.specs.declared.intake.Intake.{Intake}
use Rattle.writer_core.specs.Commands.{admitted, intake_after}
use Rattle.world.specs.declared.events.TakenCommand.{TakenCommand}
use Rattle.world.specs.Clients.{is_formed}
use Rattle.play_laws.specs.Members.{IsNode, Names}

-- It is formed, names only the first nodes, so many, and fits what was given before.
pub record CommandFits (nodes : ℕ) (i : Intake) (t : TakenCommand) : Type 0 where
  pub formed : is_formed t.command t.rule ≡ true
  pub names : Names (IsNode nodes) t.command
  pub admits : admitted i t.command ≡ Ok (intake_after i t.command)

-- So do all, each behind those before it.
abbrev pub CommandsFit : ℕ → Intake → List TakenCommand → Type 0
CommandsFit nodes i [] = Unit {0}
CommandsFit nodes i (t ∷ queue) = CommandFits nodes i t × CommandsFit nodes (intake_after i t.command) queue

-- what a writer was given, with what is queued for it
abbrev pub given_with : Intake → List TakenCommand → Intake
given_with i [] = i
given_with i (t ∷ queue) = given_with (intake_after i t.command) queue
