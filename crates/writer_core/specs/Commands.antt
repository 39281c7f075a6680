-- Which commands may be given to a writer.
use Rattle.std.specs.Prelude.{ℕ, ◌==◌, ◌+◌, ◌&&◌, ◌||◌, not, nat_lt, nat_le, if◌then◌else◌, Bool, true, false, List, [], ◌∷◌, length, Result, Ok, Err}
use Rattle.writer_core.specs.declared.commands.Command.{Command}
use Rattle.writer_core.specs.declared.commands.Command.TheVariants as command
use Rattle.writer_core.specs.declared.commands.CommandFault.{CommandFault}
use Rattle.writer_core.specs.declared.commands.CommandFault.TheVariants as fault
use Rattle.writer_core.specs.declared.intake.Intake.{Intake}
use Rattle.writer_core.specs.declared.intake.Stand.{Stand}
use Rattle.writer_core.specs.declared.intake.Stand.TheVariants as stand
use Rattle.writer_core.specs.declared.intake.TheConstants.{MAX_GIVEN, MAX_COMMANDS}

-- how many bytes a command writes
abbrev pub command_length : Command → ℕ
command_length (command.Write bytes) = length bytes
command_length (command.Fill count) = count
command_length _ = 0

-- how many bytes some commands write
abbrev pub queued_bytes : List Command → ℕ
queued_bytes [] = 0
queued_bytes (c ∷ cs) = command_length c + queued_bytes cs

abbrev pub is_unmade : Stand → Bool
is_unmade stand.Unmade = true
is_unmade _ = false

abbrev pub is_open : Stand → Bool
is_open stand.Open = true
is_open _ = false

abbrev pub is_closed : Stand → Bool
is_closed stand.Closed = true
is_closed _ = false

-- A create comes first, an append after a close, and the others while the block is open; a create or an append names a member.
abbrev pub fits : Stand → Command → Bool
fits s (command.Create members) = is_unmade s && not (length members == 0)
fits s (command.Append members) = is_closed s && not (length members == 0)
fits s _ = is_open s

-- where the command leaves the block
abbrev pub stand_after : Stand → Command → Stand
stand_after s (command.Create members) = stand.Open
stand_after s (command.Append members) = stand.Open
stand_after s command.Close = stand.Closed
stand_after s _ = s

-- the limits on bytes and commands would be passed
abbrev pub is_too_much : Intake → Command → Bool
is_too_much i c = nat_lt MAX_GIVEN (i.bytes + command_length c) || nat_le MAX_COMMANDS i.commands

abbrev pub intake_after : Intake → Command → Intake
intake_after i c = record {
  stand = stand_after i.stand c;
  bytes = i.bytes + command_length c;
  commands = i.commands + 1;
}

-- the intake with this command, or why it may not be given
unfoldable pub admitted : Intake → Command → Result Intake CommandFault
admitted i c =
    if is_too_much i c then Err fault.TooMuch
    else if fits i.stand c then Ok (intake_after i c)
    else Err fault.Unfit
