-- What a writer's steps leave of what its members have at the end of a close.
use Rattle.std.proofs.Common.{ℕ, false, List, [], ◌∷◌, Option, Some, None, Result, Ok, Err}
use Rattle.std.specs.Prelude.{slice_get, if◌then◌else◌}
use Rattle.hd_base.specs.declared.numbers.NodeId.{NodeId}
use Rattle.hd_base.specs.declared.numbers.Stamp.{Stamp}
use Rattle.hd_base.specs.SumRules.{Rule}
use Rattle.name_core.specs.declared.faults.OfficeFault.{OfficeFault}
use Rattle.name_core.specs.declared.faults.OfficeFault.TheVariants as fault
use Rattle.packet_codec.specs.declared.packets.Packet.{Packet}
use Rattle.writer_core.specs.declared.commands.Command.{Command}
use Rattle.writer_core.specs.declared.commands.Command.TheVariants as command
use Rattle.writer_core.specs.declared.commands.CommandFault.{CommandFault}
use Rattle.writer_core.specs.declared.intake.Intake.{Intake}
use Rattle.writer_core.specs.declared.phases.DuePacket.{DuePacket}
use Rattle.writer_core.specs.declared.phases.DuePacket.TheVariants as due
use Rattle.writer_core.specs.declared.phases.Failure.{Failure}
use Rattle.writer_core.specs.declared.phases.Phase.{Phase}
use Rattle.writer_core.specs.declared.phases.Phase.TheVariants as phase
use Rattle.writer_core.specs.declared.phases.Remedy.{Remedy}
use Rattle.writer_core.specs.declared.phases.Remedy.TheVariants as remedy
use Rattle.writer_core.specs.declared.phases.Setup.{Setup}
use Rattle.writer_core.specs.declared.phases.Setup.TheVariants as setup
use Rattle.writer_core.specs.declared.phases.Waiting.{Waiting}
use Rattle.writer_core.specs.declared.records.WriterRecord.{WriterRecord}
use Rattle.writer_core.specs.Commands.{admitted}
use Rattle.writer_core.specs.Phases.{remedy_after, remedy_in, without}
use Rattle.writer_core.specs.Transitions.{Step, given, given_as, took, take_first, taken_as, free_step_as, failed_first, failed_command, failed_step_as, dial_step_as, open_step, accepted_step, completed_step, form_step, reach_step_as, reached_length, due_step, due_now, stream_step_as, step_in, own_step, dropped, fail_for, fail_named, fail_at, ended_as, ended, dialled_in, dialled, refused, granted, asks, is_connected}
use Rattle.world.specs.Worlds.{World}
use Rattle.world.specs.Clients.{ruled}
use Rattle.world_laws.proofs.FactTables.{if-each}
use Rattle.world_laws.specs.Stamping.{Givens}
use Rattle.world_closings.specs.Answering.{ClosesIn}

-- what the members have stays known
abbrev pub Passes : WriterRecord → WriterRecord → Type 0
Passes x y = (g : Givens) (w : World) (b : ℕ) (conn : Option ℕ) → ClosesIn g w b conn x x.phase → ClosesIn g w b conn y y.phase

pub itself-passes : (x : WriterRecord) → Passes x x
itself-passes x = λ g w b conn h. h

pub passes-then : (x y z : WriterRecord) → Passes x y → Passes y z → Passes x z
passes-then x y z p q = λ g w b conn h. q g w b conn (p g w b conn h)

-- a writer that gives up its connection needs none
pub kept-conn : (g : Givens) (w : World) (b : ℕ) (conn : Option ℕ) (x : WriterRecord) (p : Phase) → ClosesIn g w b conn x p → ClosesIn g w b (if is_connected p then conn else None) x p
kept-conn g w b conn x phase.Closed h = tt
kept-conn g w b conn x (phase.Wanted s) h = tt
kept-conn g w b conn x (phase.Stamped s t) h = tt
kept-conn g w b conn x (phase.Requested setup.Create t) h = tt
kept-conn g w b conn x (phase.Requested setup.Append t) h = tt
kept-conn g w b conn x (phase.Requested setup.AppendRecovery t) h = tt
kept-conn g w b conn x (phase.Requested setup.StreamRecovery t) h = tt
kept-conn g w b conn x (phase.Requested setup.CloseRecovery t) h = h
kept-conn g w b conn x (phase.Accepted setup.Create t) h = tt
kept-conn g w b conn x (phase.Accepted setup.Append t) h = tt
kept-conn g w b conn x (phase.Accepted setup.AppendRecovery t) h = tt
kept-conn g w b conn x (phase.Accepted setup.StreamRecovery t) h = tt
kept-conn g w b conn x (phase.Accepted setup.CloseRecovery t) h = h
kept-conn g w b conn x phase.Opened h = tt
kept-conn g w b conn x (phase.Streaming sent) h = tt
kept-conn g w b conn x phase.Closing h = tt
kept-conn g w b conn x phase.Finished h = h
kept-conn g w b conn x phase.Completed h = h
kept-conn g w b conn x (phase.Failed f) h = tt

-- STEPS

abbrev In : WriterRecord → Step → Type 0
In x s = Passes x s.writer

taken-passes : (x : WriterRecord) (c : Command) → Passes x (taken_as x c)
taken-passes x (command.Create members) = λ g w b conn h. tt
taken-passes x (command.Append members) = λ g w b conn h. tt
taken-passes x (command.Write bytes) = λ g w b conn h. h
taken-passes x (command.Fill count) = λ g w b conn h. h
taken-passes x command.Hflush = λ g w b conn h. h
taken-passes x command.Hsync = λ g w b conn h. h
taken-passes x command.Close = λ g w b conn h. h

first-passes : (x : WriterRecord) (o : Option Command) → In x (take_first x o)
first-passes x None = itself-passes x
first-passes x (Some c) = taken-passes x c

free-passes : (x : WriterRecord) (o : Option Waiting) → In x (free_step_as x o)
free-passes x None = first-passes x (slice_get x.queue 0)
free-passes x (Some w) = itself-passes x

took-passes : (x : WriterRecord) → Passes x (took x)
took-passes x = λ g w b conn h. h

failed-command-passes : (x : WriterRecord) (f : Failure) (c : Command) → In x (failed_command x f c)
failed-command-passes x f (command.Create members) = took-passes x
failed-command-passes x f (command.Append members) = taken-passes x (command.Append members)
failed-command-passes x f (command.Write bytes) = took-passes x
failed-command-passes x f (command.Fill count) = took-passes x
failed-command-passes x f command.Hflush = took-passes x
failed-command-passes x f command.Hsync = took-passes x
failed-command-passes x f command.Close = took-passes x

failed-first-passes : (x : WriterRecord) (f : Failure) (o : Option Command) → In x (failed_first x f o)
failed-first-passes x f None = itself-passes x
failed-first-passes x f (Some c) = failed-command-passes x f c

failed-passes : (x : WriterRecord) (f : Failure) (o : Option Waiting) → In x (failed_step_as x f o)
failed-passes x f None = failed-first-passes x f (slice_get x.queue 0)
failed-passes x f (Some c) = λ g w b conn h. h

dial-passes : (x : WriterRecord) (s : Setup) (t : Stamp) (ms : List NodeId) → In x (dial_step_as x s t ms)
dial-passes x s t [] = itself-passes x
dial-passes x s t (m ∷ ms) = itself-passes x

pub open-passes : (x : WriterRecord) → In x (open_step x)
open-passes x = λ g w b conn h. tt

accepted-passes : (x : WriterRecord) (s : Setup) (t : Stamp) → In x (accepted_step x s t)
accepted-passes x setup.Create t = open-passes x
accepted-passes x setup.Append t = itself-passes x
accepted-passes x setup.AppendRecovery t = itself-passes x
accepted-passes x setup.StreamRecovery t = itself-passes x
accepted-passes x setup.CloseRecovery t = itself-passes x

pub completed-passes : (x : WriterRecord) → In x (completed_step x)
completed-passes x = λ g w b conn h. tt

form-passes : (x : WriterRecord) (d : DuePacket) → In x (form_step x d)
form-passes x (due.Data end s) = λ g w b conn h. tt
form-passes x due.Sync = λ g w b conn h. tt
form-passes x due.Last = λ g w b conn h. tt

reach-passes : (x : WriterRecord) (o : Option ℕ) → In x (reach_step_as x o)
reach-passes x None = free-passes x x.waiting
reach-passes x (Some n) = λ g w b conn h. h

due-passes : (x : WriterRecord) (o : Option DuePacket) → In x (due_step x o)
due-passes x None = reach-passes x (reached_length x.waiting x.stream)
due-passes x (Some d) = form-passes x d

stream-passes : (x : WriterRecord) (sent : ℕ) (o : Option Packet) → In x (stream_step_as x sent o)
stream-passes x sent None = due-passes x (due_now x)
stream-passes x sent (Some p) = λ g w b conn h. tt

step-passes : (x : WriterRecord) (p : Phase) → In x (step_in x p)
step-passes x phase.Closed = free-passes x x.waiting
step-passes x (phase.Wanted s) = itself-passes x
step-passes x (phase.Stamped s t) = dial-passes x s t x.members
step-passes x (phase.Requested s t) = free-passes x x.waiting
step-passes x (phase.Accepted s t) = accepted-passes x s t
step-passes x phase.Opened = open-passes x
step-passes x (phase.Streaming sent) = stream-passes x sent (slice_get x.stream.unacked sent)
step-passes x phase.Closing = free-passes x x.waiting
step-passes x phase.Finished = itself-passes x
step-passes x phase.Completed = completed-passes x
step-passes x (phase.Failed f) = failed-passes x f x.waiting

pub own-step-passes : (x : WriterRecord) → In x (own_step x)
unfolding own_step
own-step-passes x = step-passes x x.phase

-- COMMANDS

given-as-passes : (x : WriterRecord) (c : Command) (r : Result Intake CommandFault) → Passes x (given_as x c r)
given-as-passes x c (Ok i) = λ g w b conn h. h
given-as-passes x c (Err e) = itself-passes x

pub given-passes : (x : WriterRecord) (c : Command) → Passes x (given x c)
given-passes x c = given-as-passes x c (admitted x.intake c)

pub ruled-passes : (x : WriterRecord) (c : Command) (r : Rule) → Passes x (ruled x c r)
ruled-passes x (command.Create members) r = λ g w b conn h. h
ruled-passes x (command.Append members) r = itself-passes x
ruled-passes x (command.Write bytes) r = itself-passes x
ruled-passes x (command.Fill count) r = itself-passes x
ruled-passes x command.Hflush r = itself-passes x
ruled-passes x command.Hsync r = itself-passes x
ruled-passes x command.Close r = itself-passes x

-- FAILURES

dropped-passes : (x : WriterRecord) (s : Setup) (bad : NodeId) (ms : List NodeId) → Passes x (dropped x s bad ms)
dropped-passes x s bad [] = λ g w b conn h. tt
dropped-passes x s bad (m ∷ ms) = λ g w b conn h. tt

fail-for-passes : (x : WriterRecord) (r : Remedy) (bad : NodeId) → Passes x (fail_for x r bad)
fail-for-passes x remedy.Abandon bad = λ g w b conn h. tt
fail-for-passes x (remedy.Recover s) bad = dropped-passes x s bad (without x.members bad)

fail-named-passes : (x : WriterRecord) (r : Remedy) (o : Option NodeId) → Passes x (fail_named x r o)
fail-named-passes x r None = itself-passes x
fail-named-passes x r (Some bad) = fail-for-passes x r bad

pub fail-passes : (x : WriterRecord) (r : Remedy) (place : ℕ) → Passes x (fail_at x r place)
fail-passes x r place = fail-named-passes x r (slice_get x.members place)

ended-as-passes : (x : WriterRecord) (o : Option Remedy) → Passes x (ended_as x o)
ended-as-passes x None = itself-passes x
ended-as-passes x (Some r) = fail-passes x r 0

pub ended-passes : (x : WriterRecord) → Passes x (ended x)
unfolding ended
ended-passes x = ended-as-passes x (remedy_in x.phase)

unanswered-in-passes : (x : WriterRecord) (p : Phase) → Passes x (dialled_in x p false)
unanswered-in-passes x (phase.Stamped s t) = fail-passes x (remedy_after s) 0
unanswered-in-passes x phase.Closed = itself-passes x
unanswered-in-passes x (phase.Wanted s) = itself-passes x
unanswered-in-passes x (phase.Requested s t) = itself-passes x
unanswered-in-passes x (phase.Accepted s t) = itself-passes x
unanswered-in-passes x phase.Opened = itself-passes x
unanswered-in-passes x (phase.Streaming sent) = itself-passes x
unanswered-in-passes x phase.Closing = itself-passes x
unanswered-in-passes x phase.Finished = itself-passes x
unanswered-in-passes x phase.Completed = itself-passes x
unanswered-in-passes x (phase.Failed f) = itself-passes x

-- a dial that wasn't answered
pub unanswered-passes : (x : WriterRecord) → Passes x (dialled x false)
unfolding dialled
unanswered-passes x = unanswered-in-passes x x.phase

-- a refusal of the office
refused-as-passes : (x : WriterRecord) (e : OfficeFault) → Passes x (refused x e)
refused-as-passes x fault.Memory = itself-passes x
refused-as-passes x (fault.LeaseLost recovery) = λ g w b conn h. tt
refused-as-passes x fault.Known = λ g w b conn h. tt
refused-as-passes x fault.Unknown = λ g w b conn h. tt
refused-as-passes x fault.NotOpen = λ g w b conn h. tt
refused-as-passes x fault.NotClosed = λ g w b conn h. tt
refused-as-passes x (fault.OldStamp committed) = λ g w b conn h. tt
refused-as-passes x (fault.OldRecovery latest) = λ g w b conn h. tt
refused-as-passes x (fault.TooLong bytes) = λ g w b conn h. tt

pub refused-passes : (x : WriterRecord) (e : OfficeFault) → Passes x (granted x (Err e))
unfolding granted
refused-passes x e = if-each (λ (y : WriterRecord). Passes x y) (asks x.phase) (refused x e) x (λ _. refused-as-passes x e) (λ _. itself-passes x)
