-- What a writer's steps leave of the members and the stamp of a pipeline whose connection it has given up.
use Rattle.std.proofs.Common.{◌≡◌, ℕ, Bool, true, false, List, [], ◌∷◌, Option, Some, None, Result, Ok, Err, refl, sym, ◌∙◌, ap}
use Rattle.std.specs.Prelude.{slice_get, nat_le}
use Rattle.hd_base.specs.declared.numbers.NodeId.{NodeId}
use Rattle.hd_base.specs.declared.numbers.Stamp.{Stamp}
use Rattle.name_core.specs.declared.calls.OfficeAnswer.{OfficeAnswer}
use Rattle.name_core.specs.declared.calls.OfficeAnswer.TheVariants as office
use Rattle.name_core.specs.declared.calls.Reopened.{Reopened}
use Rattle.name_core.specs.declared.faults.OfficeFault.{OfficeFault}
use Rattle.name_core.specs.declared.faults.OfficeFault.TheVariants as fault
use Rattle.name_core.specs.declared.records.TheConstants.{MAX_APPEND_LENGTH}
use Rattle.packet_codec.specs.declared.packets.Packet.{Packet}
use Rattle.writer_core.specs.declared.commands.Command.{Command}
use Rattle.writer_core.specs.declared.commands.Command.TheVariants as command
use Rattle.writer_core.specs.declared.commands.CommandFault.{CommandFault}
use Rattle.writer_core.specs.declared.intake.Intake.{Intake}
use Rattle.writer_core.specs.declared.phases.DuePacket.{DuePacket}
use Rattle.writer_core.specs.declared.phases.DuePacket.TheVariants as due
use Rattle.writer_core.specs.declared.phases.Failure.{Failure}
use Rattle.writer_core.specs.declared.phases.Phase.{Phase}
use Rattle.writer_core.specs.declared.phases.Phase.TheVariants as phase
use Rattle.writer_core.specs.declared.phases.Remedy.{Remedy}
use Rattle.writer_core.specs.declared.phases.Remedy.TheVariants as remedy
use Rattle.writer_core.specs.declared.phases.Setup.{Setup}
use Rattle.writer_core.specs.declared.phases.Setup.TheVariants as setup
use Rattle.writer_core.specs.declared.phases.Waiting.{Waiting}
use Rattle.writer_core.specs.declared.records.WriterRecord.{WriterRecord}
use Rattle.writer_core.specs.Commands.{admitted}
use Rattle.writer_core.specs.Phases.{remedy_after, remedy_in, without}
use Rattle.writer_core.specs.Transitions.{given, given_as, take_first, taken_as, free_step_as, failed_first, failed_command, failed_step_as, dial_step_as, open_step, accepted_step, completed_step, form_step, reach_step_as, reached_length, due_step, due_now, stream_step_as, step_in, own_step, dropped, fail_for, fail_named, fail_at, ended, ended_as, dialled, dialled_in, refused, stamped, reopened, begin_session, stamp_given, committed_as, commit_given, complete_given, granted_in, granted_as, granted, asks, took, Step}
use Rattle.world.specs.Clients.{ruled}
use Rattle.std.proofs.lemmas.Bool.{false≢true}
use Rattle.hd_base.specs.SumRules.{Rule}
use Rattle.world_laws.proofs.FactTables.{if-each}
use Rattle.world_writers.specs.Piping.{setup_stamp}

-- WRITERS

-- the recovery of a close
abbrev pub released_in : Setup → Bool
released_in setup.CloseRecovery = true
released_in _ = false

-- a phase in which all members have answered or acked all, and the writer has no connection to them any more
abbrev pub is_released : Phase → Bool
is_released (phase.Accepted s stamp) = released_in s
is_released phase.Finished = true
is_released phase.Completed = true
is_released _ = false

pub record KeepsTo (x y : WriterRecord) : Type 0 where
  pub released : is_released x.phase ≡ true
  pub members : y.members ≡ x.members
  pub stamp : setup_stamp y.phase y.committed ≡ setup_stamp x.phase x.committed

-- a writer after another: where its pipeline is released it was so before, with the same members and stamp
abbrev pub Keeps : WriterRecord → WriterRecord → Type 0
Keeps x y = is_released y.phase ≡ true → KeepsTo x y

pub itself-keeps : (x : WriterRecord) → Keeps x x
itself-keeps x = λ e. record { released = e; members = refl; stamp = refl }

keeps-to-then : (x y z : WriterRecord) → KeepsTo x y → KeepsTo y z → KeepsTo x z
keeps-to-then x y z p q = record { released = p.released; members = q.members ∙ p.members; stamp = q.stamp ∙ p.stamp }

pub keeps-then : (x y z : WriterRecord) → Keeps x y → Keeps y z → Keeps x z
keeps-then x y z a b = λ e. let q = b e in keeps-to-then x y z (a q.released) q

-- STEPS

taken-keeps : (x : WriterRecord) (c : Command) → Keeps x (taken_as x c)
taken-keeps x (command.Create members) = λ e. absurd (false≢true e)
taken-keeps x (command.Append members) = λ e. absurd (false≢true e)
taken-keeps x (command.Write bytes) = λ e. record { released = e; members = refl; stamp = refl }
taken-keeps x (command.Fill count) = λ e. record { released = e; members = refl; stamp = refl }
taken-keeps x command.Hflush = λ e. record { released = e; members = refl; stamp = refl }
taken-keeps x command.Hsync = λ e. record { released = e; members = refl; stamp = refl }
taken-keeps x command.Close = λ e. record { released = e; members = refl; stamp = refl }

abbrev In : WriterRecord → Step → Type 0
In x s = Keeps x s.writer

first-keeps : (x : WriterRecord) (o : Option Command) → In x (take_first x o)
first-keeps x None = itself-keeps x
first-keeps x (Some c) = taken-keeps x c

free-keeps : (x : WriterRecord) (o : Option Waiting) → In x (free_step_as x o)
free-keeps x None = first-keeps x (slice_get x.queue 0)
free-keeps x (Some w) = itself-keeps x

took-keeps : (x : WriterRecord) → Keeps x (took x)
took-keeps x = λ e. record { released = e; members = refl; stamp = refl }

failed-command-keeps : (x : WriterRecord) (f : Failure) (c : Command) → In x (failed_command x f c)
failed-command-keeps x f (command.Create members) = took-keeps x
failed-command-keeps x f (command.Append members) = taken-keeps x (command.Append members)
failed-command-keeps x f (command.Write bytes) = took-keeps x
failed-command-keeps x f (command.Fill count) = took-keeps x
failed-command-keeps x f command.Hflush = took-keeps x
failed-command-keeps x f command.Hsync = took-keeps x
failed-command-keeps x f command.Close = took-keeps x

failed-first-keeps : (x : WriterRecord) (f : Failure) (o : Option Command) → In x (failed_first x f o)
failed-first-keeps x f None = itself-keeps x
failed-first-keeps x f (Some c) = failed-command-keeps x f c

failed-keeps : (x : WriterRecord) (f : Failure) (o : Option Waiting) → In x (failed_step_as x f o)
failed-keeps x f None = failed-first-keeps x f (slice_get x.queue 0)
failed-keeps x f (Some w) = λ e. record { released = e; members = refl; stamp = refl }

dial-keeps : (x : WriterRecord) (s : Setup) (t : Stamp) (ms : List NodeId) → In x (dial_step_as x s t ms)
dial-keeps x s t [] = itself-keeps x
dial-keeps x s t (m ∷ ms) = itself-keeps x

pub open-keeps : (x : WriterRecord) → In x (open_step x)
open-keeps x = λ e. absurd (false≢true e)

accepted-keeps : (x : WriterRecord) (s : Setup) (t : Stamp) → In x (accepted_step x s t)
accepted-keeps x setup.Create t = open-keeps x
accepted-keeps x setup.Append t = itself-keeps x
accepted-keeps x setup.AppendRecovery t = itself-keeps x
accepted-keeps x setup.StreamRecovery t = itself-keeps x
accepted-keeps x setup.CloseRecovery t = itself-keeps x

pub completed-keeps : (x : WriterRecord) → In x (completed_step x)
completed-keeps x = λ e. absurd (false≢true e)

form-keeps : (x : WriterRecord) (d : DuePacket) → In x (form_step x d)
form-keeps x (due.Data end s) = λ e. absurd (false≢true e)
form-keeps x due.Sync = λ e. absurd (false≢true e)
form-keeps x due.Last = λ e. absurd (false≢true e)

reach-keeps : (x : WriterRecord) (o : Option ℕ) → In x (reach_step_as x o)
reach-keeps x None = free-keeps x x.waiting
reach-keeps x (Some n) = λ e. record { released = e; members = refl; stamp = refl }

due-keeps : (x : WriterRecord) (o : Option DuePacket) → In x (due_step x o)
due-keeps x None = reach-keeps x (reached_length x.waiting x.stream)
due-keeps x (Some d) = form-keeps x d

stream-keeps : (x : WriterRecord) (sent : ℕ) (o : Option Packet) → In x (stream_step_as x sent o)
stream-keeps x sent None = due-keeps x (due_now x)
stream-keeps x sent (Some p) = λ e. absurd (false≢true e)

step-keeps : (x : WriterRecord) (p : Phase) → In x (step_in x p)
step-keeps x phase.Closed = free-keeps x x.waiting
step-keeps x (phase.Wanted s) = itself-keeps x
step-keeps x (phase.Stamped s t) = dial-keeps x s t x.members
step-keeps x (phase.Requested s t) = free-keeps x x.waiting
step-keeps x (phase.Accepted s t) = accepted-keeps x s t
step-keeps x phase.Opened = open-keeps x
step-keeps x (phase.Streaming sent) = stream-keeps x sent (slice_get x.stream.unacked sent)
step-keeps x phase.Closing = free-keeps x x.waiting
step-keeps x phase.Finished = itself-keeps x
step-keeps x phase.Completed = completed-keeps x
step-keeps x (phase.Failed f) = failed-keeps x f x.waiting

pub own-step-keeps : (x : WriterRecord) → In x (own_step x)
unfolding own_step
own-step-keeps x = step-keeps x x.phase

-- WHAT COMES

dropped-keeps : (x : WriterRecord) (s : Setup) (bad : NodeId) (ms : List NodeId) → Keeps x (dropped x s bad ms)
dropped-keeps x s bad [] = λ e. absurd (false≢true e)
dropped-keeps x s bad (m ∷ ms) = λ e. absurd (false≢true e)

fail-for-keeps : (x : WriterRecord) (r : Remedy) (bad : NodeId) → Keeps x (fail_for x r bad)
fail-for-keeps x remedy.Abandon bad = λ e. absurd (false≢true e)
fail-for-keeps x (remedy.Recover s) bad = dropped-keeps x s bad (without x.members bad)

fail-named-keeps : (x : WriterRecord) (r : Remedy) (o : Option NodeId) → Keeps x (fail_named x r o)
fail-named-keeps x r None = itself-keeps x
fail-named-keeps x r (Some bad) = fail-for-keeps x r bad

pub fail-keeps : (x : WriterRecord) (r : Remedy) (place : ℕ) → Keeps x (fail_at x r place)
fail-keeps x r place = fail-named-keeps x r (slice_get x.members place)

ended-as-keeps : (x : WriterRecord) (o : Option Remedy) → Keeps x (ended_as x o)
ended-as-keeps x None = itself-keeps x
ended-as-keeps x (Some r) = fail-keeps x r 0

pub ended-keeps : (x : WriterRecord) → Keeps x (ended x)
unfolding ended
ended-keeps x = ended-as-keeps x (remedy_in x.phase)

given-as-keeps : (x : WriterRecord) (c : Command) (r : Result Intake CommandFault) → Keeps x (given_as x c r)
given-as-keeps x c (Ok i) = λ e. record { released = e; members = refl; stamp = refl }
given-as-keeps x c (Err e) = itself-keeps x

pub given-keeps : (x : WriterRecord) (c : Command) → Keeps x (given x c)
given-keeps x c = given-as-keeps x c (admitted x.intake c)

-- DIALS AND COMMANDS

unanswered-in-keeps : (x : WriterRecord) (p : Phase) → Keeps x (dialled_in x p false)
unanswered-in-keeps x (phase.Stamped s t) = fail-keeps x (remedy_after s) 0
unanswered-in-keeps x phase.Closed = itself-keeps x
unanswered-in-keeps x (phase.Wanted s) = itself-keeps x
unanswered-in-keeps x (phase.Requested s t) = itself-keeps x
unanswered-in-keeps x (phase.Accepted s t) = itself-keeps x
unanswered-in-keeps x phase.Opened = itself-keeps x
unanswered-in-keeps x (phase.Streaming sent) = itself-keeps x
unanswered-in-keeps x phase.Closing = itself-keeps x
unanswered-in-keeps x phase.Finished = itself-keeps x
unanswered-in-keeps x phase.Completed = itself-keeps x
unanswered-in-keeps x (phase.Failed f) = itself-keeps x

-- a dial that wasn't answered
pub unanswered-keeps : (x : WriterRecord) → Keeps x (dialled x false)
unfolding dialled
unanswered-keeps x = unanswered-in-keeps x x.phase

pub ruled-keeps : (x : WriterRecord) (c : Command) (r : Rule) → Keeps x (ruled x c r)
ruled-keeps x (command.Create members) r = λ e. record { released = e; members = refl; stamp = refl }
ruled-keeps x (command.Append members) r = itself-keeps x
ruled-keeps x (command.Write bytes) r = itself-keeps x
ruled-keeps x (command.Fill count) r = itself-keeps x
ruled-keeps x command.Hflush r = itself-keeps x
ruled-keeps x command.Hsync r = itself-keeps x
ruled-keeps x command.Close r = itself-keeps x

-- ANSWERS OF THE OFFICE

refused-as-keeps : (x : WriterRecord) (e : OfficeFault) → Keeps x (refused x e)
refused-as-keeps x fault.Memory = itself-keeps x
refused-as-keeps x (fault.LeaseLost recovery) = λ e. absurd (false≢true e)
refused-as-keeps x fault.Known = λ e. absurd (false≢true e)
refused-as-keeps x fault.Unknown = λ e. absurd (false≢true e)
refused-as-keeps x fault.NotOpen = λ e. absurd (false≢true e)
refused-as-keeps x fault.NotClosed = λ e. absurd (false≢true e)
refused-as-keeps x (fault.OldStamp committed) = λ e. absurd (false≢true e)
refused-as-keeps x (fault.OldRecovery latest) = λ e. absurd (false≢true e)
refused-as-keeps x (fault.TooLong bytes) = λ e. absurd (false≢true e)

stamped-keeps : (x : WriterRecord) (s : Setup) (t : Stamp) → Keeps x (stamped x s t)
stamped-keeps x setup.Create t = λ e. absurd (false≢true e)
stamped-keeps x setup.Append t = itself-keeps x
stamped-keeps x setup.AppendRecovery t = λ e. absurd (false≢true e)
stamped-keeps x setup.StreamRecovery t = λ e. absurd (false≢true e)
stamped-keeps x setup.CloseRecovery t = λ e. absurd (false≢true e)

reopened-keeps : (x : WriterRecord) (s : Setup) (r : Reopened) → Keeps x (reopened x s r)
reopened-keeps x setup.Create r = itself-keeps x
reopened-keeps x setup.Append r = if-each (λ (y : WriterRecord). Keeps x y) (nat_le r.length MAX_APPEND_LENGTH) (record (begin_session x r.committed r.length) { phase = phase.Stamped setup.Append r.new }) x (λ _ e. absurd (false≢true e)) (λ _. itself-keeps x)
reopened-keeps x setup.AppendRecovery r = itself-keeps x
reopened-keeps x setup.StreamRecovery r = itself-keeps x
reopened-keeps x setup.CloseRecovery r = itself-keeps x

given-stamp-keeps : (x : WriterRecord) (s : Setup) (a : OfficeAnswer) → Keeps x (stamp_given x s a)
given-stamp-keeps x s (office.Stamp t) = stamped-keeps x s t
given-stamp-keeps x s (office.Reopened r) = reopened-keeps x s r
given-stamp-keeps x s (office.Begun r) = itself-keeps x
given-stamp-keeps x s office.Nothing = itself-keeps x

committed-keeps : (x : WriterRecord) (s : Setup) (t : Stamp) → x.phase ≡ phase.Accepted s t → Keeps x (committed_as x s t)
committed-keeps x setup.Create t e = itself-keeps x
committed-keeps x setup.Append t e = λ z. absurd (false≢true z)
committed-keeps x setup.AppendRecovery t e = λ z. absurd (false≢true z)
committed-keeps x setup.StreamRecovery t e = λ z. absurd (false≢true z)
committed-keeps x setup.CloseRecovery t e = λ _. record { released = ap is_released e; members = refl; stamp = sym (ap (λ (p : Phase). setup_stamp p x.committed) e) }

commit-keeps : (x : WriterRecord) (s : Setup) (t : Stamp) (a : OfficeAnswer) → x.phase ≡ phase.Accepted s t → Keeps x (commit_given x s t a)
commit-keeps x s t office.Nothing e = committed-keeps x s t e
commit-keeps x s t (office.Stamp u) e = itself-keeps x
commit-keeps x s t (office.Reopened r) e = itself-keeps x
commit-keeps x s t (office.Begun r) e = itself-keeps x

complete-keeps : (x : WriterRecord) (a : OfficeAnswer) → x.phase ≡ phase.Finished → Keeps x (complete_given x a)
complete-keeps x office.Nothing e = λ _. record { released = ap is_released e; members = refl; stamp = sym (ap (λ (p : Phase). setup_stamp p x.committed) e) }
complete-keeps x (office.Stamp u) e = itself-keeps x
complete-keeps x (office.Reopened r) e = itself-keeps x
complete-keeps x (office.Begun r) e = itself-keeps x

granted-in-keeps : (x : WriterRecord) (p : Phase) (a : OfficeAnswer) → x.phase ≡ p → Keeps x (granted_in x p a)
granted-in-keeps x (phase.Wanted s) a e = given-stamp-keeps x s a
granted-in-keeps x (phase.Accepted s t) a e = commit-keeps x s t a e
granted-in-keeps x phase.Finished a e = complete-keeps x a e
granted-in-keeps x phase.Closed a e = itself-keeps x
granted-in-keeps x (phase.Stamped s t) a e = itself-keeps x
granted-in-keeps x (phase.Requested s t) a e = itself-keeps x
granted-in-keeps x phase.Opened a e = itself-keeps x
granted-in-keeps x (phase.Streaming sent) a e = itself-keeps x
granted-in-keeps x phase.Closing a e = itself-keeps x
granted-in-keeps x phase.Completed a e = itself-keeps x
granted-in-keeps x (phase.Failed f) a e = itself-keeps x

granted-as-keeps : (x : WriterRecord) (r : Result OfficeAnswer OfficeFault) → Keeps x (granted_as x r)
granted-as-keeps x (Ok a) = granted-in-keeps x x.phase a refl
granted-as-keeps x (Err e) = if-each (λ (y : WriterRecord). Keeps x y) (asks x.phase) (refused x e) x (λ _. refused-as-keeps x e) (λ _. itself-keeps x)

pub granted-keeps : (x : WriterRecord) (r : Result OfficeAnswer OfficeFault) → Keeps x (granted x r)
unfolding granted
granted-keeps x r = granted-as-keeps x r
