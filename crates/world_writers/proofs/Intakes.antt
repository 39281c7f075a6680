-- A writer's intake stays but where a command is given.
use Rattle.std.proofs.Common.{◌≡◌, ℕ, Bool, true, false, List, [], ◌∷◌, Option, Some, None, Result, Ok, Err, refl}
use Rattle.std.specs.Prelude.{slice_get, length, nat_le}
use Rattle.hd_base.specs.declared.numbers.NodeId.{NodeId}
use Rattle.hd_base.specs.declared.numbers.Stamp.{Stamp}
use Rattle.name_core.specs.declared.calls.OfficeAnswer.{OfficeAnswer}
use Rattle.name_core.specs.declared.calls.OfficeAnswer.TheVariants as office
use Rattle.name_core.specs.declared.calls.Reopened.{Reopened}
use Rattle.name_core.specs.declared.faults.OfficeFault.{OfficeFault}
use Rattle.name_core.specs.declared.faults.OfficeFault.TheVariants as fault
use Rattle.name_core.specs.declared.records.TheConstants.{MAX_APPEND_LENGTH}
use Rattle.ack_codec.specs.declared.acks.Ack.{Ack}
use Rattle.ack_codec.specs.declared.responses.Response.{Response}
use Rattle.packet_codec.specs.declared.packets.Packet.{Packet}
use Rattle.packet_stream.specs.Streams.{oldest_seqno}
use Rattle.writer_core.specs.declared.commands.Command.{Command}
use Rattle.writer_core.specs.declared.commands.Command.TheVariants as command
use Rattle.writer_core.specs.declared.phases.DuePacket.{DuePacket}
use Rattle.writer_core.specs.declared.phases.DuePacket.TheVariants as due
use Rattle.writer_core.specs.declared.phases.Failure.{Failure}
use Rattle.writer_core.specs.declared.phases.Phase.{Phase}
use Rattle.writer_core.specs.declared.phases.Phase.TheVariants as phase
use Rattle.writer_core.specs.declared.phases.Remedy.{Remedy}
use Rattle.writer_core.specs.declared.phases.Remedy.TheVariants as remedy
use Rattle.writer_core.specs.declared.phases.Setup.{Setup}
use Rattle.writer_core.specs.declared.phases.Setup.TheVariants as setup
use Rattle.writer_core.specs.declared.phases.Verdict.{Verdict}
use Rattle.writer_core.specs.declared.phases.Verdict.TheVariants as verdict
use Rattle.writer_core.specs.declared.phases.Waiting.{Waiting}
use Rattle.writer_core.specs.declared.records.WriterRecord.{WriterRecord}
use Rattle.writer_core.specs.Phases.{remedy_after, remedy_in, remedy_at_ack, ack_verdict, bad_place, without, is_success}
use Rattle.writer_core.specs.Transitions.{take_first, taken_as, free_step_as, failed_first, failed_command, failed_step_as, dial_step_as, open_step, accepted_step, completed_step, form_step, reach_step_as, reached_length, due_step, due_now, stream_step_as, step_in, own_step, dropped, fail_for, fail_named, fail_at, ended, ended_as, acked, acked_as, acked_in, setup_answered, setup_answered_in, dialled, dialled_in, refused, stamped, reopened, stamp_given, committed_as, commit_given, complete_given, granted_in, granted_as, granted, asks}
use Rattle.world.specs.Connections.{Next, message, the_end}
use Rattle.world.specs.Parts.{request, packet, ack, response, read_status, recovery_answer}
use Rattle.world.specs.Clients.{named_member, writer_hears}
use Rattle.world_laws.proofs.FactTables.{if-each}

-- the intake of the one is that of the other
abbrev pub Keeps : WriterRecord → WriterRecord → Type 0
Keeps x y = y.intake ≡ x.intake

-- OWN STEPS

taken-keeps : (x : WriterRecord) (c : Command) → Keeps x (taken_as x c)
taken-keeps x (command.Create members) = refl
taken-keeps x (command.Append members) = refl
taken-keeps x (command.Write bytes) = refl
taken-keeps x (command.Fill count) = refl
taken-keeps x command.Hflush = refl
taken-keeps x command.Hsync = refl
taken-keeps x command.Close = refl

first-keeps : (x : WriterRecord) (o : Option Command) → Keeps x (take_first x o).writer
first-keeps x None = refl
first-keeps x (Some c) = taken-keeps x c

free-keeps : (x : WriterRecord) (o : Option Waiting) → Keeps x (free_step_as x o).writer
free-keeps x None = first-keeps x (slice_get x.queue 0)
free-keeps x (Some y) = refl

failed-command-keeps : (x : WriterRecord) (f : Failure) (c : Command) → Keeps x (failed_command x f c).writer
failed-command-keeps x f (command.Create members) = refl
failed-command-keeps x f (command.Append members) = refl
failed-command-keeps x f (command.Write bytes) = refl
failed-command-keeps x f (command.Fill count) = refl
failed-command-keeps x f command.Hflush = refl
failed-command-keeps x f command.Hsync = refl
failed-command-keeps x f command.Close = refl

failed-first-keeps : (x : WriterRecord) (f : Failure) (o : Option Command) → Keeps x (failed_first x f o).writer
failed-first-keeps x f None = refl
failed-first-keeps x f (Some c) = failed-command-keeps x f c

failed-keeps : (x : WriterRecord) (f : Failure) (o : Option Waiting) → Keeps x (failed_step_as x f o).writer
failed-keeps x f None = failed-first-keeps x f (slice_get x.queue 0)
failed-keeps x f (Some y) = refl

dial-keeps : (x : WriterRecord) (s : Setup) (stamp : Stamp) (ms : List NodeId) → Keeps x (dial_step_as x s stamp ms).writer
dial-keeps x s stamp [] = refl
dial-keeps x s stamp (m ∷ ms) = refl

accepted-keeps : (x : WriterRecord) (s : Setup) (stamp : Stamp) → Keeps x (accepted_step x s stamp).writer
accepted-keeps x setup.Create stamp = refl
accepted-keeps x setup.Append stamp = refl
accepted-keeps x setup.AppendRecovery stamp = refl
accepted-keeps x setup.StreamRecovery stamp = refl
accepted-keeps x setup.CloseRecovery stamp = refl

form-keeps : (x : WriterRecord) (d : DuePacket) → Keeps x (form_step x d).writer
form-keeps x (due.Data end s) = refl
form-keeps x due.Sync = refl
form-keeps x due.Last = refl

reach-keeps : (x : WriterRecord) (o : Option ℕ) → Keeps x (reach_step_as x o).writer
reach-keeps x None = free-keeps x x.waiting
reach-keeps x (Some n) = refl

due-keeps : (x : WriterRecord) (o : Option DuePacket) → Keeps x (due_step x o).writer
due-keeps x None = reach-keeps x (reached_length x.waiting x.stream)
due-keeps x (Some d) = form-keeps x d

stream-keeps : (x : WriterRecord) (sent : ℕ) (o : Option Packet) → Keeps x (stream_step_as x sent o).writer
stream-keeps x sent None = due-keeps x (due_now x)
stream-keeps x sent (Some p) = refl

step-keeps : (x : WriterRecord) (p : Phase) → Keeps x (step_in x p).writer
step-keeps x phase.Closed = free-keeps x x.waiting
step-keeps x (phase.Wanted s) = refl
step-keeps x (phase.Stamped s stamp) = dial-keeps x s stamp x.members
step-keeps x (phase.Requested s stamp) = free-keeps x x.waiting
step-keeps x (phase.Accepted s stamp) = accepted-keeps x s stamp
step-keeps x phase.Opened = refl
step-keeps x (phase.Streaming sent) = stream-keeps x sent (slice_get x.stream.unacked sent)
step-keeps x phase.Closing = free-keeps x x.waiting
step-keeps x phase.Finished = refl
step-keeps x phase.Completed = refl
step-keeps x (phase.Failed f) = failed-keeps x f x.waiting

pub own-step-keeps : (x : WriterRecord) → Keeps x (own_step x).writer
unfolding own_step
own-step-keeps x = step-keeps x x.phase

pub open-keeps : (x : WriterRecord) → Keeps x (open_step x).writer
open-keeps x = refl

pub completed-keeps : (x : WriterRecord) → Keeps x (completed_step x).writer
completed-keeps x = refl

-- WHAT IT TAKES

dropped-keeps : (x : WriterRecord) (s : Setup) (bad : NodeId) (ms : List NodeId) → Keeps x (dropped x s bad ms)
dropped-keeps x s bad [] = refl
dropped-keeps x s bad (m ∷ ms) = refl

for-keeps : (x : WriterRecord) (r : Remedy) (bad : NodeId) → Keeps x (fail_for x r bad)
for-keeps x remedy.Abandon bad = refl
for-keeps x (remedy.Recover s) bad = dropped-keeps x s bad (without x.members bad)

named-keeps : (x : WriterRecord) (r : Remedy) (o : Option NodeId) → Keeps x (fail_named x r o)
named-keeps x r None = refl
named-keeps x r (Some bad) = for-keeps x r bad

fail-keeps : (x : WriterRecord) (r : Remedy) (place : ℕ) → Keeps x (fail_at x r place)
fail-keeps x r place = named-keeps x r (slice_get x.members place)

ended-as-keeps : (x : WriterRecord) (o : Option Remedy) → Keeps x (ended_as x o)
ended-as-keeps x None = refl
ended-as-keeps x (Some r) = fail-keeps x r 0

pub ended-keeps : (x : WriterRecord) → Keeps x (ended x)
unfolding ended
ended-keeps x = ended-as-keeps x (remedy_in x.phase)

verdict-keeps : (x : WriterRecord) (r : Remedy) (v : Verdict) → Keeps x (acked_as x r v)
verdict-keeps x r verdict.Good = refl
verdict-keeps x r (verdict.Bad place) = fail-keeps x r place

acked-in-keeps : (x : WriterRecord) (a : Ack) (o : Option Remedy) → Keeps x (acked_in x a o)
acked-in-keeps x a None = refl
acked-in-keeps x a (Some r) = verdict-keeps x r (ack_verdict (oldest_seqno x.stream) (length x.members) a)

pub acked-keeps : (x : WriterRecord) (a : Ack) → Keeps x (acked x a)
unfolding acked
acked-keeps x a = acked-in-keeps x a (remedy_at_ack x.phase)

setup-in-keeps : (x : WriterRecord) (p : Phase) (good : Bool) (bad : Option NodeId) → Keeps x (setup_answered_in x p good bad)
setup-in-keeps x (phase.Requested s stamp) true bad = refl
setup-in-keeps x (phase.Requested s stamp) false bad = fail-keeps x (remedy_after s) (bad_place x.members bad)
setup-in-keeps x phase.Closed good bad = refl
setup-in-keeps x (phase.Wanted s) good bad = refl
setup-in-keeps x (phase.Stamped s stamp) good bad = refl
setup-in-keeps x (phase.Accepted s stamp) good bad = refl
setup-in-keeps x phase.Opened good bad = refl
setup-in-keeps x (phase.Streaming sent) good bad = refl
setup-in-keeps x phase.Closing good bad = refl
setup-in-keeps x phase.Finished good bad = refl
setup-in-keeps x phase.Completed good bad = refl
setup-in-keeps x (phase.Failed f) good bad = refl

pub setup-keeps : (x : WriterRecord) (r : Response) (bad : Option NodeId) → Keeps x (setup_answered x r bad)
unfolding setup_answered
setup-keeps x r bad = setup-in-keeps x x.phase (is_success r.status) bad

pub hears-keeps : (x : WriterRecord) (n : Next) → Keeps x (writer_hears x n)
hears-keeps x (message (request r)) = ended-keeps x
hears-keeps x (message (packet p)) = ended-keeps x
hears-keeps x (message (ack a)) = acked-keeps x a
hears-keeps x (message (response r)) = setup-keeps x r (named_member x.members r.first_bad)
hears-keeps x (message (read_status s)) = ended-keeps x
hears-keeps x (message (recovery_answer a)) = ended-keeps x
hears-keeps x the_end = ended-keeps x

dialled-in-keeps : (x : WriterRecord) (p : Phase) (answered : Bool) → Keeps x (dialled_in x p answered)
dialled-in-keeps x (phase.Stamped s stamp) true = refl
dialled-in-keeps x (phase.Stamped s stamp) false = fail-keeps x (remedy_after s) 0
dialled-in-keeps x phase.Closed answered = refl
dialled-in-keeps x (phase.Wanted s) answered = refl
dialled-in-keeps x (phase.Requested s stamp) answered = refl
dialled-in-keeps x (phase.Accepted s stamp) answered = refl
dialled-in-keeps x phase.Opened answered = refl
dialled-in-keeps x (phase.Streaming sent) answered = refl
dialled-in-keeps x phase.Closing answered = refl
dialled-in-keeps x phase.Finished answered = refl
dialled-in-keeps x phase.Completed answered = refl
dialled-in-keeps x (phase.Failed f) answered = refl

pub dialled-keeps : (x : WriterRecord) (answered : Bool) → Keeps x (dialled x answered)
unfolding dialled
dialled-keeps x answered = dialled-in-keeps x x.phase answered

-- ANSWERS OF THE OFFICE

refused-as-keeps : (x : WriterRecord) (e : OfficeFault) → Keeps x (refused x e)
refused-as-keeps x fault.Memory = refl
refused-as-keeps x (fault.LeaseLost recovery) = refl
refused-as-keeps x fault.Known = refl
refused-as-keeps x fault.Unknown = refl
refused-as-keeps x fault.NotOpen = refl
refused-as-keeps x fault.NotClosed = refl
refused-as-keeps x (fault.OldStamp committed) = refl
refused-as-keeps x (fault.OldRecovery latest) = refl
refused-as-keeps x (fault.TooLong bytes) = refl

stamped-keeps : (x : WriterRecord) (s : Setup) (t : Stamp) → Keeps x (stamped x s t)
stamped-keeps x setup.Create t = refl
stamped-keeps x setup.Append t = refl
stamped-keeps x setup.AppendRecovery t = refl
stamped-keeps x setup.StreamRecovery t = refl
stamped-keeps x setup.CloseRecovery t = refl

reopened-keeps : (x : WriterRecord) (s : Setup) (r : Reopened) → Keeps x (reopened x s r)
reopened-keeps x setup.Create r = refl
reopened-keeps x setup.Append r = if-each (λ (y : WriterRecord). Keeps x y) (nat_le r.length MAX_APPEND_LENGTH) _ x (λ _. refl) (λ _. refl)
reopened-keeps x setup.AppendRecovery r = refl
reopened-keeps x setup.StreamRecovery r = refl
reopened-keeps x setup.CloseRecovery r = refl

given-stamp-keeps : (x : WriterRecord) (s : Setup) (a : OfficeAnswer) → Keeps x (stamp_given x s a)
given-stamp-keeps x s (office.Stamp t) = stamped-keeps x s t
given-stamp-keeps x s (office.Reopened r) = reopened-keeps x s r
given-stamp-keeps x s (office.Begun r) = refl
given-stamp-keeps x s office.Nothing = refl

committed-keeps : (x : WriterRecord) (s : Setup) (t : Stamp) → Keeps x (committed_as x s t)
committed-keeps x setup.Create t = refl
committed-keeps x setup.Append t = refl
committed-keeps x setup.AppendRecovery t = refl
committed-keeps x setup.StreamRecovery t = refl
committed-keeps x setup.CloseRecovery t = refl

commit-keeps : (x : WriterRecord) (s : Setup) (t : Stamp) (a : OfficeAnswer) → Keeps x (commit_given x s t a)
commit-keeps x s t office.Nothing = committed-keeps x s t
commit-keeps x s t (office.Stamp u) = refl
commit-keeps x s t (office.Reopened r) = refl
commit-keeps x s t (office.Begun r) = refl

complete-keeps : (x : WriterRecord) (a : OfficeAnswer) → Keeps x (complete_given x a)
complete-keeps x office.Nothing = refl
complete-keeps x (office.Stamp u) = refl
complete-keeps x (office.Reopened r) = refl
complete-keeps x (office.Begun r) = refl

granted-in-keeps : (x : WriterRecord) (p : Phase) (a : OfficeAnswer) → Keeps x (granted_in x p a)
granted-in-keeps x (phase.Wanted s) a = given-stamp-keeps x s a
granted-in-keeps x (phase.Accepted s t) a = commit-keeps x s t a
granted-in-keeps x phase.Finished a = complete-keeps x a
granted-in-keeps x phase.Closed a = refl
granted-in-keeps x (phase.Stamped s t) a = refl
granted-in-keeps x (phase.Requested s t) a = refl
granted-in-keeps x phase.Opened a = refl
granted-in-keeps x (phase.Streaming sent) a = refl
granted-in-keeps x phase.Closing a = refl
granted-in-keeps x phase.Completed a = refl
granted-in-keeps x (phase.Failed f) a = refl

granted-as-keeps : (x : WriterRecord) (r : Result OfficeAnswer OfficeFault) → Keeps x (granted_as x r)
granted-as-keeps x (Ok a) = granted-in-keeps x x.phase a
granted-as-keeps x (Err e) = if-each (λ (y : WriterRecord). Keeps x y) (asks x.phase) (refused x e) x (λ _. refused-as-keeps x e) (λ _. refl)

pub granted-keeps : (x : WriterRecord) (r : Result OfficeAnswer OfficeFault) → Keeps x (granted x r)
unfolding granted
granted-keeps x r = granted-as-keeps x r
