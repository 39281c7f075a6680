-- The stamp of an append's pipeline is later than the committed one: what each call makes of a writer.
use Rattle.std.proofs.Common.{ℕ, ◌<◌, Bool, true, false, List, [], ◌∷◌, slice_get, Option, Some, None, Result, Ok, Err}
use Rattle.hd_base.specs.declared.numbers.NodeId.{NodeId}
use Rattle.hd_base.specs.declared.numbers.Stamp.{Stamp}
use Rattle.hd_base.specs.SumRules.{Rule}
use Rattle.ack_codec.specs.declared.acks.Ack.{Ack}
use Rattle.name_core.specs.declared.calls.OfficeAnswer.TheVariants as office
use Rattle.packet_codec.specs.declared.packets.Packet.{Packet}
use Rattle.packet_stream.specs.Streams.{oldest_is_last}
use Rattle.writer_core.specs.declared.commands.Command.{Command}
use Rattle.writer_core.specs.declared.commands.Command.TheVariants as command
use Rattle.writer_core.specs.declared.commands.CommandFault.{CommandFault}
use Rattle.writer_core.specs.declared.intake.Intake.{Intake}
use Rattle.writer_core.specs.declared.phases.DuePacket.{DuePacket}
use Rattle.writer_core.specs.declared.phases.DuePacket.TheVariants as due
use Rattle.writer_core.specs.declared.phases.Failure.{Failure}
use Rattle.writer_core.specs.declared.phases.Phase.{Phase}
use Rattle.writer_core.specs.declared.phases.Phase.TheVariants as phase
use Rattle.writer_core.specs.declared.phases.Remedy.{Remedy}
use Rattle.writer_core.specs.declared.phases.Remedy.TheVariants as remedy
use Rattle.writer_core.specs.declared.phases.Setup.{Setup}
use Rattle.writer_core.specs.declared.phases.Setup.TheVariants as setup
use Rattle.writer_core.specs.declared.phases.Verdict.{Verdict}
use Rattle.writer_core.specs.declared.phases.Verdict.TheVariants as verdict
use Rattle.writer_core.specs.declared.phases.Waiting.{Waiting}
use Rattle.writer_core.specs.declared.records.WriterRecord.{WriterRecord}
use Rattle.writer_core.specs.Commands.{admitted}
use Rattle.writer_core.specs.Phases.{remedy_after, remedy_in, remedy_at_ack, is_success, bad_place, without}
use Rattle.writer_core.specs.Transitions.{given_as, given, taken_as, take_first, free_step_as, failed_command, failed_first, failed_step_as, dial_step_as, accepted_step, due_now, reached_length, reach_step_as, due_step, stream_step_as, step_in, own_step, dropped, fail_named, fail_at, ended_as, ended, phase_acked, acked_as, acked_in, acked, setup_answered_in, setup_answered}
use Rattle.world.specs.Parts.{request, packet, ack, response, read_status, recovery_answer, Told}
use Rattle.world.specs.Connections.{Next, message, the_end}
use Rattle.world.specs.Clients.{ruled, named_member, writer_hears}

-- in a phase in which an append's pipeline is set up
abbrev pub RisesIn : Stamp → Phase → Type 0
RisesIn k (phase.Stamped setup.Append t) = k.0 < t.0
RisesIn k (phase.Requested setup.Append t) = k.0 < t.0
RisesIn k (phase.Accepted setup.Append t) = k.0 < t.0
RisesIn k other = Unit {0}

abbrev pub Rises : WriterRecord → Type 0
Rises x = RisesIn x.committed x.phase

-- an answer that opens the block again has a later stamp than the committed one
abbrev pub ToldRises : Option Told → Type 0
ToldRises (Some (Ok (office.Reopened r))) = r.committed.0 < r.new.0
ToldRises other = Unit {0}

-- THE OWN STEP

taken-rises : (x : WriterRecord) (c : Command) → Rises x → Rises (taken_as x c)
taken-rises x (command.Create ms) h = tt
taken-rises x (command.Append ms) h = tt
taken-rises x (command.Write bytes) h = h
taken-rises x (command.Fill n) h = h
taken-rises x command.Hflush h = h
taken-rises x command.Hsync h = h
taken-rises x command.Close h = h

first-rises : (x : WriterRecord) (o : Option Command) → Rises x → Rises (take_first x o).writer
first-rises x None h = h
first-rises x (Some c) h = taken-rises x c h

free-rises : (x : WriterRecord) (o : Option Waiting) → Rises x → Rises (free_step_as x o).writer
free-rises x None h = first-rises x (slice_get x.queue 0) h
free-rises x (Some y) h = h

failed-rises : (x : WriterRecord) (f : Failure) (c : Command) → Rises x → Rises (failed_command x f c).writer
failed-rises x f (command.Append ms) h = tt
failed-rises x f (command.Create ms) h = h
failed-rises x f (command.Write bytes) h = h
failed-rises x f (command.Fill n) h = h
failed-rises x f command.Hflush h = h
failed-rises x f command.Hsync h = h
failed-rises x f command.Close h = h

failed-first-rises : (x : WriterRecord) (f : Failure) (o : Option Command) → Rises x → Rises (failed_first x f o).writer
failed-first-rises x f None h = h
failed-first-rises x f (Some c) h = failed-rises x f c h

failed-step-rises : (x : WriterRecord) (f : Failure) (o : Option Waiting) → Rises x → Rises (failed_step_as x f o).writer
failed-step-rises x f None h = failed-first-rises x f (slice_get x.queue 0) h
failed-step-rises x f (Some y) h = h

dial-rises : (x : WriterRecord) (s : Setup) (stamp : Stamp) (ms : List NodeId) → Rises x → Rises (dial_step_as x s stamp ms).writer
dial-rises x s stamp [] h = h
dial-rises x s stamp (m ∷ ms) h = h

accepted-rises : (x : WriterRecord) (s : Setup) (stamp : Stamp) → Rises x → Rises (accepted_step x s stamp).writer
accepted-rises x setup.Create stamp h = tt
accepted-rises x setup.Append stamp h = h
accepted-rises x setup.AppendRecovery stamp h = h
accepted-rises x setup.StreamRecovery stamp h = h
accepted-rises x setup.CloseRecovery stamp h = h

reach-rises : (x : WriterRecord) (o : Option ℕ) → Rises x → Rises (reach_step_as x o).writer
reach-rises x (Some n) h = h
reach-rises x None h = free-rises x x.waiting h

due-rises : (x : WriterRecord) (o : Option DuePacket) → Rises x → Rises (due_step x o).writer
due-rises x (Some (due.Data end is_sync)) h = tt
due-rises x (Some due.Sync) h = tt
due-rises x (Some due.Last) h = tt
due-rises x None h = reach-rises x (reached_length x.waiting x.stream) h

stream-rises : (x : WriterRecord) (sent : ℕ) (o : Option Packet) → Rises x → Rises (stream_step_as x sent o).writer
stream-rises x sent (Some p) h = tt
stream-rises x sent None h = due-rises x (due_now x) h

step-rises : (x : WriterRecord) (q : Phase) → Rises x → Rises (step_in x q).writer
step-rises x phase.Closed h = free-rises x x.waiting h
step-rises x (phase.Wanted s) h = h
step-rises x (phase.Stamped s stamp) h = dial-rises x s stamp x.members h
step-rises x (phase.Requested s stamp) h = free-rises x x.waiting h
step-rises x (phase.Accepted s stamp) h = accepted-rises x s stamp h
step-rises x phase.Opened h = tt
step-rises x (phase.Streaming sent) h = stream-rises x sent (slice_get x.stream.unacked sent) h
step-rises x phase.Closing h = free-rises x x.waiting h
step-rises x phase.Finished h = h
step-rises x phase.Completed h = tt
step-rises x (phase.Failed f) h = failed-step-rises x f x.waiting h

pub own-rises : (x : WriterRecord) → Rises x → Rises (own_step x).writer
unfolding own_step
own-rises x h = step-rises x x.phase h

given-as-rises : (x : WriterRecord) (c : Command) (r : Result Intake CommandFault) → Rises x → Rises (given_as x c r)
given-as-rises x c (Ok i) h = h
given-as-rises x c (Err e) h = h

pub given-rises : (x : WriterRecord) (c : Command) → Rises x → Rises (given x c)
given-rises x c h = given-as-rises x c (admitted x.intake c) h

pub ruled-rises : (x : WriterRecord) (c : Command) (r : Rule) → Rises x → Rises (ruled x c r)
ruled-rises x (command.Create ms) r h = h
ruled-rises x (command.Append ms) r h = h
ruled-rises x (command.Write bytes) r h = h
ruled-rises x (command.Fill n) r h = h
ruled-rises x command.Hflush r h = h
ruled-rises x command.Hsync r h = h
ruled-rises x command.Close r h = h

-- FAILURES

dropped-rises : (x : WriterRecord) (s : Setup) (bad : NodeId) (ms : List NodeId) → Rises (dropped x s bad ms)
dropped-rises x s bad [] = tt
dropped-rises x s bad (m ∷ ms) = tt

named-rises : (x : WriterRecord) (r : Remedy) (o : Option NodeId) → Rises x → Rises (fail_named x r o)
named-rises x r None h = h
named-rises x remedy.Abandon (Some bad) h = tt
named-rises x (remedy.Recover s) (Some bad) h = dropped-rises x s bad (without x.members bad)

pub fail-rises : (x : WriterRecord) (r : Remedy) (place : ℕ) → Rises x → Rises (fail_at x r place)
fail-rises x r place h = named-rises x r (slice_get x.members place) h

ended-as-rises : (x : WriterRecord) (o : Option Remedy) → Rises x → Rises (ended_as x o)
ended-as-rises x None h = h
ended-as-rises x (Some r) h = fail-rises x r 0 h

ended-rises : (x : WriterRecord) → Rises x → Rises (ended x)
unfolding ended
ended-rises x h = ended-as-rises x (remedy_in x.phase) h

-- ANSWERS AND ACKS

-- of a setup with the same stamp
requested-to : (k : Stamp) (s : Setup) (t : Stamp) → RisesIn k (phase.Requested s t) → RisesIn k (phase.Accepted s t)
requested-to k setup.Create t h = tt
requested-to k setup.Append t h = h
requested-to k setup.AppendRecovery t h = tt
requested-to k setup.StreamRecovery t h = tt
requested-to k setup.CloseRecovery t h = tt

pub stamped-to : (k : Stamp) (s : Setup) (t : Stamp) → RisesIn k (phase.Stamped s t) → RisesIn k (phase.Requested s t)
stamped-to k setup.Create t h = tt
stamped-to k setup.Append t h = h
stamped-to k setup.AppendRecovery t h = tt
stamped-to k setup.StreamRecovery t h = tt
stamped-to k setup.CloseRecovery t h = tt

answered-rises : (x : WriterRecord) (q : Phase) (good : Bool) (bad : Option NodeId) → RisesIn x.committed q → Rises x → Rises (setup_answered_in x q good bad)
answered-rises x (phase.Requested s t) true bad k h = requested-to x.committed s t k
answered-rises x (phase.Requested s t) false bad k h = fail-rises x (remedy_after s) (bad_place x.members bad) h
answered-rises x phase.Closed good bad k h = h
answered-rises x (phase.Wanted s) good bad k h = h
answered-rises x (phase.Stamped s t) good bad k h = h
answered-rises x (phase.Accepted s t) good bad k h = h
answered-rises x phase.Opened good bad k h = h
answered-rises x (phase.Streaming n) good bad k h = h
answered-rises x phase.Closing good bad k h = h
answered-rises x phase.Finished good bad k h = h
answered-rises x phase.Completed good bad k h = h
answered-rises x (phase.Failed f) good bad k h = h

phase-rises : (k : Stamp) (last : Bool) (q : Phase) → RisesIn k q → RisesIn k (phase_acked last q)
phase-rises k true q h = tt
phase-rises k false (phase.Streaming n) h = tt
phase-rises k false phase.Closed h = h
phase-rises k false (phase.Wanted s) h = h
phase-rises k false (phase.Stamped s t) h = h
phase-rises k false (phase.Requested s t) h = h
phase-rises k false (phase.Accepted s t) h = h
phase-rises k false phase.Opened h = h
phase-rises k false phase.Closing h = h
phase-rises k false phase.Finished h = h
phase-rises k false phase.Completed h = h
phase-rises k false (phase.Failed f) h = h

verdict-rises : (x : WriterRecord) (r : Remedy) (v : Verdict) → Rises x → Rises (acked_as x r v)
verdict-rises x r verdict.Good h = phase-rises x.committed (oldest_is_last x.stream) x.phase h
verdict-rises x r (verdict.Bad place) h = fail-rises x r place h

acked-rises : (x : WriterRecord) (a : Ack) (o : Option Remedy) → Rises x → Rises (acked_in x a o)
acked-rises x a None h = h
acked-rises x a (Some r) h = verdict-rises x r _ h

pub hears-rises : (x : WriterRecord) (n : Next) → Rises x → Rises (writer_hears x n)
unfolding setup_answered acked
hears-rises x (message (response r)) h = answered-rises x x.phase (is_success r.status) (named_member x.members r.first_bad) h h
hears-rises x (message (ack a)) h = acked-rises x a (remedy_at_ack x.phase) h
hears-rises x (message (request o)) h = ended-rises x h
hears-rises x (message (packet p)) h = ended-rises x h
hears-rises x (message (read_status s)) h = ended-rises x h
hears-rises x (message (recovery_answer a)) h = ended-rises x h
hears-rises x the_end h = ended-rises x h
