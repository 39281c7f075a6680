-- Where a writer is after what happens to it: whether it waits on the connection of a setup, or has a stamp to use.
use Rattle.std.proofs.Common.{◌≡◌, ℕ, Bool, true, false, List, [], ◌∷◌, slice_get, if◌then◌else◌, Option, Some, None, Result, Ok, Err, refl}
use Rattle.std.specs.Prelude.{nat_le}
use Rattle.hd_base.specs.declared.numbers.NodeId.{NodeId}
use Rattle.hd_base.specs.declared.numbers.Stamp.{Stamp}
use Rattle.ack_codec.specs.declared.acks.Ack.{Ack}
use Rattle.ack_codec.specs.declared.responses.Response.{Response}
use Rattle.pipe_recovery.specs.LinkMessages.Next.{Next}
use Rattle.pipe_recovery.specs.LinkMessages.Next.TheVariants as came
use Rattle.name_core.specs.declared.calls.OfficeAnswer.{OfficeAnswer}
use Rattle.name_core.specs.declared.calls.OfficeAnswer.TheVariants as office
use Rattle.name_core.specs.declared.calls.Reopened.{Reopened}
use Rattle.name_core.specs.declared.faults.OfficeFault.{OfficeFault}
use Rattle.name_core.specs.declared.faults.OfficeFault.TheVariants as office_fault
use Rattle.name_core.specs.declared.records.TheConstants.{MAX_APPEND_LENGTH}
use Rattle.packet_codec.specs.declared.packets.Packet.{Packet}
use Rattle.pipe_recovery.specs.declared.hearing.Answer.{Answer}
use Rattle.pipe_recovery.specs.declared.hearing.Answer.TheVariants as answer
use Rattle.pipe_recovery.specs.Hearing.{told}
use Rattle.pipe_recovery.specs.Steps.{is_stamped}
use Rattle.writer_core.specs.declared.commands.Command.{Command}
use Rattle.writer_core.specs.declared.commands.Command.TheVariants as command
use Rattle.writer_core.specs.declared.phases.DuePacket.{DuePacket}
use Rattle.writer_core.specs.declared.phases.DuePacket.TheVariants as due
use Rattle.writer_core.specs.declared.phases.Failure.{Failure}
use Rattle.writer_core.specs.declared.phases.Phase.{Phase}
use Rattle.writer_core.specs.declared.phases.Phase.TheVariants as phase
use Rattle.writer_core.specs.declared.phases.Remedy.{Remedy}
use Rattle.writer_core.specs.declared.phases.Remedy.TheVariants as remedy
use Rattle.writer_core.specs.declared.phases.Setup.{Setup}
use Rattle.writer_core.specs.declared.phases.Setup.TheVariants as setup
use Rattle.writer_core.specs.declared.phases.Verdict.{Verdict}
use Rattle.writer_core.specs.declared.phases.Verdict.TheVariants as verdict
use Rattle.writer_core.specs.declared.phases.Waiting.{Waiting}
use Rattle.writer_core.specs.declared.records.WriterRecord.{WriterRecord}
use Rattle.writer_core.specs.Phases.{remedy_after, remedy_in, remedy_at_ack, is_success, bad_place, without}
use Rattle.writer_core.specs.Transitions.{own_step, step_in, taken_as, take_first, free_step, free_step_as, reach_step_as, reached_length, due_step, due_now, stream_step_as, failed_first, failed_step_as, dial_step_as, fail_for, fail_named, fail_at, dropped, ended, ended_as, phase_acked, acked, acked_as, acked_in, setup_answered, setup_answered_in, granted, granted_as, granted_in, refused, asks, stamped, reopened, stamp_given, committed_as, commit_given, complete_given}
use Rattle.client_events.specs.Hearing.{told_of}
use Rattle.client_events.specs.Showing.{awaits}

-- FAILURES

dropped_free : (x : WriterRecord) (s : Setup) (bad : NodeId) (ns : List NodeId) → (awaits (dropped x s bad ns).phase ≡ false) × (is_stamped (dropped x s bad ns).phase ≡ false)
dropped_free x s bad [] = (refl, refl)
dropped_free x s bad (n ∷ ns) = (refl, refl)

fail_for_free : (x : WriterRecord) (r : Remedy) (bad : NodeId) → (awaits (fail_for x r bad).phase ≡ false) × (is_stamped (fail_for x r bad).phase ≡ false)
fail_for_free x remedy.Abandon bad = (refl, refl)
fail_for_free x (remedy.Recover s) bad = dropped_free x s bad (without x.members bad)

-- A pipeline that failed leaves the writer as it is, or where it waits for nothing.
fail_named_free : (q : Phase → Bool) (x : WriterRecord) (r : Remedy) (bad : Option NodeId) → ((b : NodeId) → q (fail_for x r b).phase ≡ false) → q x.phase ≡ false → q (fail_named x r bad).phase ≡ false
fail_named_free q x r None f h = h
fail_named_free q x r (Some b) f h = f b

fail_free : (x : WriterRecord) (r : Remedy) (place : ℕ) → awaits x.phase ≡ false → awaits (fail_at x r place).phase ≡ false
fail_free x r place h = fail_named_free awaits x r (slice_get x.members place) (λ b. (fail_for_free x r b).0) h

fail_unstamped : (x : WriterRecord) (r : Remedy) (place : ℕ) → is_stamped x.phase ≡ false → is_stamped (fail_at x r place).phase ≡ false
fail_unstamped x r place h = fail_named_free is_stamped x r (slice_get x.members place) (λ b. (fail_for_free x r b).1) h

-- ACKS AND ENDS

ended_free_as : (x : WriterRecord) (r : Option Remedy) → awaits x.phase ≡ false → awaits (ended_as x r).phase ≡ false
ended_free_as x None h = h
ended_free_as x (Some r) h = fail_free x r 0 h

pub ended_free : (x : WriterRecord) → awaits x.phase ≡ false → awaits (ended x).phase ≡ false
unfolding ended
ended_free x h = ended_free_as x (remedy_in x.phase) h

ended_unstamped_as : (x : WriterRecord) (r : Option Remedy) → is_stamped x.phase ≡ false → is_stamped (ended_as x r).phase ≡ false
ended_unstamped_as x None h = h
ended_unstamped_as x (Some r) h = fail_unstamped x r 0 h

pub ended_unstamped : (x : WriterRecord) → is_stamped x.phase ≡ false → is_stamped (ended x).phase ≡ false
unfolding ended
ended_unstamped x h = ended_unstamped_as x (remedy_in x.phase) h

acked_phase_free : (last : Bool) (p : Phase) → awaits p ≡ false → awaits (phase_acked last p) ≡ false
acked_phase_free true p h = refl
acked_phase_free false (phase.Streaming sent) h = refl
acked_phase_free false p h = h

acked_free_as : (x : WriterRecord) (r : Remedy) (v : Verdict) → awaits x.phase ≡ false → awaits (acked_as x r v).phase ≡ false
acked_free_as x r verdict.Good h = acked_phase_free _ x.phase h
acked_free_as x r (verdict.Bad place) h = fail_free x r place h

acked_free_in : (x : WriterRecord) (a : Ack) (r : Option Remedy) → awaits x.phase ≡ false → awaits (acked_in x a r).phase ≡ false
acked_free_in x a None h = h
acked_free_in x a (Some r) h = acked_free_as x r _ h

acked_free : (x : WriterRecord) (a : Ack) → awaits x.phase ≡ false → awaits (acked x a).phase ≡ false
unfolding acked
acked_free x a h = acked_free_in x a (remedy_at_ack x.phase) h

pub told_of_free : (x : WriterRecord) (n : Next Ack) → awaits x.phase ≡ false → awaits (told_of x n).phase ≡ false
told_of_free x (came.Message a) h = acked_free x a h
told_of_free x came.Unreadable h = ended_free x h
told_of_free x came.End h = ended_free x h
told_of_free x came.NotYet h = h
told_of_free x came.Failed h = h
told_of_free x came.Memory h = h

-- ANSWERS TO REQUESTS

answered_unstamped_in : (x : WriterRecord) (p : Phase) (good : Bool) (bad : Option NodeId) → is_stamped x.phase ≡ false → is_stamped (setup_answered_in x p good bad).phase ≡ false
answered_unstamped_in x (phase.Requested s stamp) true bad h = refl
answered_unstamped_in x (phase.Requested s stamp) false bad h = fail_unstamped x (remedy_after s) (bad_place x.members bad) h
answered_unstamped_in x p good bad h = h

answered_unstamped : (x : WriterRecord) (r : Response) (bad : Option NodeId) → is_stamped x.phase ≡ false → is_stamped (setup_answered x r bad).phase ≡ false
unfolding setup_answered
answered_unstamped x r bad h = answered_unstamped_in x x.phase (is_success r.status) bad h

pub told_unstamped : (x : WriterRecord) (a : Answer) → is_stamped x.phase ≡ false → is_stamped (told x a).phase ≡ false
told_unstamped x (answer.Given r) h = answered_unstamped x r _ h
told_unstamped x answer.Ended h = ended_unstamped x h

-- OWN STEPS

taken_quiet : (q : Phase → Bool) (x : WriterRecord) (c : Command) → ((s : Setup) → q (phase.Wanted s) ≡ false) → q x.phase ≡ false → q (taken_as x c).phase ≡ false
taken_quiet q x (command.Create members) w h = w setup.Create
taken_quiet q x (command.Append members) w h = w setup.Append
taken_quiet q x (command.Write bytes) w h = h
taken_quiet q x (command.Fill count) w h = h
taken_quiet q x command.Hflush w h = h
taken_quiet q x command.Hsync w h = h
taken_quiet q x command.Close w h = h

take_quiet : (q : Phase → Bool) (x : WriterRecord) (c : Option Command) → ((s : Setup) → q (phase.Wanted s) ≡ false) → q x.phase ≡ false → q (take_first x c).writer.phase ≡ false
take_quiet q x None w h = h
take_quiet q x (Some c) w h = taken_quiet q x c w h

free_quiet_as : (q : Phase → Bool) (x : WriterRecord) (a : Option Waiting) → ((s : Setup) → q (phase.Wanted s) ≡ false) → q x.phase ≡ false → q (free_step_as x a).writer.phase ≡ false
free_quiet_as q x None w h = take_quiet q x (slice_get x.queue 0) w h
free_quiet_as q x (Some a) w h = h

-- A writer that takes a command, or nothing, comes to where it was, or wants a pipeline.
pub free_quiet : (q : Phase → Bool) (x : WriterRecord) → ((s : Setup) → q (phase.Wanted s) ≡ false) → q x.phase ≡ false → q (free_step x).writer.phase ≡ false
free_quiet q x w h = free_quiet_as q x x.waiting w h

reach_free : (x : WriterRecord) (n : Option ℕ) → awaits x.phase ≡ false → awaits (reach_step_as x n).writer.phase ≡ false
reach_free x None h = free_quiet awaits x (λ s. refl) h
reach_free x (Some n) h = h

due_free : (x : WriterRecord) (d : Option DuePacket) → awaits x.phase ≡ false → awaits (due_step x d).writer.phase ≡ false
due_free x None h = reach_free x (reached_length x.waiting x.stream) h
due_free x (Some (due.Data end is_sync)) h = refl
due_free x (Some due.Sync) h = refl
due_free x (Some due.Last) h = refl

stream_free : (x : WriterRecord) (sent : ℕ) (p : Option Packet) → awaits x.phase ≡ false → awaits (stream_step_as x sent p).writer.phase ≡ false
stream_free x sent None h = due_free x (due_now x) h
stream_free x sent (Some p) h = refl

failed_free : (x : WriterRecord) (f : Failure) (c : Option Command) → awaits x.phase ≡ false → awaits (failed_first x f c).writer.phase ≡ false
failed_free x f None h = h
failed_free x f (Some (command.Append members)) h = refl
failed_free x f (Some c) h = h

failed_free_as : (x : WriterRecord) (f : Failure) (a : Option Waiting) → awaits x.phase ≡ false → awaits (failed_step_as x f a).writer.phase ≡ false
failed_free_as x f None h = failed_free x f (slice_get x.queue 0) h
failed_free_as x f (Some a) h = h

dial_free : (x : WriterRecord) (s : Setup) (stamp : Stamp) (ns : List NodeId) → awaits x.phase ≡ false → awaits (dial_step_as x s stamp ns).writer.phase ≡ false
dial_free x s stamp [] h = h
dial_free x s stamp (n ∷ ns) h = h

accepted_free : (x : WriterRecord) (s : Setup) (stamp : Stamp) → awaits x.phase ≡ false → awaits (step_in x (phase.Accepted s stamp)).writer.phase ≡ false
accepted_free x setup.Create stamp h = refl
accepted_free x setup.Append stamp h = h
accepted_free x setup.AppendRecovery stamp h = h
accepted_free x setup.StreamRecovery stamp h = h
accepted_free x setup.CloseRecovery stamp h = h

step_free_in : (x : WriterRecord) (p : Phase) → awaits x.phase ≡ false → awaits (step_in x p).writer.phase ≡ false
step_free_in x phase.Closed h = free_quiet awaits x (λ s. refl) h
step_free_in x (phase.Wanted s) h = h
step_free_in x (phase.Stamped s stamp) h = dial_free x s stamp x.members h
step_free_in x (phase.Requested s stamp) h = free_quiet awaits x (λ s. refl) h
step_free_in x (phase.Accepted s stamp) h = accepted_free x s stamp h
step_free_in x phase.Opened h = refl
step_free_in x (phase.Streaming sent) h = stream_free x sent (slice_get x.stream.unacked sent) h
step_free_in x phase.Closing h = free_quiet awaits x (λ s. refl) h
step_free_in x phase.Finished h = h
step_free_in x phase.Completed h = refl
step_free_in x (phase.Failed f) h = failed_free_as x f x.waiting h

-- A writer that doesn't wait on the connection of a setup doesn't so after its own step.
pub step_free : (x : WriterRecord) → awaits x.phase ≡ false → awaits (own_step x).writer.phase ≡ false
unfolding own_step
step_free x h = step_free_in x x.phase h

-- THE OFFICE

refused_quiet : (q : Phase → Bool) (x : WriterRecord) (e : OfficeFault) → ((f : Failure) → q (phase.Failed f) ≡ false) → q x.phase ≡ false → q (refused x e).phase ≡ false
refused_quiet q x office_fault.Memory w h = h
refused_quiet q x (office_fault.LeaseLost recovery) w h = w _
refused_quiet q x e w h = w _

stamped_free : (x : WriterRecord) (s : Setup) (stamp : Stamp) → awaits x.phase ≡ false → awaits (stamped x s stamp).phase ≡ false
stamped_free x setup.Create stamp h = refl
stamped_free x setup.Append stamp h = h
stamped_free x setup.AppendRecovery stamp h = refl
stamped_free x setup.StreamRecovery stamp h = refl
stamped_free x setup.CloseRecovery stamp h = refl

within_free : (x y : WriterRecord) (q : Bool) → awaits x.phase ≡ false → awaits y.phase ≡ false → awaits (if q then x else y).phase ≡ false
within_free x y true h k = h
within_free x y false h k = k

reopened_free : (x : WriterRecord) (s : Setup) (r : Reopened) → awaits x.phase ≡ false → awaits (reopened x s r).phase ≡ false
reopened_free x setup.Create r h = h
reopened_free x setup.Append r h = within_free _ x (nat_le r.length MAX_APPEND_LENGTH) refl h
reopened_free x setup.AppendRecovery r h = h
reopened_free x setup.StreamRecovery r h = h
reopened_free x setup.CloseRecovery r h = h

stamp_free : (x : WriterRecord) (s : Setup) (a : OfficeAnswer) → awaits x.phase ≡ false → awaits (stamp_given x s a).phase ≡ false
stamp_free x s (office.Stamp stamp) h = stamped_free x s stamp h
stamp_free x s (office.Reopened r) h = reopened_free x s r h
stamp_free x s a h = h

committed_quiet : (q : Phase → Bool) (x : WriterRecord) (s : Setup) (stamp : Stamp) → q phase.Opened ≡ false → q (phase.Streaming 0) ≡ false → q phase.Finished ≡ false → q x.phase ≡ false → q (committed_as x s stamp).phase ≡ false
committed_quiet q x setup.Create stamp a b e h = h
committed_quiet q x setup.Append stamp a b e h = a
committed_quiet q x setup.AppendRecovery stamp a b e h = a
committed_quiet q x setup.StreamRecovery stamp a b e h = b
committed_quiet q x setup.CloseRecovery stamp a b e h = e

commit_quiet : (q : Phase → Bool) (x : WriterRecord) (s : Setup) (stamp : Stamp) (o : OfficeAnswer) → q phase.Opened ≡ false → q (phase.Streaming 0) ≡ false → q phase.Finished ≡ false → q x.phase ≡ false → q (commit_given x s stamp o).phase ≡ false
commit_quiet q x s stamp office.Nothing a b e h = committed_quiet q x s stamp a b e h
commit_quiet q x s stamp o a b e h = h

complete_free : (x : WriterRecord) (a : OfficeAnswer) → awaits x.phase ≡ false → awaits (complete_given x a).phase ≡ false
complete_free x office.Nothing h = refl
complete_free x a h = h

granted_free_in : (x : WriterRecord) (p : Phase) (a : OfficeAnswer) → awaits x.phase ≡ false → awaits (granted_in x p a).phase ≡ false
granted_free_in x (phase.Wanted s) a h = stamp_free x s a h
granted_free_in x (phase.Accepted s stamp) a h = commit_quiet awaits x s stamp a refl refl refl h
granted_free_in x phase.Finished a h = complete_free x a h
granted_free_in x p a h = h

asked_quiet : (q : Phase → Bool) (x : WriterRecord) (e : OfficeFault) (b : Bool) → ((f : Failure) → q (phase.Failed f) ≡ false) → q x.phase ≡ false → q (if b then refused x e else x).phase ≡ false
asked_quiet q x e true w h = refused_quiet q x e w h
asked_quiet q x e false w h = h

granted_free_as : (x : WriterRecord) (r : Result OfficeAnswer OfficeFault) → awaits x.phase ≡ false → awaits (granted_as x r).phase ≡ false
granted_free_as x (Ok a) h = granted_free_in x x.phase a h
granted_free_as x (Err e) h = asked_quiet awaits x e (asks x.phase) (λ f. refl) h

-- A writer that doesn't wait on the connection of a setup doesn't so once the office answered.
pub granted_free : (x : WriterRecord) (r : Result OfficeAnswer OfficeFault) → awaits x.phase ≡ false → awaits (granted x r).phase ≡ false
unfolding granted
granted_free x r h = granted_free_as x r h

-- The office gives no stamp to a writer that wants none.
abbrev pub wants : Phase → Bool
wants (phase.Wanted s) = true
wants other = false

granted_unstamped_in : (x : WriterRecord) (p : Phase) (a : OfficeAnswer) → wants p ≡ false → is_stamped x.phase ≡ false → is_stamped (granted_in x p a).phase ≡ false
granted_unstamped_in x (phase.Wanted s) a w h = cc
granted_unstamped_in x (phase.Accepted s stamp) a w h = commit_quiet is_stamped x s stamp a refl refl refl h
granted_unstamped_in x phase.Finished office.Nothing w h = refl
granted_unstamped_in x phase.Finished a w h = h
granted_unstamped_in x p a w h = h

granted_unstamped_as : (x : WriterRecord) (r : Result OfficeAnswer OfficeFault) → wants x.phase ≡ false → is_stamped x.phase ≡ false → is_stamped (granted_as x r).phase ≡ false
granted_unstamped_as x (Ok a) w h = granted_unstamped_in x x.phase a w h
granted_unstamped_as x (Err e) w h = asked_quiet is_stamped x e (asks x.phase) (λ f. refl) h

pub granted_unstamped : (x : WriterRecord) (r : Result OfficeAnswer OfficeFault) → wants x.phase ≡ false → is_stamped x.phase ≡ false → is_stamped (granted x r).phase ≡ false
unfolding granted
granted_unstamped x r w h = granted_unstamped_as x r w h
