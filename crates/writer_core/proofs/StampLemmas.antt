-- The stamps that a writer names are the committed ones, which the office alone changes.
use Rattle.std.proofs.Common.{ℕ, ◌≡◌, nat_le, ◌⊎◌, inl, inr, Bool, true, false, List, [], ◌∷◌, length, slice_get, Option, Some, None, Result, Ok, Err, refl}
use Rattle.hd_base.specs.declared.numbers.NodeId.{NodeId}
use Rattle.hd_base.specs.declared.numbers.Stamp.{Stamp}
use Rattle.ack_codec.specs.declared.acks.Ack.{Ack}
use Rattle.name_core.specs.declared.calls.OfficeAnswer.{OfficeAnswer}
use Rattle.name_core.specs.declared.calls.OfficeAnswer.TheVariants as office
use Rattle.name_core.specs.declared.calls.Reopened.{Reopened}
use Rattle.name_core.specs.declared.faults.OfficeFault.{OfficeFault}
use Rattle.name_core.specs.declared.faults.OfficeFault.TheVariants as fault
use Rattle.name_core.specs.declared.records.TheConstants.{MAX_APPEND_LENGTH}
use Rattle.packet_codec.specs.declared.packets.Packet.{Packet}
use Rattle.packet_stream.specs.Streams.{oldest_seqno}
use Rattle.writer_core.specs.declared.actions.Action.TheVariants as action
use Rattle.writer_core.specs.declared.commands.Command.{Command}
use Rattle.writer_core.specs.declared.commands.Command.TheVariants as command
use Rattle.writer_core.specs.declared.commands.CommandFault.{CommandFault}
use Rattle.writer_core.specs.declared.intake.Intake.{Intake}
use Rattle.writer_core.specs.declared.phases.DuePacket.{DuePacket}
use Rattle.writer_core.specs.declared.phases.DuePacket.TheVariants as due
use Rattle.writer_core.specs.declared.phases.Failure.{Failure}
use Rattle.writer_core.specs.declared.phases.Failure.TheVariants as failure
use Rattle.writer_core.specs.declared.phases.Phase.{Phase}
use Rattle.writer_core.specs.declared.phases.Phase.TheVariants as phase
use Rattle.writer_core.specs.declared.phases.Remedy.{Remedy}
use Rattle.writer_core.specs.declared.phases.Remedy.TheVariants as remedy
use Rattle.writer_core.specs.declared.phases.Setup.{Setup}
use Rattle.writer_core.specs.declared.phases.Setup.TheVariants as setup
use Rattle.writer_core.specs.declared.phases.Verdict.{Verdict}
use Rattle.writer_core.specs.declared.phases.Verdict.TheVariants as verdict
use Rattle.writer_core.specs.declared.phases.Waiting.{Waiting}
use Rattle.writer_core.specs.declared.records.WriterRecord.{WriterRecord}
use Rattle.writer_core.specs.Commands.{admitted}
use Rattle.writer_core.specs.Phases.{remedy_after, remedy_in, remedy_at_ack, is_success, ack_verdict, bad_place, without}
use Rattle.writer_core.specs.Requests.{request_for}
use Rattle.writer_core.specs.Transitions.{ordinal, taken_as, take_first, free_step_as, failure_answer, failed_command, failed_first, failed_step_as, dial_step_as, accepted_step, due_now, form_step, reached_length, reach_step_as, due_step, stream_step_as, step_in, own_step, dropped, fail_named, fail_at, ended_as, ended, acked_as, acked_in, acked, setup_answered_in, setup_answered, dialled_in, dialled, refused, begin_session, stamped, reopened, stamp_given, committed_as, commit_given, complete_given, granted_in, asks, granted_as, granted, given_as}
use Rattle.writer_core.specs.Laws.{Gives, Steps, Grants, Dials, Answers, Acks, Ends, NamesCommitted, StampsAreCommitted, IsGiven, OnlyTheOfficeCommits}
use Rattle.writer_core.proofs.DueLemmas.{choice}

-- ---- what is named

first_names : (w : WriterRecord) (o : Option Command) → NamesCommitted w.committed (take_first w o).action
first_names w None = tt
first_names w (Some c) = tt

free_names : (w : WriterRecord) (x : Option Waiting) → NamesCommitted w.committed (free_step_as w x).action
free_names w None = first_names w (slice_get w.queue 0)
free_names w (Some x) = tt

failure_names : (g : Stamp) (i : ℕ) (f : Failure) → NamesCommitted g (action.Answered i (failure_answer f))
failure_names g i (failure.Abandoned m) = tt
failure_names g i (failure.AllBad m) = tt
failure_names g i (failure.Lost recovery) = tt
failure_names g i (failure.Refused e) = tt

failed_command_names : (w : WriterRecord) (f : Failure) (c : Command) → NamesCommitted w.committed (failed_command w f c).action
failed_command_names w f (command.Append members) = tt
failed_command_names w f c = failure_names w.committed w.taken f

failed_first_names : (w : WriterRecord) (f : Failure) (o : Option Command) → NamesCommitted w.committed (failed_first w f o).action
failed_first_names w f None = tt
failed_first_names w f (Some c) = failed_command_names w f c

failed_names : (w : WriterRecord) (f : Failure) (x : Option Waiting) → NamesCommitted w.committed (failed_step_as w f x).action
failed_names w f None = failed_first_names w f (slice_get w.queue 0)
failed_names w f (Some x) = failure_names w.committed (ordinal w) f

dial_names : (w : WriterRecord) (u : Setup) (stamp : Stamp) (members : List NodeId) → NamesCommitted w.committed (dial_step_as w u stamp members).action
unfolding request_for
dial_names w u stamp [] = tt
dial_names w u stamp (m ∷ ms) = refl

accepted_names : (w : WriterRecord) (u : Setup) (stamp : Stamp) → NamesCommitted w.committed (accepted_step w u stamp).action
accepted_names w setup.Create stamp = refl
accepted_names w setup.Append stamp = tt
accepted_names w setup.AppendRecovery stamp = tt
accepted_names w setup.StreamRecovery stamp = tt
accepted_names w setup.CloseRecovery stamp = tt

form_names : (w : WriterRecord) (d : DuePacket) → NamesCommitted w.committed (form_step w d).action
form_names w (due.Data end b) = tt
form_names w due.Sync = tt
form_names w due.Last = tt

reach_names : (w : WriterRecord) (o : Option ℕ) → NamesCommitted w.committed (reach_step_as w o).action
reach_names w None = free_names w w.waiting
reach_names w (Some n) = refl

due_names : (w : WriterRecord) (o : Option DuePacket) → NamesCommitted w.committed (due_step w o).action
due_names w None = reach_names w (reached_length w.waiting w.stream)
due_names w (Some d) = form_names w d

stream_names : (w : WriterRecord) (sent : ℕ) (o : Option Packet) → NamesCommitted w.committed (stream_step_as w sent o).action
stream_names w sent None = due_names w (due_now w)
stream_names w sent (Some p) = tt

-- the call that gives a pipeline its stamp names none
asking_names : (w : WriterRecord) (u : Setup) → NamesCommitted w.committed (step_in w (phase.Wanted u)).action
asking_names w setup.Create = tt
asking_names w setup.Append = tt
asking_names w setup.AppendRecovery = tt
asking_names w setup.StreamRecovery = tt
asking_names w setup.CloseRecovery = tt

step_names : (w : WriterRecord) (p : Phase) → NamesCommitted w.committed (step_in w p).action
step_names w phase.Closed = free_names w w.waiting
step_names w (phase.Wanted u) = asking_names w u
step_names w (phase.Stamped u stamp) = dial_names w u stamp w.members
step_names w (phase.Requested u stamp) = free_names w w.waiting
step_names w (phase.Accepted u stamp) = accepted_names w u stamp
step_names w phase.Opened = refl
step_names w (phase.Streaming sent) = stream_names w sent (slice_get w.stream.unacked sent)
step_names w phase.Closing = free_names w w.waiting
step_names w phase.Finished = refl
step_names w phase.Completed = refl
step_names w (phase.Failed f) = failed_names w f w.waiting

pub stamps_are_committed : StampsAreCommitted
unfolding own_step
stamps_are_committed w = step_names w w.phase

-- ---- what changes the committed stamp

-- the same stamp is committed
abbrev Stays : WriterRecord → WriterRecord → Type 0
Stays w v = v.committed ≡ w.committed

dropped_stays : (w : WriterRecord) (u : Setup) (bad : NodeId) (left : List NodeId) → Stays w (dropped w u bad left)
dropped_stays w u bad [] = refl
dropped_stays w u bad (m ∷ ms) = refl

fail_named_stays : (w : WriterRecord) (r : Remedy) (o : Option NodeId) → Stays w (fail_named w r o)
fail_named_stays w r None = refl
fail_named_stays w remedy.Abandon (Some bad) = refl
fail_named_stays w (remedy.Recover u) (Some bad) = dropped_stays w u bad (without w.members bad)

fail_stays : (w : WriterRecord) (r : Remedy) (place : ℕ) → Stays w (fail_at w r place)
fail_stays w r place = fail_named_stays w r (slice_get w.members place)

ended_stays : (w : WriterRecord) (o : Option Remedy) → Stays w (ended_as w o)
ended_stays w None = refl
ended_stays w (Some r) = fail_stays w r 0

dialled_stays : (w : WriterRecord) (p : Phase) (b : Bool) → Stays w (dialled_in w p b)
dialled_stays w (phase.Stamped u stamp) true = refl
dialled_stays w (phase.Stamped u stamp) false = fail_stays w (remedy_after u) 0
dialled_stays w _ b = refl

setup_stays : (w : WriterRecord) (p : Phase) (good : Bool) (bad : Option NodeId) → Stays w (setup_answered_in w p good bad)
setup_stays w (phase.Requested u stamp) true bad = refl
setup_stays w (phase.Requested u stamp) false bad = fail_stays w (remedy_after u) (bad_place w.members bad)
setup_stays w _ good bad = refl

acked_as_stays : (w : WriterRecord) (r : Remedy) (v : Verdict) → Stays w (acked_as w r v)
acked_as_stays w r verdict.Good = refl
acked_as_stays w r (verdict.Bad place) = fail_stays w r place

acked_stays : (w : WriterRecord) (a : Ack) (o : Option Remedy) → Stays w (acked_in w a o)
acked_stays w a None = refl
acked_stays w a (Some r) = acked_as_stays w r (ack_verdict (oldest_seqno w.stream) (length w.members) a)

given_stays : (w : WriterRecord) (c : Command) (r : Result Intake CommandFault) → Stays w (given_as w c r)
given_stays w c (Ok i) = refl
given_stays w c (Err e) = refl

taken_stays : (w : WriterRecord) (c : Command) → Stays w (taken_as w c)
taken_stays w (command.Create members) = refl
taken_stays w (command.Append members) = refl
taken_stays w (command.Write bytes) = refl
taken_stays w (command.Fill count) = refl
taken_stays w command.Hflush = refl
taken_stays w command.Hsync = refl
taken_stays w command.Close = refl

first_stays : (w : WriterRecord) (o : Option Command) → Stays w (take_first w o).writer
first_stays w None = refl
first_stays w (Some c) = taken_stays w c

free_stays : (w : WriterRecord) (x : Option Waiting) → Stays w (free_step_as w x).writer
free_stays w None = first_stays w (slice_get w.queue 0)
free_stays w (Some x) = refl

failed_command_stays : (w : WriterRecord) (f : Failure) (c : Command) → Stays w (failed_command w f c).writer
failed_command_stays w f (command.Append members) = refl
failed_command_stays w f c = refl

failed_first_stays : (w : WriterRecord) (f : Failure) (o : Option Command) → Stays w (failed_first w f o).writer
failed_first_stays w f None = refl
failed_first_stays w f (Some c) = failed_command_stays w f c

failed_stays : (w : WriterRecord) (f : Failure) (x : Option Waiting) → Stays w (failed_step_as w f x).writer
failed_stays w f None = failed_first_stays w f (slice_get w.queue 0)
failed_stays w f (Some x) = refl

dial_stays : (w : WriterRecord) (u : Setup) (stamp : Stamp) (members : List NodeId) → Stays w (dial_step_as w u stamp members).writer
dial_stays w u stamp [] = refl
dial_stays w u stamp (m ∷ ms) = refl

accepted_stays : (w : WriterRecord) (u : Setup) (stamp : Stamp) → Stays w (accepted_step w u stamp).writer
accepted_stays w setup.Create stamp = refl
accepted_stays w _ stamp = refl

form_stays : (w : WriterRecord) (d : DuePacket) → Stays w (form_step w d).writer
form_stays w (due.Data end b) = refl
form_stays w due.Sync = refl
form_stays w due.Last = refl

reach_stays : (w : WriterRecord) (o : Option ℕ) → Stays w (reach_step_as w o).writer
reach_stays w None = free_stays w w.waiting
reach_stays w (Some n) = refl

due_stays : (w : WriterRecord) (o : Option DuePacket) → Stays w (due_step w o).writer
due_stays w None = reach_stays w (reached_length w.waiting w.stream)
due_stays w (Some d) = form_stays w d

stream_stays : (w : WriterRecord) (sent : ℕ) (o : Option Packet) → Stays w (stream_step_as w sent o).writer
stream_stays w sent None = due_stays w (due_now w)
stream_stays w sent (Some p) = refl

step_stays : (w : WriterRecord) (p : Phase) → Stays w (step_in w p).writer
step_stays w phase.Closed = free_stays w w.waiting
step_stays w (phase.Wanted u) = refl
step_stays w (phase.Stamped u stamp) = dial_stays w u stamp w.members
step_stays w (phase.Requested u stamp) = free_stays w w.waiting
step_stays w (phase.Accepted u stamp) = accepted_stays w u stamp
step_stays w phase.Opened = refl
step_stays w (phase.Streaming sent) = stream_stays w sent (slice_get w.stream.unacked sent)
step_stays w phase.Closing = free_stays w w.waiting
step_stays w phase.Finished = refl
step_stays w phase.Completed = refl
step_stays w (phase.Failed f) = failed_stays w f w.waiting

-- ---- what the office answers

refused_stays : (w : WriterRecord) (e : OfficeFault) → Stays w (refused w e)
refused_stays w fault.Memory = refl
refused_stays w (fault.LeaseLost recovery) = refl
refused_stays w e = refl

refusal_stays : (w : WriterRecord) (e : OfficeFault) → Stays w (granted_as w (Err e))
refusal_stays w e = choice (λ v. Stays w v) (asks w.phase) (refused w e) w (λ _. refused_stays w e) (λ _. refl)

-- the same, or the office gave it
abbrev Follows : WriterRecord → Phase → OfficeAnswer → WriterRecord → Type 0
Follows w p a v = (v.committed ≡ w.committed) ⊎ IsGiven p (Grants (Ok a)) v.committed

stamp_follows : (w : WriterRecord) (p : Phase) (u : Setup) (stamp : Stamp) → Follows w p (office.Stamp stamp) (stamped w u stamp)
stamp_follows w p setup.Create stamp = inr refl
stamp_follows w p setup.Append stamp = inl refl
stamp_follows w p setup.AppendRecovery stamp = inl refl
stamp_follows w p setup.StreamRecovery stamp = inl refl
stamp_follows w p setup.CloseRecovery stamp = inl refl

reopened_follows : (w : WriterRecord) (p : Phase) (u : Setup) (r : Reopened) → Follows w p (office.Reopened r) (reopened w u r)
reopened_follows w p setup.Append r =
    choice (λ v. Follows w p (office.Reopened r) v) (nat_le r.length MAX_APPEND_LENGTH)
    (record (begin_session w r.committed r.length) { phase = phase.Stamped setup.Append r.new }) w (λ _. inr refl) (λ _. inl refl)
reopened_follows w p _ r = inl refl

wanted_follows : (w : WriterRecord) (p : Phase) (u : Setup) (a : OfficeAnswer) → Follows w p a (stamp_given w u a)
wanted_follows w p u (office.Stamp stamp) = stamp_follows w p u stamp
wanted_follows w p u (office.Reopened r) = reopened_follows w p u r
wanted_follows w p u _ = inl refl

committed_follows : (w : WriterRecord) (u : Setup) (stamp : Stamp) → Follows w (phase.Accepted u stamp) office.Nothing (committed_as w u stamp)
committed_follows w setup.Create stamp = inl refl
committed_follows w setup.Append stamp = inr refl
committed_follows w setup.AppendRecovery stamp = inr refl
committed_follows w setup.StreamRecovery stamp = inr refl
committed_follows w setup.CloseRecovery stamp = inr refl

commit_follows : (w : WriterRecord) (u : Setup) (stamp : Stamp) (a : OfficeAnswer) → Follows w (phase.Accepted u stamp) a (commit_given w u stamp a)
commit_follows w u stamp office.Nothing = committed_follows w u stamp
commit_follows w u stamp _ = inl refl

complete_stays : (w : WriterRecord) (a : OfficeAnswer) → Stays w (complete_given w a)
complete_stays w office.Nothing = refl
complete_stays w _ = refl

granted_follows : (w : WriterRecord) (p : Phase) (a : OfficeAnswer) → Follows w p a (granted_in w p a)
granted_follows w (phase.Wanted u) a = wanted_follows w (phase.Wanted u) u a
granted_follows w (phase.Accepted u stamp) a = commit_follows w u stamp a
granted_follows w phase.Finished a = inl (complete_stays w a)
granted_follows w _ a = inl refl

grants_follow : (w : WriterRecord) (r : Result OfficeAnswer OfficeFault)
    → ((granted_as w r).committed ≡ w.committed) ⊎ IsGiven w.phase (Grants r) (granted_as w r).committed
grants_follow w (Ok a) = granted_follows w w.phase a
grants_follow w (Err e) = inl (refusal_stays w e)

pub only_the_office_commits : OnlyTheOfficeCommits
unfolding own_step granted dialled setup_answered acked ended
only_the_office_commits w (Gives c) = inl (given_stays w c (admitted w.intake c))
only_the_office_commits w Steps = inl (step_stays w w.phase)
only_the_office_commits w (Grants r) = grants_follow w r
only_the_office_commits w (Dials b) = inl (dialled_stays w w.phase b)
only_the_office_commits w (Answers r bad) = inl (setup_stays w w.phase (is_success r.status) bad)
only_the_office_commits w (Acks a) = inl (acked_stays w a (remedy_at_ack w.phase))
only_the_office_commits w Ends = inl (ended_stays w (remedy_in w.phase))
