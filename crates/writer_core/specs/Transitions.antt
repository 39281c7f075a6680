-- What each call makes of a writer, and what its own step asks for. The writer's record holds: the block; what was given to it; the commands
-- given and not taken; how many were taken; the command that waits; the phase; the members of the pipeline that stands or is wanted; the
-- committed stamp; the stream of packets; and whether this create or append had an hsync.
use Rattle.std.specs.Prelude.{ℕ, ℤ, pos, ◌≡◌, ◌⊎◌, ◌==◌, ◌+◌, ◌-◌, ◌&&◌, nat_lt, nat_le, int_lt, if◌then◌else◌, Bool, true, false, List, [], ◌∷◌, ◌++◌, length, drop, slice_get, is_some, is_none, Option, Some, None, Result, Ok, Err}
use Rattle.hd_base.specs.declared.numbers.BlockId.{BlockId}
use Rattle.hd_base.specs.declared.numbers.NodeId.{NodeId}
use Rattle.hd_base.specs.declared.numbers.Stamp.{Stamp}
use Rattle.hd_base.specs.SumRules.{Rule}
use Rattle.ack_codec.specs.declared.acks.Ack.{Ack}
use Rattle.ack_codec.specs.declared.responses.Response.{Response}
use Rattle.name_core.specs.declared.calls.OfficeAnswer.{OfficeAnswer}
use Rattle.name_core.specs.declared.calls.OfficeAnswer.TheVariants as office
use Rattle.name_core.specs.declared.calls.OfficeCall.{OfficeCall}
use Rattle.name_core.specs.declared.calls.OfficeCall.TheVariants as call
use Rattle.name_core.specs.declared.calls.Reopened.{Reopened}
use Rattle.name_core.specs.declared.faults.OfficeFault.{OfficeFault}
use Rattle.name_core.specs.declared.faults.OfficeFault.TheVariants as fault
use Rattle.name_core.specs.declared.records.TheConstants.{MAX_APPEND_LENGTH}
use Rattle.packet_codec.specs.declared.packets.Packet.{Packet}
use Rattle.packet_stream.specs.declared.stream.TheConstants.{MAX_UNACKED}
use Rattle.packet_stream.specs.Extents.{greatest_end}
use Rattle.packet_stream.specs.Streams.{StreamState, start_in, written_in, begun, with_bytes, fill_bytes, next_packet, formed, sync_packet, sync_formed, last_packet, last_formed, oldest_acked, oldest_is_last, oldest_seqno}
use Rattle.writer_core.specs.declared.actions.Action.{Action}
use Rattle.writer_core.specs.declared.actions.Action.TheVariants as action
use Rattle.writer_core.specs.declared.actions.ClientAnswer.{ClientAnswer}
use Rattle.writer_core.specs.declared.actions.ClientAnswer.TheVariants as answer
use Rattle.writer_core.specs.declared.commands.Command.{Command}
use Rattle.writer_core.specs.declared.commands.Command.TheVariants as command
use Rattle.writer_core.specs.declared.commands.CommandFault.{CommandFault}
use Rattle.writer_core.specs.declared.intake.Intake.{Intake}
use Rattle.writer_core.specs.declared.intake.Stand.TheVariants as stand
use Rattle.writer_core.specs.declared.phases.DuePacket.{DuePacket}
use Rattle.writer_core.specs.declared.phases.DuePacket.TheVariants as due
use Rattle.writer_core.specs.declared.phases.Failure.{Failure}
use Rattle.writer_core.specs.declared.phases.Failure.TheVariants as failure
use Rattle.writer_core.specs.declared.phases.Phase.{Phase}
use Rattle.writer_core.specs.declared.phases.Phase.TheVariants as phase
use Rattle.writer_core.specs.declared.phases.Remedy.{Remedy}
use Rattle.writer_core.specs.declared.phases.Remedy.TheVariants as remedy
use Rattle.writer_core.specs.declared.phases.Setup.{Setup}
use Rattle.writer_core.specs.declared.phases.Setup.TheVariants as setup
use Rattle.writer_core.specs.declared.phases.SyncPacket.TheVariants as sync
use Rattle.writer_core.specs.declared.phases.Verdict.{Verdict}
use Rattle.writer_core.specs.declared.phases.Verdict.TheVariants as verdict
use Rattle.writer_core.specs.declared.phases.Waiting.{Waiting}
use Rattle.writer_core.specs.declared.phases.Waiting.TheVariants as waiting
use Rattle.writer_core.specs.declared.records.WriterRecord.{WriterRecord}
use Rattle.writer_core.specs.Commands.{admitted}
use Rattle.writer_core.specs.Phases.{remedy_after, remedy_in, remedy_at_ack, is_success, ack_verdict, bad_place, without}
use Rattle.writer_core.specs.Requests.{request_for}

-- what an own step asks for, and the writer after it
pub record Step : Type 0 where
  pub action : Action
  pub writer : WriterRecord

abbrev pub step : Action → WriterRecord → Step
step a w = record { action = a; writer = w }

-- a writer that was given nothing
abbrev pub fresh : BlockId → Rule → WriterRecord
fresh block rule = record {
  block = block;
  intake = record { stand = stand.Unmade; bytes = 0; commands = 0 };
  queue = [];
  taken = 0;
  waiting = None;
  phase = phase.Closed;
  members = [];
  committed = record { 0 = 0 };
  stream = begun rule 0;
  had_sync = false;
}

-- ---- what is given

abbrev pub given_as : WriterRecord → Command → Result Intake CommandFault → WriterRecord
given_as w c (Ok i) = record w { intake = i; queue = w.queue ++ c ∷ [] }
given_as w c (Err e) = w

-- the writer that was given this command, where it may be given
abbrev pub given : WriterRecord → Command → WriterRecord
given w c = given_as w c (admitted w.intake c)

-- ---- rule 8: the next command is taken

-- the number of the command that waits
abbrev pub ordinal : WriterRecord → ℕ
ordinal w = w.taken - 1

-- the first command is taken off the queue
abbrev pub took : WriterRecord → WriterRecord
took w = record w { queue = drop 1 w.queue; taken = w.taken + 1 }

-- it waits
abbrev pub waits_as : WriterRecord → Waiting → WriterRecord
waits_as w x = record (took w) { waiting = Some x }

-- it opens the block, with these members: a pipeline is wanted
abbrev pub opening : WriterRecord → Setup → List NodeId → WriterRecord
opening w s members = record (waits_as w waiting.Opening) { members = members; phase = phase.Wanted s }

-- it writes these bytes
abbrev pub wrote : WriterRecord → List ℕ → WriterRecord
wrote w bytes = record (took w) { stream = with_bytes w.stream bytes }

abbrev pub taken_as : WriterRecord → Command → WriterRecord
taken_as w (command.Create members) = opening w setup.Create members
taken_as w (command.Append members) = opening w setup.Append members
taken_as w (command.Write bytes) = wrote w bytes
taken_as w (command.Fill count) = wrote w (fill_bytes w.block (written_in w.stream) count)
taken_as w command.Hflush = waits_as w (waiting.Flush (written_in w.stream))
taken_as w command.Hsync = record (waits_as w (waiting.Sync (written_in w.stream) sync.Due)) { had_sync = true }
taken_as w command.Close = waits_as w waiting.Close

abbrev pub take_first : WriterRecord → Option Command → Step
take_first w None = step action.Wait w
take_first w (Some c) = step action.Took (taken_as w c)

-- Rule 8: where no command waits, the next one is taken.
abbrev pub free_step_as : WriterRecord → Option Waiting → Step
free_step_as w None = take_first w (slice_get w.queue 0)
free_step_as w (Some x) = step action.Wait w

abbrev pub free_step : WriterRecord → Step
free_step w = free_step_as w w.waiting

-- ---- a writer that failed

abbrev pub failure_answer : Failure → ClientAnswer
failure_answer (failure.Abandoned m) = answer.Abandoned m
failure_answer (failure.AllBad m) = answer.AllBad m
failure_answer (failure.Lost recovery) = answer.Lost recovery
failure_answer (failure.Refused e) = answer.Refused e

-- Each command but an append is answered with the failure.
abbrev pub failed_command : WriterRecord → Failure → Command → Step
failed_command w f (command.Append members) = step action.Took (opening w setup.Append members)
failed_command w f _ = step (action.Answered w.taken (failure_answer f)) (took w)

abbrev pub failed_first : WriterRecord → Failure → Option Command → Step
failed_first w f None = step action.Wait w
failed_first w f (Some c) = failed_command w f c

-- The command that waits is answered with it first.
abbrev pub failed_step_as : WriterRecord → Failure → Option Waiting → Step
failed_step_as w f None = failed_first w f (slice_get w.queue 0)
failed_step_as w f (Some x) = step (action.Answered (ordinal w) (failure_answer f)) (record w { waiting = None })

abbrev pub failed_step : WriterRecord → Failure → Step
failed_step w f = failed_step_as w f w.waiting

-- ---- rules 1 to 3: setting up and completing

-- the call that gives the stamp of a pipeline
abbrev pub stamp_call : WriterRecord → Setup → OfficeCall
stamp_call w setup.Create = call.Create w.block w.members
stamp_call w setup.Append = call.Append w.block
stamp_call w _ = call.NewStamp w.block

abbrev pub dial_step_as : WriterRecord → Setup → Stamp → List NodeId → Step
dial_step_as w s stamp [] = step action.Wait w
dial_step_as w s stamp (first ∷ others) =
    step (action.Dial first (request_for w.block w.committed w.stream s stamp (length w.members) others)) w

-- Rule 1, once the stamp was given: the first member is dialled, with the others as targets.
abbrev pub dial_step : WriterRecord → Setup → Stamp → Step
dial_step w s stamp = dial_step_as w s stamp w.members

-- the create or append is answered, and the writer streams
abbrev pub open_step : WriterRecord → Step
open_step w = step (action.Answered (ordinal w) (answer.Granted w.committed)) (record w {
  waiting = None;
  phase = phase.Streaming 0;
})

-- Rule 2: a new block streams at once; else the stamp and the members are committed first.
abbrev pub accepted_step : WriterRecord → Setup → Stamp → Step
accepted_step w setup.Create stamp = open_step w
accepted_step w _ stamp = step (action.Ask (call.Commit w.block stamp w.members)) w

-- what is answered where so many bytes are reached
abbrev pub reached : WriterRecord → ℕ → Step
reached w n = step (action.Answered (ordinal w) (answer.Reached n w.committed w.members)) (record w { waiting = None })

-- Rule 3, once the block is completed: the close is answered.
abbrev pub completed_step : WriterRecord → Step
completed_step w = let s = reached w (written_in w.stream) in step s.action (record s.writer { phase = phase.Closed })

-- ---- rules 4 to 7: streaming

-- a command that waits for all bytes written
abbrev pub is_flushing : Option Waiting → Bool
is_flushing (Some (waiting.Flush n)) = true
is_flushing (Some (waiting.Sync n p)) = true
is_flushing (Some waiting.Close) = true
is_flushing _ = false

-- A packet that ends here is the one that an hsync waits for.
abbrev pub ends_sync : Option Waiting → ℕ → Bool
ends_sync (Some (waiting.Sync n sync.Due)) end = n == end
ends_sync _ end = false

-- the packet without bytes that is due: that of an hsync, or, once all is acked, the last one
abbrev pub empty_due : Option Waiting → StreamState → Option DuePacket
empty_due (Some (waiting.Sync n sync.Due)) s = Some due.Sync
empty_due (Some waiting.Close) s = if s.acked == written_in s then Some due.Last else None
empty_due _ s = None

abbrev pub data_due : Option Waiting → ℕ → DuePacket
data_due x end = due.Data end (ends_sync x end)

-- The packet that is due: one with bytes where those written reach its greatest end, or a command waits for bytes past the sent end.
abbrev pub due_in : Option Waiting → StreamState → Option DuePacket
due_in x s =
    if nat_le (greatest_end s.rule.chunk (start_in s)) (written_in s)
    then Some (data_due x (greatest_end s.rule.chunk (start_in s)))
    else if is_flushing x && nat_lt s.sent (written_in s) then Some (data_due x (written_in s))
    else empty_due x s

-- The same, where one packet more may be unacked.
abbrev pub due_now : WriterRecord → Option DuePacket
due_now w = if nat_lt (length w.stream.unacked) MAX_UNACKED then due_in w.waiting w.stream else None

-- the command that waits once the packet of this number was formed, which it waits for or not
abbrev pub sync_formed_as : Bool → ℤ → Option Waiting → Option Waiting
sync_formed_as true seqno (Some (waiting.Sync n p)) = Some (waiting.Sync n (sync.Formed seqno))
sync_formed_as _ seqno x = x

-- with one packet more, all of them sent
abbrev pub all_sent : WriterRecord → Phase
all_sent w = phase.Streaming (length w.stream.unacked + 1)

-- Rules 5 and 6: the packet that is due is formed and sent.
abbrev pub form_step : WriterRecord → DuePacket → Step
form_step w (due.Data end is_sync) = step (action.Send (next_packet w.stream end is_sync)) (record w {
  stream = formed w.stream end is_sync;
  waiting = sync_formed_as is_sync (pos w.stream.seqno) w.waiting;
  phase = all_sent w;
})
form_step w due.Sync = step (action.Send (sync_packet w.stream)) (record w {
  stream = sync_formed w.stream;
  waiting = sync_formed_as true (pos w.stream.seqno) w.waiting;
  phase = all_sent w;
})
form_step w due.Last = step (action.Send (last_packet w.stream w.had_sync))
    (record w { stream = last_formed w.stream w.had_sync; phase = phase.Closing })

-- the packet of this number, which was formed, is acked where this is the oldest one that isn't
abbrev pub is_acked : ℤ → Option ℤ → Bool
is_acked seqno None = true
is_acked seqno (Some oldest) = int_lt seqno oldest

-- the length that is reached, of a flush or a sync that waits
abbrev pub reached_length : Option Waiting → StreamState → Option ℕ
reached_length (Some (waiting.Flush n)) s = if nat_le n s.acked then Some n else None
reached_length (Some (waiting.Sync n (sync.Formed seqno))) s = if is_acked seqno (oldest_seqno s) then Some n else None
reached_length _ s = None

-- Rule 7, else rule 8.
abbrev pub reach_step_as : WriterRecord → Option ℕ → Step
reach_step_as w (Some n) = reached w n
reach_step_as w None = free_step w

abbrev pub reach_step : WriterRecord → Step
reach_step w = reach_step_as w (reached_length w.waiting w.stream)

abbrev pub due_step : WriterRecord → Option DuePacket → Step
due_step w (Some d) = form_step w d
due_step w None = reach_step w

-- Rule 4: the next packet that wasn't sent on this connection is sent again.
abbrev pub stream_step_as : WriterRecord → ℕ → Option Packet → Step
stream_step_as w sent (Some p) = step (action.Send p) (record w { phase = phase.Streaming (sent + 1) })
stream_step_as w sent None = due_step w (due_now w)

abbrev pub stream_step : WriterRecord → ℕ → Step
stream_step w sent = stream_step_as w sent (slice_get w.stream.unacked sent)

-- the writer's own step
abbrev pub step_in : WriterRecord → Phase → Step
step_in w phase.Closed = free_step w
step_in w (phase.Wanted s) = step (action.Ask (stamp_call w s)) w
step_in w (phase.Stamped s stamp) = dial_step w s stamp
step_in w (phase.Requested s stamp) = free_step w
step_in w (phase.Accepted s stamp) = accepted_step w s stamp
step_in w phase.Opened = open_step w
step_in w (phase.Streaming sent) = stream_step w sent
step_in w phase.Closing = free_step w
step_in w phase.Finished = step (action.Ask (call.Complete w.block w.committed (written_in w.stream))) w
step_in w phase.Completed = completed_step w
step_in w (phase.Failed f) = failed_step w f

unfoldable pub own_step : WriterRecord → Step
own_step w = step_in w w.phase

-- The action and the writer after it are those of the own step, or memory was wanting, and the writer is as before.
abbrev pub NextGives : Step → WriterRecord → Action → WriterRecord → Type 0
NextGives s before a after = ((a ≡ action.Memory) × (after ≡ before)) ⊎ ((a ≡ s.action) × (after ≡ s.writer))

-- ---- what comes on the connection

-- with these members left, one of which this was
abbrev pub dropped : WriterRecord → Setup → NodeId → List NodeId → WriterRecord
dropped w s bad [] = record w { members = []; phase = phase.Failed (failure.AllBad bad) }
dropped w s bad (m ∷ ms) = record w { members = m ∷ ms; phase = phase.Wanted s }

abbrev pub fail_for : WriterRecord → Remedy → NodeId → WriterRecord
fail_for w remedy.Abandon bad = record w { phase = phase.Failed (failure.Abandoned bad) }
fail_for w (remedy.Recover s) bad = dropped w s bad (without w.members bad)

abbrev pub fail_named : WriterRecord → Remedy → Option NodeId → WriterRecord
fail_named w r None = w
fail_named w r (Some bad) = fail_for w r bad

-- the pipeline failed, and the member at this place is named
abbrev pub fail_at : WriterRecord → Remedy → ℕ → WriterRecord
fail_at w r place = fail_named w r (slice_get w.members place)

abbrev pub ended_as : WriterRecord → Option Remedy → WriterRecord
ended_as w None = w
ended_as w (Some r) = fail_at w r 0

-- the writer's connection ended
unfoldable pub ended : WriterRecord → WriterRecord
ended w = ended_as w (remedy_in w.phase)

-- where the writer is once its oldest packet is acked, the last one or not
abbrev pub phase_acked : Bool → Phase → Phase
phase_acked true p = phase.Finished
phase_acked false (phase.Streaming sent) = phase.Streaming (sent - 1)
phase_acked false p = p

-- the oldest packet is acked
abbrev pub acked_oldest : WriterRecord → WriterRecord
acked_oldest w = record w { stream = oldest_acked w.stream; phase = phase_acked (oldest_is_last w.stream) w.phase }

abbrev pub acked_as : WriterRecord → Remedy → Verdict → WriterRecord
acked_as w r verdict.Good = acked_oldest w
acked_as w r (verdict.Bad place) = fail_at w r place

abbrev pub acked_in : WriterRecord → Ack → Option Remedy → WriterRecord
acked_in w ack None = w
acked_in w ack (Some r) = acked_as w r (ack_verdict (oldest_seqno w.stream) (length w.members) ack)

-- an ack came
unfoldable pub acked : WriterRecord → Ack → WriterRecord
acked w ack = acked_in w ack (remedy_at_ack w.phase)

abbrev pub setup_answered_in : WriterRecord → Phase → Bool → Option NodeId → WriterRecord
setup_answered_in w (phase.Requested s stamp) true bad = record w { phase = phase.Accepted s stamp }
setup_answered_in w (phase.Requested s stamp) false bad = fail_at w (remedy_after s) (bad_place w.members bad)
setup_answered_in w _ good bad = w

-- the answer to a request came, which names this member bad, if any
unfoldable pub setup_answered : WriterRecord → Response → Option NodeId → WriterRecord
setup_answered w response bad = setup_answered_in w w.phase (is_success response.status) bad

abbrev pub dialled_in : WriterRecord → Phase → Bool → WriterRecord
dialled_in w (phase.Stamped s stamp) true = record w { phase = phase.Requested s stamp }
dialled_in w (phase.Stamped s stamp) false = fail_at w (remedy_after s) 0
dialled_in w _ answered = w

-- the dial was answered or not
unfoldable pub dialled : WriterRecord → Bool → WriterRecord
dialled w answered = dialled_in w w.phase answered

-- ---- what the office answers

-- Want of memory leaves the writer as before it asked; a lost lease and any other refusal stop it.
abbrev pub refused : WriterRecord → OfficeFault → WriterRecord
refused w fault.Memory = w
refused w (fault.LeaseLost recovery) = record w { phase = phase.Failed (failure.Lost recovery) }
refused w e = record w { phase = phase.Failed (failure.Refused e) }

-- a session begins at this length, under this committed stamp
abbrev pub begin_session : WriterRecord → Stamp → ℕ → WriterRecord
begin_session w committed base = record w { committed = committed; stream = begun w.stream.rule base; had_sync = false }

abbrev pub stamped : WriterRecord → Setup → Stamp → WriterRecord
stamped w setup.Create stamp = record (begin_session w stamp 0) { phase = phase.Stamped setup.Create stamp }
stamped w setup.Append stamp = w
stamped w s stamp = record w { phase = phase.Stamped s stamp }

abbrev pub reopened : WriterRecord → Setup → Reopened → WriterRecord
reopened w setup.Append r =
    if nat_le r.length MAX_APPEND_LENGTH
    then record (begin_session w r.committed r.length) { phase = phase.Stamped setup.Append r.new }
    else w
reopened w _ r = w

abbrev pub stamp_given : WriterRecord → Setup → OfficeAnswer → WriterRecord
stamp_given w s (office.Stamp stamp) = stamped w s stamp
stamp_given w s (office.Reopened r) = reopened w s r
stamp_given w s _ = w

-- where the writer is once the stamp of a pipeline is committed
abbrev pub phase_committed : Setup → Phase
phase_committed setup.StreamRecovery = phase.Streaming 0
phase_committed setup.CloseRecovery = phase.Finished
phase_committed _ = phase.Opened

abbrev pub committed_as : WriterRecord → Setup → Stamp → WriterRecord
committed_as w setup.Create stamp = w
committed_as w s stamp = record w { committed = stamp; phase = phase_committed s }

abbrev pub commit_given : WriterRecord → Setup → Stamp → OfficeAnswer → WriterRecord
commit_given w s stamp office.Nothing = committed_as w s stamp
commit_given w s stamp _ = w

abbrev pub complete_given : WriterRecord → OfficeAnswer → WriterRecord
complete_given w office.Nothing = record w { phase = phase.Completed }
complete_given w _ = w

-- the office granted what was asked
abbrev pub granted_in : WriterRecord → Phase → OfficeAnswer → WriterRecord
granted_in w (phase.Wanted s) a = stamp_given w s a
granted_in w (phase.Accepted s stamp) a = commit_given w s stamp a
granted_in w phase.Finished a = complete_given w a
granted_in w _ a = w

-- something is asked of the office in this phase
abbrev pub asks : Phase → Bool
asks (phase.Wanted s) = true
asks (phase.Accepted setup.Create stamp) = false
asks (phase.Accepted s stamp) = true
asks phase.Finished = true
asks _ = false

abbrev pub granted_as : WriterRecord → Result OfficeAnswer OfficeFault → WriterRecord
granted_as w (Ok a) = granted_in w w.phase a
granted_as w (Err e) = if asks w.phase then refused w e else w

-- The office answered. An answer that isn't one to what is asked changes nothing.
unfoldable pub granted : WriterRecord → Result OfficeAnswer OfficeFault → WriterRecord
granted w r = granted_as w r

-- ---- what can be seen

-- rule 1 is the next own step
abbrev pub wants_pipeline : Phase → Bool
wants_pipeline (phase.Wanted s) = true
wants_pipeline (phase.Stamped s stamp) = true
wants_pipeline _ = false

-- no command waits, and one is to be taken
abbrev pub has_command_due : WriterRecord → Bool
has_command_due w = is_none w.waiting && is_some (slice_get w.queue 0)

-- an action by which something is done or asked
abbrev pub is_action : Action → Bool
is_action action.Wait = false
is_action _ = true

-- the writer's own step does or asks something
abbrev pub has_step : WriterRecord → Bool
has_step w = is_action (own_step w).action

-- the writer has a connection
abbrev pub is_connected : Phase → Bool
is_connected p = is_some (remedy_in p)
