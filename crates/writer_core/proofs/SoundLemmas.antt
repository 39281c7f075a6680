-- A writer stays sound through each call.
use Rattle.std.proofs.Common.{ℕ, ℤ, pos, ◌≡◌, ◌≤◌, ◌<◌, ◌+◌, ◌^◌, nat_le, Bool, true, false, List, [], ◌∷◌, ◌++◌, length, slice_get, Option, Some, None, Result, Ok, Err, if◌then◌else◌, refl, subst, sym, ap, ◌∙◌, arith, length-append}
use Rattle.std.specs.Borrow.{Bor}
use Rattle.std.specs.Option.{option_copied}
use Rattle.std.proofs.lemmas.Bool.Decides.{nat_tests}
use Rattle.hd_base.specs.declared.numbers.BlockId.{BlockId}
use Rattle.hd_base.specs.declared.numbers.NodeId.{NodeId}
use Rattle.hd_base.specs.declared.numbers.Stamp.{Stamp}
use Rattle.hd_base.specs.SumRules.{Rule, IsChunkSize}
use Rattle.ack_codec.specs.declared.acks.Ack.{Ack}
use Rattle.ack_codec.specs.declared.responses.Response.{Response}
use Rattle.name_core.specs.declared.calls.OfficeAnswer.{OfficeAnswer}
use Rattle.name_core.specs.declared.calls.OfficeAnswer.TheVariants as office
use Rattle.name_core.specs.declared.calls.Reopened.{Reopened}
use Rattle.name_core.specs.declared.faults.OfficeFault.{OfficeFault}
use Rattle.name_core.specs.declared.faults.OfficeFault.TheVariants as fault
use Rattle.name_core.specs.declared.records.TheConstants.{MAX_APPEND_LENGTH}
use Rattle.packet_codec.specs.declared.packets.Packet.{Packet}
use Rattle.packet_stream.specs.declared.extents.TheConstants.{BLOCK_LIMIT}
use Rattle.packet_stream.specs.Streams.{StreamState, written_in, acked_packet}
use Rattle.packet_stream.proofs.StreamLemmas.{begun_written, begun_is, wrote_written, wrote_is, fill_length, formed_written, formed_is, sync_formed_is, last_formed_is, oldest_acked_is}
use Rattle.writer_core.specs.declared.commands.Command.{Command}
use Rattle.writer_core.specs.declared.commands.Command.TheVariants as command
use Rattle.writer_core.specs.declared.commands.CommandFault.{CommandFault}
use Rattle.writer_core.specs.declared.commands.CommandFault.TheVariants as taking
use Rattle.writer_core.specs.declared.intake.Intake.{Intake}
use Rattle.writer_core.specs.declared.intake.TheConstants.{MAX_GIVEN, MAX_COMMANDS}
use Rattle.writer_core.specs.declared.phases.DuePacket.{DuePacket}
use Rattle.writer_core.specs.declared.phases.DuePacket.TheVariants as due
use Rattle.writer_core.specs.declared.phases.Failure.{Failure}
use Rattle.writer_core.specs.declared.phases.Failure.TheVariants as failure
use Rattle.writer_core.specs.declared.phases.Phase.{Phase}
use Rattle.writer_core.specs.declared.phases.Phase.TheVariants as phase
use Rattle.writer_core.specs.declared.phases.Remedy.{Remedy}
use Rattle.writer_core.specs.declared.phases.Remedy.TheVariants as remedy
use Rattle.writer_core.specs.declared.phases.Setup.{Setup}
use Rattle.writer_core.specs.declared.phases.Setup.TheVariants as setup
use Rattle.writer_core.specs.declared.phases.SyncPacket.TheVariants as sync
use Rattle.writer_core.specs.declared.phases.Verdict.{Verdict}
use Rattle.writer_core.specs.declared.phases.Verdict.TheVariants as verdict
use Rattle.writer_core.specs.declared.phases.Waiting.{Waiting}
use Rattle.writer_core.specs.declared.phases.Waiting.TheVariants as waiting
use Rattle.writer_core.specs.declared.records.WriterRecord.{WriterRecord}
use Rattle.writer_core.specs.Commands.{command_length, admitted, is_too_much, fits, intake_after}
use Rattle.writer_core.specs.Phases.{remedy_after, remedy_in, remedy_at_ack, is_success, bad_place, without}
use Rattle.writer_core.specs.Transitions.{took, wrote, taken_as, take_first, free_step_as, free_step, failed_command, failed_first, failed_step_as, dial_step_as, accepted_step, due_now, sync_formed_as, form_step, reached_length, reach_step_as, due_step, stream_step_as, step_in, own_step, dropped, fail_named, fail_at, ended_as, ended, acked_oldest, acked_as, acked_in, acked, setup_answered_in, setup_answered, dialled_in, dialled, refused, begin_session, stamped, reopened, stamp_given, committed_as, commit_given, complete_given, granted_in, asks, granted_as, granted, fresh, given_as, given}
use Rattle.writer_core.specs.Sound.{Sound, syncs_due}
use Rattle.writer_core.proofs.QueueLemmas.{first_off, one_less, queued_more}
use Rattle.writer_core.proofs.DueLemmas.{choice, IsDueNow, due_now_is}

-- ---- what changes neither bytes nor commands

-- elsewhere, with other members, under another stamp
pub moved : (w : WriterRecord) (members : List NodeId) (stamp : Stamp) (p : Phase) → Sound w → Sound (record w { members = members; committed = stamp; phase = p })
moved w members stamp p h = record { stream = h.stream; commands = h.commands; few = h.few; queued = h.queued; bytes = h.bytes; written = h.written; counted = h.counted; numbers = h.numbers }

-- no command waits any more
pub answered : (w : WriterRecord) (p : Phase) → Sound w → Sound (record w { waiting = None; phase = p })
answered w p h = record { stream = h.stream; commands = h.commands; few = h.few; queued = h.queued; bytes = h.bytes; written = h.written; counted = omega arith; numbers = omega (arith, h.numbers) }

dropped_sound : (w : WriterRecord) (s : Setup) (bad : NodeId) (left : List NodeId) → Sound w → Sound (dropped w s bad left)
dropped_sound w s bad [] h = moved w [] w.committed (phase.Failed (failure.AllBad bad)) h
dropped_sound w s bad (m ∷ ms) h = moved w (m ∷ ms) w.committed (phase.Wanted s) h

fail_named_sound : (w : WriterRecord) (r : Remedy) (o : Option NodeId) → Sound w → Sound (fail_named w r o)
fail_named_sound w r None h = h
fail_named_sound w remedy.Abandon (Some bad) h = moved w w.members w.committed (phase.Failed (failure.Abandoned bad)) h
fail_named_sound w (remedy.Recover s) (Some bad) h = dropped_sound w s bad (without w.members bad) h

pub fail_sound : (w : WriterRecord) (r : Remedy) (place : ℕ) → Sound w → Sound (fail_at w r place)
fail_sound w r place h = fail_named_sound w r (slice_get w.members place) h

ended_as_sound : (w : WriterRecord) (o : Option Remedy) → Sound w → Sound (ended_as w o)
ended_as_sound w None h = h
ended_as_sound w (Some r) h = fail_sound w r 0 h

pub ended_sound : (w : WriterRecord) → Sound w → Sound (ended w)
unfolding ended
ended_sound w h = ended_as_sound w (remedy_in w.phase) h

dialled_in_sound : (w : WriterRecord) (p : Phase) (b : Bool) → Sound w → Sound (dialled_in w p b)
dialled_in_sound w (phase.Stamped s stamp) true h = moved w w.members w.committed (phase.Requested s stamp) h
dialled_in_sound w (phase.Stamped s stamp) false h = fail_sound w (remedy_after s) 0 h
dialled_in_sound w _ b h = h

pub dialled_sound : (w : WriterRecord) (b : Bool) → Sound w → Sound (dialled w b)
unfolding dialled
dialled_sound w b h = dialled_in_sound w w.phase b h

setup_in_sound : (w : WriterRecord) (p : Phase) (good : Bool) (bad : Option NodeId) → Sound w → Sound (setup_answered_in w p good bad)
setup_in_sound w (phase.Requested s stamp) true bad h = moved w w.members w.committed (phase.Accepted s stamp) h
setup_in_sound w (phase.Requested s stamp) false bad h = fail_sound w (remedy_after s) (bad_place w.members bad) h
setup_in_sound w _ good bad h = h

pub setup_sound : (w : WriterRecord) (r : Response) (bad : Option NodeId) → Sound w → Sound (setup_answered w r bad)
unfolding setup_answered
setup_sound w r bad h = setup_in_sound w w.phase (is_success r.status) bad h

-- ---- acks

-- an ack changes neither the bytes written nor those sent
same_bytes : (s : StreamState) (o : Option Packet) → (written_in (acked_packet s o) ≡ written_in s) × ((acked_packet s o).seqno ≡ s.seqno) × ((acked_packet s o).base ≡ s.base) × ((acked_packet s o).sent ≡ s.sent)
same_bytes s None = (refl, refl, refl, refl)
same_bytes s (Some p) = (refl, refl, refl, refl)

acked_oldest_sound : (w : WriterRecord) → Sound w → Sound (acked_oldest w)
acked_oldest_sound w h =
    let e = same_bytes w.stream (slice_get w.stream.unacked 0) in
    record {
      stream = oldest_acked_is w.stream h.stream;
      commands = h.commands;
      few = h.few;
      queued = h.queued;
      bytes = h.bytes;
      written = omega (arith, e.0, h.written);
      counted = h.counted;
      numbers = omega (arith, e.1, e.2, e.3, h.numbers);
    }

acked_as_sound : (w : WriterRecord) (r : Remedy) (v : Verdict) → Sound w → Sound (acked_as w r v)
acked_as_sound w r verdict.Good h = acked_oldest_sound w h
acked_as_sound w r (verdict.Bad place) h = fail_sound w r place h

acked_in_sound : (w : WriterRecord) (ack : Ack) (o : Option Remedy) → Sound w → Sound (acked_in w ack o)
acked_in_sound w ack None h = h
acked_in_sound w ack (Some r) h = acked_as_sound w r _ h

pub acked_sound : (w : WriterRecord) (ack : Ack) → Sound w → Sound (acked w ack)
unfolding acked
acked_sound w ack h = acked_in_sound w ack (remedy_at_ack w.phase) h

-- ---- the office

refused_sound : (w : WriterRecord) (e : OfficeFault) → Sound w → Sound (refused w e)
refused_sound w fault.Memory h = h
refused_sound w (fault.LeaseLost recovery) h = moved w w.members w.committed (phase.Failed (failure.Lost recovery)) h
refused_sound w e h = moved w w.members w.committed _ h

-- Any queue fits behind the length at which a session begins.
session_sound : (w : WriterRecord) (stamp : Stamp) (base : ℕ) (p : Phase) → base ≤ MAX_APPEND_LENGTH → Sound w → Sound (record (begin_session w stamp base) { phase = p })
session_sound w stamp base p b h = record {
  stream = begun_is w.stream.rule base h.stream.chunk (omega (arith, b));
  commands = h.commands;
  few = h.few;
  queued = h.queued;
  bytes = h.bytes;
  written = omega (arith, begun_written w.stream.rule base, b, h.queued);
  counted = h.counted;
  numbers = omega (arith, h.counted);
}

stamped_sound : (w : WriterRecord) (s : Setup) (stamp : Stamp) → Sound w → Sound (stamped w s stamp)
stamped_sound w setup.Create stamp h = session_sound w stamp 0 (phase.Stamped setup.Create stamp) (omega arith) h
stamped_sound w setup.Append stamp h = h
stamped_sound w s stamp h = moved w w.members w.committed _ h

reopened_sound : (w : WriterRecord) (s : Setup) (r : Reopened) → Sound w → Sound (reopened w s r)
reopened_sound w setup.Append r h =
    choice Sound (nat_le r.length MAX_APPEND_LENGTH) (record (begin_session w r.committed r.length) { phase = phase.Stamped setup.Append r.new }) w
    (λ e. session_sound w r.committed r.length (phase.Stamped setup.Append r.new) (grind (arith, nat_tests)) h) (λ e. h)
reopened_sound w _ r h = h

stamp_given_sound : (w : WriterRecord) (s : Setup) (a : OfficeAnswer) → Sound w → Sound (stamp_given w s a)
stamp_given_sound w s (office.Stamp stamp) h = stamped_sound w s stamp h
stamp_given_sound w s (office.Reopened r) h = reopened_sound w s r h
stamp_given_sound w s _ h = h

committed_sound : (w : WriterRecord) (s : Setup) (stamp : Stamp) → Sound w → Sound (committed_as w s stamp)
committed_sound w setup.Create stamp h = h
committed_sound w s stamp h = moved w w.members stamp _ h

commit_given_sound : (w : WriterRecord) (s : Setup) (stamp : Stamp) (a : OfficeAnswer) → Sound w → Sound (commit_given w s stamp a)
commit_given_sound w s stamp office.Nothing h = committed_sound w s stamp h
commit_given_sound w s stamp _ h = h

complete_given_sound : (w : WriterRecord) (a : OfficeAnswer) → Sound w → Sound (complete_given w a)
complete_given_sound w office.Nothing h = moved w w.members w.committed phase.Completed h
complete_given_sound w _ h = h

granted_in_sound : (w : WriterRecord) (p : Phase) (a : OfficeAnswer) → Sound w → Sound (granted_in w p a)
granted_in_sound w (phase.Wanted s) a h = stamp_given_sound w s a h
granted_in_sound w (phase.Accepted s stamp) a h = commit_given_sound w s stamp a h
granted_in_sound w phase.Finished a h = complete_given_sound w a h
granted_in_sound w _ a h = h

granted_as_sound : (w : WriterRecord) (r : Result OfficeAnswer OfficeFault) → Sound w → Sound (granted_as w r)
granted_as_sound w (Ok a) h = granted_in_sound w w.phase a h
granted_as_sound w (Err e) h = choice Sound (asks w.phase) (refused w e) w (λ _. refused_sound w e h) (λ _. h)

pub granted_sound : (w : WriterRecord) (r : Result OfficeAnswer OfficeFault) → Sound w → Sound (granted w r)
unfolding granted
granted_sound w r h = granted_as_sound w r h

-- ---- commands

-- a command is there
pub taken_few : (w : WriterRecord) (c : Command) → Sound w → slice_get w.queue 0 ≡ Some c → w.taken < 2 ^ 63
taken_few w c h e = omega (arith, one_less w.queue c e, h.commands, h.few)

-- its bytes fit
pub bytes_fit : (w : WriterRecord) (c : Command) → Sound w → slice_get w.queue 0 ≡ Some c → written_in w.stream + command_length c ≤ BLOCK_LIMIT
bytes_fit w c h e = omega (arith, first_off w.queue c e, h.written, h.bytes)

-- the same of a reference to the first command
pub fits_as : (w : WriterRecord) (o : Option (Bor Command)) (b : Bor Command) (c : Command) → Sound w → option_copied o ≡ slice_get w.queue 0 → o ≡ Some b → b.now ≡ c → written_in w.stream + command_length c ≤ BLOCK_LIMIT
fits_as w o b c h e s k = bytes_fit w c h (sym e ∙ (ap option_copied s ∙ ap Some k))

-- The first command is taken, under another waiting one, in another phase.
waits_sound : (w : WriterRecord) (c : Command) (x : Option Waiting) (members : List NodeId) (p : Phase) (b : Bool) → syncs_due x ≤ syncs_due w.waiting + 1 → Sound w → slice_get w.queue 0 ≡ Some c → Sound (record (took w) { waiting = x; members = members; phase = p; had_sync = b })
waits_sound w c x members p b less h e = record {
  stream = h.stream;
  commands = omega (arith, one_less w.queue c e, h.commands);
  few = h.few;
  queued = omega (arith, first_off w.queue c e, h.queued);
  bytes = h.bytes;
  written = omega (arith, first_off w.queue c e, h.written);
  counted = omega (arith, less, h.counted);
  numbers = omega (arith, less, h.numbers);
}

wrote_sound : (w : WriterRecord) (c : Command) (bytes : List ℕ) → length bytes ≡ command_length c → Sound w → slice_get w.queue 0 ≡ Some c → Sound (wrote w bytes)
wrote_sound w c bytes n h e = record {
  stream = wrote_is w.stream bytes h.stream (omega (arith, n, bytes_fit w c h e));
  commands = omega (arith, one_less w.queue c e, h.commands);
  few = h.few;
  queued = omega (arith, first_off w.queue c e, h.queued);
  bytes = h.bytes;
  written = omega (arith, first_off w.queue c e, h.written, wrote_written w.stream bytes, n);
  counted = omega (arith, h.counted);
  numbers = omega (arith, h.numbers);
}

taken_sound : (w : WriterRecord) (c : Command) → Sound w → slice_get w.queue 0 ≡ Some c → Sound (taken_as w c)
taken_sound w (command.Create members) h e = waits_sound w _ (Some waiting.Opening) members (phase.Wanted setup.Create) w.had_sync (omega arith) h e
taken_sound w (command.Append members) h e = waits_sound w _ (Some waiting.Opening) members (phase.Wanted setup.Append) w.had_sync (omega arith) h e
taken_sound w (command.Write bytes) h e = wrote_sound w (command.Write bytes) bytes refl h e
taken_sound w (command.Fill count) h e = wrote_sound w (command.Fill count) _ (fill_length w.block (written_in w.stream) count) h e
taken_sound w command.Hflush h e = waits_sound w _ (Some (waiting.Flush (written_in w.stream))) w.members w.phase w.had_sync (omega arith) h e
taken_sound w command.Hsync h e = waits_sound w _ (Some (waiting.Sync (written_in w.stream) sync.Due)) w.members w.phase true (omega arith) h e
taken_sound w command.Close h e = waits_sound w _ (Some waiting.Close) w.members w.phase w.had_sync (omega arith) h e

first_sound : (w : WriterRecord) (o : Option Command) → Sound w → slice_get w.queue 0 ≡ o → Sound (take_first w o).writer
first_sound w None h e = h
first_sound w (Some c) h e = taken_sound w c h e

free_as_sound : (w : WriterRecord) (x : Option Waiting) → Sound w → Sound (free_step_as w x).writer
free_as_sound w None h = first_sound w (slice_get w.queue 0) h refl
free_as_sound w (Some x) h = h

pub free_sound : (w : WriterRecord) → Sound w → Sound (free_step w).writer
free_sound w h = free_as_sound w w.waiting h

failed_command_sound : (w : WriterRecord) (f : Failure) (c : Command) → Sound w → slice_get w.queue 0 ≡ Some c → Sound (failed_command w f c).writer
failed_command_sound w f (command.Append members) h e = waits_sound w _ (Some waiting.Opening) members (phase.Wanted setup.Append) w.had_sync (omega arith) h e
failed_command_sound w f c h e = waits_sound w _ w.waiting w.members w.phase w.had_sync (omega arith) h e

failed_first_sound : (w : WriterRecord) (f : Failure) (o : Option Command) → Sound w → slice_get w.queue 0 ≡ o → Sound (failed_first w f o).writer
failed_first_sound w f None h e = h
failed_first_sound w f (Some c) h e = failed_command_sound w f c h e

failed_as_sound : (w : WriterRecord) (f : Failure) (x : Option Waiting) → Sound w → Sound (failed_step_as w f x).writer
failed_as_sound w f None h = failed_first_sound w f (slice_get w.queue 0) h refl
failed_as_sound w f (Some x) h = answered w w.phase h

-- ---- streaming

formed_as_less : (b : Bool) (q : ℤ) (x : Option Waiting) → syncs_due (sync_formed_as b q x) ≤ syncs_due x
formed_as_less true q (Some (waiting.Sync n p)) = omega arith
formed_as_less true q (Some (waiting.Flush n)) = omega arith
formed_as_less true q (Some waiting.Opening) = omega arith
formed_as_less true q (Some waiting.Close) = omega arith
formed_as_less true q None = omega arith
formed_as_less false q x = omega arith

-- once the packet of an hsync was formed none is due
formed_as_none : (q : ℤ) (x : Option Waiting) → syncs_due (sync_formed_as true q x) ≡ 0
formed_as_none q (Some (waiting.Sync n p)) = refl
formed_as_none q (Some (waiting.Flush n)) = refl
formed_as_none q (Some waiting.Opening) = refl
formed_as_none q (Some waiting.Close) = refl
formed_as_none q None = refl

-- there is a number for one packet more
pub number_left : (w : WriterRecord) → Sound w → w.stream.seqno + 1 < 2 ^ 63
number_left w h = omega (arith, h.numbers, h.stream.sent, h.stream.within, h.commands, h.few)

pub form_sound : (w : WriterRecord) (d : DuePacket) → Sound w → IsDueNow w d → Sound (form_step w d).writer
form_sound w (due.Data end is_sync) h d =
    let e = formed_written w.stream end is_sync h.stream d.fits.0 d.fits.1 in
    let less = formed_as_less is_sync (pos w.stream.seqno) w.waiting in
    record {
      stream = formed_is w.stream end is_sync h.stream d.fits.0 d.fits.1 d.room (number_left w h);
      commands = h.commands;
      few = h.few;
      queued = h.queued;
      bytes = h.bytes;
      written = omega (arith, e, h.written);
      counted = omega (arith, less, h.counted);
      numbers = omega (arith, less, h.numbers, d.fits.0);
    }
form_sound w due.Sync h d =
    let none = formed_as_none (pos w.stream.seqno) w.waiting in
    record {
      stream = sync_formed_is w.stream h.stream d.room (number_left w h);
      commands = h.commands;
      few = h.few;
      queued = h.queued;
      bytes = h.bytes;
      written = h.written;
      counted = omega (arith, none);
      numbers = omega (arith, none, d.fits, h.numbers);
    }
form_sound w due.Last h d = record {
  stream = last_formed_is w.stream w.had_sync h.stream d.room;
  commands = h.commands;
  few = h.few;
  queued = h.queued;
  bytes = h.bytes;
  written = h.written;
  counted = h.counted;
  numbers = h.numbers;
}

reach_as_sound : (w : WriterRecord) (o : Option ℕ) → Sound w → Sound (reach_step_as w o).writer
reach_as_sound w None h = free_sound w h
reach_as_sound w (Some n) h = answered w w.phase h

due_step_sound : (w : WriterRecord) (o : Option DuePacket) → Sound w → due_now w ≡ o → Sound (due_step w o).writer
due_step_sound w None h e = reach_as_sound w (reached_length w.waiting w.stream) h
due_step_sound w (Some d) h e = form_sound w d h (due_now_is w d h.stream e)

stream_as_sound : (w : WriterRecord) (sent : ℕ) (o : Option Packet) → Sound w → Sound (stream_step_as w sent o).writer
stream_as_sound w sent None h = due_step_sound w (due_now w) h refl
stream_as_sound w sent (Some p) h = moved w w.members w.committed (phase.Streaming (sent + 1)) h

-- ---- the own step

dial_as_sound : (w : WriterRecord) (s : Setup) (stamp : Stamp) (members : List NodeId) → Sound w → Sound (dial_step_as w s stamp members).writer
dial_as_sound w s stamp [] h = h
dial_as_sound w s stamp (m ∷ ms) h = h

accepted_as_sound : (w : WriterRecord) (s : Setup) (stamp : Stamp) → Sound w → Sound (accepted_step w s stamp).writer
accepted_as_sound w setup.Create stamp h = answered w (phase.Streaming 0) h
accepted_as_sound w _ stamp h = h

step_in_sound : (w : WriterRecord) (p : Phase) → Sound w → Sound (step_in w p).writer
step_in_sound w phase.Closed h = free_sound w h
step_in_sound w (phase.Wanted s) h = h
step_in_sound w (phase.Stamped s stamp) h = dial_as_sound w s stamp w.members h
step_in_sound w (phase.Requested s stamp) h = free_sound w h
step_in_sound w (phase.Accepted s stamp) h = accepted_as_sound w s stamp h
step_in_sound w phase.Opened h = answered w (phase.Streaming 0) h
step_in_sound w (phase.Streaming sent) h = stream_as_sound w sent (slice_get w.stream.unacked sent) h
step_in_sound w phase.Closing h = free_sound w h
step_in_sound w phase.Finished h = h
step_in_sound w phase.Completed h = answered w phase.Closed h
step_in_sound w (phase.Failed f) h = failed_as_sound w f w.waiting h

pub own_step_sound : (w : WriterRecord) → Sound w → Sound (own_step w).writer
unfolding own_step
own_step_sound w h = step_in_sound w w.phase h

-- ---- what is given

pub fresh_sound : (block : BlockId) (r : Rule) → IsChunkSize r.chunk → Sound (fresh block r)
fresh_sound block r k = record {
  stream = begun_is r 0 k (omega arith);
  commands = omega arith;
  few = omega arith;
  queued = omega arith;
  bytes = omega arith;
  written = omega (arith, begun_written r 0);
  counted = omega arith;
  numbers = omega arith;
}

admitted_by : (much good : Bool) (i j : Intake) → (if much then Err taking.TooMuch else if good then Ok i else Err taking.Unfit) ≡ Ok j → (i ≡ j) × (much ≡ false)
admitted_by true good i j e = absurd (cc)
admitted_by false true i j e = (cc, refl)
admitted_by false false i j e = absurd (cc)

-- an intake that was admitted is within its limits
admitted_is : (i : Intake) (c : Command) (j : Intake) → admitted i c ≡ Ok j → (intake_after i c ≡ j) × (is_too_much i c ≡ false)
unfolding admitted
admitted_is i c j e = admitted_by (is_too_much i c) (fits i.stand c) (intake_after i c) j e

pub too_much_not : (i : Intake) (c : Command) → is_too_much i c ≡ false → (i.bytes + command_length c ≤ MAX_GIVEN) × (i.commands < MAX_COMMANDS)
too_much_not i c e = (grind (arith, nat_tests), grind (arith, nat_tests))

pub given_sound_at : (w : WriterRecord) (c : Command) → Sound w → is_too_much w.intake c ≡ false → Sound (record w { intake = intake_after w.intake c; queue = w.queue ++ c ∷ [] })
given_sound_at w c h e =
    let n = too_much_not w.intake c e in
    record {
      stream = h.stream;
      commands = simp length-append (omega (arith, h.commands));
      few = omega (arith, n.1);
      queued = omega (arith, queued_more w.queue c, h.queued);
      bytes = n.0;
      written = omega (arith, queued_more w.queue c, h.written);
      counted = h.counted;
      numbers = h.numbers;
    }

given_as_sound : (w : WriterRecord) (c : Command) (r : Result Intake CommandFault) → Sound w → admitted w.intake c ≡ r → Sound (given_as w c r)
given_as_sound w c (Err f) h e = h
given_as_sound w c (Ok i) h e =
    let p = admitted_is w.intake c i e in
    subst (λ (j : Intake). Sound (record w { intake = j; queue = w.queue ++ c ∷ [] })) p.0 (given_sound_at w c h p.1)

pub given_sound : (w : WriterRecord) (c : Command) → Sound w → Sound (given w c)
given_sound w c h = given_as_sound w c (admitted w.intake c) h refl
