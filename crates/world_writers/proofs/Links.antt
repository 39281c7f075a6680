-- What a writer's steps leave of its connection's members and stamp.
use Rattle.std.proofs.Common.{◌≡◌, ℕ, Bool, true, false, List, [], ◌∷◌, Option, Some, None, Result, Ok, Err, refl, sym, ◌∙◌, ap, subst}
use Rattle.std.specs.Prelude.{slice_get, length, nat_le}
use Rattle.hd_base.specs.declared.numbers.NodeId.{NodeId}
use Rattle.hd_base.specs.declared.numbers.Stamp.{Stamp}
use Rattle.name_core.specs.declared.calls.OfficeAnswer.{OfficeAnswer}
use Rattle.name_core.specs.declared.calls.OfficeAnswer.TheVariants as office
use Rattle.name_core.specs.declared.calls.Reopened.{Reopened}
use Rattle.name_core.specs.declared.faults.OfficeFault.{OfficeFault}
use Rattle.name_core.specs.declared.faults.OfficeFault.TheVariants as fault
use Rattle.name_core.specs.declared.records.TheConstants.{MAX_APPEND_LENGTH}
use Rattle.ack_codec.specs.declared.acks.Ack.{Ack}
use Rattle.ack_codec.specs.declared.responses.Response.{Response}
use Rattle.packet_codec.specs.declared.packets.Packet.{Packet}
use Rattle.packet_stream.specs.Streams.{oldest_seqno, oldest_is_last}
use Rattle.writer_core.specs.declared.commands.Command.{Command}
use Rattle.writer_core.specs.declared.commands.Command.TheVariants as command
use Rattle.writer_core.specs.declared.commands.CommandFault.{CommandFault}
use Rattle.writer_core.specs.declared.intake.Intake.{Intake}
use Rattle.writer_core.specs.declared.phases.DuePacket.{DuePacket}
use Rattle.writer_core.specs.declared.phases.DuePacket.TheVariants as due
use Rattle.writer_core.specs.declared.phases.Failure.{Failure}
use Rattle.writer_core.specs.declared.phases.Phase.{Phase}
use Rattle.writer_core.specs.declared.phases.Phase.TheVariants as phase
use Rattle.writer_core.specs.declared.phases.Remedy.{Remedy}
use Rattle.writer_core.specs.declared.phases.Remedy.TheVariants as remedy
use Rattle.writer_core.specs.declared.phases.Setup.{Setup}
use Rattle.writer_core.specs.declared.phases.Setup.TheVariants as setup
use Rattle.writer_core.specs.declared.phases.Verdict.{Verdict}
use Rattle.writer_core.specs.declared.phases.Verdict.TheVariants as verdict
use Rattle.writer_core.specs.declared.phases.Waiting.{Waiting}
use Rattle.writer_core.specs.declared.records.WriterRecord.{WriterRecord}
use Rattle.writer_core.specs.Commands.{admitted}
use Rattle.writer_core.specs.Phases.{remedy_after, remedy_in, remedy_at_ack, ack_verdict, bad_place, without, is_success}
use Rattle.writer_core.specs.Transitions.{given, given_as, take_first, taken_as, free_step_as, failed_first, failed_command, failed_step_as, dial_step_as, open_step, accepted_step, completed_step, form_step, reach_step_as, reached_length, due_step, due_now, stream_step_as, step_in, own_step, dropped, fail_for, fail_named, fail_at, ended, ended_as, acked, acked_as, acked_in, setup_answered, setup_answered_in, dialled, dialled_in, refused, stamped, reopened, begin_session, stamp_given, committed_as, commit_given, complete_given, granted_in, granted_as, granted, asks, took, phase_acked, acked_oldest, is_connected, Step}
use Rattle.world.specs.Connections.{Next, message, the_end}
use Rattle.world.specs.Parts.{request, packet, ack, response, read_status, recovery_answer}
use Rattle.world.specs.Clients.{ruled, named_member, writer_hears}
use Rattle.std.proofs.lemmas.Bool.{false≢true}
use Rattle.hd_base.specs.SumRules.{Rule}
use Rattle.world_laws.proofs.FactTables.{if-each}
use Rattle.world_writers.specs.Piping.{setup_stamp, Creates}

-- WRITERS

pub record LinksTo (x y : WriterRecord) : Type 0 where
  pub connected : is_connected x.phase ≡ true
  pub members : y.members ≡ x.members
  pub stamp : Creates x.phase x.committed → setup_stamp y.phase y.committed ≡ setup_stamp x.phase x.committed
  pub creates : Creates x.phase x.committed → Creates y.phase y.committed

-- a writer after another: where it has a connection it is that one's, of the same members and stamp
abbrev pub Links : WriterRecord → WriterRecord → Type 0
Links x y = is_connected y.phase ≡ true → LinksTo x y

pub itself-links : (x : WriterRecord) → Links x x
itself-links x = λ e. record { connected = e; members = refl; stamp = λ _. refl; creates = λ c. c }

links-to-then : (x y z : WriterRecord) → LinksTo x y → LinksTo y z → LinksTo x z
links-to-then x y z p q = record { connected = p.connected; members = q.members ∙ p.members; stamp = λ c. q.stamp (p.creates c) ∙ p.stamp c; creates = λ c. q.creates (p.creates c) }

pub links-then : (x y z : WriterRecord) → Links x y → Links y z → Links x z
links-then x y z a b = λ e. let q = b e in links-to-then x y z (a q.connected) q

-- a writer under the stamp that it knows as committed
pub record Runs (x : WriterRecord) : Type 0 where
  pub connected : is_connected x.phase ≡ true
  pub stamp : Creates x.phase x.committed → setup_stamp x.phase x.committed ≡ x.committed

pub created-runs : (x : WriterRecord) (t : Stamp) → x.phase ≡ phase.Accepted setup.Create t → Runs x
created-runs x t e = record {
  connected = ap (λ (p : Phase). is_connected p) e;
  stamp = subst (λ (p : Phase). Creates p x.committed → setup_stamp p x.committed ≡ x.committed) (sym e) (λ c. sym c);
}

pub opened-runs : (x : WriterRecord) → x.phase ≡ phase.Opened → Runs x
opened-runs x e = record { connected = ap (λ (p : Phase). is_connected p) e; stamp = λ _. ap (λ (p : Phase). setup_stamp p x.committed) e }

streaming-runs : (x : WriterRecord) (sent : ℕ) → x.phase ≡ phase.Streaming sent → Runs x
streaming-runs x sent e = record { connected = ap (λ (p : Phase). is_connected p) e; stamp = λ _. ap (λ (p : Phase). setup_stamp p x.committed) e }

-- STEPS

taken-links : (x : WriterRecord) (c : Command) → Links x (taken_as x c)
taken-links x (command.Create members) = λ e. absurd (false≢true e)
taken-links x (command.Append members) = λ e. absurd (false≢true e)
taken-links x (command.Write bytes) = λ e. record { connected = e; members = refl; stamp = λ _. refl; creates = λ c. c }
taken-links x (command.Fill count) = λ e. record { connected = e; members = refl; stamp = λ _. refl; creates = λ c. c }
taken-links x command.Hflush = λ e. record { connected = e; members = refl; stamp = λ _. refl; creates = λ c. c }
taken-links x command.Hsync = λ e. record { connected = e; members = refl; stamp = λ _. refl; creates = λ c. c }
taken-links x command.Close = λ e. record { connected = e; members = refl; stamp = λ _. refl; creates = λ c. c }

abbrev In : WriterRecord → Step → Type 0
In x s = Links x s.writer

first-links : (x : WriterRecord) (o : Option Command) → In x (take_first x o)
first-links x None = itself-links x
first-links x (Some c) = taken-links x c

free-links : (x : WriterRecord) (o : Option Waiting) → In x (free_step_as x o)
free-links x None = first-links x (slice_get x.queue 0)
free-links x (Some w) = itself-links x

took-links : (x : WriterRecord) → Links x (took x)
took-links x = λ e. record { connected = e; members = refl; stamp = λ _. refl; creates = λ c. c }

failed-command-links : (x : WriterRecord) (f : Failure) (c : Command) → In x (failed_command x f c)
failed-command-links x f (command.Create members) = took-links x
failed-command-links x f (command.Append members) = taken-links x (command.Append members)
failed-command-links x f (command.Write bytes) = took-links x
failed-command-links x f (command.Fill count) = took-links x
failed-command-links x f command.Hflush = took-links x
failed-command-links x f command.Hsync = took-links x
failed-command-links x f command.Close = took-links x

failed-first-links : (x : WriterRecord) (f : Failure) (o : Option Command) → In x (failed_first x f o)
failed-first-links x f None = itself-links x
failed-first-links x f (Some c) = failed-command-links x f c

failed-links : (x : WriterRecord) (f : Failure) (o : Option Waiting) → In x (failed_step_as x f o)
failed-links x f None = failed-first-links x f (slice_get x.queue 0)
failed-links x f (Some w) = λ e. record { connected = e; members = refl; stamp = λ _. refl; creates = λ c. c }

dial-links : (x : WriterRecord) (s : Setup) (t : Stamp) (ms : List NodeId) → In x (dial_step_as x s t ms)
dial-links x s t [] = itself-links x
dial-links x s t (m ∷ ms) = itself-links x

pub open-links : (x : WriterRecord) → Runs x → In x (open_step x)
open-links x e = λ _. record { connected = e.connected; members = refl; stamp = λ c. sym (e.stamp c); creates = λ _. tt }

accepted-links : (x : WriterRecord) (s : Setup) (t : Stamp) → x.phase ≡ phase.Accepted s t → In x (accepted_step x s t)
accepted-links x setup.Create t e = open-links x (created-runs x t e)
accepted-links x setup.Append t e = itself-links x
accepted-links x setup.AppendRecovery t e = itself-links x
accepted-links x setup.StreamRecovery t e = itself-links x
accepted-links x setup.CloseRecovery t e = itself-links x

pub completed-links : (x : WriterRecord) → In x (completed_step x)
completed-links x = λ e. absurd (false≢true e)

form-links : (x : WriterRecord) (d : DuePacket) → Runs x → In x (form_step x d)
form-links x (due.Data end s) e = λ _. record { connected = e.connected; members = refl; stamp = λ c. sym (e.stamp c); creates = λ _. tt }
form-links x due.Sync e = λ _. record { connected = e.connected; members = refl; stamp = λ c. sym (e.stamp c); creates = λ _. tt }
form-links x due.Last e = λ _. record { connected = e.connected; members = refl; stamp = λ c. sym (e.stamp c); creates = λ _. tt }

reach-links : (x : WriterRecord) (o : Option ℕ) → In x (reach_step_as x o)
reach-links x None = free-links x x.waiting
reach-links x (Some n) = λ e. record { connected = e; members = refl; stamp = λ _. refl; creates = λ c. c }

due-links : (x : WriterRecord) (o : Option DuePacket) → Runs x → In x (due_step x o)
due-links x None e = reach-links x (reached_length x.waiting x.stream)
due-links x (Some d) e = form-links x d e

stream-links : (x : WriterRecord) (sent : ℕ) (o : Option Packet) → Runs x → In x (stream_step_as x sent o)
stream-links x sent None e = due-links x (due_now x) e
stream-links x sent (Some p) e = λ _. record { connected = e.connected; members = refl; stamp = λ c. sym (e.stamp c); creates = λ _. tt }

step-links : (x : WriterRecord) (p : Phase) → x.phase ≡ p → In x (step_in x p)
step-links x phase.Closed e = free-links x x.waiting
step-links x (phase.Wanted s) e = itself-links x
step-links x (phase.Stamped s t) e = dial-links x s t x.members
step-links x (phase.Requested s t) e = free-links x x.waiting
step-links x (phase.Accepted s t) e = accepted-links x s t e
step-links x phase.Opened e = open-links x (opened-runs x e)
step-links x (phase.Streaming sent) e = stream-links x sent (slice_get x.stream.unacked sent) (streaming-runs x sent e)
step-links x phase.Closing e = free-links x x.waiting
step-links x phase.Finished e = itself-links x
step-links x phase.Completed e = completed-links x
step-links x (phase.Failed f) e = failed-links x f x.waiting

pub own-step-links : (x : WriterRecord) → In x (own_step x)
unfolding own_step
own-step-links x = step-links x x.phase refl

-- WHAT COMES

dropped-links : (x : WriterRecord) (s : Setup) (bad : NodeId) (ms : List NodeId) → Links x (dropped x s bad ms)
dropped-links x s bad [] = λ e. absurd (false≢true e)
dropped-links x s bad (m ∷ ms) = λ e. absurd (false≢true e)

fail-for-links : (x : WriterRecord) (r : Remedy) (bad : NodeId) → Links x (fail_for x r bad)
fail-for-links x remedy.Abandon bad = λ e. absurd (false≢true e)
fail-for-links x (remedy.Recover s) bad = dropped-links x s bad (without x.members bad)

fail-named-links : (x : WriterRecord) (r : Remedy) (o : Option NodeId) → Links x (fail_named x r o)
fail-named-links x r None = itself-links x
fail-named-links x r (Some bad) = fail-for-links x r bad

pub fail-links : (x : WriterRecord) (r : Remedy) (place : ℕ) → Links x (fail_at x r place)
fail-links x r place = fail-named-links x r (slice_get x.members place)

ended-as-links : (x : WriterRecord) (o : Option Remedy) → Links x (ended_as x o)
ended-as-links x None = itself-links x
ended-as-links x (Some r) = fail-links x r 0

pub ended-links : (x : WriterRecord) → Links x (ended x)
unfolding ended
ended-links x = ended-as-links x (remedy_in x.phase)

given-as-links : (x : WriterRecord) (c : Command) (r : Result Intake CommandFault) → Links x (given_as x c r)
given-as-links x c (Ok i) = λ e. record { connected = e; members = refl; stamp = λ _. refl; creates = λ c. c }
given-as-links x c (Err e) = itself-links x

pub given-links : (x : WriterRecord) (c : Command) → Links x (given x c)
given-links x c = given-as-links x c (admitted x.intake c)

-- ANSWERS AND ACKS

accepted-creates : (s : Setup) (t : Stamp) (c : Stamp) → Creates (phase.Requested s t) c → Creates (phase.Accepted s t) c
accepted-creates setup.Create t c h = h
accepted-creates setup.Append t c h = tt
accepted-creates setup.AppendRecovery t c h = tt
accepted-creates setup.StreamRecovery t c h = tt
accepted-creates setup.CloseRecovery t c h = tt

accepts-links : (x : WriterRecord) (s : Setup) (t : Stamp) → x.phase ≡ phase.Requested s t → Links x (record x { phase = phase.Accepted s t })
accepts-links x s t e = λ _. record {
  connected = ap (λ (p : Phase). is_connected p) e;
  members = refl;
  stamp = λ _. sym (ap (λ (p : Phase). setup_stamp p x.committed) e);
  creates = λ c. accepted-creates s t x.committed (subst (λ (p : Phase). Creates p x.committed) e c);
}

answered-in-links : (x : WriterRecord) (p : Phase) (good : Bool) (bad : Option NodeId) → x.phase ≡ p → Links x (setup_answered_in x p good bad)
answered-in-links x (phase.Requested s t) true bad e = accepts-links x s t e
answered-in-links x (phase.Requested s t) false bad e = fail-links x (remedy_after s) (bad_place x.members bad)
answered-in-links x phase.Closed good bad e = itself-links x
answered-in-links x (phase.Wanted s) good bad e = itself-links x
answered-in-links x (phase.Stamped s t) good bad e = itself-links x
answered-in-links x (phase.Accepted s t) good bad e = itself-links x
answered-in-links x phase.Opened good bad e = itself-links x
answered-in-links x (phase.Streaming sent) good bad e = itself-links x
answered-in-links x phase.Closing good bad e = itself-links x
answered-in-links x phase.Finished good bad e = itself-links x
answered-in-links x phase.Completed good bad e = itself-links x
answered-in-links x (phase.Failed f) good bad e = itself-links x

pub answered-links : (x : WriterRecord) (r : Response) (bad : Option NodeId) → Links x (setup_answered x r bad)
unfolding setup_answered
answered-links x r bad = answered-in-links x x.phase (is_success r.status) bad refl

-- the phase after a good ack
record AckLinks (b : Bool) (p : Phase) (c : Stamp) : Type 0 where
  pub connected : is_connected p ≡ true
  pub stamp : setup_stamp (phase_acked b p) c ≡ setup_stamp p c
  pub creates : Creates p c → Creates (phase_acked b p) c

phase-links : (b : Bool) (p : Phase) (c : Stamp) → is_connected (phase_acked b p) ≡ true → AckLinks b p c
phase-links true p c e = absurd (false≢true e)
phase-links false phase.Closed c e = record { connected = e; stamp = refl; creates = λ h. h }
phase-links false (phase.Wanted s) c e = record { connected = e; stamp = refl; creates = λ h. h }
phase-links false (phase.Stamped s t) c e = record { connected = e; stamp = refl; creates = λ h. h }
phase-links false (phase.Requested s t) c e = record { connected = e; stamp = refl; creates = λ h. h }
phase-links false (phase.Accepted s t) c e = record { connected = e; stamp = refl; creates = λ h. h }
phase-links false phase.Opened c e = record { connected = e; stamp = refl; creates = λ h. h }
phase-links false (phase.Streaming sent) c e = record { connected = refl; stamp = refl; creates = λ h. tt }
phase-links false phase.Closing c e = record { connected = e; stamp = refl; creates = λ h. h }
phase-links false phase.Finished c e = record { connected = e; stamp = refl; creates = λ h. h }
phase-links false phase.Completed c e = record { connected = e; stamp = refl; creates = λ h. h }
phase-links false (phase.Failed f) c e = record { connected = e; stamp = refl; creates = λ h. h }

good-links : (x : WriterRecord) → Links x (acked_oldest x)
good-links x = λ e. let k = phase-links (oldest_is_last x.stream) x.phase x.committed e in record { connected = k.connected; members = refl; stamp = λ _. k.stamp; creates = k.creates }

verdict-links : (x : WriterRecord) (r : Remedy) (v : Verdict) → Links x (acked_as x r v)
verdict-links x r verdict.Good = good-links x
verdict-links x r (verdict.Bad place) = fail-links x r place

acked-in-links : (x : WriterRecord) (a : Ack) (o : Option Remedy) → Links x (acked_in x a o)
acked-in-links x a None = itself-links x
acked-in-links x a (Some r) = verdict-links x r (ack_verdict (oldest_seqno x.stream) (length x.members) a)

pub acked-links : (x : WriterRecord) (a : Ack) → Links x (acked x a)
unfolding acked
acked-links x a = acked-in-links x a (remedy_at_ack x.phase)

pub hears-links : (x : WriterRecord) (n : Next) → Links x (writer_hears x n)
hears-links x (message (request r)) = ended-links x
hears-links x (message (packet p)) = ended-links x
hears-links x (message (ack a)) = acked-links x a
hears-links x (message (response r)) = answered-links x r (named_member x.members r.first_bad)
hears-links x (message (read_status s)) = ended-links x
hears-links x (message (recovery_answer a)) = ended-links x
hears-links x the_end = ended-links x

-- DIALS AND COMMANDS

unanswered-in-links : (x : WriterRecord) (p : Phase) → Links x (dialled_in x p false)
unanswered-in-links x (phase.Stamped s t) = fail-links x (remedy_after s) 0
unanswered-in-links x phase.Closed = itself-links x
unanswered-in-links x (phase.Wanted s) = itself-links x
unanswered-in-links x (phase.Requested s t) = itself-links x
unanswered-in-links x (phase.Accepted s t) = itself-links x
unanswered-in-links x phase.Opened = itself-links x
unanswered-in-links x (phase.Streaming sent) = itself-links x
unanswered-in-links x phase.Closing = itself-links x
unanswered-in-links x phase.Finished = itself-links x
unanswered-in-links x phase.Completed = itself-links x
unanswered-in-links x (phase.Failed f) = itself-links x

-- a dial that wasn't answered
pub unanswered-links : (x : WriterRecord) → Links x (dialled x false)
unfolding dialled
unanswered-links x = unanswered-in-links x x.phase

pub dialled-is : (x : WriterRecord) (s : Setup) (t : Stamp) → x.phase ≡ phase.Stamped s t → dialled x true ≡ record x { phase = phase.Requested s t }
unfolding dialled
dialled-is x s t e = ap (λ (p : Phase). dialled_in x p true) e

pub ruled-links : (x : WriterRecord) (c : Command) (r : Rule) → Links x (ruled x c r)
ruled-links x (command.Create members) r = λ e. record { connected = e; members = refl; stamp = λ _. refl; creates = λ c. c }
ruled-links x (command.Append members) r = itself-links x
ruled-links x (command.Write bytes) r = itself-links x
ruled-links x (command.Fill count) r = itself-links x
ruled-links x command.Hflush r = itself-links x
ruled-links x command.Hsync r = itself-links x
ruled-links x command.Close r = itself-links x

-- ANSWERS OF THE OFFICE

refused-as-links : (x : WriterRecord) (e : OfficeFault) → Links x (refused x e)
refused-as-links x fault.Memory = itself-links x
refused-as-links x (fault.LeaseLost recovery) = λ e. absurd (false≢true e)
refused-as-links x fault.Known = λ e. absurd (false≢true e)
refused-as-links x fault.Unknown = λ e. absurd (false≢true e)
refused-as-links x fault.NotOpen = λ e. absurd (false≢true e)
refused-as-links x fault.NotClosed = λ e. absurd (false≢true e)
refused-as-links x (fault.OldStamp committed) = λ e. absurd (false≢true e)
refused-as-links x (fault.OldRecovery latest) = λ e. absurd (false≢true e)
refused-as-links x (fault.TooLong bytes) = λ e. absurd (false≢true e)

stamped-links : (x : WriterRecord) (s : Setup) (t : Stamp) → Links x (stamped x s t)
stamped-links x setup.Create t = λ e. absurd (false≢true e)
stamped-links x setup.Append t = itself-links x
stamped-links x setup.AppendRecovery t = λ e. absurd (false≢true e)
stamped-links x setup.StreamRecovery t = λ e. absurd (false≢true e)
stamped-links x setup.CloseRecovery t = λ e. absurd (false≢true e)

reopened-links : (x : WriterRecord) (s : Setup) (r : Reopened) → Links x (reopened x s r)
reopened-links x setup.Create r = itself-links x
reopened-links x setup.Append r = if-each (λ (y : WriterRecord). Links x y) (nat_le r.length MAX_APPEND_LENGTH) (record (begin_session x r.committed r.length) { phase = phase.Stamped setup.Append r.new }) x (λ _ e. absurd (false≢true e)) (λ _. itself-links x)
reopened-links x setup.AppendRecovery r = itself-links x
reopened-links x setup.StreamRecovery r = itself-links x
reopened-links x setup.CloseRecovery r = itself-links x

given-stamp-links : (x : WriterRecord) (s : Setup) (a : OfficeAnswer) → Links x (stamp_given x s a)
given-stamp-links x s (office.Stamp t) = stamped-links x s t
given-stamp-links x s (office.Reopened r) = reopened-links x s r
given-stamp-links x s (office.Begun r) = itself-links x
given-stamp-links x s office.Nothing = itself-links x

committed-to : (x : WriterRecord) (s : Setup) (t : Stamp) → x.phase ≡ phase.Accepted s t → is_connected (phase.Accepted s t) ≡ true → (p : Phase) → setup_stamp p t ≡ t → Creates p t → LinksTo x (record x { committed = t; phase = p })
committed-to x s t e c p q k = record {
  connected = ap (λ (r : Phase). is_connected r) e ∙ c;
  members = refl;
  stamp = λ _. q ∙ sym (ap (λ (r : Phase). setup_stamp r x.committed) e);
  creates = λ _. k;
}

committed-links : (x : WriterRecord) (s : Setup) (t : Stamp) → x.phase ≡ phase.Accepted s t → Links x (committed_as x s t)
committed-links x setup.Create t e = itself-links x
committed-links x setup.Append t e = λ _. committed-to x setup.Append t e refl phase.Opened refl tt
committed-links x setup.AppendRecovery t e = λ _. committed-to x setup.AppendRecovery t e refl phase.Opened refl tt
committed-links x setup.StreamRecovery t e = λ _. committed-to x setup.StreamRecovery t e refl (phase.Streaming 0) refl tt
committed-links x setup.CloseRecovery t e = λ z. absurd (false≢true z)

commit-links : (x : WriterRecord) (s : Setup) (t : Stamp) (a : OfficeAnswer) → x.phase ≡ phase.Accepted s t → Links x (commit_given x s t a)
commit-links x s t office.Nothing e = committed-links x s t e
commit-links x s t (office.Stamp u) e = itself-links x
commit-links x s t (office.Reopened r) e = itself-links x
commit-links x s t (office.Begun r) e = itself-links x

complete-links : (x : WriterRecord) (a : OfficeAnswer) → Links x (complete_given x a)
complete-links x office.Nothing = λ e. absurd (false≢true e)
complete-links x (office.Stamp u) = itself-links x
complete-links x (office.Reopened r) = itself-links x
complete-links x (office.Begun r) = itself-links x

granted-in-links : (x : WriterRecord) (p : Phase) (a : OfficeAnswer) → x.phase ≡ p → Links x (granted_in x p a)
granted-in-links x (phase.Wanted s) a e = given-stamp-links x s a
granted-in-links x (phase.Accepted s t) a e = commit-links x s t a e
granted-in-links x phase.Finished a e = complete-links x a
granted-in-links x phase.Closed a e = itself-links x
granted-in-links x (phase.Stamped s t) a e = itself-links x
granted-in-links x (phase.Requested s t) a e = itself-links x
granted-in-links x phase.Opened a e = itself-links x
granted-in-links x (phase.Streaming sent) a e = itself-links x
granted-in-links x phase.Closing a e = itself-links x
granted-in-links x phase.Completed a e = itself-links x
granted-in-links x (phase.Failed f) a e = itself-links x

granted-as-links : (x : WriterRecord) (r : Result OfficeAnswer OfficeFault) → Links x (granted_as x r)
granted-as-links x (Ok a) = granted-in-links x x.phase a refl
granted-as-links x (Err e) = if-each (λ (y : WriterRecord). Links x y) (asks x.phase) (refused x e) x (λ _. refused-as-links x e) (λ _. itself-links x)

pub granted-links : (x : WriterRecord) (r : Result OfficeAnswer OfficeFault) → Links x (granted x r)
unfolding granted
granted-links x r = granted-as-links x r
