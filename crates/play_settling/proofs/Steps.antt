-- What a writer does next, and which of its steps leave it about to dial.
use Rattle.std.proofs.Common.{◌≡◌, ℕ, Bool, true, false, List, [], ◌∷◌, length, slice_get, Option, Some, None, refl, sym, ◌∙◌, subst}
use Rattle.std.proofs.lemmas.Bool.{false≢true}
use Rattle.hd_base.specs.declared.numbers.NodeId.{NodeId}
use Rattle.hd_base.specs.declared.numbers.Stamp.{Stamp}
use Rattle.ack_codec.specs.declared.acks.Ack.{Ack}
use Rattle.ack_codec.specs.declared.responses.Response.{Response}
use Rattle.packet_codec.specs.declared.packets.Packet.{Packet}
use Rattle.packet_stream.specs.Streams.{oldest_is_last, oldest_seqno}
use Rattle.writer_core.specs.declared.actions.Action.{Action}
use Rattle.writer_core.specs.declared.actions.Action.TheVariants as action
use Rattle.writer_core.specs.declared.commands.Command.{Command}
use Rattle.writer_core.specs.declared.commands.Command.TheVariants as command
use Rattle.writer_core.specs.declared.phases.DuePacket.{DuePacket}
use Rattle.writer_core.specs.declared.phases.DuePacket.TheVariants as due
use Rattle.writer_core.specs.declared.phases.Failure.{Failure}
use Rattle.writer_core.specs.declared.phases.Phase.{Phase}
use Rattle.writer_core.specs.declared.phases.Phase.TheVariants as phase
use Rattle.writer_core.specs.declared.phases.Remedy.{Remedy}
use Rattle.writer_core.specs.declared.phases.Remedy.TheVariants as remedy
use Rattle.writer_core.specs.declared.phases.Setup.{Setup}
use Rattle.writer_core.specs.declared.phases.Setup.TheVariants as setup
use Rattle.writer_core.specs.declared.phases.Verdict.{Verdict}
use Rattle.writer_core.specs.declared.phases.Verdict.TheVariants as verdict
use Rattle.writer_core.specs.declared.phases.Waiting.{Waiting}
use Rattle.writer_core.specs.declared.records.WriterRecord.{WriterRecord}
use Rattle.writer_core.specs.Phases.{remedy_after, remedy_in, remedy_at_ack, is_success, ack_verdict, bad_place, without}
use Rattle.writer_core.specs.Transitions.{taken_as, take_first, free_step_as, failed_first, failed_step_as, dial_step_as, accepted_step, due_step, due_now, reach_step_as, reached_length, stream_step_as, step_in, own_step, dropped, fail_for, fail_named, fail_at, ended_as, ended, phase_acked, acked_as, acked_in, acked, setup_answered_in, setup_answered, dialled_in, dialled}
use Rattle.world.specs.Parts.{request, packet, ack, response, read_status, recovery_answer}
use Rattle.world.specs.Connections.{Next, message, the_end}
use Rattle.world.specs.Clients.{named_member, writer_hears}

-- a writer in this phase dials next, if it has members
abbrev pub dials : Phase → Bool
dials (phase.Stamped s stamp) = true
dials _ = false

abbrev pub Undialled : WriterRecord → Type 0
Undialled x = dials x.phase ≡ true → x.members ≡ []

pub never : (x : WriterRecord) → dials x.phase ≡ false → Undialled x
never x e d = absurd (false≢true (sym e ∙ d))

-- THE NEXT ACTION

-- neither a dial nor want of memory
abbrev pub is_plain : Action → Bool
is_plain (action.Dial to r) = false
is_plain action.Memory = false
is_plain _ = true

free-plain : (x : WriterRecord) (o : Option Waiting) → is_plain (free_step_as x o).action ≡ true
free-plain x (Some y) = refl
free-plain x None = go (slice_get x.queue 0)
  where
    go : (o : Option Command) → is_plain (take_first x o).action ≡ true
    go None = refl
    go (Some c) = refl

failed-plain : (x : WriterRecord) (f : Failure) (o : Option Waiting) → is_plain (failed_step_as x f o).action ≡ true
failed-plain x f (Some y) = refl
failed-plain x f None = go (slice_get x.queue 0)
  where
    go : (o : Option Command) → is_plain (failed_first x f o).action ≡ true
    go None = refl
    go (Some (command.Create members)) = refl
    go (Some (command.Append members)) = refl
    go (Some (command.Write bytes)) = refl
    go (Some (command.Fill count)) = refl
    go (Some command.Hflush) = refl
    go (Some command.Hsync) = refl
    go (Some command.Close) = refl

accepted-plain : (x : WriterRecord) (s : Setup) (stamp : Stamp) → is_plain (accepted_step x s stamp).action ≡ true
accepted-plain x setup.Create stamp = refl
accepted-plain x setup.Append stamp = refl
accepted-plain x setup.AppendRecovery stamp = refl
accepted-plain x setup.StreamRecovery stamp = refl
accepted-plain x setup.CloseRecovery stamp = refl

reach-plain : (x : WriterRecord) (o : Option ℕ) → is_plain (reach_step_as x o).action ≡ true
reach-plain x (Some n) = refl
reach-plain x None = free-plain x x.waiting

due-plain : (x : WriterRecord) (o : Option DuePacket) → is_plain (due_step x o).action ≡ true
due-plain x (Some (due.Data end is_sync)) = refl
due-plain x (Some due.Sync) = refl
due-plain x (Some due.Last) = refl
due-plain x None = reach-plain x (reached_length x.waiting x.stream)

stream-plain : (x : WriterRecord) (sent : ℕ) (o : Option Packet) → is_plain (stream_step_as x sent o).action ≡ true
stream-plain x sent (Some p) = refl
stream-plain x sent None = due-plain x (due_now x)

step-plain : (x : WriterRecord) (p : Phase) → (dials p ≡ true → x.members ≡ []) → is_plain (step_in x p).action ≡ true
step-plain x phase.Closed h = free-plain x x.waiting
step-plain x (phase.Wanted s) h = refl
step-plain x (phase.Stamped s stamp) h = subst (λ (ns : List NodeId). is_plain (dial_step_as x s stamp ns).action ≡ true) (sym (h refl)) refl
step-plain x (phase.Requested s stamp) h = free-plain x x.waiting
step-plain x (phase.Accepted s stamp) h = accepted-plain x s stamp
step-plain x phase.Opened h = refl
step-plain x (phase.Streaming sent) h = stream-plain x sent (slice_get x.stream.unacked sent)
step-plain x phase.Closing h = free-plain x x.waiting
step-plain x phase.Finished h = refl
step-plain x phase.Completed h = refl
step-plain x (phase.Failed f) h = failed-plain x f x.waiting

pub own-plain : (x : WriterRecord) → Undialled x → is_plain (own_step x).action ≡ true
unfolding own_step
own-plain x h = step-plain x x.phase h

-- THE PHASE BEHIND A STEP

taken-phase : (x : WriterRecord) (c : Command) → dials x.phase ≡ false → dials (taken_as x c).phase ≡ false
taken-phase x (command.Create members) h = refl
taken-phase x (command.Append members) h = refl
taken-phase x (command.Write bytes) h = h
taken-phase x (command.Fill count) h = h
taken-phase x command.Hflush h = h
taken-phase x command.Hsync h = h
taken-phase x command.Close h = h

free-phase : (x : WriterRecord) (o : Option Waiting) → dials x.phase ≡ false → dials (free_step_as x o).writer.phase ≡ false
free-phase x (Some y) h = h
free-phase x None h = go (slice_get x.queue 0)
  where
    go : (o : Option Command) → dials (take_first x o).writer.phase ≡ false
    go None = h
    go (Some c) = taken-phase x c h

failed-phase : (x : WriterRecord) (f : Failure) (o : Option Waiting) → dials x.phase ≡ false → dials (failed_step_as x f o).writer.phase ≡ false
failed-phase x f (Some y) h = h
failed-phase x f None h = go (slice_get x.queue 0)
  where
    go : (o : Option Command) → dials (failed_first x f o).writer.phase ≡ false
    go None = h
    go (Some (command.Create members)) = h
    go (Some (command.Append members)) = refl
    go (Some (command.Write bytes)) = h
    go (Some (command.Fill count)) = h
    go (Some command.Hflush) = h
    go (Some command.Hsync) = h
    go (Some command.Close) = h

dial-phase : (x : WriterRecord) (s : Setup) (stamp : Stamp) (ns : List NodeId) → dials x.phase ≡ false → dials (dial_step_as x s stamp ns).writer.phase ≡ false
dial-phase x s stamp [] h = h
dial-phase x s stamp (n ∷ ns) h = h

accepted-phase : (x : WriterRecord) (s : Setup) (stamp : Stamp) → dials x.phase ≡ false → dials (accepted_step x s stamp).writer.phase ≡ false
accepted-phase x setup.Create stamp h = refl
accepted-phase x setup.Append stamp h = h
accepted-phase x setup.AppendRecovery stamp h = h
accepted-phase x setup.StreamRecovery stamp h = h
accepted-phase x setup.CloseRecovery stamp h = h

reach-phase : (x : WriterRecord) (o : Option ℕ) → dials x.phase ≡ false → dials (reach_step_as x o).writer.phase ≡ false
reach-phase x (Some n) h = h
reach-phase x None h = free-phase x x.waiting h

due-phase : (x : WriterRecord) (o : Option DuePacket) → dials x.phase ≡ false → dials (due_step x o).writer.phase ≡ false
due-phase x (Some (due.Data end is_sync)) h = refl
due-phase x (Some due.Sync) h = refl
due-phase x (Some due.Last) h = refl
due-phase x None h = reach-phase x (reached_length x.waiting x.stream) h

stream-phase : (x : WriterRecord) (sent : ℕ) (o : Option Packet) → dials x.phase ≡ false → dials (stream_step_as x sent o).writer.phase ≡ false
stream-phase x sent (Some p) h = refl
stream-phase x sent None h = due-phase x (due_now x) h

pub step-phase : (x : WriterRecord) (p : Phase) → dials x.phase ≡ false → dials (step_in x p).writer.phase ≡ false
step-phase x phase.Closed h = free-phase x x.waiting h
step-phase x (phase.Wanted s) h = h
step-phase x (phase.Stamped s stamp) h = dial-phase x s stamp x.members h
step-phase x (phase.Requested s stamp) h = free-phase x x.waiting h
step-phase x (phase.Accepted s stamp) h = accepted-phase x s stamp h
step-phase x phase.Opened h = refl
step-phase x (phase.Streaming sent) h = stream-phase x sent (slice_get x.stream.unacked sent) h
step-phase x phase.Closing h = free-phase x x.waiting h
step-phase x phase.Finished h = h
step-phase x phase.Completed h = refl
step-phase x (phase.Failed f) h = failed-phase x f x.waiting h

-- WHAT IT TAKES

dropped-phase : (x : WriterRecord) (s : Setup) (bad : NodeId) (ms : List NodeId) → dials (dropped x s bad ms).phase ≡ false
dropped-phase x s bad [] = refl
dropped-phase x s bad (m ∷ ms) = refl

fail-phase : (x : WriterRecord) (r : Remedy) (bad : NodeId) → dials (fail_for x r bad).phase ≡ false
fail-phase x remedy.Abandon bad = refl
fail-phase x (remedy.Recover s) bad = dropped-phase x s bad (without x.members bad)

fail-undialled : (x : WriterRecord) (r : Remedy) (place : ℕ) → Undialled x → Undialled (fail_at x r place)
fail-undialled x r place h = go (slice_get x.members place)
  where
    go : (o : Option NodeId) → Undialled (fail_named x r o)
    go None = h
    go (Some bad) = never (fail_for x r bad) (fail-phase x r bad)

ended-undialled : (x : WriterRecord) → Undialled x → Undialled (ended x)
unfolding ended
ended-undialled x h = go (remedy_in x.phase)
  where
    go : (o : Option Remedy) → Undialled (ended_as x o)
    go None = h
    go (Some r) = fail-undialled x r 0 h

acked-phase : (b : Bool) (p : Phase) → dials (phase_acked b p) ≡ true → dials p ≡ true
acked-phase true p d = absurd (false≢true d)
acked-phase false (phase.Streaming sent) d = d
acked-phase false phase.Closed d = d
acked-phase false (phase.Wanted s) d = d
acked-phase false (phase.Stamped s stamp) d = d
acked-phase false (phase.Requested s stamp) d = d
acked-phase false (phase.Accepted s stamp) d = d
acked-phase false phase.Opened d = d
acked-phase false phase.Closing d = d
acked-phase false phase.Finished d = d
acked-phase false phase.Completed d = d
acked-phase false (phase.Failed f) d = d

acked-undialled : (x : WriterRecord) (a : Ack) → Undialled x → Undialled (acked x a)
unfolding acked
acked-undialled x a h = go (remedy_at_ack x.phase)
  where
    says : (r : Remedy) (v : Verdict) → Undialled (acked_as x r v)
    says r verdict.Good = λ d. h (acked-phase (oldest_is_last x.stream) x.phase d)
    says r (verdict.Bad place) = fail-undialled x r place h

    go : (o : Option Remedy) → Undialled (acked_in x a o)
    go None = h
    go (Some r) = says r (ack_verdict (oldest_seqno x.stream) (length x.members) a)

setup-undialled : (x : WriterRecord) (p : Phase) (good : Bool) (bad : Option NodeId) → Undialled x → Undialled (setup_answered_in x p good bad)
setup-undialled x (phase.Requested s stamp) true bad h = never (setup_answered_in x (phase.Requested s stamp) true bad) refl
setup-undialled x (phase.Requested s stamp) false bad h = fail-undialled x (remedy_after s) (bad_place x.members bad) h
setup-undialled x phase.Closed good bad h = h
setup-undialled x (phase.Wanted s) good bad h = h
setup-undialled x (phase.Stamped s stamp) good bad h = h
setup-undialled x (phase.Accepted s stamp) good bad h = h
setup-undialled x phase.Opened good bad h = h
setup-undialled x (phase.Streaming sent) good bad h = h
setup-undialled x phase.Closing good bad h = h
setup-undialled x phase.Finished good bad h = h
setup-undialled x phase.Completed good bad h = h
setup-undialled x (phase.Failed f) good bad h = h

answered-undialled : (x : WriterRecord) (r : Response) (bad : Option NodeId) → Undialled x → Undialled (setup_answered x r bad)
unfolding setup_answered
answered-undialled x r bad h = setup-undialled x x.phase (is_success r.status) bad h

pub hears-undialled : (x : WriterRecord) (n : Next) → Undialled x → Undialled (writer_hears x n)
hears-undialled x (message (response r)) h = answered-undialled x r (named_member x.members r.first_bad) h
hears-undialled x (message (ack a)) h = acked-undialled x a h
hears-undialled x (message (request r)) h = ended-undialled x h
hears-undialled x (message (packet p)) h = ended-undialled x h
hears-undialled x (message (read_status s)) h = ended-undialled x h
hears-undialled x (message (recovery_answer a)) h = ended-undialled x h
hears-undialled x the_end h = ended-undialled x h

-- a writer whose dial was answered or not doesn't dial next
pub dialled-phase : (x : WriterRecord) (answered : Bool) (s : Setup) (stamp : Stamp) (n : NodeId) (ns : List NodeId) → x.members ≡ n ∷ ns → x.phase ≡ phase.Stamped s stamp → dials (dialled x answered).phase ≡ false
unfolding dialled
dialled-phase x answered s stamp n ns m e = subst (λ (p : Phase). dials (dialled_in x p answered).phase ≡ false) (sym e) (by answered)
  where
    by : (b : Bool) → dials (dialled_in x (phase.Stamped s stamp) b).phase ≡ false
    by true = refl
    by false = subst (λ (ms : List NodeId). dials (fail_named x (remedy_after s) (slice_get ms 0)).phase ≡ false) (sym m) (fail-phase x (remedy_after s) n)
