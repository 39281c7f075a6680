-- In which phases a writer's own step answers with a length.
use Rattle.std.proofs.Common.{◌≡◌, ℕ, Bool, true, false, List, [], ◌∷◌, Option, Some, None, refl, ap}
use Rattle.std.specs.Prelude.{slice_get}
use Rattle.hd_base.specs.declared.numbers.NodeId.{NodeId}
use Rattle.hd_base.specs.declared.numbers.Stamp.{Stamp}
use Rattle.packet_codec.specs.declared.packets.Packet.{Packet}
use Rattle.writer_core.specs.declared.actions.Action.TheVariants as action
use Rattle.writer_core.specs.declared.actions.ClientAnswer.TheVariants as answer
use Rattle.writer_core.specs.declared.commands.Command.{Command}
use Rattle.writer_core.specs.declared.commands.Command.TheVariants as command
use Rattle.writer_core.specs.declared.phases.DuePacket.{DuePacket}
use Rattle.writer_core.specs.declared.phases.DuePacket.TheVariants as due
use Rattle.writer_core.specs.declared.phases.Failure.{Failure}
use Rattle.writer_core.specs.declared.phases.Failure.TheVariants as failure
use Rattle.writer_core.specs.declared.phases.Phase.{Phase}
use Rattle.writer_core.specs.declared.phases.Phase.TheVariants as phase
use Rattle.writer_core.specs.declared.phases.Setup.{Setup}
use Rattle.writer_core.specs.declared.phases.Setup.TheVariants as setup
use Rattle.writer_core.specs.declared.phases.Waiting.{Waiting}
use Rattle.writer_core.specs.declared.records.WriterRecord.{WriterRecord}
use Rattle.writer_core.specs.Transitions.{Step, ordinal, take_first, free_step_as, failure_answer, failed_command, failed_first, failed_step_as, dial_step_as, accepted_step, form_step, reached_length, reach_step_as, due_now, due_step, stream_step_as, step_in, own_step}

-- a writer that streams, or has completed its block
abbrev pub answers_in : Phase → Bool
answers_in (phase.Streaming sent) = true
answers_in phase.Completed = true
answers_in _ = false

-- A step that answers with a length is one of such a writer, and takes no command.
pub record Answering (x : WriterRecord) (s : Step) : Type 0 where
  pub reaches : answers_in x.phase ≡ true
  pub queue : s.writer.queue ≡ x.queue

abbrev Says : WriterRecord → Step → Type 0
Says x s = (i n : ℕ) (t : Stamp) (ms : List NodeId) → s.action ≡ action.Answered i (answer.Reached n t ms) → Answering x s

first-says : (x : WriterRecord) (o : Option Command) → Says x (take_first x o)
first-says x None = λ i n t ms e. absurd (cc)
first-says x (Some c) = λ i n t ms e. absurd (cc)

free-says : (x : WriterRecord) (o : Option Waiting) → Says x (free_step_as x o)
free-says x None = first-says x (slice_get x.queue 0)
free-says x (Some w) = λ i n t ms e. absurd (cc)

failure-apart : (f : Failure) (i k n : ℕ) (t : Stamp) (ms : List NodeId) → action.Answered i (failure_answer f) ≡ action.Answered k (answer.Reached n t ms) → ⊥
failure-apart (failure.Abandoned m) i k n t ms e = cc
failure-apart (failure.AllBad m) i k n t ms e = cc
failure-apart (failure.Lost recovery) i k n t ms e = cc
failure-apart (failure.Refused fault) i k n t ms e = cc

failed-command-says : (x : WriterRecord) (f : Failure) (c : Command) → Says x (failed_command x f c)
failed-command-says x f (command.Append members) = λ i n t ms e. absurd (cc)
failed-command-says x f (command.Create members) = λ i n t ms e. absurd (failure-apart f x.taken i n t ms e)
failed-command-says x f (command.Write bytes) = λ i n t ms e. absurd (failure-apart f x.taken i n t ms e)
failed-command-says x f (command.Fill count) = λ i n t ms e. absurd (failure-apart f x.taken i n t ms e)
failed-command-says x f command.Hflush = λ i n t ms e. absurd (failure-apart f x.taken i n t ms e)
failed-command-says x f command.Hsync = λ i n t ms e. absurd (failure-apart f x.taken i n t ms e)
failed-command-says x f command.Close = λ i n t ms e. absurd (failure-apart f x.taken i n t ms e)

failed-first-says : (x : WriterRecord) (f : Failure) (o : Option Command) → Says x (failed_first x f o)
failed-first-says x f None = λ i n t ms e. absurd (cc)
failed-first-says x f (Some c) = failed-command-says x f c

failed-says : (x : WriterRecord) (f : Failure) (o : Option Waiting) → Says x (failed_step_as x f o)
failed-says x f None = failed-first-says x f (slice_get x.queue 0)
failed-says x f (Some w) = λ i n t ms e. absurd (failure-apart f (ordinal x) i n t ms e)

dial-says : (x : WriterRecord) (s : Setup) (u : Stamp) (left : List NodeId) → Says x (dial_step_as x s u left)
dial-says x s u [] = λ i n t ms e. absurd (cc)
dial-says x s u (m ∷ left) = λ i n t ms e. absurd (cc)

accepted-says : (x : WriterRecord) (s : Setup) (u : Stamp) → Says x (accepted_step x s u)
accepted-says x setup.Create u = λ i n t ms e. absurd (cc)
accepted-says x setup.Append u = λ i n t ms e. absurd (cc)
accepted-says x setup.AppendRecovery u = λ i n t ms e. absurd (cc)
accepted-says x setup.StreamRecovery u = λ i n t ms e. absurd (cc)
accepted-says x setup.CloseRecovery u = λ i n t ms e. absurd (cc)

form-says : (x : WriterRecord) (d : DuePacket) → Says x (form_step x d)
form-says x (due.Data end s) = λ i n t ms e. absurd (cc)
form-says x due.Sync = λ i n t ms e. absurd (cc)
form-says x due.Last = λ i n t ms e. absurd (cc)

reach-says : (x : WriterRecord) (o : Option ℕ) → answers_in x.phase ≡ true → Says x (reach_step_as x o)
reach-says x None h = free-says x x.waiting
reach-says x (Some m) h = λ i n t ms e. record { reaches = h; queue = refl }

due-says : (x : WriterRecord) (o : Option DuePacket) → answers_in x.phase ≡ true → Says x (due_step x o)
due-says x None h = reach-says x (reached_length x.waiting x.stream) h
due-says x (Some d) h = form-says x d

stream-says : (x : WriterRecord) (sent : ℕ) (o : Option Packet) → answers_in x.phase ≡ true → Says x (stream_step_as x sent o)
stream-says x sent None h = due-says x (due_now x) h
stream-says x sent (Some p) h = λ i n t ms e. absurd (cc)

step-says : (x : WriterRecord) (p : Phase) → x.phase ≡ p → Says x (step_in x p)
step-says x phase.Closed h = free-says x x.waiting
step-says x (phase.Wanted s) h = λ i n t ms e. absurd (cc)
step-says x (phase.Stamped s u) h = dial-says x s u x.members
step-says x (phase.Requested s u) h = free-says x x.waiting
step-says x (phase.Accepted s u) h = accepted-says x s u
step-says x phase.Opened h = λ i n t ms e. absurd (cc)
step-says x (phase.Streaming sent) h = stream-says x sent (slice_get x.stream.unacked sent) (ap answers_in h)
step-says x phase.Closing h = free-says x x.waiting
step-says x phase.Finished h = λ i n t ms e. absurd (cc)
step-says x phase.Completed h = λ i n t ms e. record { reaches = ap answers_in h; queue = refl }
step-says x (phase.Failed f) h = failed-says x f x.waiting

pub own-step-says : (x : WriterRecord) → Says x (own_step x)
unfolding own_step
own-step-says x = step-says x x.phase refl
