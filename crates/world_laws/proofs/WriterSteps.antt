-- What a writer's steps leave: its block, and the committed stamp but by an answer of the office. And when it asks.
use Rattle.std.proofs.Common.{◌≡◌, ℕ, Bool, true, false, List, [], ◌∷◌, Option, Some, None, Result, Ok, Err, refl, ◌∙◌}
use Rattle.std.specs.Prelude.{slice_get}
use Rattle.hd_base.specs.declared.numbers.NodeId.{NodeId}
use Rattle.hd_base.specs.declared.numbers.Stamp.{Stamp}
use Rattle.hd_base.specs.SumRules.{Rule}
use Rattle.world.specs.AckCodec.Ack.{Ack}
use Rattle.world.specs.AckCodec.Response.{Response}
use Rattle.world.specs.PacketCodec.Packet.{Packet}
use Rattle.world.specs.WriterCore.Command.{Command}
use Rattle.world.specs.WriterCore.Command.TheVariants as command
use Rattle.world.specs.WriterCore.CommandFault.{CommandFault}
use Rattle.world.specs.WriterCore.Intake.{Intake}
use Rattle.world.specs.WriterCore.DuePacket.{DuePacket}
use Rattle.world.specs.WriterCore.DuePacket.TheVariants as due
use Rattle.world.specs.WriterCore.Failure.{Failure}
use Rattle.world.specs.WriterCore.Phase.{Phase}
use Rattle.world.specs.WriterCore.Phase.TheVariants as phase
use Rattle.world.specs.WriterCore.Remedy.{Remedy}
use Rattle.world.specs.WriterCore.Remedy.TheVariants as remedy
use Rattle.world.specs.WriterCore.Setup.{Setup}
use Rattle.world.specs.WriterCore.Setup.TheVariants as setup
use Rattle.world.specs.WriterCore.Verdict.{Verdict}
use Rattle.world.specs.WriterCore.Verdict.TheVariants as verdict
use Rattle.world.specs.WriterCore.Waiting.{Waiting}
use Rattle.world.specs.WriterCore.WriterRecord.{WriterRecord}
use Rattle.world.specs.WriterCore.Commands.{admitted}
use Rattle.world.specs.WriterCore.Phases.{remedy_after, remedy_in, remedy_at_ack, bad_place, without, is_success}
use Rattle.world.specs.WriterCore.Transitions.{given, given_as, take_first, taken_as, free_step_as, failed_first, failed_command, failed_step_as, dial_step_as, open_step, accepted_step, completed_step, form_step, reach_step_as, reached_length, due_step, due_now, stream_step_as, step_in, own_step, dropped, fail_for, fail_named, fail_at, ended, ended_as, acked, acked_as, acked_in, setup_answered, setup_answered_in, dialled, dialled_in}
use Rattle.world.specs.Connections.{Next, message, the_end}
use Rattle.world.specs.Parts.{request, packet, ack, response, read_status, recovery_answer}
use Rattle.world.specs.Clients.{ruled, named_member, writer_hears}

-- the same block, under the same committed stamp
pub record Same (x y : WriterRecord) : Type 0 where
  pub block : y.block ≡ x.block
  pub committed : y.committed ≡ x.committed

pub same : (x : WriterRecord) → Same x x
same x = record { block = refl; committed = refl }

pub same-then : (x y z : WriterRecord) → Same x y → Same y z → Same x z
same-then x y z a b = record { block = b.block ∙ a.block; committed = b.committed ∙ a.committed }

-- OWN STEPS

taken-same : (x : WriterRecord) (c : Command) → Same x (taken_as x c)
taken-same x (command.Create members) = record { block = refl; committed = refl }
taken-same x (command.Append members) = record { block = refl; committed = refl }
taken-same x (command.Write bytes) = record { block = refl; committed = refl }
taken-same x (command.Fill count) = record { block = refl; committed = refl }
taken-same x command.Hflush = record { block = refl; committed = refl }
taken-same x command.Hsync = record { block = refl; committed = refl }
taken-same x command.Close = record { block = refl; committed = refl }

first-same : (x : WriterRecord) (o : Option Command) → Same x (take_first x o).writer
first-same x None = same x
first-same x (Some c) = taken-same x c

free-same : (x : WriterRecord) (o : Option Waiting) → Same x (free_step_as x o).writer
free-same x None = first-same x (slice_get x.queue 0)
free-same x (Some y) = same x

failed-command-same : (x : WriterRecord) (f : Failure) (c : Command) → Same x (failed_command x f c).writer
failed-command-same x f (command.Create members) = record { block = refl; committed = refl }
failed-command-same x f (command.Append members) = record { block = refl; committed = refl }
failed-command-same x f (command.Write bytes) = record { block = refl; committed = refl }
failed-command-same x f (command.Fill count) = record { block = refl; committed = refl }
failed-command-same x f command.Hflush = record { block = refl; committed = refl }
failed-command-same x f command.Hsync = record { block = refl; committed = refl }
failed-command-same x f command.Close = record { block = refl; committed = refl }

failed-first-same : (x : WriterRecord) (f : Failure) (o : Option Command) → Same x (failed_first x f o).writer
failed-first-same x f None = same x
failed-first-same x f (Some c) = failed-command-same x f c

failed-same : (x : WriterRecord) (f : Failure) (o : Option Waiting) → Same x (failed_step_as x f o).writer
failed-same x f None = failed-first-same x f (slice_get x.queue 0)
failed-same x f (Some y) = record { block = refl; committed = refl }

dial-same : (x : WriterRecord) (s : Setup) (stamp : Stamp) (ms : List NodeId) → Same x (dial_step_as x s stamp ms).writer
dial-same x s stamp [] = same x
dial-same x s stamp (m ∷ ms) = same x

accepted-same : (x : WriterRecord) (s : Setup) (stamp : Stamp) → Same x (accepted_step x s stamp).writer
accepted-same x setup.Create stamp = record { block = refl; committed = refl }
accepted-same x setup.Append stamp = same x
accepted-same x setup.AppendRecovery stamp = same x
accepted-same x setup.StreamRecovery stamp = same x
accepted-same x setup.CloseRecovery stamp = same x

form-same : (x : WriterRecord) (d : DuePacket) → Same x (form_step x d).writer
form-same x (due.Data end s) = record { block = refl; committed = refl }
form-same x due.Sync = record { block = refl; committed = refl }
form-same x due.Last = record { block = refl; committed = refl }

reach-same : (x : WriterRecord) (o : Option ℕ) → Same x (reach_step_as x o).writer
reach-same x None = free-same x x.waiting
reach-same x (Some n) = record { block = refl; committed = refl }

due-same : (x : WriterRecord) (o : Option DuePacket) → Same x (due_step x o).writer
due-same x None = reach-same x (reached_length x.waiting x.stream)
due-same x (Some d) = form-same x d

stream-same : (x : WriterRecord) (sent : ℕ) (o : Option Packet) → Same x (stream_step_as x sent o).writer
stream-same x sent None = due-same x (due_now x)
stream-same x sent (Some p) = record { block = refl; committed = refl }

step-same : (x : WriterRecord) (p : Phase) → Same x (step_in x p).writer
step-same x phase.Closed = free-same x x.waiting
step-same x (phase.Wanted s) = same x
step-same x (phase.Stamped s stamp) = dial-same x s stamp x.members
step-same x (phase.Requested s stamp) = free-same x x.waiting
step-same x (phase.Accepted s stamp) = accepted-same x s stamp
step-same x phase.Opened = record { block = refl; committed = refl }
step-same x (phase.Streaming sent) = stream-same x sent (slice_get x.stream.unacked sent)
step-same x phase.Closing = free-same x x.waiting
step-same x phase.Finished = same x
step-same x phase.Completed = record { block = refl; committed = refl }
step-same x (phase.Failed f) = failed-same x f x.waiting

pub own-step-same : (x : WriterRecord) → Same x (own_step x).writer
unfolding own_step
own-step-same x = step-same x x.phase

pub open-same : (x : WriterRecord) → Same x (open_step x).writer
open-same x = record { block = refl; committed = refl }

pub completed-same : (x : WriterRecord) → Same x (completed_step x).writer
completed-same x = record { block = refl; committed = refl }

-- WHAT IT TAKES

dropped-same : (x : WriterRecord) (s : Setup) (bad : NodeId) (ms : List NodeId) → Same x (dropped x s bad ms)
dropped-same x s bad [] = record { block = refl; committed = refl }
dropped-same x s bad (m ∷ ms) = record { block = refl; committed = refl }

for-same : (x : WriterRecord) (r : Remedy) (bad : NodeId) → Same x (fail_for x r bad)
for-same x remedy.Abandon bad = record { block = refl; committed = refl }
for-same x (remedy.Recover s) bad = dropped-same x s bad (without x.members bad)

named-same : (x : WriterRecord) (r : Remedy) (o : Option NodeId) → Same x (fail_named x r o)
named-same x r None = same x
named-same x r (Some bad) = for-same x r bad

fail-same : (x : WriterRecord) (r : Remedy) (place : ℕ) → Same x (fail_at x r place)
fail-same x r place = named-same x r (slice_get x.members place)

ended-as-same : (x : WriterRecord) (o : Option Remedy) → Same x (ended_as x o)
ended-as-same x None = same x
ended-as-same x (Some r) = fail-same x r 0

ended-same : (x : WriterRecord) → Same x (ended x)
unfolding ended
ended-same x = ended-as-same x (remedy_in x.phase)

verdict-same : (x : WriterRecord) (r : Remedy) (v : Verdict) → Same x (acked_as x r v)
verdict-same x r verdict.Good = record { block = refl; committed = refl }
verdict-same x r (verdict.Bad place) = fail-same x r place

acked-in-same : (x : WriterRecord) (a : Ack) (o : Option Remedy) → Same x (acked_in x a o)
acked-in-same x a None = same x
acked-in-same x a (Some r) = verdict-same x r _

acked-same : (x : WriterRecord) (a : Ack) → Same x (acked x a)
unfolding acked
acked-same x a = acked-in-same x a (remedy_at_ack x.phase)

setup-in-same : (x : WriterRecord) (p : Phase) (good : Bool) (bad : Option NodeId) → Same x (setup_answered_in x p good bad)
setup-in-same x (phase.Requested s stamp) true bad = record { block = refl; committed = refl }
setup-in-same x (phase.Requested s stamp) false bad = fail-same x (remedy_after s) (bad_place x.members bad)
setup-in-same x phase.Closed good bad = same x
setup-in-same x (phase.Wanted s) good bad = same x
setup-in-same x (phase.Stamped s stamp) good bad = same x
setup-in-same x (phase.Accepted s stamp) good bad = same x
setup-in-same x phase.Opened good bad = same x
setup-in-same x (phase.Streaming sent) good bad = same x
setup-in-same x phase.Closing good bad = same x
setup-in-same x phase.Finished good bad = same x
setup-in-same x phase.Completed good bad = same x
setup-in-same x (phase.Failed f) good bad = same x

setup-same : (x : WriterRecord) (r : Response) (bad : Option NodeId) → Same x (setup_answered x r bad)
unfolding setup_answered
setup-same x r bad = setup-in-same x x.phase (is_success r.status) bad

pub hears-same : (x : WriterRecord) (n : Next) → Same x (writer_hears x n)
hears-same x (message (request r)) = ended-same x
hears-same x (message (packet p)) = ended-same x
hears-same x (message (ack a)) = acked-same x a
hears-same x (message (response r)) = setup-same x r (named_member x.members r.first_bad)
hears-same x (message (read_status s)) = ended-same x
hears-same x (message (recovery_answer a)) = ended-same x
hears-same x the_end = ended-same x

dialled-in-same : (x : WriterRecord) (p : Phase) (answered : Bool) → Same x (dialled_in x p answered)
dialled-in-same x (phase.Stamped s stamp) true = record { block = refl; committed = refl }
dialled-in-same x (phase.Stamped s stamp) false = fail-same x (remedy_after s) 0
dialled-in-same x phase.Closed answered = same x
dialled-in-same x (phase.Wanted s) answered = same x
dialled-in-same x (phase.Requested s stamp) answered = same x
dialled-in-same x (phase.Accepted s stamp) answered = same x
dialled-in-same x phase.Opened answered = same x
dialled-in-same x (phase.Streaming sent) answered = same x
dialled-in-same x phase.Closing answered = same x
dialled-in-same x phase.Finished answered = same x
dialled-in-same x phase.Completed answered = same x
dialled-in-same x (phase.Failed f) answered = same x

pub dialled-same : (x : WriterRecord) (answered : Bool) → Same x (dialled x answered)
unfolding dialled
dialled-same x answered = dialled-in-same x x.phase answered

-- COMMANDS

given-as-same : (x : WriterRecord) (c : Command) (r : Result Intake CommandFault) → Same x (given_as x c r)
given-as-same x c (Ok i) = record { block = refl; committed = refl }
given-as-same x c (Err e) = same x

pub given-same : (x : WriterRecord) (c : Command) → Same x (given x c)
given-same x c = given-as-same x c (admitted x.intake c)

pub ruled-same : (x : WriterRecord) (c : Command) (r : Rule) → Same x (ruled x c r)
ruled-same x (command.Create members) r = record { block = refl; committed = refl }
ruled-same x (command.Append members) r = same x
ruled-same x (command.Write bytes) r = same x
ruled-same x (command.Fill count) r = same x
ruled-same x command.Hflush r = same x
ruled-same x command.Hsync r = same x
ruled-same x command.Close r = same x
