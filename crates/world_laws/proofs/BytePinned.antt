-- A writer completes its block with just the bytes that it has written.
use Rattle.std.proofs.Common.{◌≡◌, ℕ, List, [], ◌∷◌, Option, Some, None, refl}
use Rattle.std.specs.Prelude.{slice_get}
use Rattle.hd_base.specs.declared.numbers.NodeId.{NodeId}
use Rattle.hd_base.specs.declared.numbers.Stamp.{Stamp}
use Rattle.name_core.specs.declared.calls.OfficeCall.{OfficeCall}
use Rattle.name_core.specs.declared.calls.OfficeCall.TheVariants as call
use Rattle.world.specs.PacketCodec.Packet.{Packet}
use Rattle.world.specs.PacketStream.Streams.{written_in}
use Rattle.world.specs.WriterCore.Action.{Action}
use Rattle.world.specs.WriterCore.Action.TheVariants as action
use Rattle.world.specs.WriterCore.Command.{Command}
use Rattle.world.specs.WriterCore.Command.TheVariants as command
use Rattle.world.specs.WriterCore.DuePacket.{DuePacket}
use Rattle.world.specs.WriterCore.DuePacket.TheVariants as due
use Rattle.world.specs.WriterCore.Failure.{Failure}
use Rattle.world.specs.WriterCore.Phase.{Phase}
use Rattle.world.specs.WriterCore.Phase.TheVariants as phase
use Rattle.world.specs.WriterCore.Setup.{Setup}
use Rattle.world.specs.WriterCore.Setup.TheVariants as setup
use Rattle.world.specs.WriterCore.Waiting.{Waiting}
use Rattle.world.specs.WriterCore.WriterRecord.{WriterRecord}
use Rattle.world.specs.WriterCore.Transitions.{take_first, free_step_as, failed_command, failed_first, failed_step_as, stamp_call, dial_step_as, accepted_step, due_now, form_step, reached_length, reach_step_as, due_step, stream_step_as, step_in, own_step}

-- the length is that of what is written
abbrev pub Pins : WriterRecord → OfficeCall → Type 0
Pins x (call.Complete b stamp bytes) = bytes ≡ written_in x.stream
Pins x _ = Unit {0}

abbrev pub PinsIn : WriterRecord → Action → Type 0
PinsIn x (action.Ask c) = Pins x c
PinsIn x _ = Unit {0}

first-pins : (x : WriterRecord) (o : Option Command) → PinsIn x (take_first x o).action
first-pins x None = tt
first-pins x (Some c) = tt

free-pins : (x : WriterRecord) (o : Option Waiting) → PinsIn x (free_step_as x o).action
free-pins x None = first-pins x (slice_get x.queue 0)
free-pins x (Some w) = tt

failed-command-pins : (x : WriterRecord) (f : Failure) (c : Command) → PinsIn x (failed_command x f c).action
failed-command-pins x f (command.Create members) = tt
failed-command-pins x f (command.Append members) = tt
failed-command-pins x f (command.Write b) = tt
failed-command-pins x f (command.Fill n) = tt
failed-command-pins x f command.Hflush = tt
failed-command-pins x f command.Hsync = tt
failed-command-pins x f command.Close = tt

failed-first-pins : (x : WriterRecord) (f : Failure) (o : Option Command) → PinsIn x (failed_first x f o).action
failed-first-pins x f None = tt
failed-first-pins x f (Some c) = failed-command-pins x f c

failed-pins : (x : WriterRecord) (f : Failure) (o : Option Waiting) → PinsIn x (failed_step_as x f o).action
failed-pins x f None = failed-first-pins x f (slice_get x.queue 0)
failed-pins x f (Some w) = tt

wanted-pins : (x : WriterRecord) (s : Setup) → Pins x (stamp_call x s)
wanted-pins x setup.Create = tt
wanted-pins x setup.Append = tt
wanted-pins x setup.AppendRecovery = tt
wanted-pins x setup.StreamRecovery = tt
wanted-pins x setup.CloseRecovery = tt

dial-pins : (x : WriterRecord) (s : Setup) (t : Stamp) (ms : List NodeId) → PinsIn x (dial_step_as x s t ms).action
dial-pins x s t [] = tt
dial-pins x s t (m ∷ ms) = tt

accepted-pins : (x : WriterRecord) (s : Setup) (t : Stamp) → PinsIn x (accepted_step x s t).action
accepted-pins x setup.Create t = tt
accepted-pins x setup.Append t = tt
accepted-pins x setup.AppendRecovery t = tt
accepted-pins x setup.StreamRecovery t = tt
accepted-pins x setup.CloseRecovery t = tt

form-pins : (x : WriterRecord) (d : DuePacket) → PinsIn x (form_step x d).action
form-pins x (due.Data end s) = tt
form-pins x due.Sync = tt
form-pins x due.Last = tt

reach-pins : (x : WriterRecord) (o : Option ℕ) → PinsIn x (reach_step_as x o).action
reach-pins x None = free-pins x x.waiting
reach-pins x (Some n) = tt

due-pins : (x : WriterRecord) (o : Option DuePacket) → PinsIn x (due_step x o).action
due-pins x None = reach-pins x (reached_length x.waiting x.stream)
due-pins x (Some d) = form-pins x d

stream-pins : (x : WriterRecord) (sent : ℕ) (o : Option Packet) → PinsIn x (stream_step_as x sent o).action
stream-pins x sent None = due-pins x (due_now x)
stream-pins x sent (Some p) = tt

step-pins : (x : WriterRecord) (p : Phase) → PinsIn x (step_in x p).action
step-pins x phase.Closed = free-pins x x.waiting
step-pins x (phase.Wanted s) = wanted-pins x s
step-pins x (phase.Stamped s t) = dial-pins x s t x.members
step-pins x (phase.Requested s t) = free-pins x x.waiting
step-pins x (phase.Accepted s t) = accepted-pins x s t
step-pins x phase.Opened = tt
step-pins x (phase.Streaming sent) = stream-pins x sent (slice_get x.stream.unacked sent)
step-pins x phase.Closing = free-pins x x.waiting
step-pins x phase.Finished = refl
step-pins x phase.Completed = tt
step-pins x (phase.Failed f) = failed-pins x f x.waiting

pub own-step-pins : (x : WriterRecord) → PinsIn x (own_step x).action
unfolding own_step
own-step-pins x = step-pins x x.phase
