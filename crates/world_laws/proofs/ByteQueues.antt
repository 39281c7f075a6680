-- A writer whose queue is empty leaves it so in its own steps.
use Rattle.std.proofs.Common.{◌≡◌, ℕ, List, [], ◌∷◌, drop, Option, Some, None, ap}
use Rattle.std.specs.Prelude.{slice_get}
use Rattle.hd_base.specs.declared.numbers.NodeId.{NodeId}
use Rattle.hd_base.specs.declared.numbers.Stamp.{Stamp}
use Rattle.world.specs.PacketCodec.Packet.{Packet}
use Rattle.world.specs.WriterCore.Command.{Command}
use Rattle.world.specs.WriterCore.Command.TheVariants as command
use Rattle.world.specs.WriterCore.DuePacket.{DuePacket}
use Rattle.world.specs.WriterCore.DuePacket.TheVariants as due
use Rattle.world.specs.WriterCore.Failure.{Failure}
use Rattle.world.specs.WriterCore.Phase.{Phase}
use Rattle.world.specs.WriterCore.Phase.TheVariants as phase
use Rattle.world.specs.WriterCore.Setup.{Setup}
use Rattle.world.specs.WriterCore.Setup.TheVariants as setup
use Rattle.world.specs.WriterCore.Waiting.{Waiting}
use Rattle.world.specs.WriterCore.WriterRecord.{WriterRecord}
use Rattle.world.specs.WriterCore.Transitions.{taken_as, take_first, free_step_as, failed_command, failed_first, failed_step_as, dial_step_as, accepted_step, due_now, form_step, reached_length, reach_step_as, due_step, stream_step_as, step_in, own_step}

off : (xs : List Command) → xs ≡ [] → drop 1 xs ≡ []
off xs e = ap (λ (ys : List Command). drop 1 ys) e

taken-empty : (x : WriterRecord) (c : Command) → x.queue ≡ [] → (taken_as x c).queue ≡ []
taken-empty x (command.Create members) e = off x.queue e
taken-empty x (command.Append members) e = off x.queue e
taken-empty x (command.Write b) e = off x.queue e
taken-empty x (command.Fill n) e = off x.queue e
taken-empty x command.Hflush e = off x.queue e
taken-empty x command.Hsync e = off x.queue e
taken-empty x command.Close e = off x.queue e

first-empty : (x : WriterRecord) (o : Option Command) → x.queue ≡ [] → (take_first x o).writer.queue ≡ []
first-empty x None e = e
first-empty x (Some c) e = taken-empty x c e

free-empty : (x : WriterRecord) (o : Option Waiting) → x.queue ≡ [] → (free_step_as x o).writer.queue ≡ []
free-empty x None e = first-empty x (slice_get x.queue 0) e
free-empty x (Some w) e = e

failed-command-empty : (x : WriterRecord) (f : Failure) (c : Command) → x.queue ≡ [] → (failed_command x f c).writer.queue ≡ []
failed-command-empty x f (command.Create members) e = off x.queue e
failed-command-empty x f (command.Append members) e = off x.queue e
failed-command-empty x f (command.Write b) e = off x.queue e
failed-command-empty x f (command.Fill n) e = off x.queue e
failed-command-empty x f command.Hflush e = off x.queue e
failed-command-empty x f command.Hsync e = off x.queue e
failed-command-empty x f command.Close e = off x.queue e

failed-first-empty : (x : WriterRecord) (f : Failure) (o : Option Command) → x.queue ≡ [] → (failed_first x f o).writer.queue ≡ []
failed-first-empty x f None e = e
failed-first-empty x f (Some c) e = failed-command-empty x f c e

failed-empty : (x : WriterRecord) (f : Failure) (o : Option Waiting) → x.queue ≡ [] → (failed_step_as x f o).writer.queue ≡ []
failed-empty x f None e = failed-first-empty x f (slice_get x.queue 0) e
failed-empty x f (Some w) e = e

form-empty : (x : WriterRecord) (d : DuePacket) → x.queue ≡ [] → (form_step x d).writer.queue ≡ []
form-empty x (due.Data end s) e = e
form-empty x due.Sync e = e
form-empty x due.Last e = e

reach-empty : (x : WriterRecord) (o : Option ℕ) → x.queue ≡ [] → (reach_step_as x o).writer.queue ≡ []
reach-empty x None e = free-empty x x.waiting e
reach-empty x (Some n) e = e

due-empty : (x : WriterRecord) (o : Option DuePacket) → x.queue ≡ [] → (due_step x o).writer.queue ≡ []
due-empty x None e = reach-empty x (reached_length x.waiting x.stream) e
due-empty x (Some d) e = form-empty x d e

stream-empty : (x : WriterRecord) (sent : ℕ) (o : Option Packet) → x.queue ≡ [] → (stream_step_as x sent o).writer.queue ≡ []
stream-empty x sent None e = due-empty x (due_now x) e
stream-empty x sent (Some p) e = e

dial-empty : (x : WriterRecord) (s : Setup) (t : Stamp) (ms : List NodeId) → x.queue ≡ [] → (dial_step_as x s t ms).writer.queue ≡ []
dial-empty x s t [] e = e
dial-empty x s t (m ∷ ms) e = e

accepted-empty : (x : WriterRecord) (s : Setup) (t : Stamp) → x.queue ≡ [] → (accepted_step x s t).writer.queue ≡ []
accepted-empty x setup.Create t e = e
accepted-empty x setup.Append t e = e
accepted-empty x setup.AppendRecovery t e = e
accepted-empty x setup.StreamRecovery t e = e
accepted-empty x setup.CloseRecovery t e = e

step-empty : (x : WriterRecord) (p : Phase) → x.queue ≡ [] → (step_in x p).writer.queue ≡ []
step-empty x phase.Closed e = free-empty x x.waiting e
step-empty x (phase.Wanted s) e = e
step-empty x (phase.Stamped s t) e = dial-empty x s t x.members e
step-empty x (phase.Requested s t) e = free-empty x x.waiting e
step-empty x (phase.Accepted s t) e = accepted-empty x s t e
step-empty x phase.Opened e = e
step-empty x (phase.Streaming sent) e = stream-empty x sent (slice_get x.stream.unacked sent) e
step-empty x phase.Closing e = free-empty x x.waiting e
step-empty x phase.Finished e = e
step-empty x phase.Completed e = e
step-empty x (phase.Failed f) e = failed-empty x f x.waiting e

pub own-step-empty : (x : WriterRecord) → x.queue ≡ [] → (own_step x).writer.queue ≡ []
unfolding own_step
own-step-empty x e = step-empty x x.phase e
