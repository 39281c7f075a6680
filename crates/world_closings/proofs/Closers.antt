-- A close is answered where the block is completed, and nowhere else.
use Rattle.std.proofs.Common.{◌≡◌, ℕ, List, [], ◌∷◌, slice_get, Option, Some, None, IfSome, refl, ap}
use Rattle.std.specs.Prelude.{nat_le}
use Rattle.hd_base.specs.declared.numbers.NodeId.{NodeId}
use Rattle.hd_base.specs.declared.numbers.Stamp.{Stamp}
use Rattle.packet_codec.specs.declared.packets.Packet.{Packet}
use Rattle.packet_stream.specs.Streams.{written_in, oldest_seqno}
use Rattle.writer_core.specs.declared.actions.Action.{Action}
use Rattle.writer_core.specs.declared.actions.Action.TheVariants as action
use Rattle.writer_core.specs.declared.actions.ClientAnswer.{ClientAnswer}
use Rattle.writer_core.specs.declared.commands.Command.{Command}
use Rattle.writer_core.specs.declared.commands.Command.TheVariants as command
use Rattle.writer_core.specs.declared.phases.DuePacket.{DuePacket}
use Rattle.writer_core.specs.declared.phases.DuePacket.TheVariants as due
use Rattle.writer_core.specs.declared.phases.Failure.{Failure}
use Rattle.writer_core.specs.declared.phases.Failure.TheVariants as failure
use Rattle.writer_core.specs.declared.phases.Phase.{Phase}
use Rattle.writer_core.specs.declared.phases.Phase.TheVariants as phase
use Rattle.writer_core.specs.declared.phases.Setup.{Setup}
use Rattle.writer_core.specs.declared.phases.Setup.TheVariants as setup
use Rattle.writer_core.specs.declared.phases.SyncPacket.TheVariants as sync
use Rattle.writer_core.specs.declared.phases.Waiting.{Waiting}
use Rattle.writer_core.specs.declared.phases.Waiting.TheVariants as waiting
use Rattle.writer_core.specs.declared.records.WriterRecord.{WriterRecord}
use Rattle.writer_core.specs.Transitions.{failure_answer, take_first, free_step_as, failed_command, failed_first, failed_step_as, dial_step_as, completed_step, accepted_step, due_now, form_step, is_acked, reached_length, reach_step_as, due_step, stream_step_as, step_in, own_step}
use Rattle.world.specs.Parts.{Reaching, by_hflush, by_hsync, by_close}
use Rattle.world.specs.Clients.{reached_answer}
use Rattle.world.specs.Safe.{IsClose}
use Rattle.world_laws.proofs.FactTables.{if-each}
use Rattle.world_closings.specs.Answering.{AnswersClose}

abbrev pub LastIn : ℕ → WriterRecord → Option Waiting → ClientAnswer → Type 0
LastIn b x waits c = IfSome (reached_answer b waits c) (λ a. IsClose a → AnswersClose b x a)

abbrev pub LastBy : ℕ → WriterRecord → Option Waiting → Action → Type 0
LastBy b x waits (action.Answered i c) = LastIn b x waits c
LastBy b x waits _ = Unit {0}

hflush-isnt-close : by_hflush ≡ by_close → ⊥
hflush-isnt-close e = cc

hsync-isnt-close : by_hsync ≡ by_close → ⊥
hsync-isnt-close e = cc

taken-last : (b : ℕ) (y x : WriterRecord) (w : Option Waiting) (o : Option Command) → LastBy b y w (take_first x o).action
taken-last b y x w None = tt
taken-last b y x w (Some c) = tt

free-last : (b : ℕ) (y x : WriterRecord) (w o : Option Waiting) → LastBy b y w (free_step_as x o).action
free-last b y x w None = taken-last b y x w (slice_get x.queue 0)
free-last b y x w (Some c) = tt

failure-last : (b : ℕ) (y : WriterRecord) (w : Option Waiting) (d : Failure) → LastIn b y w (failure_answer d)
failure-last b y w (failure.Abandoned m) = tt
failure-last b y w (failure.AllBad m) = tt
failure-last b y w (failure.Lost recovery) = tt
failure-last b y w (failure.Refused e) = tt

refused-last : (b : ℕ) (x : WriterRecord) (w : Option Waiting) (d : Failure) (c : Command) → LastBy b x w (failed_command x d c).action
refused-last b x w d (command.Create members) = failure-last b x w d
refused-last b x w d (command.Append members) = tt
refused-last b x w d (command.Write bytes) = failure-last b x w d
refused-last b x w d (command.Fill count) = failure-last b x w d
refused-last b x w d command.Hflush = failure-last b x w d
refused-last b x w d command.Hsync = failure-last b x w d
refused-last b x w d command.Close = failure-last b x w d

first-last : (b : ℕ) (x : WriterRecord) (w : Option Waiting) (d : Failure) (o : Option Command) → LastBy b x w (failed_first x d o).action
first-last b x w d None = tt
first-last b x w d (Some c) = refused-last b x w d c

failed-last : (b : ℕ) (x : WriterRecord) (w : Option Waiting) (d : Failure) (o : Option Waiting) → LastBy b x w (failed_step_as x d o).action
failed-last b x w d None = first-last b x w d (slice_get x.queue 0)
failed-last b x w d (Some c) = failure-last b x w d

dial-last : (b : ℕ) (x : WriterRecord) (w : Option Waiting) (s : Setup) (t : Stamp) (ms : List NodeId) → LastBy b x w (dial_step_as x s t ms).action
dial-last b x w s t [] = tt
dial-last b x w s t (m ∷ ms) = tt

accepted-last : (b : ℕ) (x : WriterRecord) (w : Option Waiting) (s : Setup) (t : Stamp) → LastBy b x w (accepted_step x s t).action
accepted-last b x w setup.Create t = tt
accepted-last b x w setup.Append t = tt
accepted-last b x w setup.AppendRecovery t = tt
accepted-last b x w setup.StreamRecovery t = tt
accepted-last b x w setup.CloseRecovery t = tt

reach-last : (b : ℕ) (x : WriterRecord) (o : Option Waiting) → LastBy b x o (reach_step_as x (reached_length o x.stream)).action
reach-last b x None = free-last b x x None x.waiting
reach-last b x (Some waiting.Opening) = free-last b x x (Some waiting.Opening) x.waiting
reach-last b x (Some waiting.Close) = free-last b x x (Some waiting.Close) x.waiting
reach-last b x (Some (waiting.Flush n)) =
    if-each (λ (l : Option ℕ). LastBy b x (Some (waiting.Flush n)) (reach_step_as x l).action) (nat_le n x.stream.acked) (Some n) None
    (λ _ e. absurd (hflush-isnt-close e)) (λ _. free-last b x x (Some (waiting.Flush n)) x.waiting)
reach-last b x (Some (waiting.Sync n sync.Due)) = free-last b x x (Some (waiting.Sync n sync.Due)) x.waiting
reach-last b x (Some (waiting.Sync n (sync.Formed seqno))) =
    if-each (λ (l : Option ℕ). LastBy b x (Some (waiting.Sync n (sync.Formed seqno))) (reach_step_as x l).action) (is_acked seqno (oldest_seqno x.stream)) (Some n) None
    (λ _ e. absurd (hsync-isnt-close e)) (λ _. free-last b x x (Some (waiting.Sync n (sync.Formed seqno))) x.waiting)

form-last : (b : ℕ) (x : WriterRecord) (w : Option Waiting) (d : DuePacket) → LastBy b x w (form_step x d).action
form-last b x w (due.Data end is_sync) = tt
form-last b x w due.Sync = tt
form-last b x w due.Last = tt

due-last : (b : ℕ) (x : WriterRecord) (o : Option DuePacket) → LastBy b x x.waiting (due_step x o).action
due-last b x None = reach-last b x x.waiting
due-last b x (Some d) = form-last b x x.waiting d

stream-last : (b : ℕ) (x : WriterRecord) (sent : ℕ) (o : Option Packet) → LastBy b x x.waiting (stream_step_as x sent o).action
stream-last b x sent (Some p) = tt
stream-last b x sent None = due-last b x (due_now x)

pub completed-last : (b : ℕ) (x : WriterRecord) → x.phase ≡ phase.Completed → LastBy b x x.waiting (completed_step x).action
completed-last b x e = λ q. record {
  phase_is = e;
  is = ap (λ (c : Reaching). record { block = b; command = c; length = written_in x.stream; stamp = x.committed.0; members = x.members }) q;
}

step-last : (b : ℕ) (x : WriterRecord) (p : Phase) → x.phase ≡ p → LastBy b x x.waiting (step_in x p).action
step-last b x phase.Closed e = free-last b x x x.waiting x.waiting
step-last b x (phase.Wanted s) e = tt
step-last b x (phase.Stamped s t) e = dial-last b x x.waiting s t x.members
step-last b x (phase.Requested s t) e = free-last b x x x.waiting x.waiting
step-last b x (phase.Accepted s t) e = accepted-last b x x.waiting s t
step-last b x phase.Opened e = tt
step-last b x (phase.Streaming sent) e = stream-last b x sent (slice_get x.stream.unacked sent)
step-last b x phase.Closing e = free-last b x x x.waiting x.waiting
step-last b x phase.Finished e = tt
step-last b x phase.Completed e = completed-last b x e
step-last b x (phase.Failed d) e = failed-last b x x.waiting d x.waiting

pub own-step-last : (b : ℕ) (x : WriterRecord) → LastBy b x x.waiting (own_step x).action
unfolding own_step
own-step-last b x = step-last b x x.phase refl
