-- Lengths are answered under stamps of their block.
use Rattle.std.proofs.Common.{◌≡◌, ℕ, ◌⊎◌, inl, inr, List, [], ◌∷◌, slice_get, Option, Some, None, IfSome, refl, ◌∙◌, ap, subst}
use Rattle.hd_base.specs.declared.numbers.NodeId.{NodeId}
use Rattle.hd_base.specs.declared.numbers.Stamp.{Stamp}
use Rattle.name_core.specs.declared.records.BlockRecord.{BlockRecord}
use Rattle.name_core.specs.Offices.{record_of}
use Rattle.world.specs.PacketCodec.Packet.{Packet}
use Rattle.world.specs.WriterCore.Action.{Action}
use Rattle.world.specs.WriterCore.Action.TheVariants as action
use Rattle.world.specs.WriterCore.ClientAnswer.{ClientAnswer}
use Rattle.world.specs.WriterCore.ClientAnswer.TheVariants as answer
use Rattle.world.specs.WriterCore.Command.{Command}
use Rattle.world.specs.WriterCore.Command.TheVariants as command
use Rattle.world.specs.WriterCore.DuePacket.{DuePacket}
use Rattle.world.specs.WriterCore.DuePacket.TheVariants as due
use Rattle.world.specs.WriterCore.Failure.{Failure}
use Rattle.world.specs.WriterCore.Failure.TheVariants as failure
use Rattle.world.specs.WriterCore.Phase.{Phase}
use Rattle.world.specs.WriterCore.Phase.TheVariants as phase
use Rattle.world.specs.WriterCore.Setup.{Setup}
use Rattle.world.specs.WriterCore.Setup.TheVariants as setup
use Rattle.world.specs.WriterCore.Waiting.{Waiting}
use Rattle.world.specs.WriterCore.WriterRecord.{WriterRecord}
use Rattle.world.specs.WriterCore.Transitions.{own_step, step_in, dial_step_as, accepted_step, completed_step, failed_step_as, failed_first, failed_command, failure_answer, free_step_as, take_first, stream_step_as, due_step, due_now, form_step, reach_step_as, reached_length}
use Rattle.world.specs.Parts.{Answered}
use Rattle.world.specs.Worlds.{World, Change}
use Rattle.world.specs.Clients.{reached_answer}
use Rattle.world_laws.specs.Stamping.{Givens, InPhase, Fits, heard, IsOfLatest, HeldOf, Recorded}
use Rattle.world_laws.proofs.StampWalking.{On}
use Rattle.world_laws.specs.Joining.{IsOfBlock}

-- what a change answers is under a stamp of its block
abbrev pub TellsIn : Givens → Change → Type 0
TellsIn g k = IfSome k.answered (IsOfBlock g)

-- so it is of whatever stamps are recorded
abbrev pub IsTold : World → Answered → Type 0
IsTold w a = (g : Givens) → Recorded g w → IsOfBlock g a

abbrev pub Tells : World → Change → Type 0
Tells w k = IfSome k.answered (IsTold w)

pub tells-in : (g : Givens) (w : World) (k : Change) → Recorded g w → Tells w k → TellsIn g k
tells-in g w k i t = go k.answered t
  where
    go : (o : Option Answered) → IfSome o (IsTold w) → IfSome o (IsOfBlock g)
    go None x = tt
    go (Some a) x = x g i

-- WRITERS

-- A length is answered under the stamp that the writer knows as committed, which is then of the latest session.
pub record IsLatest (x : WriterRecord) (stamp : Stamp) : Type 0 where
  pub same : stamp ≡ x.committed
  pub latest : (f : ℕ → Option ℕ) (l : ℕ) (r : Option Stamp) → Fits f l r x → IsOfLatest f l x.committed

abbrev pub SaysLength : WriterRecord → ClientAnswer → Type 0
SaysLength x (answer.Reached n stamp members) = IsLatest x stamp
SaysLength x _ = Unit {0}

abbrev pub SaysLatest : WriterRecord → Action → Type 0
SaysLatest x (action.Answered i a) = SaysLength x a
SaysLatest x _ = Unit {0}

taken-says : (y x : WriterRecord) (o : Option Command) → SaysLatest y (take_first x o).action
taken-says y x None = tt
taken-says y x (Some c) = tt

free-says : (y x : WriterRecord) (o : Option Waiting) → SaysLatest y (free_step_as x o).action
free-says y x None = taken-says y x (slice_get x.queue 0)
free-says y x (Some c) = tt

failure-says : (y : WriterRecord) (d : Failure) → SaysLength y (failure_answer d)
failure-says y (failure.Abandoned m) = tt
failure-says y (failure.AllBad m) = tt
failure-says y (failure.Lost recovery) = tt
failure-says y (failure.Refused e) = tt

refused-says : (x : WriterRecord) (d : Failure) (c : Command) → SaysLatest x (failed_command x d c).action
refused-says x d (command.Create members) = failure-says x d
refused-says x d (command.Append members) = tt
refused-says x d (command.Write bytes) = failure-says x d
refused-says x d (command.Fill count) = failure-says x d
refused-says x d command.Hflush = failure-says x d
refused-says x d command.Hsync = failure-says x d
refused-says x d command.Close = failure-says x d

first-says : (x : WriterRecord) (d : Failure) (o : Option Command) → SaysLatest x (failed_first x d o).action
first-says x d None = tt
first-says x d (Some c) = refused-says x d c

failed-says : (x : WriterRecord) (d : Failure) (o : Option Waiting) → SaysLatest x (failed_step_as x d o).action
failed-says x d None = first-says x d (slice_get x.queue 0)
failed-says x d (Some c) = failure-says x d

dial-says : (x : WriterRecord) (s : Setup) (t : Stamp) (ms : List NodeId) → SaysLatest x (dial_step_as x s t ms).action
dial-says x s t [] = tt
dial-says x s t (m ∷ ms) = tt

accepted-says : (x : WriterRecord) (s : Setup) (t : Stamp) → SaysLatest x (accepted_step x s t).action
accepted-says x setup.Create t = tt
accepted-says x setup.Append t = tt
accepted-says x setup.AppendRecovery t = tt
accepted-says x setup.StreamRecovery t = tt
accepted-says x setup.CloseRecovery t = tt

latest-of : (x : WriterRecord) (p : Phase) → x.phase ≡ p → ((f : ℕ → Option ℕ) (l : ℕ) (r : Option Stamp) → InPhase f l r x.committed x.waiting x.stream.unacked p → IsOfLatest f l x.committed) → IsLatest x x.committed
latest-of x p e h = record { same = refl; latest = λ f l r k. h f l r (subst (λ (q : Phase). InPhase f l r x.committed x.waiting x.stream.unacked q) e k) }

reach-says : (x : WriterRecord) (sent : ℕ) (o : Option ℕ) → x.phase ≡ phase.Streaming sent → SaysLatest x (reach_step_as x o).action
reach-says x sent None e = free-says x x x.waiting
reach-says x sent (Some n) e = latest-of x (phase.Streaming sent) e (λ f l r k. k.0.session)

form-says : (x : WriterRecord) (d : DuePacket) → SaysLatest x (form_step x d).action
form-says x (due.Data end is_sync) = tt
form-says x due.Sync = tt
form-says x due.Last = tt

due-says : (x : WriterRecord) (sent : ℕ) (o : Option DuePacket) → x.phase ≡ phase.Streaming sent → SaysLatest x (due_step x o).action
due-says x sent None e = reach-says x sent (reached_length x.waiting x.stream) e
due-says x sent (Some d) e = form-says x d

stream-says : (x : WriterRecord) (sent : ℕ) (o : Option Packet) → x.phase ≡ phase.Streaming sent → SaysLatest x (stream_step_as x sent o).action
stream-says x sent (Some p) e = tt
stream-says x sent None e = due-says x sent (due_now x) e

pub completed-says : (x : WriterRecord) → x.phase ≡ phase.Completed → SaysLatest x (completed_step x).action
completed-says x e = latest-of x phase.Completed e (λ f l r k. k.session)

step-says : (x : WriterRecord) (p : Phase) → x.phase ≡ p → SaysLatest x (step_in x p).action
step-says x phase.Closed e = free-says x x x.waiting
step-says x (phase.Wanted s) e = tt
step-says x (phase.Stamped s t) e = dial-says x s t x.members
step-says x (phase.Requested s t) e = free-says x x x.waiting
step-says x (phase.Accepted s t) e = accepted-says x s t
step-says x phase.Opened e = tt
step-says x (phase.Streaming sent) e = stream-says x sent (slice_get x.stream.unacked sent) e
step-says x phase.Closing e = free-says x x x.waiting
step-says x phase.Finished e = tt
step-says x phase.Completed e = completed-says x e
step-says x (phase.Failed d) e = failed-says x d x.waiting

pub own-step-says : (x : WriterRecord) → SaysLatest x (own_step x).action
unfolding own_step
own-step-says x = step-says x x.phase refl

-- WHAT IS TOLD

-- what an action of a block's writer answers
abbrev pub SaysIn : World → ℕ → Option Waiting → ClientAnswer → Type 0
SaysIn w b waits a = IfSome (reached_answer b waits a) (IsTold w)

abbrev pub SaysTold : World → ℕ → Option Waiting → Action → Type 0
SaysTold w b waits (action.Answered n a) = SaysIn w b waits a
SaysTold w b waits _ = Unit {0}

held-told : (f : ℕ → Option ℕ) (l : ℕ) (o : Option BlockRecord) (z x : WriterRecord) (stamp : Stamp) → HeldOf f l o z → x.committed ≡ z.committed → ((r : Option Stamp) → Fits f l r z → Fits f l r x) → IsLatest x stamp
    → (stamp.0 ≡ 0) ⊎ ((s : ℕ) × (f stamp.0 ≡ Some s))
held-told f l None z x stamp h c k i = inl (ap (λ (t : Stamp). t.0) (i.same ∙ c) ∙ h.2)
held-told f l (Some r) z x stamp h c k i = inr (l, ap (λ (t : Stamp). f t.0) i.same ∙ (i.latest f l r.recovery (k r.recovery h.writer.fits)).is)

answer-told : (w : World) (b : ℕ) (x : WriterRecord) (waits : Option Waiting) (a : ClientAnswer) → On w b x → SaysLength x a → SaysIn w b waits a
answer-told w b x waits (answer.Reached n stamp members) h s =
    λ g i. held-told (g b) (w.latest b) (record_of w.office (record { 0 = b })) (heard (w.writers b)) x stamp (i.blocks b) h.committed (λ r k. h.fits (g b) (w.latest b) r k) s
answer-told w b x waits (answer.Granted t) h s = tt
answer-told w b x waits (answer.Abandoned m) h s = tt
answer-told w b x waits (answer.AllBad m) h s = tt
answer-told w b x waits (answer.Lost recovery) h s = tt
answer-told w b x waits (answer.Refused e) h s = tt

pub says-told : (w : World) (b : ℕ) (x : WriterRecord) (waits : Option Waiting) (a : Action) → On w b x → SaysLatest x a → SaysTold w b waits a
says-told w b x waits action.Wait h s = tt
says-told w b x waits action.Took h s = tt
says-told w b x waits (action.Ask c) h s = tt
says-told w b x waits (action.Dial to r) h s = tt
says-told w b x waits (action.Send p) h s = tt
says-told w b x waits (action.Answered n a) h s = answer-told w b x waits a h s
says-told w b x waits action.Memory h s = tt
