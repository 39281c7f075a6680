-- Where an own step of the writer is enabled while a pipeline is set up.
use Rattle.std.proofs.Common.{◌≡◌, ◌==◌, ◌&&◌, not, true, false, List, [], ◌∷◌, length, Option, Some, None, is_some, is_none, refl, ap, arith}
use Rattle.std.proofs.lemmas.Bool.Decides.{nat_tests}
use Rattle.std.specs.Prelude.{slice_get}
use Rattle.hd_base.specs.declared.numbers.NodeId.{NodeId}
use Rattle.hd_base.specs.declared.numbers.Stamp.{Stamp}
use Rattle.writer_core.specs.declared.commands.Command.{Command}
use Rattle.writer_core.specs.declared.phases.Phase.{Phase}
use Rattle.writer_core.specs.declared.phases.Phase.TheVariants as phase
use Rattle.writer_core.specs.declared.phases.Setup.{Setup}
use Rattle.writer_core.specs.declared.phases.Waiting.{Waiting}
use Rattle.writer_core.specs.declared.records.WriterRecord.{WriterRecord}
use Rattle.writer_core.specs.Transitions.{own_step, step_in, dial_step_as, free_step_as, take_first}
use Rattle.pipe_recovery.specs.Acting.{is_wait, has_own_step, sets_up, enabled_in}

some-left : (m : NodeId) (ms : List NodeId) → (length (m ∷ ms) == 0) ≡ false
some-left m ms = grind (arith, nat_tests)

dial-due : (w : WriterRecord) (s : Setup) (stamp : Stamp) (ms : List NodeId) → not (length ms == 0) ≡ not (is_wait (dial_step_as w s stamp ms).action)
dial-due w s stamp [] = refl
dial-due w s stamp (m ∷ ms) = ap not (some-left m ms)

first-due : (w : WriterRecord) (c : Option Command) → is_some c ≡ not (is_wait (take_first w c).action)
first-due w None = refl
first-due w (Some c) = refl

free-due : (w : WriterRecord) (x : Option Waiting) → (is_none x && is_some (slice_get w.queue 0)) ≡ not (is_wait (free_step_as w x).action)
free-due w None = first-due w (slice_get w.queue 0)
free-due w (Some x) = refl

enabled-at : (w : WriterRecord) (p : Phase) → sets_up p ≡ true → enabled_in p w ≡ not (is_wait (step_in w p).action)
enabled-at w phase.Closed h = absurd (cc)
enabled-at w (phase.Wanted s) h = refl
enabled-at w (phase.Stamped s stamp) h = dial-due w s stamp w.members
enabled-at w (phase.Requested s stamp) h = free-due w w.waiting
enabled-at w (phase.Accepted s stamp) h = absurd (cc)
enabled-at w phase.Opened h = absurd (cc)
enabled-at w (phase.Streaming sent) h = absurd (cc)
enabled-at w phase.Closing h = absurd (cc)
enabled-at w phase.Finished h = absurd (cc)
enabled-at w phase.Completed h = absurd (cc)
enabled-at w (phase.Failed f) h = absurd (cc)

pub enabled-is : (w : WriterRecord) → sets_up w.phase ≡ true → enabled_in w.phase w ≡ has_own_step w
unfolding own_step
enabled-is w h = enabled-at w w.phase h
