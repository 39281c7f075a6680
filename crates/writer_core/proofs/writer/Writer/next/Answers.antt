-- The writer stays sound, whether the step found memory or not.
use Rattle.std.proofs.Common.{◌≡◌, Result, Ok, Err, subst, sym}
use Rattle.std.specs.Result.{OnOk, OnErr}
use Rattle.writer_core.specs.declared.records.WriterRecord.{WriterRecord}
use Rattle.writer_core.specs.Sound.{Sound}
use Rattle.writer_core.proofs.SoundLemmas.{own_step_sound}
use Rattle.writer_core.proofs.writer.Writer.next.Goals as goal

either : {A E : Type 0} (r : Result A E) (after done before : WriterRecord) → OnOk r (after ≡ done) → OnErr r (after ≡ before) → Sound done → Sound before → Sound after
either (Ok a) after done before e f h k = subst Sound (sym e) h
either (Err a) after done before e f h k = subst Sound (sym f) k

pub invariant_of-self : goal.invariant_of-self
invariant_of-self c =
    either c.own_step.result _ _ _ c.own_step.ensures.writer c.own_step.ensures.same (own_step_sound c.self.inside.known c.self.invariant) c.self.invariant
