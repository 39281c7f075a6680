-- The writer stays sound.
use Rattle.std.proofs.Common.{subst, sym}
use Rattle.writer_core.specs.Sound.{Sound}
use Rattle.writer_core.proofs.SoundLemmas.{setup_sound}
use Rattle.writer_core.proofs.writer.Writer.setup_answer.Goals as goal

pub invariant_of-self : goal.invariant_of-self
invariant_of-self c = subst Sound (sym c.answer_setup.ensures) (setup_sound c.self.inside.known c.args.response.now c.args.bad c.self.invariant)
