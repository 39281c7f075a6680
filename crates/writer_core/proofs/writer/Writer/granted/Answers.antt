-- The writer stays sound.
use Rattle.std.proofs.Common.{subst, sym}
use Rattle.writer_core.specs.Sound.{Sound}
use Rattle.writer_core.proofs.SoundLemmas.{granted_sound}
use Rattle.writer_core.proofs.writer.Writer.granted.Goals as goal

pub invariant_of-self : goal.invariant_of-self
invariant_of-self c = subst Sound (sym c.granted.ensures) (granted_sound c.self.inside.known c.args.answer.now c.self.invariant)
