-- The writer stays sound.
use Rattle.std.proofs.Common.{subst, sym}
use Rattle.writer_core.specs.Sound.{Sound}
use Rattle.writer_core.proofs.SoundLemmas.{dialled_sound}
use Rattle.writer_core.proofs.writer.Writer.dialled.Goals as goal

pub invariant_of-self : goal.invariant_of-self
invariant_of-self c = subst Sound (sym c.dialled.ensures) (dialled_sound c.self.inside.known c.is_some.result c.self.invariant)
