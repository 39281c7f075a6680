-- The writer stays sound.
use Rattle.std.proofs.Common.{subst, sym}
use Rattle.writer_core.specs.Sound.{Sound}
use Rattle.writer_core.proofs.SoundLemmas.{acked_sound}
use Rattle.writer_core.proofs.writer.Writer.acked.Goals as goal

pub invariant_of-self : goal.invariant_of-self
invariant_of-self c = subst Sound (sym c.ack.ensures) (acked_sound c.self.inside.known c.args.ack.now c.self.invariant)
