-- The writer stays sound, whether the command is taken or not.
use Rattle.std.proofs.Common.{subst, sym, is_ok}
use Rattle.writer_core.specs.Sound.{Sound}
use Rattle.writer_core.specs.Transitions.{given}
use Rattle.writer_core.proofs.DueLemmas.{choice}
use Rattle.writer_core.proofs.SoundLemmas.{given_sound}
use Rattle.writer_core.proofs.writer.Writer.command.Goals as goal

pub invariant_of-self : goal.invariant_of-self
invariant_of-self c =
    subst Sound (sym c.give.ensures.writer)
    (choice Sound (is_ok c.give.result) (given c.self.inside.known c.args.command) c.self.inside.known
    (λ _. given_sound c.self.inside.known c.args.command c.self.invariant) (λ _. c.self.invariant))
