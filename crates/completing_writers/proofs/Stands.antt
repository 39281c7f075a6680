-- Where commands leave a block.
use Rattle.std.proofs.Common.{◌≡◌, true, refl}
use Rattle.std.proofs.lemmas.Bool.{false≢true}
use Rattle.writer_core.specs.declared.intake.Stand.{Stand}
use Rattle.writer_core.specs.declared.intake.Stand.TheVariants as stand
use Rattle.writer_core.specs.Commands.{is_unmade, is_closed}

pub unmade-is : (s : Stand) → is_unmade s ≡ true → s ≡ stand.Unmade
unmade-is stand.Unmade e = refl
unmade-is stand.Open e = absurd (false≢true e)
unmade-is stand.Closed e = absurd (false≢true e)

pub closed-is : (s : Stand) → is_closed s ≡ true → s ≡ stand.Closed
closed-is stand.Unmade e = absurd (false≢true e)
closed-is stand.Open e = absurd (false≢true e)
closed-is stand.Closed e = refl
