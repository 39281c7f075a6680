-- It is the same list.
use Rattle.std.proofs.Common.{refl}
use Rattle.play_model.specs.Dues.{dues}
use Rattle.play_dues.proofs.listing.dues_are_listed.Goals as goal

pub returns : goal.returns
unfolding dues
returns c = λ blocks p. refl
