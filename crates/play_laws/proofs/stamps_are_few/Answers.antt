use Rattle.play_laws.proofs.Stamps.{stamps-few}
use Rattle.play_laws.proofs.stamps_are_few.Goals as goal

pub returns : goal.returns
returns c = stamps-few
