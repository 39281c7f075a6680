-- The laws.
use Rattle.play_recoveries.proofs.ShutLaws as laws
use Rattle.play_recoveries.proofs.frames.requests_stay.Goals as goal

pub returns : goal.returns
returns c = laws.requests_stay
