use Rattle.world_requests.proofs.AllAsked.{all-among}
use Rattle.world_requests.proofs.requests_are_among.Goals as goal

pub returns : goal.returns
returns c nodes blocks events h = all-among nodes blocks events h
