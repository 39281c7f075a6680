use Rattle.world_requests.proofs.AllAsked.{asked-so, read-so, recovering-so}
use Rattle.world_requests.proofs.requests_are_asked.Goals as goal

pub returns : goal.returns
returns c = record { writes = λ nodes events. asked-so nodes events; reads = λ nodes events. read-so nodes events; recoveries = λ nodes events. recovering-so nodes events }
