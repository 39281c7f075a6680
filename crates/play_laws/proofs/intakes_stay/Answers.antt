use Rattle.play_laws.proofs.Intakes.{own-steps-keep, hearing-keeps-intakes}
use Rattle.play_laws.proofs.intakes_stay.Goals as goal

pub returns-clause-own : goal.returns-clause-own
returns-clause-own c = own-steps-keep

pub returns-clause-heard : goal.returns-clause-heard
returns-clause-heard c = hearing-keeps-intakes
