use Rattle.name_core.proofs.StampLemmas.{rise, fresh, past}
use Rattle.name_core.proofs.laws.stamps_rise.Goals as goal

pub returns-clause-rise : goal.returns-clause-rise
returns-clause-rise c = rise

pub returns-clause-fresh : goal.returns-clause-fresh
returns-clause-fresh c = fresh

pub returns-clause-past : goal.returns-clause-past
returns-clause-past c = past
