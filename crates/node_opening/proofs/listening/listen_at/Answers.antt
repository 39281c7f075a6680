-- The node listens, or the roads tell why not.
use Rattle.std.proofs.Common.{sym, subst}
use Rattle.node_opening.specs.Listening.{IsRoadFault}
use Rattle.node_opening.specs.declared.faults.OpenFault.{OpenFault}
use Rattle.node_opening.proofs.ListenLemmas.{road_caused}
use Rattle.node_opening.proofs.listening.listen_at.Goals as goal

pub returns-in-Ok-clause-shows : goal.returns-in-Ok-clause-shows
returns-in-Ok-clause-shows g c = λ net shows. c.in-Ok.ensures.shows net shows

pub returns-in-Err-clause-cause : goal.returns-in-Err-clause-cause
returns-in-Err-clause-cause g c =
    subst (λ (q : OpenFault). IsRoadFault (g.R.Roads.faults c.args.roads.now) (g.R.Roads.faults c.listen.new.roads) q) (sym c.road_fault.ensures)
    (road_caused (g.R.Roads.faults c.args.roads.now) (g.R.Roads.faults c.listen.new.roads) c.in-Err.error c.in-Err.ensures.cause)
