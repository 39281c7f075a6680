-- Nothing was dialled yet.
use Rattle.std.proofs.Common.{Some, ap}
use Rattle.mem_ports.proofs.RoadLaws.{plain-nothing}
use Rattle.mem_ports.proofs.roads.MemRoads.new.Goals as goal

pub returns-clause-plain : goal.returns-clause-plain
returns-clause-plain c = ap Some (plain-nothing 16 _ _ c.new.ensures.items c.new-2.ensures.items)
