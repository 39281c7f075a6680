-- The share's trace entries stand behind the others.
use Rattle.std.proofs.Common.{Some, ap, ◌∙◌}
use Rattle.mem_ports.specs.Traces.{carried_of}
use Rattle.mem_ports.proofs.TraceLaws.{carried-gathered}
use Rattle.mem_ports.proofs.roads.MemRoadsRoads.gather.Goals as goal

pub returns-clause-carried : goal.returns-clause-carried
returns-clause-carried c =
    ap Some (ap carried_of c.in-Ok.ensures.trace ∙ carried-gathered c.args.self.now.trace.items c.args.share.trace.items)
