-- The connection has the next number.
use Rattle.std.proofs.Common.{◌≡◌, Some, vec_len, arith, ap, ◌∙◌}
use Rattle.mem_ports.specs.Traces.{carried_of}
use Rattle.mem_ports.proofs.DuplexLaws.{channels-past}
use Rattle.mem_ports.proofs.TraceLaws.{carried-unused}
use Rattle.mem_ports.proofs.RoadLaws.{plain-parts}
use Rattle.mem_ports.proofs.roads.MemRoadsRoads.dial.Goals as goal

pub returns-clause-unused : goal.returns-clause-unused
returns-clause-unused c =
    let number : c.in-Ok.end.id.0 ≡ vec_len c.args.self.now.duplexes = omega (arith, c.in-Ok.ensures.upper.1, c.args.self.now.duplexes.ok.0) in
    λ d. ap (λ n. carried_of c.args.self.now.trace.items n d) number ∙ carried-unused c.args.self.now.trace.items (vec_len c.args.self.now.duplexes) d c.args.self.now.trace_known

pub returns-clause-empty : goal.returns-clause-empty
returns-clause-empty c = λ d. channels-past c.args.self.now.duplexes.items c.in-Ok.end.id.0 d (omega (arith, c.in-Ok.ensures.upper.1))

pub returns-clause-plain : goal.returns-clause-plain
returns-clause-plain c =
    rw c.in-Ok.ensures.listening (ap Some (plain-parts c.args.self.now.listening _ _ _ _ _ c.in-Ok.ensures.dials c.in-Ok.ensures.duplexes c.in-Ok.ensures.channels))
