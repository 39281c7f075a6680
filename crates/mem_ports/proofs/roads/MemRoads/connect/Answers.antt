-- A lane and a dial stand behind all others.
use Rattle.std.proofs.Common.{◌≡◌, ◌==◌, ◌+◌, cond, [], ◌∷◌, ◌++◌, length, vec_len, arith, ◌∙◌}
use Rattle.mem_ports.specs.Roads.{waiting_at}
use Rattle.mem_ports.proofs.DuplexLaws.{channels-push}
use Rattle.mem_ports.proofs.DialLaws.{waiting-push, below-push}
use Rattle.mem_ports.proofs.TraceLaws.{trace_below-more}
use Rattle.mem_ports.proofs.roads.MemRoads.connect.Goals as goal

pub invariant_of-self-2 : goal.invariant_of-self-2
invariant_of-self-2 c =
    let next : vec_len c.push_reserved.new.self ≡ vec_len c.args.self.now.duplexes + 1 = omega (arith, c.push_reserved.ensures.len, c.reserve-2.ensures.len) in
    record {
      dials_known = rw c.push_reserved-2.ensures.items (rw c.reserve.ensures.items (below-push (vec_len c.args.self.now.duplexes) (vec_len c.push_reserved.new.self) c.args.self.now.dials.items _ c.args.self.now.dials_known c.len.ensures next));
      trace_known = trace_below-more (vec_len c.args.self.now.duplexes) (vec_len c.push_reserved.new.self) c.args.self.now.trace.items (omega (arith, next)) c.args.self.now.trace_known;
    }

pub returns-clause-channels : goal.returns-clause-channels
returns-clause-channels c = rw c.push_reserved.ensures.items (rw c.reserve-2.ensures.items (channels-push c.args.self.now.duplexes.items _ c.new.ensures))

pub returns-clause-dials : goal.returns-clause-dials
returns-clause-dials c =
    let dials = c.args.self.now.dials.items in
    let count : c.len.result ≡ length c.args.self.now.duplexes.items = omega (arith, c.len.ensures, c.args.self.now.duplexes.ok.0) in
    rw c.push_reserved-2.ensures.items (rw c.reserve.ensures.items (waiting-push dials _ ∙ (λ i p. cond (p == c.args.port) (waiting_at dials p ++ count i ∷ []) (waiting_at dials p))))
