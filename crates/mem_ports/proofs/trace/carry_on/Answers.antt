-- One more trace entry was carried.
use Rattle.std.proofs.Common.{◌≡◌, nat_lt, true, arith, refl, ap, ◌∙◌}
use Rattle.std.proofs.lemmas.Bool.Decides.{nat_tests}
use Rattle.mem_ports.specs.Traces.{carried_of, trace_below}
use Rattle.mem_ports.proofs.TraceLaws.{carried-push, trace_below-append}
use Rattle.mem_ports.proofs.trace.carry_on.Goals as goal

pub returns-then-not-is_empty-clause-carried : goal.returns-then-not-is_empty-clause-carried
returns-then-not-is_empty-clause-carried c = ap carried_of c.push_reserved.ensures.items ∙ carried-push c.args.trace.now.items _

pub returns-then-not-is_empty-clause-below : goal.returns-then-not-is_empty-clause-below
returns-then-not-is_empty-clause-below c = λ n less below.
    let here : nat_lt c.args.conn.0 n ≡ true = grind (arith, nat_tests) in
    ap (trace_below n) c.push_reserved.ensures.items ∙ trace_below-append n c.args.trace.now.items _ below (rw here refl)
