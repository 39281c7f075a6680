-- One mirror after the other.
use Rattle.std.proofs.Common.{rules, arith}
use Rattle.play_lines.proofs.Pipelined.{behind_more, behind_ends, behind_first, behind_last}
use Rattle.play_lines.proofs.pipelines.connection_behind.Goals as goal

pub loop-init : goal.loop-init
loop-init g c = record {
  behind = behind_first c.args.nodes.now.connections.items c.args.place c.in_ok-conn.conn c.args.first (search rules);
}

pub returns-in_err-conn-2 : goal.returns-in_err-conn-2
returns-in_err-conn-2 g c =
    behind_ends c.args.nodes.now.connections.items c.args.place c.loop.counter c.loop.conn.0 c.mirror_of.result c.from_residual-in_err-conn-2.result _ c.loop-test.true c.mirror_of.ensures (search rules) (search rules) c.loop.invariant.behind

pub loop-preserved : goal.loop-preserved
loop-preserved g c = record {
  behind = behind_more c.args.nodes.now.connections.items c.args.place c.loop.counter c.loop.conn.0 c.mirror_of.result c.in_ok-conn-2.conn _ c.loop-test.true c.mirror_of.ensures (search rules) c.loop.invariant.behind;
}

pub returns : goal.returns
returns g c = behind_last c.args.nodes.now.connections.items c.args.place c.loop.counter c.loop.conn.0 _ c.loop.auto.counter-end (λ h. omega (arith, h, c.loop-test.false)) c.loop.invariant.behind
