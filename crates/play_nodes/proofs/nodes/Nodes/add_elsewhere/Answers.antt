-- The connection stands behind the others.
use Rattle.std.proofs.Common.{Result, refl, sym, subst}
use Rattle.play_nodes.specs.declared.faults.NodesFault.{NodesFault}
use Rattle.play_nodes.specs.Elsewhere.{IsBehind}
use Rattle.play_nodes.proofs.nodes.Nodes.add_elsewhere.Goals.{in-Ok, in-Err}
use Rattle.play_nodes.proofs.nodes.Nodes.add_elsewhere.Goals as goal

pub returns-clause-behind : goal.returns-clause-behind
returns-clause-behind g c = elim c.match-push.branch [
  | in-Ok b ↦ subst (λ (x : Result (Unit {0}) NodesFault). IsBehind c.args.upper c.args.node c.args.self.now (record { blocks = c.args.self.now.blocks; connections = c.push.new.self; nodes = c.args.self.now.nodes }) x) (sym b.result-is)
      (record { connections = rw b.in-Ok.is at c.push.ensures.items; same = refl })
  | in-Err b ↦ subst (λ (x : Result (Unit {0}) NodesFault). IsBehind c.args.upper c.args.node c.args.self.now (record { blocks = c.args.self.now.blocks; connections = c.push.new.self; nodes = c.args.self.now.nodes }) x) (sym b.result-is) refl
]
