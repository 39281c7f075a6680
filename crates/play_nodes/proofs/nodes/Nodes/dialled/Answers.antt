-- The connection stands behind the others.
use Rattle.std.proofs.Common.{Result, refl, sym, subst}
use Rattle.play_nodes.specs.declared.faults.NodesFault.{NodesFault}
use Rattle.play_nodes.specs.Frames.{DialledShows}
use Rattle.play_nodes.proofs.KeptNodes.{dial_kept}
use Rattle.play_nodes.proofs.nodes.Nodes.dialled.Goals.{in-Ok, in-Err}
use Rattle.play_nodes.proofs.nodes.Nodes.dialled.Goals as goal

pub returns-clause-shows : goal.returns-clause-shows
returns-clause-shows g c = elim c.match-push.branch [
  | in-Ok b ↦ subst (λ (x : Result (Unit {0}) NodesFault). DialledShows g.I.LinkIn g.O.LinkOut c.args.block c.args.node c.args.end c.args.self.now (record { blocks = c.args.self.now.blocks; connections = c.push.new.self; nodes = c.args.self.now.nodes }) x) (sym b.result-is)
      (λ w net v made k next d. dial_kept g.I.LinkIn g.O.LinkOut w net v made c.args.self.now k _ c.args.block c.args.node c.args.end _ refl (rw b.in-Ok.is at c.push.ensures.items) refl refl next d)
  | in-Err b ↦ subst (λ (x : Result (Unit {0}) NodesFault). DialledShows g.I.LinkIn g.O.LinkOut c.args.block c.args.node c.args.end c.args.self.now (record { blocks = c.args.self.now.blocks; connections = c.push.new.self; nodes = c.args.self.now.nodes }) x) (sym b.result-is) refl
]
