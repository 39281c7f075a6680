-- A lower end that is kept elsewhere is that of a connection that is none of a pipeline.
use Rattle.std.proofs.Common.{false, sym, ap, ◌∙◌, arith}
use Rattle.std.specs.Prelude.{not, option_map, unwrap_or}
use Rattle.play_nodes.specs.Showing.{stands_here}
use Rattle.play_nodes.proofs.PlaceLaws.{element_some}
use Rattle.play_nodes.proofs.DueNodes.{elsewhere_told}
use Rattle.play_nodes.proofs.nodes.Nodes.is_elsewhere.Goals as goal

pub returns-clause-tells : goal.returns-clause-tells
returns-clause-tells g c =
    let found = element_some c.args.self.now.connections.items c.args.conn.0 c.index.result.now (omega (arith, c.if-conn-len.false)) c.index.ensures in
    elsewhere_told g.I.LinkIn g.O.LinkOut c.args.self.now c.args.conn (not c.stands_here.result)
    (ap not c.stands_here.ensures ∙ sym (ap (λ x. unwrap_or (option_map (λ y. not (stands_here y.lower)) x) false) found))
