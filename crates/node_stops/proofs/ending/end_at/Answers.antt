-- The lower end is taken from its place, and its ends are brought back.
use Rattle.std.proofs.Common.{refl, sym, subst, rules}
use Rattle.node_stops.specs.Ending.{LowerIsKnown}
use Rattle.node_stops.proofs.EndLemmas.{index_get, ok_then, end_here}
use Rattle.node_stops.proofs.ending.end_at.Goals as goal

pub end-requires-after_bounds : goal.end-requires-after_bounds
end-requires-after_bounds g c κs within =
    subst (LowerIsKnown (g.R.Roads.plain c.args.roads.now)) (sym c.replace-lower.ensures.value)
    (c.requires.known c.args.index c.index_mut.result.now (index_get c.args.nodes.now.connections.items c.args.index c.index_mut.result.now c.requires.within c.index_mut.ensures.value))

pub returns-clause-ends : goal.returns-clause-ends
returns-clause-ends g c =
    let at = index_get c.args.nodes.now.connections.items c.args.index c.index_mut.result.now c.requires.within c.index_mut.ensures.value in
    let first = index_get c.args.nodes.now.connections.items c.args.index c.index.result.now c.requires.within c.index.ensures in
    ok_then _ _ c.end.result (λ ends. end_here g.R.Roads g.I.LinkIn g.O.LinkOut c.args.node c.args.index c.args.nodes.now _ c.index_mut.result.now c.replace-lower.result c.replace-lower.new.dest c.args.roads.now c.end.new.roads at
    (search rules) c.replace-lower.ensures.value c.replace-lower.ensures.after refl refl refl ends) c.end.ensures.ends
