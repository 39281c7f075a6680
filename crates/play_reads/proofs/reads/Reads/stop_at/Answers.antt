-- The lower end is taken from its place, and brought back.
use Rattle.std.proofs.Common.{refl, sym, subst, rules}
use Rattle.play_primaries.proofs.ClientEvents.PassLaws.{pass_by}
use Rattle.play_nodes.proofs.PlaceLaws.{element_some}
use Rattle.play_servers.specs.Known.{EndIsKnown}
use Rattle.play_reads.proofs.EndLaws.{ok_then, end_here}
use Rattle.play_reads.proofs.reads.Reads.stop_at.Goals as goal

pub bring-requires-after_bounds : goal.bring-requires-after_bounds
bring-requires-after_bounds g c κs within =
    subst (λ x. EndIsKnown (g.R.Roads.plain c.args.roads.now) x) (sym c.replace-end.ensures.value)
    (c.requires.known c.args.place c.index_mut.result.now (element_some c.args.self.now.servers.items c.args.place c.index_mut.result.now c.requires.within c.index_mut.ensures.value))

pub returns-clause-ends : goal.returns-clause-ends
returns-clause-ends g c =
    let at = element_some c.args.self.now.servers.items c.args.place c.index_mut.result.now c.requires.within c.index_mut.ensures.value in
    let first = element_some c.args.self.now.servers.items c.args.place c.index.result.now c.requires.within c.index.ensures in
    ok_then _ _ c.bring.result (λ ends. end_here g.R.Roads g.I.LinkIn g.O.LinkOut c.args.nodes.now c.args.node c.args.place c.args.self.now _ c.index_mut.result.now c.replace-end.result c.replace-end.new.dest c.args.roads.now c.bring.new.roads at
    (search rules) c.replace-end.ensures.value c.replace-end.ensures.after refl refl ends) c.bring.ensures.ends

pub returns-clause-pass : goal.returns-clause-pass
returns-clause-pass g c = pass_by g.R.Roads g.I.LinkIn g.O.LinkOut c.args.roads.now c.bring.new.roads c.bring.ensures.connections c.bring.ensures.faults
