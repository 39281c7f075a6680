-- The client at a place is at the node, or at another one.
use Rattle.std.proofs.Common.{refl, rules}
use Rattle.play_nodes.proofs.PlaceLaws.{element_some}
use Rattle.play_recoveries.proofs.EndLaws.{ok_then}
use Rattle.play_recoveries.proofs.HaltLaws.{stop_here, known_set}
use Rattle.play_recoveries.proofs.recoveries.Recoveries.stop_client.Goals as goal

pub stop-requires-after_bounds : goal.stop-requires-after_bounds
stop-requires-after_bounds g c κs within =
    c.requires.known.clients c.args.place c.index_mut.result.now (element_some c.args.self.now.clients.items c.args.place c.index_mut.result.now c.requires.within c.index_mut.ensures.value)

pub returns-clause-stops : goal.returns-clause-stops
returns-clause-stops g c =
    let at = element_some c.args.self.now.clients.items c.args.place c.index_mut.result.now c.requires.within c.index_mut.ensures.value in
    let first = element_some c.args.self.now.clients.items c.args.place c.index.result.now c.requires.within c.index.ensures in
    ok_then _ _ c.stop.result (λ stops. stop_here g.R.Roads g.I.LinkIn g.O.LinkOut c.args.node c.args.place c.args.self.now _ c.index_mut.result.now c.stop.new.self c.args.roads.now c.stop.new.roads at
    (search rules) refl refl c.stop.ensures.recovery stops) c.stop.ensures.shows

pub returns-clause-known : goal.returns-clause-known
returns-clause-known g c =
    let at = element_some c.args.self.now.clients.items c.args.place c.index_mut.result.now c.requires.within c.index_mut.ensures.value in
    known_set g.R.Roads c.args.place c.args.self.now _ c.index_mut.result.now c.stop.new.self c.args.roads.now c.stop.new.roads at refl refl c.stop.ensures.passes.pass c.stop.ensures.passes.ready c.requires.known

pub returns-clause-pass : goal.returns-clause-pass
returns-clause-pass g c = c.stop.ensures.passes.pass
