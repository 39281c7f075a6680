-- A member was missed, or the connections and their lower ends stand behind the others.
use Rattle.std.proofs.Common.{sym, ◌∙◌}
use Rattle.play_nodes.proofs.PlaceLaws.{element_some}
use Rattle.play_recoveries.proofs.ReachLaws.{reach_missed, reach_served}
use Rattle.play_recoveries.proofs.recoveries.Recoveries.reach.Goals as goal

pub returns-then-misses_any-clause-reaches : goal.returns-then-misses_any-clause-reaches
returns-then-misses_any-clause-reaches g c =
    let x = c.index.result.now in
    reach_missed g.I.LinkIn g.O.LinkOut c.args.running.now c.args.place c.args.lowers.items c.args.nodes.now c.args.nodes.now c.args.self.now c.args.self.now x (element_some c.args.self.now.clients.items c.args.place x c.requires c.index.ensures)
    (rw (c.as_slice-members.ensures.value, c.as_slice.ensures.value) at (sym c.misses_any.ensures ∙ c.if-misses_any.true))

pub returns-in-Ok-clause-reaches : goal.returns-in-Ok-clause-reaches
returns-in-Ok-clause-reaches g c =
    let x = c.index.result.now in
    reach_served g.I.LinkIn g.O.LinkOut c.args.running.now c.args.place c.args.lowers.items c.args.nodes.now c.led.new.self c.args.self.now c.serve.new.self x (element_some c.args.self.now.clients.items c.args.place x c.requires c.index.ensures)
    (rw (c.as_slice-members.ensures.value, c.as_slice.ensures.value) at (sym c.misses_any.ensures ∙ c.if-misses_any.false))
    (rw (c.as_slice-members.ensures.value, c.as_slice-2.ensures.value) at c.in-Ok.ensures.behind) (rw (c.as_slice-members.ensures.value, c.as_slice-2.ensures.value) at c.in-Ok.ensures.shows)
    c.serve.result c.serve.ensures
