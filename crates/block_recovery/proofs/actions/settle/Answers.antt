-- One connection more is kept or given up.
use Rattle.std.proofs.Common.{◌<◌, length, slice_set, arith, ◌∙◌}
use Rattle.std.proofs.lemmas.List.{length-set}
use Rattle.block_recovery.specs.Actions.{Settles, SettlesAt, keeps_at}
use Rattle.block_recovery.proofs.ActionLaws.{at_place, passes_more, known_stay}
use Rattle.block_recovery.proofs.actions.settle.Goals as goal

pub loop-place-preserved : goal.loop-place-preserved
loop-place-preserved g c =
    let n = c.loop-place.place in
    let xs = c.loop-place.links in
    let within : n < length xs = omega (arith, c.loop-place-test.true, c.loop-place.auto.links) in
    record {
      settled = passes_more (SettlesAt g.R.Roads g.R.Inward.LinkIn g.R.Outward.LinkOut c.args.standings.now) n (record { links = c.args.links.now; road = c.args.roads.now }) (record { links = xs; road = c.loop-place.roads })
          (record { links = slice_set xs n c.settle_link.new.link; road = c.settle_link.new.roads }) c.loop-place.invariant.settled
          (at_place (λ before after. Settles g.R.Roads g.R.Inward.LinkIn g.R.Outward.LinkOut (keeps_at c.args.standings.now n) before after c.loop-place.roads c.settle_link.new.roads) n xs c.index-links-place.result c.settle_link.new.link within
          (rw c.keeps_at-keeps.ensures at c.settle_link.ensures.settles));
      count = length-set xs n c.settle_link.new.link ∙ c.loop-place.invariant.count;
      within = omega arith;
      known = known_stay (g.R.Roads.plain c.loop-place.roads) (g.R.Roads.plain c.settle_link.new.roads) n xs c.settle_link.new.link c.settle_link.ensures.kept c.settle_link.ensures.known c.loop-place.invariant.known;
    }
