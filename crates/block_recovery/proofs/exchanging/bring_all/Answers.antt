-- One connection more is brought back.
use Rattle.std.proofs.Common.{◌<◌, length, slice_set, arith, ◌∙◌}
use Rattle.std.proofs.lemmas.List.{length-set}
use Rattle.block_recovery.specs.Exchanging.{BringsAt, BringsLink}
use Rattle.block_recovery.proofs.ActionLaws.{at_place, passes_more, known_stay}
use Rattle.block_recovery.proofs.exchanging.bring_all.Goals as goal

pub loop-place-preserved : goal.loop-place-preserved
loop-place-preserved g c =
    let n = c.loop-place.place in
    let xs = c.loop-place.links in
    let within : n < length xs = omega (arith, c.loop-place-test.true, c.loop-place.auto.links) in
    record {
      brought = passes_more (BringsAt g.R.Roads g.R.Inward.LinkIn g.R.Outward.LinkOut) n (record { links = c.args.links.now; road = c.args.roads.now }) (record { links = xs; road = c.loop-place.roads })
          (record { links = slice_set xs n c.bring_link.new.link; road = c.bring_link.new.roads }) c.loop-place.invariant.brought
          (at_place (λ before after. BringsLink g.R.Roads g.R.Inward.LinkIn g.R.Outward.LinkOut before after c.loop-place.roads c.bring_link.new.roads) n xs c.index-links-place.result c.bring_link.new.link within c.bring_link.ensures.brings);
      count = length-set xs n c.bring_link.new.link ∙ c.loop-place.invariant.count;
      within = omega arith;
      known = known_stay (g.R.Roads.plain c.loop-place.roads) (g.R.Roads.plain c.bring_link.new.roads) n xs c.bring_link.new.link c.bring_link.ensures.kept c.bring_link.ensures.known c.loop-place.invariant.known;
    }
