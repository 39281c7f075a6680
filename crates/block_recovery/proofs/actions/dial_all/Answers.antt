-- One member more was dialled, or there was no memory for it.
use Rattle.std.proofs.Common.{◌<◌, length, slice_get, slice_set, Ok, Err, arith, ◌∙◌, refl}
use Rattle.std.proofs.lemmas.List.{length-set}
use Rattle.block_recovery.specs.Actions.{DialsInto, DialsAt}
use Rattle.block_recovery.proofs.ActionLaws.{at_place, passes_more, known_stay}
use Rattle.block_recovery.proofs.actions.dial_all.Goals as goal

pub loop-place-preserved : goal.loop-place-preserved
loop-place-preserved g c =
    let n = c.loop-place.place in
    let xs = c.loop-place.links in
    let within : n < length xs = omega (arith, c.loop-place-test.true, c.loop-place.auto.links) in
    record {
      dialled = passes_more (DialsAt g.R.Roads g.R.Inward.LinkIn g.R.Outward.LinkOut c.args.members.now (Ok tt)) n (record { links = c.args.links.now; road = c.args.roads.now }) (record { links = xs; road = c.loop-place.roads })
          (record { links = slice_set xs n c.dial_into.new.link; road = c.dial_into.new.roads }) c.loop-place.invariant.dialled
          (at_place (λ before after. DialsInto g.R.Roads g.R.Inward.LinkIn g.R.Outward.LinkOut (slice_get c.args.members.now n) before after c.loop-place.roads c.dial_into.new.roads (Ok tt)) n xs c.index-links-place.result c.dial_into.new.link within
          c.in_default.ensures.dials);
      count = length-set xs n c.dial_into.new.link ∙ c.loop-place.invariant.count;
      within = omega arith;
      known = known_stay (g.R.Roads.plain c.loop-place.roads) (g.R.Roads.plain c.dial_into.new.roads) n xs c.dial_into.new.link c.dial_into.ensures.kept c.dial_into.ensures.known c.loop-place.invariant.known;
    }

pub returns-clause-dials : goal.returns-clause-dials
returns-clause-dials g c = record {
  count = c.loop-place.place;
  middle = record { links = c.loop-place.links; road = c.loop-place.roads };
  passes = c.loop-place.invariant.dialled;
  ends = (refl, omega (arith, c.loop-place-test.false, c.loop-place.invariant.count, c.loop-place.invariant.within));
}

pub returns-in-Err-clause-dials : goal.returns-in-Err-clause-dials
returns-in-Err-clause-dials g c =
    let n = c.loop-place.place in
    let xs = c.loop-place.links in
    let within : n < length xs = omega (arith, c.loop-place-test.true, c.loop-place.auto.links) in
    record {
      count = n;
      middle = record { links = xs; road = c.loop-place.roads };
      passes = c.loop-place.invariant.dialled;
      ends = at_place (λ before after. DialsInto g.R.Roads g.R.Inward.LinkIn g.R.Outward.LinkOut (slice_get c.args.members.now n) before after c.loop-place.roads c.dial_into.new.roads (Err c.in-Err.error)) n xs c.index-links-place.result c.dial_into.new.link within
          c.in-Err.ensures.dials;
    }
