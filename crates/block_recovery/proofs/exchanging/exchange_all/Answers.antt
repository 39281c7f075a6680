-- One connection more is done, or the roads fail.
use Rattle.std.proofs.Common.{◌<◌, length, slice_set, Ok, Err, arith, ◌∙◌, refl}
use Rattle.std.proofs.lemmas.List.{length-set}
use Rattle.block_recovery.specs.Exchanging.{ExchangesAt, ExchangesLink}
use Rattle.block_recovery.proofs.ActionLaws.{at_place, passes_more, known_stay}
use Rattle.block_recovery.proofs.exchanging.exchange_all.Goals as goal

pub loop-place-preserved : goal.loop-place-preserved
loop-place-preserved g c =
    let n = c.loop-place.place in
    let xs = c.loop-place.links in
    let within : n < length xs = omega (arith, c.loop-place-test.true, c.loop-place.auto.links) in
    record {
      exchanged = passes_more (ExchangesAt g.R.Roads g.R.Inward.LinkIn g.R.Outward.LinkOut c.args.take (Ok tt)) n (record { links = c.args.links.now; road = c.args.roads.now }) (record { links = xs; road = c.loop-place.roads })
          (record { links = slice_set xs n c.exchange_link.new.link; road = c.exchange_link.new.roads }) c.loop-place.invariant.exchanged
          (at_place (λ before after. ExchangesLink g.R.Roads g.R.Inward.LinkIn g.R.Outward.LinkOut c.args.take before after c.loop-place.roads c.exchange_link.new.roads (Ok tt)) n xs c.index-links-place.result c.exchange_link.new.link within c.in_default.ensures.exchanges);
      count = length-set xs n c.exchange_link.new.link ∙ c.loop-place.invariant.count;
      within = omega arith;
      known = known_stay (g.R.Roads.plain c.loop-place.roads) (g.R.Roads.plain c.exchange_link.new.roads) n xs c.exchange_link.new.link c.exchange_link.ensures.kept c.exchange_link.ensures.known c.loop-place.invariant.known;
    }

pub returns-in-Err-clause-exchanges : goal.returns-in-Err-clause-exchanges
returns-in-Err-clause-exchanges g c =
    let n = c.loop-place.place in
    let xs = c.loop-place.links in
    let within : n < length xs = omega (arith, c.loop-place-test.true, c.loop-place.auto.links) in
    record {
      count = n;
      middle = record { links = xs; road = c.loop-place.roads };
      passes = c.loop-place.invariant.exchanged;
      ends = at_place (λ before after. ExchangesLink g.R.Roads g.R.Inward.LinkIn g.R.Outward.LinkOut c.args.take before after c.loop-place.roads c.exchange_link.new.roads (Err c.in-Err.error)) n xs c.index-links-place.result c.exchange_link.new.link within c.in-Err.ensures.exchanges;
    }

pub returns-clause-exchanges : goal.returns-clause-exchanges
returns-clause-exchanges g c = record {
  count = c.loop-place.place;
  middle = record { links = c.loop-place.links; road = c.loop-place.roads };
  passes = c.loop-place.invariant.exchanged;
  ends = (refl, omega (arith, c.loop-place-test.false, c.loop-place.invariant.count, c.loop-place.invariant.within));
}
