-- The connection at the place is kept or given up.
use Rattle.std.proofs.Common.{not}
use Rattle.std.proofs.lemmas.List.{length-set}
use Rattle.recovery_core.specs.Primaries.{shuts_at}
use Rattle.block_recovery.specs.Actions.{Settles}
use Rattle.block_recovery.proofs.ActionLaws.{at_place, known_stay}
use Rattle.block_recovery.proofs.primary.hear.Goals as goal

pub returns-clause-hears : goal.returns-clause-hears
returns-clause-hears g c =
    let n = c.args.place in
    let xs = c.args.links.now in
    record {
      hears = c.hear-shuts.ensures.primary;
      settles = at_place (λ before after. Settles g.R.Roads g.R.Inward.LinkIn g.R.Outward.LinkOut (not (shuts_at c.args.core.now n)) before after c.args.roads.now c.settle_link.new.roads) n xs c.index-links-place.result c.settle_link.new.link c.requires.link
          (rw c.hear-shuts.ensures.shuts at c.settle_link.ensures.settles);
    }

pub returns-clause-stay : goal.returns-clause-stay
returns-clause-stay g c =
    let n = c.args.place in
    let xs = c.args.links.now in
    record {
      count = length-set xs n c.settle_link.new.link;
      known = known_stay (g.R.Roads.plain c.args.roads.now) (g.R.Roads.plain c.settle_link.new.roads) n xs c.settle_link.new.link c.settle_link.ensures.kept c.settle_link.ensures.known c.requires.known;
      kept = c.settle_link.ensures.kept;
      faults = c.settle_link.ensures.faults;
    }
