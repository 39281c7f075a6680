-- The connection at the place is given up.
use Rattle.std.proofs.Common.{false}
use Rattle.std.proofs.lemmas.List.{length-set}
use Rattle.block_recovery.specs.Actions.{Settles}
use Rattle.block_recovery.proofs.ActionLaws.{at_place, known_stay}
use Rattle.block_recovery.proofs.members.give_up_at.Goals as goal

pub returns-clause-gives : goal.returns-clause-gives
returns-clause-gives g c =
    at_place (λ before after. Settles g.R.Roads g.R.Inward.LinkIn g.R.Outward.LinkOut false before after c.args.roads.now c.settle_link.new.roads) c.args.place c.args.links.now c.index-links-place.result c.settle_link.new.link c.requires.link c.settle_link.ensures.settles

pub returns-clause-stay : goal.returns-clause-stay
returns-clause-stay g c =
    let n = c.args.place in
    let xs = c.args.links.now in
    record {
      count = length-set xs n c.settle_link.new.link;
      known = known_stay (g.R.Roads.plain c.args.roads.now) (g.R.Roads.plain c.settle_link.new.roads) n xs c.settle_link.new.link c.settle_link.ensures.kept c.settle_link.ensures.known c.requires.known;
      kept = c.settle_link.ensures.kept;
      faults = c.settle_link.ensures.faults;
    }
