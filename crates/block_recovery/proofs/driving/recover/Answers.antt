-- Steps that follow one another, until one ends the recovery.
use Rattle.std.proofs.Common.{inr, ap, ◌∙◌}
use Rattle.block_recovery.specs.Driving.{ended_as}
use Rattle.block_recovery.proofs.DrivingLaws.{comes_nowhere, comes_on}
use Rattle.block_recovery.proofs.driving.recover.Goals as goal

pub steps-init : goal.steps-init
steps-init g c =
    let made = c.in-Ok.made in
    record {
      first = made;
      is_new = c.in-Ok.ensures.made;
      comes = comes_nowhere g.D.Desk g.R.Roads g.R.Inward.LinkIn g.R.Outward.LinkOut
          (record { primary = made; office = c.args.office.now; road = c.args.roads.now });
      count = c.in-Ok.ensures.count;
      known = c.in-Ok.ensures.known (g.R.Roads.plain c.args.roads.now);
    }

pub returns-in-Ended : goal.returns-in-Ended
returns-in-Ended g c = inr (record {
  first = c.steps.invariant.first;
  last = c.step.new.self;
  before = record { primary = c.steps.primary; office = c.steps.office; road = c.steps.roads };
  is_new = c.steps.invariant.is_new;
  comes = c.steps.invariant.comes;
  end = c.in-Ended.recovered;
  ends = rw c.in-Ended.is at c.step.ensures.steps;
  is = c.ended_as.ensures ∙ ap (ended_as c.in-Ended.recovered) c.has_lost_any.ensures;
})

pub steps-preserved : goal.steps-preserved
steps-preserved g c = record {
  first = c.steps.invariant.first;
  is_new = c.steps.invariant.is_new;
  comes = comes_on g.D.Desk g.R.Roads g.R.Inward.LinkIn g.R.Outward.LinkOut
      (record { primary = c.steps.invariant.first; office = c.args.office.now; road = c.args.roads.now })
      (record { primary = c.steps.primary; office = c.steps.office; road = c.steps.roads })
      (record { primary = c.step.new.self; office = c.step.new.office; road = c.step.new.roads })
      c.step.result c.steps.invariant.comes c.in_default-step.not-Ended c.step.ensures.steps;
  count = c.step.ensures.count;
  known = c.step.ensures.known;
}
