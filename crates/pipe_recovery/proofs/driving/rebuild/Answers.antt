-- Steps that follow one another, until one ends the setup.
use Rattle.std.proofs.Common.{None, is_some}
use Rattle.pipe_recovery.proofs.DrivingLaws.{wanted-fits, goes-on-fits, comes-nowhere, comes-on, goes-on-leads}
use Rattle.pipe_recovery.proofs.driving.rebuild.Goals as goal

pub steps-init : goal.steps-init
steps-init g c = record {
  comes = rw c.new-setup.ensures (comes-nowhere g.D.Desk g.R.Roads g.R.Inward.LinkIn g.R.Outward.LinkOut
      (record { writer = c.args.writer.now; link = None; office = c.args.office.now; road = c.args.roads.now }));
  fits = rw c.new-setup.ensures (wanted-fits c.args.writer.now.phase c.requires);
  known = rw c.new-setup.ensures tt;
}

pub returns-in-Ended : goal.returns-in-Ended
returns-in-Ended g c = record {
  before = record { writer = c.steps.writer; link = c.steps.setup.link; office = c.steps.office; road = c.steps.roads };
  link = c.step.new.self.link;
  rest = c.give_up-lost.new.self.link;
  road = c.step.new.roads;
  comes = c.steps.invariant.comes;
  ends = (c.step.new.self.lost, rw c.in-Ended.is at c.step.ensures.steps);
  given_up = c.give_up-lost.ensures.settles.settles;
}

pub steps-preserved : goal.steps-preserved
steps-preserved g c = record {
  comes = comes-on g.D.Desk g.R.Roads g.R.Inward.LinkIn g.R.Outward.LinkOut
      (record { writer = c.args.writer.now; link = None; office = c.args.office.now; road = c.args.roads.now })
      (record { writer = c.steps.writer; link = c.steps.setup.link; office = c.steps.office; road = c.steps.roads })
      (record { writer = c.step.new.writer; link = c.step.new.self.link; office = c.step.new.office; road = c.step.new.roads })
      c.steps.invariant.comes
      (goes-on-leads g.D.Desk g.R.Roads g.R.Inward.LinkIn g.R.Outward.LinkOut
      (record { writer = c.steps.writer; link = c.steps.setup.link; office = c.steps.office; road = c.steps.roads })
      (record { writer = c.step.new.writer; link = c.step.new.self.link; office = c.step.new.office; road = c.step.new.roads })
      c.step.result c.in_default.not-Ended (c.step.new.self.lost, c.step.ensures.steps));
  fits = goes-on-fits c.step.result c.step.new.writer.phase (is_some c.step.new.self.link) c.in_default.not-Ended c.step.ensures.fits;
  known = c.step.ensures.known;
}
