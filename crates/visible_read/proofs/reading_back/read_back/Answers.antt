-- Steps that follow one another, until one ends the read.
use Rattle.std.proofs.Common.{inl}
use Rattle.visible_read.proofs.ReadingLaws.{begun-open, goes-on-open, comes-nowhere, comes-on, goes-on-leads}
use Rattle.visible_read.specs.declared.talking.ReadStep.TheVariants as step
use Rattle.visible_read.specs.ReadingBack.{Reads}
use Rattle.visible_read.proofs.VerifiedLaws.{has-read}
use Rattle.visible_read.proofs.reading_back.read_back.Given.{Over}
use Rattle.visible_read.proofs.reading_back.read_back.Goals as goal

pub steps-init : goal.steps-init
steps-init g c = record {
  first = c.in-Ok-new.talk;
  begins = rw c.in-Ok.ensures at c.in-Ok-new.ensures;
  comes = comes-nowhere g.I.LinkIn g.O.LinkOut (record { talk = c.in-Ok-new.talk; end = c.args.conn.now });
  still = begun-open c.in-Ok.copy c.in-Ok-new.talk c.in-Ok-new.ensures;
}

reads : (g : Over) (c : goal.Joined-talk-3 g) → Reads g.I.LinkIn g.O.LinkOut c.args.op.now c.args.conn.now c.step.new.end (step.Ended c.in-Ended.result)
reads g c = record {
  first = c.steps.invariant.first;
  begins = c.steps.invariant.begins;
  before = record { talk = c.steps.talk; end = c.steps.conn };
  over = c.step.new.self;
  comes = c.steps.invariant.comes;
  ends = c.in-Ended.ensures.steps;
}

pub returns-in-Ended-clause-steps : goal.returns-in-Ended-clause-steps
returns-in-Ended-clause-steps g c = inl (reads g c)

pub returns-in-Ended-clause-read : goal.returns-in-Ended-clause-read
returns-in-Ended-clause-read g c = has-read g.I.LinkIn g.O.LinkOut c.args.op.now c.args.conn.now c.step.new.end c.in-Ended.result (reads g c)

pub steps-preserved : goal.steps-preserved
steps-preserved g c = record {
  first = c.steps.invariant.first;
  begins = c.steps.invariant.begins;
  comes = comes-on g.I.LinkIn g.O.LinkOut (record { talk = c.steps.invariant.first; end = c.args.conn.now })
      (record { talk = c.steps.talk; end = c.steps.conn }) (record { talk = c.step.new.self; end = c.step.new.end })
      c.steps.invariant.comes
      (goes-on-leads g.I.LinkIn g.O.LinkOut (record { talk = c.steps.talk; end = c.steps.conn })
      (record { talk = c.step.new.self; end = c.step.new.end }) c.step.result c.in_default-step.not-Ended c.step.ensures.steps);
  still = goes-on-open c.step.result c.step.new.self.core c.in_default-step.not-Ended c.step.ensures.still;
}
