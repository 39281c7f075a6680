-- The action of a step, what is given up, and how it ends.
use Rattle.std.proofs.Common.{refl, subst}
use Rattle.pipe_recovery.specs.Steps.{keeps_link, Acts}
use Rattle.pipe_recovery.proofs.StepLaws.{acts-leads, settles-leads}
use Rattle.pipe_recovery.proofs.FitLaws.{settled-at, kept-fits-at, acts-fit-at, reports-fit}
use Rattle.pipe_recovery.proofs.rebuilding.Rebuild.step.Goals as goal

pub report-step-requires : goal.report-step-requires
report-step-requires g c =
    settles-leads g.R.Roads g.I.LinkIn g.O.LinkOut _ c.act-acted.new.self.link c.settle-lost.new.self.link c.act-acted.new.roads c.settle-lost.new.roads
    (acts-leads g.D.Desk g.R.Roads g.I.LinkIn g.O.LinkOut c.args.writer.now c.act-acted.new.writer c.args.self.now.link c.act-acted.new.self.link
    c.args.office.now c.act-acted.new.office c.args.roads.now c.act-acted.new.roads c.act-acted.result c.requires.fits c.act-acted.ensures.acts)
    c.settle-lost.ensures.settles.settles

pub returns-clause-steps : goal.returns-clause-steps
returns-clause-steps g c = record {
  acted = c.act-acted.result;
  held = c.act-acted.new.self.link;
  kept = c.settle-lost.new.self.link;
  middle = c.act-acted.new.roads;
  acts = c.act-acted.ensures.acts;
  settles = c.settle-lost.ensures.settles;
  reports = c.report-step.ensures;
}

pub returns-clause-fits : goal.returns-clause-fits
returns-clause-fits g c =
    reports-fit g.I.LinkIn c.act-acted.result c.act-acted.new.writer c.settle-lost.new.self.link c.report-step.new.self.link c.report-step.result
    (settles-leads g.R.Roads g.I.LinkIn g.O.LinkOut _ c.act-acted.new.self.link c.settle-lost.new.self.link c.act-acted.new.roads c.settle-lost.new.roads
    (acts-leads g.D.Desk g.R.Roads g.I.LinkIn g.O.LinkOut c.args.writer.now c.act-acted.new.writer c.args.self.now.link c.act-acted.new.self.link
    c.args.office.now c.act-acted.new.office c.args.roads.now c.act-acted.new.roads c.act-acted.result c.requires.fits c.act-acted.ensures.acts)
    c.settle-lost.ensures.settles.settles)
    (settled-at g.R.Roads g.I.LinkIn g.O.LinkOut (keeps_link c.act-acted.new.writer.phase) c.act-acted.new.writer.phase c.act-acted.new.self.link c.settle-lost.new.self.link
    c.act-acted.new.roads c.settle-lost.new.roads refl c.settle-lost.ensures.settles.settles)
    (λ e. kept-fits-at g.R.Roads g.I.LinkIn g.O.LinkOut (keeps_link c.act-acted.new.writer.phase) c.act-acted.new.writer.phase c.act-acted.new.self.link c.settle-lost.new.self.link
    c.act-acted.new.roads c.settle-lost.new.roads refl
    (acts-fit-at g.D.Desk g.R.Roads g.I.LinkIn g.O.LinkOut c.args.writer.now.phase c.args.writer.now c.act-acted.new.writer c.args.self.now.link c.act-acted.new.self.link
    c.args.office.now c.act-acted.new.office c.args.roads.now c.act-acted.new.roads refl c.requires.fits
    (subst (λ x. Acts g.D.Desk g.R.Roads g.I.LinkIn g.O.LinkOut c.args.writer.now.phase c.args.writer.now c.act-acted.new.writer c.args.self.now.link c.act-acted.new.self.link
    c.args.office.now c.act-acted.new.office c.args.roads.now c.act-acted.new.roads x) e c.act-acted.ensures.acts))
    c.settle-lost.ensures.settles.settles)
    c.report-step.ensures
