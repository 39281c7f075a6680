-- The step of the setup, and what followed.
use Rattle.std.proofs.Common.{Bool, Ok, is_some, sym, ap, ◌∙◌, subst}
use Rattle.client_events.specs.Acting.{AnswersIf}
use Rattle.client_events.specs.Answering.{is_risen}
use Rattle.client_events.specs.Committing.{is_opened}
use Rattle.client_events.proofs.CommitEnds.{commit_shows, commit_risen}
use Rattle.client_events.proofs.PassLaws.{accepted_asked, step_pass, piped_known, read_known}
use Rattle.client_events.proofs.FitLaws.{commit_fits}
use Rattle.client_events.proofs.committing.commit.Goals as goal

pub returns-then-has_lost-clause-pass : goal.returns-then-has_lost-clause-pass
returns-then-has_lost-clause-pass g c =
    (step_pass g.R.Roads g.I.LinkIn g.O.LinkOut g.D.Desk (is_some c.args.setup.link) c.args.writer.now c.step-step.new.writer c.args.setup.link c.step-step.new.self.link c.args.office.now c.step-step.new.office c.args.roads.now c.step-step.new.roads c.step-step.new.self.lost c.step-step.result
    (accepted_asked c.args.writer.now.phase (is_some c.args.setup.link) c.requires.accepted c.requires.fits) c.step-step.ensures.steps)

pub returns-then-is_risen-clause-shows : goal.returns-then-is_risen-clause-shows
returns-then-is_risen-clause-shows g c =
    commit_risen g.R.Roads g.I.LinkIn g.O.LinkOut g.D.Desk c.args.setup c.step-step.new.self c.args.writer.now c.step-step.new.writer c.step-step.new.writer c.args.office.now c.step-step.new.office c.args.roads.now c.step-step.new.roads
    (ap (is_risen (g.R.Roads.risen c.step-step.new.roads)) (sym c.conn-conn.ensures) ∙ (sym c.is_risen.ensures ∙ c.if-is_risen.true))

pub returns-then-is_risen-clause-pass : goal.returns-then-is_risen-clause-pass
returns-then-is_risen-clause-pass g c =
    (step_pass g.R.Roads g.I.LinkIn g.O.LinkOut g.D.Desk (is_some c.args.setup.link) c.args.writer.now c.step-step.new.writer c.args.setup.link c.step-step.new.self.link c.args.office.now c.step-step.new.office c.args.roads.now c.step-step.new.roads c.step-step.new.self.lost c.step-step.result
    (accepted_asked c.args.writer.now.phase (is_some c.args.setup.link) c.requires.accepted c.requires.fits) c.step-step.ensures.steps)

pub returns-in_err-held-clause-pass : goal.returns-in_err-held-clause-pass
returns-in_err-held-clause-pass g c =
    (step_pass g.R.Roads g.I.LinkIn g.O.LinkOut g.D.Desk (is_some c.args.setup.link) c.args.writer.now c.step-step.new.writer c.args.setup.link c.step-step.new.self.link c.args.office.now c.step-step.new.office c.args.roads.now c.step-step.new.roads c.step-step.new.self.lost c.step-step.result
    (accepted_asked c.args.writer.now.phase (is_some c.args.setup.link) c.requires.accepted c.requires.fits) c.step-step.ensures.steps)

pub returns-in_err-pipe-clause-pass : goal.returns-in_err-pipe-clause-pass
returns-in_err-pipe-clause-pass g c =
    (step_pass g.R.Roads g.I.LinkIn g.O.LinkOut g.D.Desk (is_some c.args.setup.link) c.args.writer.now c.step-step.new.writer c.args.setup.link c.step-step.new.self.link c.args.office.now c.step-step.new.office c.args.roads.now c.step-step.new.roads c.step-step.new.self.lost c.step-step.result
    (accepted_asked c.args.writer.now.phase (is_some c.args.setup.link) c.requires.accepted c.requires.fits) c.step-step.ensures.steps)

pub returns-in_err-said-clause-pass : goal.returns-in_err-said-clause-pass
returns-in_err-said-clause-pass g c =
    (step_pass g.R.Roads g.I.LinkIn g.O.LinkOut g.D.Desk (is_some c.args.setup.link) c.args.writer.now c.step-step.new.writer c.args.setup.link c.step-step.new.self.link c.args.office.now c.step-step.new.office c.args.roads.now c.step-step.new.roads c.step-step.new.self.lost c.step-step.result
    (accepted_asked c.args.writer.now.phase (is_some c.args.setup.link) c.requires.accepted c.requires.fits) c.step-step.ensures.steps)

pub returns-clause-shows : goal.returns-clause-shows
returns-clause-shows g c =
    commit_shows g.R.Roads g.I.LinkIn g.O.LinkOut g.D.Desk c.args.setup c.step-step.new.self c.args.writer.now c.step-step.new.writer c.answer_if.new.writer c.args.office.now c.step-step.new.office c.args.roads.now c.step-step.new.roads
    c.step-step.result c.in_ok-held.held c.in_ok-pipe.pipe c.in_ok-said.said c.requires.accepted c.requires.fits c.step-step.ensures.steps (sym c.has_lost.ensures ∙ c.if-has_lost.false)
    (ap (is_risen (g.R.Roads.risen c.step-step.new.roads)) (sym c.conn-conn.ensures) ∙ (sym c.is_risen.ensures ∙ c.if-is_risen.false)) (sym c.in_ok-held.ensures) c.in_ok-pipe.ensures
    (subst (λ (q : Bool). AnswersIf q c.step-step.new.writer c.answer_if.new.writer (Ok c.in_ok-said.said)) (c.is_opened-due.ensures ∙ ap is_opened c.phase.ensures) c.in_ok-said.ensures)

pub returns-clause-pass : goal.returns-clause-pass
returns-clause-pass g c =
    (step_pass g.R.Roads g.I.LinkIn g.O.LinkOut g.D.Desk (is_some c.args.setup.link) c.args.writer.now c.step-step.new.writer c.args.setup.link c.step-step.new.self.link c.args.office.now c.step-step.new.office c.args.roads.now c.step-step.new.roads c.step-step.new.self.lost c.step-step.result
    (accepted_asked c.args.writer.now.phase (is_some c.args.setup.link) c.requires.accepted c.requires.fits) c.step-step.ensures.steps)

pub returns-clause-known : goal.returns-clause-known
returns-clause-known g c =
    read_known (g.R.Roads.plain c.step-step.new.roads) c.in_ok-held.held c.in_ok-pipe.pipe c.in_ok-pipe.ensures
    (piped_known g.R.Roads g.I.LinkIn g.O.LinkOut g.D.Desk (is_some c.args.setup.link) c.args.writer.now c.step-step.new.writer c.args.setup.link c.step-step.new.self c.args.office.now c.step-step.new.office c.args.roads.now c.step-step.new.roads c.step-step.new.self.lost c.step-step.result c.in_ok-held.held
    (accepted_asked c.args.writer.now.phase (is_some c.args.setup.link) c.requires.accepted c.requires.fits) c.step-step.ensures.steps c.requires.known c.step-step.ensures.known (sym c.in_ok-held.ensures))

pub returns-clause-fits : goal.returns-clause-fits
returns-clause-fits g c = λ fits.
    commit_fits g.D.Desk g.R.Roads g.I.LinkIn g.O.LinkOut c.args.writer.now c.step-step.new.writer c.answer_if.new.writer c.args.setup c.step-step.new.self c.args.office.now c.step-step.new.office c.args.roads.now c.step-step.new.roads c.step-step.result c.in_ok-held.held c.in_ok-pipe.pipe c.in_ok-said.said
    c.requires.accepted c.step-step.ensures.steps c.step-step.ensures.fits (sym c.in_ok-held.ensures) c.in_ok-pipe.ensures
    (subst (λ (q : Bool). AnswersIf q c.step-step.new.writer c.answer_if.new.writer (Ok c.in_ok-said.said)) (c.is_opened-due.ensures ∙ ap is_opened c.phase.ensures) c.in_ok-said.ensures)
