-- A step of the setup took what stood next, and what followed.
use Rattle.std.proofs.Common.{true, sym, ap, ◌∙◌}
use Rattle.client_events.specs.Answering.{is_risen}
use Rattle.client_events.proofs.AnswerEnds.{answer_shows, answer_risen, answer_office, answer_keeps}
use Rattle.member_events.proofs.SetupKnown.{pass_on}
use Rattle.client_events.proofs.PassLaws.{waits_asked, ok_known, step_pass, piped_known}
use Rattle.client_events.proofs.FitLaws.{answer_fits}
use Rattle.client_events.proofs.answering.hear_answer.Goals as goal

pub returns-then-has_lost-clause-quiet : goal.returns-then-has_lost-clause-quiet
returns-then-has_lost-clause-quiet g c = λ waits.
    answer_office g.R.Roads g.I.LinkIn g.O.LinkOut g.D.Desk c.args.writer.now c.step-step.new.writer c.in_ok-setup.setup.link c.step-step.new.self.link c.args.office.now c.step-step.new.office c.taken.new.roads c.step-step.new.roads c.step-step.new.self.lost c.step-step.result waits c.step-step.ensures.steps

pub returns-then-has_lost-clause-pass : goal.returns-then-has_lost-clause-pass
returns-then-has_lost-clause-pass g c =
    (pass_on g.R.Roads g.I.LinkIn g.O.LinkOut c.args.roads.now c.taken.new.roads c.step-step.new.roads c.taken.ensures.passes
    (step_pass g.R.Roads g.I.LinkIn g.O.LinkOut g.D.Desk true c.args.writer.now c.step-step.new.writer c.in_ok-setup.setup.link c.step-step.new.self.link c.args.office.now c.step-step.new.office c.taken.new.roads c.step-step.new.roads c.step-step.new.self.lost c.step-step.result
    (waits_asked c.args.writer.now.phase c.requires.waits) c.step-step.ensures.steps))

pub returns-then-is_risen-clause-shows : goal.returns-then-is_risen-clause-shows
returns-then-is_risen-clause-shows g c =
    answer_risen g.R.Roads g.I.LinkIn g.O.LinkOut c.args.setup c.args.writer.now c.step-step.new.writer c.args.roads.now c.step-step.new.roads
    (ap (is_risen (g.R.Roads.risen c.step-step.new.roads)) (sym c.conn-conn.ensures) ∙ (sym c.is_risen.ensures ∙ c.if-is_risen.true))

pub returns-then-is_risen-clause-quiet : goal.returns-then-is_risen-clause-quiet
returns-then-is_risen-clause-quiet g c = λ waits.
    answer_office g.R.Roads g.I.LinkIn g.O.LinkOut g.D.Desk c.args.writer.now c.step-step.new.writer c.in_ok-setup.setup.link c.step-step.new.self.link c.args.office.now c.step-step.new.office c.taken.new.roads c.step-step.new.roads c.step-step.new.self.lost c.step-step.result waits c.step-step.ensures.steps

pub returns-then-is_risen-clause-pass : goal.returns-then-is_risen-clause-pass
returns-then-is_risen-clause-pass g c =
    (pass_on g.R.Roads g.I.LinkIn g.O.LinkOut c.args.roads.now c.taken.new.roads c.step-step.new.roads c.taken.ensures.passes
    (step_pass g.R.Roads g.I.LinkIn g.O.LinkOut g.D.Desk true c.args.writer.now c.step-step.new.writer c.in_ok-setup.setup.link c.step-step.new.self.link c.args.office.now c.step-step.new.office c.taken.new.roads c.step-step.new.roads c.step-step.new.self.lost c.step-step.result
    (waits_asked c.args.writer.now.phase c.requires.waits) c.step-step.ensures.steps))

pub returns-clause-shows : goal.returns-clause-shows
returns-clause-shows g c =
    answer_shows g.R.Roads g.I.LinkIn g.O.LinkOut g.D.Desk c.args.setup c.in_ok-setup.setup c.step-step.new.self c.step-step.result c.piped.result c.args.writer.now c.step-step.new.writer c.args.office.now c.step-step.new.office c.args.roads.now c.taken.new.roads c.step-step.new.roads
    c.in_ok-setup.ensures.takes c.step-step.ensures.steps (sym c.has_lost.ensures ∙ c.if-has_lost.false)
    (ap (is_risen (g.R.Roads.risen c.step-step.new.roads)) (sym c.conn-conn.ensures) ∙ (sym c.is_risen.ensures ∙ c.if-is_risen.false)) (sym c.piped.ensures)

pub returns-clause-pass : goal.returns-clause-pass
returns-clause-pass g c =
    (pass_on g.R.Roads g.I.LinkIn g.O.LinkOut c.args.roads.now c.taken.new.roads c.step-step.new.roads c.taken.ensures.passes
    (step_pass g.R.Roads g.I.LinkIn g.O.LinkOut g.D.Desk true c.args.writer.now c.step-step.new.writer c.in_ok-setup.setup.link c.step-step.new.self.link c.args.office.now c.step-step.new.office c.taken.new.roads c.step-step.new.roads c.step-step.new.self.lost c.step-step.result
    (waits_asked c.args.writer.now.phase c.requires.waits) c.step-step.ensures.steps))

pub returns-clause-known : goal.returns-clause-known
returns-clause-known g c =
    ok_known (g.R.Roads.plain c.step-step.new.roads) c.piped.result
    (λ left is. piped_known g.R.Roads g.I.LinkIn g.O.LinkOut g.D.Desk true c.args.writer.now c.step-step.new.writer c.in_ok-setup.setup.link c.step-step.new.self c.args.office.now c.step-step.new.office c.taken.new.roads c.step-step.new.roads c.step-step.new.self.lost c.step-step.result left
    (waits_asked c.args.writer.now.phase c.requires.waits) c.step-step.ensures.steps c.in_ok-setup.ensures.known c.step-step.ensures.known (sym c.piped.ensures ∙ is))

pub returns-clause-fits : goal.returns-clause-fits
returns-clause-fits g c =
    answer_fits g.D.Desk g.R.Roads g.I.LinkIn g.O.LinkOut c.args.writer.now c.step-step.new.writer c.args.setup c.in_ok-setup.setup c.step-step.new.self c.args.office.now c.step-step.new.office c.taken.new.roads c.step-step.new.roads c.step-step.result c.piped.result c.requires.waits c.step-step.ensures.steps
    c.step-step.ensures.fits (sym c.piped.ensures)

pub returns-then-has_lost-clause-office : goal.returns-then-has_lost-clause-office
returns-then-has_lost-clause-office g c =
    answer_keeps g.R.Roads g.I.LinkIn g.O.LinkOut g.D.Desk c.args.setup c.in_ok-setup.setup c.step-step.new.self.link c.step-step.new.self.lost c.step-step.result c.args.writer.now c.step-step.new.writer c.args.office.now c.step-step.new.office c.args.roads.now c.taken.new.roads c.step-step.new.roads
    c.in_ok-setup.ensures.takes c.step-step.ensures.steps

pub returns-then-is_risen-clause-office : goal.returns-then-is_risen-clause-office
returns-then-is_risen-clause-office g c =
    answer_keeps g.R.Roads g.I.LinkIn g.O.LinkOut g.D.Desk c.args.setup c.in_ok-setup.setup c.step-step.new.self.link c.step-step.new.self.lost c.step-step.result c.args.writer.now c.step-step.new.writer c.args.office.now c.step-step.new.office c.args.roads.now c.taken.new.roads c.step-step.new.roads
    c.in_ok-setup.ensures.takes c.step-step.ensures.steps

pub returns-clause-office : goal.returns-clause-office
returns-clause-office g c =
    answer_keeps g.R.Roads g.I.LinkIn g.O.LinkOut g.D.Desk c.args.setup c.in_ok-setup.setup c.step-step.new.self.link c.step-step.new.self.lost c.step-step.result c.args.writer.now c.step-step.new.writer c.args.office.now c.step-step.new.office c.args.roads.now c.taken.new.roads c.step-step.new.roads
    c.in_ok-setup.ensures.takes c.step-step.ensures.steps
