-- The step of the setup, and what followed.
use Rattle.std.proofs.Common.{rules, ◌≡◌, Ok, Option, slice_get, true, false, sym, ap, ◌∙◌, subst}
use Rattle.hd_base.specs.declared.numbers.NodeId.{NodeId}
use Rattle.writer_core.specs.declared.phases.Phase.{Phase}
use Rattle.member_events.proofs.SetupKnown.{pass_on}
use Rattle.client_events.specs.SettingUp.{is_requested, first_port, undialled, SetUpShows, SetUpIsKnown, FitsSetUp}
use Rattle.client_events.proofs.SetUpEvents.{left_shows, left_fits, moved_shows, waiting_shows, met_fits, set_up_risen}
use Rattle.client_events.proofs.SetUpPass.{first_pass, undialled_known}
use Rattle.client_events.proofs.setting_up.set_up.Goals as goal

pub returns-then-risen-clause-shows : goal.returns-then-risen-clause-shows
returns-then-risen-clause-shows g c =
    set_up_risen g.R.Roads g.I.LinkIn g.O.LinkOut g.D.Desk c.args.next c.args.setup c.step-step.new.self c.args.writer.now c.step-step.new.writer c.args.office.now c.step-step.new.office c.args.roads.now c.step-step.new.roads c.step-step.result
    (sym c.risen.ensures ∙ c.if-risen.true)

pub returns-then-not-is_requested-clause-shows : goal.returns-then-not-is_requested-clause-shows
returns-then-not-is_requested-clause-shows g c =
    let off : is_requested c.step-step.new.writer.phase ≡ false = ap is_requested (sym c.phase-phase.ensures) ∙ (sym c.is_requested.ensures ∙ c.if-not-is_requested.true) in
    let was : c.first_member-first.result ≡ slice_get c.args.writer.now.members 0 = search rules in
    subst (λ q. SetUpShows g.D.Desk g.R.Roads g.I.LinkIn g.O.LinkOut c.args.next c.args.writer.now c.step-step.new.writer c.args.setup c.args.office.now c.step-step.new.office c.args.roads.now c.step-step.new.roads (Ok q))
    (sym (c.undialled.ensures ∙ (ap (λ (p : Phase). undialled p c.first_member-first.result c.in_ok-pipe.pipe) c.phase-phase.ensures ∙ ap (λ (f : Option NodeId). undialled c.step-step.new.writer.phase f c.in_ok-pipe.pipe) was)))
    (left_shows g.R.Roads g.I.LinkIn g.O.LinkOut g.D.Desk c.args.next c.args.setup c.step-step.new.self c.args.writer.now c.step-step.new.writer c.args.office.now c.step-step.new.office c.args.roads.now c.step-step.new.roads c.step-step.result
    c.in_ok-pipe.pipe c.requires.wanted c.requires.fits c.step-step.ensures.steps (sym c.has_lost.ensures ∙ c.if-has_lost.false) (sym c.risen.ensures ∙ c.if-risen.false) off (sym c.in_ok-pipe.ensures))

pub returns-in-Waiting-clause-shows : goal.returns-in-Waiting-clause-shows
returns-in-Waiting-clause-shows g c =
    let on : is_requested c.step-step.new.writer.phase ≡ true = ap is_requested (sym c.phase-phase.ensures) ∙ (sym c.is_requested.ensures ∙ c.if-not-is_requested.false) in
    let named : c.first_port-port.result ≡ first_port c.step-step.new.writer.members = search rules in
    waiting_shows g.R.Roads g.I.LinkIn g.O.LinkOut g.D.Desk c.args.next c.args.setup c.step-step.new.self c.args.writer.now c.step-step.new.writer c.args.office.now c.step-step.new.office c.args.roads.now c.step-step.new.roads c.step-step.result
    c.first_port-port.result c.met.new.roads c.met.result c.requires.wanted c.requires.fits c.step-step.ensures.steps (sym c.has_lost.ensures ∙ c.if-has_lost.false) (sym c.risen.ensures ∙ c.if-risen.false) on c.in-Waiting.is named c.met.ensures.meets

pub returns-in-Moved-clause-shows : goal.returns-in-Moved-clause-shows
returns-in-Moved-clause-shows g c =
    let on : is_requested c.step-step.new.writer.phase ≡ true = ap is_requested (sym c.phase-phase.ensures) ∙ (sym c.is_requested.ensures ∙ c.if-not-is_requested.false) in
    moved_shows g.R.Roads g.I.LinkIn g.O.LinkOut g.D.Desk c.args.next c.args.setup c.step-step.new.self c.args.writer.now c.step-step.new.writer c.args.office.now c.step-step.new.office c.args.roads.now c.step-step.new.roads c.step-step.result
    c.given_up.new.roads c.given_up.result c.requires.wanted c.requires.fits c.step-step.ensures.steps (sym c.has_lost.ensures ∙ c.if-has_lost.false) (sym c.risen.ensures ∙ c.if-risen.false) on c.in-Moved.is c.given_up.ensures.gives_up

pub returns-then-not-is_requested-clause-fits : goal.returns-then-not-is_requested-clause-fits
returns-then-not-is_requested-clause-fits g c =
    let was : c.first_member-first.result ≡ slice_get c.args.writer.now.members 0 = search rules in
    subst (λ q. FitsSetUp c.args.writer.now c.step-step.new.writer c.args.setup (Ok q))
    (sym (c.undialled.ensures ∙ (ap (λ (p : Phase). undialled p c.first_member-first.result c.in_ok-pipe.pipe) c.phase-phase.ensures ∙ ap (λ (f : Option NodeId). undialled c.step-step.new.writer.phase f c.in_ok-pipe.pipe) was)))
    (left_fits g.R.Roads g.I.LinkIn g.O.LinkOut g.D.Desk c.args.next c.args.setup c.step-step.new.self c.args.writer.now c.step-step.new.writer c.args.office.now c.step-step.new.office c.args.roads.now c.step-step.new.roads c.step-step.result
    c.in_ok-pipe.pipe c.requires.wanted c.requires.fits c.step-step.ensures.steps c.step-step.ensures.fits (sym c.in_ok-pipe.ensures))

pub returns-in-Waiting-clause-fits : goal.returns-in-Waiting-clause-fits
returns-in-Waiting-clause-fits g c =
    let on : is_requested c.step-step.new.writer.phase ≡ true = ap is_requested (sym c.phase-phase.ensures) ∙ (sym c.is_requested.ensures ∙ c.if-not-is_requested.false) in
    met_fits g.R.Roads g.I.LinkIn g.O.LinkOut g.D.Desk c.args.next c.args.setup c.step-step.new.self c.args.writer.now c.step-step.new.writer c.args.office.now c.step-step.new.office c.args.roads.now c.step-step.new.roads c.step-step.result
    c.first_port-port.result c.met.new.roads c.met.result on c.step-step.ensures.fits c.in-Waiting.is c.met.ensures.meets

pub returns-then-has_lost-clause-pass : goal.returns-then-has_lost-clause-pass
returns-then-has_lost-clause-pass g c =
    (first_pass g.R.Roads g.I.LinkIn g.O.LinkOut g.D.Desk c.args.writer.now c.step-step.new.writer c.args.setup.link c.step-step.new.self.link c.args.office.now c.step-step.new.office c.args.roads.now c.step-step.new.roads c.step-step.new.self.lost c.step-step.result c.requires.wanted c.step-step.ensures.steps)

pub returns-then-risen-clause-pass : goal.returns-then-risen-clause-pass
returns-then-risen-clause-pass g c =
    (first_pass g.R.Roads g.I.LinkIn g.O.LinkOut g.D.Desk c.args.writer.now c.step-step.new.writer c.args.setup.link c.step-step.new.self.link c.args.office.now c.step-step.new.office c.args.roads.now c.step-step.new.roads c.step-step.new.self.lost c.step-step.result c.requires.wanted c.step-step.ensures.steps)

pub returns-in_err-pipe-clause-pass : goal.returns-in_err-pipe-clause-pass
returns-in_err-pipe-clause-pass g c =
    (first_pass g.R.Roads g.I.LinkIn g.O.LinkOut g.D.Desk c.args.writer.now c.step-step.new.writer c.args.setup.link c.step-step.new.self.link c.args.office.now c.step-step.new.office c.args.roads.now c.step-step.new.roads c.step-step.new.self.lost c.step-step.result c.requires.wanted c.step-step.ensures.steps)

pub returns-then-not-is_requested-clause-pass : goal.returns-then-not-is_requested-clause-pass
returns-then-not-is_requested-clause-pass g c =
    (first_pass g.R.Roads g.I.LinkIn g.O.LinkOut g.D.Desk c.args.writer.now c.step-step.new.writer c.args.setup.link c.step-step.new.self.link c.args.office.now c.step-step.new.office c.args.roads.now c.step-step.new.roads c.step-step.new.self.lost c.step-step.result c.requires.wanted c.step-step.ensures.steps)

pub returns-in-Ended-clause-pass : goal.returns-in-Ended-clause-pass
returns-in-Ended-clause-pass g c =
    (first_pass g.R.Roads g.I.LinkIn g.O.LinkOut g.D.Desk c.args.writer.now c.step-step.new.writer c.args.setup.link c.step-step.new.self.link c.args.office.now c.step-step.new.office c.args.roads.now c.step-step.new.roads c.step-step.new.self.lost c.step-step.result c.requires.wanted c.step-step.ensures.steps)

pub returns-then-not-is_requested-clause-known : goal.returns-then-not-is_requested-clause-known
returns-then-not-is_requested-clause-known g c =
    subst (λ q. SetUpIsKnown (g.R.Roads.plain c.step-step.new.roads) q) (sym c.undialled.ensures)
    (undialled_known g.R.Roads g.I.LinkIn g.O.LinkOut g.D.Desk c.args.writer.now c.step-step.new.writer c.args.setup.link c.step-step.new.self c.args.office.now c.step-step.new.office c.args.roads.now c.step-step.new.roads c.step-step.new.self.lost c.step-step.result
    c.in_ok-pipe.pipe c.requires.wanted c.step-step.ensures.steps c.requires.known c.step-step.ensures.known (sym c.in_ok-pipe.ensures) c.phase-phase.result c.first_member-first.result)

pub returns-in-Waiting-clause-pass : goal.returns-in-Waiting-clause-pass
returns-in-Waiting-clause-pass g c =
    (pass_on g.R.Roads g.I.LinkIn g.O.LinkOut c.args.roads.now c.step-step.new.roads c.met.new.roads
    (first_pass g.R.Roads g.I.LinkIn g.O.LinkOut g.D.Desk c.args.writer.now c.step-step.new.writer c.args.setup.link c.step-step.new.self.link c.args.office.now c.step-step.new.office c.args.roads.now c.step-step.new.roads c.step-step.new.self.lost c.step-step.result c.requires.wanted c.step-step.ensures.steps) c.met.ensures.passes)

pub returns-in-Moved-clause-pass : goal.returns-in-Moved-clause-pass
returns-in-Moved-clause-pass g c =
    (pass_on g.R.Roads g.I.LinkIn g.O.LinkOut c.args.roads.now c.step-step.new.roads c.given_up.new.roads
    (first_pass g.R.Roads g.I.LinkIn g.O.LinkOut g.D.Desk c.args.writer.now c.step-step.new.writer c.args.setup.link c.step-step.new.self.link c.args.office.now c.step-step.new.office c.args.roads.now c.step-step.new.roads c.step-step.new.self.lost c.step-step.result c.requires.wanted c.step-step.ensures.steps) c.given_up.ensures.passes)
