-- The own step.
use Rattle.std.proofs.Common.{rules, sym, ◌∙◌}
use Rattle.play_clients.proofs.OwnShowing.{own_acts, own_acts_failed, own_completes, own_completes_failed, own_commits, own_commits_failed, own_sets_up, own_takes, own_takes_failed}
use Rattle.play_clients.proofs.clients.Client.own.Goals as goal

pub returns-in_err-took-in-Takes-clause-shows : goal.returns-in_err-took-in-Takes-clause-shows
returns-in_err-took-in-Takes-clause-shows g c =
    own_takes_failed g.D.Desk g.R.Roads g.I.LinkIn g.O.LinkOut c.args.next c.args.self.now c.take.new.self c.args.office.now c.args.roads.now c.take.new.roads c.in_err-took-in-Takes.field-0.0 c.from_residual.result (sym c.course.ensures ∙ c.in-Takes.is) c.in_err-took-in-Takes.ensures.takes (search rules)

pub returns-in_err-commit-in-Commits-clause-shows : goal.returns-in_err-commit-in-Commits-clause-shows
returns-in_err-commit-in-Commits-clause-shows g c =
    own_commits_failed g.D.Desk g.R.Roads g.I.LinkIn g.O.LinkOut c.args.next c.args.self.now c.commit.new.self c.args.office.now c.commit.new.office c.args.roads.now c.commit.new.roads c.in_err-commit-in-Commits.field-0.0 c.from_residual-in_err-commit-in-Commits.result (sym c.course.ensures ∙ c.in-Commits.is)
    c.in_err-commit-in-Commits.ensures.commits (search rules)

pub returns-in_err-complete-in-Completes-clause-shows : goal.returns-in_err-complete-in-Completes-clause-shows
returns-in_err-complete-in-Completes-clause-shows g c =
    own_completes_failed g.D.Desk g.R.Roads g.I.LinkIn g.O.LinkOut c.args.next c.args.self.now c.complete.new.self c.args.office.now c.complete.new.office c.args.roads.now c.in_err-complete-in-Completes.field-0.0 c.from_residual-in_err-complete-in-Completes.result (sym c.course.ensures ∙ c.in-Completes.is)
    c.in_err-complete-in-Completes.ensures.completes (search rules)

pub returns-in_err-act-in-Acts-clause-shows : goal.returns-in_err-act-in-Acts-clause-shows
returns-in_err-act-in-Acts-clause-shows g c =
    own_acts_failed g.D.Desk g.R.Roads g.I.LinkIn g.O.LinkOut c.args.next c.args.self.now c.act.new.self c.args.office.now c.args.roads.now c.act.new.roads c.in_err-act-in-Acts.field-0.0 c.from_residual-in_err-act-in-Acts.result (sym c.course.ensures ∙ c.in-Acts.is) c.in_err-act-in-Acts.ensures.acts (search rules)

pub returns-in_ok-took-in-Takes-clause-shows : goal.returns-in_ok-took-in-Takes-clause-shows
returns-in_ok-took-in-Takes-clause-shows g c =
    rw c.alone.ensures (
    own_takes g.D.Desk g.R.Roads g.I.LinkIn g.O.LinkOut c.args.next c.args.self.now c.take.new.self c.args.office.now c.args.roads.now c.take.new.roads c.in_ok-took-in-Takes.took (sym c.course.ensures ∙ c.in-Takes.is) c.in_ok-took-in-Takes.ensures.takes)

pub returns-in-SetsUp-clause-shows : goal.returns-in-SetsUp-clause-shows
returns-in-SetsUp-clause-shows g c =
    own_sets_up g.D.Desk g.R.Roads g.I.LinkIn g.O.LinkOut c.args.next c.args.self.now c.set_up.new.self c.args.office.now c.set_up.new.office c.args.roads.now c.set_up.new.roads c.set_up.result (sym c.course.ensures ∙ c.in-SetsUp.is) c.set_up.ensures.sets_up

pub returns-in_ok-commit-in-Commits-clause-shows : goal.returns-in_ok-commit-in-Commits-clause-shows
returns-in_ok-commit-in-Commits-clause-shows g c =
    rw c.asking.ensures (
    own_commits g.D.Desk g.R.Roads g.I.LinkIn g.O.LinkOut c.args.next c.args.self.now c.commit.new.self c.args.office.now c.commit.new.office c.args.roads.now c.commit.new.roads (sym c.course.ensures ∙ c.in-Commits.is) c.in_ok-commit-in-Commits.ensures.commits)

pub returns-in_ok-complete-in-Completes-clause-shows : goal.returns-in_ok-complete-in-Completes-clause-shows
returns-in_ok-complete-in-Completes-clause-shows g c =
    rw c.asking-in-Completes.ensures (
    own_completes g.D.Desk g.R.Roads g.I.LinkIn g.O.LinkOut c.args.next c.args.self.now c.complete.new.self c.args.office.now c.complete.new.office c.args.roads.now (sym c.course.ensures ∙ c.in-Completes.is) c.in_ok-complete-in-Completes.ensures.completes)

pub returns-in_ok-act-in-Acts-clause-shows : goal.returns-in_ok-act-in-Acts-clause-shows
returns-in_ok-act-in-Acts-clause-shows g c =
    rw c.alone-in-Acts.ensures (
    own_acts g.D.Desk g.R.Roads g.I.LinkIn g.O.LinkOut c.args.next c.args.self.now c.act.new.self c.args.office.now c.args.roads.now c.act.new.roads (sym c.course.ensures ∙ c.in-Acts.is) c.in_ok-act-in-Acts.ensures.acts)
