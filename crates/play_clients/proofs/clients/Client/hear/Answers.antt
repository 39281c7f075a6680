-- What the writer heard.
use Rattle.std.proofs.Common.{rules, Some, Ok, Err, subst}
use Rattle.client_events.specs.declared.pipes.Pipe.{Pipe}
use Rattle.play_clients.specs.Hearing.{PipeHears}
use Rattle.play_clients.proofs.HearLaws.{heard_left, heard_failed, unmade_deaf, hear_keeps}
use Rattle.play_clients.proofs.clients.Client.hear.Goals as goal

pub returns-in_default-clause-shows : goal.returns-in_default-clause-shows
returns-in_default-clause-shows g c = unmade_deaf g.D.Desk g.R.Roads g.I.LinkIn g.O.LinkOut c.args.self.now c.args.office.now c.args.roads.now c.in_default.is

pub returns-in_err-self-clause-shows : goal.returns-in_err-self-clause-shows
returns-in_err-self-clause-shows g c =
    let new = record c.args.self.now { writer = Some c.heard.new.writer; pipe = c.replace-pipe.new.dest } in
    heard_failed g.D.Desk g.R.Roads g.I.LinkIn g.O.LinkOut c.args.self.now new c.in-Some.writer c.heard.new.writer c.args.office.now c.heard.new.office c.args.roads.now c.heard.new.roads c.in_err-self.field-0.0 c.from_residual.result c.in-Some.is
    (subst (λ (p : Pipe g.row.I.Denot g.row.O.Denot). PipeHears g.R.Roads g.I.LinkIn g.O.LinkOut c.in-Some.writer c.heard.new.writer p c.args.office.now c.heard.new.office c.args.roads.now c.heard.new.roads (Err c.in_err-self.field-0.0)) c.replace-pipe.ensures.value c.in_err-self.ensures.hears) (search rules)

pub returns-clause-shows : goal.returns-clause-shows
returns-clause-shows g c =
    heard_left g.D.Desk g.R.Roads g.I.LinkIn g.O.LinkOut c.args.self.now c.in-Some.writer c.heard.new.writer c.in_ok-self.field-0 c.args.office.now c.heard.new.office c.args.roads.now c.heard.new.roads c.in-Some.is
    (subst (λ (p : Pipe g.row.I.Denot g.row.O.Denot). PipeHears g.R.Roads g.I.LinkIn g.O.LinkOut c.in-Some.writer c.heard.new.writer p c.args.office.now c.heard.new.office c.args.roads.now c.heard.new.roads (Ok c.in_ok-self.field-0)) c.replace-pipe.ensures.value c.in_ok-self.ensures.hears)

pub returns-in_err-self-clause-office : goal.returns-in_err-self-clause-office
returns-in_err-self-clause-office g c =
    hear_keeps g.D.Desk g.R.Roads g.I.LinkIn g.O.LinkOut c.args.self.now c.in-Some.writer c.heard.new.writer c.args.office.now c.heard.new.office c.args.roads.now c.heard.new.roads (Err c.in_err-self.field-0.0) c.in-Some.is
    (subst (λ (p : Pipe g.row.I.Denot g.row.O.Denot). PipeHears g.R.Roads g.I.LinkIn g.O.LinkOut c.in-Some.writer c.heard.new.writer p c.args.office.now c.heard.new.office c.args.roads.now c.heard.new.roads (Err c.in_err-self.field-0.0)) c.replace-pipe.ensures.value c.in_err-self.ensures.hears)

pub returns-clause-office : goal.returns-clause-office
returns-clause-office g c =
    hear_keeps g.D.Desk g.R.Roads g.I.LinkIn g.O.LinkOut c.args.self.now c.in-Some.writer c.heard.new.writer c.args.office.now c.heard.new.office c.args.roads.now c.heard.new.roads (Ok c.in_ok-self.field-0) c.in-Some.is
    (subst (λ (p : Pipe g.row.I.Denot g.row.O.Denot). PipeHears g.R.Roads g.I.LinkIn g.O.LinkOut c.in-Some.writer c.heard.new.writer p c.args.office.now c.heard.new.office c.args.roads.now c.heard.new.roads (Ok c.in_ok-self.field-0)) c.replace-pipe.ensures.value c.in_ok-self.ensures.hears)
