-- What the reader heard.
use Rattle.std.proofs.Common.{rules, Ok, Err, subst}
use Rattle.play_readers.specs.declared.clients.ReadState.{ReadState}
use Rattle.play_readers.specs.Hearing.{StateHears}
use Rattle.play_readers.proofs.HearLaws.{hear_left, hear_failed}
use Rattle.play_readers.proofs.clients.ReadClient.hear.Goals as goal

pub returns-in_err-self-clause-shows : goal.returns-in_err-self-clause-shows
returns-in_err-self-clause-shows g c =
    let S : ReadState g.row.I.Denot g.row.O.Denot → Type 0 = λ st. StateHears g.R.Roads g.I.LinkIn g.O.LinkOut st c.args.roads.now c.heard.new.roads (Err c.in_err-self.field-0.0) in
    hear_failed g.R.Roads g.I.LinkIn g.O.LinkOut c.args.self.now (record { ask = c.args.self.now.ask; state = c.replace-state.new.dest }) c.args.roads.now c.heard.new.roads c.in_err-self.field-0.0 c.from_residual.result (subst S c.replace-state.ensures.value c.in_err-self.ensures.hears) (search rules)

pub returns-clause-shows : goal.returns-clause-shows
returns-clause-shows g c =
    let S : ReadState g.row.I.Denot g.row.O.Denot → Type 0 = λ st. StateHears g.R.Roads g.I.LinkIn g.O.LinkOut st c.args.roads.now c.heard.new.roads (Ok c.in_ok-self.field-0) in
    hear_left g.R.Roads g.I.LinkIn g.O.LinkOut c.args.self.now c.in_ok-self.field-0 c.args.roads.now c.heard.new.roads (subst S c.replace-state.ensures.value c.in_ok-self.ensures.hears)
