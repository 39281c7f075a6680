-- The writer took its step, and what followed.
use Rattle.std.proofs.Common.{rules, Bool, Option, Ok, sym, subst}
use Rattle.client_events.specs.declared.acting.Said.{Said}
use Rattle.client_events.specs.Events.{ActShows}
use Rattle.client_events.specs.Sending.{IsFollowed}
use Rattle.client_events.proofs.ActLaws.{act_shows, act_failed_as}
use Rattle.client_events.proofs.PassLaws.{followed_known}
use Rattle.client_events.proofs.FitLaws.{act_fits}
use Rattle.client_events.proofs.acting.act.Goals as goal

pub returns-in_err-pipe-clause-shows : goal.returns-in_err-pipe-clause-shows
returns-in_err-pipe-clause-shows g c =
    act_failed_as g.R.Roads g.I.LinkIn g.O.LinkOut c.args.writer.now c.stepped.new.writer c.connected-connected.result c.in_ok-action.action c.args.pipe c.args.roads.now c.followed.new.roads c.from_residual-in_err-pipe.result c.in_err-pipe.field-0.0 (search rules) c.in_err-pipe.ensures.follows

pub returns-clause-shows : goal.returns-clause-shows
returns-clause-shows g c =
    subst (λ (s : Option Said). ActShows g.R.Roads g.I.LinkIn g.O.LinkOut c.args.writer.now c.stepped.new.writer c.args.pipe c.args.roads.now c.followed.new.roads (Ok (record { pipe = c.in_ok-pipe.pipe; said = s }))) (sym c.said_by-said.ensures)
    (act_shows g.R.Roads g.I.LinkIn g.O.LinkOut c.args.writer.now c.stepped.new.writer c.in_ok-action.action c.args.pipe c.in_ok-pipe.pipe c.args.roads.now c.followed.new.roads c.in_ok-action.ensures.0 c.in_ok-action.ensures.1
    (subst (λ (b : Bool). IsFollowed g.R.Roads g.I.LinkIn g.O.LinkOut b c.in_ok-action.action c.args.pipe c.args.roads.now c.followed.new.roads (Ok c.in_ok-pipe.pipe)) c.connected-connected.ensures c.in_ok-pipe.ensures.follows))

pub returns-clause-known : goal.returns-clause-known
returns-clause-known g c = followed_known g.R.Roads g.I.LinkIn g.O.LinkOut c.connected-connected.result c.in_ok-action.action c.args.pipe c.in_ok-pipe.pipe c.args.roads.now c.followed.new.roads c.in_ok-pipe.ensures.follows c.followed.ensures.passes c.requires

pub returns-clause-fits : goal.returns-clause-fits
returns-clause-fits g c =
    act_fits g.R.Roads g.I.LinkIn g.O.LinkOut c.args.writer.now c.stepped.new.writer c.connected-connected.result c.in_ok-action.action c.args.pipe c.in_ok-pipe.pipe c.args.roads.now c.followed.new.roads c.in_ok-action.ensures.1 c.in_ok-pipe.ensures.follows
