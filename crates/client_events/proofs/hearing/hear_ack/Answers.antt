-- The writer took what stood next on its connection, and what followed.
use Rattle.std.proofs.Common.{Bool, subst}
use Rattle.member_events.specs.PipeMember.Looked.{Looked}
use Rattle.client_events.specs.Hearing.{Hears}
use Rattle.client_events.specs.Steps.{IsSettled}
use Rattle.client_events.proofs.HearLaws.{hear_lost, hear_shows}
use Rattle.member_events.proofs.SetupKnown.{pass_on}
use Rattle.client_events.proofs.PassLaws.{id_known, settled_known}
use Rattle.client_events.proofs.FitLaws.{hear_fits}
use Rattle.client_events.proofs.hearing.hear_ack.Goals as goal

pub returns-in-Failed-clause-shows : goal.returns-in-Failed-clause-shows
returns-in-Failed-clause-shows g c =
    hear_lost g.R.Roads g.I.LinkIn g.O.LinkOut c.args.end c.in_ok-end.end c.args.incoming c.heard.new.incoming c.args.writer.now c.heard.new.writer c.heard.new.inward c.lost.result c.args.roads.now c.exchanged.new.roads c.lost.new.roads
    c.in_ok-end.ensures.exchanges.kept.id (subst (λ (x : Looked). Hears g.I.LinkIn c.args.writer.now c.heard.new.writer c.args.incoming c.heard.new.incoming c.in_ok-end.end.inward c.heard.new.inward x) c.in-Failed.is c.heard.ensures) c.lost.ensures.loses

pub returns-in-Failed-clause-pass : goal.returns-in-Failed-clause-pass
returns-in-Failed-clause-pass g c = (pass_on g.R.Roads g.I.LinkIn g.O.LinkOut c.args.roads.now c.exchanged.new.roads c.lost.new.roads c.exchanged.ensures.passes c.lost.ensures.passes)

pub returns-clause-shows : goal.returns-clause-shows
returns-clause-shows g c =
    hear_shows g.R.Roads g.I.LinkIn g.O.LinkOut c.args.end c.in_ok-end.end c.args.incoming c.heard.new.incoming c.args.writer.now c.heard.new.writer c.heard.new.inward c.settled.result c.args.roads.now c.exchanged.new.roads c.settled.new.roads
    c.in_ok-end.ensures.exchanges (subst (λ (x : Looked). Hears g.I.LinkIn c.args.writer.now c.heard.new.writer c.args.incoming c.heard.new.incoming c.in_ok-end.end.inward c.heard.new.inward x) c.in-Known.is c.heard.ensures)
    (subst (λ (b : Bool). IsSettled g.R.Roads g.I.LinkIn g.O.LinkOut b (record c.in_ok-end.end { inward = c.heard.new.inward }) c.heard.new.incoming c.exchanged.new.roads c.settled.new.roads c.settled.result) c.connected-connected.ensures c.settled.ensures.settles)

pub returns-clause-pass : goal.returns-clause-pass
returns-clause-pass g c = (pass_on g.R.Roads g.I.LinkIn g.O.LinkOut c.args.roads.now c.exchanged.new.roads c.settled.new.roads c.exchanged.ensures.passes c.settled.ensures.passes)

pub returns-clause-known : goal.returns-clause-known
returns-clause-known g c =
    settled_known g.R.Roads g.I.LinkIn g.O.LinkOut c.connected-connected.result (record c.in_ok-end.end { inward = c.heard.new.inward }) c.heard.new.incoming c.exchanged.new.roads c.settled.new.roads c.settled.result c.settled.ensures.settles c.settled.ensures.passes
    (id_known (g.R.Roads.plain c.exchanged.new.roads) c.args.end.id c.in_ok-end.end.id c.in_ok-end.ensures.exchanges.kept.id (c.exchanged.ensures.passes.knows c.args.end.id.0 c.requires))

pub returns-clause-fits : goal.returns-clause-fits
returns-clause-fits g c =
    hear_fits g.R.Roads g.I.LinkIn g.O.LinkOut c.args.writer.now c.heard.new.writer c.args.end c.args.incoming c.connected-connected.result (record c.in_ok-end.end { inward = c.heard.new.inward }) c.heard.new.incoming c.in_ok-end.end.inward c.heard.new.inward c.heard.result
    c.exchanged.new.roads c.settled.new.roads c.settled.result c.heard.ensures c.settled.ensures.settles
