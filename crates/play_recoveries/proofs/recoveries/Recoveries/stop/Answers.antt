-- The primaries and the lower ends of a node are brought back.
use Rattle.play_nodes.proofs.MemberEvents.SetupKnown.{pass_on}
use Rattle.play_recoveries.proofs.EndLaws.{ok_then}
use Rattle.play_recoveries.proofs.StopLaws.{stop_shows}
use Rattle.play_recoveries.proofs.recoveries.Recoveries.stop.Goals as goal

pub returns-clause-shows : goal.returns-clause-shows
returns-clause-shows g c =
    ok_then _ _ c.stop_servers.result (λ ends. stop_shows g.F.Files g.R.Roads g.I.LinkIn g.O.LinkOut c.primary_clients_stay.ensures c.nodes_stay.ensures c.args.node c.args.nodes.now c.args.self.now c.stop_clients.new.self c.stop_servers.new.self
    c.args.roads.now c.stop_clients.new.roads c.stop_servers.new.roads c.stop_clients.ensures.known c.in_ok-stop_clients.ensures.stops ends) c.stop_servers.ensures.ends

pub returns-clause-pass : goal.returns-clause-pass
returns-clause-pass g c =
    pass_on g.R.Roads g.I.LinkIn g.O.LinkOut c.args.roads.now c.stop_clients.new.roads c.stop_servers.new.roads c.stop_clients.ensures.pass c.stop_servers.ensures.pass
