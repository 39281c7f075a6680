-- Those that are new are added, and those that are spent dropped.
use Rattle.std.proofs.Common.{◌∙◌, refl}
use Rattle.play_dues.proofs.LiveLaws.{refreshed}
use Rattle.play_dues.proofs.live.LiveConns.refresh.Goals as goal

pub returns : goal.returns
returns g c =
    refreshed g.I.LinkIn g.O.LinkOut c.args.nodes.now c.args.clients.now c.args.reads.now c.args.recoveries.now c.args.self.now (record { conns = c.drop_spent.new.conns; known = c.len-count.result }) c.add_numbers.new.conns.items c.len-count.result
    (c.len-count.ensures ∙ c.args.nodes.now.connections.ok.0) refl c.in_ok-add_numbers.ensures c.drop_spent.ensures
