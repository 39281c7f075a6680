-- Its lower end is asked, and then its upper end.
use Rattle.play_clients.proofs.MemberEvents.SetupKnown.{pass_on}
use Rattle.play_dues.proofs.ConnLaws.{conn_told}
use Rattle.play_dues.proofs.conns.dues_of.Goals as goal

pub returns-clause-tells : goal.returns-clause-tells
returns-clause-tells g c =
    conn_told g.R.Roads g.I.LinkIn g.O.LinkOut c.args.nodes.now c.args.clients.now c.args.reads.now c.args.recoveries.now c.args.conn c.args.roads.now c.lower_takes-down.new.roads c.upper_takes-up.new.roads
    (record { down = c.lower_takes-down.result; ready = c.lower_acts-ready.result; up = c.upper_takes-up.result })
    c.lower_takes-down.ensures.tells c.lower_acts-ready.ensures c.upper_takes-up.ensures.tells

pub returns-clause-pass : goal.returns-clause-pass
returns-clause-pass g c =
    pass_on g.R.Roads g.I.LinkIn g.O.LinkOut c.args.roads.now c.lower_takes-down.new.roads c.upper_takes-up.new.roads c.lower_takes-down.ensures.pass c.upper_takes-up.ensures.pass
