-- An end acted.
use Rattle.play.proofs.Dispatch.{acts, sends}
use Rattle.play.proofs.player.Player.act.Goals as goal

pub returns-then-is_elsewhere-clause-shows : goal.returns-then-is_elsewhere-clause-shows
returns-then-is_elsewhere-clause-shows g c =
    sends g.F.Files g.R.Roads g.I.LinkIn g.O.LinkOut c.worlds_are_lawful.ensures c.args.self.now c.server_ready.new.self c.args.roads.now c.server_ready.new.roads c.server_ready.result c.none_is_ready.ensures c.args.conn c.is_elsewhere.result c.if-is_elsewhere.true c.is_elsewhere.ensures.tells c.server_ready.ensures.shows

pub returns-else-is_elsewhere-clause-shows : goal.returns-else-is_elsewhere-clause-shows
returns-else-is_elsewhere-clause-shows g c =
    acts g.F.Files g.R.Roads g.I.LinkIn g.O.LinkOut c.worlds_are_lawful.ensures c.args.self.now c.ready.new.self c.args.roads.now c.ready.new.roads c.ready.result c.args.conn c.is_elsewhere.result c.if-is_elsewhere.false c.is_elsewhere.ensures.tells c.ready.ensures.shows
