-- The lower end of a connection that is none of a pipeline took what stood next.
use Rattle.std.proofs.Common.{sym, ◌∙◌}
use Rattle.play.proofs.Dispatch.{answers, takes}
use Rattle.play.proofs.player.Player.elsewhere_down.Goals as goal

pub returns-then-is_some-clause-shows : goal.returns-then-is_some-clause-shows
returns-then-is_some-clause-shows g c =
    answers g.F.Files g.R.Roads g.I.LinkIn g.O.LinkOut c.worlds_are_lawful.ensures c.args.self.now c.answer_down.new.self c.args.roads.now c.answer_down.new.roads c.answer_down.result c.args.conn c.primary_of.result (sym c.is_some.ensures ∙ c.if-is_some.true) c.primary_of.ensures c.answer_down.ensures.shows

pub returns-clause-shows : goal.returns-clause-shows
returns-clause-shows g c =
    takes g.F.Files g.R.Roads g.I.LinkIn g.O.LinkOut c.worlds_are_lawful.ensures c.args.self.now c.server_down.new.self c.args.roads.now c.server_down.new.roads c.server_down.result c.args.conn c.primary_of.result (sym c.is_some.ensures ∙ c.if-is_some.false) c.primary_of.ensures c.server_down.ensures.shows
