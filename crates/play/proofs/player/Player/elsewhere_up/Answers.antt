-- Whoever dialled a connection that is none of a pipeline took what stood next.
use Rattle.std.proofs.Common.{sym, ◌∙◌}
use Rattle.play.proofs.Dispatch.{primary_hears, reader_hears}
use Rattle.play.proofs.player.Player.elsewhere_up.Goals as goal

pub returns-then-is_some-clause-shows : goal.returns-then-is_some-clause-shows
returns-then-is_some-clause-shows g c =
    primary_hears g.F.Files g.R.Roads g.I.LinkIn g.O.LinkOut c.worlds_are_lawful.ensures c.args.self.now c.primary_up.new.self c.args.roads.now c.primary_up.new.roads c.primary_up.result c.args.conn c.primary_of.result (sym c.is_some.ensures ∙ c.if-is_some.true) c.primary_of.ensures c.primary_up.ensures.shows

pub returns-clause-shows : goal.returns-clause-shows
returns-clause-shows g c =
    reader_hears g.F.Files g.R.Roads g.I.LinkIn g.O.LinkOut c.worlds_are_lawful.ensures c.args.self.now c.reader_up.new.self c.args.roads.now c.reader_up.new.roads c.reader_up.result c.args.conn c.primary_of.result (sym c.is_some.ensures ∙ c.if-is_some.false) c.primary_of.ensures c.reader_up.ensures.shows
