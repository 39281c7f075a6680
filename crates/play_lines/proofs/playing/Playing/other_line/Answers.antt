-- A line gives a command, or does something else.
use Rattle.std.proofs.Common.{sym, ◌∙◌}
use Rattle.play_lines.proofs.Commands.{command_shows}
use Rattle.play_lines.proofs.playing.Playing.other_line.Goals as goal

pub returns-in-Ok-Some-clause-shows : goal.returns-in-Ok-Some-clause-shows
returns-in-Ok-Some-clause-shows g c =
    command_shows g.F.Files g.R.Roads g.I.LinkIn g.O.LinkOut c.args.line.now c.args.self.now c.order.new.self c.args.roads.now c.in-Ok-Some.field-0-0 (sym c.in-Ok-Some.ensures ∙ c.in-Ok-Some.field-0-is)
    c.orders_are_plays.ensures c.order.result c.order.ensures.orders
