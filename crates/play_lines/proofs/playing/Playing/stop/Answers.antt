-- A node stops.
use Rattle.std.proofs.Common.{refl, sym, ◌∙◌}
use Rattle.play_lines.proofs.StopLines.{nothing_stops, in_range, was_stopped}
use Rattle.play_lines.proofs.playing.Playing.stop.Goals as goal

pub returns-then-not-runs-clause-shows : goal.returns-then-not-runs-clause-shows
returns-then-not-runs-clause-shows g c =
    nothing_stops g.F.Files g.R.Roads g.I.LinkIn g.O.LinkOut c.worlds_are_lawful.ensures c.args.node c.args.self.now c.args.roads.now (sym c.runs.ensures ∙ c.if-not-runs.true)

pub stop-requires-clause-in_range : goal.stop-requires-clause-in_range
stop-requires-clause-in_range g c κs playing =
    in_range g.F.Files g.R.Roads g.I.LinkIn g.O.LinkOut c.worlds_are_lawful.ensures c.args.node c.args.self.now c.args.roads.now (sym c.runs.ensures ∙ c.if-not-runs.false) c.requires

pub returns-clause-shows : goal.returns-clause-shows
returns-clause-shows g c =
    was_stopped g.F.Files g.R.Roads g.I.LinkIn g.O.LinkOut c.worlds_are_lawful.ensures c.args.node c.args.self.now c.args.roads.now (sym c.runs.ensures ∙ c.if-not-runs.false) (record c.args.self.now { player = c.stop.new.self }) c.stop.new.roads refl c.stop.result c.stop.ensures.shows
