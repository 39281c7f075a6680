-- A connection of a block's pipeline is cut.
use Rattle.std.proofs.Common.{refl}
use Rattle.play_scripts.proofs.PlayNodes.PlaceLaws.{none_so}
use Rattle.play_lines.proofs.CutLines.{nothing_cut, within, was_cut}
use Rattle.play_lines.proofs.playing.Playing.cut.Goals as goal

pub returns-in_default-clause-shows : goal.returns-in_default-clause-shows
returns-in_default-clause-shows g c =
    nothing_cut g.F.Files g.R.Roads g.I.LinkIn g.O.LinkOut c.worlds_are_lawful.ensures c.takers_are_open.ensures c.cuts_are_losses.ensures c.args.block c.args.place c.args.down c.args.up c.args.self.now c.args.roads.now c.pipeline_conn.result c.pipeline_conn.ensures (none_so c.pipeline_conn.result c.in_default.not-Some)

pub cut-requires-clause-within : goal.cut-requires-clause-within
cut-requires-clause-within g c κs ready =
    within g.F.Files g.R.Roads g.I.LinkIn g.O.LinkOut c.worlds_are_lawful.ensures c.takers_are_open.ensures c.cuts_are_losses.ensures c.args.block c.args.place c.args.down c.args.up c.args.self.now c.args.roads.now c.pipeline_conn.result c.pipeline_conn.ensures c.in-Some.conn c.in-Some.is c.requires

pub returns-clause-shows : goal.returns-clause-shows
returns-clause-shows g c =
    was_cut g.F.Files g.R.Roads g.I.LinkIn g.O.LinkOut c.worlds_are_lawful.ensures c.takers_are_open.ensures c.cuts_are_losses.ensures c.args.block c.args.place c.args.down c.args.up c.args.self.now c.args.roads.now c.pipeline_conn.result c.pipeline_conn.ensures c.in-Some.conn c.in-Some.is (record c.args.self.now { player = c.cut.new.self }) c.cut.new.roads refl c.cut.result c.cut.ensures.shows
