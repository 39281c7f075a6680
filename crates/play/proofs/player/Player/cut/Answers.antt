-- A connection of a play is cut.
use Rattle.play.proofs.CutPlays.{cut_shows}
use Rattle.play.proofs.player.Player.cut.Goals as goal

pub returns-clause-shows : goal.returns-clause-shows
returns-clause-shows g c =
    cut_shows g.F.Files g.R.Roads g.I.LinkIn g.O.LinkOut c.worlds_are_lawful.ensures c.cuts_show.ensures c.cuts_are_losses.ensures c.ends_stay_in_cuts.ensures c.nodes_stay.ensures c.clients_stay.ensures c.pipelines_leave_others.ensures c.args.conn c.args.down c.args.up c.args.self.now c.keep.new.self c.keep-2.new.self c.args.roads.now c.cut.new.self c.keep-2.result c.requires.within (record { plain = c.in-Ok.ensures.cut; carried = c.in-Ok.ensures.carried }) c.in_ok-keep.ensures.kept c.keep-2.ensures.kept
