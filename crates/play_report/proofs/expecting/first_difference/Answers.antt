-- What the nodes tell is so in each world that they show.
use Rattle.play_report.proofs.ExpectLemmas.{differs_so}
use Rattle.play_report.proofs.expecting.first_difference.Goals as goal

pub returns : goal.returns
returns g c = differs_so g.I.LinkIn g.O.LinkOut c.args.count c.args.running.now c.args.nodes.now c.args.lines.now c.differing_in.result c.differing_in.ensures
