-- A reader asked its node, and the event was kept.
use Rattle.std.proofs.Common.{Err, sym, subst}
use Rattle.node_stops.proofs.PlayNodes.PlaceLaws.{element_some}
use Rattle.node_stops.proofs.PlayNodes.SizeLaws.{sizes_after}
use Rattle.play.specs.declared.faults.PlayFault.{PlayFault}
use Rattle.play.specs.Reading.{AskShows}
use Rattle.play.proofs.ReadSteps.{reads_stand, ask_left, ask_failed}
use Rattle.play.proofs.player.Player.ask.Goals as goal

pub own-requires-clause-stands : goal.own-requires-clause-stands
own-requires-clause-stands g c κs within = reads_stand g.F.Files g.R.Roads g.I.LinkIn g.O.LinkOut c.args.roads.now c.args.self.now c.requires.stands

pub returns-in-Ok-clause-shows : goal.returns-in-Ok-clause-shows
returns-in-Ok-clause-shows g c =
    ask_left g.F.Files g.R.Roads g.I.LinkIn g.O.LinkOut c.worlds_are_lawful.ensures c.clients_stay.ensures c.reads_leave_others.ensures c.args.place c.args.self.now c.keep_asked.new.self c.own.new.nodes c.own.new.self c.index.result.now c.args.roads.now c.own.new.roads c.keep_asked.result
    (element_some c.args.self.now.reads.clients.items c.args.place c.index.result.now c.requires.within c.index.ensures) c.own.ensures.sizes c.in-Ok.ensures.shows c.keep_asked.ensures.kept

pub returns-in-Err-clause-shows : goal.returns-in-Err-clause-shows
returns-in-Err-clause-shows g c =
    let now = record c.args.self.now { nodes = c.own.new.nodes; reads = c.own.new.self } in
    subst (λ (x : PlayFault). AskShows g.F.Files g.R.Roads g.I.LinkIn g.O.LinkOut c.args.place c.args.self.now now c.args.roads.now c.own.new.roads (Err x)) (sym c.of_reads.ensures)
    (ask_failed g.F.Files g.R.Roads g.I.LinkIn g.O.LinkOut c.worlds_are_lawful.ensures c.clients_stay.ensures c.reads_leave_others.ensures c.args.place c.args.self.now now c.args.roads.now c.own.new.roads c.in-Err.fault c.in-Err.ensures.shows)

pub returns-in-Ok-clause-sizes : goal.returns-in-Ok-clause-sizes
returns-in-Ok-clause-sizes g c = sizes_after c.args.self.now.nodes c.own.new.nodes c.keep_asked.new.self.nodes c.own.ensures.sizes c.keep_asked.ensures.sizes
