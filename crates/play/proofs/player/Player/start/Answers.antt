-- A node of a play started, and the event was kept.
use Rattle.std.proofs.Common.{List, ◌∙◌, subst}
use Rattle.world.specs.declared.events.Event.TheVariants as event
use Rattle.world.specs.declared.events.FoundReplica.{FoundReplica}
use Rattle.play.specs.Events.{Keeps}
use Rattle.play.proofs.StartPlays.{start_shows}
use Rattle.play.proofs.player.Player.start.Goals as goal

pub returns-in-Ok-clause-shows : goal.returns-in-Ok-clause-shows
returns-in-Ok-clause-shows g c =
    start_shows g.S.Shelf g.F.Files g.R.Roads g.I.LinkIn g.O.LinkOut c.worlds_are_lawful.ensures c.refused_writes_leave_replicas_whole.ensures c.dials_are_of_lives_so_far.ensures c.clients_stay.ensures c.starts_keep_reads.ensures c.starts_keep_recoveries.ensures c.args.node c.args.shelf.now c.args.self.now c.started.new.self c.keep.new.self c.start_node.new.nodes c.args.roads.now c.start_node.new.roads c.keep.result
    c.in-Ok.ensures.shows c.start_node.ensures.others.blocks c.started.ensures
    (subst (λ (found : List FoundReplica). Keeps c.started.new.self c.keep.new.self (event.Restart c.args.node found) c.keep.result) (c.from_vec.ensures ∙ c.new.ensures.items) c.keep.ensures.kept)
