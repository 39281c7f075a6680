-- One event of a pipeline befalls, where it is due.
use Rattle.std.proofs.Common.{ap}
use Rattle.play_scripts.proofs.PlayNodes.PlaceLaws.{none_so}
use Rattle.play_lines.specs.Befalling.{KeepsRest}
use Rattle.play_lines.proofs.Stepped.{nothing_there, told_as, alone_as, not_due, stands_here, befell}
use Rattle.play_lines.proofs.playing.Playing.step.Goals as goal

pub returns-in_default-clause-shows : goal.returns-in_default-clause-shows
returns-in_default-clause-shows g c =
    nothing_there g.F.Files g.R.Roads g.I.LinkIn g.O.LinkOut c.worlds_are_lawful.ensures c.takers_are_open.ensures c.args.block c.args.event c.args.self.now c.args.roads.now
    c.due_for.result c.due_for.ensures (none_so c.due_for.result c.in_default.not-Some)

pub returns-then-not-is_due-clause-shows : goal.returns-then-not-is_due-clause-shows
returns-then-not-is_due-clause-shows g c =
    not_due g.F.Files g.R.Roads g.I.LinkIn g.O.LinkOut c.worlds_are_lawful.ensures c.takers_are_open.ensures c.args.block c.args.event c.args.self.now c.args.roads.now c.is_due.new.roads c.due_for.result c.in-Some.due c.is_due.result c.if-not-is_due.true c.due_for.ensures c.in-Some.is
    (told_as g.R.Roads g.I.LinkIn g.O.LinkOut c.args.self.now.player.nodes _ c.args.self.now.player.clients.items c.args.self.now.player.reads c.args.self.now.player.recoveries c.args.roads.now c.is_due.new.roads c.duplicate.result c.in-Some.due c.is_due.result c.as_slice.ensures.value c.duplicate.ensures c.is_due.ensures.tells)

pub befall-requires-after_bounds : goal.befall-requires-after_bounds
befall-requires-after_bounds g c κs within =
    stands_here g.F.Files g.R.Roads g.I.LinkIn g.O.LinkOut c.worlds_are_lawful.ensures c.takers_are_open.ensures c.args.block c.args.event c.args.self.now c.args.roads.now c.is_due.new.roads c.due_for.result c.in-Some.due c.is_due.result c.due_for.ensures c.in-Some.is c.if-not-is_due.false
    (alone_as _ c.args.self.now.player.clients.items c.args.self.now.player.reads c.args.self.now.player.recoveries c.duplicate.result c.in-Some.due c.is_due.result c.as_slice.ensures.value c.duplicate.ensures c.is_due.ensures.alone) c.requires
    (told_as g.R.Roads g.I.LinkIn g.O.LinkOut c.args.self.now.player.nodes _ c.args.self.now.player.clients.items c.args.self.now.player.reads c.args.self.now.player.recoveries c.args.roads.now c.is_due.new.roads c.duplicate.result c.in-Some.due c.is_due.result c.as_slice.ensures.value c.duplicate.ensures c.is_due.ensures.tells)

pub returns-clause-shows : goal.returns-clause-shows
returns-clause-shows g c =
    let old = c.args.self.now in
    let new = c.befall.new.self in
    let rest : KeepsRest old new = c.befall.ensures.rest in
    befell g.F.Files g.R.Roads g.I.LinkIn g.O.LinkOut c.worlds_are_lawful.ensures c.takers_are_open.ensures c.args.block c.args.event c.live_connections_are_covered.ensures.on old new c.args.roads.now c.is_due.new.roads c.befall.new.roads c.due_for.result c.in-Some.due c.is_due.result c.befall.result (ap (λ x. x.nodes) rest.same) rest.count (ap (λ x. x.generator) rest.same) (ap (λ x. x.live) rest.same) c.is_due.ensures.pass.never_falls c.if-not-is_due.false
    c.due_for.ensures c.in-Some.is
    (told_as g.R.Roads g.I.LinkIn g.O.LinkOut old.player.nodes _ old.player.clients.items old.player.reads old.player.recoveries c.args.roads.now c.is_due.new.roads c.duplicate.result c.in-Some.due c.is_due.result c.as_slice.ensures.value c.duplicate.ensures c.is_due.ensures.tells)
    c.befall.ensures.shows
