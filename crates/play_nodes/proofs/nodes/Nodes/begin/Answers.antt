-- The end took what stood next, and what followed.
use Rattle.std.proofs.Common.{Some, None, Ok, Err, ap, subst, arith}
use Rattle.play_nodes.specs.Places.{TakesIdle}
use Rattle.play_nodes.proofs.PlaceLaws.{none_so, element_some}
use Rattle.play_nodes.proofs.SizeLaws.{sizes_after, idle_sizes}
use Rattle.play_nodes.proofs.LiftLaws.{idle_within, idle_known}
use Rattle.play_nodes.proofs.BeginEnds.{shows_as, begin_outside, begin_taken, begin_ended, begin_failed, begin_joined}
use Rattle.play_nodes.proofs.nodes.Nodes.begin.Goals as goal

pub returns-then-index-len-clause-shows : goal.returns-then-index-len-clause-shows
returns-then-index-len-clause-shows g c = begin_outside g.F.Files g.R.Roads g.I.LinkIn g.O.LinkOut c.args.self.now c.args.self.now c.args.conn c.args.roads.now c.args.roads.now (Ok None) (omega (arith, c.if-index-len.true))

pub take_idle-requires : goal.take_idle-requires
take_idle-requires g c = omega (arith, c.if-index-len.false)

pub returns-in_default-clause-shows : goal.returns-in_default-clause-shows
returns-in_default-clause-shows g c = begin_taken g.F.Files g.R.Roads g.I.LinkIn g.O.LinkOut c.args.self.now c.take_idle.new.self c.take_idle.new.self c.args.conn c.args.roads.now c.args.roads.now (Ok None)
    (subst (λ x. TakesIdle c.args.self.now c.take_idle.new.self c.args.conn.0 x) (none_so c.take_idle.result c.in_default.not-Some) c.take_idle.ensures)

pub begin-requires-after_bounds : goal.begin-requires-after_bounds
begin-requires-after_bounds g c κs within =
    idle_known g.R.Roads g.I.LinkIn g.O.LinkOut c.args.roads.now c.args.self.now c.take_idle.new.self c.args.conn.0 c.in-Some.end c.requires (omega (arith, c.if-index-len.false)) c.in-Some.ensures

pub join-requires-clause-within : goal.join-requires-clause-within
join-requires-clause-within g c κs within = idle_within c.args.self.now c.take_idle.new.self c.args.conn.0 c.take_idle.result c.take_idle.ensures (omega (arith, c.if-index-len.false))

pub returns-in-Ok-Some-clause-shows : goal.returns-in-Ok-Some-clause-shows
returns-in-Ok-Some-clause-shows g c =
    let at = c.index.result.now in
    let found = element_some c.args.self.now.connections.items c.args.conn.0 at (omega (arith, c.if-index-len.false)) c.index.ensures in
    begin_joined g.F.Files g.R.Roads g.I.LinkIn g.O.LinkOut c.args.self.now c.take_idle.new.self c.join.new.self c.args.conn at c.in-Some.end c.in-Ok-Some.requested c.args.roads.now c.begin.new.roads c.join.new.roads c.join.result
    found c.in-Some.ensures (shows_as g.R.Roads g.I.LinkIn g.O.LinkOut c.in-Some.end c.in-Ok-Some.field-0 (Some c.in-Ok-Some.requested) c.args.roads.now c.begin.new.roads c.in-Ok-Some.field-0-is c.in-Ok-Some.ensures.shows)
    c.begin.ensures.pass.never_falls c.join.ensures.joins

pub returns-in-Ok-None-clause-shows : goal.returns-in-Ok-None-clause-shows
returns-in-Ok-None-clause-shows g c = begin_ended g.F.Files g.R.Roads g.I.LinkIn g.O.LinkOut c.args.self.now c.take_idle.new.self c.args.conn c.in-Some.end c.args.roads.now c.begin.new.roads c.in-Some.ensures
    (shows_as g.R.Roads g.I.LinkIn g.O.LinkOut c.in-Some.end c.in-Ok-None.field-0 None c.args.roads.now c.begin.new.roads c.in-Ok-None.field-0-is c.in-Ok-None.ensures.shows)

pub returns-in-Err-clause-shows : goal.returns-in-Err-clause-shows
returns-in-Err-clause-shows g c = begin_failed g.F.Files g.R.Roads g.I.LinkIn g.O.LinkOut c.args.self.now c.take_idle.new.self c.args.conn c.index.result.now.node c.in-Some.end c.args.roads.now c.begin.new.roads c.in-Err.fault (Err c.fault_at.result)
    (ap Err c.fault_at.ensures) c.in-Some.ensures c.in-Err.ensures.shows

pub returns-in_default-clause-sizes : goal.returns-in_default-clause-sizes
returns-in_default-clause-sizes g c = idle_sizes c.args.self.now c.take_idle.new.self c.args.conn.0 c.take_idle.result c.take_idle.ensures

pub returns-in-Ok-None-clause-sizes : goal.returns-in-Ok-None-clause-sizes
returns-in-Ok-None-clause-sizes g c = idle_sizes c.args.self.now c.take_idle.new.self c.args.conn.0 c.take_idle.result c.take_idle.ensures

pub returns-in-Err-clause-sizes : goal.returns-in-Err-clause-sizes
returns-in-Err-clause-sizes g c = idle_sizes c.args.self.now c.take_idle.new.self c.args.conn.0 c.take_idle.result c.take_idle.ensures

pub returns-in-Ok-Some-clause-sizes : goal.returns-in-Ok-Some-clause-sizes
returns-in-Ok-Some-clause-sizes g c = sizes_after c.args.self.now c.take_idle.new.self c.join.new.self (idle_sizes c.args.self.now c.take_idle.new.self c.args.conn.0 c.take_idle.result c.take_idle.ensures) c.join.ensures.sizes
