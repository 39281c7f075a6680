-- The member acted, and what followed.
use Rattle.std.proofs.Common.{rules}
use Rattle.pipe_member.specs.Exchanges.{AreKnown}
use Rattle.member_events.proofs.KnownLaws.{known_same, ready_same}
use Rattle.member_events.proofs.ReadyEvents.{ready_shows}
use Rattle.member_events.proofs.events.member_ready.Goals as goal

pub placed-requires : goal.placed-requires
placed-requires g c =
    let k : AreKnown (g.R.Roads.plain c.args.roads.now) c.ready-stepped.new.self = known_same (g.R.Roads.plain c.args.roads.now) c.args.member c.ready-stepped.new.self
    (ready_same g.F.Files g.O.LinkOut c.args.member.stage c.args.member c.ready-stepped.new.self c.args.book.now c.ready-stepped.new.book c.ready-stepped.result c.ready-stepped.ensures) c.requires in
    (first_of (assumption c.type_bounds.send-I, search rules), (first_of (assumption c.type_bounds.send-O, search rules), k))

pub returns-clause-shows : goal.returns-clause-shows
returns-clause-shows g c = ready_shows g.F.Files g.R.Roads g.I.LinkIn g.O.LinkOut c.args.member c.ready-stepped.new.self c.args.book.now c.ready-stepped.new.book c.ready-stepped.result c.placed.result c.args.roads.now c.placed.new.roads
    c.ready-stepped.ensures c.replica-kept.ensures.kept.known c.placed.ensures.ends
