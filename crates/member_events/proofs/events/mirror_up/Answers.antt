-- The member took what stood next from its mirror, and what followed.
use Rattle.std.proofs.Common.{rules, Some, subst}
use Rattle.pipe_member.specs.declared.stages.Looked.{Looked}
use Rattle.pipe_member.specs.Events.{LooksDownAt}
use Rattle.pipe_member.specs.Exchanges.{AreKnown}
use Rattle.member_events.proofs.UpEvents.{up_failed, up_memory, up_lost_shows, up_shows}
use Rattle.member_events.proofs.KnownLaws.{exchanged_known, known_same, look_same, up_same}
use Rattle.member_events.proofs.events.mirror_up.Goals as goal

pub returns-in_err-member-clause-shows : goal.returns-in_err-member-clause-shows
returns-in_err-member-clause-shows g c = up_failed g.F.Files g.R.Roads g.I.LinkIn g.O.LinkOut c.args.mirror c.args.member c.args.book.now c.from_residual.result c.in_err-member.field-0.0 c.args.roads.now c.exchanged.new.roads (search rules) c.in_err-member.ensures.ends

pub lost-requires : goal.lost-requires
lost-requires g c =
    let k : AreKnown (g.R.Roads.plain c.exchanged.new.roads) c.look_down.new.self = known_same (g.R.Roads.plain c.exchanged.new.roads) c.in_ok-member.member c.look_down.new.self
    (look_same g.F.Files g.I.LinkIn g.O.LinkOut c.in_ok-member.member.stage c.in_ok-member.member c.look_down.new.self c.look_down.result c.look_down.ensures)
    (exchanged_known g.R.Roads g.I.LinkIn g.O.LinkOut (Some c.args.mirror) c.args.member c.in_ok-member.member c.args.roads.now c.exchanged.new.roads c.in_ok-member.ensures.ends c.requires) in
    (first_of (assumption c.type_bounds.send-I, search rules), (first_of (assumption c.type_bounds.send-O, search rules), k))

pub placed-requires : goal.placed-requires
placed-requires g c =
    let at_look : AreKnown (g.R.Roads.plain c.exchanged.new.roads) c.look_down.new.self = known_same (g.R.Roads.plain c.exchanged.new.roads) c.in_ok-member.member c.look_down.new.self
    (look_same g.F.Files g.I.LinkIn g.O.LinkOut c.in_ok-member.member.stage c.in_ok-member.member c.look_down.new.self c.look_down.result c.look_down.ensures)
    (exchanged_known g.R.Roads g.I.LinkIn g.O.LinkOut (Some c.args.mirror) c.args.member c.in_ok-member.member c.args.roads.now c.exchanged.new.roads c.in_ok-member.ensures.ends c.requires) in
    let k : AreKnown (g.R.Roads.plain c.exchanged.new.roads) c.up-stepped.new.self = known_same (g.R.Roads.plain c.exchanged.new.roads) c.look_down.new.self c.up-stepped.new.self
    (up_same g.F.Files g.I.LinkIn g.O.LinkOut c.look_down.new.self.stage c.look_down.new.self c.up-stepped.new.self c.args.book.now c.up-stepped.new.book c.up-stepped.result c.up-stepped.ensures) at_look in
    (first_of (assumption c.type_bounds.send-I, search rules), (first_of (assumption c.type_bounds.send-O, search rules), k))

pub returns-in-Failed-clause-shows : goal.returns-in-Failed-clause-shows
returns-in-Failed-clause-shows g c =
    up_lost_shows g.F.Files g.R.Roads g.I.LinkIn g.O.LinkOut c.args.mirror c.args.member c.in_ok-member.member c.look_down.new.self c.args.book.now c.lost.result c.args.roads.now c.exchanged.new.roads c.lost.new.roads
    c.in_ok-member.ensures.ends (subst (λ (x : Looked). LooksDownAt g.I.LinkIn g.O.LinkOut c.in_ok-member.member.stage c.in_ok-member.member c.look_down.new.self x) c.in-Failed.is c.look_down.ensures) c.lost.ensures.ends

pub returns-in-Memory-clause-shows : goal.returns-in-Memory-clause-shows
returns-in-Memory-clause-shows g c = up_memory g.F.Files g.R.Roads g.I.LinkIn g.O.LinkOut c.args.mirror c.args.member c.args.book.now c.args.roads.now c.exchanged.new.roads

pub returns-clause-shows : goal.returns-clause-shows
returns-clause-shows g c =
    up_shows g.F.Files g.R.Roads g.I.LinkIn g.O.LinkOut c.args.mirror c.args.member c.in_ok-member.member c.look_down.new.self c.up-stepped.new.self c.args.book.now c.up-stepped.new.book c.up-stepped.result c.placed.result c.args.roads.now c.exchanged.new.roads c.placed.new.roads
    c.in_ok-member.ensures.ends (subst (λ (x : Looked). LooksDownAt g.I.LinkIn g.O.LinkOut c.in_ok-member.member.stage c.in_ok-member.member c.look_down.new.self x) c.in-Known.is c.look_down.ensures) c.up-stepped.ensures c.replica-kept.ensures.kept.known c.placed.ensures.ends
