-- The member took what stood next from above, and what followed.
use Rattle.std.proofs.Common.{◌∙◌, rules, Some, Ok, subst, sym}
use Rattle.hd_base.specs.declared.numbers.ConnId.{ConnId}
use Rattle.pipe_member.specs.Exchanges.{AreKnown, ExchangesBoth}
use Rattle.member_events.proofs.DownEnds.{down_failed, down_lost_shows, down_shows}
use Rattle.member_events.proofs.KnownLaws.{exchanged_known, known_same, down_same}
use Rattle.member_events.proofs.events.member_down.Goals as goal

pub returns-in_err-member-clause-shows : goal.returns-in_err-member-clause-shows
returns-in_err-member-clause-shows g c = down_failed g.F.Files g.R.Roads g.I.LinkIn g.O.LinkOut c.args.member c.args.book.now c.from_residual.result c.in_err-member.field-0.0 c.args.roads.now c.exchanged.new.roads (search rules) c.in_err-member.ensures.ends

pub lost-requires : goal.lost-requires
lost-requires g c =
    let k : AreKnown (g.R.Roads.plain c.exchanged.new.roads) c.down-stepped.new.self = known_same (g.R.Roads.plain c.exchanged.new.roads) c.in_ok-member.member c.down-stepped.new.self
    (down_same g.F.Files g.I.LinkIn g.O.LinkOut c.in_ok-member.member.stage c.in_ok-member.member c.down-stepped.new.self c.args.book.now c.down-stepped.new.book c.down-stepped.result c.down-stepped.ensures)
    (exchanged_known g.R.Roads g.I.LinkIn g.O.LinkOut (Some c.conn-conn.result) c.args.member c.in_ok-member.member c.args.roads.now c.exchanged.new.roads c.in_ok-member.ensures.ends c.requires) in
    (first_of (assumption c.type_bounds.send-I, search rules), (first_of (assumption c.type_bounds.send-O, search rules), k))

pub placed_down-requires : goal.placed_down-requires
placed_down-requires g c =
    let k : AreKnown (g.R.Roads.plain c.exchanged.new.roads) c.down-stepped.new.self = known_same (g.R.Roads.plain c.exchanged.new.roads) c.in_ok-member.member c.down-stepped.new.self
    (down_same g.F.Files g.I.LinkIn g.O.LinkOut c.in_ok-member.member.stage c.in_ok-member.member c.down-stepped.new.self c.args.book.now c.down-stepped.new.book c.down-stepped.result c.down-stepped.ensures)
    (exchanged_known g.R.Roads g.I.LinkIn g.O.LinkOut (Some c.conn-conn.result) c.args.member c.in_ok-member.member c.args.roads.now c.exchanged.new.roads c.in_ok-member.ensures.ends c.requires) in
    (first_of (assumption c.type_bounds.send-I, search rules), (first_of (assumption c.type_bounds.send-O, search rules), k))

pub returns-then-knows_mirror_end-clause-shows : goal.returns-then-knows_mirror_end-clause-shows
returns-then-knows_mirror_end-clause-shows g c =
    let ex : ExchangesBoth g.R.Roads g.I.LinkIn g.O.LinkOut (Some c.args.member.upstream.id) c.args.member c.in_ok-member.member c.args.roads.now c.exchanged.new.roads (Ok tt) =
    subst (λ (x : ConnId). ExchangesBoth g.R.Roads g.I.LinkIn g.O.LinkOut (Some x) c.args.member c.in_ok-member.member c.args.roads.now c.exchanged.new.roads (Ok tt)) c.conn-conn.ensures c.in_ok-member.ensures.ends in
    down_lost_shows g.F.Files g.R.Roads g.I.LinkIn g.O.LinkOut c.args.member c.in_ok-member.member c.down-stepped.new.self c.args.book.now c.down-stepped.new.book c.down-stepped.result c.lost.result c.args.roads.now c.exchanged.new.roads c.lost.new.roads
    ex c.down-stepped.ensures (sym c.knows_mirror_end.ensures ∙ c.if-knows_mirror_end.true) c.lost.ensures.ends

pub returns-clause-shows : goal.returns-clause-shows
returns-clause-shows g c =
    let ex : ExchangesBoth g.R.Roads g.I.LinkIn g.O.LinkOut (Some c.args.member.upstream.id) c.args.member c.in_ok-member.member c.args.roads.now c.exchanged.new.roads (Ok tt) =
    subst (λ (x : ConnId). ExchangesBoth g.R.Roads g.I.LinkIn g.O.LinkOut (Some x) c.args.member c.in_ok-member.member c.args.roads.now c.exchanged.new.roads (Ok tt)) c.conn-conn.ensures c.in_ok-member.ensures.ends in
    down_shows g.F.Files g.R.Roads g.I.LinkIn g.O.LinkOut c.args.member c.in_ok-member.member c.down-stepped.new.self c.args.book.now c.down-stepped.new.book c.down-stepped.result c.placed_down.result c.args.roads.now c.exchanged.new.roads c.placed_down.new.roads
    ex c.down-stepped.ensures (sym c.knows_mirror_end.ensures ∙ c.if-knows_mirror_end.false) c.replica-kept.ensures.kept c.placed_down.ensures.ends
