-- The member that dialled says whether it hears its mirror.
use Rattle.std.proofs.Common.{◌<◌, ℕ, ◌∙◌, sym, subst}
use Rattle.play_nodes.specs.Places.{IsSeat}
use Rattle.play_nodes.proofs.PlaceLaws.{none_so}
use Rattle.play_nodes.proofs.LiftLaws.{seat_within, lower_here, member_here}
use Rattle.member_events.specs.PipeMember.Enabled.{hears_at}
use Rattle.play_nodes.specs.Dues.{stands}
use Rattle.play_nodes.proofs.DueNodes.{heard_so, unheard_so, up_alone, up_none, up_tells}
use Rattle.play_nodes.proofs.nodes.Nodes.can_up.Goals as goal

pub returns-in_default-clause-tells : goal.returns-in_default-clause-tells
returns-in_default-clause-tells g c = up_alone g.R.Roads g.I.LinkIn g.O.LinkOut c.args.self.now c.args.conn c.args.roads.now c.standing-next.new.roads c.standing-next.result (sym c.above.ensures ∙ none_so c.above.result c.in_default.not-Some) c.standing-next.ensures.shows

pub returns-in_default-seat_of-clause-tells : goal.returns-in_default-seat_of-clause-tells
returns-in_default-seat_of-clause-tells g c = up_none g.R.Roads g.I.LinkIn g.O.LinkOut c.args.self.now c.args.conn c.in-Some.above c.args.roads.now c.standing-next.new.roads c.standing-next.result (sym c.above.ensures ∙ c.in-Some.is)
    (subst (λ x. IsSeat c.args.self.now c.in-Some.above.0 x) (none_so c.seat_of.result c.in_default-seat_of.not-Some) c.seat_of.ensures) c.standing-next.ensures.shows

pub index-requires : goal.index-requires
index-requires g c = subst (λ (k : ℕ). c.in-Some-seat_of.seat.conn < k) (sym c.args.self.now.connections.ok.0) (seat_within c.args.self.now c.in-Some.above.0 c.in-Some-seat_of.seat c.in-Some-seat_of.ensures)

pub returns-in_default-lower : goal.returns-in_default-lower
returns-in_default-lower g c = absurd (c.in_default-lower.not-Member c.in-Some-seat_of.ensures.member c.in-Some-seat_of.seat.place (lower_here c.args.self.now c.in-Some.above.0 c.in-Some-seat_of.seat c.index.result.now c.in-Some-seat_of.ensures c.index.ensures))

pub returns-then-hears-clause-tells : goal.returns-then-hears-clause-tells
returns-then-hears-clause-tells g c =
    up_tells g.R.Roads g.I.LinkIn g.O.LinkOut c.args.self.now c.args.conn c.in-Some.above c.in-Some-seat_of.seat c.in-Member.member c.args.roads.now c.standing-next.new.roads c.standing-next.result c.stands.result (sym c.above.ensures ∙ c.in-Some.is) c.in-Some-seat_of.ensures
    (member_here c.args.self.now c.in-Some.above.0 c.in-Some-seat_of.seat c.index.result.now c.in-Member.member c.in-Member.place c.in-Some-seat_of.ensures c.index.ensures c.in-Member.is)
    c.standing-next.ensures.shows (heard_so (hears_at c.in-Member.member.stage) c.stands.result (stands c.standing-next.result) (sym c.hears.ensures ∙ c.if-hears.true) c.stands.ensures)

pub returns-else-hears-clause-tells : goal.returns-else-hears-clause-tells
returns-else-hears-clause-tells g c =
    up_tells g.R.Roads g.I.LinkIn g.O.LinkOut c.args.self.now c.args.conn c.in-Some.above c.in-Some-seat_of.seat c.in-Member.member c.args.roads.now c.standing-next.new.roads c.standing-next.result c.hears.result (sym c.above.ensures ∙ c.in-Some.is) c.in-Some-seat_of.ensures
    (member_here c.args.self.now c.in-Some.above.0 c.in-Some-seat_of.seat c.index.result.now c.in-Member.member c.in-Member.place c.in-Some-seat_of.ensures c.index.ensures c.in-Member.is)
    c.standing-next.ensures.shows (c.if-hears.false ∙ unheard_so (hears_at c.in-Member.member.stage) (stands c.standing-next.result) (sym c.hears.ensures ∙ c.if-hears.false))
