-- The member says whether it acts.
use Rattle.std.proofs.Common.{◌<◌, ℕ, ◌∙◌, sym, ap, subst}
use Rattle.member_events.specs.PipeMember.Enabled.{acts_at}
use Rattle.play_nodes.specs.Places.{IsSeat}
use Rattle.play_nodes.proofs.PlaceLaws.{none_so}
use Rattle.play_nodes.proofs.LiftLaws.{seat_within, lower_here, member_here, node_here, place_here, book_here}
use Rattle.play_nodes.proofs.DueNodes.{ready_none, ready_tells}
use Rattle.play_nodes.proofs.nodes.Nodes.can_ready.Goals as goal

pub returns-in_default : goal.returns-in_default
returns-in_default g c = ready_none g.I.LinkIn g.O.LinkOut c.args.self.now c.args.conn (subst (λ x. IsSeat c.args.self.now c.args.conn.0 x) (none_so c.seat_of.result c.in_default.not-Some) c.seat_of.ensures)

pub index-requires : goal.index-requires
index-requires g c = subst (λ (k : ℕ). c.in-Some.seat.conn < k) (sym c.args.self.now.connections.ok.0) (seat_within c.args.self.now c.args.conn.0 c.in-Some.seat c.in-Some.ensures)

pub returns-in_default-lower : goal.returns-in_default-lower
returns-in_default-lower g c = absurd (c.in_default-lower.not-Member c.in-Some.ensures.member c.in-Some.seat.place (lower_here c.args.self.now c.args.conn.0 c.in-Some.seat c.index.result.now c.in-Some.ensures c.index.ensures))

pub index-requires-2 : goal.index-requires-2
index-requires-2 g c = subst (λ (k : ℕ). c.in-Some.seat.node.0 < k) (sym c.args.self.now.nodes.ok.0) (node_here c.args.self.now c.args.conn.0 c.in-Some.seat c.in-Some.ensures)

pub index-requires-3 : goal.index-requires-3
index-requires-3 g c =
    let x = c.index-2.result.now in
    subst (λ (k : ℕ). c.in-Some.seat.place < k) (sym x.books.ok.0) (place_here c.args.self.now c.args.conn.0 c.in-Some.seat x c.in-Some.ensures c.index-2.ensures)

pub returns : goal.returns
returns g c =
    ready_tells g.I.LinkIn g.O.LinkOut c.args.self.now c.args.conn c.in-Some.seat c.in-Member.member c.index-3.result.now c.acts.result c.in-Some.ensures
    (member_here c.args.self.now c.args.conn.0 c.in-Some.seat c.index.result.now c.in-Member.member c.in-Member.place c.in-Some.ensures c.index.ensures c.in-Member.is)
    (book_here c.args.self.now c.args.conn.0 c.in-Some.seat c.index-2.result.now c.index-3.result.now c.in-Some.ensures c.index-2.ensures c.index-3.ensures)
    c.replica.ensures.kept.known (c.acts.ensures ∙ ap (λ x. acts_at c.in-Member.member.stage x) c.replica.ensures.replica)
