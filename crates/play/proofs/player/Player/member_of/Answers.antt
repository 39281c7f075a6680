-- A lower end that takes what stands next is a member, or writes nothing.
use Rattle.std.proofs.Common.{Option, sym, subst, ◌∙◌}
use Rattle.hd_base.specs.declared.numbers.ConnId.{ConnId}
use Rattle.play.specs.Befalling.{TellsWriting}
use Rattle.play.proofs.Befallen.{tells_none, tells_away, tells_first, tells_member}
use Rattle.play.proofs.player.Player.member_of.Goals as goal
use Rattle.play.proofs.player.Player.member_of.Goals.{then-is_elsewhere-via-then-is_elsewhere, then-is_elsewhere-via-else-is_elsewhere+then-takes_first}

pub returns-in_err-conn : goal.returns-in_err-conn
returns-in_err-conn g c =
    subst (λ (x : Option ConnId). TellsWriting g.I.LinkIn g.O.LinkOut c.args.due.now c.args.self.now.nodes x) (sym c.from_residual.ensures)
    (tells_none g.I.LinkIn g.O.LinkOut c.args.due.now c.args.self.now.nodes (sym c.in_err-conn.ensures))

pub returns-then-is_elsewhere : goal.returns-then-is_elsewhere
returns-then-is_elsewhere g c = elim c.then-is_elsewhere.branch [
  | then-is_elsewhere-via-then-is_elsewhere w ↦ tells_away g.I.LinkIn g.O.LinkOut c.args.due.now c.args.self.now.nodes c.in_ok-conn.conn c.is_elsewhere.result (sym c.in_ok-conn.ensures) w.if-is_elsewhere.true c.is_elsewhere.ensures.tells
  | then-is_elsewhere-via-else-is_elsewhere+then-takes_first w ↦ tells_first g.I.LinkIn g.O.LinkOut c.args.due.now c.args.self.now.nodes c.in_ok-conn.conn c.is_elsewhere.result w.takes_first.result (sym c.in_ok-conn.ensures) w.if-is_elsewhere.false c.is_elsewhere.ensures.tells w.if-takes_first.true w.takes_first.ensures
]

pub returns : goal.returns
returns g c =
    tells_member g.I.LinkIn g.O.LinkOut c.args.due.now c.args.self.now.nodes c.in_ok-conn.conn c.is_elsewhere.result c.takes_first.result (sym c.in_ok-conn.ensures) c.if-is_elsewhere.false c.is_elsewhere.ensures.tells c.if-takes_first.false c.takes_first.ensures
