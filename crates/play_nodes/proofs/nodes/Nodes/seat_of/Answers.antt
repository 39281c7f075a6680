-- The member at the connection stands there, with its book.
use Rattle.std.proofs.Common.{refl, sym, ◌∙◌, arith}
use Rattle.play_nodes.proofs.PlaceLaws.{element_some}
use Rattle.play_nodes.proofs.nodes.Nodes.seat_of.Goals as goal

pub returns : goal.returns
returns g c = record {
  conn = refl;
  at = c.index-connection.result.now;
  member = c.in-Member.member;
  found = element_some c.args.self.now.connections.items c.args.conn.0 c.index-connection.result.now (omega (arith, c.if-conn-len.false)) c.index-connection.ensures;
  lower = c.in-Member.is;
  node = refl;
  book = sym c.has_book.ensures ∙ c.if-not-has_book.false;
}
