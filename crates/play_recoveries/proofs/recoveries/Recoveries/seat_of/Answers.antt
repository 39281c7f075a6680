-- Where a lower end stands.
use Rattle.std.proofs.Common.{Some, None, length, refl, arith}
use Rattle.play_nodes.proofs.PlaceLaws.{none_so, element_some}
use Rattle.play_recoveries.proofs.DueLaws.{server_at, server_within, no_server}
use Rattle.play_recoveries.proofs.SeatLaws.{not_within, node_past}
use Rattle.play_recoveries.proofs.recoveries.Recoveries.seat_of.Goals as goal

pub returns-in_default : goal.returns-in_default
returns-in_default g c at found ascend has =
    let none = server_at c.as_slice.result.now c.args.self.now.servers.items c.args.conn.0 c.server_of.result None c.as_slice.ensures.value (none_so c.server_of.result c.in_default.not-Some) c.server_of.ensures in
    absurd (no_server c.args.self.now.servers.items c.args.conn.0 none ascend has)

pub returns-then-conn-len : goal.returns-then-conn-len
returns-then-conn-len g c at found ascend has =
    absurd (not_within c.args.nodes.now.connections.items c.args.conn.0 at found (omega (arith, c.if-conn-len.true, c.len.ensures)))

pub returns-then-number-len : goal.returns-then-number-len
returns-then-number-len g c at found ascend has =
    let here = element_some c.args.nodes.now.connections.items c.args.conn.0 c.index.result.now (omega (arith, c.if-conn-len.false)) c.index.ensures in
    node_past c.args.nodes.now.connections.items c.args.conn.0 c.index.result.now at (length c.args.nodes.now.nodes.items) here found (omega (arith, c.if-number-len.true))

pub returns : goal.returns
returns g c =
    let xs = c.args.self.now.servers.items in
    let place = server_at c.as_slice.result.now xs c.args.conn.0 c.server_of.result (Some c.in-Some.place) c.as_slice.ensures.value c.in-Some.is c.server_of.ensures in
    record {
      place = place;
      within = server_within xs c.args.conn.0 (Some c.in-Some.place) place;
      at = c.index.result.now;
      found = element_some c.args.nodes.now.connections.items c.args.conn.0 c.index.result.now (omega (arith, c.if-conn-len.false)) c.index.ensures;
      node = refl;
      has_books = omega (arith, c.if-number-len.false);
    }
