-- The connection says who dialled it.
use Rattle.std.proofs.Common.{Some, None, sym, ap, arith}
use Rattle.play_nodes.proofs.PlaceLaws.{element_some}
use Rattle.play_recoveries.proofs.DueLaws.{primary_above, not_primary, dialler_told}
use Rattle.play_recoveries.proofs.dues.primary_of.Goals as goal

pub returns-in_default : goal.returns-in_default
returns-in_default g c =
    let found = element_some c.args.nodes.now.connections.items c.args.conn.0 c.index.result.now (omega (arith, c.if-conn-len.false)) c.index.ensures in
    dialler_told g.I.LinkIn g.O.LinkOut c.args.nodes.now c.args.conn c.index.result.now None found (not_primary c.index.result.now.upper c.in_default.not-Primary)

pub returns : goal.returns
returns g c =
    let found = element_some c.args.nodes.now.connections.items c.args.conn.0 c.index.result.now (omega (arith, c.if-conn-len.false)) c.index.ensures in
    dialler_told g.I.LinkIn g.O.LinkOut c.args.nodes.now c.args.conn c.index.result.now (Some (c.in-Primary.primary, c.in-Primary.place)) found (sym (ap primary_above c.in-Primary.is))
