-- The connection says who dialled it.
use Rattle.std.proofs.Common.{Some, None, sym, ap, arith}
use Rattle.play_nodes.proofs.PlaceLaws.{element_some}
use Rattle.play_reads.proofs.DueLaws.{reader_above, not_reader, dialler_told}
use Rattle.play_reads.proofs.dues.reader_of.Goals as goal

pub returns-in_default : goal.returns-in_default
returns-in_default g c =
    let found = element_some c.args.nodes.now.connections.items c.args.conn.0 c.index.result.now (omega (arith, c.if-conn-len.false)) c.index.ensures in
    dialler_told g.I.LinkIn g.O.LinkOut c.args.nodes.now c.args.conn c.index.result.now None found (not_reader c.index.result.now.upper c.in_default.not-Reader)

pub returns : goal.returns
returns g c =
    let found = element_some c.args.nodes.now.connections.items c.args.conn.0 c.index.result.now (omega (arith, c.if-conn-len.false)) c.index.ensures in
    dialler_told g.I.LinkIn g.O.LinkOut c.args.nodes.now c.args.conn c.index.result.now (Some c.in-Reader.reader) found (sym (ap reader_above c.in-Reader.is))
