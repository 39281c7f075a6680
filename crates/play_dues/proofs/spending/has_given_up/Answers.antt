-- Whoever dialled says whether it takes nothing more.
use Rattle.std.proofs.Common.{◌<◌, length, refl, arith}
use Rattle.std.specs.Prelude.{not}
use Rattle.play_reads.proofs.PlayNodes.PlaceLaws.{element_some}
use Rattle.play_dues.proofs.SpentLaws.{gave_writer, gave_member, gave_reader, gave_primary}
use Rattle.play_dues.proofs.spending.has_given_up.Goals as goal

pub returns-in-Writer : goal.returns-in-Writer
returns-in-Writer g c =
    let within : c.args.conn.0 < length c.args.nodes.now.connections.items = omega arith in
    gave_writer g.I.LinkIn g.O.LinkOut c.args.nodes.now c.args.clients.now c.args.reads.now c.args.recoveries.now c.args.conn c.index.result.now (element_some c.args.nodes.now.connections.items c.args.conn.0 c.index.result.now within c.index.ensures) (not c.is_connected.result)
    c.in-Writer.block c.is_connected.result c.in-Writer.is refl c.is_connected.ensures

pub returns-in-Member : goal.returns-in-Member
returns-in-Member g c =
    let within : c.args.conn.0 < length c.args.nodes.now.connections.items = omega arith in
    gave_member g.I.LinkIn g.O.LinkOut c.args.nodes.now c.args.clients.now c.args.reads.now c.args.recoveries.now c.args.conn c.index.result.now (element_some c.args.nodes.now.connections.items c.args.conn.0 c.index.result.now within c.index.ensures) c.has_ended.result
    c.in-Member.above c.in-Member.is c.has_ended.ensures

pub returns-in-Reader : goal.returns-in-Reader
returns-in-Reader g c =
    let within : c.args.conn.0 < length c.args.nodes.now.connections.items = omega arith in
    gave_reader g.I.LinkIn g.O.LinkOut c.args.nodes.now c.args.clients.now c.args.reads.now c.args.recoveries.now c.args.conn c.index.result.now (element_some c.args.nodes.now.connections.items c.args.conn.0 c.index.result.now within c.index.ensures) (not c.reads_over.result)
    c.in-Reader.reader c.reads_over.result c.in-Reader.is refl c.reads_over.ensures

pub returns-in-Primary : goal.returns-in-Primary
returns-in-Primary g c =
    let within : c.args.conn.0 < length c.args.nodes.now.connections.items = omega arith in
    gave_primary g.I.LinkIn g.O.LinkOut c.args.nodes.now c.args.clients.now c.args.reads.now c.args.recoveries.now c.args.conn c.index.result.now (element_some c.args.nodes.now.connections.items c.args.conn.0 c.index.result.now within c.index.ensures) (not c.leads_over.result)
    c.in-Primary.primary c.in-Primary.place c.in-Primary.node c.leads_over.result c.in-Primary.is refl c.leads_over.ensures
