-- The member that dialled says whether it takes, or the client of the writer that did.
use Rattle.std.proofs.Common.{◌<◌, length, arith}
use Rattle.play_reads.proofs.PlayNodes.PlaceLaws.{none_so}
use Rattle.play_dues.proofs.UpperLaws.{client_within, upper_away, upper_member, upper_writer, upper_nobody}
use Rattle.play_dues.proofs.conns.upper_takes.Goals as goal

pub returns-then-is_elsewhere-clause-tells : goal.returns-then-is_elsewhere-clause-tells
returns-then-is_elsewhere-clause-tells g c =
    upper_away g.R.Roads g.I.LinkIn g.O.LinkOut c.args.nodes.now c.args.clients.now c.args.reads.now c.args.recoveries.now c.args.conn c.is_elsewhere.result c.args.roads.now c.client_takes.new.roads c.client_takes.result
    c.is_elsewhere.ensures.tells c.is_elsewhere.ensures.place c.if-is_elsewhere.true c.client_takes.ensures.tells

pub returns-in_default-clause-tells : goal.returns-in_default-clause-tells
returns-in_default-clause-tells g c =
    let within : c.args.conn.0 < length c.args.nodes.now.connections.items = omega arith in
    upper_member g.R.Roads g.I.LinkIn g.O.LinkOut c.args.nodes.now c.args.clients.now c.args.reads.now c.args.recoveries.now c.args.conn c.is_elsewhere.result c.writer_of.result c.args.roads.now c.can_up.new.roads c.can_up.result within c.is_elsewhere.ensures.tells c.if-is_elsewhere.false
    c.writer_of.ensures (none_so c.writer_of.result c.in_default.not-Some) c.can_up.ensures.tells

pub returns-in_default-client_of-clause-tells : goal.returns-in_default-client_of-clause-tells
returns-in_default-client_of-clause-tells g c =
    let within : c.args.conn.0 < length c.args.nodes.now.connections.items = omega arith in
    upper_nobody g.R.Roads g.I.LinkIn g.O.LinkOut c.args.nodes.now c.args.clients.now c.args.reads.now c.args.recoveries.now c.args.conn c.writer_of.result c.client_of.result c.in-Some.block c.args.roads.now within
    c.writer_of.ensures c.in-Some.is c.client_of.ensures (none_so c.client_of.result c.in_default-client_of.not-Some)

pub offset_bounds-clients-place : goal.offset_bounds-clients-place
offset_bounds-clients-place g c =
    omega (arith, client_within c.args.clients.now c.in-Some.block.0 c.in-Some-client_of.place c.client_of.result c.client_of.ensures c.in-Some-client_of.is)

pub bounds-clients-place : goal.bounds-clients-place
bounds-clients-place g c = client_within c.args.clients.now c.in-Some.block.0 c.in-Some-client_of.place c.client_of.result c.client_of.ensures c.in-Some-client_of.is

pub returns-clause-tells : goal.returns-clause-tells
returns-clause-tells g c =
    let within : c.args.conn.0 < length c.args.nodes.now.connections.items = omega arith in
    upper_writer g.R.Roads g.I.LinkIn g.O.LinkOut c.args.nodes.now c.args.clients.now c.args.reads.now c.args.recoveries.now c.args.conn c.writer_of.result c.client_of.result c.in-Some.block c.in-Some-client_of.place c.index-clients-place.result c.args.roads.now c.can_up-2.new.roads c.can_up-2.result within
    c.writer_of.ensures c.in-Some.is c.client_of.ensures c.in-Some-client_of.is c.index-clients-place.is c.can_up-2.ensures.tells
