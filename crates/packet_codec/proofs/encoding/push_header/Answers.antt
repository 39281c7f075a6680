-- The two parts stand one behind the other.
use Rattle.std.proofs.Common.{rules}
use Rattle.std.specs.Int.{w32, w64}
use mir.Val.{SFits}
use Rattle.packet_codec.proofs.WrittenLemmas.{header_written}
use Rattle.packet_codec.proofs.encoding.push_header.Goals as goal

pub returns-clause-ok : goal.returns-clause-ok
returns-clause-ok c =
    let offset : SFits w64 c.args.header.offset = search rules in
    let seqno : SFits w64 c.args.header.seqno = search rules in
    let data_len : SFits w32 c.args.header.data_len = search rules in
    header_written c.push_marks.result c.args.out.now.items c.push_places.new.out.items c.push_marks.new.out.items c.args.header _ _ _ offset seqno data_len c.cast_unsigned-offset.ensures c.cast_unsigned-seqno.ensures c.cast_unsigned.ensures c.in_ok-push_places.ensures.ok c.push_marks.ensures.ok
