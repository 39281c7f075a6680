-- What is written is spelled.
use Rattle.std.proofs.Common.{rules}
use Rattle.std.specs.Int.{w64}
use mir.Val.{SFits}
use Rattle.packet_codec.proofs.WrittenLemmas.{packet_text_spells, held}
use Rattle.packet_codec.proofs.encoding.push_packet.Goals as goal

pub returns-clause-spelled : goal.returns-clause-spelled
returns-clause-spelled c =
    let offset : SFits w64 c.args.packet.now.offset = search rules in
    let seqno : SFits w64 c.args.packet.now.seqno = search rules in
    held c.extend_from_slice-2.result (packet_text_spells c.args.packet.now offset seqno c.requires.whole c.requires.within)
