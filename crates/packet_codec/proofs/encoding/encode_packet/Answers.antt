-- What was written is read again.
use Rattle.proto_fields.proofs.WrittenLemmas.{kept_ok, kept_fact}
use Rattle.packet_codec.proofs.WrittenLemmas.{written_again}
use Rattle.packet_codec.proofs.encoding.encode_packet.Goals as goal

pub returns-clause-again : goal.returns-clause-again
returns-clause-again c =
    let old = c.args.out.now.items in
    let done = c.push_packet-done in
    let ok = kept_ok c.cut_back.result done.result old done.new.out.items c.cut_back.new.out.items _ c.cut_back.ensures.same done.ensures.ok c.cut_back.ensures.ok in
    written_again c.cut_back.result old c.cut_back.new.out.items c.args.packet.now (kept_fact c.cut_back.result done.result _ c.cut_back.ensures.same done.ensures.spelled) ok
