-- What was written is read again.
use Rattle.std.proofs.Common.{arith}
use Rattle.proto_fields.proofs.WrittenLemmas.{kept_ok, part_again}
use Rattle.proto_fields.proofs.writing.put_bytes.Goals as goal

pub returns-clause-again : goal.returns-clause-again
returns-clause-again c =
    let old = c.args.out.now.items in
    let ok = kept_ok c.cut_back.result c.push_bytes-done.result old c.push_bytes-done.new.out.items c.cut_back.new.out.items _ c.cut_back.ensures.same c.push_bytes-done.ensures.ok c.cut_back.ensures.ok in
    part_again c.cut_back.result old c.cut_back.new.out.items c.args.field c.args.value.now c.requires.least c.requires.most (omega arith) ok
