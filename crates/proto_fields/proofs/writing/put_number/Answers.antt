-- What was written is read again, and no spelling is shorter.
use Rattle.std.proofs.Common.{arith}
use Rattle.proto_fields.proofs.VarintLemmas.{least_varint_least}
use Rattle.proto_fields.proofs.WrittenLemmas.{kept_ok, number_again}
use Rattle.proto_fields.proofs.writing.put_number.Goals as goal

pub returns-clause-again : goal.returns-clause-again
returns-clause-again c =
    let old = c.args.out.now.items in
    let ok = kept_ok c.cut_back.result c.push_number-done.result old c.push_number-done.new.out.items c.cut_back.new.out.items _ c.cut_back.ensures.same c.push_number-done.ensures.ok c.cut_back.ensures.ok in
    number_again c.cut_back.result old c.cut_back.new.out.items c.args.value (omega arith) ok

pub returns-clause-least : goal.returns-clause-least
returns-clause-least c = λ text s. least_varint_least text c.args.value s
