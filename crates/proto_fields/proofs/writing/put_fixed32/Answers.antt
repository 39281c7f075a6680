-- What was written is read again.
use Rattle.std.proofs.Common.{length, arith}
use Rattle.proto_fields.specs.declared.reading.Wire.TheVariants as Wire
use Rattle.proto_fields.proofs.WrittenLemmas.{kept_ok, written_again, fixed32_field_spells}
use Rattle.proto_fields.proofs.writing.put_fixed32.Goals as goal

pub returns-clause-again : goal.returns-clause-again
returns-clause-again c =
    let old = c.args.out.now.items in
    let ok = kept_ok c.cut_back.result c.push_fixed32-done.result old c.push_fixed32-done.new.out.items c.cut_back.new.out.items _ c.cut_back.ensures.same c.push_fixed32-done.ensures.ok c.cut_back.ensures.ok in
    written_again c.cut_back.result old c.cut_back.new.out.items _ (c.args.field, Wire.Four c.args.value) ok (fixed32_field_spells (length old) c.args.field c.args.value c.requires.least c.requires.most (omega arith))
