-- The fields of the message are those that the request is made of.
use Rattle.std.proofs.Common.{sym, ap}
use Rattle.hd_base.specs.Results.{with_cause}
use Rattle.proto_fields.specs.declared.listing.FieldsFault.TheVariants as fields
use Rattle.op_headers.proofs.ReadLemmas.{was_read}
use Rattle.op_headers.proofs.ReadingLemmas.{read_read}
use Rattle.op_headers.proofs.op_reading.ReadOpMessage.read.Goals as goal

pub returns : goal.returns
returns c = sym (ap (with_cause fields.Wire) (
    read_read c.args.bytes.now c.in_ok-listed.listed c.decoded_read.result c.in_ok-header.header _ _ (was_read _ _ c.in_ok-listed.ensures.exact)
    (was_read _ _ c.in_ok-header.ensures) c.number.ensures c.number-2.ensures c.decoded_read.ensures))
