-- The fields of the message are those that the request is made of.
use Rattle.std.proofs.Common.{sym, ap}
use Rattle.std.proofs.lemmas.Result.{err_from_is_err_and}
use Rattle.hd_base.specs.Results.{with_cause}
use Rattle.proto_fields.specs.declared.listing.FieldsFault.TheVariants as fields
use Rattle.op_headers.proofs.ReadLemmas.{was_read, fails_whole}
use Rattle.op_headers.proofs.ReadingLemmas.{write_read, write_fault}
use Rattle.op_headers.proofs.op_reading.WriteOpMessage.read.Goals as goal

pub returns : goal.returns
returns c = sym (ap (with_cause fields.Wire) (
    write_read c.args.bytes.now c.in_ok-listed.listed c.decoded_write.result c.in_ok-header.header c.in_ok-targets.targets c.in_ok-source.source _ _ _ _ _ c.in_ok-checksum.checksum (was_read _ _ c.in_ok-listed.ensures.exact)
    (was_read _ _ c.in_ok-header.ensures) (was_read _ _ c.in_ok-targets.ensures) (was_read _ _ c.in_ok-source.ensures)
    c.small_under.ensures.last c.small_under-2.ensures.last c.number.ensures c.number-2.ensures c.number-3.ensures
    (was_read _ _ c.in_ok-checksum.ensures) c.decoded_write.ensures))

pub returns-in_err-checksum : goal.returns-in_err-checksum
returns-in_err-checksum c =
    let p = err_from_is_err_and c.from_residual-in_err-checksum.result c.from_residual-in_err-checksum.ensures.1 in
    rw (p.1, p.2)
    (fails_whole _ _ _ (λ d k. write_fault c.args.bytes.now c.in_ok-listed.listed c.in_ok-header.header c.in_ok-targets.targets c.in_ok-source.source d (was_read _ _ c.in_ok-listed.ensures.exact)
    (was_read _ _ c.in_ok-header.ensures) (was_read _ _ c.in_ok-targets.ensures) (was_read _ _ c.in_ok-source.ensures) k) c.in_err-checksum.ensures)
