-- The fields of the message are those that the request is made of.
use Rattle.std.proofs.Common.{sym, ap}
use Rattle.hd_base.specs.Results.{with_cause}
use Rattle.proto_fields.specs.declared.listing.FieldsFault.TheVariants as fields
use Rattle.op_headers.proofs.ReadLemmas.{was_read}
use Rattle.op_headers.proofs.ReadingLemmas.{recovery_read}
use Rattle.op_headers.proofs.op_reading.RecoveryOpMessage.read.Goals as goal

pub returns : goal.returns
returns c = sym (ap (with_cause fields.Wire) (
    recovery_read c.args.bytes.now c.in_ok-listed.listed c.decoded_recovery.result _ c.in_ok-block.block _ _ c.in_ok-targets.targets (was_read _ _ c.in_ok-listed.ensures.exact)
    c.small_under-kind.ensures.last (was_read _ _ c.in_ok-block.ensures) c.number-recovery.ensures c.number-new_length.ensures (was_read _ _ c.in_ok-targets.ensures) c.decoded_recovery.ensures))
