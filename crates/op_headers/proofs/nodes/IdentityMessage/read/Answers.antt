-- The fields of the message are those that the node is made of.
use Rattle.hd_base.proofs.ResultLaws.{ok_value}
use Rattle.std.proofs.Common.{sym, ap}
use Rattle.hd_base.specs.Results.{with_cause}
use Rattle.proto_fields.specs.declared.listing.FieldsFault.TheVariants as fields
use Rattle.op_headers.proofs.ReadLemmas.{was_read}
use Rattle.op_headers.proofs.ReadingLemmas.{identity_read}
use Rattle.op_headers.proofs.nodes.IdentityMessage.read.Goals as goal

pub returns : goal.returns
returns c = sym (ap (with_cause fields.Wire) (
    identity_read c.args.bytes.now c.in_ok-listed.listed c.decoded_identity.result c.in_ok-ip.ip c.in_ok-host.host c.in_ok-uuid.uuid _ _ _ (was_read _ _ c.in_ok-listed.ensures.exact)
    (sym c.in_ok-ip.ensures) (sym c.in_ok-host.ensures) (sym c.in_ok-uuid.ensures)
    c.small_under-xfer.ensures.last c.small_under-info.ensures.last c.small_under-ipc.ensures.last c.decoded_identity.ensures))
