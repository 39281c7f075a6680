-- Each byte leaves one byte fewer that the varint may have.
use Rattle.proto_fields.proofs.varints.+varint_of.Given as goal

abbrev pub decreases-varint_of : goal.decreases-varint_of
decreases-varint_of l = l.left
