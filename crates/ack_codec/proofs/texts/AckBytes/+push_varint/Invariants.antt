-- Each byte takes seven bits.
use Rattle.ack_codec.proofs.texts.AckBytes.+push_varint.Given as goal

abbrev pub decreases-push_varint : goal.decreases-push_varint
decreases-push_varint l = l.value
