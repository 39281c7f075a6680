-- The lemmas of packets' lengths.
use Rattle.packet_stream.proofs.CarryLemmas.{next_is_short, next_within_chunk}
use Rattle.packet_stream.proofs.laws.packets_are_short.Goals as goal

pub returns-clause-bytes : goal.returns-clause-bytes
returns-clause-bytes c = next_is_short

pub returns-clause-amid : goal.returns-clause-amid
returns-clause-amid c = next_within_chunk
