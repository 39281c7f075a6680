-- The lemmas of packets and the bytes written.
use Rattle.packet_stream.proofs.CarryLemmas.{begun_carries, wrote_carries, formed_carries, next_is_piece, start_near, acked_carries}
use Rattle.packet_stream.proofs.laws.packets_carry_the_written.Goals as goal

pub returns-clause-begun : goal.returns-clause-begun
returns-clause-begun c = begun_carries

pub returns-clause-wrote : goal.returns-clause-wrote
returns-clause-wrote c = wrote_carries

pub returns-clause-formed : goal.returns-clause-formed
returns-clause-formed c = formed_carries

pub returns-clause-packet : goal.returns-clause-packet
returns-clause-packet c = next_is_piece

pub returns-clause-near : goal.returns-clause-near
returns-clause-near c = start_near

pub returns-clause-acked : goal.returns-clause-acked
returns-clause-acked c = acked_carries
