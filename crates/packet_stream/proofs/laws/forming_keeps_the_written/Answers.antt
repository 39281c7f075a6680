-- The lemmas of streams.
use Rattle.packet_stream.proofs.StreamLemmas.{begun_written, wrote_written, formed_written, formed_is, begun_is, wrote_is, fill_length, greatest_past, sync_formed_is, last_formed_is, oldest_acked_is}
use Rattle.packet_stream.proofs.laws.forming_keeps_the_written.Goals as goal

pub returns-clause-begun : goal.returns-clause-begun
returns-clause-begun c = begun_written

pub returns-clause-wrote : goal.returns-clause-wrote
returns-clause-wrote c = wrote_written

pub returns-clause-formed : goal.returns-clause-formed
returns-clause-formed c = formed_written
