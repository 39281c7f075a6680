use Rattle.reader_events.proofs.MakeLaws.{readers-send}
use Rattle.reader_events.proofs.laws.readers_send.Goals as goal

pub returns : goal.returns
returns c = readers-send
