use Rattle.reader_events.proofs.MakeLaws.{readers-make}
use Rattle.reader_events.proofs.laws.readers_make.Goals as goal

pub returns : goal.returns
returns c = readers-make
