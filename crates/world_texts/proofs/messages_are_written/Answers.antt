use Rattle.world_texts.proofs.AllWritten.{all-written}
use Rattle.world_texts.proofs.messages_are_written.Goals as goal

pub returns : goal.returns
returns c nodes events fit left = all-written nodes events fit left
