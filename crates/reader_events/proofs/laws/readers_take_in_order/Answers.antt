use Rattle.reader_events.proofs.AllInOrder.{all-in-order}
use Rattle.reader_events.proofs.laws.readers_take_in_order.Goals as goal

pub returns : goal.returns
returns c nodes events = all-in-order nodes events
