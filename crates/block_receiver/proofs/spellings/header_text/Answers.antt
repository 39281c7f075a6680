-- The parts stand one behind the other.
use Rattle.std.proofs.Common.{rules}
use Rattle.block_receiver.proofs.SpellingLemmas.{header_of_parts}
use Rattle.block_receiver.proofs.spellings.header_text.Goals as goal

pub returns : goal.returns
returns c = header_of_parts c.args.packet.now c.new-text.result.items c.push_places.new.text.items c.push_marks.new.text.items c.len-data_len.result c.new-text.ensures.items c.in_ok-push_places.ensures c.len-data_len.ensures.value c.in_ok-push_marks.ensures
