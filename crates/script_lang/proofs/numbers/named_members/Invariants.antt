-- The items so far are kept as nodes, in order.
use Rattle.std.proofs.Common.{◌≡◌, ◌≤◌, take, length}
use Rattle.script_lang.proofs.ItemLaws.{left_of, size_of, Keeps}
use Rattle.script_lang.proofs.numbers.named_members.Given as goal

abbrev pub invariant-items : goal.invariant-items
invariant-items l = record { keeps : Keeps l.nodes l.count l.word (take l.count l.named) (left_of l.rest); few : l.count ≤ 16; room : length l.named ≡ 16 }

abbrev pub decreases-items : goal.decreases-items
decreases-items l = size_of l.rest
