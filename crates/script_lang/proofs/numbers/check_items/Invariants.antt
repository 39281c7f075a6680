-- The items that are left are numbers just where all are.
use Rattle.std.proofs.Common.{◌≡◌}
use Rattle.std.specs.List.{list_all}
use Rattle.script_lang.specs.Words.{items_of}
use Rattle.script_lang.specs.Numbers.{is_item}
use Rattle.script_lang.proofs.ItemLaws.{left_of, size_of}
use Rattle.script_lang.proofs.numbers.check_items.Given as goal

abbrev pub invariant-items : goal.invariant-items
invariant-items l = list_all is_item (left_of l.rest) ≡ list_all is_item (items_of l.fn.word)

abbrev pub decreases-items : goal.decreases-items
decreases-items l = size_of l.rest
