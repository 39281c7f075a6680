-- Item by item, and all of them at the end.
use Rattle.std.proofs.Common.{◌≡◌, ℕ, ◌≤◌, arith, List, ◌∷◌, Option, Some, None, Bor, take, length, sym, ◌∙◌, ap}
use Rattle.std.proofs.lemmas.Grind.{common_steps}
use Rattle.script_lang.specs.Words.{parts_of, IsFirstPart}
use Rattle.script_lang.specs.ReportReading.{nodes_of, items_named}
use Rattle.script_lang.proofs.ItemLaws.{left_of}
use Rattle.script_lang.proofs.MemberLaws.{with_front, no_node, too_many, all_named}
use Rattle.script_lang.proofs.report_reading.named_members.Goals as goal

-- the items that were left are the next one and those behind it
left_is : (rest : Option (Bor (List ℕ))) (text item : List ℕ) (behind : Option (Bor (List ℕ))) → left_of rest ≡ parts_of 44 text → IsFirstPart 44 text item behind → left_of rest ≡ item ∷ left_of behind
left_is rest text item None e f = e ∙ f
left_is rest text item (Some r) e f = e ∙ f

pub returns-in_err-node : goal.returns-in_err-node
unfolding items_named
returns-in_err-node c =
    let left = left_is c.items.rest c.in-Some.text.now c.split_part.result.0.now c.split_part.result.1 (ap left_of c.in-Some.is) c.split_part.ensures.first in
    c.from_residual.ensures ∙ sym (no_node (take c.items.count c.items.named) (nodes_of (parts_of 44 c.args.text.now)) _ c.split_part.result.0.now (left_of c.split_part.result.1) c.items.invariant.kept left (sym c.in_err-node.ensures))

pub returns-then-count-eq-MAX_MEMBERS : goal.returns-then-count-eq-MAX_MEMBERS
unfolding items_named
returns-then-count-eq-MAX_MEMBERS c =
    let left = left_is c.items.rest c.in-Some.text.now c.split_part.result.0.now c.split_part.result.1 (ap left_of c.in-Some.is) c.split_part.ensures.first in
    sym (too_many (take c.items.count c.items.named) (nodes_of (parts_of 44 c.args.text.now)) _ c.split_part.result.0.now (left_of c.split_part.result.1) c.in_ok-node.node c.items.invariant.kept left (sym c.in_ok-node.ensures) (grind (arith, common_steps, c.items.invariant.room, c.if-count-eq-MAX_MEMBERS.true)))

pub returns : goal.returns
unfolding items_named
returns c =
    let kept = ap (λ r. with_front (take c.items.count c.items.named) (nodes_of (left_of r))) (sym c.in_default.is) ∙ c.items.invariant.kept in
    let few : length (take c.items.count c.items.named) ≤ 16 = grind (arith, common_steps, c.items.invariant.room, c.items.invariant.few) in
    all_named (take c.items.count c.items.named) (nodes_of (parts_of 44 c.args.text.now)) c.new.result kept few c.new.ensures.made c.new.ensures.value
