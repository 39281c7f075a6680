-- Item by item, and all of them at the end.
use Rattle.std.proofs.Common.{◌≡◌, ℕ, ◌+◌, ◌<◌, List, [], ◌∷◌, ◌++◌, length, take, set, refl, Option, Some, None, Bor, sym, ◌∙◌, ap, subst, arith, add-one}
use Rattle.std.proofs.Math.Seq.{take-suc-set}
use Rattle.std.proofs.lemmas.Grind.{common_steps}
use Rattle.script_lang.specs.declared.faults.BadKind.TheVariants as kind
use Rattle.script_lang.specs.Words.{items_of, IsFirstPart}
use Rattle.script_lang.specs.Numbers.{is_member}
use Rattle.script_lang.proofs.ItemLaws.{left_of, Keeps, too_many, one_more, all_kept}
use Rattle.script_lang.proofs.RuleLaws.{rule_ok}
use Rattle.script_lang.proofs.numbers.named_members.Goals as goal

-- the items that were left are the next one and those behind it
left_is : (rest : Option (Bor (List ℕ))) (text item : List ℕ) (behind : Option (Bor (List ℕ))) → left_of rest ≡ items_of text → IsFirstPart 44 text item behind → left_of rest ≡ item ∷ left_of behind
left_is rest text item None e f = e ∙ f
left_is rest text item (Some r) e f = e ∙ f

pub returns-then-count-eq-MAX_MEMBERS : goal.returns-then-count-eq-MAX_MEMBERS
returns-then-count-eq-MAX_MEMBERS c =
    let K : List (List ℕ) → Type 0 = λ l. Keeps c.args.nodes c.items.count c.args.word.now (take c.items.count c.items.named) l in
    let left = left_is c.items.rest c.in-Some.text.now c.split_part.result.0.now c.split_part.result.1 (ap left_of c.in-Some.is) c.split_part.ensures.first in
    let no = too_many c.args.nodes c.items.count c.args.word.now _ _ _ (subst K left c.items.invariant.keeps) c.if-count-eq-MAX_MEMBERS.true in
    rw no refl

pub items-preserved : goal.items-preserved
items-preserved c =
    let K : List (List ℕ) → Type 0 = λ l. Keeps c.args.nodes c.items.count c.args.word.now (take c.items.count c.items.named) l in
    let left = left_is c.items.rest c.in-Some.text.now c.split_part.result.0.now c.split_part.result.1 (ap left_of c.in-Some.is) c.split_part.ensures.first in
    let member = rule_ok kind.Member (is_member c.args.nodes c.split_part.result.0.now) _ _ c.in_ok-member.ensures in
    let more = one_more c.args.nodes c.items.count c.args.word.now _ _ _ (subst K left c.items.invariant.keeps) member.0 in
    let here : c.items.count < length c.items.named = grind (arith, common_steps, c.items.invariant.room) in
    let put : take (c.items.count + 1) (set c.items.named c.items.count c.in_ok-member.member) ≡ take c.items.count c.items.named ++ c.in_ok-member.member ∷ [] = rw add-one (take-suc-set c.items.named c.items.count c.in_ok-member.member here) in
    record {
      keeps = subst (λ l. Keeps c.args.nodes (c.items.count + 1) c.args.word.now l (left_of c.split_part.result.1)) (ap (λ n. take c.items.count c.items.named ++ n ∷ []) member.1 ∙ sym put) more;
      few = grind (arith, common_steps);
      room = grind (arith, common_steps, c.items.invariant.room);
    }

pub returns : goal.returns
returns c =
    let K : List (List ℕ) → Type 0 = λ l. Keeps c.args.nodes c.items.count c.args.word.now (take c.items.count c.items.named) l in
    let whole = subst K (ap left_of c.in_default.is) c.items.invariant.keeps in
    c.ok_or.ensures.value ∙ all_kept c.args.nodes c.items.count c.args.word.now (take c.items.count c.items.named) c.new.result whole c.items.invariant.few c.new.ensures.made c.new.ensures.value
