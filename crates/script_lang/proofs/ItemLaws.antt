-- The items of a word, one after the other.
use Rattle.std.proofs.Common.{◌≡◌, ℕ, ◌+◌, ◌≤◌, ◌&&◌, nat_le, List, [], ◌∷◌, ◌++◌, length, map, Bool, true, false, Option, Some, None, Ok, Bor, IsSome, IfSome, ◌↔◌, refl, sym, ◌∙◌, ap, subst, arith, append_assoc, append-nil, length-append}
use Rattle.std.specs.List.{list_all}
use Rattle.std.specs.Option.{ok_or}
use Rattle.std.proofs.lemmas.Bool.{and_parts}
use Rattle.std.proofs.lemmas.Bool.Decides.{nat_tests}
use Rattle.std.proofs.lemmas.List.{map-append, length-map}
use Rattle.std.proofs.lemmas.List.Folds.{list_all-append}
use Rattle.hd_base.specs.Lists.{AllDistinct}
use Rattle.hd_base.specs.declared.numbers.NodeId.{NodeId}
use Rattle.script_lang.specs.declared.faults.BadKind.TheVariants as kind
use Rattle.script_lang.specs.Rules.{by_rules}
use Rattle.script_lang.specs.Words.{items_of}
use Rattle.script_lang.specs.Numbers.{value_of, is_item, is_member, are_members, are_distinct, numbers_of, members_of, node}
use Rattle.script_lang.proofs.NumberLaws.{distinct_nodes, distinct_numbers, unless}

-- the items that are left
abbrev pub left_of : Option (Bor (List ℕ)) → List (List ℕ)
left_of None = []
left_of (Some text) = items_of text.now

-- how much is left
abbrev pub size_of : Option (Bor (List ℕ)) → ℕ
size_of None = 0
size_of (Some text) = 1 + length text.now

-- what a loop over the items of a word keeps: those behind it were kept as nodes
pub record Keeps (nodes counted : ℕ) (word : List ℕ) (named : List NodeId) (left : List (List ℕ)) : Type 0 where
  pub front : List (List ℕ)
  pub parts : items_of word ≡ front ++ left
  pub kept : named ≡ map node (map value_of front)
  pub pass : list_all (is_member nodes) front ≡ true
  pub items : list_all is_item left ≡ true
  pub count : counted ≡ length front

none_some_test : IsSome {T = List NodeId} None → ⊥
none_some_test e = absurd (let f : false ≡ true = e in cc)

member_false : (a l d : Bool) → l ≡ false → (a && l) && d ≡ false
member_false true l d e = rw e refl
member_false false l d e = refl

-- 16 items were kept, and one more stands there
pub too_many : (nodes count : ℕ) (word : List ℕ) (named : List NodeId) (item : List ℕ) (more : List (List ℕ)) → Keeps nodes count word named (item ∷ more) → count ≡ 16 → are_members nodes word ≡ false
too_many nodes count word named item more k full =
    let many : nat_le (length (items_of word)) 16 ≡ false = grind (arith, nat_tests, ap length k.parts, length-append k.front (item ∷ more), k.count) in
    member_false (list_all (is_member nodes) (items_of word)) (nat_le (length (items_of word)) 16) (are_distinct (numbers_of word)) many

-- one more item was kept
pub one_more : (nodes count : ℕ) (word : List ℕ) (named : List NodeId) (item : List ℕ) (more : List (List ℕ)) → Keeps nodes count word named (item ∷ more) → is_member nodes item ≡ true → Keeps nodes (count + 1) word (named ++ node (value_of item) ∷ []) more
one_more nodes count word named item more k member = record {
  front = k.front ++ item ∷ [];
  parts = k.parts ∙ sym (append_assoc k.front (item ∷ []) more);
  kept = ap (λ l. l ++ node (value_of item) ∷ []) k.kept ∙ (sym (map-append node (map value_of k.front) (value_of item ∷ [])) ∙ ap (map node) (sym (map-append value_of k.front (item ∷ []))));
  pass = list_all-append (is_member nodes) k.front (item ∷ []) ∙ rw k.pass (rw member refl);
  items = (and_parts (is_item item) (list_all is_item more) k.items).1;
  count = omega (arith, length-append k.front (item ∷ []), k.count);
}

-- all items were kept
pub all_kept : (nodes count : ℕ) (word : List ℕ) (named : List NodeId) (o : Option (List NodeId)) → Keeps nodes count word named [] → count ≤ 16 → (IsSome o ↔ ((length named ≤ 16) × AllDistinct named)) → IfSome o (λ members. members ≡ named) → ok_or o kind.Member ≡ by_rules ((kind.Member, are_members nodes word) ∷ []) (members_of word)
all_kept nodes count word named o k few made value = at o made value where
  whole : items_of word ≡ k.front
  whole = k.parts ∙ append-nil k.front

  numbers : numbers_of word ≡ map value_of k.front
  numbers = ap (map value_of) whole

  test : are_members nodes word ≡ are_distinct (numbers_of word)
  test =
      let all : list_all (is_member nodes) (items_of word) ≡ true = ap (list_all (is_member nodes)) whole ∙ k.pass in
      let short : nat_le (length (items_of word)) 16 ≡ true = grind (arith, nat_tests, ap length whole, k.count) in
      rw all (rw short refl)

  named_is : named ≡ map node (numbers_of word)
  named_is = k.kept ∙ ap (map node) (sym numbers)

  at : (o : Option (List NodeId)) → (IsSome o ↔ ((length named ≤ 16) × AllDistinct named)) → IfSome o (λ members. members ≡ named) → ok_or o kind.Member ≡ by_rules ((kind.Member, are_members nodes word) ∷ []) (members_of word)
  at (Some members) made value =
      let distinct : are_distinct (numbers_of word) ≡ true = distinct_numbers (numbers_of word) (subst AllDistinct named_is (made.0 refl).1) in
      rw (test ∙ distinct) (ap Ok (value ∙ named_is))
  at None made value =
      let apart : are_distinct (numbers_of word) ≡ false = unless (are_distinct (numbers_of word)) (λ e. none_some_test (made.1 (omega (arith, ap length k.kept, length-map (map value_of k.front) node, length-map k.front value_of, k.count), subst AllDistinct (sym named_is) (distinct_nodes (numbers_of word) e)))) in
      rw (test ∙ apart) refl
