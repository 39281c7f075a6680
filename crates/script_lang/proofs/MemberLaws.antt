-- The members of a report line, one after the other.
use Rattle.std.proofs.Common.{◌≡◌, ℕ, ◌≤◌, nat_le, true, false, List, [], ◌∷◌, ◌++◌, length, map, Option, Some, None, IsSome, IfSome, ◌↔◌, refl, sym, ◌∙◌, ap, subst, arith, append-nil, length-append}
use Rattle.std.proofs.lemmas.Bool.Decides.{nat_tests}
use Rattle.hd_base.specs.Options.{◌>>=◌}
use Rattle.hd_base.specs.Lists.{AllDistinct}
use Rattle.hd_base.specs.declared.numbers.NodeId.{NodeId}
use Rattle.script_lang.specs.Numbers.{node, are_distinct}
use Rattle.script_lang.specs.ReportReading.{node_of, nodes_of, numbers_in, few_distinct}
use Rattle.script_lang.proofs.NumberLaws.{distinct_nodes, distinct_numbers, unless}

-- nodes behind those that were kept before
abbrev pub with_front : List NodeId → Option (List NodeId) → Option (List NodeId)
with_front front None = None
with_front front (Some nodes) = Some (front ++ nodes)

none_named : (all : Option (List NodeId)) → None ≡ all → (all >>= few_distinct) ≡ None
none_named all e = ap (λ o. o >>= few_distinct) (sym e)

-- an item that is no node
pub no_node : (front : List NodeId) (all : Option (List NodeId)) (left : List (List ℕ)) (item : List ℕ) (more : List (List ℕ)) → with_front front (nodes_of left) ≡ all → left ≡ item ∷ more → node_of item ≡ None → (all >>= few_distinct) ≡ None
no_node front all left item more kept e none =
    let first : nodes_of (item ∷ more) ≡ None = ap (λ o. o >>= (λ first. nodes_of more >>= (λ others. Some (first ∷ others)))) none in
    none_named all (sym (ap (with_front front) (ap nodes_of e ∙ first)) ∙ kept)

not_few : (nodes : List NodeId) → nat_le (length nodes) 16 ≡ false → few_distinct nodes ≡ None
not_few nodes e = rw e refl

-- 16 nodes, and one more item
pub too_many : (front : List NodeId) (all : Option (List NodeId)) (left : List (List ℕ)) (item : List ℕ) (more : List (List ℕ)) (n : NodeId) → with_front front (nodes_of left) ≡ all → left ≡ item ∷ more → node_of item ≡ Some n → length front ≡ 16 → (all >>= few_distinct) ≡ None
too_many front all left item more n kept e is full = at (nodes_of more) (sym (ap (with_front front) (ap nodes_of e ∙ ap (λ o. o >>= (λ first. nodes_of more >>= (λ others. Some (first ∷ others)))) is)) ∙ kept) where
  at : (o : Option (List NodeId)) → with_front front (o >>= (λ others. Some (n ∷ others))) ≡ all → (all >>= few_distinct) ≡ None
  at None k = none_named all k
  at (Some others) k =
      let many : nat_le (length (front ++ n ∷ others)) 16 ≡ false = grind (arith, nat_tests, length-append front (n ∷ others)) in
      ap (λ o. o >>= few_distinct) (sym k) ∙ not_few (front ++ n ∷ others) many

pub same_nodes : (nodes : List NodeId) → map node (numbers_in nodes) ≡ nodes
same_nodes [] = refl
same_nodes (n ∷ nodes) = ap (λ l. n ∷ l) (same_nodes nodes)

none_some : IsSome {T = List NodeId} None → ⊥
none_some e = absurd (let f : false ≡ true = e in cc)

-- all items were nodes
pub all_named : (front : List NodeId) (all : Option (List NodeId)) (o : Option (List NodeId)) → with_front front (Some []) ≡ all → length front ≤ 16 → (IsSome o ↔ ((length front ≤ 16) × AllDistinct front)) → IfSome o (λ members. members ≡ front) → o ≡ (all >>= few_distinct)
all_named front all o kept few made value = at o made value ∙ ap (λ o. o >>= few_distinct) (ap Some (sym (append-nil front)) ∙ kept) where
  short : nat_le (length front) 16 ≡ true
  short = grind (arith, nat_tests)

  at : (o : Option (List NodeId)) → (IsSome o ↔ ((length front ≤ 16) × AllDistinct front)) → IfSome o (λ members. members ≡ front) → o ≡ few_distinct front
  at (Some members) made value =
      let distinct : are_distinct (numbers_in front) ≡ true = distinct_numbers (numbers_in front) (subst AllDistinct (sym (same_nodes front)) (made.0 refl).1) in
      rw short (rw distinct (ap Some value))
  at None made value =
      let apart : are_distinct (numbers_in front) ≡ false = unless (are_distinct (numbers_in front)) (λ e. none_some (made.1 (few, subst AllDistinct (same_nodes front) (distinct_nodes (numbers_in front) e)))) in
      rw short (rw apart refl)
