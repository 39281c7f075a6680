-- The members that a word names are at least one and at most 16, and distinct.
use Rattle.std.proofs.Common.{suc, ◌≡◌, ◌==◌, ℕ, ◌&&◌, ◌||◌, not, nat_le, Bool, true, false, cond, List, [], ◌∷◌, length, map, refl, ◌∙◌, ap, arith}
use Rattle.std.proofs.lemmas.Bool.Decides.{nat_tests}
use Rattle.std.specs.List.{list_all, list_any}
use Rattle.std.proofs.lemmas.Bool.{and_parts}
use Rattle.hd_base.specs.declared.numbers.NodeId.{NodeId}
use Rattle.script_lang.specs.Words.{into_first, parts_of, items_of}
use Rattle.script_lang.specs.Numbers.{value_of, is_member, node, are_distinct, are_members, numbers_of, members_of}
use Rattle.play_laws.specs.World.Clients as clients

-- ONE MEMBER AT LEAST

some_first : (c : ℕ) (parts : List (List ℕ)) → (length (into_first c parts) == 0) ≡ false
some_first c [] = refl
some_first c (part ∷ parts) = grind (arith, nat_tests)

some_parts : (word : List ℕ) → (length (parts_of 44 word) == 0) ≡ false
some_parts [] = refl
some_parts (c ∷ cs) = at (c == 44) where
  at : (b : Bool) → (length (cond b ([] ∷ parts_of 44 cs) (into_first c (parts_of 44 cs))) == 0) ≡ false
  at true = grind (arith, nat_tests)
  at false = some_first c (parts_of 44 cs)

same_length : (items : List (List ℕ)) → length (map node (map value_of items)) ≡ length items
same_length [] = refl
same_length (item ∷ items) = ap suc (same_length items)

-- DISTINCT MEMBERS

any_same : (n : ℕ) (ns : List ℕ) → list_any (λ (m : NodeId). m.0 == n) (map node ns) ≡ list_any (λ (m : ℕ). m == n) ns
any_same n [] = refl
any_same n (m ∷ ns) = ap (λ (b : Bool). (m == n) || b) (any_same n ns)

distinct_same : (ns : List ℕ) → clients.are_distinct (map node ns) ≡ are_distinct ns
distinct_same [] = refl
distinct_same (n ∷ ns) = ap (λ (b : Bool). not b && clients.are_distinct (map node ns)) (any_same n ns) ∙ ap (λ (b : Bool). not (list_any (λ (m : ℕ). m == n) ns) && b) (distinct_same ns)

both_hold : (p q : Bool) → p ≡ true → q ≡ true → (p && q) ≡ true
both_hold p q e f = rw e f

-- WORDS

pub some_members : (word : List ℕ) → (length (members_of word) == 0) ≡ false
some_members word = ap (λ (n : ℕ). n == 0) (same_length (items_of word)) ∙ some_parts word

pub formed_members : (nodes : ℕ) (word : List ℕ) → are_members nodes word ≡ true → clients.are_members (members_of word) ≡ true
formed_members nodes word e =
    let both = and_parts (list_all (is_member nodes) (items_of word) && nat_le (length (items_of word)) 16) (are_distinct (numbers_of word)) e in
    let few = and_parts (list_all (is_member nodes) (items_of word)) (nat_le (length (items_of word)) 16) both.0 in
    both_hold (nat_le (length (members_of word)) 16) (clients.are_distinct (members_of word)) (ap (λ (n : ℕ). nat_le n 16) (same_length (items_of word)) ∙ few.1) (distinct_same (numbers_of word) ∙ both.1)
