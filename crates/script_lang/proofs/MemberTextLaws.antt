-- The members of report lines: what they print to is read again, and what is read is what they print to.
use Rattle.std.proofs.Common.{◌≡◌, ◌==◌, ℕ, ◌^◌, ◌<◌, ◌&&◌, not, nat_le, true, false, List, [], ◌∷◌, ◌++◌, length, map, decimal, Some, refl, sym, ◌∙◌, ap, subst, arith}
use Rattle.std.specs.List.{list_all, AllByRecursion}
use Rattle.std.proofs.lemmas.Bool.{and_parts, leb-true}
use Rattle.std.proofs.lemmas.Bool.Decides.{nat_tests}
use Rattle.hd_base.proofs.OptionLaws.{bind_some, bind-Some}
use Rattle.hd_base.specs.Lists.{AllDistinct}
use Rattle.hd_base.specs.Numerals.{is_digit}
use Rattle.hd_base.proofs.BlockLaws.{all_digits, all_digits-decimal, number_at-decimal}
use Rattle.hd_base.specs.Blocks.{number_at}
use Rattle.hd_base.specs.declared.numbers.NodeId.{NodeId}
use Rattle.script_lang.specs.Words.{parts_of, is_nothing}
use Rattle.script_lang.specs.Numbers.{are_distinct}
use Rattle.script_lang.specs.Reports.{listed, members_text}
use Rattle.script_lang.specs.ReportReading.{nodes_of, numbers_in, few_distinct, items_named, members_of, IsMembers}
use Rattle.script_lang.proofs.NumberLaws.{distinct_nodes, distinct_numbers}
use Rattle.script_lang.proofs.MemberLaws.{same_nodes}
use Rattle.script_lang.proofs.WordLaws.{is_free_of, parts_of-some}
use Rattle.script_lang.proofs.ReportLaws.{behind_each, parts_whole, parts_of-words}
use Rattle.script_lang.proofs.FieldLaws.{some_value, none_some, test_some, nodes_front, nodes_again}

-- ---- digits and separators

digit_free : (s c : ℕ) → is_digit s ≡ false → is_digit c ≡ true → not (c == s) ≡ true
digit_free s c bare digit = grind (arith, nat_tests)

digits_free : (s : ℕ) (ds : List ℕ) → is_digit s ≡ false → all_digits ds ≡ true → is_free_of s ds ≡ true
digits_free s [] bare all = refl
digits_free s (c ∷ cs) bare all =
    let both = and_parts (is_digit c) (all_digits cs) all in
    let first : not (c == s) ≡ true = digit_free s c bare both.0 in
    rw first (digits_free s cs bare both.1)

pub decimal_free : (s n : ℕ) → is_digit s ≡ false → n < 2 ^ 64 → is_free_of s (decimal n) ≡ true
decimal_free s n bare fits = digits_free s (decimal n) bare (all_digits-decimal n fits)

-- ---- members

read_some : (w : List ℕ) (n : ℕ) → number_at (w ++ []) ≡ Some (n, []) → 0 < length w
read_some [] n e = absurd (none_some (n, []) e)
read_some (c ∷ w) n e = omega arith

some_digits : (n : ℕ) → n < 2 ^ 64 → 0 < length (decimal n)
some_digits n fits = read_some (decimal n) n (number_at-decimal n [] fits tt)

listed_is : (nodes : List NodeId) → listed nodes ≡ behind_each 44 (map (λ n. decimal n.0) nodes)
listed_is [] = refl
listed_is (n ∷ nodes) = ap (λ l. 44 ∷ (decimal n.0 ++ l)) (listed_is nodes)

nodes_free : (s : ℕ) (nodes : List NodeId) → is_digit s ≡ false → AllByRecursion (λ n. n.0 < 2 ^ 32) nodes → list_all (is_free_of s) (map (λ n. decimal n.0) nodes) ≡ true
nodes_free s [] bare all = refl
nodes_free s (n ∷ nodes) bare all =
    let wide : n.0 < 2 ^ 64 = omega (arith, all.0) in
    let first : is_free_of s (decimal n.0) ≡ true = decimal_free s n.0 bare wide in
    rw first (nodes_free s nodes bare all.1)

kept_nodes : (nodes : List NodeId) → IsMembers nodes → few_distinct nodes ≡ Some nodes
kept_nodes nodes m =
    let few : nat_le (length nodes) 16 ≡ true = grind (arith, nat_tests, m.few) in
    let distinct : are_distinct (numbers_in nodes) ≡ true = distinct_numbers (numbers_in nodes) (subst AllDistinct (sym (same_nodes nodes)) m.distinct) in
    rw few (rw distinct refl)

something : (s : ℕ) (w rest : List ℕ) (ws : List (List ℕ)) → 0 < length w → is_nothing (w ++ rest) ≡ false
something s [] rest ws some = absurd (omega arith)
something s (c ∷ w) rest ws some = refl

pub members_again : (nodes : List NodeId) → IsMembers nodes → members_of (members_text nodes) ≡ Some nodes
unfolding members_of items_named
members_again [] m = refl
members_again (n ∷ nodes) m =
    let wide : n.0 < 2 ^ 64 = omega (arith, m.each.0) in
    let text : List ℕ = decimal n.0 ++ listed nodes in
    let some : is_nothing text ≡ false = something 44 (decimal n.0) (listed nodes) [] (some_digits n.0 wide) in
    let parts : parts_of 44 text ≡ map (λ k. decimal k.0) (n ∷ nodes) = ap (λ l. parts_of 44 (decimal n.0 ++ l)) (listed_is nodes) ∙ parts_of-words 44 (decimal n.0) (map (λ k. decimal k.0) nodes) (decimal_free 44 n.0 refl wide) (nodes_free 44 nodes refl m.each.1) in
    rw some (bind-Some (nodes_of (parts_of 44 text)) few_distinct (n ∷ nodes) (ap nodes_of parts ∙ nodes_again (n ∷ nodes) m.each) ∙ kept_nodes (n ∷ nodes) m)

items_front : (text : List ℕ) (nodes : List NodeId) → items_named text ≡ Some nodes → (text ≡ members_text nodes) × IsMembers nodes
unfolding items_named
items_front text nodes e =
    let all = bind_some (nodes_of (parts_of 44 text)) few_distinct nodes e in
    let t = test_some (nat_le (length all.0) 16 && are_distinct (numbers_in all.0)) all.0 nodes all.1.1 in
    let both = and_parts (nat_le (length all.0) 16) (are_distinct (numbers_in all.0)) t.0 in
    let f = nodes_front (parts_of 44 text) all.0 all.1.0 in
    let m : IsMembers all.0 = record { few = leb-true (length all.0) 16 both.0; distinct = subst AllDistinct (same_nodes all.0) (distinct_nodes (numbers_in all.0) both.1); each = f.1 } in
    subst (λ ns. (text ≡ members_text ns) × IsMembers ns) t.1 (whole all.0 f.0, m) where
      whole : (ns : List NodeId) → parts_of 44 text ≡ map (λ n. decimal n.0) ns → text ≡ members_text ns
      whole [] e = let p = parts_of-some 44 text in absurd (cons_nil p.0 p.1.0 (sym p.1.1 ∙ e)) where
        cons_nil : (x : List ℕ) (xs : List (List ℕ)) → x ∷ xs ≡ [] → ⊥
        cons_nil x xs e = cc
      whole (n ∷ ns) e = parts_whole 44 text (decimal n.0) (map (λ n. decimal n.0) ns) e ∙ ap (λ l. decimal n.0 ++ l) (sym (listed_is ns))

pub members_front : (text : List ℕ) (nodes : List NodeId) → members_of text ≡ Some nodes → (text ≡ members_text nodes) × IsMembers nodes
unfolding members_of
members_front [] nodes e =
    let same : [] ≡ nodes = some_value [] nodes e in
    let none : IsMembers [] = record { few = omega arith; distinct = λ i j d h k. absurd (omega arith); each = tt } in
    subst (λ ns. ([] ≡ members_text ns) × IsMembers ns) same (refl, none)
members_front (c ∷ cs) nodes e = items_front (c ∷ cs) nodes e

-- no space stands between members
append_free : (s : ℕ) (a b : List ℕ) → is_free_of s a ≡ true → is_free_of s b ≡ true → is_free_of s (a ++ b) ≡ true
append_free s [] b e f = f
append_free s (c ∷ a) b e f =
    let both = and_parts (not (c == s)) (is_free_of s a) e in
    let first : not (c == s) ≡ true = both.0 in
    rw first (append_free s a b both.1 f)

listed_free : (nodes : List NodeId) → AllByRecursion (λ n. n.0 < 2 ^ 32) nodes → is_free_of 32 (listed nodes) ≡ true
listed_free [] all = refl
listed_free (n ∷ nodes) all =
    let wide : n.0 < 2 ^ 64 = omega (arith, all.0) in
    append_free 32 (decimal n.0) (listed nodes) (decimal_free 32 n.0 refl wide) (listed_free nodes all.1)

pub members_free : (nodes : List NodeId) → IsMembers nodes → is_free_of 32 (members_text nodes) ≡ true
members_free [] m = refl
members_free (n ∷ nodes) m =
    let wide : n.0 < 2 ^ 64 = omega (arith, m.each.0) in
    append_free 32 (decimal n.0) (listed nodes) (decimal_free 32 n.0 refl wide) (listed_free nodes m.each.1)
