-- Files in tmp are removed.
use Rattle.std.proofs.Common.{◌≡◌, ◌⊎◌, inl, inr, ℕ, zero, suc, ◌<◌, cond, not, Bool, true, false, List, [], ◌∷◌, ◌++◌, length, get_or, Option, Some, None, IsSome, Contains, AllPairs, Ordering, Less, Equal, Greater, refl, sym, ap, subst, ◌∙◌, arith}
use Rattle.std.specs.Prelude.{filter}
use Rattle.std.specs.Ordering.{nat_cmp, is_lt, is_eq}
use Rattle.std.specs.Cmp.Lexicographic.{slice_cmp}
use Rattle.std.specs.Str.{bytes_eq}
use Rattle.std.proofs.lemmas.List.Kept.{AllPairs-filter}
use Rattle.std.proofs.lemmas.Map.Text.{is_eq-slice_cmp}
use Rattle.std.proofs.lemmas.Slice.Eq.{bytes_eq-Decides}
use Rattle.std.proofs.lemmas.Grind.{common_steps}
use Rattle.hd_base.specs.FileMaps.{FileMap, without, AreNamesOf}
use Rattle.hd_base.specs.Calls.{Call, run, effect_of}
use Rattle.hd_base.proofs.FileLaws.{bytes_eq-same}
use Rattle.file_calls.specs.Plans.{FindFiles}
use Rattle.replica_calls.specs.CallLists.{remove_list}
use Rattle.restart_scan.specs.Pairs.{is_temporary, temporary_part, without_temporary, not_temporary}

abbrev pub IsBelow : List ℕ → List ℕ → Type 0
IsBelow a b = is_lt (slice_cmp nat_cmp a b) ≡ true

less_differs : (o : Ordering) → is_lt o ≡ true → is_eq o ≡ false
less_differs Less e = refl
less_differs Equal e = cc
less_differs Greater e = refl

below_differs : (a b : List ℕ) → IsBelow a b → bytes_eq a b ≡ false
below_differs a b less = sym (is_eq-slice_cmp a b) ∙ less_differs (slice_cmp nat_cmp a b) less

-- names in ascending order that all have files are found
finds_each : (m : FileMap) (names : List (List ℕ)) → AllPairs IsBelow names → ((k : ℕ) → k < length names → IsSome (m (get_or names k []))) → FindFiles m (remove_list names)
finds_each m [] pairs some = tt
finds_each m (name ∷ names) pairs some = (
  some 0 (omega arith),
  finds_each (without m name) names
      (λ i j d before within. pairs (suc i) (suc j) d (omega (arith, before)) (omega (arith, within)))
      (λ k within.
      let differs = below_differs name (get_or names k []) (pairs 0 (suc k) [] (omega arith) (omega (arith, within))) in
      subst (λ b. IsSome (cond b None (m (get_or names k [])))) (sym differs) (some (suc k) (omega (arith, within)))),
)

true_false : true ≡ false → ⊥
true_false e = cc

-- a name that is removed, or had no file
gone : (m : FileMap) (names : List (List ℕ)) (q : List ℕ) → (m q ≡ None) ⊎ Contains names q → run (remove_list names) m q ≡ None
gone m [] q (inl none) = none
gone m [] q (inr there) = absurd (omega (arith, there.1))
gone m (name ∷ names) q there = by (λ one. gone (without m name) names q one) (bytes_eq name q) refl where
  later : (k : ℕ) → k < length (name ∷ names) → get_or (name ∷ names) k q ≡ q → bytes_eq name q ≡ false → Contains names q
  later zero within is differs = absurd (true_false (sym (bytes_eq-same q) ∙ ap (λ x. bytes_eq x q) (sym is) ∙ differs))
  later (suc k) within is differs = (k, omega (arith, within), is)

  left : (m q ≡ None) ⊎ Contains (name ∷ names) q → bytes_eq name q ≡ false → (without m name q ≡ None) ⊎ Contains names q
  left (inl none) differs = inl (ap (λ b. cond b None (m q)) differs ∙ none)
  left (inr at) differs = inr (later at.0 at.1 at.2 differs)

  by : ((without m name q ≡ None) ⊎ Contains names q → run (remove_list names) (without m name) q ≡ None) → (b : Bool) → bytes_eq name q ≡ b → run (remove_list names) (without m name) q ≡ None
  by rest true same = rest (inl (ap (λ b. cond b None (m q)) same))
  by rest false differs = rest (left there differs)

-- a name that isn't removed
stays : (m : FileMap) (names : List (List ℕ)) (q : List ℕ) → (Contains names q → ⊥) → run (remove_list names) m q ≡ m q
stays m [] q none = refl
stays m (name ∷ names) q none =
    stays (without m name) names q (λ at. none (suc at.0, omega (arith, at.1), at.2))
    ∙ ap (λ b. cond b None (m q)) (differs (bytes_eq name q) refl) where
      same_name : bytes_eq name q ≡ true → name ≡ q
      same_name e = grind (arith, common_steps, bytes_eq-Decides name q)

      differs : (b : Bool) → bytes_eq name q ≡ b → bytes_eq name q ≡ false
      differs true e = absurd (none (0, omega arith, same_name e))
      differs false e = e

-- ---- names by a test

contains_more : (p : List ℕ) (xs : List (List ℕ)) (q : List ℕ) → Contains xs q → Contains (p ∷ xs) q
contains_more p xs q at = (suc at.0, omega (arith, at.1), at.2)

filter_has : (t : List ℕ → Bool) (xs : List (List ℕ)) (q : List ℕ) → Contains xs q → t q ≡ true → Contains (filter t xs) q
filter_has t [] q at holds = absurd (omega (arith, at.1))
filter_has t (x ∷ xs) q at holds = by (λ one. filter_has t xs q one holds) at (t x) refl where
  by : (Contains xs q → Contains (filter t xs) q) → Contains (x ∷ xs) q → (b : Bool) → t x ≡ b → Contains (cond b (x ∷ filter t xs) (filter t xs)) q
  by rest (zero, within, is) true e = (0, omega arith, is)
  by rest (zero, within, is) false e = absurd (true_false (sym holds ∙ (ap t (sym is) ∙ e)))
  by rest (suc k, within, is) true e = contains_more x (filter t xs) q (rest (k, omega (arith, within), is))
  by rest (suc k, within, is) false e = rest (k, omega (arith, within), is)

filter_was : (t : List ℕ → Bool) (xs : List (List ℕ)) (q : List ℕ) → Contains (filter t xs) q → Contains xs q × (t q ≡ true)
filter_was t [] q at = absurd (omega (arith, at.1))
filter_was t (x ∷ xs) q at = by (λ one. filter_was t xs q one) (t x) refl at where
  by : (Contains (filter t xs) q → Contains xs q × (t q ≡ true)) → (b : Bool) → t x ≡ b → Contains (cond b (x ∷ filter t xs) (filter t xs)) q → Contains (x ∷ xs) q × (t q ≡ true)
  by rest true e (zero, within, is) = ((0, omega arith, is), ap t (sym is) ∙ e)
  by rest true e (suc k, within, is) = let w = rest (k, omega (arith, within), is) in (contains_more x xs q w.0, w.1)
  by rest false e at = let w = rest at in (contains_more x xs q w.0, w.1)

-- the files at whose names a test holds
pub filtered : (m g : FileMap) (t : List ℕ → Bool) (names : List (List ℕ)) → ((q : List ℕ) → g q ≡ cond (t q) (m q) None) → AreNamesOf m names → AreNamesOf g (filter t names)
filtered m g t names is are = record {
  each = λ q. (
    λ at. let w = filter_was t names q at in subst (λ o. IsSome o) (sym (is q ∙ ap (λ b. cond b (m q) None) w.1)) ((are.each q).0 w.0),
    λ there. back q (t q) refl (subst (λ o. IsSome o) (is q) there),
  );
  ascending = AllPairs-filter IsBelow t names are.ascending;
} where
  no_file : (o : Option (List ℕ)) → o ≡ None → IsSome o → ⊥
  no_file None e h = cc
  no_file (Some x) e h = cc

  back : (q : List ℕ) (b : Bool) → t q ≡ b → IsSome (cond (t q) (m q) None) → Contains (filter t names) q
  back q true e there = filter_has t names q ((are.each q).1 (subst (λ c. IsSome (cond c (m q) None)) e there)) e
  back q false e there = absurd (no_file _ (ap (λ c. cond c (m q) None) e) there)

pub temporary_names : (m : FileMap) (names : List (List ℕ)) → AreNamesOf m names → AreNamesOf (temporary_part m) (filter is_temporary names)
temporary_names m names are = filtered m (temporary_part m) is_temporary names (λ q. refl) are

pub other_names : (m : FileMap) (names : List (List ℕ)) → AreNamesOf m names → AreNamesOf (without_temporary m) (not_temporary names)
other_names m names are = filtered m (without_temporary m) (λ name. not (is_temporary name)) names (λ q. turned (is_temporary q) (m q)) are where
  turned : (b : Bool) (o : Option (List ℕ)) → cond b None o ≡ cond (not b) o None
  turned true o = refl
  turned false o = refl

-- ---- all files in tmp

pub part_some : (b : Bool) (o : Option (List ℕ)) → IsSome (cond b o None) → IsSome o
part_some true o h = h
part_some false o h = by h where
  by : IsSome (cond false o None) → IsSome o
  by h = absurd (no_file None refl h) where
    no_file : (o : Option (List ℕ)) → o ≡ None → IsSome o → ⊥
    no_file None e h = cc
    no_file (Some x) e h = cc

pub temporary_found : (m : FileMap) (names : List (List ℕ)) → AreNamesOf (temporary_part m) names → FindFiles m (remove_list names)
temporary_found m names are = finds_each m names are.ascending (λ k within.
    part_some (is_temporary (get_or names k [])) (m (get_or names k [])) ((are.each (get_or names k [])).0 (k, within, same_default names k within))) where
      same_default : (l : List (List ℕ)) (k : ℕ) → k < length l → get_or l k (get_or l k []) ≡ get_or l k []
      same_default [] k h = absurd (omega (arith, h))
      same_default (x ∷ l) zero h = refl
      same_default (x ∷ l) (suc k) h = others l k h where
        any : (l : List (List ℕ)) (k : ℕ) (d e : List ℕ) → k < length l → get_or l k d ≡ get_or l k e
        any [] k d e h = absurd (omega (arith, h))
        any (x ∷ l) zero d e h = refl
        any (x ∷ l) (suc k) d e h = any l k d e (omega (arith, h))

        others : (l : List (List ℕ)) (k : ℕ) → suc k < length (x ∷ l) → get_or l k (get_or l k []) ≡ get_or l k []
        others l k h = any l k _ _ (omega (arith, h))

pub temporary_removed : (m : FileMap) (names : List (List ℕ)) → AreNamesOf (temporary_part m) names → run (remove_list names) m ≡ without_temporary m
temporary_removed m names are = λ i q. each q i where
  some_of : (o : Option (List ℕ)) → (o ≡ None) ⊎ IsSome o
  some_of None = inl refl
  some_of (Some x) = inr refl

  each : (q : List ℕ) → run (remove_list names) m q ≡ without_temporary m q
  each q = by (is_temporary q) refl where
    no_file : (o : Option (List ℕ)) → o ≡ None → IsSome o → ⊥
    no_file None e h = cc
    no_file (Some x) e h = cc

    by : (b : Bool) → is_temporary q ≡ b → run (remove_list names) m q ≡ cond b None (m q)
    by true e = gone m names q (elim (some_of (m q)) [
      | inl none ↦ inl none
      | inr some ↦ inr ((are.each q).1 (subst (λ b. IsSome (cond b (m q) None)) (sym e) some))
    ])
    by false e = stays m names q (λ at. no_file (temporary_part m q) (ap (λ b. cond b (m q) None) e) ((are.each q).0 at))

-- ---- lists of calls, one behind the other

pub find_append : (m : FileMap) (xs ys : List Call) → FindFiles m xs → FindFiles (run xs m) ys → FindFiles m (xs ++ ys)
find_append m [] ys a b = b
find_append m (x ∷ xs) ys a b = (a.0, find_append (effect_of x m) xs ys a.1 b)

pub run_append : (xs ys : List Call) (m : FileMap) → run (xs ++ ys) m ≡ run ys (run xs m)
run_append [] ys m = refl
run_append (x ∷ xs) ys m = run_append xs ys (effect_of x m)
