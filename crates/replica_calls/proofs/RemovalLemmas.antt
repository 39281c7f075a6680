-- The removal of files by their names.
use Rattle.std.proofs.Common.{◌≡◌, ◌⊎◌, inl, inr, ℕ, zero, suc, ◌+◌, ◌<◌, ◌≤◌, cond, Bool, true, false, List, [], ◌∷◌, length, drop, get_or, Option, Some, None, IsSome, Result, Ok, Err, Contains, AllPairs, Ordering, Less, Equal, Greater, refl, sym, ap, subst, ◌∙◌, arith, add-one}
use Rattle.std.proofs.lemmas.List.{drop_all}
use Rattle.std.proofs.Math.Seq.{drop-cons}
use Rattle.std.proofs.lemmas.Map.Text.{is_eq-slice_cmp}
use Rattle.std.specs.Ordering.{nat_cmp, is_lt, is_eq}
use Rattle.std.specs.Cmp.Lexicographic.{slice_cmp}
use Rattle.std.specs.Str.{bytes_eq}
use Rattle.hd_base.specs.FileMaps.{FileMap, no_files, without, AreNamesOf}
use Rattle.hd_base.specs.Calls.{Call, Remove, run}
use Rattle.hd_base.specs.declared.files.Files as files
use Rattle.hd_base.specs.declared.files.FileError.{FileError}
use Rattle.hd_base.proofs.FileLaws.{bytes_eq-same}
use Rattle.file_calls.specs.Plans.{FindFiles}
use Rattle.replica_calls.specs.Performed.{IsReady, Performs}
use Rattle.replica_calls.specs.CallLists.{remove_list}
use Rattle.replica_calls.specs.Laws.{StraysAreRemoved}
use Rattle.replica_calls.proofs.PerformLemmas.{ready_front, ready_next, performs_none, performs_fails, performs_then}

-- ---- one after another

-- So many are removed: what is done of the others completes the list.
pub record IsRemoving {F : Type 0} (f : files.Ghosts F) (first now : F) (i : ℕ) (names : List (List ℕ)) : Type 0 where
  pub ready : IsReady f now (remove_list (drop i names))
  pub whole : (new : F) (r : Result (Unit {0}) FileError) → Performs f now new (remove_list (drop i names)) r → Performs f first new (remove_list names) r

pub removing_starts : {F : Type 0} (f : files.Ghosts F) (a : F) (names : List (List ℕ)) → IsReady f a (remove_list names) → IsRemoving f a a 0 names
removing_starts f a names ready = record { ready = ready; whole = λ new r made. made }

next_name : (names : List (List ℕ)) (i : ℕ) (name : List ℕ) → i < length names → name ≡ get_or names i name → remove_list (drop i names) ≡ Remove name ∷ remove_list (drop (i + 1) names)
next_name names i name within is =
    let next : drop i names ≡ get_or names i name ∷ drop (i + 1) names = rw (add-one) (drop-cons names i name within) in
    ap remove_list next ∙ ap (λ n. Remove n ∷ remove_list (drop (i + 1) names)) (sym is)

pub removing_ready : {F : Type 0} (f : files.Ghosts F) (a b : F) (i : ℕ) (names : List (List ℕ)) (name : List ℕ) → IsRemoving f a b i names → i < length names → name ≡ get_or names i name
    → IsReady f b (Remove name ∷ [])
removing_ready f a b i names name so_far within is =
    ready_front f b (Remove name ∷ []) (remove_list (drop (i + 1) names)) (subst (IsReady f b) (next_name names i name within is) so_far.ready)

pub removing_next : {F : Type 0} (f : files.Ghosts F) (a b c : F) (i : ℕ) (names : List (List ℕ)) (name : List ℕ) (u : Unit {0}) → IsRemoving f a b i names → i < length names → name ≡ get_or names i name
    → Performs f b c (Remove name ∷ []) (Ok u) → IsRemoving f a c (i + 1) names
removing_next f a b c i names name u so_far within is made =
    let next = next_name names i name within is in
    let rest = remove_list (drop (i + 1) names) in
    record {
      ready = ready_next f b c (Remove name ∷ []) rest u (subst (IsReady f b) next so_far.ready) made;
      whole = λ new r more. so_far.whole new r (subst (λ (l : List Call). Performs f b new l r) (sym next) (performs_then f b c new (Remove name ∷ []) rest u r made more));
    }

pub removing_fails : {F : Type 0} (f : files.Ghosts F) (a b c : F) (i : ℕ) (names : List (List ℕ)) (name : List ℕ) (e : FileError) → IsRemoving f a b i names → i < length names → name ≡ get_or names i name
    → Performs {T = Unit {0}} f b c (Remove name ∷ []) (Err e) → Performs {T = Unit {0}} f a c (remove_list names) (Err e)
removing_fails f a b c i names name e so_far within is made =
    so_far.whole c (Err e) (subst (λ (l : List Call). Performs {T = Unit {0}} f b c l (Err e)) (sym (next_name names i name within is)) (performs_fails f b c (Remove name ∷ []) (remove_list (drop (i + 1) names)) e made))

pub removing_ends : {F : Type 0} (f : files.Ghosts F) (a b : F) (i : ℕ) (names : List (List ℕ)) (u : Unit {0}) → IsRemoving f a b i names → length names ≤ i → Performs f a b (remove_list names) (Ok u)
removing_ends f a b i names u so_far all =
    so_far.whole b (Ok u) (subst (λ (l : List (List ℕ)). Performs f b b (remove_list l) (Ok u)) (sym (drop_all i names all)) (performs_none f b u))

-- ---- strays

abbrev IsBelow : List ℕ → List ℕ → Type 0
IsBelow a b = is_lt (slice_cmp nat_cmp a b) ≡ true

less_differs : (o : Ordering) → is_lt o ≡ true → is_eq o ≡ false
less_differs Less e = refl
less_differs Equal e = cc
less_differs Greater e = refl

below_differs : (a b : List ℕ) → IsBelow a b → bytes_eq a b ≡ false
below_differs a b less = sym (is_eq-slice_cmp a b) ∙ less_differs (slice_cmp nat_cmp a b) less

-- names in ascending order that all have files
finds_all : (m : FileMap) (names : List (List ℕ)) → AllPairs IsBelow names → ((k : ℕ) → k < length names → IsSome (m (get_or names k []))) → FindFiles m (remove_list names)
finds_all m [] pairs some = tt
finds_all m (name ∷ names) pairs some = (
  some 0 (omega arith),
  finds_all (without m name) names
      (λ i j d before within. pairs (suc i) (suc j) d (omega (arith, before)) (omega (arith, within)))
      (λ k within.
      let differs = below_differs name (get_or names k []) (pairs 0 (suc k) [] (omega arith) (omega (arith, within))) in
      subst (λ b. IsSome (cond b None (m (get_or names k [])))) (sym differs) (some (suc k) (omega (arith, within)))),
)

-- a name that is removed, or had no file
gone : (m : FileMap) (names : List (List ℕ)) (q : List ℕ) → (m q ≡ None) ⊎ Contains names q → run (remove_list names) m q ≡ None
gone m [] q (inl none) = none
gone m [] q (inr there) = absurd (omega (arith, there.1))
gone m (name ∷ names) q there =
    elim (bytes_eq name q) as (λ b. bytes_eq name q ≡ b → run (remove_list names) (without m name) q ≡ None) [
      | true ↦ λ same. gone (without m name) names q (inl (ap (λ b. cond b None (m q)) same))
      | false ↦ λ differs. gone (without m name) names q (left there differs)
    ] refl where
      true_false : true ≡ false → ⊥
      true_false e = cc

      later : (k : ℕ) → k < length (name ∷ names) → get_or (name ∷ names) k q ≡ q → bytes_eq name q ≡ false → Contains names q
      later zero within is differs = absurd (true_false (sym (bytes_eq-same q) ∙ ap (λ x. bytes_eq x q) (sym is) ∙ differs))
      later (suc k) within is differs = (k, omega (arith, within), is)

      left : (m q ≡ None) ⊎ Contains (name ∷ names) q → bytes_eq name q ≡ false → (without m name q ≡ None) ⊎ Contains names q
      left (inl none) differs = inl (ap (λ b. cond b None (m q)) differs ∙ none)
      left (inr at) differs = inr (later at.0 at.1 at.2 differs)

same_or : (l : List (List ℕ)) (k : ℕ) (d e : List ℕ) → k < length l → get_or l k d ≡ get_or l k e
same_or [] k d e within = absurd (omega (arith, within))
same_or (x ∷ l) zero d e within = refl
same_or (x ∷ l) (suc k) d e within = same_or l k d e (omega (arith, within))

none_or_some : (o : Option (List ℕ)) → (o ≡ None) ⊎ IsSome o
none_or_some None = inl refl
none_or_some (Some x) = inr refl

pub strays_are_removed : StraysAreRemoved
strays_are_removed m names are = (
  finds_all m names are.ascending (λ k within. (are.each (get_or names k [])).0 (k, within, same_default k within)),
  λ i q. all_gone q i,
) where
  same_default : (k : ℕ) → k < length names → get_or names k (get_or names k []) ≡ get_or names k []
  same_default k within = same_or names k _ _ within

  all_gone : (q : List ℕ) → run (remove_list names) m q ≡ None
  all_gone q = gone m names q (elim (none_or_some (m q)) [ inl none ↦ inl none | inr some ↦ inr ((are.each q).1 some) ])
