-- Elements of lists that grow or shrink at their end, and lists of which each element in turn is set.
use Rattle.std.proofs.Common.{◌≡◌, ◌<◌, ◌≤◌, ◌+◌, ℕ, zero, suc, List, [], ◌∷◌, ◌++◌, length, take, get_or, slice_get, slice_set, Some, ◌⊎◌, inl, inr, refl, sym, ap, subst, ◌∙◌, arith, length-set}
use Rattle.std.specs.Prelude.{Result, Ok, Err, IfErr, OnErr}
use Rattle.std.proofs.lemmas.Bool.{cases_lt}
use Rattle.play_nodes.proofs.Tables.{set_here, set_there, element, same_or}
use Rattle.play_nodes.proofs.PlaceLaws.{element_within, same_some}
use Rattle.node_opening.specs.Shelves.{EachShelf}

-- FRONTS

-- What stands in the front of a list stands in the list.
pub get_take : {A : Type 0} (xs : List A) (n k : ℕ) (a : A) → slice_get (take n xs) k ≡ Some a → slice_get xs k ≡ Some a
get_take xs zero k a h = cc
get_take [] (suc n) k a h = cc
get_take (x ∷ xs) (suc n) zero a h = h
get_take (x ∷ xs) (suc n) (suc k) a h = get_take xs n k a h

-- What stands in the front of a list stands in a longer one.
pub get_longer : {A : Type 0} (xs : List A) (n m k : ℕ) (a : A) → n ≤ m → slice_get (take n xs) k ≡ Some a → slice_get (take m xs) k ≡ Some a
get_longer xs zero m k a less h = cc
get_longer [] (suc n) m k a less h = cc
get_longer (x ∷ xs) (suc n) zero k a less h = absurd (none less)
  where
    none : suc n ≤ 0 → ⊥
    none h = omega arith
get_longer (x ∷ xs) (suc n) (suc m) zero a less h = h
get_longer (x ∷ xs) (suc n) (suc m) (suc k) a less h = get_longer xs n m k a (fewer less) h
  where
    fewer : suc n ≤ suc m → n ≤ m
    fewer h = omega arith

pub get_within : {A : Type 0} (xs : List A) (n k : ℕ) → k < n → slice_get (take n xs) k ≡ slice_get xs k
get_within xs zero k h = absurd (none h)
  where
    none : k < 0 → ⊥
    none h = omega arith
get_within [] (suc n) k h = refl
get_within (x ∷ xs) (suc n) zero h = refl
get_within (x ∷ xs) (suc n) (suc k) h = get_within xs n k (omega arith)

pub take_next : {A : Type 0} (xs : List A) (k : ℕ) (x : A) → slice_get xs k ≡ Some x → take (suc k) xs ≡ take k xs ++ x ∷ []
take_next [] k x h = cc
take_next {A} (a ∷ xs) zero x h = ap (λ (y : A). y ∷ []) (same_some a x h)
take_next {A} (a ∷ xs) (suc k) x h = ap (λ (ys : List A). a ∷ ys) (take_next xs k x h)

pub get_front : {A : Type 0} (xs : List A) (x : A) (k : ℕ) → k < length xs → slice_get (xs ++ x ∷ []) k ≡ slice_get xs k
get_front [] x k h = absurd (none h)
  where
    none : k < 0 → ⊥
    none h = omega arith
get_front (a ∷ xs) x zero h = refl
get_front (a ∷ xs) x (suc k) h = get_front xs x k (omega arith)

pub get_end : {A : Type 0} (xs : List A) (x : A) → slice_get (xs ++ x ∷ []) (length xs) ≡ Some x
get_end [] x = refl
get_end (a ∷ xs) x = get_end xs x

-- LISTS WHOSE ELEMENTS ARE SET ONE BY ONE

-- Below an index this is so of each element, and from there on each is as it was.
pub record UpTo {S : Type 0} (P : ℕ → S → S → Type 0) (n : ℕ) (old new : List S) : Type 0 where
  pub count : length new ≡ length old
  pub done : (k : ℕ) (a b : S) → k < n → slice_get old k ≡ Some a → slice_get new k ≡ Some b → P k a b
  pub rest : (k : ℕ) → n ≤ k → slice_get new k ≡ slice_get old k

pub up_to_none : {S : Type 0} (P : ℕ → S → S → Type 0) (xs : List S) → UpTo P 0 xs xs
up_to_none {S} P xs = record { count = refl; done = λ k a b h was is. absurd (none k h); rest = λ k h. refl }
  where
    none : (k : ℕ) → k < 0 → ⊥
    none k h = omega arith

module _ {S : Type 0} where
  next_done : (P : ℕ → S → S → Type 0) (n : ℕ) (old new : List S) (a b : S) → UpTo P n old new → slice_get new n ≡ Some a → P n a b
      → (k : ℕ) (x y : S) → k < n + 1 → slice_get old k ≡ Some x → slice_get (slice_set new n b) k ≡ Some y → ((k ≡ n) ⊎ (k ≡ n → ⊥)) → P k x y
  next_done P n old new a b u at so k x y h was is (inl same) =
      let is_b : b ≡ y = same_some b y (sym (set_here new n a b at) ∙ (ap (slice_get (slice_set new n b)) (sym same) ∙ is)) in
      let is_a : a ≡ x = same_some a x (sym at ∙ (u.rest n (omega arith) ∙ (ap (slice_get old) (sym same) ∙ was))) in
      subst (λ (q : ℕ). P q x y) (sym same) (subst (λ (q : S). P n q y) is_a (subst (λ (q : S). P n a q) is_b so))
  next_done P n old new a b u at so k x y h was is (inr away) =
      u.done k x y (below h away) was (sym (set_there new n b k away) ∙ is)
    where
      below : k < n + 1 → (k ≡ n → ⊥) → k < n
      below h away = omega arith

  pub up_to_next : (P : ℕ → S → S → Type 0) (n : ℕ) (old new : List S) (a b : S) → UpTo P n old new → slice_get new n ≡ Some a → P n a b → UpTo P (n + 1) old (slice_set new n b)
  up_to_next P n old new a b u at so = record {
    count = length-set new n b ∙ u.count;
    done = λ k x y h was is. next_done P n old new a b u at so k x y h was is (same_or k n);
    rest = λ k h. set_there new n b k (past k h) ∙ u.rest k (after k h);
  }
    where
      past : (k : ℕ) → n + 1 ≤ k → k ≡ n → ⊥
      past k h e = omega arith

      after : (k : ℕ) → n + 1 ≤ k → n ≤ k
      after k h = omega arith

  pub up_to_map : (P Q : ℕ → S → S → Type 0) (n : ℕ) (old new : List S) → ((k : ℕ) (a b : S) → k < n → P k a b → Q k a b) → UpTo P n old new → UpTo Q n old new
  up_to_map P Q n old new f u = record {
    count = u.count;
    done = λ k a b h was is. f k a b h (u.done k a b h was is);
    rest = u.rest;
  }

  -- Past the end it is so of each.
  pub up_to_end : (P : ℕ → S → S → Type 0) (n : ℕ) (old new : List S) → UpTo P n old new → length old ≤ n → (k : ℕ) (a b : S) → slice_get old k ≡ Some a → slice_get new k ≡ Some b → P k a b
  up_to_end P n old new u h k a b was is = u.done k a b (within (element_within old k a was)) was is
    where
      within : k < length old → k < n
      within e = omega arith

  all_each : (Q : S → S → Type 0) (n : ℕ) (old new : List S) → UpTo (λ _. Q) n old new → ((a : S) → Q a a) → (k : ℕ) (a b : S) → slice_get old k ≡ Some a → slice_get new k ≡ Some b → ((k < n) ⊎ (n ≤ k)) → Q a b
  all_each Q n old new u same k a b was is (inl h) = u.done k a b h was is
  all_each Q n old new u same k a b was is (inr h) = subst (λ (q : S). Q a q) (same_some a b (sym was ∙ (sym (u.rest k h) ∙ is))) (same a)

  -- What is also so of each that stays as it was is so of all.
  pub up_to_all : (Q : S → S → Type 0) (n : ℕ) (old new : List S) → UpTo (λ _. Q) n old new → ((a : S) → Q a a) → EachShelf Q old new
  up_to_all Q n old new u same = record { count = u.count; each = λ k a b was is. all_each Q n old new u same k a b was is (cases_lt k n) }

  -- The element at an index stands there before as after.
  pub up_to_here : (P : ℕ → S → S → Type 0) (n : ℕ) (old new : List S) (a : S) → UpTo P n old new → slice_get new n ≡ Some a → slice_get old n ≡ Some a
  up_to_here P n old new a u at = sym (u.rest n (omega arith)) ∙ at

-- EACH OF A LIST

pub each_after : {S : Type 0} (P Q R : S → S → Type 0) (old mid new : List S) → ((a b c : S) → P a b → Q b c → R a c) → EachShelf P old mid → EachShelf Q mid new → EachShelf R old new
each_after {S} P Q R old mid new f p q = record {
  count = q.count ∙ p.count;
  each = λ k a c was is.
      let m = element mid k (subst (λ (n : ℕ). k < n) (sym p.count) (element_within old k a was)) in
      f a m.0 c (p.each k a m.0 was m.1) (q.each k m.0 c m.1 is);
}

pub each_map : {S : Type 0} (P Q : S → S → Type 0) (old new : List S) → ((a b : S) → P a b → Q a b) → EachShelf P old new → EachShelf Q old new
each_map P Q old new f p = record { count = p.count; each = λ k a b was is. f a b (p.each k a b was is) }

-- ELEMENTS AND RESULTS

pub element_or : {A : Type 0} (xs : List A) (i : ℕ) (d : A) → i < length xs → slice_get xs i ≡ Some (get_or xs i d)
element_or [] i d h = absurd (none h)
  where
    none : i < 0 → ⊥
    none h = omega arith
element_or (a ∷ xs) zero d h = refl
element_or (a ∷ xs) (suc i) d h = element_or xs i d (omega arith)

pub none_left : {A : Type 0} (xs : List A) → length xs ≡ 0 → xs ≡ []
none_left [] h = refl
none_left (x ∷ xs) h = absurd (some (length xs) h)
  where
    some : (n : ℕ) → suc n ≡ 0 → ⊥
    some n h = omega arith

same_err : {T E : Type 0} (a b : E) → ◌≡◌ {A = Result T E} (Err a) (Err b) → a ≡ b
same_err a b e = cc

pub if_err : {T E : Type 0} (r : Result T E) (y : E) (P : E → Type 0) → r ≡ Err y → P y → IfErr r P
if_err (Ok x) y P e p = tt
if_err (Err z) y P e p = subst P (sym (same_err z y e)) p

pub on_err : {T E : Type 0} (r : Result T E) (X : Type 0) → X → OnErr r X
on_err (Ok x) X p = tt
on_err (Err z) X p = p
