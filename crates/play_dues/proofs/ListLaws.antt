-- Lists that stand one behind the other, and what is at a place of them.
use Rattle.std.proofs.Common.{◌≡◌, ◌<◌, ◌≤◌, ◌+◌, ◌-◌, ℕ, zero, suc, List, [], ◌∷◌, ◌++◌, length, drop, get_or, slice_get, refl, sym, ap, ◌∙◌, arith, add-one}
use Rattle.std.specs.List.{flat_map}
use Rattle.std.proofs.Math.Seq.{drop-cons}

pub get_front : {A : Type 0} (xs ys : List A) (i : ℕ) → i < length xs → slice_get (xs ++ ys) i ≡ slice_get xs i
get_front [] ys i within = absurd (omega arith)
get_front (x ∷ xs) ys zero within = refl
get_front (x ∷ xs) ys (suc i) within = get_front xs ys i (omega arith)

pub get_behind : {A : Type 0} (xs ys : List A) (n i : ℕ) → n ≡ length xs + i → slice_get (xs ++ ys) n ≡ slice_get ys i
get_behind [] ys n i h = ap (λ (k : ℕ). slice_get ys k) (same h)
  where
    same : n ≡ 0 + i → n ≡ i
    same h = omega arith
get_behind (x ∷ xs) ys zero i h = absurd (none h)
  where
    none : 0 ≡ suc (length xs) + i → ⊥
    none h = omega arith
get_behind (x ∷ xs) ys (suc n) i h = get_behind xs ys n i (less h)
  where
    less : suc n ≡ suc (length xs) + i → n ≡ length xs + i
    less h = omega arith

-- What the elements give that are left, of which this one is the first.
pub next_left : {A B : Type 0} (f : A → List B) (xs : List A) (i : ℕ) (d : A) → i < length xs → flat_map f (drop i xs) ≡ f (get_or xs i d) ++ flat_map f (drop (i + 1) xs)
next_left {A} f xs i d within =
    let next : drop i xs ≡ get_or xs i d ∷ drop (i + 1) xs = rw (add-one) (drop-cons xs i d within) in
    ap (λ (ys : List A). flat_map f ys) next

pub counted_on : (count here more left before total : ℕ) → count + before ≡ total → before ≡ more + left → here ≡ more → (count + here) + left ≡ total
counted_on count here more left before total a b c = omega arith

pub all_counted : {A : Type 0} (count : ℕ) (xs : List A) (total : ℕ) → xs ≡ [] → count + length xs ≡ total → count ≡ total
all_counted {A} count xs total none is = none_more count ∙ (ap (λ (ys : List A). count + length ys) (sym none) ∙ is)
  where
    none_more : (n : ℕ) → n ≡ n + 0
    none_more n = omega arith

pub left_behind : (more rest here : ℕ) → here ≡ more → here ≤ rest → rest ≡ more + (rest - here)
left_behind more rest here a b = omega arith
