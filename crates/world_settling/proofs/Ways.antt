-- What is on its way in one direction, as messages are sent and taken and the end is put.
use Rattle.std.proofs.Common.{◌≡◌, ℕ, zero, suc, ◌<◌, ◌≤◌, ◌+◌, Bool, true, false, List, [], ◌∷◌, ◌++◌, length, take, drop, slice_get, Option, Some, None, min, refl, ap, subst, arith}
use Rattle.std.specs.Prelude.{sum_by, unwrap_or, option_map, if◌then◌else◌}
use Rattle.std.proofs.lemmas.Bool.Decides.{nat_tests}
use Rattle.std.proofs.lemmas.Option.{none-some, same_Some}
use Rattle.std.proofs.lemmas.List.{take_all}
use Rattle.std.proofs.lemmas.List.Sums.{sum_by-cons, sum_by-take-le, sum_by-take-drop}
use Rattle.world.specs.Parts.{Message, Marks}
use Rattle.world.specs.Worlds.{shut_marks}
use Rattle.world.specs.Connections.{Next, message, the_end, ends_at, next_on, marks_taken, lesser}
use Rattle.world_settling.specs.Traffic.{before_end, on_way}

-- LISTS

le-add : (a b c : ℕ) → a ≤ c → a ≤ b + c
le-add a b c l = omega (arith, l)

cut : (f : Message → ℕ) (t : ℕ) (xs : List Message) → sum_by f (drop t xs) ≤ sum_by f xs
cut f t xs = omega (arith, sum_by-take-drop f xs t)

cut-append : (f : Message → ℕ) (xs ys : List Message) (t : ℕ) → sum_by f (drop t (xs ++ ys)) ≤ sum_by f (drop t xs) + sum_by f ys
cut-append f [] ys t = le-add (sum_by f (drop t ys)) (sum_by f (drop t [])) (sum_by f ys) (cut f t ys)
cut-append f (x ∷ xs) ys zero = omega (arith, cut-append f xs ys zero, sum_by-cons f x xs, sum_by-cons f x (xs ++ ys))
cut-append f (x ∷ xs) ys (suc t) = cut-append f xs ys t

take-none : (e : ℕ) → ◌≡◌ {A = List Message} (take e []) []
take-none zero = refl
take-none (suc e) = refl

-- the sum of a middle part
abbrev mid : (Message → ℕ) → ℕ → ℕ → List Message → ℕ
mid f t e xs = sum_by f (drop t (take e xs))

mid-le : (f : Message → ℕ) (xs : List Message) (t e d : ℕ) → e ≤ d → mid f t e xs ≤ mid f t d xs
mid-le f [] t e d l = rw (take-none e) (rw (take-none d) (omega arith))
mid-le f (x ∷ xs) t zero d l = let e = none-left t in omega (arith, e)
  where
    none-left : (i : ℕ) → sum_by f (drop i (take 0 (x ∷ xs))) ≡ 0
    none-left zero = refl
    none-left (suc i) = refl
mid-le f (x ∷ xs) t (suc e) zero l = absurd (omega (arith, l))
mid-le f (x ∷ xs) zero (suc e) (suc d) l =
    omega (arith, mid-le f xs zero e d (omega (arith, l)), sum_by-cons f x (take e xs), sum_by-cons f x (take d xs))
mid-le f (x ∷ xs) (suc t) (suc e) (suc d) l = mid-le f xs t e d (omega (arith, l))

mid-append : (f : Message → ℕ) (xs ys : List Message) (t e : ℕ) → mid f t e (xs ++ ys) ≤ mid f t e xs + sum_by f ys
mid-append f [] ys t e =
    le-add (mid f t e ys) (mid f t e []) (sum_by f ys) (omega (arith, cut f t (take e ys), sum_by-take-le f ys e))
mid-append f (x ∷ xs) ys t zero = let e = none-left t in omega (arith, e)
  where
    none-left : (i : ℕ) → sum_by f (drop i (take 0 (x ∷ (xs ++ ys)))) ≡ 0
    none-left zero = refl
    none-left (suc i) = refl
mid-append f (x ∷ xs) ys zero (suc e) =
    omega (arith, mid-append f xs ys zero e, sum_by-cons f x (take e xs), sum_by-cons f x (take e (xs ++ ys)))
mid-append f (x ∷ xs) ys (suc t) (suc e) = mid-append f xs ys t e

-- one is taken
cut-taken : (f : Message → ℕ) (xs : List Message) (t : ℕ) (m : Message) → slice_get xs t ≡ Some m → sum_by f (drop (t + 1) xs) + f m ≤ sum_by f (drop t xs)
cut-taken f [] t m e = absurd (none-some m e)
cut-taken f (x ∷ xs) zero m e = let y = ap f (same_Some x m e) in omega (arith, y, sum_by-cons f x xs)
cut-taken f (x ∷ xs) (suc t) m e = let on : suc t + 1 ≡ suc (t + 1) = omega arith in rw on (cut-taken f xs t m e)

take-get : (xs : List Message) (t e : ℕ) (m : Message) → t < e → slice_get xs t ≡ Some m → slice_get (take e xs) t ≡ Some m
take-get [] t e m l q = absurd (none-some m q)
take-get (x ∷ xs) t zero m l q = absurd (omega (arith, l))
take-get (x ∷ xs) zero (suc e) m l q = q
take-get (x ∷ xs) (suc t) (suc e) m l q = take-get xs t e m (omega (arith, l)) q

-- MARKS

pub sent-way : (f : Message → ℕ) (k : Marks) (xs ys : List Message) → sum_by f (on_way k (xs ++ ys)) ≤ sum_by f (on_way k xs) + sum_by f ys
sent-way f k xs ys = by-end k.end
  where
    by-end : (o : Option ℕ) → sum_by f (drop k.taken (before_end o (xs ++ ys))) ≤ sum_by f (drop k.taken (before_end o xs)) + sum_by f ys
    by-end None = cut-append f xs ys k.taken
    by-end (Some e) = mid-append f xs ys k.taken e

-- the end is put, no later than where it stands
pub ended-way : (f : Message → ℕ) (t n : ℕ) (o : Option ℕ) (xs : List Message) → sum_by f (drop t (before_end (Some (lesser n o)) xs)) ≤ sum_by f (drop t (before_end o xs))
ended-way f t n None xs =
    subst (λ (zs : List Message). mid f t n xs ≤ sum_by f (drop t zs)) (take_all (n + length xs) xs (omega arith)) (mid-le f xs t n (n + length xs) (omega arith))
ended-way f t n (Some e) xs = mid-le f xs t (min n e) e (omega arith)

pub shut-way : (f : Message → ℕ) (k : Marks) (xs : List Message) → sum_by f (on_way (shut_marks xs k) xs) ≤ sum_by f (on_way k xs)
shut-way f k xs = by-end k.end
  where
    by-end : (o : Option ℕ) → sum_by f (drop k.taken (take (unwrap_or o (length xs)) xs)) ≤ sum_by f (drop k.taken (before_end o xs))
    by-end None = rw (take_all (length xs) xs (omega arith)) (omega arith)
    by-end (Some e) = omega arith

pub next-open : (xs : List Message) (k : Marks) (x : Next) → next_on xs k ≡ Some x → k.over ≡ false
next-open xs k x e = by-over k.over refl e
  where
    by-over : (b : Bool) → k.over ≡ b → (if b then None else (if ends_at k.end k.taken then Some the_end else option_map message (slice_get xs k.taken))) ≡ Some x → k.over ≡ false
    by-over true q h = absurd (none-some x h)
    by-over false q h = q

pub taken-way : (f : Message → ℕ) (xs : List Message) (k : Marks) (m : Message) → next_on xs k ≡ Some (message m) → sum_by f (on_way (marks_taken k (message m)) xs) + f m ≤ sum_by f (on_way k xs)
taken-way f xs k m e = by-end k.end (got k.over k.end e)
  where
    is : (o : Option Message) → option_map message o ≡ Some (message m) → o ≡ Some m
    is None h = absurd (none-some (message m) h)
    is (Some y) h = ap (λ (z : Message). Some z) (inner (same_Some (message y) (message m) h))
      where
        inner : message y ≡ message m → y ≡ m
        inner q = cc

    got : (b : Bool) (o : Option ℕ) → (if b then None else (if ends_at o k.taken then Some the_end else option_map message (slice_get xs k.taken))) ≡ Some (message m)
        → (ends_at o k.taken ≡ false) × (slice_get xs k.taken ≡ Some m)
    got true o h = absurd (none-some (message m) h)
    got false o h = at (ends_at o k.taken) h
      where
        at : (b : Bool) → (if b then Some the_end else option_map message (slice_get xs k.taken)) ≡ Some (message m) → (b ≡ false) × (slice_get xs k.taken ≡ Some m)
        at true q = absurd (other (same_Some the_end (message m) q))
          where
            other : the_end ≡ message m → ⊥
            other z = cc
        at false q = (refl, is (slice_get xs k.taken) q)

    by-end : (o : Option ℕ) → (ends_at o k.taken ≡ false) × (slice_get xs k.taken ≡ Some m)
        → sum_by f (drop (k.taken + 1) (before_end o xs)) + f m ≤ sum_by f (drop k.taken (before_end o xs))
    by-end None h = cut-taken f xs k.taken m h.1
    by-end (Some n) h = cut-taken f (take n xs) k.taken m (take-get xs k.taken n m (grind (arith, nat_tests, h.0)) h.1)

-- no more is on its way than was sent
pub whole-way : (f : Message → ℕ) (k : Marks) (xs : List Message) → sum_by f (on_way k xs) ≤ sum_by f xs
whole-way f k xs = by-end k.end
  where
    by-end : (o : Option ℕ) → sum_by f (drop k.taken (before_end o xs)) ≤ sum_by f xs
    by-end None = cut f k.taken xs
    by-end (Some e) = omega (arith, cut f k.taken (take e xs), sum_by-take-le f xs e)

-- a message that stands next was sent
pub next-message : (xs : List Message) (k : Marks) (m : Message) → next_on xs k ≡ Some (message m) → slice_get xs k.taken ≡ Some m
next-message xs k m e = by-over k.over e
  where
    is : (o : Option Message) → option_map message o ≡ Some (message m) → o ≡ Some m
    is None h = absurd (none-some (message m) h)
    is (Some y) h = ap (λ (z : Message). Some z) (inner (same_Some (message y) (message m) h))
      where
        inner : message y ≡ message m → y ≡ m
        inner q = cc

    by-end : (b : Bool) → (if b then Some the_end else option_map message (slice_get xs k.taken)) ≡ Some (message m) → slice_get xs k.taken ≡ Some m
    by-end true q = absurd (other (same_Some the_end (message m) q))
      where
        other : the_end ≡ message m → ⊥
        other z = cc
    by-end false q = is (slice_get xs k.taken) q

    by-over : (b : Bool) → (if b then None else (if ends_at k.end k.taken then Some the_end else option_map message (slice_get xs k.taken))) ≡ Some (message m) → slice_get xs k.taken ≡ Some m
    by-over true q = absurd (none-some (message m) q)
    by-over false q = by-end (ends_at k.end k.taken) q
