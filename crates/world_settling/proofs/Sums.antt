-- Sums over the numbers below one.
use Rattle.std.proofs.Common.{◌≡◌, ℕ, zero, suc, ◌<◌, ◌≤◌, ◌+◌, ◌⊎◌, inl, inr, refl, ap, arith}
use Rattle.std.proofs.lemmas.Bool.{cases_lt}
use Rattle.world_settling.specs.Traffic.{sum_to}

pub sum-le : (f g : ℕ → ℕ) (n : ℕ) → ((i : ℕ) → i < n → g i ≤ f i) → sum_to g n ≤ sum_to f n
sum-le f g zero h = omega arith
sum-le f g (suc n) h = omega (arith, sum-le f g n (λ i l. h i (omega (arith, l))), h n (omega arith))

-- one term rises by so much at most, and no other does
pub sum-rise : (f g : ℕ → ℕ) (n k a : ℕ) → ((i : ℕ) → i < n → (i ≡ k → ⊥) → g i ≤ f i) → (k < n → g k ≤ f k + a) → sum_to g n ≤ sum_to f n + a
sum-rise f g zero k a h r = omega arith
sum-rise f g (suc n) k a h r = elim (cases_lt k n) as (λ _. sum_to g (suc n) ≤ sum_to f (suc n) + a) [
  | inl lt ↦ omega (arith, sum-rise f g n k a (λ i l. h i (omega (arith, l))) (λ l. r (omega (arith, l))), h n (omega arith) (λ e. omega (arith, lt, e)))
  | inr ge ↦ last ge (cases_lt n k)
]
  where
    last : n ≤ k → (n < k) ⊎ (k ≤ n) → sum_to g (suc n) ≤ sum_to f (suc n) + a
    last ge (inl lt) = omega (arith, sum-le f g n (λ i l. h i (omega (arith, l)) (λ e. omega (arith, l, e, lt))), h n (omega arith) (λ e. omega (arith, lt, e)))
    last ge (inr le) =
        let same : n ≡ k = omega (arith, ge, le) in
        let below = sum-le f g n (λ i l. h i (omega (arith, l)) (λ e. omega (arith, l, e, ge))) in
        let x = ap f same in
        let y = ap g same in
        omega (arith, below, x, y, r (omega (arith, le)))

-- one term changes so, and no other rises
pub sum-at : (f g : ℕ → ℕ) (n k : ℕ) → ((i : ℕ) → i < n → (i ≡ k → ⊥) → g i ≤ f i) → k < n → sum_to g n + f k ≤ sum_to f n + g k
sum-at f g zero k h l = absurd (omega (arith, l))
sum-at f g (suc n) k h l = elim (cases_lt k n) as (λ _. sum_to g (suc n) + f k ≤ sum_to f (suc n) + g k) [
  | inl lt ↦ omega (arith, sum-at f g n k (λ i j. h i (omega (arith, j))) lt, h n (omega arith) (λ e. omega (arith, lt, e)))
  | inr ge ↦
      let same : n ≡ k = omega (arith, l, ge) in
      let below = sum-le f g n (λ i j. h i (omega (arith, j)) (λ e. omega (arith, j, e, ge))) in
      let x = ap f same in
      let y = ap g same in
      omega (arith, below, x, y)
]

-- one term falls by so much at least, and no other rises
pub sum-fall : (f g : ℕ → ℕ) (n k a : ℕ) → ((i : ℕ) → i < n → (i ≡ k → ⊥) → g i ≤ f i) → k < n → g k + a ≤ f k → sum_to g n + a ≤ sum_to f n
sum-fall f g n k a h l r = omega (arith, sum-at f g n k h l, r)

-- one term more
pub sum-more : (f g : ℕ → ℕ) (n a : ℕ) → sum_to g n ≤ sum_to f n → g n ≤ a → sum_to g (n + 1) ≤ sum_to f n + a
sum-more f g n a h r = omega (arith, h, r, sum-next n)
  where
    sum-next : (m : ℕ) → sum_to g (m + 1) ≡ sum_to g m + g m
    sum-next m = let e : m + 1 ≡ suc m = omega arith in rw e refl
