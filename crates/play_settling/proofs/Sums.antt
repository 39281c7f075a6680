-- Sums over the blocks of a play, where the part of one block changes or that of none.
use Rattle.std.proofs.Common.{◌≡◌, ◌≢◌, ℕ, zero, suc, ◌+◌, ◌<◌, ◌≤◌, List, [], ◌∷◌, slice_get, Some, refl, ◌∙◌, ap, arith}
use Rattle.std.specs.Prelude.{sum_by}
use Rattle.std.proofs.lemmas.Option.{none-some, same_Some}
use Rattle.std.proofs.lemmas.List.Sums.{sum_by-cons}
use Rattle.world.specs.Parts.{Writing}
use Rattle.world.specs.Worlds.{World}
use Rattle.world.specs.Safe.{Has}
use Rattle.world_settling.specs.Measure.{writer_weight, LowersBoth}
use Rattle.world_settling.specs.Traffic.{traffic}
use Rattle.play_model.specs.Dues.{Queues}
use Rattle.play_settling.specs.Settling.{queue_weight, block_weight, writers_weight, AreApart}

-- LISTS

-- no part changes
sum-same : (f g : ℕ → ℕ) (xs : List ℕ) → ((i x : ℕ) → slice_get xs i ≡ Some x → g x ≡ f x) → sum_by g xs ≡ sum_by f xs
sum-same f g [] h = refl
sum-same f g (x ∷ xs) h = omega (arith, sum_by-cons f x xs, sum_by-cons g x xs, h zero x refl, sum-same f g xs (λ i y e. h (suc i) y e))

tail-apart : (x : ℕ) (xs : List ℕ) → AreApart (x ∷ xs) → AreApart xs
tail-apart x xs h i j b p q = omega (arith, h (suc i) (suc j) b p q)

-- one part changes, of an element that stands there once
sum-at : (f g : ℕ → ℕ) (b : ℕ) (xs : List ℕ) (i : ℕ) → AreApart xs → slice_get xs i ≡ Some b → ((a : ℕ) → a ≢ b → g a ≡ f a) → sum_by g xs + f b ≡ sum_by f xs + g b
sum-at f g b [] i apart is others = absurd (none-some b is)
sum-at f g b (x ∷ xs) zero apart is others =
    let here : x ≡ b = same_Some x b is in
    let rest : sum_by g xs ≡ sum_by f xs =
    sum-same f g xs (λ j y e. others y (λ q. omega (arith, apart zero (suc j) b is (e ∙ ap (λ (z : ℕ). Some z) q)))) in
    omega (arith, sum_by-cons f x xs, sum_by-cons g x xs, rest, ap f here, ap g here)
sum-at f g b (x ∷ xs) (suc i) apart is others =
    let here : g x ≡ f x = others x (λ q. omega (arith, apart zero (suc i) b (ap (λ (z : ℕ). Some z) q) is)) in
    omega (arith, sum_by-cons f x xs, sum_by-cons g x xs, here, sum-at f g b xs i (tail-apart x xs apart) is others)

-- NUMBERS

both-same : (a b c d : ℕ) → a ≡ c → b ≡ d → a + b ≡ c + d
both-same a b c d p q = omega (arith, p, q)

whole-falls : (tv tw sv sw fv fw : ℕ) → tv + fv < tw + fw → sv + fw ≡ sw + fv → tv + sv < tw + sw
whole-falls tv tw sv sw fv fw p q = omega (arith, p, q)

same-falls : (tv tw sv sw : ℕ) → tv < tw → sv ≡ sw → tv + sv < tw + sw
same-falls tv tw sv sw p q = omega (arith, p, q)

is-paid : (tv xv qv tw xw qw given : ℕ) → tv + xv < tw + xw + given → given + qv ≤ qw → tv + (xv + qv) < tw + (xw + qw)
is-paid tv xv qv tw xw qw given p q = omega (arith, p, q)

-- PLAYS

module _ (w v : World) (queues after : Queues) (blocks : List ℕ) where
  block-same : (a : ℕ) → v.writers a ≡ w.writers a → after a ≡ queues a → block_weight v after a ≡ block_weight w queues a
  block-same a e q =
      both-same (writer_weight (v.writers a).known) (queue_weight (after a)) (writer_weight (w.writers a).known) (queue_weight (queues a)) (ap (λ (x : Writing). writer_weight x.known) e) (ap queue_weight q)

  -- nothing that the blocks weigh changes
  pub all-same : ((a : ℕ) → v.writers a ≡ w.writers a) → ((a : ℕ) → after a ≡ queues a) → sum_by (block_weight v after) blocks ≡ sum_by (block_weight w queues) blocks
  all-same stay same = sum-same (block_weight w queues) (block_weight v after) blocks (λ i x e. block-same x (stay x) (same x))

  -- no writer changes, and no queue
  pub lowers-all : ((a : ℕ) → v.writers a ≡ w.writers a) → ((a : ℕ) → after a ≡ queues a) → traffic v < traffic w → writers_weight v after blocks < writers_weight w queues blocks
  lowers-all stay same less =
      same-falls (traffic v) (traffic w) (sum_by (block_weight v after) blocks) (sum_by (block_weight w queues) blocks) less (all-same stay same)

  module _ (b : ℕ) (apart : AreApart blocks) (has : Has blocks b) where
    -- one writer changes, or its queue
    pub lowers-at : ((a : ℕ) → a ≢ b → v.writers a ≡ w.writers a) → ((a : ℕ) → a ≢ b → after a ≡ queues a) → traffic v + block_weight v after b < traffic w + block_weight w queues b
        → writers_weight v after blocks < writers_weight w queues blocks
    lowers-at stay same less =
        whole-falls (traffic v) (traffic w) (sum_by (block_weight v after) blocks) (sum_by (block_weight w queues) blocks) (block_weight v after b) (block_weight w queues b) less
        (sum-at (block_weight w queues) (block_weight v after) b blocks has.place apart has.there (λ a ne. block-same a (stay a ne) (same a ne)))

    -- what it was given was taken off its queue
    pub both-lower : (given : ℕ) → LowersBoth w v b given → ((a : ℕ) → a ≢ b → after a ≡ queues a) → given + queue_weight (after b) ≤ queue_weight (queues b) → writers_weight v after blocks < writers_weight w queues blocks
    both-lower given l same fits =
        lowers-at l.others same
        (is-paid (traffic v) (writer_weight (v.writers b).known) (queue_weight (after b)) (traffic w) (writer_weight (w.writers b).known) (queue_weight (queues b)) given l.is fits)
