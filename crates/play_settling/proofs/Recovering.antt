-- What recoveries weigh, as their primaries act, hear, or do neither.
use Rattle.std.proofs.Common.{◌≡◌, ◌≢◌, ℕ, zero, suc, ◌<◌, ◌≤◌, ◌+◌, Bool, true, false, List, [], ◌∷◌, slice_get, Some, ◌⊎◌, inl, inr, refl, sym, ap, ◌∙◌, subst, arith}
use Rattle.std.specs.Prelude.{sum_by}
use Rattle.std.proofs.lemmas.Option.{none-some, same_Some}
use Rattle.std.proofs.lemmas.List.Sums.{sum_by-cons}
use Rattle.hd_base.specs.declared.numbers.NodeId.{NodeId}
use Rattle.world.specs.declared.events.Event.{Event}
use Rattle.world.specs.Parts.{Leading, Primary, no_primary, was_told, leads, has_led}
use Rattle.world.specs.Safe.{Has}
use Rattle.world.specs.Worlds.{World}
use Rattle.world_settling.specs.Leading.{recovery_weight, primary_weight, LowersLeading}
use Rattle.world_settling.specs.Traffic.{traffic}
use Rattle.play_model.specs.declared.asks.ReadAsk.{ReadAsk}
use Rattle.play_model.specs.declared.recoveries.Recovery.{Recovery}
use Rattle.play_model.specs.Dues.{Queues}
use Rattle.play_settling.specs.Settling.{block_weight, ask_weight, leads_weight, recovers_weight, writers_weight, reads_weight, play_weight, AreNumbered}

-- ---- lists

all-same : (f g : Recovery → ℕ) (rs : List Recovery) → ((i : ℕ) (a : Recovery) → slice_get rs i ≡ Some a → g a ≡ f a) → sum_by g rs ≡ sum_by f rs
all-same f g [] h = refl
all-same f g (r ∷ rs) h = omega (arith, sum_by-cons f r rs, sum_by-cons g r rs, h zero r refl, all-same f g rs (λ i a e. h (suc i) a e))

tail-numbered : (r : Recovery) (rs : List Recovery) → AreNumbered (r ∷ rs) → AreNumbered rs
tail-numbered r rs h i j a b p q e = omega (arith, h (suc i) (suc j) a b p q e)

-- of those behind the first none has its number
rest-apart : (r a : Recovery) (rs : List Recovery) (i : ℕ) → AreNumbered (r ∷ rs) → slice_get rs i ≡ Some a → a.primary ≢ r.primary
rest-apart r a rs i h p e = omega (arith, h zero (suc i) r a refl p (sym e))

rest-same : (f g : Recovery → ℕ) (r : Recovery) (rs : List Recovery) → AreNumbered (r ∷ rs) → ((a : Recovery) → a.primary ≢ r.primary → g a ≡ f a) → sum_by g rs ≡ sum_by f rs
rest-same f g r rs h others = all-same f g rs (λ i a p. others a (rest-apart r a rs i h p))

-- one part changes, of a number that stands there once
sum-at : (f g : Recovery → ℕ) (r : Recovery) (rs : List Recovery) (i : ℕ) → AreNumbered rs → slice_get rs i ≡ Some r → ((a : Recovery) → a.primary ≢ r.primary → g a ≡ f a)
    → sum_by g rs + f r ≡ sum_by f rs + g r
sum-at f g r [] i h is others = absurd (none-some r is)
sum-at f g r (x ∷ xs) zero h is others =
    let here : x ≡ r = same_Some x r is in
    let rest : sum_by g xs ≡ sum_by f xs = rest-same f g x xs h (λ a ne. others a (λ e. ne (e ∙ sym (ap (λ (y : Recovery). y.primary) here)))) in
    omega (arith, sum_by-cons f x xs, sum_by-cons g x xs, rest, ap f here, ap g here)
sum-at f g r (x ∷ xs) (suc i) h is others =
    let here : g x ≡ f x = others x (λ e. rest-apart x r xs i h is (sym e)) in
    omega (arith, sum_by-cons f x xs, sum_by-cons g x xs, here, sum-at f g r xs i (tail-numbered x xs h) is others)

number-or : (n m : ℕ) → (n ≡ m) ⊎ (n ≢ m)
number-or zero zero = inl refl
number-or zero (suc m) = inr (λ e. cc)
number-or (suc n) zero = inr (λ e. cc)
number-or (suc n) (suc m) = by (number-or n m)
  where
    by : (n ≡ m) ⊎ (n ≢ m) → (suc n ≡ suc m) ⊎ (suc n ≢ suc m)
    by (inl e) = inl (ap suc e)
    by (inr ne) = inr (λ e. ne (omega (arith, e)))

-- what else there is falls, and with it each that has this number
one-falls : (f g : Recovery → ℕ) (n x y : ℕ) (rs : List Recovery) → AreNumbered rs → ((a : Recovery) → a.primary ≢ n → g a ≡ f a) → ((a : Recovery) → a.primary ≡ n → x + g a < y + f a) → x < y
    → x + sum_by g rs < y + sum_by f rs
one-falls f g n x y [] h others one less = omega (arith, less)
one-falls f g n x y (r ∷ rs) h others one less = by (number-or r.primary n) (one-falls f g n x y rs (tail-numbered r rs h) others one less)
  where
    by : (r.primary ≡ n) ⊎ (r.primary ≢ n) → x + sum_by g rs < y + sum_by f rs → x + sum_by g (r ∷ rs) < y + sum_by f (r ∷ rs)
    by (inl e) more =
        let rest : sum_by g rs ≡ sum_by f rs = rest-same f g r rs h (λ a ne. others a (λ q. ne (q ∙ sym e))) in
        omega (arith, sum_by-cons f r rs, sum_by-cons g r rs, rest, one r e)
    by (inr ne) more = omega (arith, sum_by-cons f r rs, sum_by-cons g r rs, others r ne, more)

-- ---- weights

same-weight : (w v : World) (r : Recovery) → v.primaries r.primary ≡ w.primaries r.primary → recovers_weight v r ≡ recovers_weight w r
same-weight w v r e = ap (λ (p : Primary). leads_weight p r.members) e

-- a primary that has begun
begun-weight : (p : Primary) (members : List NodeId) → (p ≡ no_primary → ⊥) → leads_weight p members ≡ primary_weight p
begun-weight no_primary members h = absurd (h refl)
begun-weight (was_told b t) members h = refl
begun-weight (leads l) members h = refl
begun-weight (has_led r) members h = refl

-- ---- plays

-- No primary acts, and the rest falls.
pub with-recoveries : (w v : World) (queues after : Queues) (blocks : List ℕ) (asks : List ReadAsk) (rs : List Recovery) → ((i : ℕ) → v.primaries i ≡ w.primaries i)
    → reads_weight v after blocks asks < reads_weight w queues blocks asks → play_weight v after blocks asks rs < play_weight w queues blocks asks rs
with-recoveries w v queues after blocks asks rs same less =
    falls (reads_weight v after blocks asks) (reads_weight w queues blocks asks) _ _ less (all-same (recovers_weight w) (recovers_weight v) rs (λ i a e. same-weight w v a (same a.primary)))
  where
    falls : (x y a b : ℕ) → x < y → a ≡ b → x + a < y + b
    falls x y a b p q = omega (arith, p, q)

-- What else there is stays or falls, as far as it isn't traffic.
pub record RestFalls (w v : World) (queues : Queues) (blocks : List ℕ) (asks : List ReadAsk) : Type 0 where
  pub blocks_same : sum_by (block_weight v queues) blocks ≡ sum_by (block_weight w queues) blocks
  pub asks_fall : sum_by (ask_weight v) asks ≤ sum_by (ask_weight w) asks

-- A primary acts, which recovers one of these.
pub one-leads : (w v : World) (queues : Queues) (blocks : List ℕ) (asks : List ReadAsk) (rs : List Recovery) (r : Recovery) (given : ℕ) → AreNumbered rs → Has rs r → RestFalls w v queues blocks asks
    → LowersLeading w v r.primary given → (v.primaries r.primary ≡ no_primary → ⊥) → primary_weight (w.primaries r.primary) + given ≤ recovers_weight w r
    → play_weight v queues blocks asks rs < play_weight w queues blocks asks rs
one-leads w v queues blocks asks rs r given numbered has rest lowers begun paid =
    let after : recovers_weight v r ≡ primary_weight (v.primaries r.primary) = begun-weight (v.primaries r.primary) r.members begun in
    let sums : sum_by (recovers_weight v) rs + recovers_weight w r ≡ sum_by (recovers_weight w) rs + recovers_weight v r =
    sum-at (recovers_weight w) (recovers_weight v) r rs has.place numbered has.there (λ a ne. same-weight w v a (lowers.others a.primary ne)) in
    whole (traffic v) (traffic w) _ _ _ _ _ _ _ _ _ _ given rest.blocks_same rest.asks_fall lowers.is after paid sums
  where
    whole : (tv tw bv bw av aw sv sw fv fw pv pw given : ℕ) → bv ≡ bw → av ≤ aw → tv + pv < tw + pw + given → fv ≡ pv → pw + given ≤ fw → sv + fw ≡ sw + fv
        → ((tv + bv) + av) + sv < ((tw + bw) + aw) + sw
    whole tv tw bv bw av aw sv sw fv fw pv pw given b a l f p s = omega (arith, b, a, l, f, p, s)

-- A primary takes what stands next, whether it recovers one of these or not.
pub one-hears : (w v : World) (queues : Queues) (blocks : List ℕ) (asks : List ReadAsk) (rs : List Recovery) (i : ℕ) → AreNumbered rs → RestFalls w v queues blocks asks
    → LowersLeading w v i 0 → (v.primaries i ≡ no_primary → ⊥) → (w.primaries i ≡ no_primary → ⊥) → traffic v < traffic w
    → play_weight v queues blocks asks rs < play_weight w queues blocks asks rs
one-hears w v queues blocks asks rs i numbered rest lowers after before less =
    whole (traffic v) (traffic w) _ _ _ _ _ _ rest.blocks_same rest.asks_fall
    (one-falls (recovers_weight w) (recovers_weight v) i (traffic v) (traffic w) rs numbered (λ a ne. same-weight w v a (lowers.others a.primary ne)) one less)
  where
    one-of : (tv tw pv pw fv fw : ℕ) → tv + pv < tw + pw + 0 → fv ≡ pv → fw ≡ pw → tv + fv < tw + fw
    one-of tv tw pv pw fv fw l p q = omega (arith, l, p, q)

    one : (a : Recovery) → a.primary ≡ i → traffic v + recovers_weight v a < traffic w + recovers_weight w a
    one a e = one-of (traffic v) (traffic w) (primary_weight (v.primaries i)) (primary_weight (w.primaries i)) (recovers_weight v a) (recovers_weight w a) lowers.is
        (ap (λ (n : ℕ). leads_weight (v.primaries n) a.members) e ∙ begun-weight (v.primaries i) a.members after)
        (ap (λ (n : ℕ). leads_weight (w.primaries n) a.members) e ∙ begun-weight (w.primaries i) a.members before)

    whole : (tv tw bv bw av aw sv sw : ℕ) → bv ≡ bw → av ≤ aw → tv + sv < tw + sw → ((tv + bv) + av) + sv < ((tw + bw) + aw) + sw
    whole tv tw bv bw av aw sv sw b a l = omega (arith, b, a, l)
