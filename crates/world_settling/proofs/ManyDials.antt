-- A change that dials several connections.
use Rattle.std.proofs.Common.{◌≡◌, ℕ, zero, suc, ◌≤◌, ◌+◌, ◌-◌, ◌*◌, Bool, true, false, List, [], length, slice_get, option_map, Option, Some, None, refl, ap, ◌∙◌, arith}
use Rattle.std.specs.Prelude.{sum_by, nat_le, if◌then◌else◌}
use Rattle.std.proofs.lemmas.List.Sums.{sum_by-cons}
use Rattle.std.proofs.lemmas.Option.{none-some}
use Rattle.world_texts.specs.WorldLaws.Placing.{IsUndialled}
use Rattle.world.specs.Parts.{Lower, idle}
use Rattle.world.specs.Worlds.{World, Change, Dial, apply, dial_at, listed}
use Rattle.world_settling.specs.Traffic.{sum_to, hops, down_weight, up_weight, down_way, up_way, sides, lower_weight, entries, entries_of, traffic}
use Rattle.world_settling.proofs.Sums.{sum-le}
use Rattle.world_settling.proofs.Ways.{whole-way}
use Rattle.world_settling.proofs.Frame.{Eases, entries-each, downs-quiet, ups-quiet, sides-same}
use Rattle.world_settling.proofs.Outer.{lower-stays}
use Rattle.world_settling.proofs.Requests.{open-most}

-- SUMS

-- this number, so many times
abbrev pub times : ℕ → ℕ → ℕ
times a m = sum_to (λ _. a) m

pub twice-is : (m : ℕ) → times 2 m ≡ 2 * m
twice-is zero = refl
twice-is (suc m) = omega (arith, twice-is m)

pub thrice-is : (m : ℕ) → times 3 m ≡ 3 * m
thrice-is zero = refl
thrice-is (suc m) = omega (arith, thrice-is m)

-- so many terms more, each of at most this
pub sum-many : (f g : ℕ → ℕ) (n m a : ℕ) → sum_to g n ≤ sum_to f n → ((i : ℕ) → n ≤ i → g i ≤ a) → sum_to g (n + m) ≤ sum_to f n + times a m
sum-many f g n zero a h r = omega (arith, h, ap (sum_to g) (none-more n))
  where
    none-more : (i : ℕ) → i + 0 ≡ i
    none-more i = omega arith
sum-many f g n (suc m) a h r = omega (arith, ap (sum_to g) (one-more n), sum-many f g n m a h r, r (n + m) (omega arith))
  where
    one-more : (i : ℕ) → i + suc m ≡ suc (i + m)
    one-more i = omega arith

at-most : (a b c : ℕ) → a ≤ b → b ≤ c → a ≤ c
at-most a b c p q = omega (arith, p, q)

-- THE NEW CONNECTIONS

-- A change that dials connections, each with a first message of at most this weight, and leaves lower ends and replicas as they are.
pub record DialsMany (w : World) (k : Change) (cost : ℕ) : Type 0 where
  pub downs : (c : ℕ) → k.downs c ≡ []
  pub ups : (c : ℕ) → k.ups c ≡ []
  pub lower : k.lower ≡ w.lowers k.lower_at
  pub replica : k.replica ≡ w.replicas k.node k.block
  pub new : (c : ℕ) → w.next_conn ≤ c → IsUndialled w c
  pub weighs : (i : ℕ) (d : Dial) → slice_get k.dials i ≡ Some d → (h : ℕ) → down_weight h d.request ≤ cost

dial-there : (n c : ℕ) (ds : List Dial) (d : Dial) → dial_at n ds c ≡ Some d → slice_get ds (c - n) ≡ Some d
dial-there n c ds d e = at (nat_le n c) e
  where
    at : (b : Bool) → (if b then slice_get ds (c - n) else None) ≡ Some d → slice_get ds (c - n) ≡ Some d
    at true q = q
    at false q = absurd (none-some d q)

listed-weighs : (w : World) (k : Change) (cost c h : ℕ) → DialsMany w k cost → (o : Option Dial) → dial_at w.next_conn k.dials c ≡ o
    → sum_by (down_weight h) (listed (option_map (λ d. d.request) o)) ≤ cost
listed-weighs w k cost c h m None e = omega arith
listed-weighs w k cost c h m (Some d) e = omega (arith, sum_by-cons (down_weight h) d.request [], m.weighs (c - w.next_conn) d (dial-there w.next_conn c k.dials d e) h)

new-downs : (w : World) (k : Change) (cost c h : ℕ) → DialsMany w k cost → w.next_conn ≤ c → sum_by (down_weight h) ((apply w k).downs c) ≤ cost
unfolding apply
new-downs w k cost c h m le = rw (m.new c le).downs (rw (m.downs c) (listed-weighs w k cost c h m (dial_at w.next_conn k.dials c) refl))

new-ups : (w : World) (k : Change) (cost c : ℕ) → DialsMany w k cost → w.next_conn ≤ c → (apply w k).ups c ≡ []
unfolding apply
new-ups w k cost c m le = rw (m.new c le).ups (m.ups c)

many-more : (w : World) (k : Change) → (apply w k).next_conn ≡ w.next_conn + length k.dials
unfolding apply
many-more w k = refl

pub dials-weigh : (w : World) (k : Change) (cost : ℕ) → DialsMany w k cost → traffic (apply w k) ≤ traffic w + (times 2 (length k.dials) + times cost (length k.dials))
unfolding traffic
dials-weigh w k cost m =
    let v : World = apply w k in
    let n : ℕ = w.next_conn in
    let l : ℕ = length k.dials in
    let eases : (c : ℕ) → Eases w k c = λ c. rw m.replica (omega arith) in
    let here-lower : (c : ℕ) → n ≤ c → v.lowers c ≡ idle = λ c le. lower-stays w k c m.lower ∙ (m.new c le).lower in
    let old-lowers = sum-le (λ c. lower_weight (w.lowers c)) (λ c. lower_weight (v.lowers c)) n (λ c lt. rw (lower-stays w k c m.lower) (omega arith)) in
    let old-held = sum-le (entries w) (entries v) n (λ c lt. rw (lower-stays w k c m.lower) (entries-each w k c (w.lowers c) lt (eases c))) in
    let downs = sum-many (down_way w) (down_way v) n l cost (downs-quiet w k m.downs)
    (λ c le. at-most (down_way v c) (sum_by (down_weight (hops v c)) (v.downs c)) cost (whole-way (down_weight (hops v c)) (v.down_marks c) (v.downs c)) (new-downs w k cost c (hops v c) m le)) in
    let ups = sum-many (up_way w) (up_way v) n l 0 (ups-quiet w k m.ups) (λ c le. omega (arith, whole-way up_weight (v.up_marks c) (v.ups c), ap (sum_by up_weight) (new-ups w k cost c m le))) in
    let ends = sum-many (sides w) (sides v) n l 2 (sides-same w k) (λ c le. omega (arith, open-most (v.down_marks c), open-most (v.up_marks c))) in
    let lowers = sum-many (λ c. lower_weight (w.lowers c)) (λ c. lower_weight (v.lowers c)) n l 0 (omega (arith, old-lowers)) (λ c le. omega (arith, ap lower_weight (here-lower c le))) in
    let held = sum-many (entries w) (entries v) n l 0 (omega (arith, old-held)) (λ c le. omega (arith, ap (λ (y : Lower). entries_of y v c) (here-lower c le))) in
    let e = many-more w k in
    omega (
      arith,
      downs,
      ups,
      ends,
      lowers,
      held,
      never-is l,
      ap (sum_to (down_way v)) e,
      ap (sum_to (up_way v)) e,
      ap (sum_to (sides v)) e,
      ap (sum_to (λ c. lower_weight (v.lowers c))) e,
      ap (sum_to (entries v)) e,
    )
  where
    never-is : (l : ℕ) → times 0 l ≡ 0
    never-is zero = refl
    never-is (suc l) = omega (arith, never-is l)
