-- What a change makes of what is on its way, connection by connection and over all.
use Rattle.std.proofs.Common.{◌≡◌, ℕ, ◌<◌, ◌≤◌, ◌+◌, ◌-◌, Bool, true, false, List, [], ◌∷◌, ◌++◌, slice_get, Option, Some, None, option_map, unwrap_or, append-nil, refl, sym, ap, ◌∙◌, subst, arith, eqb-true}
use Rattle.std.specs.Prelude.{sum_by, nat_le, ◌==◌, ◌&&◌, if◌then◌else◌}
use Rattle.std.proofs.lemmas.Bool.Decides.{nat_tests}
use Rattle.std.proofs.lemmas.Bool.{ne_eqb}
use Rattle.std.proofs.lemmas.Option.{none-some}
use Rattle.world.specs.Parts.{Message, Marks, Dialled, Lower, idle, writes, serves, recovers, ended_below}
use Rattle.world.specs.Worlds.{World, Dial, Change, put, put_at, dial_at, shut_marks, downs_with, ups_with, dialled_with, apply}
use Rattle.world.specs.Connections.{sent_on}
use Rattle.world.specs.Nodes.{replica_at, block_of}
use Rattle.world_settling.specs.Traffic.{sum_to, hops, down_weight, up_weight, on_way, down_way, up_way, open_weight, sides, entries_by, entries_of}
use Rattle.world_settling.proofs.Sums.{sum-le, sum-rise}
use Rattle.world_settling.proofs.Ways.{sent-way, shut-way}

-- OLD CONNECTIONS

-- below the next number nothing is dialled
pub old-dial : (n c : ℕ) (ds : List Dial) → c < n → dial_at n ds c ≡ None
old-dial n c ds lt = at (nat_le n c) refl
  where
    at : (b : Bool) → nat_le n c ≡ b → (if b then slice_get ds (c - n) else None) ≡ None
    at true e = absurd (grind (arith, nat_tests, e, lt))
    at false e = refl

pub old-downs : (w : World) (k : Change) (c : ℕ) → c < w.next_conn → downs_with w k c ≡ w.downs c ++ k.downs c
old-downs w k c lt = rw (old-dial w.next_conn c k.dials lt) (append-nil (w.downs c ++ k.downs c))

-- something was sent down, or is not sent now
pub data Begun (w : World) (k : Change) (c : ℕ) : Type 0 where
  was : (m : Message) → slice_get (w.downs c) 0 ≡ Some m → Begun w k c
  none : k.downs c ≡ [] → Begun w k c

first-stays : (xs ys : List Message) (m : Message) → slice_get xs 0 ≡ Some m → slice_get (xs ++ ys) 0 ≡ slice_get xs 0
first-stays [] ys m e = absurd (none-some m e)
first-stays (x ∷ xs) ys m e = refl

first-same : (w : World) (k : Change) (c : ℕ) → Begun w k c → slice_get (w.downs c ++ k.downs c) 0 ≡ slice_get (w.downs c) 0
first-same w k c (was m e) = first-stays (w.downs c) (k.downs c) m e
first-same w k c (none e) = rw e (ap (λ (xs : List Message). slice_get xs 0) (append-nil (w.downs c)))

-- shut or not, no more is on its way than was sent
with-way : (f : Message → ℕ) (b : Bool) (k : Marks) (xs : List Message) → sum_by f (on_way (if b then shut_marks xs k else k) xs) ≤ sum_by f (on_way k xs)
with-way f true k xs = shut-way f k xs
with-way f false k xs = omega arith

with-open : (b : Bool) (k : Marks) (xs : List Message) → open_weight (if b then shut_marks xs k else k) ≡ open_weight k
with-open true k xs = refl
with-open false k xs = refl

pub down-each : (w : World) (k : Change) (c : ℕ) → c < w.next_conn → Begun w k c → down_way (apply w k) c ≤ down_way w c + sum_by (down_weight (hops w c)) (k.downs c)
unfolding apply
down-each w k c lt b =
    let xs : List Message = w.downs c ++ k.downs c in
    let f : Message → ℕ = down_weight (hops w c) in
    let now : sum_by f (on_way (if k.shuts c then shut_marks xs (w.down_marks c) else w.down_marks c) xs) ≤ sum_by f (on_way (w.down_marks c) (w.downs c)) + sum_by f (k.downs c) =
    omega (arith, with-way f (k.shuts c) (w.down_marks c) xs, sent-way f (w.down_marks c) (w.downs c) (k.downs c)) in
    rw (old-downs w k c lt) (rw (first-same w k c b) now)

pub up-each : (w : World) (k : Change) (c : ℕ) → up_way (apply w k) c ≤ up_way w c + sum_by up_weight (k.ups c)
unfolding apply
up-each w k c =
    let xs : List Message = w.ups c ++ k.ups c in
    omega (arith, with-way up_weight (k.shuts c) (w.up_marks c) xs, sent-way up_weight (w.up_marks c) (w.ups c) (k.ups c))

pub sides-each : (w : World) (k : Change) (c : ℕ) → sides (apply w k) c ≡ sides w c
unfolding apply
sides-each w k c =
    let d = with-open (k.shuts c) (w.down_marks c) (downs_with w k c) in
    let u = with-open (k.shuts c) (w.up_marks c) (ups_with w k c) in
    omega (arith, d, u)

-- ENTRIES

both : (a b : Bool) → (a && b) ≡ true → (a ≡ true) × (b ≡ true)
both true b e = (refl, e)
both false b e = absurd (never e)
  where
    never : false ≡ true → ⊥
    never q = cc

-- the replica that changes has no more entries of a connection
abbrev pub Eases : World → Change → ℕ → Type 0
Eases w k c = entries_by c k.replica.known ≤ entries_by c (w.replicas k.node k.block).known

-- the ends of an old connection stay
pub old-dialled : (w : World) (k : Change) (c : ℕ) → c < w.next_conn → dialled_with w k c ≡ w.dialled c
old-dialled w k c lt = ap (λ (o : Option Dial). unwrap_or (option_map (λ d. d.dialled) o) (w.dialled c)) (old-dial w.next_conn c k.dials lt)

put-eases : (w : World) (k : Change) (c n b : ℕ) → Eases w k c → entries_by c (put_at w.replicas k.node k.block k.replica n b).known ≤ entries_by c (w.replicas n b).known
put-eases w k c n b h = at (n == k.node && b == k.block) refl
  where
    at : (t : Bool) → (n == k.node && b == k.block) ≡ t → entries_by c (if t then k.replica else w.replicas n b).known ≤ entries_by c (w.replicas n b).known
    at true e =
        let p = both (n == k.node) (b == k.block) e in
        let m : n ≡ k.node = eqb-true n k.node p.0 in
        let l : b ≡ k.block = eqb-true b k.block p.1 in
        let same : w.replicas k.node k.block ≡ w.replicas n b = ap (λ (i : ℕ). w.replicas i k.block) (sym m) ∙ ap (w.replicas n) (sym l) in
        let held = ap (λ r. entries_by c r.known) same in
        omega (arith, h, held)
    at false e = omega arith

pub replica-each : (w : World) (k : Change) (c b : ℕ) → c < w.next_conn → Eases w k c → entries_by c (replica_at (apply w k) c b).known ≤ entries_by c (replica_at w c b).known
unfolding apply
replica-each w k c b lt h =
    subst (λ (d : Dialled). entries_by c (put_at w.replicas k.node k.block k.replica d.to.node b).known ≤ entries_by c (w.replicas (w.dialled c).to.node b).known)
    (sym (old-dialled w k c lt)) (put-eases w k c (w.dialled c).to.node b h)

pub entries-each : (w : World) (k : Change) (c : ℕ) (l : Lower) → c < w.next_conn → Eases w k c → entries_of l (apply w k) c ≤ entries_of l w c
entries-each w k c (writes m) lt h = replica-each w k c (block_of m.fields) lt h
entries-each w k c idle lt h = omega arith
entries-each w k c (serves b s) lt h = omega arith
entries-each w k c recovers lt h = omega arith
entries-each w k c ended_below lt h = omega arith

-- ALL OLD CONNECTIONS

pub put-other : {A : Type 0} (f : ℕ → A) (k i : ℕ) (x : A) → (i ≡ k → ⊥) → put f k x i ≡ f i
put-other f k i x ne = rw (ne_eqb i k ne) refl

pub put-here : {A : Type 0} (f : ℕ → A) (k : ℕ) (x : A) → put f k x k ≡ x
put-here f k x = rw (eqb-self k) refl
  where
    eqb-self : (n : ℕ) → (n == n) ≡ true
    eqb-self n = grind (arith, nat_tests)

pub downs-quiet : (w : World) (k : Change) → ((c : ℕ) → k.downs c ≡ []) → sum_to (down_way (apply w k)) w.next_conn ≤ sum_to (down_way w) w.next_conn
downs-quiet w k h = sum-le (down_way w) (down_way (apply w k)) w.next_conn (λ c lt. let e = ap (sum_by (down_weight (hops w c))) (h c) in omega (arith, down-each w k c lt (none (h c)), e))

pub ups-quiet : (w : World) (k : Change) → ((c : ℕ) → k.ups c ≡ []) → sum_to (up_way (apply w k)) w.next_conn ≤ sum_to (up_way w) w.next_conn
ups-quiet w k h = sum-le (up_way w) (up_way (apply w k)) w.next_conn (λ c lt. let e = ap (sum_by up_weight) (h c) in omega (arith, up-each w k c, e))

pub sides-same : (w : World) (k : Change) → sum_to (sides (apply w k)) w.next_conn ≤ sum_to (sides w) w.next_conn
sides-same w k = sum-le (sides w) (sides (apply w k)) w.next_conn (λ c lt. let e = sides-each w k c in omega (arith, e))

-- SENDING

pub record HasFirst (xs : List Message) : Type 0 where
  pub message : Message
  pub is : slice_get xs 0 ≡ Some message

pub sent-else : (d c : ℕ) (ms : List Message) → (c ≡ d → ⊥) → sent_on (Some d) ms c ≡ []
sent-else d c ms ne = rw (ne_eqb c d ne) refl

sent-here : (d : ℕ) (ms : List Message) → sent_on (Some d) ms d ≡ ms
sent-here d ms = rw (itself d) refl
  where
    itself : (n : ℕ) → (n == n) ≡ true
    itself n = grind (arith, nat_tests)

pub downs-sent : (w : World) (k : Change) (d : ℕ) (ms : List Message) → ((c : ℕ) → k.downs c ≡ sent_on (Some d) ms c) → HasFirst (w.downs d)
    → sum_to (down_way (apply w k)) w.next_conn ≤ sum_to (down_way w) w.next_conn + sum_by (down_weight (hops w d)) ms
downs-sent w k d ms h b = sum-rise (down_way w) (down_way (apply w k)) w.next_conn d (sum_by (down_weight (hops w d)) ms) others here
  where
    others : (i : ℕ) → i < w.next_conn → (i ≡ d → ⊥) → down_way (apply w k) i ≤ down_way w i
    others i l ne =
        let e : k.downs i ≡ [] = h i ∙ sent-else d i ms ne in
        let z = ap (sum_by (down_weight (hops w i))) e in
        omega (arith, down-each w k i l (none e), z)

    here : d < w.next_conn → down_way (apply w k) d ≤ down_way w d + sum_by (down_weight (hops w d)) ms
    here l = let z = ap (sum_by (down_weight (hops w d))) (h d ∙ sent-here d ms) in omega (arith, down-each w k d l (was b.message b.is), z)

pub ups-sent : (w : World) (k : Change) (d : ℕ) (ms : List Message) → ((c : ℕ) → k.ups c ≡ sent_on (Some d) ms c)
    → sum_to (up_way (apply w k)) w.next_conn ≤ sum_to (up_way w) w.next_conn + sum_by up_weight ms
ups-sent w k d ms h = sum-rise (up_way w) (up_way (apply w k)) w.next_conn d (sum_by up_weight ms) others here
  where
    others : (i : ℕ) → i < w.next_conn → (i ≡ d → ⊥) → up_way (apply w k) i ≤ up_way w i
    others i l ne =
        let e : k.ups i ≡ [] = h i ∙ sent-else d i ms ne in
        let z = ap (sum_by up_weight) e in
        omega (arith, up-each w k i, z)

    here : d < w.next_conn → up_way (apply w k) d ≤ up_way w d + sum_by up_weight ms
    here l = let z = ap (sum_by up_weight) (h d ∙ sent-here d ms) in omega (arith, up-each w k d, z)
