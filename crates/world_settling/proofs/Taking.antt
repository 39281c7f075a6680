-- What stands next is taken: so much falls.
use Rattle.std.proofs.Common.{◌≡◌, ℕ, ◌<◌, ◌≤◌, ◌+◌, Bool, true, false, Some, refl, arith, eqb-true}
use Rattle.std.specs.Prelude.{sum_by, ◌==◌, if◌then◌else◌}
use Rattle.std.proofs.lemmas.Bool.Decides.{nat_tests}
use Rattle.world.specs.Parts.{Marks, Lower, idle, writes, serves, recovers, ended_below}
use Rattle.world.specs.Worlds.{World, put}
use Rattle.world.specs.Connections.{Next, message, the_end, next_down, next_up, marks_taken, down_taken, up_taken}
use Rattle.world_settling.specs.Traffic.{sum_to, hops, down_weight, up_weight, on_way, down_way, up_way, open_weight, sides, entries, entries_of, traffic}
use Rattle.world_settling.proofs.Sums.{sum-le, sum-fall}
use Rattle.world_settling.proofs.Ways.{next-open, taken-way}

-- ONE CONNECTION

-- where it isn't changed
else-same : (F : ℕ → Marks → ℕ) (m : ℕ → Marks) (c : ℕ) (k : Marks) (i : ℕ) → (i ≡ c → ⊥) → F i (put m c k i) ≤ F i (m i)
else-same F m c k i ne = at (i == c) refl
  where
    at : (b : Bool) → (i == c) ≡ b → F i (if b then k else m i) ≤ F i (m i)
    at true e = absurd (ne (eqb-true i c e))
    at false e = omega arith

here-is : (F : ℕ → Marks → ℕ) (m : ℕ → Marks) (c : ℕ) (k : Marks) → F c (put m c k c) ≡ F c k
here-is F m c k = rw (itself c) refl
  where
    itself : (n : ℕ) → (n == n) ≡ true
    itself n = grind (arith, nat_tests)

-- a table that changes at one connection, by so much less
pub put-falls : (F : ℕ → Marks → ℕ) (m : ℕ → Marks) (n c a : ℕ) (k : Marks) → c < n → F c k + a ≤ F c (m c) → sum_to (λ i. F i (put m c k i)) n + a ≤ sum_to (λ i. F i (m i)) n
put-falls F m n c a k lt h =
    let e = here-is F m c k in
    sum-fall (λ i. F i (m i)) (λ i. F i (put m c k i)) n c a (λ i l ne. else-same F m c k i ne) lt (omega (arith, e, h))

end-closes : (k : Marks) → k.over ≡ false → open_weight (marks_taken k the_end) + 1 ≤ open_weight k
end-closes k e = rw e (omega arith)

-- UP

-- what something next weighs
abbrev pub up_paid : Next → ℕ
up_paid (message m) = 2
up_paid the_end = 1

abbrev pub down_paid : ℕ → Next → ℕ
down_paid h (message m) = down_weight h m
down_paid h the_end = 1

held-same : (w : World) (m u : ℕ → Marks) (n : ℕ) → sum_to (entries (record w { down_marks = m; up_marks = u })) n ≤ sum_to (entries w) n
held-same w m u n = sum-le (entries w) (entries (record w { down_marks = m; up_marks = u })) n (λ c lt. held-as c (w.lowers c))
  where
    held-as : (c : ℕ) (l : Lower) → entries_of l (record w { down_marks = m; up_marks = u }) c ≤ entries_of l w c
    held-as c (writes y) = omega arith
    held-as c idle = omega arith
    held-as c (serves b s) = omega arith
    held-as c recovers = omega arith
    held-as c ended_below = omega arith

pub up-taken-falls : (w : World) (c : ℕ) (x : Next) → c < w.next_conn → next_up w c ≡ Some x → traffic (up_taken w c x) + up_paid x ≤ traffic w
unfolding traffic up_taken
up-taken-falls w c (message m) lt e =
    let k : Marks = marks_taken (w.up_marks c) (message m) in
    let ways : sum_to (up_way (record w { up_marks = put w.up_marks c k })) w.next_conn + 2 ≤ sum_to (up_way w) w.next_conn =
    put-falls (λ i q. sum_by up_weight (on_way q (w.ups i))) w.up_marks w.next_conn c 2 k lt (taken-way up_weight (w.ups c) (w.up_marks c) m e) in
    let ends : sum_to (sides (record w { up_marks = put w.up_marks c k })) w.next_conn + 0 ≤ sum_to (sides w) w.next_conn =
    put-falls (λ i q. open_weight (w.down_marks i) + open_weight q) w.up_marks w.next_conn c 0 k lt (omega arith) in
    let held = held-same w w.down_marks (put w.up_marks c k) w.next_conn in
    omega (arith, ways, ends, held)
up-taken-falls w c the_end lt e =
    let k : Marks = marks_taken (w.up_marks c) the_end in
    let ways : sum_to (up_way (record w { up_marks = put w.up_marks c k })) w.next_conn + 0 ≤ sum_to (up_way w) w.next_conn =
    put-falls (λ i q. sum_by up_weight (on_way q (w.ups i))) w.up_marks w.next_conn c 0 k lt (omega arith) in
    let closes = end-closes (w.up_marks c) (next-open (w.ups c) (w.up_marks c) the_end e) in
    let ends : sum_to (sides (record w { up_marks = put w.up_marks c k })) w.next_conn + 1 ≤ sum_to (sides w) w.next_conn =
    put-falls (λ i q. open_weight (w.down_marks i) + open_weight q) w.up_marks w.next_conn c 1 k lt (omega (arith, closes)) in
    let held = held-same w w.down_marks (put w.up_marks c k) w.next_conn in
    omega (arith, ways, ends, held)

pub down-taken-falls : (w : World) (c : ℕ) (x : Next) → c < w.next_conn → next_down w c ≡ Some x → traffic (down_taken w c x) + down_paid (hops w c) x ≤ traffic w
unfolding traffic down_taken
down-taken-falls w c (message m) lt e =
    let k : Marks = marks_taken (w.down_marks c) (message m) in
    let ways : sum_to (down_way (record w { down_marks = put w.down_marks c k })) w.next_conn + down_weight (hops w c) m ≤ sum_to (down_way w) w.next_conn =
    put-falls (λ i q. sum_by (down_weight (hops w i)) (on_way q (w.downs i))) w.down_marks w.next_conn c (down_weight (hops w c) m) k lt
    (taken-way (down_weight (hops w c)) (w.downs c) (w.down_marks c) m e) in
    let ends : sum_to (sides (record w { down_marks = put w.down_marks c k })) w.next_conn + 0 ≤ sum_to (sides w) w.next_conn =
    put-falls (λ i q. open_weight q + open_weight (w.up_marks i)) w.down_marks w.next_conn c 0 k lt (omega arith) in
    let held = held-same w (put w.down_marks c k) w.up_marks w.next_conn in
    omega (arith, ways, ends, held)
down-taken-falls w c the_end lt e =
    let k : Marks = marks_taken (w.down_marks c) the_end in
    let ways : sum_to (down_way (record w { down_marks = put w.down_marks c k })) w.next_conn + 0 ≤ sum_to (down_way w) w.next_conn =
    put-falls (λ i q. sum_by (down_weight (hops w i)) (on_way q (w.downs i))) w.down_marks w.next_conn c 0 k lt (omega arith) in
    let closes = end-closes (w.down_marks c) (next-open (w.downs c) (w.down_marks c) the_end e) in
    let ends : sum_to (sides (record w { down_marks = put w.down_marks c k })) w.next_conn + 1 ≤ sum_to (sides w) w.next_conn =
    put-falls (λ i q. open_weight q + open_weight (w.up_marks i)) w.down_marks w.next_conn c 1 k lt (omega (arith, closes)) in
    let held = held-same w (put w.down_marks c k) w.up_marks w.next_conn in
    omega (arith, ways, ends, held)
