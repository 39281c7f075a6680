-- How one more read or write joins those before it.
use Rattle.std.proofs.Common.{◌≡◌, ℕ, ◌+◌, ◌≤◌, List, ◌++◌, length, take, drop, Option, Some, None, Result, subst, sym, arith, length-append, length-take, take-add}
use Rattle.hd_base.specs.Streams.{Took, Wrote}
use Rattle.hd_base.proofs.StreamLaws.{Took-join, Wrote-join}
use Rattle.hd_base.specs.Faults.{FaultSchedule, FollowsSchedule}
use Rattle.whole_streams.specs.Streams.{NoneFails, TookSome}

-- one more read
pub took_more : (a b c : Option (List ℕ)) (xs piece : List ℕ) (n most : ℕ) → Took a b xs → Took b c (take n piece) → length xs + n ≤ most → TookSome a c most
took_more a b c xs piece n most p q few =
    (xs ++ take n piece, omega (arith, length-append xs (take n piece), length-take n piece), Took-join a b c xs (take n piece) p q)

-- one more write
pub wrote_more : (a b c : Option (List ℕ)) (text rest : List ℕ) (at n : ℕ) → rest ≡ drop at text → Wrote a b (take at text) → Wrote b c (take n rest) → Wrote a c (take (at + n) text)
wrote_more a b c text rest at n e p q =
    let r = rw e at q in
    subst (Wrote a c) (sym (take-add at n text)) (Wrote-join a b c (take at text) (take n (drop at text)) p r)

-- Where no call is to fail, the count stays,
pub follows_still : {T E : Type 0} (old new : Option FaultSchedule) (before now : ℕ) (r : Result T E) → FollowsSchedule old new before now r → NoneFails old → now ≡ before
follows_still None new before now r f none = absurd none
follows_still (Some schedule) new before now r f none = let e = none 0 in let h = rw e at f.counts in omega (arith, h)

-- and no call after it is to fail.
pub follows_on : {T E : Type 0} (old new : Option FaultSchedule) (before now : ℕ) (r : Result T E) → FollowsSchedule old new before now r → NoneFails old → NoneFails new
follows_on None new before now r f none = absurd none
follows_on (Some schedule) new before now r f none = subst NoneFails (sym f.goes_on) (λ k. none (k + 1))
