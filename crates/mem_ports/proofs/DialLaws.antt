-- Laws of the dials that wait.
use Rattle.std.proofs.Common.{◌≡◌, ◌==◌, ℕ, ◌+◌, ◌-◌, Bool, true, false, cond, nat_lt, nat_le, List, [], ◌∷◌, ◌++◌, get_or, slice_get, drop, replicate, Some, zero, suc, arith, refl, sym, ap, ◌∙◌}
use Rattle.std.specs.List.{remove}
use Rattle.std.proofs.lemmas.Grind.{common_steps}
use Rattle.std.proofs.lemmas.Bool.Decides.{nat_tests}
use Rattle.mem_ports.specs.declared.dials.Dial.{Dial}
use Rattle.mem_ports.specs.Roads.{waiting_at, dials_below, listening_of}
use Rattle.mem_ports.proofs.Places.{IsPlace, IsNowhere}

-- the dial is at this port
abbrev pub is_at : ℕ → Dial → Bool
is_at port d = d.port == port

at_port : (a b : ℕ) → (a == b) ≡ true → a ≡ b
at_port a b e = grind (arith, nat_tests)

in_cond : (a b : Bool) (m n : ℕ) (l : List ℕ) → cond a (m ∷ cond b (l ++ n ∷ []) l) (cond b (l ++ n ∷ []) l) ≡ cond b (cond a (m ∷ l) l ++ n ∷ []) (cond a (m ∷ l) l)
in_cond true true m n l = refl
in_cond true false m n l = refl
in_cond false true m n l = refl
in_cond false false m n l = refl

waiting_push : (ds : List Dial) (x : Dial) (p : ℕ) → waiting_at (ds ++ x ∷ []) p ≡ cond (p == x.port) (waiting_at ds p ++ x.conn.0 ∷ []) (waiting_at ds p)
waiting_push [] x p = refl
waiting_push (d ∷ ds) x p = ap (λ l. cond (p == d.port) (d.conn.0 ∷ l) l) (waiting_push ds x p) ∙ in_cond (p == d.port) (p == x.port) d.conn.0 x.conn.0 (waiting_at ds p)

-- One more dial waits behind the others.
pub waiting-push : (ds : List Dial) (x : Dial) → waiting_at (ds ++ x ∷ []) ≡ (λ p. cond (p == x.port) (waiting_at ds p ++ x.conn.0 ∷ []) (waiting_at ds p))
waiting-push ds x = λ j p. waiting_push ds x p j

first_gone : (b : Bool) (m : ℕ) (l : List ℕ) → l ≡ cond b (drop 1 (cond b (m ∷ l) l)) (cond b (m ∷ l) l)
first_gone true m l = refl
first_gone false m l = refl

later_gone : (a b : Bool) (m : ℕ) (l : List ℕ) → (b ≡ true → a ≡ false) → cond a (m ∷ cond b (drop 1 l) l) (cond b (drop 1 l) l) ≡ cond b (drop 1 (cond a (m ∷ l) l)) (cond a (m ∷ l) l)
later_gone true true m l apart = absurd (cc (apart refl))
later_gone true false m l apart = refl
later_gone false true m l apart = refl
later_gone false false m l apart = refl

waiting_remove : (ds : List Dial) (port i p : ℕ) → IsPlace (is_at port) ds i → waiting_at (remove ds i) p ≡ cond (p == port) (drop 1 (waiting_at ds p)) (waiting_at ds p)
waiting_remove [] port i p at = absurd at
waiting_remove (d ∷ ds) port zero p at = let same : d.port ≡ port = at_port d.port port at in rw same (first_gone (p == port) d.conn.0 (waiting_at ds p))
waiting_remove (d ∷ ds) port (suc i) p at =
    let apart : (d.port == port) ≡ false = at.0 in
    ap (λ l. cond (p == d.port) (d.conn.0 ∷ l) l) (waiting_remove ds port i p at.1) ∙ later_gone (p == d.port) (p == port) d.conn.0 (waiting_at ds p) (λ here. grind (arith, nat_tests))

-- The oldest dial at the port no longer waits.
pub waiting-remove : (ds : List Dial) (port i : ℕ) → IsPlace (is_at port) ds i → waiting_at (remove ds i) ≡ (λ p. cond (p == port) (drop 1 (waiting_at ds p)) (waiting_at ds p))
waiting-remove ds port i at = λ j p. waiting_remove ds port i p at j

pub waiting-first : (ds : List Dial) (port i : ℕ) (x : Dial) → IsPlace (is_at port) ds i → x ≡ get_or ds i x → slice_get (waiting_at ds port) 0 ≡ Some x.conn.0
waiting-first [] port i x at is = absurd at
waiting-first (d ∷ ds) port zero x at is =
    let here : (port == d.port) ≡ true = grind (arith, nat_tests) in rw here (ap (λ y. Some y.conn.0) (sym is))
waiting-first (d ∷ ds) port (suc i) x at is =
    let apart : (d.port == port) ≡ false = at.0 in
    let here : (port == d.port) ≡ false = grind (arith, nat_tests) in rw here (waiting-first ds port i x at.1 is)

pub waiting-nowhere : (ds : List Dial) (port : ℕ) → IsNowhere (is_at port) ds → waiting_at ds port ≡ []
waiting-nowhere [] port none = refl
waiting-nowhere (d ∷ ds) port none =
    let apart : (d.port == port) ≡ false = none.0 in
    let here : (port == d.port) ≡ false = grind (arith, nat_tests) in rw here (waiting-nowhere ds port none.1)

-- The dials that are left have numbers below this one.
pub below-remove : (n : ℕ) (ds : List Dial) (i : ℕ) → dials_below n ds ≡ true → dials_below n (remove ds i) ≡ true
below-remove n [] zero below = refl
below-remove n [] (suc i) below = refl
below-remove n (d ∷ ds) zero below = grind (arith, common_steps)
below-remove n (d ∷ ds) (suc i) below =
    let rest = below-remove n ds i (grind (arith, common_steps)) in
    let here : nat_lt d.conn.0 n ≡ true = grind (arith, common_steps) in rw here rest

-- One more dial with the next number.
pub below-push : (n m : ℕ) (ds : List Dial) (x : Dial) → dials_below n ds ≡ true → x.conn.0 ≡ n → m ≡ n + 1 → dials_below m (ds ++ x ∷ []) ≡ true
below-push n m [] x below is next = let here : nat_lt x.conn.0 m ≡ true = grind (arith, nat_tests) in rw here refl
below-push n m (d ∷ ds) x below is next =
    let rest = below-push n m ds x (grind (arith, common_steps)) is next in
    let old : nat_lt d.conn.0 n ≡ true = grind (arith, common_steps) in
    let here : nat_lt d.conn.0 m ≡ true = grind (arith, nat_tests) in rw here rest

none_there : (n k : ℕ) → get_or (replicate n false) k false ≡ false
none_there zero k = refl
none_there (suc n) zero = refl
none_there (suc n) (suc k) = none_there n k

-- Nobody listens at first.
pub listening-none : (n p : ℕ) → listening_of (replicate n false) p ≡ false
listening-none n p = rw (none_there n (p - 9866)) (elim (nat_le 9866 p) as (λ b. cond b false false ≡ false) [ true ↦ refl | false ↦ refl ])
