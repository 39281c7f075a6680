-- What becomes of one direction, and of all.
use Rattle.std.proofs.Common.{◌≡◌, ℕ, ◌+◌, ◌≤◌, ◌<◌, Bool, true, false, List, [], ◌∷◌, ◌++◌, length, take, drop, Option, Some, None, refl, sym, ap, ◌∙◌, subst, arith, zero, suc}
use Rattle.std.specs.Prelude.{cond, map, slice_get, option_map, is_some, unwrap_or, nat_le, if◌then◌else◌}
use Rattle.std.proofs.Math.Seq.{drop-nil}
use Rattle.std.proofs.lemmas.Bool.Decides.{nat_tests}
use Rattle.std.proofs.lemmas.List.{map-append, length-map}
use Rattle.hd_base.specs.Channels.{next_inbox}
use Rattle.road_traffic.specs.Traffic.{Traffic, Traffics, changed, more, closes_if, closes, flushes, one_way, breaks, given_up, draws, on_way, before_end, after_flush, after_loss}
use Rattle.road_traffic.proofs.TrafficLemmas.{each-traffic, same-itself}
use Rattle.world.specs.Parts.{Message, Marks}
use Rattle.world.specs.Connections.{Next, message, the_end, next_on, ends_at, marks_taken}
use Rattle.world_nets.specs.Rows.{Row, Rows, text_of, changed_rows, sends, shuts, shuts_if, flushes_row, takes_row, takes_on, rows_flushed}
use Rattle.world_nets.specs.Nets.{IsRow, AreRows, inbox_for}
use Rattle.world_nets.specs.Laws.{TakesRow}

-- ONE DIRECTION

sent-more : (r : Row) (t : Traffic) (ms : List Message) → IsRow r t → IsRow (sends ms r) (more (map text_of ms) t)
sent-more r t ms is = record { sent = ap (λ xs. xs ++ map text_of ms) is.sent ∙ sym (map-append text_of r.sent ms); taken = is.taken; end = is.end }

closed-row : (r : Row) (t : Traffic) → IsRow r t → IsRow (shuts r) (closes t)
closed-row r t is = record {
  sent = is.sent;
  taken = is.taken;
  end = λ taking. ap Some (ap (λ e. unwrap_or e (length t.sent)) (is.end taking) ∙ ap (λ n. unwrap_or r.marks.end n) (ap length is.sent ∙ length-map r.sent text_of));
}

closed-if : (shut : Bool) (r : Row) (t : Traffic) → IsRow r t → IsRow (shuts_if shut r) (closes_if shut t)
closed-if true r t is = closed-row r t is
closed-if false r t is = is

flushed-row : (lower shut d : Bool) (ms : List Message) (r : Row) (t : Traffic) → IsRow r t → IsRow (flushes_row lower shut ms d r) (flushes lower shut (map text_of ms) d t)
flushed-row true shut true ms r t is = closed-if shut r t is
flushed-row true shut false ms r t is = closed-if shut (sends ms r) (more (map text_of ms) t) (sent-more r t ms is)
flushed-row false shut true ms r t is = closed-if shut (sends ms r) (more (map text_of ms) t) (sent-more r t ms is)
flushed-row false shut false ms r t is = closed-if shut r t is

broken-row : (r : Row) (t : Traffic) → IsRow r t → IsRow (shuts r) (breaks t)
broken-row r t is = record { sent = is.sent; taken = λ taking. cc; end = λ taking. cc }

lost-row : (lower d : Bool) (ms : List Message) (r : Row) (t : Traffic) → IsRow r t → IsRow (flushes_row lower true ms d r) (given_up lower (map text_of ms) d t)
lost-row true true ms r t is = broken-row r t is
lost-row true false ms r t is = closed-row (sends ms r) (more (map text_of ms) t) (sent-more r t ms is)
lost-row false true ms r t is = closed-row (sends ms r) (more (map text_of ms) t) (sent-more r t ms is)
lost-row false false ms r t is = broken-row r t is

-- ALL CONNECTIONS

-- What holds of the connection that changed, and of each other one, holds of all.
all-rows : (rows : Rows) (traffic : Traffics) (conn : ℕ) (f : Bool → Row → Row) (g : Bool → Traffic → Traffic) → AreRows rows traffic
    → ((d : Bool) → IsRow (f d (rows conn d)) (g d (traffic conn d))) → AreRows (changed_rows rows conn f) (changed traffic conn g)
all-rows rows traffic conn f g are here =
    each-traffic traffic conn g (λ c d t. IsRow (changed_rows rows conn f c d) t)
    (λ d. subst (λ b. IsRow (cond b (f d (rows conn d)) (rows conn d)) (g d (traffic conn d))) (sym (same-itself conn)) (here d))
    (λ c d other. subst (λ b. IsRow (cond b (f d (rows c d)) (rows c d)) (traffic c d)) (sym other) (are c d))

pub flushed : (rows : Rows) (traffic : Traffics) (conn : ℕ) (lower shut : Bool) (ms : List Message) → AreRows rows traffic
    → AreRows (rows_flushed rows conn lower shut ms) (after_flush traffic conn lower shut (map text_of ms))
flushed rows traffic conn lower shut ms are =
    all-rows rows traffic conn (flushes_row lower shut ms) (flushes lower shut (map text_of ms)) are
    (λ d. flushed-row lower shut d ms (rows conn d) (traffic conn d) (are conn d))

pub lost : (rows : Rows) (traffic : Traffics) (conn : ℕ) (lower : Bool) (ms : List Message) → AreRows rows traffic
    → AreRows (rows_flushed rows conn lower true ms) (after_loss traffic conn lower (map text_of ms))
lost rows traffic conn lower ms are =
    all-rows rows traffic conn (flushes_row lower true ms) (given_up lower (map text_of ms)) are
    (λ d. lost-row lower d ms (rows conn d) (traffic conn d) (are conn d))

-- WHAT STANDS NEXT

got-at : {A : Type 0} (xs : List A) (i : ℕ) (y : A) → slice_get xs i ≡ Some y → (rest : List A) × (drop i xs ≡ y ∷ rest)
got-at [] i y e = cc
got-at {A} (x ∷ xs) zero y e = let same : x ≡ y = cc in (xs, ap (λ (z : A). z ∷ xs) same)
got-at (x ∷ xs) (suc i) y e = got-at xs i y e

got-text : (ms : List Message) (i : ℕ) (m : Message) → slice_get ms i ≡ Some m → slice_get (map text_of ms) i ≡ Some (text_of m)
got-text [] i m e = cc
got-text (x ∷ ms) zero m e = let same : x ≡ m = cc in ap (λ (z : Message). Some (text_of z)) same
got-text (x ∷ ms) (suc i) m e = got-text ms i m e

got-before : {A : Type 0} (xs : List A) (i n : ℕ) (y : A) → i < n → slice_get xs i ≡ Some y → slice_get (take n xs) i ≡ Some y
got-before [] i n y h e = cc
got-before (x ∷ xs) i zero y h e = absurd (omega arith)
got-before (x ∷ xs) zero (suc n) y h e = e
got-before (x ∷ xs) (suc i) (suc n) y h e = got-before xs i n y (omega arith) e

none-behind : {A : Type 0} (xs : List A) (i n : ℕ) → n ≤ i → drop i (take n xs) ≡ []
none-behind xs i zero h = drop-nil i
none-behind [] i (suc n) h = drop-nil i
none-behind (x ∷ xs) zero (suc n) h = absurd (omega arith)
none-behind (x ∷ xs) (suc i) (suc n) h = none-behind xs i n (omega arith)

is-behind : (n i : ℕ) → nat_le n i ≡ true → n ≤ i
is-behind n i h = grind (arith, nat_tests)

is-before : (n i : ℕ) → nat_le n i ≡ false → i < n
is-before n i h = grind (arith, nat_tests)

-- so the way stands where this is next
Stands : Next → List (List ℕ) → Bool → Type 0
Stands (message m) way ended = (rest : List (List ℕ)) × (way ≡ text_of m ∷ rest)
Stands the_end way ended = (way ≡ []) × (ended ≡ true)

stands-message : (o : Option Message) (sent : List Message) (way : List (List ℕ)) (i : ℕ) (ended : Bool) (x : Next) → option_map message o ≡ Some x
    → ((m : Message) → o ≡ Some m → slice_get way i ≡ Some (text_of m)) → Stands x (drop i way) ended
unfolding Stands
stands-message None sent way i ended x e h = cc
stands-message (Some m) sent way i ended x e h =
    let same : message m ≡ x = cc in
    subst (λ y. Stands y (drop i way) ended) same (got-at way i (text_of m) (h m refl))

stands-before : (b : Bool) (sent : List Message) (i n : ℕ) (x : Next) → nat_le n i ≡ b
    → (if b then Some the_end else option_map message (slice_get sent i)) ≡ Some x → Stands x (drop i (take n (map text_of sent))) true
unfolding Stands
stands-before true sent i n x h e = let same : the_end ≡ x = cc in subst (λ y. Stands y (drop i (take n (map text_of sent))) true) same (none-behind (map text_of sent) i n (is-behind n i h), refl)
stands-before false sent i n x h e =
    stands-message (slice_get sent i) sent (take n (map text_of sent)) i true x e
    (λ m got. got-before (map text_of sent) i n (text_of m) (is-before n i h) (got-text sent i m got))

stands-by : (sent : List Message) (i : ℕ) (end : Option ℕ) (x : Next) → (if ends_at end i then Some the_end else option_map message (slice_get sent i)) ≡ Some x
    → Stands x (drop i (before_end end (map text_of sent))) (is_some end)
stands-by sent i None x e = stands-message (slice_get sent i) sent (map text_of sent) i false x e (λ m got. got-text sent i m got)
stands-by sent i (Some n) x e = stands-before (nat_le n i) sent i n x refl e

stands-next : (sent : List Message) (i : ℕ) (end : Option ℕ) (over : Bool) (x : Next) → next_on sent (record { taken = i; end = end; over = over }) ≡ Some x
    → Stands x (drop i (before_end end (map text_of sent))) (is_some end)
stands-next sent i end true x e = cc
stands-next sent i end false x e = stands-by sent i end x e

-- The way of a direction whose taker hasn't gone.
way-is : (r : Row) (t : Traffic) → IsRow r t → t.over ≡ false → on_way t ≡ drop r.marks.taken (before_end r.marks.end (map text_of r.sent))
way-is r t is taking =
    ap (λ s. drop t.taken (before_end t.end s)) is.sent
    ∙ (ap (λ e. drop t.taken (before_end e (map text_of r.sent))) (is.end taking) ∙ ap (λ n. drop n (before_end r.marks.end (map text_of r.sent))) (is.taken taking))

stands-row : (r : Row) (t : Traffic) (x : Next) → IsRow r t → t.over ≡ false → next_on r.sent r.marks ≡ Some x → Stands x (on_way t) (is_some t.end)
stands-row r t x is taking e =
    subst (λ w. Stands x w (is_some t.end)) (sym (way-is r t is taking))
    (subst (λ o. Stands x (drop r.marks.taken (before_end r.marks.end (map text_of r.sent))) (is_some o)) (sym (is.end taking))
    (stands-next r.sent r.marks.taken r.marks.end r.marks.over x e))

inbox-is : (x : Next) (way : List (List ℕ)) (ended : Bool) → Stands x way ended → next_inbox way ended ≡ inbox_for x
unfolding Stands
inbox-is (message m) way ended s = ap (λ w. next_inbox w ended) s.1
inbox-is the_end way ended s = ap (λ w. next_inbox w ended) s.0 ∙ ap (λ b. next_inbox [] b) s.1

taken-one : (x : Next) (way : List (List ℕ)) (ended : Bool) (k : Marks) → Stands x way ended → k.taken + length (take 1 way) ≡ (marks_taken k x).taken
unfolding Stands
taken-one (message m) way ended k s = ap (λ w. k.taken + length (take 1 w)) s.1
taken-one the_end way ended k s = ap (λ w. k.taken + length (take 1 w)) s.0 ∙ (omega arith)

end-kept : (k : Marks) (x : Next) → (marks_taken k x).end ≡ k.end
end-kept k (message m) = refl
end-kept k the_end = refl

taken-row : (x : Next) (r : Row) (t : Traffic) → IsRow r t → t.over ≡ false → next_on r.sent r.marks ≡ Some x → IsRow (takes_row x r) (draws t)
taken-row x r t is taking e =
    let s = stands-row r t x is taking e in record {
      sent = is.sent;
      taken = λ _. ap (λ n. n + length (take 1 (on_way t))) (is.taken taking) ∙ taken-one x (on_way t) (is_some t.end) r.marks s;
      end = λ _. is.end taking ∙ sym (end-kept r.marks x);
    }

takes-way : (lower d : Bool) (x : Next) (rows : Rows) (traffic : Traffics) (conn : ℕ) → AreRows rows traffic → (traffic conn lower).over ≡ false
    → next_on (rows conn lower).sent (rows conn lower).marks ≡ Some x → IsRow (takes_on lower x d (rows conn d)) (one_way lower draws d (traffic conn d))
takes-way true true x rows traffic conn are taking e = taken-row x (rows conn true) (traffic conn true) (are conn true) taking e
takes-way true false x rows traffic conn are taking e = are conn false
takes-way false true x rows traffic conn are taking e = are conn true
takes-way false false x rows traffic conn are taking e = taken-row x (rows conn false) (traffic conn false) (are conn false) taking e

pub taken : (rows : Rows) (traffic : Traffics) (conn : ℕ) (lower : Bool) (x : Next) → AreRows rows traffic → (traffic conn lower).over ≡ false
    → next_on (rows conn lower).sent (rows conn lower).marks ≡ Some x → TakesRow rows traffic conn lower x
taken rows traffic conn lower x are taking e = record {
  rows_are = all-rows rows traffic conn (takes_on lower x) (one_way lower draws) are (λ d. takes-way lower d x rows traffic conn are taking e);
  holds = inbox-is x (on_way (traffic conn lower)) (is_some (traffic conn lower).end) (stands-row (rows conn lower) (traffic conn lower) x (are conn lower) taking e);
}
