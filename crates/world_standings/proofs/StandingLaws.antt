-- What stands next on a connection of the roads is what stands next in the world.
use Rattle.std.proofs.Common.{◌≡◌, ◌<◌, ◌≤◌, ℕ, zero, suc, Bool, true, false, if◌then◌else◌, List, [], ◌∷◌, length, take, drop, map, slice_get, option_map, Option, Some, None, IfSome, is_some, refl, sym, ap, ◌∙◌, subst, arith}
use Rattle.std.specs.Prelude.{nat_le}
use Rattle.std.proofs.Math.Seq.{drop-nil}
use Rattle.std.proofs.lemmas.Bool.Decides.{nat_tests}
use Rattle.std.proofs.lemmas.List.{length-map}
use Rattle.hd_base.specs.Channels.{next_standing}
use Rattle.road_traffic.specs.Showing.{standing_on}
use Rattle.road_traffic.specs.Traffic.{Traffic, Fits, before_end}
use Rattle.world_nets.specs.World.Parts.{Message}
use Rattle.world_nets.specs.World.Connections.{Next, message, the_end, ends_at, next_on}
use Rattle.world_nets.specs.Nets.{IsRow}
use Rattle.world_nets.specs.Rows.{Row, text_of}
use Rattle.world_standings.specs.Standings.{standing_for, stands, StandingsAgree}

plain_standing : (sent : List Message) (i : ℕ) → next_standing (drop i (map text_of sent)) false ≡ standing_for (option_map message (slice_get sent i))
plain_standing [] i = ap (λ (xs : List (List ℕ)). next_standing xs false) (drop-nil i)
plain_standing (m ∷ ms) zero = refl
plain_standing (m ∷ ms) (suc i) = plain_standing ms i

ended_standing : (sent : List Message) (i n : ℕ) → i < n → n ≤ length sent → next_standing (drop i (take n (map text_of sent))) true ≡ standing_for (option_map message (slice_get sent i))
ended_standing [] i n h le = absurd (omega arith)
ended_standing (m ∷ ms) i zero h le = absurd (omega arith)
ended_standing (m ∷ ms) zero (suc n) h le = refl
ended_standing (m ∷ ms) (suc i) (suc n) h le = ended_standing ms i n (omega arith) (omega arith)

none_behind : (xs : List (List ℕ)) (i n : ℕ) → n ≤ i → drop i (take n xs) ≡ []
none_behind xs i zero h = drop-nil i
none_behind [] i (suc n) h = drop-nil i
none_behind (x ∷ xs) zero (suc n) h = absurd (omega arith)
none_behind (x ∷ xs) (suc i) (suc n) h = none_behind xs i n (omega arith)

is_behind : (n i : ℕ) → nat_le n i ≡ true → n ≤ i
is_behind n i h = grind (arith, nat_tests)

is_before : (n i : ℕ) → nat_le n i ≡ false → i < n
is_before n i h = grind (arith, nat_tests)

end_standing : (b : Bool) (sent : List Message) (i n : ℕ) → nat_le n i ≡ b → n ≤ length sent → next_standing (drop i (take n (map text_of sent))) true ≡ standing_for (if b then Some the_end else option_map message (slice_get sent i))
end_standing true sent i n h le = ap (λ (xs : List (List ℕ)). next_standing xs true) (none_behind (map text_of sent) i n (is_behind n i h))
end_standing false sent i n h le = ended_standing sent i n (is_before n i h) le

standing_by : (sent : List Message) (i : ℕ) (e : Option ℕ) → IfSome e (λ n. (i ≤ n) × (n ≤ length sent)) → next_standing (drop i (before_end e (map text_of sent))) (is_some e) ≡ standing_for (if ends_at e i then Some the_end else option_map message (slice_get sent i))
standing_by sent i None h = plain_standing sent i
standing_by sent i (Some n) h = end_standing (nat_le n i) sent i n refl h.1

fits_so : (x y : Option ℕ) (a b l m : ℕ) → x ≡ y → a ≡ b → l ≡ m → IfSome x (λ n. (a ≤ n) × (n ≤ l)) → IfSome y (λ n. (b ≤ n) × (n ≤ m))
fits_so x y a b l m e f g h =
    subst (λ (z : Option ℕ). IfSome z (λ n. (b ≤ n) × (n ≤ m))) e (subst (λ (k : ℕ). IfSome x (λ n. (k ≤ n) × (n ≤ m))) f (subst (λ (k : ℕ). IfSome x (λ n. (a ≤ n) × (n ≤ k))) g h))

pub row-standing : StandingsAgree
row-standing r t is fits taking taken =
    let taken_is : t.taken ≡ r.marks.taken = is.taken taking in
    let end_is : t.end ≡ r.marks.end = is.end taking in
    let bounds = fits_so t.end r.marks.end t.taken r.marks.taken (length t.sent) (length r.sent) end_is taken_is (ap length is.sent ∙ length-map r.sent text_of) fits.end in
    (λ j. next_standing (drop (taken_is j) (before_end (end_is j) (is.sent j))) (is_some (end_is j)))
    ∙ (standing_by r.sent r.marks.taken r.marks.end bounds
    ∙ sym (ap (λ (b : Bool). standing_for (if b then None else (if ends_at r.marks.end r.marks.taken then Some the_end else option_map message (slice_get r.sent r.marks.taken)))) taken))

pub stands_as : (x : Option Next) → stands (standing_for x) ≡ is_some x
stands_as None = refl
stands_as (Some (message m)) = refl
stands_as (Some the_end) = refl

-- Something stands next on the roads just where it does in the world, on a direction of which the end wasn't taken.
pub row_stands : (r : Row) (t : Traffic) → IsRow r t → Fits t → t.over ≡ false → r.marks.over ≡ false → stands (standing_on t) ≡ is_some (next_on r.sent r.marks)
row_stands r t is fits taking taken = ap stands (row-standing r t is fits taking taken) ∙ stands_as (next_on r.sent r.marks)
