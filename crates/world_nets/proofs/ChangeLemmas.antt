-- What a change, and what is taken, make of a direction.
use Rattle.std.proofs.Common.{◌≡◌, ℕ, Bool, true, false, List, ◌++◌, refl, ap, subst, arith}
use Rattle.std.specs.Prelude.{◌==◌, cond, option_map, if◌then◌else◌}
use Rattle.std.proofs.lemmas.Bool.{eqb-true}
use Rattle.std.proofs.lemmas.Bool.Decides.{nat_tests}
use Rattle.std.proofs.lemmas.List.{append_assoc}
use Rattle.road_traffic.proofs.TrafficLemmas.{same-itself}
use Rattle.world.specs.Parts.{Message, Marks}
use Rattle.world.specs.Worlds.{World, Change, apply, dial_at, listed, shut_marks, put, downs_with}
use Rattle.world.specs.Connections.{Next, down_taken, up_taken, marks_taken}
use Rattle.world_nets.specs.Rows.{Row, rows_of, shuts_if, takes_row, rows_taken}
use Rattle.world_nets.specs.Changes.{sent_in, rows_changed, world_taken}

-- CHANGES

row-by : (b : Bool) (xs ys : List Message) (k : Marks) → xs ≡ ys
    → ◌≡◌ {A = Row} (record { sent = xs; marks = if b then shut_marks xs k else k }) (shuts_if b (record { sent = ys; marks = k }))
row-by true xs ys k e = ap (λ (zs : List Message). record { sent = zs; marks = shut_marks zs k }) e
row-by false xs ys k e = ap (λ (zs : List Message). record { sent = zs; marks = k }) e

pub changed_so : (w : World) (k : Change) (c : ℕ) (d : Bool) → rows_of (apply w k) c d ≡ rows_changed (rows_of w) (sent_in w k) k.shuts c d
unfolding apply
changed_so w k c true =
    row-by (k.shuts c) (downs_with w k c) (w.downs c ++ sent_in w k c true) (w.down_marks c)
    (append_assoc (w.downs c) (k.downs c) (listed (option_map (λ d. d.request) (dial_at w.next_conn k.dials c))))
changed_so w k c false = row-by (k.shuts c) (w.ups c ++ k.ups c) (w.ups c ++ k.ups c) (w.up_marks c) refl

-- WHAT WAS TAKEN

pub flip-false : (a b : ℕ) → (a == b) ≡ false → (b == a) ≡ false
flip-false a b h = grind (arith, nat_tests)

-- the row of a direction, where something was taken on one connection
taken-marks : (conn c : ℕ) (sent : List Message) (marks : ℕ → Marks) (x : Next)
    → ◌≡◌ {A = Row} (record { sent = sent; marks = put marks conn (marks_taken (marks conn) x) c }) (cond (conn == c) (takes_row x (record { sent = sent; marks = marks c })) (record { sent = sent; marks = marks c }))
taken-marks conn c sent marks x =
    elim (conn == c) as (λ b. (conn == c) ≡ b → ◌≡◌ {A = Row} (record { sent = sent; marks = put marks conn (marks_taken (marks conn) x) c }) (cond b (takes_row x (record { sent = sent; marks = marks c })) (record { sent = sent; marks = marks c }))) [
      | true ↦ λ e. subst (λ n. ◌≡◌ {A = Row} (record { sent = sent; marks = put marks conn (marks_taken (marks conn) x) n }) (takes_row x (record { sent = sent; marks = marks n }))) (eqb-true conn c e) (rw (same-itself conn))
      | false ↦ λ e. rw (flip-false conn c e)
    ] refl

same-either : (b : Bool) (r : Row) → r ≡ cond b r r
same-either true r = refl
same-either false r = refl

pub taken_so : (w : World) (conn : ℕ) (lower : Bool) (x : Next) (c : ℕ) (d : Bool) → rows_of (world_taken w conn lower x) c d ≡ rows_taken (rows_of w) conn lower x c d
unfolding down_taken up_taken
taken_so w conn true x c true = taken-marks conn c (w.downs c) w.down_marks x
taken_so w conn true x c false = same-either (conn == c) (rows_of w c false)
taken_so w conn false x c true = same-either (conn == c) (rows_of w c true)
taken_so w conn false x c false = taken-marks conn c (w.ups c) w.up_marks x
