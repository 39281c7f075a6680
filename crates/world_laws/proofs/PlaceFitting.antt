-- Changes that leave every index in range.
use Rattle.std.proofs.Common.{◌≡◌, ℕ, zero, suc, ◌<◌, ◌≤◌, ◌+◌, ◌-◌, Bool, true, false, List, [], ◌∷◌, length, slice_get, Option, Some, None, option_map, unwrap_or, refl, sym, arith, eqb-true}
use Rattle.std.specs.Prelude.{nat_le, ◌==◌, if◌then◌else◌}
use Rattle.std.proofs.lemmas.Bool.Decides.{nat_tests}
use Rattle.std.proofs.lemmas.Option.{none-some, slice_get_past}
use Rattle.world.specs.Parts.{Upper, by_writer, by_member, by_reader, by_primary, Dialled, Lower, idle, writes, serves, recovers, ended_below, Writing, Reader, no_reader, reads, has_read, Leading, Primary, no_primary, was_told, leads, has_led}
use Rattle.world.specs.Worlds.{World, Dial, Change, dial_at, dialled_with, downs_with, ups_with, apply}
use Rattle.world_laws.specs.Placing.{IsConn, IsUpper, IsDialled, IsLower, IsReader, IsLeading, IsPrimary, IsUndialled, Placed}
use Rattle.world_laws.proofs.FactTables.{if-each, put-each}

-- WHAT STAYS IN RANGE AS CONNECTIONS ARE DIALLED

pub conn-later : (n m : ℕ) (o : Option ℕ) → n ≤ m → IsConn n o → IsConn m o
conn-later n m None le h = record { below = tt }
conn-later n m (Some d) le h = record { below = omega (arith, h.below, le) }

pub upper-later : (n m : ℕ) (u : Upper) → n ≤ m → IsUpper n u → IsUpper m u
upper-later n m (by_member d) le h = omega (arith, h, le)
upper-later n m (by_writer b) le h = tt
upper-later n m (by_reader i) le h = tt
upper-later n m (by_primary i p) le h = tt

pub dialled-later : (nodes n m : ℕ) (d : Dialled) → n ≤ m → IsDialled nodes n d → IsDialled nodes m d
dialled-later nodes n m d le h = record { to = h.to; from = h.from; upper = upper-later n m d.upper le h.upper }

pub lower-later : (n m : ℕ) (l : Lower) → n ≤ m → IsLower n l → IsLower m l
lower-later n m (writes x) le h = conn-later n m x.mirror le h
lower-later n m idle le h = tt
lower-later n m (serves b s) le h = tt
lower-later n m recovers le h = tt
lower-later n m ended_below le h = tt

pub reader-later : (n m : ℕ) (r : Reader) → n ≤ m → IsReader n r → IsReader m r
reader-later n m (reads c s) le h = omega (arith, h, le)
reader-later n m no_reader le h = tt
reader-later n m (has_read r) le h = tt

pub leading-later : (nodes n m : ℕ) (l : Leading) → n ≤ m → IsLeading nodes n l → IsLeading nodes m l
leading-later nodes n m l le h = record { at = h.at; conns_of = λ i c e. omega (arith, h.conns_of i c e, le) }

pub primary-later : (nodes n m : ℕ) (p : Primary) → n ≤ m → IsPrimary nodes n p → IsPrimary nodes m p
primary-later nodes n m (leads l) le h = leading-later nodes n m l le h
primary-later nodes n m no_primary le h = tt
primary-later nodes n m (was_told b t) le h = tt
primary-later nodes n m (has_led r) le h = tt

-- WHAT A CHANGE OWES

-- how many connections there are after a change
abbrev pub conns_after : World → Change → ℕ
conns_after w k = w.next_conn + length k.dials

-- The new connections are in range, nothing is sent or shut where none was dialled, and what is new is in range.
pub record Fits (w : World) (k : Change) : Type 0 where
  pub dials : (i : ℕ) (d : Dial) → slice_get k.dials i ≡ Some d → IsDialled w.nodes (conns_after w k) d.dialled
  pub downs : (c : ℕ) → w.next_conn ≤ c → k.downs c ≡ []
  pub ups : (c : ℕ) → w.next_conn ≤ c → k.ups c ≡ []
  pub shuts : (c : ℕ) → w.next_conn ≤ c → k.shuts c ≡ false
  pub lower_at : w.next_conn ≤ k.lower_at → k.lower ≡ idle
  pub lower : IsLower (conns_after w k) k.lower
  pub writer : IsConn (conns_after w k) k.writer.conn
  pub reader : IsReader (conns_after w k) k.reader
  pub primary : IsPrimary w.nodes (conns_after w k) k.primary

-- A CHANGE THAT FITS LEAVES EVERY INDEX IN RANGE

-- a dial is one of the new ones, and behind them there is none
pub dial-is : (n c : ℕ) (ds : List Dial) (d : Dial) → dial_at n ds c ≡ Some d → slice_get ds (c - n) ≡ Some d
dial-is n c ds d e = dial-as (nat_le n c) e
  where
    dial-as : (b : Bool) → (if b then slice_get ds (c - n) else None) ≡ Some d → slice_get ds (c - n) ≡ Some d
    dial-as true h = h
    dial-as false h = absurd (none-some d h)

pub dial-none : (n c : ℕ) (ds : List Dial) → n + length ds ≤ c → dial_at n ds c ≡ None
dial-none n c ds le =
    if-each (λ (o : Option Dial). o ≡ None) (nat_le n c) (slice_get ds (c - n)) None (λ e. slice_get_past ds (c - n) (omega (arith, le))) (λ e. refl)

get-within : (ds : List Dial) (k : ℕ) → k < length ds → slice_get ds k ≡ None → ⊥
get-within [] k lt e = absurd (omega (arith, lt))
get-within (d ∷ ds) zero lt e = none-some d (sym e)
get-within (d ∷ ds) (suc k) lt e = get-within ds k (omega (arith, lt)) e

pub dial-within : (n c : ℕ) (ds : List Dial) → dial_at n ds c ≡ None → c < n + length ds → c < n
dial-within n c ds e lt = within-as (nat_le n c) refl e
  where
    within-as : (b : Bool) → nat_le n c ≡ b → (if b then slice_get ds (c - n) else None) ≡ None → c < n
    within-as true h none = absurd (get-within ds (c - n) (grind (arith, nat_tests, h, lt)) none)
    within-as false h none = grind (arith, nat_tests, h)

placed-dialled : (w : World) (k : Change) → Placed w → Fits w k → (c : ℕ) → c < conns_after w k → IsDialled w.nodes (conns_after w k) (dialled_with w k c)
placed-dialled w k h f c lt = dialled-as (dial_at w.next_conn k.dials c) refl
  where
    dialled-as : (o : Option Dial) → dial_at w.next_conn k.dials c ≡ o
        → IsDialled w.nodes (conns_after w k) (unwrap_or (option_map (λ d. d.dialled) o) (w.dialled c))
    dialled-as None e = dialled-later w.nodes w.next_conn (conns_after w k) (w.dialled c) (omega arith) (h.dialled c (dial-within w.next_conn c k.dials e lt))
    dialled-as (Some d) e = f.dials (c - w.next_conn) d (dial-is w.next_conn c k.dials d e)

-- what was sent where no connection was dialled, after a change
downs-out : (w : World) (k : Change) → Placed w → Fits w k → (c : ℕ) → conns_after w k ≤ c → downs_with w k c ≡ []
downs-out w k h f c le =
    rw ((h.undialled c (omega (arith, le))).downs) (rw (f.downs c (omega (arith, le))) (rw (dial-none w.next_conn c k.dials le) refl))

ups-out : (w : World) (k : Change) → Placed w → Fits w k → (c : ℕ) → conns_after w k ≤ c → ups_with w k c ≡ []
ups-out w k h f c le = rw ((h.undialled c (omega (arith, le))).ups) (rw (f.ups c (omega (arith, le))) refl)

placed-undialled : (w : World) (k : Change) → Placed w → Fits w k → (c : ℕ) → conns_after w k ≤ c → IsUndialled (apply w k) c
unfolding apply
placed-undialled w k h f c le =
    let out = h.undialled c (omega (arith, le)) in
    record {
      downs = downs-out w k h f c le;
      ups = ups-out w k h f c le;
      lower = if-each (λ (l : Lower). l ≡ idle) (c == k.lower_at) k.lower (w.lowers c)
          (λ e. f.lower_at (omega (arith, le, eqb-true c k.lower_at e))) (λ e. out.lower);
      down_marks = rw (f.shuts c (omega (arith, le))) out.down_marks;
      up_marks = rw (f.shuts c (omega (arith, le))) out.up_marks;
    }

pub placed-after : (w : World) (k : Change) → Placed w → Fits w k → Placed (apply w k)
unfolding apply
placed-after w k h f = record {
  runs = h.runs;
  dialled = placed-dialled w k h f;
  lowers = put-each (λ (c : ℕ) (l : Lower). IsLower (conns_after w k) l) w.lowers k.lower_at k.lower f.lower
      (λ c. lower-later w.next_conn (conns_after w k) (w.lowers c) (omega arith) (h.lowers c));
  writers = put-each (λ (b : ℕ) (x : Writing). IsConn (conns_after w k) x.conn) w.writers k.writer_at k.writer f.writer
      (λ b. conn-later w.next_conn (conns_after w k) (w.writers b).conn (omega arith) (h.writers b));
  readers = put-each (λ (i : ℕ) (r : Reader). IsReader (conns_after w k) r) w.readers k.reader_at k.reader f.reader
      (λ i. reader-later w.next_conn (conns_after w k) (w.readers i) (omega arith) (h.readers i));
  primaries = put-each (λ (i : ℕ) (p : Primary). IsPrimary w.nodes (conns_after w k) p) w.primaries k.primary_at k.primary f.primary
      (λ i. primary-later w.nodes w.next_conn (conns_after w k) (w.primaries i) (omega arith) (h.primaries i));
  undialled = placed-undialled w k h f;
}
