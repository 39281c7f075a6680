-- Whatever happens, the past only grows.
use Rattle.std.proofs.Common.{◌≡◌, ℕ, ◌<◌, Bool, true, false, List, [], ◌∷◌, ◌++◌, Option, Some, None, IfSome, refl, sym, ◌∙◌, ap, subst, arith, append_assoc, append-nil}
use Rattle.std.specs.Prelude.{◌==◌, ◌&&◌, not, nat_lt, nat_le}
use Rattle.std.proofs.lemmas.Bool.Decides.{nat_tests}
use Rattle.world.specs.declared.events.Delivery.{Delivery}
use Rattle.world.specs.declared.events.Delivery.TheVariants as delivery
use Rattle.world.specs.declared.events.Direction.{Direction}
use Rattle.world.specs.declared.events.Direction.TheVariants as direction
use Rattle.world.specs.declared.events.Event.{Event}
use Rattle.world.specs.declared.events.Event.TheVariants as event
use Rattle.world.specs.Worlds.{Past, World, Dial, Change, add, dial_at, dialled_with, apply}
use Rattle.world.specs.Connections.{Next, next_down, next_up, down_taken, up_taken, is_served}
use Rattle.world.specs.Nodes.{lower_down, lower_ready}
use Rattle.world.specs.Primaries.{office_event}
use Rattle.world.specs.Restarts.{restart}
use Rattle.world.specs.Events.{changed, own_change, down_as, down_event, ready_event, upper_up, up_as, up_event, fault_event, lost, stop, where_so, outcome, after_event, happens, run}
use Rattle.world_laws.specs.Growing.{Begins, Grows}
use Rattle.world_laws.proofs.FactTables.{if-each, when-each}

-- LISTS THAT BEGIN ALIKE

begins-all : {A : Type 0} (xs : List A) → Begins xs xs
begins-all xs = record { rest = []; joins = append-nil xs }

begins-more : {A : Type 0} (xs ys : List A) → Begins xs (xs ++ ys)
begins-more xs ys = record { rest = ys; joins = refl }

begins-then : {A : Type 0} (xs ys zs : List A) → Begins xs ys → Begins ys zs → Begins xs zs
begins-then {A} xs ys zs a b = record {
  rest = a.rest ++ b.rest;
  joins = sym (append_assoc xs a.rest b.rest) ∙ (ap (λ (v : List A). v ++ b.rest) a.joins ∙ b.joins);
}

begins-added : {A : Type 0} (f : ℕ → List A) (i : ℕ) (xs : List A) (j : ℕ) → Begins (f j) (add f i xs j)
begins-added f i xs j = if-each (Begins (f j)) (j == i) (f j ++ xs) (f j) (λ _. begins-more (f j) xs) (λ _. begins-all (f j))

-- WORLDS

grows-same : (h : Past) → Grows h h
grows-same h = record {
  written = λ s. begins-all (h.written s);
  conns = omega arith;
  dialled = λ c lt. refl;
  downs = λ c. begins-all (h.downs c);
  ups = λ c. begins-all (h.ups c);
  joined = begins-all h.joined;
  updated = begins-all h.updated;
  answered = begins-all h.answered;
  said = λ b. begins-all (h.said b);
}

pub grows-then : (g h k : Past) → Grows g h → Grows h k → Grows g k
grows-then g h k a b = record {
  written = λ s. begins-then (g.written s) (h.written s) (k.written s) (a.written s) (b.written s);
  conns = omega (arith, a.conns, b.conns);
  dialled = λ c lt. b.dialled c (omega (arith, lt, a.conns)) ∙ a.dialled c lt;
  downs = λ c. begins-then (g.downs c) (h.downs c) (k.downs c) (a.downs c) (b.downs c);
  ups = λ c. begins-then (g.ups c) (h.ups c) (k.ups c) (a.ups c) (b.ups c);
  joined = begins-then g.joined h.joined k.joined a.joined b.joined;
  updated = begins-then g.updated h.updated k.updated a.updated b.updated;
  answered = begins-then g.answered h.answered k.answered a.answered b.answered;
  said = λ c. begins-then (g.said c) (h.said c) (k.said c) (a.said c) (b.said c);
}

-- an old connection isn't one of the new ones
old-dial : (n c : ℕ) (ds : List Dial) → c < n → dial_at n ds c ≡ None
old-dial n c ds lt = if-each (λ (o : Option Dial). o ≡ None) (nat_le n c) _ None (λ e. absurd (two-ways n c lt e)) (λ _. refl)
  where
    two-ways : (n c : ℕ) → c < n → nat_le n c ≡ true → ⊥
    two-ways n c lt e = grind (arith, nat_tests, lt, e)

old-dialled : (w : World) (k : Change) (c : ℕ) → c < w.next_conn → dialled_with w k c ≡ w.dialled c
old-dialled w k c lt = rw (old-dial w.next_conn c k.dials lt) refl

-- a change adds to the past
pub apply-grows : (w : World) (k : Change) → Grows w.past (apply w k).past
unfolding apply
apply-grows w k = record {
  written = begins-added w.written k.session k.bytes;
  conns = omega arith;
  dialled = old-dialled w k;
  downs = λ c. begins-then (w.downs c) (w.downs c ++ k.downs c) _ (begins-more (w.downs c) (k.downs c)) (begins-more (w.downs c ++ k.downs c) _);
  ups = λ c. begins-more (w.ups c) (k.ups c);
  joined = begins-more w.joined k.joined;
  updated = begins-more w.updated k.updated;
  answered = begins-more w.answered _;
  said = begins-added w.said k.writer_at k.said;
}

-- EVENTS

-- a world whose past has grown from this one
pub record From (h : Past) (v : World) : Type 0 where
  pub grows : Grows h v.past

changed-grows : (h : Past) (w : World) (o : Option Change) → From h w → IfSome (changed w o) (From h)
changed-grows h w None f = tt
changed-grows h w (Some k) f = record { grows = grows-then h w.past (apply w k).past f.grows (apply-grows w k) }

from-same : (w v : World) → v.past ≡ w.past → From w.past v
from-same w v e = record { grows = subst (λ (h : Past). Grows w.past h) (sym e) (grows-same w.past) }

down-taken-from : (w : World) (c : ℕ) (x : Next) → From w.past (down_taken w c x)
unfolding down_taken
down-taken-from w c x = from-same w (down_taken w c x) refl

up-taken-from : (w : World) (c : ℕ) (x : Next) → From w.past (up_taken w c x)
unfolding up_taken
up-taken-from w c x = from-same w (up_taken w c x) refl

down-as-from : (w : World) (c : ℕ) (answered fails : Bool) (o : Option Next) → IfSome (down_as w c answered fails o) (From w.past)
down-as-from w c answered fails None = tt
down-as-from w c answered fails (Some x) =
    changed-grows w.past (down_taken w c x) (lower_down (w.lowers c) (down_taken w c x) c x answered fails) (down-taken-from w c x)

down-from : (w : World) (c : ℕ) (answered fails : Bool) → IfSome (down_event w c answered fails) (From w.past)
down-from w c answered fails = when-each (From w.past) (is_served w c) _ (λ _. down-as-from w c answered fails (next_down w c))

ready-from : (w : World) (c : ℕ) (fails : Bool) → IfSome (ready_event w c fails) (From w.past)
ready-from w c fails =
    when-each (From w.past) (is_served w c) _ (λ _. changed-grows w.past w (lower_ready (w.lowers c) w c fails) (from-same w w refl))

up-as-from : (w : World) (c : ℕ) (fails : Bool) (o : Option Next) → IfSome (up_as w c fails o) (From w.past)
up-as-from w c fails None = tt
up-as-from w c fails (Some x) =
    changed-grows w.past (up_taken w c x) (upper_up (w.dialled c).upper (up_taken w c x) c x fails) (up-taken-from w c x)

up-from : (w : World) (c : ℕ) (fails : Bool) → IfSome (up_event w c fails) (From w.past)
up-from w c fails = when-each (From w.past) (nat_lt c w.next_conn) _ (λ _. up-as-from w c fails (next_up w c))

fault-from : (w : World) (d : Delivery) → IfSome (fault_event w d) (From w.past)
fault-from w (delivery.Down c) = down-from w c.0 false true
fault-from w (delivery.Ready c) = ready-from w c.0 true
fault-from w (delivery.Up c) = up-from w c.0 true

where-from : (h : Past) (test : Bool) (v : World) → From h v → IfSome (where_so test v) (From h)
where-from h true v f = f
where-from h false v f = tt

lost-from : (w : World) (c : ℕ) (way : Direction) (more : ℕ) → From w.past (lost w c way more)
lost-from w c direction.Down more = from-same w (lost w c direction.Down more) refl
lost-from w c direction.Up more = from-same w (lost w c direction.Up more) refl

outcome-from : (w : World) (e : Event) → IfSome (outcome w e) (From w.past)
unfolding outcome restart
outcome-from w (event.Own s) = changed-grows w.past w (own_change w s) (from-same w w refl)
outcome-from w (event.Office c) = changed-grows w.past w (office_event w c) (from-same w w refl)
outcome-from w (event.Down c answered) = down-from w c.0 answered false
outcome-from w (event.Ready c) = ready-from w c.0 false
outcome-from w (event.Up c) = up-from w c.0 false
outcome-from w (event.Lost c way more) = where-from w.past (nat_lt c.0 w.next_conn) (lost w c.0 way more) (lost-from w c.0 way more)
outcome-from w (event.Fault d) = fault-from w d
outcome-from w (event.Stop n) = where-from w.past (w.running n.0) (stop w n.0) (from-same w (stop w n.0) refl)
outcome-from w (event.Restart n list) =
    where-from w.past (nat_lt n.0 w.nodes && not (w.running n.0)) (restart w n.0 list) (from-same w (restart w n.0 list) refl)

after-from : (w : World) (e : Event) (o : Option World) → IfSome o (From w.past) → Grows w.past (after_event w e o).past
after-from w e None f = grows-same w.past
after-from w e (Some v) f = f.grows

pub happens-grows : (w : World) (e : Event) → Grows w.past (happens w e).past
unfolding happens
happens-grows w e = after-from w e (outcome w e) (outcome-from w e)

pub run-grows : (w : World) (events : List Event) → Grows w.past (run w events).past
run-grows w [] = grows-same w.past
run-grows w (e ∷ events) = grows-then w.past (happens w e).past (run (happens w e) events).past (happens-grows w e) (run-grows (happens w e) events)
