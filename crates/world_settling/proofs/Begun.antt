-- On each connection something was sent down: its request.
use Rattle.std.proofs.Common.{◌≡◌, ℕ, zero, suc, ◌<◌, ◌+◌, ◌-◌, Bool, true, false, List, [], ◌∷◌, ◌++◌, length, slice_get, Option, Some, None, option_map, IfSome, refl, sym, arith}
use Rattle.std.specs.Prelude.{nat_le, nat_lt, ◌&&◌, not, if◌then◌else◌}
use Rattle.std.proofs.lemmas.Bool.Decides.{nat_tests}
use Rattle.std.proofs.lemmas.Option.{none-some}
use Rattle.world.specs.declared.events.Delivery.{Delivery}
use Rattle.world.specs.declared.events.Delivery.TheVariants as delivery
use Rattle.world.specs.declared.events.Direction.{Direction}
use Rattle.world.specs.declared.events.Direction.TheVariants as direction
use Rattle.world.specs.declared.events.Event.{Event}
use Rattle.world.specs.declared.events.Event.TheVariants as event
use Rattle.world.specs.Parts.{Message}
use Rattle.world.specs.Worlds.{World, Dial, Change, listed, dial_at, apply, start}
use Rattle.world.specs.Connections.{Next, next_down, next_up, down_taken, up_taken, is_served}
use Rattle.world.specs.Primaries.{office_event}
use Rattle.world.specs.Restarts.{restart}
use Rattle.world.specs.Events.{changed, own_change, down_as, down_event, ready_event, up_as, up_event, fault_event, lost, where_so, outcome, after_event, happens, run}
use Rattle.world_settling.proofs.Frame.{HasFirst}
use Rattle.world_settling.proofs.Outer.{when-each}

pub record AllBegun (w : World) : Type 0 where
  pub first : (c : ℕ) → c < w.next_conn → HasFirst (w.downs c)

first-more : (xs ys : List Message) → HasFirst xs → HasFirst (xs ++ ys)
first-more [] ys h = absurd (none-some h.message h.is)
first-more (x ∷ xs) ys h = record { message = x; is = refl }

first-last : (xs : List Message) (y : Message) → HasFirst (xs ++ y ∷ [])
first-last [] y = record { message = y; is = refl }
first-last (x ∷ xs) y = record { message = x; is = refl }

get-within : (ds : List Dial) (k : ℕ) → k < length ds → slice_get ds k ≡ None → ⊥
get-within [] k lt e = absurd (omega (arith, lt))
get-within (d ∷ ds) zero lt e = none-some d (sym e)
get-within (d ∷ ds) (suc k) lt e = get-within ds k (omega (arith, lt)) e

within : (n c : ℕ) (ds : List Dial) → dial_at n ds c ≡ None → c < n + length ds → c < n
within n c ds e lt = at (nat_le n c) refl e
  where
    at : (b : Bool) → nat_le n c ≡ b → (if b then slice_get ds (c - n) else None) ≡ None → c < n
    at true h none = absurd (get-within ds (c - n) (grind (arith, nat_tests, h, lt)) none)
    at false h none = grind (arith, nat_tests, h)

apply-begun : (w : World) (k : Change) → AllBegun w → AllBegun (apply w k)
unfolding apply
apply-begun w k h = record { first = λ c lt. at c lt (dial_at w.next_conn k.dials c) refl }
  where
    at : (c : ℕ) → c < w.next_conn + length k.dials → (o : Option Dial) → dial_at w.next_conn k.dials c ≡ o → HasFirst ((w.downs c ++ k.downs c) ++ listed (option_map (λ d. d.request) o))
    at c lt None e = first-more (w.downs c ++ k.downs c) [] (first-more (w.downs c) (k.downs c) (h.first c (within w.next_conn c k.dials e lt)))
    at c lt (Some d) e = first-last (w.downs c ++ k.downs c) d.request

changed-begun : (w : World) (o : Option Change) → AllBegun w → IfSome (changed w o) AllBegun
changed-begun w None h = tt
changed-begun w (Some k) h = apply-begun w k h

down-taken-begun : (w : World) (c : ℕ) (x : Next) → AllBegun w → AllBegun (down_taken w c x)
unfolding down_taken
down-taken-begun w c x h = record { first = h.first }

up-taken-begun : (w : World) (c : ℕ) (x : Next) → AllBegun w → AllBegun (up_taken w c x)
unfolding up_taken
up-taken-begun w c x h = record { first = h.first }

down-begun : (w : World) (c : ℕ) (answered fails : Bool) → AllBegun w → IfSome (down_event w c answered fails) AllBegun
down-begun w c answered fails h = when-each AllBegun (is_served w c) _ (λ e. as-next (next_down w c))
  where
    as-next : (o : Option Next) → IfSome (down_as w c answered fails o) AllBegun
    as-next None = tt
    as-next (Some x) = changed-begun (down_taken w c x) _ (down-taken-begun w c x h)

ready-begun : (w : World) (c : ℕ) (fails : Bool) → AllBegun w → IfSome (ready_event w c fails) AllBegun
ready-begun w c fails h = when-each AllBegun (is_served w c) _ (λ e. changed-begun w _ h)

up-begun : (w : World) (c : ℕ) (fails : Bool) → AllBegun w → IfSome (up_event w c fails) AllBegun
up-begun w c fails h = when-each AllBegun (nat_lt c w.next_conn) _ (λ e. as-next (next_up w c))
  where
    as-next : (o : Option Next) → IfSome (up_as w c fails o) AllBegun
    as-next None = tt
    as-next (Some x) = changed-begun (up_taken w c x) _ (up-taken-begun w c x h)

where-begun : (test : Bool) (v : World) → AllBegun v → IfSome (where_so test v) AllBegun
where-begun true v h = h
where-begun false v h = tt

lost-begun : (w : World) (c : ℕ) (way : Direction) (more : ℕ) → AllBegun w → AllBegun (lost w c way more)
lost-begun w c direction.Down more h = record { first = h.first }
lost-begun w c direction.Up more h = record { first = h.first }

fault-begun : (w : World) (d : Delivery) → AllBegun w → IfSome (fault_event w d) AllBegun
fault-begun w (delivery.Down c) h = down-begun w c.0 false true h
fault-begun w (delivery.Ready c) h = ready-begun w c.0 true h
fault-begun w (delivery.Up c) h = up-begun w c.0 true h

outcome-begun : (w : World) (e : Event) → AllBegun w → IfSome (outcome w e) AllBegun
unfolding outcome restart
outcome-begun w (event.Own s) h = changed-begun w (own_change w s) h
outcome-begun w (event.Office c) h = changed-begun w (office_event w c) h
outcome-begun w (event.Down c answered) h = down-begun w c.0 answered false h
outcome-begun w (event.Ready c) h = ready-begun w c.0 false h
outcome-begun w (event.Up c) h = up-begun w c.0 false h
outcome-begun w (event.Lost c way more) h = where-begun (nat_lt c.0 w.next_conn) _ (lost-begun w c.0 way more h)
outcome-begun w (event.Fault d) h = fault-begun w d h
outcome-begun w (event.Stop n) h = where-begun (w.running n.0) _ (record { first = h.first })
outcome-begun w (event.Restart n list) h =
    where-begun (nat_lt n.0 w.nodes && not (w.running n.0)) _ (record { first = h.first })

after-begun : (w : World) (e : Event) (o : Option World) → AllBegun w → IfSome o AllBegun → AllBegun (after_event w e o)
after-begun w e None h k = h
after-begun w e (Some v) h k = record { first = k.first }

happens-begun : (w : World) (e : Event) → AllBegun w → AllBegun (happens w e)
unfolding happens
happens-begun w e h = after-begun w e (outcome w e) h (outcome-begun w e h)

run-begun : (w : World) (events : List Event) → AllBegun w → AllBegun (run w events)
run-begun w [] h = h
run-begun w (e ∷ events) h = run-begun (happens w e) events (happens-begun w e h)

pub all-begun : (nodes : ℕ) (events : List Event) → AllBegun (run (start nodes) events)
unfolding start
all-begun nodes events = run-begun (start nodes) events (record { first = λ c lt. absurd (omega (arith, lt)) })
