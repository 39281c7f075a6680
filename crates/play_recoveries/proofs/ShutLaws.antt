-- Whatever happens, the first messages stay, and what is shut stays so.
use Rattle.std.proofs.Common.{◌≡◌, ℕ, Bool, true, false, List, [], ◌∷◌, ◌++◌, slice_get, Option, Some, None, IfSome, refl, sym, ap, ◌∙◌, subst, eqb-true}
use Rattle.std.specs.Prelude.{◌==◌, ◌&&◌, not, nat_lt, is_some, if◌then◌else◌}
use Rattle.world.specs.declared.events.Direction.{Direction}
use Rattle.world.specs.declared.events.Direction.TheVariants as direction
use Rattle.world.specs.declared.events.Delivery.TheVariants as delivery
use Rattle.world.specs.declared.events.Event.{Event}
use Rattle.world.specs.declared.events.Event.TheVariants as event
use Rattle.world.specs.declared.events.FoundReplica.{FoundReplica}
use Rattle.world.specs.Connections.{Next, message, the_end, is_served, next_down, next_up, down_taken, up_taken, marks_taken, lost_marks, stopped_marks, is_of_node}
use Rattle.world.specs.Events.{changed, down_as, down_event, ready_event, up_as, up_event, upper_up, own_change, outcome, after_event, happens, run, lost, stop, where_so}
use Rattle.world.specs.Nodes.{lower_down, lower_ready}
use Rattle.world.specs.Parts.{Marks}
use Rattle.world.specs.Primaries.{office_event}
use Rattle.world.specs.Restarts.{restart}
use Rattle.world.specs.Worlds.{World, Change, put}
use Rattle.play_model.specs.WorldLaws.Growing.{Begins}
use Rattle.play_model.proofs.WorldLaws.FactTables.{when-each}
use Rattle.play_model.proofs.WorldLaws.GrowthLaws.{run-grows}
use Rattle.play_primaries.specs.PrimaryEvents.Showing.{IsShut}
use Rattle.play_primaries.proofs.PrimaryEvents.ShutLemmas.{apply_stays}
use Rattle.play_recoveries.specs.Keeping.{FirstStays, RequestsStay}

-- FIRST MESSAGES

first_in : {A : Type 0} (front rest whole : List A) (m : A) → front ++ rest ≡ whole → slice_get front 0 ≡ Some m → slice_get whole 0 ≡ Some m
first_in [] rest whole m joins at = cc
first_in (x ∷ front) rest whole m joins at = ap (λ ys. slice_get ys 0) (sym joins) ∙ at

begins_same : {A : Type 0} (front whole : List A) (m : A) → Begins front whole → slice_get front 0 ≡ Some m → slice_get whole 0 ≡ Some m
begins_same front whole m h at = first_in front h.rest whole m h.joins at

-- WHAT IS SHUT

-- What is shut stays so.
abbrev ShutStays : World → World → Type 0
ShutStays w v = (c : ℕ) → IsShut w c → IsShut v c

-- in a direction that is marked so
abbrev HasEnd : Marks → Type 0
HasEnd k = is_some k.end ≡ true

taken_end : (k : Marks) (x : Next) → HasEnd k → HasEnd (marks_taken k x)
taken_end k (message m) h = h
taken_end k the_end h = h

put_end : (f : ℕ → Marks) (c d : ℕ) (k : Marks) → (HasEnd (f c) → HasEnd k) → HasEnd (f d) → HasEnd (put f c k d)
put_end f c d k h was = by (d == c) refl
  where
    same : (a b : ℕ) → (a == b) ≡ true → a ≡ b
    same a b e = eqb-true a b e

    by : (b : Bool) → (d == c) ≡ b → HasEnd (if b then k else f d)
    by true e = h (subst (λ (n : ℕ). HasEnd (f n)) (same d c e) was)
    by false e = was

down_taken_stays : (w : World) (c : ℕ) (x : Next) → ShutStays w (down_taken w c x)
unfolding down_taken
down_taken_stays w c x d h = record { down = put_end w.down_marks c d (marks_taken (w.down_marks c) x) (taken_end (w.down_marks c) x) h.down; up = h.up }

up_taken_stays : (w : World) (c : ℕ) (x : Next) → ShutStays w (up_taken w c x)
unfolding up_taken
up_taken_stays w c x d h = record { down = h.down; up = put_end w.up_marks c d (marks_taken (w.up_marks c) x) (taken_end (w.up_marks c) x) h.up }

changed_stays : (w u : World) (o : Option Change) → ShutStays w u → IfSome (changed u o) (ShutStays w)
changed_stays w u None h = tt
changed_stays w u (Some k) h = λ d is. apply_stays u k d (h d is)

still : (w : World) → ShutStays w w
still w d is = is

down_stays : (w : World) (c : ℕ) (answered fails : Bool) (o : Option Next) → IfSome (down_as w c answered fails o) (ShutStays w)
down_stays w c answered fails None = tt
down_stays w c answered fails (Some x) = changed_stays w (down_taken w c x) (lower_down (w.lowers c) (down_taken w c x) c x answered fails) (down_taken_stays w c x)

down_event_stays : (w : World) (c : ℕ) (answered fails : Bool) → IfSome (down_event w c answered fails) (ShutStays w)
down_event_stays w c answered fails = when-each (ShutStays w) (is_served w c) (down_as w c answered fails (next_down w c)) (λ _. down_stays w c answered fails (next_down w c))

ready_event_stays : (w : World) (c : ℕ) (fails : Bool) → IfSome (ready_event w c fails) (ShutStays w)
ready_event_stays w c fails = when-each (ShutStays w) (is_served w c) (changed w (lower_ready (w.lowers c) w c fails)) (λ _. changed_stays w w (lower_ready (w.lowers c) w c fails) (still w))

up_stays : (w : World) (c : ℕ) (fails : Bool) (o : Option Next) → IfSome (up_as w c fails o) (ShutStays w)
up_stays w c fails None = tt
up_stays w c fails (Some x) = changed_stays w (up_taken w c x) (upper_up (w.dialled c).upper (up_taken w c x) c x fails) (up_taken_stays w c x)

up_event_stays : (w : World) (c : ℕ) (fails : Bool) → IfSome (up_event w c fails) (ShutStays w)
up_event_stays w c fails = when-each (ShutStays w) (nat_lt c w.next_conn) (up_as w c fails (next_up w c)) (λ _. up_stays w c fails (next_up w c))

lost_stays : (w : World) (c : ℕ) (way : Direction) (more : ℕ) → ShutStays w (lost w c way more)
lost_stays w c direction.Down more d h = record { down = put_end w.down_marks c d (lost_marks (w.downs c) more (w.down_marks c)) (λ z. refl) h.down; up = h.up }
lost_stays w c direction.Up more d h = record { down = h.down; up = put_end w.up_marks c d (lost_marks (w.ups c) more (w.up_marks c)) (λ z. refl) h.up }

stopped_end : (b : Bool) (k : Marks) → HasEnd k → HasEnd (if b then stopped_marks k else k)
stopped_end true k h = refl
stopped_end false k h = h

stop_stays : (w : World) (n : ℕ) → ShutStays w (stop w n)
stop_stays w n d h = record { down = stopped_end (is_of_node w n d) (w.down_marks d) h.down; up = stopped_end (is_of_node w n d) (w.up_marks d) h.up }

restart_stays : (w : World) (n : ℕ) (found : List FoundReplica) → ShutStays w (restart w n found)
unfolding restart
restart_stays w n found d h = record { down = h.down; up = h.up }

where_stays : (w v : World) (b : Bool) → ShutStays w v → IfSome (where_so b v) (ShutStays w)
where_stays w v true h = h
where_stays w v false h = tt

outcome_stays : (w : World) (e : Event) → IfSome (outcome w e) (ShutStays w)
unfolding outcome
outcome_stays w (event.Own s) = changed_stays w w (own_change w s) (still w)
outcome_stays w (event.Office c) = changed_stays w w (office_event w c) (still w)
outcome_stays w (event.Down c answered) = down_event_stays w c.0 answered false
outcome_stays w (event.Ready c) = ready_event_stays w c.0 false
outcome_stays w (event.Up c) = up_event_stays w c.0 false
outcome_stays w (event.Lost c way more) = where_stays w (lost w c.0 way more) (nat_lt c.0 w.next_conn) (lost_stays w c.0 way more)
outcome_stays w (event.Fault (delivery.Down c)) = down_event_stays w c.0 false true
outcome_stays w (event.Fault (delivery.Ready c)) = ready_event_stays w c.0 true
outcome_stays w (event.Fault (delivery.Up c)) = up_event_stays w c.0 true
outcome_stays w (event.Stop n) = where_stays w (stop w n.0) (w.running n.0) (stop_stays w n.0)
outcome_stays w (event.Restart n found) = where_stays w (restart w n.0 found) (nat_lt n.0 w.nodes && not (w.running n.0)) (restart_stays w n.0 found)

after_stays : (w : World) (e : Event) (o : Option World) → IfSome o (ShutStays w) → ShutStays w (after_event w e o)
after_stays w e None h = still w
after_stays w e (Some v) h = λ d is. let x = h d is in record { down = x.down; up = x.up }

pub happens_shut : (w : World) (e : Event) (c : ℕ) → IsShut w c → IsShut (happens w e) c
unfolding happens
happens_shut w e c h = after_stays w e (outcome w e) (outcome_stays w e) c h

pub run_shut : (w : World) (events : List Event) (c : ℕ) → IsShut w c → IsShut (run w events) c
run_shut w [] c h = h
run_shut w (e ∷ events) c h = run_shut (happens w e) events c (happens_shut w e c h)

pub run_first : (w : World) (events : List Event) (c : ℕ) → FirstStays w (run w events) c
run_first w events c = λ m at. begins_same (w.downs c) ((run w events).downs c) m ((run-grows w events).downs c) at

pub requests_stay : RequestsStay
requests_stay w events = record { first = λ c. run_first w events c; shut = λ c h. run_shut w events c h }
