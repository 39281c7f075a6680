-- Nodes run on where no event stops one, and only nodes run.
use Rattle.std.proofs.Common.{◌≡◌, ℕ, ◌<◌, Bool, true, false, List, [], ◌∷◌, Option, Some, None, IfSome, refl, sym, ◌∙◌, subst, eqb-true, arith}
use Rattle.std.specs.Prelude.{◌==◌, ◌&&◌, not, nat_lt, if◌then◌else◌}
use Rattle.std.proofs.lemmas.Bool.Decides.{nat_tests}
use Rattle.world.specs.declared.events.Delivery.{Delivery}
use Rattle.world.specs.declared.events.Delivery.TheVariants as delivery
use Rattle.world.specs.declared.events.Direction.{Direction}
use Rattle.world.specs.declared.events.Direction.TheVariants as direction
use Rattle.world.specs.declared.events.Event.{Event}
use Rattle.world.specs.declared.events.Event.TheVariants as event
use Rattle.world.specs.declared.events.FoundReplica.{FoundReplica}
use Rattle.world.specs.Worlds.{World, Change, apply, put, start}
use Rattle.world.specs.Connections.{Next, next_down, next_up, down_taken, up_taken, is_served}
use Rattle.world.specs.Nodes.{lower_down, lower_ready}
use Rattle.world.specs.Primaries.{office_event}
use Rattle.world.specs.Events.{changed, own_change, down_as, down_event, ready_event, upper_up, up_as, up_event, fault_event, lost, stop, where_so, outcome, after_event, happens, run}
use Rattle.world.specs.Restarts.{restart}
use Rattle.play_model.proofs.WorldLaws.FactTables.{when-each}
use Rattle.play_laws.specs.Nodes.{KeepsNodes, AllKeepNodes, NodesRun, AllRun, SameNodes, RunningStays, OnlyNodes, OnlyNodesRun}

module _ (base : World) where
  abbrev Runs : World → Type 0
  Runs w = SameNodes base w

  -- CHANGES AND DELIVERIES

  apply-runs : (w : World) (k : Change) → Runs w → Runs (apply w k)
  unfolding apply
  apply-runs w k h = record { nodes = h.nodes; running = h.running; lives = h.lives }

  changed-runs : (w : World) (o : Option Change) → Runs w → IfSome (changed w o) Runs
  changed-runs w None h = tt
  changed-runs w (Some k) h = apply-runs w k h

  down-taken-runs : (w : World) (c : ℕ) (x : Next) → Runs w → Runs (down_taken w c x)
  unfolding down_taken
  down-taken-runs w c x h = record { nodes = h.nodes; running = h.running; lives = h.lives }

  up-taken-runs : (w : World) (c : ℕ) (x : Next) → Runs w → Runs (up_taken w c x)
  unfolding up_taken
  up-taken-runs w c x h = record { nodes = h.nodes; running = h.running; lives = h.lives }

  down-as-runs : (w : World) (c : ℕ) (answered fails : Bool) (o : Option Next) → Runs w → IfSome (down_as w c answered fails o) Runs
  down-as-runs w c answered fails None h = tt
  down-as-runs w c answered fails (Some x) h = changed-runs (down_taken w c x) (lower_down (w.lowers c) (down_taken w c x) c x answered fails) (down-taken-runs w c x h)

  down-runs : (w : World) (c : ℕ) (answered fails : Bool) → Runs w → IfSome (down_event w c answered fails) Runs
  down-runs w c answered fails h = when-each Runs (is_served w c) _ (λ e. down-as-runs w c answered fails (next_down w c) h)

  ready-runs : (w : World) (c : ℕ) (fails : Bool) → Runs w → IfSome (ready_event w c fails) Runs
  ready-runs w c fails h = when-each Runs (is_served w c) _ (λ e. changed-runs w (lower_ready (w.lowers c) w c fails) h)

  up-as-runs : (w : World) (c : ℕ) (fails : Bool) (o : Option Next) → Runs w → IfSome (up_as w c fails o) Runs
  up-as-runs w c fails None h = tt
  up-as-runs w c fails (Some x) h = changed-runs (up_taken w c x) (upper_up (w.dialled c).upper (up_taken w c x) c x fails) (up-taken-runs w c x h)

  up-runs : (w : World) (c : ℕ) (fails : Bool) → Runs w → IfSome (up_event w c fails) Runs
  up-runs w c fails h = when-each Runs (nat_lt c w.next_conn) _ (λ e. up-as-runs w c fails (next_up w c) h)

  fault-runs : (w : World) (d : Delivery) → Runs w → IfSome (fault_event w d) Runs
  fault-runs w (delivery.Down c) h = down-runs w c.0 false true h
  fault-runs w (delivery.Ready c) h = ready-runs w c.0 true h
  fault-runs w (delivery.Up c) h = up-runs w c.0 true h

  lost-runs : (w : World) (c : ℕ) (way : Direction) (more : ℕ) → Runs w → Runs (lost w c way more)
  lost-runs w c direction.Down more h = record { nodes = h.nodes; running = h.running; lives = h.lives }
  lost-runs w c direction.Up more h = record { nodes = h.nodes; running = h.running; lives = h.lives }

  where-runs : (test : Bool) (v : World) → Runs v → IfSome (where_so test v) Runs
  where-runs true v h = h
  where-runs false v h = tt

  -- ALL EVENTS

  outcome-runs : (w : World) (e : Event) → KeepsNodes e → Runs w → IfSome (outcome w e) Runs
  unfolding outcome
  outcome-runs w (event.Own s) k h = changed-runs w (own_change w s) h
  outcome-runs w (event.Office c) k h = changed-runs w (office_event w c) h
  outcome-runs w (event.Down c answered) k h = down-runs w c.0 answered false h
  outcome-runs w (event.Ready c) k h = ready-runs w c.0 false h
  outcome-runs w (event.Up c) k h = up-runs w c.0 false h
  outcome-runs w (event.Lost c way more) k h = where-runs (nat_lt c.0 w.next_conn) (lost w c.0 way more) (lost-runs w c.0 way more h)
  outcome-runs w (event.Fault d) k h = fault-runs w d h
  outcome-runs w (event.Stop n) k h = absurd k
  outcome-runs w (event.Restart n list) k h = absurd k

  after-runs : (w : World) (e : Event) (o : Option World) → Runs w → IfSome o Runs → Runs (after_event w e o)
  after-runs w e None h n = h
  after-runs w e (Some v) h n = record { nodes = n.nodes; running = n.running; lives = n.lives }

  happens-runs : (w : World) (e : Event) → KeepsNodes e → Runs w → Runs (happens w e)
  unfolding happens
  happens-runs w e k h = after-runs w e (outcome w e) h (outcome-runs w e k h)

  run-runs : (w : World) (list : List Event) → AllKeepNodes list → Runs w → Runs (run w list)
  run-runs w [] k h = h
  run-runs w (e ∷ list) k h = run-runs (happens w e) list k.1 (happens-runs w e k.0 h)

pub running-stays : RunningStays
running-stays w e k = happens-runs w w e k (record { nodes = refl; running = λ n. refl; lives = λ n. refl })

below : (n nodes : ℕ) → n < nodes → nat_lt n nodes ≡ true
below n nodes l = grind (arith, nat_tests)

pub all-run : AllRun
unfolding start
all-run nodes events k =
    let same : SameNodes (start nodes) (run (start nodes) events) = run-runs (start nodes) (start nodes) events k (record { nodes = refl; running = λ n. refl; lives = λ n. refl }) in
    record { nodes_are = same.nodes; runs = λ n l. same.running n ∙ below n nodes l; first = λ n. same.lives n }

-- ONLY NODES

module _ (nodes : ℕ) where
  abbrev Only : World → Type 0
  Only w = OnlyNodes nodes w

  only-same : (w v : World) → SameNodes w v → Only w → Only v
  only-same w v s h = record { nodes_are = s.nodes ∙ h.nodes_are; within = λ n r. h.within n (sym (s.running n) ∙ r) }

  put-false : (f : ℕ → Bool) (n m : ℕ) → put f n false m ≡ true → f m ≡ true
  put-false f n m e = by (m == n) e
    where
      by : (b : Bool) → (if b then false else f m) ≡ true → f m ≡ true
      by true e = cc
      by false e = e

  only-stopped : (w : World) (n : ℕ) → Only w → Only (stop w n)
  only-stopped w n h = record { nodes_are = h.nodes_are; within = λ m r. h.within m (put-false w.running n m r) }

  put-true : (f : ℕ → Bool) (n m : ℕ) → n < nodes → ((k : ℕ) → f k ≡ true → k < nodes) → put f n true m ≡ true → m < nodes
  put-true f n m within h e = by (m == n) refl e
    where
      by : (b : Bool) → (m == n) ≡ b → (if b then true else f m) ≡ true → m < nodes
      by true is e = subst (λ (k : ℕ). k < nodes) (sym (eqb-true m n is)) within
      by false is e = h m e

  only-restarted : (w : World) (n : ℕ) (list : List FoundReplica) → n < w.nodes → Only w → Only (restart w n list)
  unfolding restart
  only-restarted w n list within h = record { nodes_are = h.nodes_are; within = λ m r. put-true w.running n m (subst (λ (k : ℕ). n < k) h.nodes_are within) h.within r }

  only-where : (test : Bool) (v : World) → (test ≡ true → Only v) → IfSome (where_so test v) Only
  only-where true v h = h refl
  only-where false v h = tt

  only-outcome : (w : World) (e : Event) → Only w → IfSome (outcome w e) Only → Only (happens w e)
  unfolding happens
  only-outcome w e h o = by (outcome w e) o
    where
      by : (x : Option World) → IfSome x Only → Only (after_event w e x)
      by None n = h
      by (Some v) n = record { nodes_are = n.nodes_are; within = n.within }

  lt-so : (a : Bool) (n m : ℕ) → (nat_lt n m && a) ≡ true → n < m
  lt-so a n m e = grind (arith, nat_tests, e)

  only-happens : (w : World) (e : Event) → Only w → Only (happens w e)
  unfolding outcome
  only-happens w (event.Stop n) h = only-outcome w (event.Stop n) h (only-where (w.running n.0) (stop w n.0) (λ _. only-stopped w n.0 h))
  only-happens w (event.Restart n list) h =
      only-outcome w (event.Restart n list) h (only-where (nat_lt n.0 w.nodes && not (w.running n.0)) (restart w n.0 list)
      (λ so. only-restarted w n.0 list (lt-so (not (w.running n.0)) n.0 w.nodes so) h))
  only-happens w (event.Own s) h = only-same w (happens w (event.Own s)) (running-stays w (event.Own s) tt) h
  only-happens w (event.Office c) h = only-same w (happens w (event.Office c)) (running-stays w (event.Office c) tt) h
  only-happens w (event.Down c answered) h = only-same w (happens w (event.Down c answered)) (running-stays w (event.Down c answered) tt) h
  only-happens w (event.Ready c) h = only-same w (happens w (event.Ready c)) (running-stays w (event.Ready c) tt) h
  only-happens w (event.Up c) h = only-same w (happens w (event.Up c)) (running-stays w (event.Up c) tt) h
  only-happens w (event.Lost c way more) h = only-same w (happens w (event.Lost c way more)) (running-stays w (event.Lost c way more) tt) h
  only-happens w (event.Fault d) h = only-same w (happens w (event.Fault d)) (running-stays w (event.Fault d) tt) h

  only-run : (w : World) (events : List Event) → Only w → Only (run w events)
  only-run w [] h = h
  only-run w (e ∷ events) h = only-run (happens w e) events (only-happens w e h)

  only-start : Only (start nodes)
  unfolding start
  only-start = record { nodes_are = refl; within = λ n e. lt-true n nodes e }
    where
      lt-true : (n m : ℕ) → nat_lt n m ≡ true → n < m
      lt-true n m e = grind (arith, nat_tests, e)

pub only-nodes-run : OnlyNodesRun
only-nodes-run nodes events = only-run nodes (start nodes) events (only-start nodes)
