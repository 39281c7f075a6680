-- Lives only grow, and a node that runs ends its life only where it stops.
use Rattle.std.proofs.Common.{◌≡◌, ℕ, ◌<◌, ◌≤◌, ◌+◌, Bool, true, false, List, Option, Some, None, IfSome, refl, sym, ap, ◌∙◌, arith, eqb-true}
use Rattle.std.specs.Prelude.{◌==◌, ◌&&◌, not, nat_lt}
use Rattle.std.proofs.lemmas.Bool.Decides.{nat_tests}
use Rattle.world.specs.declared.events.Delivery.{Delivery}
use Rattle.world.specs.declared.events.Delivery.TheVariants as delivery
use Rattle.world.specs.declared.events.Direction.{Direction}
use Rattle.world.specs.declared.events.Direction.TheVariants as direction
use Rattle.world.specs.declared.events.Event.{Event}
use Rattle.world.specs.declared.events.Event.TheVariants as event
use Rattle.world.specs.declared.events.FoundReplica.{FoundReplica}
use Rattle.world.specs.Parts.{Place}
use Rattle.world.specs.Worlds.{World, Change, apply}
use Rattle.world.specs.Connections.{Next, next_down, next_up, down_taken, up_taken, is_alive, is_served}
use Rattle.world.specs.Nodes.{lower_down, lower_ready}
use Rattle.world.specs.Primaries.{office_event}
use Rattle.world.specs.Events.{changed, own_change, down_as, down_event, ready_event, upper_up, up_as, up_event, fault_event, lost, stop, where_so, outcome, after_event, happens}
use Rattle.world.specs.Restarts.{restart}
use Rattle.world_laws.proofs.FactTables.{if-each, when-each, and-right}
use Rattle.world_orders.proofs.Clients.{clash}
use Rattle.world_readings.proofs.Keeping.{put-else}
use Rattle.world_recovery_ends.specs.Stopping.{IsGone, down, later}
use Rattle.world_recovery_ends.proofs.ConnEvents.{restart-gone}

-- this node stops in the event
abbrev pub StopsAt : Event → ℕ → Type 0
StopsAt (event.Stop n) m = m ≡ n.0
StopsAt other m = ⊥

pub record LivesOn (w : World) (e : Event) (v : World) : Type 0 where
  pub lives : (n : ℕ) → w.lives n ≤ v.lives n
  pub stops : (p : Place) → is_alive w p ≡ true → is_alive v p ≡ false → StopsAt e p.node

module _ (w : World) (e : Event) where
  abbrev On : World → Type 0
  On v = LivesOn w e v

  same-lives : (v : World) → v.running ≡ w.running → v.lives ≡ w.lives → On v
  same-lives v r l = record {
    lives = λ n. omega (arith, ap (λ f. f n) l);
    stops = λ p a b. absurd (clash (is_alive w p) (sym (ap (λ f. f p.node && (v.lives p.node == p.life)) r ∙ ap (λ f. w.running p.node && (f p.node == p.life)) l) ∙ b) a);
  }

  changed-lives : (u : World) (o : Option Change) → u.running ≡ w.running → u.lives ≡ w.lives → IfSome (changed u o) On
  unfolding apply
  changed-lives u None r l = tt
  changed-lives u (Some k) r l = same-lives (apply u k) r l

  down-as-lives : (c : ℕ) (answered fails : Bool) (o : Option Next) → IfSome (down_as w c answered fails o) On
  unfolding down_taken
  down-as-lives c answered fails None = tt
  down-as-lives c answered fails (Some x) = changed-lives (down_taken w c x) (lower_down (w.lowers c) (down_taken w c x) c x answered fails) refl refl

  down-lives : (c : ℕ) (answered fails : Bool) → IfSome (down_event w c answered fails) On
  down-lives c answered fails = when-each On (is_served w c) _ (λ _. down-as-lives c answered fails (next_down w c))

  ready-lives : (c : ℕ) (fails : Bool) → IfSome (ready_event w c fails) On
  ready-lives c fails = when-each On (is_served w c) _ (λ _. changed-lives w (lower_ready (w.lowers c) w c fails) refl refl)

  up-as-lives : (c : ℕ) (fails : Bool) (o : Option Next) → IfSome (up_as w c fails o) On
  unfolding up_taken
  up-as-lives c fails None = tt
  up-as-lives c fails (Some x) = changed-lives (up_taken w c x) (upper_up (w.dialled c).upper (up_taken w c x) c x fails) refl refl

  up-lives : (c : ℕ) (fails : Bool) → IfSome (up_event w c fails) On
  up-lives c fails = when-each On (nat_lt c w.next_conn) _ (λ _. up-as-lives c fails (next_up w c))

  fault-lives : (d : Delivery) → IfSome (fault_event w d) On
  fault-lives (delivery.Down c) = down-lives c.0 false true
  fault-lives (delivery.Ready c) = ready-lives c.0 true
  fault-lives (delivery.Up c) = up-lives c.0 true

  lost-lives : (c : ℕ) (way : Direction) (more : ℕ) → On (lost w c way more)
  lost-lives c direction.Down more = same-lives (lost w c direction.Down more) refl refl
  lost-lives c direction.Up more = same-lives (lost w c direction.Up more) refl refl

  where-lives : (test : Bool) (v : World) → (test ≡ true → On v) → IfSome (where_so test v) On
  where-lives true v s = s refl
  where-lives false v s = tt

stop-lives : (w : World) (e : Event) (n : ℕ) → ((m : ℕ) → m ≡ n → StopsAt e m) → LivesOn w e (stop w n)
stop-lives w e n at = record { lives = λ m. omega arith; stops = λ p a b. go p (p.node == n) refl a b }
  where
    go : (p : Place) (t : Bool) → (p.node == n) ≡ t → is_alive w p ≡ true → is_alive (stop w n) p ≡ false → StopsAt e p.node
    go p true q a b = at p.node (eqb-true p.node n q)
    go p false q a b = absurd (clash (is_alive w p) (sym (ap (λ (t : Bool). t && (w.lives p.node == p.life)) (put-else w.running n false p.node q)) ∙ b) a)

restart-lives : (w : World) (e : Event) (n : ℕ) (list : List FoundReplica) → w.running n ≡ false → LivesOn w e (restart w n list)
unfolding restart
restart-lives w e n list stopped = record {
  lives = λ m. if-each (λ (k : ℕ). w.lives m ≤ k) (m == n) (w.lives n + 1) (w.lives m) (λ q. omega (arith, ap w.lives (eqb-true m n q))) (λ q. omega arith);
  stops = λ p a b. absurd (clash (is_alive w p) (restart-gone w n list p stopped b) a);
}

not-running : (b : Bool) → not b ≡ true → b ≡ false
not-running true e = cc
not-running false e = refl

outcome-lives : (w : World) (e : Event) → IfSome (outcome w e) (LivesOn w e)
unfolding outcome
outcome-lives w (event.Own s) = changed-lives w (event.Own s) w (own_change w s) refl refl
outcome-lives w (event.Office c) = changed-lives w (event.Office c) w (office_event w c) refl refl
outcome-lives w (event.Down c answered) = down-lives w (event.Down c answered) c.0 answered false
outcome-lives w (event.Ready c) = ready-lives w (event.Ready c) c.0 false
outcome-lives w (event.Up c) = up-lives w (event.Up c) c.0 false
outcome-lives w (event.Lost c way more) = where-lives w (event.Lost c way more) (nat_lt c.0 w.next_conn) _ (λ _. lost-lives w (event.Lost c way more) c.0 way more)
outcome-lives w (event.Fault d) = fault-lives w (event.Fault d) d
outcome-lives w (event.Stop n) = where-lives w (event.Stop n) (w.running n.0) _ (λ _. stop-lives w (event.Stop n) n.0 (λ m q. q))
outcome-lives w (event.Restart n list) = where-lives w (event.Restart n list) (nat_lt n.0 w.nodes && not (w.running n.0)) _
    (λ e. restart-lives w (event.Restart n list) n.0 list (not-running (w.running n.0) (and-right (nat_lt n.0 w.nodes) (not (w.running n.0)) e)))

after-lives : (w : World) (e : Event) (o : Option World) → IfSome o (LivesOn w e) → LivesOn w e (after_event w e o)
after-lives w e None h = same-lives w e w refl refl
after-lives w e (Some v) h = record { lives = h.lives; stops = h.stops }

pub happens-lives : (w : World) (e : Event) → LivesOn w e (happens w e)
unfolding happens
happens-lives w e = after-lives w e (outcome w e) (outcome-lives w e)

-- A place that doesn't live is gone, where its life came.
pub is-gone : (w : World) (p : Place) → p.life ≤ w.lives p.node → is_alive w p ≡ false → IsGone w p
is-gone w p le e = go (w.running p.node) refl e
  where
    go : (b : Bool) → w.running p.node ≡ b → (b && (w.lives p.node == p.life)) ≡ false → IsGone w p
    go false r q = down r
    go true r q = later (below (w.lives p.node) p.life le q)
      where
        below : (a b : ℕ) → b ≤ a → (a == b) ≡ false → b < a
        below a b le e = grind (arith, nat_tests, le, e)
