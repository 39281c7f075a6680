-- What the stop and the start of a node leave of connections and primaries, and which lower ends are served then.
use Rattle.std.proofs.Common.{◌≡◌, ◌<◌, ◌+◌, ℕ, Bool, true, false, if◌then◌else◌, List, Some, refl, sym, ap, ◌∙◌, subst, arith, eqb-true}
use Rattle.std.specs.Prelude.{◌==◌, ◌&&◌, nat_lt, not}
use Rattle.std.proofs.lemmas.Bool.Decides.{nat_tests}
use Rattle.hd_base.specs.declared.numbers.NodeId.{NodeId}
use Rattle.world.specs.declared.events.Event.{Event}
use Rattle.world.specs.declared.events.Event.TheVariants as event
use Rattle.world.specs.declared.events.FoundReplica.{FoundReplica}
use Rattle.world.specs.Connections.{is_served, is_of_node, stopped_marks}
use Rattle.world.specs.Events.{happens, outcome, after_event, where_so, stop}
use Rattle.world.specs.Parts.{Dialled, Marks}
use Rattle.world.specs.Restarts.{restart}
use Rattle.world.specs.Worlds.{World, put}
use Rattle.play_servers.specs.WorldNets.Nets.{is_over}
use Rattle.play_primaries.proofs.WorldStops.StopLemmas.{stop_is}
use Rattle.play_recoveries.specs.Keeping.{MayStart}
use Rattle.play_recoveries.proofs.KeepLaws.{test_so}

-- Connections and their lower ends, the primaries, and which ends were taken are as they were.
pub record KeepsConns (w v : World) : Type 0 where
  pub nodes : v.nodes ≡ w.nodes
  pub conns : v.next_conn ≡ w.next_conn
  pub dialled : (d : ℕ) → v.dialled d ≡ w.dialled d
  pub lowers : (d : ℕ) → v.lowers d ≡ w.lowers d
  pub primaries : (p : ℕ) → v.primaries p ≡ w.primaries p
  pub downs : (d : ℕ) → v.downs d ≡ w.downs d
  pub over : (d : ℕ) (lower : Bool) → is_over v d lower ≡ is_over w d lower

-- WHICH ARE SERVED

last_false : (b : Bool) → (b && false) ≡ false
last_false true = refl
last_false false = refl

not_running : (v : World) (c : ℕ) → v.running (v.dialled c).to.node ≡ false → is_served v c ≡ false
not_running v c e = ap (λ (b : Bool). nat_lt c v.next_conn && (b && (v.lives (v.dialled c).to.node == (v.dialled c).to.life))) e ∙ last_false (nat_lt c v.next_conn)

other_life : (v : World) (c : ℕ) → (v.lives (v.dialled c).to.node == (v.dialled c).to.life) ≡ false → is_served v c ≡ false
other_life v c e =
    ap (λ (b : Bool). nat_lt c v.next_conn && (v.running (v.dialled c).to.node && b)) e ∙
    (ap (λ (b : Bool). nat_lt c v.next_conn && b) (last_false (v.running (v.dialled c).to.node)) ∙ last_false (nat_lt c v.next_conn))

same_served : (w v : World) (c : ℕ) → KeepsConns w v → v.running (w.dialled c).to.node ≡ w.running (w.dialled c).to.node → v.lives (w.dialled c).to.node ≡ w.lives (w.dialled c).to.node → is_served v c ≡ is_served w c
same_served w v c k running lives = rw (k.conns, k.dialled c, running, lives) refl

-- what a table has where it was put, and elsewhere
pub put_if : {A : Type 0} (f : ℕ → A) (n : ℕ) (x : A) (m : ℕ) (b : Bool) → (m == n) ≡ b → put f n x m ≡ (if b then x else f m)
put_if f n x m b e = ap (λ q. if q then x else f m) e

pub no_match : (a b : ℕ) → (a ≡ b → ⊥) → (a == b) ≡ false
no_match a b apart = by (a == b) refl
  where
    by : (q : Bool) → (a == b) ≡ q → q ≡ false
    by true e = absurd (apart (eqb-true a b e))
    by false e = refl

-- STOPS

-- The node no longer runs, and all else of nodes and connections stays.
pub record HasStopped (w v : World) (node : ℕ) : Type 0 where
  pub keeps : KeepsConns w v
  pub running : (m : ℕ) → v.running m ≡ put w.running node false m
  pub lives : (m : ℕ) → v.lives m ≡ w.lives m

over_stopped : (b : Bool) (k : Marks) → (if b then stopped_marks k else k).over ≡ k.over
over_stopped true k = refl
over_stopped false k = refl

pub stops_so : (w : World) (node : NodeId) → w.running node.0 ≡ true → HasStopped w (happens w (event.Stop node)) node.0
stops_so w node runs = subst (λ (v : World). HasStopped w v node.0) (sym (stop_is w node runs)) (record {
  keeps = record { nodes = refl; conns = refl; dialled = λ d. refl; lowers = λ d. refl; primaries = λ p. refl; downs = λ d. refl; over = λ d lower. over d lower };
  running = λ m. refl;
  lives = λ m. refl;
})
  where
    over : (d : ℕ) (lower : Bool) → is_over (record (stop w node.0) { last = Some (event.Stop node) }) d lower ≡ is_over w d lower
    over d true = over_stopped (is_of_node w node.0 d) (w.down_marks d)
    over d false = over_stopped (is_of_node w node.0 d) (w.up_marks d)

pub none_served : (w v : World) (node c : ℕ) → HasStopped w v node → (v.dialled c).to.node ≡ node → is_served v c ≡ false
none_served w v node c h here = not_running v c (h.running (v.dialled c).to.node ∙ put_if w.running node false (v.dialled c).to.node true (grind (arith, nat_tests, here)))

pub still_served : (w v : World) (node c : ℕ) → HasStopped w v node → ((w.dialled c).to.node == node) ≡ false → is_served v c ≡ is_served w c
still_served w v node c h there =
    same_served w v c h.keeps (h.running (w.dialled c).to.node ∙ put_if w.running node false (w.dialled c).to.node false there) (h.lives (w.dialled c).to.node)

-- STARTS

-- The node runs in its next life, and all else of nodes and connections stays.
pub record HasStarted (w v : World) (node : ℕ) : Type 0 where
  pub keeps : KeepsConns w v
  pub running : (m : ℕ) → v.running m ≡ put w.running node true m
  pub lives : (m : ℕ) → v.lives m ≡ put w.lives node (w.lives node + 1) m

started_so : (w : World) (e : Event) (v : World) (so : Bool) → so ≡ true → after_event w e (where_so so v) ≡ record v { last = Some e }
started_so w e v true is = refl
started_so w e v false is = cc

enabled : (below runs : Bool) → below ≡ true → runs ≡ false → (below && not runs) ≡ true
enabled true false b r = refl
enabled true true b r = cc
enabled false runs b r = cc

start_is : (w : World) (node : NodeId) (found : List FoundReplica) → node.0 < w.nodes → w.running node.0 ≡ false → happens w (event.Restart node found) ≡ record (restart w node.0 found) { last = Some (event.Restart node found) }
unfolding happens outcome
start_is w node found below still =
    started_so w (event.Restart node found) (restart w node.0 found) (nat_lt node.0 w.nodes && not (w.running node.0))
    (enabled (nat_lt node.0 w.nodes) (w.running node.0) (test_so node.0 w.nodes below) still)

module _ (w : World) (node : NodeId) (found : List FoundReplica) (may : MayStart w node) where
  abbrev pub after : World
  after = happens w (event.Restart node found)

  over_restarted : (d : ℕ) (lower : Bool) → is_over (record (restart w node.0 found) { last = Some (event.Restart node found) }) d lower ≡ is_over w d lower
  unfolding restart
  over_restarted d true = refl
  over_restarted d false = refl

  is_started : HasStarted w (record (restart w node.0 found) { last = Some (event.Restart node found) }) node.0
  unfolding restart
  is_started = record {
    keeps = record { nodes = refl; conns = refl; dialled = λ d. refl; lowers = λ d. refl; primaries = λ p. refl; downs = λ d. refl; over = over_restarted };
    running = λ m. refl;
    lives = λ m. refl;
  }

  pub starts_so : HasStarted w after node.0
  starts_so = subst (λ (v : World). HasStarted w v node.0) (sym (start_is w node found may.is_node may.stands_still)) is_started

  pub start_keeps : KeepsConns w after
  start_keeps = starts_so.keeps

  -- before, the node didn't run; after, it runs in a life in which nothing was dialled
  pub served_as : (c : ℕ) → c < w.next_conn → is_served after c ≡ is_served w c
  served_as c within = by ((w.dialled c).to.node == node.0) refl
    where
      h : HasStarted w after node.0
      h = starts_so

      past : w.lives node.0 + 1 ≡ (w.dialled c).to.life → (w.dialled c).to.node ≡ node.0 → ⊥
      past e here = omega (arith, e, may.lived c within, ap (λ (k : ℕ). w.lives k) here)

      by : (b : Bool) → ((w.dialled c).to.node == node.0) ≡ b → is_served after c ≡ is_served w c
      by true e =
          let here : (w.dialled c).to.node ≡ node.0 = eqb-true (w.dialled c).to.node node.0 e in
          let life : after.lives (after.dialled c).to.node ≡ w.lives node.0 + 1 =
          ap (λ (d : Dialled). after.lives d.to.node) (h.keeps.dialled c) ∙ (h.lives (w.dialled c).to.node ∙ put_if w.lives node.0 (w.lives node.0 + 1) (w.dialled c).to.node true e) in
          other_life after c (ap (λ (n : ℕ). n == (after.dialled c).to.life) life ∙ (ap (λ (d : Dialled). w.lives node.0 + 1 == d.to.life) (h.keeps.dialled c) ∙ no_match (w.lives node.0 + 1) (w.dialled c).to.life (λ same. past same here)))
          ∙ sym (not_running w c (ap (λ (k : ℕ). w.running k) here ∙ may.stands_still))
      by false e =
          same_served w after c h.keeps (h.running (w.dialled c).to.node ∙ put_if w.running node.0 true (w.dialled c).to.node false e)
          (h.lives (w.dialled c).to.node ∙ put_if w.lives node.0 (w.lives node.0 + 1) (w.dialled c).to.node false e)
