-- What comes of a primary's connection in each event in which the primary doesn't take from it.
use Rattle.std.proofs.Common.{◌≡◌, ℕ, ◌<◌, ◌≤◌, ◌+◌, ◌⊎◌, inl, inr, Bool, true, false, List, length, Option, Some, None, IfSome, refl, sym, ap, ◌∙◌, subst, arith, eqb-true}
use Rattle.std.specs.Prelude.{◌==◌, ◌&&◌, not, nat_lt, min, IsSome}
use Rattle.std.proofs.lemmas.Bool.Decides.{nat_tests}
use Rattle.world.specs.declared.events.Delivery.{Delivery}
use Rattle.world.specs.declared.events.Delivery.TheVariants as delivery
use Rattle.world.specs.declared.events.Direction.{Direction}
use Rattle.world.specs.declared.events.Direction.TheVariants as direction
use Rattle.world.specs.declared.events.Event.{Event}
use Rattle.world.specs.declared.events.Event.TheVariants as event
use Rattle.world.specs.declared.events.FoundReplica.{FoundReplica}
use Rattle.world.specs.Parts.{Upper, by_writer, by_member, by_reader, by_primary, Place, Marks, Lower, idle, writes, serves, recovers, ended_below}
use Rattle.world.specs.Worlds.{World, Change, put, apply}
use Rattle.world.specs.Connections.{Next, marks_taken, next_down, next_up, down_taken, up_taken, is_alive, is_served, lesser, lost_marks, stopped_where, is_of_node}
use Rattle.world.specs.Nodes.{lower_down, lower_ready, mirror_up}
use Rattle.world.specs.Restarts.{restart}
use Rattle.world.specs.Events.{changed, own_change, down_as, down_event, ready_event, unless_fails, upper_up, up_as, up_event, fault_event, lost, stop, where_so, outcome, after_event, happens}
use Rattle.world.specs.Primaries.{office_event}
use Rattle.world_laws.proofs.FactTables.{if-each, when-each, and-right}
use Rattle.world_orders.specs.Orders.{Ordered, purpose_of, recovering}
use Rattle.world_orders.proofs.Kept.{eqb-itself}
use Rattle.world_readings.proofs.Keeping.{IsMarked, put-here, put-else}
use Rattle.world_recovery_ends.proofs.Conns.{CarriesAt, Stays, Goes, stays-goes, stays-then, change-stays, still-stays, named-goes}
use Rattle.world_recovery_ends.proofs.Places.{At, lower-down-at, lower-ready-at, mirror-up-at}
use Rattle.world_recovery_ends.proofs.Besides.{Beside, Leaves, beside-leaves, at-leaves, reader-up-beside, writer-up-beside, primary-up-beside, office-beside, own-beside}
use Rattle.world_recovery_ends.proofs.Answering.{IsRecovering, takes, ended, recovering-lower, down-goes}

-- whoever dialled this connection takes from it
abbrev pub takes_from : Event → ℕ → Bool
takes_from (event.Up d) c = c == d.0
takes_from other c = false

-- CHANGES

leaves-go : (w u : World) (c : ℕ) (o : Option Change) → c < w.next_conn → u.past ≡ w.past → Stays w u c → CarriesAt w c → IfSome o (λ k. Leaves u k c) → IfSome (changed u o) (λ v. Goes w v c)
leaves-go w u c None lt p s h l = tt
leaves-go w u c (Some k) lt p s h l = stays-goes w (apply u k) c (stays-then w u (apply u k) c s (change-stays u k c (subst (λ q. c < q.next_conn) (sym p) lt) l.lower l.ups)) h

same-stays : (w : World) (c : ℕ) → Stays w w c
same-stays w c = still-stays w w c refl refl refl refl (λ e. e)

-- MARKS OF OTHERS

down-else : (w : World) (c d : ℕ) (x : Next) → (c == d) ≡ false → Stays w (down_taken w d x) c
unfolding down_taken
down-else w c d x e = still-stays w (down_taken w d x) c refl refl (ap (λ (k : Marks). k.taken) (put-else w.down_marks d (marks_taken (w.down_marks d) x) c e)) refl (λ q. q)

up-else : (w : World) (c d : ℕ) (x : Next) → (c == d) ≡ false → Stays w (up_taken w d x) c
unfolding up_taken
up-else w c d x e = still-stays w (up_taken w d x) c refl refl refl (put-else w.up_marks d (marks_taken (w.up_marks d) x) c e) (λ q. q)

down-past : (w : World) (d : ℕ) (x : Next) → (down_taken w d x).past ≡ w.past
unfolding down_taken
down-past w d x = refl

up-past : (w : World) (d : ℕ) (x : Next) → (up_taken w d x).past ≡ w.past
unfolding up_taken
up-past w d x = refl

down-lower : (w : World) (d : ℕ) (x : Next) (c : ℕ) → (up_taken w d x).lowers c ≡ w.lowers c
unfolding up_taken
down-lower w d x c = refl

-- LOSSES, STOPS, RESTARTS

-- marks in which the end may stand earlier
record Sooner (w : World) (um : ℕ → Marks) (c : ℕ) : Type 0 where
  taken : (um c).taken ≡ (w.up_marks c).taken
  over : (um c).over ≡ (w.up_marks c).over
  end : IsSome (w.up_marks c).end → IsSome (um c).end
  marked : IsMarked (w.up_marks c) (w.ups c) → IsMarked (um c) (w.ups c)

lesser-below : (n m : ℕ) (o : Option ℕ) → n ≤ m → lesser n o ≤ m
lesser-below n m None le = le
lesser-below n m (Some e) le = omega (arith, le)

lost-sooner : (w : World) (d more c : ℕ) → Sooner w (put w.up_marks d (lost_marks (w.ups d) more (w.up_marks d))) c
lost-sooner w d more c = go (c == d) refl
  where
    um : ℕ → Marks
    um = put w.up_marks d (lost_marks (w.ups d) more (w.up_marks d))

    here : (k : Marks) → k ≡ lost_marks (w.ups c) more (w.up_marks c) → um c ≡ k → Sooner w um c
    here k e q = record {
      taken = ap (λ (m : Marks). m.taken) (q ∙ e);
      over = ap (λ (m : Marks). m.over) (q ∙ e);
      end = λ s. subst (λ (m : Marks). IsSome m.end) (sym (q ∙ e)) refl;
      marked = λ s. subst (λ (m : Marks). IsMarked m (w.ups c)) (sym (q ∙ e)) (record { within = s.within; end = lesser-below (min ((w.up_marks c).taken + more) (length (w.ups c))) (length (w.ups c)) (w.up_marks c).end (omega arith) });
    }

    go : (b : Bool) → (c == d) ≡ b → Sooner w um c
    go true e = here (lost_marks (w.ups d) more (w.up_marks d)) (ap (λ (n : ℕ). lost_marks (w.ups n) more (w.up_marks n)) (sym (eqb-true c d e))) (put-here w.up_marks d (lost_marks (w.ups d) more (w.up_marks d)) c e)
    go false e =
        let q : um c ≡ w.up_marks c = put-else w.up_marks d (lost_marks (w.ups d) more (w.up_marks d)) c e in
        record {
          taken = ap (λ (m : Marks). m.taken) q;
          over = ap (λ (m : Marks). m.over) q;
          end = λ s. subst (λ (m : Marks). IsSome m.end) (sym q) s;
          marked = λ s. subst (λ (m : Marks). IsMarked m (w.ups c)) (sym q) s;
        }

lost-stays : (w : World) (d : ℕ) (way : Direction) (more c : ℕ) → Stays w (lost w d way more) c
lost-stays w d direction.Down more c = still-stays w (lost w d direction.Down more) c refl refl (if-each (λ (k : Marks). k.taken ≡ (w.down_marks c).taken) (c == d) _ _ (λ e. ap (λ (n : ℕ). (w.down_marks n).taken) (sym (eqb-true c d e))) (λ e. refl)) refl (λ q. q)
lost-stays w d direction.Up more c =
    let s = lost-sooner w d more c in
    record { lower = refl; ups = refl; downs = omega arith; down_taken = refl; up_taken = s.taken; over = s.over; end = s.end; marked = s.marked; stopped = λ e. inl e }

below-true : (a b : ℕ) → a < b → nat_lt a b ≡ true
below-true a b h = grind (arith, nat_tests, h)

equal-back : (a b : ℕ) → (a == b) ≡ true → (b == a) ≡ true
equal-back a b e = subst (λ (n : ℕ). (n == a) ≡ true) (eqb-true a b e) (eqb-itself a)

stopped-end : (test : ℕ → Bool) (marks : ℕ → Marks) (c : ℕ) → test c ≡ true → IsSome (stopped_where test marks c).end
stopped-end test marks c e = rw e refl

stop-stays : (w : World) (n c : ℕ) → c < w.next_conn → Stays w (stop w n) c
stop-stays w n c lt = record {
  lower = refl;
  ups = refl;
  downs = omega arith;
  down_taken = if-each (λ (k : Marks). k.taken ≡ (w.down_marks c).taken) (is_of_node w n c) _ _ (λ _. refl) (λ _. refl);
  up_taken = if-each (λ (k : Marks). k.taken ≡ (w.up_marks c).taken) (is_of_node w n c) _ _ (λ _. refl) (λ _. refl);
  over = if-each (λ (k : Marks). k.over ≡ (w.up_marks c).over) (is_of_node w n c) _ _ (λ _. refl) (λ _. refl);
  end = λ q. if-each (λ (k : Marks). IsSome k.end) (is_of_node w n c) _ _ (λ _. refl) (λ _. q);
  marked = λ q. if-each (λ (k : Marks). IsMarked k (w.ups c)) (is_of_node w n c) _ _ (λ _. record { within = q.within; end = lesser-below (w.up_marks c).taken (length (w.ups c)) (w.up_marks c).end q.within }) (λ _. q);
  stopped = λ q. go ((w.dialled c).to.node == n) refl q;
}
  where
    there : ((w.dialled c).to.node == n) ≡ true → is_of_node w n c ≡ true
    there e = rw (below-true c w.next_conn lt) (rw (equal-back (w.dialled c).to.node n e) refl)

    go : (b : Bool) → ((w.dialled c).to.node == n) ≡ b → is_alive (stop w n) (w.dialled c).to ≡ false → (is_alive w (w.dialled c).to ≡ false) ⊎ IsSome (stopped_where (is_of_node w n) w.up_marks c).end
    go true e q = inr (stopped-end (is_of_node w n) w.up_marks c (there e))
    go false e q = inl (sym (ap (λ (b : Bool). b && (w.lives (w.dialled c).to.node == (w.dialled c).to.life)) (put-else w.running n false (w.dialled c).to.node e)) ∙ q)

dead : (a b : Bool) → a ≡ false → (a && b) ≡ false
dead false b e = refl
dead true b e = cc

-- a node that doesn't run starts again: a place that lives then lived on
pub restart-gone : (w : World) (n : ℕ) (list : List FoundReplica) (p : Place) → w.running n ≡ false → is_alive (restart w n list) p ≡ false → is_alive w p ≡ false
unfolding restart
restart-gone w n list p down q = go (p.node == n) refl q
  where
    go : (b : Bool) → (p.node == n) ≡ b → is_alive (restart w n list) p ≡ false → is_alive w p ≡ false
    go true e q = dead (w.running p.node) _ (ap w.running (eqb-true p.node n e) ∙ down)
    go false e q =
        let runs = put-else w.running n true p.node e in
        let lives = put-else w.lives n (w.lives n + 1) p.node e in
        sym (ap (λ (b : Bool). b && (put w.lives n (w.lives n + 1) p.node == p.life)) runs ∙ ap (λ (m : ℕ). w.running p.node && (m == p.life)) lives) ∙ q

restart-stays : (w : World) (n : ℕ) (list : List FoundReplica) (c : ℕ) → w.running n ≡ false → Stays w (restart w n list) c
unfolding restart
restart-stays w n list c down = still-stays w (restart w n list) c refl refl refl refl (restart-gone w n list (w.dialled c).to down)

-- EVENTS

module _ (w : World) (c : ℕ) (g : Ordered w) (lt : c < w.next_conn) (of : purpose_of (w.dialled c).upper ≡ recovering) (h : CarriesAt w c) where
  abbrev On : World → Type 0
  On v = Goes w v c

  -- another lower end acts
  acts-else : (u : World) (d : ℕ) (o : Option Change) → u.past ≡ w.past → Stays w u c → (c == d) ≡ false → IfSome o (At d) → IfSome (changed u o) On
  acts-else u d o p s e a = leaves-go w u c o lt p s h (at-leaves u c d o e a)

  down-as-goes : (d : ℕ) (answered fails : Bool) (o : Option Next) → next_down w d ≡ o → IfSome (down_as w d answered fails o) On
  down-as-goes d answered fails None e = tt
  down-as-goes d answered fails (Some x) e = go (c == d) refl
    where
      go : (b : Bool) → (c == d) ≡ b → IfSome (down_as w d answered fails (Some x)) On
      go true q = subst (λ (n : ℕ). next_down w n ≡ Some x → IfSome (changed (down_taken w n x) (lower_down (w.lowers n) (down_taken w n x) n x answered fails)) On) (eqb-true c d q) (λ f. down-goes w c x answered fails g of lt h f) e
      go false q = acts-else (down_taken w d x) d _ (down-past w d x) (down-else w c d x q) q (lower-down-at (w.lowers d) (down_taken w d x) d x answered fails)

  down-event-goes : (d : ℕ) (answered fails : Bool) → IfSome (down_event w d answered fails) On
  down-event-goes d answered fails = when-each On (is_served w d) _ (λ _. down-as-goes d answered fails (next_down w d) refl)

  -- by itself it does nothing
  ready-none : (l : Lower) (fails : Bool) → IsRecovering l → IfSome (changed w (lower_ready l w c fails)) On
  ready-none idle fails r = tt
  ready-none (writes m) fails (takes e) = cc
  ready-none (writes m) fails (ended e) = cc
  ready-none (serves b s) fails (takes e) = cc
  ready-none (serves b s) fails (ended e) = cc
  ready-none recovers fails r = tt
  ready-none ended_below fails r = tt

  ready-event-goes : (d : ℕ) (fails : Bool) → IfSome (ready_event w d fails) On
  ready-event-goes d fails = when-each On (is_served w d) _ (λ _. go (c == d) refl)
    where
      go : (b : Bool) → (c == d) ≡ b → IfSome (changed w (lower_ready (w.lowers d) w d fails)) On
      go true q = subst (λ (n : ℕ). IfSome (changed w (lower_ready (w.lowers n) w n fails)) On) (eqb-true c d q) (ready-none (w.lowers c) fails (recovering-lower w c g of))
      go false q = acts-else w d _ refl (same-stays w c) q (lower-ready-at (w.lowers d) w d fails)

  -- no mirror was dialled from it
  mirror-none : (u : World) (d : ℕ) (l : Lower) (x : Next) (fails : Bool) → IsRecovering l → IfSome (changed u (mirror_up l u d x fails)) On
  mirror-none u d idle x fails r = tt
  mirror-none u d (writes m) x fails (takes e) = cc
  mirror-none u d (writes m) x fails (ended e) = cc
  mirror-none u d (serves b s) x fails r = tt
  mirror-none u d recovers x fails r = tt
  mirror-none u d ended_below x fails r = tt

  beside-goes : (u : World) (o : Option Change) → u.past ≡ w.past → Stays w u c → IfSome o (Beside u) → IfSome (changed u o) On
  beside-goes u o p s b = leaves-go w u c o lt p s h (beside-leaves u c o b)

  unless-beside : (u : World) (fails : Bool) (o : Option Change) → IfSome o (Beside u) → IfSome (unless_fails fails o) (Beside u)
  unless-beside u true o b = tt
  unless-beside u false o b = b

  upper-goes : (q : Upper) (d : ℕ) (x : Next) (fails : Bool) → (c == d) ≡ false → IfSome (changed (up_taken w d x) (upper_up q (up_taken w d x) d x fails)) On
  upper-goes (by_writer b) d x fails e = beside-goes (up_taken w d x) _ (up-past w d x) (up-else w c d x e) (unless-beside (up_taken w d x) fails _ (writer-up-beside (up_taken w d x) b d x))
  upper-goes (by_member m) d x fails e = go (c == m) refl
    where
      go : (b : Bool) → (c == m) ≡ b → IfSome (changed (up_taken w d x) (mirror_up ((up_taken w d x).lowers m) (up_taken w d x) m x fails)) On
      go true q = mirror-none (up_taken w d x) m ((up_taken w d x).lowers m) x fails (subst IsRecovering (sym (down-lower w d x m ∙ ap w.lowers (sym (eqb-true c m q)))) (recovering-lower w c g of))
      go false q = acts-else (up_taken w d x) m _ (up-past w d x) (up-else w c d x e) q (mirror-up-at ((up_taken w d x).lowers m) (up_taken w d x) m x fails)
  upper-goes (by_reader i) d x fails e = beside-goes (up_taken w d x) _ (up-past w d x) (up-else w c d x e) (unless-beside (up_taken w d x) fails _ (reader-up-beside (up_taken w d x) i d x))
  upper-goes (by_primary i place) d x fails e = beside-goes (up_taken w d x) _ (up-past w d x) (up-else w c d x e) (unless-beside (up_taken w d x) fails _ (primary-up-beside (up_taken w d x) i place d x))

  up-as-goes : (d : ℕ) (fails : Bool) (o : Option Next) → (c == d) ≡ false → IfSome (up_as w d fails o) On
  up-as-goes d fails None e = tt
  up-as-goes d fails (Some x) e = upper-goes (w.dialled d).upper d x fails e

  up-event-goes : (d : ℕ) (fails : Bool) → (c == d) ≡ false → IfSome (up_event w d fails) On
  up-event-goes d fails e = when-each On (nat_lt d w.next_conn) _ (λ _. up-as-goes d fails (next_up w d) e)

  -- a primary calls no book
  never-fails : (q : Upper) (u : World) (x : Next) → purpose_of q ≡ recovering → IfSome (changed u (upper_up q u c x true)) On
  never-fails (by_writer b) u x e = cc
  never-fails (by_member d) u x e = cc
  never-fails (by_reader i) u x e = cc
  never-fails (by_primary i place) u x e = tt

  up-failing : (o : Option Next) → IfSome (up_as w c true o) On
  up-failing None = tt
  up-failing (Some x) = never-fails (w.dialled c).upper (up_taken w c x) x of

  fault-up : (d : ℕ) → IfSome (up_event w d true) On
  fault-up d = go (c == d) refl
    where
      go : (b : Bool) → (c == d) ≡ b → IfSome (up_event w d true) On
      go true q = subst (λ (n : ℕ). IfSome (up_event w n true) On) (eqb-true c d q) (when-each On (nat_lt c w.next_conn) _ (λ _. up-failing (next_up w c)))
      go false q = up-event-goes d true q

  fault-goes : (d : Delivery) → IfSome (fault_event w d) On
  fault-goes (delivery.Down d) = down-event-goes d.0 false true
  fault-goes (delivery.Ready d) = ready-event-goes d.0 true
  fault-goes (delivery.Up d) = fault-up d.0

  where-goes : (test : Bool) (v : World) → (test ≡ true → Stays w v c) → IfSome (where_so test v) On
  where-goes true v s = stays-goes w v c (s refl) h
  where-goes false v s = tt

  not-running : (b : Bool) → not b ≡ true → b ≡ false
  not-running true e = cc
  not-running false e = refl

  outcome-goes : (e : Event) → takes_from e c ≡ false → IfSome (outcome w e) On
  unfolding outcome
  outcome-goes (event.Own s) n = beside-goes w (own_change w s) refl (same-stays w c) (own-beside w s)
  outcome-goes (event.Office a) n = beside-goes w (office_event w a) refl (same-stays w c) (office-beside w a)
  outcome-goes (event.Down d answered) n = down-event-goes d.0 answered false
  outcome-goes (event.Ready d) n = ready-event-goes d.0 false
  outcome-goes (event.Up d) n = up-event-goes d.0 false n
  outcome-goes (event.Lost d way more) n = where-goes (nat_lt d.0 w.next_conn) _ (λ _. lost-stays w d.0 way more c)
  outcome-goes (event.Fault d) n = fault-goes d
  outcome-goes (event.Stop m) n = where-goes (w.running m.0) _ (λ _. stop-stays w m.0 c lt)
  outcome-goes (event.Restart m list) n = where-goes (nat_lt m.0 w.nodes && not (w.running m.0)) _ (λ e. restart-stays w m.0 list c (not-running (w.running m.0) (and-right (nat_lt m.0 w.nodes) (not (w.running m.0)) e)))

  after-goes : (e : Event) (o : Option World) → IfSome o On → Goes w (after_event w e o) c
  after-goes e None k = stays-goes w w c (same-stays w c) h
  after-goes e (Some v) k = named-goes w v e c k

  pub event-goes : (e : Event) → takes_from e c ≡ false → Goes w (happens w e) c
  unfolding happens
  event-goes e n = after-goes e (outcome w e) (outcome-goes e n)
