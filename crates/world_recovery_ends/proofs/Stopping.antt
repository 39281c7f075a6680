-- A primary that leads at a node that no longer lives: the node stopped while it led.
use Rattle.std.proofs.Common.{◌≡◌, ℕ, ◌⊎◌, inl, inr, Bool, true, false, List, [], ◌∷◌, ◌++◌, None, refl, sym, ap, ◌∙◌, subst, append-nil, append_assoc, eqb-true}
use Rattle.std.specs.Prelude.{◌==◌}
use Rattle.hd_base.specs.declared.numbers.NodeId.{NodeId}
use Rattle.world.specs.declared.events.Event.{Event}
use Rattle.world.specs.declared.events.Event.TheVariants as event
use Rattle.world.specs.Parts.{Place, Leading, was_told, leads, has_led}
use Rattle.world.specs.Worlds.{World, start}
use Rattle.world.specs.Connections.{is_alive, place_of}
use Rattle.world.specs.Events.{happens, outcome, run}
use Rattle.world_laws.specs.Placing.{Placed}
use Rattle.world_laws.proofs.PlacedLaws.{all-placed}
use Rattle.world_laws.proofs.RunLaws.{runs-end}
use Rattle.world_orders.proofs.Clients.{clash}
use Rattle.world_orders.proofs.Kept.{eqb-itself}
use Rattle.world_settling.specs.Draws.{Actor, neither, the_writer, the_primary, actor_of, is_primary}
use Rattle.world_settling.proofs.Actors.{primaries-stay}
use Rattle.world_recovery_ends.specs.Stopping.{HasStopped}
use Rattle.world_recovery_ends.proofs.Lives.{StopsAt, happens-lives, is-gone}
use Rattle.world_recovery_ends.proofs.Leading.{PrimaryFits}
use Rattle.world_recovery_ends.proofs.Deeds.{Becomes, told, ends, begins, asks, updates, hears, Acted}
use Rattle.world_recovery_ends.proofs.Hears.{acts-or-none}
use Rattle.world_recovery_ends.proofs.AllLeading.{all-fit}

-- WHO LED BEFORE

same-leading : (l m : Leading) → leads l ≡ leads m → l ≡ m
same-leading l m e = cc

-- A primary that leads after an event led before, in the same state; or its node lived before.
module _ (w : World) (e : Event) (i : ℕ) (l : Leading) (is : (happens w e).primaries i ≡ leads l) where
  abbrev Before : Type 0
  Before = (w.primaries i ≡ leads l) ⊎ (is_alive w l.at ≡ true)

  at-place : (m : Leading) (p : Place) → m.at ≡ p → is_alive w p ≡ true → (happens w e).primaries i ≡ leads m → Before
  at-place m p at alive q =
      let same : m ≡ l = same-leading m l (sym q ∙ is) in
      inr (subst (λ (k : Leading). is_alive w k.at ≡ true) same (ap (is_alive w) at ∙ alive))

  began : (n : ℕ) → w.running n ≡ true → is_alive w (place_of w n) ≡ true
  began n runs = rw runs (eqb-itself (w.lives n))

  becomes-before : Becomes w e (happens w e) i → Before
  becomes-before (told b t o a q) = absurd (differ (sym q ∙ is))
    where
      differ : was_told b t ≡ leads l → ⊥
      differ z = cc
  becomes-before (ends r q) = absurd (differ (sym q ∙ is))
    where
      differ : has_led r ≡ leads l → ⊥
      differ z = cc
  becomes-before (begins n b begun members bs at runs q fresh) = at-place _ (place_of w n) refl (began n runs) q
  becomes-before (asks m t led commits o quiet q) = at-place _ m.at refl led.alive q
  becomes-before (updates m c led none does quiet q longer) = at-place _ m.at refl led.alive q
  becomes-before (hears m place c x led none dialled q carry over takes_so) = at-place _ m.at refl led.alive q

  pub led-before : Placed w → Before
  led-before p = go (actor_of w e) refl
    where
      one : (j : ℕ) → Acted w e (happens w e) j → (b : Bool) → (i == j) ≡ b → (w.primaries i ≡ leads l) ⊎ (is_alive w l.at ≡ true)
      one j a true q = becomes-before (subst (λ (n : ℕ). Becomes w e (happens w e) n) (sym (eqb-true i j q)) a.becomes)
      one j a false q = inl (sym (a.others i (λ z. no (sym z) q)) ∙ is)
        where
          no : j ≡ i → (i == j) ≡ false → ⊥
          no z f = clash (i == i) (subst (λ (n : ℕ). (i == n) ≡ false) z f) (eqb-itself i)

      either : (j : ℕ) → Acted w e (happens w e) j ⊎ ((outcome w e ≡ None) × (happens w e ≡ w)) → (w.primaries i ≡ leads l) ⊎ (is_alive w l.at ≡ true)
      either j (inl a) = one j a (i == j) refl
      either j (inr s) = inl (subst (λ (v : World). v.primaries i ≡ leads l) s.1 is)

      go : (a : Actor) → actor_of w e ≡ a → (w.primaries i ≡ leads l) ⊎ (is_alive w l.at ≡ true)
      go neither q = inl (sym (primaries-stay w e i (ap is_primary q)) ∙ is)
      go (the_writer b) q = inl (sym (primaries-stay w e i (ap is_primary q)) ∙ is)
      go (the_primary j) q = either j (acts-or-none w e j p q)

-- AFTER SOME OF THE EVENTS

-- The node stopped after some of these events, while the primary led so.
record Stopped (nodes : ℕ) (events : List Event) (i : ℕ) (l : Leading) : Type 0 where
  before : List Event
  node : NodeId
  rest : List Event
  joins : before ++ (event.Stop node ∷ rest) ≡ events
  there : l.at.node ≡ node.0
  led : (run (start nodes) before).primaries i ≡ leads l
  lived : is_alive (run (start nodes) before) l.at ≡ true

module _ (nodes : ℕ) where
  abbrev Were : List Event → World → Type 0
  Were events w = (i : ℕ) (l : Leading) → w.primaries i ≡ leads l → is_alive w l.at ≡ false → Stopped nodes events i l

  stopped-later : (events more : List Event) (i : ℕ) (l : Leading) → Stopped nodes events i l → Stopped nodes (events ++ more) i l
  stopped-later events more i l s = record {
    before = s.before;
    node = s.node;
    rest = s.rest ++ more;
    joins = sym (append_assoc s.before (event.Stop s.node ∷ s.rest) more) ∙ ap (λ (es : List Event). es ++ more) s.joins;
    there = s.there;
    led = s.led;
    lived = s.lived;
  }

  stopped-now : (events : List Event) (e : Event) (i : ℕ) (l : Leading) → (happens (run (start nodes) events) e).primaries i ≡ leads l → is_alive (run (start nodes) events) l.at ≡ true → StopsAt e l.at.node → Stopped nodes (events ++ e ∷ []) i l
  stopped-now events (event.Stop n) i l is alive at = record {
    before = events;
    node = n;
    rest = [];
    joins = refl;
    there = at;
    led = sym (primaries-stay (run (start nodes) events) (event.Stop n) i refl) ∙ is;
    lived = alive;
  }
  stopped-now events (event.Own s) i l is alive at = absurd at
  stopped-now events (event.Office c) i l is alive at = absurd at
  stopped-now events (event.Down c answered) i l is alive at = absurd at
  stopped-now events (event.Ready c) i l is alive at = absurd at
  stopped-now events (event.Up c) i l is alive at = absurd at
  stopped-now events (event.Lost c way more) i l is alive at = absurd at
  stopped-now events (event.Fault d) i l is alive at = absurd at
  stopped-now events (event.Restart n list) i l is alive at = absurd at

  one-more : (events : List Event) (e : Event) → Were events (run (start nodes) events) → Were (events ++ e ∷ []) (happens (run (start nodes) events) e)
  one-more events e h i l is gone = go (is_alive (run (start nodes) events) l.at) refl
    where
      earlier : is_alive (run (start nodes) events) l.at ≡ false → ((run (start nodes) events).primaries i ≡ leads l) ⊎ (is_alive (run (start nodes) events) l.at ≡ true) → Stopped nodes (events ++ e ∷ []) i l
      earlier dead (inl q) = stopped-later events (e ∷ []) i l (h i l q dead)
      earlier dead (inr q) = absurd (clash (is_alive (run (start nodes) events) l.at) dead q)

      go : (b : Bool) → is_alive (run (start nodes) events) l.at ≡ b → Stopped nodes (events ++ e ∷ []) i l
      go true a = stopped-now events e i l is a ((happens-lives (run (start nodes) events) e).stops l.at a gone)
      go false a = earlier a (led-before (run (start nodes) events) e i l is (all-placed nodes events))

  run-were : (events more : List Event) → Were events (run (start nodes) events) → Were (events ++ more) (run (start nodes) (events ++ more))
  run-were events [] h = subst (λ (es : List Event). Were es (run (start nodes) es)) (sym (append-nil events)) h
  run-were events (e ∷ more) h =
      subst (λ (es : List Event). Were es (run (start nodes) es)) (append_assoc events (e ∷ []) more)
      (run-were (events ++ e ∷ []) more (subst (Were (events ++ e ∷ [])) (sym (runs-end (start nodes) events e)) (one-more events e h)))

  start-were : Were [] (start nodes)
  unfolding start
  start-were i l is gone = cc

pub all-have-stopped : (nodes : ℕ) (events : List Event) (i : ℕ) (l : Leading) → (run (start nodes) events).primaries i ≡ leads l → is_alive (run (start nodes) events) l.at ≡ false → HasStopped nodes events i l
all-have-stopped nodes events i l is dead =
    let s = run-were nodes [] events (start-were nodes) i l is dead in
    let f = subst (PrimaryFits (run (start nodes) events)) is (all-fit nodes events i) in
    record {
      before = s.before;
      node = s.node;
      rest = s.rest;
      joins = s.joins;
      there = s.there;
      led = s.led;
      lived = s.lived;
      gone = is-gone (run (start nodes) events) l.at f.came dead;
    }
