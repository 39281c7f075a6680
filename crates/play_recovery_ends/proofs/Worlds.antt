-- What each event of a play leaves of its primaries.
use Rattle.std.proofs.Common.{◌≡◌, ℕ, suc, ◌⊎◌, inl, inr, Bool, true, false, List, [], ◌∷◌, slice_get, None, refl, sym, ap, ◌∙◌, subst, eqb-true}
use Rattle.std.specs.Prelude.{◌==◌, is_some}
use Rattle.hd_base.specs.declared.numbers.NodeId.{NodeId}
use Rattle.world.specs.RecoveryCore.OwnStep.{OwnStep}
use Rattle.world.specs.RecoveryCore.OwnStep.TheVariants as step
use Rattle.world.specs.RecoveryCore.Primaries.{own_step}
use Rattle.world.specs.declared.events.Delivery.TheVariants as delivery
use Rattle.world.specs.declared.events.Event.{Event}
use Rattle.world.specs.declared.events.Event.TheVariants as event
use Rattle.world.specs.Parts.{Leading, Primary, no_primary, was_told, leads, has_led}
use Rattle.world.specs.Safe.{Has}
use Rattle.world.specs.Worlds.{World}
use Rattle.world.specs.Clients.{are_members}
use Rattle.world.specs.Connections.{is_alive}
use Rattle.world.specs.Events.{is_enabled, happens, outcome, run}
use Rattle.world_laws.specs.Placing.{Placed}
use Rattle.world_laws.proofs.PlacedLaws.{happens-placed}
use Rattle.world_orders.proofs.Clients.{clash}
use Rattle.world_orders.proofs.Kept.{eqb-itself}
use Rattle.world_recovery_ends.specs.WorldSettling.Draws.{Actor, neither, the_writer, the_primary, actor_of, is_primary}
use Rattle.world_recovery_ends.proofs.WorldSettling.Actors.{primaries-stay}
use Rattle.play_model.specs.declared.dues.Due.{Due}
use Rattle.play_model.specs.declared.dues.Due.TheVariants as due
use Rattle.play_model.specs.declared.recoveries.Recovery.{Recovery}
use Rattle.world.specs.declared.events.TakenCommand.{TakenCommand}
use Rattle.world.specs.WriterCore.Action.{Action}
use Rattle.world.specs.WriterCore.Action.TheVariants as action
use Rattle.play_scripts.specs.PlayLaws.Nodes.{KeepsNodes, AllKeepNodes}
use Rattle.play_scripts.proofs.PlayLaws.Running.{running-stays}
use Rattle.play_model.specs.Asks.{asking_node}
use Rattle.play_model.specs.Dues.{Queues, is_due, due_events, own_events, action_of, acting, asking}
use Rattle.play_model.specs.Faults.{failed_events}
use Rattle.play_model.specs.Laws.{AreEnabled, RecoveryAmong}
use Rattle.play_model.specs.Recoveries.{primary_due, primary_events, leads_events, primary_asks, goes_on, begins_so, all_answered}
use Rattle.play_model.proofs.RecoveryLemmas.{recovery_enabled}
use Rattle.world_recovery_ends.proofs.Deeds.{Led, Becomes, told, ends, begins, asks, updates, hears, BeginsAt, is_office, Acted}
use Rattle.world_recovery_ends.proofs.Hears.{acts-or-none}
use Rattle.world_recovery_ends.proofs.Lives.{StopsAt, happens-lives}
use Rattle.world_recovery_ends.proofs.Stopping.{led-before}

-- NO ANSWER WAITS

-- no answer of the office waits for the primary
abbrev pub IsUntold : Primary → Type 0
IsUntold (was_told b t) = ⊥
IsUntold (leads l) = l.told ≡ None
IsUntold other = Unit {0}

pub record AreUntold (w : World) : Type 0 where
  pub each : (i : ℕ) → IsUntold (w.primaries i)

-- nor for any other
pub record OthersAre (w : World) (i : ℕ) : Type 0 where
  pub each : (j : ℕ) → (j ≡ i → ⊥) → IsUntold (w.primaries j)

-- WHERE PRIMARIES LEAD

-- A primary that leads does so at the node of a recovery of its number.
pub record LedBy (rs : List Recovery) (i : ℕ) (l : Leading) : Type 0 where
  pub recovery : Recovery
  pub has : Has rs recovery
  pub number : recovery.primary ≡ i
  pub node : l.at.node ≡ recovery.node.0

pub record AreLed (rs : List Recovery) (w : World) : Type 0 where
  pub each : (i : ℕ) (l : Leading) → w.primaries i ≡ leads l → LedBy rs i l

-- a primary begins in the event only where a recovery says so
abbrev pub BeginsFor : List Recovery → World → Event → Type 0
BeginsFor rs w e = (i n : ℕ) → actor_of w e ≡ the_primary i → BeginsAt e n → (r : Recovery) × (Has rs r × ((r.primary ≡ i) × (n ≡ r.node.0)))

same-leading : (l m : Leading) → leads l ≡ leads m → l ≡ m
same-leading l m e = cc

not-equal : (i j : ℕ) → (i == j) ≡ false → i ≡ j → ⊥
not-equal i j e q = clash (i == i) (subst (λ (n : ℕ). (i == n) ≡ false) (sym q) e) (eqb-itself i)

same-actor : (i j : ℕ) → the_primary i ≡ the_primary j → i ≡ j
same-actor i j e = cc

module _ (rs : List Recovery) (w : World) (e : Event) (p : Placed w) (h : AreLed rs w) (f : BeginsFor rs w e) where
  led-by : (i : ℕ) (l m : Leading) → Led w i m → m.at ≡ l.at → LedBy rs i l
  led-by i l m led at =
      let b = h.each i m led.is in
      record { recovery = b.recovery; has = b.has; number = b.number; node = ap (λ p. p.node) (sym at) ∙ b.node }

  from : (i : ℕ) (l m : Leading) → (happens w e).primaries i ≡ leads l → (happens w e).primaries i ≡ leads m → l ≡ m
  from i l m is q = same-leading l m (sym is ∙ q)

  becomes-led : (i : ℕ) (l : Leading) → actor_of w e ≡ the_primary i → (happens w e).primaries i ≡ leads l → Becomes w e (happens w e) i → LedBy rs i l
  becomes-led i l a is (told b t o x q) = absurd (differ (sym q ∙ is))
    where
      differ : was_told b t ≡ leads l → ⊥
      differ z = cc
  becomes-led i l a is (ends r q) = absurd (differ (sym q ∙ is))
    where
      differ : has_led r ≡ leads l → ⊥
      differ z = cc
  becomes-led i l a is (begins n b begun members bs at runs q fresh) =
      let r = f i n a at in
      let same = from i l _ is q in
      record { recovery = r.0; has = r.1.0; number = r.1.1.0; node = ap (λ (m : Leading). m.at.node) same ∙ r.1.1.1 }
  becomes-led i l a is (asks m t led commits o quiet q) = led-by i l m led (ap (λ (k : Leading). k.at) (sym (from i l _ is q)))
  becomes-led i l a is (updates m c led none does quiet q longer) = led-by i l m led (ap (λ (k : Leading). k.at) (sym (from i l _ is q)))
  becomes-led i l a is (hears m place c x led none dialled q carry over takes_so) = led-by i l m led (ap (λ (k : Leading). k.at) (sym (from i l _ is q)))

  stays-led : (i : ℕ) (l : Leading) → (happens w e).primaries i ≡ w.primaries i → (happens w e).primaries i ≡ leads l → LedBy rs i l
  stays-led i l same is = h.each i l (sym same ∙ is)

  pub happens-led : AreLed rs (happens w e)
  happens-led = record { each = λ i l is. go i l is (actor_of w e) refl }
    where
      one : (i j : ℕ) (l : Leading) → actor_of w e ≡ the_primary j → (happens w e).primaries i ≡ leads l → Acted w e (happens w e) j → (b : Bool) → (i == j) ≡ b → LedBy rs i l
      one i j l q is a true z = becomes-led i l (q ∙ ap the_primary (sym (eqb-true i j z))) is (subst (λ (n : ℕ). Becomes w e (happens w e) n) (sym (eqb-true i j z)) a.becomes)
      one i j l q is a false z = stays-led i l (a.others i (not-equal i j z)) is

      either : (i j : ℕ) (l : Leading) → actor_of w e ≡ the_primary j → (happens w e).primaries i ≡ leads l → Acted w e (happens w e) j ⊎ ((outcome w e ≡ None) × (happens w e ≡ w)) → LedBy rs i l
      either i j l q is (inl a) = one i j l q is a (i == j) refl
      either i j l q is (inr s) = stays-led i l (ap (λ (v : World). v.primaries i) s.1) is

      go : (i : ℕ) (l : Leading) → (happens w e).primaries i ≡ leads l → (a : Actor) → actor_of w e ≡ a → LedBy rs i l
      go i l is neither q = stays-led i l (primaries-stay w e i (ap is_primary q)) is
      go i l is (the_writer b) q = stays-led i l (primaries-stay w e i (ap is_primary q)) is
      go i l is (the_primary j) q = either i j l q is (acts-or-none w e j p q)

-- WHAT WAITS AFTER AN EVENT

-- no primary acts
pub untold-beside : (w : World) (e : Event) → is_primary (actor_of w e) ≡ false → AreUntold w → AreUntold (happens w e)
untold-beside w e n h = record { each = λ i. subst IsUntold (sym (primaries-stay w e i n)) (h.each i) }

becomes-untold : (w : World) (e : Event) (i : ℕ) → is_office e ≡ false → Becomes w e (happens w e) i → IsUntold ((happens w e).primaries i)
becomes-untold w e i n (told b t o x q) = absurd (clash (is_office e) n o)
becomes-untold w e i n (ends r q) = subst IsUntold (sym q) tt
becomes-untold w e i n (begins m b begun members bs at runs q fresh) = subst IsUntold (sym q) refl
becomes-untold w e i n (asks l t led commits o quiet q) = absurd (clash (is_office e) n o)
becomes-untold w e i n (updates l c led none does quiet q longer) = subst IsUntold (sym q) none
becomes-untold w e i n (hears l place c x led none dialled q carry over takes_so) = subst IsUntold (sym q) none

module _ (w : World) (e : Event) (i : ℕ) (p : Placed w) (a : actor_of w e ≡ the_primary i) where
  -- only its own answer is taken
  each-but : (j : ℕ) (v : World) → IsUntold (v.primaries i) → ((j ≡ i → ⊥) → IsUntold (v.primaries j)) → IsUntold (v.primaries j)
  each-but j v mine other = go (j == i) refl
    where
      go : (b : Bool) → (j == i) ≡ b → IsUntold (v.primaries j)
      go true q = subst (λ (n : ℕ). IsUntold (v.primaries n)) (sym (eqb-true j i q)) mine
      go false q = other (not-equal j i q)

  -- it goes on, whatever waited for it
  pub untold-acts : is_office e ≡ false → OthersAre w i → IsUntold (w.primaries i) ⊎ (is_enabled w e ≡ true) → AreUntold (happens w e)
  untold-acts n h s = record { each = λ j. go j (acts-or-none w e i p a) }
    where
      none-enabled : outcome w e ≡ None → is_enabled w e ≡ true → ⊥
      none-enabled q t = clash (is_some (outcome w e)) (ap is_some q) t

      still : outcome w e ≡ None → IsUntold (w.primaries i) ⊎ (is_enabled w e ≡ true) → IsUntold (w.primaries i)
      still q (inl u) = u
      still q (inr t) = absurd (none-enabled q t)

      go : (j : ℕ) → Acted w e (happens w e) i ⊎ ((outcome w e ≡ None) × (happens w e ≡ w)) → IsUntold ((happens w e).primaries j)
      go j (inl x) = each-but j (happens w e) (becomes-untold w e i n x.becomes) (λ z. subst IsUntold (sym (x.others j z)) (h.each j z))
      go j (inr q) = subst (λ (v : World). IsUntold (v.primaries j)) (sym q.1) (each-but j w (still q.0 s) (h.each j))

  -- the office answers it
  pub untold-asks : AreUntold w → OthersAre (happens w e) i
  untold-asks h = record { each = λ j z. go j z (acts-or-none w e i p a) }
    where
      go : (j : ℕ) → (j ≡ i → ⊥) → Acted w e (happens w e) i ⊎ ((outcome w e ≡ None) × (happens w e ≡ w)) → IsUntold ((happens w e).primaries j)
      go j z (inl x) = subst IsUntold (sym (x.others j z)) (h.each j)
      go j z (inr q) = subst (λ (v : World). IsUntold (v.primaries j)) (sym q.1) (h.each j)

others-are : (w : World) (i : ℕ) → AreUntold w → OthersAre w i
others-are w i h = record { each = λ j z. h.each j }

-- an event that no answer of the office is
pub untold-event : (w : World) (e : Event) → Placed w → is_office e ≡ false → AreUntold w → AreUntold (happens w e)
untold-event w e p n h = go (actor_of w e) refl
  where
    go : (a : Actor) → actor_of w e ≡ a → AreUntold (happens w e)
    go neither q = untold-beside w e (ap is_primary q) h
    go (the_writer b) q = untold-beside w e (ap is_primary q) h
    go (the_primary i) q = untold-acts w e i p q n (others-are w i h) (inl (h.each i))

-- RUNNING NODES

same-running : (w : World) (es : List Event) → AllKeepNodes es → (n : ℕ) → (run w es).running n ≡ w.running n
same-running w [] k n = refl
same-running w (e ∷ es) k n = same-running (happens w e) es k.1 n ∙ (running-stays w e k.0).running n

-- ALL OF THEM

-- No answer waits for a primary, each leads at the node of its recovery, whose members are members; and where a primary may
-- begin its node runs.
pub record Sound (rs : List Recovery) (w : World) : Type 0 where
  pub untold : AreUntold w
  pub led : AreLed rs w
  pub members : (r : Recovery) → Has rs r → are_members r.members ≡ true
  pub runs : (r : Recovery) → Has rs r → r.may_begin ≡ true → w.running r.node.0 ≡ true

-- no primary begins in the event
abbrev pub BeginsNone : Event → Type 0
BeginsNone e = (n : ℕ) → BeginsAt e n → ⊥

pub begins-none : (rs : List Recovery) (w : World) (e : Event) → BeginsNone e → BeginsFor rs w e
begins-none rs w e none i n a at = absurd (none n at)

-- what a list of events leaves, of which the first two facts are given
sound-run : (rs : List Recovery) (w : World) (es : List Event) → AllKeepNodes es → Sound rs w → AreUntold (run w es) → AreLed rs (run w es) → Sound rs (run w es)
sound-run rs w es k s untold led = record { untold = untold; led = led; members = s.members; runs = λ r has may. same-running w es k r.node.0 ∙ s.runs r has may }

-- one event, in which the office doesn't answer
pub sound-event : (rs : List Recovery) (w : World) (e : Event) → Placed w → is_office e ≡ false → KeepsNodes e → BeginsFor rs w e → Sound rs w → Sound rs (happens w e)
sound-event rs w e p n k f s = sound-run rs w (e ∷ []) (k, tt) s (untold-event w e p n s.untold) (happens-led rs w e p s.led f)

-- one event of a writer
pub sound-beside : (rs : List Recovery) (w : World) (e : Event) → Placed w → is_primary (actor_of w e) ≡ false → KeepsNodes e → BeginsNone e → Sound rs w → Sound rs (happens w e)
sound-beside rs w e p n k none s = sound-run rs w (e ∷ []) (k, tt) s (untold-beside w e n s.untold) (happens-led rs w e p s.led (begins-none rs w e none))

-- The office answers a primary, and that goes on with the answer.
sound-both : (rs : List Recovery) (w : World) (e f : Event) (i : ℕ) → Placed w → actor_of w e ≡ the_primary i → actor_of (happens w e) f ≡ the_primary i → is_office f ≡ false → KeepsNodes e → KeepsNodes f → BeginsNone e
    → BeginsFor rs (happens w e) f → is_enabled (happens w e) f ≡ true → Sound rs w → Sound rs (run w (e ∷ (f ∷ [])))
sound-both rs w e f i p a b n k j none at enabled s =
    let u = happens w e in
    let q = happens-placed w e p in
    sound-run rs w (e ∷ (f ∷ [])) (k, (j, tt)) s (untold-acts u f i q b n (untold-asks w e i p a s.untold) (inr enabled)) (happens-led rs u f q (happens-led rs w e p s.led (begins-none rs w e none)) at)

-- WHAT IS DUE

-- a writer's step
own-sound : (rs : List Recovery) (w : World) (a : Action) (b : ℕ) (queue : List TakenCommand) → Placed w → Sound rs w → Sound rs (run w (own_events a b queue))
own-sound rs w action.Wait b queue p s = sound-event rs w (acting b (slice_get queue 0)) p refl tt (begins-none rs w (acting b (slice_get queue 0)) (λ n q. q)) s
own-sound rs w (action.Ask c) b queue p s =
    let u = happens w (asking b) in
    sound-event rs u (acting b None) (happens-placed w (asking b) p) refl tt (begins-none rs u (acting b None) (λ n q. q)) (sound-beside rs w (asking b) p refl tt (λ n q. q) s)
own-sound rs w action.Took b queue p s = sound-event rs w (acting b None) p refl tt (begins-none rs w (acting b None) (λ n q. q)) s
own-sound rs w (action.Dial to r) b queue p s = sound-event rs w (acting b None) p refl tt (begins-none rs w (acting b None) (λ n q. q)) s
own-sound rs w (action.Send q) b queue p s = sound-event rs w (acting b None) p refl tt (begins-none rs w (acting b None) (λ n q. q)) s
own-sound rs w (action.Answered k said) b queue p s = sound-event rs w (acting b None) p refl tt (begins-none rs w (acting b None) (λ n q. q)) s
own-sound rs w action.Memory b queue p s = sound-event rs w (acting b None) p refl tt (begins-none rs w (acting b None) (λ n q. q)) s

-- a primary's
module _ (rs : List Recovery) (w : World) (r : Recovery) (p : Placed w) (has : Has rs r) (s : Sound rs w) where
  goes-sound : Sound rs (run w (goes_on r ∷ []))
  goes-sound = sound-event rs w (goes_on r) p refl tt (begins-none rs w (goes_on r) (λ n q. q)) s

  leads-sound : (l : OwnStep) → AreEnabled w (leads_events l r) → Sound rs (run w (leads_events l r))
  leads-sound step.Waits on = goes-sound
  leads-sound (step.Updates c) on = goes-sound
  leads-sound (step.Commits c) on =
      sound-both rs w (primary_asks r) (goes_on r) r.primary p refl refl refl tt tt (λ n q. q) (begins-none rs (happens w (primary_asks r)) (goes_on r) (λ n q. q)) on.1.0 s
  leads-sound (step.Ends x) on = goes-sound

  begins-sound : AreEnabled w (primary_asks r ∷ (begins_so r (all_answered r.members) ∷ [])) → Sound rs (run w (primary_asks r ∷ (begins_so r (all_answered r.members) ∷ [])))
  begins-sound on = sound-both rs w (primary_asks r) (begins_so r (all_answered r.members)) r.primary p refl refl refl tt tt (λ n q. q)
      (λ i n a at. (r, (has, (same-actor r.primary i a, at)))) on.1.0 s

  primary-sound : (q : Primary) → w.primaries r.primary ≡ q → primary_due q w r ≡ true → AreEnabled w (primary_events q r) → Sound rs (run w (primary_events q r))
  primary-sound no_primary is d on = begins-sound on
  primary-sound (was_told b t) is d on = cc
  primary-sound (leads l) is d on = leads-sound (own_step l.state).does on
  primary-sound (has_led x) is d on = cc

-- What is due keeps them.
pub due-sound : (rs : List Recovery) (w : World) (queues : Queues) (d : Due) → Placed w → Sound rs w → is_due w queues d ≡ true → RecoveryAmong rs d → Sound rs (run w (due_events w queues d))
due-sound rs w queues (due.Own b) p s e among = own-sound rs w (action_of w b) b.0 (queues b.0) p s
due-sound rs w queues (due.Reader ask) p s e among = sound-event rs w (asking_node ask true) p refl tt (begins-none rs w (asking_node ask true) (λ n q. q)) s
due-sound rs w queues (due.Primary r) p s e among = primary-sound rs w r p among s (w.primaries r.primary) refl e (recovery_enabled w r (s.members r among) e)
due-sound rs w queues (due.Down c) p s e among = sound-event rs w (event.Down c true) p refl tt (begins-none rs w (event.Down c true) (λ n q. q)) s
due-sound rs w queues (due.Ready c) p s e among = sound-event rs w (event.Ready c) p refl tt (begins-none rs w (event.Ready c) (λ n q. q)) s
due-sound rs w queues (due.Up c) p s e among = sound-event rs w (event.Up c) p refl tt (begins-none rs w (event.Up c) (λ n q. q)) s

-- So does a write that fails.
pub failed-sound : (rs : List Recovery) (w : World) (d : Due) → Placed w → Sound rs w → Sound rs (run w (failed_events d))
failed-sound rs w (due.Own b) p s = s
failed-sound rs w (due.Reader ask) p s = s
failed-sound rs w (due.Primary r) p s = s
failed-sound rs w (due.Down c) p s = sound-event rs w (event.Fault (delivery.Down c)) p refl tt (begins-none rs w (event.Fault (delivery.Down c)) (λ n q. q)) s
failed-sound rs w (due.Ready c) p s = s
failed-sound rs w (due.Up c) p s = s

-- an event of no primary, with which nodes may stop or start
pub sound-with : (rs : List Recovery) (w : World) (e : Event) → Placed w → is_primary (actor_of w e) ≡ false → BeginsNone e → ((r : Recovery) → Has rs r → r.may_begin ≡ true → (happens w e).running r.node.0 ≡ true) → Sound rs w → Sound rs (happens w e)
sound-with rs w e p n none runs s = record { untold = untold-beside w e n s.untold; led = happens-led rs w e p s.led (begins-none rs w e none); members = s.members; runs = runs }

-- WHERE A NODE STOPS

-- a node stops in one of these events
pub record Stops (es : List Event) (n : ℕ) : Type 0 where
  pub node : NodeId
  pub has : Has es (event.Stop node)
  pub is : n ≡ node.0

stops-first : (e : Event) (es : List Event) (n : ℕ) → StopsAt e n → Stops (e ∷ es) n
stops-first (event.Stop m) es n at = record { node = m; has = record { place = 0; there = refl }; is = at }
stops-first (event.Own s) es n at = absurd at
stops-first (event.Office c) es n at = absurd at
stops-first (event.Down c answered) es n at = absurd at
stops-first (event.Ready c) es n at = absurd at
stops-first (event.Up c) es n at = absurd at
stops-first (event.Lost c way more) es n at = absurd at
stops-first (event.Fault d) es n at = absurd at
stops-first (event.Restart m list) es n at = absurd at

-- Where a primary leads after these events at a node that doesn't live, it was so before, or the node stopped in them.
pub stopped-in : (w : World) (es : List Event) (i : ℕ) (l : Leading) → Placed w → (run w es).primaries i ≡ leads l → is_alive (run w es) l.at ≡ false → ((w.primaries i ≡ leads l) × (is_alive w l.at ≡ false)) ⊎ Stops es l.at.node
stopped-in w [] i l p is dead = inl (is, dead)
stopped-in w (e ∷ es) i l p is dead = behind (stopped-in (happens w e) es i l (happens-placed w e p) is dead)
  where
    earlier : (happens w e).primaries i ≡ leads l → is_alive w l.at ≡ false → (w.primaries i ≡ leads l) ⊎ (is_alive w l.at ≡ true) → ((w.primaries i ≡ leads l) × (is_alive w l.at ≡ false)) ⊎ Stops (e ∷ es) l.at.node
    earlier q gone (inl x) = inl (x, gone)
    earlier q gone (inr x) = absurd (clash (is_alive w l.at) gone x)

    first : (happens w e).primaries i ≡ leads l → is_alive (happens w e) l.at ≡ false → (b : Bool) → is_alive w l.at ≡ b → ((w.primaries i ≡ leads l) × (is_alive w l.at ≡ false)) ⊎ Stops (e ∷ es) l.at.node
    first q gone true a = inr (stops-first e es l.at.node ((happens-lives w e).stops l.at a gone))
    first q gone false a = earlier q a (led-before w e i l q p)

    behind : (((happens w e).primaries i ≡ leads l) × (is_alive (happens w e) l.at ≡ false)) ⊎ Stops es l.at.node → ((w.primaries i ≡ leads l) × (is_alive w l.at ≡ false)) ⊎ Stops (e ∷ es) l.at.node
    behind (inl x) = first x.0 x.1 (is_alive w l.at) refl
    behind (inr s) = inr (record { node = s.node; has = record { place = suc s.has.place; there = s.has.there }; is = s.is })
