-- Primaries, their connections and their members' nodes belong together after every list of events.
use Rattle.std.proofs.Common.{◌≡◌, ℕ, zero, suc, ◌<◌, ◌≤◌, ◌+◌, ◌⊎◌, inl, inr, Bool, true, false, List, [], ◌∷◌, map, length, slice_get, Option, Some, None, refl, sym, ap, ◌∙◌, subst, arith, eqb-true}
use Rattle.std.specs.Prelude.{◌==◌, zip, IsSome}
use Rattle.std.proofs.lemmas.Option.{none-some, same_Some}
use Rattle.hd_base.specs.declared.numbers.NodeId.{NodeId}
use Rattle.name_core.specs.declared.choice.Chosen.{Chosen}
use Rattle.world.specs.OpHeaders.Op.TheVariants as op
use Rattle.world.specs.OpHeaders.RecoveryKind.TheVariants as kind
use Rattle.world.specs.RecoveryCore.OwnStep.TheVariants as own
use Rattle.world.specs.RecoveryCore.Heard.{Heard}
use Rattle.world.specs.RecoveryCore.Standing.{Standing}
use Rattle.world.specs.RecoveryCore.Primaries.{PrimaryState, after_choice, asked, heard_as, heard_at, is_among, own_step, request_of}
use Rattle.world.specs.declared.events.Event.{Event}
use Rattle.world.specs.declared.events.Event.TheVariants as event
use Rattle.world.specs.Parts.{request, by_primary, Lower, Told, Leading, Primary, no_primary, was_told, leads, has_led}
use Rattle.world.specs.Worlds.{World, start}
use Rattle.world.specs.Primaries.{numbered, heard_of}
use Rattle.world.specs.Events.{happens, outcome, run}
use Rattle.world_laws.specs.Placing.{IsPrimary, Placed}
use Rattle.world_laws.proofs.PlacedLaws.{happens-placed, all-placed}
use Rattle.world_orders.specs.Orders.{Ordered, PrimaryIs, purpose_of}
use Rattle.world_orders.proofs.AllOrdered.{happens-ordered, start-ordered}
use Rattle.world_orders.proofs.Kept.{eqb-itself}
use Rattle.world_settling.specs.Draws.{Actor, neither, the_writer, the_primary, actor_above, actor_of, is_primary}
use Rattle.world_settling.proofs.Actors.{primaries-stay}
use Rattle.world_recovery_ends.proofs.Conns.{Fits, CarriesAt, Goes}
use Rattle.world_recovery_ends.proofs.Answering.{IsRecovering, takes, ended, recovering-lower, even}
use Rattle.world_recovery_ends.proofs.ConnEvents.{takes_from, event-goes}
use Rattle.world_recovery_ends.proofs.Lives.{happens-lives}
use Rattle.world_recovery_ends.proofs.Leading.{IsOpen, Awaits, Stands, is_over, LeadingFits, PrimaryFits, open-later, stands-later, leading-later, mapped-at, zipped-at, updates-so, chosen-stands, sent-one, is_answer, heard-at-stands}
use Rattle.world_recovery_ends.proofs.Deeds.{IsFresh, updates_of, Becomes, told, ends, begins, asks, updates, hears, Acted}
use Rattle.world_recovery_ends.proofs.Hears.{acts-or-none}

-- Each primary belongs together with its connections.
abbrev pub AllFit : World → Type 0
AllFit w = (i : ℕ) → PrimaryFits w (w.primaries i)

-- NO MORE ANSWERS THAN REQUESTS

pub answers-few : (l : Lower) (n t : ℕ) (e : Option ℕ) → IsRecovering l → Fits l n t e → n ≤ t
answers-few l n t e (takes q) h = omega (arith, even l n t e q h)
answers-few l n t e (ended q) h = (subst (λ (k : Lower). Fits k n t e) q h).0

-- WHERE IT BEGINS

-- a member that was reached has a connection
record NumberedAt (next : ℕ) (bs : List Bool) (place : ℕ) : Type 0 where
  conn : ℕ
  there : slice_get (numbered next bs) place ≡ Some (Some conn)

numbered-at : (next : ℕ) (bs : List Bool) (place : ℕ) → slice_get bs place ≡ Some true → NumberedAt next bs place
numbered-at next [] place e = absurd (none-some true e)
numbered-at next (true ∷ bs) zero e = record { conn = next; there = refl }
numbered-at next (false ∷ bs) zero e = absurd (clash (same_Some false true e))
  where
    clash : false ≡ true → ⊥
    clash q = cc
numbered-at next (true ∷ bs) (suc place) e =
    let n = numbered-at (next + 1) bs place e in
    record { conn = n.conn; there = n.there }
numbered-at next (false ∷ bs) (suc place) e =
    let n = numbered-at next bs place e in
    record { conn = n.conn; there = n.there }

begun-stands : (v : World) (next : ℕ) (bs : List Bool) → ((place c : ℕ) → slice_get (numbered next bs) place ≡ Some (Some c) → IsFresh v c) → (place : ℕ) (s : Standing) → slice_get (map asked bs) place ≡ Some s → Stands v (numbered next bs) place s
begun-stands v next bs fresh place s e =
    let m = mapped-at asked bs place s e in
    subst (Stands v (numbered next bs) place) m.is (go m.from m.there)
  where
    go : (b : Bool) → slice_get bs place ≡ Some b → Stands v (numbered next bs) place (asked b)
    go true q =
        let n = numbered-at next bs place q in
        let f = fresh place n.conn n.there in
        record { from = record { conn = n.conn; there = n.there; unended = f.unended }; more = f.more }
    go false q = tt

-- WHAT BECOMES OF A PRIMARY

heard-phase : (p : PrimaryState) (at : ℕ) (h : Heard) → (heard_at p at h).phase ≡ p.phase
heard-phase p at h = go (slice_get p.standings at)
  where
    go : (o : Option Standing) → (heard_as p at h o).phase ≡ p.phase
    go None = refl
    go (Some s) = refl

none-answered : {A : Type 0} (o : Option Told) → o ≡ None → IsSome o → A
none-answered None e s = cc
none-answered (Some t) e s = cc

same-place : (i j k : ℕ) → by_primary i j ≡ by_primary i k → j ≡ k
same-place i j k e = cc

module _ (w : World) (e : Event) (p : Placed w) (g : Ordered w) (h : AllFit w) where
  v : World
  v = happens w e

  module _ (i : ℕ) (l : Leading) (is : w.primaries i ≡ leads l) where
    fits : LeadingFits w l
    fits = subst (PrimaryFits w) is (h i)

    known : (place c : ℕ) → slice_get l.conns place ≡ Some (Some c) → c < w.next_conn
    known place c there = (subst (IsPrimary w.nodes w.next_conn) is (p.primaries i)).conns_of place c there

    upper : (place c : ℕ) → slice_get l.conns place ≡ Some (Some c) → (w.dialled c).upper ≡ by_primary i place
    upper place c there = (subst (PrimaryIs w.dialled i) is (g.primaries_are i)) place c there

    conn-goes : (place c : ℕ) → slice_get l.conns place ≡ Some (Some c) → takes_from e c ≡ false → Goes w v c
    unfolding v
    conn-goes place c there n = event-goes w c g (known place c there) (ap purpose_of (upper place c there)) (fits.conns place c there) e n

    later : ((d : ℕ) → takes_from e d ≡ false) → LeadingFits v l
    unfolding v
    later quiet = leading-later w v l (happens-lives w e).lives (λ place c there. conn-goes place c there (quiet c)) fits

    -- a chosen member is sent the UPDATE
    update-awaited : (c : Chosen) (place : ℕ) (m : NodeId) → ((d : ℕ) → takes_from e d ≡ false) → ((d : ℕ) → length (w.downs d) + length (updates_of l c d) ≤ length (v.downs d)) → slice_get l.state.members place ≡ Some m
        → is_among c.members m ≡ true → IsOpen w l.conns place → Awaits v l.conns place
    update-awaited c place m quiet longer member among o =
        let goes = conn-goes place o.conn o.there (quiet o.conn) in
        let x = fits.conns place o.conn o.there in
        let few = answers-few (w.lowers o.conn) (length (w.ups o.conn)) (w.down_marks o.conn).taken (w.up_marks o.conn).end (recovering-lower w o.conn g (ap purpose_of (upper place o.conn o.there))) x.below in
        let one = sent-one (request (op.Recovery (request_of l.state kind.Update c.length))) c.members l.state.members l.conns place o.conn m member o.there among in
        record {
          from = record { conn = o.conn; there = o.there; unended = goes.over ∙ o.unended };
          more = omega (arith, goes.taken, x.marked.within, few, x.within, one, longer o.conn);
        }

    updated-fits : (c : Chosen) → l.told ≡ None → (own_step l.state).does ≡ own.Updates c → ((d : ℕ) → takes_from e d ≡ false) → ((d : ℕ) → length (w.downs d) + length (updates_of l c d) ≤ length (v.downs d))
        → LeadingFits v (record l { state = (own_step l.state).primary })
    updated-fits c none does quiet longer =
        let u = updates-so l.state c does in
        let x = later quiet in
        record { came = x.came; unfinished = u.0; answered = λ s. none-answered l.told none s; conns = x.conns; stands = stands u.1 }
      where
        stands : (own_step l.state).primary.standings ≡ map (λ x. after_choice c.members x.0 x.1) (zip l.state.members l.state.standings) → (place : ℕ) (s : Standing) → slice_get (own_step l.state).primary.standings place ≡ Some s → Stands v l.conns place s
        stands are place s q =
            let m = mapped-at (λ x. after_choice c.members x.0 x.1) (zip l.state.members l.state.standings) place s (ap (λ xs. slice_get xs place) (sym are) ∙ q) in
            let z = zipped-at l.state.members l.state.standings place m.from m.there in
            subst (Stands v l.conns place) m.is
            (chosen-stands w v l.conns place (is_among c.members m.from.0) m.from.1 (λ a o. update-awaited c place m.from.0 quiet longer z.left a o) (fits.stands place m.from.1 z.right))

    heard-fits : (at c : ℕ) (x : _) → l.told ≡ None → (w.dialled c).upper ≡ by_primary i at → (CarriesAt w c → CarriesAt v c) → (is_answer (heard_of x) ≡ true → (v.up_marks c).over ≡ (w.up_marks c).over)
        → ((d : ℕ) → takes_from e d ≡ (d == c)) → LeadingFits v (record l { state = heard_at l.state at (heard_of x) })
    unfolding v
    heard-fits at c x none dialled carry over takes_so = record {
      came = omega (arith, fits.came, (happens-lives w e).lives l.at.node);
      unfinished = ap is_over (heard-phase l.state at (heard_of x)) ∙ fits.unfinished;
      answered = λ s. none-answered l.told none s;
      conns = λ place d there. each place d there (d == c) refl;
      stands = heard-at-stands w v l at (heard_of x) others here fits.stands;
    }
      where
        goes : (place d : ℕ) → slice_get l.conns place ≡ Some (Some d) → (d == c) ≡ false → Goes w v d
        goes place d there q = conn-goes place d there (takes_so d ∙ q)

        each : (place d : ℕ) → slice_get l.conns place ≡ Some (Some d) → (b : Bool) → (d == c) ≡ b → CarriesAt v d
        each place d there true q = subst (λ (n : ℕ). CarriesAt v n) (sym (eqb-true d c q)) (carry (subst (λ (n : ℕ). CarriesAt w n) (eqb-true d c q) (fits.conns place d there)))
        each place d there false q = (goes place d there q).carries

        others : (place : ℕ) (s : Standing) → (place ≡ at → ⊥) → Stands w l.conns place s → Stands v l.conns place s
        others place s apart y = stands-later w v l.conns place s (λ d there. goes place d there (differ d there (d == c) refl)) y
          where
            differ : (d : ℕ) → slice_get l.conns place ≡ Some (Some d) → (b : Bool) → (d == c) ≡ b → b ≡ false
            differ d there true q = absurd (apart (same-place i place at (sym (upper place d there) ∙ ap (λ (n : ℕ). (w.dialled n).upper) (eqb-true d c q) ∙ dialled)))
            differ d there false q = refl

        here : is_answer (heard_of x) ≡ true → IsOpen w l.conns at → IsOpen v l.conns at
        here a o = open-later w v l.conns at (λ d there. same d there (d == c) refl) o
          where
            same : (d : ℕ) → slice_get l.conns at ≡ Some (Some d) → (b : Bool) → (d == c) ≡ b → (v.up_marks d).over ≡ (w.up_marks d).over
            same d there true q = subst (λ (n : ℕ). (v.up_marks n).over ≡ (w.up_marks n).over) (sym (eqb-true d c q)) (over a)
            same d there false q = (goes at d there q).over

  becomes-fits : (i : ℕ) → Becomes w e v i → PrimaryFits v (v.primaries i)
  unfolding v
  becomes-fits i (told b t o a is) = subst (PrimaryFits v) (sym is) a
  becomes-fits i (ends r is) = subst (PrimaryFits v) (sym is) tt
  becomes-fits i (begins n b begun members bs at runs is fresh) = subst (PrimaryFits v) (sym is) (record {
    came = (happens-lives w e).lives n;
    unfinished = refl;
    answered = λ s. cc;
    conns = λ place c there. (fresh place c there).carries;
    stands = begun-stands v w.next_conn bs fresh;
  })
  becomes-fits i (asks l t led commits o quiet is) =
      let x = later i l led.is quiet in
      subst (PrimaryFits v) (sym is) (record { came = x.came; unfinished = x.unfinished; answered = λ s. commits; conns = x.conns; stands = x.stands })
  becomes-fits i (updates l c led none does quiet is longer) = subst (PrimaryFits v) (sym is) (updated-fits i l led.is c none does quiet longer)
  becomes-fits i (hears l at c x led none dialled is carry over takes_so) = subst (PrimaryFits v) (sym is) (heard-fits i l led.is at c x none dialled carry over takes_so)

  -- A primary that doesn't act stays.
  stays-fits : (i : ℕ) → (actor_of w e ≡ the_primary i → ⊥) → v.primaries i ≡ w.primaries i → PrimaryFits v (v.primaries i)
  unfolding v
  stays-fits i apart same = subst (PrimaryFits v) (sym same) (go (w.primaries i) refl)
    where
      not-taken : (f : Event) (c place : ℕ) → (actor_of w f ≡ the_primary i → ⊥) → (w.dialled c).upper ≡ by_primary i place → takes_from f c ≡ false
      not-taken (event.Up d) c place n u = each (c == d.0) refl
        where
          each : (b : Bool) → (c == d.0) ≡ b → b ≡ false
          each true q = absurd (n (ap (λ (m : ℕ). actor_above (w.dialled m).upper) (sym (eqb-true c d.0 q)) ∙ ap actor_above u))
          each false q = refl
      not-taken other c place n u = refl

      go : (q : Primary) → w.primaries i ≡ q → PrimaryFits v q
      go no_primary is = tt
      go (was_told b t) is = subst (PrimaryFits w) is (h i)
      go (leads l) is = leading-later w v l (happens-lives w e).lives (λ place c there. conn-goes i l is place c there (not-taken e c place apart (upper i l is place c there))) (subst (PrimaryFits w) is (h i))
      go (has_led r) is = tt

  pub happens-fits : AllFit (happens w e)
  unfolding v
  happens-fits i = go (actor_of w e) refl
    where
      alone : (a : Actor) → actor_of w e ≡ a → is_primary a ≡ false → PrimaryFits (happens w e) ((happens w e).primaries i)
      alone a q n = stays-fits i (λ z. clash (sym q ∙ z) n) (primaries-stay w e i (ap is_primary q ∙ n))
        where
          clash : a ≡ the_primary i → is_primary a ≡ false → ⊥
          clash z n = cc

      one : (j : ℕ) → actor_of w e ≡ the_primary j → Acted w e (happens w e) j → (b : Bool) → (i == j) ≡ b → PrimaryFits (happens w e) ((happens w e).primaries i)
      one j q a true z = subst (λ (n : ℕ). PrimaryFits (happens w e) ((happens w e).primaries n)) (sym (eqb-true i j z)) (becomes-fits j a.becomes)
      one j q a false z = stays-fits i (λ y. differ (same (sym q ∙ y))) (a.others i (λ y. differ (sym y)))
        where
          same : the_primary j ≡ the_primary i → j ≡ i
          same y = cc

          differ : j ≡ i → ⊥
          differ y = no (subst (λ (n : ℕ). (i == n) ≡ false) y z)
            where
              no : (i == i) ≡ false → ⊥
              no x = absurd (clash-true (sym x ∙ eqb-itself i))
                where
                  clash-true : false ≡ true → ⊥
                  clash-true r = cc

      either : (j : ℕ) → actor_of w e ≡ the_primary j → Acted w e (happens w e) j ⊎ ((outcome w e ≡ None) × (happens w e ≡ w)) → PrimaryFits (happens w e) ((happens w e).primaries i)
      either j q (inl a) = one j q a (i == j) refl
      either j q (inr s) = subst (λ (u : World). PrimaryFits u (u.primaries i)) (sym s.1) (h i)

      go : (a : Actor) → actor_of w e ≡ a → PrimaryFits (happens w e) ((happens w e).primaries i)
      go neither q = alone neither q refl
      go (the_writer b) q = alone (the_writer b) q refl
      go (the_primary j) q = either j q (acts-or-none w e j p q)

run-fits : (w : World) (events : List Event) → Placed w → Ordered w → AllFit w → AllFit (run w events)
run-fits w [] p g h = h
run-fits w (e ∷ events) p g h = run-fits (happens w e) events (happens-placed w e p) (happens-ordered w e p g) (happens-fits w e p g h)

start-fits : (nodes : ℕ) → AllFit (start nodes)
unfolding start
start-fits nodes i = tt

pub all-fit : (nodes : ℕ) (events : List Event) → AllFit (run (start nodes) events)
all-fit nodes events = run-fits (start nodes) events (all-placed nodes []) (start-ordered nodes) (start-fits nodes)
