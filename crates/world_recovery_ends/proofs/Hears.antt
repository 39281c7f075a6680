-- A primary takes what stands next on a connection; and what each event makes of the primary that it is of.
use Rattle.std.proofs.Common.{◌≡◌, ℕ, suc, ◌<◌, ◌≤◌, ◌⊎◌, inl, inr, Bool, true, false, List, length, slice_get, Option, Some, None, IfSome, refl, sym, ap, ◌∙◌, subst, arith}
use Rattle.std.specs.Prelude.{◌==◌, ◌&&◌, is_none, nat_lt}
use Rattle.world.specs.RecoveryCore.Standing.{Standing}
use Rattle.world.specs.RecoveryCore.Primaries.{heard_at}
use Rattle.world.specs.declared.events.Caller.TheVariants as caller
use Rattle.world.specs.declared.events.Event.{Event}
use Rattle.world.specs.declared.events.Event.TheVariants as event
use Rattle.world.specs.declared.events.OwnStep.TheVariants as step
use Rattle.world.specs.Parts.{Message, Upper, by_writer, by_member, by_reader, by_primary, Marks, Lower, Told, Leading, Primary, no_primary, was_told, leads, has_led}
use Rattle.world.specs.Worlds.{World, Change, apply, put}
use Rattle.world.specs.Connections.{Next, message, the_end, marks_taken, next_on, next_up, up_taken, is_alive}
use Rattle.world.specs.Primaries.{primary_change, heard_of, listens, hears_change, primary_up, primary_up_as, own_recover, own_primary, primary_asks}
use Rattle.world.specs.Events.{changed, upper_up, up_as, outcome, after_event, happens}
use Rattle.world_laws.specs.Placing.{Placed}
use Rattle.world_laws.proofs.FactTables.{when-each, and-left, and-right}
use Rattle.world_orders.proofs.AllOrdered.{next-found, lt-true}
use Rattle.world_orders.proofs.Kept.{eqb-itself}
use Rattle.world_readings.proofs.Giving.{get-within}
use Rattle.world_readings.proofs.Keeping.{put-here, put-same}
use Rattle.world_settling.specs.Draws.{the_primary, actor_above, actor_of}
use Rattle.world_recovery_ends.proofs.Conns.{Carries, Stays, stays-goes, change-stays}
use Rattle.world_recovery_ends.proofs.ConnEvents.{takes_from}
use Rattle.world_recovery_ends.proofs.Leading.{is_answer}
use Rattle.world_recovery_ends.proofs.Deeds.{Led, hears, Acted, named, others-stay, primary-is, begins-at-makes, primary-makes, asks-makes}

-- a direction once what stands next in it was taken
taken-carries : (l : Lower) (downs ups : List Message) (t : ℕ) (k : Marks) (alive : Bool) (x : Next) → next_on ups k ≡ Some x → Carries l downs ups t k alive → Carries l downs ups t (marks_taken k x) alive
taken-carries l downs ups t k alive (message m) e h = record {
  below = h.below;
  within = h.within;
  marked = record { within = one (get-within ups k.taken m (next-found ups k m e)); end = h.marked.end };
  stopped = h.stopped;
}
  where
    one : suc k.taken ≤ length ups → (marks_taken k (message m)).taken ≤ length ups
    one le = omega (arith, le)
taken-carries l downs ups t k alive the_end e h = record { below = h.below; within = h.within; marked = record { within = h.marked.within; end = h.marked.end }; stopped = h.stopped }

none-told : (o : Option Told) → is_none o ≡ true → o ≡ None
none-told None e = refl
none-told (Some t) e = cc

-- an answer isn't the end
answer-over : (k : Marks) (x : Next) → is_answer (heard_of x) ≡ true → (marks_taken k x).over ≡ k.over
answer-over k (message m) e = refl
answer-over k the_end e = cc

module _ (w : World) (e : Event) (i place c : ℕ) (x : Next) (lt : c < w.next_conn) (next : next_up w c ≡ Some x) (upper : (w.dialled c).upper ≡ by_primary i place) (takes : (d : ℕ) → takes_from e d ≡ (d == c)) where
  abbrev On : Change → Type 0
  On k = Acted w e (named (apply (up_taken w c x) k) e) i

  mine : put w.up_marks c (marks_taken (w.up_marks c) x) c ≡ marks_taken (w.up_marks c) x
  mine = put-here w.up_marks c (marks_taken (w.up_marks c) x) c (eqb-itself c)

  hears-so : (l : Leading) (shuts : ℕ → Bool) → Led w i l → l.told ≡ None → On (record (primary_change (up_taken w c x) i (leads (record l { state = heard_at l.state place (heard_of x) }))) { shuts = shuts })
  unfolding up_taken
  hears-so l shuts h n =
      let u = up_taken w c x in
      let k = record (primary_change u i (leads (record l { state = heard_at l.state place (heard_of x) }))) { shuts = shuts } in
      let s : Stays u (apply u k) c = change-stays u k c lt (put-same u.lowers 0 (u.lowers 0) c refl) refl in
      record {
        becomes = hears l place c x h n upper (primary-is u k i refl)
            (λ z. (stays-goes u (apply u k) c s (subst (λ (m : Marks). Carries (w.lowers c) (w.downs c) (w.ups c) (w.down_marks c).taken m (is_alive w (w.dialled c).to)) (sym mine) (taken-carries (w.lowers c) (w.downs c) (w.ups c) (w.down_marks c).taken (w.up_marks c) _ x next z))).carries)
            (λ a. s.over ∙ ap (λ (m : Marks). m.over) mine ∙ answer-over (w.up_marks c) x a)
            takes;
        others = λ j q. others-stay u k i j refl q;
      }

  hears-change : (l : Leading) → Led w i l → l.told ≡ None → (o : Option Standing) → IfSome (hears_change (up_taken w c x) i l place c x o) On
  hears-change l h n None = tt
  hears-change l h n (Some s) = when-each On (listens l.state.phase s) _ (λ _. hears-so l _ h n)

  up-as-makes : (q : Primary) → w.primaries i ≡ q → IfSome (primary_up_as q (up_taken w c x) i place c x) On
  unfolding up_taken
  up-as-makes no_primary is = tt
  up-as-makes (was_told b t) is = tt
  up-as-makes (leads l) is =
      when-each On (is_alive (up_taken w c x) l.at && is_none l.told) _
      (λ a. hears-change l (record { is = is; alive = and-left (is_alive w l.at) (is_none l.told) a }) (none-told l.told (and-right (is_alive w l.at) (is_none l.told) a)) (slice_get l.state.standings place))
  up-as-makes (has_led r) is = tt

  primary-up-makes : IfSome (primary_up (up_taken w c x) i place c x) On
  unfolding up_taken
  primary-up-makes = up-as-makes (w.primaries i) refl

-- EVENTS

changed-makes : (w u : World) (e : Event) (i : ℕ) (o : Option Change) → IfSome o (λ k. Acted w e (named (apply u k) e) i) → IfSome (changed u o) (λ v. Acted w e (named v e) i)
changed-makes w u e i None h = tt
changed-makes w u e i (Some k) h = h

same-actor : (i j : ℕ) → the_primary i ≡ the_primary j → i ≡ j
same-actor i j e = cc

module _ (w : World) (i : ℕ) where
  upper-makes : (e : Event) (c : ℕ) (x : Next) (q : Upper) → c < w.next_conn → next_up w c ≡ Some x → (w.dialled c).upper ≡ q → actor_above q ≡ the_primary i → ((d : ℕ) → takes_from e d ≡ (d == c))
      → IfSome (changed (up_taken w c x) (upper_up q (up_taken w c x) c x false)) (λ v. Acted w e (named v e) i)
  upper-makes e c x (by_writer b) lt next is a takes = cc
  upper-makes e c x (by_member d) lt next is a takes = cc
  upper-makes e c x (by_reader n) lt next is a takes = cc
  upper-makes e c x (by_primary j place) lt next is a takes =
      changed-makes w (up_taken w c x) e i _ (subst (λ (n : ℕ). IfSome (primary_up (up_taken w c x) j place c x) (λ k. Acted w e (named (apply (up_taken w c x) k) e) n)) (same-actor j i a) (primary-up-makes w e j place c x lt next is takes))

  up-as-acted : (e : Event) (c : ℕ) (o : Option Next) → c < w.next_conn → next_up w c ≡ o → actor_above (w.dialled c).upper ≡ the_primary i → ((d : ℕ) → takes_from e d ≡ (d == c)) → IfSome (up_as w c false o) (λ v. Acted w e (named v e) i)
  up-as-acted e c None lt next a takes = tt
  up-as-acted e c (Some x) lt next a takes = upper-makes e c x (w.dialled c).upper lt next refl a takes

  -- The primary of which the event is becomes so, where the event is enabled.
  pub outcome-makes : Placed w → (e : Event) → actor_of w e ≡ the_primary i → IfSome (outcome w e) (λ v. Acted w e (named v e) i)
  unfolding outcome
  outcome-makes p (event.Own (step.Writer b takes answered)) a = cc
  outcome-makes p (event.Own (step.Reader n m r answered)) a = cc
  outcome-makes p (event.Own (step.Recover j n b members answers)) a = subst (λ (m : ℕ). IfSome (changed w (own_recover w j n.0 b members answers)) (λ v. Acted w (event.Own (step.Recover j n b members answers)) (named v (event.Own (step.Recover j n b members answers))) m)) (same-actor j i a)
      (changed-makes w w _ j _ (begins-at-makes w (event.Own (step.Recover j n b members answers)) j (λ d. refl) p (w.primaries j) n.0 b members answers refl))
  outcome-makes p (event.Own (step.Primary j)) a = subst (λ (m : ℕ). IfSome (changed w (own_primary w j)) (λ v. Acted w (event.Own (step.Primary j)) (named v (event.Own (step.Primary j))) m)) (same-actor j i a)
      (changed-makes w w _ j _ (primary-makes w (event.Own (step.Primary j)) j (λ d. refl) (w.primaries j) refl))
  outcome-makes p (event.Office (caller.Writer b)) a = cc
  outcome-makes p (event.Office (caller.Primary j b)) a = subst (λ (m : ℕ). IfSome (changed w (primary_asks (w.primaries j) w j b)) (λ v. Acted w (event.Office (caller.Primary j b)) (named v (event.Office (caller.Primary j b))) m)) (same-actor j i a)
      (changed-makes w w _ j _ (asks-makes w (event.Office (caller.Primary j b)) j (λ d. refl) refl (w.primaries j) b refl))
  outcome-makes p (event.Down c answered) a = cc
  outcome-makes p (event.Ready c) a = cc
  outcome-makes p (event.Up c) a = when-each (λ v. Acted w (event.Up c) (named v (event.Up c)) i) (nat_lt c.0 w.next_conn) _ (λ q. up-as-acted (event.Up c) c.0 (next_up w c.0) (lt-true c.0 w.next_conn q) refl a (λ d. refl))
  outcome-makes p (event.Lost c way more) a = cc
  outcome-makes p (event.Fault d) a = cc
  outcome-makes p (event.Stop n) a = cc
  outcome-makes p (event.Restart n list) a = cc

-- It has acted; or the event isn't enabled, and nothing happens.
pub acts-or-none : (w : World) (e : Event) (i : ℕ) → Placed w → actor_of w e ≡ the_primary i → Acted w e (happens w e) i ⊎ ((outcome w e ≡ None) × (happens w e ≡ w))
unfolding happens
acts-or-none w e i p a = go (outcome w e) refl (outcome-makes w i p e a)
  where
    go : (o : Option World) → outcome w e ≡ o → IfSome o (λ v. Acted w e (named v e) i) → Acted w e (after_event w e o) i ⊎ ((outcome w e ≡ None) × (after_event w e o ≡ w))
    go None q h = inr (q, refl)
    go (Some v) q h = inl h
