-- Each event gives one stamp at most.
use Rattle.std.proofs.Common.{◌≡◌, ℕ, ◌≤◌, ◌+◌, Bool, true, false, List, [], ◌∷◌, length, Option, Some, None, IfSome, refl, sym, subst, arith}
use Rattle.std.specs.Prelude.{◌&&◌, not, nat_lt, is_none}
use Rattle.hd_base.specs.declared.numbers.BlockId.{BlockId}
use Rattle.name_core.specs.declared.calls.OfficeCall.{OfficeCall}
use Rattle.name_core.specs.declared.office.TheConstants.{FIRST_STAMP}
use Rattle.name_core.specs.Offices.{OfficeState, office_after}
use Rattle.name_core.proofs.OfficeLemmas.{next_rises}
use Rattle.recovery_core.specs.declared.primary.OwnStep.{OwnStep}
use Rattle.recovery_core.specs.declared.primary.OwnStep.TheVariants as own_step_of
use Rattle.recovery_core.specs.Primaries as primary
use Rattle.writer_core.specs.declared.actions.Action.{Action}
use Rattle.writer_core.specs.declared.actions.Action.TheVariants as action
use Rattle.writer_core.specs.Transitions as writer
use Rattle.world.specs.declared.events.Caller.{Caller}
use Rattle.world.specs.declared.events.Caller.TheVariants as caller
use Rattle.world.specs.declared.events.Delivery.{Delivery}
use Rattle.world.specs.declared.events.Delivery.TheVariants as delivery
use Rattle.world.specs.declared.events.Direction.{Direction}
use Rattle.world.specs.declared.events.Direction.TheVariants as direction
use Rattle.world.specs.declared.events.Event.{Event}
use Rattle.world.specs.declared.events.Event.TheVariants as event
use Rattle.world.specs.declared.events.OwnStep as events
use Rattle.world.specs.declared.events.OwnStep.TheVariants as own
use Rattle.world.specs.Parts.{Leading, Primary, no_primary, was_told, leads, has_led}
use Rattle.world.specs.Worlds.{World, Change, apply, start}
use Rattle.world.specs.Connections.{Next, next_down, next_up, down_taken, up_taken, is_alive, is_served}
use Rattle.world.specs.Nodes.{lower_down, lower_ready}
use Rattle.world.specs.Primaries.{writer_asks, primary_commits, primary_asks, office_event}
use Rattle.world.specs.Restarts.{restart}
use Rattle.world.specs.Events.{changed, own_change, down_as, down_event, ready_event, upper_up, up_as, up_event, fault_event, lost, stop, where_so, outcome, after_event, happens, run}
use Rattle.play_model.proofs.WorldLaws.Agreements.{Quiet, asides-quiet, own-writer-quiet, upper-quiet}
use Rattle.play_model.proofs.WorldLaws.FactTables.{when-each}
use Rattle.play_model.proofs.WorldLaws.SessionAsides.{Aside, lower-down-aside, lower-ready-aside, own-reader-aside, own-recover-aside, own-primary-aside}
use Rattle.play_laws.specs.Stamps.{StampsAreFew}

-- the office has given one stamp more at most
abbrev Rises : OfficeState → World → Type 0
Rises o v = v.office.next.0 ≤ o.next.0 + 1

rises-same : (o p : OfficeState) → p ≡ o → p.next.0 ≤ o.next.0 + 1
rises-same o p e = subst (λ (q : OfficeState). q.next.0 ≤ o.next.0 + 1) (sym e) (omega arith)

module _ (w : World) where
  abbrev Gives : Change → Type 0
  Gives k = k.office.next.0 ≤ w.office.next.0 + 1

  -- A CALL ON THE OFFICE

  calls : (c : OfficeCall) → (office_after w.office c).next.0 ≤ w.office.next.0 + 1
  calls c = (next_rises w.office c).high

  asks-gives : (a : Action) (b : ℕ) → IfSome (writer_asks a w b) Gives
  asks-gives (action.Ask c) b = calls c
  asks-gives action.Wait b = tt
  asks-gives action.Took b = tt
  asks-gives (action.Dial to r) b = tt
  asks-gives (action.Send p) b = tt
  asks-gives (action.Answered k said) b = tt
  asks-gives action.Memory b = tt

  commits-gives : (s : OwnStep) (i : ℕ) (l : Leading) → IfSome (primary_commits s w i l) Gives
  commits-gives (own_step_of.Commits c) i l = calls _
  commits-gives own_step_of.Waits i l = tt
  commits-gives (own_step_of.Updates c) i l = tt
  commits-gives (own_step_of.Ends r) i l = tt

  primary-gives : (x : Primary) (i : ℕ) (b : BlockId) → IfSome (primary_asks x w i b) Gives
  primary-gives no_primary i b = calls _
  primary-gives (leads l) i b = when-each Gives (is_alive w l.at && is_none l.told) _ (λ _. commits-gives (primary.own_step l.state).does i l)
  primary-gives (was_told q t) i b = tt
  primary-gives (has_led r) i b = tt

  office-gives : (c : Caller) → IfSome (office_event w c) Gives
  office-gives (caller.Writer b) = when-each Gives (is_none (w.writers b.0).told) _ (λ _. asks-gives (writer.own_step (w.writers b.0).known).action b.0)
  office-gives (caller.Primary i b) = primary-gives (w.primaries i) i b

  -- OTHER CHANGES

  quiet-gives : (o : Option Change) → IfSome o (Quiet w) → IfSome o Gives
  quiet-gives None q = tt
  quiet-gives (Some k) q = rises-same w.office k.office q.office

  aside-gives : (o : Option Change) → IfSome o (Aside w) → IfSome o Gives
  aside-gives o q = quiet-gives o (asides-quiet w o q)

  own-gives : (s : events.OwnStep) → IfSome (own_change w s) Gives
  own-gives (own.Writer b takes answered) = quiet-gives _ (own-writer-quiet w b.0 takes answered)
  own-gives (own.Reader i n r answered) = aside-gives _ (own-reader-aside w i n.0 r answered)
  own-gives (own.Recover i n b members answers) = aside-gives _ (own-recover-aside w i n.0 b members answers)
  own-gives (own.Primary i) = aside-gives _ (own-primary-aside w i)

  apply-rises : (k : Change) → Gives k → Rises w.office (apply w k)
  unfolding apply
  apply-rises k g = g

  changed-rises : (o : Option Change) → IfSome o Gives → IfSome (changed w o) (Rises w.office)
  changed-rises None g = tt
  changed-rises (Some k) g = apply-rises k g

-- DELIVERIES

down-taken-office : (w : World) (c : ℕ) (x : Next) → (down_taken w c x).office ≡ w.office
unfolding down_taken
down-taken-office w c x = refl

up-taken-office : (w : World) (c : ℕ) (x : Next) → (up_taken w c x).office ≡ w.office
unfolding up_taken
up-taken-office w c x = refl

-- a change of the world in which something was taken
taken-rises : (w v : World) (o : Option Change) → v.office ≡ w.office → IfSome o (Gives v) → IfSome (changed v o) (Rises w.office)
taken-rises w v o e g = subst (λ (p : OfficeState). IfSome (changed v o) (Rises p)) e (changed-rises v o g)

down-as-rises : (w : World) (c : ℕ) (answered fails : Bool) (o : Option Next) → IfSome (down_as w c answered fails o) (Rises w.office)
down-as-rises w c answered fails None = tt
down-as-rises w c answered fails (Some x) =
    let v : World = down_taken w c x in
    taken-rises w v (lower_down (w.lowers c) v c x answered fails) (down-taken-office w c x) (aside-gives v _ (lower-down-aside (w.lowers c) v c x answered fails))

down-rises : (w : World) (c : ℕ) (answered fails : Bool) → IfSome (down_event w c answered fails) (Rises w.office)
down-rises w c answered fails = when-each (Rises w.office) (is_served w c) _ (λ _. down-as-rises w c answered fails (next_down w c))

ready-rises : (w : World) (c : ℕ) (fails : Bool) → IfSome (ready_event w c fails) (Rises w.office)
ready-rises w c fails = when-each (Rises w.office) (is_served w c) _ (λ _. changed-rises w (lower_ready (w.lowers c) w c fails) (aside-gives w _ (lower-ready-aside (w.lowers c) w c fails)))

up-as-rises : (w : World) (c : ℕ) (fails : Bool) (o : Option Next) → IfSome (up_as w c fails o) (Rises w.office)
up-as-rises w c fails None = tt
up-as-rises w c fails (Some x) =
    let v : World = up_taken w c x in
    taken-rises w v (upper_up (w.dialled c).upper v c x fails) (up-taken-office w c x) (quiet-gives v _ (upper-quiet (w.dialled c).upper v c x fails))

up-rises : (w : World) (c : ℕ) (fails : Bool) → IfSome (up_event w c fails) (Rises w.office)
up-rises w c fails = when-each (Rises w.office) (nat_lt c w.next_conn) _ (λ _. up-as-rises w c fails (next_up w c))

fault-rises : (w : World) (d : Delivery) → IfSome (fault_event w d) (Rises w.office)
fault-rises w (delivery.Down c) = down-rises w c.0 false true
fault-rises w (delivery.Ready c) = ready-rises w c.0 true
fault-rises w (delivery.Up c) = up-rises w c.0 true

-- ALL EVENTS

lost-office : (w : World) (c : ℕ) (way : Direction) (more : ℕ) → (lost w c way more).office ≡ w.office
lost-office w c direction.Down more = refl
lost-office w c direction.Up more = refl

where-rises : (o : OfficeState) (test : Bool) (v : World) → v.office ≡ o → IfSome (where_so test v) (Rises o)
where-rises o true v e = rises-same o v.office e
where-rises o false v e = tt

outcome-rises : (w : World) (e : Event) → IfSome (outcome w e) (Rises w.office)
unfolding outcome restart
outcome-rises w (event.Own s) = changed-rises w (own_change w s) (own-gives w s)
outcome-rises w (event.Office c) = changed-rises w (office_event w c) (office-gives w c)
outcome-rises w (event.Down c answered) = down-rises w c.0 answered false
outcome-rises w (event.Ready c) = ready-rises w c.0 false
outcome-rises w (event.Up c) = up-rises w c.0 false
outcome-rises w (event.Lost c way more) = where-rises w.office (nat_lt c.0 w.next_conn) (lost w c.0 way more) (lost-office w c.0 way more)
outcome-rises w (event.Fault d) = fault-rises w d
outcome-rises w (event.Stop n) = where-rises w.office (w.running n.0) (stop w n.0) refl
outcome-rises w (event.Restart n list) = where-rises w.office (nat_lt n.0 w.nodes && not (w.running n.0)) (restart w n.0 list) refl

after-rises : (w : World) (e : Event) (o : Option World) → IfSome o (Rises w.office) → Rises w.office (after_event w e o)
after-rises w e None h = rises-same w.office w.office refl
after-rises w e (Some v) h = h

happens-rises : (w : World) (e : Event) → Rises w.office (happens w e)
unfolding happens
happens-rises w e = after-rises w e (outcome w e) (outcome-rises w e)

run-rises : (w : World) (events : List Event) → (run w events).office.next.0 ≤ w.office.next.0 + length events
run-rises w [] = omega arith
run-rises w (e ∷ events) = let h = happens-rises w e in let t = run-rises (happens w e) events in omega (arith, h, t)

starts : (nodes : ℕ) → (start nodes).office.next.0 ≡ FIRST_STAMP
unfolding start
starts nodes = refl

pub stamps-few : StampsAreFew
stamps-few nodes events = subst (λ (n : ℕ). (run (start nodes) events).office.next.0 ≤ n + length events) (starts nodes) (run-rises (start nodes) events)
