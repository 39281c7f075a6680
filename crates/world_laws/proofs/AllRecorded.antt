-- The stamps that are given in events are recorded after them.
use Rattle.std.proofs.Common.{◌≡◌, ℕ, ◌<◌, ◌≤◌, Bool, true, false, List, [], ◌∷◌, ◌++◌, Option, Some, None, IfSome, refl, sym, ◌∙◌, ap, subst, arith}
use Rattle.std.specs.Prelude.{◌&&◌, not, nat_lt}
use Rattle.std.proofs.lemmas.Option.{none-some}
use Rattle.name_core.specs.Offices.{OfficeState, record_of}
use Rattle.world.specs.declared.events.Delivery.{Delivery}
use Rattle.world.specs.declared.events.Delivery.TheVariants as delivery
use Rattle.world.specs.declared.events.Direction.{Direction}
use Rattle.world.specs.declared.events.Direction.TheVariants as direction
use Rattle.world.specs.declared.events.Event.{Event}
use Rattle.world.specs.declared.events.Event.TheVariants as event
use Rattle.world.specs.declared.events.OwnStep.{OwnStep}
use Rattle.world.specs.declared.events.OwnStep.TheVariants as own
use Rattle.world.specs.Parts.{Writing, Upper, by_writer, by_member, by_reader, by_primary}
use Rattle.world.specs.Worlds.{World, Change, apply, start}
use Rattle.world.specs.Connections.{Next, next_down, next_up, down_taken, up_taken, is_served}
use Rattle.world.specs.Nodes.{lower_down, lower_ready, mirror_up}
use Rattle.world.specs.Clients.{own_writer, own_reader, writer_up, reader_up}
use Rattle.world.specs.Primaries.{own_recover, own_primary, primary_up, office_event}
use Rattle.world.specs.Restarts.{restart}
use Rattle.world.specs.Events.{changed, own_change, down_as, down_event, ready_event, unless_fails, upper_up, up_as, up_event, fault_event, lost, stop, where_so, outcome, after_event, happens, run}
use Rattle.world_laws.proofs.FactTables.{when-each}
use Rattle.world_laws.proofs.RunLaws.{runs-end}
use Rattle.world_laws.proofs.SessionAsides.{Aside, lower-down-aside, lower-ready-aside, mirror-up-aside, own-reader-aside, reader-up-aside, own-recover-aside, own-primary-aside, primary-up-aside}
use Rattle.world_laws.proofs.Agreements.{Quiet, asides-quiet, own-writer-quiet, upper-quiet, office-and-writer-agree}
use Rattle.world_laws.specs.Stamping.{Givens, none_given, given_with, stamped_in, given_by, given_in, heard, HeldOf, Recorded}
use Rattle.world_laws.proofs.StampWalking.{Moved, own-writer-moved, writer-up-moved, asides-moved}
use Rattle.world_laws.proofs.StampRecording.{Quietly, quiet-recorded, Agreed, Records, office-recorded}

-- CHANGES THAT LEAVE THE OFFICE

quietly : (w : World) (o : Option Change) → IfSome o (Quiet w) → IfSome o (Moved w) → IfSome o (Quietly w)
quietly w None q m = tt
quietly w (Some k) q m = record { office = q.office; stamped = q.stamped; moved = m }

pub aside-quietly : (w : World) (o : Option Change) → IfSome o (Aside w) → IfSome o (Quietly w)
aside-quietly w o a = quietly w o (asides-quiet w o a) (asides-moved w o a)

pub changed-quietly : (f : Givens) (w : World) (o : Option Change) → Recorded f w → IfSome o (Quietly w) → IfSome (changed w o) (Recorded f)
changed-quietly f w None h q = tt
changed-quietly f w (Some k) h q = quiet-recorded f w k q h

unless-quietly : (w : World) (fails : Bool) (o : Option Change) → IfSome o (Quietly w) → IfSome (unless_fails fails o) (Quietly w)
unless-quietly w true o q = tt
unless-quietly w false o q = q

pub upper-quietly : (u : Upper) (w : World) (c : ℕ) (x : Next) (fails : Bool) → IfSome (upper_up u w c x fails) (Quietly w)
upper-quietly (by_writer b) w c x fails =
    unless-quietly w fails (writer_up w b c x) (quietly w (writer_up w b c x) (upper-quiet (by_writer b) w c x false) (writer-up-moved w b c x))
upper-quietly (by_member d) w c x fails = aside-quietly w (mirror_up (w.lowers d) w d x fails) (mirror-up-aside (w.lowers d) w d x fails)
upper-quietly (by_reader i) w c x fails = unless-quietly w fails (reader_up w i c x) (aside-quietly w (reader_up w i c x) (reader-up-aside w i c x))
upper-quietly (by_primary i p) w c x fails = unless-quietly w fails (primary_up w i p c x) (aside-quietly w (primary_up w i p c x) (primary-up-aside w i p c x))

pub own-quietly : (w : World) (s : OwnStep) → IfSome (own_change w s) (Quietly w)
own-quietly w (own.Writer b takes answered) = quietly w (own_writer w b.0 takes answered) (own-writer-quiet w b.0 takes answered) (own-writer-moved w b.0 takes answered)
own-quietly w (own.Reader i n r answered) = aside-quietly w (own_reader w i n.0 r answered) (own-reader-aside w i n.0 r answered)
own-quietly w (own.Recover i n b members answers) = aside-quietly w (own_recover w i n.0 b members answers) (own-recover-aside w i n.0 b members answers)
own-quietly w (own.Primary i) = aside-quietly w (own_primary w i) (own-primary-aside w i)

-- ALL EVENTS

-- the same office, sessions and writers
pub same-recorded : (f : Givens) (w v : World) → v.office ≡ w.office → v.session_of ≡ w.session_of → v.latest ≡ w.latest → v.writers ≡ w.writers → Recorded f w → Recorded f v
same-recorded f w v o s l x h = record {
  below = λ b t e g. subst (λ (p : OfficeState). t < p.next.0) (sym o) (h.below b t e g);
  above = h.above;
  session = λ b t e g. ap (λ (q : ℕ → ℕ). q t) s ∙ h.session b t e g;
  one = h.one;
  first = subst (λ (p : OfficeState). 1 ≤ p.next.0) (sym o) h.first;
  writers = λ b. ap (λ (q : ℕ → Writing). (heard (q b)).block) x ∙ h.writers b;
  blocks = λ b.
      subst (λ (q : ℕ → Writing). HeldOf (f b) (v.latest b) (record_of v.office (record { 0 = b })) (heard (q b))) (sym x)
      (subst (λ (q : ℕ → ℕ). HeldOf (f b) (q b) (record_of v.office (record { 0 = b })) (heard (w.writers b))) (sym l)
      (subst (λ (p : OfficeState). HeldOf (f b) (w.latest b) (record_of p (record { 0 = b })) (heard (w.writers b))) (sym o) (h.blocks b)));
}

down-taken-recorded : (f : Givens) (w : World) (c : ℕ) (x : Next) → Recorded f w → Recorded f (down_taken w c x)
unfolding down_taken
down-taken-recorded f w c x h = same-recorded f w (down_taken w c x) refl refl refl refl h

up-taken-recorded : (f : Givens) (w : World) (c : ℕ) (x : Next) → Recorded f w → Recorded f (up_taken w c x)
unfolding up_taken
up-taken-recorded f w c x h = same-recorded f w (up_taken w c x) refl refl refl refl h

down-as-recorded : (f : Givens) (w : World) (c : ℕ) (answered fails : Bool) (o : Option Next) → Recorded f w → IfSome (down_as w c answered fails o) (Recorded f)
down-as-recorded f w c answered fails None h = tt
down-as-recorded f w c answered fails (Some x) h =
    let v = down_taken w c x in
    let k = lower_down (w.lowers c) v c x answered fails in
    changed-quietly f v k (down-taken-recorded f w c x h) (aside-quietly v k (lower-down-aside (w.lowers c) v c x answered fails))

down-recorded : (f : Givens) (w : World) (c : ℕ) (answered fails : Bool) → Recorded f w → IfSome (down_event w c answered fails) (Recorded f)
down-recorded f w c answered fails h = when-each (Recorded f) (is_served w c) _ (λ _. down-as-recorded f w c answered fails (next_down w c) h)

ready-recorded : (f : Givens) (w : World) (c : ℕ) (fails : Bool) → Recorded f w → IfSome (ready_event w c fails) (Recorded f)
ready-recorded f w c fails h =
    let k = lower_ready (w.lowers c) w c fails in
    when-each (Recorded f) (is_served w c) _ (λ _. changed-quietly f w k h (aside-quietly w k (lower-ready-aside (w.lowers c) w c fails)))

up-as-recorded : (f : Givens) (w : World) (c : ℕ) (fails : Bool) (o : Option Next) → Recorded f w → IfSome (up_as w c fails o) (Recorded f)
up-as-recorded f w c fails None h = tt
up-as-recorded f w c fails (Some x) h =
    let v = up_taken w c x in
    changed-quietly f v (upper_up (w.dialled c).upper v c x fails) (up-taken-recorded f w c x h) (upper-quietly (w.dialled c).upper v c x fails)

up-recorded : (f : Givens) (w : World) (c : ℕ) (fails : Bool) → Recorded f w → IfSome (up_event w c fails) (Recorded f)
up-recorded f w c fails h = when-each (Recorded f) (nat_lt c w.next_conn) _ (λ _. up-as-recorded f w c fails (next_up w c) h)

fault-recorded : (f : Givens) (w : World) (d : Delivery) → Recorded f w → IfSome (fault_event w d) (Recorded f)
fault-recorded f w (delivery.Down c) h = down-recorded f w c.0 false true h
fault-recorded f w (delivery.Ready c) h = ready-recorded f w c.0 true h
fault-recorded f w (delivery.Up c) h = up-recorded f w c.0 true h

where-recorded : (f : Givens) (test : Bool) (v : World) → Recorded f v → IfSome (where_so test v) (Recorded f)
where-recorded f true v h = h
where-recorded f false v h = tt

lost-recorded : (f : Givens) (w : World) (c : ℕ) (way : Direction) (more : ℕ) → Recorded f w → Recorded f (lost w c way more)
lost-recorded f w c direction.Down more h = same-recorded f w (lost w c direction.Down more) refl refl refl refl h
lost-recorded f w c direction.Up more h = same-recorded f w (lost w c direction.Up more) refl refl refl refl h

office-given : (f : Givens) (w : World) (o : Option Change) → IfSome o (Records f w) → IfSome (changed w o) (Recorded (given_with f (stamped_in o)))
office-given f w None h = tt
office-given f w (Some k) h = h

-- the world after an event, with what it gives
outcome-recorded : (f : Givens) (w : World) (e : Event) → Recorded f w → Agreed w → IfSome (outcome w e) (Recorded (given_by f w e))
unfolding outcome restart
outcome-recorded f w (event.Own s) h g = changed-quietly f w (own_change w s) h (own-quietly w s)
outcome-recorded f w (event.Office c) h g = office-given f w (office_event w c) (office-recorded f w c h g)
outcome-recorded f w (event.Down c answered) h g = down-recorded f w c.0 answered false h
outcome-recorded f w (event.Ready c) h g = ready-recorded f w c.0 false h
outcome-recorded f w (event.Up c) h g = up-recorded f w c.0 false h
outcome-recorded f w (event.Lost c way more) h g = where-recorded f (nat_lt c.0 w.next_conn) (lost w c.0 way more) (lost-recorded f w c.0 way more h)
outcome-recorded f w (event.Fault d) h g = fault-recorded f w d h
outcome-recorded f w (event.Stop n) h g = where-recorded f (w.running n.0) (stop w n.0) (same-recorded f w (stop w n.0) refl refl refl refl h)
outcome-recorded f w (event.Restart n list) h g =
    where-recorded f (nat_lt n.0 w.nodes && not (w.running n.0)) (restart w n.0 list) (same-recorded f w (restart w n.0 list) refl refl refl refl h)

-- an event that isn't enabled gives no stamp
idle-office : (f : Givens) (w : World) (o : Option Change) → changed w o ≡ None → Recorded f w → Recorded (given_with f (stamped_in o)) w
idle-office f w None e h = h
idle-office f w (Some k) e h = absurd (none-some (apply w k) (sym e))

idle-recorded : (f : Givens) (w : World) (e : Event) → outcome w e ≡ None → Recorded f w → Recorded (given_by f w e) w
unfolding outcome
idle-recorded f w (event.Own s) i h = h
idle-recorded f w (event.Office c) i h = idle-office f w (office_event w c) i h
idle-recorded f w (event.Down c answered) i h = h
idle-recorded f w (event.Ready c) i h = h
idle-recorded f w (event.Up c) i h = h
idle-recorded f w (event.Lost c way more) i h = h
idle-recorded f w (event.Fault d) i h = h
idle-recorded f w (event.Stop n) i h = h
idle-recorded f w (event.Restart n list) i h = h

after-recorded : (f : Givens) (w : World) (e : Event) (o : Option World) → outcome w e ≡ o → Recorded f w → IfSome o (Recorded (given_by f w e)) → Recorded (given_by f w e) (after_event w e o)
after-recorded f w e None i h k = idle-recorded f w e i h
after-recorded f w e (Some v) i h k = same-recorded (given_by f w e) v (record v { last = Some e }) refl refl refl refl k

pub happens-recorded : (f : Givens) (w : World) (e : Event) → Recorded f w → Agreed w → Recorded (given_by f w e) (happens w e)
unfolding happens
happens-recorded f w e h g = after-recorded f w e (outcome w e) refl h (outcome-recorded f w e h g)

-- a world that some events lead to
pub record Reached (w : World) : Type 0 where
  pub nodes : ℕ
  pub events : List Event
  pub is : run (start nodes) events ≡ w

pub reached-next : (w : World) (e : Event) → Reached w → Reached (happens w e)
reached-next w e r = record { nodes = r.nodes; events = r.events ++ e ∷ []; is = runs-end (start r.nodes) r.events e ∙ ap (λ (v : World). happens v e) r.is }

pub reached-agreed : (w : World) → Reached w → Agreed w
reached-agreed w r = subst (λ (v : World). Agreed v) r.is (λ b. office-and-writer-agree r.nodes r.events b)

run-recorded : (f : Givens) (w : World) (events : List Event) → Reached w → Recorded f w → Recorded (given_in f w events) (run w events)
run-recorded f w [] r h = h
run-recorded f w (e ∷ events) r h =
    run-recorded (given_by f w e) (happens w e) events (reached-next w e r) (happens-recorded f w e h (reached-agreed w r))

pub start-recorded : (nodes : ℕ) → Recorded none_given (start nodes)
unfolding start
start-recorded nodes = record {
  below = λ b t e g. absurd (none-some e g);
  above = λ b t e g. absurd (none-some e g);
  session = λ b t e g. absurd (none-some e g);
  one = λ b c t e q g k. absurd (none-some e g);
  first = omega arith;
  writers = λ b. refl;
  blocks = λ b. (refl, λ t. refl, refl);
}

pub all-recorded : (nodes : ℕ) (events : List Event) → Recorded (given_in none_given (start nodes) events) (run (start nodes) events)
all-recorded nodes events = run-recorded none_given (start nodes) events (record { nodes = nodes; events = []; is = refl }) (start-recorded nodes)
