-- A stamp that was given stays in its session.
use Rattle.std.proofs.Common.{◌≡◌, ℕ, ◌<◌, ◌≤◌, Bool, true, false, List, [], ◌∷◌, ◌++◌, Option, Some, None, IfSome, Err, refl, sym, ◌∙◌, ap, subst, arith, eqb-true}
use Rattle.std.specs.Prelude.{◌==◌, ◌&&◌, not, is_none, nat_lt}
use Rattle.hd_base.specs.declared.numbers.BlockId.{BlockId}
use Rattle.name_core.specs.declared.calls.OfficeAnswer.{OfficeAnswer}
use Rattle.name_core.specs.declared.calls.OfficeCall.{OfficeCall}
use Rattle.name_core.specs.declared.calls.OfficeCall.TheVariants as call
use Rattle.name_core.specs.declared.faults.OfficeFault.{OfficeFault}
use Rattle.name_core.specs.Steps.{Step, state_after, reply}
use Rattle.name_core.specs.Offices.{OfficeState, office_case}
use Rattle.name_core.proofs.CaseLemmas.{each_case}
use Rattle.world.specs.WriterCore.Action.{Action}
use Rattle.world.specs.WriterCore.Action.TheVariants as action
use Rattle.world.specs.WriterCore.Transitions as writer
use Rattle.world.specs.RecoveryCore.OwnStep.{OwnStep}
use Rattle.world.specs.RecoveryCore.OwnStep.TheVariants as step
use Rattle.world.specs.RecoveryCore.Primaries.{sync_call}
use Rattle.world.specs.RecoveryCore.Primaries as primary
use Rattle.world.specs.declared.events.Caller.{Caller}
use Rattle.world.specs.declared.events.Caller.TheVariants as caller
use Rattle.world.specs.declared.events.Delivery.{Delivery}
use Rattle.world.specs.declared.events.Delivery.TheVariants as delivery
use Rattle.world.specs.declared.events.Direction.{Direction}
use Rattle.world.specs.declared.events.Direction.TheVariants as direction
use Rattle.world.specs.declared.events.Event.{Event}
use Rattle.world.specs.declared.events.Event.TheVariants as event
use Rattle.world.specs.declared.events.OwnStep.{OwnStep as OwnEvent}
use Rattle.world.specs.declared.events.OwnStep.TheVariants as own
use Rattle.world.specs.Parts.{Told, Leading, Primary, no_primary, was_told, leads, has_led}
use Rattle.world.specs.Worlds.{World, Stamped, Change, sessions_with, apply, start}
use Rattle.world.specs.Connections.{Next, next_down, next_up, down_taken, up_taken, is_alive, is_served}
use Rattle.world.specs.Nodes.{lower_down, lower_ready}
use Rattle.world.specs.Primaries.{stamped_by, asks_writer, asks_primary, writer_asks, primary_commits, primary_asks, office_event}
use Rattle.world.specs.Restarts.{restart}
use Rattle.world.specs.Events.{changed, own_change, down_as, down_event, ready_event, upper_up, up_as, up_event, fault_event, lost, stop, where_so, outcome, after_event, happens, run}
use Rattle.world_laws.proofs.FactTables.{if-each, when-each}
use Rattle.world_laws.proofs.SessionAsides.{lower-down-aside, lower-ready-aside, own-reader-aside, own-recover-aside, own-primary-aside}
use Rattle.world_laws.proofs.RunLaws.{runs-join}
use Rattle.world_laws.proofs.Agreements.{Quiet, asides-quiet, own-writer-quiet, upper-quiet}

-- STAMPS THAT THE OFFICE GIVES

-- the stamps don't fall, and one that is given is the next one
record Stamping (before after : OfficeState) (s : Option Stamped) : Type 0 where
  pub rises : before.next.0 ≤ after.next.0
  pub fresh : IfSome s (λ x. x.stamp ≡ before.next.0)

pub refused-stamp : (w : World) (c : OfficeCall) (e : OfficeFault) → stamped_by w c (Err e) ≡ None
refused-stamp w (call.Create b members) e = refl
refused-stamp w (call.Append b) e = refl
refused-stamp w (call.NewStamp b) e = refl
refused-stamp w (call.Commit b stamp members) e = refl
refused-stamp w (call.Complete b stamp bytes) e = refl
refused-stamp w (call.BeginRecovery b) e = refl
refused-stamp w (call.CommitSync b id bytes members) e = refl

none-stamped : (n : ℕ) (s : Option Stamped) → s ≡ None → IfSome s (λ x. x.stamp ≡ n)
none-stamped n s e = subst (λ (o : Option Stamped). IfSome o (λ x. x.stamp ≡ n)) (sym e) tt

abbrev StampingBy : World → OfficeCall → Step OfficeState OfficeAnswer → Type 0
StampingBy w c s = Stamping w.office (state_after w.office s) (stamped_by w c (reply s))

stamping : (w : World) (c : OfficeCall) → StampingBy w c (office_case w.office c)
stamping w c = each_case w.office (StampingBy w) (record {
  refused = λ d e. record { rises = omega arith; fresh = none-stamped w.office.next.0 (stamped_by w d (Err e)) (refused-stamp w d e) };
  created = λ block members none. record { rises = omega arith; fresh = refl };
  appended = λ block r is shut short. record { rises = omega arith; fresh = refl };
  stamped = λ block r is writers. record { rises = omega arith; fresh = refl };
  committed = λ block stamp members r is writers new. record { rises = omega arith; fresh = tt };
  completed = λ block stamp bytes r is writers new. record { rises = omega arith; fresh = tt };
  begun = λ block r is is_open. record { rises = omega arith; fresh = refl };
  synced = λ block id bytes members r is is_open latest. record { rises = omega arith; fresh = tt };
}) c

-- LATER WORLDS

-- the stamps don't fall, and those that were given stay in their sessions
pub record Later (w v : World) : Type 0 where
  pub rises : w.office.next.0 ≤ v.office.next.0
  pub sessions : (s : ℕ) → s < w.office.next.0 → v.session_of s ≡ w.session_of s

later-then : (u v w : World) → Later u v → Later v w → Later u w
later-then u v w a b = record {
  rises = omega (arith, a.rises, b.rises);
  sessions = λ s lt. b.sessions s (omega (arith, lt, a.rises)) ∙ a.sessions s lt;
}

later-same : (w v : World) → v.office ≡ w.office → v.session_of ≡ w.session_of → Later w v
later-same w v o f = record {
  rises = subst (λ (p : OfficeState). w.office.next.0 ≤ p.next.0) (sym o) (omega arith);
  sessions = λ s lt. ap (λ (g : ℕ → ℕ). g s) f;
}

-- the sessions of stamps below the next one, where another is given
kept-sessions : (f : ℕ → ℕ) (n : ℕ) (o : Option Stamped) → IfSome o (λ x. x.stamp ≡ n) → (s : ℕ) → s < n → sessions_with f o s ≡ f s
kept-sessions f n None e s lt = refl
kept-sessions f n (Some x) e s lt =
    if-each (λ (m : ℕ). m ≡ f s) (s == x.stamp) x.session (f s) (λ t. absurd (omega (arith, eqb-true s x.stamp t, e, lt))) (λ _. refl)

stamping-later : (w : World) (k : Change) → Stamping w.office k.office k.stamped → Later w (apply w k)
unfolding apply
stamping-later w k s = record { rises = s.rises; sessions = kept-sessions w.session_of w.office.next.0 k.stamped s.fresh }

quiet-later : (w : World) (k : Change) → Quiet w k → Later w (apply w k)
quiet-later w k q =
    stamping-later w k (record {
      rises = subst (λ (p : OfficeState). w.office.next.0 ≤ p.next.0) (sym q.office) (omega arith);
      fresh = none-stamped w.office.next.0 k.stamped q.stamped;
    })

-- OFFICE EVENTS

abbrev Goes : World → Change → Type 0
Goes w k = Later w (apply w k)

asks-writer-later : (w : World) (b : ℕ) (c : OfficeCall) → Later w (apply w (asks_writer w b c))
asks-writer-later w b c = let t = stamping w c in stamping-later w (asks_writer w b c) (record { rises = t.rises; fresh = t.fresh })

asks-primary-later : (w : World) (i : ℕ) (c : OfficeCall) (p : Told → Primary) → Later w (apply w (asks_primary w i c p))
asks-primary-later w i c p = let t = stamping w c in stamping-later w (asks_primary w i c p) (record { rises = t.rises; fresh = t.fresh })

writer-asks-later : (a : Action) (w : World) (b : ℕ) → IfSome (writer_asks a w b) (Goes w)
writer-asks-later action.Wait w b = tt
writer-asks-later action.Took w b = tt
writer-asks-later (action.Ask c) w b = asks-writer-later w b c
writer-asks-later (action.Dial to r) w b = tt
writer-asks-later (action.Send p) w b = tt
writer-asks-later (action.Answered n a) w b = tt
writer-asks-later action.Memory w b = tt

commits-later : (s : OwnStep) (w : World) (i : ℕ) (l : Leading) → IfSome (primary_commits s w i l) (Goes w)
commits-later step.Waits w i l = tt
commits-later (step.Updates c) w i l = tt
commits-later (step.Commits c) w i l = asks-primary-later w i (sync_call l.state c) (λ told. leads (record l { told = Some told }))
commits-later (step.Ends r) w i l = tt

primary-asks-later : (p : Primary) (w : World) (i : ℕ) (b : BlockId) → IfSome (primary_asks p w i b) (Goes w)
primary-asks-later no_primary w i b = asks-primary-later w i (call.BeginRecovery b) (was_told b)
primary-asks-later (was_told c t) w i b = tt
primary-asks-later (leads l) w i b = when-each (Goes w) (is_alive w l.at && is_none l.told) _ (λ _. commits-later (primary.own_step l.state).does w i l)
primary-asks-later (has_led r) w i b = tt

office-later : (w : World) (c : Caller) → IfSome (office_event w c) (Goes w)
office-later w (caller.Writer b) =
    when-each (Goes w) (is_none (w.writers b.0).told) _ (λ _. writer-asks-later (writer.own_step (w.writers b.0).known).action w b.0)
office-later w (caller.Primary i b) = primary-asks-later (w.primaries i) w i b

-- ALL EVENTS

goes-later : (w : World) (k : Option Change) → IfSome k (Goes w) → IfSome (changed w k) (Later w)
goes-later w None h = tt
goes-later w (Some k) h = h

quiets-later : (u w : World) (k : Option Change) → Later u w → IfSome k (Quiet w) → IfSome (changed w k) (Later u)
quiets-later u w None h q = tt
quiets-later u w (Some k) h q = later-then u w (apply w k) h (quiet-later w k q)

at-first : (w : World) → Later w w
at-first w = later-same w w refl refl

down-taken-later : (w : World) (c : ℕ) (x : Next) → Later w (down_taken w c x)
unfolding down_taken
down-taken-later w c x = later-same w (down_taken w c x) refl refl

up-taken-later : (w : World) (c : ℕ) (x : Next) → Later w (up_taken w c x)
unfolding up_taken
up-taken-later w c x = later-same w (up_taken w c x) refl refl

down-as-later : (w : World) (c : ℕ) (answered fails : Bool) (o : Option Next) → IfSome (down_as w c answered fails o) (Later w)
down-as-later w c answered fails None = tt
down-as-later w c answered fails (Some x) =
    let v = down_taken w c x in
    let k = lower_down (w.lowers c) v c x answered fails in
    quiets-later w v k (down-taken-later w c x) (asides-quiet v k (lower-down-aside (w.lowers c) v c x answered fails))

down-later : (w : World) (c : ℕ) (answered fails : Bool) → IfSome (down_event w c answered fails) (Later w)
down-later w c answered fails = when-each (Later w) (is_served w c) _ (λ _. down-as-later w c answered fails (next_down w c))

ready-later : (w : World) (c : ℕ) (fails : Bool) → IfSome (ready_event w c fails) (Later w)
ready-later w c fails =
    let k = lower_ready (w.lowers c) w c fails in
    when-each (Later w) (is_served w c) _ (λ _. quiets-later w w k (at-first w) (asides-quiet w k (lower-ready-aside (w.lowers c) w c fails)))

up-as-later : (w : World) (c : ℕ) (fails : Bool) (o : Option Next) → IfSome (up_as w c fails o) (Later w)
up-as-later w c fails None = tt
up-as-later w c fails (Some x) =
    let v = up_taken w c x in
    quiets-later w v (upper_up (w.dialled c).upper v c x fails) (up-taken-later w c x) (upper-quiet (w.dialled c).upper v c x fails)

up-later : (w : World) (c : ℕ) (fails : Bool) → IfSome (up_event w c fails) (Later w)
up-later w c fails = when-each (Later w) (nat_lt c w.next_conn) _ (λ _. up-as-later w c fails (next_up w c))

fault-later : (w : World) (d : Delivery) → IfSome (fault_event w d) (Later w)
fault-later w (delivery.Down c) = down-later w c.0 false true
fault-later w (delivery.Ready c) = ready-later w c.0 true
fault-later w (delivery.Up c) = up-later w c.0 true

own-later : (w : World) (s : OwnEvent) → IfSome (changed w (own_change w s)) (Later w)
own-later w (own.Writer b takes answered) =
    quiets-later w w (own_change w (own.Writer b takes answered)) (at-first w) (own-writer-quiet w b.0 takes answered)
own-later w (own.Reader i n r answered) =
    let k = own_change w (own.Reader i n r answered) in quiets-later w w k (at-first w) (asides-quiet w k (own-reader-aside w i n.0 r answered))
own-later w (own.Recover i n b members answers) =
    let k = own_change w (own.Recover i n b members answers) in
    quiets-later w w k (at-first w) (asides-quiet w k (own-recover-aside w i n.0 b members answers))
own-later w (own.Primary i) =
    let k = own_change w (own.Primary i) in quiets-later w w k (at-first w) (asides-quiet w k (own-primary-aside w i))

where-later : (w : World) (test : Bool) (v : World) → Later w v → IfSome (where_so test v) (Later w)
where-later w true v h = h
where-later w false v h = tt

lost-later : (w : World) (c : ℕ) (way : Direction) (more : ℕ) → Later w (lost w c way more)
lost-later w c direction.Down more = later-same w (lost w c direction.Down more) refl refl
lost-later w c direction.Up more = later-same w (lost w c direction.Up more) refl refl

outcome-later : (w : World) (e : Event) → IfSome (outcome w e) (Later w)
unfolding outcome restart
outcome-later w (event.Own s) = own-later w s
outcome-later w (event.Office c) = goes-later w (office_event w c) (office-later w c)
outcome-later w (event.Down c answered) = down-later w c.0 answered false
outcome-later w (event.Ready c) = ready-later w c.0 false
outcome-later w (event.Up c) = up-later w c.0 false
outcome-later w (event.Lost c way more) = where-later w (nat_lt c.0 w.next_conn) (lost w c.0 way more) (lost-later w c.0 way more)
outcome-later w (event.Fault d) = fault-later w d
outcome-later w (event.Stop n) = where-later w (w.running n.0) (stop w n.0) (later-same w (stop w n.0) refl refl)
outcome-later w (event.Restart n list) =
    where-later w (nat_lt n.0 w.nodes && not (w.running n.0)) (restart w n.0 list) (later-same w (restart w n.0 list) refl refl)

after-later : (w : World) (e : Event) (o : Option World) → IfSome o (Later w) → Later w (after_event w e o)
after-later w e None h = at-first w
after-later w e (Some v) h = later-then w v (record v { last = Some e }) h (later-same v (record v { last = Some e }) refl refl)

happens-later : (w : World) (e : Event) → Later w (happens w e)
unfolding happens
happens-later w e = after-later w e (outcome w e) (outcome-later w e)

pub run-later : (w : World) (events : List Event) → Later w (run w events)
run-later w [] = at-first w
run-later w (e ∷ events) = later-then w (happens w e) (run (happens w e) events) (happens-later w e) (run-later (happens w e) events)

pub stamps-keep-sessions : (nodes : ℕ) (events others : List Event) (stamp : ℕ) → stamp < (run (start nodes) events).office.next.0
    → (run (start nodes) (events ++ others)).session_of stamp ≡ (run (start nodes) events).session_of stamp
stamps-keep-sessions nodes events others stamp lt =
    ap (λ (v : World). v.session_of stamp) (runs-join (start nodes) events others) ∙ (run-later (run (start nodes) events) others).sessions stamp lt
