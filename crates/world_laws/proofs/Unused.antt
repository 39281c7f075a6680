-- A session that hasn't begun has no bytes.
use Rattle.std.proofs.Common.{◌≡◌, ℕ, ◌<◌, ◌≤◌, Bool, true, false, List, [], ◌∷◌, ◌++◌, Option, Some, None, IfSome, Err, refl, sym, ◌∙◌, ap, subst, arith, eqb-true, ◌⊎◌, inl, inr}
use Rattle.std.specs.Prelude.{◌==◌, ◌&&◌, not, is_none, nat_lt}
use Rattle.hd_base.specs.declared.numbers.BlockId.{BlockId}
use Rattle.name_core.specs.declared.calls.OfficeAnswer.{OfficeAnswer}
use Rattle.name_core.specs.declared.calls.OfficeCall.{OfficeCall}
use Rattle.name_core.specs.declared.calls.OfficeCall.TheVariants as call
use Rattle.name_core.specs.Steps.{Step, state_after, reply}
use Rattle.name_core.specs.Offices.{OfficeState, office_case}
use Rattle.name_core.proofs.CaseLemmas.{each_case}
use Rattle.world.specs.WriterCore.Action.{Action}
use Rattle.world.specs.WriterCore.Action.TheVariants as action
use Rattle.world.specs.WriterCore.Transitions as writer
use Rattle.world.specs.RecoveryCore.OwnStep.{OwnStep}
use Rattle.world.specs.RecoveryCore.OwnStep.TheVariants as step
use Rattle.world.specs.RecoveryCore.Primaries.{sync_call}
use Rattle.world.specs.RecoveryCore.Primaries as primary
use Rattle.world.specs.declared.events.Caller.{Caller}
use Rattle.world.specs.declared.events.Caller.TheVariants as caller
use Rattle.world.specs.declared.events.Delivery.{Delivery}
use Rattle.world.specs.declared.events.Delivery.TheVariants as delivery
use Rattle.world.specs.declared.events.Direction.{Direction}
use Rattle.world.specs.declared.events.Direction.TheVariants as direction
use Rattle.world.specs.declared.events.Event.{Event}
use Rattle.world.specs.declared.events.Event.TheVariants as event
use Rattle.world.specs.declared.events.OwnStep.{OwnStep as OwnEvent}
use Rattle.world.specs.declared.events.OwnStep.TheVariants as own
use Rattle.world.specs.Parts.{Told, Leading, Primary, no_primary, was_told, leads, has_led}
use Rattle.world.specs.Worlds.{World, Stamped, Change, add, latest_with, apply, start}
use Rattle.world.specs.Connections.{Next, next_down, next_up, down_taken, up_taken, is_alive, is_served}
use Rattle.world.specs.Nodes.{lower_down, lower_ready}
use Rattle.world.specs.Primaries.{stamped_by, base_of, session_begun, asks_writer, asks_primary, writer_asks, primary_commits, primary_asks, office_event}
use Rattle.world.specs.Restarts.{restart}
use Rattle.world.specs.Events.{changed, own_change, down_as, down_event, ready_event, upper_up, up_as, up_event, fault_event, lost, stop, where_so, outcome, after_event, happens, run}
use Rattle.world_laws.proofs.FactTables.{if-each, when-each}
use Rattle.world_laws.proofs.SessionAsides.{lower-down-aside, lower-ready-aside, own-reader-aside, own-recover-aside, own-primary-aside}
use Rattle.world_laws.proofs.Agreements.{Spent, Quiet, asides-quiet, own-writer-quiet, upper-quiet}
use Rattle.world_laws.proofs.Sessions.{refused-stamp}

-- The latest session of a block is named by a stamp that was given, or by none; and sessions that aren't have no bytes.
record Unused (w : World) : Type 0 where
  pub latest : (b : ℕ) → w.latest b < w.office.next.0
  pub empty : (s : ℕ) → w.office.next.0 ≤ s → w.written s ≡ []

-- bytes that a session gets which isn't among those, or none
added-empty : (f : ℕ → List ℕ) (i : ℕ) (xs : List ℕ) (s : ℕ) → f s ≡ [] → (s ≡ i → xs ≡ []) → add f i xs s ≡ []
added-empty f i xs s e h =
    if-each (λ (v : List ℕ). v ≡ []) (s == i) (f s ++ xs) (f s) (λ t. rw e (h (eqb-true s i t))) (λ _. e)

none-latest : (f : ℕ → ℕ) (o : Option Stamped) (b : ℕ) → o ≡ None → latest_with f o b ≡ f b
none-latest f o b e = subst (λ (x : Option Stamped). latest_with f x b ≡ f b) (sym e) refl

spent-none : (w : World) (k : Change) (s : ℕ) → Unused w → Spent w k → w.office.next.0 ≤ s → s ≡ k.session → k.bytes ≡ []
spent-none w k s h (inl e) le t = e
spent-none w k s h (inr (b, e)) le t = absurd (omega (arith, h.latest b, e, t, le))

quiet-unused : (w : World) (k : Change) → Unused w → Quiet w k → Unused (apply w k)
unfolding apply
quiet-unused w k h q = record {
  latest = λ b. rw (none-latest w.latest k.stamped b q.stamped) (rw q.office (h.latest b));
  empty = λ s le. added-empty w.written k.session k.bytes s (h.empty s (same s le)) (λ t. spent-none w k s h q.spent (same s le) t);
}
  where
    same : (s : ℕ) → k.office.next.0 ≤ s → w.office.next.0 ≤ s
    same s le = subst (λ (o : OfficeState). o.next.0 ≤ s) q.office le

-- THE OFFICE

-- what the office gives: stamps don't fall, the latest session of a block is named by one that was given, and so is a session that gets bytes
record Giving (w : World) (after : OfficeState) (given : Option Stamped) (bytes : List ℕ) : Type 0 where
  pub rises : w.office.next.0 ≤ after.next.0
  pub latest : IfSome given (λ x. x.latest < after.next.0)
  pub spent : (bytes ≡ []) ⊎ (session_begun given < after.next.0)

abbrev GivingBy : World → OfficeCall → Step OfficeState OfficeAnswer → Type 0
GivingBy w c s = Giving w (state_after w.office s) (stamped_by w c (reply s)) (base_of w (reply s))

none-given : (n : ℕ) (o : Option Stamped) → o ≡ None → IfSome o (λ x. x.latest < n)
none-given n o e = subst (λ (x : Option Stamped). IfSome x (λ y. y.latest < n)) (sym e) tt

giving : (w : World) → Unused w → (c : OfficeCall) → GivingBy w c (office_case w.office c)
giving w h c = each_case w.office (GivingBy w) (record {
  refused = λ d e. record { rises = omega arith; latest = none-given w.office.next.0 (stamped_by w d (Err e)) (refused-stamp w d e); spent = inl refl };
  created = λ block members none. record { rises = omega arith; latest = omega arith; spent = inl refl };
  appended = λ block r is shut short. record { rises = omega arith; latest = omega arith; spent = inr (omega arith) };
  stamped = λ block r is writers. record { rises = omega arith; latest = omega (arith, h.latest block.0); spent = inl refl };
  committed = λ block stamp members r is writers new. record { rises = omega arith; latest = tt; spent = inl refl };
  completed = λ block stamp bytes r is writers new. record { rises = omega arith; latest = tt; spent = inl refl };
  begun = λ block r is is_open. record { rises = omega arith; latest = omega (arith, h.latest block.0); spent = inl refl };
  synced = λ block id bytes members r is is_open latest. record { rises = omega arith; latest = tt; spent = inl refl };
}) c

-- the latest session of each block, with a stamp that was given
latest-below : (f : ℕ → ℕ) (o : Option Stamped) (n : ℕ) → ((b : ℕ) → f b < n) → IfSome o (λ x. x.latest < n) → (b : ℕ) → latest_with f o b < n
latest-below f None n h k b = h b
latest-below f (Some x) n h k b = if-each (λ (m : ℕ). m < n) (b == x.block) x.latest (f b) (λ _. k) (λ _. h b)

given-none : (after : ℕ) (o : Option Stamped) (bytes : List ℕ) (s : ℕ) → ((bytes ≡ []) ⊎ (session_begun o < after)) → after ≤ s → s ≡ session_begun o → bytes ≡ []
given-none after o bytes s (inl e) le t = e
given-none after o bytes s (inr lt) le t = absurd (omega (arith, lt, t, le))

giving-unused : (w : World) (k : Change) → Unused w → k.session ≡ session_begun k.stamped → Giving w k.office k.stamped k.bytes → Unused (apply w k)
unfolding apply
giving-unused w k h e g = record {
  latest = latest-below w.latest k.stamped k.office.next.0 (λ b. omega (arith, h.latest b, g.rises)) g.latest;
  empty = λ s le. added-empty w.written k.session k.bytes s (h.empty s (omega (arith, le, g.rises)))
      (λ t. given-none k.office.next.0 k.stamped k.bytes s g.spent le (t ∙ e));
}

-- OFFICE EVENTS

abbrev Keeps : World → Change → Type 0
Keeps w k = Unused (apply w k)

asks-writer-unused : (w : World) (b : ℕ) (c : OfficeCall) → Unused w → Unused (apply w (asks_writer w b c))
asks-writer-unused w b c h =
    let g = giving w h c in giving-unused w (asks_writer w b c) h refl (record { rises = g.rises; latest = g.latest; spent = g.spent })

asks-primary-unused : (w : World) (i : ℕ) (c : OfficeCall) (p : Told → Primary) → Unused w → Unused (apply w (asks_primary w i c p))
asks-primary-unused w i c p h =
    let g = giving w h c in giving-unused w (asks_primary w i c p) h refl (record { rises = g.rises; latest = g.latest; spent = g.spent })

writer-asks-unused : (a : Action) (w : World) (b : ℕ) → Unused w → IfSome (writer_asks a w b) (Keeps w)
writer-asks-unused action.Wait w b h = tt
writer-asks-unused action.Took w b h = tt
writer-asks-unused (action.Ask c) w b h = asks-writer-unused w b c h
writer-asks-unused (action.Dial to r) w b h = tt
writer-asks-unused (action.Send p) w b h = tt
writer-asks-unused (action.Answered n a) w b h = tt
writer-asks-unused action.Memory w b h = tt

commits-unused : (s : OwnStep) (w : World) (i : ℕ) (l : Leading) → Unused w → IfSome (primary_commits s w i l) (Keeps w)
commits-unused step.Waits w i l h = tt
commits-unused (step.Updates c) w i l h = tt
commits-unused (step.Commits c) w i l h = asks-primary-unused w i (sync_call l.state c) (λ told. leads (record l { told = Some told })) h
commits-unused (step.Ends r) w i l h = tt

primary-asks-unused : (p : Primary) (w : World) (i : ℕ) (b : BlockId) → Unused w → IfSome (primary_asks p w i b) (Keeps w)
primary-asks-unused no_primary w i b h = asks-primary-unused w i (call.BeginRecovery b) (was_told b) h
primary-asks-unused (was_told c t) w i b h = tt
primary-asks-unused (leads l) w i b h =
    when-each (Keeps w) (is_alive w l.at && is_none l.told) _ (λ _. commits-unused (primary.own_step l.state).does w i l h)
primary-asks-unused (has_led r) w i b h = tt

office-unused : (w : World) (c : Caller) → Unused w → IfSome (office_event w c) (Keeps w)
office-unused w (caller.Writer b) h =
    when-each (Keeps w) (is_none (w.writers b.0).told) _ (λ _. writer-asks-unused (writer.own_step (w.writers b.0).known).action w b.0 h)
office-unused w (caller.Primary i b) h = primary-asks-unused (w.primaries i) w i b h

-- ALL EVENTS

keeps-unused : (w : World) (k : Option Change) → IfSome k (Keeps w) → IfSome (changed w k) Unused
keeps-unused w None h = tt
keeps-unused w (Some k) h = h

quiets-unused : (w : World) (k : Option Change) → Unused w → IfSome k (Quiet w) → IfSome (changed w k) Unused
quiets-unused w None h q = tt
quiets-unused w (Some k) h q = quiet-unused w k h q

-- the same office, sessions and bytes
same-unused : (w v : World) → v.office ≡ w.office → v.latest ≡ w.latest → v.written ≡ w.written → Unused w → Unused v
same-unused w v o l f h = record {
  latest = λ b. subst (λ (p : OfficeState). v.latest b < p.next.0) (sym o) (subst (λ (g : ℕ → ℕ). g b < w.office.next.0) (sym l) (h.latest b));
  empty = λ s le. ap (λ (g : ℕ → List ℕ). g s) f ∙ h.empty s (subst (λ (p : OfficeState). p.next.0 ≤ s) o le);
}

down-taken-unused : (w : World) (c : ℕ) (x : Next) → Unused w → Unused (down_taken w c x)
unfolding down_taken
down-taken-unused w c x h = same-unused w (down_taken w c x) refl refl refl h

up-taken-unused : (w : World) (c : ℕ) (x : Next) → Unused w → Unused (up_taken w c x)
unfolding up_taken
up-taken-unused w c x h = same-unused w (up_taken w c x) refl refl refl h

down-as-unused : (w : World) (c : ℕ) (answered fails : Bool) (o : Option Next) → Unused w → IfSome (down_as w c answered fails o) Unused
down-as-unused w c answered fails None h = tt
down-as-unused w c answered fails (Some x) h =
    let v = down_taken w c x in
    let k = lower_down (w.lowers c) v c x answered fails in
    quiets-unused v k (down-taken-unused w c x h) (asides-quiet v k (lower-down-aside (w.lowers c) v c x answered fails))

down-unused : (w : World) (c : ℕ) (answered fails : Bool) → Unused w → IfSome (down_event w c answered fails) Unused
down-unused w c answered fails h = when-each Unused (is_served w c) _ (λ _. down-as-unused w c answered fails (next_down w c) h)

ready-unused : (w : World) (c : ℕ) (fails : Bool) → Unused w → IfSome (ready_event w c fails) Unused
ready-unused w c fails h =
    let k = lower_ready (w.lowers c) w c fails in
    when-each Unused (is_served w c) _ (λ _. quiets-unused w k h (asides-quiet w k (lower-ready-aside (w.lowers c) w c fails)))

up-as-unused : (w : World) (c : ℕ) (fails : Bool) (o : Option Next) → Unused w → IfSome (up_as w c fails o) Unused
up-as-unused w c fails None h = tt
up-as-unused w c fails (Some x) h =
    let v = up_taken w c x in
    quiets-unused v (upper_up (w.dialled c).upper v c x fails) (up-taken-unused w c x h) (upper-quiet (w.dialled c).upper v c x fails)

up-unused : (w : World) (c : ℕ) (fails : Bool) → Unused w → IfSome (up_event w c fails) Unused
up-unused w c fails h = when-each Unused (nat_lt c w.next_conn) _ (λ _. up-as-unused w c fails (next_up w c) h)

fault-unused : (w : World) (d : Delivery) → Unused w → IfSome (fault_event w d) Unused
fault-unused w (delivery.Down c) h = down-unused w c.0 false true h
fault-unused w (delivery.Ready c) h = ready-unused w c.0 true h
fault-unused w (delivery.Up c) h = up-unused w c.0 true h

own-quiet : (w : World) (s : OwnEvent) → IfSome (own_change w s) (Quiet w)
own-quiet w (own.Writer b takes answered) = own-writer-quiet w b.0 takes answered
own-quiet w (own.Reader i n r answered) = asides-quiet w (own_change w (own.Reader i n r answered)) (own-reader-aside w i n.0 r answered)
own-quiet w (own.Recover i n b members answers) =
    asides-quiet w (own_change w (own.Recover i n b members answers)) (own-recover-aside w i n.0 b members answers)
own-quiet w (own.Primary i) = asides-quiet w (own_change w (own.Primary i)) (own-primary-aside w i)

where-unused : (test : Bool) (v : World) → Unused v → IfSome (where_so test v) Unused
where-unused true v h = h
where-unused false v h = tt

lost-unused : (w : World) (c : ℕ) (way : Direction) (more : ℕ) → Unused w → Unused (lost w c way more)
lost-unused w c direction.Down more h = same-unused w (lost w c direction.Down more) refl refl refl h
lost-unused w c direction.Up more h = same-unused w (lost w c direction.Up more) refl refl refl h

outcome-unused : (w : World) (e : Event) → Unused w → IfSome (outcome w e) Unused
unfolding outcome restart
outcome-unused w (event.Own s) h = quiets-unused w (own_change w s) h (own-quiet w s)
outcome-unused w (event.Office c) h = keeps-unused w (office_event w c) (office-unused w c h)
outcome-unused w (event.Down c answered) h = down-unused w c.0 answered false h
outcome-unused w (event.Ready c) h = ready-unused w c.0 false h
outcome-unused w (event.Up c) h = up-unused w c.0 false h
outcome-unused w (event.Lost c way more) h = where-unused (nat_lt c.0 w.next_conn) (lost w c.0 way more) (lost-unused w c.0 way more h)
outcome-unused w (event.Fault d) h = fault-unused w d h
outcome-unused w (event.Stop n) h = where-unused (w.running n.0) (stop w n.0) (same-unused w (stop w n.0) refl refl refl h)
outcome-unused w (event.Restart n list) h =
    where-unused (nat_lt n.0 w.nodes && not (w.running n.0)) (restart w n.0 list) (same-unused w (restart w n.0 list) refl refl refl h)

after-unused : (w : World) (e : Event) (o : Option World) → Unused w → IfSome o Unused → Unused (after_event w e o)
after-unused w e None h k = h
after-unused w e (Some v) h k = same-unused v (record v { last = Some e }) refl refl refl k

happens-unused : (w : World) (e : Event) → Unused w → Unused (happens w e)
unfolding happens
happens-unused w e h = after-unused w e (outcome w e) h (outcome-unused w e h)

run-unused : (w : World) (events : List Event) → Unused w → Unused (run w events)
run-unused w [] h = h
run-unused w (e ∷ events) h = run-unused (happens w e) events (happens-unused w e h)

start-unused : (nodes : ℕ) → Unused (start nodes)
unfolding start
start-unused nodes = record { latest = λ b. omega arith; empty = λ s le. refl }

pub unused-are-empty : (nodes : ℕ) (events : List Event) (session : ℕ) → (run (start nodes) events).office.next.0 ≤ session
    → (run (start nodes) events).written session ≡ []
unused-are-empty nodes events session le = (run-unused (start nodes) events (start-unused nodes)).empty session le
