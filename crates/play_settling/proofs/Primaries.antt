-- No event leaves a primary as one that hasn't begun, unless it hadn't before.
use Rattle.std.proofs.Common.{◌≡◌, ℕ, ◌≤◌, Bool, true, false, List, [], ◌∷◌, Option, Some, None, IfSome, Result, Ok, Err, refl, sym, ap, ◌∙◌, subst}
use Rattle.std.specs.Prelude.{nat_lt, ◌&&◌, ◌==◌, is_none, slice_get}
use Rattle.hd_base.specs.declared.numbers.BlockId.{BlockId}
use Rattle.hd_base.specs.declared.numbers.ConnId.{ConnId}
use Rattle.hd_base.specs.declared.numbers.NodeId.{NodeId}
use Rattle.name_core.specs.declared.calls.OfficeAnswer.TheVariants as office
use Rattle.recovery_core.specs.declared.primary.OwnStep.{OwnStep}
use Rattle.recovery_core.specs.declared.primary.OwnStep.TheVariants as step
use Rattle.recovery_core.specs.declared.standings.Standing.{Standing}
use Rattle.recovery_core.specs.Primaries.{PrimaryState, own_step}
use Rattle.world.specs.declared.events.Caller.TheVariants as caller
use Rattle.world.specs.declared.events.Event.{Event}
use Rattle.world.specs.declared.events.Event.TheVariants as event
use Rattle.world.specs.declared.events.OwnStep.TheVariants as own
use Rattle.world.specs.Clients.{are_members}
use Rattle.world.specs.Connections.{Next, is_alive, next_up, up_taken, place_of}
use Rattle.world.specs.Events.{changed, outcome, after_event, upper_up, up_as, up_event, happens, run}
use Rattle.world.specs.Parts.{Place, Told, Leading, Primary, no_primary, was_told, leads, has_led, Upper, by_writer, by_member, by_reader, by_primary}
use Rattle.world.specs.Primaries.{begins_as, begins_at, own_recover, leads_step, commits_step, leads_told, own_primary_as, own_primary, listens, hears_change, primary_up_as, primary_up, primary_commits, primary_asks}
use Rattle.world.specs.Worlds.{World, Change, apply}
use Rattle.play_model.proofs.WorldLaws.FactTables.{put-each, when-each, if-each}
use Rattle.world_settling.specs.Draws.{actor_of, actor_above, is_primary}
use Rattle.world_settling.proofs.Actors.{primaries-stay}

-- each primary that had begun has
abbrev pub GoesOn : World → World → Type 0
GoesOn w v = (i : ℕ) → v.primaries i ≡ no_primary → w.primaries i ≡ no_primary

-- a change makes no primary one that hasn't begun
abbrev Makes : Change → Type 0
Makes k = k.primary ≡ no_primary → ⊥

-- CHANGES

apply-goes : (w : World) (k : Change) → Makes k → GoesOn w (apply w k)
unfolding apply
apply-goes w k h i = put-each (λ (j : ℕ) (x : Primary). x ≡ no_primary → w.primaries j ≡ no_primary) w.primaries k.primary_at k.primary (λ e. absurd (h e)) (λ j e. e) i

changed-goes : (u w : World) (o : Option Change) → GoesOn u w → IfSome o Makes → IfSome (changed w o) (GoesOn u)
changed-goes u w None g h = tt
changed-goes u w (Some k) g h = λ i e. g i (apply-goes w k h i e)

own-goes : (w : World) (o : Option Change) → IfSome o Makes → IfSome (changed w o) (GoesOn w)
own-goes w o h = changed-goes w w o (λ i e. e) h

after-goes : (w : World) (e : Event) (o : Option World) → IfSome o (GoesOn w) → GoesOn w (after_event w e o)
after-goes w e None h i = λ x. x
after-goes w e (Some v) h i = h i

-- PRIMARIES

begins-makes : (t : Told) (w : World) (i : ℕ) (at : Place) (b : BlockId) (members : List NodeId) (answers : List Bool) → IfSome (begins_as t w i at b members answers) Makes
begins-makes (Ok (office.Begun g)) w i at b members answers = λ e. cc
begins-makes (Ok (office.Stamp s)) w i at b members answers = tt
begins-makes (Ok (office.Reopened r)) w i at b members answers = tt
begins-makes (Ok office.Nothing) w i at b members answers = tt
begins-makes (Err f) w i at b members answers = λ e. cc

recover-makes : (p : Primary) (w : World) (i n : ℕ) (b : BlockId) (members : List NodeId) (answers : List Bool) → IfSome (begins_at p w i n b members answers) Makes
recover-makes no_primary w i n b members answers = tt
recover-makes (was_told asked told) w i n b members answers =
    when-each Makes (asked.0 == b.0 && w.running n && are_members members) (begins_as told w i (place_of w n) b members answers)
    (λ _. begins-makes told w i (place_of w n) b members answers)
recover-makes (leads l) w i n b members answers = tt
recover-makes (has_led r) w i n b members answers = tt

step-makes : (s : OwnStep) (w : World) (i : ℕ) (l : Leading) (p : PrimaryState) → IfSome (leads_step s w i l p) Makes
step-makes step.Waits w i l p = tt
step-makes (step.Updates c) w i l p = λ e. cc
step-makes (step.Commits c) w i l p = tt
step-makes (step.Ends r) w i l p = λ e. cc

commit-makes : (s : OwnStep) (w : World) (i : ℕ) (l : Leading) (t : Told) → IfSome (commits_step s w i l t) Makes
commit-makes step.Waits w i l t = tt
commit-makes (step.Updates c) w i l t = tt
commit-makes (step.Commits c) w i l t = λ e. cc
commit-makes (step.Ends r) w i l t = tt

told-makes : (t : Option Told) (w : World) (i : ℕ) (l : Leading) → IfSome (leads_told t w i l) Makes
told-makes None w i l = step-makes (own_step l.state).does w i l (own_step l.state).primary
told-makes (Some t) w i l = commit-makes (own_step l.state).does w i l t

lead-makes : (p : Primary) (w : World) (i : ℕ) → IfSome (own_primary_as p w i) Makes
lead-makes no_primary w i = tt
lead-makes (was_told b t) w i = tt
lead-makes (leads l) w i = when-each Makes (is_alive w l.at) (leads_told l.told w i l) (λ _. told-makes l.told w i l)
lead-makes (has_led r) w i = tt

commits-makes : (s : OwnStep) (w : World) (i : ℕ) (l : Leading) → IfSome (primary_commits s w i l) Makes
commits-makes step.Waits w i l = tt
commits-makes (step.Updates c) w i l = tt
commits-makes (step.Commits c) w i l = λ e. cc
commits-makes (step.Ends r) w i l = tt

asks-makes : (p : Primary) (w : World) (i : ℕ) (b : BlockId) → IfSome (primary_asks p w i b) Makes
asks-makes no_primary w i b = λ e. cc
asks-makes (was_told c t) w i b = tt
asks-makes (leads l) w i b = when-each Makes (is_alive w l.at && is_none l.told) (primary_commits (own_step l.state).does w i l) (λ _. commits-makes (own_step l.state).does w i l)
asks-makes (has_led r) w i b = tt

hears-makes : (w : World) (i : ℕ) (l : Leading) (place c : ℕ) (x : Next) (s : Option Standing) → IfSome (hears_change w i l place c x s) Makes
hears-makes w i l place c x None = tt
hears-makes w i l place c x (Some s) = when-each Makes (listens l.state.phase s) (Some _) (λ _ e. cc)

up-makes : (p : Primary) (w : World) (i place c : ℕ) (x : Next) → IfSome (primary_up_as p w i place c x) Makes
up-makes no_primary w i place c x = tt
up-makes (was_told b t) w i place c x = tt
up-makes (leads l) w i place c x =
    when-each Makes (is_alive w l.at && is_none l.told) (hears_change w i l place c x (slice_get l.state.standings place)) (λ _. hears-makes w i l place c x (slice_get l.state.standings place))
up-makes (has_led r) w i place c x = tt

-- EVENTS

taken-goes : (w : World) (c : ℕ) (x : Next) → GoesOn w (up_taken w c x)
unfolding up_taken
taken-goes w c x i e = e

up-as-goes : (w : World) (i place c : ℕ) (o : Option Next) (u : Upper) → u ≡ by_primary i place → (w.dialled c).upper ≡ u → IfSome (up_as w c false o) (GoesOn w)
up-as-goes w i place c None u is at = tt
up-as-goes w i place c (Some x) u is at =
    subst (λ (z : Upper). IfSome (changed (up_taken w c x) (upper_up z (up_taken w c x) c x false)) (GoesOn w)) (sym (at ∙ is))
    (changed-goes w (up_taken w c x) (primary_up (up_taken w c x) i place c x) (taken-goes w c x) (up-makes ((up_taken w c x).primaries i) (up_taken w c x) i place c x))

primary-hears : (w : World) (c : ConnId) (i place : ℕ) → (w.dialled c.0).upper ≡ by_primary i place → GoesOn w (happens w (event.Up c))
unfolding happens outcome
primary-hears w c i place is =
    after-goes w (event.Up c) (up_event w c.0 false)
    (when-each (GoesOn w) (nat_lt c.0 w.next_conn) _ (λ _. up-as-goes w i place c.0 (next_up w c.0) (w.dialled c.0).upper is refl))

-- No primary acts.
stays-so : (w : World) (e : Event) → is_primary (actor_of w e) ≡ false → GoesOn w (happens w e)
stays-so w e h i none = sym (primaries-stay w e i h) ∙ none

hears-on : (w : World) (c : ConnId) (u : Upper) → (w.dialled c.0).upper ≡ u → GoesOn w (happens w (event.Up c))
hears-on w c (by_primary i place) is = primary-hears w c i place is
hears-on w c (by_writer b) is = stays-so w (event.Up c) (ap (λ (u : Upper). is_primary (actor_above u)) is)
hears-on w c (by_member d) is = stays-so w (event.Up c) (ap (λ (u : Upper). is_primary (actor_above u)) is)
hears-on w c (by_reader i) is = stays-so w (event.Up c) (ap (λ (u : Upper). is_primary (actor_above u)) is)

recovers-on : (w : World) (i : ℕ) (n : NodeId) (b : BlockId) (members : List NodeId) (answers : List Bool) → GoesOn w (happens w (event.Own (own.Recover i n b members answers)))
unfolding happens outcome
recovers-on w i n b members answers =
    after-goes w _ (changed w (own_recover w i n.0 b members answers)) (own-goes w (own_recover w i n.0 b members answers) (recover-makes (w.primaries i) w i n.0 b members answers))

leads-on : (w : World) (i : ℕ) → GoesOn w (happens w (event.Own (own.Primary i)))
unfolding happens outcome
leads-on w i = after-goes w _ (changed w (own_primary w i)) (own-goes w (own_primary w i) (lead-makes (w.primaries i) w i))

asks-on : (w : World) (i : ℕ) (b : BlockId) → GoesOn w (happens w (event.Office (caller.Primary i b)))
unfolding happens outcome
asks-on w i b = after-goes w _ (changed w (primary_asks (w.primaries i) w i b)) (own-goes w (primary_asks (w.primaries i) w i b) (asks-makes (w.primaries i) w i b))

pub primaries-go-on : (w : World) (e : Event) → GoesOn w (happens w e)
primaries-go-on w (event.Own (own.Writer b takes answered)) = stays-so w (event.Own (own.Writer b takes answered)) refl
primaries-go-on w (event.Own (own.Reader i n r answered)) = stays-so w (event.Own (own.Reader i n r answered)) refl
primaries-go-on w (event.Own (own.Recover i n b members answers)) = recovers-on w i n b members answers
primaries-go-on w (event.Own (own.Primary i)) = leads-on w i
primaries-go-on w (event.Office (caller.Writer b)) = stays-so w (event.Office (caller.Writer b)) refl
primaries-go-on w (event.Office (caller.Primary i b)) = asks-on w i b
primaries-go-on w (event.Down c answered) = stays-so w (event.Down c answered) refl
primaries-go-on w (event.Ready c) = stays-so w (event.Ready c) refl
primaries-go-on w (event.Up c) = hears-on w c (w.dialled c.0).upper refl
primaries-go-on w (event.Lost c way more) = stays-so w (event.Lost c way more) refl
primaries-go-on w (event.Fault d) = stays-so w (event.Fault d) refl
primaries-go-on w (event.Stop n) = stays-so w (event.Stop n) refl
primaries-go-on w (event.Restart n list) = stays-so w (event.Restart n list) refl
