-- A primary's own step is enabled where it is due, of a recovery of members.
use Rattle.std.proofs.Common.{◌≡◌, ℕ, Bool, true, false, List, [], ◌∷◌, Option, Some, None, Result, Ok, Err, refl, sym, ap, ◌∙◌, subst, arith}
use Rattle.std.specs.Prelude.{◌&&◌, is_some, is_none, ◌==◌, if◌then◌else◌}
use Rattle.std.proofs.lemmas.Bool.{false≢true}
use Rattle.std.proofs.lemmas.Bool.Decides.{nat_tests}
use Rattle.hd_base.specs.declared.numbers.BlockId.{BlockId}
use Rattle.hd_base.specs.declared.numbers.NodeId.{NodeId}
use Rattle.name_core.specs.declared.calls.Begun.{Begun}
use Rattle.name_core.specs.declared.calls.OfficeAnswer.TheVariants as office
use Rattle.name_core.specs.declared.calls.OfficeCall.TheVariants as call
use Rattle.name_core.specs.Offices.{OfficeState, office_case, answering, answer_to, begin_case}
use Rattle.name_core.specs.Steps.{Step, reply}
use Rattle.world_laws.specs.RecoveryCore.OwnStep.{OwnStep}
use Rattle.world_laws.specs.RecoveryCore.OwnStep.TheVariants as step
use Rattle.world_laws.specs.RecoveryCore.Primaries.{own_step, sync_call}
use Rattle.world_laws.specs.World.Caller.TheVariants as caller
use Rattle.world_laws.specs.World.Event.TheVariants as event
use Rattle.world_laws.specs.World.Parts.{Place, Told, Leading, Primary, no_primary, was_told, leads, has_led}
use Rattle.world_laws.specs.World.Worlds.{World, apply}
use Rattle.world_laws.specs.World.Clients.{are_members}
use Rattle.world_laws.specs.World.Connections.{is_alive}
use Rattle.world_laws.specs.World.Enabled.{leads_on, leads_step_on, is_commit, primary_has_asked}
use Rattle.world_laws.specs.World.Events.{changed, after_event, outcome, is_enabled, happens}
use Rattle.world_laws.specs.World.Primaries.{begins_as, begins_at, own_recover, primary_asks, asks_primary}
use Rattle.world_laws.proofs.FactTables.{and-left, and-right}
use Rattle.world_laws.proofs.StampGivens.{put-here}
use Rattle.world_laws.proofs.TestLaws.{all-tested}
use Rattle.play_model.specs.declared.recoveries.Recovery.{Recovery}
use Rattle.play_model.specs.Laws.{AreEnabled}
use Rattle.play_model.specs.Recoveries as recoveries
use Rattle.play_model.specs.Recoveries.{all_answered, begins_so, goes_on, recovery_due, recovery_events, primary_due, primary_events, leads_due, leads_events}

-- ---- it begins

changed-some : (w : World) (o : _) → is_some (changed w o) ≡ is_some o
changed-some w None = refl
changed-some w (Some k) = refl

begun-some : (s : Step OfficeState Begun) (w : World) (i : ℕ) (at : Place) (b : BlockId) (members : List NodeId) (answers : List Bool)
    → is_some (begins_as (reply (answering office.Begun s)) w i at b members answers) ≡ true
begun-some (Ok g) w i at b members answers = refl
begun-some (Err e) w i at b members answers = refl

answer-some : (o : OfficeState) (w : World) (i : ℕ) (at : Place) (b : BlockId) (members : List NodeId) (answers : List Bool)
    → is_some (begins_as (answer_to o (call.BeginRecovery b)) w i at b members answers) ≡ true
unfolding office_case
answer-some o w i at b members answers = begun-some (begin_case o b) w i at b members answers

same-number : (n : ℕ) → (n == n) ≡ true
same-number n = grind (arith, nat_tests)

-- it was answered, at a node that runs
begins-some : (p : Primary) (o : OfficeState) (u : World) (r : Recovery) → p ≡ was_told r.block (answer_to o (call.BeginRecovery r.block)) → u.running r.node.0 ≡ true
    → are_members r.members ≡ true → is_some (begins_at p u r.primary r.node.0 r.block r.members (all_answered r.members)) ≡ true
begins-some p o u r is runs formed =
    rw (is, same-number r.block.0, runs, formed) (answer-some o u r.primary (record { node = r.node.0; life = u.lives r.node.0 }) r.block r.members (all_answered r.members))

-- The office has answered, and the node runs as before.
pub record IsAnswered (w u : World) (r : Recovery) : Type 0 where
  pub told : u.primaries r.primary ≡ was_told r.block (answer_to w.office (call.BeginRecovery r.block))
  pub running : u.running ≡ w.running

answered-as : (w : World) (r : Recovery) (p : Primary) → p ≡ no_primary
    → IsAnswered w (after_event w (recoveries.primary_asks r) (changed w (primary_asks p w r.primary r.block))) r
unfolding apply
answered-as w r no_primary is = record { told = put-here w.primaries r.primary _; running = refl }
answered-as w r (was_told b t) is = cc
answered-as w r (leads l) is = cc
answered-as w r (has_led x) is = cc

pub begin_answered : (w : World) (r : Recovery) → w.primaries r.primary ≡ no_primary → IsAnswered w (happens w (recoveries.primary_asks r)) r
unfolding happens outcome
begin_answered w r new = answered-as w r (w.primaries r.primary) new

begin-enabled : (w u : World) (r : Recovery) → IsAnswered w u r → w.running r.node.0 ≡ true → are_members r.members ≡ true → is_enabled u (begins_so r (all_answered r.members)) ≡ true
unfolding outcome
begin-enabled w u r a runs formed =
    changed-some u (own_recover u r.primary r.node.0 r.block r.members (all_answered r.members))
    ∙ begins-some (u.primaries r.primary) w.office u r a.told (ap (λ (f : ℕ → Bool). f r.node.0) a.running ∙ runs) formed

-- ---- it goes on

alive-waits : (w : World) (l : Leading) (a : Bool) → (is_alive w l.at && (is_none l.told && a)) ≡ true → is_alive w l.at ≡ true
alive-waits w l a h = and-left (is_alive w l.at) (is_none l.told && a) h

none-told : (t : Option Told) (a : Bool) → (is_none t && a) ≡ true → t ≡ None
none-told None a h = refl
none-told (Some t) a h = absurd (false≢true h)

untold : (w : World) (l : Leading) (a : Bool) → (is_alive w l.at && (is_none l.told && a)) ≡ true → l.told ≡ None
untold w l a h = none-told l.told a (and-right (is_alive w l.at) (is_none l.told && a) h)

-- its own step is done without the office
steps-on : (w : World) (p : Primary) (l : Leading) (s : OwnStep) → p ≡ leads l → is_alive w l.at ≡ true → l.told ≡ None → (own_step l.state).does ≡ s → leads_on None s ≡ true
    → leads_step_on p w ≡ true
steps-on w p l s is alive none does on = rw (is, alive, none, does) on

step-enabled : (w : World) (r : Recovery) (l : Leading) (s : OwnStep) → w.primaries r.primary ≡ leads l → is_alive w l.at ≡ true → l.told ≡ None → (own_step l.state).does ≡ s → leads_on None s ≡ true
    → AreEnabled w (goes_on r ∷ [])
step-enabled w r l s is alive none does on = ((all-tested w).lead r.primary ∙ steps-on w (w.primaries r.primary) l s is alive none does on, tt)

-- it may ask the office to commit
asks-on : (w : World) (p : Primary) (l : Leading) (s : OwnStep) → p ≡ leads l → is_alive w l.at ≡ true → l.told ≡ None → (own_step l.state).does ≡ s → is_commit s ≡ true
    → primary_has_asked p w ≡ true
asks-on w p l s is alive none does on = rw (is, alive, none, does) on

-- The office has answered one that leads, in whose node nothing has changed.
pub record IsCommitted (w u : World) (r : Recovery) (l : Leading) : Type 0 where
  pub answer : Told
  pub told : u.primaries r.primary ≡ leads (record l { told = Some answer })
  pub running : u.running ≡ w.running
  pub lives : u.lives ≡ w.lives

committed-as : (w : World) (r : Recovery) (l : Leading) (p : Primary) (s : OwnStep) → p ≡ leads l → is_alive w l.at ≡ true → l.told ≡ None → (own_step l.state).does ≡ s → is_commit s ≡ true
    → IsCommitted w (after_event w (recoveries.primary_asks r) (changed w (primary_asks p w r.primary r.block))) r l
unfolding apply
committed-as w r l p step.Waits is alive none does on = absurd (false≢true on)
committed-as w r l p (step.Updates c) is alive none does on = absurd (false≢true on)
committed-as w r l p (step.Ends e) is alive none does on = absurd (false≢true on)
committed-as w r l p (step.Commits c) is alive none does on = rw (is, alive, none, does) (record {
  answer = answer_to w.office (sync_call l.state c);
  told = put-here w.primaries r.primary (leads (record l { told = Some (answer_to w.office (sync_call l.state c)) }));
  running = refl;
  lives = refl;
})

committed : (w : World) (r : Recovery) (l : Leading) (s : OwnStep) → w.primaries r.primary ≡ leads l → is_alive w l.at ≡ true → l.told ≡ None → (own_step l.state).does ≡ s → is_commit s ≡ true
    → IsCommitted w (happens w (recoveries.primary_asks r)) r l
unfolding happens outcome
committed w r l s is alive none does on = committed-as w r l (w.primaries r.primary) s is alive none does on

same-alive : (w u : World) (at : Place) → u.running ≡ w.running → u.lives ≡ w.lives → is_alive w at ≡ true → is_alive u at ≡ true
same-alive w u at running lives h = rw (running, lives) h

told-on : (u : World) (p : Primary) (l : Leading) (t : Told) (s : OwnStep) → p ≡ leads (record l { told = Some t }) → is_alive u l.at ≡ true → (own_step l.state).does ≡ s → is_commit s ≡ true
    → leads_step_on p u ≡ true
told-on u p l t step.Waits is alive does on = absurd (false≢true on)
told-on u p l t (step.Updates c) is alive does on = absurd (false≢true on)
told-on u p l t (step.Ends e) is alive does on = absurd (false≢true on)
told-on u p l t (step.Commits c) is alive does on = rw (is, alive, does) refl

commit-enabled : (w : World) (r : Recovery) (l : Leading) (s : OwnStep) → w.primaries r.primary ≡ leads l → is_alive w l.at ≡ true → l.told ≡ None → (own_step l.state).does ≡ s → is_commit s ≡ true
    → AreEnabled w (recoveries.primary_asks r ∷ (goes_on r ∷ []))
commit-enabled w r l s is alive none does on =
    let u : World = happens w (recoveries.primary_asks r) in
    let k : IsCommitted w u r l = committed w r l s is alive none does on in (
      (all-tested w).ask (caller.Primary r.primary r.block) ∙ asks-on w (w.primaries r.primary) l s is alive none does on,
      ((all-tested u).lead r.primary ∙ told-on u (u.primaries r.primary) l k.answer s k.told (same-alive w u l.at k.running k.lives alive) does on, tt),
    )

leads-enabled : (w : World) (r : Recovery) (l : Leading) (s : OwnStep) → w.primaries r.primary ≡ leads l → (own_step l.state).does ≡ s
    → (is_alive w l.at && (is_none l.told && recoveries.acts s)) ≡ true → AreEnabled w (leads_events s r)
leads-enabled w r l step.Waits is does due = absurd (false≢true (and-right (is_none l.told) false (and-right (is_alive w l.at) (is_none l.told && false) due)))
leads-enabled w r l (step.Updates c) is does due = step-enabled w r l (step.Updates c) is (alive-waits w l true due) (untold w l true due) does refl
leads-enabled w r l (step.Commits c) is does due = commit-enabled w r l (step.Commits c) is (alive-waits w l true due) (untold w l true due) does refl
leads-enabled w r l (step.Ends e) is does due = step-enabled w r l (step.Ends e) is (alive-waits w l true due) (untold w l true due) does refl

-- ---- each own step

as-enabled : (w : World) (r : Recovery) (p : Primary) → w.primaries r.primary ≡ p → are_members r.members ≡ true → primary_due p w r ≡ true → AreEnabled w (primary_events p r)
as-enabled w r no_primary is formed due =
    let u : World = happens w (recoveries.primary_asks r) in (
      (all-tested w).ask (caller.Primary r.primary r.block) ∙ ap (λ (p : Primary). primary_has_asked p w) is,
      (begin-enabled w u r (begin_answered w r is) (and-right r.may_begin (w.running r.node.0) due) formed, tt),
    )
as-enabled w r (was_told b t) is formed due = absurd (false≢true due)
as-enabled w r (leads l) is formed due = leads-enabled w r l (own_step l.state).does is refl due
as-enabled w r (has_led x) is formed due = absurd (false≢true due)

pub recovery_enabled : (w : World) (r : Recovery) → are_members r.members ≡ true → recovery_due w r ≡ true → AreEnabled w (recovery_events w r)
recovery_enabled w r formed due = as-enabled w r (w.primaries r.primary) refl formed due
