-- What primaries send; the office sends nothing.
use Rattle.std.proofs.Common.{ℕ, ◌+◌, Bool, true, false, List, [], ◌∷◌, slice_get, Option, Some, None, IfSome, Result, Ok, Err, refl, sym, subst, ◌≡◌}
use Rattle.std.specs.Prelude.{◌==◌, ◌&&◌, is_none, zip}
use Rattle.hd_base.specs.declared.numbers.BlockId.{BlockId}
use Rattle.hd_base.specs.declared.numbers.NodeId.{NodeId}
use Rattle.name_core.specs.declared.calls.OfficeAnswer.TheVariants as office
use Rattle.name_core.specs.declared.calls.OfficeCall.{OfficeCall}
use Rattle.name_core.specs.declared.calls.OfficeCall.TheVariants as call
use Rattle.world_laws.specs.RecoveryCore.OwnStep.{OwnStep}
use Rattle.world_laws.specs.RecoveryCore.OwnStep.TheVariants as own
use Rattle.name_core.specs.Offices.{answer_to}
use Rattle.name_core.specs.declared.choice.ChooseFault.{ChooseFault}
use Rattle.name_core.specs.declared.choice.Chosen.{Chosen}
use Rattle.world_laws.specs.RecoveryCore.Phase.{Phase}
use Rattle.world_laws.specs.RecoveryCore.Phase.TheVariants as phase
use Rattle.world_laws.specs.RecoveryCore.Heard.{Heard}
use Rattle.world_laws.specs.RecoveryCore.Standing.{Standing}
use Rattle.world_laws.specs.RecoveryCore.Primaries.{PrimaryState, OwnTaken, heard_as, choosing, committing, own_at, own_step, sync_call, is_among, taken, waits}
use Rattle.world_laws.specs.WriterCore.Action.{Action}
use Rattle.world_laws.specs.WriterCore.Action.TheVariants as action
use Rattle.world_laws.specs.WriterCore.Transitions as writer
use Rattle.world_laws.specs.World.Caller.{Caller}
use Rattle.world_laws.specs.World.Caller.TheVariants as caller
use Rattle.world_laws.specs.World.Parts.{Message, Place, Told, Leading, Primary, no_primary, was_told, leads, has_led}
use Rattle.world_laws.specs.World.Worlds.{World}
use Rattle.world_laws.specs.World.Connections.{Next, is_alive, is_conn, place_of}
use Rattle.world_laws.specs.World.Clients.{are_members}
use Rattle.world_laws.specs.World.Primaries.{primary_change, dials_answered, primary_dials, begins_as, begins_at, own_recover, updates_on, heard_of, leads_step, commits_step, leads_told, own_primary_as, own_primary, listens, hears_change, primary_up_as, primary_up, asks_writer, asks_primary, writer_asks, primary_commits, primary_asks, office_event}
use Rattle.world_laws.proofs.ByteFrame.{Each, each-nil, each-one, each-cons}
use Rattle.world_laws.proofs.FactTables.{if-each, when-each}
use Rattle.world_requests.proofs.Frame.{Asking, to_recover, MessageIs, DialIs, PrimaryIs, PrimariesAre, Brings, quiet}

module _ (Of : Asking → ℕ → Type 0) (w : World) where
  -- REQUESTS

  dials-asked : (i : ℕ) (from : Place) (m : Message) (place : ℕ) (ns : List NodeId) (bs : List Bool) → MessageIs Of m → Each (DialIs Of) (primary_dials w i from m place ns bs)
  dials-asked i from m place [] bs h = each-nil (DialIs Of)
  dials-asked i from m place (n ∷ ns) [] h = each-nil (DialIs Of)
  dials-asked i from m place (n ∷ ns) (true ∷ bs) h = each-cons (DialIs Of) _ (primary_dials w i from m (place + 1) ns bs) h (dials-asked i from m (place + 1) ns bs h)
  dials-asked i from m place (n ∷ ns) (false ∷ bs) h = dials-asked i from m (place + 1) ns bs h

  updates-asked : (m : Message) (chosen : List NodeId) (xs : List (NodeId × Option ℕ)) (c : ℕ) → MessageIs Of m → Each (MessageIs Of) (updates_on m chosen xs c)
  updates-asked m chosen [] c h = each-nil (MessageIs Of)
  updates-asked m chosen (x ∷ xs) c h = if-each (Each (MessageIs Of)) (is_among chosen x.0 && is_conn x.1 c) (m ∷ []) (updates_on m chosen xs c) (λ _. each-one (MessageIs Of) m h) (λ _. updates-asked m chosen xs c h)

  primary-brings : (i : ℕ) (p : Primary) → PrimaryIs Of p → Brings Of w (primary_change w i p)
  primary-brings i p is = quiet Of w (primary_change w i p) refl (λ _. refl) (λ _. refl) (λ h. is)

  -- what a primary recovers stays so
  heard-block : (p : PrimaryState) (at : ℕ) (h : Heard) (o : Option Standing) → (heard_as p at h o).block ≡ p.block
  heard-block p at h None = refl
  heard-block p at h (Some s) = refl

  choosing-block : (p : PrimaryState) (c : Result Chosen ChooseFault) → (choosing p c).primary.block ≡ p.block
  choosing-block p (Ok c) = refl
  choosing-block p (Err e) = refl

  committing-block : (p : PrimaryState) (bytes : ℕ) (ns : List NodeId) → (committing p bytes ns).primary.block ≡ p.block
  committing-block p bytes [] = refl
  committing-block p bytes (n ∷ ns) = refl

  at-block : (x : Phase) (p : PrimaryState) → (own_at x p).primary.block ≡ p.block
  at-block phase.Informing p = choosing-block p _
  at-block (phase.Updating bytes) p = committing-block p bytes _
  at-block phase.Over p = refl

  step-block : (p : PrimaryState) → (own_step p).primary.block ≡ p.block
  step-block p = if-each (λ (t : OwnTaken). t.primary.block ≡ p.block) (waits p.standings) (taken p own.Waits) (own_at p.phase p) (λ _. refl) (λ _. at-block p.phase p)

  -- ITS STEPS

  begins-as-brings : (told : Told) (i : ℕ) (at : Place) (b : BlockId) (ns : List NodeId) (bs : List Bool) → Of to_recover b.0 → IfSome (begins_as told w i at b ns bs) (Brings Of w)
  begins-as-brings (Ok (office.Begun begun)) i at b ns bs q = record {
    dials = dials-asked i at _ 0 ns (dials_answered w ns bs) q;
    downs = λ c. each-nil (MessageIs Of);
    ups = λ c. each-nil (MessageIs Of);
    primary = λ h. q;
  }
  begins-as-brings (Ok (office.Stamp x)) i at b ns bs q = tt
  begins-as-brings (Ok (office.Reopened x)) i at b ns bs q = tt
  begins-as-brings (Ok office.Nothing) i at b ns bs q = tt
  begins-as-brings (Err e) i at b ns bs q = primary-brings i _ tt

  begins-at-brings : (x : Primary) (i n : ℕ) (b : BlockId) (ns : List NodeId) (bs : List Bool) → Of to_recover b.0 → IfSome (begins_at x w i n b ns bs) (Brings Of w)
  begins-at-brings no_primary i n b ns bs k = tt
  begins-at-brings (was_told q told) i n b ns bs k = when-each (Brings Of w) (q.0 == b.0 && w.running n && are_members ns) _ (λ _. begins-as-brings told i (place_of w n) b ns bs k)
  begins-at-brings (leads l) i n b ns bs k = tt
  begins-at-brings (has_led x) i n b ns bs k = tt

  pub own-recover-brings : (i n : ℕ) (b : BlockId) (ns : List NodeId) (bs : List Bool) → Of to_recover b.0 → IfSome (own_recover w i n b ns bs) (Brings Of w)
  own-recover-brings i n b ns bs k = begins-at-brings (w.primaries i) i n b ns bs k

  step-brings : (s : OwnStep) (i : ℕ) (l : Leading) (p : PrimaryState) → p.block ≡ l.state.block → Of to_recover l.state.block.0 → IfSome (leads_step s w i l p) (Brings Of w)
  step-brings own.Waits i l p same q = tt
  step-brings (own.Updates c) i l p same q = record {
    dials = each-nil (DialIs Of);
    downs = λ d. updates-asked _ c.members (zip l.state.members l.conns) d q;
    ups = λ d. each-nil (MessageIs Of);
    primary = λ h. subst (λ (b : BlockId). Of to_recover b.0) (sym same) q;
  }
  step-brings (own.Commits c) i l p same q = tt
  step-brings (own.Ends x) i l p same q = quiet Of w _ refl (λ _. refl) (λ _. refl) (λ h. tt)

  commits-brings : (s : OwnStep) (i : ℕ) (l : Leading) (t : Told) → IfSome (commits_step s w i l t) (Brings Of w)
  commits-brings own.Waits i l t = tt
  commits-brings (own.Updates c) i l t = tt
  commits-brings (own.Commits c) i l t = quiet Of w _ refl (λ _. refl) (λ _. refl) (λ h. tt)
  commits-brings (own.Ends x) i l t = tt

  told-brings : (o : Option Told) (i : ℕ) (l : Leading) → Of to_recover l.state.block.0 → IfSome (leads_told o w i l) (Brings Of w)
  told-brings None i l q = step-brings (own_step l.state).does i l (own_step l.state).primary (step-block l.state) q
  told-brings (Some t) i l q = commits-brings (own_step l.state).does i l t

  own-as-brings : (x : Primary) (i : ℕ) → PrimaryIs Of x → IfSome (own_primary_as x w i) (Brings Of w)
  own-as-brings no_primary i q = tt
  own-as-brings (was_told b t) i q = tt
  own-as-brings (leads l) i q = when-each (Brings Of w) (is_alive w l.at) _ (λ _. told-brings l.told i l q)
  own-as-brings (has_led x) i q = tt

  pub own-primary-brings : (i : ℕ) → PrimariesAre Of w → IfSome (own_primary w i) (Brings Of w)
  own-primary-brings i h = own-as-brings (w.primaries i) i (h i)

  -- WHAT IT TAKES

  hears-brings : (i : ℕ) (l : Leading) (place c : ℕ) (x : Next) (o : Option Standing) → Of to_recover l.state.block.0 → IfSome (hears_change w i l place c x o) (Brings Of w)
  hears-brings i l place c x None q = tt
  hears-brings i l place c x (Some s) q = when-each (Brings Of w) (listens l.state.phase s) _
      (λ _. quiet Of w _ refl (λ _. refl) (λ _. refl) (λ h. subst (λ (b : BlockId). Of to_recover b.0) (sym (heard-block l.state place (heard_of x) (slice_get l.state.standings place))) q))

  up-as-brings : (x : Primary) (i place c : ℕ) (n : Next) → PrimaryIs Of x → IfSome (primary_up_as x w i place c n) (Brings Of w)
  up-as-brings no_primary i place c n q = tt
  up-as-brings (was_told b t) i place c n q = tt
  up-as-brings (leads l) i place c n q = when-each (Brings Of w) (is_alive w l.at && is_none l.told) _ (λ _. hears-brings i l place c n (slice_get l.state.standings place) q)
  up-as-brings (has_led x) i place c n q = tt

  pub primary-up-brings : (i place c : ℕ) (n : Next) → PrimariesAre Of w → IfSome (primary_up w i place c n) (Brings Of w)
  primary-up-brings i place c n h = up-as-brings (w.primaries i) i place c n (h i)

  -- THE OFFICE

  asks-writer-brings : (b : ℕ) (c : OfficeCall) → Brings Of w (asks_writer w b c)
  asks-writer-brings b c = quiet Of w (asks_writer w b c) refl (λ _. refl) (λ _. refl) (λ h. h 0)

  asks-primary-brings : (i : ℕ) (c : OfficeCall) (p : Told → Primary) → (PrimariesAre Of w → PrimaryIs Of (p (answer_to w.office c))) → Brings Of w (asks_primary w i c p)
  asks-primary-brings i c p q = quiet Of w (asks_primary w i c p) refl (λ _. refl) (λ _. refl) q

  writer-asks-brings : (a : Action) (b : ℕ) → IfSome (writer_asks a w b) (Brings Of w)
  writer-asks-brings (action.Ask c) b = asks-writer-brings b c
  writer-asks-brings action.Took b = tt
  writer-asks-brings (action.Send p) b = tt
  writer-asks-brings (action.Answered k said) b = tt
  writer-asks-brings action.Wait b = tt
  writer-asks-brings (action.Dial to r) b = tt
  writer-asks-brings action.Memory b = tt

  commits-asks : (s : OwnStep) (i : ℕ) (l : Leading) → Of to_recover l.state.block.0 → IfSome (primary_commits s w i l) (Brings Of w)
  commits-asks (own.Commits c) i l q = asks-primary-brings i (sync_call l.state c) (λ told. leads (record l { told = Some told })) (λ h. q)
  commits-asks own.Waits i l q = tt
  commits-asks (own.Updates c) i l q = tt
  commits-asks (own.Ends x) i l q = tt

  primary-asks-brings : (x : Primary) (i : ℕ) (b : BlockId) → PrimaryIs Of x → IfSome (primary_asks x w i b) (Brings Of w)
  primary-asks-brings no_primary i b q = asks-primary-brings i (call.BeginRecovery b) (was_told b) (λ h. tt)
  primary-asks-brings (leads l) i b q = when-each (Brings Of w) (is_alive w l.at && is_none l.told) _ (λ _. commits-asks (own_step l.state).does i l q)
  primary-asks-brings (was_told d t) i b q = tt
  primary-asks-brings (has_led x) i b q = tt

  pub office-brings : (c : Caller) → PrimariesAre Of w → IfSome (office_event w c) (Brings Of w)
  office-brings (caller.Writer b) h = when-each (Brings Of w) (is_none (w.writers b.0).told) _ (λ _. writer-asks-brings (writer.own_step (w.writers b.0).known).action b.0)
  office-brings (caller.Primary i b) h = primary-asks-brings (w.primaries i) i b (h i)
