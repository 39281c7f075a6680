-- What the steps of primaries and the office bring.
use Rattle.std.proofs.Common.{◌≡◌, ℕ, ◌<◌, Bool, List, Option, Some, None, IfSome, Ok, Err, refl, ◌∙◌, ap, eqb-true}
use Rattle.std.specs.Prelude.{◌==◌, ◌&&◌, is_none, slice_get}
use Rattle.hd_base.specs.declared.numbers.BlockId.{BlockId}
use Rattle.hd_base.specs.declared.numbers.NodeId.{NodeId}
use Rattle.name_core.specs.declared.calls.OfficeAnswer.TheVariants as office
use Rattle.world_laws.specs.RecoveryCore.OwnStep.{OwnStep}
use Rattle.world_laws.specs.RecoveryCore.OwnStep.TheVariants as own
use Rattle.world_laws.specs.RecoveryCore.Standing.{Standing}
use Rattle.world_laws.specs.RecoveryCore.Primaries.{own_step, office_refused, end_with}
use Rattle.world_laws.specs.World.Parts.{Place, by_primary, Told, Leading, Primary, no_primary, was_told, leads, has_led}
use Rattle.world_laws.specs.World.Worlds.{World, Change}
use Rattle.world_laws.specs.World.Connections.{Next, is_alive, place_of}
use Rattle.world_laws.specs.World.Clients.{are_members}
use Rattle.world_laws.specs.World.Primaries.{primary_change, begins_as, begins_at, own_recover, ends_change, leads_step, commits_step, leads_told, own_primary_as, own_primary, listens, hears_change, primary_up_as, primary_up, primary_commits, primary_asks}
use Rattle.world_laws.proofs.FactTables.{when-each, and-left}
use Rattle.world_laws.specs.Stamping.{Givens}
use Rattle.world_laws.proofs.ByteLeaves.{Facts}
use Rattle.world_recoveries.specs.Recovering.{Recovering}
use Rattle.world_recoveries.proofs.Frame.{News}
use Rattle.world_recoveries.proofs.Leading.{updates-news, ended-news, begins-news, SentUp, hears-news, asked-news, commits-news}
use Rattle.world_recoveries.proofs.Quiet.{Brings}

news-brings : (g : Givens) (w : World) (k : Change) → News g w k → Brings g w k
news-brings g w k n = record { news = λ _. n }

-- ITS FIRST STEP

begins-as-brings : (g : Givens) (w : World) (i : ℕ) (at : Place) (b : BlockId) (ms : List NodeId) (bs : List Bool) (told : Told) → Facts g w → Recovering g w → w.primaries i ≡ was_told b told → IfSome (begins_as told w i at b ms bs) (Brings g w)
begins-as-brings g w i at b ms bs (Ok (office.Begun begun)) f h e = news-brings g w _ (begins-news g w i at b begun ms bs f h e)
begins-as-brings g w i at b ms bs (Ok (office.Stamp s)) f h e = tt
begins-as-brings g w i at b ms bs (Ok (office.Reopened r)) f h e = tt
begins-as-brings g w i at b ms bs (Ok office.Nothing) f h e = tt
begins-as-brings g w i at b ms bs (Err x) f h e = news-brings g w _ (ended-news g w (primary_change w i (has_led (office_refused x))) (office_refused x) refl refl (λ _. refl) (λ _. refl) refl refl)

begins-at-brings : (x : Primary) (g : Givens) (w : World) (i n : ℕ) (b : BlockId) (ms : List NodeId) (bs : List Bool) → Facts g w → Recovering g w → w.primaries i ≡ x → IfSome (begins_at x w i n b ms bs) (Brings g w)
begins-at-brings no_primary g w i n b ms bs f h e = tt
begins-at-brings (was_told q told) g w i n b ms bs f h e =
    when-each (Brings g w) (q.0 == b.0 && w.running n && are_members ms) _ (λ t.
    let same : q.0 ≡ b.0 = eqb-true q.0 b.0 (and-left (q.0 == b.0) (w.running n) (and-left (q.0 == b.0 && w.running n) (are_members ms) t)) in
    begins-as-brings g w i (place_of w n) b ms bs told f h (e ∙ ap (λ (m : ℕ). was_told (record { 0 = m }) told) same))
begins-at-brings (leads l) g w i n b ms bs f h e = tt
begins-at-brings (has_led r) g w i n b ms bs f h e = tt

pub own-recover-brings : (g : Givens) (w : World) (i n : ℕ) (b : BlockId) (ms : List NodeId) (bs : List Bool) → Facts g w → Recovering g w → IfSome (own_recover w i n b ms bs) (Brings g w)
own-recover-brings g w i n b ms bs f h = begins-at-brings (w.primaries i) g w i n b ms bs f h refl

-- ITS FURTHER STEPS

leads-step-brings : (s : OwnStep) (g : Givens) (w : World) (i : ℕ) (l : Leading) → Recovering g w → w.primaries i ≡ leads l → (own_step l.state).does ≡ s → IfSome (leads_step s w i l (own_step l.state).primary) (Brings g w)
leads-step-brings own.Waits g w i l h e d = tt
leads-step-brings (own.Updates c) g w i l h e d = news-brings g w _ (updates-news g w i l c h e d)
leads-step-brings (own.Commits c) g w i l h e d = tt
leads-step-brings (own.Ends r) g w i l h e d = news-brings g w _ (ended-news g w (ends_change w i l r) r refl refl (λ _. refl) (λ _. refl) refl refl)

commits-step-brings : (s : OwnStep) (g : Givens) (w : World) (i : ℕ) (l : Leading) (t : Told) → IfSome (commits_step s w i l t) (Brings g w)
commits-step-brings own.Waits g w i l t = tt
commits-step-brings (own.Updates c) g w i l t = tt
commits-step-brings (own.Commits c) g w i l t = news-brings g w _ (ended-news g w (ends_change w i l (end_with l.state c t)) (end_with l.state c t) refl refl (λ _. refl) (λ _. refl) refl refl)
commits-step-brings (own.Ends r) g w i l t = tt

leads-told-brings : (o : Option Told) (g : Givens) (w : World) (i : ℕ) (l : Leading) → Recovering g w → w.primaries i ≡ leads l → IfSome (leads_told o w i l) (Brings g w)
leads-told-brings None g w i l h e = leads-step-brings (own_step l.state).does g w i l h e refl
leads-told-brings (Some t) g w i l h e = commits-step-brings (own_step l.state).does g w i l t

own-primary-as-brings : (x : Primary) (g : Givens) (w : World) (i : ℕ) → Recovering g w → w.primaries i ≡ x → IfSome (own_primary_as x w i) (Brings g w)
own-primary-as-brings no_primary g w i h e = tt
own-primary-as-brings (was_told b t) g w i h e = tt
own-primary-as-brings (leads l) g w i h e = when-each (Brings g w) (is_alive w l.at) _ (λ _. leads-told-brings l.told g w i l h e)
own-primary-as-brings (has_led r) g w i h e = tt

pub own-primary-brings : (g : Givens) (w : World) (i : ℕ) → Recovering g w → IfSome (own_primary w i) (Brings g w)
own-primary-brings g w i h = own-primary-as-brings (w.primaries i) g w i h refl

-- WHAT IT TAKES

hears-change-brings : (g : Givens) (w : World) (i : ℕ) (l : Leading) (place c : ℕ) (x : Next) (o : Option Standing) → Recovering g w → w.primaries i ≡ leads l → c < w.next_conn → (w.dialled c).upper ≡ by_primary i place → SentUp w.past c x
    → IfSome (hears_change w i l place c x o) (Brings g w)
hears-change-brings g w i l place c x None h e lt u s = tt
hears-change-brings g w i l place c x (Some q) h e lt u s =
    when-each (Brings g w) (listens l.state.phase q) _ (λ _. news-brings g w _ (hears-news g w i l place c x _ h e lt u s refl refl refl (λ _. refl) (λ _. refl) refl refl))

primary-up-as-brings : (z : Primary) (g : Givens) (w : World) (i place c : ℕ) (x : Next) → Recovering g w → w.primaries i ≡ z → c < w.next_conn → (w.dialled c).upper ≡ by_primary i place → SentUp w.past c x
    → IfSome (primary_up_as z w i place c x) (Brings g w)
primary-up-as-brings no_primary g w i place c x h e lt u s = tt
primary-up-as-brings (was_told b t) g w i place c x h e lt u s = tt
primary-up-as-brings (leads l) g w i place c x h e lt u s =
    when-each (Brings g w) (is_alive w l.at && is_none l.told) _ (λ _. hears-change-brings g w i l place c x (slice_get l.state.standings place) h e lt u s)
primary-up-as-brings (has_led r) g w i place c x h e lt u s = tt

pub primary-up-brings : (g : Givens) (w : World) (i place c : ℕ) (x : Next) → Recovering g w → c < w.next_conn → (w.dialled c).upper ≡ by_primary i place → SentUp w.past c x → IfSome (primary_up w i place c x) (Brings g w)
primary-up-brings g w i place c x h lt u s = primary-up-as-brings (w.primaries i) g w i place c x h refl lt u s

-- THE OFFICE

commits-asked : (s : OwnStep) (g l : Givens) (w : World) (i : ℕ) (m : Leading) → Recovering l w → w.primaries i ≡ leads m → IfSome (primary_commits s w i m) (Brings l w)
commits-asked own.Waits g l w i m h e = tt
commits-asked (own.Updates c) g l w i m h e = tt
commits-asked (own.Commits c) g l w i m h e = news-brings l w _ (commits-news l w i m c h e)
commits-asked (own.Ends r) g l w i m h e = tt

pub primary-asks-brings : (x : Primary) (g l : Givens) (w : World) (i : ℕ) (b : BlockId) → Facts g w → Recovering l w → w.primaries i ≡ x → IfSome (primary_asks x w i b) (Brings l w)
primary-asks-brings no_primary g l w i b f h e = news-brings l w _ (asked-news g l w i b f h e)
primary-asks-brings (was_told c t) g l w i b f h e = tt
primary-asks-brings (leads m) g l w i b f h e = when-each (Brings l w) (is_alive w m.at && is_none m.told) _ (λ _. commits-asked (own_step m.state).does g l w i m h e)
primary-asks-brings (has_led r) g l w i b f h e = tt
