-- A primary's own steps, what it takes, and what the office answers it.
use Rattle.std.proofs.Common.{◌≡◌, ◌≢◌, ℕ, zero, suc, ◌≤◌, ◌+◌, ◌*◌, Bool, true, false, List, [], ◌∷◌, length, slice_get, Option, Some, None, IfSome, Ok, Err, refl, sym, ap, ◌∙◌, subst, arith}
use Rattle.std.specs.Prelude.{is_none, zip, ◌&&◌, ◌==◌}
use Rattle.std.proofs.lemmas.Option.{none-some, same_Some}
use Rattle.hd_base.specs.declared.numbers.BlockId.{BlockId}
use Rattle.hd_base.specs.declared.numbers.NodeId.{NodeId}
use Rattle.op_headers.specs.declared.ops.Op.TheVariants as op
use Rattle.op_headers.specs.declared.ops.RecoveryKind.TheVariants as kind
use Rattle.name_core.specs.declared.calls.Begun.{Begun}
use Rattle.name_core.specs.declared.calls.OfficeAnswer.TheVariants as office
use Rattle.name_core.specs.declared.calls.OfficeCall.{OfficeCall}
use Rattle.name_core.specs.declared.calls.OfficeCall.TheVariants as call
use Rattle.name_core.specs.declared.choice.Chosen.{Chosen}
use Rattle.name_core.specs.Offices.{answer_to}
use Rattle.world.specs.RecoveryCore.OwnStep.{OwnStep}
use Rattle.world.specs.RecoveryCore.OwnStep.TheVariants as own
use Rattle.world.specs.RecoveryCore.Recovered.{Recovered}
use Rattle.world.specs.RecoveryCore.Standing.{Standing}
use Rattle.world.specs.RecoveryCore.Primaries.{PrimaryState, begun_with, end_with, heard_at, office_refused, own_step, request_of, sync_call}
use Rattle.world_texts.specs.WorldLaws.Placing.{IsUndialled}
use Rattle.world.specs.Parts.{Message, request, Place, Told, Leading, Primary, no_primary, was_told, leads, has_led}
use Rattle.world.specs.Worlds.{World, Dial, Change, apply}
use Rattle.world.specs.Connections.{Next, is_alive, place_of}
use Rattle.world.specs.Clients.{are_members}
use Rattle.world.specs.Primaries.{primary_change, dials_answered, primary_dials, recovery_message, begins_with, begins_as, begins_at, own_recover, updates_change, ends_change, leads_step, commits_step, leads_told, own_primary_as, own_primary, heard_of, listens, hears_change, primary_up_as, primary_up, asks_primary, primary_commits, primary_asks}
use Rattle.world_settling.specs.Traffic.{traffic, down_weight}
use Rattle.world_settling.specs.Leading.{recovery_weight, primary_weight, LowersLeading, KeepsLeading}
use Rattle.world_settling.proofs.Frame.{put-here, put-other}
use Rattle.world_settling.proofs.Outer.{Quiet, quiet-keeps, when-each}
use Rattle.world_settling.proofs.Begun.{AllBegun}
use Rattle.world_settling.proofs.ManyDials.{dials-weigh, twice-is, thrice-is}
use Rattle.world_settling.proofs.Updates.{sends-updates, zip-fewer}
use Rattle.world_settling.proofs.LeadingWeights.{state_weight, PaysFor, step-pays, heard-weighs}

-- ONE PRIMARY CHANGES

primary-put : (w : World) (k : Change) → (apply w k).primaries k.primary_at ≡ k.primary
unfolding apply
primary-put w k = put-here w.primaries k.primary_at k.primary

primaries-else : (w : World) (k : Change) (j : ℕ) → j ≢ k.primary_at → (apply w k).primaries j ≡ w.primaries j
unfolding apply
primaries-else w k j other = put-other w.primaries k.primary_at j k.primary other

-- a change by which the primary comes into this state
pub record Leads (w : World) (i : ℕ) (p : Primary) (k : Change) : Type 0 where
  pub at : k.primary_at ≡ i
  pub is : k.primary ≡ p

now-weighs : (w : World) (i : ℕ) (p : Primary) (k : Change) → Leads w i p k → primary_weight ((apply w k).primaries i) ≡ primary_weight p
now-weighs w i p k l = ap primary_weight (subst (λ (n : ℕ). (apply w k).primaries n ≡ k.primary) l.at (primary-put w k) ∙ l.is)

else-same : (w : World) (i : ℕ) (p : Primary) (k : Change) → Leads w i p k → (j : ℕ) → j ≢ i → (apply w k).primaries j ≡ w.primaries j
else-same w i p k l j other = primaries-else w k j (λ e. other (e ∙ l.at))

-- no more than this is to be delivered then, and the primary pays for it
pub leads-both : (w : World) (i : ℕ) (p : Primary) (k : Change) (more given : ℕ) → Leads w i p k → traffic (apply w k) ≤ traffic w + more
    → primary_weight p + more + 1 ≤ primary_weight (w.primaries i) + given → LowersLeading w (apply w k) i given
leads-both w i p k more given l sent pays = record { is = omega (arith, sent, pays, now-weighs w i p k l); others = else-same w i p k l }

quiet-both : (w : World) (i : ℕ) (p : Primary) (k : Change) (given : ℕ) → Leads w i p k → Quiet w k → primary_weight p + 1 ≤ primary_weight (w.primaries i) + given
    → LowersLeading w (apply w k) i given
quiet-both w i p k given l q pays = leads-both w i p k 0 given l (omega (arith, quiet-keeps w k q)) (omega (arith, pays))

quiet-keeps-leading : (w : World) (i : ℕ) (p : Primary) (k : Change) → Leads w i p k → Quiet w k → primary_weight p ≤ primary_weight (w.primaries i) → KeepsLeading w (apply w k) i
quiet-keeps-leading w i p k l q pays = record { is = omega (arith, quiet-keeps w k q, pays, now-weighs w i p k l); others = else-same w i p k l }

-- ITS FIRST STEP

dials-ask : (w : World) (i : ℕ) (from : Place) (first : Message) (place : ℕ) (ns : List NodeId) (answers : List Bool) (j : ℕ) (d : Dial)
    → slice_get (primary_dials w i from first place ns answers) j ≡ Some d → d.request ≡ first
dials-ask w i from first place [] answers j d e = absurd (none-some d e)
dials-ask w i from first place (n ∷ ns) [] j d e = absurd (none-some d e)
dials-ask w i from first place (n ∷ ns) (true ∷ answers) zero d e = ap (λ (x : Dial). x.request) (sym (same_Some _ d e))
dials-ask w i from first place (n ∷ ns) (true ∷ answers) (suc j) d e = dials-ask w i from first (place + 1) ns answers j d e
dials-ask w i from first place (n ∷ ns) (false ∷ answers) j d e = dials-ask w i from first (place + 1) ns answers j d e

dials-few : (w : World) (i : ℕ) (from : Place) (first : Message) (place : ℕ) (ns : List NodeId) (answers : List Bool) → length (primary_dials w i from first place ns answers) ≤ length ns
dials-few w i from first place [] answers = omega arith
dials-few w i from first place (n ∷ ns) [] = omega arith
dials-few w i from first place (n ∷ ns) (true ∷ answers) = omega (arith, dials-few w i from first (place + 1) ns answers)
dials-few w i from first place (n ∷ ns) (false ∷ answers) = omega (arith, dials-few w i from first (place + 1) ns answers)

module _ (w : World) (new : (c : ℕ) → w.next_conn ≤ c → IsUndialled w c) where
  begins-both : (i : ℕ) (at : Place) (b : BlockId) (begun : Begun) (members : List NodeId) (answers : List Bool) → LowersLeading w (apply w (begins_with w i at b begun members answers)) i (recovery_weight members)
  begins-both i at b begun members answers =
      let p : PrimaryState = begun_with b begun members answers in
      let k : Change = begins_with w i at b begun members answers in
      let weighs : (j : ℕ) (d : Dial) → slice_get k.dials j ≡ Some d → (h : ℕ) → down_weight h d.request ≤ 3 =
      λ j d e h. let same = ap (down_weight h) (dials-ask w i at (recovery_message p) 0 members answers j d e) in omega (arith, same) in
      let sent = dials-weigh w k 3 (record { downs = λ c. refl; ups = λ c. refl; lower = refl; replica = refl; new = new; weighs = weighs }) in
      let few = dials-few w i at (recovery_message p) 0 members answers in
      leads-both w i k.primary k (5 * length members) (recovery_weight members) (record { at = refl; is = refl })
      (omega (arith, sent, few, twice-is (length k.dials), thrice-is (length k.dials))) (omega arith)

  begins-as : (t : Told) (i : ℕ) (at : Place) (b : BlockId) (members : List NodeId) (answers : List Bool) → IfSome (begins_as t w i at b members answers) (λ k. LowersLeading w (apply w k) i (recovery_weight members))
  begins-as (Ok (office.Begun begun)) i at b members answers = begins-both i at b begun members (dials_answered w members answers)
  begins-as (Ok (office.Stamp s)) i at b members answers = tt
  begins-as (Ok (office.Reopened r)) i at b members answers = tt
  begins-as (Ok office.Nothing) i at b members answers = tt
  begins-as (Err fault) i at b members answers =
      quiet-both w i (has_led (office_refused fault)) (primary_change w i (has_led (office_refused fault))) (recovery_weight members) (record { at = refl; is = refl })
      (record { dials = refl; downs = λ d. refl; ups = λ d. refl; lower = refl; replica = refl }) (omega arith)

  begins-at : (p : Primary) (i n : ℕ) (b : BlockId) (members : List NodeId) (answers : List Bool) → IfSome (begins_at p w i n b members answers) (λ k. LowersLeading w (apply w k) i (recovery_weight members))
  begins-at no_primary i n b members answers = tt
  begins-at (was_told asked told) i n b members answers =
      when-each (λ k. LowersLeading w (apply w k) i (recovery_weight members)) (asked.0 == b.0 && w.running n && are_members members) (begins_as told w i (place_of w n) b members answers)
      (λ e. begins-as told i (place_of w n) b members answers)
  begins-at (leads l) i n b members answers = tt
  begins-at (has_led r) i n b members answers = tt

  pub own-recover-both : (i n : ℕ) (b : BlockId) (members : List NodeId) (answers : List Bool) → IfSome (own_recover w i n b members answers) (λ k. LowersLeading w (apply w k) i (recovery_weight members))
  own-recover-both i n b members answers = begins-at (w.primaries i) i n b members answers

-- ITS FURTHER STEPS

weighs-as : (w : World) (i : ℕ) (p : Primary) → w.primaries i ≡ p → primary_weight (w.primaries i) ≡ primary_weight p
weighs-as w i p is = ap primary_weight is

ends-both : (w : World) (i : ℕ) (l : Leading) (r : Recovered) → w.primaries i ≡ leads l → 1 ≤ state_weight l.state → LowersLeading w (apply w (ends_change w i l r)) i 0
ends-both w i l r is pays =
    quiet-both w i (has_led r) (ends_change w i l r) 0 (record { at = refl; is = refl }) (record { dials = refl; downs = λ d. refl; ups = λ d. refl; lower = refl; replica = refl })
    (omega (arith, weighs-as w i (leads l) is, pays))

updates-both : (w : World) (i : ℕ) (l : Leading) (p : PrimaryState) (c : Chosen) → AllBegun w → w.primaries i ≡ leads l → state_weight p + 3 * length l.state.members + 1 ≤ state_weight l.state
    → LowersLeading w (apply w (updates_change w i l p c)) i 0
updates-both w i l p c begun is pays =
    let k : Change = updates_change w i l p c in
    let m : Message = request (op.Recovery (request_of l.state kind.Update c.length)) in
    let sent = sends-updates w m (λ h. omega arith) c.members k (zip l.state.members l.conns) begun (record { dials = refl; downs = λ d. refl; ups = λ d. refl; lower = refl; replica = refl }) in
    leads-both w i k.primary k (3 * length l.state.members) 0 (record { at = refl; is = refl }) (omega (arith, sent, zip-fewer l.state.members l.conns)) (omega (arith, pays, weighs-as w i (leads l) is))

step-both : (s : OwnStep) (w : World) (i : ℕ) (l : Leading) (p : PrimaryState) → AllBegun w → w.primaries i ≡ leads l → PaysFor l.state s p → IfSome (leads_step s w i l p) (λ k. LowersLeading w (apply w k) i 0)
step-both own.Waits w i l p begun is pays = tt
step-both (own.Updates c) w i l p begun is pays = updates-both w i l p c begun is pays
step-both (own.Commits c) w i l p begun is pays = tt
step-both (own.Ends r) w i l p begun is pays = ends-both w i l r is pays

commits-both : (s : OwnStep) (w : World) (i : ℕ) (l : Leading) (p : PrimaryState) (t : Told) → w.primaries i ≡ leads l → PaysFor l.state s p → IfSome (commits_step s w i l t) (λ k. LowersLeading w (apply w k) i 0)
commits-both own.Waits w i l p t is pays = tt
commits-both (own.Updates c) w i l p t is pays = tt
commits-both (own.Commits c) w i l p t is pays = ends-both w i l (end_with l.state c t) is pays
commits-both (own.Ends r) w i l p t is pays = tt

told-both : (o : Option Told) (w : World) (i : ℕ) (l : Leading) → AllBegun w → w.primaries i ≡ leads l → IfSome (leads_told o w i l) (λ k. LowersLeading w (apply w k) i 0)
told-both None w i l begun is = step-both (own_step l.state).does w i l (own_step l.state).primary begun is (step-pays l.state)
told-both (Some t) w i l begun is = commits-both (own_step l.state).does w i l (own_step l.state).primary t is (step-pays l.state)

own-as : (p : Primary) (w : World) (i : ℕ) → AllBegun w → w.primaries i ≡ p → IfSome (own_primary_as p w i) (λ k. LowersLeading w (apply w k) i 0)
own-as no_primary w i begun is = tt
own-as (was_told b t) w i begun is = tt
own-as (leads l) w i begun is = when-each (λ k. LowersLeading w (apply w k) i 0) (is_alive w l.at) _ (λ _. told-both l.told w i l begun is)
own-as (has_led r) w i begun is = tt

pub own-primary-both : (w : World) (i : ℕ) → AllBegun w → IfSome (own_primary w i) (λ k. LowersLeading w (apply w k) i 0)
own-primary-both w i begun = own-as (w.primaries i) w i begun refl

-- WHAT IT TAKES

-- nothing is sent, and the primary weighs no more
abbrev pub Hears : World → ℕ → Change → Type 0
Hears w i k = KeepsLeading w (apply w k) i

hears-keeps : (w : World) (i : ℕ) (l : Leading) (place c : ℕ) (x : Next) (o : Option Standing) → w.primaries i ≡ leads l → IfSome (hears_change w i l place c x o) (Hears w i)
hears-keeps w i l place c x None is = tt
hears-keeps w i l place c x (Some s) is =
    when-each (Hears w i) (listens l.state.phase s) _
    (λ _. quiet-keeps-leading w i (leads (record l { state = heard_at l.state place (heard_of x) })) _ (record { at = refl; is = refl })
    (record { dials = refl; downs = λ d. refl; ups = λ d. refl; lower = refl; replica = refl }) (omega (arith, heard-weighs l.state place (heard_of x), weighs-as w i (leads l) is)))

up-as-keeps : (p : Primary) (w : World) (i place c : ℕ) (x : Next) → w.primaries i ≡ p → IfSome (primary_up_as p w i place c x) (Hears w i)
up-as-keeps no_primary w i place c x is = tt
up-as-keeps (was_told b t) w i place c x is = tt
up-as-keeps (leads l) w i place c x is =
    when-each (Hears w i) (is_alive w l.at && is_none l.told) _ (λ _. hears-keeps w i l place c x (slice_get l.state.standings place) is)
up-as-keeps (has_led r) w i place c x is = tt

pub primary-up-keeps : (w : World) (i place c : ℕ) (x : Next) → IfSome (primary_up w i place c x) (Hears w i)
primary-up-keeps w i place c x = up-as-keeps (w.primaries i) w i place c x refl

-- THE OFFICE

asked-keeps : (w : World) (i : ℕ) (q : OfficeCall) (p : Told → Primary) → primary_weight (p (answer_to w.office q)) ≤ primary_weight (w.primaries i) → Hears w i (asks_primary w i q p)
asked-keeps w i q p pays =
    quiet-keeps-leading w i (p (answer_to w.office q)) (asks_primary w i q p) (record { at = refl; is = refl }) (record { dials = refl; downs = λ d. refl; ups = λ d. refl; lower = refl; replica = refl }) pays

commits-asked : (s : OwnStep) (w : World) (i : ℕ) (l : Leading) → w.primaries i ≡ leads l → IfSome (primary_commits s w i l) (Hears w i)
commits-asked own.Waits w i l is = tt
commits-asked (own.Updates c) w i l is = tt
commits-asked (own.Commits c) w i l is = asked-keeps w i (sync_call l.state c) (λ told. leads (record l { told = Some told })) (omega (arith, weighs-as w i (leads l) is))
commits-asked (own.Ends r) w i l is = tt

pub asks-keep : (p : Primary) (w : World) (i : ℕ) (b : BlockId) → w.primaries i ≡ p → IfSome (primary_asks p w i b) (Hears w i)
asks-keep no_primary w i b is = asked-keeps w i (call.BeginRecovery b) (was_told b) (omega arith)
asks-keep (was_told c t) w i b is = tt
asks-keep (leads l) w i b is = when-each (Hears w i) (is_alive w l.at && is_none l.told) _ (λ _. commits-asked (own_step l.state).does w i l is)
asks-keep (has_led r) w i b is = tt
