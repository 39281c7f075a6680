-- What becomes of a primary in an event in which it acts, asks, or takes what stands next.
use Rattle.std.proofs.Common.{◌≡◌, ℕ, zero, suc, ◌<◌, ◌≤◌, ◌+◌, Bool, true, false, List, [], ◌∷◌, ◌++◌, length, slice_get, Option, Some, None, IfSome, Ok, Err, refl, sym, ap, ◌∙◌, subst, arith, append-nil, length-append, eqb-true}
use Rattle.std.specs.Prelude.{◌==◌, ◌&&◌, is_none, zip, option_map}
use Rattle.std.proofs.lemmas.Option.{none-some, same_Some}
use Rattle.hd_base.specs.declared.numbers.BlockId.{BlockId}
use Rattle.hd_base.specs.declared.numbers.NodeId.{NodeId}
use Rattle.name_core.specs.declared.calls.Begun.{Begun}
use Rattle.name_core.specs.declared.calls.OfficeAnswer.TheVariants as office
use Rattle.name_core.specs.declared.calls.OfficeCall.TheVariants as call
use Rattle.name_core.specs.declared.choice.Chosen.{Chosen}
use Rattle.name_core.specs.Offices.{OfficeState, answer_to, answering, begin_case, office_case}
use Rattle.name_core.specs.Steps.{Step, reply}
use Rattle.world.specs.OpHeaders.Op.TheVariants as op
use Rattle.world.specs.OpHeaders.RecoveryKind.TheVariants as kind
use Rattle.world.specs.RecoveryCore.OwnStep.{OwnStep}
use Rattle.world.specs.RecoveryCore.OwnStep.TheVariants as own
use Rattle.world.specs.RecoveryCore.Recovered.{Recovered}
use Rattle.world.specs.RecoveryCore.Primaries.{PrimaryState, begun_with, heard_at, is_commit, own_step, request_of, sync_call}
use Rattle.world.specs.declared.events.Event.{Event}
use Rattle.world.specs.declared.events.Event.TheVariants as event
use Rattle.world.specs.declared.events.OwnStep.TheVariants as step
use Rattle.world.specs.Parts.{Message, request, by_primary, Place, Dialled, Marks, new_marks, Lower, idle, Told, Leading, Primary, no_primary, was_told, leads, has_led}
use Rattle.world.specs.Worlds.{World, Change, Dial, apply, put, dialled_with, downs_with, listed, dial_at}
use Rattle.world.specs.Connections.{Next, is_alive, place_of}
use Rattle.world.specs.Clients.{are_members}
use Rattle.world.specs.Primaries.{numbered, dials_answered, primary_dials, recovery_message, leading, begins_with, begins_as, begins_at, updates_on, updates_change, leads_step, commits_step, leads_told, own_primary_as, heard_of, asks_primary, primary_commits, primary_asks}
use Rattle.world_laws.specs.Placing.{Placed}
use Rattle.world_laws.proofs.FactTables.{when-each, and-left, and-right}
use Rattle.world_orders.proofs.Kept.{eqb-itself}
use Rattle.world_orders.proofs.Lists.{dial-here, dialled-here}
use Rattle.world_readings.proofs.Keeping.{put-here, put-else, put-same}
use Rattle.world_recovery_ends.proofs.Conns.{Carries, CarriesAt}
use Rattle.world_recovery_ends.proofs.ConnEvents.{takes_from}
use Rattle.world_recovery_ends.proofs.Leading.{AnswersBeginning, is_answer}

-- WHAT BECOMES OF IT

-- the office answers in the event
abbrev pub is_office : Event → Bool
is_office (event.Office c) = true
is_office other = false

-- a primary begins in the event at this node
abbrev pub BeginsAt : Event → ℕ → Type 0
BeginsAt (event.Own (step.Recover i m b members answers)) n = n ≡ m.0
BeginsAt other n = ⊥

-- A new connection of a primary: its request wasn't taken.
pub record IsFresh (v : World) (c : ℕ) : Type 0 where
  pub carries : CarriesAt v c
  pub unended : (v.up_marks c).over ≡ false
  pub more : (v.up_marks c).taken < length (v.downs c)

-- The primary led, at a node that lives on.
pub record Led (w : World) (i : ℕ) (l : Leading) : Type 0 where
  pub is : w.primaries i ≡ leads l
  pub alive : is_alive w l.at ≡ true

-- the messages that its step sends on a connection where it updates these
abbrev pub updates_of : Leading → Chosen → ℕ → List Message
updates_of l c d = updates_on (request (op.Recovery (request_of l.state kind.Update c.length))) c.members (zip l.state.members l.conns) d

-- It was told what the office answers to its beginning; or has its result; or begins; or has asked the office to commit; or
-- has sent the UPDATE; or has heard a member.
pub data Becomes (w : World) (e : Event) (v : World) (i : ℕ) : Type 0 where
  told : (b : BlockId) (t : Told) → is_office e ≡ true → AnswersBeginning t → v.primaries i ≡ was_told b t → Becomes w e v i
  ends : (r : Recovered) → v.primaries i ≡ has_led r → Becomes w e v i
  begins : (n : ℕ) (b : BlockId) (begun : Begun) (members : List NodeId) (bs : List Bool) → BeginsAt e n → w.running n ≡ true
      → v.primaries i ≡ leads (leading (place_of w n) (begun_with b begun members bs) (numbered w.next_conn bs))
      → ((place c : ℕ) → slice_get (numbered w.next_conn bs) place ≡ Some (Some c) → IsFresh v c) → Becomes w e v i
  asks : (l : Leading) (t : Told) → Led w i l → is_commit (own_step l.state).does ≡ true → is_office e ≡ true → ((d : ℕ) → takes_from e d ≡ false) → v.primaries i ≡ leads (record l { told = Some t }) → Becomes w e v i
  updates : (l : Leading) (c : Chosen) → Led w i l → l.told ≡ None → (own_step l.state).does ≡ own.Updates c → ((d : ℕ) → takes_from e d ≡ false) → v.primaries i ≡ leads (record l { state = (own_step l.state).primary })
      → ((d : ℕ) → length (w.downs d) + length (updates_of l c d) ≤ length (v.downs d)) → Becomes w e v i
  hears : (l : Leading) (place c : ℕ) (x : Next) → Led w i l → l.told ≡ None → (w.dialled c).upper ≡ by_primary i place
      → v.primaries i ≡ leads (record l { state = heard_at l.state place (heard_of x) }) → (CarriesAt w c → CarriesAt v c)
      → (is_answer (heard_of x) ≡ true → (v.up_marks c).over ≡ (w.up_marks c).over) → ((d : ℕ) → takes_from e d ≡ (d == c)) → Becomes w e v i

-- No other changes.
pub record Acted (w : World) (e : Event) (v : World) (i : ℕ) : Type 0 where
  pub becomes : Becomes w e v i
  pub others : (j : ℕ) → (j ≡ i → ⊥) → v.primaries j ≡ w.primaries j

abbrev pub named : World → Event → World
named v e = record v { last = Some e }

-- WHAT THE OFFICE ANSWERS

begun-answers : (s : Step OfficeState Begun) → AnswersBeginning (reply (answering office.Begun s))
begun-answers (Ok g) = tt
begun-answers (Err e) = tt

begin-answers : (o : OfficeState) (b : BlockId) → AnswersBeginning (answer_to o (call.BeginRecovery b))
unfolding office_case
begin-answers o b = begun-answers (begin_case o b)

-- THE OTHERS

other-false : (j i : ℕ) → (j ≡ i → ⊥) → (j == i) ≡ false
other-false j i n = go (j == i) refl
  where
    go : (b : Bool) → (j == i) ≡ b → b ≡ false
    go true e = absurd (n (eqb-true j i e))
    go false e = refl

pub others-stay : (w : World) (k : Change) (i j : ℕ) → k.primary_at ≡ i → (j ≡ i → ⊥) → (apply w k).primaries j ≡ w.primaries j
unfolding apply
others-stay w k i j at n = put-else w.primaries k.primary_at k.primary j (subst (λ (m : ℕ). (j == m) ≡ false) (sym at) (other-false j i n))

pub primary-is : (w : World) (k : Change) (i : ℕ) → k.primary_at ≡ i → (apply w k).primaries i ≡ k.primary
unfolding apply
primary-is w k i at = put-here w.primaries k.primary_at k.primary i (subst (λ (m : ℕ). (i == m) ≡ true) (sym at) (eqb-itself i))

module _ (w : World) (e : Event) (i : ℕ) (quiet : (d : ℕ) → takes_from e d ≡ false) where
  -- the change is of this primary, which becomes so
  acted : (k : Change) → k.primary_at ≡ i → Becomes w e (named (apply w k) e) i → Acted w e (named (apply w k) e) i
  acted k at b = record { becomes = b; others = λ j n. others-stay w k i j at n }

  abbrev Makes : Change → Type 0
  Makes k = Acted w e (named (apply w k) e) i

  ended-makes : (k : Change) (r : Recovered) → k.primary_at ≡ i → k.primary ≡ has_led r → Makes k
  ended-makes k r at is = acted k at (ends r (primary-is w k i at ∙ is))

  -- ITS FIRST STEP

  -- the dial that has a member's connection
  record DialOf (next c : ℕ) (dials : List Dial) : Type 0 where
    number : ℕ
    is : c ≡ next + number
    dial : Dial
    found : slice_get dials number ≡ Some dial
    lives : is_alive w dial.dialled.to ≡ true

  dial-of : (at : Place) (m : Message) (place next : ℕ) (ns : List NodeId) (answers : List Bool) (j c : ℕ) → slice_get (numbered next (dials_answered w ns answers)) j ≡ Some (Some c) → DialOf next c (primary_dials w i at m place ns (dials_answered w ns answers))
  dial-of at m place next [] answers j c f = absurd (none-some (Some c) f)
  dial-of at m place next (n ∷ ns) [] zero c f = absurd (none-some c (same_Some None (Some c) f))
  dial-of at m place next (n ∷ ns) [] (suc j) c f =
      let d = dial-of at m (place + 1) next ns [] j c f in
      record { number = d.number; is = d.is; dial = d.dial; found = d.found; lives = d.lives }
  dial-of at m place next (n ∷ ns) (a ∷ answers) j c f = go (a && w.running n.0) refl (λ h x. dial-of at m (place + 1) h ns answers x c) j f
    where
      there : (a && w.running n.0) ≡ true → is_alive w (place_of w n.0) ≡ true
      there e = rw (and-right a (w.running n.0) e) (eqb-itself (w.lives n.0))

      Behind : Type 0
      Behind = (h x : ℕ) → slice_get (numbered h (dials_answered w ns answers)) x ≡ Some (Some c) → DialOf h c (primary_dials w i at m (place + 1) ns (dials_answered w ns answers))

      go : (b : Bool) → (a && w.running n.0) ≡ b → Behind → (j : ℕ) → slice_get (numbered next (b ∷ dials_answered w ns answers)) j ≡ Some (Some c) → DialOf next c (primary_dials w i at m place (n ∷ ns) (b ∷ dials_answered w ns answers))
      go true q behind zero f = record { number = 0; is = omega (arith, same_Some next c (same_Some (Some next) (Some c) f)); dial = _; found = refl; lives = there q }
      go true q behind (suc j) f =
          let d = behind (next + 1) j f in
          record { number = suc d.number; is = omega (arith, d.is); dial = d.dial; found = d.found; lives = d.lives }
      go false q behind zero f = absurd (none-some c (same_Some None (Some c) f))
      go false q behind (suc j) f =
          let d = behind next j f in
          record { number = d.number; is = d.is; dial = d.dial; found = d.found; lives = d.lives }

  fresh-carries : (downs : List Message) → Carries idle downs [] 0 new_marks true
  fresh-carries downs = record { below = (refl, refl); within = omega arith; marked = record { within = omega arith; end = tt }; stopped = λ q. cc }

  fresh-conn : (p : Placed w) (at : Place) (b : BlockId) (begun : Begun) (members : List NodeId) (answers : List Bool) (place c : ℕ) → slice_get (numbered w.next_conn (dials_answered w members answers)) place ≡ Some (Some c)
      → IsFresh (named (apply w (begins_with w i at b begun members (dials_answered w members answers))) e) c
  unfolding apply
  fresh-conn p at b begun members answers place c f =
      let bs = dials_answered w members answers in
      let k = begins_with w i at b begun members bs in
      let d = dial-of at (recovery_message (begun_with b begun members bs)) 0 w.next_conn members answers place c f in
      let u = p.undialled c (omega (arith, d.is)) in
      let dialled : dialled_with w k c ≡ d.dial.dialled = dialled-here w k c d.number d.dial d.is d.found in
      let sent : dial_at w.next_conn k.dials c ≡ Some d.dial = dial-here w.next_conn c d.number k.dials d.dial d.is d.found in
      let some : 0 < length (downs_with w k c) = subst (λ (o : Option Dial). 0 < length ((w.downs c ++ []) ++ listed (option_map (λ (x : Dial). x.request) o))) (sym sent) (omega (arith, length-append (w.downs c ++ []) (d.dial.request ∷ []))) in
      let lower : put w.lowers 0 (w.lowers 0) c ≡ idle = put-same w.lowers 0 (w.lowers 0) c refl ∙ u.lower in
      let lives : is_alive w (dialled_with w k c).to ≡ true = ap (λ (x : Dialled). is_alive w x.to) dialled ∙ d.lives in
      let ups : w.ups c ++ [] ≡ [] = append-nil (w.ups c) ∙ u.ups in
      let one = subst (λ (a : Bool). Carries idle (downs_with w k c) [] 0 new_marks a) (sym lives) (fresh-carries (downs_with w k c)) in
      let two = subst (λ (m : Marks). Carries idle (downs_with w k c) [] 0 m (is_alive w (dialled_with w k c).to)) (sym u.up_marks) one in
      let three = subst (λ (m : Marks). Carries idle (downs_with w k c) [] m.taken (w.up_marks c) (is_alive w (dialled_with w k c).to)) (sym u.down_marks) two in
      let four = subst (λ (ms : List Message). Carries idle (downs_with w k c) ms (w.down_marks c).taken (w.up_marks c) (is_alive w (dialled_with w k c).to)) (sym ups) three in
      record {
        carries = subst (λ (l : Lower). Carries l (downs_with w k c) (w.ups c ++ []) (w.down_marks c).taken (w.up_marks c) (is_alive w (dialled_with w k c).to)) (sym lower) four;
        unended = ap (λ (m : Marks). m.over) u.up_marks;
        more = omega (arith, some, ap (λ (m : Marks). m.taken) u.up_marks);
      }

  begins-as-makes : (p : Placed w) (t : Told) (n : ℕ) (b : BlockId) (members : List NodeId) (answers : List Bool) → BeginsAt e n → w.running n ≡ true → IfSome (begins_as t w i (place_of w n) b members answers) Makes
  begins-as-makes p (Ok (office.Stamp s)) n b members answers at r = tt
  begins-as-makes p (Ok (office.Reopened x)) n b members answers at r = tt
  begins-as-makes p (Ok (office.Begun begun)) n b members answers at r =
      let bs = dials_answered w members answers in
      let k = begins_with w i (place_of w n) b begun members bs in
      acted k refl (begins n b begun members bs at r (primary-is w k i refl) (fresh-conn p (place_of w n) b begun members answers))
  begins-as-makes p (Ok office.Nothing) n b members answers at r = tt
  begins-as-makes p (Err fault) n b members answers at r = ended-makes _ _ refl refl

  pub begins-at-makes : (p : Placed w) (q : Primary) (n : ℕ) (b : BlockId) (members : List NodeId) (answers : List Bool) → BeginsAt e n → IfSome (begins_at q w i n b members answers) Makes
  begins-at-makes p no_primary n b members answers at = tt
  begins-at-makes p (was_told asked t) n b members answers at =
      when-each Makes (asked.0 == b.0 && w.running n && are_members members) _
      (λ r. begins-as-makes p t n b members answers at (and-right (asked.0 == b.0) (w.running n) (and-left (asked.0 == b.0 && w.running n) (are_members members) r)))
  begins-at-makes p (leads l) n b members answers at = tt
  begins-at-makes p (has_led r) n b members answers at = tt

  -- ITS FURTHER STEPS

  updates-longer : (l : Leading) (p : PrimaryState) (c : Chosen) (d : ℕ) → length (w.downs d) + length (updates_of l c d) ≤ length ((apply w (updates_change w i l p c)).downs d)
  unfolding apply
  updates-longer l p c d =
      let k = updates_change w i l p c in
      omega (arith, length-append (w.downs d) (updates_of l c d), length-append (w.downs d ++ updates_of l c d) (listed (option_map (λ (x : Dial). x.request) (dial_at w.next_conn k.dials d))))

  step-makes : (l : Leading) → Led w i l → l.told ≡ None → (s : OwnStep) → (own_step l.state).does ≡ s → IfSome (leads_step s w i l (own_step l.state).primary) Makes
  step-makes l h n own.Waits q = tt
  step-makes l h n (own.Updates c) q =
      let k = updates_change w i l (own_step l.state).primary c in
      acted k refl (updates l c h n q quiet (primary-is w k i refl) (updates-longer l (own_step l.state).primary c))
  step-makes l h n (own.Commits c) q = tt
  step-makes l h n (own.Ends r) q = ended-makes _ _ refl refl

  commits-makes : (s : OwnStep) (l : Leading) (t : Told) → IfSome (commits_step s w i l t) Makes
  commits-makes own.Waits l t = tt
  commits-makes (own.Updates c) l t = tt
  commits-makes (own.Commits c) l t = ended-makes _ _ refl refl
  commits-makes (own.Ends r) l t = tt

  told-makes : (l : Leading) → Led w i l → (o : Option Told) → l.told ≡ o → IfSome (leads_told o w i l) Makes
  told-makes l h None n = step-makes l h n (own_step l.state).does refl
  told-makes l h (Some t) n = commits-makes (own_step l.state).does l t

  pub primary-makes : (q : Primary) → w.primaries i ≡ q → IfSome (own_primary_as q w i) Makes
  primary-makes no_primary is = tt
  primary-makes (was_told b t) is = tt
  primary-makes (leads l) is = when-each Makes (is_alive w l.at) _ (λ a. told-makes l (record { is = is; alive = a }) l.told refl)
  primary-makes (has_led r) is = tt

  -- THE OFFICE

  commit-makes : (l : Leading) → Led w i l → is_office e ≡ true → (s : OwnStep) → (own_step l.state).does ≡ s → IfSome (primary_commits s w i l) Makes
  commit-makes l h o own.Waits q = tt
  commit-makes l h o (own.Updates c) q = tt
  commit-makes l h o (own.Commits c) q =
      let k = asks_primary w i (sync_call l.state c) (λ t. leads (record l { told = Some t })) in
      acted k refl (asks l (answer_to w.office (sync_call l.state c)) h (ap is_commit q) o quiet (primary-is w k i refl))
  commit-makes l h o (own.Ends r) q = tt

  pub asks-makes : is_office e ≡ true → (q : Primary) (b : BlockId) → w.primaries i ≡ q → IfSome (primary_asks q w i b) Makes
  asks-makes o no_primary b is =
      let k = asks_primary w i (call.BeginRecovery b) (was_told b) in
      acted k refl (told b (answer_to w.office (call.BeginRecovery b)) o (begin-answers w.office b) (primary-is w k i refl))
  asks-makes o (was_told c t) b is = tt
  asks-makes o (leads l) b is = when-each Makes (is_alive w l.at && is_none l.told) _ (λ a. commit-makes l (record { is = is; alive = and-left (is_alive w l.at) (is_none l.told) a }) o (own_step l.state).does refl)
  asks-makes o (has_led r) b is = tt
