-- How a primary that leads, its connections and its members' nodes belong together, and what each event makes of that.
use Rattle.std.proofs.Common.{◌≡◌, ℕ, zero, suc, ◌<◌, ◌≤◌, ◌⊎◌, inl, inr, Bool, true, false, List, [], ◌∷◌, map, length, slice_get, slice_set, Option, Some, None, Result, Ok, Err, refl, sym, ap, ◌∙◌, subst, arith}
use Rattle.std.specs.Prelude.{◌&&◌, zip, cond, IsSome}
use Rattle.std.proofs.lemmas.Option.{none-some, same_Some}
use Rattle.hd_base.specs.declared.numbers.NodeId.{NodeId}
use Rattle.name_core.specs.Choice.{choice}
use Rattle.name_core.specs.declared.calls.OfficeAnswer.TheVariants as office
use Rattle.name_core.specs.declared.choice.ChooseFault.{ChooseFault}
use Rattle.name_core.specs.declared.choice.Chosen.{Chosen}
use Rattle.world.specs.RecoveryCore.OwnStep.TheVariants as own
use Rattle.world.specs.RecoveryCore.Phase.{Phase}
use Rattle.world.specs.RecoveryCore.Phase.TheVariants as phase
use Rattle.world.specs.RecoveryCore.Heard.{Heard}
use Rattle.world.specs.RecoveryCore.Heard.TheVariants as heard
use Rattle.world.specs.RecoveryCore.Standing.{Standing}
use Rattle.world.specs.RecoveryCore.Standing.TheVariants as standing
use Rattle.world.specs.RecoveryCore.Primaries.{OwnTaken, PrimaryState, after_heard, all_after_choice, choosing, committing, heard_as, heard_at, infos, is_among, is_commit, is_success, own_at, own_step, taken, told, updated_members, waits, when_chosen}
use Rattle.world.specs.Parts.{Message, Told, Leading, Primary, was_told, leads}
use Rattle.world.specs.Worlds.{World}
use Rattle.world.specs.Connections.{is_conn}
use Rattle.world.specs.Primaries.{updates_on}
use Rattle.world_orders.proofs.Kept.{eqb-itself}
use Rattle.world_recovery_ends.proofs.Conns.{CarriesAt, Goes}

-- A LEADING PRIMARY

-- The member at a place of the list was reached, and the primary hasn't taken the end from it.
pub record IsOpen (w : World) (conns : List (Option ℕ)) (place : ℕ) : Type 0 where
  pub conn : ℕ
  pub there : slice_get conns place ≡ Some (Some conn)
  pub unended : (w.up_marks conn).over ≡ false

-- And it awaits an answer: it has taken fewer than it has sent requests.
pub record Awaits (w : World) (conns : List (Option ℕ)) (place : ℕ) : Type 0 where
  pub from : IsOpen w conns place
  pub more : (w.up_marks from.conn).taken < length (w.downs from.conn)

abbrev pub Stands : World → List (Option ℕ) → ℕ → Standing → Type 0
Stands w conns place standing.Unreached = Unit {0}
Stands w conns place standing.Asked = Awaits w conns place
Stands w conns place (standing.Told state stamp bytes false) = IsOpen w conns place
Stands w conns place (standing.Told state stamp bytes true) = Unit {0}
Stands w conns place standing.Out = Unit {0}
Stands w conns place standing.Updating = Awaits w conns place
Stands w conns place standing.Updated = Unit {0}

-- nothing more is sent to members
abbrev pub is_over : Phase → Bool
is_over phase.Over = true
is_over other = false

pub record LeadingFits (w : World) (l : Leading) : Type 0 where
  pub came : l.at.life ≤ w.lives l.at.node
  pub unfinished : is_over l.state.phase ≡ false
  pub answered : IsSome l.told → is_commit (own_step l.state).does ≡ true
  pub conns : (place c : ℕ) → slice_get l.conns place ≡ Some (Some c) → CarriesAt w c
  pub stands : (place : ℕ) (s : Standing) → slice_get l.state.standings place ≡ Some s → Stands w l.conns place s

-- what the office answers to a beginning: the recovery begins, or is refused
abbrev pub AnswersBeginning : Told → Type 0
AnswersBeginning (Ok (office.Begun begun)) = Unit {0}
AnswersBeginning (Ok other) = ⊥
AnswersBeginning (Err fault) = Unit {0}

abbrev pub PrimaryFits : World → Primary → Type 0
PrimaryFits w (was_told block told) = AnswersBeginning told
PrimaryFits w (leads l) = LeadingFits w l
PrimaryFits w other = Unit {0}

-- WHERE OTHERS ACT

pub open-later : (w v : World) (conns : List (Option ℕ)) (place : ℕ) → ((c : ℕ) → slice_get conns place ≡ Some (Some c) → (v.up_marks c).over ≡ (w.up_marks c).over) → IsOpen w conns place → IsOpen v conns place
open-later w v conns place over h = record { conn = h.conn; there = h.there; unended = over h.conn h.there ∙ h.unended }

pub awaits-later : (w v : World) (conns : List (Option ℕ)) (place : ℕ) → ((c : ℕ) → slice_get conns place ≡ Some (Some c) → Goes w v c) → Awaits w conns place → Awaits v conns place
unfolding open-later
awaits-later w v conns place goes h =
    let g = goes h.from.conn h.from.there in
    let more : (v.up_marks h.from.conn).taken < length (v.downs h.from.conn) = omega (arith, g.taken, g.downs, h.more) in
    record { from = open-later w v conns place (λ c e. (goes c e).over) h.from; more = more }

pub stands-later : (w v : World) (conns : List (Option ℕ)) (place : ℕ) (s : Standing) → ((c : ℕ) → slice_get conns place ≡ Some (Some c) → Goes w v c) → Stands w conns place s → Stands v conns place s
stands-later w v conns place standing.Unreached goes h = tt
stands-later w v conns place standing.Asked goes h = awaits-later w v conns place goes h
stands-later w v conns place (standing.Told state stamp bytes false) goes h = open-later w v conns place (λ c e. (goes c e).over) h
stands-later w v conns place (standing.Told state stamp bytes true) goes h = tt
stands-later w v conns place standing.Out goes h = tt
stands-later w v conns place standing.Updating goes h = awaits-later w v conns place goes h
stands-later w v conns place standing.Updated goes h = tt

pub leading-later : (w v : World) (l : Leading) → ((n : ℕ) → w.lives n ≤ v.lives n) → ((place c : ℕ) → slice_get l.conns place ≡ Some (Some c) → Goes w v c) → LeadingFits w l → LeadingFits v l
leading-later w v l lives goes h = record {
  came = omega (arith, h.came, lives l.at.node);
  unfinished = h.unfinished;
  answered = h.answered;
  conns = λ place c e. (goes place c e).carries;
  stands = λ place s e. stands-later w v l.conns place s (goes place) (h.stands place s e);
}

-- LISTS

-- what stands in a list at a place, of which a function makes this
pub record MappedAt {A B : Type 0} (f : A → B) (xs : List A) (k : ℕ) (y : B) : Type 0 where
  pub from : A
  pub there : slice_get xs k ≡ Some from
  pub is : f from ≡ y

pub mapped-at : {A B : Type 0} (f : A → B) (xs : List A) (k : ℕ) (y : B) → slice_get (map f xs) k ≡ Some y → MappedAt f xs k y
mapped-at f [] k y e = absurd (none-some y e)
mapped-at f (x ∷ xs) zero y e = record { from = x; there = refl; is = same_Some (f x) y e }
mapped-at f (x ∷ xs) (suc k) y e =
    let m = mapped-at f xs k y e in
    record { from = m.from; there = m.there; is = m.is }

pub record ZippedAt {A B : Type 0} (xs : List A) (ys : List B) (k : ℕ) (z : A × B) : Type 0 where
  pub left : slice_get xs k ≡ Some z.0
  pub right : slice_get ys k ≡ Some z.1

pub zipped-at : {A B : Type 0} (xs : List A) (ys : List B) (k : ℕ) (z : A × B) → slice_get (zip xs ys) k ≡ Some z → ZippedAt xs ys k z
zipped-at [] ys k z e = absurd (none-some z e)
zipped-at (x ∷ xs) [] k z e = absurd (none-some z e)
zipped-at {A} {B} (x ∷ xs) (y ∷ ys) zero z e = subst (λ (p : A × B). ZippedAt (x ∷ xs) (y ∷ ys) zero p) (same_Some (x, y) z e) (record { left = refl; right = refl })
zipped-at (x ∷ xs) (y ∷ ys) (suc k) z e =
    let p = zipped-at xs ys k z e in
    record { left = p.left; right = p.right }

-- what stands in a list of which one element was set
pub set-at : {A : Type 0} (xs : List A) (at : ℕ) (x : A) (k : ℕ) (y : A) → slice_get (slice_set xs at x) k ≡ Some y → ((k ≡ at) × (x ≡ y)) ⊎ ((k ≡ at → ⊥) × (slice_get xs k ≡ Some y))
set-at [] at x k y e = absurd (none-some y e)
set-at (z ∷ zs) zero x zero y e = inl (refl, same_Some x y e)
set-at (z ∷ zs) zero x (suc k) y e = inr ((λ q. absurd (omega (arith, q))), e)
set-at (z ∷ zs) (suc at) x zero y e = inr ((λ q. absurd (omega (arith, q))), e)
set-at (z ∷ zs) (suc at) x (suc k) y e = go (set-at zs at x k y e)
  where
    go : ((k ≡ at) × (x ≡ y)) ⊎ ((k ≡ at → ⊥) × (slice_get zs k ≡ Some y)) → ((suc k ≡ suc at) × (x ≡ y)) ⊎ ((suc k ≡ suc at → ⊥) × (slice_get zs k ≡ Some y))
    go (inl p) = inl (ap suc p.0, p.1)
    go (inr p) = inr ((λ q. p.0 (omega (arith, q))), p.1)

-- THE CHOICE

-- A step in which the UPDATE is sent: it is awaited at each chosen member that told of its replica.
abbrev pub Updates : OwnTaken → PrimaryState → Chosen → Type 0
Updates t p c = (is_over t.primary.phase ≡ false) × (t.primary.standings ≡ all_after_choice c.members p.members p.standings)

choosing-so : (p : PrimaryState) (c : Chosen) (r : Result Chosen ChooseFault) → (choosing p r).does ≡ own.Updates c → Updates (choosing p r) p c
choosing-so p c (Ok d) e = (refl, ap (λ (x : Chosen). all_after_choice x.members p.members p.standings) (same d e))
  where
    same : (d : Chosen) → own.Updates d ≡ own.Updates c → d ≡ c
    same d q = cc
choosing-so p c (Err f) e = cc

committing-so : (p : PrimaryState) (bytes : ℕ) (nodes : List NodeId) (c : Chosen) → (committing p bytes nodes).does ≡ own.Updates c → ⊥
committing-so p bytes [] c e = cc
committing-so p bytes (n ∷ nodes) c e = cc

own-at-so : (q : Phase) (p : PrimaryState) (c : Chosen) → (own_at q p).does ≡ own.Updates c → Updates (own_at q p) p c
own-at-so phase.Informing p c e = choosing-so p c (choice p.begun.committed (infos p.members p.standings)) e
own-at-so (phase.Updating bytes) p c e = absurd (committing-so p bytes (updated_members p.members p.standings) c e)
own-at-so phase.Over p c e = cc

pub updates-so : (p : PrimaryState) (c : Chosen) → (own_step p).does ≡ own.Updates c → Updates (own_step p) p c
updates-so p c e = go (waits p.standings) e
  where
    go : (b : Bool) → (cond b (taken p own.Waits) (own_at p.phase p)).does ≡ own.Updates c → Updates (cond b (taken p own.Waits) (own_at p.phase p)) p c
    go true q = cc
    go false q = own-at-so p.phase p c q

-- how it stands with a member behind the choice
pub chosen-stands : (w v : World) (conns : List (Option ℕ)) (place : ℕ) (b : Bool) (s : Standing) → (b ≡ true → IsOpen w conns place → Awaits v conns place) → Stands w conns place s → Stands v conns place (cond b (when_chosen s) standing.Out)
chosen-stands w v conns place false s f h = tt
chosen-stands w v conns place true standing.Unreached f h = tt
chosen-stands w v conns place true standing.Asked f h = tt
chosen-stands w v conns place true (standing.Told state stamp bytes false) f h = f refl h
chosen-stands w v conns place true (standing.Told state stamp bytes true) f h = tt
chosen-stands w v conns place true standing.Out f h = tt
chosen-stands w v conns place true standing.Updating f h = tt
chosen-stands w v conns place true standing.Updated f h = tt

-- a chosen member is sent something
pub sent-one : (m : Message) (chosen ns : List NodeId) (conns : List (Option ℕ)) (place c : ℕ) (n : NodeId) → slice_get ns place ≡ Some n → slice_get conns place ≡ Some (Some c) → is_among chosen n ≡ true → 0 < length (updates_on m chosen (zip ns conns) c)
sent-one m chosen [] conns place c n e f a = absurd (none-some n e)
sent-one m chosen (x ∷ ns) [] place c n e f a = absurd (none-some (Some c) f)
sent-one m chosen (x ∷ ns) (o ∷ conns) zero c n e f a =
    let first : is_among chosen x ≡ true = ap (is_among chosen) (same_Some x n e) ∙ a in
    let on : is_conn o c ≡ true = ap (λ (q : Option ℕ). is_conn q c) (same_Some o (Some c) f) ∙ eqb-itself c in
    rw first (rw on (omega arith))
sent-one m chosen (x ∷ ns) (o ∷ conns) (suc place) c n e f a = go (is_among chosen x && is_conn o c) (sent-one m chosen ns conns place c n e f a)
  where
    go : (b : Bool) → 0 < length (updates_on m chosen (zip ns conns) c) → 0 < length (cond b (m ∷ []) (updates_on m chosen (zip ns conns) c))
    go true h = omega arith
    go false h = h

-- WHAT IT HEARS

-- it was an answer
abbrev pub is_answer : Heard → Bool
is_answer (heard.Answer a) = true
is_answer other = false

-- A member of which an answer is awaited, or may still be, is heard.
pub heard-stands : (w v : World) (conns : List (Option ℕ)) (place : ℕ) (s : Standing) (h : Heard) → (is_answer h ≡ true → IsOpen w conns place → IsOpen v conns place) → Stands w conns place s → Stands v conns place (after_heard s h)
heard-stands w v conns place standing.Unreached h f x = tt
heard-stands w v conns place standing.Asked (heard.Answer a) f x = go (is_success a.status) a.info
  where
    go : (b : Bool) (i : _) → Stands v conns place (cond b (told i) standing.Out)
    go false i = tt
    go true None = tt
    go true (Some (state, stamp, bytes)) = f refl x.from
heard-stands w v conns place standing.Asked heard.Unreadable f x = tt
heard-stands w v conns place standing.Asked heard.End f x = tt
heard-stands w v conns place (standing.Told state stamp bytes false) (heard.Answer a) f x = f refl x
heard-stands w v conns place (standing.Told state stamp bytes false) heard.Unreadable f x = tt
heard-stands w v conns place (standing.Told state stamp bytes false) heard.End f x = tt
heard-stands w v conns place (standing.Told state stamp bytes true) (heard.Answer a) f x = tt
heard-stands w v conns place (standing.Told state stamp bytes true) heard.Unreadable f x = tt
heard-stands w v conns place (standing.Told state stamp bytes true) heard.End f x = tt
heard-stands w v conns place standing.Out h f x = tt
heard-stands w v conns place standing.Updating (heard.Answer a) f x = go (is_success a.status)
  where
    go : (b : Bool) → Stands v conns place (cond b standing.Updated standing.Out)
    go true = tt
    go false = tt
heard-stands w v conns place standing.Updating heard.Unreadable f x = tt
heard-stands w v conns place standing.Updating heard.End f x = tt
heard-stands w v conns place standing.Updated h f x = tt

-- how it stands with the members then
pub heard-at-stands : (w v : World) (l : Leading) (at : ℕ) (h : Heard) → ((place : ℕ) (s : Standing) → (place ≡ at → ⊥) → Stands w l.conns place s → Stands v l.conns place s)
    → (is_answer h ≡ true → IsOpen w l.conns at → IsOpen v l.conns at)
    → ((place : ℕ) (s : Standing) → slice_get l.state.standings place ≡ Some s → Stands w l.conns place s)
    → (place : ℕ) (s : Standing) → slice_get (heard_at l.state at h).standings place ≡ Some s → Stands v l.conns place s
heard-at-stands w v l at h others here x place s e = go (slice_get l.state.standings at) refl e
  where
    go : (o : Option Standing) → slice_get l.state.standings at ≡ o → slice_get (heard_as l.state at h o).standings place ≡ Some s → Stands v l.conns place s
    go None q f = apart f
      where
        apart : slice_get l.state.standings place ≡ Some s → Stands v l.conns place s
        apart f = others place s (λ p. none-some s (sym q ∙ ap (slice_get l.state.standings) (sym p) ∙ f)) (x place s f)
    go (Some t) q f = set (set-at l.state.standings at (after_heard t h) place s f)
      where
        set : ((place ≡ at) × (after_heard t h ≡ s)) ⊎ ((place ≡ at → ⊥) × (slice_get l.state.standings place ≡ Some s)) → Stands v l.conns place s
        set (inl p) = subst (λ (n : ℕ). Stands v l.conns n s) (sym p.0) (subst (Stands v l.conns at) p.1 (heard-stands w v l.conns at t h here (x at t q)))
        set (inr p) = others place s p.0 (x place s p.1)
