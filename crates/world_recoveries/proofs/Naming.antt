-- What a change leaves of what recoveries name, and what the office's answers make of it.
use Rattle.std.proofs.Common.{◌≡◌, ℕ, ◌<◌, ◌≤◌, ◌⊎◌, inl, inr, true, false, List, ◌++◌, append-nil, slice_get, Option, Some, None, IfSome, Ok, Err, refl, sym, ◌∙◌, ap, subst, arith, eqb-true}
use Rattle.std.specs.Prelude.{◌==◌, nat_lt}
use Rattle.std.proofs.lemmas.Bool.{false≢true, cases_lt}
use Rattle.std.proofs.lemmas.Bool.Decides.{nat_tests}
use Rattle.std.proofs.lemmas.Option.{none-some}
use Rattle.std.specs.BTreeMap.{is_at}
use Rattle.hd_base.specs.declared.numbers.BlockId.{BlockId}
use Rattle.hd_base.specs.declared.numbers.Stamp.{Stamp}
use Rattle.name_core.specs.declared.calls.OfficeAnswer.{OfficeAnswer}
use Rattle.name_core.specs.declared.calls.OfficeAnswer.TheVariants as office
use Rattle.name_core.specs.declared.faults.OfficeFault.{OfficeFault}
use Rattle.name_core.specs.declared.calls.OfficeCall.{OfficeCall}
use Rattle.name_core.specs.declared.records.BlockRecord.{BlockRecord}
use Rattle.name_core.specs.Offices.{OfficeState, block_order, record_of, with_record, with_new_record, stamp_given, office_case}
use Rattle.name_core.specs.Records.{opened, is_stamp}
use Rattle.name_core.specs.Steps.{Step, reply, state_after}
use Rattle.name_core.proofs.BlockLemmas.{same_or_other, record_of-with_record_same, record_of-with_record_other, record_of-with_new_record_same}
use Rattle.name_core.proofs.CaseLemmas.{each_case}
use Rattle.op_headers.specs.declared.ops.Op.TheVariants as op
use Rattle.op_headers.specs.declared.ops.RecoveryOp.{RecoveryOp}
use Rattle.world_laws.specs.WriterCore.Phase.{Phase}
use Rattle.world_laws.specs.WriterCore.Phase.TheVariants as phase
use Rattle.world_laws.specs.WriterCore.Setup.{Setup}
use Rattle.world_laws.specs.WriterCore.WriterRecord.{WriterRecord}
use Rattle.world_laws.specs.WriterCore.Laws.{Grants, IsGiven}
use Rattle.world_laws.specs.WriterCore.Transitions.{granted}
use Rattle.world_laws.proofs.WriterCore.StampLemmas.{only_the_office_commits}
use Rattle.world_laws.specs.World.Parts.{request, Answered, Told, Writing, Primary, no_primary, was_told, leads, has_led}
use Rattle.world_laws.specs.World.Worlds.{World, Dial, Change, Stamped, put, listed, apply}
use Rattle.world_laws.specs.World.Primaries.{stamped_by}
use Rattle.world_laws.proofs.Sessions.{refused-stamp}
use Rattle.world_laws.specs.World.Safe.{Has}
use Rattle.world_laws.proofs.FactTables.{if-each, put-each, some-weaker}
use Rattle.world_laws.proofs.OfficeSteps.{AsksAs, IsPrimarys}
use Rattle.world_laws.proofs.SetupNodes.{has-split}
use Rattle.world_laws.proofs.StampGranting.{granted-create, granted-append, granted-again, granted-commit, granted-complete}
use Rattle.world_laws.specs.Stamping.{Givens, InPhase, Fits, Entries, HeldOf, Recorded, heard}
use Rattle.world_recoveries.specs.Naming.{known_stamp, IsBefore, IsPast, IsNamed, IsBehind, ToldNamed, PrimaryNamed, RequestNamed, Naming}
use Rattle.world_recoveries.proofs.Histories.{NewDown, was_sent, is_sent, is_dialled, new-down}

-- A CHANGE

-- a writer's committed stamp after a change: as before, or no stamp that was given before is later
abbrev pub Newest : (ℕ → Option ℕ) → WriterRecord → WriterRecord → Type 0
Newest f x y = (y.committed ≡ x.committed) ⊎ ((t e : ℕ) → f t ≡ Some e → t ≤ y.committed.0)

-- the office's record of a block after a change
pub record Behind (w : World) (k : Change) (b : ℕ) (r : BlockRecord) : Type 0 where
  pub known : (heard (put w.writers k.writer_at k.writer b)).committed.0 ≤ r.committed.0
  pub before : known_stamp w b ≤ r.committed.0
  pub answered : (a : Answered) → Has w.answered a → a.block ≡ b → a.stamp ≤ r.committed.0

-- A session begins: no stamp that was given before is later than what its writer knows then, or the office has.
pub record Opens (g : Givens) (w : World) (k : Change) (b : ℕ) : Type 0 where
  pub known : (t e : ℕ) → g b t ≡ Some e → t ≤ (heard (put w.writers k.writer_at k.writer b)).committed.0
  pub office : (t e : ℕ) → g b t ≡ Some e → IfSome (record_of k.office (record { 0 = b })) (λ r. t ≤ r.committed.0)

-- what a change makes of the stamps that are known as committed and answered
pub record Stamps (g l : Givens) (w : World) (k : Change) : Type 0 where
  pub same : (b t e : ℕ) → g b t ≡ Some e → l b t ≡ Some e
  pub back : (b t u s e : ℕ) → l b t ≡ Some s → g b u ≡ Some e → t ≤ u → g b t ≡ Some s
  pub only : (b t s : ℕ) → l b t ≡ Some s → (g b t ≡ Some s) ⊎ (t ≡ w.office.next.0)
  pub opens : (b e : ℕ) → l b e ≡ Some e → (g b e ≡ Some e) ⊎ Opens g w k b
  pub given : (b t e : ℕ) → g b t ≡ Some e → (d : ℕ) × (l b t ≡ Some d)
  pub writer : Newest (g k.writer_at) (heard (w.writers k.writer_at)) (heard k.writer)
  pub answers : IfSome k.answered (λ a. a.stamp ≡ known_stamp w a.block)

pub record Names (g l : Givens) (w : World) (k : Change) : Type 0 where
  pub stamps : Stamps g l w k
  pub office : (b : ℕ) → IfSome (record_of k.office (record { 0 = b })) (Behind w k b)
  pub closes : (b : ℕ) → IfSome (record_of k.office (record { 0 = b })) (λ r. IsPast (l b) r.committed.0)
  pub sent : (c j : ℕ) (q : RecoveryOp) → slice_get (k.downs c) j ≡ Some (request (op.Recovery q)) → RequestNamed g w q
  pub dials : (j : ℕ) (d : Dial) (q : RecoveryOp) → slice_get k.dials j ≡ Some d → d.request ≡ request (op.Recovery q) → RequestNamed g w q
  pub primary : PrimaryNamed l (apply w k) k.primary

answers-more : (P : Answered → Type 0) (xs : List Answered) (o : Option Answered) → ((a : Answered) → Has xs a → P a) → IfSome o P → (a : Answered) → Has (xs ++ listed o) a → P a
answers-more P xs None h n a q = h a (subst (λ (ys : List Answered). Has ys a) (append-nil xs) q)
answers-more P xs (Some x) h n a q = go (has-split xs x a q)
  where
    go : Has xs a ⊎ (x ≡ a) → P a
    go (inl j) = h a j
    go (inr e) = subst P e n

-- the last stamp before a session that had begun was the last one
pub before-back : (g l : Givens) (w : World) (k : Change) (b c e : ℕ) → Stamps g l w k → g b e ≡ Some e → IsBefore (l b) c e → IsBefore (g b) c e
before-back g l w k b c e n old q = record { base = q.base; is = n.back b c e q.base e q.is old (omega (arith, q.less)); less = q.less; last = λ t d x lt. q.last t d (n.same b t d x) lt }

pub past-after : (g l : Givens) (w : World) (k : Change) (b m o : ℕ) → Stamps g l w k → IsPast (g b) m → ((c s : ℕ) → g b c ≡ Some s → c ≤ m → c ≤ o) → (Opens g w k b → (t s : ℕ) → g b t ≡ Some s → t ≤ o) → IsPast (l b) o
past-after g l w k b m o n h up new = record { each = λ c e x q. go c e q (n.only b c q.base q.is) (n.only b e e x) (n.opens b e x) }
  where
    go : (c e : ℕ) (q : IsBefore (l b) c e) → (g b c ≡ Some q.base) ⊎ (c ≡ w.office.next.0) → (g b e ≡ Some e) ⊎ (e ≡ w.office.next.0) → (g b e ≡ Some e) ⊎ Opens g w k b → c ≤ o
    go c e q x y (inl old) = let z = before-back g l w k b c e n old q in up c z.base z.is (h.each c e old z)
    go c e q (inl x) y (inr z) = new z c q.base x
    go c e q (inr x) (inl old) (inr z) = new z c q.base (n.back b c e q.base e q.is old (omega (arith, q.less)))
    go c e q (inr x) (inr y) (inr z) = absurd (omega (arith, x, y, q.less))

-- what a recovery names holds after the change
pub named-after : (g l : Givens) (w : World) (k : Change) (b : ℕ) (named id : Stamp) → Stamps g l w k → IsNamed g w b named id → IsNamed l (apply w k) b named id
unfolding apply
named-after g l w k b named id n h = record {
  session = (n.given b id.0 h.session h.given).0;
  given = (n.given b id.0 h.session h.given).1;
  known = if-each (λ (x : Writing). (heard x).committed.0 < id.0 → (heard x).committed.0 ≤ named.0) (b == k.writer_at) k.writer (w.writers b) (λ e. here (eqb-true b k.writer_at e)) (λ _. h.known);
  answered = answers-more (λ a. a.block ≡ b → a.stamp < id.0 → a.stamp ≤ named.0) w.answered k.answered h.answered
      (some-weaker (λ a. a.stamp ≡ known_stamp w a.block) (λ a. a.block ≡ b → a.stamp < id.0 → a.stamp ≤ named.0) k.answered (λ a e at lt. told a e at lt) n.answers);
  past = record { each = λ c e x q lt. passes c e x q lt (cases_lt id.0 e) };
}
  where
    -- a session that begins now has all stamps that were given behind it
    passes : (c e : ℕ) → l b e ≡ Some e → IsBefore (l b) c e → c < id.0 → (id.0 < e) ⊎ (e ≤ id.0) → c ≤ named.0
    passes c e x q lt (inl z) = absurd (omega (arith, lt, q.last id.0 h.session (n.same b id.0 h.session h.given) z))
    passes c e x q lt (inr z) = let old = n.back b e id.0 e h.session x h.given z in h.past.each c e old (before-back g l w k b c e n old q) lt

    here : b ≡ k.writer_at → (heard k.writer).committed.0 < id.0 → (heard k.writer).committed.0 ≤ named.0
    here e lt = go n.writer
      where
        go : Newest (g k.writer_at) (heard (w.writers k.writer_at)) (heard k.writer) → (heard k.writer).committed.0 ≤ named.0
        go (inl q) =
            let same : (heard k.writer).committed.0 ≡ known_stamp w b = ap (λ (s : Stamp). s.0) q ∙ ap (λ (i : ℕ). known_stamp w i) (sym e) in
            omega (arith, same, h.known (omega (arith, same, lt)))
        go (inr q) = absurd (omega (arith, lt, q id.0 h.session (subst (λ (i : ℕ). g i id.0 ≡ Some h.session) e h.given)))

    told : (a : Answered) → a.stamp ≡ known_stamp w a.block → a.block ≡ b → a.stamp < id.0 → a.stamp ≤ named.0
    told a e at lt =
        let same : a.stamp ≡ known_stamp w b = e ∙ ap (λ (i : ℕ). known_stamp w i) at in
        omega (arith, same, h.known (omega (arith, same, lt)))

behind-after : (g l : Givens) (w : World) (k : Change) (b : ℕ) (r : BlockRecord) → Stamps g l w k → Behind w k b r → IsBehind (apply w k) b r
unfolding apply
behind-after g l w k b r n h = record {
  known = h.known;
  answered = answers-more (λ a. a.block ≡ b → a.stamp ≤ r.committed.0) w.answered k.answered h.answered
      (some-weaker (λ a. a.stamp ≡ known_stamp w a.block) (λ a. a.block ≡ b → a.stamp ≤ r.committed.0) k.answered (λ a e at. told a e at) n.answers);
}
  where
    told : (a : Answered) → a.stamp ≡ known_stamp w a.block → a.block ≡ b → a.stamp ≤ r.committed.0
    told a e at = omega (arith, h.before, e ∙ ap (λ (i : ℕ). known_stamp w i) at)

told-named : (g l : Givens) (w : World) (k : Change) (b : BlockId) (t : Told) → Stamps g l w k → ToldNamed g w b t → ToldNamed l (apply w k) b t
told-named g l w k b (Ok (office.Begun begun)) n h = named-after g l w k b.0 begun.committed begun.id n h
told-named g l w k b (Ok (office.Stamp s)) n h = tt
told-named g l w k b (Ok (office.Reopened r)) n h = tt
told-named g l w k b (Ok office.Nothing) n h = tt
told-named g l w k b (Err e) n h = tt

pub primary-named : (g l : Givens) (w : World) (k : Change) (p : Primary) → Stamps g l w k → PrimaryNamed g w p → PrimaryNamed l (apply w k) p
primary-named g l w k no_primary n h = tt
primary-named g l w k (was_told b t) n h = told-named g l w k b t n h
primary-named g l w k (leads x) n h = named-after g l w k x.state.block.0 x.state.begun.committed x.state.begun.id n h
primary-named g l w k (has_led r) n h = tt

pub naming-apply : (g l : Givens) (w : World) (k : Change) → Naming g w → Names g l w k → Naming l (apply w k)
unfolding apply
naming-apply g l w k h n = record { behind = behind; closes = n.closes; knows = knows; asked = asked; primaries = primaries }
  where
    knows : (b : ℕ) → IsPast (l b) ((heard (put w.writers k.writer_at k.writer b)).committed.0)
    knows b = past-after g l w k b (known_stamp w b) ((heard (put w.writers k.writer_at k.writer b)).committed.0) n.stamps (h.knows b)
        (λ c s x le. if-each (λ (y : Writing). c ≤ (heard y).committed.0) (b == k.writer_at) k.writer (w.writers b) (λ e. here c s (eqb-true b k.writer_at e) x le n.stamps.writer) (λ _. le)) (λ o t s x. o.known t s x)
      where
        here : (c s : ℕ) → b ≡ k.writer_at → g b c ≡ Some s → c ≤ known_stamp w b → Newest (g k.writer_at) (heard (w.writers k.writer_at)) (heard k.writer) → c ≤ (heard k.writer).committed.0
        here c s e x le (inl q) = omega (arith, le, ap (λ (z : Stamp). z.0) q, ap (λ (i : ℕ). known_stamp w i) e)
        here c s e x le (inr q) = q c s (subst (λ (i : ℕ). g i c ≡ Some s) e x)

    behind : (b : ℕ) → IfSome (record_of (apply w k).office (record { 0 = b })) (IsBehind (apply w k) b)
    behind b = some-weaker (Behind w k b) (IsBehind (apply w k) b) (record_of k.office (record { 0 = b })) (λ r x. behind-after g l w k b r n.stamps x) (n.office b)

    asked : (c i : ℕ) (q : RecoveryOp) → slice_get ((apply w k).downs c) i ≡ Some (request (op.Recovery q)) → RequestNamed l (apply w k) q
    asked c i q e = named-after g l w k q.block.block.0 q.block.stamp q.recovery n.stamps (go (new-down w k c i (request (op.Recovery q)) e))
      where
        go : NewDown w k c (request (op.Recovery q)) → RequestNamed g w q
        go (was_sent j r) = h.asked c j q r
        go (is_sent j r) = n.sent c j q r
        go (is_dialled j d r s t) = n.dials j d q r s

    primaries : (i : ℕ) → PrimaryNamed l (apply w k) ((apply w k).primaries i)
    primaries = put-each (λ (i : ℕ) (p : Primary). PrimaryNamed l (apply w k) p) w.primaries k.primary_at k.primary n.primary (λ i. primary-named g l w k (w.primaries i) n.stamps (h.primaries i))

-- THE OFFICE

-- a refusal commits nothing
refusal-committed : (x : WriterRecord) (e : OfficeFault) → (granted x (Err e)).committed ≡ x.committed
refusal-committed x e = go (only_the_office_commits x (Grants (Err e)))
  where
    go : ((granted x (Err e)).committed ≡ x.committed) ⊎ IsGiven x.phase (Grants (Err e)) (granted x (Err e)).committed → (granted x (Err e)).committed ≡ x.committed
    go (inl p) = p
    go (inr q) = absurd q

-- what an answer makes of a writer and of its block's record
pub record IsGranted (f : ℕ → Option ℕ) (o : OfficeState) (x : WriterRecord) (p : OfficeState) (y : WriterRecord) : Type 0 where
  pub newest : Newest f x y
  pub known : IfSome (record_of p x.block) (λ k. y.committed.0 ≤ k.committed.0)
  pub before : IfSome (record_of o x.block) (λ r. IfSome (record_of p x.block) (λ k. r.committed.0 ≤ k.committed.0))

abbrev GrantedBy : (ℕ → Option ℕ) → ℕ → OfficeState → OfficeCall → Step OfficeState OfficeAnswer → Type 0
GrantedBy f l o c s = (x : WriterRecord) → AsksAs x c → HeldOf f l (record_of o x.block) x → IfSome (record_of o x.block) (λ r. x.committed.0 ≤ r.committed.0) → IsGranted f o x (state_after o s) (granted x (reply s))

-- of a block whose record was this one and is that one
granted-of : (f : ℕ → Option ℕ) (o p : OfficeState) (x y : WriterRecord) (r k : BlockRecord) → record_of o x.block ≡ Some r → record_of p x.block ≡ Some k → Newest f x y → y.committed.0 ≤ k.committed.0 → r.committed.0 ≤ k.committed.0 → IsGranted f o x p y
granted-of f o p x y r k was is n a b = record {
  newest = n;
  known = subst (λ (z : Option BlockRecord). IfSome z (λ i. y.committed.0 ≤ i.committed.0)) (sym is) a;
  before = subst (λ (z : Option BlockRecord). IfSome z (λ i. IfSome (record_of p x.block) (λ j. i.committed.0 ≤ j.committed.0))) (sym was) (subst (λ (z : Option BlockRecord). IfSome z (λ j. r.committed.0 ≤ j.committed.0)) (sym is) b);
}

at-block : (o : OfficeState) (b q : BlockId) (r : Option BlockRecord) → b ≡ q → record_of o b ≡ r → record_of o q ≡ r
at-block o b q r e is = ap (λ (z : BlockId). record_of o z) (sym e) ∙ is

held-record : (f : ℕ → Option ℕ) (l : ℕ) (o : Option BlockRecord) (r : BlockRecord) (x : WriterRecord) → o ≡ Some r → HeldOf f l o x → Entries f l r x
held-record f l o r x e h = subst (λ (z : Option BlockRecord). HeldOf f l z x) e h

low-record : (o : Option BlockRecord) (r : BlockRecord) (n : ℕ) → o ≡ Some r → IfSome o (λ k. n ≤ k.committed.0) → n ≤ r.committed.0
low-record o r n e h = subst (λ (z : Option BlockRecord). IfSome z (λ k. n ≤ k.committed.0)) e h

accepted-newest : (f : ℕ → Option ℕ) (l : ℕ) (r : BlockRecord) (x : WriterRecord) (way : Setup) (s : Stamp) → Fits f l r.recovery x → x.phase ≡ phase.Accepted way s → r.recovery ≡ None → (t e : ℕ) → f t ≡ Some e → t ≤ s.0
accepted-newest f l r x way s h e lease t v q = (subst (λ (p : Phase). InPhase f l r.recovery x.committed x.waiting x.stream.unacked p) e h).0.newest.last lease t v q

below-true : (a b : ℕ) → nat_lt a b ≡ true → a ≤ b
below-true a b e = grind (arith, nat_tests, e)

pub granted-by : (f : ℕ → Option ℕ) (l : ℕ) (o : OfficeState) (c : OfficeCall) → GrantedBy f l o c (office_case o c)
granted-by f l o c = each_case o (GrantedBy f l o) (record {
  refused = λ d e. λ x a h low. record {
    newest = inl (refusal-committed x e);
    known = subst (λ (s : Stamp). IfSome (record_of o x.block) (λ k. s.0 ≤ k.committed.0)) (sym (refusal-committed x e)) low;
    before = same-record (record_of o x.block);
  };
  created = λ block members none. λ x a h low.
      let y = granted-create x o.next a.at in
      let was = at-block o block x.block None a.block none in
      let gone : HeldOf f l None x = subst (λ (z : Option BlockRecord). HeldOf f l z x) was h in
      subst (λ (z : WriterRecord). IsGranted f o x (with_new_record (stamp_given o) block (opened members o.next)) z) (sym y) (record {
        newest = inr (λ t e q. absurd (none-some e (sym (gone.1 t) ∙ q)));
        known = subst (λ (z : Option BlockRecord). IfSome z (λ i. o.next.0 ≤ i.committed.0))
            (sym (at-block (with_new_record (stamp_given o) block (opened members o.next)) block x.block (Some (opened members o.next)) a.block (record_of-with_new_record_same (stamp_given o) block (opened members o.next)))) (omega arith);
        before = subst (λ (z : Option BlockRecord). IfSome z (λ i. IfSome (record_of (with_new_record (stamp_given o) block (opened members o.next)) x.block) (λ j. i.committed.0 ≤ j.committed.0))) (sym was) tt;
      });
  appended = λ block r is shut short. λ x a h low.
      let k : BlockRecord = record r { is_open = true; recovery = None } in
      let p = with_record (stamp_given o) block k in
      let was = at-block o block x.block (Some r) a.block is in
      let e = held-record f l (record_of o x.block) r x was h in
      subst (λ (z : WriterRecord). IsGranted f o x p z) (sym (granted-append x (record { committed = r.committed; length = r.length; new = o.next }) a.at short))
      (granted-of f o p x _ r k was (at-block p block x.block (Some k) a.block (record_of-with_record_same (stamp_given o) block r k is)) (inr (λ t v q. e.office.closed shut t v q)) (omega arith) (omega arith));
  stamped = λ block r is writers. λ x a h low.
      let p = with_record (stamp_given o) block r in
      let was = at-block o block x.block (Some r) a.block is in
      subst (λ (z : WriterRecord). IsGranted f o x p z) (sym (granted-again x o.next a.way a.at a.again))
      (granted-of f o p x _ r r was (at-block p block x.block (Some r) a.block (record_of-with_record_same (stamp_given o) block r r is)) (inl refl) (low-record (record_of o x.block) r x.committed.0 was low) (omega arith));
  committed = λ block stamp members r is writers new. λ x a h low.
      let k : BlockRecord = record r { committed = stamp; members = members } in
      let p = with_record o block k in
      let was = at-block o block x.block (Some r) a.block is in
      let e = held-record f l (record_of o x.block) r x was h in
      subst (λ (z : WriterRecord). IsGranted f o x p z) (sym (granted-commit x stamp a.way a.at a.later))
      (granted-of f o p x _ r k was (at-block p block x.block (Some k) a.block (record_of-with_record_same o block r k is)) (inr (accepted-newest f l r x a.way stamp e.writer.fits a.at writers.lease)) (omega arith) (below-true r.committed.0 stamp.0 new));
  completed = λ block stamp bytes r is writers new. λ x a h low.
      let k : BlockRecord = record r { is_open = false; length = bytes } in
      let p = with_record o block k in
      let was = at-block o block x.block (Some r) a.block is in
      subst (λ (z : WriterRecord). IsGranted f o x p z) (sym (granted-complete x a.at))
      (granted-of f o p x _ r k was (at-block p block x.block (Some k) a.block (record_of-with_record_same o block r k is)) (inl refl) (low-record (record_of o x.block) r x.committed.0 was low) (omega arith));
  begun = λ block r is is_open. λ x a h low. absurd a;
  synced = λ block id bytes members r is is_open latest. λ x a h low. absurd a;
}) c
  where
    same-record : (z : Option BlockRecord) → IfSome z (λ i. IfSome z (λ j. i.committed.0 ≤ j.committed.0))
    same-record None = tt
    same-record (Some r) = omega arith

-- what a primary's call makes of the records: no committed stamp falls
abbrev RaisesBy : World → OfficeCall → Step OfficeState OfficeAnswer → Type 0
RaisesBy w c s = IsPrimarys c → (q : BlockId) → IfSome (record_of (state_after w.office s) q) (λ k. (r : BlockRecord) × (record_of w.office q ≡ Some r) × (r.committed.0 ≤ k.committed.0))

same-raises : (o : Option BlockRecord) → IfSome o (λ k. (r : BlockRecord) × (o ≡ Some r) × (r.committed.0 ≤ k.committed.0))
same-raises None = tt
same-raises (Some k) = (k, refl, omega arith)

-- where one record changes to another with no earlier stamp
with-raises : (o from : OfficeState) (block q : BlockId) (r k : BlockRecord) → record_of o block ≡ Some r → record_of from block ≡ Some r → ((p : BlockId) → record_of from p ≡ record_of o p) → r.committed.0 ≤ k.committed.0
    → IfSome (record_of (with_record from block k) q) (λ i. (j : BlockRecord) × (record_of o q ≡ Some j) × (j.committed.0 ≤ i.committed.0))
with-raises o from block q r k was is alike le = go (same_or_other block q)
  where
    P : Option BlockRecord → Type 0
    P z = IfSome z (λ i. (j : BlockRecord) × (record_of o q ≡ Some j) × (j.committed.0 ≤ i.committed.0))

    same : (z : Option BlockRecord) → record_of o q ≡ z → P z
    same None e = tt
    same (Some j) e = (j, e, omega arith)

    go : (block ≡ q) ⊎ (is_at (block_order q) block ≡ false) → IfSome (record_of (with_record from block k) q) (λ i. (j : BlockRecord) × (record_of o q ≡ Some j) × (j.committed.0 ≤ i.committed.0))
    go (inl e) = subst P (sym (at-block (with_record from block k) block q (Some k) e (record_of-with_record_same from block r k is))) (r, at-block o block q (Some r) e was, le)
    go (inr other) = subst P (sym (record_of-with_record_other from block q k other ∙ alike q)) (same (record_of o q) refl)

held-last : (f : ℕ → Option ℕ) (l : ℕ) (r : BlockRecord) (x : WriterRecord) (id : Stamp) → Entries f l r x → r.is_open ≡ true → is_stamp r.recovery id ≡ true → r.committed.0 ≤ id.0
held-last f l r x id e is_open latest = go r.recovery refl latest
  where
    go : (z : Option Stamp) → r.recovery ≡ z → is_stamp z id ≡ true → r.committed.0 ≤ id.0
    go None q t = absurd (false≢true t)
    go (Some s) q t = let h = (e.office.held is_open s q).last r.committed.0 e.base e.office.committed in omega (arith, h, eqb-true s.0 id.0 t)

pub raises-by : (g : Givens) (w : World) (c : OfficeCall) → Recorded g w → RaisesBy w c (office_case w.office c)
raises-by g w c h = each_case w.office (RaisesBy w) (record {
  refused = λ d e. λ p q. same-raises (record_of w.office q);
  created = λ block members none. λ p q. absurd p;
  appended = λ block r is shut short. λ p q. absurd p;
  stamped = λ block r is writers. λ p q. absurd p;
  committed = λ block stamp members r is writers new. λ p q. absurd p;
  completed = λ block stamp bytes r is writers new. λ p q. absurd p;
  begun = λ block r is is_open. λ p q. with-raises w.office (stamp_given w.office) block q r (record r { recovery = Some w.office.next }) is is (λ _. refl) (omega arith);
  synced = λ block id bytes members r is is_open latest. λ p q.
      with-raises w.office w.office block q r (record r { is_open = false; committed = id; members = members; length = bytes }) is is (λ _. refl) (held-last (g block.0) (w.latest block.0) r (heard (w.writers block.0)) id (held-record (g block.0) (w.latest block.0) (record_of w.office (record { 0 = block.0 })) r (heard (w.writers block.0)) is (h.blocks block.0)) is_open latest);
}) c

-- what an answer to a writer makes of the stamps that were given, where it begins a session
abbrev pub OpensBy : World → (ℕ → Option ℕ) → ℕ → OfficeCall → Step OfficeState OfficeAnswer → Type 0
OpensBy w f l c s = (x : WriterRecord) → AsksAs x c → HeldOf f l (record_of w.office x.block) x → ((t e : ℕ) → f t ≡ Some e → t < w.office.next.0) → l ≡ w.latest x.block.0 →
    IfSome (stamped_by w c (reply s)) (λ z. z.session ≡ z.stamp → (t e : ℕ) → f t ≡ Some e → (t ≤ (granted x (reply s)).committed.0) × IfSome (record_of (state_after w.office s) x.block) (λ k. t ≤ k.committed.0))

pub opens-by : (w : World) (f : ℕ → Option ℕ) (l : ℕ) (c : OfficeCall) → OpensBy w f l c (office_case w.office c)
opens-by w f l c = each_case w.office (OpensBy w f l) (record {
  refused = λ d e. λ x a h low at.
      subst (λ (o : Option Stamped). IfSome o (λ z. z.session ≡ z.stamp → (t v : ℕ) → f t ≡ Some v → (t ≤ (granted x (Err e)).committed.0) × IfSome (record_of w.office x.block) (λ k. t ≤ k.committed.0))) (sym (refused-stamp w d e)) tt;
  created = λ block members none. λ x a h low at. λ _ t e q.
      let gone : HeldOf f l None x = subst (λ (z : Option BlockRecord). HeldOf f l z x) (at-block w.office block x.block None a.block none) h in
      absurd (none-some e (sym (gone.1 t) ∙ q));
  appended = λ block r is shut short. λ x a h low at. λ _ t e q.
      let k : BlockRecord = record r { is_open = true; recovery = None } in
      let p = with_record (stamp_given w.office) block k in
      let i = held-record f l (record_of w.office x.block) r x (at-block w.office block x.block (Some r) a.block is) h in
      let le : t ≤ r.committed.0 = i.office.closed shut t e q in (
        subst (λ (y : WriterRecord). t ≤ y.committed.0) (sym (granted-append x (record { committed = r.committed; length = r.length; new = w.office.next }) a.at short)) le,
        subst (λ (z : Option BlockRecord). IfSome z (λ j. t ≤ j.committed.0)) (sym (at-block p block x.block (Some k) a.block (record_of-with_record_same (stamp_given w.office) block r k is))) le,
      );
  stamped = λ block r is writers. λ x a h low at. λ same t e q.
      let i = held-record f l (record_of w.office x.block) r x (at-block w.office block x.block (Some r) a.block is) h in
      absurd (omega (arith, low l l i.office.begins, same, at, ap (λ (z : BlockId). w.latest z.0) a.block));
  committed = λ block stamp members r is writers new. λ x a h low at. tt;
  completed = λ block stamp bytes r is writers new. λ x a h low at. tt;
  begun = λ block r is is_open. λ x a h low at. absurd a;
  synced = λ block id bytes members r is is_open latest. λ x a h low at. absurd a;
}) c

-- a primary's call begins no session
abbrev pub KeepsBy : World → OfficeCall → Step OfficeState OfficeAnswer → Type 0
KeepsBy w c s = IsPrimarys c → IfSome (stamped_by w c (reply s)) (λ z. z.session < z.stamp)

pub keeps-by : (g : Givens) (w : World) (c : OfficeCall) → Recorded g w → KeepsBy w c (office_case w.office c)
keeps-by g w c h = each_case w.office (KeepsBy w) (record {
  refused = λ d e. λ p. subst (λ (o : Option Stamped). IfSome o (λ z. z.session < z.stamp)) (sym (refused-stamp w d e)) tt;
  created = λ block members none. λ p. absurd p;
  appended = λ block r is shut short. λ p. absurd p;
  stamped = λ block r is writers. λ p. absurd p;
  committed = λ block stamp members r is writers new. λ p. absurd p;
  completed = λ block stamp bytes r is writers new. λ p. absurd p;
  begun = λ block r is is_open. λ p.
      let i = held-record (g block.0) (w.latest block.0) (record_of w.office (record { 0 = block.0 })) r (heard (w.writers block.0)) is (h.blocks block.0) in
      omega (arith, h.session block.0 r.committed.0 i.base i.office.committed, i.office.before r.committed.0 i.base i.office.committed, h.below block.0 r.committed.0 i.base i.office.committed);
  synced = λ block id bytes members r is is_open latest. λ p. tt;
}) c
