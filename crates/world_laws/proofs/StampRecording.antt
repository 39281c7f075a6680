-- Each stamp that was given is recorded, after every list of events.
use Rattle.std.proofs.Common.{◌≡◌, ℕ, ◌<◌, ◌≤◌, ◌⊎◌, inl, inr, Bool, true, false, Option, Some, None, IfSome, Ok, Err, refl, sym, ◌∙◌, ap, subst, arith, eqb-true}
use Rattle.std.specs.Prelude.{◌==◌, ◌&&◌, is_none, nat_lt}
use Rattle.std.proofs.lemmas.Bool.Decides.{nat_tests}
use Rattle.std.proofs.lemmas.Bool.{eqb-false}
use Rattle.std.specs.BTreeMap.{is_at}
use Rattle.hd_base.specs.declared.numbers.BlockId.{BlockId}
use Rattle.hd_base.specs.declared.numbers.Stamp.{Stamp}
use Rattle.name_core.specs.declared.calls.OfficeAnswer.{OfficeAnswer}
use Rattle.name_core.specs.declared.calls.OfficeAnswer.TheVariants as office
use Rattle.name_core.specs.declared.calls.OfficeCall.{OfficeCall}
use Rattle.name_core.specs.declared.calls.OfficeCall.TheVariants as call
use Rattle.name_core.specs.declared.records.BlockRecord.{BlockRecord}
use Rattle.name_core.specs.Steps.{Step, state_after, reply}
use Rattle.name_core.specs.Records.{is_stamp, opened}
use Rattle.name_core.specs.Offices.{OfficeState, block_order, record_of, stamp_given, office_after, answer_to, office_case}
use Rattle.name_core.proofs.BlockLemmas.{same_or_other, record_of-with_record_same, record_of-with_new_record_same}
use Rattle.name_core.proofs.CaseLemmas.{each_case}
use Rattle.world.specs.WriterCore.Action.{Action}
use Rattle.world.specs.WriterCore.Action.TheVariants as action
use Rattle.world.specs.WriterCore.WriterRecord.{WriterRecord}
use Rattle.world.specs.WriterCore.Transitions.{own_step, granted}
use Rattle.world.specs.RecoveryCore.OwnStep.{OwnStep}
use Rattle.world.specs.RecoveryCore.OwnStep.TheVariants as step
use Rattle.world.specs.RecoveryCore.Primaries.{sync_call}
use Rattle.world.specs.RecoveryCore.Primaries as primary
use Rattle.world.specs.declared.events.Caller.{Caller}
use Rattle.world.specs.declared.events.Caller.TheVariants as caller
use Rattle.world.specs.Parts.{Told, Writing, Leading, Primary, no_primary, was_told, leads, has_led}
use Rattle.world.specs.Worlds.{World, Stamped, Change, put, latest_with, sessions_with, apply}
use Rattle.world.specs.Connections.{is_alive}
use Rattle.world.specs.Primaries.{stamped_by, asks_writer, asks_primary, writer_asks, primary_commits, primary_asks, office_event}
use Rattle.world_laws.proofs.FactTables.{if-each, put-each, when-each}
use Rattle.world_laws.specs.Sessions.{IsCommitted, told_stamp, stamp_heard}
use Rattle.world_laws.proofs.Sessions.{refused-stamp}
use Rattle.world_laws.proofs.OfficeSteps.{granted-block, AsksAs, Asking, own-step-asking, block_in, keeps-other, asks-block, IsPrimarys}
use Rattle.world_laws.specs.Stamping.{Givens, given_with, known_heard, heard, Entries, HeldOf, Recorded}
use Rattle.world_laws.proofs.StampGivens.{put-here, put-there, put-new, Below}
use Rattle.world_laws.proofs.StampGranting.{created-held, appended-held, stamped-held, committed-held, completed-held, moved-held, refusal-fits, refusal-committed, begun-held, synced-held}
use Rattle.world_laws.proofs.StampWalking.{Moved, none-is}

-- CHANGES THAT LEAVE THE OFFICE

pub record Quietly (w : World) (k : Change) : Type 0 where
  pub office : k.office ≡ w.office
  pub stamped : k.stamped ≡ None
  pub moved : Moved w k

none-sessions : (f : ℕ → ℕ) (o : Option Stamped) (t : ℕ) → o ≡ None → sessions_with f o t ≡ f t
none-sessions f o t e = subst (λ (x : Option Stamped). sessions_with f x t ≡ f t) (sym e) refl

none-latest : (f : ℕ → ℕ) (o : Option Stamped) (b : ℕ) → o ≡ None → latest_with f o b ≡ f b
none-latest f o b e = subst (λ (x : Option Stamped). latest_with f x b ≡ f b) (sym e) refl

pub quiet-recorded : (f : Givens) (w : World) (k : Change) → Quietly w k → Recorded f w → Recorded f (apply w k)
unfolding apply
quiet-recorded f w k q h = record {
  below = λ b t e g. subst (λ (o : OfficeState). t < o.next.0) (sym q.office) (h.below b t e g);
  above = h.above;
  session = λ b t e g. none-sessions w.session_of k.stamped t q.stamped ∙ h.session b t e g;
  one = h.one;
  first = subst (λ (o : OfficeState). 1 ≤ o.next.0) (sym q.office) h.first;
  writers = put-each (λ (b : ℕ) (x : Writing). (heard x).block ≡ record { 0 = b }) w.writers k.writer_at k.writer (q.moved.goes.block ∙ h.writers k.writer_at) h.writers;
  blocks = put-each (λ (b : ℕ) (x : Writing). HeldOf (f b) (latest_with w.latest k.stamped b) (record_of k.office (record { 0 = b })) (heard x)) w.writers k.writer_at k.writer
      (at k.writer_at (heard k.writer) (moved-held (f k.writer_at) (w.latest k.writer_at) (record_of w.office (record { 0 = k.writer_at })) (heard (w.writers k.writer_at)) (heard k.writer)
      q.moved.goes.committed (q.moved.goes.fits (f k.writer_at) (w.latest k.writer_at)) (h.blocks k.writer_at)))
      (λ b. at b (heard (w.writers b)) (h.blocks b));
}
  where
    at : (b : ℕ) (x : WriterRecord) → HeldOf (f b) (w.latest b) (record_of w.office (record { 0 = b })) x
        → HeldOf (f b) (latest_with w.latest k.stamped b) (record_of k.office (record { 0 = b })) x
    at b x g =
        subst (λ (l : ℕ). HeldOf (f b) l (record_of k.office (record { 0 = b })) x) (sym (none-latest w.latest k.stamped b q.stamped))
        (subst (λ (o : OfficeState). HeldOf (f b) (w.latest b) (record_of o (record { 0 = b })) x) (sym q.office) g)

-- THE CALL'S BLOCK

-- what is held of a block, by what its table, its latest session and its entry are
place : (f g : ℕ → Option ℕ) (l m : ℕ) (o p : Option BlockRecord) (x : WriterRecord) → g ≡ f → m ≡ l → p ≡ o → HeldOf f l o x → HeldOf g m p x
place f g l m o p x e i j h = rw e (rw i (rw j h))

pub known-of : (f : ℕ → Option ℕ) (l : ℕ) (o : Option BlockRecord) (r : BlockRecord) (x : WriterRecord) → o ≡ Some r → HeldOf f l o x → Entries f l r x
known-of f l o r x e h = subst (λ (p : Option BlockRecord). HeldOf f l p x) e h

pub unknown-of : (f : ℕ → Option ℕ) (l : ℕ) (o : Option BlockRecord) (x : WriterRecord) → o ≡ None → HeldOf f l o x → (t : ℕ) → f t ≡ None
unknown-of f l o x e h = (subst (λ (p : Option BlockRecord). HeldOf f l p x) e h).1

pub below-of : (f : Givens) (w : World) (b : ℕ) → Recorded f w → Below (f b) w.office.next.0
below-of f w b h = record { below = h.below b }

-- what is held of the block of a call, once it was taken, of the writer that is then
abbrev HeldAfter : Givens → World → OfficeCall → Step OfficeState OfficeAnswer → WriterRecord → Type 0
HeldAfter f w c s x =
    HeldOf (given_with f (stamped_by w c (reply s)) (block_in c).0) (latest_with w.latest (stamped_by w c (reply s)) (block_in c).0) (record_of (state_after w.office s) (block_in c)) x

abbrev pub HeldBefore : Givens → World → OfficeCall → WriterRecord → Type 0
HeldBefore f w c x = HeldOf (f (block_in c).0) (w.latest (block_in c).0) (record_of w.office (block_in c)) x

unstamped : (f : Givens) (w : World) (c : OfficeCall) (s : Option Stamped) (o : Option BlockRecord) (x : WriterRecord) → s ≡ None → HeldOf (f (block_in c).0) (w.latest (block_in c).0) o x
    → HeldOf (given_with f s (block_in c).0) (latest_with w.latest s (block_in c).0) o x
unstamped f w c s o x e h = rw e h

abbrev WriterOwn : Givens → World → WriterRecord → OfficeCall → Step OfficeState OfficeAnswer → Type 0
WriterOwn f w x c s = AsksAs x c → HeldBefore f w c x → IsCommitted w.office (block_in c) x.committed → HeldAfter f w c s (granted x (reply s))

writer-own : (f : Givens) (w : World) (x : WriterRecord) → Recorded f w → (c : OfficeCall) → WriterOwn f w x c (office_case w.office c)
writer-own f w x i c = each_case w.office (WriterOwn f w x) (record {
  refused = λ d e. λ a h g.
      unstamped f w d (stamped_by w d (Err e)) (record_of w.office (block_in d)) (granted x (Err e)) (refused-stamp w d e)
      (moved-held (f (block_in d).0) (w.latest (block_in d).0) (record_of w.office (block_in d)) x (granted x (Err e)) (refusal-committed x e) (λ r k. refusal-fits (f (block_in d).0) (w.latest (block_in d).0) r x e k) h);
  created = λ block members none. λ a h g.
      place _ _ _ _ _ _ (granted x (Ok (office.Stamp w.office.next))) (put-here f block.0 _) (put-here w.latest block.0 _)
      (record_of-with_new_record_same (stamp_given w.office) block (opened members w.office.next))
      (created-held (f block.0) w.office.next.0 members x (unknown-of (f block.0) (w.latest block.0) (record_of w.office block) x none h) a.at);
  appended = λ block r is shut short. λ a h g.
      place _ _ _ _ _ _ (granted x (Ok (office.Reopened (record { committed = r.committed; length = r.length; new = w.office.next })))) (put-here f block.0 _) (put-here w.latest block.0 _)
      (record_of-with_record_same (stamp_given w.office) block r (record r { is_open = true; recovery = None }) is)
      (appended-held (f block.0) w.office.next.0 (w.latest block.0) r x (below-of f w block.0 i) shut short a.at (known-of (f block.0) (w.latest block.0) (record_of w.office block) r x is h));
  stamped = λ block r is writers. λ a h g.
      place _ _ _ _ _ _ (granted x (Ok (office.Stamp w.office.next))) (put-here f block.0 _) (put-here w.latest block.0 _)
      (record_of-with_record_same (stamp_given w.office) block r r is)
      (stamped-held (f block.0) w.office.next.0 (w.latest block.0) r x a.way (below-of f w block.0 i) writers (g r is writers.lease) a.at a.again (known-of (f block.0) (w.latest block.0) (record_of w.office block) r x is h));
  committed = λ block stamp members r is writers new. λ a h g.
      place _ _ _ _ _ _ (granted x (Ok office.Nothing)) refl refl
      (record_of-with_record_same w.office block r (record r { committed = stamp; members = members }) is)
      (committed-held (f block.0) (w.latest block.0) r x stamp members a.way writers (lt-true r.committed.0 stamp.0 new) a.at a.later (known-of (f block.0) (w.latest block.0) (record_of w.office block) r x is h));
  completed = λ block stamp bytes r is writers new. λ a h g.
      place _ _ _ _ _ _ (granted x (Ok office.Nothing)) refl refl
      (record_of-with_record_same w.office block r (record r { is_open = false; length = bytes }) is)
      (completed-held (f block.0) (w.latest block.0) r x bytes writers (g r is writers.lease) a.at (known-of (f block.0) (w.latest block.0) (record_of w.office block) r x is h));
  begun = λ block r is is_open. λ a h g. absurd a;
  synced = λ block id bytes members r is is_open latest. λ a h g. absurd a;
}) c
  where
    lt-true : (a b : ℕ) → nat_lt a b ≡ true → a < b
    lt-true a b e = grind (arith, nat_tests, e)

-- the id is the one of the recovery that has begun
pub held-id : (o : Option Stamp) (id : Stamp) → is_stamp o id ≡ true → o ≡ Some id
held-id None id e = cc
held-id (Some s) id e = ap (λ (n : ℕ). Some (record { 0 = n })) (eqb-true s.0 id.0 e)

abbrev PrimaryOwn : Givens → World → WriterRecord → OfficeCall → Step OfficeState OfficeAnswer → Type 0
PrimaryOwn f w x c s = IsPrimarys c → HeldBefore f w c x → HeldAfter f w c s x

-- the session of a recovery is that of the committed stamp
begun-place : (f : Givens) (w : World) (block : BlockId) (r : BlockRecord) (x : WriterRecord) → Recorded f w → record_of w.office block ≡ Some r → r.is_open ≡ true
    → Entries (f block.0) (w.latest block.0) r x → HeldOf (put (f block.0) w.office.next.0 (Some (w.session_of r.committed.0))) (w.latest block.0) (Some (record r { recovery = Some w.office.next })) x
begun-place f w block r x i is is_open h =
    subst (λ (e : ℕ). HeldOf (put (f block.0) w.office.next.0 (Some e)) (w.latest block.0) (Some (record r { recovery = Some w.office.next })) x) (sym (i.session block.0 r.committed.0 h.base h.office.committed))
    (begun-held (f block.0) w.office.next.0 (w.latest block.0) r x h (below-of f w block.0 i) is_open)

primary-own : (f : Givens) (w : World) (x : WriterRecord) → Recorded f w → (c : OfficeCall) → PrimaryOwn f w x c (office_case w.office c)
primary-own f w x i c = each_case w.office (PrimaryOwn f w x) (record {
  refused = λ d e. λ a h. unstamped f w d (stamped_by w d (Err e)) (record_of w.office (block_in d)) x (refused-stamp w d e) h;
  created = λ block members none. λ a h. absurd a;
  appended = λ block r is shut short. λ a h. absurd a;
  stamped = λ block r is writers. λ a h. absurd a;
  committed = λ block stamp members r is writers new. λ a h. absurd a;
  completed = λ block stamp bytes r is writers new. λ a h. absurd a;
  begun = λ block r is is_open. λ a h.
      place _ _ _ _ _ _ x (put-here f block.0 _) (put-here w.latest block.0 _)
      (record_of-with_record_same (stamp_given w.office) block r (record r { recovery = Some w.office.next }) is)
      (begun-place f w block r x i is is_open (known-of (f block.0) (w.latest block.0) (record_of w.office block) r x is h));
  synced = λ block id bytes members r is is_open latest. λ a h.
      place _ _ _ _ _ _ x refl refl
      (record_of-with_record_same w.office block r (record r { is_open = false; committed = id; members = members; length = bytes }) is)
      (synced-held (f block.0) (w.latest block.0) r x id bytes members is_open (held-id r.recovery id latest) (known-of (f block.0) (w.latest block.0) (record_of w.office block) r x is h));
}) c

-- OTHER BLOCKS

pub other-block : (p q : BlockId) → (q.0 ≡ p.0 → ⊥) → is_at (block_order q) p ≡ false
other-block p q apart = go (same_or_other p q)
  where
    go : ((p ≡ q) ⊎ (is_at (block_order q) p ≡ false)) → is_at (block_order q) p ≡ false
    go (inl e) = absurd (apart (sym (ap (λ (x : BlockId). x.0) e)))
    go (inr other) = other

-- a stamp is given for the block of the call, as the next one
pub record Gives (w : World) (after : OfficeState) (block : ℕ) (s : Option Stamped) : Type 0 where
  pub rises : w.office.next.0 ≤ after.next.0
  pub fresh : IfSome s (λ x. (x.stamp ≡ w.office.next.0) × (x.block ≡ block) × (x.stamp < after.next.0))

abbrev GivesBy : World → OfficeCall → Step OfficeState OfficeAnswer → Type 0
GivesBy w c s = Gives w (state_after w.office s) (block_in c).0 (stamped_by w c (reply s))

none-gives : (w : World) (after : OfficeState) (b : ℕ) (s : Option Stamped) → s ≡ None → IfSome s (λ x. (x.stamp ≡ w.office.next.0) × (x.block ≡ b) × (x.stamp < after.next.0))
none-gives w after b s e = subst (λ (o : Option Stamped). IfSome o (λ x. (x.stamp ≡ w.office.next.0) × (x.block ≡ b) × (x.stamp < after.next.0))) (sym e) tt

pub gives : (w : World) (c : OfficeCall) → GivesBy w c (office_case w.office c)
gives w c = each_case w.office (GivesBy w) (record {
  refused = λ d e. record { rises = omega arith; fresh = none-gives w w.office (block_in d).0 (stamped_by w d (Err e)) (refused-stamp w d e) };
  created = λ block members none. record { rises = omega arith; fresh = (refl, refl, omega arith) };
  appended = λ block r is shut short. record { rises = omega arith; fresh = (refl, refl, omega arith) };
  stamped = λ block r is writers. record { rises = omega arith; fresh = (refl, refl, omega arith) };
  committed = λ block stamp members r is writers new. record { rises = omega arith; fresh = tt };
  completed = λ block stamp bytes r is writers new. record { rises = omega arith; fresh = tt };
  begun = λ block r is is_open. record { rises = omega arith; fresh = (refl, refl, omega arith) };
  synced = λ block id bytes members r is is_open latest. record { rises = omega arith; fresh = tt };
}) c

pub others-given : (f : Givens) (s : Option Stamped) (b q : ℕ) (n m : ℕ) → IfSome s (λ x. (x.stamp ≡ n) × (x.block ≡ b) × (x.stamp < m)) → (q ≡ b → ⊥) → given_with f s q ≡ f q
others-given f None b q n m g apart = refl
others-given f (Some s) b q n m g apart = put-there f s.block _ q (λ e. apart (e ∙ g.1))

pub others-latest : (f : ℕ → ℕ) (s : Option Stamped) (b q : ℕ) (n m : ℕ) → IfSome s (λ x. (x.stamp ≡ n) × (x.block ≡ b) × (x.stamp < m)) → (q ≡ b → ⊥) → latest_with f s q ≡ f q
others-latest f None b q n m g apart = refl
others-latest f (Some s) b q n m g apart = put-there f s.block s.latest q (λ e. apart (e ∙ g.1))

-- WHAT AN OFFICE EVENT RECORDS

-- what is so of a stamp that is given, and of each that was
pub given-each : (P : ℕ → ℕ → ℕ → Type 0) (f : Givens) (s : Option Stamped) → IfSome s (λ x. P x.block x.stamp x.session) → ((b t e : ℕ) → f b t ≡ Some e → P b t e)
    → (b t e : ℕ) → given_with f s b t ≡ Some e → P b t e
given-each P f None new old b t e = old b t e
given-each P f (Some s) new old b t e =
    if-each (λ (q : ℕ → Option ℕ). q t ≡ Some e → P b t e) (b == s.block) (put (f s.block) s.stamp (Some s.session)) (f b)
    (λ i. subst (λ (d : ℕ). put (f s.block) s.stamp (Some s.session) t ≡ Some e → P d t e) (sym (eqb-true b s.block i)) (put-new (P s.block) (f s.block) s.stamp s.session new (old s.block) t e))
    (λ _. old b t e)

pub given-sessions : (f : ℕ → ℕ) (s : Option Stamped) (n : ℕ) (b m : ℕ) → IfSome s (λ x. (x.stamp ≡ n) × (x.block ≡ b) × (x.stamp < m)) → (t : ℕ) → t < n → sessions_with f s t ≡ f t
given-sessions f None n b m g t lt = refl
given-sessions f (Some s) n b m g t lt = put-there f s.stamp s.session t (λ e. omega (arith, g.0, e, lt))

new-session : (f : ℕ → ℕ) (s : Option Stamped) → IfSome s (λ x. sessions_with f s x.stamp ≡ x.session)
new-session f None = tt
new-session f (Some s) = put-here f s.stamp s.session

given-above : (s : Option Stamped) (n b m : ℕ) → IfSome s (λ x. (x.stamp ≡ n) × (x.block ≡ b) × (x.stamp < m)) → 1 ≤ n → IfSome s (λ x. 1 ≤ x.stamp)
given-above None n b m g h = tt
given-above (Some s) n b m g h = omega (arith, g.0, h)

given-below : (s : Option Stamped) (n b m : ℕ) → IfSome s (λ x. (x.stamp ≡ n) × (x.block ≡ b) × (x.stamp < m)) → IfSome s (λ x. x.stamp < m)
given-below None n b m g = tt
given-below (Some s) n b m g = g.2

given-one : (f : Givens) (w : World) (s : Option Stamped) (b m : ℕ) → Recorded f w → IfSome s (λ x. (x.stamp ≡ w.office.next.0) × (x.block ≡ b) × (x.stamp < m))
    → (d c t e q : ℕ) → given_with f s d t ≡ Some e → given_with f s c t ≡ Some q → d ≡ c
given-one f w None b m h g d c t e q i j = h.one d c t e q i j
given-one f w (Some s) b m h g d c t e q i j =
    given-each (λ (d t e : ℕ). (c q : ℕ) → given_with f (Some s) c t ≡ Some q → d ≡ c) f (Some s)
    (λ c q j. given-each (λ (c t q : ℕ). t ≡ s.stamp → s.block ≡ c) f (Some s) (λ _. refl) (λ c t q k u. absurd (omega (arith, h.below c t q k, g.0, u))) c s.stamp q j refl)
    (λ d t e k c q j. given-each (λ (c u q : ℕ). u ≡ t → d ≡ c) f (Some s) (λ u. absurd (omega (arith, h.below d t e k, g.0, u)))
    (λ c u q v p. h.one d c t e q k (ap (f c) (sym p) ∙ v)) c t q j refl)
    d t e i c q j

-- the frame of an office event
given-recorded : (f : Givens) (w : World) (k : Change) (b : ℕ) → Recorded f w → Gives w k.office b k.stamped
    → ((d : ℕ) → (heard (put w.writers k.writer_at k.writer d)).block ≡ record { 0 = d })
    → ((d : ℕ) → HeldOf (given_with f k.stamped d) (latest_with w.latest k.stamped d) (record_of k.office (record { 0 = d })) (heard (put w.writers k.writer_at k.writer d)))
    → Recorded (given_with f k.stamped) (apply w k)
unfolding apply
given-recorded f w k b h g x y = record {
  below = given-each (λ (b t e : ℕ). t < k.office.next.0) f k.stamped (given-below k.stamped w.office.next.0 b k.office.next.0 g.fresh) (λ b t e i. omega (arith, h.below b t e i, g.rises));
  above = given-each (λ (b t e : ℕ). 1 ≤ t) f k.stamped (given-above k.stamped w.office.next.0 b k.office.next.0 g.fresh h.first) h.above;
  session = given-each (λ (b t e : ℕ). sessions_with w.session_of k.stamped t ≡ e) f k.stamped (new-session w.session_of k.stamped)
      (λ d t e i. given-sessions w.session_of k.stamped w.office.next.0 b k.office.next.0 g.fresh t (h.below d t e i) ∙ h.session d t e i);
  one = given-one f w k.stamped b k.office.next.0 h g.fresh;
  first = omega (arith, h.first, g.rises);
  writers = x;
  blocks = y;
}

-- what is held of a block other than that of the call
other-held : (f : Givens) (w : World) (c : OfficeCall) (d : ℕ) (x : WriterRecord) → (d ≡ (block_in c).0 → ⊥) → HeldOf (f d) (w.latest d) (record_of w.office (record { 0 = d })) x
    → HeldOf (given_with f (stamped_by w c (answer_to w.office c)) d) (latest_with w.latest (stamped_by w c (answer_to w.office c)) d) (record_of (office_after w.office c) (record { 0 = d })) x
other-held f w c d x apart h =
    let g = (gives w c).fresh in
    let s = stamped_by w c (answer_to w.office c) in
    place (f d) _ (w.latest d) _ _ _ x (others-given f s (block_in c).0 d w.office.next.0 (office_after w.office c).next.0 g apart)
    (others-latest w.latest s (block_in c).0 d w.office.next.0 (office_after w.office c).next.0 g apart)
    (keeps-other w.office c (record { 0 = d }) (other-block (block_in c) (record { 0 = d }) apart)) h

-- office and writers agree, as they do after every list of events
abbrev pub Agreed : World → Type 0
Agreed w = (b : ℕ) → IsCommitted w.office (record { 0 = b }) (stamp_heard (w.writers b))

pub none-heard : (x : Writing) → x.told ≡ None → heard x ≡ x.known
none-heard x e = ap (known_heard x.known) e

pub none-stamp : (x : Writing) → x.told ≡ None → stamp_heard x ≡ x.known.committed
none-stamp x e = ap (λ (o : Option Told). told_stamp x.known o) e

asks-writer-recorded : (f : Givens) (w : World) (b : ℕ) (c : OfficeCall) → Recorded f w → Agreed w → (w.writers b).told ≡ None → AsksAs (w.writers b).known c
    → Recorded (given_with f (asks_writer w b c).stamped) (apply w (asks_writer w b c))
asks-writer-recorded f w b c h agreed none a =
    given-recorded f w (asks_writer w b c) (block_in c).0 h (record { rises = (gives w c).rises; fresh = (gives w c).fresh })
    (put-each (λ (d : ℕ) (y : Writing). (heard y).block ≡ record { 0 = d }) w.writers b answered (granted-block x (answer_to w.office c) ∙ known-block) h.writers)
    (λ d. if-each (λ (y : Writing). HeldAt d (heard y)) (d == b) answered (w.writers d) (λ e. subst (λ (n : ℕ). HeldAt n (heard answered)) (sym (eqb-true d b e)) own)
    (λ e. other-held f w c d (heard (w.writers d)) (λ q. eqb-false d b e (q ∙ at)) (h.blocks d)))
  where
    x : WriterRecord
    x = (w.writers b).known

    answered : Writing
    answered = record (w.writers b) { told = Some (answer_to w.office c) }

    HeldAt : ℕ → WriterRecord → Type 0
    HeldAt d y = HeldOf (given_with f (stamped_by w c (answer_to w.office c)) d) (latest_with w.latest (stamped_by w c (answer_to w.office c)) d) (record_of (office_after w.office c) (record { 0 = d })) y

    known-block : x.block ≡ record { 0 = b }
    known-block = ap (λ (y : WriterRecord). y.block) (sym (none-heard (w.writers b) none)) ∙ h.writers b

    at : (block_in c).0 ≡ b
    at = ap (λ (q : BlockId). q.0) (asks-block x c a ∙ known-block)

    before : HeldBefore f w c x
    before =
        subst (λ (n : ℕ). HeldOf (f n) (w.latest n) (record_of w.office (record { 0 = n })) x) (sym at)
        (subst (λ (y : WriterRecord). HeldOf (f b) (w.latest b) (record_of w.office (record { 0 = b })) y) (none-heard (w.writers b) none) (h.blocks b))

    committed : IsCommitted w.office (block_in c) x.committed
    committed =
        subst (λ (n : ℕ). IsCommitted w.office (record { 0 = n }) x.committed) (sym at)
        (subst (λ (s : Stamp). IsCommitted w.office (record { 0 = b }) s) (none-stamp (w.writers b) none) (agreed b))

    own : HeldAt b (heard answered)
    own = subst (λ (n : ℕ). HeldAt n (heard answered)) at (writer-own f w x h c a before committed)

asks-primary-recorded : (f : Givens) (w : World) (i : ℕ) (c : OfficeCall) (p : Told → Primary) → Recorded f w → IsPrimarys c
    → Recorded (given_with f (asks_primary w i c p).stamped) (apply w (asks_primary w i c p))
asks-primary-recorded f w i c p h a =
    given-recorded f w (asks_primary w i c p) (block_in c).0 h (record { rises = (gives w c).rises; fresh = (gives w c).fresh })
    (put-each (λ (d : ℕ) (y : Writing). (heard y).block ≡ record { 0 = d }) w.writers 0 (w.writers 0) (h.writers 0) h.writers)
    (put-each (λ (d : ℕ) (y : Writing). HeldAt d (heard y)) w.writers 0 (w.writers 0) (each 0) each)
  where
    HeldAt : ℕ → WriterRecord → Type 0
    HeldAt d y = HeldOf (given_with f (stamped_by w c (answer_to w.office c)) d) (latest_with w.latest (stamped_by w c (answer_to w.office c)) d) (record_of (office_after w.office c) (record { 0 = d })) y

    own : HeldAt (block_in c).0 (heard (w.writers (block_in c).0))
    own = primary-own f w (heard (w.writers (block_in c).0)) h c a (h.blocks (block_in c).0)

    each : (d : ℕ) → HeldAt d (heard (w.writers d))
    each d = split (d == (block_in c).0) refl
      where
        split : (t : Bool) → (d == (block_in c).0) ≡ t → HeldAt d (heard (w.writers d))
        split true e = subst (λ (n : ℕ). HeldAt n (heard (w.writers n))) (sym (eqb-true d (block_in c).0 e)) own
        split false e = other-held f w c d (heard (w.writers d)) (eqb-false d (block_in c).0 e) (h.blocks d)

-- OFFICE EVENTS

abbrev pub Records : Givens → World → Change → Type 0
Records f w k = Recorded (given_with f k.stamped) (apply w k)

writer-asks-recorded : (f : Givens) (w : World) (b : ℕ) (a : Action) → Recorded f w → Agreed w → (w.writers b).told ≡ None → Asking (w.writers b).known a → IfSome (writer_asks a w b) (Records f w)
writer-asks-recorded f w b action.Wait h g none q = tt
writer-asks-recorded f w b action.Took h g none q = tt
writer-asks-recorded f w b (action.Ask c) h g none q = asks-writer-recorded f w b c h g none q
writer-asks-recorded f w b (action.Dial to r) h g none q = tt
writer-asks-recorded f w b (action.Send p) h g none q = tt
writer-asks-recorded f w b (action.Answered n a) h g none q = tt
writer-asks-recorded f w b action.Memory h g none q = tt

commits-recorded : (f : Givens) (w : World) (i : ℕ) (l : Leading) (s : OwnStep) → Recorded f w → IfSome (primary_commits s w i l) (Records f w)
commits-recorded f w i l step.Waits h = tt
commits-recorded f w i l (step.Updates c) h = tt
commits-recorded f w i l (step.Commits c) h = asks-primary-recorded f w i (sync_call l.state c) (λ told. leads (record l { told = Some told })) h tt
commits-recorded f w i l (step.Ends r) h = tt

primary-asks-recorded : (p : Primary) (f : Givens) (w : World) (i : ℕ) (b : BlockId) → Recorded f w → IfSome (primary_asks p w i b) (Records f w)
primary-asks-recorded no_primary f w i b h = asks-primary-recorded f w i (call.BeginRecovery b) (was_told b) h tt
primary-asks-recorded (was_told c t) f w i b h = tt
primary-asks-recorded (leads l) f w i b h =
    when-each (Records f w) (is_alive w l.at && is_none l.told) _ (λ _. commits-recorded f w i l (primary.own_step l.state).does h)
primary-asks-recorded (has_led r) f w i b h = tt

pub office-recorded : (f : Givens) (w : World) (c : Caller) → Recorded f w → Agreed w → IfSome (office_event w c) (Records f w)
office-recorded f w (caller.Writer b) h g =
    when-each (Records f w) (is_none (w.writers b.0).told) _
    (λ e. writer-asks-recorded f w b.0 (own_step (w.writers b.0).known).action h g (none-is (w.writers b.0).told e) (own-step-asking (w.writers b.0).known))
office-recorded f w (caller.Primary i b) h g = primary-asks-recorded (w.primaries i) f w i b h
