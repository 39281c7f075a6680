-- What the office answers, in the world.
use Rattle.std.proofs.Common.{◌≡◌, ℕ, ◌<◌, ◌≤◌, ◌⊎◌, inl, inr, Bool, true, false, List, [], ◌++◌, length, take, slice_get, Option, Some, None, IfSome, Ok, Err, refl, sym, ◌∙◌, ap, subst, arith, eqb-true}
use Rattle.std.specs.Prelude.{◌==◌, ◌&&◌, is_none, nat_lt}
use Rattle.std.proofs.lemmas.Bool.{eqb-false}
use Rattle.std.proofs.lemmas.Bool.Decides.{nat_tests}
use Rattle.std.proofs.lemmas.Option.{none-some, same_Some}
use Rattle.hd_base.specs.declared.numbers.BlockId.{BlockId}
use Rattle.hd_base.specs.declared.numbers.NodeId.{NodeId}
use Rattle.hd_base.specs.declared.numbers.Stamp.{Stamp}
use Rattle.name_core.specs.declared.calls.OfficeAnswer.{OfficeAnswer}
use Rattle.name_core.specs.declared.calls.OfficeAnswer.TheVariants as office
use Rattle.name_core.specs.declared.calls.OfficeCall.{OfficeCall}
use Rattle.name_core.specs.declared.calls.OfficeCall.TheVariants as call
use Rattle.name_core.specs.declared.records.BlockRecord.{BlockRecord}
use Rattle.name_core.specs.Steps.{Step, state_after, reply}
use Rattle.name_core.specs.Records.{opened}
use Rattle.name_core.specs.Offices.{OfficeState, record_of, stamp_given, office_after, answer_to, office_case}
use Rattle.name_core.proofs.BlockLemmas.{record_of-with_record_same, record_of-with_new_record_same}
use Rattle.name_core.proofs.CaseLemmas.{each_case}
use Rattle.world.specs.ReplicaModel.Rows.{FullReplica}
use Rattle.world.specs.ReplicaModel.Found.{IsFront}
use Rattle.world.specs.RecoveryCore.OwnStep.{OwnStep}
use Rattle.world.specs.RecoveryCore.OwnStep.TheVariants as step
use Rattle.world.specs.RecoveryCore.Primaries.{sync_call}
use Rattle.world.specs.RecoveryCore.Primaries as primary
use Rattle.world.specs.WriterCore.Action.{Action}
use Rattle.world.specs.WriterCore.Action.TheVariants as action
use Rattle.world.specs.WriterCore.Phase.{Phase}
use Rattle.world.specs.WriterCore.Phase.TheVariants as phase
use Rattle.world.specs.WriterCore.Setup.TheVariants as setup
use Rattle.world.specs.WriterCore.WriterRecord.{WriterRecord}
use Rattle.world.specs.WriterCore.Transitions.{own_step, granted, is_connected}
use Rattle.world.specs.WriterCore.Sound.{Sound}
use Rattle.world.proofs.WriterCore.SoundLemmas.{granted_sound}
use Rattle.world.specs.declared.events.Caller.{Caller}
use Rattle.world.specs.declared.events.Caller.TheVariants as caller
use Rattle.world.specs.Parts.{Message, by_primary, Lower, Break, Told, Writing, Leading, Primary, no_primary, was_told, leads, has_led}
use Rattle.world.specs.Worlds.{Past, World, Stamped, Change, put, add, latest_with, past_after, apply}
use Rattle.world.specs.Connections.{is_alive}
use Rattle.world.specs.Primaries.{stamped_by, base_of, session_begun, asks_writer, asks_primary, writer_asks, primary_commits, primary_asks, office_event}
use Rattle.world_laws.proofs.FactTables.{if-each, when-each, some-weaker}
use Rattle.world_laws.specs.Sessions.{IsCommitted}
use Rattle.world_laws.proofs.Sessions.{refused-stamp}
use Rattle.world_laws.proofs.OfficeSteps.{AsksAs, Asking, own-step-asking, block_in, keeps-other, asks-block, IsPrimarys}
use Rattle.world_laws.specs.Stamping.{Givens, given_with, heard, Entries, HeldOf, Recorded}
use Rattle.world_laws.proofs.StampGivens.{put-here, put-new}
use Rattle.world_laws.proofs.StampWalking.{none-is}
use Rattle.world_laws.proofs.StampRecording.{gives, given-each, others-latest, other-block, HeldBefore, below-of, known-of, held-id, Agreed, none-heard, none-stamp}
use Rattle.world_laws.specs.Carrying.{DownSays, UpSays, ReplicaSays, BreakSays, LowerSays, ConnSays, LiesIn, IsRecovery, WriterSays, EntrySays, ToldSays, LeadingSays, PrimarySays, LedBy, Carried}
use Rattle.world_laws.proofs.Fronts.{front-refl}
use Rattle.world_laws.proofs.ByteLater.{Later, replica-later, break-later, lower-later, primary-later, led-later}
use Rattle.world_laws.proofs.ByteFrame.{Each, each-nil, Extends, change-later, added-other, unwritten, asks-later, conn-later, writer-later, entry-later, keeps}
use Rattle.world_laws.proofs.ByteLeaves.{Facts, before-of, one-session}
use Rattle.world_laws.proofs.BytePinned.{Pins, PinsIn, own-step-pins}
use Rattle.world_laws.proofs.ByteAnswers.{OwnSays, BlockSays, created-says, appended-says, entry-stays, stamped-says, committed-says, completed-says, refused-own}
use Rattle.world_laws.proofs.ByteLeading.{CommitSays, commit-says}

-- WHAT IS GIVEN

-- a session that begins is named by the next stamp, or no bytes are given
abbrev BeginsBy : World → OfficeCall → Step OfficeState OfficeAnswer → Type 0
BeginsBy w c s = (base_of w (reply s) ≡ []) ⊎ (session_begun (stamped_by w c (reply s)) ≡ w.office.next.0)

begins : (w : World) (c : OfficeCall) → BeginsBy w c (office_case w.office c)
begins w c = each_case w.office (BeginsBy w) (record {
  refused = λ d e. inl refl;
  created = λ block members none. inl refl;
  appended = λ block r is shut short. inr refl;
  stamped = λ block r is writers. inl refl;
  committed = λ block stamp members r is writers new. inl refl;
  completed = λ block stamp bytes r is writers new. inl refl;
  begun = λ block r is is_open. inl refl;
  synced = λ block id bytes members r is is_open latest. inl refl;
}) c

-- the tables before and after
pub office-extends : (g : Givens) (w : World) (c : OfficeCall) → Recorded g w → Extends g (given_with g (stamped_by w c (answer_to w.office c)))
office-extends g w c r = record {
  before = before-of g w r;
  given = λ b t e q. kept b t e q (stamped_by w c (answer_to w.office c)) (gives w c).fresh;
  old = λ b d t u s e q i le.
      given-each (λ (b t s : ℕ). t ≤ u → g b t ≡ Some s) g (stamped_by w c (answer_to w.office c)) (new u (r.below d u e i) (stamped_by w c (answer_to w.office c)) (gives w c).fresh) (λ b t s q _. q) b t s q le;
}
  where
    n : ℕ
    n = w.office.next.0

    m : ℕ
    m = (office_after w.office c).next.0

    kept : (b t e : ℕ) → g b t ≡ Some e → (s : Option Stamped) → IfSome s (λ x. (x.stamp ≡ n) × (x.block ≡ (block_in c).0) × (x.stamp < m)) → given_with g s b t ≡ Some e
    kept b t e q None f = q
    kept b t e q (Some s) f =
        if-each (λ (h : ℕ → Option ℕ). h t ≡ Some e) (b == s.block) (put (g s.block) s.stamp (Some s.session)) (g b)
        (λ i. if-each (λ (o : Option ℕ). o ≡ Some e) (t == s.stamp) (Some s.session) (g s.block t) (λ j. absurd (omega (arith, r.below b t e q, f.0, eqb-true t s.stamp j))) (λ _. ap (λ (d : ℕ). g d t) (sym (eqb-true b s.block i)) ∙ q))
        (λ _. q)

    new : (u : ℕ) → u < n → (s : Option Stamped) → IfSome s (λ x. (x.stamp ≡ n) × (x.block ≡ (block_in c).0) × (x.stamp < m)) → IfSome s (λ x. x.stamp ≤ u → g x.block x.stamp ≡ Some x.session)
    new u lt None f = tt
    new u lt (Some s) f = λ le. absurd (omega (arith, lt, f.0, le))

-- what was given before is what is given below the next stamp
back-of : (g : Givens) (w : World) (c : OfficeCall) (b t e : ℕ) → t < w.office.next.0 → given_with g (stamped_by w c (answer_to w.office c)) b t ≡ Some e → g b t ≡ Some e
back-of g w c b t e lt q =
    given-each (λ (b t e : ℕ). t < w.office.next.0 → g b t ≡ Some e) g (stamped_by w c (answer_to w.office c)) (new (stamped_by w c (answer_to w.office c)) (gives w c).fresh) (λ b t e q _. q) b t e q lt
  where
    new : (s : Option Stamped) → IfSome s (λ x. (x.stamp ≡ w.office.next.0) × (x.block ≡ (block_in c).0) × (x.stamp < (office_after w.office c).next.0)) → IfSome s (λ x. x.stamp < w.office.next.0 → g x.block x.stamp ≡ Some x.session)
    new None f = tt
    new (Some s) f = λ less. absurd (omega (arith, f.0, less))

-- the latest session of a block lies below the next stamp
latest-below : (g : Givens) (w : World) → Recorded g w → (b : ℕ) → w.latest b < w.office.next.0
latest-below g w r b = go (record_of w.office (record { 0 = b })) (r.blocks b)
  where
    go : (o : Option BlockRecord) → HeldOf (g b) (w.latest b) o (heard (w.writers b)) → w.latest b < w.office.next.0
    go None h = omega (arith, h.0, r.first)
    go (Some e) h = r.below b (w.latest b) (w.latest b) h.office.begins

-- A change of the office: bytes go to a session that begins, or nowhere.
pub record Answered (w : World) (c : OfficeCall) (k : Change) : Type 0 where
  pub office : k.office ≡ office_after w.office c
  pub stamped : k.stamped ≡ stamped_by w c (answer_to w.office c)
  pub session : k.session ≡ session_begun (stamped_by w c (answer_to w.office c))
  pub bytes : k.bytes ≡ base_of w (answer_to w.office c)

pub old-written : (g : Givens) (w : World) (c : OfficeCall) (k : Change) → Answered w c k → (s : ℕ) → s < w.office.next.0 → (past_after w k).written s ≡ w.written s
old-written g w c k a s lt = unwritten w k s (λ e. go (begins w c) (e ∙ a.session))
  where
    go : ((base_of w (answer_to w.office c) ≡ []) ⊎ (session_begun (stamped_by w c (answer_to w.office c)) ≡ w.office.next.0)) → s ≡ session_begun (stamped_by w c (answer_to w.office c)) → k.bytes ≡ []
    go (inl e) i = a.bytes ∙ e
    go (inr e) i = absurd (omega (arith, lt, i, e))

office-later : (g : Givens) (w : World) (c : OfficeCall) (k : Change) → Recorded g w → Answered w c k → Later g (given_with g (stamped_by w c (answer_to w.office c))) w.past (past_after w k)
office-later g w c k r a =
    change-later g (given_with g (stamped_by w c (answer_to w.office c))) w k (office-extends g w c r) (λ b t s q. inl (old-written g w c k a s (omega (arith, before-of g w r b t s q, r.below b t s q))))

-- BLOCKS THAT STAY

stay-writer : (g : Givens) (w : World) (c : OfficeCall) (k : Change) (h : Facts g w) → Answered w c k → (d : ℕ) → latest_with w.latest (stamped_by w c (answer_to w.office c)) d ≡ w.latest d
    → WriterSays (given_with g (stamped_by w c (answer_to w.office c))) (past_after w k) d (latest_with w.latest (stamped_by w c (answer_to w.office c)) d) (w.writers d)
stay-writer g w c k h a d e =
    let f = given_with g (stamped_by w c (answer_to w.office c)) in
    let p = past_after w k in
    let lt = latest-below g w h.recorded d in
    subst (λ (l : ℕ). WriterSays f p d l (w.writers d)) (sym e)
    (writer-later g f w.past p d (w.latest d) (w.writers d) (office-later g w c k h.recorded a) (λ q. back-of g w c d (w.latest d) (w.latest d) lt q) (λ _. old-written g w c k a (w.latest d) lt) (h.carried.writers d))

committed-below : (g : Givens) (w : World) → Recorded g w → (d : ℕ) (r : BlockRecord) → record_of w.office (record { 0 = d }) ≡ Some r → r.committed.0 < w.office.next.0
committed-below g w i d r e =
    let x = known-of (g d) (w.latest d) (record_of w.office (record { 0 = d })) r (heard (w.writers d)) e (i.blocks d) in i.below d r.committed.0 x.base x.office.committed

stay-entry : (g : Givens) (w : World) (c : OfficeCall) (k : Change) (h : Facts g w) → Answered w c k → (d : ℕ) → latest_with w.latest (stamped_by w c (answer_to w.office c)) d ≡ w.latest d
    → (o : Option BlockRecord) → record_of w.office (record { 0 = d }) ≡ o → IfSome o (EntrySays (given_with g (stamped_by w c (answer_to w.office c)) d) (past_after w k) (latest_with w.latest (stamped_by w c (answer_to w.office c)) d))
stay-entry g w c k h a d e None i = tt
stay-entry g w c k h a d e (Some r) i =
    let f = given_with g (stamped_by w c (answer_to w.office c)) in
    let p = past_after w k in
    subst (λ (l : ℕ). EntrySays (f d) p l r) (sym e)
    (entry-later g f w.past p d (w.latest d) r (office-later g w c k h.recorded a) (λ m q. back-of g w c d r.committed.0 m (committed-below g w h.recorded d r i) q)
    (λ _ _. inr (old-written g w c k a (w.latest d) (latest-below g w h.recorded d))) (subst (λ (o : Option BlockRecord). IfSome o (EntrySays (g d) w.past (w.latest d))) i (h.carried.entries d)))

-- THE FRAME

-- what is new in an office event, but for its own block
record OfficeNews (g : Givens) (w : World) (k : Change) (f : Givens) : Type 0 where
  pub primary : PrimarySays f (past_after w k) k.primary
  pub leads : (c place : ℕ) → c < w.next_conn → (w.dialled c).upper ≡ by_primary k.primary_at place → LedBy (past_after w k) c k.primary
  pub writers : (b : ℕ) → WriterSays f (past_after w k) b (latest_with w.latest k.stamped b) (put w.writers k.writer_at k.writer b)
  pub entries : (b : ℕ) → IfSome (record_of k.office (record { 0 = b })) (EntrySays (f b) (past_after w k) (latest_with w.latest k.stamped b))

-- the nodes stay, and nothing is sent
record OfficeBeside (w : World) (k : Change) : Type 0 where
  pub replica : k.replica ≡ w.replicas k.node k.block
  pub broke : k.broke ≡ w.breaks k.node k.block
  pub lower : k.lower ≡ w.lowers k.lower_at
  pub downs : (c : ℕ) → k.downs c ≡ []
  pub ups : (c : ℕ) → k.ups c ≡ []
  pub dials : k.dials ≡ []

office-keeps : (g : Givens) (w : World) (c : OfficeCall) (k : Change) → Facts g w → Answered w c k → OfficeBeside w k
    → (Later g (given_with g (stamped_by w c (answer_to w.office c))) w.past (past_after w k) → OfficeNews g w k (given_with g (stamped_by w c (answer_to w.office c))))
    → Carried (given_with g (stamped_by w c (answer_to w.office c))) (apply w k)
office-keeps g w c k h a s news =
    let f = given_with g (stamped_by w c (answer_to w.office c)) in
    let p = past_after w k in
    let y = office-later g w c k h.recorded a in
    let n = news y in
    keeps g f w k h.carried y (record {
      replica = subst (λ (x : FullReplica). ReplicaSays f p k.block x) (sym s.replica) (replica-later g f w.past p k.block (w.replicas k.node k.block) y (h.carried.replicas k.node k.block));
      broke = subst (λ (o : Option Break). IfSome o (BreakSays f p k.block)) (sym s.broke)
          (some-weaker (BreakSays g w.past k.block) (BreakSays f p k.block) (w.breaks k.node k.block) (λ x z. break-later g f w.past p k.block x y z) (h.carried.breaks k.node k.block));
      lower = subst (λ (x : Lower). LowerSays p k.lower_at x) (sym s.lower) (lower-later g f w.past p k.lower_at (w.lowers k.lower_at) y (h.carried.lowers k.lower_at));
      downs = λ d. subst (λ (ms : List Message). Each (DownSays f p d) ms) (sym (s.downs d)) (each-nil (DownSays f p d));
      ups = λ d. subst (λ (ms : List Message). Each (UpSays f p d) ms) (sym (s.ups d)) (each-nil (UpSays f p d));
      dials = λ i x e. absurd (none-some x (sym (ap (λ xs. slice_get xs i) s.dials) ∙ e));
      led = λ i place j x e u. absurd (none-some x (sym (ap (λ xs. slice_get xs i) s.dials) ∙ e));
      primary = n.primary;
      leads = n.leads;
      writers = n.writers;
      entries = n.entries;
    })

-- THE CALL'S BLOCK

-- what is held of the block of a call, before it, of this writer
record OfBlock (g : Givens) (w : World) (c : OfficeCall) (x : WriterRecord) : Type 0 where
  pub held : HeldBefore g w c x
  pub own : OwnSays (g (block_in c).0) w.past (w.latest (block_in c).0) x
  pub entry : IfSome (record_of w.office (block_in c)) (EntrySays (g (block_in c).0) w.past (w.latest (block_in c).0))

-- what the past after a call is
record PastOf (g : Givens) (w : World) (s : Option Stamped) (bytes : List ℕ) (p : Past) : Type 0 where
  pub later : Later g (given_with g s) w.past p
  pub wrote : (n : ℕ) → p.written n ≡ add w.written (session_begun s) bytes n

abbrev PastBy : Givens → World → OfficeCall → Step OfficeState OfficeAnswer → Past → Type 0
PastBy g w c s p = PastOf g w (stamped_by w c (reply s)) (base_of w (reply s)) p

abbrev AfterCall : Givens → World → OfficeCall → Step OfficeState OfficeAnswer → Past → WriterRecord → Type 0
AfterCall g w c s p y =
    BlockSays (given_with g (stamped_by w c (reply s)) (block_in c).0) p (latest_with w.latest (stamped_by w c (reply s)) (block_in c).0) (record_of (state_after w.office s) (block_in c)) y

wrote-none : (g : Givens) (w : World) (s : Option Stamped) (p : Past) → PastOf g w s [] p → (n : ℕ) → p.written n ≡ w.written n
wrote-none g w s p a n = a.wrote n ∙ added-other w.written (session_begun s) [] n (λ _. refl)

place-says : (f k : ℕ → Option ℕ) (p : Past) (l m : ℕ) (o q : Option BlockRecord) (y : WriterRecord) → k ≡ f → m ≡ l → q ≡ o → BlockSays f p l o y → BlockSays k p m q y
place-says f k p l m o q y e i j h = rw e (rw i (rw j h))

entry-of : (f : ℕ → Option ℕ) (p : Past) (l : ℕ) (o : Option BlockRecord) (r : BlockRecord) → o ≡ Some r → IfSome o (EntrySays f p l) → EntrySays f p l r
entry-of f p l o r e h = subst (λ (q : Option BlockRecord). IfSome q (EntrySays f p l)) e h

-- a writer and an entry in a later past with the same bytes
own-later : (g : Givens) (w : World) (b l : ℕ) (x : WriterRecord) (p : Past) → Later g g w.past p → p.written l ≡ w.written l → OwnSays (g b) w.past l x → OwnSays (g b) p l x
own-later g w b l x p y e h = record { queue = h.queue; own = h.own; are = λ q. h.are q ∙ sym e; streams = h.streams; asks = asks-later g g w.past p b l x.committed x.stream x.phase y h.asks }

refused-says : (g : Givens) (w : World) (c : OfficeCall) (x y : WriterRecord) (p : Past) (s : Option Stamped) → s ≡ None → OfBlock g w c x → PastOf g w s [] p → ((f : ℕ → Option ℕ) (l : ℕ) → OwnSays f p l x → OwnSays f p l y)
    → BlockSays (given_with g s (block_in c).0) p (latest_with w.latest s (block_in c).0) (record_of w.office (block_in c)) y
refused-says g w c x y p s e h a k =
    let b = (block_in c).0 in
    let same = wrote-none g w s p a in
    let later : Later g g w.past p = subst (λ (o : Option Stamped). Later g (given_with g o) w.past p) e a.later in
    subst (λ (o : Option Stamped). BlockSays (given_with g o b) p (latest_with w.latest o b) (record_of w.office (block_in c)) y) (sym e) (record {
      writer = k (g b) (w.latest b) (own-later g w b (w.latest b) x p later (same (w.latest b)) h.own);
      entry = some-weaker (EntrySays (g b) w.past (w.latest b)) (EntrySays (g b) p (w.latest b)) (record_of w.office (block_in c))
          (λ r z. entry-later g g w.past p b (w.latest b) r later (λ d q. q) (λ d _. inr (same (w.latest b))) z) h.entry;
    })

abbrev WriterMakes : Givens → World → WriterRecord → OfficeCall → Step OfficeState OfficeAnswer → Type 0
WriterMakes g w x c s = (p : Past) → PastBy g w c s p → AsksAs x c → Pins x c → OfBlock g w c x → IsCommitted w.office (block_in c) x.committed → AfterCall g w c s p (granted x (reply s))

lt-true : (a b : ℕ) → nat_lt a b ≡ true → a < b
lt-true a b e = grind (arith, nat_tests, e)

-- the new session's bytes
added-new : (f : ℕ → List ℕ) (n : ℕ) (xs : List ℕ) → f n ≡ [] → add f n xs n ≡ xs
added-new f n xs e = if-each (λ (v : List ℕ). v ≡ xs) (n == n) (f n ++ xs) (f n) (λ _. ap (λ (v : List ℕ). v ++ xs) e) (λ q. absurd (eqb-false n n q refl))

writer-makes : (g : Givens) (w : World) (x : WriterRecord) → Facts g w → (c : OfficeCall) → WriterMakes g w x c (office_case w.office c)
writer-makes g w x h c = each_case w.office (WriterMakes g w x) (record {
  refused = λ d e. λ p a asks pins k agrees. refused-says g w d x (granted x (Err e)) p (stamped_by w d (Err e)) (refused-stamp w d e) k a (λ f l z. refused-own f p l x e z);
  created = λ block members none. λ p a asks pins k agrees.
      place-says _ _ p _ _ _ _ (granted x (Ok (office.Stamp n))) (put-here g block.0 _) (put-here w.latest block.0 _) (record_of-with_new_record_same (stamp_given w.office) block (opened members n))
      (created-says (g block.0) p n.0 members x (a.wrote n.0 ∙ added-new w.written n.0 [] empty) asks.at k.own.queue);
  appended = λ block r is shut short. λ p a asks pins k agrees.
      let v = known-of (g block.0) (w.latest block.0) (record_of w.office block) r x is k.held in
      let base : w.session_of r.committed.0 ≡ v.base = h.recorded.session block.0 r.committed.0 v.base v.office.committed in
      let low : v.base < n.0 = omega (arith, h.recorded.below block.0 r.committed.0 v.base v.office.committed, v.office.before r.committed.0 v.base v.office.committed) in
      place-says _ _ p _ _ _ _ (granted x (Ok (office.Reopened (record { committed = r.committed; length = r.length; new = n })))) (put-here g block.0 _) (put-here w.latest block.0 _)
      (record_of-with_record_same (stamp_given w.office) block r (record r { is_open = true; recovery = None }) is)
      (appended-says (g block.0) w.past p n.0 (w.latest block.0) v.base r x (below-of g w block.0 h.recorded) shut short asks.at k.own.queue v.office (entry-of (g block.0) w.past (w.latest block.0) (record_of w.office block) r is k.entry)
      (a.wrote v.base ∙ added-other w.written n.0 _ v.base (λ e. absurd (omega (arith, low, e))))
      (a.wrote n.0 ∙ added-new w.written n.0 _ empty ∙ ap (λ (s : ℕ). take r.length (w.written s)) base));
  stamped = λ block r is writers. λ p a asks pins k agrees.
      let v = known-of (g block.0) (w.latest block.0) (record_of w.office block) r x is k.held in
      let same = wrote-none g w (stamped_by w (call.NewStamp block) (Ok (office.Stamp n))) p a in
      place-says _ _ p _ _ _ _ (granted x (Ok (office.Stamp n))) (put-here g block.0 _) (put-here w.latest block.0 _) (record_of-with_record_same (stamp_given w.office) block r r is)
      (stamped-says (g block.0) w.past p n.0 (w.latest block.0) r x asks.way v (below-of g w block.0 h.recorded) writers (agrees r is writers.lease) asks.at asks.again k.own
      (entry-of (g block.0) w.past (w.latest block.0) (record_of w.office block) r is k.entry) (same (w.latest block.0)) (same v.base));
  committed = λ block stamp members r is writers new. λ p a asks pins k agrees.
      let v = known-of (g block.0) (w.latest block.0) (record_of w.office block) r x is k.held in
      place-says _ _ p _ _ _ _ (granted x (Ok office.Nothing)) refl refl (record_of-with_record_same w.office block r (record r { committed = stamp; members = members }) is)
      (committed-says (g block.0) w.past p (w.latest block.0) r x stamp members asks.way v writers asks.at asks.later k.own (wrote-none g w None p a (w.latest block.0)));
  completed = λ block stamp bytes r is writers new. λ p a asks pins k agrees.
      let v = known-of (g block.0) (w.latest block.0) (record_of w.office block) r x is k.held in
      place-says _ _ p _ _ _ _ (granted x (Ok office.Nothing)) refl refl (record_of-with_record_same w.office block r (record r { is_open = false; length = bytes }) is)
      (completed-says (g block.0) w.past p (w.latest block.0) r x bytes v writers (agrees r is writers.lease) asks.at pins k.own (wrote-none g w None p a (w.latest block.0)));
  begun = λ block r is is_open. λ p a asks pins k agrees. absurd asks;
  synced = λ block id bytes members r is is_open latest. λ p a asks pins k agrees. absurd asks;
}) c
  where
    n : Stamp
    n = w.office.next

    empty : w.written w.office.next.0 ≡ []
    empty = h.unused w.office.next.0 (omega arith)

-- WHAT A PRIMARY ASKS

-- the length that a call brings lies in the session of its id
abbrev CallSays : Givens → Past → OfficeCall → Type 0
CallSays g p (call.CommitSync b id bytes members) = LiesIn g p id bytes
CallSays g p _ = Unit {0}

record PrimaryAfter (g : Givens) (w : World) (c : OfficeCall) (s : Step OfficeState OfficeAnswer) (p : Past) : Type 0 where
  pub entry : IfSome (record_of (state_after w.office s) (block_in c)) (EntrySays (given_with g (stamped_by w c (reply s)) (block_in c).0) p (latest_with w.latest (stamped_by w c (reply s)) (block_in c).0))
  pub latest : latest_with w.latest (stamped_by w c (reply s)) (block_in c).0 ≡ w.latest (block_in c).0
  pub told : ToldSays (given_with g (stamped_by w c (reply s))) p (block_in c).0 (reply s)

abbrev PrimaryMakes : Givens → World → WriterRecord → OfficeCall → Step OfficeState OfficeAnswer → Type 0
PrimaryMakes g w x c s = (p : Past) → PastBy g w c s p → IsPrimarys c → CallSays g w.past c → HeldBefore g w c x → IfSome (record_of w.office (block_in c)) (EntrySays (g (block_in c).0) w.past (w.latest (block_in c).0)) → PrimaryAfter g w c s p

place-entry : (f k : ℕ → Option ℕ) (p : Past) (l m : ℕ) (o q : Option BlockRecord) → k ≡ f → m ≡ l → q ≡ o → IfSome o (EntrySays f p l) → IfSome q (EntrySays k p m)
place-entry f k p l m o q e i j h = rw e (rw i (rw j h))

refused-entry : (g : Givens) (w : World) (c : OfficeCall) (p : Past) (s : Option Stamped) → s ≡ None → PastOf g w s [] p → IfSome (record_of w.office (block_in c)) (EntrySays (g (block_in c).0) w.past (w.latest (block_in c).0))
    → IfSome (record_of w.office (block_in c)) (EntrySays (given_with g s (block_in c).0) p (latest_with w.latest s (block_in c).0))
refused-entry g w c p s e a h =
    let b = (block_in c).0 in
    let same = wrote-none g w s p a in
    let later : Later g g w.past p = subst (λ (o : Option Stamped). Later g (given_with g o) w.past p) e a.later in
    subst (λ (o : Option Stamped). IfSome (record_of w.office (block_in c)) (EntrySays (given_with g o b) p (latest_with w.latest o b))) (sym e)
    (some-weaker (EntrySays (g b) w.past (w.latest b)) (EntrySays (g b) p (w.latest b)) (record_of w.office (block_in c)) (λ r z. entry-later g g w.past p b (w.latest b) r later (λ d q. q) (λ d _. inr (same (w.latest b))) z) h)

none-given : (f : ℕ → ℕ) (s : Option Stamped) (b : ℕ) → s ≡ None → latest_with f s b ≡ f b
none-given f s b e = subst (λ (o : Option Stamped). latest_with f o b ≡ f b) (sym e) refl

-- the recovery that begins
begun-recovery : (g : Givens) (w : World) (p : Past) (b : ℕ) (r : BlockRecord) (x : WriterRecord) (v : Entries (g b) (w.latest b) r x) → Recorded g w → EntrySays (g b) w.past (w.latest b) r
    → ((n : ℕ) → p.written n ≡ w.written n) → IsRecovery (put g b (put (g b) w.office.next.0 (Some (w.session_of r.committed.0)))) p b r.committed w.office.next
begun-recovery g w p b r x v i e same =
    let n = w.office.next.0 in
    let base : w.session_of r.committed.0 ≡ v.base = i.session b r.committed.0 v.base v.office.committed in
    let at : (t : ℕ) → put g b (put (g b) n (Some (w.session_of r.committed.0))) b t ≡ put (g b) n (Some v.base) t =
    λ t. ap (λ (f : ℕ → Option ℕ). f t) (put-here g b (put (g b) n (Some (w.session_of r.committed.0)))) ∙ ap (λ (m : ℕ). put (g b) n (Some m) t) base in
    record {
      session = v.base;
      given = at n ∙ put-here (g b) n (Some v.base);
      fronts = λ t d q low high.
          put-new (λ (t d : ℕ). r.committed.0 ≤ t → t < n → IsFront (p.written d) (p.written v.base)) (g b) n v.base (λ _ less. absurd (omega (arith, less)))
          (λ t d k le _. go d (v.office.two t d k le)) t d (sym (at t) ∙ q) low high;
    }
  where
    go : (d : ℕ) → ((d ≡ v.base) ⊎ (d ≡ w.latest b)) → IsFront (p.written d) (p.written v.base)
    go d (inl q) = subst (λ (m : ℕ). IsFront (p.written m) (p.written v.base)) (sym q) (front-refl (p.written v.base))
    go d (inr q) =
        subst (λ (m : ℕ). IsFront (p.written m) (p.written v.base)) (sym q)
        (subst (λ (z : List ℕ). IsFront z (p.written v.base)) (sym (same (w.latest b))) (subst (λ (z : List ℕ). IsFront (w.written (w.latest b)) z) (sym (same v.base)) (e.front v.base v.office.committed)))

-- a recovery that is done
synced-entry : (g : Givens) (w : World) (p : Past) (b : ℕ) (r : BlockRecord) (x : WriterRecord) (id : Stamp) (bytes : ℕ) (members : List NodeId) (v : Entries (g b) (w.latest b) r x) → Recorded g w → r.is_open ≡ true → r.recovery ≡ Some id
    → EntrySays (g b) w.past (w.latest b) r → LiesIn g w.past id bytes → ((n : ℕ) → p.written n ≡ w.written n)
    → EntrySays (g b) p (w.latest b) (record r { is_open = false; committed = id; members = members; length = bytes })
synced-entry g w p b r x id bytes members v i is_open held e lies same = record {
  front = λ d q. subst (λ (m : ℕ). IsFront (p.written (w.latest b)) (p.written m)) (at d q)
      (subst (λ (z : List ℕ). IsFront z (p.written v.base)) (sym (same (w.latest b))) (subst (λ (z : List ℕ). IsFront (w.written (w.latest b)) z) (sym (same v.base)) (e.front v.base v.office.committed)));
  length = λ _ d q. omega (arith, lies.within, ap (λ (m : ℕ). length (w.written m)) (one-session g w i lies.block b id.0 lies.session d lies.given q), ap (λ (z : List ℕ). length z) (same d));
}
  where
    at : (d : ℕ) → g b id.0 ≡ Some d → v.base ≡ d
    at d q = same_Some v.base d (sym (v.office.held is_open id held).session ∙ q)

primary-makes : (g : Givens) (w : World) (x : WriterRecord) → Facts g w → (c : OfficeCall) → PrimaryMakes g w x c (office_case w.office c)
primary-makes g w x h c = each_case w.office (PrimaryMakes g w x) (record {
  refused = λ d e. λ p a i lies k n. record { entry = refused-entry g w d p (stamped_by w d (Err e)) (refused-stamp w d e) a n; latest = none-given w.latest (stamped_by w d (Err e)) (block_in d).0 (refused-stamp w d e); told = tt };
  created = λ block members none. λ p a i lies k n. absurd i;
  appended = λ block r is shut short. λ p a i lies k n. absurd i;
  stamped = λ block r is writers. λ p a i lies k n. absurd i;
  committed = λ block stamp members r is writers new. λ p a i lies k n. absurd i;
  completed = λ block stamp bytes r is writers new. λ p a i lies k n. absurd i;
  begun = λ block r is is_open. λ p a i lies k n.
      let v = known-of (g block.0) (w.latest block.0) (record_of w.office block) r x is k in
      let e = entry-of (g block.0) w.past (w.latest block.0) (record_of w.office block) r is n in
      let s : Option Stamped = stamped_by w (call.BeginRecovery block) (Ok (office.Begun (record { id = w.office.next; committed = r.committed }))) in
      let same = wrote-none g w s p a in
      let here = put-here g block.0 (put (g block.0) w.office.next.0 (Some (w.session_of r.committed.0))) in
      record {
        entry = place-entry _ _ p _ _ _ _ here (put-here w.latest block.0 (w.latest block.0)) (record_of-with_record_same (stamp_given w.office) block r (record r { recovery = Some w.office.next }) is)
            (entry-stays (g block.0) (put (g block.0) w.office.next.0 (Some (w.session_of r.committed.0))) w.past p (w.latest block.0) v.base r (record r { recovery = Some w.office.next }) refl refl refl
            (λ d q. put-new (λ (t d : ℕ). t < w.office.next.0 → g block.0 t ≡ Some d) (g block.0) w.office.next.0 (w.session_of r.committed.0) (λ less. absurd (omega (arith, less))) (λ t d m _. m) r.committed.0 d q
            (h.recorded.below block.0 r.committed.0 v.base v.office.committed)) v.office.committed (same (w.latest block.0)) (same v.base) e);
        latest = put-here w.latest block.0 (w.latest block.0);
        told = begun-recovery g w p block.0 r x v h.recorded e same;
      };
  synced = λ block id bytes members r is is_open latest. λ p a i lies k n.
      let v = known-of (g block.0) (w.latest block.0) (record_of w.office block) r x is k in
      let e = entry-of (g block.0) w.past (w.latest block.0) (record_of w.office block) r is n in
      record {
        entry = place-entry _ _ p _ _ _ _ refl refl (record_of-with_record_same w.office block r (record r { is_open = false; committed = id; members = members; length = bytes }) is)
            (synced-entry g w p block.0 r x id bytes members v h.recorded is_open (held-id r.recovery id latest) e lies (wrote-none g w None p a));
        latest = refl;
        told = tt;
      };
}) c

-- WRITERS THAT ASK

-- a writer that asks for a session has no connection
abbrev Wants : OfficeCall → Type 0
Wants (call.Create b members) = Unit {0}
Wants (call.Append b) = Unit {0}
Wants _ = ⊥

unconnected : (x : WriterRecord) (c : OfficeCall) → AsksAs x c → Wants c → is_connected x.phase ≡ true → ⊥
unconnected x (call.Create b members) a k e = go (subst (λ (p : Phase). is_connected p ≡ true) a.at e)
  where
    go : is_connected (phase.Wanted setup.Create) ≡ true → ⊥
    go z = cc
unconnected x (call.Append b) a k e = go (subst (λ (p : Phase). is_connected p ≡ true) a.at e)
  where
    go : is_connected (phase.Wanted setup.Append) ≡ true → ⊥
    go z = cc
unconnected x (call.NewStamp b) a k e = k
unconnected x (call.Commit b stamp members) a k e = k
unconnected x (call.Complete b stamp bytes) a k e = k
unconnected x (call.BeginRecovery b) a k e = k
unconnected x (call.CommitSync b id bytes members) a k e = k

-- the latest session stays, or the call asks for one
abbrev StaysOr : World → OfficeCall → Step OfficeState OfficeAnswer → Type 0
StaysOr w c s = Wants c ⊎ (latest_with w.latest (stamped_by w c (reply s)) (block_in c).0 ≡ w.latest (block_in c).0)

stays-or : (w : World) (c : OfficeCall) → StaysOr w c (office_case w.office c)
stays-or w c = each_case w.office (StaysOr w) (record {
  refused = λ d e. inr (none-given w.latest (stamped_by w d (Err e)) (block_in d).0 (refused-stamp w d e));
  created = λ block members none. inl tt;
  appended = λ block r is shut short. inl tt;
  stamped = λ block r is writers. inr (put-here w.latest block.0 (w.latest block.0));
  committed = λ block stamp members r is writers new. inr refl;
  completed = λ block stamp bytes r is writers new. inr refl;
  begun = λ block r is is_open. inr (put-here w.latest block.0 (w.latest block.0));
  synced = λ block id bytes members r is is_open latest. inr refl;
}) c

other-entry : (g : Givens) (w : World) (c : OfficeCall) (k : Change) (h : Facts g w) → Answered w c k → (d : ℕ) → (d ≡ (block_in c).0 → ⊥)
    → IfSome (record_of (office_after w.office c) (record { 0 = d })) (EntrySays (given_with g (stamped_by w c (answer_to w.office c)) d) (past_after w k) (latest_with w.latest (stamped_by w c (answer_to w.office c)) d))
other-entry g w c k h a d apart =
    let s = stamped_by w c (answer_to w.office c) in
    let f = given_with g s in
    let e = others-latest w.latest s (block_in c).0 d w.office.next.0 (office_after w.office c).next.0 (gives w c).fresh apart in
    subst (λ (o : Option BlockRecord). IfSome o (EntrySays (f d) (past_after w k) (latest_with w.latest s d))) (sym (keeps-other w.office c (record { 0 = d }) (other-block (block_in c) (record { 0 = d }) apart)))
    (stay-entry g w c k h a d e (record_of w.office (record { 0 = d })) refl)

asks-writer-keeps : (g : Givens) (w : World) (b : ℕ) (c : OfficeCall) → Facts g w → Agreed w → (w.writers b).told ≡ None → AsksAs (w.writers b).known c → Pins (w.writers b).known c
    → Carried (given_with g (asks_writer w b c).stamped) (apply w (asks_writer w b c))
asks-writer-keeps g w b c h agreed none a pins =
    office-keeps g w c k h ans (record { replica = refl; broke = refl; lower = refl; downs = λ _. refl; ups = λ _. refl; dials = refl }) (λ y. record {
      primary = primary-later g f w.past p (w.primaries 0) y (h.carried.primaries 0);
      leads = λ d place lt u. led-later g f w.past p d (w.primaries 0) y (h.carried.led d 0 place lt u);
      writers = λ d. if-each (λ (z : Writing). WriterSays f p d (latest_with w.latest s d) z) (d == b) answered (w.writers d)
          (λ e. subst (λ (n : ℕ). WriterSays f p n (latest_with w.latest s n) answered) (sym (eqb-true d b e)) (own y))
          (λ e. stay-writer g w c k h ans d (others-latest w.latest s (block_in c).0 d w.office.next.0 (office_after w.office c).next.0 (gives w c).fresh (λ q. eqb-false d b e (q ∙ at))));
      entries = λ d. entry y d (d == b) refl;
    })
  where
    x : WriterRecord
    x = (w.writers b).known

    answered : Writing
    answered = record (w.writers b) { told = Some (answer_to w.office c) }

    k : Change
    k = asks_writer w b c

    p : Past
    p = past_after w k

    s : Option Stamped
    s = stamped_by w c (answer_to w.office c)

    f : Givens
    f = given_with g s

    ans : Answered w c k
    ans = record { office = refl; stamped = refl; session = refl; bytes = refl }

    heard-is : heard (w.writers b) ≡ x
    heard-is = none-heard (w.writers b) none

    at : (block_in c).0 ≡ b
    at = ap (λ (q : BlockId). q.0) (asks-block x c a ∙ ap (λ (y : WriterRecord). y.block) (sym heard-is) ∙ h.recorded.writers b)

    says : WriterSays g w.past b (w.latest b) (w.writers b)
    says = h.carried.writers b

    own-before : OwnSays (g b) w.past (w.latest b) x
    own-before = subst (λ (y : WriterRecord). OwnSays (g b) w.past (w.latest b) y) heard-is (record { queue = says.queue; own = says.own; are = says.are; streams = says.streams; asks = says.asks })

    block : OfBlock g w c x
    block = record {
      held = subst (λ (n : ℕ). HeldOf (g n) (w.latest n) (record_of w.office (record { 0 = n })) x) (sym at) (subst (λ (y : WriterRecord). HeldOf (g b) (w.latest b) (record_of w.office (record { 0 = b })) y) heard-is (h.recorded.blocks b));
      own = subst (λ (n : ℕ). OwnSays (g n) w.past (w.latest n) x) (sym at) own-before;
      entry = h.carried.entries (block_in c).0;
    }

    agrees : IsCommitted w.office (block_in c) x.committed
    agrees = subst (λ (n : ℕ). IsCommitted w.office (record { 0 = n }) x.committed) (sym at) (subst (λ (t : Stamp). IsCommitted w.office (record { 0 = b }) t) (none-stamp (w.writers b) none) (agreed b))

    result : Later g f w.past p → BlockSays (f (block_in c).0) p (latest_with w.latest s (block_in c).0) (record_of (office_after w.office c) (block_in c)) (granted x (answer_to w.office c))
    result y = writer-makes g w x h c p (record { later = y; wrote = λ n. refl }) a pins block agrees

    conn-says : Later g f w.past p → (o : Option ℕ) → (w.writers b).conn ≡ o → IfSome o (ConnSays f p b (latest_with w.latest s b))
    conn-says y None e = tt
    conn-says y (Some d) e = go (stays-or w c)
      where
        old : ConnSays f p b (w.latest b) d
        old = conn-later g f w.past p b (w.latest b) d y (subst (λ (o : Option ℕ). IfSome o (ConnSays g w.past b (w.latest b))) e says.conn)

        go : (Wants c ⊎ (latest_with w.latest s (block_in c).0 ≡ w.latest (block_in c).0)) → ConnSays f p b (latest_with w.latest s b) d
        go (inl wants) = absurd (unconnected x c a wants (says.linked d e))
        go (inr same) = subst (λ (l : ℕ). ConnSays f p b l d) (sym (subst (λ (n : ℕ). latest_with w.latest s n ≡ w.latest n) at same)) old

    own : Later g f w.past p → WriterSays f p b (latest_with w.latest s b) answered
    own y =
        let z = subst (λ (n : ℕ). OwnSays (f n) p (latest_with w.latest s n) (granted x (answer_to w.office c))) at (result y).writer in
        record {
          conn = conn-says y (w.writers b).conn refl;
          linked = says.linked;
          sound = granted_sound x (answer_to w.office c) (subst Sound heard-is says.sound);
          queue = z.queue;
          own = z.own;
          are = z.are;
          streams = z.streams;
          asks = z.asks;
        }

    entry : Later g f w.past p → (d : ℕ) (t : Bool) → (d == b) ≡ t → IfSome (record_of (office_after w.office c) (record { 0 = d })) (EntrySays (f d) p (latest_with w.latest s d))
    entry y d true e = subst (λ (n : ℕ). IfSome (record_of (office_after w.office c) (record { 0 = n })) (EntrySays (f n) p (latest_with w.latest s n))) (at ∙ sym (eqb-true d b e)) (result y).entry
    entry y d false e = other-entry g w c k h ans d (λ q. eqb-false d b e (q ∙ at))

-- PRIMARIES THAT ASK

asks-primary-keeps : (g : Givens) (w : World) (i : ℕ) (c : OfficeCall) (q : Told → Primary) → Facts g w → IsPrimarys c → CallSays g w.past c
    → ((p : Past) → Later g (given_with g (stamped_by w c (answer_to w.office c))) w.past p → ToldSays (given_with g (stamped_by w c (answer_to w.office c))) p (block_in c).0 (answer_to w.office c)
    → PrimarySays (given_with g (stamped_by w c (answer_to w.office c))) p (q (answer_to w.office c)))
    → ((p : Past) → Later g (given_with g (stamped_by w c (answer_to w.office c))) w.past p → (d : ℕ) → LedBy w.past d (w.primaries i) → LedBy p d (q (answer_to w.office c)))
    → Carried (given_with g (asks_primary w i c q).stamped) (apply w (asks_primary w i c q))
asks-primary-keeps g w i c q h is lies says led =
    office-keeps g w c k h ans (record { replica = refl; broke = refl; lower = refl; downs = λ _. refl; ups = λ _. refl; dials = refl }) (λ y.
    let m = result y in
    record {
      primary = says p y m.told;
      leads = λ d place lt u. led p y d (h.carried.led d i place lt u);
      writers = λ d. if-each (λ (z : Writing). WriterSays f p d (latest_with w.latest s d) z) (d == 0) (w.writers 0) (w.writers d)
          (λ e. subst (λ (n : ℕ). WriterSays f p n (latest_with w.latest s n) (w.writers 0)) (sym (eqb-true d 0 e)) (stay-writer g w c k h ans 0 (latest m.latest 0)))
          (λ _. stay-writer g w c k h ans d (latest m.latest d));
      entries = λ d. entry y d (d == (block_in c).0) refl;
    })
  where
    k : Change
    k = asks_primary w i c q

    p : Past
    p = past_after w k

    s : Option Stamped
    s = stamped_by w c (answer_to w.office c)

    f : Givens
    f = given_with g s

    ans : Answered w c k
    ans = record { office = refl; stamped = refl; session = refl; bytes = refl }

    result : Later g f w.past p → PrimaryAfter g w c (office_case w.office c) p
    result y = primary-makes g w (heard (w.writers (block_in c).0)) h c p (record { later = y; wrote = λ n. refl }) is lies (h.recorded.blocks (block_in c).0) (h.carried.entries (block_in c).0)

    latest : latest_with w.latest s (block_in c).0 ≡ w.latest (block_in c).0 → (d : ℕ) → latest_with w.latest s d ≡ w.latest d
    latest e d = go (d == (block_in c).0) refl
      where
        go : (t : Bool) → (d == (block_in c).0) ≡ t → latest_with w.latest s d ≡ w.latest d
        go true j = subst (λ (n : ℕ). latest_with w.latest s n ≡ w.latest n) (sym (eqb-true d (block_in c).0 j)) e
        go false j = others-latest w.latest s (block_in c).0 d w.office.next.0 (office_after w.office c).next.0 (gives w c).fresh (eqb-false d (block_in c).0 j)

    entry : Later g f w.past p → (d : ℕ) (t : Bool) → (d == (block_in c).0) ≡ t → IfSome (record_of (office_after w.office c) (record { 0 = d })) (EntrySays (f d) p (latest_with w.latest s d))
    entry y d true e = subst (λ (n : ℕ). IfSome (record_of (office_after w.office c) (record { 0 = n })) (EntrySays (f n) p (latest_with w.latest s n))) (sym (eqb-true d (block_in c).0 e)) (result y).entry
    entry y d false e = other-entry g w c k h ans d (eqb-false d (block_in c).0 e)

-- OFFICE EVENTS

abbrev pub Carries : Givens → World → Change → Type 0
Carries g w k = Carried (given_with g k.stamped) (apply w k)

writer-asks-keeps : (g : Givens) (w : World) (b : ℕ) (a : Action) → Facts g w → Agreed w → (w.writers b).told ≡ None → Asking (w.writers b).known a → PinsIn (w.writers b).known a → IfSome (writer_asks a w b) (Carries g w)
writer-asks-keeps g w b action.Wait h y none q n = tt
writer-asks-keeps g w b action.Took h y none q n = tt
writer-asks-keeps g w b (action.Ask c) h y none q n = asks-writer-keeps g w b c h y none q n
writer-asks-keeps g w b (action.Dial to r) h y none q n = tt
writer-asks-keeps g w b (action.Send p) h y none q n = tt
writer-asks-keeps g w b (action.Answered i a) h y none q n = tt
writer-asks-keeps g w b action.Memory h y none q n = tt

commits-keeps : (g : Givens) (w : World) (i : ℕ) (l : Leading) (s : OwnStep) → Facts g w → w.primaries i ≡ leads l → CommitSays g w.past l.state.begun.id s → IfSome (primary_commits s w i l) (Carries g w)
commits-keeps g w i l step.Waits h e n = tt
commits-keeps g w i l (step.Updates c) h e n = tt
commits-keeps g w i l (step.Commits c) h e n =
    asks-primary-keeps g w i (sync_call l.state c) (λ told. leads (record l { told = Some told })) h tt n
    (λ p y _. let x : LeadingSays (given_with g (stamped_by w (sync_call l.state c) (answer_to w.office (sync_call l.state c)))) p l = primary-later g _ w.past p (leads l) y (subst (λ (z : Primary). PrimarySays g w.past z) e (h.carried.primaries i)) in
    record { recovery = x.recovery; conns = x.conns; standings = x.standings; phase = x.phase })
    (λ p y d k. led-later g _ w.past p d (leads l) y (subst (λ (z : Primary). LedBy w.past d z) e k))
commits-keeps g w i l (step.Ends r) h e n = tt

primary-asks-keeps : (x : Primary) (g : Givens) (w : World) (i : ℕ) (b : BlockId) → Facts g w → w.primaries i ≡ x → IfSome (primary_asks x w i b) (Carries g w)
primary-asks-keeps no_primary g w i b h e =
    asks-primary-keeps g w i (call.BeginRecovery b) (was_told b) h tt tt (λ p y t. t) (λ p y d k. absurd (subst (λ (z : Primary). LedBy w.past d z) e k))
primary-asks-keeps (was_told c t) g w i b h e = tt
primary-asks-keeps (leads l) g w i b h e =
    when-each (Carries g w) (is_alive w l.at && is_none l.told) _
    (λ _. commits-keeps g w i l (primary.own_step l.state).does h e (commit-says g w.past l (subst (λ (z : Primary). PrimarySays g w.past z) e (h.carried.primaries i))))
primary-asks-keeps (has_led r) g w i b h e = tt

pub office-event-keeps : (g : Givens) (w : World) (c : Caller) → Facts g w → Agreed w → IfSome (office_event w c) (Carries g w)
office-event-keeps g w (caller.Writer b) h y =
    when-each (Carries g w) (is_none (w.writers b.0).told) _
    (λ e. writer-asks-keeps g w b.0 (own_step (w.writers b.0).known).action h y (none-is (w.writers b.0).told e) (own-step-asking (w.writers b.0).known) (own-step-pins (w.writers b.0).known))
office-event-keeps g w (caller.Primary i b) h y = primary-asks-keeps (w.primaries i) g w i b h refl
