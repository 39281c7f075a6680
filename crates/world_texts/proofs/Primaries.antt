-- What primaries bring, and what the office answers.
use Rattle.std.proofs.Common.{◌≡◌, ℕ, ◌+◌, ◌<◌, ◌≤◌, ◌^◌, inl, Bool, true, false, List, [], ◌∷◌, length, slice_get, Option, Some, None, IfSome, Result, Ok, Err, refl, sym, ap, subst, arith}
use Rattle.std.specs.Prelude.{◌==◌, ◌&&◌, is_none, zip, if◌then◌else◌}
use Rattle.hd_base.specs.declared.numbers.BlockId.{BlockId}
use Rattle.hd_base.specs.declared.numbers.NodeId.{NodeId}
use Rattle.name_core.specs.declared.calls.Begun.{Begun}
use Rattle.name_core.specs.declared.calls.OfficeAnswer.{OfficeAnswer}
use Rattle.name_core.specs.declared.calls.OfficeAnswer.TheVariants as office
use Rattle.name_core.specs.declared.calls.OfficeCall.{OfficeCall}
use Rattle.name_core.specs.declared.calls.OfficeCall.TheVariants as call
use Rattle.name_core.specs.declared.choice.ChooseFault.{ChooseFault}
use Rattle.name_core.specs.declared.choice.Chosen.{Chosen}
use Rattle.name_core.specs.declared.records.BlockRecord.{BlockRecord}
use Rattle.name_core.specs.Choice.{choice}
use Rattle.name_core.specs.Offices.{OfficeState, record_of, answer_to, office_case}
use Rattle.name_core.specs.Steps.{Step, state_after, reply}
use Rattle.name_core.proofs.CaseLemmas.{each_case}
use Rattle.op_headers.specs.declared.nodes.NodeRef.{NodeRef}
use Rattle.op_headers.specs.declared.ops.Op.TheVariants as op
use Rattle.op_headers.specs.declared.ops.RecoveryKind.{RecoveryKind}
use Rattle.op_headers.specs.declared.ops.RecoveryKind.TheVariants as kind
use Rattle.op_headers.specs.Recoveries.{HasItsLength, HasItsTargets}
use Rattle.world_laws.specs.RecoveryCore.OwnStep.{OwnStep}
use Rattle.world_laws.specs.RecoveryCore.OwnStep.TheVariants as own
use Rattle.world_laws.specs.RecoveryCore.Phase.{Phase}
use Rattle.world_laws.specs.RecoveryCore.Phase.TheVariants as phase
use Rattle.world_laws.specs.RecoveryCore.Heard.{Heard}
use Rattle.world_laws.specs.RecoveryCore.Standing.{Standing}
use Rattle.world_laws.specs.RecoveryCore.Primaries.{PrimaryState, OwnTaken, taken, begun_with, infos, updated_members, choosing, committing, own_at, own_step, waits, request_of, heard_as, heard_at, is_among}
use Rattle.world_laws.specs.WriterCore.Action.{Action}
use Rattle.world_laws.specs.WriterCore.Action.TheVariants as action
use Rattle.world_laws.specs.WriterCore.Transitions as writer
use Rattle.world_laws.specs.World.Caller.{Caller}
use Rattle.world_laws.specs.World.Caller.TheVariants as caller
use Rattle.world_laws.specs.World.Parts.{Message, request, Place, Told, Leading, Primary, no_primary, was_told, leads, has_led}
use Rattle.world_laws.specs.World.Worlds.{World, Dial, Change, put, past_after, apply}
use Rattle.world_laws.specs.World.Connections.{Next, is_alive, is_conn, place_of}
use Rattle.world_laws.specs.World.Clients.{are_members}
use Rattle.world_laws.specs.World.Primaries.{primary_change, dials_answered, primary_dials, begins_with, begins_as, begins_at, own_recover, updates_on, updates_change, leads_step, commits_step, leads_told, own_primary_as, own_primary, heard_of, listens, hears_change, primary_up_as, primary_up, asks_writer, asks_primary, writer_asks, primary_commits, primary_asks, office_event}
use Rattle.world_laws.specs.Stamping.{Givens, known_heard, heard}
use Rattle.world_laws.specs.Carrying.{PrimarySays, LeadingSays, PhaseSays, LiesIn}
use Rattle.world_laws.proofs.ByteAsking.{Keeps}
use Rattle.world_laws.proofs.ByteFrame.{Each, each-nil, each-one, each-cons, unwritten}
use Rattle.world_laws.proofs.ByteLeading.{own-primary-keeps}
use Rattle.world_laws.proofs.ByteLeaves.{Facts}
use Rattle.world_laws.proofs.ByteOffices.{Answered}
use Rattle.world_laws.proofs.FactTables.{if-each, when-each}
use Rattle.world_laws.proofs.StampGivens.{put-here}
use Rattle.world_laws.proofs.StampRecording.{known-of}
use Rattle.world_texts.proofs.Spelling.{RecoveryFits, MessageFits}
use Rattle.world_texts.proofs.Frame.{ToldFits, PrimaryFits, RecordFits, Formed, Brings, News, given_to, less-fits, kept-writer}
use Rattle.world_texts.proofs.Ranges.{Ranged, given-number}
use Rattle.world_texts.proofs.Writers.{AnswerStamps, granted-fits}
use Rattle.world_texts.proofs.Clients.{none-told}

-- REQUESTS

request-fits : (p : PrimaryState) (k : RecoveryKind) (n : ℕ) → p.block.0 < 2 ^ 64 → p.begun.committed.0 < 2 ^ 64 → p.begun.id.0 < 2 ^ 64 → n < 2 ^ 64 → HasItsLength k n → HasItsTargets {X = NodeRef} k [] → RecoveryFits (request_of p k n)
request-fits p k n b c i m l t = record {
  pool = omega arith;
  block = b;
  stamp = c;
  bytes = omega arith;
  recovery = i;
  length_fits = m;
  its_length = l;
  its_targets = t;
  targets = refl;
}

dials-fit : (w : World) (i : ℕ) (from : Place) (m : Message) (place : ℕ) (ns : List NodeId) (bs : List Bool) → MessageFits m → Each (λ (d : Dial). MessageFits d.request) (primary_dials w i from m place ns bs)
dials-fit w i from m place [] bs f = each-nil (λ (d : Dial). MessageFits d.request)
dials-fit w i from m place (n ∷ ns) [] f = each-nil (λ (d : Dial). MessageFits d.request)
dials-fit w i from m place (n ∷ ns) (true ∷ bs) f = each-cons (λ (d : Dial). MessageFits d.request) _ (primary_dials w i from m (place + 1) ns bs) f (dials-fit w i from m (place + 1) ns bs f)
dials-fit w i from m place (n ∷ ns) (false ∷ bs) f = dials-fit w i from m (place + 1) ns bs f

updates-fit : (m : Message) (chosen : List NodeId) (xs : List (NodeId × Option ℕ)) (c : ℕ) → MessageFits m → Each MessageFits (updates_on m chosen xs c)
updates-fit m chosen [] c f = each-nil MessageFits
updates-fit m chosen (x ∷ xs) c f = if-each (Each MessageFits) (is_among chosen x.0 && is_conn x.1 c) (m ∷ []) (updates_on m chosen xs c) (λ _. each-one MessageFits m f) (λ _. updates-fit m chosen xs c f)

-- ITS OWN STEPS

-- a primary of the same recovery; where it sends updates, it stands so
record Goes (p : PrimaryState) (t : OwnTaken) : Type 0 where
  block : t.primary.block ≡ p.block
  begun : t.primary.begun ≡ p.begun
  updates : (c : Chosen) → t.does ≡ own.Updates c → t.primary.phase ≡ phase.Updating c.length

goes-as : (p q : PrimaryState) (s : OwnStep) → q.block ≡ p.block → q.begun ≡ p.begun → ((c : Chosen) → s ≡ own.Updates c → q.phase ≡ phase.Updating c.length) → Goes p (taken q s)
goes-as p q s b e u = record { block = b; begun = e; updates = u }

choosing-goes : (p : PrimaryState) (r : Result Chosen ChooseFault) → Goes p (choosing p r)
choosing-goes p (Ok c) = goes-as p _ (own.Updates c) refl refl (λ d e. ap (λ (x : Chosen). phase.Updating x.length) (same c d e))
  where
    same : (c d : Chosen) → own.Updates c ≡ own.Updates d → c ≡ d
    same c d e = cc
choosing-goes p (Err f) = goes-as p _ _ refl refl (λ d e. cc)

committing-goes : (p : PrimaryState) (n : ℕ) (ns : List NodeId) → Goes p (committing p n ns)
committing-goes p n [] = goes-as p _ _ refl refl (λ d e. cc)
committing-goes p n (x ∷ xs) = goes-as p _ _ refl refl (λ d e. cc)

own-at-goes : (p : PrimaryState) (q : Phase) → Goes p (own_at q p)
own-at-goes p phase.Informing = choosing-goes p (choice p.begun.committed (infos p.members p.standings))
own-at-goes p (phase.Updating n) = committing-goes p n (updated_members p.members p.standings)
own-at-goes p phase.Over = goes-as p p own.Waits refl refl (λ d e. cc)

own-goes : (p : PrimaryState) → Goes p (own_step p)
own-goes p = if-each (Goes p) (waits p.standings) (taken p own.Waits) (own_at p.phase p) (λ _. goes-as p p own.Waits refl refl (λ d e. cc)) (λ _. own-at-goes p p.phase)

abbrev StateFits : PrimaryState → Type 0
StateFits p = (p.block.0 < 2 ^ 64) × (p.begun.committed.0 < 2 ^ 64)

same-fits : (p q : PrimaryState) → q.block ≡ p.block → q.begun ≡ p.begun → StateFits p → StateFits q
same-fits p q b e f = (subst (λ (x : BlockId). x.0 < 2 ^ 64) (sym b) f.0, subst (λ (x : Begun). x.committed.0 < 2 ^ 64) (sym e) f.1)

heard-fits : (p : PrimaryState) (at : ℕ) (x : Heard) → StateFits p → StateFits (heard_at p at x)
heard-fits p at x f = go (slice_get p.standings at)
  where
    go : (o : Option Standing) → StateFits (heard_as p at x o)
    go None = f
    go (Some s) = f

-- where the test holds, what follows from it
when-both : {A : Type 0} (P Q : A → Type 0) (b : Bool) (o : Option A) → IfSome (if b then o else None) P → (IfSome o P → IfSome o Q) → IfSome (if b then o else None) Q
when-both P Q true o h f = f h
when-both P Q false o h f = tt

module _ (g : Givens) (w : World) (h : Formed w) (f : Facts g w) (r : Ranged g w) where
  primary-brings : (i : ℕ) (p : Primary) → PrimaryFits p → Brings w (primary_change w i p)
  primary-brings i p k = record {
    dials = each-nil (λ (d : Dial). MessageFits d.request);
    downs = λ c. each-nil MessageFits;
    ups = λ c. each-nil MessageFits;
    lower = h.lowers 0;
    replica = h.replicas 0 0;
    writer = kept-writer w h 0;
    spends = inl refl;
    primary = k;
  }

  begins-brings : (i : ℕ) (at : Place) (b : BlockId) (begun : Begun) (ns : List NodeId) (bs : List Bool) → b.0 < 2 ^ 64 → begun.committed.0 < 2 ^ 64 → begun.id.0 < 2 ^ 64 → Brings w (begins_with w i at b begun ns bs)
  begins-brings i at b begun ns bs lt c d = record {
    dials = dials-fit w i at _ 0 ns bs (request-fits (begun_with b begun ns bs) kind.Init 0 lt c d (omega arith) refl refl);
    downs = λ e. each-nil MessageFits;
    ups = λ e. each-nil MessageFits;
    lower = h.lowers 0;
    replica = h.replicas 0 0;
    writer = kept-writer w h 0;
    spends = inl refl;
    primary = (lt, c);
  }

  begins-as-brings : (i : ℕ) (at : Place) (b q : BlockId) (ns : List NodeId) (bs : List Bool) (told : Told) → b.0 < 2 ^ 64 → ToldFits told → PrimarySays g w.past (was_told q told) → IfSome (begins_as told w i at b ns bs) (Brings w)
  begins-as-brings i at b q ns bs (Ok (office.Begun begun)) lt t s = begins-brings i at b begun ns (dials_answered w ns bs) lt t (given-number g w f r q.0 begun.id.0 s.session s.given)
  begins-as-brings i at b q ns bs (Ok (office.Stamp x)) lt t s = tt
  begins-as-brings i at b q ns bs (Ok (office.Reopened x)) lt t s = tt
  begins-as-brings i at b q ns bs (Ok office.Nothing) lt t s = tt
  begins-as-brings i at b q ns bs (Err e) lt t s = primary-brings i _ tt

  begins-at-brings : (x : Primary) (i n : ℕ) (b : BlockId) (ns : List NodeId) (bs : List Bool) → b.0 < 2 ^ 64 → PrimaryFits x → PrimarySays g w.past x → IfSome (begins_at x w i n b ns bs) (Brings w)
  begins-at-brings no_primary i n b ns bs lt k s = tt
  begins-at-brings (was_told q told) i n b ns bs lt k s = when-each (Brings w) (q.0 == b.0 && w.running n && are_members ns) _ (λ _. begins-as-brings i (place_of w n) b q ns bs told lt k s)
  begins-at-brings (leads l) i n b ns bs lt k s = tt
  begins-at-brings (has_led x) i n b ns bs lt k s = tt

  pub own-recover-brings : (i n : ℕ) (b : BlockId) (ns : List NodeId) (bs : List Bool) → b.0 < 2 ^ 64 → IfSome (own_recover w i n b ns bs) (Brings w)
  own-recover-brings i n b ns bs lt = begins-at-brings (w.primaries i) i n b ns bs lt (h.primaries i) (f.carried.primaries i)

  -- an update is of a length that fits
  chosen-number : (i : ℕ) (l : Leading) (c : Chosen) → (own_step l.state).does ≡ own.Updates c → Keeps g w (updates_change w i l (own_step l.state).primary c) → c.length < 2 ^ 64
  unfolding apply
  chosen-number i l c is k =
      let ch = updates_change w i l (own_step l.state).primary c in
      let says : PrimarySays g (past_after w ch) (put w.primaries i (leads (record l { state = (own_step l.state).primary })) i) = k.primaries i in
      let here : LeadingSays g (past_after w ch) (record l { state = (own_step l.state).primary }) = subst (PrimarySays g (past_after w ch)) (put-here w.primaries i _) says in
      let lies : LiesIn g (past_after w ch) (own_step l.state).primary.begun.id c.length = subst (PhaseSays g (past_after w ch) (own_step l.state).primary.begun.id) ((own-goes l.state).updates c is) here.phase in
      let same : (past_after w ch).written lies.session ≡ w.written lies.session = unwritten w ch lies.session (λ _. refl) in
      omega (arith, lies.within, ap length same, r.lengths lies.block (own_step l.state).primary.begun.id.0 lies.session lies.given)

  updates-brings : (i : ℕ) (l : Leading) (c : Chosen) → StateFits l.state → l.state.begun.id.0 < 2 ^ 64 → c.length < 2 ^ 64 → Brings w (updates_change w i l (own_step l.state).primary c)
  updates-brings i l c k d n =
      let m : Message = request (op.Recovery (request_of l.state kind.Update c.length)) in
      record {
        dials = each-nil (λ (x : Dial). MessageFits x.request);
        downs = λ e. updates-fit m c.members (zip l.state.members l.conns) e (request-fits l.state kind.Update c.length k.0 k.1 d n tt refl);
        ups = λ e. each-nil MessageFits;
        lower = h.lowers 0;
        replica = h.replicas 0 0;
        writer = kept-writer w h 0;
        spends = inl refl;
        primary = same-fits l.state (own_step l.state).primary (own-goes l.state).block (own-goes l.state).begun k;
      }

  step-brings : (s : OwnStep) (i : ℕ) (l : Leading) → (own_step l.state).does ≡ s → StateFits l.state → l.state.begun.id.0 < 2 ^ 64 → IfSome (leads_step s w i l (own_step l.state).primary) (Keeps g w) → IfSome (leads_step s w i l (own_step l.state).primary) (Brings w)
  step-brings own.Waits i l is k d n = tt
  step-brings (own.Updates c) i l is k d n = updates-brings i l c k d (chosen-number i l c is n)
  step-brings (own.Commits c) i l is k d n = tt
  step-brings (own.Ends x) i l is k d n = let y = primary-brings i (has_led x) tt in
      record { dials = y.dials; downs = y.downs; ups = y.ups; lower = y.lower; replica = y.replica; writer = y.writer; spends = y.spends; primary = y.primary }

  commits-brings : (s : OwnStep) (i : ℕ) (l : Leading) (t : Told) → IfSome (commits_step s w i l t) (Brings w)
  commits-brings own.Waits i l t = tt
  commits-brings (own.Updates c) i l t = tt
  commits-brings (own.Commits c) i l t = let y = primary-brings i no_primary tt in
      record { dials = y.dials; downs = y.downs; ups = y.ups; lower = y.lower; replica = y.replica; writer = y.writer; spends = y.spends; primary = tt }
  commits-brings (own.Ends x) i l t = tt

  told-brings : (o : Option Told) (i : ℕ) (l : Leading) → StateFits l.state → l.state.begun.id.0 < 2 ^ 64 → IfSome (leads_told o w i l) (Keeps g w) → IfSome (leads_told o w i l) (Brings w)
  told-brings None i l k d n = step-brings (own_step l.state).does i l refl k d n
  told-brings (Some t) i l k d n = commits-brings (own_step l.state).does i l t

  own-as-brings : (x : Primary) (i : ℕ) → PrimaryFits x → PrimarySays g w.past x → IfSome (own_primary_as x w i) (Keeps g w) → IfSome (own_primary_as x w i) (Brings w)
  own-as-brings no_primary i k s n = tt
  own-as-brings (was_told b t) i k s n = tt
  own-as-brings (leads l) i k s n = when-both (Keeps g w) (Brings w) (is_alive w l.at) (leads_told l.told w i l) n
      (told-brings l.told i l k (given-number g w f r l.state.block.0 l.state.begun.id.0 s.recovery.session s.recovery.given))
  own-as-brings (has_led x) i k s n = tt

  pub own-primary-brings : (i : ℕ) → IfSome (own_primary w i) (Brings w)
  own-primary-brings i = own-as-brings (w.primaries i) i (h.primaries i) (f.carried.primaries i) (own-primary-keeps g w i f)

  -- WHAT IT TAKES

  hears-brings : (i : ℕ) (l : Leading) (place c : ℕ) (x : Next) (o : Option Standing) → StateFits l.state → IfSome (hears_change w i l place c x o) (Brings w)
  hears-brings i l place c x None k = tt
  hears-brings i l place c x (Some s) k = when-each (Brings w) (listens l.state.phase s) _ (λ _.
      let y = primary-brings i (leads (record l { state = heard_at l.state place (heard_of x) })) (heard-fits l.state place (heard_of x) k) in
      record { dials = y.dials; downs = y.downs; ups = y.ups; lower = y.lower; replica = y.replica; writer = y.writer; spends = y.spends; primary = y.primary })

  up-as-brings : (x : Primary) (i place c : ℕ) (n : Next) → PrimaryFits x → IfSome (primary_up_as x w i place c n) (Brings w)
  up-as-brings no_primary i place c n k = tt
  up-as-brings (was_told b t) i place c n k = tt
  up-as-brings (leads l) i place c n k = when-each (Brings w) (is_alive w l.at && is_none l.told) _ (λ _. hears-brings i l place c n (slice_get l.state.standings place) k)
  up-as-brings (has_led x) i place c n k = tt

  pub primary-up-brings : (i place c : ℕ) (n : Next) → IfSome (primary_up w i place c n) (Brings w)
  primary-up-brings i place c n = up-as-brings (w.primaries i) i place c n (h.primaries i)

  -- THE OFFICE

  committed-number : (b : BlockId) (x : BlockRecord) → record_of w.office b ≡ Some x → x.committed.0 < 2 ^ 64
  committed-number b x e = let y = known-of (g b.0) (w.latest b.0) (record_of w.office b) x (heard (w.writers b.0)) e (f.recorded.blocks b.0) in given-number g w f r b.0 x.committed.0 y.base y.office.committed

  -- the stamps of an answer fit, as long as the office has given only stamps of 64 bits
  abbrev AnswersBy : OfficeCall → Step OfficeState OfficeAnswer → Type 0
  AnswersBy c s = (state_after w.office s).next.0 ≤ 2 ^ 64 → AnswerStamps (reply s)

  answer-stamps : (c : OfficeCall) → AnswersBy c (office_case w.office c)
  answer-stamps c = each_case w.office AnswersBy (record {
    refused = λ d e. λ left. tt;
    created = λ block members none. λ left. omega (arith, left);
    appended = λ block x is shut short. λ left. (committed-number block x is, omega (arith, left));
    stamped = λ block x is writers. λ left. omega (arith, left);
    committed = λ block stamp members x is writers new. λ left. tt;
    completed = λ block stamp bytes x is writers new. λ left. tt;
    begun = λ block x is is_open. λ left. committed-number block x is;
    synced = λ block id bytes members x is is_open latest. λ left. tt;
  }) c

  told-fits : (t : Told) → AnswerStamps t → ToldFits t
  told-fits (Ok (office.Begun b)) a = a
  told-fits (Ok (office.Stamp s)) a = tt
  told-fits (Ok (office.Reopened x)) a = tt
  told-fits (Ok office.Nothing) a = tt
  told-fits (Err e) a = tt

  -- what the office's answer brings, and that its writer was given no less
  pub record Answers (k : Change) : Type 0 where
    pub asked : OfficeCall
    pub is : Answered w asked k
    pub news : News k
    pub given : given_to w k.writer_at ≤ (heard k.writer).intake.bytes

  -- where the office has given only stamps of 64 bits, its answer fits
  abbrev pub WhileLeft : Change → Type 0
  WhileLeft k = k.office.next.0 ≤ 2 ^ 64 → Answers k

  asks-writer-brings : (b : ℕ) (c : OfficeCall) → (w.writers b).told ≡ None → WhileLeft (asks_writer w b c)
  asks-writer-brings b c none left =
      let same : RecordFits (given_to w b) (w.writers b).known =
      subst (λ (o : Option Told). RecordFits (given_to w b) (known_heard (w.writers b).known o)) none (less-fits (given_to w b) (given_to w b + 0) (heard (w.writers b)) (omega arith) (kept-writer w h b)) in
      let after = granted-fits (given_to w b) (w.writers b).known (answer_to w.office c) (answer-stamps c left) same in
      record {
        asked = c;
        is = record { office = refl; stamped = refl; session = refl; bytes = refl };
        news = record {
          dials = each-nil (λ (x : Dial). MessageFits x.request);
          downs = λ e. each-nil MessageFits;
          ups = λ e. each-nil MessageFits;
          lower = h.lowers 0;
          replica = h.replicas 0 0;
          writer = less-fits 0 (given_to w b) _ (omega arith) after;
          primary = h.primaries 0;
        };
        given = after.intake;
      }

  asks-primary-brings : (i : ℕ) (c : OfficeCall) (p : Told → Primary) → ((t : Told) → AnswerStamps t → PrimaryFits (p t)) → WhileLeft (asks_primary w i c p)
  asks-primary-brings i c p k left = record {
    asked = c;
    is = record { office = refl; stamped = refl; session = refl; bytes = refl };
    news = record {
      dials = each-nil (λ (x : Dial). MessageFits x.request);
      downs = λ e. each-nil MessageFits;
      ups = λ e. each-nil MessageFits;
      lower = h.lowers 0;
      replica = h.replicas 0 0;
      writer = h.writers 0;
      primary = k (answer_to w.office c) (answer-stamps c left);
    };
    given = omega arith;
  }

  writer-asks-brings : (a : Action) (b : ℕ) → (w.writers b).told ≡ None → IfSome (writer_asks a w b) WhileLeft
  writer-asks-brings (action.Ask c) b none = asks-writer-brings b c none
  writer-asks-brings action.Wait b none = tt
  writer-asks-brings action.Took b none = tt
  writer-asks-brings (action.Dial to x) b none = tt
  writer-asks-brings (action.Send p) b none = tt
  writer-asks-brings (action.Answered n x) b none = tt
  writer-asks-brings action.Memory b none = tt

  commits-asks : (s : OwnStep) (i : ℕ) (l : Leading) → StateFits l.state → IfSome (primary_commits s w i l) WhileLeft
  commits-asks own.Waits i l k = tt
  commits-asks (own.Updates c) i l k = tt
  commits-asks (own.Commits c) i l k = asks-primary-brings i _ (λ t. leads (record l { told = Some t })) (λ t a. k)
  commits-asks (own.Ends x) i l k = tt

  primary-asks-brings : (x : Primary) (i : ℕ) (b : BlockId) → PrimaryFits x → IfSome (primary_asks x w i b) WhileLeft
  primary-asks-brings no_primary i b k = asks-primary-brings i (call.BeginRecovery b) (was_told b) told-fits
  primary-asks-brings (was_told q t) i b k = tt
  primary-asks-brings (leads l) i b k = when-each WhileLeft (is_alive w l.at && is_none l.told) _ (λ _. commits-asks (own_step l.state).does i l k)
  primary-asks-brings (has_led x) i b k = tt

  pub office-brings : (c : Caller) → IfSome (office_event w c) WhileLeft
  office-brings (caller.Writer b) = when-each WhileLeft (is_none (w.writers b.0).told) _ (λ e. writer-asks-brings (writer.own_step (w.writers b.0).known).action b.0 (none-told (w.writers b.0).told e))
  office-brings (caller.Primary i b) = primary-asks-brings (w.primaries i) i b (h.primaries i)
