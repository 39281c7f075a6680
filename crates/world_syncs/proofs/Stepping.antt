-- What the steps of writers and others make of waits for the packet of an hsync.
use Rattle.std.proofs.Common.{◌≡◌, ℕ, ℤ, zero, suc, ◌<◌, ◌≤◌, ◌+◌, ◌⊎◌, inl, inr, true, List, [], ◌∷◌, ◌++◌, length, slice_get, Option, Some, None, refl, sym, ap, subst, ◌∙◌, arith, eqb-true}
use Rattle.std.specs.Prelude.{◌==◌, pos}
use Rattle.std.proofs.lemmas.Bool.{eqb-false}
use Rattle.std.proofs.lemmas.Option.{none-some, same_Some}
use Rattle.hd_base.specs.declared.numbers.NodeId.{NodeId}
use Rattle.hd_base.specs.declared.numbers.Stamp.{Stamp}
use Rattle.op_headers.specs.Values.{WriteFields}
use Rattle.packet_codec.specs.declared.packets.Packet.{Packet}
use Rattle.packet_stream.specs.Streams.{packet_end}
use Rattle.writer_core.specs.declared.phases.Phase.{Phase}
use Rattle.writer_core.specs.declared.phases.Phase.TheVariants as phase
use Rattle.writer_core.specs.declared.phases.Setup.{Setup}
use Rattle.writer_core.specs.declared.phases.Setup.TheVariants as setup
use Rattle.writer_core.specs.declared.records.WriterRecord.{WriterRecord}
use Rattle.world.specs.Parts.{packet, Writing, Answered, by_hsync}
use Rattle.world.specs.Worlds.{World, Stamped, Change, put, listed, latest_with, apply}
use Rattle.world.specs.Nodes.{block_of}
use Rattle.world.specs.Safe.{Has}
use Rattle.world_laws.proofs.FactTables.{if-each}
use Rattle.world_laws.proofs.ByteLeaves.{one-session}
use Rattle.world_laws.proofs.ByteRows.{sets-once}
use Rattle.world_laws.proofs.SessionAsides.{Aside}
use Rattle.world_laws.specs.Stamping.{Givens, Recorded, InPhase, Fits, heard}
use Rattle.world_laws.specs.Carrying.{new_stamp, Sets}
use Rattle.world_laws.specs.Joining.{joined_as}
use Rattle.world_finals.specs.Finishing.{WriterEnds}
use Rattle.world_acks.specs.Acking.{Asked, Ends, reach_of, Numbers}
use Rattle.world_acks.proofs.Frame.{has-either}
use Rattle.world_acks.proofs.Turning.{Known}
use Rattle.world_writers.specs.Piping.{PipedOf}
use Rattle.world_writers.specs.Showing.{ShowsOf}
use Rattle.world_writers.specs.Taking.{Joins}
use Rattle.world_writers.proofs.Stepping.{in-session}
use Rattle.world_syncs.specs.Histories.{Histories}
use Rattle.world_syncs.proofs.Turning.{Later}
use Rattle.world_syncs.proofs.Lowers.{JoinsBy}
use Rattle.world_syncs.proofs.Running.{Syncs}
use Rattle.world_syncs.proofs.Writers.{WaitsSame, WaitedOf, ResendsWait, FormsWait, FormsFor, forms_other, forms_this, asked_stamp}
use Rattle.world_syncs.proofs.Waiting.{SyncReached, FormedOk, WriterWaits, NoneSent, AnswerSyncs, Waits, Frame, reached-on, synced-on, waits-on, unsent-on, answer-on}
use Rattle.world_syncs.proofs.Changes.{NewSent, sent-on, asked-on, Sides, joins-on}

-- WHAT IS KNOWN

pub record Around (g : Givens) (t : Ends) (h : Histories) (w : World) : Type 0 where
  pub known : Known g t w
  pub joins : Joins w
  pub runs : (n : ℕ) → w.running n ≡ true → n < w.nodes
  pub syncs : Syncs h w
  pub waits : Waits g h w
  pub shows : (b : ℕ) → ShowsOf w b
  pub piped : (b : ℕ) → PipedOf w b
  pub ends : (b : ℕ) → WriterEnds (heard (w.writers b))
  pub waited : (b : ℕ) → WaitedOf (heard (w.writers b))

pub record After (g l : Givens) (t : Ends) (h j : Histories) (w : World) (k : Change) : Type 0 where
  pub sides : Sides g l t h j w (apply w k)
  pub recorded : Recorded l (apply w k)

-- what a change leads to
pub record Leads (g l : Givens) (t : Ends) (h j : Histories) (w : World) (k : Change) : Type 0 where
  pub go : After g l t h j w k → Waits l j (apply w k)

abbrev pub NoPacket : Packet → Stamp → Type 0
NoPacket p s = ⊥

abbrev pub NoFields : WriteFields → Type 0
NoFields f = ⊥

pub frame-of : (g l : Givens) (t : Ends) (h j : Histories) (w : World) (k : Change) (P : Packet → Stamp → Type 0) (Q : WriteFields → Type 0) → After g l t h j w k → NewSent w k P Q → ((s n i : ℕ) → Has k.joined (joined_as s n i) → JoinsBy w k s n i) → Frame g l t h j w (apply w k) P Q
unfolding apply
frame-of g l t h j w k P Q a news joins = record {
  later = a.sides.later;
  known = a.sides.known;
  recorded = a.recorded;
  given = a.sides.given;
  sent = sent-on w k P Q a.sides.later.sent news;
  asked = asked-on w k P Q news;
  joins = joins-on g l t h j w k a.sides joins;
  nodes = refl;
}

pub none-joined : (w : World) (k : Change) → k.joined ≡ [] → (s n i : ℕ) → Has k.joined (joined_as s n i) → JoinsBy w k s n i
none-joined w k e s n i j = absurd (none-some _ (sym (ap (λ xs. slice_get xs j.place) e) ∙ j.there))

-- THE OTHER WRITERS

-- a writer that is as before
pub same-waits : (g l : Givens) (t : Ends) (h j : Histories) (w v : World) (P : Packet → Stamp → Type 0) (Q : WriteFields → Type 0) (b e : ℕ) (x : WriterRecord) → Frame g l t h j w v P Q → ((p : Packet) (s : Stamp) → P p s → l b s.0 ≡ Some e → ⊥) → ((f : WriteFields) → Q f → block_of f ≡ b → ⊥)
    → WriterWaits g h w b e x → WriterWaits l j v b e x
same-waits g l t h j w v P Q b e x fr packets requests old =
    waits-on g l t h j w v P Q b e x x fr (λ n q z r. record { waits = z; reach = r; unacked = refl; number = refl; members = λ m has. has })
    (λ n q z r f p s new given number. absurd (packets p s new given)) (λ n q z r y. (y.least, λ f new block. absurd (requests f new block))) old

-- all answers of a change are as before, but for a new one
pub answers-of : (g l : Givens) (t : Ends) (h j : Histories) (w : World) (k : Change) → Waits g h w → Later h j w (apply w k) → ((a : Answered) → k.answered ≡ Some a → a.command ≡ by_hsync → AnswerSyncs j (apply w k) a) → (a : Answered) → Has (apply w k).answered a → a.command ≡ by_hsync → AnswerSyncs j (apply w k) a
unfolding apply
answers-of g l t h j w k old later new a has c = go (has-either w.answered (listed k.answered) a has)
  where
    here : (o : Option Answered) → k.answered ≡ o → Has (listed o) a → AnswerSyncs j (apply w k) a
    here None e x = absurd (none-some a x.there)
    here (Some z) e x = at x.place x.there
      where
        at : (i : ℕ) → slice_get (z ∷ []) i ≡ Some a → AnswerSyncs j (apply w k) a
        at zero q = new a (e ∙ q) c
        at (suc i) q = absurd (none-some a q)

    go : Has w.answered a ⊎ Has (listed k.answered) a → AnswerSyncs j (apply w k) a
    go (inl x) = answer-on h j w (apply w k) a later refl (old.answers a x c)
    go (inr x) = here k.answered refl x

-- the stamp of a setup that was asked is of the writer's session
asked-of : (f : ℕ → Option ℕ) (e : ℕ) (r : Option Stamp) (x : WriterRecord) (u : Stamp) (p : Phase) → x.phase ≡ p → asked_stamp p ≡ Some u → Fits f e r x → f u.0 ≡ Some e
asked-of f e r x u p q a fits = go p a (subst (λ (z : Phase). InPhase f e r x.committed x.waiting x.stream.unacked z) q fits)
  where
    go : (z : Phase) → asked_stamp z ≡ Some u → InPhase f e r x.committed x.waiting x.stream.unacked z → f u.0 ≡ Some e
    go (phase.Requested s t) c i = subst (λ (y : Stamp). f y.0 ≡ Some e) (same_Some t u c) i.0.session.is
    go (phase.Accepted s t) c i = subst (λ (y : Stamp). f y.0 ≡ Some e) (same_Some t u c) i.0.session.is
    go phase.Closed c i = absurd (none-some u c)
    go (phase.Wanted s) c i = absurd (none-some u c)
    go (phase.Stamped s t) c i = absurd (none-some u c)
    go phase.Opened c i = absurd (none-some u c)
    go (phase.Streaming n) c i = absurd (none-some u c)
    go phase.Closing c i = absurd (none-some u c)
    go phase.Finished c i = absurd (none-some u c)
    go phase.Completed c i = absurd (none-some u c)
    go (phase.Failed z) c i = absurd (none-some u c)

reach-in-one : (s : Setup) (t : Stamp) → 1 ≤ reach_of (phase.Requested s t)
reach-in-one setup.Create t = omega arith
reach-in-one setup.Append t = omega arith
reach-in-one setup.AppendRecovery t = omega arith
reach-in-one setup.StreamRecovery t = omega arith
reach-in-one setup.CloseRecovery t = omega arith

pub asked-reach : (p : Phase) (u : Stamp) → asked_stamp p ≡ Some u → 1 ≤ reach_of p
asked-reach (phase.Requested s t) u c = reach-in-one s t
asked-reach (phase.Accepted s t) u c = reach-in-one s t
asked-reach phase.Closed u c = absurd (none-some u c)
asked-reach (phase.Wanted s) u c = absurd (none-some u c)
asked-reach (phase.Stamped s t) u c = absurd (none-some u c)
asked-reach phase.Opened u c = absurd (none-some u c)
asked-reach (phase.Streaming n) u c = absurd (none-some u c)
asked-reach phase.Closing u c = absurd (none-some u c)
asked-reach phase.Finished u c = absurd (none-some u c)
asked-reach phase.Completed u c = absurd (none-some u c)
asked-reach (phase.Failed z) u c = absurd (none-some u c)

pub stamp-given : (g : Givens) (t : Ends) (w : World) (b : ℕ) (u : Stamp) → Known g t w → asked_stamp (heard (w.writers b)).phase ≡ Some u → g b u.0 ≡ Some (w.latest b)
stamp-given g t w b u k a =
    let x = heard (w.writers b) in
    let s = in-session g t w b x k refl (asked-reach x.phase u a) in
    asked-of (g b) (w.latest b) s.0 x u x.phase refl a s.1

-- WRITERS AS BEFORE

-- a change with which all writers are as before
pub aside-leads : (g : Givens) (t : Ends) (h j : Histories) (w : World) (k : Change) → Around g t h w → Aside w k → NewSent w k NoPacket NoFields → ((s n i : ℕ) → Has k.joined (joined_as s n i) → JoinsBy w k s n i) → Leads g g t h j w k
unfolding apply
aside-leads g t h j w k a aside news joins = record {
  go = λ z.
      let fr = frame-of g g t h j w k NoPacket NoFields z news joins in
      record {
        writers = λ b. subst (λ (o : Option Stamped). WriterWaits g j (apply w k) b (latest_with w.latest o b) (heard (put w.writers k.writer_at k.writer b))) (sym aside.stamped)
            (same b (λ (y : Writing). WriterWaits g j (apply w k) b (w.latest b) (heard y)) (same-waits g g t h j w (apply w k) NoPacket NoFields b (w.latest b) (heard (w.writers b)) fr (λ p s e q. e) (λ f e q. e) (a.waits.writers b)));
        unsent = λ b. same b (λ (y : Writing). NoneSent (apply w k) (heard y)) (unsent-on g g t h j w (apply w k) NoPacket NoFields (heard (w.writers b)) (heard (w.writers b)) fr (λ u q. q) (λ u p q e. e) (a.waits.unsent b));
        answers = answers-of g g t h j w k a.waits z.sides.later (λ x e c. absurd (none-some x (sym aside.answered ∙ e)));
      };
}
  where
    same : (b : ℕ) (F : Writing → Type 0) → F (w.writers b) → F (put w.writers k.writer_at k.writer b)
    same b F x = if-each F (b == k.writer_at) k.writer (w.writers b) (λ e. subst F (ap w.writers (eqb-true b k.writer_at e) ∙ sym aside.writer) x) (λ _. x)

-- THE WRITER OF A CHANGE

-- a change of the writer of a block, in its session
pub record IsOwn (g : Givens) (w : World) (b : ℕ) (y : WriterRecord) (k : Change) (P : Packet → Stamp → Type 0) (Q : WriteFields → Type 0) : Type 0 where
  pub at : k.writer_at ≡ b
  pub heard_is : heard k.writer ≡ y
  pub stamped : k.stamped ≡ None
  pub joined : k.joined ≡ []
  pub sent : NewSent w k P Q
  pub packets : (p : Packet) (s : Stamp) → P p s → g b s.0 ≡ Some (w.latest b)
  pub fields : (f : WriteFields) → Q f → block_of f ≡ b

pub own-leads : (g : Givens) (t : Ends) (h j : Histories) (w : World) (b : ℕ) (y : WriterRecord) (k : Change) (P : Packet → Stamp → Type 0) (Q : WriteFields → Type 0) → Around g t h w → IsOwn g w b y k P Q → (Frame g g t h j w (apply w k) P Q → WriterWaits g j (apply w k) b (w.latest b) y)
    → (Frame g g t h j w (apply w k) P Q → NoneSent (apply w k) y) → (Later h j w (apply w k) → (a : Answered) → k.answered ≡ Some a → a.command ≡ by_hsync → AnswerSyncs j (apply w k) a) → Leads g g t h j w k
unfolding apply
own-leads g t h j w b y k P Q a own waits unsent answers = record {
  go = λ z.
      let fr = frame-of g g t h j w k P Q z own.sent (none-joined w k own.joined) in
      record {
        writers = λ d. subst (λ (o : Option Stamped). WriterWaits g j (apply w k) d (latest_with w.latest o d) (heard (put w.writers k.writer_at k.writer d))) (sym own.stamped)
            (either d (λ (i : ℕ) (x : WriterRecord). WriterWaits g j (apply w k) i (w.latest i) x) (waits fr)
            (λ apart. same-waits g g t h j w (apply w k) P Q d (w.latest d) (heard (w.writers d)) fr (λ p s new given. apart (z.recorded.one d b s.0 (w.latest d) (w.latest b) given (own.packets p s new))) (λ f new block. apart (sym block ∙ own.fields f new)) (a.waits.writers d)));
        unsent = λ d. either d (λ (i : ℕ) (x : WriterRecord). NoneSent (apply w k) x) (unsent fr)
            (λ apart. unsent-on g g t h j w (apply w k) P Q (heard (w.writers d)) (heard (w.writers d)) fr (λ u q. q) (λ u p q new. apart (z.recorded.one d b u.0 (w.latest d) (w.latest b) (stamp-given g t w d u a.known q) (own.packets p u new))) (a.waits.unsent d));
        answers = answers-of g g t h j w k a.waits z.sides.later (answers z.sides.later);
      };
}
  where
    either : (d : ℕ) (F : ℕ → WriterRecord → Type 0) → F b y → ((d ≡ b → ⊥) → F d (heard (w.writers d))) → F d (heard (put w.writers k.writer_at k.writer d))
    either d F here other =
        if-each (λ (x : Writing). F d (heard x)) (d == k.writer_at) k.writer (w.writers d)
        (λ e. subst (λ (i : ℕ). F i (heard k.writer)) (sym (eqb-true d k.writer_at e ∙ own.at)) (subst (λ (x : WriterRecord). F b x) (sym own.heard_is) here))
        (λ e. other (λ q. eqb-false d k.writer_at e (q ∙ sym own.at)))

-- a writer that goes on, and sends nothing
pub keeps-own : (g : Givens) (t : Ends) (h j : Histories) (w v : World) (b : ℕ) (x y : WriterRecord) → Frame g g t h j w v NoPacket NoFields → WaitsSame x y → WriterWaits g h w b (w.latest b) x → WriterWaits g j v b (w.latest b) y
keeps-own g t h j w v b x y fr k old =
    waits-on g g t h j w v NoPacket NoFields b (w.latest b) x y fr k.each (λ n q z r f p s new. absurd new) (λ n q z r o. (omega (arith, o.least, ap (λ (s : Stamp). s.0) k.committed), λ f new. absurd new)) old

pub keeps-unsent : (g : Givens) (t : Ends) (h j : Histories) (w v : World) (x y : WriterRecord) → Frame g g t h j w v NoPacket NoFields → ((u : Stamp) → asked_stamp y.phase ≡ Some u → asked_stamp x.phase ≡ Some u) → NoneSent w x → NoneSent v y
keeps-unsent g t h j w v x y fr on old = unsent-on g g t h j w v NoPacket NoFields x y fr on (λ u p q new. new) old

-- nothing is asked
pub not-asked : (v : World) (y : WriterRecord) → asked_stamp y.phase ≡ None → NoneSent v y
not-asked v y e = λ u q. absurd (none-some u (sym e ∙ q))

-- A PACKET THAT IS SENT

-- just this packet, under a stamp of the session
abbrev pub Just : Givens → World → ℕ → Packet → Packet → Stamp → Type 0
Just g w b d p s = (p ≡ d) × (g b s.0 ≡ Some (w.latest b))

-- it was formed before
pub resends-own : (g : Givens) (t : Ends) (h j : Histories) (w v : World) (b : ℕ) (x y : WriterRecord) (d : Packet) → Frame g g t h j w v (Just g w b d) NoFields → ResendsWait x y d → WriterWaits g h w b (w.latest b) x → WriterWaits g j v b (w.latest b) y
resends-own g t h j w v b x y d fr k old =
    waits-on g g t h j w v (Just g w b d) NoFields b (w.latest b) x y fr k.keeps.same.each
    (λ n q z r f p s new given number. subst (λ (i : Packet). (i.sync ≡ true) × (n ≤ packet_end i)) (sym new.0) (f.unacked k.place d k.old (ap (λ (i : Packet). i.seqno) (sym new.0) ∙ number)))
    (λ n q z r o. (omega (arith, o.least, ap (λ (s : Stamp). s.0) k.keeps.same.committed), λ f new. absurd new)) old

get-end : (P : Packet → Type 0) (xs : List Packet) (x : Packet) (i : ℕ) (p : Packet) → ((j : ℕ) (y : Packet) → slice_get xs j ≡ Some y → P y) → P x → slice_get (xs ++ x ∷ []) i ≡ Some p → P p
get-end P [] x zero p h k e = subst P (same_Some x p e) k
get-end P [] x (suc i) p h k e = absurd (none-some p e)
get-end P (z ∷ xs) x zero p h k e = h zero p e
get-end P (z ∷ xs) x (suc i) p h k e = get-end P xs x i p (λ j y r. h (suc j) y r) k e

get-more : (xs ys : List Packet) (i : ℕ) (x : Packet) → slice_get xs i ≡ Some x → slice_get (xs ++ ys) i ≡ Some x
get-more [] ys i x e = absurd (none-some x e)
get-more (z ∷ xs) ys zero x e = e
get-more (z ∷ xs) ys (suc i) x e = get-more xs ys i x e

get-last : (xs : List Packet) (x : Packet) → slice_get (xs ++ x ∷ []) (length xs) ≡ Some x
get-last [] x = refl
get-last (z ∷ xs) x = get-last xs x

same-pos : (a b : ℕ) → pos a ≡ pos b → a ≡ b
same-pos a b e = cc

-- it is formed
pub forms-own : (g : Givens) (t : Ends) (h j : Histories) (w v : World) (b : ℕ) (x y : WriterRecord) (d : Packet) → Frame g g t h j w v (Just g w b d) NoFields → Numbers (g b) t (w.latest b) x → FormsWait x y d → WriterWaits g h w b (w.latest b) x → WriterWaits g j v b (w.latest b) y
forms-own g t h j w v b x y d fr numbers k old n q z r = go (k.each n q z r)
  where
    e : ℕ
    e = w.latest b

    next : y.stream.seqno ≡ x.stream.seqno + 1
    next = k.next r

    go : FormsFor x y d n q → FormedOk g j v b e y n q
    go (forms_other waits) =
        record {
          number = f.number;
          is = f.is;
          below = omega (arith, f.below, next);
          downs = synced-on g g t h j w v (Just g w b d) NoFields b e n q fr f.downs (λ p s new given number. absurd (apart (ap (λ (i : Packet). i.seqno) (sym new.0) ∙ number)));
          unacked = λ i p there number. get-end (λ (o : Packet). o.seqno ≡ q → (o.sync ≡ true) × (n ≤ packet_end o)) x.stream.unacked d i p (λ m o a c. f.unacked m o a c) (λ c. absurd (apart c)) (subst (λ (ps : List Packet). slice_get ps i ≡ Some p) k.unacked there) number;
          stands = stands f.stands;
        }
      where
        f : FormedOk g h w b e x n q
        f = old n q waits (omega (arith, k.reach))

        apart : d.seqno ≡ q → ⊥
        apart c = absurd (omega (arith, f.below, same-pos f.number x.stream.seqno (sym f.is ∙ sym c ∙ k.number)))

        stands : ((i : ℕ) × (p : Packet) × (slice_get x.stream.unacked i ≡ Some p) × (p.seqno ≡ q)) ⊎ SyncReached g h w b e x.committed x.members n → ((i : ℕ) × (p : Packet) × (slice_get y.stream.unacked i ≡ Some p) × (p.seqno ≡ q)) ⊎ SyncReached g j v b e y.committed y.members n
        stands (inl o) = inl (o.0, o.1, subst (λ (ps : List Packet). slice_get ps o.0 ≡ Some o.1) (sym k.unacked) (get-more x.stream.unacked (d ∷ []) o.0 o.1 o.2), o.3)
        stands (inr o) = inr (reached-on g g t h j w v (Just g w b d) NoFields b e n x.committed y.committed x.members y.members fr o (λ m has. subst (λ (ms : List NodeId). Has ms m) k.members has) (omega (arith, o.least, ap (λ (s : Stamp). s.0) k.committed)) (λ f new. absurd new))
    go (forms_this number sync end) =
        record {
          number = x.stream.seqno;
          is = number;
          below = omega (arith, next);
          downs = synced-on g g t h j w v (Just g w b d) NoFields b e n q fr (λ c i p s there sets given same. absurd (sent-before c i p s there sets given (same ∙ number))) (λ p s new given same. subst (λ (o : Packet). (o.sync ≡ true) × (n ≤ packet_end o)) (sym new.0) (sync, end));
          unacked = λ i p there same. get-end (λ (o : Packet). o.seqno ≡ q → (o.sync ≡ true) × (n ≤ packet_end o)) x.stream.unacked d i p (λ m o a c. absurd (formed-before m o a (c ∙ number))) (λ c. (sync, end)) (subst (λ (ps : List Packet). slice_get ps i ≡ Some p) k.unacked there) same;
          stands = inl (length x.stream.unacked, d, subst (λ (ps : List Packet). slice_get ps (length x.stream.unacked) ≡ Some d) (sym k.unacked) (get-last x.stream.unacked d), k.number ∙ sym number);
        }
      where
        -- no packet of this number was formed before
        formed-before : (m : ℕ) (o : Packet) → slice_get x.stream.unacked m ≡ Some o → o.seqno ≡ pos x.stream.seqno → ⊥
        formed-before m o a c = let u = numbers.packets (omega (arith, k.reach)) m o a in absurd (omega (arith, numbers.below (omega (arith, k.reach)) x.stream.seqno _ (ap (λ (i : ℤ). t e i) (sym c) ∙ u.named)))

        sent-before : (c i : ℕ) (p : Packet) (s : Stamp) → slice_get (w.downs c) i ≡ Some (packet p) → Sets w.past c s → g b s.0 ≡ Some e → p.seqno ≡ pos x.stream.seqno → ⊥
        sent-before c i p s there sets given same =
            let u = fr.known.acked.downs c i (packet p) there in
            let one : u.session ≡ e = session-of c u.fields u.session s u.pipe.asked u.pipe.given sets given in
            absurd (omega (arith, numbers.below (omega (arith, k.reach)) x.stream.seqno _ (ap (λ (m : ℕ). t m (pos x.stream.seqno)) (sym one) ∙ ap (λ (i : ℤ). t u.session i) (sym same) ∙ u.numbered.named)))
          where
            session-of : (c : ℕ) (f : WriteFields) (m : ℕ) (s : Stamp) → Asked w.past c f → g (block_of f) (new_stamp f).0 ≡ Some m → Sets w.past c s → g b s.0 ≡ Some e → m ≡ e
            session-of c f m s a q x y =
                let stamp = sets-once w.past c (new_stamp f) s (record { fields = f; first = a.first; is = refl }) x in
                one-session g w fr.known.facts.recorded (block_of f) b s.0 m e (ap (λ (z : Stamp). g (block_of f) z.0) (sym stamp) ∙ q) y

-- THE SAME WRITERS

-- a world with the same writers and answers, in which nothing new was sent
pub waits-same : (g : Givens) (t : Ends) (h j : Histories) (w v : World) → Frame g g t h j w v NoPacket NoFields → v.writers ≡ w.writers → v.latest ≡ w.latest → v.answered ≡ w.answered → Waits g h w → Waits g j v
waits-same g t h j w v fr a b c old = record {
  writers = λ d.
      subst (λ (f : ℕ → Writing). WriterWaits g j v d (v.latest d) (heard (f d))) (sym a) (subst (λ (f : ℕ → ℕ). WriterWaits g j v d (f d) (heard (w.writers d))) (sym b)
      (same-waits g g t h j w v NoPacket NoFields d (w.latest d) (heard (w.writers d)) fr (λ p s e q. e) (λ f e q. e) (old.writers d)));
  unsent = λ d. subst (λ (f : ℕ → Writing). NoneSent v (heard (f d))) (sym a) (unsent-on g g t h j w v NoPacket NoFields (heard (w.writers d)) (heard (w.writers d)) fr (λ u q. q) (λ u p q e. e) (old.unsent d));
  answers = λ x has y. answer-on h j w v x fr.later fr.nodes (old.answers x (subst (λ xs. Has xs x) c has) y);
}
