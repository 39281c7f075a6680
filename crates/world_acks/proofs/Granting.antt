-- What the office's answers make of what writers know.
use Rattle.std.proofs.Common.{◌≡◌, ℕ, ℤ, ◌<◌, ◌≤◌, List, [], slice_get, Option, Some, None, IfSome, Ok, Err, refl, sym, ◌∙◌, ap, subst, arith, eqb-true}
use Rattle.std.specs.Prelude.{◌==◌, ◌&&◌, is_none, pos}
use Rattle.std.proofs.lemmas.Bool.{eqb-false}
use Rattle.std.proofs.lemmas.Option.{none-some}
use Rattle.hd_base.specs.declared.numbers.BlockId.{BlockId}
use Rattle.packet_codec.specs.declared.packets.Packet.{Packet}
use Rattle.name_core.specs.declared.calls.OfficeAnswer.{OfficeAnswer}
use Rattle.name_core.specs.declared.calls.OfficeAnswer.TheVariants as office
use Rattle.name_core.specs.declared.calls.OfficeCall.{OfficeCall}
use Rattle.name_core.specs.declared.calls.OfficeCall.TheVariants as call
use Rattle.name_core.specs.declared.faults.OfficeFault.{OfficeFault}
use Rattle.name_core.specs.declared.faults.OfficeFault.TheVariants as fault
use Rattle.name_core.specs.Offices.{OfficeState, office_case}
use Rattle.name_core.specs.Steps.{Step, state_after, reply}
use Rattle.name_core.proofs.CaseLemmas.{each_case}
use Rattle.world_recoveries.specs.RecoveryCore.OwnStep.{OwnStep}
use Rattle.world_recoveries.specs.RecoveryCore.OwnStep.TheVariants as own
use Rattle.world_recoveries.specs.RecoveryCore.Primaries.{PrimaryState, is_among, sync_call}
use Rattle.world_recoveries.specs.RecoveryCore.Primaries as primary
use Rattle.writer_core.specs.declared.actions.Action.{Action}
use Rattle.writer_core.specs.declared.actions.Action.TheVariants as action
use Rattle.writer_core.specs.declared.phases.Phase.TheVariants as phase
use Rattle.writer_core.specs.declared.phases.Setup.{Setup}
use Rattle.writer_core.specs.declared.phases.Setup.TheVariants as setup
use Rattle.writer_core.specs.declared.records.WriterRecord.{WriterRecord}
use Rattle.writer_core.specs.Transitions.{own_step, granted, refused, asks, phase_committed}
use Rattle.world_recoveries.specs.World.Caller.{Caller}
use Rattle.world_recoveries.specs.World.Caller.TheVariants as caller
use Rattle.world_recoveries.specs.World.Parts.{Told, Writing, Leading, Primary, no_primary, was_told, leads, has_led, request}
use Rattle.world_recoveries.specs.World.Worlds.{World, Stamped, Change, put, latest_with, apply}
use Rattle.world_recoveries.specs.World.Connections.{is_alive}
use Rattle.world_recoveries.specs.World.Primaries.{stamped_by, asks_writer, asks_primary, writer_asks, primary_commits, primary_asks, office_event}
use Rattle.world_recoveries.proofs.WorldLaws.FactTables.{if-each, put-each, when-each}
use Rattle.world_recoveries.proofs.WorldLaws.OfficeSteps.{AsksAs, Asking, own-step-asking}
use Rattle.world_recoveries.proofs.WorldLaws.Sessions.{refused-stamp}
use Rattle.world_recoveries.specs.WorldLaws.Stamping.{Givens, given_with, known_heard, heard}
use Rattle.world_recoveries.proofs.WorldLaws.StampGivens.{put-here}
use Rattle.world_recoveries.proofs.WorldLaws.StampGranting.{granted-create, granted-append, granted-again, granted-commit, granted-complete}
use Rattle.world_recoveries.proofs.WorldLaws.StampWalking.{none-is}
use Rattle.world_acks.specs.Acking.{Ends, reach_in, reach_wanted, reach_of, Numbers, PacketEnd}
use Rattle.world_acks.proofs.Seats.{steps-same}
use Rattle.world_acks.proofs.Turning.{Known}
use Rattle.world_acks.proofs.Moves.{Continues, Follows, IsUnstamped, to-unstamped, goes-on, follows-numbers, follows-itself, same-stream, reach-at}
use Rattle.world_acks.specs.Waiting.{Unasked}
use Rattle.world_acks.proofs.Requests.{to-unasked, follows-unasked, out-unasked, client-requests}
use Rattle.world_acks.proofs.Clients.{Leads, IsClient, client-news, none-dials, none-downs}
use Rattle.world_recoveries.proofs.WorldLaws.OfficeSteps.{IsAgain, IsLater, IsPrimarys}
use Rattle.writer_core.specs.declared.phases.Phase.{Phase}
use Rattle.hd_base.specs.declared.numbers.Stamp.{Stamp}
use Rattle.world_recoveries.specs.WorldLaws.Carrying.{new_stamp, WriteSays}
use Rattle.op_headers.specs.declared.ops.Op.TheVariants as op

-- WHAT A WRITER MAKES OF A REFUSAL

refused-as-follows : (x : WriterRecord) (e : OfficeFault) → Follows x (refused x e)
refused-as-follows x fault.Memory = follows-itself x
refused-as-follows x (fault.LeaseLost recovery) = goes-on x (refused x (fault.LeaseLost recovery)) refl refl (omega arith) (to-unstamped x.phase (refused x (fault.LeaseLost recovery)).phase tt)
refused-as-follows x fault.Known = goes-on x (refused x fault.Known) refl refl (omega arith) (to-unstamped x.phase (refused x fault.Known).phase tt)
refused-as-follows x fault.Unknown = goes-on x (refused x fault.Unknown) refl refl (omega arith) (to-unstamped x.phase (refused x fault.Unknown).phase tt)
refused-as-follows x fault.NotOpen = goes-on x (refused x fault.NotOpen) refl refl (omega arith) (to-unstamped x.phase (refused x fault.NotOpen).phase tt)
refused-as-follows x fault.NotClosed = goes-on x (refused x fault.NotClosed) refl refl (omega arith) (to-unstamped x.phase (refused x fault.NotClosed).phase tt)
refused-as-follows x (fault.OldStamp committed) = goes-on x (refused x (fault.OldStamp committed)) refl refl (omega arith) (to-unstamped x.phase (refused x (fault.OldStamp committed)).phase tt)
refused-as-follows x (fault.OldRecovery latest) = goes-on x (refused x (fault.OldRecovery latest)) refl refl (omega arith) (to-unstamped x.phase (refused x (fault.OldRecovery latest)).phase tt)
refused-as-follows x (fault.TooLong bytes) = goes-on x (refused x (fault.TooLong bytes)) refl refl (omega arith) (to-unstamped x.phase (refused x (fault.TooLong bytes)).phase tt)

refused-follows : (x : WriterRecord) (e : OfficeFault) → Follows x (granted x (Err e))
unfolding granted
refused-follows x e = if-each (λ (y : WriterRecord). Follows x y) (asks x.phase) (refused x e) x (λ _. refused-as-follows x e) (λ _. follows-itself x)

-- STAMPS THAT ARE GIVEN

-- with this stamp what was given stays given
pub given-mono : (g : Givens) (o : Option Stamped) (n b t e : ℕ) → IfSome o (λ s. s.stamp ≡ n) → t < n → g b t ≡ Some e → given_with g o b t ≡ Some e
given-mono g None n b t e s lt q = q
given-mono g (Some s) n b t e z lt q =
    if-each (λ (f : ℕ → Option ℕ). f t ≡ Some e) (b == s.block) (put (g s.block) s.stamp (Some s.session)) (g b)
    (λ x. if-each (λ (o : Option ℕ). o ≡ Some e) (t == s.stamp) (Some s.session) (g s.block t) (λ y. absurd (omega (arith, lt, z, eqb-true t s.stamp y))) (λ _. ap (λ (i : ℕ). g i t) (sym (eqb-true b s.block x)) ∙ q)) (λ _. q)

-- The next stamp doesn't fall, and one that is given is that one.
pub record IsNext (o : OfficeState) (s : Option Stamped) (p : OfficeState) : Type 0 where
  pub rises : o.next.0 ≤ p.next.0
  pub fresh : IfSome s (λ x. x.stamp ≡ o.next.0)

abbrev pub NextBy : World → OfficeCall → Step OfficeState OfficeAnswer → Type 0
NextBy w c s = IsNext w.office (stamped_by w c (reply s)) (state_after w.office s)

pub next-by : (w : World) (c : OfficeCall) → NextBy w c (office_case w.office c)
next-by w c = each_case w.office (NextBy w) (record {
  refused = λ d e. record { rises = omega arith; fresh = subst (λ (o : Option Stamped). IfSome o (λ x. x.stamp ≡ w.office.next.0)) (sym (refused-stamp w d e)) tt };
  created = λ block members none. record { rises = omega arith; fresh = refl };
  appended = λ block r is shut short. record { rises = omega arith; fresh = refl };
  stamped = λ block r is writers. record { rises = omega arith; fresh = refl };
  committed = λ block stamp members r is writers new. record { rises = omega arith; fresh = tt };
  completed = λ block stamp bytes r is writers new. record { rises = omega arith; fresh = tt };
  begun = λ block r is is_open. record { rises = omega arith; fresh = refl };
  synced = λ block id bytes members r is is_open latest. record { rises = omega arith; fresh = tt };
}) c

-- LATEST SESSIONS

pub put-own : (f : ℕ → ℕ) (i j : ℕ) → put f i (f i) j ≡ f j
put-own f i j = if-each (λ (x : ℕ). x ≡ f j) (j == i) (f i) (f j) (λ e. ap f (sym (eqb-true j i e))) (λ _. refl)

put-apart : (f : ℕ → ℕ) (i x j b : ℕ) → i ≡ b → (j ≡ b → ⊥) → put f i x j ≡ f j
put-apart f i x j b e a = if-each (λ (y : ℕ). y ≡ f j) (j == i) x (f j) (λ q. absurd (a (eqb-true j i q ∙ e))) (λ _. refl)

pub none-latest : (w : World) (o : Option Stamped) (d : ℕ) → o ≡ None → latest_with w.latest o d ≡ w.latest d
none-latest w o d e = subst (λ (q : Option Stamped). latest_with w.latest q d ≡ w.latest d) (sym e) refl

-- what a writer knows after an answer
pub record Answers (g : Givens) (t : Ends) (w : World) (b : ℕ) (s : Option Stamped) (y : WriterRecord) : Type 0 where
  pub own : Numbers (given_with g s b) t (latest_with w.latest s b) y
  pub unasked : Unasked w.past y.phase
  pub others : (d : ℕ) → (d ≡ b → ⊥) → latest_with w.latest s d ≡ w.latest d

abbrev pub AnswersBy : Givens → Ends → World → ℕ → OfficeCall → Step OfficeState OfficeAnswer → Type 0
AnswersBy g t w b c s = (x : WriterRecord) → AsksAs x c → x.block ≡ record { 0 = b } → Known g t w → Numbers (g b) t (w.latest b) x → Unasked w.past x.phase → Answers g t w b (stamped_by w c (reply s)) (granted x (reply s))

-- a writer at the beginning of a session
begun-numbers : (f : ℕ → Option ℕ) (t : Ends) (n : ℕ) (y : WriterRecord) → y.stream.unacked ≡ [] → f n ≡ Some n → ((k : PacketEnd) (q : ℤ) → t n q ≡ Some k → ⊥) → Numbers f t n y
begun-numbers f t n y e own none = record {
  known = λ _. own;
  packets = λ r i p q. absurd (none-some p (subst (λ (xs : List Packet). slice_get xs i ≡ Some p) e q));
  below = λ r q k z. absurd (none k (pos q) z);
}

-- nothing was asked under the stamp that is given next
next-unasked : (g : Givens) (t : Ends) (w : World) (p : Phase) → Known g t w → ((s : Setup) (z : Stamp) → p ≡ phase.Stamped s z → z ≡ w.office.next) → Unasked w.past p
next-unasked g t w p h e = to-unasked w.past p (λ s z q c x.
    let says : WriteSays g w.past c x.fields = h.facts.carried.downs c 0 (request (op.Write x.fields)) x.first in
    absurd (omega (arith, h.facts.recorded.below x.fields.block.block.0 (new_stamp x.fields).0 says.session says.given, ap (λ (y : Stamp). y.0) (x.is ∙ e s z q))))

stamp-same : (s w : Setup) (t z : Stamp) → phase.Stamped s t ≡ phase.Stamped w z → z ≡ t
stamp-same s w t z e = cc

begin-answers : (g : Givens) (t : Ends) (w : World) (b i : ℕ) (y : WriterRecord) → i ≡ b → Known g t w → y.stream.unacked ≡ [] → ((s : Setup) (z : Stamp) → y.phase ≡ phase.Stamped s z → z ≡ w.office.next)
    → Answers g t w b (Some (record { block = i; stamp = w.office.next.0; session = w.office.next.0; latest = w.office.next.0 })) y
begin-answers g t w b i y e h u stamps =
    let n = w.office.next.0 in
    record {
      own = subst (λ (j : ℕ). Numbers (put g j (put (g j) n (Some n)) b) t (put w.latest j n b) y) (sym e)
          (subst (λ (l : ℕ). Numbers (put g b (put (g b) n (Some n)) b) t l y) (sym (put-here w.latest b n))
          (begun-numbers (put g b (put (g b) n (Some n)) b) t n y u (ap (λ (f : ℕ → Option ℕ). f n) (put-here g b (put (g b) n (Some n))) ∙ put-here (g b) n (Some n)) (λ k q z. absurd (omega (arith, h.acked.begun n k q z)))));
      unasked = next-unasked g t w y.phase h stamps;
      others = λ d apart. put-apart w.latest i n d b e apart;
    }

more-numbers : (f k : ℕ → Option ℕ) (t : Ends) (l : ℕ) (y : WriterRecord) → (f l ≡ Some l → k l ≡ Some l) → Numbers f t l y → Numbers k t l y
more-numbers f k t l y m n = record { known = λ r. m (n.known r); packets = n.packets; below = n.below }

-- a writer that goes on in its session
same-answers : (g : Givens) (t : Ends) (w : World) (b : ℕ) (s : Option Stamped) (x y : WriterRecord) → Known g t w → IfSome s (λ z. z.stamp ≡ w.office.next.0) → ((d : ℕ) → latest_with w.latest s d ≡ w.latest d) → Continues x y → Unasked w.past y.phase
    → Numbers (g b) t (w.latest b) x → Answers g t w b s y
same-answers g t w b s x y h fresh l f u n = record {
  own = subst (λ (i : ℕ). Numbers (given_with g s b) t i y) (sym (l b)) (more-numbers (g b) (given_with g s b) t (w.latest b) y
      (λ q. given-mono g s w.office.next.0 b (w.latest b) (w.latest b) fresh (h.facts.recorded.below b (w.latest b) (w.latest b) q) q) (follows-numbers (g b) t (w.latest b) x y f n));
  unasked = u;
  others = λ d apart. l d;
}

again-reach : (way : Setup) → IsAgain way → reach_in way ≤ reach_wanted way
again-reach setup.Create a = absurd a
again-reach setup.Append a = absurd a
again-reach setup.AppendRecovery a = omega arith
again-reach setup.StreamRecovery a = omega arith
again-reach setup.CloseRecovery a = omega arith

later-reach : (way : Setup) → IsLater way → reach_of (phase_committed way) ≤ reach_in way
later-reach setup.Create a = absurd a
later-reach setup.Append a = omega arith
later-reach setup.AppendRecovery a = omega arith
later-reach setup.StreamRecovery a = omega arith
later-reach setup.CloseRecovery a = omega arith

index-of : (b : ℕ) (block own : BlockId) → block ≡ own → own ≡ record { 0 = b } → block.0 ≡ b
index-of b block own e q = ap (λ (i : BlockId). i.0) (e ∙ q)

committed-unstamped : (s : Setup) → IsUnstamped (phase_committed s)
committed-unstamped setup.Create = tt
committed-unstamped setup.Append = tt
committed-unstamped setup.AppendRecovery = tt
committed-unstamped setup.StreamRecovery = tt
committed-unstamped setup.CloseRecovery = tt

pub answers-by : (g : Givens) (t : Ends) (w : World) (b : ℕ) (c : OfficeCall) → AnswersBy g t w b c (office_case w.office c)
answers-by g t w b c = each_case w.office (AnswersBy g t w b) (record {
  refused = λ d e. λ x a q h n u.
      subst (λ (o : Option Stamped). Answers g t w b o (granted x (Err e))) (sym (refused-stamp w d e)) (same-answers g t w b None x (granted x (Err e)) h tt (λ _. refl) (refused-follows x e).continues (follows-unasked w.past x (granted x (Err e)) (refused-follows x e) u) n);
  created = λ block members none. λ x a q h n u.
      subst (λ (y : WriterRecord). Answers g t w b (stamped_by w (call.Create block members) (Ok (office.Stamp w.office.next))) y) (sym (granted-create x w.office.next a.at)) (begin-answers g t w b block.0 _ (index-of b block x.block a.block q) h refl (λ s z e. stamp-same _ s w.office.next z e));
  appended = λ block r is shut short. λ x a q h n u.
      subst (λ (y : WriterRecord). Answers g t w b (stamped_by w (call.Append block) (Ok (office.Reopened (record { committed = r.committed; length = r.length; new = w.office.next })))) y)
      (sym (granted-append x (record { committed = r.committed; length = r.length; new = w.office.next }) a.at short)) (begin-answers g t w b block.0 _ (index-of b block x.block a.block q) h refl (λ s z e. stamp-same _ s w.office.next z e));
  stamped = λ block r is writers. λ x a q h n u.
      subst (λ (y : WriterRecord). Answers g t w b (stamped_by w (call.NewStamp block) (Ok (office.Stamp w.office.next))) y) (sym (granted-again x w.office.next a.way a.at a.again))
      (same-answers g t w b (stamped_by w (call.NewStamp block) (Ok (office.Stamp w.office.next))) x (record x { phase = phase.Stamped a.way w.office.next }) h refl (λ d. put-own w.latest block.0 d)
      (same-stream x (record x { phase = phase.Stamped a.way w.office.next }) refl refl (omega (arith, again-reach a.way a.again, reach-at x (phase.Wanted a.way) a.at))) (next-unasked g t w (phase.Stamped a.way w.office.next) h (λ s z e. stamp-same a.way s w.office.next z e)) n);
  committed = λ block stamp members r is writers new. λ x a q h n u.
      subst (λ (y : WriterRecord). Answers g t w b None y) (sym (granted-commit x stamp a.way a.at a.later))
      (same-answers g t w b None x (record x { committed = stamp; phase = phase_committed a.way }) h tt (λ _. refl)
      (same-stream x (record x { committed = stamp; phase = phase_committed a.way }) refl refl (omega (arith, later-reach a.way a.later, reach-at x (phase.Accepted a.way stamp) a.at))) (out-unasked w.past (phase_committed a.way) (committed-unstamped a.way)) n);
  completed = λ block stamp bytes r is writers new. λ x a q h n u.
      subst (λ (y : WriterRecord). Answers g t w b None y) (sym (granted-complete x a.at))
      (same-answers g t w b None x (record x { phase = phase.Completed }) h tt (λ _. refl) (same-stream x (record x { phase = phase.Completed }) refl refl (omega (arith, reach-at x phase.Finished a.at))) tt n);
  begun = λ block r is is_open. λ x a q h n u. absurd a;
  synced = λ block id bytes members r is is_open latest. λ x a q h n u. absurd a;
}) c

abbrev pub LatestBy : World → OfficeCall → Step OfficeState OfficeAnswer → Type 0
LatestBy w c s = IsPrimarys c → (d : ℕ) → latest_with w.latest (stamped_by w c (reply s)) d ≡ w.latest d

pub latest-by : (w : World) (c : OfficeCall) → LatestBy w c (office_case w.office c)
latest-by w c = each_case w.office (LatestBy w) (record {
  refused = λ d e. λ p i. none-latest w (stamped_by w d (Err e)) i (refused-stamp w d e);
  created = λ block members none. λ p i. absurd p;
  appended = λ block r is shut short. λ p i. absurd p;
  stamped = λ block r is writers. λ p i. absurd p;
  committed = λ block stamp members r is writers new. λ p i. absurd p;
  completed = λ block stamp bytes r is writers new. λ p i. absurd p;
  begun = λ block r is is_open. λ p i. put-own w.latest block.0 i;
  synced = λ block id bytes members r is is_open latest. λ p i. refl;
}) c

-- THE OFFICE'S CHANGES

abbrev By : Givens → Change → Givens
By g k = given_with g k.stamped

pub fresh-given : (g : Givens) (t : Ends) (w : World) (s : Option Stamped) → Known g t w → IfSome s (λ z. z.stamp ≡ w.office.next.0) → (b i e : ℕ) → g b i ≡ Some e → given_with g s b i ≡ Some e
fresh-given g t w s h f b i e q = given-mono g s w.office.next.0 b i e f (h.facts.recorded.below b i e q) q

-- what a change of the office leads to, where its stamp is the next one
pub record OfficeLeads (g : Givens) (t : Ends) (w : World) (k : Change) : Type 0 where
  pub fresh : IfSome k.stamped (λ z. z.stamp ≡ w.office.next.0)
  pub leads : Leads g (By g k) t w k

office-leads : (g : Givens) (t : Ends) (w : World) (k : Change) → Known g t w → IsClient w k → IsNext w.office k.stamped k.office → ((d : ℕ) → k.downs d ≡ []) → k.dials ≡ [] → Unasked w.past (heard k.writer).phase
    → ((b : ℕ) → Numbers (By g k b) t (latest_with w.latest k.stamped b) (heard (put w.writers k.writer_at k.writer b))) → OfficeLeads g t w k
office-leads g t w k h a n downs dials u writers = record {
  fresh = n.fresh;
  leads = record {
    ends = t;
    named = λ e x q z. z;
    steps = steps-same w k a.replica;
    requests = client-requests w k a.lower dials u;
    news = λ on facts recovers. client-news g (By g k) t t w k h a on (fresh-given g t w k.stamped h n.fresh) (none-downs (By g k) t (apply w k) k downs) (none-dials (By g k) t w k dials) writers (λ e x q z. omega (arith, h.acked.begun e x q z, n.rises));
  };
}

asks-leads : (a : Action) (g : Givens) (t : Ends) (w : World) (b : ℕ) → Known g t w → (w.writers b).told ≡ None → (own_step (w.writers b).known).action ≡ a → IfSome (writer_asks a w b) (OfficeLeads g t w)
asks-leads action.Wait g t w b h e q = tt
asks-leads action.Took g t w b h e q = tt
asks-leads (action.Dial to r) g t w b h e q = tt
asks-leads (action.Send p) g t w b h e q = tt
asks-leads (action.Answered n c) g t w b h e q = tt
asks-leads action.Memory g t w b h e q = tt
asks-leads (action.Ask c) g t w b h e q =
    let k = asks_writer w b c in
    let x = (w.writers b).known in
    let asking : AsksAs x c = subst (λ (z : Action). Asking x z) q (own-step-asking x) in
    let block : x.block ≡ record { 0 = b } = subst (λ (o : Option Told). (known_heard x o).block ≡ record { 0 = b }) e (h.facts.recorded.writers b) in
    let numbers : Numbers (g b) t (w.latest b) x = subst (λ (o : Option Told). Numbers (g b) t (w.latest b) (known_heard x o)) e (h.acked.writers b) in
    let asked : Unasked w.past x.phase = subst (λ (o : Option Told). Unasked w.past (known_heard x o).phase) e (h.requests.unasked b) in
    let y = answers-by g t w b c x asking block h numbers asked in
    let next = next-by w c in
    office-leads g t w k h (record { replica = refl; lower = refl; joined = refl; ups = λ _. refl }) next (λ _. refl) refl y.unasked
    (λ d. if-each (λ (z : Writing). Numbers (By g k d) t (latest_with w.latest k.stamped d) (heard z)) (d == b) k.writer (w.writers d)
    (λ s. subst (λ (i : ℕ). Numbers (By g k i) t (latest_with w.latest k.stamped i) (heard k.writer)) (sym (eqb-true d b s)) y.own)
    (λ s. subst (λ (l : ℕ). Numbers (By g k d) t l (heard (w.writers d))) (sym (y.others d (eqb-false d b s))) (more-numbers (g d) (By g k d) t (w.latest d) (heard (w.writers d))
    (λ z. fresh-given g t w k.stamped h next.fresh d (w.latest d) (w.latest d) z) (h.acked.writers d))))

primary-asks-leads : (g : Givens) (t : Ends) (w : World) (i : ℕ) (c : OfficeCall) (p : Told → Primary) → IsPrimarys c → Known g t w → OfficeLeads g t w (asks_primary w i c p)
primary-asks-leads g t w i c p a h =
    let k = asks_primary w i c p in
    let next = next-by w c in
    office-leads g t w k h (record { replica = refl; lower = refl; joined = refl; ups = λ _. refl }) next (λ _. refl) refl (h.requests.unasked 0)
    (put-each (λ (d : ℕ) (z : Writing). Numbers (By g k d) t (latest_with w.latest k.stamped d) (heard z)) w.writers 0 (w.writers 0) (each k next 0) (each k next))
  where
    each : (k : Change) → IsNext w.office (stamped_by w c (reply (office_case w.office c))) (state_after w.office (office_case w.office c)) → (d : ℕ)
        → Numbers (given_with g (stamped_by w c (reply (office_case w.office c))) d) t (latest_with w.latest (stamped_by w c (reply (office_case w.office c))) d) (heard (w.writers d))
    each k next d = subst (λ (l : ℕ). Numbers (given_with g (stamped_by w c (reply (office_case w.office c))) d) t l (heard (w.writers d))) (sym (latest-by w c a d))
        (more-numbers (g d) (given_with g (stamped_by w c (reply (office_case w.office c))) d) t (w.latest d) (heard (w.writers d)) (λ z. fresh-given g t w (stamped_by w c (reply (office_case w.office c))) h next.fresh d (w.latest d) (w.latest d) z) (h.acked.writers d))

commits-asked : (s : OwnStep) (g : Givens) (t : Ends) (w : World) (i : ℕ) (l : Leading) → Known g t w → IfSome (primary_commits s w i l) (OfficeLeads g t w)
commits-asked own.Waits g t w i l h = tt
commits-asked (own.Updates c) g t w i l h = tt
commits-asked (own.Commits c) g t w i l h = primary-asks-leads g t w i (sync_call l.state c) (λ told. leads (record l { told = Some told })) tt h
commits-asked (own.Ends r) g t w i l h = tt

primary-as : (p : Primary) (g : Givens) (t : Ends) (w : World) (i : ℕ) (b : BlockId) → Known g t w → IfSome (primary_asks p w i b) (OfficeLeads g t w)
primary-as no_primary g t w i b h = primary-asks-leads g t w i (call.BeginRecovery b) (was_told b) tt h
primary-as (was_told c told) g t w i b h = tt
primary-as (leads l) g t w i b h = when-each (OfficeLeads g t w) (is_alive w l.at && is_none l.told) _ (λ _. commits-asked (primary.own_step l.state).does g t w i l h)
primary-as (has_led r) g t w i b h = tt

pub office-event-leads : (g : Givens) (t : Ends) (w : World) (c : Caller) → Known g t w → IfSome (office_event w c) (OfficeLeads g t w)
office-event-leads g t w (caller.Writer b) h =
    when-each (OfficeLeads g t w) (is_none (w.writers b.0).told) _ (λ e. asks-leads (own_step (w.writers b.0).known).action g t w b.0 h (none-is (w.writers b.0).told e) refl)
office-event-leads g t w (caller.Primary i b) h = primary-as (w.primaries i) g t w i b h
