-- What the office's answers make of what members show.
use Rattle.std.proofs.Common.{◌≡◌, ℕ, ◌≤◌, List, length, Option, Some, None, IfSome, Ok, Err, refl, sym, ◌∙◌, ap, subst, arith}
use Rattle.std.specs.Prelude.{is_none, ◌&&◌}
use Rattle.hd_base.specs.declared.numbers.BlockId.{BlockId}
use Rattle.hd_base.specs.declared.numbers.Stamp.{Stamp}
use Rattle.name_core.specs.declared.calls.OfficeAnswer.{OfficeAnswer}
use Rattle.name_core.specs.declared.calls.OfficeAnswer.TheVariants as office
use Rattle.name_core.specs.declared.calls.OfficeCall.{OfficeCall}
use Rattle.name_core.specs.declared.calls.OfficeCall.TheVariants as call
use Rattle.name_core.specs.Offices.{OfficeState, office_case}
use Rattle.name_core.specs.Steps.{Step, reply}
use Rattle.name_core.proofs.CaseLemmas.{each_case}
use Rattle.packet_stream.specs.Streams.{written_in}
use Rattle.recovery_core.specs.declared.primary.OwnStep.{OwnStep}
use Rattle.recovery_core.specs.declared.primary.OwnStep.TheVariants as own
use Rattle.recovery_core.specs.Primaries.{PrimaryState, sync_call}
use Rattle.recovery_core.specs.Primaries as primary
use Rattle.writer_core.specs.declared.actions.Action.{Action}
use Rattle.writer_core.specs.declared.actions.Action.TheVariants as action
use Rattle.writer_core.specs.declared.phases.Phase.{Phase}
use Rattle.writer_core.specs.declared.phases.Phase.TheVariants as phase
use Rattle.writer_core.specs.declared.phases.Setup.{Setup}
use Rattle.writer_core.specs.declared.phases.Setup.TheVariants as setup
use Rattle.writer_core.specs.declared.records.WriterRecord.{WriterRecord}
use Rattle.writer_core.specs.Transitions.{own_step, granted}
use Rattle.world.specs.declared.events.Caller.{Caller}
use Rattle.world.specs.declared.events.Caller.TheVariants as caller
use Rattle.world.specs.Connections.{is_alive}
use Rattle.world.specs.Parts.{Told, Writing, Leading, Primary, no_primary, was_told, leads, has_led}
use Rattle.world.specs.Primaries.{stamped_by, asks_writer, asks_primary, writer_asks, primary_commits, primary_asks, office_event}
use Rattle.world.specs.Worlds.{World, Stamped, Change, latest_with, past_after, apply}
use Rattle.world_laws.proofs.FactTables.{when-each, some-weaker}
use Rattle.world_laws.proofs.OfficeSteps as steps
use Rattle.world_laws.proofs.OfficeSteps.{AsksAs, own-step-asking, IsPrimarys}
use Rattle.world_laws.proofs.Sessions.{refused-stamp}
use Rattle.world_laws.specs.Stamping.{Givens, given_with, known_heard, heard}
use Rattle.world_laws.proofs.StampGivens.{put-here}
use Rattle.world_laws.proofs.StampGranting.{granted-create, granted-append, granted-again, granted-commit, granted-complete}
use Rattle.world_laws.proofs.StampWalking.{none-is}
use Rattle.world_laws.specs.Carrying.{StreamOf, Streams, WriterSays}
use Rattle.world_laws.proofs.ByteLeaves.{Facts}
use Rattle.world_acks.specs.Acking.{Ends, reach_of, Numbers}
use Rattle.world_acks.proofs.Seats.{Onward}
use Rattle.world_acks.specs.Waiting.{Unasked}
use Rattle.world_acks.proofs.Turning.{Known}
use Rattle.world_acks.proofs.Granting.{put-own, answers-by, latest-by}
use Rattle.std.proofs.lemmas.Bool.{false≢true}
use Rattle.world_writers.proofs.Keeping.{is_released, granted-keeps}
use Rattle.world_writers.specs.Showing.{Asking, not_asked, asking_in, ShowsAt, Starts}
use Rattle.world_writers.proofs.Standing.{Steps, steps-turns, refused-steps, again-steps, commit-steps, complete-steps}
use Rattle.world_writers.proofs.Piped.{Piped, Stands, stands-turns, piped-on, stands-on, apply-longer, Standing, Stood}
use Rattle.world_writers.proofs.Stepping.{sets-reach, stands-told}

-- WHAT A WRITER MAKES OF AN ANSWER

-- it goes on in its session, or is at the beginning of one
data Grants (w : World) (b : ℕ) (s : Option Stamped) (x y : WriterRecord) : Type 0 where
  same : Steps x y → latest_with w.latest s b ≡ w.latest b → Grants w b s x y
  begins : (way : Setup) (stamp : Stamp) → y.phase ≡ phase.Stamped way stamp → y.stream.acked ≡ y.stream.base → Starts y.phase y.stream.acked → Grants w b s x y

abbrev GrantsBy : World → ℕ → OfficeCall → Step OfficeState OfficeAnswer → Type 0
GrantsBy w b c s = (x : WriterRecord) → AsksAs x c → Grants w b (stamped_by w c (reply s)) x (granted x (reply s))

grants-by : (w : World) (b : ℕ) (c : OfficeCall) → GrantsBy w b c (office_case w.office c)
grants-by w b c = each_case w.office (GrantsBy w b) (record {
  refused = λ d e. λ x a. subst (λ (o : Option Stamped). Grants w b o x (granted x (Err e))) (sym (refused-stamp w d e)) (same (refused-steps x e) refl);
  created = λ block members none. λ x a.
      subst (λ (y : WriterRecord). Grants w b (stamped_by w (call.Create block members) (Ok (office.Stamp w.office.next))) x y) (sym (granted-create x w.office.next a.at)) (begins setup.Create w.office.next refl refl refl);
  appended = λ block r is shut short. λ x a.
      subst (λ (y : WriterRecord). Grants w b (stamped_by w (call.Append block) (Ok (office.Reopened (record { committed = r.committed; length = r.length; new = w.office.next })))) x y)
      (sym (granted-append x (record { committed = r.committed; length = r.length; new = w.office.next }) a.at short)) (begins setup.Append w.office.next refl refl tt);
  stamped = λ block r is writers. λ x a.
      subst (λ (y : WriterRecord). Grants w b (stamped_by w (call.NewStamp block) (Ok (office.Stamp w.office.next))) x y) (sym (granted-again x w.office.next a.way a.at a.again))
      (same (again-steps x a.way w.office.next a.again) (put-own w.latest block.0 b));
  committed = λ block stamp members r is writers new. λ x a.
      subst (λ (y : WriterRecord). Grants w b None x y) (sym (granted-commit x stamp a.way a.at a.later)) (same (commit-steps x a.way stamp a.at a.later) refl);
  completed = λ block stamp bytes r is writers new. λ x a. subst (λ (y : WriterRecord). Grants w b None x y) (sym (granted-complete x a.at)) (same (complete-steps x) refl);
  begun = λ block r is is_open. λ x a. absurd a;
  synced = λ block id bytes members r is is_open latest. λ x a. absurd a;
}) c

-- THE CHANGE

abbrev pub By : Givens → Change → Givens
By g k = given_with g k.stamped

-- what is acked at the beginning of a session is written
begun-within : (g : Givens) (w : World) (k : Change) (way : Setup) (stamp : Stamp) → Facts g (apply w k) → (heard k.writer).phase ≡ phase.Stamped way stamp → (heard k.writer).stream.acked ≡ (heard k.writer).stream.base
    → g k.writer_at (latest_with w.latest k.stamped k.writer_at) ≡ Some (latest_with w.latest k.stamped k.writer_at) → (heard k.writer).stream.acked ≤ length ((apply w k).written (latest_with w.latest k.stamped k.writer_at))
unfolding apply
begun-within g w k way stamp f ph base given =
    let y = heard k.writer in
    let l = latest_with w.latest k.stamped k.writer_at in
    let says = subst (λ (z : Writing). WriterSays g (past_after w k) k.writer_at l z) (put-here w.writers k.writer_at k.writer) (f.carried.writers k.writer_at) in
    let stream : StreamOf says.own y.stream = subst (λ (p : Phase). Streams says.own y.stream p) ph says.streams in
    let whole : length says.own ≡ written_in y.stream = stream.carries.whole in
    let low : y.stream.base ≤ y.stream.sent = says.sound.stream.base in
    let high : y.stream.sent ≤ written_in y.stream = says.sound.stream.sent in
    let long : y.stream.sent ≤ length says.own = subst (λ (n : ℕ). y.stream.sent ≤ n) (sym whole) high in
    subst (λ (v : List ℕ). y.stream.acked ≤ length v) (says.are given) (omega (arith, base, low, long))

-- nothing is shown where nobody is asked
unasked : (v : World) (e : ℕ) (i : Asking) (m l : ℕ) (j : Asking) (n c : ℕ) → j ≡ not_asked → Piped v e i m c → Piped v l j n c
unasked v e i m l j n c z h = record { fields = h.fields; known = h.known; asked = h.asked; shows = subst (λ (d : Asking). ShowsAt d v c h.fields l n) (sym z) tt }

-- a change with the stamp that it gives
abbrev pub Gives : Givens → Ends → World → Change → Type 0
Gives g t w k = Stood g (By g k) t w k

abbrev Replied : World → ℕ → OfficeCall → WriterRecord
Replied w b c = granted (w.writers b).known (reply (office_case w.office c))

granted-stands : (g : Givens) (t u : Ends) (w : World) (b : ℕ) (c : OfficeCall) → Stands w b (w.latest b) (w.writers b).known (w.writers b).conn
    → Numbers (By g (asks_writer w b c) b) t (latest_with w.latest (asks_writer w b c).stamped b) (Replied w b c) → Onward g (By g (asks_writer w b c)) t u w (apply w (asks_writer w b c))
    → Facts (By g (asks_writer w b c)) (apply w (asks_writer w b c)) → Grants w b (asks_writer w b c).stamped (w.writers b).known (Replied w b c)
    → Stands (apply w (asks_writer w b c)) b (latest_with w.latest (asks_writer w b c).stamped b) (Replied w b c) (w.writers b).conn
granted-stands g t u w b c st n o f (same z l) =
    let k = asks_writer w b c in
    let x = (w.writers b).known in
    let y = Replied w b c in
    let conn = (w.writers b).conn in
    subst (λ (i : ℕ). Stands (apply w k) b i y conn) (sym l)
    (stands-on g (By g k) t u w (apply w k) b (w.latest b) y conn o (apply-longer w k) (stands-turns w b (w.latest b) x y conn (steps-turns x y z) (granted-keeps x (reply (office_case w.office c))) st))
granted-stands g t u w b c st n o f (begins way stamp at base starts) =
    let k = asks_writer w b c in
    let x = (w.writers b).known in
    let y = Replied w b c in
    let l = latest_with w.latest k.stamped b in
    let i = asking_in x.phase in
    let m = x.stream.acked in
    record {
      within = begun-within (By g k) w k way stamp f at base (n.known (subst (λ (p : Phase). 1 ≤ reach_of p) (sym at) (sets-reach way)));
      starts = starts;
      released = λ r. absurd (false≢true (sym (ap is_released at) ∙ r));
      piped = some-weaker (Piped w (w.latest b) i m) (Piped (apply w k) l (asking_in y.phase) y.stream.acked) (w.writers b).conn
          (λ d z. unasked (apply w k) (w.latest b) i m l (asking_in y.phase) y.stream.acked d (ap asking_in at) (piped-on g (By g k) t u w (apply w k) (w.latest b) i m d o z)) st.piped;
    }

asks-as : (x : WriterRecord) (c : OfficeCall) → (own_step x).action ≡ action.Ask c → AsksAs x c
asks-as x c q = subst (λ (a : Action). steps.Asking x a) q (own-step-asking x)

asks-stood : (a : Action) (g : Givens) (t : Ends) (w : World) (b : ℕ) → Known g t w → Standing g w → (w.writers b).told ≡ None → (own_step (w.writers b).known).action ≡ a → IfSome (writer_asks a w b) (Gives g t w)
asks-stood action.Wait g t w b h s e q = tt
asks-stood action.Took g t w b h s e q = tt
asks-stood (action.Dial to r) g t w b h s e q = tt
asks-stood (action.Send p) g t w b h s e q = tt
asks-stood (action.Answered n c) g t w b h s e q = tt
asks-stood action.Memory g t w b h s e q = tt
asks-stood (action.Ask c) g t w b h s e q =
    let x = (w.writers b).known in
    let asking : AsksAs x c = asks-as x c q in
    let block : x.block ≡ record { 0 = b } = subst (λ (o : Option Told). (known_heard x o).block ≡ record { 0 = b }) e (h.facts.recorded.writers b) in
    let numbers : Numbers (g b) t (w.latest b) x = subst (λ (o : Option Told). Numbers (g b) t (w.latest b) (known_heard x o)) e (h.acked.writers b) in
    let asked : Unasked w.past x.phase = subst (λ (o : Option Told). Unasked w.past (known_heard x o).phase) e (h.requests.unasked b) in
    let y = answers-by g t w b c x asking block h numbers asked in
    record {
      others = y.others;
      own = λ u o f. granted-stands g t u w b c (stands-told g w b None s e) y.own o f (grants-by w b c x asking);
      answers = tt;
    }

-- primaries leave the writers
primary-stood : (g : Givens) (t : Ends) (w : World) (i : ℕ) (c : OfficeCall) (p : Told → Primary) → IsPrimarys c → Standing g w → Stood g (By g (asks_primary w i c p)) t w (asks_primary w i c p)
primary-stood g t w i c p a h =
    let k = asks_primary w i c p in
    record {
      others = λ d _. latest-by w c a d;
      own = λ u o f.
          subst (λ (l : ℕ). Stands (apply w k) 0 l (heard (w.writers 0)) (w.writers 0).conn) (sym (latest-by w c a 0))
          (stands-on g (By g k) t u w (apply w k) 0 (w.latest 0) (heard (w.writers 0)) (w.writers 0).conn o (apply-longer w k) (h.each 0));
      answers = tt;
    }

commits-stood : (s : OwnStep) (g : Givens) (t : Ends) (w : World) (i : ℕ) (l : Leading) → Standing g w → IfSome (primary_commits s w i l) (Gives g t w)
commits-stood own.Waits g t w i l h = tt
commits-stood (own.Updates c) g t w i l h = tt
commits-stood (own.Commits c) g t w i l h = primary-stood g t w i (sync_call l.state c) (λ told. leads (record l { told = Some told })) tt h
commits-stood (own.Ends r) g t w i l h = tt

primary-as : (p : Primary) (g : Givens) (t : Ends) (w : World) (i : ℕ) (b : BlockId) → Standing g w → IfSome (primary_asks p w i b) (Gives g t w)
primary-as no_primary g t w i b h = primary-stood g t w i (call.BeginRecovery b) (was_told b) tt h
primary-as (was_told c told) g t w i b h = tt
primary-as (leads l) g t w i b h = when-each (Gives g t w) (is_alive w l.at && is_none l.told) _ (λ _. commits-stood (primary.own_step l.state).does g t w i l h)
primary-as (has_led r) g t w i b h = tt

pub office-stood : (g : Givens) (t : Ends) (w : World) (c : Caller) → Known g t w → Standing g w → IfSome (office_event w c) (Gives g t w)
office-stood g t w (caller.Writer b) h s =
    when-each (Gives g t w) (is_none (w.writers b.0).told) _ (λ e. asks-stood (own_step (w.writers b.0).known).action g t w b.0 h s (none-is (w.writers b.0).told e) refl)
office-stood g t w (caller.Primary i b) h s = primary-as (w.primaries i) g t w i b s
