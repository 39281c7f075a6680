-- What writers have acked doesn't fall in a session, and what they answer is no more than that.
use Rattle.std.proofs.Common.{◌≡◌, ℕ, ◌<◌, ◌≤◌, ◌⊎◌, inl, inr, Bool, true, false, List, [], ◌∷◌, Option, Some, None, IfSome, Ok, Err, refl, sym, ◌∙◌, ap, subst, arith}
use Rattle.std.specs.Prelude.{◌==◌, ◌&&◌, not, max, is_none}
use Rattle.hd_base.specs.declared.numbers.BlockId.{BlockId}
use Rattle.hd_base.specs.declared.numbers.NodeId.{NodeId}
use Rattle.hd_base.specs.declared.numbers.Stamp.{Stamp}
use Rattle.op_headers.specs.declared.ops.Op.{Op}
use Rattle.name_core.specs.declared.calls.OfficeAnswer.{OfficeAnswer}
use Rattle.name_core.specs.declared.calls.OfficeAnswer.TheVariants as office
use Rattle.name_core.specs.declared.calls.OfficeCall.{OfficeCall}
use Rattle.name_core.specs.declared.calls.OfficeCall.TheVariants as call
use Rattle.name_core.specs.Offices.{OfficeState, office_case}
use Rattle.name_core.specs.Steps.{Step as OfficeStep, reply, state_after}
use Rattle.name_core.proofs.CaseLemmas.{each_case}
use Rattle.writer_core.specs.declared.actions.Action.{Action}
use Rattle.writer_core.specs.declared.actions.Action.TheVariants as action
use Rattle.writer_core.specs.declared.actions.ClientAnswer.{ClientAnswer}
use Rattle.writer_core.specs.declared.actions.ClientAnswer.TheVariants as answer
use Rattle.writer_core.specs.declared.commands.Command.{Command}
use Rattle.writer_core.specs.declared.commands.Command.TheVariants as command
use Rattle.writer_core.specs.declared.phases.Phase.{Phase}
use Rattle.writer_core.specs.declared.phases.Phase.TheVariants as phase
use Rattle.writer_core.specs.declared.phases.Waiting.{Waiting}
use Rattle.writer_core.specs.declared.records.WriterRecord.{WriterRecord}
use Rattle.hd_base.specs.SumRules.{Rule}
use Rattle.std.specs.Prelude.{length}
use Rattle.std.proofs.lemmas.Bool.{false≢true}
use Rattle.writer_core.specs.declared.phases.Setup.{Setup}
use Rattle.writer_core.specs.Requests.{request_for}
use Rattle.writer_core.specs.Transitions.{Step, step_in, given, open_step, completed_step, dial_step_as, ordinal, dialled, granted, own_step}
use Rattle.world.specs.declared.events.TakenCommand.{TakenCommand}
use Rattle.world.specs.Connections.{is_conn}
use Rattle.world.specs.Clients.{is_empty, is_formed, ruled, command_bytes, did, dialled_change, dialling, rest_in, takes_command, writer_step, writer_change, writer_up}
use Rattle.world_laws.proofs.FactTables.{if-each, when-each, and-right, some-weaker}
use Rattle.world_laws.proofs.SessionAsides.{Aside}
use Rattle.world_laws.proofs.StampWalking.{none-is}
use Rattle.world_writers.specs.Moving.{Makes}
use Rattle.world_writers.proofs.Moving.{created-acks}
use Rattle.world_writers.proofs.Stepping.{queue-grows}
use Rattle.world.specs.Connections.{Next, message, the_end}
use Rattle.world.specs.Parts.{request, packet, ack, response, read_status, recovery_answer, Answered, Told, Writing}
use Rattle.world.specs.Worlds.{World, Change, Stamped, latest_with}
use Rattle.world.specs.Clients.{named_member, writer_hears, reached_answer}
use Rattle.world.specs.Primaries.{stamp_of, stamped_by}
use Rattle.world_laws.specs.Stamping.{known_heard, heard}
use Rattle.world_laws.proofs.OfficeSteps.{AsksAs}
use Rattle.world_laws.proofs.Sessions.{refused-stamp}
use Rattle.world_laws.proofs.StampGivens.{put-here}
use Rattle.world_laws.proofs.StampGranting.{granted-again, granted-commit, granted-complete}
use Rattle.world_acks.proofs.Granting.{put-own}
use Rattle.world_writers.specs.Moving.{Reaches}
use Rattle.world_writers.proofs.Reaching.{answers_in, own-step-says}
use Rattle.world_writers.proofs.Standing.{AckTaken, unacked, good, Answered as Heard, beside, accepted, ack-taken, answered-is, ended-steps, own-step-steps, given-steps, unanswered-steps, dialled-is, refused-steps, again-steps, commit-steps, complete-steps}

-- WHAT A WRITER HEARS

abbrev pub Lifts : WriterRecord → WriterRecord → Type 0
Lifts x y = x.stream.acked ≤ y.stream.acked

max-least : (a b c : ℕ) → c ≡ max a b → a ≤ c
max-least a b c e = grind (arith, e, max a b)

ended-lifts : (x : WriterRecord) (n : Next) (y : WriterRecord) → y.stream.acked ≡ x.stream.acked → Lifts x y
ended-lifts x n y e = omega (arith, e)

pub hears-lifts : (x : WriterRecord) (n : Next) → Lifts x (writer_hears x n)
hears-lifts x (message (request r)) = omega (arith, (ended-steps x).acked)
hears-lifts x (message (packet p)) = omega (arith, (ended-steps x).acked)
hears-lifts x (message (read_status s)) = omega (arith, (ended-steps x).acked)
hears-lifts x (message (recovery_answer a)) = omega (arith, (ended-steps x).acked)
hears-lifts x the_end = omega (arith, (ended-steps x).acked)
hears-lifts x (message (ack a)) = go (ack-taken x a)
  where
    go : {y : WriterRecord} → AckTaken x y a → Lifts x y
    go (unacked s k) = omega (arith, s.acked)
    go {y} (good p c is old q f at e s t) = max-least x.stream.acked _ y.stream.acked e
hears-lifts x (message (response r)) = go (answered-is x r (named_member x.members r.first_bad))
  where
    go : {y : WriterRecord} {g : Bool} → Heard x y g → Lifts x y
    go (beside s k) = omega (arith, s.acked)
    go (accepted s t at is z a b c e) = omega (arith, e)

-- WHAT THE OFFICE ANSWERS

-- a writer goes on in its session, or is given a stamp that begins one
abbrev pub Begun : World → ℕ → Option Stamped → WriterRecord → WriterRecord → Type 0
Begun w b s x y = ((latest_with w.latest s b ≡ w.latest b) × Lifts x y) ⊎ (latest_with w.latest s b ≡ w.office.next.0)

abbrev BegunBy : World → ℕ → OfficeCall → OfficeStep OfficeState OfficeAnswer → Type 0
BegunBy w b c s = (x : WriterRecord) → AsksAs x c → x.block ≡ record { 0 = b } → Begun w b (stamped_by w c (reply s)) x (granted x (reply s))

latest-new : (w : World) (b n e l : ℕ) (block own : BlockId) → block ≡ own → own ≡ record { 0 = b } → latest_with w.latest (stamp_of block.0 n e l) b ≡ l
latest-new w b n e l block own p q =
    subst (λ (i : ℕ). latest_with w.latest (stamp_of i n e l) b ≡ l) (sym (ap (λ (i : BlockId). i.0) (p ∙ q))) (put-here w.latest b l)

pub begun-by : (w : World) (b : ℕ) (c : OfficeCall) → BegunBy w b c (office_case w.office c)
begun-by w b c = each_case w.office (BegunBy w b) (record {
  refused = λ d e. λ x a q. subst (λ (o : Option Stamped). Begun w b o x (granted x (Err e))) (sym (refused-stamp w d e)) (inl (refl, omega (arith, (refused-steps x e).acked)));
  created = λ block members none. λ x a q. inr (latest-new w b w.office.next.0 w.office.next.0 w.office.next.0 block x.block a.block q);
  appended = λ block r is shut short. λ x a q. inr (latest-new w b w.office.next.0 w.office.next.0 w.office.next.0 block x.block a.block q);
  stamped = λ block r is writers. λ x a q.
      subst (λ (y : WriterRecord). Begun w b (stamped_by w (call.NewStamp block) (Ok (office.Stamp w.office.next))) x y) (sym (granted-again x w.office.next a.way a.at a.again))
      (inl (put-own w.latest block.0 b, omega (arith, (again-steps x a.way w.office.next a.again).acked)));
  committed = λ block stamp members r is writers new. λ x a q.
      subst (λ (y : WriterRecord). Begun w b None x y) (sym (granted-commit x stamp a.way a.at a.later)) (inl (refl, omega (arith, (commit-steps x a.way stamp a.at a.later).acked)));
  completed = λ block stamp bytes r is writers new. λ x a q. subst (λ (y : WriterRecord). Begun w b None x y) (sym (granted-complete x a.at)) (inl (refl, omega (arith, (complete-steps x).acked)));
  begun = λ block r is is_open. λ x a q. absurd a;
  synced = λ block id bytes members r is is_open latest. λ x a q. absurd a;
}) c

-- the sessions of the stamps that are given have begun
abbrev SessionBy : World → OfficeCall → OfficeStep OfficeState OfficeAnswer → Type 0
SessionBy w c s = (x : WriterRecord) → AsksAs x c → ((d : ℕ) → w.latest d < w.office.next.0) →
    IfSome (stamped_by w c (reply s)) (λ z. (z.session < (state_after w.office s).next.0) × (z.latest < (state_after w.office s).next.0))

pub session-by : (w : World) (c : OfficeCall) → SessionBy w c (office_case w.office c)
session-by w c = each_case w.office (SessionBy w) (record {
  refused = λ d e. λ x a l. subst (λ (o : Option Stamped). IfSome o (λ z. (z.session < w.office.next.0) × (z.latest < w.office.next.0))) (sym (refused-stamp w d e)) tt;
  created = λ block members none. λ x a l. (omega arith, omega arith);
  appended = λ block r is shut short. λ x a l. (omega arith, omega arith);
  stamped = λ block r is writers. λ x a l. (omega (arith, l block.0), omega (arith, l block.0));
  committed = λ block stamp members r is writers new. λ x a l. tt;
  completed = λ block stamp bytes r is writers new. λ x a l. tt;
  begun = λ block r is is_open. λ x a l. absurd a;
  synced = λ block id bytes members r is is_open latest. λ x a l. absurd a;
}) c

pub late-with : (f : ℕ → ℕ) (s : Option Stamped) (n : ℕ) → ((d : ℕ) → f d < n) → IfSome s (λ z. z.latest < n) → (d : ℕ) → latest_with f s d < n
late-with f None n h z d = h d
late-with f (Some s) n h z d = if-each (λ (i : ℕ). i < n) (d == s.block) s.latest (f d) (λ _. z) (λ _. h d)

-- WHAT A WRITER ANSWERS

-- an answered length is no more than what is acked at the writer of its block, whose committed stamp is the answer's
pub record AnswerFits (w : World) (a : Answered) : Type 0 where
  pub acked : a.length ≤ (heard (w.writers a.block)).stream.acked
  pub stamp : a.stamp ≡ (heard (w.writers a.block)).committed.0
  pub answers : answers_in (heard (w.writers a.block)).phase ≡ true

-- what an action answers
abbrev pub ActionFits : World → ℕ → Action → Type 0
ActionFits w b a = (i n : ℕ) (s : Stamp) (ms : List NodeId) → a ≡ action.Answered i (answer.Reached n s ms) →
    (n ≤ (heard (w.writers b)).stream.acked) × (s ≡ (heard (w.writers b)).committed) × (answers_in (heard (w.writers b)).phase ≡ true)

pub answered-fits : (w : World) (b i : ℕ) (waits : Option Waiting) (c : ClientAnswer) → ActionFits w b (action.Answered i c) → IfSome (reached_answer b waits c) (AnswerFits w)
answered-fits w b i waits (answer.Reached n s ms) h = let x = h i n s ms refl in record { acked = x.0; stamp = ap (λ (t : Stamp). t.0) x.1; answers = x.2 }
answered-fits w b i waits (answer.Granted s) h = tt
answered-fits w b i waits (answer.Abandoned m) h = tt
answered-fits w b i waits (answer.AllBad m) h = tt
answered-fits w b i waits (answer.Lost r) h = tt
answered-fits w b i waits (answer.Refused e) h = tt

-- an own step of a writer
pub own-answers : (w : World) (b : ℕ) (x : WriterRecord) → heard (w.writers b) ≡ x → Reaches x → ActionFits w b (own_step x).action
own-answers w b x q h = λ i n s ms e.
    let r = h i n s ms e in
    let a = (own-step-says x i n s ms e).reaches in
    subst (λ (z : WriterRecord). (n ≤ z.stream.acked) × (s ≡ z.committed) × (answers_in z.phase ≡ true)) (sym q) (r.acked, r.committed, a)

-- CHANGES

-- what a change that gives no stamp makes of its writer's acked bytes, and answers
pub record Lifted (w : World) (k : Change) : Type 0 where
  pub acked : Lifts (heard (w.writers k.writer_at)) (heard k.writer)
  pub answers : IfSome k.answered (AnswerFits w)

did-lifted : (w : World) (b : ℕ) (waits : Option Waiting) (a : Action) (y : WriterRecord) (bytes : List ℕ) → Lifts (heard (w.writers b)) y → ActionFits w b a → IfSome (did w b waits a y bytes) (Lifted w)
did-lifted w b waits action.Wait y bytes h q = tt
did-lifted w b waits action.Took y bytes h q = record { acked = h; answers = tt }
did-lifted w b waits (action.Ask c) y bytes h q = tt
did-lifted w b waits (action.Dial to r) y bytes h q = tt
did-lifted w b waits (action.Send p) y bytes h q = record { acked = h; answers = tt }
did-lifted w b waits (action.Answered i c) y bytes h q = record { acked = h; answers = answered-fits w b i waits c q }
did-lifted w b waits action.Memory y bytes h q = tt

-- the writer of a block, as it has heard all
abbrev IsHere : World → ℕ → WriterRecord → Type 0
IsHere w b x = heard (w.writers b) ≡ x

here-lifts : (w : World) (b : ℕ) (x y : WriterRecord) → IsHere w b x → y.stream.acked ≡ x.stream.acked → Lifts (heard (w.writers b)) y
here-lifts w b x y q e = omega (arith, e, ap (λ (z : WriterRecord). z.stream.acked) q)

stays-lifted : (w : World) (b : ℕ) (x y : WriterRecord) → IsHere w b x → y.stream.acked ≡ x.stream.acked → Lifted w (writer_change w b y)
stays-lifted w b x y q e = record { acked = here-lifts w b x y q e; answers = tt }

dialled-lifted : (w : World) (b : ℕ) (x : WriterRecord) (s : Setup) (stamp : Stamp) (to : NodeId) (r : Op) (answered : Bool) → IsHere w b x → x.phase ≡ phase.Stamped s stamp → Lifted w (dialled_change w b x to r answered)
dialled-lifted w b x s stamp to r true q e = record { acked = here-lifts w b x (dialled x true) q (ap (λ (z : WriterRecord). z.stream.acked) (dialled-is x s stamp e)); answers = tt }
dialled-lifted w b x s stamp to r false q e = record { acked = here-lifts w b x (dialled x false) q (unanswered-steps x).acked; answers = tt }

dialling-lifted : (w : World) (b : ℕ) (x : WriterRecord) (s : Setup) (stamp : Stamp) (ms : List NodeId) (answered : Bool) → IsHere w b x → x.phase ≡ phase.Stamped s stamp → Lifted w (dialling w b x (dial_step_as x s stamp ms).action answered)
dialling-lifted w b x s stamp [] answered q e = stays-lifted w b x x q refl
dialling-lifted w b x s stamp (m ∷ ms) answered q e = dialled-lifted w b x s stamp m (request_for x.block x.committed x.stream s stamp (length x.members) ms) (answered && w.running m.0) q e

silent-fits : (w : World) (b i : ℕ) (s : Stamp) → ActionFits w b (action.Answered i (answer.Granted s))
silent-fits w b i s = λ k n t ms e. absurd (cc)

completed-own : (x : WriterRecord) → x.phase ≡ phase.Completed → own_step x ≡ completed_step x
unfolding own_step
completed-own x e = ap (λ (p : Phase). step_in x p) e

rest-lifted : (p : Phase) (w : World) (b : ℕ) (x : WriterRecord) (answered : Bool) → x.phase ≡ p → IsHere w b x → Reaches x → IfSome (rest_in p w b x answered) (Lifted w)
rest-lifted phase.Closed w b x answered e q r = stays-lifted w b x x q refl
rest-lifted (phase.Wanted s) w b x answered e q r = stays-lifted w b x x q refl
rest-lifted (phase.Stamped s stamp) w b x answered e q r = dialling-lifted w b x s stamp x.members answered q e
rest-lifted (phase.Requested s stamp) w b x answered e q r = stays-lifted w b x x q refl
rest-lifted (phase.Accepted s stamp) w b x answered e q r = stays-lifted w b x x q refl
rest-lifted phase.Opened w b x answered e q r =
    did-lifted w b x.waiting (open_step x).action (open_step x).writer [] (here-lifts w b x (open_step x).writer q refl) (silent-fits w b (ordinal x) x.committed)
rest-lifted (phase.Streaming sent) w b x answered e q r = stays-lifted w b x x q refl
rest-lifted phase.Closing w b x answered e q r = stays-lifted w b x x q refl
rest-lifted phase.Finished w b x answered e q r = stays-lifted w b x x q refl
rest-lifted phase.Completed w b x answered e q r =
    did-lifted w b x.waiting (completed_step x).action (completed_step x).writer [] (here-lifts w b x (completed_step x).writer q refl)
    (subst (λ (z : Step). ActionFits w b z.action) (completed-own x e) (own-answers w b x q r))
rest-lifted (phase.Failed f) w b x answered e q r = stays-lifted w b x x q refl

-- a rule is brought by a create alone, before which nothing is acked
ruled-lifts : (b : ℕ) (x : WriterRecord) (c : Command) (r : Rule) → x.queue ≡ [] → not (is_empty (given x c).queue) ≡ true → Makes b x → Lifts x (ruled x c r)
ruled-lifts b x (command.Create members) r q t h = omega (arith, created-acks b x members q t h)
ruled-lifts b x (command.Append members) r q t h = omega arith
ruled-lifts b x (command.Write bytes) r q t h = omega arith
ruled-lifts b x (command.Fill count) r q t h = omega arith
ruled-lifts b x command.Hflush r q t h = omega arith
ruled-lifts b x command.Hsync r q t h = omega arith
ruled-lifts b x command.Close r q t h = omega arith

not-both : (b : Bool) → b ≡ true → not b ≡ true → ⊥
not-both true e f = false≢true f
not-both false e f = false≢true e

taken-fits : (w : World) (b : ℕ) (x : WriterRecord) (k : TakenCommand) → not (is_empty (given x k.command).queue) ≡ true → is_empty (own_step (given (ruled x k.command k.rule) k.command)).writer.queue ≡ true
    → ActionFits w b (own_step (given (ruled x k.command k.rule) k.command)).action
taken-fits w b x k full taken = λ i n s ms e.
    let z = given (ruled x k.command k.rule) k.command in
    let same = (own-step-says z i n s ms e).queue ∙ queue-grows x k.command k.rule in
    absurd (not-both (is_empty (given x k.command).queue) (sym (ap is_empty same) ∙ taken) full)

command-lifted : (w : World) (b : ℕ) (x : WriterRecord) (k : TakenCommand) → IsHere w b x → x.queue ≡ [] → Makes b x → IfSome (takes_command w b x k) (Lifted w)
command-lifted w b x k q empty m =
    let y = ruled x k.command k.rule in
    let z = given y k.command in
    let s = own_step z in
    let full = not (is_empty (given x k.command).queue) in
    when-each (Lifted w) (is_formed k.command k.rule && full) _
    (λ e. when-each (Lifted w) (is_empty s.writer.queue) _
    (λ t. did-lifted w b y.waiting s.action s.writer (command_bytes y k.command)
    (omega (arith, ap (λ (v : WriterRecord). v.stream.acked) q, ruled-lifts b x k.command k.rule empty (and-right (is_formed k.command k.rule) full e) m, (given-steps y k.command).acked, (own-step-steps z).acked))
    (taken-fits w b x k (and-right (is_formed k.command k.rule) full e) t)))

pub step-lifted : (w : World) (b : ℕ) (o : Option Told) (takes : Option TakenCommand) (answered : Bool) → Reaches (heard (w.writers b)) → Makes b (heard (w.writers b)) → (heard (w.writers b)).queue ≡ [] → (w.writers b).told ≡ o
    → IfSome (writer_step w b (w.writers b).known o takes answered) (Lifted w)
step-lifted w b (Some told) None answered r m empty e =
    let x = granted (w.writers b).known told in
    let q : IsHere w b x = ap (λ (o : Option Told). known_heard (w.writers b).known o) e in
    rest-lifted x.phase w b x answered refl q (subst (λ (z : WriterRecord). Reaches z) q r)
step-lifted w b (Some told) (Some k) answered r m empty e = tt
step-lifted w b None None answered r m empty e =
    let x = (w.writers b).known in
    let q : IsHere w b x = ap (λ (o : Option Told). known_heard (w.writers b).known o) e in
    did-lifted w b x.waiting (own_step x).action (own_step x).writer [] (here-lifts w b x (own_step x).writer q (own-step-steps x).acked) (own-answers w b x q (subst (λ (z : WriterRecord). Reaches z) q r))
step-lifted w b None (Some k) answered r m empty e =
    let x = (w.writers b).known in
    let q : IsHere w b x = ap (λ (o : Option Told). known_heard (w.writers b).known o) e in
    command-lifted w b x k q (subst (λ (z : WriterRecord). z.queue ≡ []) q empty) (subst (λ (z : WriterRecord). Makes b z) q m)

pub writer-up-lifted : (w : World) (b c : ℕ) (x : Next) → IfSome (writer_up w b c x) (Lifted w)
writer-up-lifted w b c x =
    when-each (Lifted w) (is_conn (w.writers b).conn c && is_none (w.writers b).told) _
    (λ e. let q : IsHere w b (w.writers b).known = ap (λ (o : Option Told). known_heard (w.writers b).known o) (none-is (w.writers b).told (and-right (is_conn (w.writers b).conn c) (is_none (w.writers b).told) e)) in
    record { acked = omega (arith, hears-lifts (w.writers b).known x, ap (λ (v : WriterRecord). v.stream.acked) q); answers = tt })

pub asides-lifted : (w : World) (o : Option Change) → IfSome o (Aside w) → IfSome o (Lifted w)
asides-lifted w o h = some-weaker (Aside w) (Lifted w) o (λ k a. record {
  acked = omega (arith, ap (λ (z : Writing). (heard z).stream.acked) a.writer);
  answers = subst (λ (x : Option Answered). IfSome x (AnswerFits w)) (sym a.answered) tt;
}) h
