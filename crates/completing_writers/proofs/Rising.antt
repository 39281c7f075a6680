-- The stamp of an append's pipeline is later than the committed one, after all plain events.
use Rattle.std.proofs.Common.{◌≡◌, ℕ, ◌<◌, Bool, true, false, List, [], ◌∷◌, ◌++◌, Option, Some, None, IfSome, sym, subst}
use Rattle.std.specs.Prelude.{◌&&◌, not, nat_lt, is_none}
use Rattle.std.proofs.lemmas.Bool.{false≢true}
use Rattle.std.proofs.lemmas.List.{append-nil, append_assoc}
use Rattle.hd_base.specs.declared.numbers.BlockId.{BlockId}
use Rattle.hd_base.specs.declared.numbers.NodeId.{NodeId}
use Rattle.hd_base.specs.declared.numbers.Stamp.{Stamp}
use Rattle.op_headers.specs.declared.ops.Op.{Op}
use Rattle.name_core.specs.declared.calls.OfficeCall.{OfficeCall}
use Rattle.name_core.specs.declared.calls.OfficeAnswer.{OfficeAnswer}
use Rattle.name_core.specs.declared.records.BlockRecord.{BlockRecord}
use Rattle.name_core.specs.Steps.{Step, reply}
use Rattle.name_core.specs.Offices.{OfficeState, record_of, answer_to}
use Rattle.name_core.proofs.CaseLemmas.{each_case}
use Rattle.writer_core.specs.declared.actions.Action.{Action}
use Rattle.writer_core.specs.declared.actions.Action.TheVariants as action
use Rattle.writer_core.specs.declared.phases.Phase.{Phase}
use Rattle.writer_core.specs.declared.phases.Phase.TheVariants as phase
use Rattle.writer_core.specs.declared.phases.Setup.{Setup}
use Rattle.writer_core.specs.declared.phases.Waiting.{Waiting}
use Rattle.writer_core.specs.declared.records.WriterRecord.{WriterRecord}
use Rattle.writer_core.specs.Transitions.{given, own_step, dial_step_as, open_step, completed_step, granted}
use Rattle.world.specs.declared.events.Caller.TheVariants as caller
use Rattle.world.specs.declared.events.Event.{Event}
use Rattle.world.specs.declared.events.Event.TheVariants as event
use Rattle.world.specs.declared.events.OwnStep.TheVariants as own
use Rattle.world.specs.declared.events.TakenCommand.{TakenCommand}
use Rattle.world.specs.Parts.{Upper, by_writer, by_member, by_reader, by_primary, Told, Writing}
use Rattle.world.specs.Worlds.{World, Change, apply, start}
use Rattle.world.specs.Connections.{Next, next_down, next_up, down_taken, up_taken, is_served, is_conn}
use Rattle.world.specs.Nodes.{lower_down, lower_ready, mirror_up}
use Rattle.world.specs.Clients.{did, dialled_change, dialling, rest_in, is_formed, ruled, command_bytes, is_empty, takes_command, writer_step, writer_up, own_reader, reader_up}
use Rattle.world.specs.Primaries.{primary_up, writer_asks, writer_asks_office}
use Rattle.world.specs.Events.{changed, down_as, upper_up, up_as, outcome, after_event, happens, run}
use Rattle.world_laws.specs.Stamping.{none_given, given_in, heard, HeldOf, Recorded}
use Rattle.world_laws.proofs.AllRecorded.{all-recorded}
use Rattle.world_laws.proofs.FactTables.{put-each, when-each}
use Rattle.world_laws.proofs.RunLaws.{runs-end}
use Rattle.world_laws.proofs.SessionAsides.{Aside, lower-down-aside, lower-ready-aside, mirror-up-aside, own-reader-aside, reader-up-aside, primary-up-aside}
use Rattle.play_completeness.specs.Plain.{is_plain, ArePlain}
use Rattle.completing_writers.proofs.RisingSteps.{Rises, ToldRises, own-rises, given-rises, ruled-rises, hears-rises}
use Rattle.completing_writers.proofs.RisingGrants.{dialled-rises, granted-rises}

-- a writer, and what the office answers it
pub record IsRising (x : Writing) : Type 0 where
  pub known : Rises x.known
  pub told : ToldRises x.told

-- so is the writer that a change leaves
abbrev Leaves : Change → Type 0
Leaves k = IsRising k.writer

abbrev pub AllRising : World → Type 0
AllRising w = (b : ℕ) → IsRising (w.writers b)

-- OWN STEPS

module _ (w : World) (b : ℕ) where
  did-leaves : (waits : Option Waiting) (a : Action) (x : WriterRecord) (bytes : List ℕ) → Rises x → IfSome (did w b waits a x bytes) Leaves
  did-leaves waits action.Took x bytes h = record { known = h; told = tt }
  did-leaves waits (action.Send p) x bytes h = record { known = h; told = tt }
  did-leaves waits (action.Answered k said) x bytes h = record { known = h; told = tt }
  did-leaves waits action.Wait x bytes h = tt
  did-leaves waits (action.Ask c) x bytes h = tt
  did-leaves waits (action.Dial to r) x bytes h = tt
  did-leaves waits action.Memory x bytes h = tt

  own-leaves : (waits : Option Waiting) (x : WriterRecord) (bytes : List ℕ) → Rises x → IfSome (did w b waits (own_step x).action (own_step x).writer bytes) Leaves
  own-leaves waits x bytes h = did-leaves waits (own_step x).action (own_step x).writer bytes (own-rises x h)

  takes-leaves : (x : WriterRecord) (t : TakenCommand) → Rises x → IfSome (takes_command w b x t) Leaves
  takes-leaves x t h =
      let y : WriterRecord = ruled x t.command t.rule in
      when-each Leaves (is_formed t.command t.rule && not (is_empty (given x t.command).queue)) _
      (λ _. when-each Leaves (is_empty (own_step (given y t.command)).writer.queue) _
      (λ _. own-leaves y.waiting (given y t.command) (command_bytes y t.command) (given-rises y t.command (ruled-rises x t.command t.rule h))))

  dialled-leaves : (x : WriterRecord) (to : NodeId) (r : Op) (answered : Bool) → Rises x → Leaves (dialled_change w b x to r answered)
  dialled-leaves x to r true h = record { known = dialled-rises x true h; told = tt }
  dialled-leaves x to r false h = record { known = dialled-rises x false h; told = tt }

  dialling-leaves : (x : WriterRecord) (s : Setup) (stamp : Stamp) (ns : List NodeId) (answered : Bool) → Rises x → Leaves (dialling w b x (dial_step_as x s stamp ns).action answered)
  dialling-leaves x s stamp [] answered h = record { known = h; told = tt }
  dialling-leaves x s stamp (n ∷ ns) answered h = dialled-leaves x n _ (answered && w.running n.0) h

  rest-leaves : (q : Phase) (x : WriterRecord) (answered : Bool) → Rises x → IfSome (rest_in q w b x answered) Leaves
  rest-leaves (phase.Stamped s stamp) x answered h = dialling-leaves x s stamp x.members answered h
  rest-leaves phase.Opened x answered h = did-leaves x.waiting (open_step x).action (open_step x).writer [] tt
  rest-leaves phase.Completed x answered h = did-leaves x.waiting (completed_step x).action (completed_step x).writer [] tt
  rest-leaves phase.Closed x answered h = record { known = h; told = tt }
  rest-leaves (phase.Wanted s) x answered h = record { known = h; told = tt }
  rest-leaves (phase.Requested s stamp) x answered h = record { known = h; told = tt }
  rest-leaves (phase.Accepted s stamp) x answered h = record { known = h; told = tt }
  rest-leaves (phase.Streaming n) x answered h = record { known = h; told = tt }
  rest-leaves phase.Closing x answered h = record { known = h; told = tt }
  rest-leaves phase.Finished x answered h = record { known = h; told = tt }
  rest-leaves (phase.Failed f) x answered h = record { known = h; told = tt }

  writer-step-leaves : (x : WriterRecord) (told : Option Told) (takes : Option TakenCommand) (answered : Bool) → Rises x → ToldRises told → IfSome (writer_step w b x told takes answered) Leaves
  writer-step-leaves x (Some t) None answered h k = rest-leaves (granted x t).phase (granted x t) answered (granted-rises x t k h)
  writer-step-leaves x (Some t) (Some c) answered h k = tt
  writer-step-leaves x None None answered h k = own-leaves x.waiting x [] h
  writer-step-leaves x None (Some t) answered h k = takes-leaves x t h

  writer-up-leaves : (c : ℕ) (n : Next) → Rises (w.writers b).known → IfSome (writer_up w b c n) Leaves
  writer-up-leaves c n h = when-each Leaves (is_conn (w.writers b).conn c && is_none (w.writers b).told) _ (λ _. record { known = hears-rises (w.writers b).known n h; told = tt })

-- THE OFFICE

-- a stamp that is committed was given before
abbrev AreBelow : OfficeState → Type 0
AreBelow o = (q : BlockId) (r : BlockRecord) → record_of o q ≡ Some r → r.committed.0 < o.next.0

abbrev AnswerRises : OfficeCall → Step OfficeState OfficeAnswer → Type 0
AnswerRises c s = ToldRises (Some (reply s))

answer-rises : (o : OfficeState) → AreBelow o → (c : OfficeCall) → ToldRises (Some (answer_to o c))
answer-rises o low c = each_case o AnswerRises (record {
  refused = λ d e. tt;
  created = λ block members none. tt;
  appended = λ block r is shut short. low block r is;
  stamped = λ block r is writers. tt;
  committed = λ block stamp members r is writers new. tt;
  completed = λ block stamp bytes r is writers new. tt;
  begun = λ block r is is_open. tt;
  synced = λ block id bytes members r is is_open latest. tt;
}) c

module _ (w : World) (h : AllRising w) where
  asks-leaves : AreBelow w.office → (a : Action) (b : ℕ) → IfSome (writer_asks a w b) Leaves
  asks-leaves low (action.Ask c) b = record { known = (h b).known; told = answer-rises w.office low c }
  asks-leaves low action.Wait b = tt
  asks-leaves low action.Took b = tt
  asks-leaves low (action.Dial to r) b = tt
  asks-leaves low (action.Send p) b = tt
  asks-leaves low (action.Answered k said) b = tt
  asks-leaves low action.Memory b = tt

  -- WORLDS

  aside-leaves : (o : Option Change) → IfSome o (Aside w) → IfSome o Leaves
  aside-leaves None q = tt
  aside-leaves (Some k) q = subst IsRising (sym q.writer) (h k.writer_at)

  upper-leaves : (u : Upper) (c : ℕ) (x : Next) → IfSome (upper_up u w c x false) Leaves
  upper-leaves (by_writer b) c x = writer-up-leaves w b c x (h b).known
  upper-leaves (by_member d) c x = aside-leaves (mirror_up (w.lowers d) w d x false) (mirror-up-aside (w.lowers d) w d x false)
  upper-leaves (by_reader i) c x = aside-leaves (reader_up w i c x) (reader-up-aside w i c x)
  upper-leaves (by_primary i place) c x = aside-leaves (primary_up w i place c x) (primary-up-aside w i place c x)

  apply-rising : (k : Change) → Leaves k → AllRising (apply w k)
  unfolding apply
  apply-rising k n b = put-each (λ (j : ℕ) (x : Writing). IsRising x) w.writers k.writer_at k.writer n h b

  changed-rising : (o : Option Change) → IfSome o Leaves → IfSome (changed w o) AllRising
  changed-rising None n = tt
  changed-rising (Some k) n = apply-rising k n

  after-rising : (e : Event) (o : Option World) → IfSome o AllRising → AllRising (after_event w e o)
  after-rising e None n b = h b
  after-rising e (Some v) n b = n b

down-taken-rising : (w : World) (c : ℕ) (x : Next) → AllRising w → AllRising (down_taken w c x)
unfolding down_taken
down-taken-rising w c x h b = h b

up-taken-rising : (w : World) (c : ℕ) (x : Next) → AllRising w → AllRising (up_taken w c x)
unfolding up_taken
up-taken-rising w c x h b = h b

down-as-rising : (w : World) (c : ℕ) (answered : Bool) (o : Option Next) → AllRising w → IfSome (down_as w c answered false o) AllRising
down-as-rising w c answered None h = tt
down-as-rising w c answered (Some x) h =
    let v : World = down_taken w c x in
    let q : AllRising v = down-taken-rising w c x h in
    changed-rising v q (lower_down (w.lowers c) v c x answered false) (aside-leaves v q (lower_down (w.lowers c) v c x answered false) (lower-down-aside (w.lowers c) v c x answered false))

up-as-rising : (w : World) (c : ℕ) (o : Option Next) → AllRising w → IfSome (up_as w c false o) AllRising
up-as-rising w c None h = tt
up-as-rising w c (Some x) h =
    let v : World = up_taken w c x in
    let q : AllRising v = up-taken-rising w c x h in
    changed-rising v q (upper_up (w.dialled c).upper v c x false) (upper-leaves v q (w.dialled c).upper c x)

-- EVENTS

happens-rising : (w : World) (e : Event) → is_plain e ≡ true → AreBelow w.office → AllRising w → AllRising (happens w e)
unfolding happens outcome
happens-rising w (event.Own (own.Writer b takes answered)) plain low h =
    after-rising w h (event.Own (own.Writer b takes answered)) _ (changed-rising w h _ (writer-step-leaves w b.0 (w.writers b.0).known (w.writers b.0).told takes answered (h b.0).known (h b.0).told))
happens-rising w (event.Own (own.Reader i n r answered)) plain low h =
    after-rising w h (event.Own (own.Reader i n r answered)) _ (changed-rising w h (own_reader w i n.0 r answered) (aside-leaves w h (own_reader w i n.0 r answered) (own-reader-aside w i n.0 r answered)))
happens-rising w (event.Own (own.Recover i n b members answers)) plain low h = absurd (false≢true plain)
happens-rising w (event.Own (own.Primary i)) plain low h = absurd (false≢true plain)
happens-rising w (event.Office (caller.Writer b)) plain low h =
    after-rising w h (event.Office (caller.Writer b)) _ (changed-rising w h (writer_asks_office w b.0) (when-each Leaves (is_none (w.writers b.0).told) _ (λ _. asks-leaves w h low (own_step (w.writers b.0).known).action b.0)))
happens-rising w (event.Office (caller.Primary i b)) plain low h = absurd (false≢true plain)
happens-rising w (event.Down c answered) plain low h =
    after-rising w h (event.Down c answered) _ (when-each AllRising (is_served w c.0) _ (λ _. down-as-rising w c.0 answered (next_down w c.0) h))
happens-rising w (event.Ready c) plain low h =
    after-rising w h (event.Ready c) _ (when-each AllRising (is_served w c.0) _
    (λ _. changed-rising w h (lower_ready (w.lowers c.0) w c.0 false) (aside-leaves w h (lower_ready (w.lowers c.0) w c.0 false) (lower-ready-aside (w.lowers c.0) w c.0 false))))
happens-rising w (event.Up c) plain low h = after-rising w h (event.Up c) _ (when-each AllRising (nat_lt c.0 w.next_conn) _ (λ _. up-as-rising w c.0 (next_up w c.0) h))
happens-rising w (event.Lost c way more) plain low h = absurd (false≢true plain)
happens-rising w (event.Fault d) plain low h = absurd (false≢true plain)
happens-rising w (event.Stop n) plain low h = absurd (false≢true plain)
happens-rising w (event.Restart n list) plain low h = absurd (false≢true plain)

below-so : (nodes : ℕ) (events : List Event) → AreBelow (run (start nodes) events).office
below-so nodes events q r is =
    let k : Recorded (given_in none_given (start nodes) events) (run (start nodes) events) = all-recorded nodes events in
    let e = subst (λ (o : Option BlockRecord). HeldOf (given_in none_given (start nodes) events q.0) ((run (start nodes) events).latest q.0) o (heard ((run (start nodes) events).writers q.0))) is (k.blocks q.0) in
    k.below q.0 r.committed.0 e.base e.office.committed

-- behind events that happened
run-rising : (nodes : ℕ) (done rest : List Event) → ArePlain rest → AllRising (run (start nodes) done) → AllRising (run (start nodes) (done ++ rest))
run-rising nodes done [] plain h = subst (λ (l : List Event). AllRising (run (start nodes) l)) (sym (append-nil done)) h
run-rising nodes done (e ∷ rest) plain h =
    let next : AllRising (run (start nodes) (done ++ e ∷ [])) =
    subst AllRising (sym (runs-end (start nodes) done e)) (happens-rising (run (start nodes) done) e plain.0 (below-so nodes done) h) in
    subst (λ (l : List Event). AllRising (run (start nodes) l)) (append_assoc done (e ∷ []) rest) (run-rising nodes (done ++ e ∷ []) rest plain.1 next)

start-rising : (nodes : ℕ) → AllRising (start nodes)
unfolding start
start-rising nodes b = record { known = tt; told = tt }

pub all-rising : (nodes : ℕ) (events : List Event) → ArePlain events → AllRising (run (start nodes) events)
all-rising nodes events plain = run-rising nodes [] events plain (start-rising nodes)
