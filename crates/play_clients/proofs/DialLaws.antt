-- What a writer's own step dials.
use Rattle.std.proofs.Common.{◌≡◌, ◌≤◌, ◌<◌, ◌+◌, ℕ, Bool, true, false, List, [], ◌∷◌, length, slice_get, Option, Some, None, IfSome, refl, sym, ap, ◌∙◌, subst, arith}
use Rattle.std.specs.Prelude.{◌&&◌, not, is_none}
use Rattle.hd_base.specs.declared.numbers.BlockId.{BlockId}
use Rattle.hd_base.specs.declared.numbers.NodeId.{NodeId}
use Rattle.hd_base.specs.declared.numbers.Stamp.{Stamp}
use Rattle.op_headers.specs.declared.ops.Op.{Op}
use Rattle.world.specs.declared.events.Caller.TheVariants as caller
use Rattle.world.specs.declared.events.Event.{Event}
use Rattle.world.specs.declared.events.Event.TheVariants as event
use Rattle.world.specs.declared.events.TakenCommand.{TakenCommand}
use Rattle.world.specs.Parts.{Told, Writing}
use Rattle.world.specs.Worlds.{World, Dial, Change, apply}
use Rattle.world.specs.Clients.{is_empty, ruled, is_formed, command_bytes, did, dialled_change, dialling, rest_in, takes_step, takes_command, writer_step, own_writer}
use Rattle.world.specs.Primaries.{writer_asks, writer_asks_office}
use Rattle.world.specs.Events.{changed, outcome, after_event, happens}
use Rattle.play_model.proofs.WorldLaws.FactTables.{when-each}
use Rattle.writer_core.specs.declared.actions.Action.{Action}
use Rattle.writer_core.specs.declared.actions.Action.TheVariants as action
use Rattle.writer_core.specs.declared.phases.Phase.{Phase}
use Rattle.writer_core.specs.declared.phases.Phase.TheVariants as phase
use Rattle.writer_core.specs.declared.phases.Remedy.{Remedy}
use Rattle.writer_core.specs.declared.phases.Remedy.TheVariants as remedy
use Rattle.writer_core.specs.declared.phases.Setup.{Setup}
use Rattle.writer_core.specs.declared.phases.Waiting.{Waiting}
use Rattle.writer_core.specs.declared.records.WriterRecord.{WriterRecord}
use Rattle.writer_core.specs.Phases.{remedy_after, without}
use Rattle.writer_core.specs.Transitions.{Step, given, own_step, dial_step, open_step, completed_step, granted, dialled, dialled_in, dropped, fail_named}
use Rattle.client_events.proofs.MemberEvents.WorldLaws.{at_put}
use Rattle.client_events.specs.Events.{own_event, asked_world}
use Rattle.client_events.specs.SettingUp.{is_requested}

-- CHANGES

-- It dials nothing.
abbrev IsQuiet : Change → Type 0
IsQuiet k = k.dials ≡ []

-- The writer of a block takes a step as its dial is answered, or isn't: where it comes into the same state nothing is
-- dialled, and at most one connection in any case.
record DialsAsKnown (b : ℕ) (k other : Change) : Type 0 where
  at : k.writer_at ≡ b
  other_at : other.writer_at ≡ b
  quiet : k.writer.known ≡ other.writer.known → k.dials ≡ []
  few : length k.dials ≤ 1

abbrev AsKnown : ℕ → Option Change → Option Change → Type 0
AsKnown b None other = Unit {0}
AsKnown b (Some k) None = IsQuiet k
AsKnown b (Some k) (Some other) = DialsAsKnown b k other

none_few : (ds : List Dial) → ds ≡ [] → length ds ≤ 1
none_few [] e = omega arith
none_few (d ∷ ds) e = cc

-- A DIAL

dropped_unasked : (x : WriterRecord) (s : Setup) (bad : NodeId) (ns : List NodeId) → is_requested (dropped x s bad ns).phase ≡ false
dropped_unasked x s bad [] = refl
dropped_unasked x s bad (n ∷ ns) = refl

failed_unasked : (x : WriterRecord) (r : Remedy) (bad : Option NodeId) → is_requested x.phase ≡ false → is_requested (fail_named x r bad).phase ≡ false
failed_unasked x r None e = e
failed_unasked x remedy.Abandon (Some bad) e = refl
failed_unasked x (remedy.Recover s) (Some bad) e = dropped_unasked x s bad (without x.members bad)

true_false : true ≡ false → ⊥
true_false e = cc

-- Where a dial was answered the writer waits for the answer to its request, else it doesn't.
dialled_known : (x : WriterRecord) (s : Setup) (stamp : Stamp) → x.phase ≡ phase.Stamped s stamp → dialled x true ≡ dialled x false → ⊥
unfolding dialled
dialled_known x s stamp at same = true_false (sym (asked x s stamp x.phase at) ∙ (ap (λ (y : WriterRecord). is_requested y.phase) same ∙ unasked x s stamp x.phase at (ap is_requested at)))
  where
    asked : (x : WriterRecord) (s : Setup) (stamp : Stamp) (p : Phase) → p ≡ phase.Stamped s stamp → is_requested (dialled_in x p true).phase ≡ true
    asked x s stamp p at = rw (at) refl

    unasked : (x : WriterRecord) (s : Setup) (stamp : Stamp) (p : Phase) → p ≡ phase.Stamped s stamp → is_requested x.phase ≡ false → is_requested (dialled_in x p false).phase ≡ false
    unasked x s stamp p at e = rw (at) (failed_unasked x (remedy_after s) (slice_get x.members 0) e)

module _ (w : World) (b : ℕ) where
  -- The same is done whether a dial would be answered or not.
  did_known : (waits : Option Waiting) (a : Action) (x : WriterRecord) (bytes : List ℕ) → AsKnown b (did w b waits a x bytes) (did w b waits a x bytes)
  did_known waits action.Took x bytes = record { at = refl; other_at = refl; quiet = λ _. refl; few = omega arith }
  did_known waits (action.Send p) x bytes = record { at = refl; other_at = refl; quiet = λ _. refl; few = omega arith }
  did_known waits (action.Answered n s) x bytes = record { at = refl; other_at = refl; quiet = λ _. refl; few = omega arith }
  did_known waits a x bytes = tt

  dialled_as : (x : WriterRecord) (s : Setup) (stamp : Stamp) (to : NodeId) (r : Op) (q : Bool) → x.phase ≡ phase.Stamped s stamp → DialsAsKnown b (dialled_change w b x to r q) (dialled_change w b x to r false)
  dialled_as x s stamp to r true at = record { at = refl; other_at = refl; quiet = λ e. absurd (dialled_known x s stamp at e); few = omega arith }
  dialled_as x s stamp to r false at = record { at = refl; other_at = refl; quiet = λ _. refl; few = omega arith }

  dialling_as : (x : WriterRecord) (s : Setup) (stamp : Stamp) (a : Action) → x.phase ≡ phase.Stamped s stamp → DialsAsKnown b (dialling w b x a true) (dialling w b x a false)
  dialling_as x s stamp (action.Dial to r) at = dialled_as x s stamp to r (w.running to.0) at
  dialling_as x s stamp a at = record { at = refl; other_at = refl; quiet = λ _. refl; few = omega arith }

  rest_as : (p : Phase) (x : WriterRecord) → x.phase ≡ p → AsKnown b (rest_in p w b x true) (rest_in p w b x false)
  rest_as (phase.Stamped s stamp) x at = dialling_as x s stamp (dial_step x s stamp).action at
  rest_as phase.Opened x at = did_known x.waiting (open_step x).action (open_step x).writer []
  rest_as phase.Completed x at = did_known x.waiting (completed_step x).action (completed_step x).writer []
  rest_as p x at = record { at = refl; other_at = refl; quiet = λ _. refl; few = omega arith }

  step_as : (x : WriterRecord) (told : Option Told) → AsKnown b (writer_step w b x told None true) (writer_step w b x told None false)
  step_as x (Some told) = rest_as (granted x told).phase (granted x told) refl
  step_as x None = did_known x.waiting (own_step x).action (own_step x).writer []

  -- Without an answer of the office nothing is dialled.
  did_quiet : (waits : Option Waiting) (a : Action) (x : WriterRecord) (bytes : List ℕ) → IfSome (did w b waits a x bytes) IsQuiet
  did_quiet waits action.Took x bytes = refl
  did_quiet waits (action.Send p) x bytes = refl
  did_quiet waits (action.Answered n s) x bytes = refl
  did_quiet waits a x bytes = tt

  takes_quiet : (waits : Option Waiting) (s : Step) (bytes : List ℕ) → IfSome (takes_step w b waits s bytes) IsQuiet
  takes_quiet waits s bytes = when-each IsQuiet (is_empty s.writer.queue) _ (λ _. did_quiet waits s.action s.writer bytes)

  command_quiet : (x : WriterRecord) (t : TakenCommand) → IfSome (takes_command w b x t) IsQuiet
  command_quiet x t =
      let y : WriterRecord = ruled x t.command t.rule in
      when-each IsQuiet (is_formed t.command t.rule && not (is_empty (given x t.command).queue)) _
      (λ _. takes_quiet y.waiting (own_step (given y t.command)) (command_bytes y t.command))

  untold_quiet : (x : WriterRecord) (takes : Option TakenCommand) (answered : Bool) → IfSome (writer_step w b x None takes answered) IsQuiet
  untold_quiet x None answered = did_quiet x.waiting (own_step x).action (own_step x).writer []
  untold_quiet x (Some t) answered = command_quiet x t

  -- Nor is anything where no dial is answered.
  dialling_quiet : (x : WriterRecord) (a : Action) → IsQuiet (dialling w b x a false)
  dialling_quiet x (action.Dial to r) = refl
  dialling_quiet x a = refl

  rest_quiet : (p : Phase) (x : WriterRecord) → IfSome (rest_in p w b x false) IsQuiet
  rest_quiet (phase.Stamped s stamp) x = dialling_quiet x (dial_step x s stamp).action
  rest_quiet phase.Opened x = did_quiet x.waiting (open_step x).action (open_step x).writer []
  rest_quiet phase.Completed x = did_quiet x.waiting (completed_step x).action (completed_step x).writer []
  rest_quiet p x = refl

  unanswered_quiet : (x : WriterRecord) (told : Option Told) → IfSome (writer_step w b x told None false) IsQuiet
  unanswered_quiet x (Some told) = rest_quiet (granted x told).phase (granted x told)
  unanswered_quiet x None = did_quiet x.waiting (own_step x).action (own_step x).writer []

  asks_quiet : (a : Action) → IfSome (writer_asks a w b) IsQuiet
  asks_quiet (action.Ask c) = refl
  asks_quiet a = tt

-- WORLDS

conns_none : (w : World) (k : Change) → k.dials ≡ [] → (apply w k).next_conn ≡ w.next_conn
unfolding apply
conns_none w k e = ap (λ (ds : List Dial). w.next_conn + length ds) e ∙ plus_none w.next_conn
  where
    plus_none : (n : ℕ) → n + 0 ≡ n
    plus_none n = omega arith

conns_few : (w : World) (k : Change) → length k.dials ≤ 1 → (apply w k).next_conn ≤ w.next_conn + 1
unfolding apply
conns_few w k h = omega (arith, h)

known_at : (w : World) (k : Change) (b : ℕ) → k.writer_at ≡ b → ((apply w k).writers b).known ≡ k.writer.known
unfolding apply
known_at w k b at = subst (λ (c : ℕ). ((apply w k).writers c).known ≡ k.writer.known) at (ap (λ (y : Writing). y.known) (at_put w.writers k.writer_at k.writer))

quiet_world : (w : World) (e : Event) (o : Option Change) → IfSome o IsQuiet → (after_event w e (changed w o)).next_conn ≡ w.next_conn
quiet_world w e None h = refl
quiet_world w e (Some k) h = conns_none w k h

known_world : (w : World) (e f : Event) (b : ℕ) (o other : Option Change) → AsKnown b o other → ((after_event w e (changed w o)).writers b).known ≡ ((after_event w f (changed w other)).writers b).known → (after_event w e (changed w o)).next_conn ≡ w.next_conn
known_world w e f b None other h same = refl
known_world w e f b (Some k) None h same = conns_none w k h
known_world w e f b (Some k) (Some other) h same = conns_none w k (h.quiet (sym (known_at w k b h.at) ∙ (same ∙ known_at w other b h.other_at)))

few_world : (w : World) (e : Event) (b : ℕ) (o other : Option Change) → AsKnown b o other → (after_event w e (changed w o)).next_conn ≤ w.next_conn + 1
few_world w e b None other h = omega arith
few_world w e b (Some k) None h = conns_few w k (none_few k.dials h)
few_world w e b (Some k) (Some other) h = conns_few w k h.few

-- EVENTS

-- A step of a writer to which the office has said nothing dials nothing.
pub untold_conns : (w : World) (block : BlockId) (takes : Option TakenCommand) (answered : Bool) → (w.writers block.0).told ≡ None → (happens w (own_event block takes answered)).next_conn ≡ w.next_conn
unfolding happens outcome
untold_conns w block takes answered e =
    quiet_world w (own_event block takes answered) (own_writer w block.0 takes answered)
    (subst (λ (t : Option Told). IfSome (writer_step w block.0 (w.writers block.0).known t takes answered) IsQuiet) (sym e) (untold_quiet w block.0 (w.writers block.0).known takes answered))

asks_conns : (w : World) (block : BlockId) → (happens w (event.Office (caller.Writer block))).next_conn ≡ w.next_conn
unfolding happens outcome
asks_conns w block = quiet_world w (event.Office (caller.Writer block)) (writer_asks_office w block.0) (when-each IsQuiet (is_none (w.writers block.0).told) _ (λ _. asks_quiet w block.0 (own_step (w.writers block.0).known).action))

known_conns : (w : World) (block : BlockId) → ((happens w (own_event block None true)).writers block.0).known ≡ ((happens w (own_event block None false)).writers block.0).known → (happens w (own_event block None true)).next_conn ≡ w.next_conn
unfolding happens outcome
known_conns w block same =
    known_world w (own_event block None true) (own_event block None false) block.0 (own_writer w block.0 None true) (own_writer w block.0 None false) (step_as w block.0 (w.writers block.0).known (w.writers block.0).told) same

few_conns : (w : World) (block : BlockId) → (happens w (own_event block None true)).next_conn ≤ w.next_conn + 1
unfolding happens outcome
few_conns w block = few_world w (own_event block None true) block.0 (own_writer w block.0 None true) (own_writer w block.0 None false) (step_as w block.0 (w.writers block.0).known (w.writers block.0).told)

quiet_conns : (w : World) (block : BlockId) → (happens w (own_event block None false)).next_conn ≡ w.next_conn
unfolding happens outcome
quiet_conns w block = quiet_world w (own_event block None false) (own_writer w block.0 None false) (unanswered_quiet w block.0 (w.writers block.0).known (w.writers block.0).told)

-- Where a writer that asked the office has no answer to its dial, nothing is dialled.
pub unanswered_conns : (w : World) (block : BlockId) → (asked_world w block false).next_conn ≡ w.next_conn
unanswered_conns w block = quiet_conns (happens w (event.Office (caller.Writer block))) block ∙ asks_conns w block

-- Where a writer that asked the office comes into the same state whether a dial is answered or not, nothing is dialled.
pub asked_conns : (w : World) (block : BlockId) (x : WriterRecord) → x ≡ ((asked_world w block true).writers block.0).known → x ≡ ((asked_world w block false).writers block.0).known → (asked_world w block true).next_conn ≡ w.next_conn
asked_conns w block x yes_so no_so = known_conns (happens w (event.Office (caller.Writer block))) block (sym yes_so ∙ no_so) ∙ asks_conns w block

-- It dials at most once: where the next number is that of a connection it has dialled.
pub asked_dials : (w : World) (block : BlockId) → w.next_conn < (asked_world w block true).next_conn → (asked_world w block true).next_conn ≡ w.next_conn + 1
asked_dials w block more =
    let few : (asked_world w block true).next_conn ≤ (happens w (event.Office (caller.Writer block))).next_conn + 1 = few_conns (happens w (event.Office (caller.Writer block))) block in
    let same : (happens w (event.Office (caller.Writer block))).next_conn ≡ w.next_conn = asks_conns w block in
    omega (arith, more, few, same)
