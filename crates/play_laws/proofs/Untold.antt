-- After what is due no answer of the office waits for a writer, where none waited before.
use Rattle.std.proofs.Common.{◌≡◌, ℕ, Bool, true, false, List, [], ◌∷◌, slice_get, Option, Some, None, IfSome, refl, sym, ◌∙◌, ap, subst, arith, ◌⊎◌, inl, inr}
use Rattle.std.specs.Prelude.{◌==◌, ◌&&◌, nat_lt, not, is_none}
use Rattle.std.proofs.lemmas.Bool.{false≢true}
use Rattle.std.proofs.lemmas.Bool.Decides.{nat_tests}
use Rattle.hd_base.specs.declared.numbers.NodeId.{NodeId}
use Rattle.op_headers.specs.declared.ops.Op.{Op}
use Rattle.recovery_core.specs.declared.primary.OwnStep.{OwnStep}
use Rattle.recovery_core.specs.declared.primary.OwnStep.TheVariants as step
use Rattle.recovery_core.specs.Primaries as primaries
use Rattle.writer_core.specs.declared.actions.Action.{Action}
use Rattle.writer_core.specs.declared.actions.Action.TheVariants as action
use Rattle.writer_core.specs.declared.phases.Phase.{Phase}
use Rattle.writer_core.specs.declared.phases.Phase.TheVariants as phase
use Rattle.writer_core.specs.declared.phases.Waiting.{Waiting}
use Rattle.writer_core.specs.declared.records.WriterRecord.{WriterRecord}
use Rattle.writer_core.specs.Transitions.{given, own_step, dial_step, granted}
use Rattle.world.specs.declared.events.Event.{Event}
use Rattle.world.specs.declared.events.Event.TheVariants as event
use Rattle.world.specs.declared.events.TakenCommand.{TakenCommand}
use Rattle.world.specs.Parts.{Upper, by_writer, by_member, by_reader, by_primary, Told, Writing, Primary, no_primary, was_told, leads, has_led}
use Rattle.world.specs.Worlds.{World, Change, apply}
use Rattle.world.specs.Connections.{Next, next_down, next_up, down_taken, up_taken, is_served, is_conn}
use Rattle.world.specs.Nodes.{lower_down, lower_ready, mirror_up}
use Rattle.world.specs.Clients.{did, dialled_change, dialling, rest_in, is_formed, ruled, command_bytes, is_empty, takes_command, writer_step, writer_up, own_reader, reader_up}
use Rattle.world.specs.Primaries.{primary_up, writer_asks, writer_asks_office}
use Rattle.world.specs.Events.{changed, down_as, upper_up, up_as, outcome, after_event, happens, run}
use Rattle.play_model.proofs.WorldLaws.FactTables.{if-each, put-each, when-each}
use Rattle.play_model.proofs.WorldLaws.SessionAsides.{Aside, lower-down-aside, lower-ready-aside, mirror-up-aside, own-reader-aside, reader-up-aside, primary-up-aside}
use Rattle.world_settling.specs.Draws.{actor_of, is_writer}
use Rattle.world_settling.proofs.Actors.{writers-stay}
use Rattle.play_model.specs.declared.dues.Due.TheVariants as due
use Rattle.play_model.specs.declared.recoveries.Recovery.{Recovery}
use Rattle.play_model.specs.Asks.{request_of, asking_node}
use Rattle.play_model.specs.Recoveries.{primary_asks, begins_so, goes_on, all_answered, leads_events, primary_events}
use Rattle.play_model.specs.Dues.{asking, acting, own_events, action_of}
use Rattle.play_model.specs.Laws.{IsQuiet}
use Rattle.play_laws.specs.Untold.{StaysQuiet}

itself : (n : ℕ) → (n == n) ≡ true
itself n = grind (arith, nat_tests)

-- the writer that a change leaves has no answer that waits
abbrev Leaves : Change → Type 0
Leaves k = k.writer.told ≡ None

-- A STEP OF A WRITER

module _ (w : World) (b : ℕ) where
  did-leaves : (waits : Option Waiting) (a : Action) (x : WriterRecord) (bytes : List ℕ) → IfSome (did w b waits a x bytes) Leaves
  did-leaves waits action.Took x bytes = refl
  did-leaves waits (action.Send p) x bytes = refl
  did-leaves waits (action.Answered k said) x bytes = refl
  did-leaves waits action.Wait x bytes = tt
  did-leaves waits (action.Ask c) x bytes = tt
  did-leaves waits (action.Dial to r) x bytes = tt
  did-leaves waits action.Memory x bytes = tt

  takes-leaves : (x : WriterRecord) (t : TakenCommand) → IfSome (takes_command w b x t) Leaves
  takes-leaves x t =
      let y : WriterRecord = ruled x t.command t.rule in
      when-each Leaves (is_formed t.command t.rule && not (is_empty (given x t.command).queue)) _
      (λ _. when-each Leaves (is_empty (own_step (given y t.command)).writer.queue) _
      (λ _. did-leaves y.waiting (own_step (given y t.command)).action (own_step (given y t.command)).writer (command_bytes y t.command)))

  -- a change of this block's writer, for which no answer waits after it
  record Left (o : Option Change) : Type 0 where
    pub change : Change
    pub is : o ≡ Some change
    pub place : change.writer_at ≡ b
    pub told : change.writer.told ≡ None

  left : (k : Change) → k.writer_at ≡ b → k.writer.told ≡ None → Left (Some k)
  left k p t = record { change = k; is = refl; place = p; told = t }

  dialled-left : (x : WriterRecord) (to : NodeId) (r : Op) (answered : Bool) → Left (Some (dialled_change w b x to r answered))
  dialled-left x to r true = left _ refl refl
  dialled-left x to r false = left _ refl refl

  dialling-left : (x : WriterRecord) (a : Action) (answered : Bool) → Left (Some (dialling w b x a answered))
  dialling-left x (action.Dial to r) answered = dialled-left x to r (answered && w.running to.0)
  dialling-left x action.Wait answered = left _ refl refl
  dialling-left x action.Took answered = left _ refl refl
  dialling-left x (action.Ask c) answered = left _ refl refl
  dialling-left x (action.Send p) answered = left _ refl refl
  dialling-left x (action.Answered k said) answered = left _ refl refl
  dialling-left x action.Memory answered = left _ refl refl

  -- with the office's answer a writer always goes on
  rest-left : (p : Phase) (x : WriterRecord) (answered : Bool) → Left (rest_in p w b x answered)
  rest-left (phase.Stamped s stamp) x answered = dialling-left x (dial_step x s stamp).action answered
  rest-left phase.Opened x answered = left _ refl refl
  rest-left phase.Completed x answered = left _ refl refl
  rest-left phase.Closed x answered = left _ refl refl
  rest-left (phase.Wanted s) x answered = left _ refl refl
  rest-left (phase.Requested s stamp) x answered = left _ refl refl
  rest-left (phase.Accepted s stamp) x answered = left _ refl refl
  rest-left (phase.Streaming n) x answered = left _ refl refl
  rest-left phase.Closing x answered = left _ refl refl
  rest-left phase.Finished x answered = left _ refl refl
  rest-left (phase.Failed f) x answered = left _ refl refl

  up-leaves : (c : ℕ) (n : Next) → IfSome (writer_up w b c n) Leaves
  up-leaves c n = when-each Leaves (is_conn (w.writers b).conn c && is_none (w.writers b).told) _ (λ _. refl)

-- WORLDS

module _ (w : World) where
  apply-quiet : IsQuiet w → (k : Change) → Leaves k → IsQuiet (apply w k)
  unfolding apply
  apply-quiet h k n b = put-each (λ (j : ℕ) (x : Writing). x.told ≡ None) w.writers k.writer_at k.writer n h b

  changed-quiet : IsQuiet w → (o : Option Change) → IfSome o Leaves → IfSome (changed w o) IsQuiet
  changed-quiet h None n = tt
  changed-quiet h (Some k) n = apply-quiet h k n

  aside-leaves : IsQuiet w → (o : Option Change) → IfSome o (Aside w) → IfSome o Leaves
  aside-leaves h None q = tt
  aside-leaves h (Some k) q = ap (λ (x : Writing). x.told) q.writer ∙ h k.writer_at

  after-quiet : (e : Event) (o : Option World) → IsQuiet w → IfSome o IsQuiet → IsQuiet (after_event w e o)
  after-quiet e None h n b = h b
  after-quiet e (Some v) h n b = n b

  upper-leaves : IsQuiet w → (u : Upper) (c : ℕ) (x : Next) → IfSome (upper_up u w c x false) Leaves
  upper-leaves h (by_writer b) c x = up-leaves w b c x
  upper-leaves h (by_member d) c x = aside-leaves h (mirror_up (w.lowers d) w d x false) (mirror-up-aside (w.lowers d) w d x false)
  upper-leaves h (by_reader i) c x = aside-leaves h (reader_up w i c x) (reader-up-aside w i c x)
  upper-leaves h (by_primary i place) c x = aside-leaves h (primary_up w i place c x) (primary-up-aside w i place c x)

-- WHAT COMES ON CONNECTIONS

down-taken-quiet : (w : World) (c : ℕ) (x : Next) → IsQuiet w → IsQuiet (down_taken w c x)
unfolding down_taken
down-taken-quiet w c x h b = h b

up-taken-quiet : (w : World) (c : ℕ) (x : Next) → IsQuiet w → IsQuiet (up_taken w c x)
unfolding up_taken
up-taken-quiet w c x h b = h b

down-as-quiet : (w : World) (c : ℕ) (o : Option Next) → IsQuiet w → IfSome (down_as w c true false o) IsQuiet
down-as-quiet w c None h = tt
down-as-quiet w c (Some x) h =
    let v : World = down_taken w c x in
    let q : IsQuiet v = down-taken-quiet w c x h in
    changed-quiet v q (lower_down (w.lowers c) v c x true false)
    (aside-leaves v q (lower_down (w.lowers c) v c x true false) (lower-down-aside (w.lowers c) v c x true false))

up-as-quiet : (w : World) (c : ℕ) (o : Option Next) → IsQuiet w → IfSome (up_as w c false o) IsQuiet
up-as-quiet w c None h = tt
up-as-quiet w c (Some x) h =
    let v : World = up_taken w c x in
    let q : IsQuiet v = up-taken-quiet w c x h in
    changed-quiet v q (upper_up (w.dialled c).upper v c x false) (upper-leaves v q (w.dialled c).upper c x)

-- OWN STEPS

-- an answer waits at most for this block's writer
abbrev Others : ℕ → World → Type 0
Others b w = (j : ℕ) → (j ≡ b) ⊎ ((w.writers j).told ≡ None)

all-of : (w : World) (b : ℕ) → Others b w → (w.writers b).told ≡ None → IsQuiet w
all-of w b h t j = go (h j)
  where
    go : ((j ≡ b) ⊎ ((w.writers j).told ≡ None)) → (w.writers j).told ≡ None
    go (inl e) = subst (λ (n : ℕ). (w.writers n).told ≡ None) (sym e) t
    go (inr e) = e

put-quiet : (w : World) (b : ℕ) (k : Change) → k.writer_at ≡ b → Leaves k → Others b w → IsQuiet (apply w k)
unfolding apply
put-quiet w b k p t h j = if-each (λ (x : Writing). x.told ≡ None) (j == k.writer_at) k.writer (w.writers j) (λ e. t) (λ e. go e (h j))
  where
    go : (j == k.writer_at) ≡ false → ((j ≡ b) ⊎ ((w.writers j).told ≡ None)) → (w.writers j).told ≡ None
    go e (inl q) = absurd (false≢true (sym e ∙ (ap (λ (n : ℕ). j == n) (p ∙ sym q) ∙ itself j)))
    go e (inr q) = q

rests-quiet : (w : World) (b : ℕ) (o : Option Change) → Left w b o → Others b w → (e : Event) → IsQuiet (after_event w e (changed w o))
rests-quiet w b o l h e = subst (λ (k : Option Change). IsQuiet (after_event w e (changed w k))) (sym l.is) (put-quiet w b l.change l.place l.told h)

acts-quiet : (w : World) (b : ℕ) (told : Option Told) (takes : Option TakenCommand) (e : Event) → (w.writers b).told ≡ told → Others b w → takes ≡ None ⊎ told ≡ None
    → IsQuiet (after_event w e (changed w (writer_step w b (w.writers b).known told takes true)))
acts-quiet w b None None e t h n =
    let q : IsQuiet w = all-of w b h t in
    after-quiet w e _ q (changed-quiet w q _ (did-leaves w b (w.writers b).known.waiting (own_step (w.writers b).known).action (own_step (w.writers b).known).writer []))
acts-quiet w b None (Some c) e t h n =
    let q : IsQuiet w = all-of w b h t in
    after-quiet w e _ q (changed-quiet w q _ (takes-leaves w b (w.writers b).known c))
acts-quiet w b (Some a) None e t h n = rests-quiet w b _ (rest-left w b (granted (w.writers b).known a).phase (granted (w.writers b).known a) true) h e
acts-quiet w b (Some a) (Some c) e t h (inl n) = absurd (cc)
acts-quiet w b (Some a) (Some c) e t h (inr n) = absurd (cc)

acting-quiet : (w : World) (b : ℕ) (takes : Option TakenCommand) → Others b w → takes ≡ None ⊎ (w.writers b).told ≡ None → IsQuiet (happens w (acting b takes))
unfolding happens outcome
acting-quiet w b takes h n = acts-quiet w b (w.writers b).told takes (acting b takes) refl h n

-- THE OFFICE

-- the change is of this block's writer
abbrev IsAt : ℕ → Change → Type 0
IsAt b k = k.writer_at ≡ b

asks-at : (a : Action) (w : World) (b : ℕ) → IfSome (writer_asks a w b) (IsAt b)
asks-at (action.Ask c) w b = refl
asks-at action.Wait w b = tt
asks-at action.Took w b = tt
asks-at (action.Dial to r) w b = tt
asks-at (action.Send p) w b = tt
asks-at (action.Answered k said) w b = tt
asks-at action.Memory w b = tt

put-others : (w : World) (b : ℕ) (k : Change) → IsAt b k → IsQuiet w → Others b (apply w k)
unfolding apply
put-others w b k p h j = put-each (λ (i : ℕ) (x : Writing). (i ≡ b) ⊎ (x.told ≡ None)) w.writers k.writer_at k.writer (inl p) (λ i. inr (h i)) j

changed-others : (w : World) (b : ℕ) (o : Option Change) → IfSome o (IsAt b) → IsQuiet w → (e : Event) → Others b (after_event w e (changed w o))
changed-others w b None n h e j = inr (h j)
changed-others w b (Some k) n h e j = put-others w b k n h j

asked-others : (w : World) (b : ℕ) → IsQuiet w → Others b (happens w (asking b))
unfolding happens outcome
asked-others w b h = changed-others w b (writer_asks_office w b)
    (when-each (IsAt b) (is_none (w.writers b).told) _ (λ _. asks-at (own_step (w.writers b).known).action w b)) h (asking b)

-- WHAT IS DUE

own-quiet : (w : World) (b : ℕ) (a : Action) (queue : List TakenCommand) → IsQuiet w → IsQuiet (run w (own_events a b queue))
own-quiet w b action.Wait queue h = acting-quiet w b (slice_get queue 0) (λ j. inr (h j)) (inr (h b))
own-quiet w b (action.Ask c) queue h = acting-quiet (happens w (asking b)) b None (asked-others w b h) (inl refl)
own-quiet w b action.Took queue h = acting-quiet w b None (λ j. inr (h j)) (inl refl)
own-quiet w b (action.Dial to r) queue h = acting-quiet w b None (λ j. inr (h j)) (inl refl)
own-quiet w b (action.Send p) queue h = acting-quiet w b None (λ j. inr (h j)) (inl refl)
own-quiet w b (action.Answered k said) queue h = acting-quiet w b None (λ j. inr (h j)) (inl refl)
own-quiet w b action.Memory queue h = acting-quiet w b None (λ j. inr (h j)) (inl refl)

-- no writer acts
quiet-on : (w : World) (e : Event) → is_writer (actor_of w e) ≡ false → IsQuiet w → IsQuiet (happens w e)
quiet-on w e calm h b = ap (λ (x : Writing). x.told) (writers-stay w e b calm) ∙ h b

leads-quiet : (w : World) (s : OwnStep) (r : Recovery) → IsQuiet w → IsQuiet (run w (leads_events s r))
leads-quiet w step.Waits r h = quiet-on w (goes_on r) refl h
leads-quiet w (step.Updates c) r h = quiet-on w (goes_on r) refl h
leads-quiet w (step.Commits c) r h = quiet-on (happens w (primary_asks r)) (goes_on r) refl (quiet-on w (primary_asks r) refl h)
leads-quiet w (step.Ends e) r h = quiet-on w (goes_on r) refl h

begins-quiet : (w : World) (r : Recovery) → IsQuiet w → IsQuiet (run w (primary_asks r ∷ (begins_so r (all_answered r.members) ∷ [])))
begins-quiet w r h = quiet-on (happens w (primary_asks r)) (begins_so r (all_answered r.members)) refl (quiet-on w (primary_asks r) refl h)

primary-quiet : (w : World) (p : Primary) (r : Recovery) → IsQuiet w → IsQuiet (run w (primary_events p r))
primary-quiet w no_primary r h = begins-quiet w r h
primary-quiet w (was_told b t) r h = begins-quiet w r h
primary-quiet w (leads l) r h = leads-quiet w (primaries.own_step l.state).does r h
primary-quiet w (has_led x) r h = begins-quiet w r h

pub stays-quiet : StaysQuiet
unfolding happens outcome
stays-quiet w queues (due.Own b) h = own-quiet w b.0 (action_of w b) (queues b.0) h
stays-quiet w queues (due.Reader ask) h =
    let k : Option Change = own_reader w ask.reader ask.node.0 (request_of ask) true in
    after-quiet w (asking_node ask true) _ h (changed-quiet w h k (aside-leaves w h k (own-reader-aside w ask.reader ask.node.0 (request_of ask) true)))
stays-quiet w queues (due.Primary r) h = primary-quiet w (w.primaries r.primary) r h
stays-quiet w queues (due.Down c) h = after-quiet w (event.Down c true) _ h (when-each IsQuiet (is_served w c.0) _ (λ _. down-as-quiet w c.0 (next_down w c.0) h))
stays-quiet w queues (due.Ready c) h = after-quiet w (event.Ready c) _ h (when-each IsQuiet (is_served w c.0) _
    (λ _. changed-quiet w h (lower_ready (w.lowers c.0) w c.0 false) (aside-leaves w h (lower_ready (w.lowers c.0) w c.0 false) (lower-ready-aside (w.lowers c.0) w c.0 false))))
stays-quiet w queues (due.Up c) h = after-quiet w (event.Up c) _ h (when-each IsQuiet (nat_lt c.0 w.next_conn) _ (λ _. up-as-quiet w c.0 (next_up w c.0) h))
