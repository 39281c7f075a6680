-- A writer's events change no other writer.
use Rattle.std.proofs.Common.{◌≡◌, ◌≢◌, ℕ, Bool, true, false, List, [], ◌++◌, if◌then◌else◌, Option, Some, None, IfSome, refl, sym, ◌∙◌, eqb-true}
use Rattle.std.specs.Prelude.{◌==◌, ◌&&◌, not, is_none, nat_lt, slice_get}
use Rattle.hd_base.specs.declared.numbers.BlockId.{BlockId}
use Rattle.hd_base.specs.declared.numbers.NodeId.{NodeId}
use Rattle.op_headers.specs.declared.ops.Op.{Op}
use Rattle.world.specs.declared.events.Caller.TheVariants as caller
use Rattle.world.specs.declared.events.Event.{Event}
use Rattle.world.specs.declared.events.Event.TheVariants as event
use Rattle.world.specs.declared.events.OwnStep.TheVariants as own
use Rattle.world.specs.declared.events.TakenCommand.{TakenCommand}
use Rattle.world.specs.Parts as parts
use Rattle.world.specs.Parts.{Upper, by_writer, Told}
use Rattle.world.specs.Worlds.{World, Change, apply}
use Rattle.world.specs.Connections.{Next, next_up, up_taken, is_conn}
use Rattle.world.specs.Clients.{is_empty, ruled, is_formed, command_bytes, takes_step, did, did_step, dialling, dialled_change, rest_in, takes_step, takes_given, takes_command, writer_step, own_writer, writer_up, writer_hears, writer_change}
use Rattle.world.specs.Primaries.{writer_asks, writer_asks_office}
use Rattle.world.specs.Events.{changed, upper_up, up_as, up_event, outcome, after_event, happens, run}
use Rattle.play_model.proofs.WorldLaws.FactTables.{when-each}
use Rattle.play_model.proofs.WorldLaws.StampGivens.{put-there}
use Rattle.client_events.proofs.WorldNets.StepLemmas.{changed-over, taken-over}
use Rattle.writer_core.specs.declared.actions.Action.{Action}
use Rattle.writer_core.specs.declared.actions.Action.TheVariants as action
use Rattle.writer_core.specs.declared.phases.Phase.{Phase}
use Rattle.writer_core.specs.declared.phases.Phase.TheVariants as phase
use Rattle.writer_core.specs.declared.phases.Waiting.{Waiting}
use Rattle.writer_core.specs.declared.records.WriterRecord.{WriterRecord}
use Rattle.writer_core.specs.Transitions.{Step, given, own_step, open_step, completed_step, dial_step, granted}
use Rattle.play_model.specs.Dues.{own_events, asking, acting}
use Rattle.play_clients.specs.Others.{KeepsOthers, TakesNothing, TakesThere, OwnStepsKeep, HearingKeeps}

-- CHANGES OF ONE WRITER

-- The change is of the writer of this block.
abbrev IsOf : ℕ → Change → Type 0
IsOf b k = k.writer_at ≡ b

did_of : (w : World) (b : ℕ) (waits : Option Waiting) (a : Action) (x : WriterRecord) (bytes : List ℕ) → IfSome (did w b waits a x bytes) (IsOf b)
did_of w b waits action.Took x bytes = refl
did_of w b waits (action.Send p) x bytes = refl
did_of w b waits (action.Answered n s) x bytes = refl
did_of w b waits a x bytes = tt

dialled_of : (w : World) (b : ℕ) (x : WriterRecord) (to : NodeId) (op : Op) (q : Bool) → IsOf b (dialled_change w b x to op q)
dialled_of w b x to op true = refl
dialled_of w b x to op false = refl

dialling_of : (w : World) (b : ℕ) (x : WriterRecord) (a : Action) (answered : Bool) → IsOf b (dialling w b x a answered)
dialling_of w b x (action.Dial to op) answered = dialled_of w b x to op (answered && w.running to.0)
dialling_of w b x a answered = refl

rest_of : (p : Phase) (w : World) (b : ℕ) (x : WriterRecord) (answered : Bool) → IfSome (rest_in p w b x answered) (IsOf b)
rest_of (phase.Stamped s stamp) w b x answered = dialling_of w b x (dial_step x s stamp).action answered
rest_of phase.Opened w b x answered = did_of w b x.waiting (open_step x).action (open_step x).writer []
rest_of phase.Completed w b x answered = did_of w b x.waiting (completed_step x).action (completed_step x).writer []
rest_of p w b x answered = refl

some_if : (q : Bool) (o : Option Change) (b : ℕ) → IfSome o (IsOf b) → IfSome (if q then o else None) (IsOf b)
some_if true o b is = is
some_if false o b is = tt

given_of : (w : World) (b : ℕ) (waits : Option Waiting) (s : Step) (bytes : List ℕ) → IfSome (takes_step w b waits s bytes) (IsOf b)
given_of w b waits s bytes = some_if (is_empty s.writer.queue) (did_step w b waits s bytes) b (did_of w b waits s.action s.writer bytes)

takes_of : (w : World) (b : ℕ) (x : WriterRecord) (t : TakenCommand) → IfSome (takes_command w b x t) (IsOf b)
takes_of w b x t =
    let y : WriterRecord = ruled x t.command t.rule in
    some_if (is_formed t.command t.rule && not (is_empty (given x t.command).queue)) (takes_given w b y t.command) b (given_of w b y.waiting (own_step (given y t.command)) (command_bytes y t.command))

step_of : (w : World) (b : ℕ) (x : WriterRecord) (told : Option Told) (takes : Option TakenCommand) (answered : Bool) → IfSome (writer_step w b x told takes answered) (IsOf b)
step_of w b x (Some told) None answered = rest_of (granted x told).phase w b (granted x told) answered
step_of w b x (Some told) (Some t) answered = tt
step_of w b x None None answered = did_of w b x.waiting (own_step x).action (own_step x).writer []
step_of w b x None (Some t) answered = takes_of w b x t

asks_of : (a : Action) (w : World) (b : ℕ) → IfSome (writer_asks a w b) (IsOf b)
asks_of (action.Ask c) w b = refl
asks_of a w b = tt

-- WORLDS

-- What is kept of the others, and of all connections.
record Keeps (w v : World) (b : ℕ) : Type 0 where
  others : KeepsOthers w v b
  over : TakesNothing w v

same_world : (w : World) (b : ℕ) → Keeps w w b
same_world w b = record { others = record { writers = λ a z. refl; said = λ a z. refl }; over = λ c lower. refl }

said_there : (f : ℕ → List parts.Said) (i : ℕ) (xs : List parts.Said) (j : ℕ) (q : Bool) → (j == i) ≡ q → j ≢ i → (if q then f j ++ xs else f j) ≡ f j
said_there f i xs j true e apart = absurd (apart (eqb-true j i e))
said_there f i xs j false e apart = refl

applied : (w : World) (k : Change) (b : ℕ) → IsOf b k → Keeps w (apply w k) b
unfolding apply
applied w k b is = record {
  others = record {
    writers = λ a apart. put-there w.writers k.writer_at k.writer a (λ e. apart (e ∙ is));
    said = λ a apart. said_there w.said k.writer_at k.said a (a == k.writer_at) refl (λ e. apart (e ∙ is));
  };
  over = λ c lower. changed-over w k c lower;
}

changed_keeps : (w : World) (o : Option Change) (b : ℕ) → IfSome o (IsOf b) → IfSome (changed w o) (λ v. Keeps w v b)
changed_keeps w None b h = tt
changed_keeps w (Some k) b h = applied w k b h

after_keeps : (w : World) (e : Event) (o : Option World) (b : ℕ) → IfSome o (λ v. Keeps w v b) → Keeps w (after_event w e o) b
after_keeps w e None b h = same_world w b
after_keeps w e (Some v) b h = record { others = record { writers = h.others.writers; said = h.others.said }; over = h.over }

acts_keep : (w : World) (block : BlockId) (takes : Option TakenCommand) (answered : Bool) → Keeps w (happens w (event.Own (own.Writer block takes answered))) block.0
unfolding happens outcome
acts_keep w block takes answered =
    after_keeps w (event.Own (own.Writer block takes answered)) _ block.0
    (changed_keeps w (own_writer w block.0 takes answered) block.0 (step_of w block.0 (w.writers block.0).known (w.writers block.0).told takes answered))

asks_keep : (w : World) (block : BlockId) → Keeps w (happens w (event.Office (caller.Writer block))) block.0
unfolding happens outcome
asks_keep w block =
    after_keeps w (event.Office (caller.Writer block)) _ block.0
    (changed_keeps w (writer_asks_office w block.0) block.0 (when-each (IsOf block.0) _ _ (λ _. asks_of (own_step (w.writers block.0).known).action w block.0)))

joined : (u w v : World) (b : ℕ) → Keeps u w b → Keeps w v b → Keeps u v b
joined u w v b h k = record {
  others = record { writers = λ a z. k.others.writers a z ∙ h.others.writers a z; said = λ a z. k.others.said a z ∙ h.others.said a z };
  over = λ c lower. k.over c lower ∙ h.over c lower;
}

-- OWN STEPS

own_keeps : (w : World) (a : Action) (block : BlockId) (queue : List TakenCommand) → Keeps w (run w (own_events a block.0 queue)) block.0
own_keeps w action.Wait block queue = acts_keep w block (slice_get queue 0) true
own_keeps w (action.Ask call) block queue =
    let u : World = happens w (asking block.0) in
    joined w u (happens u (acting block.0 None)) block.0 (asks_keep w block) (acts_keep u block None true)
own_keeps w a block queue = acts_keep w block None true

pub own_steps_keep : OwnStepsKeep
own_steps_keep w queues block = let k : Keeps w (run w (own_events (own_step (w.writers block.0).known).action block.0 (queues block.0))) block.0 = own_keeps w (own_step (w.writers block.0).known).action block (queues block.0) in (k.others, k.over)

-- HEARING

-- What is kept of the others, and of other connections.
record KeepsBut (w v : World) (b conn : ℕ) : Type 0 where
  others : KeepsOthers w v b
  over : TakesThere w v conn

taken_others : (w : World) (c : ℕ) (x : Next) (b : ℕ) → KeepsOthers w (up_taken w c x) b
unfolding up_taken
taken_others w c x b = record { writers = λ a z. refl; said = λ a z. refl }

taken_keeps : (w : World) (c : ℕ) (x : Next) (b : ℕ) → KeepsBut w (up_taken w c x) b c
taken_keeps w c x b = record { others = taken_others w c x b; over = λ e apart. taken-over w e false c false x (λ same. absurd (apart (sym same))) }

hears_keeps : (u w : World) (o : Option Change) (b c : ℕ) → KeepsBut u w b c → IfSome o (IsOf b) → IfSome (changed w o) (λ v. KeepsBut u v b c)
hears_keeps u w None b c h k = tt
hears_keeps u w (Some k) b c h is = let q : Keeps w (apply w k) b = applied w k b is in record {
  others = record { writers = λ a z. q.others.writers a z ∙ h.others.writers a z; said = λ a z. q.others.said a z ∙ h.others.said a z };
  over = λ e apart. q.over e false ∙ h.over e apart;
}

writer_same : (a b : ℕ) → by_writer a ≡ by_writer b → a ≡ b
writer_same a b e = cc

heard_of : (w : World) (a b c : ℕ) (x : Next) → by_writer a ≡ by_writer b → IfSome (writer_up w a c x) (IsOf b)
heard_of w a b c x e = some_if (is_conn (w.writers a).conn c && is_none (w.writers a).told) (Some (writer_change w a (writer_hears (w.writers a).known x))) b (writer_same a b e)

upper_of : (u : Upper) (w : World) (c b : ℕ) (x : Next) → u ≡ by_writer b → IfSome (upper_up u w c x false) (IsOf b)
upper_of (by_writer a) w c b x e = heard_of w a b c x e
upper_of u w c b x e = cc

up_keeps : (w : World) (c b : ℕ) (o : Option Next) → (w.dialled c).upper ≡ by_writer b → IfSome (up_as w c false o) (λ v. KeepsBut w v b c)
up_keeps w c b None e = tt
up_keeps w c b (Some x) e = hears_keeps w (up_taken w c x) (upper_up (w.dialled c).upper (up_taken w c x) c x false) b c (taken_keeps w c x b) (upper_of (w.dialled c).upper (up_taken w c x) c b x e)

after_but : (w : World) (e : Event) (o : Option World) (b c : ℕ) → IfSome o (λ v. KeepsBut w v b c) → KeepsBut w (after_event w e o) b c
after_but w e None b c h = record { others = record { writers = λ a z. refl; said = λ a z. refl }; over = λ d z. refl }
after_but w e (Some v) b c h = record { others = record { writers = h.others.writers; said = h.others.said }; over = h.over }

pub hearing_keeps : HearingKeeps
unfolding happens outcome
hearing_keeps w conn b e =
    let k : KeepsBut w (after_event w (event.Up conn) (up_event w conn.0 false)) b conn.0 = after_but w (event.Up conn) (up_event w conn.0 false) b conn.0 (when-each (λ v. KeepsBut w v b conn.0) (nat_lt conn.0 w.next_conn) _ (λ _. up_keeps w conn.0 b (next_up w conn.0) e)) in
    (k.others, k.over)
