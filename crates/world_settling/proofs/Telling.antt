-- No answer of the office waits for a writer between two draws.
use Rattle.std.proofs.Common.{◌≡◌, ◌≢◌, ℕ, Bool, true, false, List, [], Option, Some, None, IfSome, refl, sym, ap, ◌∙◌, subst, arith}
use Rattle.std.specs.Prelude.{is_some, is_none, nat_lt, not, ◌&&◌, ◌==◌, if◌then◌else◌}
use Rattle.std.proofs.lemmas.Bool.{false≢true}
use Rattle.std.proofs.lemmas.Bool.Decides.{nat_tests}
use Rattle.hd_base.specs.declared.numbers.BlockId.{BlockId}
use Rattle.hd_base.specs.declared.numbers.ConnId.{ConnId}
use Rattle.hd_base.specs.declared.numbers.NodeId.{NodeId}
use Rattle.op_headers.specs.declared.ops.Op.{Op}
use Rattle.writer_core.specs.Transitions.{completed_step, dial_step, dialled, given, granted, open_step, own_step}
use Rattle.writer_core.specs.Transitions as writer
use Rattle.writer_core.specs.declared.actions.Action.{Action}
use Rattle.writer_core.specs.declared.actions.Action.TheVariants as action
use Rattle.writer_core.specs.declared.phases.Phase.{Phase}
use Rattle.writer_core.specs.declared.phases.Phase.TheVariants as phase
use Rattle.writer_core.specs.declared.phases.Waiting.{Waiting}
use Rattle.writer_core.specs.declared.records.WriterRecord.{WriterRecord}
use Rattle.world.specs.declared.events.Caller.TheVariants as caller
use Rattle.world.specs.declared.events.Event.{Event}
use Rattle.world.specs.declared.events.Event.TheVariants as event
use Rattle.world.specs.declared.events.OwnStep.{OwnStep}
use Rattle.world.specs.declared.events.OwnStep.TheVariants as own
use Rattle.world.specs.declared.events.TakenCommand.{TakenCommand}
use Rattle.world.specs.Parts.{Upper, by_writer, by_member, by_reader, by_primary, Told, Writing}
use Rattle.world.specs.Worlds.{World, Change, apply}
use Rattle.world.specs.Connections.{Next, next_up, up_taken, is_conn}
use Rattle.world.specs.Clients.{command_bytes, dialled_change, dialling, did, is_empty, is_formed, own_writer, rest_in, ruled, takes_command, takes_step, writer_change, writer_hears, writer_step, writer_up}
use Rattle.world.specs.Primaries.{writer_asks, writer_asks_office}
use Rattle.world.specs.Events.{changed, upper_up, up_as, up_event, after_event, outcome, is_enabled, happens}
use Rattle.world_texts.proofs.WorldLaws.FactTables.{and-left, and-right}
use Rattle.world_settling.specs.Draws.{actor_above, actor_of, is_writer, happening, asking, beginning, committing, NoneTold, DrawsAnswer}
use Rattle.world_settling.proofs.Outer.{when-each}
use Rattle.world_settling.proofs.WriterOwn.{writers-else}
use Rattle.world_settling.proofs.Actors.{writers-stay}

-- THE WRITER'S CHANGES

-- the writer of this block comes into a state in which no answer waits for it
record Untells (b : ℕ) (k : Change) : Type 0 where
  at : k.writer_at ≡ b
  told : k.writer.told ≡ None

writer-untells : (w : World) (b : ℕ) (x : WriterRecord) → Untells b (writer_change w b x)
writer-untells w b x = record { at = refl; told = refl }

did-untells : (w : World) (b : ℕ) (waits : Option Waiting) (a : Action) (x : WriterRecord) (bytes : List ℕ) → IfSome (did w b waits a x bytes) (Untells b)
did-untells w b waits action.Wait x bytes = tt
did-untells w b waits action.Took x bytes = record { at = refl; told = refl }
did-untells w b waits (action.Ask c) x bytes = tt
did-untells w b waits (action.Dial to r) x bytes = tt
did-untells w b waits (action.Send p) x bytes = record { at = refl; told = refl }
did-untells w b waits (action.Answered n a) x bytes = record { at = refl; told = refl }
did-untells w b waits action.Memory x bytes = tt

dialled-untells : (w : World) (b : ℕ) (x : WriterRecord) (to : NodeId) (r : Op) (answered : Bool) → Untells b (dialled_change w b x to r answered)
dialled-untells w b x to r true = record { at = refl; told = refl }
dialled-untells w b x to r false = record { at = refl; told = refl }

dialling-untells : (w : World) (b : ℕ) (x : WriterRecord) (a : Action) (answered : Bool) → Untells b (dialling w b x a answered)
dialling-untells w b x action.Wait answered = record { at = refl; told = refl }
dialling-untells w b x action.Took answered = record { at = refl; told = refl }
dialling-untells w b x (action.Ask c) answered = record { at = refl; told = refl }
dialling-untells w b x (action.Dial to r) answered = dialled-untells w b x to r (answered && w.running to.0)
dialling-untells w b x (action.Send p) answered = record { at = refl; told = refl }
dialling-untells w b x (action.Answered n a) answered = record { at = refl; told = refl }
dialling-untells w b x action.Memory answered = record { at = refl; told = refl }

rest-untells : (p : Phase) (w : World) (b : ℕ) (x : WriterRecord) (answered : Bool) → IfSome (rest_in p w b x answered) (Untells b)
rest-untells phase.Closed w b x answered = writer-untells w b x
rest-untells (phase.Wanted s) w b x answered = writer-untells w b x
rest-untells (phase.Stamped s stamp) w b x answered = dialling-untells w b x (dial_step x s stamp).action answered
rest-untells (phase.Requested s stamp) w b x answered = writer-untells w b x
rest-untells (phase.Accepted s stamp) w b x answered = writer-untells w b x
rest-untells phase.Opened w b x answered = did-untells w b x.waiting (open_step x).action (open_step x).writer []
rest-untells (phase.Streaming sent) w b x answered = writer-untells w b x
rest-untells phase.Closing w b x answered = writer-untells w b x
rest-untells phase.Finished w b x answered = writer-untells w b x
rest-untells phase.Completed w b x answered = did-untells w b x.waiting (completed_step x).action (completed_step x).writer []
rest-untells (phase.Failed f) w b x answered = writer-untells w b x

takes-untells : (w : World) (b : ℕ) (waits : Option Waiting) (s : writer.Step) (bytes : List ℕ) → IfSome (takes_step w b waits s bytes) (Untells b)
takes-untells w b waits s bytes = when-each (Untells b) (is_empty s.writer.queue) _ (λ _. did-untells w b waits s.action s.writer bytes)

command-untells : (w : World) (b : ℕ) (x : WriterRecord) (t : TakenCommand) → IfSome (takes_command w b x t) (Untells b)
command-untells w b x t =
    let y = ruled x t.command t.rule in
    when-each (Untells b) (is_formed t.command t.rule && not (is_empty (given x t.command).queue)) _
    (λ _. takes-untells w b y.waiting (own_step (given y t.command)) (command_bytes y t.command))

step-untells : (w : World) (b : ℕ) (x : WriterRecord) (told : Option Told) (takes : Option TakenCommand) (answered : Bool)
    → IfSome (writer_step w b x told takes answered) (Untells b)
step-untells w b x (Some told) None answered = rest-untells (granted x told).phase w b (granted x told) answered
step-untells w b x (Some told) (Some t) answered = tt
step-untells w b x None None answered = did-untells w b x.waiting (own_step x).action (own_step x).writer []
step-untells w b x None (Some t) answered = command-untells w b x t

own-writer-untells : (w : World) (b : ℕ) (takes : Option TakenCommand) (answered : Bool) → IfSome (own_writer w b takes answered) (Untells b)
own-writer-untells w b takes answered = step-untells w b (w.writers b).known (w.writers b).told takes answered

writer-up-untells : (w : World) (b c : ℕ) (x : Next) → IfSome (writer_up w b c x) (Untells b)
writer-up-untells w b c x =
    when-each (Untells b) (is_conn (w.writers b).conn c && is_none (w.writers b).told) _ (λ _. writer-untells w b (writer_hears (w.writers b).known x))

-- IN ANY WORLD

told-but : (w : World) (k : Change) (b : ℕ) → Untells b k → ((a : ℕ) → a ≢ b → (w.writers a).told ≡ None) → NoneTold (apply w k)
unfolding apply
told-but w k b u h a = at (a == k.writer_at) refl
  where
    at : (t : Bool) → (a == k.writer_at) ≡ t → (if t then k.writer else w.writers a).told ≡ None
    at true e = u.told
    at false e = h a (λ q. absurd (grind (arith, nat_tests, e, q, u.at)))

-- the others are none's for whom an answer waits, and the writer of this block goes on
goes-untold : (w : World) (b : ℕ) (o : Option Change) → ((a : ℕ) → a ≢ b → (w.writers a).told ≡ None) → IfSome o (Untells b) → IfSome (changed w o) NoneTold
goes-untold w b None h u = tt
goes-untold w b (Some k) h u = told-but w k b u h

after-untold : (w : World) (e : Event) (o : Option World) → IfSome o NoneTold → is_some o ≡ true → NoneTold (after_event w e o)
after-untold w e None h s = absurd (false≢true s)
after-untold w e (Some v) h s = h

own-untold : (w : World) (b : BlockId) (takes : Option TakenCommand) (answered : Bool) → ((a : ℕ) → a ≢ b.0 → (w.writers a).told ≡ None) → is_enabled w (event.Own (own.Writer b takes answered)) ≡ true
    → NoneTold (happens w (event.Own (own.Writer b takes answered)))
unfolding happens outcome
own-untold w b takes answered h s =
    after-untold w (event.Own (own.Writer b takes answered)) (changed w (own_writer w b.0 takes answered)) (goes-untold w b.0 (own_writer w b.0 takes answered) h (own-writer-untells w b.0 takes answered)) s

-- WHAT IS TAKEN

taken-untold : (w : World) (c : ℕ) (x : Next) → NoneTold w → NoneTold (up_taken w c x)
unfolding up_taken
taken-untold w c x h = h

hears-untold : (w : World) (b c : ℕ) (x : Next) → NoneTold w → IfSome (changed (up_taken w c x) (writer_up (up_taken w c x) b c x)) NoneTold
hears-untold w b c x h = goes-untold (up_taken w c x) b (writer_up (up_taken w c x) b c x) (λ a other. taken-untold w c x h a) (writer-up-untells (up_taken w c x) b c x)

up-untold : (w : World) (b c : ℕ) → (w.dialled c).upper ≡ by_writer b → NoneTold w → IfSome (up_event w c false) NoneTold
up-untold w b c is h = when-each NoneTold (nat_lt c w.next_conn) _ (λ _. at (next_up w c))
  where
    at : (o : Option Next) → IfSome (up_as w c false o) NoneTold
    at None = tt
    at (Some x) = subst (λ (u : Upper). IfSome (changed (up_taken w c x) (upper_up u (up_taken w c x) c x false)) NoneTold) (sym is) (hears-untold w b c x h)

writer-hears-untold : (w : World) (b : ℕ) (c : ConnId) → (w.dialled c.0).upper ≡ by_writer b → NoneTold w → is_enabled w (event.Up c) ≡ true → NoneTold (happens w (event.Up c))
unfolding happens outcome
writer-hears-untold w b c is h s = after-untold w (event.Up c) (up_event w c.0 false) (up-untold w b c.0 is h) s

-- where no writer acts
stays-untold : (w : World) (e : Event) → is_writer (actor_of w e) ≡ false → NoneTold w → NoneTold (happens w e)
stays-untold w e n h a = ap (λ (x : Writing). x.told) (writers-stay w e a n) ∙ h a

above-untold : (w : World) (c : ConnId) (u : Upper) → (w.dialled c.0).upper ≡ u → NoneTold w → is_enabled w (event.Up c) ≡ true → NoneTold (happens w (event.Up c))
above-untold w c (by_writer b) is h s = writer-hears-untold w b c is h s
above-untold w c (by_member d) is h s = stays-untold w (event.Up c) (ap (λ (u : Upper). is_writer (actor_above u)) is) h
above-untold w c (by_reader i) is h s = stays-untold w (event.Up c) (ap (λ (u : Upper). is_writer (actor_above u)) is) h
above-untold w c (by_primary i place) is h s = stays-untold w (event.Up c) (ap (λ (u : Upper). is_writer (actor_above u)) is) h

-- WHAT IS ASKED

asks-at : (a : Action) (w : World) (b : ℕ) → IfSome (writer_asks a w b) (λ k. k.writer_at ≡ b)
asks-at action.Wait w b = tt
asks-at action.Took w b = tt
asks-at (action.Ask c) w b = refl
asks-at (action.Dial to r) w b = tt
asks-at (action.Send p) w b = tt
asks-at (action.Answered n a) w b = tt
asks-at action.Memory w b = tt

-- the others are as before
abbrev OthersAs : World → ℕ → World → Type 0
OthersAs w b v = (a : ℕ) → a ≢ b → v.writers a ≡ w.writers a

changes-one : (w : World) (b : ℕ) (o : Option Change) → IfSome o (λ k. k.writer_at ≡ b) → IfSome (changed w o) (OthersAs w b)
changes-one w b None h = tt
changes-one w b (Some k) h = λ a other. writers-else w k a (λ e. other (e ∙ h))

after-one : (w : World) (b : ℕ) (e : Event) (o : Option World) → IfSome o (OthersAs w b) → OthersAs w b (after_event w e o)
after-one w b e None h a other = refl
after-one w b e (Some v) h a other = h a other

asks-one : (w : World) (b : BlockId) → OthersAs w b.0 (happens w (event.Office (caller.Writer b)))
unfolding happens outcome
asks-one w b =
    after-one w b.0 (event.Office (caller.Writer b)) (changed w (writer_asks_office w b.0))
    (changes-one w b.0 (writer_asks_office w b.0) (when-each (λ k. k.writer_at ≡ b.0) (is_none (w.writers b.0).told) _ (λ _. asks-at (own_step (w.writers b.0).known).action w b.0)))

-- DRAWS

step-untold : (w : World) (s : OwnStep) → NoneTold w → is_enabled w (event.Own s) ≡ true → NoneTold (happens w (event.Own s))
step-untold w (own.Writer b takes answered) h e = own-untold w b takes answered (λ a other. h a) e
step-untold w (own.Reader i n r answered) h e = stays-untold w (event.Own (own.Reader i n r answered)) refl h
step-untold w (own.Recover i n b members answers) h e = stays-untold w (event.Own (own.Recover i n b members answers)) refl h
step-untold w (own.Primary i) h e = stays-untold w (event.Own (own.Primary i)) refl h

pub draws-answer : DrawsAnswer
draws-answer w (happening (event.Own s)) d e h = step-untold w s h (and-left (is_enabled w (event.Own s)) true e)
draws-answer w (happening (event.Down k answered)) d e h = stays-untold w (event.Down k answered) refl h
draws-answer w (happening (event.Ready k)) d e h = stays-untold w (event.Ready k) refl h
draws-answer w (happening (event.Fault f)) d e h = stays-untold w (event.Fault f) refl h
draws-answer w (happening (event.Up k)) d e h = above-untold w k (w.dialled k.0).upper refl h (and-left (is_enabled w (event.Up k)) true e)
draws-answer w (happening (event.Office k)) d e h = absurd (false≢true d)
draws-answer w (happening (event.Lost k way more)) d e h = absurd (false≢true d)
draws-answer w (happening (event.Stop n)) d e h = absurd (false≢true d)
draws-answer w (happening (event.Restart n list)) d e h = absurd (false≢true d)
draws-answer w (asking b answered) d e h =
    let asks : Event = event.Office (caller.Writer b) in
    let goes : Event = event.Own (own.Writer b None answered) in
    let u : World = happens w asks in
    own-untold u b None answered (λ a other. ap (λ (x : Writing). x.told) (asks-one w b a other) ∙ h a)
    (and-left (is_enabled u goes) true (and-right (is_enabled w asks) (is_enabled u goes && true) e))
draws-answer w (beginning i n b members answers) d e h =
    let asks : Event = event.Office (caller.Primary i b) in
    stays-untold (happens w asks) (event.Own (own.Recover i n b members answers)) refl (stays-untold w asks refl h)
draws-answer w (committing i b) d e h =
    let asks : Event = event.Office (caller.Primary i b) in
    stays-untold (happens w asks) (event.Own (own.Primary i)) refl (stays-untold w asks refl h)
