-- What is due lowers the weight of a play.
use Rattle.std.proofs.Common.{◌≡◌, ◌≢◌, ℕ, ◌<◌, ◌≤◌, ◌+◌, ◌^◌, Bool, true, false, List, [], ◌∷◌, ◌++◌, map, slice_get, Option, Some, None, refl, sym, ap, ◌∙◌, subst, arith}
use Rattle.std.specs.Prelude.{◌&&◌, ◌||◌, is_some, is_none, nat_lt, sum_by, if◌then◌else◌}
use Rattle.std.proofs.lemmas.Bool.{false≢true}
use Rattle.std.proofs.lemmas.List.Sums.{sum_by-cons}
use Rattle.hd_base.specs.declared.numbers.BlockId.{BlockId}
use Rattle.hd_base.specs.declared.numbers.ConnId.{ConnId}
use Rattle.hd_base.specs.declared.numbers.NodeId.{NodeId}
use Rattle.op_headers.specs.declared.ops.ReadOp.{ReadOp}
use Rattle.name_core.specs.declared.calls.OfficeCall.{OfficeCall}
use Rattle.name_core.specs.Offices.{answer_to}
use Rattle.recovery_core.specs.declared.primary.OwnStep.{OwnStep}
use Rattle.recovery_core.specs.declared.primary.OwnStep.TheVariants as step
use Rattle.recovery_core.specs.Primaries as primary
use Rattle.writer_core.specs.declared.actions.Action.{Action}
use Rattle.writer_core.specs.declared.actions.Action.TheVariants as action
use Rattle.writer_core.specs.declared.commands.Command.{Command}
use Rattle.writer_core.specs.declared.commands.Command.TheVariants as command
use Rattle.writer_core.specs.Transitions.{own_step, is_action}
use Rattle.world.specs.declared.events.Caller.TheVariants as caller
use Rattle.world.specs.declared.events.Event.{Event}
use Rattle.world.specs.declared.events.Event.TheVariants as event
use Rattle.world.specs.declared.events.OwnStep.TheVariants as own
use Rattle.world.specs.declared.events.TakenCommand.{TakenCommand}
use Rattle.world.specs.Clients.{are_members}
use Rattle.world.specs.Parts.{Upper, by_writer, by_member, by_reader, by_primary, Leading, Primary, no_primary, was_told, leads, has_led, Told, Writing, no_reader}
use Rattle.world.specs.Worlds.{World, put, apply, start}
use Rattle.world.specs.Primaries.{writer_asks}
use Rattle.world.specs.Connections.{next_up}
use Rattle.world.specs.Enabled.{acts_with, is_deed, is_question, can_down, can_ready, takes_above, can_up}
use Rattle.world.specs.Events.{changed, outcome, after_event, is_enabled, happens, run}
use Rattle.world.specs.Safe.{Has}
use Rattle.play_model.proofs.WorldLaws.FactTables.{and-right}
use Rattle.play_model.proofs.WorldLaws.RunLaws.{idle-stays}
use Rattle.play_model.proofs.WorldLaws.StampGivens.{put-here, put-there}
use Rattle.play_model.proofs.WorldLaws.TestLaws.{all-tested}
use Rattle.world_settling.specs.WorldTexts.Texts.{AllFit}
use Rattle.world_settling.specs.Leading.{read_weight, recovery_weight, primary_weight, LowersLeading, told_world}
use Rattle.world_settling.specs.Draws.{actor_of, actor_above, is_writer, is_primary}
use Rattle.world_settling.specs.Measure.{command_weight, given_weight, writer_weight, LowersBoth, answered_world}
use Rattle.world_settling.specs.Traffic.{traffic, is_delivery}
use Rattle.world_settling.proofs.Actors.{writers-stay, primaries-stay}
use Rattle.world_settling.proofs.Deliveries.{deliveries-lower}
use Rattle.world_settling.proofs.LeadingEvents.{primaries-lower, primaries-hear, beginning-lowers, committing-lowers}
use Rattle.world_settling.proofs.OfficeEvents.{asking-lowers}
use Rattle.world_settling.proofs.OwnEvents.{own-steps-lower}
use Rattle.world_settling.proofs.ReaderOwn.{readers-lower}
use Rattle.world_settling.proofs.Readers.{readers-go-on}
use Rattle.world_settling.proofs.WriterHears.{answers-lower}
use Rattle.play_model.specs.declared.asks.ReadAsk.{ReadAsk}
use Rattle.play_model.specs.declared.dues.Due.{Due}
use Rattle.play_model.specs.declared.dues.Due.TheVariants as due
use Rattle.play_model.specs.declared.recoveries.Recovery.{Recovery}
use Rattle.play_model.specs.Asks.{request_of, asking_node}
use Rattle.play_model.specs.Laws.{AreEnabled}
use Rattle.play_model.specs.Recoveries.{primary_asks, begins_so, goes_on, all_answered, leads_events, primary_events, primary_due}
use Rattle.play_model.specs.Dues.{Queues, is_open, is_open_above, own_due, asking, own_events, queue_left, action_of, due_events, queues_after}
use Rattle.play_settling.specs.Settling.{queue_weight, ask_weight, leads_weight, writers_weight, reads_weight, play_weight, answered_so, events_so, weight_after, AreApart, AreNumbered, UpperAmong, CanHappen, DuesLower}
use Rattle.play_settling.proofs.Sums.{all-same, lowers-all, lowers-at, both-lower}
use Rattle.play_settling.proofs.Staying.{IsOther, down-leaves, ready-leaves, up-leaves}
use Rattle.play_settling.proofs.Steps.{is_plain, own-plain}
use Rattle.play_settling.proofs.Dialling.{all-ready}
use Rattle.play_settling.proofs.Primaries.{primaries-go-on}
use Rattle.play_settling.proofs.Reading.{all-go-on, asks-fall, weight-falls, with-asks, reader-lowers}
use Rattle.play_settling.proofs.Recovering.{RestFalls, with-recoveries, one-leads, one-hears}
use Rattle.play_model.proofs.AskLemmas.{asks_enabled}
use Rattle.play_model.proofs.RecoveryLemmas.{begin_answered, recovery_enabled}

-- WHAT IS KNOWN OF A WORLD

pub record Known (w : World) : Type 0 where
  pub deliver : (e : Event) → is_delivery e ≡ true → is_enabled w e ≡ true → traffic (happens w e) < traffic w
  pub step : (b : BlockId) (takes : Option TakenCommand) (answered : Bool) → (w.writers b.0).told ≡ None → is_enabled w (event.Own (own.Writer b takes answered)) ≡ true
      → LowersBoth w (happens w (event.Own (own.Writer b takes answered))) b.0 (given_weight takes)
  pub ask : (b : BlockId) (answered : Bool) → (w.writers b.0).told ≡ None → is_enabled w (event.Office (caller.Writer b)) ≡ true → is_enabled (answered_world w b) (event.Own (own.Writer b None answered)) ≡ true
      → LowersBoth w (happens (answered_world w b) (event.Own (own.Writer b None answered))) b.0 0
  pub read : (i : ℕ) (n : NodeId) (r : ReadOp) (answered : Bool) → is_enabled w (event.Own (own.Reader i n r answered)) ≡ true → traffic (happens w (event.Own (own.Reader i n r answered))) < traffic w + read_weight r
  pub begin : (i : ℕ) (n : NodeId) (b : BlockId) (members : List NodeId) (answers : List Bool) → is_enabled (told_world w i b) (event.Own (own.Recover i n b members answers)) ≡ true
      → LowersLeading w (happens (told_world w i b) (event.Own (own.Recover i n b members answers))) i (recovery_weight members)
  pub lead : (i : ℕ) → is_enabled w (event.Own (own.Primary i)) ≡ true → LowersLeading w (happens w (event.Own (own.Primary i))) i 0
  pub commit : (i : ℕ) (b : BlockId) → is_enabled (told_world w i b) (event.Own (own.Primary i)) ≡ true → LowersLeading w (happens (told_world w i b) (event.Own (own.Primary i))) i 0
  pub plain : (b : ℕ) → (w.writers b).told ≡ None → is_plain (own_step (w.writers b).known).action ≡ true

known : (nodes : ℕ) (events : List Event) → AllFit events → (run (start nodes) events).office.next.0 ≤ 2 ^ 64 → Known (run (start nodes) events)
known nodes events fit left = record {
  deliver = λ e d i. deliveries-lower nodes events e d i;
  step = λ b takes answered told i. own-steps-lower nodes events b takes answered fit left told i;
  ask = λ b answered told i j. asking-lowers nodes events b answered fit left told i j;
  read = λ i n r answered e. readers-lower nodes events i n r answered e;
  begin = λ i n b members answers e. beginning-lowers nodes events i n b members answers e;
  lead = λ i e. primaries-lower nodes events i e;
  commit = λ i b e. committing-lowers nodes events i b e;
  plain = λ b told. own-plain ((run (start nodes) events).writers b).known (all-ready nodes events b told);
}

-- QUEUES

command-some : (c : Command) → 1 ≤ command_weight c
command-some (command.Create members) = omega arith
command-some (command.Append members) = omega arith
command-some (command.Write bytes) = omega arith
command-some (command.Fill count) = omega arith
command-some command.Hflush = omega arith
command-some command.Hsync = omega arith
command-some command.Close = omega arith

first-weight : (t : TakenCommand) (rest : List TakenCommand) → queue_weight (t ∷ rest) ≡ command_weight t.command + queue_weight rest
first-weight t rest = sum_by-cons (λ (u : TakenCommand). command_weight u.command) t rest

-- a queue is due only where nothing else is to be done
queued : (a : Action) (free : Bool) (queue : List TakenCommand) → a ≡ action.Wait → (is_action a || (free && is_some (slice_get queue 0))) ≡ true → is_some (slice_get queue 0) ≡ true
queued a free queue e h = and-right free (is_some (slice_get queue 0)) (subst (λ (x : Action). (is_action x || (free && is_some (slice_get queue 0))) ≡ true) e h)

spent : (c after rest before : ℕ) → after ≡ rest → before ≡ c + rest → c + after ≤ before
spent c after rest before p q = omega (arith, p, q)

lapsed : (t x c after rest before : ℕ) → 1 ≤ c → after ≡ rest → before ≡ c + rest → t + (x + after) < t + (x + before)
lapsed t x c after rest before o p q = omega (arith, o, p, q)

kept : (after queue before : ℕ) → after ≡ queue → before ≡ queue → 0 + after ≤ before
kept after queue before p q = omega (arith, p, q)

-- WRITERS THAT ASK

asked-told : (w : World) (b : ℕ) (t : Option Told) (a : Action) (c : OfficeCall) → t ≡ None → a ≡ action.Ask c
    → ((after_event w (asking b) (changed w (if is_none t then writer_asks a w b else None))).writers b).told ≡ Some (answer_to w.office c)
unfolding apply
asked-told w b t a c none ask = rw (none, ask) (ap (λ (x : Writing). x.told) (put-here w.writers b (record (w.writers b) { told = Some (answer_to w.office c) })))

-- once the office was asked, its answer waits
told-then : (w : World) (b : ℕ) (c : OfficeCall) → (w.writers b).told ≡ None → (own_step (w.writers b).known).action ≡ action.Ask c → ((happens w (asking b)).writers b).told ≡ Some (answer_to w.office c)
unfolding happens outcome
told-then w b c none ask = asked-told w b (w.writers b).told (own_step (w.writers b).known).action c none ask

acts-by : (t u : Option Told) (a : Action) → t ≡ u → acts_with u a ≡ true → acts_with t a ≡ true
acts-by t u a e h = ap (λ (o : Option Told). acts_with o a) e ∙ h

asks-by : (t : Option Told) (a : Action) → t ≡ None → is_question a ≡ true → (is_none t && is_question a) ≡ true
asks-by t a none h = ap (λ (o : Option Told). is_none o && is_question a) none ∙ h

-- WHAT IS DUE

module _ (w : World) (k : Known w) (queues : Queues) (blocks : List ℕ) (apart : AreApart blocks) (answered : Bool) where
  -- OWN STEPS

  module _ (b : ℕ) (has : Has blocks b) (told : (w.writers b).told ≡ None) where
    abbrev pub steps : Option TakenCommand → Event
    steps takes = event.Own (own.Writer (record { 0 = b }) takes answered)

    others : (queue : List TakenCommand) (a : ℕ) → a ≢ b → put queues b queue a ≡ queues a
    others queue a ne = put-there queues b queue a ne

    here : (queue : List TakenCommand) → queue_weight (put queues b queue b) ≡ queue_weight queue
    here queue = ap queue_weight (put-here queues b queue)

    -- a command is taken, or the writer takes none
    takes-lower : (t : TakenCommand) (rest : List TakenCommand) → queues b ≡ t ∷ rest → writers_weight (happens w (steps (Some t))) (put queues b rest) blocks < writers_weight w queues blocks
    takes-lower t rest q = go (is_enabled w (steps (Some t))) refl
      where
        before : queue_weight (queues b) ≡ command_weight t.command + queue_weight rest
        before = ap queue_weight q ∙ first-weight t rest

        go : (x : Bool) → is_enabled w (steps (Some t)) ≡ x → writers_weight (happens w (steps (Some t))) (put queues b rest) blocks < writers_weight w queues blocks
        go true e =
            both-lower w (happens w (steps (Some t))) queues (put queues b rest) blocks b apart has (command_weight t.command) (k.step (record { 0 = b }) (Some t) answered told e) (others rest)
            (spent (command_weight t.command) (queue_weight (put queues b rest b)) (queue_weight rest) (queue_weight (queues b)) (here rest) before)
        go false e =
            subst (λ (v : World). writers_weight v (put queues b rest) blocks < writers_weight w queues blocks) (sym (idle-stays w (steps (Some t)) e))
            (lowers-at w w queues (put queues b rest) blocks b apart has (λ a ne. refl) (others rest)
            (lapsed (traffic w) (writer_weight (w.writers b).known) (command_weight t.command) (queue_weight (put queues b rest b)) (queue_weight rest) (queue_weight (queues b)) (command-some t.command) (here rest) before))

    waits-lower : (queue : List TakenCommand) → queues b ≡ queue → is_some (slice_get queue 0) ≡ true
        → writers_weight (run w (map (answered_so answered) (own_events action.Wait b queue))) (put queues b (queue_left action.Wait queue)) blocks < writers_weight w queues blocks
    waits-lower [] q s = absurd (false≢true s)
    waits-lower (t ∷ rest) q s = takes-lower t rest q

    -- it does something
    does-lower : (queue : List TakenCommand) → queues b ≡ queue → is_deed (own_step (w.writers b).known).action ≡ true → writers_weight (happens w (steps None)) (put queues b queue) blocks < writers_weight w queues blocks
    does-lower queue q deed =
        both-lower w (happens w (steps None)) queues (put queues b queue) blocks b apart has 0
        (k.step (record { 0 = b }) None answered told ((all-tested w).write (record { 0 = b }) answered ∙ acts-by (w.writers b).told None (own_step (w.writers b).known).action told deed)) (others queue)
        (kept (queue_weight (put queues b queue b)) (queue_weight queue) (queue_weight (queues b)) (here queue) (ap queue_weight q))

    -- it asks the office, and goes on
    asks-lower : (c : OfficeCall) (queue : List TakenCommand) → queues b ≡ queue → (own_step (w.writers b).known).action ≡ action.Ask c → writers_weight (happens (happens w (asking b)) (steps None)) (put queues b queue) blocks < writers_weight w queues blocks
    asks-lower c queue q is =
        let v : World = happens w (asking b) in
        let asked : is_enabled w (asking b) ≡ true =
        (all-tested w).ask (caller.Writer (record { 0 = b })) ∙ asks-by (w.writers b).told (own_step (w.writers b).known).action told (ap is_question is) in
        let enabled : is_enabled v (steps None) ≡ true =
        (all-tested v).write (record { 0 = b }) answered ∙ acts-by (v.writers b).told (Some (answer_to w.office c)) (own_step (v.writers b).known).action (told-then w b c told is) refl in
        both-lower w (happens v (steps None)) queues (put queues b queue) blocks b apart has 0 (k.ask (record { 0 = b }) answered told asked enabled) (others queue)
        (kept (queue_weight (put queues b queue b)) (queue_weight queue) (queue_weight (queues b)) (here queue) (ap queue_weight q))

    own-lowers : (a : Action) (queue : List TakenCommand) → (own_step (w.writers b).known).action ≡ a → queues b ≡ queue → own_due (w.writers b) queue ≡ true
        → writers_weight (run w (map (answered_so answered) (own_events a b queue))) (put queues b (queue_left a queue)) blocks < writers_weight w queues blocks
    own-lowers action.Wait queue is q h = waits-lower queue q (queued (own_step (w.writers b).known).action (is_none (w.writers b).known.waiting) queue is h)
    own-lowers action.Took queue is q h = does-lower queue q (ap is_deed is)
    own-lowers (action.Ask c) queue is q h = asks-lower c queue q is
    own-lowers (action.Dial to r) queue is q h = absurd (false≢true (sym (ap is_plain is) ∙ k.plain b told))
    own-lowers (action.Send p) queue is q h = does-lower queue q (ap is_deed is)
    own-lowers (action.Answered n x) queue is q h = does-lower queue q (ap is_deed is)
    own-lowers action.Memory queue is q h = absurd (false≢true (sym (ap is_plain is) ∙ k.plain b told))

  -- DELIVERIES

  up-lowers : (c : ConnId) (u : Upper) → (w.dialled c.0).upper ≡ u → UpperAmong blocks u → is_enabled w (event.Up c) ≡ true → writers_weight (happens w (event.Up c)) queues blocks < writers_weight w queues blocks
  up-lowers c (by_writer b) is has e =
      both-lower w (happens w (event.Up c)) queues queues blocks b apart has 0 (answers-lower w c b is e) (λ a ne. refl)
      (kept (queue_weight (queues b)) (queue_weight (queues b)) (queue_weight (queues b)) refl refl)
  up-lowers c (by_member d) is has e = lowers-all w (happens w (event.Up c)) queues queues blocks (up-leaves w c (subst IsOther (sym is) tt)) (λ a. refl) (k.deliver (event.Up c) refl e)
  up-lowers c (by_reader i) is has e = lowers-all w (happens w (event.Up c)) queues queues blocks (up-leaves w c (subst IsOther (sym is) tt)) (λ a. refl) (k.deliver (event.Up c) refl e)
  up-lowers c (by_primary i place) is has e = lowers-all w (happens w (event.Up c)) queues queues blocks (up-leaves w c (subst IsOther (sym is) tt)) (λ a. refl) (k.deliver (event.Up c) refl e)

-- WHAT STAYS

-- what follows of a primary's own step is the same, whatever is answered
leads-so : (s : OwnStep) (r : Recovery) (answered : Bool) → map (answered_so answered) (leads_events s r) ≡ leads_events s r
leads-so step.Waits r answered = refl
leads-so (step.Updates c) r answered = refl
leads-so (step.Commits c) r answered = refl
leads-so (step.Ends e) r answered = refl

recovery-so : (p : Primary) (r : Recovery) (answered : Bool) → map (answered_so answered) (primary_events p r) ≡ primary_events p r
recovery-so no_primary r answered = refl
recovery-so (was_told b t) r answered = refl
recovery-so (leads l) r answered = leads-so (primary.own_step l.state).does r answered
recovery-so (has_led x) r answered = refl

-- no primary acts in a writer's own step
own-stays : (w : World) (a : Action) (b : ℕ) (queue : List TakenCommand) (answered : Bool) (i : ℕ) → (run w (map (answered_so answered) (own_events a b queue))).primaries i ≡ w.primaries i
own-stays w action.Wait b queue answered i = primaries-stay w (event.Own (own.Writer (record { 0 = b }) (slice_get queue 0) answered)) i refl
own-stays w action.Took b queue answered i = primaries-stay w (event.Own (own.Writer (record { 0 = b }) None answered)) i refl
own-stays w (action.Ask c) b queue answered i =
    primaries-stay (happens w (asking b)) (event.Own (own.Writer (record { 0 = b }) None answered)) i refl ∙ primaries-stay w (asking b) i refl
own-stays w (action.Dial to r) b queue answered i = primaries-stay w (event.Own (own.Writer (record { 0 = b }) None answered)) i refl
own-stays w (action.Send p) b queue answered i = primaries-stay w (event.Own (own.Writer (record { 0 = b }) None answered)) i refl
own-stays w (action.Answered n x) b queue answered i = primaries-stay w (event.Own (own.Writer (record { 0 = b }) None answered)) i refl
own-stays w action.Memory b queue answered i = primaries-stay w (event.Own (own.Writer (record { 0 = b }) None answered)) i refl

-- READERS THAT ASK, AND OTHERS

-- what it weighs but for the recoveries
abbrev Lowers : World → Queues → List ℕ → List ReadAsk → Due → Bool → Type 0
Lowers w queues blocks asks d answered =
    reads_weight (run w (events_so w queues d answered)) (queues_after w queues d) blocks asks < reads_weight w queues blocks asks

with : (w : World) (queues : Queues) (blocks : List ℕ) (asks : List ReadAsk) (d : Due) (answered : Bool)
    → writers_weight (run w (events_so w queues d answered)) (queues_after w queues d) blocks < writers_weight w queues blocks → Lowers w queues blocks asks d answered
with w queues blocks asks d answered less =
    with-asks w (run w (events_so w queues d answered)) queues (queues_after w queues d) blocks asks (all-go-on w (events_so w queues d answered)) less

-- of a writer, or a lower end of a connection
abbrev IsPlainDue : Due → Type 0
IsPlainDue (due.Primary r) = ⊥
IsPlainDue (due.Up c) = ⊥
IsPlainDue other = Unit {0}

plain-lowers : (w : World) (k : Known w) (queues : Queues) (blocks : List ℕ) (asks : List ReadAsk) (rs : List Recovery) (d : Due) (answered : Bool) → IsPlainDue d → CanHappen w queues blocks asks rs d
    → Lowers w queues blocks asks d answered
plain-lowers w k queues blocks asks rs (due.Own b) answered is h =
    with w queues blocks asks (due.Own b) answered (own-lowers w k queues blocks h.apart answered b.0 h.among h.untold (action_of w b) (queues b.0) refl refl h.due_now)
plain-lowers w k queues blocks asks rs (due.Reader ask) answered is h =
    reader-lowers w queues blocks asks ask answered h.among h.due_now (k.read ask.reader ask.node (request_of ask) answered (asks_enabled w ask answered ∙ h.due_now))
plain-lowers w k queues blocks asks rs (due.Primary r) answered is h = absurd is
plain-lowers w k queues blocks asks rs (due.Down c) answered is h =
    with w queues blocks asks (due.Down c) answered (lowers-all w (happens w (event.Down c answered)) queues queues blocks (down-leaves w c answered) (λ a. refl)
    (k.deliver (event.Down c answered) refl ((all-tested w).down c answered ∙ and-right (is_open (w.lowers c.0)) (can_down w c.0) h.due_now)))
plain-lowers w k queues blocks asks rs (due.Ready c) answered is h =
    with w queues blocks asks (due.Ready c) answered (lowers-all w (happens w (event.Ready c)) queues queues blocks (ready-leaves w c) (λ a. refl)
    (k.deliver (event.Ready c) refl ((all-tested w).ready c ∙ and-right (is_open (w.lowers c.0)) (can_ready w c.0) h.due_now)))
plain-lowers w k queues blocks asks rs (due.Up c) answered is h = absurd is

-- no primary acts in them
plain-stays : (w : World) (queues : Queues) (d : Due) (answered : Bool) → IsPlainDue d → (i : ℕ) → (run w (events_so w queues d answered)).primaries i ≡ w.primaries i
plain-stays w queues (due.Own b) answered is i = own-stays w (action_of w b) b.0 (queues b.0) answered i
plain-stays w queues (due.Reader ask) answered is i = primaries-stay w (asking_node ask answered) i refl
plain-stays w queues (due.Primary r) answered is i = absurd is
plain-stays w queues (due.Down c) answered is i = primaries-stay w (event.Down c answered) i refl
plain-stays w queues (due.Ready c) answered is i = primaries-stay w (event.Ready c) i refl
plain-stays w queues (due.Up c) answered is i = absurd is

plain : (w : World) (k : Known w) (queues : Queues) (blocks : List ℕ) (asks : List ReadAsk) (rs : List Recovery) (d : Due) (answered : Bool) → IsPlainDue d → CanHappen w queues blocks asks rs d
    → weight_after w queues blocks asks rs d answered < play_weight w queues blocks asks rs
plain w k queues blocks asks rs d answered is h =
    with-recoveries w (run w (events_so w queues d answered)) queues (queues_after w queues d) blocks asks rs (plain-stays w queues d answered is)
    (plain-lowers w k queues blocks asks rs d answered is h)

-- WHAT PRIMARIES DO

takes-last : (x y z : Bool) → (x && y && z) ≡ true → z ≡ true
takes-last true true z h = h
takes-last true false z h = absurd (false≢true h)
takes-last false y z h = absurd (false≢true h)

heard-as : (w : World) (c : ℕ) (i place : ℕ) (u : Upper) (p : Primary) → u ≡ by_primary i place → w.primaries i ≡ p → p ≡ no_primary → takes_above u w c ≡ false
heard-as w c i place u p is at none = rw (is, at, none) refl

-- one that hasn't begun hears nothing
heard-none : (w : World) (c : ConnId) (i place : ℕ) → (w.dialled c.0).upper ≡ by_primary i place → w.primaries i ≡ no_primary → is_enabled w (event.Up c) ≡ true → ⊥
heard-none w c i place is none e =
    let takes : takes_above (w.dialled c.0).upper w c.0 ≡ true =
    takes-last (nat_lt c.0 w.next_conn) (is_some (next_up w c.0)) (takes_above (w.dialled c.0).upper w c.0) (sym ((all-tested w).up c) ∙ e) in
    false≢true (sym (heard-as w c.0 i place (w.dialled c.0).upper (w.primaries i) is refl none) ∙ takes)

module _ (w : World) (k : Known w) (queues : Queues) (blocks : List ℕ) (asks : List ReadAsk) (rs : List Recovery) (numbered : AreNumbered rs) where
  -- writers stay, and readers that have begun stay so
  rest : (v : World) → ((a : ℕ) → v.writers a ≡ w.writers a) → ((i : ℕ) → v.readers i ≡ no_reader → w.readers i ≡ no_reader) → RestFalls w v queues blocks asks
  rest v stay on = record {
    blocks_same = all-same w v queues queues blocks stay (λ b. refl);
    asks_fall = asks-fall (ask_weight w) (ask_weight v) asks (λ a. weight-falls (w.readers a.reader) (v.readers a.reader) (read_weight (request_of a)) (on a.reader));
  }

  module _ (r : Recovery) (has : Has rs r) (formed : are_members r.members ≡ true) where
    abbrev asked : World
    asked = happens w (primary_asks r)

    led-none : (l : Leading) → w.primaries r.primary ≡ leads l → w.primaries r.primary ≡ no_primary → ⊥
    led-none l p q = cc

    led-paid : (p : Primary) (l : Leading) → p ≡ leads l → primary_weight p + 0 ≤ leads_weight p r.members
    led-paid p l is = rw is (omega arith)

    -- it asks the office, and goes on
    rest-two : (e : Event) → ((u : World) → is_writer (actor_of u e) ≡ false) → RestFalls w (happens asked e) queues blocks asks
    rest-two e calm =
        rest (happens asked e) (λ a. writers-stay asked e a (calm asked) ∙ writers-stay w (primary_asks r) a refl)
        (λ i h. readers-go-on w (primary_asks r) i (readers-go-on asked e i h))

    two-begun : (e : Event) → ((happens asked e).primaries r.primary ≡ no_primary → asked.primaries r.primary ≡ no_primary) → (asked.primaries r.primary ≡ no_primary → ⊥)
        → (happens asked e).primaries r.primary ≡ no_primary → ⊥
    two-begun e on begun none = begun (on none)

    begins-lower : w.primaries r.primary ≡ no_primary → AreEnabled w (primary_asks r ∷ (begins_so r (all_answered r.members) ∷ []))
        → play_weight (happens asked (begins_so r (all_answered r.members))) queues blocks asks rs < play_weight w queues blocks asks rs
    begins-lower new enabled =
        one-leads w (happens asked (begins_so r (all_answered r.members))) queues blocks asks rs r (recovery_weight r.members) numbered has
        (rest-two (begins_so r (all_answered r.members)) (λ u. refl))
        (k.begin r.primary r.node r.block r.members (all_answered r.members) enabled.1.0)
        (two-begun (begins_so r (all_answered r.members)) (primaries-go-on asked (begins_so r (all_answered r.members)) r.primary) told-begun)
        (paid (w.primaries r.primary) new)
      where
        told-begun : asked.primaries r.primary ≡ no_primary → ⊥
        told-begun none = told-none (begin_answered w r new).told none
          where
            told-none : {b : BlockId} {t : Told} → asked.primaries r.primary ≡ was_told b t → asked.primaries r.primary ≡ no_primary → ⊥
            told-none p q = cc

        paid : (p : Primary) → p ≡ no_primary → primary_weight p + recovery_weight r.members ≤ leads_weight p r.members
        paid p is = rw is (omega arith)

    goes-lower : (l : Leading) → w.primaries r.primary ≡ leads l → AreEnabled w (goes_on r ∷ []) → play_weight (happens w (goes_on r)) queues blocks asks rs < play_weight w queues blocks asks rs
    goes-lower l is enabled =
        one-leads w (happens w (goes_on r)) queues blocks asks rs r 0 numbered has
        (rest (happens w (goes_on r)) (λ a. writers-stay w (goes_on r) a refl) (λ i h. readers-go-on w (goes_on r) i h))
        (k.lead r.primary enabled.0) (λ none. led-none l is (primaries-go-on w (goes_on r) r.primary none)) (led-paid (w.primaries r.primary) l is)

    commits-lower : (l : Leading) → w.primaries r.primary ≡ leads l → AreEnabled w (primary_asks r ∷ (goes_on r ∷ [])) → play_weight (happens asked (goes_on r)) queues blocks asks rs < play_weight w queues blocks asks rs
    commits-lower l is enabled =
        one-leads w (happens asked (goes_on r)) queues blocks asks rs r 0 numbered has (rest-two (goes_on r) (λ u. refl)) (k.commit r.primary r.block enabled.1.0)
        (λ none. led-none l is (primaries-go-on w (primary_asks r) r.primary (primaries-go-on asked (goes_on r) r.primary none))) (led-paid (w.primaries r.primary) l is)

    steps-lower : (l : Leading) (s : OwnStep) → w.primaries r.primary ≡ leads l → AreEnabled w (leads_events s r) → play_weight (run w (leads_events s r)) queues blocks asks rs < play_weight w queues blocks asks rs
    steps-lower l step.Waits is enabled = goes-lower l is enabled
    steps-lower l (step.Updates c) is enabled = goes-lower l is enabled
    steps-lower l (step.Commits c) is enabled = commits-lower l is enabled
    steps-lower l (step.Ends e) is enabled = goes-lower l is enabled

    recovers-lower : (p : Primary) → w.primaries r.primary ≡ p → primary_due p w r ≡ true → AreEnabled w (primary_events p r) → play_weight (run w (primary_events p r)) queues blocks asks rs < play_weight w queues blocks asks rs
    recovers-lower no_primary is due enabled = begins-lower is enabled
    recovers-lower (was_told b t) is due enabled = absurd (false≢true due)
    recovers-lower (leads l) is due enabled = steps-lower l (primary.own_step l.state).does is enabled
    recovers-lower (has_led x) is due enabled = absurd (false≢true due)

  -- WHAT UPPER ENDS HEAR

  primary-hears : (c : ConnId) (i place : ℕ) → (w.dialled c.0).upper ≡ by_primary i place → is_enabled w (event.Up c) ≡ true → play_weight (happens w (event.Up c)) queues blocks asks rs < play_weight w queues blocks asks rs
  primary-hears c i place is e =
      one-hears w (happens w (event.Up c)) queues blocks asks rs i numbered
      (rest (happens w (event.Up c)) (up-leaves w c (subst IsOther (sym is) tt)) (λ j h. readers-go-on w (event.Up c) j h)) (primaries-hear w c i place is e)
      (λ none. hears-begun (primaries-go-on w (event.Up c) i none)) hears-begun (k.deliver (event.Up c) refl e)
    where
      hears-begun : w.primaries i ≡ no_primary → ⊥
      hears-begun none = heard-none w c i place is none e

  with-others : (apart : AreApart blocks) (c : ConnId) (u : Upper) → (w.dialled c.0).upper ≡ u → UpperAmong blocks u → is_enabled w (event.Up c) ≡ true → is_primary (actor_above u) ≡ false
      → play_weight (happens w (event.Up c)) queues blocks asks rs < play_weight w queues blocks asks rs
  with-others apart c u is among e other =
      with-recoveries w (happens w (event.Up c)) queues queues blocks asks rs (λ i. primaries-stay w (event.Up c) i (ap (λ (x : Upper). is_primary (actor_above x)) is ∙ other))
      (with w queues blocks asks (due.Up c) true (up-lowers w k queues blocks apart true c u is among e))

  upper-hears : (apart : AreApart blocks) (c : ConnId) (u : Upper) → (w.dialled c.0).upper ≡ u → UpperAmong blocks u → is_enabled w (event.Up c) ≡ true
      → play_weight (happens w (event.Up c)) queues blocks asks rs < play_weight w queues blocks asks rs
  upper-hears apart c (by_primary i place) is among e = primary-hears c i place is e
  upper-hears apart c (by_writer b) is among e = with-others apart c (by_writer b) is among e refl
  upper-hears apart c (by_member d) is among e = with-others apart c (by_member d) is among e refl
  upper-hears apart c (by_reader i) is among e = with-others apart c (by_reader i) is among e refl

-- ALL THAT IS DUE

due-lowers : (w : World) (k : Known w) (queues : Queues) (blocks : List ℕ) (asks : List ReadAsk) (rs : List Recovery) (d : Due) (answered : Bool) → CanHappen w queues blocks asks rs d
    → weight_after w queues blocks asks rs d answered < play_weight w queues blocks asks rs
due-lowers w k queues blocks asks rs (due.Own b) answered h = plain w k queues blocks asks rs (due.Own b) answered tt h
due-lowers w k queues blocks asks rs (due.Reader ask) answered h = plain w k queues blocks asks rs (due.Reader ask) answered tt h
due-lowers w k queues blocks asks rs (due.Down c) answered h = plain w k queues blocks asks rs (due.Down c) answered tt h
due-lowers w k queues blocks asks rs (due.Ready c) answered h = plain w k queues blocks asks rs (due.Ready c) answered tt h
due-lowers w k queues blocks asks rs (due.Primary r) answered h =
    subst (λ (es : List Event). play_weight (run w es) queues blocks asks rs < play_weight w queues blocks asks rs) (sym (recovery-so (w.primaries r.primary) r answered))
    (recovers-lower w k queues blocks asks rs h.numbered r h.among h.formed (w.primaries r.primary) refl h.due_now (recovery_enabled w r h.formed h.due_now))
due-lowers w k queues blocks asks rs (due.Up c) answered h =
    upper-hears w k queues blocks asks rs h.numbered h.apart c (w.dialled c.0).upper refl h.among ((all-tested w).up c ∙ and-right (is_open_above w (w.dialled c.0).upper) (can_up w c.0) h.due_now)

pub dues-lower : DuesLower
dues-lower nodes events queues blocks asks rs d answered fit left h = due-lowers (run (start nodes) events) (known nodes events fit left) queues blocks asks rs d answered h

-- PLAYS

own-so : (a : Action) (b : ℕ) (queue : List TakenCommand) → map (answered_so true) (own_events a b queue) ≡ own_events a b queue
own-so action.Wait b queue = refl
own-so action.Took b queue = refl
own-so (action.Ask c) b queue = refl
own-so (action.Dial to r) b queue = refl
own-so (action.Send p) b queue = refl
own-so (action.Answered n x) b queue = refl
own-so action.Memory b queue = refl

-- in a play dials are answered
pub due-so : (w : World) (queues : Queues) (d : Due) → events_so w queues d true ≡ due_events w queues d
due-so w queues (due.Own b) = own-so (action_of w b) b.0 (queues b.0)
due-so w queues (due.Reader ask) = refl
due-so w queues (due.Primary r) = recovery-so (w.primaries r.primary) r true
due-so w queues (due.Down c) = refl
due-so w queues (due.Ready c) = refl
due-so w queues (due.Up c) = refl
