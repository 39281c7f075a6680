-- The events of writers keep what the nodes show.
use Rattle.std.proofs.Common.{eqb-true, ◌≡◌, ◌<◌, ◌≤◌, ◌+◌, ℕ, Bool, true, false, List, [], ◌∷◌, length, slice_get, option_map, Option, Some, None, IfSome, refl, sym, ap, ◌∙◌, subst, arith}
use Rattle.std.specs.Prelude.{◌==◌, ◌&&◌, not, nat_lt, is_none, unwrap_or}
use Rattle.std.proofs.lemmas.Bool.Decides.{nat_tests}
use Rattle.hd_base.specs.declared.numbers.BlockId.{BlockId}
use Rattle.hd_base.specs.declared.numbers.ConnId.{ConnId}
use Rattle.hd_base.specs.declared.numbers.NodeId.{NodeId}
use Rattle.op_headers.specs.declared.ops.Op.{Op}
use Rattle.play_model.specs.WriterCore.Action.{Action}
use Rattle.play_model.specs.WriterCore.Action.TheVariants as action
use Rattle.play_model.specs.WriterCore.Phase.{Phase}
use Rattle.play_model.specs.WriterCore.Phase.TheVariants as phase
use Rattle.play_model.specs.WriterCore.Waiting.{Waiting}
use Rattle.play_model.specs.WriterCore.WriterRecord.{WriterRecord}
use Rattle.play_model.specs.WriterCore.Transitions.{given, own_step, dial_step, open_step, completed_step, granted, dialled}
use Rattle.play_model.specs.WriterCore.Transitions as writer
use Rattle.play_model.specs.World.Event.{Event}
use Rattle.play_model.specs.World.Event.TheVariants as event
use Rattle.play_model.specs.World.TakenCommand.{TakenCommand}
use Rattle.play_model.specs.World.Parts.{Upper, by_writer, by_member, Dialled, Told}
use Rattle.play_model.specs.World.Worlds.{World, Dial, Change, put, put_at, apply, dial_at}
use Rattle.play_model.specs.World.Connections.{Next, next_up, up_taken, is_alive, is_conn}
use Rattle.play_model.specs.World.Clients.{writer_change, did, dialled_change, dialling, rest_in, is_empty, is_formed, ruled, command_bytes, takes_step, takes_command, writer_step, own_writer, writer_hears, writer_up}
use Rattle.play_model.specs.World.Primaries.{writer_asks, writer_asks_office}
use Rattle.play_model.specs.World.Events.{changed, outcome, after_event, happens, run, upper_up, up_as}
use Rattle.play_model.proofs.WorldLaws.FactTables.{if-each, when-each, and-left, and-right}
use Rattle.play_model.proofs.WorldLaws.GrowthLaws.{apply-grows}
use Rattle.member_events.specs.WorldNets.Nets.{is_over}
use Rattle.member_events.proofs.WorldNets.StepLemmas.{changed-over, taken-over, next-conn}
use Rattle.world_orders.proofs.Lists.{dial-here}
use Rattle.play_model.specs.Dues.{Queues, own_events, action_of, acting, asking}
use Rattle.play_nodes.specs.Frames.{IsFirst, WriterKeeps, HearKeeps}
use Rattle.play_nodes.proofs.NodeFrames.{IsApart}
use Rattle.play_nodes.proofs.MemberNodes.{both_so}

-- TABLES

-- a table with what stood there already
pub put_same : {A : Type 0} (f : ℕ → A) (n : ℕ) (x : A) (j : ℕ) → x ≡ f n → put f n x j ≡ f j
put_same {A} f n x j is = if-each (λ (y : A). y ≡ f j) (j == n) x (f j) (λ e. is ∙ ap f (sym (eqb-true j n e))) (λ _. refl)

put_at_same : {A : Type 0} (f : ℕ → ℕ → A) (n b : ℕ) (x : A) (j l : ℕ) → x ≡ f n b → put_at f n b x j l ≡ f j l
put_at_same {A} f n b x j l is =
    if-each (λ (y : A). y ≡ f j l) (j == n && l == b) x (f j l)
    (λ e. is ∙ (ap (λ (q : ℕ). f q b) (sym (eqb-true j n (and-left (j == n) (l == b) e))) ∙ ap (f j) (sym (eqb-true l b (and-right (j == n) (l == b) e)))))
    (λ _. refl)

-- CHANGES

-- at most one connection is dialled, by the writer of the block, at a node that runs
abbrev AreFirst : World → ℕ → List Dial → Type 0
AreFirst w b [] = Unit {0}
AreFirst w b (d ∷ []) = (d.dialled.upper ≡ by_writer b) × (is_alive w d.dialled.to ≡ true)
AreFirst w b (d ∷ e ∷ ds) = ⊥

-- A change changes no lower end and no replica, and dials as the writer of the block does.
record IsOfWriter (w : World) (b : ℕ) (k : Change) : Type 0 where
  lower : k.lower ≡ w.lowers k.lower_at
  replica : k.replica ≡ w.replicas k.node k.block
  dials : AreFirst w b k.dials

-- It dials nothing.
record IsQuiet (w : World) (b : ℕ) (k : Change) : Type 0 where
  is : IsOfWriter w b k
  none : k.dials ≡ []

-- STEPS

-- What the nodes show stays, but for whether the end was taken from above on this connection, if it is one.
record StepKeeps (w v : World) (b : ℕ) (c : Option ℕ) : Type 0 where
  nodes : v.nodes ≡ w.nodes
  grows : w.next_conn ≤ v.next_conn
  dialled : (d : ℕ) → d < w.next_conn → v.dialled d ≡ w.dialled d
  running : (n : ℕ) → v.running n ≡ w.running n
  lives : (n : ℕ) → v.lives n ≡ w.lives n
  lowers : (d : ℕ) → v.lowers d ≡ w.lowers d
  replicas : (n q : ℕ) → v.replicas n q ≡ w.replicas n q
  over : (d : ℕ) → IsApart c d → is_over v d false ≡ is_over w d false
  once : v.next_conn ≤ w.next_conn + 1
  dials : w.next_conn < v.next_conn → IsFirst v b w.next_conn

still_kept : (w : World) (b : ℕ) (c : Option ℕ) → StepKeeps w w b c
still_kept w b c = record {
  nodes = refl;
  grows = omega arith;
  dialled = λ d within. refl;
  running = λ n. refl;
  lives = λ n. refl;
  lowers = λ d. refl;
  replicas = λ n q. refl;
  over = λ d apart. refl;
  once = omega arith;
  dials = λ more. absurd (omega (arith, more));
}

-- one step that dials nothing, and another behind it
kept_then : (w u v : World) (b : ℕ) (c : Option ℕ) → StepKeeps w u b c → u.next_conn ≡ w.next_conn → StepKeeps u v b None → StepKeeps w v b c
kept_then w u v b c h same k = record {
  nodes = k.nodes ∙ h.nodes;
  grows = omega (arith, h.grows, k.grows);
  dialled = λ d within. k.dialled d (subst (λ (n : ℕ). d < n) (sym same) within) ∙ h.dialled d within;
  running = λ n. k.running n ∙ h.running n;
  lives = λ n. k.lives n ∙ h.lives n;
  lowers = λ d. k.lowers d ∙ h.lowers d;
  replicas = λ n q. k.replicas n q ∙ h.replicas n q;
  over = λ d apart. k.over d tt ∙ h.over d apart;
  once = omega (arith, same, k.once);
  dials = λ more. subst (λ (n : ℕ). IsFirst v b n) same (k.dials (subst (λ (n : ℕ). n < v.next_conn) (sym same) more));
}

-- the world names its last event
named : (w v : World) (b : ℕ) (c : Option ℕ) (e : Event) → StepKeeps w v b c → StepKeeps w (record v { last = Some e }) b c
named w v b c e h = record {
  nodes = h.nodes;
  grows = h.grows;
  dialled = h.dialled;
  running = h.running;
  lives = h.lives;
  lowers = h.lowers;
  replicas = h.replicas;
  over = h.over;
  once = h.once;
  dials = λ more. record { upper = (h.dials more).upper; served = (h.dials more).served };
}

-- AFTER A CHANGE

few : (w : World) (b n : ℕ) (ds : List Dial) → AreFirst w b ds → n + length ds ≤ n + 1
few w b n [] h = omega arith
few w b n (d ∷ []) h = omega arith
few w b n (d ∷ e ∷ ds) h = absurd h

-- what stands at the next number
abbrev FirstIs : World → ℕ → Dialled → Type 0
FirstIs w b d = (d.upper ≡ by_writer b) × (is_alive w d.to ≡ true)

first_is : (w : World) (b : ℕ) (ds : List Dial) → AreFirst w b ds → w.next_conn < w.next_conn + length ds → FirstIs w b (unwrap_or (option_map (λ (d : Dial). d.dialled) (dial_at w.next_conn ds w.next_conn)) (w.dialled w.next_conn))
first_is w b [] h more = absurd (omega (arith, more))
first_is w b (d ∷ []) h more =
    subst (λ (o : Option Dial). FirstIs w b (unwrap_or (option_map (λ (d : Dial). d.dialled) o) (w.dialled w.next_conn))) (sym (dial-here w.next_conn w.next_conn 0 (d ∷ []) d (omega arith) refl)) h
first_is w b (d ∷ e ∷ ds) h more = absurd h

test_so : (a b : ℕ) → a < b → nat_lt a b ≡ true
test_so a b h = grind (arith, nat_tests, h)

change_kept : (w : World) (b : ℕ) (k : Change) → IsOfWriter w b k → StepKeeps w (apply w k) b None
unfolding apply
change_kept w b k h = record {
  nodes = refl;
  grows = omega arith;
  dialled = λ d within. (apply-grows w k).dialled d within;
  running = λ n. refl;
  lives = λ n. refl;
  lowers = λ d. put_same w.lowers k.lower_at k.lower d h.lower;
  replicas = λ n q. put_at_same w.replicas k.node k.block k.replica n q h.replica;
  over = λ d apart. changed-over w k d false;
  once = few w b w.next_conn k.dials h.dials;
  dials = λ more.
      let z = first_is w b k.dials h.dials more in
      record { upper = z.0; served = both_so _ _ (test_so w.next_conn (w.next_conn + length k.dials) more) z.1 };
}

abbrev Quiet : World → ℕ → Option ℕ → World → Type 0
Quiet w b c v = StepKeeps w v b c × (v.next_conn ≡ w.next_conn)

quiet_kept : (w : World) (b : ℕ) (k : Change) → IsQuiet w b k → Quiet w b None (apply w k)
quiet_kept w b k h = (change_kept w b k h.is, next-conn w k 0 (ap (λ (ds : List Dial). length ds) h.none) ∙ plus_none w.next_conn)
  where
    plus_none : (n : ℕ) → n + 0 ≡ n
    plus_none n = omega arith

-- WHAT A WRITER DOES

writer_of : (w : World) (b q : ℕ) (x : WriterRecord) → IsOfWriter w b (writer_change w q x)
writer_of w b q x = record { lower = refl; replica = refl; dials = tt }

module _ (w : World) (b : ℕ) where
  did_of : (waits : Option Waiting) (a : Action) (x : WriterRecord) (bytes : List ℕ) → IfSome (did w b waits a x bytes) (IsOfWriter w b)
  did_of waits action.Wait x bytes = tt
  did_of waits action.Took x bytes = record { lower = refl; replica = refl; dials = tt }
  did_of waits (action.Ask c) x bytes = tt
  did_of waits (action.Dial to r) x bytes = tt
  did_of waits (action.Send p) x bytes = record { lower = refl; replica = refl; dials = tt }
  did_of waits (action.Answered n a) x bytes = record { lower = refl; replica = refl; dials = tt }
  did_of waits action.Memory x bytes = tt

  same : (n : ℕ) → (n == n) ≡ true
  same n = grind (arith, nat_tests)

  dialled_of : (x : WriterRecord) (to : NodeId) (r : Op) (answered : Bool) → (answered ≡ true → w.running to.0 ≡ true) → IsOfWriter w b (dialled_change w b x to r answered)
  dialled_of x to r true runs = record { lower = refl; replica = refl; dials = (refl, both_so (w.running to.0) (w.lives to.0 == w.lives to.0) (runs refl) (same (w.lives to.0))) }
  dialled_of x to r false runs = writer_of w b b (dialled x false)

  dialling_of : (x : WriterRecord) (a : Action) (answered : Bool) → IsOfWriter w b (dialling w b x a answered)
  dialling_of x action.Wait answered = writer_of w b b x
  dialling_of x action.Took answered = writer_of w b b x
  dialling_of x (action.Ask c) answered = writer_of w b b x
  dialling_of x (action.Dial to r) answered = dialled_of x to r (answered && w.running to.0) (λ e. and-right answered (w.running to.0) e)
  dialling_of x (action.Send p) answered = writer_of w b b x
  dialling_of x (action.Answered n a) answered = writer_of w b b x
  dialling_of x action.Memory answered = writer_of w b b x

  rest_of : (p : Phase) (x : WriterRecord) (answered : Bool) → IfSome (rest_in p w b x answered) (IsOfWriter w b)
  rest_of phase.Closed x answered = writer_of w b b x
  rest_of (phase.Wanted s) x answered = writer_of w b b x
  rest_of (phase.Stamped s stamp) x answered = dialling_of x (dial_step x s stamp).action answered
  rest_of (phase.Requested s stamp) x answered = writer_of w b b x
  rest_of (phase.Accepted s stamp) x answered = writer_of w b b x
  rest_of phase.Opened x answered = did_of x.waiting (open_step x).action (open_step x).writer []
  rest_of (phase.Streaming sent) x answered = writer_of w b b x
  rest_of phase.Closing x answered = writer_of w b b x
  rest_of phase.Finished x answered = writer_of w b b x
  rest_of phase.Completed x answered = did_of x.waiting (completed_step x).action (completed_step x).writer []
  rest_of (phase.Failed f) x answered = writer_of w b b x

  takes_of : (waits : Option Waiting) (s : writer.Step) (bytes : List ℕ) → IfSome (takes_step w b waits s bytes) (IsOfWriter w b)
  takes_of waits s bytes = when-each (IsOfWriter w b) (is_empty s.writer.queue) _ (λ _. did_of waits s.action s.writer bytes)

  command_of : (x : WriterRecord) (t : TakenCommand) → IfSome (takes_command w b x t) (IsOfWriter w b)
  command_of x t =
      let y = ruled x t.command t.rule in
      when-each (IsOfWriter w b) (is_formed t.command t.rule && not (is_empty (given x t.command).queue)) _
      (λ _. takes_of y.waiting (own_step (given y t.command)) (command_bytes y t.command))

  step_of : (x : WriterRecord) (told : Option Told) (takes : Option TakenCommand) (answered : Bool) → IfSome (writer_step w b x told takes answered) (IsOfWriter w b)
  step_of x (Some told) None answered = rest_of (granted x told).phase (granted x told) answered
  step_of x (Some told) (Some t) answered = tt
  step_of x None None answered = did_of x.waiting (own_step x).action (own_step x).writer []
  step_of x None (Some t) answered = command_of x t

  own_of : (takes : Option TakenCommand) (answered : Bool) → IfSome (own_writer w b takes answered) (IsOfWriter w b)
  own_of takes answered = step_of (w.writers b).known (w.writers b).told takes answered

  -- it asks the office
  asks_of : (a : Action) → IfSome (writer_asks a w b) (IsQuiet w b)
  asks_of (action.Ask c) = record { is = record { lower = refl; replica = refl; dials = tt }; none = refl }
  asks_of action.Wait = tt
  asks_of action.Took = tt
  asks_of (action.Dial to r) = tt
  asks_of (action.Send p) = tt
  asks_of (action.Answered n a) = tt
  asks_of action.Memory = tt

  office_of : IfSome (writer_asks_office w b) (IsQuiet w b)
  office_of = when-each (IsQuiet w b) (is_none (w.writers b).told) _ (λ _. asks_of (own_step (w.writers b).known).action)

  -- it hears something
  up_of : (c : ℕ) (x : Next) → IfSome (writer_up w b c x) (IsQuiet w b)
  up_of c x = when-each (IsQuiet w b) (is_conn (w.writers b).conn c && is_none (w.writers b).told) _ (λ _. record { is = writer_of w b b (writer_hears (w.writers b).known x); none = refl })

-- AFTER EVENTS

changed_kept : (w : World) (b : ℕ) (o : Option Change) → IfSome o (IsOfWriter w b) → IfSome (changed w o) (λ v. StepKeeps w v b None)
changed_kept w b None h = tt
changed_kept w b (Some k) h = change_kept w b k h

changed_quiet : (w : World) (b : ℕ) (o : Option Change) → IfSome o (IsQuiet w b) → IfSome (changed w o) (Quiet w b None)
changed_quiet w b None h = tt
changed_quiet w b (Some k) h = quiet_kept w b k h

after_kept : (w : World) (b : ℕ) (e : Event) (o : Option World) → IfSome o (λ v. StepKeeps w v b None) → StepKeeps w (after_event w e o) b None
after_kept w b e None h = still_kept w b None
after_kept w b e (Some v) h = named w v b None e h

after_quiet : (w : World) (b : ℕ) (c : Option ℕ) (e : Event) (o : Option World) → IfSome o (Quiet w b c) → Quiet w b c (after_event w e o)
after_quiet w b c e None h = (still_kept w b c, refl)
after_quiet w b c e (Some v) h = (named w v b c e h.0, h.1)

own_kept : (w : World) (b : ℕ) (takes : Option TakenCommand) → StepKeeps w (happens w (acting b takes)) b None
unfolding happens outcome
own_kept w b takes = after_kept w b (acting b takes) (outcome w (acting b takes)) (changed_kept w b (own_writer w b takes true) (own_of w b takes true))

office_kept : (w : World) (b : ℕ) → Quiet w b None (happens w (asking b))
unfolding happens outcome
office_kept w b = after_quiet w b None (asking b) (outcome w (asking b)) (changed_quiet w b (writer_asks_office w b) (office_of w b))

-- the events of an own step
run_kept : (w : World) (b : ℕ) (a : Action) (queue : List TakenCommand) → StepKeeps w (run w (own_events a b queue)) b None
run_kept w b action.Wait queue = own_kept w b (slice_get queue 0)
run_kept w b action.Took queue = own_kept w b None
run_kept w b (action.Ask c) queue =
    let h = office_kept w b in
    kept_then w (happens w (asking b)) (happens (happens w (asking b)) (acting b None)) b None h.0 h.1 (own_kept (happens w (asking b)) b None)
run_kept w b (action.Dial to r) queue = own_kept w b None
run_kept w b (action.Send p) queue = own_kept w b None
run_kept w b (action.Answered n a) queue = own_kept w b None
run_kept w b action.Memory queue = own_kept w b None

writer_apart : (w : World) (b c d e : ℕ) → (w.dialled c).upper ≡ by_writer b → (w.dialled e).upper ≡ by_member d → c ≡ e → ⊥
writer_apart w b c d e h k same = never (sym h ∙ (ap (λ (n : ℕ). (w.dialled n).upper) same ∙ k))
  where
    never : by_writer b ≡ by_member d → ⊥
    never x = cc

pub own_keeps : (w : World) (queues : Queues) (block : BlockId) → WriterKeeps w (run w (own_events (action_of w block) block.0 (queues block.0))) block.0
own_keeps w queues block =
    let h = run_kept w block.0 (action_of w block) (queues block.0) in
    record {
      keeps = record {
        nodes = h.nodes;
        grows = h.grows;
        dialled = h.dialled;
        running = h.running;
        lives = h.lives;
        lowers = h.lowers;
        replicas = h.replicas;
        over = λ c d is. h.over d tt;
      };
      once = h.once;
      dials = h.dials;
    }

-- WHAT A WRITER HEARS

taken_kept : (w : World) (b c : ℕ) (x : Next) → Quiet w b (Some c) (up_taken w c x)
unfolding up_taken
taken_kept w b c x = (
  record {
    nodes = refl;
    grows = omega arith;
    dialled = λ d within. refl;
    running = λ n. refl;
    lives = λ n. refl;
    lowers = λ d. refl;
    replicas = λ n q. refl;
    over = λ d apart. taken-over w d false c false x (λ same. absurd (apart same));
    once = omega arith;
    dials = λ more. absurd (omega (arith, more));
  },
  refl,
)

quiet_then : (w u : World) (b : ℕ) (c : Option ℕ) (o : Option World) → Quiet w b c u → IfSome o (Quiet u b None) → IfSome o (Quiet w b c)
quiet_then w u b c None h k = tt
quiet_then w u b c (Some v) h k = (kept_then w u v b c h.0 h.1 k.0, k.1 ∙ h.1)

heard_as : (w : World) (b c : ℕ) (u : Upper) (x : Next) → u ≡ by_writer b → IfSome (changed (up_taken w c x) (upper_up u (up_taken w c x) c x false)) (Quiet w b (Some c))
heard_as w b c u x is =
    subst (λ (z : Upper). IfSome (changed (up_taken w c x) (upper_up z (up_taken w c x) c x false)) (Quiet w b (Some c))) (sym is)
    (quiet_then w (up_taken w c x) b (Some c) (changed (up_taken w c x) (writer_up (up_taken w c x) b c x)) (taken_kept w b c x)
    (changed_quiet (up_taken w c x) b (writer_up (up_taken w c x) b c x) (up_of (up_taken w c x) b c x)))

heard_next : (w : World) (b c : ℕ) (o : Option Next) → (w.dialled c).upper ≡ by_writer b → IfSome (up_as w c false o) (Quiet w b (Some c))
heard_next w b c None is = tt
heard_next w b c (Some x) is = heard_as w b c (w.dialled c).upper x is

heard_kept : (w : World) (conn : ConnId) (b : ℕ) → (w.dialled conn.0).upper ≡ by_writer b → Quiet w b (Some conn.0) (happens w (event.Up conn))
unfolding happens outcome
heard_kept w conn b is =
    after_quiet w b (Some conn.0) (event.Up conn) (outcome w (event.Up conn))
    (when-each (Quiet w b (Some conn.0)) (nat_lt conn.0 w.next_conn) (up_as w conn.0 false (next_up w conn.0)) (λ _. heard_next w b conn.0 (next_up w conn.0) is))

pub heard_keeps : (w : World) (conn : ConnId) (b : ℕ) → (w.dialled conn.0).upper ≡ by_writer b → HearKeeps w (happens w (event.Up conn))
heard_keeps w conn b is =
    let q = heard_kept w conn b is in
    record {
      keeps = record {
        nodes = q.0.nodes;
        grows = q.0.grows;
        dialled = q.0.dialled;
        running = q.0.running;
        lives = q.0.lives;
        lowers = q.0.lowers;
        replicas = q.0.replicas;
        over = λ c d by. q.0.over d (writer_apart w b conn.0 c d is by);
      };
      conns = q.1;
    }
