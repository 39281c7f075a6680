-- The events of writers keep readers, primaries, and connections that are none of a pipeline.
use Rattle.std.proofs.Common.{◌≡◌, ◌<◌, ◌∷◌, ℕ, Bool, true, false, List, [], slice_get, Option, Some, None, IfSome, refl, sym, ap, ◌∙◌, subst, eqb-true}
use Rattle.std.specs.Prelude.{◌==◌, ◌&&◌, not, nat_lt, is_none}
use Rattle.hd_base.specs.declared.numbers.BlockId.{BlockId}
use Rattle.hd_base.specs.declared.numbers.ConnId.{ConnId}
use Rattle.hd_base.specs.declared.numbers.NodeId.{NodeId}
use Rattle.op_headers.specs.declared.ops.Op.{Op}
use Rattle.play_model.specs.WriterCore.Action.{Action}
use Rattle.play_model.specs.WriterCore.Action.TheVariants as action
use Rattle.play_model.specs.WriterCore.Phase.{Phase}
use Rattle.play_model.specs.WriterCore.Phase.TheVariants as phase
use Rattle.play_model.specs.WriterCore.Waiting.{Waiting}
use Rattle.play_model.specs.WriterCore.WriterRecord.{WriterRecord}
use Rattle.play_model.specs.WriterCore.Transitions.{given, own_step, dial_step, open_step, completed_step, granted, dialled, is_connected}
use Rattle.play_model.specs.WriterCore.Transitions as writer
use Rattle.play_model.specs.World.Event.{Event}
use Rattle.play_model.specs.World.Event.TheVariants as event
use Rattle.play_model.specs.World.TakenCommand.{TakenCommand}
use Rattle.play_model.specs.World.Parts.{packet, Upper, by_writer, Told, Writing}
use Rattle.play_model.specs.World.Worlds.{World, Change, apply}
use Rattle.play_model.specs.World.Connections.{Next, next_up, up_taken, is_conn}
use Rattle.play_model.specs.World.Clients.{writer_change, given_up, did, dialled_change, dialling, rest_in, is_empty, is_formed, ruled, command_bytes, takes_step, takes_command, writer_step, own_writer, writer_hears, writer_up}
use Rattle.play_model.specs.World.Primaries.{writer_asks, writer_asks_office}
use Rattle.play_model.specs.World.Events.{changed, outcome, after_event, happens, run, upper_up, up_as}
use Rattle.play_model.proofs.WorldLaws.FactTables.{if-each, when-each}
use Rattle.world_orders.specs.Orders.{Ordered, IsWriterConn}
use Rattle.play_model.specs.Dues.{Queues, own_events, action_of, acting, asking}
use Rattle.play_nodes.specs.Elsewhere.{KeepsElsewhere}
use Rattle.play_nodes.specs.Showing.{is_pipeline}
use Rattle.play_nodes.proofs.ElsewhereKeeping.{later, IsApart, StepKeeps, IsOther, AreOther, IsElse, still_kept, kept_then, sent_else, not_conn, changed_kept, after_kept, up_taken_kept, within_up, other_conn, all_kept}

-- WHAT A WRITER CHANGES

not_given : (e : ℕ) (x : Phase) (conn : Option ℕ) → IsOther e conn → given_up x conn e ≡ false
not_given e x conn other = if-each (λ (t : ℕ → Bool). t e ≡ false) (is_connected x) (λ _. false) (is_conn conn) (λ _. refl) (λ _. not_conn e conn other)

module _ (w : World) (p : ℕ → Type 0) (b : ℕ) (other : AreOther p (w.writers b).conn) where
  writer_of : (x : WriterRecord) → IsApart w p (writer_change w b x)
  writer_of x = record {
    dials = tt;
    reader = refl;
    primary = refl;
    lower = λ e at same. refl;
    downs = λ e at. refl;
    ups = λ e at. refl;
    shuts = λ e at. not_given e x.phase (w.writers b).conn (other e at);
  }

  did_of : (waits : Option Waiting) (a : Action) (x : WriterRecord) (bytes : List ℕ) → IfSome (did w b waits a x bytes) (IsApart w p)
  did_of waits action.Wait x bytes = tt
  did_of waits action.Took x bytes = record {
    dials = tt;
    reader = refl;
    primary = refl;
    lower = λ e at same. refl;
    downs = λ e at. refl;
    ups = λ e at. refl;
    shuts = λ e at. not_given e x.phase (w.writers b).conn (other e at);
  }
  did_of waits (action.Ask c) x bytes = tt
  did_of waits (action.Dial to r) x bytes = tt
  did_of waits (action.Send q) x bytes = record {
    dials = tt;
    reader = refl;
    primary = refl;
    lower = λ e at same. refl;
    downs = λ e at. sent_else e (w.writers b).conn (packet q ∷ []) (other e at);
    ups = λ e at. refl;
    shuts = λ e at. not_given e x.phase (w.writers b).conn (other e at);
  }
  did_of waits (action.Answered n a) x bytes = record {
    dials = tt;
    reader = refl;
    primary = refl;
    lower = λ e at same. refl;
    downs = λ e at. refl;
    ups = λ e at. refl;
    shuts = λ e at. not_given e x.phase (w.writers b).conn (other e at);
  }
  did_of waits action.Memory x bytes = tt

  dialled_of : (x : WriterRecord) (to : NodeId) (r : Op) (answered : Bool) → IsApart w p (dialled_change w b x to r answered)
  dialled_of x to r true = record { dials = (refl, tt); reader = refl; primary = refl; lower = λ e at same. refl; downs = λ e at. refl; ups = λ e at. refl; shuts = λ e at. refl }
  dialled_of x to r false = writer_of (dialled x false)

  dialling_of : (x : WriterRecord) (a : Action) (answered : Bool) → IsApart w p (dialling w b x a answered)
  dialling_of x action.Wait answered = writer_of x
  dialling_of x action.Took answered = writer_of x
  dialling_of x (action.Ask c) answered = writer_of x
  dialling_of x (action.Dial to r) answered = dialled_of x to r (answered && w.running to.0)
  dialling_of x (action.Send q) answered = writer_of x
  dialling_of x (action.Answered n a) answered = writer_of x
  dialling_of x action.Memory answered = writer_of x

  rest_of : (s : Phase) (x : WriterRecord) (answered : Bool) → IfSome (rest_in s w b x answered) (IsApart w p)
  rest_of phase.Closed x answered = writer_of x
  rest_of (phase.Wanted s) x answered = writer_of x
  rest_of (phase.Stamped s stamp) x answered = dialling_of x (dial_step x s stamp).action answered
  rest_of (phase.Requested s stamp) x answered = writer_of x
  rest_of (phase.Accepted s stamp) x answered = writer_of x
  rest_of phase.Opened x answered = did_of x.waiting (open_step x).action (open_step x).writer []
  rest_of (phase.Streaming sent) x answered = writer_of x
  rest_of phase.Closing x answered = writer_of x
  rest_of phase.Finished x answered = writer_of x
  rest_of phase.Completed x answered = did_of x.waiting (completed_step x).action (completed_step x).writer []
  rest_of (phase.Failed f) x answered = writer_of x

  takes_of : (waits : Option Waiting) (s : writer.Step) (bytes : List ℕ) → IfSome (takes_step w b waits s bytes) (IsApart w p)
  takes_of waits s bytes = when-each (IsApart w p) (is_empty s.writer.queue) _ (λ _. did_of waits s.action s.writer bytes)

  command_of : (x : WriterRecord) (t : TakenCommand) → IfSome (takes_command w b x t) (IsApart w p)
  command_of x t =
      let y = ruled x t.command t.rule in
      when-each (IsApart w p) (is_formed t.command t.rule && not (is_empty (given x t.command).queue)) _
      (λ _. takes_of y.waiting (own_step (given y t.command)) (command_bytes y t.command))

  step_of : (x : WriterRecord) (told : Option Told) (takes : Option TakenCommand) (answered : Bool) → IfSome (writer_step w b x told takes answered) (IsApart w p)
  step_of x (Some told) None answered = rest_of (granted x told).phase (granted x told) answered
  step_of x (Some told) (Some t) answered = tt
  step_of x None None answered = did_of x.waiting (own_step x).action (own_step x).writer []
  step_of x None (Some t) answered = command_of x t

  own_of : (takes : Option TakenCommand) (answered : Bool) → IfSome (own_writer w b takes answered) (IsApart w p)
  own_of takes answered = step_of (w.writers b).known (w.writers b).told takes answered

  up_of : (c : ℕ) (x : Next) → IfSome (writer_up w b c x) (IsApart w p)
  up_of c x = when-each (IsApart w p) (is_conn (w.writers b).conn c && is_none (w.writers b).told) _ (λ _. writer_of (writer_hears (w.writers b).known x))

-- THE OFFICE

-- A question to the office leaves these, and the connections of writers.
record Asks (w : World) (p : ℕ → Type 0) (k : Change) : Type 0 where
  apart : IsApart w p k
  conn : k.writer.conn ≡ (w.writers k.writer_at).conn

asks_of : (w : World) (p : ℕ → Type 0) (b : ℕ) (a : Action) → IfSome (writer_asks a w b) (Asks w p)
asks_of w p b (action.Ask c) = record {
  apart = record { dials = tt; reader = refl; primary = refl; lower = λ e at same. refl; downs = λ e at. refl; ups = λ e at. refl; shuts = λ e at. refl };
  conn = refl;
}
asks_of w p b action.Wait = tt
asks_of w p b action.Took = tt
asks_of w p b (action.Dial to r) = tt
asks_of w p b (action.Send q) = tt
asks_of w p b (action.Answered n a) = tt
asks_of w p b action.Memory = tt

office_of : (w : World) (p : ℕ → Type 0) (b : ℕ) → IfSome (writer_asks_office w b) (Asks w p)
office_of w p b = when-each (Asks w p) (is_none (w.writers b).told) _ (λ _. asks_of w p b (own_step (w.writers b).known).action)

-- What a question leaves.
record IsAsked (w v : World) (p : ℕ → Type 0) : Type 0 where
  kept : StepKeeps w v p
  conn : (b : ℕ) → (v.writers b).conn ≡ (w.writers b).conn

changed_asked : (w : World) (p : ℕ → Type 0) (o : Option Change) → ((e : ℕ) → p e → e < w.next_conn) → IfSome o (Asks w p) → IfSome (changed w o) (λ v. StepKeeps w v p)
changed_asked w p None before h = tt
changed_asked w p (Some k) before h = changed_kept w w p (Some k) before (still_kept w p) h.apart

conn_so : (w : World) (k : Change) (b : ℕ) → k.writer.conn ≡ (w.writers k.writer_at).conn → ((apply w k).writers b).conn ≡ (w.writers b).conn
unfolding apply
conn_so w k b h = if-each (λ (x : Writing). x.conn ≡ (w.writers b).conn) (b == k.writer_at) k.writer (w.writers b) (λ q. h ∙ ap (λ (n : ℕ). (w.writers n).conn) (sym (eqb-true b k.writer_at q))) (λ _. refl)

changed_conn : (w : World) (p : ℕ → Type 0) (o : Option Change) (b : ℕ) → IfSome o (Asks w p) → IfSome (changed w o) (λ v. (v.writers b).conn ≡ (w.writers b).conn)
changed_conn w p None b h = tt
changed_conn w p (Some k) b h = conn_so w k b h.conn

after_conn : (w : World) (x : Event) (o : Option World) (b : ℕ) → IfSome o (λ v. (v.writers b).conn ≡ (w.writers b).conn) → ((after_event w x o).writers b).conn ≡ (w.writers b).conn
after_conn w x None b h = refl
after_conn w x (Some v) b h = h

-- AFTER EVENTS

within_else : (w : World) (e : ℕ) → IsElse w e → e < w.next_conn
within_else w e at = at.0

module _ (w v : World) (b : ℕ) (grows : (e : ℕ) → IsElse w e → e < v.next_conn) (other : AreOther (IsElse w) (v.writers b).conn) where
  own_kept : (takes : Option TakenCommand) → StepKeeps v (happens v (acting b takes)) (IsElse w)
  unfolding happens outcome
  own_kept takes =
      after_kept v (IsElse w) (acting b takes) (outcome v (acting b takes))
      (changed_kept v v (IsElse w) (own_writer v b takes true) grows (still_kept v (IsElse w)) (own_of v (IsElse w) b other takes true))

office_kept : (w : World) (b : ℕ) → IsAsked w (happens w (asking b)) (IsElse w)
unfolding happens outcome
office_kept w b = record {
  kept = after_kept w (IsElse w) (asking b) (outcome w (asking b)) (changed_asked w (IsElse w) (writer_asks_office w b) (within_else w) (office_of w (IsElse w) b));
  conn = λ q. after_conn w (asking b) (outcome w (asking b)) q (changed_conn w (IsElse w) (writer_asks_office w b) q (office_of w (IsElse w) b));
}

module _ (w : World) (ordered : Ordered w) (b : ℕ) where
  conn_other : (n : Option ℕ) → IfSome n (λ c. IsWriterConn (w.dialled c) (w.up_marks c).taken b (w.writers b).known) → AreOther (IsElse w) n
  conn_other None h e at = tt
  conn_other (Some c) h e at = other_conn w ordered c (ap is_pipeline h.upper) e at

  -- the writer's connection is another one
  writer_other : AreOther (IsElse w) (w.writers b).conn
  writer_other = conn_other (w.writers b).conn (ordered.writers_are b)

  asked_kept : StepKeeps w (happens (happens w (asking b)) (acting b None)) (IsElse w)
  asked_kept =
      let h = office_kept w b in
      let v : World = happens w (asking b) in
      kept_then w v (happens v (acting b None)) (IsElse w) h.kept
      (own_kept w v b (λ e at. later e w.next_conn v.next_conn at.0 h.kept.grows)
      (subst (λ (n : Option ℕ). AreOther (IsElse w) n) (sym (h.conn b)) writer_other) None)

  acting_kept : (takes : Option TakenCommand) → StepKeeps w (happens w (acting b takes)) (IsElse w)
  acting_kept takes = own_kept w w b (within_else w) writer_other takes

  run_kept : (a : Action) (queue : List TakenCommand) → StepKeeps w (run w (own_events a b queue)) (IsElse w)
  run_kept action.Wait queue = acting_kept (slice_get queue 0)
  run_kept action.Took queue = acting_kept None
  run_kept (action.Ask c) queue = asked_kept
  run_kept (action.Dial to r) queue = acting_kept None
  run_kept (action.Send q) queue = acting_kept None
  run_kept (action.Answered n a) queue = acting_kept None
  run_kept action.Memory queue = acting_kept None

pub own_leaves : (w : World) (queues : Queues) (block : BlockId) → Ordered w → KeepsElsewhere w (run w (own_events (action_of w block) block.0 (queues block.0)))
own_leaves w queues block ordered =
    all_kept w (run w (own_events (action_of w block) block.0 (queues block.0)))
    (run_kept w ordered block.0 (action_of w block) (queues block.0))

-- WHAT A WRITER HEARS

same_conn : (w : World) (b c : ℕ) (x : Next) → ((up_taken w c x).writers b).conn ≡ (w.writers b).conn
unfolding up_taken
same_conn w b c x = refl

module _ (w : World) (ordered : Ordered w) (b c : ℕ) (is : (w.dialled c).upper ≡ by_writer b) where
  heard_as : (u : Upper) (x : Next) → u ≡ by_writer b → IfSome (changed (up_taken w c x) (upper_up u (up_taken w c x) c x false)) (λ v. StepKeeps w v (IsElse w))
  heard_as u x of =
      subst (λ (z : Upper). IfSome (changed (up_taken w c x) (upper_up z (up_taken w c x) c x false)) (λ v. StepKeeps w v (IsElse w))) (sym of)
      (changed_kept w (up_taken w c x) (IsElse w) (writer_up (up_taken w c x) b c x) (λ e at. within_up w e c x at.0) (up_taken_kept w (IsElse w) c x (other_conn w ordered c (ap is_pipeline is)))
      (up_of (up_taken w c x) (IsElse w) b (subst (λ (n : Option ℕ). AreOther (IsElse w) n) (sym (same_conn w b c x)) (writer_other w ordered b)) c x))

  heard_next : (o : Option Next) → IfSome (up_as w c false o) (λ v. StepKeeps w v (IsElse w))
  heard_next None = tt
  heard_next (Some x) = heard_as (w.dialled c).upper x is

heard_kept : (w : World) (conn : ConnId) (b : ℕ) → Ordered w → (w.dialled conn.0).upper ≡ by_writer b → StepKeeps w (happens w (event.Up conn)) (IsElse w)
unfolding happens outcome
heard_kept w conn b ordered is =
    after_kept w (IsElse w) (event.Up conn) (outcome w (event.Up conn))
    (when-each (λ v. StepKeeps w v (IsElse w)) (nat_lt conn.0 w.next_conn) (up_as w conn.0 false (next_up w conn.0)) (λ _. heard_next w ordered b conn.0 is (next_up w conn.0)))

pub heard_leaves : (w : World) (conn : ConnId) (b : ℕ) → Ordered w → (w.dialled conn.0).upper ≡ by_writer b → KeepsElsewhere w (happens w (event.Up conn))
heard_leaves w conn b ordered is = all_kept w (happens w (event.Up conn)) (heard_kept w conn b ordered is)
