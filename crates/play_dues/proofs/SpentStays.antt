-- Whatever is due keeps a connection spent.
use Rattle.std.proofs.Common.{◌≡◌, ◌<◌, ◌≤◌, ◌∷◌, ℕ, Bool, true, false, if◌then◌else◌, List, [], slice_get, Option, Some, None, Ok, Err, IfSome, refl, sym, ap, ◌∙◌, subst, eqb-true, lt-ltb, arith}
use Rattle.std.specs.Prelude.{◌==◌, ◌&&◌, not, nat_lt, is_some, is_none}
use Rattle.std.proofs.lemmas.Bool.Decides.{nat_tests}
use Rattle.hd_base.specs.declared.numbers.BlockId.{BlockId}
use Rattle.hd_base.specs.declared.numbers.ConnId.{ConnId}
use Rattle.hd_base.specs.declared.numbers.NodeId.{NodeId}
use Rattle.name_core.specs.declared.calls.OfficeAnswer.TheVariants as office
use Rattle.op_headers.specs.declared.ops.Op.{Op}
use Rattle.op_headers.specs.declared.ops.ReadOp.{ReadOp}
use Rattle.world.specs.ReadCore.ReadTurn.{ReadTurn}
use Rattle.world.specs.ReadCore.ReadTurn.TheVariants as turn
use Rattle.world.specs.ReadCore.Readings.{ReadingState, ReadTaken, take_from}
use Rattle.recovery_core.specs.declared.primary.OwnStep.{OwnStep}
use Rattle.recovery_core.specs.declared.primary.OwnStep.TheVariants as step
use Rattle.recovery_core.specs.declared.standings.Standing.{Standing}
use Rattle.recovery_core.specs.Primaries.{PrimaryState, heard_at}
use Rattle.recovery_core.specs.Primaries as recovery
use Rattle.writer_core.specs.declared.actions.Action.{Action}
use Rattle.writer_core.specs.declared.actions.Action.TheVariants as action
use Rattle.writer_core.specs.declared.phases.Phase.{Phase}
use Rattle.writer_core.specs.declared.phases.Phase.TheVariants as phase
use Rattle.writer_core.specs.declared.phases.Waiting.{Waiting}
use Rattle.writer_core.specs.declared.records.WriterRecord.{WriterRecord}
use Rattle.writer_core.specs.Transitions.{given, own_step, dial_step, open_step, completed_step, granted, dialled, is_connected}
use Rattle.writer_core.specs.Transitions as writer
use Rattle.world.specs.MemberCore.Members.{hears}
use Rattle.world.specs.declared.events.Event.{Event}
use Rattle.world.specs.declared.events.Event.TheVariants as event
use Rattle.world.specs.declared.events.TakenCommand.{TakenCommand}
use Rattle.world.specs.Parts.{Message, Upper, by_writer, by_member, by_reader, by_primary, Dialled, Marks, FullMember, Lower, idle, writes, serves, recovers, ended_below, Reader, no_reader, reads, has_read, Place, Told, Leading, Primary, no_primary, was_told, leads, has_led, Writing}
use Rattle.world.specs.Worlds.{World, Change, put, apply}
use Rattle.world.specs.Connections.{Next, message, the_end, marks_taken, next_down, next_up, down_taken, up_taken, is_conn, is_alive, is_served, place_of}
use Rattle.world.specs.Clients.{are_members, writer_change, did, dialled_change, dialling, rest_in, is_empty, is_formed, ruled, command_bytes, takes_step, takes_command, writer_step, own_writer, writer_hears, writer_up, from_node_of, reader_dials, own_reader_as, own_reader, reader_turn, reader_up_as, reader_up}
use Rattle.world.specs.Enabled.{takes_down, acts_below, leads_from, listens_at, reads_from, takes_above, hears_mirror}
use Rattle.world.specs.Events.{changed, outcome, after_event, happens, run, down_as, upper_up, up_as}
use Rattle.world.specs.Nodes.{lower_down, lower_ready, mirror_up}
use Rattle.world.specs.Primaries.{begins_as, begins_at, commits_step, heard_of, hears_change, leads_step, leads_told, listens, own_primary, own_primary_as, own_recover, primary_asks, primary_commits, primary_up, primary_up_as, writer_asks, writer_asks_office}
use Rattle.play_model.specs.WorldLaws.Placing.{IsUpper, Placed}
use Rattle.play_model.proofs.WorldLaws.FactTables.{if-each, when-each, and-left, and-right}
use Rattle.play_model.proofs.WorldLaws.GrowthLaws.{apply-grows}
use Rattle.play_reads.specs.WorldNets.Nets.{is_over}
use Rattle.play_reads.proofs.WorldNets.StepLemmas.{changed-over}
use Rattle.play_clients.specs.WorldOrders.Open.{OpenEnds}
use Rattle.play_clients.proofs.WorldOrders.OpenFrame.{IsOpenMirror, below-over, mirror-over, LowerOpens}
use Rattle.play_clients.proofs.WorldOrders.OpenLowers.{lower-down-opens, lower-ready-opens, mirror-up-opens}
use Rattle.play_reads.proofs.WorldSettling.PrimaryAsides.{Aside, lower-down-aside, lower-ready-aside, mirror-up-aside}
use Rattle.play_reads.proofs.WorldSettling.ReaderNodeAsides.{Stays, lower-down-stays, lower-ready-stays, mirror-up-stays}
use Rattle.play_model.specs.declared.asks.ReadAsk.{ReadAsk}
use Rattle.play_model.specs.declared.dues.Due.{Due}
use Rattle.play_model.specs.declared.dues.Due.TheVariants as due
use Rattle.play_model.specs.declared.recoveries.Recovery.{Recovery}
use Rattle.play_model.specs.Asks.{request_of, asking_node}
use Rattle.play_model.specs.Recoveries.{all_answered, begins_so, goes_on, leads_events, primary_events}
use Rattle.play_model.specs.Recoveries as model
use Rattle.play_model.specs.Dues.{Queues, is_open, is_open_above, is_due, due_events, own_events, action_of, acting, asking}
use Rattle.play_reads.specs.PlayNodes.Dues.{IsOrderly}
use Rattle.play_reads.specs.PlayNodes.Showing.{has_events}
use Rattle.play_reads.specs.PlayPrimaries.Dues.{ArePlaced}
use Rattle.play_dues.specs.Spent.{is_given_up, is_spent}
use Rattle.play_dues.proofs.GoneLaws.{true_false, IsDeaf, own_deaf, heard_deaf, Gone, gone_from, gone_false, gone_in, never_told, deaf_gone, deaf_from}

-- TESTS

pub not_so : (b : Bool) → not b ≡ true → b ≡ false
not_so true h = cc
not_so false h = refl

both_so : (a b : Bool) → a ≡ true → b ≡ true → (a && b) ≡ true
both_so true b p q = q
both_so false b p q = cc

below_so : (a b : ℕ) → a < b → (a == b) ≡ false
below_so a b h = grind (arith, nat_tests, h)

above_so : (a b : ℕ) → a < b → (b == a) ≡ false
above_so a b h = grind (arith, nat_tests, h)

-- WHAT A WORLD KEEPS OF ANOTHER

-- What has no further events has none later, no writer has a connection again that it had no more, no reader reads over one
-- again that it read over no more, no primary takes from a place again from which it took no more, and an end that was taken
-- stays so.
pub record Keeps (w v : World) : Type 0 where
  pub grows : w.next_conn ≤ v.next_conn
  pub dialled : (c : ℕ) → c < w.next_conn → v.dialled c ≡ w.dialled c
  pub ended : (c : ℕ) → c < w.next_conn → has_events w c ≡ false → has_events v c ≡ false
  pub given_up : (b c : ℕ) → c < w.next_conn → is_conn (w.writers b).conn c ≡ false → is_conn (v.writers b).conn c ≡ false
  pub read_over : (line c : ℕ) → c < w.next_conn → reads_from (w.readers line) c ≡ false → reads_from (v.readers line) c ≡ false
  pub led : (number place : ℕ) → Gone (w.primaries number) w place → Gone (v.primaries number) v place
  pub over : (c : ℕ) → is_over w c false ≡ true → is_over v c false ≡ true

keeps_same : (w : World) → Keeps w w
keeps_same w = record { grows = omega arith; dialled = λ c lt. refl; ended = λ c lt e. e; given_up = λ b c lt e. e; read_over = λ line c lt e. e; led = λ number place g. g; over = λ c e. e }

keeps_then : (w u v : World) → Keeps w u → Keeps u v → Keeps w v
keeps_then w u v h k = record {
  grows = omega (arith, h.grows, k.grows);
  dialled = λ c lt. k.dialled c (omega (arith, lt, h.grows)) ∙ h.dialled c lt;
  ended = λ c lt e. k.ended c (omega (arith, lt, h.grows)) (h.ended c lt e);
  given_up = λ b c lt e. k.given_up b c (omega (arith, lt, h.grows)) (h.given_up b c lt e);
  read_over = λ line c lt e. k.read_over line c (omega (arith, lt, h.grows)) (h.read_over line c lt e);
  led = λ number place g. k.led number place (h.led number place g);
  over = λ c e. k.over c (h.over c e);
}

-- the world names its last event
named : (w v : World) (e : Event) → Keeps w v → Keeps w (record v { last = Some e })
named w v e h = record { grows = h.grows; dialled = h.dialled; ended = h.ended; given_up = h.given_up; read_over = h.read_over; led = λ number place g. gone_in (v.primaries number) v (record v { last = Some e }) place (λ at. refl) (h.led number place g); over = h.over }

down_kept : (w : World) (c : ℕ) (x : Next) → Keeps w (down_taken w c x)
unfolding down_taken
down_kept w c x = record {
  grows = omega arith;
  dialled = λ d lt. refl;
  ended = λ d lt e. e;
  given_up = λ b d lt e. e;
  read_over = λ line d lt e. e;
  led = λ number place g. gone_in (w.primaries number) w (down_taken w c x) place (λ at. refl) g;
  over = λ d e. e;
}

still_taken : (k : Marks) (x : Next) → k.over ≡ true → (marks_taken k x).over ≡ true
still_taken k (message m) e = e
still_taken k the_end e = refl

up_kept : (w : World) (c : ℕ) (x : Next) → Keeps w (up_taken w c x)
unfolding up_taken
up_kept w c x = record {
  grows = omega arith;
  dialled = λ d lt. refl;
  ended = λ d lt e. e;
  given_up = λ b d lt e. e;
  read_over = λ line d lt e. e;
  led = λ number place g. gone_in (w.primaries number) w (up_taken w c x) place (λ at. refl) g;
  over = λ d e.
      if-each (λ (m : Marks). m.over ≡ true) (d == c) (marks_taken (w.up_marks c) x) (w.up_marks d)
      (λ q. still_taken (w.up_marks c) x (subst (λ (n : ℕ). (w.up_marks n).over ≡ true) (eqb-true d c q) e))
      (λ _. e);
}

led_over : (led over : Bool) → over ≡ true → (led && not over) ≡ false
led_over true true e = refl
led_over false true e = refl
led_over led false e = cc

led_open : (led over : Bool) → over ≡ false → (led && not over) ≡ false → led ≡ false
led_open true false e h = h
led_open false over e h = refl
led_open led true e h = cc

-- A connection that is spent stays so.
pub spent_on : (w v : World) → Placed w → ArePlaced w → Keeps w v → (c : ℕ) → c < w.next_conn → is_spent w c ≡ true → is_spent v c ≡ true
spent_on w v placed primaries k c lt is =
    let u : Upper = (w.dialled c).upper in
    let over : has_events w c ≡ false = not_so (has_events w c) (and-left (not (has_events w c)) (is_given_up w c u) is) in
    both_so (not (has_events v c)) (is_given_up v c (v.dialled c).upper) (ap not (k.ended c lt over))
    (subst (λ (d : Dialled). is_given_up v c d.upper ≡ true) (sym (k.dialled c lt)) (by u refl (and-right (not (has_events w c)) (is_given_up w c u) is)))
  where
    silent : (i place : ℕ) → (w.dialled c).upper ≡ by_primary i place → (leads_from (w.primaries i) w place && not (is_over w c false)) ≡ false → (q : Bool) → is_over w c false ≡ q → (leads_from (v.primaries i) v place && not (is_over v c false)) ≡ false
    silent i place e h true over = led_over (leads_from (v.primaries i) v place) (is_over v c false) (k.over c over)
    silent i place e h false still =
        let gone : Gone (w.primaries i) w place = gone_from (w.primaries i) w c place (primaries c i place lt e) (led_open (leads_from (w.primaries i) w place) (is_over w c false) still h) in
        ap (λ (b : Bool). b && not (is_over v c false)) (gone_false (v.primaries i) v place (k.led i place gone))

    by : (u : Upper) → (w.dialled c).upper ≡ u → is_given_up w c u ≡ true → is_given_up v c u ≡ true
    by (by_writer b) e h = ap not (k.given_up b c lt (not_so (is_conn (w.writers b).conn c) h))
    by (by_member d) e h = ap not (k.ended d (subst (λ (u : Upper). IsUpper w.next_conn u) e (placed.dialled c lt).upper) (not_so (has_events w d) h))
    by (by_reader i) e h = ap not (k.read_over i c lt (not_so (reads_from (w.readers i) c) h))
    by (by_primary i place) e h = ap not (silent i place e (not_so (leads_from (w.primaries i) w place && not (is_over w c false)) h) (is_over w c false) refl)

-- CHANGES

-- A change leaves each lower end that has no further events, gives no writer and no reader a connection again, and lets no
-- primary take from a place again.
record Spares (w : World) (k : Change) : Type 0 where
  lower : has_events w k.lower_at ≡ false → k.lower ≡ w.lowers k.lower_at
  writer : (c : ℕ) → c < w.next_conn → is_conn (w.writers k.writer_at).conn c ≡ false → is_conn k.writer.conn c ≡ false
  reader : (c : ℕ) → c < w.next_conn → reads_from (w.readers k.reader_at) c ≡ false → reads_from k.reader c ≡ false
  primary : (place : ℕ) → Gone (w.primaries k.primary_at) w place → Gone k.primary w place

still_over : (t t' a o : Bool) → t ≡ true → ((t && a) && o) ≡ false → ((t' && a) && o) ≡ false
still_over true true a o p e = e
still_over true false a o p e = refl
still_over false t' a o p e = cc

ended_after : (w : World) (k : Change) → Spares w k → (c : ℕ) → c < w.next_conn → has_events w c ≡ false → has_events (apply w k) c ≡ false
unfolding apply
ended_after w k s c lt e =
    let within : Bool = nat_lt c (apply w k).next_conn in
    let alive : Bool = is_alive w (w.dialled c).to in
    let same : ((within && alive) && is_open (w.lowers c)) ≡ false = still_over (nat_lt c w.next_conn) within alive (is_open (w.lowers c)) (lt-ltb c w.next_conn lt) e in
    subst (λ (d : Dialled). ((within && is_alive w d.to) && is_open (put w.lowers k.lower_at k.lower c)) ≡ false) (sym ((apply-grows w k).dialled c lt))
    (if-each (λ (l : Lower). ((within && alive) && is_open l) ≡ false) (c == k.lower_at) k.lower (w.lowers c)
    (λ q.
    let at : c ≡ k.lower_at = eqb-true c k.lower_at q in
    subst (λ (l : Lower). ((within && alive) && is_open l) ≡ false) (ap w.lowers at ∙ sym (s.lower (subst (λ (n : ℕ). has_events w n ≡ false) at e))) same)
    (λ _. same))

led_after : (w : World) (k : Change) → Spares w k → (number place : ℕ) → Gone (w.primaries number) w place → Gone ((apply w k).primaries number) (apply w k) place
unfolding apply
led_after w k s number place g =
    gone_in (put w.primaries k.primary_at k.primary number) w (apply w k) place (λ at. refl)
    (if-each (λ (x : Primary). Gone x w place) (number == k.primary_at) k.primary (w.primaries number)
    (λ q. s.primary place (subst (λ (n : ℕ). Gone (w.primaries n) w place) (eqb-true number k.primary_at q) g))
    (λ _. g))

change_kept : (w : World) (k : Change) → Spares w k → Keeps w (apply w k)
unfolding apply
change_kept w k s = record {
  grows = omega arith;
  dialled = λ c lt. (apply-grows w k).dialled c lt;
  ended = λ c lt e. ended_after w k s c lt e;
  given_up = λ b c lt e.
      if-each (λ (x : Writing). is_conn x.conn c ≡ false) (b == k.writer_at) k.writer (w.writers b)
      (λ q. s.writer c lt (subst (λ (n : ℕ). is_conn (w.writers n).conn c ≡ false) (eqb-true b k.writer_at q) e))
      (λ _. e);
  read_over = λ line c lt e.
      if-each (λ (x : Reader). reads_from x c ≡ false) (line == k.reader_at) k.reader (w.readers line)
      (λ q. s.reader c lt (subst (λ (n : ℕ). reads_from (w.readers n) c ≡ false) (eqb-true line k.reader_at q) e))
      (λ _. e);
  led = led_after w k s;
  over = λ c e. changed-over w k c false ∙ e;
}

changed_kept : (w v : World) (o : Option Change) → Keeps w v → IfSome o (Spares v) → IfSome (changed v o) (Keeps w)
changed_kept w v None h s = tt
changed_kept w v (Some k) h s = keeps_then w v (apply v k) h (change_kept v k s)

after_kept : (w : World) (e : Event) (o : Option World) → IfSome o (Keeps w) → Keeps w (after_event w e o)
after_kept w e None h = keeps_same w
after_kept w e (Some v) h = named w v e h

-- WHAT A WRITER DOES

as_so : (t : Bool) (o : Option ℕ) (c : ℕ) → is_conn o c ≡ false → is_conn (if t then o else None) c ≡ false
as_so true o c e = e
as_so false o c e = refl

module _ (w : World) (b : ℕ) where
  keeps_conn : (x : WriterRecord) (c : ℕ) → is_conn (w.writers b).conn c ≡ false → is_conn (if is_connected x.phase then (w.writers b).conn else None) c ≡ false
  keeps_conn x c e = as_so (is_connected x.phase) (w.writers b).conn c e

  writer_of : (x : WriterRecord) → Spares w (writer_change w b x)
  writer_of x = record { lower = λ e. refl; writer = λ c lt e. keeps_conn x c e; reader = λ d lt e. e; primary = λ place g. g }

  did_of : (waits : Option Waiting) (a : Action) (x : WriterRecord) (bytes : List ℕ) → IfSome (did w b waits a x bytes) (Spares w)
  did_of waits action.Wait x bytes = tt
  did_of waits action.Took x bytes = record { lower = λ e. refl; writer = λ c lt e. keeps_conn x c e; reader = λ d lt e. e; primary = λ place g. g }
  did_of waits (action.Ask c) x bytes = tt
  did_of waits (action.Dial to r) x bytes = tt
  did_of waits (action.Send p) x bytes = record { lower = λ e. refl; writer = λ c lt e. keeps_conn x c e; reader = λ d lt e. e; primary = λ place g. g }
  did_of waits (action.Answered n a) x bytes = record { lower = λ e. refl; writer = λ c lt e. keeps_conn x c e; reader = λ d lt e. e; primary = λ place g. g }
  did_of waits action.Memory x bytes = tt

  -- a connection that is dialled has a new number
  dialled_of : (x : WriterRecord) (to : NodeId) (r : Op) (answered : Bool) → Spares w (dialled_change w b x to r answered)
  dialled_of x to r true = record { lower = λ e. refl; writer = λ c lt e. below_so c w.next_conn lt; reader = λ d lt e. e; primary = λ place g. g }
  dialled_of x to r false = writer_of (dialled x false)

  dialling_of : (x : WriterRecord) (a : Action) (answered : Bool) → Spares w (dialling w b x a answered)
  dialling_of x action.Wait answered = writer_of x
  dialling_of x action.Took answered = writer_of x
  dialling_of x (action.Ask c) answered = writer_of x
  dialling_of x (action.Dial to r) answered = dialled_of x to r (answered && w.running to.0)
  dialling_of x (action.Send p) answered = writer_of x
  dialling_of x (action.Answered n a) answered = writer_of x
  dialling_of x action.Memory answered = writer_of x

  rest_of : (p : Phase) (x : WriterRecord) (answered : Bool) → IfSome (rest_in p w b x answered) (Spares w)
  rest_of phase.Closed x answered = writer_of x
  rest_of (phase.Wanted s) x answered = writer_of x
  rest_of (phase.Stamped s stamp) x answered = dialling_of x (dial_step x s stamp).action answered
  rest_of (phase.Requested s stamp) x answered = writer_of x
  rest_of (phase.Accepted s stamp) x answered = writer_of x
  rest_of phase.Opened x answered = did_of x.waiting (open_step x).action (open_step x).writer []
  rest_of (phase.Streaming sent) x answered = writer_of x
  rest_of phase.Closing x answered = writer_of x
  rest_of phase.Finished x answered = writer_of x
  rest_of phase.Completed x answered = did_of x.waiting (completed_step x).action (completed_step x).writer []
  rest_of (phase.Failed f) x answered = writer_of x

  takes_of : (waits : Option Waiting) (s : writer.Step) (bytes : List ℕ) → IfSome (takes_step w b waits s bytes) (Spares w)
  takes_of waits s bytes = when-each (Spares w) (is_empty s.writer.queue) _ (λ _. did_of waits s.action s.writer bytes)

  command_of : (x : WriterRecord) (t : TakenCommand) → IfSome (takes_command w b x t) (Spares w)
  command_of x t =
      let y = ruled x t.command t.rule in
      when-each (Spares w) (is_formed t.command t.rule && not (is_empty (given x t.command).queue)) _
      (λ _. takes_of y.waiting (own_step (given y t.command)) (command_bytes y t.command))

  step_of : (x : WriterRecord) (told : Option Told) (takes : Option TakenCommand) (answered : Bool) → IfSome (writer_step w b x told takes answered) (Spares w)
  step_of x (Some told) None answered = rest_of (granted x told).phase (granted x told) answered
  step_of x (Some told) (Some t) answered = tt
  step_of x None None answered = did_of x.waiting (own_step x).action (own_step x).writer []
  step_of x None (Some t) answered = command_of x t

  own_of : (takes : Option TakenCommand) (answered : Bool) → IfSome (own_writer w b takes answered) (Spares w)
  own_of takes answered = step_of (w.writers b).known (w.writers b).told takes answered

  -- it asks the office
  asks_of : (a : Action) → IfSome (writer_asks a w b) (Spares w)
  asks_of (action.Ask c) = record { lower = λ e. refl; writer = λ d lt e. e; reader = λ d lt e. e; primary = λ place g. g }
  asks_of action.Wait = tt
  asks_of action.Took = tt
  asks_of (action.Dial to r) = tt
  asks_of (action.Send p) = tt
  asks_of (action.Answered n a) = tt
  asks_of action.Memory = tt

  office_of : IfSome (writer_asks_office w b) (Spares w)
  office_of = when-each (Spares w) (is_none (w.writers b).told) _ (λ _. asks_of (own_step (w.writers b).known).action)

  -- it hears something
  hears_of : (c : ℕ) (x : Next) → IfSome (writer_up w b c x) (Spares w)
  hears_of c x = when-each (Spares w) (is_conn (w.writers b).conn c && is_none (w.writers b).told) _ (λ _. writer_of (writer_hears (w.writers b).known x))

own_kept : (w : World) (b : ℕ) (takes : Option TakenCommand) → Keeps w (happens w (acting b takes))
unfolding happens outcome
own_kept w b takes = after_kept w (acting b takes) (outcome w (acting b takes)) (changed_kept w w (own_writer w b takes true) (keeps_same w) (own_of w b takes true))

office_kept : (w : World) (b : ℕ) → Keeps w (happens w (asking b))
unfolding happens outcome
office_kept w b = after_kept w (asking b) (outcome w (asking b)) (changed_kept w w (writer_asks_office w b) (keeps_same w) (office_of w b))

steps_kept : (w : World) (b : ℕ) (a : Action) (queue : List TakenCommand) → Keeps w (run w (own_events a b queue))
steps_kept w b action.Wait queue = own_kept w b (slice_get queue 0)
steps_kept w b action.Took queue = own_kept w b None
steps_kept w b (action.Ask c) queue = keeps_then w (happens w (asking b)) (happens (happens w (asking b)) (acting b None)) (office_kept w b) (own_kept (happens w (asking b)) b None)
steps_kept w b (action.Dial to r) queue = own_kept w b None
steps_kept w b (action.Send p) queue = own_kept w b None
steps_kept w b (action.Answered n a) queue = own_kept w b None
steps_kept w b action.Memory queue = own_kept w b None

-- WHAT THE OTHERS DO

some_all : {A : Type 0} (P Q R S : A → Type 0) (o : Option A) → ((x : A) → P x → Q x → R x → S x) → IfSome o P → IfSome o Q → IfSome o R → IfSome o S
some_all P Q R S None f h k l = tt
some_all P Q R S (Some x) f h k l = f x h k l

stays_over : (w : World) (k : Change) → Stays w k → (c : ℕ) → reads_from (w.readers k.reader_at) c ≡ false → reads_from k.reader c ≡ false
stays_over w k s c e = subst (λ (x : Reader). reads_from x c ≡ false) (sym s.reader) e

lower_spares : (w : World) (c : ℕ) (k : Change) → has_events w c ≡ true → LowerOpens w c k → Stays w k → Aside w k → Spares w k
lower_spares w c k h s r a = record {
  lower = λ e. absurd (true_false (has_events w c) h (subst (λ (n : ℕ). has_events w n ≡ false) s.at_is e));
  writer = λ d lt e. subst (λ (x : Writing). is_conn x.conn d ≡ false) (sym s.writer_same) e;
  reader = λ d lt e. stays_over w k r d e;
  primary = λ place g. subst (λ (x : Primary). Gone x w place) (sym a.primary) g;
}

-- A reader asks its node, over a connection that has a new number.
dials_spares : (w : World) (i n : ℕ) (read : ReadOp) (answered : Bool) → Spares w (reader_dials w i n read answered)
dials_spares w i n read true = record { lower = λ e. refl; writer = λ d lt e. e; reader = λ d lt e. above_so d w.next_conn lt; primary = λ place g. g }
dials_spares w i n read false = record { lower = λ e. refl; writer = λ d lt e. e; reader = λ d lt e. refl; primary = λ place g. g }

own_reader_spares : (x : Reader) (w : World) (i n : ℕ) (read : ReadOp) (answered : Bool) → IfSome (own_reader_as x w i n read answered) (Spares w)
own_reader_spares no_reader w i n read answered = dials_spares w i n read (answered && w.running n)
own_reader_spares (reads c s) w i n read answered = tt
own_reader_spares (has_read b) w i n read answered = tt

reader_kept : (w : World) (ask : ReadAsk) → Keeps w (happens w (asking_node ask true))
unfolding happens outcome
reader_kept w ask =
    after_kept w (asking_node ask true) (outcome w (asking_node ask true))
    (changed_kept w w (own_reader w ask.reader ask.node.0 (request_of ask) true) (keeps_same w) (own_reader_spares (w.readers ask.reader) w ask.reader ask.node.0 (request_of ask) true))

-- It hears something over the connection over which it reads: it reads on over it, or has read.
turn_spares : (w : World) (i c d : ℕ) (s : ReadingState) (t : ReadTaken) (does : ReadTurn) → w.readers i ≡ reads d s → d ≡ c → Spares w (reader_turn w i c t does)
turn_spares w i c d s t turn.Goes is same = record {
  lower = λ e. refl;
  writer = λ k lt e. e;
  reader = λ k lt e. subst (λ (n : ℕ). (n == k) ≡ false) same (subst (λ (x : Reader). reads_from x k ≡ false) is e);
  primary = λ place g. g;
}
turn_spares w i c d s t turn.Verified is same = record { lower = λ e. refl; writer = λ k lt e. e; reader = λ k lt e. refl; primary = λ place g. g }
turn_spares w i c d s t (turn.Fails f) is same = record { lower = λ e. refl; writer = λ k lt e. e; reader = λ k lt e. refl; primary = λ place g. g }

reader_up_spares : (x : Reader) (w : World) (i c : ℕ) (n : Next) → w.readers i ≡ x → IfSome (reader_up_as x w i c n) (Spares w)
reader_up_spares no_reader w i c n is = tt
reader_up_spares (reads d s) w i c n is =
    let t : ReadTaken = take_from s (from_node_of n) in
    when-each (Spares w) (d == c) _ (λ same. turn_spares w i c d s t t.does is (eqb-true d c same))
reader_up_spares (has_read b) w i c n is = tt

-- WHAT A PRIMARY DOES

-- It hasn't begun: nothing is said of a place from which it takes nothing.
abbrev IsNew : World → ℕ → Type 0
IsNew w i = (place : ℕ) → Gone (w.primaries i) w place → ⊥

new_so : (w : World) (i : ℕ) (p : Primary) → w.primaries i ≡ p → ((place : ℕ) → Gone p w place → ⊥) → IsNew w i
new_so w i p is never place g = never place (subst (λ (x : Primary). Gone x w place) is g)

begins_spares : (t : Told) (w : World) (i : ℕ) (at : Place) (b : BlockId) (members : List NodeId) (answers : List Bool) → IsNew w i → IfSome (begins_as t w i at b members answers) (Spares w)
begins_spares (Ok (office.Stamp s)) w i at b members answers new = tt
begins_spares (Ok (office.Reopened r)) w i at b members answers new = tt
begins_spares (Ok (office.Begun begun)) w i at b members answers new = record { lower = λ e. refl; writer = λ d lt e. e; reader = λ d lt e. e; primary = λ place g. absurd (new place g) }
begins_spares (Ok office.Nothing) w i at b members answers new = tt
begins_spares (Err fault) w i at b members answers new = record { lower = λ e. refl; writer = λ d lt e. e; reader = λ d lt e. e; primary = λ place g. absurd (new place g) }

begins_at_spares : (p : Primary) (w : World) (i n : ℕ) (b : BlockId) (members : List NodeId) (answers : List Bool) → w.primaries i ≡ p → IfSome (begins_at p w i n b members answers) (Spares w)
begins_at_spares no_primary w i n b members answers is = tt
begins_at_spares (was_told asked told) w i n b members answers is =
    when-each (Spares w) (asked.0 == b.0 && w.running n && are_members members) (begins_as told w i (place_of w n) b members answers)
    (λ _. begins_spares told w i (place_of w n) b members answers (new_so w i (was_told asked told) is (λ place g. g)))
begins_at_spares (leads l) w i n b members answers is = tt
begins_at_spares (has_led r) w i n b members answers is = tt

-- it asks the office
commits_spares : (s : OwnStep) (w : World) (i : ℕ) (l : Leading) → IfSome (primary_commits s w i l) (Spares w)
commits_spares step.Waits w i l = tt
commits_spares (step.Updates c) w i l = tt
commits_spares (step.Commits c) w i l = record { lower = λ e. refl; writer = λ d lt e. e; reader = λ d lt e. e; primary = λ place g. never_told (is_alive w l.at) (listens_at l.state.phase (slice_get l.state.standings place)) }
commits_spares (step.Ends r) w i l = tt

asks_spares : (p : Primary) (w : World) (i : ℕ) (b : BlockId) → w.primaries i ≡ p → IfSome (primary_asks p w i b) (Spares w)
asks_spares no_primary w i b is = record { lower = λ e. refl; writer = λ d lt e. e; reader = λ d lt e. e; primary = λ place g. absurd (new_so w i no_primary is (λ q h. h) place g) }
asks_spares (was_told c t) w i b is = tt
asks_spares (leads l) w i b is = when-each (Spares w) (is_alive w l.at && is_none l.told) _ (λ _. commits_spares (recovery.own_step l.state).does w i l)
asks_spares (has_led r) w i b is = tt

-- its further steps
module _ (w : World) (i : ℕ) (l : Leading) (is : w.primaries i ≡ leads l) where
  gone_so : (place : ℕ) → Gone (w.primaries i) w place → Gone (leads l) w place
  gone_so place g = subst (λ (x : Primary). Gone x w place) is g

  steps_spares : (s : OwnStep) (p : PrimaryState) → ((place : ℕ) → Gone (leads l) w place → IsDeaf p place) → IfSome (leads_step s w i l p) (Spares w)
  steps_spares step.Waits p deaf = tt
  steps_spares (step.Updates c) p deaf = record { lower = λ e. refl; writer = λ d lt e. e; reader = λ d lt e. e; primary = λ place g. deaf_gone w l place p (deaf place (gone_so place g)) }
  steps_spares (step.Commits c) p deaf = tt
  steps_spares (step.Ends r) p deaf = record { lower = λ e. refl; writer = λ d lt e. e; reader = λ d lt e. e; primary = λ place g. tt }

  told_spares : (s : OwnStep) (t : Told) → IfSome (commits_step s w i l t) (Spares w)
  told_spares step.Waits t = tt
  told_spares (step.Updates c) t = tt
  told_spares (step.Commits c) t = record { lower = λ e. refl; writer = λ d lt e. e; reader = λ d lt e. e; primary = λ place g. tt }
  told_spares (step.Ends r) t = tt

  leads_spares : (t : Option Told) → l.told ≡ t → is_alive w l.at ≡ true → IfSome (leads_told t w i l) (Spares w)
  leads_spares None none alive =
      steps_spares (recovery.own_step l.state).does (recovery.own_step l.state).primary
      (λ place g. own_deaf l.state place (deaf_from w l place (both_so (is_alive w l.at) (is_none l.told) alive (ap (λ (t : Option Told). is_none t) none)) g))
  leads_spares (Some told) is_told alive = told_spares (recovery.own_step l.state).does told

  -- it hears something from a member to which it listens
  hears_spares : (place c : ℕ) (x : Next) (o : Option Standing) → slice_get l.state.standings place ≡ o → (is_alive w l.at && is_none l.told) ≡ true → IfSome (hears_change w i l place c x o) (Spares w)
  hears_spares place c x None at takes = tt
  hears_spares place c x (Some s) at takes =
      when-each (Spares w) (listens l.state.phase s) _
      (λ listening. record {
        lower = λ e. refl;
        writer = λ d lt e. e;
        reader = λ d lt e. e;
        primary = λ q g. deaf_gone w l q (heard_at l.state place (heard_of x)) (heard_deaf l.state place q (heard_of x) s at listening (deaf_from w l q takes (gone_so q g)));
      })

own_primary_spares : (p : Primary) (w : World) (i : ℕ) → w.primaries i ≡ p → IfSome (own_primary_as p w i) (Spares w)
own_primary_spares no_primary w i is = tt
own_primary_spares (was_told b t) w i is = tt
own_primary_spares (leads l) w i is = when-each (Spares w) (is_alive w l.at) _ (λ alive. leads_spares w i l is l.told refl alive)
own_primary_spares (has_led r) w i is = tt

primary_up_spares : (p : Primary) (w : World) (i place c : ℕ) (x : Next) → w.primaries i ≡ p → IfSome (primary_up_as p w i place c x) (Spares w)
primary_up_spares no_primary w i place c x is = tt
primary_up_spares (was_told b t) w i place c x is = tt
primary_up_spares (leads l) w i place c x is =
    when-each (Spares w) (is_alive w l.at && is_none l.told) _ (λ takes. hears_spares w i l is place c x (slice_get l.state.standings place) refl takes)
primary_up_spares (has_led r) w i place c x is = tt

asks_kept : (w : World) (r : Recovery) → Keeps w (happens w (model.primary_asks r))
unfolding happens outcome
asks_kept w r =
    after_kept w (model.primary_asks r) (outcome w (model.primary_asks r)) (changed_kept w w (primary_asks (w.primaries r.primary) w r.primary r.block) (keeps_same w) (asks_spares (w.primaries r.primary) w r.primary r.block refl))

begins_kept : (w : World) (r : Recovery) (answers : List Bool) → Keeps w (happens w (begins_so r answers))
unfolding happens outcome
begins_kept w r answers =
    after_kept w (begins_so r answers) (outcome w (begins_so r answers))
    (changed_kept w w (own_recover w r.primary r.node.0 r.block r.members answers) (keeps_same w) (begins_at_spares (w.primaries r.primary) w r.primary r.node.0 r.block r.members answers refl))

goes_kept : (w : World) (r : Recovery) → Keeps w (happens w (goes_on r))
unfolding happens outcome
goes_kept w r = after_kept w (goes_on r) (outcome w (goes_on r)) (changed_kept w w (own_primary w r.primary) (keeps_same w) (own_primary_spares (w.primaries r.primary) w r.primary refl))

recovers_kept : (w : World) (r : Recovery) → Keeps w (run w (model.primary_asks r ∷ (begins_so r (all_answered r.members) ∷ [])))
recovers_kept w r =
    let u : World = happens w (model.primary_asks r) in
    keeps_then w u (happens u (begins_so r (all_answered r.members))) (asks_kept w r) (begins_kept u r (all_answered r.members))

leading_kept : (s : OwnStep) (w : World) (r : Recovery) → Keeps w (run w (leads_events s r))
leading_kept step.Waits w r = goes_kept w r
leading_kept (step.Updates c) w r = goes_kept w r
leading_kept (step.Ends e) w r = goes_kept w r
leading_kept (step.Commits c) w r =
    let u : World = happens w (model.primary_asks r) in
    keeps_then w u (happens u (goes_on r)) (asks_kept w r) (goes_kept u r)

primary_kept : (p : Primary) (w : World) (r : Recovery) → Keeps w (run w (primary_events p r))
primary_kept no_primary w r = recovers_kept w r
primary_kept (was_told b t) w r = recovers_kept w r
primary_kept (leads l) w r = leading_kept (recovery.own_step l.state).does w r
primary_kept (has_led e) w r = recovers_kept w r

-- a message leaves every end as it was
message_over : (k : Marks) (x : Next) (y : Message) → x ≡ message y → k.over ≡ (marks_taken k x).over
message_over k (message m) y e = refl
message_over k the_end y e = cc

put_over : (marks : ℕ → Marks) (c : ℕ) (x : Marks) → (marks c).over ≡ x.over → (d : ℕ) → (marks d).over ≡ (put marks c x d).over
put_over marks c x e d = if-each (λ (m : Marks). (marks d).over ≡ m.over) (d == c) x (marks d) (λ q. ap (λ (n : ℕ). (marks n).over) (eqb-true d c q) ∙ e) (λ q. refl)

module _ (w : World) (opens : OpenEnds w) (placed : Placed w) where
  mirror_opens : (d : ℕ) → IsOpenMirror w.up_marks (w.lowers d)
  mirror_opens d = by (w.lowers d) refl
    where
      conns : (m : FullMember) (o : Option ℕ) → w.lowers d ≡ writes m → m.mirror ≡ o → IfSome o (λ c. hears m.state ≡ true → (w.up_marks c).over ≡ false)
      conns m None e is = tt
      conns m (Some c) e is = λ heard. opens.mirrors d c m e is heard

      by : (l : Lower) → w.lowers d ≡ l → IsOpenMirror w.up_marks l
      by idle e = tt
      by (writes m) e = conns m m.mirror e refl
      by (serves b s) e = tt
      by recovers e = tt
      by ended_below e = tt

  fresh : (w.up_marks w.next_conn).over ≡ false
  fresh = ap (λ (m : Marks). m.over) (placed.undialled w.next_conn (omega arith)).up_marks

  down_next : (c : ℕ) (answered : Bool) (o : Option Next) → has_events w c ≡ true → IfSome (down_as w c answered false o) (Keeps w)
  unfolding down_taken
  down_next c answered None h = tt
  down_next c answered (Some x) h =
      let v : World = down_taken w c x in
      changed_kept w v (lower_down (w.lowers c) v c x answered false) (down_kept w c x)
      (some_all (LowerOpens v c) (Stays v) (Aside v) (Spares v) (lower_down (w.lowers c) v c x answered false) (λ k s. lower_spares v c k h s)
      (lower-down-opens v c (w.lowers c) x answered false
      (λ y e. below-over (w.lowers c) _ _ (put_over w.down_marks c (marks_taken (w.down_marks c) x) (message_over (w.down_marks c) x y e) c) (opens.below c))
      (mirror_opens c) fresh)
      (lower-down-stays (w.lowers c) v c x answered false) (lower-down-aside (w.lowers c) v c x answered false))

  down_keeps : (conn : ConnId) (answered : Bool) → has_events w conn.0 ≡ true → Keeps w (happens w (event.Down conn answered))
  unfolding happens outcome
  down_keeps conn answered h =
      after_kept w (event.Down conn answered) (outcome w (event.Down conn answered))
      (when-each (Keeps w) (is_served w conn.0) (down_as w conn.0 answered false (next_down w conn.0)) (λ _. down_next conn.0 answered (next_down w conn.0) h))

  ready_keeps : (conn : ConnId) → has_events w conn.0 ≡ true → Keeps w (happens w (event.Ready conn))
  unfolding happens outcome
  ready_keeps conn h =
      let c : ℕ = conn.0 in
      after_kept w (event.Ready conn) (outcome w (event.Ready conn))
      (when-each (Keeps w) (is_served w c) (changed w (lower_ready (w.lowers c) w c false))
      (λ _. changed_kept w w (lower_ready (w.lowers c) w c false) (keeps_same w)
      (some_all (LowerOpens w c) (Stays w) (Aside w) (Spares w) (lower_ready (w.lowers c) w c false) (λ k s. lower_spares w c k h s)
      (lower-ready-opens w c (w.lowers c) false (opens.below c) (mirror_opens c))
      (lower-ready-stays (w.lowers c) w c false) (lower-ready-aside (w.lowers c) w c false))))

  -- the upper end may still take: a member has further events
  abbrev MayTake : Upper → Type 0
  MayTake (by_member d) = has_events w d ≡ true
  MayTake other = Unit {0}

  up_some : (c : ℕ) (x : Next) (u : Upper) → MayTake u → IfSome (changed (up_taken w c x) (upper_up u (up_taken w c x) c x false)) (Keeps w)
  unfolding up_taken
  up_some c x (by_writer b) h =
      let v : World = up_taken w c x in
      changed_kept w v (writer_up v b c x) (up_kept w c x) (hears_of v b c x)
  up_some c x (by_member d) h =
      let v : World = up_taken w c x in
      changed_kept w v (mirror_up (w.lowers d) v d x false) (up_kept w c x)
      (some_all (LowerOpens v d) (Stays v) (Aside v) (Spares v) (mirror_up (w.lowers d) v d x false) (λ k s. lower_spares v d k h s)
      (mirror-up-opens v d (w.lowers d) x false (opens.below d)
      (λ y e. mirror-over w.up_marks v.up_marks (w.lowers d) (put_over w.up_marks c (marks_taken (w.up_marks c) x) (message_over (w.up_marks c) x y e)) (mirror_opens d)))
      (mirror-up-stays (w.lowers d) v d x false) (mirror-up-aside (w.lowers d) v d x false))
  up_some c x (by_reader i) h =
      let v : World = up_taken w c x in
      changed_kept w v (reader_up v i c x) (up_kept w c x) (reader_up_spares (v.readers i) v i c x refl)
  up_some c x (by_primary i place) h =
      let v : World = up_taken w c x in
      changed_kept w v (primary_up v i place c x) (up_kept w c x) (primary_up_spares (v.primaries i) v i place c x refl)

  up_next : (c : ℕ) (o : Option Next) → MayTake (w.dialled c).upper → IfSome (up_as w c false o) (Keeps w)
  up_next c None h = tt
  up_next c (Some x) h = up_some c x (w.dialled c).upper h

  up_keeps : (conn : ConnId) → MayTake (w.dialled conn.0).upper → Keeps w (happens w (event.Up conn))
  unfolding happens outcome
  up_keeps conn h =
      after_kept w (event.Up conn) (outcome w (event.Up conn))
      (when-each (Keeps w) (nat_lt conn.0 w.next_conn) (up_as w conn.0 false (next_up w conn.0)) (λ _. up_next conn.0 (next_up w conn.0) h))

  -- WHAT IS DUE

  lower_has : (c : ℕ) (x : Bool) → (is_open (w.lowers c) && (is_served w c && x)) ≡ true → has_events w c ≡ true
  lower_has c x is =
      both_so (is_served w c) (is_open (w.lowers c)) (and-left (is_served w c) x (and-right (is_open (w.lowers c)) (is_served w c && x) is)) (and-left (is_open (w.lowers c)) (is_served w c && x) is)

  below_from : (a b : ℕ) → nat_lt a b ≡ true → a < b
  below_from a b h = grind (arith, nat_tests, h)

  alive_from : (l : Lower) (d : ℕ) → hears_mirror l w d ≡ true → is_alive w (w.dialled d).to ≡ true
  alive_from (writes m) d h = and-left (is_alive w (w.dialled d).to) (hears m.state) h
  alive_from idle d h = cc
  alive_from (serves b s) d h = cc
  alive_from recovers d h = cc
  alive_from ended_below d h = cc

  may_take : (c : ℕ) (x : Bool) (u : Upper) → (w.dialled c).upper ≡ u → (is_open_above w u && ((nat_lt c w.next_conn && x) && takes_above u w c)) ≡ true → MayTake u
  may_take c x (by_member d) e is =
      let within : nat_lt c w.next_conn && x ≡ true = and-left (nat_lt c w.next_conn && x) (hears_mirror (w.lowers d) w d) (and-right (is_open (w.lowers d)) ((nat_lt c w.next_conn && x) && hears_mirror (w.lowers d) w d) is) in
      let heard : hears_mirror (w.lowers d) w d ≡ true = and-right (nat_lt c w.next_conn && x) (hears_mirror (w.lowers d) w d) (and-right (is_open (w.lowers d)) ((nat_lt c w.next_conn && x) && hears_mirror (w.lowers d) w d) is) in
      let known : d < w.next_conn = subst (λ (u : Upper). IsUpper w.next_conn u) e (placed.dialled c (below_from c w.next_conn (and-left (nat_lt c w.next_conn) x within))).upper in
      both_so (nat_lt d w.next_conn && is_alive w (w.dialled d).to) (is_open (w.lowers d))
      (both_so (nat_lt d w.next_conn) (is_alive w (w.dialled d).to) (lt-ltb d w.next_conn known) (alive_from (w.lowers d) d heard))
      (and-left (is_open (w.lowers d)) ((nat_lt c w.next_conn && x) && hears_mirror (w.lowers d) w d) is)
  may_take c x (by_writer b) e is = tt
  may_take c x (by_reader i) e is = tt
  may_take c x (by_primary i place) e is = tt

pub due_keeps : (w : World) (queues : Queues) (d : Due) → IsOrderly w → is_due w queues d ≡ true → Keeps w (run w (due_events w queues d))
due_keeps w queues (due.Own b) h is = steps_kept w b.0 (action_of w b) (queues b.0)
due_keeps w queues (due.Reader ask) h is = reader_kept w ask
due_keeps w queues (due.Primary r) h is = primary_kept (w.primaries r.primary) w r
due_keeps w queues (due.Down c) h is = down_keeps w h.open_ends h.placed c true (lower_has w h.open_ends h.placed c.0 (takes_down (w.lowers c.0) w c.0 (next_down w c.0)) is)
due_keeps w queues (due.Ready c) h is = ready_keeps w h.open_ends h.placed c (lower_has w h.open_ends h.placed c.0 (acts_below (w.lowers c.0) w c.0) is)
due_keeps w queues (due.Up c) h is = up_keeps w h.open_ends h.placed c (may_take w h.open_ends h.placed c.0 (is_some (next_up w c.0)) (w.dialled c.0).upper refl is)
