-- A write on a data file fails: what is spent stays so.
use Rattle.std.proofs.Common.{◌≡◌, zero, suc, ℕ, ◌≤◌, ◌+◌, Bool, true, false, List, [], ◌∷◌, slice_get, option_map, Option, Some, None, IfSome, refl, sym, ap, ◌∙◌, subst, eqb-true, arith}
use Rattle.std.specs.Prelude.{◌==◌, ◌&&◌, not, nat_lt, nat_le, is_none, unwrap_or, if◌then◌else◌}
use Rattle.hd_base.specs.declared.numbers.ConnId.{ConnId}
use Rattle.world.specs.declared.events.Delivery.TheVariants as delivery
use Rattle.world.specs.declared.events.Event.{Event}
use Rattle.world.specs.declared.events.Event.TheVariants as event
use Rattle.world.specs.ReplicaModel.ReplicaEvent.{ReplicaEvent}
use Rattle.world.specs.MemberCore.Turn.{Turn}
use Rattle.world.specs.MemberCore.Members.{down_turn}
use Rattle.world.specs.MemberCore.Steps.{Step, faulted_step}
use Rattle.world.specs.Parts.{Message, Upper, by_writer, by_member, by_reader, by_primary, Place, Dialled, Marks, FullMember, Lower, idle, writes, serves, recovers, ended_below, Break, Writing, Reader, Primary, no_primary, was_told, leads, has_led}
use Rattle.world.specs.Worlds.{World, Dial, Change, put, apply, shut_marks}
use Rattle.world.specs.Connections.{Next, next_down, down_taken, is_conn, is_alive, is_served}
use Rattle.world.specs.Enabled.{takes_down, leads_from, listens_at, reads_from}
use Rattle.world.specs.Nodes.{node_of, replica_at, block_of, broke_at, above_of, member_change, failing_turn, turn_change, pending_at, takes_next, lower_down}
use Rattle.world.specs.Events.{changed, down_as, outcome, after_event, happens, run}
use Rattle.world_writes.specs.Writes.{has_grown, grows}
use Rattle.play_model.proofs.WorldLaws.FactTables.{if-each, when-each, and-left, and-right}
use Rattle.play_model.specs.declared.dues.Due.{Due}
use Rattle.play_model.specs.declared.dues.Due.TheVariants as due
use Rattle.play_model.specs.Dues.{Queues, is_open, is_due, due_events}
use Rattle.play_model.specs.Faults.{Faults, number_at, events_with, befall_events}
use Rattle.play_scripts.specs.PlayNodes.Showing.{has_events}
use Rattle.play_opening.specs.PlayDues.LiveConns.{LiveConns}
use Rattle.play_opening.specs.PlayDues.Live.{Covers}
use Rattle.play_opening.specs.PlayDues.Spent.{is_given_up, is_spent}
use Rattle.play_lines.proofs.SpentLemmas.{both, silent}

-- WHAT IS SPENT

-- No connection is dialled and no node stops; the lower ends of all others are as they were, and so are writers, readers and
-- primaries, and which ends were taken above.
record LeavesOthers (w v : World) (c : ℕ) : Type 0 where
  conns : v.next_conn ≡ w.next_conn
  dialled : (d : ℕ) → v.dialled d ≡ w.dialled d
  running : v.running ≡ w.running
  lives : v.lives ≡ w.lives
  lowers : (d : ℕ) → (d == c) ≡ false → v.lowers d ≡ w.lowers d
  writers : (b : ℕ) → v.writers b ≡ w.writers b
  readers : (n : ℕ) → v.readers n ≡ w.readers n
  primaries : (n : ℕ) → v.primaries n ≡ w.primaries n
  over : (d : ℕ) → (v.up_marks d).over ≡ (w.up_marks d).over

leaves_same : (w : World) (c : ℕ) → LeavesOthers w w c
leaves_same w c = record { conns = refl; dialled = λ d. refl; running = refl; lives = refl; lowers = λ d e. refl; writers = λ b. refl; readers = λ n. refl; primaries = λ n. refl; over = λ d. refl }

never : {A : Type 0} (b : Bool) → b ≡ true → not b ≡ true → A
never true e f = cc
never false e f = cc

module _ (w v : World) (c : ℕ) (h : LeavesOthers w v c) (has : has_events w c ≡ true) where
  alive_same : (p : Place) → is_alive v p ≡ is_alive w p
  alive_same p =
      ap (λ (r : ℕ → Bool). r p.node && v.lives p.node == p.life) h.running ∙ ap (λ (l : ℕ → ℕ). w.running p.node && l p.node == p.life) h.lives

  events_same : (d : ℕ) → (d == c) ≡ false → has_events v d ≡ has_events w d
  events_same d e =
      ap (λ (n : ℕ). (nat_lt d n && is_alive v (v.dialled d).to) && is_open (v.lowers d)) h.conns ∙
      (ap (λ (x : Dialled). (nat_lt d w.next_conn && is_alive v x.to) && is_open (v.lowers d)) (h.dialled d) ∙
      (ap (λ (b : Bool). (nat_lt d w.next_conn && b) && is_open (v.lowers d)) (alive_same (w.dialled d).to) ∙
      ap (λ (l : Lower). is_served w d && is_open l) (h.lowers d e)))

  no_events : (d : ℕ) → not (has_events w d) ≡ true → not (has_events v d) ≡ true
  no_events d none = by (d == c) refl
    where
      by : (b : Bool) → (d == c) ≡ b → not (has_events v d) ≡ true
      by true e = never (has_events w c) has (subst (λ (n : ℕ). not (has_events w n) ≡ true) (eqb-true d c e) none)
      by false e = ap not (events_same d e) ∙ none

  led_as : (place : ℕ) (p : Primary) → leads_from p v place ≡ leads_from p w place
  led_as place (leads l) = ap (λ (b : Bool). (b && is_none l.told) && listens_at l.state.phase (slice_get l.state.standings place)) (alive_same l.at)
  led_as place no_primary = refl
  led_as place (was_told b told) = refl
  led_as place (has_led result) = refl

  given_up : (d : ℕ) (u : Upper) → is_given_up w d u ≡ true → is_given_up v d u ≡ true
  given_up d (by_writer b) e = ap (λ (x : Writing). not (is_conn x.conn d)) (h.writers b) ∙ e
  given_up d (by_member above) e = no_events above e
  given_up d (by_reader n) e = ap (λ (x : Reader). not (reads_from x d)) (h.readers n) ∙ e
  given_up d (by_primary n place) e =
      silent (leads_from (w.primaries n) w place) (leads_from (v.primaries n) v place) (w.up_marks d).over (v.up_marks d).over
      (λ none. ap not (ap (λ (p : Primary). leads_from p v place) (h.primaries n) ∙ led_as place (w.primaries n)) ∙ none)
      (λ over. h.over d ∙ over) e

  spent_stays : (d : ℕ) → is_spent w d ≡ true → is_spent v d ≡ true
  spent_stays d spent =
      both (not (has_events w d)) (is_given_up w d (w.dialled d).upper) (not (has_events v d)) (is_given_up v d (v.dialled d).upper) (no_events d)
      (λ e. ap (λ (x : Dialled). is_given_up v d x.upper) (h.dialled d) ∙ given_up d (w.dialled d).upper e) spent

  covers_left : (live : LiveConns) → Covers w live → Covers v live
  covers_left live k = record {
    within = subst (λ (n : ℕ). live.known ≤ n) (sym h.conns) k.within;
    has = k.has;
    listed = k.listed;
    rest = λ d below out. spent_stays d (k.rest d below out);
  }

-- A MEMBER WHOSE BOOK FAILS

undialled : (d : Dialled) (later : Bool) → unwrap_or (option_map (λ (x : Dial). x.dialled) (if later then None else None)) d ≡ d
undialled d true = refl
undialled d false = refl

either_way : {A : Type 0} (b : Bool) (x : A) → (if b then x else x) ≡ x
either_way true x = refl
either_way false x = refl

put_back : {A : Type 0} (f : ℕ → A) (k j : ℕ) → put f k (f k) j ≡ f j
put_back f k j =
    if-each (λ x. x ≡ f j) (j == k) (f k) (f j) (λ e. ap f (sym (eqb-true j k e))) (λ e. refl)

shut_over : (shuts : Bool) (sent : List Message) (k : Marks) → (if shuts then shut_marks sent k else k).over ≡ k.over
shut_over true sent k = refl
shut_over false sent k = refl

none_more : (n : ℕ) → n + 0 ≡ n
none_more n = omega arith

module _ (w : World) (c : ℕ) (x : Next) where
  abbrev taken : World
  taken = down_taken w c x

  -- a member's change
  member_leaves : (m : FullMember) (s : Step) (b : Option Break) → LeavesOthers w (apply (down_taken w c x) (member_change (down_taken w c x) c m x s b)) c
  unfolding apply down_taken
  member_leaves m s b = record {
    conns = none_more w.next_conn;
    dialled = λ d. undialled (w.dialled d) (nat_le w.next_conn d);
    running = refl;
    lives = refl;
    lowers = λ d e. ap (λ (t : Bool). if t then writes (record m { state = s.member }) else w.lowers d) e;
    writers = λ n. put_back w.writers 0 n;
    readers = λ n. put_back w.readers 0 n;
    primaries = λ n. put_back w.primaries 0 n;
    over = λ d. shut_over _ _ (w.up_marks d);
  }

  turn_leaves : (m : FullMember) (t : Turn) (o : Option ReplicaEvent) → IfSome (changed (down_taken w c x) (failing_turn (down_taken w c x) c m x t o)) (λ v. LeavesOthers w v c)
  turn_leaves m t None = tt
  turn_leaves m t (Some e) = member_leaves m (faulted_step m.state (replica_at taken c (block_of m.fields)) t) (broke_at taken c (block_of m.fields) e)

  down_leaves : (m : FullMember) → IfSome (changed (down_taken w c x) (lower_down (writes m) (down_taken w c x) c x false true)) (λ v. LeavesOthers w v c)
  down_leaves m = by (takes_next m.state (pending_at taken c m) x)
    where
      t : Turn
      t = down_turn m.state (above_of x)

      by : (b : Bool) → IfSome (changed (down_taken w c x) (if b then turn_change (down_taken w c x) c m x t true else None)) (λ v. LeavesOthers w v c)
      by true = turn_leaves m t t.call
      by false = tt

module _ (w : World) (conn : ConnId) where
  abbrev failure : Event
  failure = event.Fault (delivery.Down conn)

  as_leaves : (m : FullMember) → w.lowers conn.0 ≡ writes m → (o : Option Next) → IfSome (down_as w conn.0 false true o) (λ v. LeavesOthers w v conn.0)
  as_leaves m is None = tt
  as_leaves m is (Some x) =
      subst (λ (l : Lower). IfSome (changed (down_taken w conn.0 x) (lower_down l (down_taken w conn.0 x) conn.0 x false true)) (λ v. LeavesOthers w v conn.0)) (sym is)
      (down_leaves w conn.0 x m)

  after_leaves : (o : Option World) → IfSome o (λ v. LeavesOthers w v conn.0) → LeavesOthers w (after_event w failure o) conn.0
  after_leaves None h = leaves_same w conn.0
  after_leaves (Some v) h = record { conns = h.conns; dialled = h.dialled; running = h.running; lives = h.lives; lowers = h.lowers; writers = h.writers; readers = h.readers; primaries = h.primaries; over = h.over }

  failure_leaves : (m : FullMember) → w.lowers conn.0 ≡ writes m → LeavesOthers w (happens w failure) conn.0
  unfolding happens outcome
  failure_leaves m is =
      after_leaves (outcome w failure)
      (when-each (λ v. LeavesOthers w v conn.0) (is_served w conn.0) (down_as w conn.0 false true (next_down w conn.0)) (λ _. as_leaves m is (next_down w conn.0)))

  -- only a member's replica grows
  grown_writes : grows w conn.0 ≡ true → (m : FullMember) × (w.lowers conn.0 ≡ writes m)
  unfolding grows
  grown_writes grown = by (w.lowers conn.0) refl grown
    where
      by : (l : Lower) → w.lowers conn.0 ≡ l → has_grown w (happens w (event.Down (record { 0 = conn.0 }) true)) conn.0 l ≡ true → (m : FullMember) × (w.lowers conn.0 ≡ writes m)
      by (writes m) is e = (m, is)
      by idle is e = cc
      by (serves b s) is e = cc
      by recovers is e = cc
      by ended_below is e = cc

  due_has : (queues : Queues) → is_due w queues (due.Down conn) ≡ true → has_events w conn.0 ≡ true
  due_has queues is =
      let takes : Bool = takes_down (w.lowers conn.0) w conn.0 (next_down w conn.0) in
      let served = and-right (is_open (w.lowers conn.0)) (is_served w conn.0 && takes) is in
      both_so (is_served w conn.0) (is_open (w.lowers conn.0)) (and-left (is_served w conn.0) takes served) (and-left (is_open (w.lowers conn.0)) (is_served w conn.0 && takes) is)
    where
      both_so : (a b : Bool) → a ≡ true → b ≡ true → (a && b) ≡ true
      both_so true b p q = q
      both_so false b p q = cc

  -- What covered a world covers the one in which a write failed.
  covers_failed : (queues : Queues) (live : LiveConns) → grows w conn.0 ≡ true → is_due w queues (due.Down conn) ≡ true → Covers w live → Covers (happens w failure) live
  covers_failed queues live grown is h =
      let m = grown_writes grown in
      covers_left w (happens w failure) conn.0 (failure_leaves m.0 m.1) (due_has queues is) live h

-- WHAT BEFALLS

module _ (w : World) (queues : Queues) (faults : Faults) (live : LiveConns) (covers : Covers w live) where
  down_covers : (conn : ConnId) → Covers (run w (due_events w queues (due.Down conn))) live → is_due w queues (due.Down conn) ≡ true → Covers (run w (befall_events w queues faults (due.Down conn))) live
  down_covers conn happens_so is = by (grows w conn.0) refl
    where
      number_covers : (n : ℕ) → grows w conn.0 ≡ true → Covers (run w (events_with n w queues (due.Down conn))) live
      number_covers zero grown = happens_so
      number_covers (suc zero) grown = covers_failed w conn queues live grown is covers
      number_covers (suc (suc n)) grown = happens_so

      by : (b : Bool) → grows w conn.0 ≡ b → Covers (run w (events_with (number_at faults (if b then Some (node_of w conn.0) else None)) w queues (due.Down conn))) live
      by true grown = number_covers (faults (node_of w conn.0)) grown
      by false still = happens_so

  -- What covers the world after what is due covers that after what befalls.
  pub covers_befallen : (d : Due) → Covers (run w (due_events w queues d)) live → is_due w queues d ≡ true → Covers (run w (befall_events w queues faults d)) live
  covers_befallen (due.Down conn) happens_so is = down_covers conn happens_so is
  covers_befallen (due.Own b) happens_so is = happens_so
  covers_befallen (due.Reader ask) happens_so is = happens_so
  covers_befallen (due.Primary rec) happens_so is = happens_so
  covers_befallen (due.Ready conn) happens_so is = happens_so
  covers_befallen (due.Up conn) happens_so is = happens_so
