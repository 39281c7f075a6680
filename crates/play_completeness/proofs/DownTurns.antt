-- A member that acts takes what stands next from above: a packet that is the next one.
use Rattle.std.proofs.Common.{◌≡◌, ℕ, suc, ◌<◌, ◌+◌, Bool, true, false, List, [], ◌∷◌, drop, slice_get, Option, Some, None, IfSome, Ok, refl, sym, ◌∙◌, ap, subst, arith, eqb-true}
use Rattle.std.specs.Prelude.{◌==◌, ◌&&◌, not, nat_lt, if◌then◌else◌, option_map}
use Rattle.std.proofs.lemmas.Bool.{false≢true}
use Rattle.std.proofs.lemmas.Bool.Decides.{nat_tests}
use Rattle.std.proofs.lemmas.Option.{none-some}
use Rattle.hd_base.specs.SumRules.{Rule}
use Rattle.op_headers.specs.Values.{WriteFields}
use Rattle.packet_codec.specs.declared.packets.Packet.{Packet}
use Rattle.replica_core.specs.declared.events.Answer.TheVariants as answer
use Rattle.replica_core.specs.declared.info.ReplicaInfo.{ReplicaInfo}
use Rattle.replica_core.specs.declared.records.ReplicaRecord.{ReplicaRecord}
use Rattle.replica_core.specs.declared.ack_queue.TheConstants.{MAX_PENDING}
use Rattle.replica_core.specs.Transitions.{Outcome, record_after, reply, answer_of, extend, transition}
use Rattle.replica_model.specs.declared.events.ReplicaEvent.{ReplicaEvent}
use Rattle.replica_model.specs.declared.events.ReplicaEvent.TheVariants as replica_event
use Rattle.replica_model.specs.Rows.{FullReplica, row, event_at}
use Rattle.member_core.specs.declared.effects.Shuts.TheVariants as shuts
use Rattle.member_core.specs.declared.inputs.FromAbove.TheVariants as above
use Rattle.member_core.specs.declared.member.Mirror.{Mirror}
use Rattle.member_core.specs.declared.member.Mirror.TheVariants as mirror
use Rattle.member_core.specs.declared.turns.Booked.{Booked}
use Rattle.member_core.specs.Members.{MemberState, no_effect, has_mirror, down_turn, is_waiting, hears, takes_messages, settled}
use Rattle.member_core.specs.Steps.{Step, booked_as, with_replica, step}
use Rattle.world.specs.declared.events.Event.{Event}
use Rattle.world.specs.declared.events.Event.TheVariants as event
use Rattle.world.specs.Parts.{Message, request, packet, ack, response, read_status, recovery_answer, by_member, Marks, FullMember, Lower, writes, Break}
use Rattle.world.specs.Worlds.{World, put, apply, start}
use Rattle.world.specs.Connections.{Next, message, the_end, ends_at, next_on, marks_taken, next_down, down_taken, is_served, is_conn}
use Rattle.world.specs.Nodes.{node_of, block_of, passed, member_change, turn_change, pending_at, member_down, lower_down}
use Rattle.world.specs.Events.{changed, down_as, down_event, outcome, after_event, happens, run}
use Rattle.world_laws.specs.Carrying.{MemberSays, LowerSays}
use Rattle.world_laws.specs.Placing.{Placed, IsLower}
use Rattle.world_laws.proofs.AllCarried.{all-carried}
use Rattle.world_laws.proofs.FactTables.{and-left, and-right, when-each}
use Rattle.world_laws.proofs.PlacedLaws.{all-placed}
use Rattle.world_laws.proofs.StampGivens.{put-here}
use Rattle.world_orders.specs.Orders.{is_packet, HasHeard, IsMirror, MirrorIs, Ordered}
use Rattle.world_orders.specs.Takes.{TakesInOrder}
use Rattle.world_orders.proofs.AllOrdered.{all-ordered, next-found}
use Rattle.world_orders.proofs.Frame.{marked}
use Rattle.world_orders.proofs.Takes.{takes-in-order}
use Rattle.play_model.specs.Dues.{is_open}
use Rattle.play_completeness.specs.Plain.{IsOwn, Peaceful}
use Rattle.play_completeness.specs.Streams.{packets_in, reach_in, IsNext, Leads, as_pending}
use Rattle.play_completeness.specs.Links.{packets_left, reach_above, ReachFits, MirrorFits, WritesWell, MemberWell, LowerWell, Carries, Link, InPipeline, Links}
use Rattle.play_completeness.specs.Turning.{PacketsKeepLinks}
use Rattle.play_completeness.proofs.Peace.{all-peaceful}
use Rattle.play_completeness.proofs.Rows.{IsWritten, stream_with, packet-taken}
use Rattle.play_completeness.proofs.Turned.{Turned, other-kept}
use Rattle.play_completeness.proofs.TurnWorld.{named, Takes, turned-by, down-taken-at, up-taken-at}
use Rattle.play_completeness.proofs.PacketTurn.{drop-found, own-kept, grows}
use Rattle.play_completeness.proofs.PacketMirror.{mirror-kept}
use Rattle.play_completeness.proofs.Pipelines.{piped-before, writing-in, dialled-in}

-- THE MEMBER'S STEP

-- what a member makes of a packet that its replica takes
abbrev taken_step : MemberState → FullReplica → Packet → Step
taken_step m r p = record { member = m; replica = row r (replica_event.Packet m.conn p); effect = record no_effect { forwards = has_mirror m.mirror } }

packet-step : (m : MemberState) (r : FullReplica) (p : Packet) (k : ReplicaRecord) → transition r.known (event_at r (replica_event.Packet m.conn p)) ≡ Ok (record { replica = k; answer = answer.Done })
    → step m r (down_turn m (above.Packet p)) ≡ taken_step m r p
packet-step m r p k e =
    ap (λ (b : Booked). with_replica (row r (replica_event.Packet m.conn p)) (settled m (down_turn m (above.Packet p)) b)) (ap (λ (o : Outcome). booked_as (answer_of (reply o))) e)

row-known : (r : FullReplica) (e : ReplicaEvent) (k : ReplicaRecord) → transition r.known (event_at r e) ≡ Ok (record { replica = k; answer = answer.Done }) → (row r e).known ≡ k
row-known r e k q = ap (record_after r.known) q

-- MARKS

put-off : (f : ℕ → Marks) (i : ℕ) (x : Marks) (j : ℕ) → (j == i) ≡ false → put f i x j ≡ f j
put-off f i x j e = ap (λ (b : Bool). if b then x else f j) e

pub same-marks : (f : ℕ → Marks) (at : ℕ → Bool) → Takes f f at
same-marks f at = record { end = λ c. refl; taken = λ c _. refl }

pub one-taken : (f : ℕ → Marks) (d : ℕ) (y : Message) → Takes f (put f d (marks_taken (f d) (message y))) (λ c. c == d)
one-taken f d y = record {
  end = λ c. go c (c == d) refl;
  taken = λ c other. ap (λ (k : Marks). k.taken) (put-off f d (marks_taken (f d) (message y)) c other);
}
  where
    go : (c : ℕ) (b : Bool) → (c == d) ≡ b → (put f d (marks_taken (f d) (message y)) c).end ≡ (f c).end
    go c false e = ap (λ (k : Marks). k.end) (put-off f d (marks_taken (f d) (message y)) c e)
    go c true e =
        let one : c ≡ d = eqb-true c d e in
        subst (λ (n : ℕ). (put f d (marks_taken (f d) (message y)) n).end ≡ (f n).end) (sym one) (ap (λ (k : Marks). k.end) (put-here f d (marks_taken (f d) (message y))))

-- a message stands next where no end stands
pub no-end : (sent : List Message) (k : Marks) → k.end ≡ None → next_on sent k ≡ Some the_end → ⊥
no-end sent k none e = go k.over (slice_get sent k.taken) (sym (ap (λ (o : Option ℕ). if k.over then None else (if ends_at o k.taken then Some the_end else option_map message (slice_get sent k.taken))) none) ∙ e)
  where
    go : (over : Bool) (o : Option Message) → (if over then None else option_map message o) ≡ Some the_end → ⊥
    go true o q = cc
    go false None q = cc
    go false (Some y) q = cc

-- A PACKET AT A MEMBER

module _ (w : World) (o : Ordered w) (takes : TakesInOrder w) (placed : Placed w) (h : Peaceful w) (says : (c : ℕ) → LowerSays w.past c (w.lowers c)) (links : Links w)
    (d : ℕ) (m : FullMember) (lt : InPipeline w d) (is : w.lowers d ≡ writes m) (opened : is_open (writes m) ≡ true) where
  abbrev R : FullReplica
  R = w.replicas (node_of w d) (block_of m.fields)

  well : MemberWell w d (links d lt).fields (links d lt).rule m
  well = subst (λ (x : Lower). LowerWell w d (links d lt).fields (links d lt).rule x) is (links d lt).lower

  responds : m.state.responds ≡ true
  responds = and-right m.state.receives m.state.responds opened

  pub written : WritesWell d (links d lt).fields (links d lt).rule R
  written = subst (λ (f : WriteFields). WritesWell d (links d lt).fields (links d lt).rule (w.replicas (node_of w d) (block_of f))) (sym well.fields_are) (well.acts responds).writes

  pub is-written : IsWritten R.known m.state.conn
  is-written =
      let own : IsOwn written.info = subst (λ (q : Option ReplicaInfo). IfSome q IsOwn) written.is (h.own (node_of w d) (block_of m.fields)) in
      let said : MemberSays w.past d m = subst (λ (x : Lower). LowerSays w.past d x) is (says d) in
      record {
        whole = h.sound (node_of w d) (block_of m.fields);
        info = written.info;
        is = written.is;
        rbw = written.rbw;
        free = own.free;
        stream = written.stream;
        written = written.written;
        by = written.conn ∙ sym said.conn;
      }

  -- the packet that stands next is the next one
  next-one : (p : Packet) → slice_get (w.downs d) (w.down_marks d).taken ≡ Some (packet p) → IsNext is-written.info.sums (reach_in R.known) p
  unfolding is-written written
  next-one p found =
      let l : Link w d = links d lt in
      let acts : is_open (w.lowers d) ≡ true = ap is_open is ∙ opened in
      let old : Carries w d l.fields l.rule (w.dialled d).upper (writes m) = subst (λ (x : Lower). Carries w d l.fields l.rule (w.dialled d).upper x) is (l.carries (l.live acts)) in
      let left : packets_left w d ≡ p ∷ packets_in (drop (suc (w.down_marks d).taken) (w.downs d)) = ap packets_in (drop-found (w.downs d) (w.down_marks d).taken (packet p) found) in
      let leads : Leads l.rule (reach_in R.known) (packets_left w d) (reach_above w (w.dialled d).upper) =
      subst (λ (b : Bool). ReachFits l.rule (reach_in R.known) (packets_left w d) (reach_above w (w.dialled d).upper) (not b)) opened old.reaches in
      subst (λ (z : Rule). IsNext z (reach_in R.known) p) (sym written.rule_is)
      (subst (λ (ps : List Packet). Leads l.rule (reach_in R.known) ps (reach_above w (w.dialled d).upper)) left leads).0

  -- the mirror's connection
  pub mirror-of : (c : ℕ) → m.mirror ≡ Some c → IsMirror (w.dialled c) (w.up_marks c).taken d c m.state
  mirror-of c at =
      let mirrors : MirrorIs w.dialled w.up_marks d (writes m) = subst (λ (y : Lower). MirrorIs w.dialled w.up_marks d y) is (o.mirrors d) in
      subst (λ (y : Option ℕ). IfSome y (λ n. IsMirror (w.dialled n) (w.up_marks n).taken d n m.state)) at mirrors

  pub mirror-known : (c : ℕ) → m.mirror ≡ Some c → InPipeline w c
  mirror-known c at =
      let low : IsLower w.next_conn (writes m) = subst (λ (y : Lower). IsLower w.next_conn y) is (placed.lowers d) in
      dialled-in w c (by_member d) (mirror-of c at).upper refl (subst (λ (y : Option ℕ). IfSome y (λ n. n < w.next_conn)) at low.below)

  pub mirror-other : (c : ℕ) → m.mirror ≡ Some c → (c == d) ≡ false
  mirror-other c at = let l : d < c = (mirror-of c at).later in grind (arith, nat_tests, l)

  pub off-own : is_conn m.mirror d ≡ false
  off-own = go m.mirror refl
    where
      go : (q : Option ℕ) → m.mirror ≡ q → is_conn q d ≡ false
      go None e = refl
      go (Some c) e = let l : d < c = (mirror-of c e).later in grind (arith, nat_tests, l)

  -- a member past its setup that has a mirror's connection hears it
  open-mirror : (z : Mirror) (c : ℕ) → MirrorFits (links d lt).fields m z → m.mirror ≡ Some c → is_waiting z ≡ false → z ≡ mirror.Open
  open-mirror mirror.Nobody c fits at e = absurd (none-some c (sym fits.1 ∙ at))
  open-mirror mirror.Asked c fits at e = absurd (false≢true (sym e))
  open-mirror mirror.Open c fits at e = refl
  open-mirror mirror.Unreachable c fits at e = absurd fits
  open-mirror mirror.Ended c fits at e = absurd fits

  heard-some : (c : ℕ) → m.mirror ≡ Some c → m.state.mirror ≡ mirror.Open → 0 < (w.up_marks c).taken
  heard-some c at z =
      let hear : hears m.state ≡ true = rw (responds, z) refl in
      subst (λ (y : Mirror). HasHeard y (w.up_marks c).taken) z ((mirror-of c at).heard hear)

  -- THE WORLD AFTER IT

  module _ (p : Packet) (found : slice_get (w.downs d) (w.down_marks d).taken ≡ Some (packet p)) (answered : is_waiting m.state.mirror ≡ false) (e : Event) (b : Option Break) where
    abbrev dm : ℕ → Marks
    dm = put w.down_marks d (marks_taken (w.down_marks d) (message (packet p)))

    abbrev v : World
    v = named e (apply (marked w dm w.up_marks) (member_change (marked w dm w.up_marks) d m (message (packet p)) (taken_step m.state R p) b))

    turned : Turned w v d m m.state (row R (replica_event.Packet m.state.conn p)) (passed (has_mirror m.state.mirror) (message (packet p))) [] shuts.Nothing
    turned = turned-by w d m (message (packet p)) (taken_step m.state R p) b e dm w.up_marks (one-taken w.down_marks d (packet p)) (same-marks w.up_marks (is_conn m.mirror))

    grown : (row R (replica_event.Packet m.state.conn p)).known ≡ extend R.known is-written.info (stream_with is-written.stream p) (as_pending p)
    grown = row-known R (replica_event.Packet m.state.conn p) _ (packet-taken R m.state.conn is-written p (next-one p found))

    one-more : (v.down_marks d).taken ≡ suc (w.down_marks d).taken
    one-more =
        let a : (v.down_marks d).taken ≡ (dm d).taken = down-taken-at w d m (message (packet p)) (taken_step m.state R p) b e dm w.up_marks (one-taken w.down_marks d (packet p)) (same-marks w.up_marks (is_conn m.mirror)) d in
        let c : (dm d).taken ≡ (w.down_marks d).taken + 1 = ap (λ (k : Marks). k.taken) (put-here w.down_marks d (marks_taken (w.down_marks d) (message (packet p)))) in
        omega (arith, a, c)

    own : Link v d
    own = own-kept w v o placed links d m lt is responds (row R (replica_event.Packet m.state.conn p)) (passed (has_mirror m.state.mirror) (message (packet p))) turned off-own answered p found one-more is-written.info is-written.is is-written.stream is-written.written grown

    mirrors : (c : ℕ) → m.mirror ≡ Some c → Link v c
    mirrors c at =
        let z : m.state.mirror ≡ mirror.Open = open-mirror m.state.mirror c (well.acts responds).mirror at answered in
        mirror-kept w v o placed links d m lt is responds (row R (replica_event.Packet m.state.conn p)) (passed (has_mirror m.state.mirror) (message (packet p))) turned p
        (grows w v o placed links d m lt is responds (row R (replica_event.Packet m.state.conn p)) (passed (has_mirror m.state.mirror) (message (packet p))) turned off-own answered p found one-more is-written.info is-written.is is-written.stream is-written.written grown)
        c at (mirror-known c at) (mirror-other c at) (mirror-of c at).upper (heard-some c at z)
        (up-taken-at w d m (message (packet p)) (taken_step m.state R p) b e dm w.up_marks (one-taken w.down_marks d (packet p)) (same-marks w.up_marks (is_conn m.mirror)) c)
        (ap (λ (y : Mirror). passed (has_mirror y) (message (packet p))) z)

    pub all : Links v
    all c lc = go (c == d) refl
      where
        before : c < w.next_conn
        before = subst (λ (n : ℕ). c < n) turned.conns lc.known

        known : InPipeline w c
        known = piped-before w v c before (turned.dialled c before) lc

        beside : (c == d) ≡ false → (q : Bool) → is_conn m.mirror c ≡ q → Link v c
        beside other false off = other-kept w v o placed links d m lt is responds m.state (row R (replica_event.Packet m.state.conn p)) (passed (has_mirror m.state.mirror) (message (packet p))) [] shuts.Nothing turned c known other off
        beside other true on = mirrors c (conn-is m.mirror c on)
          where
            conn-is : (o : Option ℕ) (c : ℕ) → is_conn o c ≡ true → o ≡ Some c
            conn-is None c e = absurd (false≢true e)
            conn-is (Some n) c e = ap (λ (k : ℕ). Some k) (sym (eqb-true c n e))

        go : (q : Bool) → (c == d) ≡ q → Link v c
        go true e = subst (λ (n : ℕ). Link v n) (sym (eqb-true c d e)) own
        go false e = beside e (is_conn m.mirror c) refl

-- DELIVERIES

-- what stands next for a member is a packet, which it takes
packet-only : (y : Message) → is_packet y ≡ true → (p : Packet) × (y ≡ packet p)
packet-only (packet p) e = (p, refl)
packet-only (request o) e = absurd (false≢true e)
packet-only (ack a) e = absurd (false≢true e)
packet-only (response r) e = absurd (false≢true e)
packet-only (read_status s) e = absurd (false≢true e)
packet-only (recovery_answer a) e = absurd (false≢true e)

module _ (w : World) (o : Ordered w) (takes : TakesInOrder w) (placed : Placed w) (h : Peaceful w) (says : (c : ℕ) → LowerSays w.past c (w.lowers c)) (links : Links w)
    (d : ℕ) (m : FullMember) (is : w.lowers d ≡ writes m) (opened : is_open (writes m) ≡ true) (e : Event) where
  abbrev Named : World → Type 0
  Named v = Links (named e v)

  packet-turn : (lt : InPipeline w d) (p : Packet) → slice_get (w.downs d) (w.down_marks d).taken ≡ Some (packet p) → is_waiting m.state.mirror ≡ false
      → IfSome (changed (down_taken w d (message (packet p))) (turn_change (down_taken w d (message (packet p))) d m (message (packet p)) (down_turn m.state (above.Packet p)) false)) Named
  unfolding down_taken
  packet-turn lt p found answered =
      let z : World = down_taken w d (message (packet p)) in
      let r : FullReplica = w.replicas (node_of w d) (block_of m.fields) in
      let b : Option Break = w.breaks (node_of w d) (block_of m.fields) in
      let t = packet-taken r m.state.conn (is-written w o takes placed h says links d m lt is opened) p (next-one w o takes placed h says links d m lt is opened p found) in
      subst (λ (s : Step). Named (apply z (member_change z d m (message (packet p)) s b))) (sym (packet-step m.state r p _ t))
      (all w o takes placed h says links d m lt is opened p found answered e b)

  member-message : (lt : InPipeline w d) (y : Message) → next_down w d ≡ Some (message y) → IfSome (changed (down_taken w d (message y)) (member_down (down_taken w d (message y)) d m (message y) false)) Named
  member-message lt y next =
      let q = packet-only y (takes.packets d m y is next) in
      subst (λ (x : Message). IfSome (changed (down_taken w d (message x)) (member_down (down_taken w d (message x)) d m (message x) false)) Named) (sym q.1)
      (one q.0 (next-found (w.downs d) (w.down_marks d) (packet q.0) (next ∙ ap (λ (x : Message). Some (message x)) q.1)))
    where
      one : (p : Packet) → slice_get (w.downs d) (w.down_marks d).taken ≡ Some (packet p) → IfSome (changed (down_taken w d (message (packet p))) (member_down (down_taken w d (message (packet p))) d m (message (packet p)) false)) Named
      one p found = go (takes_messages m.state (pending_at (down_taken w d (message (packet p))) d m)) refl
        where
          go : (b : Bool) → takes_messages m.state (pending_at (down_taken w d (message (packet p))) d m) ≡ b
              → IfSome (changed (down_taken w d (message (packet p))) (if b then turn_change (down_taken w d (message (packet p))) d m (message (packet p)) (down_turn m.state (above.Packet p)) false else None)) Named
          go false k = tt
          go true k = packet-turn lt p found (hushed (is_waiting m.state.mirror) (and-right m.state.receives (not (is_waiting m.state.mirror)) (and-left (m.state.receives && not (is_waiting m.state.mirror)) (nat_lt (pending_at (down_taken w d (message (packet p))) d m) MAX_PENDING) k)))
            where
              hushed : (b : Bool) → not b ≡ true → b ≡ false
              hushed false x = refl
              hushed true x = absurd (false≢true x)

  member-next : (lt : InPipeline w d) (x : Option Next) → next_down w d ≡ x → IfSome (down_as w d true false x) Named
  member-next lt None next = tt
  member-next lt (Some the_end) next =
      let acts : is_open (w.lowers d) ≡ true = ap is_open is ∙ opened in
      absurd (no-end (w.downs d) (w.down_marks d) ((links d lt).ends.down acts) next)
  member-next lt (Some (message y)) next =
      subst (λ (l : Lower). IfSome (changed (down_taken w d (message y)) (lower_down l (down_taken w d (message y)) d (message y) true false)) Named) (sym is) (member-message lt y next)

  down-links : IfSome (down_event w d true false) Named
  down-links = when-each Named (is_served w d) _ (λ k. member-next (writing-in w o d m is (less (and-left (nat_lt d w.next_conn) _ k))) (next_down w d) refl)
    where
      less : nat_lt d w.next_conn ≡ true → d < w.next_conn
      less k = grind (arith, nat_tests, k)

pub after-links : (w : World) (e : Event) (x : Option World) → Links w → IfSome x (λ v. Links (named e v)) → Links (after_event w e x)
after-links w e None h n = h
after-links w e (Some v) h n = n

pub packets-keep : PacketsKeepLinks
unfolding happens outcome
packets-keep nodes events c m plain links is opened =
    let w : World = run (start nodes) events in
    let o : Ordered w = all-ordered nodes events in
    after-links w (event.Down c true) (down_event w c.0 true false) links
    (down-links w o (takes-in-order w o) (all-placed nodes events) (all-peaceful nodes events plain) (all-carried nodes events).lowers links c.0 m is opened (event.Down c true))
