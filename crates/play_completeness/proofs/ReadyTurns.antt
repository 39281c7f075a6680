-- A member that acts does something without a message: where it has no mirror it acks its oldest packet.
use Rattle.std.proofs.Common.{◌≡◌, ℕ, ℤ, suc, ◌<◌, Bool, true, false, List, [], ◌∷◌, drop, slice_get, Option, Some, None, IfSome, Ok, refl, sym, ◌∙◌, ap, subst, arith, eqb-true}
use Rattle.std.specs.Prelude.{◌==◌, nat_lt, if◌then◌else◌, length}
use Rattle.std.proofs.lemmas.Bool.{false≢true}
use Rattle.std.proofs.lemmas.Bool.Decides.{nat_tests}
use Rattle.hd_base.specs.declared.states.Status.{Status}
use Rattle.hd_base.specs.declared.states.Status.TheVariants as status
use Rattle.op_headers.specs.declared.nodes.NodeRef.{NodeRef}
use Rattle.replica_core.specs.declared.ack_queue.PendingPacket.{PendingPacket}
use Rattle.replica_core.specs.declared.events.Answer.TheVariants as answer
use Rattle.replica_core.specs.declared.events.Event.TheVariants as core
use Rattle.replica_core.specs.declared.info.ReplicaInfo.{ReplicaInfo}
use Rattle.replica_core.specs.declared.records.ReplicaRecord.{ReplicaRecord}
use Rattle.replica_core.specs.declared.streams.Stream.{Stream}
use Rattle.replica_core.specs.Info.{advance_acked, close_stream}
use Rattle.replica_core.specs.Sound.{IsStream}
use Rattle.replica_core.specs.Transitions.{Outcome, record_after, reply, answer_of, acknowledge, set_writer, is_written_by, transition}
use Rattle.replica_core.specs.Views.{written_in}
use Rattle.replica_model.specs.declared.events.ReplicaEvent.TheVariants as replica_event
use Rattle.replica_model.specs.Rows.{FullReplica, row}
use Rattle.member_core.specs.declared.effects.Shuts.{Shuts}
use Rattle.member_core.specs.declared.effects.Shuts.TheVariants as shuts
use Rattle.member_core.specs.declared.effects.Upward.TheVariants as upward
use Rattle.member_core.specs.declared.member.Mirror.{Mirror}
use Rattle.member_core.specs.declared.member.Mirror.TheVariants as mirror
use Rattle.member_core.specs.declared.turns.Booked.{Booked}
use Rattle.member_core.specs.declared.turns.Side.TheVariants as side
use Rattle.member_core.specs.Acks.{ack_of}
use Rattle.member_core.specs.Members.{MemberState, good_turn, closed_by, settled, ready_at, quiet_turn, idle_turn, patient_turn, is_waiting}
use Rattle.member_core.specs.Steps.{Step, booked_as, with_replica, step}
use Rattle.world.specs.declared.events.Event.{Event}
use Rattle.world.specs.declared.events.Event.TheVariants as event
use Rattle.world.specs.Parts.{ack, FullMember, Lower, writes, Break}
use Rattle.world.specs.Worlds.{World, apply, start}
use Rattle.world.specs.Connections.{the_end, is_served, is_conn}
use Rattle.world.specs.Nodes.{node_of, block_of, member_change, turn_change, ready_change, member_ready, lower_ready}
use Rattle.world.specs.Events.{changed, ready_event, outcome, happens, run}
use Rattle.world_laws.specs.Carrying.{LowerSays}
use Rattle.world_laws.specs.Filling.{Filled}
use Rattle.world_laws.specs.Placing.{Placed}
use Rattle.world_laws.proofs.AllCarried.{all-carried}
use Rattle.world_laws.proofs.FactTables.{and-left, and-right, when-each}
use Rattle.world_laws.proofs.FilledLaws.{all-filled}
use Rattle.world_laws.proofs.PlacedLaws.{all-placed}
use Rattle.world_orders.specs.Orders.{Ordered}
use Rattle.world_orders.specs.Takes.{TakesInOrder}
use Rattle.world_orders.proofs.AllOrdered.{all-ordered}
use Rattle.world_orders.proofs.Frame.{marked}
use Rattle.world_orders.proofs.Takes.{takes-in-order}
use Rattle.play_model.specs.Dues.{is_open}
use Rattle.play_completeness.specs.Plain.{Peaceful}
use Rattle.play_completeness.specs.Streams.{reach_under, reach_in}
use Rattle.play_completeness.specs.Links.{MirrorFits, IsGoodAck, ActsWell, MemberWell, LowerWell, Link, InPipeline, Links}
use Rattle.play_completeness.specs.Turning.{ReadyKeepsLinks}
use Rattle.play_completeness.proofs.Peace.{all-peaceful}
use Rattle.play_completeness.proofs.Rows.{IsWritten, ack-taken}
use Rattle.play_completeness.proofs.Turned.{Turned, other-kept}
use Rattle.play_completeness.proofs.TurnWorld.{named, turned-by, down-taken-at}
use Rattle.play_completeness.proofs.AckTurn.{GoesOn, on-kept, over-kept}
use Rattle.play_completeness.proofs.DownTurns.{same-marks, is-written, after-links}
use Rattle.play_completeness.proofs.Pipelines.{piped-before, writing-in}

-- THE MEMBER'S STEP

-- what is shut with the ack of the last packet
abbrev pub shuts_at : Bool → Shuts
shuts_at last = if last then shuts.Both else shuts.Nothing

-- what a member makes of the ack of its oldest packet, the last one or not
abbrev pub acked_step : MemberState → FullReplica → PendingPacket → List Status → Bool → Step
acked_step m r e replies last = record {
  member = closed_by (shuts_at last) side.Responder m;
  replica = row r (replica_event.Other (core.Ack m.conn e.seqno true));
  effect = record { forwards = false; sends = Some (upward.Ack (ack_of e.seqno replies)); shuts = shuts_at last };
}

pub ack-step : (m : MemberState) (r : FullReplica) (e : PendingPacket) (replies : List Status) (k : ReplicaRecord) → transition r.known (core.Ack m.conn e.seqno true) ≡ Ok (record { replica = k; answer = answer.Done })
    → step m r (good_turn m e replies) ≡ acked_step m r e replies e.last
ack-step m r e replies k t =
    ap (λ (b : Booked). with_replica (row r (replica_event.Other (core.Ack m.conn e.seqno true))) (settled m (good_turn m e replies) b)) (ap (λ (o : Outcome). booked_as (answer_of (reply o))) t)

-- the replica goes on
pub goes-on : (K k : ReplicaRecord) (h : ReplicaInfo) (e : PendingPacket) (rest : List PendingPacket) → K.info ≡ Some h → K.pending ≡ e ∷ rest → e.last ≡ false → k ≡ acknowledge K h e true → GoesOn K k rest
goes-on K k h e rest is pending last at =
    let now : k ≡ record K { info = Some (advance_acked h e.end); pending = drop 1 K.pending } =
    at ∙ ap (λ (b : Bool). if b then set_writer K (close_stream (advance_acked h e.end)) None else record K { info = Some (advance_acked h e.end); pending = drop 1 K.pending }) last in
    record {
      info = h;
      is = is;
      at = e.end;
      now = ap (λ (c : ReplicaRecord). c.info) now;
      stream = ap (λ (c : ReplicaRecord). c.stream) now;
      pending = ap (λ (c : ReplicaRecord). c.pending) now ∙ ap (λ (xs : List PendingPacket). drop 1 xs) pending;
    }

-- where the last packet is pending, it was taken
pub last-taken : (K : ReplicaRecord) (s : Stream) (e : PendingPacket) (rest : List PendingPacket) → K.stream ≡ Some s → K.pending ≡ e ∷ rest → e.last ≡ true → IfSome K.stream (IsStream K.pending) → (reach_in K).over ≡ true
last-taken K s e rest by pending last sound = ap (λ (o : Option Stream). (reach_under o (written_in K)).over) by ∙ go s.is_over refl
  where
    is : IsStream (e ∷ rest) s
    is = subst (λ (ps : List PendingPacket). IsStream ps s) pending (subst (λ (o : Option Stream). IfSome o (IsStream K.pending)) by sound)

    go : (b : Bool) → s.is_over ≡ b → s.is_over ≡ true
    go true q = q
    go false q = absurd (false≢true (sym (is.open_yet q).0.not_last ∙ last))

-- A MEMBER WITHOUT A MIRROR

module _ (w : World) (o : Ordered w) (takes : TakesInOrder w) (placed : Placed w) (h : Peaceful w) (says : (c : ℕ) → LowerSays w.past c (w.lowers c)) (filled : Filled w) (links : Links w)
    (d : ℕ) (m : FullMember) (lt : InPipeline w d) (is : w.lowers d ≡ writes m) (opened : is_open (writes m) ≡ true) (x : Event) where
  abbrev R : FullReplica
  R = w.replicas (node_of w d) (block_of m.fields)

  abbrev b : Option Break
  b = w.breaks (node_of w d) (block_of m.fields)

  well : MemberWell w d (links d lt).fields (links d lt).rule m
  well = subst (λ (y : Lower). LowerWell w d (links d lt).fields (links d lt).rule y) is (links d lt).lower

  responds : m.state.responds ≡ true
  responds = and-right m.state.receives m.state.responds opened

  acting : ActsWell w d (links d lt).fields (links d lt).rule m
  acting = well.acts responds

  written : IsWritten R.known m.state.conn
  written = is-written w o takes placed h says links d m lt is opened

  module _ (e : PendingPacket) (rest : List PendingPacket) (oldest : R.known.pending ≡ e ∷ rest) (nobody : m.state.mirror ≡ mirror.Nobody) where
    abbrev replies : List Status
    replies = status.Success ∷ []

    alone : ((links d lt).fields.targets ≡ []) × (m.mirror ≡ None)
    alone = subst (λ (z : Mirror). MirrorFits (links d lt).fields m z) nobody acting.mirror

    off : (c : ℕ) → is_conn m.mirror c ≡ false
    off c = ap (λ (q : Option ℕ). is_conn q c) alone.1

    good : IsGoodAck (links d lt).fields (ack_of e.seqno replies)
    good = record { whole = ap (λ (ts : List NodeRef). suc (length ts)) (sym alone.0); good = refl }

    taken : transition R.known (core.Ack m.state.conn e.seqno true) ≡ Ok (record { replica = acknowledge R.known written.info e true; answer = answer.Done })
    taken = ack-taken R.known m.state.conn written e rest oldest

    row-is : (row R (replica_event.Other (core.Ack m.state.conn e.seqno true))).known ≡ acknowledge R.known written.info e true
    row-is = ap (record_after R.known) taken

    abbrev v : Bool → World
    v last = named x (apply (marked w w.down_marks w.up_marks) (member_change (marked w w.down_marks w.up_marks) d m the_end (acked_step m.state R e replies last) b))

    turned : (last : Bool) → Turned w (v last) d m (closed_by (shuts_at last) side.Responder m.state) (row R (replica_event.Other (core.Ack m.state.conn e.seqno true))) [] (ack (ack_of e.seqno replies) ∷ []) (shuts_at last)
    turned last = turned-by w d m the_end (acked_step m.state R e replies last) b x w.down_marks w.up_marks (same-marks w.down_marks (λ c. c == d)) (same-marks w.up_marks (is_conn m.mirror))

    unmoved : (last : Bool) → ((v last).down_marks d).taken ≡ (w.down_marks d).taken
    unmoved last = down-taken-at w d m the_end (acked_step m.state R e replies last) b x w.down_marks w.up_marks (same-marks w.down_marks (λ c. c == d)) (same-marks w.up_marks (is_conn m.mirror)) d

    answered : is_waiting m.state.mirror ≡ false
    answered = ap is_waiting nobody

    own : (last : Bool) → e.last ≡ last → Link (v last) d
    own false q =
        on-kept w (v false) o placed links d m lt is responds m.state (row R (replica_event.Other (core.Ack m.state.conn e.seqno true))) (ack_of e.seqno replies) shuts.Nothing (turned false) (off d) answered (unmoved false) e rest oldest refl good well.receives
        q refl refl (goes-on R.known _ written.info e rest written.is oldest q row-is)
    own true q =
        over-kept w (v true) o placed links d m lt is responds (record m.state { responds = false }) (row R (replica_event.Other (core.Ack m.state.conn e.seqno true))) (ack_of e.seqno replies) shuts.Both (turned true) (off d) answered (unmoved true) e rest oldest refl good well.receives
        q refl refl (last-taken R.known written.stream e rest written.written oldest q (filled.replicas (node_of w d) (block_of m.fields)).full.sound.stream)

    pub all : (last : Bool) → e.last ≡ last → Links (v last)
    all last q c lc = go (c == d) refl
      where
        before : c < w.next_conn
        before = subst (λ (n : ℕ). c < n) (turned last).conns lc.known

        known : InPipeline w c
        known = piped-before w (v last) c before ((turned last).dialled c before) lc

        go : (z : Bool) → (c == d) ≡ z → Link (v last) c
        go true k = subst (λ (n : ℕ). Link (v last) n) (sym (eqb-true c d k)) (own last q)
        go false k =
            other-kept w (v last) o placed links d m lt is responds (closed_by (shuts_at last) side.Responder m.state) (row R (replica_event.Other (core.Ack m.state.conn e.seqno true))) [] (ack (ack_of e.seqno replies) ∷ []) (shuts_at last) (turned last) c known k (off c)

  -- WHAT IT DOES

  abbrev Named : World → Type 0
  Named v = Links (named x v)

  abbrev by-own : Bool
  by-own = is_written_by R.known.stream m.state.conn

  own-writes : by-own ≡ true
  own-writes = ap (λ (q : Option Stream). is_written_by q m.state.conn) written.written ∙ same written.stream.conn.0 m.state.conn.0 written.by
    where
      same : (a c : ℕ) → a ≡ c → (a == c) ≡ true
      same a c q = grind (arith, nat_tests, q)

  acks : (e : PendingPacket) (rest : List PendingPacket) → R.known.pending ≡ e ∷ rest → m.state.mirror ≡ mirror.Nobody → IfSome (changed w (turn_change w d m the_end (good_turn m.state e (status.Success ∷ [])) false)) Named
  acks e rest oldest nobody =
      subst (λ (s : Step). Named (apply w (member_change w d m the_end s b))) (sym (ack-step m.state R e (status.Success ∷ []) _ (ack-taken R.known m.state.conn written e rest oldest)))
      (all e rest oldest nobody e.last refl)

  does : (z : Mirror) → m.state.mirror ≡ z → MirrorFits (links d lt).fields m z → (ps : List PendingPacket) → R.known.pending ≡ ps → IfSome (changed w (ready_change w d m (ready_at z m.state (slice_get ps 0) by-own) false)) Named
  does mirror.Asked at fits ps pending = tt
  does mirror.Nobody at fits [] pending =
      subst (λ (q : Option ℤ). IfSome (changed w (ready_change w d m (quiet_turn m.state q by-own) false)) Named) (sym acting.quiet)
      (subst (λ (q : Bool). IfSome (changed w (ready_change w d m (idle_turn m.state q) false)) Named) (sym own-writes) tt)
  does mirror.Nobody at fits (e ∷ rest) pending = acks e rest pending at
  does mirror.Open at fits [] pending = subst (λ (q : Option ℤ). IfSome (changed w (ready_change w d m (patient_turn m.state q) false)) Named) (sym acting.quiet) tt
  does mirror.Open at fits (e ∷ rest) pending = tt
  does mirror.Unreachable at fits ps pending = absurd fits
  does mirror.Ended at fits ps pending = absurd fits

  readies : IfSome (changed w (member_ready w d m false)) Named
  readies =
      subst (λ (q : Bool). IfSome (changed w (ready_change w d m (if q then ready_at m.state.mirror m.state (slice_get R.known.pending 0) by-own else None) false)) Named) (sym responds)
      (does m.state.mirror refl acting.mirror R.known.pending refl)

  pub lower-readies : IfSome (changed w (lower_ready (w.lowers d) w d false)) Named
  lower-readies = subst (λ (l : Lower). IfSome (changed w (lower_ready l w d false)) Named) (sym is) readies

pub ready-keeps : ReadyKeepsLinks
unfolding happens outcome
ready-keeps nodes events c m plain links is opened =
    let w : World = run (start nodes) events in
    let o : Ordered w = all-ordered nodes events in
    after-links w (event.Ready c) (ready_event w c.0 false) links
    (when-each (λ (v : World). Links (named (event.Ready c) v)) (is_served w c.0) _ (λ k.
    lower-readies w o (takes-in-order w o) (all-placed nodes events) (all-peaceful nodes events plain) (all-carried nodes events).lowers (all-filled nodes events) links c.0 m (writing-in w o c.0 m is (less c.0 w (and-left (nat_lt c.0 w.next_conn) _ k))) is opened (event.Ready c)))
  where
    less : (d : ℕ) (w : World) → nat_lt d w.next_conn ≡ true → d < w.next_conn
    less d w k = grind (arith, nat_tests, k)
