-- A writer takes what stands next on its connection: the answer to its request, or an ack of its oldest packet.
use Rattle.std.proofs.Common.{◌≡◌, ℕ, suc, ◌<◌, Bool, true, false, List, [], ◌∷◌, drop, length, map, slice_get, Option, Some, None, refl, sym, ◌∙◌, ap, subst, arith, eqb-true, ◌⊎◌, inl, inr}
use Rattle.std.specs.Prelude.{◌==◌, not, if◌then◌else◌}
use Rattle.std.proofs.lemmas.Bool.{false≢true}
use Rattle.std.proofs.lemmas.Option.{none-some, same_Some}
use Rattle.hd_base.specs.declared.numbers.NodeId.{NodeId}
use Rattle.hd_base.specs.declared.numbers.Stamp.{Stamp}
use Rattle.hd_base.specs.declared.states.Status.{Status}
use Rattle.ack_codec.specs.declared.acks.Ack.{Ack}
use Rattle.ack_codec.specs.declared.responses.Response.{Response}
use Rattle.packet_codec.specs.declared.packets.Packet.{Packet}
use Rattle.packet_stream.specs.Streams.{oldest_acked, oldest_seqno}
use Rattle.replica_core.specs.declared.ack_queue.PendingPacket.{PendingPacket}
use Rattle.member_core.specs.Acks.{is_success}
use Rattle.writer_core.specs.declared.phases.Phase.{Phase}
use Rattle.writer_core.specs.declared.phases.Phase.TheVariants as phase
use Rattle.writer_core.specs.declared.phases.Remedy.{Remedy}
use Rattle.writer_core.specs.declared.phases.Setup.{Setup}
use Rattle.writer_core.specs.declared.phases.Verdict.TheVariants as verdict
use Rattle.writer_core.specs.declared.records.WriterRecord.{WriterRecord}
use Rattle.writer_core.specs.declared.phases.Setup.TheVariants as setup
use Rattle.writer_core.specs.Phases.{remedy_at_ack, ack_verdict}
use Rattle.writer_core.specs.Phases.{is_success as writer_success}
use Rattle.writer_core.specs.Transitions.{phase_acked, acked_oldest, acked_as, acked_in, acked, setup_answered_in, setup_answered, is_connected}
use Rattle.world.specs.declared.events.Event.{Event}
use Rattle.world.specs.Parts.{Message, ack, response, Upper, by_writer}
use Rattle.world.specs.Worlds.{World}
use Rattle.world.specs.Connections.{is_conn}
use Rattle.world_laws.specs.Placing.{Placed}
use Rattle.world_orders.specs.Orders.{Ordered}
use Rattle.play_model.specs.Dues.{is_open}
use Rattle.play_completeness.specs.Streams.{as_pending, acks_in, Flows, reach_of}
use Rattle.play_completeness.specs.Links.{Awaits, pending_below, packets_left, acks_left, IsGoodAck, Carries, Link, InPipeline, Links}
use Rattle.play_completeness.proofs.Flowing.{Heard, flows-heard}
use Rattle.play_completeness.proofs.PacketTurn.{drop-found}
use Rattle.play_completeness.proofs.WriterHears.{acks-rest, hear-kept, hear-over}
use Rattle.play_completeness.proofs.WriterTurned.{WriterTurned, other-kept}
use Rattle.play_completeness.proofs.WriterWorld.{new, after, writer-turned, hears-by, good-verdict, oldest-gone, oldest-last}
use Rattle.play_completeness.proofs.Pipelines.{piped-before}

-- PHASES

-- a phase in which acks are taken
abbrev pub is_acked_in : Phase → Bool
is_acked_in (phase.Streaming n) = true
is_acked_in phase.Closing = true
is_acked_in other = false

acks-remedy : (p : Phase) → is_acked_in p ≡ true → (r : Remedy) × (remedy_at_ack p ≡ Some r)
acks-remedy (phase.Streaming n) e = (_, refl)
acks-remedy phase.Closing e = (_, refl)
acks-remedy phase.Closed e = absurd (false≢true e)
acks-remedy (phase.Wanted s) e = absurd (false≢true e)
acks-remedy (phase.Stamped s stamp) e = absurd (false≢true e)
acks-remedy (phase.Requested s stamp) e = absurd (false≢true e)
acks-remedy (phase.Accepted s stamp) e = absurd (false≢true e)
acks-remedy phase.Opened e = absurd (false≢true e)
acks-remedy phase.Finished e = absurd (false≢true e)
acks-remedy phase.Completed e = absurd (false≢true e)
acks-remedy (phase.Failed f) e = absurd (false≢true e)

-- an ack that is good takes the oldest packet
acked-is : (x : WriterRecord) (a : Ack) → is_acked_in x.phase ≡ true → ack_verdict (oldest_seqno x.stream) (length x.members) a ≡ verdict.Good → acked x a ≡ acked_oldest x
unfolding acked
acked-is x a p good =
    let r = acks-remedy x.phase p in
    ap (acked_in x a) r.1 ∙ ap (acked_as x r.0) good

-- the writer once its oldest packet is acked, the last one or not
abbrev pub acked_so : WriterRecord → Bool → WriterRecord
acked_so x last = record x { stream = oldest_acked x.stream; phase = phase_acked last x.phase }

-- it has formed what it had, and has its connection, unless that was the last packet
stays-formed : (x : WriterRecord) (p : Packet) (ps : List Packet) → x.stream.unacked ≡ p ∷ ps → (q : Phase) → x.phase ≡ q → is_acked_in q ≡ true → (reach_of (acked_so x false) ≡ reach_of x) × (is_connected (acked_so x false).phase ≡ true)
stays-formed x p ps e (phase.Streaming n) at a = (rw (at, e) refl, rw at refl)
stays-formed x p ps e phase.Closing at a = (rw (at, e) refl, rw at refl)
stays-formed x p ps e phase.Closed at a = absurd (false≢true a)
stays-formed x p ps e (phase.Wanted s) at a = absurd (false≢true a)
stays-formed x p ps e (phase.Stamped s stamp) at a = absurd (false≢true a)
stays-formed x p ps e (phase.Requested s stamp) at a = absurd (false≢true a)
stays-formed x p ps e (phase.Accepted s stamp) at a = absurd (false≢true a)
stays-formed x p ps e phase.Opened at a = absurd (false≢true a)
stays-formed x p ps e phase.Finished at a = absurd (false≢true a)
stays-formed x p ps e phase.Completed at a = absurd (false≢true a)
stays-formed x p ps e (phase.Failed f) at a = absurd (false≢true a)

pub rule-stays : (x : WriterRecord) (p : Packet) (ps : List Packet) → x.stream.unacked ≡ p ∷ ps → (oldest_acked x.stream).rule ≡ x.stream.rule
rule-stays x p ps e = rw e refl

same-success : (s : Status) → is_success s ≡ writer_success s
same-success s = refl

-- an answer that is SUCCESS is taken so
pub answered-is : (x : WriterRecord) (r : Response) (bad : Option NodeId) (s : Setup) (stamp : Stamp) → x.phase ≡ phase.Requested s stamp → is_success r.status ≡ true → setup_answered x r bad ≡ record x { phase = phase.Accepted s stamp }
unfolding setup_answered
answered-is x r bad s stamp at good =
    ap (λ (p : Phase). setup_answered_in x p (writer_success r.status) bad) at ∙ ap (λ (k : Bool). setup_answered_in x (phase.Requested s stamp) k bad) (sym (same-success r.status) ∙ good)

accepted-connected : (s : Setup) (stamp : Stamp) → (s ≡ setup.Create) ⊎ (s ≡ setup.Append) → is_connected (phase.Accepted s stamp) ≡ true
accepted-connected s stamp (inl e) = subst (λ (k : Setup). is_connected (phase.Accepted k stamp) ≡ true) (sym e) refl
accepted-connected s stamp (inr e) = subst (λ (k : Setup). is_connected (phase.Accepted k stamp) ≡ true) (sym e) refl

accepted-reach : (x : WriterRecord) (s : Setup) (stamp : Stamp) → x.phase ≡ phase.Requested s stamp → reach_of (record x { phase = phase.Accepted s stamp }) ≡ reach_of x
accepted-reach x s stamp at = rw at refl

positive : (n k : ℕ) → n ≡ suc k → 0 < n
positive n k e = omega (arith, e)

-- the packets of which the first is awaited
first-of : (xs : List Packet) (e : PendingPacket) (rest : List PendingPacket) → map as_pending xs ≡ e ∷ rest → (p : Packet) × (ps : List Packet) × (xs ≡ p ∷ ps) × (as_pending p ≡ e) × (map as_pending ps ≡ rest)
first-of [] e rest q = absurd (cc)
first-of (p ∷ ps) e rest q = (p, ps, refl, cc, cc)

module _ (w : World) (o : Ordered w) (placed : Placed w) (links : Links w) (b c : ℕ) (x : Event) (conn : (w.writers b).conn ≡ Some c) (lc : InPipeline w c) (upper : (w.dialled c).upper ≡ by_writer b) where
  abbrev pub X : WriterRecord
  X = (w.writers b).known

  -- a writer has its connection, or none
  kept : (y : Message) (n : WriterRecord) (k : ℕ) → (new w b c n y x conn).conn ≡ Some k → k ≡ c
  kept y n k e = go (is_connected n.phase) e
    where
      go : (q : Bool) → (if q then (w.writers b).conn else None) ≡ Some k → k ≡ c
      go true z = same_Some k c (sym z ∙ conn)
      go false z = absurd (none-some k z)

  -- all connections, by the writer's own
  all-of : (y : Message) (n : WriterRecord) → Link (after w b c n y x conn) c → Links (after w b c n y x conn)
  all-of y n own k lk = go (k == c) refl
    where
      t : WriterTurned w (after w b c n y x conn) b c (new w b c n y x conn)
      t = writer-turned w b c n y x conn

      before : k < w.next_conn
      before = subst (λ (i : ℕ). k < i) t.conns lk.known

      known : InPipeline w k
      known = piped-before w (after w b c n y x conn) k before (t.dialled k before) lk

      go : (q : Bool) → (k == c) ≡ q → Link (after w b c n y x conn) k
      go true e = subst (λ (i : ℕ). Link (after w b c n y x conn) i) (sym (eqb-true k c e)) own
      go false e = other-kept w (after w b c n y x conn) placed links b c (new w b c n y x conn) (writer-turned w b c n y x conn) conn (kept y n) k known e

  -- THE ORDER OF WHAT STANDS ON IT

  old : Carries w c (links c lc).fields (links c lc).rule (by_writer b) (w.lowers c)
  old = subst (λ (u : Upper). Carries w c (links c lc).fields (links c lc).rule u (w.lowers c)) upper ((links c lc).carries (subst (λ (u : Upper). Awaits w c u) (sym upper) conn))

  -- AN ACK

  module _ (a : Ack) (found : slice_get (w.ups c) (w.up_marks c).taken ≡ Some (ack a)) (taking : is_acked_in X.phase ≡ true) where
    good : IsGoodAck (links c lc).fields a
    good = (links c lc).ups (w.up_marks c).taken (ack a) found

    pub heard : Heard (map as_pending X.stream.unacked) a (acks_in (drop (suc (w.up_marks c).taken) (w.ups c))) (pending_below w c (w.lowers c)) (packets_left w c) (not (is_open (w.lowers c)))
    heard =
        let left : acks_left w c ≡ a ∷ acks_in (drop (suc (w.up_marks c).taken) (w.ups c)) = ap acks_in (drop-found (w.ups c) (w.up_marks c).taken (ack a) found) in
        flows-heard (map as_pending X.stream.unacked) a (acks_in (drop (suc (w.up_marks c).taken) (w.ups c))) (pending_below w c (w.lowers c)) (packets_left w c) (not (is_open (w.lowers c)))
        (subst (λ (bs : List Ack). Flows (map as_pending X.stream.unacked) bs (pending_below w c (w.lowers c)) (packets_left w c) (not (is_open (w.lowers c)))) left old.flows)

    pub split : (p : Packet) × (ps : List Packet) × (X.stream.unacked ≡ p ∷ ps) × (as_pending p ≡ heard.first) × (map as_pending ps ≡ heard.rest)
    split = first-of X.stream.unacked heard.first heard.rest heard.are

    abbrev acked_now : Bool → WriterRecord
    acked_now last = acked_so X last

    pub stays : split.0.last ≡ false → Links (after w b c (acked_now false) (ack a) x conn)
    stays q =
        let s = stays-formed X split.0 split.1 split.2 X.phase refl taking in
        let n : WriterRecord = acked_now false in
        let v : World = after w b c n (ack a) x conn in
        let has : (new w b c n (ack a) x conn).conn ≡ Some c = ap (λ (k : Bool). if k then (w.writers b).conn else None) s.1 ∙ conn in
        let hears = hears-by w b c n (ack a) x conn (λ _. ap (λ (k : Bool). (if k then (λ _. false) else is_conn (w.writers b).conn) c) s.1) in
        let t = writer-turned w b c n (ack a) x conn in
        all-of (ack a) n (hear-kept w v o placed links b c (new w b c n (ack a) x conn) t conn (kept (ack a) n) lc upper (ack a) found hears has s.0 (rule-stays X split.0 split.1 split.2)
        (subst (λ (bs : List Ack). Flows (map as_pending n.stream.unacked) bs (pending_below w c (w.lowers c)) (packets_left w c) (not (is_open (w.lowers c))))
        (sym (acks-rest w v o placed links b c (new w b c n (ack a) x conn) t conn (kept (ack a) n) lc upper (ack a) found hears))
        (subst (λ (ps : List PendingPacket). Flows ps (acks_in (drop (suc (w.up_marks c).taken) (w.ups c))) (pending_below w c (w.lowers c)) (packets_left w c) (not (is_open (w.lowers c))))
        (sym (ap (map as_pending) (oldest-gone X.stream split.0 split.1 split.2) ∙ split.4)) (heard.goes (ap (λ (e : PendingPacket). e.last) (sym split.3) ∙ q)))))

    pub ends : split.0.last ≡ true → Links (after w b c (acked_now true) (ack a) x conn)
    ends q =
        let n : WriterRecord = acked_now true in
        let v : World = after w b c n (ack a) x conn in
        let over : not (is_open (w.lowers c)) ≡ true = (heard.ends (ap (λ (e : PendingPacket). e.last) (sym split.3) ∙ q)).0 in
        let closed : is_open (w.lowers c) ≡ false = shut (is_open (w.lowers c)) over in
        let hears = hears-by w b c n (ack a) x conn (λ k. absurd (false≢true (sym closed ∙ k))) in
        all-of (ack a) n (hear-over w v o placed links b c (new w b c n (ack a) x conn) (writer-turned w b c n (ack a) x conn) conn (kept (ack a) n) lc upper (ack a) found hears refl closed)
      where
        shut : (k : Bool) → not k ≡ true → k ≡ false
        shut false z = refl
        shut true z = absurd (false≢true z)

    by-last : (last : Bool) → split.0.last ≡ last → Links (after w b c (acked_now last) (ack a) x conn)
    by-last false q = stays q
    by-last true q = ends q

    -- what the ack makes of the writer
    pub acked-as : length X.members ≡ suc (length (links c lc).fields.targets) → acked X a ≡ acked_now split.0.last
    acked-as members =
        let number : split.0.seqno ≡ a.seqno = ap (λ (e : PendingPacket). e.seqno) split.3 ∙ heard.number in
        let verdict_is = good-verdict X.stream split.0 split.1 (length X.members) a split.2 number good.good (good.whole ∙ sym members) (positive (length X.members) (length (links c lc).fields.targets) members) in
        acked-is X a taking verdict_is ∙ ap (acked_so X) (oldest-last X.stream split.0 split.1 split.2)

    pub acks-links : length X.members ≡ suc (length (links c lc).fields.targets) → Links (after w b c (acked X a) (ack a) x conn)
    acks-links members = subst (λ (n : WriterRecord). Links (after w b c n (ack a) x conn)) (sym (acked-as members)) (by-last split.0.last refl)

  -- THE ANSWER TO THE REQUEST

  pub answer-links : (r : Response) (bad : Option NodeId) (s : Setup) (stamp : Stamp) → slice_get (w.ups c) (w.up_marks c).taken ≡ Some (response r) → X.phase ≡ phase.Requested s stamp → (s ≡ setup.Create) ⊎ (s ≡ setup.Append)
      → Links (after w b c (setup_answered X r bad) (response r) x conn)
  answer-links r bad s stamp found at opens =
      let n : WriterRecord = record X { phase = phase.Accepted s stamp } in
      let v : World = after w b c n (response r) x conn in
      let connected : is_connected n.phase ≡ true = accepted-connected s stamp opens in
      let has : (new w b c n (response r) x conn).conn ≡ Some c = ap (λ (k : Bool). if k then (w.writers b).conn else None) connected ∙ conn in
      let hears = hears-by w b c n (response r) x conn (λ _. ap (λ (k : Bool). (if k then (λ _. false) else is_conn (w.writers b).conn) c) connected) in
      let t = writer-turned w b c n (response r) x conn in
      let same : acks_left w c ≡ acks_left v c =
      ap acks_in (drop-found (w.ups c) (w.up_marks c).taken (response r) found) ∙ sym (acks-rest w v o placed links b c (new w b c n (response r) x conn) t conn (kept (response r) n) lc upper (response r) found hears) in
      subst (λ (k : WriterRecord). Links (after w b c k (response r) x conn)) (sym (answered-is X r bad s stamp at ((links c lc).ups (w.up_marks c).taken (response r) found)))
      (all-of (response r) n (hear-kept w v o placed links b c (new w b c n (response r) x conn) t conn (kept (response r) n) lc upper (response r) found hears has (accepted-reach X s stamp at) refl
      (subst (λ (bs : List Ack). Flows (map as_pending X.stream.unacked) bs (pending_below w c (w.lowers c)) (packets_left w c) (not (is_open (w.lowers c)))) same old.flows)))
