-- A writer that streams forms the packet that is due and sends it.
use Rattle.std.proofs.Common.{◌≡◌, ℕ, zero, suc, ◌<◌, ◌≤◌, ◌+◌, Bool, true, false, List, [], ◌∷◌, ◌++◌, length, map, slice_get, Option, Some, None, IfSome, refl, sym, ◌∙◌, ap, subst, arith, length-append, inl}
use Rattle.std.specs.Prelude.{pos, is_some, nat_lt}
use Rattle.std.proofs.lemmas.Bool.{false≢true}
use Rattle.std.proofs.lemmas.List.{append-nil}
use Rattle.std.proofs.lemmas.Option.{none-some, same_Some}
use Rattle.hd_base.specs.declared.numbers.BlockId.{BlockId}
use Rattle.packet_codec.specs.declared.packets.Packet.{Packet}
use Rattle.packet_stream.specs.declared.stream.TheConstants.{MAX_UNACKED}
use Rattle.packet_stream.specs.Streams.{StreamState, IsStream, written_in, next_packet, formed, sync_packet, sync_formed, last_packet, last_formed}
use Rattle.packet_stream.proofs.StreamLemmas.{formed_written}
use Rattle.replica_core.specs.declared.ack_queue.PendingPacket.{PendingPacket}
use Rattle.writer_core.specs.declared.actions.Action.{Action}
use Rattle.writer_core.specs.declared.actions.Action.TheVariants as action
use Rattle.writer_core.specs.declared.commands.Command.{Command}
use Rattle.writer_core.specs.declared.intake.Intake.{Intake}
use Rattle.writer_core.specs.declared.phases.DuePacket.{DuePacket}
use Rattle.writer_core.specs.declared.phases.DuePacket.TheVariants as packet_due
use Rattle.writer_core.specs.declared.phases.Phase.{Phase}
use Rattle.writer_core.specs.declared.phases.Phase.TheVariants as phase
use Rattle.writer_core.specs.declared.records.WriterRecord.{WriterRecord}
use Rattle.writer_core.specs.Transitions.{step, sync_formed_as, due_in, due_now, form_step, due_step, stream_step_as, step_in, own_step, is_connected}
use Rattle.writer_core.proofs.DueLemmas.{choice}
use Rattle.world.specs.declared.events.Event.{Event}
use Rattle.world.specs.Parts.{Message, packet, Writing, Said, by_writer}
use Rattle.world.specs.Worlds.{World, Change, apply}
use Rattle.world.specs.Connections.{sent_on}
use Rattle.world.specs.Clients.{writing_as}
use Rattle.world.specs.Events.{run}
use Rattle.world_laws.specs.Stamping.{NoLast}
use Rattle.world_laws.specs.Placing.{IsConn}
use Rattle.play_completeness.specs.WorldOrders.Orders.{HasTaken, IsWriterConn}
use Rattle.play_completeness.proofs.WorldOrders.AllOrdered.{all-ordered}
use Rattle.play_completeness.proofs.WorldOrders.Kept.{sent-elsewhere, sent-here}
use Rattle.play_model.specs.declared.dues.Due.TheVariants as due
use Rattle.play_model.specs.States.{PlayState, world_of}
use Rattle.play_model.specs.Dues.{acting, own_events, queue_left, action_of, due_events}
use Rattle.play_completeness.proofs.PlayLaws.Resting.{all-rest}
use Rattle.play_completeness.specs.Streams.{as_pending, Reach, reach_formed, reach_of, reach_after, IsNext}
use Rattle.play_completeness.specs.Writers.{StreamWell, StreamsWell, WriterWell}
use Rattle.play_completeness.specs.Played.{DoneSoFar, QueueFits, BlockPlayed, Played}
use Rattle.play_completeness.proofs.Flowing.{NoneLast}
use Rattle.play_completeness.proofs.TurnWorld.{named}
use Rattle.play_completeness.proofs.Pipelines.{dialled-in}
use Rattle.completing_writers.proofs.Leaving.{conns-of, downs-of, happens-own}
use Rattle.completing_writers.proofs.Others.{Kept, opened-kept, folds}
use Rattle.completing_writers.proofs.Doing.{Stepped, same-conn, sending, sending-steps, own-alone, action-is, placed}
use Rattle.completing_writers.proofs.Answering.{past-end, same-block}
use Rattle.completing_writers.proofs.Known.{sound, none-last}
use Rattle.completing_writers.proofs.Sending.{SendsNext, sends-links}
use Rattle.completing_writers.proofs.Forming.{DueWell, due-well, reach_here, data-end, data-next, data-reach, sync-next, sync-reach, last-next, last-reach, stream-more, more-left, formed-waits, formed-close, formed-done}

-- a writer's connection is there
conn-there : (o : Option ℕ) → is_some o ≡ true → (c : ℕ) × (o ≡ Some c)
conn-there None e = absurd (false≢true e)
conn-there (Some c) e = (c, refl)

-- packets none of which is the last one are so where they are pending
none-pending : (xs : List Packet) → NoLast xs → NoneLast (map as_pending xs)
none-pending xs h i e found = go xs i (λ j q at. h.none j q at) found
  where
    go : (ys : List Packet) (j : ℕ) → ((k : ℕ) (q : Packet) → slice_get ys k ≡ Some q → q.last ≡ false) → slice_get (map as_pending ys) j ≡ Some e → e.last ≡ false
    go [] j none at = absurd (none-some e at)
    go (q ∷ ys) zero none at = ap (λ (x : PendingPacket). x.last) (sym (same_Some (as_pending q) e at)) ∙ none zero q refl
    go (q ∷ ys) (suc j) none at = go ys j (λ k r z. none (suc k) r z) at

module _ (p : PlayState) (commands : ℕ → List Command) (h : Played p commands) (b : BlockId) (sent : ℕ) (at : ((world_of p).writers b.0).known.phase ≡ phase.Streaming sent) (well : StreamsWell (world_of p) b.0 ((world_of p).writers b.0).known sent) where
  abbrev w : World
  w = world_of p

  abbrev X : WriterRecord
  X = (w.writers b.0).known

  abbrev s : StreamState
  s = X.stream

  abbrev B : BlockPlayed w b.0 (p.queues b.0) (commands b.0)
  B = h.blocks b.0

  is-stream : IsStream s
  is-stream = (sound p.nodes p.events h.quiet b.0).stream

  there : (c : ℕ) × ((w.writers b.0).conn ≡ Some c)
  there = conn-there (w.writers b.0).conn ((all-rest p.nodes p.events b.0).connected (ap is_connected at))

  known : there.0 < w.next_conn
  known = (subst (λ (o : Option ℕ). IsConn w.next_conn o) there.1 ((placed p commands h b).writers b.0)).below

  conn-is : IsWriterConn (w.dialled there.0) (w.up_marks there.0).taken b.0 X
  conn-is = subst (λ (o : Option ℕ). IfSome o (λ c. IsWriterConn (w.dialled c) (w.up_marks c).taken b.0 X)) there.1 ((all-ordered p.nodes p.events).writers_are b.0)

  has-taken : 0 < (w.up_marks there.0).taken
  has-taken = subst (λ (q : Phase). HasTaken q X.members (w.up_marks there.0).taken) at conn-is.heard

  abbrev alone : Event
  alone = acting b.0 None

  reach-is : reach_of X ≡ reach_here s
  reach-is = ap (λ (q : Phase). reach_formed q s) at

  -- what was done of the block's commands
  sent-block : (v : World) (n : WriterRecord) → n.taken ≡ X.taken → n.intake ≡ X.intake → n.members ≡ X.members → DoneSoFar B.taken (w.said b.0) n.waiting → Stepped w v b.0 (writing_as n (w.writers b.0).conn) [] []
      → BlockPlayed v b.0 (p.queues b.0) (commands b.0)
  sent-block v n taken intake members done u =
      let is : (v.writers b.0).known ≡ n = ap (λ (z : Writing). z.known) u.aside.writer in
      let said : v.said b.0 ≡ w.said b.0 = u.answered ∙ append-nil (w.said b.0) in
      record {
        taken = B.taken;
        are = B.are;
        writes = B.writes;
        number = ap (λ (z : WriterRecord). z.taken) is ∙ (taken ∙ B.number);
        stand = ap (λ (z : WriterRecord). z.intake.stand) is ∙ (ap (λ (z : Intake). z.stand) intake ∙ B.stand);
        members = λ i created e. ap (λ (z : WriterRecord). z.members) is ∙ (members ∙ B.members i created e);
        answers = subst (λ (z : WriterRecord). DoneSoFar B.taken (v.said b.0) z.waiting) (sym is) (subst (λ (l : List Said). DoneSoFar B.taken l n.waiting) (sym said) done);
        bytes = u.wrote ∙ (append-nil (w.written (w.latest b.0)) ∙ B.bytes);
        queued = subst (λ (z : WriterRecord). QueueFits v.nodes z.intake (p.queues b.0)) (sym is)
            (subst (λ (i : Intake). QueueFits v.nodes i (p.queues b.0)) (sym intake)
            (subst (λ (k : ℕ). QueueFits k X.intake (p.queues b.0)) (sym u.aside.nodes) B.queued));
      }

  -- the packet that is due is formed
  forms : (d : DuePacket) → due_now X ≡ Some d → own_step X ≡ form_step X d
  unfolding own_step
  forms d is = ap (step_in X) at ∙ (ap (stream_step_as X sent) (past-end s.unacked sent well.sent_all) ∙ ap (due_step X) is)

  -- It sends this packet, and is this writer then.
  sends-keep : (q : Packet) (n : WriterRecord) → own_step X ≡ step (action.Send q) n → is_connected n.phase ≡ true → SendsNext X n q → n.taken ≡ X.taken → n.intake ≡ X.intake → n.members ≡ X.members → DoneSoFar B.taken (w.said b.0) n.waiting
      → ((v : World) → Stepped w v b.0 (writing_as n (w.writers b.0).conn) [] [] → WriterWell v b.0 n) → Kept p commands b
  sends-keep q n is connected sends taken intake members done own =
      let c : ℕ = there.0 in
      let k : Change = sending w b.0 n (inl connected) alone q in
      let v : World = named alone (apply w k) in
      let new : Writing = writing_as n (w.writers b.0).conn in
      let u : Stepped w v b.0 new [] [] = sending-steps w b.0 n (inl connected) alone q in
      let next : action_of w b ≡ action.Send q = action-is p commands h b (step (action.Send q) n) is in
      let happened : run w (due_events w p.queues (due.Own b)) ≡ v =
      ap (λ (x : Action). run w (own_events x b.0 (p.queues b.0))) next ∙ happens-own w b.0 None k (own-alone w b.0 (step (action.Send q) n) (h.quiet b.0) is) in
      let down : v.downs c ≡ w.downs c ++ packet q ∷ [] =
      downs-of w k b.0 alone refl c ∙ ap (λ (ms : List Message). w.downs c ++ ms) (ap (λ (o : Option ℕ). sent_on o (packet q ∷ []) c) there.1 ∙ sent-here c (packet q ∷ [])) in
      let links = sends-links w v (all-ordered p.nodes p.events) (placed p commands h b) h.links b.0 c new u.aside there.1 (same-conn n.phase (w.writers b.0).conn (inl connected) ∙ there.1) (dialled-in w c (by_writer b.0) conn-is.upper refl known) conn-is.upper q (conns-of w k b.0 alone refl) down
      (λ i e. downs-of w k b.0 alone refl i ∙ (ap (λ (ms : List Message). w.downs i ++ ms) (ap (λ (o : Option ℕ). sent_on o (packet q ∷ []) i) there.1 ∙ sent-elsewhere c i (packet q ∷ []) e) ∙ append-nil (w.downs i)))
      has-taken sends (none-pending s.unacked (none-last p.nodes p.events h.quiet b.0 well.office.entry sent well.office.is at)) in
      folds p commands h b v new happened u.aside links (own v u)
      (subst (λ (x : Action). BlockPlayed v b.0 (queue_left x (p.queues b.0)) (commands b.0)) (sym next) (sent-block v n taken intake members done u))

  -- ITS CASES

  abbrev O : StreamWell s
  O = (h.writers b.0).stream

  data-sent : (end : ℕ) (is_sync : Bool) → due_now X ≡ Some (packet_due.Data end is_sync) → DueWell X.waiting s (packet_due.Data end is_sync) → Kept p commands b
  data-sent end is_sync is d =
      let q : Packet = next_packet s end is_sync in
      let n : WriterRecord = record X { stream = formed s end is_sync; waiting = sync_formed_as is_sync (pos s.seqno) X.waiting; phase = phase.Streaming (length s.unacked + 1) } in
      sends-keep q n (forms (packet_due.Data end is_sync) is) refl
      (record {
        next = subst (λ (r : Reach). IsNext s.rule r q) (sym reach-is) (data-next s is-stream end is_sync d.0 d.1 d.2);
        reach = data-reach s is-stream end is_sync d.0 d.1 d.2 ∙ ap (λ (r : Reach). reach_after r q) (sym reach-is);
        unacked = refl;
        rule = refl;
      })
      refl refl refl (formed-done is_sync (pos s.seqno) B.taken (w.said b.0) X.waiting B.answers)
      (λ v u. record {
        stream = stream-more s (formed s end is_sync) q O refl refl (data-end s is-stream end is_sync d.0 d.1 d.2) (omega (arith, d.0));
        phase_is = record {
          office = opened-kept w v b.0 (same-block p commands h b v n [] u) well.office;
          sent_all = sym (length-append s.unacked (q ∷ []));
          waits = formed-waits is_sync (pos s.seqno) X.waiting (written_in s) (written_in (formed s end is_sync)) (formed_written s end is_sync is-stream d.0 d.1) well.waits;
          stand = λ not. well.stand (λ e. not (ap (sync_formed_as is_sync (pos s.seqno)) e ∙ formed-close is_sync (pos s.seqno)));
        };
      })

  sync-sent : due_now X ≡ Some packet_due.Sync → Kept p commands b
  sync-sent is =
      let q : Packet = sync_packet s in
      let n : WriterRecord = record X { stream = sync_formed s; waiting = sync_formed_as true (pos s.seqno) X.waiting; phase = phase.Streaming (length s.unacked + 1) } in
      sends-keep q n (forms packet_due.Sync is) refl
      (record {
        next = subst (λ (r : Reach). IsNext s.rule r q) (sym reach-is) (sync-next s is-stream);
        reach = sync-reach s is-stream ∙ ap (λ (r : Reach). reach_after r q) (sym reach-is);
        unacked = refl;
        rule = refl;
      })
      refl refl refl (formed-done true (pos s.seqno) B.taken (w.said b.0) X.waiting B.answers)
      (λ v u. record {
        stream = stream-more s (sync_formed s) q O refl refl (omega arith) (omega arith);
        phase_is = record {
          office = opened-kept w v b.0 (same-block p commands h b v n [] u) well.office;
          sent_all = sym (length-append s.unacked (q ∷ []));
          waits = formed-waits true (pos s.seqno) X.waiting (written_in s) (written_in (sync_formed s)) refl well.waits;
          stand = λ not. well.stand (λ e. not (ap (sync_formed_as true (pos s.seqno)) e));
        };
      })

  last-sent : due_now X ≡ Some packet_due.Last → DueWell X.waiting s packet_due.Last → Kept p commands b
  last-sent is d =
      let q : Packet = last_packet s X.had_sync in
      let n : WriterRecord = record X { stream = last_formed s X.had_sync; phase = phase.Closing } in
      let all : s.sent ≡ written_in s = let low : s.acked ≤ s.sent = O.within in omega (arith, low, d.1, is-stream.sent) in
      sends-keep q n (forms packet_due.Last is) refl
      (record {
        next = subst (λ (r : Reach). IsNext s.rule r q) (sym reach-is) (last-next s is-stream X.had_sync all);
        reach = last-reach s is-stream X.had_sync all ∙ ap (λ (r : Reach). reach_after r q) (sym reach-is);
        unacked = refl;
        rule = refl;
      })
      refl refl refl B.answers
      (λ v u. record {
        stream = stream-more s (last_formed s X.had_sync) q O refl refl (omega (arith, all)) (omega arith);
        phase_is = record {
          office = opened-kept w v b.0 (same-block p commands h b v n [] u) well.office;
          waits = d.0;
          some = more-left s (last_formed s X.had_sync) q refl;
        };
      })

  pub packet-sent : (d : DuePacket) → due_now X ≡ Some d → Kept p commands b
  packet-sent d is = go d is good
    where
      fits : IfSome (due_now X) (DueWell X.waiting s)
      fits = choice (λ (o : Option DuePacket). IfSome o (DueWell X.waiting s)) (nat_lt (length s.unacked) MAX_UNACKED) (due_in X.waiting s) None (λ _. due-well X.waiting s is-stream) (λ _. tt)

      good : DueWell X.waiting s d
      good = subst (λ (o : Option DuePacket). IfSome o (DueWell X.waiting s)) is fits

      go : (e : DuePacket) → due_now X ≡ Some e → DueWell X.waiting s e → Kept p commands b
      go (packet_due.Data end is_sync) at_due x = data-sent end is_sync at_due x
      go packet_due.Sync at_due x = sync-sent at_due
      go packet_due.Last at_due x = last-sent at_due x
