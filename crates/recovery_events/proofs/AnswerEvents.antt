-- A request of a recovery was answered: roads, book and end show the world after the event.
use Rattle.std.proofs.Common.{◌≡◌, ℕ, Bool, true, false, List, [], ◌∷◌, Option, Some, None, Result, Ok, Err, refl, sym, ◌∙◌, subst}
use Rattle.hd_base.specs.declared.ends.Conn.{Conn}
use Rattle.hd_base.specs.declared.files.Files as files
use Rattle.hd_base.specs.declared.links.LinkIn as link_in
use Rattle.hd_base.specs.declared.links.LinkOut as link_out
use Rattle.hd_base.specs.declared.numbers.ConnId.{ConnId}
use Rattle.hd_base.specs.declared.roads.Roads as roads
use Rattle.block_recovery.specs.LinkMessages.Incomings.{IncomingState, nothing_received}
use Rattle.link_pieces.specs.Pieces.{SendsPiece}
use Rattle.link_pieces.specs.Roads.{ExchangesEnd}
use Rattle.op_headers.specs.declared.answers.RecoveryAnswer.{RecoveryAnswer}
use Rattle.op_headers.specs.declared.ops.RecoveryOp.{RecoveryOp}
use Rattle.op_headers.specs.Answers.{answer_text}
use Rattle.block_recovery.specs.RecoveryCore.Members.{Served, recovery_event, serve, serve_faulted, answer_of}
use Rattle.replica_core.specs.declared.events.Event.{Event}
use Rattle.block_recovery.specs.ReplicaModel.ReplicaEvent.TheVariants as replica_event
use Rattle.block_recovery.specs.ReplicaModel.Rows.{FullReplica}
use Rattle.block_recovery.specs.ReplicaFiles.BookState.{BookState}
use Rattle.block_recovery.specs.ReplicaFiles.Books.{replica_of}
use Rattle.road_traffic.specs.Showing.{Net, exchanged_net}
use Rattle.block_recovery.specs.declared.serving.RecoveryServed.{RecoveryServed}
use Rattle.block_recovery.specs.declared.serving.RecoveryServed.TheVariants as served
use Rattle.block_recovery.specs.Serving.{ServesAs}
use Rattle.block_recovery.specs.Telling.{SendsAnswer, answer_in}
use Rattle.world_orders.specs.World.Delivery.TheVariants as delivery
use Rattle.world_orders.specs.World.Event as happening
use Rattle.world_orders.specs.World.Event.TheVariants as event
use Rattle.world_orders.specs.World.Parts.{recovery_answer, Break}
use Rattle.world_orders.specs.World.Worlds.{World, Change, apply}
use Rattle.world_orders.specs.World.Connections.{down_taken}
use Rattle.world_orders.specs.World.Nodes.{node_of, replica_at, broke_at, recovery_change}
use Rattle.world_orders.specs.World.Events.{outcome, happens}
use Rattle.member_events.specs.WorldNets.Drawn.{ComesDown}
use Rattle.member_events.specs.WorldNets.Nets.{IsNetOf, IsEndOf, held_by, is_over}
use Rattle.member_events.proofs.WorldNets.StepLemmas.{changed-over, followed}
use Rattle.member_events.specs.Showing.{ShowsWorld}
use Rattle.member_events.specs.Texts.{SpellUp}
use Rattle.member_events.proofs.EndLaws.{HeldAt, end_held, end_from, end_sends, end_passes}
use Rattle.member_events.proofs.MemberLaws.{never}
use Rattle.member_events.proofs.NetLaws.{passed_net, other_passed}
use Rattle.member_events.proofs.WorldLaws.{taken_same}
use Rattle.recovery_events.specs.declared.answering.Outcome.{Outcome}
use Rattle.recovery_events.specs.declared.answering.Outcome.TheVariants as ended
use Rattle.recovery_events.specs.declared.answering.Recovering.{Recovering}
use Rattle.recovery_events.specs.declared.faults.RecoveryFault.{RecoveryFault}
use Rattle.recovery_events.specs.Answering.{with_outward, AnswersBy, Answers}
use Rattle.recovery_events.specs.Drawn.{recovery_next, asked_block, TakesRequests}
use Rattle.recovery_events.specs.Events.{GoesOnLeft, SpellAnswers, RequestEnds, RequestShows}
use Rattle.recovery_events.specs.Outcomes.{outcome_of}
use Rattle.recovery_events.specs.Sending.{answer_messages}
use Rattle.recovery_events.proofs.DrawnLemmas.{request_makes}
use Rattle.recovery_events.proofs.SendingLemmas.{recovery_sends}
use Rattle.recovery_events.proofs.ServedLemmas.{IsServed, answered_so, unbooked_so, failed_so, answer_encodable, last_spelled, sent_whole}
use Rattle.recovery_events.proofs.WorldLemmas.{answered_world}

-- THE EVENTS

-- the world after a request was answered
done_out : (w : World) (conn : ConnId) (answered : Bool) (q : RecoveryOp) (was : FullReplica) → ComesDown w conn.0 (recovery_next q) → TakesRequests (w.lowers conn.0) → was ≡ replica_at w conn.0 (asked_block q)
    → outcome w (event.Down conn answered) ≡ Some (apply (down_taken w conn.0 (recovery_next q)) (recovery_change (down_taken w conn.0 (recovery_next q)) conn.0 q (serve was q) ((down_taken w conn.0 (recovery_next q)).breaks (node_of (down_taken w conn.0 (recovery_next q)) conn.0) (asked_block q))))
done_out w conn answered q was comes takes same =
    let w1 : World = down_taken w conn.0 (recovery_next q) in
    let here : was ≡ replica_at w1 conn.0 (asked_block q) = same ∙ sym (taken_same w conn.0 true (recovery_next q) conn.0 (asked_block q)).replica in
    subst (λ (y : FullReplica). outcome w (event.Down conn answered) ≡ Some (apply w1 (recovery_change w1 conn.0 q (serve y q) (w1.breaks (node_of w1 conn.0) (asked_block q))))) (sym here)
    (request_makes w conn answered q comes takes).done

-- and after one in whose event a call on files failed
faulted_out : (w : World) (conn : ConnId) (q : RecoveryOp) (e : Event) (was : FullReplica) → ComesDown w conn.0 (recovery_next q) → TakesRequests (w.lowers conn.0) → was ≡ replica_at w conn.0 (asked_block q) → recovery_event q ≡ Ok e
    → outcome w (event.Fault (delivery.Down conn)) ≡ Some (apply (down_taken w conn.0 (recovery_next q)) (recovery_change (down_taken w conn.0 (recovery_next q)) conn.0 q (serve_faulted was) (broke_at (down_taken w conn.0 (recovery_next q)) conn.0 (asked_block q) (replica_event.Other e))))
faulted_out w conn q e was comes takes same is =
    let w1 : World = down_taken w conn.0 (recovery_next q) in
    let here : was ≡ replica_at w1 conn.0 (asked_block q) = same ∙ sym (taken_same w conn.0 true (recovery_next q) conn.0 (asked_block q)).replica in
    subst (λ (y : FullReplica). outcome w (event.Fault (delivery.Down conn)) ≡ Some (apply w1 (recovery_change w1 conn.0 q (serve_faulted y) (broke_at w1 conn.0 (asked_block q) (replica_event.Other e))))) (sym here)
    ((request_makes w conn false q comes takes).faulted e is)

-- ROADS, BOOK AND END

-- what an outcome leaves shows one world or another
abbrev pub EndsAs : {I O : Type 0} → (Recovering I O → Type 0) → (Recovering I O → Type 0) → Outcome (Recovering I O) → Type 0
EndsAs done faulted (ended.Done left) = done left
EndsAs done faulted (ended.Faulted left) = faulted left

module _ {F R I O : Type 0} (f : files.Ghosts F) (r : roads.Ghosts R I O) (i : link_in.Ghosts I) (o : link_out.Ghosts O) where
  -- The answer was sent, and the end was exchanged.
  goes_on : (w w1 : World) (net : Net) (e : happening.Event) (c : ℕ) (q : RecoveryOp) (s : Served) (broke : Option Break) (a : RecoveryAnswer) (book' : BookState F) (old : Recovering I O) (half : O) (new : Conn I O) (road road' : R)
      → outcome w e ≡ Some (apply w1 (recovery_change w1 c q s broke)) → ShowsWorld r w1 net road → IsEndOf i o w1 net c true old.end → old.incoming ≡ nothing_received → SpellUp (happens w e) c
      → IsServed book' s a → SendsAnswer o (Some a) old.end.outward half → ExchangesEnd r i o false (with_outward old.end half) new road road' (Ok tt)
      → GoesOnLeft r i o w1 net (happens w e) c (asked_block q) book' road' (record { end = new; incoming = old.incoming })
  goes_on w w1 net e c q s broke a book' old half new road road' out shows is received spelled served sends ex =
      let v : World = happens w e in
      let k : Change = recovery_change w1 c q s broke in
      let over : Bool = is_over w1 c true in
      let said : RecoveryAnswer = answer_of s.reply in
      let texts : List (List ℕ) = answer_text said ∷ [] in
      let after = answered_world w w1 c q s broke e out in
      let whole : SendsAnswer o (Some said) old.end.outward half = subst (λ (y : RecoveryAnswer). SendsAnswer o (Some y) old.end.outward half) served.answer_is sends in
      let piece : SendsPiece o (answer_text said) old.end.outward half = sent_whole o said old.end.outward half (answer_encodable s.reply (last_spelled v c (w1.ups c) (recovery_answer said) spelled after.ups)) whole in
      let sent : HeldAt i o net false texts (held_by over) c true (with_outward old.end half) =
      end_sends i o net (held_by over) c true (Some (answer_text said)) false old.end (with_outward old.end half)
      (record { middle = with_outward old.end half; keeps = record { id = refl; lower = refl; inward = refl }; says = piece; shuts = refl }) (end_held i o w1 net c true old.end is) in
      let p = end_passes r i o net false false texts (held_by over) c true road road' (with_outward old.end half) new (record { sane = shows.sane; shows = shows.shows }) sent (λ z. never z) ex in
      let made : Net = exchanged_net net c true false false texts in
      let nets : IsNetOf (apply w1 k) made = passed_net w1 net k c None false false (answer_messages s) [] shows.is_net (recovery_sends w1 c q s broke) in
      let f = followed w (apply w1 k) e out in
      let same : (d : ℕ) (b : Bool) → is_over v d b ≡ is_over w1 d b = λ d b. f.over d b ∙ changed-over w1 k d b in
      record {
        made = made;
        roads_are = record { is_net = f.nets made nets; sane = p.roads_at.sane; shows = p.roads_at.shows };
        lower = after.lower;
        end_is = end_from i o v made c true over new (same c true) p.held;
        received = received;
        replica = served.replica ∙ sym after.replica;
        others = λ d b z none h. other_passed r i o w1 v net c None false false false false texts [] d b z none (same d b) h;
      }

  -- A request was answered that came in this world, as it was served.
  pub answer_ends : (w : World) (net : Net) (conn : ConnId) (answered : Bool) (q : RecoveryOp) (old : Recovering I O) (book book' : BookState F) (road road' : R) (made : Outcome (Recovering I O))
      → ComesDown w conn.0 (recovery_next q) → TakesRequests (w.lowers conn.0) → ShowsWorld r (down_taken w conn.0 (recovery_next q)) net road → IsEndOf i o (down_taken w conn.0 (recovery_next q)) net conn.0 true old.end
      → old.incoming ≡ nothing_received → replica_of book ≡ replica_at w conn.0 (asked_block q) → SpellAnswers w conn answered → AnswersBy f r i o q old book book' road road' made
      → EndsAs (GoesOnLeft r i o (down_taken w conn.0 (recovery_next q)) net (happens w (event.Down conn answered)) conn.0 (asked_block q) book' road')
      (GoesOnLeft r i o (down_taken w conn.0 (recovery_next q)) net (happens w (event.Fault (delivery.Down conn))) conn.0 (asked_block q) book' road') made
  answer_ends w net conn answered q old book book' road road' made comes takes shows is received replica spelled by =
      subst (EndsAs done faulted) (sym by.hands_back.is) (served_ends by.served by.serves by.sends)
    where
      w1 : World
      w1 = down_taken w conn.0 (recovery_next q)

      done : Recovering I O → Type 0
      done = GoesOnLeft r i o w1 net (happens w (event.Down conn answered)) conn.0 (asked_block q) book' road'

      faulted : Recovering I O → Type 0
      faulted = GoesOnLeft r i o w1 net (happens w (event.Fault (delivery.Down conn))) conn.0 (asked_block q) book' road'

      done_by : (a : RecoveryAnswer) → IsServed book' (serve (replica_of book) q) a → SendsAnswer o (Some a) old.end.outward by.half → done (record { end = by.hands_back.new; incoming = old.incoming })
      done_by a k sends = goes_on w w1 net (event.Down conn answered) conn.0 q (serve (replica_of book) q) (w1.breaks (node_of w1 conn.0) (asked_block q)) a book' old by.half by.hands_back.new road road' (done_out w conn answered q (replica_of book) comes takes replica) shows is received spelled.done k sends by.hands_back.exchanges

      served_ends : (s : RecoveryServed) → ServesAs f (recovery_event q) book book' s → SendsAnswer o (answer_in s) old.end.outward by.half → EndsAs done faulted (outcome_of s (record { end = by.hands_back.new; incoming = old.incoming }))
      served_ends (served.Answered a receipt) serves sends = done_by a (answered_so f (recovery_event q) book book' a receipt serves) sends
      served_ends (served.Unbooked a) serves sends = done_by a (unbooked_so f (recovery_event q) book book' a serves) sends
      served_ends (served.File a receipt) serves sends =
          let k = failed_so f (recovery_event q) book book' a receipt serves in
          goes_on w w1 net (event.Fault (delivery.Down conn)) conn.0 q (serve_faulted (replica_of book)) (broke_at w1 conn.0 (asked_block q) (replica_event.Other k.booked)) a book' old by.half by.hands_back.new road road' (faulted_out w conn q k.booked (replica_of book) comes takes replica k.is) shows is received spelled.faulted k.served sends by.hands_back.exchanges
      served_ends served.Memory serves sends = absurd sends

  -- THE FIRST REQUEST

  made_ends : (w : World) (net : Net) (conn : ConnId) (answered : Bool) (q : RecoveryOp) (book' : BookState F) (road' : R) (made : Outcome (Recovering I O))
      → EndsAs (GoesOnLeft r i o (down_taken w conn.0 (recovery_next q)) net (happens w (event.Down conn answered)) conn.0 (asked_block q) book' road')
      (GoesOnLeft r i o (down_taken w conn.0 (recovery_next q)) net (happens w (event.Fault (delivery.Down conn))) conn.0 (asked_block q) book' road') made
      → RequestEnds r i o w net conn answered q book' road' (Ok made)
  made_ends w net conn answered q book' road' (ended.Done left) h = h
  made_ends w net conn answered q book' road' (ended.Faulted left) h = h

  pub request_shows : (q : RecoveryOp) (end : Conn I O) (incoming : IncomingState) (book book' : BookState F) (road road' : R) (result : Result (Outcome (Recovering I O)) RecoveryFault)
      → Answers f r i o q (record { end = end; incoming = incoming }) book book' road road' result → RequestShows f r i o q end incoming book book' road road' result
  request_shows q end incoming book book' road road' (Err why) h = λ w net conn answered stands spelled. tt
  request_shows q end incoming book book' road road' (Ok made) h = λ w net conn answered stands spelled.
      made_ends w net conn answered q book' road' made
      (answer_ends w net conn answered q (record { end = end; incoming = incoming }) book book' road road' made stands.comes (subst TakesRequests (sym stands.lower) tt) stands.roads_are stands.end_is stands.received stands.replica spelled h)
