-- An end that answers a primary took what stood next, and what followed.
use Rattle.std.proofs.Common.{◌≡◌, ℕ, Bool, true, false, [], Option, Some, None, Result, Ok, Err, inl, refl, sym, ap, ◌∙◌, subst}
use Rattle.hd_base.specs.declared.ends.Conn.{Conn}
use Rattle.hd_base.specs.declared.files.Files as files
use Rattle.hd_base.specs.declared.links.LinkIn as link_in
use Rattle.hd_base.specs.declared.links.LinkOut as link_out
use Rattle.hd_base.specs.declared.numbers.ConnId.{ConnId}
use Rattle.hd_base.specs.declared.roads.Roads as roads
use Rattle.block_recovery.specs.FrameFeed.Kinds.{requests}
use Rattle.block_recovery.specs.LinkMessages.Next as link
use Rattle.block_recovery.specs.LinkMessages.Next.TheVariants as next
use Rattle.block_recovery.specs.LinkMessages.Incomings.{IncomingState, nothing_received, NextEnds}
use Rattle.link_pieces.specs.Roads.{names, ExchangesEnd, BringsEnd}
use Rattle.op_headers.specs.declared.ops.Op.{Op}
use Rattle.op_headers.specs.declared.ops.Op.TheVariants as op
use Rattle.op_headers.specs.declared.ops.RecoveryOp.{RecoveryOp}
use Rattle.member_events.specs.PipeMember.Looked.TheVariants as looked
use Rattle.member_events.specs.PipeMember.Looks.{looked_of}
use Rattle.block_recovery.specs.ReplicaFiles.BookState.{BookState}
use Rattle.road_traffic.specs.Showing.{Net}
use Rattle.road_traffic.specs.Laws.{left_net}
use Rattle.block_recovery.specs.declared.taking.RecoveryCame.{RecoveryCame}
use Rattle.block_recovery.specs.declared.taking.RecoveryCame.TheVariants as came
use Rattle.block_recovery.specs.Taking.{TakesRequest}
use Rattle.world_orders.specs.World.Delivery.TheVariants as delivery
use Rattle.world_orders.specs.World.Event as happening
use Rattle.world_orders.specs.World.Event.TheVariants as event
use Rattle.world_orders.specs.World.Worlds.{World, apply}
use Rattle.world_orders.specs.World.Connections.{Next, down_taken}
use Rattle.world_orders.specs.World.Nodes.{closing, replica_at}
use Rattle.world_orders.specs.World.Events.{outcome, happens}
use Rattle.member_events.specs.WorldNets.Drawn.{ComesDown}
use Rattle.member_events.specs.WorldNets.Nets.{IsEndOf, held_by, is_over}
use Rattle.member_events.specs.WorldNets.Steps.{taken_net, is_end}
use Rattle.member_events.proofs.WorldNets.FlushingLemmas.{closing-sends}
use Rattle.member_events.proofs.WorldNets.StepLemmas.{taken-over, changed-over, followed}
use Rattle.member_events.specs.Showing.{ShowsWorld, OthersStay}
use Rattle.member_events.proofs.EndLaws.{HeldAt, end_from, end_sends, end_brought}
use Rattle.member_events.proofs.NetLaws.{brought_net, other_passed, other_left}
use Rattle.member_events.proofs.WorldLaws.{taken_same}
use Rattle.recovery_events.specs.declared.answering.Outcome.{Outcome}
use Rattle.recovery_events.specs.declared.answering.Outcome.TheVariants as ended
use Rattle.recovery_events.specs.declared.answering.Recovering.{Recovering}
use Rattle.recovery_events.specs.declared.faults.RecoveryFault.{RecoveryFault}
use Rattle.recovery_events.specs.Answering.{with_outward, AnswersBy, IsEnded, FailsBy, FollowsAsked, FollowsCame}
use Rattle.recovery_events.specs.Drawn.{recovery_next, asked_block, TakesRequests, IsNoRequest}
use Rattle.recovery_events.specs.Events.{GoesOnLeft, EndedLeft, RecoveringStands, IsRequestNext, CanRecover, DownEnds, DownShows}
use Rattle.recovery_events.specs.Outcomes.{going_on}
use Rattle.recovery_events.proofs.AnswerEvents.{EndsAs, answer_ends}
use Rattle.recovery_events.proofs.CameLemmas.{CameNext, came_next, asked_came, over_came, other_known, waits_came, asked_next, other_next, never_waits, has_drawn, has_taken}
use Rattle.recovery_events.proofs.DrawnLemmas.{other_makes}
use Rattle.recovery_events.proofs.WorldLemmas.{ended_world}

-- what came, by what was told of it
came_known : (n : link.Next Op) (q : RecoveryOp) → n ≡ next.Message (op.Recovery q) → looked_of n ≡ looked.Known
came_known n q is = ap (λ (y : link.Next Op). looked_of y) is

waits_known : (n : link.Next Op) → n ≡ next.NotYet → looked_of n ≡ looked.Known
waits_known n is = ap (λ (y : link.Next Op). looked_of y) is

named : (b : ℕ) (x : Next) (q : RecoveryOp) → IsRequestNext b x → x ≡ recovery_next q → asked_block q ≡ b
named b x q h is = (subst (IsRequestNext b) is h).1

-- an end that was taken from, with the outward half that it has
same_end : {I O : Type 0} (e : Conn I O) (half : O) → e.outward ≡ half → with_outward e half ≡ e
same_end e half is = λ j. record { id = e.id; lower = e.lower; inward = e.inward; outward = sym is j }

module _ {F R I O : Type 0} (f : files.Ghosts F) (r : roads.Ghosts R I O) (i : link_in.Ghosts I) (o : link_out.Ghosts O) where
  -- What was left of the world in which something was taken is left of the one before.
  left_from : (w w1 : World) (net n1 : Net) (v : World) (c b : ℕ) (book' : BookState F) (road' : R) (left : Recovering I O) → OthersStay i o w net w1 n1 c None → GoesOnLeft r i o w1 n1 v c b book' road' left → GoesOnLeft r i o w net v c b book' road' left
  left_from w w1 net n1 v c b book' road' left before h = record {
    made = h.made;
    roads_are = h.roads_are;
    lower = h.lower;
    end_is = h.end_is;
    received = h.received;
    replica = h.replica;
    others = λ d lower e none z. h.others d lower e none (before d lower e none z);
  }

  -- the other ends while one takes
  others_taken : (w : World) (net : Net) (c : ℕ) (x : Next) → OthersStay i o w net (down_taken w c x) (taken_net net c true) c None
  others_taken w net c x = λ d b e none z. other_passed r i o w (down_taken w c x) net c None true false false false [] [] d b e none (taken-over w d b c true x none.0) z

  -- A request was taken.
  asked_ends : (w : World) (net : Net) (conn : ConnId) (answered : Bool) (b : ℕ) (x : Next) (q : RecoveryOp) (old : Recovering I O) (held new : Conn I O) (incoming' : IncomingState) (book book' : BookState F) (road middle road' : R) (made : Outcome (Recovering I O))
      → RecoveringStands r i o w net conn.0 b book old road → CanRecover w conn answered b x → ExchangesEnd r i o (names (Some old.end.id) old.end.id) old.end held road middle (Ok tt)
      → TakesRequest i o old.incoming incoming' held new (came.Asked q) → AnswersBy f r i o q (record { end = new; incoming = incoming' }) book book' middle road' made
      → EndsAs (GoesOnLeft r i o w net (happens w (event.Down conn answered)) conn.0 b book' road') (GoesOnLeft r i o w net (happens w (event.Fault (delivery.Down conn))) conn.0 b book' road') made
  asked_ends w net conn answered b x q old held new incoming' book book' road middle road' made stands can ex t by =
      let c : ℕ = conn.0 in
      let h = has_drawn r i o w net c x old.end held road middle stands.roads_are stands.end_is can.comes ex in
      let message_is : t.next ≡ next.Message (op.Recovery q) = asked_came t.next q t.is in
      let ends : NextEnds requests i nothing_received incoming' held.inward new.inward t.next = subst (λ (y : IncomingState). NextEnds requests i y incoming' held.inward new.inward t.next) stands.received t.comes in
      let k : CameNext i x incoming' new.inward t.next = came_next i b x incoming' held.inward new.inward t.next can.next h.held.is.held ends (came_known t.next q message_is) in
      let is : x ≡ recovery_next q = asked_next b x q can.next (sym message_is ∙ k.is) in
      let last : is_end x ≡ false = ap is_end is in
      let n1 : Net = taken_net net c true in
      let taken : HeldAt i o n1 false [] (held_by (is_end x)) c true (with_outward new held.outward) = has_taken r i o w net c x held new old.incoming incoming' middle (came.Asked q) t h k in
      let here : HeldAt i o n1 false [] (held_by (is_end x)) c true new = subst (λ (y : Conn I O). HeldAt i o n1 false [] (held_by (is_end x)) c true y) (same_end new held.outward t.shuts) taken in
      let end_is : IsEndOf i o (down_taken w c x) n1 c true new = end_from i o (down_taken w c x) n1 c true (is_end x) new h.over here in
      let at_block : asked_block q ≡ b = named b x q can.next is in
      from_taken made
      (subst (λ (n : ℕ). EndsAs (done n) (faulted n) made) at_block
      (subst (λ (y : Next). EndsAs (done_at y) (faulted_at y) made) (sym is)
      (answer_ends f r i o w n1 conn answered q (record { end = new; incoming = incoming' }) book book' middle road' made
      (subst (λ (y : Next). ComesDown w c y) is can.comes) (subst TakesRequests (sym stands.lower) tt)
      (subst (λ (y : Next). ShowsWorld r (down_taken w c y) n1 middle) is (record { is_net = h.is_net; sane = h.at.sane; shows = h.at.shows }))
      (subst (λ (y : Next). IsEndOf i o (down_taken w c y) n1 c true new) is end_is)
      (k.received last) (stands.replica ∙ ap (λ (n : ℕ). replica_at w c n) (sym at_block)) can.spelled by)))
    where
      done_at : Next → Recovering I O → Type 0
      done_at y = GoesOnLeft r i o (down_taken w conn.0 y) (taken_net net conn.0 true) (happens w (event.Down conn answered)) conn.0 (asked_block q) book' road'

      faulted_at : Next → Recovering I O → Type 0
      faulted_at y = GoesOnLeft r i o (down_taken w conn.0 y) (taken_net net conn.0 true) (happens w (event.Fault (delivery.Down conn))) conn.0 (asked_block q) book' road'

      done : ℕ → Recovering I O → Type 0
      done n = GoesOnLeft r i o (down_taken w conn.0 x) (taken_net net conn.0 true) (happens w (event.Down conn answered)) conn.0 n book' road'

      faulted : ℕ → Recovering I O → Type 0
      faulted n = GoesOnLeft r i o (down_taken w conn.0 x) (taken_net net conn.0 true) (happens w (event.Fault (delivery.Down conn))) conn.0 n book' road'

      from_taken : (m : Outcome (Recovering I O)) → EndsAs (done b) (faulted b) m
          → EndsAs (GoesOnLeft r i o w net (happens w (event.Down conn answered)) conn.0 b book' road') (GoesOnLeft r i o w net (happens w (event.Fault (delivery.Down conn))) conn.0 b book' road') m
      from_taken (ended.Done left) h = left_from w (down_taken w conn.0 x) net (taken_net net conn.0 true) (happens w (event.Down conn answered)) conn.0 b book' road' left (others_taken w net conn.0 x) h
      from_taken (ended.Faulted left) h = left_from w (down_taken w conn.0 x) net (taken_net net conn.0 true) (happens w (event.Fault (delivery.Down conn))) conn.0 b book' road' left (others_taken w net conn.0 x) h

  -- Anything else was taken.
  closed_left : (w : World) (net : Net) (conn : ConnId) (answered : Bool) (b : ℕ) (x : Next) (old : Recovering I O) (held new : Conn I O) (incoming' : IncomingState) (book : BookState F) (road middle road' : R)
      → RecoveringStands r i o w net conn.0 b book old road → CanRecover w conn answered b x → ExchangesEnd r i o (names (Some old.end.id) old.end.id) old.end held road middle (Ok tt)
      → TakesRequest i o old.incoming incoming' held new came.Over → BringsEnd r i o new middle road' (Ok tt) → EndedLeft r i o w net (happens w (event.Down conn answered)) conn.0 b book road'
  closed_left w net conn answered b x old held new incoming' book road middle road' stands can ex t brings =
      let c : ℕ = conn.0 in
      let w1 : World = down_taken w c x in
      let e : happening.Event = event.Down conn answered in
      let v : World = happens w e in
      let n1 : Net = taken_net net c true in
      let h = has_drawn r i o w net c x old.end held road middle stands.roads_are stands.end_is can.comes ex in
      let other = over_came t.next t.is in
      let ends : NextEnds requests i nothing_received incoming' held.inward new.inward t.next = subst (λ (y : IncomingState). NextEnds requests i y incoming' held.inward new.inward t.next) stands.received t.comes in
      let k : CameNext i x incoming' new.inward t.next = came_next i b x incoming' held.inward new.inward t.next can.next h.held.is.held ends (other_known t.next other) in
      let none : IsNoRequest x = other_next b x t.next can.next other k.is in
      let taken : HeldAt i o n1 false [] (held_by (is_end x)) c true (with_outward new held.outward) = has_taken r i o w net c x held new old.incoming incoming' middle came.Over t h k in
      let sent : HeldAt i o n1 true [] (held_by (is_end x)) c true new =
      end_sends i o n1 (held_by (is_end x)) c true None true (with_outward new held.outward) new
      (record {
        middle = with_outward new held.outward;
        keeps = record { id = refl; lower = refl; inward = refl };
        says = inl refl;
        shuts = record {
          id = refl;
          lower = refl;
          inward = refl;
          half = record { shut = t.shuts.is_shut; sent = t.shuts.sent; flushed = t.shuts.flushed; lost = t.shuts.lost; never_falls = t.shuts.never_falls; schedule = t.shuts.schedule };
        };
      }) taken in
      let left : Net = left_net true n1 c true [] in
      let at = end_brought r i o n1 true [] (held_by (is_end x)) c true middle road' new h.at sent.id sent.side sent.within sent.is brings in
      let out : outcome w e ≡ Some (apply w1 (closing w1 c)) = (other_makes w conn answered x can.comes stands.lower none).done in
      let after = ended_world w w1 c e out in
      let f = followed w (apply w1 (closing w1 c)) e out in
      let n = brought_net w1 n1 (closing w1 c) c None true false [] [] h.is_net (closing-sends w1 c) in
      let same : (d : ℕ) (z : Bool) → is_over v d z ≡ is_over w1 d z = λ d z. f.over d z ∙ changed-over w1 (closing w1 c) d z in
      record {
        made = left;
        roads_are = record { is_net = f.nets left n; sane = at.sane; shows = at.shows };
        lower = after.lower;
        replica = stands.replica ∙ (sym (taken_same w c true x c b).replica ∙ sym (after.replica b));
        others = λ d z y away g. other_left r i o w1 v n1 c None true false [] [] d z y away (same d z) (others_taken w net c x d z y away g);
      }

  -- Nothing has come, which isn't so.
  never_nothing : (w : World) (net : Net) (conn : ConnId) (answered : Bool) (b : ℕ) (x : Next) (old : Recovering I O) (held new : Conn I O) (incoming' : IncomingState) (book : BookState F) (road middle : R)
      → RecoveringStands r i o w net conn.0 b book old road → CanRecover w conn answered b x → ExchangesEnd r i o (names (Some old.end.id) old.end.id) old.end held road middle (Ok tt)
      → TakesRequest i o old.incoming incoming' held new came.NotYet → ⊥
  never_nothing w net conn answered b x old held new incoming' book road middle stands can ex t =
      let h = has_drawn r i o w net conn.0 x old.end held road middle stands.roads_are stands.end_is can.comes ex in
      let nothing : t.next ≡ next.NotYet = waits_came t.next t.is in
      let ends : NextEnds requests i nothing_received incoming' held.inward new.inward t.next = subst (λ (y : IncomingState). NextEnds requests i y incoming' held.inward new.inward t.next) stands.received t.comes in
      let k : CameNext i x incoming' new.inward t.next = came_next i b x incoming' held.inward new.inward t.next can.next h.held.is.held ends (waits_known t.next nothing) in
      never_waits b x can.next (sym nothing ∙ k.is)

  -- WHAT FOLLOWED

  gone_on : (w : World) (net : Net) (conn : ConnId) (answered : Bool) (b : ℕ) (book' : BookState F) (road' : R) (made : Outcome (Recovering I O))
      → EndsAs (GoesOnLeft r i o w net (happens w (event.Down conn answered)) conn.0 b book' road') (GoesOnLeft r i o w net (happens w (event.Fault (delivery.Down conn))) conn.0 b book' road') made
      → DownEnds r i o w net conn answered b book' road' (Ok (going_on made))
  gone_on w net conn answered b book' road' (ended.Done left) h = h
  gone_on w net conn answered b book' road' (ended.Faulted left) h = h

  asked_shows : (q : RecoveryOp) (old : Recovering I O) (held new : Conn I O) (incoming' : IncomingState) (book book' : BookState F) (road middle road' : R) (result : Result (Outcome (Option (Recovering I O))) RecoveryFault)
      → ExchangesEnd r i o (names (Some old.end.id) old.end.id) old.end held road middle (Ok tt) → TakesRequest i o old.incoming incoming' held new (came.Asked q)
      → FollowsAsked f r i o q (record { end = new; incoming = incoming' }) book book' middle road' result → DownShows f r i o old book book' road road' result
  asked_shows q old held new incoming' book book' road middle road' (Err why) ex t h = λ w net conn answered b x stands can. tt
  asked_shows q old held new incoming' book book' road middle road' (Ok made) ex t h = λ w net conn answered b x stands can.
      subst (λ (y : Outcome (Option (Recovering I O))). DownEnds r i o w net conn answered b book' road' (Ok y)) (sym h.is)
      (gone_on w net conn answered b book' road' h.first (asked_ends w net conn answered b x q old held new incoming' book book' road middle road' h.first stands can ex t h.answers))

  over_shows : (old : Recovering I O) (held new : Conn I O) (incoming' : IncomingState) (book : BookState F) (road middle road' : R) (result : Result (Outcome (Option (Recovering I O))) RecoveryFault)
      → ExchangesEnd r i o (names (Some old.end.id) old.end.id) old.end held road middle (Ok tt) → TakesRequest i o old.incoming incoming' held new came.Over
      → IsEnded r i o new middle road' result → DownShows f r i o old book book road road' result
  over_shows old held new incoming' book road middle road' (Err why) ex t h = λ w net conn answered b x stands can. tt
  over_shows old held new incoming' book road middle road' (Ok (ended.Done None)) ex t h = λ w net conn answered b x stands can. closed_left w net conn answered b x old held new incoming' book road middle road' stands can ex t h
  over_shows old held new incoming' book road middle road' (Ok (ended.Done (Some left))) ex t h = absurd h
  over_shows old held new incoming' book road middle road' (Ok (ended.Faulted left)) ex t h = absurd h

  pub failed_shows : (old : Recovering I O) (book book' : BookState F) (road road' : R) (result : Result (Outcome (Option (Recovering I O))) RecoveryFault) (why : RecoveryFault) → result ≡ Err why → DownShows f r i o old book book' road road' result
  failed_shows old book book' road road' result why is = subst (λ (y : Result (Outcome (Option (Recovering I O))) RecoveryFault). DownShows f r i o old book book' road road' y) (sym is) (λ w net conn answered b x stands can. tt)

  link_shows : (P : RecoveryFault → Type 0) (old : Recovering I O) (book book' : BookState F) (road road' : R) (result : Result (Outcome (Option (Recovering I O))) RecoveryFault) → FailsBy P result → DownShows f r i o old book book' road road' result
  link_shows P old book book' road road' (Ok made) h = absurd h
  link_shows P old book book' road road' (Err why) h = λ w net conn answered b x stands can. tt

  waits_shows : (old : Recovering I O) (held new : Conn I O) (incoming' : IncomingState) (book book' : BookState F) (road middle road' : R) (result : Result (Outcome (Option (Recovering I O))) RecoveryFault)
      → ExchangesEnd r i o (names (Some old.end.id) old.end.id) old.end held road middle (Ok tt) → TakesRequest i o old.incoming incoming' held new came.NotYet → DownShows f r i o old book book' road road' result
  waits_shows old held new incoming' book book' road middle road' result ex t = λ w net conn answered b x stands can. absurd (never_nothing w net conn answered b x old held new incoming' book road middle stands can ex t)

  pub down_shows : (q : RecoveryCame) (old : Recovering I O) (held new : Conn I O) (incoming' : IncomingState) (book book' : BookState F) (road middle road' : R) (result : Result (Outcome (Option (Recovering I O))) RecoveryFault)
      → ExchangesEnd r i o (names (Some old.end.id) old.end.id) old.end held road middle (Ok tt) → TakesRequest i o old.incoming incoming' held new q
      → FollowsCame f r i o q (record { end = new; incoming = incoming' }) book book' middle road' result → DownShows f r i o old book book' road road' result
  down_shows (came.Asked q) old held new incoming' book book' road middle road' result ex t h = asked_shows q old held new incoming' book book' road middle road' result ex t h
  down_shows came.Over old held new incoming' book book' road middle road' result ex t h =
      subst (λ (y : BookState F). DownShows f r i o old book y road road' result) (sym h.0) (over_shows old held new incoming' book road middle road' result ex t h.1)
  down_shows came.NotYet old held new incoming' book book' road middle road' result ex t h = waits_shows old held new incoming' book book' road middle road' result ex t
  down_shows came.LinkFailed old held new incoming' book book' road middle road' result ex t h = link_shows _ old book book' road road' result h.1
  down_shows came.Memory old held new incoming' book book' road middle road' result ex t h = failed_shows old book book' road road' result _ h.1
