-- A node sends the next packet of a read that it serves: what is left shows the world after the event.
use Rattle.std.proofs.Common.{◌≡◌, ℕ, Bool, true, false, not, List, [], ◌∷◌, map, Option, Some, None, IfSome, Result, Ok, Err, refl, sym, ap, inr, ◌∙◌, subst}
use Rattle.hd_base.specs.FileMaps.{FileMap}
use Rattle.hd_base.specs.Faults.{FaultsIncreased}
use Rattle.hd_base.specs.declared.files.Files as files
use Rattle.hd_base.specs.declared.links.LinkIn as link_in
use Rattle.hd_base.specs.declared.links.LinkOut as link_out
use Rattle.hd_base.specs.declared.numbers.ConnId.{ConnId}
use Rattle.hd_base.specs.declared.numbers.Receipt.{Receipt}
use Rattle.hd_base.specs.declared.roads.Roads as roads
use Rattle.link_pieces.specs.Roads.{ExchangesEnd}
use Rattle.packet_codec.specs.Packets.{packet_text}
use Rattle.packet_codec.specs.declared.packets.Packet.{Packet}
use Rattle.replica_core.specs.declared.events.Event.{Event}
use Rattle.replica_model.specs.Rows.{FullReplica, broken}
use Rattle.member_events.specs.ReplicaFiles.BookState.{BookState}
use Rattle.member_events.specs.ReplicaFiles.Books.{replica_of}
use Rattle.visible_read.specs.ReadCore.Servings.{ServingState, Piece, packet_of, piece_of, piece_at, early_end, next_call, sent as sent_on}
use Rattle.road_traffic.specs.Showing.{Net}
use Rattle.visible_read.specs.declared.answering.Course.{Course}
use Rattle.visible_read.specs.declared.answering.Course.TheVariants as course
use Rattle.visible_read.specs.declared.answering.Served.{Served}
use Rattle.visible_read.specs.declared.answering.Served.TheVariants as served
use Rattle.visible_read.specs.declared.answering.Took.{Took}
use Rattle.visible_read.specs.Packets.{passed_by, passed_on, SendsNext}
use Rattle.visible_read.specs.Servings.{ServingRun, is_over as has_ended, left, Does}
use Rattle.visible_read.proofs.PacketLemmas.{is-last}
use Rattle.visible_read.proofs.ReadLemmas.{follows}
use Rattle.member_events.specs.World.Delivery.TheVariants as delivery
use Rattle.member_events.specs.World.Event.{Event as WorldEvent}
use Rattle.member_events.specs.World.Event.TheVariants as event
use Rattle.member_events.specs.World.Parts.{Message, packet, ended_below}
use Rattle.member_events.specs.World.Worlds.{World, Change, listed, apply}
use Rattle.member_events.specs.World.Nodes.{replica_at, piece_change}
use Rattle.member_events.specs.World.Events.{outcome, happens}
use Rattle.member_events.specs.WorldNets.Rows.{text_of}
use Rattle.member_events.specs.WorldNets.Nets.{held_by, is_over}
use Rattle.member_events.specs.WorldNets.Flushing.{lower_flush}
use Rattle.member_events.specs.WorldNets.Steps.{SendsBy}
use Rattle.member_events.specs.Beginning.{Closes}
use Rattle.member_events.proofs.CauseLaws.{out_failed}
use Rattle.member_events.proofs.EndLaws.{HeldAt, RoadsAt, end_held, end_sends}
use Rattle.link_pieces.specs.Pieces.{SendsNothing}
use Rattle.member_events.proofs.TurnEnds.{HasSaid}
use Rattle.serving_events.specs.declared.faults.ServeFault.{ServeFault}
use Rattle.serving_events.specs.declared.faults.ServeFault.TheVariants as fault
use Rattle.serving_events.specs.declared.steps.Outcome.{Outcome}
use Rattle.serving_events.specs.declared.steps.Outcome.TheVariants as outcome_is
use Rattle.serving_events.specs.declared.steps.ServedRead.{ServedRead}
use Rattle.serving_events.specs.declared.steps.Stepped.{Stepped}
use Rattle.serving_events.specs.Drawn.{block_of, breaks_packet}
use Rattle.serving_events.specs.Faults.{IsCausedInRequest}
use Rattle.serving_events.specs.Packets.{is_short, IsMissing, CanSend, PacketEnds, PacketShows}
use Rattle.serving_events.specs.Showing.{IsAt, ReadStands, GoesOn, HasEnded}
use Rattle.serving_events.specs.Steps.{StepsRead, IsLost, FailsBy, PlacesOpen, PlacesShut, IsPlaced}
use Rattle.serving_events.proofs.DrawnLaws.{packet_makes, read_sends}
use Rattle.serving_events.proofs.EndMoves.{opened, closed}
use Rattle.serving_events.proofs.FaultLaws.{memory_caused, road_caused, lost_caused, request_caused}
use Rattle.serving_events.proofs.PacketSteps.{call_is, last_none, SendsPacket, IsRefused, HasFailed, HasTooFew, Sending, sends, refuses, fails, lacks, unmade, lost, sending_of}
use Rattle.serving_events.proofs.WorldAfter.{AfterChange, after_change, still_replica, new_replica}

one_flag : (a : Bool) → a ≡ true → a ≡ false → ⊥
one_flag a h k = cc

-- the read behind a packet that was sent, and whether more follow
behind : (b : Bool) (s : ServingState) (p : Packet) (receipt : Receipt) → (b ≡ true → next_call (sent_on s) ≡ None) → IsAt (sent_on s) (passed_by b s p receipt).course
behind true s p receipt none = none refl
behind false s p receipt none = refl

module _ {F R I O : Type 0} (f : files.Ghosts F) (r : roads.Ghosts R I O) (i : link_in.Ghosts I) (o : link_out.Ghosts O) (w : World) (net : Net) (conn : ConnId) (b : ℕ) (s : ServingState) (e : Event) (book book' : BookState F) (read : ServedRead I O) (st : Stepped I O) (road road' : R) where
  -- What is known where a packet was sent, or wasn't.
  record HasStepped (took : Took) : Type 0 where
    stands : ReadStands r i o w net conn.0 b s book read road
    can : CanSend w conn.0 s e
    step : StepsRead f o read book book' st
    leaves : st.read.serving ≡ left read.serving took
    ends : st.served ≡ took.served

  said : (took : Took) → HasStepped took → (text : Option (List ℕ)) → HasSaid o text read.end.outward st.read.end.outward → HeldAt i o net false (listed text) (held_by (is_over w conn.0 true)) conn.0 true st.read.end
  said took h text says =
      end_sends i o net (held_by (is_over w conn.0 true)) conn.0 true text false read.end st.read.end (record { middle = st.read.end; keeps = h.step.keeps; says = says; shuts = refl }) (end_held i o w net conn.0 true read.end h.stands.shows.end_is)

  roads_at : (took : Took) → HasStepped took → RoadsAt r net road
  roads_at took h = record { sane = h.stands.roads_are.sane; shows = h.stands.roads_are.shows }

  -- the read once a packet was sent
  sent_at : (took : Took) (body : List ℕ) (receipt : Receipt) → HasStepped took → took ≡ passed_on s (packet_of s body) receipt → IsAt (sent_on s) st.read.serving.course
  sent_at took body receipt h is =
      subst (λ (x : Course). IsAt (sent_on s) x) (sym (ap (λ (y : ServingRun). y.course) h.leaves ∙ ap (λ (t : Took). t.course) is))
      (behind (packet_of s body).last s (packet_of s body) receipt (λ last. last_none s (call_is s e h.can.call).sending (sym (is-last s body) ∙ last)))

  served_on : (took : Took) → HasStepped took → (x : SendsPacket f o s book book' read.end.outward st.read.end.outward took) → x.body ≡ piece_of (replica_of book) s → (new : ServedRead I O) → new.serving ≡ st.read.serving
      → ExchangesEnd r i o false st.read.end new.end road road' (Ok tt) → GoesOn r i o w net (happens w (event.Ready conn)) conn.0 b book' road' new
  served_on took h x whole new kept ex =
      let c : ℕ = conn.0 in
      let v : World = happens w (event.Ready conn) in
      let p : Packet = packet_of s x.body in
      let piece : Piece = record { serving = sent_on s; packet = Some p } in
      let k : Change = piece_change w c b piece in
      let ms : List Message = packet p ∷ [] in
      let over : Bool = is_over w c true in
      let is_piece : piece_at s (replica_at w c b) ≡ piece =
      ap (λ (y : FullReplica). piece_at s y) (sym h.stands.replica) ∙ ((follows s (replica_of book)).taken x.takes ∙ ap (λ (z : List ℕ). record { serving = sent_on s; packet = Some (packet_of s z) }) (sym whole)) in
      let out : outcome w (event.Ready conn) ≡ Some (apply w k) = (packet_makes w conn b s e h.can.served h.stands.lower h.can.call).sent ∙ ap (λ (y : Piece). Some (apply w (piece_change w c b y))) is_piece in
      let a = after_change w w c k (event.Ready conn) out refl refl in
      let held : HeldAt i o net false (map text_of ms) (held_by over) c true st.read.end = said took h (Some (packet_text p)) x.says in
      let m = opened r i o w w net (event.Ready conn) c k ms over road road' st.read.end new.end refl (record { out = out; is_net = h.stands.roads_are.is_net; roads_at = roads_at took h; held = held; sends = (read_sends w c b).sends piece }) ex in
      record {
        made = m.moved.made;
        roads_are = m.moved.roads_are;
        state = sent_on s;
        lower = a.lower;
        shows = record {
          end_is = m.end_is;
          of_block = ap (λ (y : ServingRun). block_of y.op) kept ∙ (ap (λ (y : ServingRun). block_of y.op) h.leaves ∙ h.stands.shows.of_block);
          at = subst (λ (y : Course). IsAt (sent_on s) y) (sym (ap (λ (y : ServingRun). y.course) kept)) (sent_at took x.body x.receipt h x.is);
        };
        replica = x.stays.same ∙ (h.stands.replica ∙ sym (still_replica w v c b k a refl));
        others = m.moved.others;
      }

  served_if : (took : Took) (map_of : Option FileMap) → HasStepped took → (x : SendsPacket f o s book book' read.end.outward st.read.end.outward took) → IfSome map_of (λ _. x.body ≡ piece_of (replica_of book) s) → (new : ServedRead I O)
      → new.serving ≡ st.read.serving → ExchangesEnd r i o false st.read.end new.end road road' (Ok tt) → IfSome map_of (λ _. GoesOn r i o w net (happens w (event.Ready conn)) conn.0 b book' road' new)
  served_if took None h x bytes new kept ex = tt
  served_if took (Some m) h x bytes new kept ex = served_on took h x bytes new kept ex

  -- IT HAS ENDED

  -- A change by which nothing is sent, and the connection ends.
  record ClosesBy (x : WorldEvent) (k : Change) : Type 0 where
    out : outcome w x ≡ Some (apply w k)
    here : k.lower_at ≡ conn.0
    over : k.lower ≡ ended_below
    none : k.dials ≡ []
    sends : SendsBy w k (lower_flush conn.0 true [] ∷ [])
    replica : AfterChange w (happens w x) conn.0 k → replica_of book' ≡ replica_at (happens w x) conn.0 b

  served_shut : (took : Took) → HasStepped took → (x : WorldEvent) (k : Change) → ClosesBy x k → SendsNothing o read.end.outward st.read.end.outward → Closes r i o st.read.end road road' → HasEnded r i o w net (happens w x) conn.0 b book' road'
  served_shut took h x k by none cl =
      let c : ℕ = conn.0 in
      let over : Bool = is_over w c true in
      let a = after_change w w c k x by.out by.here by.none in
      let m = closed r i o w w net x c k [] (held_by over) road road' st.read.end (record { out = by.out; is_net = h.stands.roads_are.is_net; roads_at = roads_at took h; held = said took h None (inr none); sends = by.sends }) cl in
      record { made = m.made; roads_are = m.roads_are; lower = a.lower ∙ by.over; replica = by.replica a; others = m.others }

  refused_by : (took : Took) → HasStepped took → (x : IsRefused o s book book' read.end.outward st.read.end.outward took) → ClosesBy (event.Ready conn) (piece_change w conn.0 b (early_end s))
  refused_by took h x =
      let c : ℕ = conn.0 in
      let k : Change = piece_change w c b (early_end s) in
      let is_piece : piece_at s (replica_at w c b) ≡ early_end s = ap (λ (y : FullReplica). piece_at s y) (sym h.stands.replica) ∙ (follows s (replica_of book)).refused x.why x.refused in
      record {
        out = (packet_makes w conn b s e h.can.served h.stands.lower h.can.call).sent ∙ ap (λ (y : Piece). Some (apply w (piece_change w c b y))) is_piece;
        here = refl;
        over = refl;
        none = refl;
        sends = (read_sends w c b).sends (early_end s);
        replica = λ a. x.stays.same ∙ (h.stands.replica ∙ sym (still_replica w (happens w (event.Ready conn)) c b k a refl));
      }

  broken_by : (took : Took) → HasStepped took → (x : HasFailed f o book book' read.end.outward st.read.end.outward took) → ClosesBy (event.Fault (delivery.Ready conn)) (breaks_packet w conn.0 b e)
  broken_by took h x =
      let c : ℕ = conn.0 in
      record {
        out = (packet_makes w conn b s e h.can.served h.stands.lower h.can.call).faulted;
        here = refl;
        over = refl;
        none = refl;
        sends = (read_sends w c b).breaks _ _ _;
        replica = λ a. x.breaks ∙ (ap (λ (y : FullReplica). broken y) h.stands.replica ∙ sym (new_replica w (happens w (event.Fault (delivery.Ready conn))) c b (breaks_packet w c b e) a refl refl));
      }

  -- HOW IT ENDS

  caused : (why : ServeFault) → IsCausedInRequest f r conn.0 book road road' why → PacketEnds f r i o w net conn b book book' road road' (Err why)
  caused why h = request_caused f r i o conn.0 book road road' why h

  sent_ends : (took : Took) (result : Result (Outcome I O) ServeFault) → HasStepped took → SendsPacket f o s book book' read.end.outward st.read.end.outward took → PlacesOpen r i o st.read road road' result → PacketEnds f r i o w net conn b book book' road road' result
  sent_ends took (Ok (outcome_is.Serves new)) h x p = served_if took (f.files book.drawer) h x x.bytes new p.0 p.1
  sent_ends took (Ok outcome_is.Ended) h x p = absurd p
  sent_ends took (Ok outcome_is.Faulted) h x p = absurd p
  sent_ends took (Err why) h x p = caused why (road_caused f r i o conn.0 book road road' why p)

  refused_ends : (took : Took) (result : Result (Outcome I O) ServeFault) → HasStepped took → IsRefused o s book book' read.end.outward st.read.end.outward took → PlacesShut r i o st.breaks st.read.end road road' result → PacketEnds f r i o w net conn b book book' road road' result
  refused_ends took (Ok (outcome_is.Serves new)) h x p = absurd p
  refused_ends took (Ok outcome_is.Ended) h x p = served_shut took h (event.Ready conn) _ (refused_by took h x) x.none p.1
  refused_ends took (Ok outcome_is.Faulted) h x p = absurd (one_flag st.breaks p.0 (h.step.breaks ∙ x.stays.whole))
  refused_ends took (Err why) h x p = caused why (memory_caused f r i o conn.0 book road road' why p)

  failed_ends : (took : Took) (result : Result (Outcome I O) ServeFault) → HasStepped took → HasFailed f o book book' read.end.outward st.read.end.outward took → PlacesShut r i o st.breaks st.read.end road road' result → PacketEnds f r i o w net conn b book book' road road' result
  failed_ends took (Ok (outcome_is.Serves new)) h x p = absurd p
  failed_ends took (Ok outcome_is.Ended) h x p = absurd (one_flag st.breaks (h.step.breaks ∙ x.broke) p.0)
  failed_ends took (Ok outcome_is.Faulted) h x p = record { rose = x.rose; ends = served_shut took h (event.Fault (delivery.Ready conn)) _ (broken_by took h x) x.none p.1 }
  failed_ends took (Err why) h x p = caused why (memory_caused f r i o conn.0 book road road' why p)

  memory_ends : (result : Result (Outcome I O) ServeFault) → FailsBy (λ why. why ≡ fault.Memory) result → PacketEnds f r i o w net conn b book book' road road' result
  memory_ends (Ok left) p = absurd p
  memory_ends (Err why) p = caused why (memory_caused f r i o conn.0 book road road' why p)

  lost_ends : (took : Took) (result : Result (Outcome I O) ServeFault) → HasStepped took → FaultsIncreased (o.faults read.end.outward) (o.faults st.read.end.outward) → FailsBy (IsLost r i o st.read.end road road') result → PacketEnds f r i o w net conn b book book' road road' result
  lost_ends took (Ok left) h rose p = absurd p
  lost_ends took (Err why) h rose p =
      caused why (lost_caused f r i o conn.0 book road road' st.read.end why (ap (λ (y : ConnId). y.0) h.step.keeps.id ∙ h.stands.shows.end_is.id) (out_failed i o (o.faults read.end.outward) st.read.end rose) p)

  -- how it ended where a packet was sent
  sent_open : (last : Bool) (p : Packet) (receipt : Receipt) (result : Result (Outcome I O) ServeFault) → IsPlaced r i o (passed_by last s p receipt).served st road road' result → PlacesOpen r i o st.read road road' result
  sent_open true p receipt result x = x
  sent_open false p receipt result x = x

  at_served : (took : Took) (y : Option Served) (result : Result (Outcome I O) ServeFault) → HasStepped took → took.served ≡ y → IsPlaced r i o st.served st road road' result → IsPlaced r i o y st road road' result
  at_served took y result h is p = subst (λ (z : Option Served). IsPlaced r i o z st road road' result) (h.ends ∙ is) p

  short_not : (took : Took) → HasStepped took → HasTooFew f book book' took → is_short st.served st.breaks ≡ false → ⊥
  short_not took h x fine =
      one_flag (is_short st.served st.breaks) (ap (λ (y : Option Served). is_short y st.breaks) (h.ends ∙ x.is) ∙ ap not (h.step.breaks ∙ x.whole)) fine

  placed_ends : (took : Took) (result : Result (Outcome I O) ServeFault) → HasStepped took → Sending f o s book book' read.end.outward st.read.end.outward took → is_short st.served st.breaks ≡ false → IsPlaced r i o st.served st road road' result
      → PacketEnds f r i o w net conn b book book' road road' result
  placed_ends took result h (sends x) fine p =
      sent_ends took result h x (sent_open (packet_of s x.body).last (packet_of s x.body) x.receipt result (at_served took (passed_on s (packet_of s x.body) x.receipt).served result h (ap (λ (t : Took). t.served) x.is) p))
  placed_ends took result h (refuses x) fine p = refused_ends took result h x (at_served took (Some (served.Refused x.why)) result h x.is p)
  placed_ends took result h (fails x) fine p = failed_ends took result h x (at_served took (Some served.File) result h x.is p)
  placed_ends took result h (lacks x) fine p = absurd (short_not took h x fine)
  placed_ends took result h (unmade is) fine p = memory_ends result (at_served took (Some served.Memory) result h is p)
  placed_ends took result h (lost is rose) fine p = lost_ends took result h rose (at_served took (Some served.LinkFailed) result h is p)

  -- WHERE BYTES ARE MISSING

  few_caused : (why : ServeFault) → f.files book.drawer ≡ None → IsMissing why → PacketEnds f r i o w net conn b book book' road road' (Err why)
  few_caused fault.BytesMissing hidden h = hidden
  few_caused fault.Memory hidden h = tt
  few_caused fault.LinkFailed hidden h = absurd h
  few_caused fault.RoadsFailed hidden h = absurd h

  not_short : (took : Took) (y : Option Served) → HasStepped took → took.served ≡ y → is_short y st.breaks ≡ false → is_short st.served st.breaks ≡ true → ⊥
  not_short took y h is fine short = one_flag (is_short st.served st.breaks) short (ap (λ (z : Option Served). is_short z st.breaks) (h.ends ∙ is) ∙ fine)

  sent_fine : (last : Bool) (p : Packet) (receipt : Receipt) → is_short (passed_by last s p receipt).served st.breaks ≡ false
  sent_fine true p receipt = refl
  sent_fine false p receipt = refl

  missing_ends : (took : Took) (why : ServeFault) → HasStepped took → Sending f o s book book' read.end.outward st.read.end.outward took → is_short st.served st.breaks ≡ true → IsMissing why → PacketEnds f r i o w net conn b book book' road road' (Err why)
  missing_ends took why h (sends x) short m =
      absurd (not_short took (passed_on s (packet_of s x.body) x.receipt).served h (ap (λ (t : Took). t.served) x.is) (sent_fine (packet_of s x.body).last (packet_of s x.body) x.receipt) short)
  missing_ends took why h (refuses x) short m = absurd (not_short took (Some (served.Refused x.why)) h x.is refl short)
  missing_ends took why h (fails x) short m = absurd (not_short took (Some served.File) h x.is (ap not (h.step.breaks ∙ x.broke)) short)
  missing_ends took why h (lacks x) short m = few_caused why x.hidden m
  missing_ends took why h (unmade is) short m = absurd (not_short took (Some served.Memory) h is refl short)
  missing_ends took why h (lost is rose) short m = absurd (not_short took (Some served.LinkFailed) h is refl short)

  -- THE STEP OF A READ THAT SENDS PACKETS

  next_is : (x : Course) → IsAt s x → next_call s ≡ Some e → x ≡ course.Sending s
  next_is course.Asked at call = absurd at
  next_is (course.Sending t) at call = ap course.Sending at
  next_is course.Over at call = cc

  stepped_by : (stands : ReadStands r i o w net conn.0 b s book read road) → CanSend w conn.0 s e → (x : StepsRead f o read book book' st) → HasStepped x.steps.took
  stepped_by stands can x = record { stands = stands; can = can; step = x; leaves = x.steps.leaves; ends = x.steps.ends }

  sending_at : (stands : ReadStands r i o w net conn.0 b s book read road) → CanSend w conn.0 s e → (x : StepsRead f o read book book' st) → Sending f o s book book' read.end.outward st.read.end.outward x.steps.took
  sending_at stands can x =
      let next : SendsNext f o s book book' read.end.outward st.read.end.outward x.steps.took =
      subst (λ (y : Course). Does f o y read.serving.op book book' read.end.outward st.read.end.outward x.steps.took) (next_is read.serving.course stands.shows.at can.call) x.steps.does in
      sending_of f o s book book' x.before x.after read.end.outward st.read.end.outward x.steps.took next

module _ {F R I O : Type 0} (f : files.Ghosts F) (r : roads.Ghosts R I O) (i : link_in.Ghosts I) (o : link_out.Ghosts O) (read : ServedRead I O) (book book' : BookState F) (road road' : R) where
  pub packet_shows : (st : Stepped I O) (result : Result (Outcome I O) ServeFault) → StepsRead f o read book book' st → is_short st.served st.breaks ≡ false → IsPlaced r i o st.served st road road' result → PacketShows f r i o read book book' road road' result
  packet_shows st result x fine p = λ w net conn b s e stands can.
      placed_ends f r i o w net conn b s e book book' read st road road' x.steps.took result (stepped_by f r i o w net conn b s e book book' read st road road' stands can x)
      (sending_at f r i o w net conn b s e book book' read st road road' stands can x) fine p

  pub packet_missing : (st : Stepped I O) (why : ServeFault) → StepsRead f o read book book' st → is_short st.served st.breaks ≡ true → IsMissing why → PacketShows f r i o read book book' road road' (Err why)
  packet_missing st why x short m = λ w net conn b s e stands can.
      missing_ends f r i o w net conn b s e book book' read st road road' x.steps.took why (stepped_by f r i o w net conn b s e book book' read st road road' stands can x)
      (sending_at f r i o w net conn b s e book book' read st road road' stands can x) short m

  ended_none : (s : ServingState) (e : Event) (x : Course) → IsAt s x → next_call s ≡ Some e → has_ended x ≡ true → ⊥
  ended_none s e course.Asked at call over = at
  ended_none s e (course.Sending t) at call over = cc
  ended_none s e course.Over at call over = cc

  -- A read all of whose packets were sent has no next one.
  pub packet_over : has_ended read.serving.course ≡ true → PacketShows f r i o read book book' road road' (Ok (outcome_is.Serves read))
  packet_over over = λ w net conn b s e stands can. absurd (ended_none s e read.serving.course stands.shows.at can.call over)
