-- A node takes a request to read: what is left shows the world after the event.
use Rattle.std.proofs.Common.{◌≡◌, ◌⊎◌, inl, inr, ℕ, Bool, true, false, List, [], ◌∷◌, ◌++◌, map, Option, Some, Result, Ok, Err, refl, sym, ap, ◌∙◌, subst}
use Rattle.hd_base.specs.Faults.{FaultsIncreased}
use Rattle.hd_base.specs.declared.ends.Conn.{Conn}
use Rattle.hd_base.specs.declared.files.Files as files
use Rattle.hd_base.specs.declared.links.LinkIn as link_in
use Rattle.hd_base.specs.declared.links.LinkOut as link_out
use Rattle.hd_base.specs.declared.numbers.ConnId.{ConnId}
use Rattle.hd_base.specs.declared.numbers.Receipt.{Receipt}
use Rattle.hd_base.specs.declared.roads.Roads as roads
use Rattle.link_pieces.specs.Roads.{KeepsInward, ExchangesEnd}
use Rattle.op_headers.specs.declared.ops.ReadOp.{ReadOp}
use Rattle.replica_model.specs.Rows.{FullReplica, broken}
use Rattle.member_events.specs.ReplicaFiles.BookState.{BookState}
use Rattle.member_events.specs.ReplicaFiles.Books.{replica_of}
use Rattle.request_refusals.specs.declared.refusals.RequestRefusal.{RequestRefusal}
use Rattle.request_refusals.specs.declared.refusals.RequestRefusal.TheVariants as refusal
use Rattle.visible_read.specs.ReadCore.Servings.{ServingState, read_at, accepting, refusing}
use Rattle.visible_read.specs.PipeTurns.Acting.{sized_response}
use Rattle.road_traffic.specs.Showing.{Net}
use Rattle.visible_read.specs.declared.answering.Course.{Course}
use Rattle.visible_read.specs.declared.answering.Course.TheVariants as course
use Rattle.visible_read.specs.FrameFeed.Message.TheVariants as reply
use Rattle.visible_read.specs.declared.answering.Served.{Served}
use Rattle.visible_read.specs.declared.answering.Served.TheVariants as served
use Rattle.visible_read.specs.declared.answering.Took.{Took}
use Rattle.visible_read.specs.Answers.{Answers, answering, answered as answered_as, served_as}
use Rattle.visible_read.specs.Servings.{ServingRun, unanswered, left}
use Rattle.member_events.specs.World.Delivery.TheVariants as delivery
use Rattle.member_events.specs.World.Event.{Event as WorldEvent}
use Rattle.member_events.specs.World.Event.TheVariants as event
use Rattle.member_events.specs.World.Parts.{Message, response, ended_below}
use Rattle.member_events.specs.World.Worlds.{World, Change, listed, apply}
use Rattle.member_events.specs.World.Connections.{sent_on}
use Rattle.member_events.specs.World.Nodes.{replica_at, read_change}
use Rattle.member_events.specs.World.Events.{outcome, happens}
use Rattle.member_events.specs.WorldNets.Rows.{text_of}
use Rattle.member_events.specs.WorldNets.Nets.{held_by, is_over}
use Rattle.member_events.specs.WorldNets.Flushing.{lower_flush}
use Rattle.member_events.specs.WorldNets.Steps.{SendsBy}
use Rattle.member_events.specs.Beginning.{Closes}
use Rattle.member_events.specs.Texts.{SpellUp}
use Rattle.member_events.proofs.CauseLaws.{out_failed}
use Rattle.member_events.proofs.EndLaws.{HeldAt, RoadsAt, end_held, end_sends}
use Rattle.member_events.proofs.TurnEnds.{HasSaid}
use Rattle.member_events.proofs.WorldLaws.{sent_here, taken_same}
use Rattle.serving_events.specs.declared.faults.ServeFault.{ServeFault}
use Rattle.serving_events.specs.declared.faults.ServeFault.TheVariants as fault
use Rattle.serving_events.specs.declared.steps.Outcome.{Outcome}
use Rattle.serving_events.specs.declared.steps.Outcome.TheVariants as outcome_is
use Rattle.serving_events.specs.declared.steps.ServedRead.{ServedRead}
use Rattle.serving_events.specs.declared.steps.Stepped.{Stepped}
use Rattle.serving_events.specs.Drawn.{read_next, block_of, breaks_read}
use Rattle.serving_events.specs.Requests.{RequestStands, CanServe, taken_by, RequestEnds, RequestShows}
use Rattle.serving_events.specs.Showing.{IsAt, GoesOn, HasEnded}
use Rattle.serving_events.specs.Steps.{StepsRead, IsLost, FailsBy, PlacesOpen, PlacesShut, IsPlaced}
use Rattle.serving_events.proofs.DrawnLaws.{request_makes, read_sends}
use Rattle.serving_events.proofs.EndMoves.{opened, closed}
use Rattle.serving_events.proofs.FaultLaws.{memory_caused, road_caused, lost_caused}
use Rattle.serving_events.proofs.ReadTexts.{answer_text}
use Rattle.serving_events.proofs.RequestSteps.{breaks_in, IsQuiet, HasBroken, IsAnswering, answering_of, Telling, sent, lost, telling_of}
use Rattle.serving_events.proofs.WorldAfter.{AfterChange, after_change, still_replica, new_replica}

-- a refused read has ended
places_shut : {R I O : Type 0} (r : roads.Ghosts R I O) (i : link_in.Ghosts I) (o : link_out.Ghosts O) (why : RequestRefusal) (st : Stepped I O) (road road' : R) (result : Result (Outcome I O) ServeFault)
    → IsPlaced r i o (Some (served_as why)) st road road' result → PlacesShut r i o st.breaks st.read.end road road' result
places_shut r i o (refusal.Core x) st road road' result p = p
places_shut r i o (refusal.Stage x) st road road' result p = p
places_shut r i o refusal.Pool st road road' result p = p
places_shut r i o (refusal.Checksum x y) st road road' result p = p
places_shut r i o refusal.File st road road' result p = p
places_shut r i o refusal.Memory st road road' result p = p
places_shut r i o (refusal.TooMany x) st road road' result p = p

module _ {F R I O : Type 0} (f : files.Ghosts F) (r : roads.Ghosts R I O) (i : link_in.Ghosts I) (o : link_out.Ghosts O) (w : World) (net : Net) (conn : ConnId) (op : ReadOp) (book book' : BookState F) (end : Conn I O) (st : Stepped I O) (road road' : R) where
  -- What is known where a request was answered, or wasn't.
  record HasStepped : Type 0 where
    stands : RequestStands r i o w net conn.0 op book end road
    can : CanServe w conn
    keeps : KeepsInward end st.read.end
    op_is : st.read.serving.op ≡ op
    breaks : st.breaks ≡ breaks_in book book'

  -- the end once it has sent the answer
  said : HasStepped → (text : Option (List ℕ)) → HasSaid o text end.outward st.read.end.outward → HeldAt i o net false (listed text) (held_by (is_over (taken_by w conn.0 op) conn.0 true)) conn.0 true st.read.end
  said h text says =
      let w1 : World = taken_by w conn.0 op in
      end_sends i o net (held_by (is_over w1 conn.0 true)) conn.0 true text false end st.read.end (record { middle = st.read.end; keeps = h.keeps; says = says; shuts = refl }) (end_held i o w1 net conn.0 true end h.stands.end_is)

  roads_at : HasStepped → RoadsAt r net road
  roads_at h = record { sane = h.stands.roads_are.sane; shows = h.stands.roads_are.shows }

  replica_then : HasStepped → replica_of book ≡ replica_at (taken_by w conn.0 op) conn.0 (block_of op)
  replica_then h = h.stands.replica ∙ sym (taken_same w conn.0 true (read_next op) conn.0 (block_of op)).replica

  -- THE READ IS SERVED

  served_open : HasStepped → (answered : Bool) (s : ServingState) (new : ServedRead I O) → IsQuiet op book book' (Ok s) → HasSaid o (sized_response (accepting s)) end.outward st.read.end.outward → st.read.serving.course ≡ course.Sending s
      → new.serving ≡ st.read.serving → ExchangesEnd r i o false st.read.end new.end road road' (Ok tt) → GoesOn r i o (taken_by w conn.0 op) net (happens w (event.Down conn answered)) conn.0 (block_of op) book' road' new
  served_open h answered s new q says at kept ex =
      let c : ℕ = conn.0 in
      let b : ℕ = block_of op in
      let w1 : World = taken_by w c op in
      let e : WorldEvent = event.Down conn answered in
      let v : World = happens w e in
      let k : Change = read_change w1 c b (Ok s) in
      let ms : List Message = response (accepting s) ∷ [] in
      let over : Bool = is_over w1 c true in
      let there = replica_then h in
      let reads : read_at op (replica_at w1 c b) ≡ Ok s = sym (q.is ∙ ap (λ (x : FullReplica). read_at op x) there) in
      let out : outcome w e ≡ Some (apply w1 k) = (request_makes w conn op h.stands.comes h.stands.lower).answered answered ∙ ap (λ (x : Result ServingState RequestRefusal). Some (apply w1 (read_change w1 c b x))) reads in
      let a = after_change w w1 c k e out refl refl in
      let ups : v.ups c ≡ w1.ups c ++ ms = a.ups ∙ ap (λ (l : List Message). w1.ups c ++ l) (sent_here c ms) in
      let held : HeldAt i o net false (map text_of ms) (held_by over) c true st.read.end =
      subst (λ (t : List (List ℕ)). HeldAt i o net false t (held_by over) c true st.read.end) (answer_text v c (w1.ups c) (accepting s) (h.can.answers answered) ups) (said h (sized_response (accepting s)) says) in
      let m = opened r i o w w1 net e c k ms over road road' st.read.end new.end refl (record { out = out; is_net = h.stands.roads_are.is_net; roads_at = roads_at h; held = held; sends = (read_sends w1 c b).answers (Ok s) }) ex in
      record {
        made = m.moved.made;
        roads_are = m.moved.roads_are;
        state = s;
        lower = a.lower;
        shows = record {
          end_is = m.end_is;
          of_block = ap (λ (x : ServingRun). block_of x.op) kept ∙ ap (λ (x : ReadOp). block_of x) h.op_is;
          at = subst (λ (x : Course). IsAt s x) (sym (ap (λ (x : ServingRun). x.course) kept ∙ at)) refl;
        };
        replica = q.same ∙ (there ∙ sym (still_replica w1 v c b k a refl));
        others = m.moved.others;
      }

  -- IT HAS ENDED

  -- A change by which this is answered, and the connection ends.
  record RefusesBy (e : WorldEvent) (k : Change) (why : RequestRefusal) : Type 0 where
    out : outcome w e ≡ Some (apply (taken_by w conn.0 op) k)
    here : k.lower_at ≡ conn.0
    over : k.lower ≡ ended_below
    none : k.dials ≡ []
    ups : k.ups conn.0 ≡ sent_on (Some conn.0) (response (refusing why) ∷ []) conn.0
    sends : SendsBy (taken_by w conn.0 op) k (lower_flush conn.0 true (response (refusing why) ∷ []) ∷ [])
    spelled : SpellUp (happens w e) conn.0
    replica : AfterChange (taken_by w conn.0 op) (happens w e) conn.0 k → replica_of book' ≡ replica_at (happens w e) conn.0 (block_of op)

  served_shut : HasStepped → (e : WorldEvent) (k : Change) (why : RequestRefusal) → RefusesBy e k why → HasSaid o (sized_response (refusing why)) end.outward st.read.end.outward → Closes r i o st.read.end road road'
      → HasEnded r i o (taken_by w conn.0 op) net (happens w e) conn.0 (block_of op) book' road'
  served_shut h e k why by says cl =
      let c : ℕ = conn.0 in
      let w1 : World = taken_by w c op in
      let v : World = happens w e in
      let ms : List Message = response (refusing why) ∷ [] in
      let over : Bool = is_over w1 c true in
      let a = after_change w w1 c k e by.out by.here by.none in
      let ups : v.ups c ≡ w1.ups c ++ ms = a.ups ∙ ap (λ (l : List Message). w1.ups c ++ l) (by.ups ∙ sent_here c ms) in
      let held : HeldAt i o net false (map text_of ms) (held_by over) c true st.read.end =
      subst (λ (t : List (List ℕ)). HeldAt i o net false t (held_by over) c true st.read.end) (answer_text v c (w1.ups c) (refusing why) by.spelled ups) (said h (sized_response (refusing why)) says) in
      let m = closed r i o w w1 net e c k ms (held_by over) road road' st.read.end (record { out = by.out; is_net = h.stands.roads_are.is_net; roads_at = roads_at h; held = held; sends = by.sends }) cl in
      record {
        made = m.made;
        roads_are = m.roads_are;
        lower = a.lower ∙ by.over;
        replica = by.replica a;
        others = m.others;
      }

  refuses : HasStepped → (answered : Bool) (why : RequestRefusal) → IsQuiet op book book' (Err why) → RefusesBy (event.Down conn answered) (read_change (taken_by w conn.0 op) conn.0 (block_of op) (Err why)) why
  refuses h answered why q =
      let c : ℕ = conn.0 in
      let b : ℕ = block_of op in
      let w1 : World = taken_by w c op in
      let reads : read_at op (replica_at w1 c b) ≡ Err why = sym (q.is ∙ ap (λ (x : FullReplica). read_at op x) (replica_then h)) in
      record {
        out = (request_makes w conn op h.stands.comes h.stands.lower).answered answered ∙ ap (λ (x : Result ServingState RequestRefusal). Some (apply w1 (read_change w1 c b x))) reads;
        here = refl;
        over = refl;
        none = refl;
        ups = refl;
        sends = (read_sends w1 c b).answers (Err why);
        spelled = h.can.answers answered;
        replica = λ a. q.same ∙ (replica_then h ∙ sym (still_replica w1 (happens w (event.Down conn answered)) c b (read_change w1 c b (Err why)) a refl));
      }

  breaks : HasStepped → (x : HasBroken f op book book' (Err refusal.File)) → RefusesBy (event.Fault (delivery.Down conn)) (breaks_read (taken_by w conn.0 op) conn.0 op x.event_is) refusal.File
  breaks h x =
      let c : ℕ = conn.0 in
      let b : ℕ = block_of op in
      let w1 : World = taken_by w c op in
      let v : World = happens w (event.Fault (delivery.Down conn)) in
      record {
        out = (request_makes w conn op h.stands.comes h.stands.lower).faulted x.event_is x.booked;
        here = refl;
        over = refl;
        none = refl;
        ups = refl;
        sends = (read_sends w1 c b).breaks _ _ _;
        spelled = h.can.refuses;
        replica = λ a. x.breaks ∙ (ap (λ (y : FullReplica). broken y) (replica_then h) ∙ sym (new_replica w1 v c b (breaks_read w1 c op x.event_is) a refl refl));
      }

  -- HOW IT ENDS

  one_flag : (a b : Bool) → a ≡ true → a ≡ false → ⊥
  one_flag a b h k = cc

  refused_ends : HasStepped → (answered : Bool) (why : RequestRefusal) (result : Result (Outcome I O) ServeFault) → IsQuiet op book book' (Err why) ⊎ HasBroken f op book book' (Err why) → HasSaid o (sized_response (refusing why)) end.outward st.read.end.outward
      → PlacesShut r i o st.breaks st.read.end road road' result → RequestEnds f r i o w net conn answered op book book' road road' result
  refused_ends h answered why (Ok (outcome_is.Serves new)) how says p = absurd p
  refused_ends h answered why (Ok outcome_is.Ended) (inl q) says p = served_shut h (event.Down conn answered) _ why (refuses h answered why q) says p.1
  refused_ends h answered why (Ok outcome_is.Ended) (inr x) says p = absurd (one_flag st.breaks true (h.breaks ∙ x.broke) p.0)
  refused_ends h answered why (Ok outcome_is.Faulted) (inl q) says p = absurd (one_flag st.breaks true p.0 (h.breaks ∙ q.whole))
  refused_ends h answered why (Ok outcome_is.Faulted) (inr x) says p =
      let is : why ≡ refusal.File = cc (x.is) in
      let there : HasBroken f op book book' (Err refusal.File) = subst (λ (y : RequestRefusal). HasBroken f op book book' (Err y)) is x in
      record {
        rose = x.rose;
        ends = served_shut h (event.Fault (delivery.Down conn)) _ refusal.File (breaks h there) (subst (λ (y : RequestRefusal). HasSaid o (sized_response (refusing y)) end.outward st.read.end.outward) is says) p.1;
      }
  refused_ends h answered why (Err x) how says p = memory_caused f r i o conn.0 book road road' x p

  taken_ends : HasStepped → (answered : Bool) (s : ServingState) (result : Result (Outcome I O) ServeFault) → IsQuiet op book book' (Ok s) ⊎ HasBroken f op book book' (Ok s) → HasSaid o (sized_response (accepting s)) end.outward st.read.end.outward
      → st.read.serving.course ≡ course.Sending s → PlacesOpen r i o st.read road road' result → RequestEnds f r i o w net conn answered op book book' road road' result
  taken_ends h answered s (Ok (outcome_is.Serves new)) (inl q) says at p = served_open h answered s new q says at p.0 p.1
  taken_ends h answered s (Ok (outcome_is.Serves new)) (inr x) says at p = cc (x.is)
  taken_ends h answered s (Ok outcome_is.Ended) how says at p = absurd p
  taken_ends h answered s (Ok outcome_is.Faulted) how says at p = absurd p
  taken_ends h answered s (Err x) how says at p = road_caused f r i o conn.0 book road road' x p

  memory_ends : (answered : Bool) (result : Result (Outcome I O) ServeFault) → FailsBy (λ why. why ≡ fault.Memory) result → RequestEnds f r i o w net conn answered op book book' road road' result
  memory_ends answered (Ok left) p = absurd p
  memory_ends answered (Err why) p = memory_caused f r i o conn.0 book road road' why p

  lost_ends : HasStepped → (answered : Bool) (result : Result (Outcome I O) ServeFault) → FaultsIncreased (o.faults end.outward) (o.faults st.read.end.outward) → FailsBy (IsLost r i o st.read.end road road') result
      → RequestEnds f r i o w net conn answered op book book' road road' result
  lost_ends h answered (Ok left) rose p = absurd p
  lost_ends h answered (Err why) rose p =
      lost_caused f r i o conn.0 book road road' st.read.end why (ap (λ (y : ConnId). y.0) h.keeps.id ∙ h.stands.end_is.id) (out_failed i o (o.faults end.outward) st.read.end rose) p

  answered_ends : HasStepped → (answered : Bool) (took : Took) (x : Result ServingState RequestRefusal) (receipt : Option Receipt) (result : Result (Outcome I O) ServeFault) → st.read.serving ≡ left (unanswered op) took → st.served ≡ took.served
      → IsQuiet op book book' x ⊎ HasBroken f op book book' x → HasSaid o (sized_response (answering x)) end.outward st.read.end.outward → took ≡ answered_as x (reply.Response (answering x)) receipt → IsPlaced r i o st.served st road road' result
      → RequestEnds f r i o w net conn answered op book book' road road' result
  answered_ends h answered took (Ok s) receipt result leaves ends how says is p =
      taken_ends h answered s result how says (ap (λ (y : ServingRun). y.course) leaves ∙ ap (λ (t : Took). t.course) is)
      (subst (λ (y : Option Served). IsPlaced r i o y st road road' result) (ends ∙ ap (λ (t : Took). t.served) is) p)
  answered_ends h answered took (Err why) receipt result leaves ends how says is p =
      refused_ends h answered why result how says
      (places_shut r i o why st road road' result (subst (λ (y : Option Served). IsPlaced r i o y st road road' result) (ends ∙ ap (λ (t : Took). t.served) is) p))

  telling_ends : HasStepped → (answered : Bool) (took : Took) (x : Result ServingState RequestRefusal) (receipt : Option Receipt) (result : Result (Outcome I O) ServeFault) → st.read.serving ≡ left (unanswered op) took → st.served ≡ took.served
      → IsQuiet op book book' x ⊎ HasBroken f op book book' x → Telling o x receipt end.outward st.read.end.outward took → IsPlaced r i o st.served st road road' result
      → RequestEnds f r i o w net conn answered op book book' road road' result
  telling_ends h answered took x receipt result leaves ends how (sent says is) p = answered_ends h answered took x receipt result leaves ends how says is p
  telling_ends h answered took x receipt result leaves ends how (lost is rose) p = lost_ends h answered result rose (subst (λ (y : Option Served). IsPlaced r i o y st road road' result) (ends ∙ is) p)

  step_ends : HasStepped → (answered : Bool) (took : Took) (result : Result (Outcome I O) ServeFault) → st.read.serving ≡ left (unanswered op) took → st.served ≡ took.served
      → (took.served ≡ Some served.Memory) ⊎ IsAnswering f o op book book' end.outward st.read.end.outward took → IsPlaced r i o st.served st road road' result
      → RequestEnds f r i o w net conn answered op book book' road road' result
  step_ends h answered took result leaves ends (inl is) p = memory_ends answered result (subst (λ (y : Option Served). IsPlaced r i o y st road road' result) (ends ∙ is) p)
  step_ends h answered took result leaves ends (inr a) p = telling_ends h answered took a.x a.receipt result leaves ends a.how (telling_of o a.x a.receipt end.outward st.read.end.outward took a.tells) p

-- a read of which nothing was done, and its end
abbrev pub first_read : {I O : Type 0} → Conn I O → ServingRun → ServedRead I O
first_read end run = record { end = end; serving = run }

module _ {F R I O : Type 0} (f : files.Ghosts F) (r : roads.Ghosts R I O) (i : link_in.Ghosts I) (o : link_out.Ghosts O) where
  shows_by : (op : ReadOp) (end : Conn I O) (st : Stepped I O) (book book' : BookState F) (road road' : R) (result : Result (Outcome I O) ServeFault) → StepsRead f o (first_read end (unanswered op)) book book' st
      → IsPlaced r i o st.served st road road' result → RequestShows f r i o op end book book' road road' result
  shows_by op end st book book' road road' result x p = λ w net conn answered stands can.
      let a : Answers f o op book book' end.outward st.read.end.outward x.steps.took = x.steps.does in
      step_ends f r i o w net conn op book book' end st road road'
      (record { stands = stands; can = can; keeps = x.keeps; op_is = ap (λ (y : ServingRun). y.op) x.steps.leaves; breaks = x.breaks }) answered x.steps.took result x.steps.leaves x.steps.ends
      (answering_of f o op book book' end.outward st.read.end.outward x.steps.took x.before x.after a) p

  pub request_shows : (op : ReadOp) (end : Conn I O) (run : ServingRun) (st : Stepped I O) (book book' : BookState F) (road road' : R) (result : Result (Outcome I O) ServeFault) → run ≡ unanswered op → StepsRead f o (first_read end run) book book' st
      → IsPlaced r i o st.served st road road' result → RequestShows f r i o op end book book' road road' result
  request_shows op end run st book book' road road' result is x p =
      shows_by op end st book book' road road' result (subst (λ (y : ServingRun). StepsRead f o (first_read end y) book book' st) is x) p
