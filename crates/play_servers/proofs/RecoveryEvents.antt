-- A node's end that a primary dialled takes what stands next.
use Rattle.std.proofs.Common.{◌≡◌, ◌≤◌, inl, inr, ℕ, Bool, true, false, List, slice_get, slice_set, Option, Some, None, IfOk, IfErr, Result, Ok, Err, refl, sym, ap, ◌∙◌, subst}
use Rattle.std.specs.Prelude.{◌==◌}
use Rattle.std.specs.List.{position_or_len}
use Rattle.hd_base.specs.declared.ends.Conn.{Conn}
use Rattle.hd_base.specs.declared.files.Files as files
use Rattle.hd_base.specs.declared.links.LinkIn as link_in
use Rattle.hd_base.specs.declared.links.LinkOut as link_out
use Rattle.hd_base.specs.declared.numbers.BlockId.{BlockId}
use Rattle.hd_base.specs.declared.numbers.ConnId.{ConnId}
use Rattle.hd_base.specs.declared.roads.Roads as roads
use Rattle.recovery_events.specs.LinkMessages.Incomings.{nothing_received}
use Rattle.op_headers.specs.declared.ops.Op.{Op}
use Rattle.op_headers.specs.declared.ops.Op.TheVariants as op
use Rattle.op_headers.specs.declared.ops.RecoveryOp.{RecoveryOp}
use Rattle.recovery_events.specs.RecoveryCore.RecoveryReply.{RecoveryReply}
use Rattle.recovery_events.specs.RecoveryCore.Members.{recovery_event}
use Rattle.replica_core.specs.declared.events.Event.{Event as ReplicaEvent}
use Rattle.recovery_events.specs.ReplicaFiles.BookState.{BookState}
use Rattle.road_traffic.specs.Showing.{Net}
use Rattle.world_requests.specs.World.Delivery.TheVariants as delivery
use Rattle.world_requests.specs.World.Event.{Event}
use Rattle.world_requests.specs.World.Event.TheVariants as event
use Rattle.world_requests.specs.World.Parts as parts
use Rattle.world_requests.specs.World.Parts.{Message, request, packet, ack, response, read_status, recovery_answer, Dialled, idle, recovers, ended_below}
use Rattle.world_requests.specs.World.Worlds.{World, apply}
use Rattle.world_requests.specs.World.Connections.{Next, message, the_end, next_down, down_taken, is_served}
use Rattle.world_requests.specs.World.Enabled.{can_down, takes_down}
use Rattle.world_requests.specs.World.Nodes.{replica_at, closing}
use Rattle.world_requests.specs.World.Events.{outcome, happens}
use Rattle.world_requests.proofs.WorldLaws.FactTables.{and-left, and-right}
use Rattle.recovery_events.specs.WorldOrders.Orders.{Ordered, IsBelow, Purpose, purpose_of, recovering, comes_down, is_recovery}
use Rattle.recovery_events.specs.WorldOrders.Takes.{TakesInOrder}
use Rattle.recovery_events.proofs.WorldOrders.AllOrdered.{next-found}
use Rattle.world_requests.specs.Requests.{IsAmong}
use Rattle.recovery_events.specs.WorldTexts.Texts.{SpellsText, Written}
use Rattle.world_standings.specs.WorldNets.Drawn.{ComesDown, IsNoRequest}
use Rattle.world_standings.specs.WorldNets.Nets.{IsEndOf}
use Rattle.world_standings.proofs.WorldNets.DrawnLemmas.{down-makes}
use Rattle.recovery_events.specs.MemberEvents.FirstRequest.{FirstRequest}
use Rattle.recovery_events.specs.MemberEvents.MemberFault.{MemberFault}
use Rattle.recovery_events.specs.MemberEvents.MemberFault.TheVariants as member_fault
use Rattle.recovery_events.specs.MemberEvents.Beginning as first
use Rattle.recovery_events.specs.MemberEvents.Beginning.{IdleStands, IsFirstRequest, CanTakeFirst, HasFirst, FirstShows, IsEndFault}
use Rattle.recovery_events.specs.MemberEvents.Showing.{OthersStay}
use Rattle.recovery_events.proofs.MemberEvents.FaultEvents.{rises_from}
use Rattle.recovery_events.specs.declared.answering.Outcome.{Outcome}
use Rattle.recovery_events.specs.declared.answering.Outcome.TheVariants as ended
use Rattle.recovery_events.specs.declared.answering.Recovering.{Recovering}
use Rattle.recovery_events.specs.declared.faults.RecoveryFault.{RecoveryFault}
use Rattle.recovery_events.specs.declared.faults.RecoveryFault.TheVariants as fault
use Rattle.recovery_events.specs.Drawn.{recovery_next, asked_block, TakesRequests}
use Rattle.recovery_events.specs.Events as events
use Rattle.recovery_events.specs.Events.{GoesOnLeft, SpellAnswers, RequestStands, RequestEnds, RecoveringStands, IsRequestNext, CanRecover}
use Rattle.recovery_events.specs.Faults.{IsCause}
use Rattle.recovery_events.specs.Orders.{IsRequestOrEnd}
use Rattle.recovery_events.specs.Outcomes.{IsFaulted}
use Rattle.recovery_events.proofs.DrawnLemmas.{request_makes, other_makes}
use Rattle.recovery_events.proofs.WorldLemmas.{answered_world}
use Rattle.play_servers.specs.declared.recoveries.AnswerEnd.{AnswerEnd}
use Rattle.play_servers.specs.declared.recoveries.AnswerEnd.TheVariants as answer_end
use Rattle.play_servers.specs.declared.recoveries.Answered.{Answered}
use Rattle.play_servers.specs.declared.recoveries.RecoveryServer.{RecoveryServer}
use Rattle.play_servers.specs.declared.servers.ServerEvent.{ServerEvent}
use Rattle.play_servers.specs.Answering.{answer_place, ended_answer, answered_of, answers_left, left_by, answer_fault, IsFollowed, IsAnswered, Answers, HasGoneOn, GoesOn}
use Rattle.play_servers.specs.Showing.{BooksShow}
use Rattle.play_servers.specs.Recoveries.{AnsweringShows, EndShows, ServerShows, ServerStands, AsksFor, ServerLeft, RecoverIsLawful, DownEnds, EndShowsDown, IdleShows, left_as, DownShows}
use Rattle.play_servers.specs.Events.{RestStays}
use Rattle.play_servers.proofs.TableLaws.{not_none, set_here, place_there}
use Rattle.play_servers.proofs.RestLaws.{rest_after, rest_taken, rest_same, closing_lower, recovery_lower, closed_replicas}
use Rattle.play_servers.proofs.ServerLaws.{served_as, books_set, books_stay, others_join}
use Rattle.play_servers.proofs.RequestEvents.{comes_so, unhappened, same_test, block_found}

-- WHAT STANDS NEXT

-- a request of a recovery
asked_so : (m : Message) → is_recovery m ≡ true → (asked : RecoveryOp) × (m ≡ request (op.Recovery asked))
asked_so (request (op.Recovery asked)) h = (asked, refl)
asked_so (request other) h = cc
asked_so (packet p) h = cc
asked_so (ack a) h = cc
asked_so (response q) h = cc
asked_so (read_status s) h = cc
asked_so (recovery_answer a) h = cc

-- what comes first on a primary's connection
asks_first : (w : World) (c : ℕ) (m : Message) → TakesInOrder w → purpose_of (w.dialled c).upper ≡ recovering → w.lowers c ≡ idle → ComesDown w c (message m) → (asked : RecoveryOp) × (m ≡ request (op.Recovery asked))
asks_first w c m taken dialled lower comes =
    asked_so m (ap (λ (p : Purpose). comes_down p true m) (sym dialled) ∙ taken.first c m lower comes.next)

can_take : (w : World) (c : ℕ) (x : Next) → TakesInOrder w → Written w → purpose_of (w.dialled c).upper ≡ recovering → w.lowers c ≡ idle → ComesDown w c x → CanTakeFirst w c x
can_take w c the_end taken written dialled lower comes = record { comes = comes; first = tt }
can_take w c (message m) taken written dialled lower comes =
    let is = asks_first w c m taken dialled lower comes in
    record {
      comes = comes;
      first = subst (λ (z : Message). IsFirstRequest (message z)) (sym is.1)
          (subst SpellsText is.1 (written.downs c (w.down_marks c).taken m (next-found (w.downs c) (w.down_marks c) m comes.next)));
    }

-- it is the first message there
first_there : (w : World) (c : ℕ) (m : Message) → Ordered w → w.lowers c ≡ idle → ComesDown w c (message m) → slice_get (w.downs c) 0 ≡ Some m
first_there w c m ordered lower comes =
    let below : IsBelow (w.dialled c).upper (w.down_marks c).taken (w.ups c) idle = subst (λ (l : parts.Lower). IsBelow (w.dialled c).upper (w.down_marks c).taken (w.ups c) l) lower (ordered.below c) in
    ap (slice_get (w.downs c)) (sym below.0) ∙ next-found (w.downs c) (w.down_marks c) m comes.next

true_false : (b : Bool) → b ≡ true → b ≡ false → ⊥
true_false b x y = cc

takes_none : (w : World) (c : ℕ) (x : Option Next) → takes_down ended_below w c x ≡ false
takes_none w c None = refl
takes_none w c (Some x) = refl

-- THE LOWER END

module _ {I O : Type 0} (i : link_in.Ghosts I) (o : link_out.Ghosts O) where
  -- An end that has taken nothing yet.
  pub record IsIdle (w : World) (net : Net) (c : ℕ) (e : Conn I O) : Type 0 where
    pub lower : w.lowers c ≡ idle
    pub served : is_served w c ≡ true
    pub end_is : IsEndOf i o w net c true e

  pub idle_so : (w : World) (net : Net) (c : ℕ) (blocks : List BlockId) (e : Conn I O) (l : parts.Lower) → w.lowers c ≡ l → EndShows i o w net c blocks l (answer_end.Idle e) → IsIdle w net c e
  idle_so w net c blocks e idle is h = record { lower = is; served = h.0; end_is = h.1 }
  idle_so w net c blocks e l is h = absurd h

  -- One that answers a primary.
  pub record IsAnswering (w : World) (net : Net) (c : ℕ) (blocks : List BlockId) (old : Recovering I O) (place : ℕ) : Type 0 where
    pub lower : w.lowers c ≡ recovers
    pub served : is_served w c ≡ true
    pub shows : AnsweringShows i o w net c blocks old place

  pub answering_so : (w : World) (net : Net) (c : ℕ) (blocks : List BlockId) (old : Recovering I O) (place : ℕ) (l : parts.Lower) → w.lowers c ≡ l → EndShows i o w net c blocks l (answer_end.Answering old place) → IsAnswering w net c blocks old place
  answering_so w net c blocks old place recovers is h = record { lower = is; served = h.0; shows = h.1 }
  answering_so w net c blocks old place l is h = absurd h

  -- Nothing stands next for an end that has no further events.
  pub none_down : (w : World) (net : Net) (c : ℕ) (blocks : List BlockId) (l : parts.Lower) → w.lowers c ≡ l → EndShows i o w net c blocks l answer_end.Ended → can_down w c ≡ true → ⊥
  none_down w net c blocks idle is h due = true_false (is_served w c) (and-left (is_served w c) (takes_down (w.lowers c) w c (next_down w c)) due) h
  none_down w net c blocks recovers is h due = true_false (is_served w c) (and-left (is_served w c) (takes_down (w.lowers c) w c (next_down w c)) due) h
  none_down w net c blocks ended_below is h due =
      true_false (takes_down (w.lowers c) w c (next_down w c)) (and-right (is_served w c) (takes_down (w.lowers c) w c (next_down w c)) due)
      (ap (λ (l : parts.Lower). takes_down l w c (next_down w c)) is ∙ takes_none w c (next_down w c))
  none_down w net c blocks l is h due = h

  dialled_as : (w v : World) (net : Net) (c b : ℕ) (blocks : List BlockId) (e : AnswerEnd I O) → ServerShows i o w net c blocks e → RestStays w v c b → purpose_of (v.dialled c).upper ≡ recovering
  dialled_as w v net c b blocks e h rest = ap (λ (x : Dialled). purpose_of x.upper) (rest.dialled c) ∙ h.dialled

  server_ended : (w v : World) (net made : Net) (c b : ℕ) (blocks : List BlockId) (e : AnswerEnd I O) → ServerShows i o w net c blocks e → RestStays w v c b → v.lowers c ≡ ended_below → ServerShows i o v made c blocks answer_end.Ended
  server_ended w v net made c b blocks e h rest lower = record {
    dialled = dialled_as w v net c b blocks e h rest;
    end_is = subst (λ (l : parts.Lower). EndShows i o v made c blocks l answer_end.Ended) (sym lower) tt;
  }

module _ {F R I O : Type 0} (f : files.Ghosts F) (r : roads.Ghosts R I O) (i : link_in.Ghosts I) (o : link_out.Ghosts O) where
  -- What is known of the first request on a connection, and the place of its block.
  record IsOfFirst (w : World) (c : ℕ) (blocks : List BlockId) (place : ℕ) (asked : RecoveryOp) : Type 0 where
    first_is : slice_get (w.downs c) 0 ≡ Some (request (op.Recovery asked))
    block : BlockId
    at_place : slice_get blocks place ≡ Some block
    of_block : block.0 ≡ asked_block asked

  -- What is left of an end that goes on.
  goes_left : (w w1 v : World) (net n1 : Net) (c place : ℕ) (blocks : List BlockId) (e : AnswerEnd I O) (books books' : List (BookState F)) (asked : RecoveryOp) (left : Recovering I O) (book' : BookState F) (road road' : R) → ServerStands r i o w net c blocks e books road
      → is_served w c ≡ true → IsOfFirst w c blocks place asked → books' ≡ slice_set books place book' → RestStays w v c (asked_block asked) → ((made : Net) → OthersStay i o w1 n1 v made c None → OthersStay i o w net v made c None)
      → GoesOnLeft r i o w1 n1 v c (asked_block asked) book' road' left → ServerLeft r i o w net v c blocks (answer_end.Answering left place) books' road'
  goes_left w w1 v net n1 c place blocks e books books' asked left book' road road' stands served of set rest join g = record {
    made = g.made;
    roads_are = g.roads_are;
    server = record {
      dialled = dialled_as i o w v net c (asked_block asked) blocks e stands.server rest;
      end_is = subst (λ (l : parts.Lower). EndShows i o v g.made c blocks l (answer_end.Answering left place)) (sym g.lower) (
        served_as w v c (asked_block asked) rest ∙ served,
        record {
          end_is = g.end_is;
          received = g.received;
          first = asked;
          first_is = ap (λ (ms : List Message). slice_get ms 0) (rest.downs c) ∙ of.first_is;
          block = of.block;
          at_place = of.at_place;
          of_block = of.of_block;
        },
      );
    };
    books_are = subst (λ (xs : List (BookState F)). BooksShow v c blocks xs) (sym set) (books_set w v c (asked_block asked) place blocks books of.block book' stands.books_are rest of.at_place of.of_block g.replica);
    block = asked_block asked;
    rest = rest;
    others = join g.made g.others;
  }

  module _ (w : World) (net : Net) (conn : ConnId) (answered : Bool) (blocks : List BlockId) where
    spelled : RecoverIsLawful w conn → SpellAnswers w conn answered
    spelled h = record { done = (h.lawful.after answered).ups conn.0; faulted = h.lawful.broken.ups conn.0 }

    -- What the event in which a call on files fails leaves as it is, where a request is taken.
    rest_broken : (asked : RecoveryOp) (x : Result ReplicaEvent RecoveryReply) → recovery_event asked ≡ x → ComesDown w conn.0 (recovery_next asked) → TakesRequests (w.lowers conn.0) → RestStays w (happens w (event.Fault (delivery.Down conn))) conn.0 (asked_block asked)
    rest_broken asked (Ok ev) is comes takes =
        rest_taken w conn.0 (recovery_next asked) (happens w (event.Fault (delivery.Down conn))) (asked_block asked)
        (rest_after w (down_taken w conn.0 (recovery_next asked)) conn.0 (asked_block asked) _ (event.Fault (delivery.Down conn)) ((request_makes w conn answered asked comes takes).faulted ev is)
        (recovery_lower (down_taken w conn.0 (recovery_next asked)) conn.0 asked _ _))
    rest_broken asked (Err said) is comes takes =
        rest_same w (happens w (event.Fault (delivery.Down conn))) conn.0 (asked_block asked)
        (unhappened w (event.Fault (delivery.Down conn)) ((request_makes w conn answered asked comes takes).unbooked said is))

    rest_done : (asked : RecoveryOp) → ComesDown w conn.0 (recovery_next asked) → TakesRequests (w.lowers conn.0) → RestStays w (happens w (event.Down conn answered)) conn.0 (asked_block asked)
    rest_done asked comes takes =
        rest_taken w conn.0 (recovery_next asked) (happens w (event.Down conn answered)) (asked_block asked)
        (rest_after w (down_taken w conn.0 (recovery_next asked)) conn.0 (asked_block asked) _ (event.Down conn answered) (request_makes w conn answered asked comes takes).done
        (recovery_lower (down_taken w conn.0 (recovery_next asked)) conn.0 asked _ _))

    goes_on_lower : (asked : RecoveryOp) → ComesDown w conn.0 (recovery_next asked) → TakesRequests (w.lowers conn.0) → (happens w (event.Down conn answered)).lowers conn.0 ≡ recovers
    goes_on_lower asked comes takes =
        (answered_world w (down_taken w conn.0 (recovery_next asked)) conn.0 asked _ _ (event.Down conn answered) (request_makes w conn answered asked comes takes).done).lower

    -- THE FIRST MESSAGE

    module _ (e : Conn I O) (books : List (BookState F)) (road : R) where
      -- What is known before the event.
      record IsFirstAt : Type 0 where
        stands : ServerStands r i o w net conn.0 blocks (answer_end.Idle e) books road
        lawful : RecoverIsLawful w conn
        asks : AsksFor blocks w conn.0
        idle_is : IsIdle i o w net conn.0 e
        next : Next
        comes : ComesDown w conn.0 next
        can : CanTakeFirst w conn.0 next
        idle_stands : IdleStands r i o w net conn.0 e road

      first_at : ServerStands r i o w net conn.0 blocks (answer_end.Idle e) books road → RecoverIsLawful w conn → AsksFor blocks w conn.0 → can_down w conn.0 ≡ true → IsFirstAt
      first_at stands lawful asks due =
          let k : IsIdle i o w net conn.0 e = idle_so i o w net conn.0 blocks e (w.lowers conn.0) refl stands.server.end_is in
          let comes = comes_so w conn.0 due in
          record {
            stands = stands;
            lawful = lawful;
            asks = asks;
            idle_is = k;
            next = comes.0;
            comes = comes.1;
            can = can_take w conn.0 comes.0 lawful.lawful.taken lawful.lawful.before stands.server.dialled k.lower comes.1;
            idle_stands = record { roads_are = stands.roads_are; lower = k.lower; end_is = k.end_is };
          }

      ended_first : (road' : R) → (z : IsFirstAt) → first.HasEnded r i o w net (happens w (event.Down conn answered)) conn.0 z.next road' → DownEnds f r i o w net conn answered blocks books books road road' (Ok ended_answer)
      ended_first road' z h =
          let c : ℕ = conn.0 in
          let ev : Event = event.Down conn answered in
          let w1 : World = down_taken w c z.next in
          let v : World = happens w ev in
          let out : outcome w ev ≡ Some (apply w1 (closing w1 c)) = (down-makes w conn answered z.next z.comes).other z.idle_is.lower (subst IsNoRequest (sym h.is_end) tt) in
          let rest : RestStays w v c 0 = rest_taken w c z.next v 0 (rest_after w w1 c 0 (closing w1 c) ev out (closing_lower w1 c 0)) in (
            tt,
            record {
              made = h.made;
              roads_are = h.roads_are;
              server = server_ended i o w v net h.made c 0 blocks (answer_end.Idle e) z.stands.server rest h.lower;
              books_are = books_stay w v c 0 blocks books z.stands.books_are rest (closed_replicas w c z.next ev out);
              block = 0;
              rest = rest;
              others = h.others;
            },
          )

      first_caused : (road' : R) (why : MemberFault) → IsEndFault r conn.0 road road' why → IsCause r conn.0 road road' (answer_fault why)
      first_caused road' member_fault.LinkFailed h = h
      first_caused road' member_fault.RoadsFailed h = h
      first_caused road' member_fault.FilesFailed h = absurd h
      first_caused road' member_fault.Memory h = tt

      cause_from : (middle road' : R) (d : ℕ) (why : RecoveryFault) → d ≡ conn.0 → r.faults road ≤ r.faults middle → IsCause r d middle road' why → IsCause r conn.0 road road' why
      cause_from middle road' d fault.LinkFailed same le h = subst (λ (n : ℕ). r.risen road' n ≡ true) same h
      cause_from middle road' d fault.RoadsFailed same le h = rises_from (r.faults road) (r.faults middle) (r.faults road') le h
      cause_from middle road' d fault.Memory same le h = tt

      module _ (asked : FirstRequest I O) (middle road' : R) (books' : List (BookState F)) (result : Result (Answered I O) RecoveryFault) where
        abbrev ends : Result (Answered I O) RecoveryFault → Type 0
        ends x = DownEnds f r i o w net conn answered blocks books books' road road' x

        -- What is known of the request, and of its book.
        record IsAskedAt (s : IsAnswered f r i o blocks asked books books' middle road' result) : Type 0 where
          at : IsFirstAt
          comes : ComesDown w conn.0 (recovery_next s.asked)
          has : HasFirst r i o w net conn.0 (recovery_next s.asked) middle asked
          takes : TakesRequests (w.lowers conn.0)
          of : IsOfFirst w conn.0 blocks s.place s.asked
          never_falls : r.faults road ≤ r.faults middle

        asked_at : (s : IsAnswered f r i o blocks asked books books' middle road' result) (z : IsFirstAt) → HasFirst r i o w net conn.0 z.next middle asked → r.faults road ≤ r.faults middle → IsAskedAt s
        asked_at s z h le =
            let same : z.next ≡ recovery_next s.asked = h.is_request ∙ ap (λ (q : Op). message (request q)) s.is_asked in
            let comes : ComesDown w conn.0 (recovery_next s.asked) = subst (ComesDown w conn.0) same z.comes in
            let b = block_found blocks (asked_block s.asked) s.place s.at_place in
            record {
              at = z;
              comes = comes;
              has = subst (λ (x : Next). HasFirst r i o w net conn.0 x middle asked) same h;
              takes = subst TakesRequests (sym z.idle_is.lower) tt;
              of = record { first_is = first_there w conn.0 (request (op.Recovery s.asked)) z.lawful.ordered z.idle_is.lower comes; block = b.0; at_place = b.1.0; of_block = b.1.1 };
              never_falls = le;
            }

        answered_ends : (s : IsAnswered f r i o blocks asked books books' middle road' result) (k : IsAskedAt s) (made : Result (Outcome (Recovering I O)) RecoveryFault) → RequestEnds r i o w k.has.made conn answered s.asked s.book' road' made → IfOk made (IsFaulted f s.book s.book') → IfErr made (IsCause r asked.end.id.0 middle road')
            → ends (left_by (answered_of s.place) made)
        answered_ends s k (Ok (ended.Done left)) g rose caused =
            let c : ℕ = conn.0 in
            let w1 : World = down_taken w c (recovery_next s.asked) in
            let v : World = happens w (event.Down conn answered) in (
              tt,
              goes_left w w1 v net k.has.made c s.place blocks (answer_end.Idle e) books books' s.asked left s.book' road road' k.at.stands k.at.idle_is.served k.of s.set (rest_done s.asked k.comes k.takes)
                  (λ made stay. others_join i o w w1 v net k.has.made made c k.has.others stay) g,
            )
        answered_ends s k (Ok (ended.Faulted left)) g rose caused =
            let c : ℕ = conn.0 in
            let w1 : World = down_taken w c (recovery_next s.asked) in
            let v : World = happens w (event.Fault (delivery.Down conn)) in (
              record {
                place = s.place;
                book = s.book;
                book' = s.book';
                before = s.at_book;
                now = ap (λ (xs : List (BookState F)). slice_get xs s.place) s.set ∙ set_here books s.place s.book s.book' s.at_book;
                rose = rose;
              },
              goes_left w w1 v net k.has.made c s.place blocks (answer_end.Idle e) books books' s.asked left s.book' road road' k.at.stands k.at.idle_is.served k.of s.set (rest_broken s.asked (recovery_event s.asked) refl k.comes k.takes)
                  (λ made stay. others_join i o w w1 v net k.has.made made c k.has.others stay) g,
            )
        answered_ends s k (Err why) g rose caused = cause_from middle road' asked.end.id.0 why k.has.end_is.id k.never_falls caused

        answers_ends : (z : IsFirstAt) → HasFirst r i o w net conn.0 z.next middle asked → r.faults road ≤ r.faults middle → Answers f r i o blocks asked books books' middle road' result → ends result
        answers_ends z has le (inl s) =
            let k : IsAskedAt s = asked_at s z has le in
            let stands : RequestStands r i o w k.has.made conn.0 s.asked asked.end nothing_received s.book middle = record {
              comes = k.comes;
              lower = z.idle_is.lower;
              roads_are = k.has.roads_are;
              end_is = k.has.end_is;
              received = refl;
              replica = z.stands.books_are.each s.place k.of.block s.book k.of.at_place s.at_book ∙ ap (replica_at w conn.0) k.of.of_block;
            } in
            subst ends (sym s.follows) (answered_ends s k s.made (s.shows w k.has.made conn answered stands (spelled z.lawful)) s.faulted s.causes)
        answers_ends z has le (inr (inl none)) =
            let c : ℕ = conn.0 in
            let comes : ComesDown w c (message (request asked.op)) = subst (ComesDown w c) has.is_request z.comes in
            let first_asked = asks_first w c (request asked.op) z.lawful.lawful.taken z.stands.server.dialled z.idle_is.lower comes in
            let q : RecoveryOp = first_asked.0 in
            let is : asked.op ≡ op.Recovery q = op_same asked.op (op.Recovery q) first_asked.1 in
            let among : IsAmong blocks (asked_block q) =
            z.asks (w.down_marks c).taken q (next-found (w.downs c) (w.down_marks c) (request (op.Recovery q)) (comes.next ∙ ap (λ (m : Message). Some (message m)) first_asked.1)) in
            let test : BlockId → Bool = λ b. b.0 == asked_block q in
            let at : answer_place blocks q ≡ Some (position_or_len test blocks) = place_there test blocks among.place among.block among.at_place (same_test among.block.0 (asked_block q) among.is) in
            let b = block_found blocks (asked_block q) (position_or_len test blocks) at in
            absurd (not_none (slice_get books (position_or_len test blocks)) (z.stands.books_are.all (position_or_len test blocks) b.0 b.1.0) (none.none q (position_or_len test blocks) is at))
          where
            op_same : (a b : Op) → request a ≡ request b → a ≡ b
            op_same a b h = cc
        answers_ends z has le (inr (inr is)) = subst ends (sym is) tt

    -- FURTHER MESSAGES

    module _ (old : Recovering I O) (place : ℕ) (books books' : List (BookState F)) (road road' : R) (result : Result (Answered I O) RecoveryFault) where
      -- What is known before the event.
      record IsNextAt : Type 0 where
        stands : ServerStands r i o w net conn.0 blocks (answer_end.Answering old place) books road
        lawful : RecoverIsLawful w conn
        k : IsAnswering i o w net conn.0 blocks old place
        next : Next
        comes : ComesDown w conn.0 next
        order : IsRequestOrEnd next

      abbrev goes : Result (Answered I O) RecoveryFault → Type 0
      goes x = DownEnds f r i o w net conn answered blocks books books' road road' x

      first_of : (z : IsNextAt) → IsOfFirst w conn.0 blocks place z.k.shows.first
      first_of z = record { first_is = z.k.shows.first_is; block = z.k.shows.block; at_place = z.k.shows.at_place; of_block = z.k.shows.of_block }

      request_next : (z : IsNextAt) (x : Next) → z.next ≡ x → IsRequestOrEnd x → IsRequestNext (asked_block z.k.shows.first) x
      request_next z the_end is h = tt
      request_next z (message (request (op.Recovery q))) is h =
          let comes : ComesDown w conn.0 (recovery_next q) = subst (ComesDown w conn.0) is z.comes in (
            z.lawful.lawful.before.downs conn.0 (w.down_marks conn.0).taken (request (op.Recovery q)) (next-found (w.downs conn.0) (w.down_marks conn.0) (request (op.Recovery q)) comes.next),
            z.lawful.names conn.0 z.k.shows.first q z.k.shows.first_is comes.next,
          )
      request_next z (message (request other)) is h = absurd h
      request_next z (message (packet p)) is h = absurd h
      request_next z (message (ack a)) is h = absurd h
      request_next z (message (response q)) is h = absurd h
      request_next z (message (read_status s)) is h = absurd h
      request_next z (message (recovery_answer a)) is h = absurd h

      -- What the event leaves as it is, and the one in which a call on files fails.
      record RestsStay (z : IsNextAt) : Type 0 where
        done : RestStays w (happens w (event.Down conn answered)) conn.0 (asked_block z.k.shows.first)
        broken : RestStays w (happens w (event.Fault (delivery.Down conn))) conn.0 (asked_block z.k.shows.first)
        closed : (happens w (event.Down conn answered)).lowers conn.0 ≡ ended_below → (n m : ℕ) → (happens w (event.Down conn answered)).replicas n m ≡ w.replicas n m

      never_ended : (v : World) (c : ℕ) → v.lowers c ≡ recovers → v.lowers c ≡ ended_below → ⊥
      never_ended v c a b = apart (sym a ∙ b)
        where
          apart : recovers ≡ ended_below → ⊥
          apart q = cc

      rests : (z : IsNextAt) (x : Next) → z.next ≡ x → IsRequestOrEnd x → RestsStay z
      rests z the_end is h =
          let c : ℕ = conn.0 in
          let ev : Event = event.Down conn answered in
          let comes : ComesDown w c the_end = subst (ComesDown w c) is z.comes in
          let w1 : World = down_taken w c the_end in
          let makes = other_makes w conn answered the_end comes z.k.lower tt in
          record {
            done = rest_taken w c the_end (happens w ev) (asked_block z.k.shows.first) (rest_after w w1 c (asked_block z.k.shows.first) (closing w1 c) ev makes.done (closing_lower w1 c (asked_block z.k.shows.first)));
            broken = rest_same w (happens w (event.Fault (delivery.Down conn))) c (asked_block z.k.shows.first) (unhappened w (event.Fault (delivery.Down conn)) makes.unbooked);
            closed = λ over. closed_replicas w c the_end ev makes.done;
          }
      rests z (message (request (op.Recovery q))) is h =
          let c : ℕ = conn.0 in
          let comes : ComesDown w c (recovery_next q) = subst (ComesDown w c) is z.comes in
          let takes : TakesRequests (w.lowers c) = subst TakesRequests (sym z.k.lower) tt in
          let same : asked_block q ≡ asked_block z.k.shows.first = z.lawful.names c z.k.shows.first q z.k.shows.first_is comes.next in
          record {
            done = subst (λ (n : ℕ). RestStays w (happens w (event.Down conn answered)) c n) same (rest_done q comes takes);
            broken = subst (λ (n : ℕ). RestStays w (happens w (event.Fault (delivery.Down conn))) c n) same (rest_broken q (recovery_event q) refl comes takes);
            closed = λ over. absurd (never_ended (happens w (event.Down conn answered)) c (goes_on_lower q comes takes) over);
          }
      rests z (message (request other)) is h = absurd h
      rests z (message (packet p)) is h = absurd h
      rests z (message (ack a)) is h = absurd h
      rests z (message (response q)) is h = absurd h
      rests z (message (read_status s)) is h = absurd h
      rests z (message (recovery_answer a)) is h = absurd h

      gone_ends : (s : HasGoneOn f r i o place old books books' road road' result) (z : IsNextAt) (made : Result (Outcome (Option (Recovering I O))) RecoveryFault) → events.DownEnds r i o w net conn answered (asked_block z.k.shows.first) s.book' road' made → IfOk made (IsFaulted f s.book s.book')
          → IfErr made (IsCause r old.end.id.0 road road') → goes (left_by (answers_left place) made)
      gone_ends s z (Ok (ended.Done (Some left))) g rose caused = (
        tt,
        goes_left w w (happens w (event.Down conn answered)) net net conn.0 place blocks (answer_end.Answering old place) books books' z.k.shows.first left s.book' road road' z.stands z.k.served (first_of z) s.set
            (rests z z.next refl z.order).done (λ made stay. stay) g,
      )
      gone_ends s z (Ok (ended.Done None)) g rose caused =
          let c : ℕ = conn.0 in
          let b : ℕ = asked_block z.k.shows.first in
          let v : World = happens w (event.Down conn answered) in
          let rest : RestStays w v c b = (rests z z.next refl z.order).done in (
            tt,
            record {
              made = g.made;
              roads_are = g.roads_are;
              server = server_ended i o w v net g.made c b blocks (answer_end.Answering old place) z.stands.server rest g.lower;
              books_are = subst (λ (xs : List (BookState F)). BooksShow v c blocks xs) (sym s.set) (books_set w v c b place blocks books z.k.shows.block s.book' z.stands.books_are rest z.k.shows.at_place z.k.shows.of_block g.replica);
              block = b;
              rest = rest;
              others = g.others;
            },
          )
      gone_ends s z (Ok (ended.Faulted (Some left))) g rose caused = (
        record {
          place = place;
          book = s.book;
          book' = s.book';
          before = s.at_book;
          now = ap (λ (xs : List (BookState F)). slice_get xs place) s.set ∙ set_here books place s.book s.book' s.at_book;
          rose = rose;
        },
        goes_left w w (happens w (event.Fault (delivery.Down conn))) net net conn.0 place blocks (answer_end.Answering old place) books books' z.k.shows.first left s.book' road road' z.stands z.k.served (first_of z) s.set
            (rests z z.next refl z.order).broken (λ made stay. stay) g,
      )
      gone_ends s z (Ok (ended.Faulted None)) g rose caused = absurd g
      gone_ends s z (Err fault.LinkFailed) g rose caused = subst (λ (n : ℕ). r.risen road' n ≡ true) z.k.shows.end_is.id caused
      gone_ends s z (Err fault.RoadsFailed) g rose caused = caused
      gone_ends s z (Err fault.Memory) g rose caused = tt

      goes_ends : (z : IsNextAt) → GoesOn f r i o place old books books' road road' result → goes result
      goes_ends z (inl s) =
          let b : ℕ = asked_block z.k.shows.first in
          let stands : RecoveringStands r i o w net conn.0 b s.book old road = record {
            roads_are = z.stands.roads_are;
            lower = z.k.lower;
            end_is = z.k.shows.end_is;
            received = z.k.shows.received;
            replica = z.stands.books_are.each place z.k.shows.block s.book z.k.shows.at_place s.at_book ∙ ap (replica_at w conn.0) z.k.shows.of_block;
          } in
          let can : CanRecover w conn answered b z.next = record { comes = z.comes; next = request_next z z.next refl z.order; spelled = spelled z.lawful } in
          subst goes (sym s.follows) (gone_ends s z s.made (s.shows w net conn answered b z.next stands can) s.faulted s.causes)
      goes_ends z (inr none) = absurd (not_none (slice_get books place) (z.stands.books_are.all place z.k.shows.block z.k.shows.at_place) none)

  -- THE EVENT

  pub idle_ended : (blocks : List BlockId) (e : Conn I O) (books : List (BookState F)) (road road' : R) → FirstShows r i o e road road' (Ok None) → IdleShows f r i o blocks e books books road road' (Ok ended_answer)
  idle_ended blocks e books road road' shows = λ w net conn answered stands lawful asks due.
      let z = first_at w net conn answered blocks e books road stands lawful asks due in
      ended_first w net conn answered blocks e books road road' z (shows w net conn answered z.next z.idle_stands z.can)

  pub idle_failed : (blocks : List BlockId) (e : Conn I O) (books : List (BookState F)) (road road' : R) (why : MemberFault) → FirstShows r i o e road road' (Err why) → IdleShows f r i o blocks e books books road road' (Err (answer_fault why))
  idle_failed blocks e books road road' why shows = λ w net conn answered stands lawful asks due.
      let z = first_at w net conn answered blocks e books road stands lawful asks due in
      first_caused w net conn answered blocks e books road road' why (shows w net conn answered z.next z.idle_stands z.can)

  pub idle_answered : (blocks : List BlockId) (e : Conn I O) (books books' : List (BookState F)) (asked : FirstRequest I O) (road middle road' : R) (result : Result (Answered I O) RecoveryFault) → FirstShows r i o e road middle (Ok (Some asked)) → r.faults road ≤ r.faults middle
      → Answers f r i o blocks asked books books' middle road' result → IdleShows f r i o blocks e books books' road road' result
  idle_answered blocks e books books' asked road middle road' result shows le answers = λ w net conn answered stands lawful asks due.
      let z = first_at w net conn answered blocks e books road stands lawful asks due in
      answers_ends w net conn answered blocks e books road asked middle road' books' result z (shows w net conn answered z.next z.idle_stands z.can) le answers

  pub answering_down : (blocks : List BlockId) (old : Recovering I O) (place : ℕ) (books books' : List (BookState F)) (road road' : R) (result : Result (Answered I O) RecoveryFault) → GoesOn f r i o place old books books' road road' result
      → EndShowsDown f r i o blocks (answer_end.Answering old place) books books' road road' result
  answering_down blocks old place books books' road road' result goes = λ w net conn answered stands lawful asks due.
      let k : IsAnswering i o w net conn.0 blocks old place = answering_so i o w net conn.0 blocks old place (w.lowers conn.0) refl stands.server.end_is in
      let comes = comes_so w conn.0 due in
      goes_ends w net conn answered blocks old place books books' road road' result
      (record { stands = stands; lawful = lawful; k = k; next = comes.0; comes = comes.1; order = lawful.takes conn.0 comes.0 k.lower comes.1.next }) goes

  pub ended_down : (blocks : List BlockId) (books books' : List (BookState F)) (road road' : R) (result : Result (Answered I O) RecoveryFault) → EndShowsDown f r i o blocks answer_end.Ended books books' road road' result
  ended_down blocks books books' road road' result = λ w net conn answered stands lawful asks due. absurd (none_down i o w net conn.0 blocks (w.lowers conn.0) refl stands.server.end_is due)

  -- WHAT IS LEFT

  followed_as : (old new : RecoveryServer I O) (left : Result (Answered I O) RecoveryFault) (result : Result ServerEvent RecoveryFault) → IsFollowed old new left result → left_as new.end result ≡ left
  followed_as old new (Ok left) result h = ap (left_as new.end) h.1 ∙ ap (λ (s : RecoveryServer I O). Ok (record { end = s.end; event = left.event })) h.0
  followed_as old new (Err why) result h = ap (left_as new.end) h.1

  followed_conn : (old new : RecoveryServer I O) (left : Result (Answered I O) RecoveryFault) (result : Result ServerEvent RecoveryFault) → IsFollowed old new left result → new.conn ≡ old.conn
  followed_conn old new (Ok left) result h = ap (λ (s : RecoveryServer I O). s.conn) h.0
  followed_conn old new (Err why) result h = ap (λ (s : RecoveryServer I O). s.conn) h.0

  pub followed_err : (old new : RecoveryServer I O) (left : Result (Answered I O) RecoveryFault) (result : Result ServerEvent RecoveryFault) → IsFollowed old new left result → IfErr result (λ why. new ≡ old)
  followed_err old new (Ok left) result h = subst (λ (x : Result ServerEvent RecoveryFault). IfErr x (λ why. new ≡ old)) (sym h.1) tt
  followed_err old new (Err why) result h = subst (λ (x : Result ServerEvent RecoveryFault). IfErr x (λ why. new ≡ old)) (sym h.1) h.0

  pub down_shows : (blocks : List BlockId) (old mid new : RecoveryServer I O) (e : AnswerEnd I O) (books books' : List (BookState F)) (road road' : R) (left : Result (Answered I O) RecoveryFault) (result : Result ServerEvent RecoveryFault) → e ≡ old.end → mid.conn ≡ old.conn
      → EndShowsDown f r i o blocks e books books' road road' left → IsFollowed mid new left result → DownShows f r i o blocks old new books books' road road' result
  down_shows blocks old mid new e books books' road road' left result is conn shows follows = record {
    conn = followed_conn mid new left result follows ∙ conn;
    shows = subst (λ (x : Result (Answered I O) RecoveryFault). EndShowsDown f r i o blocks old.end books books' road road' x) (sym (followed_as mid new left result follows))
        (subst (λ (y : AnswerEnd I O). EndShowsDown f r i o blocks y books books' road road' left) is shows);
  }
