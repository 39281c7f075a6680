-- An end that has taken nothing yet takes its first message: a request to read, or the end.
use Rattle.std.proofs.Common.{◌≡◌, ◌≤◌, inl, inr, ℕ, Bool, true, false, List, slice_get, slice_set, Option, Some, None, Result, Ok, Err, refl, sym, ap, ◌∙◌, subst, arith, eqb-true}
use Rattle.std.specs.Prelude.{◌==◌, if◌then◌else◌, position}
use Rattle.std.specs.List.{position_or_len}
use Rattle.std.proofs.lemmas.Bool.Decides.{nat_tests}
use Rattle.hd_base.specs.declared.ends.Conn.{Conn}
use Rattle.hd_base.specs.declared.files.Files as files
use Rattle.hd_base.specs.declared.links.LinkIn as link_in
use Rattle.hd_base.specs.declared.links.LinkOut as link_out
use Rattle.hd_base.specs.declared.numbers.BlockId.{BlockId}
use Rattle.hd_base.specs.declared.numbers.ConnId.{ConnId}
use Rattle.hd_base.specs.declared.roads.Roads as roads
use Rattle.op_headers.specs.declared.ops.Op.{Op}
use Rattle.op_headers.specs.declared.ops.Op.TheVariants as op
use Rattle.op_headers.specs.declared.ops.ReadOp.{ReadOp}
use Rattle.serving_events.specs.ReadCore.Servings.{read_at, read_event}
use Rattle.replica_core.specs.declared.events.Event.{Event as ReplicaEvent}
use Rattle.recovery_events.specs.ReplicaFiles.BookState.{BookState}
use Rattle.request_refusals.specs.declared.refusals.RequestRefusal.{RequestRefusal}
use Rattle.road_traffic.specs.Showing.{Net}
use Rattle.world_requests.specs.World.Delivery.TheVariants as delivery
use Rattle.world_requests.specs.World.Event.{Event}
use Rattle.world_requests.specs.World.Event.TheVariants as event
use Rattle.world_requests.specs.World.Parts as parts
use Rattle.world_requests.specs.World.Parts.{Message, request, packet, ack, response, read_status, recovery_answer, idle, ended_below}
use Rattle.world_requests.specs.World.Worlds.{World, Change, apply}
use Rattle.world_requests.specs.World.Connections.{Next, message, the_end, next_down, down_taken, is_served}
use Rattle.world_requests.specs.World.Enabled.{can_down, takes_down}
use Rattle.world_requests.specs.World.Nodes.{replica_at, lower_down, failing_read, closing}
use Rattle.world_requests.specs.World.Events.{outcome, changed, down_as, down_event, happens, after_event}
use Rattle.world_requests.proofs.WorldLaws.FactTables.{and-left, and-right}
use Rattle.recovery_events.specs.WorldOrders.Orders.{Purpose, purpose_of, reading, comes_down, is_read}
use Rattle.recovery_events.specs.WorldOrders.Takes.{TakesInOrder}
use Rattle.recovery_events.proofs.WorldOrders.AllOrdered.{next-found}
use Rattle.world_requests.specs.Requests.{IsAmong}
use Rattle.recovery_events.specs.WorldTexts.Texts.{SpellsText, Written}
use Rattle.world_standings.specs.WorldNets.Drawn.{ComesDown, IsNoRequest}
use Rattle.world_standings.proofs.WorldNets.DrawnLemmas.{down-makes}
use Rattle.recovery_events.specs.MemberEvents.FirstRequest.{FirstRequest}
use Rattle.recovery_events.specs.MemberEvents.MemberFault.{MemberFault}
use Rattle.recovery_events.specs.MemberEvents.MemberFault.TheVariants as member_fault
use Rattle.recovery_events.specs.MemberEvents.Beginning as first
use Rattle.recovery_events.specs.MemberEvents.Beginning.{IdleStands, IsFirstRequest, CanTakeFirst, HasFirst, FirstShows, IsEndFault}
use Rattle.serving_events.specs.declared.faults.ServeFault.{ServeFault}
use Rattle.serving_events.specs.declared.faults.ServeFault.TheVariants as fault
use Rattle.serving_events.specs.declared.steps.Outcome.{Outcome}
use Rattle.serving_events.specs.declared.steps.Outcome.TheVariants as outcome_is
use Rattle.serving_events.specs.Drawn.{read_next, block_of, breaks_read}
use Rattle.serving_events.specs.Faults.{IsCausedInRequest}
use Rattle.serving_events.specs.Requests.{RequestStands, CanServe, RequestEnds}
use Rattle.serving_events.specs.Showing.{HasEnded}
use Rattle.serving_events.proofs.DrawnLaws.{request_makes}
use Rattle.recovery_events.proofs.MemberEvents.FaultEvents.{rises_from}
use Rattle.play_servers.specs.declared.servers.Left.{Left}
use Rattle.play_servers.specs.declared.servers.ReadEnd.TheVariants as read_end
use Rattle.play_servers.specs.Places.{place_of, ended_left, left_by, read_fault, IsServed, Serves}
use Rattle.play_servers.specs.Showing.{BooksShow, ServerStands, AsksFor}
use Rattle.play_servers.specs.Events.{IsCausedByRoads, RestStays, ServerLeft, DownIsLawful, DownEnds, IdleShows}
use Rattle.play_servers.proofs.TableLaws.{Passes, passes_at, place_there, not_none, set_here}
use Rattle.play_servers.proofs.RestLaws.{IsLower, rest_after, rest_taken, closing_lower, read_lower, breaking_lower, closed_replicas}
use Rattle.play_servers.proofs.ServerLaws.{books_set, books_stay, IsIdle, is_idle, server_ended, server_serves, others_join}

-- WHAT STANDS NEXT

takes_so : (l : parts.Lower) (w : World) (c : ℕ) (x : Option Next) → takes_down l w c x ≡ true → (y : Next) × (x ≡ Some y)
takes_so l w c None h = cc
takes_so l w c (Some y) h = (y, refl)

pub comes_so : (w : World) (c : ℕ) → can_down w c ≡ true → (x : Next) × ComesDown w c x
comes_so w c h =
    let t : Bool = takes_down (w.lowers c) w c (next_down w c) in
    let found = takes_so (w.lowers c) w c (next_down w c) (and-right (is_served w c) t h) in
    (found.0, record { served = and-left (is_served w c) t h; next = found.1 })

-- a request to read
read_so : (m : Message) → is_read m ≡ true → (read : ReadOp) × (m ≡ request (op.Read read))
read_so (request (op.Read read)) h = (read, refl)
read_so (request other) h = cc
read_so (packet p) h = cc
read_so (ack a) h = cc
read_so (response q) h = cc
read_so (read_status s) h = cc
read_so (recovery_answer a) h = cc

-- what comes first on a reader's connection
reads_first : (w : World) (c : ℕ) (m : Message) → TakesInOrder w → purpose_of (w.dialled c).upper ≡ reading → w.lowers c ≡ idle → ComesDown w c (message m) → (read : ReadOp) × (m ≡ request (op.Read read))
reads_first w c m taken dialled lower comes =
    read_so m (ap (λ (p : Purpose). comes_down p true m) (sym dialled) ∙ taken.first c m lower comes.next)

can_take : (w : World) (c : ℕ) (x : Next) → TakesInOrder w → Written w → purpose_of (w.dialled c).upper ≡ reading → w.lowers c ≡ idle → ComesDown w c x → CanTakeFirst w c x
can_take w c the_end taken written dialled lower comes = record { comes = comes; first = tt }
can_take w c (message m) taken written dialled lower comes =
    let is = reads_first w c m taken dialled lower comes in
    record {
      comes = comes;
      first = subst (λ (z : Message). IsFirstRequest (message z)) (sym is.1)
          (subst SpellsText is.1 (written.downs c (w.down_marks c).taken m (next-found (w.downs c) (w.down_marks c) m comes.next)));
    }

-- THE WORLD

down_by : (w : World) (c : ℕ) (answered fails : Bool) (x : Next) (l : parts.Lower) → ComesDown w c x → w.lowers c ≡ l → down_event w c answered fails ≡ changed (down_taken w c x) (lower_down l (down_taken w c x) c x answered fails)
down_by w c answered fails x l k e =
    (λ j. if k.served j then down_as w c answered fails (k.next j) else None)
    ∙ ap (λ (m : parts.Lower). changed (down_taken w c x) (lower_down m (down_taken w c x) c x answered fails)) e

-- No call on files fails where none is made.
unbooked : (w : World) (conn : ConnId) (r : ReadOp) (why : RequestRefusal) → ComesDown w conn.0 (read_next r) → w.lowers conn.0 ≡ idle → read_event r ≡ Err why → outcome w (event.Fault (delivery.Down conn)) ≡ None
unfolding outcome
unbooked w conn r why k e is =
    let w1 : World = down_taken w conn.0 (read_next r) in
    down_by w conn.0 false true (read_next r) idle k e
    ∙ ap (λ (z : Result ReplicaEvent RequestRefusal). changed w1 (failing_read w1 conn.0 (block_of r) z)) is

pub unhappened : (w : World) (e : Event) → outcome w e ≡ None → happens w e ≡ w
unfolding happens
unhappened w e out = ap (after_event w e) out

pub same_test : (a b : ℕ) → a ≡ b → (a == b) ≡ true
same_test a b e = grind (arith, nat_tests, e)

-- the block with a number at the place where it is found
pub block_found : (blocks : List BlockId) (n place : ℕ) → position (λ b. b.0 == n) blocks ≡ Some place → (block : BlockId) × ((slice_get blocks place ≡ Some block) × (block.0 ≡ n))
block_found blocks n place is =
    let p : Passes (λ b. b.0 == n) blocks place = passes_at (λ b. b.0 == n) blocks place is in
    (p.at, (p.found, eqb-true p.at.0 n p.passes))

module _ {F R I O : Type 0} (f : files.Ghosts F) (r : roads.Ghosts R I O) (i : link_in.Ghosts I) (o : link_out.Ghosts O) where
  module _ (w : World) (net : Net) (conn : ConnId) (answered : Bool) (blocks : List BlockId) (e : Conn I O) (books : List (BookState F)) (road : R) where
    -- What is known before the event.
    record IsFirstAt : Type 0 where
      stands : ServerStands r i o w net conn.0 blocks (read_end.Idle e) books road
      lawful : DownIsLawful w conn
      asks : AsksFor blocks w conn.0
      idle_is : IsIdle i o w net conn.0 e
      next : Next
      comes : ComesDown w conn.0 next
      can : CanTakeFirst w conn.0 next
      idle_stands : IdleStands r i o w net conn.0 e road

    first_at : ServerStands r i o w net conn.0 blocks (read_end.Idle e) books road → DownIsLawful w conn → AsksFor blocks w conn.0 → can_down w conn.0 ≡ true → IsFirstAt
    first_at stands lawful asks due =
        let k : IsIdle i o w net conn.0 e = is_idle i o w net conn.0 blocks e stands.server in
        let comes = comes_so w conn.0 due in
        record {
          stands = stands;
          lawful = lawful;
          asks = asks;
          idle_is = k;
          next = comes.0;
          comes = comes.1;
          can = can_take w conn.0 comes.0 lawful.taken lawful.before stands.server.dialled k.lower comes.1;
          idle_stands = record { roads_are = stands.roads_are; lower = k.lower; end_is = k.end_is };
        }

    -- THE END CAME

    ended_first : (road' : R) → (z : IsFirstAt) → first.HasEnded r i o w net (happens w (event.Down conn answered)) conn.0 z.next road' → DownEnds f r i o w net conn answered blocks books books road road' (Ok ended_left)
    ended_first road' z h =
        let c : ℕ = conn.0 in
        let ev : Event = event.Down conn answered in
        let w1 : World = down_taken w c z.next in
        let v : World = happens w ev in
        let out : outcome w ev ≡ Some (apply w1 (closing w1 c)) = (down-makes w conn answered z.next z.comes).other z.idle_is.lower (subst IsNoRequest (sym h.is_end) tt) in
        let rest : RestStays w v c 0 = rest_taken w c z.next v 0 (rest_after w w1 c 0 (closing w1 c) ev out (closing_lower w1 c 0)) in (
          tt,
          record {
            made = h.made;
            roads_are = h.roads_are;
            server = server_ended i o w v net h.made c 0 blocks (read_end.Idle e) z.stands.server rest h.lower;
            books_are = books_stay w v c 0 blocks books z.stands.books_are rest (closed_replicas w c z.next ev out);
            block = 0;
            rest = rest;
            others = h.others;
          },
        )

    first_caused : (road' : R) (why : MemberFault) → IsEndFault r conn.0 road road' why → IsCausedByRoads r conn.0 road road' (read_fault why)
    first_caused road' member_fault.LinkFailed h = h
    first_caused road' member_fault.RoadsFailed h = h
    first_caused road' member_fault.FilesFailed h = absurd h
    first_caused road' member_fault.Memory h = tt

    -- A REQUEST CAME

    module _ (asked : FirstRequest I O) (middle road' : R) (books' : List (BookState F)) (result : Result (Left I O) ServeFault) where
      -- What is known of the request.
      record IsAskedAt (read : ReadOp) : Type 0 where
        at : IsFirstAt
        comes : ComesDown w conn.0 (read_next read)
        has : HasFirst r i o w net conn.0 (read_next read) middle asked

      asked_at : (z : IsFirstAt) (read : ReadOp) → HasFirst r i o w net conn.0 z.next middle asked → asked.op ≡ op.Read read → IsAskedAt read
      asked_at z read h is =
          let same : z.next ≡ read_next read = h.is_request ∙ ap (λ (q : Op). message (request q)) is in
          record { at = z; comes = subst (ComesDown w conn.0) same z.comes; has = subst (λ (x : Next). HasFirst r i o w net conn.0 x middle asked) same h }

      -- the connection has ended in the event, in which a change of the lower end was made
      shut_left : (read : ReadOp) (place : ℕ) (book book' : BookState F) (block : BlockId) (ev : Event) (k : Change) → (z : IsAskedAt read) → slice_get blocks place ≡ Some block → block.0 ≡ block_of read
          → books' ≡ slice_set books place book' → outcome w ev ≡ Some (apply (down_taken w conn.0 (read_next read)) k) → IsLower (down_taken w conn.0 (read_next read)) conn.0 (block_of read) k
          → HasEnded r i o (down_taken w conn.0 (read_next read)) z.has.made (happens w ev) conn.0 (block_of read) book' road' → ServerLeft r i o w net (happens w ev) conn.0 blocks read_end.Ended books' road'
      shut_left read place book book' block ev k z at_place of_block set out is h =
          let c : ℕ = conn.0 in
          let b : ℕ = block_of read in
          let w1 : World = down_taken w c (read_next read) in
          let v : World = happens w ev in
          let rest : RestStays w v c b = rest_taken w c (read_next read) v b (rest_after w w1 c b k ev out is) in
          record {
            made = h.made;
            roads_are = h.roads_are;
            server = server_ended i o w v net h.made c b blocks (read_end.Idle e) z.at.stands.server rest h.lower;
            books_are = subst (λ (xs : List (BookState F)). BooksShow v c blocks xs) (sym set) (books_set w v c b place blocks books block book' z.at.stands.books_are rest at_place of_block h.replica);
            block = b;
            rest = rest;
            others = others_join i o w w1 v net z.has.made h.made c z.has.others h.others;
          }

      -- What is known of a request to read, and of its book.
      record IsBookedAt (s : IsServed f r i o blocks asked books books' middle road' result) : Type 0 where
        z : IsAskedAt s.read
        block : BlockId
        at_place : slice_get blocks s.place ≡ Some block
        of_block : block.0 ≡ block_of s.read
        never_falls : r.faults road ≤ r.faults middle

      abbrev ends : Result (Left I O) ServeFault → Type 0
      ends x = DownEnds f r i o w net conn answered blocks books books' road road' x

      rose_from : (why : ServeFault) → r.faults road ≤ r.faults middle → (book : BookState F) → IsCausedInRequest f r conn.0 book middle road' why → IsCausedByRoads r conn.0 road road' why
      rose_from fault.LinkFailed le book h = h
      rose_from fault.RoadsFailed le book h = rises_from (r.faults road) (r.faults middle) (r.faults road') le h
      rose_from fault.BytesMissing le book h = absurd h
      rose_from fault.Memory le book h = tt

      -- where no call on files was made none can have failed
      broke_left : (s : IsServed f r i o blocks asked books books' middle road' result) (k : IsBookedAt s) (x : Result ReplicaEvent RequestRefusal) → read_event s.read ≡ x
          → HasEnded r i o (down_taken w conn.0 (read_next s.read)) k.z.has.made (happens w (event.Fault (delivery.Down conn))) conn.0 (block_of s.read) s.book' road'
          → ServerLeft r i o w net (happens w (event.Fault (delivery.Down conn))) conn.0 blocks read_end.Ended books' road'
      broke_left s k (Ok ev) is h =
          let c : ℕ = conn.0 in
          let w1 : World = down_taken w c (read_next s.read) in
          shut_left s.read s.place s.book s.book' k.block (event.Fault (delivery.Down conn)) (breaks_read w1 c s.read ev) k.z k.at_place k.of_block s.set
          ((request_makes w conn s.read k.z.comes k.z.at.idle_is.lower).faulted ev is) (breaking_lower w1 c (block_of s.read) _ _ _) h
      broke_left s k (Err why) is h =
          absurd (never (sym k.z.at.idle_is.lower ∙ (sym (ap (λ (u : World). u.lowers conn.0) (unhappened w (event.Fault (delivery.Down conn)) (unbooked w conn s.read why k.z.comes k.z.at.idle_is.lower is))) ∙ h.lower)))
        where
          never : idle ≡ ended_below → ⊥
          never q = cc

      served_ends : (s : IsServed f r i o blocks asked books books' middle road' result) (k : IsBookedAt s) (made : Result (Outcome I O) ServeFault) → RequestEnds f r i o w k.z.has.made conn answered s.read s.book s.book' middle road' made → ends (left_by s.place made)
      served_ends s k (Ok (outcome_is.Serves read)) g =
          let c : ℕ = conn.0 in
          let b : ℕ = block_of s.read in
          let ev : Event = event.Down conn answered in
          let w1 : World = down_taken w c (read_next s.read) in
          let v : World = happens w ev in
          let rest : RestStays w v c b =
          rest_taken w c (read_next s.read) v b (rest_after w w1 c b _ ev ((request_makes w conn s.read k.z.comes k.z.at.idle_is.lower).answered answered) (read_lower w1 c b (read_at s.read (replica_at w1 c b)))) in (
            tt,
            record {
              made = g.made;
              roads_are = g.roads_are;
              server = server_serves i o w v net g.made c b s.place blocks (read_end.Idle e) g.state read k.block k.z.at.stands.server rest k.z.at.idle_is.served g.lower g.shows k.at_place k.of_block;
              books_are = subst (λ (xs : List (BookState F)). BooksShow v c blocks xs) (sym s.set) (books_set w v c b s.place blocks books k.block s.book' k.z.at.stands.books_are rest k.at_place k.of_block g.replica);
              block = b;
              rest = rest;
              others = others_join i o w w1 v net k.z.has.made g.made c k.z.has.others g.others;
            },
          )
      served_ends s k (Ok outcome_is.Ended) h =
          let c : ℕ = conn.0 in
          let b : ℕ = block_of s.read in
          let w1 : World = down_taken w c (read_next s.read) in (
            tt,
            shut_left s.read s.place s.book s.book' k.block (event.Down conn answered) _ k.z k.at_place k.of_block s.set
                ((request_makes w conn s.read k.z.comes k.z.at.idle_is.lower).answered answered) (read_lower w1 c b (read_at s.read (replica_at w1 c b))) h,
          )
      served_ends s k (Ok outcome_is.Faulted) h = (
        record {
          place = s.place;
          book = s.book;
          book' = s.book';
          before = s.at_book;
          now = ap (λ (xs : List (BookState F)). slice_get xs s.place) s.set ∙ set_here books s.place s.book s.book' s.at_book;
          rose = h.rose;
        },
        broke_left s k (read_event s.read) refl h.ends,
      )
      served_ends s k (Err why) h = rose_from why k.never_falls s.book h

      serves_ends : (z : IsFirstAt) → HasFirst r i o w net conn.0 z.next middle asked → r.faults road ≤ r.faults middle → Serves f r i o blocks asked books books' middle road' result → ends result
      serves_ends z has le (inl s) =
          let a : IsAskedAt s.read = asked_at z s.read has s.is_read in
          let b = block_found blocks (block_of s.read) s.place s.at_place in
          let k : IsBookedAt s = record { z = a; block = b.0; at_place = b.1.0; of_block = b.1.1; never_falls = le } in
          let stands : RequestStands r i o w a.has.made conn.0 s.read s.book asked.end middle = record {
            comes = a.comes;
            lower = z.idle_is.lower;
            roads_are = a.has.roads_are;
            end_is = a.has.end_is;
            replica = z.stands.books_are.each s.place b.0 s.book b.1.0 s.at_book ∙ ap (replica_at w conn.0) b.1.1;
          } in
          let can : CanServe w conn = record { answers = λ answers. (z.lawful.after answers).ups conn.0; refuses = z.lawful.broken.ups conn.0 } in
          subst ends (sym s.follows) (served_ends s k s.made (s.shows w a.has.made conn answered stands can))
      serves_ends z has le (inr none) =
          let c : ℕ = conn.0 in
          let comes : ComesDown w c (message (request asked.op)) = subst (ComesDown w c) has.is_request z.comes in
          let first_read = reads_first w c (request asked.op) z.lawful.taken z.stands.server.dialled z.idle_is.lower comes in
          let read : ReadOp = first_read.0 in
          let is : asked.op ≡ op.Read read = op_same asked.op (op.Read read) first_read.1 in
          let among : IsAmong blocks (block_of read) =
          z.asks (w.down_marks c).taken read (next-found (w.downs c) (w.down_marks c) (request (op.Read read)) (comes.next ∙ ap (λ (m : Message). Some (message m)) first_read.1)) in
          let test : BlockId → Bool = λ b. b.0 == block_of read in
          let at : place_of blocks read ≡ Some (position_or_len test blocks) = place_there test blocks among.place among.block among.at_place (same_test among.block.0 (block_of read) among.is) in
          let b = block_found blocks (block_of read) (position_or_len test blocks) at in
          absurd (not_none (slice_get books (position_or_len test blocks)) (z.stands.books_are.all (position_or_len test blocks) b.0 b.1.0) (none.none read (position_or_len test blocks) is at))
        where
          op_same : (a b : Op) → request a ≡ request b → a ≡ b
          op_same a b q = cc

  -- THE EVENT

  pub idle_ended : (blocks : List BlockId) (e : Conn I O) (books : List (BookState F)) (road road' : R) → FirstShows r i o e road road' (Ok None) → IdleShows f r i o blocks e books books road road' (Ok ended_left)
  idle_ended blocks e books road road' shows = λ w net conn answered stands lawful asks due.
      let z = first_at w net conn answered blocks e books road stands lawful asks due in
      ended_first w net conn answered blocks e books road road' z (shows w net conn answered z.next z.idle_stands z.can)

  pub idle_failed : (blocks : List BlockId) (e : Conn I O) (books : List (BookState F)) (road road' : R) (why : MemberFault) → FirstShows r i o e road road' (Err why) → IdleShows f r i o blocks e books books road road' (Err (read_fault why))
  idle_failed blocks e books road road' why shows = λ w net conn answered stands lawful asks due.
      let z = first_at w net conn answered blocks e books road stands lawful asks due in
      first_caused w net conn answered blocks e books road road' why (shows w net conn answered z.next z.idle_stands z.can)

  pub idle_served : (blocks : List BlockId) (e : Conn I O) (books books' : List (BookState F)) (asked : FirstRequest I O) (road middle road' : R) (result : Result (Left I O) ServeFault) → FirstShows r i o e road middle (Ok (Some asked)) → r.faults road ≤ r.faults middle
      → Serves f r i o blocks asked books books' middle road' result → IdleShows f r i o blocks e books books' road road' result
  idle_served blocks e books books' asked road middle road' result shows le serves = λ w net conn answered stands lawful asks due.
      let z = first_at w net conn answered blocks e books road stands lawful asks due in
      serves_ends w net conn answered blocks e books road asked middle road' books' result z (shows w net conn answered z.next z.idle_stands z.can) le serves
