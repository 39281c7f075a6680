-- A node sends the next packet of a read that it serves.
use Rattle.std.proofs.Common.{◌≡◌, inl, inr, ℕ, true, false, List, slice_get, is_some, Option, Some, None, IfSome, IsSome, Result, Ok, Err, refl, sym, ap, ◌∙◌, subst}
use Rattle.hd_base.specs.declared.ends.Conn.{Conn}
use Rattle.hd_base.specs.declared.files.Files as files
use Rattle.hd_base.specs.declared.links.LinkIn as link_in
use Rattle.hd_base.specs.declared.links.LinkOut as link_out
use Rattle.hd_base.specs.declared.numbers.BlockId.{BlockId}
use Rattle.hd_base.specs.declared.numbers.ConnId.{ConnId}
use Rattle.hd_base.specs.declared.roads.Roads as roads
use Rattle.serving_events.specs.ReadCore.Servings.{next_call, piece_at}
use Rattle.replica_core.specs.declared.events.Event.{Event as ReplicaEvent}
use Rattle.recovery_events.specs.ReplicaFiles.BookState.{BookState}
use Rattle.road_traffic.specs.Showing.{Net}
use Rattle.world_requests.specs.World.Delivery.TheVariants as delivery
use Rattle.world_requests.specs.World.Event.{Event}
use Rattle.world_requests.specs.World.Event.TheVariants as event
use Rattle.world_requests.specs.World.Parts as parts
use Rattle.world_requests.specs.World.Parts.{idle}
use Rattle.world_requests.specs.World.Worlds.{World, Change, apply}
use Rattle.world_requests.specs.World.Connections.{is_served}
use Rattle.world_requests.specs.World.Enabled.{can_ready, acts_below}
use Rattle.world_requests.specs.World.Nodes.{replica_at}
use Rattle.world_requests.specs.World.Events.{outcome, happens}
use Rattle.world_requests.proofs.WorldLaws.FactTables.{and-right}
use Rattle.serving_events.specs.declared.faults.ServeFault.{ServeFault}
use Rattle.serving_events.specs.declared.faults.ServeFault.TheVariants as fault
use Rattle.serving_events.specs.declared.steps.Outcome.{Outcome}
use Rattle.serving_events.specs.declared.steps.Outcome.TheVariants as outcome_is
use Rattle.serving_events.specs.declared.steps.ServedRead.{ServedRead}
use Rattle.serving_events.specs.Faults as served
use Rattle.serving_events.specs.Packets.{CanSend, PacketEnds}
use Rattle.serving_events.specs.Showing.{ReadStands, GoesOn, HasEnded}
use Rattle.serving_events.proofs.DrawnLaws.{packet_makes}
use Rattle.play_servers.specs.declared.servers.Left.{Left}
use Rattle.play_servers.specs.declared.servers.ReadEnd.{ReadEnd}
use Rattle.play_servers.specs.declared.servers.ReadEnd.TheVariants as read_end
use Rattle.play_servers.specs.declared.servers.ReadServer.{ReadServer}
use Rattle.play_servers.specs.declared.servers.ServerEvent.{ServerEvent}
use Rattle.play_servers.specs.Places.{left_by, IsSent, Sends, IsFollowed}
use Rattle.play_servers.specs.Showing.{BooksShow, ServerStands}
use Rattle.play_servers.specs.Events.{IsCaused, RestStays, ServerLeft, ReadyEnds, EndShowsReady, ReadyShows}
use Rattle.play_servers.proofs.TableLaws.{not_none, set_here}
use Rattle.play_servers.proofs.RestLaws.{IsLower, rest_after, piece_lower, breaking_lower}
use Rattle.play_servers.proofs.ServerLaws.{books_set, IsIdle, is_idle, IsServing, is_serving, server_ended, server_serves}
use Rattle.play_servers.proofs.DownEvents.{none_ready, followed_as, followed_conn}

some_so : {A : Type 0} (x : Option A) → is_some x ≡ true → (a : A) × (x ≡ Some a)
some_so None h = cc
some_so (Some a) h = (a, refl)

told_so : {A : Type 0} (x : Option A) (P : Type 0) → IsSome x → IfSome x (λ _. P) → P
told_so None P h k = cc
told_so (Some a) P h k = k

idle_acts : (w : World) (c : ℕ) → w.lowers c ≡ idle → acts_below (w.lowers c) w c ≡ true → ⊥
idle_acts w c is h = never (sym (ap (λ (l : parts.Lower). acts_below l w c) is) ∙ h)
  where
    never : false ≡ true → ⊥
    never e = cc

module _ {F R I O : Type 0} (f : files.Ghosts F) (r : roads.Ghosts R I O) (i : link_in.Ghosts I) (o : link_out.Ghosts O) where
  module _ (w : World) (net : Net) (conn : ConnId) (blocks : List BlockId) (place : ℕ) (read : ServedRead I O) (books books' : List (BookState F)) (road road' : R) (result : Result (Left I O) ServeFault) where
    -- What is known before the event.
    record IsSentAt (s : IsSent f r i o place read books books' road road' result) : Type 0 where
      stands : ServerStands r i o w net conn.0 blocks (read_end.Serving read place) books road
      k : IsServing i o w net conn.0 blocks read place
      call : ReplicaEvent
      call_is : next_call k.s ≡ Some call

    abbrev ends : Result (Left I O) ServeFault → Type 0
    ends x = ReadyEnds f r i o w net conn blocks books books' road road' x

    -- the connection has ended in the event, in which a change of the lower end was made
    shut_left : (s : IsSent f r i o place read books books' road road' result) (z : IsSentAt s) (ev : Event) (c : Change) → outcome w ev ≡ Some (apply w c) → IsLower w conn.0 z.k.b c → HasEnded r i o w net (happens w ev) conn.0 z.k.b s.book' road'
        → ServerLeft r i o w net (happens w ev) conn.0 blocks read_end.Ended books' road'
    shut_left s z ev c out is h =
        let v : World = happens w ev in
        let b : ℕ = z.k.b in
        let rest : RestStays w v conn.0 b = rest_after w w conn.0 b c ev out is in
        record {
          made = h.made;
          roads_are = h.roads_are;
          server = server_ended i o w v net h.made conn.0 b blocks (read_end.Serving read place) z.stands.server rest h.lower;
          books_are = subst (λ (xs : List (BookState F)). BooksShow v conn.0 blocks xs) (sym s.set) (books_set w v conn.0 b place blocks books z.k.block s.book' z.stands.books_are rest z.k.at_place z.k.of_block h.replica);
          block = b;
          rest = rest;
          others = h.others;
        }

    serves_left : (s : IsSent f r i o place read books books' road road' result) (z : IsSentAt s) (new : ServedRead I O) → GoesOn r i o w net (happens w (event.Ready conn)) conn.0 z.k.b s.book' road' new
        → ServerLeft r i o w net (happens w (event.Ready conn)) conn.0 blocks (read_end.Serving new place) books' road'
    serves_left s z new g =
        let ev : Event = event.Ready conn in
        let v : World = happens w ev in
        let b : ℕ = z.k.b in
        let rest : RestStays w v conn.0 b =
        rest_after w w conn.0 b _ ev (packet_makes w conn b z.k.s z.call z.k.served z.k.lower z.call_is).sent (piece_lower w conn.0 b (piece_at z.k.s (replica_at w conn.0 b))) in
        record {
          made = g.made;
          roads_are = g.roads_are;
          server = server_serves i o w v net g.made conn.0 b place blocks (read_end.Serving read place) g.state new z.k.block z.stands.server rest z.k.served g.lower g.shows z.k.at_place z.k.of_block;
          books_are = subst (λ (xs : List (BookState F)). BooksShow v conn.0 blocks xs) (sym s.set) (books_set w v conn.0 b place blocks books z.k.block s.book' z.stands.books_are rest z.k.at_place z.k.of_block g.replica);
          block = b;
          rest = rest;
          others = g.others;
        }

    caused : (s : IsSent f r i o place read books books' road road' result) (why : ServeFault) → served.IsCaused f r conn.0 s.book road road' why → IsCaused f r conn.0 books road road' why
    caused s fault.LinkFailed h = h
    caused s fault.RoadsFailed h = h
    caused s fault.BytesMissing h = record { place = place; book = s.book; at = s.at_book; untold = h }
    caused s fault.Memory h = tt

    sent_ends : (s : IsSent f r i o place read books books' road road' result) (z : IsSentAt s) (made : Result (Outcome I O) ServeFault) → PacketEnds f r i o w net conn z.k.b s.book s.book' road road' made → ends (left_by place made)
    sent_ends s z (Ok (outcome_is.Serves new)) h = (tt, λ told. serves_left s z new (told_so (f.files s.book.drawer) _ (told place s.book s.at_book) h))
    sent_ends s z (Ok outcome_is.Ended) h =
        (tt, shut_left s z (event.Ready conn) _ (packet_makes w conn z.k.b z.k.s z.call z.k.served z.k.lower z.call_is).sent (piece_lower w conn.0 z.k.b (piece_at z.k.s (replica_at w conn.0 z.k.b))) h)
    sent_ends s z (Ok outcome_is.Faulted) h = (
      record {
        place = place;
        book = s.book;
        book' = s.book';
        before = s.at_book;
        now = ap (λ (xs : List (BookState F)). slice_get xs place) s.set ∙ set_here books place s.book s.book' s.at_book;
        rose = h.rose;
      },
      shut_left s z (event.Fault (delivery.Ready conn)) _ (packet_makes w conn z.k.b z.k.s z.call z.k.served z.k.lower z.call_is).faulted (breaking_lower w conn.0 z.k.b _ _ _) h.ends,
    )
    sent_ends s z (Err why) h = caused s why h

    sends_ends : ServerStands r i o w net conn.0 blocks (read_end.Serving read place) books road → can_ready w conn.0 ≡ true → Sends f r i o place read books books' road road' result → ends result
    sends_ends stands due (inl s) =
        let c : ℕ = conn.0 in
        let k : IsServing i o w net c blocks read place = is_serving i o w net c blocks read place stands.server in
        let acts : is_some (next_call k.s) ≡ true = ap (λ (l : parts.Lower). acts_below l w c) (sym k.lower) ∙ and-right (is_served w c) (acts_below (w.lowers c) w c) due in
        let call = some_so (next_call k.s) acts in
        let z : IsSentAt s = record { stands = stands; k = k; call = call.0; call_is = call.1 } in
        let before : ReadStands r i o w net c k.b k.s s.book read road = record {
          roads_are = stands.roads_are;
          lower = k.lower;
          shows = k.shows;
          replica = stands.books_are.each place k.block s.book k.at_place s.at_book ∙ ap (replica_at w c) k.of_block;
        } in
        let can : CanSend w c k.s call.0 = record { served = k.served; call = call.1 } in
        subst ends (sym s.follows) (sent_ends s z s.made (s.shows w net conn k.b k.s call.0 before can))
    sends_ends stands due (inr none) =
        let k : IsServing i o w net conn.0 blocks read place = is_serving i o w net conn.0 blocks read place stands.server in
        absurd (not_none (slice_get books place) (stands.books_are.all place k.block k.at_place) none)

  -- THE EVENT

  pub serving_ready : (place : ℕ) (read : ServedRead I O) (books books' : List (BookState F)) (road road' : R) (result : Result (Left I O) ServeFault) → Sends f r i o place read books books' road road' result → EndShowsReady f r i o (read_end.Serving read place) books books' road road' result
  serving_ready place read books books' road road' result sends = λ w net conn blocks stands due. sends_ends w net conn blocks place read books books' road road' result stands due sends

  pub idle_ready : (e : Conn I O) (books books' : List (BookState F)) (road road' : R) (result : Result (Left I O) ServeFault) → EndShowsReady f r i o (read_end.Idle e) books books' road road' result
  idle_ready e books books' road road' result = λ w net conn blocks stands due.
      let k : IsIdle i o w net conn.0 e = is_idle i o w net conn.0 blocks e stands.server in
      absurd (idle_acts w conn.0 k.lower (and-right (is_served w conn.0) (acts_below (w.lowers conn.0) w conn.0) due))

  pub ended_ready : (books books' : List (BookState F)) (road road' : R) (result : Result (Left I O) ServeFault) → EndShowsReady f r i o read_end.Ended books books' road road' result
  ended_ready books books' road road' result = λ w net conn blocks stands due. absurd (none_ready i o w net conn.0 blocks (w.lowers conn.0) refl stands.server.end_is due)

  pub ready_shows : (old mid new : ReadServer I O) (e : ReadEnd I O) (books books' : List (BookState F)) (road road' : R) (left : Result (Left I O) ServeFault) (result : Result ServerEvent ServeFault) → e ≡ old.end → mid.conn ≡ old.conn
      → EndShowsReady f r i o e books books' road road' left → IsFollowed mid new left result → ReadyShows f r i o old new books books' road road' result
  ready_shows old mid new e books books' road road' left result is conn shows follows = record {
    conn = followed_conn f r i o mid new left result follows ∙ conn;
    shows = subst (λ (x : Result (Left I O) ServeFault). EndShowsReady f r i o old.end books books' road road' x) (sym (followed_as f r i o mid new left result follows))
        (subst (λ (y : ReadEnd I O). EndShowsReady f r i o y books books' road road' left) is shows);
  }
