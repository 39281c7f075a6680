-- A read that is served takes what stands next, and ends.
use Rattle.std.proofs.Common.{◌≡◌, ℕ, Bool, true, false, List, Option, Some, None, IfErr, Result, Ok, Err, refl, sym, ap, ◌∙◌, subst}
use Rattle.hd_base.specs.declared.files.Files as files
use Rattle.hd_base.specs.declared.links.LinkIn as link_in
use Rattle.hd_base.specs.declared.links.LinkOut as link_out
use Rattle.hd_base.specs.declared.numbers.BlockId.{BlockId}
use Rattle.hd_base.specs.declared.roads.Roads as roads
use Rattle.recovery_events.specs.ReplicaFiles.BookState.{BookState}
use Rattle.road_traffic.specs.Showing.{Net}
use Rattle.world_requests.specs.World.Event.{Event}
use Rattle.world_requests.specs.World.Event.TheVariants as event
use Rattle.world_requests.specs.World.Parts as parts
use Rattle.world_requests.specs.World.Parts.{idle, serves, ended_below}
use Rattle.world_requests.specs.World.Worlds.{World, apply}
use Rattle.world_requests.specs.World.Connections.{Next, next_down, down_taken, is_served}
use Rattle.world_requests.specs.World.Enabled.{can_down, can_ready, takes_down, acts_below}
use Rattle.world_requests.specs.World.Nodes.{closing}
use Rattle.world_requests.specs.World.Events.{outcome, happens}
use Rattle.world_requests.proofs.WorldLaws.FactTables.{and-left, and-right}
use Rattle.serving_events.specs.declared.faults.ServeFault.{ServeFault}
use Rattle.serving_events.specs.declared.faults.ServeFault.TheVariants as fault
use Rattle.serving_events.specs.declared.steps.ServedRead.{ServedRead}
use Rattle.serving_events.specs.Ends as served
use Rattle.serving_events.specs.Faults.{IsRoadFault}
use Rattle.serving_events.proofs.DrawnLaws.{end_makes}
use Rattle.play_servers.specs.declared.servers.Left.{Left}
use Rattle.play_servers.specs.declared.servers.ReadEnd.{ReadEnd}
use Rattle.play_servers.specs.declared.servers.ReadEnd.TheVariants as read_end
use Rattle.play_servers.specs.declared.servers.ReadServer.{ReadServer}
use Rattle.play_servers.specs.declared.servers.ServerEvent.{ServerEvent}
use Rattle.play_servers.specs.Places.{ended_left, IsFollowed}
use Rattle.play_servers.specs.Showing.{EndShows}
use Rattle.play_servers.specs.Events.{IsCausedByRoads, RestStays, EndShowsDown, left_as, DownShows}
use Rattle.play_servers.proofs.RestLaws.{rest_after, rest_taken, closing_lower, closed_replicas}
use Rattle.play_servers.proofs.ServerLaws.{books_stay, IsServing, is_serving, server_ended}
use Rattle.play_servers.proofs.RequestEvents.{comes_so}

-- WHERE NOTHING IS DUE

true_false : (b : Bool) → b ≡ true → b ≡ false → ⊥
true_false b x y = cc

takes_none : (w : World) (c : ℕ) (x : Option Next) → takes_down ended_below w c x ≡ false
takes_none w c None = refl
takes_none w c (Some x) = refl

module _ {I O : Type 0} (i : link_in.Ghosts I) (o : link_out.Ghosts O) where
  -- Nothing stands next for an end that has no further events.
  pub none_down : (w : World) (net : Net) (c : ℕ) (blocks : List BlockId) (l : parts.Lower) → w.lowers c ≡ l → EndShows i o w net c blocks l read_end.Ended → can_down w c ≡ true → ⊥
  none_down w net c blocks idle is h due = true_false (is_served w c) (and-left (is_served w c) (takes_down (w.lowers c) w c (next_down w c)) due) h
  none_down w net c blocks (serves b s) is h due = true_false (is_served w c) (and-left (is_served w c) (takes_down (w.lowers c) w c (next_down w c)) due) h
  none_down w net c blocks ended_below is h due =
      true_false (takes_down (w.lowers c) w c (next_down w c)) (and-right (is_served w c) (takes_down (w.lowers c) w c (next_down w c)) due)
      (ap (λ (l : parts.Lower). takes_down l w c (next_down w c)) is ∙ takes_none w c (next_down w c))
  none_down w net c blocks l is h due = h

  -- It doesn't act without a message either.
  pub none_ready : (w : World) (net : Net) (c : ℕ) (blocks : List BlockId) (l : parts.Lower) → w.lowers c ≡ l → EndShows i o w net c blocks l read_end.Ended → can_ready w c ≡ true → ⊥
  none_ready w net c blocks idle is h due = true_false (is_served w c) (and-left (is_served w c) (acts_below (w.lowers c) w c) due) h
  none_ready w net c blocks (serves b s) is h due = true_false (is_served w c) (and-left (is_served w c) (acts_below (w.lowers c) w c) due) h
  none_ready w net c blocks ended_below is h due =
      true_false (acts_below (w.lowers c) w c) (and-right (is_served w c) (acts_below (w.lowers c) w c) due) (ap (λ (l : parts.Lower). acts_below l w c) is)
  none_ready w net c blocks l is h due = h

module _ {F R I O : Type 0} (f : files.Ghosts F) (r : roads.Ghosts R I O) (i : link_in.Ghosts I) (o : link_out.Ghosts O) where
  end_caused : (c : ℕ) (road road' : R) (why : ServeFault) → IsRoadFault (r.faults road) (r.faults road') why → IsCausedByRoads r c road road' why
  end_caused c road road' fault.RoadsFailed h = h
  end_caused c road road' fault.Memory h = tt
  end_caused c road road' why h = absurd h

  -- THE READ ENDS

  pub read_ended : (blocks : List BlockId) (read : ServedRead I O) (place : ℕ) (books : List (BookState F)) (road road' : R) → served.EndShows r i o read road road' (Ok tt) → EndShowsDown f r i o blocks (read_end.Serving read place) books books road road' (Ok ended_left)
  read_ended blocks read place books road road' shows = λ w net conn answered stands lawful asks due.
      let c : ℕ = conn.0 in
      let ev : Event = event.Down conn answered in
      let k : IsServing i o w net c blocks read place = is_serving i o w net c blocks read place stands.server in
      let comes = comes_so w c due in
      let x : Next = comes.0 in
      let w1 : World = down_taken w c x in
      let v : World = happens w ev in
      let h = shows w net conn answered k.b k.s x (record { comes = comes.1; roads_are = stands.roads_are; lower = k.lower; shows = k.shows }) in
      let out : outcome w ev ≡ Some (apply w1 (closing w1 c)) = end_makes w conn answered x k.b k.s comes.1 k.lower in
      let rest : RestStays w v c 0 = rest_taken w c x v 0 (rest_after w w1 c 0 (closing w1 c) ev out (closing_lower w1 c 0)) in (
        tt,
        record {
          made = h.made;
          roads_are = h.roads_are;
          server = server_ended i o w v net h.made c 0 blocks (read_end.Serving read place) stands.server rest h.lower;
          books_are = books_stay w v c 0 blocks books stands.books_are rest (closed_replicas w c x ev out);
          block = 0;
          rest = rest;
          others = h.others;
        },
      )

  pub read_failed : (blocks : List BlockId) (read : ServedRead I O) (place : ℕ) (books : List (BookState F)) (road road' : R) (why : ServeFault) → served.EndShows r i o read road road' (Err why) → EndShowsDown f r i o blocks (read_end.Serving read place) books books road road' (Err why)
  read_failed blocks read place books road road' why shows = λ w net conn answered stands lawful asks due.
      let c : ℕ = conn.0 in
      let k : IsServing i o w net c blocks read place = is_serving i o w net c blocks read place stands.server in
      let comes = comes_so w c due in
      end_caused c road road' why (shows w net conn answered k.b k.s comes.0 (record { comes = comes.1; roads_are = stands.roads_are; lower = k.lower; shows = k.shows }))

  -- It isn't due where the connection has ended.
  pub ended_down : (blocks : List BlockId) (books books' : List (BookState F)) (road road' : R) (result : Result (Left I O) ServeFault) → EndShowsDown f r i o blocks read_end.Ended books books' road road' result
  ended_down blocks books books' road road' result = λ w net conn answered stands lawful asks due. absurd (none_down i o w net conn.0 blocks (w.lowers conn.0) refl stands.server.end_is due)

  -- WHAT IS LEFT

  pub followed_as : (old new : ReadServer I O) (left : Result (Left I O) ServeFault) (result : Result ServerEvent ServeFault) → IsFollowed old new left result → left_as new.end result ≡ left
  followed_as old new (Ok left) result h = ap (left_as new.end) h.1 ∙ ap (λ (s : ReadServer I O). Ok (record { end = s.end; event = left.event })) h.0
  followed_as old new (Err why) result h = ap (left_as new.end) h.1

  pub followed_conn : (old new : ReadServer I O) (left : Result (Left I O) ServeFault) (result : Result ServerEvent ServeFault) → IsFollowed old new left result → new.conn ≡ old.conn
  followed_conn old new (Ok left) result h = ap (λ (s : ReadServer I O). s.conn) h.0
  followed_conn old new (Err why) result h = ap (λ (s : ReadServer I O). s.conn) h.0

  pub followed_err : (old new : ReadServer I O) (left : Result (Left I O) ServeFault) (result : Result ServerEvent ServeFault) → IsFollowed old new left result → IfErr result (λ why. new ≡ old)
  followed_err old new (Ok left) result h = subst (λ (x : Result ServerEvent ServeFault). IfErr x (λ why. new ≡ old)) (sym h.1) tt
  followed_err old new (Err why) result h = subst (λ (x : Result ServerEvent ServeFault). IfErr x (λ why. new ≡ old)) (sym h.1) h.0

  pub down_shows : (blocks : List BlockId) (old mid new : ReadServer I O) (e : ReadEnd I O) (books books' : List (BookState F)) (road road' : R) (left : Result (Left I O) ServeFault) (result : Result ServerEvent ServeFault) → e ≡ old.end → mid.conn ≡ old.conn
      → EndShowsDown f r i o blocks e books books' road road' left → IsFollowed mid new left result → DownShows f r i o blocks old new books books' road road' result
  down_shows blocks old mid new e books books' road road' left result is conn shows follows = record {
    conn = followed_conn mid new left result follows ∙ conn;
    shows = subst (λ (x : Result (Left I O) ServeFault). EndShowsDown f r i o blocks old.end books books' road road' x) (sym (followed_as mid new left result follows))
        (subst (λ (y : ReadEnd I O). EndShowsDown f r i o blocks y books books' road road' left) is shows);
  }
