-- What the lower ends that readers and primaries dialled tell of the world that they show.
use Rattle.std.proofs.Common.{◌≡◌, ◌≤◌, ◌⊎◌, inl, inr, ℕ, Bool, true, false, List, Option, Some, None, is_some, refl, sym, ap, ◌∙◌, subst}
use Rattle.std.specs.Prelude.{◌&&◌, not}
use Rattle.hd_base.specs.Channels.{Plain}
use Rattle.hd_base.specs.Ends.{IsKnown}
use Rattle.hd_base.specs.declared.ends.Conn.{Conn}
use Rattle.hd_base.specs.declared.ends.Standing.{Standing}
use Rattle.hd_base.specs.declared.ends.Standing.TheVariants as standing
use Rattle.hd_base.specs.declared.links.LinkIn as link_in
use Rattle.hd_base.specs.declared.links.LinkOut as link_out
use Rattle.hd_base.specs.declared.numbers.BlockId.{BlockId}
use Rattle.hd_base.specs.declared.roads.Roads as roads
use Rattle.serving_events.specs.ReadCore.ServePhase.{ServePhase}
use Rattle.serving_events.specs.ReadCore.Servings.{ServingState, call_at, next_call}
use Rattle.road_traffic.specs.Showing.{Net, RoadsShow, ShowsStanding}
use Rattle.serving_events.specs.VisibleRead.Course.{Course}
use Rattle.serving_events.specs.VisibleRead.Course.TheVariants as course
use Rattle.serving_events.specs.VisibleRead.Servings.{is_over}
use Rattle.serving_events.specs.VisibleRead.Sound.{IsSound}
use Rattle.world_requests.specs.World.Connections.{Next, next_down, is_served}
use Rattle.world_requests.specs.World.Enabled.{takes_down, can_down, acts_below, can_ready}
use Rattle.world_requests.specs.World.Parts as parts
use Rattle.world_requests.specs.World.Parts.{idle, serves, recovers, ended_below}
use Rattle.world_requests.specs.World.Worlds.{World}
use Rattle.world_standings.specs.WorldNets.Nets.{IsEndOf}
use Rattle.world_standings.specs.WorldNets.Rows.{rows_of}
use Rattle.world_standings.specs.Standings.{stands}
use Rattle.world_standings.proofs.StandingLaws.{row_stands}
use Rattle.recovery_events.specs.WorldOrders.Open.{OpenEnds, IsOpenBelow}
use Rattle.recovery_events.specs.MemberEvents.Roads.{RoadsPass}
use Rattle.recovery_events.specs.MemberEvents.Showing.{ShowsWorld}
use Rattle.serving_events.specs.declared.steps.ServedRead.{ServedRead}
use Rattle.serving_events.specs.Showing.{IsAt}
use Rattle.play_servers.specs.declared.recoveries.AnswerEnd.{AnswerEnd}
use Rattle.play_servers.specs.declared.recoveries.AnswerEnd.TheVariants as answer_end
use Rattle.play_servers.specs.declared.recoveries.RecoveryServer.{RecoveryServer}
use Rattle.play_servers.specs.declared.servers.ReadEnd.{ReadEnd}
use Rattle.play_servers.specs.declared.servers.ReadEnd.TheVariants as read_end
use Rattle.play_servers.specs.declared.servers.ReadServer.{ReadServer}
use Rattle.play_servers.specs.Answering.{answer_conn}
use Rattle.play_servers.specs.Dues.{TellsDown, TellsReady, TellsRequest, AnswersWait}
use Rattle.play_servers.specs.Known.{end_conn}
use Rattle.play_servers.specs.Recoveries as recoveries
use Rattle.play_servers.specs.Showing.{EndShows, ServerShows}
use Rattle.play_servers.proofs.DownEvents.{none_down, none_ready}
use Rattle.play_servers.proofs.RecoveryEvents as answering
use Rattle.play_servers.proofs.ServerLaws.{IsIdle, is_idle, IsServing, is_serving}

-- TESTS

not_true : (b : Bool) → (b ≡ true → ⊥) → false ≡ b
not_true true h = absurd (h refl)
not_true false h = refl

test_true : (b x : Bool) → b ≡ true → x ≡ (b && x)
test_true true x h = refl
test_true false x h = cc

none_due : (b : Bool) → false ≡ (b && false)
none_due true = refl
none_due false = refl

-- WHAT STANDS NEXT

-- where nothing stands next
pub nothing_so : (b : Bool) (s : Standing) → s ≡ standing.Nothing → false ≡ (b && stands s)
nothing_so true s h = sym (ap stands h)
nothing_so false s h = refl

-- where something does
pub something_so : (b x : Bool) (s : Standing) → stands s ≡ true → x ≡ b → x ≡ (b && stands s)
something_so true x s h is = is ∙ sym h
something_so false x s h is = is

-- where a piece stands next, or the end
pub stands_so : (s : Standing) → (s ≡ standing.Piece) ⊎ (s ≡ standing.End) → stands s ≡ true
stands_so s (inl h) = ap stands h
stands_so s (inr h) = ap stands h

-- an end that has taken nothing yet, one that serves a read, and one that answers a primary take what stands next
takes_idle : (w : World) (c : ℕ) (x : Option Next) → takes_down idle w c x ≡ is_some x
takes_idle w c None = refl
takes_idle w c (Some x) = refl

takes_serving : (w : World) (c b : ℕ) (s : ServingState) (x : Option Next) → takes_down (serves b s) w c x ≡ is_some x
takes_serving w c b s None = refl
takes_serving w c b s (Some x) = refl

takes_answering : (w : World) (c : ℕ) (x : Option Next) → takes_down recovers w c x ≡ is_some x
takes_answering w c None = refl
takes_answering w c (Some x) = refl

module _ {R I O : Type 0} (r : roads.Ghosts R I O) (i : link_in.Ghosts I) (o : link_out.Ghosts O) where
  -- Roads that were asked what stands next know what they knew.
  pub asked_pass : (road road' : R) → r.plain road' ≡ r.plain road → r.faults road ≤ r.faults road' → RoadsPass r road road'
  asked_pass road road' is less = record { knows = λ c h. subst (λ (p : Option Plain). IsKnown p c) (sym is) h; never_falls = less }

  -- They show what they showed.
  still_shown : (w : World) (net : Net) (road road' : R) → ShowsWorld r w net road → RoadsShow r net road' → ShowsWorld r w net road'
  still_shown w net road road' h shows = record { is_net = h.is_net; sane = h.sane; shows = shows }

  module _ (w : World) (net : Net) (c : ℕ) (road road' : R) (s : Standing) (shows : ShowsWorld r w net road) (told : ShowsStanding r net c true road' s) where
    -- An end that goes on takes what stands next.
    goes_on : (l : parts.Lower) (end : Conn I O) → w.lowers c ≡ l → is_served w c ≡ true → IsEndOf i o w net c true end → ((x : Option Next) → takes_down l w c x ≡ is_some x) → (w.down_marks c).over ≡ false → stands s ≡ can_down w c
    goes_on l end is served at_end takes over =
        let next : stands s ≡ is_some (next_down w c) = ap stands (told.is at_end.taking) ∙ row_stands (rows_of w c true) (net.traffic c true) (shows.is_net.rows_are c true) (shows.sane.fits c true) at_end.taking over in
        next ∙ (sym (takes (next_down w c)) ∙ (ap (λ (x : parts.Lower). takes_down x w c (next_down w c)) (sym is) ∙ test_true (is_served w c) (takes_down (w.lowers c) w c (next_down w c)) served))

    -- The lower end of a reader's connection.
    read_due : (blocks : List BlockId) (e : ReadEnd I O) → ServerShows i o w net c blocks e → OpenEnds w → (is_some (end_conn e) && stands s) ≡ can_down w c
    read_due blocks (read_end.Idle end) h opens =
        let k : IsIdle i o w net c end = is_idle i o w net c blocks end h in
        goes_on idle end k.lower k.served k.end_is (takes_idle w c) (subst (λ (l : parts.Lower). IsOpenBelow l (w.down_marks c).over) k.lower (opens.below c))
    read_due blocks (read_end.Serving read place) h opens =
        let k : IsServing i o w net c blocks read place = is_serving i o w net c blocks read place h in
        goes_on (serves k.b k.s) read.end k.lower k.served k.shows.end_is (takes_serving w c k.b k.s) (subst (λ (l : parts.Lower). IsOpenBelow l (w.down_marks c).over) k.lower (opens.below c))
    read_due blocks read_end.Ended h opens = not_true (can_down w c) (none_down i o w net c blocks (w.lowers c) refl h.end_is)

    -- That of a primary's.
    request_due : (blocks : List BlockId) (e : AnswerEnd I O) → recoveries.ServerShows i o w net c blocks e → OpenEnds w → (is_some (answer_conn e) && stands s) ≡ can_down w c
    request_due blocks (answer_end.Idle end) h opens =
        let k : answering.IsIdle i o w net c end = answering.idle_so i o w net c blocks end (w.lowers c) refl h.end_is in
        goes_on idle end k.lower k.served k.end_is (takes_idle w c) (subst (λ (l : parts.Lower). IsOpenBelow l (w.down_marks c).over) k.lower (opens.below c))
    request_due blocks (answer_end.Answering old place) h opens =
        let k : answering.IsAnswering i o w net c blocks old place = answering.answering_so i o w net c blocks old place (w.lowers c) refl h.end_is in
        goes_on recovers old.end k.lower k.served k.shows.end_is (takes_answering w c) (subst (λ (l : parts.Lower). IsOpenBelow l (w.down_marks c).over) k.lower (opens.below c))
    request_due blocks answer_end.Ended h opens = not_true (can_down w c) (answering.none_down i o w net c blocks (w.lowers c) refl h.end_is)

  -- What is told of what stands next.
  abbrev pub ToldNext : ℕ → R → R → Standing → Type 0
  ToldNext c road road' s = (net : Net) → RoadsShow r net road → ShowsStanding r net c true road' s

  pub read_tells : (server : ReadServer I O) (road road' : R) (s : Standing) (result : Bool) → ToldNext server.conn.0 road road' s → result ≡ (is_some (end_conn server.end) && stands s) → TellsDown r i o server road road' result
  read_tells server road road' s result told is = λ w net blocks shows h opens.
      let next = told net shows.shows in (
        still_shown w net road road' shows next.road_shows,
        is ∙ read_due w net server.conn.0 road road' s shows next blocks server.end h opens,
      )

  pub request_tells : (server : RecoveryServer I O) (road road' : R) (s : Standing) (result : Bool) → ToldNext server.conn.0 road road' s → result ≡ (is_some (answer_conn server.end) && stands s) → TellsRequest r i o server road road' result
  request_tells server road road' s result told is = λ w net blocks shows h opens.
      let next = told net shows.shows in (
        still_shown w net road road' shows next.road_shows,
        is ∙ request_due w net server.conn.0 road road' s shows next blocks server.end h opens,
      )

-- WHAT IS DONE WITHOUT A MESSAGE

-- A read that isn't over sends a packet next.
sends_next : (s : ServingState) (at : Course) → IsAt s at → IsSound at → not (is_over at) ≡ is_some (next_call s)
sends_next s course.Asked h sound = absurd h
sends_next s (course.Sending t) h sound = sym (ap (λ (p : ServePhase). is_some (call_at p s)) (ap (λ (z : ServingState). z.phase) (sym h) ∙ sound.sending))
sends_next s course.Over h sound = sym (ap is_some h)

module _ {I O : Type 0} (i : link_in.Ghosts I) (o : link_out.Ghosts O) where
  serving_due : (w : World) (net : Net) (c : ℕ) (blocks : List BlockId) (read : ServedRead I O) (place : ℕ) → IsSound read.serving.course → ServerShows i o w net c blocks (read_end.Serving read place) → not (is_over read.serving.course) ≡ can_ready w c
  serving_due w net c blocks read place sound h =
      let k : IsServing i o w net c blocks read place = is_serving i o w net c blocks read place h in
      sends_next k.s read.serving.course k.shows.at sound
      ∙ (ap (λ (l : parts.Lower). acts_below l w c) (sym k.lower) ∙ test_true (is_served w c) (acts_below (w.lowers c) w c) k.served)

  pub serving_tells : (server : ReadServer I O) (read : ServedRead I O) (place : ℕ) (result : Bool) → server.end ≡ read_end.Serving read place → result ≡ not (is_over read.serving.course) → IsSound read.serving.course → TellsReady i o server result
  serving_tells server read place result at is sound = λ w net blocks h.
      is ∙ serving_due w net server.conn.0 blocks read place sound (subst (λ (e : ReadEnd I O). ServerShows i o w net server.conn.0 blocks e) at h)

  idle_due : (w : World) (net : Net) (c : ℕ) (blocks : List BlockId) (end : Conn I O) → ServerShows i o w net c blocks (read_end.Idle end) → false ≡ can_ready w c
  idle_due w net c blocks end h =
      let k : IsIdle i o w net c end = is_idle i o w net c blocks end h in
      none_due (is_served w c) ∙ ap (λ (l : parts.Lower). is_served w c && acts_below l w c) (sym k.lower)

  idle_tells : (server : ReadServer I O) (end : Conn I O) → server.end ≡ read_end.Idle end → TellsReady i o server false
  idle_tells server end at = λ w net blocks h. idle_due w net server.conn.0 blocks end (subst (λ (e : ReadEnd I O). ServerShows i o w net server.conn.0 blocks e) at h)

  ended_tells : (server : ReadServer I O) → server.end ≡ read_end.Ended → TellsReady i o server false
  ended_tells server at = λ w net blocks h.
      not_true (can_ready w server.conn.0) (none_ready i o w net server.conn.0 blocks (w.lowers server.conn.0) refl (subst (λ (e : ReadEnd I O). EndShows i o w net server.conn.0 blocks (w.lowers server.conn.0) e) at h.end_is))

  -- one that serves no read sends none
  pub resting_tells : (server : ReadServer I O) → ((e : Conn I O) × (server.end ≡ read_end.Idle e)) ⊎ (server.end ≡ read_end.Ended) → TellsReady i o server false
  resting_tells server (inl k) = idle_tells server k.0 k.1
  resting_tells server (inr k) = ended_tells server k

  -- An end that answers a primary does nothing without a message.
  waits_as : (w : World) (net : Net) (c : ℕ) (blocks : List BlockId) (e : AnswerEnd I O) (l : parts.Lower) → recoveries.EndShows i o w net c blocks l e → (is_served w c && acts_below l w c) ≡ false
  waits_as w net c blocks e idle h = sym (none_due (is_served w c))
  waits_as w net c blocks e recovers h = sym (none_due (is_served w c))
  waits_as w net c blocks e ended_below h = sym (none_due (is_served w c))
  waits_as w net c blocks (answer_end.Idle end) l h = absurd h
  waits_as w net c blocks (answer_end.Answering old place) l h = absurd h
  waits_as w net c blocks answer_end.Ended l h = absurd h

  pub waits : AnswersWait i o
  waits w net c blocks e h = waits_as w net c blocks e (w.lowers c) h.end_is
