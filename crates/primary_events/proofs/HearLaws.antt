-- A primary that takes what stands next to it, and the world after it.
use Rattle.std.proofs.Common.{◌≡◌, ℕ, Bool, true, false, List, [], ◌++◌, slice_get, slice_set, Option, Some, None, Result, Ok, Err, ◌⊎◌, inl, inr, refl, sym, ap, ◌∙◌, subst}
use Rattle.std.specs.Prelude.{not, cond, ◌==◌, ◌&&◌, if◌then◌else◌}
use Rattle.hd_base.specs.Channels.{same_direction}
use Rattle.hd_base.specs.Faults.{FaultsIncreased}
use Rattle.hd_base.specs.Ends.{has_failed}
use Rattle.hd_base.specs.Links.{Inbox}
use Rattle.hd_base.specs.declared.ends.Conn.{Conn}
use Rattle.hd_base.specs.declared.ends.RoadError.{RoadError}
use Rattle.hd_base.specs.declared.links.LinkIn as link_in
use Rattle.hd_base.specs.declared.links.LinkOut as link_out
use Rattle.hd_base.specs.declared.numbers.ConnId.{ConnId}
use Rattle.hd_base.specs.declared.roads.Roads as roads
use Rattle.block_recovery.specs.declared.links.Link.{Link}
use Rattle.block_recovery.specs.declared.links.Seat.{Seat}
use Rattle.block_recovery.specs.declared.links.Seat.TheVariants as seat
use Rattle.block_recovery.specs.declared.members.MemberHeard.{MemberHeard}
use Rattle.block_recovery.specs.declared.members.MemberHeard.TheVariants as member
use Rattle.block_recovery.specs.declared.primary.Primary as running
use Rattle.block_recovery.specs.Actions.{Settles, GivesBack, place_after}
use Rattle.block_recovery.specs.Dialling.{is_lost}
use Rattle.block_recovery.specs.Members.{TakesEnd, TakesLink, TakesAt, Receives, ListensAs, ListensOn, HearsBy, HearsAt, HearsMember, HearsSo}
use Rattle.block_recovery.specs.Steps.{Hears}
use Rattle.block_recovery.specs.LinkMessages.Next as nexts
use Rattle.block_recovery.specs.LinkMessages.Incomings.{IncomingState, NextEnds}
use Rattle.link_pieces.specs.Roads.{BringsEnd}
use Rattle.block_recovery.specs.FrameFeed.Kinds.{answers}
use Rattle.op_headers.specs.declared.answers.RecoveryAnswer.{RecoveryAnswer}
use Rattle.recovery_core.specs.declared.primary.Phase.{Phase}
use Rattle.recovery_core.specs.declared.standings.Heard.{Heard}
use Rattle.recovery_core.specs.declared.standings.Standing.{Standing}
use Rattle.recovery_core.specs.Primaries.{PrimaryState, after_heard, shuts_after, shuts_as, shuts_at, heard_as, heard_at}
use Rattle.road_traffic.specs.Showing.{Net, EndIs, lost_net}
use Rattle.road_traffic.specs.Laws.{Took}
use Rattle.road_traffic.proofs.CallLemmas.{shut-shows}
use Rattle.road_traffic.proofs.TrafficLemmas.{same-itself}
use Rattle.world.specs.declared.events.Event.{Event}
use Rattle.world.specs.declared.events.Event.TheVariants as event
use Rattle.world.specs.Parts.{Message, request, packet, ack, response, read_status, recovery_answer, Place, Leading, leads}
use Rattle.world.specs.Worlds.{World, Change, apply}
use Rattle.world.specs.Connections.{Next, message, the_end, up_taken, is_alive, is_conn}
use Rattle.world.specs.Events.{outcome, happens}
use Rattle.world.specs.Primaries.{heard_of, listens}
use Rattle.world_primaries.specs.WorldNets.Nets.{IsNetOf, IsEndOf, held_by, inbox_for, is_over}
use Rattle.world_primaries.specs.WorldNets.Changes.{sent_by}
use Rattle.world_primaries.specs.WorldNets.Ends.{IsElsewhere}
use Rattle.world_primaries.specs.WorldNets.Flushing.{upper_flushes}
use Rattle.world_primaries.specs.WorldNets.Steps.{SendsBy, TakesNet, taken_net, is_end}
use Rattle.world_primaries.proofs.WorldNets.EndLemmas.{stays, same-end}
use Rattle.world_primaries.proofs.WorldNets.StepLemmas.{changed-net, changed-over, taken-net, taken-over, lost-net, followed}
use Rattle.world_primaries.specs.Drawn.{hears_at, PrimariesHear}
use Rattle.world_primaries.specs.Links.{PrimariesSend}
use Rattle.client_events.specs.MemberEvents.Showing.{ShowsWorld}
use Rattle.client_events.proofs.MemberEvents.CauseLaws.{in_failed, one_risen}
use Rattle.client_events.proofs.MemberEvents.DownEvents.{held_took}
use Rattle.client_events.proofs.MemberEvents.EndLaws.{HeldAt, RoadsAt, Passed, end_held, end_from, end_passes, end_brought}
use Rattle.client_events.proofs.MemberEvents.WorldLaws.{at_put, happened}
use Rattle.client_events.specs.Showing.{OthersStay}
use Rattle.primary_events.specs.declared.faults.PrimaryFault.{PrimaryFault}
use Rattle.primary_events.specs.Hearing as hearing
use Rattle.primary_events.specs.Hearing.{TakesBy, IsNextToPrimary, CanHear, PrimaryLeft, HearEnds, HearShows}
use Rattle.primary_events.specs.Showing.{LinkShows, IsShut, SeatShows, stands_in, MemberShows, PlaceShows, PrimaryShows, PrimaryStands}
use Rattle.primary_events.proofs.HearSteps.{given_of, FindsIt, Finds, finds, fails, wants, it_finds}
use Rattle.primary_events.proofs.ShutLemmas.{event_stays, event_shuts}
use Rattle.primary_events.proofs.PlaceLemmas.{set_here, set_there, within, past_none, same_or, some_same, StandsOn, stands_on}

-- what a change makes of the primary
pub primary_put : (w : World) (k : Change) → (apply w k).primaries k.primary_at ≡ k.primary
unfolding apply
primary_put w k = at_put w.primaries k.primary_at k.primary

alive_on : (w : World) (k : Change) (at : Place) → is_alive (apply w k) at ≡ is_alive w at
unfolding apply
alive_on w k at = refl

-- A node that lives lives on in a change.
pub alive_after : (w : World) (k : Change) (e : Event) (at : Place) → outcome w e ≡ Some (apply w k) → is_alive (happens w e) at ≡ is_alive w at
alive_after w k e at out = ap (λ (u : World). is_alive u at) (happened w (apply w k) e out) ∙ alive_on w k at

alive_taken : (w : World) (c : ℕ) (x : Next) (at : Place) → is_alive (up_taken w c x) at ≡ is_alive w at
unfolding up_taken
alive_taken w c x at = refl

true_false : true ≡ false → ⊥
true_false h = cc

module _ {I O : Type 0} (i : link_in.Ghosts I) (o : link_out.Ghosts O) where
  -- what a place shows that is there
  member_at : (w : World) (net : Net) (p : Phase) (a : Option Standing) (b : Option (Option ℕ)) (z : Option (Seat I O)) (s : Standing) (conn : Option ℕ) (x : Seat I O) → a ≡ Some s → b ≡ Some conn → z ≡ Some x → PlaceShows i o w net p a b z → MemberShows i o w net p s conn x
  member_at w net p a b z s conn x is_a is_b is_z h =
      subst (λ y. PlaceShows i o w net p (Some s) (Some conn) y) is_z (subst (λ y. PlaceShows i o w net p (Some s) y z) is_b (subst (λ y. PlaceShows i o w net p y b z) is_a h))

  member_there : (w : World) (net : Net) (p : Phase) (a : Option Standing) (b : Option (Option ℕ)) (z : Option (Seat I O)) (s : Standing) (conn : Option ℕ) → a ≡ Some s → b ≡ Some conn → z ≡ None → PlaceShows i o w net p a b z → ⊥
  member_there w net p a b z s conn is_a is_b is_z h =
      subst (λ y. PlaceShows i o w net p (Some s) (Some conn) y) is_z (subst (λ y. PlaceShows i o w net p (Some s) y z) is_b (subst (λ y. PlaceShows i o w net p y b z) is_a h))

  -- A member stays shown whose connection stays.
  link_stays : (w v : World) (net made : Net) (c : ℕ) (l : Link I O) → is_over v c false ≡ is_over w c false → ((e : Conn I O) → IsEndOf i o w net c false e → IsEndOf i o v made c false e) → LinkShows i o w net c l → LinkShows i o v made c l
  link_stays w v net made c l over stay h = record {
    end_is = stay l.end h.end_is;
    received = λ e. h.received (sym over ∙ e);
    over = h.over ∙ sym over;
    works = h.works;
  }

  -- a connection stays
  pub record ConnStays (w : World) (net : Net) (v : World) (made : Net) (c : ℕ) : Type 0 where
    pub over : is_over v c false ≡ is_over w c false
    pub ends : (e : Conn I O) → IsEndOf i o w net c false e → IsEndOf i o v made c false e
    pub shut : IsShut w c → IsShut v c

  seat_stays : (w v : World) (net made : Net) (b : Bool) (conn : Option ℕ) (x : Seat I O) → ((c : ℕ) → conn ≡ Some c → ConnStays w net v made c) → SeatShows i o w net b conn x → SeatShows i o v made b conn x
  seat_stays w v net made true (Some c) (seat.Open l) stay h = link_stays w v net made c l (stay c refl).over (stay c refl).ends h
  seat_stays w v net made true (Some c) seat.Empty stay h = absurd h
  seat_stays w v net made true (Some c) seat.Lost stay h = absurd h
  seat_stays w v net made true None x stay h = h
  seat_stays w v net made false (Some c) x stay h = (h.0, (stay c refl).shut h.1)
  seat_stays w v net made false None x stay h = h

  pub place_stays : (w v : World) (net made : Net) (p : Phase) (a : Option Standing) (b : Option (Option ℕ)) (z : Option (Seat I O)) → ((c : ℕ) → b ≡ Some (Some c) → ConnStays w net v made c) → PlaceShows i o w net p a b z → PlaceShows i o v made p a b z
  place_stays w v net made p (Some s) (Some conn) (Some x) stay h = record { fits = h.fits; seat_is = seat_stays w v net made (listens p s) conn x (λ c e. stay c (ap Some e)) h.seat_is }
  place_stays w v net made p None None None stay h = tt
  place_stays w v net made p None None (Some x) stay h = absurd h
  place_stays w v net made p None (Some y) z stay h = absurd h
  place_stays w v net made p (Some s) None z stay h = absurd h
  place_stays w v net made p (Some s) (Some conn) None stay h = absurd h

-- what was heard where the link gave what stands next
hears_of : {R I O : Type 0} (r : roads.Ghosts R I O) (i : link_in.Ghosts I) (o : link_out.Ghosts O) (x : Next) (place : ℕ) (core core' : PrimaryState) (links links' : List (Seat I O)) (old new : R) (result : MemberHeard) → IsNextToPrimary x → HearsBy r i o (given_of x) place core core' links links' old new result
    → Hears r i o core core' place (heard_of x) links links' old new × (result ≡ member.Taken)
hears_of r i o (message (recovery_answer a)) place core core' links links' old new result fits h = h
hears_of r i o (message (request a)) place core core' links links' old new result fits h = absurd fits
hears_of r i o (message (packet a)) place core core' links links' old new result fits h = absurd fits
hears_of r i o (message (ack a)) place core core' links links' old new result fits h = absurd fits
hears_of r i o (message (response a)) place core core' links links' old new result fits h = absurd fits
hears_of r i o (message (read_status a)) place core core' links links' old new result fits h = absurd fits
hears_of r i o the_end place core core' links links' old new result fits h = h

module _ {R I O : Type 0} (r : roads.Ghosts R I O) (i : link_in.Ghosts I) (o : link_out.Ghosts O) where
  abbrev P : Type 0
  P = running.Primary I O

  -- THE PLACE THAT IS HEARD

  module _ (makes : PrimariesHear) (sends : PrimariesSend) (place : ℕ) (old held new : P) (road middle road' : R) (heard : MemberHeard) (taken : TakesBy r i o place old held road middle)
      (w : World) (net : Net) (conn : ConnId) (number : ℕ) (l : Leading) (x : Next) (stands : PrimaryStands r i o w net number l old road) (can : CanHear w conn number place l x) where
    abbrev c : ℕ
    c = conn.0

    abbrev w1 : World
    w1 = up_taken w c x

    abbrev v : World
    v = happens w (event.Up conn)

    abbrev n1 : Net
    n1 = taken_net net c false

    abbrev s : PrimaryShows i o w net number l old
    s = stands.shows

    abbrev st : Standing
    st = can.hears.standing

    abbrev h : Heard
    h = heard_of x

    abbrev k : Change
    k = hears_at w1 number l place c x

    abbrev l' : Leading
    l' = record l { state = heard_at l.state place h }

    abbrev lost : Bool
    lost = is_lost (slice_get new.links.items place)

    abbrev EndsSo : Result (Unit {0}) PrimaryFault → Type 0
    EndsSo z = HearEnds r i o w net v number c place l x new road road' z

    abbrev Ends : Type 0
    Ends = EndsSo (hearing.heard_as heard lost)

    here : (z : Seat I O) → slice_get old.links.items place ≡ Some z → MemberShows i o w net l.state.phase st (Some c) z
    here z is = member_at i o w net l.state.phase (slice_get l.state.standings place) (slice_get l.conns place) (slice_get old.links.items place) st (Some c) z can.hears.stands can.conn_is is (s.places place)

    -- THE WORLD AFTER IT

    out : outcome w (event.Up conn) ≡ Some (apply w1 k)
    out = makes w conn x number place l can.comes can.hears

    state_after : heard_at l.state place h ≡ record l.state { standings = slice_set l.state.standings place (after_heard st h) }
    state_after = ap (heard_as l.state place h) can.hears.stands

    shuts_is : shuts_at l.state place ≡ shuts_after st
    shuts_is = ap shuts_as can.hears.stands

    leads_after : v.primaries number ≡ leads l'
    leads_after = ap (λ (u : World). u.primaries number) (happened w (apply w1 k) (event.Up conn) out) ∙ primary_put w1 k

    alive : is_alive v l.at ≡ true
    alive = ap (λ (u : World). is_alive u l.at) (happened w (apply w1 k) (event.Up conn) out) ∙ (alive_on w1 k l.at ∙ (alive_taken w c x l.at ∙ can.hears.leads_so.alive))

    over : (d : ℕ) (b : Bool) → is_over v d b ≡ is_over w1 d b
    over d b = (followed w (apply w1 k) (event.Up conn) out).over d b ∙ changed-over w1 k d b

    takes : (seat_link : Link I O) → LinkShows i o w net c seat_link → TakesNet w net c false x
    takes y sh = taken-net w net c false x stands.roads_are.is_net sh.end_is.within sh.end_is.taking can.comes.next

    on : StandsOn l.state.phase st h
    on = stands_on l.state.phase st h can.hears.listens_to (fit (s.places place))
      where
        fit : PlaceShows i o w net l.state.phase (slice_get l.state.standings place) (slice_get l.conns place) (slice_get old.links.items place) → stands_in l.state.phase st ≡ true
        fit y = by (slice_get old.links.items place) refl where
          by : (z : Option (Seat I O)) → slice_get old.links.items place ≡ z → stands_in l.state.phase st ≡ true
          by (Some z) is = (here z is).fits
          by None is = absurd (member_there i o w net l.state.phase (slice_get l.state.standings place) (slice_get l.conns place) (slice_get old.links.items place) st (Some c) can.hears.stands can.conn_is is (s.places place))

    -- THE PRIMARY AFTER IT

    abbrev ss : List Standing
    ss = slice_set l.state.standings place (after_heard st h)

    abbrev ShowsAt : Net → ℕ → Type 0
    ShowsAt made n = PlaceShows i o v made l.state.phase (slice_get ss n) (slice_get l.conns n) (slice_get new.links.items n)

    -- The other places stay, and this one is as told.
    all_places : (made : Net) (z : Seat I O) → OthersStay i o w net v made (Some c) → slice_get new.links.items place ≡ Some z → ((j : ℕ) → (j ≡ place → ⊥) → slice_get new.links.items j ≡ slice_get old.links.items j)
        → MemberShows i o v made l.state.phase (after_heard st h) (Some c) z → (j : ℕ) → PlaceShows i o v made l'.state.phase (slice_get l'.state.standings j) (slice_get l'.conns j) (slice_get new.links.items j)
    all_places made z others at away mine j =
        subst (λ (q : PrimaryState). PlaceShows i o v made q.phase (slice_get q.standings j) (slice_get l.conns j) (slice_get new.links.items j)) (sym state_after) (by (same_or j place))
      where
        mine_there : ShowsAt made place
        mine_there =
            subst (λ y. PlaceShows i o v made l.state.phase y (slice_get l.conns place) (slice_get new.links.items place)) (sym (set_here l.state.standings place st (after_heard st h) can.hears.stands))
            (subst (λ y. PlaceShows i o v made l.state.phase (Some (after_heard st h)) y (slice_get new.links.items place)) (sym can.conn_is)
            (subst (λ y. PlaceShows i o v made l.state.phase (Some (after_heard st h)) (Some (Some c)) y) (sym at) mine))

        elsewhere : (j ≡ place → ⊥) → (d : ℕ) → slice_get l.conns j ≡ Some (Some d) → IsElsewhere c false d false
        elsewhere apart d is = λ e. absurd (apart (can.distinct j place d is (can.conn_is ∙ ap (λ (n : ℕ). Some (Some n)) e)))

        stay : (j ≡ place → ⊥) → (d : ℕ) → slice_get l.conns j ≡ Some (Some d) → ConnStays i o w net v made d
        stay apart d is = record {
          over = over d false ∙ taken-over w d false c false x (elsewhere apart d is);
          ends = λ e y. others d false e (elsewhere apart d is) y;
          shut = event_stays w c d x k (event.Up conn) out;
        }

        by : (j ≡ place) ⊎ (j ≡ place → ⊥) → ShowsAt made j
        by (inl e) = subst (ShowsAt made) (sym e) mine_there
        by (inr apart) =
            subst (λ y. PlaceShows i o v made l.state.phase y (slice_get l.conns j) (slice_get new.links.items j)) (sym (set_there l.state.standings place (after_heard st h) j apart))
            (subst (λ y. PlaceShows i o v made l.state.phase (slice_get l.state.standings j) (slice_get l.conns j) y) (sym (away j apart))
            (place_stays i o w v net made l.state.phase (slice_get l.state.standings j) (slice_get l.conns j) (slice_get old.links.items j) (stay apart) (s.places j)))

    -- What the primary has of its members is the same.
    record Same : Type 0 where
      core : new.core ≡ Some l'.state
      block : new.block ≡ old.block
      members : new.members ≡ old.members

    left : (made : Net) (z : Seat I O) → Same → ShowsWorld r v made road' → OthersStay i o w net v made (Some c) → slice_get new.links.items place ≡ Some z → ((j : ℕ) → (j ≡ place → ⊥) → slice_get new.links.items j ≡ slice_get old.links.items j)
        → MemberShows i o v made l.state.phase (after_heard st h) (Some c) z → PrimaryLeft r i o w net v number c place l x new road'
    left made z same are others at away mine = record {
      made = made;
      leading = l';
      leading_is = refl;
      alive = alive;
      stands = record {
        roads_are = are;
        shows = record {
          leads_so = leads_after;
          told = s.told;
          core = same.core;
          block = same.block ∙ (s.block ∙ ap (λ (q : PrimaryState). q.block) (sym state_after));
          members = same.members ∙ (s.members ∙ ap (λ (q : PrimaryState). q.members) (sym state_after));
          places = all_places made z others at away mine;
        };
      };
      others = others;
    }

    -- how it ends, by what was heard and what is at the place
    ends_as : (m : MemberHeard) (a : Seat I O) → heard ≡ m → slice_get new.links.items place ≡ Some a → EndsSo (hearing.heard_as m (is_lost (Some a))) → Ends
    ends_as m a is at e = subst (λ (z : MemberHeard). EndsSo (hearing.heard_as z lost)) (sym is) (subst (λ (z : Option (Seat I O)). EndsSo (hearing.heard_as m (is_lost z))) (sym at) e)

    by_want : heard ≡ member.Memory → Ends
    by_want is = subst (λ (z : MemberHeard). EndsSo (hearing.heard_as z lost)) (sym is) (by lost) where
      by : (b : Bool) → EndsSo (hearing.heard_as member.Memory b)
      by true = tt
      by false = tt

    seat_here : (z : Seat I O) → slice_get old.links.items place ≡ Some z → SeatShows i o w net true (Some c) z
    seat_here z is = subst (λ (b : Bool). SeatShows i o w net b (Some c) z) can.hears.listens_to (here z is).seat_is

    -- THE LINK AT THE PLACE

    module _ (y y1 : Link I O) (stood : slice_get old.links.items place ≡ Some (seat.Open y)) (held_is : held.links.items ≡ slice_set old.links.items place (seat.Open y1)) (sh : LinkShows i o w net c y) (tk : TakesEnd r i o y y1 road middle (Ok tt)) where
      t : TakesNet w net c false x
      t = takes y sh

      passed : Passed r i o net true false [] (held_by (is_over w c false)) c false middle y1.end
      passed = end_passes r i o net true false [] (held_by (is_over w c false)) c false road middle y.end y1.end (record { sane = stands.roads_are.sane; shows = stands.roads_are.shows })
          (end_held i o w net c false y.end sh.end_is) (λ z. ap held_by t.before) tk.end

      holds : HeldAt i o n1 false [] (inbox_for x) c false y1.end
      holds = subst (λ (z : Inbox). HeldAt i o n1 false [] z c false y1.end) t.holds passed.held

      held_at : slice_get held.links.items place ≡ Some (seat.Open y1)
      held_at = ap (λ (xs : List (Seat I O)). slice_get xs place) held_is ∙ set_here old.links.items place (seat.Open y) (seat.Open y1) stood

      over_is : is_over v c false ≡ is_end x
      over_is = over c false ∙ t.after

      kept_others : OthersStay i o w net v n1 (Some c)
      kept_others d b e away q = same-end r i o w1 v n1 d b e (over d b) ((stays r i o w w1 net c false d b e away (taken-over w d b c false x away) q).exchanged true false [])

      shut_others : OthersStay i o w net v (lost_net n1 c false []) (Some c)
      shut_others d b e away q = (stays r i o w1 v n1 c false d b e away (over d b) ((stays r i o w w1 net c false d b e away (taken-over w d b c false x away) q).exchanged true false [])).lost []

      now_shut : shuts_at l.state place ≡ true → IsShut v c
      now_shut shuts = event_shuts w w1 c k (event.Up conn) out (ap (λ (b : Bool). (if b then is_conn (Some c) else (λ _. false)) c) shuts ∙ same-itself c)

      -- what the world's primary sends and shuts
      sends_is : (b : Bool) → shuts_at l.state place ≡ b → SendsBy w1 k (upper_flushes (Some c) b [])
      sends_is b is = subst (λ (z : Bool). SendsBy w1 k (upper_flushes (Some c) z [])) is ((sends w1 number l).hears place c x)

      sends_none : shuts_at l.state place ≡ false → SendsBy w1 k []
      sends_none is = record {
        none = (sends_is false is).none;
        changes = record {
          sends = λ d b. (sends_is false is).changes.sends d b ∙ nothing (sent_by (upper_flushes (Some c) false []) d b) ((c == d) && same_direction true b) refl;
          shuts = λ d. ap (λ (b : Bool). (if b then is_conn (Some c) else (λ _. false)) d) is;
          apart = tt;
        };
      }
        where
          nothing : (ms : List Message) (b : Bool) → ms ≡ cond b [] [] ++ [] → ms ≡ []
          nothing ms true e = e
          nothing ms false e = e

      module _ (y2 : Link I O) (seen : List (Seat I O)) (seen_is : seen ≡ slice_set held.links.items place (seat.Open y2)) (given : nexts.Next RecoveryAnswer) (rc : Receives i y1 y2 given) where
        seen_at : slice_get seen place ≡ Some (seat.Open y2)
        seen_at = ap (λ (xs : List (Seat I O)). slice_get xs place) seen_is ∙ set_here held.links.items place (seat.Open y1) (seat.Open y2) held_at

        now_at : (a : Seat I O) → new.links.items ≡ slice_set seen place a → slice_get new.links.items place ≡ Some a
        now_at a is = ap (λ (xs : List (Seat I O)). slice_get xs place) is ∙ set_here seen place (seat.Open y2) a seen_at

        now_away : (a : Seat I O) → new.links.items ≡ slice_set seen place a → (j : ℕ) → (j ≡ place → ⊥) → slice_get new.links.items j ≡ slice_get old.links.items j
        now_away a is j apart =
            ap (λ (xs : List (Seat I O)). slice_get xs j) is ∙ (set_there seen place a j apart
            ∙ (ap (λ (xs : List (Seat I O)). slice_get xs j) seen_is ∙ (set_there held.links.items place (seat.Open y2) j apart
            ∙ (ap (λ (xs : List (Seat I O)). slice_get xs j) held_is ∙ set_there old.links.items place (seat.Open y1) j apart))))

        -- what is at the place, where its end was shut and is to be brought back
        by_given : (m : MemberHeard) (a : Seat I O) → heard ≡ m → new.links.items ≡ slice_set seen place a → (g : GivesBack r i o y2.end a middle road') → (BringsEnd r i o g.gives.shut middle road' (Ok tt) → new.links.items ≡ slice_set seen place seat.Empty → EndsSo (hearing.heard_as m false)) → Ends
        by_given m a is set g go = by g.gives.result refl
          where
            by : (z : Result (Unit {0}) RoadError) → g.gives.result ≡ z → Ends
            by (Ok u) e =
                let empty : a ≡ seat.Empty = g.place_is ∙ ap place_after e in
                let set' : new.links.items ≡ slice_set seen place seat.Empty = set ∙ ap (slice_set seen place) empty in
                ends_as m seat.Empty is (now_at seat.Empty set') (go (subst (λ z. BringsEnd r i o g.gives.shut middle road' z) e g.gives.brings) set')
            by (Err why) e =
                let none : a ≡ seat.Lost = g.place_is ∙ ap place_after e in
                ends_as m seat.Lost is (now_at seat.Lost (set ∙ ap (slice_set seen place) none)) tt

        -- the link failed
        by_failed : (a : Seat I O) → heard ≡ member.LinkFailed → new.links.items ≡ slice_set seen place a → GivesBack r i o y2.end a middle road' → FaultsIncreased (i.faults y1.end.inward) (i.faults y2.end.inward) → Ends
        by_failed a is set g rose =
            by_given member.LinkFailed a is set g (λ brings none.
            let failed : has_failed i o g.gives.shut ≡ true = in_failed i o (i.faults y1.end.inward) g.gives.shut (subst (λ (z : I). FaultsIncreased (i.faults y1.end.inward) (i.faults z)) (sym g.gives.kept.inward) rose) in
            subst (λ (n : ℕ). r.risen road' n ≡ true) (ap (λ (z : ConnId). z.0) (g.gives.kept.id ∙ rc.kept.id) ∙ holds.id) (one_risen r i o g.gives.shut middle road' brings failed))

        module _ (f : FindsIt i x y2.incoming y1.end.inward y2.end.inward given) (same : Same) where
          took : Took i (held_by (is_end x)) y1.end y2.end
          took = record { id = rc.kept.id; lower = rc.kept.lower; outward = rc.kept.outward; shut = f.shut; holds = f.holds }

          emptied : HeldAt i o n1 false [] (held_by (is_end x)) c false y2.end
          emptied = held_took i o n1 false [] (inbox_for x) (held_by (is_end x)) c false y1.end y2.end took holds

          goes_left : shuts_at l.state place ≡ false → new.links.items ≡ slice_set seen place (seat.Open y2) → road' ≡ middle → PrimaryLeft r i o w net v number c place l x new road'
          goes_left quiet set still =
              let n : IsNetOf (apply w1 k) n1 = changed-net w1 n1 k [] t.is_net (sends_none quiet) in
              let at : RoadsAt r n1 road' = subst (λ (z : R). RoadsAt r n1 z) (sym still) passed.roads_at in
              let goes : listens l.state.phase (after_heard st h) ≡ true = on.listens_on ∙ ap not (sym shuts_is ∙ quiet) in
              left n1 (seat.Open y2) same (record { is_net = (followed w (apply w1 k) (event.Up conn) out).nets n1 n; sane = at.sane; shows = at.shows }) kept_others (now_at (seat.Open y2) set) (now_away (seat.Open y2) set)
              (record {
                fits = on.fits;
                seat_is = subst (λ (b : Bool). SeatShows i o v n1 b (Some c) (seat.Open y2)) (sym goes) (record {
                  end_is = end_from i o v n1 c false (is_end x) y2.end over_is emptied;
                  received = λ z. f.none (sym over_is ∙ z);
                  over = rc.over ∙ (f.over ∙ sym over_is);
                  works = rc.kept.failed ∙ (tk.failed ∙ sh.works);
                });
              })

          shut_left : shuts_at l.state place ≡ true → new.links.items ≡ slice_set seen place seat.Empty → (a : Seat I O) → (g : GivesBack r i o y2.end a middle road') → BringsEnd r i o g.gives.shut middle road' (Ok tt) → PrimaryLeft r i o w net v number c place l x new road'
          shut_left shuts set a g brings =
              let made : Net = lost_net n1 c false [] in
              let n : IsNetOf (apply w1 k) made = lost-net (apply w1 k) n1 c false [] (changed-net w1 n1 k (upper_flushes (Some c) true []) t.is_net (sends_is true shuts)) in
              let closed : EndIs i o n1.traffic true [] (held_by (is_end x)) g.gives.shut =
              shut-shows i o n1.traffic false [] (held_by (is_end x)) y2.end g.gives.shut g.gives.kept (record { shut = g.gives.is_shut; sent = g.gives.sent; flushed = g.gives.flushed; lost = g.gives.lost }) emptied.is in
              let at : RoadsAt r made road' = end_brought r i o n1 true [] (held_by (is_end x)) c false middle road' g.gives.shut passed.roads_at (ap (λ (z : ConnId). z.0) g.gives.kept.id ∙ emptied.id) (g.gives.kept.lower ∙ emptied.side) holds.within closed brings in
              let ends : listens l.state.phase (after_heard st h) ≡ false = on.listens_on ∙ ap not (sym shuts_is ∙ shuts) in
              left made seat.Empty same (record { is_net = (followed w (apply w1 k) (event.Up conn) out).nets made n; sane = at.sane; shows = at.shows }) shut_others (now_at seat.Empty set) (now_away seat.Empty set)
              (record { fits = on.fits; seat_is = subst (λ (b : Bool). SeatShows i o v made b (Some c) seat.Empty) (sym ends) (refl, now_shut shuts) })

          by_settled : (b : Bool) → shuts_at l.state place ≡ b → (a : Seat I O) → new.links.items ≡ slice_set seen place a → heard ≡ member.Taken → Settles r i o (not b) (seat.Open y2) a middle road' → Ends
          by_settled false quiet a set is z =
              let set' : new.links.items ≡ slice_set seen place (seat.Open y2) = set ∙ ap (slice_set seen place) z.0 in
              ends_as member.Taken (seat.Open y2) is (now_at (seat.Open y2) set') (goes_left quiet set' z.1)
          by_settled true shuts a set is g = by_given member.Taken a is set g (λ brings set'. shut_left shuts set' a g brings)

        before_is : (a : Seat I O) → slice_get seen place ≡ Some a → a ≡ seat.Open y2
        before_is a is = some_same a (seat.Open y2) (sym is ∙ seen_at)

        same_of : (core' : PrimaryState) → new.core ≡ Some core' → core' ≡ heard_at l.state place h → new.block ≡ held.block → new.members ≡ held.members → Same
        same_of core' is hears block members = record { core = is ∙ ap Some hears; block = block ∙ taken.block; members = members ∙ taken.members }

        by_found : (core' : PrimaryState) → new.core ≡ Some core' → new.block ≡ held.block → new.members ≡ held.members → HearsBy r i o given place l.state core' seen new.links.items middle road' heard → Finds i x y2.incoming y1.end.inward y2.end.inward given → Ends
        by_found core' is block members hb (finds f) =
            let hs = hears_of r i o x place l.state core' seen new.links.items middle road' heard can.fits (subst (λ z. HearsBy r i o z place l.state core' seen new.links.items middle road' heard) f.is hb) in
            by_settled f (same_of core' is hs.0.hears block members) (shuts_at l.state place) refl hs.0.settles.after hs.0.settles.stands hs.1
            (subst (λ (z : Seat I O). Settles r i o (not (shuts_at l.state place)) z hs.0.settles.after middle road') (before_is hs.0.settles.before hs.0.settles.stood) hs.0.settles.is)
        by_found core' is block members hb (fails rose e) =
            let hs = subst (λ z. HearsBy r i o z place l.state core' seen new.links.items middle road' heard) e hb in
            by_failed hs.0.settles.after hs.1 hs.0.settles.stands (subst (λ (z : Seat I O). Settles r i o false z hs.0.settles.after middle road') (before_is hs.0.settles.before hs.0.settles.stood) hs.0.settles.is) rose
        by_found core' is block members hb (wants e) = by_want (subst (λ z. HearsBy r i o z place l.state core' seen new.links.items middle road' heard) e hb).1

      by_seen : (core' : PrimaryState) → new.core ≡ Some core' → new.block ≡ held.block → new.members ≡ held.members → (a : HearsAt r i o place l.state core' held.links.items new.links.items middle road' heard) → (z : Seat I O) → a.seen ≡ slice_set held.links.items place z → ListensOn i (seat.Open y1) z a.given → Ends
      by_seen core' is block members a (seat.Open y2) set li =
          let rc : Receives i y1 y2 a.given = subst (λ (b : Bool). ListensAs i false b y1 y2 a.given) (tk.failed ∙ sh.works) (subst (λ (b : Bool). ListensAs i b y1.failed y1 y2 a.given) (tk.over ∙ (sh.over ∙ t.before)) li) in
          by_found y2 a.seen set a.given rc core' is block members a.hears
          (it_finds i x y2.incoming y1.end.inward y2.end.inward a.given can.fits holds.is.held (subst (λ (z : IncomingState). NextEnds answers i z y2.incoming y1.end.inward y2.end.inward a.given) (tk.incoming ∙ sh.received t.before) rc.comes))
      by_seen core' is block members a seat.Empty set li = absurd li
      by_seen core' is block members a seat.Lost set li = absurd li

      by_member : (core' : PrimaryState) → new.core ≡ Some core' → new.block ≡ held.block → new.members ≡ held.members → HearsMember r i o place l.state core' held.links.items new.links.items middle road' heard → Ends
      by_member core' is block members (inl a) =
          by_seen core' is block members a a.listens.after a.listens.stands (subst (λ (z : Seat I O). ListensOn i z a.listens.after a.given) (some_same a.listens.before (seat.Open y1) (sym a.listens.stood ∙ held_at)) a.listens.is)
      by_member core' is block members (inr n) = absurd (n.past (within l.state.standings place st can.hears.stands) (within held.links.items place (seat.Open y1) held_at))

      by_core : (z : Option PrimaryState) → new.core ≡ z → new.block ≡ held.block → new.members ≡ held.members → HearsSo r i o place (Some l.state) z held.links.items new.links.items middle road' heard → Ends
      by_core None is block members hs = absurd hs
      by_core (Some core') is block members hs = by_member core' is block members hs

      hear_ends : new.block ≡ held.block → new.members ≡ held.members → HearsSo r i o place held.core new.core held.links.items new.links.items middle road' heard → Ends
      hear_ends block members hs = by_core new.core refl block members (subst (λ (z : Option PrimaryState). HearsSo r i o place z new.core held.links.items new.links.items middle road' heard) (taken.core ∙ s.core) hs)

    by_seats : (a b : Seat I O) → slice_get old.links.items place ≡ Some a → held.links.items ≡ slice_set old.links.items place b → SeatShows i o w net true (Some c) a → TakesLink r i o a b road middle (Ok tt) → new.block ≡ held.block → new.members ≡ held.members → HearsSo r i o place held.core new.core held.links.items new.links.items middle road' heard → Ends
    by_seats (seat.Open y) (seat.Open y1) stood set sh tk block members hs = hear_ends y y1 stood set sh tk block members hs
    by_seats (seat.Open y) seat.Empty stood set sh tk block members hs = absurd tk
    by_seats (seat.Open y) seat.Lost stood set sh tk block members hs = absurd tk
    by_seats seat.Empty b stood set sh tk block members hs = absurd sh
    by_seats seat.Lost b stood set sh tk block members hs = absurd sh

    by_takes : TakesAt r i o place old.links.items held.links.items road middle (Ok tt) → new.block ≡ held.block → new.members ≡ held.members → HearsSo r i o place held.core new.core held.links.items new.links.items middle road' heard → Ends
    by_takes (inl a) block members hs = by_seats a.before a.after a.stood a.stands (seat_here a.before a.stood) a.is block members hs
    by_takes (inr p) block members hs =
        absurd (member_there i o w net l.state.phase (slice_get l.state.standings place) (slice_get l.conns place) (slice_get old.links.items place) st (Some c) can.hears.stands can.conn_is (past_none old.links.items place p.0.past) (s.places place))

    pub heard_ends : new.block ≡ held.block → new.members ≡ held.members → HearsSo r i o place held.core new.core held.links.items new.links.items middle road' heard → Ends
    heard_ends block members hs = by_takes taken.takes block members hs

  -- What stood next was taken, and followed.
  pub hear_shows : PrimariesHear → PrimariesSend → (place : ℕ) (old held new : P) (road middle road' : R) (heard : MemberHeard) (gone : Bool) (result : Result (Unit {0}) PrimaryFault) → TakesBy r i o place old held road middle → new.block ≡ held.block → new.members ≡ held.members
      → HearsSo r i o place held.core new.core held.links.items new.links.items middle road' heard → gone ≡ is_lost (slice_get new.links.items place) → result ≡ hearing.heard_as heard gone → HearShows r i o place old new road road' result
  hear_shows makes sends place old held new road middle road' heard gone result taken block members hs gone_is is = λ w net conn number l x stands can.
      subst (λ z. HearEnds r i o w net (happens w (event.Up conn)) number conn.0 place l x new road road' z) (sym (is ∙ ap (hearing.heard_as heard) gone_is))
      (heard_ends makes sends place old held new road middle road' heard taken w net conn number l x stands can block members hs)
