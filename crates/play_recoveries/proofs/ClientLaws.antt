-- The clients of a play over an event of one primary.
use Rattle.std.proofs.Common.{◌≡◌, ◌≢◌, ◌<◌, ℕ, zero, suc, Bool, true, false, List, [], ◌∷◌, length, slice_get, slice_set, Option, Some, None, All, ◌⊎◌, inl, inr, refl, sym, ap, ◌∙◌, subst, arith}
use Rattle.hd_base.specs.Channels.{Plain}
use Rattle.hd_base.specs.declared.ends.Conn.{Conn}
use Rattle.hd_base.specs.declared.links.LinkIn as link_in
use Rattle.hd_base.specs.declared.links.LinkOut as link_out
use Rattle.hd_base.specs.declared.roads.Roads as roads
use Rattle.recovery_core.specs.declared.primary.Phase.{Phase}
use Rattle.recovery_core.specs.declared.standings.Standing as member
use Rattle.play_primaries.specs.BlockRecovery.Seat.{Seat}
use Rattle.play_primaries.specs.BlockRecovery.Seat.TheVariants as seat
use Rattle.play_primaries.specs.BlockRecovery.Dialling.{LinkIsKnown}
use Rattle.road_traffic.specs.Showing.{Net, RoadsShow}
use Rattle.world.specs.Parts.{Upper, by_writer, by_member, by_primary, Leading, no_primary}
use Rattle.world.specs.Primaries.{listens}
use Rattle.world.specs.Worlds.{World}
use Rattle.play_servers.specs.WorldNets.Nets.{IsEndOf, is_over}
use Rattle.play_nodes.specs.WorldOrders.Orders.{Ordered, purpose_of, pipeline, reading, recovering}
use Rattle.play_primaries.specs.PrimaryEvents.Showing.{IsShut, SeatShows, PlaceShows}
use Rattle.play_model.specs.declared.recoveries.Recovery.{Recovery}
use Rattle.play_nodes.specs.declared.nodes.Nodes.{Nodes}
use Rattle.play_nodes.specs.Numbers.{IsNumbered}
use Rattle.play_nodes.proofs.MemberNodes.{known}
use Rattle.play_nodes.proofs.Numbers.{same_place, ascend_same}
use Rattle.play_nodes.proofs.PlaceLaws.{same_some}
use Rattle.play_nodes.proofs.Tables.{SetOr, set_or, set_here, set_there, same_or}
use Rattle.play_primaries.specs.declared.clients.PrimaryClient.{PrimaryClient}
use Rattle.play_primaries.specs.declared.clients.PrimaryState.{PrimaryState}
use Rattle.play_primaries.specs.declared.clients.PrimaryState.TheVariants as state
use Rattle.play_primaries.specs.Clients.{PrimaryClientShows, PrimaryIsReady, StateShows}
use Rattle.play_primaries.specs.Staying.{KeepsPrimaryClient, PrimaryClientsStay}
use Rattle.play_recoveries.specs.declared.recoveries.Recoveries.{Recoveries}
use Rattle.play_recoveries.specs.Places.{recoveries_of, PrimariesAscend, HasClient}
use Rattle.play_recoveries.specs.Showing.{ClientsShow, HasSeats, Stand}
use Rattle.play_recoveries.proofs.KeepLaws.{NodesLive, keeps_primary}

-- UPPER ENDS

pub primary_same : (a b j k : ℕ) → by_primary a j ≡ by_primary b k → a ≡ b
primary_same a b j k e = cc

pub no_writer_recovers : (b : ℕ) (u : Upper) → u ≡ by_writer b → purpose_of u ≡ recovering → ⊥
no_writer_recovers b u is e = clash (sym (ap purpose_of is) ∙ e)
  where
    clash : pipeline ≡ recovering → ⊥
    clash e = cc

pub no_member_recovers : (d : ℕ) (u : Upper) → u ≡ by_member d → purpose_of u ≡ recovering → ⊥
no_member_recovers d u is e = clash (sym (ap purpose_of is) ∙ e)
  where
    clash : pipeline ≡ recovering → ⊥
    clash e = cc

pub no_read_recovers : (u : Upper) → purpose_of u ≡ reading → purpose_of u ≡ recovering → ⊥
no_read_recovers u is e = clash (sym is ∙ e)
  where
    clash : reading ≡ recovering → ⊥
    clash e = cc

-- THE TABLE

module _ {I O : Type 0} where
  module _ (xs : List (PrimaryClient I O)) (place : ℕ) (c c' : PrimaryClient I O) (at : slice_get xs place ≡ Some c) (same : c'.recovery.primary ≡ c.recovery.primary) where
    pub has_client_set : (number : ℕ) → HasClient xs number → HasClient (slice_set xs place c') number
    has_client_set number h = by (same_or h.place place)
      where
        by : ((h.place ≡ place) ⊎ (h.place ≡ place → ⊥)) → HasClient (slice_set xs place c') number
        by (inl here) = record {
          place = place;
          client = c';
          at = set_here xs place c c' at;
          of_primary = same ∙
              (ap (λ (x : PrimaryClient I O). x.recovery.primary) (same_some c h.client (sym at ∙ (ap (λ (k : ℕ). slice_get xs k) (sym here) ∙ h.at))) ∙ h.of_primary);
        }
        by (inr away) = record { place = h.place; client = h.client; at = set_there xs place c' h.place away ∙ h.at; of_primary = h.of_primary }

    -- the client that stood there before, of the same primary
    was_there : (k : ℕ) (a : PrimaryClient I O) → slice_get (slice_set xs place c') k ≡ Some a → IsNumbered (λ x. x.recovery.primary) xs a.recovery.primary k
    was_there k a is = by (set_or xs place c' k a is)
      where
        by : SetOr xs place c' k a → IsNumbered (λ x. x.recovery.primary) xs a.recovery.primary k
        by (inl x) = record {
          found = c;
          at = ap (λ (n : ℕ). slice_get xs n) x.0 ∙ at;
          same = sym (ap (λ (y : PrimaryClient I O). y.recovery.primary) x.1 ∙ same);
        }
        by (inr x) = record { found = a; at = x.1; same = refl }

    pub ascend_set : PrimariesAscend xs → PrimariesAscend (slice_set xs place c')
    ascend_set up = ascend_same (λ x. x.recovery.primary) xs up (slice_set xs place c') was_there

  pub recoveries_set : (xs : List (PrimaryClient I O)) (place : ℕ) (c c' : PrimaryClient I O) → slice_get xs place ≡ Some c → c'.recovery ≡ c.recovery → recoveries_of (slice_set xs place c') ≡ recoveries_of xs
  recoveries_set [] place c c' at same = refl
  recoveries_set (x ∷ xs) zero c c' at same = ap (λ (a : Recovery). a ∷ recoveries_of xs) (same ∙ sym (ap (λ (y : PrimaryClient I O). y.recovery) (same_some x c at)))
  recoveries_set (x ∷ xs) (suc k) c c' at same = ap (λ (more : List Recovery). x.recovery ∷ more) (recoveries_set xs k c c' at same)

-- SEATS

-- a primary of which the roads know the connections has its seats
pub seats_ready : {I O : Type 0} (plain : Option Plain) (st : PrimaryState I O) → PrimaryIsReady plain st → HasSeats st
seats_ready plain state.New h = tt
seats_ready plain (state.Leads p) h = h.count
seats_ready plain (state.HasLed led) h = tt
seats_ready plain state.Stopped h = tt

module _ {I O : Type 0} (i : link_in.Ghosts I) (o : link_out.Ghosts O) where
  -- THE OTHERS

  -- An event of one primary keeps all others, and their connections.
  pub record ActsAlone (w : World) (net : Net) (v : World) (made : Net) (number : ℕ) : Type 0 where
    pub ordered : Ordered w
    pub live : NodesLive w v
    pub primaries : (other : ℕ) → other ≢ number → v.primaries other ≡ w.primaries other
    pub over : (other place c : ℕ) → other ≢ number → (w.dialled c).upper ≡ by_primary other place → is_over v c false ≡ is_over w c false
    pub ends : (other place c : ℕ) (e : Conn I O) → other ≢ number → (w.dialled c).upper ≡ by_primary other place → IsEndOf i o w net c false e → IsEndOf i o v made c false e
    pub shut : (c : ℕ) → IsShut w c → IsShut v c

  module _ (w : World) (net : Net) (v : World) (made : Net) (number : ℕ) (h : ActsAlone w net v made number) where
    keeps_other : (r : Recovery) → r.primary ≢ number → KeepsPrimaryClient i o w net v made r
    keeps_other r apart =
        keeps_primary i o w net v made [] h.ordered h.live r (h.primaries r.primary apart) (λ place c by. record {
          over = h.over r.primary place c apart by;
          ends = λ e x. h.ends r.primary place c e apart by x;
          shut = h.shut c;
        })

    -- the clients after an event of the one at a place
    pub clients_after : (xs : List (PrimaryClient I O)) (place : ℕ) (c c' : PrimaryClient I O) → PrimaryClientsStay i o → ClientsShow i o w net xs → slice_get xs place ≡ Some c → c.recovery.primary ≡ number → c'.recovery.primary ≡ c.recovery.primary → PrimaryClientShows i o v made c' → HasSeats c'.state → ClientsShow i o v made (slice_set xs place c')
    clients_after xs place c c' stay shows at of_number same here seats = record {
      each = λ k a is. each k a (set_or xs place c' k a is);
      seats = λ k a is. seat k a (set_or xs place c' k a is);
      ascend = ascend_set xs place c c' at same shows.ascend;
      all = λ other begun. has_client_set xs place c c' at same other (all other begun (same_or other number));
    }
      where
        each : (k : ℕ) (a : PrimaryClient I O) → SetOr xs place c' k a → PrimaryClientShows i o v made a
        each k a (inl x) = subst (λ (y : PrimaryClient I O). PrimaryClientShows i o v made y) (sym x.1) here
        each k a (inr x) = stay a w net v made (shows.each k a x.1) (keeps_other a.recovery (λ e. x.0 (same_place (λ y. y.recovery.primary) xs shows.ascend k place a c x.1 at (e ∙ sym of_number))))

        seat : (k : ℕ) (a : PrimaryClient I O) → SetOr xs place c' k a → HasSeats a.state
        seat k a (inl x) = subst (λ (y : PrimaryClient I O). HasSeats y.state) (sym x.1) seats
        seat k a (inr x) = shows.seats k a x.1

        all : (other : ℕ) → (v.primaries other ≡ no_primary → ⊥) → ((other ≡ number) ⊎ (other ≡ number → ⊥)) → HasClient xs other
        all other begun (inl e) = record { place = place; client = c; at = at; of_primary = of_number ∙ sym e }
        all other begun (inr apart) = shows.all other (λ none. begun (h.primaries other apart ∙ none))

-- THE ROADS KNOW A CLIENT'S CONNECTIONS

all_each : {A : Type 0} (P : A → Type 0) (xs : List A) → ((k : ℕ) (x : A) → slice_get xs k ≡ Some x → P x) → All P xs
all_each P [] h k d within = absurd (none k within)
  where
    none : (n : ℕ) → n < 0 → ⊥
    none n h = omega (arith, h)
all_each P (x ∷ xs) h zero d within = h zero x refl
all_each P (x ∷ xs) h (suc k) d within = all_each P xs (λ j y at. h (suc j) y at) k d (less k (length xs) within)
  where
    less : (a b : ℕ) → suc a < suc b → a < b
    less a b h = omega (arith, h)

module _ {R I O : Type 0} (r : roads.Ghosts R I O) (i : link_in.Ghosts I) (o : link_out.Ghosts O) (w : World) (net : Net) (road : R) (shows : RoadsShow r net road) where
  seat_known : (b : Bool) (q : Option ℕ) (x : Seat I O) → SeatShows i o w net b q x → LinkIsKnown (r.plain road) x
  seat_known true (Some d) (seat.Open link) h = known r i o road net (r.plain road) d link.end.id.0 shows refl h.end_is.within h.end_is.id
  seat_known true (Some d) seat.Empty h = absurd h
  seat_known true (Some d) seat.Lost h = absurd h
  seat_known true None x h = subst (λ (y : Seat I O). LinkIsKnown (r.plain road) y) (sym h) tt
  seat_known false (Some d) x h = subst (λ (y : Seat I O). LinkIsKnown (r.plain road) y) (sym h.0) tt
  seat_known false None x h = subst (λ (y : Seat I O). LinkIsKnown (r.plain road) y) (sym h) tt

  place_known : (p : Phase) (a : Option member.Standing) (q : Option (Option ℕ)) (x : Seat I O) → PlaceShows i o w net p a q (Some x) → LinkIsKnown (r.plain road) x
  place_known p (Some s) (Some q) x h = seat_known (listens p s) q x h.seat_is
  place_known p (Some s) None x h = absurd h
  place_known p None (Some q) x h = absurd h
  place_known p None None x h = absurd h

  pub is_ready : (st : PrimaryState I O) (t : Recovery) → StateShows i o w net t st → HasSeats st → PrimaryIsReady (r.plain road) st
  is_ready state.New t h seats = tt
  is_ready (state.HasLed led) t h seats = tt
  is_ready state.Stopped t h seats = tt
  is_ready (state.Leads p) t h seats =
      let l : Leading = h.leading in
      let s = h.leads_so.shows in
      record {
        count = seats;
        known = all_each (LinkIsKnown (r.plain road)) p.links.items (λ k x at.
            place_known l.state.phase (slice_get l.state.standings k) (slice_get l.conns k) x
            (subst (λ (z : Option (Seat I O)). PlaceShows i o w net l.state.phase (slice_get l.state.standings k) (slice_get l.conns k) z) at (s.places k)));
      }

pub client_ready : {F R I O : Type 0} (r : roads.Ghosts R I O) (i : link_in.Ghosts I) (o : link_out.Ghosts O) (road : R) (n : Nodes F I O) (p : Recoveries I O) (place : ℕ) (c : PrimaryClient I O) → Stand r i o road n p → slice_get p.clients.items place ≡ Some c → PrimaryIsReady (r.plain road) c.state
client_ready r i o road n p place c s at =
    let shows = s.stands.recoveries_are.clients in
    is_ready r i o s.w s.net road s.stands.nodes.roads_are.shows c.state c.recovery (shows.each place c at) (shows.seats place c at)
