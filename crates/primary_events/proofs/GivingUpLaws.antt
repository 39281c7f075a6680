-- A primary that gives up all its connections, one after the other.
use Rattle.std.proofs.Common.{◌≡◌, ℕ, zero, suc, ◌+◌, ◌<◌, ◌≤◌, Bool, true, false, is_some, List, [], ◌∷◌, ◌++◌, length, slice_get, slice_set, Option, Some, None, Result, Ok, Err, ◌⊎◌, inl, inr, refl, sym, ap, ◌∙◌, subst, arith, eqb-true}
use Rattle.std.specs.Prelude.{cond, map, unwrap_or, ◌==◌, ◌||◌, ◌&&◌}
use Rattle.std.specs.List.{list_any}
use Rattle.std.proofs.lemmas.List.{append-nil, length-map}
use Rattle.hd_base.specs.Channels.{same_direction}
use Rattle.hd_base.specs.declared.ends.Conn.{Conn}
use Rattle.hd_base.specs.declared.ends.RoadError.{RoadError}
use Rattle.hd_base.specs.declared.links.LinkIn as link_in
use Rattle.hd_base.specs.declared.links.LinkOut as link_out
use Rattle.hd_base.specs.declared.numbers.ConnId.{ConnId}
use Rattle.hd_base.specs.declared.roads.Roads as roads
use Rattle.hd_base.specs.declared.roads.TheConstants.{FIRST_PORT}
use Rattle.block_recovery.specs.declared.links.Seat.{Seat}
use Rattle.block_recovery.specs.declared.links.Seat.TheVariants as seat
use Rattle.block_recovery.specs.declared.links.Link.{Link}
use Rattle.block_recovery.specs.Actions.{Held, IsAt, Passes, Settles, SettlesAt, SettlesAll, GivesBack, place_after}
use Rattle.block_recovery.specs.Dialling.{is_lost}
use Rattle.link_pieces.specs.Roads.{BringsEnd}
use Rattle.recovery_core.specs.declared.primary.Phase.{Phase}
use Rattle.recovery_core.specs.declared.primary.Recovered.{Recovered}
use Rattle.recovery_core.specs.declared.standings.Standing.{Standing}
use Rattle.road_traffic.specs.Traffic.{Traffic, more, closes, given_up}
use Rattle.road_traffic.specs.Showing.{Net, EndIs, lost_net}
use Rattle.road_traffic.proofs.CallLemmas.{shut-shows}
use Rattle.road_traffic.proofs.TrafficLemmas.{changed-at, changed-other, same-itself}
use Rattle.world.specs.declared.events.Event.{Event}
use Rattle.world.specs.Parts.{Leading}
use Rattle.world.specs.Worlds.{World, Change, Dial, apply}
use Rattle.world.specs.Connections.{is_conn}
use Rattle.world.specs.Events.{outcome, happens}
use Rattle.world.specs.Primaries.{is_among_conns, listens, ends_change}
use Rattle.world_primaries.specs.WorldNets.Rows.{Row, rows_of, text_of, sends, shuts, shuts_if}
use Rattle.world_primaries.specs.WorldNets.Nets.{IsRow, IsNetOf, IsEndOf, held_by, is_over}
use Rattle.world_primaries.specs.WorldNets.Changes.{sent_by}
use Rattle.world_primaries.specs.WorldNets.Ends.{IsElsewhere}
use Rattle.world_primaries.specs.WorldNets.Steps.{SendsBy}
use Rattle.world_primaries.proofs.WorldNets.ChangeLemmas.{changed_so}
use Rattle.world_primaries.proofs.WorldNets.EndLemmas.{stays, same-end}
use Rattle.world_primaries.proofs.WorldNets.StepLemmas.{next-conn, runs-on, none-over, changed-over, followed}
use Rattle.world_primaries.specs.Links.{AreDistinct, link_flushes, ends_flushes}
use Rattle.client_events.specs.MemberEvents.Showing.{ShowsWorld}
use Rattle.client_events.proofs.MemberEvents.EndLaws.{RoadsAt, end_brought}
use Rattle.primary_events.specs.Leading.{AllOthersStay}
use Rattle.primary_events.specs.Showing.{IsShut, SeatShows, PlaceShows}
use Rattle.primary_events.proofs.PlaceLemmas.{set_here, set_there, within, some_same}

-- ONE DIRECTION

closed : (r : Row) (t : Traffic) → IsRow r t → IsRow (shuts r) (closes (more [] t))
closed r t is =
    let sent : t.sent ++ [] ≡ map text_of r.sent = append-nil t.sent ∙ is.sent in record {
      sent = sent;
      taken = is.taken;
      end = λ taking. ap Some (ap (λ e. unwrap_or e (length (t.sent ++ []))) (is.end taking) ∙ ap (λ n. unwrap_or r.marks.end n) (ap length sent ∙ length-map r.sent text_of));
    }

-- the connection of an end that is given up is shut
gone : (d : Bool) (r : Row) (t : Traffic) → IsRow r t → IsRow (shuts r) (given_up false [] d t)
gone true r t is = closed r t is
gone false r t is = record { sent = is.sent; taken = λ taking. cc; end = λ taking. cc }

again_end : (e : Option ℕ) (n : ℕ) → is_some e ≡ true → Some (unwrap_or e n) ≡ e
again_end None n h = cc
again_end (Some a) n h = refl

again : (r : Row) → is_some r.marks.end ≡ true → shuts r ≡ r
again r h = ap (λ (e : Option ℕ). record r { marks = record r.marks { end = e } }) (again_end r.marks.end (length r.sent) h)

-- to shut a connection again changes nothing
shut_again : (w : World) (c : ℕ) (d : Bool) → IsShut w c → shuts (rows_of w c d) ≡ rows_of w c d
shut_again w c true h = again (rows_of w c true) h.down
shut_again w c false h = again (rows_of w c false) h.up

-- PLACES

pub before_or : (j k : ℕ) → j < suc k → (j ≡ k) ⊎ (j < k)
before_or zero zero h = inl refl
before_or zero (suc k) h = inr (omega arith)
before_or (suc j) zero h = absurd (omega (arith, h))
before_or (suc j) (suc k) h = by (before_or j k (omega (arith, h))) where
  by : (j ≡ k) ⊎ (j < k) → (suc j ≡ suc k) ⊎ (suc j < suc k)
  by (inl e) = inl (ap suc e)
  by (inr b) = inr (omega (arith, b))

pub differs : (c d : ℕ) → (c ≡ d → ⊥) → (c == d) ≡ false
differs c d h = by (c == d) refl where
  by : (b : Bool) → (c == d) ≡ b → b ≡ false
  by true e = absurd (h (eqb-true c d e))
  by false e = refl

pub or_true : (b : Bool) → (b || true) ≡ true
or_true true = refl
or_true false = refl

pub at_among : (conns : List (Option ℕ)) (j c : ℕ) → slice_get conns j ≡ Some (Some c) → is_among_conns conns c ≡ true
at_among [] j c e = cc
at_among (x ∷ conns) zero c e =
    ap (λ (y : Option ℕ). is_conn y c || is_among_conns conns c) (some_same x (Some c) e) ∙ ap (λ b. b || is_among_conns conns c) (same-itself c)
at_among (x ∷ conns) (suc j) c e = ap (λ b. is_conn x c || b) (at_among conns j c e) ∙ or_true (is_conn x c)

-- The connection stands at some place.
pub record Stands (conns : List (Option ℕ)) (c : ℕ) : Type 0 where
  pub place : ℕ
  pub is : slice_get conns place ≡ Some (Some c)

pub conn_is : (x : Option ℕ) (c : ℕ) → is_conn x c ≡ true → x ≡ Some c
conn_is None c e = cc
conn_is (Some d) c e = ap Some (sym (eqb-true c d e))

pub among_at : (conns : List (Option ℕ)) (c : ℕ) → is_among_conns conns c ≡ true → Stands conns c
among_at [] c e = cc
among_at (x ∷ conns) c e = by (is_conn x c) refl e (λ t. among_at conns c t) where
  by : (b : Bool) → is_conn x c ≡ b → (b || is_among_conns conns c) ≡ true → (is_among_conns conns c ≡ true → Stands conns c) → Stands (x ∷ conns) c
  by true is t later = record { place = 0; is = ap Some (conn_is x c is) }
  by false is t later = record { place = suc (later t).place; is = (later t).is }

-- an end that is lost is one of some member
pub any_lost : {I O : Type 0} (links : List (Seat I O)) (j : ℕ) → slice_get links j ≡ Some seat.Lost → list_any (λ x. is_lost (Some x)) links ≡ true
any_lost [] j e = cc
any_lost (x ∷ links) zero e = ap (λ y. is_lost y || list_any (λ z. is_lost (Some z)) links) e
any_lost (x ∷ links) (suc j) e = ap (λ b. is_lost (Some x) || b) (any_lost links j e) ∙ or_true (is_lost (Some x))

nothing_sent : (f : ℕ → Bool) (conns : List (Option ℕ)) (c : ℕ) (d : Bool) → sent_by (link_flushes (λ _. []) f conns) c d ≡ []
nothing_sent f [] c d = refl
nothing_sent f (None ∷ conns) c d = nothing_sent f conns c d
nothing_sent f (Some e ∷ conns) c d = by ((e == c) && same_direction true d) (nothing_sent f conns c d) where
  by : (b : Bool) → sent_by (link_flushes (λ _. []) f conns) c d ≡ [] → cond b [] [] ++ sent_by (link_flushes (λ _. []) f conns) c d ≡ []
  by true rest = rest
  by false rest = rest

pub true_false : true ≡ false → ⊥
true_false h = cc

module _ {R I O : Type 0} (r : roads.Ghosts R I O) (i : link_in.Ghosts I) (o : link_out.Ghosts O) (w : World) (net : Net) (p : Phase) (standings : List Standing) (conns : List (Option ℕ)) (links : List (Seat I O)) where
  abbrev ShowsPlaces : Type 0
  ShowsPlaces = (n : ℕ) → PlaceShows i o w net p (slice_get standings n) (slice_get conns n) (slice_get links n)

  -- WHAT THE PRIMARY HAS AT A PLACE

  -- its end of the connection there, or nothing where that is shut
  abbrev SeatIs : Option (Option ℕ) → Seat I O → Type 0
  SeatIs (Some (Some c)) (seat.Open l) = IsEndOf i o w net c false l.end
  SeatIs (Some (Some c)) seat.Empty = IsShut w c
  SeatIs (Some (Some c)) seat.Lost = ⊥
  SeatIs (Some None) x = x ≡ seat.Empty
  SeatIs None x = ⊥

  seat_by : (q : Bool) (conn : Option ℕ) (x : Seat I O) → SeatShows i o w net q conn x → SeatIs (Some conn) x
  seat_by true None x h = h
  seat_by false None x h = h
  seat_by true (Some c) (seat.Open l) h = h.end_is
  seat_by true (Some c) seat.Empty h = absurd h
  seat_by true (Some c) seat.Lost h = absurd h
  seat_by false (Some c) (seat.Open l) h = cc (h.0)
  seat_by false (Some c) seat.Empty h = h.1
  seat_by false (Some c) seat.Lost h = cc (h.0)

  seat_is : (a : Option Standing) (b : Option (Option ℕ)) (x : Seat I O) → PlaceShows i o w net p a b (Some x) → SeatIs b x
  seat_is (Some s) (Some conn) x h = seat_by (listens p s) conn x h.seat_is
  seat_is None None x h = absurd h
  seat_is None (Some conn) x h = absurd h
  seat_is (Some s) None x h = absurd h

  no_seat : (a : Option Standing) (conn : Option ℕ) → PlaceShows i o w net p a (Some conn) None → ⊥
  no_seat (Some s) conn h = h
  no_seat None conn h = h

  -- THE CONNECTIONS BEFORE A PLACE

  -- The connection stands at no place before this one.
  abbrev NotBefore : ℕ → ℕ → Type 0
  NotBefore k c = (j : ℕ) → j < k → slice_get conns j ≡ Some (Some c) → ⊥

  -- An end is the upper one of none that does.
  abbrev NoneBefore : ℕ → ℕ → Bool → Type 0
  NoneBefore k d b = (j c : ℕ) → j < k → slice_get conns j ≡ Some (Some c) → IsElsewhere c false d b

  -- Those that do were given up, and no other ones.
  record GivenUp (k : ℕ) (held : Held R I O) : Type 0 where
    made : Net
    roads_at : RoadsAt r made held.road
    conns_are : made.conns ≡ net.conns
    listens_are : made.listens ≡ net.listens
    waiting_are : made.waiting ≡ net.waiting
    early : (c : ℕ) (d : Bool) → NotBefore k c → IsRow (rows_of w c d) (made.traffic c d)
    late : (j c : ℕ) (d : Bool) → j < k → slice_get conns j ≡ Some (Some c) → IsRow (shuts (rows_of w c d)) (made.traffic c d)
    later : (j : ℕ) → k ≤ j → slice_get held.links j ≡ slice_get links j
    others : (d : ℕ) (b : Bool) (e : Conn I O) → NoneBefore k d b → IsEndOf i o w net d b e → IsEndOf i o w made d b e

  -- One of them is lost.
  record LostBefore (k : ℕ) (held : Held R I O) : Type 0 where
    place : ℕ
    before : place < k
    is : slice_get held.links place ≡ Some seat.Lost

  abbrev Stand : ℕ → Held R I O → Type 0
  Stand k held = GivenUp k held ⊎ LostBefore k held

  -- A PLACE

  module _ (distinct : AreDistinct conns) (places : ShowsPlaces) (k : ℕ) (a b : Held R I O) (after : Seat I O) (set : b.links ≡ slice_set a.links k after) where
    elsewhere : (j : ℕ) → (j ≡ k → ⊥) → slice_get b.links j ≡ slice_get a.links j
    elsewhere j apart = ap (λ (xs : List (Seat I O)). slice_get xs j) set ∙ set_there a.links k after j apart

    lost_on : LostBefore k a → Stand (suc k) b
    lost_on l = inr (record {
      place = l.place;
      before = (let h = l.before in omega (arith, h));
      is = elsewhere l.place (λ e. let h = l.before in omega (arith, h, e)) ∙ l.is;
    })

    module _ (g : GivenUp k a) where
      alone : (c : ℕ) → slice_get conns k ≡ Some (Some c) → NotBefore k c
      alone c here = λ j lt is. let e = distinct j k c is here in omega (arith, lt, e)

      less : (c : ℕ) → NotBefore (suc k) c → NotBefore k c
      less c none = λ j lt is. none j (omega (arith, lt)) is

      later_on : (j : ℕ) → suc k ≤ j → slice_get b.links j ≡ slice_get links j
      later_on j le = elsewhere j (λ e. omega (arith, le, e)) ∙ g.later j (omega (arith, le))

      others_on : (d : ℕ) (q : Bool) (e : Conn I O) → NoneBefore (suc k) d q → IsEndOf i o w net d q e → IsEndOf i o w g.made d q e
      others_on d q e none is = g.others d q e (λ j c lt at. none j c (omega (arith, lt)) at) is

      -- nothing is given up there
      idle : b.road ≡ a.road → ((c : ℕ) → slice_get conns k ≡ Some (Some c) → IsShut w c) → Stand (suc k) b
      idle same shut = inl (record {
        made = g.made;
        roads_at = subst (λ (z : R). RoadsAt r g.made z) (sym same) g.roads_at;
        conns_are = g.conns_are;
        listens_are = g.listens_are;
        waiting_are = g.waiting_are;
        early = λ c d none. g.early c d (less c none);
        late = λ j c d lt is. late_by j c d is (before_or j k lt);
        later = later_on;
        others = others_on;
      })
        where
          late_by : (j c : ℕ) (d : Bool) → slice_get conns j ≡ Some (Some c) → (j ≡ k) ⊎ (j < k) → IsRow (shuts (rows_of w c d)) (g.made.traffic c d)
          late_by j c d is (inl e) =
              let here : slice_get conns k ≡ Some (Some c) = subst (λ (n : ℕ). slice_get conns n ≡ Some (Some c)) e is in
              subst (λ (row : Row). IsRow row (g.made.traffic c d)) (sym (shut_again w c d (shut c here))) (g.early c d (alone c here))
          late_by j c d is (inr lt) = g.late j c d lt is

      -- an end is given up there, and brought back
      module _ (c : ℕ) (here : slice_get conns k ≡ Some (Some c)) (l : Link I O) (end_is : IsEndOf i o w net c false l.end) (gb : GivesBack r i o l.end after a.road b.road) (brings : BringsEnd r i o gb.gives.shut a.road b.road (Ok tt)) where
        mine : IsEndOf i o w g.made c false l.end
        mine = g.others c false l.end (λ j d lt is. λ e. absurd (alone c here j lt (is ∙ ap (λ (n : ℕ). Some (Some n)) e))) end_is

        shut_is : EndIs i o g.made.traffic true [] (held_by (is_over w c false)) gb.gives.shut
        shut_is = shut-shows i o g.made.traffic false [] (held_by (is_over w c false)) l.end gb.gives.shut gb.gives.kept (record { shut = gb.gives.is_shut; sent = gb.gives.sent; flushed = gb.gives.flushed; lost = gb.gives.lost }) mine.is

        abbrev now : Net
        now = lost_net g.made c false []

        there : (d : ℕ) (q : Bool) → (c ≡ d → ⊥) → now.traffic d q ≡ g.made.traffic d q
        there d q apart = changed-other g.made.traffic c d (given_up false []) q (differs c d apart)

        early_on : (d : ℕ) (q : Bool) → NotBefore (suc k) d → IsRow (rows_of w d q) (now.traffic d q)
        early_on d q none = subst (λ (t : Traffic). IsRow (rows_of w d q) t) (sym (there d q (λ e. none k (omega arith) (here ∙ ap (λ (n : ℕ). Some (Some n)) e)))) (g.early d q (less d none))

        here_on : (q : Bool) → IsRow (shuts (rows_of w c q)) (now.traffic c q)
        here_on q = subst (λ (t : Traffic). IsRow (shuts (rows_of w c q)) t) (sym (changed-at g.made.traffic c (given_up false []) q)) (gone q (rows_of w c q) (g.made.traffic c q) (g.early c q (alone c here)))

        late_on : (j d : ℕ) (q : Bool) → slice_get conns j ≡ Some (Some d) → (j ≡ k) ⊎ (j < k) → IsRow (shuts (rows_of w d q)) (now.traffic d q)
        late_on j d q is (inl e) =
            let same : c ≡ d = some_same c d (some_same (Some c) (Some d) (sym here ∙ subst (λ (n : ℕ). slice_get conns n ≡ Some (Some d)) e is)) in
            subst (λ (n : ℕ). IsRow (shuts (rows_of w n q)) (now.traffic n q)) same (here_on q)
        late_on j d q is (inr lt) =
            subst (λ (t : Traffic). IsRow (shuts (rows_of w d q)) t) (sym (there d q (λ e. alone c here j lt (is ∙ ap (λ (n : ℕ). Some (Some n)) (sym e))))) (g.late j d q lt is)

        gives : Stand (suc k) b
        gives = inl (record {
          made = now;
          roads_at = end_brought r i o g.made true [] (held_by (is_over w c false)) c false a.road b.road gb.gives.shut g.roads_at (ap (λ (z : ConnId). z.0) gb.gives.kept.id ∙ mine.id) (gb.gives.kept.lower ∙ mine.side) mine.within shut_is brings;
          conns_are = g.conns_are;
          listens_are = g.listens_are;
          waiting_are = g.waiting_are;
          early = early_on;
          late = λ j d q lt is. late_on j d q is (before_or j k lt);
          later = later_on;
          others = λ d q e none is. (stays r i o w w g.made c false d q e (none k c (omega arith) here) refl (others_on d q e none is)).lost [];
        })

      lost_here : (x : Seat I O) → slice_get a.links k ≡ Some x → after ≡ seat.Lost → Stand (suc k) b
      lost_here x stood e = inr (record {
        place = k;
        before = omega arith;
        is = ap (λ (xs : List (Seat I O)). slice_get xs k) set ∙ (set_here a.links k x after stood ∙ ap Some e);
      })

      by_seat : (q : Option (Option ℕ)) (x : Seat I O) → slice_get conns k ≡ q → slice_get a.links k ≡ Some x → SeatIs q x → Settles r i o false x after a.road b.road → Stand (suc k) b
      by_seat (Some (Some c)) (seat.Open l) here stood is gb = by gb.gives.result refl where
        by : (z : Result (Unit {0}) RoadError) → gb.gives.result ≡ z → Stand (suc k) b
        by (Ok u) e = gives c here l is gb (subst (λ z. BringsEnd r i o gb.gives.shut a.road b.road z) e gb.gives.brings)
        by (Err why) e = lost_here (seat.Open l) stood (gb.place_is ∙ ap place_after e)
      by_seat (Some (Some c)) seat.Empty here stood is s =
          idle s.1 (λ d at. subst (λ (n : ℕ). IsShut w n) (some_same c d (some_same (Some c) (Some d) (sym here ∙ at))) is)
      by_seat (Some (Some c)) seat.Lost here stood is s = absurd is
      by_seat (Some None) (seat.Open l) here stood is s = cc
      by_seat (Some None) seat.Empty here stood is s = idle s.1 (λ d at. let e = some_same None (Some d) (sym here ∙ at) in cc)
      by_seat (Some None) seat.Lost here stood is s = cc
      by_seat None x here stood is s = absurd is

    one_on : (at : IsAt (λ x y. Settles r i o false x y a.road b.road) k a.links b.links) → at.after ≡ after → Stand k a → Stand (suc k) b
    one_on at e (inr l) = lost_on l
    one_on at e (inl g) =
        let seat_at : slice_get links k ≡ Some at.before = sym (g.later k (omega arith)) ∙ at.stood in
        by_seat g (slice_get conns k) at.before refl at.stood
        (seat_is (slice_get standings k) (slice_get conns k) at.before (subst (λ (z : Option (Seat I O)). PlaceShows i o w net p (slice_get standings k) (slice_get conns k) z) seat_at (places k)))
        (subst (λ (z : Seat I O). Settles r i o false at.before z a.road b.road) e at.is)

  -- ALL PLACES

  module _ (distinct : AreDistinct conns) (places : ShowsPlaces) where
    all_on : (k : ℕ) (a b : Held R I O) → Passes (SettlesAt r i o []) k a b → Stand 0 a → Stand k b
    all_on zero a b e s = subst (λ (h : Held R I O). Stand 0 h) (sym e) s
    all_on (suc k) a b q s = one_on distinct places k q.0 b q.1.1.after q.1.1.stands q.1.1 refl (all_on k a q.0 q.1.0 s)

    started : (road : R) → ShowsWorld r w net road → Stand 0 (record { links = links; road = road })
    started road is = inl (record {
      made = net;
      roads_at = record { sane = is.sane; shows = is.shows };
      conns_are = refl;
      listens_are = refl;
      waiting_are = refl;
      early = λ c d none. is.is_net.rows_are c d;
      late = λ j c d lt at. absurd (omega (arith, lt));
      later = λ j le. refl;
      others = λ d q e none at. at;
    })

    there_is : (n c : ℕ) → slice_get conns n ≡ Some (Some c) → n < length links
    there_is n c is = by (slice_get links n) refl where
      by : (z : Option (Seat I O)) → slice_get links n ≡ z → n < length links
      by (Some x) e = within links n x e
      by None e = absurd (no_seat (slice_get standings n) (Some c) (subst (λ (y : Option (Option ℕ)). PlaceShows i o w net p (slice_get standings n) y None) is (subst (λ (z : Option (Seat I O)). PlaceShows i o w net p (slice_get standings n) (slice_get conns n) z) e (places n))))

-- THE WORLD AFTER IT

-- The roads show the world after an event in which the primary has shut all its connections; the other ends stay.
pub record AllShut {R I O : Type 0} (r : roads.Ghosts R I O) (i : link_in.Ghosts I) (o : link_out.Ghosts O) (w : World) (net : Net) (v : World) (conns : List (Option ℕ)) (road : R) : Type 0 where
  pub made : Net
  pub roads_are : ShowsWorld r v made road
  pub others : AllOthersStay i o w net v made conns

module _ {R I O : Type 0} (r : roads.Ghosts R I O) (i : link_in.Ghosts I) (o : link_out.Ghosts O) (w : World) (net : Net) (number : ℕ) (l : Leading) (end : Recovered) (e : Event) (links links' : List (Seat I O)) (road road' : R) (distinct : AreDistinct l.conns)
    (places : (n : ℕ) → PlaceShows i o w net l.state.phase (slice_get l.state.standings n) (slice_get l.conns n) (slice_get links n)) (is : ShowsWorld r w net road) (out : outcome w e ≡ Some (apply w (ends_change w number l end))) (by_flushes : SendsBy w (ends_change w number l end) (ends_flushes l)) where
  abbrev k : Change
  k = ends_change w number l end

  none_dialled : length k.dials ≡ 0
  none_dialled = ap (λ (d : List Dial). length d) by_flushes.none

  row_is : (c : ℕ) (d b : Bool) → is_among_conns l.conns c ≡ b → rows_of (apply w k) c d ≡ shuts_if b (rows_of w c d)
  row_is c d b among =
      changed_so w k c d ∙ (ap (λ ms. shuts_if (is_among_conns l.conns c) (sends ms (rows_of w c d))) (by_flushes.changes.sends c d ∙ nothing_sent (is_among_conns l.conns) l.conns c d)
      ∙ (ap (λ ms. shuts_if (is_among_conns l.conns c) (record { sent = ms; marks = (rows_of w c d).marks })) (append-nil (rows_of w c d).sent) ∙ ap (λ q. shuts_if q (rows_of w c d)) among))

  abbrev last : Held R I O
  last = record { links = links'; road = road' }

  module _ (g : GivenUp r i o w net l.state.phase l.state.standings l.conns links (length links) last) where
    rows_by : (c : ℕ) (d b : Bool) → is_among_conns l.conns c ≡ b → IsRow (rows_of (apply w k) c d) (g.made.traffic c d)
    rows_by c d true among =
        let at = among_at l.conns c among in
        subst (λ (row : Row). IsRow row (g.made.traffic c d)) (sym (row_is c d true among))
        (g.late at.place c d (there_is r i o w net l.state.phase l.state.standings l.conns links distinct places at.place c at.is) at.is)
    rows_by c d false among =
        subst (λ (row : Row). IsRow row (g.made.traffic c d)) (sym (row_is c d false among))
        (g.early c d (λ j lt at. true_false (sym (at_among l.conns j c at) ∙ among)))

    made_net : IsNetOf (apply w k) g.made
    made_net = record {
      conns = g.conns_are ∙ (is.is_net.conns ∙ omega (arith, next-conn w k 0 none_dialled));
      listens = λ node. ap (λ f. f (FIRST_PORT + node)) g.listens_are ∙ (is.is_net.listens node ∙ sym (runs-on w k node));
      waiting = λ port. ap (λ f. f port) g.waiting_are ∙ is.is_net.waiting port;
      rows_are = λ c d. rows_by c d (is_among_conns l.conns c) refl;
      none_over = none-over w k is.is_net.none_over 0 none_dialled;
    }

    over_same : (c : ℕ) (d : Bool) → is_over (happens w e) c d ≡ is_over w c d
    over_same c d = (followed w (apply w k) e out).over c d ∙ changed-over w k c d

    all_shut : AllShut r i o w net (happens w e) l.conns road'
    all_shut = record {
      made = g.made;
      roads_are = record { is_net = (followed w (apply w k) e out).nets g.made made_net; sane = g.roads_at.sane; shows = g.roads_at.shows };
      others = λ d q x none at. same-end r i o w (happens w e) g.made d q x (over_same d q) (g.others d q x (λ j c lt y. none j c y) at);
    }

  -- All connections were given up, and the roads show the world after it, or an end is lost.
  pub gives_all : SettlesAll r i o [] links links' road road' → AllShut r i o w net (happens w e) l.conns road' ⊎ (list_any (λ x. is_lost (Some x)) links' ≡ true)
  gives_all s = by (all_on r i o w net l.state.phase l.state.standings l.conns links distinct places (length links) (record { links = links; road = road }) last s (started r i o w net l.state.phase l.state.standings l.conns links distinct places road is)) where
    by : GivenUp r i o w net l.state.phase l.state.standings l.conns links (length links) last ⊎ LostBefore r i o w net l.state.phase l.state.standings l.conns links (length links) last → AllShut r i o w net (happens w e) l.conns road' ⊎ (list_any (λ x. is_lost (Some x)) links' ≡ true)
    by (inl g) = inl (all_shut g)
    by (inr x) = inr (any_lost links' x.place x.is)
