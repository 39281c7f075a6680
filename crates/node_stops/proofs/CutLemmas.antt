-- Connections that are cut, one after the other.
use Rattle.std.proofs.Common.{◌≡◌, ℕ, zero, suc, length, take, ◌+◌, ◌≤◌, ◌<◌, Bool, true, false, List, [], ◌∷◌, ◌++◌, Option, Some, None, refl, sym, ap, subst, ◌∙◌, arith}
use Rattle.std.specs.Prelude.{◌==◌, ◌||◌, slice_index_or, IfSome}
use Rattle.std.proofs.lemmas.Bool.Decides.{nat_tests}
use Rattle.hd_base.specs.Channels.{Plain}
use Rattle.hd_base.specs.Ends.{IsKnown, KeepsConnections}
use Rattle.hd_base.specs.declared.ends.Conn.{Conn}
use Rattle.hd_base.specs.declared.links.LinkIn as link_in
use Rattle.hd_base.specs.declared.links.LinkOut as link_out
use Rattle.hd_base.specs.declared.numbers.ConnId.{ConnId}
use Rattle.hd_base.specs.declared.roads.Roads as roads
use Rattle.road_traffic.specs.Showing.{Net}
use Rattle.world_stops.specs.World.Worlds.{World}
use Rattle.world_stops.specs.WorldCuts.Cutting.{cut_net, cut_world, RoadsCut, CutsRoads, CutsShow, CutsAreLosses, EndsStayInCuts}
use Rattle.world_stops.specs.WorldNets.Nets.{IsNetOf, IsEndOf}
use Rattle.world_stops.specs.Stopping.{all_cut, is_among}
use Rattle.node_stops.specs.Cutting.{all_cut_net, AllCutShows}
use Rattle.node_stops.proofs.ConnectionLemmas.{among_more}

-- LISTS

pub or_here : (a b : Bool) → a ≡ true → (a || b) ≡ true
or_here true b e = refl
or_here false b e = cc

pub or_there : (a b : Bool) → b ≡ true → (a || b) ≡ true
or_there true b e = refl
or_there false b e = e

same_number : (n : ℕ) → (n == n) ≡ true
same_number n = grind (arith, nat_tests)

front_among : (conns : List ConnId) (x : ConnId) (c : ℕ) → is_among conns c ≡ true → is_among (conns ++ x ∷ []) c ≡ true
front_among conns x c e = among_more conns x c ∙ or_here (is_among conns c) (x.0 == c) e

last_among : (conns : List ConnId) (x : ConnId) → is_among (conns ++ x ∷ []) x.0 ≡ true
last_among conns x = among_more conns x x.0 ∙ or_there (is_among conns x.0) (x.0 == x.0) (same_number x.0)

-- NETS

cut_more : (net : Net) (conns : List ConnId) (x : ConnId) → all_cut_net net (conns ++ x ∷ []) ≡ cut_net (all_cut_net net conns) x.0 0 0
cut_more net [] x = refl
cut_more net (y ∷ conns) x = cut_more (cut_net net y.0 0 0) conns x

conns_same : (net : Net) (conns : List ConnId) → (all_cut_net net conns).conns ≡ net.conns
conns_same net [] = refl
conns_same net (y ∷ conns) = conns_same (cut_net net y.0 0 0) conns

-- ROADS

pub known_kept : (old new : Option Plain) (c : ℕ) → KeepsConnections old new → IsKnown old c → IsKnown new c
known_kept None None c k h = tt
known_kept None (Some q) c k h = absurd (some_none q (k.stays_hidden refl)) where
  some_none : (q : Plain) → ◌≡◌ {A = Option Plain} (Some q) None → ⊥
  some_none q e = cc
known_kept (Some p) None c k h = tt
known_kept (Some p) (Some q) c k h = omega (arith, k.dialled, h)

pub keeps_keep : (a b c : Option Plain) → KeepsConnections a b → KeepsConnections b c → KeepsConnections a c
keeps_keep a b c one two = record { stays_hidden = λ e. two.stays_hidden (one.stays_hidden e); dialled = by a b c one two } where
  some_none : (q : Plain) (P : Type 0) → ◌≡◌ {A = Option Plain} (Some q) None → P
  some_none q P e = cc

  by : (a b c : Option Plain) → KeepsConnections a b → KeepsConnections b c → IfSome a (λ p. IfSome c (λ q. q.dialled ≡ p.dialled))
  by None b c one two = tt
  by (Some p) b None one two = tt
  by (Some p) (Some q) (Some s) one two = two.dialled ∙ one.dialled
  by (Some p) None (Some s) one two = some_none s _ (two.stays_hidden refl)

pub keeps_same : (a : Option Plain) → KeepsConnections a a
keeps_same a = record { stays_hidden = λ e. e; dialled = by a } where
  by : (a : Option Plain) → IfSome a (λ p. IfSome a (λ q. q.dialled ≡ p.dialled))
  by None = tt
  by (Some p) = refl

module _ {R I O : Type 0} (r : roads.Ghosts R I O) where
  pub cut_none : (road : R) → AllCutShows r [] road road
  cut_none road net sane shows below = record { sane = sane; shows = shows }

  pub cut_next : CutsShow R I O r → (conns : List ConnId) (x : ConnId) (road mid road' : R) → CutsRoads r x.0 0 0 mid road' → AllCutShows r conns road mid → AllCutShows r (conns ++ x ∷ []) road road'
  cut_next law conns x road mid road' cuts so net sane shows below =
      let first = so net sane shows (λ c among. below c (front_among conns x c among)) in
      let within : x.0 < (all_cut_net net conns).conns = omega (arith, conns_same net conns, below x.0 (last_among conns x)) in
      subst (λ m. RoadsCut r m road') (sym (cut_more net conns x)) (law (all_cut_net net conns) x.0 0 0 mid road' cuts first.sane first.shows within)

-- WORLDS

abbrev AreBelow : ℕ → List ConnId → Type 0
AreBelow n conns = (c : ℕ) → is_among conns c ≡ true → c < n

first_below : (n : ℕ) (x : ConnId) (conns : List ConnId) → AreBelow n (x ∷ conns) → x.0 < n
first_below n x conns below = below x.0 (or_here (x.0 == x.0) (is_among conns x.0) (same_number x.0))

rest_below : (n m : ℕ) (x : ConnId) (conns : List ConnId) → m ≡ n → AreBelow n (x ∷ conns) → AreBelow m conns
rest_below n m x conns same below c among = omega (arith, same, below c (or_there (x.0 == c) (is_among conns c) among))

module _ (cuts : CutsAreLosses) where
  next_same : (w : World) (net : Net) (x : ConnId) → x.0 < w.next_conn → (cut_world w x 0 0).next_conn ≡ w.next_conn
  next_same w net x below = ap (λ (v : World). v.next_conn) (cuts w net x 0 0 below).is.is

  pub nets_cut : (w : World) (net : Net) (conns : List ConnId) → AreBelow w.next_conn conns → IsNetOf w net → IsNetOf (all_cut w conns) (all_cut_net net conns)
  nets_cut w net [] below is = is
  nets_cut w net (x ∷ conns) below is =
      let first = first_below w.next_conn x conns below in
      nets_cut (cut_world w x 0 0) (cut_net net x.0 0 0) conns (rest_below w.next_conn (cut_world w x 0 0).next_conn x conns (next_same w net x first) below) ((cuts w net x 0 0 first).net_is is)

  pub ends_cut : {I O : Type 0} (i : link_in.Ghosts I) (o : link_out.Ghosts O) → EndsStayInCuts i o → (w : World) (net : Net) (conns : List ConnId) → AreBelow w.next_conn conns → (d : ℕ) (l : Bool) (e : Conn I O) → IsEndOf i o w net d l e
      → IsEndOf i o (all_cut w conns) (all_cut_net net conns) d l e
  ends_cut i o stay w net [] below d l e is = is
  ends_cut i o stay w net (x ∷ conns) below d l e is =
      let first = first_below w.next_conn x conns below in
      ends_cut i o stay (cut_world w x 0 0) (cut_net net x.0 0 0) conns (rest_below w.next_conn (cut_world w x 0 0).next_conn x conns (next_same w net x first) below) d l e
      (stay w (cut_world w x 0 0) net x.0 0 0 d l e (cuts w net x 0 0 first).is is)

-- So many connections were cut.
pub record CutSoFar {R I O : Type 0} (r : roads.Ghosts R I O) (conns : List ConnId) (first road : R) : Type 0 where
  pub shows : AllCutShows r conns first road
  pub keeps : KeepsConnections (r.plain first) (r.plain road)
  pub later : r.faults first ≤ r.faults road

module _ {R I O : Type 0} (r : roads.Ghosts R I O) where
  pub so_far_none : (road : R) → CutSoFar r [] road road
  so_far_none road = record { shows = cut_none r road; keeps = keeps_same (r.plain road); later = omega arith }

  pub so_far_next : CutsShow R I O r → (conns : List ConnId) (x : ConnId) (first road road' : R) → CutsRoads r x.0 0 0 road road' → KeepsConnections (r.plain road) (r.plain road') → r.faults road' ≡ r.faults road → CutSoFar r conns first road
      → CutSoFar r (conns ++ x ∷ []) first road'
  so_far_next law conns x first road road' cuts keeps same so = record {
    shows = cut_next r law conns x first road road' cuts so.shows;
    keeps = keeps_keep (r.plain first) (r.plain road) (r.plain road') so.keeps keeps;
    later = omega (arith, so.later, same);
  }

-- LISTS BY THEIR PLACES

take_after : (xs : List ConnId) (k : ℕ) (d : ConnId) → k < length xs → take (suc k) xs ≡ take k xs ++ slice_index_or xs k d ∷ []
take_after [] k d h = absurd (omega (arith, h))
take_after (x ∷ xs) zero d h = refl
take_after (x ∷ xs) (suc k) d h = ap (λ l. x ∷ l) (take_after xs k d (omega (arith, h)))

pub take_more : (xs : List ConnId) (k : ℕ) (d : ConnId) → k < length xs → take (k + 1) xs ≡ take k xs ++ slice_index_or xs k d ∷ []
take_more xs k d h =
    subst (λ n. take n xs ≡ take k xs ++ slice_index_or xs k d ∷ []) (one_more k) (take_after xs k d h) where
      one_more : (n : ℕ) → suc n ≡ n + 1
      one_more n = omega arith

pub take_all : (xs : List ConnId) (k : ℕ) → length xs ≤ k → take k xs ≡ xs
take_all [] zero h = refl
take_all [] (suc k) h = refl
take_all (x ∷ xs) zero h = absurd (omega (arith, h))
take_all (x ∷ xs) (suc k) h = ap (λ l. x ∷ l) (take_all xs k (omega (arith, h)))

pub among_at : (xs : List ConnId) (k : ℕ) (d : ConnId) → k < length xs → is_among xs (slice_index_or xs k d).0 ≡ true
among_at [] k d h = absurd (omega (arith, h))
among_at (x ∷ xs) zero d h = or_here (x.0 == x.0) (is_among xs x.0) (same_number x.0)
among_at (x ∷ xs) (suc k) d h = or_there (x.0 == (slice_index_or xs k d).0) (is_among xs (slice_index_or xs k d).0) (among_at xs k d (omega (arith, h)))

pub so_far_more : {R I O : Type 0} (r : roads.Ghosts R I O) → CutsShow R I O r → (conns : List ConnId) (k : ℕ) (d : ConnId) (first road road' : R) → k < length conns → CutsRoads r (slice_index_or conns k d).0 0 0 road road' → KeepsConnections (r.plain road) (r.plain road') → r.faults road' ≡ r.faults road
    → CutSoFar r (take k conns) first road → CutSoFar r (take (k + 1) conns) first road'
so_far_more r law conns k d first road road' within cuts keeps same so =
    subst (λ l. CutSoFar r l first road') (sym (take_more conns k d within)) (so_far_next r law (take k conns) (slice_index_or conns k d) first road road' cuts keeps same so)

pub so_far_all : {R I O : Type 0} (r : roads.Ghosts R I O) (conns : List ConnId) (k : ℕ) (first road : R) → length conns ≤ k → CutSoFar r (take k conns) first road → AllCutShows r conns first road
so_far_all r conns k first road all so = (subst (λ l. CutSoFar r l first road) (take_all conns k all) so).shows
