-- The ends that a node had are brought back.
use Rattle.std.proofs.Common.{◌≡◌, ℕ, zero, suc, ◌+◌, ◌≤◌, ◌<◌, Bool, true, false, List, [], ◌∷◌, length, map, Option, Some, None, Result, Ok, Err, refl, sym, ap, subst, ◌∙◌, arith}
use Rattle.std.specs.Prelude.{◌==◌, ◌&&◌, nat_lt, slice_get, slice_set, slice_index_or, IfSome, OnOk, if◌then◌else◌}
use Rattle.std.proofs.lemmas.Bool.Decides.{nat_tests}
use Rattle.std.proofs.lemmas.Bool.{eqb-true}
use Rattle.hd_base.specs.Channels.{Plain}
use Rattle.hd_base.specs.Ends.{IsKnown, KeepsConnections}
use Rattle.hd_base.specs.declared.ends.Conn.{Conn}
use Rattle.hd_base.specs.declared.ends.RoadError.{RoadError}
use Rattle.hd_base.specs.declared.links.LinkIn as link_in
use Rattle.hd_base.specs.declared.links.LinkOut as link_out
use Rattle.hd_base.specs.declared.numbers.NodeId.{NodeId}
use Rattle.hd_base.specs.declared.roads.Roads as roads
use Rattle.link_pieces.specs.Roads.{BringsEnd}
use Rattle.play_nodes.specs.PipeMember.Member.{Member}
use Rattle.play_nodes.specs.PipeMember.Exchanges.{BringsBoth, BringsMirror}
use Rattle.road_traffic.specs.Laws.{BringsShow}
use Rattle.road_traffic.specs.Showing.{Net, IsSane, RoadsShow, flushed_net}
use Rattle.world_stops.specs.World.Worlds.{World}
use Rattle.world_stops.specs.WorldNets.Dials.{NetsStaySane}
use Rattle.world_stops.specs.WorldNets.Ends.{IsElsewhere, EndsElsewhereStay}
use Rattle.world_stops.specs.WorldNets.Nets.{IsNetOf, IsEndOf, held_by, is_over}
use Rattle.world_stops.specs.WorldNets.Steps.{IdleFlushesAreNets}
use Rattle.play_nodes.specs.declared.connections.Connection.{Connection}
use Rattle.play_nodes.specs.declared.connections.Lower.{Lower}
use Rattle.play_nodes.specs.declared.connections.Lower.TheVariants as lower
use Rattle.play_nodes.specs.declared.connections.Upper.{Upper}
use Rattle.play_nodes.specs.declared.connections.Upper.TheVariants as upper
use Rattle.play_nodes.specs.declared.nodes.Nodes.{Nodes}
use Rattle.play_nodes.specs.Places.{with_lower}
use Rattle.node_stops.specs.Ending.{LowerIsKnown, AllKnown, Ends, EndsIf, EndsAt, ends_here, is_ended_at, is_ended, is_left_by, is_left, is_gone, MirrorIf, LowerStands, EndsStand, EndsLeft, ended_at, AllEnd}
use Rattle.node_stops.proofs.ConnectionLemmas.{some_in, none_past, in_some}
use Rattle.node_stops.proofs.CutLemmas.{known_kept, keeps_keep, keeps_same}

-- LISTS

pub set_here : {X : Type 0} (xs : List X) (k : ℕ) (x : X) → k < length xs → slice_get (slice_set xs k x) k ≡ Some x
set_here [] k x h = absurd (omega (arith, h))
set_here (y ∷ xs) zero x h = refl
set_here (y ∷ xs) (suc k) x h = set_here xs k x (omega (arith, h))

pub set_there : {X : Type 0} (xs : List X) (k : ℕ) (x : X) (c : ℕ) → (c ≡ k → ⊥) → slice_get (slice_set xs k x) c ≡ slice_get xs c
set_there [] k x c other = refl
set_there (y ∷ xs) zero x zero other = absurd (other refl)
set_there (y ∷ xs) zero x (suc c) other = refl
set_there (y ∷ xs) (suc k) x zero other = refl
set_there (y ∷ xs) (suc k) x (suc c) other = set_there xs k x c (λ e. other (ap suc e))

set_length : {X : Type 0} (xs : List X) (k : ℕ) (x : X) → length (slice_set xs k x) ≡ length xs
set_length [] k x = refl
set_length (y ∷ xs) zero x = refl
set_length (y ∷ xs) (suc k) x = ap suc (set_length xs k x)

pub same_some : {X : Type 0} (x y : X) → ◌≡◌ {A = Option X} (Some x) (Some y) → x ≡ y
same_some x y e = cc

-- two lists with the same elements at all places
same_lists : {X : Type 0} (xs ys : List X) → length xs ≡ length ys → ((c : ℕ) → slice_get xs c ≡ slice_get ys c) → xs ≡ ys
same_lists [] [] n same = refl
same_lists [] (y ∷ ys) n same = absurd (omega (arith, n))
same_lists (x ∷ xs) [] n same = absurd (omega (arith, n))
same_lists (x ∷ xs) (y ∷ ys) n same =
    (λ j. same_some x y (same 0) j ∷ same_lists xs ys (omega (arith, n)) (λ c. same (suc c)) j)

map_at : {X Y : Type 0} (f : X → Y) (xs : List X) (c : ℕ) (x : X) → slice_get xs c ≡ Some x → slice_get (map f xs) c ≡ Some (f x)
map_at f [] c x e = cc
map_at f (y ∷ xs) zero x e = ap (λ z. Some (f z)) (same_some y x e)
map_at f (y ∷ xs) (suc c) x e = map_at f xs c x e

map_length : {X Y : Type 0} (f : X → Y) (xs : List X) → length (map f xs) ≡ length xs
map_length f [] = refl
map_length f (x ∷ xs) = ap suc (map_length f xs)

-- WHICH ENDS ARE GONE

module _ {F I O : Type 0} (n : Nodes F I O) (node : NodeId) where
  below_next : (c k : ℕ) (b : Bool) → (nat_lt c (k + 1) && b) ≡ false → (nat_lt c k && b) ≡ false
  below_next c k true e =
      let there : nat_lt c (k + 1) ≡ false = and_true (nat_lt c (k + 1)) e in
      let here : nat_lt c k ≡ false = grind (arith, nat_tests, there) in
      ap (λ t. t && true) here
    where
      and_true : (t : Bool) → (t && true) ≡ false → t ≡ false
      and_true true e = cc
      and_true false e = refl
  below_next c k false e = and_false (nat_lt c k) where
    and_false : (t : Bool) → (t && false) ≡ false
    and_false true = refl
    and_false false = refl

  not_ended : (k c : ℕ) → is_ended n node (k + 1) c ≡ false → is_ended n node k c ≡ false
  not_ended k c e = below_next c k (is_ended_at (slice_get n.connections.items c) node) e

  not_left_by : (k : ℕ) (u : Upper) → is_left_by n node (k + 1) u ≡ false → is_left_by n node k u ≡ false
  not_left_by k (upper.Member conn) e = not_ended k conn.0 e
  not_left_by k u e = refl

  not_left : (k : ℕ) (x : Option (Connection I O)) → is_left n node (k + 1) x ≡ false → is_left n node k x ≡ false
  not_left k None e = refl
  not_left k (Some x) e = not_left_by k x.upper e

  pub not_gone : (k c : ℕ) (d : Bool) → is_gone n node (k + 1) c d ≡ false → is_gone n node k c d ≡ false
  not_gone k c true e = not_ended k c e
  not_gone k c false e = not_left k (slice_get n.connections.items c) e

  -- the end of the connection at the next place is gone after that place, and not before
  now_ended : (k : ℕ) (x : Connection I O) → slice_get n.connections.items k ≡ Some x → ends_here x node ≡ true → is_ended n node (k + 1) k ≡ true
  now_ended k x at is =
      let below : nat_lt k (k + 1) ≡ true = grind (arith, nat_tests) in
      (λ j. below j && is_ended_at (at j) node) ∙ is

  pub still_there : (k : ℕ) → is_ended n node k k ≡ false
  still_there k =
      let past : nat_lt k k ≡ false = grind (arith, nat_tests) in
      ap (λ t. t && is_ended_at (slice_get n.connections.items k) node) past

  -- so is that of a member's mirror
  mirror_left : (k conn d : ℕ) (y : Connection I O) → slice_get n.connections.items d ≡ Some y → y.upper ≡ upper.Member (record { 0 = conn }) → is_gone n node k d false ≡ is_ended n node k conn
  mirror_left k conn d y at by = ap (is_left n node k) at ∙ ap (is_left_by n node k) by

  pub none_gone : (c : ℕ) (d : Bool) → is_gone n node 0 c d ≡ false
  none_gone c true = none_ended c
    where
      none_ended : (c : ℕ) → is_ended n node 0 c ≡ false
      none_ended c =
          let past : nat_lt c 0 ≡ false = grind (arith, nat_tests) in
          ap (λ t. t && is_ended_at (slice_get n.connections.items c) node) past
  none_gone c false = by (slice_get n.connections.items c)
    where
      none_by : (u : Upper) → is_left_by n node 0 u ≡ false
      none_by (upper.Member conn) =
          let past : nat_lt conn.0 0 ≡ false = grind (arith, nat_tests) in
          ap (λ t. t && is_ended_at (slice_get n.connections.items conn.0) node) past
      none_by u = refl

      by : (x : Option (Connection I O)) → is_left n node 0 x ≡ false
      by None = refl
      by (Some x) = none_by x.upper

-- ONE END

-- Roads to which an end was brought back show the same world, and all other ends stay.
record IsBrought {R I O : Type 0} (r : roads.Ghosts R I O) (i : link_in.Ghosts I) (o : link_out.Ghosts O) (v : World) (net : Net) (conn : ℕ) (lower : Bool) (road : R) : Type 0 where
  made : Net
  is_net : IsNetOf v made
  sane : IsSane made
  shows : RoadsShow r made road
  stays : (c : ℕ) (d : Bool) (e : Conn I O) → IsElsewhere conn lower c d → IsEndOf i o v net c d e → IsEndOf i o v made c d e

-- So it is of the ends of a lower end, which are those that are gone next.
record IsEndedAt {F R I O : Type 0} (r : roads.Ghosts R I O) (i : link_in.Ghosts I) (o : link_out.Ghosts O) (v : World) (n : Nodes F I O) (node : NodeId) (k : ℕ) (net : Net) (road : R) : Type 0 where
  made : Net
  is_net : IsNetOf v made
  sane : IsSane made
  shows : RoadsShow r made road
  stays : (c : ℕ) (d : Bool) (e : Conn I O) → is_gone n node (k + 1) c d ≡ false → IsEndOf i o v net c d e → IsEndOf i o v made c d e

true_false : (b : Bool) (P : Type 0) → b ≡ true → b ≡ false → P
true_false true P t f = cc
true_false false P t f = cc

err_ok : (why : RoadError) (P : Type 0) → ◌≡◌ {A = Result (Unit {0}) RoadError} (Ok tt) (Err why) → P
err_ok why P e = cc

module _ {R I O : Type 0} (r : roads.Ghosts R I O) (i : link_in.Ghosts I) (o : link_out.Ghosts O) (brings : BringsShow R I O r i o) (idle : IdleFlushesAreNets) (sane_stay : NetsStaySane) (elsewhere : EndsElsewhereStay i o) (v : World) where
  brought : (net : Net) (conn : ℕ) (lower : Bool) (end : Conn I O) (road road' : R) → IsNetOf v net → IsSane net → RoadsShow r net road → IsEndOf i o v net conn lower end → BringsEnd r i o end road road' (Ok tt) → IsBrought r i o v net conn lower road'
  brought net conn lower end road road' is_net sane shows is b =
      let shown = brings end road road' (Ok tt) b net false [] (held_by (is_over v conn lower)) sane (record { road_shows = shows; end_is = is.is }) in
      record {
        made = flushed_net net conn lower false [];
        is_net = idle v net conn lower is_net;
        sane = (sane_stay net (record { conn = conn; lower = lower; shut = false; messages = [] } ∷ []) sane).flushed (is.within, tt);
        shows = subst (λ (l : Bool). RoadsShow r (flushed_net net conn l false []) road') is.side
            (subst (λ (k : ℕ). RoadsShow r (flushed_net net k end.lower false []) road') is.id shown);
        stays = λ c d e away h. (elsewhere v v net conn lower c d e away refl h).exchanged false false [];
      }

module _ {F R I O : Type 0} (r : roads.Ghosts R I O) (i : link_in.Ghosts I) (o : link_out.Ghosts O) (brings : BringsShow R I O r i o) (idle : IdleFlushesAreNets) (sane_stay : NetsStaySane) (elsewhere : EndsElsewhereStay i o) (v : World) where
  module _ (n : Nodes F I O) (node : NodeId) (k : ℕ) (x : Connection I O) (at : slice_get n.connections.items k ≡ Some x) (taken : ends_here x node ≡ true) where
    away_lower : (c : ℕ) (d : Bool) → is_gone n node (k + 1) c d ≡ false → IsElsewhere k true c d
    away_lower c true there e =
        true_false (is_ended n node (k + 1) c) _ (subst (λ m. is_ended n node (k + 1) m ≡ true) e (now_ended n node k x at taken)) there
    away_lower c false there e = refl

    away_upper : (m : ℕ) (y : Connection I O) → slice_get n.connections.items m ≡ Some y → y.upper ≡ upper.Member (record { 0 = k }) → (c : ℕ) (d : Bool) → is_gone n node (k + 1) c d ≡ false → IsElsewhere m false c d
    away_upper m y found by c true there e = refl
    away_upper m y found by c false there e =
        let gone : is_gone n node (k + 1) m false ≡ true = mirror_left n node (k + 1) k m y found by ∙ now_ended n node k x at taken in
        true_false (is_gone n node (k + 1) c false) _ (subst (λ q. is_gone n node (k + 1) q false ≡ true) e gone) there

    one_ended : (net : Net) (end : Conn I O) (road road' : R) → IsNetOf v net → IsSane net → RoadsShow r net road → IsEndOf i o v net k true end → BringsEnd r i o end road road' (Ok tt) → IsEndedAt r i o v n node k net road'
    one_ended net end road road' is_net sane shows is b =
        let q = brought r i o brings idle sane_stay elsewhere v net k true end road road' is_net sane shows is b in
        record { made = q.made; is_net = q.is_net; sane = q.sane; shows = q.shows; stays = λ c d e there h. q.stays c d e (away_lower c d there) h }

    mirror_ended : (net : Net) (mirror : Option (Conn I O)) (road road' : R) → IsEndedAt r i o v n node k net road → ((made : Net) → ((c : ℕ) (d : Bool) (e : Conn I O) → IsElsewhere k true c d → IsEndOf i o v net c d e → IsEndOf i o v made c d e) → MirrorIf i o v made k n mirror)
        → IsBrought r i o v net k true road → BringsMirror r i o mirror road road' (Ok tt) (Ok tt) → IsEndedAt r i o v n node k net road'
    mirror_ended net None road road' first stands q b = subst (λ y. IsEndedAt r i o v n node k net y) (sym b.0) first
    mirror_ended net (Some end) road road' first stands q b =
        let m = stands q.made q.stays in
        let p = brought r i o brings idle sane_stay elsewhere v q.made m.conn false end road road' q.is_net q.sane q.shows m.end_is b in
        record {
          made = p.made;
          is_net = p.is_net;
          sane = p.sane;
          shows = p.shows;
          stays = λ c d e there h. p.stays c d e (away_upper m.conn m.at m.found m.dialled c d there) (q.stays c d e (away_lower c d there) h);
        }

    mirror_stays : (net : Net) (mirror : Option (Conn I O)) → MirrorIf i o v net k n mirror → (made : Net) → ((c : ℕ) (d : Bool) (e : Conn I O) → IsElsewhere k true c d → IsEndOf i o v net c d e → IsEndOf i o v made c d e) → MirrorIf i o v made k n mirror
    mirror_stays net None stands made stays = tt
    mirror_stays net (Some end) stands made stays = record {
      conn = stands.conn;
      end_is = stays stands.conn false end (λ e. refl) stands.end_is;
      at = stands.at;
      found = stands.found;
      dialled = stands.dialled;
    }

    member_ended : (net : Net) (m : Member I O) (road road' : R) → IsNetOf v net → IsSane net → RoadsShow r net road → IsEndOf i o v net k true m.upstream → MirrorIf i o v net k n m.mirror → BringsBoth r i o m road road' (Ok tt) → IsEndedAt r i o v n node k net road'
    member_ended net m road road' is_net sane shows is mirror b = by b.first b.upper b.lower where
      by : (first : Result (Unit {0}) RoadError) → BringsEnd r i o m.upstream road b.middle first → BringsMirror r i o m.mirror b.middle road' first (Ok tt) → IsEndedAt r i o v n node k net road'
      by (Ok u) one two =
          let q = brought r i o brings idle sane_stay elsewhere v net k true m.upstream road b.middle is_net sane shows is one in
          mirror_ended net m.mirror b.middle road' (one_ended net m.upstream road b.middle is_net sane shows is one) (mirror_stays net m.mirror mirror) q two
      by (Err why) one two = err_ok why _ two.1

    lower_ended : (l : Lower I O) (net : Net) (road road' : R) → IsNetOf v net → IsSane net → RoadsShow r net road → LowerStands i o v net k n l → Ends r i o l road road' → IsEndedAt r i o v n node k net road'
    lower_ended (lower.Idle end) net road road' is_net sane shows stands ends = one_ended net end road road' is_net sane shows stands ends
    lower_ended (lower.Member m place) net road road' is_net sane shows stands ends = member_ended net m road road' is_net sane shows stands.0 stands.1 ends
    lower_ended l net road road' is_net sane shows stands ends = record {
      made = net;
      is_net = is_net;
      sane = sane;
      shows = subst (RoadsShow r net) (sym ends) shows;
      stays = λ c d e there h. h;
    }

  -- the ends of a lower end that isn't gone yet
  mirror_left_there : (n : Nodes F I O) (node : NodeId) (k : ℕ) (net made : Net) (mirror : Option (Conn I O)) → ((c : ℕ) (d : Bool) (e : Conn I O) → is_gone n node k c d ≡ false → IsEndOf i o v net c d e → IsEndOf i o v made c d e)
      → MirrorIf i o v net k n mirror → MirrorIf i o v made k n mirror
  mirror_left_there n node k net made None stays stands = tt
  mirror_left_there n node k net made (Some end) stays stands = record {
    conn = stands.conn;
    end_is = stays stands.conn false end (mirror_left n node k k stands.conn stands.at stands.found stands.dialled ∙ still_there n node k) stands.end_is;
    at = stands.at;
    found = stands.found;
    dialled = stands.dialled;
  }

  lower_left_there : (n : Nodes F I O) (node : NodeId) (k : ℕ) (net made : Net) (l : Lower I O) → ((c : ℕ) (d : Bool) (e : Conn I O) → is_gone n node k c d ≡ false → IsEndOf i o v net c d e → IsEndOf i o v made c d e)
      → LowerStands i o v net k n l → LowerStands i o v made k n l
  lower_left_there n node k net made (lower.Idle end) stays stands = stays k true end (still_there n node k) stands
  lower_left_there n node k net made (lower.Member m place) stays stands =
      (stays k true m.upstream (still_there n node k) stands.0, mirror_left_there n node k net made m.mirror stays stands.1)
  lower_left_there n node k net made l stays stands = tt

  pub roads_next : (n old new : Nodes F I O) (node : NodeId) (k : ℕ) (x : Connection I O) (net : Net) (road mid road' : R) → slice_get n.connections.items k ≡ Some x → EndsStand r i o v net n road → EndsLeft r i o v net n node k mid
      → (b : Bool) → ends_here x node ≡ b → EndsIf b r i o k x old new mid road' → EndsLeft r i o v net n node (k + 1) road'
  roads_next n old new node k x net road mid road' at stands left true taken does =
      let here = lower_left_there n node k net left.made x.lower left.stays (stands.lowers k x at) in
      let next = lower_ended n node k x at taken x.lower left.made mid road' left.is_net left.sane left.shows here does.ends in
      record {
        made = next.made;
        is_net = next.is_net;
        sane = next.sane;
        shows = next.shows;
        stays = λ c d e there h. next.stays c d e there (left.stays c d e (not_gone n node k c d there) h);
      }
  roads_next n old new node k x net road mid road' at stands left false taken does = record {
    made = left.made;
    is_net = left.is_net;
    sane = left.sane;
    shows = subst (RoadsShow r left.made) (sym does.roads) left.shows;
    stays = λ c d e there h. left.stays c d e (not_gone n node k c d there) h;
  }

-- ALL ENDS

-- a connection at a place, by whether that place is done
abbrev pub ended_if : {I O : Type 0} → Bool → NodeId → Connection I O → Connection I O
ended_if true node x = ended_at node x
ended_if false node x = x

-- So many connections are done.
pub record Ending {F R I O : Type 0} (r : roads.Ghosts R I O) (i : link_in.Ghosts I) (o : link_out.Ghosts O) (node : NodeId) (old : Nodes F I O) (first : R) (k : ℕ) (now : Nodes F I O) (road : R) : Type 0 where
  pub blocks : now.blocks.items ≡ old.blocks.items
  pub nodes : now.nodes.items ≡ old.nodes.items
  pub count : length now.connections.items ≡ length old.connections.items
  pub each : (c : ℕ) (x : Connection I O) → slice_get old.connections.items c ≡ Some x → slice_get now.connections.items c ≡ Some (ended_if (nat_lt c k) node x)
  pub known : AllKnown (r.plain road) now
  pub keeps : KeepsConnections (r.plain first) (r.plain road)
  pub later : r.faults first ≤ r.faults road
  pub roads : (v : World) (net : Net) → EndsStand r i o v net old first → EndsLeft r i o v net old node k road

known_lower : {I O : Type 0} (a b : Option Plain) (l : Lower I O) → KeepsConnections a b → LowerIsKnown a l → LowerIsKnown b l
known_lower a b (lower.Idle end) keeps k = known_kept a b end.id.0 keeps k
known_lower {I} {O} a b (lower.Member m place) keeps k = (known_kept a b m.upstream.id.0 keeps k.0, by m.mirror k.1) where
  by : (mirror : Option (Conn I O)) → IfSome mirror (λ end. IsKnown a end.id.0) → IfSome mirror (λ end. IsKnown b end.id.0)
  by None h = tt
  by (Some end) h = known_kept a b end.id.0 keeps h
known_lower a b l keeps k = tt

pub known_stay : {F I O : Type 0} (a b : Option Plain) (n : Nodes F I O) → KeepsConnections a b → AllKnown a n → AllKnown b n
known_stay a b n keeps known c x at = known_lower a b x.lower keeps (known c x at)

module _ {F R I O : Type 0} (r : roads.Ghosts R I O) (i : link_in.Ghosts I) (o : link_out.Ghosts O) (node : NodeId) where
  pub ending_none : (old : Nodes F I O) (road : R) → AllKnown (r.plain road) old → Ending r i o node old road 0 old road
  ending_none old road known = record {
    blocks = refl;
    nodes = refl;
    count = refl;
    each = λ c x at.
        let past : nat_lt c 0 ≡ false = grind (arith, nat_tests) in
        at ∙ ap (λ b. Some (ended_if b node x)) (sym past);
    known = known;
    keeps = keeps_same (r.plain road);
    later = omega arith;
    roads = λ v net stands. record {
      made = net;
      is_net = stands.is_net;
      sane = stands.sane;
      shows = stands.shows;
      stays = λ c d e there h. h;
    };
  }

  each_next : (old now next : Nodes F I O) (k : ℕ) (y : Connection I O) (road road' : R) → slice_get old.connections.items k ≡ Some y → ((c : ℕ) (x : Connection I O) → slice_get old.connections.items c ≡ Some x → slice_get now.connections.items c ≡ Some (ended_if (nat_lt c k) node x))
      → (b : Bool) → ends_here y node ≡ b → EndsIf b r i o k y now next road road' → (c : ℕ) (x : Connection I O) → slice_get old.connections.items c ≡ Some x → slice_get next.connections.items c ≡ Some (ended_if (nat_lt c (k + 1)) node x)
  each_next old now next k y road road' at each b taken does c x found = by (c == k) refl where
    done : c ≡ k → nat_lt c (k + 1) ≡ true
    done e = grind (arith, nat_tests, e)

    other : (c == k) ≡ false → c ≡ k → ⊥
    other e same = grind (arith, nat_tests, e, same)

    same_if : (c == k) ≡ false → nat_lt c k ≡ nat_lt c (k + 1)
    same_if e = grind (arith, nat_tests, e)

    same_x : c ≡ k → y ≡ x
    same_x e = same_some y x (sym at ∙ (ap (slice_get old.connections.items) (sym e) ∙ found))

    within : k < length now.connections.items
    within =
        in_some now.connections.items k _ (each k y at)

    here : c ≡ k → (t : Bool) → ends_here y node ≡ t → EndsIf t r i o k y now next road road' → slice_get next.connections.items c ≡ Some (ended_at node x)
    here e true t d =
        ap (slice_get next.connections.items) e ∙ (ap (λ l. slice_get l k) d.set ∙ (set_here now.connections.items k (with_lower y lower.Ended) within
        ∙ (sym (ap (λ q. Some (if q then with_lower y lower.Ended else y)) t) ∙ ap (λ z. Some (ended_at node z)) (same_x e))))
    here e false t d =
        let past : nat_lt k k ≡ false = grind (arith, nat_tests) in
        ap (slice_get next.connections.items) e ∙ (ap (λ (m : Nodes F I O). slice_get m.connections.items k) d.same ∙ (each k y at ∙ (ap (λ q. Some (ended_if q node y)) past
        ∙ (sym (ap (λ q. Some (if q then with_lower y lower.Ended else y)) t) ∙ ap (λ z. Some (ended_at node z)) (same_x e)))))

    there : (c ≡ k → ⊥) → (t : Bool) → EndsIf t r i o k y now next road road' → slice_get next.connections.items c ≡ slice_get now.connections.items c
    there apart true d = ap (λ l. slice_get l c) d.set ∙ set_there now.connections.items k (with_lower y lower.Ended) c apart
    there apart false d = ap (λ (m : Nodes F I O). slice_get m.connections.items c) d.same

    by : (t : Bool) → (c == k) ≡ t → slice_get next.connections.items c ≡ Some (ended_if (nat_lt c (k + 1)) node x)
    by true e =
        let same : c ≡ k = eqb-true c k e in
        here same b taken does ∙ ap (λ q. Some (ended_if q node x)) (sym (done same))
    by false e = there (other e) b does ∙ (each c x found ∙ ap (λ q. Some (ended_if q node x)) (same_if e))

  known_next : (now next : Nodes F I O) (k : ℕ) (y : Connection I O) (road road' : R) → k < length now.connections.items → KeepsConnections (r.plain road) (r.plain road') → AllKnown (r.plain road) now → (b : Bool) → EndsIf b r i o k y now next road road' → AllKnown (r.plain road') next
  known_next now next k y road road' within keeps known true does c x at = by (c == k) refl where
    other : (c == k) ≡ false → c ≡ k → ⊥
    other e same = grind (arith, nat_tests, e, same)

    by : (t : Bool) → (c == k) ≡ t → LowerIsKnown (r.plain road') x.lower
    by true e =
        let same : c ≡ k = eqb-true c k e in
        let is : with_lower y lower.Ended ≡ x = same_some (with_lower y lower.Ended) x (sym (set_here now.connections.items k (with_lower y lower.Ended) within) ∙ (ap (λ l. slice_get l k) (sym does.set) ∙ (ap (slice_get next.connections.items) (sym same) ∙ at))) in
        subst (λ (z : Connection I O). LowerIsKnown (r.plain road') z.lower) is tt
    by false e =
        known_lower (r.plain road) (r.plain road') x.lower keeps (known c x (sym (set_there now.connections.items k (with_lower y lower.Ended) c (other e)) ∙ (ap (λ l. slice_get l c) (sym does.set) ∙ at)))
  known_next now next k y road road' within keeps known false does c x at =
      known_lower (r.plain road) (r.plain road') x.lower keeps (known c x (ap (λ (m : Nodes F I O). slice_get m.connections.items c) (sym does.same) ∙ at))

  count_next : (now next : Nodes F I O) (k : ℕ) (y : Connection I O) (road road' : R) (b : Bool) → EndsIf b r i o k y now next road road' → length next.connections.items ≡ length now.connections.items
  count_next now next k y road road' true does = ap (λ l. length l) does.set ∙ set_length now.connections.items k (with_lower y lower.Ended)
  count_next now next k y road road' false does = ap (λ (m : Nodes F I O). length m.connections.items) does.same

  blocks_next : (now next : Nodes F I O) (k : ℕ) (y : Connection I O) (road road' : R) (b : Bool) → EndsIf b r i o k y now next road road' → (next.blocks.items ≡ now.blocks.items) × (next.nodes.items ≡ now.nodes.items)
  blocks_next now next k y road road' true does = (does.blocks, does.nodes)
  blocks_next now next k y road road' false does = (ap (λ (m : Nodes F I O). m.blocks.items) does.same, ap (λ (m : Nodes F I O). m.nodes.items) does.same)

  pub ending_next : BringsShow R I O r i o → IdleFlushesAreNets → NetsStaySane → EndsElsewhereStay i o → (old now next : Nodes F I O) (first road road' : R) (k : ℕ) → k < length old.connections.items → EndsAt r i o node k now next road road' → KeepsConnections (r.plain road) (r.plain road') → r.faults road ≤ r.faults road'
      → Ending r i o node old first k now road → Ending r i o node old first (k + 1) next road'
  ending_next brings idle sane elsewhere old now next first road road' k within does keeps rises so =
      let old_at = some_in old.connections.items k within in
      let y = old_at.0 in
      let past : nat_lt k k ≡ false = grind (arith, nat_tests) in
      let now_at : slice_get now.connections.items k ≡ Some y = so.each k y old_at.1 ∙ ap (λ q. Some (ended_if q node y)) past in
      let done = does y now_at in
      let same = blocks_next now next k y road road' (ends_here y node) done in record {
        blocks = same.0 ∙ so.blocks;
        nodes = same.1 ∙ so.nodes;
        count = count_next now next k y road road' (ends_here y node) done ∙ so.count;
        each = each_next old now next k y road road' old_at.1 so.each (ends_here y node) refl done;
        known = known_next now next k y road road' (omega (arith, within, so.count)) keeps so.known (ends_here y node) done;
        keeps = keeps_keep (r.plain first) (r.plain road) (r.plain road') so.keeps keeps;
        later = omega (arith, so.later, rises);
        roads = λ v net stands. roads_next r i o brings idle sane elsewhere v old now next node k y net first road road' old_at.1 stands (so.roads v net stands) (ends_here y node) refl done;
      }

  pub ending_all : (old now : Nodes F I O) (first road : R) (k : ℕ) → length old.connections.items ≤ k → Ending r i o node old first k now road → AllEnd r i o node old now first road
  ending_all old now first road k all so = record {
    blocks = so.blocks;
    nodes = so.nodes;
    connections = same_lists now.connections.items (map (ended_at node) old.connections.items) (so.count ∙ sym (map_length (ended_at node) old.connections.items)) same;
    count = k;
    all = λ c x at. below c x at;
    roads = so.roads;
  }
    where
      below : (c : ℕ) (x : Connection I O) → slice_get old.connections.items c ≡ Some x → nat_lt c k ≡ true
      below c x at =
          let within = in_some old.connections.items c x at in
          grind (arith, nat_tests, within, all)

      same : (c : ℕ) → slice_get now.connections.items c ≡ slice_get (map (ended_at node) old.connections.items) c
      same c = by (nat_lt c (length old.connections.items)) refl where
        by : (b : Bool) → nat_lt c (length old.connections.items) ≡ b → slice_get now.connections.items c ≡ slice_get (map (ended_at node) old.connections.items) c
        by true e =
            let within : c < length old.connections.items = grind (arith, nat_tests, e) in
            let at = some_in old.connections.items c within in
            so.each c at.0 at.1 ∙ (ap (λ q. Some (ended_if q node at.0)) (below c at.0 at.1) ∙ sym (map_at (ended_at node) old.connections.items c at.0 at.1))
        by false e =
            let past : length old.connections.items ≤ c = grind (arith, nat_tests, e) in
            none_past now.connections.items c (omega (arith, past, so.count))
            ∙ sym (none_past (map (ended_at node) old.connections.items) c (omega (arith, past, map_length (ended_at node) old.connections.items)))

-- ONE PLACE

pub index_get : {X : Type 0} (xs : List X) (k : ℕ) (x : X) → k < length xs → x ≡ slice_index_or xs k x → slice_get xs k ≡ Some x
index_get [] k x h e = absurd (omega (arith, h))
index_get (y ∷ xs) zero x h e = ap Some (sym e)
index_get (y ∷ xs) (suc k) x h e = index_get xs k x (omega (arith, h)) e

-- what is there where a call succeeded, by what it says then
pub ok_then : {T E : Type 0} (P Q : Type 0) (result : Result T E) → (P → Q) → OnOk result P → OnOk result Q
ok_then P Q (Ok x) f p = f p
ok_then P Q (Err e) f p = tt

pub end_here : {F R I O : Type 0} (r : roads.Ghosts R I O) (i : link_in.Ghosts I) (o : link_out.Ghosts O) (node : NodeId) (k : ℕ) (old new : Nodes F I O) (x : Connection I O) (l dest : Lower I O) (road road' : R) → slice_get old.connections.items k ≡ Some x → ends_here x node ≡ true → l ≡ x.lower → dest ≡ lower.Ended
    → new.blocks.items ≡ old.blocks.items → new.nodes.items ≡ old.nodes.items → new.connections.items ≡ slice_set old.connections.items k (with_lower x dest) → Ends r i o l road road' → EndsAt r i o node k old new road road'
end_here {F} {R} {I} {O} r i o node k old new x l dest road road' at here same done blocks nodes set ends y found = by (ends_here y node) (taken y found) where
  taken : (y : Connection I O) → slice_get old.connections.items k ≡ Some y → ends_here y node ≡ true
  taken y found = ap (λ (z : Connection I O). ends_here z node) (sym (same_some x y (sym at ∙ found))) ∙ here

  by : (b : Bool) → b ≡ true → EndsIf b r i o k y old new road road'
  by true e =
      let is : x ≡ y = same_some x y (sym at ∙ found) in record {
        blocks = blocks;
        nodes = nodes;
        set = set ∙ (λ j. slice_set old.connections.items k (with_lower (is j) (done j)));
        ends = subst (λ (m : Lower I O). Ends r i o m road road') (same ∙ ap (λ (z : Connection I O). z.lower) is) ends;
      }
  by false e = cc
