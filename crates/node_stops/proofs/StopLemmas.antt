-- A node of a play stops.
use Rattle.std.proofs.Common.{◌≡◌, ℕ, zero, suc, ◌+◌, ◌<◌, Bool, true, false, List, [], ◌∷◌, length, map, Option, Some, None, Result, Ok, Err, IfSome, refl, sym, ap, subst, ◌∙◌, arith}
use Rattle.std.specs.Prelude.{◌==◌, ◌&&◌, nat_lt, slice_get, option_map, IsSome, OnOk, if◌then◌else◌}
use Rattle.std.proofs.lemmas.Bool.Decides.{nat_tests}
use Rattle.std.proofs.lemmas.List.{length-map}
use Rattle.std.specs.declared.alloc.AllocError.{AllocError}
use Rattle.hd_base.specs.Channels.{with_listening}
use Rattle.hd_base.specs.declared.ends.Conn.{Conn}
use Rattle.hd_base.specs.declared.links.LinkIn as link_in
use Rattle.hd_base.specs.declared.links.LinkOut as link_out
use Rattle.hd_base.specs.declared.numbers.ConnId.{ConnId}
use Rattle.hd_base.specs.declared.numbers.NodeId.{NodeId}
use Rattle.hd_base.specs.declared.roads.Roads as roads
use Rattle.hd_base.specs.declared.roads.TheConstants.{FIRST_PORT}
use Rattle.play_nodes.specs.PipeMember.Member.{Member}
use Rattle.road_traffic.specs.Showing.{Net}
use Rattle.road_traffic.proofs.ShowingLemmas.{roads-listened}
use Rattle.world_stops.specs.World.Event.TheVariants as event
use Rattle.world_stops.specs.World.Events.{stop, happens}
use Rattle.world_stops.specs.World.Parts as parts
use Rattle.world_stops.specs.World.Parts.{FullMember, by_writer, by_member, by_reader, by_primary, idle, writes, serves, recovers, ended_below}
use Rattle.world_stops.specs.World.Worlds.{World}
use Rattle.world_stops.proofs.WorldLaws.FactTables.{and-left, and-right}
use Rattle.world_stops.specs.WorldCuts.Cutting.{cut_world, RoadsCut, CutsAreLosses, EndsStayInCuts}
use Rattle.world_stops.proofs.WorldCuts.CutLemmas.{over_cut}
use Rattle.world_stops.specs.WorldNets.Nets.{IsNetOf, IsEndOf, is_over}
use Rattle.play_nodes.specs.WorldOrders.Orders.{IsMirror, MirrorIs}
use Rattle.world_stops.specs.Stopping.{all_cut, is_among, unlistened, StopsNet, StopsAreCuts}
use Rattle.world_stops.proofs.StopLemmas.{stop_is}
use Rattle.play_nodes.specs.MemberEvents.Showing.{MirrorShows, NoneReceived}
use Rattle.play_nodes.specs.declared.connections.Connection.{Connection}
use Rattle.play_nodes.specs.declared.connections.Lower.{Lower}
use Rattle.play_nodes.specs.declared.connections.Lower.TheVariants as lower
use Rattle.play_nodes.specs.declared.connections.Upper.{Upper}
use Rattle.play_nodes.specs.declared.connections.Upper.TheVariants as upper
use Rattle.play_nodes.specs.declared.nodes.Nodes.{Nodes}
use Rattle.play_nodes.specs.Places.{book_at, with_lower}
use Rattle.play_nodes.specs.Showing.{UpperShows, is_pipeline, has_events, stands_here, LowerShows, ConnectionShows, NodesShow, NodesStand, NodesLeft}
use Rattle.play_nodes.proofs.NodeFrames.{away_shows}
use Rattle.play_nodes.specs.PlayModel.Dues.{is_open}
use Rattle.node_stops.specs.Connections.{is_at}
use Rattle.node_stops.specs.Cutting.{all_cut_net, AllCutShows}
use Rattle.node_stops.specs.Ending.{ends_here, is_ended_at, is_ended, is_left_by, is_left, is_gone, EndsStand, EndsLeft, ended_at, AllEnd}
use Rattle.node_stops.specs.Stopping.{CanStop, StopEnds}
use Rattle.node_stops.proofs.ConnectionLemmas.{of_node}
use Rattle.node_stops.proofs.CutLemmas.{or_here, or_there, nets_cut, ends_cut}
use Rattle.node_stops.proofs.EndLemmas.{same_some}
use Rattle.node_stops.proofs.StandLemmas.{no_both, at_below, lower_moves, lower_stands, mirror_at}

-- LISTS

get_map : {X Y : Type 0} (f : X → Y) (xs : List X) (c : ℕ) (y : Y) → slice_get (map f xs) c ≡ Some y → (x : X) × ((slice_get xs c ≡ Some x) × (f x ≡ y))
get_map f [] c y e = cc
get_map f (x ∷ xs) zero y e = (x, (refl, same_some (f x) y e))
get_map f (x ∷ xs) (suc c) y e = get_map f xs c y e

-- CUTS

-- No end was taken, or given up, in cuts.
all_over : CutsAreLosses → (w : World) (net : Net) (conns : List ConnId) → ((c : ℕ) → is_among conns c ≡ true → c < w.next_conn) → (d : ℕ) (l : Bool) → is_over (all_cut w conns) d l ≡ is_over w d l
all_over cuts w net [] below d l = refl
all_over cuts w net (x ∷ conns) below d l =
    let first : x.0 < w.next_conn = below x.0 (or_here (x.0 == x.0) (is_among conns x.0) (grind (arith, nat_tests))) in
    let cut = (cuts w net x 0 0 first).is in
    let next : (cut_world w x 0 0).next_conn ≡ w.next_conn = ap (λ (v : World). v.next_conn) cut.is in
    all_over cuts (cut_world w x 0 0) net conns (λ c among. omega (arith, next, below c (or_there (x.0 == c) (is_among conns c) among))) d l
    ∙ over_cut w (cut_world w x 0 0) x.0 0 0 d l cut

module _ {F R I O : Type 0} (r : roads.Ghosts R I O) (i : link_in.Ghosts I) (o : link_out.Ghosts O) (node : NodeId) (losses : CutsAreLosses) (ends_stay : EndsStayInCuts i o) (stops : StopsAreCuts i o)
    (w : World) (net : Net) (n new : Nodes F I O) (road mid hung road' : R) (conns : List ConnId) (stands : NodesStand r i o w net road n) (can : CanStop w node) (listed : (c : ℕ) → is_among conns c ≡ is_at n.connections.items node c)
    (shown : AllCutShows r conns road mid) (plain : r.plain hung ≡ option_map (λ p. with_listening p (FIRST_PORT + node.0) false) (r.plain mid)) (carried : r.carried hung ≡ r.carried mid) (ended : AllEnd r i o node n new hung road') where
  abbrev all : List (Connection I O)
  all = n.connections.items

  abbrev v : World
  v = record (stop w node.0) { last = Some (event.Stop node) }

  abbrev cut : World
  cut = all_cut w conns

  abbrev cut_made : Net
  cut_made = all_cut_net net conns

  below : (c : ℕ) → is_among conns c ≡ true → c < w.next_conn
  below c among = at_below r i o node w net road n stands c (sym (listed c) ∙ among)

  cut_is : IsNetOf cut cut_made
  cut_is = nets_cut losses w net conns below stands.roads_are.is_net

  cut_shown : RoadsCut r cut_made mid
  cut_shown = shown net stands.roads_are.sane stands.roads_are.shows (λ c among. omega (arith, below c among, stands.roads_are.is_net.conns))

  stopped : StopsNet i o cut v cut_made node.0
  stopped =
      subst (λ (x : World). StopsNet i o cut x cut_made node.0) (stop_is w node can.runs)
      (stops w cut_made node conns can.runs (of_node i o w net n node stands.nodes_are can.placed can.from conns listed) cut_shown.sane cut_is)

  abbrev quiet : Net
  quiet = unlistened cut_made node.0

  moves : (c : ℕ) (d : Bool) (e : Conn I O) → IsEndOf i o w net c d e → IsEndOf i o v quiet c d e
  moves c d e h = stopped.ends c d e (ends_cut losses i o ends_stay w net conns below c d e h)

  before : EndsStand r i o v quiet n hung
  before = record {
    is_net = stopped.net_is;
    sane = record { fits = cut_shown.sane.fits; fresh = cut_shown.sane.fresh };
    shows = roads-listened r i o cut_made mid hung (FIRST_PORT + node.0) false cut_shown.shows plain carried;
    lowers = λ c x at. lower_moves i o w v net quiet n c x.lower moves (lower_stands r i o node w net road n stands can.ordered c x at);
  }

  left : EndsLeft r i o v quiet n node ended.count road'
  left = ended.roads v quiet before

  stays : (c : ℕ) (d : Bool) (e : Conn I O) → is_gone n node ended.count c d ≡ false → IsEndOf i o w net c d e → IsEndOf i o v left.made c d e
  stays c d e gone h = left.stays c d e gone (moves c d e h)

  over_same : (c : ℕ) (d : Bool) → is_over v c d ≡ is_over w c d
  over_same c d = stopped.over c d ∙ all_over losses w net conns below c d

  -- WHICH HAVE EVENTS

  none_so : (a b : Bool) → ((a && false) && b) ≡ false
  none_so true b = refl
  none_so false b = refl

  ended_here : (c : ℕ) → ((w.dialled c).to.node == node.0) ≡ true → has_events v c ≡ false
  ended_here c here =
      (λ j. (nat_lt c w.next_conn && ((if here j then false else w.running (w.dialled c).to.node) && (w.lives (w.dialled c).to.node == (w.dialled c).to.life))) && is_open (w.lowers c))
      ∙ none_so (nat_lt c w.next_conn) (is_open (w.lowers c))

  same_there : (c : ℕ) → ((w.dialled c).to.node == node.0) ≡ false → has_events v c ≡ has_events w c
  same_there c there =
      λ j. (nat_lt c w.next_conn && ((if there j then false else w.running (w.dialled c).to.node) && (w.lives (w.dialled c).to.node == (w.dialled c).to.life))) && is_open (w.lowers c)

  -- LOWER ENDS

  ended_shows : (c : ℕ) (l : parts.Lower) → has_events v c ≡ false → LowerShows i o v left.made c new l lower.Ended
  ended_shows c idle h = h
  ended_shows c (writes full) h = h
  ended_shows c (serves b s) h = h
  ended_shows c recovers h = h
  ended_shows c ended_below h = h

  mirror_left : (c : ℕ) (full : FullMember) (conn : Option ℕ) (mirror : Option (Conn I O)) → is_ended n node ended.count c ≡ false → IfSome conn (λ d. IsMirror (w.dialled d) (w.up_marks d).taken c d full.state) → MirrorShows i o w net conn mirror
      → MirrorShows i o v left.made conn mirror
  unfolding mirror_at
  mirror_left c full None None there is h = tt
  mirror_left c full (Some d) (Some end) there is h =
      let at = mirror_at r i o node w net road n stands c d end is.upper h in
      stays d false end (ap (is_left n node ended.count) at.found ∙ (ap (is_left_by n node ended.count) at.dialled ∙ there)) h
  mirror_left c full None (Some end) there is h = absurd h
  mirror_left c full (Some d) None there is h = absurd h

  none_left : (conn : Option ℕ) (m : Member I O) → NoneReceived w conn m.below.received → NoneReceived v conn m.below.received
  none_left None m h = tt
  none_left (Some d) m h = λ taking. h (sym (over_same d false) ∙ taking)

  lower_left : (c : ℕ) (l : parts.Lower) (x : Lower I O) → l ≡ w.lowers c → is_ended n node ended.count c ≡ false → ((w.dialled c).to.node == node.0) ≡ false → LowerShows i o w net c n l x → LowerShows i o v left.made c new l x
  lower_left c idle (lower.Idle end) is here there h = (same_there c there ∙ h.0, stays c true end here h.1)
  lower_left c (writes full) (lower.Member m place) is here there h = (
    same_there c there ∙ h.0,
    record {
      shows = record {
        node = h.1.shows.node;
        op = h.1.shows.op;
        stage_is = h.1.shows.stage_is;
        holds = h.1.shows.holds;
        upstream = stays c true m.upstream here h.1.shows.upstream;
        mirror = mirror_left c full full.mirror m.mirror here (mirrors full is) h.1.shows.mirror;
        above = h.1.shows.above;
        below_next = h.1.shows.below_next;
        below = none_left full.mirror m h.1.shows.below;
      };
      block = h.1.block;
      at_place = ap (λ l. slice_get l place) ended.blocks ∙ h.1.at_place;
      of_block = h.1.of_block;
    },
  )
    where
      mirrors : (full : FullMember) → writes full ≡ w.lowers c → IfSome full.mirror (λ d. IsMirror (w.dialled d) (w.up_marks d).taken c d full.state)
      mirrors full is = subst (λ l. MirrorIs w.dialled w.up_marks c l) (sym is) (can.ordered.mirrors c)
  lower_left c idle lower.Ended is here there h = same_there c there ∙ h
  lower_left c (writes full) lower.Ended is here there h = same_there c there ∙ h
  lower_left c (serves b s) lower.Ended is here there h = same_there c there ∙ h
  lower_left c recovers lower.Ended is here there h = same_there c there ∙ h
  lower_left c ended_below lower.Ended is here there h = same_there c there ∙ h
  lower_left c idle lower.Elsewhere is here there h = tt
  lower_left c (writes full) lower.Elsewhere is here there h = tt
  lower_left c (serves b s) lower.Elsewhere is here there h = tt
  lower_left c recovers lower.Elsewhere is here there h = tt
  lower_left c ended_below lower.Elsewhere is here there h = tt
  lower_left c (writes full) (lower.Idle end) is here there h = absurd h
  lower_left c (serves b s) (lower.Idle end) is here there h = absurd h
  lower_left c recovers (lower.Idle end) is here there h = absurd h
  lower_left c ended_below (lower.Idle end) is here there h = absurd h
  lower_left c idle (lower.Member m place) is here there h = absurd h
  lower_left c (serves b s) (lower.Member m place) is here there h = absurd h
  lower_left c recovers (lower.Member m place) is here there h = absurd h
  lower_left c ended_below (lower.Member m place) is here there h = absurd h

  -- CONNECTIONS

  none_ended : (a : Bool) → (a && false) ≡ false
  none_ended true = refl
  none_ended false = refl

  not_both : (a b : Bool) → b ≡ true → (a && b) ≡ false → a ≡ false
  not_both true b h e = absurd (no_both b h e)
  not_both false b h e = refl

  one_left : (c : ℕ) (x : Connection I O) → slice_get all c ≡ Some x → ConnectionShows i o v left.made c new (ended_at node x)
  one_left c x at = by (ends_here x node) refl where
    shows : ConnectionShows i o w net c n x
    shows = stands.nodes_are.each c x at

    lower_by : (t : Bool) → stands_here x.lower ≡ t → ends_here x node ≡ false → LowerShows i o v left.made c new (w.lowers c) x.lower
    lower_by false h e = away_shows i o v left.made c new (w.lowers c) x.lower h
    lower_by true h e =
        let other : (node.0 == x.node.0) ≡ false = not_both (node.0 == x.node.0) (stands_here x.lower) h e in
        let there : ((w.dialled c).to.node == node.0) ≡ false = grind (arith, nat_tests, other, shows.node) in
        let stays_here : is_ended n node ended.count c ≡ false = ap (λ s. nat_lt c ended.count && is_ended_at s node) at ∙ (ap (λ b. nat_lt c ended.count && b) e ∙ none_ended (nat_lt c ended.count)) in
        lower_left c (w.lowers c) x.lower refl stays_here there shows.lower_is

    by : (b : Bool) → ends_here x node ≡ b → ConnectionShows i o v left.made c new (if b then with_lower x lower.Ended else x)
    by true e =
        let at_node : (node.0 == x.node.0) ≡ true = and-left (node.0 == x.node.0) (stands_here x.lower) e in
        let here : ((w.dialled c).to.node == node.0) ≡ true = grind (arith, nat_tests, at_node, shows.node) in
        record {
          upper_is = shows.upper_is;
          origin = shows.origin;
          node = shows.node;
          mirror = shows.mirror;
          here = sym (and-right (node.0 == x.node.0) (stands_here x.lower) e) ∙ shows.here;
          lower_is = ended_shows c (w.lowers c) (ended_here c here);
        }
    by false e = record {
      upper_is = shows.upper_is;
      origin = shows.origin;
      node = shows.node;
      mirror = shows.mirror;
      here = shows.here;
      lower_is = lower_by (stands_here x.lower) refl e;
    }

  each_left : (c : ℕ) (x : Connection I O) → slice_get new.connections.items c ≡ Some x → ConnectionShows i o v left.made c new x
  each_left c x at =
      let of = get_map (ended_at node) all c x (sym (ap (λ l. slice_get l c) ended.connections) ∙ at) in
      subst (ConnectionShows i o v left.made c new) of.1.1 (one_left c of.0 of.1.0)

  nodes_left : NodesShow i o v left.made new
  nodes_left = record {
    count = ap length ended.connections ∙ (length-map all (ended_at node) ∙ stands.nodes_are.count);
    distinct = λ j k a b at_j at_k. stands.nodes_are.distinct j k a b (sym (ap (λ l. slice_get l j) ended.blocks) ∙ at_j) (sym (ap (λ l. slice_get l k) ended.blocks) ∙ at_k);
    each = each_left;
    books = λ m place block book at_block at_book. stands.nodes_are.books m place block book (sym (ap (λ l. slice_get l place) ended.blocks) ∙ at_block) (sym (ap (λ l. book_at l m place) ended.nodes) ∙ at_book);
    has_books = λ m place block within at_block. subst (λ l. IsSome (book_at l m place)) (sym ended.nodes) (stands.nodes_are.has_books m place block within (sym (ap (λ l. slice_get l place) ended.blocks) ∙ at_block));
  }

  -- WRITERS

  writer_stays : (b : ℕ) (u : parts.Upper) (x : Upper) → u ≡ by_writer b → UpperShows u x → is_left_by n node ended.count x ≡ false
  writer_stays b (by_writer k) (upper.Writer block) is same = refl
  writer_stays b (by_writer k) x is same = absurd same
  writer_stays b (by_member d) x is same = absurd (other d b is) where
    other : (d b : ℕ) → by_member d ≡ by_writer b → ⊥
    other d b e = cc
  writer_stays b (by_reader k) x is same = absurd (other k b is) where
    other : (k b : ℕ) → by_reader k ≡ by_writer b → ⊥
    other k b e = cc
  writer_stays b (by_primary k place) x is same = absurd (other k place b is) where
    other : (k place b : ℕ) → by_primary k place ≡ by_writer b → ⊥
    other k place b e = cc

  writer_left : (b d : ℕ) → (w.dialled d).upper ≡ by_writer b → is_gone n node ended.count d false ≡ false
  writer_left b d is = by (slice_get all d) refl where
    by : (s : Option (Connection I O)) → slice_get all d ≡ s → is_left n node ended.count s ≡ false
    by None e = refl
    by (Some x) e = writer_stays b (w.dialled d).upper x.upper is (stands.nodes_are.each d x e).upper_is

  -- ENDS ELSEWHERE

  lower_away : (d : ℕ) (s : Option (Connection I O)) → slice_get all d ≡ s → is_pipeline (w.dialled d).upper ≡ false → is_ended_at s node ≡ false
  lower_away d None e away = refl
  lower_away d (Some x) e away = ap (λ b. (node.0 == x.node.0) && b) ((stands.nodes_are.each d x e).here ∙ away) ∙ none_ended (node.0 == x.node.0)

  upper_by : (u : parts.Upper) (x : Upper) → UpperShows u x → is_pipeline u ≡ false → is_left_by n node ended.count x ≡ false
  upper_by (by_writer b) x same away = cc
  upper_by (by_member d) x same away = cc
  upper_by u (upper.Reader reader) same away = refl
  upper_by u (upper.Primary primary place from) same away = refl
  upper_by u x same away = absurd same

  upper_away : (d : ℕ) (s : Option (Connection I O)) → slice_get all d ≡ s → is_pipeline (w.dialled d).upper ≡ false → is_left n node ended.count s ≡ false
  upper_away d None e away = refl
  upper_away d (Some x) e away = upper_by (w.dialled d).upper x.upper (stands.nodes_are.each d x e).upper_is away

  elsewhere_stays : (d : ℕ) (lower : Bool) → is_pipeline (w.dialled d).upper ≡ false → is_gone n node ended.count d lower ≡ false
  elsewhere_stays d true away = ap (λ b. nat_lt d ended.count && b) (lower_away d (slice_get all d) refl away) ∙ none_ended (nat_lt d ended.count)
  elsewhere_stays d false away = upper_away d (slice_get all d) refl away

  left_so : NodesLeft r i o w net v road' new
  left_so = record {
    made = left.made;
    stands = record { roads_are = record { is_net = left.is_net; sane = left.sane; shows = left.shows }; nodes_are = nodes_left };
    writers = λ b d e is h. stays d false e (writer_left b d is) h;
    elsewhere = λ d lower e away h. stays d lower e (elsewhere_stays d lower away) h;
    pipelines = λ all. all;
  }

  pub stop_left : NodesLeft r i o w net (happens w (event.Stop node)) road' new
  stop_left = subst (λ (x : World). NodesLeft r i o w net x road' new) (sym (stop_is w node can.runs)) left_so

-- Memory ran out where the ends were brought back, or they all were.
pub stop_ends : {F R I O : Type 0} (r : roads.Ghosts R I O) (i : link_in.Ghosts I) (o : link_out.Ghosts O) (node : NodeId) (w : World) (net : Net) (n new : Nodes F I O) (hung road' : R) (result : Result (Unit {0}) AllocError)
    → OnOk result (AllEnd r i o node n new hung road') → (AllEnd r i o node n new hung road' → NodesLeft r i o w net (happens w (event.Stop node)) road' new) → StopEnds r i o w net node new road' result
stop_ends r i o node w net n new hung road' (Ok u) ended so = so ended
stop_ends r i o node w net n new hung road' (Err e) ended so = tt
