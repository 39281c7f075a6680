-- A node of a play starts again.
use Rattle.std.proofs.Common.{◌≡◌, ℕ, zero, suc, ◌+◌, ◌≤◌, ◌<◌, Bool, true, false, List, [], ◌∷◌, length, map, Option, Some, None, refl, sym, ap, subst, ◌∙◌, arith, eqb-true}
use Rattle.std.specs.Prelude.{◌==◌, ◌&&◌, cond, not, nat_lt, slice_get, option_and_then, option_map, IsSome, if◌then◌else◌}
use Rattle.std.proofs.lemmas.Bool.Decides.{nat_tests}
use Rattle.hd_base.specs.declared.ends.Conn.{Conn}
use Rattle.hd_base.specs.declared.links.LinkIn as link_in
use Rattle.hd_base.specs.declared.links.LinkOut as link_out
use Rattle.hd_base.specs.declared.numbers.BlockId.{BlockId}
use Rattle.hd_base.specs.declared.numbers.NodeId.{NodeId}
use Rattle.hd_base.specs.declared.roads.Roads as roads
use Rattle.hd_base.specs.declared.roads.TheConstants.{FIRST_PORT}
use Rattle.node_restarts.specs.PipeMember.Member.{Member}
use Rattle.node_restarts.specs.ReplicaFiles.BookState.{BookState}
use Rattle.node_restarts.specs.ReplicaFiles.Books.{replica_of}
use Rattle.road_traffic.specs.Showing.{Net, RoadsShow, EndIs, listened_net}
use Rattle.world.specs.declared.events.Event.TheVariants as event
use Rattle.world.specs.declared.events.FoundReplica.{FoundReplica}
use Rattle.world.specs.Events.{happens, outcome, after_event, where_so}
use Rattle.world.specs.Parts as parts
use Rattle.world.specs.Parts.{FullMember, idle, writes, serves, recovers, ended_below}
use Rattle.world.specs.Restarts.{found_in, restart, restarted}
use Rattle.world.specs.Worlds.{World, put}
use Rattle.node_restarts.specs.WorldNets.Nets.{IsRow, IsNetOf, IsEndOf, held_by, is_over}
use Rattle.node_restarts.specs.WorldNets.Rows.{rows_of}
use Rattle.node_restarts.specs.MemberEvents.Showing.{MirrorShows, NoneReceived}
use Rattle.node_restarts.specs.PlayNodes.Connection.{Connection}
use Rattle.node_restarts.specs.PlayNodes.Lower.{Lower}
use Rattle.node_restarts.specs.PlayNodes.Lower.TheVariants as lower
use Rattle.node_restarts.specs.PlayNodes.NodeBooks.{NodeBooks}
use Rattle.node_restarts.specs.PlayNodes.Nodes.{Nodes}
use Rattle.node_restarts.specs.PlayNodes.Places.{book_at, KeepsSizes}
use Rattle.node_restarts.specs.PlayNodes.Showing.{has_events, LowerShows, ConnectionShows, NodesShow, NodesStand, NodesLeft}
use Rattle.node_restarts.specs.PlayModel.Dues.{is_open}
use Rattle.node_starts.specs.Books.{IsReplaced}
use Rattle.node_starts.specs.Starting.{CanStart}

-- LISTS

pub same_some : {X : Type 0} (x y : X) → ◌≡◌ {A = Option X} (Some x) (Some y) → x ≡ y
same_some x y e = cc

pub within : {X : Type 0} (xs : List X) (c : ℕ) (x : X) → slice_get xs c ≡ Some x → c < length xs
within [] c x e = cc
within (y ∷ xs) zero x e = omega arith
within (y ∷ xs) (suc c) x e = omega (arith, within xs c x e)

pub is_some_within : {X : Type 0} (xs : List X) (k : ℕ) → k < length xs → IsSome (slice_get xs k)
is_some_within [] k h = absurd (omega (arith, h))
is_some_within (x ∷ xs) zero h = refl
is_some_within (x ∷ xs) (suc k) h = is_some_within xs k (omega (arith, h))

-- THE NEW BOOKS

-- Each of these books, at the place of its block, is that of the replica that a restart of the node makes of what is found,
-- and there is one for each block.
pub record AreFound {F I O : Type 0} (w : World) (node : NodeId) (list : List FoundReplica) (n : Nodes F I O)
    (books : List (BookState F)) : Type 0 where
  pub each : (place : ℕ) (block : BlockId) (book : BookState F) → slice_get n.blocks.items place ≡ Some block →
      slice_get books place ≡ Some book →
      replica_of book ≡
      restarted block.0 (w.replicas node.0 block.0) (w.breaks node.0 block.0) (found_in list block.0)
  pub has_each : (place : ℕ) (block : BlockId) → slice_get n.blocks.items place ≡ Some block →
      IsSome (slice_get books place)

-- There are as many of these books as the node has.
abbrev pub HasAsMany : {F I O : Type 0} → NodeId → List (BookState F) → Nodes F I O → Type 0
HasAsMany {F} node books n = (x : NodeBooks F) → slice_get n.nodes.items node.0 ≡ Some x →
    length x.books.items ≡ length books

-- THE WORLD AFTER

-- the world in which the node has started
abbrev pub started : World → NodeId → List FoundReplica → World
started w node list = record w {
  lives = put w.lives node.0 (w.lives node.0 + 1);
  running = put w.running node.0 true;
  replicas = put w.replicas node.0 (λ b. restarted b (w.replicas node.0 b) (w.breaks node.0 b) (found_in list b));
  breaks = put w.breaks node.0 (λ b. None);
  last = Some (event.Restart node list);
  last_answer = None;
}

enabled : (below runs : Bool) → below ≡ true → runs ≡ false → (below && not runs) ≡ true
enabled true false b r = refl
enabled true true b r = cc
enabled false runs b r = cc

started_so : (w : World) (node : NodeId) (list : List FoundReplica) (so : Bool) → so ≡ true → after_event w (event.Restart node list) (where_so so (restart w node.0 list)) ≡ started w node list
unfolding restart
started_so w node list true is = refl
started_so w node list false is = cc

pub start_is : (w : World) (node : NodeId) (list : List FoundReplica) → node.0 < w.nodes → w.running node.0 ≡ false → happens w (event.Restart node list) ≡ started w node list
unfolding happens outcome
start_is w node list below runs =
    let within : nat_lt node.0 w.nodes ≡ true = grind (arith, nat_tests, below) in
    started_so w node list (nat_lt node.0 w.nodes && not (w.running node.0))
    (enabled (nat_lt node.0 w.nodes) (w.running node.0) within runs)

same_port : (m n : ℕ) → (FIRST_PORT + m == FIRST_PORT + n) ≡ (m == n)
same_port m n = by (m == n) refl where
  by : (b : Bool) → (m == n) ≡ b → (FIRST_PORT + m == FIRST_PORT + n) ≡ b
  by true e = grind (arith, nat_tests, e)
  by false e = grind (arith, nat_tests, e)

cond_if : (b : Bool) (x y : Bool) → cond b x y ≡ (if b then x else y)
cond_if true x y = refl
cond_if false x y = refl

module _ {F R I O : Type 0} (r : roads.Ghosts R I O) (i : link_in.Ghosts I) (o : link_out.Ghosts O) (node : NodeId) (books : List (BookState F)) (list : List FoundReplica) (w : World) (net : Net) (n new : Nodes F I O) (road road' : R)
    (stands : NodesStand r i o w net road n) (can : CanStart w node) (found : AreFound w node list n books) (listens : RoadsShow r (listened_net net (FIRST_PORT + node.0) true) road') (replaced : IsReplaced node books n new) where
  abbrev v : World
  v = started w node list

  abbrev made : Net
  made = listened_net net (FIRST_PORT + node.0) true

  -- ROADS AND ENDS

  rows_same : (c : ℕ) (d : Bool) → IsRow (rows_of v c d) (net.traffic c d)
  rows_same c true = stands.roads_are.is_net.rows_are c true
  rows_same c false = stands.roads_are.is_net.rows_are c false

  over_same : (c : ℕ) (d : Bool) → is_over v c d ≡ is_over w c d
  over_same c true = refl
  over_same c false = refl

  net_is : IsNetOf v made
  net_is = record {
    conns = stands.roads_are.is_net.conns;
    listens = λ m.
        (λ j. cond (same_port m node.0 j) true (stands.roads_are.is_net.listens m j))
        ∙ cond_if (m == node.0) true (w.running m);
    waiting = stands.roads_are.is_net.waiting;
    rows_are = rows_same;
    none_over = λ c d late. over_same c d ∙ stands.roads_are.is_net.none_over c d late;
  }

  stays : (c : ℕ) (d : Bool) (e : Conn I O) → IsEndOf i o w net c d e → IsEndOf i o v made c d e
  stays c d e h = record {
    id = h.id;
    side = h.side;
    within = h.within;
    is = subst (λ (b : Bool). EndIs i o net.traffic false [] (held_by b) e) (sym (over_same c d)) h.is;
    taking = h.taking;
  }

  -- WHICH HAVE EVENTS

  none_so : (a b : Bool) → ((a && false) && b) ≡ false
  none_so true b = refl
  none_so false b = refl

  -- Before, the node didn't run.
  none_before : (c : ℕ) → ((w.dialled c).to.node == node.0) ≡ true → has_events w c ≡ false
  none_before c here =
      let still : w.running (w.dialled c).to.node ≡ false = ap (λ (m : ℕ). w.running m) (eqb-true (w.dialled c).to.node node.0 here) ∙ can.stands_still in
      (λ j. (nat_lt c w.next_conn && (still j && (w.lives (w.dialled c).to.node == (w.dialled c).to.life))) && is_open (w.lowers c))
      ∙ none_so (nat_lt c w.next_conn) (is_open (w.lowers c))

  -- After, it runs in a life in which nothing was dialled.
  none_served : (c : ℕ) → c < w.next_conn → ((w.dialled c).to.node == node.0) ≡ true → has_events v c ≡ false
  none_served c below here =
      let at : (w.dialled c).to.node ≡ node.0 = eqb-true (w.dialled c).to.node node.0 here in
      let past : (w.dialled c).to.life ≤ w.lives node.0 = omega (arith, can.lived c below, ap (λ (m : ℕ). w.lives m) at) in
      let other : (w.lives node.0 + 1 == (w.dialled c).to.life) ≡ false = grind (arith, nat_tests, past) in
      (λ j. (nat_lt c w.next_conn && ((if here j then true else w.running (w.dialled c).to.node) && ((if here j then w.lives node.0 + 1 else w.lives (w.dialled c).to.node) == (w.dialled c).to.life))) && is_open (w.lowers c))
      ∙ ((λ j. (nat_lt c w.next_conn && other j) && is_open (w.lowers c)) ∙ none_so (nat_lt c w.next_conn) (is_open (w.lowers c)))

  same_there : (c : ℕ) → ((w.dialled c).to.node == node.0) ≡ false → has_events v c ≡ has_events w c
  same_there c there =
      λ j. (nat_lt c w.next_conn && ((if there j then true else w.running (w.dialled c).to.node) && ((if there j then w.lives node.0 + 1 else w.lives (w.dialled c).to.node) == (w.dialled c).to.life))) && is_open (w.lowers c)

  true_false : (b : Bool) {X : Type 0} → b ≡ true → b ≡ false → X
  true_false true t f = cc
  true_false false t f = cc

  has_still : (c : ℕ) → has_events w c ≡ true → has_events v c ≡ true
  has_still c has = by ((w.dialled c).to.node == node.0) refl where
    by : (b : Bool) → ((w.dialled c).to.node == node.0) ≡ b → has_events v c ≡ true
    by true e = true_false (has_events w c) has (none_before c e)
    by false e = same_there c e ∙ has

  none_still : (c : ℕ) → c < w.next_conn → has_events w c ≡ false → has_events v c ≡ false
  none_still c below none = by ((w.dialled c).to.node == node.0) refl where
    by : (b : Bool) → ((w.dialled c).to.node == node.0) ≡ b → has_events v c ≡ false
    by true e = none_served c below e
    by false e = same_there c e ∙ none

  -- LOWER ENDS

  mirror_stays : (conn : Option ℕ) (mirror : Option (Conn I O)) → MirrorShows i o w net conn mirror → MirrorShows i o v made conn mirror
  mirror_stays None None h = tt
  mirror_stays (Some d) (Some end) h = stays d false end h
  mirror_stays None (Some end) h = absurd h
  mirror_stays (Some d) None h = absurd h

  none_received : (conn : Option ℕ) (m : Member I O) → NoneReceived w conn m.below.received → NoneReceived v conn m.below.received
  none_received None m h = tt
  none_received (Some d) m h = λ taking. h (sym (over_same d false) ∙ taking)

  lower_stays : (c : ℕ) (l : parts.Lower) (x : Lower I O) → c < w.next_conn → LowerShows i o w net c n l x → LowerShows i o v made c new l x
  lower_stays c idle (lower.Idle end) below h = (has_still c h.0, stays c true end h.1)
  lower_stays c (writes full) (lower.Member m place) below h = (
    has_still c h.0,
    record {
      shows = record {
        node = h.1.shows.node;
        op = h.1.shows.op;
        stage_is = h.1.shows.stage_is;
        holds = h.1.shows.holds;
        upstream = stays c true m.upstream h.1.shows.upstream;
        mirror = mirror_stays full.mirror m.mirror h.1.shows.mirror;
        above = h.1.shows.above;
        below_next = h.1.shows.below_next;
        below = none_received full.mirror m h.1.shows.below;
      };
      block = h.1.block;
      at_place = ap (λ l. slice_get l place) replaced.others.blocks ∙ h.1.at_place;
      of_block = h.1.of_block;
    },
  )
  lower_stays c idle lower.Ended below h = none_still c below h
  lower_stays c (writes full) lower.Ended below h = none_still c below h
  lower_stays c (serves b s) lower.Ended below h = none_still c below h
  lower_stays c recovers lower.Ended below h = none_still c below h
  lower_stays c ended_below lower.Ended below h = none_still c below h
  lower_stays c idle lower.Elsewhere below h = tt
  lower_stays c (writes full) lower.Elsewhere below h = tt
  lower_stays c (serves b s) lower.Elsewhere below h = tt
  lower_stays c recovers lower.Elsewhere below h = tt
  lower_stays c ended_below lower.Elsewhere below h = tt
  lower_stays c (writes full) (lower.Idle end) below h = absurd h
  lower_stays c (serves b s) (lower.Idle end) below h = absurd h
  lower_stays c recovers (lower.Idle end) below h = absurd h
  lower_stays c ended_below (lower.Idle end) below h = absurd h
  lower_stays c idle (lower.Member m place) below h = absurd h
  lower_stays c (serves b s) (lower.Member m place) below h = absurd h
  lower_stays c recovers (lower.Member m place) below h = absurd h
  lower_stays c ended_below (lower.Member m place) below h = absurd h

  -- CONNECTIONS

  each_stays : (c : ℕ) (x : Connection I O) → slice_get new.connections.items c ≡ Some x → ConnectionShows i o v made c new x
  each_stays c x at =
      let before : slice_get n.connections.items c ≡ Some x = sym (ap (λ l. slice_get l c) replaced.others.connections) ∙ at in
      let shows = stands.nodes_are.each c x before in
      let below : c < w.next_conn = omega (arith, within n.connections.items c x before, stands.nodes_are.count) in
      record {
        upper_is = shows.upper_is;
        origin = shows.origin;
        node = shows.node;
        mirror = shows.mirror;
        here = shows.here;
        lower_is = lower_stays c (w.lowers c) x.lower below shows.lower_is;
      }

  -- BOOKS

  in_books : (o : Option (NodeBooks F)) (place : ℕ) → option_map (λ (x : NodeBooks F). x.books.items) o ≡ Some books → option_and_then (λ (x : NodeBooks F). slice_get x.books.items place) o ≡ slice_get books place
  in_books None place e = cc
  in_books (Some x) place e = ap (λ l. slice_get l place) (same_some x.books.items books e)

  book_here : (place : ℕ) → book_at new.nodes.items node.0 place ≡ slice_get books place
  book_here place = in_books (slice_get new.nodes.items node.0) place replaced.here

  book_there : (m place : ℕ) → (m == node.0) ≡ false → book_at new.nodes.items m place ≡ book_at n.nodes.items m place
  book_there m place e =
      let other : m ≡ node.0 → ⊥ = λ is. grind (arith, nat_tests, e, is) in
      ap (λ o. option_and_then (λ (x : NodeBooks F). slice_get x.books.items place) o) (replaced.others.there m other)

  books_show : (m place : ℕ) (block : BlockId) (book : BookState F) → slice_get new.blocks.items place ≡ Some block → book_at new.nodes.items m place ≡ Some book → replica_of book ≡ v.replicas m block.0
  books_show m place block book at_block at_book = by (m == node.0) refl where
    at : slice_get n.blocks.items place ≡ Some block
    at = sym (ap (λ l. slice_get l place) replaced.others.blocks) ∙ at_block

    by : (b : Bool) → (m == node.0) ≡ b → replica_of book ≡ (if b then (λ (k : ℕ). restarted k (w.replicas node.0 k) (w.breaks node.0 k) (found_in list k)) else w.replicas m) block.0
    by true e =
        let here = ap (λ k. book_at new.nodes.items k place) (eqb-true m node.0 e) ∙ book_here place in
        found.each place block book at (sym here ∙ at_book)
    by false e = stands.nodes_are.books m place block book at (sym (book_there m place e) ∙ at_book)

  books_each : (m place : ℕ) (block : BlockId) → m < w.nodes → slice_get new.blocks.items place ≡ Some block → IsSome (book_at new.nodes.items m place)
  books_each m place block below at_block = by (m == node.0) refl where
    at : slice_get n.blocks.items place ≡ Some block
    at = sym (ap (λ l. slice_get l place) replaced.others.blocks) ∙ at_block

    by : (b : Bool) → (m == node.0) ≡ b → IsSome (book_at new.nodes.items m place)
    by true e =
        let here = ap (λ k. book_at new.nodes.items k place) (eqb-true m node.0 e) ∙ book_here place in
        subst (λ x. IsSome x) (sym here) (found.has_each place block at)
    by false e = subst (λ x. IsSome x) (sym (book_there m place e)) (stands.nodes_are.has_books m place block below at)

  -- ALL

  nodes_show : NodesShow i o v made new
  nodes_show = record {
    count = ap length replaced.others.connections ∙ stands.nodes_are.count;
    distinct = λ j k a b at_j at_k. stands.nodes_are.distinct j k a b (sym (ap (λ l. slice_get l j) replaced.others.blocks) ∙ at_j) (sym (ap (λ l. slice_get l k) replaced.others.blocks) ∙ at_k);
    each = each_stays;
    books = books_show;
    has_books = books_each;
  }

  left_so : NodesLeft r i o w net v road' new
  left_so = record {
    made = made;
    stands = record {
      roads_are = record { is_net = net_is; sane = record { fits = stands.roads_are.sane.fits; fresh = stands.roads_are.sane.fresh }; shows = listens };
      nodes_are = nodes_show;
    };
    writers = λ b d e is h. stays d false e h;
    elsewhere = λ d lower e away h. stays d lower e h;
    pipelines = λ all. all;
  }

  pub start_left : NodesLeft r i o w net (happens w (event.Restart node list)) road' new
  start_left = subst (λ (x : World). NodesLeft r i o w net x road' new) (sym (start_is w node list can.is_node can.stands_still)) left_so

-- SIZES

counts_same : {X : Type 0} (f : X → ℕ) (xs ys : List X) → length xs ≡ length ys → ((k : ℕ) → option_map f (slice_get xs k) ≡ option_map f (slice_get ys k)) → map f xs ≡ map f ys
counts_same f [] [] len same = refl
counts_same f [] (y ∷ ys) len same = absurd (omega (arith, len))
counts_same f (x ∷ xs) [] len same = absurd (omega (arith, len))
counts_same f (x ∷ xs) (y ∷ ys) len same =
    λ j. same_some (f x) (f y) (same 0) j ∷ counts_same f xs ys (omega (arith, len)) (λ k. same (suc k)) j

module _ {F I O : Type 0} (node : NodeId) (books : List (BookState F)) (n new : Nodes F I O) (replaced : IsReplaced node books n new) (as_many : HasAsMany node books n) where
  abbrev count : NodeBooks F → ℕ
  count x = length x.books.items

  count_here : (a b : Option (NodeBooks F)) → option_map (λ (x : NodeBooks F). x.books.items) a ≡ Some books → ((x : NodeBooks F) → b ≡ Some x → length x.books.items ≡ length books) → IsSome b → option_map count a ≡ option_map count b
  count_here (Some x) (Some y) is many there = ap Some (ap length (same_some x.books.items books is) ∙ sym (many y refl))
  count_here None b is many there = cc
  count_here (Some x) None is many there = cc

  count_at : node.0 < length n.nodes.items → (k : ℕ) → option_map count (slice_get new.nodes.items k) ≡ option_map count (slice_get n.nodes.items k)
  count_at there k = by (k == node.0) refl where
    by : (b : Bool) → (k == node.0) ≡ b → option_map count (slice_get new.nodes.items k) ≡ option_map count (slice_get n.nodes.items k)
    by true e = subst (λ m. option_map count (slice_get new.nodes.items m) ≡ option_map count (slice_get n.nodes.items m)) (sym (eqb-true k node.0 e))
        (count_here (slice_get new.nodes.items node.0) (slice_get n.nodes.items node.0) replaced.here as_many (is_some_within n.nodes.items node.0 there))
    by false e =
        let other : k ≡ node.0 → ⊥ = λ is. grind (arith, nat_tests, e, is) in
        ap (option_map count) (replaced.others.there k other)

  pub sizes_kept : node.0 < length n.nodes.items → KeepsSizes n new
  sizes_kept there = record { blocks = replaced.others.blocks; books = counts_same count new.nodes.items n.nodes.items replaced.others.count (count_at there) }
