-- A lower end that has taken a request to write becomes a member, and the connection to its mirror stands behind the others.
use Rattle.std.proofs.Common.{◌≡◌, ◌<◌, ◌≤◌, ◌+◌, ◌-◌, ℕ, zero, suc, Bool, true, false, if◌then◌else◌, List, [], ◌∷◌, ◌++◌, length, get_or, slice_get, slice_set, option_map, Option, Some, None, IsSome, inl, inr, refl, sym, ap, ◌∙◌, subst, arith, append-nil}
use Rattle.std.specs.Prelude.{◌==◌, nat_le, nat_lt, cond, not, position}
use Rattle.std.specs.List.{position_or_len}
use Rattle.std.proofs.lemmas.Bool.Decides.{nat_tests}
use Rattle.std.proofs.lemmas.List.Quantifiers.{position-Some}
use Rattle.hd_base.specs.declared.ends.Conn.{Conn}
use Rattle.hd_base.specs.declared.links.LinkIn as link_in
use Rattle.hd_base.specs.declared.links.LinkOut as link_out
use Rattle.hd_base.specs.declared.numbers.BlockId.{BlockId}
use Rattle.hd_base.specs.declared.numbers.ConnId.{ConnId}
use Rattle.hd_base.specs.declared.numbers.NodeId.{NodeId}
use Rattle.hd_base.specs.declared.roads.Roads as roads
use Rattle.hd_base.specs.declared.roads.TheConstants.{FIRST_PORT}
use Rattle.op_headers.specs.declared.nodes.NodeRef.{NodeRef}
use Rattle.op_headers.specs.Values.{WriteFields}
use Rattle.member_events.specs.MemberCore.Steps.{Setup}
use Rattle.member_events.specs.ReplicaFiles.BookState.{BookState}
use Rattle.member_events.specs.ReplicaFiles.Books.{replica_of}
use Rattle.member_events.specs.PipeMember.Member.{Member}
use Rattle.road_traffic.specs.Showing.{Net}
use Rattle.play_model.specs.World.Event.{Event}
use Rattle.play_model.specs.World.Parts as parts
use Rattle.play_model.specs.World.Parts.{Break, Dialled, FullMember, Place, by_member, idle, writes, ended_below}
use Rattle.play_model.specs.World.Worlds.{World, apply}
use Rattle.play_model.specs.World.Connections.{is_alive, is_served, place_of}
use Rattle.play_model.specs.World.Nodes.{node_of, block_of, setup_change, lower_of, member_dials, mirror_node}
use Rattle.play_model.specs.World.Events.{outcome, happens}
use Rattle.play_model.specs.WorldLaws.Placing.{Placed}
use Rattle.play_model.proofs.WorldLaws.StampGivens.{put-there}
use Rattle.world_orders.specs.Orders.{Ordered}
use Rattle.member_events.specs.WorldNets.Nets.{IsEndOf, is_over}
use Rattle.play_model.specs.Dues.{is_open}
use Rattle.play_model.specs.Lines.{mirror_of}
use Rattle.member_events.specs.Joining.{LeftJoins, MemberJoins, MirrorDialled}
use Rattle.member_events.specs.Showing.{OthersStay}
use Rattle.member_events.proofs.JoinWorld.{old_dialled, not_after}
use Rattle.member_events.proofs.WorldLaws.{happened}
use Rattle.play_nodes.specs.declared.connections.Connection.{Connection}
use Rattle.play_nodes.specs.declared.connections.Lower.{Lower}
use Rattle.play_nodes.specs.declared.connections.Lower.TheVariants as lower
use Rattle.play_nodes.specs.declared.nodes.NodeBooks.{NodeBooks}
use Rattle.play_nodes.specs.declared.nodes.Nodes.{Nodes}
use Rattle.play_nodes.specs.declared.nodes.Seat.{Seat}
use Rattle.play_nodes.specs.Places.{book_at, with_lower, lower_left, TakesIdle, PutBack, BookSet, IsMirrorNode, mirror_made, IsAdded}
use Rattle.play_nodes.specs.Showing.{UpperShows, is_pipeline, IsOfPipeline, stands_here, LowerShows, ConnectionShows, NodesShow, NodesLeft}
use Rattle.play_nodes.proofs.Tables.{put_at_there, set_here, set_set}
use Rattle.play_nodes.proofs.WorldFrames.{KeepsRest}
use Rattle.play_nodes.proofs.NodeFrames.{IsOfEvent, IsLeft, BookLeft, node_as, served_as, nodes_after, books_after, has_books_after, writers_after, elsewhere_after, none_since, pipelines_after}
use Rattle.play_nodes.proofs.MemberNodes.{both_so, never_so, left_here}

-- THE PLACE OF A BLOCK

-- An element that passes.
pub record Passes {A : Type 0} (p : A → Bool) (xs : List A) (k : ℕ) : Type 0 where
  pub at : A
  pub found : slice_get xs k ≡ Some at
  pub passes : p at ≡ true

get_found : {A : Type 0} (xs : List A) (k : ℕ) (d : A) → k < length xs → slice_get xs k ≡ Some (get_or xs k d)
get_found [] k d h = absurd (none h)
  where
    none : k < 0 → ⊥
    none h = omega arith
get_found (a ∷ xs) zero d h = refl
get_found (a ∷ xs) (suc k) d h = get_found xs k d (omega arith)

pub passes_at : {A : Type 0} (p : A → Bool) (xs : List A) (k : ℕ) → position p xs ≡ Some k → Passes p xs k
passes_at p [] k h = cc
passes_at p (a ∷ xs) k h =
    let q = position-Some p (a ∷ xs) k a h in
    record { at = get_or (a ∷ xs) k a; found = get_found (a ∷ xs) k a q.0; passes = q.1 }

here_first : (b : Bool) (n m : ℕ) → b ≡ true → cond (not b) (1 + n) 0 < suc m
here_first true n m h = omega arith
here_first false n m h = cc

there_first : (b : Bool) (n m : ℕ) → n < m → cond (not b) (1 + n) 0 < suc m
there_first true n m h = omega arith
there_first false n m h = omega arith

first_within : {A : Type 0} (p : A → Bool) (xs : List A) (k : ℕ) (x : A) → slice_get xs k ≡ Some x → p x ≡ true → position_or_len p xs < length xs
first_within p [] k x h passes = cc
first_within p (a ∷ xs) zero x h passes = here_first (p a) (position_or_len p xs) (length xs) (ap p (same a x h) ∙ passes)
  where
    same : {B : Type 0} (y z : B) → Some y ≡ Some z → y ≡ z
    same y z e = cc
first_within p (a ∷ xs) (suc k) x h passes = there_first (p a) (position_or_len p xs) (length xs) (first_within p xs k x h passes)

pub place_there : {A : Type 0} (p : A → Bool) (xs : List A) (k : ℕ) (x : A) → slice_get xs k ≡ Some x → p x ≡ true → position p xs ≡ Some (position_or_len p xs)
place_there p xs k x h passes =
    ap (λ (b : Bool). cond b (Some (position_or_len p xs)) None) (test_so (position_or_len p xs) (length xs) (first_within p xs k x h passes))
  where
    test_so : (a b : ℕ) → a < b → nat_lt a b ≡ true
    test_so a b h = grind (arith, nat_tests, h)

-- THE WORLD AFTER A SETUP

-- What it leaves as it is: all but the lower end and the replica.
setup_so : (w : World) (c : ℕ) (fields : WriteFields) (s : Setup) (b : Option Break) (e : Event) → KeepsRest w (record (apply w (setup_change w c fields s b)) { last = Some e }) c (node_of w c) (block_of fields)
unfolding apply
setup_so w c fields s b e = record {
  nodes = refl;
  grows = omega arith;
  dialled = λ d within. old_dialled (nat_le w.next_conn d) (slice_get (member_dials s.member w c fields) (d - w.next_conn)) (w.dialled d) (not_after d w.next_conn within);
  running = λ n. refl;
  lives = λ n. refl;
  lowers = λ d apart. put-there w.lowers c (lower_of s.member fields w.next_conn) d apart;
  replicas = λ n q apart. put_at_there w.replicas (node_of w c) (block_of fields) s.replica n q apart;
}

pub setup_rest : (w w1 : World) (c : ℕ) (fields : WriteFields) (s : Setup) (b : Option Break) (e : Event) → outcome w e ≡ Some (apply w1 (setup_change w1 c fields s b)) → KeepsRest w1 (happens w e) c (node_of w1 c) (block_of fields)
setup_rest w w1 c fields s b e out =
    subst (λ (v : World). KeepsRest w1 v c (node_of w1 c) (block_of fields)) (sym (happened w (apply w1 (setup_change w1 c fields s b)) e out)) (setup_so w1 c fields s b e)

-- THE NODE OF A MIRROR

node_at : (port number : ℕ) (b : Bool) → (if b then Some (port - FIRST_PORT) else None) ≡ Some number → number ≡ port - FIRST_PORT
node_at port number true h = cc
node_at port number false h = cc

pub mirror_number : (targets : List NodeRef) (mirror : NodeId) (number : ℕ) → IsMirrorNode targets mirror → mirror_node targets ≡ Some number → mirror.0 ≡ number
mirror_number [] mirror number h is = cc
mirror_number (first ∷ rest) mirror number h is = h ∙ sym (node_at first.xfer number (nat_le FIRST_PORT first.xfer) is)

-- the connection to a mirror at a node that runs is served
served_at : (v : World) (next number : ℕ) → (v.dialled next).to ≡ place_of v number → v.running number ≡ true → v.next_conn ≡ next + 1 → is_served v next ≡ true
served_at v next number to runs last =
    both_so (nat_lt next v.next_conn) (is_alive v (v.dialled next).to) (within next v.next_conn last)
    (ap (is_alive v) to ∙ both_so (v.running number) (v.lives number == v.lives number) runs (same (v.lives number)))
  where
    within : (a b : ℕ) → b ≡ a + 1 → nat_lt a b ≡ true
    within a b h = grind (arith, nat_tests, h)

    same : (n : ℕ) → (n == n) ≡ true
    same n = grind (arith, nat_tests)

module _ {I O : Type 0} (i : link_in.Ghosts I) (o : link_out.Ghosts O) where
  -- the connection to the mirror, if there is one, is the world's
  mirror_left : (v : World) (made : Net) (c : ℕ) (fields : WriteFields) (mirror : Option ℕ) (left : Option (Member I O)) → LeftJoins i o v made c fields mirror left → mirror ≡ mirror_of (v.lowers c)
  mirror_left v made c fields mirror (Some m) h = sym (ap mirror_of h.lower ∙ h.mirror_is)
  mirror_left v made c fields None None (inl over) = sym (ap mirror_of over)
  mirror_left v made c fields None None (inr over) = sym (ap mirror_of over.lower ∙ over.alone)
  mirror_left v made c fields (Some d) None h = absurd h

module _ {F R I O : Type 0} (r : roads.Ghosts R I O) (i : link_in.Ghosts I) (o : link_out.Ghosts O) where
  -- WHAT IS LEFT AT THE CONNECTION

  left_shows : (v : World) (made : Net) (c place : ℕ) (new : Nodes F I O) (fields : WriteFields) (mirror : Option ℕ) (block : BlockId) (left : Option (Member I O)) → is_served v c ≡ true → slice_get new.blocks.items place ≡ Some block → block.0 ≡ block_of fields
      → LeftJoins i o v made c fields mirror left → LowerShows i o v made c new (v.lowers c) (lower_left place lower.Ended left)
  left_shows v made c place new fields mirror block (Some m) served at_place of_block h =
      subst (λ (l : parts.Lower). LowerShows i o v made c new l (lower.Member m place)) (sym h.lower) (
        both_so (is_served v c) (is_open (v.lowers c)) served (ap is_open h.lower ∙ h.acts),
        record { shows = h.shows; block = block; at_place = at_place; of_block = of_block ∙ ap block_of (sym h.fields_are) },
      )
  left_shows v made c place new fields None block None served at_place of_block (inl over) =
      subst (λ (l : parts.Lower). LowerShows i o v made c new l lower.Ended) (sym over) (never_so (is_served v c) (is_open (v.lowers c)) (ap is_open over))
  left_shows v made c place new fields None block None served at_place of_block (inr over) =
      subst (λ (l : parts.Lower). LowerShows i o v made c new l lower.Ended) (sym over.lower) (never_so (is_served v c) (is_open (v.lowers c)) (ap is_open over.lower ∙ over.over))
  left_shows v made c place new fields (Some d) block None served at_place of_block h = absurd h

  -- THE NODES AFTER

  -- A request was set up at a connection, and what is left is back in its place.
  pub record IsSetUp (w w1 v : World) (net n1 : Net) (c : ℕ) (fields : WriteFields) (mirror : Option ℕ) (s : Seat) (book : BookState F) (road : R) (left : Option (Member I O)) (old mid set middle : Nodes F I O) (at : Connection I O) (end : Conn I O) : Type 0 where
    pub ordered : Ordered w
    pub nodes_are : NodesShow i o w net old
    pub found : slice_get old.connections.items c ≡ Some at
    pub before : c < w.next_conn
    pub of_pipeline : IsOfPipeline w c
    pub lower : w.lowers c ≡ idle
    pub served : is_served w c ≡ true
    pub taken : TakesIdle old mid c (Some end)
    pub is_set : BookSet mid set s.node.0 s.place book
    pub put : PutBack set middle s left
    pub conn : s.conn ≡ c
    pub node : s.node.0 ≡ node_of w c
    pub block : BlockId
    pub at_place : slice_get old.blocks.items s.place ≡ Some block
    pub of_block : block.0 ≡ block_of fields
    pub rest : KeepsRest w v c (node_of w c) (block_of fields)
    pub over : (d : ℕ) → is_over v d false ≡ is_over w d false
    pub first : OthersStay i o w net w1 n1 c None
    pub conns : w1.next_conn ≡ w.next_conn
    pub joins : MemberJoins r i o w1 n1 v c fields mirror book road left

  module _ (w w1 v : World) (net n1 : Net) (c : ℕ) (fields : WriteFields) (mirror : Option ℕ) (s : Seat) (book : BookState F) (road : R) (left : Option (Member I O)) (old mid set middle : Nodes F I O) (at : Connection I O) (end : Conn I O)
      (h : IsSetUp w w1 v net n1 c fields mirror s book road left old mid set middle at end) where
    -- the connection with what is left at it
    abbrev left_at : Connection I O
    left_at = with_lower at (lower_left s.place lower.Ended left)

    put_at : middle.connections.items ≡ slice_set old.connections.items c left_at
    put_at =
        let ended : Connection I O = with_lower at lower.Ended in
        let conns : set.connections.items ≡ slice_set old.connections.items c ended = h.is_set.connections ∙ h.taken.set at h.found in
        let here : slice_get set.connections.items s.conn ≡ Some ended =
        ap (slice_get set.connections.items) h.conn ∙ (ap (λ (xs : List (Connection I O)). slice_get xs c) conns ∙ set_here old.connections.items c at ended h.found) in
        h.put.set ended here ∙ (ap (λ (q : ℕ). slice_set set.connections.items q left_at) h.conn ∙
        (ap (λ (xs : List (Connection I O)). slice_set xs c left_at) conns ∙ set_set old.connections.items c ended left_at))

    served_after : is_served v c ≡ true
    served_after = served_as w v c (node_of w c) (block_of fields) c h.rest h.before ∙ h.served

    -- What stands at the connection at the end, and behind the others.
    record IsFinal (new : Nodes F I O) (last : Connection I O) (more : List (Connection I O)) : Type 0 where
      set_is : new.connections.items ≡ slice_set old.connections.items c last ++ more
      blocks : new.blocks.items ≡ middle.blocks.items
      nodes : new.nodes.items ≡ middle.nodes.items
      upper : last.upper ≡ at.upper
      node : last.node ≡ at.node
      lower_is : last.lower ≡ lower_left s.place lower.Ended left
      mirror_is : option_map (λ (d : ConnId). d.0) last.mirror ≡ mirror
      count : v.next_conn ≡ w.next_conn + length more
      pipelines : (d : ℕ) → w.next_conn ≤ d → IsOfPipeline v d
      added : (j : ℕ) (x : Connection I O) → slice_get more j ≡ Some x → ConnectionShows i o v h.joins.made (w.next_conn + j) new x

    final_left : (new : Nodes F I O) (last : Connection I O) (more : List (Connection I O)) → IsFinal new last more → NodesLeft r i o w net v road new
    final_left new last more z =
        let made : Net = h.joins.made in
        let written : ℕ = block_of fields in
        let blocks : new.blocks.items ≡ old.blocks.items = z.blocks ∙ (h.put.blocks ∙ (h.is_set.blocks ∙ h.taken.blocks)) in
        let nodes : new.nodes.items ≡ set.nodes.items = z.nodes ∙ h.put.nodes in
        let at_place : slice_get new.blocks.items s.place ≡ Some h.block = ap (λ (xs : List BlockId). slice_get xs s.place) blocks ∙ h.at_place in
        let at_book : book_at new.nodes.items (node_of w c) s.place ≡ Some book =
        ap (λ (xs : List (NodeBooks F)). book_at xs (node_of w c) s.place) nodes ∙ (ap (λ (q : ℕ). book_at set.nodes.items q s.place) (sym h.node) ∙ h.is_set.here) in
        let of : IsOfEvent i o w v net made c None written = record {
          ordered = h.ordered;
          before = h.before;
          dialled = tt;
          rest = h.rest;
          over = λ d apart. h.over d;
          others = λ d b e none is. h.joins.others d b e none (h.first d b e none is);
        } in
        let is_left : IsLeft i o w v made c old new at last more = record {
          found = h.found;
          set = z.set_is;
          count = z.count;
          upper = z.upper;
          node = z.node;
          mirror = z.mirror_is ∙ mirror_left i o v made c fields mirror left h.joins.left_is;
          here = ap (λ (l : Lower I O). stands_here l) z.lower_is ∙ (left_here s.place left ∙ sym ((h.nodes_are.each c at h.found).here ∙ h.of_pipeline h.before));
          shows = subst (λ (l : Lower I O). LowerShows i o v made c new (v.lowers c) l) (sym z.lower_is)
              (left_shows v made c s.place new fields mirror h.block left served_after at_place h.of_block h.joins.left_is);
          added = z.added;
          blocks = blocks;
        } in
        let book_left : BookLeft i o w v c s.place written old new = record {
          after = record {
            blocks = blocks;
            books = λ n q apart. ap (λ (xs : List (NodeBooks F)). book_at xs n q) nodes ∙
                (h.is_set.there n q (λ x y. apart (x ∙ h.node) y) ∙ ap (λ (xs : List (NodeBooks F)). book_at xs n q) h.taken.nodes);
          };
          block = h.block;
          at_place = h.at_place;
          of_block = h.of_block;
          replica = λ other found. ap replica_of (book_same other book (sym found ∙ at_book)) ∙
              (h.joins.replica ∙ (ap (λ (q : ℕ). v.replicas q (block_of fields)) (node_as w v c (node_of w c) written c h.rest h.before) ∙
              ap (v.replicas (node_of w c)) (sym h.of_block)));
          has_book = subst IsSome (sym at_book) refl;
        } in
        record {
          made = made;
          stands = record {
            roads_are = h.joins.roads_are;
            nodes_are = nodes_after i o w v net made c None written old new at last more h.nodes_are of is_left
                (books_after i o w v net made c s.place None written old new h.nodes_are of book_left)
                (has_books_after i o w v net made c s.place None written old new h.nodes_are of book_left);
          };
          writers = writers_after i o w v net made c None written of;
          elsewhere = elsewhere_after i o w v net made c None written (h.of_pipeline h.before) of;
          pipelines = pipelines_after w v h.rest.dialled z.pipelines;
        }
      where
        book_same : (x y : BookState F) → Some x ≡ Some y → x ≡ y
        book_same x y e = cc

    -- Nothing was dialled.
    pub alone_left : (new : Nodes F I O) → new ≡ middle → mirror ≡ None → NodesLeft r i o w net v road new
    alone_left new same none = final_left new left_at [] (record {
      set_is = ap (λ (n : Nodes F I O). n.connections.items) same ∙ (put_at ∙ sym (append-nil (slice_set old.connections.items c left_at)));
      blocks = ap (λ (n : Nodes F I O). n.blocks.items) same;
      nodes = ap (λ (n : Nodes F I O). n.nodes.items) same;
      upper = refl;
      node = refl;
      lower_is = refl;
      mirror_is = (h.nodes_are.each c at h.found).mirror ∙ (ap mirror_of h.lower ∙ sym none);
      count = omega (arith, h.joins.none_dialled none, h.conns);
      pipelines = none_since w v (h.joins.none_dialled none ∙ h.conns);
      added = λ j x found. cc;
    })

    -- The mirror was dialled, and the lower end of the connection to it stands behind the others.
    pub mirrored_left : (new : Nodes F I O) (next : ConnId) (of : NodeId) (reached : Conn I O) → Placed w → IsAdded middle new s next of reached → next.0 ≡ w.next_conn → mirror ≡ Some next.0 → IsMirrorNode fields.targets of → IsEndOf i o v h.joins.made next.0 true reached
        → MirrorDialled v c next.0 fields → v.lowers next.0 ≡ w.lowers next.0 → NodesLeft r i o w net v road new
    mirrored_left new next of reached placed a next_is mirror_is of_is end_is d same =
        let last : Connection I O = record left_at { mirror = Some next } in
        let more : Connection I O = mirror_made s.conn of reached in
        let here : slice_get middle.connections.items s.conn ≡ Some left_at =
        ap (slice_get middle.connections.items) h.conn ∙ (ap (λ (xs : List (Connection I O)). slice_get xs c) put_at ∙ set_here old.connections.items c at left_at h.found) in
        let set_is : new.connections.items ≡ slice_set old.connections.items c last ++ more ∷ [] =
        a.set left_at here ∙ ap (λ (xs : List (Connection I O)). xs ++ more ∷ []) (ap (λ (q : ℕ). slice_set middle.connections.items q last) h.conn ∙
        (ap (λ (xs : List (Connection I O)). slice_set xs c last) put_at ∙ set_set old.connections.items c left_at last)) in
        let idle_is : v.lowers next.0 ≡ idle = same ∙ (placed.undialled next.0 (omega (arith, next_is))).lower in
        let shows : ConnectionShows i o v h.joins.made next.0 new more = record {
          upper_is = subst (λ (u : parts.Upper). UpperShows u more.upper) (sym d.upper) h.conn;
          origin = tt;
          node = mirror_number fields.targets of d.number of_is d.node_is ∙ sym (ap (λ (p : Place). p.node) d.to);
          mirror = sym (ap mirror_of idle_is);
          here = sym (ap is_pipeline d.upper);
          lower_is = subst (λ (l : parts.Lower). LowerShows i o v h.joins.made next.0 new l (lower.Idle reached)) (sym idle_is)
              (both_so (is_served v next.0) (is_open (v.lowers next.0)) (served_at v next.0 d.number d.to d.runs d.last) (ap is_open idle_is), end_is);
        } in
        final_left new last (more ∷ []) (record {
          set_is = set_is;
          blocks = a.blocks;
          nodes = a.nodes;
          upper = refl;
          node = refl;
          lower_is = refl;
          mirror_is = sym mirror_is;
          count = omega (arith, d.last, next_is);
          pipelines = λ c behind within. subst (λ (n : ℕ). is_pipeline (v.dialled n).upper ≡ true) (omega (arith, d.last, next_is, behind, within)) (ap is_pipeline d.upper);
          added = λ j x found. only_one new more shows next_is j x found;
        })
      where
        only_one : (new : Nodes F I O) (more : Connection I O) → ConnectionShows i o v h.joins.made next.0 new more → next.0 ≡ w.next_conn → (j : ℕ) (x : Connection I O) → slice_get (more ∷ []) j ≡ Some x → ConnectionShows i o v h.joins.made (w.next_conn + j) new x
        only_one new more shows next_is zero x found =
            subst (λ (n : ℕ). ConnectionShows i o v h.joins.made n new x) (omega (arith, next_is)) (subst (λ (y : Connection I O). ConnectionShows i o v h.joins.made next.0 new y) (same_some more x found) shows)
          where
            same_some : (p q : Connection I O) → Some p ≡ Some q → p ≡ q
            same_some p q e = cc
        only_one new more shows next_is (suc j) x found = cc
