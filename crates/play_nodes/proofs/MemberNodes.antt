-- A member that stands among the nodes, and what its event leaves of them.
use Rattle.std.proofs.Common.{◌≡◌, ◌<◌, ℕ, Bool, true, false, List, slice_get, slice_set, Option, Some, None, IfSome, IsSome, refl, sym, ap, ◌∙◌, subst, [], append-nil, arith}
use Rattle.std.specs.Prelude.{◌&&◌}
use Rattle.hd_base.specs.Channels.{Plain}
use Rattle.hd_base.specs.Ends.{IsKnown}
use Rattle.hd_base.specs.declared.ends.Conn.{Conn}
use Rattle.hd_base.specs.declared.numbers.BlockId.{BlockId}
use Rattle.hd_base.specs.declared.numbers.NodeId.{NodeId}
use Rattle.hd_base.specs.declared.links.LinkIn as link_in
use Rattle.hd_base.specs.declared.links.LinkOut as link_out
use Rattle.hd_base.specs.declared.roads.Roads as roads
use Rattle.member_events.specs.ReplicaFiles.BookState.{BookState}
use Rattle.member_events.specs.ReplicaFiles.Books.{replica_of}
use Rattle.member_events.specs.PipeMember.Member.{Member}
use Rattle.member_events.specs.PipeMember.Exchanges.{AreKnown}
use Rattle.road_traffic.specs.Showing.{Net, RoadsShow}
use Rattle.play_model.specs.World.Parts as parts
use Rattle.play_model.specs.World.Parts.{FullMember, writes}
use Rattle.play_model.specs.World.Worlds.{World}
use Rattle.play_model.specs.World.Connections.{is_served}
use Rattle.play_model.specs.World.Nodes.{node_of, block_of}
use Rattle.play_model.proofs.WorldLaws.FactTables.{and-left, and-right}
use Rattle.member_events.specs.WorldNets.Nets.{is_over}
use Rattle.world_orders.specs.Orders.{Ordered}
use Rattle.member_events.specs.Showing.{MirrorShows, MemberShows, MemberStands, MemberLeft, LeftShows}
use Rattle.play_model.specs.Dues.{is_open}
use Rattle.play_model.specs.Lines.{mirror_of}
use Rattle.play_nodes.specs.declared.connections.Connection.{Connection}
use Rattle.play_nodes.specs.declared.connections.Lower.{Lower}
use Rattle.play_nodes.specs.declared.connections.Lower.TheVariants as lower
use Rattle.play_nodes.specs.declared.nodes.NodeBooks.{NodeBooks}
use Rattle.play_nodes.specs.declared.nodes.Nodes.{Nodes}
use Rattle.play_nodes.specs.declared.nodes.Seat.{Seat}
use Rattle.play_nodes.specs.Places.{book_at, with_lower, IsSeated, Takes, PutBack, lower_left, BookSet}
use Rattle.play_nodes.specs.Showing.{is_pipeline, has_events, stands_here, SeatShows, LowerShows, NodesShow, NodesStand, NodesLeft}
use Rattle.play_nodes.proofs.Tables.{set_here, set_set}
use Rattle.play_nodes.proofs.PlaceLaws.{element_within}
use Rattle.play_nodes.proofs.WorldFrames.{KeepsRest}
use Rattle.play_nodes.proofs.NodeFrames.{IsApart, IsOfEvent, IsLeft, BookLeft, dialled_by, is_later, node_as, served_as, nodes_after, books_after, has_books_after, writers_after, elsewhere_after, pipelines_stay}

pub both_so : (a b : Bool) → a ≡ true → b ≡ true → (a && b) ≡ true
both_so a b x y = rw (x, y) refl

-- what is left of a member stands among the nodes
pub left_here : {I O : Type 0} (place : ℕ) (left : Option (Member I O)) → stands_here (lower_left {I = I} {O = O} place lower.Ended left) ≡ true
left_here place None = refl
left_here place (Some m) = refl

pub never_so : (a b : Bool) → b ≡ false → (a && b) ≡ false
never_so true b y = y
never_so false b y = refl

module _ {R I O : Type 0} (r : roads.Ghosts R I O) (i : link_in.Ghosts I) (o : link_out.Ghosts O) where
  -- THE ROADS KNOW ITS ENDS

  pub known : (road : R) (net : Net) (q : Option Plain) (d c : ℕ) → RoadsShow r net road → r.plain road ≡ q → d < net.conns → c ≡ d → IsKnown q c
  known road net None d c h is within same = tt
  known road net (Some p) d c h is within same =
      let e : p.dialled ≡ net.conns = ap (λ (x : Plain). x.dialled) (plain_same p h.plain (sym is ∙ h.is)) ∙ h.holds.dialled in
      subst (λ (x : ℕ). x < p.dialled) (sym same) (subst (λ (x : ℕ). d < x) (sym e) within)
    where
      plain_same : (a b : Plain) → Some a ≡ Some b → a ≡ b
      plain_same a b e = cc

  mirror_known : (w : World) (net : Net) (road : R) (mirror : Option ℕ) (e : Option (Conn I O)) → RoadsShow r net road → MirrorShows i o w net mirror e → IfSome e (λ end. IsKnown (r.plain road) end.id.0)
  mirror_known w net road None None h k = tt
  mirror_known w net road None (Some e) h k = absurd k
  mirror_known w net road (Some d) None h k = tt
  mirror_known w net road (Some d) (Some e) h k = known road net (r.plain road) d e.id.0 h refl k.within k.id

  pub ends_known : (w : World) (net : Net) (road : R) (c : ℕ) (full : FullMember) (m : Member I O) → RoadsShow r net road → MemberShows i o w net c full m → AreKnown (r.plain road) m
  ends_known w net road c full m h k = (known road net (r.plain road) c m.upstream.id.0 h refl k.upstream.within k.upstream.id, mirror_known w net road full.mirror m.mirror h k.mirror)

module _ {F I O : Type 0} (i : link_in.Ghosts I) (o : link_out.Ghosts O) where
  -- The member that stands at a connection is the world's.
  pub record IsMember (w : World) (net : Net) (c : ℕ) (n : Nodes F I O) (m : Member I O) (place : ℕ) : Type 0 where
    pub full : FullMember
    pub lower : w.lowers c ≡ writes full
    pub events : has_events w c ≡ true
    pub seat : SeatShows i o w net c n full m place

  member_so : (w : World) (net : Net) (c : ℕ) (n : Nodes F I O) (m : Member I O) (place : ℕ) (l : parts.Lower) → w.lowers c ≡ l → LowerShows i o w net c n l (lower.Member m place) → IsMember w net c n m place
  member_so w net c n m place (writes full) is h = record { full = full; lower = is; events = h.0; seat = h.1 }
  member_so w net c n m place l is h = absurd h

  -- its connection is of a pipeline
  pub member_here : (w : World) (net : Net) (c : ℕ) (n : Nodes F I O) (s : Seat) → NodesShow i o w net n → (seat : IsSeated n c s) → is_pipeline (w.dialled c).upper ≡ true
  member_here w net c n s shows seat = sym (shows.each c seat.at seat.found).here ∙ ap (λ (l : Lower I O). stands_here l) seat.lower

  pub member_shown : (w : World) (net : Net) (c : ℕ) (n : Nodes F I O) (s : Seat) → NodesShow i o w net n → (seat : IsSeated n c s) → IsMember w net c n seat.member s.place
  member_shown w net c n s shows seat =
      member_so w net c n seat.member s.place (w.lowers c) refl
      (subst (λ (real : Lower I O). LowerShows i o w net c n (w.lowers c) real) seat.lower (shows.each c seat.at seat.found).lower_is)

module _ {F R I O : Type 0} (r : roads.Ghosts R I O) (i : link_in.Ghosts I) (o : link_out.Ghosts O) where
  pub is_member : (w : World) (net : Net) (road : R) (c : ℕ) (n : Nodes F I O) (s : Seat) → NodesStand r i o w net road n → (seat : IsSeated n c s) → IsMember i o w net c n seat.member s.place
  is_member w net road c n s stands seat = member_shown i o w net c n s stands.nodes_are seat

  -- where the member is: the node of its connection
  pub seat_node : (w : World) (net : Net) (road : R) (c : ℕ) (n : Nodes F I O) (s : Seat) → NodesStand r i o w net road n → (seat : IsSeated n c s) → s.node.0 ≡ node_of w c
  seat_node w net road c n s stands seat = ap (λ (x : NodeId). x.0) seat.node ∙ (stands.nodes_are.each c seat.at seat.found).node

  -- It stands in the world with its book.
  pub member_stands : (w : World) (net : Net) (road : R) (c : ℕ) (n : Nodes F I O) (s : Seat) (book : BookState F) → Ordered w → NodesStand r i o w net road n → (seat : IsSeated n c s) → (k : IsMember i o w net c n seat.member s.place)
      → book_at n.nodes.items s.node.0 s.place ≡ Some book → MemberStands r i o w net c k.full book seat.member road
  member_stands w net road c n s book ordered stands seat k at_book = record {
    roads_are = stands.roads_are;
    lower = k.lower;
    shows = k.seat.shows;
    replica = stands.nodes_are.books s.node.0 s.place k.seat.block book k.seat.at_place at_book ∙
        (ap (λ (q : ℕ). w.replicas q k.seat.block.0) (seat_node w net road c n s stands seat) ∙ ap (w.replicas (node_of w c)) k.seat.of_block);
    later = is_later w c k.full ordered k.lower;
  }

  -- WHAT IS LEFT

  left_lower : (w v : World) (made : Net) (c place : ℕ) (new : Nodes F I O) (full full' : FullMember) (block : BlockId) (left : Option (Member I O)) → has_events w c ≡ true → w.lowers c ≡ writes full
      → is_served v c ≡ is_served w c → v.lowers c ≡ writes full' → full'.fields ≡ full.fields → slice_get new.blocks.items place ≡ Some block → block.0 ≡ block_of full.fields
      → LeftShows i o v made c full full' left → LowerShows i o v made c new (writes full') (lower_left place lower.Ended left)
  left_lower w v made c place new full full' block (Some m) events before served after fields at_place of_block h = (
    both_so (is_served v c) (is_open (v.lowers c)) (served ∙ and-left (is_served w c) (is_open (w.lowers c)) events)
        (ap is_open after ∙ (h.acts ∙ (sym (ap is_open before) ∙ and-right (is_served w c) (is_open (w.lowers c)) events))),
    record { shows = h.shows; block = block; at_place = at_place; of_block = of_block ∙ ap block_of (sym fields) },
  )
  left_lower w v made c place new full full' block None events before served after fields at_place of_block h =
      never_so (is_served v c) (is_open (v.lowers c)) (ap is_open after ∙ h)

  -- What an event of a member leaves, once what is left of it is back in its place.
  pub member_left : (w v : World) (net : Net) (road road' : R) (c : ℕ) (old mid set new : Nodes F I O) (s : Seat) (m : Member I O) (book : BookState F) (left : Option (Member I O)) → Ordered w → NodesStand r i o w net road old
      → (seat : IsSeated old c s) → (k : IsMember i o w net c old seat.member s.place) → Takes old mid c (Some m) → BookSet mid set s.node.0 s.place book → PutBack set new s left
      → v.next_conn ≡ w.next_conn → KeepsRest w v c (node_of w c) (block_of k.full.fields) → ((d : ℕ) → IsApart k.full.mirror d → is_over v d false ≡ is_over w d false) → MemberLeft r i o w net v c k.full book road' left
      → NodesLeft r i o w net v road' new
  member_left w v net road road' c old mid set new s m book left ordered stands seat k t b p conns_same rest over h =
      let before : c < w.next_conn = subst (λ (n : ℕ). c < n) stands.nodes_are.count (element_within old.connections.items c seat.at seat.found) in
      let at : Connection I O = seat.at in
      let ended : Connection I O = with_lower at lower.Ended in
      let last : Connection I O = with_lower at (lower_left s.place lower.Ended left) in
      let node : s.node.0 ≡ node_of w c = seat_node w net road c old s stands seat in
      let taken : mid.connections.items ≡ slice_set old.connections.items c ended = t.set at seat.found in
      let conns : set.connections.items ≡ slice_set old.connections.items c ended = b.connections ∙ taken in
      let here : slice_get set.connections.items s.conn ≡ Some ended =
      ap (slice_get set.connections.items) seat.conn ∙ (ap (λ (xs : List (Connection I O)). slice_get xs c) conns ∙ set_here old.connections.items c at ended seat.found) in
      let put : new.connections.items ≡ slice_set old.connections.items c last =
      p.set ended here ∙ (ap (λ (q : ℕ). slice_set set.connections.items q last) seat.conn ∙
      (ap (λ (xs : List (Connection I O)). slice_set xs c last) conns ∙ set_set old.connections.items c ended last)) in
      let blocks : new.blocks.items ≡ old.blocks.items = p.blocks ∙ (b.blocks ∙ t.blocks) in
      let at_place : slice_get new.blocks.items s.place ≡ Some k.seat.block = ap (λ (xs : List BlockId). slice_get xs s.place) blocks ∙ k.seat.at_place in
      let at_book : book_at new.nodes.items (node_of w c) s.place ≡ Some book =
      ap (λ (xs : List (NodeBooks F)). book_at xs (node_of w c) s.place) p.nodes ∙ (ap (λ (q : ℕ). book_at set.nodes.items q s.place) (sym node) ∙ b.here) in
      let of : IsOfEvent i o w v net h.made c k.full.mirror (block_of k.full.fields) =
      record { ordered = ordered; before = before; dialled = dialled_by w c k.full ordered k.lower; rest = rest; over = over; others = h.others } in
      let served = served_as w v c (node_of w c) (block_of k.full.fields) c rest before in
      let own : Option ℕ = k.full.mirror in
      let written : ℕ = block_of k.full.fields in
      let is_left : IsLeft i o w v h.made c old new at last [] = record {
        found = seat.found;
        set = put ∙ sym (append-nil (slice_set old.connections.items c last));
        count = omega (arith, conns_same);
        upper = refl;
        node = refl;
        mirror = (stands.nodes_are.each c at seat.found).mirror ∙ sym (ap mirror_of h.lower ∙ (h.mirror ∙ sym (ap mirror_of k.lower)));
        here = left_here s.place left ∙ sym (ap (λ (l : Lower I O). stands_here l) seat.lower);
        shows = subst (λ (l : parts.Lower). LowerShows i o v h.made c new l (lower_left s.place lower.Ended left)) (sym h.lower)
            (left_lower w v h.made c s.place new k.full h.full k.seat.block left k.events k.lower served h.lower h.fields at_place k.seat.of_block h.left_is);
        added = λ n x none. cc;
        blocks = blocks;
      } in
      let book_left : BookLeft i o w v c s.place written old new = record {
        after = record {
          blocks = blocks;
          books = λ n q apart. ap (λ (xs : List (NodeBooks F)). book_at xs n q) p.nodes ∙
              (b.there n q (λ x y. apart (x ∙ node) y) ∙ ap (λ (xs : List (NodeBooks F)). book_at xs n q) t.nodes);
        };
        block = k.seat.block;
        at_place = k.seat.at_place;
        of_block = k.seat.of_block;
        replica = λ other found. ap replica_of (book_same other book (sym found ∙ at_book)) ∙
            (h.replica ∙ (ap (λ (q : ℕ). v.replicas q (block_of h.full.fields)) (node_as w v c (node_of w c) written c rest before) ∙
            ap (v.replicas (node_of w c)) (ap block_of h.fields ∙ sym k.seat.of_block)));
        has_book = subst IsSome (sym at_book) refl;
      } in
      record {
        made = h.made;
        stands = record {
          roads_are = h.roads_are;
          nodes_are = nodes_after i o w v net h.made c own written old new at last [] stands.nodes_are of is_left
              (books_after i o w v net h.made c s.place own written old new stands.nodes_are of book_left)
              (has_books_after i o w v net h.made c s.place own written old new stands.nodes_are of book_left);
        };
        writers = writers_after i o w v net h.made c own written of;
        elsewhere = elsewhere_after i o w v net h.made c own written (member_here i o w net c old s stands.nodes_are seat) of;
        pipelines = pipelines_stay w v rest.dialled conns_same;
      }
    where
      book_same : (x y : BookState F) → Some x ≡ Some y → x ≡ y
      book_same x y e = cc
