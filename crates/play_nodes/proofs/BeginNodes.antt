-- A lower end that has taken nothing yet takes what stands next, which is the end, or a request.
use Rattle.std.proofs.Common.{◌≡◌, ◌<◌, ◌-◌, ℕ, true, false, List, [], slice_get, slice_set, Some, None, IsSome, refl, sym, ap, ◌∙◌, subst, arith, append-nil, eqb-true}
use Rattle.std.specs.Prelude.{◌&&◌, ◌==◌, nat_le}
use Rattle.hd_base.specs.declared.ends.Conn.{Conn}
use Rattle.hd_base.specs.declared.links.LinkIn as link_in
use Rattle.hd_base.specs.declared.links.LinkOut as link_out
use Rattle.hd_base.specs.declared.numbers.BlockId.{BlockId}
use Rattle.hd_base.specs.declared.numbers.ConnId.{ConnId}
use Rattle.hd_base.specs.declared.roads.Roads as roads
use Rattle.op_headers.specs.declared.ops.Op.TheVariants as op
use Rattle.road_traffic.specs.Showing.{Net}
use Rattle.play_model.specs.World.Event.{Event}
use Rattle.play_model.specs.World.Event.TheVariants as event
use Rattle.play_model.specs.World.Parts as parts
use Rattle.play_model.specs.World.Parts.{Message, request, packet, ack, response, read_status, recovery_answer, by_writer, by_member, by_reader, by_primary, idle, ended_below}
use Rattle.play_model.specs.World.Worlds.{World, put_at, apply}
use Rattle.play_model.specs.World.Connections.{Next, message, the_end, down_taken, is_served}
use Rattle.play_model.specs.World.Nodes.{node_of, closing}
use Rattle.play_model.specs.World.Events.{outcome, happens}
use Rattle.play_model.proofs.WorldLaws.FactTables.{if-each, and-left, and-right}
use Rattle.play_model.proofs.WorldLaws.StampGivens.{put-there}
use Rattle.world_orders.specs.Orders.{Ordered, Purpose, purpose_of, pipeline, comes_down, is_write}
use Rattle.world_orders.specs.Takes.{TakesInOrder}
use Rattle.world_orders.proofs.AllOrdered.{next-found}
use Rattle.member_events.specs.WorldTexts.Texts.{SpellsText, Written}
use Rattle.member_events.specs.WorldNets.Nets.{IsEndOf}
use Rattle.member_events.specs.WorldNets.Drawn.{ComesDown, IsNoRequest}
use Rattle.member_events.proofs.WorldNets.DrawnLemmas.{down-makes}
use Rattle.member_events.proofs.WorldNets.StepLemmas.{followed, changed-over, taken-over}
use Rattle.play_model.specs.Dues.{is_open}
use Rattle.play_model.specs.Lines.{mirror_of}
use Rattle.member_events.specs.Beginning.{IsFirst, CanBegin, HasEnded}
use Rattle.member_events.proofs.WorldLaws.{happened}
use Rattle.play_nodes.specs.declared.connections.Connection.{Connection}
use Rattle.play_nodes.specs.declared.connections.Lower.{Lower}
use Rattle.play_nodes.specs.declared.connections.Lower.TheVariants as lower
use Rattle.play_nodes.specs.declared.nodes.NodeBooks.{NodeBooks}
use Rattle.play_nodes.specs.declared.nodes.Nodes.{Nodes}
use Rattle.play_nodes.specs.Places.{book_at, with_lower, TakesIdle}
use Rattle.play_nodes.specs.Showing.{is_pipeline, IsOfPipeline, has_events, stands_here, LowerShows, NodesStand, NodesLeft}
use Rattle.play_nodes.proofs.Tables.{element, none_dialled}
use Rattle.play_nodes.proofs.WorldFrames.{KeepsRest}
use Rattle.play_nodes.proofs.NodeFrames.{IsOfEvent, IsLeft, nodes_after, writers_after, elsewhere_after, pipelines_stay}
use Rattle.play_nodes.proofs.MemberNodes.{never_so}
use Rattle.play_nodes.proofs.ReadyNodes.{served_within}

-- THE WORLD AFTER A CONNECTION THAT HAS ENDED

put_same : {A : Type 0} (f : ℕ → ℕ → A) (i k j l : ℕ) → put_at f i k (f i k) j l ≡ f j l
put_same {A} f i k j l =
    if-each (λ (y : A). y ≡ f j l) (j == i && l == k) (f i k) (f j l)
    (λ e. ap (λ (n : ℕ). f n k) (sym (eqb-true j i (and-left (j == i) (l == k) e))) ∙ ap (f j) (sym (eqb-true l k (and-right (j == i) (l == k) e))))
    (λ _. refl)

-- What it leaves as it is: all but the lower end.
pub record KeepsBut (w v : World) (c : ℕ) : Type 0 where
  pub rest : KeepsRest w v c (node_of w c) 0
  pub conns : v.next_conn ≡ w.next_conn
  pub replicas : (n b : ℕ) → v.replicas n b ≡ w.replicas n b

closed_so : (w : World) (c : ℕ) (e : Event) → KeepsBut w (record (apply w (closing w c)) { last = Some e }) c
unfolding apply
closed_so w c e = record {
  rest = record {
    nodes = refl;
    grows = omega arith;
    dialled = λ d within. none_dialled (nat_le w.next_conn d) (d - w.next_conn) (w.dialled d);
    running = λ n. refl;
    lives = λ n. refl;
    lowers = λ d apart. put-there w.lowers c ended_below d apart;
    replicas = λ n b apart. put_same w.replicas 0 0 n b;
  };
  conns = omega arith;
  replicas = λ n b. put_same w.replicas 0 0 n b;
}

closed_after : (w w1 : World) (c : ℕ) (e : Event) → outcome w e ≡ Some (apply w1 (closing w1 c)) → KeepsBut w1 (happens w e) c
closed_after w w1 c e out = subst (λ (v : World). KeepsBut w1 v c) (sym (happened w (apply w1 (closing w1 c)) e out)) (closed_so w1 c e)

closed_taken : (w : World) (x : Next) (v : World) (c : ℕ) → KeepsBut (down_taken w c x) v c → KeepsBut w v c
unfolding down_taken
closed_taken w x v c h = record {
  rest = record {
    nodes = h.rest.nodes;
    grows = h.rest.grows;
    dialled = h.rest.dialled;
    running = h.rest.running;
    lives = h.rest.lives;
    lowers = h.rest.lowers;
    replicas = h.rest.replicas;
  };
  conns = h.conns;
  replicas = h.replicas;
}

-- WHAT COMES FIRST

first_so : (m : Message) → is_write m ≡ true → SpellsText m → IsFirst (message m)
first_so (request (op.Write fields)) is h = h
first_so (request other) is h = cc
first_so (packet p) is h = cc
first_so (ack a) is h = cc
first_so (response q) is h = cc
first_so (read_status s) is h = cc
first_so (recovery_answer a) is h = cc

pipeline_so : (u : parts.Upper) → is_pipeline u ≡ true → purpose_of u ≡ pipeline
pipeline_so (by_writer b) h = refl
pipeline_so (by_member d) h = refl
pipeline_so (by_reader i) h = cc
pipeline_so (by_primary i place) h = cc

module _ {F R I O : Type 0} (r : roads.Ghosts R I O) (i : link_in.Ghosts I) (o : link_out.Ghosts O) where
  -- An end that has taken nothing yet stands at the connection.
  pub record IdleAt (w : World) (net : Net) (c : ℕ) (n : Nodes F I O) : Type 0 where
    pub at : Connection I O
    pub end : Conn I O
    pub found : slice_get n.connections.items c ≡ Some at
    pub lower : at.lower ≡ lower.Idle end
    pub before : c < w.next_conn
    pub end_is : IsEndOf i o w net c true end
    pub of_pipeline : IsOfPipeline w c

  idle_so : (w : World) (net : Net) (c : ℕ) (n : Nodes F I O) (at : Connection I O) (real : Lower I O) → slice_get n.connections.items c ≡ Some at → at.lower ≡ real → c < w.next_conn → IsOfPipeline w c → stands_here real ≡ true → has_events w c ≡ true
      → LowerShows i o w net c n idle real → IdleAt w net c n
  idle_so w net c n at (lower.Idle end) found is before of here events h = record { at = at; end = end; found = found; lower = is; before = before; end_is = h.1; of_pipeline = of }
  idle_so w net c n at lower.Ended found is before of here events h = cc
  idle_so w net c n at lower.Elsewhere found is before of here events h = cc
  idle_so w net c n at real found is before of here events h = absurd h

  pub idle_at : (w : World) (net : Net) (road : R) (c : ℕ) (n : Nodes F I O) → NodesStand r i o w net road n → IsOfPipeline w c → has_events w c ≡ true → w.lowers c ≡ idle → IdleAt w net c n
  idle_at w net road c n stands of events is =
      let served : is_served w c ≡ true = and-left (is_served w c) (is_open (w.lowers c)) events in
      let before : c < w.next_conn = served_within w c served in
      let at = element n.connections.items c (subst (λ (k : ℕ). c < k) (sym stands.nodes_are.count) before) in
      let shows = stands.nodes_are.each c at.0 at.1 in
      idle_so w net c n at.0 at.0.lower at.1 refl before of (shows.here ∙ of before) events (subst (λ (l : parts.Lower). LowerShows i o w net c n l at.0.lower) is shows.lower_is)

  -- What is first, in a world as it must be.
  pub begins : (w : World) (net : Net) (c : ℕ) (n : Nodes F I O) (x : Next) → Ordered w → TakesInOrder w → Written w → IdleAt w net c n → w.lowers c ≡ idle → ComesDown w c x → CanBegin w c x
  begins w net c n the_end ordered taken written k is comes = record { comes = comes; first = tt }
  begins w net c n (message m) ordered taken written k is comes = record {
    comes = comes;
    first = first_so m (ap (λ (p : Purpose). comes_down p true m) (sym (pipeline_so (w.dialled c).upper (k.of_pipeline k.before))) ∙ taken.first c m is comes.next)
        (written.downs c (w.down_marks c).taken m (next-found (w.downs c) (w.down_marks c) m comes.next));
  }

  -- THE END CAME

  pub ended_left : (w : World) (net : Net) (road road' : R) (conn : ConnId) (x : Next) (old new : Nodes F I O) → Ordered w → NodesStand r i o w net road old → (k : IdleAt w net conn.0 old) → w.lowers conn.0 ≡ idle → ComesDown w conn.0 x
      → TakesIdle old new conn.0 (Some k.end) → HasEnded r i o w net (happens w (event.Down conn true)) conn.0 x road' → NodesLeft r i o w net (happens w (event.Down conn true)) road' new
  ended_left w net road road' conn x old new ordered stands k is comes t h =
      let c : ℕ = conn.0 in
      let e = event.Down conn true in
      let v : World = happens w e in
      let w1 : World = down_taken w c x in
      let out : outcome w e ≡ Some (apply w1 (closing w1 c)) = (down-makes w conn true x comes).other is (subst IsNoRequest (sym h.is_end) tt) in
      let keeps : KeepsBut w v c = closed_taken w x v c (closed_after w w1 c e out) in
      let ended : Connection I O = with_lower k.at lower.Ended in
      let of : IsOfEvent i o w v net h.made c None 0 = record {
        ordered = ordered;
        before = k.before;
        dialled = tt;
        rest = keeps.rest;
        over = λ d apart. (followed w (apply w1 (closing w1 c)) e out).over d false ∙ (changed-over w1 (closing w1 c) d false ∙ taken-over w d false c true x (λ same. refl));
        others = h.others;
      } in
      let is_left : IsLeft i o w v h.made c old new k.at ended [] = record {
        found = k.found;
        set = t.set k.at k.found ∙ sym (append-nil (slice_set old.connections.items c ended));
        count = omega (arith, keeps.conns);
        upper = refl;
        node = refl;
        mirror = (stands.nodes_are.each c k.at k.found).mirror ∙ (ap mirror_of is ∙ sym (ap mirror_of h.lower));
        here = sym (ap (λ (l : Lower I O). stands_here l) k.lower);
        shows = subst (λ (l : parts.Lower). LowerShows i o v h.made c new l lower.Ended) (sym h.lower) (never_so (is_served v c) (is_open (v.lowers c)) (ap is_open h.lower));
        added = λ n y none. cc;
        blocks = t.blocks;
      } in
      record {
        made = h.made;
        stands = record {
          roads_are = h.roads_are;
          nodes_are = nodes_after i o w v net h.made c None 0 old new k.at ended [] stands.nodes_are of is_left
              (λ n p block book at_p found. stands.nodes_are.books n p block book (sym (ap (λ (xs : List BlockId). slice_get xs p) t.blocks) ∙ at_p)
              (sym (ap (λ (xs : List (NodeBooks F)). book_at xs n p) t.nodes) ∙ found) ∙ sym (keeps.replicas n block.0))
              (λ n p block within at_p. subst (λ (xs : List (NodeBooks F)). IsSome (book_at xs n p)) (sym t.nodes)
              (stands.nodes_are.has_books n p block (subst (λ (q : ℕ). n < q) keeps.rest.nodes within) (sym (ap (λ (xs : List BlockId). slice_get xs p) t.blocks) ∙ at_p)));
        };
        writers = writers_after i o w v net h.made c None 0 of;
        elsewhere = elsewhere_after i o w v net h.made c None 0 (k.of_pipeline k.before) of;
        pipelines = pipelines_stay w v keeps.rest.dialled keeps.conns;
      }
