-- Nodes that show a world show the world after an event that keeps all that they show.
use Rattle.std.proofs.Common.{◌≡◌, ◌<◌, ◌+◌, ◌++◌, ℕ, zero, suc, List, [], ◌∷◌, length, slice_get, Option, Some, None, IfSome, Bool, true, false, IsSome, Result, Ok, Err, inl, inr, refl, sym, ap, ◌∙◌, subst, arith, length-append}
use Rattle.std.proofs.lemmas.List.{append-nil}
use Rattle.hd_base.specs.declared.ends.Conn.{Conn}
use Rattle.hd_base.specs.declared.links.LinkIn as link_in
use Rattle.hd_base.specs.declared.links.LinkOut as link_out
use Rattle.hd_base.specs.declared.numbers.BlockId.{BlockId}
use Rattle.hd_base.specs.declared.numbers.NodeId.{NodeId}
use Rattle.member_events.specs.LinkMessages.Incomings.{IncomingState}
use Rattle.member_events.specs.PipeMember.Member.{Member}
use Rattle.road_traffic.specs.Showing.{Net}
use Rattle.play_model.specs.World.Parts as parts
use Rattle.play_model.specs.World.Parts.{Dialled, by_writer, by_member, FullMember, idle, writes}
use Rattle.play_model.specs.World.Worlds.{World}
use Rattle.play_model.specs.World.Connections.{is_served}
use Rattle.member_events.specs.WorldNets.Ends.{IsElsewhere}
use Rattle.member_events.specs.WorldNets.Nets.{IsEndOf}
use Rattle.world_orders.specs.Orders.{Ordered, WriterIs}
use Rattle.member_events.specs.Showing.{MirrorShows, NoneReceived, MemberShows}
use Rattle.play_model.specs.Dues.{is_open}
use Rattle.play_model.specs.Lines.{mirror_of}
use Rattle.play_nodes.specs.declared.connections.Connection.{Connection}
use Rattle.play_nodes.specs.declared.connections.Lower.{Lower}
use Rattle.play_nodes.specs.declared.connections.Lower.TheVariants as lower
use Rattle.play_nodes.specs.declared.connections.Upper.TheVariants as upper
use Rattle.play_nodes.specs.declared.faults.NodesFault.{NodesFault}
use Rattle.play_nodes.specs.declared.nodes.NodeBooks.{NodeBooks}
use Rattle.play_nodes.specs.declared.nodes.Nodes.{Nodes}
use Rattle.play_nodes.specs.Elsewhere.{made_elsewhere, IsBehind, IsReads, ReadShows}
use Rattle.play_nodes.specs.Places.{book_at}
use Rattle.play_nodes.specs.Showing.{UpperShows, OriginShows, is_pipeline, has_events, LowerShows, ConnectionShows, NodesShow}
use Rattle.play_nodes.specs.Frames.{KeepsNodes, EndsStay, IsKept, DialShows}
use Rattle.play_nodes.proofs.Tables.{JoinedOr, joined_or}
use Rattle.play_nodes.proofs.PlaceLaws.{element_within}
use Rattle.play_nodes.proofs.WorldFrames.{KeepsRest}
use Rattle.play_nodes.proofs.NodeFrames.{served_as, node_as, away_shows, DialledBy, dialled_by}
use Rattle.play_nodes.proofs.MemberNodes.{both_so}

-- THE WORLD

rest_kept : (w v : World) → KeepsNodes w v → KeepsRest w v 0 0 0
rest_kept w v k = record {
  nodes = k.nodes;
  grows = k.grows;
  dialled = k.dialled;
  running = k.running;
  lives = k.lives;
  lowers = λ d apart. k.lowers d;
  replicas = λ n b apart. k.replicas n b;
}

events_kept : (w v : World) (d : ℕ) → KeepsNodes w v → d < w.next_conn → has_events v d ≡ has_events w d
events_kept w v d k within = rw (served_as w v 0 0 0 d (rest_kept w v k) within, k.lowers d) refl

node_kept : (w v : World) (d : ℕ) → KeepsNodes w v → d < w.next_conn → (v.dialled d).to.node ≡ (w.dialled d).to.node
node_kept w v d k within = node_as w v 0 0 0 d (rest_kept w v k) within

-- CONNECTIONS

module _ {I O : Type 0} (i : link_in.Ghosts I) (o : link_out.Ghosts O) (w : World) (net : Net) (v : World) (made : Net) where
  mirror_kept : (c : ℕ) (mirror : Option ℕ) (e : Option (Conn I O)) → EndsStay i o w net v made → DialledBy w c mirror → MirrorShows i o w net mirror e → MirrorShows i o v made mirror e
  mirror_kept c None None k by h = tt
  mirror_kept c None (Some e) k by h = h
  mirror_kept c (Some d) None k by h = h
  mirror_kept c (Some d) (Some e) k by h = k.uppers c d e by h

  received_kept : (c : ℕ) (mirror : Option ℕ) (received : IncomingState) → KeepsNodes w v → DialledBy w c mirror → NoneReceived w mirror received → NoneReceived v mirror received
  received_kept c None received k by h = tt
  received_kept c (Some d) received k by h = λ z. h (sym (k.over c d by) ∙ z)

module _ {F I O : Type 0} (i : link_in.Ghosts I) (o : link_out.Ghosts O) (w : World) (net : Net) (v : World) (made : Net) (old : Nodes F I O) (k : IsKept i o w net v made old) where
  member_kept : (c : ℕ) (full : FullMember) (m : Member I O) → c < w.next_conn → w.lowers c ≡ writes full → MemberShows i o w net c full m → MemberShows i o v made c full m
  member_kept c full m within is h =
      let by : DialledBy w c full.mirror = dialled_by w c full k.ordered is in
      record {
        node = h.node ∙ sym (node_kept w v c k.keeps within);
        op = h.op;
        stage_is = h.stage_is;
        holds = h.holds;
        upstream = k.ends.lowers c m.upstream h.upstream;
        mirror = mirror_kept i o w net v made c full.mirror m.mirror k.ends by h.mirror;
        above = h.above;
        below_next = h.below_next;
        below = received_kept i o w net v made c full.mirror m.below.received k.keeps by h.below;
      }

  lower_kept : (c : ℕ) (new : Nodes F I O) (l : parts.Lower) (real : Lower I O) → c < w.next_conn → new.blocks.items ≡ old.blocks.items → w.lowers c ≡ l → LowerShows i o w net c old l real → LowerShows i o v made c new l real
  lower_kept c new idle (lower.Idle end) within blocks is h = (events_kept w v c k.keeps within ∙ h.0, k.ends.lowers c end h.1)
  lower_kept c new (writes full) (lower.Member m place) within blocks is h = (
    events_kept w v c k.keeps within ∙ h.0,
    record {
      shows = member_kept c full m within is h.1.shows;
      block = h.1.block;
      at_place = ap (λ (xs : List BlockId). slice_get xs place) blocks ∙ h.1.at_place;
      of_block = h.1.of_block;
    },
  )
  lower_kept c new l lower.Ended within blocks is h = events_kept w v c k.keeps within ∙ h
  lower_kept c new l lower.Elsewhere within blocks is h = tt
  lower_kept c new l real within blocks is h = absurd h

  conn_kept : (c : ℕ) (new : Nodes F I O) (x : Connection I O) → c < w.next_conn → new.blocks.items ≡ old.blocks.items → ConnectionShows i o w net c old x → ConnectionShows i o v made c new x
  conn_kept c new x within blocks h = record {
    upper_is = subst (λ (u : Dialled). UpperShows u.upper x.upper) (sym (k.keeps.dialled c within)) h.upper_is;
    origin = subst (λ (u : Dialled). OriginShows u.from x.upper) (sym (k.keeps.dialled c within)) h.origin;
    node = h.node ∙ sym (node_kept w v c k.keeps within);
    mirror = h.mirror ∙ ap mirror_of (sym (k.keeps.lowers c));
    here = h.here ∙ ap (λ (u : Dialled). is_pipeline u.upper) (sym (k.keeps.dialled c within));
    lower_is = subst (λ (l : parts.Lower). LowerShows i o v made c new l x.lower) (sym (k.keeps.lowers c))
        (lower_kept c new (w.lowers c) x.lower within blocks refl h.lower_is);
  }

  -- What is added to the connections.
  pub record IsMore (new : Nodes F I O) (more : List (Connection I O)) : Type 0 where
    pub set : new.connections.items ≡ old.connections.items ++ more
    pub count : v.next_conn ≡ w.next_conn + length more
    pub blocks : new.blocks.items ≡ old.blocks.items
    pub nodes : new.nodes.items ≡ old.nodes.items
    pub added : (j : ℕ) (x : Connection I O) → slice_get more j ≡ Some x → ConnectionShows i o v made (w.next_conn + j) new x

  each_kept : (new : Nodes F I O) (more : List (Connection I O)) (c : ℕ) (x : Connection I O) → IsMore new more → JoinedOr old.connections.items more c x → ConnectionShows i o v made c new x
  each_kept new more c x m (inl here) =
      conn_kept c new x (subst (λ (n : ℕ). c < n) k.nodes_are.count (element_within old.connections.items c x here)) m.blocks (k.nodes_are.each c x here)
  each_kept new more c x m (inr behind) =
      subst (λ (n : ℕ). ConnectionShows i o v made n new x) (sym (behind.1.0 ∙ ap (λ (n : ℕ). n + behind.0) k.nodes_are.count)) (m.added behind.0 x behind.1.1)

  pub all_kept : (new : Nodes F I O) (more : List (Connection I O)) → IsMore new more → NodesShow i o v made new
  all_kept new more m = record {
    count = ap length m.set ∙ (length-append old.connections.items more ∙ (ap (λ (n : ℕ). n + length more) k.nodes_are.count ∙ sym m.count));
    distinct = λ j q a b at_j at_q. k.nodes_are.distinct j q a b (sym (ap (λ (xs : List BlockId). slice_get xs j) m.blocks) ∙ at_j) (sym (ap (λ (xs : List BlockId). slice_get xs q) m.blocks) ∙ at_q);
    each = λ c x found. each_kept new more c x m
        (joined_or old.connections.items more c x (sym (ap (λ (xs : List (Connection I O)). slice_get xs c) m.set) ∙ found));
    books = λ n p block book at_p found.
        k.nodes_are.books n p block book (sym (ap (λ (xs : List BlockId). slice_get xs p) m.blocks) ∙ at_p) (sym (ap (λ (xs : List (NodeBooks F)). book_at xs n p) m.nodes) ∙ found) ∙
        sym (k.keeps.replicas n block.0);
    has_books = λ n p block within at_p. subst (λ (xs : List (NodeBooks F)). IsSome (book_at xs n p)) (sym m.nodes)
        (k.nodes_are.has_books n p block (subst (λ (q : ℕ). n < q) k.keeps.nodes within) (sym (ap (λ (xs : List BlockId). slice_get xs p) m.blocks) ∙ at_p));
  }

  -- Nothing was dialled.
  pub nodes_kept : v.next_conn ≡ w.next_conn → NodesShow i o v made old
  nodes_kept same = all_kept old [] (record {
    set = sym (append-nil old.connections.items);
    count = omega (arith, same);
    blocks = refl;
    nodes = refl;
    added = λ j x found. cc;
  })

  -- One connection was dialled.
  one_kept : (new : Nodes F I O) (x : Connection I O) → new.connections.items ≡ old.connections.items ++ x ∷ [] → new.blocks.items ≡ old.blocks.items → new.nodes.items ≡ old.nodes.items → v.next_conn ≡ w.next_conn + 1 → ConnectionShows i o v made w.next_conn new x → NodesShow i o v made new
  one_kept new x set blocks nodes next shows = all_kept new (x ∷ []) (record {
    set = set;
    count = next;
    blocks = blocks;
    nodes = nodes;
    added = λ j y found. only_one j y found;
  })
    where
      same_some : (p q : Connection I O) → Some p ≡ Some q → p ≡ q
      same_some p q e = cc

      only_one : (j : ℕ) (y : Connection I O) → slice_get (x ∷ []) j ≡ Some y → ConnectionShows i o v made (w.next_conn + j) new y
      only_one zero y found = subst (λ (n : ℕ). ConnectionShows i o v made n new y) (omega arith) (subst (λ (z : Connection I O). ConnectionShows i o v made w.next_conn new z) (same_some x y found) shows)
      only_one (suc j) y found = cc

  -- The writer of a block dialled.
  pub dial_kept : (new : Nodes F I O) (block : BlockId) (node : NodeId) (end : Conn I O) (x : Connection I O) → x ≡ record { upper = upper.Writer block; node = node; lower = lower.Idle end; mirror = None }
      → new.connections.items ≡ old.connections.items ++ x ∷ [] → new.blocks.items ≡ old.blocks.items → new.nodes.items ≡ old.nodes.items → v.next_conn ≡ w.next_conn + 1 → DialShows i o v made block node w.next_conn end → NodesShow i o v made new
  dial_kept new block node end x is set blocks nodes next d =
      one_kept new x set blocks nodes next (subst (λ (z : Connection I O). ConnectionShows i o v made w.next_conn new z) (sym is) shows)
    where
      made_so : Connection I O
      made_so = record { upper = upper.Writer block; node = node; lower = lower.Idle end; mirror = None }

      shows : ConnectionShows i o v made w.next_conn new made_so
      shows = record {
        upper_is = subst (λ (u : parts.Upper). UpperShows u (upper.Writer block)) (sym d.upper) refl;
        origin = tt;
        node = sym d.node_is;
        mirror = sym (ap mirror_of d.idle_is);
        here = sym (ap is_pipeline d.upper);
        lower_is = subst (λ (l : parts.Lower). LowerShows i o v made w.next_conn new l (lower.Idle end)) (sym d.idle_is)
            (both_so (is_served v w.next_conn) (is_open (v.lowers w.next_conn)) d.served (ap is_open d.idle_is), d.end_is);
      }

  -- A reader dialled.
  read_kept : (new : Nodes F I O) (reader : ℕ) (node : NodeId) → new.connections.items ≡ old.connections.items ++ made_elsewhere (upper.Reader reader) node ∷ [] → new.blocks.items ≡ old.blocks.items → new.nodes.items ≡ old.nodes.items
      → v.next_conn ≡ w.next_conn + 1 → IsReads v reader node w.next_conn → NodesShow i o v made new
  read_kept new reader node set blocks nodes next d = one_kept new (made_elsewhere (upper.Reader reader) node) set blocks nodes next (record {
    upper_is = subst (λ (u : parts.Upper). UpperShows u (upper.Reader reader)) (sym d.upper) refl;
    origin = tt;
    node = sym d.node_is;
    mirror = sym (ap mirror_of d.idle_is);
    here = sym (ap is_pipeline d.upper);
    lower_is = away_shows i o v made w.next_conn new (v.lowers w.next_conn) lower.Elsewhere refl;
  })

module _ {F I O : Type 0} (i : link_in.Ghosts I) (o : link_out.Ghosts O) (reader : ℕ) (node : NodeId) (old new : Nodes F I O) where
  pub read_shows : (result : Result (Unit {0}) NodesFault) → IsBehind (upper.Reader reader) node old new result → ReadShows i o reader node old new result
  read_shows (Ok u) b = λ w net v made k next d.
      read_kept i o w net v made old k new reader node b.connections (ap (λ (x : Nodes F I O). x.blocks.items) b.same) (ap (λ (x : Nodes F I O). x.nodes.items) b.same) next d
  read_shows (Err why) b = b

-- THE ENDS OF THE NODES

module _ {I O : Type 0} (i : link_in.Ghosts I) (o : link_out.Ghosts O) (w : World) where
  -- an end that is a lower one, or of a connection that a member dialled, isn't the writer's
  lower_elsewhere : (conn : Option ℕ) (d : ℕ) → IfSome conn (λ c. IsElsewhere c false d true)
  lower_elsewhere None d = tt
  lower_elsewhere (Some c) d = λ same. refl

  upper_elsewhere : (b c d : ℕ) (conn : Option ℕ) → WriterIs w.dialled w.up_marks b (record (w.writers b) { conn = conn }) → (w.dialled d).upper ≡ by_member c → IfSome conn (λ e. IsElsewhere e false d false)
  upper_elsewhere b c d None is by = tt
  upper_elsewhere b c d (Some e) is by = λ same. absurd (never (sym is.upper ∙ (ap (λ (n : ℕ). (w.dialled n).upper) same ∙ by)))
    where
      never : by_writer b ≡ by_member c → ⊥
      never x = cc

  pub ends_stay : (net : Net) (v : World) (made : Net) (b : ℕ) → Ordered w → ((d : ℕ) (lower : Bool) (e : Conn I O) → IfSome (w.writers b).conn (λ c. IsElsewhere c false d lower) → IsEndOf i o w net d lower e → IsEndOf i o v made d lower e) → EndsStay i o w net v made
  ends_stay net v made b ordered others = record {
    lowers = λ d e is. others d true e (lower_elsewhere (w.writers b).conn d) is;
    uppers = λ c d e by is. others d false e (upper_elsewhere b c d (w.writers b).conn (ordered.writers_are b) by) is;
  }
