-- Nodes that show a world show the world after a lower end that is kept elsewhere acted.
use Rattle.std.proofs.Common.{◌≡◌, ◌<◌, ℕ, Bool, true, false, List, [], slice_get, slice_set, Some, None, IsSome, ◌⊎◌, inl, inr, refl, sym, ap, ◌∙◌, subst, arith, append-nil}
use Rattle.hd_base.specs.declared.links.LinkIn as link_in
use Rattle.hd_base.specs.declared.links.LinkOut as link_out
use Rattle.hd_base.specs.declared.numbers.BlockId.{BlockId}
use Rattle.member_events.specs.ReplicaFiles.BookState.{BookState}
use Rattle.member_events.specs.ReplicaFiles.Books.{replica_of}
use Rattle.road_traffic.specs.Showing.{Net}
use Rattle.play_model.specs.World.Parts as parts
use Rattle.play_model.specs.World.Parts.{Message, idle, writes, serves, recovers, ended_below}
use Rattle.play_model.specs.World.Worlds.{World}
use Rattle.play_model.specs.World.Nodes.{node_of}
use Rattle.world_orders.specs.Orders.{Ordered, IsBelow}
use Rattle.play_model.specs.Lines.{mirror_of}
use Rattle.play_nodes.specs.declared.connections.Connection.{Connection}
use Rattle.play_nodes.specs.declared.nodes.Nodes.{Nodes}
use Rattle.play_nodes.specs.Elsewhere.{ActsElsewhere}
use Rattle.play_nodes.specs.Places.{book_at}
use Rattle.play_nodes.specs.Showing.{is_pipeline, NodesShow}
use Rattle.play_nodes.proofs.Tables.{element, set_same, same_or}
use Rattle.play_nodes.proofs.NodeFrames.{IsOfEvent, IsLeft, away_shows, nodes_after}
use Rattle.play_nodes.proofs.TakeNodes.{pipeline_of}

true_false : (b : Bool) → b ≡ true → b ≡ false → ⊥
true_false b x y = cc

-- A lower end that is none of a pipeline is no member, and has no mirror.
mirror_so : (u : parts.Upper) (taken : ℕ) (ups : List Message) (l : parts.Lower) → IsBelow u taken ups l → is_pipeline u ≡ false → mirror_of l ≡ None
mirror_so u taken ups (writes m) below away = absurd (true_false (is_pipeline u) (pipeline_of u below.writes) away)
mirror_so u taken ups idle below away = refl
mirror_so u taken ups (serves b s) below away = refl
mirror_so u taken ups recovers below away = refl
mirror_so u taken ups ended_below below away = refl

mirror_none : (w : World) (c : ℕ) → Ordered w → is_pipeline (w.dialled c).upper ≡ false → mirror_of (w.lowers c) ≡ None
mirror_none w c ordered away = mirror_so (w.dialled c).upper (w.down_marks c).taken (w.ups c) (w.lowers c) (ordered.below c) away

module _ {F I O : Type 0} (i : link_in.Ghosts I) (o : link_out.Ghosts O) where
  module _ (w : World) (net : Net) (v : World) (made : Net) (c : ℕ) (old new : Nodes F I O) (h : ActsElsewhere i o w net v made c old new) where
    of_event : IsOfEvent i o w v net made c None h.block
    of_event = record {
      ordered = h.ordered;
      before = h.within;
      dialled = tt;
      rest = record {
        nodes = h.keeps.nodes;
        grows = omega (arith, h.keeps.conns);
        dialled = λ d within. h.keeps.dialled d;
        running = h.keeps.running;
        lives = h.keeps.lives;
        lowers = h.keeps.lowers;
        replicas = h.keeps.replicas;
      };
      over = λ d apart. h.keeps.over d;
      others = h.others;
    }

    left_at : (at : Connection I O) → slice_get old.connections.items c ≡ Some at → IsLeft i o w v made c old new at at []
    left_at at found =
        let shows = h.nodes_are.each c at found in
        record {
          found = found;
          set = h.books.connections ∙ sym (append-nil (slice_set old.connections.items c at) ∙ set_same old.connections.items c at found);
          count = omega (arith, h.keeps.conns);
          upper = refl;
          node = refl;
          mirror = shows.mirror ∙ (mirror_none w c h.ordered h.elsewhere ∙
              sym (mirror_none v c h.ordered_after (ap (λ (d : parts.Dialled). is_pipeline d.upper) (h.keeps.dialled c) ∙ h.elsewhere)));
          here = refl;
          shows = away_shows i o v made c new (v.lowers c) at.lower (shows.here ∙ h.elsewhere);
          added = λ k x none. cc;
          blocks = h.books.blocks;
        }

    book_by : (n place : ℕ) (block : BlockId) (book : BookState F) → slice_get new.blocks.items place ≡ Some block → book_at new.nodes.items n place ≡ Some book → ((n ≡ node_of w c) ⊎ (n ≡ node_of w c → ⊥)) → replica_of book ≡ v.replicas n block.0
    book_by n place block book at found (inl same) =
        h.books.each place block book at (ap (λ (q : ℕ). book_at new.nodes.items q place) (sym same) ∙ found) ∙ ap (λ (q : ℕ). v.replicas q block.0) (sym same)
    book_by n place block book at found (inr apart) =
        h.nodes_are.books n place block book (ap (λ (xs : List BlockId). slice_get xs place) (sym h.books.blocks) ∙ at) (sym (h.books.others n place apart) ∙ found) ∙
        sym (h.keeps.replicas n block.0 (λ same k. apart same))

    has_by : (n place : ℕ) (block : BlockId) → n < v.nodes → slice_get new.blocks.items place ≡ Some block → ((n ≡ node_of w c) ⊎ (n ≡ node_of w c → ⊥)) → IsSome (book_at new.nodes.items n place)
    has_by n place block within at (inl same) = subst (λ (q : ℕ). IsSome (book_at new.nodes.items q place)) (sym same) (h.books.all place block at)
    has_by n place block within at (inr apart) =
        subst IsSome (sym (h.books.others n place apart))
        (h.nodes_are.has_books n place block (subst (λ (q : ℕ). n < q) h.keeps.nodes within) (ap (λ (xs : List BlockId). slice_get xs place) (sym h.books.blocks) ∙ at))

    pub nodes_followed : NodesShow i o v made new
    nodes_followed =
        let at = element old.connections.items c (subst (λ (k : ℕ). c < k) (sym h.nodes_are.count) h.within) in
        nodes_after i o w v net made c None h.block old new at.0 at.0 [] h.nodes_are of_event (left_at at.0 at.1)
        (λ n place block book at_place found. book_by n place block book at_place found (same_or n (node_of w c)))
        (λ n place block within at_place. has_by n place block within at_place (same_or n (node_of w c)))
