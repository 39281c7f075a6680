-- An event of a lower end leaves reads and nodes that show the world after.
use Rattle.std.proofs.Common.{◌≡◌, ◌<◌, ℕ, Bool, true, false, List, slice_get, slice_set, Option, Some, None, IsSome, ◌⊎◌, inl, inr, refl, sym, ap, ◌∙◌, subst, arith}
use Rattle.std.specs.Prelude.{option_and_then}
use Rattle.hd_base.specs.declared.files.Files as files
use Rattle.hd_base.specs.declared.links.LinkIn as link_in
use Rattle.hd_base.specs.declared.links.LinkOut as link_out
use Rattle.hd_base.specs.declared.numbers.BlockId.{BlockId}
use Rattle.hd_base.specs.declared.numbers.ConnId.{ConnId}
use Rattle.hd_base.specs.declared.numbers.NodeId.{NodeId}
use Rattle.hd_base.specs.declared.roads.Roads as roads
use Rattle.road_traffic.specs.Showing.{Net}
use Rattle.world.specs.Nodes.{node_of}
use Rattle.world.specs.Parts.{Dialled}
use Rattle.world.specs.Worlds.{World}
use Rattle.play_nodes.specs.WorldLaws.Placing.{Placed}
use Rattle.play_servers.specs.WorldNets.Ends.{IsElsewhere}
use Rattle.play_servers.specs.WorldNets.Nets.{is_over}
use Rattle.play_nodes.specs.WorldOrders.Orders.{Ordered, purpose_of, reading}
use Rattle.play_nodes.specs.MemberEvents.Showing.{IsNoneOf}
use Rattle.play_nodes.specs.declared.nodes.NodeBooks.{NodeBooks}
use Rattle.play_nodes.specs.declared.nodes.Nodes.{Nodes}
use Rattle.play_nodes.specs.Elsewhere.{NodeShows, NodesFollow}
use Rattle.play_nodes.specs.Events.{DrawerFailed}
use Rattle.play_nodes.specs.Places.{book_at}
use Rattle.play_nodes.specs.Showing.{NodesShow}
use Rattle.play_nodes.proofs.PlaceLaws.{book_found, same_some}
use Rattle.play_nodes.proofs.Tables.{SetOr, set_or, set_here, set_there, same_or}
use Rattle.play_primaries.specs.PlayReaders.Frames.{KeepsReaders}
use Rattle.play_primaries.specs.PlayReaders.Staying.{ReadClientsStay}
use Rattle.play_servers.specs.declared.servers.ReadServer.{ReadServer}
use Rattle.play_servers.specs.Events as servers
use Rattle.play_servers.specs.Showing as showing
use Rattle.play_reads.specs.declared.reads.Reads.{Reads}
use Rattle.play_reads.specs.Keeping.{KeepsServed}
use Rattle.play_reads.specs.Left.{ReadsLeft}
use Rattle.play_primaries.specs.PlayReaders.Asks.{asks_of}
use Rattle.play_nodes.specs.Numbers.{IsNumbered}
use Rattle.play_reads.specs.Places.{ConnsAscend, HasServer, HasClient}
use Rattle.play_reads.specs.Showing.{ClientsShow, IsServer, ServersShow, ReadsStand}
use Rattle.play_reads.proofs.ClientLaws.{no_recovery_reads}
use Rattle.play_reads.proofs.FrameLaws.{reads_elsewhere}
use Rattle.play_reads.proofs.KeepLaws.{server_kept, clients_kept}
use Rattle.play_nodes.proofs.Numbers.{same_place, ascend_same}

-- The books of a node have changed, and nothing else of the nodes.
pub record BooksChanged {F I O : Type 0} (n n' : Nodes F I O) (node : ℕ) (x x' : NodeBooks F) : Type 0 where
  pub found : slice_get n.nodes.items node ≡ Some x
  pub blocks : n'.blocks.items ≡ n.blocks.items
  pub connections : n'.connections.items ≡ n.connections.items
  pub nodes : n'.nodes.items ≡ slice_set n.nodes.items node x'

module _ {F I O : Type 0} (n n' : Nodes F I O) (node : ℕ) (x x' : NodeBooks F) (set : BooksChanged n n' node x x') where
  pub here_before : (place : ℕ) → book_at n.nodes.items node place ≡ slice_get x.books.items place
  here_before place = book_found n.nodes.items node place x set.found

  pub here_after : (place : ℕ) → book_at n'.nodes.items node place ≡ slice_get x'.books.items place
  here_after place =
      ap (λ (xs : List (NodeBooks F)). book_at xs node place) set.nodes ∙ book_found (slice_set n.nodes.items node x') node place x' (set_here n.nodes.items node x x' set.found)

  pub elsewhere_same : (m place : ℕ) → (m ≡ node → ⊥) → book_at n'.nodes.items m place ≡ book_at n.nodes.items m place
  elsewhere_same m place apart =
      ap (λ (xs : List (NodeBooks F)). book_at xs m place) set.nodes ∙
      ap (λ (y : Option (NodeBooks F)). option_and_then (λ z. slice_get z.books.items place) y) (set_there n.nodes.items node x' m apart)

-- The server of a connection is another one, of the same connection.
pub record ServerChanged {I O : Type 0} (old new : Reads I O) (place : ℕ) (s s' : ReadServer I O) : Type 0 where
  pub at : slice_get old.servers.items place ≡ Some s
  pub set : new.servers.items ≡ slice_set old.servers.items place s'
  pub conn : s'.conn ≡ s.conn
  pub clients : new.clients ≡ old.clients

module _ {I O : Type 0} (xs : List (ReadServer I O)) (place : ℕ) (s s' : ReadServer I O) (at : slice_get xs place ≡ Some s) (conn : s'.conn ≡ s.conn) where
  number : s'.conn.0 ≡ s.conn.0
  number = ap (λ (c : ConnId). c.0) conn

  was_there : (k : ℕ) (a : ReadServer I O) → slice_get (slice_set xs place s') k ≡ Some a → IsNumbered (λ x. x.conn.0) xs a.conn.0 k
  was_there k a is = by (set_or xs place s' k a is)
    where
      by : SetOr xs place s' k a → IsNumbered (λ x. x.conn.0) xs a.conn.0 k
      by (inl x) = record {
        found = s;
        at = ap (λ (m : ℕ). slice_get xs m) x.0 ∙ at;
        same = sym (ap (λ (y : ReadServer I O). y.conn.0) x.1 ∙ ap (λ (c : ConnId). c.0) conn);
      }
      by (inr x) = record { found = a; at = x.1; same = refl }

  pub ascend_set : ConnsAscend xs → ConnsAscend (slice_set xs place s')
  ascend_set up = ascend_same (λ x. x.conn.0) xs up (slice_set xs place s') was_there

  pub has_server_set : (c : ℕ) → HasServer xs c → HasServer (slice_set xs place s') c
  has_server_set c h = by (same_or h.place place)
    where
      by : ((h.place ≡ place) ⊎ (h.place ≡ place → ⊥)) → HasServer (slice_set xs place s') c
      by (inl here) = record {
        place = place;
        server = s';
        at = set_here xs place s s' at;
        of_conn = ap (λ (q : ConnId). q.0) conn ∙
            (ap (λ (y : ReadServer I O). y.conn.0) (same_some s h.server (sym at ∙ (ap (λ (k : ℕ). slice_get xs k) (sym here) ∙ h.at))) ∙ h.of_conn);
      }
      by (inr away) = record { place = h.place; server = h.server; at = set_there xs place s' h.place away ∙ h.at; of_conn = h.of_conn }

module _ {F R I O : Type 0} (f : files.Ghosts F) (r : roads.Ghosts R I O) (i : link_in.Ghosts I) (o : link_out.Ghosts O) where
  -- BEFORE

  -- The books of the node of a connection are those of its replicas.
  pub books_before : (w : World) (net : Net) (n : Nodes F I O) (c : ℕ) (x : NodeBooks F) → NodesShow i o w net n → Placed w → c < w.next_conn → slice_get n.nodes.items (node_of w c) ≡ Some x → showing.BooksShow w c n.blocks.items x.books.items
  books_before w net n c x shows placed within found = record {
    each = λ place block book at at_book. shows.books (node_of w c) place block book at (book_found n.nodes.items (node_of w c) place x found ∙ at_book);
    all = λ place block at. subst IsSome (book_found n.nodes.items (node_of w c) place x found) (shows.has_books (node_of w c) place block (placed.dialled c within).to at);
    distinct = shows.distinct;
  }

  -- AFTER

  module _ (w : World) (net : Net) (v : World) (road road' : R) (c : ℕ) (n n' : Nodes F I O) (x x' : NodeBooks F) (old new : Reads I O) (place : ℕ) (s s' : ReadServer I O) (h : ReadsStand r i o w net road n old) (set : BooksChanged n n' (node_of w c) x x') (changed : ServerChanged old new place s s') (of_conn : s.conn.0 ≡ c)
      (reads_there : purpose_of (w.dialled c).upper ≡ reading) (within : c < w.next_conn) (before : Ordered w) (after : Ordered v) (over : (d : ℕ) → is_over v d false ≡ is_over w d false) (left : servers.ServerLeft r i o w net v c n.blocks.items s'.end x'.books.items road') where
    none_of : (d : ℕ) (lower : Bool) → IsElsewhere c true d lower → IsNoneOf c None d lower
    none_of d lower e = (e, tt)

    node_same : node_of v c ≡ node_of w c
    node_same = ap (λ (d : Dialled). d.to.node) (left.rest.dialled c)

    node_shows : NodeShows v (node_of w c) n n'
    unfolding node_same
    node_shows = record {
      blocks = set.blocks;
      connections = set.connections;
      others = λ m p apart. elsewhere_same n n' (node_of w c) x x' set m p apart;
      each = λ p block book at at_book.
          left.books_are.each p block book (ap (λ (bs : List BlockId). slice_get bs p) (sym set.blocks) ∙ at) (sym (here_after n n' (node_of w c) x x' set p) ∙ at_book) ∙
          ap (λ (m : ℕ). v.replicas m block.0) node_same;
      all = λ p block at. subst IsSome (sym (here_after n n' (node_of w c) x x' set p)) (left.books_are.all p block (ap (λ (bs : List BlockId). slice_get bs p) (sym set.blocks) ∙ at));
    }

    pub nodes_after : NodesFollow f i o → NodesShow i o v left.made n'
    unfolding node_shows
    nodes_after follow = follow w net v left.made c n n' (record {
      nodes_are = h.nodes.nodes_are;
      ordered = before;
      ordered_after = after;
      within = within;
      elsewhere = reads_elsewhere (w.dialled c).upper reads_there;
      block = left.block;
      keeps = record {
        nodes = left.rest.nodes;
        conns = left.rest.conns;
        dialled = left.rest.dialled;
        running = left.rest.running;
        lives = left.rest.lives;
        lowers = left.rest.lowers;
        replicas = left.rest.replicas;
        over = over;
      };
      others = left.others;
      books = node_shows;
    })

    served : KeepsServed w v
    served = record { grows = omega (arith, left.rest.conns); dialled = λ d z. left.rest.dialled d; running = left.rest.running; lives = left.rest.lives }

    upper_end : (d : ℕ) → IsNoneOf c None d false
    upper_end d = ((λ same. refl), tt)

    each_after : (k : ℕ) (a : ReadServer I O) → SetOr old.servers.items place s' k a → IsServer i o v left.made n.blocks.items a
    unfolding served
    each_after k a (inl y) = subst (λ (z : ReadServer I O). IsServer i o v left.made n.blocks.items z) (sym y.1) (record {
      within = subst (λ (q : ℕ). q < v.next_conn) (sym (ap (λ (q : ConnId). q.0) changed.conn ∙ of_conn)) (subst (λ (q : ℕ). c < q) (sym left.rest.conns) within);
      shows = subst (λ (q : ℕ). showing.ServerShows i o v left.made q n.blocks.items s'.end) (sym (ap (λ (q : ConnId). q.0) changed.conn ∙ of_conn)) left.server;
    })
    each_after k a (inr y) =
        let apart : a.conn.0 ≡ c → ⊥ = λ same. y.0 (same_place (λ z. z.conn.0) old.servers.items h.reads_are.servers.ascend k place a s y.1 changed.at (same ∙ sym of_conn)) in
        server_kept i o w net v left.made n.blocks.items a served (left.rest.lowers a.conn.0 apart) (λ e is. left.others a.conn.0 true e (none_of a.conn.0 true (λ same. absurd (apart (sym same)))) is) (h.reads_are.servers.each k a y.1)

    servers_after : ServersShow i o v left.made n.blocks.items (slice_set old.servers.items place s')
    servers_after = record {
      each = λ k a at. each_after k a (set_or old.servers.items place s' k a at);
      ascend = ascend_set old.servers.items place s s' changed.at changed.conn h.reads_are.servers.ascend;
      all = λ d lt is. has_server_set old.servers.items place s s' changed.at changed.conn d
          (h.reads_are.servers.all d (subst (λ (q : ℕ). d < q) left.rest.conns lt) (sym (ap (λ (q : Dialled). purpose_of q.upper) (left.rest.dialled d)) ∙ is));
    }

    pub served_left : NodesFollow f i o → ReadClientsStay i o → KeepsReaders w v → ReadsLeft r i o w net v road' n' old new
    unfolding servers_after
    served_left follow stay readers = record {
      made = left.made;
      stands = record {
        nodes = record { roads_are = left.roads_are; nodes_are = nodes_after follow };
        reads_are = record {
          clients = subst (λ y. ClientsShow i o v left.made y.items) (sym changed.clients)
              (clients_kept i o w net v left.made n.blocks.items old.clients.items stay before readers (λ d e is y. left.others d false e (upper_end d) y) h.reads_are.clients);
          servers = subst (λ (bs : List BlockId). ServersShow i o v left.made bs new.servers.items) (sym set.blocks)
              (subst (λ (xs : List (ReadServer I O)). ServersShow i o v left.made n.blocks.items xs) (sym changed.set) servers_after);
          dialled = λ d line lt by. subst (λ y. HasClient y.items line) (sym changed.clients)
              (h.reads_are.dialled d line (subst (λ (q : ℕ). d < q) left.rest.conns lt) (sym (ap (λ (q : Dialled). q.upper) (left.rest.dialled d)) ∙ by));
        };
      };
      writers = λ b d e by y. left.others d false e (upper_end d) y;
      primaries = λ d lower e by y. left.others d lower e (none_of d lower (λ same. absurd (no_recovery_reads (w.dialled d).upper by (ap (λ (q : ℕ). purpose_of (w.dialled q).upper) (sym same) ∙ reads_there)))) y;
      asks = ap (λ y. asks_of y.items) changed.clients;
    }

  -- FAULTS

  pub drawer_failed : (n n' : Nodes F I O) (node : NodeId) (x x' : NodeBooks F) → BooksChanged n n' node.0 x x' → servers.BookRose f x.books.items x'.books.items → DrawerFailed f n n' node
  drawer_failed n n' node x x' set rose = record {
    place = rose.place;
    book = rose.book;
    book' = rose.book';
    before = here_before n n' node.0 x x' set rose.place ∙ rose.before;
    now = here_after n n' node.0 x x' set rose.place ∙ rose.now;
    rose = rose.rose;
  }
