-- The reads of a play once a node has stopped.
use Rattle.std.proofs.Common.{◌≡◌, ◌<◌, ◌≤◌, ℕ, Bool, true, false, List, length, slice_get, Some, refl, sym, ap, ◌∙◌, subst, arith}
use Rattle.std.specs.Prelude.{◌==◌, ◌&&◌, nat_lt}
use Rattle.std.proofs.lemmas.Bool.Decides.{nat_tests}
use Rattle.hd_base.specs.declared.ends.Conn.{Conn}
use Rattle.hd_base.specs.declared.files.Files as files
use Rattle.hd_base.specs.declared.links.LinkIn as link_in
use Rattle.hd_base.specs.declared.links.LinkOut as link_out
use Rattle.hd_base.specs.declared.numbers.BlockId.{BlockId}
use Rattle.hd_base.specs.declared.numbers.NodeId.{NodeId}
use Rattle.hd_base.specs.declared.roads.Roads as roads
use Rattle.road_traffic.specs.Showing.{Net}
use Rattle.world.specs.declared.events.Event.TheVariants as event
use Rattle.world.specs.Connections.{is_served}
use Rattle.world.specs.Events.{happens}
use Rattle.world.specs.Nodes.{node_of}
use Rattle.world.specs.Parts.{Dialled, Lower, idle, writes, serves, recovers, ended_below}
use Rattle.world.specs.Worlds.{World}
use Rattle.play_servers.specs.WorldNets.Nets.{IsEndOf}
use Rattle.play_nodes.specs.WorldOrders.Orders.{purpose_of, reading}
use Rattle.play_nodes.specs.MemberEvents.Roads.{RoadsPass}
use Rattle.play_nodes.specs.declared.nodes.Nodes.{Nodes}
use Rattle.play_nodes.specs.Showing.{NodesShow}
use Rattle.play_nodes.proofs.PlaceLaws.{element_within, same_some}
use Rattle.play_nodes.proofs.Tables.{element}
use Rattle.play_primaries.specs.PlayReaders.ReadClient.{ReadClient}
use Rattle.play_primaries.specs.PlayReaders.Staying.{ReadClientsStay}
use Rattle.play_servers.specs.declared.servers.ReadEnd.{ReadEnd}
use Rattle.play_servers.specs.declared.servers.ReadEnd.TheVariants as read_end
use Rattle.play_servers.specs.declared.servers.ReadServer.{ReadServer}
use Rattle.play_servers.specs.Showing.{EndShows}
use Rattle.play_reads.specs.declared.reads.Reads.{Reads}
use Rattle.play_reads.specs.Left.{ReadsLeft}
use Rattle.play_primaries.specs.PlayReaders.Asks.{asks_of}
use Rattle.play_nodes.specs.Numbers.{IsNumbered}
use Rattle.play_reads.specs.Places.{HasServer, HasClient}
use Rattle.play_reads.specs.Showing.{ClientsShow, IsServer, ServersShow, Stand}
use Rattle.play_reads.specs.Stopping.{took, is_taken, AreKnown, HasStopped, StopShows}
use Rattle.play_reads.proofs.ClientLaws.{no_recovery_reads}
use Rattle.play_reads.proofs.EndLaws.{all_known_past, EndStands, StandsAt, EndsStand, EndsLeft, IsGone, ended_if, looked_at, Ending}
use Rattle.play_reads.proofs.FrameLaws.{reads_elsewhere}
use Rattle.play_reads.proofs.KeepLaws.{later, test_so, server_past, clients_kept}
use Rattle.play_reads.proofs.LifeLaws as life
use Rattle.play_reads.proofs.LifeLaws.{stops_so, none_served, still_served}
use Rattle.play_nodes.proofs.Numbers.{ascend_same}
use Rattle.play_reads.proofs.SeatLaws.{server_known}
use Rattle.play_reads.proofs.StartLaws.{no_more, no_fewer, keeps_readers}

false_true : (b : Bool) → b ≡ false → b ≡ true → ⊥
false_true b x y = cc

-- WHAT THE ROADS KNOW

-- Roads that pass know the lower ends of servers that showed a world on them.
pub servers_known : {F R I O : Type 0} (f : files.Ghosts F) (r : roads.Ghosts R I O) (i : link_in.Ghosts I) (o : link_out.Ghosts O) (road road' : R) (n : Nodes F I O) (p : Reads I O) → Stand r i o road n p → RoadsPass r road road' → AreKnown (r.plain road') p
servers_known f r i o road road' n p stand pass = all_known_past r road road' p pass (λ k s at. server_known f r i o road n p k s stand at)

-- LOWER ENDS

module _ {I O : Type 0} (i : link_in.Ghosts I) (o : link_out.Ghosts O) where
  end_stands : (l : Lower) (e : ReadEnd I O) (w : World) (net : Net) (v : World) (made : Net) (c : ℕ) (blocks : List BlockId) → ((x : Conn I O) → IsEndOf i o w net c true x → IsEndOf i o v made c true x) → EndShows i o w net c blocks l e → EndStands i o v made c e
  end_stands idle (read_end.Idle x) w net v made c blocks ends h = ends x h.1
  end_stands (serves b s) (read_end.Serving read place) w net v made c blocks ends h = ends read.end h.1.shows.end_is
  end_stands l read_end.Ended w net v made c blocks ends h = tt
  end_stands l e w net v made c blocks ends h = absurd h

  -- without its lower end a server shows a connection that isn't served
  ended_shows : (l : Lower) (e : ReadEnd I O) (w : World) (net : Net) (v : World) (made : Net) (c : ℕ) (blocks : List BlockId) → is_served v c ≡ false → EndShows i o w net c blocks l e → EndShows i o v made c blocks l read_end.Ended
  ended_shows idle e w net v made c blocks none h = none
  ended_shows (serves b s) e w net v made c blocks none h = none
  ended_shows ended_below e w net v made c blocks none h = tt
  ended_shows (writes m) (read_end.Idle x) w net v made c blocks none h = absurd h
  ended_shows (writes m) (read_end.Serving read place) w net v made c blocks none h = absurd h
  ended_shows (writes m) read_end.Ended w net v made c blocks none h = absurd h
  ended_shows recovers (read_end.Idle x) w net v made c blocks none h = absurd h
  ended_shows recovers (read_end.Serving read place) w net v made c blocks none h = absurd h
  ended_shows recovers read_end.Ended w net v made c blocks none h = absurd h

-- WHICH NODE TOOK A CONNECTION

same_test : (a b c : ℕ) (t : Bool) → (a == b) ≡ t → b ≡ c → (c == a) ≡ t
same_test a b c true e same = grind (arith, nat_tests, e, same)
same_test a b c false e same = grind (arith, nat_tests, e, same)

same_node : (a b : ℕ) → (a == b) ≡ true → a ≡ b
same_node a b e = grind (arith, nat_tests, e)

took_there : {F I O : Type 0} (i : link_in.Ghosts I) (o : link_out.Ghosts O) (v : World) (made : Net) (n : Nodes F I O) (node : NodeId) (c : ℕ) (t : Bool) → NodesShow i o v made n → c < v.next_conn → took n.connections.items node c ≡ t → (node_of v c == node.0) ≡ t
took_there {F} {I} {O} i o v made n node c t shows within e =
    let x = element n.connections.items c (subst (λ (m : ℕ). c < m) (sym shows.count) within) in
    same_test node.0 x.0.node.0 (node_of v c) t (sym (ap (λ y. is_taken node y) x.1) ∙ e) (shows.each c x.0 x.1).node

-- THE SERVERS

-- one that was looked at is that of the same connection
same_conn : {I O : Type 0} (b : Bool) (s : ReadServer I O) → (ended_if b s).conn.0 ≡ s.conn.0
same_conn true s = refl
same_conn false s = refl

module _ {F R I O : Type 0} (r : roads.Ghosts R I O) (i : link_in.Ghosts I) (o : link_out.Ghosts O) (stay : ReadClientsStay i o) (node : NodeId) (n : Nodes F I O) (old new : Reads I O) (road road' : R) (k : ℕ) (all : length old.servers.items ≤ k) (ending : Ending r i o n node old road k new road')
    (w : World) (net : Net) (made : Net) (h : HasStopped r i o w net made node n old road) where
  abbrev v : World
  v = happens w (event.Stop node)

  stopped : life.HasStopped w v node.0
  stopped = stops_so w node h.runs

  keeps : life.KeepsConns w v
  keeps = stopped.keeps

  abbrev olds : List (ReadServer I O)
  olds = old.servers.items

  abbrev news : List (ReadServer I O)
  news = new.servers.items

  reads_there : (c : ℕ) → purpose_of (w.dialled c).upper ≡ reading → purpose_of (v.dialled c).upper ≡ reading
  reads_there c is = ap (λ (d : Dialled). purpose_of d.upper) (keeps.dialled c) ∙ is

  -- an end of a reader's connection is one of the world after
  moves : (c : ℕ) (lower : Bool) (e : Conn I O) → purpose_of (w.dialled c).upper ≡ reading → IsEndOf i o w net c lower e → IsEndOf i o v made c lower e
  moves c lower e is x = h.elsewhere c lower e (reads_elsewhere (w.dialled c).upper is) x

  at_node : (c : ℕ) → c < w.next_conn → node_of v c < v.nodes
  at_node c within = subst (λ (m : ℕ). m < v.nodes) (sym (ap (λ (d : Dialled). d.to.node) (keeps.dialled c)))
      (subst (λ (m : ℕ). node_of w c < m) (sym keeps.nodes) (h.in_order.placed.dialled c within).to)

  stands_at : (place : ℕ) (s : ReadServer I O) → slice_get olds place ≡ Some s → StandsAt i o v made s
  stands_at place s at =
      let was = h.reads_are.servers.each place s at in
      record {
        is_read = reads_there s.conn.0 was.shows.dialled;
        within = later s.conn.0 w.next_conn v.next_conn was.within (no_more w.next_conn v.next_conn keeps.conns);
        at_node = at_node s.conn.0 was.within;
        end_is = end_stands i o (w.lowers s.conn.0) s.end w net v made s.conn.0 n.blocks.items (λ x is. moves s.conn.0 true x was.shows.dialled is) was.shows.end_is;
      }

  stands : EndsStand r i o v made n old road
  stands = record {
    roads_are = h.stands.roads_are;
    nodes_are = h.stands.nodes_are;
    ordered = h.in_order.after;
    ascend = h.reads_are.servers.ascend;
    ends = stands_at;
  }

  left : EndsLeft r i o v made n node old k road'
  left = ending.roads v made stands

  -- EACH SERVER

  -- the server that stood at a place before
  record WasThere (place : ℕ) (a : ReadServer I O) : Type 0 where
    was : ReadServer I O
    found : slice_get olds place ≡ Some was
    is : ended_if (took n.connections.items node was.conn.0) was ≡ a

  now_is : (place : ℕ) (s : ReadServer I O) → slice_get olds place ≡ Some s → looked_at n node k place s ≡ ended_if (took n.connections.items node s.conn.0) s
  now_is place s at =
      ap (λ (b : Bool). ended_if (b && took n.connections.items node s.conn.0) s) (test_so place k (later place (length olds) k (element_within olds place s at) all))

  was_there : (place : ℕ) (a : ReadServer I O) → slice_get news place ≡ Some a → WasThere place a
  was_there place a at =
      let s = element olds place (subst (λ (m : ℕ). place < m) ending.count (element_within news place a at)) in
      record {
        was = s.0;
        found = s.1;
        is = sym (now_is place s.0 s.1) ∙ same_some (looked_at n node k place s.0) a (sym (ending.each place s.0 s.1) ∙ at);
      }

  conn_was : (place : ℕ) (a : ReadServer I O) (x : WasThere place a) → x.was.conn.0 ≡ a.conn.0
  conn_was place a x = sym (same_conn (took n.connections.items node x.was.conn.0) x.was) ∙ ap (λ (s : ReadServer I O). s.conn.0) x.is

  one_shows : (s : ReadServer I O) (t : Bool) → took n.connections.items node s.conn.0 ≡ t → IsServer i o w net n.blocks.items s → IsServer i o v left.made n.blocks.items (ended_if t s)
  one_shows s true taken was =
      let there : (node_of v s.conn.0 == node.0) ≡ true = took_there i o v made n node s.conn.0 true h.stands.nodes_are (later s.conn.0 w.next_conn v.next_conn was.within (no_more w.next_conn v.next_conn keeps.conns)) taken in
      let none : is_served v s.conn.0 ≡ false = none_served w v node.0 s.conn.0 stopped (same_node (node_of v s.conn.0) node.0 there) in
      record {
        within = later s.conn.0 w.next_conn v.next_conn was.within (no_more w.next_conn v.next_conn keeps.conns);
        shows = record {
          dialled = reads_there s.conn.0 was.shows.dialled;
          end_is = subst (λ (l : Lower). EndShows i o v left.made s.conn.0 n.blocks.items l read_end.Ended) (sym (keeps.lowers s.conn.0))
              (ended_shows i o (w.lowers s.conn.0) s.end w net v left.made s.conn.0 n.blocks.items none was.shows.end_is);
        };
      }
  one_shows s false away was =
      let there : (node_of v s.conn.0 == node.0) ≡ false = took_there i o v made n node s.conn.0 false h.stands.nodes_are (later s.conn.0 w.next_conn v.next_conn was.within (no_more w.next_conn v.next_conn keeps.conns)) away in
      server_past i o w net v left.made n.blocks.items s (no_more w.next_conn v.next_conn keeps.conns) (keeps.dialled s.conn.0) (keeps.lowers s.conn.0)
      (still_served w v node.0 s.conn.0 stopped (sym (ap (λ (d : Dialled). d.to.node == node.0) (keeps.dialled s.conn.0)) ∙ there))
      (λ x is. left.stays s.conn.0 true x (λ gone. false_true (took n.connections.items node s.conn.0) away gone.taken) (moves s.conn.0 true x was.shows.dialled is)) was

  numbered_was : (place : ℕ) (a : ReadServer I O) → slice_get news place ≡ Some a → IsNumbered (λ s. s.conn.0) olds a.conn.0 place
  numbered_was place a at =
      let x : WasThere place a = was_there place a at in
      record { found = x.was; at = x.found; same = conn_was place a x }

  has_now : (c : ℕ) → HasServer olds c → HasServer news c
  has_now c x = record {
    place = x.place;
    server = looked_at n node k x.place x.server;
    at = ending.each x.place x.server x.at;
    of_conn = same_conn (nat_lt x.place k && took n.connections.items node x.server.conn.0) x.server ∙ x.of_conn;
  }

  servers_now : ServersShow i o v left.made n.blocks.items news
  servers_now = record {
    each = λ place a at.
        let x : WasThere place a = was_there place a at in
        subst (λ (s : ReadServer I O). IsServer i o v left.made n.blocks.items s) x.is
        (one_shows x.was (took n.connections.items node x.was.conn.0) refl (h.reads_are.servers.each place x.was x.found));
    ascend = ascend_same (λ s. s.conn.0) olds h.reads_are.servers.ascend news numbered_was;
    all = λ c within is.
        has_now c (h.reads_are.servers.all c (later c v.next_conn w.next_conn within (no_fewer w.next_conn v.next_conn keeps.conns)) (sym (ap (λ (d : Dialled). purpose_of d.upper) (keeps.dialled c)) ∙ is));
  }

  -- ALL

  -- upper ends stay, and so do those of which no reader dialled the connection
  uppers_stay : (c : ℕ) (e : Conn I O) → IsEndOf i o v made c false e → IsEndOf i o v left.made c false e
  uppers_stay c e x = left.stays c false e (λ gone. false_true false refl gone.is_lower) x

  no_server : (c : ℕ) (lower : Bool) → (purpose_of (v.dialled c).upper ≡ reading → ⊥) → IsGone n node old k c lower → ⊥
  no_server c lower never gone =
      never (subst (λ (m : ℕ). purpose_of (v.dialled m).upper ≡ reading) gone.of_conn (stands_at gone.place gone.server gone.at).is_read)

  clients_now : ClientsShow i o v left.made new.clients.items
  clients_now = subst (λ (xs : List (ReadClient I O)). ClientsShow i o v left.made xs) (sym (ap (λ x. x.items) ending.clients))
      (clients_kept i o w net v left.made n.blocks.items old.clients.items stay h.in_order.before (keeps_readers w v keeps) (λ c e is x. uppers_stay c e (moves c false e is x)) h.reads_are.clients)

  pub stop_left : ReadsLeft r i o v made v road' n old new
  stop_left = record {
    made = left.made;
    stands = record {
      nodes = record { roads_are = left.roads_are; nodes_are = left.nodes_are };
      reads_are = record {
        clients = clients_now;
        servers = servers_now;
        dialled = λ c line within by. subst (λ x. HasClient x.items line) (sym ending.clients)
            (h.reads_are.dialled c line (later c v.next_conn w.next_conn within (no_fewer w.next_conn v.next_conn keeps.conns)) (sym (ap (λ (d : Dialled). d.upper) (keeps.dialled c)) ∙ by));
      };
    };
    writers = λ b c e by x. uppers_stay c e x;
    primaries = λ c lower e by x. left.stays c lower e (no_server c lower (λ is. no_recovery_reads (v.dialled c).upper by is)) x;
    asks = ap (λ x. asks_of x.items) ending.clients;
  }

pub stop_shows : {F R I O : Type 0} (r : roads.Ghosts R I O) (i : link_in.Ghosts I) (o : link_out.Ghosts O) → ReadClientsStay i o → (node : NodeId) (n : Nodes F I O) (old new : Reads I O) (road road' : R) (k : ℕ) → length old.servers.items ≤ k → Ending r i o n node old road k new road' → StopShows r i o node n old new road road'
stop_shows r i o stay node n old new road road' k all ending = λ w net made h. stop_left r i o stay node n old new road road' k all ending w net made h
