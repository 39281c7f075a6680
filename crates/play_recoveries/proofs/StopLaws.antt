-- The recoveries of a play once a node has stopped.
use Rattle.std.proofs.Common.{◌≡◌, ◌<◌, ℕ, zero, suc, Bool, true, false, List, [], ◌∷◌, length, map, slice_get, Some, refl, sym, ap, ◌∙◌, subst, arith}
use Rattle.std.specs.Prelude.{◌==◌}
use Rattle.std.proofs.lemmas.Bool.Decides.{nat_tests}
use Rattle.hd_base.specs.declared.ends.Conn.{Conn}
use Rattle.hd_base.specs.declared.files.Files as files
use Rattle.hd_base.specs.declared.links.LinkIn as link_in
use Rattle.hd_base.specs.declared.links.LinkOut as link_out
use Rattle.hd_base.specs.declared.numbers.BlockId.{BlockId}
use Rattle.hd_base.specs.declared.numbers.NodeId.{NodeId}
use Rattle.hd_base.specs.declared.roads.Roads as roads
use Rattle.road_traffic.specs.Showing.{Net}
use Rattle.world.specs.declared.events.Event.TheVariants as event
use Rattle.world.specs.Connections.{is_served}
use Rattle.world.specs.Events.{happens}
use Rattle.world.specs.Nodes.{node_of}
use Rattle.world.specs.Parts.{Dialled, Lower, idle, writes, serves, recovers, ended_below}
use Rattle.world.specs.Worlds.{World}
use Rattle.play_servers.specs.WorldNets.Nets.{IsEndOf}
use Rattle.play_nodes.specs.WorldOrders.Orders.{purpose_of, recovering}
use Rattle.play_nodes.specs.MemberEvents.Roads.{RoadsPass}
use Rattle.play_model.specs.declared.recoveries.Recovery.{Recovery}
use Rattle.play_model.specs.Recoveries.{stopped_at}
use Rattle.play_nodes.specs.declared.nodes.Nodes.{Nodes}
use Rattle.play_nodes.specs.Frames.{NodesStay}
use Rattle.play_nodes.specs.Numbers.{IsNumbered}
use Rattle.play_nodes.specs.Showing.{NodesShow}
use Rattle.play_nodes.proofs.Numbers.{ascend_same}
use Rattle.play_nodes.proofs.PlaceLaws.{element_within, same_some}
use Rattle.play_nodes.proofs.Tables.{element}
use Rattle.play_primaries.specs.declared.clients.PrimaryClient.{PrimaryClient}
use Rattle.play_primaries.specs.Clients.{PrimaryClientShows}
use Rattle.play_primaries.specs.Staying.{PrimaryClientsStay}
use Rattle.play_servers.specs.declared.recoveries.AnswerEnd.{AnswerEnd}
use Rattle.play_servers.specs.declared.recoveries.AnswerEnd.TheVariants as answer_end
use Rattle.play_servers.specs.declared.recoveries.RecoveryServer.{RecoveryServer}
use Rattle.play_servers.specs.Recoveries.{EndShows}
use Rattle.play_recoveries.specs.declared.recoveries.Recoveries.{Recoveries}
use Rattle.play_recoveries.specs.Places.{recoveries_of, HasServer, HasClient}
use Rattle.play_recoveries.specs.Showing.{ClientsShow, IsServer, ServersShow, Stand}
use Rattle.play_recoveries.specs.Stopping.{took, is_taken, AreKnown, HasStopped, HasEnded, StopShows, ClientsLeft, ClientsStop, WasClient, EndStands, StandsAt, EndsStand, EndsLeft, IsGone, ended_if, ServersEnd}
use Rattle.play_recoveries.proofs.ClientLaws.{no_writer_recovers, no_member_recovers, no_read_recovers, seats_ready, client_ready}
use Rattle.play_recoveries.proofs.EndLaws.{all_known_past}
use Rattle.play_recoveries.proofs.HaltLaws.{stopped_number}
use Rattle.play_recoveries.proofs.KeepLaws.{later, no_more, no_fewer, server_past, keeps_primary}
use Rattle.play_recoveries.proofs.LifeLaws as life
use Rattle.play_recoveries.proofs.LifeLaws.{stops_so, none_served, still_served}
use Rattle.play_recoveries.proofs.SeatLaws.{server_known}

false_true : (b : Bool) → b ≡ false → b ≡ true → ⊥
false_true b x y = cc

-- WHAT THE ROADS KNOW

-- Roads that pass know all that showed a world on them.
pub all_known : {F R I O : Type 0} (f : files.Ghosts F) (r : roads.Ghosts R I O) (i : link_in.Ghosts I) (o : link_out.Ghosts O) (road road' : R) (n : Nodes F I O) (p : Recoveries I O) → Stand r i o road n p → RoadsPass r road road' → AreKnown (r.plain road') p
all_known f r i o road road' n p stand pass = all_known_past r road road' p pass (record {
  clients = λ k c at. client_ready r i o road n p k c stand at;
  servers = λ k s at. server_known f r i o road n p k s stand at;
})

-- LOWER ENDS

module _ {I O : Type 0} (i : link_in.Ghosts I) (o : link_out.Ghosts O) where
  end_stands : (l : Lower) (e : AnswerEnd I O) (w : World) (net : Net) (v : World) (made : Net) (c : ℕ) (blocks : List BlockId) → ((x : Conn I O) → IsEndOf i o w net c true x → IsEndOf i o v made c true x) → EndShows i o w net c blocks l e → EndStands i o v made c e
  end_stands idle (answer_end.Idle x) w net v made c blocks ends h = ends x h.1
  end_stands recovers (answer_end.Answering old place) w net v made c blocks ends h = ends old.end h.1.end_is
  end_stands l answer_end.Ended w net v made c blocks ends h = tt
  end_stands l e w net v made c blocks ends h = absurd h

  -- without its lower end a server shows a connection that isn't served
  ended_shows : (l : Lower) (e : AnswerEnd I O) (w : World) (net : Net) (v : World) (made : Net) (c : ℕ) (blocks : List BlockId) → is_served v c ≡ false → EndShows i o w net c blocks l e → EndShows i o v made c blocks l answer_end.Ended
  ended_shows idle e w net v made c blocks none h = none
  ended_shows recovers e w net v made c blocks none h = none
  ended_shows ended_below e w net v made c blocks none h = tt
  ended_shows (writes m) (answer_end.Idle x) w net v made c blocks none h = absurd h
  ended_shows (writes m) (answer_end.Answering old place) w net v made c blocks none h = absurd h
  ended_shows (writes m) answer_end.Ended w net v made c blocks none h = absurd h
  ended_shows (serves b s) (answer_end.Idle x) w net v made c blocks none h = absurd h
  ended_shows (serves b s) (answer_end.Answering old place) w net v made c blocks none h = absurd h
  ended_shows (serves b s) answer_end.Ended w net v made c blocks none h = absurd h

-- WHICH NODE TOOK A CONNECTION

same_test : (a b c : ℕ) (t : Bool) → (a == b) ≡ t → b ≡ c → (c == a) ≡ t
same_test a b c true e same = grind (arith, nat_tests, e, same)
same_test a b c false e same = grind (arith, nat_tests, e, same)

same_node : (a b : ℕ) → (a == b) ≡ true → a ≡ b
same_node a b e = grind (arith, nat_tests, e)

took_there : {F I O : Type 0} (i : link_in.Ghosts I) (o : link_out.Ghosts O) (v : World) (made : Net) (n : Nodes F I O) (node : NodeId) (c : ℕ) (t : Bool) → NodesShow i o v made n → c < v.next_conn → took n.connections.items node c ≡ t → (node_of v c == node.0) ≡ t
took_there {F} {I} {O} i o v made n node c t shows within e =
    let x = element n.connections.items c (subst (λ (m : ℕ). c < m) (sym shows.count) within) in
    same_test node.0 x.0.node.0 (node_of v c) t (sym (ap (λ y. is_taken node y) x.1) ∙ e) (shows.each c x.0 x.1).node

-- WHAT THE CLIENTS RECOVER

-- a list each of whose elements is what a function makes of one of another
mapped : {A B C : Type 0} (f : B → A) (g : C → A) (xs : List B) (ys : List C) → length xs ≡ length ys → ((k : ℕ) (x : B) (y : C) → slice_get xs k ≡ Some x → slice_get ys k ≡ Some y → f x ≡ g y) → map f xs ≡ map g ys
mapped f g [] [] count same = refl
mapped f g [] (y ∷ ys) count same = absurd (clash (length ys) count)
  where
    clash : (n : ℕ) → 0 ≡ suc n → ⊥
    clash n e = omega (arith, e)
mapped f g (x ∷ xs) [] count same = absurd (clash (length xs) count)
  where
    clash : (n : ℕ) → suc n ≡ 0 → ⊥
    clash n e = omega (arith, e)
mapped f g (x ∷ xs) (y ∷ ys) count same =
    ap (λ a. a ∷ map f xs) (same zero x y refl refl) ∙ ap (λ rest. g y ∷ rest) (mapped f g xs ys (less (length xs) (length ys) count) (λ k a b at_a at_b. same (suc k) a b at_a at_b))
  where
    less : (a b : ℕ) → suc a ≡ suc b → a ≡ b
    less a b e = omega (arith, e)

map_twice : {A B C : Type 0} (f : B → C) (g : A → B) (xs : List A) → map (λ x. f (g x)) xs ≡ map f (map g xs)
map_twice f g [] = refl
map_twice f g (x ∷ xs) = ap (λ ys. f (g x) ∷ ys) (map_twice f g xs)

-- ALL

-- one that was looked at is that of the same connection
same_conn : {I O : Type 0} (b : Bool) (s : RecoveryServer I O) → (ended_if b s).conn.0 ≡ s.conn.0
same_conn true s = refl
same_conn false s = refl

module _ {F R I O : Type 0} (f : files.Ghosts F) (r : roads.Ghosts R I O) (i : link_in.Ghosts I) (o : link_out.Ghosts O) (stay : PrimaryClientsStay i o) (nodes_stay : NodesStay f i o) (node : NodeId) (n : Nodes F I O) (old mid new : Recoveries I O) (road mid_road road' : R) (known : AreKnown (r.plain mid_road) mid) (stops : ClientsStop r i o node old mid road mid_road) (ends : ServersEnd r i o node n mid new mid_road road')
    (w : World) (net : Net) (made : Net) (h : HasStopped r i o w net made node n old road) where
  abbrev v : World
  v = happens w (event.Stop node)

  stopped : life.HasStopped w v node.0
  stopped = stops_so w node h.runs

  keeps : life.KeepsConns w v
  keeps = stopped.keeps

  recovers_there : (c : ℕ) → purpose_of (w.dialled c).upper ≡ recovering → purpose_of (v.dialled c).upper ≡ recovering
  recovers_there c is = ap (λ (d : Dialled). purpose_of d.upper) (keeps.dialled c) ∙ is

  -- an end of a primary's connection is one of the world after
  moves : (c : ℕ) (lower : Bool) (e : Conn I O) → purpose_of (w.dialled c).upper ≡ recovering → IsEndOf i o w net c lower e → IsEndOf i o v made c lower e
  moves c lower e is x = h.ends c lower e is x

  -- CLIENTS

  clients_left : ClientsLeft r i o v made mid.clients.items mid_road
  clients_left = stops.left w net made (record {
    runs = h.runs;
    ordered = h.in_order.before;
    after = h.in_order.after;
    each = h.recoveries_are.clients.each;
    ascend = h.recoveries_are.clients.ascend;
    roads_are = h.stands.roads_are;
    ends = moves;
  })

  abbrev between : Net
  between = clients_left.left

  -- what no primary dialled stays, and so do lower ends
  apart_stays : (c : ℕ) (lower : Bool) (e : Conn I O) → (purpose_of (v.dialled c).upper ≡ recovering → ⊥) → IsEndOf i o v made c lower e → IsEndOf i o v between c lower e
  apart_stays c lower e never x = clients_left.stays c lower e (λ p. never (ap purpose_of p.upper)) x

  lowers_stay : (c : ℕ) (e : Conn I O) → IsEndOf i o v made c true e → IsEndOf i o v between c true e
  lowers_stay c e x = clients_left.stays c true e (λ p. false_true true p.is_upper refl) x

  nodes_between : NodesShow i o v between n
  nodes_between = nodes_stay v made v between n (record {
    nodes_are = h.stands.nodes_are;
    ordered = h.in_order.after;
    keeps = record {
      nodes = refl;
      grows = no_more v.next_conn v.next_conn refl;
      dialled = λ d z. refl;
      running = λ m. refl;
      lives = λ m. refl;
      lowers = λ d. refl;
      replicas = λ m b. refl;
      over = λ c d by. refl;
    };
    ends = record { lowers = lowers_stay; uppers = λ c d e by x. apart_stays d false e (no_member_recovers c (v.dialled d).upper by) x };
  }) refl

  -- THE LOWER ENDS

  abbrev mids : List (RecoveryServer I O)
  mids = mid.servers.items

  shown : ServersShow i o w net n.blocks.items mids
  shown = subst (λ xs. ServersShow i o w net n.blocks.items xs.items) (sym stops.servers) h.recoveries_are.servers

  at_node : (c : ℕ) → c < w.next_conn → node_of v c < v.nodes
  at_node c within = subst (λ (m : ℕ). m < v.nodes) (sym (ap (λ (d : Dialled). d.to.node) (keeps.dialled c)))
      (subst (λ (m : ℕ). node_of w c < m) (sym keeps.nodes) (h.in_order.placed.dialled c within).to)

  stands_at : (place : ℕ) (s : RecoveryServer I O) → slice_get mids place ≡ Some s → StandsAt i o v between s
  stands_at place s at =
      let was = shown.each place s at in
      record {
        is_recovered = recovers_there s.conn.0 was.shows.dialled;
        within = later s.conn.0 w.next_conn v.next_conn was.within (no_more w.next_conn v.next_conn keeps.conns);
        at_node = at_node s.conn.0 was.within;
        end_is = end_stands i o (w.lowers s.conn.0) s.end w net v between s.conn.0 n.blocks.items (λ x is. lowers_stay s.conn.0 x (moves s.conn.0 true x was.shows.dialled is)) was.shows.end_is;
      }

  stands : EndsStand r i o v between n mids mid_road
  stands = record { roads_are = clients_left.roads_are; nodes_are = nodes_between; ordered = h.in_order.after; ascend = shown.ascend; ends = stands_at }

  left : EndsLeft r i o v between n node mids (length mids) road'
  left = ends.left v between stands

  -- EACH SERVER

  -- the server that stood at a place before
  record WasThere (place : ℕ) (a : RecoveryServer I O) : Type 0 where
    was : RecoveryServer I O
    found : slice_get mids place ≡ Some was
    is : ended_if (took n.connections.items node was.conn.0) was ≡ a

  abbrev news : List (RecoveryServer I O)
  news = new.servers.items

  was_there : (place : ℕ) (a : RecoveryServer I O) → slice_get news place ≡ Some a → WasThere place a
  was_there place a at =
      let s = element mids place (subst (λ (m : ℕ). place < m) ends.count (element_within news place a at)) in
      record {
        was = s.0;
        found = s.1;
        is = same_some (ended_if (took n.connections.items node s.0.conn.0) s.0) a (sym (ends.each place s.0 s.1) ∙ at);
      }

  conn_was : (place : ℕ) (a : RecoveryServer I O) (x : WasThere place a) → x.was.conn.0 ≡ a.conn.0
  conn_was place a x = sym (same_conn (took n.connections.items node x.was.conn.0) x.was) ∙ ap (λ (s : RecoveryServer I O). s.conn.0) x.is

  one_shows : (s : RecoveryServer I O) (t : Bool) → took n.connections.items node s.conn.0 ≡ t → IsServer i o w net n.blocks.items s → IsServer i o v left.made n.blocks.items (ended_if t s)
  one_shows s true taken was =
      let there : (node_of v s.conn.0 == node.0) ≡ true = took_there i o v made n node s.conn.0 true h.stands.nodes_are (later s.conn.0 w.next_conn v.next_conn was.within (no_more w.next_conn v.next_conn keeps.conns)) taken in
      let none : is_served v s.conn.0 ≡ false = none_served w v node.0 s.conn.0 stopped (same_node (node_of v s.conn.0) node.0 there) in
      record {
        within = later s.conn.0 w.next_conn v.next_conn was.within (no_more w.next_conn v.next_conn keeps.conns);
        shows = record {
          dialled = recovers_there s.conn.0 was.shows.dialled;
          end_is = subst (λ (l : Lower). EndShows i o v left.made s.conn.0 n.blocks.items l answer_end.Ended) (sym (keeps.lowers s.conn.0))
              (ended_shows i o (w.lowers s.conn.0) s.end w net v left.made s.conn.0 n.blocks.items none was.shows.end_is);
        };
      }
  one_shows s false away was =
      let there : (node_of v s.conn.0 == node.0) ≡ false = took_there i o v made n node s.conn.0 false h.stands.nodes_are (later s.conn.0 w.next_conn v.next_conn was.within (no_more w.next_conn v.next_conn keeps.conns)) away in
      server_past i o w net v left.made n.blocks.items s (no_more w.next_conn v.next_conn keeps.conns) (keeps.dialled s.conn.0) (keeps.lowers s.conn.0)
      (still_served w v node.0 s.conn.0 stopped (sym (ap (λ (d : Dialled). d.to.node == node.0) (keeps.dialled s.conn.0)) ∙ there))
      (λ m first. ap (λ ms. slice_get ms 0) (keeps.downs s.conn.0) ∙ first)
      (λ x is. left.stays s.conn.0 true x (λ gone. false_true (took n.connections.items node s.conn.0) away gone.taken) (lowers_stay s.conn.0 x (moves s.conn.0 true x was.shows.dialled is))) was

  numbered_was : (place : ℕ) (a : RecoveryServer I O) → slice_get news place ≡ Some a → IsNumbered (λ s. s.conn.0) mids a.conn.0 place
  numbered_was place a at =
      let x : WasThere place a = was_there place a at in
      record { found = x.was; at = x.found; same = conn_was place a x }

  has_now : (c : ℕ) → HasServer mids c → HasServer news c
  has_now c x = record {
    place = x.place;
    server = ended_if (took n.connections.items node x.server.conn.0) x.server;
    at = ends.each x.place x.server x.at;
    of_conn = same_conn (took n.connections.items node x.server.conn.0) x.server ∙ x.of_conn;
  }

  servers_now : ServersShow i o v left.made n.blocks.items news
  servers_now = record {
    each = λ place a at.
        let x : WasThere place a = was_there place a at in
        subst (λ (s : RecoveryServer I O). IsServer i o v left.made n.blocks.items s) x.is
        (one_shows x.was (took n.connections.items node x.was.conn.0) refl (shown.each place x.was x.found));
    ascend = ascend_same (λ s. s.conn.0) mids shown.ascend news numbered_was;
    all = λ c within is.
        has_now c (shown.all c (later c v.next_conn w.next_conn within (no_fewer w.next_conn v.next_conn keeps.conns)) (sym (ap (λ (d : Dialled). purpose_of d.upper) (keeps.dialled c)) ∙ is));
  }

  -- EACH CLIENT

  -- upper ends stay, and so do those of which no primary dialled the connection
  uppers_stay : (c : ℕ) (e : Conn I O) → IsEndOf i o v between c false e → IsEndOf i o v left.made c false e
  uppers_stay c e x = left.stays c false e (λ gone. false_true false refl gone.is_lower) x

  no_server : (c : ℕ) (lower : Bool) → (purpose_of (v.dialled c).upper ≡ recovering → ⊥) → IsGone n node mids (length mids) c lower → ⊥
  no_server c lower never gone =
      never (subst (λ (m : ℕ). purpose_of (v.dialled m).upper ≡ recovering) gone.of_conn (stands_at gone.place gone.server gone.at).is_recovered)

  client_shows : (c : PrimaryClient I O) → PrimaryClientShows i o v between c → PrimaryClientShows i o v left.made c
  client_shows c x =
      stay c v between v left.made x
      (keeps_primary i o v between v left.made [] h.in_order.after (record { running = λ m. refl; lives = λ m. refl }) c.recovery refl
      (λ place d by. record { over = refl; ends = λ e is. uppers_stay d e is; shut = λ is. is }))

  number_was : (k : ℕ) (c : PrimaryClient I O) (x : WasClient node old.clients.items k c) → x.was.recovery.primary ≡ c.recovery.primary
  number_was k c x = sym (ap (λ (t : Recovery). t.primary) x.recovers ∙ stopped_number node x.was.recovery)

  numbered_client : (k : ℕ) (c : PrimaryClient I O) → slice_get mid.clients.items k ≡ Some c → IsNumbered (λ y. y.recovery.primary) old.clients.items c.recovery.primary k
  numbered_client k c at =
      let x : WasClient node old.clients.items k c = stops.was k c at in
      record { found = x.was; at = x.at; same = number_was k c x }

  has_client : (number : ℕ) → HasClient old.clients.items number → HasClient mid.clients.items number
  has_client number x =
      let c = element mid.clients.items x.place (subst (λ (m : ℕ). x.place < m) (sym stops.count) (element_within old.clients.items x.place x.client x.at)) in
      let was : WasClient node old.clients.items x.place c.0 = stops.was x.place c.0 c.1 in
      record {
        place = x.place;
        client = c.0;
        at = c.1;
        of_primary = sym (number_was x.place c.0 was) ∙ (ap (λ (y : PrimaryClient I O). y.recovery.primary) (same_some was.was x.client (sym was.at ∙ x.at)) ∙ x.of_primary);
      }

  clients_now : ClientsShow i o v left.made new.clients.items
  clients_now = subst (λ xs. ClientsShow i o v left.made xs.items) (sym ends.clients) (record {
    each = λ k c at. client_shows c (clients_left.each k c at);
    seats = λ k c at. seats_ready (r.plain mid_road) c.state (known.clients k c at);
    ascend = ascend_same (λ y. y.recovery.primary) old.clients.items h.recoveries_are.clients.ascend mid.clients.items numbered_client;
    all = λ number begun. has_client number (h.recoveries_are.clients.all number (λ none. begun (keeps.primaries number ∙ none)));
  })

  recovers_now : recoveries_of mid.clients.items ≡ map (stopped_at node) (recoveries_of old.clients.items)
  recovers_now =
      mapped (λ (c : PrimaryClient I O). c.recovery) (λ (c : PrimaryClient I O). stopped_at node c.recovery) mid.clients.items old.clients.items stops.count
      (λ k x y at_x at_y.
      let was : WasClient node old.clients.items k x = stops.was k x at_x in
      was.recovers ∙ ap (λ (c : PrimaryClient I O). stopped_at node c.recovery) (same_some was.was y (sym was.at ∙ at_y)))
      ∙ map_twice (stopped_at node) (λ (c : PrimaryClient I O). c.recovery) old.clients.items

  pub stop_left : HasEnded r i o v made node n old new road'
  stop_left = record {
    left = left.made;
    stands = record {
      nodes = record { roads_are = left.roads_are; nodes_are = left.nodes_are };
      recoveries_are = record {
        clients = clients_now;
        servers = servers_now;
        dialled = λ c number place within by. subst (λ x. HasClient x.items number) (sym ends.clients)
            (has_client number (h.recoveries_are.dialled c number place (later c v.next_conn w.next_conn within (no_fewer w.next_conn v.next_conn keeps.conns)) (sym (ap (λ (d : Dialled). d.upper) (keeps.dialled c)) ∙ by)));
      };
    };
    writers = λ b c e by x. uppers_stay c e (apart_stays c false e (no_writer_recovers b (v.dialled c).upper by) x);
    readers = λ c lower e by x. left.stays c lower e (no_server c lower (no_read_recovers (v.dialled c).upper by)) (apart_stays c lower e (no_read_recovers (v.dialled c).upper by) x);
    recovers = ap (λ x. recoveries_of x.items) ends.clients ∙ recovers_now;
  }

pub stop_shows : {F R I O : Type 0} (f : files.Ghosts F) (r : roads.Ghosts R I O) (i : link_in.Ghosts I) (o : link_out.Ghosts O) → PrimaryClientsStay i o → NodesStay f i o → (node : NodeId) (n : Nodes F I O) (old mid new : Recoveries I O) (road mid_road road' : R) → AreKnown (r.plain mid_road) mid → ClientsStop r i o node old mid road mid_road → ServersEnd r i o node n mid new mid_road road' → StopShows r i o node n old new road road'
stop_shows f r i o stay nodes_stay node n old mid new road mid_road road' known stops ends = λ w net made h. stop_left f r i o stay nodes_stay node n old mid new road mid_road road' known stops ends w net made h
