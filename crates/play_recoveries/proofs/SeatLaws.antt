-- Lower ends that stand nowhere have nothing to do, and the events of those that stand somewhere.
use Rattle.std.proofs.Common.{◌≡◌, ◌<◌, ◌≤◌, ℕ, zero, suc, Bool, true, false, List, [], ◌∷◌, length, slice_get, slice_set, Option, Some, None, IsSome, Result, Ok, Err, refl, sym, ap, ◌∙◌, subst, arith}
use Rattle.std.specs.Prelude.{◌&&◌, nat_lt}
use Rattle.hd_base.specs.declared.files.Files as files
use Rattle.hd_base.specs.declared.links.LinkIn as link_in
use Rattle.hd_base.specs.declared.links.LinkOut as link_out
use Rattle.hd_base.specs.declared.numbers.BlockId.{BlockId}
use Rattle.hd_base.specs.declared.numbers.ConnId.{ConnId}
use Rattle.hd_base.specs.declared.numbers.NodeId.{NodeId}
use Rattle.hd_base.specs.declared.roads.Roads as roads
use Rattle.op_headers.specs.declared.ops.Op.{Op}
use Rattle.op_headers.specs.declared.ops.Op.TheVariants as op
use Rattle.op_headers.specs.declared.ops.RecoveryOp.{RecoveryOp}
use Rattle.road_traffic.specs.Showing.{Net, RoadsShow}
use Rattle.world.specs.declared.events.Event.TheVariants as event
use Rattle.world.specs.Connections.{is_alive, is_served, next_down}
use Rattle.world.specs.Enabled.{takes_down, can_down}
use Rattle.world.specs.Events.{happens}
use Rattle.world.specs.Nodes.{node_of}
use Rattle.world.specs.Parts.{Message, request, packet, ack, response, read_status, recovery_answer, Lower, idle, recovers, ended_below}
use Rattle.world.specs.Worlds.{World}
use Rattle.play_model.proofs.WorldLaws.FactTables.{and-left, and-right}
use Rattle.play_model.specs.WorldLaws.Placing.{Placed}
use Rattle.play_nodes.specs.WorldOrders.Orders.{Ordered, Purpose, comes_down, is_recovery, purpose_of, recovering}
use Rattle.play_model.specs.declared.dues.Due.TheVariants as due
use Rattle.play_model.specs.Dues.{Queues, is_open, is_due}
use Rattle.play_servers.specs.RecoveryEvents.RecoveryFault.{RecoveryFault}
use Rattle.play_servers.specs.RecoveryEvents.RecoveryFault.TheVariants as recovery_fault
use Rattle.play_servers.specs.RecoveryEvents.Faults.{IsCause}
use Rattle.play_nodes.specs.declared.connections.Connection.{Connection}
use Rattle.play_nodes.specs.declared.nodes.NodeBooks.{NodeBooks}
use Rattle.play_nodes.specs.declared.nodes.Nodes.{Nodes}
use Rattle.play_nodes.specs.Elsewhere.{NodesFollow, UpperEndsStay}
use Rattle.play_nodes.specs.Places.{book_at, book_counts, KeepsSizes}
use Rattle.play_nodes.specs.Showing.{NodesShow}
use Rattle.play_nodes.proofs.MemberNodes.{known}
use Rattle.play_nodes.proofs.PlaceLaws.{book_missing, element_within, same_some}
use Rattle.play_nodes.proofs.Tables.{element}
use Rattle.play_primaries.specs.Staying.{PrimaryClientsStay}
use Rattle.play_servers.specs.declared.recoveries.AnswerEnd.{AnswerEnd}
use Rattle.play_servers.specs.declared.recoveries.AnswerEnd.TheVariants as answer_end
use Rattle.play_servers.specs.declared.recoveries.RecoveryServer.{RecoveryServer}
use Rattle.play_servers.specs.declared.servers.ServerEvent.{ServerEvent}
use Rattle.play_servers.specs.declared.servers.ServerEvent.TheVariants as server_event
use Rattle.play_servers.specs.Answering.{AnswerIsKnown}
use Rattle.play_servers.specs.Recoveries as recoveries
use Rattle.play_servers.specs.Recoveries.{EndShows, ServerStands, AsksFor}
use Rattle.play_recoveries.specs.declared.faults.RecoveriesFault.{RecoveriesFault}
use Rattle.play_recoveries.specs.declared.recoveries.Recoveries.{Recoveries}
use Rattle.play_recoveries.specs.declared.serving.Seat.{Seat}
use Rattle.play_recoveries.specs.Faults.{of_server, IsCaused}
use Rattle.play_recoveries.specs.Seats.{IsSeated, IsUnseated, followed}
use Rattle.play_recoveries.specs.Serving.{DownShows}
use Rattle.play_recoveries.specs.Showing.{IsServer, RecoveriesStand, Stand}
use Rattle.play_recoveries.specs.Keeping.{KeepsPrimaries}
use Rattle.play_recoveries.proofs.DueLaws.{server_conn}
use Rattle.play_recoveries.proofs.ShutLaws.{happens_shut}
use Rattle.play_primaries.proofs.WorldSettling.Actors.{primaries-stay}
use Rattle.play_recoveries.proofs.KeepLaws.{before_so}
use Rattle.play_recoveries.proofs.ServeLaws.{BooksChanged, ServerChanged, books_before, served_left, drawer_failed}

-- SMALL

true_false : (b : Bool) → b ≡ true → b ≡ false → ⊥
true_false b x y = cc

not_some : {A : Type 0} (x : Option A) → IsSome x → x ≡ None → ⊥
not_some None h e = cc
not_some (Some a) h e = cc

-- SEATS

-- What stands there isn't past the end.
pub not_within : {A : Type 0} (xs : List A) (k : ℕ) (x : A) → slice_get xs k ≡ Some x → length xs ≤ k → ⊥
not_within xs k x at past = clash k (length xs) (element_within xs k x at) past
  where
    clash : (a b : ℕ) → a < b → b ≤ a → ⊥
    clash a b h l = omega (arith, h, l)

-- The node of the connection that was found is past them all.
pub node_past : {I O : Type 0} (xs : List (Connection I O)) (k : ℕ) (x y : Connection I O) (count : ℕ) → slice_get xs k ≡ Some x → slice_get xs k ≡ Some y → count ≤ x.node.0 → count ≤ y.node.0
node_past {I} {O} xs k x y count at found past = subst (λ (z : Connection I O). count ≤ z.node.0) (same_some x y (sym at ∙ found)) past

-- SIZES

-- Where a node has as many books as before, each does.
counts_set : {F : Type 0} (nodes : List (NodeBooks F)) (node : ℕ) (x y : NodeBooks F) → slice_get nodes node ≡ Some x → length y.books.items ≡ length x.books.items → book_counts (slice_set nodes node y) ≡ book_counts nodes
counts_set {F} [] node x y found same = refl
counts_set {F} (z ∷ nodes) zero x y found same = ap (λ (n : ℕ). n ∷ book_counts nodes) (same ∙ ap (λ (q : NodeBooks F). length q.books.items) (same_some x z (sym found)))
counts_set {F} (z ∷ nodes) (suc node) x y found same = ap (λ (ns : List ℕ). length z.books.items ∷ ns) (counts_set nodes node x y found same)

pub changed_sizes : {F I O : Type 0} (n n' : Nodes F I O) (node : ℕ) (x x' : NodeBooks F) → BooksChanged n n' node x x' → length x'.books.items ≡ length x.books.items → KeepsSizes n n'
changed_sizes n n' node x x' h same = record { blocks = h.blocks; books = ap (λ ns. book_counts ns) h.nodes ∙ counts_set n.nodes.items node x x' h.found same }

-- MESSAGES

recovery_op : (o : Op) → is_recovery (request o) ≡ true → (asked : RecoveryOp) × (request o ≡ request (op.Recovery asked))
recovery_op (op.Recovery asked) e = (asked, refl)
recovery_op (op.Write fields) e = cc
recovery_op (op.Read read) e = cc
recovery_op (op.Transfer t) e = cc
recovery_op (op.Checksum t) e = cc

recovery_so : (m : Message) → is_recovery m ≡ true → (asked : RecoveryOp) × (m ≡ request (op.Recovery asked))
recovery_so (request o) e = recovery_op o e
recovery_so (packet p) e = cc
recovery_so (ack a) e = cc
recovery_so (response r) e = cc
recovery_so (read_status s) e = cc
recovery_so (recovery_answer a) e = cc

-- Where no block is there no request was sent that is for one.
no_asks : (w : World) (c : ℕ) (blocks : List BlockId) → Ordered w → c < w.next_conn → purpose_of (w.dialled c).upper ≡ recovering → AsksFor blocks w c → ((k : ℕ) (b : BlockId) → slice_get blocks k ≡ Some b → ⊥) → ⊥
no_asks w c blocks ordered within is asks none =
    let m = element (w.downs c) 0 (ordered.begun c within) in
    let asked = recovery_so m.0 (subst (λ (p : Purpose). comes_down p true m.0 ≡ true) is (ordered.downs c 0 m.0 m.1)) in
    let among = asks 0 asked.0 (m.1 ∙ ap (λ (x : Message). Some x) asked.1) in
    none among.place among.block among.at_place

-- NOTHING TO DO

module _ {I O : Type 0} (i : link_in.Ghosts I) (o : link_out.Ghosts O) (w : World) (net : Net) (c : ℕ) (blocks : List BlockId) (none : (k : ℕ) (b : BlockId) → slice_get blocks k ≡ Some b → ⊥) where
  not_down : (l : Lower) (e : AnswerEnd I O) → (AsksFor blocks w c → ⊥) → AsksFor blocks w c → EndShows i o w net c blocks l e → (is_open l && (is_served w c && takes_down l w c (next_down w c))) ≡ true → ⊥
  not_down idle (answer_end.Idle x) never asks h e = never asks
  not_down idle answer_end.Ended never asks h e = true_false (is_served w c) (and-left (is_served w c) (takes_down idle w c (next_down w c)) e) h
  not_down recovers (answer_end.Answering old place) never asks h e = none place h.1.block h.1.at_place
  not_down recovers answer_end.Ended never asks h e = true_false (is_served w c) (and-left (is_served w c) (takes_down recovers w c (next_down w c)) e) h
  not_down ended_below answer_end.Ended never asks h e = cc
  not_down l x never asks h e = absurd h

module _ {I O : Type 0} (i : link_in.Ghosts I) (o : link_out.Ghosts O) (w : World) (net : Net) where
  -- the lower end shows the connection of this number
  pub at_conn : (blocks : List BlockId) (s : RecoveryServer I O) (c : ℕ) → s.conn.0 ≡ c → IsServer i o w net blocks s → recoveries.ServerShows i o w net c blocks s.end
  at_conn blocks s c same h = subst (λ (q : ℕ). recoveries.ServerShows i o w net q blocks s.end) same h.shows

  served_within : (c : ℕ) → is_served w c ≡ true → c < w.next_conn
  served_within c e = before_so c w.next_conn (and-left (nat_lt c w.next_conn) (is_alive w (w.dialled c).to) e)

  pub down_can : (queues : Queues) (conn : ConnId) → is_due w queues (due.Down conn) ≡ true → can_down w conn.0 ≡ true
  down_can queues conn e = and-right (is_open (w.lowers conn.0)) (can_down w conn.0) e

  pub down_within : (queues : Queues) (conn : ConnId) → is_due w queues (due.Down conn) ≡ true → conn.0 < w.next_conn
  down_within queues conn e = served_within conn.0 (and-left (is_served w conn.0) (takes_down (w.lowers conn.0) w conn.0 (next_down w conn.0)) (down_can queues conn e))

-- The event of a lower end leaves the primaries.
down_keeps : UpperEndsStay → (w : World) (conn : ConnId) (answered : Bool) → KeepsPrimaries w (happens w (event.Down conn answered))
down_keeps over w conn answered = record {
  primaries = λ p. primaries-stay w (event.Down conn answered) p refl;
  over = λ p place c by. over w (event.Down conn answered) tt c;
  shut = λ c is. happens_shut w (event.Down conn answered) c is;
}

module _ {F R I O : Type 0} (f : files.Ghosts F) (r : roads.Ghosts R I O) (i : link_in.Ghosts I) (o : link_out.Ghosts O) where
  -- A connection whose lower end stands nowhere is of a play without blocks.
  no_blocks : (w : World) (net : Net) (road : R) (n : Nodes F I O) (p : Recoveries I O) (c : ℕ) → RecoveriesStand r i o w net road n p → Placed w → c < w.next_conn → purpose_of (w.dialled c).upper ≡ recovering → IsUnseated n p c → (k : ℕ) (b : BlockId) → slice_get n.blocks.items k ≡ Some b → ⊥
  no_blocks w net road n p c h placed within is unseated k b at =
      let shows = h.nodes.nodes_are in
      let x = element n.connections.items c (subst (λ (q : ℕ). c < q) (sym shows.count) within) in
      let le : length n.nodes.items ≤ x.0.node.0 = unseated x.0 x.1 h.recoveries_are.servers.ascend (h.recoveries_are.servers.all c within is) in
      not_some (book_at n.nodes.items (node_of w c) k) (shows.has_books (node_of w c) k b (placed.dialled c within).to at)
      (ap (λ (q : ℕ). book_at n.nodes.items q k) (sym (shows.each c x.0 x.1).node) ∙ book_missing n.nodes.items x.0.node.0 k le)

  pub down_unseated : (conn : ConnId) (n : Nodes F I O) (p : Recoveries I O) (road : R) → IsUnseated n p conn.0 → DownShows f r i o conn n n p p road road (Ok tt)
  down_unseated conn n p road unseated = λ w net queues h order lawful asks due is.
      let within = down_within i o w net queues conn due in
      let none = no_blocks w net road n p conn.0 h order.placed within is unseated in
      let server = h.recoveries_are.servers.all conn.0 within is in
      absurd (not_down i o w net conn.0 n.blocks.items none (w.lowers conn.0) server.server.end (λ x. no_asks w conn.0 n.blocks.items order.before within is x none) asks
      (at_conn i o w net n.blocks.items server.server conn.0 server.of_conn (h.recoveries_are.servers.each server.place server.server server.at)).end_is due)

  -- THE ROADS KNOW AN END

  end_known : (w : World) (net : Net) (road : R) (c : ℕ) (blocks : List BlockId) (l : Lower) (e : AnswerEnd I O) → RoadsShow r net road → EndShows i o w net c blocks l e → AnswerIsKnown (r.plain road) e
  end_known w net road c blocks idle (answer_end.Idle x) shows h = known r i o road net (r.plain road) c x.id.0 shows refl h.1.within h.1.id
  end_known w net road c blocks recovers (answer_end.Answering old place) shows h = known r i o road net (r.plain road) c old.end.id.0 shows refl h.1.end_is.within h.1.end_is.id
  end_known w net road c blocks idle answer_end.Ended shows h = tt
  end_known w net road c blocks recovers answer_end.Ended shows h = tt
  end_known w net road c blocks ended_below answer_end.Ended shows h = tt
  end_known w net road c blocks l e shows h = absurd h

  pub server_known : (road : R) (n : Nodes F I O) (p : Recoveries I O) (place : ℕ) (s : RecoveryServer I O) → Stand r i o road n p → slice_get p.servers.items place ≡ Some s → AnswerIsKnown (r.plain road) s.end
  server_known road n p place s stand at =
      end_known stand.w stand.net road s.conn.0 n.blocks.items (stand.w.lowers s.conn.0) s.end stand.stands.nodes.roads_are.shows (stand.stands.recoveries_are.servers.each place s at).shows.end_is

  -- THE EVENTS

  server_caused : (conn : ConnId) (n n' : Nodes F I O) (road road' : R) (why : RecoveryFault) → IsCause r conn.0 road road' why → IsCaused f r n n' road road' (of_server why)
  server_caused conn n n' road road' recovery_fault.LinkFailed h = (conn.0, h)
  server_caused conn n n' road road' recovery_fault.RoadsFailed h = h
  server_caused conn n n' road road' recovery_fault.Memory h = tt

  module _ (conn : ConnId) (n n' : Nodes F I O) (old new : Recoveries I O) (seat : Seat) (x x' : NodeBooks F) (s s' : RecoveryServer I O) (road road' : R) (seated : IsSeated n old conn.0 seat) (set : BooksChanged n n' seat.node.0 x x') (changed : ServerChanged old new seat.place s s') (follow : NodesFollow f i o) (over : UpperEndsStay) (stay : PrimaryClientsStay i o) where
    of_conn_is : s.conn.0 ≡ conn.0
    of_conn_is = server_conn old.servers.items conn.0 seat.place s seated.place changed.at

    node_is : (w : World) (net : Net) → NodesShow i o w net n → seat.node.0 ≡ node_of w conn.0
    node_is w net shows = ap (λ (q : NodeId). q.0) seated.node ∙ (shows.each conn.0 seated.at seated.found).node

    set_there : (w : World) (net : Net) → NodesShow i o w net n → BooksChanged n n' (node_of w conn.0) x x'
    set_there w net shows = subst (λ (q : ℕ). BooksChanged n n' q x x') (node_is w net shows) set

    server_stands : (w : World) (net : Net) → RecoveriesStand r i o w net road n old → Placed w → conn.0 < w.next_conn → ServerStands r i o w net conn.0 n.blocks.items s.end x.books.items road
    server_stands w net h placed within = record {
      roads_are = h.nodes.roads_are;
      server = at_conn i o w net n.blocks.items s conn.0 of_conn_is (h.recoveries_are.servers.each seat.place s changed.at);
      books_are = books_before f r i o w net n conn.0 x h.nodes.nodes_are placed within (set_there w net h.nodes.nodes_are).found;
    }

    down_as : (served : Result ServerEvent RecoveryFault) → recoveries.EndShowsDown f r i o n.blocks.items s.end x.books.items x'.books.items road road' (recoveries.left_as s'.end served) → DownShows f r i o conn n n' old new road road' (followed seat.node served)
    down_as (Ok server_event.Done) shows = λ w net queues h order lawful asks due is.
        let within = down_within i o w net queues conn due in
        let left = (shows w net conn true (server_stands w net h order.placed within) lawful asks (down_can i o w net queues conn due)).1 in
        served_left f r i o w net (happens w (event.Down conn true)) road road' conn.0 n n' x x' old new seat.place s s' h (set_there w net h.nodes.nodes_are) changed of_conn_is is within order.before order.after (λ d. over w (event.Down conn true) tt d) left follow stay (down_keeps over w conn true)
    down_as (Ok server_event.Broke) shows = λ w net queues h order lawful asks due is.
        let within = down_within i o w net queues conn due in
        drawer_failed f r i o n n' seat.node x x' set (shows w net conn true (server_stands w net h order.placed within) lawful asks (down_can i o w net queues conn due)).0
    down_as (Err why) shows = λ w net queues h order lawful asks due is.
        let within = down_within i o w net queues conn due in
        server_caused conn n n' road road' why (shows w net conn true (server_stands w net h order.placed within) lawful asks (down_can i o w net queues conn due))

    pub down_shows : (served : Result ServerEvent RecoveryFault) (result : Result (Unit {0}) RecoveriesFault) → result ≡ followed seat.node served → recoveries.DownShows f r i o n.blocks.items s s' x.books.items x'.books.items road road' served → DownShows f r i o conn n n' old new road road' result
    down_shows served result is shows = subst (λ (y : Result (Unit {0}) RecoveriesFault). DownShows f r i o conn n n' old new road road' y) (sym is) (down_as served shows.shows)
