-- The own step of a reader leaves reads and nodes that show the world after.
use Rattle.std.proofs.Common.{◌≡◌, ◌<◌, ◌≤◌, ◌+◌, ◌++◌, ℕ, zero, suc, Bool, true, false, List, [], ◌∷◌, length, slice_get, slice_set, Some, None, inl, inr, Result, Ok, Err, refl, sym, ap, ◌∙◌, subst, arith}
use Rattle.std.specs.Prelude.{nat_lt}
use Rattle.hd_base.specs.declared.ends.Conn.{Conn}
use Rattle.hd_base.specs.declared.files.Files as files
use Rattle.hd_base.specs.declared.links.LinkIn as link_in
use Rattle.hd_base.specs.declared.links.LinkOut as link_out
use Rattle.hd_base.specs.declared.numbers.BlockId.{BlockId}
use Rattle.hd_base.specs.declared.roads.Roads as roads
use Rattle.road_traffic.specs.Showing.{Net}
use Rattle.world.specs.Connections.{is_served}
use Rattle.world.specs.Events.{happens}
use Rattle.world.specs.Parts.{Dialled, by_reader, Lower, idle}
use Rattle.world.specs.Worlds.{World}
use Rattle.play_servers.specs.WorldNets.Nets.{IsEndOf}
use Rattle.play_nodes.specs.WorldOrders.Orders.{Ordered, purpose_of, reading}
use Rattle.play_primaries.specs.ClientEvents.Showing.{OthersStay}
use Rattle.play_nodes.specs.PlayModel.ReadAsk.{ReadAsk}
use Rattle.play_nodes.specs.PlayModel.Asks.{asking_node, request_of}
use Rattle.play_primaries.specs.ReaderEvents.Asking.{CanAsk}
use Rattle.play_primaries.specs.ReaderEvents.ReaderFault.{ReaderFault}
use Rattle.play_nodes.specs.declared.nodes.Nodes.{Nodes}
use Rattle.play_nodes.specs.Frames.{IsKept, NodesStay}
use Rattle.play_nodes.specs.Showing.{NodesShow}
use Rattle.play_nodes.proofs.PlaceLaws.{same_some}
use Rattle.play_primaries.specs.PlayReaders.ReadClient.{ReadClient}
use Rattle.play_primaries.specs.PlayReaders.Frames as readers
use Rattle.play_primaries.specs.PlayReaders.Owning as owning
use Rattle.play_primaries.specs.PlayReaders.Staying.{ReadClientsStay}
use Rattle.play_servers.specs.declared.servers.ReadServer.{ReadServer}
use Rattle.play_servers.specs.declared.servers.ReadEnd.TheVariants as read_end
use Rattle.play_servers.specs.Showing.{EndShows, ServerShows}
use Rattle.play_reads.specs.declared.faults.ReadsFault.{ReadsFault}
use Rattle.play_reads.specs.declared.faults.ReadsFault.TheVariants as fault
use Rattle.play_reads.specs.declared.reads.Reads.{Reads}
use Rattle.play_reads.specs.Faults.{of_reader, IsCaused}
use Rattle.play_reads.specs.Keeping.{KeepsServed}
use Rattle.play_reads.specs.Left.{ReadsLeft}
use Rattle.play_reads.specs.Owning.{made_server, IsReached, Reaches, OwnIsLawful, OwnShows}
use Rattle.play_primaries.specs.PlayReaders.Asks.{asks_of}
use Rattle.play_reads.specs.Places.{HasServer, HasClient}
use Rattle.play_reads.specs.Showing.{DialledHaveClients, ClientsShow, IsServer, ServersShow, ReadsStand}
use Rattle.play_reads.proofs.ClientLaws.{ActsAlone, clients_after, asks_set, has_client_set, reader_same}
use Rattle.play_reads.proofs.HearLaws.{reader_caused, heard_stands}
use Rattle.play_reads.proofs.KeepLaws.{none_between, before_so, behind_so, server_kept, servers_kept}
use Rattle.play_nodes.proofs.Numbers.{PutOr, put_or, ascend_put}

-- LISTS

pub front : {A : Type 0} (xs ys : List A) (k : ℕ) (x : A) → slice_get xs k ≡ Some x → slice_get (xs ++ ys) k ≡ Some x
front [] ys k x h = cc
front (a ∷ xs) ys zero x h = h
front (a ∷ xs) ys (suc k) x h = front xs ys k x h

last : {A : Type 0} (xs : List A) (x : A) → slice_get (xs ++ x ∷ []) (length xs) ≡ Some x
last [] x = refl
last (a ∷ xs) x = last xs x

next_alone : (n d : ℕ) → n ≤ d → d < n + 1 → d ≡ n
next_alone n d le lt = omega arith

next_within : (n m : ℕ) → m ≡ n + 1 → n < m
next_within n m e = omega arith

none_before : (n : ℕ) → n ≤ n
none_before n = omega arith

module _ {F R I O : Type 0} (f : files.Ghosts F) (r : roads.Ghosts R I O) (i : link_in.Ghosts I) (o : link_out.Ghosts O) where
  -- WHAT THE OTHERS SHOW

  module _ (w : World) (net : Net) (made : Net) (ask : ReadAsk) (answered : Bool) (ordered : Ordered w) (nodes : readers.AskingKeepsNodes) (keeps : readers.AskingKeepsOthers)
      (others : OthersStay i o w net (happens w (asking_node ask answered)) made None) where
    abbrev there : World
    there = happens w (asking_node ask answered)

    asked_nodes : readers.AskKeepsNodes w there ask.reader
    asked_nodes = nodes w ask.reader ask.node (request_of ask) answered

    asked_others : readers.KeepsOthers w there ask.reader × readers.TakesNothing w there
    asked_others = keeps w ask.reader ask.node (request_of ask) answered

    pub asked_alone : ActsAlone i o w net there made ask.reader
    unfolding asked_others
    asked_alone = record {
      ordered = ordered;
      readers = λ other apart. asked_others.0.readers other apart;
      over = λ other c apart is. asked_others.1 c false;
      ends = λ other c e apart is h. others c false e tt h;
    }

    pub asked_served : KeepsServed w there
    unfolding asked_nodes
    asked_served = let k = asked_nodes.keeps in record { grows = k.grows; dialled = k.dialled; running = k.running; lives = k.lives }

    pub asked_lowers : (d : ℕ) → there.lowers d ≡ w.lowers d
    unfolding asked_nodes
    asked_lowers d = asked_nodes.keeps.lowers d

    pub asked_dials : w.next_conn < there.next_conn → readers.IsAsked there ask.reader w.next_conn
    unfolding asked_nodes
    asked_dials more = asked_nodes.dials more

    pub asked_kept : (n : Nodes F I O) → NodesShow i o w net n → IsKept i o w net there made n
    unfolding asked_nodes asked_others
    asked_kept n shows =
        let k = asked_nodes.keeps in
        record {
          nodes_are = shows;
          ordered = ordered;
          keeps = record {
            nodes = k.nodes;
            grows = k.grows;
            dialled = k.dialled;
            running = k.running;
            lives = k.lives;
            lowers = k.lowers;
            replicas = k.replicas;
            over = λ c d by. asked_others.1 d false;
          };
          ends = record { lowers = λ d e h. others d true e tt h; uppers = λ c d e by h. others d false e tt h };
        }

  -- THE NODE DOESN'T RUN

  pub unreached_left : (w : World) (net : Net) (place : ℕ) (n : Nodes F I O) (old new : Reads I O) (c c' : ReadClient I O) (road road' : R) → ReadClientsStay i o → NodesStay f i o → readers.AskingKeepsNodes → readers.AskingKeepsOthers
      → ReadsStand r i o w net road n old → Ordered w → slice_get old.clients.items place ≡ Some c → new.clients.items ≡ slice_set old.clients.items place c' → new.servers ≡ old.servers
      → owning.NodeUnreached r i o w net (happens w (asking_node c.ask true)) c c' road' → ReadsLeft r i o w net (happens w (asking_node c.ask true)) road' n old new
  unreached_left w net place n old new c c' road road' stay nodes_stay nodes keeps h ordered at set same left =
      let v : World = happens w (asking_node c.ask true) in
      let asks : c'.ask ≡ c.ask = ap (λ (x : ReadClient I O). x.ask) left.ended in
      record {
        made = net;
        stands = record {
          nodes = record {
            roads_are = left.stands.roads_are;
            nodes_are = nodes_stay w net v net n (asked_kept w net net c.ask true ordered nodes keeps left.others n h.nodes.nodes_are) left.last;
          };
          reads_are = record {
            clients = subst (λ xs. ClientsShow i o v net xs) (sym set)
                (clients_after i o w net v net c.ask.reader (asked_alone w net net c.ask true ordered nodes keeps left.others) old.clients.items place c c' stay h.reads_are.clients at refl asks left.stands.client_is);
            servers = subst (λ (xs : List (ReadServer I O)). ServersShow i o v net n.blocks.items xs) (sym (ap (λ x. x.items) same))
                (servers_kept i o w net v net n.blocks.items old.servers.items (record {
                  served = asked_served w net net c.ask true ordered nodes keeps left.others;
                  fresh = λ d le lt e. none_between w.next_conn v.next_conn d left.last le lt;
                  lowers = λ d before z. asked_lowers w net net c.ask true ordered nodes keeps left.others d;
                }) (λ d e is x. left.others d true e tt x) h.reads_are.servers);
            dialled = λ d line within by. subst (λ xs. HasClient xs line) (sym set) (has_client_set old.clients.items place c c' at asks line
                (h.reads_are.dialled d line (subst (λ (m : ℕ). d < m) left.last within)
                (sym (ap (λ (x : Dialled). x.upper) ((asked_served w net net c.ask true ordered nodes keeps left.others).dialled d (subst (λ (m : ℕ). d < m) left.last within))) ∙ by)));
          };
        };
        writers = λ b d e by x. left.others d false e tt x;
        primaries = λ d lower e by x. left.others d lower e tt x;
        asks = ap (λ (xs : List (ReadClient I O)). asks_of xs) set ∙ asks_set old.clients.items place c c' at asks;
      }

  -- THE NODE WAS ASKED

  module _ (w : World) (net : Net) (made : Net) (ask : ReadAsk) (blocks : List BlockId) (lower : Conn I O) (old new : List (ReadServer I O)) (served : KeepsServed w (happens w (asking_node ask true)))
      (lowers : (d : ℕ) → (happens w (asking_node ask true)).lowers d ≡ w.lowers d) (ends : (d : ℕ) (e : Conn I O) → IsEndOf i o w net d true e → IsEndOf i o (happens w (asking_node ask true)) made d true e)
      (end_is : IsEndOf i o (happens w (asking_node ask true)) made w.next_conn true lower) (upper : ((happens w (asking_node ask true)).dialled w.next_conn).upper ≡ by_reader ask.reader)
      (live : is_served (happens w (asking_node ask true)) w.next_conn ≡ true) (fresh : w.lowers w.next_conn ≡ idle) (more : (happens w (asking_node ask true)).next_conn ≡ w.next_conn + 1) (set : new ≡ old ++ made_server lower ∷ []) where
    abbrev now : World
    now = happens w (asking_node ask true)

    here : IsServer i o now made blocks (made_server lower)
    here = record {
      within = subst (λ (c : ℕ). c < now.next_conn) (sym end_is.id) (next_within w.next_conn now.next_conn more);
      shows = subst (λ (c : ℕ). ServerShows i o now made c blocks (read_end.Idle lower)) (sym end_is.id) (record {
        dialled = ap purpose_of upper;
        end_is = subst (λ (l : Lower). EndShows i o now made w.next_conn blocks l (read_end.Idle lower)) (sym (lowers w.next_conn ∙ fresh)) (live, end_is);
      });
    }

    each_now : ServersShow i o w net blocks old → (k : ℕ) (s : ReadServer I O) → PutOr old (made_server lower) k s → IsServer i o now made blocks s
    unfolding here
    each_now h k s (inl at) = server_kept i o w net now made blocks s served (lowers s.conn.0) (λ x is. ends s.conn.0 x is) (h.each k s at)
    each_now h k s (inr x) = subst (λ (y : ReadServer I O). IsServer i o now made blocks y) (sym x.1) here

    -- the new connection has the greatest number
    above : ServersShow i o w net blocks old → (k : ℕ) (a : ReadServer I O) → slice_get old k ≡ Some a → a.conn.0 < (made_server lower).conn.0
    above h k a at = subst (λ (c : ℕ). a.conn.0 < c) (sym end_is.id) (h.each k a at).within

    in_front : (c : ℕ) → HasServer old c → HasServer (old ++ made_server lower ∷ []) c
    in_front c x = record { place = x.place; server = x.server; at = front old (made_server lower ∷ []) x.place x.server x.at; of_conn = x.of_conn }

    all_now : ServersShow i o w net blocks old → (c : ℕ) → c < now.next_conn → purpose_of (now.dialled c).upper ≡ reading → HasServer (old ++ made_server lower ∷ []) c
    all_now h c within is = by (nat_lt c w.next_conn) refl
      where
        by : (q : Bool) → nat_lt c w.next_conn ≡ q → HasServer (old ++ made_server lower ∷ []) c
        by true e = let before = before_so c w.next_conn e in in_front c (h.all c before (sym (ap (λ (d : Dialled). purpose_of d.upper) (served.dialled c before)) ∙ is))
        by false e = record {
          place = length old;
          server = made_server lower;
          at = last old (made_server lower);
          of_conn = end_is.id ∙ sym (next_alone w.next_conn c (behind_so c w.next_conn e) (subst (λ (m : ℕ). c < m) more within));
        }

    pub servers_reached : ServersShow i o w net blocks old → ServersShow i o now made blocks new
    servers_reached h = subst (λ (xs : List (ReadServer I O)). ServersShow i o now made blocks xs) (sym set) (record {
      each = λ k s at. each_now h k s (put_or old (made_server lower) k s at);
      ascend = ascend_put (λ s. s.conn.0) old h.ascend (made_server lower) (above h);
      all = all_now h;
    })

  -- the reader that dialled the new connection has a client, and so have those that dialled the others
  dialled_now : (w : World) (net made : Net) (ask : ReadAsk) (clients : List (ReadClient I O)) → KeepsServed w (happens w (asking_node ask true)) → (happens w (asking_node ask true)).next_conn ≡ w.next_conn + 1 → ((happens w (asking_node ask true)).dialled w.next_conn).upper ≡ by_reader ask.reader → HasClient clients ask.reader
      → DialledHaveClients w clients → DialledHaveClients (happens w (asking_node ask true)) clients
  dialled_now w net made ask clients served more upper has all d line within by = each (nat_lt d w.next_conn) refl
    where
      each : (q : Bool) → nat_lt d w.next_conn ≡ q → HasClient clients line
      each true e = let before = before_so d w.next_conn e in all d line before (sym (ap (λ (x : Dialled). x.upper) (served.dialled d before)) ∙ by)
      each false e =
          let at : d ≡ w.next_conn = next_alone w.next_conn d (behind_so d w.next_conn e) (subst (λ (m : ℕ). d < m) more within) in
          subst (λ (n : ℕ). HasClient clients n) (reader_same ask.reader line (sym upper ∙ subst (λ (x : ℕ). ((happens w (asking_node ask true)).dialled x).upper ≡ by_reader line) at by)) has

  pub reached_left : (w : World) (net : Net) (place : ℕ) (n n' : Nodes F I O) (old mid new : Reads I O) (c c' : ReadClient I O) (lower : Conn I O) (road road' : R) → ReadClientsStay i o → readers.AskingKeepsNodes → readers.AskingKeepsOthers
      → ReadsStand r i o w net road n old → OwnIsLawful w → slice_get old.clients.items place ≡ Some c → mid.clients.items ≡ slice_set old.clients.items place c' → mid.servers ≡ old.servers
      → owning.NodeReached r i o w net (happens w (asking_node c.ask true)) c c' lower road' → IsReached i o c.ask lower n n' mid new → ReadsLeft r i o w net (happens w (asking_node c.ask true)) road' n' old new
  reached_left w net place n n' old mid new c c' lower road road' stay nodes keeps h lawful at set same left reached =
      let v : World = happens w (asking_node c.ask true) in
      let kept : IsKept i o w net v left.made n = asked_kept w net left.made c.ask true lawful.ordered nodes keeps left.others n h.nodes.nodes_are in
      let fresh : w.lowers w.next_conn ≡ idle = (lawful.placed.undialled w.next_conn (none_before w.next_conn)).lower in
      let clients_are : new.clients.items ≡ slice_set old.clients.items place c' = ap (λ x. x.items) reached.clients ∙ set in
      record {
        made = left.made;
        stands = record {
          nodes = record {
            roads_are = left.stands.roads_are;
            nodes_are = reached.shows w net v left.made kept left.last (record { upper = left.upper; node_is = left.node_is; idle_is = left.lower_same ∙ fresh });
          };
          reads_are = record {
            clients = subst (λ (xs : List (ReadClient I O)). ClientsShow i o v left.made xs) (sym clients_are)
                (clients_after i o w net v left.made c.ask.reader (asked_alone w net left.made c.ask true lawful.ordered nodes keeps left.others) old.clients.items place c c' stay h.reads_are.clients at refl left.ask left.stands.client_is);
            servers = subst (λ (bs : List BlockId). ServersShow i o v left.made bs new.servers.items) (sym (ap (λ (x : Nodes F I O). x.blocks.items) reached.behind.same))
                (servers_reached w net left.made c.ask n.blocks.items lower old.servers.items new.servers.items (asked_served w net left.made c.ask true lawful.ordered nodes keeps left.others)
                (asked_lowers w net left.made c.ask true lawful.ordered nodes keeps left.others) (λ d e x. left.others d true e tt x) left.end_is left.upper
                (asked_dials w net left.made c.ask true lawful.ordered nodes keeps left.others (next_within w.next_conn v.next_conn left.last)).served fresh left.last
                (reached.servers ∙ ap (λ x. x.items ++ made_server lower ∷ []) same) h.reads_are.servers);
            dialled = λ d line within by. subst (λ (xs : List (ReadClient I O)). HasClient xs line) (sym clients_are) (has_client_set old.clients.items place c c' at left.ask line
                (dialled_now w net left.made c.ask old.clients.items (asked_served w net left.made c.ask true lawful.ordered nodes keeps left.others) left.last left.upper (record { place = place; client = c; at = at; of_reader = refl }) h.reads_are.dialled d line within by));
          };
        };
        writers = λ b d e by x. left.others d false e tt x;
        primaries = λ d low e by x. left.others d low e tt x;
        asks = ap (λ (xs : List (ReadClient I O)). asks_of xs) clients_are ∙ asks_set old.clients.items place c c' at left.ask;
      }

  -- THE CLAUSES

  pub own_unreached : (place : ℕ) (n : Nodes F I O) (old new : Reads I O) (c c' : ReadClient I O) (road road' : R) → ReadClientsStay i o → NodesStay f i o → readers.AskingKeepsNodes → readers.AskingKeepsOthers → slice_get old.clients.items place ≡ Some c
      → new.clients.items ≡ slice_set old.clients.items place c' → new.servers ≡ old.servers → owning.OwnShows r i o c c' road road' (Ok None) → OwnShows f r i o place n n old new road road' (Ok tt)
  own_unreached place n old new c c' road road' stay nodes_stay nodes keeps at set same shows = λ w net a h lawful at_a.
      subst (λ (y : ReadClient I O). CanAsk w y.ask.reader y.ask.node → ReadsLeft r i o w net (happens w (asking_node y.ask true)) road' n old new) (same_some c a (sym at ∙ at_a))
      (λ can. unreached_left w net place n old new c c' road road' stay nodes_stay nodes keeps h lawful.ordered at set same (shows w net (heard_stands f r i o w net n old road place c h at) can true))

  pub own_failed : (place : ℕ) (n n' : Nodes F I O) (old new : Reads I O) (c c' : ReadClient I O) (road road' : R) (why : ReaderFault) → slice_get old.clients.items place ≡ Some c
      → owning.OwnShows r i o c c' road road' (Err why) → OwnShows f r i o place n n' old new road road' (Err (of_reader why))
  own_failed place n n' old new c c' road road' why at shows = λ w net a h lawful at_a.
      subst (λ (y : ReadClient I O). CanAsk w y.ask.reader y.ask.node → IsCaused f r n n' road road' (of_reader why)) (same_some c a (sym at ∙ at_a))
      (λ can. reader_caused f r n n' road road' w.next_conn why (shows w net (heard_stands f r i o w net n old road place c h at) can))

  out_of_memory : (n n' : Nodes F I O) (road road' : R) (why : ReadsFault) → why ≡ fault.Memory → IsCaused f r n n' road road' why
  out_of_memory n n' road road' why is = subst (λ (x : ReadsFault). IsCaused f r n n' road road' x) (sym is) tt

  pub own_reached : (place : ℕ) (n n' : Nodes F I O) (old mid new : Reads I O) (c c' : ReadClient I O) (ask : ReadAsk) (lower : Conn I O) (road road' : R) (result : Result (Unit {0}) ReadsFault) → ask ≡ c.ask → ReadClientsStay i o → readers.AskingKeepsNodes → readers.AskingKeepsOthers → slice_get old.clients.items place ≡ Some c
      → mid.clients.items ≡ slice_set old.clients.items place c' → mid.servers ≡ old.servers → owning.OwnShows r i o c c' road road' (Ok (Some lower)) → Reaches i o ask lower n n' mid new result → OwnShows f r i o place n n' old new road road' result
  own_reached place n n' old mid new c c' ask lower road road' (Ok u) asks stay nodes keeps at set same shows reached = λ w net a h lawful at_a.
      subst (λ (y : ReadClient I O). CanAsk w y.ask.reader y.ask.node → ReadsLeft r i o w net (happens w (asking_node y.ask true)) road' n' old new) (same_some c a (sym at ∙ at_a))
      (λ can. reached_left w net place n n' old mid new c c' lower road road' stay nodes keeps h lawful at set same (shows w net (heard_stands f r i o w net n old road place c h at) can) (subst (λ (x : ReadAsk). IsReached i o x lower n n' mid new) asks reached))
  own_reached place n n' old mid new c c' ask lower road road' (Err why) asks stay nodes keeps at set same shows reached = λ w net a h lawful at_a can. out_of_memory n n' road road' why reached
