-- What a reader hears leaves reads and nodes that show the world after.
use Rattle.std.proofs.Common.{◌≡◌, ◌≢◌, ℕ, Bool, true, false, List, slice_get, slice_set, Some, refl, sym, ap, ◌∙◌, subst}
use Rattle.hd_base.specs.declared.files.Files as files
use Rattle.hd_base.specs.declared.links.LinkIn as link_in
use Rattle.hd_base.specs.declared.links.LinkOut as link_out
use Rattle.hd_base.specs.declared.numbers.ConnId.{ConnId}
use Rattle.hd_base.specs.declared.roads.Roads as roads
use Rattle.road_traffic.specs.Showing.{Net}
use Rattle.world.specs.declared.events.Event.TheVariants as event
use Rattle.world.specs.Enabled.{can_up, takes_above, reads_from}
use Rattle.world.specs.Events.{happens}
use Rattle.world.specs.Parts.{Upper, by_reader, Reader, no_reader}
use Rattle.world.specs.Worlds.{World}
use Rattle.play_nodes.proofs.WorldLaws.FactTables.{and-right}
use Rattle.play_servers.specs.WorldNets.Ends.{IsElsewhere}
use Rattle.play_nodes.specs.WorldOrders.Orders.{Ordered, purpose_of, reading}
use Rattle.play_primaries.specs.ClientEvents.Showing.{OthersStay}
use Rattle.play_nodes.specs.PlayModel.Due.TheVariants as due
use Rattle.play_nodes.specs.PlayModel.Dues.{Queues, is_due, is_open_above}
use Rattle.play_primaries.specs.ReaderEvents.ReaderFault.{ReaderFault}
use Rattle.play_primaries.specs.ReaderEvents.ReaderFault.TheVariants as reader_fault
use Rattle.play_primaries.specs.ReaderEvents.Faults as reader
use Rattle.play_nodes.specs.declared.nodes.Nodes.{Nodes}
use Rattle.play_nodes.specs.Frames.{KeepsNodes, EndsStay, NodesStay}
use Rattle.play_nodes.specs.Showing.{NodesShow}
use Rattle.play_primaries.specs.PlayReaders.ReadClient.{ReadClient}
use Rattle.play_primaries.specs.PlayReaders.Clients.{ReadClientStands}
use Rattle.play_primaries.specs.PlayReaders.Frames as readers
use Rattle.play_primaries.specs.PlayReaders.Hearing as hearing
use Rattle.play_primaries.specs.PlayReaders.Staying.{ReadClientsStay}
use Rattle.play_reads.specs.declared.reads.Reads.{Reads}
use Rattle.play_reads.specs.Faults.{of_reader, IsCaused}
use Rattle.play_reads.specs.Keeping.{KeepsServers}
use Rattle.play_reads.specs.Left.{ReadsLeft}
use Rattle.play_primaries.specs.PlayReaders.Asks.{asks_of}
use Rattle.play_reads.specs.Places.{HasClient}
use Rattle.play_reads.specs.Showing.{ClientsShow, ServersShow, ReadsStand}
use Rattle.play_servers.specs.declared.servers.ReadServer.{ReadServer}
use Rattle.play_reads.proofs.ClientLaws.{reader_same, no_writer_reads, no_member_reads, no_recovery_reads, ActsAlone, clients_after, asks_set, has_client_set}
use Rattle.play_reads.proofs.KeepLaws.{none_between, servers_kept, still_dialled}

-- DUES

pub up_can : (w : World) (queues : Queues) (conn : ConnId) → is_due w queues (due.Up conn) ≡ true → can_up w conn.0 ≡ true
up_can w queues conn e = and-right (is_open_above w (w.dialled conn.0).upper) (can_up w conn.0) e

pub none_reads : (w : World) (c reader : ℕ) (u : Upper) (x : Reader) → u ≡ by_reader reader → x ≡ no_reader → w.readers reader ≡ x → takes_above u w c ≡ false
none_reads w c reader u x is none at = ap (λ (y : Upper). takes_above y w c) is ∙ ap (λ (y : Reader). reads_from y c) (at ∙ none)

-- FAULTS

pub reader_caused : {F R I O : Type 0} (f : files.Ghosts F) (r : roads.Ghosts R I O) (n n' : Nodes F I O) (road road' : R) (conn : ℕ) (why : ReaderFault) → reader.IsCaused r conn road road' why → IsCaused f r n n' road road' (of_reader why)
reader_caused f r n n' road road' conn reader_fault.LinkFailed h = (conn, h)
reader_caused f r n n' road road' conn reader_fault.RoadsFailed h = h
reader_caused f r n n' road road' conn reader_fault.Memory h = tt

module _ {F R I O : Type 0} (f : files.Ghosts F) (r : roads.Ghosts R I O) (i : link_in.Ghosts I) (o : link_out.Ghosts O) where
  module _ (w : World) (net : Net) (conn : ConnId) (line : ℕ) (upper : (w.dialled conn.0).upper ≡ by_reader line) where
    -- an end that no reader dialled isn't the one that took
    elsewhere : (d : ℕ) (lower : Bool) → (purpose_of (w.dialled d).upper ≡ reading → ⊥) → IsElsewhere conn.0 false d lower
    elsewhere d lower never same = absurd (never (ap (λ (n : ℕ). purpose_of (w.dialled n).upper) (sym same) ∙ ap purpose_of upper))

    -- nor is one that another reader dialled
    apart_ends : (other d : ℕ) → other ≢ line → (w.dialled d).upper ≡ by_reader other → IsElsewhere conn.0 false d false
    apart_ends other d apart is same = absurd (apart (reader_same other line (sym is ∙ (ap (λ (n : ℕ). (w.dialled n).upper) (sym same) ∙ upper))))

    module _ (made : Net) (others : OthersStay i o w net (happens w (event.Up conn)) made (Some conn.0)) (ordered : Ordered w) where
      abbrev there : World
      there = happens w (event.Up conn)

      pub heard_alone : readers.HearingKeepsOthers → ActsAlone i o w net there made line
      heard_alone keeps =
          let k = keeps w conn line upper in
          record {
            ordered = ordered;
            readers = λ other apart. k.0.readers other apart;
            over = λ other c apart is. k.1 c false (apart_ends other c apart is);
            ends = λ other c e apart is h. others c false e (apart_ends other c apart is) h;
          }

      pub heard_servers : readers.HearingKeepsNodes → KeepsServers w there
      heard_servers keeps =
          let k = keeps w conn line upper in
          record {
            served = record { grows = k.keeps.grows; dialled = k.keeps.dialled; running = k.keeps.running; lives = k.keeps.lives };
            fresh = λ d le lt e. none_between w.next_conn there.next_conn d k.conns le lt;
            lowers = λ d before z. k.keeps.lowers d;
          }

      heard_keeps : readers.HearingKeepsNodes → readers.HearingKeepsOthers → KeepsNodes w there
      heard_keeps nodes keeps =
          let k = (nodes w conn line upper).keeps in
          let q = keeps w conn line upper in
          record {
            nodes = k.nodes;
            grows = k.grows;
            dialled = k.dialled;
            running = k.running;
            lives = k.lives;
            lowers = k.lowers;
            replicas = k.replicas;
            over = λ c d by. q.1 d false (elsewhere d false (no_member_reads c (w.dialled d).upper by));
          }

      heard_ends : EndsStay i o w net there made
      heard_ends = record {
        lowers = λ d e h. others d true e (λ same. refl) h;
        uppers = λ c d e by h. others d false e (elsewhere d false (no_member_reads c (w.dialled d).upper by)) h;
      }

      pub heard_nodes : readers.HearingKeepsNodes → readers.HearingKeepsOthers → NodesStay f i o → (n : Nodes F I O) → NodesShow i o w net n → NodesShow i o there made n
      heard_nodes nodes keeps stay n shows =
          stay w net there made n (record { nodes_are = shows; ordered = ordered; keeps = heard_keeps nodes keeps; ends = heard_ends }) (nodes w conn line upper).conns

  pub heard_reads : (w : World) (net : Net) (conn : ConnId) (place : ℕ) (n : Nodes F I O) (old new : Reads I O) (c c' : ReadClient I O) (road road' : R) → ReadClientsStay i o → NodesStay f i o → readers.HearingKeepsNodes → readers.HearingKeepsOthers
      → ReadsStand r i o w net road n old → Ordered w → slice_get old.clients.items place ≡ Some c → (w.dialled conn.0).upper ≡ by_reader c.ask.reader → new.clients.items ≡ slice_set old.clients.items place c' → new.servers ≡ old.servers
      → hearing.HearLeft r i o w net (happens w (event.Up conn)) conn c c' road' → ReadsLeft r i o w net (happens w (event.Up conn)) road' n old new
  heard_reads w net conn place n old new c c' road road' stay nodes_stay nodes keeps h ordered at upper set same left =
      let v : World = happens w (event.Up conn) in
      record {
        made = left.made;
        stands = record {
          nodes = record {
            roads_are = left.stands.roads_are;
            nodes_are = heard_nodes w net conn c.ask.reader upper left.made left.others ordered nodes keeps nodes_stay n h.nodes.nodes_are;
          };
          reads_are = record {
            clients = subst (λ (xs : List (ReadClient I O)). ClientsShow i o v left.made xs) (sym set)
                (clients_after i o w net v left.made c.ask.reader (heard_alone w net conn c.ask.reader upper left.made left.others ordered keeps) old.clients.items place c c' stay h.reads_are.clients at refl left.ask left.stands.client_is);
            servers = subst (λ (xs : List (ReadServer I O)). ServersShow i o v left.made n.blocks.items xs) (sym (ap (λ x. x.items) same))
                (servers_kept i o w net v left.made n.blocks.items old.servers.items (heard_servers w net conn c.ask.reader upper left.made left.others ordered nodes) (λ d e is x. left.others d true e (λ z. refl) x) h.reads_are.servers);
            dialled = λ d line within by. subst (λ (xs : List (ReadClient I O)). HasClient xs line) (sym set) (has_client_set old.clients.items place c c' at left.ask line
                (still_dialled i o w net v left.made n.blocks.items old.clients.items (heard_servers w net conn c.ask.reader upper left.made left.others ordered nodes) h.reads_are.dialled d line within by));
          };
        };
        writers = λ b d e by x. left.others d false e (elsewhere w net conn c.ask.reader upper d false (no_writer_reads b (w.dialled d).upper by)) x;
        primaries = λ d lower e by x. left.others d lower e (elsewhere w net conn c.ask.reader upper d lower (no_recovery_reads (w.dialled d).upper by)) x;
        asks = ap (λ (xs : List (ReadClient I O)). asks_of xs) set ∙ asks_set old.clients.items place c c' at left.ask;
      }

  pub heard_stands : (w : World) (net : Net) (n : Nodes F I O) (old : Reads I O) (road : R) (place : ℕ) (c : ReadClient I O) → ReadsStand r i o w net road n old → slice_get old.clients.items place ≡ Some c → ReadClientStands r i o w net c road
  heard_stands w net n old road place c h at = record { roads_are = h.nodes.roads_are; client_is = h.reads_are.clients.each place c at }
