-- What a primary hears leaves recoveries and nodes that show the world after.
use Rattle.std.proofs.Common.{◌≡◌, ◌≢◌, ℕ, Bool, true, false, List, [], ◌∷◌, slice_get, slice_set, Some, refl, sym, ap, ◌∙◌, subst}
use Rattle.hd_base.specs.declared.files.Files as files
use Rattle.hd_base.specs.declared.links.LinkIn as link_in
use Rattle.hd_base.specs.declared.links.LinkOut as link_out
use Rattle.hd_base.specs.declared.numbers.ConnId.{ConnId}
use Rattle.hd_base.specs.declared.roads.Roads as roads
use Rattle.road_traffic.specs.Showing.{Net}
use Rattle.world.specs.declared.events.Event.TheVariants as event
use Rattle.world.specs.Enabled.{can_up}
use Rattle.world.specs.Events.{happens}
use Rattle.world.specs.Parts.{by_primary}
use Rattle.world.specs.Worlds.{World}
use Rattle.play_model.proofs.WorldLaws.FactTables.{and-right}
use Rattle.play_servers.specs.WorldNets.Ends.{IsElsewhere}
use Rattle.play_nodes.specs.WorldOrders.Orders.{Ordered, purpose_of, recovering}
use Rattle.play_primaries.specs.ClientEvents.Showing.{OthersStay}
use Rattle.play_primaries.specs.PrimaryEvents.PrimaryFault.{PrimaryFault}
use Rattle.play_primaries.specs.PrimaryEvents.PrimaryFault.TheVariants as primary_fault
use Rattle.play_primaries.specs.PrimaryEvents.Faults as primary
use Rattle.play_model.specs.declared.dues.Due.TheVariants as due
use Rattle.play_model.specs.Dues.{Queues, is_due, is_open_above}
use Rattle.play_nodes.specs.declared.nodes.Nodes.{Nodes}
use Rattle.play_nodes.specs.Frames.{KeepsNodes, EndsStay, NodesStay}
use Rattle.play_nodes.specs.Showing.{NodesShow}
use Rattle.play_primaries.specs.declared.clients.PrimaryClient.{PrimaryClient}
use Rattle.play_primaries.specs.Clients.{PrimaryClientStands}
use Rattle.play_primaries.specs.Frames as primaries
use Rattle.play_primaries.specs.Hearing as hearing
use Rattle.play_primaries.specs.Staying.{PrimaryClientsStay}
use Rattle.play_servers.specs.declared.recoveries.RecoveryServer.{RecoveryServer}
use Rattle.play_recoveries.specs.declared.recoveries.Recoveries.{Recoveries}
use Rattle.play_recoveries.specs.Faults.{of_primary, IsCaused}
use Rattle.play_recoveries.specs.Keeping.{KeepsServers}
use Rattle.play_recoveries.specs.Left.{RecoveriesLeft}
use Rattle.play_recoveries.specs.Places.{recoveries_of, HasClient}
use Rattle.play_recoveries.specs.Showing.{ClientsShow, HasSeats, ServersShow, RecoveriesStand}
use Rattle.play_recoveries.proofs.ClientLaws.{primary_same, no_writer_recovers, no_member_recovers, no_read_recovers, ActsAlone, clients_after, recoveries_set, has_client_set}
use Rattle.play_recoveries.proofs.KeepLaws.{none_between, servers_kept, still_dialled}
use Rattle.play_recoveries.proofs.ShutLaws.{happens_shut, run_first}

-- DUES

pub up_can : (w : World) (queues : Queues) (conn : ConnId) → is_due w queues (due.Up conn) ≡ true → can_up w conn.0 ≡ true
up_can w queues conn e = and-right (is_open_above w (w.dialled conn.0).upper) (can_up w conn.0) e

-- FAULTS

pub primary_caused : {F R I O : Type 0} (f : files.Ghosts F) (r : roads.Ghosts R I O) (n n' : Nodes F I O) (road road' : R) (conn : ℕ) (why : PrimaryFault) → primary.IsCaused r conn road road' why → IsCaused f r n n' road road' (of_primary why)
primary_caused f r n n' road road' conn primary_fault.LinkFailed h = (conn, h)
primary_caused f r n n' road road' conn primary_fault.RoadsFailed h = h
primary_caused f r n n' road road' conn primary_fault.Memory h = tt

module _ {F R I O : Type 0} (f : files.Ghosts F) (r : roads.Ghosts R I O) (i : link_in.Ghosts I) (o : link_out.Ghosts O) where
  module _ (w : World) (net : Net) (conn : ConnId) (number at_place : ℕ) (upper : (w.dialled conn.0).upper ≡ by_primary number at_place) where
    -- an end that no primary dialled isn't the one that took
    elsewhere : (d : ℕ) (lower : Bool) → (purpose_of (w.dialled d).upper ≡ recovering → ⊥) → IsElsewhere conn.0 false d lower
    elsewhere d lower never same = absurd (never (ap (λ (n : ℕ). purpose_of (w.dialled n).upper) (sym same) ∙ ap purpose_of upper))

    -- nor is one that another primary dialled
    apart_ends : (other place d : ℕ) → other ≢ number → (w.dialled d).upper ≡ by_primary other place → IsElsewhere conn.0 false d false
    apart_ends other place d apart is same = absurd (apart (primary_same other number place at_place (sym is ∙ (ap (λ (n : ℕ). (w.dialled n).upper) (sym same) ∙ upper))))

    module _ (made : Net) (others : OthersStay i o w net (happens w (event.Up conn)) made (Some conn.0)) (ordered : Ordered w) where
      abbrev there : World
      there = happens w (event.Up conn)

      pub heard_alone : primaries.HearingKeepsOthers → primaries.HearingKeepsNodes → ActsAlone i o w net there made number
      heard_alone keeps nodes =
          let k = keeps w conn number at_place upper in
          let live = (nodes w conn number at_place upper).keeps in
          record {
            ordered = ordered;
            live = record { running = live.running; lives = live.lives };
            primaries = λ other apart. k.others.primaries other apart;
            over = λ other place c apart is. k.takes c false (apart_ends other place c apart is);
            ends = λ other place c e apart is h. others c false e (apart_ends other place c apart is) h;
            shut = λ c is. happens_shut w (event.Up conn) c is;
          }

      pub heard_servers : primaries.HearingKeepsNodes → KeepsServers w there
      heard_servers keeps =
          let k = keeps w conn number at_place upper in
          record {
            served = record { grows = k.keeps.grows; dialled = k.keeps.dialled; running = k.keeps.running; lives = k.keeps.lives };
            fresh = λ d le lt e. none_between w.next_conn there.next_conn d k.conns le lt;
            lowers = λ d before z. k.keeps.lowers d;
            first = λ d before. run_first w (event.Up conn ∷ []) d;
          }

      heard_keeps : primaries.HearingKeepsNodes → primaries.HearingKeepsOthers → KeepsNodes w there
      heard_keeps nodes keeps =
          let k = (nodes w conn number at_place upper).keeps in
          let q = keeps w conn number at_place upper in
          record {
            nodes = k.nodes;
            grows = k.grows;
            dialled = k.dialled;
            running = k.running;
            lives = k.lives;
            lowers = k.lowers;
            replicas = k.replicas;
            over = λ c d by. q.takes d false (elsewhere d false (no_member_recovers c (w.dialled d).upper by));
          }

      heard_ends : EndsStay i o w net there made
      heard_ends = record {
        lowers = λ d e h. others d true e (λ same. refl) h;
        uppers = λ c d e by h. others d false e (elsewhere d false (no_member_recovers c (w.dialled d).upper by)) h;
      }

      pub heard_nodes : primaries.HearingKeepsNodes → primaries.HearingKeepsOthers → NodesStay f i o → (n : Nodes F I O) → NodesShow i o w net n → NodesShow i o there made n
      heard_nodes nodes keeps stay n shows =
          stay w net there made n (record { nodes_are = shows; ordered = ordered; keeps = heard_keeps nodes keeps; ends = heard_ends }) (nodes w conn number at_place upper).conns

  pub heard_recoveries : (w : World) (net : Net) (conn : ConnId) (at_place place : ℕ) (n : Nodes F I O) (old new : Recoveries I O) (c c' : PrimaryClient I O) (road road' : R) → PrimaryClientsStay i o → NodesStay f i o → primaries.HearingKeepsNodes → primaries.HearingKeepsOthers
      → RecoveriesStand r i o w net road n old → Ordered w → slice_get old.clients.items place ≡ Some c → (w.dialled conn.0).upper ≡ by_primary c.recovery.primary at_place → new.clients.items ≡ slice_set old.clients.items place c' → new.servers ≡ old.servers → HasSeats c'.state
      → hearing.HearLeft r i o w net (happens w (event.Up conn)) conn c c' road' → RecoveriesLeft r i o w net (happens w (event.Up conn)) road' n old new
  heard_recoveries w net conn at_place place n old new c c' road road' stay nodes_stay nodes keeps h ordered at upper set same seats left =
      let v : World = happens w (event.Up conn) in
      let number : ℕ = c.recovery.primary in
      let recovers : c'.recovery.primary ≡ number = ap (λ x. x.primary) left.recovery in
      record {
        made = left.made;
        stands = record {
          nodes = record {
            roads_are = left.stands.roads_are;
            nodes_are = heard_nodes w net conn number at_place upper left.made left.others ordered nodes keeps nodes_stay n h.nodes.nodes_are;
          };
          recoveries_are = record {
            clients = subst (λ (xs : List (PrimaryClient I O)). ClientsShow i o v left.made xs) (sym set)
                (clients_after i o w net v left.made number (heard_alone w net conn number at_place upper left.made left.others ordered keeps nodes) old.clients.items place c c' stay h.recoveries_are.clients at refl recovers left.stands.client_is seats);
            servers = subst (λ (xs : List (RecoveryServer I O)). ServersShow i o v left.made n.blocks.items xs) (sym (ap (λ x. x.items) same))
                (servers_kept i o w net v left.made n.blocks.items old.servers.items (heard_servers w net conn number at_place upper left.made left.others ordered nodes) (λ d e is x. left.others d true e (λ z. refl) x) h.recoveries_are.servers);
            dialled = λ d other j within by. subst (λ (xs : List (PrimaryClient I O)). HasClient xs other) (sym set) (has_client_set old.clients.items place c c' at recovers other
                (still_dialled i o w net v left.made n.blocks.items old.clients.items (heard_servers w net conn number at_place upper left.made left.others ordered nodes) h.recoveries_are.dialled d other j within by));
          };
        };
        writers = λ b d e by x. left.others d false e (elsewhere w net conn number at_place upper d false (no_writer_recovers b (w.dialled d).upper by)) x;
        readers = λ d lower e by x. left.others d lower e (elsewhere w net conn number at_place upper d lower (no_read_recovers (w.dialled d).upper by)) x;
        recovers = ap (λ (xs : List (PrimaryClient I O)). recoveries_of xs) set ∙ recoveries_set old.clients.items place c c' at left.recovery;
      }

  pub heard_stands : (w : World) (net : Net) (n : Nodes F I O) (old : Recoveries I O) (road : R) (place : ℕ) (c : PrimaryClient I O) → RecoveriesStand r i o w net road n old → slice_get old.clients.items place ≡ Some c → PrimaryClientStands r i o w net c road
  heard_stands w net n old road place c h at = record { roads_are = h.nodes.roads_are; client_is = h.recoveries_are.clients.each place c at }
