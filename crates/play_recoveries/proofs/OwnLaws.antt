-- The own step of a primary leaves recoveries and nodes that show the world after.
use Rattle.std.proofs.Common.{◌≡◌, ◌<◌, ◌≤◌, ◌+◌, ◌-◌, ◌++◌, ℕ, Bool, true, false, List, length, map, slice_get, slice_set, is_some, Option, Some, ◌⊎◌, inl, inr, refl, sym, ap, ◌∙◌, subst, arith}
use Rattle.std.specs.Prelude.{nat_lt}
use Rattle.hd_base.specs.declared.ends.Conn.{Conn}
use Rattle.hd_base.specs.declared.files.Files as files
use Rattle.hd_base.specs.declared.links.LinkIn as link_in
use Rattle.hd_base.specs.declared.links.LinkOut as link_out
use Rattle.hd_base.specs.declared.numbers.BlockId.{BlockId}
use Rattle.hd_base.specs.declared.roads.Roads as roads
use Rattle.name_core.specs.declared.desks.Desk as desk
use Rattle.road_traffic.specs.Showing.{Net}
use Rattle.world.specs.declared.events.Event.{Event}
use Rattle.world.specs.Events.{run}
use Rattle.world.specs.Parts.{Dialled, by_primary, Primary, no_primary, was_told, leads, has_led, Lower, idle}
use Rattle.world.specs.Worlds.{World}
use Rattle.play_model.specs.WorldLaws.Placing.{Placed}
use Rattle.play_servers.specs.WorldNets.Nets.{IsEndOf}
use Rattle.play_nodes.specs.WorldOrders.Orders.{Ordered, purpose_of, recovering}
use Rattle.play_primaries.specs.PrimaryEvents.Beginning.{LowerShows}
use Rattle.play_primaries.specs.PrimaryEvents.Leading.{IsNoneOf}
use Rattle.play_primaries.specs.PrimaryEvents.Showing.{IsShut}
use Rattle.play_model.specs.declared.recoveries.Recovery.{Recovery}
use Rattle.play_model.specs.Recoveries.{all_answered, primary_events}
use Rattle.play_nodes.specs.declared.nodes.Nodes.{Nodes}
use Rattle.play_nodes.specs.Elsewhere.{AreLed}
use Rattle.play_nodes.specs.Frames.{IsKept}
use Rattle.play_nodes.specs.Showing.{NodesShow}
use Rattle.play_nodes.proofs.PlaceLaws.{element_within}
use Rattle.play_nodes.proofs.Tables.{element}
use Rattle.play_primaries.specs.declared.clients.PrimaryClient.{PrimaryClient}
use Rattle.play_primaries.specs.Frames as primaries
use Rattle.play_primaries.specs.Owning as owning
use Rattle.play_primaries.specs.Owning.{dials_in, led_conns, step_events}
use Rattle.play_primaries.specs.Staying.{PrimaryClientsStay}
use Rattle.play_primaries.specs.PlayReaders.Frames.{TakesNothing}
use Rattle.play_servers.specs.declared.recoveries.AnswerEnd.TheVariants as answer_end
use Rattle.play_servers.specs.declared.recoveries.RecoveryServer.{RecoveryServer}
use Rattle.play_servers.specs.Recoveries.{EndShows, ServerShows}
use Rattle.play_recoveries.specs.declared.recoveries.Recoveries.{Recoveries}
use Rattle.play_recoveries.specs.Keeping.{FirstStays, KeepsServed}
use Rattle.play_recoveries.specs.Owning.{made_servers, AreReached, OwnLeft}
use Rattle.play_recoveries.specs.Places.{recoveries_of, HasServer, HasClient}
use Rattle.play_recoveries.specs.Showing.{DialledHaveClients, ClientsShow, HasSeats, IsServer, ServersShow, RecoveriesStand}
use Rattle.play_recoveries.proofs.ClientLaws.{primary_same, no_writer_recovers, no_member_recovers, no_read_recovers, ActsAlone, clients_after, recoveries_set, has_client_set}
use Rattle.play_recoveries.proofs.JoinLaws.{front}
use Rattle.play_recoveries.proofs.KeepLaws.{before_so, behind_so, dialled_by, server_kept}
use Rattle.play_recoveries.proofs.LowerLaws.{IsBehind, parts, behind, answered_same, numbered_past, made_count, IsMade, is_made}
use Rattle.play_recoveries.proofs.ShutLaws.{run_first, run_shut}

-- EVENTS

-- the events of the step are those in which each dial to a node that runs is answered
pub events_same : (p : Primary) (r : Recovery) → step_events p r (all_answered r.members) ≡ primary_events p r
events_same no_primary r = refl
events_same (was_told block told) r = refl
events_same (leads l) r = refl
events_same (has_led end) r = refl

-- NUMBERS

place_of_sum : (a b d : ℕ) → a ≤ d → d < a + b → d - a < b
place_of_sum a b d h k = omega (arith, h, k)

sum_back : (a d : ℕ) → a ≤ d → a + (d - a) ≡ d
sum_back a d h = omega (arith, h)

no_less_sum : (a b : ℕ) → a ≤ a + b
no_less_sum a b = omega arith

within_sum : (a b c : ℕ) → a < b → a < b + c
within_sum a b c h = omega (arith, h)

ordered_sums : (n j k : ℕ) → j < k → n + j < n + k
ordered_sums n j k h = omega (arith, h)

less_back : (n j k a b : ℕ) → a ≡ n + j → b ≡ n + k → a < b → j < k
less_back n j k a b e f h = omega (arith, e, f, h)

not_behind : (n j a b : ℕ) → a ≡ n + j → b < n → a < b → ⊥
not_behind n j a b e f h = omega (arith, e, f, h)

-- THE CONNECTIONS OF A PRIMARY

-- A connection of a primary was dialled by it.
pub led_dialled : (w : World) → Ordered w → (number : ℕ) (p : Primary) → w.primaries number ≡ p → (place c : ℕ) → slice_get (led_conns p) place ≡ Some (Some c) → (w.dialled c).upper ≡ by_primary number place
led_dialled w ordered number (leads l) is place c at = dialled_by w ordered number l place c is at
led_dialled w ordered number no_primary is place c at = cc
led_dialled w ordered number (was_told block told) is place c at = cc
led_dialled w ordered number (has_led end) is place c at = cc

-- What the primary didn't dial is none of its connections.
none_led : (w : World) → Ordered w → (number d : ℕ) (lower : Bool) → ((place : ℕ) → (w.dialled d).upper ≡ by_primary number place → ⊥) → IsNoneOf (led_conns (w.primaries number)) d lower
none_led w ordered number d lower never place c at same =
    absurd (never place (ap (λ (n : ℕ). (w.dialled n).upper) (sym same) ∙ led_dialled w ordered number (w.primaries number) refl place c at))

lower_of_none : (conns : List (Option ℕ)) (d : ℕ) → IsNoneOf conns d true
lower_of_none conns d place c at same = refl

-- THE STEP

-- What holds before it.
pub record StepGiven (w : World) (r : Recovery) (v : World) : Type 0 where
  pub ordered : Ordered w
  pub placed : Placed w
  pub events : List Event
  pub is : v ≡ run w events
  pub others : primaries.KeepsOthers w v r.primary
  pub takes : TakesNothing w v
  pub nodes : primaries.OwnKeepsNodes w v r.primary

module _ {D F R I O : Type 0} (d : desk.Ghosts D) (f : files.Ghosts F) (r : roads.Ghosts R I O) (i : link_in.Ghosts I) (o : link_out.Ghosts O) where
  module _ (w : World) (net : Net) (t : Recovery) (v : World) (given : StepGiven w t v) (c c' : PrimaryClient I O) (of_client : c.recovery ≡ t) (lowers : List (Option (Conn I O))) (office : D) (road' : R) (left : owning.OwnLeft d r i o w net v c c' lowers office road') where
    abbrev number : ℕ
    number = t.primary

    abbrev answers : List Bool
    answers = map is_some lowers

    abbrev made : Net
    made = left.made

    dials : owning.AreDialled w v t answers
    dials = subst (λ (x : Recovery). owning.AreDialled w v x answers) of_client left.dialled

    -- an end that isn't an upper one of the primary stays
    stays : (e : ℕ) (lower : Bool) (x : Conn I O) → ((place : ℕ) → (w.dialled e).upper ≡ by_primary number place → ⊥) → IsEndOf i o w net e lower x → IsEndOf i o v made e lower x
    stays e lower x never h = left.others e lower x (subst (λ (y : Recovery). IsNoneOf (led_conns (w.primaries y.primary)) e lower) (sym of_client) (none_led w given.ordered number e lower never)) h

    lowers_stay : (e : ℕ) (x : Conn I O) → IsEndOf i o w net e true x → IsEndOf i o v made e true x
    lowers_stay e x h = left.others e true x (lower_of_none (led_conns (w.primaries c.recovery.primary)) e) h

    pub step_alone : ActsAlone i o w net v made number
    unfolding stays
    step_alone = record {
      ordered = given.ordered;
      live = record { running = given.nodes.keeps.running; lives = given.nodes.keeps.lives };
      primaries = λ other apart. given.others.primaries other apart;
      over = λ other place e apart is. given.takes e false;
      ends = λ other place e x apart is h. stays e false x (λ j by. apart (primary_same other number place j (sym is ∙ by))) h;
      shut = λ e is. subst (λ (u : World). IsShut u e) (sym given.is) (run_shut w given.events e is);
    }

    pub step_kept : (n : Nodes F I O) → NodesShow i o w net n → IsKept i o w net v made n
    unfolding stays lowers_stay
    step_kept n shows =
        let k = given.nodes.keeps in
        record {
          nodes_are = shows;
          ordered = given.ordered;
          keeps = record {
            nodes = k.nodes;
            grows = k.grows;
            dialled = k.dialled;
            running = k.running;
            lives = k.lives;
            lowers = k.lowers;
            replicas = k.replicas;
            over = λ e b by. given.takes b false;
          };
          ends = record {
            lowers = lowers_stay;
            uppers = λ e b x by h. stays b false x (λ place is. absurd (no_member_recovers e (w.dialled b).upper by (ap purpose_of is))) h;
          };
        }

    pub step_led : AreLed w v number t.node t.members answers
    unfolding dials
    step_led = record {
      next = dials.next ∙ ap (λ (n : ℕ). w.next_conn + n) (sym (answered_same t.members answers dials.count));
      each = λ place e node at is.
          let x = dials.each place e node at is in
          record { upper = x.upper; origin = x.from; node_is = x.to; idle_is = given.nodes.keeps.lowers e ∙ (given.placed.undialled e (numbered_past w.next_conn answers place e is)).lower };
    }

    -- THE LOWER ENDS

    served : KeepsServed w v
    served = let k = given.nodes.keeps in record { grows = k.grows; dialled = k.dialled; running = k.running; lives = k.lives }

    -- the connection of a new server, and its end
    made_end : (k : ℕ) (s : RecoveryServer I O) (x : IsMade lowers w.next_conn k s) → IsEndOf i o v made (w.next_conn + k) true x.end
    made_end k s x =
        subst (λ (y : Option (Option (Conn I O))). LowerShows i o v made (Some (Some (w.next_conn + k))) y) x.at
        (subst (λ (y : Option (Option ℕ)). LowerShows i o v made y (slice_get lowers x.place)) x.number (left.lowers_are x.place))

    made_number : (k : ℕ) (s : RecoveryServer I O) → IsMade lowers w.next_conn k s → s.conn.0 ≡ w.next_conn + k
    unfolding made_end
    made_number k s x = ap (λ (y : RecoveryServer I O). y.conn.0) x.is ∙ (made_end k s x).id

    made_here : (blocks : List BlockId) (k : ℕ) (s : RecoveryServer I O) → IsMade lowers w.next_conn k s → IsServer i o v made blocks s
    unfolding made_end
    made_here blocks k s x =
        let e : IsEndOf i o v made (w.next_conn + k) true x.end = made_end k s x in
        let within : w.next_conn + k < v.next_conn = subst (λ (n : ℕ). w.next_conn + k < n) left.stands.roads_are.is_net.conns e.within in
        let from = given.nodes.dials (w.next_conn + k) (no_less_sum w.next_conn k) within in
        let none : v.lowers (w.next_conn + k) ≡ idle = given.nodes.keeps.lowers (w.next_conn + k) ∙ (given.placed.undialled (w.next_conn + k) (no_less_sum w.next_conn k)).lower in
        subst (λ (y : RecoveryServer I O). IsServer i o v made blocks y) (sym x.is) (record {
          within = subst (λ (n : ℕ). n < v.next_conn) (sym e.id) within;
          shows = subst (λ (n : ℕ). ServerShows i o v made n blocks (answer_end.Idle x.end)) (sym e.id) (record {
            dialled = ap purpose_of from.upper;
            end_is = subst (λ (l : Lower). EndShows i o v made (w.next_conn + k) blocks l (answer_end.Idle x.end)) (sym none) (from.served, e);
          });
        })

    module _ (blocks : List BlockId) (old : List (RecoveryServer I O)) (h : ServersShow i o w net blocks old) where
      abbrev more : List (RecoveryServer I O)
      more = made_servers lowers

      each_now : (k : ℕ) (s : RecoveryServer I O) → (slice_get old k ≡ Some s) ⊎ IsBehind old more k s → IsServer i o v made blocks s
      unfolding served lowers_stay
      each_now k s (inl at) =
          server_kept i o w net v made blocks s served (given.nodes.keeps.lowers s.conn.0) (subst (λ (u : World). FirstStays w u s.conn.0) (sym given.is) (run_first w given.events s.conn.0))
          (λ x is. lowers_stay s.conn.0 x is) (h.each k s at)
      each_now k s (inr x) = made_here blocks x.place s (is_made lowers w.next_conn x.place s x.at)

      ascend_now : (j k : ℕ) (a b : RecoveryServer I O) → j < k → (slice_get old j ≡ Some a) ⊎ IsBehind old more j a → (slice_get old k ≡ Some b) ⊎ IsBehind old more k b → a.conn.0 < b.conn.0
      ascend_now j k a b before (inl x) (inl y) = h.ascend j k a b x y before
      ascend_now j k a b before (inl x) (inr y) =
          subst (λ (n : ℕ). a.conn.0 < n) (sym (made_number y.place b (is_made lowers w.next_conn y.place b y.at))) (within_sum a.conn.0 w.next_conn y.place (h.each j a x).within)
      ascend_now j k a b before (inr x) (inl y) = absurd (not_behind (length old) x.place j k x.place_is (element_within old k b y) before)
      ascend_now j k a b before (inr x) (inr y) =
          subst (λ (n : ℕ). n < b.conn.0) (sym (made_number x.place a (is_made lowers w.next_conn x.place a x.at)))
          (subst (λ (n : ℕ). w.next_conn + x.place < n) (sym (made_number y.place b (is_made lowers w.next_conn y.place b y.at)))
          (ordered_sums w.next_conn x.place y.place (less_back (length old) x.place y.place j k x.place_is y.place_is before)))

      all_now : (e : ℕ) → e < v.next_conn → purpose_of (v.dialled e).upper ≡ recovering → HasServer (old ++ more) e
      unfolding served dials
      all_now e within is = by (nat_lt e w.next_conn) refl
        where
          by : (q : Bool) → nat_lt e w.next_conn ≡ q → HasServer (old ++ more) e
          by true z =
              let before = before_so e w.next_conn z in
              let x = h.all e before (sym (ap (λ (y : Dialled). purpose_of y.upper) (served.dialled e before)) ∙ is) in
              record { place = x.place; server = x.server; at = front old more x.place x.server x.at; of_conn = x.of_conn }
          by false z =
              let past : w.next_conn ≤ e = behind_so e w.next_conn z in
              let j : ℕ = e - w.next_conn in
              let few : j < length more = subst (λ (n : ℕ). j < n) (sym (made_count lowers)) (place_of_sum w.next_conn (dials_in answers) e past (subst (λ (n : ℕ). e < n) dials.next within)) in
              let s = element more j few in
              record {
                place = length old + j;
                server = s.0;
                at = behind old more j ∙ s.1;
                of_conn = made_number j s.0 (is_made lowers w.next_conn j s.0 s.1) ∙ sum_back w.next_conn e past;
              }

      pub servers_led : ServersShow i o v made blocks (old ++ more)
      unfolding all_now
      servers_led = record {
        each = λ k s at. each_now k s (parts old more k s at);
        ascend = λ j k a b x y before. ascend_now j k a b before (parts old more j a x) (parts old more k b y);
        all = all_now;
      }

    -- the primary that dialled the new connections has a client, and so have those that dialled the others
    dialled_now : (clients : List (PrimaryClient I O)) → HasClient clients number → DialledHaveClients w clients → DialledHaveClients v clients
    unfolding served
    dialled_now clients has all e other place within by = each (nat_lt e w.next_conn) refl
      where
        each : (q : Bool) → nat_lt e w.next_conn ≡ q → HasClient clients other
        each true z = let before = before_so e w.next_conn z in all e other place before (sym (ap (λ (x : Dialled). x.upper) (served.dialled e before)) ∙ by)
        each false z =
            let from = given.nodes.dials e (behind_so e w.next_conn z) within in
            subst (λ (n : ℕ). HasClient clients n) (primary_same number other from.place place (sym from.upper ∙ by)) has

    -- ALL

    pub step_left : (place : ℕ) (n n' : Nodes F I O) (old mid new : Recoveries I O) (road : R) (running : List Bool) → PrimaryClientsStay i o → RecoveriesStand r i o w net road n old → slice_get old.clients.items place ≡ Some c → mid.clients.items ≡ slice_set old.clients.items place c' → mid.servers ≡ old.servers → HasSeats c'.state
        → AreReached i o running t lowers n n' mid new → OwnLeft d r i o w net v office road' n' old new
    unfolding step_led stays
    step_left place n n' old mid new road running stay h at set same seats reached =
        let clients_are : new.clients.items ≡ slice_set old.clients.items place c' = ap (λ x. x.items) reached.serve.0 ∙ set in
        let servers_are : new.servers.items ≡ old.servers.items ++ made_servers lowers = reached.serve.1 ∙ ap (λ x. x.items ++ made_servers lowers) same in
        let of_number : c.recovery.primary ≡ number = ap (λ (x : Recovery). x.primary) of_client in
        let kept_number : c'.recovery.primary ≡ c.recovery.primary = ap (λ (x : Recovery). x.primary) left.recovery in
        record {
          left = record {
            made = made;
            stands = record {
              nodes = record {
                roads_are = left.stands.roads_are;
                nodes_are = reached.shows w net v made (step_kept n h.nodes.nodes_are) step_led;
              };
              recoveries_are = record {
                clients = subst (λ (xs : List (PrimaryClient I O)). ClientsShow i o v made xs) (sym clients_are)
                    (clients_after i o w net v made number step_alone old.clients.items place c c' stay h.recoveries_are.clients at of_number kept_number left.stands.client_is seats);
                servers = subst (λ (bs : List BlockId). ServersShow i o v made bs new.servers.items) (sym (ap (λ (x : Nodes F I O). x.blocks.items) reached.behind.same))
                    (subst (λ (xs : List (RecoveryServer I O)). ServersShow i o v made n.blocks.items xs) (sym servers_are) (servers_led n.blocks.items old.servers.items h.recoveries_are.servers));
                dialled = λ e other j within by. subst (λ (xs : List (PrimaryClient I O)). HasClient xs other) (sym clients_are) (has_client_set old.clients.items place c c' at kept_number other
                    (dialled_now old.clients.items (record { place = place; client = c; at = at; of_primary = of_number }) h.recoveries_are.dialled e other j within by));
              };
            };
            writers = λ b e x by y. stays e false x (λ j is. no_writer_recovers b (w.dialled e).upper by (ap purpose_of is)) y;
            readers = λ e lower x by y. stays e lower x (λ j is. no_read_recovers (w.dialled e).upper by (ap purpose_of is)) y;
            recovers = ap (λ (xs : List (PrimaryClient I O)). recoveries_of xs) clients_are ∙ recoveries_set old.clients.items place c c' at left.recovery;
          };
          office_is = left.office_is;
        }
