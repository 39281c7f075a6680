-- Recoveries that show a world show one that keeps it.
use Rattle.std.proofs.Common.{◌≡◌, ◌<◌, ◌≤◌, ℕ, Bool, true, false, List, slice_get, Some, refl, sym, ap, ◌∙◌, subst, arith}
use Rattle.std.specs.Prelude.{◌==◌, ◌&&◌, nat_lt}
use Rattle.std.proofs.lemmas.Bool.Decides.{nat_tests}
use Rattle.hd_base.specs.declared.ends.Conn.{Conn}
use Rattle.hd_base.specs.declared.links.LinkIn as link_in
use Rattle.hd_base.specs.declared.links.LinkOut as link_out
use Rattle.hd_base.specs.declared.numbers.BlockId.{BlockId}
use Rattle.op_headers.specs.declared.ops.Op.TheVariants as op
use Rattle.road_traffic.specs.Showing.{Net}
use Rattle.world.specs.Connections.{is_alive, is_served}
use Rattle.world.specs.Parts.{Dialled, Place, request, by_primary, Leading, leads, Primary, Lower, idle, recovers, ended_below}
use Rattle.world.specs.Worlds.{World}
use Rattle.play_servers.specs.WorldNets.Nets.{IsEndOf}
use Rattle.play_nodes.specs.WorldOrders.Orders.{Ordered, PrimaryIs, purpose_of, recovering}
use Rattle.play_model.specs.declared.recoveries.Recovery.{Recovery}
use Rattle.play_primaries.specs.declared.clients.PrimaryClient.{PrimaryClient}
use Rattle.play_primaries.specs.Staying.{KeepsConn, KeepsPrimaryClient, PrimaryClientsStay}
use Rattle.play_servers.specs.declared.recoveries.AnswerEnd.{AnswerEnd}
use Rattle.play_servers.specs.declared.recoveries.AnswerEnd.TheVariants as answer_end
use Rattle.play_servers.specs.declared.recoveries.RecoveryServer.{RecoveryServer}
use Rattle.play_servers.specs.Recoveries.{EndShows}
use Rattle.play_recoveries.specs.Keeping.{FirstStays, KeepsPrimaries, KeepsServed, KeepsServers, RecoveriesStay}
use Rattle.play_recoveries.specs.Places.{HasServer, HasClient}
use Rattle.play_recoveries.specs.Showing.{DialledHaveClients, ClientsShow, IsServer, ServersShow}

-- NUMBERS

pub test_so : (a b : ℕ) → a < b → nat_lt a b ≡ true
test_so a b h = grind (arith, nat_tests, h)

pub before_so : (a b : ℕ) → nat_lt a b ≡ true → a < b
before_so a b e = grind (arith, nat_tests)

pub behind_so : (a b : ℕ) → nat_lt a b ≡ false → b ≤ a
behind_so a b e = grind (arith, nat_tests)

pub later : (a b c : ℕ) → a < b → b ≤ c → a < c
later a b c h k = omega arith

-- nothing lies between two numbers that are the same
pub none_between : (a b d : ℕ) → b ≡ a → a ≤ d → d < b → ⊥
none_between a b d same le lt = omega (arith, same, le, lt)

-- a number that is the same as another is no less
pub no_more : (a b : ℕ) → b ≡ a → a ≤ b
no_more a b e = omega (arith, e)

pub no_fewer : (a b : ℕ) → b ≡ a → b ≤ a
no_fewer a b e = omega (arith, e)

-- WORLDS

-- A primary that leads over a connection has dialled it.
pub dialled_by : (w : World) → Ordered w → (number : ℕ) (l : Leading) (place c : ℕ) → w.primaries number ≡ leads l → slice_get l.conns place ≡ Some (Some c) → (w.dialled c).upper ≡ by_primary number place
dialled_by w ordered number l place c is at = subst (λ (p : Primary). PrimaryIs w.dialled number p) is (ordered.primaries_are number) place c at

pub served_kept : (w v : World) (d : ℕ) → d < w.next_conn → KeepsServed w v → is_served v d ≡ is_served w d
served_kept w v d within k =
    rw (
      test_so d v.next_conn (later d w.next_conn v.next_conn within k.grows),
      test_so d w.next_conn within,
      k.dialled d within,
      k.running (w.dialled d).to.node,
      k.lives (w.dialled d).to.node,
    ) refl

-- Each lower end of a connection that a primary dialled is one of the world after.
abbrev pub LowerEndsStay : {I O : Type 0} → link_in.Ghosts I → link_out.Ghosts O → World → Net → World → Net → Type 0
LowerEndsStay {I} {O} i o w net v made = (d : ℕ) (e : Conn I O) → purpose_of (w.dialled d).upper ≡ recovering → IsEndOf i o w net d true e → IsEndOf i o v made d true e

-- So is each upper end.
abbrev pub UpperEndsStay : {I O : Type 0} → link_in.Ghosts I → link_out.Ghosts O → World → Net → World → Net → Type 0
UpperEndsStay {I} {O} i o w net v made = (d : ℕ) (e : Conn I O) → purpose_of (w.dialled d).upper ≡ recovering → IsEndOf i o w net d false e → IsEndOf i o v made d false e

-- Nodes run as before, in the same lives.
pub record NodesLive (w v : World) : Type 0 where
  pub running : (n : ℕ) → v.running n ≡ w.running n
  pub lives : (n : ℕ) → v.lives n ≡ w.lives n

pub alive_same : (w v : World) (p : Place) → NodesLive w v → is_alive v p ≡ is_alive w p
alive_same w v p k = ap (λ (b : Bool). b && (v.lives p.node == p.life)) (k.running p.node) ∙ ap (λ (n : ℕ). w.running p.node && (n == p.life)) (k.lives p.node)

module _ {I O : Type 0} (i : link_in.Ghosts I) (o : link_out.Ghosts O) where
  -- SERVERS

  pub end_kept : (l : Lower) (e : AnswerEnd I O) (w : World) (net : Net) (v : World) (made : Net) (c : ℕ) (blocks : List BlockId) → is_served v c ≡ is_served w c → FirstStays w v c → ((x : Conn I O) → IsEndOf i o w net c true x → IsEndOf i o v made c true x) → EndShows i o w net c blocks l e → EndShows i o v made c blocks l e
  end_kept idle (answer_end.Idle x) w net v made c blocks served head ends h = (served ∙ h.0, ends x h.1)
  end_kept recovers (answer_end.Answering old place) w net v made c blocks served head ends h = (
    served ∙ h.0,
    record {
      end_is = ends old.end h.1.end_is;
      received = h.1.received;
      first = h.1.first;
      first_is = head (request (op.Recovery h.1.first)) h.1.first_is;
      block = h.1.block;
      at_place = h.1.at_place;
      of_block = h.1.of_block;
    },
  )
  end_kept idle answer_end.Ended w net v made c blocks served head ends h = served ∙ h
  end_kept recovers answer_end.Ended w net v made c blocks served head ends h = served ∙ h
  end_kept ended_below answer_end.Ended w net v made c blocks served head ends h = tt
  end_kept l e w net v made c blocks served head ends h = absurd h

  module _ (w : World) (net : Net) (v : World) (made : Net) (blocks : List BlockId) where
    -- A server whose connection and lower end stay, and are served as before, shows the world after.
    pub server_past : (s : RecoveryServer I O) → w.next_conn ≤ v.next_conn → v.dialled s.conn.0 ≡ w.dialled s.conn.0 → v.lowers s.conn.0 ≡ w.lowers s.conn.0 → is_served v s.conn.0 ≡ is_served w s.conn.0 → FirstStays w v s.conn.0
        → ((x : Conn I O) → IsEndOf i o w net s.conn.0 true x → IsEndOf i o v made s.conn.0 true x) → IsServer i o w net blocks s → IsServer i o v made blocks s
    server_past s grows dialled lower served head ends h = record {
      within = later s.conn.0 w.next_conn v.next_conn h.within grows;
      shows = record {
        dialled = ap (λ (d : Dialled). purpose_of d.upper) dialled ∙ h.shows.dialled;
        end_is = subst (λ (l : Lower). EndShows i o v made s.conn.0 blocks l s.end) (sym lower)
            (end_kept (w.lowers s.conn.0) s.end w net v made s.conn.0 blocks served head ends h.shows.end_is);
      };
    }

    pub server_kept : (s : RecoveryServer I O) → KeepsServed w v → v.lowers s.conn.0 ≡ w.lowers s.conn.0 → FirstStays w v s.conn.0 → ((x : Conn I O) → IsEndOf i o w net s.conn.0 true x → IsEndOf i o v made s.conn.0 true x) → IsServer i o w net blocks s → IsServer i o v made blocks s
    server_kept s k lower first ends h = server_past s k.grows (k.dialled s.conn.0 h.within) lower (served_kept w v s.conn.0 h.within k) first ends h

    -- Each connection that a primary has dialled was dialled before.
    pub still_there : (servers : List (RecoveryServer I O)) → KeepsServers w v → ((c : ℕ) → c < w.next_conn → purpose_of (w.dialled c).upper ≡ recovering → HasServer servers c) → (c : ℕ) → c < v.next_conn → purpose_of (v.dialled c).upper ≡ recovering → HasServer servers c
    still_there servers k all c within is = by (nat_lt c w.next_conn) refl
      where
        by : (q : Bool) → nat_lt c w.next_conn ≡ q → HasServer servers c
        by true e = let before = before_so c w.next_conn e in all c before (sym (ap (λ (d : Dialled). purpose_of d.upper) (k.served.dialled c before)) ∙ is)
        by false e = absurd (k.fresh c (behind_so c w.next_conn e) within is)

    pub servers_kept : (servers : List (RecoveryServer I O)) → KeepsServers w v → LowerEndsStay i o w net v made → ServersShow i o w net blocks servers → ServersShow i o v made blocks servers
    servers_kept servers k ends h = record {
      each = λ n s at.
          let was = h.each n s at in
          server_kept s k.served (k.lowers s.conn.0 was.within was.shows.dialled) (k.first s.conn.0 was.within) (λ x is. ends s.conn.0 x was.shows.dialled is) was;
      ascend = h.ascend;
      all = still_there servers k h.all;
    }

    -- CLIENTS

    pub still_dialled : (clients : List (PrimaryClient I O)) → KeepsServers w v → DialledHaveClients w clients → DialledHaveClients v clients
    still_dialled clients k all c number place within upper = by (nat_lt c w.next_conn) refl
      where
        by : (q : Bool) → nat_lt c w.next_conn ≡ q → HasClient clients number
        by true e = let before = before_so c w.next_conn e in all c number place before (sym (ap (λ (d : Dialled). d.upper) (k.served.dialled c before)) ∙ upper)
        by false e = absurd (k.fresh c (behind_so c w.next_conn e) within (ap purpose_of upper))

    -- A primary is kept that is as it was, where its connections are, and nodes run as before.
    pub keeps_primary : Ordered w → NodesLive w v → (r : Recovery) → v.primaries r.primary ≡ w.primaries r.primary → ((place c : ℕ) → (w.dialled c).upper ≡ by_primary r.primary place → KeepsConn i o w net v made c) → KeepsPrimaryClient i o w net v made r
    keeps_primary ordered live r same conns = record {
      primary = same;
      runs = λ may runs. live.running r.node.0 ∙ runs;
      lives = λ n. no_more (w.lives n) (v.lives n) (live.lives n);
      alive = λ l is e. alive_same w v l.at live ∙ e;
      gone = λ l is past e. alive_same w v l.at live ∙ e;
      conns = λ l place c is e at. conns place c (dialled_by w ordered r.primary l place c is at);
    }

    -- Clients that are kept, one by one, show the world after, in which the primaries are as they were.
    pub clients_past : (clients : List (PrimaryClient I O)) → PrimaryClientsStay i o → ((p : ℕ) → v.primaries p ≡ w.primaries p) → ((r : Recovery) → KeepsPrimaryClient i o w net v made r) → ClientsShow i o w net clients → ClientsShow i o v made clients
    clients_past clients stay same k h = record {
      each = λ n c at. stay c w net v made (h.each n c at) (k c.recovery);
      seats = h.seats;
      ascend = h.ascend;
      all = λ number begun. h.all number (λ e. begun (same number ∙ e));
    }

    pub clients_kept : (clients : List (PrimaryClient I O)) → PrimaryClientsStay i o → Ordered w → NodesLive w v → KeepsPrimaries w v → UpperEndsStay i o w net v made → ClientsShow i o w net clients → ClientsShow i o v made clients
    clients_kept clients stay ordered live k ends h =
        clients_past clients stay k.primaries (λ r. keeps_primary ordered live r (k.primaries r.primary)
        (λ place c by. record { over = k.over r.primary place c by; ends = λ e x. ends c e (ap purpose_of by) x; shut = k.shut c })) h

  pub recoveries_kept : PrimaryClientsStay i o → RecoveriesStay i o
  recoveries_kept stay w net v made blocks p h k = record {
    clients = clients_kept w net v made blocks p.clients.items stay k.ordered (record { running = k.servers.served.running; lives = k.servers.served.lives }) k.primaries (λ d e is x. k.ends d false e is x) h.clients;
    servers = servers_kept w net v made blocks p.servers.items k.servers (λ d e is x. k.ends d true e is x) h.servers;
    dialled = still_dialled w net v made blocks p.clients.items k.servers h.dialled;
  }
