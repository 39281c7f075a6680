-- Reads that show a world show one that keeps it.
use Rattle.std.proofs.Common.{◌≡◌, ◌<◌, ◌≤◌, ℕ, Bool, true, false, List, refl, sym, ap, ◌∙◌, subst, arith}
use Rattle.std.specs.Prelude.{nat_lt}
use Rattle.std.proofs.lemmas.Bool.Decides.{nat_tests}
use Rattle.hd_base.specs.declared.ends.Conn.{Conn}
use Rattle.hd_base.specs.declared.links.LinkIn as link_in
use Rattle.hd_base.specs.declared.links.LinkOut as link_out
use Rattle.hd_base.specs.declared.numbers.BlockId.{BlockId}
use Rattle.world.specs.ReadCore.Readings.{ReadingState}
use Rattle.road_traffic.specs.Showing.{Net}
use Rattle.world.specs.Connections.{is_served}
use Rattle.world.specs.Parts.{Dialled, by_reader, Lower, idle, serves, ended_below, Reader, reads}
use Rattle.world.specs.Worlds.{World}
use Rattle.play_servers.specs.WorldNets.Nets.{IsEndOf}
use Rattle.play_nodes.specs.WorldOrders.Orders.{Ordered, ReaderIs, purpose_of, reading}
use Rattle.play_primaries.specs.PlayReaders.ReadClient.{ReadClient}
use Rattle.play_primaries.specs.PlayReaders.Frames.{KeepsReaders}
use Rattle.play_primaries.specs.PlayReaders.Staying.{KeepsReadClient, ReadClientsStay}
use Rattle.play_servers.specs.declared.servers.ReadEnd.{ReadEnd}
use Rattle.play_servers.specs.declared.servers.ReadEnd.TheVariants as read_end
use Rattle.play_servers.specs.declared.servers.ReadServer.{ReadServer}
use Rattle.play_servers.specs.Showing.{EndShows}
use Rattle.play_reads.specs.Keeping.{KeepsServed, KeepsServers, ReadsStay}
use Rattle.play_reads.specs.Places.{HasServer, HasClient}
use Rattle.play_reads.specs.Showing.{DialledHaveClients, ClientsShow, IsServer, ServersShow}

-- NUMBERS

pub test_so : (a b : ℕ) → a < b → nat_lt a b ≡ true
test_so a b h = grind (arith, nat_tests, h)

pub before_so : (a b : ℕ) → nat_lt a b ≡ true → a < b
before_so a b e = grind (arith, nat_tests)

pub behind_so : (a b : ℕ) → nat_lt a b ≡ false → b ≤ a
behind_so a b e = grind (arith, nat_tests)

pub later : (a b c : ℕ) → a < b → b ≤ c → a < c
later a b c h k = omega arith

-- nothing lies between two numbers that are the same
pub none_between : (a b d : ℕ) → b ≡ a → a ≤ d → d < b → ⊥
none_between a b d same le lt = omega (arith, same, le, lt)

-- WORLDS

-- A reader that reads over a connection has dialled it.
pub dialled_by : (w : World) → Ordered w → (line c : ℕ) (s : ReadingState) → w.readers line ≡ reads c s → (w.dialled c).upper ≡ by_reader line
dialled_by w ordered line c s is = subst (λ (x : Reader). ReaderIs w.dialled line x) is (ordered.readers_are line)

pub served_kept : (w v : World) (d : ℕ) → d < w.next_conn → KeepsServed w v → is_served v d ≡ is_served w d
served_kept w v d within k =
    rw (
      test_so d v.next_conn (later d w.next_conn v.next_conn within k.grows),
      test_so d w.next_conn within,
      k.dialled d within,
      k.running (w.dialled d).to.node,
      k.lives (w.dialled d).to.node,
    ) refl

-- Each lower end of a connection that a reader dialled is one of the world after.
abbrev pub LowerEndsStay : {I O : Type 0} → link_in.Ghosts I → link_out.Ghosts O → World → Net → World → Net → Type 0
LowerEndsStay {I} {O} i o w net v made = (d : ℕ) (e : Conn I O) → purpose_of (w.dialled d).upper ≡ reading → IsEndOf i o w net d true e → IsEndOf i o v made d true e

-- So is each upper end.
abbrev pub UpperEndsStay : {I O : Type 0} → link_in.Ghosts I → link_out.Ghosts O → World → Net → World → Net → Type 0
UpperEndsStay {I} {O} i o w net v made = (d : ℕ) (e : Conn I O) → purpose_of (w.dialled d).upper ≡ reading → IsEndOf i o w net d false e → IsEndOf i o v made d false e

module _ {I O : Type 0} (i : link_in.Ghosts I) (o : link_out.Ghosts O) where
  -- SERVERS

  pub end_kept : (l : Lower) (e : ReadEnd I O) (w : World) (net : Net) (v : World) (made : Net) (c : ℕ) (blocks : List BlockId) → is_served v c ≡ is_served w c → ((x : Conn I O) → IsEndOf i o w net c true x → IsEndOf i o v made c true x) → EndShows i o w net c blocks l e → EndShows i o v made c blocks l e
  end_kept idle (read_end.Idle x) w net v made c blocks served ends h = (served ∙ h.0, ends x h.1)
  end_kept (serves b s) (read_end.Serving read place) w net v made c blocks served ends h = (
    served ∙ h.0,
    record {
      shows = record { end_is = ends read.end h.1.shows.end_is; of_block = h.1.shows.of_block; at = h.1.shows.at };
      block = h.1.block;
      at_place = h.1.at_place;
      of_block = h.1.of_block;
    },
  )
  end_kept idle read_end.Ended w net v made c blocks served ends h = served ∙ h
  end_kept (serves b s) read_end.Ended w net v made c blocks served ends h = served ∙ h
  end_kept ended_below read_end.Ended w net v made c blocks served ends h = tt
  end_kept l e w net v made c blocks served ends h = absurd h

  module _ (w : World) (net : Net) (v : World) (made : Net) (blocks : List BlockId) where
    -- A server whose connection and lower end stay, and are served as before, shows the world after.
    pub server_past : (s : ReadServer I O) → w.next_conn ≤ v.next_conn → v.dialled s.conn.0 ≡ w.dialled s.conn.0 → v.lowers s.conn.0 ≡ w.lowers s.conn.0 → is_served v s.conn.0 ≡ is_served w s.conn.0
        → ((x : Conn I O) → IsEndOf i o w net s.conn.0 true x → IsEndOf i o v made s.conn.0 true x) → IsServer i o w net blocks s → IsServer i o v made blocks s
    server_past s grows dialled lower served ends h = record {
      within = later s.conn.0 w.next_conn v.next_conn h.within grows;
      shows = record {
        dialled = ap (λ (d : Dialled). purpose_of d.upper) dialled ∙ h.shows.dialled;
        end_is = subst (λ (l : Lower). EndShows i o v made s.conn.0 blocks l s.end) (sym lower)
            (end_kept (w.lowers s.conn.0) s.end w net v made s.conn.0 blocks served ends h.shows.end_is);
      };
    }

    pub server_kept : (s : ReadServer I O) → KeepsServed w v → v.lowers s.conn.0 ≡ w.lowers s.conn.0 → ((x : Conn I O) → IsEndOf i o w net s.conn.0 true x → IsEndOf i o v made s.conn.0 true x) → IsServer i o w net blocks s → IsServer i o v made blocks s
    server_kept s k lower ends h = server_past s k.grows (k.dialled s.conn.0 h.within) lower (served_kept w v s.conn.0 h.within k) ends h

    -- Each connection that a reader has dialled was dialled before.
    pub still_there : (servers : List (ReadServer I O)) → KeepsServers w v → ((c : ℕ) → c < w.next_conn → purpose_of (w.dialled c).upper ≡ reading → HasServer servers c) → (c : ℕ) → c < v.next_conn → purpose_of (v.dialled c).upper ≡ reading → HasServer servers c
    still_there servers k all c within is = by (nat_lt c w.next_conn) refl
      where
        by : (q : Bool) → nat_lt c w.next_conn ≡ q → HasServer servers c
        by true e = let before = before_so c w.next_conn e in all c before (sym (ap (λ (d : Dialled). purpose_of d.upper) (k.served.dialled c before)) ∙ is)
        by false e = absurd (k.fresh c (behind_so c w.next_conn e) within is)

    pub servers_kept : (servers : List (ReadServer I O)) → KeepsServers w v → LowerEndsStay i o w net v made → ServersShow i o w net blocks servers → ServersShow i o v made blocks servers
    servers_kept servers k ends h = record {
      each = λ n s at.
          let was = h.each n s at in
          server_kept s k.served (k.lowers s.conn.0 was.within was.shows.dialled) (λ x is. ends s.conn.0 x was.shows.dialled is) was;
      ascend = h.ascend;
      all = still_there servers k h.all;
    }

    -- CLIENTS

    pub still_dialled : (clients : List (ReadClient I O)) → KeepsServers w v → DialledHaveClients w clients → DialledHaveClients v clients
    still_dialled clients k all c reader within upper = by (nat_lt c w.next_conn) refl
      where
        by : (q : Bool) → nat_lt c w.next_conn ≡ q → HasClient clients reader
        by true e = let before = before_so c w.next_conn e in all c reader before (sym (ap (λ (d : Dialled). d.upper) (k.served.dialled c before)) ∙ upper)
        by false e = absurd (k.fresh c (behind_so c w.next_conn e) within (ap purpose_of upper))

    keeps_client : Ordered w → KeepsReaders w v → UpperEndsStay i o w net v made → (line : ℕ) → KeepsReadClient i o w net v made line
    keeps_client ordered k ends line = record {
      reader = k.readers line;
      over = λ c s is. k.over line c (dialled_by w ordered line c s is);
      ends = λ c s e is h. ends c e (ap purpose_of (dialled_by w ordered line c s is)) h;
    }

    pub clients_kept : (clients : List (ReadClient I O)) → ReadClientsStay i o → Ordered w → KeepsReaders w v → UpperEndsStay i o w net v made → ClientsShow i o w net clients → ClientsShow i o v made clients
    clients_kept clients stay ordered k ends h = record {
      each = λ n c at. stay c w net v made (h.each n c at) (keeps_client ordered k ends c.ask.reader);
      ascend = h.ascend;
      all = λ line begun. h.all line (λ e. begun (k.readers line ∙ e));
    }

  pub reads_kept : ReadClientsStay i o → ReadsStay i o
  reads_kept stay w net v made blocks p h k = record {
    clients = clients_kept w net v made blocks p.clients.items stay k.ordered k.readers (λ d e is x. k.ends d false e is x) h.clients;
    servers = servers_kept w net v made blocks p.servers.items k.servers (λ d e is x. k.ends d true e is x) h.servers;
    dialled = still_dialled w net v made blocks p.clients.items k.servers h.dialled;
  }
