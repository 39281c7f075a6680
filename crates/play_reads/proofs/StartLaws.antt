-- Reads that show a world show the world in which a node has started.
use Rattle.std.proofs.Common.{◌≡◌, ◌<◌, ◌≤◌, ℕ, false, true, List, sym, ap, ◌∙◌, arith}
use Rattle.hd_base.specs.declared.links.LinkIn as link_in
use Rattle.hd_base.specs.declared.links.LinkOut as link_out
use Rattle.hd_base.specs.declared.numbers.BlockId.{BlockId}
use Rattle.road_traffic.specs.Showing.{Net}
use Rattle.world.specs.Parts.{Dialled}
use Rattle.world.specs.Worlds.{World}
use Rattle.play_nodes.specs.WorldOrders.Orders.{purpose_of}
use Rattle.play_nodes.specs.Showing.{ElsewhereStays}
use Rattle.play_primaries.specs.PlayReaders.Frames.{KeepsReaders}
use Rattle.play_primaries.specs.PlayReaders.Staying.{ReadClientsStay}
use Rattle.play_reads.specs.Keeping.{StartsKeepReads}
use Rattle.play_reads.specs.Showing.{ServersShow}
use Rattle.play_servers.specs.declared.servers.ReadServer.{ReadServer}
use Rattle.world.specs.Connections.{is_served}
use Rattle.play_reads.proofs.FrameLaws.{reads_elsewhere}
use Rattle.play_reads.proofs.KeepLaws.{later, server_past, clients_kept}
use Rattle.play_reads.proofs.LifeLaws.{KeepsConns, after, start_keeps, served_as}

pub no_more : (a b : ℕ) → b ≡ a → a ≤ b
no_more a b e = omega (arith, e)

pub no_fewer : (a b : ℕ) → b ≡ a → b ≤ a
no_fewer a b e = omega (arith, e)

pub keeps_readers : (w v : World) → KeepsConns w v → KeepsReaders w v
keeps_readers w v k = record { readers = k.readers; over = λ line c by. k.over c false }

-- Servers whose connections and lower ends stay, and are served as before, show the world after.
pub servers_past : {I O : Type 0} (i : link_in.Ghosts I) (o : link_out.Ghosts O) (w : World) (net : Net) (v : World) (made : Net) (blocks : List BlockId) (servers : List (ReadServer I O)) → KeepsConns w v → ((c : ℕ) → c < w.next_conn → is_served v c ≡ is_served w c)
    → ElsewhereStays i o w net v made → ServersShow i o w net blocks servers → ServersShow i o v made blocks servers
servers_past i o w net v made blocks servers k served stays h = record {
  each = λ n s at.
      let was = h.each n s at in
      server_past i o w net v made blocks s (no_more w.next_conn v.next_conn k.conns) (k.dialled s.conn.0) (k.lowers s.conn.0) (served s.conn.0 was.within)
      (λ x is. stays s.conn.0 true x (reads_elsewhere (w.dialled s.conn.0).upper was.shows.dialled) is) was;
  ascend = h.ascend;
  all = λ c within is. h.all c (later c v.next_conn w.next_conn within (no_fewer w.next_conn v.next_conn k.conns)) (sym (ap (λ (d : Dialled). purpose_of d.upper) (k.dialled c)) ∙ is);
}

pub starts_kept : {I O : Type 0} (i : link_in.Ghosts I) (o : link_out.Ghosts O) → ReadClientsStay i o → StartsKeepReads i o
starts_kept i o stay w net made node found blocks reads h may stays =
    let k = start_keeps w node found may in
    record {
      clients = clients_kept i o w net (after w node found may) made blocks reads.clients.items stay may.ordered (keeps_readers w (after w node found may) k) (λ d e is x. stays d false e (reads_elsewhere (w.dialled d).upper is) x) h.clients;
      servers = servers_past i o w net (after w node found may) made blocks reads.servers.items k (served_as w node found may) stays h.servers;
      dialled = λ c line within by. h.dialled c line (later c (after w node found may).next_conn w.next_conn within (no_fewer w.next_conn (after w node found may).next_conn k.conns)) (sym (ap (λ (d : Dialled). d.upper) (k.dialled c)) ∙ by);
    }
