-- Which lower ends have no further events, and which readers read over a connection.
use Rattle.std.proofs.Common.{◌≡◌, ℕ, Bool, true, false, List, slice_get, option_map, Option, Some, None, refl, sym, ap, ◌∙◌, subst}
use Rattle.std.specs.Prelude.{◌==◌, ◌&&◌, not, is_none, is_some}
use Rattle.hd_base.specs.declared.links.LinkIn as link_in
use Rattle.hd_base.specs.declared.links.LinkOut as link_out
use Rattle.hd_base.specs.declared.numbers.BlockId.{BlockId}
use Rattle.hd_base.specs.declared.numbers.ConnId.{ConnId}
use Rattle.road_traffic.specs.Showing.{Net}
use Rattle.world.specs.Connections.{is_served}
use Rattle.world.specs.Enabled.{reads_from}
use Rattle.world.specs.Parts.{Upper, by_writer, by_member, by_reader, by_primary, Reader, no_reader, reads, has_read, Lower, idle, serves, ended_below}
use Rattle.world.specs.Worlds.{World}
use Rattle.play_nodes.specs.PlayModel.Dues.{is_open}
use Rattle.play_nodes.specs.declared.nodes.Nodes.{Nodes}
use Rattle.play_nodes.proofs.PlaceLaws.{same_some}
use Rattle.play_primaries.specs.PlayReaders.ReadClient.{ReadClient}
use Rattle.play_primaries.specs.PlayReaders.Dues.{TellsConn, conn_read}
use Rattle.play_servers.specs.declared.servers.ReadEnd.{ReadEnd}
use Rattle.play_servers.specs.declared.servers.ReadEnd.TheVariants as read_end
use Rattle.play_servers.specs.declared.servers.ReadServer.{ReadServer}
use Rattle.play_servers.specs.Known.{end_conn}
use Rattle.play_servers.specs.Showing.{EndShows, ServerShows}
use Rattle.play_reads.specs.declared.reads.Reads.{Reads}
use Rattle.play_reads.specs.Dues.{TellsEnded, is_read_by, TellsClient, TellsOver}
use Rattle.play_reads.specs.Places.{IsServerPlace}
use Rattle.play_reads.proofs.DueLaws.{no_server, server_conn}

-- LOWER ENDS

pub none_told : {A : Type 0} (x : Option A) (b : Bool) → is_some x ≡ not b → b ≡ is_none x
none_told None true e = refl
none_told None false e = cc
none_told (Some a) true e = cc
none_told (Some a) false e = refl

none_open : (b : Bool) → (b && false) ≡ false
none_open true = refl
none_open false = refl

module _ {I O : Type 0} (i : link_in.Ghosts I) (o : link_out.Ghosts O) where
  -- an end that stands there has events, and one that has ended has none
  end_told : (l : Lower) (e : ReadEnd I O) (w : World) (net : Net) (c : ℕ) (blocks : List BlockId) → EndShows i o w net c blocks l e → is_none (end_conn e) ≡ not (is_served w c && is_open l)
  end_told idle (read_end.Idle x) w net c blocks h = sym (ap (λ (b : Bool). not (b && true)) h.0)
  end_told idle read_end.Ended w net c blocks h = sym (ap (λ (b : Bool). not (b && true)) h)
  end_told (serves b s) (read_end.Serving read place) w net c blocks h = sym (ap (λ (q : Bool). not (q && true)) h.0)
  end_told (serves b s) read_end.Ended w net c blocks h = sym (ap (λ (q : Bool). not (q && true)) h)
  end_told ended_below read_end.Ended w net c blocks h = sym (ap (λ (b : Bool). not b) (none_open (is_served w c)))
  end_told l e w net c blocks h = absurd h

  pub told_ended : (conn : ConnId) (p : Reads I O) (place : ℕ) (s : ReadServer I O) → IsServerPlace p.servers.items conn.0 (Some place) → slice_get p.servers.items place ≡ Some s → TellsEnded i o conn p (is_none (end_conn s.end))
  told_ended conn p place s found at = λ w net blocks shows within is.
      let same = server_conn p.servers.items conn.0 place s found at in
      let here = (shows.servers.each place s at).shows in
      end_told (w.lowers conn.0) s.end w net conn.0 blocks (subst (λ (q : ℕ). ServerShows i o w net q blocks s.end) same here).end_is

  pub none_ended : (conn : ConnId) (p : Reads I O) → IsServerPlace p.servers.items conn.0 None → TellsEnded i o conn p true
  none_ended conn p none = λ w net blocks shows within is. absurd (no_server p.servers.items conn.0 none shows.servers.ascend (shows.servers.all conn.0 within is))

-- READERS

-- this is the connection
abbrev pub is_over_it : Option ConnId → ℕ → Bool
is_over_it None c = false
is_over_it (Some n) c = n.0 == c

over_so : (x : Option ConnId) (a : Reader) (c : ℕ) → option_map (λ (n : ConnId). n.0) x ≡ conn_read a → is_over_it x c ≡ reads_from a c
over_so (Some n) (reads d s) c e = ap (λ (m : ℕ). m == c) (same_some n.0 d e)
over_so None no_reader c e = refl
over_so None (has_read a) c e = refl
over_so None (reads d s) c e = cc
over_so (Some n) no_reader c e = cc
over_so (Some n) (has_read a) c e = cc

-- No reader that hasn't begun reads.
none_by : (w : World) (c : ℕ) (u : Upper) → ((reader : ℕ) → u ≡ by_reader reader → w.readers reader ≡ no_reader) → false ≡ is_read_by w c u
none_by w c (by_reader reader) none = sym (ap (λ (a : Reader). reads_from a c) (none reader refl))
none_by w c (by_writer b) none = refl
none_by w c (by_member d) none = refl
none_by w c (by_primary p place) none = refl

module _ {F I O : Type 0} (i : link_in.Ghosts I) (o : link_out.Ghosts O) where
  pub none_over : (conn : ConnId) (n : Nodes F I O) (p : Reads I O) → TellsClient i o conn n p None → TellsOver i o conn n p false
  none_over conn n p told = λ w net nodes shows within. none_by w conn.0 (w.dialled conn.0).upper (told w net nodes shows within)

  pub told_over : (conn : ConnId) (n : Nodes F I O) (p : Reads I O) (place : ℕ) (c : ReadClient I O) (x : Option ConnId) → TellsClient i o conn n p (Some place) → slice_get p.clients.items place ≡ Some c → TellsConn i o c x → TellsOver i o conn n p (is_over_it x conn.0)
  told_over conn n p place c x told at tells = λ w net nodes shows within.
      let client = told w net nodes shows within in
      let same : client.client ≡ c = same_some client.client c (sym client.at ∙ at) in
      let by : (w.dialled conn.0).upper ≡ by_reader c.ask.reader = client.dialled ∙ ap (λ (y : ReadClient I O). by_reader y.ask.reader) same in
      over_so x (w.readers c.ask.reader) conn.0 (tells w net (shows.clients.each place c at)) ∙ ap (λ (u : Upper). is_read_by w conn.0 u) (sym by)
