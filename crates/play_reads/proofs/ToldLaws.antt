-- What is due of clients and servers, as they tell.
use Rattle.std.proofs.Common.{◌≡◌, ℕ, Bool, false, slice_get, Some, None, sym, ap, ◌∙◌, subst}
use Rattle.hd_base.specs.declared.links.LinkIn as link_in
use Rattle.hd_base.specs.declared.links.LinkOut as link_out
use Rattle.hd_base.specs.declared.numbers.ConnId.{ConnId}
use Rattle.hd_base.specs.declared.roads.Roads as roads
use Rattle.world.specs.Enabled.{can_down, can_ready}
use Rattle.play_nodes.specs.PlayModel.Due.TheVariants as due
use Rattle.play_nodes.specs.PlayModel.Dues.{is_due}
use Rattle.play_primaries.specs.PlayReaders.ReadClient.{ReadClient}
use Rattle.play_primaries.specs.PlayReaders.Dues as readers
use Rattle.play_servers.specs.declared.servers.ReadServer.{ReadServer}
use Rattle.play_servers.specs.Dues as servers
use Rattle.play_servers.specs.Showing.{ServerShows}
use Rattle.play_nodes.proofs.PlaceLaws.{same_some}
use Rattle.play_reads.specs.declared.reads.Reads.{Reads}
use Rattle.play_reads.specs.Dues.{TellsStep, TellsDown, TellsReady}
use Rattle.play_reads.specs.Places.{IsServerPlace}
use Rattle.play_reads.proofs.DueLaws.{no_server, server_conn, down_open, ready_open}

module _ {I O : Type 0} (i : link_in.Ghosts I) (o : link_out.Ghosts O) where
  pub told_step : (place : ℕ) (p : Reads I O) (c : ReadClient I O) (result : Bool) → slice_get p.clients.items place ≡ Some c → readers.TellsBegins i o c result → TellsStep i o place p result
  told_step place p c result at told = λ w net queues blocks a shows at_a.
      subst (λ (y : ReadClient I O). result ≡ is_due w queues (due.Reader y.ask)) (same_some c a (sym at ∙ at_a)) (told w net queues (shows.clients.each place c at))

  pub told_ready : (conn : ConnId) (p : Reads I O) (place : ℕ) (s : ReadServer I O) (result : Bool) → IsServerPlace p.servers.items conn.0 (Some place) → slice_get p.servers.items place ≡ Some s → servers.TellsReady i o s result → TellsReady i o conn p result
  told_ready conn p place s result found at told = λ w net queues blocks shows within is.
      let same = server_conn p.servers.items conn.0 place s found at in
      let here = (shows.servers.each place s at).shows in
      told w net blocks here ∙ (ap (λ (q : ℕ). can_ready w q) same ∙ ready_open i o (w.lowers conn.0) s.end w net conn.0 blocks (subst (λ (q : ℕ). ServerShows i o w net q blocks s.end) same here).end_is)

  pub none_ready : (conn : ConnId) (p : Reads I O) → IsServerPlace p.servers.items conn.0 None → TellsReady i o conn p false
  none_ready conn p none = λ w net queues blocks shows within is. absurd (no_server p.servers.items conn.0 none shows.servers.ascend (shows.servers.all conn.0 within is))

module _ {R I O : Type 0} (r : roads.Ghosts R I O) (i : link_in.Ghosts I) (o : link_out.Ghosts O) where
  pub told_down : (conn : ConnId) (p : Reads I O) (place : ℕ) (s : ReadServer I O) (road road' : R) (result : Bool) → IsServerPlace p.servers.items conn.0 (Some place) → slice_get p.servers.items place ≡ Some s → servers.TellsDown r i o s road road' result → TellsDown r i o conn p road road' result
  told_down conn p place s road road' result found at told = λ w net queues blocks h ends within is.
      let same = server_conn p.servers.items conn.0 place s found at in
      let here = (h.reads_are.servers.each place s at).shows in
      let left = told w net blocks h.roads_are here ends in
      (left.0, left.1 ∙ (ap (λ (q : ℕ). can_down w q) same ∙ down_open i o (w.lowers conn.0) s.end w net conn.0 blocks (subst (λ (q : ℕ). ServerShows i o w net q blocks s.end) same here).end_is))

  pub none_down : (conn : ConnId) (p : Reads I O) (road : R) → IsServerPlace p.servers.items conn.0 None → TellsDown r i o conn p road road false
  none_down conn p road none = λ w net queues blocks h ends within is. absurd (no_server p.servers.items conn.0 none h.reads_are.servers.ascend (h.reads_are.servers.all conn.0 within is))
