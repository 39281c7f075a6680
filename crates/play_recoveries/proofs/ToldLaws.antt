-- What is due of clients and servers, as they tell.
use Rattle.std.proofs.Common.{◌≡◌, ℕ, Bool, true, false, slice_get, Some, None, refl, sym, ap, ◌∙◌, subst}
use Rattle.std.specs.Prelude.{◌&&◌}
use Rattle.hd_base.specs.declared.links.LinkIn as link_in
use Rattle.hd_base.specs.declared.links.LinkOut as link_out
use Rattle.hd_base.specs.declared.numbers.ConnId.{ConnId}
use Rattle.hd_base.specs.declared.roads.Roads as roads
use Rattle.world.specs.Enabled.{can_down, can_ready}
use Rattle.play_model.specs.Dues.{is_open}
use Rattle.play_model.specs.Recoveries.{recovery_due}
use Rattle.play_nodes.proofs.PlaceLaws.{same_some}
use Rattle.play_primaries.specs.declared.clients.PrimaryClient.{PrimaryClient}
use Rattle.play_primaries.specs.Dues as primaries
use Rattle.play_servers.specs.declared.recoveries.RecoveryServer.{RecoveryServer}
use Rattle.play_servers.specs.Dues as servers
use Rattle.play_servers.specs.Recoveries.{ServerShows}
use Rattle.play_recoveries.specs.declared.recoveries.Recoveries.{Recoveries}
use Rattle.play_recoveries.specs.Dues.{TellsStep, TellsDown, NoneReady}
use Rattle.play_recoveries.specs.Places.{IsServerPlace}
use Rattle.play_recoveries.proofs.DueLaws.{no_server, server_conn, down_open}

last_none : (a b : Bool) → b ≡ false → (a && b) ≡ false
last_none true b e = e
last_none false b e = refl

module _ {I O : Type 0} (i : link_in.Ghosts I) (o : link_out.Ghosts O) where
  pub told_step : (place : ℕ) (p : Recoveries I O) (c : PrimaryClient I O) (result : Bool) → slice_get p.clients.items place ≡ Some c → primaries.TellsStep i o c result → TellsStep i o place p result
  told_step place p c result at told = λ w net queues blocks a shows at_a.
      subst (λ (y : PrimaryClient I O). result ≡ recovery_due w y.recovery) (same_some c a (sym at ∙ at_a)) (told w net (shows.clients.each place c at))

  pub none_is_ready : servers.AnswersWait i o → NoneReady i o
  none_is_ready waits w net queues blocks conn p shows within is =
      let x = shows.servers.all conn.0 within is in
      let here = (shows.servers.each x.place x.server x.at).shows in
      last_none (is_open (w.lowers conn.0)) (can_ready w conn.0) (ap (λ (c : ℕ). can_ready w c) (sym x.of_conn) ∙ waits w net x.server.conn.0 blocks x.server.end here)

module _ {R I O : Type 0} (r : roads.Ghosts R I O) (i : link_in.Ghosts I) (o : link_out.Ghosts O) where
  pub told_down : (conn : ConnId) (p : Recoveries I O) (place : ℕ) (s : RecoveryServer I O) (road road' : R) (result : Bool) → IsServerPlace p.servers.items conn.0 (Some place) → slice_get p.servers.items place ≡ Some s → servers.TellsRequest r i o s road road' result → TellsDown r i o conn p road road' result
  told_down conn p place s road road' result found at told = λ w net queues blocks h ends within is.
      let same = server_conn p.servers.items conn.0 place s found at in
      let here = (h.recoveries_are.servers.each place s at).shows in
      let left = told w net blocks h.roads_are here ends in
      (left.0, left.1 ∙ (ap (λ (q : ℕ). can_down w q) same ∙ down_open i o (w.lowers conn.0) s.end w net conn.0 blocks (subst (λ (q : ℕ). ServerShows i o w net q blocks s.end) same here).end_is))

  pub none_down : (conn : ConnId) (p : Recoveries I O) (road : R) → IsServerPlace p.servers.items conn.0 None → TellsDown r i o conn p road road false
  none_down conn p road none = λ w net queues blocks h ends within is. absurd (no_server p.servers.items conn.0 none h.recoveries_are.servers.ascend (h.recoveries_are.servers.all conn.0 within is))
