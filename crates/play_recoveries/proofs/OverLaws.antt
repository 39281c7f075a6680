-- Which lower ends have no further events, and which primaries take from a connection.
use Rattle.std.proofs.Common.{◌≡◌, ℕ, Bool, true, false, List, slice_get, Option, Some, None, refl, sym, ap, ◌∙◌, subst}
use Rattle.std.specs.Prelude.{◌==◌, ◌&&◌, if◌then◌else◌, not, is_none, is_some}
use Rattle.std.proofs.lemmas.Bool.Decides.{nat_tests}
use Rattle.std.proofs.Common.{arith}
use Rattle.hd_base.specs.declared.links.LinkIn as link_in
use Rattle.hd_base.specs.declared.links.LinkOut as link_out
use Rattle.hd_base.specs.declared.numbers.BlockId.{BlockId}
use Rattle.hd_base.specs.declared.numbers.ConnId.{ConnId}
use Rattle.recovery_core.specs.declared.standings.Standing as member
use Rattle.play_primaries.specs.BlockRecovery.Link.{Link}
use Rattle.play_primaries.specs.BlockRecovery.Seat.{Seat}
use Rattle.play_primaries.specs.BlockRecovery.Seat.TheVariants as seat
use Rattle.play_primaries.specs.BlockRecovery.Awaiting.{hearing_conn}
use Rattle.road_traffic.specs.Showing.{Net}
use Rattle.world.specs.Connections.{is_served}
use Rattle.world.specs.Enabled.{leads_from, listens_at}
use Rattle.world.specs.Parts.{Upper, by_writer, by_member, by_reader, by_primary, Primary, Leading, no_primary, leads, has_led, Lower, idle, recovers, ended_below}
use Rattle.world.specs.Primaries.{listens}
use Rattle.world.specs.Worlds.{World}
use Rattle.play_servers.specs.WorldNets.Nets.{is_over}
use Rattle.play_primaries.specs.WorldRecoveries.Recovering.{IsPlacedIn}
use Rattle.play_primaries.specs.PrimaryEvents.Showing.{LinkShows, SeatShows, PlaceShows}
use Rattle.play_model.specs.declared.recoveries.Recovery.{Recovery}
use Rattle.play_model.specs.Dues.{is_open}
use Rattle.play_nodes.specs.declared.nodes.Nodes.{Nodes}
use Rattle.play_nodes.proofs.PlaceLaws.{same_some}
use Rattle.play_primaries.specs.declared.clients.PrimaryClient.{PrimaryClient}
use Rattle.play_primaries.specs.declared.clients.PrimaryState.{PrimaryState}
use Rattle.play_primaries.specs.declared.clients.PrimaryState.TheVariants as state
use Rattle.play_primaries.specs.Clients.{is_conn, hears_on, StateShows}
use Rattle.play_servers.specs.declared.recoveries.AnswerEnd.{AnswerEnd}
use Rattle.play_servers.specs.declared.recoveries.AnswerEnd.TheVariants as answer_end
use Rattle.play_servers.specs.declared.recoveries.RecoveryServer.{RecoveryServer}
use Rattle.play_servers.specs.Answering.{answer_conn}
use Rattle.play_servers.specs.Recoveries.{EndShows, ServerShows}
use Rattle.play_recoveries.specs.declared.dues.Leader.{Leader}
use Rattle.play_recoveries.specs.declared.recoveries.Recoveries.{Recoveries}
use Rattle.play_recoveries.specs.Dues.{TellsEnded, is_led_by, TellsClient, TellsOver}
use Rattle.play_recoveries.specs.Places.{IsServerPlace}
use Rattle.play_recoveries.proofs.DueLaws.{no_server, server_conn}

-- LOWER ENDS

pub none_told : {A : Type 0} (x : Option A) (b : Bool) → is_some x ≡ not b → b ≡ is_none x
none_told None true e = refl
none_told None false e = cc
none_told (Some a) true e = cc
none_told (Some a) false e = refl

none_open : (b : Bool) → (b && false) ≡ false
none_open true = refl
none_open false = refl

module _ {I O : Type 0} (i : link_in.Ghosts I) (o : link_out.Ghosts O) where
  -- an end that stands there has events, and one that has ended has none
  end_told : (l : Lower) (e : AnswerEnd I O) (w : World) (net : Net) (c : ℕ) (blocks : List BlockId) → EndShows i o w net c blocks l e → is_none (answer_conn e) ≡ not (is_served w c && is_open l)
  end_told idle (answer_end.Idle x) w net c blocks h = sym (ap (λ (b : Bool). not (b && true)) h.0)
  end_told idle answer_end.Ended w net c blocks h = sym (ap (λ (b : Bool). not (b && true)) h)
  end_told recovers (answer_end.Answering old place) w net c blocks h = sym (ap (λ (q : Bool). not (q && true)) h.0)
  end_told recovers answer_end.Ended w net c blocks h = sym (ap (λ (q : Bool). not (q && true)) h)
  end_told ended_below answer_end.Ended w net c blocks h = sym (ap (λ (b : Bool). not b) (none_open (is_served w c)))
  end_told l e w net c blocks h = absurd h

  pub told_ended : (conn : ConnId) (p : Recoveries I O) (place : ℕ) (s : RecoveryServer I O) → IsServerPlace p.servers.items conn.0 (Some place) → slice_get p.servers.items place ≡ Some s → TellsEnded i o conn p (is_none (answer_conn s.end))
  told_ended conn p place s found at = λ w net blocks shows within is.
      let same = server_conn p.servers.items conn.0 place s found at in
      let here = (shows.servers.each place s at).shows in
      end_told (w.lowers conn.0) s.end w net conn.0 blocks (subst (λ (q : ℕ). ServerShows i o w net q blocks s.end) same here).end_is

  pub none_ended : (conn : ConnId) (p : Recoveries I O) → IsServerPlace p.servers.items conn.0 None → TellsEnded i o conn p true
  none_ended conn p none = λ w net blocks shows within is. absurd (no_server p.servers.items conn.0 none shows.servers.ascend (shows.servers.all conn.0 within is))

-- PRIMARIES

test_of : (a b : ℕ) → a ≡ b → (a == b) ≡ true
test_of a b e = grind (arith, nat_tests, e)

same_conn : (a b : ℕ) → (◌≡◌ {A = Option (Option ℕ)} (Some (Some a)) (Some (Some b))) → a ≡ b
same_conn a b e = cc

no_conn : (b : ℕ) → (◌≡◌ {A = Option (Option ℕ)} (Some None) (Some (Some b))) → ⊥
no_conn b e = cc

no_place : (b : ℕ) → (◌≡◌ {A = Option (Option ℕ)} None (Some (Some b))) → ⊥
no_place b e = cc

module _ {I O : Type 0} (i : link_in.Ghosts I) (o : link_out.Ghosts O) (w : World) (net : Net) (number place c : ℕ) where
  abbrev over : Bool
  over = is_over w c false

  -- over the connection at a place of a primary that leads
  module _ (l : Leading) (here : slice_get l.conns place ≡ Some (Some c)) where
    link_over : (link : Link I O) → LinkShows i o w net c link → (b : Bool) → link.over ≡ b → is_conn (if b then None else Some link.end.id) c ≡ not b
    link_over link h true e = refl
    link_over link h false e = test_of link.end.id.0 c h.end_is.id

    seat_over : (b : Bool) (q : Option ℕ) (x : Seat I O) → slice_get l.conns place ≡ Some q → SeatShows i o w net b q x → is_conn (hearing_conn (Some x)) c ≡ (b && not over)
    seat_over true (Some d) (seat.Open link) at h =
        let same : d ≡ c = same_conn d c (sym at ∙ here) in
        let link_is : LinkShows i o w net c link = subst (λ (n : ℕ). LinkShows i o w net n link) same h in
        link_over link link_is link.over refl ∙ ap (λ (b : Bool). not b) link_is.over
    seat_over true (Some d) seat.Empty at h = absurd h
    seat_over true (Some d) seat.Lost at h = absurd h
    seat_over true None x at h = absurd (no_conn c (sym at ∙ here))
    seat_over false (Some d) x at h = ap (λ (y : Seat I O). is_conn (hearing_conn (Some y)) c) h.0
    seat_over false None x at h = ap (λ (y : Seat I O). is_conn (hearing_conn (Some y)) c) h

    place_over : (a : Option member.Standing) (q : Option (Option ℕ)) (z : Option (Seat I O)) → slice_get l.conns place ≡ q → PlaceShows i o w net l.state.phase a q z → is_conn (hearing_conn z) c ≡ (listens_at l.state.phase a && not over)
    place_over (Some st) (Some q) (Some x) at h = seat_over (listens l.state.phase st) q x at h.seat_is
    place_over None None None at h = refl
    place_over (Some st) (Some q) None at h = absurd h
    place_over (Some st) None z at h = absurd h
    place_over None (Some q) z at h = absurd h
    place_over None None (Some x) at h = absurd h

  from_so : (p : Primary) → w.primaries number ≡ p → leads_from p w place ≡ false → false ≡ (leads_from (w.primaries number) w place && not over)
  from_so p is none = sym (ap (λ (q : Primary). leads_from q w place && not over) is ∙ ap (λ (b : Bool). b && not over) none)

  pub hears_so : (t : Recovery) (st : PrimaryState I O) → t.primary ≡ number → IsPlacedIn c place (w.primaries number) → StateShows i o w net t st → hears_on st c place ≡ (leads_from (w.primaries number) w place && not over)
  hears_so t state.New same placed h = from_so no_primary (ap w.primaries (sym same) ∙ h.is) refl
  hears_so t (state.HasLed led) same placed h = from_so (has_led led) (ap w.primaries (sym same) ∙ h) refl
  hears_so t state.Stopped same placed h =
      let l : Leading = h.leading in
      from_so (leads l) (ap w.primaries (sym same) ∙ h.is) (ap (λ (b : Bool). b && is_none l.told && listens_at l.state.phase (slice_get l.state.standings place)) h.gone)
  hears_so t (state.Leads p) same placed h =
      let l : Leading = h.leading in
      let s = h.leads_so.shows in
      let is : w.primaries number ≡ leads l = ap w.primaries (sym same) ∙ s.leads_so in
      let from : leads_from (w.primaries number) w place ≡ listens_at l.state.phase (slice_get l.state.standings place) =
      ap (λ (q : Primary). leads_from q w place) is
      ∙ (ap (λ (b : Bool). b && is_none l.told && listens_at l.state.phase (slice_get l.state.standings place)) h.leads_so.alive
      ∙ ap (λ x. is_none x && listens_at l.state.phase (slice_get l.state.standings place)) s.told) in
      place_over l (subst (λ (q : Primary). IsPlacedIn c place q) is placed) (slice_get l.state.standings place) (slice_get l.conns place) (slice_get p.links.items place) refl (s.places place)
      ∙ ap (λ (b : Bool). b && not over) (sym from)

-- What no primary dialled is led by none.
none_by : (w : World) (c : ℕ) (u : Upper) → ((primary place : ℕ) → u ≡ by_primary primary place → ⊥) → false ≡ is_led_by w c u
none_by w c (by_primary p place) none = absurd (none p place refl)
none_by w c (by_writer b) none = refl
none_by w c (by_member d) none = refl
none_by w c (by_reader line) none = refl

module _ {F I O : Type 0} (i : link_in.Ghosts I) (o : link_out.Ghosts O) where
  pub none_over : (conn : ConnId) (n : Nodes F I O) (p : Recoveries I O) → TellsClient i o conn n p None → TellsOver i o conn n p false
  none_over conn n p told = λ w net nodes shows placed within. none_by w conn.0 (w.dialled conn.0).upper (told w net nodes shows within)

  pub told_over : (conn : ConnId) (n : Nodes F I O) (p : Recoveries I O) (l : Leader) (c : PrimaryClient I O) (result : Bool) → TellsClient i o conn n p (Some l) → slice_get p.clients.items l.client ≡ Some c → result ≡ hears_on c.state conn.0 l.place → TellsOver i o conn n p result
  told_over conn n p l c result told at is = λ w net nodes shows placed within.
      let client = told w net nodes shows within in
      let same : client.client ≡ c = same_some client.client c (sym client.at ∙ at) in
      let by : (w.dialled conn.0).upper ≡ by_primary c.recovery.primary l.place = client.dialled ∙ ap (λ (y : PrimaryClient I O). by_primary y.recovery.primary l.place) same in
      is ∙ (hears_so i o w net c.recovery.primary l.place conn.0 c.recovery c.state refl (placed conn.0 c.recovery.primary l.place within by) (shows.clients.each l.client c at)
      ∙ sym (ap (λ (u : Upper). is_led_by w conn.0 u) by))
