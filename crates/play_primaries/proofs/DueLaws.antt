-- What a primary tells of the world that it shows.
use Rattle.std.proofs.Common.{◌≡◌, ◌<◌, ℕ, Bool, true, false, not, List, [], ◌∷◌, Option, Some, None, Result, Ok, Err, is_some, slice_get, refl, sym, ap, ◌∙◌, subst, eqb-true, lt-ltb}
use Rattle.std.specs.Prelude.{◌&&◌, ◌==◌, if◌then◌else◌, is_none, nat_lt}
use Rattle.std.proofs.lemmas.Bool.Decides.{nat_tests}
use Rattle.std.proofs.Common.{arith}
use Rattle.hd_base.specs.declared.ends.Standing.{Standing}
use Rattle.hd_base.specs.declared.links.LinkIn as link_in
use Rattle.hd_base.specs.declared.links.LinkOut as link_out
use Rattle.hd_base.specs.declared.numbers.ConnId.{ConnId}
use Rattle.hd_base.specs.declared.numbers.NodeId.{NodeId}
use Rattle.hd_base.specs.declared.roads.Roads as roads
use Rattle.name_core.specs.declared.choice.ChooseFault.{ChooseFault}
use Rattle.name_core.specs.declared.choice.Chosen.{Chosen}
use Rattle.name_core.specs.Choice.{choice}
use Rattle.recovery_core.specs.declared.primary.OwnStep.TheVariants as own
use Rattle.recovery_core.specs.declared.primary.Phase.{Phase}
use Rattle.recovery_core.specs.declared.primary.Phase.TheVariants as phase
use Rattle.recovery_core.specs.declared.standings.Standing as member
use Rattle.recovery_core.specs.Primaries as core
use Rattle.recovery_core.specs.Primaries.{choosing, committing, infos, own_at, own_step, taken, updated_members, waits}
use Rattle.primary_events.specs.BlockRecovery.Link.{Link}
use Rattle.primary_events.specs.BlockRecovery.Seat.{Seat}
use Rattle.primary_events.specs.BlockRecovery.Seat.TheVariants as seat
use Rattle.primary_events.specs.BlockRecovery.Primary as running
use Rattle.primary_events.specs.BlockRecovery.Awaiting.{waits_for, hearing_conn}
use Rattle.road_traffic.specs.Showing.{Net, RoadsShow, ShowsStanding}
use Rattle.primary_events.specs.World.Connections.{message, the_end, ends_at, next_up}
use Rattle.primary_events.specs.World.Enabled.{leads_from, listens_at, takes_above}
use Rattle.primary_events.specs.World.Parts.{Upper, by_primary, Leading, Primary, leads, has_led}
use Rattle.primary_events.specs.World.Primaries.{listens}
use Rattle.primary_events.specs.World.Worlds.{World}
use Rattle.play_readers.specs.WorldNets.Rows.{rows_of}
use Rattle.play_readers.specs.WorldNets.Nets.{is_over}
use Rattle.world_recoveries.specs.Recovering.{IsPlacedIn}
use Rattle.play_readers.specs.WorldStandings.Standings.{stands}
use Rattle.play_readers.proofs.WorldStandings.StandingLaws.{row_stands}
use Rattle.primary_events.specs.MemberEvents.Showing.{ShowsWorld}
use Rattle.primary_events.specs.Showing.{LinkShows, SeatShows, PlaceShows}
use Rattle.play_readers.specs.PlayModel.Recovery.{Recovery}
use Rattle.play_readers.specs.PlayModel.Recoveries.{acts, leads_due, primary_due}
use Rattle.play_primaries.specs.declared.clients.PrimaryClient.{PrimaryClient}
use Rattle.play_primaries.specs.declared.clients.PrimaryState.{PrimaryState}
use Rattle.play_primaries.specs.declared.clients.PrimaryState.TheVariants as state
use Rattle.play_primaries.specs.Clients.{can_act, is_conn, hears_on, IsUnderWay, LeadsOn, StateShows}
use Rattle.play_primaries.specs.Dues.{TellsStep, ArePlaced, TellsPrimary}

-- OWN STEPS

chooses : (p : core.PrimaryState) (z : Result Chosen ChooseFault) → acts (choosing p z).does ≡ true
chooses p (Ok c) = refl
chooses p (Err why) = refl

commits : (p : core.PrimaryState) (n : ℕ) (members : List NodeId) → acts (committing p n members).does ≡ true
commits p n [] = refl
commits p n (m ∷ members) = refl

acts_by : (p : core.PrimaryState) (b : Bool) (ph : Phase) → IsUnderWay ph → acts (if b then taken p own.Waits else own_at ph p).does ≡ not b
acts_by p true ph way = refl
acts_by p false phase.Informing way = chooses p (choice p.begun.committed (infos p.members p.standings))
acts_by p false (phase.Updating n) way = commits p n (updated_members p.members p.standings)
acts_by p false phase.Over way = absurd way

-- A primary that is under way acts just where it waits for no answer.
pub acts_so : (p : core.PrimaryState) → IsUnderWay p.phase → acts (own_step p).does ≡ not (waits p.standings)
acts_so p way = acts_by p (waits p.standings) p.phase way

so_if : (b x : Bool) → (b ≡ true → x ≡ true) → b ≡ (b && x)
so_if true x h = sym (h refl)
so_if false x h = refl

module _ {I O : Type 0} (i : link_in.Ghosts I) (o : link_out.Ghosts O) where
  led_due : (w : World) (net : Net) (r : Recovery) (p : running.Primary I O) (h : LeadsOn i o w net r p) → not (waits_for p.core) ≡ leads_due w h.leading
  led_due w net r p h =
      let l : Leading = h.leading in
      let s = h.leads_so.shows in
      ap (λ (z : Option core.PrimaryState). not (waits_for z)) s.core
      ∙ sym (ap (λ (b : Bool). b && (is_none l.told && acts (own_step l.state).does)) h.leads_so.alive
      ∙ (ap (λ t. is_none t && acts (own_step l.state).does) s.told ∙ acts_so l.state h.leads_so.under_way))

  pub state_due : (st : PrimaryState I O) (w : World) (net : Net) (r : Recovery) → StateShows i o w net r st → can_act r.may_begin st ≡ primary_due (w.primaries r.primary) w r
  state_due state.New w net r h = so_if r.may_begin (w.running r.node.0) h.runs ∙ sym (ap (λ (p : Primary). primary_due p w r) h.is)
  state_due (state.Leads p) w net r h = led_due w net r p h ∙ sym (ap (λ (q : Primary). primary_due q w r) h.leads_so.shows.leads_so)
  state_due (state.HasLed led) w net r h = sym (ap (λ (p : Primary). primary_due p w r) h)
  state_due state.Stopped w net r h =
      let l : Leading = h.leading in
      sym (ap (λ (p : Primary). primary_due p w r) h.is ∙ ap (λ (b : Bool). b && (is_none l.told && acts (own_step l.state).does)) h.gone)

  pub step_tells : (c : PrimaryClient I O) (result : Bool) → result ≡ can_act c.recovery.may_begin c.state → TellsStep i o c result
  step_tells c result is = λ w net h. is ∙ state_due c.state w net c.recovery h

-- WHAT STANDS NEXT

none_due : (b : Bool) → false ≡ (b && false)
none_due true = refl
none_due false = refl

unknown : (k n b : Bool) → (k ≡ true → ⊥) → false ≡ ((k && n) && b)
unknown true n b never = absurd (never refl)
unknown false n b never = refl

over_none : (n : Bool) → false ≡ n → (k b : Bool) → false ≡ ((k && n) && b)
over_none true e k b = cc
over_none false e true b = refl
over_none false e false b = refl

both_due : (k n s : Bool) → k ≡ true → s ≡ n → s ≡ ((k && n) && true)
both_due true true s k e = e
both_due true false s k e = e
both_due false n s k e = cc

false_true : false ≡ true → ⊥
false_true e = cc

same_conn : (a b : ℕ) → (◌≡◌ {A = Option (Option ℕ)} (Some (Some a)) (Some (Some b))) → a ≡ b
same_conn a b e = cc

no_conn : (b : ℕ) → (◌≡◌ {A = Option (Option ℕ)} (Some None) (Some (Some b))) → ⊥
no_conn b e = cc

test_of : (a b : ℕ) → a ≡ b → (a == b) ≡ true
test_of a b e = grind (arith, nat_tests, e)

known_so : (a b : ℕ) → nat_lt a b ≡ true → a < b
known_so a b e = grind (arith, nat_tests, e)

module _ {R I O : Type 0} (r : roads.Ghosts R I O) (i : link_in.Ghosts I) (o : link_out.Ghosts O) where
  module _ (w : World) (net : Net) (number place c : ℕ) (road road' : R) (s : Standing) (shows : ShowsWorld r w net road) (placed : ArePlaced w) (upper : (w.dialled c).upper ≡ by_primary number place) (tells : ShowsStanding r net c false road' s) where
    abbrev before : Bool
    before = nat_lt c w.next_conn && is_some (next_up w c)

    -- nothing comes from a connection that the primary doesn't have at the place
    module _ (l : Leading) (is : w.primaries number ≡ leads l) where
      apart : (slice_get l.conns place ≡ Some (Some c) → ⊥) → (b : Bool) → false ≡ (before && b)
      apart never b = unknown (nat_lt c w.next_conn) (is_some (next_up w c)) b
          (λ within. never (subst (λ (p : Primary). IsPlacedIn c place p) is (placed c number place (known_so c w.next_conn within) upper)))

      -- what stands next on the connection of a link
      link_due : (d : ℕ) (link : Link I O) → LinkShows i o w net d link → d ≡ c → (v : Bool) → link.over ≡ v → (is_conn (if v then None else Some link.end.id) c && stands s) ≡ (before && true)
      link_due d link h same true over =
          let gone : is_over w c false ≡ true = sym (ap (λ (n : ℕ). is_over w n false) same) ∙ (sym h.over ∙ over) in
          over_none (is_some (next_up w c)) (sym (ap (λ (b : Bool). is_some (if b then None else (if ends_at (w.up_marks c).end (w.up_marks c).taken then Some the_end else Rattle.std.specs.Prelude.option_map message (slice_get (w.ups c) (w.up_marks c).taken)))) gone)) (nat_lt c w.next_conn) true
      link_due d link h same false over =
          let taking : (net.traffic c false).over ≡ false = subst (λ (n : ℕ). (net.traffic n false).over ≡ false) same h.end_is.taking in
          let on : is_over w c false ≡ false = sym (ap (λ (n : ℕ). is_over w n false) same) ∙ (sym h.over ∙ over) in
          let next : stands s ≡ is_some (next_up w c) = ap stands (tells.is taking) ∙ row_stands (rows_of w c false) (net.traffic c false) (shows.is_net.rows_are c false) (shows.sane.fits c false) taking on in
          let within : nat_lt c w.next_conn ≡ true = lt-ltb c w.next_conn (subst (λ (n : ℕ). n < w.next_conn) same (subst (λ (n : ℕ). d < n) shows.is_net.conns h.end_is.within)) in
          ap (λ (b : Bool). b && stands s) (test_of link.end.id.0 c (h.end_is.id ∙ same)) ∙ both_due (nat_lt c w.next_conn) (is_some (next_up w c)) (stands s) within next

      other_link : (d : ℕ) (link : Link I O) → LinkShows i o w net d link → slice_get l.conns place ≡ Some (Some d) → (d == c) ≡ false → (v : Bool) → (is_conn (if v then None else Some link.end.id) c && stands s) ≡ (before && true)
      other_link d link h at other true = apart (λ e. false_true (sym other ∙ test_of d c (same_conn d c (sym at ∙ e)))) true
      other_link d link h at other false =
          ap (λ (n : ℕ). (n == c) && stands s) h.end_is.id ∙ (ap (λ (b : Bool). b && stands s) other ∙ apart (λ e. false_true (sym other ∙ test_of d c (same_conn d c (sym at ∙ e)))) true)

      by_test : (d : ℕ) (link : Link I O) → LinkShows i o w net d link → slice_get l.conns place ≡ Some (Some d) → (t : Bool) → (d == c) ≡ t → (is_conn (hearing_conn (Some (seat.Open link))) c && stands s) ≡ (before && true)
      by_test d link h at true same = link_due d link h (eqb-true d c same) link.over refl
      by_test d link h at false other = other_link d link h at other link.over

      -- a place to whose member the primary listens, or doesn't
      seat_due : (b : Bool) (q : Option ℕ) (x : Seat I O) → slice_get l.conns place ≡ Some q → SeatShows i o w net b q x → (is_conn (hearing_conn (Some x)) c && stands s) ≡ (before && b)
      seat_due true (Some d) (seat.Open link) at h = by_test d link h at (d == c) refl
      seat_due true (Some d) seat.Empty at h = absurd h
      seat_due true (Some d) seat.Lost at h = absurd h
      seat_due true None x at h = ap (λ (y : Seat I O). is_conn (hearing_conn (Some y)) c && stands s) h ∙ apart (λ e. no_conn c (sym at ∙ e)) true
      seat_due false (Some d) x at h = ap (λ (y : Seat I O). is_conn (hearing_conn (Some y)) c && stands s) h.0 ∙ none_due before
      seat_due false None x at h = ap (λ (y : Seat I O). is_conn (hearing_conn (Some y)) c && stands s) h ∙ none_due before

      place_due : (a : Option member.Standing) (q : Option (Option ℕ)) (z : Option (Seat I O)) → slice_get l.conns place ≡ q → PlaceShows i o w net l.state.phase a q z → (is_conn (hearing_conn z) c && stands s) ≡ (before && listens_at l.state.phase a)
      place_due (Some st) (Some q) (Some x) at h = seat_due (listens l.state.phase st) q x at h.seat_is
      place_due None None None at h = none_due before
      place_due (Some st) (Some q) None at h = absurd h
      place_due (Some st) None z at h = absurd h
      place_due None (Some q) z at h = absurd h
      place_due None None (Some x) at h = absurd h

    led_due_on : (t : Recovery) (p : running.Primary I O) → t.primary ≡ number → (h : LeadsOn i o w net t p) → (is_conn (hearing_conn (slice_get p.links.items place)) c && stands s) ≡ (before && leads_from (w.primaries number) w place)
    led_due_on t p line h =
        let l : Leading = h.leading in
        let is : w.primaries number ≡ leads l = ap w.primaries (sym line) ∙ h.leads_so.shows.leads_so in
        let from : leads_from (w.primaries number) w place ≡ listens_at l.state.phase (slice_get l.state.standings place) =
        ap (λ (q : Primary). leads_from q w place) is
        ∙ (ap (λ (b : Bool). b && is_none l.told && listens_at l.state.phase (slice_get l.state.standings place)) h.leads_so.alive
        ∙ ap (λ x. is_none x && listens_at l.state.phase (slice_get l.state.standings place)) h.leads_so.shows.told) in
        place_due l is (slice_get l.state.standings place) (slice_get l.conns place) (slice_get p.links.items place) refl (h.leads_so.shows.places place)
        ∙ ap (λ (b : Bool). before && b) (sym from)

    none_from : (p : Primary) → w.primaries number ≡ p → leads_from p w place ≡ false → false ≡ (before && leads_from (w.primaries number) w place)
    none_from p is none = none_due before ∙ ap (λ (b : Bool). before && b) (sym (ap (λ (q : Primary). leads_from q w place) is ∙ none))

    pub primary_due_on : (t : Recovery) (st : PrimaryState I O) → t.primary ≡ number → StateShows i o w net t st → (hears_on st c place && stands s) ≡ (before && leads_from (w.primaries number) w place)
    primary_due_on t state.New line h = none_from Rattle.primary_events.specs.World.Parts.no_primary (ap w.primaries (sym line) ∙ h.is) refl
    primary_due_on t (state.Leads p) line h = led_due_on t p line h
    primary_due_on t (state.HasLed led) line h = none_from (has_led led) (ap w.primaries (sym line) ∙ h) refl
    primary_due_on t state.Stopped line h =
        let l : Leading = h.leading in
        none_from (leads l) (ap w.primaries (sym line) ∙ h.is) (ap (λ (b : Bool). b && is_none l.told && listens_at l.state.phase (slice_get l.state.standings place)) h.gone)

  pub primary_tells : (client : PrimaryClient I O) (conn : ConnId) (place : ℕ) (road road' : R) (s : Standing) (result : Bool) → ((net : Net) → RoadsShow r net road → ShowsStanding r net conn.0 false road' s)
      → result ≡ (hears_on client.state conn.0 place && stands s) → TellsPrimary r i o conn place client road road' result
  primary_tells client conn place road road' s result tells told = λ w net h placed upper.
      let c : ℕ = conn.0 in
      let shown : ShowsStanding r net c false road' s = tells net h.roads_are.shows in (
        record { roads_are = record { is_net = h.roads_are.is_net; sane = h.roads_are.sane; shows = shown.road_shows }; client_is = h.client_is },
        told ∙ (primary_due_on w net client.recovery.primary place c road road' s h.roads_are placed upper shown client.recovery client.state refl h.client_is
            ∙ sym (ap (λ (u : Upper). (nat_lt c w.next_conn && is_some (next_up w c)) && takes_above u w c) upper)),
      )
