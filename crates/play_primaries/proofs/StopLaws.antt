-- The node of a primary has stopped.
use Rattle.std.proofs.Common.{◌≡◌, ◌≤◌, ℕ, Bool, true, false, List, slice_get, Option, Some, None, refl, sym, ap, ◌∙◌, subst, arith}
use Rattle.std.specs.Prelude.{◌&&◌, ◌==◌, if◌then◌else◌, Result, Ok, Err, OnOk}
use Rattle.std.specs.declared.alloc.AllocError.{AllocError}
use Rattle.std.specs.List.{list_any}
use Rattle.std.proofs.lemmas.Bool.Decides.{nat_tests}
use Rattle.hd_base.specs.declared.links.LinkIn as link_in
use Rattle.hd_base.specs.declared.links.LinkOut as link_out
use Rattle.hd_base.specs.declared.roads.Roads as roads
use Rattle.recovery_core.specs.declared.primary.Recovered.{Recovered}
use Rattle.recovery_core.specs.declared.standings.Standing.{Standing}
use Rattle.primary_events.specs.BlockRecovery.Link.{Link}
use Rattle.primary_events.specs.BlockRecovery.Seat.{Seat}
use Rattle.primary_events.specs.BlockRecovery.Seat.TheVariants as seat
use Rattle.primary_events.specs.BlockRecovery.Primary as running
use Rattle.primary_events.specs.BlockRecovery.Dialling.{is_lost}
use Rattle.primary_events.specs.BlockRecovery.Exchanging.{BringsAll, AllAreBack}
use Rattle.road_traffic.specs.Laws.{BringsShow}
use Rattle.road_traffic.specs.Showing.{Net}
use Rattle.primary_events.specs.World.Event.TheVariants as event
use Rattle.primary_events.specs.World.Connections.{is_alive}
use Rattle.primary_events.specs.World.Events.{happens}
use Rattle.primary_events.specs.World.Parts.{Place, by_primary, Leading, Primary, leads}
use Rattle.primary_events.specs.World.Primaries.{listens}
use Rattle.primary_events.specs.World.Worlds.{World, put}
use Rattle.world_recoveries.proofs.WorldLaws.FactTables.{and-right}
use Rattle.play_readers.specs.WorldNets.Dials.{NetsStaySane}
use Rattle.play_readers.specs.WorldNets.Ends.{EndsElsewhereStay}
use Rattle.play_readers.specs.WorldNets.Steps.{IdleFlushesAreNets}
use Rattle.play_readers.specs.WorldOrders.Orders.{PrimaryIs}
use Rattle.primary_events.specs.WorldPrimaries.Links.{AreDistinct}
use Rattle.world_stops.proofs.StopLemmas.{stop_is}
use Rattle.primary_events.specs.Leading.{AllOthersStay}
use Rattle.primary_events.specs.Showing.{SeatShows, PlaceShows}
use Rattle.play_readers.specs.PlayModel.Recovery.{Recovery}
use Rattle.play_primaries.specs.declared.clients.PrimaryClient.{PrimaryClient}
use Rattle.play_primaries.specs.declared.clients.PrimaryState.{PrimaryState}
use Rattle.play_primaries.specs.declared.clients.PrimaryState.TheVariants as state
use Rattle.play_primaries.specs.Clients.{LeadsOn, StateShows}
use Rattle.play_primaries.specs.Owning.{led_conns}
use Rattle.play_primaries.specs.Stopping.{NodeHasStopped, StopLeft, StopShows}
use Rattle.play_primaries.proofs.BringLaws.{IsConnOf, AllBrought, all_brought}

-- it doesn't lead
abbrev Unleading : {I O : Type 0} → PrimaryState I O → Type 0
Unleading (state.Leads p) = ⊥
Unleading other = Unit {0}

false_true : false ≡ true → ⊥
false_true e = cc

le_same : (a b c : ℕ) → a ≤ b → c ≡ b → a ≤ c
le_same a b c h e = omega (arith, h, e)

life_so : (a b : ℕ) → (a == b) ≡ true → b ≤ a
life_so a b e = grind (arith, nat_tests, e)

-- THE WORLD

-- The primary's node no longer runs, and primaries and lives are as they were.
record IsStopped (w v : World) (node : ℕ) : Type 0 where
  primaries : (n : ℕ) → v.primaries n ≡ w.primaries n
  lives : (n : ℕ) → v.lives n ≡ w.lives n
  running : (n : ℕ) → v.running n ≡ put w.running node false n

put_off : (f : ℕ → Bool) (node n : ℕ) (b : Bool) → (n == node) ≡ b → f n ≡ false → put f node false n ≡ false
put_off f node n true e h = ap (λ (q : Bool). if q then false else f n) e
put_off f node n false e h = ap (λ (q : Bool). if q then false else f n) e ∙ h

put_there : (f : ℕ → Bool) (node n : ℕ) → n ≡ node → put f node false n ≡ false
put_there f node n same = ap (λ (q : Bool). if q then false else f n) (test_so n node same)
  where
    test_so : (a b : ℕ) → a ≡ b → (a == b) ≡ true
    test_so a b e = grind (arith, nat_tests, e)

-- no place comes to life
still_gone : (run run' life : Bool) → (run ≡ false → run' ≡ false) → (run && life) ≡ false → (run' && life) ≡ false
still_gone true true true off h = h
still_gone true false true off h = refl
still_gone true true false off h = refl
still_gone true false false off h = refl
still_gone false run' life off h = ap (λ (b : Bool). b && life) (off refl)

module _ {R I O : Type 0} (r : roads.Ghosts R I O) (i : link_in.Ghosts I) (o : link_out.Ghosts O) where
  module _ (w : World) (net made : Net) (c : PrimaryClient I O) (road : R) (h : NodeHasStopped r i o w net made c road) where
    abbrev t : Recovery
    t = c.recovery

    abbrev v : World
    v = happens w (event.Stop c.recovery.node)

    stopped : IsStopped w v t.node.0
    stopped = subst (λ (x : World). IsStopped w x t.node.0) (sym (stop_is w t.node h.runs)) (record { primaries = λ n. refl; lives = λ n. refl; running = λ n. refl })

    gone_on : (p : Place) → is_alive w p ≡ false → is_alive v p ≡ false
    gone_on p gone =
        still_gone (w.running p.node) (v.running p.node) (v.lives p.node == p.life)
        (λ off. stopped.running p.node ∙ put_off w.running t.node.0 p.node (p.node == t.node.0) refl off)
        (ap (λ (n : ℕ). w.running p.node && (n == p.life)) (stopped.lives p.node) ∙ gone)

    gone_here : (p : Place) → p.node ≡ t.node.0 → is_alive v p ≡ false
    gone_here p same = ap (λ (b : Bool). b && (v.lives p.node == p.life)) (stopped.running p.node ∙ put_there w.running t.node.0 p.node same)

    -- A primary that doesn't lead shows the world after.
    quiet_shows : (st : PrimaryState I O) → ((p : running.Primary I O) → st ≡ state.Leads p → ⊥) → StateShows i o w net t st → StateShows i o v made (record t { may_begin = false }) st
    quiet_shows state.New never k = record { is = stopped.primaries t.primary ∙ k.is; runs = λ may. absurd (false_true may) }
    quiet_shows (state.Leads p) never k = absurd (never p refl)
    quiet_shows (state.HasLed led) never k = stopped.primaries t.primary ∙ k
    quiet_shows state.Stopped never k = record {
      leading = k.leading;
      is = stopped.primaries t.primary ∙ k.is;
      gone = gone_on k.leading.at k.gone;
      past = le_same k.leading.at.life (w.lives k.leading.at.node) (v.lives k.leading.at.node) k.past (stopped.lives k.leading.at.node);
    }

    pub quiet_left : (st : PrimaryState I O) → c.state ≡ st → ((p : running.Primary I O) → st ≡ state.Leads p → ⊥) → StopLeft r i o v made t.primary (record { recovery = record t { may_begin = false }; state = st }) road
    quiet_left st is never = record {
      made = made;
      stands = record { roads_are = h.roads_are; client_is = quiet_shows st never (subst (λ (x : PrimaryState I O). StateShows i o w net t x) is h.client_is) };
      others = λ d lower e apart x. x;
    }

    -- One that leads has brought its ends back.
    module _ (brings : BringsShow R I O r i o) (idle : IdleFlushesAreNets) (sane_stay : NetsStaySane) (elsewhere : EndsElsewhereStay i o) (p : running.Primary I O) (led : LeadsOn i o w net t p) where
      abbrev l : Leading
      l = led.leading

      dialled : PrimaryIs w.dialled t.primary (leads l)
      dialled = subst (λ (q : Primary). PrimaryIs w.dialled t.primary q) led.leads_so.shows.leads_so (h.ordered.primaries_are t.primary)

      same_place : (j k : ℕ) → by_primary t.primary j ≡ by_primary t.primary k → j ≡ k
      same_place j k e = cc

      distinct : AreDistinct l.conns
      distinct = λ j k n one other. same_place j k (sym (dialled j n one) ∙ dialled k n other)

      abbrev ConnOf : ℕ → Link I O → Type 0
      ConnOf place y = IsConnOf r i o brings idle sane_stay elsewhere v made l.conns distinct p.links.items place y

      seat_conn : (place : ℕ) (b : Bool) (q : Option ℕ) (y : Link I O) → slice_get l.conns place ≡ Some q → SeatShows i o w net b q (seat.Open y) → ConnOf place y
      seat_conn place true (Some n) y at s = record { conn = n; at = at; end_is = h.ends n place y.end (dialled place n at) s.end_is }
      seat_conn place true None y at s = absurd (no_seat y s) where
        no_seat : (y : Link I O) → ◌≡◌ {A = Seat I O} (seat.Open y) seat.Empty → ⊥
        no_seat y e = cc
      seat_conn place false (Some n) y at s = absurd (no_seat y s.0) where
        no_seat : (y : Link I O) → ◌≡◌ {A = Seat I O} (seat.Open y) seat.Empty → ⊥
        no_seat y e = cc
      seat_conn place false None y at s = absurd (no_seat y s) where
        no_seat : (y : Link I O) → ◌≡◌ {A = Seat I O} (seat.Open y) seat.Empty → ⊥
        no_seat y e = cc

      place_conn : (place : ℕ) (a : Option Standing) (q : Option (Option ℕ)) (y : Link I O) → slice_get l.conns place ≡ q → PlaceShows i o w net l.state.phase a q (Some (seat.Open y)) → ConnOf place y
      place_conn place (Some s) (Some q) y at k = seat_conn place (listens l.state.phase s) q y at k.seat_is
      place_conn place (Some s) None y at k = absurd k
      place_conn place None (Some q) y at k = absurd k
      place_conn place None None y at k = absurd k

      shown : (place : ℕ) (y : Link I O) → slice_get p.links.items place ≡ Some (seat.Open y) → ConnOf place y
      shown place y is =
          place_conn place (slice_get l.state.standings place) (slice_get l.conns place) y refl
          (subst (λ (z : Option (Seat I O)). PlaceShows i o w net l.state.phase (slice_get l.state.standings place) (slice_get l.conns place) z) is (led.leads_so.shows.places place))

      pub led_left : (links' : List (Seat I O)) (road' : R) → list_any (λ x. is_lost (Some x)) links' ≡ false → BringsAll r i o p.links.items links' road road' → StopLeft r i o v made t.primary (record { recovery = record t { may_begin = false }; state = state.Stopped }) road'
      led_left links' road' none done =
          let k : AllBrought r i o brings idle sane_stay elsewhere v made l.conns distinct p.links.items shown road' = all_brought r i o brings idle sane_stay elsewhere v made l.conns distinct p.links.items shown links' road road' h.roads_are none done in
          record {
            made = k.made;
            stands = record {
              roads_are = k.roads_are;
              client_is = record {
                leading = l;
                is = now;
                gone = gone_here l.at led.leads_so.at_node;
                past = le_same l.at.life (w.lives l.at.node) (v.lives l.at.node) (life_so (w.lives l.at.node) l.at.life (and-right (w.running l.at.node) (w.lives l.at.node == l.at.life) led.leads_so.alive)) (stopped.lives l.at.node);
              };
            };
            others = subst (λ (q : Primary). AllOthersStay i o v made v k.made (led_conns q)) (sym now) k.others;
          }
        where
          now : v.primaries t.primary ≡ leads l
          now = stopped.primaries t.primary ∙ led.leads_so.shows.leads_so

  -- Client and roads show the world in which the node has stopped.
  pub stop_quiet : (old : PrimaryClient I O) (st : PrimaryState I O) (road : R) → old.state ≡ st → ((p : running.Primary I O) → st ≡ state.Leads p → ⊥) → StopShows r i o old (record { recovery = record old.recovery { may_begin = false }; state = st }) road road
  stop_quiet old st road is never = λ w net made h. quiet_left w net made old road h st is never

  pub stop_leads : BringsShow R I O r i o → IdleFlushesAreNets → NetsStaySane → EndsElsewhereStay i o → (old : PrimaryClient I O) (p : running.Primary I O) (links' : List (Seat I O)) (road road' : R) → old.state ≡ state.Leads p → list_any (λ x. is_lost (Some x)) links' ≡ false → BringsAll r i o p.links.items links' road road'
      → StopShows r i o old (record { recovery = record old.recovery { may_begin = false }; state = state.Stopped }) road road'
  stop_leads brings idle sane_stay elsewhere old p links' road road' is none done = λ w net made h.
      led_left w net made old road h brings idle sane_stay elsewhere p (subst (λ (x : PrimaryState I O). StateShows i o w net old.recovery x) is h.client_is) links' road' none done

  not_led : (st : PrimaryState I O) (p : running.Primary I O) → Unleading st → st ≡ state.Leads p → ⊥
  not_led state.New p u e = cc
  not_led (state.Leads q) p u e = absurd u
  not_led (state.HasLed led) p u e = cc
  not_led state.Stopped p u e = cc

  pub stop_new : (old : PrimaryClient I O) (road : R) → old.state ≡ state.New → StopShows r i o old (record { recovery = record old.recovery { may_begin = false }; state = state.New }) road road
  stop_new old road is = stop_quiet old state.New road is (λ p e. not_led state.New p tt e)

  pub stop_led : (old : PrimaryClient I O) (led : Recovered) (road : R) → old.state ≡ state.HasLed led → StopShows r i o old (record { recovery = record old.recovery { may_begin = false }; state = state.HasLed led }) road road
  stop_led old led road is = stop_quiet old (state.HasLed led) road is (λ p e. not_led (state.HasLed led) p tt e)

  -- Its state is taken out while its ends are brought back.
  pub stop_past : (old : PrimaryClient I O) (st : PrimaryState I O) (road : R) → st ≡ state.Stopped → old.state ≡ state.Stopped → StopShows r i o old (record { recovery = record old.recovery { may_begin = false }; state = st }) road road
  stop_past old st road past is =
      subst (λ (s : PrimaryState I O). StopShows r i o old (record { recovery = record old.recovery { may_begin = false }; state = s }) road road) (sym past)
      (stop_quiet old state.Stopped road is (λ p e. not_led state.Stopped p tt e))

  pub stop_brought : BringsShow R I O r i o → IdleFlushesAreNets → NetsStaySane → EndsElsewhereStay i o → (old : PrimaryClient I O) (st : PrimaryState I O) (p : running.Primary I O) (road road' : R) (z : Result (Unit {0}) AllocError) → st ≡ state.Stopped → old.state ≡ state.Leads p → OnOk z (AllAreBack r i o p.links.items road road')
      → OnOk z (StopShows r i o old (record { recovery = record old.recovery { may_begin = false }; state = st }) road road')
  stop_brought brings idle sane_stay elsewhere old st p road road' (Ok u) past is k =
      subst (λ (s : PrimaryState I O). StopShows r i o old (record { recovery = record old.recovery { may_begin = false }; state = s }) road road') (sym past)
      (stop_leads brings idle sane_stay elsewhere old p k.left road road' is k.none_lost k.brings)
  stop_brought brings idle sane_stay elsewhere old st p road road' (Err e) past is k = tt
