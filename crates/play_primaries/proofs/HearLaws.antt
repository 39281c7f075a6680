-- What a primary hears, and the world after it.
use Rattle.std.proofs.Common.{◌≡◌, ◌<◌, ℕ, Bool, true, false, Option, Some, None, is_some, slice_get, Result, Ok, Err, refl, sym, ap, ◌∙◌, subst, arith}
use Rattle.std.specs.Prelude.{◌&&◌, is_none, nat_lt}
use Rattle.std.proofs.lemmas.Bool.Decides.{nat_tests}
use Rattle.hd_base.specs.declared.links.LinkIn as link_in
use Rattle.hd_base.specs.declared.links.LinkOut as link_out
use Rattle.hd_base.specs.declared.numbers.ConnId.{ConnId}
use Rattle.hd_base.specs.declared.roads.Roads as roads
use Rattle.recovery_core.specs.declared.primary.Phase.{Phase}
use Rattle.recovery_core.specs.declared.standings.Heard.{Heard}
use Rattle.recovery_core.specs.declared.standings.Standing.{Standing}
use Rattle.recovery_core.specs.Primaries as core
use Rattle.recovery_core.specs.Primaries.{heard_as}
use Rattle.primary_events.specs.BlockRecovery.Primary as running
use Rattle.road_traffic.specs.Showing.{Net}
use Rattle.primary_events.specs.World.Event.TheVariants as event
use Rattle.primary_events.specs.World.Connections.{Next, next_up, is_alive}
use Rattle.primary_events.specs.World.Events.{happens}
use Rattle.primary_events.specs.World.Enabled.{can_up, leads_from, listens_at, takes_above}
use Rattle.primary_events.specs.World.Parts.{Upper, by_primary, Leading, Primary, leads}
use Rattle.primary_events.specs.World.Primaries.{heard_of, listens}
use Rattle.primary_events.specs.World.Worlds.{World}
use Rattle.world_recoveries.proofs.WorldLaws.FactTables.{and-left, and-right}
use Rattle.play_readers.specs.WorldNets.Drawn.{ComesUp}
use Rattle.world_recoveries.specs.Recovering.{IsPlacedIn}
use Rattle.primary_events.specs.declared.faults.PrimaryFault.{PrimaryFault}
use Rattle.primary_events.specs.Hearing as hearing
use Rattle.primary_events.specs.Hearing.{PrimariesCanHear}
use Rattle.play_readers.specs.PlayModel.Recovery.{Recovery}
use Rattle.play_primaries.specs.declared.clients.PrimaryClient.{PrimaryClient}
use Rattle.play_primaries.specs.declared.clients.PrimaryState.{PrimaryState}
use Rattle.play_primaries.specs.declared.clients.PrimaryState.TheVariants as state
use Rattle.play_primaries.specs.Clients.{IsUnderWay, LeadsOn, StateShows}
use Rattle.play_primaries.specs.Hearing.{HearEnds, HearShows, is_leading}

some_next : (o : Option Next) → is_some o ≡ true → (x : Next) × (o ≡ Some x)
some_next None h = cc
some_next (Some x) h = (x, refl)

-- the standing of a member to which it listens
record ListensTo (p : Phase) (a : Option Standing) : Type 0 where
  standing : Standing
  is : a ≡ Some standing
  listens_to : listens p standing ≡ true

listens_so : (p : Phase) (a : Option Standing) → listens_at p a ≡ true → ListensTo p a
listens_so p None h = cc
listens_so p (Some s) h = record { standing = s; is = refl; listens_to = h }

phase_heard : (p : core.PrimaryState) (place : ℕ) (h : Heard) (a : Option Standing) → (heard_as p place h a).phase ≡ p.phase
phase_heard p place h None = refl
phase_heard p place h (Some s) = refl

known_so : (a b : ℕ) → nat_lt a b ≡ true → a < b
known_so a b e = grind (arith, nat_tests, e)

-- a primary hears over a connection from which it may take
hears_there : (w : World) (number place c : ℕ) → can_up w c ≡ true → (w.dialled c).upper ≡ by_primary number place → leads_from (w.primaries number) w place ≡ true
hears_there w number place c can upper =
    sym (ap (λ (u : Upper). takes_above u w c) upper) ∙ and-right (nat_lt c w.next_conn && is_some (next_up w c)) (takes_above (w.dialled c).upper w c) can

false_true : false ≡ true → ⊥
false_true e = cc

module _ {R I O : Type 0} (r : roads.Ghosts R I O) (i : link_in.Ghosts I) (o : link_out.Ghosts O) where
  -- The primary leads.
  pub hear_leads : PrimariesCanHear → (t : Recovery) (place : ℕ) (p p' : running.Primary I O) (road road' : R) (z : Result (Unit {0}) PrimaryFault) → p'.block ≡ p.block → p'.members ≡ p.members → hearing.HearShows r i o place p p' road road' z
      → HearShows r i o place (record { recovery = t; state = state.Leads p }) (record { recovery = t; state = state.Leads p' }) road road' z
  hear_leads can t place p p' road road' z block members shows = λ w net conn stands law may upper.
      let c : ℕ = conn.0 in
      let h : LeadsOn i o w net t p = stands.client_is in
      let l : Leading = h.leading in
      let s = h.leads_so.shows in
      let before : (nat_lt c w.next_conn && is_some (next_up w c)) ≡ true = and-left (nat_lt c w.next_conn && is_some (next_up w c)) (takes_above (w.dialled c).upper w c) may in
      let within : nat_lt c w.next_conn ≡ true = and-left (nat_lt c w.next_conn) (is_some (next_up w c)) before in
      let x = some_next (next_up w c) (and-right (nat_lt c w.next_conn) (is_some (next_up w c)) before) in
      let comes : ComesUp w c x.0 = record { known = within; next = x.1 } in
      let from : leads_from (leads l) w place ≡ true = sym (ap (λ (q : Primary). leads_from q w place) s.leads_so) ∙ hears_there w t.primary place c may upper in
      let a = listens_so l.state.phase (slice_get l.state.standings place) (and-right (is_alive w l.at && is_none l.told) (listens_at l.state.phase (slice_get l.state.standings place)) from) in
      let at : slice_get l.conns place ≡ Some (Some c) = subst (λ (q : Primary). IsPlacedIn c place q) s.leads_so (law.placed c t.primary place (known_so c w.next_conn within) upper) in
      left w net conn t place p p' road road' block members h x.0 z
      (shows w net conn t.primary l x.0 (record { roads_are = stands.roads_are; shows = s })
      (can w conn t.primary place l a.standing x.0 law.ordered law.written (record { is = s.leads_so; alive = h.leads_so.alive; told_is = s.told }) a.is a.listens_to at comes))
    where
      left : (w : World) (net : Net) (conn : ConnId) (t : Recovery) (place : ℕ) (p p' : running.Primary I O) (road road' : R) → p'.block ≡ p.block → p'.members ≡ p.members → (h : LeadsOn i o w net t p) (x : Next) (z : Result (Unit {0}) PrimaryFault)
          → hearing.HearEnds r i o w net (happens w (event.Up conn)) t.primary conn.0 place h.leading x p' road road' z
          → HearEnds r i o w net conn (record { recovery = t; state = state.Leads p }) (record { recovery = t; state = state.Leads p' }) road road' z
      left w net conn t place p p' road road' block members h x (Err why) k = k
      left w net conn t place p p' road road' block members h x (Ok u) k = record {
        made = k.made;
        stands = record {
          roads_are = k.stands.roads_are;
          client_is = record {
            leading = k.leading;
            leads_so = record {
              shows = k.stands.shows;
              alive = k.alive;
              at_node = ap (λ (y : Leading). y.at.node) k.leading_is ∙ h.leads_so.at_node;
              under_way = subst (λ (y : Leading). IsUnderWay y.state.phase) (sym k.leading_is)
                  (subst (λ (y : Phase). IsUnderWay y) (sym (phase_heard h.leading.state place (heard_of x) (slice_get h.leading.state.standings place))) h.leads_so.under_way);
              block = block ∙ h.leads_so.block;
              members = members ∙ h.leads_so.members;
            };
          };
        };
        recovery = refl;
        others = k.others;
      }

  -- It doesn't.
  quiet : (st : PrimaryState I O) (w : World) (net : Net) (t : Recovery) (place : ℕ) → is_leading st ≡ false → StateShows i o w net t st → leads_from (w.primaries t.primary) w place ≡ false
  quiet state.New w net t place off h = ap (λ (q : Primary). leads_from q w place) h.is
  quiet (state.Leads p) w net t place off h = cc
  quiet (state.HasLed led) w net t place off h = ap (λ (q : Primary). leads_from q w place) h
  quiet state.Stopped w net t place off h =
      let l : Leading = h.leading in
      ap (λ (q : Primary). leads_from q w place) h.is ∙ ap (λ (b : Bool). b && is_none l.told && listens_at l.state.phase (slice_get l.state.standings place)) h.gone

  pub hear_quiet : (old new : PrimaryClient I O) (place : ℕ) (road road' : R) (z : Result (Unit {0}) PrimaryFault) → is_leading old.state ≡ false → HearShows r i o place old new road road' z
  hear_quiet old new place road road' z off = λ w net conn stands law may upper.
      absurd (false_true (sym (quiet old.state w net old.recovery place off stands.client_is) ∙ hears_there w old.recovery.primary place conn.0 may upper))
