-- A primary that leads goes on.
use Rattle.std.proofs.Common.{◌≡◌, ℕ, Bool, true, false, List, [], ◌∷◌, Option, Some, None, Result, Ok, Err, refl, sym, ap, ◌∙◌, subst}
use Rattle.std.specs.Prelude.{◌&&◌, if◌then◌else◌, is_none, is_some, map, slice_get}
use Rattle.std.specs.Global.{Vec}
use Rattle.hd_base.specs.declared.ends.Conn.{Conn}
use Rattle.hd_base.specs.declared.links.LinkIn as link_in
use Rattle.hd_base.specs.declared.links.LinkOut as link_out
use Rattle.hd_base.specs.declared.numbers.NodeId.{NodeId}
use Rattle.hd_base.specs.declared.roads.Roads as roads
use Rattle.name_core.specs.declared.choice.ChooseFault.{ChooseFault}
use Rattle.name_core.specs.declared.choice.Chosen.{Chosen}
use Rattle.name_core.specs.declared.desks.Desk as desks
use Rattle.name_core.specs.Choice.{choice}
use Rattle.recovery_core.specs.declared.primary.OwnStep.{OwnStep}
use Rattle.recovery_core.specs.declared.primary.OwnStep.TheVariants as own
use Rattle.recovery_core.specs.declared.primary.Phase.{Phase}
use Rattle.recovery_core.specs.declared.primary.Phase.TheVariants as phase
use Rattle.recovery_core.specs.declared.primary.Recovered.{Recovered}
use Rattle.recovery_core.specs.Primaries as core
use Rattle.recovery_core.specs.Primaries.{choosing, committing, infos, own_at, own_step, taken, updated_members, waits}
use Rattle.primary_events.specs.BlockRecovery.Primary as running
use Rattle.primary_events.specs.BlockRecovery.PrimaryStep.{PrimaryStep}
use Rattle.primary_events.specs.BlockRecovery.PrimaryStep.TheVariants as step
use Rattle.road_traffic.specs.Showing.{Net}
use Rattle.primary_events.specs.World.Events.{run}
use Rattle.primary_events.specs.World.Parts.{Leading, Primary, leads}
use Rattle.primary_events.specs.World.Primaries.{numbered}
use Rattle.primary_events.specs.World.Worlds.{World}
use Rattle.play_readers.specs.WorldTexts.Texts.{Written}
use Rattle.primary_events.specs.declared.faults.PrimaryFault.{PrimaryFault}
use Rattle.primary_events.specs.Beginning.{LowerShows}
use Rattle.primary_events.specs.Leading.{AllOthersStay, CanLead, PrimariesCanLead, RecoveryEnded, IsUpdateCause, UpdateSent, LeadEnds, LeadUpdates, LeadsTo, LeadShows, stepped, committed}
use Rattle.play_readers.specs.PlayModel.Recovery.{Recovery}
use Rattle.play_readers.specs.PlayModel.Recoveries.{acts, leads_events, primary_due, primary_events}
use Rattle.play_primaries.specs.declared.clients.PrimaryClient.{PrimaryClient}
use Rattle.play_primaries.specs.declared.clients.PrimaryState.{PrimaryState}
use Rattle.play_primaries.specs.declared.clients.PrimaryState.TheVariants as state
use Rattle.play_primaries.specs.Clients.{IsUnderWay, LeadsOn}
use Rattle.play_primaries.specs.Owning.{step_events, led_conns, OwnIsLawful, OwnLeft, OwnDone, IsOwnCause, OwnEnds, OwnShows}
use Rattle.play_primaries.proofs.DialledLaws.{led_counted, none_dialled}

-- ITS PHASE

chosen_way : (p : core.PrimaryState) (c : Chosen) (z : Result Chosen ChooseFault) → (choosing p z).does ≡ own.Updates c → IsUnderWay (choosing p z).primary.phase
chosen_way p c (Ok d) e = tt
chosen_way p c (Err why) e = cc

committing_not : (p : core.PrimaryState) (c : Chosen) (n : ℕ) (members : List NodeId) → (committing p n members).does ≡ own.Updates c → ⊥
committing_not p c n [] e = cc
committing_not p c n (m ∷ members) e = cc

way_by : (p : core.PrimaryState) (c : Chosen) (b : Bool) (ph : Phase) → (if b then taken p own.Waits else own_at ph p).does ≡ own.Updates c → IsUnderWay (if b then taken p own.Waits else own_at ph p).primary.phase
way_by p c true ph e = cc
way_by p c false phase.Informing e = chosen_way p c (choice p.begun.committed (infos p.members p.standings)) e
way_by p c false (phase.Updating n) e = absurd (committing_not p c n (updated_members p.members p.standings) e)
way_by p c false phase.Over e = cc

-- Once it has sent the UPDATE it is under way.
updating_way : (p : core.PrimaryState) (c : Chosen) → (own_step p).does ≡ own.Updates c → IsUnderWay (own_step p).primary.phase
updating_way p c e = way_by p c (waits p.standings) p.phase e

-- HOW IT GOES ON

-- how far a primary is behind a step, and what is handed out
abbrev pub state_left : {I O : Type 0} → Result PrimaryStep PrimaryFault → running.Primary I O → PrimaryState I O
state_left (Ok (step.Ended e)) p = state.HasLed e
state_left other p = state.Leads p

abbrev pub lowers_left : {I O : Type 0} → Result PrimaryStep PrimaryFault → Vec (Option (Conn I O)) → Result (Vec (Option (Conn I O))) PrimaryFault
lowers_left (Ok s) lowers = Ok lowers
lowers_left (Err why) lowers = Err why

module _ {D R I O : Type 0} (d : desks.Ghosts D) (r : roads.Ghosts R I O) (i : link_in.Ghosts I) (o : link_out.Ghosts O) (t : Recovery) (p p' : running.Primary I O) (block : p'.block ≡ p.block) (members : p'.members ≡ p.members) (office' : D) (road road' : R) (lowers : Vec (Option (Conn I O))) (none : lowers.items ≡ [])
    (w : World) (net : Net) (h : LeadsOn i o w net t p) where
  abbrev l : Leading
  l = h.leading

  abbrev old : PrimaryClient I O
  old = record { recovery = t; state = state.Leads p }

  abbrev Ends : Result PrimaryStep PrimaryFault → Type 0
  Ends z = OwnEnds d r i o w net old (record { recovery = t; state = state_left z p' }) office' road road' (lowers_left z lowers)

  abbrev Left : World → PrimaryState I O → Type 0
  Left v st = OwnLeft d r i o w net v old (record { recovery = t; state = st }) lowers.items office' road'

  leads_so : w.primaries t.primary ≡ leads l
  leads_so = h.leads_so.shows.leads_so

  no_lower : (xs : List (Option (Conn I O))) (place : ℕ) (x : Option (Conn I O)) → xs ≡ [] → slice_get xs place ≡ Some x → ⊥
  no_lower [] place x e at = cc
  no_lower (y ∷ xs) place x e at = cc

  -- What is left in the world after its events.
  done : (v : World) (st : PrimaryState I O) → run w (leads_events (own_step l.state).does t) ≡ v → Left v st → OwnDone d r i o w net old (record { recovery = t; state = st }) lowers.items office' road road'
  done v st now left = record {
    unanswered = λ place member is at. absurd (no_lower lowers.items place None none at);
    left = λ answers answered. subst (λ (u : World). Left u st) (sym (ap (λ (q : Primary). run w (step_events q t answers)) leads_so ∙ now)) left;
    whole = λ stopped. subst (λ (u : World). Left u st) (sym (ap (λ (q : Primary). run w (primary_events q t)) leads_so ∙ now)) left;
  }

  caused : (why : PrimaryFault) → IsUpdateCause r l.conns road road' why → IsOwnCause r w (w.primaries t.primary) road road' why
  caused why k = subst (λ (q : Primary). IsOwnCause r w q road road' why) (sym leads_so) k

  none_out : (v : World) (made : Net) (place : ℕ) → LowerShows i o v made (slice_get (numbered w.next_conn (map is_some lowers.items)) place) (slice_get lowers.items place)
  none_out v made place =
      subst (λ (xs : List (Option (Conn I O))). LowerShows i o v made (slice_get (numbered w.next_conn (map is_some xs)) place) (slice_get xs place)) (sym none) tt

  module _ (v : World) (now : run w (leads_events (own_step l.state).does t) ≡ v) where
    counted : v.next_conn ≡ w.next_conn
    counted = sym (ap (λ (u : World). u.next_conn) now) ∙ led_counted w t (own_step l.state).does

    sent : (c : Chosen) → (own_step l.state).does ≡ own.Updates c → UpdateSent d r i o w net v t.primary l p' office' road' → Left v (state.Leads p')
    sent c does k = record {
      made = k.made;
      stands = record {
        roads_are = k.stands.roads_are;
        client_is = record {
          leading = k.leading;
          leads_so = record {
            shows = k.stands.shows;
            alive = k.alive;
            at_node = ap (λ (x : Leading). x.at.node) k.leading_is ∙ h.leads_so.at_node;
            under_way = subst (λ (x : Leading). IsUnderWay x.state.phase) (sym k.leading_is) (updating_way l.state c does);
            block = block ∙ h.leads_so.block;
            members = members ∙ h.leads_so.members;
          };
        };
      };
      recovery = refl;
      office_is = k.office_is;
      dialled = none_dialled w v t (map is_some lowers.items) (ap (λ (xs : List (Option (Conn I O))). map is_some xs) none) counted;
      lowers_are = none_out v k.made;
      others = subst (λ (q : Primary). AllOthersStay i o w net v k.made (led_conns q)) (sym leads_so) k.others;
    }

    ended : (e : Recovered) → RecoveryEnded d r i o w net v t.primary l e office' road' → Left v (state.HasLed e)
    ended e k = record {
      made = k.made;
      stands = record { roads_are = k.roads_are; client_is = k.led };
      recovery = refl;
      office_is = k.office_is;
      dialled = none_dialled w v t (map is_some lowers.items) (ap (λ (xs : List (Option (Conn I O))). map is_some xs) none) counted;
      lowers_are = none_out v k.made;
      others = subst (λ (q : Primary). AllOthersStay i o w net v k.made (led_conns q)) (sym leads_so) k.others;
    }

    updates_to : (c : Chosen) → (own_step l.state).does ≡ own.Updates c → (z : Result PrimaryStep PrimaryFault) → LeadUpdates d r i o w net v t.primary l p' office' road road' z → Ends z
    updates_to c does (Ok step.Moved) k = done v (state.Leads p') now (sent c does k)
    updates_to c does (Ok step.Waiting) k = absurd k
    updates_to c does (Ok (step.Ended e)) k = absurd k
    updates_to c does (Err why) k = caused why k

    ends_to : (end : Recovered) → (z : Result PrimaryStep PrimaryFault) → LeadEnds d r i o w net v t.primary l end office' road' z → Ends z
    ends_to end (Ok (step.Ended e)) k = done v (state.HasLed e) now (ended e (subst (λ (x : Recovered). RecoveryEnded d r i o w net v t.primary l x office' road') (sym k.0) k.1))
    ends_to end (Ok step.Moved) k = absurd k
    ends_to end (Ok step.Waiting) k = absurd k
    ends_to end (Err why) k = caused why (subst (λ (x : PrimaryFault). IsUpdateCause r l.conns road road' x) (sym k) tt)

  block_is : t.block ≡ l.state.block
  block_is = sym h.leads_so.block ∙ h.leads_so.shows.block

  false_true : false ≡ true → ⊥
  false_true e = cc

  -- Its events are those of what it does.
  by_step : (q : OwnStep) → (own_step l.state).does ≡ q → OwnIsLawful w t → acts q ≡ true → (z : Result PrimaryStep PrimaryFault) → LeadsTo d r i o w net t.primary l p' office' road road' z → Ends z
  by_step own.Waits does law due z k = absurd (false_true due)
  by_step (own.Updates c) does law due z k =
      let now : run w (leads_events (own_step l.state).does t) ≡ stepped w t.primary = ap (λ (q : OwnStep). run w (leads_events q t)) does in
      updates_to (stepped w t.primary) now c does z (k.updates c does (λ place x at n m here. (subst (λ (u : World). Written u) (ap (λ (q : Primary). run w (step_events q t [])) leads_so ∙ now) (law.written [])).downs x n m here))
  by_step (own.Ends e) does law due z k =
      ends_to (stepped w t.primary) (ap (λ (q : OwnStep). run w (leads_events q t)) does) e z (k.ends e does)
  by_step (own.Commits c) does law due z k =
      ends_to (committed w t.primary l.state.block) (ap (λ (q : OwnStep). run w (leads_events q t)) does ∙ ap (committed w t.primary) block_is) _ z (k.commits c does)

  can_lead : PrimariesCanLead → OwnIsLawful w t → CanLead w t.primary l
  can_lead can law = can w t.primary l law.ordered (record { is = leads_so; alive = h.leads_so.alive; told_is = h.leads_so.shows.told })

  due_so : primary_due (w.primaries t.primary) w t ≡ true → acts (own_step l.state).does ≡ true
  due_so due =
      sym (ap (λ (b : Bool). b && (is_none l.told && acts (own_step l.state).does)) h.leads_so.alive ∙ ap (λ x. is_none x && acts (own_step l.state).does) h.leads_so.shows.told)
      ∙ (sym (ap (λ (q : Primary). primary_due q w t) leads_so) ∙ due)

  pub led_ends : OwnIsLawful w t → primary_due (w.primaries t.primary) w t ≡ true → (z : Result PrimaryStep PrimaryFault) → LeadsTo d r i o w net t.primary l p' office' road road' z → Ends z
  led_ends law due z k = by_step (own_step l.state).does refl law (due_so due) z k

-- A primary that leads goes on as in the world.
pub led_shows : {D R I O : Type 0} (d : desks.Ghosts D) (r : roads.Ghosts R I O) (i : link_in.Ghosts I) (o : link_out.Ghosts O) → PrimariesCanLead → (t : Recovery) (p p' : running.Primary I O) (office office' : D) (road road' : R) (lowers : Vec (Option (Conn I O))) → lowers.items ≡ [] → (z : Result PrimaryStep PrimaryFault)
    → p'.block ≡ p.block → p'.members ≡ p.members → LeadShows d r i o p p' office office' road road' z → OwnShows d r i o (record { recovery = t; state = state.Leads p }) (record { recovery = t; state = state_left z p' }) office office' road road' (lowers_left z lowers)
led_shows d r i o can t p p' office office' road road' lowers none z block members k = λ w net stands at law due.
    let h = stands.client_is in
    led_ends d r i o t p p' block members office' road road' lowers none w net h law due z
    (k w net t.primary h.leading (record { roads_are = stands.roads_are; shows = h.leads_so.shows }) (can_lead d r i o t p p' block members office' road road' lowers none w net h can law) at)
