-- The own step of a primary, as the clauses say it.
use Rattle.std.proofs.Common.{◌≡◌, ℕ, zero, suc, Bool, true, false, List, [], ◌∷◌, slice_get, slice_set, is_some, is_none, Option, Some, None, inl, inr, Result, Ok, Err, refl, sym, ap, ◌∙◌, subst}
use Rattle.std.specs.Prelude.{◌&&◌, ◌||◌}
use Rattle.std.specs.Global.{Vec}
use Rattle.hd_base.specs.Faults.{FaultsIncreased}
use Rattle.hd_base.specs.declared.ends.Conn.{Conn}
use Rattle.hd_base.specs.declared.files.Files as files
use Rattle.hd_base.specs.declared.links.LinkIn as link_in
use Rattle.hd_base.specs.declared.links.LinkOut as link_out
use Rattle.hd_base.specs.declared.numbers.NodeId.{NodeId}
use Rattle.hd_base.specs.declared.roads.Roads as roads
use Rattle.play_primaries.specs.BlockRecovery.Dialling.{dial_port}
use Rattle.name_core.specs.declared.desks.Desk as desk
use Rattle.road_traffic.specs.Showing.{Net}
use Rattle.world.specs.declared.events.Event.{Event}
use Rattle.world.specs.Events.{run}
use Rattle.world.specs.Parts.{Primary, no_primary, was_told, leads, has_led}
use Rattle.world.specs.Worlds.{World}
use Rattle.play_primaries.specs.PrimaryEvents.PrimaryFault.{PrimaryFault}
use Rattle.play_primaries.specs.PrimaryEvents.PrimaryFault.TheVariants as primary_fault
use Rattle.play_primaries.specs.PrimaryEvents.Beginning.{IsBeginCause, IsUnreached}
use Rattle.play_model.specs.declared.recoveries.Recovery.{Recovery}
use Rattle.play_model.specs.Recoveries.{all_answered, recovery_due, recovery_events}
use Rattle.play_nodes.specs.declared.nodes.Nodes.{Nodes}
use Rattle.play_nodes.specs.Showing.{runs_in, TellsRunning}
use Rattle.play_nodes.proofs.PlaceLaws.{same_some}
use Rattle.play_primaries.specs.declared.clients.PrimaryClient.{PrimaryClient}
use Rattle.play_primaries.specs.Frames as primaries
use Rattle.play_primaries.specs.Owning as owning
use Rattle.play_primaries.specs.Staying.{PrimaryClientsStay}
use Rattle.play_primaries.specs.PlayReaders.Frames.{TakesNothing}
use Rattle.play_recoveries.specs.declared.faults.RecoveriesFault.{RecoveriesFault}
use Rattle.play_recoveries.specs.declared.faults.RecoveriesFault.TheVariants as fault
use Rattle.play_recoveries.specs.declared.recoveries.Recoveries.{Recoveries}
use Rattle.play_recoveries.specs.Faults.{of_primary, IsCaused}
use Rattle.play_recoveries.specs.Owning.{misses, misses_any, AreReached, Reaches, OwnIsLawful, OwnEnds, OwnShows}
use Rattle.play_recoveries.specs.Showing.{HasSeats, RecoveriesStand}
use Rattle.play_recoveries.proofs.HearLaws.{heard_stands}
use Rattle.play_recoveries.proofs.OwnLaws.{StepGiven, events_same, step_left}

-- MEMBERS THAT WEREN'T REACHED

-- The dial of the member at a place wasn't answered, though its node is told to run.
record IsMissed {I O : Type 0} (running : List Bool) (members : List NodeId) (lowers : List (Option (Conn I O))) : Type 0 where
  place : ℕ
  member : NodeId
  at : slice_get members place ≡ Some member
  none : slice_get lowers place ≡ Some None
  runs : runs_in running member.0 ≡ true

both_true : (a b : Bool) → (a && b) ≡ true → (a ≡ true) × (b ≡ true)
both_true true b e = (refl, e)
both_true false b e = cc

either_false : (a b : Bool) → (a || b) ≡ false → (a ≡ false) × (b ≡ false)
either_false true b e = cc
either_false false b e = (refl, e)

and_true : (a : Bool) → (a && true) ≡ a
and_true true = refl
and_true false = refl

none_so : {A : Type 0} (x : Option A) → is_none x ≡ true → x ≡ None
none_so None e = refl
none_so (Some a) e = cc

module _ {I O : Type 0} (running : List Bool) where
  missed : (members : List NodeId) (lowers : List (Option (Conn I O))) → misses_any running members lowers ≡ true → IsMissed running members lowers
  missed [] lowers e = cc
  missed (m ∷ members) [] e = cc
  missed (m ∷ members) (l ∷ lowers) e = by (misses running m l) refl (λ z. missed members lowers z)
    where
      by : (b : Bool) → misses running m l ≡ b → (misses_any running members lowers ≡ true → IsMissed running members lowers) → IsMissed running (m ∷ members) (l ∷ lowers)
      by true is rest =
          let both = both_true (runs_in running m.0) (is_none l) is in
          record { place = 0; member = m; at = refl; none = ap (λ x. Some x) (none_so l both.1); runs = both.0 }
      by false is rest =
          let h = rest (sym (ap (λ (b : Bool). b || misses_any running members lowers) is) ∙ e) in
          record { place = suc h.place; member = h.member; at = h.at; none = h.none; runs = h.runs }

  not_missed : (members : List NodeId) (lowers : List (Option (Conn I O))) → misses_any running members lowers ≡ false → (place : ℕ) (member : NodeId) → slice_get members place ≡ Some member → slice_get lowers place ≡ Some None → runs_in running member.0 ≡ false
  not_missed [] lowers e place member at none = cc
  not_missed (m ∷ members) [] e place member at none = cc
  not_missed (m ∷ members) (l ∷ lowers) e zero member at none =
      let first = (either_false (misses running m l) (misses_any running members lowers) e).0 in
      ap (λ (n : NodeId). runs_in running n.0) (sym (same_some m member at)) ∙ (sym (and_true (runs_in running m.0)) ∙ (sym (ap (λ x. runs_in running m.0 && is_none x) (same_some l None none)) ∙ first))
  not_missed (m ∷ members) (l ∷ lowers) e (suc place) member at none =
      not_missed members lowers (either_false (misses running m l) (misses_any running members lowers) e).1 place member at none

true_false : (b : Bool) → b ≡ true → b ≡ false → ⊥
true_false b x y = cc

none_port : {A : Type 0} (x : Option A) → is_some x ≡ true → x ≡ None → ⊥
none_port None e h = cc
none_port (Some a) e h = cc

-- a member that runs, and has a port, wasn't reached only where the roads' count rose
unreached : {R I O : Type 0} (r : roads.Ghosts R I O) (w : World) (member : NodeId) (road road' : R) → w.running member.0 ≡ true → is_some (dial_port member) ≡ true → IsUnreached r w member road road' → FaultsIncreased (r.faults road) (r.faults road')
unreached r w member road road' runs port (inl none) = absurd (none_port (dial_port member) port none)
unreached r w member road road' runs port (inr (inl off)) = absurd (true_false (w.running member.0) runs off)
unreached r w member road road' runs port (inr (inr rose)) = rose

-- FAULTS

begin_caused : {F R I O : Type 0} (f : files.Ghosts F) (r : roads.Ghosts R I O) (n n' : Nodes F I O) (next : ℕ) (road road' : R) (why : PrimaryFault) → IsBeginCause r next road road' why → IsCaused f r n n' road road' (of_primary why)
begin_caused f r n n' next road road' primary_fault.LinkFailed h = (h.risen.conn, h.risen.rose)
begin_caused f r n n' next road road' primary_fault.RoadsFailed h = h
begin_caused f r n n' next road road' primary_fault.Memory h = tt

own_caused : {F R I O : Type 0} (f : files.Ghosts F) (r : roads.Ghosts R I O) (w : World) (n n' : Nodes F I O) (p : Primary) (road road' : R) (why : PrimaryFault) → owning.IsOwnCause r w p road road' why → IsCaused f r n n' road road' (of_primary why)
own_caused f r w n n' (leads l) road road' primary_fault.LinkFailed h = (h.conn, h.rose)
own_caused f r w n n' (leads l) road road' primary_fault.RoadsFailed h = h
own_caused f r w n n' (leads l) road road' primary_fault.Memory h = tt
own_caused f r w n n' no_primary road road' why h = begin_caused f r n n' w.next_conn road road' why h
own_caused f r w n n' (was_told block told) road road' why h = begin_caused f r n n' w.next_conn road road' why h
own_caused f r w n n' (has_led end) road road' why h = begin_caused f r n n' w.next_conn road road' why h

-- THE CLAUSES

module _ {D F R I O : Type 0} (d : desk.Ghosts D) (f : files.Ghosts F) (r : roads.Ghosts R I O) (i : link_in.Ghosts I) (o : link_out.Ghosts O) where
  module _ (running : List Bool) (place : ℕ) (n n' : Nodes F I O) (old mid new : Recoveries I O) (c c' : PrimaryClient I O) (at : slice_get old.clients.items place ≡ Some c) (office office' : D) (road road' : R) where
    given_so : primaries.OwnStepsKeepOthers → primaries.OwnStepsKeepNodes → (w : World) → OwnIsLawful w c.recovery → StepGiven w c.recovery (run w (recovery_events w c.recovery))
    given_so others nodes w lawful =
        let t : Recovery = c.recovery in
        let same = events_same (w.primaries t.primary) t in
        let kept = others w t (all_answered t.members) in
        record {
          ordered = lawful.primary.ordered;
          placed = lawful.placed;
          events = recovery_events w t;
          is = refl;
          others = subst (λ (es : List Event). primaries.KeepsOthers w (run w es) t.primary) same kept.0;
          takes = subst (λ (es : List Event). TakesNothing w (run w es)) same kept.1;
          nodes = subst (λ (es : List Event). primaries.OwnKeepsNodes w (run w es) t.primary) same (nodes w t (all_answered t.members));
        }

    -- what the client's step makes of the world that is shown
    done : (lowers : Vec (Option (Conn I O))) → owning.OwnShows d r i o c c' office office' road road' (Ok lowers) → (w : World) (net : Net) → RecoveriesStand r i o w net road n old → OwnIsLawful w c.recovery → recovery_due w c.recovery ≡ true → d.office office ≡ Some w.office
        → owning.OwnDone d r i o w net c c' lowers.items office' road road'
    done lowers shows w net h lawful due office_is = shows w net (heard_stands f r i o w net n old road place c h at) office_is lawful.primary due

    stopped : (w : World) (lowers : List (Option (Conn I O))) → TellsRunning w running → misses_any running c.recovery.members lowers ≡ false → owning.OthersAreStopped w c.recovery.members lowers
    stopped w lowers tells all = λ j member at_member none. sym (tells member.0) ∙ not_missed running c.recovery.members lowers all j member at_member none

    ends_as : (lowers : Vec (Option (Conn I O))) (result : Result (Unit {0}) RecoveriesFault) → PrimaryClientsStay i o → primaries.OwnStepsKeepOthers → primaries.OwnStepsKeepNodes → mid.clients.items ≡ slice_set old.clients.items place c' → mid.servers ≡ old.servers → HasSeats c'.state → c'.recovery ≡ c.recovery → slice_get mid.clients.items place ≡ Some c'
        → owning.OwnShows d r i o c c' office office' road road' (Ok lowers) → Reaches i o running place lowers.items n n' mid new result
        → (w : World) (net : Net) → RecoveriesStand r i o w net road n old → OwnIsLawful w c.recovery → recovery_due w c.recovery ≡ true → TellsRunning w running → d.office office ≡ Some w.office
        → OwnEnds d f r i o w net c.recovery n n' old new office' road road' result
    ends_as lowers (Ok u) stay others nodes set same seats recovers mid_at shows reaches w net h lawful due tells office_is =
        let reached : AreReached i o running c.recovery lowers.items n n' mid new = subst (λ (t : Recovery). AreReached i o running t lowers.items n n' mid new) recovers (reaches c' mid_at) in
        let left = (done lowers shows w net h lawful due office_is).whole (stopped w lowers.items tells reached.all) in
        step_left d f r i o w net c.recovery (run w (recovery_events w c.recovery)) (given_so others nodes w lawful) c c' refl lowers.items office' road' left place n n' old mid new road running stay h at set same seats reached
    ends_as lowers (Err fault.RoadsFailed) stay others nodes set same seats recovers mid_at shows reaches w net h lawful due tells office_is =
        let x = missed running c.recovery.members lowers.items (subst (λ (t : Recovery). misses_any running t.members lowers.items ≡ true) recovers (reaches c' mid_at)) in
        let runs : w.running x.member.0 ≡ true = sym (tells x.member.0) ∙ x.runs in
        unreached r w x.member road road' runs (lawful.ports x.member runs) ((done lowers shows w net h lawful due office_is).unanswered x.place x.member x.at x.none)
    ends_as lowers (Err fault.LinkFailed) stay others nodes set same seats recovers mid_at shows reaches w net h lawful due tells office_is = absurd (clash reaches)
      where
        clash : fault.LinkFailed ≡ fault.Memory → ⊥
        clash e = cc
    ends_as lowers (Err (fault.FilesFailed node)) stay others nodes set same seats recovers mid_at shows reaches w net h lawful due tells office_is = absurd (clash node reaches)
      where
        clash : (node : NodeId) → fault.FilesFailed node ≡ fault.Memory → ⊥
        clash node e = cc
    ends_as lowers (Err fault.Memory) stay others nodes set same seats recovers mid_at shows reaches w net h lawful due tells office_is = tt

    pub own_reached : (lowers : Vec (Option (Conn I O))) (result : Result (Unit {0}) RecoveriesFault) → PrimaryClientsStay i o → primaries.OwnStepsKeepOthers → primaries.OwnStepsKeepNodes → mid.clients.items ≡ slice_set old.clients.items place c' → mid.servers ≡ old.servers → HasSeats c'.state → c'.recovery ≡ c.recovery → slice_get mid.clients.items place ≡ Some c'
        → owning.OwnShows d r i o c c' office office' road road' (Ok lowers) → Reaches i o running place lowers.items n n' mid new result → OwnShows d f r i o running place n n' old new office office' road road' result
    own_reached lowers result stay others nodes set same seats recovers mid_at shows reaches = λ w net a h at_a.
        subst (λ (y : PrimaryClient I O). OwnIsLawful w y.recovery → recovery_due w y.recovery ≡ true → TellsRunning w running → d.office office ≡ Some w.office → OwnEnds d f r i o w net y.recovery n n' old new office' road road' result)
        (same_some c a (sym at ∙ at_a)) (λ lawful due tells office_is. ends_as lowers result stay others nodes set same seats recovers mid_at shows reaches w net h lawful due tells office_is)

    pub own_failed : (why : PrimaryFault) → owning.OwnShows d r i o c c' office office' road road' (Err why) → OwnShows d f r i o running place n n' old new office office' road road' (Err (of_primary why))
    own_failed why shows = λ w net a h at_a.
        subst (λ (y : PrimaryClient I O). OwnIsLawful w y.recovery → recovery_due w y.recovery ≡ true → TellsRunning w running → d.office office ≡ Some w.office → OwnEnds d f r i o w net y.recovery n n' old new office' road road' (Err (of_primary why)))
        (same_some c a (sym at ∙ at_a)) (λ lawful due tells office_is. own_caused f r w n n' (w.primaries c.recovery.primary) road road' why (shows w net (heard_stands f r i o w net n old road place c h at) office_is lawful.primary due))
