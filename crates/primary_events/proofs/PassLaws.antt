-- Roads know the connections that they knew, and their count of faults never falls, whatever a primary's own step does with them, and what follows it.
use Rattle.std.proofs.Common.{◌≡◌, ◌≤◌, zero, suc, ℕ, Bool, true, false, List, [], length, refl, Option, Some, None, Result, Ok, Err, inl, inr, sym, ap, subst, arith}
use Rattle.std.specs.Prelude.{◌-◌}
use Rattle.std.specs.List.{list_any}
use Rattle.hd_base.specs.Faults.{FaultsIncreased}
use Rattle.hd_base.specs.declared.ends.RoadError.{RoadError}
use Rattle.hd_base.specs.declared.ends.RoadError.TheVariants as error
use Rattle.hd_base.specs.declared.links.LinkIn as link_in
use Rattle.hd_base.specs.declared.links.LinkOut as link_out
use Rattle.hd_base.specs.declared.numbers.ConnId.{ConnId}
use Rattle.hd_base.specs.declared.numbers.NodeId.{NodeId}
use Rattle.hd_base.specs.declared.roads.Roads as roads
use Rattle.std.specs.declared.alloc.AllocError.{AllocError}
use Rattle.block_recovery.specs.declared.links.Seat.{Seat}
use Rattle.block_recovery.specs.declared.links.Seat.TheVariants as seat
use Rattle.block_recovery.specs.declared.primary.Primary.{Primary}
use Rattle.block_recovery.specs.declared.primary.PrimaryStep.{PrimaryStep}
use Rattle.block_recovery.specs.Actions.{Held, Passes, Settles, SettlesAt, SettlesAll, keeps_at}
use Rattle.block_recovery.specs.Exchanging.{ExchangesLink, ExchangesAt, ExchangesEnded, ExchangesAll, BringsLink, BringsAt, BringsAll}
use Rattle.block_recovery.specs.Failing.{link_failed}
use Rattle.block_recovery.specs.Steps.{UpdatesEnd, OwnsBy, OwnsAs, LeadsOn}
use Rattle.name_core.specs.declared.desks.Desk as desks
use Rattle.recovery_core.specs.declared.primary.OwnStep.{OwnStep}
use Rattle.recovery_core.specs.declared.primary.OwnStep.TheVariants as own
use Rattle.recovery_core.specs.declared.standings.Standing.{Standing}
use Rattle.recovery_core.specs.Primaries.{PrimaryState, own_step}
use Rattle.client_events.specs.MemberEvents.Roads.{RoadsPass}
use Rattle.client_events.proofs.MemberEvents.KnownLaws.{known_on}
use Rattle.client_events.proofs.MemberEvents.SetupKnown.{pass_same, pass_brought, pass_on}
use Rattle.primary_events.specs.declared.faults.PrimaryFault.{PrimaryFault}
use Rattle.primary_events.specs.declared.faults.PrimaryFault.TheVariants as fault
use Rattle.primary_events.specs.Faults.{road_fault, IsRoadFault}
use Rattle.primary_events.specs.Updating.{Retires, Flushes}

module _ {D R I O : Type 0} (d : desks.Ghosts D) (r : roads.Ghosts R I O) (i : link_in.Ghosts I) (o : link_out.Ghosts O) where
  settles : (keeps : Bool) (link link' : Seat I O) (road road' : R) → Settles r i o keeps link link' road road' → RoadsPass r road road'
  settles true link link' road road' s = pass_same r i o road road' s.1
  settles false seat.Empty link' road road' s = pass_same r i o road road' s.1
  settles false seat.Lost link' road road' s = pass_same r i o road road' s.1
  settles false (seat.Open l) link' road road' s = pass_brought r i o s.gives.shut road road' s.gives.result s.gives.brings

  all_settle : (standings : List Standing) (k : ℕ) (a b : Held R I O) → Passes (SettlesAt r i o standings) k a b → RoadsPass r a.road b.road
  all_settle standings zero a b e = subst (λ (h : Held R I O). RoadsPass r a.road h.road) (sym e) (pass_same r i o a.road a.road refl)
  all_settle standings (suc k) a b q =
      pass_on r i o a.road q.0.road b.road (all_settle standings k a q.0 q.1.0) (settles (keeps_at standings k) q.1.1.before q.1.1.after q.0.road b.road q.1.1.is)

  pub settled : (standings : List Standing) (links links' : List (Seat I O)) (road road' : R) → SettlesAll r i o standings links links' road road' → RoadsPass r road road'
  settled standings links links' road road' s = all_settle standings (length links) (record { links = links; road = road }) (record { links = links'; road = road' }) s

  updated : (core : PrimaryState) (links links' : List (Seat I O)) (road road' : R) (sending : Result (Unit {0}) AllocError) (did : PrimaryStep) → UpdatesEnd r i o core links links' road road' sending did → RoadsPass r road road'
  updated core links links' road road' (Ok u) did s = settled core.standings links links' road road' s.0
  updated core links links' road road' (Err e) did s = settled [] links links' road road' s.0

  owned : (does : OwnStep) (core : PrimaryState) (members : List NodeId) (links links' : List (Seat I O)) (office office' : D) (road road' : R) (did : PrimaryStep) → OwnsBy d r i o does core members links links' office office' road road' did → RoadsPass r road road'
  owned own.Waits core members links links' office office' road road' did s = pass_same r i o road road' s.roads_same
  owned (own.Updates c) core members links links' office office' road road' did s = updated core s.1.held links' road road' s.1.sending did s.1.ends
  owned (own.Commits c) core members links links' office office' road road' did s = settled [] links links' road road' s.ends.0
  owned (own.Ends e) core members links links' office office' road road' did s = settled [] links links' road road' s.1.0

  led : (z z' : Option PrimaryState) (p p' : Primary I O) (office office' : D) (road road' : R) (did : PrimaryStep) → OwnsAs d r i o z z' p p' office office' road road' did → RoadsPass r road road'
  led None None p p' office office' road road' did s = pass_same r i o road road' s.roads_same
  led None (Some core') p p' office office' road road' did s = absurd s
  led (Some core) None p p' office office' road road' did s = absurd s
  led (Some core) (Some core') p p' office office' road road' did (inl u) = settled [] p.links.items p'.links.items road road' u.ends.0
  led (Some core) (Some core') p p' office office' road road' did (inr s) = owned (own_step core).does core' p.members p.links.items p'.links.items office office' road road' did s.does

  pub lead_passes : (p p' : Primary I O) (office office' : D) (road road' : R) (did : PrimaryStep) → LeadsOn d r i o p p' office office' road road' did → RoadsPass r road road'
  lead_passes p p' office office' road road' did s = led p.core p'.core p p' office office' road road' did s

module _ {R I O : Type 0} (r : roads.Ghosts R I O) (i : link_in.Ghosts I) (o : link_out.Ghosts O) where
  -- ENDS THAT ARE EXCHANGED

  pass_exchanged : (x y : Seat I O) (road road' : R) (result : Result (Unit {0}) RoadError) → ExchangesLink r i o None x y road road' result → RoadsPass r road road'
  pass_exchanged (seat.Open a) (seat.Open b) road road' result s = record { knows = λ c h. known_on (r.plain road) (r.plain road') c s.end.connections h; never_falls = s.end.cause.never_falls }
  pass_exchanged seat.Empty seat.Empty road road' result s = pass_same r i o road road' s.0
  pass_exchanged seat.Lost seat.Lost road road' result s = pass_same r i o road road' s.0
  pass_exchanged (seat.Open a) seat.Empty road road' result s = absurd s
  pass_exchanged (seat.Open a) seat.Lost road road' result s = absurd s
  pass_exchanged seat.Empty (seat.Open b) road road' result s = absurd s
  pass_exchanged seat.Empty seat.Lost road road' result s = absurd s
  pass_exchanged seat.Lost (seat.Open b) road road' result s = absurd s
  pass_exchanged seat.Lost seat.Empty road road' result s = absurd s

  all_exchanged : (k : ℕ) (a b : Held R I O) → Passes (ExchangesAt r i o None (Ok tt)) k a b → RoadsPass r a.road b.road
  all_exchanged zero a b e = subst (λ (h : Held R I O). RoadsPass r a.road h.road) (sym e) (pass_same r i o a.road a.road refl)
  all_exchanged (suc k) a b q = pass_on r i o a.road q.0.road b.road (all_exchanged k a q.0 q.1.0) (pass_exchanged q.1.1.before q.1.1.after q.0.road b.road (Ok tt) q.1.1.is)

  last_exchanged : (rest count : ℕ) (m b : Held R I O) (result : Result (Unit {0}) RoadError) → ExchangesEnded r i o None rest count m b result → RoadsPass r m.road b.road
  last_exchanged rest count m b (Ok u) e = pass_same r i o m.road b.road (ap (λ (h : Held R I O). h.road) e.0)
  last_exchanged rest count m b (Err why) e = pass_exchanged e.before e.after m.road b.road (Err why) e.is

  pub exchanges_pass : (links links' : List (Seat I O)) (road road' : R) (result : Result (Unit {0}) RoadError) → ExchangesAll r i o None links links' road road' result → RoadsPass r road road'
  exchanges_pass links links' road road' result x =
      pass_on r i o road x.middle.road road' (all_exchanged x.count (record { links = links; road = road }) x.middle x.passes)
      (last_exchanged (length links - x.count) x.count x.middle (record { links = links'; road = road' }) result x.ends)

  -- WHY THEY FAIL

  rises_from : (a b n : ℕ) → a ≤ b → FaultsIncreased b n → FaultsIncreased a n
  rises_from a b n h q = omega arith

  fault_of : (x y : Seat I O) (road road' : R) (why : RoadError) → ExchangesLink r i o None x y road road' (Err why) → IsRoadFault (r.faults road) (r.faults road') (road_fault why)
  fault_of (seat.Open a) (seat.Open b) road road' error.Failed s = s.end.cause.failed refl
  fault_of (seat.Open a) (seat.Open b) road road' error.Memory s = tt
  fault_of (seat.Open a) (seat.Open b) road road' error.NotListening s = absurd (s.end.cause.no_dial refl)
  fault_of seat.Empty seat.Empty road road' why s = absurd (never why s.1) where
    never : (e : RoadError) → ◌≡◌ {A = Result (Unit {0}) RoadError} (Err e) (Ok tt) → ⊥
    never e h = cc
  fault_of seat.Lost seat.Lost road road' why s = absurd (never why s.1) where
    never : (e : RoadError) → ◌≡◌ {A = Result (Unit {0}) RoadError} (Err e) (Ok tt) → ⊥
    never e h = cc
  fault_of (seat.Open a) seat.Empty road road' why s = absurd s
  fault_of (seat.Open a) seat.Lost road road' why s = absurd s
  fault_of seat.Empty (seat.Open b) road road' why s = absurd s
  fault_of seat.Empty seat.Lost road road' why s = absurd s
  fault_of seat.Lost (seat.Open b) road road' why s = absurd s
  fault_of seat.Lost seat.Empty road road' why s = absurd s

  fault_from : (a b n : ℕ) (why : PrimaryFault) → a ≤ b → IsRoadFault b n why → IsRoadFault a n why
  fault_from a b n fault.RoadsFailed h q = rises_from a b n h q
  fault_from a b n fault.Memory h q = tt
  fault_from a b n fault.LinkFailed h q = absurd q

  -- An exchange that failed ends with a fault that has its cause.
  pub exchange_fault : (conns : List (Option ConnId)) (old new : Primary I O) (road road' : R) (why : RoadError) → ExchangesAll r i o None old.links.items new.links.items road road' (Err why) → Flushes r i o conns old new road road' (Err (road_fault why))
  exchange_fault conns old new road road' why x =
      as_flush (road_fault why) (fault_from (r.faults road) (r.faults x.middle.road) (r.faults road') (road_fault why)
      (all_exchanged x.count (record { links = old.links.items; road = road }) x.middle x.passes).never_falls
      (fault_of x.ends.before x.ends.after x.middle.road road' why x.ends.is))
    where
      as_flush : (f : PrimaryFault) → IsRoadFault (r.faults road) (r.faults road') f → Flushes r i o conns old new road road' (Err f)
      as_flush fault.RoadsFailed h = h
      as_flush fault.Memory h = tt
      as_flush fault.LinkFailed h = absurd h

  -- ENDS THAT ARE BROUGHT BACK

  pass_link : (x y : Seat I O) (road road' : R) → BringsLink r i o x y road road' → RoadsPass r road road'
  pass_link seat.Empty y road road' s = pass_same r i o road road' s.1
  pass_link seat.Lost y road road' s = pass_same r i o road road' s.1
  pass_link (seat.Open l) y road road' s = pass_brought r i o l.end road road' s.result s.brings

  all_brought : (k : ℕ) (a b : Held R I O) → Passes (BringsAt r i o) k a b → RoadsPass r a.road b.road
  all_brought zero a b e = subst (λ (h : Held R I O). RoadsPass r a.road h.road) (sym e) (pass_same r i o a.road a.road refl)
  all_brought (suc k) a b q = pass_on r i o a.road q.0.road b.road (all_brought k a q.0 q.1.0) (pass_link q.1.1.before q.1.1.after q.0.road b.road q.1.1.is)

  pub brings_pass : (links links' : List (Seat I O)) (road road' : R) → BringsAll r i o links links' road road' → RoadsPass r road road'
  brings_pass links links' road road' x = all_brought (length links) (record { links = links; road = road }) (record { links = links'; road = road' }) x

  -- Where a link had failed all ends were brought back.
  pub retired_flush : (conns : List (Option ConnId)) (old new : Primary I O) (road road' : R) (why : PrimaryFault) → list_any link_failed old.links.items ≡ true → Retires r i o old new road road' why → Flushes r i o conns old new road road' (Err why)
  retired_flush conns old new road road' fault.LinkFailed fails h = inl (record { fails = fails; brings = h })
  retired_flush conns old new road road' fault.RoadsFailed fails h = absurd h
  retired_flush conns old new road road' fault.Memory fails h = tt
