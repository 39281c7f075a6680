-- Each fault of an event of a read that is served has its cause.
use Rattle.std.proofs.Common.{◌≡◌, ℕ, true, Err, refl, sym, subst}
use Rattle.hd_base.specs.Ends.{has_failed}
use Rattle.hd_base.specs.RoadCauses.{RoadCause}
use Rattle.hd_base.specs.declared.ends.Conn.{Conn}
use Rattle.hd_base.specs.declared.ends.RoadError.{RoadError}
use Rattle.hd_base.specs.declared.ends.RoadError.TheVariants as error
use Rattle.hd_base.specs.declared.files.Files as files
use Rattle.hd_base.specs.declared.links.LinkIn as link_in
use Rattle.hd_base.specs.declared.links.LinkOut as link_out
use Rattle.hd_base.specs.declared.roads.Roads as roads
use Rattle.member_events.specs.ReplicaFiles.BookState.{BookState}
use Rattle.member_events.proofs.CauseLaws.{one_risen}
use Rattle.serving_events.specs.declared.faults.ServeFault.{ServeFault}
use Rattle.serving_events.specs.declared.faults.ServeFault.TheVariants as fault
use Rattle.serving_events.specs.Faults.{road_fault, IsRoadFault, IsCaused, IsCausedInRequest}
use Rattle.serving_events.specs.Steps.{IsLost}

-- what an exchange's error means
pub by_cause : (before now : ℕ) (why : RoadError) → RoadCause {T = Unit {0}} before now (Err why) → IsRoadFault before now (road_fault why)
by_cause before now error.Failed c = c.failed refl
by_cause before now error.Memory c = tt
by_cause before now error.NotListening c = absurd (c.no_dial refl)

module _ {F R I O : Type 0} (f : files.Ghosts F) (r : roads.Ghosts R I O) (i : link_in.Ghosts I) (o : link_out.Ghosts O) (c : ℕ) (book : BookState F) (road road' : R) where
  pub memory_caused : (why : ServeFault) → why ≡ fault.Memory → IsCausedInRequest f r c book road road' why
  memory_caused why is = subst (λ (x : ServeFault). IsCausedInRequest f r c book road road' x) (sym is) tt

  pub road_caused : (why : ServeFault) → IsRoadFault (r.faults road) (r.faults road') why → IsCausedInRequest f r c book road road' why
  road_caused fault.RoadsFailed h = h
  road_caused fault.Memory h = tt
  road_caused fault.LinkFailed h = absurd h
  road_caused fault.BytesMissing h = h

  -- an end whose link failed was brought back
  pub lost_caused : (e : Conn I O) (why : ServeFault) → e.id.0 ≡ c → has_failed i o e ≡ true → IsLost r i o e road road' why → IsCausedInRequest f r c book road road' why
  lost_caused e fault.LinkFailed id failed h = subst (λ (n : ℕ). r.risen road' n ≡ true) id (one_risen r i o e road road' h failed)
  lost_caused e fault.Memory id failed h = tt
  lost_caused e fault.RoadsFailed id failed h = absurd h
  lost_caused e fault.BytesMissing id failed h = h

  pub request_caused : (why : ServeFault) → IsCausedInRequest f r c book road road' why → IsCaused f r c book road road' why
  request_caused fault.RoadsFailed h = h
  request_caused fault.Memory h = tt
  request_caused fault.LinkFailed h = h
  request_caused fault.BytesMissing h = absurd h
