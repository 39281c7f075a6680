-- Each fault of a member's event has its cause.
use Rattle.std.proofs.Common.{◌≡◌, inl, inr, ◌≤◌, ◌+◌, ◌-◌, ◌^◌, ℕ, Bool, true, List, Option, Some, None, Result, Ok, Err, min, refl, sym, ap, ◌∙◌, subst, arith}
use Rattle.hd_base.specs.Faults.{FaultsIncreased}
use Rattle.hd_base.specs.Links.{Inbox}
use Rattle.hd_base.specs.Ends.{has_failed}
use Rattle.hd_base.specs.declared.ends.Conn.{Conn}
use Rattle.hd_base.specs.declared.ends.RoadError.{RoadError}
use Rattle.hd_base.specs.declared.ends.RoadError.TheVariants as error
use Rattle.hd_base.specs.declared.files.Files as files
use Rattle.hd_base.specs.declared.links.LinkIn as link_in
use Rattle.hd_base.specs.declared.links.LinkOut as link_out
use Rattle.hd_base.specs.declared.numbers.ConnId.{ConnId}
use Rattle.hd_base.specs.declared.numbers.Receipt.{Receipt}
use Rattle.hd_base.specs.declared.roads.Roads as roads
use Rattle.hd_base.specs.RoadCauses.{RoadCause}
use Rattle.pipe_member.specs.ReplicaFiles.BookState.{BookState}
use Rattle.pipe_member.specs.declared.member.Member.{Member}
use Rattle.pipe_member.specs.declared.stepped.Stepped.{Stepped}
use Rattle.pipe_member.specs.declared.stepped.Stepped.TheVariants as stepped
use Rattle.pipe_member.specs.Exchanges.{ExchangesMirror, ExchangesBoth, BringsBoth}
use Rattle.road_traffic.specs.Showing.{Net}
use Rattle.member_events.specs.declared.faults.MemberFault.{MemberFault}
use Rattle.member_events.specs.declared.faults.MemberFault.TheVariants as fault
use Rattle.member_events.specs.Faults.{road_fault, IsRoadFault, HasRisen, IsCaused}
use Rattle.member_events.specs.Steps.{IsLost, IsPlaced}
use Rattle.member_events.proofs.CauseLaws.{upper_risen, mirror_risen}
use Rattle.member_events.proofs.EndLaws.{MirrorAt}
use Rattle.member_events.proofs.KnownLaws.{SameMirror}
use Rattle.member_events.proofs.LostLaws.{MirrorFailed}

-- EXCHANGES THAT FAILED

pub same_count : (n : ℕ) → n ≤ n
same_count n = omega arith

pub less_then : (x y z : ℕ) → x ≤ y → y ≤ z → x ≤ z
less_then x y z a b = omega arith

pub rises_from : (before road now : ℕ) → before ≤ road → FaultsIncreased road now → FaultsIncreased before now
rises_from before road now h k = lower before road now h k
  where
    lower : (a b n : ℕ) → a ≤ b → min (b + 1) (2 ^ 64 - 1) ≤ n → min (a + 1) (2 ^ 64 - 1) ≤ n
    lower a b n h k = omega arith

-- what an exchange's error means
by_cause : (before now : ℕ) (why : RoadError) → RoadCause {T = Unit {0}} before now (Err why) → IsRoadFault before now (road_fault why)
by_cause before now error.Failed c = c.failed refl
by_cause before now error.Memory c = tt
by_cause before now error.NotListening c = absurd (c.no_dial refl)

fault_from : (before road now : ℕ) (why : MemberFault) → before ≤ road → IsRoadFault road now why → IsRoadFault before now why
fault_from before road now fault.RoadsFailed h k = rises_from before road now h k
fault_from before road now fault.Memory h k = tt
fault_from before road now fault.LinkFailed h k = k
fault_from before road now fault.FilesFailed h k = k

module _ {R I O : Type 0} (r : roads.Ghosts R I O) (i : link_in.Ghosts I) (o : link_out.Ghosts O) where
  mirror_fault : (take : Option ConnId) (old new : Option (Conn I O)) (road middle road' : R) (u : Unit {0}) (why : RoadError) → r.faults road ≤ r.faults middle → ExchangesMirror r i o take old new middle road' (Ok u) (Err why) → IsRoadFault (r.faults road) (r.faults road') (road_fault why)
  mirror_fault take None None road middle road' u why h x = cc (x.1)
  mirror_fault take None (Some new) road middle road' u why h x = absurd x
  mirror_fault take (Some old) None road middle road' u why h x = absurd x
  mirror_fault take (Some old) (Some new) road middle road' u why h x = fault_from (r.faults road) (r.faults middle) (r.faults road') (road_fault why) h (by_cause (r.faults middle) (r.faults road') why x.cause)

  fault_by : (take : Option ConnId) (old new : Member I O) (road middle road' : R) (first : Result (Unit {0}) RoadError) (why : RoadError) → RoadCause (r.faults road) (r.faults middle) first → ExchangesMirror r i o take old.mirror new.mirror middle road' first (Err why) → IsRoadFault (r.faults road) (r.faults road') (road_fault why)
  fault_by take old new road middle road' (Err w) why c x =
      let same : why ≡ w = cc (x.2) in
      subst (λ (z : R). IsRoadFault (r.faults road) (r.faults z) (road_fault why)) (sym x.1) (subst (λ (e : RoadError). IsRoadFault (r.faults road) (r.faults middle) (road_fault e)) (sym same) (by_cause (r.faults road) (r.faults middle) w c))
  fault_by take old new road middle road' (Ok u) why c x = mirror_fault take old.mirror new.mirror road middle road' u why c.never_falls x

  -- An exchange of both ends that failed: the roads' count rose, or memory ran out.
  pub exchange_fault : (take : Option ConnId) (old new : Member I O) (road road' : R) (why : RoadError) → ExchangesBoth r i o take old new road road' (Err why) → IsRoadFault (r.faults road) (r.faults road') (road_fault why)
  exchange_fault take old new road road' why x = fault_by take old new road x.middle road' x.first why x.upper.cause x.lower

  mirror_never : (take : Option ConnId) (old new : Option (Conn I O)) (middle road' : R) (u : Unit {0}) → ExchangesMirror r i o take old new middle road' (Ok u) (Ok tt) → r.faults middle ≤ r.faults road'
  mirror_never take None None middle road' u x = subst (λ (z : R). r.faults middle ≤ r.faults z) (sym x.0) (same_count (r.faults middle))
  mirror_never take None (Some new) middle road' u x = absurd x
  mirror_never take (Some old) None middle road' u x = absurd x
  mirror_never take (Some old) (Some new) middle road' u x = x.cause.never_falls

  never_by : (take : Option ConnId) (old new : Member I O) (road middle road' : R) (first : Result (Unit {0}) RoadError) → RoadCause (r.faults road) (r.faults middle) first → ExchangesMirror r i o take old.mirror new.mirror middle road' first (Ok tt) → r.faults road ≤ r.faults road'
  never_by take old new road middle road' (Err why) c x = cc (x.2)
  never_by take old new road middle road' (Ok u) c x = less_then (r.faults road) (r.faults middle) (r.faults road') c.never_falls (mirror_never take old.mirror new.mirror middle road' u x)

  pub exchange_never : (take : Option ConnId) (old new : Member I O) (road road' : R) → ExchangesBoth r i o take old new road road' (Ok tt) → r.faults road ≤ r.faults road'
  exchange_never take old new road road' x = never_by take old new road x.middle road' x.first x.upper.cause x.lower

-- STEPS THAT FAILED

pub risen_above : (risen : ℕ → Bool) (c : ℕ) (mirror : Option ℕ) → risen c ≡ true → HasRisen risen c mirror
risen_above risen c None h = h
risen_above risen c (Some d) h = inl h

module _ {F R I O : Type 0} (f : files.Ghosts F) (r : roads.Ghosts R I O) (i : link_in.Ghosts I) (o : link_out.Ghosts O) (c : ℕ) (mirror : Option ℕ) (book book' : BookState F) where
  -- a member of which a link failed was brought back
  pub lost_caused : (first road road' : R) (m : Member I O) (why : MemberFault) → (BringsBoth r i o m road road' (Ok tt) → HasRisen (r.risen road') c mirror) → IsLost r i o m road road' why → IsCaused f r c mirror book book' first road' why
  lost_caused first road road' m fault.LinkFailed rises h = rises h
  lost_caused first road road' m fault.Memory rises h = tt
  lost_caused first road road' m fault.RoadsFailed rises h = absurd h
  lost_caused first road road' m fault.FilesFailed rises h = absurd h

  road_caused : (first road road' : R) (why : MemberFault) → r.faults first ≤ r.faults road → IsRoadFault (r.faults road) (r.faults road') why → IsCaused f r c mirror book book' first road' why
  road_caused first road road' fault.RoadsFailed h k = rises_from (r.faults first) (r.faults road) (r.faults road') h k
  road_caused first road road' fault.Memory h k = tt
  road_caused first road road' fault.LinkFailed h k = absurd k
  road_caused first road road' fault.FilesFailed h k = absurd k

  pub exchange_caused : (road road' : R) (why : MemberFault) → IsRoadFault (r.faults road) (r.faults road') why → IsCaused f r c mirror book book' road road' why
  exchange_caused road road' why k = road_caused road road road' why (same_count (r.faults road)) k

  memory_caused : (first road' : R) (why : MemberFault) → why ≡ fault.Memory → IsCaused f r c mirror book book' first road' why
  memory_caused first road' why is = subst (λ (x : MemberFault). IsCaused f r c mirror book book' first road' x) (sym is) tt

  -- What follows a step that failed, or couldn't be followed.
  pub placed_caused : (first road road' : R) (m : Member I O) (ended : Stepped) (why : MemberFault) → r.faults first ≤ r.faults road → m.upstream.id.0 ≡ c
      → ((receipt : Option Receipt) → ended ≡ stepped.LinkFailed receipt → has_failed i o m.upstream ≡ true) → ((receipt : Receipt) → ended ≡ stepped.File receipt → FaultsIncreased (f.faults book.drawer) (f.faults book'.drawer))
      → IsPlaced r i o ended m road road' (Err why) → IsCaused f r c mirror book book' first road' why
  placed_caused first road road' m (stepped.LinkFailed receipt) why h id link file p =
      lost_caused first road road' m why (λ b. risen_above (r.risen road') c mirror (subst (λ (n : ℕ). r.risen road' n ≡ true) id (upper_risen r i o m road road' b (link receipt refl)))) p
  placed_caused first road road' m (stepped.File receipt) why h id link file p = subst (λ (x : MemberFault). IsCaused f r c mirror book book' first road' x) (sym p) (file receipt refl)
  placed_caused first road road' m stepped.Memory why h id link file p = memory_caused first road' why p
  placed_caused first road road' m (stepped.Shut receipt) why h id link file p = memory_caused first road' why p
  placed_caused first road road' m (stepped.Moved receipt) why h id link file p = road_caused first road road' why h p
  placed_caused first road road' m stepped.NotReady why h id link file p = road_caused first road road' why h p

-- a mirror's connection counts as one that failed
module _ {R I O : Type 0} (r : roads.Ghosts R I O) (i : link_in.Ghosts I) (o : link_out.Ghosts O) where
  pub risen_below : (c : ℕ) (mirror : Option ℕ) (net : Net) (shut : Bool) (extra : List (List ℕ)) (inbox : Inbox) (m : Member I O) (old e : Option (Conn I O)) (road road' : R) → MirrorAt i o net shut extra inbox mirror old → SameMirror old e → m.mirror ≡ e → MirrorFailed i o e → BringsBoth r i o m road road' (Ok tt) → HasRisen (r.risen road') c mirror
  risen_below c mirror net shut extra inbox m old None road road' at same is failed b = absurd failed
  risen_below c None net shut extra inbox m None (Some e) road road' at same is failed b = absurd same
  risen_below c None net shut extra inbox m (Some old) (Some e) road road' at same is failed b = absurd at
  risen_below c (Some d) net shut extra inbox m None (Some e) road road' at same is failed b = absurd at
  risen_below c (Some d) net shut extra inbox m (Some old) (Some e) road road' at same is failed b =
      inr (subst (λ (n : ℕ). r.risen road' n ≡ true) (ap (λ (y : ConnId). y.0) same ∙ at.id) (mirror_risen r i o m e road road' is b failed))
