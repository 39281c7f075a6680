-- Roads know the connections that they knew, and their count of faults never falls, whatever a primary does with them that begins.
use Rattle.std.proofs.Common.{ℕ, zero, suc, List, [], ◌∷◌, ◌++◌, length, All, Option, Some, None, Result, Ok, Err, inr, refl, sym, ap, subst, arith}
use Rattle.std.proofs.lemmas.List.Elements.{All-weaker, All-push}
use Rattle.std.specs.Prelude.{◌-◌, option_map, slice_get}
use Rattle.std.specs.declared.alloc.AllocError.{AllocError}
use Rattle.hd_base.specs.Channels.{Plain, with_dial}
use Rattle.hd_base.specs.Ends.{IsKnown}
use Rattle.hd_base.specs.RoadCauses.{RoadCause}
use Rattle.hd_base.specs.declared.ends.Conn.{Conn}
use Rattle.hd_base.specs.declared.ends.RoadError.{RoadError}
use Rattle.hd_base.specs.declared.ends.RoadError.TheVariants as error
use Rattle.hd_base.specs.declared.numbers.BlockId.{BlockId}
use Rattle.hd_base.specs.declared.numbers.NodeId.{NodeId}
use Rattle.hd_base.specs.declared.links.LinkIn as link_in
use Rattle.hd_base.specs.declared.links.LinkOut as link_out
use Rattle.hd_base.specs.declared.roads.Roads as roads
use Rattle.block_recovery.specs.declared.links.Seat.{Seat}
use Rattle.block_recovery.specs.declared.links.Seat.TheVariants as seat
use Rattle.block_recovery.specs.declared.primary.Primary.{Primary}
use Rattle.block_recovery.specs.declared.primary.PrimaryStep.{PrimaryStep}
use Rattle.block_recovery.specs.Actions.{Held, Passes, DialsNode, DialsInto, DialsAt, DialsEnd, DialsAll}
use Rattle.block_recovery.specs.Beginning.{StartsWith, StartsAs, StartsSo}
use Rattle.block_recovery.specs.Dialling.{dial_port, LinkIsKnown, DialsPort, DialsAs}
use Rattle.link_pieces.specs.Roads.{IsDialled}
use Rattle.name_core.specs.declared.calls.Begun.{Begun}
use Rattle.name_core.specs.declared.calls.OfficeAnswer.{OfficeAnswer}
use Rattle.name_core.specs.declared.calls.OfficeAnswer.TheVariants as answer
use Rattle.name_core.specs.declared.desks.Desk as desks
use Rattle.name_core.specs.declared.faults.OfficeFault.{OfficeFault}
use Rattle.recovery_core.specs.declared.primary.Recovered.{Recovered}
use Rattle.recovery_core.specs.Primaries.{PrimaryState}
use Rattle.client_events.specs.MemberEvents.Roads.{RoadsPass}
use Rattle.client_events.proofs.MemberEvents.SetupKnown.{pass_same, pass_kept, pass_on}
use Rattle.primary_events.specs.Faults.{road_fault}
use Rattle.primary_events.specs.Beginning.{Lowers, TakesLower, LowerIsKnown, AcceptFails}
use Rattle.primary_events.proofs.PassLaws.{settled}

-- A port that was dialled is a connection more.
known_more : (plain : Option Plain) (port c : ℕ) → IsKnown plain c → IsKnown (option_map (λ p. with_dial p port) plain) c
known_more None port c h = tt
known_more (Some p) port c h = omega (arith, h)

module _ {D R I O : Type 0} (d : desks.Ghosts D) (r : roads.Ghosts R I O) (i : link_in.Ghosts I) (o : link_out.Ghosts O) where
  pass_answered : (port : ℕ) (road road' : R) (e : Conn I O) → IsDialled r i o port road road' e → RoadsPass r road road'
  pass_answered port road road' e x = record { knows = λ c h. subst (λ (p : Option Plain). IsKnown p c) (sym x.plain) (known_more (r.plain road) port c h); never_falls = x.never_falls }

  by_port : (port : ℕ) (after : Seat I O) (road road' : R) → DialsPort r i o port road road' (Ok after) → RoadsPass r road road'
  by_port port (seat.Open l) road road' h = pass_answered port road road' l.end h.dialled
  by_port port seat.Empty road road' h = pass_kept r i o road road' h.kept
  by_port port seat.Lost road road' h = absurd h

  by_ports : (q : Option ℕ) (after : Seat I O) (road road' : R) → DialsAs r i o q road road' (Ok after) → RoadsPass r road road'
  by_ports None after road road' h = pass_same r i o road road' h.0
  by_ports (Some port) after road road' h = by_port port after road road' h

  by_node : (q : Option NodeId) (after : Seat I O) (road road' : R) → DialsNode r i o q road road' after → RoadsPass r road road'
  by_node None after road road' h = pass_same r i o road road' h.0
  by_node (Some node) after road road' h = by_ports (dial_port node) after road road' h

  into : (q : Option NodeId) (before after : Seat I O) (road road' : R) (result : Result (Unit {0}) AllocError) → DialsInto r i o q before after road road' result → RoadsPass r road road'
  into q before after road road' (Ok u) h = by_node q after road road' h
  into q before after road road' (Err e) h = pass_kept r i o road road' h.1

  all_dial : (members : List NodeId) (k : ℕ) (a b : Held R I O) → Passes (DialsAt r i o members (Ok tt)) k a b → RoadsPass r a.road b.road
  all_dial members zero a b e = subst (λ (h : Held R I O). RoadsPass r a.road h.road) (sym e) (pass_same r i o a.road a.road refl)
  all_dial members (suc k) a b q =
      pass_on r i o a.road q.0.road b.road (all_dial members k a q.0 q.1.0) (into (slice_get members k) q.1.1.before q.1.1.after q.0.road b.road (Ok tt) q.1.1.is)

  last_dials : (members : List NodeId) (left count : ℕ) (m b : Held R I O) (result : Result (Unit {0}) AllocError) → DialsEnd r i o members left count m b result → RoadsPass r m.road b.road
  last_dials members left count m b (Ok u) e = pass_same r i o m.road b.road (ap (λ (h : Held R I O). h.road) e.0)
  last_dials members left count m b (Err why) e = into (slice_get members count) e.before e.after m.road b.road (Err why) e.is

  pub dials_pass : (members : List NodeId) (links links' : List (Seat I O)) (road road' : R) (result : Result (Unit {0}) AllocError) → DialsAll r i o members links links' road road' result → RoadsPass r road road'
  dials_pass members links links' road road' result x =
      pass_on r i o road x.middle.road road' (all_dial members x.count (record { links = links; road = road }) x.middle x.passes)
      (last_dials members (length links - x.count) x.count x.middle (record { links = links'; road = road' }) result x.ends)

  started_with : (block : BlockId) (begun : Begun) (members : List NodeId) (links links' : List (Seat I O)) (road road' : R) (result : Result PrimaryState Recovered) → StartsWith r i o block begun members links links' road road' result → RoadsPass r road road'
  started_with block begun members links links' road road' (Ok core) h = dials_pass members links h.held road road' (Ok tt) h.dials
  started_with block begun members links links' road road' (Err end) h =
      pass_on r i o road h.1.first.road road' (dials_pass members links h.1.first.links road h.1.first.road h.1.dialled h.1.dials) (settled d r i o [] h.1.held links' h.1.first.road road' h.1.settles)

  started_as : (said : Result OfficeAnswer OfficeFault) (block : BlockId) (members : List NodeId) (links links' : List (Seat I O)) (road road' : R) (result : Result PrimaryState Recovered) → StartsAs r i o said block members links links' road road' result → RoadsPass r road road'
  started_as (Ok (answer.Begun begun)) block members links links' road road' result h = started_with block begun members links links' road road' result h
  started_as (Ok other) block members links links' road road' result h = absurd h
  started_as (Err fault) block members links links' road road' result h = pass_same r i o road road' h.1

  -- The first step.
  pub start_passes : (p p' : Primary I O) (office office' : D) (road road' : R) (did : PrimaryStep) → StartsSo d r i o p p' office office' road road' did → RoadsPass r road road'
  start_passes p p' office office' road road' did s = started_as s.starts.said p.block p.members p.links.items p'.links.items road road' s.begun s.starts.starts

module _ {R I O : Type 0} (r : roads.Ghosts R I O) (i : link_in.Ghosts I) (o : link_out.Ghosts O) where
  -- The dials that were accepted.
  pub lowers_pass : (ports : List (Option ℕ)) (k : ℕ) (a b : Lowers R I O) → Passes (TakesLower r i o ports) k a b → RoadsPass r a.road b.road
  lowers_pass ports zero a b e = subst (λ (h : Lowers R I O). RoadsPass r a.road h.road) (sym e) (pass_same r i o a.road a.road refl)
  lowers_pass ports (suc k) a b q = pass_on r i o a.road q.0.road b.road (lowers_pass ports k a q.0 q.1.0) q.1.1.pass

  -- Roads that pass know the ends that they knew.
  link_stays : (road road' : R) → RoadsPass r road road' → (x : Seat I O) → LinkIsKnown (r.plain road) x → LinkIsKnown (r.plain road') x
  link_stays road road' p (seat.Open l) h = p.knows l.end.id.0 h
  link_stays road road' p seat.Empty h = tt
  link_stays road road' p seat.Lost h = tt

  pub links_stay : (links : List (Seat I O)) (road road' : R) → RoadsPass r road road' → All (LinkIsKnown (r.plain road)) links → All (LinkIsKnown (r.plain road')) links
  links_stay links road road' p = All-weaker (LinkIsKnown (r.plain road)) (LinkIsKnown (r.plain road')) (link_stays road road' p) links

  lower_stays : (road road' : R) → RoadsPass r road road' → (x : Option (Conn I O)) → LowerIsKnown (r.plain road) x → LowerIsKnown (r.plain road') x
  lower_stays road road' p None h = tt
  lower_stays road road' p (Some y) h = p.knows y.id.0 h

  -- So they know the lower ends so far, and one more.
  pub lowers_stay : (lowers : List (Option (Conn I O))) (lower : Option (Conn I O)) (road road' : R) → RoadsPass r road road' → All (LowerIsKnown (r.plain road)) lowers → LowerIsKnown (r.plain road') lower → All (LowerIsKnown (r.plain road')) (lowers ++ lower ∷ [])
  lowers_stay lowers lower road road' p all here =
      All-push (LowerIsKnown (r.plain road')) lowers lower (All-weaker (LowerIsKnown (r.plain road)) (LowerIsKnown (r.plain road')) (lower_stays road road' p) lowers all) here

  -- WHY A DIAL ISN'T ACCEPTED

  pub unaccepted : (port : ℕ) (road road' : R) (why : RoadError) → RoadCause {T = Option (Conn I O)} (r.faults road) (r.faults road') (Err why) → AcceptFails r (Some (Some port)) road road' (road_fault why)
  unaccepted port road road' error.Failed c = inr (c.failed refl)
  unaccepted port road road' error.Memory c = tt
  unaccepted port road road' error.NotListening c = absurd (c.no_dial refl)
