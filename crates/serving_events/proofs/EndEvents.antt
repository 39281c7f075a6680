-- The end of a read that is served takes what stands next: the roads show the world in which it has ended.
use Rattle.std.proofs.Common.{◌≡◌, ℕ, Bool, true, false, [], Some, None, Result, Ok, Err, refl, sym, ap, ◌∙◌, subst}
use Rattle.hd_base.specs.Links.{Inbox}
use Rattle.hd_base.specs.declared.ends.Conn.{Conn}
use Rattle.hd_base.specs.declared.links.LinkIn as link_in
use Rattle.hd_base.specs.declared.links.LinkOut as link_out
use Rattle.hd_base.specs.declared.numbers.ConnId.{ConnId}
use Rattle.hd_base.specs.declared.roads.Roads as roads
use Rattle.link_pieces.specs.Roads.{names, ExchangesEnd}
use Rattle.visible_read.specs.ReadCore.Servings.{ServingState}
use Rattle.road_traffic.specs.Showing.{Net}
use Rattle.road_traffic.proofs.TrafficLemmas.{same-itself}
use Rattle.member_events.specs.World.Event.{Event}
use Rattle.member_events.specs.World.Event.TheVariants as event
use Rattle.member_events.specs.World.Worlds.{World, apply}
use Rattle.member_events.specs.World.Connections.{Next, down_taken}
use Rattle.member_events.specs.World.Nodes.{closing}
use Rattle.member_events.specs.World.Events.{outcome, happens}
use Rattle.member_events.specs.WorldNets.Nets.{held_by, inbox_for, is_over}
use Rattle.member_events.specs.WorldNets.Steps.{taken_net}
use Rattle.member_events.proofs.WorldNets.FlushingLemmas.{closing-sends}
use Rattle.member_events.proofs.WorldNets.StepLemmas.{taken-net, taken-over}
use Rattle.member_events.specs.Beginning.{Closes}
use Rattle.member_events.proofs.EndLaws.{HeldAt, RoadsAt, end_held, end_passes}
use Rattle.member_events.proofs.NetLaws.{other_passed}
use Rattle.member_events.proofs.WorldLaws.{taken_same}
use Rattle.serving_events.specs.declared.faults.ServeFault.{ServeFault}
use Rattle.serving_events.specs.declared.faults.ServeFault.TheVariants as fault
use Rattle.serving_events.specs.declared.steps.ServedRead.{ServedRead}
use Rattle.serving_events.specs.Ends.{EndStands, ReadEnds, EndShows}
use Rattle.serving_events.specs.Faults.{IsRoadFault}
use Rattle.serving_events.specs.Steps.{IsClosed}
use Rattle.serving_events.proofs.DrawnLaws.{end_makes}
use Rattle.serving_events.proofs.EndMoves.{closed}
use Rattle.serving_events.proofs.WorldAfter.{after_change, still_replica}

memory_fault : (before now : ℕ) (why : ServeFault) → why ≡ fault.Memory → IsRoadFault before now why
memory_fault before now why is = subst (λ (x : ServeFault). IsRoadFault before now x) (sym is) tt

module _ {R I O : Type 0} (r : roads.Ghosts R I O) (i : link_in.Ghosts I) (o : link_out.Ghosts O) where
  ended : (w : World) (net : Net) (conn : ConnId) (answered : Bool) (b : ℕ) (s : ServingState) (x : Next) (read : ServedRead I O) (held : Conn I O) (road middle road' : R) → EndStands r i o w net conn.0 b s x read road
      → ExchangesEnd r i o (names (Some read.end.id) read.end.id) read.end held road middle (Ok tt) → Closes r i o held middle road' → ReadEnds r i o w net (happens w (event.Down conn answered)) conn.0 b road'
  ended w net conn answered b s x read held road middle road' stands ex cl =
      let c : ℕ = conn.0 in
      let w1 : World = down_taken w c x in
      let e : Event = event.Down conn answered in
      let v : World = happens w e in
      let n1 : Net = taken_net net c true in
      let takes = taken-net w net c true x stands.roads_are.is_net stands.shows.end_is.within stands.shows.end_is.taking stands.comes.next in
      let at : RoadsAt r net road = record { sane = stands.roads_are.sane; shows = stands.roads_are.shows } in
      let p = end_passes r i o net true false [] (held_by (is_over w c true)) c true road middle read.end held at (end_held i o w net c true read.end stands.shows.end_is) (λ z. ap held_by takes.before)
      (subst (λ (y : Bool). ExchangesEnd r i o y read.end held road middle (Ok tt)) (same-itself read.end.id.0) ex) in
      let holds : HeldAt i o n1 false [] (inbox_for x) c true held = subst (λ (y : Inbox). HeldAt i o n1 false [] y c true held) takes.holds p.held in
      let out : outcome w e ≡ Some (apply w1 (closing w1 c)) = end_makes w conn answered x b s stands.comes stands.lower in
      let a = after_change w w1 c (closing w1 c) e out refl refl in
      let m = closed r i o w w1 n1 e c (closing w1 c) [] (inbox_for x) middle road' held (record { out = out; is_net = takes.is_net; roads_at = p.roads_at; held = holds; sends = closing-sends w1 c }) cl in
      record {
        made = m.made;
        roads_are = m.roads_are;
        lower = a.lower;
        replica = still_replica w1 v c b (closing w1 c) a refl ∙ (taken_same w c true x c b).replica;
        others = λ d y z none k. m.others d y z none (other_passed r i o w w1 net c None true false false false [] [] d y z none (taken-over w d y c true x none.0) k);
      }

  pub end_shows : (read : ServedRead I O) (held : Conn I O) (road middle road' : R) (result : Result (Unit {0}) ServeFault) → ExchangesEnd r i o (names (Some read.end.id) read.end.id) read.end held road middle (Ok tt) → IsClosed r i o held middle road' result
      → EndShows r i o read road road' result
  end_shows read held road middle road' (Ok u) ex cl = λ w net conn answered b s x stands. ended w net conn answered b s x read held road middle road' stands ex cl
  end_shows read held road middle road' (Err why) ex is = λ w net conn answered b s x stands. memory_fault (r.faults road) (r.faults road') why is

  end_unmade : (read : ServedRead I O) (why : ServeFault) (road road' : R) → IsRoadFault (r.faults road) (r.faults road') why → EndShows r i o read road road' (Err why)
  end_unmade read why road road' h = λ w net conn answered b s x stands. h

  pub end_failed : (read : ServedRead I O) (result : Result (Unit {0}) ServeFault) (why : ServeFault) (road road' : R) → result ≡ Err why → IsRoadFault (r.faults road) (r.faults road') why → EndShows r i o read road road' result
  end_failed read result why road road' is h = subst (λ (z : Result (Unit {0}) ServeFault). EndShows r i o read road road' z) (sym is) (end_unmade read why road road' h)
