-- Roads on which nodes listen.
use Rattle.std.proofs.Common.{◌≡◌, ◌≤◌, ◌+◌, ℕ, Bool, true, false, cond, refl, sym, ◌∙◌, arith}
use Rattle.std.specs.Prelude.{◌==◌, ◌&&◌, nat_le, nat_lt}
use Rattle.std.proofs.lemmas.Bool.Decides.{nat_tests}
use Rattle.hd_base.specs.Faults.{FaultsIncreased}
use Rattle.hd_base.specs.declared.roads.Roads as roads
use Rattle.hd_base.specs.declared.roads.TheConstants.{FIRST_PORT}
use Rattle.road_traffic.specs.Showing.{RoadsShow, listened_net}
use Rattle.play_nodes.specs.WorldNets.Starts.{IsUnused}
use Rattle.node_opening.specs.Listening.{AreUnused, opened_net, ListensAt, ListenAll}
use Rattle.std.specs.Prelude.{Err}
use Rattle.hd_base.specs.RoadCauses.{RoadCause}
use Rattle.hd_base.specs.declared.ends.RoadError.{RoadError}
use Rattle.hd_base.specs.declared.ends.RoadError.TheVariants as road
use Rattle.node_opening.specs.Listening.{IsRoadFault, road_fault}
use Rattle.node_opening.specs.declared.faults.OpenFault.{OpenFault}
use Rattle.node_opening.specs.declared.faults.OpenFault.TheVariants as fault

-- the ports that so many nodes listen on
abbrev listens : ℕ → ℕ → Bool
listens nodes port = nat_le 9866 port && nat_lt port (9866 + nodes)

listens_none : (port : ℕ) → listens 0 port ≡ false
listens_none port = grind (arith, nat_tests)

listens_next : (nodes port : ℕ) → cond (port == 9866 + nodes) true (listens nodes port) ≡ listens (nodes + 1) port
listens_next nodes port = grind (arith, nat_tests)

pub listens_node : (nodes node : ℕ) → listens nodes (9866 + node) ≡ nat_lt node nodes
listens_node nodes node = grind (arith, nat_tests)

pub net_unused : (nodes : ℕ) → IsUnused nodes (opened_net nodes)
net_unused nodes = record { conns = refl; listens = listens_node nodes; waiting = λ port. refl; unused = λ c d. refl }

pub rose_after : (a b c : ℕ) → a ≤ b → FaultsIncreased b c → FaultsIncreased a c
rose_after a b c p q = omega arith

module _ {R I O : Type 0} (r : roads.Ghosts R I O) where
  first_net : (road : R) → AreUnused r road → RoadsShow r (opened_net 0) road
  first_net road u = record {
    plain = u.plain;
    is = u.is;
    holds = record {
      dialled = u.dialled;
      listening = λ port. u.listening port ∙ sym (listens_none port);
      waiting = u.waiting;
      channels = λ c d h. u.channels c d;
    };
    carried = u.carried;
  }

  pub listen_none : (road : R) → ListenAll r 0 road road
  listen_none road = λ u. first_net road u

  next_net : (nodes : ℕ) (road : R) → RoadsShow r (listened_net (opened_net nodes) (FIRST_PORT + nodes) true) road → RoadsShow r (opened_net (nodes + 1)) road
  next_net nodes road s = record {
    plain = s.plain;
    is = s.is;
    holds = record {
      dialled = s.holds.dialled;
      listening = λ port. s.holds.listening port ∙ listens_next nodes port;
      waiting = s.holds.waiting;
      channels = s.holds.channels;
    };
    carried = s.carried;
  }

  pub listen_next : (nodes : ℕ) (old mid new : R) → ListenAll r nodes old mid → ListensAt r nodes mid new → ListenAll r (nodes + 1) old new
  listen_next nodes old mid new p q = λ u. next_net nodes new (q (opened_net nodes) (p u))

-- FAULTS

pub road_caused : {T : Type 0} (before now : ℕ) (e : RoadError) → RoadCause {T = T} before now (Err e) → IsRoadFault before now (road_fault e)
road_caused before now road.Memory c = tt
road_caused before now road.NotListening c = absurd (c.no_dial refl)
road_caused before now road.Failed c = c.failed refl

pub fault_later : (a b c : ℕ) (why : OpenFault) → a ≤ b → IsRoadFault b c why → IsRoadFault a c why
fault_later a b c fault.RoadFault p q = rose_after a b c p q
fault_later a b c fault.Memory p q = tt
fault_later a b c (fault.ShelfFault node) p q = q
fault_later a b c (fault.NotEmpty node name) p q = q
