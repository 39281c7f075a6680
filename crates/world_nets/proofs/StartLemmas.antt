-- The first connections, and what was carried.
use Rattle.std.proofs.Common.{◌≡◌, ℕ, Bool, true, false, refl, sym, ap, subst, arith}
use Rattle.std.specs.Prelude.{map}
use Rattle.hd_base.specs.Lists.{joined}
use Rattle.road_traffic.specs.Traffic.{Traffic, no_traffic, carried_of, Fits}
use Rattle.road_traffic.specs.Showing.{Net}
use Rattle.world.specs.Worlds.{World, start}
use Rattle.world_nets.specs.Rows.{rows_of, text_of}
use Rattle.world_nets.specs.Nets.{IsRow, IsNetOf, is_over}
use Rattle.world_nets.specs.Starts.{IsUnused, StartsNet}

first-row : (nodes c : ℕ) (d : Bool) → IsRow (rows_of (start nodes) c d) no_traffic
unfolding start
first-row nodes c true = record { sent = refl; taken = λ _. refl; end = λ _. refl }
first-row nodes c false = record { sent = refl; taken = λ _. refl; end = λ _. refl }

first-over : (nodes c : ℕ) (d : Bool) → is_over (start nodes) c d ≡ false
unfolding start
first-over nodes c true = refl
first-over nodes c false = refl

no-traffic-fits : Fits no_traffic
no-traffic-fits = record { taken = omega arith; end = tt }

first-net : (nodes : ℕ) (net : Net) → IsUnused nodes net → IsNetOf (start nodes) net
unfolding start
first-net nodes net u = record {
  conns = u.conns;
  listens = u.listens;
  waiting = u.waiting;
  rows_are = λ c d. subst (λ (t : Traffic). IsRow (rows_of (start nodes) c d) t) (sym (u.unused c d)) (first-row nodes c d);
  none_over = λ c d h. first-over nodes c d;
}

pub starts : (nodes : ℕ) (net : Net) → IsUnused nodes net → StartsNet nodes net
starts nodes net u = record {
  is_net = first-net nodes net u;
  sane = record {
    fits = λ c d. subst Fits (sym (u.unused c d)) no-traffic-fits;
    fresh = λ c d h. u.unused c d;
  };
}

pub carries : (w : World) (net : Net) → IsNetOf w net → (c : ℕ) (d : Bool) → carried_of net.traffic c d ≡ joined (map text_of (rows_of w c d).sent)
carries w net is c d = ap joined (is.rows_are c d).sent
