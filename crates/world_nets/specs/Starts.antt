-- The roads' connections where nothing has happened, and what they have carried.
use Rattle.std.specs.Prelude.{◌≡◌, ℕ, ◌+◌, nat_lt, Bool, [], map}
use Rattle.hd_base.specs.Lists.{joined}
use Rattle.hd_base.specs.declared.roads.TheConstants.{FIRST_PORT}
use Rattle.road_traffic.specs.Traffic.{no_traffic, carried_of}
use Rattle.road_traffic.specs.Showing.{Net, IsSane}
use Rattle.world.specs.Worlds.{World, start}
use Rattle.world_nets.specs.Rows.{rows_of, text_of}
use Rattle.world_nets.specs.Nets.{IsNetOf}

-- So many nodes listen, and nothing was dialled.
pub record IsUnused (nodes : ℕ) (net : Net) : Type 0 where
  pub conns : net.conns ≡ 0
  pub listens : (node : ℕ) → net.listens (FIRST_PORT + node) ≡ nat_lt node nodes
  pub waiting : (port : ℕ) → net.waiting port ≡ []
  pub unused : (c : ℕ) (d : Bool) → net.traffic c d ≡ no_traffic

-- These are sane connections of the first world.
pub record StartsNet (nodes : ℕ) (net : Net) : Type 0 where
  pub is_net : IsNetOf (start nodes) net
  pub sane : IsSane net

abbrev pub StartsAreNets : Type 0
StartsAreNets = (nodes : ℕ) (net : Net) → IsUnused nodes net → StartsNet nodes net

-- What was carried on each direction is what the world has sent there, as it is written.
abbrev pub NetsCarry : Type 0
NetsCarry = (w : World) (net : Net) → IsNetOf w net → (c : ℕ) (d : Bool) →
    carried_of net.traffic c d ≡ joined (map text_of (rows_of w c d).sent)
