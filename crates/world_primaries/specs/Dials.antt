-- Several connections that are dialled in one step.
use Rattle.std.specs.Prelude.{◌≡◌, ℕ, ◌+◌, ◌<◌, true, false, Bool, List, [], ◌∷◌, length}
use Rattle.hd_base.specs.declared.ends.Conn.{Conn}
use Rattle.hd_base.specs.declared.links.LinkIn as link_in
use Rattle.hd_base.specs.declared.links.LinkOut as link_out
use Rattle.hd_base.specs.declared.numbers.BlockId.{BlockId}
use Rattle.hd_base.specs.declared.numbers.NodeId.{NodeId}
use Rattle.name_core.specs.declared.calls.Begun.{Begun}
use Rattle.road_traffic.specs.Showing.{Net, IsSane, dialled_net, accepted_net}
use Rattle.world_nets.specs.World.Parts.{Place}
use Rattle.world_nets.specs.World.Worlds.{World, Change, Dial, apply}
use Rattle.world_nets.specs.World.Primaries.{begins_with}
use Rattle.world_nets.specs.Changes.{Flush}
use Rattle.world_nets.specs.Dials.{request_flush, IsAccepted, HasFlushed}
use Rattle.world_nets.specs.Ends.{flushed_all}
use Rattle.world_nets.specs.Nets.{IsNetOf, IsEndOf}
use Rattle.world_nets.specs.Steps.{ChangesBy}

-- the upper ends of new connections, numbered from this one, flush their requests
abbrev pub request_flushes : ℕ → List Dial → List Flush
request_flushes next [] = []
request_flushes next (dial ∷ dials) = request_flush next dial.request ∷ request_flushes (next + 1) dials

-- A change dials these, one after the other, and sends just the requests.
pub record DialsAllBy (w : World) (k : Change) : Type 0 where
  pub changes : ChangesBy w k (request_flushes w.next_conn k.dials)

-- The first step of a primary is such a change.
abbrev pub PrimariesDial : Type 0
PrimariesDial = (w : World) (i : ℕ) (at : Place) (block : BlockId) (begun : Begun) (members : List NodeId)
    (answers : List Bool) → DialsAllBy w (begins_with w i at block begun members answers)

-- These ports were dialled, one after the other.
abbrev pub dialled_all : Net → List ℕ → Net
dialled_all net [] = net
dialled_all net (port ∷ ports) = dialled_all (dialled_net net port) ports

-- The oldest dial that waits at each of these ports was accepted, one after the other.
abbrev pub accepted_all : Net → List ℕ → Net
accepted_all net [] = net
accepted_all net (port ∷ ports) = accepted_all (accepted_net net port) ports

-- These ports were dialled, the requests were flushed, and all dials accepted.
abbrev pub all_made : Net → List ℕ → List Flush → Net
all_made net ports flushes = accepted_all (flushed_all (dialled_all net ports) flushes) ports

abbrev pub AllDialsAreNets : Type 0
AllDialsAreNets = (w : World) (net : Net) (k : Change) (ports : List ℕ) → IsNetOf w net → DialsAllBy w k →
    length ports ≡ length k.dials
    → IsNetOf (apply w k) (all_made net ports (request_flushes w.next_conn k.dials))

-- The two ends of each new connection, and all ends that were there, are ends of the world.
pub record MakesAllEnds {I O : Type 0} (i : link_in.Ghosts I) (o : link_out.Ghosts O) (w v : World) (net made : Net)
    : Type 0 where
  pub upper : (c : ℕ) (e : Conn I O) → c < v.next_conn → HasFlushed i o made c e → (c < w.next_conn → ⊥) →
      IsEndOf i o v made c false e
  pub lower : (c : ℕ) (e : Conn I O) → c < v.next_conn → IsAccepted i o c e → (c < w.next_conn → ⊥) →
      IsEndOf i o v made c true e
  pub others : (c : ℕ) (d : Bool) (e : Conn I O) → IsEndOf i o w net c d e → IsEndOf i o v made c d e

abbrev pub AllDialsMakeEnds : {I O : Type 0} → link_in.Ghosts I → link_out.Ghosts O → Type 0
AllDialsMakeEnds i o = (w : World) (net : Net) (k : Change) (ports : List ℕ) → IsNetOf w net → IsSane net →
    DialsAllBy w k → length ports ≡ length k.dials
    → MakesAllEnds i o w (apply w k) net (all_made net ports (request_flushes w.next_conn k.dials))
