-- Which nodes of a player run.
use Rattle.std.specs.Prelude.{◌≡◌, ◌<◌, ℕ, Bool, true, false, length, Option, Some, None}
use Rattle.hd_base.specs.declared.numbers.NodeId.{NodeId}
use Rattle.world.specs.Worlds.{put}
use Rattle.node_stops.specs.PlayNodes.Showing.{runs_in}
use Rattle.play.specs.declared.player.Player.{Player}

-- there is a node here, and it runs
abbrev pub is_running : {F I O : Type 0} → Player F I O → Option NodeId → Bool
is_running p None = false
is_running p (Some node) = runs_in p.running.items node.0

-- The node doesn't run, and all else is as it was.
pub record IsStopped {F I O : Type 0} (old new : Player F I O) (node : NodeId) : Type 0 where
  pub same : new ≡ record old { running = new.running }
  pub running : (n : ℕ) → runs_in new.running.items n ≡ put (runs_in old.running.items) node.0 false n
  pub slots : length new.running.items ≡ length old.running.items

-- The node runs, if it is told of it, and all else is as it was.
pub record IsStarted {F I O : Type 0} (old new : Player F I O) (node : NodeId) : Type 0 where
  pub same : new ≡ record old { running = new.running }
  pub running : node.0 < length old.running.items →
      (n : ℕ) → runs_in new.running.items n ≡ put (runs_in old.running.items) node.0 true n
  pub slots : length new.running.items ≡ length old.running.items
