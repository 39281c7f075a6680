-- A primary that leads at a node that no longer lives: the node stopped.
use Rattle.std.specs.Prelude.{ℕ, ◌≡◌, ◌<◌, true, false, List, ◌∷◌, ◌++◌}
use Rattle.hd_base.specs.declared.numbers.NodeId.{NodeId}
use Rattle.world.specs.declared.events.Event.{Event}
use Rattle.world.specs.declared.events.Event.TheVariants as event
use Rattle.world.specs.Parts.{Place, leads, Leading}
use Rattle.world.specs.Worlds.{World, start}
use Rattle.world.specs.Connections.{is_alive}
use Rattle.world.specs.Events.{run}

-- The node doesn't run, or runs in a later life.
pub data IsGone (w : World) (p : Place) : Type 0 where
  down : w.running p.node ≡ false → IsGone w p
  later : p.life < w.lives p.node → IsGone w p

-- After some of these events the primary led, in this state, at a node that ran in that life; then the node stopped,
-- and after all events it is gone.
pub record HasStopped (nodes : ℕ) (events : List Event) (i : ℕ) (l : Leading) : Type 0 where
  pub before : List Event
  pub node : NodeId
  pub rest : List Event
  pub joins : before ++ (event.Stop node ∷ rest) ≡ events
  pub there : l.at.node ≡ node.0
  pub led : (run (start nodes) before).primaries i ≡ leads l
  pub lived : is_alive (run (start nodes) before) l.at ≡ true
  pub gone : IsGone (run (start nodes) events) l.at

-- So it is of each primary that leads at a node that doesn't run in that life, after every list of events.
abbrev pub AllHaveStopped : Type 0
AllHaveStopped = (nodes : ℕ) (events : List Event) (i : ℕ) (l : Leading) →
    (run (start nodes) events).primaries i ≡ leads l → is_alive (run (start nodes) events) l.at ≡ false →
    HasStopped nodes events i l
