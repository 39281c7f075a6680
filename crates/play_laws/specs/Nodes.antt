-- The nodes of a play: how many there are, and which of them run.
use Rattle.std.specs.Prelude.{ℕ, ◌≡◌, ◌<◌, true, List, [], ◌∷◌}
use Rattle.world.specs.declared.events.Event.{Event}
use Rattle.world.specs.declared.events.Event.TheVariants as event
use Rattle.world.specs.Worlds.{World, start}
use Rattle.world.specs.Events.{happens, run}

-- no node is stopped or started again
abbrev pub KeepsNodes : Event → Type 0
KeepsNodes (event.Stop n) = ⊥
KeepsNodes (event.Restart n list) = ⊥
KeepsNodes other = Unit {0}

abbrev pub AllKeepNodes : List Event → Type 0
AllKeepNodes [] = Unit {0}
AllKeepNodes (e ∷ events) = KeepsNodes e × AllKeepNodes events

-- so many nodes, all of which run in their first life
pub record NodesRun (nodes : ℕ) (w : World) : Type 0 where
  pub nodes_are : w.nodes ≡ nodes
  pub runs : (n : ℕ) → n < nodes → w.running n ≡ true
  pub first : (n : ℕ) → w.lives n ≡ 0

-- So it is after every list of events among which no node is stopped or started again.
abbrev pub AllRun : Type 0
AllRun = (nodes : ℕ) (events : List Event) → AllKeepNodes events → NodesRun nodes (run (start nodes) events)

-- How many nodes there are, whether each runs, and in which life, is as before.
pub record SameNodes (w v : World) : Type 0 where
  pub nodes : v.nodes ≡ w.nodes
  pub running : (n : ℕ) → v.running n ≡ w.running n
  pub lives : (n : ℕ) → v.lives n ≡ w.lives n

-- So it is after each event that stops no node and starts none again.
abbrev pub RunningStays : Type 0
RunningStays = (w : World) (e : Event) → KeepsNodes e → SameNodes w (happens w e)

-- so many nodes, and nothing else runs
pub record OnlyNodes (nodes : ℕ) (w : World) : Type 0 where
  pub nodes_are : w.nodes ≡ nodes
  pub within : (n : ℕ) → w.running n ≡ true → n < nodes

-- So it is after every list of events.
abbrev pub OnlyNodesRun : Type 0
OnlyNodesRun = (nodes : ℕ) (events : List Event) → OnlyNodes nodes (run (start nodes) events)
