-- A block recovery while the writer has the block open: its events, and what is there at the end.
use Rattle.std.specs.Prelude.{◌≡◌, false, List, [], ◌∷◌, Some, None}
use Rattle.hd_base.specs.declared.states.ReplicaState.TheVariants as state
use Rattle.hd_base.specs.SumRules.{default_rule}
use Rattle.writer_core.specs.declared.commands.Command.TheVariants as command
use Rattle.writer_core.specs.declared.actions.ClientAnswer.TheVariants as answer
use Rattle.recovery_core.specs.declared.primary.Recovered.TheVariants as recovered
use Rattle.world.specs.declared.events.Event.{Event}
use Rattle.world.specs.Parts.{has_led}
use Rattle.world.specs.Worlds.{World, start}
use Rattle.world.specs.Events.{run}
use Rattle.world_cases.specs.Shown.{node, stamp, takes, acts, asks, asks_recovery, recovers, leads, down, ready, up, writing, beginning, updating, piece, acking, answering, telling, line, says, Ends, ends_of}

abbrev pub block_recovery_events : List Event
block_recovery_events =
    takes 1 default_rule (command.Create (node 0 ∷ node 1 ∷ [])) ∷ asks 1 ∷ acts 1 ∷ down 0 ∷ down 1 ∷ up 1 ∷ up 0
    ∷ acts 1 ∷ takes 1 default_rule (command.Write (49 ∷ 50 ∷ 51 ∷ 52 ∷ 53 ∷ 54 ∷ 55 ∷ 56 ∷ 57 ∷ []))
    ∷ takes 1 default_rule command.Hflush ∷ acts 1 ∷ down 0 ∷ down 1 ∷ ready 1 ∷ up 1 ∷ up 0 ∷ acts 1
    ∷ asks_recovery 7 1 ∷ recovers 7 0 1 (node 0 ∷ node 1 ∷ []) ∷ down 2 ∷ down 3 ∷ ready 1 ∷ up 2 ∷ up 3 ∷ leads 7
    ∷ down 3 ∷ up 3 ∷ down 3 ∷ up 1 ∷ ready 0 ∷ up 0 ∷ down 2 ∷ asks 1 ∷ acts 1 ∷ up 2 ∷ asks_recovery 7 1 ∷ leads 7
    ∷ down 2 ∷ takes 1 default_rule (command.Write (0 ∷ [])) ∷ takes 1 default_rule command.Close ∷ []

-- the world at the end
abbrev pub block_recovery_world : World
block_recovery_world = run (start 2) block_recovery_events

-- what is there at the end
abbrev pub block_recovery_ends : Ends
block_recovery_ends = record {
  replicas = line state.Finalized 1002 9 9 (Some 0xe3069283) ∷ line state.Finalized 1002 9 9 (Some 0xe3069283) ∷ [];
  said = says 0 (answer.Granted (stamp 1001)) ∷ says 2 (answer.Reached 9 (stamp 1001) (node 0 ∷ node 1 ∷ []))
      ∷ says 3 (answer.Lost (stamp 1002)) ∷ says 4 (answer.Lost (stamp 1002)) ∷ [];
  downs =
      (writing 1001 6 0 0 0 (9867 ∷ []) ∷ piece 0 9 0 false false ∷ [])
      ∷ (writing 1001 6 0 0 0 [] ∷ piece 0 9 0 false false ∷ [])
      ∷ (beginning 1001 1002 ∷ updating 1001 1002 9 ∷ [])
      ∷ (beginning 1001 1002 ∷ updating 1001 1002 9 ∷ [])
      ∷ [];
  ups =
      (answering 0 [] None [] ∷ acking 0 (0 ∷ 0 ∷ []) ∷ [])
      ∷ (answering 0 [] None [] ∷ acking 0 (0 ∷ []) ∷ [])
      ∷ (telling 0 [] (Some (1, 1001, 9)) ∷ telling 0 [] None ∷ [])
      ∷ (telling 0 [] (Some (1, 1001, 9)) ∷ telling 0 [] None ∷ [])
      ∷ [];
}

-- The world ends so.
pub record BlockRecoveryEnds : Type 0 where
  pub ends : ends_of 1 block_recovery_world ≡ block_recovery_ends
  pub recovery : block_recovery_world.primaries 7 ≡ has_led (recovered.Done (stamp 1002) 9 (node 0 ∷ node 1 ∷ []))
