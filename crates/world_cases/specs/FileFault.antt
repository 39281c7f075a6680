-- A packet whose call on files fails: its events, and what is there at the end.
use Rattle.std.specs.Prelude.{◌≡◌, true, false, List, [], ◌∷◌, Some, None}
use Rattle.hd_base.specs.declared.states.ReplicaState.TheVariants as state
use Rattle.hd_base.specs.SumRules.{default_rule}
use Rattle.writer_core.specs.declared.commands.Command.TheVariants as command
use Rattle.writer_core.specs.declared.actions.ClientAnswer.TheVariants as answer
use Rattle.world.specs.declared.events.Event.{Event}
use Rattle.world.specs.Worlds.{World, start}
use Rattle.world.specs.Events.{run}
use Rattle.world_cases.specs.Shown.{node, stamp, takes, acts, asks, down, ready, up, fails, writing, piece, acking, answering, line, says, Ends, ends_of}

abbrev pub file_fault_events : List Event
file_fault_events =
    takes 1 default_rule (command.Create (node 0 ∷ node 1 ∷ [])) ∷ asks 1 ∷ acts 1 ∷ down 0 ∷ down 1 ∷ up 1 ∷ up 0
    ∷ acts 1
    ∷ takes 1 default_rule (command.Write (0 ∷ 0 ∷ 0 ∷ 0 ∷ 0 ∷ 0 ∷ 0 ∷ 0 ∷ 0 ∷ 0 ∷ 0 ∷ 0 ∷ 0 ∷ 0 ∷ 0 ∷ 0 ∷ 0 ∷ 0 ∷ 0 ∷
    0 ∷ 0 ∷ 0 ∷ 0 ∷ 0 ∷ 0 ∷ 0 ∷ 0 ∷ 0 ∷ 0 ∷ 0 ∷ 0 ∷ 0 ∷ []))
    ∷ takes 1 default_rule command.Hflush ∷ acts 1 ∷ down 0 ∷ fails 1 ∷ up 1 ∷ up 0 ∷ asks 1 ∷ acts 1 ∷ down 2 ∷ up 2
    ∷ asks 1 ∷ acts 1 ∷ acts 1 ∷ down 2 ∷ ready 2 ∷ up 2 ∷ acts 1 ∷ takes 1 default_rule command.Close ∷ acts 1
    ∷ down 2 ∷ ready 2 ∷ up 2 ∷ asks 1 ∷ acts 1 ∷ []

-- the world at the end
abbrev pub file_fault_world : World
file_fault_world = run (start 2) file_fault_events

-- what is there at the end
abbrev pub file_fault_ends : Ends
file_fault_ends = record {
  replicas = line state.Finalized 1002 32 32 (Some 0x8a9136aa) ∷ line state.Rbw 1001 0 0 None ∷ [];
  said = says 0 (answer.Granted (stamp 1001)) ∷ says 2 (answer.Reached 32 (stamp 1002) (node 0 ∷ []))
      ∷ says 3 (answer.Reached 32 (stamp 1002) (node 0 ∷ [])) ∷ [];
  downs =
      (writing 1001 6 0 0 0 (9867 ∷ []) ∷ piece 0 32 0 false false ∷ [])
      ∷ (writing 1001 6 0 0 0 [] ∷ piece 0 32 0 false false ∷ [])
      ∷ (writing 1001 3 1002 0 32 [] ∷ piece 0 32 0 false false ∷ piece 32 32 1 true false ∷ [])
      ∷ [];
  ups =
      (answering 0 [] None [] ∷ acking 0 (0 ∷ 1 ∷ []) ∷ [])
      ∷ (answering 0 [] None [] ∷ [])
      ∷ (answering 0 [] None [] ∷ acking 0 (0 ∷ []) ∷ acking 1 (0 ∷ []) ∷ [])
      ∷ [];
}

-- The world ends so.
pub record FileFaultEnds : Type 0 where
  pub ends : ends_of 1 file_fault_world ≡ file_fault_ends
