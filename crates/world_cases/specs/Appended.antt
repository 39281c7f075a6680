-- An append that begins amid a chunk: its events, and what is there at the end.
use Rattle.std.specs.Prelude.{◌≡◌, true, false, List, [], ◌∷◌, Some, None}
use Rattle.hd_base.specs.declared.states.ReplicaState.TheVariants as state
use Rattle.hd_base.specs.SumRules.{default_rule}
use Rattle.writer_core.specs.declared.commands.Command.TheVariants as command
use Rattle.writer_core.specs.declared.actions.ClientAnswer.TheVariants as answer
use Rattle.world.specs.declared.events.Event.{Event}
use Rattle.world.specs.Worlds.{World, start}
use Rattle.world.specs.Events.{run}
use Rattle.world_cases.specs.Shown.{node, stamp, takes, acts, asks, down, ready, up, writing, piece, acking, answering, line, says, Ends, ends_of}

abbrev pub appended_events : List Event
appended_events =
    takes 1 default_rule (command.Create (node 0 ∷ [])) ∷ asks 1 ∷ acts 1 ∷ down 0 ∷ up 0 ∷ acts 1
    ∷ takes 1 default_rule (command.Fill 600) ∷ takes 1 default_rule command.Close ∷ acts 1 ∷ down 0 ∷ ready 0 ∷ up 0
    ∷ acts 1 ∷ down 0 ∷ ready 0 ∷ up 0 ∷ asks 1 ∷ acts 1 ∷ takes 1 default_rule (command.Append (node 0 ∷ []))
    ∷ asks 1 ∷ acts 1 ∷ down 1 ∷ up 1 ∷ asks 1 ∷ acts 1 ∷ takes 1 default_rule (command.Fill 1000) ∷ acts 1
    ∷ takes 1 default_rule command.Close ∷ acts 1 ∷ down 1 ∷ down 1 ∷ ready 1 ∷ ready 1 ∷ up 1 ∷ up 1 ∷ acts 1
    ∷ down 1 ∷ ready 1 ∷ up 1 ∷ asks 1 ∷ acts 1 ∷ []

-- the world at the end
abbrev pub appended_world : World
appended_world = run (start 1) appended_events

-- what is there at the end
abbrev pub appended_ends : Ends
appended_ends = record {
  replicas = line state.Finalized 1002 1600 1600 (Some 0x6698c984) ∷ [];
  said = says 0 (answer.Granted (stamp 1001)) ∷ says 2 (answer.Reached 600 (stamp 1001) (node 0 ∷ []))
      ∷ says 3 (answer.Granted (stamp 1002)) ∷ says 5 (answer.Reached 1600 (stamp 1002) (node 0 ∷ [])) ∷ [];
  downs =
      (writing 1001 6 0 0 0 [] ∷ piece 0 600 0 false false ∷ piece 600 600 1 true false ∷ [])
      ∷ (writing 1001 0 1002 600 600 [] ∷ piece 600 1024 0 false false ∷ piece 1024 1600 1 false false
      ∷ piece 1600 1600 2 true false ∷ [])
      ∷ [];
  ups =
      (answering 0 [] None [] ∷ acking 0 (0 ∷ []) ∷ acking 1 (0 ∷ []) ∷ [])
      ∷ (answering 0 [] None [] ∷ acking 0 (0 ∷ []) ∷ acking 1 (0 ∷ []) ∷ acking 2 (0 ∷ []) ∷ [])
      ∷ [];
}

-- The world ends so.
pub record AppendedEnds : Type 0 where
  pub ends : ends_of 1 appended_world ≡ appended_ends
