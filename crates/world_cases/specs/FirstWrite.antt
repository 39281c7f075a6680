-- A first write at one node: its events, and what is there at the end.
use Rattle.std.specs.Prelude.{◌≡◌, true, false, List, [], ◌∷◌, Some, None}
use Rattle.hd_base.specs.declared.states.ReplicaState.TheVariants as state
use Rattle.hd_base.specs.SumRules.{default_rule}
use Rattle.writer_core.specs.declared.commands.Command.TheVariants as command
use Rattle.writer_core.specs.declared.actions.ClientAnswer.TheVariants as answer
use Rattle.world.specs.declared.events.Event.{Event}
use Rattle.world.specs.Worlds.{World, start}
use Rattle.world.specs.Events.{run}
use Rattle.world_cases.specs.Shown.{node, stamp, takes, acts, asks, down, ready, up, writing, piece, acking, answering, line, says, Ends, ends_of}

abbrev pub first_write_events : List Event
first_write_events =
    takes 1073741825 default_rule (command.Create (node 0 ∷ [])) ∷ asks 1073741825 ∷ acts 1073741825 ∷ down 0 ∷ up 0
    ∷ acts 1073741825
    ∷ takes 1073741825 default_rule (command.Write (49 ∷ 50 ∷ 51 ∷ 52 ∷ 53 ∷ 54 ∷ 55 ∷ 56 ∷ 57 ∷ []))
    ∷ takes 1073741825 default_rule command.Close ∷ acts 1073741825 ∷ down 0 ∷ ready 0 ∷ up 0 ∷ acts 1073741825
    ∷ down 0 ∷ ready 0 ∷ up 0 ∷ asks 1073741825 ∷ acts 1073741825 ∷ []

-- the world at the end
abbrev pub first_write_world : World
first_write_world = run (start 1) first_write_events

-- what is there at the end
abbrev pub first_write_ends : Ends
first_write_ends = record {
  replicas = line state.Finalized 1001 9 9 (Some 0xe3069283) ∷ [];
  said = says 0 (answer.Granted (stamp 1001)) ∷ says 2 (answer.Reached 9 (stamp 1001) (node 0 ∷ [])) ∷ [];
  downs =
      (writing 1001 6 0 0 0 [] ∷ piece 0 9 0 false false ∷ piece 9 9 1 true false ∷ [])
      ∷ [];
  ups =
      (answering 0 [] None [] ∷ acking 0 (0 ∷ []) ∷ acking 1 (0 ∷ []) ∷ [])
      ∷ [];
}

-- The world ends so.
pub record FirstWriteEnds : Type 0 where
  pub ends : ends_of 1073741825 first_write_world ≡ first_write_ends
