-- An hsync, and one with no byte past the sent end: its events, and what is there at the end.
use Rattle.std.specs.Prelude.{◌≡◌, true, false, List, [], ◌∷◌, Some, None}
use Rattle.hd_base.specs.declared.states.ReplicaState.TheVariants as state
use Rattle.hd_base.specs.SumRules.{default_rule}
use Rattle.writer_core.specs.declared.commands.Command.TheVariants as command
use Rattle.writer_core.specs.declared.actions.ClientAnswer.TheVariants as answer
use Rattle.world.specs.declared.events.Event.{Event}
use Rattle.world.specs.Worlds.{World, start}
use Rattle.world.specs.Events.{run}
use Rattle.world_cases.specs.Shown.{node, stamp, takes, acts, asks, down, ready, up, writing, piece, acking, answering, line, says, Ends, ends_of}

abbrev pub hsync_events : List Event
hsync_events =
    takes 1 default_rule (command.Create (node 0 ∷ [])) ∷ asks 1 ∷ acts 1 ∷ down 0 ∷ up 0 ∷ acts 1
    ∷ takes 1 default_rule (command.Write (49 ∷ 50 ∷ 51 ∷ 52 ∷ 53 ∷ 54 ∷ 55 ∷ 56 ∷ 57 ∷ []))
    ∷ takes 1 default_rule command.Hsync ∷ acts 1 ∷ down 0 ∷ ready 0 ∷ up 0 ∷ acts 1
    ∷ takes 1 default_rule command.Hsync ∷ acts 1 ∷ down 0 ∷ ready 0 ∷ up 0 ∷ acts 1
    ∷ takes 1 default_rule command.Close ∷ acts 1 ∷ down 0 ∷ ready 0 ∷ up 0 ∷ asks 1 ∷ acts 1 ∷ []

-- the world at the end
abbrev pub hsync_world : World
hsync_world = run (start 1) hsync_events

-- what is there at the end
abbrev pub hsync_ends : Ends
hsync_ends = record {
  replicas = line state.Finalized 1001 9 9 (Some 0xe3069283) ∷ [];
  said = says 0 (answer.Granted (stamp 1001)) ∷ says 2 (answer.Reached 9 (stamp 1001) (node 0 ∷ []))
      ∷ says 3 (answer.Reached 9 (stamp 1001) (node 0 ∷ [])) ∷
      says 4 (answer.Reached 9 (stamp 1001) (node 0 ∷ [])) ∷ [];
  downs =
      (writing 1001 6 0 0 0 [] ∷ piece 0 9 0 false true ∷ piece 9 9 1 false true ∷ piece 9 9 2 true true ∷ [])
      ∷ [];
  ups =
      (answering 0 [] None [] ∷ acking 0 (0 ∷ []) ∷ acking 1 (0 ∷ []) ∷ acking 2 (0 ∷ []) ∷ [])
      ∷ [];
}

-- The world ends so.
pub record HsyncEnds : Type 0 where
  pub ends : ends_of 1 hsync_world ≡ hsync_ends
