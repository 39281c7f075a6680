-- A stream of which a connection is cut: its events, and what is there at the end.
use Rattle.std.specs.Prelude.{◌≡◌, false, List, [], ◌∷◌, Some, None}
use Rattle.hd_base.specs.declared.states.ReplicaState.TheVariants as state
use Rattle.hd_base.specs.SumRules.{default_rule}
use Rattle.writer_core.specs.declared.commands.Command.TheVariants as command
use Rattle.writer_core.specs.declared.actions.ClientAnswer.TheVariants as answer
use Rattle.world.specs.declared.events.Direction.TheVariants as direction
use Rattle.world.specs.declared.events.Event.{Event}
use Rattle.world.specs.Worlds.{World, start}
use Rattle.world.specs.Events.{run}
use Rattle.world_cases.specs.Shown.{node, stamp, takes, acts, asks, down, ready, up, loses, writing, piece, acking, answering, line, says, Ends, ends_of}

abbrev pub cut_stream_events : List Event
cut_stream_events =
    takes 1 default_rule (command.Create (node 0 ∷ node 1 ∷ node 2 ∷ [])) ∷ asks 1 ∷ acts 1 ∷ down 0 ∷ down 1 ∷ down 2
    ∷ up 2 ∷ up 1 ∷ up 0 ∷ acts 1 ∷ takes 1 default_rule (command.Fill 512) ∷ takes 1 default_rule command.Hflush
    ∷ acts 1 ∷ down 0 ∷ down 1 ∷ down 2 ∷ ready 2 ∷ up 2 ∷ up 1 ∷ up 0 ∷ acts 1
    ∷ takes 1 default_rule (command.Fill 488) ∷ takes 1 default_rule command.Hflush ∷ acts 1 ∷ down 0 ∷ down 1
    ∷ down 2 ∷ ready 2 ∷ up 2 ∷ loses 1 direction.Down 0 ∷ loses 1 direction.Up 0 ∷ up 1 ∷ up 0 ∷ down 1 ∷ asks 1
    ∷ acts 1 ∷ down 3 ∷ down 2 ∷ down 4 ∷ up 4 ∷ up 3 ∷ asks 1 ∷ acts 1 ∷ acts 1 ∷ down 3 ∷ down 4 ∷ ready 4 ∷ up 4
    ∷ up 3 ∷ acts 1 ∷ []

-- the world at the end
abbrev pub cut_stream_world : World
cut_stream_world = run (start 3) cut_stream_events

-- what is there at the end
abbrev pub cut_stream_ends : Ends
cut_stream_ends = record {
  replicas = line state.Rbw 1002 1000 1000 (Some 0x78ba7f28) ∷ line state.Rbw 1001 1000 1000 (Some 0x78ba7f28)
      ∷ line state.Rbw 1002 1000 1000 (Some 0x78ba7f28) ∷ [];
  said = says 0 (answer.Granted (stamp 1001))
      ∷ says 2 (answer.Reached 512 (stamp 1001) (node 0 ∷ node 1 ∷ node 2 ∷ []))
      ∷ says 4 (answer.Reached 1000 (stamp 1002) (node 0 ∷ node 2 ∷ [])) ∷ [];
  downs =
      (writing 1001 6 0 0 0 (9867 ∷ 9868 ∷ []) ∷ piece 0 512 0 false false ∷ piece 512 1000 1 false false ∷ [])
      ∷ (writing 1001 6 0 0 0 (9868 ∷ []) ∷ piece 0 512 0 false false ∷ piece 512 1000 1 false false ∷ [])
      ∷ (writing 1001 6 0 0 0 [] ∷ piece 0 512 0 false false ∷ piece 512 1000 1 false false ∷ [])
      ∷ (writing 1001 3 1002 512 1000 (9868 ∷ []) ∷ piece 512 1000 1 false false ∷ [])
      ∷ (writing 1001 3 1002 512 1000 [] ∷ piece 512 1000 1 false false ∷ [])
      ∷ [];
  ups =
      (answering 0 [] None [] ∷ acking 0 (0 ∷ 0 ∷ 0 ∷ []) ∷ acking 1 (0 ∷ 1 ∷ []) ∷ [])
      ∷ (answering 0 [] None [] ∷ acking 0 (0 ∷ 0 ∷ []) ∷ acking 1 (0 ∷ 0 ∷ []) ∷ [])
      ∷ (answering 0 [] None [] ∷ acking 0 (0 ∷ []) ∷ acking 1 (0 ∷ []) ∷ [])
      ∷ (answering 0 [] None [] ∷ acking 1 (0 ∷ 0 ∷ []) ∷ [])
      ∷ (answering 0 [] None [] ∷ acking 1 (0 ∷ []) ∷ [])
      ∷ [];
}

-- The world ends so.
pub record CutStreamEnds : Type 0 where
  pub ends : ends_of 1 cut_stream_world ≡ cut_stream_ends
