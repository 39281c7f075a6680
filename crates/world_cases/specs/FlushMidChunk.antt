-- Three members, with an hflush amid a chunk: its events, and what is there at the end.
use Rattle.std.specs.Prelude.{◌≡◌, false, List, [], ◌∷◌, Some, None}
use Rattle.hd_base.specs.declared.states.ReplicaState.TheVariants as state
use Rattle.hd_base.specs.SumRules.{default_rule}
use Rattle.writer_core.specs.declared.commands.Command.TheVariants as command
use Rattle.writer_core.specs.declared.actions.ClientAnswer.TheVariants as answer
use Rattle.world.specs.declared.events.Event.{Event}
use Rattle.world.specs.Worlds.{World, start}
use Rattle.world.specs.Events.{run}
use Rattle.world_cases.specs.Shown.{node, stamp, takes, acts, asks, down, ready, up, writing, piece, acking, answering, line, says, Ends, ends_of}

abbrev pub flush_mid_chunk_events : List Event
flush_mid_chunk_events =
    takes 1 default_rule (command.Create (node 0 ∷ node 1 ∷ node 2 ∷ [])) ∷ asks 1 ∷ acts 1 ∷ down 0 ∷ down 1 ∷ down 2
    ∷ up 2 ∷ up 1 ∷ up 0 ∷ acts 1 ∷ takes 1 default_rule (command.Fill 600) ∷ takes 1 default_rule command.Hflush
    ∷ acts 1 ∷ down 0 ∷ down 1 ∷ down 2 ∷ ready 2 ∷ up 2 ∷ up 1 ∷ up 0 ∷ acts 1
    ∷ takes 1 default_rule (command.Fill 100) ∷ takes 1 default_rule command.Hflush ∷ acts 1 ∷ down 0 ∷ down 1
    ∷ down 2 ∷ ready 2 ∷ up 2 ∷ up 1 ∷ up 0 ∷ acts 1 ∷ []

-- the world at the end
abbrev pub flush_mid_chunk_world : World
flush_mid_chunk_world = run (start 3) flush_mid_chunk_events

-- what is there at the end
abbrev pub flush_mid_chunk_ends : Ends
flush_mid_chunk_ends = record {
  replicas = line state.Rbw 1001 700 700 (Some 0x3d0abcfd) ∷ line state.Rbw 1001 700 700 (Some 0x3d0abcfd)
      ∷ line state.Rbw 1001 700 700 (Some 0x3d0abcfd) ∷ [];
  said = says 0 (answer.Granted (stamp 1001))
      ∷ says 2 (answer.Reached 600 (stamp 1001) (node 0 ∷ node 1 ∷ node 2 ∷ []))
      ∷ says 4 (answer.Reached 700 (stamp 1001) (node 0 ∷ node 1 ∷ node 2 ∷ [])) ∷ [];
  downs =
      (writing 1001 6 0 0 0 (9867 ∷ 9868 ∷ []) ∷ piece 0 600 0 false false ∷ piece 512 700 1 false false ∷ [])
      ∷ (writing 1001 6 0 0 0 (9868 ∷ []) ∷ piece 0 600 0 false false ∷ piece 512 700 1 false false ∷ [])
      ∷ (writing 1001 6 0 0 0 [] ∷ piece 0 600 0 false false ∷ piece 512 700 1 false false ∷ [])
      ∷ [];
  ups =
      (answering 0 [] None [] ∷ acking 0 (0 ∷ 0 ∷ 0 ∷ []) ∷ acking 1 (0 ∷ 0 ∷ 0 ∷ []) ∷ [])
      ∷ (answering 0 [] None [] ∷ acking 0 (0 ∷ 0 ∷ []) ∷ acking 1 (0 ∷ 0 ∷ []) ∷ [])
      ∷ (answering 0 [] None [] ∷ acking 0 (0 ∷ []) ∷ acking 1 (0 ∷ []) ∷ [])
      ∷ [];
}

-- The world ends so.
pub record FlushMidChunkEnds : Type 0 where
  pub ends : ends_of 1 flush_mid_chunk_world ≡ flush_mid_chunk_ends
