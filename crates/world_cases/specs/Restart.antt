-- A member that stops and starts again, and a block recovery: its events, and what is there at the end.
use Rattle.std.specs.Prelude.{◌≡◌, false, List, [], ◌∷◌, codes, Some, None}
use Rattle.hd_base.specs.declared.states.ReplicaState.TheVariants as state
use Rattle.hd_base.specs.SumRules.{default_rule}
use Rattle.packet_stream.specs.Streams.{fill_bytes}
use Rattle.writer_core.specs.declared.commands.Command.TheVariants as command
use Rattle.writer_core.specs.declared.actions.ClientAnswer.TheVariants as answer
use Rattle.recovery_core.specs.declared.primary.Recovered.TheVariants as recovered
use Rattle.world.specs.declared.events.Event.{Event}
use Rattle.world.specs.declared.events.FoundReplica.{FoundReplica}
use Rattle.world.specs.Parts.{has_led}
use Rattle.world.specs.Worlds.{World, start}
use Rattle.world.specs.Events.{run}
use Rattle.world_cases.specs.Shown.{node, block, stamp, takes, acts, asks, asks_recovery, recovers, leads, down, ready, up, stops, starts, writing, beginning, updating, piece, acking, answering, telling, line, says, Ends, ends_of}

-- what the restart finds: the bytes that were written, which wait for a recovery
abbrev pub found_one : FoundReplica
found_one = record {
  block = block 1;
  state = state.Rwr;
  stamp = stamp 1001;
  sums = default_rule;
  bytes = fill_bytes (block 1) 0 1300;
}

abbrev pub restart_events : List Event
restart_events =
    takes 1 default_rule (command.Create (node 0 ∷ node 1 ∷ [])) ∷ asks 1 ∷ acts 1 ∷ down 0 ∷ down 1 ∷ up 1 ∷ up 0
    ∷ acts 1 ∷ takes 1 default_rule (command.Fill 1300) ∷ takes 1 default_rule command.Hflush ∷ acts 1 ∷ down 0
    ∷ down 1 ∷ ready 1 ∷ up 1 ∷ up 0 ∷ acts 1 ∷ stops 1 ∷ up 1 ∷ takes 1 default_rule (command.Fill 700)
    ∷ takes 1 default_rule command.Hflush ∷ acts 1 ∷ down 0 ∷ ready 0 ∷ up 0 ∷ asks 1 ∷ acts 1 ∷ down 2 ∷ up 2
    ∷ asks 1 ∷ acts 1 ∷ acts 1 ∷ down 2 ∷ ready 2 ∷ up 2 ∷ acts 1 ∷ starts 1 (found_one ∷ []) ∷ asks_recovery 12 1
    ∷ recovers 12 1 1 (node 0 ∷ node 1 ∷ []) ∷ down 3 ∷ down 4 ∷ up 4 ∷ up 3 ∷ ready 2 ∷ leads 12 ∷ down 3 ∷ down 4
    ∷ up 2 ∷ up 3 ∷ asks_recovery 12 1 ∷ leads 12 ∷ down 3 ∷ []

-- the world at the end
abbrev pub restart_world : World
restart_world = run (start 2) restart_events

-- what is there at the end
abbrev pub restart_ends : Ends
restart_ends = record {
  replicas = line state.Finalized 1003 2000 2000 (Some 0xe9db1518) ∷ line state.Rwr 1001 1300 1300 (Some 0xdf1115a6)
      ∷ [];
  said = says 0 (answer.Granted (stamp 1001)) ∷ says 2 (answer.Reached 1300 (stamp 1001) (node 0 ∷ node 1 ∷ []))
      ∷ says 4 (answer.Reached 2000 (stamp 1002) (node 0 ∷ [])) ∷ [];
  downs =
      (writing 1001 6 0 0 0 (9867 ∷ []) ∷ piece 0 1300 0 false false ∷ piece 1024 2000 1 false false ∷ [])
      ∷ (writing 1001 6 0 0 0 [] ∷ piece 0 1300 0 false false ∷ piece 1024 2000 1 false false ∷ [])
      ∷ (writing 1001 3 1002 1300 2000 [] ∷ piece 1024 2000 1 false false ∷ [])
      ∷ (beginning 1002 1003 ∷ updating 1002 1003 2000 ∷ [])
      ∷ (beginning 1002 1003 ∷ [])
      ∷ [];
  ups =
      (answering 0 [] None [] ∷ acking 0 (0 ∷ 0 ∷ []) ∷ acking 1 (0 ∷ 1 ∷ []) ∷ [])
      ∷ (answering 0 [] None [] ∷ acking 0 (0 ∷ []) ∷ [])
      ∷ (answering 0 [] None [] ∷ acking 1 (0 ∷ []) ∷ [])
      ∷ (telling 0 [] (Some (1, 1002, 2000)) ∷ telling 0 [] None ∷ [])
      ∷ (telling 1 (codes "4 1001 1002 1002") None ∷ [])
      ∷ [];
}

-- The world ends so.
pub record RestartEnds : Type 0 where
  pub ends : ends_of 1 restart_world ≡ restart_ends
  pub recovery : restart_world.primaries 12 ≡ has_led (recovered.Done (stamp 1003) 2000 (node 0 ∷ []))
