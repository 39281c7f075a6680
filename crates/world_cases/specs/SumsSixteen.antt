-- A block whose chunks have 16 bytes: its events, and what is there at the end.
use Rattle.std.specs.Prelude.{◌≡◌, true, false, List, [], ◌∷◌, Some, None}
use Rattle.hd_base.specs.declared.sum_rule.SumKind.TheVariants as kind
use Rattle.hd_base.specs.declared.states.ReplicaState.TheVariants as state
use Rattle.hd_base.specs.SumRules.{Rule}
use Rattle.writer_core.specs.declared.commands.Command.TheVariants as command
use Rattle.writer_core.specs.declared.actions.ClientAnswer.TheVariants as answer
use Rattle.world.specs.declared.events.Event.{Event}
use Rattle.world.specs.Worlds.{World, start}
use Rattle.world.specs.Events.{run}
use Rattle.world_cases.specs.Shown.{node, stamp, takes, acts, asks, down, ready, up, writing, piece, acking, answering, line, says, Ends, ends_of}

-- the rule of the sums
abbrev pub case_rule : Rule
case_rule = record { kind = kind.Crc32c; chunk = 16 }

abbrev pub sums_sixteen_events : List Event
sums_sixteen_events =
    takes 1 case_rule (command.Create (node 0 ∷ [])) ∷ asks 1 ∷ acts 1 ∷ down 0 ∷ up 0 ∷ acts 1
    ∷ takes 1 case_rule (command.Fill 40) ∷ takes 1 case_rule command.Hflush ∷ acts 1 ∷ down 0 ∷ ready 0 ∷ up 0
    ∷ acts 1 ∷ takes 1 case_rule (command.Fill 7) ∷ takes 1 case_rule command.Close ∷ acts 1 ∷ down 0 ∷ ready 0 ∷ up 0
    ∷ acts 1 ∷ down 0 ∷ ready 0 ∷ up 0 ∷ asks 1 ∷ acts 1 ∷ []

-- the world at the end
abbrev pub sums_sixteen_world : World
sums_sixteen_world = run (start 1) sums_sixteen_events

-- what is there at the end
abbrev pub sums_sixteen_ends : Ends
sums_sixteen_ends = record {
  replicas = line state.Finalized 1001 47 47 (Some 0x5cc3c078) ∷ [];
  said = says 0 (answer.Granted (stamp 1001)) ∷ says 2 (answer.Reached 40 (stamp 1001) (node 0 ∷ []))
      ∷ says 4 (answer.Reached 47 (stamp 1001) (node 0 ∷ [])) ∷ [];
  downs =
      (writing 1001 6 0 0 0 [] ∷ piece 0 40 0 false false ∷ piece 32 47 1 false false ∷ piece 47 47 2 true false ∷ [])
      ∷ [];
  ups =
      (answering 0 [] None [] ∷ acking 0 (0 ∷ []) ∷ acking 1 (0 ∷ []) ∷ acking 2 (0 ∷ []) ∷ [])
      ∷ [];
}

-- The world ends so.
pub record SumsSixteenEnds : Type 0 where
  pub ends : ends_of 1 sums_sixteen_world ≡ sums_sixteen_ends
