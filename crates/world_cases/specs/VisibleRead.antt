-- Reads beside a stream: its events, and what is there at the end.
use Rattle.std.specs.Prelude.{ℕ, ◌≡◌, true, false, List, [], ◌∷◌, codes, Option, Some, None, Ok, Err}
use Rattle.hd_base.specs.declared.sum_rule.SumKind.TheVariants as kind
use Rattle.hd_base.specs.declared.states.ReplicaState.TheVariants as state
use Rattle.hd_base.specs.Blocks.{block_pool}
use Rattle.hd_base.specs.SumRules.{default_rule}
use Rattle.chunk_sums.specs.Crc.{sum_of}
use Rattle.op_headers.specs.declared.ops.ReadOp.{ReadOp}
use Rattle.writer_core.specs.declared.commands.Command.TheVariants as command
use Rattle.writer_core.specs.declared.actions.ClientAnswer.TheVariants as answer
use Rattle.read_core.specs.declared.reading.ReadFault.TheVariants as fault
use Rattle.world.specs.declared.events.Event.{Event}
use Rattle.world.specs.Parts.{Reader, has_read}
use Rattle.world.specs.Worlds.{World, start}
use Rattle.world.specs.Events.{run}
use Rattle.world_cases.specs.Shown.{node, block, stamp, takes, acts, asks, begins_read, down, ready, up, writing, reading, piece, acking, answering, status, line, says, Ends, ends_of}

-- a read of so many bytes from an offset on
abbrev pub read_of : ℕ → ℕ → ReadOp
read_of offset bytes = record {
  block = record { pool = block_pool; block = block 1; stamp = stamp 1001; bytes = 0 };
  client = codes "reader";
  offset = offset;
  len = bytes;
}

-- the sum of what was read, and nothing of a read that ended otherwise
abbrev pub sum_read : Reader → Option ℕ
sum_read (has_read (Ok bytes)) = Some (sum_of kind.Crc32c bytes)
sum_read _ = None

abbrev pub visible_read_events : List Event
visible_read_events =
    takes 1 default_rule (command.Create (node 0 ∷ node 1 ∷ node 2 ∷ [])) ∷ asks 1 ∷ acts 1 ∷ down 0 ∷ down 1 ∷ down 2
    ∷ up 2 ∷ up 1 ∷ up 0 ∷ acts 1 ∷ takes 1 default_rule (command.Fill 3000) ∷ takes 1 default_rule command.Hflush
    ∷ acts 1 ∷ down 0 ∷ down 1 ∷ down 2 ∷ ready 2 ∷ up 2 ∷ up 1 ∷ up 0 ∷ acts 1
    ∷ takes 1 default_rule (command.Fill 500) ∷ begins_read 9 1 (read_of 100 2000)
    ∷ begins_read 10 2 (read_of 2990 20) ∷ begins_read 11 0 (read_of 0 3000) ∷ down 4 ∷ down 5 ∷ down 3 ∷ ready 5
    ∷ up 3 ∷ up 5 ∷ up 4 ∷ up 5 ∷ ready 5 ∷ ready 3 ∷ ready 3 ∷ up 3 ∷ up 3 ∷ up 5 ∷ down 3 ∷ down 5
    ∷ takes 1 default_rule command.Close ∷ acts 1 ∷ begins_read 14 2 (read_of 0 3500) ∷ down 0 ∷ down 6 ∷ down 1
    ∷ down 2 ∷ up 6 ∷ ready 2 ∷ up 2 ∷ up 1 ∷ up 0 ∷ acts 1 ∷ down 0 ∷ down 1 ∷ down 2 ∷ ready 2 ∷ up 2 ∷ up 1 ∷ up 0
    ∷ asks 1 ∷ acts 1 ∷ []

-- the world at the end
abbrev pub visible_read_world : World
visible_read_world = run (start 3) visible_read_events

-- what is there at the end
abbrev pub visible_read_ends : Ends
visible_read_ends = record {
  replicas = line state.Finalized 1001 3500 3500 (Some 0xd220d4ad)
      ∷ line state.Finalized 1001 3500 3500 (Some 0xd220d4ad) ∷ line state.Finalized 1001 3500 3500 (Some 0xd220d4ad)
      ∷ [];
  said = says 0 (answer.Granted (stamp 1001))
      ∷ says 2 (answer.Reached 3000 (stamp 1001) (node 0 ∷ node 1 ∷ node 2 ∷ []))
      ∷ says 4 (answer.Reached 3500 (stamp 1001) (node 0 ∷ node 1 ∷ node 2 ∷ [])) ∷ [];
  downs =
      (writing 1001 6 0 0 0 (9867 ∷ 9868 ∷ []) ∷ piece 0 3000 0 false false ∷ piece 2560 3500 1 false false
      ∷ piece 3500 3500 2 true false ∷ [])
      ∷ (writing 1001 6 0 0 0 (9868 ∷ []) ∷ piece 0 3000 0 false false ∷ piece 2560 3500 1 false false
      ∷ piece 3500 3500 2 true false ∷ [])
      ∷ (writing 1001 6 0 0 0 [] ∷ piece 0 3000 0 false false ∷ piece 2560 3500 1 false false
      ∷ piece 3500 3500 2 true false ∷ [])
      ∷ (reading 1001 100 2000 ∷ status 6 ∷ [])
      ∷ (reading 1001 2990 20 ∷ [])
      ∷ (reading 1001 0 3000 ∷ status 6 ∷ [])
      ∷ (reading 1001 0 3500 ∷ [])
      ∷ [];
  ups =
      (answering 0 [] None [] ∷ acking 0 (0 ∷ 0 ∷ 0 ∷ []) ∷ acking 1 (0 ∷ 0 ∷ 0 ∷ []) ∷ acking 2 (0 ∷ 0 ∷ 0 ∷ []) ∷ [])
      ∷ (answering 0 [] None [] ∷ acking 0 (0 ∷ 0 ∷ []) ∷ acking 1 (0 ∷ 0 ∷ []) ∷ acking 2 (0 ∷ 0 ∷ []) ∷ [])
      ∷ (answering 0 [] None [] ∷ acking 0 (0 ∷ []) ∷ acking 1 (0 ∷ []) ∷ acking 2 (0 ∷ []) ∷ [])
      ∷ (answering 0 [] (Some (2, 512, 0)) [] ∷ piece 0 2560 0 false false ∷ piece 2560 2560 1 true false ∷ [])
      ∷ (answering 1 [] None (codes "13 3000") ∷ [])
      ∷ (answering 0 [] (Some (2, 512, 0)) [] ∷ piece 0 3000 0 false false ∷ piece 3000 3000 1 true false ∷ [])
      ∷ (answering 1 [] None (codes "13 3000") ∷ [])
      ∷ [];
}

-- The world ends so.
pub record VisibleReadEnds : Type 0 where
  pub ends : ends_of 1 visible_read_world ≡ visible_read_ends
  pub read_9 : sum_read (visible_read_world.readers 9) ≡ Some 0xd352428b
  pub read_10 : visible_read_world.readers 10 ≡ has_read (Err (fault.Refused (codes "13 3000")))
  pub read_11 : sum_read (visible_read_world.readers 11) ≡ Some 0x8d0fe748
  pub read_14 : visible_read_world.readers 14 ≡ has_read (Err (fault.Refused (codes "13 3000")))
