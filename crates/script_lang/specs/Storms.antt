-- The script of a storm, which is drawn from a number.
use Rattle.std.specs.Prelude.{zero, suc, ℕ, ◌+◌, ◌%◌, ◌==◌, ◌&&◌, nat_lt, Bool, true, false, List, [], ◌∷◌, ◌++◌, length}
use Rattle.hd_base.specs.declared.numbers.BlockId.{BlockId}
use Rattle.hd_base.specs.declared.numbers.NodeId.{NodeId}
use Rattle.rand_pcg.specs.Lcg.{Lcg, started, increment_of}
use Rattle.rand_pcg.specs.Pcg.{pcg32, multiplier_64}
use Rattle.script_lang.specs.declared.instructions.Instruction.{Instruction}
use Rattle.script_lang.specs.declared.instructions.Instruction.TheVariants as line
use Rattle.script_lang.specs.declared.instructions.ScriptLine.{ScriptLine}
use Rattle.script_lang.specs.declared.storms.Storm.{Storm}

-- A script that is being made: the generator that draws what is to come, and the lines so far.
pub record Making : Type 0 where
  pub generator : Lcg
  pub lines : List ScriptLine

-- the script that a storm is making
abbrev pub making : Storm → Making
making s = record { generator = s.generator; lines = s.lines.items }

-- DRAWS AND LINES

-- the number below this one that the generator's next word draws
abbrev pub drawn : ℕ → Making → ℕ
drawn below m = (pcg32 m.generator).0 % below

-- the generator has given a word
abbrev pub advanced : Making → Making
advanced m = record m { generator = (pcg32 m.generator).1 }

-- a line more, with the next number
abbrev pub says : Instruction → Making → Making
says i m = record m { lines = m.lines ++ record { number = length m.lines + 1; instruction = i } ∷ [] }

-- BLOCKS AND NODES

-- the block with this number among a storm's blocks, from 0
abbrev pub storm_block : ℕ → BlockId
storm_block index = record { 0 = 1073741825 + index }

-- each round is of one block, in turn
abbrev pub block_of_round : ℕ → BlockId
block_of_round number = storm_block (number % 8)

-- the node with this number, counted in a circle of all
abbrev pub storm_node : ℕ → NodeId
storm_node number = record { 0 = number % 5 }

-- three nodes in that circle
abbrev pub three_from : ℕ → List NodeId
three_from first = storm_node first ∷ (storm_node (first + 1) ∷ (storm_node (first + 2) ∷ []))

abbrev pub all_nodes : List NodeId
all_nodes =
    record { 0 = 0 } ∷ (record { 0 = 1 } ∷ (record { 0 = 2 } ∷ (record { 0 = 3 } ∷ (record { 0 = 4 } ∷ []))))

-- WHAT A ROUND HAS

-- a block is created at three nodes
abbrev pub creating : BlockId → Making → Making
creating b m = says (line.Create b (three_from (drawn 5 m))) (advanced m)

-- a block is written and flushed, and up to 199 events are drawn
abbrev pub run_of : Making → Making
run_of m = says (line.Run (drawn 200 m)) (advanced m)

abbrev pub writing : BlockId → Making → Making
writing b m = run_of (says (line.Hflush b) (says (line.Fill b 65536) m))

-- a connection of a block's pipeline is cut; which one, and how much still arrives down and up, is drawn in this order
abbrev pub cut : BlockId → Making → Making
cut b m = says (line.Cut b (drawn 3 m) (drawn 4 (advanced m)) (drawn 4 (advanced (advanced m))))
    (advanced (advanced (advanced m)))

-- a write to come at a node fails, the first to the third
abbrev pub fault : Making → Making
fault m = says (line.Fault (record { 0 = drawn 5 m }) (1 + drawn 3 (advanced m))) (advanced (advanced m))

-- a node stops, and starts again
abbrev pub restarted : NodeId → Making → Making
restarted n m = says (line.Start n) (says (line.Run 50) (says (line.Stop n) m))

abbrev pub restart : Making → Making
restart m = restarted (record { 0 = drawn 5 m }) (advanced m)

-- a node recovers a block, with all nodes as members
abbrev pub recovery : BlockId → Making → Making
recovery b m = says (line.Recover b (record { 0 = drawn 5 m }) all_nodes) (advanced m)

-- WHICH ROUNDS HAVE WHAT

-- these lines, where the test holds
abbrev pub when : Bool → (Making → Making) → Making → Making
when true f m = f m
when false f m = m

-- every third of the first 120 rounds has a cut
abbrev pub cutting : ℕ → BlockId → Making → Making
cutting r b m = when (nat_lt r 120 && r % 3 == 0) (cut b) m

-- every tenth of them has a fault
abbrev pub failing : ℕ → Making → Making
failing r m = when (nat_lt r 120 && r % 10 == 5) fault m

-- every twentieth round has a restart
abbrev pub restarting : ℕ → Making → Making
restarting r m = when (r % 20 == 12) restart m

-- every 32nd round has a recovery
abbrev pub recovering : ℕ → BlockId → Making → Making
recovering r b m = when (r % 32 == 31) (recovery b) m

-- a round: its block is written, and then what it has of failures comes
unfoldable pub round : ℕ → Making → Making
round r m = recovering r (block_of_round r) (restarting r (failing r (cutting r (block_of_round r)
    (writing (block_of_round r) m))))

-- THE WHOLE

-- the head
abbrev pub begun : ℕ → Making
begun number = says (line.Seed number) (says (line.Nodes 5)
    (record { generator = started 64 multiplier_64 number (increment_of 64 54); lines = [] }))

-- the first blocks are created, so many
unfoldable pub creates : ℕ → Making → Making
creates zero m = m
creates (suc n) m = creating (storm_block n) (creates n m)

-- the first rounds, so many
unfoldable pub rounds : ℕ → Making → Making
rounds zero m = m
rounds (suc n) m = round n (rounds n m)

-- the first blocks are closed, so many
unfoldable pub closes : ℕ → Making → Making
closes zero m = m
closes (suc n) m = says (line.Close (storm_block n)) (closes n m)

-- The script of a storm.
unfoldable pub storm : ℕ → List ScriptLine
storm number = (closes 8 (rounds 128 (creates 8 (begun number)))).lines
