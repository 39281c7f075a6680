-- What a play without failures comes to: each command is answered, and closed blocks are whole at all their members.
use Rattle.std.specs.Prelude.{ℕ, ◌≡◌, ◌==◌, if◌then◌else◌, Bool, true, false, List, [], ◌∷◌, ◌++◌, length, slice_get, Some}
use Rattle.hd_base.specs.Bytes.{IsBytes}
use Rattle.hd_base.specs.declared.numbers.BlockId.{BlockId}
use Rattle.hd_base.specs.declared.numbers.NodeId.{NodeId}
use Rattle.name_core.specs.Offices.{committed_in}
use Rattle.packet_stream.specs.Streams.{fill_bytes}
use Rattle.script_lang.specs.declared.instructions.Instruction.{Instruction}
use Rattle.script_lang.specs.declared.instructions.Instruction.TheVariants as says
use Rattle.script_lang.specs.declared.instructions.ScriptLine.{ScriptLine}
use Rattle.writer_core.specs.declared.actions.ClientAnswer.{ClientAnswer}
use Rattle.writer_core.specs.declared.actions.ClientAnswer.TheVariants as answer
use Rattle.writer_core.specs.declared.commands.Command.{Command}
use Rattle.writer_core.specs.declared.commands.Command.TheVariants as command
use Rattle.world.specs.Parts.{Said}
use Rattle.world.specs.Worlds.{World}
use Rattle.world.specs.Safe.{Has, Final}
use Rattle.play_model.specs.States.{PlayState, world_of}
use Rattle.play_model.specs.Lines.{Plays}
use Rattle.play_scripts.specs.Fitting.{ScriptFits}
use Rattle.play_scripts.specs.Failures.{HaveNoFailures}

-- THE COMMANDS OF A BLOCK

-- this command, where it is for this block
abbrev pub for_block : ℕ → BlockId → Command → List Command
for_block b at c = if at.0 == b then c ∷ [] else []

-- the command that a line gives the writer of a block, if it gives one
abbrev pub line_commands : ℕ → Instruction → List Command
line_commands b (says.Create at members) = for_block b at (command.Create members)
line_commands b (says.Append at members) = for_block b at (command.Append members)
line_commands b (says.Write at bytes) = for_block b at (command.Write bytes)
line_commands b (says.Fill at count) = for_block b at (command.Fill count)
line_commands b (says.Hflush at) = for_block b at command.Hflush
line_commands b (says.Hsync at) = for_block b at command.Hsync
line_commands b (says.Close at) = for_block b at command.Close
line_commands b other = []

-- the commands that lines give the writer of a block, in their order
abbrev pub commands_of : ℕ → List ScriptLine → List Command
commands_of b [] = []
commands_of b (l ∷ lines) = line_commands b l.instruction ++ commands_of b lines

-- Each append among these names the members of each create among them, in the same order.
abbrev pub KeepsMembers : List Command → Type 0
KeepsMembers commands = (i j : ℕ) (created appended : List NodeId) →
    slice_get commands i ≡ Some (command.Create created) → slice_get commands j ≡ Some (command.Append appended) →
    appended ≡ created

-- Each write among these writes bytes: numbers below 256.
abbrev pub WritesBytes : List Command → Type 0
WritesBytes commands = (i : ℕ) (bytes : List ℕ) → slice_get commands i ≡ Some (command.Write bytes) → IsBytes bytes

-- the last of them is a close
pub record EndsClosed (commands : List Command) : Type 0 where
  pub before : List Command
  pub are : commands ≡ before ++ command.Close ∷ []

-- the bytes of a block once a command was taken, of those before it
abbrev pub bytes_with : BlockId → List ℕ → Command → List ℕ
bytes_with block v (command.Write bytes) = v ++ bytes
bytes_with block v (command.Fill count) = v ++ fill_bytes block (length v) count
bytes_with block v other = v

-- the bytes once these were taken
abbrev pub bytes_after : BlockId → List ℕ → List Command → List ℕ
bytes_after block v [] = v
bytes_after block v (c ∷ commands) = bytes_after block (bytes_with block v c) commands

-- ANSWERS

abbrev pub is_granted : ClientAnswer → Bool
is_granted (answer.Granted stamp) = true
is_granted other = false

abbrev pub is_reached : ClientAnswer → Bool
is_reached (answer.Reached bytes stamp members) = true
is_reached other = false

-- a command that is answered; those that write bytes aren't
abbrev pub is_answered : Command → Bool
is_answered (command.Write bytes) = false
is_answered (command.Fill count) = false
is_answered other = true

-- a command is answered well: a create and an append Granted, an hflush, an hsync and a close Reached
abbrev pub is_done : Command → ClientAnswer → Bool
is_done (command.Create members) a = is_granted a
is_done (command.Append members) a = is_granted a
is_done (command.Write bytes) a = false
is_done (command.Fill count) a = false
is_done other a = is_reached a

-- the command with this number among those of its block was answered well
pub record IsDone (said : List Said) (ordinal : ℕ) (c : Command) : Type 0 where
  pub answer : ClientAnswer
  pub is : Has said (record { ordinal = ordinal; answer = answer })
  pub good : is_done c answer ≡ true

-- an answer is the good one to the command with its number
pub record IsGood (commands : List Command) (s : Said) : Type 0 where
  pub command : Command
  pub is : slice_get commands s.ordinal ≡ Some command
  pub good : is_done command s.answer ≡ true

-- Each command of a block that is answered was answered well, and nothing else was answered.
pub record AllDone (commands : List Command) (said : List Said) : Type 0 where
  pub each : (k : ℕ) (c : Command) → slice_get commands k ≡ Some c → is_answered c ≡ true → IsDone said k c
  pub only : (s : Said) → Has said s → IsGood commands s

-- REPLICAS

-- A node has a FINALIZED replica of a block, under the stamp that the office has committed, with just these bytes.
pub record IsWhole (w : World) (block : BlockId) (node : NodeId) (bytes : List ℕ) : Type 0 where
  pub final : Final (w.replicas node.0 block.0) (committed_in w.office block).0
  pub bytes_are : (w.replicas node.0 block.0).bytes ≡ bytes

-- Where the last command of a block is a close, each member of its create has all that was written to the block.
abbrev pub ClosesWhole : World → BlockId → List Command → Type 0
ClosesWhole w block commands = (i : ℕ) (members : List NodeId) (m : NodeId) → EndsClosed commands →
    slice_get commands i ≡ Some (command.Create members) → Has members m
    → IsWhole w block m (bytes_after block [] commands)

-- PLAYS

-- so it is of each block
pub record IsComplete (script : List ScriptLine) (w : World) : Type 0 where
  pub answers : (b : ℕ) → AllDone (commands_of b script) (w.said b)
  pub whole : (b : BlockId) → ClosesWhole w b (commands_of b.0 script)

-- A play without failures completes: its script fits, has no cut, fault, stop, start or recovery, and each append names
-- the members of its block's create in the same order.
abbrev pub PlaysComplete : Type 0
PlaysComplete = (shelves : ℕ) (script : List ScriptLine) (end : PlayState) → ScriptFits shelves script →
    HaveNoFailures script → ((b : ℕ) → KeepsMembers (commands_of b script)) → Plays script end
    → IsComplete script (world_of end)
